-- `sorted::check::first_key_fault` meets its contract.
use Rattle.model.specs.Checks.{count_in}
use Rattle.sorted.specs.Order.{first_key_at, first_key_end}
use Rattle.std.proofs.Common.{rules}
use Rattle.sorted.proofs.check.first_key_fault.Goals as goal

pub returns : goal.returns
returns c =
    let l = c.loop-p in
    let a = c.args in
    rw (← l.invariant.1, first_key_end (count_in a.keys.now) l.p a.head a.registry.now a.keys.now c.loop-p-test.false)

pub returns-in-Err : goal.returns-in-Err
returns-in-Err c =
    let l = c.loop-p in
    let a = c.args in
    rw (← l.invariant.1, first_key_at (count_in a.keys.now) l.p a.head a.registry.now a.keys.now c.loop-p-test.true, ← c.pair_fault.ensures, c.in-Err.is)

pub loop-p-preserved : goal.loop-p-preserved
loop-p-preserved c =
    let l = c.loop-p in
    let a = c.args in
    (search rules, rw (← l.invariant.1, first_key_at (count_in a.keys.now) l.p a.head a.registry.now a.keys.now c.loop-p-test.true, ← c.pair_fault.ensures, c.in_default.is))
