-- `multilock::checks::bindings_fault` meets its contract.
use Prim.Native.Nat.{◌/◌}
use lib.ListN.{length}
use Rattle.multilock.specs.Fine.{bindings_at, bindings_end}
use Rattle.std.proofs.Common.{rules}
use Rattle.multilock.proofs.checks.bindings_fault.Goals as goal

pub loop-i-preserved : goal.loop-i-preserved
loop-i-preserved c =
    let l = c.loop-i in
    let a = c.args in
    (search rules, rw (← l.invariant.1, bindings_at (length a.keys.now / 2) l.i a.registry.now a.keys.now (search rules), ← c.binding_fault.ensures, c.in_ok-binding_fault.was))

pub returns : goal.returns
returns c =
    let l = c.loop-i in
    let a = c.args in
    rw (← l.invariant.1, bindings_end (length a.keys.now / 2) l.i a.registry.now a.keys.now (search rules))

pub returns-in_err-binding_fault : goal.returns-in_err-binding_fault
returns-in_err-binding_fault c =
    let l = c.loop-i in
    let a = c.args in
    rw (← l.invariant.1, bindings_at (length a.keys.now / 2) l.i a.registry.now a.keys.now (search rules), ← c.binding_fault.ensures, c.in_err-binding_fault.was) (search rules)
