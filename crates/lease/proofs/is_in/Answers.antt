-- `lease::is_in` meets its contract.
use Rattle.laws.specs.Checks.{is_in_at, is_in_end}
use Rattle.std.proofs.Common.{rules}
use Rattle.lease.proofs.is_in.Goals as goal

pub returns-then-same_hold : goal.returns-then-same_hold
returns-then-same_hold c = let l = c.loop-i in let a = c.args in
    rw (← l.invariant, is_in_at a.hold a.list.now l.i (search rules), ← c.same_hold.ensures, c.if-same_hold.true)

pub loop-i-preserved : goal.loop-i-preserved
loop-i-preserved c = let l = c.loop-i in let a = c.args in
    rw (← l.invariant, is_in_at a.hold a.list.now l.i (search rules), ← c.same_hold.ensures, c.if-same_hold.false)

pub returns : goal.returns
returns c = let l = c.loop-i in let a = c.args in
    rw (← l.invariant, is_in_end a.hold a.list.now l.i (search rules))
