-- `lease::live_fault` meets its contract.
use Rattle.laws.specs.Checks.{not_live_at, not_live_end}
use Rattle.std.proofs.Common.{rules}
use Rattle.lease.proofs.live_fault.Goals as goal

pub returns-then-is_stale : goal.returns-then-is_stale
returns-then-is_stale c = let l = c.loop-i in let a = c.args in
    rw (← l.invariant, not_live_at a.head a.table.now a.held.now l.i _ c.lease_in-lease.ensures (search rules), ← c.is_stale.ensures, c.if-is_stale.true)

pub loop-i-preserved : goal.loop-i-preserved
loop-i-preserved c = let l = c.loop-i in let a = c.args in
    rw (← l.invariant, not_live_at a.head a.table.now a.held.now l.i _ c.lease_in-lease.ensures (search rules), ← c.is_stale.ensures, c.if-is_stale.false, ← c.is_live.ensures, c.if-not-is_live.false)

pub returns-then-not-is_live : goal.returns-then-not-is_live
returns-then-not-is_live c = let l = c.loop-i in let a = c.args in
    rw (← l.invariant, not_live_at a.head a.table.now a.held.now l.i _ c.lease_in-lease.ensures (search rules), ← c.is_stale.ensures, c.if-is_stale.false, ← c.is_live.ensures, c.if-not-is_live.true)

pub returns : goal.returns
returns c = let l = c.loop-i in let a = c.args in
    rw (← l.invariant, not_live_end a.head a.table.now a.held.now l.i (search rules))
