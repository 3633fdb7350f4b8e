-- `release::marked_fault` meets its contract.
use mathlib.Core.Path.{refl}
use lib.ListN.{length-set, replicate}
use Rattle.std.proofs.lemmas.List.{length-replicate}
use Rattle.model.specs.Arena.{holds_of}
use Rattle.release.specs.Release.{releasable_at, releasable_end}
use Rattle.release.specs.Repeats.{spares_none, spares_next}
use Rattle.std.proofs.Common.{rules}
use Rattle.release.proofs.marked_fault.Goals as goal

pub loop-i-init : goal.loop-i-init
unfolding holds_of
loop-i-init g c = (search rules, (refl, (length-replicate g.row.MARKS 0, spares_none g.row.MARKS (replicate g.row.MARKS 0))))

pub returns-then-is_stale : goal.returns-then-is_stale
returns-then-is_stale g c =
    let l = c.loop-i in
    let a = c.args in
    rw (← l.invariant.1.0, releasable_at a.head a.table.now a.leases.now l.i _ c.lease_in-given.ensures (search rules), ← c.is_stale.ensures, c.if-is_stale.true)

pub returns-then-not-is_live : goal.returns-then-not-is_live
returns-then-not-is_live g c =
    let l = c.loop-i in
    let a = c.args in
    rw (← l.invariant.1.0, releasable_at a.head a.table.now a.leases.now l.i _ c.lease_in-given.ensures (search rules), ← c.is_stale.ensures, c.if-is_stale.false, ← c.is_live.ensures, c.if-not-is_live.true)

pub returns-then-is_repeated : goal.returns-then-is_repeated
returns-then-is_repeated g c =
    let l = c.loop-i in
    let a = c.args in
    rw (← l.invariant.1.0, releasable_at a.head a.table.now a.leases.now l.i _ c.lease_in-given.ensures (search rules), ← c.is_stale.ensures, c.if-is_stale.false, ← c.is_live.ensures, c.if-not-is_live.false, ← c.is_repeated.ensures, c.if-is_repeated.true)

pub loop-i-preserved : goal.loop-i-preserved
loop-i-preserved g c =
    let l = c.loop-i in
    let a = c.args in
    let e = c.lease_in-given.ensures in (
      search rules,
      (
        rw (← l.invariant.1.0, releasable_at a.head a.table.now a.leases.now l.i _ c.lease_in-given.ensures (search rules), ← c.is_stale.ensures, c.if-is_stale.false, ← c.is_live.ensures, c.if-not-is_live.false, ← c.is_repeated.ensures, c.if-is_repeated.false),
        (simp length-set l.invariant.1.1.0, spares_next g.row.MARKS l.marks a.leases.now l.i _ e (search rules) c.requires.0 l.invariant.1.1.0 l.invariant.1.1.1),
      ),
    )

pub returns : goal.returns
returns g c =
    let l = c.loop-i in
    let a = c.args in
    rw (← l.invariant.1.0, releasable_end a.head a.table.now a.leases.now l.i (search rules))
