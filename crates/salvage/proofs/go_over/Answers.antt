-- `salvage::go_over` meets its contract.
use Rattle.model.specs.Salvage.{go_over_of, is_report_full}
use Rattle.laws.specs.Salvage.{entries_room}
use Rattle.salvage.specs.Laws.{tally_changes, tally_left}
use borrow.Author.Tests.{le-ltb, lt-ltb}
use Rattle.std.proofs.Common.{inl, inr}
use Rattle.salvage.proofs.go_over.Goals as goal

pub returns-then-report-changes : goal.returns-then-report-changes
unfolding go_over_of is_report_full
returns-then-report-changes c =
    let n = tally_changes _ _ _ _ c.count_all-changes.ensures in
    elim c.then-report-changes.either [
      | inl e ↦ rw (← n, lt-ltb _ _ e, ← c.conclude.ensures)
      | inr e ↦ rw (← n, le-ltb _ _ e.0, ← tally_left _ _ _ _ c.count_all-changes.ensures, lt-ltb _ _ e.1, ← c.conclude.ensures)
    ]

pub mend-requires : goal.mend-requires
mend-requires c =
    let a = c.args in
    let p = c.requires in
    let n = tally_changes _ _ _ _ c.count_all-changes.ensures in
    let k = tally_left _ _ _ _ c.count_all-changes.ensures in
    (p.0, p.1, entries_room a.head a.table.now a.health.now _ _ n c.if-report-changes.false, rw (← k) c.if-unconfirmed-left.false, n, k)

pub returns : goal.returns
unfolding go_over_of is_report_full
returns c = rw (← tally_changes _ _ _ _ c.count_all-changes.ensures, le-ltb _ _ c.if-report-changes.false, ← tally_left _ _ _ _ c.count_all-changes.ensures, le-ltb _ _ c.if-unconfirmed-left.false, ← c.mend.ensures, ← c.conclude-2.ensures)
