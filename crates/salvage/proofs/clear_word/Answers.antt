-- `salvage::clear_word` meets its contract.
use native.Mathlib.Omega.{arith}
use Prim.Native.Nat.{◌+◌}
use lib.ListN.{set, length-set}
use Rattle.salvage.specs.Laws.{cleared_same, cleared_new, length_change_new}
use borrow.Author.Tests.{eq-eqb, ne_eqb}
use Rattle.salvage.proofs.clear_word.Goals as goal

pub returns-then-old-eq0 : goal.returns-then-old-eq0
returns-then-old-eq0 c = let a = c.args in cleared_same a.table.now a.report.now a.place a.old a.at c.requires.1 (eq-eqb _ _ c.if-old-eq0.true)

pub bounds-report-at : goal.bounds-report-at
bounds-report-at c = let a = c.args in omega (arith, length_change_new a.place a.old 0 (ne_eqb _ _ c.if-old-eq0.false), c.requires.2)

pub bounds-report-at-2 : goal.bounds-report-at-2
bounds-report-at-2 c = let a = c.args in omega (arith, length_change_new a.place a.old 0 (ne_eqb _ _ c.if-old-eq0.false), c.requires.2, length-set a.report.now a.at a.place)

pub bounds-report-at-3 : goal.bounds-report-at-3
bounds-report-at-3 c = let a = c.args in omega (arith, length_change_new a.place a.old 0 (ne_eqb _ _ c.if-old-eq0.false), c.requires.2, length-set a.report.now a.at a.place, length-set (set a.report.now a.at a.place) (a.at + 1) a.old)

pub returns : goal.returns
returns c = let a = c.args in cleared_new a.table.now a.report.now a.place a.old a.at (ne_eqb _ _ c.if-old-eq0.false)
