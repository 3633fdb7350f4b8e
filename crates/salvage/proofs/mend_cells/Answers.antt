-- `salvage::mend_cells` meets its contract.
use native.Mathlib.Omega.{arith}
use mathlib.Core.Path.{◌∙◌}
use lib.ListN.{length}
use Rattle.salvage.specs.Laws.{cells_start, cells_turn, cells_end, cells_fit}
use Rattle.std.proofs.Common.{rules}
use Rattle.salvage.proofs.mend_cells.Goals as goal

pub loop-cell-init : goal.loop-cell-init
loop-cell-init c = let a = c.args in (search rules, search rules, search rules, search rules, cells_start a.next a.cells a.table.now a.report.now a.list.now)

pub mend_cell-ends-requires : goal.mend_cell-ends-requires
mend_cell-ends-requires c =
    let l = c.loop-cell in
    let a = c.args in
    let p = c.requires in
    let room = cells_fit a.next a.cells l.table l.cell l.report l.ends.at l.list l.ends.left _ _ _ (length l.report) (length l.list) (search rules) (search rules) l.invariant.4 (omega (arith, p.2, l.invariant.1)) (omega (arith, p.3, l.invariant.2)) in
    (search rules, search rules, room.0, room.1)

pub loop-cell-preserved : goal.loop-cell-preserved
loop-cell-preserved c =
    let l = c.loop-cell in
    let a = c.args in
    (search rules, search rules, search rules, search rules, cells_turn a.next a.cells l.table l.cell l.report l.ends.at l.list l.ends.left (search rules) (search rules) _ c.mend_cell-ends.ensures ∙ l.invariant.4)

pub returns : goal.returns
returns c =
    let l = c.loop-cell in
    let a = c.args in
    cells_end a.next a.cells l.table l.cell l.report l.ends.at l.list l.ends.left (search rules) (search rules) ∙ l.invariant.4
