-- `salvage::list_cells` meets its contract.
use native.Mathlib.Omega.{arith}
use mathlib.Core.Path.{sym, ap, ◌∙◌}
use mathlib.Core.List.{List}
use lib.ListN.{length}
use lib.Seq.{sets}
use Rattle.salvage.specs.Laws.{used_go, used_end, used_fits}
use Rattle.std.proofs.Common.{rules}
use Rattle.salvage.proofs.list_cells.Goals as goal

pub list_cell-left-requires : goal.list_cell-left-requires
list_cell-left-requires c =
    let l = c.loop-cell in
    let a = c.args in
    (search rules, used_fits a.table.now a.cells l.cell l.left (length l.list) (search rules) (omega (arith, l.invariant.0, l.invariant.2, c.requires.1)))

pub loop-cell-preserved : goal.loop-cell-preserved
loop-cell-preserved c =
    let l = c.loop-cell in
    let a = c.args in
    let go = used_go a.table.now a.cells l.cell (search rules) l.list l.left _ c.list_cell-left.ensures in
    (search rules, search rules, go.0 ∙ l.invariant.2, go.1 ∙ l.invariant.3)

pub returns : goal.returns
returns c =
    let l = c.loop-cell in
    let a = c.args in
    ap (λ (x : List _). sets l.list l.left x) (sym (used_end a.table.now a.cells l.cell (search rules))) ∙ l.invariant.3
