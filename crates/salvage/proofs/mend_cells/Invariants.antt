-- `salvage::mend_cells` meets its contract.
use Prim.Native.Nat.{◌≤◌}
use mathlib.Core.Path.{◌≡◌}
use lib.ListN.{length}
use Rattle.salvage.specs.Laws.{cells_from, mended_cells}
use Rattle.salvage.proofs.mend_cells.Given as goal

abbrev pub invariant-loop-cell : goal.invariant-loop-cell
invariant-loop-cell l = (length l.table ≡ length l.initial.table) × (length l.report ≡ length l.initial.report) × (length l.list ≡ length l.initial.list) × (l.cell ≤ l.cells) × (cells_from l.next l.cells l.table l.cell l.report l.ends.at l.list l.ends.left ≡ mended_cells l.next l.cells l.initial.table l.initial.report l.initial.list)
