-- `salvage::list_cells` meets its contract.
use Prim.Native.Nat.{◌+◌, ◌≤◌}
use mathlib.Core.Path.{◌≡◌}
use lib.ListN.{length}
use lib.Seq.{sets}
use Rattle.salvage.specs.Laws.{used_from, used_left}
use Rattle.salvage.proofs.list_cells.Given as goal

abbrev pub invariant-loop-cell : goal.invariant-loop-cell
invariant-loop-cell l = (length l.list ≡ length l.initial.list) × (l.cell ≤ l.cells) × (l.left + length (used_left l.table l.cells l.cell) ≡ length (used_from l.cells 0 l.table)) × (sets l.list l.left (used_left l.table l.cells l.cell) ≡ sets l.initial.list 0 (used_from l.cells 0 l.table))
