-- `salvage::count_held` meets its contract.
use Prim.Native.Nat.{◌+◌, ◌≤◌}
use mathlib.Core.Path.{◌≡◌}
use lib.ListN.{length}
use Rattle.salvage.specs.Laws.{held_left, count_held_of}
use Rattle.salvage.proofs.count_held.Given as goal

abbrev pub invariant-loop-cell : goal.invariant-loop-cell
invariant-loop-cell l = (l.cell ≤ l.cells) × (l.count ≤ l.cell) × (l.count + length (held_left l.next l.table l.cells l.cell) ≡ count_held_of l.next l.cells l.table)
