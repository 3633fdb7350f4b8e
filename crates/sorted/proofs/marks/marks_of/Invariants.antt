-- `sorted::marks::marks_of` meets its contract.
use mathlib.Core.Path.{◌≡◌}
use lib.ListN.{length}
use Rattle.sorted.specs.Marks.{Marked}
use Rattle.sorted.proofs.marks.marks_of.Given as goal

abbrev pub invariant-loop-i : goal.invariant-loop-i
invariant-loop-i g l = (length l.marks ≡ 256) × Marked g.row.STRIDE l.marks l.list l.i
