-- `foreign::guard::note_marks` meets its contract.
use Prim.Native.Nat.{◌+◌, ◌*◌, ◌-◌, ◌≤◌}
use mathlib.Core.Path.{◌≡◌, subst}
use lib.ListN.{length, length-set}
use native.Mathlib.Omega.{arith}
use Rattle.foreign.specs.Marks.{Noted, note_one, marks_start, noting_few}
use Rattle.foreign.proofs.guard.note_marks.Given as goal

abbrev pub invariant-loop-i : goal.invariant-loop-i
invariant-loop-i l = (l.i ≤ 255) × ((3 * l.i ≤ length l.held) × ((length l.marks ≡ 256) × Noted l.marks l.held l.i))
