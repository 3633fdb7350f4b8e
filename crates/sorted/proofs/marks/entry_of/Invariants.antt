-- `sorted::marks::entry_of` meets its contract.
use Prim.Native.Nat.{ℕ, ◌*◌, ◌<◌}
use mathlib.Core.Logic.{◌≢◌}
use lib.ListN.{get_or}
use Rattle.sorted.proofs.marks.entry_of.Given as goal

abbrev pub invariant-loop-i : goal.invariant-loop-i
invariant-loop-i g l = (i : ℕ) → i < l.i → get_or l.list (g.row.STRIDE * i) 0 ≢ l.cell
