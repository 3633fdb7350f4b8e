-- `salvage::count_zeros` meets its contract.
use Prim.Native.Nat.{◌+◌, ◌≤◌}
use mathlib.Core.Path.{◌≡◌}
use lib.ListN.{length}
use Rattle.salvage.specs.Laws.{zeros_of, zeros_left}
use Rattle.salvage.proofs.count_zeros.Given as goal

abbrev pub invariant-loop-word : goal.invariant-loop-word
invariant-loop-word l = (l.word-index ≤ length l.table) × (l.count ≤ l.word-index) × (l.count + zeros_left l.table l.word-index ≡ zeros_of l.table)
