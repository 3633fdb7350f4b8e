-- `salvage::count_bytes` meets its contract.
use Prim.Native.Nat.{◌+◌, ◌≤◌}
use mathlib.Core.Path.{◌≡◌}
use lib.ListN.{length}
use Rattle.salvage.specs.Laws.{bytes_left, count_bytes_of}
use Rattle.salvage.proofs.count_bytes.Given as goal

abbrev pub invariant-loop-byte : goal.invariant-loop-byte
invariant-loop-byte l = (l.byte-index ≤ length l.health) × (l.count ≤ l.byte-index) × (l.count + bytes_left l.health l.byte-index ≡ count_bytes_of l.health)
