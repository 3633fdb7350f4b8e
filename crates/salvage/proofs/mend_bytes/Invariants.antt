-- `salvage::mend_bytes` meets its contract.
use Prim.Native.Nat.{◌≤◌}
use mathlib.Core.Path.{◌≡◌}
use lib.ListN.{length}
use Rattle.salvage.specs.Laws.{bytes_from, mended_bytes}
use Rattle.salvage.proofs.mend_bytes.Given as goal

abbrev pub invariant-loop-i : goal.invariant-loop-i
invariant-loop-i l = (length l.health ≡ length l.initial.health) × (length l.report ≡ length l.initial.report) × (l.i ≤ length l.health) × (bytes_from l.health l.i l.place l.report l.end ≡ mended_bytes l.initial.health l.place l.initial.report l.at)
