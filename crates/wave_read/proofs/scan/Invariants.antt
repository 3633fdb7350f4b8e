-- `wave_read::scan` meets its contract.
use Prim.Native.Nat.{◌≤◌, ◌-◌, ◌+◌}
use mathlib.Core.Path.{◌≡◌}
use lib.ListN.{length, drop}
use Rattle.wave_rules.specs.declared.Stage.TheVariants.{Waiting}
use Rattle.wave_rules.specs.Lines.{split_of}
use Rattle.wave_rules.specs.Dump.{no_bits}
use Rattle.wave_rules.specs.Reader.{verdict_of}
use Rattle.wave_read.proofs.scan.Given as goal

abbrev pub invariant-loop-at : goal.invariant-loop-at
invariant-loop-at l = (l.k ≤ l.at + 1) × (l.at ≤ length l.text) × (verdict_of l.k (Waiting l.n l.last) l.bits (split_of (drop l.at l.text)) ≡ verdict_of l.first (Waiting l.n 0) no_bits (split_of (drop l.from l.text)))

abbrev pub decreases-loop-at : goal.decreases-loop-at
decreases-loop-at l = length l.text - l.at
