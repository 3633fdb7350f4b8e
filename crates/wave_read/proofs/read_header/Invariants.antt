-- `wave_read::read_header` meets its contract.
use Prim.Native.Nat.{◌≤◌, ◌-◌, ◌+◌}
use mathlib.Core.Path.{◌≡◌}
use lib.ListN.{length, drop}
use Rattle.wave_rules.specs.declared.Stage.TheVariants.{Opening}
use Rattle.wave_rules.specs.Lines.{split_of}
use Rattle.wave_rules.specs.Dump.{no_bits}
use Rattle.wave_rules.specs.Reader.{verdict_of, script_words_of}
use Rattle.wave_rules.specs.Stages.{Reach}
use Rattle.wave_line.specs.Stages.{Early}
use Rattle.wave_read.proofs.read_header.Given as goal

abbrev pub invariant-loop-at : goal.invariant-loop-at
invariant-loop-at l = Reach l.stage × Early l.stage × (l.k ≤ l.at + 1) × (l.at ≤ length l.text) × (verdict_of l.k l.stage no_bits (split_of (drop l.at l.text)) ≡ verdict_of 1 Opening no_bits (split_of l.text)) × (script_words_of l.stage no_bits (split_of (drop l.at l.text)) ≡ script_words_of Opening no_bits (split_of l.text))

abbrev pub decreases-loop-at : goal.decreases-loop-at
decreases-loop-at l = length l.text - l.at
