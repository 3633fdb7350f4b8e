-- `wave_read::fill` meets its contract.
use Prim.Native.Nat.{◌≤◌, ◌-◌}
use mathlib.Core.Path.{◌≡◌}
use lib.ListN.{length, drop}
use Rattle.wave_rules.specs.declared.Stage.TheVariants.{Waiting}
use Rattle.wave_rules.specs.Lines.{split_of}
use Rattle.wave_rules.specs.Dump.{no_bits}
use Rattle.wave_rules.specs.Reader.{script_words_of}
use Rattle.print.specs.Print.{put_of}
use Rattle.wave_read.specs.Laws.{Right}
use Rattle.wave_read.proofs.fill.Given as goal

abbrev pub invariant-loop-at : goal.invariant-loop-at
invariant-loop-at l = (l.at ≤ length l.text) × (length l.out ≡ length l.initial.out) × Right l.text l.at l.n l.last l.bits × (put_of l.out l.used (script_words_of (Waiting l.n l.last) l.bits (split_of (drop l.at l.text))) ≡ put_of l.initial.out 0 (script_words_of (Waiting l.n 0) no_bits (split_of (drop l.from l.text))))

abbrev pub decreases-loop-at : goal.decreases-loop-at
decreases-loop-at l = length l.text - l.at
