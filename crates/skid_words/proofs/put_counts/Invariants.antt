-- `skid_words::put_counts` meets its contract. The loop's invariant: what storing the counts from here on leaves is what storing all of them leaves.
use Prim.Native.Nat.{ℕ, ◌+◌, ◌≤◌, ◌-◌}
use mathlib.Core.Path.{◌≡◌, sym, ap, ◌∙◌}
use native.Mathlib.Omega.{arith}
use lib.Seq.{sets}
use Rattle.skid_rules.specs.Words.{each_of}
use Rattle.skid_rules.specs.Laws.{put_at, put_end}
use Rattle.skid_words.proofs.put_counts.Given as goal

abbrev pub invariant-loop-i : goal.invariant-loop-i
invariant-loop-i l = (l.i ≤ 16) × (sets l.words (l.at + l.i) (each_of (16 - l.i) l.i l.counts) ≡ sets l.initial.words l.at (each_of 16 0 l.counts))
