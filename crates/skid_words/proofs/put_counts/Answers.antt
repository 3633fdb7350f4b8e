-- `skid_words::put_counts` meets its contract. The loop's invariant: what storing the counts from here on leaves is what storing all of them leaves.
use Prim.Native.Nat.{◌-◌}
use mathlib.Core.Path.{sym, ◌∙◌}
use Rattle.skid_rules.specs.Laws.{put_at, put_end}
use Rattle.std.proofs.Common.{rules}
use Rattle.skid_words.proofs.put_counts.Goals as goal

pub loop-i-preserved : goal.loop-i-preserved
loop-i-preserved c = let l = c.loop-i in let a = c.args in
    (search rules, sym (put_at a.at l.i a.counts.now l.words (search rules)) ∙ l.invariant.1)

pub returns : goal.returns
returns c = let l = c.loop-i in let a = c.args in sym (put_end a.at l.i a.counts.now l.words (search rules)) ∙ l.invariant.1
