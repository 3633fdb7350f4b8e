-- `skid_words::crew_words` meets its contract. Twelve stores in a run of zeros, and then two loops.
use Prim.Native.Nat.{ℕ}
use mathlib.Core.Path.{ap, ◌∙◌}
use mathlib.Core.List.{List}
use lib.Seq.{sets}
use Rattle.skid_rules.specs.Words.{each_of}
use Rattle.skid_rules.specs.Laws.{crew_laid}
use Rattle.skid_words.proofs.crew_words.Goals as goal

pub returns : goal.returns
returns c =
    let r = c.args.r in
    c.put_counts-2.ensures
    ∙ ap (λ (ws : List ℕ). sets ws 33 (each_of 16 0 r.released)) c.put_counts.ensures
    ∙ crew_laid r c.answer_words-said.result c.answer_words-said.ensures
