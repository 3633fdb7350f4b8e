-- `skid_words::busy_words` meets its contract.
use mathlib.Core.Path.{refl}
use Rattle.skid_rules.specs.Words.{busy_words}
use Rattle.skid_words.proofs.busy_words.Goals as goal

pub returns : goal.returns
unfolding busy_words
returns c = refl
