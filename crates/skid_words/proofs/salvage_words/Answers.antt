-- `skid_words::salvage_words` meets its contract. The last three words are read from those of the answer.
use Rattle.skid_rules.specs.Laws.{salvage_laid}
use Rattle.skid_words.proofs.salvage_words.Goals as goal

pub returns : goal.returns
returns c = let a = c.args in salvage_laid a.r c.salvaged_words-said.result c.salvaged_words-said.ensures
