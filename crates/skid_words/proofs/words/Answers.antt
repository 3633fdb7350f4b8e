-- `skid_words::words` meets its contract. The last six words are read from those of the answer.
use Rattle.skid_rules.specs.Laws.{laid}
use Rattle.skid_words.proofs.words.Goals as goal

pub returns : goal.returns
returns c = let a = c.args in laid a.head a.place a.counts a.answer c.said_words-said.result c.said_words-said.ensures
