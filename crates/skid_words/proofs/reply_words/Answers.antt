-- `skid_words::reply_words` meets its contract.
use Rattle.skid_rules.specs.Words.{reply_words}
use Rattle.skid_words.proofs.reply_words.Goals as goal

pub returns : goal.returns
unfolding reply_words
returns c = rw (← c.words.ensures)
