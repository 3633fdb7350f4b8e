-- `skid_words::script_reply_words` meets its contract.
use Rattle.skid_rules.specs.Words.{script_reply_words}
use Rattle.skid_words.proofs.script_reply_words.Goals as goal

pub returns : goal.returns
unfolding script_reply_words
returns c = rw (← c.words.ensures)
