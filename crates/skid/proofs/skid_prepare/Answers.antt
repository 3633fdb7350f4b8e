-- `skid::skid_prepare` meets its contract.
use Rattle.skid.proofs.skid_prepare.Goals as goal

pub returns : goal.returns
returns c = rw (← c.prepare-r.ensures, ← c.reply_words.ensures)
