-- `skid::skid_try_acquire` meets its contract.
use Rattle.skid.proofs.skid_try_acquire.Goals as goal

pub returns : goal.returns
returns c = rw (← c.head_of-head.ensures, ← c.try_acquire-r.ensures, ← c.reply_words.ensures)
