-- `skid::skid_try_lock` meets its contract.
use Rattle.skid.proofs.skid_try_lock.Goals as goal

pub returns : goal.returns
returns c = rw (← c.head_of-head.ensures, ← c.try_lock-r.ensures, ← c.script_reply_words.ensures)
