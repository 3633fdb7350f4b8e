-- `skid::skid_release_all` meets its contract.
use Rattle.skid.proofs.skid_release_all.Goals as goal

pub returns : goal.returns
returns c = rw (← c.head_of-head.ensures, ← c.release_all-r.ensures, ← c.script_reply_words.ensures)
