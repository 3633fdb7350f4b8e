-- `skid::skid_foreign_release_between_attempts` meets its contract.
use Rattle.skid.proofs.skid_foreign_release_between_attempts.Goals as goal

pub returns : goal.returns
returns c = rw (← c.head_of-head.ensures, ← c.lease_of-lease.ensures, ← c.foreign_release_between_attempts-r.ensures, ← c.reply_words.ensures)
