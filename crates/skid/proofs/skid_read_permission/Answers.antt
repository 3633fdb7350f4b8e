-- `skid::skid_read_permission` meets its contract.
use Rattle.skid.proofs.skid_read_permission.Goals as goal

pub returns : goal.returns
returns c = rw (← c.head_of-head.ensures, ← c.lease_of-lease.ensures, ← c.read_permission-r.ensures, ← c.reply_words.ensures)
