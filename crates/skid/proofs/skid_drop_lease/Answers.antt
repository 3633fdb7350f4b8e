-- `skid::skid_drop_lease` meets its contract.
use Rattle.skid.proofs.skid_drop_lease.Goals as goal

pub returns : goal.returns
returns c = rw (← c.head_of-head.ensures, ← c.lease_of-lease.ensures, ← c.drop_lease-r.ensures, ← c.reply_words.ensures)
