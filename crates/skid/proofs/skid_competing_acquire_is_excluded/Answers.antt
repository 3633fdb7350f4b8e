-- `skid::skid_competing_acquire_is_excluded` meets its contract.
use Rattle.skid.proofs.skid_competing_acquire_is_excluded.Goals as goal

pub returns : goal.returns
returns c = rw (← c.head_of-head.ensures, ← c.lease_of-lease.ensures, ← c.competing_acquire_is_excluded-r.ensures, ← c.reply_words.ensures)
