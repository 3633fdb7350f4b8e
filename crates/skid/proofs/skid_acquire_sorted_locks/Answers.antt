-- `skid::skid_acquire_sorted_locks` meets its contract.
use Rattle.skid.proofs.skid_acquire_sorted_locks.Goals as goal

pub returns : goal.returns
returns c = rw (← c.head_of-head.ensures, ← c.acquire_sorted_locks-r.ensures, ← c.script_reply_words.ensures)
