-- `skid::skid_acquire_index_locks` meets its contract.
use Rattle.skid.proofs.skid_acquire_index_locks.Goals as goal

pub returns : goal.returns
returns c = rw (← c.head_of-head.ensures, ← c.acquire_index_locks-r.ensures, ← c.script_reply_words.ensures)
