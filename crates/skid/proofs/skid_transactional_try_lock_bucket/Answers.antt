-- `skid::skid_transactional_try_lock_bucket` meets its contract.
use Rattle.skid.proofs.skid_transactional_try_lock_bucket.Goals as goal

pub returns : goal.returns
returns c = rw (← c.head_of-head.ensures, ← c.transactional_try_lock_bucket-r.ensures, ← c.script_reply_words.ensures)
