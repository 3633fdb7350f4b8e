-- `skid::skid_acquire_preserving_borrows` meets its contract.
use Rattle.skid.proofs.skid_acquire_preserving_borrows.Goals as goal

pub returns : goal.returns
returns c = rw (← c.head_of-head.ensures, ← c.acquire_preserving_borrows-r.ensures, ← c.reply_words.ensures)
