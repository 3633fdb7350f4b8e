-- `skid::skid_drop_preserving_borrows` meets its contract.
use Rattle.skid.proofs.skid_drop_preserving_borrows.Goals as goal

pub returns : goal.returns
returns c = rw (← c.head_of-head.ensures, ← c.lease_of-lease.ensures, ← c.drop_preserving_borrows-r.ensures, ← c.reply_words.ensures)
