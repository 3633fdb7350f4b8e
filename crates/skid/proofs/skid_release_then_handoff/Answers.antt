-- `skid::skid_release_then_handoff` meets its contract.
use Rattle.skid.proofs.skid_release_then_handoff.Goals as goal

pub returns : goal.returns
returns c = rw (← c.head_of-head.ensures, ← c.lease_of-lease.ensures, ← c.release_then_handoff-r.ensures, ← c.reply_words.ensures)
