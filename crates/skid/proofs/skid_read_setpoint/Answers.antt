-- `skid::skid_read_setpoint` meets its contract.
use Rattle.skid_rules.specs.Laws.{newest_whole}
use Rattle.skid.proofs.skid_read_setpoint.Goals as goal

pub book_words-requires : goal.book_words-requires
book_words-requires c = newest_whole _ _ _ _ c.read_setpoint-r.ensures

pub returns : goal.returns
returns c = rw (← c.head_of-head.ensures, ← c.read_setpoint-r.ensures, ← c.book_words.ensures)
