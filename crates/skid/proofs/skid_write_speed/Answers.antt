-- `skid::skid_write_speed` meets its contract.
use Rattle.skid_rules.specs.Laws.{written_whole}
use Rattle.skid.proofs.skid_write_speed.Goals as goal

pub book_words-requires : goal.book_words-requires
book_words-requires c = written_whole _ _ _ _ _ _ _ _ c.write_setpoint-r.ensures

pub returns : goal.returns
returns c = rw (← c.head_of-head.ensures, ← c.lease_of-lease.ensures, ← c.write_setpoint-r.ensures, ← c.book_words.ensures)
