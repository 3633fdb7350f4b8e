-- `skid::skid_read_version` meets its contract.
use Rattle.book_rules.proofs.Outcomes.{body_read_lem}
use Rattle.skid.proofs.skid_read_version.Goals as goal

pub book_words-requires : goal.book_words-requires
book_words-requires c = body_read_lem _ _ _ _ _ c.read_version-r.ensures

pub returns : goal.returns
returns c = rw (← c.head_of-head.ensures, ← c.read_version-r.ensures, ← c.book_words.ensures)
