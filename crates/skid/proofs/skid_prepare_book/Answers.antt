-- `skid::skid_prepare_book` meets its contract.
use Rattle.skid_rules.specs.Laws.{prepared_whole}
use Rattle.skid.proofs.skid_prepare_book.Goals as goal

pub book_words-requires : goal.book_words-requires
book_words-requires c = prepared_whole _ _ _ _ c.prepare_book-r.ensures

pub returns : goal.returns
returns c = rw (← c.head_of-head.ensures, ← c.prepare_book-r.ensures, ← c.book_words.ensures)
