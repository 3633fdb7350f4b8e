-- `book::is_bad_slot` meets its contract.
use Rattle.book_rules.specs.Rules.{is_bad_slot}
use Rattle.book.proofs.is_bad_slot.Goals as goal

pub returns-then-is_bad_book : goal.returns-then-is_bad_book
unfolding is_bad_slot
returns-then-is_bad_book c = rw (← c.is_bad_book.ensures, c.if-is_bad_book.true)

pub returns-else-is_bad_book : goal.returns-else-is_bad_book
unfolding is_bad_slot
returns-else-is_bad_book c = rw (← c.is_bad_book.ensures, c.if-is_bad_book.false)
