-- `book::prepare_book` meets its contract.
use Rattle.book_rules.specs.Rules.{first_fault, book_rules}
use Rattle.book_rules.specs.Calls.{prepare_book_of}
use Rattle.book.proofs.prepare_book.Goals as goal

pub returns-then-not-head_fits : goal.returns-then-not-head_fits
unfolding prepare_book_of book_rules first_fault
returns-then-not-head_fits c = rw (← c.head_fits.ensures, c.if-not-head_fits.true)

pub returns-then-is_bad_book : goal.returns-then-is_bad_book
unfolding prepare_book_of book_rules first_fault
returns-then-is_bad_book c = rw (← c.head_fits.ensures, c.if-not-head_fits.false, ← c.slots.ensures, ← c.is_bad_book.ensures, c.if-is_bad_book.true)

pub returns : goal.returns
unfolding prepare_book_of book_rules first_fault
returns c = rw (← c.head_fits.ensures, c.if-not-head_fits.false, ← c.slots.ensures, ← c.is_bad_book.ensures, c.if-is_bad_book.false, c.fill.ensures.after (λ y e. e))
