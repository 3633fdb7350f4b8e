-- `book::is_bad_book` meets its contract.
use Rattle.std.proofs.Common.{lt-ltb, le-ltb}
use Rattle.book_rules.specs.Rules.{is_bad_book}
use Rattle.book.proofs.is_bad_book.Goals as goal

pub returns-then-size-n : goal.returns-then-size-n
unfolding is_bad_book
returns-then-size-n c = rw (lt-ltb _ _ c.if-size-n.true)

pub returns-else-size-n : goal.returns-else-size-n
unfolding is_bad_book
returns-else-size-n c = rw (le-ltb _ _ c.if-size-n.false)
