-- `book::line_read` meets its contract.
use Rattle.book_rules.specs.Calls.{line_read}
use Rattle.book.proofs.line_read.Goals as goal

pub returns-in_default : goal.returns-in_default
unfolding line_read
returns-in_default c = rw (← c.place_at-place.ensures, ← c.setting_at.ensures, c.in_default.is)

pub returns : goal.returns
unfolding line_read
returns c = rw (← c.place_at-place.ensures, ← c.setting_at.ensures, c.in-Some.is)
