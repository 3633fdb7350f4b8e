-- `book_enter::shift` meets its contract.
use Rattle.book_enter.specs.Steps.{shift_copied}
use Rattle.book_enter.proofs.shift.Goals as goal

pub returns : goal.returns
returns c = let a = c.args in rw (← shift_copied a.book.now a.line.now a.at c.requires.line_len c.requires.at_in_bounds, ← c.copy_within.ensures.after, ← c.put_bytes.ensures)
