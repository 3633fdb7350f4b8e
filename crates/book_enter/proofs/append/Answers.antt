-- `book_enter::append` meets its contract.
use Rattle.book_enter.specs.Steps.{append_is}
use Rattle.book_enter.proofs.append.Goals as goal

pub returns : goal.returns
returns c =
    let a = c.args in
    rw (← append_is a.book.now a.slot a.s a.version a.place, ← c.line-newest.ensures, ← c.body.ensures, ← c.shift.ensures, ← c.put_bytes.ensures)
