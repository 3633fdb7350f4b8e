-- `book_compact::compact` meets its contract.
use Rattle.std.proofs.Common.{◌+◌, ◌*◌, ◌-◌, ◌/◌, length, ◌∙◌, arith}
use Rattle.book_compact.specs.Lines.{laid_lying, compaction}
use Rattle.book_compact.proofs.compact.Goals as goal

pub put_places-requires-clause-lying : goal.put_places-requires-clause-lying
put_places-requires-clause-lying c =
    let a = c.args in
    let p = c.requires in
    let cells = (length a.book.now - 32 * a.n + 4) / 5 in
    laid_lying a.n a.book.now cells 6548 a.marks.now p.fits (omega (arith, p.book_in_bounds)) (omega (arith, p.le_n, p.book_len_bound)) p.marked p.book_in_bounds p.n_bound _ _ c.walk.ensures p.le_n p.book_len_bound

pub returns : goal.returns
returns c =
    let a = c.args in
    let p = c.requires in
    let cells = (length a.book.now - 32 * a.n + 4) / 5 in
    c.put_places.ensures
    ∙ compaction a.n a.book.now cells 6548 a.marks.now p.fits (omega (arith, p.book_in_bounds)) (omega (arith, p.le_n, p.book_len_bound)) p.marked p.book_in_bounds p.n_bound _ _ c.walk.ensures
