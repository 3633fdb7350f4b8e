-- `book_enter::unmark_oldest` meets its contract.
use Rattle.std.proofs.Common.{◌+◌, ◌*◌, sym, ◌∙◌, arith}
use Rattle.book_rules.proofs.Sound.{is_kept_lem}
use Rattle.book_enter.specs.Steps.{unmark_oldest_of}
use Rattle.book_enter.proofs.unmark_oldest.Goals as goal

pub returns-then-not-is_kept : goal.returns-then-not-is_kept
unfolding unmark_oldest_of
returns-then-not-is_kept c = rw (← c.is_kept.ensures, c.if-not-is_kept.true)

pub overflow_sub-marks : goal.overflow_sub-marks
overflow_sub-marks c =
    let f = c.requires.oldest_lies (is_kept_lem c.args.book.now (4 * c.args.slot + 3) (sym c.is_kept.ensures ∙ c.if-not-is_kept.false)) in
    omega (arith, f.0, c.place_at.ensures)

pub bounds-marks-place_at : goal.bounds-marks-place_at
bounds-marks-place_at c =
    let p = c.requires in
    let f = p.oldest_lies (is_kept_lem c.args.book.now (4 * c.args.slot + 3) (sym c.is_kept.ensures ∙ c.if-not-is_kept.false)) in
    omega (arith, f.0, f.1, c.place_at.ensures, p.le_n, p.book_len_bound, p.in_bounds)

pub returns : goal.returns
unfolding unmark_oldest_of
returns c = rw (← c.is_kept.ensures, c.if-not-is_kept.false, ← c.place_at.ensures)
