-- `book_enter::put_over` meets its contract.
use native.Mathlib.Omega.{arith}
use Rattle.book_enter.specs.Steps.{end_within, put_slid, put_behind}
use Rattle.book_enter.proofs.put_over.Goals as goal

pub overflow_add-last : goal.overflow_add-last
overflow_add-last c =
    let p = c.requires in
    omega (arith, c.end-last.ensures, end_within c.args.n c.args.book.now p.fits (omega (arith, p.kept_in_bounds)), p.book_len_bound)

pub compact-moved-requires : goal.compact-moved-requires
compact-moved-requires c =
    let p = c.requires in
    record { le_n = p.le_n; n_bound = p.n_bound; book_len_bound = p.book_len_bound; fits = p.fits; book_in_bounds = omega (arith, p.kept_value, p.kept_in_bounds); marked = p.marked }

pub append-requires : goal.append-requires
append-requires c =
    let p = c.requires in
    record { slot_in_bounds = omega (arith, p.slot_lt_n, p.kept_in_bounds, c.compact-moved.auto); place_in_bounds = omega (arith, p.kept_in_bounds, c.compact-moved.auto); book_len_bound = omega (arith, p.book_len_bound, c.compact-moved.auto); s_value = p.s_value }

pub returns-then-book-last : goal.returns-then-book-last
returns-then-book-last c =
    let a = c.args in
    put_slid a.n a.book.now a.slot a.s a.version c.end-last.result c.end-last.ensures a.kept _ _ _ c.if-book-last.true c.compact-moved.ensures c.requires.kept_value c.append.ensures

pub returns : goal.returns
returns c =
    let a = c.args in
    put_behind a.n a.book.now a.slot a.s a.version c.end-last.result c.end-last.ensures _ c.if-book-last.false c.append-2.ensures
