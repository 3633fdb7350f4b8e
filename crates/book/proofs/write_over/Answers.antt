-- `book::write_over` meets its contract.
use mathlib.Core.Path.{sym, ◌∙◌}
use native.Mathlib.Omega.{arith}
use borrow.Author.Tests.{eq-eqb, ne_eqb}
use Rattle.book_rules.specs.Writing.{put_of}
use Rattle.book_rules.specs.Rules.{first_fault, over_rules}
use Rattle.book.specs.Model.{scanned, write_over_of}
use Rattle.book_enter.specs.Steps.{oldest_lies, staying_most, full_is, room_is, left_size, left_fits, left_kept, left_marked}
use Rattle.book.proofs.write_over.Goals as goal

pub returns-then-newest : goal.returns-then-newest
unfolding write_over_of over_rules first_fault
returns-then-newest c =
    let told = scanned _ _ _ c.requires.le_n c.requires.book_len_bound c.scan.ensures in
    rw (← told.0, c.if-not-scan.false, ← c.version_at-newest.ensures, eq-eqb _ _ c.if-newest.true)

pub overflow_mul-kept : goal.overflow_mul-kept
overflow_mul-kept c =
    let a = c.args in
    let p = c.requires in
    let told = scanned _ _ _ c.requires.le_n c.requires.book_len_bound c.scan.ensures in
    omega (arith, c.staying-kept.ensures, staying_most a.n a.book.now a.slot p.slot_lt_n (sym told.0 ∙ c.if-not-scan.false), p.n_bound)

pub overflow_add-n : goal.overflow_add-n
overflow_add-n c =
    let a = c.args in
    let p = c.requires in
    let told = scanned _ _ _ c.requires.le_n c.requires.book_len_bound c.scan.ensures in
    omega (arith, c.staying-kept.ensures, staying_most a.n a.book.now a.slot p.slot_lt_n (sym told.0 ∙ c.if-not-scan.false), p.n_bound)

pub overflow_add-n-2 : goal.overflow_add-n-2
overflow_add-n-2 c =
    let a = c.args in
    let p = c.requires in
    let told = scanned _ _ _ c.requires.le_n c.requires.book_len_bound c.scan.ensures in
    omega (arith, c.staying-kept.ensures, staying_most a.n a.book.now a.slot p.slot_lt_n (sym told.0 ∙ c.if-not-scan.false), p.n_bound)

pub returns-then-book-n : goal.returns-then-book-n
unfolding write_over_of over_rules first_fault
returns-then-book-n c =
    let a = c.args in
    let told = scanned _ _ _ c.requires.le_n c.requires.book_len_bound c.scan.ensures in
    let full = full_is a.n a.book.now a.slot c.requires.slot_lt_n (sym told.0 ∙ c.if-not-scan.false) c.staying-kept.result c.staying-kept.ensures c.if-book-n.true in
    rw (← told.0, c.if-not-scan.false, ← c.version_at-newest.ensures, ne_eqb _ _ c.if-newest.false, full)

pub unmark_oldest-requires-clause-oldest_lies : goal.unmark_oldest-requires-clause-oldest_lies
unmark_oldest-requires-clause-oldest_lies c =
    let told = scanned _ _ _ c.requires.le_n c.requires.book_len_bound c.scan.ensures in
    oldest_lies _ _ _ c.requires.slot_lt_n (sym told.0 ∙ c.if-not-scan.false)

pub drop_oldest-requires-clause-oldest_within : goal.drop_oldest-requires-clause-oldest_within
drop_oldest-requires-clause-oldest_within c = λ q.
    let told = scanned _ _ _ c.requires.le_n c.requires.book_len_bound c.scan.ensures in
    (oldest_lies _ _ _ c.requires.slot_lt_n (sym told.0 ∙ c.if-not-scan.false) q).1

pub put_over-moved-requires-clause-fits : goal.put_over-moved-requires-clause-fits
put_over-moved-requires-clause-fits c =
    let told = scanned _ _ _ c.requires.le_n c.requires.book_len_bound c.scan.ensures in
    left_fits _ _ _ c.requires.slot_lt_n (sym told.0 ∙ c.if-not-scan.false) _ c.staying-kept.ensures _ c.drop_oldest.ensures

pub put_over-moved-requires-clause-kept_value : goal.put_over-moved-requires-clause-kept_value
put_over-moved-requires-clause-kept_value c =
    let told = scanned _ _ _ c.requires.le_n c.requires.book_len_bound c.scan.ensures in
    left_kept _ _ _ c.requires.slot_lt_n (sym told.0 ∙ c.if-not-scan.false) _ c.staying-kept.ensures _ c.drop_oldest.ensures

pub put_over-moved-requires-clause-marked : goal.put_over-moved-requires-clause-marked
put_over-moved-requires-clause-marked c =
    let told = scanned _ _ _ c.requires.le_n c.requires.book_len_bound c.scan.ensures in
    left_marked _ _ _ c.requires.slot_lt_n (sym told.0 ∙ c.if-not-scan.false) _ c.staying-kept.ensures _ c.drop_oldest.ensures 6548 _ _ (omega (arith, c.requires.le_n, c.requires.book_len_bound)) (told.1 c.if-not-scan.false) c.unmark_oldest.ensures

pub returns : goal.returns
unfolding write_over_of over_rules first_fault put_of
returns c =
    let a = c.args in
    let told = scanned _ _ _ c.requires.le_n c.requires.book_len_bound c.scan.ensures in
    let room = room_is a.n a.book.now a.slot c.requires.slot_lt_n (sym told.0 ∙ c.if-not-scan.false) c.staying-kept.result c.staying-kept.ensures c.if-book-n.false in
    rw (← told.0, c.if-not-scan.false, ← c.version_at-newest.ensures, ne_eqb _ _ c.if-newest.false, room, ← c.drop_oldest.ensures, ← c.put_over-moved.ensures)

pub returns-then-not-scan : goal.returns-then-not-scan
unfolding write_over_of over_rules first_fault
returns-then-not-scan c =
    let told = scanned _ _ _ c.requires.le_n c.requires.book_len_bound c.scan.ensures in
    rw (← told.0, c.if-not-scan.true)
