-- `book_compact::put_place` meets its contract.
use Rattle.std.proofs.Common.{◌≡◌, ◌%◌, ◌+◌, ◌*◌, ◌-◌, ◌/◌, length, ap, sym, ◌∙◌, arith, eq-eqb, ne_eqb}
use Rattle.book_rules.proofs.Sound.{is_kept_lem}
use Rattle.book_compact.specs.Lines.{is_moved, line_put, put_place_of}
use Rattle.book_compact.specs.Slide.{part_copied}
use Rattle.book_compact.proofs.put_place.Goals as goal

pub returns-then-not-is_kept : goal.returns-then-not-is_kept
unfolding put_place_of is_moved line_put
returns-then-not-is_kept c = rw (← c.is_kept.ensures, c.if-not-is_kept.true)

pub overflow_sub-rank : goal.overflow_sub-rank
overflow_sub-rank c =
    let a = c.args in
    let f = c.requires.line_lies (is_kept_lem a.book.now a.k (sym c.is_kept.ensures ∙ c.if-not-is_kept.false)) in
    omega (arith, f.0, c.place_at-old.ensures)

pub bounds-ranks-old : goal.bounds-ranks-old
bounds-ranks-old c =
    let a = c.args in
    let f = c.requires.line_lies (is_kept_lem a.book.now a.k (sym c.is_kept.ensures ∙ c.if-not-is_kept.false)) in
    omega (arith, f.0, f.1, c.place_at-old.ensures, c.requires.in_bounds)

pub returns-then-place-old : goal.returns-then-place-old
unfolding put_place_of is_moved line_put
returns-then-place-old c =
    let a = c.args in
    let place = 32 * a.n + 5 * c.from.result in
    let top : place / 256 % 256 ≡ place / 256 = omega (arith, c.from.ensures, c.type_inv.ranks ((c.place_at-old.result - 32 * a.n) / 5 + 1), c.requires.n_bound) in
    let put = part_copied a.book.now _ _ (8 * a.k) 2 (8 * a.k + 2 - 8 * a.k) c.copy_from_slice.ensures.after (ap length c.to_le_bytes.ensures) (omega arith) (omega (arith, c.requires.k_in_bounds)) in
    rw (put, c.to_le_bytes.ensures, top, ← c.is_kept.ensures, c.if-not-is_kept.false, ← c.place_at-old.ensures, ← c.from.ensures, eq-eqb _ _ c.if-place-old.true)

pub returns-else-place-old : goal.returns-else-place-old
unfolding put_place_of is_moved line_put
returns-else-place-old c =
    let a = c.args in
    let place = 32 * a.n + 5 * c.from.result in
    let top : place / 256 % 256 ≡ place / 256 = omega (arith, c.from.ensures, c.type_inv.ranks ((c.place_at-old.result - 32 * a.n) / 5 + 1), c.requires.n_bound) in
    let put = part_copied a.book.now _ _ (8 * a.k) 2 (8 * a.k + 2 - 8 * a.k) c.copy_from_slice.ensures.after (ap length c.to_le_bytes.ensures) (omega arith) (omega (arith, c.requires.k_in_bounds)) in
    rw (put, c.to_le_bytes.ensures, top, ← c.is_kept.ensures, c.if-not-is_kept.false, ← c.place_at-old.ensures, ← c.from.ensures, ne_eqb _ _ c.if-place-old.false)
