-- `book_enter::drop_oldest` meets its contract.
use Rattle.std.proofs.Common.{◌≤◌, ◌+◌, ◌-◌, ◌*◌, length, replicate, ap, sym, ◌∙◌, arith}
use borrow.Rule.Slice.PartMut.{put_mid}
use Rattle.std.proofs.Math.Seq.{length-sets}
use Rattle.book_rules.proofs.Sound.{is_kept_lem}
use Rattle.book_rules.specs.Writing.{drop_oldest_of}
use Rattle.book_compact.specs.Slide.{part_filled}
use Rattle.book_enter.proofs.drop_oldest.Goals as goal

pub returns-then-not-is_kept : goal.returns-then-not-is_kept
unfolding drop_oldest_of
returns-then-not-is_kept c = rw (← c.is_kept.ensures, c.if-not-is_kept.true)

pub slice_bounds-fill-end : goal.slice_bounds-fill-end
slice_bounds-fill-end c =
    let r = c.requires.oldest_within (is_kept_lem c.args.book.now (4 * c.args.slot + 3) (sym c.is_kept.ensures ∙ c.if-not-is_kept.false)) in
    omega (arith, r, c.place_at-place.ensures)

pub returns : goal.returns
unfolding drop_oldest_of
returns c =
    let b = c.args.book.now in
    let p = c.place_at-place.result in
    let q = 8 * (4 * c.args.slot + 3) in
    let r = c.requires.oldest_within (is_kept_lem b (4 * c.args.slot + 3) (sym c.is_kept.ensures ∙ c.if-not-is_kept.false)) in
    let first = part_filled b _ p 5 (p + 5 - p) (c.fill.ensures.after (λ y e. e)) (omega arith) (omega (arith, r, c.place_at-place.ensures)) in
    let mid = put_mid p (p + 5 - p) b c.fill.new.self in
    let room : q + 8 ≤ length mid = omega (arith, ap length first, length-sets b p (replicate 5 0), c.requires.slot_in_bounds) in
    let second = part_filled mid _ q 8 (q + 8 - q) (c.fill-2.ensures.after (λ y e. e)) (omega arith) room in
    rw (second, first, ← c.is_kept.ensures, c.if-not-is_kept.false, ← c.place_at-place.ensures)
