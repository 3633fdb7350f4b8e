-- `book_compact::move_body` meets its contract.
use Rattle.std.proofs.Common.{◌+◌, ◌-◌, ◌≤◌, length, replicate, refl, arith}
use Rattle.std.proofs.lemmas.List.Edits.{sets}
use Rattle.std.proofs.Math.Seq.{length-sets}
use Rattle.book_rules.specs.Layout.{five_at}
use Rattle.book_compact.specs.Slide.{moved_to, part_filled, part_copied}
use Rattle.book_compact.proofs.move_body.Goals as goal

pub returns : goal.returns
unfolding moved_to five_at
returns c =
    let b = c.args.book.now in
    let p = c.args.p in
    let q = c.args.q in
    let zeros = part_filled b _ p 5 (p + 5 - p) (c.fill.ensures.after (λ y e. e)) (omega arith) c.requires.p_in_bounds in
    let room : q + 5 ≤ length (sets b p (replicate 5 0)) = omega (arith, length-sets b p (replicate 5 0), c.requires.p_in_bounds, c.requires.q_le_p) in
    rw zeros (part_copied (sets b p (replicate 5 0)) _ _ q 5 (q + 5 - q) c.copy_from_slice.ensures.after refl (omega arith) room)
