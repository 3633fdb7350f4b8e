-- `book_compact::walk` meets its contract.
use Rattle.std.proofs.Common.{◌≡◌, ℕ, ◌+◌, ◌*◌, ◌%◌, sym, ◌∙◌, arith, eq-eqb, ne_eqb, get_or, get_or-set_other}
use Rattle.book_compact.specs.Slide.{slide_turn, slide_end, ranks_turn, ranks_end, walk_of}
use Rattle.book_compact.proofs.walk.Goals as goal
use Rattle.book_compact.proofs.walk.Goals.{then-mark-ne0, else-mark-ne0}

pub loop-c-preserved : goal.loop-c-preserved
loop-c-preserved c =
    let l = c.loop-c in
    let a = c.args in
    let same = l.invariant.later (l.c + 1) (omega arith) in
    let turn = slide_turn a.n a.marks.now a.cells l.c (32 * a.n + 5 * l.rank) l.book c.loop-c-test.true in
    let step = ranks_turn a.marks.now a.cells l.c l.rank l.marks c.loop-c-test.true in
    elim c.if-mark-ne0.branch [
      | then-mark-ne0 w ↦
          let some : get_or a.marks.now (l.c + 1) 0 ≡ 0 → ⊥ = (λ z. w.if-mark-ne0.true (c.from-mark.ensures ∙ same ∙ z)) in
          let next : 32 * a.n + 5 * l.rank + 5 ≡ 32 * a.n + 5 * (l.rank + 1) = omega arith in
          record {
            few = omega (arith, w.rank-is, l.invariant.few);
            later = λ i h. rw w.marks-is (get_or-set_other l.marks (l.c + 1) i (l.rank % 256) 0 (omega arith) ∙ l.invariant.later i (omega arith));
            rest = rw (w.book-is, w.rank-is, ← l.invariant.rest, turn, ne_eqb _ _ some, ← same, ← c.from-mark.ensures, ← w.move_body.ensures, next);
            ranks = rw (w.marks-is, w.rank-is, ← l.invariant.ranks, step, ne_eqb _ _ some);
          }
      | else-mark-ne0 w ↦
          let zero : ◌≡◌ {A = ℕ} (get_or a.marks.now (l.c + 1) 0) 0 = sym same ∙ sym c.from-mark.ensures ∙ w.if-mark-ne0.false in
          record {
            few = omega (arith, w.rank-is, l.invariant.few);
            later = λ i h. rw w.marks-is (l.invariant.later i (omega arith));
            rest = rw (w.book-is, w.rank-is, ← l.invariant.rest, turn, eq-eqb _ _ zero);
            ranks = rw (w.marks-is, w.rank-is, ← l.invariant.ranks, step, eq-eqb _ _ zero);
          }
    ]

pub returns : goal.returns
unfolding walk_of
returns c =
    let l = c.loop-c in
    let a = c.args in
    rw (← l.invariant.rest, ← l.invariant.ranks, slide_end a.n a.marks.now a.cells l.c (32 * a.n + 5 * l.rank) l.book c.loop-c-test.false, ranks_end a.marks.now a.cells l.c l.rank l.marks c.loop-c-test.false)
