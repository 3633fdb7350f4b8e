-- `book_enter::staying` meets its contract.
use Rattle.std.proofs.Common.{◌≡◌, ◌*◌, sym, ap, ◌∙◌, arith}
use Rattle.book_enter.specs.Steps.{staying_to, staying_start, staying_turn, staying_end, staying_few}
use Rattle.book_enter.proofs.staying.Goals as goal

pub loop-k-init : goal.loop-k-init
loop-k-init c = record { counted = sym (staying_start c.args.book.now c.args.slot); few = omega arith }

pub overflow_add-total : goal.overflow_add-total
overflow_add-total c = omega (arith, c.loop-k.invariant.few, c.staying_at-total.ensures, staying_few c.args.book.now c.args.slot c.loop-k.k, c.loop-k-test.true, c.requires.n_bound)

pub loop-k-preserved : goal.loop-k-preserved
loop-k-preserved c =
    let l = c.loop-k in
    let a = c.args in
    record {
      counted = omega (arith, l.invariant.counted, c.staying_at-total.ensures, staying_turn a.book.now a.slot l.k);
      few = omega (arith, l.invariant.few, c.staying_at-total.ensures, staying_few a.book.now a.slot l.k);
    }

pub returns : goal.returns
returns c =
    let l = c.loop-k in
    let a = c.args in
    let e : l.k ≡ 4 * a.n = omega (arith, l.auto.k-end, c.loop-k-test.false) in
    l.invariant.counted ∙ ap (staying_to a.book.now a.slot) e ∙ staying_end a.n a.book.now a.slot
