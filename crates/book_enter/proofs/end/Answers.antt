-- `book_enter::end` meets its contract.
use Rattle.std.proofs.Common.{◌≡◌, ◌*◌, sym, ap, ◌∙◌, arith}
use Rattle.book_enter.specs.Steps.{end_to, later_of, end_start, end_turn, end_whole}
use Rattle.book_enter.proofs.end.Goals as goal

pub loop-k-init : goal.loop-k-init
loop-k-init c = sym (end_start c.args.n c.args.book.now)

pub loop-k-preserved : goal.loop-k-preserved
loop-k-preserved c =
    let l = c.loop-k in
    let b = c.args.book.now in
    c.later-last.ensures ∙ ap (later_of b l.k) l.invariant ∙ sym (end_turn c.args.n b l.k)

pub returns : goal.returns
returns c =
    let l = c.loop-k in
    let a = c.args in
    let e : l.k ≡ 4 * a.n = omega (arith, l.auto.k-end, c.loop-k-test.false) in
    l.invariant ∙ ap (end_to a.n a.book.now) e ∙ end_whole a.n a.book.now
