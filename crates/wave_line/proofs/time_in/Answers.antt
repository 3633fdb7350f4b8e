-- `wave_line::time_in` meets its contract.
use Rattle.std.proofs.Common.{◌≡◌, ◌+◌, ◌-◌, ◌*◌, get_or, ◌∙◌, sym, arith}
use Rattle.text.specs.Laws.{digit_is}
use Rattle.wave_line.specs.Fronts.{walk_turn, walk_inside, walk_digit, walk_known}
use Rattle.wave_line.proofs.time_in.Goals as goal

pub bounds-text-i : goal.bounds-text-i
bounds-text-i c =
    let l = c.loop-i in
    let a = c.args in
    (walk_inside a.text.now a.at l.t l.i l.invariant c.requires.0 c.requires.1).0

pub returns-then-b-eq10 : goal.returns-then-b-eq10
returns-then-b-eq10 c =
    let l = c.loop-i in
    let a = c.args in
    let p = c.requires in
    let n = walk_inside a.text.now a.at l.t l.i l.invariant p.0 p.1 in
    let w = walk_known a.text.now a.at l.t l.i l.invariant p.0 p.1 (sym c.from-b.ensures ∙ c.if-b-eq10.true) in
    record { told = w.0; next = (omega (arith, w.1), omega (arith, n.0)) }

pub overflow_sub-t : goal.overflow_sub-t
overflow_sub-t c =
    let l = c.loop-i in
    let a = c.args in
    let p = c.requires in
    let b = digit_is _ (walk_digit a.text.now a.at l.t l.i l.invariant p.0 p.1 (λ e. c.if-b-eq10.false (c.from-b.ensures ∙ e))) in
    omega (arith, b.0, c.from-b.ensures)

pub loop-i-preserved : goal.loop-i-preserved
loop-i-preserved c =
    let l = c.loop-i in
    let a = c.args in
    let p = c.requires in
    let n = walk_inside a.text.now a.at l.t l.i l.invariant p.0 p.1 in
    let d = walk_digit a.text.now a.at l.t l.i l.invariant p.0 p.1 (λ e. c.if-b-eq10.false (c.from-b.ensures ∙ e)) in
    let b = digit_is _ d in
    let e : 10 * l.t + c.from-b.result - 48 ≡ 10 * l.t + (get_or a.text.now l.i 0 - 48) = omega (arith, b.0, c.from-b.ensures) in
    rw e (walk_turn a.text.now a.at l.t l.i l.invariant n.0 d)

pub unreachable-requires : goal.unreachable-requires
unreachable-requires c =
    let l = c.loop-i in
    let a = c.args in
    omega (arith, (walk_inside a.text.now a.at l.t l.i l.invariant c.requires.0 c.requires.1).1, c.loop-i-test.false)
