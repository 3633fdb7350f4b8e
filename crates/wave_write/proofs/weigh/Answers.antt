-- `wave_write::weigh` meets its contract.
use native.Mathlib.Omega.{arith}
use Rattle.wave_write.specs.Laws.{five_digits, turn_true, turn_false, weigh_done, weigh_none}
use Rattle.std.proofs.Common.{rules}
use Rattle.wave_write.proofs.weigh.Goals as goal

pub overflow_add-result : goal.overflow_add-result
overflow_add-result c = omega (arith, c.digit_count.ensures, five_digits c.args.t (search rules))

pub returns-then-flip : goal.returns-then-flip
returns-then-flip c =
    let a = c.args in
    let f = turn_true a.n a.bits.now _ a.kind a.cell _ c.if-flip.true c.flip.ensures in
    weigh_done a.n a.t a.bits.now a.kind a.cell _ _ f.0 f.1 c.digit_count.ensures

pub returns : goal.returns
returns c =
    let a = c.args in
    let f = turn_false a.n a.bits.now _ a.kind a.cell _ c.if-flip.false c.flip.ensures in
    weigh_none a.n a.t a.bits.now a.kind a.cell _ f.0 f.1
