-- `wave_write::head_size` meets its contract.
use Rattle.std.proofs.Common.{sym, arith, rules}
use Rattle.wave_write.specs.Laws.{five_digits, from_none, head_size, head_turn, head_end}
use Rattle.wave_write.proofs.head_size.Goals as goal

pub loop-cell-init : goal.loop-cell-init
loop-cell-init c = (search rules, rw (from_none c.args.n) (sym (head_size c.args.n)))

pub overflow_add-size : goal.overflow_add-size
overflow_add-size c = omega (arith, c.digit_count.ensures, five_digits c.loop-cell.cell (search rules))

pub overflow_add-size-in-loop-cell : goal.overflow_add-size-in-loop-cell
overflow_add-size-in-loop-cell c = omega (arith, c.digit_count.ensures, five_digits c.loop-cell.cell (search rules), c.loop-cell.invariant.0)

pub loop-cell-preserved : goal.loop-cell-preserved
loop-cell-preserved c =
    let l = c.loop-cell in
    let a = c.args in
    let p = five_digits l.cell (search rules) in
    let e = c.digit_count.ensures in
    (omega (arith, e, p, l.invariant.0), omega (arith, e, head_turn a.n l.cell (search rules), l.invariant.1))

pub returns : goal.returns
returns c = omega (arith, head_end c.args.n c.loop-cell.cell (search rules), c.loop-cell.invariant.1)
