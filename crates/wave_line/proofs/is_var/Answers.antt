-- `wave_line::is_var` meets its contract.
use Rattle.std.proofs.Common.{arith, rules}
use Rattle.wave_rules.specs.Dump.{var_line}
use Rattle.wave_write.specs.Laws.{five_digits, length_var}
use Rattle.wave_line.specs.Laws.{line_put_lem}
use Rattle.std.proofs.Common.{rules}
use Rattle.wave_line.proofs.is_var.Goals as goal

pub put_var-k-requires : goal.put_var-k-requires
put_var-k-requires c = omega (arith, five_digits c.args.cell (search rules))

pub overflow_sub-k : goal.overflow_sub-k
overflow_sub-k c =
    let a = c.args in
    let f = line_put_lem _ _ (var_line a.cell) _ (omega (arith, length_var a.cell, five_digits a.cell (search rules))) c.put_var-k.ensures in
    omega (arith, f.0)

pub slice_bounds-want-end : goal.slice_bounds-want-end
slice_bounds-want-end c =
    let a = c.args in
    let f = line_put_lem _ _ (var_line a.cell) _ (omega (arith, length_var a.cell, five_digits a.cell (search rules))) c.put_var-k.ensures in
    omega (arith, f.0, length_var a.cell, five_digits a.cell (search rules))

pub slice_bounds-same-end : goal.slice_bounds-same-end
slice_bounds-same-end c =
    let a = c.args in
    let f = line_put_lem _ _ (var_line a.cell) _ (omega (arith, length_var a.cell, five_digits a.cell (search rules))) c.put_var-k.ensures in
    f.2

pub returns : goal.returns
returns c =
    let a = c.args in
    let f = line_put_lem _ _ (var_line a.cell) _ (omega (arith, length_var a.cell, five_digits a.cell (search rules))) c.put_var-k.ensures in
    rw f.1 at c.same.ensures
