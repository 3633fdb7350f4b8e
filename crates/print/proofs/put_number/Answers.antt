use mathlib.Core.Path.{ap}
use native.Mathlib.Omega.{arith}
use lib.ListN.{length}
use Rattle.text.specs.Decimal.{decimal_is, length_decimal}
use Rattle.std.proofs.Common.{rules}
use Rattle.print.proofs.put_number.Goals as goal

pub put-requires : goal.put-requires
put-requires c =
    let e = c.decimal-k.ensures in
    let a = c.args in
    let d = decimal_is a.n _ _ (search rules) e.len e.digits in
    omega (arith, ap length d, length_decimal a.n)

pub returns : goal.returns
returns c =
    let e = c.decimal-k.ensures in
    let a = c.args in
    let d = decimal_is a.n _ _ (search rules) e.len e.digits in
    rw d at c.put.ensures
