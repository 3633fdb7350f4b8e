-- `setpoint::is_finite` meets its contract. A NaN is told first, and then the infinities by their sign.
use mathlib.Core.Path.{sym, ◌∙◌}
use lib.Ieee.{nan_bits}
use Rattle.setpoint.specs.Float32.{finite_nan, finite_above, finite_below}
use Rattle.setpoint.proofs.is_finite.Goals as goal

pub float_from_bits-top : goal.float_from_bits-top
unfolding nan_bits
float_from_bits-top c = tt

pub returns-then-is_nan : goal.returns-then-is_nan
returns-then-is_nan c = sym (finite_nan _ (sym c.is_nan.ensures.value ∙ c.if-is_nan.true))

pub returns-then-x-top : goal.returns-then-x-top
returns-then-x-top c = sym (finite_above _ (sym c.is_nan.ensures.value ∙ c.if-is_nan.false) c.if-x-top.true)

pub returns-else-x-top : goal.returns-else-x-top
returns-else-x-top c = c.if-x-top.false ∙ sym (finite_below _ c.if-x-top.false)
