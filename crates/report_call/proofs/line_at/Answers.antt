use Rattle.report_call.specs.Laws.{fitting_short}
use Rattle.report_rules.specs.Reading.{line_at}
use native.Mathlib.Omega.{arith}
use Rattle.report_call.proofs.line_at.Goals as goal

pub returns-in_err-number : goal.returns-in_err-number
unfolding line_at
returns-in_err-number c = rw (← c.in_err-number.ensures) c.from_residual.ensures

pub overflow_add-at : goal.overflow_add-at
overflow_add-at c = let a = c.args in omega (arith, fitting_short a.input.now a.at 262144 _ c.in_ok-number.ensures)

pub returns : goal.returns
unfolding line_at
returns c = rw (← c.in_ok-number.ensures) c.refusal_at.ensures
