use Rattle.report_call.specs.Laws.{fitting_short, in_range}
use Rattle.report_rules.specs.Reading.{refusal_at}
use Prim.Native.Nat.{◌+◌}
use mathlib.Core.Path.{sym, ◌∙◌}
use borrow.Author.Tests.{eqb-true}
use native.Mathlib.Omega.{arith}
use Rattle.report_call.proofs.refusal_at.Goals as goal

pub returns-then-not-stands : goal.returns-then-not-stands
unfolding refusal_at
returns-then-not-stands c = rw (← c.stands.ensures, c.if-not-stands.true)

pub returns-in_err-number : goal.returns-in_err-number
unfolding refusal_at
returns-in_err-number c = rw (← c.stands.ensures, c.if-not-stands.false, ← c.in_err-number.ensures) c.from_residual.ensures

pub overflow_add-at-3 : goal.overflow_add-at-3
overflow_add-at-3 c =
    let a = c.args in
    let b = in_range a.input.now a.at 32 (eqb-true _ _ (sym c.stands.ensures ∙ c.if-not-stands.false)) (omega arith) in
    omega (arith, fitting_short a.input.now (a.at + 1) 16 _ c.in_ok-number.ensures)

pub returns : goal.returns
unfolding refusal_at
returns c = rw (← c.stands.ensures, c.if-not-stands.false, ← c.in_ok-number.ensures) c.end_at.ensures
