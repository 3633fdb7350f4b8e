use mathlib.Core.Path.{◌≡◌, refl, ◌∙◌}
use mathlib.Core.Bool.{Bool, true, false}
use Rattle.std.specs.Prelude.{if◌then◌else◌, Some, None}
use Rattle.std.specs.Bool.{then_some}
use Rattle.text.specs.declared.Number.{Number}
use Rattle.report_rules.specs.Reading.{fits_of}
use Rattle.report_call.proofs.number_up_to.Goals as goal

pub returns-in_err-number : goal.returns-in_err-number
unfolding fits_of
returns-in_err-number c = rw (← c.read_number.ensures, c.in_err-number.was) c.from_residual.ensures

chosen : (b : Bool) (n : Number) → then_some b n ≡ (if b then Some n else None)
chosen true n = refl
chosen false n = refl

pub returns : goal.returns
unfolding fits_of
returns c = rw (← c.read_number.ensures, c.in_ok-number.was) (c.then_some.ensures ∙ chosen _ _)
