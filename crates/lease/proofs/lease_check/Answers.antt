-- `lease::lease_check` meets its contract.
use mathlib.Core.Path.{sym, ◌∙◌}
use Rattle.std.specs.Prelude.{[], ◌∷◌}
use Rattle.std.proofs.Common.{rules}
use Rattle.laws.specs.Checks.{stopped, shape_passed, went_on}
use Rattle.model.specs.Checks.{lease_rules}
use Rattle.lease.proofs.lease_check.Goals as goal

pub lease_fault-requires : goal.lease_fault-requires
lease_fault-requires c = shape_passed _ _ (sym c.shape_fault.ensures ∙ c.in_ok-shape_fault.was)

pub returns-in_err-shape_fault : goal.returns-in_err-shape_fault
unfolding lease_rules
returns-in_err-shape_fault c = stopped (_ ∷ []) _ _ (search rules) (sym c.shape_fault.ensures ∙ c.in_err-shape_fault.was)

pub returns : goal.returns
unfolding lease_rules
returns c = went_on (_ ∷ []) _ c.lease_fault.ensures (sym c.shape_fault.ensures ∙ c.in_ok-shape_fault.was)
