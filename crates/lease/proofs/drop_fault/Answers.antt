-- `lease::drop_fault` meets its contract.
use mathlib.Core.Path.{sym, ◌∙◌}
use Rattle.std.specs.Prelude.{[], ◌∷◌}
use Rattle.std.proofs.Common.{rules}
use Rattle.laws.specs.Checks.{stopped, went_on}
use Rattle.lease.proofs.drop_fault.Goals as goal

pub returns-in_err-lease_fault : goal.returns-in_err-lease_fault
returns-in_err-lease_fault c = stopped (_ ∷ _ ∷ []) _ _ (search rules) (sym c.lease_fault.ensures ∙ c.in_err-lease_fault.was)

pub returns : goal.returns
returns c = went_on (_ ∷ _ ∷ []) _ c.protected_fault.ensures (sym c.lease_fault.ensures ∙ c.in_ok-lease_fault.was)
