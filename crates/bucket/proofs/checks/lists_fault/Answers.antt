-- `bucket::checks::lists_fault` meets its contract.
use mathlib.Core.Path.{sym, ◌∙◌}
use Rattle.std.specs.Prelude.{[], ◌∷◌}
use Rattle.std.proofs.Common.{rules}
use Rattle.laws.specs.Checks.{stopped, went_on}
use Rattle.bucket.specs.Fine.{list_rules}
use Rattle.bucket.proofs.checks.lists_fault.Goals as goal

pub returns-in_err-registry_fault : goal.returns-in_err-registry_fault
unfolding list_rules
returns-in_err-registry_fault c = stopped (_ ∷ []) _ _ (search rules) (sym c.registry_fault.ensures ∙ c.in_err-registry_fault.was)

pub returns : goal.returns
unfolding list_rules
returns c = went_on (_ ∷ []) _ c.lists_fault.ensures (sym c.registry_fault.ensures ∙ c.in_ok-registry_fault.was)
