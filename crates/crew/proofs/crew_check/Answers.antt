-- `crew::crew_check` meets its contract.
use Rattle.std.specs.Prelude.{[], ◌∷◌}
use Rattle.std.proofs.Common.{sym, ◌∙◌, rules}
use Rattle.model.specs.Crew.{crew_rules}
use Rattle.laws.specs.Checks.{stopped}
use Rattle.crew.proofs.crew_check.Goals as goal

pub returns-in_err-arena_fault : goal.returns-in_err-arena_fault
unfolding crew_rules
returns-in_err-arena_fault c = stopped (_ ∷ _ ∷ []) _ _ (search rules) (sym c.arena_fault.ensures ∙ c.in_err-arena_fault.was)
