-- `release::release_check` meets its contract.
use mathlib.Core.Path.{sym, ◌∙◌}
use Rattle.std.specs.Prelude.{[], ◌∷◌}
use Rattle.std.proofs.Common.{rules}
use Rattle.laws.specs.Checks.{arena_shape, stopped, went_on}
use Rattle.model.specs.Checks.{release_rules}
use Rattle.release.specs.Release.{leases_rules}
use Rattle.release.proofs.release_check.Goals as goal

pub release_lists_fault-requires : goal.release_lists_fault-requires
release_lists_fault-requires c = let a = c.args in arena_shape a.head a.table.now a.health.now (sym c.arena_fault.ensures ∙ c.in_ok-arena_fault.was)

pub returns-in_err-arena_fault : goal.returns-in_err-arena_fault
unfolding release_rules leases_rules
returns-in_err-arena_fault c = stopped (_ ∷ _ ∷ []) _ _ (search rules) (sym c.arena_fault.ensures ∙ c.in_err-arena_fault.was)

pub returns : goal.returns
unfolding release_rules leases_rules
returns c = went_on (_ ∷ _ ∷ []) _ c.release_lists_fault.ensures (sym c.arena_fault.ensures ∙ c.in_ok-arena_fault.was)
