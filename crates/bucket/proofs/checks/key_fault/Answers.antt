-- `bucket::checks::key_fault` meets its contract.
use mathlib.Core.Path.{sym, ◌∙◌}
use Rattle.std.specs.Prelude.{[], ◌∷◌}
use Rattle.std.proofs.Common.{rules}
use Rattle.laws.specs.Checks.{stopped, went_on, arena_shape}
use Rattle.bucket.specs.Fine.{key_rules, list_rules}
use Rattle.bucket.proofs.checks.key_fault.Goals as goal

pub lists_fault-requires : goal.lists_fault-requires
lists_fault-requires c = let a = c.args in arena_shape a.head a.table.now a.health.now (sym c.arena_fault.ensures ∙ c.in_ok-arena_fault.was)

pub returns-in_err-arena_fault : goal.returns-in_err-arena_fault
unfolding key_rules list_rules
returns-in_err-arena_fault c = stopped (_ ∷ _ ∷ []) _ _ (search rules) (sym c.arena_fault.ensures ∙ c.in_err-arena_fault.was)

pub returns : goal.returns
unfolding key_rules list_rules
returns c = went_on (_ ∷ _ ∷ []) _ c.lists_fault.ensures (sym c.arena_fault.ensures ∙ c.in_ok-arena_fault.was)
