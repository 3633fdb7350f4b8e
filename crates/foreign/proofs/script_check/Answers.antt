-- `foreign::script_check` meets its contract.
use mathlib.Core.Path.{sym, ◌∙◌}
use Rattle.std.specs.Prelude.{[], ◌∷◌}
use Rattle.std.proofs.Common.{rules}
use Rattle.laws.specs.Checks.{stopped, arena_shape}
use Rattle.model.specs.Checks.{script_rules}
use Rattle.foreign.proofs.script_check.Goals as goal

pub lists_fault-requires : goal.lists_fault-requires
lists_fault-requires c = let a = c.args in arena_shape a.head a.table.now a.health.now (sym c.arena_fault.ensures ∙ c.in_ok-arena_fault.was)

pub returns-in_err-arena_fault : goal.returns-in_err-arena_fault
unfolding script_rules
returns-in_err-arena_fault c = stopped (_ ∷ _ ∷ []) _ _ (search rules) (sym c.arena_fault.ensures ∙ c.in_err-arena_fault.was)
