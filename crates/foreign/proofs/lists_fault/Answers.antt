-- `foreign::lists_fault` meets its contract.
use mathlib.Core.Path.{sym, ◌∙◌}
use Rattle.std.specs.Prelude.{[], ◌∷◌}
use Rattle.std.proofs.Common.{rules}
use Rattle.laws.specs.Checks.{stopped}
use Rattle.foreign.proofs.lists_fault.Goals as goal

pub returns-in_err-script_fault : goal.returns-in_err-script_fault
returns-in_err-script_fault c = stopped (_ ∷ []) _ _ (search rules) (sym c.script_fault.ensures ∙ c.in_err-script_fault.was)
