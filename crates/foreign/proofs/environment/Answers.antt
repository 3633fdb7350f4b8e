-- `foreign::environment` meets its contract.
use mathlib.Core.Path.{sym, ◌∙◌}
use Rattle.foreign.specs.Fine.{script_fine}
use Rattle.foreign.proofs.environment.Goals as goal

pub run_once-requires : goal.run_once-requires
run_once-requires c = script_fine _ _ _ _ _ _ (sym c.script_check.ensures ∙ c.in-Ok.is)
