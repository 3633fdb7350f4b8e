-- `lock::lock_check` meets its contract.
use mathlib.Core.Path.{sym, ◌∙◌}
use Rattle.std.proofs.Common.{rules}
use Rattle.foreign.specs.Fine.{script_fine}
use Rattle.laws.specs.Checks.{stopped, went_on}
use Rattle.model.specs.Checks.{lock_rules}
use Rattle.lock.proofs.lock_check.Goals as goal

pub cell_fault-requires : goal.cell_fault-requires
cell_fault-requires c =
    let a = c.args in
    (script_fine a.head a.table.now a.health.now a.script.now a.place a.held.now (sym c.script_check.ensures ∙ c.in_ok-script_check.was)).shape.few_cells

pub returns-in_err-script_check : goal.returns-in_err-script_check
unfolding lock_rules
returns-in_err-script_check c = stopped _ _ _ (search rules) (sym c.script_check.ensures ∙ c.in_err-script_check.was)

pub returns : goal.returns
unfolding lock_rules
returns c = went_on _ _ c.cell_fault.ensures (sym c.script_check.ensures ∙ c.in_ok-script_check.was)
