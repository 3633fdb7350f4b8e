-- `lease::held_cell_check` meets its contract.
use mathlib.Core.Path.{sym, ◌∙◌}
use Rattle.std.specs.Prelude.{[], ◌∷◌}
use Rattle.std.proofs.Common.{rules}
use Rattle.laws.specs.Checks.{stopped, shape_passed, went_on}
use Rattle.laws.specs.Shape.{shaped}
use Rattle.model.specs.Checks.{held_cell_rules}
use Rattle.lease.proofs.held_cell_check.Goals as goal

pub held_fault-requires : goal.held_fault-requires
held_fault-requires c = shape_passed _ _ (sym c.shape_fault.ensures ∙ c.in_ok-shape_fault.was)

pub cell_fault-requires : goal.cell_fault-requires
cell_fault-requires c = (shaped _ _ (shape_passed _ _ (sym c.shape_fault.ensures ∙ c.in_ok-shape_fault.was))).few_cells

pub returns-in_err-shape_fault : goal.returns-in_err-shape_fault
unfolding held_cell_rules
returns-in_err-shape_fault c = stopped (_ ∷ []) _ _ (search rules) (sym c.shape_fault.ensures ∙ c.in_err-shape_fault.was)

pub returns-in_err-held_fault : goal.returns-in_err-held_fault
unfolding held_cell_rules
returns-in_err-held_fault c =
    let e = stopped _ _ _ (search rules) (sym c.held_fault.ensures ∙ c.in_err-held_fault.was) in
    went_on (_ ∷ []) _ e (sym c.shape_fault.ensures ∙ c.in_ok-shape_fault.was)

pub returns : goal.returns
unfolding held_cell_rules
returns c =
    let e = went_on _ _ c.cell_fault.ensures (sym c.held_fault.ensures ∙ c.in_ok-held_fault.was) in
    went_on (_ ∷ []) _ e (sym c.shape_fault.ensures ∙ c.in_ok-shape_fault.was)
