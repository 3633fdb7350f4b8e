-- `lease::cell_check` meets its contract.
use mathlib.Core.Path.{sym, ◌∙◌}
use Rattle.laws.specs.Checks.{shape_passed}
use Rattle.laws.specs.Shape.{shaped}
use Rattle.lease.proofs.cell_check.Goals as goal

pub cell_fault-requires : goal.cell_fault-requires
cell_fault-requires c = (shaped _ _ (shape_passed _ _ (sym c.shape_fault.ensures ∙ c.in_ok-shape_fault.was))).few_cells
