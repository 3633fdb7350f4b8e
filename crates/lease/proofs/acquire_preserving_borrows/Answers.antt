-- `lease::acquire_preserving_borrows` meets its contract.
use mathlib.Core.Path.{sym, ◌∙◌}
use native.Mathlib.Omega.{arith}
use Rattle.laws.specs.Checks.{held_cell_fine}
use Rattle.lease.proofs.acquire_preserving_borrows.Goals as goal

pub acquire-requires : goal.acquire-requires
acquire-requires c = let f = held_cell_fine _ _ _ _ (sym c.held_cell_check.ensures ∙ c.in-Ok.is) in omega (arith, f.shape.words_are, f.inside)
