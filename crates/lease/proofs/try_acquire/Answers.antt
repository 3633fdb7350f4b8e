-- `lease::try_acquire` meets its contract.
use mathlib.Core.Path.{sym, ◌∙◌}
use native.Mathlib.Omega.{arith}
use Rattle.laws.specs.Checks.{cell_fine}
use Rattle.lease.proofs.try_acquire.Goals as goal

pub acquire-requires : goal.acquire-requires
acquire-requires c = let f = cell_fine _ _ _ (sym c.cell_check.ensures ∙ c.in-Ok.is) in omega (arith, f.shape.words_are, f.inside)
