-- `lease::competing_acquire_is_excluded` meets its contract.
use mathlib.Core.Path.{sym, ◌∙◌}
use native.Mathlib.Omega.{arith}
use Rattle.laws.specs.Checks.{lease_fine}
use Rattle.lease.proofs.competing_acquire_is_excluded.Goals as goal

pub acquire-requires : goal.acquire-requires
acquire-requires c = let f = lease_fine _ _ _ (sym c.lease_check.ensures ∙ c.in-Ok.is) in omega (arith, f.shape.words_are, f.inside)
