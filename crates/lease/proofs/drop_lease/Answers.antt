-- `lease::drop_lease` meets its contract.
use mathlib.Core.Path.{sym, ◌∙◌}
use native.Mathlib.Omega.{arith}
use Rattle.laws.specs.Checks.{lease_fine}
use Rattle.lease.proofs.drop_lease.Goals as goal

pub release-requires : goal.release-requires
release-requires c = let f = lease_fine _ _ _ (sym c.lease_check.ensures ∙ c.in-Ok.is) in omega (arith, f.shape.words_are, f.inside)
