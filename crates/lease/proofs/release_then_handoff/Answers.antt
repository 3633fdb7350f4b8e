-- `lease::release_then_handoff` meets its contract.
use mathlib.Core.Path.{sym, ◌∙◌}
use native.Mathlib.Omega.{arith}
use Rattle.laws.specs.Checks.{lease_fine}
use Rattle.lease.proofs.release_then_handoff.Goals as goal

pub hand_on-requires : goal.hand_on-requires
hand_on-requires c = let f = lease_fine _ _ _ (sym c.lease_check.ensures ∙ c.in-Ok.is) in omega (arith, f.shape.words_are, f.inside)
