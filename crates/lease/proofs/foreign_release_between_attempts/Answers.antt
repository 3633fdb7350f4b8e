-- `lease::foreign_release_between_attempts` meets its contract.
use mathlib.Core.Path.{sym, ◌∙◌}
use native.Mathlib.Omega.{arith}
use Rattle.laws.specs.Checks.{held_lease_fine}
use Rattle.lease.proofs.foreign_release_between_attempts.Goals as goal

pub acquire-busy-requires : goal.acquire-busy-requires
acquire-busy-requires c = let f = held_lease_fine _ _ _ _ (sym c.held_lease_check.ensures ∙ c.in-Ok.is) in omega (arith, f.shape.words_are, f.inside)

pub hand_on-requires : goal.hand_on-requires
hand_on-requires c = let f = held_lease_fine _ _ _ _ (sym c.held_lease_check.ensures ∙ c.in-Ok.is) in omega (arith, f.shape.words_are, f.inside, c.acquire-busy.auto)
