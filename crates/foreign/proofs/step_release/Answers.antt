-- `foreign::step_release` meets its contract.
use mathlib.Core.Path.{sym, ◌∙◌}
use native.Mathlib.Omega.{arith}
use Rattle.laws.specs.Checks.{live_inside}
use Rattle.foreign.proofs.step_release.Goals as goal

pub release-requires : goal.release-requires
release-requires g c = let i = live_inside _ _ _ _ (sym c.is_live.ensures ∙ c.if-is_live.true) in omega arith
