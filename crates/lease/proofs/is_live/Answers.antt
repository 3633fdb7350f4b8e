-- `lease::is_live` meets its contract.
use native.Mathlib.Omega.{arith}
use Rattle.laws.specs.Shape.{shaped}
use Rattle.lease.proofs.is_live.Goals as goal

pub overflow_mul-head : goal.overflow_mul-head
overflow_mul-head c = let s = shaped _ _ c.requires in omega arith

pub is_live-requires : goal.is_live-requires
is_live-requires c = let s = shaped _ _ c.requires in omega arith
