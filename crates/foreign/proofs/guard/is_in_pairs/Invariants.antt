-- `foreign::guard::is_in_pairs` meets its contract.
use Prim.Native.Nat.{◌-◌}
use mathlib.Core.Path.{◌≡◌}
use native.Mathlib.Omega.{arith}
use Rattle.model.specs.Arena.{is_in}
use Rattle.foreign.specs.Laws.{pairs_at, pairs_end}
use Rattle.foreign.specs.Model.{pairs_of}
use Rattle.foreign.proofs.guard.is_in_pairs.Given as goal

abbrev pub invariant-loop-i : goal.invariant-loop-i
invariant-loop-i l = is_in l.hold (pairs_of (l.n - l.i) l.i l.taken) ≡ is_in l.hold (pairs_of l.n 0 l.taken)
