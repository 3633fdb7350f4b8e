-- `lease::is_in` meets its contract.
use Prim.Native.Nat.{◌*◌}
use mathlib.Core.Path.{◌≡◌}
use lib.ListN.{drop}
use Rattle.model.specs.Arena.{holds_of, is_in}
use Rattle.lease.proofs.is_in.Given as goal

abbrev pub invariant-loop-i : goal.invariant-loop-i
invariant-loop-i l = is_in l.hold (holds_of (drop (3 * l.i) l.list)) ≡ is_in l.hold (holds_of l.list)
