-- `lease::live_fault` meets its contract.
use Prim.Native.Nat.{◌*◌}
use mathlib.Core.Path.{◌≡◌}
use lib.ListN.{drop}
use Rattle.model.specs.Arena.{leases_of}
use Rattle.model.specs.Checks.{not_live}
use Rattle.model.specs.Refusals.{first}
use Rattle.lease.proofs.live_fault.Given as goal

abbrev pub invariant-loop-i : goal.invariant-loop-i
invariant-loop-i l = first (not_live l.head l.table l.i (leases_of (drop (3 * l.i) l.held))) ≡ first (not_live l.head l.table 0 (leases_of l.held))
