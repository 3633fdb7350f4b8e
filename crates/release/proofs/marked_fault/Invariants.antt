-- `release::marked_fault` meets its contract.
use Prim.Native.Nat.{◌≤◌, ◌*◌, ◌/◌}
use mathlib.Core.Path.{◌≡◌}
use mathlib.Core.List.{[]}
use lib.ListN.{length, take, drop}
use Rattle.model.specs.Arena.{holds_of, leases_of}
use Rattle.model.specs.Checks.{not_releasable}
use Rattle.model.specs.Refusals.{first}
use Rattle.release.specs.Repeats.{Spares}
use Rattle.release.proofs.marked_fault.Given as goal

abbrev pub invariant-loop-i : goal.invariant-loop-i
invariant-loop-i g l =
    (l.i ≤ length l.leases / 3)
    × ((first (not_releasable l.head l.table l.i (holds_of (take (3 * l.i) l.leases)) (leases_of (drop (3 * l.i) l.leases))) ≡ first (not_releasable l.head l.table 0 [] (leases_of l.leases)))
    × ((length l.marks ≡ g.row.MARKS) × Spares g.row.MARKS l.marks (holds_of (take (3 * l.i) l.leases))))
