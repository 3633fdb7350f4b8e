-- `multilock::checks::bindings_fault` meets its contract.
use Prim.Native.Nat.{◌≤◌, ◌-◌, ◌/◌}
use mathlib.Core.Path.{◌≡◌}
use lib.ListN.{length}
use Rattle.model.specs.Checks.{bad_bindings}
use Rattle.model.specs.Refusals.{first}
use Rattle.multilock.proofs.checks.bindings_fault.Given as goal

abbrev pub invariant-loop-i : goal.invariant-loop-i
invariant-loop-i l =
    (l.i ≤ length l.keys / 2) × (first (bad_bindings (length l.keys / 2 - l.i) l.i l.registry l.keys) ≡ first (bad_bindings (length l.keys / 2) 0 l.registry l.keys))
