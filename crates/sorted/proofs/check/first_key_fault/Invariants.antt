-- `sorted::check::first_key_fault` meets its contract.
use Prim.Native.Nat.{◌≤◌, ◌-◌}
use mathlib.Core.Path.{◌≡◌}
use Rattle.model.specs.Sorted.{first_key}
use Rattle.model.specs.Checks.{count_in}
use Rattle.sorted.proofs.check.first_key_fault.Given as goal

abbrev pub invariant-loop-p : goal.invariant-loop-p
invariant-loop-p l = (l.p ≤ count_in l.keys) × (first_key (count_in l.keys - l.p) l.p l.head l.registry l.keys ≡ first_key (count_in l.keys) 0 l.head l.registry l.keys)
