-- `crew_plan::first_stray` meets its contract.
use Prim.Native.Nat.{◌≤◌}
use mathlib.Core.Path.{◌≡◌}
use lib.ListN.{length, drop}
use Rattle.model.specs.Crew.{bad_turns}
use Rattle.model.specs.Refusals.{first}
use Rattle.crew_plan.proofs.first_stray.Given as goal

abbrev pub invariant-loop-i : goal.invariant-loop-i
invariant-loop-i l =
    (l.i ≤ length l.turns) × (first (bad_turns l.members l.i (drop l.i l.turns)) ≡ first (bad_turns l.members 0 l.turns))
