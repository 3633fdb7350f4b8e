-- `crew_plan::all_within` meets its contract.
use Prim.Native.Nat.{◌≤◌}
use mathlib.Core.Path.{◌≡◌}
use mathlib.Core.Bool.{◌&&◌}
use lib.ListN.{length, drop}
use Rattle.model.specs.Crew.{all_within}
use Rattle.crew_plan.proofs.all_within.Given as goal

abbrev pub invariant-loop-n : goal.invariant-loop-n
invariant-loop-n l =
    (l.n-index ≤ length l.list) × ((l.fit && all_within l.most (drop l.n-index l.list)) ≡ all_within l.most l.list)
