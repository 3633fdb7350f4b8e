-- `release::give_back` meets its contract.
use Prim.Native.Nat.{◌/◌}
use mathlib.Core.List.{[]}
use lib.ListN.{length}
use Rattle.model.specs.Arena.{holds_of}
use Rattle.foreign.specs.Model.{in_scope}
use Rattle.release.specs.Release.{Giving}
use Rattle.release.proofs.give_back.Given as goal

abbrev pub invariant-loop-k : goal.invariant-loop-k
invariant-loop-k l =
    Giving (in_scope l.scope l.script []) l.scope.steps (holds_of l.leases) (length l.leases / 3) l.initial.run l.initial.table l.initial.health l.k l.run l.table l.health
