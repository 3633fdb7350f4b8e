-- `multilock::rollback::give_pairs` meets its contract.
use Rattle.model.specs.Arena.{holds_of}
use Rattle.foreign.specs.Model.{pairs_of, in_scope}
use Rattle.release.specs.Release.{Giving}
use Rattle.multilock.proofs.rollback.give_pairs.Given as goal

abbrev pub invariant-loop-k : goal.invariant-loop-k
invariant-loop-k l =
    Giving (in_scope l.scope l.script (holds_of l.held)) l.scope.steps (pairs_of l.n 0 l.taken) l.n l.initial.run l.initial.table l.initial.health l.k l.run l.table l.health
