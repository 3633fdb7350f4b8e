-- `multilock::keys::lock_keys` meets its contract.
use Rattle.model.specs.Arena.{holds_of}
use Rattle.foreign.specs.Model.{pairs_of, in_scope}
use Rattle.multilock.specs.Locks.{Keying}
use Rattle.multilock.proofs.keys.lock_keys.Given as goal

abbrev pub invariant-loop-p : goal.invariant-loop-p
invariant-loop-p l =
    Keying (in_scope l.scope l.script (holds_of l.held)) l.scope.steps l.scope.cells l.n l.scope.buckets l.scope.boot l.registry l.keys l.grants l.free (pairs_of l.free 0 l.initial.taken) l.initial.run l.initial.table l.initial.health l.p l.taken l.run l.table l.health
