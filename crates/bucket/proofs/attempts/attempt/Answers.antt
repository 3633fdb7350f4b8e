-- `bucket::attempts::attempt` meets its contract.
use native.Mathlib.Omega.{arith}
use Rattle.bucket.specs.Laws.{locked_bound_of, quiet_few}
use Rattle.bucket.specs.Model.{attempted_of}
use Rattle.foreign.specs.Model.{setting_of}
use Rattle.lock.specs.Laws.{lock_quiet, quiet_is}
use Rattle.bucket.proofs.attempts.attempt.Goals as goal

pub lock-locked-requires : goal.lock-locked-requires
lock-locked-requires c = (c.requires.0, (c.requires.1.0.flow_bound, (c.requires.1.1 _ c.in-Ok.is).there))

pub counted-requires : goal.counted-requires
counted-requires c =
    let run-bound = c.requires.1.0 in
    let k = locked_bound_of _ _ _ _ _ c.requires.0.steps_are _ _ _ _ _ _ c.lock-locked.ensures run-bound.flow_bound in
    (run-bound.few_attempts, (run-bound.few_boundaries, k.few))

pub quiet_take-quiet-requires : goal.quiet_take-quiet-requires
quiet_take-quiet-requires c = omega (arith, c.requires.0.words_fit, (c.requires.1.1 _ c.in-Ok.is).there.inside)

pub overflow_add-run-in-Ok : goal.overflow_add-run-in-Ok
overflow_add-run-in-Ok c =
    let run-bound = c.requires.1.0 in
    omega (arith, run-bound.few_boundaries, quiet_few _ _ _ _ c.quiet_take-quiet.ensures)

pub returns-else-flow-scope : goal.returns-else-flow-scope
unfolding attempted_of
returns-else-flow-scope c =
    let a = c.args in
    let e = setting_of a.scope a.script.now a.holds.now.held.now a.holds.now.taken.now a.holds.now.n in
    let f = c.in-Ok.is in
    rw (f, lock_quiet e a.scope.buckets a.health.now _ (c.requires.1.1 _ f).healthy a.run.flow a.table.now (omega (arith, c.if-flow-scope.false, c.requires.0.steps_are)), quiet_is _ _ _, ← c.quiet_take-quiet.ensures, ← c.quiet_outcome.ensures, ← c.reason_apart-in-Ok.ensures)
