-- `bucket::attempts::attempt_once` meets its contract.
use Rattle.bucket.specs.Laws.{locked_bound_of}
use Rattle.bucket.proofs.attempts.attempt_once.Goals as goal

pub lock-locked-requires : goal.lock-locked-requires
lock-locked-requires c = (c.requires.0, (c.requires.1.0.flow_bound, (c.requires.1.1 _ c.in-Ok.is).there))

pub counted-requires : goal.counted-requires
counted-requires c =
    let run-bound = c.requires.1.0 in
    let k = locked_bound_of _ _ _ _ _ c.requires.0.steps_are _ _ _ _ _ _ c.lock-locked.ensures run-bound.flow_bound in
    (run-bound.few_attempts, (run-bound.few_boundaries, k.few))
