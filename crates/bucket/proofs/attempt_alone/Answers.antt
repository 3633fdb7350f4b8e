-- `bucket::attempt_alone` meets its contract.
use native.Mathlib.Omega.{arith}
use lib.ListN.{replicate}
use Rattle.model.specs.Arena.{holds_of}
use Rattle.foreign.specs.Fine.{guards_none}
use Rattle.foreign.specs.Model.{in_scope}
use Rattle.bucket.specs.Laws.{more_run_bound}
use Rattle.bucket.specs.Quiet.{run_few, lands_within, once_quiet}
use Rattle.bucket.proofs.attempt_alone.Goals as goal

pub quiet_once_at-requires : goal.quiet_once_at-requires
quiet_once_at-requires c = (run_few _ _ _ c.requires.1.0, lands_within c.args.scope _ _ _ _ _ _ c.requires.0 c.requires.1.1)

pub returns-then-scope-run : goal.returns-then-scope-run
returns-then-scope-run c =
    let a = c.args in
    let e = in_scope a.scope a.script.now (holds_of a.held.now) in
    rw (once_quiet e a.scope.buckets a.health.now a.found a.run a.table.now (λ d q. (c.requires.1.1 d q).healthy) (omega (arith, c.if-scope-run.true, c.requires.0.steps_are)), ← c.quiet_once_at.ensures)

pub attempt_once-requires : goal.attempt_once-requires
attempt_once-requires c = (c.requires.0, (more_run_bound _ _ _ _ (omega arith) c.requires.1.0, c.requires.1.1))

pub returns : goal.returns
returns c = rw (← guards_none c.args.held.now (replicate 64 (replicate 2 0)), ← c.attempt_once.ensures)
