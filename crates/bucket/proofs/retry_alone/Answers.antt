-- `bucket::retry_alone` meets its contract.
use native.Mathlib.Omega.{arith}
use lib.ListN.{replicate}
use Rattle.model.specs.Arena.{holds_of}
use Rattle.foreign.specs.Fine.{guards_none}
use Rattle.foreign.specs.Model.{in_scope}
use Rattle.bucket.specs.Laws.{lands, find_target}
use Rattle.bucket.specs.Quiet.{run_few, lands_within, retry_quiet}
use Rattle.bucket.proofs.retry_alone.Goals as goal

pub quiet_retry_at-requires : goal.quiet_retry_at-requires
quiet_retry_at-requires c =
    let s = c.args.scope in
    (run_few _ _ _ c.requires.1, lands_within s _ _ _ _ _ _ c.requires.0.room (lands s _ _ _ _ _ c.requires.0.cells_are c.find-found.ensures))

pub returns-then-scope-run : goal.returns-then-scope-run
returns-then-scope-run c =
    let a = c.args in
    let e = in_scope a.scope a.script.now (holds_of a.held.now) in
    rw (retry_quiet e a.scope.buckets a.health.now a.registry.now a.key.binding a.key.bucket 4096 _ a.run a.table.now (omega arith) (find_target _ _ _ _ _ _ _ _ c.target_of.ensures c.find-found.ensures) (omega (arith, c.if-scope-run.true, c.requires.0.room.steps_are)), ← c.quiet_retry_at.ensures)

pub returns : goal.returns
returns c = rw (← guards_none c.args.held.now (replicate 64 (replicate 2 0)), ← c.retry.ensures)
