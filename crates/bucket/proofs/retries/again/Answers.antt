-- `bucket::retries::again` meets its contract.
use native.Mathlib.Omega.{arith}
use Rattle.model.specs.Lock.{attempt_of}
use Rattle.bucket.specs.Laws.{more_run_bound, attempt_goes, lands}
use Rattle.bucket.specs.Model.{again_of}
use Rattle.std.proofs.Common.{rules}
use Rattle.bucket.proofs.retries.again.Goals as goal

pub find-found-requires : goal.find-found-requires
find-found-requires c = c.requires.0.fit

pub attempt-attempted-requires : goal.attempt-attempted-requires
attempt-attempted-requires c =
    let k = c.requires.0 in
    (k.room, (c.requires.1, lands c.args.scope _ _ _ _ _ k.cells_are c.find-found.ensures))

pub pause-run-requires : goal.pause-run-requires
pause-run-requires c =
    let a = c.args in
    let room = c.requires.0.room in
    (record { words_fit = search rules; bytes_fit = search rules; few_taken = room.few_taken; steps_are = room.steps_are }, more_run_bound _ _ _ _ (omega arith) (attempt_goes _ _ _ _ _ room.steps_are _ c.find-found.result _ _ a.run a.table.now a.health.now c.attempt-attempted.ensures c.requires.1))

pub returns-then-is_busy : goal.returns-then-is_busy
unfolding again_of attempt_of
returns-then-is_busy c = rw (← c.find-found.ensures, ← c.attempt-attempted.ensures, ← c.is_busy.ensures, c.if-is_busy.true, ← c.pause-run.ensures)

pub returns : goal.returns
unfolding again_of attempt_of
returns c = rw (← c.find-found.ensures, ← c.attempt-attempted.ensures, ← c.is_busy.ensures, c.if-is_busy.false)
