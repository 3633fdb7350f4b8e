-- `bucket::once_by_key` meets its contract.
use native.Mathlib.Omega.{arith}
use Rattle.model.specs.Calls.{starting}
use Rattle.bucket.specs.Fine.{fine_key, start_run_bound, once_given, once_by_key_of}
use Rattle.bucket.specs.Laws.{more_run_bound, lands, find_target}
use Rattle.bucket.proofs.once_by_key.Goals as goal

pub attempt_alone-tried-requires : goal.attempt_alone-tried-requires
attempt_alone-tried-requires c =
    let a = c.args in
    let f = c.requires in
    let k = fine_key _ a.head _ _ _ _ a.place a.key.binding 0 c.scope_of-scope.ensures f.script_ok f.bound (omega arith) in
    (k.room, (rw c.starting-start.ensures (more_run_bound _ _ _ _ (omega arith) (start_run_bound _ a.head _ _ _ a.place c.scope_of-scope.ensures f.script_ok)), lands c.scope_of-scope.result _ _ _ _ _ k.cells_are c.find-found.ensures))

pub returns : goal.returns
unfolding once_by_key_of
returns c =
    let a = c.args in
    rw (← once_given _ a.head a.script.now a.held.now a.registry.now a.key.binding a.key.bucket (starting a.head a.place) a.table.now a.health.now c.scope_of-scope.ensures _ (find_target _ _ _ _ _ _ _ _ c.target_of.ensures c.find-found.ensures), ← c.starting-start.ensures, ← c.attempt_alone-tried.ensures, ← c.answer_of-answer.ensures, ← c.script_reply.ensures)
