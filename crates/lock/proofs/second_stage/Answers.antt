-- `lock::second_stage` meets its contract.
use Rattle.model.specs.Lock.{second_stage_of}
use Rattle.foreign.specs.Laws.{FlowBound, boundary_goes}
use Rattle.lock.specs.Laws.{take_claim}
use Rattle.std.proofs.Common.{rules}
use Rattle.lock.proofs.second_stage.Goals as goal
use Rattle.lock.proofs.second_stage.Goals.{After-boundary-after}

flow_bound : (c : After-boundary-after) → FlowBound c.args.scope.steps c.boundary-after.result
flow_bound c = boundary_goes _ _ _ _ _ _ _ _ _ c.requires.0.steps_are c.boundary-after.ensures c.requires.1.0

pub late_stage-requires : goal.late_stage-requires
late_stage-requires c =
    let room = c.requires.0 in
    let p = flow_bound (goal.at.late_stage-requires c).After-boundary-after in
    (record { words_fit = search rules; bytes_fit = search rules; few_taken = room.few_taken; steps_are = room.steps_are }, (record { few = p.few; in_script = p.in_script }, c.requires.1.1))

pub returns-in-Granted : goal.returns-in-Granted
unfolding second_stage_of
returns-in-Granted c =
    let a = c.args in
    rw (← c.boundary-after.ensures, take_claim a.scope.headers a.scope.buckets a.scope.boot _ _ _, ← c.head.ensures, ← c.claim_at-claim.ensures, c.in-Granted.is, ← c.late_stage.ensures)

pub returns-in-Busy : goal.returns-in-Busy
unfolding second_stage_of
returns-in-Busy c =
    let a = c.args in
    rw (← c.boundary-after.ensures, take_claim a.scope.headers a.scope.buckets a.scope.boot _ _ _, ← c.head.ensures, ← c.claim_at-claim.ensures, c.in-Busy.is, ← c.stopped.ensures)

pub returns-in-Damaged : goal.returns-in-Damaged
unfolding second_stage_of
returns-in-Damaged c =
    let a = c.args in
    rw (← c.boundary-after.ensures, take_claim a.scope.headers a.scope.buckets a.scope.boot _ _ _, ← c.head.ensures, ← c.claim_at-claim.ensures, c.in-Damaged.is, ← c.stopped-in-Damaged.ensures)

pub returns-in-Spent : goal.returns-in-Spent
unfolding second_stage_of
returns-in-Spent c =
    let a = c.args in
    rw (← c.boundary-after.ensures, take_claim a.scope.headers a.scope.buckets a.scope.boot _ _ _, ← c.head.ensures, ← c.claim_at-claim.ensures, c.in-Spent.is, ← c.stopped-in-Spent.ensures)
