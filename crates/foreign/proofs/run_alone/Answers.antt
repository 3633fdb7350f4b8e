-- `foreign::run_alone` meets its contract.
use lib.ListN.{replicate}
use native.Mathlib.Omega.{arith}
use Rattle.model.specs.Foreign.{flow_of}
use Rattle.foreign.specs.Fine.{scope_room, scope_flow_bound, scope_none, alone_free}
use Rattle.foreign.proofs.run_alone.Goals as goal

pub returns-then-held-eq0 : goal.returns-then-held-eq0
returns-then-held-eq0 c = let a = c.args in
    rw (alone_free _ a.head a.script.now a.held.now (flow_of a.head.next a.place 0) a.table.now a.health.now c.scope_of-scope.ensures c.if-held-eq0.true) c.run.ensures

pub boundary-requires : goal.boundary-requires
boundary-requires c = let e = c.scope_of-scope.ensures in let f = c.requires in
    (scope_room _ _ _ _ _ _ _ e f (omega arith), scope_flow_bound _ _ _ _ _ _ 0 e f)

pub returns : goal.returns
returns c = let a = c.args in
    rw (← scope_none _ a.head a.script.now a.held.now (replicate 64 (replicate 2 0)) c.scope_of-scope.ensures) c.boundary.ensures
