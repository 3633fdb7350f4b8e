-- `bucket::retries::retry` meets its contract.
use Prim.Native.Nat.{◌-◌}
use mathlib.Core.Path.{◌∙◌}
use native.Mathlib.Omega.{arith}
use Rattle.bucket.specs.Laws.{more_run_bound, turn_goes, retry_at_lem, retry_end, again_header}
use Rattle.foreign.specs.Model.{setting_of}
use Rattle.std.proofs.Common.{rules}
use Rattle.bucket.proofs.retries.retry.Goals as goal

pub returns-else-is_busy : goal.returns-else-is_busy
returns-else-is_busy c =
    let l = c.loop-i in
    let a = c.args in
    let e = setting_of a.scope a.script.now a.holds.now.held.now a.holds.now.taken.now a.holds.now.n in
    rw (← l.invariant.rest, retry_at_lem 4096 l.i l.last e a.scope.buckets a.registry.now a.binding a.bucket l.run l.table l.health _ (c.again-attempted.ensures ∙ again_header l.i e a.scope.buckets a.registry.now a.binding a.bucket l.run l.table l.health) (search rules), ← c.is_busy.ensures, c.if-is_busy.false, ← c.concluded.ensures)

pub loop-i-preserved : goal.loop-i-preserved
loop-i-preserved c =
    let l = c.loop-i in
    let a = c.args in
    let e = setting_of a.scope a.script.now a.holds.now.held.now a.holds.now.taken.now a.holds.now.n in
    record {
      run_bound = more_run_bound _ _ _ _ (omega arith) (turn_goes _ _ _ _ _ c.requires.0.room.steps_are _ _ _ _ _ _ _ _ _ _ c.again-attempted.ensures l.invariant.run_bound);
      few = search rules;
      words = search rules;
      bytes = search rules;
      rest = rw (← l.invariant.rest, retry_at_lem 4096 l.i l.last e a.scope.buckets a.registry.now a.binding a.bucket l.run l.table l.health _ (c.again-attempted.ensures ∙ again_header l.i e a.scope.buckets a.registry.now a.binding a.bucket l.run l.table l.health) (search rules), ← c.is_busy.ensures, c.if-is_busy.true);
    }

pub returns : goal.returns
returns c =
    let l = c.loop-i in
    let a = c.args in
    let e = setting_of a.scope a.script.now a.holds.now.held.now a.holds.now.taken.now a.holds.now.n in
    rw (← l.invariant.rest, retry_end 4096 l.i l.last e a.scope.buckets a.registry.now a.binding a.bucket l.run l.table l.health (search rules))
