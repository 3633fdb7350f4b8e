-- `bucket::quiet::quiet_retry` meets its contract.
use Prim.Native.Nat.{◌-◌}
use native.Mathlib.Omega.{arith}
use Rattle.bucket.specs.Bounds.{try_most}
use Rattle.bucket.specs.Quiet.{more_few, attempt_few, pause_few, wait_at, wait_end}
use Rattle.std.proofs.Common.{rules}
use Rattle.bucket.proofs.quiet.quiet_retry.Goals as goal

pub quiet_pause-run-requires : goal.quiet_pause-run-requires
quiet_pause-run-requires c =
    let l = c.loop-i in
    attempt_few _ _ _ _ try_most c.quiet_attempt-tried.ensures (more_few _ _ _ (omega (arith, l.invariant.few)) l.invariant.counts)

pub returns-else-is_busy : goal.returns-else-is_busy
returns-else-is_busy c =
    let l = c.loop-i in
    rw (← l.invariant.rest, wait_at 4096 l.i l.last l.run l.table c.args.cell _ c.quiet_attempt-tried.ensures c.loop-i-test.true, ← c.is_busy.ensures, c.if-is_busy.false)

pub loop-i-preserved : goal.loop-i-preserved
loop-i-preserved c =
    let l = c.loop-i in
    record {
      counts = more_few _ _ _ (omega arith) (pause_few _ l.i _ _ c.quiet_pause-run.ensures (attempt_few _ _ _ _ _ c.quiet_attempt-tried.ensures l.invariant.counts));
      few = search rules;
      words = search rules;
      rest = rw (← l.invariant.rest, wait_at 4096 l.i l.last l.run l.table c.args.cell _ c.quiet_attempt-tried.ensures c.loop-i-test.true, ← c.is_busy.ensures, c.if-is_busy.true, ← c.quiet_pause-run.ensures, ← c.last_of-last.ensures);
    }

pub returns : goal.returns
returns c =
    let l = c.loop-i in
    rw (← l.invariant.rest, wait_end 4096 l.i l.last l.run l.table c.args.cell c.loop-i-test.false)
