-- `bucket::quiet::quiet_retry` meets its contract.
use Prim.Native.Nat.{◌-◌}
use mathlib.Core.Path.{refl}
use native.Mathlib.Omega.{arith}
use Rattle.bucket.specs.Bounds.{try_most}
use Rattle.bucket.specs.Quiet.{Waiting, more_few, attempt_few, pause_few, wait_at, wait_end}
use Rattle.bucket.proofs.quiet.quiet_retry.Given as goal

abbrev pub invariant-loop-i : goal.invariant-loop-i
invariant-loop-i l =
    Waiting l.cell l.initial.run l.initial.table l.i l.last l.run l.table
