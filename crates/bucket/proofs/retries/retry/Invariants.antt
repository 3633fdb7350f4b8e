-- `bucket::retries::retry` meets its contract.
use Prim.Native.Nat.{◌-◌}
use mathlib.Core.Path.{refl, ◌∙◌}
use native.Mathlib.Omega.{arith}
use Rattle.bucket.specs.Laws.{Retrying, more_run_bound, turn_goes, retry_at_lem, retry_end, again_header}
use Rattle.bucket.specs.Model.{key_for, key_alone}
use Rattle.foreign.specs.Model.{setting_of}
use Rattle.bucket.proofs.retries.retry.Given as goal

abbrev pub invariant-loop-i : goal.invariant-loop-i
invariant-loop-i l =
    Retrying (setting_of l.scope l.script l.holds.held.now l.holds.taken.now l.holds.n) l.scope.steps l.scope.buckets l.registry l.binding l.bucket l.initial.run l.initial.table l.initial.health l.i l.last l.run l.table l.health
