-- `lock::lock_alone` meets its contract: past the end a try_lock is the quiet one, of a healthy header.
use native.Mathlib.Omega.{arith}
use lib.ListN.{replicate}
use Rattle.model.specs.Arena.{holds_of}
use Rattle.foreign.specs.Fine.{guards_none}
use Rattle.foreign.specs.Model.{in_scope}
use Rattle.lock.specs.Laws.{lock_quiet}
use Rattle.lock.proofs.lock_alone.Goals as goal

pub returns-then-health-header-eq0 : goal.returns-then-health-header-eq0
returns-then-health-header-eq0 c =
    let a = c.args in
    let e = in_scope a.scope a.script.now (holds_of a.held.now) in
    rw (lock_quiet e a.scope.buckets a.health.now a.cell c.if-health-header-eq0.true a.flow a.table.now (omega (arith, c.if-scope-flow.true, c.requires.0.steps_are)), ← c.quiet_lock.ensures)

pub returns : goal.returns
returns c = rw (← guards_none c.args.held.now (replicate 64 (replicate 2 0)), ← c.lock.ensures)
