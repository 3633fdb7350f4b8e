-- `lock::late_stage` meets its contract.
use borrow.Author.Tests.{eq-eqb, ne_eqb}
use Rattle.model.specs.Lock.{late_stage_of}
use Rattle.lock.specs.Laws.{gave_up_lem}
use Rattle.lock.proofs.late_stage.Goals as goal

pub returns-then-health-header-ne0 : goal.returns-then-health-header-ne0
unfolding late_stage_of
returns-then-health-header-ne0 c = rw (← c.protecting_boundary-after.ensures, ne_eqb _ _ c.if-health-header-ne0.true) (gave_up_lem _ _ _ _ _ _ c.give_up.ensures)

pub returns : goal.returns
unfolding late_stage_of
returns c = rw (← c.protecting_boundary-after.ensures, eq-eqb _ _ c.if-health-header-ne0.false, ← c.waiters_at.ensures, ne_eqb _ _ c.if-waiters_at-eq0.false) (gave_up_lem _ _ _ _ _ _ c.give_up-2.ensures)
