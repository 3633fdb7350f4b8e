-- `crew_at_work::crew_at_work` meets its contract.
use Rattle.std.proofs.Common.{sym, ◌∙◌}
use Rattle.model.specs.Crew.{shift_of, crew_at_work_of}
use Rattle.crew.specs.Model.{take_turns_of, finish_of, crew_run_of}
use Rattle.crew_at_work.specs.Laws.{work_fine}
use Rattle.crew_at_work.proofs.crew_at_work.Goals as goal

pub crew_run-requires : goal.crew_run-requires
crew_run-requires c = (work_fine _ _ _ _ _ _ _ (sym c.work_check.ensures ∙ c.in-Ok.is)).0

pub returns-in-Err : goal.returns-in-Err
unfolding crew_at_work_of
returns-in-Err c = rw (← c.work_check.ensures, c.in-Err.is, ← c.refuse.ensures)

pub returns-in-Ok : goal.returns-in-Ok
unfolding crew_at_work_of shift_of crew_run_of take_turns_of finish_of
returns-in-Ok c = rw (← c.work_check.ensures, c.in-Ok.is) c.crew_run.ensures
