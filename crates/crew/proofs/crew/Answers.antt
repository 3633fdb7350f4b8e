-- `crew::crew` meets its contract.
use Rattle.std.proofs.Common.{sym, ap, ◌∙◌}
use Rattle.std.specs.Prelude.{ℕ, List}
use Rattle.types.specs.declared.CrewReply.{CrewReply}
use Rattle.model.specs.Crew.{shift_of, crew_of}
use Rattle.crew_plan.specs.Fine.{crew_fine}
use Rattle.crew.specs.Model.{take_turns_of, finish_of, crew_run_of}
use Rattle.crew.proofs.crew.Goals as goal

pub crew_run-requires : goal.crew_run-requires
crew_run-requires c = crew_fine _ _ _ _ _ _ (sym c.crew_check.ensures ∙ c.in-Ok.is)

pub returns-in-Err : goal.returns-in-Err
unfolding crew_of
returns-in-Err c = rw (← c.crew_check.ensures, c.in-Err.is, ← c.refuse.ensures)

pub returns-in-Ok : goal.returns-in-Ok
unfolding crew_of shift_of crew_run_of take_turns_of finish_of
returns-in-Ok c = rw (← c.crew_check.ensures, c.in-Ok.is) (ap (λ (o : CrewReply × (List ℕ × List ℕ)). (o.0, o.1.0)) c.crew_run.ensures)
