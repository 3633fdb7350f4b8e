-- `crew_at_work::work_check` meets its contract.
use Rattle.std.specs.Prelude.{[], ◌∷◌, not}
use Rattle.std.proofs.Common.{sym, ap, ◌∙◌, rules, eq-eqb}
use Rattle.std.proofs.lemmas.Bool.{ne_eqb}
use Rattle.model.specs.Crew.{crew_at_work_rules}
use Rattle.laws.specs.Checks.{stopped, went_on, first_hit, first_skip}
use Rattle.crew_at_work.proofs.work_check.Goals as goal

pub returns-in_err-arena_fault : goal.returns-in_err-arena_fault
unfolding crew_at_work_rules
returns-in_err-arena_fault c = stopped (_ ∷ _ ∷ []) _ _ (search rules) (sym c.arena_fault.ensures ∙ c.in_err-arena_fault.was)

pub returns-then-counters-inside : goal.returns-then-counters-inside
unfolding crew_at_work_rules
returns-then-counters-inside c =
    went_on (_ ∷ _ ∷ []) _ (sym (first_hit _ _ (ap not (ne_eqb _ _ c.if-counters-inside.true)))) (sym c.arena_fault.ensures ∙ c.in_ok-arena_fault.was)

pub returns : goal.returns
unfolding crew_at_work_rules
returns c =
    went_on (_ ∷ _ ∷ []) _ (c.plan_fault.ensures ∙ sym (first_skip _ _ (ap not (eq-eqb _ _ c.if-counters-inside.false)))) (sym c.arena_fault.ensures ∙ c.in_ok-arena_fault.was)
