-- Whole traces, no two takes exchanged: logs, lists of steps, the lone steps of a history.
use Rattle.std.specs.Prelude.{◌≡◌, refl, List, [], ◌∷◌}
use Rattle.std.proofs.Common.{sym, ap, ◌∙◌, subst, arith}
use Rattle.model.specs.Log.{Event}
use Rattle.types.specs.declared.Hold.{Hold}
use Rattle.history.specs.World.{World, after_event, now, Lawful, number_of_lem}
use Rattle.history.specs.Items.{foreign_step, next_item, run, foreign}
use Rattle.swaps.specs.Steps.{Step, leaves, after_all, dropped_in, Shuffled}
use Rattle.swaps.specs.Steps as steps
use Rattle.swaps.specs.Logs.{Reordered, same, neighbours, behind, onward}
use Rattle.swaps.specs.Statements.{Alike, LogsReordered, StepsShuffled, LoneSteps, HistoryShuffled}
use Rattle.swaps.specs.Fine.{Fine, fine, fine_on}
use Rattle.swaps.proofs.Pairs.{apart_sym, commute, before, after}
use Rattle.swaps.proofs.Acts.{swapped, fine_leaves}

-- ---- logs

alike : (w : World) {es fs : List Event} → Fine w → Reordered es fs → Lawful w es → Alike w es fs
unfolding number_of_lem
alike w g same l = record { lawful = l; state = refl; numbers = λ k. refl }
alike w g (neighbours {e = e} {f = f} {es = es} a) l =
    let c : after_event (after_event w e) f ≡ after_event (after_event w f) e = commute w a in
    record {
      lawful = (before w g a l.1.0, (after w g (apart_sym a) l.0, subst (λ (v : World). Lawful v es) c l.1.1));
      state = ap (λ (v : World). now v es) (sym c);
      numbers = λ k. omega arith;
    }
alike w g (behind {e = e} r) l =
    let i = alike (after_event w e) (fine_on w e g l.0) r l.1 in
    record { lawful = (l.0, i.lawful); state = i.state; numbers = λ k. omega (arith, i.numbers k) }
alike w g (onward r s) l =
    let i = alike w g r l in
    let j = alike w g s i.lawful in
    record { lawful = j.lawful; state = j.state ∙ i.state; numbers = λ k. j.numbers k ∙ i.numbers k }

pub logs_reorder : LogsReordered
logs_reorder w es fs g r l = alike w (fine w g) r l

-- ---- lists of steps

pub shuffle : (ps : List Hold) (w : World) {ss ts : List Step} → Fine w → Shuffled ss ts
    → (after_all ps w ts ≡ after_all ps w ss) × (dropped_in ps w ts ≡ dropped_in ps w ss)
unfolding after_all dropped_in
shuffle ps w g steps.same = (refl, refl)
shuffle ps w g (steps.neighbours {s = s} {t = t} {ss = ss} p) =
    let x = swapped ps w s t g p in (
      ap (λ (v : World). after_all ps v ss) x.state,
      omega (arith, x.first_drop, x.second_drop, ap (λ (v : World). dropped_in ps v ss) x.state),
    )
shuffle ps w g (steps.behind {s = s} r) =
    let i = shuffle ps (leaves ps w s) (fine_leaves ps w s g) r in
    (i.0, omega (arith, i.1))
shuffle ps w g (steps.onward r q) =
    let i = shuffle ps w g r in
    let j = shuffle ps w g q in
    (j.0 ∙ i.0, j.1 ∙ i.1)

pub fine_all : (ps : List Hold) (w : World) (ss : List Step) → Fine w → Fine (after_all ps w ss)
unfolding after_all
fine_all ps w [] f = f
fine_all ps w (s ∷ ss) f = fine_all ps (leaves ps w s) ss (fine_leaves ps w s f)

pub steps_shuffle : StepsShuffled
steps_shuffle ps w ss ts g r = shuffle ps w (fine w g) r

-- ---- the lone steps of a history

pub run_alone : LoneSteps
unfolding run next_item foreign after_all
run_alone k [] = refl
run_alone k (s ∷ ss) = run_alone (next_item k (foreign_step s.kind s.place s.number)) ss

pub history_shuffle : HistoryShuffled
history_shuffle k ss ts g r = run_alone k ts ∙ (steps_shuffle [] k.world ss ts g r).0 ∙ sym (run_alone k ss)
