-- The counters after any turns are those before them with the adds of the log.
use Rattle.std.specs.Prelude.{ℕ, ◌≡◌, Bool, length, get_or, if◌then◌else◌}
use Rattle.std.proofs.Math.Path.{refl, sym, ap}
use Rattle.std.proofs.Common.{◌∙◌, length-set}
use mathlib.Core.List.{List, [], ◌∷◌, ◌++◌}
use Rattle.std.proofs.Math.Bool.{true, false}
use Rattle.model.specs.Log.{Event, attempt_begun, boundary_run, yielded, spun, step_dropped, took, released, waiters_set, health_set, held_all_lem, added}
use Rattle.model.specs.Crew.{Work, summed_of, Crew, moved, is_full, added_to, turn_of, turns_of}
use Rattle.types.specs.declared.Head.{Head}
use Rattle.crew_theory.specs.Statements.{deeds_in, Turn, idled, grabbed, summed, gave}
use Rattle.crew_theory.specs.Turns.{same, turn_is}
use Rattle.crew_at_work_theory.specs.Statements.{counters_by}

-- what an event does to the counters
abbrev pub effect : Event → List ℕ → List ℕ
effect attempt_begun l = l
effect boundary_run l = l
effect yielded l = l
effect spun l = l
effect step_dropped l = l
effect (took a c s) l = l
effect (released a c s) l = l
effect (waiters_set c n) l = l
effect (health_set i n) l = l
effect (held_all_lem m) l = l
effect (added m c v) l = added_to l c v

pub counters_more : (l : List ℕ) (e : Event) (es : List Event) → counters_by l (e ∷ es) ≡ counters_by (effect e l) es
unfolding counters_by
counters_more l attempt_begun es = refl
counters_more l boundary_run es = refl
counters_more l yielded es = refl
counters_more l spun es = refl
counters_more l step_dropped es = refl
counters_more l (took a c s) es = refl
counters_more l (released a c s) es = refl
counters_more l (waiters_set c n) es = refl
counters_more l (health_set i n) es = refl
counters_more l (held_all_lem m) es = refl
counters_more l (added m c v) es = refl

counters_append : (l : List ℕ) (xs ys : List Event) → counters_by l (xs ++ ys) ≡ counters_by (counters_by l xs) ys
unfolding counters_by
counters_append l [] ys = refl
counters_append l (e ∷ xs) ys = counters_more l e (xs ++ ys) ∙ counters_append (effect e l) xs ys ∙ ap (λ (z : List ℕ). counters_by z ys) (sym (counters_more l e xs))

-- no counter comes or goes
effect_long : (e : Event) (l : List ℕ) → length (effect e l) ≡ length l
effect_long attempt_begun l = refl
effect_long boundary_run l = refl
effect_long yielded l = refl
effect_long spun l = refl
effect_long step_dropped l = refl
effect_long (took a c s) l = refl
effect_long (released a c s) l = refl
effect_long (waiters_set c n) l = refl
effect_long (health_set i n) l = refl
effect_long (held_all_lem m) l = refl
effect_long (added m c v) l = length-set l c (summed_of (get_or l c 0) v)

pub counters_long : (l : List ℕ) (log : List Event) → length (counters_by l log) ≡ length l
unfolding counters_by
counters_long l [] = refl
counters_long l (e ∷ es) = ap length (counters_more l e es) ∙ counters_long (effect e l) es ∙ effect_long e l

-- as a function of the counters
abbrev counting : List Event → List ℕ → List ℕ
counting log = λ l. counters_by l log

counting_more : (e : Event) (es : List Event) → counting (e ∷ es) ≡ (λ l. counting es (effect e l))
unfolding counters_by
counting_more attempt_begun es = refl
counting_more boundary_run es = refl
counting_more yielded es = refl
counting_more spun es = refl
counting_more step_dropped es = refl
counting_more (took a c s) es = refl
counting_more (released a c s) es = refl
counting_more (waiters_set c n) es = refl
counting_more (health_set i n) es = refl
counting_more (held_all_lem m) es = refl
counting_more (added m c v) es = refl

same_counters : (l : List ℕ) (log : List Event) → counters_by l log ≡ counters_by l (deeds_in log)
same_counters l log = ap (λ (f : List ℕ → List ℕ). f l) (same counting (λ e f l. f (effect e l)) counting_more (λ f. refl) (λ f. refl) (λ f. refl) (λ f. refl) log)

module _ (work : Work) (h : Head) (g counts cells : List ℕ) where
  turn_counts : {w v : Crew} {m : ℕ} {log : List Event} → Turn work h.buckets g counts cells w m v log → v.counters ≡ counters_by w.counters log
  unfolding counters_by
  turn_counts {w} {log = log} (idled i e q) = ap (λ (x : Crew). x.counters) e ∙ sym (same_counters w.counters log ∙ ap (counters_by w.counters) q)
  turn_counts {w} {m = m} {log} (grabbed l r e q) = ap (λ (x : Crew). x.counters) e ∙ sym (same_counters w.counters log ∙ ap (counters_by w.counters) q ∙ go (is_full counts (moved w.made m) m))
    where
      go : (b : Bool) → counters_by w.counters (if b then held_all_lem m ∷ [] else []) ≡ w.counters
      go true = refl
      go false = refl
  turn_counts {w} {log = log} (summed a b e q) = ap (λ (x : Crew). x.counters) e ∙ sym (same_counters w.counters log ∙ ap (counters_by w.counters) q)
  turn_counts {w} {log = log} (gave a b e q) = ap (λ (x : Crew). x.counters) e ∙ sym (same_counters w.counters log ∙ ap (counters_by w.counters) q)

  pub turns_count : (w : Crew) (ms : List ℕ) → let o = turns_of work h.headers h.buckets g counts cells w ms in o.seen.counters ≡ counters_by w.counters o.log
  unfolding turns_of counters_by
  turns_count w [] = refl
  turns_count w (m ∷ ms) =
      let o = turn_of work h.headers h.buckets g counts cells w m in
      let rest = turns_of work h.headers h.buckets g counts cells o.seen ms in
      turns_count o.seen ms ∙ ap (λ (z : List ℕ). counters_by z rest.log) (turn_counts (turn_is work h.buckets g counts cells h.headers w m)) ∙ sym (counters_append w.counters o.log rest.log)
