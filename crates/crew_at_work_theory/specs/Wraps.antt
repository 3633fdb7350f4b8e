-- Sums wrap at 65,536: a counter is the remainder of all that was added to it, and the replay is that in plain numbers, by remainders.
use Rattle.std.specs.Prelude.{ℕ, zero, suc, ◌+◌, ◌%◌, ◌<◌, ◌≡◌, refl, length, set}
use Rattle.std.proofs.Common.{sym, ◌∙◌, arith, length-set, get_or-set_same, eq-eqb, ne_eqb}
use Rattle.std.proofs.Math.Path.{ap}
use mathlib.Core.List.{List, [], ◌∷◌}
use Rattle.std.proofs.Math.Decide.{ℕ_discrete, dec_lt}
use Rattle.std.proofs.Math.ListN.{get_or, get_or-eq_default}
use Rattle.std.proofs.Math.Seq.{get_or-set_other}
use Rattle.model.specs.Log.{Event, attempt_begun, boundary_run, yielded, spun, step_dropped, took, released, waiters_set, health_set, held_all_lem, added}
use Rattle.model.specs.Crew.{summed_of, start_of, count_of}
use Rattle.crew_theory.specs.Statements.{named}
use Rattle.crew_at_work_theory.specs.Statements.{raised_by, whole_by, replay_by, counters_by, value_to, values_to}
use Rattle.crew_at_work_theory.specs.Counters.{effect, counters_more}

-- ---- one counter, over a log

module _ (d : ℕ) where
  abbrev Fit : List ℕ → Type 0
  Fit l = (d < length l) × (get_or l d 0 < 65536)

  -- after one event
  abbrev After : List ℕ → Event → Type 0
  After l e = (d < length (effect e l)) × (get_or (effect e l) d 0 ≡ (get_or l d 0 + value_to d e) % 65536)

  idle_after : (l : List ℕ) → Fit l → (d < length l) × (get_or l d 0 ≡ (get_or l d 0 + 0) % 65536)
  idle_after l f = (f.0, omega (arith, f.1))

  effect_at : (l : List ℕ) (e : Event) → Fit l → After l e
  effect_at l attempt_begun f = idle_after l f
  effect_at l boundary_run f = idle_after l f
  effect_at l yielded f = idle_after l f
  effect_at l spun f = idle_after l f
  effect_at l step_dropped f = idle_after l f
  effect_at l (took a c s) f = idle_after l f
  effect_at l (released a c s) f = idle_after l f
  effect_at l (waiters_set c n) f = idle_after l f
  effect_at l (health_set i n) f = idle_after l f
  effect_at l (held_all_lem m) f = idle_after l f
  effect_at l (added m c v) f = go (ℕ_discrete c d)
    where
      sum : ℕ
      sum = summed_of (get_or l c 0) v

      wide : d < length (set l c (summed_of (get_or l c 0) v))
      wide = omega (arith, f.0, length-set l c (summed_of (get_or l c 0) v))

      go : Dec (c ≡ d) → After l (added m c v)
      go (yes p) =
          let e : get_or (set l c (summed_of (get_or l c 0) v)) d 0 ≡ summed_of (get_or l d 0) v = rw p (get_or-set_same l d (summed_of (get_or l d 0) v) 0 f.0) in
          (wide, e ∙ rw (eq-eqb c d p) (unfold summed_of in refl))
      go (no p) = (wide, get_or-set_other l c d (summed_of (get_or l c 0) v) 0 (λ z. p (sym z)) ∙ rw (ne_eqb c d p) (omega (arith, f.1)))

  pub counters_at : (l : List ℕ) (log : List Event) → Fit l → get_or (counters_by l log) d 0 ≡ (get_or l d 0 + values_to d log) % 65536
  unfolding counters_by values_to
  counters_at l [] f = omega (arith, f.1)
  counters_at l (e ∷ es) f =
      let a = effect_at l e f in
      let b = counters_at (effect e l) es (a.0, omega (arith, a.1)) in
      ap (λ (z : List ℕ). get_or z d 0) (counters_more l e es) ∙ b ∙ rw a.1 (omega arith)

-- ---- the replay

-- the counters are the remainders of these
pub record Remainders (l big : List ℕ) : Type 0 where
  pub long : length l ≡ length big
  pub each : (c : ℕ) → get_or l c 0 ≡ get_or big c 0 % 65536

put_remainders : (l big : List ℕ) (c v w : ℕ) → Remainders l big → v ≡ w % 65536 → Remainders (set l c (summed_of (get_or l c 0) v)) (set big c (get_or big c 0 + w))
put_remainders l big c v w r e =
    record { long = length-set l c (summed_of (get_or l c 0) v) ∙ r.long ∙ sym (length-set big c (get_or big c 0 + w)); each = λ d. go d (ℕ_discrete d c) (dec_lt c (length l)) }
  where
    sums : summed_of (get_or l c 0) v ≡ (get_or big c 0 + w) % 65536
    sums = rw (e, r.each c) (unfold summed_of in omega arith)

    go : (d : ℕ) → Dec (d ≡ c) → Dec (c < length l) → get_or (set l c (summed_of (get_or l c 0) v)) d 0 ≡ get_or (set big c (get_or big c 0 + w)) d 0 % 65536
    go d (no p) k = rw (get_or-set_other l c d (summed_of (get_or l c 0) v) 0 p, get_or-set_other big c d (get_or big c 0 + w) 0 p) (r.each d)
    go d (yes p) (yes k) = rw (p, get_or-set_same l c (summed_of (get_or l c 0) v) 0 k, get_or-set_same big c (get_or big c 0 + w) 0 (omega (arith, r.long))) sums
    go d (yes p) (no k) =
        rw (p, get_or-eq_default (set l c (summed_of (get_or l c 0) v)) 0 {n = c} (omega (arith, length-set l c (summed_of (get_or l c 0) v))), get_or-eq_default (set big c (get_or big c 0 + w)) 0 {n = c} (omega (arith, r.long, length-set big c (get_or big c 0 + w))))

raised_remainders : (left k : ℕ) (cells : List ℕ) (v w : ℕ) (l big : List ℕ) → Remainders l big → v ≡ w % 65536 → Remainders (raised_by summed_of left k cells v l) (raised_by ◌+◌ left k cells w big)
unfolding raised_by
raised_remainders zero k cells v w l big r e = r
raised_remainders (suc left) k cells v w l big r e = raised_remainders left (k + 1) cells v w _ _ (put_remainders l big (named cells k) v w r e) e

pub replay_remainders : (counts cells l big ms : List ℕ) → Remainders l big → Remainders (replay_by summed_of counts cells l ms) (replay_by ◌+◌ counts cells big ms)
unfolding replay_by whole_by
replay_remainders counts cells l big [] r = r
replay_remainders counts cells l big (m ∷ ms) r =
    replay_remainders counts cells
    (raised_by summed_of (count_of counts m) (start_of counts m) cells (get_or l (named cells (start_of counts m)) 0) l)
    (raised_by ◌+◌ (count_of counts m) (start_of counts m) cells (get_or big (named cells (start_of counts m)) 0) big) ms
    (raised_remainders (count_of counts m) (start_of counts m) cells (get_or l (named cells (start_of counts m)) 0) (get_or big (named cells (start_of counts m)) 0) l big r (r.each (named cells (start_of counts m))))
