-- The reply and the log agree, for every crew that is not refused, finished or not: each member's numbers are those of its own log, every
-- turn moved or was idle, and every move is one take, one add or one
-- release.
use Rattle.std.specs.Prelude.{ℕ, ◌+◌, ◌-◌, min, ◌<◌, ◌≡◌, Bool, ◌≢◌, length, get_or, if◌then◌else◌}
use Rattle.std.proofs.Math.Path.{refl, sym, ap}
use Rattle.std.proofs.Common.{◌∙◌, subst, length-set, get_or-set_same, get_or-set_other, eqb-true}
use mathlib.Core.List.{List, [], ◌∷◌, ◌++◌, append-nil}
use Rattle.std.proofs.Math.Bool.{true, false}
use native.Mathlib.Omega.{arith}
use Rattle.std.proofs.Math.Dec.{eqb}
use Rattle.std.proofs.lemmas.Bool.{eqb-false}
use Rattle.model.specs.Log.{Event, held_all_lem}
use Rattle.model.specs.Crew.{Work, adds_of, count_of, Crew, crew_start, moved, is_full, turn_of, turns_of, shift_of}
use Rattle.types.specs.declared.Head.{Head}
use Rattle.laws.specs.Lists.{zeros}
use Rattle.history.specs.World.{takes, releases, number_of_lem}
use Rattle.history.specs.Tests.{if_cases}
use Rattle.history.specs.Counted.{number_append}
use Rattle.crew_theory.specs.Statements.{after, is_add_of, adds_in, adds_of_lem, deeds_in, Turn, idled, grabbed, summed, gave, own_log, TellsOver}
use Rattle.crew_theory.specs.Lists.{fits}
use Rattle.crew_theory.specs.Turns.{same, adds_append, Numbers, none_done, one_took, one_added, one_gave, turn_is, Step, stays, steps, turn_steps, turns_count}
use Rattle.crew_theory.proofs.Ended.{taken_at, released_at}

-- ---- one member's turns, in a crew of which nothing is assumed but that its list of moves has a place for it

module _ (work : Work) (buckets : ℕ) (g counts cells : List ℕ) (m : ℕ) where
  -- the moves made so far are takes, then adds, then releases
  pub record Tally (w v : Crew) (log : List Event) : Type 0 where
    pub size : length v.made ≡ length w.made
    pub takes_are : min (get_or v.made m 0) (count_of counts m) ≡ min (get_or w.made m 0) (count_of counts m) + number_of_lem takes log
    pub adds_are : min (get_or v.made m 0 - count_of counts m) (adds_of work (count_of counts m)) ≡ min (get_or w.made m 0 - count_of counts m) (adds_of work (count_of counts m)) + adds_in log
    pub releases_are : get_or v.made m 0 - (count_of counts m + adds_of work (count_of counts m)) ≡ get_or w.made m 0 - (count_of counts m + adds_of work (count_of counts m)) + number_of_lem releases log

  stays_so : (w v : Crew) → length v.made ≡ length w.made → get_or v.made m 0 ≡ get_or w.made m 0 → Tally w v []
  unfolding number_of_lem adds_in
  stays_so w v l e = record { size = l; takes_are = omega arith; adds_are = omega arith; releases_are = omega arith }

  other : {w v : Crew} {n : ℕ} {log : List Event} → n ≢ m → Turn work buckets g counts cells w n v log → Tally w v []
  other {w} {v} {n} d p = go (turn_steps work buckets g counts cells p)
    where
      go : Step work buckets g counts cells w.made v.made n → Tally w v []
      go (stays e) = stays_so w v (ap length e) (ap (λ (l : List ℕ). get_or l m 0) e)
      go (steps l e) =
          stays_so w v (ap length e ∙ length-set w.made n (get_or w.made n 0 + 1)) (ap (λ (l : List ℕ). get_or l m 0) e ∙ get_or-set_other w.made n m (get_or w.made n 0 + 1) 0 (λ y. d (sym y)))

  -- a move, of which kind its numbers tell
  moved_so : (w v : Crew) (log : List Event) {x y z : ℕ} → m < length w.made → v.made ≡ moved w.made m → Numbers log x y z
      → min (get_or w.made m 0 + 1) (count_of counts m) ≡ min (get_or w.made m 0) (count_of counts m) + x
      → min (get_or w.made m 0 + 1 - count_of counts m) (adds_of work (count_of counts m)) ≡ min (get_or w.made m 0 - count_of counts m) (adds_of work (count_of counts m)) + y
      → get_or w.made m 0 + 1 - (count_of counts m + adds_of work (count_of counts m)) ≡ get_or w.made m 0 - (count_of counts m + adds_of work (count_of counts m)) + z
      → Tally w v log
  moved_so w v log k e n a b c =
      let f = ap (λ (l : List ℕ). get_or l m 0) e ∙ get_or-set_same w.made m (get_or w.made m 0 + 1) 0 k in
      record {
        size = ap length e ∙ length-set w.made m (get_or w.made m 0 + 1);
        takes_are = ap (λ y. min y (count_of counts m)) f ∙ a ∙ ap (λ y. min (get_or w.made m 0) (count_of counts m) + y) (sym n.takes_are);
        adds_are = ap (λ y. min (y - count_of counts m) (adds_of work (count_of counts m))) f ∙ b ∙ ap (λ y. min (get_or w.made m 0 - count_of counts m) (adds_of work (count_of counts m)) + y) (sym n.adds_are);
        releases_are = ap (λ y. y - (count_of counts m + adds_of work (count_of counts m))) f ∙ c ∙ ap (λ y. get_or w.made m 0 - (count_of counts m + adds_of work (count_of counts m)) + y) (sym n.releases_are);
      }

  mine : {w v : Crew} {log : List Event} → m < length w.made → Turn work buckets g counts cells w m v log → Tally w v log
  mine k (idled i e q) = let x = none_done q in rw e (omega (arith, x.takes_are, x.adds_are, x.releases_are))
  mine {w} {v} {log} k (grabbed l r e q) = moved_so w v log k (ap (λ (x : Crew). x.made) e) (one_took counts (moved w.made m) m q) (omega arith) (omega arith) (omega arith)
  mine {w} {v} {log} k (summed l r e q) = moved_so w v log k (ap (λ (x : Crew). x.made) e) (one_added q) (omega arith) (omega arith) (omega arith)
  mine {w} {v} {log} k (gave l r e q) = moved_so w v log k (ap (λ (x : Crew). x.made) e) (one_gave q) (omega arith) (omega arith) (omega arith)

  own : {w v : Crew} {n : ℕ} {log : List Event} → n ≡ m → m < length w.made → Turn work buckets g counts cells w n v log → Tally w v log
  own {w} {v} {log = log} e k p = mine k (subst (λ q. Turn work buckets g counts cells w q v log) e p)

  -- ---- the adds that name a member are those of its own turns

  same_named : (log : List Event) → adds_of_lem m log ≡ adds_of_lem m (deeds_in log)
  unfolding adds_of_lem
  same_named = same (adds_of_lem m) (λ e n. is_add_of m e + n) (λ e es. refl) (λ n. omega arith) (λ n. omega arith) (λ n. omega arith) (λ n. omega arith)

  named_none : {log ds : List Event} {x z : ℕ} (n : ℕ) → deeds_in log ≡ ds → adds_of_lem m ds ≡ 0 → Numbers log x 0 z → adds_of_lem m log ≡ adds_in (if eqb n m then log else [])
  unfolding adds_in
  named_none {log} n e z k =
      if_cases (λ (l : List Event). adds_of_lem m log ≡ adds_in l) (eqb n m) (λ _. same_named log ∙ ap (adds_of_lem m) e ∙ z ∙ sym k.adds_are) (λ _. same_named log ∙ ap (adds_of_lem m) e ∙ z)

  turn_named : {w v : Crew} {n : ℕ} {log : List Event} → Turn work buckets g counts cells w n v log → adds_of_lem m log ≡ adds_in (if eqb n m then log else [])
  unfolding adds_of_lem adds_in
  turn_named {n = n} (idled i e q) = named_none n q refl (none_done q)
  turn_named {w} {n = n} (grabbed l r e q) = named_none n q (omega (arith, go (is_full counts (moved w.made n) n))) (one_took counts (moved w.made n) n q)
    where
      go : (b : Bool) → adds_of_lem m (if b then held_all_lem n ∷ [] else []) ≡ 0
      go true = refl
      go false = refl
  turn_named {n = n} {log} (summed l r e q) = go (eqb n m) refl
    where
      go : (b : Bool) → eqb n m ≡ b → adds_of_lem m log ≡ adds_in (if b then log else [])
      go true f = same_named log ∙ ap (adds_of_lem m) q ∙ rw f (sym (one_added q).adds_are)
      go false f = same_named log ∙ ap (adds_of_lem m) q ∙ rw f
  turn_named {n = n} (gave l r e q) = named_none n q refl (one_gave q)

  named_append : (xs ys : List Event) → adds_of_lem m (xs ++ ys) ≡ adds_of_lem m xs + adds_of_lem m ys
  unfolding adds_of_lem
  named_append [] ys = omega arith
  named_append (x ∷ xs) ys = omega (arith, named_append xs ys)

pub turns_tally : (work : Work) (h : Head) (g counts cells : List ℕ) (m : ℕ) (w : Crew) (ns : List ℕ) → m < length w.made
    → Tally work h.buckets g counts cells m w (after work h g counts cells w ns) (own_log work h g counts cells m w ns)
unfolding turns_of own_log number_of_lem adds_in
turns_tally work h g counts cells m w [] k = omega arith
turns_tally work h g counts cells m w (n ∷ ns) k =
    let p = turn_is work h.buckets g counts cells h.headers w n in
    let x = turn_of work h.headers h.buckets g counts cells w n in
    go x.seen _ (if_cases (Tally work h.buckets g counts cells m w x.seen) (eqb n m) (λ e. own work h.buckets g counts cells m (eqb-true n m e) k p) (λ e. other work h.buckets g counts cells m (eqb-false n m e) p))
    (turns_tally work h g counts cells m x.seen ns)
  where
    go : (v : Crew) (xs : List Event) → Tally work h.buckets g counts cells m w v xs
        → (m < length v.made → Tally work h.buckets g counts cells m v (after work h g counts cells v ns) (own_log work h g counts cells m v ns))
        → Tally work h.buckets g counts cells m w (after work h g counts cells v ns) (xs ++ own_log work h g counts cells m v ns)
    go v xs a f =
        let b = f (omega (arith, a.size)) in
        let c = number_append takes xs (own_log work h g counts cells m v ns) in
        let i = adds_append xs (own_log work h g counts cells m v ns) in
        let d = number_append releases xs (own_log work h g counts cells m v ns) in
        record {
          size = b.size ∙ a.size;
          takes_are = omega (arith, a.takes_are, b.takes_are);
          adds_are = omega (arith, a.adds_are, b.adds_are);
          releases_are = omega (arith, a.releases_are, b.releases_are);
        }

pub turns_named : (work : Work) (h : Head) (g counts cells : List ℕ) (m : ℕ) (w : Crew) (ns : List ℕ)
    → adds_of_lem m (turns_of work h.headers h.buckets g counts cells w ns).log ≡ adds_in (own_log work h g counts cells m w ns)
unfolding turns_of own_log adds_of_lem adds_in
turns_named work h g counts cells m w [] = refl
turns_named work h g counts cells m w (n ∷ ns) =
    let o = turn_of work h.headers h.buckets g counts cells w n in
    omega (
      arith,
      turn_named work h.buckets g counts cells m (turn_is work h.buckets g counts cells h.headers w n),
      turns_named work h g counts cells m o.seen ns,
      named_append work h.buckets g counts cells m o.log (turns_of work h.headers h.buckets g counts cells o.seen ns).log,
      adds_append (if eqb n m then o.log else []) (own_log work h g counts cells m o.seen ns),
    )

-- ---- the run

pub tells_over : (work : Work) → TellsOver work
unfolding shift_of
tells_over work h t g counts cells turns counters fine =
    let few = (fits h t g counts cells turns fine).few in
    let first_crew = crew_start h t counters in
    let ran = turns_of work h.headers h.buckets g counts cells first_crew turns in
    let w = ran.seen in
    let counted = turns_count work h.buckets g counts cells h.headers first_crew turns in
    let tally : (m : ℕ) → m < length counts → Tally work h.buckets g counts cells m first_crew w (own_log work h g counts cells m first_crew turns)
    = λ m l. turns_tally work h g counts cells m first_crew turns (omega arith) in
    rw (append-nil ran.log) (record {
      done = refl;
      taken = λ m l. omega (arith, taken_at counts w.made m (omega arith), (tally m l).takes_are, zeros 16 m);
      released = λ m l. omega (arith, released_at work counts w.made m (omega arith), (tally m l).releases_are, zeros 16 m);
      adds_are = λ m l. turns_named work h g counts cells m first_crew turns;
      adds_few = λ m l. omega (arith, turns_named work h g counts cells m first_crew turns, (tally m l).adds_are, zeros 16 m);
      turns_are = omega (arith, counted.turns_are);
      moves_are = omega (arith, counted.moves_are);
    })
