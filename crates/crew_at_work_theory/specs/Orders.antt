-- The order in which members come to hold all, turn by turn.
use Prim.Native.Nat.{ℕ, suc, ◌+◌, ◌≤◌, ◌<◌}
use Rattle.std.specs.Prelude.{◌≡◌, refl, Bool, true, false, ◌≢◌, ◌⊎◌, leb, if◌then◌else◌}
use Rattle.std.proofs.Common.{sym, ◌∙◌, inl, inr, eq-eqb, ne_eqb, le-leb}
use Rattle.std.proofs.Math.Path.{ap}
use mathlib.Core.List.{List, [], ◌∷◌, ◌++◌}
use native.Mathlib.Omega.{arith}
use Rattle.std.proofs.Math.Decide.{ℕ_discrete, dec_lt}
use Rattle.std.proofs.Math.ListN.{get_or}
use Rattle.std.proofs.Math.Seq.{get_or-set_same}
use Rattle.std.proofs.lemmas.Bool.{lt-leb}
use Rattle.model.specs.Log.{Event, attempt_begun, boundary_run, yielded, spun, step_dropped, took, released, waiters_set, health_set, held_all_lem, added}
use Rattle.model.specs.Crew.{adds, count_of, Crew, moved, is_full, turn_of, turns_of, order_of}
use Rattle.types.specs.declared.Head.{Head}
use Rattle.crew_theory.specs.Statements.{In, filling, deeds_in, Turn, idled, grabbed, summed, gave}
use Rattle.crew_theory.specs.Lists.{Fits}
use Rattle.crew_theory.specs.Turns.{same, turn_is}
use Rattle.crew_theory.proofs.Whole.{Shown, in_made, turn_shown, Moves, none_made, one_made, turn_moves}
use Rattle.crew_at_work_theory.specs.Statements.{times, Before}

-- ---- lists of members

pub data Counted (m x : ℕ) (l : List ℕ) : Type 0 where
  this : x ≡ m → times m (x ∷ l) ≡ suc (times m l) → Counted m x l
  that : x ≢ m → times m (x ∷ l) ≡ times m l → Counted m x l

pub counted : (m x : ℕ) (l : List ℕ) → Counted m x l
unfolding times
counted m x l = go (ℕ_discrete x m)
  where
    go : Dec (x ≡ m) → Counted m x l
    go (yes e) = this e (rw (eq-eqb x m e) (omega arith))
    go (no e) = that e (rw (ne_eqb x m e) (omega arith))

times_append : (m : ℕ) (xs ys : List ℕ) → times m (xs ++ ys) ≡ times m xs + times m ys
unfolding times
times_append m [] ys = omega arith
times_append m (x ∷ xs) ys = omega (arith, times_append m xs ys)

pub in_times : (m : ℕ) (l : List ℕ) → In m l → 1 ≤ times m l
in_times m (x ∷ l) i = go (counted m x l) i (in_times m l)
  where
    go : Counted m x l → (m ≡ x) ⊎ In m l → (In m l → 1 ≤ times m l) → 1 ≤ times m (x ∷ l)
    go (this e f) i r = omega arith
    go (that e f) (inl p) r = absurd (e (sym p))
    go (that e f) (inr p) r = omega (arith, r p)
in_times m [] i = elim i [ ]

pub times_in : (m : ℕ) (l : List ℕ) → 1 ≤ times m l → In m l
unfolding times
times_in m [] p = absurd (omega arith)
times_in m (x ∷ l) p = go (counted m x l) (times_in m l)
  where
    go : Counted m x l → (1 ≤ times m l → In m l) → In m (x ∷ l)
    go (this e f) r = inl (sym e)
    go (that e f) r = inr (r (omega arith))

pub before_last : (a b : ℕ) (l : List ℕ) → Before a b l → In b l
before_last a b (x ∷ l) (inl e) = inr e.1
before_last a b (x ∷ l) (inr e) = inr (before_last a b l e)
before_last a b [] x' = elim x' [ ]

pub before_first : (a b : ℕ) (l : List ℕ) → Before a b l → In a l
before_first a b (x ∷ l) (inl e) = inl e.0
before_first a b (x ∷ l) (inr e) = inr (before_first a b l e)
before_first a b [] x' = elim x' [ ]

-- ---- the order of a log

pub order_append : (xs ys : List Event) → order_of (xs ++ ys) ≡ order_of xs ++ order_of ys
unfolding order_of
order_append [] ys = refl
order_append (attempt_begun ∷ xs) ys = order_append xs ys
order_append (boundary_run ∷ xs) ys = order_append xs ys
order_append (yielded ∷ xs) ys = order_append xs ys
order_append (spun ∷ xs) ys = order_append xs ys
order_append (step_dropped ∷ xs) ys = order_append xs ys
order_append (took a c s ∷ xs) ys = order_append xs ys
order_append (released a c s ∷ xs) ys = order_append xs ys
order_append (waiters_set c n ∷ xs) ys = order_append xs ys
order_append (health_set i n ∷ xs) ys = order_append xs ys
order_append (held_all_lem m ∷ xs) ys = ap {B = List ℕ} (λ l. m ∷ l) (order_append xs ys)
order_append (added m c v ∷ xs) ys = order_append xs ys

-- what an event puts before the order of those behind it
abbrev named_first : Event → List ℕ → List ℕ
named_first attempt_begun l = l
named_first boundary_run l = l
named_first yielded l = l
named_first spun l = l
named_first step_dropped l = l
named_first (took a c s) l = l
named_first (released a c s) l = l
named_first (waiters_set c n) l = l
named_first (health_set i n) l = l
named_first (held_all_lem m) l = m ∷ l
named_first (added m c v) l = l

order_more : (e : Event) (es : List Event) → order_of (e ∷ es) ≡ named_first e (order_of es)
unfolding order_of
order_more attempt_begun es = refl
order_more boundary_run es = refl
order_more yielded es = refl
order_more spun es = refl
order_more step_dropped es = refl
order_more (took a c s) es = refl
order_more (released a c s) es = refl
order_more (waiters_set c n) es = refl
order_more (health_set i n) es = refl
order_more (held_all_lem m) es = refl
order_more (added m c v) es = refl

same_order : (log : List Event) → order_of log ≡ order_of (deeds_in log)
same_order = same order_of named_first order_more (λ l. refl) (λ l. refl) (λ l. refl) (λ l. refl)

-- ---- a turn of n

-- 1 if a member of so many cells, that made so many moves, has held all
abbrev pub held_all : ℕ → ℕ → ℕ
held_all count n = if leb count n then 1 else 0

pub most_once : (c n : ℕ) → held_all c n ≤ 1
most_once c n = go (leb c n)
  where
    go : (b : Bool) → (if b then 1 else 0) ≤ 1
    go true = omega arith
    go false = omega arith

module _ (h : Head) (words : ℕ) (counts cells : List ℕ) (fit : Fits h words counts cells) (g : List ℕ) where
  abbrev pub Turned : Crew → ℕ → Crew → List Event → Type 0
  Turned w n v log = Turn adds h.buckets g counts cells w n v log

  abbrev X : Crew → Type 0
  X w = Shown adds h words counts cells fit w

  -- it names nobody, or n, by the take of its last cell
  pub data Fills (w : Crew) (n : ℕ) (v : Crew) (log : List Event) : Type 0 where
    names_none : order_of log ≡ [] → (get_or w.made n 0 < count_of counts n → get_or v.made n 0 < count_of counts n) → Fills w n v log
    names_one : order_of log ≡ n ∷ [] → get_or w.made n 0 + 1 ≡ count_of counts n → get_or v.made n 0 ≡ count_of counts n → Fills w n v log

  pub turn_fills : {w v : Crew} {n : ℕ} {log : List Event} → X w → Turned w n v log → Fills w n v log
  unfolding order_of
  turn_fills {log = log} x (idled i e q) = names_none (same_order log ∙ ap order_of q) (λ l. rw e l)
  turn_fills {w} {v} {n} {log} x (grabbed l r e q) = go (ℕ_discrete (get_or w.made n 0 + 1) (count_of counts n))
    where
      now : get_or (moved w.made n) n 0 ≡ get_or w.made n 0 + 1
      now = get_or-set_same w.made n (get_or w.made n 0 + 1) 0 (in_made adds h words counts cells fit w n x (omega arith))

      made_is : get_or v.made n 0 ≡ get_or w.made n 0 + 1
      made_is = ap (λ (c : Crew). get_or c.made n 0) e ∙ now

      filled : (b : Bool) → is_full counts (moved w.made n) n ≡ b → order_of (filling counts (moved w.made n) n) ≡ order_of (if b then held_all_lem n ∷ [] else [])
      filled b f = rw f

      go : Dec (get_or w.made n 0 + 1 ≡ count_of counts n) → Fills w n v log
      go (yes p) = names_one (same_order log ∙ ap order_of q ∙ filled true (eq-eqb (get_or (moved w.made n) n 0) (count_of counts n) (now ∙ p))) p (made_is ∙ p)
      go (no p) =
          names_none (same_order log ∙ ap order_of q ∙ filled false (ne_eqb (get_or (moved w.made n) n 0) (count_of counts n) (λ z. p (sym now ∙ z)))) (λ _. omega (arith, made_is))
  turn_fills {w} {log = log} x (summed l r e q) = names_none (same_order log ∙ ap order_of q) (λ z. absurd (omega arith))
  turn_fills {w} {log = log} x (gave l r e q) = names_none (same_order log ∙ ap order_of q) (λ z. absurd (omega arith))

  -- what it adds to the order
  turn_grows : {w v : Crew} {n : ℕ} {log : List Event} (m : ℕ) → X w → Turned w n v log
      → times m (order_of log) + held_all (count_of counts m) (get_or w.made m 0) ≡ held_all (count_of counts m) (get_or v.made m 0)
  unfolding times
  turn_grows {w} {v} {n} {log} m x p = go (turn_fills x p) (turn_moves adds h words counts cells fit g m x p) (ℕ_discrete n m)
    where
      Goal : List ℕ → Type 0
      Goal l = times m l + held_all (count_of counts m) (get_or w.made m 0) ≡ held_all (count_of counts m) (get_or v.made m 0)

      nobody : Moves adds h words counts cells fit w.made v.made n m → (n ≡ m → get_or w.made m 0 < count_of counts m → get_or v.made m 0 < count_of counts m)
          → Dec (get_or w.made m 0 < count_of counts m) → Goal []
      nobody (none_made e) f d = rw e (omega arith)
      nobody (one_made p e) f (yes l) =
          rw (lt-leb (count_of counts m) (get_or w.made m 0) l, lt-leb (count_of counts m) (get_or v.made m 0) (f (sym p) l))
      nobody (one_made p e) f (no l) =
          rw (le-leb (count_of counts m) (get_or w.made m 0) (omega arith), le-leb (count_of counts m) (get_or v.made m 0) (omega arith))

      go : Fills w n v log → Moves adds h words counts cells fit w.made v.made n m → Dec (n ≡ m) → Goal (order_of log)
      go (names_none z f) mv d = rw z (nobody mv (λ q. rw q at f) (dec_lt (get_or w.made m 0) (count_of counts m)))
      go (names_one z a b) mv (yes q) =
          let a' : get_or w.made m 0 + 1 ≡ count_of counts m = rw q at a in
          let b' : get_or v.made m 0 ≡ count_of counts m = rw q at b in
          rw (z, eq-eqb n m q, lt-leb (count_of counts m) (get_or w.made m 0) (omega arith), le-leb (count_of counts m) (get_or v.made m 0) (omega arith))
      go (names_one z a b) (one_made q e) (no d) = absurd (d (sym q))
      go (names_one z a b) (none_made e) (no d) = rw (z, ne_eqb n m d, e) (omega arith)

  abbrev pub run : Crew → List ℕ → Crew
  run w ms = (turns_of adds h.headers h.buckets g counts cells w ms).seen

  abbrev pub log_of : Crew → List ℕ → List Event
  log_of w ms = (turns_of adds h.headers h.buckets g counts cells w ms).log

  -- after any turns
  pub turns_grow : (m : ℕ) (w : Crew) (ms : List ℕ) → X w
      → times m (order_of (log_of w ms)) + held_all (count_of counts m) (get_or w.made m 0) ≡ held_all (count_of counts m) (get_or (run w ms).made m 0)
  unfolding turns_of order_of times
  turns_grow m w [] x = omega arith
  turns_grow m w (n ∷ ms) x =
      let p = turn_is adds h.buckets g counts cells h.headers w n in
      let o = turn_of adds h.headers h.buckets g counts cells w n in
      let a = turn_grows m x p in
      let b = turns_grow m o.seen ms (turn_shown adds h words counts cells fit g x p) in
      let c = ap (times m) (order_append o.log (log_of o.seen ms)) ∙ times_append m (order_of o.log) (order_of (log_of o.seen ms)) in
      omega arith

  -- a member that has held all is not named again
  pub not_again : (m : ℕ) (w : Crew) (ms : List ℕ) → X w → count_of counts m ≤ get_or w.made m 0 → In m (order_of (log_of w ms)) → ⊥
  not_again m w ms x l i =
      let a = turns_grow m w ms x in
      let b : held_all (count_of counts m) (get_or w.made m 0) ≡ 1 = rw (le-leb (count_of counts m) (get_or w.made m 0) l) in
      omega (arith, in_times m (order_of (log_of w ms)) i, most_once (count_of counts m) (get_or (run w ms).made m 0))
