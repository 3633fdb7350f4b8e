-- What the caller takes in a log is handed over at its end, or released by the caller later in it. These laws read logs and answers only.
-- ---- logs
use Prim.Native.Nat.{ℕ, zero, suc, ◌+◌, ◌-◌, ◌%◌, ◌≤◌}
use Rattle.std.specs.Prelude.{◌≡◌, refl, ◌&&◌, ◌⊎◌, ltb, eqb, length, take, Ok, Err}
use Rattle.std.proofs.Common.{ap, arith, take-suc}
use Rattle.std.proofs.Math.Path.{subst}
use mathlib.Core.List.{List, [], ◌∷◌, ◌++◌, append-nil}
use Rattle.std.proofs.Math.Bool.{true, not}
use Rattle.std.proofs.Math.Logic.{inl, inr}
use Rattle.std.proofs.Math.Dec.{leb}
use Rattle.std.proofs.Math.Seq.{take-length}
use Rattle.types.specs.Checks.{Found}
use Rattle.model.specs.Log.{Made, Event, by_caller, by_script, attempt_begun, boundary_run, yielded, spun, step_dropped, took, released, waiters_set, health_set, held_all_lem, added}
use Rattle.model.specs.Arena.{serial_remains, header_of, is_poisoned, hold_of, bit_at, owner_at, waiters_at, set_cell, is_free, is_live, is_in, state_at}
use Rattle.model.specs.Foreign.{Setting, protecting, steps_in, kind_at, place_at, number_at, step_take_of, step_release_of, step_waiters_of, step_health_of, step_of, run_steps_of, boundary_of, flow_of}
use Rattle.model.specs.Lock.{take_in, take_of, late_stage_of, after_take, second_stage_of, lock_of, outcome_of, find_of, attempt_at, attempt_of, spin_of, pause_of, is_busy, retry_of, run_of, attempt_limit, none_yet, no_hold, hold_at, give_back_of, Locks, rollback_of, after_key, binding_at, bucket_at, locks_of}
use Rattle.types.specs.declared.Flow.{Flow}
use Rattle.types.specs.declared.Hold.{Hold}
use Rattle.types.specs.declared.Locked.{Locked}
use Rattle.types.specs.declared.Outcome.{Outcome}
use Rattle.types.specs.declared.Outcome.TheVariants as outcome
use Rattle.types.specs.declared.Reason.{Reason}
use Rattle.types.specs.declared.Refusal.{Refusal}
use Rattle.types.specs.declared.Run.{Run}
use Rattle.types.specs.declared.State.{State}
use Rattle.types.specs.declared.State.TheVariants as state
use Rattle.types.specs.declared.Stepped.{Stepped}
use Rattle.types.specs.declared.Take.{Take}
use Rattle.types.specs.declared.Take.TheVariants as taking
use Rattle.types.specs.declared.Took.{Took}
use Rattle.types.specs.declared.Tried.{Tried}
use Rattle.choice.specs.Pick.{if_both}
use Rattle.laws.specs.Lists.{words_back}
use Rattle.history.specs.Statements.{HandsOver}
use Rattle.history.specs.Tests.{differ, In, in_first, in_cases, in_left, in_right, in_either, if_cases}
use Rattle.history.specs.Steps.{With}
use Rattle.history.specs.Owing.{Frees, Owed, Settles, Nobody, Silent, Given, of_take, of_locked, of_tried, of_ended, freed_here, freed_later, none, more}

frees_left : {l : Hold} {xs : List Event} (ys : List Event) → Frees l xs → Frees l (xs ++ ys)
frees_left ys (freed_here es) = freed_here (es ++ ys)
frees_left ys (freed_later e f) = freed_later e (frees_left ys f)

pub frees_right : {l : Hold} (xs : List Event) {ys : List Event} → Frees l ys → Frees l (xs ++ ys)
frees_right [] f = f
frees_right (x ∷ xs) f = freed_later x (frees_right xs f)

-- where it is released
pub freed_at : {l : Hold} {es : List Event} → Frees l es → (m n : List Event) × (es ≡ m ++ (released by_caller l.cell l.serial ∷ n))
freed_at (freed_here es) = ([], es, refl)
freed_at (freed_later e f) = let r = freed_at f in (e ∷ r.0, r.1, ap {B = List Event} (λ es. e ∷ es) r.2)

joined_owed : {L M : Hold → Type 0} (e : Event) (xs ys : List Event) → ((l : Hold) → L l → M l ⊎ Frees l ys) → Owed L e xs → Owed M e (xs ++ ys)
joined_owed attempt_begun xs ys f o = tt
joined_owed boundary_run xs ys f o = tt
joined_owed yielded xs ys f o = tt
joined_owed spun xs ys f o = tt
joined_owed step_dropped xs ys f o = tt
joined_owed (took by_caller c s) xs ys f (inl x) = elim (f (hold_of c s) x) [ inl y ↦ inl y | inr y ↦ inr (frees_right xs y) ]
joined_owed (took by_caller c s) xs ys f (inr x) = inr (frees_left ys x)
joined_owed (took by_script c s) xs ys f o = tt
joined_owed (released a c s) xs ys f o = tt
joined_owed (waiters_set c n) xs ys f o = tt
joined_owed (health_set i n) xs ys f o = tt
joined_owed (held_all_lem m) xs ys f o = tt
joined_owed (added m c v) xs ys f o = tt

pub join : {L M : Hold → Type 0} {xs ys : List Event} → Settles L xs → Settles M ys → ((l : Hold) → L l → M l ⊎ Frees l ys) → Settles M (xs ++ ys)
join none b f = b
join {ys = ys} (more e {es = xs} o a) b f = more e (joined_owed e xs ys f o) (join a b f)

-- at a take by the caller
pub settled_at : {L : Hold → Type 0} (c s : ℕ) (before after : List Event) → Settles L (before ++ (took by_caller c s ∷ after))
    → L (hold_of c s) ⊎ Frees (hold_of c s) after
settled_at c s [] after (more e o a) = o
settled_at c s (x ∷ before) after (more e o a) = settled_at c s before after a

-- a definition of the model hands over L of what it gives; leases that are handed to it go on to L, or it releases them
pub record Hands {A : Type 0} (L : A → Hold → Type 0) (before : Hold → Type 0) (m : Made A) : Type 0 where
  pub settles : Settles (L m.seen) m.log
  pub passes : (l : Hold) → before l → L m.seen l ⊎ Frees l m.log

-- one after the other
pub hand : {A : Type 0} {L : A → Hold → Type 0} {K before : Hold → Type 0} {xs : List Event} {m : Made A}
    → Settles K xs → ((l : Hold) → before l → K l ⊎ Frees l xs) → Hands L K m → Hands L before (record { seen = m.seen; log = xs ++ m.log })
hand {L = L} {before = before} {xs = xs} {m = m} a f b =
    record { settles = join a b.settles b.passes; passes = λ l x. elim (f l x) [ inl y ↦ on (b.passes l y) | inr y ↦ inr (frees_left m.log y) ] }
  where
    on : {l : Hold} → L m.seen l ⊎ Frees l m.log → L m.seen l ⊎ Frees l (xs ++ m.log)
    on (inl y) = inl y
    on (inr y) = inr (frees_right xs y)

pub loosen : {L M : Hold → Type 0} {es : List Event} → ((l : Hold) → L l → M l) → Settles L es → Settles M es
loosen {es = es} f a = subst (Settles _) (append-nil es) (join a none (λ l x. inl (f l x)))

-- a part in which the caller takes nothing
pub nobody_owes : {K : Hold → Type 0} {es : List Event} → Settles Nobody es → Settles K es
nobody_owes a = loosen (λ l x. absurd x) a

after_nobody : {A : Type 0} {L : A → Hold → Type 0} {before : Hold → Type 0} {xs : List Event} {m : Made A}
    → Settles Nobody xs → Hands L before m → Hands L before (record { seen = m.seen; log = xs ++ m.log })
after_nobody a b = hand (nobody_owes a) (λ l x. inl x) b

silent_end : {es : List Event} → Settles Nobody es → Settles Nobody (es ++ [])
silent_end a = join a none (λ l x. absurd x)

module _ (e : Setting) where
  step_silent : (n : ℕ) (t g : List ℕ) (kind place number : ℕ) → Silent (step_of e n t g kind place number)
  unfolding step_of step_take_of step_release_of step_waiters_of step_health_of
  step_silent n t g kind place number =
      if_both P (eqb kind 0) none
      (if_both P (eqb kind 1) (silent_end (if_both P' (ltb place e.cells && is_free (bit_at t place) (owner_at t place) && serial_remains n) (more _ tt none) (more _ tt none)))
      (if_both P (eqb kind 2) (silent_end (if_both P' (is_live n e.cells t (hold_of place number) && not (is_in (hold_of place number) e.protected)) (more _ tt none) (more _ tt none)))
      (if_both P (eqb kind 3) (silent_end (if_both P' (ltb place e.cells) (more _ tt none) (more _ tt none)))
      (if_both P (eqb kind 4) (silent_end (if_both P' (ltb place e.headers && leb number 1) (more _ tt none) (more _ tt none)))
      (if_both P (eqb kind 5) none (more _ tt none))))))
    where
      P : Made (With Stepped) → Type 0
      P m = Silent m

      P' : Made (Stepped × List ℕ) → Type 0
      P' m = Silent m

  steps_silent : (left : ℕ) (f : Flow) (t g : List ℕ) → Silent (run_steps_of left e f t g)
  unfolding run_steps_of
  steps_silent zero f t g = none
  steps_silent (suc left) f t g =
      if_both P (eqb (kind_at e.script f.place) 5) none
      (join (step_silent f.next t g (kind_at e.script f.place) (place_at e.script f.place) (number_at e.script f.place)) (steps_silent left _ _ _) (λ l x. absurd x))
    where
      P : Made (With Flow) → Type 0
      P m = Silent m

  pub boundary_silent : (f : Flow) (t g : List ℕ) → Silent (boundary_of e f t g)
  unfolding boundary_of
  boundary_silent f t g = more boundary_run tt (steps_silent (steps_in e.script - f.place) f t g)

pub take_hands : (n : ℕ) (t : List ℕ) (c : ℕ) → Settles (of_take c (take_of n t c).seen.0.answer) (take_of n t c).log
unfolding take_of
take_hands n t c = go (state_at n t c)
  where
    P : Made (Took × List ℕ) → Type 0
    P m = Settles (of_take c m.seen.0.answer) m.log

    go : (s : State) → P (take_in s n t c)
    go state.Damaged = none
    go (state.Held o) = none
    go state.Free = if_both P (serial_remains n) (more (took by_caller c n) (inl refl) none) none

-- an outcome that is no grant
pub no_grant : {why : Reason} {l : Hold} → outcome.Busy why ≡ outcome.Granted l → ⊥
no_grant e = let z : ◌≡◌ {A = ℕ} 0 1 = cc in omega arith

pub no_refused : {r : Refusal} {l : Hold} → outcome.Refused r ≡ outcome.Granted l → ⊥
no_refused e = let z : ◌≡◌ {A = ℕ} 0 1 = cc in omega arith

module _ (e : Setting) (buckets : ℕ) where
  late_hands : (f : Flow) (t g : List ℕ) (c s : ℕ) → Hands of_locked (λ l. hold_of c s ≡ l) (late_stage_of e buckets f t g c s)
  unfolding late_stage_of
  late_hands f t g c s =
      let m = (boundary_of (protecting e (hold_of c s ∷ [])) f t g).seen in
      after_nobody (boundary_silent (protecting e (hold_of c s ∷ [])) f t g)
      (if_both (Hands of_locked (λ l. hold_of c s ≡ l)) (is_poisoned m.1.1 (header_of buckets c))
      (record { settles = more (released by_caller c s) tt none; passes = λ l x. inr (subst (λ k. Frees k (released by_caller c s ∷ [])) x (freed_here [])) })
      (if_both (Hands of_locked (λ l. hold_of c s ≡ l)) (eqb (waiters_at m.1.0 c) 0)
      (record { settles = none; passes = λ l x. inl (ap {B = Outcome} (λ k. outcome.Granted k) x) })
      (record { settles = more (released by_caller c s) tt none; passes = λ l x. inr (subst (λ k. Frees k (released by_caller c s ∷ [])) x (freed_here [])) })))

  after_hands : (a : Take) (f : Flow) (t g : List ℕ) (c : ℕ) → Hands of_locked (of_take c a) (after_take a e buckets f t g c)
  after_hands (taking.Granted s) f t g c =
      let k = late_hands f t g c s in
      record { settles = k.settles; passes = λ l x. k.passes l (let y : hold_of c s ≡ l = cc in y) }
  after_hands (taking.Busy owner) f t g c = record { settles = none; passes = λ l x. inl x }
  after_hands taking.Damaged f t g c = record { settles = none; passes = λ l x. inl x }
  after_hands taking.Spent f t g c = record { settles = none; passes = λ l x. inl x }

  second_hands : (f : Flow) (t g : List ℕ) (c : ℕ) → Hands of_locked Nobody (second_stage_of e buckets f t g c)
  unfolding second_stage_of
  second_hands f t g c =
      let m = (boundary_of e f t g).seen in
      let k = (take_of m.0.next m.1.0 c).seen in
      after_nobody (boundary_silent e f t g)
      (hand (take_hands m.0.next m.1.0 c) (λ l x. absurd x) (after_hands k.0.answer (flow_of k.0.next m.0.place m.0.dropped) k.1 m.1.1 c))

  pub lock_hands : (f : Flow) (t g : List ℕ) (c : ℕ) → Hands of_locked Nobody (lock_of e buckets f t g c)
  unfolding lock_of
  lock_hands f t g c =
      let m = (boundary_of e f t g).seen in
      after_nobody (boundary_silent e f t g)
      (if_both (Hands of_locked Nobody) (eqb (waiters_at m.1.0 c) 0) (second_hands m.0 m.1.0 m.1.1 c)
      (record { settles = none; passes = λ l x. absurd x }))

  attempt_at_hands : (x : Found) (r : Run) (t g : List ℕ) → Hands of_tried Nobody (attempt_at x e buckets r t g)
  attempt_at_hands (Err x) r t g = record { settles = none; passes = λ l x. absurd x }
  attempt_at_hands (Ok c) r t g =
      record { settles = join (lock_hands r.flow t g c).settles none (λ l x. inl x); passes = λ l x. absurd x }

module _ (e : Setting) where
  pub attempt_hands : (buckets : ℕ) (registry : List ℕ) (binding bucket : ℕ) (r : Run) (t g : List ℕ)
      → Hands of_tried Nobody (attempt_of e buckets registry binding bucket r t g)
  unfolding attempt_of
  attempt_hands buckets registry binding bucket r t g =
      after_nobody (more attempt_begun tt none) (attempt_at_hands e buckets (find_of e.headers buckets g registry binding bucket) r t g)

  spin_silent : (r : Run) (t g : List ℕ) → Silent (spin_of e r t g)
  unfolding spin_of
  spin_silent r t g = join (boundary_silent e r.flow t g) (more spun tt none) (λ l x. absurd x)

  pause_silent : (i : ℕ) (r : Run) (t g : List ℕ) → Silent (pause_of e i r t g)
  unfolding pause_of
  pause_silent i r t g =
      let m = (boundary_of e r.flow t g).seen in
      if_both P (eqb (i % 64) 63)
      (join (boundary_silent e r.flow t g)
      (more yielded tt (spin_silent (run_of m.0 r.attempts (r.boundaries + 1) (r.yields + 1)) m.1.0 m.1.1)) (λ l x. absurd x))
      (spin_silent r t g)
    where
      P : Made (With Run) → Type 0
      P m = Silent m

  pub retry_hands : (left i : ℕ) (last : Reason) (buckets : ℕ) (registry : List ℕ) (binding bucket : ℕ) (r : Run) (t g : List ℕ)
      → Hands of_tried Nobody (retry_of left i last e buckets registry binding bucket r t g)
  unfolding retry_of
  retry_hands zero i last buckets registry binding bucket r t g = record { settles = none; passes = λ l x. absurd x }
  retry_hands (suc left) i last buckets registry binding bucket r t g =
      let m = (attempt_of e buckets registry binding bucket r t g).seen in
      let p = (pause_of e i m.0.run m.1.0 m.1.1).seen in
      let again = retry_hands left (i + 1) _ buckets registry binding bucket p.0 p.1.0 p.1.1 in
      hand (attempt_hands buckets registry binding bucket r t g).settles (λ l x. absurd x)
      (if_cases (Hands of_tried (of_tried m)) (is_busy m.0.outcome)
      (λ b. busy m.0.outcome b (after_nobody (pause_silent i m.0.run m.1.0 m.1.1) again))
      (λ b. record { settles = none; passes = λ l x. inl x }))
    where
      -- a Busy attempt hands nothing on
      busy : {m : Made (With Tried)} (o : Outcome) → is_busy o ≡ true → Hands of_tried Nobody m → Hands of_tried (Given o) m
      busy (outcome.Granted l) b k = absurd (differ b)
      busy (outcome.Busy why) b k = record { settles = k.settles; passes = λ l x. absurd (no_grant x) }
      busy (outcome.Refused r) b k = absurd (differ b)

  -- ---- `release_all` and multi-lock

  pub give_back_hands : (n : ℕ) (ls : List Hold) (r : Run) (t g : List ℕ) → n ≤ length ls
      → Hands (λ a. Nobody) (In (take n ls)) (give_back_of n e ls r t g)
  unfolding give_back_of is_in
  give_back_hands zero ls r t g k = record { settles = none; passes = λ l x. absurd (differ x) }
  give_back_hands (suc n) ls r t g k =
      let l = hold_at ls n in
      let u = set_cell t l.cell 0 0 in
      let m = (boundary_of (protecting e (take n ls)) r.flow u g).seen in
      let rest = give_back_hands n ls (run_of m.0 r.attempts (r.boundaries + 1) r.yields) m.1.0 m.1.1 (omega arith) in
      hand {K = In (take n ls)} (more (released by_caller l.cell l.serial) tt none)
      (λ x i. go x (in_either x (take n ls) (l ∷ []) (subst (λ z. In z x) (take-suc ls n no_hold (omega arith)) i)))
      (after_nobody (boundary_silent (protecting e (take n ls)) r.flow u g) rest)
    where
      go : (x : Hold) → In (take n ls) x ⊎ In (hold_at ls n ∷ []) x → In (take n ls) x ⊎ Frees x (released by_caller (hold_at ls n).cell (hold_at ls n).serial ∷ [])
      go x (inl i) = inl i
      go x (inr i) = inr (elim (in_cases (hold_at ls n) x [] i)
          [ inl q ↦ subst (λ z. Frees z (released by_caller (hold_at ls n).cell (hold_at ls n).serial ∷ [])) q (freed_here []) | inr z ↦ absurd (differ z) ])

  rollback_hands : (taken : List Hold) (x : Refusal) (p : ℕ) (r : Run) (t g grants : List ℕ) → Hands of_ended (In taken) (rollback_of e taken x p r t g grants)
  unfolding rollback_of
  rollback_hands taken x p r t g grants =
      let k = give_back_hands (length taken) taken r t g (omega arith) in
      hand {K = Nobody} k.settles (λ l i. k.passes l (rw (take-length taken) i)) (record { settles = none; passes = λ l x. absurd x })

module _ (e : Setting) where
  pub locks_hands : (left p buckets boot : ℕ) (registry keys : List ℕ) (taken : List Hold) (r : Run) (t g grants : List ℕ)
      → Hands of_ended (In taken) (locks_of left p e buckets boot registry keys taken r t g grants)
  unfolding locks_of
  locks_hands zero p buckets boot registry keys taken r t g grants = record { settles = none; passes = λ l i. inl (rw (words_back boot taken) i) }
  locks_hands (suc left) p buckets boot registry keys taken r t g grants =
      let k = retry_hands (protecting e taken) attempt_limit 0 none_yet buckets registry (binding_at keys p) (bucket_at keys p) r t g in
      let m = (retry_of attempt_limit 0 none_yet (protecting e taken) buckets registry (binding_at keys p) (bucket_at keys p) r t g).seen in
      hand {K = λ l. In taken l ⊎ Given m.0.outcome l} (loosen (λ l x. inr x) k.settles) (λ l i. inl (inl i))
      (go m.0.outcome m.0.run m.1.0 m.1.1
      (λ l. locks_hands left (p + 1) buckets boot registry keys (taken ++ (l ∷ [])) m.0.run m.1.0 m.1.1 grants))
    where
      go : (o : Outcome) (s : Run) (u x : List ℕ)
          → ((l : Hold) → Hands of_ended (In (taken ++ (l ∷ []))) (locks_of left (p + 1) e buckets boot registry keys (taken ++ (l ∷ [])) s u x grants))
          → Hands of_ended (λ l. In taken l ⊎ Given o l)
          (after_key o e taken p s u x grants (λ l. locks_of left (p + 1) e buckets boot registry keys (taken ++ (l ∷ [])) s u x grants))
      go (outcome.Granted k) s u x on =
          record {
            settles = (on k).settles;
            passes = λ l. elim [
              | inl i ↦ (on k).passes l (in_left l taken (k ∷ []) i)
              | inr q ↦ (on k).passes l (in_right l taken (k ∷ []) (let y : k ≡ l = cc in subst (In (k ∷ [])) y (in_first k [])))
            ];
          }
      go (outcome.Busy why) s u x on =
          let b = rollback_hands e taken _ p s u x grants in
          record { settles = b.settles; passes = λ l. elim [ inl i ↦ b.passes l i | inr q ↦ absurd (no_grant q) ] }
      go (outcome.Refused y) s u x on =
          let b = rollback_hands e taken y p s u x grants in
          record { settles = b.settles; passes = λ l. elim [ inl i ↦ b.passes l i | inr q ↦ absurd (no_refused q) ] }
