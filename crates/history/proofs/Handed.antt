-- What an answer hands over was taken by the caller in the call's own log, with the serial that was next at that moment. These laws read logs,
-- answers and next serials only: no arena has to be sound.
-- ---- logs
use Prim.Native.Nat.{ℕ, zero, suc, ◌+◌, ◌-◌, ◌%◌, ◌≤◌, ◌<◌}
use Rattle.std.specs.Prelude.{◌≡◌, refl, ◌&&◌, ◌⊎◌, ltb, eqb, length, take, Ok, Err}
use Rattle.std.proofs.Common.{sym, ap, ◌∙◌}
use Rattle.std.proofs.Math.Path.{subst}
use mathlib.Core.List.{List, [], ◌∷◌, ◌++◌, append_assoc}
use Rattle.std.proofs.Math.Bool.{not}
use Rattle.std.proofs.Math.Logic.{inl, inr}
use native.Mathlib.Omega.{arith}
use Rattle.std.proofs.Math.Dec.{leb}
use Rattle.types.specs.Checks.{Found}
use Rattle.model.specs.Log.{Made, Event, by_caller, attempt_begun, yielded, spun, took, released}
use Rattle.model.specs.Arena.{serial_remains, header_of, is_poisoned, hold_of, bit_at, owner_at, waiters_at, set_cell, is_free, is_live, is_in, state_at}
use Rattle.model.specs.Foreign.{Setting, protecting, steps_in, kind_at, place_at, number_at, step_take_of, step_release_of, step_waiters_of, step_health_of, step_of, run_steps_of, boundary_of, flow_of}
use Rattle.model.specs.Lock.{take_in, take_of, late_stage_of, after_take, second_stage_of, lock_of, outcome_of, find_of, attempt_at, attempt_of, spin_of, pause_of, is_busy, retry_of, run_of, attempt_limit, none_yet, hold_at, give_back_of, Locks, rollback_of, after_key, binding_at, bucket_at, locks_of}
use Rattle.types.specs.declared.Flow.{Flow}
use Rattle.types.specs.declared.Hold.{Hold}
use Rattle.types.specs.declared.Locked.{Locked}
use Rattle.types.specs.declared.Outcome.{Outcome}
use Rattle.types.specs.declared.Outcome.TheVariants as outcome
use Rattle.types.specs.declared.Refusal.{Refusal}
use Rattle.types.specs.declared.Reason.{Reason}
use Rattle.types.specs.declared.Run.{Run}
use Rattle.types.specs.declared.State.{State}
use Rattle.types.specs.declared.State.TheVariants as state
use Rattle.types.specs.declared.Stepped.{Stepped}
use Rattle.types.specs.declared.Take.{Take}
use Rattle.types.specs.declared.Take.TheVariants as taking
use Rattle.types.specs.declared.Took.{Took}
use Rattle.types.specs.declared.Tried.{Tried}
use Rattle.choice.specs.Pick.{if_both}
use Rattle.laws.specs.Lists.{words_back}
use Rattle.history.specs.World.{takes, number_of_lem}
use Rattle.history.specs.Tests.{differ, In, in_cases, in_either}
use Rattle.history.specs.Steps.{With}
use Rattle.history.specs.Owing.{Nobody, Given, of_ended}
use Rattle.history.proofs.Owing.{no_grant, no_refused}
use Rattle.history.specs.Counted.{number_append}
use Rattle.history.specs.Handed.{TakenIn, Issues, of_take, Locking, Trying, Running, Ending}

taken_left : {n : ℕ} {l : Hold} (xs ys : List Event) → TakenIn n l xs → TakenIn n l (xs ++ ys)
taken_left xs ys t =
    record { before = t.before; after = t.after ++ ys; parts = ap (λ (z : List Event). z ++ ys) t.parts ∙ append_assoc t.before _ ys; was_next = t.was_next }

taken_right : {n m : ℕ} {l : Hold} (xs ys : List Event) → m ≡ n + number_of_lem takes xs → TakenIn m l ys → TakenIn n l (xs ++ ys)
taken_right xs ys e t =
    record {
      before = xs ++ t.before;
      after = t.after;
      parts = ap (λ (z : List Event). xs ++ z) t.parts ∙ sym (append_assoc xs t.before _);
      was_next = omega (arith, t.was_next, number_append takes xs t.before);
    }

-- a serial that was taken lies between the next serials before and after
pub taken_between : {n : ℕ} {l : Hold} {es : List Event} → TakenIn n l es → (n ≤ l.serial) × (l.serial < n + number_of_lem takes es)
unfolding number_of_lem
taken_between {n} {l} {es} t =
    let k = took by_caller l.cell l.serial ∷ t.after in
    (omega (arith, t.was_next), omega (arith, t.was_next, ap (number_of_lem takes) t.parts, number_append takes t.before k))

pub idle : {n : ℕ} {K L : Hold → Type 0} → ((l : Hold) → L l → K l) → Issues n K n L []
unfolding number_of_lem
idle f = record { spends = omega arith; comes = λ l x. inl (f l x) }

-- nothing is taken by the caller
pub none_new : {n m : ℕ} {K : Hold → Type 0} {es : List Event} → m ≡ n + number_of_lem takes es → Issues n K m K es
none_new e = record { spends = e; comes = λ l x. inl x }

pub follow : {n m p : ℕ} {K L M : Hold → Type 0} {xs ys : List Event} → Issues n K m L xs → Issues m L p M ys → Issues n K p M (xs ++ ys)
follow {n} {m} {K = K} {L = L} {xs = xs} {ys = ys} a b =
    record { spends = omega (arith, a.spends, b.spends, number_append takes xs ys); comes = λ l x. on l (b.comes l x) }
  where
    left : (l : Hold) → K l ⊎ TakenIn n l xs → K l ⊎ TakenIn n l (xs ++ ys)
    left l (inl k) = inl k
    left l (inr t) = inr (taken_left xs ys t)

    on : (l : Hold) → L l ⊎ TakenIn m l ys → K l ⊎ TakenIn n l (xs ++ ys)
    on l (inl x) = left l (a.comes l x)
    on l (inr t) = inr (taken_right xs ys a.spends t)

pub regard : {n m : ℕ} {K K' L L' : Hold → Type 0} {es : List Event} → ((l : Hold) → K l → K' l) → ((l : Hold) → L' l → L l) → Issues n K m L es → Issues n K' m L' es
regard f h a = record { spends = a.spends; comes = λ l x. elim (a.comes l (h l x)) [ inl k ↦ inl (f l k) | inr t ↦ inr t ] }

-- ---- foreign steps and boundaries

module _ (e : Setting) where
  step_spends : (n : ℕ) (t g : List ℕ) (kind place number : ℕ)
      → let m = step_of e n t g kind place number in m.seen.0.next ≡ n + number_of_lem takes m.log
  unfolding step_of step_take_of step_release_of step_waiters_of step_health_of number_of_lem
  step_spends n t g kind place number =
      if_both P (eqb kind 0) (omega arith)
      (if_both P (eqb kind 1) (if_both P' (ltb place e.cells && is_free (bit_at t place) (owner_at t place) && serial_remains n) (omega arith) (omega arith))
      (if_both P (eqb kind 2) (if_both P' (is_live n e.cells t (hold_of place number) && not (is_in (hold_of place number) e.protected)) (omega arith) (omega arith))
      (if_both P (eqb kind 3) (if_both P' (ltb place e.cells) (omega arith) (omega arith))
      (if_both P (eqb kind 4) (if_both P' (ltb place e.headers && leb number 1) (omega arith) (omega arith))
      (if_both P (eqb kind 5) (omega arith) (omega arith))))))
    where
      P : Made (With Stepped) → Type 0
      P m = m.seen.0.next ≡ n + number_of_lem takes m.log

      P' : Made (Stepped × List ℕ) → Type 0
      P' m = m.seen.0.next ≡ n + number_of_lem takes (m.log ++ [])

  steps_spends : (left : ℕ) (f : Flow) (t g : List ℕ) → let m = run_steps_of left e f t g in m.seen.0.next ≡ f.next + number_of_lem takes m.log
  unfolding run_steps_of number_of_lem
  steps_spends zero f t g = omega arith
  steps_spends (suc left) f t g =
      let s = step_of e f.next t g (kind_at e.script f.place) (place_at e.script f.place) (number_at e.script f.place) in
      let v = flow_of s.seen.0.next (f.place + 1) (f.dropped + s.seen.0.dropped) in
      let rest = run_steps_of left e v s.seen.1.0 s.seen.1.1 in
      if_both (λ (m : Made (With Flow)). m.seen.0.next ≡ f.next + number_of_lem takes m.log) (eqb (kind_at e.script f.place) 5) (omega arith)
      (omega (
        arith,
        number_append takes s.log rest.log,
        steps_spends left v s.seen.1.0 s.seen.1.1,
        step_spends f.next t g (kind_at e.script f.place) (place_at e.script f.place) (number_at e.script f.place),
      ))

  boundary_issues : (K : Hold → Type 0) (f : Flow) (t g : List ℕ) → let m = boundary_of e f t g in Issues f.next K m.seen.0.next K m.log
  unfolding boundary_of number_of_lem
  boundary_issues K f t g = none_new (omega (arith, steps_spends (steps_in e.script - f.place) f t g))

pub take_issues : (n : ℕ) (t : List ℕ) (c : ℕ) → let m = take_of n t c in Issues n Nobody m.seen.0.next (of_take c m.seen.0.answer) m.log
unfolding take_of number_of_lem
take_issues n t c = go (state_at n t c)
  where
    P : Made (Took × List ℕ) → Type 0
    P m = Issues n Nobody m.seen.0.next (of_take c m.seen.0.answer) m.log

    -- the lease of a grant
    new : (l : Hold) → outcome.Granted (hold_of c n) ≡ outcome.Granted l → Nobody l ⊎ TakenIn n l (took by_caller c n ∷ [])
    new l x =
        let y : hold_of c n ≡ l = cc in
        inr (subst (λ k. TakenIn n k (took by_caller c n ∷ [])) y (record { before = []; after = []; parts = refl; was_next = omega arith }))

    go : (s : State) → P (take_in s n t c)
    go state.Damaged = idle (λ l x. no_refused x)
    go (state.Held o) = idle (λ l x. no_grant x)
    go state.Free = if_both P (serial_remains n) (record { spends = omega arith; comes = new }) (idle (λ l x. no_refused x))

module _ (e : Setting) (buckets : ℕ) where
  late_issues : (f : Flow) (t g : List ℕ) (c s : ℕ) → Locking f.next (of_take c (taking.Granted s)) (late_stage_of e buckets f t g c s)
  unfolding late_stage_of number_of_lem
  late_issues f t g c s =
      let m = (boundary_of (protecting e (hold_of c s ∷ [])) f t g).seen in
      follow (boundary_issues (protecting e (hold_of c s ∷ [])) (of_take c (taking.Granted s)) f t g)
      (if_both (Locking m.0.next (of_take c (taking.Granted s))) (is_poisoned m.1.1 (header_of buckets c))
      (record { spends = omega arith; comes = λ l x. absurd (no_refused x) })
      (if_both (Locking m.0.next (of_take c (taking.Granted s))) (eqb (waiters_at m.1.0 c) 0) (idle (λ l x. x))
      (record { spends = omega arith; comes = λ l x. absurd (no_grant x) })))

  after_issues : (a : Take) (f : Flow) (t g : List ℕ) (c : ℕ) → Locking f.next (of_take c a) (after_take a e buckets f t g c)
  after_issues (taking.Granted s) f t g c = late_issues f t g c s
  after_issues (taking.Busy owner) f t g c = idle (λ l x. x)
  after_issues taking.Damaged f t g c = idle (λ l x. x)
  after_issues taking.Spent f t g c = idle (λ l x. x)

  second_issues : (f : Flow) (t g : List ℕ) (c : ℕ) → Locking f.next Nobody (second_stage_of e buckets f t g c)
  unfolding second_stage_of
  second_issues f t g c =
      let m = (boundary_of e f t g).seen in
      let k = (take_of m.0.next m.1.0 c).seen in
      follow (boundary_issues e Nobody f t g)
      (follow (take_issues m.0.next m.1.0 c) (after_issues k.0.answer (flow_of k.0.next m.0.place m.0.dropped) k.1 m.1.1 c))

  pub lock_issues : (f : Flow) (t g : List ℕ) (c : ℕ) → Locking f.next Nobody (lock_of e buckets f t g c)
  unfolding lock_of
  lock_issues f t g c =
      let m = (boundary_of e f t g).seen in
      follow (boundary_issues e Nobody f t g)
      (if_both (Locking m.0.next Nobody) (eqb (waiters_at m.1.0 c) 0) (second_issues m.0 m.1.0 m.1.1 c) (idle (λ l x. no_grant x)))

module _ (e : Setting) where
  pub attempt_issues : (buckets : ℕ) (registry : List ℕ) (binding bucket : ℕ) (r : Run) (t g : List ℕ)
      → Trying r.flow.next (attempt_of e buckets registry binding bucket r t g)
  unfolding attempt_of number_of_lem
  attempt_issues buckets registry binding bucket r t g =
      follow {xs = attempt_begun ∷ []} (none_new (omega arith)) (go (find_of e.headers buckets g registry binding bucket))
    where
      go : (x : Found) → Trying r.flow.next (attempt_at x e buckets r t g)
      go (Err x) = idle (λ l y. no_refused y)
      go (Ok c) = follow (lock_issues e buckets r.flow t g c) (idle (λ l y. y))

  spin_issues : (r : Run) (t g : List ℕ) → Running r.flow.next (spin_of e r t g)
  unfolding spin_of number_of_lem
  spin_issues r t g = follow (boundary_issues e Nobody r.flow t g) (none_new {es = spun ∷ []} (omega arith))

  pause_issues : (i : ℕ) (r : Run) (t g : List ℕ) → Running r.flow.next (pause_of e i r t g)
  unfolding pause_of number_of_lem
  pause_issues i r t g =
      let m = (boundary_of e r.flow t g).seen in
      if_both (Running r.flow.next) (eqb (i % 64) 63)
      (follow (boundary_issues e Nobody r.flow t g)
      (follow {xs = yielded ∷ []} (none_new (omega arith)) (spin_issues (run_of m.0 r.attempts (r.boundaries + 1) (r.yields + 1)) m.1.0 m.1.1)))
      (spin_issues r t g)

  pub retry_issues : (left i : ℕ) (last : Reason) (buckets : ℕ) (registry : List ℕ) (binding bucket : ℕ) (r : Run) (t g : List ℕ)
      → Trying r.flow.next (retry_of left i last e buckets registry binding bucket r t g)
  unfolding retry_of
  retry_issues zero i last buckets registry binding bucket r t g = idle (λ l x. no_grant x)
  retry_issues (suc left) i last buckets registry binding bucket r t g =
      let m = (attempt_of e buckets registry binding bucket r t g).seen in
      let p = (pause_of e i m.0.run m.1.0 m.1.1).seen in
      let next = m.0.run.flow.next in
      let again = retry_issues left (i + 1) _ buckets registry binding bucket p.0 p.1.0 p.1.1 in
      follow (attempt_issues buckets registry binding bucket r t g)
      (if_both (λ (x : Made (With Tried)). Issues next (Given m.0.outcome) x.seen.0.run.flow.next (Given x.seen.0.outcome) x.log) (is_busy m.0.outcome)
      (regard (λ l x. absurd x) (λ l x. x) (follow (pause_issues i m.0.run m.1.0 m.1.1) again))
      (idle (λ l x. x)))

  -- ---- giving back, and multi-lock

  back_issues : (K : Hold → Type 0) (n : ℕ) (ls : List Hold) (r : Run) (t g : List ℕ)
      → let m = give_back_of n e ls r t g in Issues r.flow.next K m.seen.0.flow.next K m.log
  unfolding give_back_of number_of_lem
  back_issues K zero ls r t g = idle (λ l x. x)
  back_issues K (suc n) ls r t g =
      let l = hold_at ls n in
      let u = set_cell t l.cell 0 0 in
      let m = (boundary_of (protecting e (take n ls)) r.flow u g).seen in
      follow {xs = released by_caller l.cell l.serial ∷ []} (none_new (omega arith))
      (follow (boundary_issues (protecting e (take n ls)) K r.flow u g) (back_issues K n ls (run_of m.0 r.attempts (r.boundaries + 1) r.yields) m.1.0 m.1.1))

-- the only lease of a list
only : (k l : Hold) → In (k ∷ []) l → outcome.Granted k ≡ outcome.Granted l
unfolding is_in
only k l j = elim (in_cases k l [] j) [ inl q ↦ ap {B = Outcome} (λ z. outcome.Granted z) q | inr z ↦ absurd (differ z) ]

module _ (e : Setting) where
  rollback_issues : (K : Hold → Type 0) (taken : List Hold) (x : Refusal) (p : ℕ) (r : Run) (t g grants : List ℕ)
      → Ending r.flow.next K (rollback_of e taken x p r t g grants)
  unfolding rollback_of
  rollback_issues K taken x p r t g grants = follow (back_issues e K (length taken) taken r t g) (idle (λ l y. absurd y))

  pub locks_issues : (left p buckets boot : ℕ) (registry keys : List ℕ) (taken : List Hold) (r : Run) (t g grants : List ℕ)
      → Ending r.flow.next (In taken) (locks_of left p e buckets boot registry keys taken r t g grants)
  unfolding locks_of
  locks_issues zero p buckets boot registry keys taken r t g grants = idle (λ l i. subst (λ z. In z l) (words_back boot taken) i)
  locks_issues (suc left) p buckets boot registry keys taken r t g grants =
      let k = retry_issues (protecting e taken) attempt_limit 0 none_yet buckets registry (binding_at keys p) (bucket_at keys p) r t g in
      let m = (retry_of attempt_limit 0 none_yet (protecting e taken) buckets registry (binding_at keys p) (bucket_at keys p) r t g).seen in
      follow {L = λ l. In taken l ⊎ Given m.0.outcome l} (record { spends = k.spends; comes = λ l. elim [ inl i ↦ inl i | inr q ↦ elim (k.comes l q) [ inl z ↦ absurd z | inr z ↦ inr z ] ] })
      (go m.0.outcome m.0.run m.1.0 m.1.1
      (λ l. locks_issues left (p + 1) buckets boot registry keys (taken ++ (l ∷ [])) m.0.run m.1.0 m.1.1 grants))
    where
      go : (o : Outcome) (s : Run) (u x : List ℕ)
          → ((l : Hold) → Ending s.flow.next (In (taken ++ (l ∷ []))) (locks_of left (p + 1) e buckets boot registry keys (taken ++ (l ∷ [])) s u x grants))
          → Ending s.flow.next (λ l. In taken l ⊎ Given o l)
          (after_key o e taken p s u x grants (λ l. locks_of left (p + 1) e buckets boot registry keys (taken ++ (l ∷ [])) s u x grants))
      go (outcome.Granted k) s u x on =
          regard (λ l i. elim (in_either l taken (k ∷ []) i) [ inl j ↦ inl j | inr j ↦ inr (only k l j) ]) (λ l y. y) (on k)
      go (outcome.Busy why) s u x on = rollback_issues (λ l. In taken l ⊎ Given (outcome.Busy why) l) taken _ p s u x grants
      go (outcome.Refused y) s u x on = rollback_issues (λ l. In taken l ⊎ Given (outcome.Refused y) l) taken y p s u x grants
