-- Busy attempts from outside. "after each Busy attempt, a boundary and a spin": the spins-in in the log are the Busy attempts. So yields are the
-- Busy attempts of a key divided by 64, rounded down, and 11 is answered exactly if 4,096 attempts of the key were all Busy. Any script.
use Prim.Native.Nat.{ℕ, zero, suc, ◌+◌, ◌-◌, ◌/◌, ◌%◌, ◌<◌}
use Rattle.std.proofs.Math.Path.{◌≡◌, refl}
use Rattle.std.proofs.Common.{sym, ap, ◌∙◌, subst, eqb-true}
use mathlib.Core.List.{List, [], ◌∷◌, ◌++◌}
use Rattle.std.proofs.Math.Bool.{true, false, not}
use Rattle.std.specs.Prelude.{◌&&◌, ltb, eqb, length, take, Ok, Err}
use native.Mathlib.Omega.{arith}
use Rattle.std.proofs.Math.Dec.{leb}
use Rattle.std.proofs.Math.ListN.{get_or}
use Rattle.std.proofs.lemmas.Bool.{eqb-false}
use Rattle.types.specs.Checks.{Found}
use Rattle.model.specs.Log.{Made, Event, yielded, spun}
use Rattle.model.specs.Arena.{serial_remains, header_of, is_poisoned, hold_of, holds_of, bit_at, owner_at, waiters_at, set_cell, state_at, is_free, is_live, is_in}
use Rattle.model.specs.Foreign.{Setting, protecting, steps_in, kind_at, place_at, number_at, flow_of, step_take_of, step_release_of, step_waiters_of, step_health_of, step_of, run_steps_of, boundary_of}
use Rattle.model.specs.Lock.{take_in, take_of, late_stage_of, after_take, second_stage_of, lock_of, answer_of, settled, run_of, find_of, attempt_at, attempt_of, spin_of, pause_of, is_busy, last_of, retry_of, attempt_limit, none_yet, hold_at, give_back_of, Locks, rollback_of, after_key, binding_at, bucket_at, locks_of}
use Rattle.model.specs.Checks.{count_in}
use Rattle.model.specs.Calls.{given, starting}
use Rattle.model.specs.Crew.{total}
use Rattle.types.specs.declared.Answer.{Answer}
use Rattle.types.specs.declared.Answer.TheVariants.{Granted, AllGranted, Refused, RefusedAt}
use Rattle.types.specs.declared.Flow.{Flow}
use Rattle.types.specs.declared.Hold.{Hold}
use Rattle.types.specs.declared.Lease.{Lease}
use Rattle.types.specs.declared.Locked.{Locked}
use Rattle.types.specs.declared.Outcome.{Outcome}
use Rattle.types.specs.declared.Outcome.TheVariants as outcome
use Rattle.types.specs.declared.Reason.{Reason}
use Rattle.types.specs.declared.Refusal.{Refusal}
use Rattle.types.specs.declared.Refusal.TheVariants.{SerializationFailure}
use Rattle.types.specs.declared.Run.{Run}
use Rattle.types.specs.declared.State.{State}
use Rattle.types.specs.declared.State.TheVariants as state
use Rattle.types.specs.declared.Stepped.{Stepped}
use Rattle.types.specs.declared.Take.{Take}
use Rattle.types.specs.declared.Take.TheVariants as taking
use Rattle.types.specs.declared.Took.{Took}
use Rattle.types.specs.declared.Tried.{Tried}
use Rattle.choice.specs.Pick.{if_both}
use Rattle.laws.specs.Outcomes.{Comes, granted, busy, poisoned, damaged, spent, lock_comes}
use Rattle.history.specs.Judged.{made_so}
use Rattle.history.specs.World.{World}
use Rattle.history.specs.Items.{Says, perform, acquire_locks, acquire_bucket}
use Rattle.history.specs.Tests.{differ, if_cases}
use Rattle.history.specs.Steps.{With}
use Rattle.history_exact.specs.Attempts.{BucketRetries, Failed, FailedAt, KeysRetried, LocksRetry, Retries, total_64, Some4096, a_later, this_key, spins_in}

-- ---- no spin in a lock

pub spins_append : (xs ys : List Event) → spins_in (xs ++ ys) ≡ spins_in xs + spins_in ys
unfolding spins_in
spins_append [] ys = omega arith
spins_append (x ∷ xs) ys = omega (arith, spins_append xs ys)

pub record NoSpins (es : List Event) : Type 0 where
  pub none : spins_in es ≡ 0

abbrev pub Still : {A : Type 0} → Made A → Type 0
Still m = NoSpins m.log

two_still : {xs ys : List Event} → NoSpins xs → NoSpins ys → NoSpins (xs ++ ys)
two_still {xs} {ys} a b = record { none = omega (arith, spins_append xs ys) }

module _ (e : Setting) where
  step_still : (n : ℕ) (t g : List ℕ) (kind place number : ℕ) → Still (step_of e n t g kind place number)
  unfolding step_of step_take_of step_release_of step_waiters_of step_health_of spins_in
  step_still n t g kind place number =
      if_both P (eqb kind 0) (record { none = refl })
      (if_both P (eqb kind 1) (if_both P' (ltb place e.cells && is_free (bit_at t place) (owner_at t place) && serial_remains n) (record { none = refl }) (record { none = refl }))
      (if_both P (eqb kind 2) (if_both P' (is_live n e.cells t (hold_of place number) && not (is_in (hold_of place number) e.protected)) (record { none = refl }) (record { none = refl }))
      (if_both P (eqb kind 3) (if_both P' (ltb place e.cells) (record { none = refl }) (record { none = refl }))
      (if_both P (eqb kind 4) (if_both P' (ltb place e.headers && leb number 1) (record { none = refl }) (record { none = refl }))
      (if_both P (eqb kind 5) (record { none = refl }) (record { none = refl }))))))
    where
      P : Made (With Stepped) → Type 0
      P m = Still m

      P' : Made (Stepped × List ℕ) → Type 0
      P' m = NoSpins (m.log ++ [])

  steps_still : (left : ℕ) (f : Flow) (t g : List ℕ) → Still (run_steps_of left e f t g)
  unfolding run_steps_of spins_in
  steps_still zero f t g = (record { none = refl })
  steps_still (suc left) f t g =
      let kind = kind_at e.script f.place in
      let s = (step_of e f.next t g kind (place_at e.script f.place) (number_at e.script f.place)).seen in
      if_both (λ (m : Made (With Flow)). Still m) (eqb kind 5) (record { none = refl })
      (two_still (step_still f.next t g kind (place_at e.script f.place) (number_at e.script f.place))
      (steps_still left (flow_of s.0.next (f.place + 1) (f.dropped + s.0.dropped)) s.1.0 s.1.1))

  pub boundary_still : (f : Flow) (t g : List ℕ) → Still (boundary_of e f t g)
  unfolding boundary_of spins_in
  boundary_still f t g = let k = steps_still (steps_in e.script - f.place) f t g in record { none = omega (arith, k.none) }

take_still : (next : ℕ) (t : List ℕ) (c : ℕ) → Still (take_of next t c)
unfolding take_of spins_in
take_still next t c = go (state_at next t c)
  where
    go : (x : State) → Still (take_in x next t c)
    go state.Damaged = (record { none = refl })
    go (state.Held o) = (record { none = refl })
    go state.Free = if_both (λ (m : Made (Took × List ℕ)). Still m) (serial_remains next) (record { none = refl }) (record { none = refl })

module _ (e : Setting) (buckets : ℕ) where
  abbrev Quiet : Made (With Locked) → Type 0
  Quiet m = Still m

  late_still : (f : Flow) (t g : List ℕ) (c s : ℕ) → Quiet (late_stage_of e buckets f t g c s)
  unfolding late_stage_of spins_in
  late_still f t g c s =
      let q = protecting e (hold_of c s ∷ []) in
      let m = (boundary_of q f t g).seen in
      two_still (boundary_still q f t g) (if_both Quiet (is_poisoned m.1.1 (header_of buckets c)) (record { none = refl })
      (if_both Quiet (eqb (waiters_at m.1.0 c) 0) (record { none = refl }) (record { none = refl })))

  after_still : (a : Take) (f : Flow) (t g : List ℕ) (c : ℕ) → Quiet (after_take a e buckets f t g c)
  unfolding spins_in
  after_still (taking.Granted s) f t g c = late_still f t g c s
  after_still (taking.Busy owner) f t g c = (record { none = refl })
  after_still taking.Damaged f t g c = (record { none = refl })
  after_still taking.Spent f t g c = (record { none = refl })

  second_still : (f : Flow) (t g : List ℕ) (c : ℕ) → Quiet (second_stage_of e buckets f t g c)
  unfolding second_stage_of
  second_still f t g c =
      let m = (boundary_of e f t g).seen in
      let k = (take_of m.0.next m.1.0 c).seen in
      two_still (boundary_still e f t g) (two_still (take_still m.0.next m.1.0 c)
      (after_still k.0.answer (flow_of k.0.next m.0.place m.0.dropped) k.1 m.1.1 c))

  lock_still : (f : Flow) (t g : List ℕ) (c : ℕ) → Quiet (lock_of e buckets f t g c)
  unfolding lock_of spins_in
  lock_still f t g c =
      let m = (boundary_of e f t g).seen in
      two_still (boundary_still e f t g) (if_both Quiet (eqb (waiters_at m.1.0 c) 0) (second_still m.0 m.1.0 m.1.1 c) (record { none = refl }))

-- ---- an attempt: no spin, no yield, one attempt; a pause: one spin

-- not 11
abbrev pub Else : Outcome → Type 0
Else (outcome.Granted l) = Unit {0}
Else (outcome.Busy why) = Unit {0}
Else (outcome.Refused r) = (why : Reason) → r ≡ SerializationFailure why → ⊥

abbrev FaultElse : Found → Type 0
FaultElse (Err r) = (why : Reason) → r ≡ SerializationFailure why → ⊥
FaultElse (Ok c) = Unit {0}

lock_else : {buckets c : ℕ} {g : List ℕ} {o : Outcome} → Comes buckets c g o → Else o
lock_else (granted s h) = tt
lock_else (busy why) = tt
lock_else (poisoned h) = λ _ e. let z : ◌≡◌ {A = ℕ} 0 1 = cc in omega arith
lock_else damaged = λ _ e. let z : ◌≡◌ {A = ℕ} 0 1 = cc in omega arith
lock_else spent = λ _ e. let z : ◌≡◌ {A = ℕ} 0 1 = cc in omega arith

pub record One (r : Run) (m : Made (With Tried)) : Type 0 where
  pub no_spin : spins_in m.log ≡ 0
  pub one_attempt : m.seen.0.run.attempts ≡ r.attempts + 1
  pub no_yield : m.seen.0.run.yields ≡ r.yields
  pub other : Else m.seen.0.outcome

record Paused (i : ℕ) (r : Run) (m : Made (With Run)) : Type 0 where
  pub one_spin : spins_in m.log ≡ 1
  pub no_attempt : m.seen.0.attempts ≡ r.attempts
  pub yields_at : m.seen.0.yields + i / 64 ≡ r.yields + (i + 1) / 64

module _ (e : Setting) (buckets : ℕ) (registry : List ℕ) (binding bucket : ℕ) where
  pub attempt_one : (r : Run) (t g : List ℕ) → One r (attempt_of e buckets registry binding bucket r t g)
  unfolding attempt_of find_of spins_in
  attempt_one r t g =
      let header = get_or registry binding 0 in
      let k = go (find_of e.headers buckets g registry binding bucket)
      (if_both FaultElse (leb e.headers header) (λ _ e. let z : ◌≡◌ {A = ℕ} 0 1 = cc in omega arith)
      (if_both FaultElse (is_poisoned g header) (λ _ e. let z : ◌≡◌ {A = ℕ} 0 1 = cc in omega arith)
      (if_both FaultElse (leb buckets bucket) (λ _ e. let z : ◌≡◌ {A = ℕ} 0 1 = cc in omega arith) tt))) in
      record { no_spin = omega (arith, k.no_spin); one_attempt = k.one_attempt; no_yield = k.no_yield; other = k.other }
    where
      go : (x : Found) → FaultElse x → One r (attempt_at x e buckets r t g)
      go (Err x) h = record { no_spin = refl; one_attempt = refl; no_yield = refl; other = h }
      go (Ok c) h =
          record {
            no_spin = (two_still (lock_still e buckets r.flow t g c) (record { none = refl })).none;
            one_attempt = refl;
            no_yield = refl;
            other = lock_else (lock_comes e buckets c r.flow t g);
          }

spin_run : (e : Setting) (r : Run) (t g : List ℕ) → ((spin_of e r t g).seen.0.attempts ≡ r.attempts) × ((spin_of e r t g).seen.0.yields ≡ r.yields)
unfolding spin_of
spin_run e r t g = (refl, refl)

spin_one : (e : Setting) (r : Run) (t g : List ℕ) → spins_in (spin_of e r t g).log ≡ 1
unfolding spin_of spins_in
spin_one e r t g = omega (arith, spins_append (boundary_of e r.flow t g).log (spun ∷ []), (boundary_still e r.flow t g).none)

pause_one : (e : Setting) (i : ℕ) (r : Run) (t g : List ℕ) → Paused i r (pause_of e i r t g)
unfolding pause_of spins_in
pause_one e i r t g =
    let b = boundary_of e r.flow t g in
    let m = b.seen in
    let k = run_of m.0 r.attempts (r.boundaries + 1) (r.yields + 1) in
    if_cases (Paused i r) (eqb (i % 64) 63)
    (λ c.
    record {
      one_spin = omega (arith, spins_append b.log (yielded ∷ (spin_of e k m.1.0 m.1.1).log), (boundary_still e r.flow t g).none, spin_one e k m.1.0 m.1.1);
      no_attempt = (spin_run e k m.1.0 m.1.1).0;
      yields_at = omega (arith, eqb-true (i % 64) 63 c, (spin_run e k m.1.0 m.1.1).1);
    })
    (λ c.
    record {
      one_spin = spin_one e r t g;
      no_attempt = (spin_run e r t g).0;
      yields_at = omega (arith, eqb-false (i % 64) 63 c, (spin_run e r t g).1);
    })

-- ---- retrying

record Ran (left i : ℕ) (r : Run) (m : Made (With Tried)) : Type 0 where
  pub yields_at : m.seen.0.run.yields + i / 64 ≡ r.yields + (i + spins_in m.log) / 64
  pub other : Else m.seen.0.outcome
  pub all : is_busy m.seen.0.outcome ≡ true → (spins_in m.log ≡ left) × (m.seen.0.run.attempts ≡ r.attempts + left)
  pub fewer : is_busy m.seen.0.outcome ≡ false → (spins_in m.log < left) × (m.seen.0.run.attempts ≡ r.attempts + spins_in m.log + 1)

module _ (e : Setting) (buckets : ℕ) (registry : List ℕ) (binding bucket : ℕ) where
  retry_ran : (left i : ℕ) (last : Reason) (r : Run) (t g : List ℕ) → Ran left i r (retry_of left i last e buckets registry binding bucket r t g)
  unfolding retry_of spins_in
  retry_ran zero i last r t g = record { yields_at = omega arith; other = tt; all = λ _. (refl, omega arith); fewer = λ q. absurd (differ (sym q)) }
  retry_ran (suc left) i last r t g =
      let a = attempt_of e buckets registry binding bucket r t g in
      let m = a.seen in
      let b = pause_of e i m.0.run m.1.0 m.1.1 in
      let p = b.seen in
      let rest = retry_of left (i + 1) (last_of last m.0.outcome) e buckets registry binding bucket p.0 p.1.0 p.1.1 in
      let x = attempt_one e buckets registry binding bucket r t g in
      let y = pause_one e i m.0.run m.1.0 m.1.1 in
      let z = retry_ran left (i + 1) (last_of last m.0.outcome) p.0 p.1.0 p.1.1 in
      if_cases (λ (o : Made (With Tried)). Ran (suc left) i r (record { seen = o.seen; log = a.log ++ o.log })) (is_busy m.0.outcome)
      (λ c.
      let s : spins_in (a.log ++ (b.log ++ rest.log)) ≡ 1 + spins_in rest.log
      = omega (arith, spins_append a.log (b.log ++ rest.log), spins_append b.log rest.log, x.no_spin, y.one_spin) in
      record {
        yields_at = omega (arith, s, z.yields_at, y.yields_at, x.no_yield);
        other = z.other;
        all = λ q. (omega (arith, s, (z.all q).0), omega (arith, (z.all q).1, y.no_attempt, x.one_attempt));
        fewer = λ q. (omega (arith, s, (z.fewer q).0), omega (arith, s, (z.fewer q).1, y.no_attempt, x.one_attempt));
      })
      (λ c.
      let s : spins_in (a.log ++ []) ≡ 0 = omega (arith, spins_append a.log [], x.no_spin) in
      record {
        yields_at = omega (arith, s, x.no_yield);
        other = x.other;
        all = λ q. absurd (differ (sym c ∙ q));
        fewer = λ q. (omega (arith, s), omega (arith, s, x.one_attempt));
      })

-- a grant is not 11, nor is another refusal
granted_fails : {l : Lease} → Failed (Granted l) → ⊥
granted_fails (why, e) = let z : ◌≡◌ {A = ℕ} 0 1 = cc in omega arith

else_fails : {r : Refusal} → ((why : Reason) → r ≡ SerializationFailure why → ⊥) → Failed (Refused r) → ⊥
else_fails {r} n (why, e) = let z : r ≡ SerializationFailure why = cc in n why z

pub bucket_retries : BucketRetries perform
bucket_retries w registry script place held binding bucket fine =
    let m = retry_of attempt_limit 0 none_yet (given w.head script (holds_of held)) w.head.buckets registry binding bucket (starting w.head place) w.table w.health in
    let z = retry_ran (given w.head script (holds_of held)) w.head.buckets registry binding bucket attempt_limit 0 none_yet (starting w.head place) w.table w.health in
    subst (λ (x : Made (World × Says)). Retries x.seen.1.answer x.seen.1.counts.attempts x.seen.1.counts.yields (spins_in x.log))
    (sym (made_so w (acquire_bucket registry script place held binding bucket) fine))
    (go m.seen.0.outcome m.seen.0.run.attempts m.seen.0.run.yields (spins_in m.log) (omega (arith, z.yields_at)) z.other
    (λ q. ((z.all q).0, omega (arith, (z.all q).1))) (λ q. ((z.fewer q).0, omega (arith, (z.fewer q).1))))
  where
    go : (o : Outcome) (a y b : ℕ) → y ≡ b / 64 → Else o → (is_busy o ≡ true → (b ≡ 4096) × (a ≡ 4096)) → (is_busy o ≡ false → (b < 4096) × (a ≡ b + 1))
        → Retries (answer_of w.head.boot (settled o)) a y b
    go (outcome.Granted l) a y b yi el all few =
        record {
          yields_are = yi;
          failed = (λ e. absurd (granted_fails e), λ e. absurd (omega (arith, (few refl).0)));
          all_busy = λ e. absurd (granted_fails e);
          last_not = λ _. ((few refl).1, omega (arith, (few refl).0, (few refl).1));
        }
    go (outcome.Busy why) a y b yi el all few =
        record {
          yields_are = yi;
          failed = (λ _. (all refl).0, λ _. (why, refl));
          all_busy = λ _. omega (arith, (all refl).0, (all refl).1);
          last_not = λ n. absurd (n (why, refl));
        }
    go (outcome.Refused r) a y b yi el all few =
        record {
          yields_are = yi;
          failed = (λ e. absurd (else_fails el e), λ e. absurd (omega (arith, (few refl).0)));
          all_busy = λ e. absurd (else_fails el e);
          last_not = λ _. ((few refl).1, omega (arith, (few refl).0, (few refl).1));
        }

record Backed (r : Run) (m : Made (With Run)) : Type 0 where
  pub calm : NoSpins m.log
  pub same : m.seen.0.yields ≡ r.yields

back_still : (n : ℕ) (e : Setting) (ls : List Hold) (r : Run) (t g : List ℕ) → Backed r (give_back_of n e ls r t g)
unfolding give_back_of spins_in
back_still zero e ls r t g = record { calm = record { none = refl }; same = refl }
back_still (suc n) e ls r t g =
    let l = hold_at ls n in
    let u = set_cell t l.cell 0 0 in
    let q = protecting e (take n ls) in
    let m = (boundary_of q r.flow u g).seen in
    let k = back_still n e ls (run_of m.0 r.attempts (r.boundaries + 1) r.yields) m.1.0 m.1.1 in
    let two = two_still (boundary_still q r.flow u g) k.calm in
    record { calm = record { none = omega (arith, two.none) }; same = k.same }

-- what `left` keys add to y yields and to the spins-in
abbrev Sums : ℕ → ℕ → Made Locks → Type 0
Sums left y m = (z : ℕ) × (m.seen.0.run.yields ≡ y + z) × KeysRetried left m.seen.0.answer z (spins_in m.log)

none_of : {ns : List ℕ} → Some4096 ns → ns ≡ [] → ⊥
none_of this_key e = let z : ◌≡◌ {A = ℕ} 0 1 = cc in omega arith
none_of (a_later s) e = let z : ◌≡◌ {A = ℕ} 0 1 = cc in omega arith

none_failed : (keys : ℕ) (a : Answer) → (FailedAt a → ⊥) → KeysRetried keys a 0 0
unfolding total total_64
none_failed keys a n = record { of_key = []; few = omega arith; busy_are = refl; yields_are = refl; failed = λ e. absurd (n e); fails = λ s. absurd (none_of s refl) }

-- one key more in front
one_key : (keys b z s : ℕ) (a : Answer) → b < 4096 → KeysRetried keys a z s → KeysRetried (suc keys) a (b / 64 + z) (b + s)
unfolding total total_64
one_key keys b z s a l k =
    record {
      of_key = b ∷ k.of_key;
      few = omega (arith, k.few);
      busy_are = omega (arith, k.busy_are);
      yields_are = omega (arith, k.yields_are);
      failed = λ e. a_later (k.failed e);
      fails = λ x. k.fails (rest x refl);
    }
  where
    rest : {ns : List ℕ} → Some4096 ns → ns ≡ b ∷ k.of_key → Some4096 k.of_key
    rest this_key e = let z : 4096 ≡ b = cc in absurd (omega arith)
    rest (a_later {ns = ns} x) e = let z : ns ≡ k.of_key = cc in subst Some4096 z x

-- the last key: Busy to the end, or refused before
last_key : (keys b : ℕ) (x : Refusal) (p : ℕ) → ((why : Reason) → x ≡ SerializationFailure why → b ≡ 4096)
    → (b ≡ 4096 → (why : Reason) × (x ≡ SerializationFailure why))
    → KeysRetried (suc keys) (RefusedAt x p) (b / 64) b
unfolding total total_64
last_key keys b x p f g =
    record {
      of_key = b ∷ [];
      few = omega arith;
      busy_are = omega arith;
      yields_are = omega arith;
      failed = λ (why, q, e). let z : x ≡ SerializationFailure why = cc in subst (λ n. Some4096 (n ∷ [])) (sym (f why z)) this_key;
      fails = λ s. let z = g (only s refl) in (z.0, p, ap (λ (y : Refusal). RefusedAt y p) z.1);
    }
  where
    only : {ns : List ℕ} → Some4096 ns → ns ≡ b ∷ [] → b ≡ 4096
    only this_key e = cc
    only (a_later {ns = ns} s) e = let z : ns ≡ [] = cc in absurd (none_of s z)

-- a tally that equals another
same_tally : {keys z z' s s' : ℕ} {a : Answer} → z ≡ z' → s ≡ s' → KeysRetried keys a z s → KeysRetried keys a z' s'
same_tally p q k = rw (← p, ← q) k

module _ (e : Setting) (buckets boot : ℕ) (registry keys grants : List ℕ) where
  locks_sums : (left p : ℕ) (taken : List Hold) (r : Run) (t g : List ℕ) → Sums left r.yields (locks_of left p e buckets boot registry keys taken r t g grants)
  unfolding locks_of rollback_of spins_in
  locks_sums zero p taken r t g = (0, omega arith, none_failed 0 AllGranted (λ (why, q, e). let z : ◌≡◌ {A = ℕ} 0 1 = cc in omega arith))
  locks_sums (suc left) p taken r t g =
      let m = retry_of attempt_limit 0 none_yet (protecting e taken) buckets registry (binding_at keys p) (bucket_at keys p) r t g in
      let k = retry_ran (protecting e taken) buckets registry (binding_at keys p) (bucket_at keys p) attempt_limit 0 none_yet r t g in
      go m.seen.0.outcome m.seen.0.run m.seen.1.0 m.seen.1.1 m.log (omega (arith, k.yields_at)) k.other (λ q. (k.all q).0) (λ q. (k.fewer q).0)
      (λ l. locks_of left (p + 1) e buckets boot registry keys (taken ++ (l ∷ [])) m.seen.0.run m.seen.1.0 m.seen.1.1 grants)
      (λ l. locks_sums left (p + 1) (taken ++ (l ∷ [])) m.seen.0.run m.seen.1.0 m.seen.1.1)
    where
      go : (o : Outcome) (k : Run) (u w : List ℕ) (es : List Event) → k.yields ≡ r.yields + spins_in es / 64 → Else o
          → (is_busy o ≡ true → spins_in es ≡ 4096) → (is_busy o ≡ false → spins_in es < 4096) → (more : Hold → Made Locks) → ((l : Hold) → Sums left k.yields (more l))
          → let m = after_key o e taken p k u w grants more in
          Sums (suc left) r.yields (record { seen = m.seen; log = es ++ m.log })
      go (outcome.Granted l) k u w es y el all few more on =
          let s = on l in
          (spins_in es / 64 + s.0, omega (arith, s.1), same_tally refl (sym (spins_append es (more l).log)) (one_key left (spins_in es) s.0 (spins_in (more l).log) (more l).seen.0.answer (few refl) s.2))
      go (outcome.Busy why) k u w es y el all few more on =
          let b = back_still (length taken) e taken k u w in
          let c = (two_still {ys = []} b.calm (record { none = refl })).none in (
            spins_in es / 64,
            omega (arith, b.same),
            same_tally refl (omega (arith, spins_append es ((give_back_of (length taken) e taken k u w).log ++ []), c))
                (last_key left (spins_in es) (SerializationFailure why) p (λ _ _. all refl) (λ _. (why, refl))),
          )
      go (outcome.Refused x) k u w es y el all few more on =
          let b = back_still (length taken) e taken k u w in
          let c = (two_still {ys = []} b.calm (record { none = refl })).none in (
            spins_in es / 64,
            omega (arith, b.same),
            same_tally refl (omega (arith, spins_append es ((give_back_of (length taken) e taken k u w).log ++ []), c))
                (last_key left (spins_in es) x p (λ why q. absurd (el why q)) (λ q. absurd (omega (arith, few refl)))),
          )

pub locks_retry : LocksRetry perform
locks_retry w registry script place held keys grants fine =
    let k = locks_sums (given w.head script (holds_of held)) w.head.buckets w.head.boot registry keys grants (count_in keys) 0 [] (starting w.head place) w.table w.health in
    subst (λ (x : Made (World × Says)). KeysRetried (count_in keys) x.seen.1.answer x.seen.1.counts.yields (spins_in x.log))
    (sym (made_so w (acquire_locks registry script place held keys grants) fine)) (same_tally (omega (arith, k.1)) refl k.2)
