-- A definition of the model never reads what it counts: begun with other counts, it does the same and adds to them.
use Prim.Native.Nat.{ℕ, zero, suc, ◌+◌, ◌-◌, ◌%◌}
use Rattle.std.specs.Prelude.{◌≡◌, Bool, true, false, eqb, length, take, if◌then◌else◌, Ok, Err}
use Rattle.std.proofs.Math.Path.{refl, ap}
use mathlib.Core.List.{List, [], ◌∷◌, ◌++◌}
use Rattle.std.proofs.Common.{add-zero, arith}
use Rattle.types.specs.Checks.{Found}
use Rattle.model.specs.Log.{Made, Event, by_caller, attempt_begun, yielded, released}
use Rattle.model.specs.Arena.{header_of, is_poisoned, hold_of, set_cell, waiters_at}
use Rattle.model.specs.Foreign.{Setting, protecting, steps_in, kind_at, place_at, number_at, flow_of, step_of, run_steps_of, boundary_of}
use Rattle.model.specs.Lock.{take_of, locked_of, late_stage_of, after_take, second_stage_of, lock_of, run_of, tried_of, find_of, attempt_at, attempt_of, spin_of, pause_of, is_busy, retry_of, attempt_limit, none_yet, hold_at, give_back_of, Locks, ended_of, rollback_of, after_key, binding_at, bucket_at, locks_of}
use Rattle.types.specs.declared.Counts.{Counts}
use Rattle.types.specs.declared.Flow.{Flow}
use Rattle.types.specs.declared.Hold.{Hold}
use Rattle.types.specs.declared.Locked.{Locked}
use Rattle.types.specs.declared.Outcome.{Outcome}
use Rattle.types.specs.declared.Outcome.TheVariants as outcome
use Rattle.types.specs.declared.Reason.{Reason}
use Rattle.types.specs.declared.Refusal.{Refusal}
use Rattle.types.specs.declared.Refusal.TheVariants.{SerializationFailure}
use Rattle.types.specs.declared.Run.{Run}
use Rattle.types.specs.declared.Take.{Take}
use Rattle.types.specs.declared.Take.TheVariants as taking
use Rattle.types.specs.declared.Tried.{Tried}
use Rattle.history.specs.Steps.{With}

-- ---- counted on

-- d steps dropped before
abbrev pub on_flow : ℕ → Flow → Flow
on_flow d f = flow_of f.next f.place (d + f.dropped)

abbrev pub on_run : Counts → Run → Run
on_run k r = run_of (on_flow k.dropped r.flow) (k.attempts + r.attempts) (k.boundaries + r.boundaries) (k.yields + r.yields)

-- the same log, and what is seen changed so
abbrev pub seen_by : {A : Type 0} → (A → A) → Made A → Made A
seen_by f m = record { seen = f m.seen; log = m.log }

abbrev pub flow_on : ℕ → Made (With Flow) → Made (With Flow)
flow_on d = seen_by (λ m. (on_flow d m.0, m.1))

abbrev pub lock_on : ℕ → Made (With Locked) → Made (With Locked)
lock_on d = seen_by (λ m. (locked_of (on_flow d m.0.flow) m.0.boundaries m.0.answer, m.1))

abbrev pub run_on : Counts → Made (With Run) → Made (With Run)
run_on k = seen_by (λ m. (on_run k m.0, m.1))

abbrev pub tried_on : Counts → Made (With Tried) → Made (With Tried)
tried_on k = seen_by (λ m. (tried_of (on_run k m.0.run) m.0.outcome, m.1))

-- a choice
if_on : {A : Type 0} (f : A → A) (b : Bool) {x y x' y' : Made A} → x ≡ seen_by f x' → y ≡ seen_by f y' → (if b then x else y) ≡ seen_by f (if b then x' else y')
if_on f true p q = p
if_on f false p q = q

-- behind this log
abbrev after : {A : Type 0} → List Event → Made A → Made A
after es m = record { seen = m.seen; log = es ++ m.log }

abbrev shift : ℕ → With Locked → With Locked
shift d m = (locked_of (on_flow d m.0.flow) m.0.boundaries m.0.answer, m.1)

assoc : (a b c : ℕ) → a + b + c ≡ a + (b + c)
assoc a b c = omega arith

-- ---- boundaries

module _ (d : ℕ) where
  steps_on : (left : ℕ) (e : Setting) (f : Flow) (t g : List ℕ) → run_steps_of left e (on_flow d f) t g ≡ flow_on d (run_steps_of left e f t g)
  unfolding run_steps_of
  steps_on zero e f t g = refl
  steps_on (suc left) e f t g =
      let kind = kind_at e.script f.place in
      let s = (step_of e f.next t g kind (place_at e.script f.place) (number_at e.script f.place)).seen in
      if_on (λ (m : With Flow). (on_flow d m.0, m.1)) (eqb kind 5) refl
      (rw (assoc d f.dropped s.0.dropped, steps_on left e (flow_of s.0.next (f.place + 1) (f.dropped + s.0.dropped)) s.1.0 s.1.1))

  boundary_on : (e : Setting) (f : Flow) (t g : List ℕ) → boundary_of e (on_flow d f) t g ≡ flow_on d (boundary_of e f t g)
  unfolding boundary_of
  boundary_on e f t g = rw (steps_on (steps_in e.script - f.place) e f t g)

  -- ---- a lock

  late_on : (e : Setting) (buckets : ℕ) (f : Flow) (t g : List ℕ) (c s : ℕ)
      → late_stage_of e buckets (on_flow d f) t g c s ≡ lock_on d (late_stage_of e buckets f t g c s)
  unfolding late_stage_of
  late_on e buckets f t g c s =
      let q = protecting e (hold_of c s ∷ []) in
      let m = boundary_of q f t g in
      rw (boundary_on q f t g) (ap (after m.log) (if_on (shift d) (is_poisoned m.seen.1.1 (header_of buckets c)) refl
      (if_on (shift d) (eqb (waiters_at m.seen.1.0 c) 0) refl refl)))

  after_on : (a : Take) (e : Setting) (buckets : ℕ) (f : Flow) (t g : List ℕ) (c : ℕ)
      → after_take a e buckets (on_flow d f) t g c ≡ lock_on d (after_take a e buckets f t g c)
  after_on (taking.Granted s) e buckets f t g c = late_on e buckets f t g c s
  after_on (taking.Busy owner) e buckets f t g c = refl
  after_on taking.Damaged e buckets f t g c = refl
  after_on taking.Spent e buckets f t g c = refl

  second_on : (e : Setting) (buckets : ℕ) (f : Flow) (t g : List ℕ) (c : ℕ)
      → second_stage_of e buckets (on_flow d f) t g c ≡ lock_on d (second_stage_of e buckets f t g c)
  unfolding second_stage_of
  second_on e buckets f t g c =
      let b = boundary_of e f t g in
      let k = take_of b.seen.0.next b.seen.1.0 c in
      rw (boundary_on e f t g)
      (ap (λ (m : Made (With Locked)). after b.log (after k.log m))
      (after_on k.seen.0.answer e buckets (flow_of k.seen.0.next b.seen.0.place b.seen.0.dropped) k.seen.1 b.seen.1.1 c))

  lock_counts : (e : Setting) (buckets : ℕ) (f : Flow) (t g : List ℕ) (c : ℕ)
      → lock_of e buckets (on_flow d f) t g c ≡ lock_on d (lock_of e buckets f t g c)
  unfolding lock_of
  lock_counts e buckets f t g c =
      let b = boundary_of e f t g in
      rw (boundary_on e f t g)
      (ap (after b.log) (if_on (shift d) (eqb (waiters_at b.seen.1.0 c) 0) (second_on e buckets b.seen.0 b.seen.1.0 b.seen.1.1 c) refl))

-- every flow is one that has dropped nothing, counted on
pub boundary_from : (e : Setting) (f : Flow) (t g : List ℕ) → boundary_of e f t g ≡ flow_on f.dropped (boundary_of e (flow_of f.next f.place 0) t g)
boundary_from e f t g = rw (add-zero f.dropped) at (boundary_on f.dropped e (flow_of f.next f.place 0) t g)

-- ---- attempts by key

module _ (k : Counts) (e : Setting) where
  module _ (buckets : ℕ) (registry : List ℕ) (binding bucket : ℕ) where
    attempt_on : (r : Run) (t g : List ℕ)
        → attempt_of e buckets registry binding bucket (on_run k r) t g ≡ tried_on k (attempt_of e buckets registry binding bucket r t g)
    unfolding attempt_of
    attempt_on r t g = ap (after (attempt_begun ∷ [])) (go (find_of e.headers buckets g registry binding bucket))
      where
        go : (x : Found) → attempt_at x e buckets (on_run k r) t g ≡ tried_on k (attempt_at x e buckets r t g)
        go (Err x) = rw (assoc k.attempts r.attempts 1)
        go (Ok c) = rw (lock_counts k.dropped e buckets r.flow t g c, assoc k.attempts r.attempts 1, assoc k.boundaries r.boundaries (lock_of e buckets r.flow t g c).seen.0.boundaries)

  spin_on : (r : Run) (t g : List ℕ) → spin_of e (on_run k r) t g ≡ run_on k (spin_of e r t g)
  unfolding spin_of
  spin_on r t g = rw (boundary_on k.dropped e r.flow t g, assoc k.boundaries r.boundaries 1)

  pub pause_on : (i : ℕ) (r : Run) (t g : List ℕ) → pause_of e i (on_run k r) t g ≡ run_on k (pause_of e i r t g)
  unfolding pause_of
  pause_on i r t g =
      let b = boundary_of e r.flow t g in
      rw (boundary_on k.dropped e r.flow t g, assoc k.boundaries r.boundaries 1, assoc k.yields r.yields 1)
      (if_on (λ (m : With Run). (on_run k m.0, m.1)) (eqb (i % 64) 63)
      (ap (λ (m : Made (With Run)). after b.log (after (yielded ∷ []) m)) (spin_on (run_of b.seen.0 r.attempts (r.boundaries + 1) (r.yields + 1)) b.seen.1.0 b.seen.1.1))
      (spin_on r t g))

  module _ (buckets : ℕ) (registry : List ℕ) (binding bucket : ℕ) where
    pub retry_on : (left i : ℕ) (last : Reason) (r : Run) (t g : List ℕ)
        → retry_of left i last e buckets registry binding bucket (on_run k r) t g ≡ tried_on k (retry_of left i last e buckets registry binding bucket r t g)
    unfolding retry_of
    retry_on zero i last r t g = refl
    retry_on (suc left) i last r t g =
        let a = attempt_of e buckets registry binding bucket r t g in
        let b = pause_of e i a.seen.0.run a.seen.1.0 a.seen.1.1 in
        rw (attempt_on buckets registry binding bucket r t g)
        (ap (after a.log) (if_on (λ (m : With Tried). (tried_of (on_run k m.0.run) m.0.outcome, m.1)) (is_busy a.seen.0.outcome)
        (rw (pause_on i a.seen.0.run a.seen.1.0 a.seen.1.1) (ap (after b.log) (retry_on left (i + 1) _ b.seen.0 b.seen.1.0 b.seen.1.1)))
        refl))

-- ---- giving back, and multi-lock

abbrev pub locks_on : Counts → Made Locks → Made Locks
locks_on k = seen_by (λ m. (ended_of (on_run k m.0.run) m.0.answer, m.1))

module _ (k : Counts) (e : Setting) where
  pub back_on : (n : ℕ) (ls : List Hold) (r : Run) (t g : List ℕ) → give_back_of n e ls (on_run k r) t g ≡ run_on k (give_back_of n e ls r t g)
  unfolding give_back_of
  back_on zero ls r t g = refl
  back_on (suc n) ls r t g =
      let l = hold_at ls n in
      let q = protecting e (take n ls) in
      let b = boundary_of q r.flow (set_cell t l.cell 0 0) g in
      rw (boundary_on k.dropped q r.flow (set_cell t l.cell 0 0) g, assoc k.boundaries r.boundaries 1)
      (ap (λ (m : Made (With Run)). after (released by_caller l.cell l.serial ∷ []) (after b.log m))
      (back_on n ls (run_of b.seen.0 r.attempts (r.boundaries + 1) r.yields) b.seen.1.0 b.seen.1.1))

  rollback_on : (taken : List Hold) (x : Refusal) (p : ℕ) (r : Run) (t g grants : List ℕ)
      → rollback_of e taken x p (on_run k r) t g grants ≡ locks_on k (rollback_of e taken x p r t g grants)
  unfolding rollback_of
  rollback_on taken x p r t g grants = rw (back_on (length taken) taken r t g)

  pub keys_on : (left p buckets boot : ℕ) (registry keys : List ℕ) (taken : List Hold) (r : Run) (t g grants : List ℕ)
      → locks_of left p e buckets boot registry keys taken (on_run k r) t g grants ≡ locks_on k (locks_of left p e buckets boot registry keys taken r t g grants)
  unfolding locks_of
  keys_on zero p buckets boot registry keys taken r t g grants = refl
  keys_on (suc left) p buckets boot registry keys taken r t g grants =
      let m = retry_of attempt_limit 0 none_yet (protecting e taken) buckets registry (binding_at keys p) (bucket_at keys p) r t g in
      let u = m.seen.1.0 in
      let v = m.seen.1.1 in
      rw (retry_on k (protecting e taken) buckets registry (binding_at keys p) (bucket_at keys p) attempt_limit 0 none_yet r t g)
      (ap (after m.log) (go m.seen.0.outcome m.seen.0.run u v
      (λ l. keys_on left (p + 1) buckets boot registry keys (taken ++ (l ∷ [])) m.seen.0.run u v grants)))
    where
      go : (o : Outcome) (s : Run) (u v : List ℕ)
          → ((l : Hold) → locks_of left (p + 1) e buckets boot registry keys (taken ++ (l ∷ [])) (on_run k s) u v grants
          ≡ locks_on k (locks_of left (p + 1) e buckets boot registry keys (taken ++ (l ∷ [])) s u v grants))
          → after_key o e taken p (on_run k s) u v grants (λ l. locks_of left (p + 1) e buckets boot registry keys (taken ++ (l ∷ [])) (on_run k s) u v grants)
          ≡ locks_on k (after_key o e taken p s u v grants (λ l. locks_of left (p + 1) e buckets boot registry keys (taken ++ (l ∷ [])) s u v grants))
      go (outcome.Granted l) s u v more = more l
      go (outcome.Busy why) s u v more = rollback_on taken (SerializationFailure why) p s u v grants
      go (outcome.Refused x) s u v more = rollback_on taken x p s u v grants
