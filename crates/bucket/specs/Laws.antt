-- Laws of attempts by key: one turn of the retry loop, and what a run's counts keep.
use Prim.Native.Nat.{ℕ, suc, ◌+◌, ◌*◌, ◌-◌, ◌/◌, ◌%◌, ◌≤◌, ◌<◌}
use Rattle.std.specs.Prelude.{◌≡◌, List, [], ◌∷◌, eqb, get_or, length, if◌then◌else◌, Ok, Err}
use Rattle.std.proofs.Math.Path.{refl}
use Rattle.std.proofs.Common.{sym, ap, ◌∙◌, mul-le-mul}
use Rattle.types.specs.Checks.{Found}
use native.Mathlib.Omega.{arith}
use Rattle.model.specs.Log.{Made}
use Rattle.model.specs.Arena.{waiters_at}
use Rattle.model.specs.Foreign.{Setting, setting, steps_in, boundary_of}
use Rattle.model.specs.Lock.{take_of, lock_of, run_of, tried_of, find_of, attempt_at, attempt_of, spin_of, pause_of, is_busy, last_of, none_yet, retry_of}
use Rattle.types.specs.declared.Flow.{Flow}
use Rattle.types.specs.declared.Hold.{Hold}
use Rattle.types.specs.declared.Locked.{Locked}
use Rattle.types.specs.declared.Outcome.{Outcome}
use Rattle.types.specs.declared.Outcome.TheVariants as outcome
use Rattle.types.specs.declared.Reason.{Reason}
use Rattle.types.specs.declared.Run.{Run}
use Rattle.types.specs.declared.Take.{Take}
use Rattle.types.specs.declared.Take.TheVariants as taking
use Rattle.types.specs.declared.Tried.{Tried}
use Rattle.laws.specs.Keys.{find_inside, find_healthy}
use Rattle.choice.specs.Pick.{if_both}
use Rattle.laws.specs.Seen.{seen_if}
use Rattle.foreign.specs.declared.Scope.{Scope}
use Rattle.foreign.specs.Laws.{FlowBound, boundary_flow_bound}
use Rattle.bucket.specs.Bounds.{call_most}
use Rattle.bucket.specs.Model.{Lands, target_of, without_reason_of, trial_with, reason_apart_of, attempted_of, again_of}
use Rattle.bucket.specs.declared.Target.{Target}
use Rattle.bucket.specs.declared.Attempted.{Attempted}
use Rattle.lock.specs.declared.Quiet.{Quiet}
use Rattle.lock.specs.Model.{boundaries_for, quiet_take_of}
use Rattle.lock.specs.Laws.{LockedBound, lock_locked_bound}

-- ---- counts: few enough that no sum wraps

pub record RunBound (steps most : ℕ) (r : Run) : Type 0 where
  pub flow_bound : FlowBound steps r.flow
  pub few_attempts : r.attempts ≤ most
  pub few_boundaries : r.boundaries ≤ most
  pub few_yields : r.yields ≤ most

pub more_run_bound : (steps most more : ℕ) (r : Run) → most ≤ more → RunBound steps most r → RunBound steps more r
more_run_bound steps most more r l b =
    record { flow_bound = b.flow_bound; few_attempts = omega (arith, b.few_attempts); few_boundaries = omega (arith, b.few_boundaries); few_yields = omega (arith, b.few_yields) }

module _ (e : Setting) where
  abbrev RunBoundRun : ℕ → Made (Run × (List ℕ × List ℕ)) → Type 0
  RunBoundRun most m = RunBound (steps_in e.script) most m.seen.0

  abbrev RunBoundTry : ℕ → Made (Tried × (List ℕ × List ℕ)) → Type 0
  RunBoundTry most m = RunBound (steps_in e.script) most m.seen.0.run

  -- an attempt is one attempt and at most three boundaries
  attempt_at_lem : (k : Found) (buckets most : ℕ) (r : Run) (t g : List ℕ) → RunBound (steps_in e.script) most r → RunBoundTry (most + 3) (attempt_at k e buckets r t g)
  attempt_at_lem (Err x) buckets most r t g b =
      record { flow_bound = b.flow_bound; few_attempts = omega (arith, b.few_attempts); few_boundaries = omega (arith, b.few_boundaries); few_yields = omega (arith, b.few_yields) }
  attempt_at_lem (Ok c) buckets most r t g b =
      let k = lock_locked_bound _ e buckets r.flow t g c refl b.flow_bound in
      record { flow_bound = k.flow_bound; few_attempts = omega (arith, b.few_attempts); few_boundaries = omega (arith, b.few_boundaries, k.few); few_yields = omega (arith, b.few_yields) }

  pub attempt_run_bound : (buckets : ℕ) (registry : List ℕ) (binding bucket most : ℕ) (r : Run) (t g : List ℕ) → RunBound (steps_in e.script) most r
      → RunBoundTry (most + 3) (attempt_of e buckets registry binding bucket r t g)
  unfolding attempt_of
  attempt_run_bound buckets registry binding bucket most r t g b = attempt_at_lem (find_of e.headers buckets g registry binding bucket) buckets most r t g b

  -- a pause is at most two boundaries and a yield
  spin_run_bound : (most : ℕ) (r : Run) (t g : List ℕ) → RunBound (steps_in e.script) most r → RunBoundRun (most + 1) (spin_of e r t g)
  unfolding spin_of
  spin_run_bound most r t g b =
      record { flow_bound = boundary_flow_bound _ e r.flow t g refl b.flow_bound; few_attempts = omega (arith, b.few_attempts); few_boundaries = omega (arith, b.few_boundaries); few_yields = omega (arith, b.few_yields) }

  pub pause_run_bound : (i most : ℕ) (r : Run) (t g : List ℕ) → RunBound (steps_in e.script) most r → RunBoundRun (most + 2) (pause_of e i r t g)
  unfolding pause_of
  pause_run_bound i most r t g b =
      let o = (boundary_of e r.flow t g).seen in
      let p = boundary_flow_bound o e r.flow t g refl b.flow_bound in
      let y : RunBound (steps_in e.script) (most + 1) (run_of o.0 r.attempts (r.boundaries + 1) (r.yields + 1)) = record { flow_bound = p; few_attempts = omega (arith, b.few_attempts); few_boundaries = omega (arith, b.few_boundaries); few_yields = omega (arith, b.few_yields) } in
      if_both (RunBoundRun (most + 2)) (eqb (i % 64) 63)
      (more_run_bound _ (most + 1 + 1) (most + 2) _ (omega arith) (spin_run_bound (most + 1) (run_of o.0 r.attempts (r.boundaries + 1) (r.yields + 1)) o.1.0 o.1.1 y))
      (more_run_bound _ (most + 1) (most + 2) _ (omega arith) (spin_run_bound most r t g b))

-- as a caller has it: steps, and a promise
module _ (headers cells steps : ℕ) (script : List ℕ) (ps : List Hold) (n : steps ≡ length script / 3) where
  pub attempt_goes : (o : Attempted × (List ℕ × List ℕ)) (k : Found) (buckets most : ℕ) (r : Run) (t g : List ℕ)
      → o ≡ attempted_of (attempt_at k (setting headers cells script ps) buckets r t g).seen → RunBound steps most r → RunBound steps (most + 3) o.0.run
  unfolding attempted_of reason_apart_of
  attempt_goes o k buckets most r t g q b = rw (q, n) (attempt_at_lem (setting headers cells script ps) k buckets most r t g (rw (← n) b))

  pub pause_goes : (o : Run × (List ℕ × List ℕ)) (i most : ℕ) (r : Run) (t g : List ℕ)
      → o ≡ (pause_of (setting headers cells script ps) i r t g).seen → RunBound steps most r → RunBound steps (most + 2) o.0
  pause_goes o i most r t g q b = rw (q, n) (pause_run_bound (setting headers cells script ps) i most r t g (rw (← n) b))

  pub locked_bound_of : (o : Locked × (List ℕ × List ℕ)) (buckets : ℕ) (f : Flow) (t g : List ℕ) (c : ℕ)
      → o ≡ (lock_of (setting headers cells script ps) buckets f t g c).seen → FlowBound steps f → LockedBound steps o.0
  locked_bound_of o buckets f t g c q b = rw n (lock_locked_bound o (setting headers cells script ps) buckets f t g c q (rw (← n) b))

-- a quiet try_lock has at most three boundaries
few_for : (a : Take) → boundaries_for a ≤ 3
few_for (taking.Granted s) = omega arith
few_for (taking.Busy owner) = omega arith
few_for taking.Damaged = omega arith
few_for taking.Spent = omega arith

pub quiet_few : (o : Quiet × List ℕ) (f : Flow) (t : List ℕ) (c : ℕ) → o ≡ quiet_take_of f t c → o.0.boundaries ≤ 3
unfolding quiet_take_of
quiet_few o f t c q =
    rw q (if_both (λ (k : Quiet × List ℕ). k.0.boundaries ≤ 3) (eqb (waiters_at t c) 0) (few_for (take_of f.next t c).seen.0.answer) (omega arith))

-- ---- one turn of the retry loop, and its end

-- a turn whose attempt came to x: with the reason set aside it goes on, and ends, as it is defined
abbrev turn_by : {A : Type 0} → Outcome → Run → A → Run × A → Attempted × A
turn_by x r a p = if is_busy (without_reason_of x) then (trial_with p.0 (without_reason_of x) (last_of none_yet x), p.1) else (trial_with r (without_reason_of x) (last_of none_yet x), a)

turned : {A : Type 0} (last : Reason) (x : Outcome) (r : Run) (a : A) (p : Run × A) (more : Reason → Run × A → Tried × A)
    → (if is_busy x then more (last_of last x) p else (tried_of r x, a))
    ≡ (if is_busy (turn_by x r a p).0.outcome then more (turn_by x r a p).0.why ((turn_by x r a p).0.run, (turn_by x r a p).1) else (tried_of (turn_by x r a p).0.run (turn_by x r a p).0.outcome, (turn_by x r a p).1))
turned last (outcome.Granted l) r a p more = refl
turned last (outcome.Busy why) r a p more = refl
turned last (outcome.Refused x) r a p more = refl

module _ (n i : ℕ) (last : Reason) (e : Setting) (buckets : ℕ) (registry : List ℕ) (binding bucket : ℕ) (r : Run) (t g : List ℕ) where
  abbrev tried : Tried × (List ℕ × List ℕ)
  tried = (attempt_of e buckets registry binding bucket r t g).seen

  abbrev paused : Run × (List ℕ × List ℕ)
  paused = (pause_of e i tried.0.run tried.1.0 tried.1.1).seen

  abbrev more : Reason → Run × (List ℕ × List ℕ) → Tried × (List ℕ × List ℕ)
  more why o = (retry_of (n - (i + 1)) (i + 1) why e buckets registry binding bucket o.0 o.1.0 o.1.1).seen

  retry_once : i < n → (retry_of (n - i) i last e buckets registry binding bucket r t g).seen ≡ (if is_busy tried.0.outcome then more (last_of last tried.0.outcome) paused else tried)
  unfolding retry_of
  retry_once l = let k : n - i ≡ suc (n - (i + 1)) = omega arith in rw k (seen_if (is_busy tried.0.outcome) _ _)

  pub retry_at_lem : (o : Attempted × (List ℕ × List ℕ)) → o ≡ again_of i e buckets registry binding bucket r t g → i < n
      → (retry_of (n - i) i last e buckets registry binding bucket r t g).seen ≡ (if is_busy o.0.outcome then more o.0.why (o.0.run, o.1) else (tried_of o.0.run o.0.outcome, o.1))
  unfolding again_of attempted_of reason_apart_of
  retry_at_lem o q l = retry_once l ∙ rw q (turned last tried.0.outcome tried.0.run tried.1 paused more)

  pub retry_end : n ≤ i → (retry_of (n - i) i last e buckets registry binding bucket r t g).seen ≡ (tried_of r (outcome.Busy last), (t, g))
  unfolding retry_of
  retry_end l = let k : n - i ≡ 0 = omega arith in rw k

-- a turn is one attempt and at most five boundaries
turn_run_bound : (e : Setting) (i buckets : ℕ) (registry : List ℕ) (binding bucket most : ℕ) (r : Run) (t g : List ℕ) → RunBound (steps_in e.script) most r
    → RunBound (steps_in e.script) (most + 5) (again_of i e buckets registry binding bucket r t g).0.run
unfolding again_of attempted_of reason_apart_of
turn_run_bound e i buckets registry binding bucket most r t g b =
    let o = attempted_of (attempt_of e buckets registry binding bucket r t g).seen in
    let c = attempt_run_bound e buckets registry binding bucket most r t g b in
    if_both (λ (k : Attempted × (List ℕ × List ℕ)). RunBound (steps_in e.script) (most + 5) k.0.run) (is_busy o.0.outcome)
    (more_run_bound _ (most + 3 + 2) (most + 5) _ (omega arith) (pause_run_bound e i (most + 3) o.0.run o.1.0 o.1.1 c))
    (more_run_bound _ (most + 3) (most + 5) _ (omega arith) c)

pub turn_goes : (headers cells steps : ℕ) (script : List ℕ) (ps : List Hold) → steps ≡ length script / 3
    → (o : Attempted × (List ℕ × List ℕ)) (i buckets : ℕ) (registry : List ℕ) (binding bucket most : ℕ) (r : Run) (t g : List ℕ)
    → o ≡ again_of i (setting headers cells script ps) buckets registry binding bucket r t g → RunBound steps most r → RunBound steps (most + 5) o.0.run
turn_goes headers cells steps script ps n o i buckets registry binding bucket most r t g q b =
    rw (q, n) (turn_run_bound (setting headers cells script ps) i buckets registry binding bucket most r t g (rw (← n) b))

-- where the retry loop stands, before attempt number i: what remains from here is what the whole comes to
pub record Retrying (e : Setting) (steps buckets : ℕ) (registry : List ℕ) (binding bucket : ℕ) (r₀ : Run) (t₀ g₀ : List ℕ) (i : ℕ) (last : Reason) (r : Run) (t g : List ℕ) : Type 0 where
  pub run_bound : RunBound steps (call_most + 5 * i) r
  pub few : i ≤ 4096
  pub words : length t ≡ length t₀
  pub bytes : length g ≡ length g₀
  pub rest : (retry_of (4096 - i) i last e buckets registry binding bucket r t g).seen ≡ (retry_of 4096 0 none_yet e buckets registry binding bucket r₀ t₀ g₀).seen

pub small_product : (a m b : ℕ) → a < m → m ≤ 64 → b ≤ 1024 → a * b ≤ 65536
small_product a m b l h k = let s : a ≤ 64 = omega arith in omega (arith, mul-le-mul s k)

-- the header that a registry has for a binding may stand in a registry of its own
pub again_header : (i : ℕ) (e : Setting) (buckets : ℕ) (registry : List ℕ) (binding bucket : ℕ) (r : Run) (t g : List ℕ)
    → again_of i e buckets (get_or registry binding 0 ∷ []) 0 bucket r t g ≡ again_of i e buckets registry binding bucket r t g
unfolding again_of attempt_of find_of
again_header i e buckets registry binding bucket r t g = refl

-- so may what a key stands for
pub find_target : (headers buckets : ℕ) (k : Found) (g registry : List ℕ) (binding bucket : ℕ) (x : Target) → x ≡ target_of registry binding bucket
    → k ≡ find_of headers buckets g (x.header ∷ []) 0 x.bucket → k ≡ find_of headers buckets g registry binding bucket
unfolding find_of
find_target headers buckets k g registry binding bucket x e q = q ∙ ap (λ (y : Target). find_of headers buckets g (y.header ∷ []) 0 y.bucket) e

-- the cell that is found of a key that fits is there, and its header is healthy
pub lands : (s : Scope) (k : Found) (g registry : List ℕ) (binding bucket : ℕ) → s.cells ≡ s.headers * s.buckets
    → k ≡ find_of s.headers s.buckets g registry binding bucket → Lands s g k
lands s k g registry binding bucket n e c q =
    let f = sym e ∙ q in
    record {
      there = record { inside = rw n (find_inside _ _ _ _ _ _ c f); cells_are = n };
      healthy = find_healthy _ _ _ _ _ _ c f;
    }
