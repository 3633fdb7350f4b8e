-- Attempts past the script's end: every boundary there is quiet, and nothing changes between two attempts. What they come
-- to, and that it is what document 01's attempts come to.
use Rattle.std.specs.Prelude.{ℕ, zero, suc, ◌+◌, ◌*◌, ◌-◌, ◌%◌, ◌≤◌, ◌<◌, ◌≡◌, List, Bool, true, false, eqb, get_or, length, if◌then◌else◌, Ok, Err}
use Rattle.std.proofs.Math.Path.{refl}
use Rattle.std.proofs.Common.{sym, ap, ◌∙◌}
use Rattle.types.specs.Checks.{Found}
use native.Mathlib.Omega.{arith}
use Rattle.choice.specs.Pick.{if_both}
use Rattle.model.specs.Arena.{header_of, waiters_at}
use Rattle.model.specs.Foreign.{Setting, steps_in}
use Rattle.model.specs.Lock.{run_of, tried_of, find_of, attempt_at, attempt_of, spin_of, pause_of, is_busy, last_of, none_yet, retry_of}
use Rattle.types.specs.declared.Flow.{Flow}
use Rattle.types.specs.declared.Locked.{Locked}
use Rattle.types.specs.declared.Outcome.{Outcome}
use Rattle.types.specs.declared.Outcome.TheVariants as outcome
use Rattle.types.specs.declared.Reason.{Reason}
use Rattle.types.specs.declared.Refusal.{Refusal}
use Rattle.types.specs.declared.Run.{Run}
use Rattle.types.specs.declared.Tried.{Tried}
use Rattle.laws.specs.Keys.{find_healthy}
use Rattle.laws.specs.Seen.{seen_if}
use Rattle.foreign.specs.declared.Scope.{Scope}
use Rattle.foreign.specs.Laws.{boundary_quiet}
use Rattle.foreign.specs.Model.{RoomIn}
use Rattle.lock.specs.Model.{quiet_lock_of, quiet_take_of}
use Rattle.lock.specs.Laws.{lock_quiet, quiet_is}
use Rattle.bucket.specs.Bounds.{call_most}
use Rattle.bucket.specs.Laws.{RunBound, quiet_few}
use Rattle.bucket.specs.Model.{Lands}

-- an attempt on a cell of a healthy header
unfoldable pub quiet_attempt_of : Run → List ℕ → ℕ → Tried × List ℕ
quiet_attempt_of r t c =
    let k = quiet_lock_of r.flow t c in
    (tried_of (run_of k.0.flow (r.attempts + 1) (r.boundaries + k.0.boundaries) r.yields) k.0.answer, k.1)

-- the pause after Busy attempt number i
unfoldable pub quiet_pause_of : ℕ → Run → Run
quiet_pause_of i r =
    if eqb (i % 64) 63 then run_of r.flow r.attempts (r.boundaries + 1 + 1) (r.yields + 1)
    else run_of r.flow r.attempts (r.boundaries + 1) r.yields

-- `left` attempts from number i on
unfoldable pub quiet_retry_of : ℕ → ℕ → Reason → Run → List ℕ → ℕ → Tried × List ℕ
quiet_retry_of zero i last r t c = (tried_of r (outcome.Busy last), t)
quiet_retry_of (suc left) i last r t c =
    let k = quiet_attempt_of r t c in
    if is_busy k.0.outcome then quiet_retry_of left (i + 1) (last_of last k.0.outcome) (quiet_pause_of i k.0.run) k.1 c
    else k

-- the same at what a key was found to name: one attempt, and all
abbrev pub quiet_once_at : Found → Run → List ℕ → Tried × List ℕ
quiet_once_at (Err x) r t = (tried_of (run_of r.flow (r.attempts + 1) r.boundaries r.yields) (outcome.Refused x), t)
quiet_once_at (Ok c) r t = quiet_attempt_of r t c

abbrev pub quiet_retry_at : ℕ → Found → Run → List ℕ → Tried × List ℕ
quiet_retry_at n (Err x) r t = (tried_of (run_of r.flow (r.attempts + 1) r.boundaries r.yields) (outcome.Refused x), t)
quiet_retry_at n (Ok c) r t = quiet_retry_of n 0 none_yet r t c

-- ---- past the end they are document 01's

-- a try_lock leaves the place alone, and a pause the whole flow
place_kept : (f : Flow) (t : List ℕ) (c : ℕ) → (quiet_lock_of f t c).0.flow.place ≡ f.place
unfolding quiet_lock_of
place_kept f t c = if_both (λ (k : Locked × List ℕ). k.0.flow.place ≡ f.place) (eqb (waiters_at t c) 0) refl refl

attempt_place : (r : Run) (t : List ℕ) (c : ℕ) → (quiet_attempt_of r t c).0.run.flow.place ≡ r.flow.place
unfolding quiet_attempt_of
attempt_place r t c = place_kept r.flow t c

pause_flow : (i : ℕ) (r : Run) → (quiet_pause_of i r).flow ≡ r.flow
unfolding quiet_pause_of
pause_flow i r = if_both (λ (k : Run). k.flow ≡ r.flow) (eqb (i % 64) 63) refl refl

if_beside : {A B : Type 0} (b : Bool) (x y : A) (z : B) → ◌≡◌ {A = A × B} (if b then (x, z) else (y, z)) (if b then x else y, z)
if_beside true x y z = refl
if_beside false x y z = refl

quiet_turn : (left i : ℕ) (last : Reason) (r : Run) (t : List ℕ) (c : ℕ)
    → quiet_retry_of (suc left) i last r t c
    ≡ (if is_busy (quiet_attempt_of r t c).0.outcome then quiet_retry_of left (i + 1) (last_of last (quiet_attempt_of r t c).0.outcome) (quiet_pause_of i (quiet_attempt_of r t c).0.run) (quiet_attempt_of r t c).1 c else quiet_attempt_of r t c)
unfolding quiet_retry_of
quiet_turn left i last r t c = refl

module _ (e : Setting) (buckets : ℕ) (g : List ℕ) where
  abbrev beside : Tried × List ℕ → Tried × (List ℕ × List ℕ)
  beside k = (k.0, (k.1, g))

  abbrev Past : Run → Type 0
  Past r = steps_in e.script ≤ r.flow.place

  beside_if : (b : Bool) (x y : Tried × List ℕ) → (if b then beside x else beside y) ≡ beside (if b then x else y)
  beside_if true x y = refl
  beside_if false x y = refl

  spin_quiet : (r : Run) (t : List ℕ) → Past r → (spin_of e r t g).seen ≡ (run_of r.flow r.attempts (r.boundaries + 1) r.yields, (t, g))
  unfolding spin_of
  spin_quiet r t l = rw (boundary_quiet e r.flow t g l)

  pause_quiet : (i : ℕ) (r : Run) (t : List ℕ) → Past r → (pause_of e i r t g).seen ≡ (quiet_pause_of i r, (t, g))
  unfolding pause_of quiet_pause_of
  pause_quiet i r t l =
      seen_if (eqb (i % 64) 63) _ _
      ∙ rw (boundary_quiet e r.flow t g l, spin_quiet (run_of r.flow r.attempts (r.boundaries + 1) (r.yields + 1)) t l, spin_quiet r t l) (if_beside (eqb (i % 64) 63) _ _ (t, g))

  -- one attempt, at what its key was found to name
  pub once_quiet : (k : Found) (r : Run) (t : List ℕ) → ((c : ℕ) → k ≡ Ok c → get_or g (header_of buckets c) 0 ≡ 0) → Past r
      → (attempt_at k e buckets r t g).seen ≡ beside (quiet_once_at k r t)
  unfolding quiet_attempt_of
  once_quiet (Err x) r t h l = refl
  once_quiet (Ok c) r t h l = rw (lock_quiet e buckets g c (h c refl) r.flow t l)

  module _ (registry : List ℕ) (binding bucket : ℕ) where
    abbrev tried : Run → List ℕ → Tried × (List ℕ × List ℕ)
    tried r t = (attempt_of e buckets registry binding bucket r t g).seen

    turn : (left i : ℕ) (last : Reason) (r : Run) (t : List ℕ)
        → (retry_of (suc left) i last e buckets registry binding bucket r t g).seen
        ≡ (if is_busy (tried r t).0.outcome then (let p = (pause_of e i (tried r t).0.run (tried r t).1.0 (tried r t).1.1).seen in (retry_of left (i + 1) (last_of last (tried r t).0.outcome) e buckets registry binding bucket p.0 p.1.0 p.1.1).seen) else tried r t)
    unfolding retry_of
    turn left i last r t = seen_if (is_busy (tried r t).0.outcome) _ _

    fault : (x : Refusal) (r : Run) (t : List ℕ) → find_of e.headers buckets g registry binding bucket ≡ Err x
        → (attempt_of e buckets registry binding bucket r t g).seen ≡ beside (quiet_once_at (Err x) r t)
    unfolding attempt_of
    fault x r t f = rw f

    module _ (c : ℕ) (f : find_of e.headers buckets g registry binding bucket ≡ Ok c) where
      attempt_quiet : (r : Run) (t : List ℕ) → Past r → (attempt_of e buckets registry binding bucket r t g).seen ≡ beside (quiet_attempt_of r t c)
      unfolding attempt_of
      attempt_quiet r t l = rw f (once_quiet (Ok c) r t (λ d q. find_healthy _ _ _ _ _ _ d (f ∙ q)) l)

      ended : (i : ℕ) (last : Reason) (r : Run) (t : List ℕ) → (retry_of zero i last e buckets registry binding bucket r t g).seen ≡ beside (quiet_retry_of zero i last r t c)
      unfolding retry_of quiet_retry_of
      ended i last r t = refl

      -- with what is said of the attempts behind this one
      again : (left i : ℕ) (last : Reason) (r : Run) (t : List ℕ) → Past r
          → ((why : Reason) (p : Run) (u : List ℕ) → Past p → (retry_of left (i + 1) why e buckets registry binding bucket p u g).seen ≡ beside (quiet_retry_of left (i + 1) why p u c))
          → (retry_of (suc left) i last e buckets registry binding bucket r t g).seen ≡ beside (quiet_retry_of (suc left) i last r t c)
      again left i last r t l so =
          let k = quiet_attempt_of r t c in
          let a : Past k.0.run = omega (arith, attempt_place r t c) in
          let p : Past (quiet_pause_of i k.0.run) = rw (pause_flow i k.0.run) a in
          turn left i last r t
          ∙ rw (attempt_quiet r t l, pause_quiet i k.0.run k.1 a, so (last_of last k.0.outcome) (quiet_pause_of i k.0.run) k.1 p) (beside_if (is_busy k.0.outcome) _ _)
          ∙ ap beside (sym (quiet_turn left i last r t c))

      retry_from : (left i : ℕ) (last : Reason) (r : Run) (t : List ℕ) → Past r
          → (retry_of left i last e buckets registry binding bucket r t g).seen ≡ beside (quiet_retry_of left i last r t c)
      retry_from zero i last r t l = ended i last r t
      retry_from (suc left) i last r t l = again left i last r t l (λ why p u m. retry_from left (i + 1) why p u m)

    -- all attempts
    pub retry_quiet : (n : ℕ) (k : Found) (r : Run) (t : List ℕ) → 1 ≤ n → k ≡ find_of e.headers buckets g registry binding bucket → Past r
        → (retry_of n 0 none_yet e buckets registry binding bucket r t g).seen ≡ beside (quiet_retry_at n k r t)
    retry_quiet n (Err x) r t m q l =
        let s : n ≡ suc (n - 1) = omega arith in
        rw s (turn (n - 1) 0 none_yet r t ∙ rw (fault x r t (sym q)))
    retry_quiet n (Ok c) r t m q l = retry_from c (sym q) n 0 none_yet r t l

-- ---- counts: few enough that no sum wraps

pub record Few (most : ℕ) (r : Run) : Type 0 where
  pub few_attempts : r.attempts ≤ most
  pub few_boundaries : r.boundaries ≤ most
  pub few_yields : r.yields ≤ most

pub more_few : (most more : ℕ) (r : Run) → most ≤ more → Few most r → Few more r
more_few most more r l b = record { few_attempts = omega (arith, b.few_attempts); few_boundaries = omega (arith, b.few_boundaries); few_yields = omega (arith, b.few_yields) }

-- the cell that was found is in a table of so many words
abbrev pub Within : ℕ → Found → Type 0
Within words k = (c : ℕ) → k ≡ Ok c → 3 * c + 2 < words

pub run_few : (steps most : ℕ) (r : Run) → RunBound steps most r → Few most r
run_few steps most r b = record { few_attempts = b.few_attempts; few_boundaries = b.few_boundaries; few_yields = b.few_yields }

pub lands_within : (s : Scope) (words bytes n script : ℕ) (g : List ℕ) (k : Found) → RoomIn s words bytes n script → Lands s g k → Within words k
lands_within s words bytes n script g k b l c q = omega (arith, b.words_fit, (l c q).there.inside)

pub lock_few : (o : Locked × List ℕ) (f : Flow) (t : List ℕ) (c : ℕ) → o ≡ quiet_lock_of f t c → o.0.boundaries ≤ 3
lock_few o f t c q = rw (q, quiet_is f t c) (quiet_few (quiet_take_of f t c) f t c refl)

pub attempt_few : (o : Tried × List ℕ) (r : Run) (t : List ℕ) (c most : ℕ) → o ≡ quiet_attempt_of r t c → Few most r → Few (most + 3) o.0.run
unfolding quiet_attempt_of
attempt_few o r t c most q b =
    rw q (record { few_attempts = omega (arith, b.few_attempts); few_boundaries = omega (arith, b.few_boundaries, lock_few (quiet_lock_of r.flow t c) r.flow t c refl); few_yields = omega (arith, b.few_yields) })

pub pause_few : (o : Run) (i : ℕ) (r : Run) (most : ℕ) → o ≡ quiet_pause_of i r → Few most r → Few (most + 2) o
unfolding quiet_pause_of
pause_few o i r most q b =
    rw q
    (if_both (Few (most + 2)) (eqb (i % 64) 63) (record { few_attempts = omega (arith, b.few_attempts); few_boundaries = omega (arith, b.few_boundaries); few_yields = omega (arith, b.few_yields) })
    (record { few_attempts = omega (arith, b.few_attempts); few_boundaries = omega (arith, b.few_boundaries); few_yields = omega (arith, b.few_yields) }))

-- where the quiet loop stands, before attempt number i: what remains from here is what the whole comes to
pub record Waiting (c : ℕ) (r₀ : Run) (t₀ : List ℕ) (i : ℕ) (last : Reason) (r : Run) (t : List ℕ) : Type 0 where
  pub counts : Few (call_most + 5 * i) r
  pub few : i ≤ 4096
  pub words : length t ≡ length t₀
  pub rest : quiet_retry_of (4096 - i) i last r t c ≡ quiet_retry_of 4096 0 none_yet r₀ t₀ c

module _ (n i : ℕ) (last : Reason) (r : Run) (t : List ℕ) (c : ℕ) where
  pub wait_at : (o : Tried × List ℕ) → o ≡ quiet_attempt_of r t c → i < n
      → quiet_retry_of (n - i) i last r t c ≡ (if is_busy o.0.outcome then quiet_retry_of (n - (i + 1)) (i + 1) (last_of last o.0.outcome) (quiet_pause_of i o.0.run) o.1 c else o)
  wait_at o q l = let k : n - i ≡ suc (n - (i + 1)) = omega arith in rw (k, q) (quiet_turn (n - (i + 1)) i last r t c)

  pub wait_end : n ≤ i → quiet_retry_of (n - i) i last r t c ≡ (tried_of r (outcome.Busy last), t)
  unfolding quiet_retry_of
  wait_end l = let k : n - i ≡ 0 = omega arith in rw k
