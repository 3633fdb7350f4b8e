-- `acquire_index_bucket` from outside: up to 4,096 times what `transactional_try_lock_bucket` does, one after the other, and after each that is
-- Busy what `environment` does, once, or twice after every 64th. 11 exactly if all 4,096 were Busy. Any script, any arena.
use Prim.Native.Nat.{ℕ, zero, suc, ◌+◌, ◌%◌, ◌<◌}
use Rattle.std.specs.Prelude.{◌≡◌, refl, true, false, eqb}
use Rattle.std.proofs.Common.{sym, ap, ◌∙◌, add-zero, eqb-true}
use Rattle.std.proofs.Math.Path.{subst}
use mathlib.Core.List.{List, [], ◌∷◌, ◌++◌, append-nil, append_assoc}
use native.Mathlib.Omega.{arith}
use Rattle.std.proofs.lemmas.Bool.{eqb-false}
use Rattle.model.specs.Log.{Made, yielded, note, ◌>>=◌, ◌>>◌, spun}
use Rattle.model.specs.Arena.{holds_of}
use Rattle.model.specs.Foreign.{Setting, flow_of, boundary_of}
use Rattle.model.specs.Lock.{answer_of, settled, run_of, tried_of, attempt_of, spin_of, pause_of, is_busy, last_of, retry_of, attempt_limit, none_yet}
use Rattle.model.specs.Checks.{bucket_rules}
use Rattle.model.specs.Calls.{counts_of, given}
use Rattle.types.specs.declared.Answer.TheVariants.{Done, Busy, Refused}
use Rattle.types.specs.declared.Counts.{Counts}
use Rattle.types.specs.declared.Head.{Head}
use Rattle.types.specs.declared.Outcome.{Outcome}
use Rattle.types.specs.declared.Outcome.TheVariants as outcome
use Rattle.types.specs.declared.Reason.{Reason}
use Rattle.types.specs.declared.Run.{Run}
use Rattle.types.specs.declared.Tried.{Tried}
use Rattle.laws.specs.Outcomes.{retry_first}
use Rattle.history.specs.World.{World}
use Rattle.history.specs.Items.{Says, says, perform, acquire_bucket, environment, transactional}
use Rattle.history.specs.Statements.{world_in, answer_in}
use Rattle.history.specs.Tests.{differ, if_cases, In}
use Rattle.history.proofs.Logs.{nothing}
use Rattle.history.specs.Judged.{past_checks, made_so}
use Rattle.history.specs.Steps.{With, world_at, of_run, of_tried}
use Rattle.history.proofs.Calls.{call_kept}
use Rattle.history_exact.specs.Statements.{Passes}
use Rattle.history_exact.specs.Script.{environment_has, transactional_has, place_in}
use Rattle.history_exact.specs.Attempts.{Attempts, Pause, all_busy, yield, ◌and_then◌, one_busy, spin, the_last, also_yields, only_spins, BucketAttempts}
use Rattle.history_exact.specs.Passing.{boundary_on, bucket_on, in_script}
use Rattle.history_exact.specs.ScriptFacts.{place_goes}
use Rattle.history_exact.specs.CountedOn.{on_run, run_on, tried_on, boundary_from, pause_on, retry_on}

-- ---- proofs

-- an attempt and a boundary by the definitions' own steps; where the checks pass, these are the calls
abbrev pub attempting : (registry script held : List ℕ) (binding bucket : ℕ) → World → ℕ → Made (World × Says)
attempting registry script held binding bucket w p = past_checks w (transactional registry script p held binding bucket)

abbrev pub bounding : (script held : List ℕ) → World → ℕ → Made (World × Says)
bounding script held w p = past_checks w (environment script p held)

-- a run that has counted nothing
abbrev pub nil : ℕ → ℕ → Run
nil n p = run_of (flow_of n p 0) 0 0 0

abbrev pub counted : Run → Counts
counted r = counts_of r.attempts r.boundaries r.yields r.flow.dropped

-- every run is one that has counted nothing, counted on
pub from_nil : (r : Run) → on_run (counted r) (nil r.flow.next r.flow.place) ≡ r
from_nil r = rw (add-zero r.attempts, add-zero r.boundaries, add-zero r.yields, add-zero r.flow.dropped)

-- as the calls say it: a run that is done, and a retry
abbrev pub done_with : Head → Made (With Run) → Made (World × Says)
done_with h m = record { seen = (of_run h m.seen, says Done (counted m.seen.0) m.seen.0.flow.place []); log = m.log }

abbrev pub at_last : Head → Made (With Tried) → Made (World × Says)
at_last h m =
    record { seen = (of_tried h m.seen, says (answer_of h.boot (settled m.seen.0.outcome)) (counted m.seen.0.run) m.seen.0.run.flow.place []); log = m.log }

busy_is : (boot : ℕ) (last : Reason) (o : Outcome) → is_busy o ≡ true → answer_of boot o ≡ Busy (last_of last o)
busy_is boot last (outcome.Granted l) e = absurd (differ e)
busy_is boot last (outcome.Busy why) e = refl
busy_is boot last (outcome.Refused r) e = absurd (differ e)

not_busy : (boot : ℕ) (o : Outcome) → is_busy o ≡ false → (other : Reason) → answer_of boot o ≡ Busy other → ⊥
not_busy boot (outcome.Granted l) e other q = let z : ◌≡◌ {A = ℕ} 0 1 = cc in omega arith
not_busy boot (outcome.Busy why) e other q = differ (sym e)
not_busy boot (outcome.Refused r) e other q = let z : ◌≡◌ {A = ℕ} 0 1 = cc in omega arith

same_settled : (o : Outcome) → is_busy o ≡ false → settled o ≡ o
same_settled (outcome.Granted l) e = refl
same_settled (outcome.Busy why) e = absurd (differ (sym e))
same_settled (outcome.Refused r) e = refl

module _ (h : Head) (registry script held : List ℕ) (binding bucket : ℕ) where
  abbrev e : Setting
  e = given h script (holds_of held)

  abbrev Pauses : ℕ → ℕ → List ℕ → List ℕ → ℕ → Made (World × Says) → Type 0
  Pauses n p t g i = Pause (attempting registry script held binding bucket) (bounding script held) i (world_at h n t g) p

  pause_is : (i n p : ℕ) (t g : List ℕ) → Pauses n p t g i (done_with h (pause_of e i (nil n p) t g))
  unfolding pause_of spin_of
  pause_is i n p t g =
      if_cases (λ (m : Made (With Run)). Pauses n p t g i (done_with h m)) (eqb (i % 64) 63)
      (λ c. subst (Pauses n p t g i) twice (also_yields (eqb-true (i % 64) 63 c)))
      (λ c. only_spins (eqb-false (i % 64) 63 c))
    where
      twice : (yield (attempting registry script held binding bucket) (bounding script held) (world_at h n t g) p
          and_then spin (attempting registry script held binding bucket) (bounding script held) (yield (attempting registry script held binding bucket) (bounding script held) (world_at h n t g) p).seen.0 (yield (attempting registry script held binding bucket) (bounding script held) (world_at h n t g) p).seen.1.place)
          ≡ done_with h (boundary_of e (flow_of n p 0) t g >>= λ x. note yielded >> spin_of e (run_of x.0 0 (0 + 1) (0 + 1)) x.1.0 x.1.1)
      twice =
          let b = boundary_of e (flow_of n p 0) t g in
          rw (append_assoc b.log (yielded ∷ []), boundary_from e b.seen.0 b.seen.1.0 b.seen.1.1)

  pause_from : (i : ℕ) (r : Run) (t g : List ℕ) → pause_of e i r t g ≡ run_on (counted r) (pause_of e i (nil r.flow.next r.flow.place) t g)
  pause_from i r t g = rw (from_nil r) at (pause_on (counted r) e i (nil r.flow.next r.flow.place) t g)

  retry_from : (left i : ℕ) (last : Reason) (r : Run) (t g : List ℕ)
      → retry_of left i last e h.buckets registry binding bucket r t g
      ≡ tried_on (counted r) (retry_of left i last e h.buckets registry binding bucket (nil r.flow.next r.flow.place) t g)
  retry_from left i last r t g = rw (from_nil r) at (retry_on (counted r) e h.buckets registry binding bucket left i last (nil r.flow.next r.flow.place) t g)

  -- a pause and what follows it, from a run that counts: the same from runs that have counted nothing, added up
  abbrev pausing : ℕ → Run → List ℕ → List ℕ → Made (With Run)
  pausing i r t g = pause_of e i (nil r.flow.next r.flow.place) t g

  abbrev resting : ℕ → ℕ → Reason → With Run → Made (With Tried)
  resting left i last x = retry_of left (i + 1) last e h.buckets registry binding bucket (nil x.0.flow.next x.0.flow.place) x.1.0 x.1.1

  both_from : (left i : ℕ) (last : Reason) (r : Run) (t g : List ℕ)
      → (pause_of e i r t g >>= λ x. retry_of left (i + 1) last e h.buckets registry binding bucket x.0 x.1.0 x.1.1)
      ≡ (pausing i r t g >>= λ x. tried_on (counted r) (tried_on (counted x.0) (resting left i last x)))
  both_from left i last r t g =
      let b = (pausing i r t g).seen in
      rw (pause_from i r t g, retry_on (counted r) e h.buckets registry binding bucket left (i + 1) last b.0 b.1.0 b.1.1, retry_from left (i + 1) last b.0 b.1.0 b.1.1)

  abbrev AttemptsFrom : ℕ → ℕ → List ℕ → List ℕ → ℕ → Reason → Made (World × Says) → Type 0
  AttemptsFrom n p t g i last = Attempts (attempting registry script held binding bucket) (bounding script held) i last (world_at h n t g) p

  retry_is : (left i : ℕ) (last : Reason) (n p : ℕ) (t g : List ℕ) → i + left ≡ 4096
      → AttemptsFrom n p t g i last (at_last h (retry_of left i last e h.buckets registry binding bucket (nil n p) t g))
  unfolding retry_of
  retry_is zero i last n p t g l =
      let z : i ≡ 4096 = omega arith in
      subst (λ x. AttemptsFrom n p t g x last (at_last h (record { seen = (tried_of (nil n p) (outcome.Busy last), (t, g)); log = [] }))) (sym z) all_busy
  retry_is (suc left) i last n p t g l =
      let m = attempt_of e h.buckets registry binding bucket (nil n p) t g in
      let r = m.seen.0.run in
      let b = pause_of e i (nil r.flow.next r.flow.place) m.seen.1.0 m.seen.1.1 in
      let s = b.seen.0 in
      let j : i < 4096 = omega arith in
      if_cases (λ (o : Made (With Tried)). AttemptsFrom n p t g i last (at_last h (record { seen = o.seen; log = m.log ++ o.log }))) (is_busy m.seen.0.outcome)
      (λ c.
      subst (λ (o : Made (With Tried)). AttemptsFrom n p t g i last (at_last h (record { seen = o.seen; log = m.log ++ o.log }))) (sym (both_from left i (last_of last m.seen.0.outcome) r m.seen.1.0 m.seen.1.1))
      (one_busy (last_of last m.seen.0.outcome) j (busy_is h.boot last m.seen.0.outcome c) (pause_is i r.flow.next r.flow.place m.seen.1.0 m.seen.1.1)
      (retry_is left (i + 1) _ s.flow.next s.flow.place b.seen.1.0 b.seen.1.1 (omega arith))))
      (λ c. rw (append-nil m.log, same_settled m.seen.0.outcome c) (the_last j (not_busy h.boot m.seen.0.outcome c)))

pub by_steps : (w : World) (registry script : List ℕ) (place : ℕ) (held : List ℕ) (binding bucket : ℕ) (last : Reason)
    → let k = acquire_bucket registry script place held binding bucket in
    Passes w k → Attempts (attempting registry script held binding bucket) (bounding script held) 0 last w place (perform w k)
by_steps w registry script place held binding bucket last fine =
    let h = w.head in
    let e = given h script (holds_of held) in
    subst (Attempts (attempting registry script held binding bucket) (bounding script held) 0 last w place)
    (ap (at_last h) (retry_first 4095 0 last none_yet e h.buckets registry binding bucket (nil h.next place) w.table w.health)
    ∙ sym (made_so w (acquire_bucket registry script place held binding bucket) fine))
    (retry_is w.head registry script held binding bucket attempt_limit 0 last w.head.next place w.table w.health (omega arith))

-- ---- from steps to calls

-- two pairs of functions that do the same wherever `Ok` holds, which they keep
module _ (attempt between attempt' between' : World → ℕ → Made (World × Says)) (Ok : World → ℕ → Type 0)
    (same_attempt : (w : World) (p : ℕ) → Ok w p → attempt' w p ≡ attempt w p) (same_between : (w : World) (p : ℕ) → Ok w p → between' w p ≡ between w p)
    (attempt_ok : (w : World) (p : ℕ) → Ok w p → Ok (world_in (attempt w p)) (place_in (attempt w p)))
    (between_ok : (w : World) (p : ℕ) → Ok w p → Ok (world_in (between w p)) (place_in (between w p))) where
  spin_same : (w : World) (p : ℕ) → Ok w p → spin attempt' between' w p ≡ spin attempt between w p
  spin_same w p k = ap (λ (x : Made (World × Says)). record { seen = x.seen; log = x.log ++ (spun ∷ []) }) (same_between w p k)

  yield_same : (w : World) (p : ℕ) → Ok w p → yield attempt' between' w p ≡ yield attempt between w p
  yield_same w p k =
      ap (λ (x : Made (World × Says)). record { seen = (x.seen.0, says Done (counts_of 0 1 1 x.seen.1.counts.dropped) (place_in x) []); log = x.log ++ (yielded ∷ []) })
      (same_between w p k)

  pause_same : {i : ℕ} {w : World} {p : ℕ} {m : Made (World × Says)} → Ok w p → Pause attempt between i w p m
      → Pause attempt' between' i w p m × Ok (world_in m) (place_in m)
  pause_same {i} {w} {p} k (only_spins n) = (subst (Pause attempt' between' i w p) (spin_same w p k) (only_spins n), between_ok w p k)
  pause_same {i} {w} {p} k (also_yields n) =
      let x = yield attempt between w p in
      let k' = between_ok w p k in
      let both : (yield attempt' between' w p and_then spin attempt' between' (world_in (yield attempt' between' w p)) (place_in (yield attempt' between' w p)))
      ≡ (x and_then spin attempt between (world_in x) (place_in x))
      = ap (λ (y : Made (World × Says)). y and_then spin attempt' between' (world_in y) (place_in y)) (yield_same w p k)
      ∙ ap (λ (y : Made (World × Says)). x and_then y) (spin_same (world_in x) (place_in x) k') in
      (subst (Pause attempt' between' i w p) both (also_yields n), between_ok (world_in x) (place_in x) k')

  attempts_same : {i : ℕ} {last : Reason} {w : World} {p : ℕ} {m : Made (World × Says)} → Ok w p → Attempts attempt between i last w p m
      → Attempts attempt' between' i last w p m
  attempts_same k all_busy = all_busy
  attempts_same {i} {last} {w} {p} k (the_last l n) =
      subst (λ (x : Made (World × Says)). ((why : Reason) → answer_in x ≡ Busy why → ⊥) → Attempts attempt' between' i last w p x) (same_attempt w p k) (the_last l) n
  attempts_same {i} {last} {w} {p} k (one_busy {m = m} {n = n} why l b x rest) =
      let y = pause_same (attempt_ok w p k) x in
      subst (λ (a : Made (World × Says)). answer_in a ≡ Busy why → Pause attempt' between' i (world_in a) (place_in a) m → Attempts attempt' between' i last w p (a and_then (m and_then n)))
      (same_attempt w p k) (λ c z. one_busy why l c z (attempts_same y.1 rest)) b y.0

module _ (registry script held : List ℕ) (binding bucket : ℕ) where
  abbrev pub calling : World → ℕ → Made (World × Says)
  calling w p = perform w (transactional registry script p held binding bucket)

  abbrev pub waiting : World → ℕ → Made (World × Says)
  waiting w p = perform w (environment script p held)

  -- the checks of an attempt pass here
  abbrev pub FineAt : World → ℕ → Type 0
  FineAt w p = Passes w (transactional registry script p held binding bucket)

  boundary_fine : (w : World) (p : ℕ) → FineAt w p → Passes w (environment script p held)
  unfolding bucket_rules
  boundary_fine w p k = boundary_on held (nothing {w = w} {P = In (holds_of held)}) registry script p p binding (in_script script p k.1.1.1.0) k

  calling_is : (w : World) (p : ℕ) → FineAt w p → calling w p ≡ attempting registry script held binding bucket w p
  calling_is w p k = made_so w (transactional registry script p held binding bucket) k

  waiting_is : (w : World) (p : ℕ) → FineAt w p → waiting w p ≡ bounding script held w p
  waiting_is w p k = made_so w (environment script p held) (boundary_fine w p k)

  calling_fine : (w : World) (p : ℕ) → FineAt w p → FineAt (world_in (calling w p)) (place_in (calling w p))
  calling_fine w p k =
      let c = transactional registry script p held binding bucket in
      bucket_on held (call_kept w c).kept registry script p (place_in (calling w p)) binding (place_goes w c (transactional_has registry script p held binding bucket) k).1 k

  waiting_fine : (w : World) (p : ℕ) → FineAt w p → FineAt (world_in (waiting w p)) (place_in (waiting w p))
  waiting_fine w p k =
      let c = environment script p held in
      bucket_on held (call_kept w c).kept registry script p (place_in (waiting w p)) binding (place_goes w c (environment_has script p held) (boundary_fine w p k)).1 k

  -- and they pass where this leaves off
  abbrev FineAfter : Made (World × Says) → Type 0
  FineAfter m = FineAt (world_in m) (place_in m)

pub bucket_attempts : BucketAttempts perform
bucket_attempts w registry script place held binding bucket last fine =
    attempts_same (attempting registry script held binding bucket) (bounding script held) (calling registry script held binding bucket) (waiting registry script held binding bucket)
    (FineAt registry script held binding bucket) (calling_is registry script held binding bucket) (waiting_is registry script held binding bucket)
    (λ v p k. subst (FineAfter registry script held binding bucket) (calling_is registry script held binding bucket v p k) (calling_fine registry script held binding bucket v p k))
    (λ v p k. subst (FineAfter registry script held binding bucket) (waiting_is registry script held binding bucket v p k) (waiting_fine registry script held binding bucket v p k))
    fine (by_steps w registry script place held binding bucket last fine)
