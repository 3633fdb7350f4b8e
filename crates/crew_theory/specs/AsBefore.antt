-- Document 02, L3, leaves the crew as it was: a turn's try_lock has no script, so the health read after the third boundary
-- is the health that the turn has read first, and that was 0. Here stand the steps of a lock as document 01 has them,
-- without the second reading, only to be compared with; a Busy there has its reason too.
use Rattle.std.specs.Prelude.{ℕ, ◌*◌, ◌≡◌, refl, List, [], ◌∷◌, ◌++◌, eqb, get_or, if◌then◌else◌}
use Rattle.std.proofs.Math.Path.{ap}
use Rattle.std.proofs.Common.{eqb-true, eq-eqb}
use Rattle.std.proofs.lemmas.Bool.{not-false}
use Rattle.model.specs.Log.{Made, attempt_begun, boundary_run, gives, note, ◌>>=◌, ◌>>◌}
use Rattle.model.specs.Arena.{header_of, is_poisoned, hold_of, waiters_at}
use Rattle.model.specs.Foreign.{Setting, setting, protecting, flow_of, run_steps_of, boundary_of}
use Rattle.model.specs.Lock.{take_of, locked_of, outcome_of, give_up_of, late_stage_of, after_take, second_stage_of, lock_of}
use Rattle.model.specs.Crew.{Crew, idled, after_try, try_turn_of}
use Rattle.types.specs.declared.Flow.{Flow}
use Rattle.types.specs.declared.Locked.{Locked}
use Rattle.types.specs.declared.Outcome.TheVariants as outcome
use Rattle.types.specs.declared.Reason.TheVariants as reason
use Rattle.types.specs.declared.Take.{Take}
use Rattle.types.specs.declared.Take.TheVariants as taking
use Rattle.history.specs.Tests.{if_cases}
use Rattle.history.specs.Steps.{With}

-- ---- the steps as they were

abbrev late_before : Setting → Flow → List ℕ → List ℕ → ℕ → ℕ → Made (With Locked)
late_before e f t g c s = do
  (k, (u, w)) ← boundary_of (protecting e (hold_of c s ∷ [])) f t g
  if eqb (waiters_at u c) 0 then gives (locked_of k 3 (outcome.Granted (hold_of c s)), (u, w))
      else give_up_of (outcome.Busy (reason.After s)) k u w c s

abbrev after_before : Take → Setting → Flow → List ℕ → List ℕ → ℕ → Made (With Locked)
after_before (taking.Granted s) e f t g c = late_before e f t g c s
after_before (taking.Busy owner) e f t g c = gives (locked_of f 2 (outcome_of c (taking.Busy owner)), (t, g))
after_before taking.Damaged e f t g c = gives (locked_of f 2 (outcome_of c taking.Damaged), (t, g))
after_before taking.Spent e f t g c = gives (locked_of f 2 (outcome_of c taking.Spent), (t, g))

abbrev second_before : Setting → Flow → List ℕ → List ℕ → ℕ → Made (With Locked)
second_before e f t g c = do
  (k, (u, w)) ← boundary_of e f t g
  (a, v) ← take_of k.next u c
  after_before a.answer e (flow_of a.next k.place k.dropped) v w c

abbrev pub lock_before : Setting → Flow → List ℕ → List ℕ → ℕ → Made (With Locked)
lock_before e f t g c = do
  (k, (u, w)) ← boundary_of e f t g
  if eqb (waiters_at u c) 0 then second_before e k u w c
      else gives (locked_of k 1 (outcome.Busy reason.Before), (u, w))

-- a turn of the crew with them
abbrev pub turn_before : ℕ → ℕ → List ℕ → Crew → ℕ → ℕ → ℕ → Made Crew
turn_before headers buckets g w m k c =
    if is_poisoned g (header_of buckets c) then gives (idled w.next w.table w)
    else do
      note attempt_begun
      (l, (u, x)) ← lock_before (setting headers (headers * buckets) [] []) (flow_of w.next 0 0) w.table g c
      gives (after_try l.answer l.flow.next u w m k)

-- ---- with no script, and a healthy header

module _ (headers cells buckets n : ℕ) (t g : List ℕ) (c : ℕ) (healthy : get_or g (header_of buckets c) 0 ≡ 0) where
  abbrev e : Setting
  e = setting headers cells [] []

  late_same : (k d : ℕ) (u : List ℕ) (s : ℕ) → late_stage_of e buckets (flow_of k 0 d) u g c s ≡ late_before e (flow_of k 0 d) u g c s
  unfolding late_stage_of boundary_of run_steps_of
  late_same k d u s = rw (eq-eqb (get_or g (header_of buckets c) 0) 0 healthy)

  after_same : (a : Take) (k d : ℕ) (u : List ℕ) → after_take a e buckets (flow_of k 0 d) u g c ≡ after_before a e (flow_of k 0 d) u g c
  after_same (taking.Granted s) k d u = late_same k d u s
  after_same (taking.Busy owner) k d u = refl
  after_same taking.Damaged k d u = refl
  after_same taking.Spent k d u = refl

  second_same : second_stage_of e buckets (flow_of n 0 0) t g c ≡ second_before e (flow_of n 0 0) t g c
  unfolding second_stage_of boundary_of run_steps_of
  second_same =
      let k = take_of n t c in
      ap (λ (m : Made (With Locked)). record { seen = m.seen; log = (boundary_run ∷ []) ++ (k.log ++ m.log) }) (after_same k.seen.0.answer k.seen.0.next 0 k.seen.1)

  lock_as_before : lock_of e buckets (flow_of n 0 0) t g c ≡ lock_before e (flow_of n 0 0) t g c
  unfolding lock_of boundary_of run_steps_of
  lock_as_before = rw second_same

-- so every attempt of a member is what it was
pub turn_as_before : (headers buckets : ℕ) (g : List ℕ) (w : Crew) (m k c : ℕ) → try_turn_of headers buckets g w m k c ≡ turn_before headers buckets g w m k c
unfolding try_turn_of
turn_as_before headers buckets g w m k c =
    if_cases (λ (o : Made Crew). o ≡ turn_before headers buckets g w m k c) (is_poisoned g (header_of buckets c)) (λ p. rw p)
    (λ p. rw (p, lock_as_before headers (headers * buckets) buckets w.next w.table g c (eqb-true _ _ (not-false _ p))))
