-- Refusals 1 to 5, 8 by cell, 12 to 16 come from a call's checks alone, and these change nothing: its steps refuse with 9 or 10, by key with 6 to 11.
use Prim.Native.Nat.{ℕ, zero, suc, ◌+◌, ◌≤◌}
use Rattle.std.specs.Prelude.{◌≡◌, ◌⊎◌, leb, length, Ok, Err}
use Rattle.std.proofs.Common.{ap, inl, inr, arith}
use mathlib.Core.List.{List, [], ◌∷◌, ◌++◌}
use Rattle.std.proofs.Math.ListN.{get_or}
use Rattle.types.specs.Checks.{Found}
use Rattle.model.specs.Log.{Made}
use Rattle.model.specs.Arena.{is_poisoned, set_cell}
use Rattle.model.specs.Refusals.{number_of}
use Rattle.model.specs.Foreign.{Setting, protecting, flow_of}
use Rattle.model.specs.Lock.{take_of, lock_of, outcome_of, answer_of, find_of, attempt_at, attempt_of, pause_of, is_busy, retry_of, settled, attempt_limit, none_yet, rollback_of, after_key, binding_at, bucket_at, Locks, locks_of}
use Rattle.model.specs.Checks.{count_in}
use Rattle.model.specs.Calls.{starting, acquire_of}
use Rattle.model.specs.Crew.{crew_rules, crew_of, crew_at_work_rules, shift_of, crew_at_work_of}
use Rattle.model.specs.Sorted.{cells_asked, cells_sorted, sorted_keys, first_key, asked_first}
use Rattle.types.specs.declared.Answer.{Answer}
use Rattle.types.specs.declared.Answer.TheVariants as answer
use Rattle.types.specs.declared.CrewReply.{CrewReply}
use Rattle.types.specs.declared.Head.{Head}
use Rattle.types.specs.declared.Hold.{Hold}
use Rattle.types.specs.declared.Outcome.{Outcome}
use Rattle.types.specs.declared.Outcome.TheVariants as outcome
use Rattle.types.specs.declared.Reason.{Reason}
use Rattle.types.specs.declared.Refusal.{Refusal}
use Rattle.types.specs.declared.Run.{Run}
use Rattle.types.specs.declared.Take.{Take}
use Rattle.types.specs.declared.Take.TheVariants as taking
use Rattle.types.specs.declared.Tried.{Tried}
use Rattle.choice.specs.Pick.{if_both}
use Rattle.laws.specs.Outcomes.{Comes, granted, busy, poisoned, damaged, spent, lock_comes}
use Rattle.history.specs.World.{World}
use Rattle.history.specs.Items.{Call, Says, unchanged, try_acquire, drop_lease, read_permission, competing_acquire, release_then_handoff, foreign_release, drop_preserving, acquire_preserving, environment, try_lock, transactional, acquire_bucket, release_all, acquire_locks, acquire_sorted, crew, crew_at_work, ByCell, perform}
use Rattle.history.specs.Statements.{Early, ChangesNothing, CrewRefused, nobody_moved, CrewAtWorkRefused}
use Rattle.history.specs.Judged.{judged, judged_at, acting, sorted_locks, past_checks, performed}

-- ---- which refusals steps answer

-- 6 to 11
abbrev Late : Refusal → Type 0
Late r = (6 ≤ number_of r) × (number_of r ≤ 11)

-- by cell, where 8 comes before any step: 7, 9 or 10
abbrev LateByCell : Refusal → Type 0
LateByCell r = Late r × (number_of r ≡ 8 → ⊥)

abbrev OfOutcome : (Refusal → Type 0) → Outcome → Type 0
OfOutcome P (outcome.Granted l) = Unit {0}
OfOutcome P (outcome.Busy why) = Unit {0}
OfOutcome P (outcome.Refused r) = P r

abbrev OfAnswer : (Refusal → Type 0) → Answer → Type 0
OfAnswer P answer.Done = Unit {0}
OfAnswer P (answer.Cell c) = Unit {0}
OfAnswer P (answer.Granted l) = Unit {0}
OfAnswer P answer.AllGranted = Unit {0}
OfAnswer P (answer.Busy why) = Unit {0}
OfAnswer P (answer.Refused r) = P r
OfAnswer P (answer.RefusedAt r p) = Unit {0}

answer_late : (P : Refusal → Type 0) (boot : ℕ) (o : Outcome) → OfOutcome P o → OfAnswer P (answer_of boot o)
answer_late P boot (outcome.Granted l) h = tt
answer_late P boot (outcome.Busy why) h = tt
answer_late P boot (outcome.Refused r) h = h

take_late : (c : ℕ) (x : Take) → OfOutcome LateByCell (outcome_of c x)
take_late c (taking.Granted s) = tt
take_late c (taking.Busy owner) = tt
take_late c taking.Damaged = ((omega arith, omega arith), λ q. omega arith)
take_late c taking.Spent = ((omega arith, omega arith), λ q. omega arith)

lock_late : {buckets c : ℕ} {g : List ℕ} {o : Outcome} → Comes buckets c g o → OfOutcome LateByCell o
lock_late (granted s h) = tt
lock_late (busy why) = tt
lock_late (poisoned h) = ((omega arith, omega arith), λ q. omega arith)
lock_late damaged = ((omega arith, omega arith), λ q. omega arith)
lock_late spent = ((omega arith, omega arith), λ q. omega arith)

acquire_late : (n : ℕ) (h : Head) (t : List ℕ) (c : ℕ) → OfAnswer LateByCell (acquire_of n h t c).seen.0.answer
unfolding acquire_of
acquire_late n h t c = let x = (take_of h.next t c).seen.0.answer in answer_late LateByCell h.boot (outcome_of c x) (take_late c x)

-- by key
abbrev OfFound : Found → Type 0
OfFound (Err r) = Late r
OfFound (Ok c) = Unit {0}

of_late : (o : Outcome) → OfOutcome LateByCell o → OfOutcome Late o
of_late (outcome.Granted l) h = tt
of_late (outcome.Busy why) h = tt
of_late (outcome.Refused r) h = h.0

module _ (e : Setting) (buckets : ℕ) (registry : List ℕ) (binding bucket : ℕ) where
  attempt_late : (r : Run) (t g : List ℕ) → OfOutcome Late (attempt_of e buckets registry binding bucket r t g).seen.0.outcome
  unfolding attempt_of find_of
  attempt_late r t g =
      let header = get_or registry binding 0 in
      go (find_of e.headers buckets g registry binding bucket)
      (if_both OfFound (leb e.headers header) (omega arith)
      (if_both OfFound (is_poisoned g header) (omega arith) (if_both OfFound (leb buckets bucket) (omega arith) tt)))
    where
      go : (x : Found) → OfFound x → OfOutcome Late (attempt_at x e buckets r t g).seen.0.outcome
      go (Err x) h = h
      go (Ok c) h = of_late (lock_of e buckets r.flow t g c).seen.0.answer (lock_late (lock_comes e buckets c r.flow t g))

  retry_late : (left i : ℕ) (last : Reason) (r : Run) (t g : List ℕ) → OfOutcome Late (retry_of left i last e buckets registry binding bucket r t g).seen.0.outcome
  unfolding retry_of
  retry_late zero i last r t g = tt
  retry_late (suc left) i last r t g =
      let m = (attempt_of e buckets registry binding bucket r t g).seen in
      let p = (pause_of e i m.0.run m.1.0 m.1.1).seen in
      if_both (λ (x : Made (Tried × (List ℕ × List ℕ))). OfOutcome Late x.seen.0.outcome) (is_busy m.0.outcome)
      (retry_late left (i + 1) _ p.0 p.1.0 p.1.1) (attempt_late r t g)

settled_late : (o : Outcome) → OfOutcome Late o → OfOutcome Late (settled o)
settled_late (outcome.Granted l) h = tt
settled_late (outcome.Busy why) h = omega arith
settled_late (outcome.Refused r) h = h

-- multi-lock names the key's position: these are other answers
locks_late : (P : Refusal → Type 0) (left p : ℕ) (e : Setting) (buckets boot : ℕ) (registry keys : List ℕ) (taken : List Hold) (r : Run) (t g grants : List ℕ)
    → OfAnswer P (locks_of left p e buckets boot registry keys taken r t g grants).seen.0.answer
unfolding locks_of rollback_of
locks_late P zero p e buckets boot registry keys taken r t g grants = tt
locks_late P (suc left) p e buckets boot registry keys taken r t g grants =
    let m = (retry_of attempt_limit 0 none_yet (protecting e taken) buckets registry (binding_at keys p) (bucket_at keys p) r t g).seen in
    go m.0.run m.1.0 m.1.1 m.0.outcome (λ l. locks_of left (p + 1) e buckets boot registry keys (taken ++ (l ∷ [])) m.0.run m.1.0 m.1.1 grants)
    (λ l. locks_late P left (p + 1) e buckets boot registry keys (taken ++ (l ∷ [])) m.0.run m.1.0 m.1.1 grants)
  where
    go : (k : Run) (u w : List ℕ) (x : Outcome) (more : Hold → Made Locks) → ((l : Hold) → OfAnswer P (more l).seen.0.answer)
        → OfAnswer P (after_key x e taken p k u w grants more).seen.0.answer
    go k u w (outcome.Granted l) more h = h l
    go k u w (outcome.Busy why) more h = tt
    go k u w (outcome.Refused x) more h = tt

-- and so does the sorted call, by the keys as typed
asked_late : (P : Refusal → Type 0) (asked sorted : List ℕ) (x : Answer) → OfAnswer P x → OfAnswer P (asked_first x asked sorted)
asked_late P asked sorted answer.Done h = tt
asked_late P asked sorted (answer.Cell c) h = tt
asked_late P asked sorted (answer.Granted l) h = tt
asked_late P asked sorted answer.AllGranted h = tt
asked_late P asked sorted (answer.Busy why) h = tt
asked_late P asked sorted (answer.Refused r) h = h
asked_late P asked sorted (answer.RefusedAt r p) h = tt

-- ---- the calls

-- 6 to 11, and not 8 where a cell is given
abbrev Bounded : Call → Answer → Type 0
Bounded k a = OfAnswer LateByCell a ⊎ ((ByCell k → ⊥) × OfAnswer Late a)

past_checks_late : (w : World) (k : Call) → Bounded k (past_checks w k).seen.1.answer
past_checks_late w (try_acquire c) = inl (acquire_late 1 w.head w.table c)
past_checks_late w (drop_lease l) = inl tt
past_checks_late w (read_permission l) = inl tt
past_checks_late w (competing_acquire l) = inl (acquire_late 1 w.head w.table l.cell)
past_checks_late w (release_then_handoff l) = inl (acquire_late 1 w.head (set_cell w.table l.cell 0 0) l.cell)
past_checks_late w (foreign_release held l) =
    let m = (acquire_of 1 w.head w.table l.cell).seen in
    inl (acquire_late 2 m.0.head (set_cell m.1 l.cell 0 0) l.cell)
past_checks_late w (drop_preserving held l) = inl tt
past_checks_late w (acquire_preserving held c) = inl (acquire_late 1 w.head w.table c)
past_checks_late w (environment script place held) = inl tt
past_checks_late w (try_lock script place held c) =
    let e = acting w (try_lock script place held c) in
    let f = flow_of w.head.next place 0 in
    inl (answer_late LateByCell w.head.boot (lock_of e w.head.buckets f w.table w.health c).seen.0.answer (lock_late (lock_comes e w.head.buckets c f w.table w.health)))
past_checks_late w (transactional registry script place held binding bucket) =
    let e = acting w (transactional registry script place held binding bucket) in
    let o = (attempt_of e w.head.buckets registry binding bucket (starting w.head place) w.table w.health).seen.0.outcome in
    inr (λ z. z, answer_late Late w.head.boot o (attempt_late e w.head.buckets registry binding bucket (starting w.head place) w.table w.health))
past_checks_late w (acquire_bucket registry script place held binding bucket) =
    let e = acting w (acquire_bucket registry script place held binding bucket) in
    let o = (retry_of attempt_limit 0 none_yet e w.head.buckets registry binding bucket (starting w.head place) w.table w.health).seen.0.outcome in
    let late = retry_late e w.head.buckets registry binding bucket attempt_limit 0 none_yet (starting w.head place) w.table w.health in
    inr (λ z. z, answer_late Late w.head.boot (settled o) (settled_late o late))
past_checks_late w (release_all script place leases) = inl tt
past_checks_late w (acquire_locks registry script place held keys grants) =
    let e = acting w (acquire_locks registry script place held keys grants) in
    inl (locks_late LateByCell (count_in keys) 0 e w.head.buckets w.head.boot registry keys [] (starting w.head place) w.table w.health grants)
past_checks_late w (acquire_sorted registry script place held keys grants) =
    let e = acting w (acquire_sorted registry script place held keys grants) in
    inl (judged_at (λ (m : Made (World × Says)). OfAnswer LateByCell m.seen.1.answer) (first_key (count_in keys) 0 w.head registry keys) (λ r p _. tt)
    (λ _.
    asked_late LateByCell (cells_asked w.head.buckets registry keys) (cells_sorted w.head.buckets registry keys) (sorted_locks w registry script place held keys grants).seen.0.answer
    (locks_late LateByCell (length (cells_sorted w.head.buckets registry keys)) 0 e w.head.buckets w.head.boot registry (sorted_keys w.head.buckets registry keys) [] (starting w.head place) w.table w.health grants)))
past_checks_late w (crew counts cells turns) = inl tt
past_checks_late w (crew_at_work counts cells turns counters) = inl tt

-- so no steps answer an early one, and checks leave all as it was
never : (k : Call) (a : Answer) (r : Refusal) → Bounded k a → a ≡ answer.Refused r → Early k r → ⊥
never k a r b q = go (rw q at b)
  where
    go : Bounded k (answer.Refused r) → Early k r → ⊥
    go (inl l) (inl x) = omega arith
    go (inl l) (inr (inl x)) = l.1 x.0
    go (inl l) (inr (inr x)) = omega arith
    go (inr l) (inl x) = omega arith
    go (inr l) (inr (inl x)) = l.0 x.1
    go (inr l) (inr (inr x)) = omega arith

pub past_checks_never : (w : World) (k : Call) (r : Refusal) → (past_checks w k).seen.1.answer ≡ answer.Refused r → Early k r → ⊥
past_checks_never w k r = never k (past_checks w k).seen.1.answer r (past_checks_late w k)

pub refusals_early : ChangesNothing perform
refusals_early w k r =
    performed (λ m. m.seen.1.answer ≡ answer.Refused r → Early k r → m ≡ unchanged w k r) w k
    (λ x q h. let z : x ≡ r = cc in rw z) (λ _ q h. absurd (past_checks_never w k r q h))

-- and a crew's reply, with its own counts
pub crew_unmoved : CrewRefused crew_of
unfolding shift_of crew_of
crew_unmoved h t g counts cells turns r =
    judged (λ (m : Made (CrewReply × List ℕ)). m.seen.0.answer ≡ answer.Refused r → m ≡ refused r) (crew_rules h t g counts cells turns)
    (λ x q. let z : x ≡ r = cc in ap refused z) (λ _ q. let z : ◌≡◌ {A = ℕ} 0 1 = cc in absurd (omega arith))
  where
    refused : Refusal → Made (CrewReply × List ℕ)
    refused x = record { seen = (nobody_moved h x, t); log = [] }

-- with work, the counters too
pub crew_at_work_unmoved : CrewAtWorkRefused crew_at_work_of
unfolding shift_of crew_at_work_of
crew_at_work_unmoved h t g counts cells turns counters r =
    judged (λ (m : Made (CrewReply × (List ℕ × List ℕ))). m.seen.0.answer ≡ answer.Refused r → m ≡ refused r) (crew_at_work_rules h t g counts cells turns counters)
    (λ x q. let z : x ≡ r = cc in ap refused z) (λ _ q. let z : ◌≡◌ {A = ℕ} 0 1 = cc in absurd (omega arith))
  where
    refused : Refusal → Made (CrewReply × (List ℕ × List ℕ))
    refused x = record { seen = (nobody_moved h x, (t, counters)); log = [] }
