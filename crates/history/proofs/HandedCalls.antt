-- Each call: what its answer hands over was taken in its log, and the serials of a granted buffer rise.
-- ---- what each call hands over
use Rattle.std.specs.Prelude.{ℕ, zero, suc, ◌+◌, ◌≤◌, ◌<◌, ◌≡◌, refl, List, [], ◌∷◌, ◌++◌, length}
use Rattle.std.proofs.Common.{ap, inl, inr, arith}
use Rattle.model.specs.Log.{Made, Event, by_caller, attempt_begun, released}
use Rattle.model.specs.Arena.{holds_of, set_cell}
use Rattle.model.specs.Foreign.{Setting, protecting, flow_of}
use Rattle.model.specs.Lock.{take_of, outcome_of, answer_of, settled, attempt_limit, none_yet, retry_of, hold_at, binding_at, bucket_at, Locks, rollback_of, after_key, locks_of}
use Rattle.model.specs.Checks.{count_in}
use Rattle.model.specs.Calls.{starting, acquire_of}
use Rattle.model.specs.Sorted.{cells_sorted, sorted_keys, first_key}
use Rattle.types.specs.declared.Answer.TheVariants.{AllGranted}
use Rattle.types.specs.declared.Head.{Head}
use Rattle.types.specs.declared.Hold.{Hold}
use Rattle.types.specs.declared.Outcome.{Outcome}
use Rattle.types.specs.declared.Outcome.TheVariants as outcome
use Rattle.types.specs.declared.Run.{Run}
use Rattle.laws.specs.Lists.{words_back}
use Rattle.history.specs.World.{World, number_of_lem}
use Rattle.history.specs.Items.{Call, Says, try_acquire, drop_lease, read_permission, competing_acquire, release_then_handoff, foreign_release, drop_preserving, acquire_preserving, environment, try_lock, transactional, acquire_bucket, release_all, acquire_locks, acquire_sorted, crew, crew_at_work, perform}
use Rattle.history.specs.Statements.{HandsOver}
use Rattle.history.specs.Answers.{HandedOver, SerialsRise}
use Rattle.history.specs.Tests.{none_in}
use Rattle.history.proofs.Logs.{next_now}
use Rattle.history.specs.Judged.{judged_at, acting, past_checks, performed}
use Rattle.history.proofs.Shared.{handed_inner}
use Rattle.history.specs.Owing.{Nobody, Given}
use Rattle.history.specs.Handed.{TakenIn, Issues}
use Rattle.history.proofs.Handed.{taken_between, idle, none_new, follow, regard, take_issues, lock_issues, attempt_issues, retry_issues, locks_issues}
use Rattle.history.specs.HandedCalls.{Came, Rising, Rise}

given_back : (boot : ℕ) (o : Outcome) (l : Hold) → HandsOver (answer_of boot o) [] l → Given o l
given_back boot (outcome.Granted k) l e = ap {B = Outcome} (λ x. outcome.Granted x) e
given_back boot (outcome.Busy why) l e = absurd e
given_back boot (outcome.Refused r) l e = absurd e

settled_back : (boot : ℕ) (o : Outcome) (l : Hold) → HandsOver (answer_of boot (settled o)) [] l → Given o l
settled_back boot (outcome.Granted k) l e = ap {B = Outcome} (λ x. outcome.Granted x) e
settled_back boot (outcome.Busy why) l e = absurd e
settled_back boot (outcome.Refused r) l e = absurd e

acquire_issues : (n : ℕ) (h : Head) (t : List ℕ) (c : ℕ)
    → let m = acquire_of n h t c in Issues h.next Nobody m.seen.0.head.next (HandsOver m.seen.0.answer []) m.log
unfolding acquire_of number_of_lem
acquire_issues n h t c =
    follow {xs = attempt_begun ∷ []} (none_new (omega arith))
    (follow (take_issues h.next t c) (idle (given_back h.boot (outcome_of c (take_of h.next t c).seen.0.answer))))

came : {n p : ℕ} {L : Hold → Type 0} {es : List Event} → Issues n Nobody p L es → (l : Hold) → L l → TakenIn n l es
came k l x = elim (k.comes l x) [ inl z ↦ absurd z | inr t ↦ t ]

past_checks_came : (w : World) (k : Call) → Came w.head.next (past_checks w k)
unfolding number_of_lem
past_checks_came w (try_acquire c) = came (acquire_issues 1 w.head w.table c)
past_checks_came w (drop_lease l) = λ m x. absurd x
past_checks_came w (read_permission l) = λ m x. absurd x
past_checks_came w (competing_acquire l) = came (acquire_issues 1 w.head w.table l.cell)
past_checks_came w (release_then_handoff l) =
    came (follow {xs = released by_caller l.cell l.serial ∷ []} (none_new (omega arith)) (acquire_issues 1 w.head (set_cell w.table l.cell 0 0) l.cell))
past_checks_came w (foreign_release held l) =
    let m = (acquire_of 1 w.head w.table l.cell).seen in
    came (follow (regard {L' = Nobody} (λ l x. x) (λ l x. absurd x) (acquire_issues 1 w.head w.table l.cell))
    (follow {xs = released by_caller l.cell l.serial ∷ []} (none_new (omega arith)) (acquire_issues 2 m.0.head (set_cell m.1 l.cell 0 0) l.cell)))
past_checks_came w (drop_preserving held l) = λ m x. absurd x
past_checks_came w (acquire_preserving held c) = came (acquire_issues 1 w.head w.table c)
past_checks_came w (environment script place held) = λ m x. absurd x
past_checks_came w (try_lock script place held c) =
    let e = acting w (try_lock script place held c) in
    came (regard (λ l x. x) (given_back w.head.boot _) (follow {xs = attempt_begun ∷ []} (none_new (omega arith)) (lock_issues e w.head.buckets (flow_of w.head.next place 0) w.table w.health c)))
past_checks_came w (transactional registry script place held binding bucket) =
    let e = acting w (transactional registry script place held binding bucket) in
    came (regard (λ l x. x) (given_back w.head.boot _) (attempt_issues e w.head.buckets registry binding bucket (starting w.head place) w.table w.health))
past_checks_came w (acquire_bucket registry script place held binding bucket) =
    let e = acting w (acquire_bucket registry script place held binding bucket) in
    came (regard (λ l x. x) (settled_back w.head.boot _) (retry_issues e attempt_limit 0 none_yet w.head.buckets registry binding bucket (starting w.head place) w.table w.health))
past_checks_came w (release_all script place leases) = λ m x. absurd x
past_checks_came w (acquire_locks registry script place held keys grants) =
    let e = acting w (acquire_locks registry script place held keys grants) in
    came (regard (λ l x. none_in l x) (λ l x. x) (locks_issues e (count_in keys) 0 w.head.buckets w.head.boot registry keys [] (starting w.head place) w.table w.health grants))
past_checks_came w (acquire_sorted registry script place held keys grants) =
    let e = acting w (acquire_sorted registry script place held keys grants) in
    let chosen = sorted_keys w.head.buckets registry keys in
    judged_at (Came w.head.next) (first_key (count_in keys) 0 w.head registry keys) (λ r p _ l x. absurd x)
    (λ _ l x.
    came (regard (λ l x. none_in l x) (λ l x. x)
    (locks_issues e (length (cells_sorted w.head.buckets registry keys)) 0 w.head.buckets w.head.boot registry chosen [] (starting w.head place) w.table w.health grants)) l
    (handed_inner w registry script place held keys grants l x))
past_checks_came w (crew counts cells turns) = λ m x. absurd x
past_checks_came w (crew_at_work counts cells turns counters) = λ m x. absurd x

pub call_came : (w : World) (k : Call) → Came w.head.next (perform w k)
call_came w k = performed (Came w.head.next) w k (λ r l x. absurd x) (λ _. past_checks_came w k)

pub calls_hand_over : HandedOver perform
calls_hand_over w k l x =
    let t = call_came w k l x in
    (t.before, t.after, t.parts, omega (arith, t.was_next, next_now w t.before))

one_more : (low high top : ℕ) (ls : List Hold) (l : Hold) → Rising low ls high → high ≤ l.serial → l.serial < top → Rising low (ls ++ (l ∷ [])) top
one_more low high top [] l r a b = (omega arith, omega arith)
one_more low high top (k ∷ ls) l r a b = (r.0, one_more (k.serial + 1) high top ls l r.1 a b)

above : (low high : ℕ) (ls : List Hold) → Rising low ls high → (j : ℕ) → j < length ls → low ≤ (hold_at ls j).serial
above low high [] r j k = absurd (omega arith)
above low high (l ∷ ls) r zero k = r.0
above low high (l ∷ ls) r (suc j) k = omega (arith, r.0, above (l.serial + 1) high ls r.1 j (omega arith))

rises : (low high : ℕ) (ls : List Hold) → Rising low ls high → (i j : ℕ) → i < j → j < length ls → (hold_at ls i).serial < (hold_at ls j).serial
rises low high [] r i j a b = absurd (omega arith)
rises low high (l ∷ ls) r i zero a b = absurd (omega arith)
rises low high (l ∷ ls) r zero (suc j) a b = omega (arith, above (l.serial + 1) high ls r.1 j (omega arith))
rises low high (l ∷ ls) r (suc i) (suc j) a b = rises (l.serial + 1) high ls r.1 i j (omega arith) (omega arith)

locks_rise : (left p : ℕ) (e : Setting) (buckets boot : ℕ) (registry keys : List ℕ) (taken : List Hold) (r : Run) (t g grants : List ℕ)
    → Rising 0 taken r.flow.next → Rise (locks_of left p e buckets boot registry keys taken r t g grants).seen
unfolding locks_of rollback_of
locks_rise zero p e buckets boot registry keys taken r t g grants h = λ a. rw (words_back boot taken) h
locks_rise (suc left) p e buckets boot registry keys taken r t g grants h =
    let k = retry_issues (protecting e taken) attempt_limit 0 none_yet buckets registry (binding_at keys p) (bucket_at keys p) r t g in
    let m = (retry_of attempt_limit 0 none_yet (protecting e taken) buckets registry (binding_at keys p) (bucket_at keys p) r t g).seen in
    go m.0.outcome m.0.run m.1.0 m.1.1
    (λ l q.
    let b = taken_between (came k l q) in
    locks_rise left (p + 1) e buckets boot registry keys (taken ++ (l ∷ [])) m.0.run m.1.0 m.1.1 grants
    (one_more 0 r.flow.next m.0.run.flow.next taken l h b.0 (omega (arith, k.spends, b.1))))
  where
    go : (o : Outcome) (s : Run) (u y : List ℕ)
        → ((l : Hold) → Given o l → Rise (locks_of left (p + 1) e buckets boot registry keys (taken ++ (l ∷ [])) s u y grants).seen)
        → Rise (after_key o e taken p s u y grants (λ l. locks_of left (p + 1) e buckets boot registry keys (taken ++ (l ∷ [])) s u y grants)).seen
    go (outcome.Granted l) s u y on = on l refl
    go (outcome.Busy why) s u y on = λ a. let z : ◌≡◌ {A = ℕ} 0 1 = cc in absurd (omega arith)
    go (outcome.Refused x) s u y on = λ a. let z : ◌≡◌ {A = ℕ} 0 1 = cc in absurd (omega arith)

-- position by position, of multi-lock's parts from the first key on
pub locks_serials : (n : ℕ) (e : Setting) (buckets boot : ℕ) (registry keys : List ℕ) (r : Run) (t g grants : List ℕ) (i j : ℕ)
    → let m = (locks_of n 0 e buckets boot registry keys [] r t g grants).seen in m.0.answer ≡ AllGranted
    → i < j → j < length (holds_of m.1.1.1) → (hold_at (holds_of m.1.1.1) i).serial < (hold_at (holds_of m.1.1.1) j).serial
locks_serials n e buckets boot registry keys r t g grants i j a b d =
    let m = (locks_of n 0 e buckets boot registry keys [] r t g grants).seen in
    rises 0 m.0.run.flow.next (holds_of m.1.1.1) (locks_rise n 0 e buckets boot registry keys [] r t g grants (omega arith) a) i j b d

pub serials_rise : SerialsRise perform
serials_rise w registry script place held keys grants i j =
    let k = acquire_locks registry script place held keys grants in
    performed (λ m. m.seen.1.answer ≡ AllGranted → i < j → j < length (holds_of m.seen.1.grants)
    → (hold_at (holds_of m.seen.1.grants) i).serial < (hold_at (holds_of m.seen.1.grants) j).serial) w k
    (λ r x. let z : ◌≡◌ {A = ℕ} 0 1 = cc in absurd (omega arith))
    (λ _. locks_serials (count_in keys) (acting w k) w.head.buckets w.head.boot registry keys (starting w.head place) w.table w.health grants i j)
