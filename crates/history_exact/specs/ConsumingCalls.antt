-- Every call with a script uses it up as `Consumed` says: from its place to the place that it gives back, with its dropped steps, from the
-- world before it to the world after it, over its log.
use Rattle.std.specs.Prelude.{ℕ, ◌≡◌, refl, List, [], ◌++◌, length}
use Rattle.std.proofs.Common.{sym, ◌∙◌, append-nil, arith, take_all}
use Rattle.model.specs.Arena.{holds_of, words_of}
use Rattle.model.specs.Foreign.{flow_of}
use Rattle.model.specs.Lock.{answer_of, settled, lock_of, attempt_of, retry_of, attempt_limit, none_yet, locks_of}
use Rattle.model.specs.Checks.{count_in, lease_count}
use Rattle.model.specs.Calls.{given, starting}
use Rattle.model.specs.Sorted.{cells_asked, cells_sorted, sorted_keys, first_key, shared_of, handed_back, asked_first}
use Rattle.types.specs.declared.Answer.{Answer}
use Rattle.types.specs.declared.Answer.TheVariants.{Done, Cell, Granted, AllGranted, Busy, Refused, RefusedAt}
use Rattle.types.specs.declared.Hold.{Hold}
use Rattle.types.specs.declared.Outcome.{Outcome}
use Rattle.types.specs.declared.Outcome.TheVariants as outcome
use Rattle.laws.specs.Lists.{holds_few, words_back}
use Rattle.history.specs.World.{World}
use Rattle.history.specs.Items.{Call, perform}
use Rattle.history.proofs.Theorems.{lawful_always}
use Rattle.history.specs.Judged.{judged_at, sorted_locks, past_checks, made_so}
use Rattle.history.proofs.Shared.{steps_hand_back, back_once}
use Rattle.history.proofs.Calls.{words_leases}
use Rattle.history_exact.specs.Script.{Scripted, environment_has, try_lock_has, transactional_has, acquire_bucket_has, release_all_has, acquire_locks_has, acquire_sorted_has, attempts_one, at_rest, counts, handed, Consumes, ScriptConsumed}
use Rattle.history_exact.specs.Consuming.{lawfully}
use Rattle.history_exact.specs.ConsumingSteps.{held_after, granted_after, boundary_consumed, lock_consumed, attempt_consumed, retry_consumed, back_consumed, locks_consumed, Any}

-- ---- proofs

-- what an outcome adds is what its answer hands over
outcome_handed : (boot : ℕ) (ps : List Hold) (o : Outcome) (b : List ℕ) → held_after ps o ≡ ps ++ handed (answer_of boot o) b
outcome_handed boot ps (outcome.Granted l) b = refl
outcome_handed boot ps (outcome.Busy why) b = sym (append-nil ps)
outcome_handed boot ps (outcome.Refused r) b = sym (append-nil ps)

settled_handed : (boot : ℕ) (ps : List Hold) (o : Outcome) (b : List ℕ) → held_after ps o ≡ ps ++ handed (answer_of boot (settled o)) b
settled_handed boot ps (outcome.Granted l) b = refl
settled_handed boot ps (outcome.Busy why) b = sym (append-nil ps)
settled_handed boot ps (outcome.Refused r) b = sym (append-nil ps)

granted_handed : (ps : List Hold) (a : Answer) (b : List ℕ) → granted_after ps a b ≡ ps ++ handed a b
granted_handed ps Done b = sym (append-nil ps)
granted_handed ps (Cell c) b = sym (append-nil ps)
granted_handed ps (Granted l) b = refl
granted_handed ps AllGranted b = refl
granted_handed ps (Busy why) b = sym (append-nil ps)
granted_handed ps (Refused r) b = sym (append-nil ps)
granted_handed ps (RefusedAt r p) b = sym (append-nil ps)

-- what the sorted call hands back, of each cell once, is what its locks hand over
sorted_handed : (w : World) (registry script : List ℕ) (place : ℕ) (held keys grants : List ℕ)
    → let asked = cells_asked w.head.buckets registry keys in
    let sorted = cells_sorted w.head.buckets registry keys in
    let m = (sorted_locks w registry script place held keys grants).seen in
    handed (asked_first m.0.answer asked sorted) (words_of w.head.boot (shared_of (holds_of (handed_back w.head.boot m.0.answer asked m.1.1.1)) sorted)) ≡ handed m.0.answer m.1.1.1
sorted_handed w registry script place held keys grants =
    go (sorted_locks w registry script place held keys grants).seen.0.answer
    (λ e. back_once w.head.buckets registry keys (steps_hand_back w registry script place held keys grants e))
  where
    asked : List ℕ
    asked = cells_asked w.head.buckets registry keys

    sorted : List ℕ
    sorted = cells_sorted w.head.buckets registry keys

    b : List ℕ
    b = (sorted_locks w registry script place held keys grants).seen.1.1.1

    go : (x : Answer) → (x ≡ AllGranted → shared_of (holds_of (handed_back w.head.boot AllGranted asked b)) sorted ≡ holds_of b)
        → handed (asked_first x asked sorted) (words_of w.head.boot (shared_of (holds_of (handed_back w.head.boot x asked b)) sorted)) ≡ handed x b
    go Done f = refl
    go (Cell c) f = refl
    go (Granted l) f = refl
    go AllGranted f = words_back w.head.boot (shared_of (holds_of (handed_back w.head.boot AllGranted asked b)) sorted) ∙ f refl
    go (Busy why) f = refl
    go (Refused r) f = refl
    go (RefusedAt r p) f = refl

-- nothing is asked of the caller's own events here
past_checks_consumed : (w : World) {k : Call} (s : Scripted k) → Consumes Any w s (past_checks w k)
past_checks_consumed w (environment_has script place held) =
    simp append-nil (boundary_consumed w.head script (holds_of held) (flow_of w.head.next place 0) w.table w.health)
past_checks_consumed w (try_lock_has script place held c) =
    let ps = holds_of held in
    let m = (lock_of (given w.head script ps) w.head.buckets (flow_of w.head.next place 0) w.table w.health c).seen in
    rw (append-nil ps, ← (outcome_handed w.head.boot ps m.0.answer []))
    (counts attempts_one (lock_consumed w.head script ps w.head.buckets (flow_of w.head.next place 0) w.table w.health c))
past_checks_consumed w (transactional_has registry script place held binding bucket) =
    let ps = holds_of held in
    let m = (attempt_of (given w.head script ps) w.head.buckets registry binding bucket (starting w.head place) w.table w.health).seen in
    rw (append-nil ps, ← (outcome_handed w.head.boot ps m.0.outcome []))
    (attempt_consumed w.head script ps w.head.buckets registry binding bucket (starting w.head place) w.table w.health)
past_checks_consumed w (acquire_bucket_has registry script place held binding bucket) =
    let ps = holds_of held in
    let m = (retry_of attempt_limit 0 none_yet (given w.head script ps) w.head.buckets registry binding bucket (starting w.head place) w.table w.health).seen in
    rw (append-nil ps, ← (settled_handed w.head.boot ps m.0.outcome []))
    (retry_consumed w.head script attempt_limit 0 none_yet ps w.head.buckets registry binding bucket (starting w.head place) w.table w.health)
past_checks_consumed w (release_all_has script place leases) =
    let ls = holds_of leases in
    rw (take_all (lease_count leases) ls (omega (arith, holds_few leases)))
    at (back_consumed w.head script (lease_count leases) [] ls (starting w.head place) w.table w.health (omega (arith, words_leases leases)))
past_checks_consumed w (acquire_locks_has registry script place held keys grants) =
    let ps = holds_of held in
    let m = (locks_of (count_in keys) 0 (given w.head script ps) w.head.buckets w.head.boot registry keys [] (starting w.head place) w.table w.health grants).seen in
    rw (← (granted_handed ps m.0.answer m.1.1.1))
    (locks_consumed w.head script ps w.head.buckets w.head.boot registry keys grants (count_in keys) 0 [] (starting w.head place) w.table w.health)
past_checks_consumed w (acquire_sorted_has registry script place held keys grants) =
    let ps = holds_of held in
    let m = (sorted_locks w registry script place held keys grants).seen in
    judged_at (Consumes Any w (acquire_sorted_has registry script place held keys grants)) (first_key (count_in keys) 0 w.head registry keys) (λ r p _. at_rest)
    (λ _.
    rw (sorted_handed w registry script place held keys grants, ← (granted_handed ps m.0.answer m.1.1.1))
    (locks_consumed w.head script ps w.head.buckets w.head.boot registry (sorted_keys w.head.buckets registry keys) grants (length (cells_sorted w.head.buckets registry keys)) 0 [] (starting w.head place) w.table w.health))

pub script_consumed : ScriptConsumed perform
script_consumed w k s fine = lawfully {Own = Any} (rw (made_so w k fine) (past_checks_consumed w s)) (lawful_always w k).0
