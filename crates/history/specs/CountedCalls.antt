-- The counts of each call's reply are the numbers of such events in its log.
use Rattle.std.specs.Prelude.{ℕ, ◌+◌, ◌≡◌, refl, List, [], ◌∷◌, length}
use Rattle.std.proofs.Common.{arith}
use Rattle.model.specs.Log.{Made, by_caller, attempt_begun, released}
use Rattle.model.specs.Arena.{holds_of, set_cell}
use Rattle.model.specs.Foreign.{flow_of}
use Rattle.model.specs.Lock.{attempt_limit, none_yet}
use Rattle.model.specs.Checks.{count_in, lease_count}
use Rattle.model.specs.Calls.{counts_of, starting, acquire_of}
use Rattle.model.specs.Sorted.{cells_sorted, sorted_keys, first_key}
use Rattle.types.specs.declared.Counts.{Counts}
use Rattle.types.specs.declared.Head.{Head}
use Rattle.history.specs.World.{World, number_of_lem, attempts, boundaries, yields, drops}
use Rattle.history.specs.Items.{Call, Says, try_acquire, drop_lease, read_permission, competing_acquire, release_then_handoff, foreign_release, drop_preserving, acquire_preserving, environment, try_lock, transactional, acquire_bucket, release_all, acquire_locks, acquire_sorted, crew, crew_at_work, IsCrew, perform}
use Rattle.history.specs.Statements.{CountsAre}
use Rattle.history.specs.Judged.{judged_at, acting, past_checks, performed}
use Rattle.history.specs.Counted.{Counted, then_counted, none_counted, boundary_counted, take_counted, lock_counted, attempt_counted, retry_counted, back_counted, locks_counted}

abbrev nothing : Counts
nothing = counts_of 0 0 0 0

-- attempt n of a call by cell
acquire_counted : (b n : ℕ) (h : Head) (t : List ℕ) (c : ℕ) → n ≡ b + 1 → Counted (counts_of b 0 0 0) (counts_of n 0 0 0) (acquire_of n h t c).log
unfolding acquire_of number_of_lem
acquire_counted b n h t c e =
    then_counted {q = counts_of n 0 0 0} {xs = attempt_begun ∷ []} (omega arith) (then_counted (take_counted (counts_of n 0 0 0) h.next t c) (none_counted _))

release_counted : (p : Counts) (c s : ℕ) → Counted p p (released by_caller c s ∷ [])
unfolding number_of_lem
release_counted p c s = omega arith

past_checks_counted : (w : World) (k : Call) → (IsCrew k → ⊥) → Counted nothing (past_checks w k).seen.1.counts (past_checks w k).log
unfolding acquire_of number_of_lem
past_checks_counted w (try_acquire c) _ = acquire_counted 0 1 w.head w.table c refl
past_checks_counted w (drop_lease l) _ = release_counted nothing l.cell l.serial
past_checks_counted w (read_permission l) _ = none_counted nothing
past_checks_counted w (competing_acquire l) _ = acquire_counted 0 1 w.head w.table l.cell refl
past_checks_counted w (release_then_handoff l) _ =
    then_counted (release_counted nothing l.cell l.serial) (acquire_counted 0 1 w.head (set_cell w.table l.cell 0 0) l.cell refl)
past_checks_counted w (foreign_release held l) _ =
    let m = (acquire_of 1 w.head w.table l.cell).seen in
    then_counted (acquire_counted 0 1 w.head w.table l.cell refl)
    (then_counted (release_counted (counts_of 1 0 0 0) l.cell l.serial) (acquire_counted 1 2 m.0.head (set_cell m.1 l.cell 0 0) l.cell refl))
past_checks_counted w (drop_preserving held l) _ = release_counted nothing l.cell l.serial
past_checks_counted w (acquire_preserving held c) _ = acquire_counted 0 1 w.head w.table c refl
past_checks_counted w (environment script place held) _ =
    boundary_counted (acting w (environment script place held)) (flow_of w.head.next place 0) w.table w.health 0 0 1 0 refl
past_checks_counted w (try_lock script place held c) _ =
    let k = lock_counted 1 0 0 (acting w (try_lock script place held c)) w.head.buckets (flow_of w.head.next place 0) w.table w.health c in
    omega arith
past_checks_counted w (transactional registry script place held binding bucket) _ =
    let k = transactional registry script place held binding bucket in
    attempt_counted (acting w k) w.head.buckets registry binding bucket (starting w.head place) w.table w.health
past_checks_counted w (acquire_bucket registry script place held binding bucket) _ =
    let k = acquire_bucket registry script place held binding bucket in
    retry_counted (acting w k) w.head.buckets registry binding bucket attempt_limit 0 none_yet (starting w.head place) w.table w.health
past_checks_counted w (release_all script place leases) _ =
    back_counted (lease_count leases) (acting w (release_all script place leases)) (holds_of leases) (starting w.head place) w.table w.health
past_checks_counted w (acquire_locks registry script place held keys grants) _ =
    let k = acquire_locks registry script place held keys grants in
    locks_counted (acting w k) w.head.buckets w.head.boot registry keys grants (count_in keys) 0 [] (starting w.head place) w.table w.health
past_checks_counted w (acquire_sorted registry script place held keys grants) _ =
    let k = acquire_sorted registry script place held keys grants in
    judged_at (λ (m : Made (World × Says)). Counted nothing m.seen.1.counts m.log) (first_key (count_in keys) 0 w.head registry keys) (λ r p _. none_counted nothing)
    (λ _.
    locks_counted (acting w k) w.head.buckets w.head.boot registry (sorted_keys w.head.buckets registry keys) grants (length (cells_sorted w.head.buckets registry keys)) 0 [] (starting w.head place) w.table w.health)
past_checks_counted w (crew counts cells turns) n = absurd (n tt)
past_checks_counted w (crew_at_work counts cells turns counters) n = absurd (n tt)

-- counts that began at nothing are the numbers
abbrev Fair : Made (World × Says) → Type 0
Fair m = m.seen.1.counts ≡ counts_of (number_of_lem attempts m.log) (number_of_lem boundaries m.log) (number_of_lem yields m.log) (number_of_lem drops m.log)

fair : (m : Made (World × Says)) → Counted nothing m.seen.1.counts m.log → Fair m
fair m k =
    let q = m.seen.1.counts in
    let a : q.attempts ≡ number_of_lem attempts m.log = omega arith in
    let b : q.boundaries ≡ number_of_lem boundaries m.log = omega arith in
    let y : q.yields ≡ number_of_lem yields m.log = omega arith in
    let d : q.dropped ≡ number_of_lem drops m.log = omega arith in
    rw (← a, ← b, ← y, ← d)

pub calls_counted : CountsAre perform
unfolding number_of_lem
calls_counted w k n = performed Fair w k (λ r. refl) (λ _. fair (past_checks w k) (past_checks_counted w k n))
