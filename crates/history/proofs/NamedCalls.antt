-- Every release in a call's log is one that the call or a step of its script named.
-- ---- leases in a list
use Prim.Native.Nat.{ℕ, ◌<◌}
use Rattle.std.specs.Prelude.{◌≡◌, true, ◌&&◌, ltb, eqb, length}
use Rattle.std.proofs.Math.Path.{refl}
use Rattle.std.proofs.Common.{subst, arith}
use mathlib.Core.List.{List, [], ◌∷◌, ◌++◌}
use Rattle.std.proofs.Math.Bool.{not}
use Rattle.std.proofs.Math.Dec.{leb}
use Rattle.std.proofs.Math.Seq.{take-length}
use borrow.Author.Tests.{eqb-true}
use Rattle.history.proofs.Crew.{crew_plan, crew_at_work_plan}
use Rattle.model.specs.Crew.{rests, adds}
use Rattle.model.specs.Log.{Made, Actor, Event, by_script, attempt_begun, boundary_run, yielded, spun, step_dropped, took, released, waiters_set, health_set, held_all_lem, added}
use Rattle.model.specs.Arena.{hold_in, hold_of, holds_of, is_in, set_cell, serial_remains, bit_at, owner_at, is_free, is_live}
use Rattle.model.specs.Foreign.{Setting, flow_of, step_take_of, step_release_of, step_waiters_of, step_health_of, step_of}
use Rattle.model.specs.Lock.{no_hold, hold_at, attempt_limit, none_yet}
use Rattle.model.specs.Checks.{count_in, lease_count}
use Rattle.model.specs.Calls.{given, starting, acquire_of}
use Rattle.model.specs.Sorted.{cells_sorted, sorted_keys, first_key}
use Rattle.types.specs.declared.Head.{Head}
use Rattle.types.specs.declared.Hold.{Hold}
use Rattle.types.specs.declared.Stepped.{Stepped}
use Rattle.choice.specs.Pick.{if_both}
use Rattle.history.specs.World.{World}
use Rattle.history.specs.Items.{Call, Says, try_acquire, drop_lease, read_permission, competing_acquire, release_then_handoff, foreign_release, drop_preserving, acquire_preserving, environment, try_lock, transactional, acquire_bucket, release_all, acquire_locks, acquire_sorted, crew, crew_at_work, script_of, place_of, given_up, foreign, perform, Clear, rules}
use Rattle.history.specs.Statements.{log_of, Named, NamedAlone}
use Rattle.history.specs.Tests.{in_take, if_cases}
use Rattle.history.specs.Judged.{judged_at, acting, past_checks, performed}
use Rattle.history.proofs.Calls.{words_leases}
use Rattle.history.specs.Naming.{Leases, Accounted, any, none, more, andthen, accounted, handed, and_took, at_script, at_caller, boundary_accounted, take_accounted, lock_accounted, attempt_accounted, retry_accounted, back_accounted, locks_accounted}
use Rattle.history.proofs.NamingCrew.{crew_accounted}
use Rattle.history.specs.NamedCalls.{Mine, Right}

in_at : (ls : List Hold) (i : ℕ) → i < length ls → is_in (hold_at ls i) ls ≡ true
in_at ls i h = rw (take-length ls) at (in_take ls (length ls) i no_hold h h)

acquire_accounted : (n : ℕ) (h : Head) (t : List ℕ) (c : ℕ) (A : Leases) → Accounted [] 0 A (acquire_of n h t c).log any
unfolding acquire_of
acquire_accounted n h t c A = more tt (handed (take_accounted [] 0 (and_took A attempt_begun) h.next t c))

past_checks_accounted : (w : World) (k : Call) → Clear (rules w k) → Accounted (script_of k) (place_of k) (Mine k) (past_checks w k).log any
past_checks_accounted w (try_acquire c) _ = acquire_accounted 1 w.head w.table c _
past_checks_accounted w (drop_lease l) _ = more (in_at (hold_in l ∷ []) 0 (omega arith)) (none tt)
past_checks_accounted w (read_permission l) _ = none tt
past_checks_accounted w (competing_acquire l) _ = acquire_accounted 1 w.head w.table l.cell _
past_checks_accounted w (release_then_handoff l) _ = more (in_at (hold_in l ∷ []) 0 (omega arith)) (acquire_accounted 1 w.head (set_cell w.table l.cell 0 0) l.cell _)
past_checks_accounted w (foreign_release held l) _ =
    let m = (acquire_of 1 w.head w.table l.cell).seen in
    andthen (acquire_accounted 1 w.head w.table l.cell _)
    (λ B i _. more (i _ _ (in_at (hold_in l ∷ []) 0 (omega arith))) (acquire_accounted 2 m.0.head (set_cell m.1 l.cell 0 0) l.cell _))
past_checks_accounted w (drop_preserving held l) _ = more (in_at (hold_in l ∷ []) 0 (omega arith)) (none tt)
past_checks_accounted w (acquire_preserving held c) _ = acquire_accounted 1 w.head w.table c _
past_checks_accounted w (environment script place held) _ =
    accounted (boundary_accounted (acting w (environment script place held)) place (flow_of w.head.next place 0) w.table w.health _ (omega arith))
past_checks_accounted w (try_lock script place held c) _ =
    more tt (accounted (lock_accounted (acting w (try_lock script place held c)) w.head.buckets place (flow_of w.head.next place 0) w.table w.health c _ (omega arith)))
past_checks_accounted w (transactional registry script place held binding bucket) _ =
    let k = transactional registry script place held binding bucket in
    accounted (attempt_accounted (acting w k) place w.head.buckets registry binding bucket (starting w.head place) w.table w.health (Mine k) (omega arith))
past_checks_accounted w (acquire_bucket registry script place held binding bucket) _ =
    let k = acquire_bucket registry script place held binding bucket in
    accounted (retry_accounted (acting w k) place w.head.buckets registry binding bucket attempt_limit 0 none_yet (starting w.head place) w.table w.health (Mine k) (omega arith))
past_checks_accounted w (release_all script place leases) _ =
    back_accounted (lease_count leases) (acting w (release_all script place leases)) place (holds_of leases) (starting w.head place) w.table w.health _ (omega arith)
    (λ i h. in_at (holds_of leases) i (omega (arith, words_leases leases)))
past_checks_accounted w (acquire_locks registry script place held keys grants) _ =
    let k = acquire_locks registry script place held keys grants in
    locks_accounted (acting w k) place w.head.buckets w.head.boot registry keys grants (count_in keys) 0 [] (starting w.head place) w.table w.health (Mine k) (omega arith)
    (λ i h. absurd (omega arith))
past_checks_accounted w (acquire_sorted registry script place held keys grants) _ =
    let k = acquire_sorted registry script place held keys grants in
    judged_at (λ (m : Made (World × Says)). Accounted script place (Mine k) m.log any) (first_key (count_in keys) 0 w.head registry keys) (λ r p _. none tt)
    (λ _.
    locks_accounted (acting w k) place w.head.buckets w.head.boot registry (sorted_keys w.head.buckets registry keys) grants (length (cells_sorted w.head.buckets registry keys)) 0 [] (starting w.head place) w.table w.health (Mine k) (omega arith)
    (λ i h. absurd (omega arith)))
past_checks_accounted w (crew counts cells turns) fine = crew_accounted rests w counts cells turns [] (Mine (crew counts cells turns)) (crew_plan _ _ _ counts cells turns fine)
past_checks_accounted w (crew_at_work counts cells turns counters) fine =
    crew_accounted adds w counts cells turns counters (Mine (crew_at_work counts cells turns counters)) (crew_at_work_plan _ _ _ counts cells turns counters fine)

call_accounted : (w : World) (k : Call) → Accounted (script_of k) (place_of k) (Mine k) (log_of w k) any
call_accounted w k = performed (λ m. Accounted (script_of k) (place_of k) (Mine k) m.log any) w k (λ r. none tt) (past_checks_accounted w k)

pub calls_named : Named perform
calls_named w k c s before after = (λ e. at_script c s (call_accounted w k) before after e, λ e. at_caller c s (call_accounted w k) before after e)

module _ (kind place number : ℕ) where
  -- every release of the log is right
  abbrev Alone : List Event → Type 0
  Alone es = (c s : ℕ) (a : Actor) (before after : List Event) → es ≡ before ++ (released a c s ∷ after) → Right kind place number (released a c s)

  empty : Alone []
  empty c s a [] after q = let z : ◌≡◌ {A = ℕ} 0 1 = cc in absurd (omega arith)
  empty c s a (x ∷ xs) after q = let z : ◌≡◌ {A = ℕ} 0 1 = cc in absurd (omega arith)

  lone : (e : Event) → Right kind place number e → Alone (e ∷ [])
  lone e r c s a [] after q = let p : e ≡ released a c s = cc in subst (Right kind place number) p r
  lone e r c s a (x ∷ xs) after q = let p : [] ≡ xs ++ (released a c s ∷ after) = cc in empty c s a xs after p

  step_alone : (e : Setting) (n : ℕ) (t g : List ℕ) → Alone ((step_of e n t g kind place number).log ++ [])
  unfolding step_of step_take_of step_release_of step_waiters_of step_health_of
  step_alone e n t g =
      let Step : Made (Stepped × (List ℕ × List ℕ)) → Type 0 = λ m. Alone (m.log ++ []) in
      let Lone : Made (Stepped × List ℕ) → Type 0 = λ m. Alone ((m.log ++ []) ++ []) in
      if_both Step (eqb kind 0) empty (
      if_both Step (eqb kind 1) (if_both Lone (ltb place e.cells && is_free (bit_at t place) (owner_at t place) && serial_remains n) (lone _ tt) (lone _ tt)) (
      if_cases Step (eqb kind 2)
      (λ two. if_both Lone (is_live n e.cells t (hold_of place number) && not (is_in (hold_of place number) e.protected)) (lone _ (refl, eqb-true kind 2 two, refl, refl)) (lone _ tt)) (λ _.
      if_both Step (eqb kind 3) (if_both Lone (ltb place e.cells) (lone _ tt) (lone _ tt)) (
      if_both Step (eqb kind 4) (if_both Lone (ltb place e.headers && leb number 1) (lone _ tt) (lone _ tt)) (
      if_both Step (eqb kind 5) empty (lone _ tt))))))

pub steps_named : NamedAlone foreign
unfolding foreign
steps_named w kind place number c s a before after e =
    step_alone kind place number (given w.head [] []) w.head.next w.table w.health c s a before after e
