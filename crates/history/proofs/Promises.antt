-- From promise to demand: a result and lent runs that meet a call's promise are what `perform` gives for that call. So what a theorem says of
-- `perform`, it says of them. Each premise is the equation of the code's promise, word for word: `w` is the head, table and health that the call
-- was given, and what stands left of `≡` is what it hands back.
use Rattle.std.specs.Prelude.{ℕ, ◌≡◌, refl, List, [], ◌∷◌, ◌++◌}
use Rattle.std.proofs.Common.{sym, subst}
use Rattle.std.proofs.Math.Path.{ap}
use Rattle.model.specs.Log.{Event, by_caller, took}
use Rattle.model.specs.Arena.{hold_in}
use Rattle.model.specs.Calls.{counts_of, prepare_of, try_acquire_of, drop_lease_of, read_permission_of, competing_acquire_of, release_then_handoff_of, foreign_release_of, acquire_preserving_of, drop_preserving_of, environment_of, try_lock_of, transactional_of, acquire_bucket_of, release_all_of, acquire_locks_of}
use Rattle.model.specs.Sorted.{acquire_sorted_of}
use Rattle.model.specs.Crew.{crew_of, crew_at_work_of}
use Rattle.model.specs.Salvage.{Salvage, salvage_of}
use Rattle.types.specs.declared.Answer.TheVariants.{Granted}
use Rattle.types.specs.declared.CrewReply.{CrewReply}
use Rattle.types.specs.declared.Head.{Head}
use Rattle.types.specs.declared.Lease.{Lease}
use Rattle.types.specs.declared.ScriptReply.{ScriptReply}
use Rattle.types.specs.declared.Reply.{Reply}
use Rattle.history.specs.World.{World, world_of, now}
use Rattle.history.specs.Items.{Call, Says, says, try_acquire, drop_lease, read_permission, competing_acquire, release_then_handoff, foreign_release, drop_preserving, acquire_preserving, environment, try_lock, transactional, acquire_bucket, release_all, acquire_locks, acquire_sorted, crew, perform, preparing, crew_at_work, salvaging}
use Rattle.history.specs.Statements.{HandsOver, log_of}
use Rattle.history.proofs.HandedCalls.{calls_hand_over}
use Rattle.history.specs.Promises.{Performs, of_reply, of_reading, of_script_reply, of_locks, of_crew, of_crew_at_work}

module _ (w : World) where
  module _ (o : Reply × List ℕ) where
    pub try_acquire_performs : (c : ℕ) → o ≡ (try_acquire_of w.head w.table c).seen → Performs w (try_acquire c) (of_reply w o)
    unfolding perform
    try_acquire_performs c p = ap (of_reply w) p

    pub drop_lease_performs : (l : Lease) → o ≡ (drop_lease_of w.head w.table l).seen → Performs w (drop_lease l) (of_reply w o)
    unfolding perform
    drop_lease_performs l p = ap (of_reply w) p

    pub competing_acquire_performs : (l : Lease) → o ≡ (competing_acquire_of w.head w.table l).seen → Performs w (competing_acquire l) (of_reply w o)
    unfolding perform
    competing_acquire_performs l p = ap (of_reply w) p

    pub release_then_handoff_performs : (l : Lease) → o ≡ (release_then_handoff_of w.head w.table l).seen → Performs w (release_then_handoff l) (of_reply w o)
    unfolding perform
    release_then_handoff_performs l p = ap (of_reply w) p

    pub foreign_release_performs : (held : List ℕ) (l : Lease) → o ≡ (foreign_release_of w.head w.table held l).seen → Performs w (foreign_release held l) (of_reply w o)
    unfolding perform
    foreign_release_performs held l p = ap (of_reply w) p

    pub acquire_preserving_performs : (held : List ℕ) (c : ℕ) → o ≡ (acquire_preserving_of w.head w.table held c).seen → Performs w (acquire_preserving held c) (of_reply w o)
    unfolding perform
    acquire_preserving_performs held c p = ap (of_reply w) p

    pub drop_preserving_performs : (held : List ℕ) (l : Lease) → o ≡ (drop_preserving_of w.head w.table held l).seen → Performs w (drop_preserving held l) (of_reply w o)
    unfolding perform
    drop_preserving_performs held l p = ap (of_reply w) p

  pub read_permission_performs : (o : Reply) (l : Lease) → o ≡ (read_permission_of w.head w.table l).seen → Performs w (read_permission l) (of_reading w o)
  unfolding perform
  read_permission_performs o l p = ap (of_reading w) p

  module _ (o : ScriptReply × (List ℕ × List ℕ)) (script : List ℕ) (place : ℕ) where
    pub environment_performs : (held : List ℕ) → o ≡ (environment_of w.head w.table w.health script place held).seen → Performs w (environment script place held) (of_script_reply o)
    unfolding perform
    environment_performs held p = ap of_script_reply p

    pub try_lock_performs : (held : List ℕ) (c : ℕ) → o ≡ (try_lock_of w.head w.table w.health script place held c).seen → Performs w (try_lock script place held c) (of_script_reply o)
    unfolding perform
    try_lock_performs held c p = ap of_script_reply p

    pub transactional_performs : (registry held : List ℕ) (binding bucket : ℕ) → o ≡ (transactional_of w.head w.table w.health registry script place held binding bucket).seen
        → Performs w (transactional registry script place held binding bucket) (of_script_reply o)
    unfolding perform
    transactional_performs registry held binding bucket p = ap of_script_reply p

    pub acquire_bucket_performs : (registry held : List ℕ) (binding bucket : ℕ) → o ≡ (acquire_bucket_of w.head w.table w.health registry script place held binding bucket).seen
        → Performs w (acquire_bucket registry script place held binding bucket) (of_script_reply o)
    unfolding perform
    acquire_bucket_performs registry held binding bucket p = ap of_script_reply p

    pub release_all_performs : (leases : List ℕ) → o ≡ (release_all_of w.head w.table w.health script place leases).seen → Performs w (release_all script place leases) (of_script_reply o)
    unfolding perform
    release_all_performs leases p = ap of_script_reply p

  pub acquire_locks_performs : (o : ScriptReply × (List ℕ × (List ℕ × List ℕ))) (registry script : List ℕ) (place : ℕ) (held keys grants : List ℕ)
      → o ≡ (acquire_locks_of w.head w.table w.health registry script place held keys grants).seen
      → Performs w (acquire_locks registry script place held keys grants) (of_locks o)
  unfolding perform
  acquire_locks_performs o registry script place held keys grants p = ap of_locks p

  pub acquire_sorted_performs : (o : ScriptReply × (List ℕ × (List ℕ × List ℕ))) (registry script : List ℕ) (place : ℕ) (held keys grants : List ℕ)
      → o ≡ (acquire_sorted_of w.head w.table w.health registry script place held keys grants).seen
      → Performs w (acquire_sorted registry script place held keys grants) (of_locks o)
  unfolding perform
  acquire_sorted_performs o registry script place held keys grants p = ap of_locks p

  pub crew_performs : (o : CrewReply × List ℕ) (counts cells turns : List ℕ)
      → o ≡ (crew_of w.head w.table w.health counts cells turns).seen → Performs w (crew counts cells turns) (of_crew w o)
  unfolding perform
  crew_performs o counts cells turns p = ap (of_crew w) p

  pub crew_at_work_performs : (o : CrewReply × (List ℕ × List ℕ)) (counts cells turns counters : List ℕ)
      → o ≡ (crew_at_work_of w.head w.table w.health counts cells turns counters).seen → Performs w (crew_at_work counts cells turns counters) (of_crew_at_work w o)
  unfolding perform
  crew_at_work_performs o counts cells turns counters p = ap (of_crew_at_work w) p

pub prepare_performs : (o : Reply × (List ℕ × List ℕ)) (headers buckets serial boot : ℕ) (t g : List ℕ) → o ≡ (prepare_of headers buckets serial boot t g).seen
    → (o.0.answer, world_of o.0.head o.1.0 o.1.1) ≡ preparing headers buckets serial boot t g
unfolding preparing
prepare_performs o headers buckets serial boot t g p = ap (λ (x : Reply × (List ℕ × List ℕ)). (x.0.answer, world_of x.0.head x.1.0 x.1.1)) p

pub salvage_performs : (o : Salvage) (h : Head) (t g report list : List ℕ) → o ≡ salvage_of h t g report list
    → (o.0.answer, world_of o.0.head o.1.0 o.1.1.0) ≡ salvaging h t g report list
unfolding salvaging
salvage_performs o h t g report list p = ap (λ (x : Salvage). (x.0.answer, world_of x.0.head x.1.0 x.1.1.0)) p

-- ---- an example of the way from there: a theorem on `perform` becomes one on the result of the code

-- a `try_lock` that meets its promise and answers `Granted l` took l, with the serial that was next then
pub granted_was_taken : (w : World) (o : ScriptReply × (List ℕ × List ℕ)) (script : List ℕ) (place : ℕ) (held : List ℕ) (c : ℕ) (l : Lease)
    → o ≡ (try_lock_of w.head w.table w.health script place held c).seen → o.0.answer ≡ Granted l
    → (before after : List Event) × (log_of w (try_lock script place held c) ≡ before ++ (took by_caller l.cell l.serial ∷ after)) × (l.serial ≡ (now w before).head.next)
granted_was_taken w o script place held c l p a =
    let k = try_lock script place held c in
    let said = try_lock_performs w o script place held c p in
    let gives : HandsOver o.0.answer [] (hold_in l) = subst (λ x. HandsOver x [] (hold_in l)) (sym a) refl in
    calls_hand_over w k (hold_in l) (subst (λ (x : World × Says). HandsOver x.1.answer x.1.grants (hold_in l)) said gives)
