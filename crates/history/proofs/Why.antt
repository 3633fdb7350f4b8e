-- Why it is Busy: what one attempt saw, by a table of its endings, and the reasons read off it.
use Rattle.std.specs.Prelude.{ℕ, ◌≡◌, Bool, get_or, if◌then◌else◌, Ok, Err}
use Rattle.std.proofs.Math.Path.{refl}
use Rattle.std.proofs.Common.{sym, ap, ◌∙◌, arith, zero-add}
use mathlib.Core.List.{List, [], ◌∷◌, ◌++◌, append-nil, append_assoc}
use Rattle.std.proofs.Math.Bool.{true, false, not}
use Rattle.std.proofs.Math.Dec.{eqb}
use Rattle.types.specs.Checks.{Found}
use borrow.Author.Tests.{eqb-true, eqb-false}
use Rattle.choice.specs.Pick.{if_both}
use Rattle.model.specs.Log.{Made, Event, by_caller, attempt_begun, took, released, gives}
use Rattle.model.specs.Arena.{lease_of, serial_remains, header_of, hold_of, waiters_at, state_at}
use Rattle.model.specs.Foreign.{Setting, protecting, flow_of, boundary_of}
use Rattle.model.specs.Lock.{take_in, take_of, locked_of, give_up_of, late_stage_of, after_take, second_stage_of, lock_of, answer_of, find_of, attempt_at, attempt_of}
use Rattle.model.specs.Calls.{starting}
use Rattle.types.specs.declared.Answer.{Answer}
use Rattle.types.specs.declared.Answer.TheVariants.{Granted, Busy, Refused}
use Rattle.types.specs.declared.Flow.{Flow}
use Rattle.types.specs.declared.Locked.{Locked}
use Rattle.types.specs.declared.Outcome.TheVariants as outcome
use Rattle.types.specs.declared.Reason.TheVariants.{Held, Before, After}
use Rattle.types.specs.declared.Refusal.{Refusal}
use Rattle.types.specs.declared.Refusal.TheVariants as refusal
use Rattle.types.specs.declared.Run.{Run}
use Rattle.types.specs.declared.State.{State}
use Rattle.types.specs.declared.State.TheVariants as state
use Rattle.types.specs.declared.Took.{Took}
use Rattle.laws.specs.Words.{waiters_set_cell}
use Rattle.history.specs.World.{World, caller_releases}
use Rattle.history.specs.Items.{Call, try_acquire, drop_lease, read_permission, competing_acquire, release_then_handoff, foreign_release, drop_preserving, acquire_preserving, environment, try_lock, transactional, acquire_bucket, release_all, acquire_locks, acquire_sorted, crew, crew_at_work, cell_of, asked, perform, Says}
use Rattle.history.specs.Statements.{answer_in, world_in}
use Rattle.history.specs.Steps.{With}
use Rattle.history.specs.Rollback.{Foreigner}
use Rattle.history.proofs.Rollback.{Every, end, also, every_append, boundary_foreign, still_then}
use Rattle.history.specs.Judged.{acting, performed}
use Rattle.history.specs.ByKey.{FoundAt}
use Rattle.history.proofs.ByKey.{found_own}
use Rattle.history.specs.Reasons.{boundaries_in, LocksOnce}

-- ---- how an attempt on cell c ends, by what it answers, its boundaries and its log, the next serial and the runs that it leaves

pub data Looks (buckets c : ℕ) (a : Answer) (boundaries : ℕ) (log : List Event) (next : ℕ) (t g : List ℕ) : Type 0 where
  -- refused before the first boundary
  unlooked : (r : Refusal) → a ≡ Refused r → boundaries ≡ 0 → Every Foreigner log → Looks buckets c a boundaries log next t g
  waited : a ≡ Busy Before → boundaries ≡ 1 → Every Foreigner log → (waiters_at t c ≡ 0 → ⊥) → Looks buckets c a boundaries log next t g
  holder : (s : ℕ) → a ≡ Busy (Held s) → boundaries ≡ 2 → Every Foreigner log → state_at next t c ≡ state.Held s → Looks buckets c a boundaries log next t g
  stopped : (r : Refusal) → a ≡ Refused r → boundaries ≡ 2 → Every Foreigner log → ((s : ℕ) → state_at next t c ≡ state.Held s → ⊥)
      → Looks buckets c a boundaries log next t g
  granted : (s boot : ℕ) → a ≡ Granted (lease_of c s boot) → boundaries ≡ 3 → caller_releases log ≡ [] → Looks buckets c a boundaries log next t g
  -- taken, and given up: late, or poisoned
  late : (s : ℕ) (x y : List Event) → a ≡ Busy (After s) → boundaries ≡ 3 → log ≡ x ++ (took by_caller c s ∷ (y ++ (released by_caller c s ∷ [])))
      → get_or g (header_of buckets c) 0 ≡ 0 → (waiters_at t c ≡ 0 → ⊥) → Looks buckets c a boundaries log next t g
  poisoned : (s : ℕ) (x y : List Event) (r : Refusal) → a ≡ Refused r → boundaries ≡ 3 → log ≡ x ++ (took by_caller c s ∷ (y ++ (released by_caller c s ∷ [])))
      → (get_or g (header_of buckets c) 0 ≡ 0 → ⊥) → Looks buckets c a boundaries log next t g

-- behind events in which the caller does nothing
behind : {buckets c : ℕ} {a : Answer} {b : ℕ} {xs : List Event} (log : List Event) {next : ℕ} {t g : List ℕ}
    → Every Foreigner xs → Looks buckets c a b log next t g → Looks buckets c a b (xs ++ log) next t g
behind log f (unlooked r e n h) = unlooked r e n (every_append f h)
behind log f (waited e n h w) = waited e n (every_append f h) w
behind log f (holder s e n h w) = holder s e n (every_append f h) w
behind log f (stopped r e n h w) = stopped r e n (every_append f h) w
behind log f (granted s boot e n h) = granted s boot e n (still_then log f ∙ h)
behind {xs = xs} log f (late s x y e n p h w) = late s (xs ++ x) y e n (ap (λ (l : List Event). xs ++ l) p ∙ sym (append_assoc xs x _)) h w
behind {xs = xs} log f (poisoned s x y r e n p h) = poisoned s (xs ++ x) y r e n (ap (λ (l : List Event). xs ++ l) p ∙ sym (append_assoc xs x _)) h

-- of a lock
abbrev Locking : ℕ → ℕ → ℕ → Made (With Locked) → Type 0
Locking buckets boot c m = Looks buckets c (answer_of boot m.seen.0.answer) m.seen.0.boundaries m.log m.seen.0.flow.next m.seen.1.0 m.seen.1.1

module _ (e : Setting) (buckets boot c : ℕ) where
  -- the lease (c, s) is taken
  late_looks : (f : Flow) (t g : List ℕ) (s : ℕ) → let m = late_stage_of e buckets f t g c s in Locking buckets boot c (record { seen = m.seen; log = took by_caller c s ∷ m.log })
  unfolding late_stage_of caller_releases
  late_looks f t g s =
      let q = protecting e (hold_of c s ∷ []) in
      let b = boundary_of q f t g in
      go b.log (boundary_foreign q f t g) b.seen.0 b.seen.1.0 b.seen.1.1 (eqb (get_or b.seen.1.1 (header_of buckets c) 0) 0) refl (eqb (waiters_at b.seen.1.0 c) 0) refl
    where
      go : (log : List Event) → Every Foreigner log → (k : Flow) (u w : List ℕ) (x : Bool) → eqb (get_or w (header_of buckets c) 0) 0 ≡ x → (y : Bool) → eqb (waiters_at u c) 0 ≡ y
          → let m = if not x then give_up_of (outcome.Refused (refusal.Poisoned (header_of buckets c))) k u w c s else if y then gives (locked_of k 3 (outcome.Granted (hold_of c s)), (u, w)) else give_up_of (outcome.Busy (After s)) k u w c s in
          Locking buckets boot c (record { seen = m.seen; log = took by_caller c s ∷ (log ++ m.log) })
      go log f k u w false p y q = poisoned s [] log _ refl refl refl (eqb-false _ _ p)
      go log f k u w true p true q = granted s boot refl refl (still_then [] f)
      go log f k u w true p false q = late s [] log refl refl refl (eqb-true _ _ p) (λ z. eqb-false _ _ q (sym (waiters_set_cell u c 0 0 c) ∙ z))

  -- the compare-and-set, by the cell's state, and what comes of it
  take_looks : (x : State) (n place dropped : ℕ) (t g : List ℕ) → state_at n t c ≡ x
      → let k = take_in x n t c in
      let m = after_take k.seen.0.answer e buckets (flow_of k.seen.0.next place dropped) k.seen.1 g c in
      Locking buckets boot c (record { seen = m.seen; log = k.log ++ m.log })
  take_looks state.Damaged n place dropped t g q = stopped _ refl refl end (λ s h. let z : state.Damaged ≡ state.Held s = sym q ∙ h in let y : ◌≡◌ {A = ℕ} 0 1 = cc in absurd (omega arith))
  take_looks (state.Held o) n place dropped t g q = holder o refl refl end q
  take_looks state.Free n place dropped t g q =
      if_both (λ (k : Made (Took × List ℕ)). let m = after_take k.seen.0.answer e buckets (flow_of k.seen.0.next place dropped) k.seen.1 g c in Locking buckets boot c (record { seen = m.seen; log = k.log ++ m.log }))
      (serial_remains n) (late_looks _ _ _ n)
      (stopped _ refl refl end (λ s h. let z : state.Free ≡ state.Held s = sym q ∙ h in let y : ◌≡◌ {A = ℕ} 0 1 = cc in absurd (omega arith)))

  lock_looks : (f : Flow) (t g : List ℕ) → Locking buckets boot c (lock_of e buckets f t g c)
  unfolding lock_of second_stage_of take_of
  lock_looks f t g =
      let b = boundary_of e f t g in
      let d = boundary_of e b.seen.0 b.seen.1.0 b.seen.1.1 in
      go (eqb (waiters_at b.seen.1.0 c) 0) refl
      (behind _ (boundary_foreign e f t g) (behind _ (boundary_foreign e b.seen.0 b.seen.1.0 b.seen.1.1)
      (take_looks (state_at d.seen.0.next d.seen.1.0 c) d.seen.0.next d.seen.0.place d.seen.0.dropped d.seen.1.0 d.seen.1.1 refl)))
    where
      go : let b = boundary_of e f t g in
          (x : Bool) → eqb (waiters_at b.seen.1.0 c) 0 ≡ x
          → (let m = second_stage_of e buckets b.seen.0 b.seen.1.0 b.seen.1.1 c in Locking buckets boot c (record { seen = m.seen; log = b.log ++ m.log }))
          → let m = if x then second_stage_of e buckets b.seen.0 b.seen.1.0 b.seen.1.1 c else gives (locked_of b.seen.0 1 (outcome.Busy Before), (b.seen.1.0, b.seen.1.1)) in
          Locking buckets boot c (record { seen = m.seen; log = b.log ++ m.log })
      go true q h = h
      go false q h = behind [] (boundary_foreign e f t g) (waited refl refl end (eqb-false _ _ q))

-- ---- of a call that makes one attempt

abbrev SeenBy : World → ℕ → Made (World × Says) → Type 0
SeenBy w c m = Looks w.head.buckets c (answer_in m) (boundaries_in m) m.log (world_in m).head.next (world_in m).table (world_in m).health

attempt_looks : (e : Setting) (buckets boot : ℕ) (registry : List ℕ) (binding bucket : ℕ) (r : Run) (t g : List ℕ) → r.boundaries ≡ 0
    → let m = attempt_of e buckets registry binding bucket r t g in
    Looks buckets (cell_of buckets registry binding bucket) (answer_of boot m.seen.0.outcome) m.seen.0.run.boundaries m.log m.seen.0.run.flow.next m.seen.1.0 m.seen.1.1
unfolding attempt_of
attempt_looks e buckets boot registry binding bucket r t g z =
    behind _ (also attempt_begun tt end) (go (find_of e.headers buckets g registry binding bucket) (found_own e buckets registry binding bucket g))
  where
    go : (x : Found) → FoundAt (cell_of buckets registry binding bucket) x
        → let m = attempt_at x e buckets r t g in
        Looks buckets (cell_of buckets registry binding bucket) (answer_of boot m.seen.0.outcome) m.seen.0.run.boundaries m.log m.seen.0.run.flow.next m.seen.1.0 m.seen.1.1
    go (Err x) h = unlooked x refl z end
    go (Ok d) h =
        let m = lock_of e buckets r.flow t g d in
        rw (z, zero-add m.seen.0.boundaries, append-nil m.log, ← h) (lock_looks e buckets boot d r.flow t g)

pub call_looks : (w : World) (k : Call) → LocksOnce k → SeenBy w (asked w k) (perform w k)
call_looks w (try_lock script place held c) o =
    let k = try_lock script place held c in
    performed (SeenBy w c) w k (λ r. unlooked r refl refl end)
    (λ fine. behind _ (also attempt_begun tt end) (lock_looks (acting w k) w.head.buckets w.head.boot c (flow_of w.head.next place 0) w.table w.health))
call_looks w (transactional registry script place held binding bucket) o =
    let k = transactional registry script place held binding bucket in
    performed (SeenBy w (asked w k)) w k (λ r. unlooked r refl refl end)
    (λ fine. attempt_looks (acting w k) w.head.buckets w.head.boot registry binding bucket (starting w.head place) w.table w.health refl)
call_looks w (try_acquire c) o = absurd o
call_looks w (drop_lease l) o = absurd o
call_looks w (read_permission l) o = absurd o
call_looks w (competing_acquire l) o = absurd o
call_looks w (release_then_handoff l) o = absurd o
call_looks w (foreign_release held l) o = absurd o
call_looks w (drop_preserving held l) o = absurd o
call_looks w (acquire_preserving held c) o = absurd o
call_looks w (environment script place held) o = absurd o
call_looks w (acquire_bucket registry script place held binding bucket) o = absurd o
call_looks w (release_all script place leases) o = absurd o
call_looks w (acquire_locks registry script place held keys grants) o = absurd o
call_looks w (acquire_sorted registry script place held keys grants) o = absurd o
call_looks w (crew counts cells turns) o = absurd o
call_looks w (crew_at_work counts cells turns counters) o = absurd o
