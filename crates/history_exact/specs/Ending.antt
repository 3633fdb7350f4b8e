-- How one attempt ends: read off the definitions, in any world and with any script.
use Rattle.std.specs.Prelude.{ℕ, ◌≤◌, ◌≡◌, refl, leb, eqb, Ok, Err}
use Rattle.std.proofs.Common.{sym, subst}
use mathlib.Core.List.{List, [], ◌∷◌, ◌++◌, append-nil}
use Rattle.std.proofs.Math.Nat.{zero-add}
use native.Mathlib.Omega.{arith}
use Rattle.std.proofs.Math.ListN.{get_or}
use Rattle.types.specs.Checks.{Found}
use Rattle.model.specs.Log.{Made, Event, by_caller, by_script, attempt_begun, boundary_run, yielded, spun, step_dropped, took, released, waiters_set, health_set, held_all_lem, added}
use Rattle.model.specs.Arena.{serial_remains, header_of, is_poisoned, lease_of, hold_of, holds_of, waiters_at, state_at}
use Rattle.model.specs.Refusals.{number_of}
use Rattle.model.specs.Foreign.{Setting, protecting, flow_of, boundary_of}
use Rattle.model.specs.Lock.{take_in, take_of, late_stage_of, after_take, second_stage_of, lock_of, answer_of, find_of, attempt_at, attempt_of}
use Rattle.model.specs.Calls.{given, starting}
use Rattle.types.specs.declared.Answer.{Answer}
use Rattle.types.specs.declared.Flow.{Flow}
use Rattle.types.specs.declared.Locked.{Locked}
use Rattle.types.specs.declared.Refusal.TheVariants.{Damaged, SerialsSpent}
use Rattle.types.specs.declared.Run.{Run}
use Rattle.types.specs.declared.State.{State}
use Rattle.types.specs.declared.State.TheVariants as state
use Rattle.types.specs.declared.Took.{Took}
use Rattle.choice.specs.Pick.{if_both}
use Rattle.history.specs.Judged.{made_so}
use Rattle.history.specs.World.{caller_releases}
use Rattle.history.specs.Items.{perform, transactional}
use Rattle.history.specs.Steps.{With}
use Rattle.history.specs.Rollback.{Foreigner}
use Rattle.history.proofs.Rollback.{Every, end, also, boundary_foreign, still_then}
use Rattle.history_exact.specs.Attempts.{Ends, Ending, AttemptEnds, caller_takes, no_cell, waited, held, not_takable, poisoned, late, granted}

-- what follows a boundary's log is all that the caller takes
none_then : {xs : List Event} (ys : List Event) → Every Foreigner xs → caller_takes (xs ++ ys) ≡ caller_takes ys
unfolding caller_takes
none_then ys end = refl
none_then ys (also attempt_begun p a) = none_then ys a
none_then ys (also boundary_run p a) = none_then ys a
none_then ys (also yielded p a) = none_then ys a
none_then ys (also spun p a) = none_then ys a
none_then ys (also step_dropped p a) = none_then ys a
none_then ys (also (took by_caller c s) p a) = absurd p
none_then ys (also (took by_script c s) p a) = none_then ys a
none_then ys (also (released x c s) p a) = none_then ys a
none_then ys (also (waiters_set c n) p a) = none_then ys a
none_then ys (also (health_set i n) p a) = none_then ys a
none_then ys (also (held_all_lem m) p a) = none_then ys a
none_then ys (also (added m c v) p a) = none_then ys a

-- an ending, its takes and releases read off a log
abbrev pub EndsBy : Answer → ℕ → List Event → Type 0
EndsBy a boundaries es = Ends a boundaries (caller_takes es) (caller_releases es)

behind : {a : Answer} {n : ℕ} {xs : List Event} (ys : List Event) → Every Foreigner xs → EndsBy a n ys → EndsBy a n (xs ++ ys)
behind ys f k = rw (none_then ys f, still_then ys f) k

-- how a `try_lock` ends
abbrev LocksSo : ℕ → Made (With Locked) → Type 0
LocksSo boot m = EndsBy (answer_of boot m.seen.0.answer) m.seen.0.boundaries m.log

module _ (e : Setting) (buckets boot : ℕ) where
  -- the lease (c, s) is taken: it is granted, or released after the third boundary
  late_ends : (f : Flow) (t g : List ℕ) (c s : ℕ) → let m = late_stage_of e buckets f t g c s in LocksSo boot (record { seen = m.seen; log = took by_caller c s ∷ m.log })
  unfolding late_stage_of caller_takes caller_releases
  late_ends f t g c s =
      let q = protecting e (hold_of c s ∷ []) in
      let b = boundary_of q f t g in
      let still = boundary_foreign q f t g in
      if_both (λ (m : Made (With Locked)). LocksSo boot (record { seen = m.seen; log = took by_caller c s ∷ (b.log ++ m.log) })) (is_poisoned b.seen.1.1 (header_of buckets c))
      (rw (none_then (released by_caller c s ∷ []) still, still_then (released by_caller c s ∷ []) still) (poisoned (hold_of c s) (header_of buckets c)))
      (if_both (λ (m : Made (With Locked)). LocksSo boot (record { seen = m.seen; log = took by_caller c s ∷ (b.log ++ m.log) })) (eqb (waiters_at b.seen.1.0 c) 0)
      (rw (none_then [] still, still_then [] still) (granted (lease_of c s boot)))
      (rw (none_then (released by_caller c s ∷ []) still, still_then (released by_caller c s ∷ []) still) (late (hold_of c s))))

  -- `try_acquire` and what comes of it, by the cell's state
  take_ends : (x : State) (n place dropped : ℕ) (t g : List ℕ) (c : ℕ)
      → let k = take_in x n t c in
      let m = after_take k.seen.0.answer e buckets (flow_of k.seen.0.next place dropped) k.seen.1 g c in
      LocksSo boot (record { seen = m.seen; log = k.log ++ m.log })
  unfolding caller_takes caller_releases
  take_ends state.Damaged n place dropped t g c = not_takable (Damaged c) (omega arith) (omega arith)
  take_ends (state.Held o) n place dropped t g c = held o
  take_ends state.Free n place dropped t g c =
      if_both (λ (k : Made (Took × List ℕ)). let m = after_take k.seen.0.answer e buckets (flow_of k.seen.0.next place dropped) k.seen.1 g c in LocksSo boot (record { seen = m.seen; log = k.log ++ m.log }))
      (serial_remains n) (late_ends _ _ _ c n) (not_takable (SerialsSpent c) (omega arith) (omega arith))

  lock_ends : (f : Flow) (t g : List ℕ) (c : ℕ) → LocksSo boot (lock_of e buckets f t g c)
  unfolding lock_of second_stage_of take_of caller_takes caller_releases
  lock_ends f t g c =
      let b = boundary_of e f t g in
      let m = b.seen in
      let d = boundary_of e m.0 m.1.0 m.1.1 in
      if_both (λ (m : Made (With Locked)). LocksSo boot (record { seen = m.seen; log = b.log ++ m.log })) (eqb (waiters_at m.1.0 c) 0)
      (behind _ (boundary_foreign e f t g) (behind _ (boundary_foreign e m.0 m.1.0 m.1.1)
      (take_ends (state_at d.seen.0.next d.seen.1.0 c) d.seen.0.next d.seen.0.place d.seen.0.dropped d.seen.1.0 d.seen.1.1 c)))
      (behind [] (boundary_foreign e f t g) waited)

-- why a key names no cell
abbrev Faulty : Found → Type 0
Faulty (Err r) = (6 ≤ number_of r) × (number_of r ≤ 8)
Faulty (Ok c) = Unit {0}

module _ (e : Setting) (buckets boot : ℕ) (registry : List ℕ) (binding bucket : ℕ) where
  find_faulty : (g : List ℕ) → Faulty (find_of e.headers buckets g registry binding bucket)
  unfolding find_of
  find_faulty g =
      let header = get_or registry binding 0 in
      if_both Faulty (leb e.headers header) (omega arith, omega arith)
      (if_both Faulty (is_poisoned g header) (omega arith, omega arith)
      (if_both Faulty (leb buckets bucket) (omega arith, omega arith) tt))

  -- from a run that has counted no boundary
  pub tried_ends : (r : Run) (t g : List ℕ) → r.boundaries ≡ 0
      → let m = attempt_of e buckets registry binding bucket r t g in EndsBy (answer_of boot m.seen.0.outcome) m.seen.0.run.boundaries m.log
  unfolding attempt_of caller_takes caller_releases
  tried_ends r t g z = go (find_of e.headers buckets g registry binding bucket) (find_faulty g)
    where
      go : (x : Found) → Faulty x → let m = attempt_at x e buckets r t g in EndsBy (answer_of boot m.seen.0.outcome) m.seen.0.run.boundaries m.log
      go (Err x) h = rw z (no_cell x h.0 h.1)
      go (Ok c) h = rw (z, zero-add (lock_of e buckets r.flow t g c).seen.0.boundaries, append-nil (lock_of e buckets r.flow t g c).log) (lock_ends e buckets boot r.flow t g c)

pub attempt_ends : AttemptEnds perform
attempt_ends w registry script place words binding bucket fine =
    subst Ending (sym (made_so w (transactional registry script place words binding bucket) fine))
    (tried_ends (given w.head script (holds_of words)) w.head.buckets w.head.boot registry binding bucket (starting w.head place) w.table w.health refl)
