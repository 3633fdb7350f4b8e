-- Why it is Busy, as statements (document 02, L1): what each reason says of the cell, at the moment at which it was seen. `World`, `Items` and
-- `Statements` have the words they are made of, `Theorems` the proofs by name. What stands in quotes is of document 02.
use Rattle.std.specs.Prelude.{ℕ, ◌≡◌, List, [], ◌∷◌, ◌++◌, ◌↔◌}
use Rattle.model.specs.Log.{Made, Event, by_caller, took, released}
use Rattle.model.specs.Arena.{hold_of, waiters_at, state_at}
use Rattle.types.specs.declared.Answer.TheVariants.{Busy}
use Rattle.types.specs.declared.Lease.{Lease}
use Rattle.types.specs.declared.Reason.{Reason}
use Rattle.types.specs.declared.Reason.TheVariants.{Held, Before, After}
use Rattle.types.specs.declared.State.TheVariants as state
use Rattle.history.specs.World.{World, Live, Healthy, now, Whole, Spent}
use Rattle.history.specs.Items.{Call, try_acquire, drop_lease, read_permission, competing_acquire, release_then_handoff, foreign_release, drop_preserving, acquire_preserving, environment, try_lock, transactional, acquire_bucket, release_all, acquire_locks, acquire_sorted, crew, crew_at_work, asked, Says, Build}
use Rattle.history.specs.Statements.{answer_in, world_in}

-- the calls that make one attempt to lock one cell, with boundaries
abbrev pub LocksOnce : Call → Type 0
LocksOnce (try_acquire c) = ⊥
LocksOnce (drop_lease l) = ⊥
LocksOnce (read_permission l) = ⊥
LocksOnce (competing_acquire l) = ⊥
LocksOnce (release_then_handoff l) = ⊥
LocksOnce (foreign_release held l) = ⊥
LocksOnce (drop_preserving held l) = ⊥
LocksOnce (acquire_preserving held c) = ⊥
LocksOnce (environment script place held) = ⊥
LocksOnce (try_lock script place held c) = Unit {0}
LocksOnce (transactional registry script place held binding bucket) = Unit {0}
LocksOnce (acquire_bucket registry script place held binding bucket) = ⊥
LocksOnce (release_all script place leases) = ⊥
LocksOnce (acquire_locks registry script place held keys grants) = ⊥
LocksOnce (acquire_sorted registry script place held keys grants) = ⊥
LocksOnce (crew counts cells turns) = ⊥
LocksOnce (crew_at_work counts cells turns counters) = ⊥

-- how many boundaries a reply counts
abbrev pub boundaries_in : Made (World × Says) → ℕ
boundaries_in m = m.seen.1.counts.boundaries

-- in this log the caller takes nothing
abbrev pub TakesNothing : List Event → Type 0
TakesNothing log = (c s : ℕ) (before after : List Event) → log ≡ before ++ (took by_caller c s ∷ after) → ⊥

-- "held, with the owner's serial": the compare-and-set ran behind the second boundary. It changed nothing and nothing came behind it, so what it
-- saw is the world that the call leaves
pub record WasHeld (c s : ℕ) (m : Made (World × Says)) : Type 0 where
  pub two_boundaries : boundaries_in m ≡ 2
  pub holds : state_at (world_in m).head.next (world_in m).table c ≡ state.Held s

-- "waiters seen before the compare-and-set": the first look, behind the first boundary, was the last thing that the call did
pub record WaitedBefore (c : ℕ) (m : Made (World × Says)) : Type 0 where
  pub one_boundary : boundaries_in m ≡ 1
  pub waiters : waiters_at (world_in m).table c ≡ 0 → ⊥

-- "waiters seen after it. The last one also gives the serial that was spent": the call took the cell with this serial, and released it as its
-- last act. Just before, at the second look, the header was healthy (else it is 7) and somebody waited
pub record WaitedAfter (w : World) (c s : ℕ) (m : Made (World × Says)) : Type 0 where
  pub up_to : List Event
  pub front : List Event
  pub behind : List Event
  pub taken : up_to ≡ front ++ (took by_caller c s ∷ behind)
  pub gives_up : m.log ≡ up_to ++ (released by_caller c s ∷ [])
  pub healthy : Healthy (now w up_to) c
  pub waiters : waiters_at (now w up_to).table c ≡ 0 → ⊥

-- each reason is given exactly if it is so, whatever the arena holds. So at most one of the three is so, and exactly one where the answer is Busy
pub record Reasoned (w : World) (c : ℕ) (m : Made (World × Says)) : Type 0 where
  pub before : (answer_in m ≡ Busy Before) ↔ WaitedBefore c m
  pub held : (s : ℕ) → (answer_in m ≡ Busy (Held s)) ↔ WasHeld c s m
  pub after : (s : ℕ) → (answer_in m ≡ Busy (After s)) ↔ WaitedAfter w c s m

abbrev pub ReasonsAre : Build → Type 0
ReasonsAre f = (w : World) (k : Call) → LocksOnce k → Reasoned w (asked w k) (f w k)

-- `before`: "the log has no take and no serial is spent by the caller"; nor by one that met a holder
abbrev pub EarlyTakesNothing : Build → Type 0
EarlyTakesNothing f =
    (w : World) (k : Call) → LocksOnce k
    → (answer_in (f w k) ≡ Busy Before → TakesNothing (f w k).log)
    × ((s : ℕ) → answer_in (f w k) ≡ Busy (Held s) → TakesNothing (f w k).log)

-- `held s`: the lease (cell, s) is live there
abbrev pub HolderLives : Build → Type 0
HolderLives f = (w : World) (k : Call) (s : ℕ) → LocksOnce k → answer_in (f w k) ≡ Busy (Held s) → Live (world_in (f w k)) (hold_of (asked w k) s)

-- `after s`: from an arena with no damaged cell, the serial was issued and owns nothing afterwards
abbrev pub LateIsSpent : Build → Type 0
LateIsSpent f = (w : World) (k : Call) (s : ℕ) → LocksOnce k → Whole w → answer_in (f w k) ≡ Busy (After s) → Spent (world_in (f w k)) s

-- one compare-and-set by itself is Busy only by a holder, and `competing_acquire_is_excluded` names the serial of the lease that it was given
abbrev pub OwnSerial : Build → Type 0
OwnSerial f = (w : World) (l : Lease) (why : Reason) → answer_in (f w (competing_acquire l)) ≡ Busy why → why ≡ Held l.serial
