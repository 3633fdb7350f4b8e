-- What answers mean: statements about the leases that answers hand over, one call at a time and over a whole history.
-- `World`, `Items` and `Statements` have the words they are made of, `Theorems` the proofs by name. What stands in quotes
-- is of the work order, or of document 01 or 02.
use Rattle.std.specs.Prelude.{ℕ, ◌+◌, ◌<◌, ◌≡◌, List, [], ◌∷◌, ◌++◌, ◌⊎◌, length}
use Rattle.model.specs.Log.{Actor, Event, by_caller, attempt_begun, took, released}
use Rattle.model.specs.Arena.{hold_of, holds_of}
use Rattle.model.specs.Answers.{refusal_in}
use Rattle.model.specs.Lock.{hold_at}
use Rattle.model.specs.Checks.{count_in}
use Rattle.types.specs.declared.Answer.TheVariants.{Granted, AllGranted, Busy, Refused, RefusedAt}
use Rattle.types.specs.declared.Hold.{Hold}
use Rattle.types.specs.declared.Lease.{Lease}
use Rattle.types.specs.declared.Reason.{Reason}
use Rattle.types.specs.declared.Refusal.{Refusal}
use Rattle.history.specs.World.{World, Live, Healthy, now, Unreleased, number_of_lem, attempts, takes}
use Rattle.history.specs.Items.{Call, try_acquire, drop_lease, read_permission, competing_acquire, release_then_handoff, foreign_release, drop_preserving, acquire_preserving, environment, try_lock, transactional, acquire_bucket, release_all, acquire_locks, acquire_sorted, crew, crew_at_work, IsCrew, ByKeys, asked, key_cell, Build, Entry, events_of, history_of}
use Rattle.history.specs.Statements.{Through, answer_in, buffer_in, world_in, HandsOver, Gives, NothingHeld}

-- ---- one call, whatever the arena holds

-- a lease that an answer hands over was taken by the caller in this very call, with the serial that was next then. So no answer hands over a
-- lease that somebody else holds, or one made up
abbrev pub HandedOver : Build → Type 0
HandedOver f =
    (w : World) (k : Call) (l : Hold) → Gives (f w k) l
    → (before after : List Event) × ((f w k).log ≡ before ++ (took by_caller l.cell l.serial ∷ after)) × (l.serial ≡ (now w before).head.next)

-- "keys in the order given": the serials in multi-lock's granted buffer rise from each position to each later one. Those of the sorted call
-- rise with the cells (crate `sorted_theory`, `SerialsByCell`)
abbrev pub SerialsRise : Build → Type 0
SerialsRise f =
    (w : World) (registry script : List ℕ) (place : ℕ) (held keys grants : List ℕ) (i j : ℕ)
    → let m = f w (acquire_locks registry script place held keys grants) in
    answer_in m ≡ AllGranted
    → let ls = holds_of (buffer_in m) in i < j → j < length ls → (hold_at ls i).serial < (hold_at ls j).serial

-- while (c, s) is live, no answer hands over a lease on c unless the call's own log releases (c, s) first
abbrev pub NotOverLive : Build → Type 0
NotOverLive f =
    (w : World) (k : Call) (c s s' : ℕ) → Live w (hold_of c s) → Gives (f w k) (hold_of c s')
    → (a : Actor) × (before middle after : List Event)
    × ((f w k).log ≡ before ++ (released a c s ∷ (middle ++ (took by_caller c s' ∷ after))))

-- the calls that ask for one cell
abbrev pub AsksOne : Call → Type 0
AsksOne (try_acquire c) = Unit {0}
AsksOne (drop_lease l) = ⊥
AsksOne (read_permission l) = ⊥
AsksOne (competing_acquire l) = Unit {0}
AsksOne (release_then_handoff l) = Unit {0}
AsksOne (foreign_release held l) = Unit {0}
AsksOne (drop_preserving held l) = ⊥
AsksOne (acquire_preserving held c) = Unit {0}
AsksOne (environment script place held) = ⊥
AsksOne (try_lock script place held c) = Unit {0}
AsksOne (transactional registry script place held binding bucket) = Unit {0}
AsksOne (acquire_bucket registry script place held binding bucket) = Unit {0}
AsksOne (release_all script place leases) = ⊥
AsksOne (acquire_locks registry script place held keys grants) = ⊥
AsksOne (acquire_sorted registry script place held keys grants) = ⊥
AsksOne (crew counts cells turns) = ⊥
AsksOne (crew_at_work counts cells turns counters) = ⊥

-- every attempt to take c in that stretch: such a call of a cell that a live lease holds, in whose log that lease is not released, is Busy
-- or refused
abbrev pub BusyOrRefused : Build → Type 0
BusyOrRefused f =
    (w : World) (k : Call) (s : ℕ) → AsksOne k
    → let l = hold_of (asked w k) s in
    Live w l → Unreleased l (f w k).log
    → ((why : Reason) × (answer_in (f w k) ≡ Busy why)) ⊎ ((r : Refusal) × (answer_in (f w k) ≡ Refused r))

-- and a multi-lock with a key of that cell is refused, in either order
abbrev pub LocksRefused : Build → Type 0
LocksRefused f =
    (w : World) (k : Call) (registry keys : List ℕ) (p s : ℕ) → ByKeys k registry keys → p < count_in keys
    → let m = f w k in
    let l = hold_of (key_cell w.head.buckets registry keys p) s in
    Live w l → Unreleased l m.log
    → ((r : Refusal) × (answer_in m ≡ Refused r)) ⊎ ((r : Refusal) × (q : ℕ) × (answer_in m ≡ RefusedAt r q))

-- ---- document 02, L3: "Read it again after the third boundary, before the waiters. If poisoned, release the lease and
-- refuse with 7; the serial stays spent."

-- the calls that read health after the lock, and grant one lease
abbrev pub ReadsAgain : Call → Type 0
ReadsAgain (try_acquire c) = ⊥
ReadsAgain (drop_lease l) = ⊥
ReadsAgain (read_permission l) = ⊥
ReadsAgain (competing_acquire l) = ⊥
ReadsAgain (release_then_handoff l) = ⊥
ReadsAgain (foreign_release held l) = ⊥
ReadsAgain (drop_preserving held l) = ⊥
ReadsAgain (acquire_preserving held c) = ⊥
ReadsAgain (environment script place held) = ⊥
ReadsAgain (try_lock script place held c) = Unit {0}
ReadsAgain (transactional registry script place held binding bucket) = Unit {0}
ReadsAgain (acquire_bucket registry script place held binding bucket) = Unit {0}
ReadsAgain (release_all script place leases) = ⊥
ReadsAgain (acquire_locks registry script place held keys grants) = ⊥
ReadsAgain (acquire_sorted registry script place held keys grants) = ⊥
ReadsAgain (crew counts cells turns) = ⊥
ReadsAgain (crew_at_work counts cells turns counters) = ⊥

-- a lease that such a call grants is on a header that is healthy in the health that the call leaves
abbrev pub GrantedHealthy : Build → Type 0
GrantedHealthy f = (w : World) (k : Call) (l : Lease) → ReadsAgain k → answer_in (f w k) ≡ Granted l → Healthy (world_in (f w k)) l.cell

-- the point of a multi-lock's log at which a key's lease is granted: it was taken before, no attempt has begun since, and
-- there the log ends or the next key's first attempt begins
pub record GrantPoint (l : Hold) (before after : List Event) : Type 0 where
  pub front : List Event
  pub tail : List Event
  pub taken : before ≡ front ++ (took by_caller l.cell l.serial ∷ tail)
  pub same_attempt : number_of_lem attempts tail ≡ 0
  pub next_key : (after ≡ []) ⊎ ((es : List Event) × (after ≡ attempt_begun ∷ es))

-- each lease in multi-lock's granted buffer is on a header that is healthy at the point of its grant, and the last key's in
-- the health that the call leaves. No more is promised of the keys before the last: a boundary of a later key may poison
-- their headers, and the call still grants (`Examples.poisoned-behind`)
abbrev pub LocksHealthy : Build → Type 0
LocksHealthy f =
    (w : World) (registry script : List ℕ) (place : ℕ) (held keys grants : List ℕ) (p : ℕ)
    → let m = f w (acquire_locks registry script place held keys grants) in
    let l = hold_at (holds_of (buffer_in m)) p in
    answer_in m ≡ AllGranted → p < count_in keys
    → ((before after : List Event) × (m.log ≡ before ++ after) × GrantPoint l before after × Healthy (now w before) l.cell)
    × (p + 1 ≡ count_in keys → Healthy (world_in m) l.cell)

-- after a 7, at whichever reading, the caller holds nothing new, and every serial that was spent stays spent. A crew never
-- answers 7
abbrev pub PoisonedHoldsNothing : Build → Type 0
PoisonedHoldsNothing f =
    (w : World) (k : Call) → (IsCrew k → ⊥) → refusal_in (answer_in (f w k)) ≡ 7
    → NothingHeld k (f w k) × ((world_in (f w k)).head.next ≡ w.head.next + number_of_lem takes (f w k).log)

-- ---- a history, with what each item said

-- this entry hands this lease over
abbrev pub Hands : Entry → Hold → Type 0
Hands e = HandsOver e.said.answer e.said.grants

-- no lease is handed over twice: the serials that answers hand over rise from each answer to each later one of the stretch
abbrev pub NeverTwice : Type 0
NeverTwice =
    Through (λ d.
    (x y z : List Entry) (i j : Entry) (l k : Hold) → d.entries ≡ x ++ (i ∷ (y ++ (j ∷ z)))
    → Hands i l → Hands j k → l.serial < k.serial)

-- nor does one answer hand over two leases on one cell
abbrev pub OnceEach : Type 0
OnceEach =
    Through (λ d.
    (x z : List Entry) (i : Entry) (c s s' : ℕ) → d.entries ≡ x ++ (i ∷ z)
    → Hands i (hold_of c s) → Hands i (hold_of c s') → s ≡ s')

-- "two writers drive one valve": an answer hands over (c, s), a later one hands over a lease on c, whoever calls. Then (c, s) was released in
-- between, and only then was the second lease taken
abbrev pub TwoWriters : Type 0
TwoWriters =
    Through (λ d.
    (x y z : List Entry) (i j : Entry) (c s s' : ℕ) → d.entries ≡ x ++ (i ∷ (y ++ (j ∷ z)))
    → Hands i (hold_of c s) → Hands j (hold_of c s')
    → (a : Actor) × (before middle after : List Event)
    × (events_of y ++ j.events ≡ before ++ (released a c s ∷ (middle ++ (took by_caller c s' ∷ after)))))

-- the same of anybody's take, a script's and a crew's too: after the answer that hands over (c, s), the cell is taken only behind a release
-- of (c, s)
abbrev pub NoneTakes : Type 0
NoneTakes =
    Through (λ d.
    (x z : List Entry) (i : Entry) (c s s' : ℕ) (b : Actor) (between after : List Event) → d.entries ≡ x ++ (i ∷ z)
    → Hands i (hold_of c s) → events_of z ≡ between ++ (took b c s' ∷ after)
    → (a : Actor) × (before middle : List Event) × (between ≡ before ++ (released a c s ∷ middle)))

-- so, from the answer that hands (c, s) over up to the first event that releases (c, s): no other answer hands over a lease on c, whoever
-- calls, and no attempt in any call takes c
abbrev pub AloneUntilReleased : Type 0
AloneUntilReleased =
    Through (λ d.
    (x y z : List Entry) (i j : Entry) (c s : ℕ) → d.entries ≡ x ++ (i ∷ (y ++ (j ∷ z)))
    → Hands i (hold_of c s) → Unreleased (hold_of c s) (events_of y ++ j.events)
    → ((s' : ℕ) → Hands j (hold_of c s') → ⊥)
    × ((b : Actor) (s' : ℕ) (before after : List Event) → events_of y ++ j.events ≡ before ++ (took b c s' ∷ after) → ⊥))

-- and of any two takes of one cell, by callers, scripts or crews: the first lease was released in between
abbrev pub TakesParted : Type 0
TakesParted =
    Through (λ d.
    (c s s' : ℕ) (a b : Actor) (x between z : List Event)
    → history_of d ≡ x ++ (took a c s ∷ (between ++ (took b c s' ∷ z)))
    → (e : Actor) × (before middle : List Event) × (between ≡ before ++ (released e c s ∷ middle)))
