-- When a lock must do what, as statements: every lock whose script is at its end, by an exactly-if or by a table that gives answer, counts, place and world
-- in each case. `Script` and `Attempts` have the statements for any script, `Theorems` the proofs by name; what every call is, whatever its script, is in crate
-- `pinned`. What stands in quotes is of document 01 or 02. A statement is one of any build, any function that answers calls; `Theorems` proves it of ours. The
-- arena need not be sound: the call passes its checks, and that is all.
use Rattle.std.specs.Prelude.{ℕ, ◌<◌, ◌≤◌, suc, ◌+◌, zero, ◌*◌, ◌≡◌, List, [], ◌∷◌, false, ◌↔◌, get_or}
use Rattle.model.specs.Log.{Event, took, by_caller, by_script, attempt_begun, released, waiters_set, health_set, held_all_lem, added, yielded, spun, boundary_run, step_dropped}
use Rattle.model.specs.Arena.{bit_at, header_of, waiters_at, last_serial, is_in, lease_of, hold_of, spent_to, owner_at, words_of}
use Rattle.model.specs.Foreign.{steps_in}
use Rattle.model.specs.Lock.{binding_at, bucket_at}
use Rattle.model.specs.Checks.{count_in}
use Rattle.model.specs.Calls.{counts_of}
use Rattle.types.specs.declared.Answer.{Answer}
use Rattle.types.specs.declared.Answer.TheVariants.{Busy, Refused, Granted, AllGranted, RefusedAt}
use Rattle.types.specs.declared.Hold.{Hold}
use Rattle.types.specs.declared.Lease.{Lease}
use Rattle.types.specs.declared.Reason.{Reason}
use Rattle.types.specs.declared.Reason.TheVariants as reason
use Rattle.types.specs.declared.Refusal.{Refusal}
use Rattle.types.specs.declared.Refusal.TheVariants.{BadHeader, Damaged, InvalidBucket, SerializationFailure, SerialsSpent, Poisoned}
use Rattle.history.specs.World.{World, Healthy, Legal, now, after_event, world_of}
use Rattle.history.specs.Items.{Build, Says, Call, acquire_bucket, acquire_locks, says, transactional, try_lock, key_cell, cell_of, Clear, rules}
use Rattle.history.specs.Statements.{answer_in}

-- the call passes its checks: none of document 01's table applies to what it was given
abbrev pub Passes : World → Call → Type 0
Passes w k = Clear (rules w k)

-- ---- a cell by its words: bit and owner

abbrev pub IsFree : World → ℕ → Type 0
IsFree w c = (bit_at w.table c ≡ 0) × (owner_at w.table c ≡ 0)

abbrev pub IsHeld : World → ℕ → Type 0
IsHeld w c = (bit_at w.table c ≡ 1) × (1 ≤ owner_at w.table c) × (owner_at w.table c < w.head.next)

abbrev pub IsDamaged : World → ℕ → Type 0
IsDamaged w c = (IsFree w c → ⊥) × (IsHeld w c → ⊥)

-- ---- what a step asks for, by its kind: the event that it makes if it is performed

pub data Asks (w : World) : (kind place number : ℕ) → Event → Type 0 where
  take_a_cell : (c n : ℕ) → Asks w 1 c n (took by_script c w.head.next)
  release_it : (c s : ℕ) → Asks w 2 c s (released by_script c s)
  set_waiters_lem : (c n : ℕ) → Asks w 3 c n (waiters_set c n)
  set_health : (i n : ℕ) → Asks w 4 i n (health_set i n)

-- legal in this world, while these leases are protected: "2 release (cell, serial): legal if that lease is live and not protected"
abbrev pub Allowed : World → List Hold → Event → Type 0
Allowed w ps attempt_begun = Legal w attempt_begun
Allowed w ps boundary_run = Legal w boundary_run
Allowed w ps yielded = Legal w yielded
Allowed w ps spun = Legal w spun
Allowed w ps step_dropped = Legal w step_dropped
Allowed w ps (took a c s) = Legal w (took a c s)
Allowed w ps (released a c s) = Legal w (released a c s) × (is_in (hold_of c s) ps ≡ false)
Allowed w ps (waiters_set c n) = Legal w (waiters_set c n)
Allowed w ps (health_set i n) = Legal w (health_set i n)
Allowed w ps (held_all_lem m) = Legal w (held_all_lem m)
Allowed w ps (added m c v) = Legal w (added m c v)

-- one step: the world that it leaves, its log, and 1 where it was dropped
pub data Stepping (w : World) (ps : List Hold) (kind place number : ℕ) : World → List Event → ℕ → Type 0 where
  -- "0 observe", "5 end of boundary"
  looks : kind ≡ 0 → Stepping w ps kind place number w [] 0
  ends : kind ≡ 5 → Stepping w ps kind place number w [] 0
  performed : (e : Event) → Asks w kind place number e → Allowed w ps e → Stepping w ps kind place number (after_event w e) (e ∷ []) 0
  -- "another kind, or not legal"
  dropped : (kind ≡ 0 → ⊥) → (kind ≡ 5 → ⊥) → ((e : Event) → Asks w kind place number e → Allowed w ps e → ⊥)
      → Stepping w ps kind place number w (step_dropped ∷ []) 1

-- ---- the table of a cell. A Busy attempt says one thing where waiters stand, another where the cell is held, by its owner's serial

abbrev pub Unwaited : World → ℕ → Type 0
Unwaited w c = waiters_at w.table c ≡ 0

pub data Quietly (w : World) (place : ℕ) (waiting : Says) (holding : ℕ → Says) (c : ℕ) : World × Says → Type 0 where
  at_waited : (Unwaited w c → ⊥) → Quietly w place waiting holding c (w, waiting)
  at_held : Unwaited w c → IsHeld w c → Quietly w place waiting holding c (w, holding (owner_at w.table c))
  at_damaged : Unwaited w c → IsDamaged w c → Quietly w place waiting holding c (w, says (Refused (Damaged c)) (counts_of 1 2 0 0) place [])
  at_spent : Unwaited w c → IsFree w c → last_serial ≤ w.head.next
      → Quietly w place waiting holding c (w, says (Refused (SerialsSpent c)) (counts_of 1 2 0 0) place [])
  at_free : Unwaited w c → IsFree w c → w.head.next < last_serial
      → Quietly w place waiting holding c (after_event w (took by_caller c w.head.next), says (Granted (lease_of c w.head.next w.head.boot)) (counts_of 1 3 0 0) place [])

-- ---- the table of a call by cell: document 02, L3, "A call by cell reads the health of its cell's header there", which
-- is after the third boundary. A cell that would be granted is then 7 if its header is poisoned: the table is as before,
-- and the serial "stays spent". Else it is the cell's table

-- a lock must lock here
abbrev pub Ready : World → ℕ → Type 0
Ready w c = Unwaited w c × IsFree w c × (w.head.next < last_serial)

pub data PerCell (w : World) (c place : ℕ) (Row : World × Says → Type 0) : World × Says → Type 0 where
  sick_cell : Ready w c → (Healthy w c → ⊥)
      → PerCell w c place Row (world_of (spent_to w.head (w.head.next + 1)) w.table w.health, says (Refused (Poisoned (header_of w.head.buckets c))) (counts_of 1 3 0 0) place [])
  sound_cell : {x : World × Says} → (Ready w c → Healthy w c) → Row x → PerCell w c place Row x

-- ---- the table of a key: the header that the registry gives, its health, the bucket; then the cell's table. The header
-- is healthy at the first reading then, and nothing happens before the second

pub data ByKey (w : World) (registry : List ℕ) (binding bucket place : ℕ) (Row : ℕ → World × Says → Type 0) : World × Says → Type 0 where
  bad_header : w.head.headers ≤ get_or registry binding 0
      → ByKey w registry binding bucket place Row (w, says (Refused (BadHeader (get_or registry binding 0))) (counts_of 1 0 0 0) place [])
  is_poisoned_lem : get_or registry binding 0 < w.head.headers → (get_or w.health (get_or registry binding 0) 0 ≡ 0 → ⊥)
      → ByKey w registry binding bucket place Row (w, says (Refused (Poisoned (get_or registry binding 0))) (counts_of 1 0 0 0) place [])
  bad_bucket : get_or registry binding 0 < w.head.headers → get_or w.health (get_or registry binding 0) 0 ≡ 0 → w.head.buckets ≤ bucket
      → ByKey w registry binding bucket place Row (w, says (Refused (InvalidBucket bucket)) (counts_of 1 0 0 0) place [])
  names : {x : World × Says} → get_or registry binding 0 < w.head.headers → get_or w.health (get_or registry binding 0) 0 ≡ 0 → bucket < w.head.buckets
      → Row (cell_of w.head.buckets registry binding bucket) x → ByKey w registry binding bucket place Row x

-- ---- what the calls say where the cell is waited for, and where it is held. Document 02, L1: "held, with the owner's serial; waiters seen before
-- the compare-and-set"; "refusal 11 carries that reason besides 4,096"

abbrev pub busy_after : Reason → ℕ → ℕ → Says
busy_after why place boundaries = says (Busy why) (counts_of 1 boundaries 0 0) place []

abbrev pub failed_after : Reason → ℕ → ℕ → Says
failed_after why place boundaries = says (Refused (SerializationFailure why)) (counts_of 4096 boundaries 64 0) place []

abbrev pub TryLockQuiet : Build → Type 0
TryLockQuiet f =
    (w : World) (script : List ℕ) (place : ℕ) (held : List ℕ) (c : ℕ)
    → let k = try_lock script place held c in
    Passes w k → steps_in script ≤ place
    → PerCell w c place (Quietly w place (busy_after reason.Before place 1) (λ s. busy_after (reason.Held s) place 2) c) (f w k).seen

abbrev pub TransactionalQuiet : Build → Type 0
TransactionalQuiet f =
    (w : World) (registry script : List ℕ) (place : ℕ) (held : List ℕ) (binding bucket : ℕ)
    → let k = transactional registry script place held binding bucket in
    Passes w k → steps_in script ≤ place
    → ByKey w registry binding bucket place (Quietly w place (busy_after reason.Before place 1) (λ s. busy_after (reason.Held s) place 2)) (f w k).seen

-- waited for: 4,096 attempts with 1 boundary and 1 spin each, and 64 yields; held: 2 boundaries and 1 spin each
abbrev pub AcquireBucketQuiet : Build → Type 0
AcquireBucketQuiet f =
    (w : World) (registry script : List ℕ) (place : ℕ) (held : List ℕ) (binding bucket : ℕ)
    → let k = acquire_bucket registry script place held binding bucket in
    Passes w k → steps_in script ≤ place
    → ByKey w registry binding bucket place (Quietly w place (failed_after reason.Before place 8256) (λ s. failed_after (reason.Held s) place 12352)) (f w k).seen

-- ---- exactly-ifs, read off the tables

-- the key names a cell of a healthy header
abbrev pub Names : World → List ℕ → ℕ → ℕ → Type 0
Names w registry binding bucket =
    (get_or registry binding 0 < w.head.headers) × (get_or w.health (get_or registry binding 0) 0 ≡ 0) × (bucket < w.head.buckets)

-- what an answer is, by the state of the cell; `Must` is what a grant asks, `busy` what is said for a reason. The script is at its end: nothing sets
-- waiters behind the compare-and-set
pub record LocksExactly (w : World) (c : ℕ) (Must : Type 0) (busy : Reason → Answer) (a : Answer) : Type 0 where
  pub granted : (l : Lease) → (a ≡ Granted l) ↔ (Must × (l ≡ lease_of c w.head.next w.head.boot))
  pub waited : (a ≡ busy reason.Before) ↔ (Unwaited w c → ⊥)
  pub held : (s : ℕ) → (a ≡ busy (reason.Held s)) ↔ (Unwaited w c × IsHeld w c × (s ≡ owner_at w.table c))
  pub not_after : (s : ℕ) → a ≡ busy (reason.After s) → ⊥
  pub damaged : (a ≡ Refused (Damaged c)) ↔ (Unwaited w c × IsDamaged w c)
  pub spent : (a ≡ Refused (SerialsSpent c)) ↔ (Unwaited w c × IsFree w c × (last_serial ≤ w.head.next))

-- granted exactly if the cell is ready and its header healthy; 7 exactly if it is ready and its header poisoned
abbrev pub TryLockExactly : Build → Type 0
TryLockExactly f =
    (w : World) (script : List ℕ) (place : ℕ) (held : List ℕ) (c : ℕ)
    → let k = try_lock script place held c in
    Passes w k → steps_in script ≤ place
    → LocksExactly w c (Ready w c × Healthy w c) (λ why. Busy why) (answer_in (f w k))
    × ((header : ℕ) → (answer_in (f w k) ≡ Refused (Poisoned header)) ↔ (Ready w c × (Healthy w c → ⊥) × (header ≡ header_of w.head.buckets c)))

-- granted exactly if the cell is ready; 11 exactly if it is waited for or held, with that as its reason
abbrev pub AcquireBucketExactly : Build → Type 0
AcquireBucketExactly f =
    (w : World) (registry script : List ℕ) (place : ℕ) (held : List ℕ) (binding bucket : ℕ)
    → let k = acquire_bucket registry script place held binding bucket in
    Passes w k → steps_in script ≤ place → Names w registry binding bucket
    → let c = cell_of w.head.buckets registry binding bucket in LocksExactly w c (Ready w c) (λ why. Refused (SerializationFailure why)) (answer_in (f w k))

-- ---- multi-lock, its script at its end: keys that name different ready cells are all granted, with the next serials in key order

-- `left` leases from position p on, with serials from s on
unfoldable pub leases_from : (ℕ → ℕ) → ℕ → ℕ → ℕ → List Hold
leases_from cell zero p s = []
leases_from cell (suc left) p s = hold_of (cell p) s ∷ leases_from cell left (p + 1) (s + 1)

-- these leases taken by the caller, one after the other
abbrev pub takes_of : List Hold → List Event
takes_of [] = []
takes_of (l ∷ ls) = took by_caller l.cell l.serial ∷ takes_of ls

-- "keys in the order given": all granted, one attempt and three boundaries each
abbrev pub LocksQuiet : Build → Type 0
LocksQuiet f =
    (w : World) (registry script : List ℕ) (place : ℕ) (held keys grants : List ℕ)
    → let k = acquire_locks registry script place held keys grants in
    let n = count_in keys in
    let cell = key_cell w.head.buckets registry keys in
    let leases = leases_from cell n 0 w.head.next in
    Passes w k → steps_in script ≤ place
    → ((p : ℕ) → p < n → Names w registry (binding_at keys p) (bucket_at keys p) × Unwaited w (cell p) × IsFree w (cell p))
    → ((p q : ℕ) → p < n → q < n → cell p ≡ cell q → p ≡ q)
    → w.head.next + n ≤ last_serial
    → (f w k).seen ≡ (now w (takes_of leases), says AllGranted (counts_of n (3 * n) 0 0) place (words_of w.head.boot leases))

-- ---- and refused at the first key that is not ready: the keys before it were ready, and it is refused as `acquire_index_bucket` refuses it then

-- "On a refusal at position p all taken leases are released": one attempt and three boundaries for each key before it, the counts of the
-- refused key, and a boundary for each release. The grant buffer is unchanged
abbrev pub LocksRefusedQuiet : Build → Type 0
LocksRefusedQuiet f =
    (w : World) (registry script : List ℕ) (place : ℕ) (held keys grants : List ℕ) (j : ℕ) (r : Refusal)
    → let k = acquire_locks registry script place held keys grants in
    let cell = key_cell w.head.buckets registry keys in
    -- the world after the keys before j, and what `acquire_index_bucket` says there of the key at j
    let v = now w (takes_of (leases_from cell j 0 w.head.next)) in
    let o = (f v (acquire_bucket registry script place held (binding_at keys j) (bucket_at keys j))).seen.1 in
    Passes w k → steps_in script ≤ place → j < count_in keys
    → ((p : ℕ) → p < j → Names w registry (binding_at keys p) (bucket_at keys p) × Unwaited w (cell p) × IsFree w (cell p))
    → ((p q : ℕ) → p < j → q < j → cell p ≡ cell q → p ≡ q)
    → w.head.next + j ≤ last_serial
    → o.answer ≡ Refused r
    → (f w k).seen
    ≡ (
      world_of (spent_to w.head (w.head.next + j)) w.table w.health,
      says (RefusedAt r j) (counts_of (j + o.counts.attempts) (4 * j + o.counts.boundaries) o.counts.yields 0) place grants,
    )
