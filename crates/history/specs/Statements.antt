-- What demand 2 says, as statements: of a history, and of one call. `World` and `Items` have the words they are made of, `Theorems` gives
-- their proofs by name. What stands in quotes is of the work order or of document 01 or 02. A statement about one call is one of any build, any
-- function that answers calls: `Theorems` proves it of ours, `perform`, and crate `pinned` carries it to any build that does what is asked of each call.
use Rattle.std.specs.Prelude.{ℕ, ◌+◌, ◌*◌, ◌≤◌, ◌<◌, ◌≡◌, List, [], ◌∷◌, ◌++◌, reverse, true, ◌⊎◌, ◌↔◌, length, take, replicate, Ok}
use Rattle.model.specs.Log.{Made, Actor, Event, by_caller, by_script, took, released}
use Rattle.model.specs.Arena.{head_of, is_stale, lease_live, hold_of, hold_in, leases_of, holds_of, is_in}
use Rattle.model.specs.Refusals.{Rule, number_of, first}
use Rattle.model.specs.Foreign.{steps_in, kind_at, place_at, number_at}
use Rattle.model.specs.Lock.{hold_at}
use Rattle.model.specs.Checks.{count_in, bad_shape, bad_health, bad_registry, bad_script, bad_held_length, bad_held, not_live, too_many_leases, not_releasable}
use Rattle.model.specs.Calls.{counts_of}
use Rattle.model.specs.Salvage.{salvage_of}
use Rattle.types.specs.declared.Answer.{Answer}
use Rattle.types.specs.declared.Answer.TheVariants.{Done, Cell, Granted, AllGranted, Busy, Refused, RefusedAt}
use Rattle.types.specs.declared.CrewReply.{CrewReply}
use Rattle.types.specs.declared.Head.{Head}
use Rattle.types.specs.declared.Hold.{Hold}
use Rattle.types.specs.declared.Lease.{Lease}
use Rattle.types.specs.declared.Refusal.{Refusal}
use Rattle.types.specs.declared.Refusal.TheVariants.{StaleBoot}
use Rattle.laws.specs.Checks.{lease_in}
use Rattle.history.specs.World.{World, world_of, cells, Live, now, Lawful, Sound, Spent, Unreleased, caller_releases, bits, number_of_lem, attempts, boundaries, yields, drops, takes, releases, Whole, Apart}
use Rattle.history.specs.Items.{Call, try_acquire, drop_lease, read_permission, competing_acquire, release_then_handoff, foreign_release, drop_preserving, acquire_preserving, environment, try_lock, transactional, acquire_bucket, release_all, acquire_locks, acquire_sorted, crew, crew_at_work, NamesLease, ByKeys, script_of, place_of, held_of, given_up, buffer, ByCell, IsCrew, asked, key_cell, Says, unchanged, saying, perform, Build, Stepper, Item, preparation, Course, cold, noted, history_of, preparing, next_item, run, call, foreign_step, preparation_over, salvage, salvage_over, salvaging}

-- ---- where a stretch of a history begins: "Demand 2 now starts from a prepared or a salvaged table."

-- the item is done, and what it leaves is a start: a preparation or a salvage, of the arena's own runs or of others
abbrev pub Begins : World → Item → Type 0
Begins w (call c) = ⊥
Begins w (foreign_step kind place number) = ⊥
Begins w (preparation headers buckets serial boot) = (preparing headers buckets serial boot w.table w.health).0 ≡ Done
Begins w (preparation_over headers buckets serial boot t g) = (preparing headers buckets serial boot t g).0 ≡ Done
Begins w (salvage paper report list) = (e n : ℕ) × ((salvaging paper w.table w.health report list).0 ≡ Ok (e, n))
Begins w (salvage_over paper t g report list) = (e n : ℕ) × ((salvaging paper t g report list).0 ≡ Ok (e, n))

-- "Preparing .. sets every table word and health byte to 0."
abbrev pub Fresh : World → Type 0
Fresh w = w ≡ world_of w.head (replicate (3 * cells w) 0) (replicate w.head.headers 0)

-- the head on paper, with what a salvage makes of the runs
abbrev pub rescued : Head → (table health report list : List ℕ) → World
rescued h t g report list = let o = salvage_of h t g report list in world_of h o.1.0 o.1.1.0

-- the world that a start left: all zeros, or what a salvage that is done leaves
pub data Begun (w : World) : Type 0 where
  by_preparation : Fresh w → Begun w
  by_salvage : (h : Head) (t g report list : List ℕ) (e n : ℕ)
      → (salvage_of h t g report list).0.answer ≡ Ok (e, n) → w ≡ rescued h t g report list → Begun w

-- no item of these is a start
abbrev pub NoStart : Course → List Item → Type 0
NoStart k [] = Unit {0}
NoStart k (i ∷ is) = (Begins k.world i → ⊥) × NoStart (next_item k i) is

-- ---- the ledger of a history: what holds of every stretch from a start, at every point of it. A point is a place in the log: the world
-- there is what the events before it make of the first.

pub record Ledger (k : Course) : Type 0 where
  pub begun : Begun k.origin
  -- every event was legal in the state in which it happened, and the world now is what the events make of the first
  pub lawful : Lawful k.origin (history_of k)
  pub leads : k.world ≡ now k.origin (history_of k)
  -- at every point: no damaged cell, each owner from 1 to next - 1
  pub whole : (before after : List Event) → history_of k ≡ before ++ after → Whole (now k.origin before)
  -- at every point, if at the first: no serial owns two cells
  pub apart : Apart k.origin → (before after : List Event) → history_of k ≡ before ++ after → Apart (now k.origin before)
  -- "until the next preparation a lease keeps its cell up to a release naming its cell and serial"
  pub keeps : (l : Hold) (before middle after : List Event) → history_of k ≡ before ++ (middle ++ after)
      → Live (now k.origin before) l → Unreleased l middle → Live (now k.origin (before ++ middle)) l
  -- "a serial that was issued and owns nothing never owns again"; "For a salvaged one, a dead serial below next stays dead from there on, up
  -- to the next preparation"
  pub never : (s : ℕ) (before middle after : List Event) → history_of k ≡ before ++ (middle ++ after)
      → Spent (now k.origin before) s → Spent (now k.origin (before ++ middle)) s
  -- each serial is issued at most once, to one cell
  pub once : (a b : Actor) (c d s : ℕ) (x x' y y' : List Event)
      → history_of k ≡ x ++ (took a c s ∷ x') → history_of k ≡ y ++ (took b d s ∷ y') → (x ≡ y) × (c ≡ d)
  -- "next minus first serial = takes in the history"; "next minus the given next = takes since"
  pub issued : k.world.head.next ≡ k.origin.head.next + number_of_lem takes (history_of k)
  -- "cells held at the start plus takes minus releases = cells with bit 1"
  pub counted : bits (cells k.world) k.world.table + number_of_lem releases (history_of k)
      ≡ bits (cells k.origin) k.origin.table + number_of_lem takes (history_of k)

-- "From a prepared table, over any calls and foreign steps, each call given the head, table and health the last one left": what holds of
-- every history through a start, whatever stood in RAM before it, and over any further items, starts among them
abbrev pub Through : (Course → Type 0) → Type 0
Through P = (rubbish : World) (start : Item) (items : List Item) → Begins rubbish start → P (run (cold rubbish) (start ∷ items))

abbrev pub Demand2 : Type 0
Demand2 = Through Ledger

-- so the arena is sound at every point, if no serial owns two cells where the stretch begins
abbrev pub SoundIfApart : Type 0
SoundIfApart =
    Through (λ k. Apart k.origin → (before after : List Event) → history_of k ≡ before ++ after → Sound (now k.origin before))

-- ---- a stretch from a preparation

-- what a preparation that is done leaves
abbrev pub PreparedFresh : Type 0
PreparedFresh =
    (headers buckets serial boot : ℕ) (t g : List ℕ) → (preparing headers buckets serial boot t g).0 ≡ Done → Fresh (preparing headers buckets serial boot t g).1

-- there no cell is held, so no serial owns two: sound at every point
abbrev pub PreparedSound : Type 0
PreparedSound =
    Through (λ k. Fresh k.origin → (before after : List Event) → history_of k ≡ before ++ after → Sound (now k.origin before))

-- "takes minus releases = cells with bit 1"
abbrev pub PreparedCounted : Type 0
PreparedCounted =
    Through (λ k.
    Fresh k.origin
    → bits (cells k.world) k.world.table + number_of_lem releases (history_of k) ≡ number_of_lem takes (history_of k))

-- the item is a preparation with these numbers, of the arena's own runs or of others that are lent in their place
pub data Prepares (w : World) (headers buckets serial boot : ℕ) : Item → List ℕ → List ℕ → Type 0 where
  own_runs : Prepares w headers buckets serial boot (preparation headers buckets serial boot) w.table w.health
  other_runs : (t g : List ℕ) → Prepares w headers buckets serial boot (preparation_over headers buckets serial boot t g) t g

-- every stretch that a done preparation began, whatever came before it, is from a preparation: up to the next start it begins with what the
-- preparation left, nothing but zeros under the head asked for. So "next minus first serial = takes in the history"
abbrev pub PreparedBegins : Type 0
PreparedBegins =
    (k : Course) (i : Item) (headers buckets serial boot : ℕ) (t g : List ℕ) (items : List Item) → Prepares k.world headers buckets serial boot i t g
    → (preparing headers buckets serial boot t g).0 ≡ Done → NoStart (next_item k i) items
    → let d = run k (i ∷ items) in
    (d.origin ≡ (preparing headers buckets serial boot t g).1) × Fresh d.origin × (d.origin.head ≡ head_of headers buckets serial boot)
    × (d.world.head.next ≡ serial + number_of_lem takes (history_of d))

-- "nothing afterwards depends on what stood there before"
abbrev pub Forgets : Type 0
Forgets =
    (rubbish rubbish' : World) (headers buckets serial boot : ℕ) (items : List Item)
    → (preparing headers buckets serial boot rubbish.table rubbish.health).0 ≡ Done
    → (preparing headers buckets serial boot rubbish'.table rubbish'.health).0 ≡ Done
    → run (cold rubbish) (preparation headers buckets serial boot ∷ items) ≡ run (cold rubbish') (preparation headers buckets serial boot ∷ items)

-- "A refused preparation changes no lent word .. and the head before it stays the one in force": the item, which reads the runs that the
-- preparation hands back, leaves the world as it was
abbrev pub RefusedStays : Type 0
RefusedStays =
    (k : Course) (headers buckets serial boot : ℕ)
    → let a = (preparing headers buckets serial boot k.world.table k.world.health).0 in
    (a ≡ Done → ⊥) → next_item k (preparation headers buckets serial boot) ≡ noted k [] (saying a) k.world

-- "refuse ReportFull before the first change": a refused salvage, which reads the runs that the salvage hands back, leaves the history as it was
abbrev pub SalvageRefusedStays : Type 0
SalvageRefusedStays =
    (k : Course) (paper : Head) (report list : List ℕ)
    → (Begins k.world (salvage paper report list) → ⊥) → next_item k (salvage paper report list) ≡ k

-- ---- of one call: its answer, its grant buffer, and the world that it leaves

abbrev pub answer_in : Made (World × Says) → Answer
answer_in m = m.seen.1.answer

abbrev pub buffer_in : Made (World × Says) → List ℕ
buffer_in m = m.seen.1.grants

abbrev pub world_in : Made (World × Says) → World
world_in m = m.seen.0

-- the same of ours
abbrev pub answers : World → Call → Answer
answers w k = answer_in (perform w k)

abbrev pub leaves : World → Call → World
leaves w k = world_in (perform w k)

abbrev pub log_of : World → Call → List Event
log_of w k = (perform w k).log

-- ---- whatever the arena holds, cold RAM too: every event of a call is legal in the state in which it happens, and together they make the
-- world that the call leaves

abbrev pub LawfulAlways : Build → Type 0
LawfulAlways f = (w : World) (k : Call) → Lawful w (f w k).log × (world_in (f w k) ≡ now w (f w k).log)

-- ---- "Each result gives attempts begun, boundaries, yields and dropped steps; each equals the number of such events in these steps." The
-- crew gives "no other counts" than its own.

abbrev pub CountsAre : Build → Type 0
CountsAre f =
    (w : World) (k : Call) → (IsCrew k → ⊥)
    → let log = (f w k).log in
    (f w k).seen.1.counts ≡ counts_of (number_of_lem attempts log) (number_of_lem boundaries log) (number_of_lem yields log) (number_of_lem drops log)

-- ---- "Refusals 1 to 5, 8 (by cell), 12 to 15 change nothing, all counts 0." Document 02, L8: so does 16. The script's place and the grant buffer are as
-- they were given.

abbrev pub Early : Call → Refusal → Type 0
Early k r = (number_of r ≤ 5) ⊎ (((number_of r ≡ 8) × ByCell k) ⊎ (12 ≤ number_of r))

abbrev pub ChangesNothing : Build → Type 0
ChangesNothing f =
    (w : World) (k : Call) (r : Refusal) → answer_in (f w k) ≡ Refused r → Early k r → f w k ≡ unchanged w k r

-- the same of a crew: "for each member, cells taken and cells released, and the counts of moving and idle turns" are 0
abbrev pub CrewBuild : Type 0
CrewBuild = Head → (table health counts cells turns : List ℕ) → Made (CrewReply × List ℕ)

abbrev pub nobody_moved : Head → Refusal → CrewReply
nobody_moved h r = record { head = h; moving = 0; idle = 0; taken = replicate 16 0; released = replicate 16 0; answer = Refused r }

abbrev pub CrewRefused : CrewBuild → Type 0
CrewRefused f =
    (h : Head) (t g counts cells turns : List ℕ) (r : Refusal) → (f h t g counts cells turns).seen.0.answer ≡ Refused r
    → f h t g counts cells turns ≡ record { seen = (nobody_moved h r, t); log = [] }

-- and of a crew at work: the counters are as they were, too
abbrev pub CrewAtWorkBuild : Type 0
CrewAtWorkBuild = Head → (table health counts cells turns counters : List ℕ) → Made (CrewReply × (List ℕ × List ℕ))

abbrev pub CrewAtWorkRefused : CrewAtWorkBuild → Type 0
CrewAtWorkRefused f =
    (h : Head) (t g counts cells turns counters : List ℕ) (r : Refusal) → (f h t g counts cells turns counters).seen.0.answer ≡ Refused r
    → f h t g counts cells turns counters ≡ record { seen = (nobody_moved h r, (t, counters)); log = [] }

-- ---- what a grant is

-- "Cell number = header x B + bucket.": a grant names the cell that was asked for, by key the key's own. Document 02, L8: "The head and every lease
-- gain a boot number": a grant has the head's
abbrev pub GrantIs : Build → Type 0
GrantIs f = (w : World) (k : Call) (l : Lease) → answer_in (f w k) ≡ Granted l → (l.cell ≡ asked w k) × (l.boot ≡ w.head.boot)

-- "On a grant, multi-lock's buffer holds cell and serial for each key, in key order". Document 02, L4: "hand back one lease per key in the
-- caller's order". L8: three words a lease, the third the head's boot number
abbrev pub BufferIs : Build → Type 0
BufferIs f =
    (w : World) (k : Call) (registry keys : List ℕ) → ByKeys k registry keys
    → let m = f w k in
    answer_in m ≡ AllGranted
    → (length (buffer_in m) ≡ 3 * count_in keys)
    × ((p : ℕ) → p < count_in keys → (hold_at (holds_of (buffer_in m)) p).cell ≡ key_cell w.head.buckets registry keys p)
    × ((p : ℕ) → p < count_in keys → (lease_in (buffer_in m) p).boot ≡ w.head.boot)

-- whether an answer, with the grant buffer, hands over a lease with this cell and serial; its boot number is the head's (`GrantIs`, `BufferIs`)
abbrev pub HandsOver : Answer → List ℕ → Hold → Type 0
HandsOver Done grants l = ⊥
HandsOver (Cell c) grants l = ⊥
HandsOver (Granted m) grants l = hold_in m ≡ l
HandsOver AllGranted grants l = is_in l (holds_of grants) ≡ true
HandsOver (Busy why) grants l = ⊥
HandsOver (Refused r) grants l = ⊥
HandsOver (RefusedAt r p) grants l = ⊥

abbrev pub Gives : Made (World × Says) → Hold → Type 0
Gives m = HandsOver (answer_in m) (buffer_in m)

-- what is handed over is live in the world that the call leaves
abbrev pub GivenLive : Build → Type 0
GivenLive f = (w : World) (k : Call) (l : Hold) → Gives (f w k) l → Live (world_in (f w k)) l

-- ---- "one that takes a cell, answers nothing and keeps it" is ruled out: what a call takes and does not hand over, it gives back

-- in this log the caller releases this cell with this serial
abbrev pub GivenBack : ℕ → ℕ → List Event → Type 0
GivenBack c s log = (m n : List Event) × (log ≡ m ++ (released by_caller c s ∷ n))

-- an unfinished crew keeps what it took
abbrev pub NothingKept : Build → Type 0
NothingKept f =
    (w : World) (k : Call) (c s : ℕ) (before after : List Event) → (IsCrew k → ⊥)
    → (f w k).log ≡ before ++ (took by_caller c s ∷ after)
    → (Gives (f w k) (hold_of c s) × Live (world_in (f w k)) (hold_of c s))
    ⊎ (GivenBack c s after × (Live (world_in (f w k)) (hold_of c s) → ⊥))

-- "6 to 11 .. the caller holds nothing new; the grant buffer is unchanged", and so for Busy
abbrev pub Fails : Answer → Type 0
Fails Done = ⊥
Fails (Cell c) = ⊥
Fails (Granted l) = ⊥
Fails AllGranted = ⊥
Fails (Busy why) = Unit {0}
Fails (Refused r) = Unit {0}
Fails (RefusedAt r p) = Unit {0}

-- the buffer is as it was given, and all that the caller took it released, so that it is not live
abbrev pub NothingHeld : Call → Made (World × Says) → Type 0
NothingHeld k m =
    (buffer_in m ≡ buffer k)
    × ((c s : ℕ) (before after : List Event) → m.log ≡ before ++ (took by_caller c s ∷ after)
    → GivenBack c s after × (Live (world_in m) (hold_of c s) → ⊥))

abbrev pub NothingNew : Build → Type 0
NothingNew f = (w : World) (k : Call) → (IsCrew k → ⊥) → Fails (answer_in (f w k)) → NothingHeld k (f w k)

-- ---- giving back: "last first"

abbrev pub FallingAll : Build → Type 0
FallingAll f =
    (w : World) (script : List ℕ) (place : ℕ) (leases : List ℕ)
    → let m = f w (release_all script place leases) in
    answer_in m ≡ Done → caller_releases m.log ≡ reverse (holds_of leases)

-- "On a refusal at position p all taken leases are released as in `release_all`": the log of a refused multi-lock parts in two. The keys
-- before the position p were locked in the first part, each its own cell, and every other lease taken there was given back there; the second
-- part is the rollback: the caller releases those p leases, the last first, and nothing else
pub record RolledBack (buckets : ℕ) (registry keys : List ℕ) (p : ℕ) (log : List Event) : Type 0 where
  pub locking : List Event
  pub rollback : List Event
  pub leases : List Hold
  pub parts : log ≡ locking ++ rollback
  pub position : p < count_in keys
  pub many : length leases ≡ p
  pub own : (i : ℕ) → i < p → (hold_at leases i).cell ≡ key_cell buckets registry keys i
  pub taken : (l : Hold) → is_in l leases ≡ true → (m n : List Event) × (locking ≡ m ++ (took by_caller l.cell l.serial ∷ n))
  pub others : (c s : ℕ) (before after : List Event) → locking ≡ before ++ (took by_caller c s ∷ after)
      → (is_in (hold_of c s) leases ≡ true) ⊎ GivenBack c s after
  pub last_first : caller_releases rollback ≡ reverse leases
  pub none_taken : (c s : ℕ) (before after : List Event) → rollback ≡ before ++ (took by_caller c s ∷ after) → ⊥

abbrev pub RollbackIs : Build → Type 0
RollbackIs f =
    (w : World) (registry script : List ℕ) (place : ℕ) (held keys grants : List ℕ) (r : Refusal) (p : ℕ)
    → let m = f w (acquire_locks registry script place held keys grants) in
    answer_in m ≡ RefusedAt r p → RolledBack w.head.buckets registry keys p m.log

-- ---- "up to a release naming its cell and serial": every release is one that the call, or a step of its script from its place on, named

-- a step of the script, not before the place `low`, releases this cell with this serial; crate `history_exact` says it of the place afterwards too
abbrev pub ByStep : List ℕ → ℕ → ℕ → ℕ → Type 0
ByStep script low c s = (p : ℕ) × (low ≤ p) × (p < steps_in script) × (kind_at script p ≡ 2) × (place_at script p ≡ c) × (number_at script p ≡ s)

abbrev pub Named : Build → Type 0
Named f =
    (w : World) (k : Call) (c s : ℕ) (before after : List Event)
    → ((f w k).log ≡ before ++ (released by_script c s ∷ after) → ByStep (script_of k) (place_of k) c s)
    × ((f w k).log ≡ before ++ (released by_caller c s ∷ after)
    → (is_in (hold_of c s) (given_up k) ≡ true) ⊎ ((m n : List Event) × (before ≡ m ++ (took by_caller c s ∷ n))))

-- a lone foreign step releases only what it names
abbrev pub NamedAlone : Stepper → Type 0
NamedAlone f =
    (w : World) (kind place number c s : ℕ) (a : Actor) (before after : List Event)
    → (f w kind place number).log ≡ before ++ (released a c s ∷ after)
    → (a ≡ by_script) × (kind ≡ 2) × (place ≡ c) × (number ≡ s)

-- ---- "Protected: the caller's held leases": a held lease is live at every point of a call that holds it

abbrev pub HeldLive : Build → Type 0
HeldLive f =
    (w : World) (k : Call) (l : Hold) (before after : List Event) → is_in l (held_of k) ≡ true → Live w l
    → (f w k).log ≡ before ++ after → Live (now w before) l

-- ---- document 02, L8: boot numbers

-- no call changes the head's boot number, and no lone foreign step does
abbrev pub BootStays : Build → Type 0
BootStays f = (w : World) (k : Call) → (world_in (f w k)).head.boot ≡ w.head.boot

abbrev pub BootStaysAlone : Stepper → Type 0
BootStaysAlone f = (w : World) (kind place number : ℕ) → (f w kind place number).seen.head.boot ≡ w.head.boot

-- a lease that has not the head's boot number, or is not live: wherever a call is given one, as the lease that it is about or in its list, it is refused, hands
-- nothing over, changes nothing and has no counts
abbrev pub RefusedUnowned : Build → Type 0
RefusedUnowned f =
    (w : World) (k : Call) (l : Lease) → NamesLease k l → (lease_live w.head w.table l ≡ true → ⊥)
    → (r : Refusal) × Early k r × (f w k ≡ unchanged w k r)

-- "A lease with another boot number is refused": wherever a call is given one, as the lease that it is about or in its list, it changes nothing, hands
-- nothing over and has no counts. The refusal is 16, unless a test before that one refuses (`StaleIs16`)
abbrev pub RefusedStale : Build → Type 0
RefusedStale f =
    (w : World) (k : Call) (l : Lease) → NamesLease k l → is_stale w.head l ≡ true
    → (r : Refusal) × Early k r × (f w k ≡ unchanged w k r)

-- the calls that are given one lease and no list
abbrev pub OneLease : Call → Lease → Type 0
OneLease (try_acquire c) l = ⊥
OneLease (drop_lease m) l = m ≡ l
OneLease (read_permission m) l = m ≡ l
OneLease (competing_acquire m) l = m ≡ l
OneLease (release_then_handoff m) l = m ≡ l
OneLease (foreign_release held m) l = ⊥
OneLease (drop_preserving held m) l = ⊥
OneLease (acquire_preserving held c) l = ⊥
OneLease (environment script place held) l = ⊥
OneLease (try_lock script place held c) l = ⊥
OneLease (transactional registry script place held binding bucket) l = ⊥
OneLease (acquire_bucket registry script place held binding bucket) l = ⊥
OneLease (release_all script place leases) l = ⊥
OneLease (acquire_locks registry script place held keys grants) l = ⊥
OneLease (acquire_sorted registry script place held keys grants) l = ⊥
OneLease (crew counts cells turns) l = ⊥
OneLease (crew_at_work counts cells turns counters) l = ⊥

-- the calls that are given one lease beside a held list
pub data Beside : Call → (held : List ℕ) → Lease → Type 0 where
  releases_between : (held : List ℕ) (l : Lease) → Beside (foreign_release held l) held l
  drops_beside : (held : List ℕ) (l : Lease) → Beside (drop_preserving held l) held l

-- the tests of head and runs, and of a script; with a registry; of a held list up to position i: each lease before has the head's boot number and is live
abbrev pub scripted : World → List ℕ → ℕ → List Rule
scripted w script place = bad_shape w.head w.table ∷ bad_health w.head w.health ∷ bad_script script place ∷ []

abbrev pub keyed : World → List ℕ → List ℕ → ℕ → List Rule
keyed w registry script place = bad_shape w.head w.table ∷ bad_health w.head w.health ∷ bad_registry registry ∷ bad_script script place ∷ []

abbrev pub held_before : World → List ℕ → ℕ → List Rule
held_before w held i = bad_held_length held ∷ not_live w.head w.table 0 (take i (leases_of held))

-- the calls that are given a list of leases: its words, and what is tested before the lease at position i of it
pub data Listed (w : World) : Call → (leases : List ℕ) → (ℕ → List Rule) → Type 0 where
  beside_release : (held : List ℕ) (l : Lease) → Listed w (foreign_release held l) held (λ i. bad_shape w.head w.table ∷ held_before w held i)
  beside_drop : (held : List ℕ) (l : Lease) → Listed w (drop_preserving held l) held (λ i. bad_shape w.head w.table ∷ held_before w held i)
  beside_acquire : (held : List ℕ) (c : ℕ) → Listed w (acquire_preserving held c) held (λ i. bad_shape w.head w.table ∷ held_before w held i)
  in_environment : (script : List ℕ) (place : ℕ) (held : List ℕ) → Listed w (environment script place held) held (λ i. scripted w script place ++ held_before w held i)
  in_lock : (script : List ℕ) (place : ℕ) (held : List ℕ) (c : ℕ) → Listed w (try_lock script place held c) held (λ i. scripted w script place ++ held_before w held i)
  in_attempt : (registry script : List ℕ) (place : ℕ) (held : List ℕ) (binding bucket : ℕ)
      → Listed w (transactional registry script place held binding bucket) held (λ i. keyed w registry script place ++ held_before w held i)
  in_attempts : (registry script : List ℕ) (place : ℕ) (held : List ℕ) (binding bucket : ℕ)
      → Listed w (acquire_bucket registry script place held binding bucket) held (λ i. keyed w registry script place ++ held_before w held i)
  in_locks : (registry script : List ℕ) (place : ℕ) (held keys grants : List ℕ)
      → Listed w (acquire_locks registry script place held keys grants) held (λ i. keyed w registry script place ++ held_before w held i)
  in_sorted : (registry script : List ℕ) (place : ℕ) (held keys grants : List ℕ)
      → Listed w (acquire_sorted registry script place held keys grants) held (λ i. keyed w registry script place ++ held_before w held i)
  to_release : (script : List ℕ) (place : ℕ) (leases : List ℕ)
      → Listed w (release_all script place leases) leases
      (λ i. scripted w script place ++ (too_many_leases leases ∷ not_releasable w.head w.table 0 [] (take i (leases_of leases))))

-- where a call is given a lease, by position, and what it tests before that lease
pub data Placed (w : World) (k : Call) (l : Lease) : (ahead : List Rule) (position : ℕ) → Type 0 where
  -- one lease and no list: behind the shape
  alone : OneLease k l → Placed w k l (bad_shape w.head w.table ∷ []) 0
  -- one lease beside a held list: behind the shape and that list
  beside : (held : List ℕ) → Beside k held l → Placed w k l (bad_shape w.head w.table ∷ bad_held w.head w.table held) 0
  -- in a list: behind what is tested before its position
  listed : (leases : List ℕ) (before : ℕ → List Rule) (i : ℕ) → Listed w k leases before → 3 * i + 2 < length leases → lease_in leases i ≡ l
      → Placed w k l (before i) i

-- these are all the places: a call names a lease exactly if that stands in one of them
abbrev pub NamesPlaced : Type 0
NamesPlaced = (w : World) (k : Call) (l : Lease) → NamesLease k l ↔ ((ahead : List Rule) × (i : ℕ) × Placed w k l ahead i)

-- "with its position, nothing changed and all counts 0: after the length tests, position by position, before 3 and 12 at that place"; 0 for one lease.
-- "the first that applies is given, and only then": 16 at a position exactly if a lease with another boot number stands there and no check before it applies
abbrev pub StaleIs16 : Build → Type 0
StaleIs16 f =
    (w : World) (k : Call) (i : ℕ)
    → (answer_in (f w k) ≡ Refused (StaleBoot i))
    ↔ ((l : Lease) × (ahead : List Rule) × Placed w k l ahead i × (first ahead ≡ Ok tt) × (is_stale w.head l ≡ true))
