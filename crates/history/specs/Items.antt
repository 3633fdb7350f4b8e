-- What a history is made of: calls of document 01 with any arguments, lone foreign steps, preparations, and document 02's salvages.
use Rattle.std.specs.Prelude.{ℕ, ◌≡◌, List, [], ◌∷◌, ◌++◌, false, ◌⊎◌, get_or, Ok, Err}
use Rattle.types.specs.Checks.{SalvageAnswer}
use Rattle.types.specs.declared.SalvageRefusal.TheVariants as salvaged
use Rattle.model.specs.Log.{Made, Event, gives, ◌>>=◌, ◌>>◌}
use Rattle.model.specs.Arena.{cell_number, spent_to, hold_in, leases_of, holds_of}
use Rattle.model.specs.Refusals.{Rule}
use Rattle.model.specs.Foreign.{step_of}
use Rattle.model.specs.Lock.{binding_at, bucket_at}
use Rattle.model.specs.Checks.{cell_rules, lease_rules, held_cell_rules, held_lease_rules, script_rules, lock_rules, bucket_rules, release_rules, locks_rules}
use Rattle.model.specs.Calls.{counts_of, given, prepare_of, try_acquire_of, drop_lease_of, read_permission_of, competing_acquire_of, release_then_handoff_of, foreign_release_of, acquire_preserving_of, drop_preserving_of, environment_of, try_lock_of, transactional_of, acquire_bucket_of, release_all_of, acquire_locks_of}
use Rattle.model.specs.Sorted.{acquire_sorted_of}
use Rattle.model.specs.Crew.{crew_rules, crew_at_work_rules, crew_of, crew_at_work_of}
use Rattle.model.specs.Salvage.{salvage_of}
use Rattle.types.specs.declared.Answer.{Answer}
use Rattle.types.specs.declared.Answer.TheVariants.{Done, Cell, Granted, AllGranted, Busy, Refused, RefusedAt}
use Rattle.types.specs.declared.Counts.{Counts}
use Rattle.types.specs.declared.Head.{Head}
use Rattle.types.specs.declared.Hold.{Hold}
use Rattle.types.specs.declared.Lease.{Lease}
use Rattle.types.specs.declared.Refusal.{Refusal}
use Rattle.history.specs.World.{World, world_of}

-- a call without its head, table and health: these are what the last item left
pub data Call : Type 0 where
  try_acquire : (cell : ℕ) → Call
  drop_lease read_permission competing_acquire release_then_handoff : Lease → Call
  foreign_release drop_preserving : (held : List ℕ) → Lease → Call
  acquire_preserving : (held : List ℕ) (cell : ℕ) → Call
  environment : (script : List ℕ) (place : ℕ) (held : List ℕ) → Call
  try_lock : (script : List ℕ) (place : ℕ) (held : List ℕ) (cell : ℕ) → Call
  transactional acquire_bucket : (registry script : List ℕ) (place : ℕ) (held : List ℕ) (binding bucket : ℕ) → Call
  release_all : (script : List ℕ) (place : ℕ) (leases : List ℕ) → Call
  acquire_locks : (registry script : List ℕ) (place : ℕ) (held keys grants : List ℕ) → Call
  -- document 02, L4: "Keys in any order, and doubles."
  acquire_sorted : (registry script : List ℕ) (place : ℕ) (held keys grants : List ℕ) → Call
  crew : (counts cells turns : List ℕ) → Call
  crew_at_work : (counts cells turns counters : List ℕ) → Call

-- ---- what a call is given, by kind of call: no script, no list or no buffer is an empty one

-- the script of a call
abbrev pub script_of : Call → List ℕ
script_of (try_acquire c) = []
script_of (drop_lease l) = []
script_of (read_permission l) = []
script_of (competing_acquire l) = []
script_of (release_then_handoff l) = []
script_of (foreign_release held l) = []
script_of (drop_preserving held l) = []
script_of (acquire_preserving held c) = []
script_of (environment script place held) = script
script_of (try_lock script place held c) = script
script_of (transactional registry script place held binding bucket) = script
script_of (acquire_bucket registry script place held binding bucket) = script
script_of (release_all script place leases) = script
script_of (acquire_locks registry script place held keys grants) = script
script_of (acquire_sorted registry script place held keys grants) = script
script_of (crew counts cells turns) = []
script_of (crew_at_work counts cells turns counters) = []

-- the place in its script at which a call begins
abbrev pub place_of : Call → ℕ
place_of (try_acquire c) = 0
place_of (drop_lease l) = 0
place_of (read_permission l) = 0
place_of (competing_acquire l) = 0
place_of (release_then_handoff l) = 0
place_of (foreign_release held l) = 0
place_of (drop_preserving held l) = 0
place_of (acquire_preserving held c) = 0
place_of (environment script place held) = place
place_of (try_lock script place held c) = place
place_of (transactional registry script place held binding bucket) = place
place_of (acquire_bucket registry script place held binding bucket) = place
place_of (release_all script place leases) = place
place_of (acquire_locks registry script place held keys grants) = place
place_of (acquire_sorted registry script place held keys grants) = place
place_of (crew counts cells turns) = 0
place_of (crew_at_work counts cells turns counters) = 0

-- the held list of a call, as cells and serials
abbrev pub held_of : Call → List Hold
held_of (try_acquire c) = []
held_of (drop_lease l) = []
held_of (read_permission l) = []
held_of (competing_acquire l) = []
held_of (release_then_handoff l) = []
held_of (foreign_release held l) = holds_of held
held_of (drop_preserving held l) = holds_of held
held_of (acquire_preserving held c) = holds_of held
held_of (environment script place held) = holds_of held
held_of (try_lock script place held c) = holds_of held
held_of (transactional registry script place held binding bucket) = holds_of held
held_of (acquire_bucket registry script place held binding bucket) = holds_of held
held_of (release_all script place leases) = []
held_of (acquire_locks registry script place held keys grants) = holds_of held
held_of (acquire_sorted registry script place held keys grants) = holds_of held
held_of (crew counts cells turns) = []
held_of (crew_at_work counts cells turns counters) = []

-- the leases that a call is given to give up, as cells and serials
abbrev pub given_up : Call → List Hold
given_up (try_acquire c) = []
given_up (drop_lease l) = hold_in l ∷ []
given_up (read_permission l) = []
given_up (competing_acquire l) = []
given_up (release_then_handoff l) = hold_in l ∷ []
given_up (foreign_release held l) = hold_in l ∷ []
given_up (drop_preserving held l) = hold_in l ∷ []
given_up (acquire_preserving held c) = []
given_up (environment script place held) = []
given_up (try_lock script place held c) = []
given_up (transactional registry script place held binding bucket) = []
given_up (acquire_bucket registry script place held binding bucket) = []
given_up (release_all script place leases) = holds_of leases
given_up (acquire_locks registry script place held keys grants) = []
given_up (acquire_sorted registry script place held keys grants) = []
given_up (crew counts cells turns) = []
given_up (crew_at_work counts cells turns counters) = []

-- a lease of a list
abbrev pub Among : Lease → List Lease → Type 0
Among l [] = ⊥
Among l (k ∷ ks) = (k ≡ l) ⊎ Among l ks

-- the leases that a call names, with their boot numbers: the one that it is given, and those of its list
abbrev pub NamesLease : Call → Lease → Type 0
NamesLease (try_acquire c) l = ⊥
NamesLease (drop_lease m) l = m ≡ l
NamesLease (read_permission m) l = m ≡ l
NamesLease (competing_acquire m) l = m ≡ l
NamesLease (release_then_handoff m) l = m ≡ l
NamesLease (foreign_release held m) l = (m ≡ l) ⊎ Among l (leases_of held)
NamesLease (drop_preserving held m) l = (m ≡ l) ⊎ Among l (leases_of held)
NamesLease (acquire_preserving held c) l = Among l (leases_of held)
NamesLease (environment script place held) l = Among l (leases_of held)
NamesLease (try_lock script place held c) l = Among l (leases_of held)
NamesLease (transactional registry script place held binding bucket) l = Among l (leases_of held)
NamesLease (acquire_bucket registry script place held binding bucket) l = Among l (leases_of held)
NamesLease (release_all script place leases) l = Among l (leases_of leases)
NamesLease (acquire_locks registry script place held keys grants) l = Among l (leases_of held)
NamesLease (acquire_sorted registry script place held keys grants) l = Among l (leases_of held)
NamesLease (crew counts cells turns) l = ⊥
NamesLease (crew_at_work counts cells turns counters) l = ⊥

-- the buffer that a call was given
abbrev pub buffer : Call → List ℕ
buffer (try_acquire c) = []
buffer (drop_lease l) = []
buffer (read_permission l) = []
buffer (competing_acquire l) = []
buffer (release_then_handoff l) = []
buffer (foreign_release held l) = []
buffer (drop_preserving held l) = []
buffer (acquire_preserving held c) = []
buffer (environment script place held) = []
buffer (try_lock script place held c) = []
buffer (transactional registry script place held binding bucket) = []
buffer (acquire_bucket registry script place held binding bucket) = []
buffer (release_all script place leases) = []
buffer (acquire_locks registry script place held keys grants) = grants
buffer (acquire_sorted registry script place held keys grants) = grants
buffer (crew counts cells turns) = []
buffer (crew_at_work counts cells turns counters) = []

-- the calls that are given a cell number
abbrev pub ByCell : Call → Type 0
ByCell (try_acquire c) = Unit {0}
ByCell (drop_lease l) = ⊥
ByCell (read_permission l) = ⊥
ByCell (competing_acquire l) = ⊥
ByCell (release_then_handoff l) = ⊥
ByCell (foreign_release held l) = ⊥
ByCell (drop_preserving held l) = ⊥
ByCell (acquire_preserving held c) = Unit {0}
ByCell (environment script place held) = ⊥
ByCell (try_lock script place held c) = Unit {0}
ByCell (transactional registry script place held binding bucket) = ⊥
ByCell (acquire_bucket registry script place held binding bucket) = ⊥
ByCell (release_all script place leases) = ⊥
ByCell (acquire_locks registry script place held keys grants) = ⊥
ByCell (acquire_sorted registry script place held keys grants) = ⊥
ByCell (crew counts cells turns) = ⊥
ByCell (crew_at_work counts cells turns counters) = ⊥

-- the crew, with or without work
abbrev pub IsCrew : Call → Type 0
IsCrew (try_acquire c) = ⊥
IsCrew (drop_lease l) = ⊥
IsCrew (read_permission l) = ⊥
IsCrew (competing_acquire l) = ⊥
IsCrew (release_then_handoff l) = ⊥
IsCrew (foreign_release held l) = ⊥
IsCrew (drop_preserving held l) = ⊥
IsCrew (acquire_preserving held c) = ⊥
IsCrew (environment script place held) = ⊥
IsCrew (try_lock script place held c) = ⊥
IsCrew (transactional registry script place held binding bucket) = ⊥
IsCrew (acquire_bucket registry script place held binding bucket) = ⊥
IsCrew (release_all script place leases) = ⊥
IsCrew (acquire_locks registry script place held keys grants) = ⊥
IsCrew (acquire_sorted registry script place held keys grants) = ⊥
IsCrew (crew counts cells turns) = Unit {0}
IsCrew (crew_at_work counts cells turns counters) = Unit {0}

-- the calls that lock many keys, with their registry and keys: in the order given, and in any order
pub data ByKeys : Call → (registry keys : List ℕ) → Type 0 where
  in_order : (registry script : List ℕ) (place : ℕ) (held keys grants : List ℕ) → ByKeys (acquire_locks registry script place held keys grants) registry keys
  any_order : (registry script : List ℕ) (place : ℕ) (held keys grants : List ℕ) → ByKeys (acquire_sorted registry script place held keys grants) registry keys

-- ---- which cell a call asks for

-- "Cell number = header x B + bucket."
abbrev pub cell_of : (buckets : ℕ) (registry : List ℕ) (binding bucket : ℕ) → ℕ
cell_of buckets registry binding bucket = cell_number buckets (get_or registry binding 0) bucket

-- the cell of a multi-lock's key at a position
abbrev pub key_cell : (buckets : ℕ) (registry keys : List ℕ) → ℕ → ℕ
key_cell buckets registry keys p = cell_of buckets registry (binding_at keys p) (bucket_at keys p)

-- the cell that a call asks for; 0 where it asks for none, and then it never answers `Granted`
abbrev pub asked : World → Call → ℕ
asked w (try_acquire c) = c
asked w (drop_lease l) = 0
asked w (read_permission l) = 0
asked w (competing_acquire l) = l.cell
asked w (release_then_handoff l) = l.cell
asked w (foreign_release held l) = l.cell
asked w (drop_preserving held l) = 0
asked w (acquire_preserving held c) = c
asked w (environment script place held) = 0
asked w (try_lock script place held c) = c
asked w (transactional registry script place held binding bucket) = cell_of w.head.buckets registry binding bucket
asked w (acquire_bucket registry script place held binding bucket) = cell_of w.head.buckets registry binding bucket
asked w (release_all script place leases) = 0
asked w (acquire_locks registry script place held keys grants) = 0
asked w (acquire_sorted registry script place held keys grants) = 0
asked w (crew counts cells turns) = 0
asked w (crew_at_work counts cells turns counters) = 0

-- ---- the checks of a call

-- those of document 01's table on what it takes, in the order of the table, but for 16, which stands before 3 and 12 at its place (document 02, L8);
-- the sorted call's tests of headers and buckets, position by position, come behind and name the position (crate `sorted_theory`, `KeysFirst`)
abbrev pub rules : World → Call → List Rule
rules w (try_acquire c) = cell_rules w.head w.table c
rules w (drop_lease l) = lease_rules w.head w.table l
rules w (read_permission l) = lease_rules w.head w.table l
rules w (competing_acquire l) = lease_rules w.head w.table l
rules w (release_then_handoff l) = lease_rules w.head w.table l
rules w (foreign_release held l) = held_lease_rules w.head w.table held l
rules w (drop_preserving held l) = held_lease_rules w.head w.table held l
rules w (acquire_preserving held c) = held_cell_rules w.head w.table held c
rules w (environment script place held) = script_rules w.head w.table w.health script place held
rules w (try_lock script place held c) = lock_rules w.head w.table w.health script place held c
rules w (transactional registry script place held binding bucket) = bucket_rules w.head w.table w.health registry script place held binding
rules w (acquire_bucket registry script place held binding bucket) = bucket_rules w.head w.table w.health registry script place held binding
rules w (release_all script place leases) = release_rules w.head w.table w.health script place leases
rules w (acquire_locks registry script place held keys grants) = locks_rules w.head w.table w.health registry script place held keys grants
rules w (acquire_sorted registry script place held keys grants) = locks_rules w.head w.table w.health registry script place held keys grants
rules w (crew counts cells turns) = crew_rules w.head w.table w.health counts cells turns
rules w (crew_at_work counts cells turns counters) = crew_at_work_rules w.head w.table w.health counts cells turns counters

-- none of them applies
abbrev pub Clear : List Rule → Type 0
Clear [] = Unit {0}
Clear (r ∷ rs) = (r.applies ≡ false) × Clear rs

-- ---- what a call says, and what it leaves

-- the crew gives no such counts; the place is the script's afterwards, and only the multi-locks have a grant buffer
pub record Says : Type 0 where
  pub answer : Answer
  pub counts : Counts
  pub place : ℕ
  pub grants : List ℕ

abbrev pub says : Answer → Counts → ℕ → List ℕ → Says
says a k p b = record { answer = a; counts = k; place = p; grants = b }

-- all as it was, and no count
abbrev pub unchanged : World → Call → Refusal → Made (World × Says)
unchanged w k r = record { seen = (w, says (Refused r) (counts_of 0 0 0 0) (place_of k) (buffer k)); log = [] }

-- the same, refused at a position before any attempt
abbrev pub unchanged_at : World → Call → Refusal → ℕ → Made (World × Says)
unchanged_at w k r p = record { seen = (w, says (RefusedAt r p) (counts_of 0 0 0 0) (place_of k) (buffer k)); log = [] }

-- the definition of each call, given the world that the last item left
unfoldable pub perform : World → Call → Made (World × Says)
perform w (try_acquire c) = do
  (r, t) ← try_acquire_of w.head w.table c
  gives (world_of r.head t w.health, says r.answer r.counts 0 [])
perform w (drop_lease l) = do
  (r, t) ← drop_lease_of w.head w.table l
  gives (world_of r.head t w.health, says r.answer r.counts 0 [])
perform w (read_permission l) = do
  r ← read_permission_of w.head w.table l
  gives (world_of r.head w.table w.health, says r.answer r.counts 0 [])
perform w (competing_acquire l) = do
  (r, t) ← competing_acquire_of w.head w.table l
  gives (world_of r.head t w.health, says r.answer r.counts 0 [])
perform w (release_then_handoff l) = do
  (r, t) ← release_then_handoff_of w.head w.table l
  gives (world_of r.head t w.health, says r.answer r.counts 0 [])
perform w (foreign_release held l) = do
  (r, t) ← foreign_release_of w.head w.table held l
  gives (world_of r.head t w.health, says r.answer r.counts 0 [])
perform w (drop_preserving held l) = do
  (r, t) ← drop_preserving_of w.head w.table held l
  gives (world_of r.head t w.health, says r.answer r.counts 0 [])
perform w (acquire_preserving held c) = do
  (r, t) ← acquire_preserving_of w.head w.table held c
  gives (world_of r.head t w.health, says r.answer r.counts 0 [])
perform w (environment script place held) = do
  (r, (t, g)) ← environment_of w.head w.table w.health script place held
  gives (world_of r.head t g, says r.answer r.counts r.place [])
perform w (try_lock script place held c) = do
  (r, (t, g)) ← try_lock_of w.head w.table w.health script place held c
  gives (world_of r.head t g, says r.answer r.counts r.place [])
perform w (transactional registry script place held binding bucket) = do
  (r, (t, g)) ← transactional_of w.head w.table w.health registry script place held binding bucket
  gives (world_of r.head t g, says r.answer r.counts r.place [])
perform w (acquire_bucket registry script place held binding bucket) = do
  (r, (t, g)) ← acquire_bucket_of w.head w.table w.health registry script place held binding bucket
  gives (world_of r.head t g, says r.answer r.counts r.place [])
perform w (release_all script place leases) = do
  (r, (t, g)) ← release_all_of w.head w.table w.health script place leases
  gives (world_of r.head t g, says r.answer r.counts r.place [])
perform w (acquire_locks registry script place held keys grants) = do
  (r, (t, (g, b))) ← acquire_locks_of w.head w.table w.health registry script place held keys grants
  gives (world_of r.head t g, says r.answer r.counts r.place b)
perform w (acquire_sorted registry script place held keys grants) = do
  (r, (t, (g, b))) ← acquire_sorted_of w.head w.table w.health registry script place held keys grants
  gives (world_of r.head t g, says r.answer r.counts r.place b)
perform w (crew counts cells turns) = do
  (r, t) ← crew_of w.head w.table w.health counts cells turns
  gives (world_of r.head t w.health, says r.answer (counts_of 0 0 0 0) 0 [])
perform w (crew_at_work counts cells turns counters) = do
  (r, (t, x)) ← crew_at_work_of w.head w.table w.health counts cells turns counters
  gives (world_of r.head t w.health, says r.answer (counts_of 0 0 0 0) 0 [])

-- a lone foreign step, between two calls: nobody's lease is protected then
unfoldable pub foreign : World → ℕ → ℕ → ℕ → Made World
foreign w kind place number = do
  (s, (t, g)) ← step_of (given w.head [] []) w.head.next w.table w.health kind place number
  gives (world_of (spent_to w.head s.next) t g)

-- ---- an answering function

-- what answers calls: for each world and call the world that it leaves, what it says, and the log of what it did. `perform` is ours
abbrev pub Build : Type 0
Build = World → Call → Made (World × Says)

-- and one that makes lone foreign steps; `foreign` is ours
abbrev pub Stepper : Type 0
Stepper = World → (kind place number : ℕ) → Made World

-- ---- a history, seen since its last start: a preparation, or a salvage

pub data Item : Type 0 where
  call : Call → Item
  foreign_step : (kind place number : ℕ) → Item
  -- a preparation of the arena's own runs; of other runs that are lent in their place, whatever they hold
  preparation : (headers buckets serial boot : ℕ) → Item
  preparation_over : (headers buckets serial boot : ℕ) (table health : List ℕ) → Item
  -- "Power dips, RAM mostly survives, and I hold the last head on paper.": a salvage of the arena's own runs; of what the dip left in their
  -- place, whatever it is
  salvage : (paper : Head) (report list : List ℕ) → Item
  salvage_over : (paper : Head) (table health report list : List ℕ) → Item

-- what one item did, and what it said
pub record Entry : Type 0 where
  pub events : List Event
  pub said : Says

abbrev pub entry_of : List Event → Says → Entry
entry_of es s = record { events = es; said = s }

pub record Course : Type 0 where
  -- the world that the last start left, what each item since did and said, and the world now
  pub origin : World
  pub entries : List Entry
  pub world : World

abbrev pub course_of : World → List Entry → World → Course
course_of o es w = record { origin = o; entries = es; world = w }

-- before the first start: cold RAM, whatever it holds. After one: the world that it left
abbrev pub cold : World → Course
cold w = course_of w [] w

-- one entry more
abbrev pub noted : Course → List Event → Says → World → Course
noted k es s w = course_of k.origin (k.entries ++ (entry_of es s ∷ [])) w

-- the events of some entries, and of a course, oldest first
abbrev pub events_of : List Entry → List Event
events_of [] = []
events_of (e ∷ es) = e.events ++ events_of es

abbrev pub history_of : Course → List Event
history_of k = events_of k.entries

-- what an item says that gives no counts
abbrev pub saying : Answer → Says
saying a = says a (counts_of 0 0 0 0) 0 []

-- what a preparation answers, and the world of the head and the runs that it hands back
unfoldable pub preparing : ℕ → ℕ → ℕ → ℕ → List ℕ → List ℕ → Answer × World
preparing headers buckets serial boot t g =
    let o = (prepare_of headers buckets serial boot t g).seen in
    (o.0.answer, world_of o.0.head o.1.0 o.1.1)

-- done: a new stretch begins in the prepared world; refused: the stretch goes on in the world that stays
abbrev pub prepared_by : Answer → (prepared stays : World) → Course → Course
prepared_by Done w v k = cold w
prepared_by (Cell c) w v k = noted k [] (saying (Cell c)) v
prepared_by (Granted l) w v k = noted k [] (saying (Granted l)) v
prepared_by AllGranted w v k = noted k [] (saying AllGranted) v
prepared_by (Busy why) w v k = noted k [] (saying (Busy why)) v
prepared_by (Refused r) w v k = noted k [] (saying (Refused r)) v
prepared_by (RefusedAt r p) w v k = noted k [] (saying (RefusedAt r p)) v

-- what a salvage answers, and the world of the head and the runs that it hands back
unfoldable pub salvaging : Head → (table health report list : List ℕ) → SalvageAnswer × World
salvaging paper t g report list =
    let o = salvage_of paper t g report list in
    (o.0.answer, world_of o.0.head o.1.0 o.1.1.0)

-- done: a new stretch begins in the salvaged world; refused: the stretch goes on in the world that stays, and nothing is noted
abbrev pub salvaged_by : SalvageAnswer → (rescued stays : World) → Course → Course
salvaged_by (Ok (e, n)) w v k = cold w
salvaged_by (Err salvaged.BadShape) w v k = course_of k.origin k.entries v
salvaged_by (Err salvaged.ReportFull) w v k = course_of k.origin k.entries v

-- refused, "the head before it stays the one in force": over the arena's own runs, with these as the preparation hands them back; other runs
-- leave the arena alone. A refused salvage the same
unfoldable pub next_item : Course → Item → Course
next_item k (call c) = let m = perform k.world c in noted k m.log m.seen.1 m.seen.0
next_item k (foreign_step kind place number) = let m = foreign k.world kind place number in noted k m.log (saying Done) m.seen
next_item k (preparation headers buckets serial boot) =
    let p = preparing headers buckets serial boot k.world.table k.world.health in
    prepared_by p.0 p.1 (world_of k.world.head p.1.table p.1.health) k
next_item k (preparation_over headers buckets serial boot t g) =
    let p = preparing headers buckets serial boot t g in
    prepared_by p.0 p.1 k.world k
next_item k (salvage paper report list) =
    let p = salvaging paper k.world.table k.world.health report list in
    salvaged_by p.0 p.1 (world_of k.world.head p.1.table p.1.health) k
next_item k (salvage_over paper t g report list) =
    let p = salvaging paper t g report list in
    salvaged_by p.0 p.1 k.world k

unfoldable pub run : Course → List Item → Course
run k [] = k
run k (i ∷ is) = run (next_item k i) is
