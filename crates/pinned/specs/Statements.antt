-- Last of the four files: what a build must do. A build is any function that answers calls; `Meets b` says of the build b what each refusal leaves and,
-- beyond its checks, what each call is: in the steps of `Steps`, or as smaller calls of the same build, in their order. Each time with its log. Read `Beyond`
-- and `Meets` first, and of what stands above them what they name. Behind them stand the crew's whole replies, a lone foreign step, preparing and salvage.
-- `Theorems`: ours meets all of it (`meets`), and no other build does (`no_other_build`).
use Rattle.std.specs.Prelude.{ℕ, zero, suc, ◌+◌, ◌*◌, ◌/◌, ◌%◌, ◌≤◌, ◌<◌, ◌≡◌, List, [], ◌∷◌, ◌++◌, ◌≢◌, ◌⊎◌, ◌↔◌, length, get_or, drop, replicate, Ok, Err, Result as Std·Result}
use Rattle.types.specs.declared.SalvageRefusal.{SalvageRefusal}
use Rattle.types.specs.declared.SalvageRefusal.TheVariants as salvaged
use Rattle.model.specs.Log.{Made, by_caller, attempt_begun, yielded, spun, released}
use Rattle.types.specs.declared.Answer.{Answer}
use Rattle.types.specs.declared.Answer.TheVariants.{Done, Cell, Granted, AllGranted, Busy, Refused, RefusedAt}
use Rattle.types.specs.declared.Counts.{Counts}
use Rattle.types.specs.declared.CrewReply.{CrewReply}
use Rattle.types.specs.declared.Head.{Head}
use Rattle.types.specs.declared.Hold.{Hold}
use Rattle.types.specs.declared.Reason.{Reason}
use Rattle.types.specs.declared.Reason.TheVariants as reason
use Rattle.types.specs.declared.Refusal.{Refusal}
use Rattle.types.specs.declared.Refusal.TheVariants.{BadShape, BadHeader, Poisoned, InvalidBucket, SerializationFailure}
use Rattle.types.specs.declared.Reply.{Reply}
use Rattle.types.specs.declared.SalvageReply.{SalvageReply}
use Rattle.history.specs.World.{World}
use Rattle.history.specs.Items.{Build, Stepper, Says, Call, try_acquire, drop_lease, read_permission, competing_acquire, release_then_handoff, foreign_release, drop_preserving, acquire_preserving, environment, try_lock, transactional, acquire_bucket, release_all, acquire_locks, acquire_sorted, crew, crew_at_work}
use Rattle.history.specs.Statements.{CrewBuild, CrewAtWorkBuild}
use Rattle.pinned.specs.Words.{Result, Shape, Is, If◌Then◌Else◌, With, Gives, Does, Noting, SeenAs, IfBusy, logged, arena, head_of_lem, health_byte, freed, holds, words, counted, says}
use Rattle.pinned.specs.Checks.{First, Passed, checks}
use Rattle.pinned.specs.Steps.{Takes, Step, Boundary, At, at, Locks, Turns, Crew, gathered, taken_by, released_by}

-- ---- what a call leaves and says

-- nothing counted, no script, no buffer
abbrev pub plainly : World → Answer → World × Says
plainly w a = (w, says a (counted 0 0 0 0) 0 [])

-- "`try_acquire` outside one, is an attempt"
abbrev pub attempted : World × Answer → World × Says
attempted x = (x.0, says x.1 (counted 1 0 0 0) 0 [])

-- one boundary that ended here
abbrev pub bounded : At → World × Says
bounded a = (a.world, says Done (counted 0 1 0 a.dropped) a.place [])

abbrev pub left_by : Result → World
left_by m = m.seen.0

abbrev pub place_by : Result → ℕ
place_by m = m.seen.1.place

-- what a call was given, and a refusal gives back: the place in its script and its grant buffer, 0 and empty where it has none
abbrev pub as_given : Call → ℕ × List ℕ
as_given (try_acquire c) = (0, [])
as_given (drop_lease l) = (0, [])
as_given (read_permission l) = (0, [])
as_given (competing_acquire l) = (0, [])
as_given (release_then_handoff l) = (0, [])
as_given (foreign_release held l) = (0, [])
as_given (drop_preserving held l) = (0, [])
as_given (acquire_preserving held c) = (0, [])
as_given (environment script place held) = (place, [])
as_given (try_lock script place held c) = (place, [])
as_given (transactional registry script place held binding bucket) = (place, [])
as_given (acquire_bucket registry script place held binding bucket) = (place, [])
as_given (release_all script place leases) = (place, [])
as_given (acquire_locks registry script place held keys grants) = (place, grants)
as_given (acquire_sorted registry script place held keys grants) = (place, grants)
as_given (crew counts cells turns) = (0, [])
as_given (crew_at_work counts cells turns counters) = (0, [])

-- ---- one call and then another: the counts add up, the logs follow one another, and the second's answer stands

abbrev pub sums : Counts → Counts → Counts
sums a b = counted (a.attempts + b.attempts) (a.boundaries + b.boundaries) (a.yields + b.yields) (a.dropped + b.dropped)

abbrev pub joined : Result → Result → Result
joined m n = logged (left_by n, says n.seen.1.answer (sums m.seen.1.counts n.seen.1.counts) (place_by n) n.seen.1.grants) (m.log ++ n.log)

-- ---- `transactional_try_lock_bucket`: "header from the registry (BadHeader if at least H), then health (Poisoned), then bucket (InvalidBucket with the
-- caller's number), then `try_lock`."; "An attempt begins at the header reading"

abbrev pub refused_key : World → (place : ℕ) → Refusal → World × Says
refused_key w place r = (w, says (Refused r) (counted 1 0 0 0) place [])

abbrev pub ByKey : Build → World → (registry script : List ℕ) (place : ℕ) (held : List ℕ) (binding bucket : ℕ) → Result → Type 0
ByKey b w registry script place held binding bucket =
    let header = get_or registry binding 0 in
    If w.head.headers ≤ header Then Does attempt_begun (refused_key w place (BadHeader header))
    Else If health_byte w header ≢ 0 Then Does attempt_begun (refused_key w place (Poisoned header))
    Else If w.head.buckets ≤ bucket Then Does attempt_begun (refused_key w place (InvalidBucket bucket))
    Else Is (b w (try_lock script place held (header * w.head.buckets + bucket)))

-- ---- `acquire_index_bucket`: "attempts 0 to 4,095", each a `transactional_try_lock_bucket`, and `environment` once or twice after each that is Busy

module _ (attempt between : World → (place : ℕ) → Result) where
  -- a boundary and a yield; a boundary and a spin, which is not counted
  abbrev pub yielding : Result → Result
  yielding m = logged (left_by m, says Done (counted 0 1 1 m.seen.1.counts.dropped) (place_by m) []) (m.log ++ (yielded ∷ []))

  abbrev pub spinning : Result → Result
  spinning m = logged m.seen (m.log ++ (spun ∷ []))

  -- "after a Busy attempt whose number has remainder 63 by 64, a boundary and a yield; then, after each Busy attempt, a boundary and a spin."
  abbrev pub Pauses : (i : ℕ) → World → (place : ℕ) → Result → Type 0
  Pauses i w p =
      let m = between w p in
      If i % 64 ≡ 63 Then Is (joined (yielding m) (spinning (between (left_by m) (place_by m))))
      Else Is (spinning m)

  -- behind attempt number i, which did m and answered x; `more` is what comes of the attempts behind it. "A refusal ends it at once."
  abbrev pub AfterAttempt : (i : ℕ) (m : Result) → (Reason → Result → Result → Type 0) → Answer → Result → Type 0
  AfterAttempt i m more x = IfBusy x (λ why. With (Pauses i (left_by m) (place_by m)) λ n. With (more why n) λ o. Is (joined m (joined n o))) (Is m)

  -- `left` attempts from number i on. "After 4,096: SerializationFailure."; document 02, L1: "Every call above passes the reason of the last Busy attempt on"
  unfoldable pub Retries : (left i : ℕ) (last : Reason) → World → (place : ℕ) → Result → Type 0
  Retries zero i last w p = Gives (w, says (Refused (SerializationFailure last)) (counted 0 0 0 0) p [])
  Retries (suc left) i last w p = AfterAttempt i (attempt w p) (λ why n. Retries left (i + 1) why (left_by n) (place_by n)) (attempt w p).seen.1.answer

-- ---- leases given back, in `release_all` and where multi-lock is refused: "last first, a boundary after each release", as `drop_lease` and `environment`.
-- "Protected: .. in `release_all` those it was given, and never those it has given up": the boundary holds those still to come

module _ (b : Build) (boot : ℕ) (script held : List ℕ) where
  abbrev pub dropping : Hold → World → Result
  dropping l w = b w (drop_lease (record { cell = l.cell; serial = l.serial; boot = boot }))

  abbrev pub between : List Hold → World → (place : ℕ) → Result
  between ls w place = b w (environment script place (held ++ words boot ls))

  -- these leases, in this world and at this place: none is left; or l is the last, it is dropped, a boundary runs, and the others are given back
  pub data GivesBack : List Hold → World → (place : ℕ) → Result → Type 0 where
    all_back : {w : World} {place : ℕ} → GivesBack [] w place (logged (w, says Done (counted 0 0 0 0) place []) [])
    one_back : {ls : List Hold} {w : World} {place : ℕ} {n : Result} (l : Hold)
        → GivesBack ls (left_by (between ls (left_by (dropping l w)) place)) (place_by (between ls (left_by (dropping l w)) place)) n
        → GivesBack (ls ++ (l ∷ [])) w place (joined (dropping l w) (joined (between ls (left_by (dropping l w)) place) n))

-- ---- `acquire_index_locks`: "keys in the order given. On a refusal at position p all taken leases are released as in `release_all`."

module _ (b : Build) (boot : ℕ) (registry script held keys grants : List ℕ) where
  -- the key at position p, "keys are binding and bucket", holding what was taken before
  abbrev pub locking : (p : ℕ) → List Hold → World → (place : ℕ) → Result
  locking p taken w place = b w (acquire_bucket registry script place (held ++ words boot taken) (get_or keys (2 * p) 0) (get_or keys (2 * p + 1) 0))

  -- "multi-lock adds the key's position", "the grant buffer is unchanged"
  abbrev pub refused_at : Refusal → (p : ℕ) → Result → Result
  refused_at r p m = logged (left_by m, says (RefusedAt r p) m.seen.1.counts (place_by m) grants) m.log

  -- behind the key at position p, which did m and answered so; `more` is what comes of the keys behind it. A key is granted or refused
  abbrev pub AfterKey : (p : ℕ) → List Hold → (m : Result) → (Hold → Result → Type 0) → Answer → Result → Type 0
  AfterKey p taken m more (Granted l) = With (more (record { cell = l.cell; serial = l.serial })) λ n. Is (joined m n)
  AfterKey p taken m more (Refused r) = With (GivesBack b boot script held taken (left_by m) (place_by m)) λ n. Is (refused_at r p (joined m n))
  AfterKey p taken m more (Busy why) = λ x. ⊥
  AfterKey p taken m more Done = λ x. ⊥
  AfterKey p taken m more (Cell c) = λ x. ⊥
  AfterKey p taken m more AllGranted = λ x. ⊥
  AfterKey p taken m more (RefusedAt r q) = λ x. ⊥

  -- `left` keys from position p on. "On a grant, multi-lock's buffer holds cell and serial for each key, in key order"; document 02, L8: "three words a lease"
  unfoldable pub Keys : (left p : ℕ) → List Hold → World → (place : ℕ) → Result → Type 0
  Keys zero p taken w place = Gives (w, says AllGranted (counted 0 0 0 0) place (words boot taken))
  Keys (suc left) p taken w place =
      let m = locking p taken w place in
      AfterKey p taken m (λ l. Keys left (p + 1) (taken ++ (l ∷ [])) (left_by m) (place_by m)) m.seen.1.answer

-- ---- `acquire_sorted_locks`, document 02, L4: "Resolve the keys, sort by cell .., drop doubles, lock in rising order, then hand back one lease per key in the
-- caller's order, doubled keys sharing one."

-- "Cell number = header x B + bucket.", of `left` keys from position p on
unfoldable pub cells_asked_lem : (left p buckets : ℕ) (registry keys : List ℕ) → List ℕ
cells_asked_lem zero p buckets registry keys = []
cells_asked_lem (suc left) p buckets registry keys =
    (get_or registry (get_or keys (2 * p) 0) 0 * buckets + get_or keys (2 * p + 1) 0) ∷ cells_asked_lem left (p + 1) buckets registry keys

abbrev pub CellAmong : ℕ → List ℕ → Type 0
CellAmong c [] = ⊥
CellAmong c (x ∷ xs) = (x ≡ c) ⊎ CellAmong c xs

abbrev pub Rising : (low : ℕ) → List ℕ → Type 0
Rising low [] = Unit {0}
Rising low (x ∷ xs) = (low ≤ x) × Rising (x + 1) xs

-- "a strictly rising list with exactly the cells asked for"
abbrev pub Sorted : List ℕ → List ℕ → Type 0
Sorted cs ss = Rising 0 ss × ((c : ℕ) → CellAmong c ss ↔ CellAmong c cs)

-- "the first position asking for that cell"
unfoldable pub AsksFirst : List ℕ → ℕ → ℕ → Type 0
AsksFirst [] c = Is 0
AsksFirst (x ∷ xs) c = If x ≡ c Then Is 0 Else With (AsksFirst xs c) λ p. Is (suc p)

-- a key for each of these cells: that of the first position asking for it
unfoldable pub KeysFor : (keys cs : List ℕ) → List ℕ → List ℕ → Type 0
KeysFor keys cs [] = Is []
KeysFor keys cs (c ∷ ss) = With (AsksFirst cs c) λ p. With (KeysFor keys cs ss) λ ks. Is (get_or keys (2 * p) 0 ∷ get_or keys (2 * p + 1) 0 ∷ ks)

-- the lease on a cell, among leases
unfoldable pub LeaseOn : List Hold → ℕ → Hold → Type 0
LeaseOn [] c = Is (record { cell = 0; serial = 0 })
LeaseOn (l ∷ ls) c = If l.cell ≡ c Then Is l Else LeaseOn ls c

-- and on each of these cells
unfoldable pub Shared : List Hold → List ℕ → List Hold → Type 0
Shared ls [] = Is []
Shared ls (c ∷ cs) = With (LeaseOn ls c) λ l. With (Shared ls cs) λ ks. Is (l ∷ ks)

module _ (b : Build) (w : World) (registry script : List ℕ) (place : ℕ) (held keys grants : List ℕ) where
  abbrev pub telling : Result → Answer → (buffer : List ℕ) → Result
  telling m a buffer = logged (left_by m, says a m.seen.1.counts (place_by m) buffer) m.log

  -- what multi-lock did with the sorted keys (m, and its answer), told to the caller, who asked for the cells cs. Granted, each key has the lease on its cell;
  -- "a later refusal carries the first position asking for that cell", and is the same refusal. Multi-lock gives no other answers
  abbrev pub Told : (cs ss : List ℕ) (m : Result) → Answer → Result → Type 0
  Told cs ss m AllGranted = With (Shared (holds m.seen.1.grants) cs) λ ls. Is (telling m AllGranted (words w.head.boot ls))
  Told cs ss m (RefusedAt r q) = With (AsksFirst cs (get_or ss q 0)) λ p. Is (telling m (RefusedAt r p) grants)
  Told cs ss m (Granted l) = Is (telling m (Granted l) grants)
  Told cs ss m (Refused r) = Is (telling m (Refused r) grants)
  Told cs ss m (Busy why) = Is (telling m (Busy why) grants)
  Told cs ss m Done = Is (telling m Done grants)
  Told cs ss m (Cell c) = Is (telling m (Cell c) grants)

  -- "lock in rising order": multi-lock itself, over the sorted keys, with a buffer of its own
  abbrev pub BySorted : (cs : List ℕ) → Result → Type 0
  BySorted cs =
      With (Sorted cs) λ ss.
      With (KeysFor keys cs ss) λ ks.
      let m = b w (acquire_locks registry script place held ks (replicate (3 * length ss) 0)) in
      Told cs ss m m.seen.1.answer

  -- `left` keys from position p on: "BadHeader and InvalidBucket are now also tested in this call before any attempt, by the caller's first position, header
  -- before bucket."
  unfoldable pub AnyOrder : (left p : ℕ) → Result → Type 0
  AnyOrder zero p = BySorted (cells_asked_lem (length keys / 2) 0 w.head.buckets registry keys)
  AnyOrder (suc left) p =
      let header = get_or registry (get_or keys (2 * p) 0) 0 in
      let bucket = get_or keys (2 * p + 1) 0 in
      If w.head.headers ≤ header Then Gives (w, says (RefusedAt (BadHeader header) p) (counted 0 0 0 0) place grants)
      Else If w.head.buckets ≤ bucket Then Gives (w, says (RefusedAt (InvalidBucket bucket) p) (counted 0 0 0 0) place grants)
      Else AnyOrder left (p + 1)

-- ---- what a build must do

-- none of the call's checks applies
abbrev pub Passes : World → Call → Type 0
Passes w k = Passed (checks w k)

-- beyond its checks, each call
abbrev pub Beyond : Build → World → Call → Result → Type 0
-- "in order, damaged: Damaged; held: Busy; no serial: SerialsSpent; else the cell gets bit 1 and the next serial, and next rises by 1."
Beyond b w (try_acquire c) = Noting attempt_begun (SeenAs attempted (Takes w c))
-- "`drop_lease` is one release and no boundary"
Beyond b w (drop_lease l) = Does (released by_caller l.cell l.serial) (plainly (freed w l.cell) Done)
-- "`read_permission` gives the lease's cell or 12."
Beyond b w (read_permission l) = Gives (plainly w (Cell l.cell))
-- "12 if the lease is not live, else one `try_acquire` of its cell"
Beyond b w (competing_acquire l) = Is (b w (try_acquire l.cell))
-- "12, else release and `try_acquire`."
Beyond b w (release_then_handoff l) =
    let x = b w (drop_lease l) in
    let y = b (left_by x) (try_acquire l.cell) in
    Is (joined x y)
-- "3, 12, 13, then a `try_acquire` that is Busy, a release, a `try_acquire`."
Beyond b w (foreign_release held l) =
    let x = b w (try_acquire l.cell) in
    let y = b (left_by x) (drop_lease l) in
    let z = b (left_by y) (try_acquire l.cell) in
    Is (joined x (joined y z))
-- "`drop_preserving_borrows` first refuses a lease in its held list", and is `drop_lease`
Beyond b w (drop_preserving held l) = Is (b w (drop_lease l))
-- "`acquire_preserving_borrows` is `try_acquire` after the held list's check"
Beyond b w (acquire_preserving held c) = Is (b w (try_acquire c))
-- "`environment` and `environment_for_borrows` are one boundary."
Beyond b w (environment script place held) = SeenAs bounded (Boundary script (holds held) (at w place 0))
-- "boundary; waiters not 0: Busy; boundary; try_acquire; boundary (protecting the new lease); waiters not 0: release it, Busy; else granted."
-- "`other_mutex_preserves_leases` is `try_lock`"
Beyond b w (try_lock script place held c) = Locks script (holds held) (at w place 0) c
-- "header from the registry .., then health (Poisoned), then bucket .., then `try_lock`."
Beyond b w (transactional registry script place held binding bucket) = ByKey b w registry script place held binding bucket
-- "attempts 0 to 4,095". Before the first attempt there is no last one: what stands for its reason is never given
Beyond b w (acquire_bucket registry script place held binding bucket) =
    Retries (λ v p. b v (transactional registry script p held binding bucket)) (λ v p. b v (environment script p held)) 4096 0 reason.Before w place
-- "last first, a boundary after each release"
Beyond b w (release_all script place leases) = GivesBack b w.head.boot script [] (holds leases) w place
-- "keys in the order given"
Beyond b w (acquire_locks registry script place held keys grants) = Keys b w.head.boot registry script held keys grants (length keys / 2) 0 [] w place
-- document 02, L4: "Keys in any order, and doubles."
Beyond b w (acquire_sorted registry script place held keys grants) = AnyOrder b w registry script place held keys grants (length keys / 2) 0
-- "a member that has not yet held all its cells does one try_lock .. one that has held all releases the last it still holds". Its numbers: `Crews`, below
Beyond b w (crew counts cells turns) = SeenAs (λ v. plainly v.world Done) (Turns (λ n. 0) counts cells (gathered w []) turns)
-- document 02, L13: "Between holding all and releasing, a member spends one moving turn a cell". Its numbers and counters: `Works`, below
Beyond b w (crew_at_work counts cells turns counters) = SeenAs (λ v. plainly v.world Done) (Turns (λ n. n) counts cells (gathered w counters) turns)

pub record Meets (b : Build) : Type 0 where
  -- "Checks in this order; the first that applies is given, and only then."; such a refusal leaves all as it was, "all counts 0", and has no event
  pub refused : (w : World) (k : Call) (r : Refusal) → First (checks w k) r
      → Gives (w, says (Refused r) (counted 0 0 0 0) (as_given k).0 (as_given k).1) (b w k)
  -- and what each call is where no check applies
  pub beyond : (w : World) (k : Call) → Passes w k → Beyond b w k (b w k)

-- ---- a crew's whole reply, with the table; of a crew at work also the counters. "for each member, cells taken and cells released, and the counts of moving and
-- idle turns, no other counts"

abbrev pub replying : (work : ℕ → ℕ) (counts : List ℕ) → Crew → CrewReply
replying work counts v =
    record {
      head = v.world.head;
      moving = v.moving;
      idle = v.idle;
      taken = taken_by 16 0 counts v.moves;
      released = released_by work 16 0 counts v.moves;
      answer = Done;
    }

-- refused: "change nothing, all counts 0"
abbrev pub none_moved : Head → Refusal → CrewReply
none_moved h r = record { head = h; moving = 0; idle = 0; taken = replicate 16 0; released = replicate 16 0; answer = Refused r }

pub record Crews (f : CrewBuild) : Type 0 where
  pub refused : (h : Head) (t g counts cells turns : List ℕ) (r : Refusal) → First (checks (arena h t g) (crew counts cells turns)) r
      → Gives (none_moved h r, t) (f h t g counts cells turns)
  pub beyond : (h : Head) (t g counts cells turns : List ℕ) → Passes (arena h t g) (crew counts cells turns)
      → SeenAs (λ v. (replying (λ n. 0) counts v, v.world.table)) (Turns (λ n. 0) counts cells (gathered (arena h t g) []) turns)
      (f h t g counts cells turns)

pub record Works (f : CrewAtWorkBuild) : Type 0 where
  pub refused : (h : Head) (t g counts cells turns counters : List ℕ) (r : Refusal) → First (checks (arena h t g) (crew_at_work counts cells turns counters)) r
      → Gives (none_moved h r, (t, counters)) (f h t g counts cells turns counters)
  pub beyond : (h : Head) (t g counts cells turns counters : List ℕ) → Passes (arena h t g) (crew_at_work counts cells turns counters)
      → SeenAs (λ v. (replying (λ n. n) counts v, (v.world.table, v.counters)))
      (Turns (λ n. n) counts cells (gathered (arena h t g) counters) turns) (f h t g counts cells turns counters)

-- ---- a lone foreign step, between two calls: nobody's lease is protected then

abbrev pub StepsAlone : Stepper → Type 0
StepsAlone f = (w : World) (kind place number : ℕ) → SeenAs (λ s. s.0) (Step w [] kind place number) (f w kind place number)

-- ---- preparing: "takes H, B and a first serial, and sets every table word and health byte to 0."; document 02, L8: "preparing takes it (refused: four zeros)".
-- The reply, the table, the health. A history begins behind it, and it has no event

abbrev pub Preparer : Type 0
Preparer = (headers buckets serial boot : ℕ) (table health : List ℕ) → Made (Reply × (List ℕ × List ℕ))

abbrev pub prepared : Head → Answer → Reply
prepared h a = record { head = h; counts = counted 0 0 0 0; answer = a }

-- "A refused preparation changes no lent word"
abbrev pub PreparesArena : Preparer → Type 0
PreparesArena f =
    (headers buckets serial boot : ℕ) (t g : List ℕ)
    → (If (Shape (head_of_lem headers buckets serial boot) (length t) → ⊥) Then Gives (prepared (head_of_lem 0 0 0 0) (Refused BadShape), (t, g))
    Else If length g ≢ headers Then Gives (prepared (head_of_lem 0 0 0 0) (Refused BadShape), (t, g))
    Else Gives (prepared (head_of_lem headers buckets serial boot) Done, (replicate (length t) 0, replicate (length g) 0))) (f headers buckets serial boot t g)

-- ---- document 02, L6: a salvage. "Given that head, go over the arena"

-- "damaged cells become free, all waiters become 0, .. and sound cells keep their bit and owner"; words left over are no cell's
unfoldable pub Mends : (next : ℕ) → List ℕ → List ℕ → Type 0
Mends next [] = Is []
Mends next (b ∷ []) = Is (b ∷ [])
Mends next (b ∷ o ∷ []) = Is (b ∷ o ∷ [])
Mends next (b ∷ o ∷ n ∷ t) =
    With (Mends next t) λ u.
    If ((b ≡ 0) × (o ≡ 0) → ⊥) × ((b ≡ 1) × (1 ≤ o) × (o < next) → ⊥) Then Is (0 ∷ 0 ∷ 0 ∷ u)
    Else Is (b ∷ o ∷ 0 ∷ u)

-- "health bytes other than 0 and 1 become 1"
unfoldable pub MendsBytes : List ℕ → List ℕ → Type 0
MendsBytes [] = Is []
MendsBytes (b ∷ g) = With (MendsBytes g) λ u. If b ≤ 1 Then Is (b ∷ u) Else Is (1 ∷ u)

-- "each word or byte changed: place, old, new, in rising order", from this place on
unfoldable pub Changes : (place : ℕ) (old new : List ℕ) → List ℕ → Type 0
Changes place [] new = Is []
Changes place (a ∷ old) [] = Is []
Changes place (a ∷ old) (b ∷ new) = With (Changes (place + 1) old new) λ cs. If a ≡ b Then Is cs Else Is (place ∷ a ∷ b ∷ cs)

-- "Cells left held are listed apart as unconfirmed.": `left` cells from c on
unfoldable pub LeftHeld : (next left c : ℕ) → List ℕ → List ℕ → Type 0
LeftHeld next zero c t = Is []
LeftHeld next (suc left) c t =
    With (LeftHeld next left (c + 1) t) λ cs.
    If (get_or t (3 * c) 0 ≡ 1) × (1 ≤ get_or t (3 * c + 1) 0) × (get_or t (3 * c + 1) 0 < next) Then Is (c ∷ cs)
    Else Is cs

-- words at the front of a lent run
abbrev pub over : List ℕ → List ℕ → List ℕ
over ws run = ws ++ drop (length ws) run

-- the head and the answer; then table, health, report, list
abbrev pub Salvager : Type 0
Salvager = Head → (table health report list : List ℕ) → SalvageReply × (List ℕ × (List ℕ × (List ℕ × List ℕ)))

abbrev pub concluded : Head → Std·Result (ℕ × ℕ) SalvageRefusal → SalvageReply
concluded h a = record { head = h; answer = a }

-- "After BadShape, refuse ReportFull before the first change if the report or that list cannot hold all its entries, and only then."; "health places counting on
-- from the table's"; L8: "Salvage keeps the boot number of the head it was given."
abbrev pub SalvagesArena : Salvager → Type 0
SalvagesArena f =
    (h : Head) (t g report list : List ℕ)
    → (If (Shape h (length t) → ⊥) Then Is (concluded h (Err salvaged.BadShape), (t, (g, (report, list))))
    Else If length g ≢ h.headers Then Is (concluded h (Err salvaged.BadShape), (t, (g, (report, list))))
    Else With (Mends h.next t) λ u.
    With (MendsBytes g) λ v.
    With (Changes 0 t u) λ x.
    With (Changes (3 * (h.headers * h.buckets)) g v) λ y.
    With (LeftHeld h.next (h.headers * h.buckets) 0 u) λ cs.
    If (length report / 3 < length (x ++ y) / 3) ⊎ (length list < length cs) Then Is (concluded h (Err salvaged.ReportFull), (t, (g, (report, list))))
    Else Is (concluded h (Ok ((length (x ++ y) / 3), (length cs))), (u, (v, (over (x ++ y) report, over cs list))))) (f h t g report list)
