-- Document 02, L4, "Keys in any order, and doubles", as statements about `acquire_sorted_locks`: of any build, as in crate `history`. What holds of
-- every call holds of it too (there: `lawful_always`, `counts_are`, `given_live`, `nothing_kept`, `nothing_new`, `buffer_is` and the others).
-- `Theorems` has the proofs by name. What stands in quotes is of document 01 or 02.
use Rattle.std.specs.Prelude.{ℕ, ◌+◌, ◌*◌, ◌≤◌, ◌<◌, ◌≡◌, List, [], ◌∷◌, ◌++◌, ◌≢◌, ◌⊎◌, ◌↔◌, length, get_or, Ok}
use Rattle.model.specs.Log.{Made, Event, by_caller, took}
use Rattle.model.specs.Arena.{last_serial, holds_of, words_of}
use Rattle.model.specs.Refusals.{number_of}
use Rattle.model.specs.Foreign.{steps_in}
use Rattle.model.specs.Lock.{hold_at, binding_at, bucket_at}
use Rattle.model.specs.Checks.{count_in}
use Rattle.model.specs.Calls.{counts_of}
use Rattle.model.specs.Sorted.{header_of_key, cells_asked, cells_sorted, sorted_keys, first_key, shared_of, asked_first}
use Rattle.types.specs.declared.Answer.TheVariants.{Done, AllGranted, Refused, RefusedAt}
use Rattle.types.specs.declared.Head.{Head}
use Rattle.types.specs.declared.Refusal.{Refusal}
use Rattle.types.specs.declared.Refusal.TheVariants.{BadHeader, InvalidBucket, Repeated}
use Rattle.laws.specs.Checks.{lease_in}
use Rattle.history.specs.World.{World, Live, Healthy, now}
use Rattle.history.specs.Items.{acquire_locks, acquire_sorted, release_all, key_cell, Says, says, Build, Clear, rules}
use Rattle.history.specs.Statements.{answer_in, buffer_in, world_in, RolledBack}
use Rattle.history.specs.Answers.{GrantPoint}
use Rattle.history_exact.specs.Statements.{IsFree, Unwaited, Names, leases_from, takes_of}

-- ---- granted: "hand back one lease per key in the caller's order, doubled keys sharing one"

-- keys of one cell have one lease: all three words of it are the same
abbrev pub Shares : Build → Type 0
Shares f =
    (w : World) (registry script : List ℕ) (place : ℕ) (held keys grants : List ℕ) (p q : ℕ)
    → let m = f w (acquire_sorted registry script place held keys grants) in
    let cell = key_cell w.head.buckets registry keys in
    answer_in m ≡ AllGranted → p < count_in keys → q < count_in keys → cell p ≡ cell q
    → lease_in (buffer_in m) p ≡ lease_in (buffer_in m) q

-- "lock in rising order": the serials rise with the cells, whatever the order of the keys
abbrev pub SerialsByCell : Build → Type 0
SerialsByCell f =
    (w : World) (registry script : List ℕ) (place : ℕ) (held keys grants : List ℕ) (p q : ℕ)
    → let m = f w (acquire_sorted registry script place held keys grants) in
    let cell = key_cell w.head.buckets registry keys in
    answer_in m ≡ AllGranted → p < count_in keys → q < count_in keys → cell p < cell q
    → (hold_at (holds_of (buffer_in m)) p).serial < (hold_at (holds_of (buffer_in m)) q).serial

-- so keys of two cells have two serials
abbrev pub ApartByCell : Build → Type 0
ApartByCell f =
    (w : World) (registry script : List ℕ) (place : ℕ) (held keys grants : List ℕ) (p q : ℕ)
    → let m = f w (acquire_sorted registry script place held keys grants) in
    let cell = key_cell w.head.buckets registry keys in
    answer_in m ≡ AllGranted → p < count_in keys → q < count_in keys → cell p ≢ cell q
    → (hold_at (holds_of (buffer_in m)) p).serial ≢ (hold_at (holds_of (buffer_in m)) q).serial

-- the same from the log: the lower cell was taken first
abbrev pub TakenRising : Build → Type 0
TakenRising f =
    (w : World) (registry script : List ℕ) (place : ℕ) (held keys grants : List ℕ) (p q : ℕ)
    → let m = f w (acquire_sorted registry script place held keys grants) in
    let cell = key_cell w.head.buckets registry keys in
    let l = hold_at (holds_of (buffer_in m)) p in
    let k = hold_at (holds_of (buffer_in m)) q in
    answer_in m ≡ AllGranted → p < count_in keys → q < count_in keys → cell p < cell q
    → (x y z : List Event) × (m.log ≡ x ++ (took by_caller (cell p) l.serial ∷ (y ++ (took by_caller (cell q) k.serial ∷ z))))

-- granted or refused: no take of the caller comes behind one of a higher cell. The same cell may come again, where a retry takes it once more after a
-- late Busy
abbrev pub TakesRise : Build → Type 0
TakesRise f =
    (w : World) (registry script : List ℕ) (place : ℕ) (held keys grants : List ℕ) (c d s t : ℕ) (x y z : List Event)
    → (f w (acquire_sorted registry script place held keys grants)).log ≡ x ++ (took by_caller c s ∷ (y ++ (took by_caller d t ∷ z)))
    → c ≤ d

-- each key's lease is live afterwards, on the key's own cell
abbrev pub EachKeyLive : Build → Type 0
EachKeyLive f =
    (w : World) (registry script : List ℕ) (place : ℕ) (held keys grants : List ℕ) (p : ℕ)
    → let m = f w (acquire_sorted registry script place held keys grants) in
    let l = hold_at (holds_of (buffer_in m)) p in
    answer_in m ≡ AllGranted → p < count_in keys → (l.cell ≡ key_cell w.head.buckets registry keys p) × Live (world_in m) l

-- document 02, L3: each key's lease is on a header that is healthy at the point of its grant, and that of the highest cell in the health that the call
-- leaves. As of multi-lock, no more is promised of the cells before the last
abbrev pub SortedHealthy : Build → Type 0
SortedHealthy f =
    (w : World) (registry script : List ℕ) (place : ℕ) (held keys grants : List ℕ) (p : ℕ)
    → let m = f w (acquire_sorted registry script place held keys grants) in
    let cell = key_cell w.head.buckets registry keys in
    let l = hold_at (holds_of (buffer_in m)) p in
    answer_in m ≡ AllGranted → p < count_in keys
    → ((before after : List Event) × (m.log ≡ before ++ after) × GrantPoint l before after × Healthy (now w before) l.cell)
    × (((q : ℕ) → q < count_in keys → cell q ≤ cell p) → Healthy (world_in m) l.cell)

-- ---- refused without a position: multi-lock's own checks and no others. "TooMany counts keys as typed"

abbrev pub ChecksAsTyped : Build → Type 0
ChecksAsTyped f =
    (w : World) (registry script : List ℕ) (place : ℕ) (held keys grants : List ℕ) (r : Refusal)
    → (answer_in (f w (acquire_sorted registry script place held keys grants)) ≡ Refused r)
    ↔ (answer_in (f w (acquire_locks registry script place held keys grants)) ≡ Refused r)

-- ---- refused before any attempt: "BadHeader and InvalidBucket are now also tested in this call before any attempt, by the caller's first position,
-- header before bucket."

-- 6 or 8
abbrev pub TestsKey : Refusal → Type 0
TestsKey r = (number_of r ≡ 6) ⊎ (number_of r ≡ 8)

abbrev pub KeyInside : Head → (registry keys : List ℕ) → ℕ → Type 0
KeyInside h registry keys p = (header_of_key registry keys p < h.headers) × (bucket_at keys p < h.buckets)

-- "header before bucket"
pub data BadKey (h : Head) (registry keys : List ℕ) (p : ℕ) : Refusal → Type 0 where
  bad_header : h.headers ≤ header_of_key registry keys p → BadKey h registry keys p (BadHeader (header_of_key registry keys p))
  bad_bucket : header_of_key registry keys p < h.headers → h.buckets ≤ bucket_at keys p → BadKey h registry keys p (InvalidBucket (bucket_at keys p))

-- "by the caller's first position"
pub record FirstBad (h : Head) (registry keys : List ℕ) (r : Refusal) (p : ℕ) : Type 0 where
  pub position : p < count_in keys
  pub before : (q : ℕ) → q < p → KeyInside h registry keys q
  pub here : BadKey h registry keys p r

-- exactly then, behind multi-lock's own checks; and then nothing happened: no attempt, no boundary, the place and the buffer as they were given
abbrev pub KeysFirst : Build → Type 0
KeysFirst f =
    (w : World) (registry script : List ℕ) (place : ℕ) (held keys grants : List ℕ) (r : Refusal) (p : ℕ)
    → let k = acquire_sorted registry script place held keys grants in
    (((answer_in (f w k) ≡ RefusedAt r p) × TestsKey r) ↔ (Clear (rules w k) × FirstBad w.head registry keys r p))
    × (answer_in (f w k) ≡ RefusedAt r p → TestsKey r → f w k ≡ record { seen = (w, says (RefusedAt r p) (counts_of 0 0 0 0) place grants); log = [] })

-- ---- beyond its checks the call is multi-lock over the sorted keys

-- m is seen as n is, but for the position that a refusal names and the grant buffer
pub record AsLocks (buckets boot : ℕ) (registry keys grants : List ℕ) (m n : Made (World × Says)) : Type 0 where
  pub log : m.log ≡ n.log
  pub world : world_in m ≡ world_in n
  pub counts : m.seen.1.counts ≡ n.seen.1.counts
  pub place : m.seen.1.place ≡ n.seen.1.place
  -- "a later refusal carries the first position asking for that cell"
  pub answer : answer_in m ≡ asked_first (answer_in n) (cells_asked buckets registry keys) (cells_sorted buckets registry keys)
  pub handed : answer_in n ≡ AllGranted → buffer_in m ≡ words_of boot (shared_of (holds_of (buffer_in n)) (cells_asked buckets registry keys))
  pub kept : (answer_in n ≡ AllGranted → ⊥) → buffer_in m ≡ grants

-- no check applies and no key is faulty. The buffer of the other call is any that fits
abbrev pub BeyondChecks : World → (registry script : List ℕ) (place : ℕ) (held keys grants : List ℕ) → Type 0
BeyondChecks w registry script place held keys grants =
    Clear (rules w (acquire_sorted registry script place held keys grants)) × (first_key (count_in keys) 0 w.head registry keys ≡ Ok tt)

-- so what is proved of multi-lock reaches the call; attempts and boundaries count distinct cells, which are at most as many as the keys
abbrev pub AsMultilock : Build → Type 0
AsMultilock f =
    (w : World) (registry script : List ℕ) (place : ℕ) (held keys grants other : List ℕ) → BeyondChecks w registry script place held keys grants
    → let sorted = cells_sorted w.head.buckets registry keys in
    let chosen = sorted_keys w.head.buckets registry keys in
    let k = acquire_locks registry script place held chosen other in
    length other ≡ 3 * length sorted
    → Clear (rules w k)
    × AsLocks w.head.buckets w.head.boot registry keys grants (f w (acquire_sorted registry script place held keys grants)) (f w k)
    × (count_in chosen ≡ length sorted)
    × (length sorted ≤ count_in keys)
    × ((i : ℕ) → i < length sorted → key_cell w.head.buckets registry chosen i ≡ get_or sorted i 0)

-- ---- granted in quiet: a script at its end, keys of cells that are free, unwaited and healthy

-- the cell at a place of the sorted list
abbrev pub sorted_cell : (buckets : ℕ) (registry keys : List ℕ) → ℕ → ℕ
sorted_cell buckets registry keys i = get_or (cells_sorted buckets registry keys) i 0

-- one attempt and three boundaries for each distinct cell, with the next serials in rising order of cells
abbrev pub SortedQuiet : Build → Type 0
SortedQuiet f =
    (w : World) (registry script : List ℕ) (place : ℕ) (held keys grants : List ℕ)
    → let k = acquire_sorted registry script place held keys grants in
    let b = w.head.buckets in
    let n = length (cells_sorted b registry keys) in
    let leases = leases_from (sorted_cell b registry keys) n 0 w.head.next in
    Clear (rules w k) → steps_in script ≤ place
    → ((p : ℕ) → p < count_in keys → Names w registry (binding_at keys p) (bucket_at keys p) × Unwaited w (key_cell b registry keys p) × IsFree w (key_cell b registry keys p))
    → w.head.next + n ≤ last_serial
    → (f w k).seen ≡ (now w (takes_of leases), says AllGranted (counts_of n (3 * n) 0 0) place (words_of w.head.boot (shared_of leases (cells_asked b registry keys))))

-- ---- refused later: "a later refusal carries the first position asking for that cell"

pub record RefusedLater (buckets : ℕ) (registry keys : List ℕ) (p : ℕ) (log : List Event) : Type 0 where
  pub position : p < count_in keys
  pub first_asking_lem : (q : ℕ) → q < p → key_cell buckets registry keys q ≢ key_cell buckets registry keys p
  -- the place of that cell in the sorted list: the cells before it were locked, and their leases are given back, the last first
  pub place : ℕ
  pub cell : get_or (cells_sorted buckets registry keys) place 0 ≡ key_cell buckets registry keys p
  pub back : RolledBack buckets registry (sorted_keys buckets registry keys) place log

abbrev pub LaterPosition : Build → Type 0
LaterPosition f =
    (w : World) (registry script : List ℕ) (place : ℕ) (held keys grants : List ℕ) (r : Refusal) (p : ℕ)
    → let m = f w (acquire_sorted registry script place held keys grants) in
    answer_in m ≡ RefusedAt r p → (TestsKey r → ⊥)
    → RefusedLater w.head.buckets registry keys p m.log × (buffer_in m ≡ grants)

-- ---- "To `release_all` the caller hands each lease once, else 14."

-- an earlier key asks for the same cell
abbrev pub Doubled : (buckets : ℕ) (registry keys : List ℕ) → ℕ → Type 0
Doubled buckets registry keys j = (i : ℕ) × (i < j) × (key_cell buckets registry keys i ≡ key_cell buckets registry keys j)

-- the buffer as it was handed back, given to `release_all` right afterwards: refused with 14 at the first position that repeats an earlier one
abbrev pub Fourteen : Build → Type 0
Fourteen f =
    (w : World) (registry script : List ℕ) (place : ℕ) (held keys grants : List ℕ) (p q : ℕ)
    → let m = f w (acquire_sorted registry script place held keys grants) in
    let cell = key_cell w.head.buckets registry keys in
    answer_in m ≡ AllGranted → p < q → q < count_in keys → cell p ≡ cell q
    → (j : ℕ) × (j ≤ q) × Doubled w.head.buckets registry keys j
    × ((i : ℕ) → i < j → Doubled w.head.buckets registry keys i → ⊥)
    × (answer_in (f (world_in m) (release_all [] 0 (buffer_in m))) ≡ Refused (Repeated j))

-- "each lease once", of each cell asked for, in rising order: released
abbrev pub OnceDone : Build → Type 0
OnceDone f =
    (w : World) (registry script : List ℕ) (place : ℕ) (held keys grants : List ℕ)
    → let m = f w (acquire_sorted registry script place held keys grants) in
    answer_in m ≡ AllGranted
    → answer_in (f (world_in m) (release_all [] 0 (words_of w.head.boot (shared_of (holds_of (buffer_in m)) (cells_sorted w.head.buckets registry keys))))) ≡ Done
