-- What a build must do, said without the definitions that say how ours does it: four files, to be read in this order, `Words`, `Checks`, `Steps`,
-- `Statements`. They are documents 01 and 02 in plain numbers. A cell is three words of the table, a lease is a cell and a serial, a list is its words,
-- a refusal is its number and what it carries, and a call is given and leaves numbers and lists. A sentence in double quotes is of the documents.
-- `Theorems` proves that our definitions do all this, and that nothing else does.
-- The four files cite types (a head, a lease, an answer, an event, a world, a call), natural numbers and lists. Of the definitions of crate `model`,
-- which they pin down, they cite none; tests/pinned.sh looks at their imports.
--
-- To read them: `A × B` is A and B, `A ⊎ B` is A or B, `A → ⊥` is not A, and `x ≢ y` says that x and y differ. `get_or xs i 0` is the word at place i of
-- a list, 0 where it has none, and `set xs i v` the list with v there. `x.0` and `x.1` are the parts of a pair, and `λ a. ..` goes on with a.
--
-- This file: how a thing is said to be; the arena, a cell, a lease; what a step changes.
use Rattle.std.specs.Prelude.{ℕ, ◌+◌, ◌*◌, ◌≤◌, ◌<◌, ◌≡◌, List, [], ◌∷◌, ◌++◌, ◌⊎◌, get_or, set}
use Rattle.model.specs.Log.{Event, Made}
use Rattle.types.specs.declared.Answer.{Answer}
use Rattle.types.specs.declared.Answer.TheVariants.{Done, Cell, Granted, AllGranted, Busy, Refused, RefusedAt}
use Rattle.types.specs.declared.Counts.{Counts}
use Rattle.types.specs.declared.Head.{Head}
use Rattle.types.specs.declared.Hold.{Hold}
use Rattle.types.specs.declared.Lease.{Lease}
use Rattle.types.specs.declared.Reason.{Reason}
use Rattle.history.specs.World.{World}
use Rattle.history.specs.Items.{Says}

-- ---- how a thing is said to be

-- x is y
abbrev pub Is : {A : Type 0} → A → A → Type 0
Is y x = x ≡ y

-- C holds and x is as P says, or C does not and x is as Q says
infixr 5 If◌Then◌Else◌
abbrev pub If◌Then◌Else◌ : {A : Type 0} → Type 0 → (A → Type 0) → (A → Type 0) → A → Type 0
(If C Then P Else Q) x = (C × P x) ⊎ ((C → ⊥) × Q x)

-- some a is as P says, and x is as Q says of that a
abbrev pub With : {A B : Type 0} → (A → Type 0) → (A → B → Type 0) → B → Type 0
With {A} P Q x = (a : A) × P a × Q a x

-- ---- and with a log. What a step or a call does is `Made`: what is seen of it, and its log, a list of events, the oldest first

abbrev pub logged : {A : Type 0} → A → List Event → Made A
logged x es = record { seen = x; log = es }

-- this is seen, and there was no event; this is seen, and there was this event
abbrev pub Gives : {A : Type 0} → A → Made A → Type 0
Gives x = Is (logged x [])

abbrev pub Does : {A : Type 0} → Event → A → Made A → Type 0
Does e x = Is (logged x (e ∷ []))

-- one thing, and behind it, by what is seen of it, another: the one's log, then the other's
abbrev pub After : {A B : Type 0} → (Made A → Type 0) → (A → Made B → Type 0) → Made B → Type 0
After P Q = With P λ m. With (Q m.seen) λ n. Is (logged n.seen (m.log ++ n.log))

-- this event, and then so
abbrev pub Noting : {A : Type 0} → Event → (Made A → Type 0) → Made A → Type 0
Noting e P = With P λ m. Is (logged m.seen (e ∷ m.log))

-- so, but this is seen of it
abbrev pub SeenAs : {A B : Type 0} → (A → B) → (Made A → Type 0) → Made B → Type 0
SeenAs f P = With P λ m. Is (logged (f m.seen) m.log)

-- ---- the arena: a head, the table's words, the health bytes

abbrev pub arena : Head → (table health : List ℕ) → World
arena h t g = record { head = h; table = t; health = g }

abbrev pub head_of_lem : (headers buckets next boot : ℕ) → Head
head_of_lem h b n k = record { headers = h; buckets = b; next = n; boot = k }

-- "H x B"
abbrev pub size : World → ℕ
size w = w.head.headers * w.head.buckets

-- "bit, owner, waiters for each cell"
abbrev pub bit : World → ℕ → ℕ
bit w c = get_or w.table (3 * c) 0

abbrev pub owner : World → ℕ → ℕ
owner w c = get_or w.table (3 * c + 1) 0

abbrev pub waiters : World → ℕ → ℕ
waiters w c = get_or w.table (3 * c + 2) 0

-- "Health: H lent bytes; 0 is healthy"
abbrev pub health_byte : World → ℕ → ℕ
health_byte w header = get_or w.health header 0

-- "Header slots H from 1 to 64, buckets per header B from 1 to 1,024, H x B at most 4,096."; "The next serial is 1 to 4,294,967,295"; "exactly 3 x H x B
-- words"
pub record Shape (h : Head) (words : ℕ) : Type 0 where
  pub some_headers : 1 ≤ h.headers
  pub few_headers : h.headers ≤ 64
  pub some_buckets : 1 ≤ h.buckets
  pub few_buckets : h.buckets ≤ 1024
  pub few_cells : h.headers * h.buckets ≤ 4096
  pub low : 1 ≤ h.next
  pub high : h.next ≤ 4_294_967_295
  pub words_are : words ≡ 3 * (h.headers * h.buckets)

-- "A cell is free: bit 0, owner 0. Held: bit 1, owner from 1 to next - 1. Anything else is damaged."
abbrev pub IsFree : World → ℕ → Type 0
IsFree w c = (bit w c ≡ 0) × (owner w c ≡ 0)

abbrev pub IsHeld : World → ℕ → Type 0
IsHeld w c = (bit w c ≡ 1) × (1 ≤ owner w c) × (owner w c < w.head.next)

abbrev pub IsDamaged : World → ℕ → Type 0
IsDamaged w c = (IsFree w c → ⊥) × (IsHeld w c → ⊥)

-- "at 4,294,967,295 none remains"
abbrev pub NoSerial : World → Type 0
NoSerial w = 4_294_967_295 ≤ w.head.next

-- "A lease (cell, serial) is live if the cell is held by that serial."; "A lease whose cell is out of range is not live"
pub record IsLive (w : World) (c s : ℕ) : Type 0 where
  pub inside : c < size w
  pub bit_is : bit w c ≡ 1
  pub owner_is : owner w c ≡ s
  pub low : 1 ≤ s
  pub high : s < w.head.next

-- ---- what a step changes

-- another next serial, and another bit and owner in one cell
abbrev pub put : World → (next : ℕ) → (c b o : ℕ) → World
put w next c b o =
    arena (head_of_lem w.head.headers w.head.buckets next w.head.boot) (set (set w.table (3 * c) b) (3 * c + 1) o) w.health

-- "the cell gets bit 1 and the next serial, and next rises by 1"
abbrev pub taken : World → ℕ → World
taken w c = put w (w.head.next + 1) c 1 w.head.next

-- a released cell is free
abbrev pub freed : World → ℕ → World
freed w c = put w w.head.next c 0 0

abbrev pub with_waiters : World → ℕ → ℕ → World
with_waiters w c n = arena w.head (set w.table (3 * c + 2) n) w.health

abbrev pub with_health : World → ℕ → ℕ → World
with_health w header n = arena w.head w.table (set w.health header n)

-- ---- lists of leases: "three words a lease in all lists", cell, serial and boot number; words left over are no lease

-- cells and serials
unfoldable pub holds : List ℕ → List Hold
holds [] = []
holds (c ∷ []) = []
holds (c ∷ s ∷ []) = []
holds (c ∷ s ∷ b ∷ ws) = record { cell = c; serial = s } ∷ holds ws

-- and back, each with this boot number
unfoldable pub words : (boot : ℕ) → List Hold → List ℕ
words boot [] = []
words boot (l ∷ ls) = l.cell ∷ l.serial ∷ boot ∷ words boot ls

-- the cell and the serial stand in the list
abbrev pub StandsIn : ℕ → ℕ → List Hold → Type 0
StandsIn c s [] = ⊥
StandsIn c s (k ∷ ks) = ((k.cell ≡ c) × (k.serial ≡ s)) ⊎ StandsIn c s ks

-- ---- what a call says: "Each result gives attempts begun, boundaries, yields and dropped steps"; beside them its answer, the place in the script
-- afterwards and the grant buffer afterwards, 0 and empty where it has none

abbrev pub counted : (attempts boundaries yields dropped : ℕ) → Counts
counted a b y d = record { attempts = a; boundaries = b; yields = y; dropped = d }

abbrev pub says : Answer → Counts → (place : ℕ) (grants : List ℕ) → Says
says a k p g = record { answer = a; counts = k; place = p; grants = g }

-- what a call does: the world that it leaves, what it says, and its log
abbrev pub Result : Type 0
Result = Made (World × Says)

-- by whether an answer grants a lease; by whether it is Busy, with a reason
abbrev pub IfGranted : {A : Type 0} → Answer → (Lease → A → Type 0) → (A → Type 0) → A → Type 0
IfGranted (Granted l) P Q = P l
IfGranted (Busy why) P Q = Q
IfGranted (Refused r) P Q = Q
IfGranted Done P Q = Q
IfGranted (Cell c) P Q = Q
IfGranted AllGranted P Q = Q
IfGranted (RefusedAt r p) P Q = Q

abbrev pub IfBusy : {A : Type 0} → Answer → (Reason → A → Type 0) → (A → Type 0) → A → Type 0
IfBusy (Busy why) P Q = P why
IfBusy (Granted l) P Q = Q
IfBusy (Refused r) P Q = Q
IfBusy Done P Q = Q
IfBusy (Cell c) P Q = Q
IfBusy AllGranted P Q = Q
IfBusy (RefusedAt r p) P Q = Q
