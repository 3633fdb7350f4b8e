-- What a history with a book is made of: the items of a history, and the book's calls; the book is one more lent run, handed on.
use Rattle.std.specs.Prelude.{ℕ, ◌-◌, ◌≡◌, List, [], ◌∷◌, eqb, length, get_or, if◌then◌else◌, Ok, Err}
use Rattle.types.specs.declared.Head.{Head}
use Rattle.types.specs.declared.Lease.{Lease}
use Rattle.setpoint.specs.RoundTrip.{Held}
use Rattle.setpoint.specs.declared.Setpoint.{Setpoint}
use Rattle.setpoint.specs.declared.Setpoint.TheVariants.{Speed}
use Rattle.book_rules.specs.Layout.{slots_of}
use Rattle.book_rules.specs.Calls.{prepare_book_of, write_setpoint_of, read_setpoint_of, read_version_of}
use Rattle.book_rules.proofs.Outcomes.{kept_or}
use Rattle.book_rules.specs.declared.BookDone.TheVariants.{Done, Written, Setting}
use Rattle.book_rules.specs.declared.BookRefusal.TheVariants.{NeverWritten}
use Rattle.history.specs.World.{World}
use Rattle.history.specs.Items.{Item, Course, next_item}
use Rattle.book_rules.specs.Rules.{BookAnswer}

-- an item of a history (a call of document 01, a lone foreign step, a preparation or a salvage of the arena), or a call of the book without
-- the head, the table and the book, which are what the last item left
pub data BookItem : Type 0 where
  arena_item : Item → BookItem
  prepare_book : BookItem
  write_setpoint : (slot : ℕ) → Lease → Setpoint → BookItem
  read_setpoint : (slot : ℕ) → BookItem
  read_version : (slot version : ℕ) → BookItem

-- what a book call was, and what it answered
pub data BookEntry : Type 0 where
  prepared : BookAnswer → BookEntry
  wrote : (slot : ℕ) → Lease → Setpoint → BookAnswer → BookEntry
  was_read : (slot : ℕ) → BookAnswer → BookEntry
  version_read_lem : (slot version : ℕ) → BookAnswer → BookEntry

-- the arena's history, the book now, and what the book's calls answered so far, the newest first
pub record Shift : Type 0 where
  pub course : Course
  pub book : List ℕ
  pub entries : List BookEntry

abbrev pub shift_of : Course → List ℕ → List BookEntry → Shift
shift_of k b es = record { course = k; book = b; entries = es }

-- the world and the head in force
abbrev pub world_of : Shift → World
world_of s = s.course.world

abbrev pub head_of_lem : Shift → Head
head_of_lem s = s.course.world.head

abbrev pub slots_in : Shift → ℕ
slots_in s = slots_of (head_of_lem s)

-- what each call of the book answers there
abbrev pub preparing_book : Shift → BookAnswer × List ℕ
preparing_book s = prepare_book_of (head_of_lem s) s.book

abbrev pub writing : Shift → ℕ → Lease → Setpoint → BookAnswer × List ℕ
writing s slot l p = write_setpoint_of (head_of_lem s) (world_of s).table s.book slot l p

abbrev pub reading : Shift → ℕ → BookAnswer
reading s slot = read_setpoint_of (head_of_lem s) s.book slot

abbrev pub reading_version : Shift → ℕ → ℕ → BookAnswer
reading_version s slot w = read_version_of (head_of_lem s) s.book slot w

-- one item more
unfoldable pub next_shift : Shift → BookItem → Shift
next_shift s (arena_item i) = shift_of (next_item s.course i) s.book s.entries
next_shift s prepare_book = let o = preparing_book s in shift_of s.course o.1 (prepared o.0 ∷ s.entries)
next_shift s (write_setpoint slot l p) = let o = writing s slot l p in shift_of s.course o.1 (wrote slot l p o.0 ∷ s.entries)
next_shift s (read_setpoint slot) = shift_of s.course s.book (was_read slot (reading s slot) ∷ s.entries)
next_shift s (read_version slot w) = shift_of s.course s.book (version_read_lem slot w (reading_version s slot w) ∷ s.entries)

unfoldable pub run_shift : Shift → List BookItem → Shift
run_shift s [] = s
run_shift s (i ∷ is) = run_shift (next_shift s i) is

-- ---- the settings of a slot, by the done writes on it since the last done preparation of the book; the newest first

-- what one entry makes of what came before it
abbrev pub settings_after : BookEntry → ℕ → List Setpoint → List Setpoint
settings_after (prepared (Ok Done)) slot before = []
settings_after (prepared (Ok (Written v m))) slot before = before
settings_after (prepared (Ok (Setting p v))) slot before = before
settings_after (prepared (Err r)) slot before = before
settings_after (wrote t l p (Ok Done)) slot before = before
settings_after (wrote t l p (Ok (Written v m))) slot before = if eqb t slot then p ∷ before else before
settings_after (wrote t l p (Ok (Setting q v))) slot before = before
settings_after (wrote t l p (Err r)) slot before = before
settings_after (was_read t a) slot before = before
settings_after (version_read_lem t w a) slot before = before

unfoldable pub settings : ℕ → List BookEntry → List Setpoint
settings slot [] = []
settings slot (e ∷ es) = settings_after e slot (settings slot es)

-- what a read is to answer then: the last, with their number as its version
abbrev pub newest_read : List Setpoint → BookAnswer
newest_read [] = Err NeverWritten
newest_read (p ∷ ps) = Ok (Setting p (length (p ∷ ps)))

-- and what a read of a version is to answer: the w-th setting, if it is one of "the newest four settings", else NeverWritten
unfoldable pub version_read : List Setpoint → ℕ → BookAnswer
version_read ss w = elim (kept_or (length ss) w) [ yes k ↦ Ok (Setting (get_or ss (length ss - w) (Speed 0)) w) | no k ↦ Err NeverWritten ]

-- ---- premises

-- after every item the head in force has n slots. Preparations and salvages of the arena are among the items: a done one keeps to it if H x B
-- gives the same number, at most 64; a refused one always does, as does every call
abbrev pub SameSlots : ℕ → Shift → List BookItem → Type 0
SameSlots n s [] = Unit {0}
SameSlots n s (i ∷ is) = (slots_in (next_shift s i) ≡ n) × SameSlots n (next_shift s i) is

-- the setpoints that are written are values of their types
abbrev pub Typed : BookItem → Type 0
Typed (arena_item i) = Unit {0}
Typed prepare_book = Unit {0}
Typed (write_setpoint slot l p) = Held p
Typed (read_setpoint slot) = Unit {0}
Typed (read_version slot w) = Unit {0}

abbrev pub AllTyped : List BookItem → Type 0
AllTyped [] = Unit {0}
AllTyped (i ∷ is) = Typed i × AllTyped is
