-- What the setpoint book promises, about single calls and over histories, as statements. `Items` has the words they are made of, `Theorems`
-- gives their proofs by name. What stands in quotes is of document 02, L2 and L10, or of the work order.
use Rattle.std.specs.Prelude.{ℕ, zero, suc, ◌+◌, ◌*◌, ◌-◌, ◌≤◌, ◌<◌, ◌≡◌, ◌≢◌, ◌⊎◌, ◌↔◌, List, [], ◌∷◌, ◌++◌, Bool, true, false, not, ◌&&◌, eqb, length, get_or, if◌then◌else◌, Ok, Err}
use Rattle.model.specs.Arena.{cells_of, is_stale, lease_live, hold_in, head_fits}
use Rattle.model.specs.Log.{Actor, Event, released}
use Rattle.types.specs.declared.Head.{Head}
use Rattle.types.specs.declared.Hold.{Hold}
use Rattle.types.specs.declared.Lease.{Lease}
use Rattle.laws.specs.Shape.{Shaped}
use Rattle.setpoint.specs.Codec.{has_body, body_of}
use Rattle.setpoint.specs.RoundTrip.{Held}
use Rattle.setpoint.specs.declared.Setpoint.{Setpoint}
use Rattle.book_rules.specs.Layout.{slots_of, lines_of, five_at, place_at, length_at, newest_at}
use Rattle.book_rules.specs.Writing.{count, drop_oldest_of, is_crowded}
use Rattle.book_rules.specs.Rules.{BookAnswer, first_fault, bad_table, bad_slot, is_bad_slot, last_version}
use Rattle.book_rules.specs.Sound.{Kept, Apart, Sound, Free}
use Rattle.book_rules.specs.Appended.{goes_of}
use Rattle.book_rules.specs.Wrote.{is_staying}
use Rattle.book_rules.specs.Outcomes.{Keeps}
use Rattle.book_rules.specs.declared.BookDone.TheVariants.{Done, Written, Setting}
use Rattle.book_rules.specs.declared.BookRefusal.{BookRefusal}
use Rattle.book_rules.specs.declared.BookRefusal.TheVariants.{StaleBoot, DamagedBook, BookFull, NeverWritten}
use Rattle.history.specs.Tests.{Alive}
use Rattle.history.specs.World.{World, Live}
use Rattle.history.specs.Items.{Item, Course, cold, history_of}
use Rattle.history.specs.Statements.{Begins}
use Rattle.book_theory.specs.Items.{BookItem, arena_item, prepare_book, write_setpoint, read_setpoint, read_version, BookEntry, Shift, shift_of, world_of, slots_in, preparing_book, writing, reading, reading_version, next_shift, run_shift, settings, newest_read, version_read, SameSlots, AllTyped}

-- what answers a write, and what answers a read of a version; `write_setpoint_of` and `read_version_of` are ours. A statement about one call is one of
-- any such function, so that a wrong one can be seen to fail it
abbrev pub Writer : Type 0
Writer = Head → (table book : List ℕ) → ℕ → Lease → Setpoint → BookAnswer × List ℕ

abbrev pub Reader : Type 0
Reader = Head → (book : List ℕ) → (slot version : ℕ) → BookAnswer

-- f of each number below m, summed
unfoldable pub summed : ℕ → (ℕ → ℕ) → ℕ
summed zero f = 0
summed (suc m) f = summed m f + f m

-- ---- a done write: of the setpoint s on a slot, which gave version v and moved so many bytes. `c` is the book afterwards

abbrev pub AfterWrite : Writer → (Head → (book after : List ℕ) → ℕ → Setpoint → ℕ → ℕ → Type 0) → Type 0
AfterWrite f P =
    (h : Head) (t b : List ℕ) (slot : ℕ) (l : Lease) (s : Setpoint) (v moved : ℕ) → Held s
    → (f h t b slot l s).0 ≡ Ok (Written v moved) → P h b (f h t b slot l s).1 slot s v moved

-- "After compaction each kept version reads as before": each version of each slot, compacting or not, but the new one and the fourth before it
abbrev pub OthersReadAsBefore : Writer → Reader → Type 0
OthersReadAsBefore f g =
    AfterWrite f (λ h b c slot s v moved. (i w : ℕ) → (i ≢ slot) ⊎ ((w ≢ v) × (w + 4 ≢ v)) → i < slots_of h → g h c i w ≡ g h b i w)

-- the new one reads as written
abbrev pub NewReadsAsWritten : Writer → Reader → Type 0
NewReadsAsWritten f g = AfterWrite f (λ h b c slot s v moved. g h c slot v ≡ Ok (Setting s v))

-- the fourth before it is no longer kept
abbrev pub OldestIsDropped : Writer → Reader → Type 0
OldestIsDropped f g = AfterWrite f (λ h b c slot s v moved. (w : ℕ) → w + 4 ≡ v → g h c slot w ≡ Err NeverWritten)

-- "raises the version by one"
abbrev pub RaisesByOne : Writer → Type 0
RaisesByOne f = AfterWrite f (λ h b c slot s v moved. (v ≡ newest_at b slot + 1) × (newest_at c slot ≡ v))

-- line k of the old book stays, and its body has another place in the new one, where it stands in line `goes_of`
unfoldable pub is_moved : (book after : List ℕ) → ℕ → ℕ → Bool
is_moved b c slot k = is_staying b slot k && not (eqb (place_at c (goes_of slot k)) (place_at b k))

-- "bytes moved, equal to the summed lengths of the bodies whose place changed": it speaks of the two books alone, not of the slide
abbrev pub MovedIsSummed : Writer → Type 0
MovedIsSummed f =
    AfterWrite f (λ h b c slot s v moved. moved ≡ summed (lines_of (slots_of h)) (λ k. if is_moved b c slot k then length_at b k else 0))

-- none where nothing slid: there was room behind the last body
abbrev pub StillMovesNothing : Writer → Type 0
StillMovesNothing f =
    AfterWrite f (λ h b c slot s v moved.
    is_crowded (slots_of h) (drop_oldest_of b slot) ≡ false
    → (moved ≡ 0) × ((k : ℕ) → k < lines_of (slots_of h) → is_staying b slot k ≡ true → place_at c (goes_of slot k) ≡ place_at b k))

-- and a slide moves a body at least: so the bytes moved tell whether there was one
abbrev pub SlidesMove : Writer → Type 0
SlidesMove f = AfterWrite f (λ h b c slot s v moved. is_crowded (slots_of h) (drop_oldest_of b slot) ≡ true → 5 ≤ moved)

-- "in the order of their places": of two bodies that stay, the one before stays before
abbrev pub OrderIsKept : Writer → Type 0
OrderIsKept f =
    AfterWrite f (λ h b c slot s v moved.
    (k l : ℕ) → k < lines_of (slots_of h) → l < lines_of (slots_of h) → is_staying b slot k ≡ true → is_staying b slot l ≡ true
    → place_at b k < place_at b l → place_at c (goes_of slot k) < place_at c (goes_of slot l))

-- ---- when a write is done, and when it is BookFull, in numbers

-- what is tested before the room: head and table fit; the book has its contents, keeps to the limit, and has the slot; the lease has the head's
-- boot number, is on the slot's cell, and owns it; the setpoint has a body; the book is not damaged; the slot is not at the last version
pub record Writable (h : Head) (t b : List ℕ) (slot : ℕ) (l : Lease) (s : Setpoint) : Type 0 where
  pub shape : Shaped h (length t)
  pub contents : 32 * slots_of h ≤ length b
  pub limit : length b ≤ 32768
  pub inside : slot < slots_of h
  pub boot : l.boot ≡ h.boot
  pub own : l.cell ≡ slot
  pub owner : Alive h.next (cells_of h) t (hold_in l)
  pub finite : has_body s ≡ true
  pub sound : Sound (slots_of h) b
  pub remains : newest_at b slot ≢ last_version

-- the bytes that the contents, the bodies that stay and one more take
abbrev pub Needed : Head → List ℕ → ℕ → ℕ
Needed h b slot = 32 * slots_of h + 5 * count (lines_of (slots_of h)) (is_staying b slot) + 5

-- "Refuse BookFull, last in order, exactly when kept bodies after that drop leave fewer than 5 bytes"; and then nothing changed
abbrev pub FullExactly : Writer → Type 0
FullExactly f =
    (h : Head) (t b : List ℕ) (slot : ℕ) (l : Lease) (s : Setpoint)
    → (f h t b slot l s ≡ (Err BookFull, b)) ↔ (Writable h t b slot l s × (length b < Needed h b slot))

-- a write is done exactly if no refusal applies
abbrev pub DoneExactly : Writer → Type 0
DoneExactly f =
    (h : Head) (t b : List ℕ) (slot : ℕ) (l : Lease) (s : Setpoint)
    → ((v : ℕ) × (moved : ℕ) × ((f h t b slot l s).0 ≡ Ok (Written v moved))) ↔ (Writable h t b slot l s × (Needed h b slot ≤ length b))

-- so a book with room for four bodies a slot is never full
abbrev pub RoomForAll : Writer → Type 0
RoomForAll f =
    (h : Head) (t b : List ℕ) (slot : ℕ) (l : Lease) (s : Setpoint) → 52 * slots_of h ≤ length b → (f h t b slot l s).0 ≢ Err BookFull

-- "refusals change nothing"
abbrev pub RefusedChangesNothing : Writer → Type 0
RefusedChangesNothing f =
    (h : Head) (t b : List ℕ) (slot : ℕ) (l : Lease) (s : Setpoint)
    → ((v moved : ℕ) → (f h t b slot l s).0 ≢ Ok (Written v moved)) → (f h t b slot l s).1 ≡ b

-- ---- what a read answers, by the book's bytes

-- the five bytes of version w are those of this setpoint
abbrev pub AsWritten : List ℕ → ℕ → ℕ → Setpoint → Type 0
AsWritten b slot w p =
    Held p × (has_body p ≡ true) × (five_at b (place_at b (4 * slot + (newest_at b slot - w))) ≡ body_of p)

-- a read that passes the first two checks, of a book of bytes, is exactly one of three: DamagedBook in a damaged book, else the version's setpoint
-- if it is one of the newest four, else NeverWritten
abbrev pub ReadsExactly : Reader → Type 0
ReadsExactly f =
    (h : Head) (b : List ℕ) (slot w : ℕ) → ((j : ℕ) → get_or b j 0 < 256) → head_fits h ≡ true → is_bad_slot (slots_of h) (length b) slot ≡ false
    → ((p : Setpoint) (v : ℕ) → (f h b slot w ≡ Ok (Setting p v)) ↔ ((v ≡ w) × Sound (slots_of h) b × Keeps (newest_at b slot) w × AsWritten b slot w p))
    × ((f h b slot w ≡ Err NeverWritten) ↔ (Sound (slots_of h) b × (Keeps (newest_at b slot) w → ⊥)))
    × ((f h b slot w ≡ Err DamagedBook) ↔ (Sound (slots_of h) b → ⊥))

-- ---- "Preparing the book writes all of it, so what is read never depends on older bytes."

-- after a done preparation, whatever stood in the book, every version of every slot reads NeverWritten
abbrev pub PreparedReadsNothing : Type 0
PreparedReadsNothing =
    (s : Shift) (slot w : ℕ) → (preparing_book s).0 ≡ Ok Done → slot < slots_in s
    → (reading (next_shift s prepare_book) slot ≡ Err NeverWritten) × (reading_version (next_shift s prepare_book) slot w ≡ Err NeverWritten)

-- two books of one length before it: the same items answer the same, and leave the same book
abbrev pub ForgetsOlderBytes : Type 0
ForgetsOlderBytes =
    (k : Course) (b c : List ℕ) (es : List BookEntry) (items : List BookItem) → length b ≡ length c → (preparing_book (shift_of k b es)).0 ≡ Ok Done
    → run_shift (shift_of k b es) (prepare_book ∷ items) ≡ run_shift (shift_of k c es) (prepare_book ∷ items)

-- ---- what is read is what was last written

-- from a done preparation of the book on, over any items that keep the number of slots of the head in force
abbrev pub FromPrepared : (Shift → Type 0) → Type 0
FromPrepared P =
    (s : Shift) (items : List BookItem) → (preparing_book s).0 ≡ Ok Done
    → SameSlots (slots_in s) (next_shift s prepare_book) items → AllTyped items
    → P (run_shift s (prepare_book ∷ items))

-- a read of a slot answers the setpoint of the last done write on it, with the number of done writes on it as the version; where there was
-- none, NeverWritten
abbrev pub ReadsLastWrite : Type 0
ReadsLastWrite = FromPrepared (λ v. (slot : ℕ) → slot < slots_in v → reading v slot ≡ newest_read (settings slot v.entries))

-- "keeps the newest four settings of each slot", exactly: version w reads as the w-th done write on the slot, if that is one of the last four
abbrev pub ReadsNewestFour : Type 0
ReadsNewestFour = FromPrepared (λ v. (slot w : ℕ) → slot < slots_in v → reading_version v slot w ≡ version_read (settings slot v.entries) w)

-- so a version is NeverWritten exactly if it is 0, has not been written, or is four or more behind the last
abbrev pub NeverExactly : Type 0
NeverExactly =
    FromPrepared (λ v. (slot w : ℕ) → slot < slots_in v
    → (reading_version v slot w ≡ Err NeverWritten) ↔ (Keeps (length (settings slot v.entries)) w → ⊥))

-- no read and no write answers DamagedBook
abbrev pub NeverDamaged : Type 0
NeverDamaged =
    FromPrepared (λ v.
    ((slot : ℕ) → reading v slot ≢ Err DamagedBook)
    × ((slot w : ℕ) → reading_version v slot w ≢ Err DamagedBook)
    × ((slot : ℕ) (l : Lease) (p : Setpoint) → (writing v slot l p).0 ≢ Err DamagedBook))

-- no two bodies overlap
abbrev pub NeverOverlap : Type 0
NeverOverlap =
    FromPrepared (λ v.
    (i j : ℕ) → i < lines_of (slots_in v) → j < lines_of (slots_in v) → i ≢ j → Kept v.book i → Kept v.book j
    → Apart (place_at v.book i) (place_at v.book j))

-- "Vacated bytes become zeros": every byte behind the contents that no kept body covers
abbrev pub FreeAreZeros : Type 0
FreeAreZeros = FromPrepared (λ v. (j : ℕ) → Free (slots_in v) v.book j → ◌≡◌ {A = ℕ} (get_or v.book j 0) 0)

-- a newer body of a slot lies behind an older one: so the one that a write drops, the oldest of four, never lies last
abbrev pub NewerLieBehind : Type 0
NewerLieBehind =
    FromPrepared (λ v.
    (slot i j : ℕ) → slot < slots_in v → i < j → j < 4 → Kept v.book (4 * slot + j)
    → place_at v.book (4 * slot + j) + 5 ≤ place_at v.book (4 * slot + i))

-- ---- "Writing needs a live lease on the slot's cell"

-- a write that is done named a lease that is live there, on the slot's own cell, with the boot number of the head. Document 02, L8: "A lease with
-- another boot number is refused"
abbrev pub WrittenByHolder : Writer → Type 0
WrittenByHolder f =
    (w : World) (b : List ℕ) (slot : ℕ) (l : Lease) (p : Setpoint) (v moved : ℕ) → (f w.head w.table b slot l p).0 ≡ Ok (Written v moved)
    → Live w (hold_in l) × (l.cell ≡ slot) × (l.boot ≡ w.head.boot)

-- so a lease that has not the head's boot number, or is not live, writes nothing: it is refused, and every byte of the book stays
abbrev pub UnownedWritesNothing : Writer → Type 0
UnownedWritesNothing f =
    (w : World) (b : List ℕ) (slot : ℕ) (l : Lease) (p : Setpoint) → (lease_live w.head w.table l ≡ true → ⊥)
    → (r : BookRefusal) × (f w.head w.table b slot l p ≡ (Err r, b))

-- one with another boot number is StaleBoot, once table, book and slot pass
abbrev pub StaleWritesNothing : Writer → Type 0
StaleWritesNothing f =
    (w : World) (b : List ℕ) (slot : ℕ) (l : Lease) (p : Setpoint) → is_stale w.head l ≡ true
    → first_fault (bad_table w.head w.table ∷ bad_slot w.head (length b) slot ∷ []) ≡ Ok tt
    → f w.head w.table b slot l p ≡ (Err StaleBoot, b)

-- in any world two leases with which a write on one slot is done are the same lease
abbrev pub OneWriter : Writer → Type 0
OneWriter f =
    (w : World) (b c : List ℕ) (slot : ℕ) (l k : Lease) (p q : Setpoint) (u v m o : ℕ)
    → (f w.head w.table b slot l p).0 ≡ Ok (Written u m) → (f w.head w.table c slot k q).0 ≡ Ok (Written v o) → l ≡ k

-- the item begins no new stretch: it is no start of the arena's history, a done preparation or a done salvage
abbrev pub GoesOn : Shift → BookItem → Type 0
GoesOn s (arena_item i) = Begins (world_of s) i → ⊥
GoesOn s prepare_book = Unit {0}
GoesOn s (write_setpoint slot l p) = Unit {0}
GoesOn s (read_setpoint slot) = Unit {0}
GoesOn s (read_version slot w) = Unit {0}

abbrev pub OneStretch : Shift → List BookItem → Type 0
OneStretch s [] = Unit {0}
OneStretch s (i ∷ is) = GoesOn s i × OneStretch (next_shift s i) is

-- the history of the second is that of the first and some events more, and a release of the lease, naming its cell and serial, is among these
abbrev pub ReleasedBetween : Course → Course → Hold → Type 0
ReleasedBetween k d l =
    (a : Actor) × (front back : List Event) × (history_of d ≡ history_of k ++ (front ++ (released a l.cell l.serial ∷ back)))

-- "two writers drive one valve": of two done writes on one slot in one stretch since a preparation or a salvage of the arena, with different
-- leases, the first lease was released between them
abbrev pub WritersParted : Type 0
WritersParted =
    (rubbish : World) (book : List ℕ) (start : Item) (before between : List BookItem) (slot : ℕ) (l k : Lease) (p q : Setpoint) (u v m o : ℕ)
    → Begins rubbish start
    → let one = run_shift (shift_of (cold rubbish) book []) (arena_item start ∷ before) in
    let two = run_shift one (write_setpoint slot l p ∷ between) in
    (writing one slot l p).0 ≡ Ok (Written u m) → (writing two slot k q).0 ≡ Ok (Written v o) → l ≢ k → OneStretch (next_shift one (write_setpoint slot l p)) between
    → ReleasedBetween one.course two.course (hold_in l)

-- ---- what touches the book

-- the item changes the book: a done preparation of it, or a done write
abbrev pub Rewrites : Shift → BookItem → Type 0
Rewrites s (arena_item i) = ⊥
Rewrites s prepare_book = (preparing_book s).0 ≡ Ok Done
Rewrites s (write_setpoint t l p) = (v moved : ℕ) × ((writing s t l p).0 ≡ Ok (Written v moved))
Rewrites s (read_setpoint t) = ⊥
Rewrites s (read_version t w) = ⊥

-- every other item leaves it, byte for byte: "refusals change nothing"
abbrev pub UntouchedOtherwise : Type 0
UntouchedOtherwise = (s : Shift) (i : BookItem) → Rewrites s i ⊎ ((next_shift s i).book ≡ s.book)

-- no item is a done preparation of the book
abbrev pub Unprepared : Shift → List BookItem → Type 0
Unprepared s [] = Unit {0}
Unprepared s (i ∷ is) = (i ≡ prepare_book → (preparing_book s).0 ≢ Ok Done) × Unprepared (next_shift s i) is

-- a damaged book has no cure but preparing it: until then every byte stays, and so does the damage
abbrev pub DamageStays : Type 0
DamageStays =
    (s : Shift) (items : List BookItem) → (Sound (slots_in s) s.book → ⊥) → SameSlots (slots_in s) s items → Unprepared s items
    → (run_shift s items).book ≡ s.book
