-- Document 02, L2 and L10: the setpoint book in plain numbers. What a build of its four calls must answer, and each byte that it must leave.
-- It cites types, natural numbers and lists, of the kit's floating point how an f32 is told by its bits, and of crate `pinned`, file `Words`, the arena and how
-- a thing is said to be. Of the definitions of crates `setpoint` and `book_rules`, which it pins down, it cites none; tests/pinned.sh looks at its imports.
-- `Theorems` proves that ours does all this, and that nothing else does. A sentence in double quotes is of document 02; `Words` says how to read the signs.
-- A book may be any list of numbers: nothing here asks that they are below 256.
use Rattle.std.specs.Prelude.{ℕ, zero, suc, ◌+◌, ◌*◌, ◌-◌, ◌/◌, ◌%◌, ◌≤◌, ◌<◌, min, ◌≡◌, ◌⊎◌, ◌≢◌, List, [], true, false, length, get_or, replicate, Result, Ok, Err}
use Rattle.std.specs.Float.{nan, inf, fin, binary32}
use Rattle.std.specs.Float.Ieee.{of_bits, to_bits}
use Rattle.types.specs.declared.Head.{Head}
use Rattle.types.specs.declared.Lease.{Lease}
use Rattle.setpoint.specs.declared.Setpoint.{Setpoint}
use Rattle.setpoint.specs.declared.Setpoint.TheVariants.{Pressure, Speed, Valve}
use Rattle.book_rules.specs.declared.BookDone.{BookDone}
use Rattle.book_rules.specs.declared.BookRefusal.{BookRefusal}
use Rattle.book_rules.specs.declared.BookDone.TheVariants.{Done, Written, Setting}
use Rattle.book_rules.specs.declared.BookRefusal.TheVariants.{BadShape, BadSlot, StaleBoot, NotHeld, NotFinite, DamagedBook, VersionsSpent, BookFull, NeverWritten}
use Rattle.pinned.specs.Words.{Is, If◌Then◌Else◌, With, arena, Shape, IsLive}

-- ---- a book is its bytes

abbrev pub byte : (book : List ℕ) (index : ℕ) → ℕ
byte b i = get_or b i 0

-- "one slot for each cell, at most the first 64"
abbrev pub slots : Head → ℕ
slots h = min (h.headers * h.buckets) 64

-- "the table of contents has four lines a slot, newest first": n slots have the lines 0 to 4 * n - 1, and slot s the lines 4 * s to 4 * s + 3. Line k has the
-- eight bytes from 8 * k on, "(place 2, length 2, version 4, low byte first)", and behind the lines, from byte 32 * n on, are the bodies
unfoldable pub place_in : (book : List ℕ) (line : ℕ) → ℕ
place_in b k = byte b (8 * k) + byte b (8 * k + 1) * 256

unfoldable pub length_in : (book : List ℕ) (line : ℕ) → ℕ
length_in b k = byte b (8 * k + 2) + byte b (8 * k + 3) * 256

unfoldable pub version_in : (book : List ℕ) (line : ℕ) → ℕ
version_in b k = byte b (8 * k + 4) + byte b (8 * k + 5) * 256 + byte b (8 * k + 6) * 65536 + byte b (8 * k + 7) * 16777216

-- a slot's newest version; 0 where it was never written
abbrev pub newest : (book : List ℕ) (slot : ℕ) → ℕ
newest b slot = version_in b (4 * slot)

-- ---- a setpoint and its five bytes: "a kind byte (1, 2, 3 in that order) and four bytes, low byte first; a valve is 0 or 1"

abbrev pub kind_of_lem : Setpoint → ℕ
kind_of_lem (Pressure x) = 1
kind_of_lem (Speed n) = 2
kind_of_lem (Valve b) = 3

abbrev pub number_of_lem : Setpoint → ℕ
number_of_lem (Pressure x) = to_bits binary32 x
number_of_lem (Speed n) = n
number_of_lem (Valve true) = 1
number_of_lem (Valve false) = 0

-- "A pressure that is not finite": no number, or an infinity
abbrev pub IsNotFinite : Setpoint → Type 0
IsNotFinite (Pressure nan) = Unit {0}
IsNotFinite (Pressure (inf sign)) = Unit {0}
IsNotFinite (Pressure (fin sign m e)) = ⊥
IsNotFinite (Speed n) = ⊥
IsNotFinite (Valve b) = ⊥

-- what a kind and a number mean. The bits of an f32 are those of a finite one if its exponent's field is not all ones
abbrev pub Means : (kind number : ℕ) → Setpoint → Type 0
Means k w s =
    ((k ≡ 1) × (w % 2147483648 < 2139095040) × (s ≡ Pressure (of_bits binary32 w)))
    ⊎ (((k ≡ 2) × (s ≡ Speed w))
    ⊎ (((k ≡ 3) × (w ≡ 0) × (s ≡ Valve false))
    ⊎ ((k ≡ 3) × (w ≡ 1) × (s ≡ Valve true))))

-- the five bytes from p on mean this setpoint
unfoldable pub BodyAt : (book : List ℕ) (p : ℕ) → Setpoint → Type 0
BodyAt b p s = Means (byte b p) (byte b (p + 1) + byte b (p + 2) * 256 + byte b (p + 3) * 65536 + byte b (p + 4) * 16777216) s

-- ---- no damage: L10 says what is, "a line or kept body that fits no rule, or two bodies that overlap"

pub record Undamaged (n : ℕ) (b : List ℕ) : Type 0 where
  -- "versions falling by one": the line of age a has the newest version less a, 0 where the slot has no such version (`-` ends at 0)
  pub falling : (slot age : ℕ) → slot < n → age < 4 → version_in b (4 * slot + age) ≡ newest b slot - age
  -- "unused lines zero"
  pub unused : (k : ℕ) → k < 4 * n → version_in b k ≡ 0 → (place_in b k ≡ 0) × (length_in b k ≡ 0)
  -- a used line has length 5, and a place behind the contents and in the book; the five bytes there mean a setpoint
  pub five : (k : ℕ) → k < 4 * n → version_in b k ≢ 0 → length_in b k ≡ 5
  pub behind : (k : ℕ) → k < 4 * n → version_in b k ≢ 0 → 32 * n ≤ place_in b k
  pub within : (k : ℕ) → k < 4 * n → version_in b k ≢ 0 → place_in b k + 5 ≤ length b
  pub means : (k : ℕ) → k < 4 * n → version_in b k ≢ 0 → (s : Setpoint) × BodyAt b (place_in b k) s
  -- no two bodies overlap
  pub apart : (k l : ℕ) → k < 4 * n → l < 4 * n → k ≢ l → version_in b k ≢ 0 → version_in b l ≢ 0
      → (place_in b k + 5 ≤ place_in b l) ⊎ (place_in b l + 5 ≤ place_in b k)

-- ---- what stays: "Writing drops the slot's oldest of four before it looks for room"

-- line k is used, and is not that of the slot's oldest of four
pub record Stays (n : ℕ) (b : List ℕ) (slot k : ℕ) : Type 0 where
  pub inside : k < 4 * n
  pub is_used : version_in b k ≢ 0
  pub not_dropped : k ≢ 4 * slot + 3

-- the same, to be counted: `differ` is 1 where two numbers differ and else 0, `less` is 1 where the first is less, `stays` is 1 where line k stays
unfoldable pub differ : ℕ → ℕ → ℕ
differ a b = min 1 ((a - b) + (b - a))

unfoldable pub less : ℕ → ℕ → ℕ
less a b = min 1 (b - a)

unfoldable pub stays : (book : List ℕ) (slot line : ℕ) → ℕ
stays b slot k = differ (version_in b k) 0 * differ k (4 * slot + 3)

unfoldable pub sum : (m : ℕ) → (ℕ → ℕ) → ℕ
sum zero f = 0
sum (suc m) f = sum m f + f m

-- how many bodies stay, and how many of them lie before place p
abbrev pub staying : (n : ℕ) (book : List ℕ) (slot : ℕ) → ℕ
staying n b slot = sum (4 * n) (λ k. stays b slot k)

abbrev pub staying_before : (n : ℕ) (book : List ℕ) (slot p : ℕ) → ℕ
staying_before n b slot p = sum (4 * n) (λ k. stays b slot k * less (place_in b k) p)

-- ---- where bodies go

-- "no room is left behind the last body": fewer than 5 bytes behind one that stays
abbrev pub Crowded : (n : ℕ) (book : List ℕ) (slot : ℕ) → Type 0
Crowded n b slot = (k : ℕ) × Stays n b slot k × (length b < place_in b k + 5 + 5)

-- "kept bodies slide to the front in the order of their places"
abbrev pub slid : (n : ℕ) (book : List ℕ) (slot line : ℕ) → ℕ
slid n b slot k = 32 * n + 5 * staying_before n b slot (place_in b k)

-- "bytes moved, equal to the summed lengths of the bodies whose place changed"
abbrev pub moved : (n : ℕ) (book : List ℕ) (slot : ℕ) → ℕ
moved n b slot = 5 * sum (4 * n) (λ k. stays b slot k * differ (slid n b slot k) (place_in b k))

-- p is right behind the last body that stays, or behind the contents where none does
pub record BehindAll (n : ℕ) (b : List ℕ) (slot p : ℕ) : Type 0 where
  pub behind : (k : ℕ) → Stays n b slot k → place_in b k + 5 ≤ p
  pub right_behind : ((k : ℕ) × Stays n b slot k × (p ≡ place_in b k + 5)) ⊎ (((k : ℕ) → Stays n b slot k → ⊥) × (p ≡ 32 * n))

-- ---- what a done write leaves: c of b, where the body of line k goes to place `to k`, and the new body to p

-- line k stands at line j afterwards: the slot's first three one further, every other where it was
abbrev pub Goes : (slot k j : ℕ) → Type 0
Goes slot k j = ((4 * slot ≤ k) × (k < 4 * slot + 3) × (j ≡ k + 1)) ⊎ (((k < 4 * slot) ⊎ (4 * slot + 4 ≤ k)) × (j ≡ k))

-- byte i is one of the five of a body at p
abbrev pub InBody : (p i : ℕ) → Type 0
InBody p i = (p ≤ i) × (i < p + 5)

-- it is in no body afterwards
pub record NoBodyNow (n : ℕ) (b : List ℕ) (slot : ℕ) (to : ℕ → ℕ) (p i : ℕ) : Type 0 where
  pub behind : 32 * n ≤ i
  pub within : i < length b
  pub not_new : InBody p i → ⊥
  pub not_old : (k : ℕ) → Stays n b slot k → InBody (to k) i → ⊥

pub record Left (n : ℕ) (b c : List ℕ) (slot : ℕ) (s : Setpoint) (to : ℕ → ℕ) (p : ℕ) : Type 0 where
  pub long : length c ≡ length b
  -- the slot's newest line: place p, length 5, the next version
  pub new_place : (byte c (32 * slot) ≡ p % 256) × (byte c (32 * slot + 1) ≡ p / 256)
  pub new_length : (byte c (32 * slot + 2) ≡ 5) × (byte c (32 * slot + 3) ≡ 0)
  pub new_version_low : (byte c (32 * slot + 4) ≡ (newest b slot + 1) % 256) × (byte c (32 * slot + 5) ≡ (newest b slot + 1) / 256 % 256)
  pub new_version_high : (byte c (32 * slot + 6) ≡ (newest b slot + 1) / 65536 % 256) × (byte c (32 * slot + 7) ≡ (newest b slot + 1) / 16777216)
  -- every other line's length and version as they were; its place too, where it is unused
  pub lines : (k j i : ℕ) → k < 4 * n → Goes slot k j → 2 ≤ i → i < 8 → byte c (8 * j + i) ≡ byte b (8 * k + i)
  pub unused : (k j i : ℕ) → k < 4 * n → version_in b k ≡ 0 → Goes slot k j → i < 2 → byte c (8 * j + i) ≡ byte b (8 * k + i)
  -- the bodies that stay, and the new one
  pub bodies : (k i : ℕ) → Stays n b slot k → i < 5 → byte c (to k + i) ≡ byte b (place_in b k + i)
  pub new_kind : byte c p ≡ kind_of_lem s
  pub new_low : (byte c (p + 1) ≡ number_of_lem s % 256) × (byte c (p + 2) ≡ number_of_lem s / 256 % 256)
  pub new_high : (byte c (p + 3) ≡ number_of_lem s / 65536 % 256) × (byte c (p + 4) ≡ number_of_lem s / 16777216)
  -- "Vacated bytes become zeros": those of a body that no body has now. Those of no body, before and now, are as they were
  pub vacated : (i : ℕ) → NoBodyNow n b slot to p i → (k : ℕ) → k < 4 * n → version_in b k ≢ 0 → InBody (place_in b k) i → ◌≡◌ {A = ℕ} (byte c i) 0
  pub untouched : (i : ℕ) → NoBodyNow n b slot to p i → ((k : ℕ) → k < 4 * n → version_in b k ≢ 0 → InBody (place_in b k) i → ⊥) → byte c i ≡ byte b i

-- the places that the lines of the bodies that stay say: as they were, or after a slide each its new one
abbrev pub SamePlaces : (n : ℕ) (b c : List ℕ) (slot : ℕ) → Type 0
SamePlaces n b c slot = (k j i : ℕ) → Stays n b slot k → Goes slot k j → i < 2 → byte c (8 * j + i) ≡ byte b (8 * k + i)

abbrev pub NewPlaces : (n : ℕ) (b c : List ℕ) (slot : ℕ) (to : ℕ → ℕ) → Type 0
NewPlaces n b c slot to = (k j : ℕ) → Stays n b slot k → Goes slot k j → (byte c (8 * j) ≡ to k % 256) × (byte c (8 * j + 1) ≡ to k / 256)

-- ---- the calls

pub record BookBuild : Type 0 where
  pub prepare : Head → (book : List ℕ) → Result BookDone BookRefusal × List ℕ
  pub write : Head → (table book : List ℕ) (slot : ℕ) → Lease → Setpoint → Result BookDone BookRefusal × List ℕ
  pub read : Head → (book : List ℕ) (slot : ℕ) → Result BookDone BookRefusal
  pub read_version : Head → (book : List ℕ) (slot version : ℕ) → Result BookDone BookRefusal

-- 1, where a call takes no table: a head that no table would fit
abbrev pub BadHead : Head → Type 0
BadHead h = Shape h (3 * (h.headers * h.buckets)) → ⊥

-- "BadSlot (book too short for its slots, over the limit, or no such slot)"; L10: "A book shorter than its contents is BadSlot", "at most 32,768 bytes"
abbrev pub BadBook : (n : ℕ) (book : List ℕ) → Type 0
BadBook n b = (length b < 32 * n) ⊎ (32768 < length b)

-- 12: "Writing needs a live lease on the slot's cell"
abbrev pub NotHolder : Head → (table : List ℕ) (slot : ℕ) → Lease → Type 0
NotHolder h t slot l = IsLive (arena h t []) l.cell l.serial × (l.cell ≡ slot) → ⊥

-- "Preparing the book writes all of it"
abbrev pub PreparesBook : Head → (book : List ℕ) → Result BookDone BookRefusal × List ℕ → Type 0
PreparesBook h b =
    If BadHead h Then Is (Err BadShape, b)
    Else If BadBook (slots h) b Then Is (Err BadSlot, b)
    Else Is (Ok Done, replicate (length b) 0)

-- a write that is not refused "appends a body". With no room behind the last, the bodies that stay slide first, and the new one goes behind them
abbrev pub Slides : (n : ℕ) (book : List ℕ) (slot : ℕ) → Setpoint → Result BookDone BookRefusal × List ℕ → Type 0
Slides n b slot s =
    With (λ c. Left n b c slot s (slid n b slot) (32 * n + 5 * staying n b slot) × NewPlaces n b c slot (slid n b slot)) λ c.
    Is (Ok (Written (newest b slot + 1) (moved n b slot)), c)

-- else each stays where it is
abbrev pub Appends : (n : ℕ) (book : List ℕ) (slot : ℕ) → Setpoint → Result BookDone BookRefusal × List ℕ → Type 0
Appends n b slot s =
    With (BehindAll n b slot) λ p.
    With (λ c. Left n b c slot s (place_in b) p × SamePlaces n b c slot) λ c.
    Is (Ok (Written (newest b slot + 1) 0), c)

abbrev pub Puts : (n : ℕ) (book : List ℕ) (slot : ℕ) → Setpoint → Result BookDone BookRefusal × List ℕ → Type 0
Puts n b slot s = If Crowded n b slot Then Slides n b slot s Else Appends n b slot s

-- L10: "Refuse BookFull, last in order, exactly when kept bodies after that drop leave fewer than 5 bytes."
abbrev pub WritesOver : (n : ℕ) (book : List ℕ) (slot : ℕ) → Setpoint → Result BookDone BookRefusal × List ℕ → Type 0
WritesOver n b slot s =
    If (Undamaged n b → ⊥) Then Is (Err DamagedBook, b)
    Else If newest b slot ≡ 4_294_967_295 Then Is (Err VersionsSpent, b)
    Else If length b < 32 * n + 5 * staying n b slot + 5 Then Is (Err BookFull, b)
    Else Puts n b slot s

-- "Its refusals in order"; L8: 16 "before 3 and 12 at that place"; "refusals change nothing"
abbrev pub Writes : Head → (table book : List ℕ) (slot : ℕ) → Lease → Setpoint → Result BookDone BookRefusal × List ℕ → Type 0
Writes h t b slot l s =
    If (Shape h (length t) → ⊥) Then Is (Err BadShape, b)
    Else If BadBook (slots h) b ⊎ (slots h ≤ slot) Then Is (Err BadSlot, b)
    Else If l.boot ≢ h.boot Then Is (Err StaleBoot, b)
    Else If NotHolder h t slot l Then Is (Err NotHeld, b)
    Else If IsNotFinite s Then Is (Err NotFinite, b)
    Else WritesOver (slots h) b slot s

-- "Version 0 reads as NeverWritten."; L10: "NeverWritten now also answers for an older version not kept": 0, one not yet written, one that was dropped
abbrev pub NotKept : (book : List ℕ) (slot version : ℕ) → Type 0
NotKept b slot w = (w ≡ 0) ⊎ ((newest b slot < w) ⊎ (w + 4 ≤ newest b slot))

-- version w stands newest - w lines behind the newest
abbrev pub ReadsVersion : Head → (book : List ℕ) (slot version : ℕ) → Result BookDone BookRefusal → Type 0
ReadsVersion h b slot w =
    If BadHead h Then Is (Err BadShape)
    Else If BadBook (slots h) b ⊎ (slots h ≤ slot) Then Is (Err BadSlot)
    Else If (Undamaged (slots h) b → ⊥) Then Is (Err DamagedBook)
    Else If NotKept b slot w Then Is (Err NeverWritten)
    Else With (BodyAt b (place_in b (4 * slot + (newest b slot - w)))) λ s. Is (Ok (Setting s w))

pub record MeetsBook (f : BookBuild) : Type 0 where
  pub prepares : (h : Head) (b : List ℕ) → PreparesBook h b (f.prepare h b)
  pub writes : (h : Head) (t b : List ℕ) (slot : ℕ) (l : Lease) (s : Setpoint) → Writes h t b slot l s (f.write h t b slot l s)
  pub reads_version : (h : Head) (b : List ℕ) (slot w : ℕ) → ReadsVersion h b slot w (f.read_version h b slot w)
  -- a slot is read as its newest version is, by the same build
  pub reads : (h : Head) (b : List ℕ) (slot : ℕ) → f.read h b slot ≡ f.read_version h b slot (newest b slot)
