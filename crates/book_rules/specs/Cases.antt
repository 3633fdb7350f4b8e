-- Document 02, L2 and L10, computed: each sentence has a case. Two slots: an arena of one header with two buckets, whose cells are held by serials 1
-- and 2; the boot number is 5. The contents have 64 bytes.
use Rattle.std.specs.Prelude.{ℕ, ◌≡◌, refl, List, [], ◌∷◌, ◌++◌, true, false, replicate, set, Ok, Err}
use Rattle.std.specs.Float.{binary32, nan, inf}
use Rattle.std.specs.Float.Ieee.{of_bits, to_bits}
use Rattle.std.proofs.lemmas.List.Edits.{sets}
use Rattle.model.specs.Arena.{head_of, lease_of, head_fits, shape_fits, bit_at, owner_at, is_free, is_held, state_of, state_at, is_live}
use Rattle.types.specs.declared.Head.{Head}
use Rattle.setpoint.specs.Codec.{is_finite, bytes_of, body_of, join_of, setting_of, decode_of}
use Rattle.setpoint.specs.declared.Setpoint.{Setpoint}
use Rattle.setpoint.specs.declared.Setpoint.TheVariants.{Pressure, Speed, Valve}
use Rattle.book_rules.specs.Layout.{slots_of, line_at, five_at, line_of, all, place_at, length_at, version_at, is_kept, setting_at, is_falling, is_fitting, is_apart, is_sound}
use Rattle.book_rules.specs.Rules.{BookAnswer, is_holder, first_fault, is_bad_book, is_bad_slot, is_gone, book_rules, claim_rules, over_rules, open_rules, kept_rules}
use Rattle.book_rules.specs.Writing.{count, most, put_many, drop_oldest_of, kept_of, end_of, is_crowded, is_full, rank_of, slid_of, moved_of, erased_of, laid_of, compact_of, append_of, put_over_of, put_of}
use Rattle.book_rules.specs.Calls.{prepare_book_of, write_setpoint_of, line_read, read_version_of, read_setpoint_of}
use Rattle.book_rules.specs.declared.BookDone.TheVariants.{Done, Written, Setting}
use Rattle.book_rules.specs.declared.BookRefusal.TheVariants.{BadShape, BadSlot, StaleBoot, NotHeld, NotFinite, DamagedBook, VersionsSpent, BookFull, NeverWritten}

abbrev head : Head
head = head_of 1 2 3 5

abbrev table : List ℕ
table = 1 ∷ 1 ∷ 0 ∷ 1 ∷ 2 ∷ 0 ∷ []

abbrev write0 : List ℕ → ℕ → BookAnswer × List ℕ
write0 b x = write_setpoint_of head table b 0 (lease_of 0 1 5) (Speed x)

abbrev write1 : List ℕ → ℕ → BookAnswer × List ℕ
write1 b x = write_setpoint_of head table b 1 (lease_of 1 2 5) (Speed x)

abbrev newest : List ℕ → ℕ → BookAnswer
newest b slot = read_setpoint_of head b slot

abbrev read : List ℕ → ℕ → ℕ → BookAnswer
read b slot w = read_version_of head b slot w

-- ---- the parts of a book: a line, an unused line, a speed's body, five bytes without a body

abbrev line : ℕ → ℕ → List ℕ
line p v = p ∷ 0 ∷ 5 ∷ 0 ∷ v ∷ 0 ∷ 0 ∷ 0 ∷ []

abbrev none : List ℕ
none = 0 ∷ 0 ∷ 0 ∷ 0 ∷ 0 ∷ 0 ∷ 0 ∷ 0 ∷ []

abbrev four : List ℕ → List ℕ → List ℕ → List ℕ → List ℕ
four a b c d = a ++ (b ++ (c ++ d))

abbrev idle : List ℕ
idle = four none none none none

abbrev sp : ℕ → List ℕ
sp x = 2 ∷ x ∷ 0 ∷ 0 ∷ 0 ∷ []

abbrev gap : List ℕ
gap = 0 ∷ 0 ∷ 0 ∷ 0 ∷ 0 ∷ []

-- ---- "one slot for each cell, at most the first 64"

pub slots_are : (slots_of head ≡ 2) × (slots_of (head_of 4 16 1 0) ≡ 64) × (slots_of (head_of 64 64 1 0) ≡ 64)
slots_are = (refl, refl, refl)

-- ---- preparing, sizes: "A book shorter than its contents is BadSlot"

pub sizes : (is_bad_book 2 64 ≡ false) × (is_bad_book 2 63 ≡ true) × (is_bad_book 64 32768 ≡ false) × (is_bad_book 64 32769 ≡ true)
unfolding is_bad_book
sizes = (refl, refl, refl, refl)

pub prepared : (prepare_book_of head (replicate 89 7) ≡ (Ok Done, replicate 89 0)) × (prepare_book_of head (replicate 63 7) ≡ (Err BadSlot, replicate 63 7))
    × (prepare_book_of (head_of 0 2 3 5) [] ≡ (Err BadShape, []))
unfolding prepare_book_of book_rules first_fault is_bad_book head_fits
prepared = (refl, refl, refl)

-- ---- the first writes, and the fifth: "The book .. now keeps the newest four settings of each slot". Room for five bodies

abbrev after1 : List ℕ
after1 = idle ++ (four (line 64 1) none none none ++ (sp 11 ++ (gap ++ (gap ++ (gap ++ gap)))))

abbrev after2 : List ℕ
after2 = idle ++ (four (line 69 2) (line 64 1) none none ++ (sp 11 ++ (sp 12 ++ (gap ++ (gap ++ gap)))))

abbrev after4 : List ℕ
after4 = idle ++ (four (line 79 4) (line 74 3) (line 69 2) (line 64 1) ++ (sp 11 ++ (sp 12 ++ (sp 13 ++ (sp 14 ++ gap)))))

-- its oldest is dropped, its body zeros; behind the last there is room, nothing slides
abbrev after5 : List ℕ
after5 = idle ++ (four (line 84 5) (line 79 4) (line 74 3) (line 69 2) ++ (gap ++ (sp 12 ++ (sp 13 ++ (sp 14 ++ sp 15)))))

-- at the sixth there is none: three bodies slide, 15 bytes; the new one is not counted
abbrev after6 : List ℕ
after6 = idle ++ (four (line 79 6) (line 74 5) (line 69 4) (line 64 3) ++ (sp 13 ++ (sp 14 ++ (sp 15 ++ (sp 16 ++ gap)))))

pub writes : (write1 (replicate 89 0) 11 ≡ (Ok (Written 1 0), after1)) × (write1 after1 12 ≡ (Ok (Written 2 0), after2))
    × (write1 after4 15 ≡ (Ok (Written 5 0), after5)) × (write1 after5 16 ≡ (Ok (Written 6 15), after6))
unfolding write_setpoint_of claim_rules over_rules first_fault is_bad_slot is_bad_book is_holder is_live state_at state_of is_free is_held bit_at owner_at head_fits shape_fits is_finite is_sound is_falling is_fitting is_apart all place_at length_at version_at is_kept setting_at count most put_many drop_oldest_of kept_of end_of is_crowded is_full rank_of slid_of moved_of erased_of laid_of compact_of append_of put_over_of put_of join_of setting_of decode_of line_at five_at line_of body_of bytes_of
writes = (refl, refl, refl, refl)

-- ---- reading: each kept version, and versions not kept: too old, 0, not yet written; the other slot

pub reads : (newest after5 1 ≡ Ok (Setting (Speed 15) 5)) × (read after5 1 5 ≡ Ok (Setting (Speed 15) 5)) × (read after5 1 4 ≡ Ok (Setting (Speed 14) 4))
    × (read after5 1 3 ≡ Ok (Setting (Speed 13) 3)) × (read after5 1 2 ≡ Ok (Setting (Speed 12) 2)) × (read after5 1 1 ≡ Err NeverWritten)
    × (read after5 1 0 ≡ Err NeverWritten) × (read after5 1 6 ≡ Err NeverWritten) × (newest after5 0 ≡ Err NeverWritten)
    × (read after6 1 3 ≡ Ok (Setting (Speed 13) 3)) × (read after6 1 2 ≡ Err NeverWritten) × (newest after5 2 ≡ Err BadSlot)
unfolding read_version_of read_setpoint_of open_rules kept_rules line_read first_fault is_bad_slot is_bad_book is_gone head_fits is_sound is_falling is_fitting is_apart all place_at length_at version_at is_kept setting_at join_of setting_of decode_of five_at
reads = (refl, refl, refl, refl, refl, refl, refl, refl, refl, refl, refl, refl)

-- ---- a compaction that moves some bodies and not others: slot 0's body lies first and stays

abbrev mixed : List ℕ
mixed = four (line 64 1) none none none ++ (four (line 84 4) (line 79 3) (line 74 2) (line 69 1) ++ (sp 1 ++ (sp 11 ++ (sp 12 ++ (sp 13 ++ sp 14)))))

abbrev mixed2 : List ℕ
mixed2 = four (line 64 1) none none none ++ (four (line 84 5) (line 79 4) (line 74 3) (line 69 2) ++ (sp 1 ++ (sp 12 ++ (sp 13 ++ (sp 14 ++ sp 15)))))

-- in the order of places, not of slots: slot 1's body lies before slot 0's; gaps of 1 and of 6 bytes, 4 behind the last
abbrev crossed : List ℕ
crossed = four (line 76 1) none none none ++ (four (line 65 1) none none none ++ (0 ∷ [] ++ (sp 11 ++ (gap ++ (0 ∷ [] ++ (sp 1 ++ (0 ∷ 0 ∷ 0 ∷ 0 ∷ [])))))))

abbrev crossed2 : List ℕ
crossed2 = four (line 74 2) (line 69 1) none none ++ (four (line 64 1) none none none ++ (sp 11 ++ (sp 1 ++ (sp 2 ++ (gap ++ 0 ∷ [])))))

pub slides : (write1 mixed 15 ≡ (Ok (Written 5 15), mixed2)) × (write0 crossed 2 ≡ (Ok (Written 2 10), crossed2))
unfolding write_setpoint_of claim_rules over_rules first_fault is_bad_slot is_bad_book is_holder is_live state_at state_of is_free is_held bit_at owner_at head_fits shape_fits is_finite is_sound is_falling is_fitting is_apart all place_at length_at version_at is_kept setting_at count most put_many drop_oldest_of kept_of end_of is_crowded is_full rank_of slid_of moved_of erased_of laid_of compact_of append_of put_over_of put_of join_of setting_of decode_of line_at five_at line_of body_of bytes_of
slides = (refl, refl)

-- ---- room for one body less than four a slot: the eighth is BookFull, and nothing changed; but a slot that has four is written on

abbrev tight : List ℕ
tight =
    four (line 79 4) (line 74 3) (line 69 2) (line 64 1)
    ++ (four (line 94 3) (line 89 2) (line 84 1) none ++ (sp 1 ++ (sp 2 ++ (sp 3 ++ (sp 4 ++ (sp 11 ++ (sp 12 ++ sp 13)))))))

abbrev tight2 : List ℕ
tight2 =
    four (line 94 5) (line 74 4) (line 69 3) (line 64 2)
    ++ (four (line 89 3) (line 84 2) (line 79 1) none ++ (sp 2 ++ (sp 3 ++ (sp 4 ++ (sp 11 ++ (sp 12 ++ (sp 13 ++ sp 5)))))))

pub full : (write1 tight 14 ≡ (Err BookFull, tight)) × (write0 tight 5 ≡ (Ok (Written 5 30), tight2))
    × (write0 (replicate 64 0) 1 ≡ (Err BookFull, replicate 64 0)) × (write0 (replicate 68 0) 1 ≡ (Err BookFull, replicate 68 0))
unfolding write_setpoint_of claim_rules over_rules first_fault is_bad_slot is_bad_book is_holder is_live state_at state_of is_free is_held bit_at owner_at head_fits shape_fits is_finite is_sound is_falling is_fitting is_apart all place_at length_at version_at is_kept setting_at count most put_many drop_oldest_of kept_of end_of is_crowded is_full rank_of slid_of moved_of erased_of laid_of compact_of append_of put_over_of put_of join_of setting_of decode_of line_at five_at line_of body_of bytes_of
full = (refl, refl, refl, refl)

-- ---- a dropped body that lay last: its room is used again, nothing slides. No book that was prepared and written by these calls is such a one

abbrev last : List ℕ
last = idle ++ (four (line 74 4) (line 69 3) (line 64 2) (line 79 1) ++ (sp 12 ++ (sp 13 ++ (sp 14 ++ sp 11))))

abbrev last2 : List ℕ
last2 = idle ++ (four (line 79 5) (line 74 4) (line 69 3) (line 64 2) ++ (sp 12 ++ (sp 13 ++ (sp 14 ++ sp 15))))

pub used_again : (write1 last 15 ≡ (Ok (Written 5 0), last2)) × (write1 (last ++ gap) 15 ≡ (Ok (Written 5 0), last2 ++ gap))
unfolding write_setpoint_of claim_rules over_rules first_fault is_bad_slot is_bad_book is_holder is_live state_at state_of is_free is_held bit_at owner_at head_fits shape_fits is_finite is_sound is_falling is_fitting is_apart all place_at length_at version_at is_kept setting_at count most put_many drop_oldest_of kept_of end_of is_crowded is_full rank_of slid_of moved_of erased_of laid_of compact_of append_of put_over_of put_of join_of setting_of decode_of line_at five_at line_of body_of bytes_of
used_again = (refl, refl)

-- ---- "Vacated bytes become zeros": free bytes that no body covered stay as they were

abbrev dirty : List ℕ
dirty = four (line 76 1) none none none ++ (four (line 65 1) none none none ++ (7 ∷ [] ++ (sp 11 ++ (gap ++ (7 ∷ [] ++ (sp 1 ++ (0 ∷ 0 ∷ 0 ∷ 7 ∷ [])))))))

abbrev dirty2 : List ℕ
dirty2 = four (line 74 2) (line 69 1) none none ++ (four (line 64 1) none none none ++ (sp 11 ++ (sp 1 ++ (sp 2 ++ (0 ∷ 0 ∷ 0 ∷ 0 ∷ 0 ∷ 7 ∷ [])))))

pub vacated : write0 dirty 2 ≡ (Ok (Written 2 10), dirty2)
unfolding write_setpoint_of claim_rules over_rules first_fault is_bad_slot is_bad_book is_holder is_live state_at state_of is_free is_held bit_at owner_at head_fits shape_fits is_finite is_sound is_falling is_fitting is_apart all place_at length_at version_at is_kept setting_at count most put_many drop_oldest_of kept_of end_of is_crowded is_full rank_of slid_of moved_of erased_of laid_of compact_of append_of put_over_of put_of join_of setting_of decode_of line_at five_at line_of body_of bytes_of
vacated = refl

-- ---- damage: every read and every write, of either slot

-- two bodies that overlap by one byte, and two that touch
abbrev touching : List ℕ
touching = four (line 64 1) none none none ++ (four (line 69 1) none none none ++ (sp 1 ++ (sp 11 ++ gap)))

-- the body from 68 on begins with the last byte of that at 64: a kind 2 there
abbrev lapped : List ℕ
lapped = four (line 64 1) none none none ++ (four (line 68 1) none none none ++ (2 ∷ 1 ∷ 0 ∷ 0 ∷ 2 ∷ 11 ∷ 0 ∷ 0 ∷ 0 ∷ 0 ∷ (gap)))

-- the same with the two lines exchanged
abbrev lapped_back : List ℕ
lapped_back = four (line 68 1) none none none ++ (four (line 64 1) none none none ++ (2 ∷ 1 ∷ 0 ∷ 0 ∷ 2 ∷ 11 ∷ 0 ∷ 0 ∷ 0 ∷ 0 ∷ (gap)))

pub overlaps : (is_sound 2 touching ≡ true) × (is_sound 2 lapped ≡ false) × (is_sound 2 lapped_back ≡ false) × (newest touching 1 ≡ Ok (Setting (Speed 11) 1))
    × (newest lapped 1 ≡ Err DamagedBook) × (newest lapped 0 ≡ Err DamagedBook) × (read lapped 1 9 ≡ Err DamagedBook)
unfolding read_version_of read_setpoint_of open_rules kept_rules line_read first_fault is_bad_slot is_bad_book is_gone head_fits is_sound is_falling is_fitting is_apart all place_at length_at version_at is_kept setting_at join_of setting_of decode_of five_at
overlaps = (refl, refl, refl, refl, refl, refl, refl)

-- a place in the contents, a place whose body ends behind the book, a length of 6, a body of kind 4; a version that does not fall by one, too
-- few lines for the newest version, a place or a length in an unused line, a used line behind an unused one
pub fits_no_rule : (is_sound 2 after2 ≡ true) × (is_sound 2 (set after2 32 63) ≡ false) × (is_sound 2 (set after2 32 85) ≡ false) × (is_sound 2 (set after2 34 6) ≡ false)
    × (is_sound 2 (set after2 69 4) ≡ false) × (is_sound 2 (set after2 36 3) ≡ false) × (is_sound 2 (sets after2 40 none) ≡ false)
    × (is_sound 2 (set after2 48 1) ≡ false) × (is_sound 2 (set after2 50 1) ≡ false) × (is_sound 2 (sets after1 40 (line 69 1)) ≡ false)
    × (is_sound 2 (set after2 0 1) ≡ false)
unfolding is_sound is_falling is_fitting is_apart all place_at length_at version_at is_kept setting_at join_of setting_of decode_of five_at
fits_no_rule = (refl, refl, refl, refl, refl, refl, refl, refl, refl, refl, refl)

-- a write of slot 0 on a book that is damaged in slot 1, and a read of it
pub whole_book : (write0 lapped 9 ≡ (Err DamagedBook, lapped)) × (newest (set after2 34 6) 0 ≡ Err DamagedBook)
unfolding write_setpoint_of claim_rules over_rules read_setpoint_of read_version_of open_rules kept_rules line_read first_fault is_bad_slot is_bad_book is_gone is_holder is_live state_at state_of is_free is_held bit_at owner_at head_fits shape_fits is_finite is_sound is_falling is_fitting is_apart all place_at length_at version_at is_kept setting_at count drop_oldest_of kept_of is_full join_of setting_of decode_of five_at
whole_book = (refl, refl)

-- ---- the order of refusals: each case keeps what the next has wrong. Full, spent and damaged at once

abbrev spent : List ℕ
spent = sets (sets (sets (sets tight 4 (replicate 4 255)) 12 (254 ∷ 255 ∷ 255 ∷ 255 ∷ [])) 20 (253 ∷ 255 ∷ 255 ∷ 255 ∷ [])) 28 (252 ∷ 255 ∷ 255 ∷ 255 ∷ [])

abbrev torn : List ℕ
torn = set spent 34 6

-- no finite pressure
abbrev bad : Setpoint
bad = Pressure nan

pub order : (write_setpoint_of head [] torn 2 (lease_of 0 7 4) bad ≡ (Err BadShape, torn)) × (write_setpoint_of head table torn 2 (lease_of 0 7 4) bad ≡ (Err BadSlot, torn))
    × (write_setpoint_of head table torn 0 (lease_of 0 7 4) bad ≡ (Err StaleBoot, torn)) × (write_setpoint_of head table torn 0 (lease_of 0 7 5) bad ≡ (Err NotHeld, torn))
    × (write_setpoint_of head table torn 0 (lease_of 1 2 5) bad ≡ (Err NotHeld, torn))
    × (write_setpoint_of head table torn 0 (lease_of 0 1 5) bad ≡ (Err NotFinite, torn)) × (write0 torn 1 ≡ (Err DamagedBook, torn))
    × (write0 spent 1 ≡ (Err VersionsSpent, spent)) × (write1 spent 1 ≡ (Err BookFull, spent))
unfolding write_setpoint_of claim_rules over_rules first_fault is_bad_slot is_bad_book is_holder is_live state_at state_of is_free is_held bit_at owner_at head_fits shape_fits is_finite is_sound is_falling is_fitting is_apart all place_at length_at version_at is_kept setting_at count drop_oldest_of kept_of is_full join_of setting_of decode_of five_at
order = (refl, refl, refl, refl, refl, refl, refl, refl, refl)

-- L8, "before 3 and 12 at that place": a stale lease is StaleBoot, live or dead, in the right cell or not, and of a later boot number too
pub stale : (write_setpoint_of head table torn 0 (lease_of 0 1 4) bad ≡ (Err StaleBoot, torn)) × (write_setpoint_of head table after2 0 (lease_of 1 2 4) (Speed 9) ≡ (Err StaleBoot, after2))
    × (write_setpoint_of head table after2 1 (lease_of 1 2 6) (Speed 9) ≡ (Err StaleBoot, after2))
unfolding write_setpoint_of claim_rules over_rules first_fault is_bad_slot is_bad_book is_holder is_live state_at state_of is_free is_held bit_at owner_at head_fits shape_fits is_finite is_sound is_falling is_fitting is_apart all place_at length_at version_at is_kept setting_at count most put_many drop_oldest_of kept_of end_of is_crowded is_full rank_of slid_of moved_of erased_of laid_of compact_of append_of put_over_of put_of join_of setting_of decode_of line_at five_at line_of body_of bytes_of
stale = (refl, refl, refl)

-- a read refuses 1, then BadSlot, then DamagedBook, then NeverWritten
pub read_refused : (read_version_of (head_of 0 2 3 5) [] 9 1 ≡ Err BadShape) × (newest [] 0 ≡ Err BadSlot) × (read lapped 2 1 ≡ Err BadSlot)
    × (read lapped 0 9 ≡ Err DamagedBook) × (read touching 0 9 ≡ Err NeverWritten)
unfolding read_version_of read_setpoint_of open_rules kept_rules line_read first_fault is_bad_slot is_bad_book is_gone head_fits is_sound is_falling is_fitting is_apart all place_at length_at version_at is_kept setting_at join_of setting_of decode_of five_at
read_refused = (refl, refl, refl, refl, refl)

-- ---- the bytes of a line and of a body: "low byte first", "a kind byte (1, 2, 3 in that order) and four bytes, low byte first; a valve is 0 or 1"

pub far : line_of 827 16909060 ≡ 59 ∷ 3 ∷ 5 ∷ 0 ∷ 4 ∷ 3 ∷ 2 ∷ 1 ∷ []
unfolding line_of
far = refl

-- 1.5 bar, then a valve that is open
abbrev bar : Setpoint
bar = Pressure (of_bits binary32 0x3fc0_0000)

abbrev pressed : List ℕ
pressed = four (line 64 1) none none none ++ (idle ++ (1 ∷ 0 ∷ 0 ∷ 192 ∷ 63 ∷ [] ++ gap))

abbrev opened : List ℕ
opened = four (line 69 2) (line 64 1) none none ++ (idle ++ (1 ∷ 0 ∷ 0 ∷ 192 ∷ 63 ∷ [] ++ (3 ∷ 1 ∷ 0 ∷ 0 ∷ 0 ∷ [])))

pub kinds : (write_setpoint_of head table (replicate 74 0) 0 (lease_of 0 1 5) bar ≡ (Ok (Written 1 0), pressed))
    × (write_setpoint_of head table pressed 0 (lease_of 0 1 5) (Valve true) ≡ (Ok (Written 2 0), opened))
    × (write_setpoint_of head table pressed 0 (lease_of 0 1 5) (Pressure (inf true)) ≡ (Err NotFinite, pressed))
unfolding write_setpoint_of claim_rules over_rules first_fault is_bad_slot is_bad_book is_holder is_live state_at state_of is_free is_held bit_at owner_at head_fits shape_fits is_finite is_sound is_falling is_fitting is_apart all place_at length_at version_at is_kept setting_at count most put_many drop_oldest_of kept_of end_of is_crowded is_full rank_of slid_of moved_of erased_of laid_of compact_of append_of put_over_of put_of join_of setting_of decode_of line_at five_at line_of body_of bytes_of of_bits to_bits
kinds = (refl, refl, refl)

pub kinds_read : (newest opened 0 ≡ Ok (Setting (Valve true) 2)) × (read opened 0 1 ≡ Ok (Setting bar 1))
unfolding read_version_of read_setpoint_of open_rules kept_rules line_read first_fault is_bad_slot is_bad_book is_gone head_fits is_sound is_falling is_fitting is_apart all place_at length_at version_at is_kept setting_at join_of setting_of decode_of five_at of_bits
kinds_read = (refl, refl)

-- a body that means nothing: zeros, a kind of 4, a valve of 2, a pressure's pattern that is not finite
pub means_nothing : (is_sound 2 opened ≡ true) × (is_sound 2 (sets opened 69 gap) ≡ false) × (is_sound 2 (set opened 69 4) ≡ false) × (is_sound 2 (set opened 70 2) ≡ false)
    × (is_sound 2 (set opened 68 255) ≡ false)
unfolding is_sound is_falling is_fitting is_apart all place_at length_at version_at is_kept setting_at join_of setting_of decode_of five_at of_bits
means_nothing = (refl, refl, refl, refl, refl)

-- ---- one version before the last is written over, and the last is reached; a dropped body lay first, and nothing slides

abbrev nearly : List ℕ
nearly = sets (sets (sets (sets after4 36 (254 ∷ 255 ∷ 255 ∷ 255 ∷ [])) 44 (253 ∷ 255 ∷ 255 ∷ 255 ∷ [])) 52 (252 ∷ 255 ∷ 255 ∷ 255 ∷ [])) 60 (251 ∷ 255 ∷ 255 ∷ 255 ∷ [])

abbrev reached : List ℕ
reached = sets (sets (sets (sets after5 36 (255 ∷ 255 ∷ 255 ∷ 255 ∷ [])) 44 (254 ∷ 255 ∷ 255 ∷ 255 ∷ [])) 52 (253 ∷ 255 ∷ 255 ∷ 255 ∷ [])) 60 (252 ∷ 255 ∷ 255 ∷ 255 ∷ [])

pub last_version_lem : (write1 nearly 15 ≡ (Ok (Written 4_294_967_295 0), reached)) × (write1 reached 16 ≡ (Err VersionsSpent, reached))
unfolding write_setpoint_of claim_rules over_rules first_fault is_bad_slot is_bad_book is_holder is_live state_at state_of is_free is_held bit_at owner_at head_fits shape_fits is_finite is_sound is_falling is_fitting is_apart all place_at length_at version_at is_kept setting_at count most put_many drop_oldest_of kept_of end_of is_crowded is_full rank_of slid_of moved_of erased_of laid_of compact_of append_of put_over_of put_of join_of setting_of decode_of line_at five_at line_of body_of bytes_of
last_version_lem = (refl, refl)
