-- Examples that meet the premises of each theorem, so that none speaks of nothing. By computation, on an arena of one header with two buckets:
-- two slots, a book of 84 bytes, which has room for four bodies; boot number 6.
-- ---- a day
use Rattle.std.specs.Prelude.{ℕ, zero, suc, ◌<◌, ◌≡◌, refl, ◌≢◌, ◌↔◌, List, [], ◌∷◌, ◌++◌, Bool, true, ◌&&◌, ltb, length, get_or, replicate, set, if◌then◌else◌, Ok, Err}
use Rattle.std.proofs.Common.{sym, ap, ◌∙◌, subst, inr, arith, ltb-true}
use Rattle.std.specs.Float.{binary32}
use Rattle.std.specs.Float.Ieee.{of_bits, to_bits}
use Rattle.std.specs.Float.Ieee.Bits.{of_bits-fits}
use Rattle.choice.specs.Pick.{both}
use Rattle.model.specs.Arena.{head_of, lease_of, hold_in, bit_at, owner_at, set_cell, is_free, is_held, state_of, state_at, is_live, head_fits, shape_fits, health_fits}
use Rattle.model.specs.Refusals.{first}
use Rattle.model.specs.Lock.{take_of}
use Rattle.model.specs.Checks.{prepare_rules, cell_rules, lease_rules}
use Rattle.model.specs.Calls.{prepare_of, acquire_of, try_acquire_of, drop_lease_of}
use Rattle.types.specs.declared.Answer.TheVariants as answer
use Rattle.types.specs.declared.Head.{Head}
use Rattle.types.specs.declared.Lease.{Lease}
use Rattle.setpoint.specs.Codec.{is_finite, bytes_of, body_of, join_of, setting_of, decode_of}
use Rattle.setpoint.specs.declared.Setpoint.{Setpoint}
use Rattle.setpoint.specs.declared.Setpoint.TheVariants.{Pressure, Speed, Valve}
use Rattle.book_rules.specs.Layout.{all, line_at, five_at, place_at, length_at, version_at, newest_at, is_kept, setting_at, line_of, is_falling, is_fitting, is_apart, is_sound}
use Rattle.book_rules.specs.Writing.{count, most, put_many, drop_oldest_of, kept_of, end_of, is_crowded, is_full, rank_of, slid_of, moved_of, erased_of, laid_of, compact_of, append_of, put_over_of, put_of}
use Rattle.book_rules.specs.Rules.{first_fault, is_bad_book, is_bad_slot, is_holder, is_gone, book_rules, claim_rules, over_rules, open_rules, kept_rules}
use Rattle.book_rules.specs.Calls.{prepare_book_of, write_setpoint_of, line_read, read_version_of, read_setpoint_of}
use Rattle.book_rules.specs.Sound.{Sound}
use Rattle.book_rules.specs.Outcomes.{Keeps}
use Rattle.book_rules.specs.declared.BookDone.TheVariants.{Done, Written, Setting}
use Rattle.book_rules.specs.declared.BookRefusal.TheVariants.{StaleBoot, NotHeld, DamagedBook, BookFull, NeverWritten}
use Rattle.history.specs.World.{World, world_of}
use Rattle.history.specs.Items.{call, try_acquire, drop_lease, preparation, preparation_over, perform, cold, next_item, preparing}
use Rattle.book_theory.specs.Items.{BookItem, arena_item, prepare_book, write_setpoint, read_setpoint, read_version, BookEntry, prepared, wrote, was_read, version_read_lem, Shift, shift_of, slots_in, preparing_book, writing, reading, reading_version, next_shift, run_shift, settings, newest_read, version_read, SameSlots, AllTyped}
use Rattle.book_theory.specs.Statements.{summed, is_moved, ReleasedBetween, Writable, Needed, AsWritten}

-- RAM after a cold start, and the arena's preparation over it
abbrev pub rubbish : World
rubbish = world_of (head_of 7 7 7 7) (replicate 6 7) (replicate 1 7)

abbrev boot : BookItem
boot = arena_item (preparation 1 2 1 6)

abbrev pub old : List ℕ
old = replicate 84 9

abbrev pub fresh : Shift
fresh = run_shift (shift_of (cold rubbish) old []) (boot ∷ [])

abbrev pub one_lease : Lease
one_lease = lease_of 1 1 6

abbrev pub other_lease : Lease
other_lease = lease_of 1 2 6

-- 1.5 bar
abbrev pub bar : Setpoint
bar = Pressure (of_bits binary32 0x3fc0_0000)

-- cell 1 is taken, and slot 1 written
abbrev morning : List BookItem
morning = arena_item (call (try_acquire 1)) ∷ write_setpoint 1 one_lease bar ∷ []

-- it is given back, and taken by another, who writes too; the first lease writes no more
abbrev pub change : List BookItem
change = arena_item (call (drop_lease one_lease)) ∷ arena_item (call (try_acquire 1)) ∷ write_setpoint 1 one_lease bar ∷ []

-- the fourth version fills the book, the fifth slides three bodies
abbrev evening : List BookItem
evening = write_setpoint 1 other_lease (Valve true) ∷ write_setpoint 1 other_lease (Speed 4) ∷ []

abbrev late : List BookItem
late = write_setpoint 1 other_lease (Speed 5) ∷ []

-- a refused preparation of the arena, and a done one of other runs, with as many slots
abbrev night : List BookItem
night =
    arena_item (preparation 9 9 9 9) ∷ arena_item (preparation_over 2 1 5 7 (replicate 6 9) (replicate 2 9))
    ∷ read_setpoint 1 ∷ read_setpoint 0 ∷ read_version 1 2 ∷ read_version 1 1 ∷ []

abbrev pub till_evening : List BookItem
till_evening = morning ++ (write_setpoint 1 one_lease (Speed 258) ∷ (change ++ evening))

abbrev pub day : List BookItem
day = till_evening ++ (late ++ night)

-- the book at the end, byte for byte, and what its calls answered, the newest first
abbrev pub at_night : List ℕ
at_night =
    replicate 32 0
    ++ (79 ∷ 0 ∷ 5 ∷ 0 ∷ 5 ∷ 0 ∷ 0 ∷ 0
    ∷ 74 ∷ 0 ∷ 5 ∷ 0 ∷ 4 ∷ 0 ∷ 0 ∷ 0
    ∷ 69 ∷ 0 ∷ 5 ∷ 0 ∷ 3 ∷ 0 ∷ 0 ∷ 0
    ∷ 64 ∷ 0 ∷ 5 ∷ 0 ∷ 2 ∷ 0 ∷ 0 ∷ 0
    ∷ 2 ∷ 2 ∷ 1 ∷ 0 ∷ 0
    ∷ 3 ∷ 1 ∷ 0 ∷ 0 ∷ 0
    ∷ 2 ∷ 4 ∷ 0 ∷ 0 ∷ 0
    ∷ 2 ∷ 5 ∷ 0 ∷ 0 ∷ 0 ∷ [])

abbrev answers : List BookEntry
answers =
    version_read_lem 1 1 (Err NeverWritten)
    ∷ version_read_lem 1 2 (Ok (Setting (Speed 258) 2))
    ∷ was_read 0 (Err NeverWritten)
    ∷ was_read 1 (Ok (Setting (Speed 5) 5))
    ∷ wrote 1 other_lease (Speed 5) (Ok (Written 5 15))
    ∷ wrote 1 other_lease (Speed 4) (Ok (Written 4 0))
    ∷ wrote 1 other_lease (Valve true) (Ok (Written 3 0))
    ∷ wrote 1 one_lease bar (Err NotHeld)
    ∷ wrote 1 one_lease (Speed 258) (Ok (Written 2 0))
    ∷ wrote 1 one_lease bar (Ok (Written 1 0))
    ∷ prepared (Ok Done)
    ∷ []

abbrev pub the_day : Shift
the_day = shift_of (cold (world_of (head_of 2 1 5 7) (replicate 6 0) (replicate 2 0))) at_night answers

-- ---- `forgets_older_bytes`: the same day over another book

abbrev pub blots : List ℕ
blots = replicate 84 255

-- ---- `written_by_holder`, `one_writer`, `writers_parted`

abbrev pub first_write : Shift
first_write = run_shift (shift_of (cold rubbish) old []) (boot ∷ (prepare_book ∷ arena_item (call (try_acquire 1)) ∷ []))

-- ---- the write that slides: three bodies, 15 bytes

abbrev pub the_head : Head
the_head = head_of 1 2 3 6

abbrev pub the_table : List ℕ
the_table = 0 ∷ 0 ∷ 0 ∷ 1 ∷ 2 ∷ 0 ∷ []

-- the book before it
abbrev pub at_evening : List ℕ
at_evening =
    replicate 32 0
    ++ (79 ∷ 0 ∷ 5 ∷ 0 ∷ 4 ∷ 0 ∷ 0 ∷ 0
    ∷ 74 ∷ 0 ∷ 5 ∷ 0 ∷ 3 ∷ 0 ∷ 0 ∷ 0
    ∷ 69 ∷ 0 ∷ 5 ∷ 0 ∷ 2 ∷ 0 ∷ 0 ∷ 0
    ∷ 64 ∷ 0 ∷ 5 ∷ 0 ∷ 1 ∷ 0 ∷ 0 ∷ 0
    ∷ 1 ∷ 0 ∷ 0 ∷ 192 ∷ 63
    ∷ 2 ∷ 2 ∷ 1 ∷ 0 ∷ 0
    ∷ 3 ∷ 1 ∷ 0 ∷ 0 ∷ 0
    ∷ 2 ∷ 4 ∷ 0 ∷ 0 ∷ 0 ∷ [])

abbrev pub at_limit : List ℕ
at_limit =
    replicate 32 0
    ++ (74 ∷ 0 ∷ 5 ∷ 0 ∷ 3 ∷ 0 ∷ 0 ∷ 0
    ∷ 69 ∷ 0 ∷ 5 ∷ 0 ∷ 2 ∷ 0 ∷ 0 ∷ 0
    ∷ 64 ∷ 0 ∷ 5 ∷ 0 ∷ 1 ∷ 0 ∷ 0 ∷ 0
    ∷ 0 ∷ 0 ∷ 0 ∷ 0 ∷ 0 ∷ 0 ∷ 0 ∷ 0
    ∷ 2 ∷ 1 ∷ 0 ∷ 0 ∷ 0
    ∷ 2 ∷ 2 ∷ 0 ∷ 0 ∷ 0
    ∷ 2 ∷ 3 ∷ 0 ∷ 0 ∷ 0 ∷ [])

-- ---- `reads_exactly`: the three answers, each by the book's bytes

-- a byte of slot 0's newest line is changed: every read is DamagedBook
abbrev pub torn : List ℕ
torn = set at_night 0 1

-- a book of bytes
abbrev pub all_small : List ℕ → Bool
all_small [] = true
all_small (x ∷ xs) = ltb x 256 && all_small xs

-- ---- `damage_stays`: a write and a read of the torn book, of the other slot too

abbrev pub broken : Shift
broken = shift_of (cold (world_of the_head the_table (replicate 1 0))) torn []

abbrev pub tries : List BookItem
tries = write_setpoint 1 other_lease (Speed 9) ∷ read_version 1 3 ∷ []
