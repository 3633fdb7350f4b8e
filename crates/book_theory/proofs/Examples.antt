-- Examples that meet the premises of each theorem, so that none speaks of nothing. By computation, on an arena of one header with two buckets:
-- two slots, a book of 84 bytes, which has room for four bodies; boot number 6.
-- ---- a day
use Rattle.std.specs.Prelude.{ℕ, zero, suc, ◌<◌, ◌≡◌, refl, ◌≢◌, ◌↔◌, List, [], ◌∷◌, ◌++◌, Bool, true, ◌&&◌, ltb, length, get_or, replicate, set, if◌then◌else◌, Ok, Err}
use Rattle.std.proofs.Common.{sym, ap, ◌∙◌, subst, inr, arith, ltb-true}
use Rattle.std.specs.Float.{binary32}
use Rattle.std.specs.Float.Ieee.{of_bits, to_bits}
use Rattle.std.specs.Float.Ieee.Bits.{of_bits-fits}
use Rattle.choice.specs.Pick.{both}
use Rattle.model.specs.Arena.{head_of, lease_of, hold_in, bit_at, owner_at, set_cell, is_free, is_held, state_of, state_at, is_live, head_fits, shape_fits, health_fits}
use Rattle.model.specs.Refusals.{first}
use Rattle.model.specs.Lock.{take_of}
use Rattle.model.specs.Checks.{prepare_rules, cell_rules, lease_rules}
use Rattle.model.specs.Calls.{prepare_of, acquire_of, try_acquire_of, drop_lease_of}
use Rattle.types.specs.declared.Answer.TheVariants as answer
use Rattle.types.specs.declared.Head.{Head}
use Rattle.types.specs.declared.Lease.{Lease}
use Rattle.setpoint.specs.Codec.{is_finite, bytes_of, body_of, join_of, setting_of, decode_of}
use Rattle.setpoint.specs.declared.Setpoint.{Setpoint}
use Rattle.setpoint.specs.declared.Setpoint.TheVariants.{Pressure, Speed, Valve}
use Rattle.book_rules.specs.Layout.{all, line_at, five_at, place_at, length_at, version_at, newest_at, is_kept, setting_at, line_of, is_falling, is_fitting, is_apart, is_sound}
use Rattle.book_rules.specs.Writing.{count, most, put_many, drop_oldest_of, kept_of, end_of, is_crowded, is_full, rank_of, slid_of, moved_of, erased_of, laid_of, compact_of, append_of, put_over_of, put_of}
use Rattle.book_rules.specs.Rules.{first_fault, is_bad_book, is_bad_slot, is_holder, is_gone, book_rules, claim_rules, over_rules, open_rules, kept_rules}
use Rattle.book_rules.specs.Calls.{prepare_book_of, write_setpoint_of, line_read, read_version_of, read_setpoint_of}
use Rattle.book_rules.specs.Sound.{Sound}
use Rattle.book_rules.specs.Outcomes.{Keeps}
use Rattle.book_rules.specs.declared.BookDone.TheVariants.{Done, Written, Setting}
use Rattle.book_rules.specs.declared.BookRefusal.TheVariants.{StaleBoot, NotHeld, DamagedBook, BookFull, NeverWritten}
use Rattle.history.specs.World.{World, world_of}
use Rattle.history.specs.Items.{call, try_acquire, drop_lease, preparation, preparation_over, perform, cold, next_item, preparing}
use Rattle.book_theory.specs.Items.{BookItem, arena_item, prepare_book, write_setpoint, read_setpoint, read_version, BookEntry, prepared, wrote, was_read, version_read_lem, Shift, shift_of, slots_in, preparing_book, writing, reading, reading_version, next_shift, run_shift, settings, newest_read, version_read, SameSlots, AllTyped}
use Rattle.book_theory.specs.Statements.{summed, is_moved, ReleasedBetween, Writable, Needed, AsWritten}
use Rattle.book_theory.proofs.Theorems.{others_read_as_before, new_reads_as_written, oldest_is_dropped, moved_is_summed, full_exactly, done_exactly, reads_exactly, prepared_reads_nothing, reads_last_write, reads_newest_four, never_exactly, forgets_older_bytes, never_damaged, written_by_holder, one_writer, writers_parted, damage_stays}
use Rattle.book_theory.specs.Examples.{rubbish, old, fresh, one_lease, other_lease, bar, change, till_evening, day, at_night, the_day, blots, first_write, the_head, the_table, at_evening, at_limit, torn, all_small, broken, tries}

pub day_is : run_shift fresh (prepare_book ∷ day) ≡ the_day
unfolding run_shift next_shift next_item preparing perform prepare_of prepare_rules first head_fits shape_fits health_fits try_acquire_of acquire_of drop_lease_of cell_rules lease_rules take_of set_cell bit_at owner_at is_free is_held state_of state_at is_live prepare_book_of book_rules first_fault is_bad_book is_bad_slot is_holder write_setpoint_of claim_rules over_rules read_setpoint_of read_version_of open_rules kept_rules is_gone line_read is_finite is_sound is_falling is_fitting is_apart all place_at length_at version_at is_kept setting_at count most put_many drop_oldest_of kept_of end_of is_crowded is_full rank_of slid_of moved_of erased_of laid_of compact_of append_of put_over_of put_of join_of setting_of decode_of line_at five_at line_of body_of bytes_of of_bits to_bits
day_is = refl

-- ---- the premises: both preparations are done, the head in force always has two slots, the setpoints are values of their types

pub boot_done : (preparing 1 2 1 6 rubbish.table rubbish.health).0 ≡ answer.Done
unfolding preparing prepare_of prepare_rules first head_fits shape_fits health_fits
boot_done = refl

pub book_done : (preparing_book fresh).0 ≡ Ok Done
unfolding run_shift next_shift next_item preparing perform prepare_of prepare_rules first head_fits shape_fits health_fits try_acquire_of acquire_of drop_lease_of cell_rules lease_rules take_of set_cell bit_at owner_at is_free is_held state_of state_at is_live prepare_book_of book_rules first_fault is_bad_book is_bad_slot is_holder write_setpoint_of claim_rules over_rules read_setpoint_of read_version_of open_rules kept_rules is_gone line_read is_finite is_sound is_falling is_fitting is_apart all place_at length_at version_at is_kept setting_at count most put_many drop_oldest_of kept_of end_of is_crowded is_full rank_of slid_of moved_of erased_of laid_of compact_of append_of put_over_of put_of join_of setting_of decode_of line_at five_at line_of body_of bytes_of of_bits to_bits
book_done = refl

pub two_slots : SameSlots 2 (next_shift fresh prepare_book) day
unfolding run_shift next_shift next_item preparing perform prepare_of prepare_rules first head_fits shape_fits health_fits try_acquire_of acquire_of drop_lease_of cell_rules lease_rules take_of set_cell bit_at owner_at is_free is_held state_of state_at is_live prepare_book_of book_rules first_fault is_bad_book is_bad_slot is_holder write_setpoint_of claim_rules over_rules read_setpoint_of read_version_of open_rules kept_rules is_gone line_read is_finite is_sound is_falling is_fitting is_apart all place_at length_at version_at is_kept setting_at count most put_many drop_oldest_of kept_of end_of is_crowded is_full rank_of slid_of moved_of erased_of laid_of compact_of append_of put_over_of put_of join_of setting_of decode_of line_at five_at line_of body_of bytes_of of_bits to_bits
two_slots = (refl, (refl, (refl, (refl, (refl, (refl, (refl, (refl, (refl, (refl, (refl, (refl, (refl, (refl, (refl, tt)))))))))))))))

pub values : AllTyped day
values = (tt, (of_bits-fits binary32 0x3fc0_0000, (omega arith, (tt, (tt, (of_bits-fits binary32 0x3fc0_0000, (tt, (omega arith, (omega arith, (tt, (tt, (tt, (tt, (tt, (tt, tt)))))))))))))))

pub fresh_slots : slots_in fresh ≡ 2
unfolding run_shift next_shift next_item preparing perform prepare_of prepare_rules first head_fits shape_fits health_fits try_acquire_of acquire_of drop_lease_of cell_rules lease_rules take_of set_cell bit_at owner_at is_free is_held state_of state_at is_live prepare_book_of book_rules first_fault is_bad_book is_bad_slot is_holder write_setpoint_of claim_rules over_rules read_setpoint_of read_version_of open_rules kept_rules is_gone line_read is_finite is_sound is_falling is_fitting is_apart all place_at length_at version_at is_kept setting_at count most put_many drop_oldest_of kept_of end_of is_crowded is_full rank_of slid_of moved_of erased_of laid_of compact_of append_of put_over_of put_of join_of setting_of decode_of line_at five_at line_of body_of bytes_of of_bits to_bits
fresh_slots = refl

same : SameSlots (slots_in fresh) (next_shift fresh prepare_book) day
same = subst (λ (n : ℕ). SameSlots n (next_shift fresh prepare_book) day) (sym fresh_slots) two_slots

-- ---- `prepared_reads_nothing`

pub nothing_yet : (reading (next_shift fresh prepare_book) 1 ≡ Err NeverWritten) × (reading_version (next_shift fresh prepare_book) 1 1 ≡ Err NeverWritten)
nothing_yet = prepared_reads_nothing fresh 1 1 book_done (omega (arith, fresh_slots))

-- ---- `reads_last_write`, `reads_newest_four`, `never_exactly`: slot 1 has the fifth write's setpoint, over both preparations of the arena, and its
-- second is kept, its first not; slot 0 has none

pub last_is : (reading the_day 1 ≡ Ok (Setting (Speed 5) 5)) × (reading the_day 0 ≡ Err NeverWritten)
unfolding settings
last_is =
    let r = subst (λ (v : Shift). (slot : ℕ) → slot < slots_in v → reading v slot ≡ newest_read (settings slot v.entries))
    day_is (reads_last_write fresh day book_done same values) in
    (r 1 (omega arith), r 0 (omega arith))

pub second_is : reading_version the_day 1 2 ≡ version_read (Speed 5 ∷ Speed 4 ∷ Valve true ∷ Speed 258 ∷ bar ∷ []) 2
unfolding settings
second_is =
    subst (λ (v : Shift). (slot w : ℕ) → slot < slots_in v → reading_version v slot w ≡ version_read (settings slot v.entries) w)
    day_is (reads_newest_four fresh day book_done same values) 1 2 (omega arith)

pub first_is : reading_version the_day 1 1 ≡ Err NeverWritten
unfolding settings
first_is =
    (subst (λ (v : Shift). (slot w : ℕ) → slot < slots_in v → (reading_version v slot w ≡ Err NeverWritten) ↔ (Keeps (length (settings slot v.entries)) w → ⊥))
    day_is (never_exactly fresh day book_done same values) 1 1 (omega arith)).1 (λ q. omega (arith, q.2))

-- ---- `never_damaged`

pub sound_day : (reading the_day 1 ≢ Err DamagedBook) × ((writing the_day 1 other_lease bar).0 ≢ Err DamagedBook)
sound_day =
    let d = subst (λ (v : Shift).
    ((slot : ℕ) → reading v slot ≢ Err DamagedBook)
    × ((slot w : ℕ) → reading_version v slot w ≢ Err DamagedBook)
    × ((slot : ℕ) (l : Lease) (p : Setpoint) → (writing v slot l p).0 ≢ Err DamagedBook)) day_is (never_damaged fresh day book_done same values) in
    (d.0 1, d.2 1 other_lease bar)

pub same_day : run_shift (shift_of fresh.course blots []) (prepare_book ∷ day) ≡ the_day
unfolding run_shift next_shift next_item preparing perform prepare_of prepare_rules first head_fits shape_fits health_fits try_acquire_of acquire_of drop_lease_of cell_rules lease_rules take_of set_cell bit_at owner_at is_free is_held state_of state_at is_live prepare_book_of book_rules first_fault is_bad_book is_bad_slot is_holder write_setpoint_of claim_rules over_rules read_setpoint_of read_version_of open_rules kept_rules is_gone line_read is_finite is_sound is_falling is_fitting is_apart all place_at length_at version_at is_kept setting_at count most put_many drop_oldest_of kept_of end_of is_crowded is_full rank_of slid_of moved_of erased_of laid_of compact_of append_of put_over_of put_of join_of setting_of decode_of line_at five_at line_of body_of bytes_of of_bits to_bits
same_day = sym (forgets_older_bytes fresh.course old blots [] day refl book_done) ∙ day_is

pub first_done : (writing first_write 1 one_lease bar).0 ≡ Ok (Written 1 0)
unfolding run_shift next_shift next_item preparing perform prepare_of prepare_rules first head_fits shape_fits health_fits try_acquire_of acquire_of drop_lease_of cell_rules lease_rules take_of set_cell bit_at owner_at is_free is_held state_of state_at is_live prepare_book_of book_rules first_fault is_bad_book is_bad_slot is_holder write_setpoint_of claim_rules over_rules read_setpoint_of read_version_of open_rules kept_rules is_gone line_read is_finite is_sound is_falling is_fitting is_apart all place_at length_at version_at is_kept setting_at count most put_many drop_oldest_of kept_of end_of is_crowded is_full rank_of slid_of moved_of erased_of laid_of compact_of append_of put_over_of put_of join_of setting_of decode_of line_at five_at line_of body_of bytes_of of_bits to_bits
first_done = refl

pub second_done : (writing (run_shift first_write (write_setpoint 1 one_lease bar ∷ change)) 1 other_lease (Valve true)).0 ≡ Ok (Written 2 0)
unfolding run_shift next_shift next_item preparing perform prepare_of prepare_rules first head_fits shape_fits health_fits try_acquire_of acquire_of drop_lease_of cell_rules lease_rules take_of set_cell bit_at owner_at is_free is_held state_of state_at is_live prepare_book_of book_rules first_fault is_bad_book is_bad_slot is_holder write_setpoint_of claim_rules over_rules read_setpoint_of read_version_of open_rules kept_rules is_gone line_read is_finite is_sound is_falling is_fitting is_apart all place_at length_at version_at is_kept setting_at count most put_many drop_oldest_of kept_of end_of is_crowded is_full rank_of slid_of moved_of erased_of laid_of compact_of append_of put_over_of put_of join_of setting_of decode_of line_at five_at line_of body_of bytes_of of_bits to_bits
second_done = refl

-- document 02, L8: with the same cell and serial from another boot it is not
pub stale_refused : (writing first_write 1 (lease_of 1 1 5) bar).0 ≡ Err StaleBoot
unfolding run_shift next_shift next_item preparing perform prepare_of prepare_rules first head_fits shape_fits health_fits try_acquire_of acquire_of drop_lease_of cell_rules lease_rules take_of set_cell bit_at owner_at is_free is_held state_of state_at is_live prepare_book_of book_rules first_fault is_bad_book is_bad_slot is_holder write_setpoint_of claim_rules over_rules read_setpoint_of read_version_of open_rules kept_rules is_gone line_read is_finite is_sound is_falling is_fitting is_apart all place_at length_at version_at is_kept setting_at count most put_many drop_oldest_of kept_of end_of is_crowded is_full rank_of slid_of moved_of erased_of laid_of compact_of append_of put_over_of put_of join_of setting_of decode_of line_at five_at line_of body_of bytes_of of_bits to_bits
stale_refused = refl

pub holder : (one_lease.cell ≡ 1) × ((l : Lease) → (writing first_write 1 l bar).0 ≡ Ok (Written 1 0) → l ≡ one_lease)
holder = (
  (written_by_holder first_write.course.world first_write.book 1 one_lease bar 1 0 first_done).1,
  λ l e. one_writer first_write.course.world first_write.book first_write.book 1 l one_lease bar bar 1 1 0 0 e first_done,
)

differ_leases : one_lease ≢ other_lease
differ_leases e = let z : ◌≡◌ {A = ℕ} 1 2 = ap (λ (l : Lease). l.serial) e in omega arith

pub given_back_between : ReleasedBetween first_write.course (run_shift first_write (write_setpoint 1 one_lease bar ∷ change)).course (hold_in one_lease)
given_back_between =
    writers_parted rubbish old (preparation 1 2 1 6) (prepare_book ∷ arena_item (call (try_acquire 1)) ∷ []) change 1 one_lease other_lease bar (Valve true) 1 2 0 0
    boot_done first_done second_done differ_leases (λ z. z, (λ z. z, (tt, tt)))

pub evening_is : (run_shift fresh (prepare_book ∷ till_evening)).book ≡ at_evening
unfolding run_shift next_shift next_item preparing perform prepare_of prepare_rules first head_fits shape_fits health_fits try_acquire_of acquire_of drop_lease_of cell_rules lease_rules take_of set_cell bit_at owner_at is_free is_held state_of state_at is_live prepare_book_of book_rules first_fault is_bad_book is_bad_slot is_holder write_setpoint_of claim_rules over_rules read_setpoint_of read_version_of open_rules kept_rules is_gone line_read is_finite is_sound is_falling is_fitting is_apart all place_at length_at version_at is_kept setting_at count most put_many drop_oldest_of kept_of end_of is_crowded is_full rank_of slid_of moved_of erased_of laid_of compact_of append_of put_over_of put_of join_of setting_of decode_of line_at five_at line_of body_of bytes_of of_bits to_bits
evening_is = refl

pub slid : write_setpoint_of the_head the_table at_evening 1 other_lease (Speed 5) ≡ (Ok (Written 5 15), at_night)
unfolding run_shift next_shift next_item preparing perform prepare_of prepare_rules first head_fits shape_fits health_fits try_acquire_of acquire_of drop_lease_of cell_rules lease_rules take_of set_cell bit_at owner_at is_free is_held state_of state_at is_live prepare_book_of book_rules first_fault is_bad_book is_bad_slot is_holder write_setpoint_of claim_rules over_rules read_setpoint_of read_version_of open_rules kept_rules is_gone line_read is_finite is_sound is_falling is_fitting is_apart all place_at length_at version_at is_kept setting_at count most put_many drop_oldest_of kept_of end_of is_crowded is_full rank_of slid_of moved_of erased_of laid_of compact_of append_of put_over_of put_of join_of setting_of decode_of line_at five_at line_of body_of bytes_of of_bits to_bits
slid = refl

slid_done : (write_setpoint_of the_head the_table at_evening 1 other_lease (Speed 5)).0 ≡ Ok (Written 5 15)
slid_done = ap (λ (o : _ × List ℕ). o.0) slid

-- `others_read_as_before`, `new_reads_as_written`, `oldest_is_dropped`
pub after_slide : (read_version_of the_head at_night 1 3 ≡ read_version_of the_head at_evening 1 3) × (read_version_of the_head at_night 1 5 ≡ Ok (Setting (Speed 5) 5))
    × (read_version_of the_head at_night 1 1 ≡ Err NeverWritten)
after_slide =
    subst (λ (c : List ℕ).
    (read_version_of the_head c 1 3 ≡ read_version_of the_head at_evening 1 3) × (read_version_of the_head c 1 5 ≡ Ok (Setting (Speed 5) 5)) × (read_version_of the_head c 1 1 ≡ Err NeverWritten))
    (ap (λ (o : _ × List ℕ). o.1) slid) (
      others_read_as_before the_head the_table at_evening 1 other_lease (Speed 5) 5 15 (omega arith) slid_done 1 3 (inr (λ z. omega arith, λ z. omega arith)) (omega arith),
      new_reads_as_written the_head the_table at_evening 1 other_lease (Speed 5) 5 15 (omega arith) slid_done,
      oldest_is_dropped the_head the_table at_evening 1 other_lease (Speed 5) 5 15 (omega arith) slid_done 1 refl,
    )

-- `moved_is_summed`: 15 bytes are three lengths of 5
pub three_lengths : 15 ≡ summed 8 (λ k. if is_moved at_evening at_night 1 k then length_at at_evening k else 0)
three_lengths =
    subst (λ (c : List ℕ). 15 ≡ summed 8 (λ k. if is_moved at_evening c 1 k then length_at at_evening k else 0)) (ap (λ (o : _ × List ℕ). o.1) slid)
    (moved_is_summed the_head the_table at_evening 1 other_lease (Speed 5) 5 15 (omega arith) slid_done)

-- `done_exactly`, and `full_exactly`: the same write on a book with room for three bodies, whose slot has three
pub was_writable : Writable the_head the_table at_evening 1 other_lease (Speed 5)
was_writable = ((done_exactly the_head the_table at_evening 1 other_lease (Speed 5)).0 (5, 15, slid_done)).0

pub too_full : write_setpoint_of the_head the_table at_limit 1 other_lease (Speed 4) ≡ (Err BookFull, at_limit)
unfolding run_shift next_shift next_item preparing perform prepare_of prepare_rules first head_fits shape_fits health_fits try_acquire_of acquire_of drop_lease_of cell_rules lease_rules take_of set_cell bit_at owner_at is_free is_held state_of state_at is_live prepare_book_of book_rules first_fault is_bad_book is_bad_slot is_holder write_setpoint_of claim_rules over_rules read_setpoint_of read_version_of open_rules kept_rules is_gone line_read is_finite is_sound is_falling is_fitting is_apart all place_at length_at version_at is_kept setting_at count most put_many drop_oldest_of kept_of end_of is_crowded is_full rank_of slid_of moved_of erased_of laid_of compact_of append_of put_over_of put_of join_of setting_of decode_of line_at five_at line_of body_of bytes_of of_bits to_bits
too_full = refl

pub leaves_too_few : length at_limit < Needed the_head at_limit 1
leaves_too_few = ((full_exactly the_head the_table at_limit 1 other_lease (Speed 4)).0 too_full).1

small : (l : List ℕ) → all_small l ≡ true → (j : ℕ) → get_or l j 0 < 256
small [] e j = omega arith
small (x ∷ xs) e zero = ltb-true x 256 (both (ltb x 256) (all_small xs) e).0
small (x ∷ xs) e (suc j) = small xs (both (ltb x 256) (all_small xs) e).1 j

pub three_answers : AsWritten at_night 1 3 (Valve true) × (Keeps (newest_at at_night 0) 1 → ⊥) × (Sound 2 torn → ⊥)
unfolding run_shift next_shift next_item preparing perform prepare_of prepare_rules first head_fits shape_fits health_fits try_acquire_of acquire_of drop_lease_of cell_rules lease_rules take_of set_cell bit_at owner_at is_free is_held state_of state_at is_live prepare_book_of book_rules first_fault is_bad_book is_bad_slot is_holder write_setpoint_of claim_rules over_rules read_setpoint_of read_version_of open_rules kept_rules is_gone line_read is_finite is_sound is_falling is_fitting is_apart all place_at length_at version_at is_kept setting_at count most put_many drop_oldest_of kept_of end_of is_crowded is_full rank_of slid_of moved_of erased_of laid_of compact_of append_of put_over_of put_of join_of setting_of decode_of line_at five_at line_of body_of bytes_of of_bits to_bits
three_answers = (
  (((reads_exactly the_head at_night 1 3 (small at_night refl) refl refl).0 (Valve true) 3).0 refl).3,
  ((reads_exactly the_head at_night 0 1 (small at_night refl) refl refl).1.0 refl).1,
  (reads_exactly the_head torn 1 3 (small torn refl) refl refl).2.0 refl,
)

tries_slots : SameSlots 2 broken tries
unfolding run_shift next_shift next_item preparing perform prepare_of prepare_rules first head_fits shape_fits health_fits try_acquire_of acquire_of drop_lease_of cell_rules lease_rules take_of set_cell bit_at owner_at is_free is_held state_of state_at is_live prepare_book_of book_rules first_fault is_bad_book is_bad_slot is_holder write_setpoint_of claim_rules over_rules read_setpoint_of read_version_of open_rules kept_rules is_gone line_read is_finite is_sound is_falling is_fitting is_apart all place_at length_at version_at is_kept setting_at count most put_many drop_oldest_of kept_of end_of is_crowded is_full rank_of slid_of moved_of erased_of laid_of compact_of append_of put_over_of put_of join_of setting_of decode_of line_at five_at line_of body_of bytes_of of_bits to_bits
tries_slots = (refl, (refl, tt))

pub torn_stays : (run_shift broken tries).book ≡ torn
torn_stays =
    damage_stays broken tries three_answers.2 tries_slots
    (λ e n. let z : ◌≡◌ {A = ℕ} 0 1 = cc in omega arith, (λ e n. let z : ◌≡◌ {A = ℕ} 0 1 = cc in omega arith, tt))
