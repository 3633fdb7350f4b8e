-- Over a run of items, from a done preparation of the book: what each version of each slot says is what its done write put there, and what holds of
-- the bytes.
-- ---- what the settings of a slot tell
use Rattle.std.specs.Prelude.{ℕ, suc, ◌+◌, ◌*◌, ◌-◌, ◌≤◌, ◌<◌, ◌%◌, ◌≡◌, refl, ◌≢◌, ◌⊎◌, ◌↔◌, List, [], ◌∷◌, Bool, true, false, eqb, length, get_or, replicate, if◌then◌else◌}
use Rattle.std.proofs.Common.{sym, ◌∙◌, subst, inl, inr, arith, eq-eqb, ne_eqb}
use Rattle.std.proofs.Math.Path.{ap}
use Rattle.std.proofs.Math.Decide.{ℕ_discrete, dec_lt}
use Rattle.std.proofs.lemmas.List.{length-replicate}
use Rattle.choice.specs.Pick.{false_not}
use Rattle.model.specs.Arena.{head_fits}
use Rattle.types.specs.declared.Head.{Head}
use Rattle.types.specs.declared.Lease.{Lease}
use Rattle.setpoint.specs.RoundTrip.{Held}
use Rattle.setpoint.specs.declared.Setpoint.{Setpoint}
use Rattle.setpoint.specs.declared.Setpoint.TheVariants.{Speed}
use Rattle.book_rules.specs.Layout.{slots_of, lines_of, front_of, place_at, version_at, newest_at, is_sound}
use Rattle.book_rules.specs.Writing.{put_of}
use Rattle.book_rules.specs.Rules.{BookAnswer, first_fault, is_bad_slot, open_rules, kept_rules}
use Rattle.book_rules.specs.Calls.{write_setpoint_of, read_version_of, read_setpoint_of}
use Rattle.book_rules.specs.Sound.{Kept, Apart, Sound, Clean}
use Rattle.book_rules.proofs.Sound.{sound_is, is_sound_lem}
use Rattle.book_rules.specs.Appended.{goes_of}
use Rattle.book_rules.proofs.Appended.{goes_own, goes_other}
use Rattle.book_rules.proofs.Wrote.{Wrote, put_wrote}
use Rattle.book_rules.specs.Fine.{SlotFine, BookFine}
use Rattle.book_rules.proofs.Fine.{slot_fine}
use Rattle.book_rules.specs.Outcomes.{Prepared, was_prepared, not_prepared, Keeps}
use Rattle.book_rules.proofs.Outcomes.{preparing_is, prepare_alike, Outcome, done, full, refused, writing_is, kept_or, read_kept, read_lost}
use Rattle.book_rules.proofs.Readings.{kept_tells, other_reads, own_reads, new_reads, dropped_reads, newest_other, version_zero, prepared_sound, prepared_clean}
use Rattle.book_rules.specs.declared.BookDone.TheVariants.{Done, Written, Setting}
use Rattle.book_rules.specs.declared.BookRefusal.TheVariants.{BadShape, BadSlot, DamagedBook, NeverWritten}
use Rattle.book_theory.specs.Items.{BookItem, arena_item, prepare_book, write_setpoint, read_setpoint, read_version, BookEntry, prepared, wrote, was_read, version_read_lem, Shift, shift_of, world_of, head_of_lem, slots_in, preparing_book, writing, reading, reading_version, next_shift, run_shift, settings_after, settings, newest_read, version_read, SameSlots, Typed, AllTyped}
use Rattle.book_theory.specs.Statements.{PreparedReadsNothing, ForgetsOlderBytes, FromPrepared, ReadsLastWrite, ReadsNewestFour, NeverExactly, NeverDamaged, NeverOverlap, FreeAreZeros, NewerLieBehind, UntouchedOtherwise, Unprepared, DamageStays}
use Rattle.book_theory.specs.Heads.{item_fits}
use Rattle.book_theory.specs.After.{refusal_in}

-- ---- what holds of a book of n slots with these settings

pub record Keeping (n : ℕ) (b : List ℕ) (f : ℕ → List Setpoint) : Type 0 where
  pub sound : Sound n b
  pub clean : Clean n b
  pub room : front_of n ≤ length b
  pub limit : length b ≤ 32768
  pub newest : (slot : ℕ) → slot < n → newest_at b slot ≡ length (f slot)
  pub says : (h : Head) (slot w : ℕ) → head_fits h ≡ true → slots_of h ≡ n → slot < n → read_version_of h b slot w ≡ version_read (f slot) w
  pub newer : (slot i j : ℕ) → slot < n → i < j → j < 4 → Kept b (4 * slot + j) → place_at b (4 * slot + j) + 5 ≤ place_at b (4 * slot + i)

-- a done write goes on with it: one setting more of its slot
abbrev pub added : (ℕ → List Setpoint) → ℕ → Setpoint → ℕ → List Setpoint
added f slot s t = if eqb slot t then s ∷ f t else f t

-- ---- the invariant, over what it reads: the head in force, the book, the entries

pub record Holding (n : ℕ) (h : Head) (b : List ℕ) (es : List BookEntry) : Type 0 where
  pub head_fits_lem : head_fits h ≡ true
  pub slots_are : slots_of h ≡ n
  pub book_is : Keeping n b (λ slot. settings slot es)
