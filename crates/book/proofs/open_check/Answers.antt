-- `book::open_check` meets its contract.
use Rattle.std.proofs.Common.{sym, ◌∙◌, arith, rules}
use Rattle.book_rules.proofs.Fine.{slot_fine}
use Rattle.book_rules.specs.Rules.{first_fault, open_rules}
use Rattle.book.specs.Model.{some_slots}
use Rattle.book.proofs.open_check.Goals as goal

pub returns-then-not-head_fits : goal.returns-then-not-head_fits
unfolding open_rules first_fault
returns-then-not-head_fits c = rw (← c.head_fits.ensures, c.if-not-head_fits.true)

pub returns-then-is_bad_slot : goal.returns-then-is_bad_slot
unfolding open_rules first_fault
returns-then-is_bad_slot c = rw (← c.head_fits.ensures, c.if-not-head_fits.false, ← c.slots-n.ensures, ← c.is_bad_slot.ensures, c.if-is_bad_slot.true)

pub is_sound-requires : goal.is_sound-requires
is_sound-requires c =
    let f = slot_fine _ _ _ (sym c.is_bad_slot.ensures ∙ c.if-is_bad_slot.false) in
    record { le_n = omega (arith, c.slots-n.ensures, some_slots _ (sym c.head_fits.ensures ∙ c.if-not-head_fits.false)); n_bound = search rules; n_in_bounds = f.room; book_len_bound = f.limit }

pub returns-then-not-is_sound : goal.returns-then-not-is_sound
unfolding open_rules first_fault
returns-then-not-is_sound c = rw (← c.head_fits.ensures, c.if-not-head_fits.false, ← c.slots-n.ensures, ← c.is_bad_slot.ensures, c.if-is_bad_slot.false, ← c.is_sound.ensures, c.if-not-is_sound.true)

pub returns : goal.returns
unfolding open_rules first_fault
returns c = rw (← c.head_fits.ensures, c.if-not-head_fits.false, ← c.slots-n.ensures, ← c.is_bad_slot.ensures, c.if-is_bad_slot.false, ← c.is_sound.ensures, c.if-not-is_sound.false)
