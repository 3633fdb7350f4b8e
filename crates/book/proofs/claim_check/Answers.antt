-- `book::claim_check` meets its contract.
use Rattle.std.proofs.Common.{sym, ◌∙◌}
use Rattle.book_rules.proofs.Fine.{shape_head}
use Rattle.book_rules.specs.Rules.{first_fault, claim_rules}
use Rattle.book.proofs.claim_check.Goals as goal

pub returns-then-not-shape_fits : goal.returns-then-not-shape_fits
unfolding claim_rules first_fault
returns-then-not-shape_fits c = rw (← c.shape_fits.ensures, c.if-not-shape_fits.true)

pub slots-requires : goal.slots-requires
slots-requires c = shape_head _ _ (sym c.shape_fits.ensures ∙ c.if-not-shape_fits.false)

pub returns-then-is_bad_slot : goal.returns-then-is_bad_slot
unfolding claim_rules first_fault
returns-then-is_bad_slot c = rw (← c.shape_fits.ensures, c.if-not-shape_fits.false, ← c.slots.ensures, ← c.is_bad_slot.ensures, c.if-is_bad_slot.true)

pub returns-then-is_stale : goal.returns-then-is_stale
unfolding claim_rules first_fault
returns-then-is_stale c = rw (← c.shape_fits.ensures, c.if-not-shape_fits.false, ← c.slots.ensures, ← c.is_bad_slot.ensures, c.if-is_bad_slot.false, ← c.is_stale.ensures, c.if-is_stale.true)

pub returns-then-not-is_holder : goal.returns-then-not-is_holder
unfolding claim_rules first_fault
returns-then-not-is_holder c = rw (← c.shape_fits.ensures, c.if-not-shape_fits.false, ← c.slots.ensures, ← c.is_bad_slot.ensures, c.if-is_bad_slot.false, ← c.is_stale.ensures, c.if-is_stale.false, ← c.is_holder.ensures, c.if-not-is_holder.true)

pub returns-then-not-has_body : goal.returns-then-not-has_body
unfolding claim_rules first_fault
returns-then-not-has_body c = rw (← c.shape_fits.ensures, c.if-not-shape_fits.false, ← c.slots.ensures, ← c.is_bad_slot.ensures, c.if-is_bad_slot.false, ← c.is_stale.ensures, c.if-is_stale.false, ← c.is_holder.ensures, c.if-not-is_holder.false, ← c.has_body.ensures, c.if-not-has_body.true)

pub returns : goal.returns
unfolding claim_rules first_fault
returns c = rw (← c.shape_fits.ensures, c.if-not-shape_fits.false, ← c.slots.ensures, ← c.is_bad_slot.ensures, c.if-is_bad_slot.false, ← c.is_stale.ensures, c.if-is_stale.false, ← c.is_holder.ensures, c.if-not-is_holder.false, ← c.has_body.ensures, c.if-not-has_body.false)
