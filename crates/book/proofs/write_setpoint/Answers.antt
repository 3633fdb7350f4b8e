-- `book::write_setpoint` meets its contract.
use Rattle.std.proofs.Common.{sym, ◌∙◌, arith, rules}
use Rattle.std.proofs.lemmas.Result.{err_from_is_err_and}
use Rattle.book_rules.proofs.Fine.{shape_head, claim_fine}
use Rattle.book.specs.Model.{some_slots, write_is}
use Rattle.book.proofs.write_setpoint.Goals as goal

pub returns-in_err-claim_check : goal.returns-in_err-claim_check
returns-in_err-claim_check c =
    let p = err_from_is_err_and c.from_residual.result c.from_residual.ensures.1 in
    rw (write_is _ _ _ _ _ _, ← c.claim_check.ensures, c.in_err-claim_check.was, p.1, p.2)

pub slots-requires : goal.slots-requires
slots-requires c = shape_head _ _ (claim_fine _ _ _ _ _ _ (sym c.claim_check.ensures ∙ c.in_ok-claim_check.was)).shape

pub write_over-requires : goal.write_over-requires
write_over-requires c =
    let f = claim_fine _ _ _ _ _ _ (sym c.claim_check.ensures ∙ c.in_ok-claim_check.was) in
    let s = f.slot_is in
    record { le_n = omega (arith, some_slots _ (shape_head _ _ f.shape), c.slots.ensures); n_bound = search rules; slot_lt_n = omega (arith, s.inside, c.slots.ensures); n_in_bounds = omega (arith, s.room, c.slots.ensures); book_len_bound = s.limit; s_value = f.whole }

pub returns : goal.returns
returns c = rw (write_is _ _ _ _ _ _, ← c.claim_check.ensures, c.in_ok-claim_check.was, ← c.slots.ensures, ← c.write_over.ensures)
