-- `book::read_setpoint` meets its contract.
use Rattle.std.proofs.Common.{sym, ◌∙◌, arith}
use Rattle.book_rules.specs.Calls.{read_setpoint_of}
use Rattle.std.proofs.lemmas.Result.{err_from_is_err_and}
use Rattle.book_rules.proofs.Fine.{open_fine}
use Rattle.book.specs.Model.{read_is, open_readable}
use Rattle.book.proofs.read_setpoint.Goals as goal

pub returns-in_err-open_check : goal.returns-in_err-open_check
unfolding read_setpoint_of
returns-in_err-open_check c =
    let p = err_from_is_err_and c.from_residual.result c.from_residual.ensures.1 in
    rw (read_is _ _ _ _, ← c.open_check.ensures, c.in_err-open_check.was, p.1, p.2)

pub version_at-newest-requires : goal.version_at-newest-requires
version_at-newest-requires c =
    let f = open_fine _ _ _ (sym c.open_check.ensures ∙ c.in_ok-open_check.was) in
    omega (arith, f.slot_is.room, f.slot_is.inside)

pub read_kept-requires : goal.read_kept-requires
read_kept-requires c =
    let f = open_fine _ _ _ (sym c.open_check.ensures ∙ c.in_ok-open_check.was) in
    record { slot_in_bounds = omega (arith, f.slot_is.room, f.slot_is.inside); readable = open_readable _ _ _ f }

pub returns : goal.returns
unfolding read_setpoint_of
returns c = rw (read_is _ _ _ _, ← c.open_check.ensures, c.in_ok-open_check.was, ← c.version_at-newest.ensures, ← c.read_kept.ensures)
