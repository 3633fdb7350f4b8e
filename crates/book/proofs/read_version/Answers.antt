-- `book::read_version` meets its contract.
use Rattle.std.proofs.Common.{sym, ◌∙◌, arith}
use Rattle.std.proofs.lemmas.Result.{err_from_is_err_and}
use Rattle.book_rules.proofs.Fine.{open_fine}
use Rattle.book.specs.Model.{read_is, open_readable}
use Rattle.book.proofs.read_version.Goals as goal

pub returns-in_err-open_check : goal.returns-in_err-open_check
returns-in_err-open_check c =
    let p = err_from_is_err_and c.from_residual.result c.from_residual.ensures.1 in
    rw (read_is _ _ _ _, ← c.open_check.ensures, c.in_err-open_check.was, p.1, p.2)

pub read_kept-requires : goal.read_kept-requires
read_kept-requires c =
    let f = open_fine _ _ _ (sym c.open_check.ensures ∙ c.in_ok-open_check.was) in
    record { slot_in_bounds = omega (arith, f.slot_is.room, f.slot_is.inside); readable = open_readable _ _ _ f }

pub returns : goal.returns
returns c = rw (read_is _ _ _ _, ← c.open_check.ensures, c.in_ok-open_check.was, ← c.read_kept.ensures)
