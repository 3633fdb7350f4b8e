-- `wave_write::write` meets its contract.
use mathlib.Core.Path.{sym, ◌∙◌}
use Rattle.wave_rules.specs.Calls.{write_of}
use Rattle.wave_rules.proofs.Limits.{history_fits, cells_fit}
use Rattle.wave_write.proofs.write.Goals as goal

pub returns-then-bad_history : goal.returns-then-bad_history
unfolding write_of
returns-then-bad_history c = rw (← c.bad_history.ensures, c.if-bad_history.true)

pub returns-then-too_wide : goal.returns-then-too_wide
unfolding write_of
returns-then-too_wide c = rw (← c.bad_history.ensures, c.if-bad_history.false, ← c.too_wide.ensures, c.if-too_wide.true)

pub fitted-requires : goal.fitted-requires
fitted-requires c =
    let h = history_fits _ (sym c.bad_history.ensures ∙ c.if-bad_history.false) in
    let w = cells_fit _ (sym c.too_wide.ensures ∙ c.if-too_wide.false) in
    (w.1, h.1)

pub returns : goal.returns
unfolding write_of
returns c =
    rw (← c.bad_history.ensures, c.if-bad_history.false, ← c.too_wide.ensures, c.if-too_wide.false, ← c.fitted.ensures)
