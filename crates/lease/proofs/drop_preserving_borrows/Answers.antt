-- `lease::drop_preserving_borrows` meets its contract.
use mathlib.Core.Path.{sym, ◌∙◌}
use Rattle.model.specs.Checks.{held_lease_rules}
use Rattle.model.specs.Calls.{drop_preserving_of}
use Rattle.laws.specs.Checks.{shape_ok, shape_bad, held_then}
use Rattle.lease.specs.Drop.{drop_behind_of, drop_unheld}
use Rattle.std.proofs.Common.{rules}
use Rattle.lease.proofs.drop_preserving_borrows.Goals as goal

pub returns-then-held-eq0 : goal.returns-then-held-eq0
returns-then-held-eq0 c = rw (drop_unheld _ _ _ _ c.if-held-eq0.true) c.drop_lease.ensures

pub held_fault-requires : goal.held_fault-requires
held_fault-requires c = sym c.shape_fits.ensures ∙ c.if-shape_fits.true

pub drop_behind-requires : goal.drop_behind-requires
drop_behind-requires c = sym c.shape_fits.ensures ∙ c.if-shape_fits.true

pub returns-in-Err : goal.returns-in-Err
unfolding drop_preserving_of held_lease_rules
returns-in-Err c = rw (shape_ok _ _ _ (sym c.shape_fits.ensures ∙ c.if-shape_fits.true), held_then _ _ _ _, ← c.held_fault.ensures, c.in-Err.is, ← c.refuse.ensures)

pub returns-in-Ok : goal.returns-in-Ok
unfolding drop_preserving_of held_lease_rules drop_behind_of
returns-in-Ok c = rw (shape_ok _ _ _ (sym c.shape_fits.ensures ∙ c.if-shape_fits.true), held_then _ _ _ _, ← c.held_fault.ensures, c.in-Ok.is) c.drop_behind.ensures

pub returns : goal.returns
unfolding drop_preserving_of held_lease_rules
returns c = rw (shape_bad _ _ _ (sym c.shape_fits.ensures ∙ c.if-shape_fits.false), ← c.refuse-2.ensures)
