-- `lease::drop_behind` meets its contract.
use mathlib.Core.Path.{sym, ◌∙◌}
use native.Mathlib.Omega.{arith}
use Rattle.lease.specs.Drop.{behind_fine, behind_ends, behind_goes}
use Rattle.lease.proofs.drop_behind.Goals as goal

pub drop_unprotected-requires : goal.drop_unprotected-requires
drop_unprotected-requires c = let f = behind_fine _ _ _ c.requires (sym c.lease_fault.ensures ∙ c.in-Ok.is) in omega (arith, f.shape.words_are, f.inside)

pub returns-in-Err : goal.returns-in-Err
returns-in-Err c = rw (behind_ends _ _ _ _ _ (sym c.lease_fault.ensures ∙ c.in-Err.is), ← c.refuse.ensures)

pub returns-in-Ok : goal.returns-in-Ok
returns-in-Ok c = rw (behind_goes _ _ _ _ (sym c.lease_fault.ensures ∙ c.in-Ok.is)) c.drop_unprotected.ensures
