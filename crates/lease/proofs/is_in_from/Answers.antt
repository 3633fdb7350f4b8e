-- `lease::is_in_from` meets its contract.
use native.Mathlib.Omega.{arith}
use Rattle.model.specs.Arena.{is_in}
use Rattle.laws.specs.Checks.{holds_end}
use Rattle.lease.proofs.is_in_from.Goals as goal

pub returns-then-list-from : goal.returns-then-list-from
unfolding is_in
returns-then-list-from c = let a = c.args in rw (holds_end a.list.now a.from (omega (arith, c.if-list-from.true)))
