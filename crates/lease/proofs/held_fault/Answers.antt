-- `lease::held_fault` meets its contract.
use Rattle.lease.specs.Model.{none_held}
use Rattle.lease.proofs.held_fault.Goals as goal

pub returns-then-held-eq0 : goal.returns-then-held-eq0
returns-then-held-eq0 c = let a = c.args in none_held a.head a.table.now a.held.now c.if-held-eq0.true
