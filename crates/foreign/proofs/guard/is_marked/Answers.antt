-- `foreign::guard::is_marked` meets its contract.
use mathlib.Core.Path.{sym}
use Rattle.foreign.specs.Marks.{unmarked, marked}
use Rattle.foreign.proofs.guard.is_marked.Goals as goal

pub returns-then-mark-eq0 : goal.returns-then-mark-eq0
returns-then-mark-eq0 c = let a = c.args in sym (unmarked a.marks.now a.held.now a.hold c.requires c.if-mark-eq0.true)

pub returns : goal.returns
returns c = let a = c.args in rw (marked a.marks.now a.held.now a.hold c.requires) c.is_in_from.ensures
