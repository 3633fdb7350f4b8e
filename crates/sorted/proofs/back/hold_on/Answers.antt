-- `sorted::back::hold_on` meets its contract.
use Rattle.sorted.specs.Back.{hold_found, hold_missed}
use Rattle.sorted.proofs.back.hold_on.Goals as goal

pub returns-in-Some : goal.returns-in-Some
returns-in-Some c = hold_found _ _ _ (rw c.in-Some.is at c.entry_of.ensures)

pub returns-in-None : goal.returns-in-None
returns-in-None c = hold_missed _ _ (rw c.in-None.is at c.entry_of.ensures)
