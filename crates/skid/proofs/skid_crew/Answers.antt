-- `skid::skid_crew` meets its contract.
use Rattle.skid.proofs.skid_crew.Goals as goal

pub returns : goal.returns
returns c = rw (← c.head_of-head.ensures, ← c.crew-r.ensures, ← c.crew_words.ensures)
