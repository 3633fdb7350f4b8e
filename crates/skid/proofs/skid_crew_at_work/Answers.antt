-- `skid::skid_crew_at_work` meets its contract.
use Rattle.skid.proofs.skid_crew_at_work.Goals as goal

pub returns : goal.returns
returns c = rw (← c.head_of-head.ensures, ← c.crew_at_work-r.ensures, ← c.crew_words.ensures)
