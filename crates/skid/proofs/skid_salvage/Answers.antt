-- `skid::skid_salvage` meets its contract.
use Rattle.skid.proofs.skid_salvage.Goals as goal

pub returns : goal.returns
returns c = rw (← c.head_of-head.ensures, ← c.salvage-r.ensures, ← c.salvage_words.ensures)
