-- `skid::skid_read_dump` meets its contract.
use Rattle.skid.proofs.skid_read_dump.Goals as goal

pub returns : goal.returns
returns c = rw (← c.read-r.ensures, ← c.undumped_words.ensures)
