-- `skid::skid_write_dump` meets its contract.
use Rattle.skid.proofs.skid_write_dump.Goals as goal

pub returns : goal.returns
returns c = rw (← c.write-r.ensures, ← c.dumped_words.ensures)
