-- `skid::skid_environment` meets its contract.
use Rattle.skid.proofs.skid_environment.Goals as goal

pub returns : goal.returns
returns c = rw (← c.head_of-head.ensures, ← c.environment-r.ensures, ← c.script_reply_words.ensures)
