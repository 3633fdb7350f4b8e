-- `lock::quiet_lock` meets its contract.
use Rattle.lock.specs.Laws.{quiet_is}
use Rattle.lock.proofs.quiet_lock.Goals as goal

pub returns : goal.returns
returns c = rw (quiet_is _ _ _, ← c.quiet_take-quiet.ensures, ← c.quiet_outcome.ensures)
