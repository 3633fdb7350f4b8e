-- `multilock::acquire_index_locks` meets its contract.
use mathlib.Core.Path.{sym, ◌∙◌}
use Rattle.multilock.specs.Fine.{locks_fine}
use Rattle.multilock.proofs.acquire_index_locks.Goals as goal

pub locks_once-requires : goal.locks_once-requires
locks_once-requires c = locks_fine _ _ _ _ _ _ _ _ _ (sym c.locks_check.ensures ∙ c.in-Ok.is)
