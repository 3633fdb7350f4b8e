-- `lock::try_lock` meets its contract.
use mathlib.Core.Path.{sym, ◌∙◌}
use Rattle.lock.specs.Fine.{lock_fine}
use Rattle.lock.proofs.try_lock.Goals as goal

pub lock_once-requires : goal.lock_once-requires
lock_once-requires c = lock_fine _ _ _ _ _ _ _ (sym c.lock_check.ensures ∙ c.in-Ok.is)
