-- `sorted::acquire_sorted_locks` meets its contract.
use mathlib.Core.Path.{sym, ◌∙◌}
use Rattle.multilock.specs.Fine.{locks_fine}
use Rattle.sorted.proofs.acquire_sorted_locks.Goals as goal

pub sorted_checked-requires : goal.sorted_checked-requires
sorted_checked-requires c = locks_fine _ _ _ _ _ _ _ _ _ (sym c.locks_check.ensures ∙ c.in-Ok.is)
