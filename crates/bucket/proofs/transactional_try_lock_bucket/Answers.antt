-- `bucket::transactional_try_lock_bucket` meets its contract.
use mathlib.Core.Path.{sym, ◌∙◌}
use Rattle.bucket.specs.Fine.{bucket_fine}
use Rattle.bucket.proofs.transactional_try_lock_bucket.Goals as goal

pub once_by_key-requires : goal.once_by_key-requires
once_by_key-requires c = bucket_fine _ _ _ _ _ _ _ _ (sym c.bucket_check.ensures ∙ c.in-Ok.is)
