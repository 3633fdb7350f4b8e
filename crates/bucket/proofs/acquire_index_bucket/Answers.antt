-- `bucket::acquire_index_bucket` meets its contract.
use mathlib.Core.Path.{sym, ◌∙◌}
use Rattle.bucket.specs.Fine.{bucket_fine}
use Rattle.bucket.proofs.acquire_index_bucket.Goals as goal

pub retry_by_key-requires : goal.retry_by_key-requires
retry_by_key-requires c = bucket_fine _ _ _ _ _ _ _ _ (sym c.bucket_check.ensures ∙ c.in-Ok.is)
