-- `bucket::quiet::quiet_attempt` meets its contract.
use Rattle.bucket.specs.Quiet.{lock_few}
use Rattle.bucket.proofs.quiet.quiet_attempt.Goals as goal

pub counted-requires : goal.counted-requires
counted-requires c = (c.requires.1.few_attempts, (c.requires.1.few_boundaries, lock_few _ _ _ _ c.quiet_lock-locked.ensures))
