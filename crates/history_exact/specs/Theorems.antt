-- The statements of `Statements`, `Script` and `Attempts`, each proved of ours; the proofs are in the files behind. That `acquire_index_bucket` and multi-lock
-- are made of smaller calls (`BucketAttempts`, `LocksAsCalls`) is what crate `pinned` asks of every build; the lemmas are in `Attempting` and `KeyByKey`.
use Rattle.history.specs.Items.{perform}
use Rattle.history_exact.specs.Statements.{TryLockQuiet, TransactionalQuiet, AcquireBucketQuiet, TryLockExactly, AcquireBucketExactly, LocksQuiet, LocksRefusedQuiet}
use Rattle.history_exact.specs.Script.{ScriptConsumed, PlaceGoes, EachHasItsTurn, ByScriptOnly, DroppedAre}
use Rattle.history_exact.specs.Attempts.{AttemptEnds, BucketRetries, LocksRetry, BucketBoundaries, LocksBoundaries}
use Rattle.history_exact.specs.QuietCalls as quiet
use Rattle.history_exact.specs.QuietLocks as locking
use Rattle.history_exact.specs.QuietRefused as refusing
use Rattle.history_exact.specs.ConsumingCalls as consuming
use Rattle.history_exact.specs.ScriptFacts as facts
use Rattle.history_exact.specs.Retried as retried
use Rattle.history_exact.specs.Ending as ending
use Rattle.history_exact.specs.Boundaries as bounding
use Rattle.history_exact.specs.Bits as bits

-- ---- a script at its end

pub try_lock_quiet : TryLockQuiet perform
try_lock_quiet = quiet.try_lock_quiet

pub transactional_quiet : TransactionalQuiet perform
transactional_quiet = quiet.transactional_quiet

pub acquire_bucket_quiet : AcquireBucketQuiet perform
acquire_bucket_quiet = quiet.acquire_bucket_quiet

pub try_lock_exactly : TryLockExactly perform
try_lock_exactly = quiet.try_lock_exactly

pub acquire_bucket_exactly : AcquireBucketExactly perform
acquire_bucket_exactly = quiet.acquire_bucket_exactly

pub locks_quiet : LocksQuiet perform
locks_quiet = locking.locks_quiet

pub locks_refused_quiet : LocksRefusedQuiet perform
locks_refused_quiet = refusing.locks_refused_quiet

-- ---- any script

pub script_consumed : ScriptConsumed perform
script_consumed = consuming.script_consumed

pub place_goes : PlaceGoes perform
place_goes = facts.place_goes

pub each_has_its_turn : EachHasItsTurn perform
each_has_its_turn = facts.each_has_its_turn

pub by_script_only : ByScriptOnly perform
by_script_only = facts.by_script_only

pub dropped_are : DroppedAre perform
dropped_are = facts.dropped_are

-- ---- how an attempt ends

pub attempt_ends : AttemptEnds perform
attempt_ends = ending.attempt_ends

-- ---- the counts

pub bucket_retries : BucketRetries perform
bucket_retries = retried.bucket_retries

pub locks_retry : LocksRetry perform
locks_retry = retried.locks_retry

pub bucket_boundaries : BucketBoundaries perform
bucket_boundaries = bounding.bucket_boundaries

pub locks_boundaries : LocksBoundaries perform
locks_boundaries = bounding.locks_boundaries

-- ---- what is left in a bit word

pub bits_left : bits.BitsLeft perform
bits_left = bits.bits_left

pub bits_prepared : bits.BitsPrepared
bits_prepared = bits.bits_prepared
