-- The build that does nothing and answers Busy to every call meets these contracts of upstream's, as ours does (`meets-..`): what upstream says of a lock,
-- of an environment and of a multi-lock can be met without ever locking. It is not ours: `Open.rejected-never-locks`.
use Rattle.std.specs.Prelude.{◌≡◌, refl, []}
use Rattle.std.proofs.Common.{ap, arith}
use Rattle.model.specs.Log.{gives}
use Rattle.model.specs.Answers.{kind_of}
use Rattle.model.specs.Calls.{counts_of}
use Rattle.types.specs.declared.Answer.{Answer}
use Rattle.types.specs.declared.Answer.TheVariants.{Granted, AllGranted, Busy}
use Rattle.types.specs.declared.Lease.{Lease}
use Rattle.types.specs.declared.Reason.TheVariants as reason
use Rattle.history.specs.Items.{Build, says}
use Rattle.upstream.specs.Protocol.{ended}
use Rattle.upstream.proofs.Protocol.{trace_legal, trace_buries}
use Rattle.upstream.specs.ContractBorrows.{ContractInterfere, ContractEnvironment, ContractEnvironmentForBorrows}
use Rattle.upstream.specs.ContractLock.{ContractTryLock, ContractOtherMutexPreservesLeases, ContractGuardsTryLock}
use Rattle.upstream.proofs.ContractBucket.{ContractTransactionalTryLockBucket, ContractAcquireIndexBucket, ContractPublicationHeader, ContractGuardsTransactional, ContractGuardsAcquireBucket}
use Rattle.upstream.specs.ContractMultilock.{ContractAcquireIndexLocks}
use Rattle.upstream.specs.Idle.{idle}

nothing : {A : Type 0} {l : Lease} → ◌≡◌ {A = Answer} (Busy reason.Before) (Granted l) → A
nothing e = absurd (omega (arith, ap kind_of e))

nothing_all : {A : Type 0} → ◌≡◌ {A = Answer} (Busy reason.Before) AllGranted → A
nothing_all e = absurd (omega (arith, ap kind_of e))

pub idle_interfere : ContractInterfere idle
idle_interfere w script place held q = record { e1 = trace_legal (ended w) }

pub idle_environment : ContractEnvironment idle
idle_environment w script place held q = record { e1 = q.r1; e2 = q.r2; e3 = refl; e4 = trace_buries {protected = λ l. ⊥} (ended w) }

pub idle_environment_for_borrows : ContractEnvironmentForBorrows idle
idle_environment_for_borrows w script place held q = record { e1 = q.r1; e2 = q.r2; e3 = refl; e4 = trace_buries {protected = λ l. ⊥} (ended w) }

pub idle_try_lock : ContractTryLock idle
idle_try_lock w script place held key q = record { e1 = q.r1; e2 = q.r3; e3 = refl; e4 = λ l e. nothing e; e5 = λ l e. nothing e }

pub idle_other_mutex_preserves_leases : ContractOtherMutexPreservesLeases idle
idle_other_mutex_preserves_leases w script place held key q = record { e1 = q.r1; e2 = q.r2; e3 = λ l e. nothing e; e4 = λ l e. nothing e }

pub idle_transactional_try_lock_bucket : ContractTransactionalTryLockBucket idle
idle_transactional_try_lock_bucket w registry script place held binding bucket q = record { e1 = q.r1; e2 = q.r3; e3 = refl; e4 = λ l e. nothing e; e5 = λ l e. nothing e }

pub idle_acquire_index_bucket : ContractAcquireIndexBucket idle
idle_acquire_index_bucket w registry script place held binding bucket q = record { e1 = q.r1; e2 = q.r3; e3 = refl; e4 = λ l e. nothing e; e5 = λ l e. nothing e }

pub idle_publication_header : ContractPublicationHeader idle
idle_publication_header w registry script place held binding bucket q = record { e1 = λ l e. nothing e }

pub idle_guards_try_lock : ContractGuardsTryLock idle
idle_guards_try_lock w script place held key = record { e1 = λ l e. nothing e; e2 = λ l e. nothing e }

pub idle_guards_transactional : ContractGuardsTransactional idle
idle_guards_transactional w registry script place held binding bucket q = record { e1 = λ l e. nothing e; e2 = λ l e. nothing e; e3 = λ l e. nothing e }

pub idle_guards_acquire_bucket : ContractGuardsAcquireBucket idle
idle_guards_acquire_bucket w registry script place held binding bucket q = record { e1 = λ l e. nothing e; e2 = λ l e. nothing e; e3 = λ l e. nothing e }

pub idle_acquire_index_locks : ContractAcquireIndexLocks idle
idle_acquire_index_locks w registry script place held keys grants q = record { e1 = λ e. nothing_all e; e2 = λ e. nothing_all e; e3 = λ e. nothing_all e }
