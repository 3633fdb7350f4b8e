-- The premises can be met: what each contract requires (`met-..`), calls that no check refuses, a damaged cell. Small
-- arenas that are valid, with leases that are authorized.
use Rattle.std.specs.Prelude.{ℕ, zero, suc, ◌<◌, ◌≤◌, ◌≡◌, refl, List, [], ◌∷◌, length}
use Rattle.std.proofs.Common.{inr, arith}
use Rattle.model.specs.Arena.{head_of, lease_of, leases_of, holds_of, bit_at, owner_at, waiters_at, is_in, is_free, is_held, state_of, state_at, is_live, same_hold, head_fits, shape_fits, health_fits, registry_fits, hold_of}
use Rattle.model.specs.Refusals.{first}
use Rattle.model.specs.Checks.{not_live, not_releasable, bad_bindings, held_lease_rules, lock_rules, script_rules, bucket_rules, release_rules, locks_rules}
use Rattle.model.specs.Foreign.{boundary_of, run_steps_of}
use Rattle.model.specs.Lock.{hold_at}
use Rattle.types.specs.declared.Answer.TheVariants.{Refused}
use Rattle.types.specs.declared.Refusal.TheVariants.{Damaged}
use Rattle.history.specs.World.{world_of, Live}
use Rattle.history.specs.Items.{drop_preserving, try_lock, transactional, release_all, acquire_locks, rules}
use Rattle.history.specs.Statements.{answers}
use Rattle.history.specs.Tests.{held, free, differ}
use Rattle.upstream.specs.Vocabulary.{Authority, valid, leases_authorized, cell, lease_key, authorized, physical_domain, keys_valid}
use Rattle.upstream.specs.Premises.{AllOwn, Fits, FirstBad, Own, lease_at}
use Rattle.upstream.specs.ContractCells.{RequiresCompareExchange, RequiresStore, RequiresTryAcquire, RequiresDropLease, RequiresReadPermission, RequiresCompetingAcquireIsExcluded, RequiresReleaseThenHandoff}
use Rattle.upstream.specs.ContractBorrows.{RequiresInterfere, RequiresEnvironment, RequiresEnvironmentForBorrows, RequiresAcquirePreservingBorrows, RequiresDropPreservingBorrows, RequiresForeignReleaseBetweenAttempts}
use Rattle.upstream.specs.ContractLock.{RequiresOtherMutexPreservesLeases, RequiresTryLock}
use Rattle.upstream.specs.ContractMultilock.{RequiresReleaseAll, RequiresAcquireIndexLocks}

-- an arena of two cells, held by serials 1 and 2
abbrev pub two_held : Authority
two_held = world_of (head_of 1 2 3 5) (1 ∷ 1 ∷ 0 ∷ 1 ∷ 2 ∷ 0 ∷ []) (0 ∷ [])

abbrev pub both : List ℕ
both = 0 ∷ 1 ∷ 5 ∷ 1 ∷ 2 ∷ 5 ∷ []

-- a cell with bit 1 and no owner: a lock answers 9
abbrev pub one_damaged : Authority
one_damaged = world_of (head_of 1 1 1 5) (1 ∷ 0 ∷ 0 ∷ []) (0 ∷ [])

-- ---- what each contract requires

-- two cells, the first held by serial 1, the second free
abbrev pub half_held : Authority
half_held = world_of (head_of 1 2 2 5) (1 ∷ 1 ∷ 0 ∷ 0 ∷ 0 ∷ 0 ∷ []) (0 ∷ [])

abbrev pub mine : List ℕ
mine = 0 ∷ 1 ∷ 5 ∷ []
