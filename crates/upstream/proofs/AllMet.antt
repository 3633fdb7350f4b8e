-- The premises can be met: what each contract requires (`met-..`), calls that no check refuses, a damaged cell. Small
-- arenas that are valid, with leases that are authorized.
use Rattle.std.specs.Prelude.{ℕ, zero, suc, ◌<◌, ◌≤◌, ◌≡◌, refl, List, [], ◌∷◌, length, Ok}
use Rattle.std.proofs.Common.{inr, arith}
use Rattle.model.specs.Arena.{head_of, lease_of, leases_of, holds_of, bit_at, owner_at, waiters_at, is_in, is_free, is_held, state_of, state_at, is_live, same_hold, head_fits, shape_fits, health_fits, registry_fits, hold_of}
use Rattle.model.specs.Refusals.{first}
use Rattle.model.specs.Checks.{not_live, not_releasable, bad_bindings, held_lease_rules, lock_rules, script_rules, bucket_rules, release_rules, locks_rules}
use Rattle.model.specs.Foreign.{boundary_of, run_steps_of}
use Rattle.model.specs.Lock.{hold_at}
use Rattle.types.specs.declared.Answer.TheVariants.{Refused}
use Rattle.types.specs.declared.Refusal.TheVariants.{Damaged}
use Rattle.history.specs.World.{world_of, Live}
use Rattle.history.specs.Items.{drop_preserving, try_lock, transactional, release_all, acquire_locks, rules}
use Rattle.history.specs.Statements.{answers}
use Rattle.history.specs.Tests.{held, free, differ}
use Rattle.upstream.specs.Vocabulary.{Authority, valid, leases_authorized, cell, lease_key, authorized, physical_domain, keys_valid}
use Rattle.upstream.specs.Premises.{AllOwn, Fits, FirstBad, Own, lease_at}
use Rattle.upstream.proofs.Bridge.{status_valid, by_name}
use Rattle.upstream.proofs.TryLock.{try_lock_r1}
use Rattle.upstream.specs.ContractCells.{RequiresCompareExchange, RequiresStore, RequiresTryAcquire, RequiresDropLease, RequiresReadPermission, RequiresCompetingAcquireIsExcluded, RequiresReleaseThenHandoff}
use Rattle.upstream.specs.ContractBorrows.{RequiresInterfere, RequiresEnvironment, RequiresEnvironmentForBorrows, RequiresAcquirePreservingBorrows, RequiresDropPreservingBorrows, RequiresForeignReleaseBetweenAttempts}
use Rattle.upstream.specs.ContractLock.{RequiresOtherMutexPreservesLeases, RequiresTryLock}
use Rattle.upstream.proofs.ContractBucket.{RequiresGuardsBucket, RequiresTransactionalTryLockBucket, RequiresAcquireIndexBucket, RequiresBucket, RequiresPublicationHeader, RequiresGuardsTransactional, RequiresGuardsAcquireBucket}
use Rattle.upstream.specs.ContractMultilock.{RequiresReleaseAll, RequiresAcquireIndexLocks}
use Rattle.upstream.specs.AllMet.{two_held, both, one_damaged, half_held, mine}

pub met_fits : Fits two_held
unfolding shape_fits head_fits
met_fits = refl

pub met_valid : valid two_held
unfolding bit_at owner_at
met_valid zero i = status_valid 3 (cell 1 1) (held refl (omega arith) (omega arith))
met_valid (suc zero) i = status_valid 3 (cell 1 2) (held refl (omega arith) (omega arith))
met_valid (suc (suc k)) i = absurd (omega arith)

pub met_authorized : leases_authorized two_held (holds_of both)
unfolding holds_of bit_at owner_at
met_authorized zero i = record { inside = omega arith; locked = refl; mine = (omega arith, refl) }
met_authorized (suc zero) i = record { inside = omega arith; locked = refl; mine = (omega arith, refl) }
met_authorized (suc (suc k)) i = absurd (omega arith)

-- `Own`, of each lease of a list
pub met_own : AllOwn two_held both
unfolding leases_of
met_own zero i = refl
met_own (suc zero) i = refl
met_own (suc (suc k)) i = absurd (omega arith)

-- `Checked`: calls with and without a script, by cell, by lease, by key, with held lists
pub met_checked : (first (rules two_held (drop_preserving (0 ∷ 1 ∷ 5 ∷ []) (lease_of 1 2 5))) ≡ Ok tt)
    × (first (rules two_held (try_lock [] 0 both 1)) ≡ Ok tt)
    × (first (rules two_held (transactional (0 ∷ []) [] 0 both 0 1)) ≡ Ok tt)
    × (first (rules two_held (release_all [] 0 both)) ≡ Ok tt)
    × (first (rules two_held (acquire_locks (0 ∷ []) [] 0 both (0 ∷ 1 ∷ []) (7 ∷ 7 ∷ 7 ∷ []))) ≡ Ok tt)
unfolding first shape_fits head_fits health_fits registry_fits leases_of holds_of not_live not_releasable bad_bindings held_lease_rules lock_rules script_rules bucket_rules release_rules
    locks_rules is_in is_live same_hold state_at state_of is_free is_held bit_at owner_at
met_checked = (refl, refl, refl, refl, refl)

pub met_damaged : answers one_damaged (try_lock [] 0 [] 0) ≡ Refused (Damaged 0)
unfolding first shape_fits head_fits health_fits leases_of holds_of not_live lock_rules script_rules boundary_of run_steps_of waiters_at bit_at owner_at
met_damaged = (try_lock_r1 one_damaged [] 0 [] 0 refl (refl, λ v. omega (arith, v.owned.1 refl))).0

half_fits : Fits half_held
unfolding shape_fits head_fits
half_fits = refl

half_valid : valid half_held
unfolding bit_at owner_at
half_valid zero i = status_valid 2 (cell 1 1) (held refl (omega arith) (omega arith))
half_valid (suc zero) i = status_valid 2 (cell 0 0) (free refl refl)
half_valid (suc (suc k)) i = absurd (omega arith)

half_mine : leases_authorized half_held (holds_of mine)
unfolding holds_of bit_at owner_at
half_mine zero i = record { inside = omega arith; locked = refl; mine = (omega arith, refl) }
half_mine (suc k) i = absurd (omega arith)

two_mine : leases_authorized two_held (holds_of mine)
unfolding holds_of bit_at owner_at
two_mine zero i = record { inside = omega arith; locked = refl; mine = (omega arith, refl) }
two_mine (suc k) i = absurd (omega arith)

own_mine : AllOwn half_held mine
unfolding leases_of
own_mine zero i = refl
own_mine (suc k) i = absurd (omega arith)

own_two : AllOwn two_held mine
unfolding leases_of
own_two zero i = refl
own_two (suc k) i = absurd (omega arith)

other : authorized two_held (hold_of 1 2)
unfolding bit_at owner_at
other = record { inside = omega arith; locked = refl; mine = (omega arith, refl) }

all_there : physical_domain (0 ∷ []) half_held
all_there zero bucket l b = (omega arith, b)
all_there (suc binding) bucket l b = absurd (omega arith)

pub met_compare_exchange : RequiresCompareExchange half_held 1
met_compare_exchange = record { fits = half_fits; serials = omega arith; r1 = half_valid; r2 = omega arith }

pub met_try_acquire : RequiresTryAcquire half_held 1
met_try_acquire = record { fits = half_fits; serials = omega arith; r1 = half_valid; r2 = omega arith }

pub met_store : RequiresStore two_held (lease_of 1 2 5)
unfolding bit_at owner_at
met_store = record { fits = met_fits; own = refl; sound = met_valid 1 (omega arith); r1 = omega arith; r2 = refl; r3 = refl }

pub met_drop_lease : RequiresDropLease two_held (lease_of 1 2 5)
met_drop_lease = record { fits = met_fits; own = refl; r1 = met_valid; r2 = other }

pub met_read_permission : RequiresReadPermission two_held (lease_of 1 2 5)
met_read_permission = record { fits = met_fits; own = refl; r1 = met_valid; r2 = other }

pub met_competing_acquire_is_excluded : RequiresCompetingAcquireIsExcluded two_held (lease_of 1 2 5)
met_competing_acquire_is_excluded = record { fits = met_fits; own = refl; r1 = met_valid; r2 = other }

pub met_release_then_handoff : RequiresReleaseThenHandoff two_held (lease_of 1 2 5)
met_release_then_handoff = record { fits = met_fits; own = refl; serials = omega arith; r1 = met_valid; r2 = other }

pub met_interfere : RequiresInterfere two_held [] 0 both
met_interfere = record { r1 = met_valid; r2 = by_name two_held (holds_of both) met_authorized }

pub met_environment : RequiresEnvironment two_held [] 0 both
met_environment = record { r1 = met_valid; r2 = by_name two_held (holds_of both) met_authorized }

pub met_environment_for_borrows : RequiresEnvironmentForBorrows two_held [] 0 both
met_environment_for_borrows = record { r1 = met_valid; r2 = met_authorized }

pub met_acquire_preserving_borrows : RequiresAcquirePreservingBorrows half_held mine 1
met_acquire_preserving_borrows = record { fits = half_fits; short = (refl, own_mine); serials = omega arith; r1 = half_valid; r2 = omega arith; r3 = half_mine }

pub met_drop_preserving_borrows : RequiresDropPreservingBorrows two_held mine (lease_of 1 2 5)
unfolding holds_of is_in same_hold
met_drop_preserving_borrows =
    record { fits = met_fits; short = (refl, own_two); own = refl; r1 = met_valid; r2 = other; r3 = two_mine; r4 = λ e. differ e }

pub met_foreign_release_between_attempts : RequiresForeignReleaseBetweenAttempts two_held mine (lease_of 1 2 5)
unfolding holds_of is_in same_hold
met_foreign_release_between_attempts =
    record { fits = met_fits; short = (refl, own_two); own = refl; serials = omega arith; r1 = met_valid; r2 = other; r3 = two_mine; r4 = λ e. differ e }

pub met_try_lock : RequiresTryLock half_held [] 0 mine 1
met_try_lock = record { fits = half_fits; r1 = half_valid; r2 = omega arith; r3 = half_mine }

pub met_other_mutex_preserves_leases : RequiresOtherMutexPreservesLeases half_held [] 0 mine 1
met_other_mutex_preserves_leases = record { fits = half_fits; r1 = half_valid; r2 = half_mine; r3 = omega arith }

pub met_transactional_try_lock_bucket : RequiresTransactionalTryLockBucket half_held (0 ∷ []) [] 0 mine 0 1
met_transactional_try_lock_bucket = record { fits = half_fits; r1 = half_valid; r2 = omega arith; r3 = half_mine; r4 = all_there }

pub met_acquire_index_bucket : RequiresAcquireIndexBucket half_held (0 ∷ []) [] 0 mine 0 1
met_acquire_index_bucket = record { fits = half_fits; r1 = half_valid; r2 = omega arith; r3 = half_mine; r4 = all_there }

pub met_release_all : RequiresReleaseAll two_held [] 0 both
unfolding shape_fits head_fits health_fits holds_of
met_release_all = record { scripted = (refl, (refl, (refl, tt))); few = refl; own = met_own; r1 = met_valid; r2 = met_authorized; r3 = apart }
  where
    apart : (i j : ℕ) → i < j → j < length (holds_of both) → lease_key (hold_at (holds_of both) i) ≡ lease_key (hold_at (holds_of both) j) → ⊥
    apart zero zero l k e = absurd (omega arith)
    apart zero (suc zero) l k e = omega arith
    apart zero (suc (suc j)) l k e = absurd (omega arith)
    apart (suc i) zero l k e = absurd (omega arith)
    apart (suc i) (suc zero) l k e = absurd (omega arith)
    apart (suc i) (suc (suc j)) l k e = absurd (omega arith)

pub met_bucket : RequiresBucket half_held (0 ∷ []) [] 0 mine 0 1
unfolding first shape_fits head_fits health_fits registry_fits leases_of holds_of not_live bucket_rules is_live state_at state_of is_free is_held bit_at owner_at
met_bucket = record { checked = refl; inside = omega arith; healthy = refl; r1 = inr (omega arith, omega arith) }

pub met_guards_bucket : RequiresGuardsBucket half_held (0 ∷ []) [] 0 mine 0 1
unfolding first shape_fits head_fits health_fits registry_fits leases_of holds_of not_live bucket_rules is_live state_at state_of is_free is_held bit_at owner_at
met_guards_bucket = record { checked = refl; inside = omega arith; healthy = refl }

pub met_publication_header : RequiresPublicationHeader half_held (0 ∷ []) [] 0 mine 0 1
met_publication_header = record { r1 = omega arith }

pub met_guards_transactional : RequiresGuardsTransactional half_held (0 ∷ []) [] 0 mine 0 1
met_guards_transactional = record { r1 = omega arith }

pub met_guards_acquire_bucket : RequiresGuardsAcquireBucket half_held (0 ∷ []) [] 0 mine 0 1
met_guards_acquire_bucket = record { r1 = omega arith }

pub met_acquire_index_locks : RequiresAcquireIndexLocks half_held (0 ∷ []) [] 0 mine (0 ∷ 1 ∷ []) (7 ∷ 7 ∷ 7 ∷ [])
met_acquire_index_locks = record { r1 = bound }
  where
    bound : keys_valid (0 ∷ []) (0 ∷ 1 ∷ [])
    bound zero l = omega arith
    bound (suc i) l = absurd (omega arith)

-- a held list whose second lease has a serial that its cell has not
pub met_first_bad : FirstBad two_held (0 ∷ 1 ∷ 5 ∷ 1 ∷ 1 ∷ 5 ∷ []) 1
unfolding leases_of holds_of is_live is_in bit_at owner_at state_at state_of is_free is_held
met_first_bad = record { inside = omega arith; own = own; before = before; at = λ a. omega (arith, a.mine.1) }
  where
    own : (j : ℕ) → j ≤ 1 → Own two_held (lease_at (leases_of (0 ∷ 1 ∷ 5 ∷ 1 ∷ 1 ∷ 5 ∷ [])) j)
    own zero l = refl
    own (suc zero) l = refl
    own (suc (suc j)) l = absurd (omega arith)

    before : (j : ℕ) → j < 1 → Live two_held (hold_at (holds_of (0 ∷ 1 ∷ 5 ∷ 1 ∷ 1 ∷ 5 ∷ [])) j)
    before zero l = refl
    before (suc j) l = absurd (omega arith)
