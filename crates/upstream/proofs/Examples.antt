-- Computed cases: where another cell is damaged, which of upstream's ensures fail and which stand; 7 at a second reading;
-- others on a damaged cell.
-- ---- another cell is damaged
use Rattle.std.specs.Prelude.{ℕ, ◌≡◌, refl, [], ◌∷◌}
use Rattle.std.proofs.Common.{arith}
use Rattle.model.specs.Arena.{head_of, lease_of, leases_of, holds_of, bit_at, owner_at, waiters_at, set_cell, is_in, is_free, is_held, state_of, state_at, is_live, head_fits, shape_fits, health_fits, registry_fits, set_waiters}
use Rattle.model.specs.Refusals.{first}
use Rattle.model.specs.Checks.{not_live, cell_rules, script_rules, lock_rules, bucket_rules}
use Rattle.model.specs.Foreign.{step_health_of, step_of, run_steps_of, boundary_of, step_take_of, step_release_of, step_waiters_of}
use Rattle.model.specs.Lock.{take_of, late_stage_of, second_stage_of, lock_of, find_of, attempt_of, retry_of, pause_of, spin_of}
use Rattle.model.specs.Calls.{acquire_of, try_acquire_of, try_lock_of, transactional_of, acquire_bucket_of, environment_of, counts_of}
use Rattle.types.specs.declared.Answer.TheVariants.{Granted, Refused, Done}
use Rattle.types.specs.declared.Refusal.TheVariants.{Poisoned}
use Rattle.history.specs.World.{world_of}
use Rattle.history.specs.Items.{try_acquire, try_lock, transactional, perform, environment, acquire_bucket, says}
use Rattle.history.specs.Statements.{answers, leaves}
use Rattle.history.specs.Tests.{held as held_by}
use Rattle.upstream.specs.Vocabulary.{cell, Authority, cells, ValidCell, valid, physical_domain}
use Rattle.upstream.specs.Premises.{valid_at}
use Rattle.upstream.proofs.Bridge.{status_valid}
use Rattle.upstream.specs.Damage.{waited}
use Rattle.upstream.proofs.Damage.{still_damaged}
use Rattle.upstream.specs.Examples.{half_broken, owner_ahead, lone_free}

pub granted_beside : (answers half_broken (try_acquire 0) ≡ Granted (lease_of 0 1 5)) × (answers half_broken (try_lock [] 0 [] 0) ≡ Granted (lease_of 0 1 5))
    × (answers half_broken (transactional (0 ∷ []) [] 0 [] 0 0) ≡ Granted (lease_of 0 1 5))
unfolding perform try_acquire_of cell_rules acquire_of try_lock_of transactional_of lock_rules script_rules bucket_rules registry_fits not_live first shape_fits head_fits health_fits leases_of holds_of boundary_of run_steps_of
    lock_of second_stage_of take_of late_stage_of find_of attempt_of waiters_at bit_at owner_at set_cell state_at state_of is_free is_held
granted_beside = (refl, refl, refl)

never_sound : (n : ℕ) → ValidCell n (cell 1 0) → ⊥
never_sound n v = omega (arith, v.owned.1 refl)

pub not_valid_beside : (valid (leaves half_broken (try_acquire 0)) → ⊥) × (valid (leaves half_broken (try_lock [] 0 [] 0)) → ⊥)
    × (valid (leaves half_broken (transactional (0 ∷ []) [] 0 [] 0 0)) → ⊥)
unfolding perform try_acquire_of cell_rules acquire_of try_lock_of transactional_of lock_rules script_rules bucket_rules registry_fits not_live first shape_fits head_fits health_fits leases_of holds_of boundary_of run_steps_of
    lock_of second_stage_of take_of late_stage_of find_of attempt_of waiters_at bit_at owner_at set_cell state_at state_of is_free is_held
not_valid_beside = (
  still_damaged half_broken (try_acquire 0) 1 never_sound (omega arith),
  still_damaged half_broken (try_lock [] 0 [] 0) 1 never_sound (omega arith),
  still_damaged half_broken (transactional (0 ∷ []) [] 0 [] 0 0) 1 never_sound (omega arith),
)

pub comes_valid : (valid_at owner_ahead 1 → ⊥) × valid_at (leaves owner_ahead (try_acquire 0)) 1
    × (cells (leaves owner_ahead (try_acquire 0)) 0 ≡ cell 1 1) × (cells (leaves owner_ahead (try_acquire 0)) 1 ≡ cell 1 1)
unfolding perform try_acquire_of cell_rules acquire_of first shape_fits head_fits take_of bit_at owner_at set_cell state_at state_of is_free is_held
comes_valid = (λ v. omega (arith, v.below (omega arith)), status_valid 2 (cell 1 1) (held_by refl (omega arith) (omega arith)), refl, refl)

pub granted_inside : (physical_domain (0 ∷ 9 ∷ []) lone_free → ⊥) × (answers lone_free (transactional (0 ∷ 9 ∷ []) [] 0 [] 0 0) ≡ Granted (lease_of 0 1 5))
unfolding perform transactional_of bucket_rules registry_fits not_live first shape_fits head_fits health_fits leases_of holds_of boundary_of run_steps_of
    lock_of second_stage_of take_of late_stage_of find_of attempt_of waiters_at bit_at owner_at set_cell state_at state_of is_free is_held
granted_inside = (λ p. omega (arith, (p 1 0 (omega arith) (omega arith)).0), refl)

-- ---- 7 at the second reading: the header is healthy at first, and the third boundary poisons it

pub poisoned_late : answers lone_free (transactional (0 ∷ []) (5 ∷ 0 ∷ 0 ∷ 5 ∷ 0 ∷ 0 ∷ 4 ∷ 0 ∷ 1 ∷ []) 0 [] 0 0) ≡ Refused (Poisoned 0)
unfolding perform transactional_of bucket_rules registry_fits not_live first shape_fits head_fits health_fits leases_of holds_of boundary_of run_steps_of step_of step_health_of
    lock_of second_stage_of take_of late_stage_of find_of attempt_of waiters_at bit_at owner_at set_cell state_at state_of is_free is_held is_in is_live
poisoned_late = refl

-- the same in the second attempt of the retrying call: the first finds waiters, and the boundary behind it poisons the header
pub poisoned_later : answers lone_free (acquire_bucket (0 ∷ []) (3 ∷ 0 ∷ 1 ∷ 5 ∷ 0 ∷ 0 ∷ 4 ∷ 0 ∷ 1 ∷ []) 0 [] 0 0) ≡ Refused (Poisoned 0)
unfolding perform acquire_bucket_of bucket_rules registry_fits not_live first shape_fits head_fits health_fits leases_of holds_of boundary_of run_steps_of step_of step_health_of step_waiters_of
    lock_of second_stage_of take_of late_stage_of find_of attempt_of retry_of pause_of spin_of waiters_at set_waiters bit_at owner_at set_cell state_at state_of is_free is_held is_in is_live
poisoned_later = refl

-- ---- others, on a damaged cell: a take and a release are dropped and counted, waiters are set

pub dropped_beside : (perform half_broken (environment (1 ∷ 1 ∷ 0 ∷ 2 ∷ 1 ∷ 1 ∷ []) 0 [])).seen ≡ (half_broken, says Done (counts_of 0 1 0 2) 2 [])
unfolding perform environment_of script_rules not_live first shape_fits head_fits health_fits leases_of holds_of boundary_of run_steps_of step_of step_take_of step_release_of
    bit_at owner_at state_at state_of is_free is_held is_in is_live
dropped_beside = refl

pub waited_beside : (perform half_broken (environment (3 ∷ 1 ∷ 7 ∷ []) 0 [])).seen ≡ waited half_broken 1 7
unfolding perform environment_of script_rules not_live first shape_fits head_fits health_fits leases_of holds_of boundary_of run_steps_of step_of step_waiters_of
waited_beside = refl
