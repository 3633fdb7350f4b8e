-- Computed cases: where another cell is damaged, which of upstream's ensures fail and which stand; 7 at a second reading;
-- others on a damaged cell.
-- ---- another cell is damaged
use Rattle.std.specs.Prelude.{ℕ, ◌≡◌, refl, [], ◌∷◌}
use Rattle.std.proofs.Common.{arith}
use Rattle.model.specs.Arena.{head_of, lease_of, leases_of, holds_of, bit_at, owner_at, waiters_at, set_cell, is_in, is_free, is_held, state_of, state_at, is_live, head_fits, shape_fits, health_fits, registry_fits, set_waiters}
use Rattle.model.specs.Refusals.{first}
use Rattle.model.specs.Checks.{not_live, cell_rules, script_rules, lock_rules, bucket_rules}
use Rattle.model.specs.Foreign.{step_health_of, step_of, run_steps_of, boundary_of, step_take_of, step_release_of, step_waiters_of}
use Rattle.model.specs.Lock.{take_of, late_stage_of, second_stage_of, lock_of, find_of, attempt_of, retry_of, pause_of, spin_of}
use Rattle.model.specs.Calls.{acquire_of, try_acquire_of, try_lock_of, transactional_of, acquire_bucket_of, environment_of, counts_of}
use Rattle.types.specs.declared.Answer.TheVariants.{Granted, Refused, Done}
use Rattle.types.specs.declared.Refusal.TheVariants.{Poisoned}
use Rattle.history.specs.World.{world_of}
use Rattle.history.specs.Items.{try_acquire, try_lock, transactional, perform, environment, acquire_bucket, says}
use Rattle.history.specs.Statements.{answers, leaves}
use Rattle.history.specs.Tests.{held as held_by}
use Rattle.upstream.specs.Vocabulary.{cell, Authority, cells, ValidCell, valid, physical_domain}
use Rattle.upstream.specs.Premises.{valid_at}
use Rattle.upstream.specs.Damage.{waited}

-- two cells: the first free, the second with bit 1 and no owner. `try_acquire`, `try_lock` and an attempt by key take the first: of what upstream ensures of
-- them `valid(final(authority))` alone fails
abbrev pub half_broken : Authority
half_broken = world_of (head_of 1 2 1 5) (0 ∷ 0 ∷ 0 ∷ 1 ∷ 0 ∷ 0 ∷ []) (0 ∷ [])

-- a cell that is damaged since its owner was never issued can come to be valid when next passes that owner, and then two cells have one owner. Upstream's
-- ensures say nothing against it; `Sound` of crate `history` does, and a salvage mends such a cell
abbrev pub owner_ahead : Authority
owner_ahead = world_of (head_of 1 2 1 5) (0 ∷ 0 ∷ 0 ∷ 1 ∷ 1 ∷ 0 ∷ []) (0 ∷ [])

-- ---- another binding is outside the arena: `physical_domain` fails, and the call on a binding inside is granted

abbrev pub lone_free : Authority
lone_free = world_of (head_of 1 1 1 5) (0 ∷ 0 ∷ 0 ∷ []) (0 ∷ [])
