-- The statements at work in document 01's arena: "H 2, B 4, registry 0, 1, 1, first serial 1, empty script"; the boot number is 5. Their premises are met.
use Rattle.std.specs.Prelude.{ℕ, ◌≤◌, ◌<◌, ◌≡◌, refl, List, [], ◌∷◌, ◌++◌, replicate}
use Rattle.std.proofs.Common.{inl, inr, arith}
use Rattle.model.specs.Log.{Event, by_caller, took}
use Rattle.model.specs.Arena.{head_of, bit_at, owner_at, waiters_at, set_cell, is_free, is_held, state_of, state_at, is_live, leases_of, holds_of, words_of, same_hold, is_in, head_fits, shape_fits, health_fits, registry_fits}
use Rattle.model.specs.Refusals.{first}
use Rattle.model.specs.Checks.{not_live, bad_bindings, locks_rules, not_releasable, release_rules}
use Rattle.model.specs.Foreign.{run_steps_of, boundary_of}
use Rattle.model.specs.Lock.{hold_at, take_of, late_stage_of, second_stage_of, lock_of, find_of, attempt_of, spin_of, pause_of, retry_of, give_back_of, rollback_of, locks_of}
use Rattle.model.specs.Calls.{counts_of, release_all_of}
use Rattle.model.specs.Sorted.{cells_sorted, merge_of, merged_of, sort_of, sorted_of, cells_from, first_asking, keys_for, first_key, hold_on, shared_of, sorted_locks_of, acquire_sorted_of}
use Rattle.types.specs.declared.Answer.TheVariants.{Done, AllGranted, Refused, RefusedAt}
use Rattle.types.specs.declared.Refusal.TheVariants.{TooMany, BadHeader, Poisoned, Repeated}
use Rattle.laws.specs.Checks.{lease_in}
use Rattle.history.specs.World.{World, world_of, Live}
use Rattle.history.specs.Items.{Call, acquire_sorted, release_all, says, perform}
use Rattle.history.specs.Statements.{answers, buffer_in, leaves, log_of}
use Rattle.sorted_theory.specs.Statements.{RefusedLater}
use Rattle.sorted_theory.proofs.Theorems.{shares, serials_by_cell, taken_rising, each_key_live, keys_first, later_position, fourteen, once_done}
use Rattle.sorted_theory.specs.Examples.{prepared, registry, mixed, buffer, mixed_call, sixty_five, sick, sick_keys}

-- three cells, three attempts of three boundaries; each key's lease in the caller's order
pub mixed_granted : (perform prepared mixed_call).seen.1 ≡ says AllGranted (counts_of 3 9 0 0) 0 (5 ∷ 3 ∷ 5 ∷ 3 ∷ 2 ∷ 5 ∷ 5 ∷ 3 ∷ 5 ∷ 0 ∷ 1 ∷ 5 ∷ [])
unfolding perform bit_at owner_at waiters_at set_cell is_free is_held state_of state_at is_live leases_of holds_of words_of same_hold is_in head_fits shape_fits health_fits registry_fits first run_steps_of boundary_of take_of late_stage_of second_stage_of lock_of find_of attempt_of spin_of pause_of retry_of give_back_of rollback_of locks_of not_live bad_bindings locks_rules merge_of merged_of sort_of sorted_of cells_from first_asking keys_for first_key hold_on shared_of sorted_locks_of acquire_sorted_of
mixed_granted = refl

mixed_answer : answers prepared mixed_call ≡ AllGranted
unfolding perform bit_at owner_at waiters_at set_cell is_free is_held state_of state_at is_live leases_of holds_of words_of same_hold is_in head_fits shape_fits health_fits registry_fits first run_steps_of boundary_of take_of late_stage_of second_stage_of lock_of find_of attempt_of spin_of pause_of retry_of give_back_of rollback_of locks_of not_live bad_bindings locks_rules merge_of merged_of sort_of sorted_of cells_from first_asking keys_for first_key hold_on shared_of sorted_locks_of acquire_sorted_of
mixed_answer = refl

-- `shares`: positions 0 and 2; `serials_by_cell`, `taken_rising`: position 3 before position 0; `each_key_live`
pub mixed_shares : let words = buffer_in (perform prepared mixed_call) in
    let ls = holds_of words in
    (lease_in words 0 ≡ lease_in words 2) × ((hold_at ls 3).serial < (hold_at ls 0).serial)
    × ((x y z : List Event) × (log_of prepared mixed_call ≡ x ++ (took by_caller 0 (hold_at ls 3).serial ∷ (y ++ (took by_caller 5 (hold_at ls 0).serial ∷ z)))))
    × Live (leaves prepared mixed_call) (hold_at ls 1)
mixed_shares = (
  shares prepared registry [] 0 [] mixed buffer 0 2 mixed_answer (omega arith) (omega arith) refl,
  serials_by_cell prepared registry [] 0 [] mixed buffer 3 0 mixed_answer (omega arith) (omega arith) (omega arith),
  taken_rising prepared registry [] 0 [] mixed buffer 3 0 mixed_answer (omega arith) (omega arith) (omega arith),
  (each_key_live prepared registry [] 0 [] mixed buffer 1 mixed_answer (omega arith)).1,
)

-- `fourteen`: the buffer as it is, given to `release_all`, is refused at position 2
pub mixed_fourteen : answers (leaves prepared mixed_call) (release_all [] 0 (buffer_in (perform prepared mixed_call))) ≡ Refused (Repeated 2)
unfolding perform bit_at owner_at waiters_at set_cell is_free is_held state_of state_at is_live leases_of holds_of words_of same_hold is_in head_fits shape_fits health_fits registry_fits first run_steps_of boundary_of take_of late_stage_of second_stage_of lock_of find_of attempt_of spin_of pause_of retry_of give_back_of rollback_of locks_of not_live bad_bindings locks_rules not_releasable release_rules release_all_of merge_of merged_of sort_of sorted_of cells_from first_asking keys_for first_key hold_on shared_of sorted_locks_of acquire_sorted_of
mixed_fourteen = refl

pub mixed_repeats : (j : ℕ) × (j ≤ 2) × (answers (leaves prepared mixed_call) (release_all [] 0 (buffer_in (perform prepared mixed_call))) ≡ Refused (Repeated j))
mixed_repeats = let x = fourteen prepared registry [] 0 [] mixed buffer 0 2 mixed_answer (omega arith) (omega arith) refl in (x.0, x.1, x.4)

-- each lease once, it is done
pub mixed_released : answers (leaves prepared mixed_call) (release_all [] 0 (5 ∷ 3 ∷ 5 ∷ 3 ∷ 2 ∷ 5 ∷ 0 ∷ 1 ∷ 5 ∷ [])) ≡ Done
unfolding perform bit_at owner_at waiters_at set_cell is_free is_held state_of state_at is_live leases_of holds_of words_of same_hold is_in head_fits shape_fits health_fits registry_fits first run_steps_of boundary_of take_of late_stage_of second_stage_of lock_of find_of attempt_of spin_of pause_of retry_of give_back_of rollback_of locks_of not_live bad_bindings locks_rules not_releasable release_rules release_all_of merge_of merged_of sort_of sorted_of cells_from first_asking keys_for first_key hold_on shared_of sorted_locks_of acquire_sorted_of
mixed_released = refl

-- `once_done` says so too
pub mixed_once : answers (leaves prepared mixed_call) (release_all [] 0 (words_of 5 (shared_of (holds_of (buffer_in (perform prepared mixed_call))) (cells_sorted 4 registry mixed)))) ≡ Done
mixed_once = once_done prepared registry [] 0 [] mixed buffer mixed_answer

pub too_many_typed : perform prepared sixty_five ≡ record { seen = (prepared, says (Refused TooMany) (counts_of 0 0 0 0) 0 (replicate 195 9)); log = [] }
unfolding perform leases_of holds_of head_fits shape_fits health_fits registry_fits first not_live locks_rules acquire_sorted_of
too_many_typed = refl

-- `keys_first`: header 7 at position 1, whose bucket is too high as well
pub bad_header_first : perform prepared (acquire_sorted (0 ∷ 7 ∷ []) [] 0 [] (0 ∷ 3 ∷ 1 ∷ 4 ∷ []) (9 ∷ 9 ∷ 9 ∷ 9 ∷ 9 ∷ 9 ∷ [])) ≡ record { seen = (prepared, says (RefusedAt (BadHeader 7) 1) (counts_of 0 0 0 0) 0 (9 ∷ 9 ∷ 9 ∷ 9 ∷ 9 ∷ 9 ∷ [])); log = [] }
unfolding perform leases_of holds_of head_fits shape_fits health_fits registry_fits first not_live bad_bindings locks_rules first_key acquire_sorted_of
bad_header_first = (keys_first prepared (0 ∷ 7 ∷ []) [] 0 [] (0 ∷ 3 ∷ 1 ∷ 4 ∷ []) (9 ∷ 9 ∷ 9 ∷ 9 ∷ 9 ∷ 9 ∷ []) (BadHeader 7) 1).1 refl (inl refl)

pub sick_refused : answers sick (acquire_sorted registry [] 0 [] sick_keys buffer) ≡ RefusedAt (Poisoned 1) 1
unfolding perform bit_at owner_at waiters_at set_cell is_free is_held state_of state_at is_live leases_of holds_of words_of same_hold is_in head_fits shape_fits health_fits registry_fits first run_steps_of boundary_of take_of late_stage_of second_stage_of lock_of find_of attempt_of spin_of pause_of retry_of give_back_of rollback_of locks_of not_live bad_bindings locks_rules merge_of merged_of sort_of sorted_of cells_from first_asking keys_for first_key hold_on shared_of sorted_locks_of acquire_sorted_of
sick_refused = refl

pub sick_later : RefusedLater 4 registry sick_keys 1 (log_of sick (acquire_sorted registry [] 0 [] sick_keys buffer)) × (buffer_in (perform sick (acquire_sorted registry [] 0 [] sick_keys buffer)) ≡ buffer)
sick_later =
    later_position sick registry [] 0 [] sick_keys buffer (Poisoned 1) 1 sick_refused (λ t. elim t [ inl e ↦ omega arith | inr e ↦ omega arith ])
