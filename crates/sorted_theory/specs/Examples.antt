-- The statements at work in document 01's arena: "H 2, B 4, registry 0, 1, 1, first serial 1, empty script"; the boot number is 5. Their premises are met.
use Rattle.std.specs.Prelude.{ℕ, ◌≤◌, ◌<◌, ◌≡◌, refl, List, [], ◌∷◌, ◌++◌, replicate}
use Rattle.std.proofs.Common.{inl, inr, arith}
use Rattle.model.specs.Log.{Event, by_caller, took}
use Rattle.model.specs.Arena.{head_of, bit_at, owner_at, waiters_at, set_cell, is_free, is_held, state_of, state_at, is_live, leases_of, holds_of, words_of, same_hold, is_in, head_fits, shape_fits, health_fits, registry_fits}
use Rattle.model.specs.Refusals.{first}
use Rattle.model.specs.Checks.{not_live, bad_bindings, locks_rules, not_releasable, release_rules}
use Rattle.model.specs.Foreign.{run_steps_of, boundary_of}
use Rattle.model.specs.Lock.{hold_at, take_of, late_stage_of, second_stage_of, lock_of, find_of, attempt_of, spin_of, pause_of, retry_of, give_back_of, rollback_of, locks_of}
use Rattle.model.specs.Calls.{counts_of, release_all_of}
use Rattle.model.specs.Sorted.{cells_sorted, merge_of, merged_of, sort_of, sorted_of, cells_from, first_asking, keys_for, first_key, hold_on, shared_of, sorted_locks_of, acquire_sorted_of}
use Rattle.types.specs.declared.Answer.TheVariants.{Done, AllGranted, Refused, RefusedAt}
use Rattle.types.specs.declared.Refusal.TheVariants.{TooMany, BadHeader, Poisoned, Repeated}
use Rattle.laws.specs.Checks.{lease_in}
use Rattle.history.specs.World.{World, world_of, Live}
use Rattle.history.specs.Items.{Call, acquire_sorted, release_all, says, perform}
use Rattle.history.specs.Statements.{answers, buffer_in, leaves, log_of}
use Rattle.sorted_theory.specs.Statements.{RefusedLater}

abbrev pub prepared : World
prepared = world_of (head_of 2 4 1 5) (replicate 24 0) (replicate 2 0)

abbrev pub registry : List ℕ
registry = 0 ∷ 1 ∷ 1 ∷ []

-- cells 5, 3, 5 and 0: falling, and a double by two bindings of one header
abbrev pub mixed : List ℕ
mixed = 1 ∷ 1 ∷ 0 ∷ 3 ∷ 2 ∷ 1 ∷ 0 ∷ 0 ∷ []

abbrev pub buffer : List ℕ
buffer = 9 ∷ 9 ∷ 9 ∷ 9 ∷ 9 ∷ 9 ∷ 9 ∷ 9 ∷ 9 ∷ 9 ∷ 9 ∷ 9 ∷ []

abbrev pub mixed_call : Call
mixed_call = acquire_sorted registry [] 0 [] mixed buffer

-- "TooMany counts keys as typed": sixty-five keys, all of cell 0
abbrev pub sixty_five : Call
sixty_five = acquire_sorted registry [] 0 [] (replicate 130 0) (replicate 195 9)

-- `later_position`: header 1 is poisoned, its cell 5 asked for at positions 1 and 2; cells 0 and 2 were locked before, and are given back
abbrev pub sick : World
sick = world_of (head_of 2 4 1 5) (replicate 24 0) (0 ∷ 1 ∷ [])

abbrev pub sick_keys : List ℕ
sick_keys = 0 ∷ 2 ∷ 2 ∷ 1 ∷ 1 ∷ 1 ∷ 0 ∷ 0 ∷ []
