-- Why each premise is there, by computation; then examples that meet the premises of the theorems, so that none speaks of nothing. An arena
-- of one header and two cells.
use Rattle.std.specs.Prelude.{ℕ, zero, suc, ◌<◌, ◌≡◌, refl, List, [], ◌∷◌, ◌++◌, ◌≢◌}
use Rattle.std.proofs.Common.{inl, inr, arith}
use Rattle.model.specs.Log.{Event, by_caller, by_script, took, released}
use Rattle.model.specs.Arena.{head_of, hold_of, holds_of, bit_at, owner_at, set_cell, set_waiters, is_free, is_held, state_of, state_at, is_live, same_hold, is_in, head_fits, shape_fits}
use Rattle.model.specs.Foreign.{flow_of, step_take_of, step_release_of, step_waiters_of, step_health_of, step_of, run_steps_of, boundary_of}
use Rattle.model.specs.Calls.{given, environment_of}
use Rattle.types.specs.declared.Hold.{Hold}
use Rattle.types.specs.declared.State.TheVariants as state
use Rattle.history.specs.World.{World, world_of, Lawful}
use Rattle.history.specs.Items.{try_lock, perform}
use Rattle.history.specs.Tests.{Status, free, held, not_damaged}
use Rattle.swaps.specs.Steps.{Whole, Step, step_words, take_step, release_step, waiters_step, health_step, leaves, dropped, Parted, dropped_in}
use Rattle.swaps.specs.Steps as steps
use Rattle.swaps.specs.Renaming.{flip, renamed_step, renamed_steps, Recast, Retaken}
use Rattle.swaps.specs.Renaming as renaming
use Rattle.swaps.specs.Scripts.{script_of, stretch, try_locks}
use Rattle.swaps.specs.Statements.{SameEitherWay, OwnersExchanged, Swapped, AlikeRenamed, StepsRenamed, ReplyRenamed}
use Rattle.swaps.proofs.Theorems.{two_releases, take_release, two_takes, other_kinds, any_steps, idle_take, logs_recast, steps_retaken, calls_rescripted, environment_retaken}
use Rattle.swaps.specs.Examples.{arena, empty, one_held, both_held, nearly_spent, damaged, take_0, take_1, release_0, Told, left_by, morning, other_morning, noon, other_noon, before, evening, other_evening}

-- ---- why the cells differ

-- one cell: released and then taken, both legal; the other way round the take is dropped, and the cell ends free
one_cell : Told [] one_held release_0 take_0 0 0 (arena 3 (1 ∷ 2 ∷ 0 ∷ 0 ∷ 0 ∷ 0 ∷ []))
    × Told [] one_held take_0 release_0 1 0 (arena 2 (0 ∷ 0 ∷ 0 ∷ 0 ∷ 0 ∷ 0 ∷ []))
unfolding step_of step_take_of step_release_of bit_at owner_at set_cell is_free is_held state_of state_at is_live same_hold is_in
one_cell = ((refl, (refl, refl)), (refl, (refl, refl)))

-- one cell: the release is legal only behind the take
one_order : Told [] empty take_0 release_0 0 0 (arena 2 (0 ∷ 0 ∷ 0 ∷ 0 ∷ 0 ∷ 0 ∷ []))
    × Told [] empty release_0 take_0 1 0 (arena 2 (1 ∷ 1 ∷ 0 ∷ 0 ∷ 0 ∷ 0 ∷ []))
unfolding step_of step_take_of step_release_of bit_at owner_at set_cell is_free is_held state_of state_at is_live same_hold is_in
one_order = ((refl, (refl, refl)), (refl, (refl, refl)))

-- one cell, waiters set twice: the later number stays
one_waiters : Told [] empty (waiters_step 0 5) (waiters_step 0 6) 0 0 (arena 1 (0 ∷ 0 ∷ 6 ∷ 0 ∷ 0 ∷ 0 ∷ []))
    × Told [] empty (waiters_step 0 6) (waiters_step 0 5) 0 0 (arena 1 (0 ∷ 0 ∷ 5 ∷ 0 ∷ 0 ∷ 0 ∷ []))
unfolding step_of step_waiters_of set_waiters
one_waiters = ((refl, (refl, refl)), (refl, (refl, refl)))

-- one header, health set twice: the later number stays
one_header : Told [] empty (health_step 0 0) (health_step 0 1) 0 0 (world_of (head_of 1 2 1 6) (0 ∷ 0 ∷ 0 ∷ 0 ∷ 0 ∷ 0 ∷ []) (1 ∷ []))
    × Told [] empty (health_step 0 1) (health_step 0 0) 0 0 empty
unfolding step_of step_health_of
one_header = ((refl, (refl, refl)), (refl, (refl, refl)))

-- ---- why both takes are legal in the first order

-- the last serial goes to the first of two takes: the second is not legal, and the cells left are not the same
last_serial_lem : Told [] nearly_spent take_0 take_1 0 1 (arena 4_294_967_295 (1 ∷ 4_294_967_294 ∷ 0 ∷ 0 ∷ 0 ∷ 0 ∷ []))
    × Told [] nearly_spent take_1 take_0 0 1 (arena 4_294_967_295 (0 ∷ 0 ∷ 0 ∷ 1 ∷ 4_294_967_294 ∷ 0 ∷ []))
unfolding step_of step_take_of bit_at owner_at set_cell is_free
last_serial_lem = ((refl, (refl, refl)), (refl, (refl, refl)))

-- two takes, both legal: the owners are exchanged
owners_exchanged : Told [] empty take_0 take_1 0 0 (arena 3 (1 ∷ 1 ∷ 0 ∷ 1 ∷ 2 ∷ 0 ∷ []))
    × Told [] empty take_1 take_0 0 0 (arena 3 (1 ∷ 2 ∷ 0 ∷ 1 ∷ 1 ∷ 0 ∷ []))
unfolding step_of step_take_of bit_at owner_at set_cell is_free
owners_exchanged = ((refl, (refl, refl)), (refl, (refl, refl)))

-- ---- why no cell is damaged

-- taking cell 0 issues the serial that stands in cell 1, and so mends it; before that its release is dropped
a_damaged_cell : Told [] damaged take_0 (release_step 1 2) 0 0 (arena 3 (1 ∷ 2 ∷ 0 ∷ 0 ∷ 0 ∷ 0 ∷ []))
    × Told [] damaged (release_step 1 2) take_0 1 0 (arena 3 (1 ∷ 2 ∷ 0 ∷ 1 ∷ 2 ∷ 0 ∷ []))
unfolding step_of step_take_of step_release_of bit_at owner_at set_cell is_free is_held state_of state_at is_live same_hold is_in
a_damaged_cell = ((refl, (refl, refl)), (refl, (refl, refl)))

-- ---- why the protected set is fixed

-- nothing protected in one order, (0, 1) in the other: what was legal is dropped
another_set : Told [] one_held take_1 release_0 0 0 (arena 3 (0 ∷ 0 ∷ 0 ∷ 1 ∷ 2 ∷ 0 ∷ []))
    × Told (hold_of 0 1 ∷ []) one_held release_0 take_1 1 0 (arena 3 (1 ∷ 1 ∷ 0 ∷ 1 ∷ 2 ∷ 0 ∷ []))
unfolding step_of step_take_of step_release_of bit_at owner_at set_cell is_free is_held state_of state_at is_live same_hold is_in
another_set = ((refl, (refl, refl)), (refl, (refl, refl)))

-- ---- why releases behind two exchanged takes are renamed, and why protected leases are from before

-- a release that goes on naming serial 1 meets the other cell's: it is dropped
not_renamed : (dropped_in [] empty (take_0 ∷ take_1 ∷ release_0 ∷ []) ≡ 0) × (dropped_in [] empty (take_1 ∷ take_0 ∷ release_0 ∷ []) ≡ 1)
unfolding dropped_in step_of step_take_of step_release_of bit_at owner_at set_cell is_free is_held state_of state_at is_live same_hold is_in
not_renamed = (refl, refl)

-- the lease (0, 1) is protected before serial 1 is issued: the release is dropped in one order, and its renaming is legal in the other
not_older : (dropped_in (hold_of 0 1 ∷ []) empty (take_0 ∷ take_1 ∷ release_0 ∷ []) ≡ 1)
    × (dropped_in (hold_of 0 1 ∷ []) empty (take_1 ∷ take_0 ∷ renamed_steps (flip 1) (release_0 ∷ [])) ≡ 0)
unfolding dropped_in renamed_steps renamed_step flip step_of step_take_of step_release_of bit_at owner_at set_cell is_free is_held state_of state_at is_live same_hold is_in
not_older = (refl, refl)

-- begun between the two steps: each order runs another one
inside_stretch : (left_by (waiters_step 0 5 ∷ waiters_step 1 6 ∷ []) 1 ≡ 0 ∷ 0 ∷ 0 ∷ 0 ∷ 0 ∷ 6 ∷ [])
    × (left_by (waiters_step 1 6 ∷ waiters_step 0 5 ∷ []) 1 ≡ 0 ∷ 0 ∷ 5 ∷ 0 ∷ 0 ∷ 0 ∷ [])
unfolding script_of boundary_of run_steps_of step_of step_waiters_of set_waiters
inside_stretch = (refl, refl)

-- a step moved over an end of boundary belongs to another boundary
over_an_end : (left_by (waiters_step 0 5 ∷ step_words 5 0 0 ∷ []) 0 ≡ 0 ∷ 0 ∷ 5 ∷ 0 ∷ 0 ∷ 0 ∷ [])
    × (left_by (step_words 5 0 0 ∷ waiters_step 0 5 ∷ []) 0 ≡ 0 ∷ 0 ∷ 0 ∷ 0 ∷ 0 ∷ 0 ∷ [])
unfolding script_of boundary_of run_steps_of step_of step_waiters_of set_waiters
over_an_end = (refl, refl)

-- ---- the premises can be met

-- two cells, none damaged
two_cells : (next : ℕ) (t : List ℕ) → Status (bit_at t 0) (owner_at t 0) next → Status (bit_at t 1) (owner_at t 1) next
    → (c : ℕ) → c < 2 → state_at next t c ≡ state.Damaged → ⊥
unfolding state_at
two_cells next t x y zero l e = not_damaged next (bit_at t 0) (owner_at t 0) x e
two_cells next t x y (suc zero) l e = not_damaged next (bit_at t 1) (owner_at t 1) y e
two_cells next t x y (suc (suc c)) l e = omega arith

whole_empty : Whole empty
unfolding head_fits shape_fits bit_at owner_at
whole_empty = record { fits = refl; undamaged = two_cells 1 empty.table (free refl refl) (free refl refl) }

whole_held : Whole one_held
unfolding head_fits shape_fits bit_at owner_at
whole_held = record { fits = refl; undamaged = two_cells 2 one_held.table (held refl (omega arith) (omega arith)) (free refl refl) }

whole_both : Whole both_held
unfolding head_fits shape_fits bit_at owner_at
whole_both =
    record {
      fits = refl;
      undamaged = two_cells 3 both_held.table (held refl (omega arith) (omega arith)) (held refl (omega arith) (omega arith));
    }

apart : ◌≢◌ {A = ℕ} 0 1
apart e = omega arith

-- cell 1 is taken, cell 0 is released: either way
take_and_release : SameEitherWay [] one_held take_1 release_0
unfolding step_of step_take_of step_release_of bit_at owner_at set_cell is_free is_held state_of state_at is_live same_hold is_in
take_and_release = take_release 1 0 0 1 (λ e. omega arith) [] one_held whole_held (record { first_legal = refl; second_legal = refl })

-- both cells are taken
both_taken : OwnersExchanged [] empty take_0 take_1 0 1
unfolding step_of step_take_of bit_at owner_at set_cell is_free
both_taken = two_takes [] empty 0 0 1 0 whole_empty apart (record { first_legal = refl; second_legal = refl })

-- both are released
two_released : SameEitherWay [] both_held release_0 (release_step 1 2)
unfolding step_of step_release_of bit_at owner_at set_cell is_held state_of state_at is_live same_hold is_in is_free
two_released = two_releases 0 1 1 2 apart [] both_held whole_both (record { first_legal = refl; second_legal = refl })

-- cell 0 is held, so its take is dropped either way
one_taken : Swapped [] one_held take_0 take_1
unfolding step_of step_take_of bit_at owner_at set_cell is_free
one_taken = idle_take [] one_held 0 0 1 0 apart (inl refl)

-- 7 is no kind: it is dropped either way
unknown_beside : Swapped [] one_held (step_words 7 0 0) take_0
unknown_beside = any_steps [] one_held (step_words 7 0 0) take_0 whole_held (other_kinds (step_words 7 0 0) take_0 (inr (omega arith)))

morning_lawful : Lawful empty morning
unfolding bit_at owner_at set_cell is_free is_held state_of state_at is_live
morning_lawful = (((omega arith, refl), (refl, omega arith)), (((omega arith, refl), (refl, omega arith)), (refl, tt)))

morning_recast : Recast morning other_morning
unfolding flip
morning_recast = renaming.two_takes {a = by_caller} {b = by_script} {c = 0} {d = 1} {n = 1} {es = released by_caller 0 1 ∷ []} apart

morning_renamed : AlikeRenamed empty morning other_morning
morning_renamed = logs_recast empty morning other_morning whole_empty morning_recast morning_lawful

release_take_parted : Parted release_0 take_1
release_take_parted =
    record { one_take = λ x y. omega arith; on_bits = λ x y e. omega arith; on_waiters = λ x y. omega arith; on_health = λ x y. omega arith }

noon_retaken : Retaken [] empty noon other_noon
unfolding flip renamed_steps renamed_step step_of step_take_of step_release_of bit_at owner_at set_cell is_free is_held state_of state_at is_live same_hold is_in
noon_retaken =
    renaming.onward (renaming.behind (renaming.behind (renaming.two_takes apart refl refl)))
    (renaming.onward (renaming.behind (renaming.neighbours release_take_parted)) (renaming.two_takes apart refl refl))

noon_renamed : StepsRenamed [] empty noon other_noon
noon_renamed = steps_retaken [] empty noon other_noon whole_empty tt noon_retaken

waiters_release_parted : Parted (waiters_step 1 0) release_0
waiters_release_parted =
    record { one_take = λ x y. omega arith; on_bits = λ x y. absurd (neither x); on_waiters = λ x y. omega arith; on_health = λ x y. omega arith }
  where
    neither : steps.OnBit (waiters_step 1 0) → ⊥
    neither (inl x) = omega arith
    neither (inr x) = omega arith

evening_same : (perform one_held (try_lock (script_of (before ++ (other_evening ++ before))) 0 [] 1)).seen
    ≡ (perform one_held (try_lock (script_of (before ++ (evening ++ before))) 0 [] 1)).seen
evening_same =
    calls_rescripted one_held (try_lock (script_of (before ++ (evening ++ before))) 0 [] 1) (try_lock (script_of (before ++ (other_evening ++ before))) 0 [] 1) whole_held
    (try_locks
    (stretch before evening other_evening before ((λ e. omega arith), ((λ e. omega arith), tt)) (steps.neighbours waiters_release_parted) (inl (omega arith))))

-- the list of noon as a script: an `environment` over it
noon_environment : ReplyRenamed empty (environment_of empty.head empty.table empty.health (script_of ([] ++ (noon ++ before))) 0 []).seen
    (environment_of empty.head empty.table empty.health (script_of ([] ++ (other_noon ++ before))) 0 []).seen
unfolding holds_of
noon_environment = environment_retaken empty [] [] noon other_noon before whole_empty ((λ e. omega arith), ((λ e. omega arith), ((λ e. omega arith), ((λ e. omega arith), tt)))) refl tt noon_retaken
