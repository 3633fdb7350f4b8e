-- Why each premise is there, by computation; then examples that meet the premises of the theorems, so that none speaks of nothing. An arena
-- of one header and two cells.
use Rattle.std.specs.Prelude.{ℕ, zero, suc, ◌<◌, ◌≡◌, refl, List, [], ◌∷◌, ◌++◌, ◌≢◌}
use Rattle.std.proofs.Common.{inl, inr, arith}
use Rattle.model.specs.Log.{Event, by_caller, by_script, took, released}
use Rattle.model.specs.Arena.{head_of, hold_of, holds_of, bit_at, owner_at, set_cell, set_waiters, is_free, is_held, state_of, state_at, is_live, same_hold, is_in, head_fits, shape_fits}
use Rattle.model.specs.Foreign.{flow_of, step_take_of, step_release_of, step_waiters_of, step_health_of, step_of, run_steps_of, boundary_of}
use Rattle.model.specs.Calls.{given, environment_of}
use Rattle.types.specs.declared.Hold.{Hold}
use Rattle.types.specs.declared.State.TheVariants as state
use Rattle.history.specs.World.{World, world_of, Lawful}
use Rattle.history.specs.Items.{try_lock, perform}
use Rattle.history.specs.Tests.{Status, free, held, not_damaged}
use Rattle.swaps.specs.Steps.{Whole, Step, step_words, take_step, release_step, waiters_step, health_step, leaves, dropped, Parted, dropped_in}
use Rattle.swaps.specs.Steps as steps
use Rattle.swaps.specs.Renaming.{flip, renamed_step, renamed_steps, Recast, Retaken}
use Rattle.swaps.specs.Renaming as renaming
use Rattle.swaps.specs.Scripts.{script_of, stretch, try_locks}
use Rattle.swaps.specs.Statements.{SameEitherWay, OwnersExchanged, Swapped, AlikeRenamed, StepsRenamed, ReplyRenamed}

abbrev pub arena : ℕ → List ℕ → World
arena next t = world_of (head_of 1 2 next 6) t (0 ∷ [])

abbrev pub empty : World
empty = arena 1 (0 ∷ 0 ∷ 0 ∷ 0 ∷ 0 ∷ 0 ∷ [])

-- cell 0 is held by serial 1
abbrev pub one_held : World
one_held = arena 2 (1 ∷ 1 ∷ 0 ∷ 0 ∷ 0 ∷ 0 ∷ [])

-- and cell 1 by serial 2
abbrev pub both_held : World
both_held = arena 3 (1 ∷ 1 ∷ 0 ∷ 1 ∷ 2 ∷ 0 ∷ [])

-- one serial is left
abbrev pub nearly_spent : World
nearly_spent = arena 4_294_967_294 (0 ∷ 0 ∷ 0 ∷ 0 ∷ 0 ∷ 0 ∷ [])

-- cell 1 is damaged: its owner was not issued yet
abbrev pub damaged : World
damaged = arena 2 (0 ∷ 0 ∷ 0 ∷ 1 ∷ 2 ∷ 0 ∷ [])

abbrev pub take_0 : Step
take_0 = take_step 0 0

abbrev pub take_1 : Step
take_1 = take_step 1 0

abbrev pub release_0 : Step
release_0 = release_step 0 1

-- the numbers dropped of two steps in this order, and the world left
abbrev pub Told : List Hold → World → Step → Step → ℕ → ℕ → World → Type 0
Told ps w s t x y v = (dropped ps w s ≡ x) × ((dropped ps (leaves ps w s) t ≡ y) × (leaves ps (leaves ps w s) t ≡ v))

-- ---- why a script is shuffled between two ends of boundaries, and not around the place at which a call begins

-- the table that one boundary over these steps leaves, from this place on
abbrev pub left_by : List Step → ℕ → List ℕ
left_by ss place = (boundary_of (given empty.head (script_of ss) []) (flow_of 1 place 0) empty.table empty.health).seen.1.0

-- a log: cells 0 and 1 are taken, and cell 0 is released; with the takes exchanged, the release names serial 2
abbrev pub morning : List Event
morning = took by_caller 0 1 ∷ took by_script 1 2 ∷ released by_caller 0 1 ∷ []

abbrev pub other_morning : List Event
other_morning = took by_script 1 1 ∷ took by_caller 0 2 ∷ released by_caller 0 2 ∷ []

-- a list of steps: cell 0 is taken, released and taken, and both takes are exchanged with the take of cell 1, which so comes first
abbrev pub noon : List Step
noon = take_0 ∷ release_0 ∷ take_0 ∷ take_1 ∷ []

abbrev pub other_noon : List Step
other_noon = take_1 ∷ take_0 ∷ release_step 0 2 ∷ take_0 ∷ []

-- a `try_lock` of cell 1 over a script with two boundaries: in the second, cell 1's waiters and cell 0's release are exchanged
abbrev pub before : List Step
before = step_words 5 0 0 ∷ []

abbrev pub evening : List Step
evening = waiters_step 1 0 ∷ release_0 ∷ []

abbrev pub other_evening : List Step
other_evening = release_0 ∷ waiters_step 1 0 ∷ []
