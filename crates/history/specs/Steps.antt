-- The model's foreign steps and steps of a lock: the log of each is lawful, leads to the world it leaves, and spares the protected leases.
use Prim.Native.Nat.{ℕ, zero, suc, ◌+◌, ◌-◌, ◌%◌, ◌≤◌, ◌<◌}
use Rattle.std.specs.Prelude.{◌≡◌, List, [], ◌∷◌, ◌++◌, ◌&&◌, ltb, eqb}
use Rattle.std.proofs.Math.Path.{refl, subst}
use Rattle.std.proofs.Common.{sym, ap, ◌∙◌, arith}
use Rattle.std.proofs.Math.Bool.{not}
use Rattle.std.proofs.Math.Dec.{leb}
use Rattle.types.specs.Checks.{Found}
use borrow.Author.Tests.{ltb-true, leb-true, not-true}
use Rattle.model.specs.Log.{Made, Event, by_caller, by_script, attempt_begun, boundary_run, yielded, spun, step_dropped, took, released, waiters_set, health_set}
use Rattle.model.specs.Arena.{serial_remains, cells_of, spent_to, hold_of, header_of, is_poisoned, bit_at, owner_at, waiters_at, is_free, is_live, is_in, state_at}
use Rattle.model.specs.Foreign.{steps_in, kind_at, place_at, number_at, step_take_of, step_release_of, step_waiters_of, step_health_of, step_of, run_steps_of, boundary_of, flow_of}
use Rattle.model.specs.Lock.{take_in, take_of, late_stage_of, after_take, second_stage_of, lock_of, outcome_of, find_of, attempt_at, attempt_of, spin_of, pause_of, is_busy, retry_of, run_of}
use Rattle.model.specs.Calls.{given}
use Rattle.types.specs.declared.Flow.{Flow}
use Rattle.types.specs.declared.Head.{Head}
use Rattle.types.specs.declared.Hold.{Hold}
use Rattle.types.specs.declared.Locked.{Locked}
use Rattle.types.specs.declared.Outcome.{Outcome}
use Rattle.types.specs.declared.Outcome.TheVariants as outcome
use Rattle.types.specs.declared.Reason.{Reason}
use Rattle.types.specs.declared.Refusal.{Refusal}
use Rattle.types.specs.declared.Run.{Run}
use Rattle.types.specs.declared.State.{State}
use Rattle.types.specs.declared.State.TheVariants as state
use Rattle.types.specs.declared.Stepped.{Stepped}
use Rattle.types.specs.declared.Take.{Take}
use Rattle.types.specs.declared.Take.TheVariants as taking
use Rattle.types.specs.declared.Took.{Took}
use Rattle.types.specs.declared.Tried.{Tried}
use Rattle.choice.specs.Pick.{both, if_both}
use Rattle.laws.specs.Keys.{find_inside}
use Rattle.history.specs.World.{World, world_of, Live}
use Rattle.history.specs.Tests.{differ, In, in_first, in_left, in_right, is_free_state, if_cases}
use Rattle.history.specs.Events.{Fit, lives, taken_live}
use Rattle.history.specs.Logs.{Kept}

-- the world of a head with this next serial, this table and this health
abbrev pub world_at : Head → ℕ → List ℕ → List ℕ → World
world_at h n t g = world_of (spent_to h n) t g

-- what goes from step to step beside table and health
abbrev pub With : Type 0 → Type 0
With A = A × (List ℕ × List ℕ)

abbrev pub of_step : Head → With Stepped → World
of_step h a = world_at h a.0.next a.1.0 a.1.1

abbrev pub of_flow : Head → With Flow → World
of_flow h a = world_at h a.0.next a.1.0 a.1.1

abbrev pub of_locked : Head → With Locked → World
of_locked h a = world_at h a.0.flow.next a.1.0 a.1.1

abbrev pub of_run : Head → With Run → World
of_run h a = world_at h a.0.flow.next a.1.0 a.1.1

abbrev pub of_tried : Head → With Tried → World
of_tried h a = world_at h a.0.run.flow.next a.1.0 a.1.1

abbrev pub of_took : Head → List ℕ → Took × List ℕ → World
of_took h g a = world_at h a.0.next a.1 g

-- ---- what is gained: a lease that is live, whose serial was not yet issued when n was the next

-- of cell c; of any cell
pub data Gained (n : ℕ) (v : World) (c : ℕ) : Outcome → Type 0 where
  gained : (s : ℕ) → Live v (hold_of c s) → n ≤ s → Gained n v c (outcome.Granted (hold_of c s))
  was_busy : {why : Reason} → Gained n v c (outcome.Busy why)
  was_refused : (r : Refusal) → Gained n v c (outcome.Refused r)

pub data Won (n : ℕ) (v : World) : Outcome → Type 0 where
  won : (l : Hold) → Live v l → n ≤ l.serial → Won n v (outcome.Granted l)
  none_yet_lem : {why : Reason} → Won n v (outcome.Busy why)
  no_more : (r : Refusal) → Won n v (outcome.Refused r)
