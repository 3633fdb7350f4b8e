-- The definitions' own steps are those of `Steps`.
-- ---- a compare-and-set
use Prim.Native.Nat.{ℕ, zero, suc, ◌+◌, ◌*◌, ◌-◌, ◌/◌, ◌≤◌, ◌<◌}
use Rattle.std.specs.Prelude.{◌≡◌, Bool, ◌&&◌, ◌≢◌, ltb, eqb, length, get_or, take, if◌then◌else◌}
use Rattle.std.proofs.Math.Path.{refl}
use Rattle.std.proofs.Common.{sym, ◌∙◌, arith}
use mathlib.Core.List.{List, [], ◌∷◌, ◌++◌, append-nil}
use Rattle.std.proofs.Math.Bool.{true, false, not}
use Rattle.std.proofs.Math.Logic.{inl, inr}
use Rattle.std.proofs.Math.Dec.{leb}
use borrow.Author.Tests.{ltb-true, ltb-false, leb-true, eqb-true, eqb-false, lt-ltb, le-leb, eq-eqb, not-true}
use Rattle.choice.specs.Pick.{both}
use Rattle.model.specs.Log.{Made, gives, by_caller, by_script, attempt_begun, step_dropped, took, released, waiters_set, health_set}
use Rattle.model.specs.Arena.{last_serial, serial_remains, spent_to, cells_of, header_of, is_poisoned, bit_at, owner_at, waiters_at, set_cell, set_waiters, state_at, is_free, is_live, is_in, hold_of}
use Rattle.model.specs.Foreign.{flow_of, step_take_of, step_release_of, step_waiters_of, step_health_of, step_of, run_steps_of, boundary_of}
use Rattle.model.specs.Lock.{take_in, take_of, outcome_of, answer_of, locked_of, give_up_of, late_stage_of, after_take, second_stage_of, lock_of, give_back_of, hold_at, run_of}
use Rattle.model.specs.Calls.{given}
use Rattle.types.specs.declared.Flow.{Flow}
use Rattle.types.specs.declared.Head.{Head}
use Rattle.types.specs.declared.Hold.{Hold}
use Rattle.types.specs.declared.Locked.{Locked}
use Rattle.types.specs.declared.Outcome.TheVariants as outcome
use Rattle.types.specs.declared.Reason.TheVariants as reason
use Rattle.types.specs.declared.Refusal.TheVariants as refusal
use Rattle.types.specs.declared.Run.{Run}
use Rattle.types.specs.declared.State.{State}
use Rattle.types.specs.declared.Stepped.{Stepped}
use Rattle.types.specs.declared.Take.{Take}
use Rattle.types.specs.declared.Take.TheVariants as taking
use Rattle.types.specs.declared.Took.{Took}
use Rattle.history.specs.World.{World, world_of}
use Rattle.history.specs.Items.{Says, says}
use Rattle.history.specs.Tests.{Stands, stands, is_free_lem, is_held_lem, is_damaged, if_cases, differ}
use Rattle.pinned.specs.Words.{Is, If◌Then◌Else◌, After, Noting, logged, size, IsFree, IsLive, counted, taken, freed, with_waiters, with_health, StandsIn}
use Rattle.pinned.specs.Steps.{Takes, DoneIf, Step, At, at, Runs, Boundary, releasing, AfterTake, Locks}

-- ---- leases given back, in steps: the first n are still to be released, and protected until then. The boundaries, and where it ends

unfoldable pub ReleasesEach : ℕ → List ℕ → List Hold → (boundaries : ℕ) → At → Made (ℕ × At) → Type 0
ReleasesEach zero script ls n a = Is (logged (n, a) [])
ReleasesEach (suc left) script ls n a =
    let l = get_or ls left (record { cell = 0; serial = 0 }) in
    Noting (released by_caller l.cell l.serial)
    (After (Boundary script (take left ls) (releasing a l.cell)) λ b.
    ReleasesEach left script ls (n + 1) b)
