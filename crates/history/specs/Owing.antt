-- What the caller takes in a log is handed over at its end, or released by the caller later in it. These laws read logs and answers only.
-- ---- logs
use Prim.Native.Nat.{ℕ, zero, suc, ◌+◌, ◌-◌, ◌%◌, ◌≤◌}
use Rattle.std.specs.Prelude.{◌≡◌, refl, ◌&&◌, ◌⊎◌, ltb, eqb, length, take}
use Rattle.std.proofs.Common.{ap, arith, take-suc}
use Rattle.std.proofs.Math.Path.{subst}
use mathlib.Core.List.{List, [], ◌∷◌, ◌++◌, append-nil}
use Rattle.std.proofs.Math.Bool.{true, not}
use Rattle.std.proofs.Math.Logic.{inl, inr}
use Rattle.std.proofs.Math.Dec.{leb}
use Rattle.std.proofs.Math.Seq.{take-length}
use Rattle.types.specs.Checks.{Found}
use Rattle.model.specs.Log.{Made, Event, by_caller, by_script, attempt_begun, boundary_run, yielded, spun, step_dropped, took, released, waiters_set, health_set, held_all_lem, added}
use Rattle.model.specs.Arena.{serial_remains, header_of, is_poisoned, hold_of, bit_at, owner_at, waiters_at, set_cell, is_free, is_live, is_in, state_at}
use Rattle.model.specs.Foreign.{Setting, protecting, steps_in, kind_at, place_at, number_at, step_take_of, step_release_of, step_waiters_of, step_health_of, step_of, run_steps_of, boundary_of, flow_of}
use Rattle.model.specs.Lock.{take_in, take_of, late_stage_of, after_take, second_stage_of, lock_of, outcome_of, find_of, attempt_at, attempt_of, spin_of, pause_of, is_busy, retry_of, run_of, attempt_limit, none_yet, no_hold, hold_at, give_back_of, Locks, rollback_of, after_key, binding_at, bucket_at, locks_of}
use Rattle.types.specs.declared.Flow.{Flow}
use Rattle.types.specs.declared.Hold.{Hold}
use Rattle.types.specs.declared.Locked.{Locked}
use Rattle.types.specs.declared.Outcome.{Outcome}
use Rattle.types.specs.declared.Outcome.TheVariants as outcome
use Rattle.types.specs.declared.Reason.{Reason}
use Rattle.types.specs.declared.Refusal.{Refusal}
use Rattle.types.specs.declared.Run.{Run}
use Rattle.types.specs.declared.State.{State}
use Rattle.types.specs.declared.State.TheVariants as state
use Rattle.types.specs.declared.Stepped.{Stepped}
use Rattle.types.specs.declared.Take.{Take}
use Rattle.types.specs.declared.Take.TheVariants as taking
use Rattle.types.specs.declared.Took.{Took}
use Rattle.types.specs.declared.Tried.{Tried}
use Rattle.choice.specs.Pick.{if_both}
use Rattle.laws.specs.Lists.{words_back}
use Rattle.history.specs.Statements.{HandsOver}
use Rattle.history.specs.Tests.{differ, In, in_first, in_cases, in_left, in_right, in_either, if_cases}
use Rattle.history.specs.Steps.{With}

-- the caller releases this cell with this serial
pub data Frees (l : Hold) : List Event → Type 0 where
  freed_here : (es : List Event) → Frees l (released by_caller l.cell l.serial ∷ es)
  freed_later : (e : Event) {es : List Event} → Frees l es → Frees l (e ∷ es)

-- what an event leaves to do, where L are the leases handed over at the end
abbrev pub Owed : (Hold → Type 0) → Event → List Event → Type 0
Owed L attempt_begun es = Unit {0}
Owed L boundary_run es = Unit {0}
Owed L yielded es = Unit {0}
Owed L spun es = Unit {0}
Owed L step_dropped es = Unit {0}
Owed L (took by_caller c s) es = L (hold_of c s) ⊎ Frees (hold_of c s) es
Owed L (took by_script c s) es = Unit {0}
Owed L (released a c s) es = Unit {0}
Owed L (waiters_set c n) es = Unit {0}
Owed L (health_set i n) es = Unit {0}
Owed L (held_all_lem m) es = Unit {0}
Owed L (added m c v) es = Unit {0}

pub data Settles (L : Hold → Type 0) : List Event → Type 0 where
  none : Settles L []
  more : (e : Event) {es : List Event} → Owed L e es → Settles L es → Settles L (e ∷ es)

abbrev pub Nobody : Hold → Type 0
Nobody l = ⊥

-- ---- foreign steps and boundaries

abbrev pub Silent : {A : Type 0} → Made A → Type 0
Silent m = Settles Nobody m.log

-- ---- a lock

-- what an outcome hands over
abbrev pub Given : Outcome → Hold → Type 0
Given o l = o ≡ outcome.Granted l

abbrev pub of_take : ℕ → Take → Hold → Type 0
of_take c a = Given (outcome_of c a)

abbrev pub of_locked : With Locked → Hold → Type 0
of_locked a = Given a.0.answer

abbrev pub of_tried : With Tried → Hold → Type 0
of_tried a = Given a.0.outcome

abbrev pub of_ended : Locks → Hold → Type 0
of_ended a = HandsOver a.0.answer a.1.1.1
