-- Calls over two scripts whose boundaries are alike: the same to the end. Each definition is walked through once, stage by stage.
use Prim.Native.Nat.{ℕ, zero, suc, ◌+◌, ◌%◌}
use Rattle.std.specs.Prelude.{◌≡◌, Bool, true, false, eqb, length, if◌then◌else◌}
use Rattle.std.proofs.Math.Path.{refl}
use mathlib.Core.List.{List, [], ◌∷◌, ◌++◌}
use Rattle.std.proofs.Math.ListN.{take}
use Rattle.types.specs.Checks.{Found}
use Rattle.model.specs.Log.{Made}
use Rattle.model.specs.Arena.{header_of, is_poisoned, waiters_at, set_cell, hold_of}
use Rattle.model.specs.Foreign.{flow_of, boundary_of}
use Rattle.model.specs.Lock.{take_of, after_take, late_stage_of, second_stage_of, lock_of, run_of, find_of, attempt_at, attempt_of, spin_of, pause_of, is_busy, retry_of, hold_at, give_back_of, rollback_of, after_key, binding_at, bucket_at, attempt_limit, none_yet, Locks, locks_of}
use Rattle.model.specs.Calls.{given}
use Rattle.types.specs.declared.Flow.{Flow}
use Rattle.types.specs.declared.Head.{Head}
use Rattle.types.specs.declared.Hold.{Hold}
use Rattle.types.specs.declared.Locked.{Locked}
use Rattle.types.specs.declared.Outcome.{Outcome}
use Rattle.types.specs.declared.Outcome.TheVariants as outcome
use Rattle.types.specs.declared.Reason.{Reason}
use Rattle.types.specs.declared.Run.{Run}
use Rattle.types.specs.declared.Take.{Take}
use Rattle.types.specs.declared.Take.TheVariants as taking
use Rattle.types.specs.declared.Tried.{Tried}
use Rattle.swaps.specs.Boundaries.{Ran, Same}

-- two scripts, and what a call keeps up: then a boundary over either gives one result, and it is kept up by boundaries, takes and releases
pub record Twins (h : Head) (a b : List ℕ) (Good : Ran → Type 0) : Type 0 where
  pub boundaries : (ps : List Hold) (f : Flow) (t g : List ℕ) → Good (f, (t, g))
      → Same Good (boundary_of (given h a ps) f t g).seen (boundary_of (given h b ps) f t g).seen
  pub takes : (f : Flow) (t g : List ℕ) (c : ℕ) → Good (f, (t, g))
      → Good (flow_of (take_of f.next t c).seen.0.next f.place f.dropped, ((take_of f.next t c).seen.1, g))
  pub frees : (f : Flow) (t g : List ℕ) (c : ℕ) → Good (f, (t, g)) → Good (f, (set_cell t c 0 0, g))
