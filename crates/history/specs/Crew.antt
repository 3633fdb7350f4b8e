-- The crew, in either work: whatever the turns, each lease that a member noted and has not released is live, and no two of them are the same.
-- ---- the places of the lists
use Rattle.std.specs.Prelude.{ℕ, zero, suc, ◌+◌, ◌-◌, ◌≤◌, ◌<◌, ◌≡◌, Bool, ltb, leb, eqb, length, set, replicate, if◌then◌else◌}
use Rattle.std.proofs.Math.Path.{refl, ap}
use Rattle.std.proofs.Common.{sym, ◌∙◌, subst, length-set, get_or-set_same, get_or-set_other}
use mathlib.Core.List.{List, [], ◌∷◌, ◌++◌}
use Rattle.std.proofs.Math.Bool.{true, false}
use Rattle.std.proofs.Math.Decide.{ℕ_discrete, dec_lt}
use native.Mathlib.Omega.{arith}
use Rattle.std.proofs.Math.ListN.{get_or, get_or-eq_default}
use Rattle.std.proofs.lemmas.List.{length-replicate}
use borrow.Author.Tests.{ltb-true, ltb-false, leb-false}
use Rattle.model.specs.Log.{Made, Event, by_caller, attempt_begun, boundary_run, released, held_all_lem, added, note, gives, ◌>>◌}
use Rattle.model.specs.Arena.{cells_of, header_of, is_poisoned, hold_of, set_cell, waiters_at, is_in}
use Rattle.model.specs.Foreign.{flow_of, run_steps_of, boundary_of}
use Rattle.model.specs.Lock.{take_of, late_stage_of, after_take, second_stage_of, lock_of}
use Rattle.model.specs.Calls.{given}
use Rattle.model.specs.Crew.{Work, adds_of, moves_of, total, start_of, count_of, bad_limits, bad_lists, bad_turns, plan_rules, crew_rules, crew_at_work_rules, Crew, crew_start, moved, is_full, after_try, try_turn_of, held_all_of, add_turn_of, release_turn_of, turn_of, turns_of}
use Rattle.types.specs.declared.Head.{Head}
use Rattle.types.specs.declared.Hold.{Hold}
use Rattle.types.specs.declared.Locked.{Locked}
use Rattle.types.specs.declared.Outcome.{Outcome}
use Rattle.types.specs.declared.Take.{Take}
use Rattle.types.specs.declared.Take.TheVariants as taking
use Rattle.choice.specs.Pick.{if_both}
use Rattle.laws.specs.Lists.{zeros}
use Rattle.laws.specs.Crew.{adds_few, start_fits, limits_fine, cell_inside}
use Rattle.history.specs.World.{World, world_of, Live, Unreleased}
use Rattle.history.specs.Items.{Clear}
use Rattle.history.specs.Tests.{differ, In, in_first, if_cases}
use Rattle.history.specs.Events.{Fit, lives}
use Rattle.history.specs.Logs.{Kept}
use Rattle.history.specs.Judged.{clear_front, clear_fine}
use Rattle.history.specs.Steps.{world_at, With, Gained, gained, was_busy, was_refused}

-- ---- what the checks say

pub record Limits (h : Head) (counts cells : List ℕ) : Type 0 where
  pub members : length counts ≤ 16
  pub small : total counts ≤ 256
  pub inside : (m j : ℕ) → j < count_of counts m → get_or cells (start_of counts m + j) 0 < cells_of h

-- ---- who holds what

-- the j-th cell of a member is held: taken, and not yet released
abbrev pub Holds : Work → List ℕ → List ℕ → ℕ → ℕ → Type 0
Holds work counts made m j = (j < count_of counts m) × (j < get_or made m 0) × (j + get_or made m 0 < moves_of work (count_of counts m))

-- the lease noted at a place
abbrev pub noted : List ℕ → List ℕ → ℕ → Hold
noted cells serials k = hold_of (get_or cells k 0) (get_or serials k 0)

pub record Safe (work : Work) (counts cells : List ℕ) (w : World) (made serials : List ℕ) : Type 0 where
  pub good : Fit w
  pub many_members : length made ≡ 16
  pub many_places : length serials ≡ 256
  pub holds : (m j : ℕ) → Holds work counts made m j → Live w (noted cells serials (start_of counts m + j))
  pub distinct : (m j k i : ℕ) → Holds work counts made m j → Holds work counts made k i
      → noted cells serials (start_of counts m + j) ≡ noted cells serials (start_of counts k + i) → (m ≡ k) × (j ≡ i)

-- a member's moves after one more move of one member
pub data Moves (made : List ℕ) (m k : ℕ) : Type 0 where
  mine : k ≡ m → get_or (moved made m) k 0 ≡ get_or made m 0 + 1 → Moves made m k
  other : (k ≡ m → ⊥) → get_or (moved made m) k 0 ≡ get_or made k 0 → Moves made m k

-- where a member has noted one more: the lease noted at a place that is held then
pub data Noted (work : Work) (counts cells made serials : List ℕ) (m x i j : ℕ) : Type 0 where
  new_one : i ≡ m → j ≡ get_or made m 0
      → noted cells (set serials (start_of counts m + get_or made m 0) x) (start_of counts i + j) ≡ hold_of (get_or cells (start_of counts m + get_or made m 0) 0) x
      → Noted work counts cells made serials m x i j
  old_one : Holds work counts made i j
      → noted cells (set serials (start_of counts m + get_or made m 0) x) (start_of counts i + j) ≡ noted cells serials (start_of counts i + j)
      → Noted work counts cells made serials m x i j
