-- Histories over two preparations, by computation, on document 01's bench arena: H 2, B 4. First the person's own accident, in which one boot
-- number is used twice; then the same day with two, which meets the premises of `demand_2_over`; then what else the theorems say of such days.
use Rattle.std.specs.Prelude.{ℕ, ◌≡◌, refl, List, [], ◌∷◌, true, false, ◌⊎◌, replicate}
use Rattle.std.proofs.Common.{sym, ap, subst, inl, inr, arith}
use Rattle.model.specs.Log.{by_caller, by_script, attempt_begun}
use Rattle.model.specs.Arena.{head_of, lease_of, hold_of, bit_at, owner_at, set_cell, is_free, is_held, state_of, state_at, is_live, is_in, head_fits, shape_fits, health_fits}
use Rattle.model.specs.Refusals.{first}
use Rattle.model.specs.Foreign.{step_take_of, step_release_of, step_of}
use Rattle.model.specs.Lock.{take_of}
use Rattle.model.specs.Checks.{prepare_rules, cell_rules, lease_rules}
use Rattle.model.specs.Calls.{prepare_of, acquire_of, try_acquire_of, drop_lease_of, read_permission_of}
use Rattle.model.specs.Salvage.{kept_of, mended_cell, mended_table, mended_byte, mended_health, change_of, changes_from, changes_of, held_from, left_held, over_of, is_report_full, mend_of, go_over_of, salvage_of}
use Rattle.types.specs.declared.Answer.TheVariants.{Done, Cell, Granted, Refused}
use Rattle.types.specs.declared.Lease.{Lease}
use Rattle.types.specs.declared.Refusal.TheVariants.{NotHeld, StaleBoot}
use Rattle.laws.specs.Lists.{zero_bit}
use Rattle.history.specs.World.{World, world_of, Live, now, Spent}
use Rattle.history.specs.Items.{try_acquire, drop_lease, read_permission, perform, foreign, Item, call, foreign_step, preparation, salvage_over, Course, cold, preparing, salvaging, next_item, run}
use Rattle.history.specs.Statements.{Begins, answers}
use Rattle.history.specs.Tests.{differ}
use Rattle.history.specs.Events.{lives}
use Rattle.boot_theory.specs.Statements.{Owned, Throughout, boots_over, Distinct, NoRescue, Useless, Out, OverPreparations}

-- RAM after a cold start
abbrev pub rubbish : World
rubbish = world_of (head_of 7 7 7 7) (replicate 24 7) (replicate 2 7)

-- prepared with first serial 1 and this boot number; the governor takes the valve's cell
abbrev pub boot : ℕ → Item
boot b = preparation 2 4 1 b

abbrev pub take : Item
take = call (try_acquire 2)

-- the governor's lease, from before the second preparation
abbrev pub old : Lease
old = lease_of 2 1 5

-- a preparation of no headers is refused, and uses no boot number up
abbrev pub refused : Item
refused = preparation 0 4 1 5

-- a day in which the arena is prepared again, and the panel takes the valve's cell
abbrev pub items : ℕ → List Item
items b = take ∷ refused ∷ boot b ∷ take ∷ []

abbrev pub day : ℕ → Course
day b = run (cold rubbish) (boot 5 ∷ items b)

-- ---- a lease that was given back before the second preparation

abbrev pub given_back : Course
given_back = run (cold rubbish) (boot 5 ∷ take ∷ call (drop_lease old) ∷ [])

abbrev pub further : List Item
further = boot 6 ∷ take ∷ []

-- ---- whoever takes

-- somebody else's step takes the valve's cell, the arena is prepared again, and the panel takes the cell: the first lease is out, though no call handed
-- it over
abbrev pub step_first : List Item
step_first = foreign_step 1 2 0 ∷ boot 6 ∷ take ∷ []

-- ---- behind a salvage

-- one cell, held by serial 1, the boot number on paper 5; then a preparation with 6
abbrev pub rescue : Item
rescue = salvage_over (head_of 1 1 2 5) (1 ∷ 1 ∷ 0 ∷ []) (0 ∷ []) [] (7 ∷ [])

abbrev pub prepared_again : List Item
prepared_again = preparation 1 1 1 6 ∷ []
