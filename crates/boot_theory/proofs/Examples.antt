-- Histories over two preparations, by computation, on document 01's bench arena: H 2, B 4. First the person's own accident, in which one boot
-- number is used twice; then the same day with two, which meets the premises of `demand_2_over`; then what else the theorems say of such days.
use Rattle.std.specs.Prelude.{ℕ, ◌≡◌, refl, List, [], ◌∷◌, true, false, ◌⊎◌, replicate}
use Rattle.std.proofs.Common.{sym, ap, subst, inl, inr, arith}
use Rattle.model.specs.Log.{by_caller, by_script, attempt_begun}
use Rattle.model.specs.Arena.{head_of, lease_of, hold_of, bit_at, owner_at, set_cell, is_free, is_held, state_of, state_at, is_live, is_in, head_fits, shape_fits, health_fits}
use Rattle.model.specs.Refusals.{first}
use Rattle.model.specs.Foreign.{step_take_of, step_release_of, step_of}
use Rattle.model.specs.Lock.{take_of}
use Rattle.model.specs.Checks.{prepare_rules, cell_rules, lease_rules}
use Rattle.model.specs.Calls.{prepare_of, acquire_of, try_acquire_of, drop_lease_of, read_permission_of}
use Rattle.model.specs.Salvage.{kept_of, mended_cell, mended_table, mended_byte, mended_health, change_of, changes_from, changes_of, held_from, left_held, over_of, is_report_full, mend_of, go_over_of, salvage_of}
use Rattle.types.specs.declared.Answer.TheVariants.{Done, Cell, Granted, Refused}
use Rattle.types.specs.declared.Lease.{Lease}
use Rattle.types.specs.declared.Refusal.TheVariants.{NotHeld, StaleBoot}
use Rattle.laws.specs.Lists.{zero_bit}
use Rattle.history.specs.World.{World, world_of, Live, now, Spent}
use Rattle.history.specs.Items.{try_acquire, drop_lease, read_permission, perform, foreign, Item, call, foreign_step, preparation, salvage_over, Course, cold, preparing, salvaging, next_item, run}
use Rattle.history.specs.Statements.{Begins, answers}
use Rattle.history.specs.Tests.{differ}
use Rattle.history.specs.Events.{lives}
use Rattle.boot_theory.specs.Statements.{Owned, Throughout, boots_over, Distinct, NoRescue, Useless, Out, OverPreparations}
use Rattle.boot_theory.proofs.Over.{owned_parts}
use Rattle.boot_theory.proofs.Theorems.{demand_2_over, over_from}
use Rattle.boot_theory.specs.Examples.{rubbish, boot, take, old, refused, items, day, given_back, further, step_first, rescue, prepared_again}

-- "A lease from before a preparation was accepted after it because the first serial was the same": with one boot number for both, the panel is handed the
-- governor's lease once more; it owned nothing behind the second preparation, and now owns the cell again: the governor reads by it and gives the
-- panel's valve away
pub accident : (answers (run (cold rubbish) (boot 5 ∷ [])).world (try_acquire 2) ≡ Granted old)
    × (answers (run (cold rubbish) (boot 5 ∷ take ∷ refused ∷ boot 5 ∷ [])).world (read_permission old) ≡ Refused (NotHeld 0))
    × (answers (run (cold rubbish) (boot 5 ∷ take ∷ refused ∷ boot 5 ∷ [])).world (try_acquire 2) ≡ Granted old)
    × Owned (day 5).world old
    × (answers (day 5).world (read_permission old) ≡ Cell 2)
    × (answers (day 5).world (drop_lease old) ≡ Done)
unfolding run next_item preparing perform bit_at owner_at set_cell is_free is_held state_of state_at is_live head_fits shape_fits health_fits first take_of prepare_rules cell_rules lease_rules prepare_of acquire_of try_acquire_of drop_lease_of read_permission_of
accident = (refl, refl, refl, refl, refl, refl)

-- it is the premise that fails
pub used_twice : Distinct (boots_over (cold rubbish) (boot 5 ∷ items 5)) → ⊥
unfolding run next_item preparing prepare_of prepare_rules perform first head_fits shape_fits health_fits try_acquire_of cell_rules acquire_of take_of state_at state_of is_free bit_at owner_at set_cell
used_twice d = d.0 (inl refl)

-- with another boot number the old lease is refused by 16, and the panel's is another
pub refused_then : (answers (day 6).world (drop_lease old) ≡ Refused (StaleBoot 0))
    × (answers (day 6).world (read_permission old) ≡ Refused (StaleBoot 0))
    × (answers (run (cold rubbish) (boot 5 ∷ take ∷ refused ∷ boot 6 ∷ [])).world (try_acquire 2) ≡ Granted (lease_of 2 1 6))
unfolding run next_item preparing perform bit_at owner_at set_cell is_free is_held state_of state_at is_live head_fits shape_fits health_fits first take_of prepare_rules cell_rules lease_rules prepare_of acquire_of try_acquire_of drop_lease_of read_permission_of
refused_then = (refl, refl, refl)

-- two boot numbers
two_boots : Distinct (5 ∷ 6 ∷ [])
two_boots = (once, (λ z. z, tt))
  where
    once : ◌≡◌ {A = ℕ} 6 5 ⊎ ⊥ → ⊥
    once (inl e) = omega arith
    once (inr z) = z

-- the premises of `demand_2_over`: the first preparation is done, no salvage is, and no boot number is used twice
pub premises : Begins rubbish (boot 5) × NoRescue (cold rubbish) (boot 5 ∷ items 6) × Distinct (boots_over (cold rubbish) (boot 5 ∷ items 6))
unfolding run next_item preparing prepare_of prepare_rules perform first head_fits shape_fits health_fits try_acquire_of cell_rules acquire_of take_of state_at state_of is_free bit_at owner_at set_cell
premises = (refl, (λ z. z, (λ z. z, (λ z. z, (λ z. z, (λ z. z, tt))))), two_boots)

-- so, from the governor's grant on
pub day_over : OverPreparations (run (cold rubbish) (boot 5 ∷ [])) (items 6)
day_over = demand_2_over rubbish (boot 5) [] (items 6) [] premises.0 premises.1 premises.2

-- once the panel has the valve, the governor's lease is of no use: as one from before a preparation, and as the first of two on one cell
pub governor_out : Useless (run (run (cold rubbish) (boot 5 ∷ [])) (items 6)).world old × Out (run (cold rubbish) (boot 5 ∷ [])) (items 6) old
unfolding run next_item preparing perform bit_at owner_at set_cell is_free is_held state_of state_at head_fits shape_fits health_fits first take_of prepare_rules cell_rules prepare_of acquire_of try_acquire_of
governor_out = (
  (day_over.stale old refl (λ e. let z : false ≡ true = cc in differ z)).0,
  day_over.writers (try_acquire 2) (try_acquire 2) (refused ∷ boot 6 ∷ []) [] old (lease_of 2 1 6) refl refl refl refl,
)

-- a script's step is the one exception: it has no boot number, and means the head's own. One that names the governor's cell and serial frees the
-- panel's lease, which could read before
pub freed_by_a_step : (answers (day 6).world (read_permission (lease_of 2 1 6)) ≡ Cell 2)
    × (answers (run (day 6) (foreign_step 2 2 1 ∷ [])).world (read_permission (lease_of 2 1 6)) ≡ Refused (NotHeld 0))
unfolding run next_item preparing perform foreign bit_at owner_at set_cell is_free is_held state_of state_at is_live is_in head_fits shape_fits health_fits first step_release_of step_of take_of prepare_rules cell_rules lease_rules prepare_of acquire_of try_acquire_of read_permission_of
freed_by_a_step = (refl, refl)

-- every cell is free, and next is 2
all_free : given_back.world ≡ world_of (head_of 2 4 2 5) (replicate 24 0) (replicate 2 0)
unfolding run next_item preparing perform bit_at owner_at set_cell is_free is_held state_of state_at is_live head_fits shape_fits health_fits first take_of prepare_rules cell_rules lease_rules prepare_of acquire_of try_acquire_of drop_lease_of
all_free = refl

-- so serial 1 was issued and owns nothing
is_spent : Spent given_back.world 1
is_spent = subst (λ (w : World). Spent w 1) (sym all_free) (record { was_issued = omega arith; owns_none = none })
  where
    none : (c : ℕ) → Live (world_of (head_of 2 4 2 5) (replicate 24 0) (replicate 2 0)) (hold_of c 1) → ⊥
    none c v = omega (arith, (lives (world_of (head_of 2 4 2 5) (replicate 24 0) (replicate 2 0)) (hold_of c 1) v).bit_is, zero_bit 24 c)

given_back_over : OverPreparations given_back further
unfolding run next_item preparing perform bit_at owner_at set_cell is_free is_held state_of state_at is_live head_fits shape_fits health_fits first take_of prepare_rules cell_rules lease_rules prepare_of acquire_of try_acquire_of drop_lease_of
given_back_over =
    demand_2_over rubbish (boot 5) (take ∷ call (drop_lease old) ∷ []) further [] refl (λ z. z, (λ z. z, (λ z. z, (λ z. z, (λ z. z, tt))))) two_boots

-- "never owns again, preparations included": serial 1 is issued again, with boot number 6; with 5 it owns no cell at any point of whatever comes
-- next, and the governor's lease is barred
pub never_again : ((i : Item) → Throughout (run given_back further).world i (λ w. (c : ℕ) → Owned w (lease_of c 1 5) → ⊥)) × Out given_back further old
never_again = (
  λ i before after e c o.
      given_back_over.never 1 is_spent i before after e c (subst (λ (b : ℕ). Owned (now (run given_back further).world before) (lease_of c 1 b)) (sym boot_then) o),
  given_back_over.gone old (sym boot_then) is_spent.was_issued
      (λ o. is_spent.owns_none 2 (owned_parts given_back.world old o).1),
)
  where
    boot_then : given_back.world.head.boot ≡ 5
    boot_then = ap (λ (w : World). w.head.boot) all_free

pub taker_out : Out (run (cold rubbish) (boot 5 ∷ [])) step_first old
unfolding run next_item preparing perform foreign bit_at owner_at set_cell is_free is_held state_of state_at head_fits shape_fits health_fits first step_take_of step_of take_of prepare_rules cell_rules prepare_of acquire_of try_acquire_of
taker_out =
    (demand_2_over rubbish (boot 5) [] step_first [] refl (λ z. z, (λ z. z, (λ z. z, (λ z. z, tt)))) two_boots
    ).takers (foreign_step 1 2 0) take (boot 6 ∷ []) [] old (lease_of 2 1 6) refl (by_script, [], [], refl, refl) (by_caller, attempt_begun ∷ [], [], refl, refl) refl

-- the salvage is done, with no entry and one cell listed, and its boot number is in force
pub salvaged_first : Begins rubbish rescue × ((run (cold rubbish) (rescue ∷ [])).world.head.boot ≡ 5)
    × (answers (run (cold rubbish) (rescue ∷ [])).world (read_permission (lease_of 0 1 5)) ≡ Cell 0)
unfolding run next_item salvaging perform bit_at owner_at is_free is_held state_of state_at is_live head_fits shape_fits health_fits first prepare_rules lease_rules read_permission_of kept_of mended_cell mended_table mended_byte mended_health change_of changes_from changes_of held_from left_held over_of is_report_full mend_of go_over_of salvage_of
salvaged_first = ((0, 1, refl), refl, refl)

-- `over_from`: the lease that the salvage left live is of no use behind the preparation
pub stale_behind_salvage : Useless (run (run (cold rubbish) (rescue ∷ [])) prepared_again).world (lease_of 0 1 5) × Out (run (cold rubbish) (rescue ∷ [])) prepared_again (lease_of 0 1 5)
unfolding run next_item preparing salvaging bit_at owner_at is_free is_held state_of state_at head_fits shape_fits health_fits first prepare_rules prepare_of kept_of mended_cell mended_table mended_byte mended_health change_of changes_from changes_of held_from left_held over_of is_report_full mend_of go_over_of salvage_of
stale_behind_salvage =
    (over_from rubbish rescue [] salvaged_first.0 prepared_again [] (λ z. z, tt) two_boots
    ).stale (lease_of 0 1 5) refl (λ e. let z : false ≡ true = cc in differ z)
