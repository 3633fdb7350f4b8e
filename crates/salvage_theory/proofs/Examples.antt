-- The premises can be met: a salvage that is done, one that is refused, one that leaves two cells with one owner; and a history with a salvage.
use Rattle.std.specs.Prelude.{ℕ, zero, suc, ◌+◌, ◌≡◌, refl, List, [], ◌∷◌, ◌++◌, false, get_or, take, replicate, Ok}
use Rattle.std.proofs.Common.{sym, subst, arith}
use Rattle.model.specs.Log.{Actor, Event, by_caller, attempt_begun, took, released}
use Rattle.model.specs.Arena.{head_of, lease_of, hold_of, bit_at, owner_at, set_cell, is_free, is_held, state_of, state_at, is_live, head_fits, shape_fits, health_fits}
use Rattle.model.specs.Refusals.{first}
use Rattle.model.specs.Lock.{take_of}
use Rattle.model.specs.Checks.{prepare_rules, cell_rules, lease_rules}
use Rattle.model.specs.Calls.{counts_of, prepare_of, acquire_of, try_acquire_of, drop_lease_of}
use Rattle.model.specs.Salvage.{Salvage, kept_of, mended_cell, mended_table, mended_byte, mended_health, change_of, changes_from, changes_of, held_from, left_held, over_of, is_report_full, concluded, mend_of, go_over_of, salvage_of}
use Rattle.types.specs.declared.Answer.TheVariants as answer
use Rattle.types.specs.declared.Head.{Head}
use Rattle.types.specs.declared.Refusal.TheVariants.{NotHeld}
use Rattle.history.specs.World.{World, world_of, cells, Live, Free, Apart, Sound, now, Lawful, Spent, bits, number_of_lem, takes, releases}
use Rattle.history.specs.Items.{drop_lease, try_acquire, perform, Item, call, preparation, salvage, salvage_over, says, saying, Entry, entry_of, Course, course_of, cold, history_of, preparing, salvaging, next_item, run}
use Rattle.history.specs.Statements.{answers, leaves, rescued, Begins, NoStart}
use Rattle.history.specs.Tests.{differ}
use Rattle.history.specs.Events.{lives}
use Rattle.history.specs.Callers.{ShapeFits}
use Rattle.salvage_theory.specs.Statements.{answer_in, table_in, health_in, report_in, list_in, NoRoom, undone_of, Mends, OwnersDiffer, Salvages, other, AllSpare}
use Rattle.salvage_theory.proofs.Theorems.{report_full_exactly, rebuilds, mended, twice, apart_exactly, doubled_apart, keeps_boot, boot_from_salvage, goes_on_from, counts_from_salvage, dead_stays_dead, dead_over_salvages, apart_from_there, unconfirmed_alone, live_over_salvage}
use Rattle.salvage_theory.specs.Examples.{paper, found, sick, first_time, doubled, left, Figures, rubbish, boot, before_dip, on_paper, after_dip, rescue, afterwards, salvaged_world, went_on, Story, end, valve, more, whole_day, one_free}

pub figures : Figures
unfolding bit_at owner_at is_free is_held state_of state_at is_live head_fits shape_fits health_fits first prepare_rules kept_of mended_cell mended_table mended_byte mended_health change_of changes_from changes_of held_from left_held over_of is_report_full mend_of go_over_of salvage_of
figures =
    record {
      is_done = refl;
      is_reported = refl;
      is_listed = refl;
      first_owner = refl;
      second_owner = refl;
      is_full = refl;
      doubled_done = refl;
      one_owner = refl;
      left_fits = refl;
      first_live = refl;
      last_live = refl;
    }

-- ---- a salvage that is done

pub is_rebuilt : undone_of (take 12 (report_in first_time)) (table_in first_time) (health_in first_time) ≡ (found, sick)
is_rebuilt = rebuilds paper found sick (replicate 14 77) (replicate 3 77) 4 2 figures.is_done

pub is_mended : Mends paper found sick (table_in first_time) (health_in first_time)
is_mended = mended paper found sick (replicate 14 77) (replicate 3 77) 4 2 figures.is_done

-- again, with no report and a list of two words
pub is_same : salvage_of paper (table_in first_time) (health_in first_time) [] (replicate 2 0)
    ≡ (concluded paper (Ok (0, 2)), (table_in first_time, (health_in first_time, ([], over_of (take 2 (list_in first_time)) (replicate 2 0)))))
is_same = twice paper found sick (replicate 14 77) (replicate 3 77) 4 2 figures.is_done [] (replicate 2 0) (omega arith)

-- its two owners differ: the arena is sound
owners : OwnersDiffer (table_in first_time) (list_in first_time) 2
owners zero zero a b e = refl
owners zero (suc zero) a b e = absurd (omega (arith, figures.first_owner, figures.second_owner))
owners (suc zero) zero a b e = absurd (omega (arith, figures.first_owner, figures.second_owner))
owners (suc zero) (suc zero) a b e = refl
owners (suc (suc j)) k a b e = absurd (omega arith)
owners zero (suc (suc k)) a b e = absurd (omega arith)
owners (suc zero) (suc (suc k)) a b e = absurd (omega arith)

pub is_sound_lem : Sound (world_of paper (table_in first_time) (health_in first_time))
is_sound_lem = (apart_exactly paper found sick (replicate 14 77) (replicate 3 77) 4 2 figures.is_done).1 owners

-- ---- one that is refused

pub has_no_room : NoRoom paper found sick (replicate 11 77) (replicate 3 77)
has_no_room = ((report_full_exactly paper found sick (replicate 11 77) (replicate 3 77)).0.0 figures.is_full).1

-- ---- two cells with one owner

pub not_sound : Sound left → ⊥
not_sound s =
    let z : ◌≡◌ {A = ℕ} 0 1 = (apart_exactly paper doubled (0 ∷ []) [] (replicate 2 77) 0 2 figures.doubled_done).0 s 0 1 (omega arith) (omega arith) figures.one_owner in
    omega arith

-- the first cell is released; the last one's lease, of the same serial, is live
pub other_live : (answers left (drop_lease (lease_of 0 5 6)) ≡ answer.Done)
    × Free (leaves left (drop_lease (lease_of 0 5 6))) 0
    × Live (leaves left (drop_lease (lease_of 0 5 6))) (hold_of 2 5)
other_live = doubled_apart left 0 2 5 figures.left_fits (λ e. omega arith) figures.first_live figures.last_live

pub story : Story
unfolding run next_item preparing salvaging perform bit_at owner_at set_cell is_free is_held state_of state_at is_live head_fits shape_fits health_fits first prepare_rules cell_rules lease_rules prepare_of acquire_of take_of try_acquire_of drop_lease_of kept_of mended_cell mended_table mended_byte mended_health change_of changes_from changes_of held_from left_held over_of is_report_full mend_of go_over_of salvage_of
story =
    record {
      lives_before = (refl, refl);
      is_done = refl;
      is_listed = refl;
      begins_anew = refl;
      is_rescued = refl;
      lives_after = refl;
      goes_on = refl;
    }

is_salvage : Salvages before_dip.world rescue on_paper after_dip (7 ∷ []) (replicate 12 77) (replicate 2 77)
is_salvage = other on_paper after_dip (7 ∷ []) (replicate 12 77) (replicate 2 77)

no_start : NoStart (next_item before_dip rescue) afterwards
no_start = (λ z. z, (λ z. z, (λ z. z, tt)))

-- `goes_on_from`: the stretch begins in the salvaged world
pub goes_on_then : (end.origin ≡ salvaged_world) × Lawful salvaged_world (history_of end) × (end.world ≡ now salvaged_world (history_of end))
goes_on_then =
    subst (λ (w : World). (end.origin ≡ w) × Lawful w (history_of end) × (end.world ≡ now w (history_of end))) story.is_rescued
    (goes_on_from before_dip rescue on_paper after_dip (7 ∷ []) (replicate 12 77) (replicate 2 77) 4 1 afterwards is_salvage story.is_done no_start)

-- `keeps_boot`, `boot_from_salvage`: the head handed back, and the one at the end, have the boot number on the paper, 6, and the lease that was dropped
-- then has it
pub boot_then : ((salvage_of on_paper after_dip (7 ∷ []) (replicate 12 77) (replicate 2 77)).0.head.boot ≡ 6) × (end.world.head.boot ≡ 6)
boot_then = (
  keeps_boot on_paper after_dip (7 ∷ []) (replicate 12 77) (replicate 2 77),
  boot_from_salvage before_dip rescue on_paper after_dip (7 ∷ []) (replicate 12 77) (replicate 2 77) 4 1 afterwards is_salvage story.is_done no_start,
)

-- `counts_from_salvage`: one cell is held at the start
pub counted_then : (end.world.head.next ≡ 3 + number_of_lem takes (history_of end))
    × (bits (cells end.world) end.world.table + number_of_lem releases (history_of end) ≡ 1 + number_of_lem takes (history_of end))
counted_then =
    counts_from_salvage before_dip rescue on_paper after_dip (7 ∷ []) (replicate 12 77) (replicate 2 77) 4 1 afterwards is_salvage story.is_done no_start

-- `dead_stays_dead`: serial 2 lost its cell in the dip, and owns none at any point since
lost : (c : ℕ) → Live salvaged_world (hold_of c 2) → ⊥
unfolding bit_at owner_at is_free is_held state_of state_at is_live
lost zero v = differ v
lost (suc zero) v = differ v
lost (suc (suc zero)) v = differ v
lost (suc (suc (suc c))) v = omega (arith, (lives salvaged_world (hold_of (suc (suc (suc c))) 2) v).in_range)

pub dead_then : (before after : List Event) → history_of end ≡ before ++ after → (c : ℕ) → Live (now salvaged_world before) (hold_of c 2) → ⊥
dead_then =
    subst (λ (w : World). (before after : List Event) → history_of end ≡ before ++ after → (c : ℕ) → Live (now w before) (hold_of c 2) → ⊥) story.is_rescued
    (dead_stays_dead before_dip rescue on_paper after_dip (7 ∷ []) (replicate 12 77) (replicate 2 77) 4 1 afterwards is_salvage story.is_done no_start 2 (omega arith)
    (subst (λ (w : World). (c : ℕ) → Live w (hold_of c 2) → ⊥) (sym story.is_rescued) lost))

-- `apart_from_there`: one cell is listed, so no serial owns two at any point since
pub apart_then : (before after : List Event) → history_of end ≡ before ++ after → Apart (now salvaged_world before)
apart_then =
    subst (λ (w : World). (before after : List Event) → history_of end ≡ before ++ after → Apart (now w before)) story.is_rescued
    ((apart_from_there before_dip rescue on_paper after_dip (7 ∷ []) (replicate 12 77) (replicate 2 77) 4 1 afterwards is_salvage story.is_done no_start).1
    (λ j k a b e. omega arith))

valve_is : history_of (run before_dip (rescue ∷ valve)) ≡ (attempt_begun ∷ released by_caller 0 1 ∷ attempt_begun ∷ []) ++ (took by_caller 0 3 ∷ [])
unfolding run next_item preparing salvaging perform bit_at owner_at set_cell is_free is_held state_of state_at is_live head_fits shape_fits health_fits first prepare_rules cell_rules lease_rules prepare_of acquire_of take_of try_acquire_of drop_lease_of kept_of mended_cell mended_table mended_byte mended_health change_of changes_from changes_of held_from left_held over_of is_report_full mend_of go_over_of salvage_of
valve_is = refl

pub valve_released : (a : Actor) × (before middle : List Event)
    × (attempt_begun ∷ released by_caller 0 1 ∷ attempt_begun ∷ [] ≡ before ++ (released a 0 1 ∷ middle))
valve_released =
    unconfirmed_alone before_dip rescue on_paper after_dip (7 ∷ []) (replicate 12 77) (replicate 2 77) 4 1 valve is_salvage story.is_done (λ z. z, (λ z. z, (λ z. z, tt)))
    0 1 3 by_caller (attempt_begun ∷ released by_caller 0 1 ∷ attempt_begun ∷ []) [] (subst (λ (w : World). Live w (hold_of 0 1)) (sym story.is_rescued) story.lives_after) valve_is

-- `live_over_salvage`: a salvage with the head in force, over the arena's own runs, keeps the lease of cell 2
pub lives_then : ((salvaging (head_of 1 3 4 6) went_on.world.table went_on.world.health [] (77 ∷ [])).0 ≡ Ok (0, 1))
    × Live went_on.world (hold_of 2 3)
unfolding salvaging bit_at owner_at is_free is_held state_of state_at is_live head_fits shape_fits health_fits first prepare_rules kept_of mended_cell mended_table mended_byte mended_health change_of changes_from changes_of held_from left_held over_of is_report_full mend_of go_over_of salvage_of
lives_then = (refl, refl)

pub lives_on_then : Live (next_item went_on (salvage (head_of 1 3 4 6) [] (77 ∷ []))).world (hold_of 2 3)
lives_on_then = (live_over_salvage went_on [] (77 ∷ []) (hold_of 2 3) (0, 1, lives_then.0)).1 lives_then.1

-- and with an older head, whose next serial is 3, it does not: the owner 3 is not below it, the cell is damaged and becomes free
pub ended_by_older : next_item went_on (salvage (head_of 1 3 3 6) (replicate 6 77) []) ≡ cold (world_of (head_of 1 3 3 6) (replicate 9 0) (1 ∷ []))
unfolding next_item salvaging bit_at owner_at is_free is_held state_of state_at head_fits shape_fits health_fits first prepare_rules kept_of mended_cell mended_table mended_byte mended_health change_of changes_from changes_of held_from left_held over_of is_report_full mend_of go_over_of salvage_of
ended_by_older = refl

day_is : run (cold rubbish) (boot ∷ whole_day) ≡ went_on
unfolding run
day_is = story.goes_on

starts_day : Begins rubbish boot
unfolding preparing prepare_of prepare_rules first head_fits shape_fits health_fits
starts_day = refl

still_lost : (c : ℕ) → Live went_on.world (hold_of c 2) → ⊥
unfolding bit_at owner_at is_free is_held state_of state_at is_live
still_lost zero v = differ v
still_lost (suc zero) v = differ v
still_lost (suc (suc zero)) v = differ v
still_lost (suc (suc (suc c))) v = omega (arith, (lives went_on.world (hold_of (suc (suc (suc c))) 2) v).in_range)

-- the second dip's salvage is done too, and no lease of serial 2 stands in what that dip left
pub second_done : (salvaging (head_of 1 3 5 6) went_on.world.table (9 ∷ []) (replicate 3 77) (77 ∷ [])).0 ≡ Ok (1, 1)
unfolding salvaging bit_at owner_at is_free is_held state_of state_at head_fits shape_fits health_fits first prepare_rules kept_of mended_cell mended_table mended_byte mended_health change_of changes_from changes_of held_from left_held over_of is_report_full mend_of go_over_of salvage_of
second_done = refl

not_left : (c : ℕ) → Live (world_of (head_of 1 3 5 6) went_on.world.table (9 ∷ [])) (hold_of c 2) → ⊥
unfolding bit_at owner_at is_free is_held state_of state_at is_live
not_left zero v = differ v
not_left (suc zero) v = differ v
not_left (suc (suc zero)) v = differ v
not_left (suc (suc (suc c))) v = omega (arith, (lives (world_of (head_of 1 3 5 6) went_on.world.table (9 ∷ [])) (hold_of (suc (suc (suc c))) 2) v).in_range)

pub dead_over_then : Spent (run went_on more).world 2
dead_over_then =
    subst (λ (k : Course). (s : ℕ) (items : List Item) → Spent k.world s → AllSpare s k items → Spent (run k items).world s) day_is
    (dead_over_salvages rubbish boot whole_day starts_day) 2 more (record { was_issued = omega arith; owns_none = still_lost })
    (λ _. omega arith, (tt, (λ _. (omega arith, not_left), tt)))

pub revived : (next_item (cold one_free) (salvage (head_of 1 1 2 6) [] []) ≡ cold one_free)
    × (is_live 2 1 one_free.table (hold_of 0 1) ≡ false)
    × Live (next_item (cold one_free) (salvage_over (head_of 1 1 2 6) (1 ∷ 1 ∷ 0 ∷ []) (0 ∷ []) [] (77 ∷ []))).world (hold_of 0 1)
unfolding next_item salvaging bit_at owner_at is_free is_held state_of state_at is_live head_fits shape_fits health_fits first prepare_rules kept_of mended_cell mended_table mended_byte mended_health change_of changes_from changes_of held_from left_held over_of is_report_full mend_of go_over_of salvage_of
revived = (refl, refl, refl)
