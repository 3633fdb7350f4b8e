-- Examples that meet the premises of each theorem, so that none speaks of nothing. By computation, on document 01's bench arena: H 2, B 4,
-- registry 0, 1, 1, first serial 1, boot number 6.
-- ---- a day
use Rattle.std.specs.Prelude.{ℕ, suc, zero, ◌+◌, ◌≤◌, ◌<◌, ◌≡◌, refl, List, [], ◌∷◌, ◌++◌, true, replicate, Ok, Err}
use Rattle.std.proofs.Common.{sym, ap, ◌∙◌, subst, inl, inr, arith}
use Rattle.types.specs.declared.SalvageRefusal.TheVariants as salvaged
use Rattle.model.specs.Log.{Made, Event, by_caller, by_script, attempt_begun, boundary_run, took, released, waiters_set, health_set, Actor, step_dropped}
use Rattle.model.specs.Arena.{head_of, lease_of, is_stale, hold_of, bit_at, owner_at, waiters_at, set_cell, set_waiters, is_free, is_held, state_of, state_at, is_live, leases_of, holds_of, words_of, same_hold, is_in, head_fits, shape_fits, health_fits, registry_fits}
use Rattle.model.specs.Refusals.{Rule, first}
use Rattle.model.specs.Answers.{refusal_in}
use Rattle.model.specs.Foreign.{step_take_of, step_release_of, step_waiters_of, step_health_of, step_of, run_steps_of, boundary_of}
use Rattle.model.specs.Lock.{take_of, late_stage_of, second_stage_of, lock_of, find_of, attempt_of, spin_of, pause_of, retry_of, give_back_of, rollback_of, hold_at, locks_of}
use Rattle.model.specs.Checks.{not_live, bad_bindings, not_releasable, prepare_rules, cell_rules, lease_rules, script_rules, lock_rules, bucket_rules, release_rules, locks_rules}
use Rattle.model.specs.Calls.{prepare_of, acquire_of, try_acquire_of, drop_lease_of, competing_acquire_of, try_lock_of, acquire_bucket_of, release_all_of, acquire_locks_of, environment_of, counts_of}
use Rattle.model.specs.Salvage.{kept_of, mended_cell, mended_table, mended_byte, mended_health, change_of, changes_from, changes_of, held_from, left_held, over_of, is_report_full, mend_of, go_over_of, salvage_of}
use Rattle.model.specs.Crew.{total, start_of, all_within, rises_from, bad_lists, bad_turns, crew_rules, crew_at_work_rules, crew_of, crew_at_work_of}
use Rattle.types.specs.declared.Answer.TheVariants.{Done, Granted, AllGranted, Busy, Refused, RefusedAt}
use Rattle.types.specs.declared.CrewReply.{CrewReply}
use Rattle.types.specs.declared.Head.{Head}
use Rattle.types.specs.declared.Hold.{Hold}
use Rattle.types.specs.declared.Reason.TheVariants as reason
use Rattle.types.specs.declared.Lease.{Lease}
use Rattle.types.specs.declared.Refusal.{Refusal}
use Rattle.types.specs.declared.Refusal.TheVariants.{StaleBoot, Poisoned, InvalidBucket, NotHeld, BadCrew, Damaged, BadShape}
use Rattle.history.specs.World.{World, world_of, Live, Healthy, now, Sound, Spent, Unreleased, number_of_lem, takes}
use Rattle.history.specs.Items.{Call, Says, salvage, salvaging, acquire_bucket, try_lock, drop_lease, competing_acquire, drop_preserving, release_all, acquire_locks, environment, try_acquire, perform, foreign, Item, call, foreign_step, preparation, Course, course_of, cold, next_item, run, preparing, held_of, Entry, noted, preparation_over, entry_of, events_of, history_of, saying, says}
use Rattle.history.specs.Statements.{drops_beside, to_release, Placed, alone, beside, listed, Begins, Fresh, Ledger, other_runs, answers, leaves, log_of, HandsOver, RolledBack, buffer_in, Fails}
use Rattle.history.specs.Reasons.{TakesNothing}
use Rattle.history.specs.Callers.{singles}
use Rattle.history.proofs.Theorems.{grant_is, boot_stays, refused_stale, stale_is_16, demand_2, prepared_sound, prepared_begins, forgets, salvage_refused_stays, nothing_kept, held_live, changes_nothing, crew_refused_lem, crew_at_work_refused, named, take_is_call, nothing_new, rollback_is, two_writers, granted_healthy, holder_lives, early_takes_nothing, late_is_spent, locks_healthy, poisoned_holds_nothing}
use Rattle.history.specs.Tests.{differ}
use Rattle.history.specs.Events.{lives}
use Rattle.history.specs.Examples.{registry, rubbish, boot, grant, late, mistake, day, after, granting, late_busy, given_back, ending, prepared, entries, the_day, other_rubbish, lease, next_day, on_paper, granted, stale, mine, both_boots, two_keys, begun, second, bad_key, undone, step_one, meets_holder, meets_waiters, valve, first_grant, meanwhile, second_grant, damaged, cold_keys, sick, mended, gone_bad, bad_end, behind_keys, behind_script, behind, AtKey, boundary}

pub day_is : after day ≡ the_day
unfolding run next_item preparing perform foreign bit_at owner_at waiters_at set_cell set_waiters is_free is_held state_of state_at is_live leases_of holds_of same_hold is_in head_fits shape_fits health_fits registry_fits first step_release_of step_take_of step_waiters_of step_of run_steps_of boundary_of take_of late_stage_of second_stage_of lock_of find_of attempt_of retry_of give_back_of not_live not_releasable prepare_rules lease_rules script_rules lock_rules bucket_rules release_rules prepare_of drop_lease_of try_lock_of acquire_bucket_of release_all_of
day_is = refl

-- ---- `demand_2`

-- its premise: the preparation is done
pub boot_done : (preparing 2 4 1 6 rubbish.table rubbish.health).0 ≡ Done
unfolding preparing prepare_of prepare_rules first head_fits shape_fits health_fits
boot_done = refl

pub day_kept : Ledger the_day
day_kept = subst Ledger day_is (demand_2 rubbish boot day boot_done)

-- `prepared_sound`
pub day_sound : (before after : List Event) → events_of entries ≡ before ++ after → Sound (now prepared before)
day_sound =
    subst (λ (k : Course). Fresh k.origin → (before after : List Event) → history_of k ≡ before ++ after → Sound (now k.origin before)) day_is
    (prepared_sound rubbish boot day boot_done) refl

pub other_boot_done : (preparing 2 4 1 6 other_rubbish.table other_rubbish.health).0 ≡ Done
unfolding preparing prepare_of prepare_rules first head_fits shape_fits health_fits
other_boot_done = refl

pub same_day : run (cold other_rubbish) (boot ∷ day) ≡ the_day
same_day = forgets other_rubbish rubbish 2 4 1 6 day other_boot_done boot_done ∙ day_is

pub lease_lives : Live (now prepared granting) lease × Unreleased lease (late_busy ++ given_back) × Live (now prepared (granting ++ (late_busy ++ given_back))) lease
    × (Live (now prepared (granting ++ (late_busy ++ given_back) ++ ending)) lease → ⊥)
unfolding bit_at owner_at set_cell set_waiters is_free is_held state_of state_at is_live
lease_lives = (live, unreleased, day_kept.keeps lease granting (late_busy ++ given_back) ending refl live unreleased, differ)
  where
    live : Live (now prepared granting) lease
    live = refl

    other : (c s : ℕ) → (c ≡ 2 → ⊥) → lease ≡ hold_of c s → ⊥
    other c s n e = n (sym (ap (λ (l : Hold). l.cell) e))

    unreleased : Unreleased lease (late_busy ++ given_back)
    unreleased = (λ z. z, (λ z. z, (λ z. z, (λ z. z, (λ z. z, (λ z. z, (other 3 3 (λ e. omega arith), (other 5 1 (λ e. omega arith), tt))))))))

-- `never`: serial 3 was issued and, since the try_lock was late Busy, owns nothing; so it is at the end of the day
pub serial_dies : Spent (now prepared (granting ++ late_busy)) 3 × Spent (now prepared (granting ++ late_busy ++ given_back ++ ending)) 3
unfolding bit_at owner_at set_cell set_waiters is_free is_held state_of state_at is_live
serial_dies = (dead, day_kept.never 3 (granting ++ late_busy) (given_back ++ ending) [] refl dead)
  where
    none : (c : ℕ) → Live (now prepared (granting ++ late_busy)) (hold_of c 3) → ⊥
    none zero v = differ v
    none (suc zero) v = differ v
    none (suc (suc zero)) v = differ v
    none (suc (suc (suc zero))) v = differ v
    none (suc (suc (suc (suc zero)))) v = differ v
    none (suc (suc (suc (suc (suc zero))))) v = differ v
    none (suc (suc (suc (suc (suc (suc zero)))))) v = differ v
    none (suc (suc (suc (suc (suc (suc (suc zero))))))) v = differ v
    none (suc (suc (suc (suc (suc (suc (suc (suc c)))))))) v = omega (arith, (lives (now prepared (granting ++ late_busy)) (hold_of (suc (suc (suc (suc (suc (suc (suc (suc c)))))))) 3) v).in_range)

    dead : Spent (now prepared (granting ++ late_busy)) 3
    dead = record { was_issued = omega arith; owns_none = none }

-- a second preparation begins a new stretch, of the arena's own runs or of others; one that is refused, since H x B no longer fits the runs
-- or the runs that were lent are too short, is noted and leaves the arena as it was
pub prepared_again : (after (day ++ (boot ∷ [])) ≡ cold prepared) × (after (day ++ (preparation_over 2 4 1 6 (replicate 24 9) (replicate 2 9) ∷ [])) ≡ cold prepared)
unfolding run next_item preparing perform foreign bit_at owner_at waiters_at set_cell set_waiters is_free is_held state_of state_at is_live leases_of holds_of same_hold is_in head_fits shape_fits health_fits registry_fits first step_release_of step_take_of step_waiters_of step_of run_steps_of boundary_of take_of late_stage_of second_stage_of lock_of find_of attempt_of retry_of give_back_of not_live not_releasable prepare_rules lease_rules script_rules lock_rules bucket_rules release_rules prepare_of drop_lease_of try_lock_of acquire_bucket_of release_all_of
prepared_again = (refl, refl)

pub next_day_begins : (next_day.origin ≡ world_of (head_of 2 4 5 6) (replicate 24 0) (replicate 2 0)) × (next_day.world.head.next ≡ 5 + number_of_lem takes (history_of next_day))
unfolding preparing prepare_of prepare_rules first head_fits shape_fits health_fits
next_day_begins =
    let x = prepared_begins the_day (preparation_over 2 4 5 6 (replicate 24 9) (replicate 2 9)) 2 4 5 6 (replicate 24 9) (replicate 2 9) (call (try_acquire 3) ∷ [])
    (other_runs (replicate 24 9) (replicate 2 9)) refl (λ z. z, tt) in
    (x.0, x.3)

pub refused_again : (after (day ++ (preparation 2 5 1 6 ∷ [])) ≡ noted the_day [] (saying (Refused BadShape)) the_day.world)
    × (after (day ++ (preparation_over 2 4 1 6 (replicate 23 9) (replicate 2 9) ∷ [])) ≡ noted the_day [] (saying (Refused BadShape)) the_day.world)
unfolding run next_item preparing perform foreign bit_at owner_at waiters_at set_cell set_waiters is_free is_held state_of state_at is_live leases_of holds_of same_hold is_in head_fits shape_fits health_fits registry_fits first step_release_of step_take_of step_waiters_of step_of run_steps_of boundary_of take_of late_stage_of second_stage_of lock_of find_of attempt_of retry_of give_back_of not_live not_releasable prepare_rules lease_rules script_rules lock_rules bucket_rules release_rules prepare_of drop_lease_of try_lock_of acquire_bucket_of release_all_of
refused_again = (refl, refl)

pub salvaged_then : (after (day ++ (salvage on_paper (replicate 3 9) [] ∷ [])) ≡ cold (world_of on_paper (replicate 24 0) (replicate 2 0)))
    × ((salvaging on_paper the_day.world.table the_day.world.health (replicate 3 9) []).0 ≡ Ok (1, 0))
unfolding run next_item preparing salvaging perform foreign bit_at owner_at waiters_at set_cell set_waiters is_free is_held state_of state_at is_live leases_of holds_of words_of same_hold is_in head_fits shape_fits health_fits registry_fits first step_take_of step_release_of step_waiters_of step_health_of step_of run_steps_of boundary_of take_of late_stage_of second_stage_of lock_of find_of attempt_of spin_of pause_of retry_of give_back_of rollback_of locks_of not_live bad_bindings not_releasable prepare_rules cell_rules lease_rules script_rules lock_rules bucket_rules release_rules locks_rules prepare_of acquire_of try_acquire_of drop_lease_of environment_of try_lock_of acquire_bucket_of release_all_of acquire_locks_of kept_of mended_cell mended_table mended_byte mended_health change_of changes_from changes_of held_from left_held over_of is_report_full mend_of go_over_of salvage_of
salvaged_then = (refl, refl)

-- `salvage_refused_stays`: with no report it is refused, and the day goes on
full_then : Begins the_day.world (salvage on_paper [] []) → ⊥
unfolding salvaging bit_at owner_at set_waiters is_free is_held state_of head_fits shape_fits health_fits first prepare_rules kept_of mended_cell mended_table mended_byte mended_health change_of changes_from changes_of held_from left_held over_of is_report_full mend_of go_over_of salvage_of
full_then d = let q : (Err salvaged.ReportFull) ≡ Ok (d.0, d.1) = d.2 in let z : ◌≡◌ {A = ℕ} 0 1 = cc in omega arith

pub unsalvaged_then : next_item the_day (salvage on_paper [] []) ≡ the_day
unsalvaged_then = salvage_refused_stays the_day on_paper [] [] full_then

pub both_sound : Sound prepared × Sound granted
both_sound = (day_sound [] _ refl, day_sound granting _ refl)

-- `changes_nothing`: number 12
pub mistake_refused : (answers granted mistake ≡ Refused (NotHeld 0)) × (leaves granted mistake ≡ granted)
unfolding run next_item preparing perform foreign bit_at owner_at waiters_at set_cell set_waiters is_free is_held state_of state_at is_live leases_of holds_of words_of same_hold is_in head_fits shape_fits health_fits registry_fits first step_take_of step_release_of step_waiters_of step_health_of step_of run_steps_of boundary_of take_of late_stage_of second_stage_of lock_of find_of attempt_of spin_of pause_of retry_of give_back_of rollback_of locks_of not_live bad_bindings not_releasable prepare_rules cell_rules lease_rules script_rules lock_rules bucket_rules release_rules locks_rules prepare_of acquire_of try_acquire_of drop_lease_of environment_of try_lock_of acquire_bucket_of release_all_of acquire_locks_of
mistake_refused = (refl, ap (λ (m : Made (World × Says)). m.seen.0) (changes_nothing granted mistake (NotHeld 0) refl (inr (inr (omega arith)))))

pub stale_unchanged : (r : Refusal) × (answers granted (drop_lease stale) ≡ Refused r) × (leaves granted (drop_lease stale) ≡ granted)
stale_unchanged =
    let x = refused_stale granted (drop_lease stale) stale refl refl in
    (x.0, ap (λ (m : Made (World × Says)). m.seen.1.answer) x.2, ap (λ (m : Made (World × Says)). m.seen.0) x.2)

pub stale_sixteen : (answers granted (drop_lease stale) ≡ Refused (StaleBoot 0)) × (answers granted (drop_preserving mine stale) ≡ Refused (StaleBoot 0))
    × (answers granted (release_all [] 0 both_boots) ≡ Refused (StaleBoot 1))
unfolding run next_item preparing perform foreign bit_at owner_at waiters_at set_cell set_waiters is_free is_held state_of state_at is_live leases_of holds_of words_of same_hold is_in head_fits shape_fits health_fits registry_fits first step_take_of step_release_of step_waiters_of step_health_of step_of run_steps_of boundary_of take_of late_stage_of second_stage_of lock_of find_of attempt_of spin_of pause_of retry_of give_back_of rollback_of locks_of not_live bad_bindings not_releasable prepare_rules cell_rules lease_rules script_rules lock_rules bucket_rules release_rules locks_rules prepare_of acquire_of try_acquire_of drop_lease_of environment_of try_lock_of acquire_bucket_of release_all_of acquire_locks_of
stale_sixteen = (
  (stale_is_16 granted (drop_lease stale) 0).1 (stale, _, alone refl, refl, refl),
  (stale_is_16 granted (drop_preserving mine stale) 0).1 (stale, _, beside mine (drops_beside mine stale), refl, refl),
  (stale_is_16 granted (release_all [] 0 both_boots) 1).1 (stale, _, listed both_boots _ 1 (to_release [] 0 both_boots) (omega arith) refl, refl, refl),
)

-- and only then: a dead lease of the head's own boot number is not refused by 16, at any position
pub mistake_not_sixteen : (i : ℕ) → answers granted mistake ≡ Refused (StaleBoot i) → ⊥
mistake_not_sixteen i e = let x = (stale_is_16 granted mistake i).0 e in go x.0 x.1 i x.2 x.4
  where
    go : (l : Lease) (ahead : List Rule) (p : ℕ) → Placed granted mistake l ahead p → is_stale granted.head l ≡ true → ⊥
    go l _ _ (alone o) s = differ (ap (is_stale granted.head) o ∙ s)
    go l _ _ (beside held o) s = elim o [ ]
    go l _ _ (listed leases ahead i o b e) s = elim o [ ]

-- `boot_stays`, `grant_is`: the day keeps its boot number, and what it grants has it
pub boot_kept : ((leaves prepared grant).head.boot ≡ 6) × ((lease_of 2 2 6).boot ≡ prepared.head.boot)
unfolding run next_item preparing perform foreign bit_at owner_at waiters_at set_cell set_waiters is_free is_held state_of state_at is_live leases_of holds_of words_of same_hold is_in head_fits shape_fits health_fits registry_fits first step_take_of step_release_of step_waiters_of step_health_of step_of run_steps_of boundary_of take_of late_stage_of second_stage_of lock_of find_of attempt_of spin_of pause_of retry_of give_back_of rollback_of locks_of not_live bad_bindings not_releasable prepare_rules cell_rules lease_rules script_rules lock_rules bucket_rules release_rules locks_rules prepare_of acquire_of try_acquire_of drop_lease_of environment_of try_lock_of acquire_bucket_of release_all_of acquire_locks_of
boot_kept = (boot_stays prepared grant, (grant_is prepared grant (lease_of 2 2 6) refl).1)

-- `crew_refused_lem`: "Crew {2,5},{5,2}: refusal 15, member 1."
pub two_members_refused : let m = crew_of (head_of 2 4 1 6) (replicate 24 0) (replicate 2 0) (2 ∷ 2 ∷ []) (2 ∷ 5 ∷ 5 ∷ 2 ∷ []) [] in
    (m.seen.0.answer ≡ Refused (BadCrew 1)) × (m.seen.0.moving ≡ 0)
unfolding head_fits shape_fits health_fits first total start_of all_within rises_from bad_lists bad_turns crew_rules crew_of
two_members_refused =
    (refl, ap (λ (m : Made (CrewReply × List ℕ)). m.seen.0.moving) (crew_refused_lem (head_of 2 4 1 6) (replicate 24 0) (replicate 2 0) (2 ∷ 2 ∷ []) (2 ∷ 5 ∷ 5 ∷ 2 ∷ []) [] (BadCrew 1) refl))

-- `crew_at_work_refused`: counters that are not one a cell
pub short_counters_refused : let m = crew_at_work_of (head_of 2 4 1 6) (replicate 24 0) (replicate 2 0) (2 ∷ []) (2 ∷ 5 ∷ []) [] (9 ∷ []) in
    (m.seen.0.answer ≡ Refused BadShape) × (m.seen.1.1 ≡ 9 ∷ [])
unfolding head_fits shape_fits health_fits first crew_at_work_rules crew_at_work_of
short_counters_refused =
    (refl, ap (λ (m : Made (CrewReply × (List ℕ × List ℕ))). m.seen.1.1) (crew_at_work_refused (head_of 2 4 1 6) (replicate 24 0) (replicate 2 0) (2 ∷ []) (2 ∷ 5 ∷ []) [] (9 ∷ []) BadShape refl))

pub two_granted : (answers prepared two_keys ≡ AllGranted) × ((perform prepared two_keys).seen.1.grants ≡ 0 ∷ 1 ∷ 6 ∷ 5 ∷ 2 ∷ 6 ∷ [])
    × (log_of prepared two_keys ≡ begun ++ (took by_caller 0 1 ∷ second)) × Live (leaves prepared two_keys) (hold_of 0 1)
unfolding run next_item preparing perform foreign bit_at owner_at waiters_at set_cell set_waiters is_free is_held state_of state_at is_live leases_of holds_of words_of same_hold is_in head_fits shape_fits health_fits registry_fits first step_take_of step_release_of step_waiters_of step_health_of step_of run_steps_of boundary_of take_of late_stage_of second_stage_of lock_of find_of attempt_of spin_of pause_of retry_of give_back_of rollback_of locks_of not_live bad_bindings not_releasable prepare_rules cell_rules lease_rules script_rules lock_rules bucket_rules release_rules locks_rules prepare_of acquire_of try_acquire_of drop_lease_of environment_of try_lock_of acquire_bucket_of release_all_of acquire_locks_of
two_granted = (refl, refl, refl, refl)

-- so the first is handed over
pub two_handed : HandsOver (answers prepared two_keys) (perform prepared two_keys).seen.1.grants (hold_of 0 1)
two_handed =
    elim (nothing_kept prepared two_keys 0 1 begun second (λ z. z) two_granted.2) [ inl x ↦ x.0 | inr y ↦ absurd (y.1 two_granted.3) ]

pub second_refused : (answers prepared bad_key ≡ RefusedAt (InvalidBucket 9) 1) × (log_of prepared bad_key ≡ begun ++ (took by_caller 0 1 ∷ undone))
unfolding run next_item preparing perform foreign bit_at owner_at waiters_at set_cell set_waiters is_free is_held state_of state_at is_live leases_of holds_of words_of same_hold is_in head_fits shape_fits health_fits registry_fits first step_take_of step_release_of step_waiters_of step_health_of step_of run_steps_of boundary_of take_of late_stage_of second_stage_of lock_of find_of attempt_of spin_of pause_of retry_of give_back_of rollback_of locks_of not_live bad_bindings not_releasable prepare_rules cell_rules lease_rules script_rules lock_rules bucket_rules release_rules locks_rules prepare_of acquire_of try_acquire_of drop_lease_of environment_of try_lock_of acquire_bucket_of release_all_of acquire_locks_of
second_refused = (refl, refl)

-- so it is given back, and the buffer is as it was
pub all_undone : (buffer_in (perform prepared bad_key) ≡ 7 ∷ 7 ∷ 7 ∷ 7 ∷ 7 ∷ 7 ∷ []) × (Live (leaves prepared bad_key) (hold_of 0 1) → ⊥)
all_undone =
    let back = nothing_new prepared bad_key (λ z. z) (subst Fails (sym second_refused.0) tt) in
    (back.0, (back.1 0 1 begun undone second_refused.1).1)

pub releases_named : (log_of granted step_one ≡ (boundary_run ∷ []) ++ (released by_script 5 1 ∷ []))
    × ((p : ℕ) × (1 ≤ p) × (p < 2))
    × (log_of granted late ≡ (attempt_begun ∷ boundary_run ∷ boundary_run ∷ took by_caller 3 3 ∷ boundary_run ∷ waiters_set 3 1 ∷ []) ++ (released by_caller 3 3 ∷ []))
unfolding run next_item preparing perform foreign bit_at owner_at waiters_at set_cell set_waiters is_free is_held state_of state_at is_live leases_of holds_of words_of same_hold is_in head_fits shape_fits health_fits registry_fits first step_take_of step_release_of step_waiters_of step_health_of step_of run_steps_of boundary_of take_of late_stage_of second_stage_of lock_of find_of attempt_of spin_of pause_of retry_of give_back_of rollback_of locks_of not_live bad_bindings not_releasable prepare_rules cell_rules lease_rules script_rules lock_rules bucket_rules release_rules locks_rules prepare_of acquire_of try_acquire_of drop_lease_of environment_of try_lock_of acquire_bucket_of release_all_of acquire_locks_of
releases_named =
    let step = (named granted step_one 5 1 (boundary_run ∷ []) []).0 refl in
    (refl, (step.0, step.1, step.2), refl)

-- `named_alone`
pub lone_named : (foreign granted 2 5 1).log ≡ [] ++ (released by_script 5 1 ∷ [])
unfolding run next_item preparing perform foreign bit_at owner_at waiters_at set_cell set_waiters is_free is_held state_of state_at is_live leases_of holds_of words_of same_hold is_in head_fits shape_fits health_fits registry_fits first step_take_of step_release_of step_waiters_of step_health_of step_of run_steps_of boundary_of take_of late_stage_of second_stage_of lock_of find_of attempt_of spin_of pause_of retry_of give_back_of rollback_of locks_of not_live bad_bindings not_releasable prepare_rules cell_rules lease_rules script_rules lock_rules bucket_rules release_rules locks_rules prepare_of acquire_of try_acquire_of drop_lease_of environment_of try_lock_of acquire_bucket_of release_all_of acquire_locks_of
lone_named = refl

-- `held_live`: (2,2) is in the held list of the call that is late Busy, and live before it
pub lease_held : (is_in lease (held_of late) ≡ true) × Live granted lease × (log_of granted late ≡ late_busy ++ []) × Live (now granted late_busy) lease
unfolding run next_item preparing perform foreign bit_at owner_at waiters_at set_cell set_waiters is_free is_held state_of state_at is_live leases_of holds_of words_of same_hold is_in head_fits shape_fits health_fits registry_fits first step_take_of step_release_of step_waiters_of step_health_of step_of run_steps_of boundary_of take_of late_stage_of second_stage_of lock_of find_of attempt_of spin_of pause_of retry_of give_back_of rollback_of locks_of not_live bad_bindings not_releasable prepare_rules cell_rules lease_rules script_rules lock_rules bucket_rules release_rules locks_rules prepare_of acquire_of try_acquire_of drop_lease_of environment_of try_lock_of acquire_bucket_of release_all_of acquire_locks_of
lease_held = (refl, refl, refl, held_live granted late lease late_busy [] refl refl refl)

pub three_reasons : (answers granted meets_holder ≡ Busy (reason.Held 2)) × (answers granted meets_waiters ≡ Busy reason.Before) × (answers granted late ≡ Busy (reason.After 3))
unfolding run next_item preparing perform foreign bit_at owner_at waiters_at set_cell set_waiters is_free is_held state_of state_at is_live leases_of holds_of words_of same_hold is_in head_fits shape_fits health_fits registry_fits first step_take_of step_release_of step_waiters_of step_health_of step_of run_steps_of boundary_of take_of late_stage_of second_stage_of lock_of find_of attempt_of spin_of pause_of retry_of give_back_of rollback_of locks_of not_live bad_bindings not_releasable prepare_rules cell_rules lease_rules script_rules lock_rules bucket_rules release_rules locks_rules prepare_of acquire_of try_acquire_of drop_lease_of environment_of try_lock_of acquire_bucket_of release_all_of acquire_locks_of
three_reasons = (refl, refl, refl)

-- `holder_lives`, `early_takes_nothing`, `late_is_spent`: the holder's lease is live, the call that met waiters took nothing, and serial 3 owns nothing
pub reasons_met : Live (leaves granted meets_holder) (hold_of 2 2) × TakesNothing (log_of granted meets_waiters) × Spent (leaves granted late) 3
reasons_met = (
  holder_lives granted meets_holder 2 tt three_reasons.0,
  (early_takes_nothing granted meets_waiters tt).0 three_reasons.1,
  late_is_spent granted late 3 tt both_sound.1.whole three_reasons.2,
)

-- `own_serial`
pub own_named : answers granted (competing_acquire (lease_of 2 2 6)) ≡ Busy (reason.Held 2)
unfolding run next_item preparing perform foreign bit_at owner_at waiters_at set_cell set_waiters is_free is_held state_of state_at is_live leases_of holds_of words_of same_hold is_in head_fits shape_fits health_fits registry_fits first step_take_of step_release_of step_waiters_of step_health_of step_of run_steps_of boundary_of competing_acquire_of take_of late_stage_of second_stage_of lock_of find_of attempt_of spin_of pause_of retry_of give_back_of rollback_of locks_of not_live bad_bindings not_releasable prepare_rules cell_rules lease_rules script_rules lock_rules bucket_rules release_rules locks_rules prepare_of acquire_of try_acquire_of drop_lease_of environment_of try_lock_of acquire_bucket_of release_all_of acquire_locks_of
own_named = refl

pub valve_is : (after valve).entries ≡ first_grant ∷ (meanwhile ++ (second_grant ∷ []))
unfolding run next_item preparing perform foreign bit_at owner_at waiters_at set_cell set_waiters is_free is_held state_of state_at is_live leases_of holds_of words_of same_hold is_in head_fits shape_fits health_fits registry_fits first step_take_of step_release_of step_waiters_of step_health_of step_of run_steps_of boundary_of take_of late_stage_of second_stage_of lock_of find_of attempt_of spin_of pause_of retry_of give_back_of rollback_of locks_of not_live bad_bindings not_releasable prepare_rules cell_rules lease_rules script_rules lock_rules bucket_rules release_rules locks_rules prepare_of acquire_of try_acquire_of drop_lease_of environment_of try_lock_of acquire_bucket_of release_all_of acquire_locks_of
valve_is = refl

pub valve_released : (a : Actor) × (before middle after : List Event)
    × (events_of meanwhile ++ second_grant.events ≡ before ++ (released a 2 1 ∷ (middle ++ (took by_caller 2 2 ∷ after))))
valve_released = two_writers rubbish boot valve boot_done [] meanwhile [] first_grant second_grant 2 1 2 valve_is refl refl

pub cold_refused : (answers damaged cold_keys ≡ RefusedAt (Damaged 1) 1)
unfolding run next_item preparing perform foreign bit_at owner_at waiters_at set_cell set_waiters is_free is_held state_of state_at is_live leases_of holds_of words_of same_hold is_in head_fits shape_fits health_fits registry_fits first step_take_of step_release_of step_waiters_of step_health_of step_of run_steps_of boundary_of take_of late_stage_of second_stage_of lock_of find_of attempt_of spin_of pause_of retry_of give_back_of rollback_of locks_of not_live bad_bindings not_releasable prepare_rules cell_rules lease_rules script_rules lock_rules bucket_rules release_rules locks_rules prepare_of acquire_of try_acquire_of drop_lease_of environment_of try_lock_of acquire_bucket_of release_all_of acquire_locks_of
cold_refused = refl

pub cold_rolled_back : buffer_in (perform damaged cold_keys) ≡ 9 ∷ 9 ∷ 9 ∷ 9 ∷ 9 ∷ 9 ∷ []
cold_rolled_back = (nothing_new damaged cold_keys (λ z. z) (subst Fails (sym cold_refused) tt)).0

-- one lease of one key was rolled back
pub cold_leases : RolledBack 4 registry (0 ∷ 0 ∷ 0 ∷ 1 ∷ []) 1 (log_of damaged cold_keys)
cold_leases = rollback_is damaged registry [] 0 [] (0 ∷ 0 ∷ 0 ∷ 1 ∷ []) (9 ∷ 9 ∷ 9 ∷ 9 ∷ 9 ∷ 9 ∷ []) (Damaged 1) 1 cold_refused

mended_granted : answers sick mended ≡ Granted (lease_of 6 1 6)
unfolding run next_item preparing perform foreign bit_at owner_at waiters_at set_cell set_waiters is_free is_held state_of state_at is_live leases_of holds_of words_of same_hold is_in head_fits shape_fits health_fits registry_fits first step_take_of step_release_of step_waiters_of step_health_of step_of run_steps_of boundary_of take_of late_stage_of second_stage_of lock_of find_of attempt_of spin_of pause_of retry_of give_back_of rollback_of locks_of not_live bad_bindings not_releasable prepare_rules cell_rules lease_rules script_rules lock_rules bucket_rules release_rules locks_rules prepare_of acquire_of try_acquire_of drop_lease_of environment_of try_lock_of acquire_bucket_of release_all_of acquire_locks_of
mended_granted = refl

-- `granted_healthy`
pub mended_healthy : Healthy (leaves sick mended) 6
mended_healthy = granted_healthy sick mended (lease_of 6 1 6) tt mended_granted

pub gone_bad_is : (answers prepared gone_bad ≡ Refused (Poisoned 1)) × (log_of prepared gone_bad ≡ begun ++ (took by_caller 6 1 ∷ bad_end))
unfolding run next_item preparing perform foreign bit_at owner_at waiters_at set_cell set_waiters is_free is_held state_of state_at is_live leases_of holds_of words_of same_hold is_in head_fits shape_fits health_fits registry_fits first step_take_of step_release_of step_waiters_of step_health_of step_of run_steps_of boundary_of take_of late_stage_of second_stage_of lock_of find_of attempt_of spin_of pause_of retry_of give_back_of rollback_of locks_of not_live bad_bindings not_releasable prepare_rules cell_rules lease_rules script_rules lock_rules bucket_rules release_rules locks_rules prepare_of acquire_of try_acquire_of drop_lease_of environment_of try_lock_of acquire_bucket_of release_all_of acquire_locks_of
gone_bad_is = (refl, refl)

-- so nothing is held, and the serial stays spent
pub gone_bad_leaves : (Live (leaves prepared gone_bad) (hold_of 6 1) → ⊥) × ((leaves prepared gone_bad).head.next ≡ 1 + number_of_lem takes (log_of prepared gone_bad))
gone_bad_leaves =
    let k = poisoned_holds_nothing prepared gone_bad (λ z. z) (ap refusal_in gone_bad_is.0) in
    ((k.0.1 6 1 begun bad_end gone_bad_is.1).1, k.1)

pub poisoned_behind : (answers prepared behind ≡ AllGranted) × (buffer_in (perform prepared behind) ≡ 2 ∷ 1 ∷ 6 ∷ 6 ∷ 2 ∷ 6 ∷ [])
    × ((leaves prepared behind).health ≡ 1 ∷ 0 ∷ [])
unfolding run next_item preparing perform foreign bit_at owner_at waiters_at set_cell set_waiters is_free is_held state_of state_at is_live leases_of holds_of words_of same_hold is_in head_fits shape_fits health_fits registry_fits first step_take_of step_release_of step_waiters_of step_health_of step_of run_steps_of boundary_of take_of late_stage_of second_stage_of lock_of find_of attempt_of spin_of pause_of retry_of give_back_of rollback_of locks_of not_live bad_bindings not_releasable prepare_rules cell_rules lease_rules script_rules lock_rules bucket_rules release_rules locks_rules prepare_of acquire_of try_acquire_of drop_lease_of environment_of try_lock_of acquire_bucket_of release_all_of acquire_locks_of
poisoned_behind = (refl, refl, refl)

at_key : (p : ℕ) (l : Hold) → hold_at (holds_of (buffer_in (perform prepared behind))) p ≡ l → p < 2 → AtKey p l
at_key p l e i =
    let k = locks_healthy prepared registry behind_script 0 [] behind_keys (9 ∷ 9 ∷ 9 ∷ 9 ∷ 9 ∷ 9 ∷ []) p poisoned_behind.0 i in
    subst (AtKey p) e ((k.0.0, k.0.1, k.0.2, k.0.4), k.1)

pub behind_healthy : AtKey 0 (hold_of 2 1) × Healthy (leaves prepared behind) 6
unfolding holds_of
behind_healthy = (at_key 0 (hold_of 2 1) (rw poisoned_behind.1) (omega arith), (at_key 1 (hold_of 6 2) (rw poisoned_behind.1) (omega arith)).1 refl)

-- ---- other callers: a foreign take of cell 3, and the call that it is; a boundary with a legal take and a dropped one, and the history that it is

pub other_takes : ((foreign prepared 1 3 0).log ≡ took by_script 3 1 ∷ []) × (answers prepared (try_acquire 3) ≡ Granted (lease_of 3 1 6))
unfolding run next_item preparing perform foreign bit_at owner_at waiters_at set_cell set_waiters is_free is_held state_of state_at is_live leases_of holds_of words_of same_hold is_in head_fits shape_fits health_fits registry_fits first step_take_of step_release_of step_waiters_of step_health_of step_of run_steps_of boundary_of take_of late_stage_of second_stage_of lock_of find_of attempt_of spin_of pause_of retry_of give_back_of rollback_of locks_of not_live bad_bindings not_releasable prepare_rules cell_rules lease_rules script_rules lock_rules bucket_rules release_rules locks_rules prepare_of acquire_of try_acquire_of drop_lease_of environment_of try_lock_of acquire_bucket_of release_all_of acquire_locks_of
other_takes = (refl, (take_is_call prepared 3 0 1 refl refl).0)

pub boundary_history : (log_of prepared boundary ≡ boundary_run ∷ took by_script 3 1 ∷ step_dropped ∷ released by_script 3 1 ∷ [])
    × (singles 6 (log_of prepared boundary) ≡ call (try_acquire 3) ∷ call (drop_lease (lease_of 3 1 6)) ∷ [])
unfolding run next_item preparing perform foreign bit_at owner_at waiters_at set_cell set_waiters is_free is_held state_of state_at is_live leases_of holds_of words_of same_hold is_in head_fits shape_fits health_fits registry_fits first step_take_of step_release_of step_waiters_of step_health_of step_of run_steps_of boundary_of take_of late_stage_of second_stage_of lock_of find_of attempt_of spin_of pause_of retry_of give_back_of rollback_of locks_of not_live bad_bindings not_releasable prepare_rules cell_rules lease_rules script_rules lock_rules bucket_rules release_rules locks_rules prepare_of acquire_of try_acquire_of drop_lease_of environment_of try_lock_of acquire_bucket_of release_all_of acquire_locks_of
boundary_history = (refl, refl)
