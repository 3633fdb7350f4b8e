-- Examples that meet the premises of each theorem, so that none speaks of nothing. By computation, on document 01's bench arena: H 2, B 4,
-- registry 0, 1, 1, first serial 1, boot number 6.
-- ---- a day
use Rattle.std.specs.Prelude.{ℕ, suc, zero, ◌+◌, ◌≤◌, ◌<◌, ◌≡◌, refl, List, [], ◌∷◌, ◌++◌, true, replicate}
use Rattle.std.proofs.Common.{sym, ap, ◌∙◌, subst, inl, inr, arith}
use Rattle.model.specs.Log.{Made, Event, by_caller, by_script, attempt_begun, boundary_run, took, released, waiters_set, health_set, Actor, step_dropped}
use Rattle.model.specs.Arena.{head_of, lease_of, is_stale, hold_of, bit_at, owner_at, waiters_at, set_cell, set_waiters, is_free, is_held, state_of, state_at, is_live, leases_of, holds_of, words_of, same_hold, is_in, head_fits, shape_fits, health_fits, registry_fits}
use Rattle.model.specs.Refusals.{Rule, first}
use Rattle.model.specs.Answers.{refusal_in}
use Rattle.model.specs.Foreign.{step_take_of, step_release_of, step_waiters_of, step_health_of, step_of, run_steps_of, boundary_of}
use Rattle.model.specs.Lock.{take_of, late_stage_of, second_stage_of, lock_of, find_of, attempt_of, spin_of, pause_of, retry_of, give_back_of, rollback_of, hold_at, locks_of}
use Rattle.model.specs.Checks.{not_live, bad_bindings, not_releasable, prepare_rules, cell_rules, lease_rules, script_rules, lock_rules, bucket_rules, release_rules, locks_rules}
use Rattle.model.specs.Calls.{prepare_of, acquire_of, try_acquire_of, drop_lease_of, competing_acquire_of, try_lock_of, acquire_bucket_of, release_all_of, acquire_locks_of, environment_of, counts_of}
use Rattle.model.specs.Salvage.{kept_of, mended_cell, mended_table, mended_byte, mended_health, change_of, changes_from, changes_of, held_from, left_held, over_of, is_report_full, mend_of, go_over_of, salvage_of}
use Rattle.model.specs.Crew.{total, start_of, all_within, rises_from, bad_lists, bad_turns, crew_rules, crew_at_work_rules, crew_of, crew_at_work_of}
use Rattle.types.specs.declared.Answer.TheVariants.{Done, Granted, AllGranted, Busy, Refused, RefusedAt}
use Rattle.types.specs.declared.CrewReply.{CrewReply}
use Rattle.types.specs.declared.Head.{Head}
use Rattle.types.specs.declared.Hold.{Hold}
use Rattle.types.specs.declared.Reason.TheVariants as reason
use Rattle.types.specs.declared.Lease.{Lease}
use Rattle.types.specs.declared.Refusal.{Refusal}
use Rattle.types.specs.declared.Refusal.TheVariants.{StaleBoot, Poisoned, InvalidBucket, NotHeld, BadCrew, Damaged, BadShape}
use Rattle.history.specs.World.{World, world_of, Live, Healthy, now, Sound, Spent, Unreleased, number_of_lem, takes}
use Rattle.history.specs.Items.{Call, Says, salvage, salvaging, acquire_bucket, try_lock, drop_lease, competing_acquire, drop_preserving, release_all, acquire_locks, environment, try_acquire, perform, foreign, Item, call, foreign_step, preparation, Course, course_of, cold, next_item, run, preparing, held_of, Entry, noted, preparation_over, entry_of, events_of, history_of, saying, says}
use Rattle.history.specs.Statements.{drops_beside, to_release, Placed, alone, beside, listed, Begins, Fresh, Ledger, other_runs, answers, leaves, log_of, HandsOver, RolledBack, buffer_in, Fails}
use Rattle.history.specs.Reasons.{TakesNothing}
use Rattle.history.specs.Callers.{singles}
use Rattle.history.specs.Tests.{differ}
use Rattle.history.specs.Events.{lives}

abbrev pub registry : List ℕ
registry = 0 ∷ 1 ∷ 1 ∷ []

-- RAM after a cold start, and the preparation over it
abbrev pub rubbish : World
rubbish = world_of (head_of 7 7 7 7) (replicate 24 7) (replicate 2 7)

abbrev pub boot : Item
boot = preparation 2 4 1 6

-- key (0,2) is granted: cell 2, serial 2; in its first boundary the script takes cell 5, serial 1
abbrev pub grant : Call
grant = acquire_bucket registry (1 ∷ 5 ∷ 0 ∷ 5 ∷ 0 ∷ 0 ∷ []) 0 [] 0 2

-- holding (2,2), cell 3 is taken with serial 3; somebody waits for it in the third boundary: Busy
abbrev pub late : Call
late = try_lock (5 ∷ 0 ∷ 0 ∷ 5 ∷ 0 ∷ 0 ∷ 3 ∷ 3 ∷ 1 ∷ 5 ∷ 0 ∷ 0 ∷ []) 0 (2 ∷ 2 ∷ 6 ∷ []) 3

-- cell 2 is held, but not by serial 7: refused
abbrev pub mistake : Call
mistake = drop_lease (lease_of 2 7 6)

-- between two calls the other holder gives cell 5 back
abbrev lone : Item
lone = foreign_step 2 5 1

-- all that is held is given back
abbrev over : Call
over = release_all [] 0 (2 ∷ 2 ∷ 6 ∷ [])

abbrev pub day : List Item
day = call grant ∷ call late ∷ call mistake ∷ lone ∷ call over ∷ []

abbrev pub after : List Item → Course
after items = run (cold rubbish) (boot ∷ items)

-- ---- what comes of it

abbrev pub granting : List Event
granting = attempt_begun ∷ boundary_run ∷ took by_script 5 1 ∷ boundary_run ∷ took by_caller 2 2 ∷ boundary_run ∷ []

abbrev pub late_busy : List Event
late_busy = attempt_begun ∷ boundary_run ∷ boundary_run ∷ took by_caller 3 3 ∷ boundary_run ∷ waiters_set 3 1 ∷ released by_caller 3 3 ∷ []

abbrev pub given_back : List Event
given_back = released by_script 5 1 ∷ []

abbrev pub ending : List Event
ending = released by_caller 2 2 ∷ boundary_run ∷ []

abbrev pub prepared : World
prepared = world_of (head_of 2 4 1 6) (replicate 24 0) (replicate 2 0)

-- every item does what was said of it; at the end all is free, the next serial is 4, and cell 3 is still waited for
abbrev pub entries : List Entry
entries =
    entry_of granting (says (Granted (lease_of 2 2 6)) (counts_of 1 3 0 0) 2 [])
    ∷ entry_of late_busy (says (Busy (reason.After 3)) (counts_of 1 3 0 0) 4 [])
    ∷ entry_of [] (saying (Refused (NotHeld 0)))
    ∷ entry_of given_back (saying Done)
    ∷ entry_of ending (says Done (counts_of 0 1 0 0) 0 [])
    ∷ []

abbrev pub the_day : Course
the_day = course_of prepared entries (world_of (head_of 2 4 4 6) (set_waiters (replicate 24 0) 3 1) (replicate 2 0))

-- `forgets`: the same day over other RAM
abbrev pub other_rubbish : World
other_rubbish = world_of (head_of 0 0 0 0) (replicate 24 4_294_967_295) (replicate 2 255)

-- `keeps`: the lease (2,2) is live when it was granted; a Busy try_lock, a refused call and a foreign step later nothing has released it, and
-- it is live; `release_all` releases it, and it is not
abbrev pub lease : Hold
lease = hold_of 2 2

-- `prepared_begins`: such a stretch, with the first serial 5 and cell 3 taken
abbrev pub next_day : Course
next_day = run the_day (preparation_over 2 4 5 6 (replicate 24 9) (replicate 2 9) ∷ call (try_acquire 3) ∷ [])

-- ---- document 02, L6: a salvage at the end of the day, with the head in force on paper. Cell 3 is waited for, so its report has one entry

abbrev pub on_paper : Head
on_paper = head_of 2 4 4 6

-- ---- one call, in the prepared world and in the one after the grant

abbrev pub granted : World
granted = now prepared granting

-- ---- document 02, L8: the same cell and serial, from another boot. `refused_stale`, `stale_is_16`: alone, beside a held list that is fine, where 16 comes
-- before 13, and behind the lease of this boot in a list, where 16 comes before 14
abbrev pub stale : Lease
stale = lease_of 2 2 5

abbrev pub mine : List ℕ
mine = 2 ∷ 2 ∷ 6 ∷ []

abbrev pub both_boots : List ℕ
both_boots = 2 ∷ 2 ∷ 6 ∷ 2 ∷ 2 ∷ 5 ∷ []

-- `nothing_kept`, where all is granted: cells 0 and 5, serials 1 and 2
abbrev pub two_keys : Call
two_keys = acquire_locks registry [] 0 [] (0 ∷ 0 ∷ 1 ∷ 1 ∷ []) (7 ∷ 7 ∷ 7 ∷ 7 ∷ 7 ∷ 7 ∷ [])

abbrev pub begun : List Event
begun = attempt_begun ∷ boundary_run ∷ boundary_run ∷ []

abbrev pub second : List Event
second = boundary_run ∷ attempt_begun ∷ boundary_run ∷ boundary_run ∷ took by_caller 5 2 ∷ boundary_run ∷ []

-- `nothing_new`, `rollback_is`: the second key's bucket is refused after the first key's cell was taken
abbrev pub bad_key : Call
bad_key = acquire_locks registry [] 0 [] (0 ∷ 0 ∷ 0 ∷ 9 ∷ []) (7 ∷ 7 ∷ 7 ∷ 7 ∷ 7 ∷ 7 ∷ [])

abbrev pub undone : List Event
undone = boundary_run ∷ attempt_begun ∷ released by_caller 0 1 ∷ boundary_run ∷ []

-- `named`: a script's release, by its step 1; the caller's release of (3,3), which it took
abbrev pub step_one : Call
step_one = environment (0 ∷ 0 ∷ 0 ∷ 2 ∷ 5 ∷ 1 ∷ []) 1 []

-- ---- why it is Busy: cell 2 held by serial 2, waiters of cell 3 seen before, waiters of cell 3 seen after

abbrev pub meets_holder : Call
meets_holder = try_lock [] 0 [] 2

abbrev pub meets_waiters : Call
meets_waiters = try_lock (3 ∷ 3 ∷ 1 ∷ 5 ∷ 0 ∷ 0 ∷ []) 0 [] 3

-- ---- `two_writers`: cell 2 is granted, Busy, given back, granted again

abbrev pub valve : List Item
valve = call (try_acquire 2) ∷ call (try_acquire 2) ∷ call (drop_lease (lease_of 2 1 6)) ∷ call (try_acquire 2) ∷ []

abbrev pub first_grant : Entry
first_grant = entry_of (attempt_begun ∷ took by_caller 2 1 ∷ []) (says (Granted (lease_of 2 1 6)) (counts_of 1 0 0 0) 0 [])

abbrev pub meanwhile : List Entry
meanwhile = entry_of (attempt_begun ∷ []) (says (Busy (reason.Held 1)) (counts_of 1 0 0 0) 0 []) ∷ entry_of (released by_caller 2 1 ∷ []) (saying Done) ∷ []

abbrev pub second_grant : Entry
second_grant = entry_of (attempt_begun ∷ took by_caller 2 2 ∷ []) (says (Granted (lease_of 2 2 6)) (counts_of 1 0 0 0) 0 [])

-- ---- cold RAM: every cell is damaged but cell 0, and nobody waits for cell 1. The first key is locked, the second is refused as damaged, the first
-- is given back

abbrev pub damaged : World
damaged = world_of (head_of 2 4 1 6) (0 ∷ 0 ∷ 0 ∷ 7 ∷ 7 ∷ 0 ∷ replicate 18 7) (replicate 2 0)

abbrev pub cold_keys : Call
cold_keys = acquire_locks registry [] 0 [] (0 ∷ 0 ∷ 0 ∷ 1 ∷ []) (9 ∷ 9 ∷ 9 ∷ 9 ∷ 9 ∷ 9 ∷ [])

-- ---- document 02, L3, health read after the lock. Cell 6 is of header 1

-- header 1 is poisoned, and mended in the first boundary: in time for a call by cell
abbrev pub sick : World
sick = world_of (head_of 2 4 1 6) (replicate 24 0) (0 ∷ 1 ∷ [])

abbrev pub mended : Call
mended = try_lock (4 ∷ 1 ∷ 0 ∷ 5 ∷ 0 ∷ 0 ∷ []) 0 [] 6

-- `poisoned_holds_nothing`: the header is poisoned in the third boundary
abbrev pub gone_bad : Call
gone_bad = try_lock (5 ∷ 0 ∷ 0 ∷ 5 ∷ 0 ∷ 0 ∷ 4 ∷ 1 ∷ 1 ∷ []) 0 [] 6

abbrev pub bad_end : List Event
bad_end = boundary_run ∷ health_set 1 1 ∷ released by_caller 6 1 ∷ []

-- `locks_healthy`, and what it does not say. Keys (0,2) and (1,2): the first is granted while its header 0 is healthy; the
-- second key's first boundary poisons header 0. Health is read again for the key at hand alone, so the call grants both.
-- The last key's header is healthy in what the call leaves, the first key's is not
abbrev pub behind_keys : List ℕ
behind_keys = 0 ∷ 2 ∷ 1 ∷ 2 ∷ []

abbrev pub behind_script : List ℕ
behind_script = 5 ∷ 0 ∷ 0 ∷ 5 ∷ 0 ∷ 0 ∷ 5 ∷ 0 ∷ 0 ∷ 4 ∷ 0 ∷ 1 ∷ []

abbrev pub behind : Call
behind = acquire_locks registry behind_script 0 [] behind_keys (9 ∷ 9 ∷ 9 ∷ 9 ∷ 9 ∷ 9 ∷ [])

-- a key's lease at its point, and the last key's at the end
abbrev pub AtKey : ℕ → Hold → Type 0
AtKey p l =
    ((before after : List Event) × (log_of prepared behind ≡ before ++ after) × Healthy (now prepared before) l.cell)
    × (p + 1 ≡ 2 → Healthy (leaves prepared behind) l.cell)

abbrev pub boundary : Call
boundary = environment (1 ∷ 3 ∷ 0 ∷ 1 ∷ 3 ∷ 0 ∷ 2 ∷ 3 ∷ 1 ∷ []) 0 []
