-- The premises can be met: a salvage that is done, one that is refused, one that leaves two cells with one owner; and a history with a salvage.
use Rattle.std.specs.Prelude.{ℕ, zero, suc, ◌+◌, ◌≡◌, refl, List, [], ◌∷◌, ◌++◌, false, get_or, take, replicate, Ok, Err}
use Rattle.std.proofs.Common.{sym, subst, arith}
use Rattle.types.specs.declared.SalvageRefusal.TheVariants.{ReportFull}
use Rattle.model.specs.Log.{Actor, Event, by_caller, attempt_begun, took, released}
use Rattle.model.specs.Arena.{head_of, lease_of, hold_of, bit_at, owner_at, set_cell, is_free, is_held, state_of, state_at, is_live, head_fits, shape_fits, health_fits}
use Rattle.model.specs.Refusals.{first}
use Rattle.model.specs.Lock.{take_of}
use Rattle.model.specs.Checks.{prepare_rules, cell_rules, lease_rules}
use Rattle.model.specs.Calls.{counts_of, prepare_of, acquire_of, try_acquire_of, drop_lease_of}
use Rattle.model.specs.Salvage.{Salvage, kept_of, mended_cell, mended_table, mended_byte, mended_health, change_of, changes_from, changes_of, held_from, left_held, over_of, is_report_full, concluded, mend_of, go_over_of, salvage_of}
use Rattle.types.specs.declared.Answer.TheVariants as answer
use Rattle.types.specs.declared.Head.{Head}
use Rattle.types.specs.declared.Refusal.TheVariants.{NotHeld}
use Rattle.history.specs.World.{World, world_of, cells, Live, Free, Apart, Sound, now, Lawful, Spent, bits, number_of_lem, takes, releases}
use Rattle.history.specs.Items.{drop_lease, try_acquire, perform, Item, call, preparation, salvage, salvage_over, says, saying, Entry, entry_of, Course, course_of, cold, history_of, preparing, salvaging, next_item, run}
use Rattle.history.specs.Statements.{answers, leaves, rescued, Begins, NoStart}
use Rattle.history.specs.Tests.{differ}
use Rattle.history.specs.Events.{lives}
use Rattle.history.specs.Callers.{ShapeFits}
use Rattle.salvage_theory.specs.Statements.{answer_in, table_in, health_in, report_in, list_in, NoRoom, undone_of, Mends, OwnersDiffer, Salvages, other, AllSpare}

-- one header of three cells, the next serial 9, boot number 6
abbrev pub paper : Head
paper = head_of 1 3 9 6

-- held by 5; damaged and waited for; held by 8 and waited for; header 0 has byte 7
abbrev pub found : List ℕ
found = 1 ∷ 5 ∷ 0 ∷ 2 ∷ 0 ∷ 4 ∷ 1 ∷ 8 ∷ 1 ∷ []

abbrev pub sick : List ℕ
sick = 7 ∷ []

-- a report with room for four entries and two words, a list with room for three cells
abbrev pub first_time : Salvage
first_time = salvage_of paper found sick (replicate 14 77) (replicate 3 77)

-- the first and the last cell held by 5
abbrev pub doubled : List ℕ
doubled = 1 ∷ 5 ∷ 0 ∷ 0 ∷ 0 ∷ 0 ∷ 1 ∷ 5 ∷ 0 ∷ []

abbrev by_one_owner : Salvage
by_one_owner = salvage_of paper doubled (0 ∷ []) [] (replicate 2 77)

-- the arena that it leaves
abbrev pub left : World
left = world_of paper (table_in by_one_owner) (health_in by_one_owner)

-- what comes out, computed
pub record Figures : Type 0 where
  pub is_done : answer_in first_time ≡ Ok (4, 2)
  pub is_reported : report_in first_time ≡ 3 ∷ 2 ∷ 0 ∷ 5 ∷ 4 ∷ 0 ∷ 8 ∷ 1 ∷ 0 ∷ 9 ∷ 7 ∷ 1 ∷ 77 ∷ 77 ∷ []
  pub is_listed : list_in first_time ≡ 0 ∷ 2 ∷ 77 ∷ []
  pub first_owner : owner_at (table_in first_time) (get_or (list_in first_time) 0 0) ≡ 5
  pub second_owner : owner_at (table_in first_time) (get_or (list_in first_time) 1 0) ≡ 8
  -- a report of eleven words has room for three entries only
  pub is_full : answer_in (salvage_of paper found sick (replicate 11 77) (replicate 3 77)) ≡ Err ReportFull
  pub doubled_done : answer_in by_one_owner ≡ Ok (0, 2)
  pub one_owner : owner_at (table_in by_one_owner) (get_or (list_in by_one_owner) 0 0) ≡ owner_at (table_in by_one_owner) (get_or (list_in by_one_owner) 1 0)
  pub left_fits : ShapeFits left
  pub first_live : Live left (hold_of 0 5)
  pub last_live : Live left (hold_of 2 5)

-- ---- any items before it, any after it: cells 0 and 2 are taken; the dip leaves waiters of cell 1, damages the bit of cell 2 and makes the
-- health byte 7; the paper has the next serial 3. The salvage frees cell 2, leaves cell 0 as unconfirmed and the header poisoned. The owner of cell 0
-- drops it; the lease (2,2) is lost, and refused; cell 2 is granted anew

abbrev pub rubbish : World
rubbish = world_of (head_of 7 7 7 7) (replicate 9 7) (7 ∷ [])

abbrev pub boot : Item
boot = preparation 1 3 1 6

abbrev pub before_dip : Course
before_dip = run (cold rubbish) (boot ∷ call (try_acquire 0) ∷ call (try_acquire 2) ∷ [])

abbrev pub on_paper : Head
on_paper = head_of 1 3 3 6

abbrev pub after_dip : List ℕ
after_dip = 1 ∷ 1 ∷ 0 ∷ 0 ∷ 0 ∷ 4 ∷ 7 ∷ 2 ∷ 0 ∷ []

abbrev pub rescue : Item
rescue = salvage_over on_paper after_dip (7 ∷ []) (replicate 12 77) (replicate 2 77)

abbrev went_over : Salvage
went_over = salvage_of on_paper after_dip (7 ∷ []) (replicate 12 77) (replicate 2 77)

abbrev pub afterwards : List Item
afterwards = call (drop_lease (lease_of 0 1 6)) ∷ call (drop_lease (lease_of 2 2 6)) ∷ call (try_acquire 2) ∷ []

-- the salvaged world: cell 0 held by 1, the header poisoned
abbrev pub salvaged_world : World
salvaged_world = world_of on_paper (1 ∷ 1 ∷ replicate 7 0) (1 ∷ [])

abbrev entries_then : List Entry
entries_then =
    entry_of (released by_caller 0 1 ∷ []) (saying answer.Done)
    ∷ entry_of [] (saying (answer.Refused (NotHeld 0)))
    ∷ entry_of (attempt_begun ∷ took by_caller 2 3 ∷ []) (says (answer.Granted (lease_of 2 3 6)) (counts_of 1 0 0 0) 0 [])
    ∷ []

abbrev pub went_on : Course
went_on = course_of salvaged_world entries_then (world_of (head_of 1 3 4 6) (0 ∷ 0 ∷ 0 ∷ 0 ∷ 0 ∷ 0 ∷ 1 ∷ 3 ∷ 0 ∷ []) (1 ∷ []))

pub record Story : Type 0 where
  -- before the dip both leases are live
  pub lives_before : Live before_dip.world (hold_of 0 1) × Live before_dip.world (hold_of 2 2)
  pub is_done : answer_in went_over ≡ Ok (4, 1)
  pub is_listed : list_in went_over ≡ 0 ∷ 77 ∷ []
  pub begins_anew : next_item before_dip rescue ≡ cold salvaged_world
  pub is_rescued : rescued on_paper after_dip (7 ∷ []) (replicate 12 77) (replicate 2 77) ≡ salvaged_world
  pub lives_after : Live salvaged_world (hold_of 0 1)
  pub goes_on : run before_dip (rescue ∷ afterwards) ≡ went_on

-- the premises of what holds from a salvage
abbrev pub end : Course
end = run before_dip (rescue ∷ afterwards)

-- `unconfirmed_alone`: cell 0 is Busy, its lease is dropped, and then it is granted
abbrev pub valve : List Item
valve = call (try_acquire 0) ∷ call (drop_lease (lease_of 0 1 6)) ∷ call (try_acquire 0) ∷ []

-- `dead_over_salvages`: that salvage, and cell 0 taken; then a dip that leaves cell 2 alone held, by 3, and a salvage of that; serial 2 is dead
abbrev pub more : List Item
more =
    salvage (head_of 1 3 4 6) [] (77 ∷ []) ∷ call (try_acquire 0)
    ∷ salvage_over (head_of 1 3 5 6) went_on.world.table (9 ∷ []) (replicate 3 77) (77 ∷ []) ∷ []

abbrev pub whole_day : List Item
whole_day = call (try_acquire 0) ∷ call (try_acquire 2) ∷ rescue ∷ afterwards

-- and what it does not say: one cell, free, serial 1 dead. A dip writes 1 and 1 into its bit and owner, and a salvage of what it left keeps them:
-- serial 1 owns again, and no preparation stands between
abbrev pub one_free : World
one_free = world_of (head_of 1 1 2 6) (0 ∷ 0 ∷ 0 ∷ []) (0 ∷ [])
