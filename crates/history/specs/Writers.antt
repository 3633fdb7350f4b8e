-- Two writers: a cell that an answer handed over is taken again only behind a release of that lease.
-- ---- one log: between a live lease and the next take of its cell stands a release of it
use Rattle.std.specs.Prelude.{ℕ, zero, suc, ◌+◌, ◌<◌, ◌≡◌, refl, List, [], ◌∷◌, ◌++◌, ◌⊎◌, length}
use Rattle.std.proofs.Common.{sym, ap, ◌∙◌, subst, append_assoc, inl, inr, arith}
use Rattle.std.proofs.Math.Decide.{ℕ_discrete}
use Rattle.std.proofs.Math.Seq.{take-length}
use Rattle.types.specs.Checks.{SalvageAnswer}
use Rattle.model.specs.Log.{Made, Actor, Event, by_caller, attempt_begun, boundary_run, yielded, spun, step_dropped, took, released, waiters_set, health_set, held_all_lem, added}
use Rattle.model.specs.Arena.{hold_of, hold_in, holds_of, set_cell}
use Rattle.model.specs.Foreign.{Setting, protecting, flow_of}
use Rattle.model.specs.Lock.{take_of, lock_of, outcome_of, answer_of, attempt_of, retry_of, attempt_limit, none_yet, settled, hold_at, no_hold, rollback_of, after_key, binding_at, bucket_at, locks_of}
use Rattle.model.specs.Checks.{count_in}
use Rattle.model.specs.Calls.{given, starting, acquire_of, prepare_of}
use Rattle.model.specs.Sorted.{cells_asked, cells_sorted, sorted_keys, first_key, asked_first}
use Rattle.types.specs.declared.Answer.{Answer}
use Rattle.types.specs.declared.Answer.TheVariants.{Done, Cell, Granted, AllGranted, Busy, Refused, RefusedAt}
use Rattle.types.specs.declared.Head.{Head}
use Rattle.types.specs.declared.Hold.{Hold}
use Rattle.types.specs.declared.Outcome.{Outcome}
use Rattle.types.specs.declared.Outcome.TheVariants as outcome
use Rattle.types.specs.declared.Reason.{Reason}
use Rattle.types.specs.declared.Refusal.{Refusal}
use Rattle.types.specs.declared.Run.{Run}
use Rattle.laws.specs.Prepared.{Outcome as Prepared, Came, was_done, was_refused, came}
use Rattle.history.specs.World.{World, Live, after_event, now, Lawful, Releases, Unreleased, world_of}
use Rattle.history.specs.Items.{Call, Says, ByKeys, in_order, any_order, try_acquire, drop_lease, read_permission, competing_acquire, release_then_handoff, foreign_release, drop_preserving, acquire_preserving, environment, try_lock, transactional, acquire_bucket, release_all, acquire_locks, acquire_sorted, crew, crew_at_work, perform, Item, call, foreign_step, preparation, prepared_by, preparing, next_item, run, cold, asked, Entry, entry_of, events_of, Course, key_cell, preparation_over, salvage, salvage_over, salvaged_by, salvaging}
use Rattle.history.specs.Statements.{HandsOver, answers, log_of, Gives, Through, buffer_in}
use Rattle.history.specs.Answers.{AsksOne, BusyOrRefused, LocksRefused, NeverTwice, NoneTakes, NotOverLive, OnceEach, TakesParted, TwoWriters, Hands, AloneUntilReleased}
use Rattle.history.specs.Tests.{free_words, holds_equal, In, in_take}
use Rattle.history.specs.Events.{Fit, fit, fit_after, keep_after, lives, taken_live, good}
use Rattle.history.specs.Judged.{acting, judged_at, sorted_locks, past_checks, performed}
use Rattle.history.specs.Handed.{TakenIn}

-- ---- what a course keeps

-- from the world w on, each entry took what it hands over, and left it live
abbrev pub Honest : World → Entry → Type 0
Honest w e = (l : Hold) → Hands e l → TakenIn w.head.next l e.events × Live (now w e.events) l

abbrev pub Fair : World → List Entry → Type 0
Fair w [] = Unit {0}
Fair w (e ∷ es) = Honest w e × Fair (now w e.events) es

-- ---- at an entry

-- the world before an entry, and the entries behind it
pub record At (w : World) (i : Entry) (z : List Entry) : Type 0 where
  pub honest : Honest w i
  pub fits : Fit (now w i.events)
  pub lawful : Lawful (now w i.events) (events_of z)
  pub fair : Fair (now w i.events) z

-- what such a call answers
abbrev pub One : Answer → Type 0
One Done = ⊥
One (Cell c) = ⊥
One (Granted l) = Unit {0}
One AllGranted = ⊥
One (Busy why) = Unit {0}
One (Refused r) = Unit {0}
One (RefusedAt r p) = ⊥

-- multi-lock grants all, or is refused
abbrev pub AllOrRefused : Answer → Type 0
AllOrRefused Done = ⊥
AllOrRefused (Cell c) = ⊥
AllOrRefused (Granted l) = ⊥
AllOrRefused AllGranted = Unit {0}
AllOrRefused (Busy why) = ⊥
AllOrRefused (Refused r) = Unit {0}
AllOrRefused (RefusedAt r p) = Unit {0}
