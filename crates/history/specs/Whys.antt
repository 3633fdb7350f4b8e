-- The reasons, read off the table of `Why`; a holder lives, a late serial is spent.
-- ---- the last event of a log
use Rattle.std.specs.Prelude.{ℕ, ◌*◌, ◌≤◌, ◌<◌, ◌≡◌, refl, List, [], ◌∷◌, ◌++◌, Bool, true, false, ltb, get_or}
use Rattle.std.proofs.Common.{sym, ap, ◌∙◌, subst, append_assoc, inl, inr, arith, ltb-true, ltb-false}
use Rattle.std.proofs.Math.ListN.{get_or-eq_default}
use Rattle.std.proofs.lemmas.Bool.{not-false}
use Rattle.model.specs.Log.{Event, by_caller, by_script, attempt_begun, boundary_run, yielded, spun, step_dropped, took, released, waiters_set, health_set, held_all_lem, added}
use Rattle.model.specs.Arena.{hold_in, header_of, hold_of, bit_at, owner_at, waiters_at, state_at, is_live}
use Rattle.model.specs.Lock.{take_of}
use Rattle.model.specs.Checks.{lease_rules}
use Rattle.model.specs.Calls.{acquire_of}
use Rattle.types.specs.declared.Answer.{Answer}
use Rattle.types.specs.declared.Answer.TheVariants.{Busy}
use Rattle.types.specs.declared.Counts.{Counts}
use Rattle.types.specs.declared.Reason.TheVariants.{Held, Before, After}
use Rattle.types.specs.declared.State.{State}
use Rattle.types.specs.declared.State.TheVariants as state
use Rattle.laws.specs.Words.{waiters_set_cell}
use Rattle.history.specs.World.{World, cells, Live, after_event, now, Lawful, Spent, number_of_lem, boundaries, caller_releases}
use Rattle.history.specs.Items.{Call, try_acquire, drop_lease, read_permission, competing_acquire, release_then_handoff, foreign_release, drop_preserving, acquire_preserving, environment, try_lock, transactional, acquire_bucket, release_all, acquire_locks, acquire_sorted, crew, crew_at_work, IsCrew, asked, perform}
use Rattle.history.specs.Statements.{answer_in, leaves, log_of}
use Rattle.history.specs.Events.{Good, Fit, good, fit, good_after, lives, live_before, new_owner}
use Rattle.history.specs.CountedCalls.{calls_counted}
use Rattle.history.specs.Judged.{performed}
use Rattle.history.specs.Rollback.{Foreigner}
use Rattle.history.specs.Tests.{Stands, is_free_lem, is_held_lem, is_damaged, stands, alive, live, state_held}
use Rattle.history.specs.Reasons.{boundaries_in, LocksOnce, TakesNothing, ReasonsAre, EarlyTakesNothing, HolderLives, LateIsSpent, OwnSerial}

-- ---- each reason, both ways, of an attempt that looked

-- taken and, last, released; the header was healthy and somebody waited
abbrev pub GaveUp : (buckets c : ℕ) (log : List Event) (t g : List ℕ) → ℕ → Type 0
GaveUp buckets c log t g s =
    (x : List Event) × (y : List Event) × (log ≡ (x ++ (took by_caller c s ∷ y)) ++ (released by_caller c s ∷ []))
    × (get_or g (header_of buckets c) 0 ≡ 0) × (waiters_at t c ≡ 0 → ⊥)
