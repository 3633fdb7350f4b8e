-- Document 02, L3: what is granted is on a header that was healthy at the second reading.
-- ---- a grant of a lock, an attempt, a retry
use Prim.Native.Nat.{ℕ, zero, suc, ◌+◌, ◌≤◌, ◌<◌}
use Rattle.std.proofs.Math.Path.{◌≡◌, refl, subst}
use Rattle.std.proofs.Common.{sym, ap, ◌∙◌, zero-add, arith}
use mathlib.Core.List.{List, [], ◌∷◌, ◌++◌, append_assoc, append-nil}
use Rattle.std.specs.Prelude.{◌⊎◌, length, get_or}
use Rattle.std.proofs.Math.Logic.{inl, inr}
use Rattle.std.proofs.Math.Decide.{ℕ_discrete}
use Rattle.std.proofs.Math.ListN.{length-append, get_or-append}
use Rattle.std.proofs.Math.Seq.{get_or-append_seam}
use Rattle.types.specs.Checks.{Found}
use Rattle.model.specs.Log.{Made, Event, by_caller, attempt_begun, took}
use Rattle.model.specs.Arena.{hold_in, header_of, hold_of, holds_of, lease_under}
use Rattle.model.specs.Answers.{refusal_in}
use Rattle.model.specs.Foreign.{Setting, protecting, flow_of}
use Rattle.model.specs.Lock.{lock_of, answer_of, settled, find_of, attempt_at, attempt_of, pause_of, is_busy, retry_of, attempt_limit, none_yet, no_hold, hold_at, rollback_of, after_key, binding_at, bucket_at, Locks, locks_of}
use Rattle.model.specs.Checks.{count_in}
use Rattle.model.specs.Calls.{given, starting}
use Rattle.types.specs.declared.Answer.{Answer}
use Rattle.types.specs.declared.Answer.TheVariants.{Done, Cell, Granted, AllGranted, Busy, Refused, RefusedAt}
use Rattle.types.specs.declared.Flow.{Flow}
use Rattle.types.specs.declared.Head.{Head}
use Rattle.types.specs.declared.Hold.{Hold}
use Rattle.types.specs.declared.Lease.{Lease}
use Rattle.types.specs.declared.Outcome.{Outcome}
use Rattle.types.specs.declared.Outcome.TheVariants as outcome
use Rattle.types.specs.declared.Reason.{Reason}
use Rattle.types.specs.declared.Run.{Run}
use Rattle.types.specs.declared.Tried.{Tried}
use Rattle.choice.specs.Pick.{if_both}
use Rattle.laws.specs.Outcomes.{Comes, granted, busy, poisoned, damaged, spent, lock_comes}
use Rattle.laws.specs.Lists.{words_back}
use Rattle.history.specs.World.{World, Healthy, now, attempts, number_of_lem}
use Rattle.history.specs.Items.{Call, try_acquire, drop_lease, read_permission, competing_acquire, release_then_handoff, foreign_release, drop_preserving, acquire_preserving, environment, try_lock, transactional, acquire_bucket, release_all, acquire_locks, acquire_sorted, crew, crew_at_work, perform}
use Rattle.history.specs.Statements.{answers, log_of, Fails}
use Rattle.history.specs.Answers.{ReadsAgain, GrantedHealthy, GrantPoint, LocksHealthy, PoisonedHoldsNothing}
use Rattle.history.specs.Events.{Fit}
use Rattle.history.specs.Judged.{acting, past_checks, performed}
use Rattle.history.specs.Steps.{With, world_at}
use Rattle.history.specs.Owing.{Given}
use Rattle.history.specs.Counted.{number_append, lock_counted}
use Rattle.history.specs.Handed.{TakenIn}

-- this lease is taken in the log, no attempt begins behind that, and its header is healthy in g
pub record GrantedSo (buckets : ℕ) (g : List ℕ) (l : Hold) (es : List Event) : Type 0 where
  pub front : List Event
  pub tail : List Event
  pub taken : es ≡ front ++ (took by_caller l.cell l.serial ∷ tail)
  pub same_attempt : number_of_lem attempts tail ≡ 0
  pub healthy : get_or g (header_of buckets l.cell) 0 ≡ 0

-- of an attempt, of a retry
abbrev pub TriedSo : ℕ → Made (With Tried) → Type 0
TriedSo buckets m = (l : Hold) → Given m.seen.0.outcome l → GrantedSo buckets m.seen.1.1 l m.log

-- the point at which a lease of the buffer is granted; if it is the last, the log ends there
pub record Point (w : World) (log : List Event) (Last : Type 0) (l : Hold) : Type 0 where
  pub before : List Event
  pub after : List Event
  pub parts : log ≡ before ++ after
  pub point : GrantPoint l before after
  pub healthy : Healthy (now w before) l.cell
  pub at_end : Last → after ≡ []
