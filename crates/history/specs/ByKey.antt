-- Which cells grants name: the cell that was asked for, by key the key's own; in the grant buffer, at each position that of the key there.
-- which order leases are given back. What stands in quotes is of document 01.
-- ---- which cell a grant names
use Prim.Native.Nat.{ℕ, zero, suc, ◌+◌, ◌*◌, ◌<◌}
use Rattle.std.proofs.Math.Path.{◌≡◌}
use Rattle.std.specs.Prelude.{refl, leb, length, Ok, Err}
use Rattle.std.proofs.Common.{sym, ap, ◌∙◌, arith}
use mathlib.Core.List.{List, [], ◌∷◌, ◌++◌}
use Rattle.std.proofs.Math.Decide.{ℕ_discrete}
use Rattle.std.proofs.Math.ListN.{get_or, length-append, get_or-append}
use Rattle.std.proofs.Math.Seq.{get_or-append_seam}
use Rattle.types.specs.Checks.{Found}
use Rattle.model.specs.Log.{Made}
use Rattle.model.specs.Arena.{is_poisoned, hold_of, holds_of, set_cell, lease_under}
use Rattle.model.specs.Foreign.{Setting, protecting, flow_of}
use Rattle.model.specs.Lock.{take_of, lock_of, outcome_of, answer_of, settled, find_of, attempt_at, attempt_of, pause_of, is_busy, retry_of, attempt_limit, none_yet, no_hold, hold_at, rollback_of, after_key, binding_at, bucket_at, locks_of}
use Rattle.model.specs.Checks.{count_in}
use Rattle.model.specs.Calls.{starting, acquire_of}
use Rattle.model.specs.Sorted.{cells_sorted, sorted_keys, first_key, asked_first}
use Rattle.types.specs.declared.Answer.{Answer}
use Rattle.types.specs.declared.Answer.TheVariants.{Done, Cell, Granted, AllGranted, Busy, Refused, RefusedAt}
use Rattle.types.specs.declared.Head.{Head}
use Rattle.types.specs.declared.Hold.{Hold}
use Rattle.types.specs.declared.Lease.{Lease}
use Rattle.types.specs.declared.Outcome.{Outcome}
use Rattle.types.specs.declared.Outcome.TheVariants as outcome
use Rattle.types.specs.declared.Reason.{Reason}
use Rattle.types.specs.declared.Run.{Run}
use Rattle.types.specs.declared.Take.{Take}
use Rattle.types.specs.declared.Take.TheVariants as taking
use Rattle.types.specs.declared.Tried.{Tried}
use Rattle.choice.specs.Pick.{if_both}
use Rattle.laws.specs.Checks.{lease_in}
use Rattle.laws.specs.Lists.{length_words, words_back}
use Rattle.laws.specs.Outcomes.{Comes, granted, busy, poisoned, damaged, spent, lock_comes}
use Rattle.history.specs.World.{World}
use Rattle.history.specs.Items.{Call, Says, try_acquire, drop_lease, read_permission, competing_acquire, release_then_handoff, foreign_release, drop_preserving, acquire_preserving, environment, try_lock, transactional, acquire_bucket, release_all, acquire_locks, acquire_sorted, crew, crew_at_work, perform, asked, cell_of, key_cell}
use Rattle.history.specs.Statements.{GrantIs}
use Rattle.history.specs.Tests.{words_boot}
use Rattle.history.specs.Judged.{acting, past_checks, performed, judged_at}
use Rattle.history.specs.Steps.{With}

-- what is granted of cell c
abbrev pub Names : ℕ → Outcome → Type 0
Names c o = (l : Hold) → o ≡ outcome.Granted l → l.cell ≡ c

-- the cell that a key was found to name, if it names one
abbrev pub FoundAt : ℕ → Found → Type 0
FoundAt c (Err r) = Unit {0}
FoundAt c (Ok d) = d ≡ c
