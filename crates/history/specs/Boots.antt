-- Boot numbers (document 02, L8): no call and no foreign step changes the head's, and a call that is given a lease with another is refused; by 16
-- exactly where such a lease stands and no check before it applies.
-- ---- the head's own
use Prim.Native.Nat.{ℕ, zero, suc, ◌+◌, ◌*◌, ◌≤◌, ◌<◌}
use Rattle.std.proofs.Math.Path.{◌≡◌, refl, ap, subst}
use Rattle.std.proofs.Common.{sym, ◌∙◌, ltb-true, ltb-false}
use mathlib.Core.List.{List, [], ◌∷◌, ◌++◌, append-nil}
use Rattle.std.specs.Prelude.{Bool, ◌⊎◌, ltb, length, take, drop, if◌then◌else◌, Ok}
use Rattle.std.proofs.Math.Bool.{true, false, not}
use Rattle.std.proofs.Math.Logic.{inl, inr}
use native.Mathlib.Omega.{arith}
use Rattle.std.proofs.lemmas.Bool.{not-false}
use Rattle.types.specs.Checks.{Check}
use Rattle.model.specs.Log.{Made}
use Rattle.model.specs.Arena.{cells_of, lease_of, is_stale, hold_in, is_live, lease_live, leases_of}
use Rattle.model.specs.Refusals.{Rule, refuse◌carrying◌when◌, number_of, refusal_of, first}
use Rattle.model.specs.Checks.{count_in, stale_boot, bad_shape, bad_held_length, bad_held, not_live, too_many_keys, too_many_leases, bad_cell, not_held, repeated, not_releasable, bad_bindings, cell_rules, lease_rules, held_cell_rules, held_lease_rules, script_rules, lock_rules, bucket_rules, release_rules, locks_rules}
use Rattle.model.specs.Crew.{bad_lists, bad_turns, plan_rules, crew_rules, crew_at_work_rules}
use Rattle.types.specs.declared.Answer.TheVariants.{Refused}
use Rattle.types.specs.declared.Head.{Head}
use Rattle.types.specs.declared.Hold.{Hold}
use Rattle.types.specs.declared.Lease.{Lease}
use Rattle.types.specs.declared.Refusal.{Refusal}
use Rattle.types.specs.declared.Refusal.TheVariants.{BadBinding, StaleBoot}
use Rattle.laws.specs.Checks.{or_else, first_append, first_hit, first_skip, fine_rest, fine_append, lease_in, lease_later, leases_at, leases_end}
use Rattle.history.specs.World.{World}
use Rattle.history.specs.Items.{Call, Says, unchanged, try_acquire, drop_lease, read_permission, competing_acquire, release_then_handoff, foreign_release, drop_preserving, acquire_preserving, environment, try_lock, transactional, acquire_bucket, release_all, acquire_locks, acquire_sorted, crew, crew_at_work, Among, NamesLease, Clear, rules, perform, foreign}
use Rattle.history.specs.Statements.{answers, log_of, Early, BootStays, BootStaysAlone, RefusedUnowned, RefusedStale, OneLease, Beside, releases_between, drops_beside, Listed, beside_release, beside_drop, beside_acquire, in_environment, in_lock, in_attempt, in_attempts, in_locks, in_sorted, to_release, scripted, keyed, held_before, Placed, alone, beside, listed, NamesPlaced, StaleIs16}
use Rattle.history.specs.Tests.{differ}
use Rattle.history.specs.Judged.{clear_fine, clear_front, clear_back, performed_by}
use Rattle.history.specs.Refused.{past_checks_never}

-- ---- checks refuse early

-- what every check of a list refuses with, the first that applies does
abbrev pub All : (Refusal → Type 0) → List Rule → Type 0
All P [] = Unit {0}
All P (r ∷ rs) = P (refusal_of r.number r.carries) × All P rs

abbrev pub EarlyAll : Call → List Rule → Type 0
EarlyAll k = All (Early k)

-- checks of other numbers
abbrev pub Below16 : List Rule → Type 0
Below16 = All (λ (r : Refusal). number_of r < 16)

-- a place of the call where a stale lease stands, behind checks that are fine
abbrev pub Found : World → Call → ℕ → Type 0
Found w k i = (l : Lease) × (ahead : List Rule) × Placed w k l ahead i × (first ahead ≡ Ok tt) × (is_stale w.head l ≡ true)

-- the call is given the lease in some place
abbrev pub Somewhere : World → Call → Lease → Type 0
Somewhere w k l = (ahead : List Rule) × (i : ℕ) × Placed w k l ahead i
