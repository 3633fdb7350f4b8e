-- The checks of crate `model` are those of `Checks`: each applies exactly if its condition in plain numbers holds, and gives the same refusal.
use Rattle.std.specs.Prelude.{ℕ, zero, suc, ◌+◌, ◌*◌, ◌/◌, ◌%◌, ◌≤◌, ◌<◌, ◌≡◌, refl, List, [], ◌∷◌, ◌++◌, Bool, true, false, not, ◌&&◌, ◌||◌, ◌⊎◌, ◌≢◌, ltb, leb, eqb, length, get_or, take, if◌then◌else◌}
use Rattle.std.proofs.Common.{sym, ap, ◌∙◌, subst, append-nil, inl, inr, arith, ltb-true, ltb-false, leb-true, leb-false, eqb-true, eq-eqb, lt-ltb, le-ltb, le-leb}
use Rattle.std.proofs.lemmas.Bool.{eqb-false, not-true, not-false}
use Rattle.choice.specs.Pick.{both, neither}
use Rattle.model.specs.Arena.{bit_at, owner_at, is_live, is_in, hold_in, hold_of, leases_of, holds_of, shape_fits, health_fits, registry_fits, cells_of, within}
use Rattle.model.specs.Refusals.{Rule, refusal_of, first}
use Rattle.model.specs.Checks.{bad_held, bad_cell, stale_boot, not_held, is_protected, bad_binding, too_many_leases, too_many_keys, not_live, not_releasable, bad_bindings, cell_rules, lease_rules, held_cell_rules, held_lease_rules, script_rules, lock_rules, bucket_rules, release_rules, locks_rules}
use Rattle.model.specs.Crew.{total, start_of, all_within, rises_from, bad_lists, bad_turns, crew_rules, crew_at_work_rules, plan_rules, list_of}
use Rattle.types.specs.declared.Head.{Head}
use Rattle.types.specs.declared.Hold.{Hold}
use Rattle.types.specs.declared.Lease.{Lease}
use Rattle.types.specs.declared.Refusal.{Refusal}
use Rattle.types.specs.declared.Refusal.TheVariants.{BadBinding}
use Rattle.laws.specs.Shape.{shaped}
use Rattle.history.specs.World.{World}
use Rattle.history.specs.Items.{Call, Clear, rules, try_acquire, drop_lease, read_permission, competing_acquire, release_then_handoff, foreign_release, drop_preserving, acquire_preserving, environment, try_lock, transactional, acquire_bucket, release_all, acquire_locks, acquire_sorted, crew, crew_at_work}
use Rattle.history.specs.Tests.{alive, live, in_first, in_rest, in_cases, differ}
use Rattle.history.specs.Events.{fits}
use Rattle.pinned.specs.Words.{Shape, IsLive, StandsIn, size, holds}
use Rattle.pinned.specs.Checks.{Checks, pass, ◌refuses◌else◌, First, Passed, checks, each_held, held_list, bindings, in_range, one_lease, not_in, each_given, lease_list, key_list, lists, each_turn, crew_is, cells_of_lem, sum, Limits, Rises}

-- a test decides a condition
abbrev pub Decides : Bool → Type 0 → Type 0
Decides b C = (b ≡ true → C) × (b ≡ false → C → ⊥)

abbrev pub Matches : List Rule → Checks → Type 0
Matches [] pass = Unit {0}
Matches [] (C refuses r else cs) = ⊥
Matches (x ∷ xs) pass = ⊥
Matches (x ∷ xs) (C refuses r else cs) = Decides x.applies C × (refusal_of x.number x.carries ≡ r) × Matches xs cs
