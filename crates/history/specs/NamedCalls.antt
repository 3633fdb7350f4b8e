-- Every release in a call's log is one that the call or a step of its script named.
-- ---- leases in a list
use Prim.Native.Nat.{ℕ, ◌<◌}
use Rattle.std.specs.Prelude.{◌≡◌, true, ◌&&◌, ltb, eqb, length}
use Rattle.std.proofs.Math.Path.{refl}
use Rattle.std.proofs.Common.{subst, arith}
use mathlib.Core.List.{List, [], ◌∷◌, ◌++◌}
use Rattle.std.proofs.Math.Bool.{not}
use Rattle.std.proofs.Math.Dec.{leb}
use Rattle.std.proofs.Math.Seq.{take-length}
use borrow.Author.Tests.{eqb-true}
use Rattle.model.specs.Crew.{rests, adds}
use Rattle.model.specs.Log.{Made, Actor, Event, by_script, attempt_begun, boundary_run, yielded, spun, step_dropped, took, released, waiters_set, health_set, held_all_lem, added}
use Rattle.model.specs.Arena.{hold_in, hold_of, holds_of, is_in, set_cell, serial_remains, bit_at, owner_at, is_free, is_live}
use Rattle.model.specs.Foreign.{Setting, flow_of, step_take_of, step_release_of, step_waiters_of, step_health_of, step_of}
use Rattle.model.specs.Lock.{no_hold, hold_at, attempt_limit, none_yet}
use Rattle.model.specs.Checks.{count_in, lease_count}
use Rattle.model.specs.Calls.{given, starting, acquire_of}
use Rattle.model.specs.Sorted.{cells_sorted, sorted_keys, first_key}
use Rattle.types.specs.declared.Head.{Head}
use Rattle.types.specs.declared.Hold.{Hold}
use Rattle.types.specs.declared.Stepped.{Stepped}
use Rattle.choice.specs.Pick.{if_both}
use Rattle.history.specs.World.{World}
use Rattle.history.specs.Items.{Call, Says, try_acquire, drop_lease, read_permission, competing_acquire, release_then_handoff, foreign_release, drop_preserving, acquire_preserving, environment, try_lock, transactional, acquire_bucket, release_all, acquire_locks, acquire_sorted, crew, crew_at_work, script_of, place_of, given_up, foreign, perform, Clear, rules}
use Rattle.history.specs.Statements.{log_of, Named, NamedAlone}
use Rattle.history.specs.Tests.{in_take, if_cases}
use Rattle.history.specs.Judged.{judged_at, acting, past_checks, performed}
use Rattle.history.specs.Naming.{Leases, Accounted, any, none, more, andthen, accounted, handed, and_took, at_script, at_caller, boundary_accounted, take_accounted, lock_accounted, attempt_accounted, retry_accounted, back_accounted, locks_accounted}

-- ---- the calls

-- the leases that a call was given to give up
abbrev pub Mine : Call → Leases
Mine k c s = is_in (hold_of c s) (given_up k) ≡ true

-- ---- a lone foreign step

abbrev pub Right : ℕ → ℕ → ℕ → Event → Type 0
Right kind place number attempt_begun = Unit {0}
Right kind place number boundary_run = Unit {0}
Right kind place number yielded = Unit {0}
Right kind place number spun = Unit {0}
Right kind place number step_dropped = Unit {0}
Right kind place number (took a c s) = Unit {0}
Right kind place number (released a c s) = (a ≡ by_script) × (kind ≡ 2) × (place ≡ c) × (number ≡ s)
Right kind place number (waiters_set c n) = Unit {0}
Right kind place number (health_set i n) = Unit {0}
Right kind place number (held_all_lem m) = Unit {0}
Right kind place number (added m c v) = Unit {0}
