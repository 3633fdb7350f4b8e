-- "What upstream leaves open" (document 01): "`Guard` in 001 is a plain value: no exclusion, no release." As in `Open`,
-- with upstream's guard and its clauses to the letter; a lease stands for a guard only where ours comes in.
use Prim.Native.Nat.{ℕ, zero, suc, ◌+◌, ◌<◌}
use Rattle.std.specs.Prelude.{◌≡◌, List, [], ◌∷◌, Bool, true, ◌&&◌, ltb, length, get_or, if◌then◌else◌}
use Rattle.std.proofs.Math.Path.{refl, ap, subst}
use Rattle.std.proofs.Common.{sym, ◌∙◌, ltb-true}
use Rattle.std.proofs.Math.Option.{Option, none, some}
use native.Mathlib.Omega.{arith}
use Rattle.model.specs.Arena.{cell_number, hold_of, leases_of, holds_of, words_of, bit_at, owner_at, waiters_at, set_cell, is_free, is_held, state_of, state_at, head_fits, shape_fits, health_fits, registry_fits, lease_under}
use Rattle.model.specs.Answers.{kind_of}
use Rattle.model.specs.Refusals.{first}
use Rattle.model.specs.Checks.{count_in, not_live, bad_bindings, locks_rules}
use Rattle.model.specs.Foreign.{boundary_of, run_steps_of}
use Rattle.model.specs.Lock.{bucket_at, take_of, late_stage_of, second_stage_of, lock_of, find_of, attempt_of, retry_of, locks_of}
use Rattle.model.specs.Calls.{counts_of, acquire_locks_of}
use Rattle.types.specs.declared.Answer.{Answer}
use Rattle.types.specs.declared.Answer.TheVariants.{Granted, AllGranted}
use Rattle.types.specs.declared.Hold.{Hold}
use Rattle.types.specs.declared.Lease.{Lease}
use Rattle.choice.specs.Pick.{both}
use Rattle.history.specs.Items.{acquire_locks, Says, says, perform}
use Rattle.history.specs.Tests.{if_cases}
use Rattle.upstream.specs.Vocabulary.{Key, Authority, Pair, key_at, physical, keys_valid}
use Rattle.upstream.specs.Guards.{slot_of}
use Rattle.upstream.specs.Open.{LockBuild, WeAcceptLock, one_free, one_held}

-- pub struct Guard { pub arena: usize, pub physical: Pair }
pub record PlainGuard : Type 0 where
  pub arena : ℕ
  pub physical_pair : Pair

abbrev pub plain : ℕ → Pair → PlainGuard
plain arena slot = record { arena = arena; physical_pair = slot }

-- ---- `Primitives::try_lock`: a guard is handed out and nothing is taken

-- r.is_some() ==> r.unwrap().physical == slot && r.unwrap().arena == self.arena()
abbrev pub EnsuredGuard : ℕ → Pair → Option PlainGuard → Type 0
EnsuredGuard arena slot r = (g : PlainGuard) → r ≡ some g → (g.physical_pair ≡ slot) × (g.arena ≡ arena)

abbrev pub feigned : ℕ → Pair → Option PlainGuard
feigned arena slot = some (plain arena slot)

-- the same here, with a lease for the guard
abbrev as_hold : ℕ → PlainGuard → Hold
as_hold buckets g = hold_of (cell_number buckets g.physical_pair.0 g.physical_pair.1) 1

abbrev as_lease : (boot buckets : ℕ) → PlainGuard → Lease
as_lease boot buckets g = lease_under boot (as_hold buckets g)

abbrev pub feigns : LockBuild
feigns w script place held c = (Granted (as_lease w.head.boot w.head.buckets (plain 0 (slot_of w.head.buckets c))), w)

-- the same here, with leases for the guards
abbrev pub as_leases : ℕ → List PlainGuard → List Hold
as_leases buckets [] = []
as_leases buckets (g ∷ gs) = as_hold buckets g ∷ as_leases buckets gs
