-- 001: `Primitives::try_lock` and `acquire_index_locks`. A guard is a lease here: its cell tells header and bucket, and
-- it is in the arena.
-- ---- a cell number tells header and bucket
use Prim.Native.Nat.{ℕ, zero, suc, ◌+◌, ◌*◌, ◌/◌, ◌%◌, ◌≤◌, ◌<◌}
use Rattle.std.specs.Prelude.{◌≡◌, false, length, get_or}
use Rattle.std.proofs.Math.Path.{refl, ap, subst}
use Rattle.std.proofs.Common.{sym, ◌∙◌, mul-le-mul_right, suc-mul, div-add-mod', mod-lt, le-leb, length-append}
use mathlib.Core.List.{List, [], ◌∷◌, ◌++◌}
use native.Mathlib.Omega.{arith}
use Rattle.std.proofs.Math.Decide.{ℕ_discrete, dec_lt}
use Rattle.std.proofs.lemmas.Bool.{lt-leb}
use Rattle.std.proofs.Math.ListN.{get_or-append}
use Rattle.std.proofs.Math.Seq.{get_or-append_seam}
use Rattle.types.specs.Checks.{Check}
use Rattle.model.specs.Arena.{cell_number, hold_in, holds_of, words_of}
use Rattle.model.specs.Answers.{kind_of}
use Rattle.model.specs.Refusals.{Rule, first}
use Rattle.model.specs.Checks.{count_in, bad_shape, bad_health, bad_registry, bad_script, bad_held, too_many_keys, bad_binding, bad_bindings, locks_rules}
use Rattle.model.specs.Foreign.{Setting, protecting}
use Rattle.model.specs.Lock.{no_hold, hold_at, binding_at, bucket_at, attempt_limit, none_yet, retry_of, rollback_of, after_key, locks_of, Locks}
use Rattle.model.specs.Calls.{given, starting}
use Rattle.types.specs.declared.Answer.TheVariants.{Granted, AllGranted}
use Rattle.types.specs.declared.Hold.{Hold}
use Rattle.types.specs.declared.Lease.{Lease}
use Rattle.types.specs.declared.Outcome.{Outcome}
use Rattle.types.specs.declared.Outcome.TheVariants as outcome
use Rattle.types.specs.declared.Refusal.TheVariants.{BadBinding}
use Rattle.types.specs.declared.Run.{Run}
use Rattle.laws.specs.Checks.{first_hit, first_skip}
use Rattle.laws.specs.Lists.{words_back}
use Rattle.history.specs.Judged.{refused_so}
use Rattle.history.specs.Items.{Call, try_lock, acquire_locks, unchanged, perform, Clear}
use Rattle.history.specs.Statements.{answers}
use Rattle.laws.specs.Keys.{place_inside}
use Rattle.upstream.specs.Vocabulary.{Key, Authority, Pair, Guard, lease_key, contains_key, key_at, guards_place, guards_match, all_guards_in, physical_members, guard_members}
use Rattle.upstream.specs.Keys.{GrantedAt, retry_key}

-- ---- `try_lock`

-- the slot that a cell number stands for: header and bucket
abbrev pub slot_of : ℕ → Key → Pair
slot_of buckets c = (c / buckets, c % buckets)

-- ---- `acquire_index_locks`

-- the leases that a multi-lock hands over, in key order
pub record Matches (headers buckets : ℕ) (registry keys : List ℕ) (n : ℕ) (ls : List Hold) : Type 0 where
  pub as_many : length ls ≡ n
  pub each : (i : ℕ) → i < n → GrantedAt headers buckets registry (binding_at keys i) (bucket_at keys i) (hold_at ls i)
