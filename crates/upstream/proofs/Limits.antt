-- Document 01's limits where upstream has none: more than 64 held leases, a script of more than 32,768 steps, more than 64 keys with the held leases.
use Rattle.std.specs.Prelude.{ℕ, ◌+◌, ◌*◌, ◌%◌, ◌<◌, ◌≡◌, refl, List, [], ◌∷◌, Bool, true, false, not, ◌||◌, ltb, eqb, length, Err}
use Rattle.std.proofs.Common.{lt-ltb}
use Rattle.model.specs.Refusals.{Rule, first}
use Rattle.model.specs.Checks.{lease_count, is_odd, count_in, bad_shape, bad_health, bad_registry, bad_script, bad_held, bad_held_length, too_many_keys, script_rules, lock_rules, bucket_rules, release_rules, locks_rules}
use Rattle.model.specs.Foreign.{steps_in}
use Rattle.types.specs.declared.Refusal.TheVariants.{BadScript, BadHeld, TooMany}
use Rattle.history.specs.Judged.{refused_so}
use Rattle.history.specs.Items.{environment, try_lock, transactional, acquire_bucket, release_all, acquire_locks, unchanged, perform, Clear}
use Rattle.upstream.specs.Vocabulary.{Authority, Key}
use Rattle.upstream.specs.Premises.{Scripted, Keyed, WholeArena, WholeKeyed}
use Rattle.upstream.proofs.Bridge.{first_after}
use Rattle.upstream.proofs.Refusing.{over}

middle : (a c : Bool) → (a || true || c) ≡ true
middle true c = refl
middle false c = refl

long : (script : List ℕ) (place : ℕ) → 32768 < steps_in script → (bad_script script place).applies ≡ true
long script place l = rw (lt-ltb 32768 (steps_in script) l) (middle (not (eqb (length script % 3) 0)) (ltb (steps_in script) place))

many_keys : (held keys grants : List ℕ) → 64 < lease_count held + count_in keys → (too_many_keys held keys grants).applies ≡ true
many_keys held keys grants l = rw (lt-ltb 64 (lease_count held + count_in keys) l) (middle (is_odd keys) (not (eqb (length grants) (3 * count_in keys))))

module _ (w : Authority) (script : List ℕ) (place : ℕ) (held : List ℕ) where
  held_over : (ys : List Rule) → Scripted w script place → 64 < lease_count held
      → first (bad_shape w.head w.table ∷ bad_health w.head w.health ∷ bad_script script place ∷ bad_held_length held ∷ ys) ≡ Err (BadHeld (lease_count held))
  held_over ys c l = first_after (bad_shape w.head w.table ∷ bad_health w.head w.health ∷ bad_script script place ∷ []) (bad_held_length held) ys c (over held l)

  script_over : (ys : List Rule) → WholeArena w → 32768 < steps_in script
      → first (bad_shape w.head w.table ∷ bad_health w.head w.health ∷ bad_script script place ∷ ys) ≡ Err BadScript
  script_over ys c l = first_after (bad_shape w.head w.table ∷ bad_health w.head w.health ∷ []) (bad_script script place) ys c (long script place l)

  pub environment_limit : Scripted w script place → 64 < lease_count held → perform w (environment script place held) ≡ unchanged w (environment script place held) (BadHeld (lease_count held))
  unfolding script_rules
  environment_limit c l = refused_so w (environment script place held) (BadHeld (lease_count held)) (held_over _ c l)

  pub environment_script : WholeArena w → 32768 < steps_in script → perform w (environment script place held) ≡ unchanged w (environment script place held) BadScript
  unfolding script_rules
  environment_script c l = refused_so w (environment script place held) BadScript (script_over _ c l)

  pub try_lock_limit : (key : Key) → Scripted w script place → 64 < lease_count held → perform w (try_lock script place held key) ≡ unchanged w (try_lock script place held key) (BadHeld (lease_count held))
  unfolding lock_rules script_rules
  try_lock_limit key c l = refused_so w (try_lock script place held key) (BadHeld (lease_count held)) (held_over _ c l)

  pub try_lock_script : (key : Key) → WholeArena w → 32768 < steps_in script → perform w (try_lock script place held key) ≡ unchanged w (try_lock script place held key) BadScript
  unfolding lock_rules script_rules
  try_lock_script key c l = refused_so w (try_lock script place held key) BadScript (script_over _ c l)

-- the leases of `release_all` are in its own file
pub release_all_script : (w : Authority) (script : List ℕ) (place : ℕ) (leases : List ℕ) → WholeArena w → 32768 < steps_in script
    → perform w (release_all script place leases) ≡ unchanged w (release_all script place leases) BadScript
unfolding release_rules
release_all_script w script place leases c l = refused_so w (release_all script place leases) BadScript (script_over w script place [] _ c l)

module _ (w : Authority) (registry script : List ℕ) (place : ℕ) (held : List ℕ) where
  keyed_held_over : (ys : List Rule) → Keyed w registry script place → 64 < lease_count held
      → first (bad_shape w.head w.table ∷ bad_health w.head w.health ∷ bad_registry registry ∷ bad_script script place ∷ bad_held_length held ∷ ys) ≡ Err (BadHeld (lease_count held))
  keyed_held_over ys c l = first_after (bad_shape w.head w.table ∷ bad_health w.head w.health ∷ bad_registry registry ∷ bad_script script place ∷ []) (bad_held_length held) ys c (over held l)

  keyed_script_over : (ys : List Rule) → WholeKeyed w registry → 32768 < steps_in script
      → first (bad_shape w.head w.table ∷ bad_health w.head w.health ∷ bad_registry registry ∷ bad_script script place ∷ ys) ≡ Err BadScript
  keyed_script_over ys c l = first_after (bad_shape w.head w.table ∷ bad_health w.head w.health ∷ bad_registry registry ∷ []) (bad_script script place) ys c (long script place l)

  module _ (binding bucket : ℕ) where
    pub transactional_script : WholeKeyed w registry → 32768 < steps_in script
        → perform w (transactional registry script place held binding bucket) ≡ unchanged w (transactional registry script place held binding bucket) BadScript
    unfolding bucket_rules
    transactional_script c l = refused_so w (transactional registry script place held binding bucket) BadScript (keyed_script_over _ c l)

    pub acquire_bucket_script : WholeKeyed w registry → 32768 < steps_in script
        → perform w (acquire_bucket registry script place held binding bucket) ≡ unchanged w (acquire_bucket registry script place held binding bucket) BadScript
    unfolding bucket_rules
    acquire_bucket_script c l = refused_so w (acquire_bucket registry script place held binding bucket) BadScript (keyed_script_over _ c l)

    pub transactional_limit : Keyed w registry script place → 64 < lease_count held
        → perform w (transactional registry script place held binding bucket) ≡ unchanged w (transactional registry script place held binding bucket) (BadHeld (lease_count held))
    unfolding bucket_rules
    transactional_limit c l = refused_so w (transactional registry script place held binding bucket) (BadHeld (lease_count held)) (keyed_held_over _ c l)

    pub acquire_bucket_limit : Keyed w registry script place → 64 < lease_count held
        → perform w (acquire_bucket registry script place held binding bucket) ≡ unchanged w (acquire_bucket registry script place held binding bucket) (BadHeld (lease_count held))
    unfolding bucket_rules
    acquire_bucket_limit c l = refused_so w (acquire_bucket registry script place held binding bucket) (BadHeld (lease_count held)) (keyed_held_over _ c l)

  -- multi-lock: held leases and keys together
  pub locks_limit : (keys grants : List ℕ)
      → Clear (bad_shape w.head w.table ∷ bad_health w.head w.health ∷ bad_registry registry ∷ bad_script script place ∷ bad_held w.head w.table held) → 64 < lease_count held + count_in keys
      → perform w (acquire_locks registry script place held keys grants) ≡ unchanged w (acquire_locks registry script place held keys grants) TooMany
  unfolding locks_rules
  locks_limit keys grants c l =
      refused_so w (acquire_locks registry script place held keys grants) TooMany
      (first_after (bad_shape w.head w.table ∷ bad_health w.head w.health ∷ bad_registry registry ∷ bad_script script place ∷ bad_held w.head w.table held) (too_many_keys held keys grants) _ c (many_keys held keys grants l))

  pub locks_script : (keys grants : List ℕ) → WholeKeyed w registry → 32768 < steps_in script
      → perform w (acquire_locks registry script place held keys grants) ≡ unchanged w (acquire_locks registry script place held keys grants) BadScript
  unfolding locks_rules
  locks_script keys grants c l = refused_so w (acquire_locks registry script place held keys grants) BadScript (keyed_script_over _ c l)
