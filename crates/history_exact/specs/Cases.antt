-- Document 01's bench cases with an empty script, read off the theorems, the long ones too: no attempt is computed. "Arena: H 2, B 4, registry
-- 0, 1, 1, first serial 1, empty script unless said."; the boot number is 5.
use Rattle.std.specs.Prelude.{ℕ, zero, suc, ◌<◌, ◌*◌, ◌+◌, ◌≡◌, refl, List, [], ◌∷◌, replicate, Ok}
use Rattle.std.proofs.Common.{subst, arith}
use Rattle.model.specs.Log.{by_caller, took}
use Rattle.model.specs.Arena.{last_serial, head_of, lease_of, leases_of, holds_of, bit_at, owner_at, waiters_at, set_cell, set_waiters, is_free, is_held, state_of, state_at, is_live, head_fits, shape_fits, health_fits, registry_fits}
use Rattle.model.specs.Refusals.{first}
use Rattle.model.specs.Lock.{binding_at, bucket_at}
use Rattle.model.specs.Checks.{not_live, bad_bindings, bucket_rules, locks_rules}
use Rattle.model.specs.Calls.{counts_of}
use Rattle.types.specs.declared.Answer.TheVariants.{Granted, Refused, RefusedAt}
use Rattle.types.specs.declared.Reason.TheVariants as reason
use Rattle.types.specs.declared.Refusal.TheVariants.{SerialsSpent, SerializationFailure}
use Rattle.history.specs.World.{World, world_of, after_event}
use Rattle.history.specs.Items.{Call, Says, says, acquire_bucket, acquire_locks, key_cell, perform, rules}
use Rattle.history.specs.Judged.{clear}
use Rattle.history_exact.specs.Statements.{IsFree, IsHeld, Unwaited, Quietly, at_waited, at_held, at_damaged, at_spent, at_free, Names, leases_from, Passes}
use Rattle.history_exact.specs.Theorems.{acquire_bucket_quiet, locks_refused_quiet}
use Rattle.history_exact.specs.QuietCalls.{named_row}

-- ---- which row it is

module _ {w : World} {place : ℕ} {waiting : Says} {holding : ℕ → Says} {c : ℕ} where
  waited_row : {x : World × Says} → (Unwaited w c → ⊥) → Quietly w place waiting holding c x → x ≡ (w, waiting)
  waited_row n (at_waited m) = refl
  waited_row n (at_held u h) = absurd (n u)
  waited_row n (at_damaged u d) = absurd (n u)
  waited_row n (at_spent u f s) = absurd (n u)
  waited_row n (at_free u f s) = absurd (n u)

  held_row : {x : World × Says} → Unwaited w c → IsHeld w c → Quietly w place waiting holding c x → x ≡ (w, holding (owner_at w.table c))
  held_row u h (at_waited m) = absurd (m u)
  held_row u h (at_held v k) = refl
  held_row u h (at_damaged v d) = absurd (d.1 h)
  held_row u h (at_spent v f s) = absurd (omega (arith, h.0, f.0))
  held_row u h (at_free v f s) = absurd (omega (arith, h.0, f.0))

  spent_row : {x : World × Says} → Unwaited w c → IsFree w c → w.head.next ≡ last_serial → Quietly w place waiting holding c x
      → x ≡ (w, says (Refused (SerialsSpent c)) (counts_of 1 2 0 0) place [])
  spent_row u f e (at_waited m) = absurd (m u)
  spent_row u f e (at_held v k) = absurd (omega (arith, k.0, f.0))
  spent_row u f e (at_damaged v d) = absurd (d.0 f)
  spent_row u f e (at_spent v g s) = refl
  spent_row u f e (at_free v g s) = absurd (omega arith)

  free_row : {x : World × Says} → Unwaited w c → IsFree w c → w.head.next < last_serial → Quietly w place waiting holding c x
      → x ≡ (after_event w (took by_caller c w.head.next), says (Granted (lease_of c w.head.next w.head.boot)) (counts_of 1 3 0 0) place [])
  free_row u f e (at_waited m) = absurd (m u)
  free_row u f e (at_held v k) = absurd (omega (arith, k.0, f.0))
  free_row u f e (at_damaged v d) = absurd (d.0 f)
  free_row u f e (at_spent v g s) = absurd (omega arith)
  free_row u f e (at_free v g s) = refl

-- ---- the bench

abbrev registry : List ℕ
registry = 0 ∷ 1 ∷ 1 ∷ []

abbrev arena : ℕ → List ℕ → World
arena next table = world_of (head_of 2 4 next 5) table (replicate 2 0)

-- the key (0, bucket), with these leases held
abbrev key : ℕ → List ℕ → Call
key bucket held = acquire_bucket registry [] 0 held 0 bucket

pub passes : (w : World) (k : Call) → first (rules w k) ≡ Ok tt → Passes w k
passes w k = clear (rules w k)

-- *"Key (0,2): cell 2, serial 1, next 2, attempts 1, boundaries 3."*
pub first_key_lem : (perform (arena 1 (replicate 24 0)) (key 2 [])).seen
    ≡ (arena 2 (set_cell (replicate 24 0) 2 1 1), says (Granted (lease_of 2 1 5)) (counts_of 1 3 0 0) 0 [])
unfolding bit_at owner_at waiters_at leases_of holds_of head_fits shape_fits health_fits registry_fits first not_live bucket_rules
first_key_lem =
    free_row refl (refl, refl) (omega arith) (named_row (omega arith, refl, omega arith)
    (acquire_bucket_quiet (arena 1 (replicate 24 0)) registry [] 0 [] 0 2 (passes (arena 1 (replicate 24 0)) (acquire_bucket registry [] 0 [] 0 2) refl) (omega arith)))

-- "Again, lease 1 held: refusal 11, boundaries 12,352, yields 64, next 2." Document 02, L1: "Cases of document 01 that said Busy now name one of the
-- three." Here: "held, with the owner's serial", which is 1
abbrev taken : World
taken = arena 2 (set_cell (replicate 24 0) 2 1 1)

pub again : (perform taken (key 2 (2 ∷ 1 ∷ 5 ∷ []))).seen ≡ (taken, says (Refused (SerializationFailure (reason.Held 1))) (counts_of 4096 12352 64 0) 0 [])
unfolding bit_at owner_at waiters_at set_cell is_free is_held state_of state_at is_live leases_of holds_of head_fits shape_fits health_fits registry_fits first not_live bucket_rules
again =
    held_row refl (refl, omega arith, omega arith) (named_row (omega arith, refl, omega arith)
    (acquire_bucket_quiet taken registry [] 0 (2 ∷ 1 ∷ 5 ∷ []) 0 2 (passes taken (acquire_bucket registry [] 0 (2 ∷ 1 ∷ 5 ∷ []) 0 2) refl) (omega arith)))

-- "Waiters of cell 2 stay 1: 11, boundaries 8,256, yields 64, next 1." The reason: "waiters seen before the compare-and-set"
abbrev waited : World
waited = arena 1 (set_waiters (replicate 24 0) 2 1)

pub waiters_stay : (perform waited (key 2 [])).seen ≡ (waited, says (Refused (SerializationFailure reason.Before)) (counts_of 4096 8256 64 0) 0 [])
unfolding waiters_at set_waiters leases_of holds_of head_fits shape_fits health_fits registry_fits first not_live bucket_rules
waiters_stay =
    waited_row (λ e. absurd (omega (arith, e))) (named_row (omega arith, refl, omega arith)
    (acquire_bucket_quiet waited registry [] 0 [] 0 2 (passes waited (acquire_bucket registry [] 0 [] 0 2) refl) (omega arith)))

-- *"Next 4,294,967,295, cell free: refusal 10, boundaries 2."* "Spent and held: 11."
pub none_remains : (perform (arena 4_294_967_295 (replicate 24 0)) (key 2 [])).seen
    ≡ (arena 4_294_967_295 (replicate 24 0), says (Refused (SerialsSpent 2)) (counts_of 1 2 0 0) 0 [])
unfolding bit_at owner_at waiters_at leases_of holds_of head_fits shape_fits health_fits registry_fits first not_live bucket_rules
none_remains =
    spent_row refl (refl, refl) refl (named_row (omega arith, refl, omega arith)
    (acquire_bucket_quiet (arena 4_294_967_295 (replicate 24 0)) registry [] 0 [] 0 2 (passes (arena 4_294_967_295 (replicate 24 0)) (acquire_bucket registry [] 0 [] 0 2) refl) (omega arith)))

abbrev spent_held : World
spent_held = arena 4_294_967_295 (set_cell (replicate 24 0) 2 1 1)

pub spent_and_held : (perform spent_held (key 2 [])).seen ≡ (spent_held, says (Refused (SerializationFailure (reason.Held 1))) (counts_of 4096 12352 64 0) 0 [])
unfolding bit_at owner_at waiters_at set_cell leases_of holds_of head_fits shape_fits health_fits registry_fits first not_live bucket_rules
spent_and_held =
    held_row refl (refl, omega arith, omega arith) (named_row (omega arith, refl, omega arith)
    (acquire_bucket_quiet spent_held registry [] 0 [] 0 2 (passes spent_held (acquire_bucket registry [] 0 [] 0 2) refl) (omega arith)))

-- "Keys (1,0),(2,0): 11 at position 1, attempts 4,097, boundaries 12,356, yields 64, next 2, all free." The reason: held by serial 1, which this call
-- took for its first key
abbrev start : World
start = arena 1 (replicate 24 0)

abbrev both_keys : List ℕ
both_keys = 1 ∷ 0 ∷ 2 ∷ 0 ∷ []

-- the world between the two keys, and the second of them there
abbrev between : World
between = arena 2 (set_cell (replicate 24 0) 4 1 1)

second_key : (perform between (acquire_bucket registry [] 0 [] 2 0)).seen ≡ (between, says (Refused (SerializationFailure (reason.Held 1))) (counts_of 4096 12352 64 0) 0 [])
unfolding bit_at owner_at waiters_at set_cell leases_of holds_of head_fits shape_fits health_fits registry_fits first not_live bucket_rules
second_key =
    held_row refl (refl, omega arith, omega arith) (named_row (omega arith, refl, omega arith)
    (acquire_bucket_quiet between registry [] 0 [] 2 0 (passes between (acquire_bucket registry [] 0 [] 2 0) refl) (omega arith)))

pub one_cell_twice : (perform start (acquire_locks registry [] 0 [] both_keys (9 ∷ 9 ∷ 9 ∷ 9 ∷ 9 ∷ 9 ∷ []))).seen
    ≡ (arena 2 (replicate 24 0), says (RefusedAt (SerializationFailure (reason.Held 1)) 1) (counts_of 4097 12356 64 0) 0 (9 ∷ 9 ∷ 9 ∷ 9 ∷ 9 ∷ 9 ∷ []))
unfolding bit_at owner_at waiters_at leases_of holds_of leases_from head_fits shape_fits health_fits registry_fits first not_live bad_bindings locks_rules
one_cell_twice =
    subst Row second_key
    (locks_refused_quiet start registry [] 0 [] both_keys (9 ∷ 9 ∷ 9 ∷ 9 ∷ 9 ∷ 9 ∷ []) 1 (SerializationFailure (reason.Held 1)) (passes start (acquire_locks registry [] 0 [] both_keys (9 ∷ 9 ∷ 9 ∷ 9 ∷ 9 ∷ 9 ∷ [])) refl) (omega arith) (omega arith)
    first_ready (λ p q i j _. omega arith) (omega arith)) refl
  where
    first_ready : (p : ℕ) → p < 1 → Names start registry (binding_at both_keys p) (bucket_at both_keys p) × Unwaited start (key_cell 4 registry both_keys p) × IsFree start (key_cell 4 registry both_keys p)
    first_ready zero l = ((omega arith, refl, omega arith), refl, (refl, refl))
    first_ready (suc p) l = absurd (omega arith)

    Row : World × Says → Type 0
    Row o =
        o.1.answer ≡ Refused (SerializationFailure (reason.Held 1))
        → (perform start (acquire_locks registry [] 0 [] both_keys (9 ∷ 9 ∷ 9 ∷ 9 ∷ 9 ∷ 9 ∷ []))).seen
        ≡ (arena 2 (replicate 24 0), says (RefusedAt (SerializationFailure (reason.Held 1)) 1) (counts_of (1 + o.1.counts.attempts) (4 * 1 + o.1.counts.boundaries) o.1.counts.yields 0) 0 (9 ∷ 9 ∷ 9 ∷ 9 ∷ 9 ∷ 9 ∷ []))
