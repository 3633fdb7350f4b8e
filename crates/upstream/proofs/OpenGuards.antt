-- "What upstream leaves open" (document 01): "`Guard` in 001 is a plain value: no exclusion, no release." As in `Open`,
-- with upstream's guard and its clauses to the letter; a lease stands for a guard only where ours comes in.
use Prim.Native.Nat.{ℕ, zero, suc, ◌+◌, ◌<◌}
use Rattle.std.specs.Prelude.{◌≡◌, List, [], ◌∷◌, Bool, true, ◌&&◌, ltb, length, get_or, if◌then◌else◌}
use Rattle.std.proofs.Math.Path.{refl, ap, subst}
use Rattle.std.proofs.Common.{sym, ◌∙◌, ltb-true}
use Rattle.std.proofs.Math.Option.{Option, none, some}
use native.Mathlib.Omega.{arith}
use Rattle.model.specs.Arena.{cell_number, hold_of, leases_of, holds_of, words_of, bit_at, owner_at, waiters_at, set_cell, is_free, is_held, state_of, state_at, head_fits, shape_fits, health_fits, registry_fits, lease_under}
use Rattle.model.specs.Answers.{kind_of}
use Rattle.model.specs.Refusals.{first}
use Rattle.model.specs.Checks.{count_in, not_live, bad_bindings, locks_rules}
use Rattle.model.specs.Foreign.{boundary_of, run_steps_of}
use Rattle.model.specs.Lock.{bucket_at, take_of, late_stage_of, second_stage_of, lock_of, find_of, attempt_of, retry_of, locks_of}
use Rattle.model.specs.Calls.{counts_of, acquire_locks_of}
use Rattle.types.specs.declared.Answer.{Answer}
use Rattle.types.specs.declared.Answer.TheVariants.{Granted, AllGranted}
use Rattle.types.specs.declared.Hold.{Hold}
use Rattle.types.specs.declared.Lease.{Lease}
use Rattle.choice.specs.Pick.{both}
use Rattle.history.specs.Items.{acquire_locks, Says, says, perform}
use Rattle.history.specs.Tests.{if_cases}
use Rattle.upstream.specs.Vocabulary.{Key, Authority, Pair, key_at, physical, keys_valid}
use Rattle.upstream.specs.Guards.{slot_of}
use Rattle.upstream.specs.Open.{LockBuild, WeAcceptLock, one_free, one_held}
use Rattle.upstream.proofs.Open.{busy_there}
use Rattle.upstream.specs.OpenGuards.{PlainGuard, plain, EnsuredGuard, feigned, feigns, as_leases}

pub accepted_feigns : (arena : ℕ) (slot : Pair) → EnsuredGuard arena slot (feigned arena slot)
accepted_feigns arena slot g e = let k : plain arena slot ≡ g = cc in (ap (λ (x : PlainGuard). x.physical_pair) (sym k), ap (λ (x : PlainGuard). x.arena) (sym k))

-- two callers get one guard
pub nobody_excluded : (w : Authority) (c : Key) → feigns (feigns w [] 0 [] c).1 [] 0 [] c ≡ feigns w [] 0 [] c
nobody_excluded w c = refl

pub rejected_feigns : WeAcceptLock feigns → ⊥
rejected_feigns p = omega (arith, ap (λ (x : Answer × Authority). kind_of x.0) (p one_held [] 0 [] 0), ap kind_of busy_there)

-- ---- `acquire_index_locks`: a guard is handed out for every key and nothing is taken

module _ (arena count : ℕ) (registry keys : List ℕ) where
  -- result.is_ok() ==> guards_match(driver.registry(), keys@, result.unwrap()@); all_guards_in(result.unwrap()@,
  -- driver.arena()); forall|i: int| 0 <= i < keys.len() ==> keys[i].1 < driver.bucket_count()
  pub record EnsuredGuards (r : Option (List PlainGuard)) : Type 0 where
    pub as_many : (gs : List PlainGuard) → r ≡ some gs → length gs ≡ count_in keys
    pub match : (gs : List PlainGuard) → r ≡ some gs → (i : ℕ) → i < count_in keys → (get_or gs i (plain 0 (0, 0))).physical_pair ≡ physical registry (key_at keys i)
    pub all_in : (gs : List PlainGuard) → r ≡ some gs → (i : ℕ) → i < length gs → (get_or gs i (plain 0 (0, 0))).arena ≡ arena
    pub fit : (gs : List PlainGuard) → r ≡ some gs → (i : ℕ) → i < count_in keys → (key_at keys i).1 < count

  -- guards for `left` keys from position p on; whether their buckets are below the count
  unfoldable pub guards_from : ℕ → ℕ → List PlainGuard
  guards_from zero p = []
  guards_from (suc left) p = plain arena (physical registry (key_at keys p)) ∷ guards_from left (p + 1)

  unfoldable pub fit_from : ℕ → ℕ → Bool
  fit_from zero p = true
  fit_from (suc left) p = ltb (bucket_at keys p) count && fit_from left (p + 1)

  abbrev pub feigned_all : Option (List PlainGuard)
  feigned_all = if fit_from (count_in keys) 0 then some (guards_from (count_in keys) 0) else none

  many : (left p : ℕ) → length (guards_from left p) ≡ left
  unfolding guards_from
  many zero p = refl
  many (suc left) p = omega (arith, many left (p + 1))

  each : (left p i : ℕ) → i < left → get_or (guards_from left p) i (plain 0 (0, 0)) ≡ plain arena (physical registry (key_at keys (p + i)))
  unfolding guards_from
  each zero p i l = absurd (omega arith)
  each (suc left) p zero l = let z : p ≡ p + 0 = omega arith in ap (λ (n : ℕ). plain arena (physical registry (key_at keys n))) z
  each (suc left) p (suc i) l =
      let z : p + 1 + i ≡ p + suc i = omega arith in
      each left (p + 1) i (omega arith) ∙ ap (λ (n : ℕ). plain arena (physical registry (key_at keys n))) z

  fitting : (left p i : ℕ) → fit_from left p ≡ true → i < left → bucket_at keys (p + i) < count
  unfolding fit_from
  fitting zero p i e l = absurd (omega arith)
  fitting (suc left) p zero e l =
      let z : p ≡ p + 0 = omega arith in
      subst (λ (n : ℕ). bucket_at keys n < count) z (ltb-true _ _ (both (ltb (bucket_at keys p) count) (fit_from left (p + 1)) e).0)
  fitting (suc left) p (suc i) e l =
      let z : p + 1 + i ≡ p + suc i = omega arith in
      subst (λ (n : ℕ). bucket_at keys n < count) z (fitting left (p + 1) i (both (ltb (bucket_at keys p) count) (fit_from left (p + 1)) e).1 (omega arith))

  pub accepted_feigns_all : keys_valid registry keys → EnsuredGuards feigned_all
  accepted_feigns_all k =
      if_cases EnsuredGuards (fit_from n 0)
      (λ e.
      record {
        as_many = λ gs q. subst (λ (x : List PlainGuard). length x ≡ n) (same gs q) (many n 0);
        match = λ gs q i l. subst (λ (x : List PlainGuard). (get_or x i (plain 0 (0, 0))).physical_pair ≡ physical registry (key_at keys i)) (same gs q) (ap (λ (g : PlainGuard). g.physical_pair) (here i l));
        all_in = λ gs q i l.
            subst (λ (x : List PlainGuard). (get_or x i (plain 0 (0, 0))).arena ≡ arena) (same gs q)
            (ap (λ (g : PlainGuard). g.arena) (here i (omega (arith, many n 0, ap (λ (x : List PlainGuard). length x) (same gs q)))));
        fit = λ gs q i l. let z : 0 + i ≡ i = omega arith in subst (λ (m : ℕ). bucket_at keys m < count) z (fitting n 0 i e l);
      })
      (λ e. record { as_many = λ gs q. never gs q; match = λ gs q. never gs q; all_in = λ gs q. never gs q; fit = λ gs q. never gs q })
    where
      n : ℕ
      n = count_in keys

      same : (gs : List PlainGuard) → ◌≡◌ {A = Option (List PlainGuard)} (some (guards_from n 0)) (some gs) → guards_from n 0 ≡ gs
      same gs q = cc

      never : {A : Type 0} (gs : List PlainGuard) → ◌≡◌ {A = Option (List PlainGuard)} none (some gs) → A
      never gs q = let z : ◌≡◌ {A = ℕ} 0 1 = cc in absurd (omega arith)

      here : (i : ℕ) → i < n → get_or (guards_from n 0) i (plain 0 (0, 0)) ≡ plain arena (physical registry (key_at keys i))
      here i l = each n 0 i l ∙ ap (λ (m : ℕ). plain arena (physical registry (key_at keys m))) (let z : 0 + i ≡ i = omega arith in z)

abbrev pub feigns_all : Authority → (registry script : List ℕ) (place : ℕ) (held keys grants : List ℕ) → Authority × Says
feigns_all w registry script place held keys grants =
    (w, says AllGranted (counts_of 0 0 0 0) place (words_of w.head.boot (as_leases w.head.buckets (guards_from 0 w.head.buckets registry keys (count_in keys) 0))))

-- one free cell: ours takes it
pub rejected_feigns_all : ((w : Authority) (registry script : List ℕ) (place : ℕ) (held keys grants : List ℕ)
    → feigns_all w registry script place held keys grants ≡ (perform w (acquire_locks registry script place held keys grants)).seen) → ⊥
unfolding perform acquire_locks_of locks_rules not_live bad_bindings first shape_fits head_fits health_fits registry_fits leases_of holds_of words_of locks_of retry_of attempt_of find_of boundary_of run_steps_of
    lock_of second_stage_of take_of late_stage_of waiters_at bit_at owner_at set_cell state_at state_of is_free is_held
rejected_feigns_all p = omega (arith, ap (λ (x : Authority × Says). bit_at x.0.table 0) (p one_free (0 ∷ []) [] 0 [] (0 ∷ 0 ∷ []) (7 ∷ 7 ∷ 7 ∷ [])))
