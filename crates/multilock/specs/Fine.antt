-- The checks of multi-lock, one key at a time, and what is known once they are fine.
use Rattle.std.specs.Prelude.{ℕ, zero, suc, ◌+◌, ◌*◌, ◌-◌, ◌≤◌, ◌<◌, ◌≡◌, List, [], ◌∷◌, not, ◌||◌, ltb, eqb, length, Ok}
use Rattle.std.proofs.Common.{ap, arith, leb-false, ltb-false, eqb-true}
use Rattle.std.proofs.Math.Decide.{ℕ_discrete}
use Rattle.std.proofs.lemmas.Bool.{not-false}
use Rattle.model.specs.Arena.{holds_of}
use Rattle.model.specs.Refusals.{first}
use Rattle.model.specs.Checks.{lease_count, count_in, is_odd, too_many_keys, bad_binding, bad_bindings, locks_rules}
use Rattle.model.specs.Lock.{binding_at, locks_of}
use Rattle.model.specs.Calls.{starting, given, script_reply}
use Rattle.types.specs.declared.Head.{Head}
use Rattle.types.specs.declared.Hold.{Hold}
use Rattle.types.specs.declared.ScriptReply.{ScriptReply}
use Rattle.types.specs.declared.Run.{Run}
use Rattle.choice.specs.Pick.{neither}
use Rattle.laws.specs.Checks.{or_else, first_two, fine_rest, fine_append}
use Rattle.foreign.specs.Fine.{ScriptFine}
use Rattle.bucket.specs.Fine.{key_rules, key_fine, fine_key}
use Rattle.foreign.specs.declared.Scope.{Scope}
use Rattle.foreign.specs.Model.{scope_of, in_scope}
use Rattle.multilock.specs.Locks.{Bound}

-- ---- the bindings, one position at a time

pub bindings_at : (n i : ℕ) (registry keys : List ℕ) → i < n
    → first (bad_bindings (n - i) i registry keys) ≡ or_else (first (bad_binding registry i (binding_at keys i) ∷ [])) (first (bad_bindings (n - (i + 1)) (i + 1) registry keys))
unfolding bad_bindings
bindings_at n i registry keys l = let k : n - i ≡ suc (n - (i + 1)) = omega arith in rw k (first_two _ _)

pub bindings_end : (n i : ℕ) (registry keys : List ℕ) → n ≤ i → first (bad_bindings (n - i) i registry keys) ≡ Ok tt
unfolding bad_bindings first
bindings_end n i registry keys l = let k : n - i ≡ 0 = omega arith in rw k

-- every binding is inside, from position i on
bindings_in : (left i : ℕ) (registry keys : List ℕ) → first (bad_bindings left i registry keys) ≡ Ok tt
    → (p : ℕ) → i ≤ p → p < i + left → binding_at keys p < length registry
unfolding bad_bindings
bindings_in zero i registry keys e p l h = absurd (omega arith)
bindings_in (suc left) i registry keys e p l h =
    let a = fine_rest _ _ e in
    go (ℕ_discrete p i) (λ k. bindings_in left (i + 1) registry keys a.1 p k (omega arith)) (leb-false _ _ a.0)
  where
    go : Dec (p ≡ i) → (i + 1 ≤ p → binding_at keys p < length registry) → binding_at keys i < length registry → binding_at keys p < length registry
    go (yes q) more this = rw q this
    go (no q) more this = more (omega arith)

-- ---- all checks

pub record LocksFine (h : Head) (words bytes script place : ℕ) (registry keys : List ℕ) (grants : ℕ) : Type 0 where
  pub script_ok : ScriptFine h words bytes script place
  pub few : count_in keys ≤ 64
  pub grants_are : grants ≡ 3 * count_in keys
  pub bound : (i : ℕ) → 2 * i + 1 < length keys → binding_at keys i < length registry

pub locks_fine : (h : Head) (t g registry script : List ℕ) (place : ℕ) (held keys grants : List ℕ)
    → first (locks_rules h t g registry script place held keys grants) ≡ Ok tt
    → LocksFine h (length t) (length g) (length script) place registry keys (length grants)
unfolding locks_rules key_rules
locks_fine h t g registry script place held keys grants e =
    let a = fine_append (key_rules h t g registry script place held) (too_many_keys held keys grants ∷ bad_bindings (count_in keys) 0 registry keys) e in
    let b = fine_rest _ _ a.1 in
    let m = neither (is_odd keys || ltb 64 (lease_count held + count_in keys)) (not (eqb (length grants) (3 * count_in keys))) b.0 in
    let o = neither (is_odd keys) (ltb 64 (lease_count held + count_in keys)) m.0 in
    let f : lease_count held + count_in keys ≤ 64 = ltb-false _ _ o.1 in
    record {
      script_ok = key_fine h t g registry script place held a.0;
      few = omega arith;
      grants_are = eqb-true _ _ (not-false _ m.1);
      bound = λ i l. bindings_in (count_in keys) 0 registry keys b.1 i (omega arith) (omega arith);
    }

pub fine_bound : (s : Scope) (h : Head) (words bytes script place : ℕ) (registry keys : List ℕ) (grants : ℕ) → s ≡ scope_of h script
    → LocksFine h words bytes script place registry keys grants → Bound s words bytes script registry keys
fine_bound s h words bytes script place registry keys grants e f =
    record { key = fine_key s h words bytes 1 script place 0 64 e f.script_ok (omega arith) (omega arith); bound = f.bound }

-- the steps, once the checks are fine
unfoldable pub locks_once_of : Head → List ℕ → List ℕ → List ℕ → List ℕ → ℕ → List ℕ → List ℕ → List ℕ → ScriptReply × (List ℕ × (List ℕ × List ℕ))
locks_once_of h t g registry script place held keys grants =
    let o = (locks_of (count_in keys) 0 (given h script (holds_of held)) h.buckets h.boot registry keys [] (starting h place) t g grants).seen in
    (script_reply h o.0.run o.0.answer, o.1)

-- the same, by the scope that the steps are given
pub locks_given : (s : Scope) (h : Head) (script : List ℕ) → s ≡ scope_of h (length script)
    → (n : ℕ) (ps : List Hold) (registry keys : List ℕ) (r : Run) (t g grants : List ℕ)
    → locks_of n 0 (in_scope s script ps) s.buckets s.boot registry keys [] r t g grants ≡ locks_of n 0 (given h script ps) h.buckets h.boot registry keys [] r t g grants
locks_given s h script e n ps registry keys r t g grants = ap (λ (x : Scope). locks_of n 0 (in_scope x script ps) x.buckets x.boot registry keys [] r t g grants) e
