-- The call's steps once multi-lock's checks are fine: what is known then, and that they come to what the definition says.
use Rattle.std.specs.Prelude.{ℕ, ◌+◌, ◌*◌, ◌≤◌, ◌<◌, ◌≡◌, List, [], ◌++◌, length, take, Ok}
use Rattle.std.proofs.Common.{sym, ap, subst, ◌∙◌, arith, length-append, take_at}
use Rattle.model.specs.Log.{Made, gives}
use Rattle.model.specs.Arena.{holds_of}
use Rattle.model.specs.Checks.{count_in}
use Rattle.model.specs.Foreign.{Setting}
use Rattle.model.specs.Lock.{Locks, binding_at, locks_of}
use Rattle.model.specs.Calls.{starting, given}
use Rattle.model.specs.Sorted.{cells_asked, cells_sorted, sorted_keys, first_key, judge_at, refused_key_at_once, sorted_locks_of}
use Rattle.types.specs.declared.Ended.{Ended}
use Rattle.types.specs.declared.Head.{Head}
use Rattle.types.specs.declared.ScriptReply.{ScriptReply}
use Rattle.types.specs.declared.Run.{Run}
use Rattle.laws.specs.Sorting.{sorted_is}
use Rattle.foreign.specs.declared.Scope.{Scope}
use Rattle.foreign.specs.Model.{scope_of, in_scope}
use Rattle.multilock.specs.Fine.{LocksFine, fine_bound, locks_given}
use Rattle.multilock.specs.Locks.{Bound}
use Rattle.sorted.specs.Order.{KeysFine, keys_fine, Ordered, length_cells, length_keys, keys_among, sorted_asked}
use Rattle.sorted.specs.Back.{Placed, locks_placed, back_of, finished_of, sorted_finished}

-- the checks by position, and then the steps
abbrev pub checked_of : Head → List ℕ → List ℕ → List ℕ → List ℕ → ℕ → List ℕ → List ℕ → List ℕ → Made (ScriptReply × (List ℕ × (List ℕ × List ℕ)))
checked_of h t g registry script place held keys grants =
    judge_at (first_key (count_in keys) 0 h registry keys) (λ r p. gives (refused_key_at_once h place r p, (t, (g, grants))))
    (sorted_locks_of h t g registry script place held keys grants)

-- ---- what the ordered keys are

module _ (h : Head) (registry keys : List ℕ) (m : ℕ) (asked sorted chosen : List ℕ) (o : Ordered h.buckets registry keys m asked sorted chosen) where
  pub asked_length : length (take (count_in keys) asked) ≡ count_in keys
  asked_length = ap length o.asked_are ∙ length_cells (count_in keys) 0 h.buckets registry keys

  pub sorted_length : length (take m sorted) ≡ m
  sorted_length = ap length o.sorted_are ∙ sym o.count_is

  pub chosen_length : length (take (2 * m) chosen) ≡ 2 * m
  chosen_length = ap length o.chosen_are ∙ length_keys keys (cells_asked h.buckets registry keys) (cells_sorted h.buckets registry keys) ∙ ap (λ (k : ℕ). 2 * k) (sym o.count_is)

  pub cells_few : m ≤ count_in keys
  cells_few = omega (arith, o.count_is, (sorted_is (cells_asked h.buckets registry keys)).short, length_cells (count_in keys) 0 h.buckets registry keys)

  -- each of the sorted keys has a binding inside the registry
  pub chosen_bound : KeysFine h registry keys → (i : ℕ) → 2 * i + 1 < length (take (2 * m) chosen) → binding_at (take (2 * m) chosen) i < length registry
  chosen_bound f i l =
      let b : i < length (cells_sorted h.buckets registry keys) = omega (arith, chosen_length, l, o.count_is) in
      let k = sorted_asked (cells_asked h.buckets registry keys) i b in
      let n = length_cells (count_in keys) 0 h.buckets registry keys in
      rw (o.chosen_are, keys_among keys (cells_asked h.buckets registry keys) (cells_sorted h.buckets registry keys) i b) (f.bound _ (omega (arith, k, n)))

  -- so multi-lock's parts may be given them
  pub sorted_bound : (s : Scope) (words bytes script place grants : ℕ) → s ≡ scope_of h script → LocksFine h words bytes script place registry keys grants → KeysFine h registry keys
      → Bound s words bytes script registry (take (2 * m) chosen)
  sorted_bound s words bytes script place grants e l f = record { key = (fine_bound s h words bytes script place registry keys grants e l).key; bound = chosen_bound f }

-- a refusal's position is one of the sorted keys'
pub placed_in : (o : Locks) (m : ℕ) (e : Setting) (buckets boot : ℕ) (registry keys : List ℕ) (r : Run) (t g own : List ℕ) → o ≡ (locks_of m 0 e buckets boot registry keys [] r t g own).seen → Placed m o.0.answer
placed_in o m e buckets boot registry keys r t g own q =
    let z : 0 + m ≡ m = omega arith in
    subst (λ (k : Locks). Placed m k.0.answer) (sym q) (subst (λ (n : ℕ). Placed n (locks_of m 0 e buckets boot registry keys [] r t g own).seen.0.answer) z (locks_placed e buckets boot registry keys own own m 0 [] r t g))

-- ---- the buffer of the call's own: its front was lent, and comes back

pub front_room : (front rest : List ℕ) (k : ℕ) → length front ≡ k → k ≤ length (front ++ rest)
front_room front rest k e = omega (arith, e, length-append front rest)

pub front_length : (front rest : List ℕ) (k : ℕ) → length front ≡ k → k ≡ length (take k (front ++ rest))
front_length front rest k e = sym (ap length (take_at front rest k e) ∙ e)

-- ---- the end

-- multi-lock's parts over the sorted keys, with the buffer `own`, and the call's end after them
pub sorted_ends : (h : Head) (t g registry script : List ℕ) (place : ℕ) (held keys grants : List ℕ) (s : Scope) (start : Run) (m : ℕ) (asked sorted chosen own : List ℕ)
    (ended : Ended) (u w leases : List ℕ) (result : ScriptReply) (after : List ℕ)
    → s ≡ scope_of h (length script) → start ≡ starting h place → Ordered h.buckets registry keys m asked sorted chosen
    → (ended, (u, (w, leases))) ≡ (locks_of m 0 (in_scope s script (holds_of held)) s.buckets s.boot registry (take (2 * m) chosen) [] start t g own).seen
    → (result, after) ≡ back_of h ended (take (count_in keys) asked) (take m sorted) leases grants
    → (result, (u, (w, after))) ≡ (sorted_locks_of h t g registry script place held keys grants).seen
sorted_ends h t g registry script place held keys grants s start m asked sorted chosen own ended u w leases result after e r o q b =
    let as_locks : Locks = (ended, (u, (w, leases))) in
    let k : as_locks ≡ (locks_of (length (cells_sorted h.buckets registry keys)) 0 (given h script (holds_of held)) h.buckets h.boot registry (sorted_keys h.buckets registry keys) [] (starting h place) t g own).seen =
    q ∙ rw (locks_given s h script e m (holds_of held) registry (take (2 * m) chosen) start t g own, r, o.chosen_are, ← o.count_is) in
    let d : (result, after) ≡ back_of h ended (cells_asked h.buckets registry keys) (cells_sorted h.buckets registry keys) leases grants =
    b ∙ ap (λ (z : List ℕ). back_of h ended z (take m sorted) leases grants) o.asked_are ∙ ap (λ (z : List ℕ). back_of h ended (cells_asked h.buckets registry keys) z leases grants) o.sorted_are in
    ap (λ (z : ScriptReply × List ℕ). (z.0, (u, (w, z.1)))) d
    ∙ ap (λ (z : Locks). finished_of h z (cells_asked h.buckets registry keys) (cells_sorted h.buckets registry keys) grants) k
    ∙ sym (sorted_finished h t g registry script place held keys grants own)

-- ---- what is known once the checks are fine

pub fine_bindings : (h : Head) (words bytes script place : ℕ) (registry keys : List ℕ) (grants : ℕ) → LocksFine h words bytes script place registry keys grants
    → (p : ℕ) → p < count_in keys → binding_at keys p < length registry
fine_bindings h words bytes script place registry keys grants f p l = f.bound p (omega arith)

pub checked_fine : (h : Head) (words bytes script place : ℕ) (registry keys : List ℕ) (grants : ℕ) → LocksFine h words bytes script place registry keys grants
    → first_key (count_in keys) 0 h registry keys ≡ Ok tt → KeysFine h registry keys
checked_fine h words bytes script place registry keys grants f e =
    keys_fine h registry keys f.few f.script_ok.shape.few_cells (fine_bindings h words bytes script place registry keys grants f) e
