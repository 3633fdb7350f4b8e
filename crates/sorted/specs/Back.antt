-- The leases of the distinct cells handed back, one for each key; and multi-lock's parts with a buffer of the call's own.
use Prim.Native.Nat.{ℕ, zero, suc, ◌+◌, ◌*◌, ◌/◌, ◌<◌, ◌≤◌}
use Rattle.std.specs.Prelude.{◌≡◌, ◌≢◌, Some, None, eqb, length, get_or, set, take, drop, if◌then◌else◌}
use Rattle.std.proofs.Math.Path.{refl}
use Rattle.std.proofs.Common.{ap, ◌∙◌, add-one, take-suc, eq-eqb, ne_eqb}
use mathlib.Core.List.{List, [], ◌∷◌, ◌++◌}
use native.Mathlib.Omega.{arith}
use Rattle.model.specs.Arena.{hold_of, holds_of, words_of}
use Rattle.model.specs.Foreign.{Setting, protecting}
use Rattle.model.specs.Lock.{Locks, after_key, rollback_of, retry_of, attempt_limit, none_yet, no_hold, binding_at, bucket_at, locks_of}
use Rattle.model.specs.Calls.{script_reply, starting, given}
use Rattle.model.specs.Sorted.{cells_asked, cells_sorted, sorted_keys, hold_on, shared_of, handed_back, asked_first, sorted_locks_of}
use Rattle.types.specs.declared.Answer.{Answer}
use Rattle.types.specs.declared.Answer.TheVariants.{Done, Cell, Granted, AllGranted, Busy, Refused, RefusedAt}
use Rattle.types.specs.declared.Ended.{Ended}
use Rattle.types.specs.declared.Head.{Head}
use Rattle.types.specs.declared.Hold.{Hold}
use Rattle.types.specs.declared.Outcome.{Outcome}
use Rattle.types.specs.declared.Outcome.TheVariants as outcome
use Rattle.types.specs.declared.ScriptReply.{ScriptReply}
use Rattle.types.specs.declared.Run.{Run}
use Rattle.laws.specs.Checks.{holds_at, holds_end}
use Rattle.sorted.specs.Marks.{Found, skip}
use Rattle.sorted.specs.Order.{take_three}

-- ---- the lease of a cell, a position at a time

pub hold_on_at : (l : List ℕ) (i c : ℕ) → 3 * i + 2 < length l
    → hold_on (holds_of (drop (3 * i) l)) c ≡ (if eqb (get_or l (3 * i) 0) c then hold_of (get_or l (3 * i) 0) (get_or l (3 * i + 1) 0) else hold_on (holds_of (drop (3 * (i + 1)) l)) c)
unfolding hold_on
hold_on_at l i c b = rw (holds_at l i b)

pub hold_on_end : (l : List ℕ) (i c : ℕ) → length l ≤ 3 * i + 2 → hold_on (holds_of (drop (3 * i) l)) c ≡ no_hold
unfolding hold_on
hold_on_end l i c b = rw (holds_end l i b)

-- the search finds it, or there is none
module _ (l : List ℕ) (c : ℕ) where
  hold_skip : (k : ℕ) → k ≤ length l / 3 → ((i : ℕ) → i < k → get_or l (3 * i) 0 ≢ c) → hold_on (holds_of l) c ≡ hold_on (holds_of (drop (3 * k) l)) c
  hold_skip = skip (λ k. hold_on (holds_of (drop (3 * k) l)) c) (λ i. get_or l (3 * i) 0) (length l / 3) c (λ k b n. hold_on_at l k c (omega arith) ∙ rw (ne_eqb _ _ n))

  pub hold_found : (k : ℕ) → Found 3 l c (Some k) → hold_of c (get_or l (3 * k + 1) 0) ≡ hold_on (holds_of l) c
  hold_found k f = rw (hold_skip k (omega (arith, f.0)) f.2, hold_on_at l k c (omega (arith, f.0)), eq-eqb _ _ f.1, f.1)

  pub hold_missed : Found 3 l c None → no_hold ≡ hold_on (holds_of l) c
  hold_missed f = rw (hold_skip (length l / 3) (omega arith) f, hold_on_end l (length l / 3) c (omega arith))

-- ---- the grant buffer

shared_append : (boot : ℕ) (ls : List Hold) (xs ys : List ℕ) → words_of boot (shared_of ls (xs ++ ys)) ≡ words_of boot (shared_of ls xs) ++ words_of boot (shared_of ls ys)
unfolding shared_of words_of
shared_append boot ls [] ys = refl
shared_append boot ls (c ∷ cs) ys = ap {B = List ℕ} (λ r. (hold_on ls c).cell ∷ (hold_on ls c).serial ∷ boot ∷ r) (shared_append boot ls cs ys)

-- one lease more is written
pub shared_push : (boot : ℕ) (ls : List Hold) (asked l : List ℕ) (i : ℕ) → i < length asked → 3 * i + 2 < length l → take (3 * i) l ≡ words_of boot (shared_of ls (take i asked))
    → take (3 * (i + 1)) (set (set (set l (3 * i) (hold_on ls (get_or asked i 0)).cell) (3 * i + 1) (hold_on ls (get_or asked i 0)).serial) (3 * i + 2) boot)
    ≡ words_of boot (shared_of ls (take (i + 1) asked))
unfolding shared_of words_of
shared_push boot ls asked l i b n e =
    let d : 3 * (i + 1) ≡ 3 * i + 3 = omega arith in
    rw (d, take_three l (3 * i) _ _ _ n, add-one i, take-suc asked i 0 b, shared_append boot ls (take i asked) (get_or asked i 0 ∷ []), e)

-- on a grant one lease for each key, from those of the distinct cells; else the caller's buffer as it was
abbrev pub handed_in : ℕ → Answer → List ℕ → List ℕ → List ℕ → List ℕ
handed_in boot Done asked leases grants = grants
handed_in boot (Cell c) asked leases grants = grants
handed_in boot (Granted l) asked leases grants = grants
handed_in boot AllGranted asked leases grants = words_of boot (shared_of (holds_of leases) asked)
handed_in boot (Busy why) asked leases grants = grants
handed_in boot (Refused r) asked leases grants = grants
handed_in boot (RefusedAt r q) asked leases grants = grants

-- the caller's result and buffer, from what multi-lock's parts came to with a buffer of their own
abbrev pub back_of : Head → Ended → List ℕ → List ℕ → List ℕ → List ℕ → ScriptReply × List ℕ
back_of h ended asked sorted leases grants = (script_reply h ended.run (asked_first ended.answer asked sorted), handed_in h.boot ended.answer asked leases grants)

-- a refusal's position is one of these
abbrev pub Placed : ℕ → Answer → Type 0
Placed n Done = Unit
Placed n (Cell c) = Unit
Placed n (Granted l) = Unit
Placed n AllGranted = Unit
Placed n (Busy why) = Unit
Placed n (Refused r) = Unit
Placed n (RefusedAt r q) = q < n

-- ---- multi-lock's parts with another buffer: a refusal hands it back, a grant writes all of it

abbrev kept : Answer → List ℕ → List ℕ → List ℕ
kept Done own other = other
kept (Cell c) own other = other
kept (Granted l) own other = other
kept AllGranted own other = own
kept (Busy why) own other = other
kept (Refused r) own other = other
kept (RefusedAt r q) own other = other

abbrev swapped : Locks → List ℕ → Locks
swapped o b = (o.0, (o.1.0, (o.1.1.0, kept o.0.answer o.1.1.1 b)))

module _ (e : Setting) (buckets boot : ℕ) (registry keys : List ℕ) (a b : List ℕ) where
  abbrev on : ℕ → ℕ → List Hold → Run → List ℕ → List ℕ → List ℕ → Locks
  on left p taken r t g buffer = (locks_of left p e buckets boot registry keys taken r t g buffer).seen

  pub locks_swapped : (left p : ℕ) (taken : List Hold) (r : Run) (t g : List ℕ) → on left p taken r t g b ≡ swapped (on left p taken r t g a) b
  unfolding locks_of rollback_of
  locks_swapped zero p taken r t g = refl
  locks_swapped (suc left) p taken r t g =
      let k = (retry_of attempt_limit 0 none_yet (protecting e taken) buckets registry (binding_at keys p) (bucket_at keys p) r t g).seen in
      go k.0.outcome k.0.run k.1.0 k.1.1 (λ l. locks_swapped left (p + 1) (taken ++ (l ∷ [])) k.0.run k.1.0 k.1.1)
    where
      go : (o : Outcome) (q : Run) (u w : List ℕ) → ((l : Hold) → on left (p + 1) (taken ++ (l ∷ [])) q u w b ≡ swapped (on left (p + 1) (taken ++ (l ∷ [])) q u w a) b)
          → (after_key o e taken p q u w b (λ l. locks_of left (p + 1) e buckets boot registry keys (taken ++ (l ∷ [])) q u w b)).seen
          ≡ swapped (after_key o e taken p q u w a (λ l. locks_of left (p + 1) e buckets boot registry keys (taken ++ (l ∷ [])) q u w a)).seen b
      go (outcome.Granted l) q u w more = more l
      go (outcome.Busy why) q u w more = refl
      go (outcome.Refused x) q u w more = refl

  pub locks_placed : (left p : ℕ) (taken : List Hold) (r : Run) (t g : List ℕ) → Placed (p + left) (on left p taken r t g a).0.answer
  unfolding locks_of rollback_of
  locks_placed zero p taken r t g = tt
  locks_placed (suc left) p taken r t g =
      let k = (retry_of attempt_limit 0 none_yet (protecting e taken) buckets registry (binding_at keys p) (bucket_at keys p) r t g).seen in
      let n : p + 1 + left ≡ p + suc left = omega arith in
      go k.0.outcome k.0.run k.1.0 k.1.1 (λ l. rw n at (locks_placed left (p + 1) (taken ++ (l ∷ [])) k.0.run k.1.0 k.1.1))
    where
      go : (o : Outcome) (q : Run) (u w : List ℕ) → ((l : Hold) → Placed (p + suc left) (on left (p + 1) (taken ++ (l ∷ [])) q u w a).0.answer)
          → Placed (p + suc left) (after_key o e taken p q u w a (λ l. locks_of left (p + 1) e buckets boot registry keys (taken ++ (l ∷ [])) q u w a)).seen.0.answer
      go (outcome.Granted l) q u w more = more l
      go (outcome.Busy why) q u w more = omega arith
      go (outcome.Refused x) q u w more = omega arith

-- ---- the call's end

-- what multi-lock's parts, with a buffer of their own, come to for the caller
abbrev pub finished_of : Head → Locks → List ℕ → List ℕ → List ℕ → ScriptReply × (List ℕ × (List ℕ × List ℕ))
finished_of h o asked sorted grants =
    let k = back_of h o.0 asked sorted o.1.1.1 grants in
    (k.0, (o.1.0, (o.1.1.0, k.1)))

handed_kept : (boot : ℕ) (x : Answer) (asked own grants : List ℕ) → handed_back boot x asked (kept x own grants) ≡ handed_in boot x asked own grants
handed_kept boot Done asked own grants = refl
handed_kept boot (Cell c) asked own grants = refl
handed_kept boot (Granted l) asked own grants = refl
handed_kept boot AllGranted asked own grants = refl
handed_kept boot (Busy why) asked own grants = refl
handed_kept boot (Refused r) asked own grants = refl
handed_kept boot (RefusedAt r q) asked own grants = refl

-- the definition's steps, with any buffer in place of the caller's
pub sorted_finished : (h : Head) (t g registry script : List ℕ) (place : ℕ) (held keys grants own : List ℕ)
    → (sorted_locks_of h t g registry script place held keys grants).seen
    ≡ finished_of h (locks_of (length (cells_sorted h.buckets registry keys)) 0 (given h script (holds_of held)) h.buckets h.boot registry (sorted_keys h.buckets registry keys) [] (starting h place) t g own).seen
    (cells_asked h.buckets registry keys) (cells_sorted h.buckets registry keys) grants
unfolding sorted_locks_of
sorted_finished h t g registry script place held keys grants own =
    let e = given h script (holds_of held) in
    let n = length (cells_sorted h.buckets registry keys) in
    let o = (locks_of n 0 e h.buckets h.boot registry (sorted_keys h.buckets registry keys) [] (starting h place) t g own).seen in
    rw (locks_swapped e h.buckets h.boot registry (sorted_keys h.buckets registry keys) own grants n 0 [] (starting h place) t g)
    (ap (λ (z : List ℕ). (script_reply h o.0.run (asked_first o.0.answer (cells_asked h.buckets registry keys) (cells_sorted h.buckets registry keys)), (o.1.0, (o.1.1.0, z))))
    (handed_kept h.boot o.0.answer (cells_asked h.buckets registry keys) o.1.1.1 grants))
