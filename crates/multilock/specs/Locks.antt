-- Laws of multi-lock: the array of pairs as a list of leases, one key, one lease given back, the grant buffer, and what the counts keep.
use Prim.Native.Nat.{ℕ, zero, suc, ◌+◌, ◌*◌, ◌-◌, ◌/◌, ◌≤◌, ◌<◌}
use Rattle.std.proofs.Math.Path.{◌≡◌}
use Rattle.std.specs.Prelude.{refl, ◌≢◌, length, get_or, set, take, drop, Ok, Err}
use Rattle.std.proofs.Common.{sym, ap, subst, ◌∙◌, get_or-set_same, get_or-set_other}
use mathlib.Core.List.{List, [], ◌∷◌, ◌++◌, append_assoc}
use native.Mathlib.Omega.{arith}
use Rattle.std.proofs.Math.Decide.{ℕ_discrete}
use Rattle.types.specs.Checks.{Found}
use Rattle.model.specs.Log.{Made}
use Rattle.model.specs.Arena.{hold_of, holds_of, words_of}
use Rattle.model.specs.Foreign.{Setting, setting, protecting, steps_in}
use Rattle.model.specs.Lock.{find_of, attempt_at, attempt_of, pause_of, is_busy, last_of, none_yet, retry_of, give_back_of, ended_of, rollback_of, after_key, locks_of, binding_at, bucket_at, Locks, hold_at}
use Rattle.types.specs.declared.Answer.TheVariants as answer
use Rattle.types.specs.declared.Ended.{Ended}
use Rattle.types.specs.declared.Hold.{Hold}
use Rattle.types.specs.declared.Outcome.{Outcome}
use Rattle.types.specs.declared.Outcome.TheVariants as outcome
use Rattle.types.specs.declared.Reason.{Reason}
use Rattle.types.specs.declared.Refusal.{Refusal}
use Rattle.types.specs.declared.Run.{Run}
use Rattle.types.specs.declared.Tried.{Tried}
use Rattle.foreign.specs.declared.Scope.{Scope}
use Rattle.foreign.specs.Model.{pairs_of, guards_of}
use Rattle.choice.specs.Pick.{if_both}
use Rattle.laws.specs.Lists.{length_words}
use Rattle.laws.specs.Checks.{drop_three}
use Rattle.laws.specs.Keys.{find_inside}
use Rattle.laws.specs.Outcomes.{Comes, granted, busy, poisoned, damaged, spent, lock_comes}
use Rattle.bucket.specs.Model.{KeyFits}
use Rattle.bucket.specs.Bounds.{key_most}
use Rattle.bucket.specs.Laws.{RunBound, more_run_bound, attempt_run_bound, pause_run_bound}
use Rattle.release.specs.Release.{give_one_of, give_back_at}

-- ---- the array of pairs

abbrev pub pair : List (List ℕ) → ℕ → Hold
pair a i = hold_of (get_or (get_or a i []) 0 0) (get_or (get_or a i []) 1 0)

pub length_pairs : (n i : ℕ) (a : List (List ℕ)) → length (pairs_of n i a) ≡ n
unfolding pairs_of
length_pairs zero i a = refl
length_pairs (suc n) i a = ap suc (length_pairs n (i + 1) a)

-- the first of them, and the one at a position
take_pairs : (n m i : ℕ) (a : List (List ℕ)) → m ≤ n → take m (pairs_of n i a) ≡ pairs_of m i a
unfolding pairs_of
take_pairs n zero i a l = refl
take_pairs zero (suc m) i a l = absurd (omega arith)
take_pairs (suc n) (suc m) i a l = rw (take_pairs n m (i + 1) a (omega arith))

pair_at : (n m i : ℕ) (a : List (List ℕ)) → m < n → hold_at (pairs_of n i a) m ≡ pair a (i + m)
unfolding pairs_of
pair_at zero m i a l = absurd (omega arith)
pair_at (suc n) zero i a l = let e : i + 0 ≡ i = omega arith in rw e
pair_at (suc n) (suc m) i a l = let e : i + suc m ≡ i + 1 + m = omega arith in rw e (pair_at n m (i + 1) a (omega arith))

-- one more at the end
pub pairs_more : (n i : ℕ) (a : List (List ℕ)) → pairs_of (n + 1) i a ≡ pairs_of n i a ++ (pair a (i + n) ∷ [])
unfolding pairs_of
pairs_more zero i a = let e : i + 0 ≡ i = omega arith in rw e
pairs_more (suc n) i a =
    let k : suc n + 1 ≡ suc (n + 1) = omega arith in
    let e : i + 1 + n ≡ i + suc n = omega arith in
    rw k (ap {B = List Hold} (λ r. pair a i ∷ r) (pairs_more n (i + 1) a ∙ ap (λ j. pairs_of n (i + 1) a ++ (pair a j ∷ [])) e))

-- pairs before a place do not see a store to it
pub pairs_set : (n i p : ℕ) (a : List (List ℕ)) (v : List ℕ) → i + n ≤ p → pairs_of n i (set a p v) ≡ pairs_of n i a
unfolding pairs_of
pairs_set zero i p a v l = refl
pairs_set (suc n) i p a v l =
    let d : i ≢ p = omega arith in
    rw (get_or-set_other a p i v [] d) (ap {B = List Hold} (λ r. pair a i ∷ r) (pairs_set n (i + 1) p a v (omega arith)))

-- a lease noted behind them
pub pairs_push : (p : ℕ) (a : List (List ℕ)) (c s : ℕ) → p < length a → pairs_of (p + 1) 0 (set a p (c ∷ s ∷ [])) ≡ pairs_of p 0 a ++ (hold_of c s ∷ [])
pairs_push p a c s l =
    let z : 0 + p ≡ p = omega arith in
    pairs_more p 0 (set a p (c ∷ s ∷ [])) ∙ rw (z, get_or-set_same a p (c ∷ s ∷ []) [] l, pairs_set p 0 p a (c ∷ s ∷ []) (omega arith))

-- ---- what a retry keeps, and where its grant lies

module _ (e : Setting) (buckets : ℕ) (registry : List ℕ) (binding bucket : ℕ) where
  retry_run_bound : (left i : ℕ) (last : Reason) (most : ℕ) (r : Run) (t g : List ℕ) → RunBound (steps_in e.script) most r
      → RunBound (steps_in e.script) (most + 5 * left) (retry_of left i last e buckets registry binding bucket r t g).seen.0.run
  unfolding retry_of
  retry_run_bound zero i last most r t g b = more_run_bound _ most (most + 5 * 0) _ (omega arith) b
  retry_run_bound (suc left) i last most r t g b =
      let o = (attempt_of e buckets registry binding bucket r t g).seen in
      let c = attempt_run_bound e buckets registry binding bucket most r t g b in
      let p = (pause_of e i o.0.run o.1.0 o.1.1).seen in
      let d = pause_run_bound e i (most + 3) o.0.run o.1.0 o.1.1 c in
      if_both (λ (m : Made (Tried × (List ℕ × List ℕ))). RunBound (steps_in e.script) (most + 5 * suc left) m.seen.0.run) (is_busy o.0.outcome)
      (more_run_bound _ (most + 3 + 2 + 5 * left) (most + 5 * suc left) _ (omega arith) (retry_run_bound left (i + 1) (last_of last o.0.outcome) (most + 3 + 2) p.0 p.1.0 p.1.1 d))
      (more_run_bound _ (most + 3) (most + 5 * suc left) _ (omega arith) c)

  -- a granted lease's cell is in range
  abbrev Within : Outcome → Type 0
  Within k = (l : Hold) → k ≡ outcome.Granted l → l.cell < e.headers * buckets

  within_at : (c : ℕ) (g : List ℕ) (o : Outcome) → Comes buckets c g o → c < e.headers * buckets → Within o
  within_at c g o (granted s k) h l q = let z : hold_of c s ≡ l = cc in omega (arith, ap (λ (k : Hold). k.cell) z)
  within_at c g o (busy why) h l q = let y : ◌≡◌ {A = ℕ} 0 1 = cc in absurd (omega arith)
  within_at c g o (poisoned k) h l q = let y : ◌≡◌ {A = ℕ} 0 1 = cc in absurd (omega arith)
  within_at c g o damaged h l q = let y : ◌≡◌ {A = ℕ} 0 1 = cc in absurd (omega arith)
  within_at c g o spent h l q = let y : ◌≡◌ {A = ℕ} 0 1 = cc in absurd (omega arith)

  within_attempt : (k : Found) (r : Run) (t g : List ℕ) → ((c : ℕ) → k ≡ Ok c → c < e.headers * buckets) → Within (attempt_at k e buckets r t g).seen.0.outcome
  within_attempt (Err x) r t g h l q = let y : ◌≡◌ {A = ℕ} 0 1 = cc in absurd (omega arith)
  within_attempt (Ok c) r t g h l q = within_at c _ _ (lock_comes e buckets c r.flow t g) (h c refl) l q

  retry_within : (left i : ℕ) (last : Reason) (r : Run) (t g : List ℕ) → Within (retry_of left i last e buckets registry binding bucket r t g).seen.0.outcome
  unfolding retry_of attempt_of
  retry_within zero i last r t g = λ l q. let y : ◌≡◌ {A = ℕ} 0 1 = cc in absurd (omega arith)
  retry_within (suc left) i last r t g =
      let o = (attempt_of e buckets registry binding bucket r t g).seen in
      let p = (pause_of e i o.0.run o.1.0 o.1.1).seen in
      if_both (λ (m : Made (Tried × (List ℕ × List ℕ))). Within m.seen.0.outcome) (is_busy o.0.outcome)
      (retry_within left (i + 1) (last_of last o.0.outcome) p.0 p.1.0 p.1.1)
      (within_attempt (find_of e.headers buckets g registry binding bucket) r t g (find_inside e.headers buckets g registry binding bucket))

-- as the code has them
pub retry_goes : (o : Tried × (List ℕ × List ℕ)) (headers cells steps : ℕ) (script : List ℕ) (ps : List Hold) (buckets : ℕ) (registry : List ℕ) (binding bucket most : ℕ) (r : Run) (t g : List ℕ)
    → steps ≡ length script / 3 → o ≡ (retry_of 4096 0 none_yet (setting headers cells script ps) buckets registry binding bucket r t g).seen → RunBound steps most r → RunBound steps (most + key_most) o.0.run
retry_goes o headers cells steps script ps buckets registry binding bucket most r t g n q b =
    rw (q, n) (retry_run_bound (setting headers cells script ps) buckets registry binding bucket 4096 0 none_yet most r t g (rw n at b))

pub grant_inside : (o : Tried × (List ℕ × List ℕ)) (headers cells : ℕ) (script : List ℕ) (ps : List Hold) (buckets : ℕ) (registry : List ℕ) (binding bucket : ℕ) (r : Run) (t g : List ℕ) (l : Hold)
    → o ≡ (retry_of 4096 0 none_yet (setting headers cells script ps) buckets registry binding bucket r t g).seen → o.0.outcome ≡ outcome.Granted l → l.cell < headers * buckets
grant_inside o headers cells script ps buckets registry binding bucket r t g l q h =
    retry_within (setting headers cells script ps) buckets registry binding bucket 4096 0 none_yet r t g l (sym (ap (λ (k : Tried × (List ℕ × List ℕ)). k.0.outcome) q) ∙ h)

-- ---- one key

module _ (n p : ℕ) (e : Setting) (buckets boot : ℕ) (registry keys : List ℕ) (taken : List Hold) (r : Run) (t g grants : List ℕ) where
  abbrev tried : Tried × (List ℕ × List ℕ)
  tried = (retry_of 4096 0 none_yet (protecting e taken) buckets registry (binding_at keys p) (bucket_at keys p) r t g).seen

  -- what comes of the key, by what its retry came to
  abbrev next_key : Outcome → Tried × (List ℕ × List ℕ) → Made Locks
  next_key k o =
      after_key k e taken p o.0.run o.1.0 o.1.1 grants λ l. locks_of (n - (p + 1)) (p + 1) e buckets boot registry keys (taken ++ (l ∷ [])) o.0.run o.1.0 o.1.1 grants

  pub locks_at : (o : Tried × (List ℕ × List ℕ)) (k : Outcome) → o ≡ tried → o.0.outcome ≡ k → p < n
      → (locks_of (n - p) p e buckets boot registry keys taken r t g grants).seen ≡ (next_key k o).seen
  unfolding locks_of
  locks_at o k q w l = let d : n - p ≡ suc (n - (p + 1)) = omega arith in rw (d, ← q, w)

  pub locks_end : n ≤ p → (locks_of (n - p) p e buckets boot registry keys taken r t g grants).seen ≡ (ended_of r answer.AllGranted, (t, (g, words_of boot taken)))
  unfolding locks_of
  locks_end l = let d : n - p ≡ 0 = omega arith in rw d

-- ---- one turn of the rollback, as the code makes it

-- the leases are the first n pairs of an array, behind a held list; the first m are lent as the protected ones
pub give_pairs_at : (k m n headers cells : ℕ) (script held : List ℕ) (taken : List (List ℕ)) (r : Run) (t g : List ℕ) (o : Run × (List ℕ × List ℕ))
    → k ≡ m + 1 → m < n
    → o ≡ give_one_of (setting headers cells script (guards_of held taken m)) r t g (get_or (get_or taken m []) 0 0)
    → (give_back_of k (setting headers cells script (holds_of held)) (pairs_of n 0 taken) r t g).seen
    ≡ (give_back_of m (setting headers cells script (holds_of held)) (pairs_of n 0 taken) o.0 o.1.0 o.1.1).seen
unfolding guards_of
give_pairs_at k m n headers cells script held taken r t g o l b q =
    let z : 0 + m ≡ m = omega arith in
    give_back_at k m (setting headers cells script (holds_of held)) (pairs_of n 0 taken) r t g o l
    (q ∙ rw (take_pairs n m 0 taken (omega arith), pair_at n m 0 taken b, z))

-- a rollback, as the code has it: without the grant buffer, which it does not touch
unfoldable pub roll_back_of : Setting → List Hold → Refusal → ℕ → Run → List ℕ → List ℕ → Ended × (List ℕ × List ℕ)
roll_back_of e ls x p r t g = let k = (give_back_of (length ls) e ls r t g).seen in (ended_of k.0 (answer.RefusedAt x p), k.1)

abbrev pub with_grants : Ended × (List ℕ × List ℕ) → List ℕ → Ended × (List ℕ × (List ℕ × List ℕ))
with_grants o grants = (o.0, (o.1.0, (o.1.1, grants)))

pub rolled : (e : Setting) (ls : List Hold) (x : Refusal) (p : ℕ) (r : Run) (t g grants : List ℕ) → (rollback_of e ls x p r t g grants).seen ≡ with_grants (roll_back_of e ls x p r t g) grants
unfolding rollback_of roll_back_of
rolled e ls x p r t g grants = refl

-- ---- the grant buffer

words_append : (boot : ℕ) (xs ys : List Hold) → words_of boot (xs ++ ys) ≡ words_of boot xs ++ words_of boot ys
unfolding words_of
words_append boot [] ys = refl
words_append boot (x ∷ xs) ys = ap {B = List ℕ} (λ r. x.cell ∷ x.serial ∷ boot ∷ r) (words_append boot xs ys)

-- three stores behind what stands
three_set : (w : List ℕ) (x y z : ℕ) (r : List ℕ) (c s b : ℕ)
    → set (set (set (w ++ (x ∷ y ∷ z ∷ r)) (length w) c) (length w + 1) s) (length w + 2) b ≡ w ++ (c ∷ s ∷ b ∷ r)
three_set [] x y z r c s b = refl
three_set (h ∷ w) x y z r c s b =
    let e : suc (length w) + 1 ≡ suc (length w + 1) = omega arith in
    let f : suc (length w) + 2 ≡ suc (length w + 2) = omega arith in
    rw (e, f) (ap (λ (q : List ℕ). h ∷ q) (three_set w x y z r c s b))

-- one lease more is written
pub words_more : (boot i : ℕ) (a : List (List ℕ)) (b : List ℕ) → 3 * i + 2 < length b
    → set (set (set (words_of boot (pairs_of i 0 a) ++ drop (3 * i) b) (3 * i) (pair a i).cell) (3 * i + 1) (pair a i).serial) (3 * i + 2) boot
    ≡ words_of boot (pairs_of (i + 1) 0 a) ++ drop (3 * (i + 1)) b
unfolding words_of
words_more boot i a b l =
    let w = words_of boot (pairs_of i 0 a) in
    let n : length w ≡ 3 * i = length_words boot (pairs_of i 0 a) ∙ ap (λ k. 3 * k) (length_pairs i 0 a) in
    let z : 0 + i ≡ i = omega arith in
    let d : 3 * i + 3 ≡ 3 * (i + 1) = omega arith in
    rw (drop_three b (3 * i) l)
    (subst (λ k. set (set (set (w ++ (get_or b (3 * i) 0 ∷ get_or b (3 * i + 1) 0 ∷ get_or b (3 * i + 2) 0 ∷ drop (3 * i + 3) b)) k (pair a i).cell) (k + 1) (pair a i).serial) (k + 2) boot ≡ w ++ ((pair a i).cell ∷ (pair a i).serial ∷ boot ∷ drop (3 * i + 3) b)) n
    (three_set w (get_or b (3 * i) 0) (get_or b (3 * i + 1) 0) (get_or b (3 * i + 2) 0) (drop (3 * i + 3) b) (pair a i).cell (pair a i).serial boot)
    ∙ sym (rw (pairs_more i 0 a, z, words_append boot (pairs_of i 0 a) (pair a i ∷ []), append_assoc w ((pair a i).cell ∷ (pair a i).serial ∷ boot ∷ []) (drop (3 * (i + 1)) b), ← d)))

-- what the keys are given: an arena whose cells can be numbered, and bindings inside the registry
pub record Bound (s : Scope) (words bytes script : ℕ) (registry keys : List ℕ) : Type 0 where
  pub key : KeyFits s words bytes 64 script 1 0
  pub bound : (i : ℕ) → 2 * i + 1 < length keys → binding_at keys i < length registry

-- lengths do not change
pub bound_for : {s : Scope} {words words₀ bytes bytes₀ script : ℕ} {registry keys : List ℕ} → words ≡ words₀ → bytes ≡ bytes₀
    → Bound s words₀ bytes₀ script registry keys → Bound s words bytes script registry keys
bound_for p q b = rw (p, q) b

-- a noted lease's cell is in range, with those before it
pub inside_push : (a : List (List ℕ)) (p c s cells : ℕ) → p < length a → c < cells → ((i : ℕ) → i < p → get_or (get_or a i []) 0 0 < cells)
    → (i : ℕ) → i < p + 1 → get_or (get_or (set a p (c ∷ s ∷ [])) i []) 0 0 < cells
inside_push a p c s cells l h b i k = go (ℕ_discrete i p)
  where
    go : Dec (i ≡ p) → get_or (get_or (set a p (c ∷ s ∷ [])) i []) 0 0 < cells
    go (yes e) = rw (e, get_or-set_same a p (c ∷ s ∷ []) [] l) h
    go (no e) = rw (get_or-set_other a p i (c ∷ s ∷ []) [] e) (b i (omega arith))

-- where multi-lock stands, before the key at position p, seen from position p₀, with these leases taken before it
pub record Keying (e : Setting) (steps cells n buckets boot : ℕ) (registry keys : List ℕ) (grants : List ℕ) (p₀ : ℕ) (ls₀ : List Hold) (r₀ : Run) (t₀ g₀ : List ℕ) (p : ℕ) (a : List (List ℕ)) (r : Run) (t g : List ℕ) : Type 0 where
  pub run_bound : RunBound steps (key_most * p) r
  pub few : p ≤ n
  pub words : length t ≡ length t₀
  pub bytes : length g ≡ length g₀
  pub size : length a ≡ 64
  pub inside : (i : ℕ) → i < p → get_or (get_or a i []) 0 0 < cells
  pub rest : (locks_of (n - p) p e buckets boot registry keys (pairs_of p 0 a) r t g grants).seen ≡ (locks_of (n - p₀) p₀ e buckets boot registry keys ls₀ r₀ t₀ g₀ grants).seen
