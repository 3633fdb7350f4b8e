-- What a whole member does to the counters: the sum at each of its cells, nothing elsewhere. No law of sums is used.
use Prim.Native.Nat.{ℕ, zero, suc, ◌+◌, ◌<◌}
use Rattle.std.specs.Prelude.{◌≡◌, ◌≢◌, ◌⊎◌, get_or, set}
use Rattle.std.proofs.Math.Path.{refl, sym, ap}
use Rattle.std.proofs.Common.{◌∙◌, inl, inr}
use mathlib.Core.List.{List, [], ◌∷◌, ◌++◌}
use native.Mathlib.Omega.{arith}
use Rattle.std.proofs.Math.Decide.{ℕ_discrete}
use Rattle.std.proofs.Math.ListN.{length, length-set}
use Rattle.std.proofs.Math.Seq.{get_or-set_same, get_or-set_other}
use Rattle.model.specs.Arena.{cells_of}
use Rattle.model.specs.Crew.{start_of, count_of}
use Rattle.types.specs.declared.Head.{Head}
use Rattle.crew_theory.specs.Statements.{named}
use Rattle.crew_theory.specs.Lists.{Fits}
use Rattle.crew_at_work_theory.specs.Statements.{raised_by, whole_by, replay_by}

-- whether c is one of `left` cells from place k on
abbrev pub Listed : List ℕ → ℕ → ℕ → ℕ → Type 0
Listed cells left k c = ((j : ℕ) × (j < left) × (named cells (k + j) ≡ c)) ⊎ ((j : ℕ) → j < left → named cells (k + j) ≢ c)

pub among : (cells : List ℕ) (left k c : ℕ) → Listed cells left k c
among cells zero k c = inr (λ j b e. omega arith)
among cells (suc left) k c = go (ℕ_discrete (named cells (k + left)) c) (among cells left k c)
  where
    go : Dec (named cells (k + left) ≡ c) → Listed cells left k c → Listed cells (suc left) k c
    go (yes e) r = inl (left, omega arith, e)
    go (no e) (inl (j, b, f)) = inl (j, omega arith, f)
    go (no e) (inr f) = inr (λ j b. at j b (ℕ_discrete j left))
      where
        at : (j : ℕ) → j < suc left → Dec (j ≡ left) → named cells (k + j) ≢ c
        at j b (yes p) = rw p e
        at j b (no p) = f j (omega arith)

module _ (plus : ℕ → ℕ → ℕ) (cells : List ℕ) where
  raised_length : (v left k : ℕ) (l : List ℕ) → length (raised_by plus left k cells v l) ≡ length l
  unfolding raised_by
  raised_length v zero k l = refl
  raised_length v (suc left) k l = raised_length _ left (k + 1) _ ∙ length-set l (named cells k) _

  raised_other : (v left k : ℕ) (l : List ℕ) (c : ℕ) → ((j : ℕ) → j < left → named cells (k + j) ≢ c) → get_or (raised_by plus left k cells v l) c 0 ≡ get_or l c 0
  unfolding raised_by
  raised_other v zero k l c apart = refl
  raised_other v (suc left) k l c apart =
      raised_other _ left (k + 1) _ c (λ j b e. apart (suc j) (omega arith) (ap (named cells) {x = k + suc j} {y = k + 1 + j} (omega arith) ∙ e))
      ∙ get_or-set_other l (named cells k) c _ 0 (λ e. apart 0 (omega arith) (ap (named cells) {x = k + 0} {y = k} (omega arith) ∙ sym e))

  abbrev put : ℕ → List ℕ → ℕ → List ℕ
  put v l k = set l (named cells k) (plus (get_or l (named cells k) 0) v)

  raised_at : (v left k : ℕ) (l : List ℕ) (j : ℕ) → ((a b : ℕ) → a < b → b < left → named cells (k + a) < named cells (k + b)) → j < left → named cells (k + j) < length l
      → get_or (raised_by plus left k cells v l) (named cells (k + j)) 0 ≡ plus (get_or l (named cells (k + j)) 0) v
  unfolding raised_by
  raised_at v zero k l j rise b in_range = absurd (omega arith)
  raised_at v (suc left) k l zero rise b in_range =
      let e : k + 0 ≡ k = omega arith in
      let i : named cells k < length l = rw e at in_range in
      rw e (raised_other v left (k + 1) (put v l k) (named cells k)
      (λ j b d. omega (arith, rise 0 (suc j) (omega arith) (omega arith), ap (named cells) {x = k + suc j} {y = k + 1 + j} (omega arith), ap (named cells) e))
      ∙ get_or-set_same l (named cells k) (plus (get_or l (named cells k) 0) v) 0 i)
  raised_at v (suc left) k l (suc j) rise b in_range =
      let e : k + suc j ≡ k + 1 + j = omega arith in
      let i : named cells (k + 1 + j) < length l = rw e at in_range in
      let f : named cells k < named cells (k + 1 + j) = omega (arith, rise 0 (suc j) (omega arith) b, ap (named cells) e, ap (named cells) {x = k + 0} {y = k} (omega arith)) in
      rw e (raised_at v left (k + 1) (put v l k) j
      (λ a b x y. omega (arith, rise (suc a) (suc b) (omega arith) (omega arith), ap (named cells) {x = k + suc a} {y = k + 1 + a} (omega arith), ap (named cells) {x = k + suc b} {y = k + 1 + b} (omega arith)))
      (omega arith) (omega (arith, length-set l (named cells k) (plus (get_or l (named cells k) 0) v)))
      ∙ ap (λ x. plus x v) (get_or-set_other l (named cells k) (named cells (k + 1 + j)) (plus (get_or l (named cells k) 0) v) 0 (λ x. omega arith)))

module _ (plus : ℕ → ℕ → ℕ) (counts cells : List ℕ) where
  pub whole_length : (l : List ℕ) (m : ℕ) → length (whole_by plus counts cells l m) ≡ length l
  unfolding whole_by
  whole_length l m = raised_length plus cells _ (count_of counts m) (start_of counts m) l

  pub whole_other : (l : List ℕ) (m c : ℕ) → ((j : ℕ) → j < count_of counts m → named cells (start_of counts m + j) ≢ c) → get_or (whole_by plus counts cells l m) c 0 ≡ get_or l c 0
  unfolding whole_by
  whole_other l m c apart = raised_other plus cells _ (count_of counts m) (start_of counts m) l c apart

  pub whole_none : (l : List ℕ) (m : ℕ) → count_of counts m ≡ 0 → whole_by plus counts cells l m ≡ l
  unfolding whole_by raised_by
  whole_none l m e = rw e

  pub replay_append : (l xs ys : List ℕ) → replay_by plus counts cells l (xs ++ ys) ≡ replay_by plus counts cells (replay_by plus counts cells l xs) ys
  unfolding replay_by
  replay_append l [] ys = refl
  replay_append l (m ∷ xs) ys = replay_append (whole_by plus counts cells l m) xs ys

  module _ (h : Head) (words : ℕ) (f : Fits h words counts cells) where
    pub whole_at : (l : List ℕ) (m j : ℕ) → j < count_of counts m → length l ≡ cells_of h
        → get_or (whole_by plus counts cells l m) (named cells (start_of counts m + j)) 0 ≡ plus (get_or l (named cells (start_of counts m + j)) 0) (get_or l (named cells (start_of counts m)) 0)
    unfolding whole_by
    whole_at l m j b e =
        raised_at plus cells _ (count_of counts m) (start_of counts m) l j (λ x y p q. f.rising m x y p q) b (omega (arith, f.range m j b))
