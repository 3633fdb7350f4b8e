-- The tests of the keys' headers and buckets, position by position: what each answer of theirs says.
use Prim.Native.Nat.{ℕ, zero, suc, ◌+◌, ◌≤◌, ◌<◌}
use Rattle.std.specs.Prelude.{◌≡◌, List, [], ◌∷◌, Bool, eqb, get_or, if◌then◌else◌, Ok, Err}
use Rattle.std.proofs.Math.Path.{refl}
use Rattle.std.proofs.Common.{ap, subst, inl, inr, arith}
use Rattle.std.proofs.Math.Bool.{true, false}
use Rattle.std.proofs.Math.Decide.{ℕ_discrete, dec_lt}
use Rattle.std.proofs.Math.Dec.{leb}
use Rattle.types.specs.Checks.{KeyCheck}
use borrow.Author.Tests.{leb-true, leb-false, eqb-false}
use Rattle.model.specs.Refusals.{first}
use Rattle.model.specs.Lock.{bucket_at}
use Rattle.model.specs.Checks.{count_in}
use Rattle.model.specs.Sorted.{header_of_key, fault_at, first_asking, first_key}
use Rattle.types.specs.declared.Head.{Head}
use Rattle.types.specs.declared.Refusal.{Refusal}
use Rattle.types.specs.declared.Refusal.TheVariants.{BadHeader, InvalidBucket}
use Rattle.sorted_theory.specs.Statements.{TestsKey, KeyInside, BadKey, bad_header, bad_bucket, FirstBad}

module _ (h : Head) (registry keys : List ℕ) where
  -- `left` keys from position i on
  data Checked (left i : ℕ) : KeyCheck → Type 0 where
    all_fine : ((q : ℕ) → i ≤ q → q < i + left → KeyInside h registry keys q) → Checked left i (Ok tt)
    faulty : (r : Refusal) (p : ℕ) → i ≤ p → p < i + left → ((q : ℕ) → i ≤ q → q < p → KeyInside h registry keys q) → BadKey h registry keys p r
        → Checked left i (Err (r, p))

  -- a good key before the others
  one_more : {left i : ℕ} {x : KeyCheck} → KeyInside h registry keys i → Checked left (i + 1) x → Checked (suc left) i x
  one_more {left} {i} k (all_fine f) = all_fine (λ q a b. go q a b (ℕ_discrete i q))
    where
      go : (q : ℕ) → i ≤ q → q < i + suc left → Dec (i ≡ q) → KeyInside h registry keys q
      go q a b (yes e) = subst (KeyInside h registry keys) e k
      go q a b (no e) = f q (omega arith) (omega arith)
  one_more {left} {i} k (faulty r p a b f g) = faulty r p (omega arith) (omega arith) (λ q x y. go q x y (ℕ_discrete i q)) g
    where
      go : (q : ℕ) → i ≤ q → q < p → Dec (i ≡ q) → KeyInside h registry keys q
      go q x y (yes e) = subst (KeyInside h registry keys) e k
      go q x y (no e) = f q (omega arith) (omega arith)

  checked : (left i : ℕ) → Checked left i (first_key left i h registry keys)
  unfolding first_key first
  checked zero i = all_fine (λ q a b. absurd (omega arith))
  checked (suc left) i = go (leb h.headers (header_of_key registry keys i)) (leb h.buckets (bucket_at keys i)) refl refl (first_key left (i + 1) h registry keys) (checked left (i + 1))
    where
      go : (a b : Bool) → leb h.headers (header_of_key registry keys i) ≡ a → leb h.buckets (bucket_at keys i) ≡ b → (x : KeyCheck) → Checked left (i + 1) x
          → Checked (suc left) i (fault_at (if a then Err (BadHeader (header_of_key registry keys i)) else if b then Err (InvalidBucket (bucket_at keys i)) else (Ok tt)) i x)
      go true b u v x c = faulty _ i (omega arith) (omega arith) (λ q m n. absurd (omega arith)) (bad_header (leb-true _ _ u))
      go false true u v x c = faulty _ i (omega arith) (omega arith) (λ q m n. absurd (omega arith)) (bad_bucket (leb-false _ _ u) (leb-true _ _ v))
      go false false u v x c = one_more (leb-false _ _ u, leb-false _ _ v) c

  -- a key is not inside and bad
  not_both : (p : ℕ) (r : Refusal) → KeyInside h registry keys p → BadKey h registry keys p r → ⊥
  not_both p r k (bad_header x) = omega (arith, k.0)
  not_both p r k (bad_bucket x y) = omega (arith, k.1)

  -- no fault: every key is inside
  pub keys_inside : first_key (count_in keys) 0 h registry keys ≡ Ok tt → (q : ℕ) → q < count_in keys → KeyInside h registry keys q
  keys_inside e q l = go (checked (count_in keys) 0) e
    where
      go : {x : KeyCheck} → Checked (count_in keys) 0 x → x ≡ Ok tt → KeyInside h registry keys q
      go (all_fine f) e = f q (omega arith) (omega arith)
      go (faulty r p a b f g) e = let z : ◌≡◌ {A = ℕ} 0 1 = cc in absurd (omega arith)

  -- and the other way
  pub all_inside : ((q : ℕ) → q < count_in keys → KeyInside h registry keys q) → first_key (count_in keys) 0 h registry keys ≡ Ok tt
  all_inside f = go (checked (count_in keys) 0)
    where
      go : {x : KeyCheck} → Checked (count_in keys) 0 x → x ≡ Ok tt
      go (all_fine g) = refl
      go (faulty r p a b g bad) = absurd (not_both p r (f p (omega arith)) bad)

  -- a fault is the first one
  pub fault_first : (r : Refusal) (p : ℕ) → first_key (count_in keys) 0 h registry keys ≡ Err (r, p) → FirstBad h registry keys r p
  fault_first r p e = go (checked (count_in keys) 0) e
    where
      go : {x : KeyCheck} → Checked (count_in keys) 0 x → x ≡ Err (r, p) → FirstBad h registry keys r p
      go (all_fine f) e = let z : ◌≡◌ {A = ℕ} 0 1 = cc in absurd (omega arith)
      go (faulty s q a b f g) e =
          let z : ◌≡◌ {A = Refusal × ℕ} (s, q) (r, p) = cc in
          let u : s ≡ r = ap (λ (x : Refusal × ℕ). x.0) z in
          let v : q ≡ p = ap (λ (x : Refusal × ℕ). x.1) z in
          subst (λ (y : Refusal). FirstBad h registry keys y p) u
          (subst (λ (y : ℕ). FirstBad h registry keys s y) v (record { position = omega arith; before = λ x l. f x (omega arith) l; here = g }))

  one_fault : (p : ℕ) {r s : Refusal} → BadKey h registry keys p r → BadKey h registry keys p s → r ≡ s
  one_fault p (bad_header x) (bad_header y) = refl
  one_fault p (bad_header x) (bad_bucket y z) = absurd (omega arith)
  one_fault p (bad_bucket x y) (bad_header z) = absurd (omega arith)
  one_fault p (bad_bucket x y) (bad_bucket z u) = refl

  -- and the first one is found
  pub first_found : (r : Refusal) (p : ℕ) → FirstBad h registry keys r p → first_key (count_in keys) 0 h registry keys ≡ Err (r, p)
  first_found r p b = go (checked (count_in keys) 0)
    where
      go : {x : KeyCheck} → Checked (count_in keys) 0 x → x ≡ Err (r, p)
      go (all_fine f) = absurd (not_both p r (f p (omega arith) (omega (arith, b.position))) b.here)
      go (faulty s q a l f g) = here (dec_lt q p) (dec_lt p q)
        where
          here : Dec (q < p) → Dec (p < q) → ◌≡◌ {A = KeyCheck} (Err (s, q)) (Err (r, p))
          here (yes x) y = absurd (not_both q s (b.before q x) g)
          here (no x) (yes y) = absurd (not_both p r (f p (omega arith) y) b.here)
          here (no x) (no y) =
              let e : q ≡ p = omega arith in
              let d : s ≡ r = one_fault p (subst (λ (n : ℕ). BadKey h registry keys n s) e g) b.here in
              rw (e, d)

  -- its number is 6 or 8
  pub bad_tests : (p : ℕ) {r : Refusal} → BadKey h registry keys p r → TestsKey r
  bad_tests p (bad_header x) = inl refl
  bad_tests p (bad_bucket x y) = inr refl

-- before the first place that asks nothing asks
pub none_before : (xs : List ℕ) (c q : ℕ) → q < first_asking xs c → get_or xs q 0 ≡ c → ⊥
unfolding first_asking
none_before [] c q l e = omega arith
none_before (x ∷ xs) c q l e = go (eqb x c) refl (none_before xs c) q l e
  where
    go : (b : Bool) → eqb x c ≡ b → ((q : ℕ) → q < first_asking xs c → get_or xs q 0 ≡ c → ⊥) → (q : ℕ) → q < (if b then 0 else suc (first_asking xs c)) → get_or (x ∷ xs) q 0 ≡ c → ⊥
    go true u more q l e = omega arith
    go false u more zero l e = eqb-false x c u e
    go false u more (suc q) l e = more q (omega arith) e
