-- Over all lines: a test of each, counts, the greatest, and many runs of bytes put to their places.
use Rattle.std.specs.Prelude.{ℕ, zero, suc, ◌+◌, ◌-◌, ◌≤◌, ◌<◌, ◌≡◌, refl, ◌≢◌, ◌⊎◌, List, [], ◌∷◌, Bool, true, false, length, get_or, if◌then◌else◌}
use Rattle.std.proofs.Common.{sym, ap, ◌∙◌, inl, inr, arith}
use Rattle.std.proofs.Math.Decide.{ℕ_discrete, dec_lt}
use Rattle.std.proofs.lemmas.List.Edits.{sets}
use Rattle.std.proofs.Math.Seq.{length-sets}
use Rattle.choice.specs.Pick.{both}
use Rattle.book_rules.specs.Stores.{sets_below, sets_above, sets_in}
use Rattle.book_rules.specs.Layout.{all}
use Rattle.book_rules.specs.Writing.{count, most, put_many}

-- ---- tests

pub all_each : (m : ℕ) (f : ℕ → Bool) → all m f ≡ true → (k : ℕ) → k < m → f k ≡ true
unfolding all
all_each zero f e k l = absurd (omega arith)
all_each (suc m) f e k l = go (ℕ_discrete k m) (both (all m f) (f m) e) (λ p. all_each m f p k)
  where
    go : Dec (k ≡ m) → (all m f ≡ true) × (f m ≡ true) → (all m f ≡ true → k < m → f k ≡ true) → f k ≡ true
    go (yes q) p r = ap f q ∙ p.1
    go (no q) p r = r p.0 (omega arith)

pub each_all : (m : ℕ) (f : ℕ → Bool) → ((k : ℕ) → k < m → f k ≡ true) → all m f ≡ true
unfolding all
each_all zero f h = refl
each_all (suc m) f h = rw (each_all m f (λ k l. h k (omega arith)), h m (omega arith))

-- ---- counts

abbrev pub one : Bool → ℕ
one b = if b then 1 else 0

pub one_true : (b : Bool) → b ≡ true → one b ≡ 1
one_true b e = ap one e

pub one_false : (b : Bool) → b ≡ false → one b ≡ 0
one_false b e = ap one e

one_le : (b c : Bool) → (b ≡ true → c ≡ true) → one b ≤ one c
one_le true c h = omega (arith, one_true c (h refl))
one_le false c h = omega arith

count_le : (m : ℕ) (f g : ℕ → Bool) → ((k : ℕ) → k < m → f k ≡ true → g k ≡ true) → count m f ≤ count m g
unfolding count
count_le zero f g h = omega arith
count_le (suc m) f g h = omega (arith, count_le m f g (λ k l. h k (omega arith)), one_le (f m) (g m) (h m (omega arith)))

pub count_less : (m : ℕ) (f g : ℕ → Bool) (i : ℕ) → i < m → f i ≡ false → g i ≡ true → ((k : ℕ) → k < m → f k ≡ true → g k ≡ true) → count m f < count m g
unfolding count
count_less zero f g i l p q h = absurd (omega arith)
count_less (suc m) f g i l p q h = go (ℕ_discrete i m) (λ r. count_less m f g i r p q (λ k l. h k (omega arith)))
  where
    go : Dec (i ≡ m) → (i < m → count m f < count m g) → count m f + one (f m) < count m g + one (g m)
    go (yes e) r =
        omega (arith, count_le m f g (λ k l. h k (omega arith)), one_false (f m) (sym (ap f e) ∙ p), one_true (g m) (sym (ap g e) ∙ q))
    go (no e) r = omega (arith, r (omega arith), one_le (f m) (g m) (h m (omega arith)))

pub count_same : (m : ℕ) (f g : ℕ → Bool) → ((k : ℕ) → k < m → f k ≡ g k) → count m f ≡ count m g
unfolding count
count_same zero f g h = refl
count_same (suc m) f g h = omega (arith, count_same m f g (λ k l. h k (omega arith)), ap one (h m (omega arith)))

pub count_none : (m : ℕ) (f : ℕ → Bool) → ((k : ℕ) → k < m → f k ≡ false) → count m f ≡ 0
unfolding count
count_none zero f h = refl
count_none (suc m) f h = omega (arith, count_none m f (λ k l. h k (omega arith)), one_false (f m) (h m (omega arith)))

pub count_most : (m : ℕ) (f : ℕ → Bool) → count m f ≤ m
unfolding count
count_most zero f = omega arith
count_most (suc m) f = omega (arith, count_most m f, one_le (f m) true (λ e. refl))

-- ---- the greatest

pub most_start : (m : ℕ) (f : ℕ → ℕ) (a : ℕ) → a ≤ most m f a
unfolding most
most_start zero f a = omega arith
most_start (suc m) f a = omega (arith, most_start m f a)

pub most_each : (m : ℕ) (f : ℕ → ℕ) (a k : ℕ) → k < m → f k ≤ most m f a
unfolding most
most_each zero f a k l = absurd (omega arith)
most_each (suc m) f a k l = go (ℕ_discrete k m) (λ r. most_each m f a k r)
  where
    go : Dec (k ≡ m) → (k < m → f k ≤ most m f a) → f k ≤ most (suc m) f a
    go (yes e) r = omega (arith, ap f e)
    go (no e) r = omega (arith, r (omega arith))

pub most_within : (m : ℕ) (f : ℕ → ℕ) (a x : ℕ) → a ≤ x → ((k : ℕ) → k < m → f k ≤ x) → most m f a ≤ x
unfolding most
most_within zero f a x l h = l
most_within (suc m) f a x l h = omega (arith, most_within m f a x l (λ k u. h k (omega arith)), h m (omega arith))

-- ---- many runs

-- a byte is outside a run of so many from p on
abbrev pub Beside : ℕ → ℕ → ℕ → Type 0
Beside j p m = (j < p) ⊎ (p + m ≤ j)

pub length_many : (m : ℕ) (to : ℕ → ℕ) (bytes : ℕ → List ℕ) (b : List ℕ) → length (put_many m to bytes b) ≡ length b
unfolding put_many
length_many zero to bytes b = refl
length_many (suc m) to bytes b = length-sets (put_many m to bytes b) (to m) (bytes m) ∙ length_many m to bytes b

sets_beside : (xs b : List ℕ) (p j : ℕ) → (1 ≤ length xs → Beside j p (length xs)) → get_or (sets b p xs) j 0 ≡ get_or b j 0
sets_beside [] b p j h = refl
sets_beside (x ∷ xs) b p j h = go (h (omega arith))
  where
    go : Beside j p (length (x ∷ xs)) → get_or (sets b p (x ∷ xs)) j 0 ≡ get_or b j 0
    go (inl q) = sets_below (x ∷ xs) b p j q
    go (inr q) = sets_above (x ∷ xs) b p j q

-- a byte outside all runs stays
pub many_outside : (m : ℕ) (to : ℕ → ℕ) (bytes : ℕ → List ℕ) (b : List ℕ) (j : ℕ)
    → ((k : ℕ) → k < m → 1 ≤ length (bytes k) → Beside j (to k) (length (bytes k)))
    → get_or (put_many m to bytes b) j 0 ≡ get_or b j 0
unfolding put_many
many_outside zero to bytes b j h = refl
many_outside (suc m) to bytes b j h =
    sets_beside (bytes m) (put_many m to bytes b) (to m) j (h m (omega arith)) ∙ many_outside m to bytes b j (λ k l. h k (omega arith))

-- a byte inside one run and outside the others is that run's
pub many_inside : (m : ℕ) (to : ℕ → ℕ) (bytes : ℕ → List ℕ) (b : List ℕ) (k i j : ℕ) → k < m → j ≡ to k + i → i < length (bytes k)
    → to k + length (bytes k) ≤ length b
    → ((l : ℕ) → l < m → l ≢ k → 1 ≤ length (bytes l) → Beside j (to l) (length (bytes l)))
    → get_or (put_many m to bytes b) j 0 ≡ get_or (bytes k) i 0
unfolding put_many
many_inside zero to bytes b k i j l e r f h = absurd (omega arith)
many_inside (suc m) to bytes b k i j l e r f h = go (ℕ_discrete k m) (λ q. many_inside m to bytes b k i j q e r f (λ x y. h x (omega arith)))
  where
    go : Dec (k ≡ m) → (k < m → get_or (put_many m to bytes b) j 0 ≡ get_or (bytes k) i 0)
        → get_or (sets (put_many m to bytes b) (to m) (bytes m)) j 0 ≡ get_or (bytes k) i 0
    go (yes q) s =
        let at : to k ≡ to m = ap to q in
        let long : length (bytes k) ≡ length (bytes m) = ap (λ (x : ℕ). length (bytes x)) q in
        sets_in (bytes m) (put_many m to bytes b) (to m) i j (omega arith) (omega arith) (omega (arith, length_many m to bytes b))
        ∙ ap (λ (x : ℕ). get_or (bytes x) i 0) (sym q)
    go (no q) s =
        sets_beside (bytes m) (put_many m to bytes b) (to m) j (h m (omega arith) (λ z. q (sym z))) ∙ s (omega arith)

-- runs of zeros: a byte in one of them is 0; if it is 0 where it is in none, it is 0
pub many_zeros : (m : ℕ) (to : ℕ → ℕ) (bytes : ℕ → List ℕ) (b : List ℕ) (j : ℕ)
    → ((k : ℕ) → k < m → 1 ≤ length (bytes k) → to k + length (bytes k) ≤ length b)
    → ((k i : ℕ) → k < m → ◌≡◌ {A = ℕ} (get_or (bytes k) i 0) 0)
    → (((k : ℕ) → k < m → 1 ≤ length (bytes k) → Beside j (to k) (length (bytes k))) → ◌≡◌ {A = ℕ} (get_or b j 0) 0)
    → ◌≡◌ {A = ℕ} (get_or (put_many m to bytes b) j 0) 0
unfolding put_many
many_zeros zero to bytes b j f z h = h (λ k l. absurd (omega arith))
many_zeros (suc m) to bytes b j f z h =
    go (λ u. many_zeros m to bytes b j (λ k l. f k (omega arith)) (λ k i l. z k i (omega arith)) u) (dec_lt j (to m)) (dec_lt j (to m + length (bytes m)))
  where
    Outside : ℕ → Type 0
    Outside k = 1 ≤ length (bytes k) → Beside j (to k) (length (bytes k))

    AllOutside : Type 0
    AllOutside = (k : ℕ) → k < m → Outside k

    go : ((AllOutside → ◌≡◌ {A = ℕ} (get_or b j 0) 0) → ◌≡◌ {A = ℕ} (get_or (put_many m to bytes b) j 0) 0)
        → Dec (j < to m) → Dec (j < to m + length (bytes m)) → ◌≡◌ {A = ℕ} (get_or (sets (put_many m to bytes b) (to m) (bytes m)) j 0) 0
    go r p q = last p q
      where
        pick : Outside m → (k : ℕ) → k < suc m → Dec (k ≡ m) → (k < m → Outside k) → Outside k
        pick o k l (yes e) u s = rw e (o (omega (arith, ap (λ (x : ℕ). length (bytes x)) e)))
        pick o k l (no e) u s = u (omega arith) s

        clear : Outside m → ◌≡◌ {A = ℕ} (get_or (sets (put_many m to bytes b) (to m) (bytes m)) j 0) 0
        clear o = sets_beside (bytes m) (put_many m to bytes b) (to m) j o ∙ r (λ u. h (λ k l. pick o k l (ℕ_discrete k m) (u k)))

        last : Dec (j < to m) → Dec (j < to m + length (bytes m)) → ◌≡◌ {A = ℕ} (get_or (sets (put_many m to bytes b) (to m) (bytes m)) j 0) 0
        last (yes p) q = clear (λ s. inl p)
        last (no p) (no q) = clear (λ s. inr (omega arith))
        last (no p) (yes q) =
            sets_in (bytes m) (put_many m to bytes b) (to m) (j - to m) j (omega arith) (omega arith)
            (omega (arith, length_many m to bytes b, f m (omega arith) (omega arith)))
            ∙ z m (j - to m) (omega arith)
