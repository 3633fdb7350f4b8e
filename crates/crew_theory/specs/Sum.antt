-- f 0 + .. + f (n - 1), and what all counting over the members rests on.
use Rattle.std.specs.Prelude.{ℕ, zero, suc, ◌+◌, ◌≤◌, ◌<◌, ◌≡◌, refl, ◌≢◌}
use Rattle.std.proofs.Common.{ap, arith}
use Rattle.std.proofs.Math.Decide.{ℕ_discrete, dec_lt}

unfoldable pub sum : ℕ → (ℕ → ℕ) → ℕ
sum zero f = 0
sum (suc n) f = f n + sum n f

pub sum_same : (n : ℕ) (f g : ℕ → ℕ) → ((i : ℕ) → i < n → f i ≡ g i) → sum n f ≡ sum n g
unfolding sum
sum_same zero f g h = refl
sum_same (suc n) f g h = cc (h n (omega arith), sum_same n f g (λ i l. h i (omega arith)))

pub sum_front : (n : ℕ) (f : ℕ → ℕ) → sum (suc n) f ≡ f 0 + sum n (λ i. f (suc i))
unfolding sum
sum_front zero f = refl
sum_front (suc n) f = omega (arith, sum_front n f)

-- f and g differ at c at most
pub sum_change : (n : ℕ) (f g : ℕ → ℕ) (c : ℕ) → c < n → ((i : ℕ) → i < n → i ≢ c → f i ≡ g i) → sum n f + g c ≡ sum n g + f c
unfolding sum
sum_change zero f g c l h = omega arith
sum_change (suc n) f g c l h = go (ℕ_discrete n c) (λ k. sum_change n f g c k (λ i m. h i (omega arith)))
  where
    go : Dec (n ≡ c) → (c < n → sum n f + g c ≡ sum n g + f c) → f n + sum n f + g c ≡ g n + sum n g + f c
    go (yes e) r = omega (arith, ap f e, ap g e, sum_same n f g (λ i m. h i (omega arith) (omega arith)))
    go (no e) r = omega (arith, h n (omega arith) e, r (omega arith))

-- a part is at most the sum, and a sum that is not 0 has a part that is not 0
pub sum_at : (n : ℕ) (f : ℕ → ℕ) (i : ℕ) → i < n → f i ≤ sum n f
unfolding sum
sum_at zero f i l = omega arith
sum_at (suc n) f i l = go (ℕ_discrete n i) (λ k. sum_at n f i k)
  where
    go : Dec (n ≡ i) → (i < n → f i ≤ sum n f) → f i ≤ f n + sum n f
    go (yes e) r = omega (arith, ap f e)
    go (no e) r = omega (arith, r (omega arith))

pub sum_some : (n : ℕ) (f : ℕ → ℕ) → 1 ≤ sum n f → (i : ℕ) × (i < n) × (1 ≤ f i)
unfolding sum
sum_some zero f l = absurd (omega arith)
sum_some (suc n) f l = go (dec_lt 0 (f n)) (sum_some n f)
  where
    go : Dec (0 < f n) → (1 ≤ sum n f → (i : ℕ) × (i < n) × (1 ≤ f i)) → (i : ℕ) × (i < suc n) × (1 ≤ f i)
    go (yes e) r = (n, omega arith, e)
    go (no e) r = let x = r (omega arith) in (x.0, omega arith, x.2)
