-- A number in decimal, for whoever prints one: its digits, as few as it has, and how many they are.
use Rattle.std.specs.Prelude.{ℕ, zero, suc, ◌*◌, ◌-◌, ◌/◌, ◌%◌, ◌^◌, ◌≤◌, ◌<◌, ◌≡◌, refl, List, [], ◌∷◌, Bool, true, false, ltb, length, take, if◌then◌else◌}
use Rattle.std.proofs.Common.{ap, ◌∙◌, arith, length-append, ltb-true, ltb-false}
use Rattle.std.proofs.Math.Nat.{pow-le-pow_right}
use Rattle.std.proofs.Math.Decide.{dec_lt}
use Rattle.choice.specs.Pick.{if_both}
use Rattle.io.specs.Digits.{hex_digit_ascii, last_digits, IsDigitCount}

-- how many digits a number has, counted up to k + 1
unfoldable pub digit_count_in : ℕ → ℕ → ℕ
digit_count_in zero n = 1
digit_count_in (suc k) n = if ltb n 10 then 1 else suc (digit_count_in k (n / 10))

-- a number of 64 bits has at most 20
unfoldable pub digit_count : ℕ → ℕ
digit_count n = digit_count_in 19 n

-- "decimal without leading zeros"
unfoldable pub decimal_of : ℕ → List ℕ
decimal_of n = last_digits 10 (digit_count n) n

-- ---- how long

length_digits : (k n : ℕ) → length (last_digits 10 k n) ≡ k
length_digits zero n = refl
length_digits (suc k) n = omega (arith, length-append (last_digits 10 k (n / 10)) (hex_digit_ascii (n % 10) ∷ []), length_digits k (n / 10))

pub length_decimal : (n : ℕ) → length (decimal_of n) ≡ digit_count n
unfolding decimal_of
length_decimal n = length_digits (digit_count n) n

digit_count_bound : (k n : ℕ) → digit_count_in k n ≤ suc k
unfolding digit_count_in
digit_count_bound zero n = omega arith
digit_count_bound (suc k) n = if_both (λ (m : ℕ). m ≤ suc (suc k)) (ltb n 10) (omega arith) (omega (arith, digit_count_bound k (n / 10)))

pub digit_count_most : (n : ℕ) → digit_count n ≤ 20
unfolding digit_count
digit_count_most n = digit_count_bound 19 n

-- ---- what the number of places means, and that there is one such number

-- one place more than its tenth has
one_more : (n p : ℕ) → 10 ≤ n → IsDigitCount 10 1 (n / 10) p → IsDigitCount 10 1 n (suc p)
one_more n zero h f = absurd (omega (arith, f.0))
one_more n (suc zero) h f = (omega arith, omega (arith, f.1), λ e. omega arith)
one_more n (suc (suc q)) h f =
    let a : 10 ^ suc (suc (suc q)) ≡ 10 * 10 ^ suc (suc q) = omega arith in
    let b : 10 ^ suc (suc q) ≡ 10 * 10 ^ suc q = omega arith in
    let c : suc (suc (suc q)) - 1 ≡ suc (suc q) = omega arith in
    let d : suc (suc q) - 1 ≡ suc q = omega arith in
    (omega arith, rw a (omega (arith, f.1)), λ e. rw (c, b) (omega (arith, rw d at (f.2 (omega arith)))))

digit_count_fewest : (k n : ℕ) → n < 10 ^ suc k → IsDigitCount 10 1 n (digit_count_in k n)
unfolding digit_count_in
digit_count_fewest zero n h = (omega arith, h, λ e. absurd (omega arith))
digit_count_fewest (suc k) n h =
    let a : 10 ^ suc (suc k) ≡ 10 * 10 ^ suc k = omega arith in
    let b : n < 10 * 10 ^ suc k = rw a at h in
    go (ltb n 10) refl (digit_count_fewest k (n / 10) (omega arith))
  where
    go : (b : Bool) → ltb n 10 ≡ b → IsDigitCount 10 1 (n / 10) (digit_count_in k (n / 10)) → IsDigitCount 10 1 n (if b then 1 else suc (digit_count_in k (n / 10)))
    go true e f = (omega arith, omega (arith, ltb-true n 10 e), λ l. absurd (omega arith))
    go false e f = one_more n (digit_count_in k (n / 10)) (ltb-false n 10 e) f

pub digit_count_are : (n : ℕ) → n < 2 ^ 64 → IsDigitCount 10 1 n (digit_count n)
unfolding digit_count
digit_count_are n h = let small : n < 10 ^ 20 = omega arith in digit_count_fewest 19 n small

not_fewer : (n j k : ℕ) → 1 ≤ j → n < 10 ^ j → IsDigitCount 10 1 n k → k ≤ j
not_fewer n j k s h g = go (dec_lt j k)
  where
    go : Dec (j < k) → k ≤ j
    go (yes a) =
        let p : 10 ^ (k - 1) ≤ n = g.2 (omega arith) in
        let q : 10 ^ j ≤ 10 ^ (k - 1) = pow-le-pow_right (omega arith) (omega arith) in
        omega arith
    go (no a) = omega arith

-- no more places than a number of so many digits has
pub digit_count_few : (n k : ℕ) → n < 2 ^ 64 → 1 ≤ k → n < 10 ^ k → digit_count n ≤ k
digit_count_few n k h s l = not_fewer n k (digit_count n) s l (digit_count_are n h)

pub digit_count_is : (n k : ℕ) → n < 2 ^ 64 → IsDigitCount 10 1 n k → k ≡ digit_count n
digit_count_is n k h f =
    let g = digit_count_are n h in
    omega (arith, not_fewer n k (digit_count n) f.0 f.1 g, not_fewer n (digit_count n) k g.0 g.1 f)

-- the fewest digits are those of the number
pub decimal_is : (n k : ℕ) (l : List ℕ) → n < 2 ^ 64 → IsDigitCount 10 1 n k → take k l ≡ last_digits 10 k n → take k l ≡ decimal_of n
unfolding decimal_of
decimal_is n k l h f e = e ∙ ap (λ (i : ℕ). last_digits 10 i n) (digit_count_is n k h f)
