-- A number that is printed is read: its digits as the reader of numbers counts and sums them, with anything behind.
use Rattle.std.specs.Prelude.{ℕ, zero, suc, ◌+◌, ◌*◌, ◌-◌, ◌/◌, ◌%◌, ◌^◌, ◌≤◌, ◌<◌, ◌≢◌, ◌≡◌, refl, List, [], ◌∷◌, ◌++◌, Bool, true, false, ◌&&◌, eqb, ltb, length, get_or, if◌then◌else◌, Some}
use Rattle.std.proofs.Common.{sym, ap, ◌∙◌, append_assoc, append-nil, arith, mul-le-mul, ne_eqb, lt-ltb, le-ltb, ltb-false}
use Rattle.std.proofs.lemmas.Bool.{eqb-false}
use Rattle.io.specs.Digits.{hex_digit_ascii, last_digits, IsDigitCount}
use Rattle.text.specs.declared.Number.{Number}
use Rattle.text.specs.Text.{is_digit, digits_in, value_from, no_number, number_of, ended_number_of, read_number_of, value_read, digits_read}
use Rattle.text.specs.Decimal.{digit_count, decimal_of, length_decimal, digit_count_are, digit_count_is}
use Rattle.text.specs.Laws.{digit_is, value_more}

pub glyph_is : (d : ℕ) → d < 10 → hex_digit_ascii d ≡ 48 + d
glyph_is d h = rw (lt-ltb d 10 h)

digit_test : (d : ℕ) → d < 10 → is_digit (48 + d) ≡ true
unfolding is_digit
digit_test d h = let p : 48 ≤ 48 + d = omega arith in let q : 48 + d < 58 = omega arith in rw (le-ltb (48 + d) 48 p, lt-ltb (48 + d) 58 q)

-- one digit more
value_digit : (v d : ℕ) (r : List ℕ) → d < 10 → value_from v (hex_digit_ascii d ∷ r) ≡ value_from (10 * v + d) r
unfolding value_from
value_digit v d r h =
    let e : 10 * v + (48 + d - 48) ≡ 10 * v + d = omega arith in
    rw (glyph_is d h, digit_test d h, e)

count_digit : (d : ℕ) (r : List ℕ) → d < 10 → digits_in (hex_digit_ascii d ∷ r) ≡ 1 + digits_in r
unfolding digits_in
count_digit d r h = rw (glyph_is d h, digit_test d h)

value_digits : (k n v : ℕ) (r : List ℕ) → n < 10 ^ k → value_from v (last_digits 10 k n ++ r) ≡ value_from (10 ^ k * v + n) r
value_digits zero n v r h = let e : v ≡ 10 ^ 0 * v + n = omega arith in ap (λ (w : ℕ). value_from w r) e
value_digits (suc k) n v r h =
    let low : n % 10 < 10 = omega arith in
    let p : 10 ^ suc k ≡ 10 * 10 ^ k = omega arith in
    let e : 10 * (10 ^ k * v + n / 10) + n % 10 ≡ 10 ^ suc k * v + n = rw p (omega arith) in
    rw (append_assoc (last_digits 10 k (n / 10)) (hex_digit_ascii (n % 10) ∷ []) r, value_digits k (n / 10) v (hex_digit_ascii (n % 10) ∷ r) (omega arith), value_digit (10 ^ k * v + n / 10) (n % 10) r low, e)

count_digits : (k n : ℕ) (r : List ℕ) → digits_in (last_digits 10 k n ++ r) ≡ k + digits_in r
count_digits zero n r = let e : digits_in r ≡ 0 + digits_in r = omega arith in e
count_digits (suc k) n r =
    let low : n % 10 < 10 = omega arith in
    let e : k + (1 + digits_in r) ≡ suc k + digits_in r = omega arith in
    rw (append_assoc (last_digits 10 k (n / 10)) (hex_digit_ascii (n % 10) ∷ []) r, count_digits k (n / 10) (hex_digit_ascii (n % 10) ∷ r), count_digit (n % 10) r low, e)

lead : (k n : ℕ) (r : List ℕ) → 10 ^ k ≤ n → n < 10 ^ suc k → get_or (last_digits 10 (suc k) n ++ r) 0 0 ≢ 48
lead zero n r a b =
    let low : n % 10 < 10 = omega arith in
    let e : get_or (last_digits 10 1 n ++ r) 0 0 ≡ 48 + n % 10 = glyph_is (n % 10) low in
    λ z. omega arith
lead (suc k) n r a b = rw (append_assoc (last_digits 10 (suc k) (n / 10)) (hex_digit_ascii (n % 10) ∷ []) r) (lead k (n / 10) (hex_digit_ascii (n % 10) ∷ r) (omega arith) (omega arith))

-- the fewest digits have no leading zero
unpadded : (k n : ℕ) (r : List ℕ) → IsDigitCount 10 1 n k → (eqb (get_or (last_digits 10 k n ++ r) 0 0) 48 && ltb 1 k) ≡ false
unpadded zero n r f = absurd (omega (arith, f.0))
unpadded (suc zero) n r f = last (eqb (get_or (last_digits 10 1 n ++ r) 0 0) 48)
  where
    last : (b : Bool) → (b && ltb 1 1) ≡ false
    last true = refl
    last false = refl
unpadded (suc (suc k)) n r f =
    let q : suc (suc k) - 1 ≡ suc k = omega arith in
    let d : get_or (last_digits 10 (suc (suc k)) n ++ r) 0 0 ≢ 48 = lead (suc k) n r (rw q at (f.2 (omega arith))) f.1 in
    rw (ne_eqb _ _ d)

-- ---- the whole number

-- no digit at the front adds nothing
value_none : (v : ℕ) (r : List ℕ) → digits_in r ≡ 0 → value_from v r ≡ v
unfolding value_from digits_in
value_none v [] h = refl
value_none v (b ∷ r) h = go (is_digit b) h
  where
    go : (t : Bool) → (if t then 1 + digits_in r else 0) ≡ 0 → (if t then value_from (10 * v + (b - 48)) r else v) ≡ v
    go true e = absurd (omega arith)
    go false e = refl

abbrev pub whole_number : ℕ → Number
whole_number n = number_of n (digit_count n)

-- a number that is printed is read, if no digit stands behind it
pub number_back : (n : ℕ) (r : List ℕ) → n ≤ 4294967295 → digits_in r ≡ 0 → read_number_of (decimal_of n ++ r) ≡ Some (whole_number n)
unfolding decimal_of read_number_of ended_number_of
number_back n r small none = go (digit_count_are n (omega arith))
  where
    go : IsDigitCount 10 1 n (digit_count n)
        → (if ltb 4294967295 (value_from 0 (last_digits 10 (digit_count n) n ++ r)) then no_number
        else ended_number_of (get_or (last_digits 10 (digit_count n) n ++ r) 0 0) (digits_in (last_digits 10 (digit_count n) n ++ r)) (value_from 0 (last_digits 10 (digit_count n) n ++ r))) ≡ Some (whole_number n)
    go f =
        let v : value_from 0 (last_digits 10 (digit_count n) n ++ r) ≡ n = value_digits (digit_count n) n 0 r f.1 ∙ value_none (10 ^ digit_count n * 0 + n) r none ∙ (omega arith) in
        let c : digits_in (last_digits 10 (digit_count n) n ++ r) ≡ digit_count n = count_digits (digit_count n) n r ∙ rw none (omega arith) in
        let some : digit_count n ≢ 0 = omega (arith, f.0) in
        rw (v, c, le-ltb _ _ small, ne_eqb _ _ some, unpadded (digit_count n) n r f)

-- ---- and only what was printed is read whole

-- a digit at the front of digits, and digits behind it
all_more : (b : ℕ) (l : List ℕ) → digits_in (b ∷ l) ≡ length (b ∷ l) → (is_digit b ≡ true) × (digits_in l ≡ length l)
unfolding digits_in
all_more b l h = go (is_digit b) refl h
  where
    go : (t : Bool) → is_digit b ≡ t → (if t then 1 + digits_in l else 0) ≡ suc (length l) → (is_digit b ≡ true) × (digits_in l ≡ length l)
    go true e q = (e, omega arith)
    go false e q = absurd (omega arith)

-- so many digits behind v: at least that many zeros, at most that many nines
value_bounds : (v : ℕ) (l : List ℕ) → digits_in l ≡ length l
    → (10 ^ length l * v ≤ value_from v l) × (value_from v l < 10 ^ length l * (v + 1))
unfolding value_from
value_bounds v [] h = (omega arith, omega arith)
value_bounds v (b ∷ l) h =
    let a = all_more b l h in
    let d = digit_is b a.0 in
    let w = 10 * v + (b - 48) in
    let i = value_bounds w l a.1 in
    let p : 10 ^ suc (length l) ≡ 10 * 10 ^ length l = omega arith in
    let low : 10 ^ length l * (10 * v) ≤ 10 ^ length l * w = mul-le-mul (omega arith) (omega arith) in
    let high : 10 ^ length l * (w + 1) ≤ 10 ^ length l * (10 * (v + 1)) = mul-le-mul (omega arith) (omega (arith, d)) in
    rw (value_more v b l a.0, p) (omega (arith, i.0, low), omega (arith, i.1, high))

-- as many digits with the same value are the same digits
same_digits : (v w : ℕ) (l m : List ℕ) → length l ≡ length m → digits_in l ≡ length l → digits_in m ≡ length m
    → value_from v l ≡ value_from w m → (v ≡ w) × (l ≡ m)
unfolding value_from
same_digits v w [] [] n h k e = (e, refl)
same_digits v w [] (c ∷ m) n h k e = absurd (omega arith)
same_digits v w (b ∷ l) [] n h k e = absurd (omega arith)
same_digits v w (b ∷ l) (c ∷ m) n h k e =
    let a = all_more b l h in
    let f = all_more c m k in
    let d = digit_is b a.0 in
    let g = digit_is c f.0 in
    let i = same_digits (10 * v + (b - 48)) (10 * w + (c - 48)) l m (omega arith) a.1 f.1 (sym (value_more v b l a.0) ∙ e ∙ value_more w c m f.0) in
    let x : v ≡ w = omega (arith, i.0, d, g) in
    let y : b ≡ c = omega (arith, i.0, d, g) in
    (x, rw (y, i.1))

-- without a leading zero there are as few as the number has
fewest_is : (b : ℕ) (l : List ℕ) → digits_in (b ∷ l) ≡ length (b ∷ l) → (eqb b 48 && ltb 1 (length (b ∷ l))) ≡ false
    → IsDigitCount 10 1 (value_from 0 (b ∷ l)) (length (b ∷ l))
fewest_is b l h z = (omega arith, omega (arith, (value_bounds 0 (b ∷ l) h).1), λ more. go (eqb b 48) refl z more)
  where
    go : (t : Bool) → eqb b 48 ≡ t → (t && ltb 1 (length (b ∷ l))) ≡ false → 1 < length (b ∷ l) → 10 ^ (length (b ∷ l) - 1) ≤ value_from 0 (b ∷ l)
    go true e q more = absurd (omega (arith, more, ltb-false 1 (length (b ∷ l)) q))
    go false e q more =
        let a = all_more b l h in
        let d = digit_is b a.0 in
        let k : suc (length l) - 1 ≡ length l = omega arith in
        let i = value_bounds (10 * 0 + (b - 48)) l a.1 in
        let low : 10 ^ length l * 1 ≤ 10 ^ length l * (10 * 0 + (b - 48)) = mul-le-mul (omega arith) (omega (arith, d, eqb-false b 48 e)) in
        rw (k, value_more 0 b l a.0) (omega (arith, i.0, low))

decimal_back : (n : ℕ) → n < 2 ^ 64 → (digits_in (decimal_of n) ≡ digit_count n) × (value_from 0 (decimal_of n) ≡ n)
unfolding decimal_of digits_in value_from
decimal_back n h =
    let c = count_digits (digit_count n) n [] in
    let v = value_digits (digit_count n) n 0 [] (digit_count_are n h).1 in
    (rw (append-nil (last_digits 10 (digit_count n) n)) at c ∙ (omega arith), rw (append-nil (last_digits 10 (digit_count n) n)) at v ∙ (omega arith))

-- digits that are read as a number, with nothing behind them, are that number printed
pub number_whole : (l : List ℕ) → 0 < length l → digits_read (read_number_of l) ≡ length l → l ≡ decimal_of (value_read (read_number_of l))
unfolding read_number_of ended_number_of
number_whole [] h e = absurd (omega arith)
number_whole (b ∷ l) h e = go (ltb 4294967295 (value_from 0 (b ∷ l))) refl (eqb (digits_in (b ∷ l)) 0) (eqb b 48 && ltb 1 (digits_in (b ∷ l))) refl e
  where
    whole : value_from 0 (b ∷ l) ≤ 4294967295 → (eqb b 48 && ltb 1 (digits_in (b ∷ l))) ≡ false → digits_in (b ∷ l) ≡ length (b ∷ l) → b ∷ l ≡ decimal_of (value_from 0 (b ∷ l))
    whole small z all =
        let n = value_from 0 (b ∷ l) in
        let few : n < 2 ^ 64 = omega arith in
        let k = digit_count_is n (length (b ∷ l)) few (fewest_is b l all (rw all at z)) in
        let back = decimal_back n few in
        (same_digits 0 0 (b ∷ l) (decimal_of n) (k ∙ sym (length_decimal n)) all (back.0 ∙ sym (length_decimal n)) (sym back.1)).1

    go : (t : Bool) → ltb 4294967295 (value_from 0 (b ∷ l)) ≡ t → (u w : Bool) → (eqb b 48 && ltb 1 (digits_in (b ∷ l))) ≡ w
        → digits_read (if t then no_number else if u then no_number else if w then no_number else Some (number_of (value_from 0 (b ∷ l)) (digits_in (b ∷ l)))) ≡ suc (length l)
        → b ∷ l ≡ decimal_of (value_read (if t then no_number else if u then no_number else if w then no_number else Some (number_of (value_from 0 (b ∷ l)) (digits_in (b ∷ l)))))
    go true p u w z q = absurd (omega arith)
    go false p true w z q = absurd (omega arith)
    go false p false true z q = absurd (omega arith)
    go false p false false z q = whole (ltb-false 4294967295 (value_from 0 (b ∷ l)) p) z q
