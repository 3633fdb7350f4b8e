-- No longest input: the report of the first 16,384 bytes is the report of all of it. A line that is read has at most 16 bytes (in truth 10, but
-- 16 are enough), so a thousand of them, and a byte of line 1,001, stand within.
use Rattle.std.specs.Prelude.{ℕ, zero, suc, ◌+◌, ◌*◌, ◌-◌, ◌^◌, ◌≤◌, ◌<◌, ◌≢◌, ◌≡◌, refl, List, [], ◌∷◌, Bool, true, false, ◌&&◌, eqb, ltb, leb, length, get_or, drop, take, if◌then◌else◌, Some, None}
use Rattle.std.specs.declared.option.Option.{Option}
use Rattle.std.specs.Option.{option_and_then, option_map_or}
use Rattle.std.proofs.lemmas.Option.{none-some, same_Some, cond_some, option_and_then_some}
use Rattle.std.proofs.Common.{sym, ap, ◌∙◌, arith, mul-le-mul_left, length-take, length-take-le, take_all, get_or-take, eq-eqb, ne_eqb, lt-ltb, leb-true, leb-false}
use Rattle.std.proofs.Math.Nat.{pow-le-pow_right}
use Rattle.std.proofs.Math.Decide.{ℕ_discrete, dec_lt}
use Rattle.std.proofs.Math.Seq.{take-nil}
use Rattle.std.proofs.lemmas.Bool.{lt-leb}
use Rattle.text.specs.declared.Number.{Number}
use Rattle.text.specs.Text.{is_digit, digits_in, value_from, no_number, number_of, ended_number_of, read_number_of, digits_read}
use Rattle.text.specs.Laws.{digit_is, number_within}
use Rattle.report_rules.specs.declared.Line.{Line}
use Rattle.report_rules.specs.Reading.{bad_line, onto, no_line, line_with, fits_of, end_at, refusal_at, line_at, read_from, read_of}
use Rattle.report_rules.specs.Report.{answer_of}

drop_take : (n i : ℕ) (l : List ℕ) → drop i (take n l) ≡ take (n - i) (drop i l)
drop_take n zero l = let e : n - 0 ≡ n = omega arith in rw e
drop_take n (suc i) [] = rw (take-nil {A = ℕ} n, take-nil {A = ℕ} (n - suc i))
drop_take zero (suc i) (x ∷ l) = let e : 0 - suc i ≡ 0 = omega arith in rw e
drop_take (suc n) (suc i) (x ∷ l) = let e : suc n - suc i ≡ n - i = omega arith in rw e (drop_take n i l)

-- ---- a number, and the front of it

digits_take : (k : ℕ) (l : List ℕ) → digits_in l < k → digits_in (take k l) ≡ digits_in l
unfolding digits_in
digits_take zero l h = absurd (omega arith)
digits_take (suc k) [] h = refl
digits_take (suc k) (b ∷ l) h = go (is_digit b) h (digits_take k l)
  where
    go : (t : Bool) → (if t then 1 + digits_in l else 0) < suc k → (digits_in l < k → digits_in (take k l) ≡ digits_in l)
        → (if t then 1 + digits_in (take k l) else 0) ≡ (if t then 1 + digits_in l else 0)
    go true p r = rw (r (omega arith))
    go false p r = refl

value_take : (k v : ℕ) (l : List ℕ) → digits_in l < k → value_from v (take k l) ≡ value_from v l
unfolding digits_in value_from
value_take zero v l h = absurd (omega arith)
value_take (suc k) v [] h = refl
value_take (suc k) v (b ∷ l) h = go (is_digit b) h (value_take k (10 * v + (b - 48)) l)
  where
    go : (t : Bool) → (if t then 1 + digits_in l else 0) < suc k → (digits_in l < k → value_from (10 * v + (b - 48)) (take k l) ≡ value_from (10 * v + (b - 48)) l)
        → (if t then value_from (10 * v + (b - 48)) (take k l) else v) ≡ (if t then value_from (10 * v + (b - 48)) l else v)
    go true p r = r (omega arith)
    go false p r = refl

digits_full : (j k : ℕ) (l : List ℕ) → j ≤ digits_in l → j ≤ k → j ≤ digits_in (take k l)
unfolding digits_in
digits_full zero k l h p = omega arith
digits_full (suc j) zero l h p = absurd (omega arith)
digits_full (suc j) (suc k) [] h p = absurd (omega arith)
digits_full (suc j) (suc k) (b ∷ l) h p = go (is_digit b) h (digits_full j k l)
  where
    go : (t : Bool) → suc j ≤ (if t then 1 + digits_in l else 0) → (j ≤ digits_in l → j ≤ k → j ≤ digits_in (take k l)) → suc j ≤ (if t then 1 + digits_in (take k l) else 0)
    go true q r = omega (arith, r (omega arith) (omega arith))
    go false q r = absurd (omega arith)

same_number : (k : ℕ) (l : List ℕ) → digits_in l < k → read_number_of (take k l) ≡ read_number_of l
unfolding read_number_of
same_number k l h = rw (value_take k 0 l h, digits_take k l h, get_or-take k l 0 0 (omega arith))

value_low : (l : List ℕ) (v : ℕ) → 10 ^ digits_in l * v ≤ value_from v l
unfolding digits_in value_from
value_low [] v = omega arith
value_low (b ∷ l) v = go (is_digit b) (value_low l (10 * v + (b - 48)))
  where
    go : (t : Bool) → 10 ^ digits_in l * (10 * v + (b - 48)) ≤ value_from (10 * v + (b - 48)) l → 10 ^ (if t then 1 + digits_in l else 0) * v ≤ (if t then value_from (10 * v + (b - 48)) l else v)
    go true r =
        let e : 1 + digits_in l ≡ suc (digits_in l) = omega arith in
        let p : 10 ^ suc (digits_in l) ≡ 10 * 10 ^ digits_in l = omega arith in
        let more : 10 ^ digits_in l * (10 * v) ≤ 10 ^ digits_in l * (10 * v + (b - 48)) = mul-le-mul_left (10 ^ digits_in l) (omega arith) in
        rw (e, p) (omega (arith, r, more))
    go false r = omega arith

-- seven digits of which the first is no zero are a million or more
value_high : (l : List ℕ) → 7 ≤ digits_in l → get_or l 0 0 ≢ 48 → 1000000 ≤ value_from 0 l
unfolding digits_in value_from
value_high [] h d = absurd (omega arith)
value_high (b ∷ l) h d = go (is_digit b) refl h (value_low l (10 * 0 + (b - 48)))
  where
    go : (t : Bool) → is_digit b ≡ t → 7 ≤ (if t then 1 + digits_in l else 0) → 10 ^ digits_in l * (10 * 0 + (b - 48)) ≤ value_from (10 * 0 + (b - 48)) l
        → 1000000 ≤ (if t then value_from (10 * 0 + (b - 48)) l else 0)
    go true e q r =
        let low : 1 ≤ 10 * 0 + (b - 48) = omega (arith, digit_is b e, d) in
        let left : 6 ≤ digits_in l = omega arith in
        let six : 10 ^ 6 ≤ 10 ^ digits_in l = pow-le-pow_right (omega arith) left in
        let more : 10 ^ digits_in l * 1 ≤ 10 ^ digits_in l * (10 * 0 + (b - 48)) = mul-le-mul_left (10 ^ digits_in l) low in
        omega (arith, r, six, more)
    go false e q r = absurd (omega arith)

-- seven digits are too many
too_long : (l : List ℕ) → 7 ≤ digits_in l → fits_of (read_number_of l) 262144 ≡ None
unfolding fits_of read_number_of ended_number_of
too_long l h = go (ltb 4294967295 (value_from 0 l)) (ℕ_discrete (get_or l 0 0) 48)
  where
    some : digits_in l ≢ 0
    some = omega arith

    many : 1 < digits_in l
    many = omega arith

    go : (t : Bool) → Dec (get_or l 0 0 ≡ 48)
        → fits_of (if t then no_number else (if eqb (digits_in l) 0 then no_number else if (eqb (get_or l 0 0) 48 && ltb 1 (digits_in l)) then no_number else Some (number_of (value_from 0 l) (digits_in l)))) 262144 ≡ None
    go true d = refl
    go false (yes e) = rw (ne_eqb _ _ some, eq-eqb _ _ e, lt-ltb _ _ many)
    go false (no e) = let big : 262144 < value_from 0 l = omega (arith, value_high l h e) in rw (ne_eqb _ _ some, ne_eqb _ _ e, lt-leb _ _ big)

-- the numbers at the front of a text and of its beginning: equal and short, or both too large
data Alike (a b : Option Number) : Type 0 where
  equal : a ≡ b → digits_read b ≤ 7 → Alike a b
  neither : fits_of a 262144 ≡ None → fits_of b 262144 ≡ None → Alike a b

alike : (k : ℕ) (l : List ℕ) → 7 ≤ k → Alike (read_number_of (take k l)) (read_number_of l)
alike k l h = go (dec_lt (digits_in l) 7)
  where
    go : Dec (digits_in l < 7) → Alike (read_number_of (take k l)) (read_number_of l)
    go (yes p) =
        equal (same_number k l (omega arith))
        (omega (arith, number_within (take 7 l), length-take 7 l, ap digits_read (same_number 7 l p)))
    go (no p) = neither (too_long (take k l) (digits_full 7 k l (omega arith) h)) (too_long l (omega arith))

fits_less : (o : Option Number) (most : ℕ) → most ≤ 262144 → fits_of o 262144 ≡ None → fits_of o most ≡ None
unfolding fits_of
fits_less None most h e = refl
fits_less (Some n) most h e = go (leb n.value 262144) refl e
  where
    go : (t : Bool) → leb n.value 262144 ≡ t → (if t then Some n else None) ≡ None → (if leb n.value most then Some n else None) ≡ None
    go true p q = cc
    go false p q = rw (lt-leb n.value most (omega (arith, leb-false n.value 262144 p)))

-- a number that fits is the one that stands there
pub fits_is : (o : Option Number) (most : ℕ) (n : Number) → fits_of o most ≡ Some n → (o ≡ Some n) × (n.value ≤ most)
unfolding fits_of
fits_is None most n e = absurd (none-some n e)
fits_is (Some m) most n e =
    let p = cond_some (leb m.value most) m n e in
    (ap {B = Option Number} (λ k. Some k) p.1, omega (arith, leb-true m.value most p.0, ap (λ (k : Number). k.value) p.1))

-- what follows from it is the same, if it is the same of each as short
fits_cut : (f g : Number → Option Line) (o : Option Number) (most : ℕ) → ((n : Number) → n.digits ≤ digits_read o → f n ≡ g n)
    → option_and_then f (fits_of o most) ≡ option_and_then g (fits_of o most)
unfolding fits_of
fits_cut f g None most h = refl
fits_cut f g (Some n) most h = go (leb n.value most)
  where
    go : (t : Bool) → option_and_then f (if t then Some n else None) ≡ option_and_then g (if t then Some n else None)
    go true = h n (omega arith)
    go false = refl

-- ---- a line, and its front

end_cut : (m : ℕ) (input : List ℕ) (at attempts refusal : ℕ) → at < m → end_at (take m input) at attempts refusal ≡ end_at input at attempts refusal
unfolding end_at
end_cut m input at attempts refusal h = rw (get_or-take m input at 0 h)

refusal_cut : (m : ℕ) (input : List ℕ) (at attempts : ℕ) → at + 9 ≤ m → refusal_at (take m input) at attempts ≡ refusal_at input at attempts
unfolding refusal_at
refusal_cut m input at attempts h =
    rw (get_or-take m input at 0 (omega arith), drop_take m (at + 1) input) (ap (λ (x : Option Line). if eqb (get_or input at 0) 32 then x else no_line) (go _ _ (alike (m - (at + 1)) (drop (at + 1) input) (omega arith))))
  where
    go : (a b : Option Number) → Alike a b
        → option_and_then (λ (n : Number). end_at (take m input) (at + 1 + n.digits) attempts n.value) (fits_of a 16)
        ≡ option_and_then (λ (n : Number). end_at input (at + 1 + n.digits) attempts n.value) (fits_of b 16)
    go a b (equal e d) = rw e (fits_cut _ _ b 16 (λ n k. end_cut m input (at + 1 + n.digits) attempts n.value (omega arith)))
    go a b (neither p q) = rw (fits_less a 16 (omega arith) p, fits_less b 16 (omega arith) q)

line_cut : (m : ℕ) (input : List ℕ) (at : ℕ) → at + 16 ≤ m → line_at (take m input) at ≡ line_at input at
unfolding line_at
line_cut m input at h = rw (drop_take m at input) (go _ _ (alike (m - at) (drop at input) (omega arith)))
  where
    go : (a b : Option Number) → Alike a b
        → option_and_then (λ (n : Number). refusal_at (take m input) (at + n.digits) n.value) (fits_of a 262144)
        ≡ option_and_then (λ (n : Number). refusal_at input (at + n.digits) n.value) (fits_of b 262144)
    go a b (equal e d) = rw e (fits_cut _ _ b 262144 (λ n k. refusal_cut m input (at + n.digits) n.value (omega arith)))
    go a b (neither p q) = rw (p, q)

-- ---- a line that is read has at most 16 bytes

abbrev Near : ℕ → Option Line → Type 0
Near most o = (line : Line) → o ≡ Some line → line.next ≤ most

no_line_lem : (most : ℕ) → Near most no_line
no_line_lem most line e = absurd (none-some line e)

end_near : (input : List ℕ) (at attempts refusal : ℕ) → Near (at + 1) (end_at input at attempts refusal)
unfolding end_at
end_near input at attempts refusal = go (eqb (get_or input at 0) 10)
  where
    go : (t : Bool) → Near (at + 1) (if t then line_with attempts refusal (at + 1) else no_line)
    go true line e = omega (arith, ap (λ (o : Line). o.next) (same_Some _ line e))
    go false line e = no_line_lem (at + 1) line e

few_digits : (l : List ℕ) (most : ℕ) → most ≤ 262144 → (n : Number) → fits_of (read_number_of l) most ≡ Some n → n.digits ≤ 7
few_digits l most h n e = go (alike 7 l (omega arith))
  where
    go : Alike (read_number_of (take 7 l)) (read_number_of l) → n.digits ≤ 7
    go (equal p d) = omega (arith, d, ap digits_read (fits_is (read_number_of l) most n e).0)
    go (neither p q) = absurd (none-some n (sym (fits_less (read_number_of l) most h q) ∙ e))

refusal_near : (input : List ℕ) (at attempts : ℕ) → Near (at + 9) (refusal_at input at attempts)
unfolding refusal_at
refusal_near input at attempts = go (eqb (get_or input at 0) 32)
  where
    ends : Number → Option Line
    ends n = end_at input (at + 1 + n.digits) attempts n.value

    go : (t : Bool) → Near (at + 9) (if t then option_and_then ends (fits_of (read_number_of (drop (at + 1) input)) 16) else no_line)
    go true line e =
        option_and_then_some ends (fits_of (read_number_of (drop (at + 1) input)) 16) line e
        (λ n p q. omega (arith, end_near input (at + 1 + n.digits) attempts n.value line q, few_digits (drop (at + 1) input) 16 (omega arith) n p))
    go false line e = no_line_lem (at + 9) line e

line_near : (input : List ℕ) (at : ℕ) → Near (at + 16) (line_at input at)
unfolding line_at
line_near input at line e =
    option_and_then_some (λ (n : Number). refusal_at input (at + n.digits) n.value) (fits_of (read_number_of (drop at input)) 262144) line e
    (λ n p q. omega (arith, refusal_near input (at + n.digits) n.value line q, few_digits (drop at input) 262144 (omega arith) n p))

-- ---- the whole

read_cut : (m : ℕ) (input : List ℕ) (left n at : ℕ) → m ≤ length input → at + 16 * left + 16 ≤ m → read_from (take m input) left n at ≡ read_from input left n at
unfolding read_from
read_cut m input zero n at l h =
    let p : at < length (take m input) = omega (arith, length-take-le m input l) in
    let q : at < length input = omega arith in
    rw (lt-ltb _ _ p, lt-ltb _ _ q)
read_cut m input (suc left) n at l h =
    let p : at < length (take m input) = omega (arith, length-take-le m input l) in
    let q : at < length input = omega arith in
    rw (lt-ltb _ _ p, lt-ltb _ _ q, line_cut m input at (omega arith)) (go (line_at input at) refl (λ line k. read_cut m input left (n + 1) line.next l k))
  where
    go : (o : Option Line) → line_at input at ≡ o
        → ((line : Line) → line.next + 16 * left + 16 ≤ m → read_from (take m input) left (n + 1) line.next ≡ read_from input left (n + 1) line.next)
        → option_map_or (λ (line : Line). onto line.trial (read_from (take m input) left (n + 1) line.next)) o (bad_line n)
        ≡ option_map_or (λ (line : Line). onto line.trial (read_from input left (n + 1) line.next)) o (bad_line n)
    go None e r = refl
    go (Some line) e r = ap (onto line.trial) (r line (omega (arith, line_near input at line e)))

-- "it has no longest input: whatever the length, it prints the report or `bad line N`" (the console's page)
pub front_is_enough : (input : List ℕ) → answer_of (take 16384 input) ≡ answer_of input
unfolding answer_of read_of
front_is_enough input = go (dec_lt 16384 (length input))
  where
    go : Dec (16384 < length input) → answer_of (take 16384 input) ≡ answer_of input
    go (yes h) = rw (read_cut 16384 input 1000 1 0 (omega arith) (omega arith))
    go (no h) = rw (take_all 16384 input (omega arith))
