-- Laws of what lines are made of: one turn and the end of each recursion, and what is read lies within the line.
use Rattle.std.specs.Prelude.{ℕ, ◌+◌, ◌*◌, ◌-◌, ◌≤◌, ◌<◌, ◌≡◌, refl, List, [], ◌∷◌, Bool, true, false, ◌&&◌, eqb, ltb, length, get_or, drop, if◌then◌else◌, None, not, ◌==◌, slice_range}
use Rattle.std.specs.Char.{is_ascii_digit}
use Rattle.std.specs.List.{take_while}
use Rattle.std.proofs.lemmas.List.Recursion.{is_position_or_len}
use Rattle.std.proofs.lemmas.List.Folds.{length-prefix_len}
use Rattle.std.proofs.lemmas.Bool.Decides.{nat_tests}
use mathlib.Core.Logic.{◌⊎◌, inl, inr}
use Rattle.std.proofs.Common.{sym, ◌∙◌, arith, drop_of_length-le, take_all, length-drop, eq-eqb, ne_eqb, lt-ltb, le-ltb, ltb-true, ltb-false}
pub use Rattle.choice.specs.Lists.{drop_one}
use Rattle.choice.specs.Pick.{if_both}
use Rattle.std.specs.declared.option.Option.{Option}
use Rattle.text.specs.declared.Number.{Number}
use Rattle.text.specs.Text.{before, is_digit, digits_in, value_from, no_number, ended_number_of, read_number_of, digits_read}

-- ---- up to a stop

pub before_at : (stop : ℕ) (l : List ℕ) (i : ℕ) → i < length l → before stop (drop i l) ≡ (if eqb (get_or l i 0) stop then 0 else 1 + before stop (drop (i + 1) l))
unfolding before
before_at stop l i b = rw (drop_one l i b)

-- ---- digits

pub digit_is : (b : ℕ) → is_digit b ≡ true → (48 ≤ b) × (b < 58)
unfolding is_digit
digit_is b e = go (ltb b 48) refl e
  where
    go : (t : Bool) → ltb b 48 ≡ t → (if t then false else ltb b 58) ≡ true → (48 ≤ b) × (b < 58)
    go true p q = let z : false ≡ true = q in let w : ◌≡◌ {A = ℕ} 0 1 = cc in (omega arith, omega arith)
    go false p q = (omega (arith, ltb-false b 48 p), omega (arith, ltb-true b 58 q))

pub digits_at : (l : List ℕ) (i : ℕ) → i < length l → digits_in (drop i l) ≡ (if is_digit (get_or l i 0) then 1 + digits_in (drop (i + 1) l) else 0)
unfolding digits_in
digits_at l i b = rw (drop_one l i b)

pub digits_end : (l : List ℕ) (i : ℕ) → length l ≤ i → digits_in (drop i l) ≡ 0
unfolding digits_in
digits_end l i b = rw (drop_of_length-le l b)

pub value_at : (v : ℕ) (l : List ℕ) (i : ℕ) → i < length l → value_from v (drop i l) ≡ (if is_digit (get_or l i 0) then value_from (10 * v + (get_or l i 0 - 48)) (drop (i + 1) l) else v)
unfolding value_from
value_at v l i b = rw (drop_one l i b)

pub value_end : (v : ℕ) (l : List ℕ) (i : ℕ) → length l ≤ i → value_from v (drop i l) ≡ v
unfolding value_from
value_end v l i b = rw (drop_of_length-le l b)

-- more digits make no less
value_grows : (v : ℕ) (l : List ℕ) → v ≤ value_from v l
unfolding value_from
value_grows v [] = omega arith
value_grows v (b ∷ l) = if_both (λ (n : ℕ). v ≤ n) (is_digit b) (omega (arith, value_grows (10 * v + (b - 48)) l)) (omega arith)

digits_within : (l : List ℕ) → digits_in l ≤ length l
unfolding digits_in
digits_within [] = omega arith
digits_within (b ∷ l) = if_both (λ (n : ℕ). n ≤ length (b ∷ l)) (is_digit b) (omega (arith, digits_within l)) (omega arith)

ended_within : (b digits value : ℕ) → digits_read (ended_number_of b digits value) ≤ digits
unfolding ended_number_of
ended_within b digits value =
    if_both (λ (n : Option Number). digits_read n ≤ digits) (eqb digits 0) (omega arith)
    (if_both (λ (n : Option Number). digits_read n ≤ digits) (eqb b 48 && ltb 1 digits) (omega arith) (omega arith))

pub number_within : (l : List ℕ) → digits_read (read_number_of l) ≤ length l
unfolding read_number_of
number_within l =
    if_both (λ (n : Option Number). digits_read n ≤ length l) (ltb 4294967295 (value_from 0 l)) (omega arith)
    (omega (arith, ended_within (get_or l 0 0) (digits_in l) (value_from 0 l), digits_within l))

-- ---- as the library counts

pub before_is : (stop : ℕ) (l : List ℕ) → length (take_while (λ b. not (b == stop)) l) ≡ before stop l
unfolding before
before_is stop l = length-prefix_len (λ b. not (b == stop)) l ∙ sym (is_position_or_len (before stop) (λ b. b == stop) refl (λ x xs. refl) l)

-- of the rest of a run, as the library lends it
pub before_rest : (stop : ℕ) (l : List ℕ) (at : ℕ) → length (take_while (λ b. not (b == stop)) (slice_range l at (length l))) ≡ before stop (drop at l)
before_rest stop l at = rw (take_all (length l - at) (drop at l) (omega (arith, length-drop at l))) (before_is stop (drop at l))

pub digit_same : (b : ℕ) → is_digit b ≡ is_ascii_digit b
unfolding is_digit
digit_same b = grind (arith, nat_tests)

-- ---- numbers

pub value_more : (v b : ℕ) (l : List ℕ) → is_digit b ≡ true → value_from v (b ∷ l) ≡ value_from (10 * v + (b - 48)) l
unfolding value_from
value_more v b l e = rw e

-- one digit more, or none
pub digit_turn : (v : ℕ) (l : List ℕ) (i : ℕ) → i < length l → is_ascii_digit (get_or l i 0) ≡ true
    → (48 ≤ get_or l i 0) × (get_or l i 0 < 58) × (value_from (10 * v + (get_or l i 0 - 48)) (drop (i + 1) l) ≡ value_from v (drop i l))
    × (1 + digits_in (drop (i + 1) l) ≡ digits_in (drop i l))
digit_turn v l i b e =
    let d : is_digit (get_or l i 0) ≡ true = digit_same (get_or l i 0) ∙ e in
    let r = digit_is (get_or l i 0) d in
    (r.0, r.1, rw (value_at v l i b, d) refl, rw (digits_at l i b, d) refl)

pub digit_stop : (v : ℕ) (l : List ℕ) (i : ℕ) → i < length l → is_ascii_digit (get_or l i 0) ≡ false → (value_from v (drop i l) ≡ v) × (digits_in (drop i l) ≡ 0)
digit_stop v l i b e =
    let d : is_digit (get_or l i 0) ≡ false = digit_same (get_or l i 0) ∙ e in
    (rw (value_at v l i b, d) refl, rw (digits_at l i b, d) refl)

-- so many digits, behind which none stand, with their value: the number is what they come to
pub number_ends : (l : List ℕ) (i v : ℕ) → v ≤ 4294967295 → value_from 0 l ≡ v → digits_in l ≡ i → ended_number_of (get_or l 0 0) i v ≡ read_number_of l
unfolding read_number_of
number_ends l i v small e d = rw (e, d, le-ltb _ _ small)

-- what is too large stays so
pub number_large : (l : List ℕ) (v : ℕ) (rest : List ℕ) → 4294967295 < v → value_from v rest ≡ value_from 0 l → no_number ≡ read_number_of l
unfolding read_number_of
number_large l v rest big e = let over : 4294967295 < value_from 0 l = omega (arith, value_grows v rest, e) in rw (lt-ltb _ _ over)

pub number_past : (l : List ℕ) (at : ℕ) → length l ≤ at → read_number_of (drop at l) ≡ None
unfolding read_number_of ended_number_of value_from digits_in
number_past l at h = rw (drop_of_length-le l h) refl

-- a run from a place on, as the library lends it
pub rest_is : (l rest : List ℕ) (at : ℕ) → rest ≡ slice_range l at (length l) → rest ≡ drop at l
rest_is l rest at e = e ∙ take_all (length l - at) (drop at l) (omega (arith, length-drop at l))

pub unpadded_is : (b k : ℕ) → (b ≡ 48 × (k ≤ 1)) ⊎ (b ≡ 48 → ⊥) → (eqb b 48 && ltb 1 k) ≡ false
unpadded_is b k (inl p) = rw (eq-eqb b 48 p.0, le-ltb 1 k p.1)
unpadded_is b k (inr n) = rw (ne_eqb b 48 n)
