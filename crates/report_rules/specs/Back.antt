-- What a bench writes is read: trials written as lines are read as these trials, up to 1,000; with more of them line 1,001 is bad.
use Rattle.std.specs.Prelude.{ℕ, zero, suc, ◌+◌, ◌≤◌, ◌<◌, ◌≡◌, refl, List, [], ◌∷◌, ◌++◌, length, get_or, drop, Some}
use Rattle.std.proofs.Common.{sym, ap, ◌∙◌, append_assoc, arith, length-append, lt-ltb, le-ltb, le-leb}
use Rattle.std.proofs.Math.Seq.{drop-append_seam, get_or-append_seam}
use Rattle.text.specs.Text.{is_digit, digits_in}
use Rattle.text.specs.Decimal.{digit_count, decimal_of, length_decimal}
use Rattle.text.specs.Back.{whole_number, number_back}
use Rattle.report_rules.specs.declared.Trial.{Trial}
use Rattle.report_rules.specs.Reading.{Small, bad_line, results, onto, line_with, fits_of, end_at, refusal_at, line_at, read_from, read_of}

-- ---- a line that is written is read

-- attempts, a space, the refusal, a line feed
unfoldable pub line_of : Trial → List ℕ
line_of t = decimal_of t.attempts ++ (32 ∷ (decimal_of t.refusal ++ (10 ∷ [])))

unfoldable pub lines_of : List Trial → List ℕ
lines_of [] = []
lines_of (t ∷ ts) = line_of t ++ lines_of ts

fits_whole : (n most : ℕ) → n ≤ most → fits_of (Some (whole_number n)) most ≡ Some (whole_number n)
unfolding fits_of
fits_whole n most h = rw (le-leb n most h)

-- what stands at a place, where the front ends there
seam_get : (x : List ℕ) (i b : ℕ) (y : List ℕ) → length x ≡ i → get_or (x ++ (b ∷ y)) i 0 ≡ b
seam_get x i b y e = rw (← e) (get_or-append_seam x b y 0)

seam_drop : (x : List ℕ) (i : ℕ) (y : List ℕ) → length x ≡ i → drop i (x ++ y) ≡ y
seam_drop x i y e = rw (← e) (drop-append_seam x y)

end_back : (x : List ℕ) (at attempts refusal : ℕ) (y : List ℕ) → length x ≡ at
    → end_at (x ++ (10 ∷ y)) at attempts refusal ≡ line_with attempts refusal (at + 1)
unfolding end_at
end_back x at attempts refusal y e = rw (seam_get x at 10 y e)

refusal_back : (x : List ℕ) (at attempts refusal : ℕ) (y : List ℕ) → length x ≡ at → refusal ≤ 16
    → refusal_at (x ++ (32 ∷ (decimal_of refusal ++ (10 ∷ y)))) at attempts
    ≡ line_with attempts refusal (at + 1 + digit_count refusal + 1)
unfolding refusal_at digits_in is_digit
refusal_back x at attempts refusal y e h =
    let space : List ℕ = x ++ (32 ∷ []) in
    let number : List ℕ = decimal_of refusal in
    let p : x ++ (32 ∷ (number ++ (10 ∷ y))) ≡ space ++ (number ++ (10 ∷ y)) = sym (append_assoc x (32 ∷ []) (number ++ (10 ∷ y))) in
    let n : length space ≡ at + 1 = length-append x (32 ∷ []) ∙ omega arith in
    let d : drop (at + 1) (x ++ (32 ∷ (number ++ (10 ∷ y)))) ≡ number ++ (10 ∷ y) = rw p (seam_drop space (at + 1) (number ++ (10 ∷ y)) n) in
    let q : x ++ (32 ∷ (number ++ (10 ∷ y))) ≡ (space ++ number) ++ (10 ∷ y) = p ∙ sym (append_assoc space number (10 ∷ y)) in
    let m : length (space ++ number) ≡ at + 1 + digit_count refusal = length-append space number ∙ omega (arith, n, length_decimal refusal) in
    rw (seam_get x at 32 (number ++ (10 ∷ y)) e, d, number_back refusal (10 ∷ y) (omega arith) refl, fits_whole refusal 16 h, q)
    (end_back (space ++ number) (at + 1 + digit_count refusal) attempts refusal y m)

line_back : (x : List ℕ) (t : Trial) (y : List ℕ) → Small t
    → line_at (x ++ (line_of t ++ y)) (length x) ≡ line_with t.attempts t.refusal (length (x ++ line_of t))
unfolding line_at line_of digits_in is_digit
line_back x t y s =
    let number : List ℕ = decimal_of t.attempts in
    let after : List ℕ = 32 ∷ (decimal_of t.refusal ++ (10 ∷ y)) in
    let inner : (decimal_of t.refusal ++ (10 ∷ [])) ++ y ≡ decimal_of t.refusal ++ (10 ∷ y) = append_assoc (decimal_of t.refusal) (10 ∷ []) y in
    let p : (number ++ (32 ∷ (decimal_of t.refusal ++ (10 ∷ [])))) ++ y ≡ number ++ after =
    append_assoc number (32 ∷ (decimal_of t.refusal ++ (10 ∷ []))) y ∙ ap (λ (o : List ℕ). number ++ (32 ∷ o)) inner in
    let q : x ++ (number ++ after) ≡ (x ++ number) ++ after = sym (append_assoc x number after) in
    let m : length (x ++ number) ≡ length x + digit_count t.attempts = length-append x number ∙ omega (arith, length_decimal t.attempts) in
    let n : length (x ++ (number ++ (32 ∷ (decimal_of t.refusal ++ (10 ∷ []))))) ≡ length x + digit_count t.attempts + 1 + digit_count t.refusal + 1 =
    omega (
      arith,
      length-append x (number ++ (32 ∷ (decimal_of t.refusal ++ (10 ∷ [])))),
      length-append number (32 ∷ (decimal_of t.refusal ++ (10 ∷ []))),
      length-append (decimal_of t.refusal) (10 ∷ []),
      length_decimal t.attempts,
      length_decimal t.refusal,
    ) in
    rw (n, p, drop-append_seam x (number ++ after), number_back t.attempts after (omega (arith, s.tries)) refl, fits_whole t.attempts 262144 s.tries, q)
    (refusal_back (x ++ number) (length x + digit_count t.attempts) t.attempts t.refusal y m s.known)

-- ---- the whole

-- all of them are
pub data Smalls : List Trial → Type 0 where
  none : Smalls []
  more : {t : Trial} {ts : List Trial} → Small t → Smalls ts → Smalls (t ∷ ts)

line_some : (t : Trial) → 1 ≤ length (line_of t)
unfolding line_of
line_some t = omega (arith, length-append (decimal_of t.attempts) (32 ∷ (decimal_of t.refusal ++ (10 ∷ []))))

-- the next line stands within
line_within : (x : List ℕ) (t : Trial) (y : List ℕ) → length x < length (x ++ (line_of t ++ y))
line_within x t y = omega (arith, length-append x (line_of t ++ y), length-append (line_of t) y, line_some t)

read_at : (x : List ℕ) (t : Trial) (y : List ℕ) (left n : ℕ) → Small t
    → read_from (x ++ (line_of t ++ y)) (suc left) n (length x) ≡ onto t (read_from ((x ++ line_of t) ++ y) left (n + 1) (length (x ++ line_of t)))
unfolding read_from
read_at x t y left n s = rw (lt-ltb _ _ (line_within x t y), line_back x t y s, append_assoc x (line_of t) y)

reads_back : (x : List ℕ) (ts : List Trial) (left n : ℕ) → Smalls ts → length ts ≤ left → read_from (x ++ lines_of ts) left n (length x) ≡ results ts
unfolding read_from lines_of
reads_back x [] zero n s h =
    let e : length (x ++ []) ≤ length x = omega (arith, length-append {A = ℕ} x []) in
    rw (le-ltb _ _ e)
reads_back x [] (suc left) n s h =
    let e : length (x ++ []) ≤ length x = omega (arith, length-append {A = ℕ} x []) in
    rw (le-ltb _ _ e)
reads_back x (t ∷ ts) zero n s h = absurd (omega arith)
reads_back x (t ∷ ts) (suc left) n (more p s) h =
    read_at x t (lines_of ts) left n p ∙ ap (onto t) (reads_back (x ++ line_of t) ts left (n + 1) s (omega arith))

ends_bad : (x : List ℕ) (ts : List Trial) (left n : ℕ) → Smalls ts → left < length ts → read_from (x ++ lines_of ts) left n (length x) ≡ bad_line (n + left)
unfolding read_from lines_of
ends_bad x [] left n s h = absurd (omega arith)
ends_bad x (t ∷ ts) zero n s h = let e : n + 0 ≡ n = omega arith in rw (lt-ltb _ _ (line_within x t (lines_of ts)), e)
ends_bad x (t ∷ ts) (suc left) n (more p s) h =
    let e : n + 1 + left ≡ n + suc left = omega arith in
    read_at x t (lines_of ts) left n p ∙ ap (onto t) (ends_bad (x ++ line_of t) ts left (n + 1) s (omega arith)) ∙ ap bad_line e

-- "up to 1,000 acquisition trials": however many there are up to there, the trials that were written are the trials that are read
pub written_is_read : (ts : List Trial) → Smalls ts → length ts ≤ 1000 → read_of (lines_of ts) ≡ results ts
unfolding read_of
written_is_read ts s h = reads_back [] ts 1000 1 s h

-- "or line 1,001"
pub written_too_long : (ts : List Trial) → Smalls ts → 1000 < length ts → read_of (lines_of ts) ≡ bad_line 1001
unfolding read_of
written_too_long ts s h = ends_bad [] ts 1000 1 s h
