-- Laws for the steps: lines compared, and what a stage changes.
use Rattle.std.specs.Prelude.{◌≡◌, ℕ, suc, ◌+◌, ◌-◌, ◌<◌, ◌≤◌, Bool, true, false, ◌&&◌, ltb, leb, ◌≢◌, List, [], ◌∷◌, ◌++◌, length, take, drop, ◌==◌, nat_eq, nat_le, nat_lt, slice_index, refl, if◌then◌else◌, Err, Some, None}
use Rattle.std.proofs.Common.{sym, ap, ◌∙◌, append_assoc, append-nil, arith, length-append, take_at, ltb-true, ltb-false, lt-ltb, le-ltb, le-leb, eq-eqb, ne_eqb, eqb-true}
use Rattle.std.proofs.lemmas.List.Edits.{sets, sets-eq}
use Rattle.std.proofs.lemmas.Bool.{eqb-false}
use Rattle.std.specs.Prelude.{Some}
use Rattle.std.specs.declared.option.Option.{Option}
use Rattle.std.specs.Str.{bytes_eq}
use Rattle.text.specs.declared.Number.{Number}
use Rattle.text.specs.Text.{is_digit, digits_in, value_from, no_number, number_of, ended_number_of, read_number_of, value_read, digits_read}
use Rattle.text.specs.Decimal.{decimal_of, digit_count, length_decimal, digit_count_most, digit_count_few}
use Rattle.text.specs.Back.{whole_number, number_back, number_whole}
use Rattle.wave_rules.specs.Lines.{joined, same}
use Rattle.wave_rules.specs.Dump.{turned}
use Rattle.wave_rules.specs.declared.Stage.{Stage}
use Rattle.wave_rules.specs.declared.Stage.TheVariants.{Opening, Scope, Variables, Ending, Start, Values, Waiting, Changing}
use Rattle.wave_rules.specs.Dump.{timescale, scope_line, var_line, upscope, end_line, time_line, bit_line}
use Rattle.wave_rules.specs.Reader.{time_in, cell_in, after_variable, after_value, is_time, is_change, next_of, bits_of, at_end, script_words_at}
use Rattle.wave_rules.proofs.Stages.{some_if, nested, same_refl as same_self, same_true, time_later}
use Rattle.wave_line.specs.Stages.{Early, sum_of, stamp_of, after_time}
use Rattle.print.specs.Print.{put_of}
use Rattle.wave_write.specs.Laws.{length_time, length_bit, length_var, five_digits}

-- `==` on slices is this test
pub same_bytes : (x y : List ℕ) → bytes_eq x y ≡ same x y
unfolding same
same_bytes [] [] = refl
same_bytes [] (b ∷ y) = refl
same_bytes (a ∷ x) [] = refl
same_bytes (a ∷ x) (b ∷ y) = go (a == b) (same_bytes x y)
  where
    go : (t : Bool) → bytes_eq x y ≡ same x y → (t && bytes_eq x y) ≡ (if t then same x y else false)
    go true e = e
    go false e = refl

neither : (b : Bool) → (if b then false else false) ≡ false
neither true = refl
neither false = refl

pub same_short : (x y : List ℕ) → length x ≢ length y → same x y ≡ false
unfolding same
same_short [] [] h = absurd (h refl)
same_short [] (b ∷ y) h = refl
same_short (a ∷ x) [] h = refl
same_short (a ∷ x) (b ∷ y) h = go (a == b) (same_short x y (λ e. h (ap suc e)))
  where
    go : (t : Bool) → same x y ≡ false → (if t then same x y else false) ≡ false
    go true e = e
    go false e = refl

-- a line of a bit has two bytes
pub same_bit : (x : List ℕ) (bit c : ℕ) → length x ≡ 2
    → same x (bit_line bit c) ≡ (if nat_eq (slice_index x 0) (48 + bit) then (slice_index x 1 == 33 + c) else false)
unfolding same bit_line
same_bit [] bit c h = absurd (omega arith)
same_bit (a ∷ []) bit c h = absurd (omega arith)
same_bit (a ∷ b ∷ []) bit c h = last (a == 48 + bit) (b == 33 + c)
  where
    last : (t u : Bool) → (if t then (if u then true else false) else false) ≡ (if t then u else false)
    last true true = refl
    last true false = refl
    last false u = refl
same_bit (a ∷ b ∷ d ∷ x) bit c h = absurd (omega arith)

-- ---- a time line, without printing one

number_some : (y : List ℕ) → 0 < (value_read (read_number_of y)) → 0 < length y
unfolding read_number_of ended_number_of value_from digits_in
number_some [] h = absurd (omega arith)
number_some (b ∷ y) h = omega arith

-- what is read as t is t printed exactly if nothing stands behind its digits
same_decimal : (y : List ℕ) → 0 < (value_read (read_number_of y)) → (value_read (read_number_of y)) ≤ 32768
    → same y (decimal_of (value_read (read_number_of y))) ≡ (length y == (digits_read (read_number_of y)))
unfolding digits_in
same_decimal y h k = go (length y == (digits_read (read_number_of y))) refl (same y (decimal_of (value_read (read_number_of y)))) refl
  where
    go : (e : Bool) → (length y == (digits_read (read_number_of y))) ≡ e → (f : Bool) → same y (decimal_of (value_read (read_number_of y))) ≡ f → same y (decimal_of (value_read (read_number_of y))) ≡ e
    go true p f q =
        let w = number_whole y (number_some y h) (sym (eqb-true (length y) (digits_read (read_number_of y)) p)) in
        ap (λ (o : List ℕ). same y o) (sym w) ∙ same_self y
    go false p true q =
        let t = (value_read (read_number_of y)) in
        let w : decimal_of t ++ [] ≡ y = append-nil (decimal_of t) ∙ sym (same_true y (decimal_of t) q) in
        let back : read_number_of (decimal_of t ++ []) ≡ Some (whole_number t) = number_back t [] (omega arith) refl in
        let d : (digits_read (read_number_of y)) ≡ digit_count t = sym (ap (λ (o : List ℕ). digits_read (read_number_of o)) w) ∙ ap digits_read back in
        let l : length y ≡ digit_count t = ap length (same_true y (decimal_of t) q) ∙ length_decimal t in
        absurd (eqb-false (length y) (digits_read (read_number_of y)) p (l ∙ sym d))
    go false p false q = q

-- what a number that is not 0 says of its bytes, and the other way round
read_parts : (y : List ℕ) → 0 < (value_read (read_number_of y))
    → ((digits_read (read_number_of y)) ≡ digits_in y) × ((value_read (read_number_of y)) ≡ value_from 0 y) × ((slice_index y 0 == 48 && nat_lt 1 (digits_in y)) ≡ false) × (0 < digits_in y)
unfolding read_number_of ended_number_of
read_parts y h = go (nat_lt 4294967295 (value_from 0 y)) (digits_in y == 0) refl (slice_index y 0 == 48 && nat_lt 1 (digits_in y)) refl h
  where
    made : (t u w : Bool) → Option Number
    made t u w = if t then no_number else if u then no_number else if w then no_number else Some (number_of (value_from 0 y) (digits_in y))

    go : (t u : Bool) → (digits_in y == 0) ≡ u → (w : Bool) → (slice_index y 0 == 48 && nat_lt 1 (digits_in y)) ≡ w → 0 < value_read (made t u w)
        → (digits_read (made t u w) ≡ digits_in y) × (value_read (made t u w) ≡ value_from 0 y) × ((slice_index y 0 == 48 && nat_lt 1 (digits_in y)) ≡ false) × (0 < digits_in y)
    go true u p w q k = absurd (omega arith)
    go false true p w q k = absurd (omega arith)
    go false false p true q k = absurd (omega arith)
    go false false p false q k = (refl, refl, q, omega (arith, eqb-false (digits_in y) 0 p))

read_made : (y : List ℕ) → value_from 0 y ≤ 4294967295 → 0 < digits_in y → slice_index y 0 ≢ 48
    → read_number_of y ≡ Some (number_of (value_from 0 y) (digits_in y))
unfolding read_number_of ended_number_of
read_made y h k z = let some : digits_in y ≢ 0 = omega arith in rw (le-ltb 4294967295 (value_from 0 y) h, ne_eqb (digits_in y) 0 some, ne_eqb (slice_index y 0) 48 z)

pub low_byte : (b : ℕ) → b < 48 → is_digit b ≡ false
unfolding is_digit
low_byte b h = rw (lt-ltb b 48 h)

pub high_byte : (b : ℕ) → 57 < b → is_digit b ≡ false
unfolding is_digit
high_byte b h = let p : 48 ≤ b = omega arith in let q : 58 ≤ b = omega arith in rw (le-ltb b 48 p, le-ltb b 58 q)

pub digit_byte : (b : ℕ) → 48 ≤ b → b ≤ 57 → is_digit b ≡ true
unfolding is_digit
digit_byte b h k = let q : b < 58 = omega arith in rw (le-ltb b 48 h, lt-ltb b 58 q)

-- a number that is not 0 does not begin with 0
first_some : (y : List ℕ) → digits_in y ≡ length y → 0 < value_from 0 y → (slice_index y 0 == 48 && nat_lt 1 (digits_in y)) ≡ false → slice_index y 0 ≢ 48
unfolding value_from is_digit
first_some [] d h z = absurd (omega arith)
first_some (b ∷ []) d h z = (λ e. absurd (omega (arith, rw e at h)))
first_some (b ∷ a ∷ y) d h z = (λ e. omega (arith, d, ltb-false 1 (digits_in (b ∷ a ∷ y)) (rw (eq-eqb b 48 e) at z)))

-- the stamp of a time line is its time
pub stamp_is : (last : ℕ) (x : List ℕ) → is_time last x ≡ true → stamp_of x ≡ time_in x
unfolding is_time stamp_of sum_of time_in time_line same
stamp_is last [] e = absurd (omega (arith, number_some [] (omega (arith, (time_later last [] e).0))))
stamp_is last (a ∷ y) e =
    let l = time_later last (a ∷ y) e in
    let t = (value_read (read_number_of y)) in
    let p = nested (nat_lt last t) (if leb t 32768 then (if nat_eq a 35 then same y (decimal_of t) else false) else false) e in
    let q = nested (nat_le t 32768) (if nat_eq a 35 then same y (decimal_of t) else false) p.1 in
    let r = nested (a == 35) (same y (decimal_of t)) q.1 in
    let some : 0 < t = omega (arith, l.0) in
    let w = read_parts y some in
    let n : length y ≡ digits_in y = eqb-true (length y) (digits_read (read_number_of y)) (sym (same_decimal y some l.1) ∙ r.1) ∙ w.0 in
    let few : length y ≤ 5 = omega (arith, ap length (same_true y (decimal_of t) r.1), length_decimal t, five_digits t (omega (arith, l.1))) in
    let z = first_some y (sym n) (omega (arith, some, w.1)) w.2 in
    let c : 2 ≤ suc (length y) = omega (arith, n, w.3) in
    let f : suc (length y) ≤ 6 = omega arith in
    let g : digits_in y ≡ suc (length y) - 1 = omega (arith, n) in
    rw (le-ltb (suc (length y)) 2 c, le-ltb 6 (suc (length y)) f, r.0, ne_eqb (slice_index y 0) 48 z, eq-eqb (digits_in y) (suc (length y) - 1) g) (sym w.1)

-- and a line with one is the time line of it
pub stamp_made : (a : ℕ) (y : List ℕ) → 0 < stamp_of (a ∷ y)
    → (a ≡ 35) × (slice_index y 0 ≢ 48) × (digits_in y ≡ length y) × (stamp_of (a ∷ y) ≡ value_from 0 y) × (1 ≤ length y) × (length y ≤ 5)
unfolding stamp_of sum_of
stamp_made a y h = go (nat_lt (suc (length y)) 2) refl (nat_lt 6 (suc (length y))) refl (a == 35) refl (slice_index y 0 == 48) refl (digits_in y == suc (length y) - 1) refl h
  where
    made : Bool → Bool → Bool → Bool → Bool → ℕ
    made p q r s t = if p then 0 else if q then 0 else if r then (if s then 0 else if t then value_from 0 y else 0) else 0

    go : (p : Bool) → nat_lt (suc (length y)) 2 ≡ p → (q : Bool) → nat_lt 6 (suc (length y)) ≡ q → (r : Bool) → (a == 35) ≡ r → (s : Bool) → (slice_index y 0 == 48) ≡ s → (t : Bool)
        → (digits_in y == suc (length y) - 1) ≡ t → 0 < made p q r s t
        → (a ≡ 35) × (slice_index y 0 ≢ 48) × (digits_in y ≡ length y) × (made p q r s t ≡ value_from 0 y) × (1 ≤ length y) × (length y ≤ 5)
    go true e q u r f s g t w k = absurd (omega arith)
    go false e true u r f s g t w k = absurd (omega arith)
    go false e false u false f s g t w k = absurd (omega arith)
    go false e false u true f true g t w k = absurd (omega arith)
    go false e false u true f false g false w k = absurd (omega arith)
    go false e false u true f false g true w k = (eqb-true a 35 f, eqb-false (slice_index y 0) 48 g, omega (arith, eqb-true (digits_in y) (suc (length y) - 1) w), refl, omega (arith, ltb-false (suc (length y)) 2 e), omega (arith, ltb-false 6 (suc (length y)) u))

stamp_none : 0 < stamp_of [] → ⊥
unfolding stamp_of
stamp_none h = omega arith

pub stamp_time : (last : ℕ) (x : List ℕ) → last < stamp_of x → stamp_of x ≤ 32768 → is_time last x ≡ true
unfolding is_time time_in time_line same
stamp_time last [] h k = absurd (stamp_none (omega arith))
stamp_time last (a ∷ y) h k =
    let m = stamp_made a y (omega arith) in
    let n = read_made y (omega (arith, m.3)) (omega (arith, m.2, m.4)) m.1 in
    let t = (value_read (read_number_of y)) in
    let v : t ≡ stamp_of (a ∷ y) = ap value_read n ∙ sym m.3 in
    let d : (digits_read (read_number_of y)) ≡ length y = ap digits_read n ∙ m.2 in
    let w : same y (decimal_of t) ≡ true = same_decimal y (omega (arith, v)) (omega (arith, v)) ∙ eq-eqb (length y) (digits_read (read_number_of y)) (sym d) in
    let p : last < t = omega (arith, v) in
    let q : t ≤ 32768 = omega (arith, v) in
    rw (lt-ltb last t p, le-leb t 32768 q, eq-eqb a 35 m.0, w)

-- what a line leads to, by its stamp
module _ (n last : ℕ) (x : List ℕ) (t : ℕ) (e : t ≡ stamp_of x) where
  pub time_past : t ≤ last → None ≡ after_time n last x
  time_past h = go (is_time last x) refl
    where
      go : (b : Bool) → is_time last x ≡ b → None ≡ (if b then Some (Changing n last (time_in x)) else None)
      go true p = absurd (omega (arith, e, stamp_is last x p, (time_later last x p).0))
      go false p = refl

  pub time_far : 32768 < t → None ≡ after_time n last x
  time_far h = go (is_time last x) refl
    where
      go : (b : Bool) → is_time last x ≡ b → None ≡ (if b then Some (Changing n last (time_in x)) else None)
      go true p = absurd (omega (arith, e, stamp_is last x p, (time_later last x p).1))
      go false p = refl

  pub time_taken : last < t → t ≤ 32768 → Some (Changing n last t) ≡ after_time n last x
  time_taken h k = let p = stamp_time last x (omega arith) (omega arith) in rw (p, ← stamp_is last x p, e)

-- a line that was put, without its line feed
pub line_put_lem : (l m x : List ℕ) (j : ℕ) → length x + 1 ≤ length l → (j, m) ≡ put_of l 0 (joined (x ∷ []))
    → (j ≡ length x + 1) × (take (j - 1) m ≡ x) × (j - 1 ≡ length (take (j - 1) m))
unfolding put_of joined
line_put_lem l m x j h e =
    let s : length (x ++ 10 ∷ []) ≡ length x + 1 = omega (arith, length-append x (10 ∷ [])) in
    let p : j ≡ 0 + length (x ++ 10 ∷ []) = ap (λ (o : ℕ × List ℕ). o.0) e in
    let q : m ≡ sets l 0 (x ++ 10 ∷ []) = ap (λ (o : ℕ × List ℕ). o.1) e in
    let f : 0 + length (x ++ 10 ∷ []) ≤ length l = omega arith in
    let g : m ≡ x ++ (10 ∷ drop (0 + length (x ++ 10 ∷ [])) l) = q ∙ sets-eq (x ++ 10 ∷ []) l 0 f ∙ append_assoc x (10 ∷ []) (drop (0 + length (x ++ 10 ∷ [])) l) in
    let k : j - 1 ≡ length x = omega arith in
    let t : take (j - 1) m ≡ x = rw (k, g) (take_at x (10 ∷ drop (0 + length (x ++ 10 ∷ [])) l) (length x) refl) in
    (omega arith, t, omega (arith, ap length t))

-- ---- stages

-- what a line before the changes leads to: such a stage, or the changes, from time 0 on
abbrev Follows : Stage → Type 0
Follows Opening = Unit {0}
Follows Scope = Unit {0}
Follows (Variables n) = Unit {0}
Follows (Ending n) = Unit {0}
Follows (Start n) = Unit {0}
Follows (Values n c) = Unit {0}
Follows (Waiting n last) = last ≡ 0
Follows (Changing n last t) = ⊥

follows_if : (b : Bool) (s t : Stage) → (if b then Some s else None) ≡ Some t → Follows s → Follows t
follows_if b s t e f = rw (some_if b s t e).1 f

follows_next : (s : Stage) (bits x : List ℕ) (t : Stage) → next_of s bits x ≡ Some t → Early s → Follows t
unfolding after_variable after_value
follows_next Opening bits x t n e = follows_if (same x timescale) Scope t n tt
follows_next Scope bits x t n e = follows_if (same x scope_line) (Variables 0) t n tt
follows_next (Variables c) bits x t n e = go (if ltb c 94 then same x (var_line c) else false) (if ltb 0 c then same x upscope else false) n
  where
    go : (a b : Bool) → (if a then Some (Variables (c + 1)) else if b then Some (Ending c) else None) ≡ Some t → Follows t
    go true b n = let s : t ≡ Variables (c + 1) = cc in rw s tt
    go false true n = let s : t ≡ Ending c = cc in rw s tt
    go false false n = cc
follows_next (Ending c) bits x t n e = follows_if (same x end_line) (Start c) t n tt
follows_next (Start c) bits x t n e = follows_if (same x (time_line 0)) (Values c 0) t n tt
follows_next (Values m c) bits x t n e = follows_if (same x (bit_line 0 c)) (if nat_lt (c + 1) m then Values m (c + 1) else Waiting m 0) t n (go (nat_lt (c + 1) m))
  where
    go : (b : Bool) → Follows (if b then Values m (c + 1) else Waiting m 0)
    go true = tt
    go false = refl
follows_next (Waiting c last) bits x t n e = absurd e
follows_next (Changing c last u) bits x t n e = absurd e

early_of : (s : Stage) → Follows s → ((n last : ℕ) → s ≡ Waiting n last → ⊥) → Early s
early_of Opening f w = tt
early_of Scope f w = tt
early_of (Variables n) f w = tt
early_of (Ending n) f w = tt
early_of (Start n) f w = tt
early_of (Values n c) f w = tt
early_of (Waiting n last) f w = w n last refl
early_of (Changing n last t) f w = f

-- a line that was taken leads to another such stage, or to the changes
module _ (s : Stage) (bits x : List ℕ) (e : Early s) (after : Stage) (a : next_of s bits x ≡ Some after) where
  pub next_early : ((n last : ℕ) → after ≡ Waiting n last → ⊥) → Early after
  next_early w = early_of after (follows_next s bits x after a e) w

  pub next_waiting : (n last : ℕ) → after ≡ Waiting n last → last ≡ 0
  next_waiting n last w = let f : Follows after = follows_next s bits x after a e in rw w at f

-- such a line changes no bit and adds no word, and no text may end before the changes
pub early_bits : (s : Stage) (bits x : List ℕ) → Early s → bits_of s bits x ≡ bits
early_bits Opening bits x e = refl
early_bits Scope bits x e = refl
early_bits (Variables n) bits x e = refl
early_bits (Ending n) bits x e = refl
early_bits (Start n) bits x e = refl
early_bits (Values n c) bits x e = refl
early_bits (Waiting n last) bits x e = absurd e
early_bits (Changing n last t) bits x e = absurd e

pub early_words : (s : Stage) (bits x w : List ℕ) → Early s → script_words_at s bits x w ≡ w
early_words Opening bits x w e = refl
early_words Scope bits x w e = refl
early_words (Variables n) bits x w e = refl
early_words (Ending n) bits x w e = refl
early_words (Start n) bits x w e = refl
early_words (Values n c) bits x w e = refl
early_words (Waiting n last) bits x w e = absurd e
early_words (Changing n last t) bits x w e = absurd e

pub early_end : (s : Stage) (k : ℕ) → Early s → Err k ≡ at_end s k
early_end Opening k e = refl
early_end Scope k e = refl
early_end (Variables n) k e = refl
early_end (Ending n) k e = refl
early_end (Start n) k e = refl
early_end (Values n c) k e = refl
early_end (Waiting n last) k e = absurd e
early_end (Changing n last t) k e = absurd e

-- ---- lines that are too long: no line of a dump has more than 22 bytes, which a variable from c10 on has

too_long : (x y : List ℕ) → length y ≤ 22 → 22 < length x → same x y ≡ false
too_long x y h k = same_short x y (omega arith)

fixed_short : (length timescale ≤ 22) × (length scope_line ≤ 22) × (length upscope ≤ 22) × (length end_line ≤ 22)
unfolding timescale scope_line upscope end_line
fixed_short = (omega arith, omega arith, omega arith, omega arith)

var_short : (c : ℕ) → c < 94 → length (var_line c) ≤ 22
var_short c h = omega (arith, length_var c, digit_count_few c 2 (omega arith) (omega arith) (omega arith))

time_short : (t : ℕ) → length (time_line t) ≤ 22
time_short t = omega (arith, length_time t, digit_count_most t)

bit_short : (bit c : ℕ) → length (bit_line bit c) ≤ 22
bit_short bit c = omega (arith, length_bit bit c)

no_variable : (n : ℕ) (x : List ℕ) → 22 < length x → (if ltb n 94 then same x (var_line n) else false) ≡ false
no_variable n x h = go (nat_lt n 94) refl
  where
    go : (b : Bool) → nat_lt n 94 ≡ b → (if b then same x (var_line n) else false) ≡ false
    go true e = too_long x (var_line n) (var_short n (ltb-true n 94 e)) h
    go false e = refl

-- such a line is wrong, whatever is waited for
pub long_lost : (s : Stage) (bits x : List ℕ) → 22 < length x → next_of s bits x ≡ None
unfolding after_variable after_value is_time is_change
long_lost Opening bits x h = rw (too_long x timescale fixed_short.0 h)
long_lost Scope bits x h = rw (too_long x scope_line fixed_short.1 h)
long_lost (Variables n) bits x h = rw (no_variable n x h, too_long x upscope fixed_short.2 h, neither (nat_lt 0 n))
long_lost (Ending n) bits x h = rw (too_long x end_line fixed_short.3 h)
long_lost (Start n) bits x h = rw (too_long x (time_line 0) (time_short 0) h)
long_lost (Values n c) bits x h = rw (too_long x (bit_line 0 c) (bit_short 0 c) h)
long_lost (Waiting n last) bits x h =
    rw (too_long x (time_line (time_in x)) (time_short (time_in x)) h, neither (nat_le (time_in x) 32768), neither (nat_lt last (time_in x)))
long_lost (Changing n last t) bits x h =
    let b = turned (slice_index bits (cell_in x)) in
    rw (too_long x (bit_line b (cell_in x)) (bit_short b (cell_in x)) h, neither (nat_lt (cell_in x) n))
