-- "then appends a body": what a new line, over the slot's first three, and a new body behind all others leave.
use Rattle.std.specs.Prelude.{ℕ, zero, suc, ◌+◌, ◌*◌, ◌-◌, ◌/◌, ◌%◌, ◌≤◌, ◌<◌, ◌≡◌, ◌≢◌, ◌⊎◌, List, ◌++◌, true, length, get_or, Some}
use Rattle.std.proofs.Math.Path.{refl}
use Rattle.std.proofs.Common.{sym, ap, ◌∙◌, inl, inr, arith, get_or-append-add, eq-eqb, ne_eqb}
use Rattle.std.proofs.Math.Decide.{ℕ_discrete, dec_lt}
use Rattle.std.proofs.Math.ListN.{get_or-append}
use Rattle.std.proofs.lemmas.List.Edits.{sets}
use Rattle.std.proofs.Math.Seq.{length-sets}
use Rattle.setpoint.specs.Codec.{has_body, kind_of, word_of, bytes_of, body_of, join_of}
use Rattle.setpoint.specs.RoundTrip.{Held}
use Rattle.setpoint.proofs.RoundTrip.{join_low, read_back}
use Rattle.setpoint.specs.declared.Setpoint.{Setpoint}
use Rattle.book_rules.specs.Layout.{five_at, line_at, line_of, lines_of, front_of, place_at, length_at, version_at, setting_at, is_setting}
use Rattle.book_rules.specs.Stores.{sets_below, sets_above, sets_in, five_in}
use Rattle.book_rules.specs.Writing.{shifted_of, append_of}
use Rattle.book_rules.specs.Many.{Beside}
use Rattle.book_rules.specs.Sound.{Kept, Apart, Fits, Clean, Alike}
use Rattle.book_rules.proofs.Sound.{line_alike, five_alike, setting_alike}
use Rattle.book_rules.proofs.Slid.{join_pair}
use Rattle.book_rules.specs.Appended.{goes_of, Came, is_new, is_own, is_other}

pub goes_own : (slot k : ℕ) → 4 * slot ≤ k → k < 4 * slot + 4 → goes_of slot k ≡ k + 1
goes_own slot k u v = rw (eq-eqb (k / 4) slot (omega arith))

pub goes_other : (slot k : ℕ) → (k < 4 * slot) ⊎ (4 * slot + 4 ≤ k) → goes_of slot k ≡ k
goes_other slot k (inl u) = let d : k / 4 ≡ slot → ⊥ = (λ e. omega arith) in rw (ne_eqb (k / 4) slot d)
goes_other slot k (inr u) = let d : k / 4 ≡ slot → ⊥ = (λ e. omega arith) in rw (ne_eqb (k / 4) slot d)

pub came : (slot k : ℕ) → Came slot k
came slot k = go (dec_lt k (4 * slot)) (ℕ_discrete k (4 * slot)) (dec_lt k (4 * slot + 4))
  where
    go : Dec (k < 4 * slot) → Dec (k ≡ 4 * slot) → Dec (k < 4 * slot + 4) → Came slot k
    go (yes p) q r = is_other (inl p)
    go (no p) (yes q) r = is_new q
    go (no p) (no q) (yes r) = is_own (k - 1) (omega arith) (omega arith) (omega arith)
    go (no p) (no q) (no r) = is_other (inr (omega arith))

-- ---- the bytes of the slot's four lines

line_byte : (b : List ℕ) (p i : ℕ) → i < 8 → get_or (line_at b p) i 0 ≡ get_or b (p + i) 0
unfolding line_at
line_byte b p zero l = let e : p ≡ p + 0 = omega arith in ap (λ (x : ℕ). get_or b x 0) e
line_byte b p (suc zero) l = refl
line_byte b p (suc (suc zero)) l = refl
line_byte b p (suc (suc (suc zero))) l = refl
line_byte b p (suc (suc (suc (suc zero)))) l = refl
line_byte b p (suc (suc (suc (suc (suc zero))))) l = refl
line_byte b p (suc (suc (suc (suc (suc (suc zero)))))) l = refl
line_byte b p (suc (suc (suc (suc (suc (suc (suc zero))))))) l = refl
line_byte b p (suc (suc (suc (suc (suc (suc (suc (suc i)))))))) l = absurd (omega arith)

pub line_long : (b : List ℕ) (p : ℕ) → length (line_at b p) ≡ 8
unfolding line_at
line_long b p = refl

new_long : (p v : ℕ) → length (line_of p v) ≡ 8
unfolding line_of
new_long p v = refl

-- in two runs of which the first has eight bytes
in_first : (xs ys : List ℕ) (i : ℕ) → length xs ≡ 8 → i < 8 → get_or (xs ++ ys) i 0 ≡ get_or xs i 0
in_first xs ys i e l = get_or-append xs ys 0 i (omega arith)

in_second : (xs ys : List ℕ) (i j : ℕ) → length xs ≡ 8 → j ≡ 8 + i → get_or (xs ++ ys) j 0 ≡ get_or ys i 0
in_second xs ys i j e h =
    let g : j ≡ length xs + i = omega arith in
    ap (λ (x : ℕ). get_or (xs ++ ys) x 0) g ∙ get_or-append-add xs ys i 0

module _ (b : List ℕ) (k p v : ℕ) where
  pub shifted_long : length (shifted_of b k p v) ≡ 32
  unfolding line_at line_of
  shifted_long = refl

  shifted_new : (i : ℕ) → i < 8 → get_or (shifted_of b k p v) i 0 ≡ get_or (line_of p v) i 0
  shifted_new i l = in_first (line_of p v) (line_at b (8 * k) ++ (line_at b (8 * (k + 1)) ++ line_at b (8 * (k + 2)))) i (new_long p v) l

  shifted_old : (a i : ℕ) → a < 3 → i < 8 → get_or (shifted_of b k p v) (8 * (a + 1) + i) 0 ≡ get_or b (8 * (k + a) + i) 0
  shifted_old zero i u l =
      in_second (line_of p v) (line_at b (8 * k) ++ (line_at b (8 * (k + 1)) ++ line_at b (8 * (k + 2)))) i (8 * (0 + 1) + i) (new_long p v) (omega arith)
      ∙ in_first (line_at b (8 * k)) (line_at b (8 * (k + 1)) ++ line_at b (8 * (k + 2))) i (line_long b (8 * k)) l
      ∙ line_byte b (8 * k) i l
      ∙ ap (λ (x : ℕ). get_or b (8 * x + i) 0) none
    where
      none : k ≡ k + 0
      none = omega arith
  shifted_old (suc zero) i u l =
      in_second (line_of p v) (line_at b (8 * k) ++ (line_at b (8 * (k + 1)) ++ line_at b (8 * (k + 2)))) (8 + i) (8 * (1 + 1) + i) (new_long p v) (omega arith)
      ∙ in_second (line_at b (8 * k)) (line_at b (8 * (k + 1)) ++ line_at b (8 * (k + 2))) i (8 + i) (line_long b (8 * k)) refl
      ∙ in_first (line_at b (8 * (k + 1))) (line_at b (8 * (k + 2))) i (line_long b (8 * (k + 1))) l
      ∙ line_byte b (8 * (k + 1)) i l
  shifted_old (suc (suc zero)) i u l =
      in_second (line_of p v) (line_at b (8 * k) ++ (line_at b (8 * (k + 1)) ++ line_at b (8 * (k + 2)))) (16 + i) (8 * (2 + 1) + i) (new_long p v) (omega arith)
      ∙ in_second (line_at b (8 * k)) (line_at b (8 * (k + 1)) ++ line_at b (8 * (k + 2))) (8 + i) (16 + i) (line_long b (8 * k)) (omega arith)
      ∙ in_second (line_at b (8 * (k + 1))) (line_at b (8 * (k + 2))) i (8 + i) (line_long b (8 * (k + 1))) refl
      ∙ line_byte b (8 * (k + 2)) i l
  shifted_old (suc (suc (suc a))) i u l = absurd (omega arith)

pub body_long : (s : Setpoint) → length (body_of s) ≡ 5
unfolding body_of bytes_of
body_long s = refl

-- b before, c after; the new line is the slot's first
pub record Appended (n : ℕ) (b c : List ℕ) (slot : ℕ) (s : Setpoint) (v p : ℕ) : Type 0 where
  pub long : length c ≡ length b
  pub newest : version_at c (4 * slot) ≡ v
  pub place : place_at c (4 * slot) ≡ p
  pub written : setting_at c p ≡ Some s
  pub own : (k : ℕ) → 4 * slot ≤ k → k < 4 * slot + 3 → Alike c b (k + 1) k
  pub other : (k : ℕ) → k < lines_of n → (k < 4 * slot) ⊎ (4 * slot + 4 ≤ k) → Alike c b k k
  pub bodies : (k : ℕ) → k < lines_of n → Kept b k → five_at c (place_at b k) ≡ five_at b (place_at b k)
  pub fits : Fits n c
  pub clean : Clean n b → Clean n c

module _ (n : ℕ) (b : List ℕ) (slot : ℕ) (s : Setpoint) (v p : ℕ) (inside : slot < n) (f : Fits n b) (none : version_at b (4 * slot + 3) ≡ 0)
    (held : Held s) (whole : has_body s ≡ true) (some : 1 ≤ v) (front : front_of n ≤ p) (fit : p + 5 ≤ length b)
    (last : (k : ℕ) → k < lines_of n → Kept b k → place_at b k + 5 ≤ p) where
  abbrev x : ℕ
  x = 4 * slot

  abbrev mid : List ℕ
  mid = sets b (8 * x) (shifted_of b x p v)

  abbrev c : List ℕ
  c = append_of b slot s v p

  mid_long : length mid ≡ length b
  mid_long = length-sets b (8 * x) (shifted_of b x p v)

  long_is : length c ≡ length b
  unfolding append_of
  long_is = length-sets mid p (body_of s) ∙ mid_long

  -- ---- bytes

  low : (j : ℕ) → j < p → get_or c j 0 ≡ get_or mid j 0
  unfolding append_of
  low j l = sets_below (body_of s) mid p j l

  high : (j : ℕ) → p + 5 ≤ j → get_or c j 0 ≡ get_or mid j 0
  unfolding append_of
  high j l = sets_above (body_of s) mid p j (omega (arith, body_long s))

  beside_lines : (j : ℕ) → Beside j (8 * x) 32 → get_or mid j 0 ≡ get_or b j 0
  beside_lines j (inl q) = sets_below (shifted_of b x p v) b (8 * x) j q
  beside_lines j (inr q) = sets_above (shifted_of b x p v) b (8 * x) j (omega (arith, shifted_long b x p v))

  in_lines : (i j : ℕ) → i < 32 → j ≡ 8 * x + i → get_or c j 0 ≡ get_or (shifted_of b x p v) i 0
  in_lines i j l e =
      low j (omega arith)
      ∙ sets_in (shifted_of b x p v) b (8 * x) i j e (omega (arith, shifted_long b x p v)) (omega (arith, shifted_long b x p v))

  new_byte : (i : ℕ) → i < 8 → get_or c (8 * x + i) 0 ≡ get_or (line_of p v) i 0
  new_byte i l = in_lines i (8 * x + i) (omega arith) refl ∙ shifted_new b x p v i l

  -- ---- the new line and its body

  newest_is : version_at c x ≡ v
  unfolding version_at line_of
  newest_is = rw (new_byte 4 (omega arith), new_byte 5 (omega arith), new_byte 6 (omega arith), new_byte 7 (omega arith)) (join_low v)

  zeroth : get_or c (8 * x) 0 ≡ get_or (line_of p v) 0 0
  zeroth = in_lines 0 (8 * x) (omega arith) (omega arith) ∙ shifted_new b x p v 0 (omega arith)

  place_is : place_at c x ≡ p
  unfolding place_at line_of
  place_is = rw (zeroth, new_byte 1 (omega arith)) (join_pair p)

  length_is : length_at c x ≡ 5
  unfolding length_at line_of join_of
  length_is = rw (new_byte 2 (omega arith), new_byte 3 (omega arith))

  body_in : (d : List ℕ) → p + 5 ≤ length d → five_at (sets d p (body_of s)) p ≡ body_of s
  unfolding body_of bytes_of
  body_in d l = five_in d p (kind_of s) (word_of s % 256) (word_of s / 256 % 256) (word_of s / 65536 % 256) (word_of s / 16777216) l

  written_is : setting_at c p ≡ Some s
  unfolding setting_at append_of
  written_is = rw (body_in mid (omega (arith, mid_long))) (read_back s held whole)

  -- ---- the other lines, and their bodies

  own_is : (k : ℕ) → x ≤ k → k < x + 3 → Alike c b (k + 1) k
  own_is k u w = line_alike c b (k + 1) k (λ i l. at i l)
    where
      at : (i : ℕ) → i < 8 → get_or c (8 * (k + 1) + i) 0 ≡ get_or b (8 * k + i) 0
      at i l =
          let e : x + (k - x) ≡ k = omega arith in
          in_lines (8 * (k - x + 1) + i) (8 * (k + 1) + i) (omega arith) (omega arith)
          ∙ shifted_old b x p v (k - x) i (omega arith) l
          ∙ ap (λ (y : ℕ). get_or b (8 * y + i) 0) e

  other_is : (k : ℕ) → k < lines_of n → (k < x) ⊎ (x + 4 ≤ k) → Alike c b k k
  other_is k l o = line_alike c b k k (λ i m. low (8 * k + i) (omega arith) ∙ beside_lines (8 * k + i) (beside i m o))
    where
      beside : (i : ℕ) → i < 8 → (k < x) ⊎ (x + 4 ≤ k) → Beside (8 * k + i) (8 * x) 32
      beside i m (inl q) = inl (omega arith)
      beside i m (inr q) = inr (omega arith)

  bodies_are : (k : ℕ) → k < lines_of n → Kept b k → five_at c (place_at b k) ≡ five_at b (place_at b k)
  bodies_are k l h =
      five_alike c b (place_at b k) (place_at b k)
      (λ i m. low (place_at b k + i) (omega (arith, last k l h)) ∙ beside_lines (place_at b k + i) (inr (omega (arith, f.behind k l h))))

  -- ---- so the book fits: line k came from line l

  module _ (k l : ℕ) (hl : l < lines_of n) (a : Alike c b k l) where
    old_kept : Kept c k → Kept b l
    old_kept h = omega (arith, a.2)

    old_unused : version_at c k ≡ 0 → (place_at c k ≡ 0) × (length_at c k ≡ 0)
    old_unused z = let u = f.unused l hl (sym a.2 ∙ z) in (a.0 ∙ u.0, a.1 ∙ u.1)

    old_five : Kept c k → length_at c k ≡ 5
    old_five h = a.1 ∙ f.five l hl (old_kept h)

    old_behind : Kept c k → front_of n ≤ place_at c k
    old_behind h = omega (arith, a.0, f.behind l hl (old_kept h))

    old_within : Kept c k → place_at c k + 5 ≤ length c
    old_within h = omega (arith, a.0, f.within l hl (old_kept h), long_is)

    old_means : Kept c k → is_setting (setting_at c (place_at c k)) ≡ true
    old_means h =
        ap (λ (y : ℕ). is_setting (setting_at c y)) a.0
        ∙ ap is_setting (setting_alike c b (place_at b l) (place_at b l) (bodies_are l hl (old_kept h)))
        ∙ f.means l hl (old_kept h)

    old_before : Kept c k → place_at c k + 5 ≤ p
    old_before h = omega (arith, a.0, last l hl (old_kept h))

  -- a property of lines that the new one has, and each that came from a line before
  each_line : (P : ℕ → Type 0) → P x → ((k l : ℕ) → l < lines_of n → l ≢ x + 3 → k ≡ goes_of slot l → Alike c b k l → P k) → (k : ℕ) → k < lines_of n → P k
  each_line P new old k hk = go (came slot k)
    where
      go : Came slot k → P k
      go (is_new e) = rw e new
      go (is_own l u w e) =
          old k l (omega arith) (omega arith) (e ∙ sym (goes_own slot l u (omega arith))) (rw e (own_is l u w))
      go (is_other o) = old k k hk (other_three o) (sym (goes_other slot k o)) (other_is k hk o)
        where
          other_three : (k < x) ⊎ (x + 4 ≤ k) → k ≢ x + 3
          other_three (inl q) e = omega arith
          other_three (inr q) e = omega arith

  fits_is : Fits n c
  fits_is =
      record {
        unused = each_line (λ k. version_at c k ≡ 0 → (place_at c k ≡ 0) × (length_at c k ≡ 0)) (λ z. absurd (omega (arith, newest_is)))
            (λ k l h d g a. old_unused k l h a);
        five = each_line (λ k. Kept c k → length_at c k ≡ 5) (λ h. length_is) (λ k l h d g a. old_five k l h a);
        behind = each_line (λ k. Kept c k → front_of n ≤ place_at c k) (λ h. omega (arith, place_is)) (λ k l h d g a. old_behind k l h a);
        within = each_line (λ k. Kept c k → place_at c k + 5 ≤ length c) (λ h. omega (arith, place_is, long_is)) (λ k l h d g a. old_within k l h a);
        means = each_line (λ k. Kept c k → is_setting (setting_at c (place_at c k)) ≡ true)
            (λ h. ap (λ (y : ℕ). is_setting (setting_at c y)) place_is ∙ ap is_setting written_is)
            (λ k l h d g a. old_means k l h a);
        apart = λ k l hk hl d u w. pairs k hk l hl d u w;
      }
    where
      -- the new body lies behind each other
      behind_all : (l : ℕ) → l < lines_of n → l ≢ x → Kept c l → place_at c l + 5 ≤ p
      behind_all =
          each_line (λ l. l ≢ x → Kept c l → place_at c l + 5 ≤ p) (λ d. absurd (d refl)) (λ k l h d g a e w. old_before k l h a w)

      two_old : (k r : ℕ) → r < lines_of n → k ≡ goes_of slot r → Alike c b k r → (l : ℕ) → l < lines_of n → k ≢ l → Kept c k → Kept c l → Apart (place_at c k) (place_at c l)
      two_old k r hr gr ar =
          each_line (λ l. k ≢ l → Kept c k → Kept c l → Apart (place_at c k) (place_at c l))
          (λ d u w. inl (omega (arith, old_before k r hr ar u, place_is)))
          (λ l q hq dq gq aq d u w. rw (ar.0, aq.0) (f.apart r q hr hq (λ e. d (gr ∙ ap (goes_of slot) e ∙ sym gq)) (old_kept k r hr ar u) (old_kept l q hq aq w)))

      pairs : (k : ℕ) → k < lines_of n → (l : ℕ) → l < lines_of n → k ≢ l → Kept c k → Kept c l → Apart (place_at c k) (place_at c l)
      pairs =
          each_line (λ k. (l : ℕ) → l < lines_of n → k ≢ l → Kept c k → Kept c l → Apart (place_at c k) (place_at c l))
          (λ l hl d u w. inr (omega (arith, place_is, behind_all l hl (λ e. d (sym e)) w)))
          (λ k r hr dr gr ar. two_old k r hr gr ar)

  -- each line before but the slot's oldest stands somewhere after
  goes : (k : ℕ) → k < lines_of n → k ≢ x + 3 → (l : ℕ) × (l < lines_of n) × Alike c b l k
  goes k h d = go (dec_lt k x) (dec_lt k (x + 4))
    where
      go : Dec (k < x) → Dec (k < x + 4) → (l : ℕ) × (l < lines_of n) × Alike c b l k
      go (yes u) w = (k, h, other_is k h (inl u))
      go (no u) (yes w) = (k + 1, omega arith, own_is k (omega arith) (omega arith))
      go (no u) (no w) = (k, h, other_is k h (inr (omega arith)))

  clean_is : Clean n b → Clean n c
  clean_is g j free = go (free.1 x (omega arith) (omega (arith, newest_is)))
    where
      still : get_or c j 0 ≡ get_or mid j 0 → ◌≡◌ {A = ℕ} (get_or c j 0) 0
      still e = e ∙ beside_lines j (inr (omega (arith, free.0))) ∙ g j (free.0, λ k h q. at k h q (ℕ_discrete k (x + 3)))
        where
          at : (k : ℕ) → k < lines_of n → Kept b k → Dec (k ≡ x + 3) → Beside j (place_at b k) 5
          at k h q (yes e) = absurd (omega (arith, ap (version_at b) e, none))
          at k h q (no e) =
              let t = goes k h e in
              rw (← t.2.0) (free.1 t.0 t.1 (omega (arith, t.2.2)))

      go : Beside j (place_at c x) 5 → ◌≡◌ {A = ℕ} (get_or c j 0) 0
      go (inl q) = still (low j (omega (arith, place_is)))
      go (inr q) = still (high j (omega (arith, place_is)))

  pub appended : Appended n b c slot s v p
  appended =
      record {
        long = long_is;
        newest = newest_is;
        place = place_is;
        written = written_is;
        own = own_is;
        other = other_is;
        bodies = bodies_are;
        fits = fits_is;
        clean = clean_is;
      }
