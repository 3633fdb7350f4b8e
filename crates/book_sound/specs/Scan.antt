-- A test for damage in one pass over the lines: no pair of bodies is looked at. The room behind the contents is cut into cells of five bytes. Two
-- bodies that begin in one cell overlap, so a cell has at most one; and a body can overlap only those that begin in its own cell and in the two
-- beside it. A mark a cell is enough: 0, or where in the cell its body begins, plus 1.
use Rattle.std.specs.Prelude.{◌≡◌, ℕ, zero, suc, ◌+◌, ◌-◌, ◌*◌, ◌/◌, ◌%◌, ◌^◌, ◌<◌, ◌≤◌, Bool, true, false, ◌&&◌, ◌||◌, ◌≢◌, ◌⊎◌, List, length, replicate, ◌==◌, nat_le, slice_index, slice_index_or, slice_set, refl, if◌then◌else◌}
use Rattle.std.proofs.Common.{ap, ◌∙◌, get_or-set_same}
use Rattle.std.proofs.Math.Logic.{inl, inr}
use native.Mathlib.Omega.{arith}
use Rattle.std.proofs.Math.Decide.{ℕ_discrete, dec_lt}
use Rattle.std.proofs.Math.ListN.{length-set}
use Rattle.std.proofs.lemmas.List.{length-replicate}
use Rattle.std.proofs.Math.Seq.{get_or-set_other}
use borrow.Author.Tests.{eqb-true, eqb-false, eq-eqb, ne_eqb, leb-true, le-leb}
use Rattle.choice.specs.Pick.{both, or_true, same_truth}
use Rattle.laws.specs.Lists.{zeros}
use Rattle.book_rules.specs.Layout.{all, lines_of, front_of, place_at, length_at, version_at, is_kept, setting_at, is_setting, is_falling, is_fitting, is_apart, is_sound}
use Rattle.book_rules.specs.Many.{all_each, each_all}
use Rattle.book_rules.specs.Sound.{Kept, Apart}
use Rattle.book_rules.proofs.Sound.{is_kept_lem, is_unkept, kept_fits, apart_is, is_apart_lem}

-- ---- the scan, as a loop makes it

-- the cell that a body begins in, and where in it
abbrev pub cell_of : ℕ → ℕ → ℕ
cell_of n p = (p - front_of n) / 5

abbrev pub offset_of : ℕ → ℕ → ℕ
offset_of n p = (p - front_of n) % 5

-- a body that begins at offset r of cell c overlaps none so far. The mark of cell c stands at c + 1: so the first has one before it too, which
-- stays 0
unfoldable pub is_clear : List ℕ → ℕ → ℕ → Bool
is_clear marks c r =
    (slice_index marks (c + 1) == 0)
    && (nat_le (slice_index marks c) (r + 1) && (slice_index marks (c + 2) == 0 || nat_le (r + 1) (slice_index marks (c + 2))))

abbrev pub marked_of : List ℕ → ℕ → ℕ → List ℕ
marked_of marks c r = slice_set marks (c + 1) (r + 1)

-- from line k on, so many lines: whether they are sound, and the marks
unfoldable pub scan_of : ℕ → List ℕ → ℕ → ℕ → List ℕ → Bool × List ℕ
scan_of n b zero k marks = (true, marks)
scan_of n b (suc left) k marks =
    if is_falling b k then (
    if is_fitting n b k then (
    if is_kept b k then (
    if is_clear marks (cell_of n (place_at b k)) (offset_of n (place_at b k)) then
    scan_of n b left (k + 1) (marked_of marks (cell_of n (place_at b k)) (offset_of n (place_at b k)))
    else (false, marks))
    else scan_of n b left (k + 1) marks)
    else (false, marks))
    else (false, marks)

-- ---- what it comes to

-- a line and its body, against the lines before
abbrev line_sound : ℕ → List ℕ → ℕ → Bool
line_sound n b k = is_falling b k && (is_fitting n b k && all k (λ l. is_apart b k l))

all_from : ℕ → ℕ → (ℕ → Bool) → Bool
all_from zero k f = true
all_from (suc left) k f = f k && all_from left (k + 1) f

-- the marks after the first k lines, for a book of so many cells
pub record Marked (n : ℕ) (b : List ℕ) (cells k : ℕ) (marks : List ℕ) : Type 0 where
  pub long : cells + 2 ≤ length marks
  pub first : ◌≡◌ {A = ℕ} (slice_index marks 0) 0
  pub marks_each : (l : ℕ) → l < k → Kept b l → slice_index marks (cell_of n (place_at b l) + 1) ≡ offset_of n (place_at b l) + 1
  pub means : (c : ℕ) → slice_index marks c ≢ 0
      → (l : ℕ) × (l < k) × Kept b l × (c ≡ cell_of n (place_at b l) + 1) × (slice_index marks c ≡ offset_of n (place_at b l) + 1)

module _ (n : ℕ) (b : List ℕ) (cells : ℕ) (size : length b ≤ front_of n + 5 * cells) where
  -- the bodies of the lines before lie behind the contents
  abbrev pub Behind : ℕ → Type 0
  Behind k = (l : ℕ) → l < k → Kept b l → (front_of n ≤ place_at b l) × (place_at b l + 5 ≤ length b)

  module _ (k : ℕ) (marks : List ℕ) (w : Marked n b cells k marks) (before : Behind k) (kept : Kept b k) (low : front_of n ≤ place_at b k) where
    clear_apart : is_clear marks (cell_of n (place_at b k)) (offset_of n (place_at b k)) ≡ true → (l : ℕ) → l < k → Kept b l → Apart (place_at b k) (place_at b l)
    unfolding is_clear
    clear_apart e l h q =
        let c = cell_of n (place_at b k) in
        let r = offset_of n (place_at b k) in
        let x = both (slice_index marks (c + 1) == 0) (nat_le (slice_index marks c) (r + 1) && (slice_index marks (c + 2) == 0 || nat_le (r + 1) (slice_index marks (c + 2)))) e in
        let y = both (nat_le (slice_index marks c) (r + 1)) (slice_index marks (c + 2) == 0 || nat_le (r + 1) (slice_index marks (c + 2))) x.1 in
        go (eqb-true _ _ x.0) (leb-true _ _ y.0) (either (slice_index marks (c + 2) == 0) (nat_le (r + 1) (slice_index marks (c + 2))) (eqb-true _ _) (leb-true _ _) y.1)
        (ℕ_discrete (cell_of n (place_at b l)) c) (ℕ_discrete (cell_of n (place_at b l) + 1) c) (ℕ_discrete (cell_of n (place_at b l)) (c + 1)) (dec_lt (place_at b k) (place_at b l))
      where
        either : (u v : Bool) → (u ≡ true → ◌≡◌ {A = ℕ} (slice_index marks (cell_of n (place_at b k) + 2)) 0)
            → (v ≡ true → offset_of n (place_at b k) + 1 ≤ slice_index marks (cell_of n (place_at b k) + 2)) → (u || v) ≡ true
            → (◌≡◌ {A = ℕ} (slice_index marks (cell_of n (place_at b k) + 2)) 0) ⊎ (offset_of n (place_at b k) + 1 ≤ slice_index marks (cell_of n (place_at b k) + 2))
        either true v f g e = inl (f refl)
        either false true f g e = inr (g refl)
        either false false f g e = let z : ◌≡◌ {A = ℕ} 0 1 = cc in absurd (omega arith)

        there : slice_index_or marks (cell_of n (place_at b l) + 1) 0 ≡ offset_of n (place_at b l) + 1
        there = w.marks_each l h q

        go : ◌≡◌ {A = ℕ} (slice_index marks (cell_of n (place_at b k) + 1)) 0 → slice_index marks (cell_of n (place_at b k)) ≤ offset_of n (place_at b k) + 1
            → (◌≡◌ {A = ℕ} (slice_index marks (cell_of n (place_at b k) + 2)) 0) ⊎ (offset_of n (place_at b k) + 1 ≤ slice_index marks (cell_of n (place_at b k) + 2))
            → Dec (cell_of n (place_at b l) ≡ cell_of n (place_at b k)) → Dec (cell_of n (place_at b l) + 1 ≡ cell_of n (place_at b k)) → Dec (cell_of n (place_at b l) ≡ cell_of n (place_at b k) + 1)
            → Dec (place_at b k < place_at b l) → Apart (place_at b k) (place_at b l)
        go own prev next (yes a) d f o = absurd (omega (arith, there, ap (λ (x : ℕ). slice_index marks (x + 1)) a))
        go own prev next (no a) (yes d) f o =
            inr (omega (arith, there, ap (λ (x : ℕ). slice_index marks x) d, (before l h q).0, low))
        go own prev (inl z) (no a) (no d) (yes f) o =
            let i : cell_of n (place_at b l) + 1 ≡ cell_of n (place_at b k) + 2 = omega arith in
            absurd (omega (arith, there, ap (λ (x : ℕ). slice_index marks x) i))
        go own prev (inr z) (no a) (no d) (yes f) o =
            let i : cell_of n (place_at b l) + 1 ≡ cell_of n (place_at b k) + 2 = omega arith in
            inl (omega (arith, there, ap (λ (x : ℕ). slice_index marks x) i, (before l h q).0, low))
        go own prev next (no a) (no d) (no f) (yes o) = inl (omega (arith, (before l h q).0, low))
        go own prev next (no a) (no d) (no f) (no o) = inr (omega (arith, (before l h q).0, low))

    apart_clear : ((l : ℕ) → l < k → Kept b l → Apart (place_at b k) (place_at b l)) → is_clear marks (cell_of n (place_at b k)) (offset_of n (place_at b k)) ≡ true
    unfolding is_clear
    apart_clear h =
        let c = cell_of n (place_at b k) in
        let r = offset_of n (place_at b k) in
        rw (eq-eqb (slice_index marks (c + 1)) 0 (own (ℕ_discrete (slice_index marks (c + 1)) 0)), le-leb (slice_index marks c) (r + 1) (prev (ℕ_discrete (slice_index marks c) 0)))
        (next (ℕ_discrete (slice_index marks (c + 2)) 0))
      where
        own : Dec (◌≡◌ {A = ℕ} (slice_index marks (cell_of n (place_at b k) + 1)) 0) → ◌≡◌ {A = ℕ} (slice_index marks (cell_of n (place_at b k) + 1)) 0
        own (yes e) = e
        own (no e) = let t = w.means (cell_of n (place_at b k) + 1) e in absurd (clash t.0 t.1 t.2 t.3 (h t.0 t.1 t.2))
          where
            clash : (l : ℕ) → l < k → Kept b l → cell_of n (place_at b k) + 1 ≡ cell_of n (place_at b l) + 1 → Apart (place_at b k) (place_at b l) → ⊥
            clash l i q e (inl a) = omega (arith, (before l i q).0, low)
            clash l i q e (inr a) = omega (arith, (before l i q).0, low)

        prev : Dec (◌≡◌ {A = ℕ} (slice_index marks (cell_of n (place_at b k))) 0) → slice_index marks (cell_of n (place_at b k)) ≤ offset_of n (place_at b k) + 1
        prev (yes e) = omega arith
        prev (no e) = let t = w.means (cell_of n (place_at b k)) e in fit t.0 t.1 t.2 t.3 t.4 (h t.0 t.1 t.2)
          where
            fit : (l : ℕ) → l < k → Kept b l → cell_of n (place_at b k) ≡ cell_of n (place_at b l) + 1 → slice_index marks (cell_of n (place_at b k)) ≡ offset_of n (place_at b l) + 1
                → Apart (place_at b k) (place_at b l) → slice_index marks (cell_of n (place_at b k)) ≤ offset_of n (place_at b k) + 1
            fit l i q e g (inl a) = omega (arith, (before l i q).0, low)
            fit l i q e g (inr a) = omega (arith, (before l i q).0, low)

        next : Dec (◌≡◌ {A = ℕ} (slice_index marks (cell_of n (place_at b k) + 2)) 0)
            → (slice_index marks (cell_of n (place_at b k) + 2) == 0 || nat_le (offset_of n (place_at b k) + 1) (slice_index marks (cell_of n (place_at b k) + 2))) ≡ true
        next (yes e) = rw (eq-eqb (slice_index marks (cell_of n (place_at b k) + 2)) 0 e)
        next (no e) =
            let t = w.means (cell_of n (place_at b k) + 2) e in
            rw (le-leb (offset_of n (place_at b k) + 1) (slice_index marks (cell_of n (place_at b k) + 2)) (fit t.0 t.1 t.2 t.3 t.4 (h t.0 t.1 t.2)))
            (or_true (slice_index marks (cell_of n (place_at b k) + 2) == 0))
          where
            fit : (l : ℕ) → l < k → Kept b l → cell_of n (place_at b k) + 2 ≡ cell_of n (place_at b l) + 1 → slice_index marks (cell_of n (place_at b k) + 2) ≡ offset_of n (place_at b l) + 1
                → Apart (place_at b k) (place_at b l) → offset_of n (place_at b k) + 1 ≤ slice_index marks (cell_of n (place_at b k) + 2)
            fit l i q e g (inl a) = omega (arith, (before l i q).0, low)
            fit l i q e g (inr a) = omega (arith, (before l i q).0, low)

    -- the mark of line k
    marked_more : is_clear marks (cell_of n (place_at b k)) (offset_of n (place_at b k)) ≡ true → place_at b k + 5 ≤ length b
        → Marked n b cells (k + 1) (marked_of marks (cell_of n (place_at b k)) (offset_of n (place_at b k)))
    unfolding is_clear
    marked_more e u =
        let c = cell_of n (place_at b k) in
        let r = offset_of n (place_at b k) in
        let x = both (slice_index marks (c + 1) == 0) (nat_le (slice_index marks c) (r + 1) && (slice_index marks (c + 2) == 0 || nat_le (r + 1) (slice_index marks (c + 2)))) e in
        let own : ◌≡◌ {A = ℕ} (slice_index marks (c + 1)) 0 = eqb-true _ _ x.0 in
        record {
          long = omega (arith, w.long, length-set marks (c + 1) (r + 1));
          first = get_or-set_other marks (c + 1) 0 (r + 1) 0 (omega arith) ∙ w.first;
          marks_each = λ l h q. each own l h q (ℕ_discrete l k);
          means = λ i d. mean i d (ℕ_discrete i (c + 1));
        }
      where
        inside : cell_of n (place_at b k) + 1 < length marks
        inside = omega (arith, w.long, size, low, u)

        each : ◌≡◌ {A = ℕ} (slice_index marks (cell_of n (place_at b k) + 1)) 0 → (l : ℕ) → l < k + 1 → Kept b l → Dec (l ≡ k)
            → slice_index (marked_of marks (cell_of n (place_at b k)) (offset_of n (place_at b k))) (cell_of n (place_at b l) + 1) ≡ offset_of n (place_at b l) + 1
        each own l h q (yes d) = rw d (get_or-set_same marks (cell_of n (place_at b k) + 1) (offset_of n (place_at b k) + 1) 0 inside)
        each own l h q (no d) =
            get_or-set_other marks (cell_of n (place_at b k) + 1) (cell_of n (place_at b l) + 1) (offset_of n (place_at b k) + 1) 0
            (λ z. omega (arith, w.marks_each l (omega arith) q, ap (λ (i : ℕ). slice_index marks i) z))
            ∙ w.marks_each l (omega arith) q

        mean : (i : ℕ) → slice_index (marked_of marks (cell_of n (place_at b k)) (offset_of n (place_at b k))) i ≢ 0 → Dec (i ≡ cell_of n (place_at b k) + 1)
            → (l : ℕ) × (l < k + 1) × Kept b l × (i ≡ cell_of n (place_at b l) + 1)
            × (slice_index (marked_of marks (cell_of n (place_at b k)) (offset_of n (place_at b k))) i ≡ offset_of n (place_at b l) + 1)
        mean i d (yes z) =
            (k, omega arith, kept, z, rw z (get_or-set_same marks (cell_of n (place_at b k) + 1) (offset_of n (place_at b k) + 1) 0 inside))
        mean i d (no z) =
            let same = get_or-set_other marks (cell_of n (place_at b k) + 1) i (offset_of n (place_at b k) + 1) 0 z in
            let t = w.means i (λ y. d (same ∙ y)) in
            (t.0, omega (arith, t.1), t.2, t.3, same ∙ t.4)

  -- ---- line by line

  clear_is : (k : ℕ) (marks : List ℕ) → Marked n b cells k marks → Behind k → Kept b k → front_of n ≤ place_at b k
      → is_clear marks (cell_of n (place_at b k)) (offset_of n (place_at b k)) ≡ all k (λ l. is_apart b k l)
  clear_is k marks w before kept low =
      same_truth _ _
      (λ e. each_all k (λ l. is_apart b k l) (λ l h. is_apart_lem b k l (λ u v. clear_apart k marks w before kept low e l h v)))
      (λ e. apart_clear k marks w before kept low (λ l h q. apart_is b k l (all_each k (λ l. is_apart b k l) e l h) kept q))

  unused_apart : (k : ℕ) → is_kept b k ≡ false → all k (λ l. is_apart b k l) ≡ true
  unused_apart k e = each_all k (λ l. is_apart b k l) (λ l h. is_apart_lem b k l (λ u v. absurd (omega (arith, is_unkept b k e))))

  -- the answer is this; and if it is true, the marks are those of the first m lines
  abbrev Told : ℕ → Bool × List ℕ → Bool → Type 0
  Told m o sound = (o.0 ≡ sound) × (o.0 ≡ true → Marked n b cells m o.1)

  scan_from_lem : (left k m : ℕ) (marks : List ℕ) → k + left ≡ m → Marked n b cells k marks → Behind k → Told m (scan_of n b left k marks) (all_from left k (line_sound n b))
  unfolding scan_of all_from
  scan_from_lem zero k m marks i w before = let same : k ≡ m = omega arith in (refl, λ e. rw (← same) w)
  scan_from_lem (suc left) k m marks i w before =
      go (is_falling b k) (is_fitting n b k) (is_kept b k) (is_clear marks (cell_of n (place_at b k)) (offset_of n (place_at b k))) (all k (λ l. is_apart b k l))
      (λ e d. kept_fits n b k e d) (is_kept_lem b k) (λ d. unused_apart k d)
      (λ q low. clear_is k marks w before q low)
      (λ e q low u. scan_from_lem left (k + 1) m (marked_of marks (cell_of n (place_at b k)) (offset_of n (place_at b k))) (omega arith) (marked_more k marks w before q low e u) (longer low u))
      (λ d. scan_from_lem left (k + 1) m marks (omega arith) (skip d) (past d))
    where
      longer : front_of n ≤ place_at b k → place_at b k + 5 ≤ length b → Behind (k + 1)
      longer low u l h q = at (ℕ_discrete l k)
        where
          at : Dec (l ≡ k) → (front_of n ≤ place_at b l) × (place_at b l + 5 ≤ length b)
          at (yes d) = rw d (low, u)
          at (no d) = before l (omega arith) q

      past : is_kept b k ≡ false → Behind (k + 1)
      past d l h q = at (ℕ_discrete l k)
        where
          at : Dec (l ≡ k) → (front_of n ≤ place_at b l) × (place_at b l + 5 ≤ length b)
          at (yes e) = absurd (omega (arith, is_unkept b k d, ap (version_at b) e))
          at (no e) = before l (omega arith) q

      skip : is_kept b k ≡ false → Marked n b cells (k + 1) marks
      skip d =
          record {
            long = w.long;
            first = w.first;
            marks_each = λ l h q. at l h q (ℕ_discrete l k);
            means = λ c e. let t = w.means c e in (t.0, omega (arith, t.1), t.2, t.3, t.4);
          }
        where
          at : (l : ℕ) → l < k + 1 → Kept b l → Dec (l ≡ k) → slice_index marks (cell_of n (place_at b l) + 1) ≡ offset_of n (place_at b l) + 1
          at l h q (yes e) = absurd (omega (arith, is_unkept b k d, ap (version_at b) e))
          at l h q (no e) = w.marks_each l (omega arith) q

      go : (x y z t a : Bool)
          → (y ≡ true → z ≡ true → (length_at b k ≡ 5) × (front_of n ≤ place_at b k) × (place_at b k + 5 ≤ length b) × (is_setting (setting_at b (place_at b k)) ≡ true))
          → (z ≡ true → Kept b k) → (z ≡ false → a ≡ true)
          → (Kept b k → front_of n ≤ place_at b k → t ≡ a)
          → (t ≡ true → Kept b k → front_of n ≤ place_at b k → place_at b k + 5 ≤ length b
          → Told m (scan_of n b left (k + 1) (marked_of marks (cell_of n (place_at b k)) (offset_of n (place_at b k)))) (all_from left (k + 1) (line_sound n b)))
          → (z ≡ false → Told m (scan_of n b left (k + 1) marks) (all_from left (k + 1) (line_sound n b)))
          → Told m (
          if x then (
          if y then (
          if z then (if t then scan_of n b left (k + 1) (marked_of marks (cell_of n (place_at b k)) (offset_of n (place_at b k))) else (false, marks))
          else scan_of n b left (k + 1) marks)
          else (false, marks))
          else (false, marks)) ((x && (y && a)) && all_from left (k + 1) (line_sound n b))
      go false y z t a fit is un cl more on = (refl, λ e. let z : ◌≡◌ {A = ℕ} 0 1 = cc in absurd (omega arith))
      go true false z t a fit is un cl more on = (refl, λ e. let z : ◌≡◌ {A = ℕ} 0 1 = cc in absurd (omega arith))
      go true true true true a fit is un cl more on =
          let f = fit refl refl in
          rw (← cl (is refl) f.1) (more refl (is refl) f.1 f.2)
      go true true true false a fit is un cl more on =
          let f = fit refl refl in
          rw (← cl (is refl) f.1) (refl, λ e. let z : ◌≡◌ {A = ℕ} 0 1 = cc in absurd (omega arith))
      go true true false t a fit is un cl more on = rw (un refl) (on refl)

-- ---- the whole

all_from_lem : (left k : ℕ) (f : ℕ → Bool) → all_from left k f ≡ true → (l : ℕ) → k ≤ l → l < k + left → f l ≡ true
unfolding all_from
all_from_lem zero k f e l h u = absurd (omega arith)
all_from_lem (suc left) k f e l h u = go (both (f k) (all_from left (k + 1) f) e) (ℕ_discrete l k) (λ q. all_from_lem left (k + 1) f q l)
  where
    go : (f k ≡ true) × (all_from left (k + 1) f ≡ true) → Dec (l ≡ k) → (all_from left (k + 1) f ≡ true → k + 1 ≤ l → l < k + 1 + left → f l ≡ true) → f l ≡ true
    go p (yes d) r = ap f d ∙ p.0
    go p (no d) r = r p.1 (omega arith) (omega arith)

from_all : (left k : ℕ) (f : ℕ → Bool) → ((l : ℕ) → k ≤ l → l < k + left → f l ≡ true) → all_from left k f ≡ true
unfolding all_from
from_all zero k f h = refl
from_all (suc left) k f h = rw (h k (omega arith) (omega arith), from_all left (k + 1) f (λ l u v. h l (omega arith) (omega arith)))

lines_sound : (n : ℕ) (b : List ℕ) → all_from (lines_of n) 0 (line_sound n b) ≡ is_sound n b
unfolding is_sound
lines_sound n b = same_truth _ _ there back
  where
    there : all_from (lines_of n) 0 (line_sound n b) ≡ true
        → (all (lines_of n) (is_falling b) && (all (lines_of n) (is_fitting n b) && all (lines_of n) (λ k. all k (λ l. is_apart b k l)))) ≡ true
    there e =
        rw (
          each_all (lines_of n) (is_falling b) (λ k h. (parts k h).0),
          each_all (lines_of n) (is_fitting n b) (λ k h. (both (is_fitting n b k) (all k (λ l. is_apart b k l)) (parts k h).1).0),
          each_all (lines_of n) (λ k. all k (λ l. is_apart b k l)) (λ k h. (both (is_fitting n b k) (all k (λ l. is_apart b k l)) (parts k h).1).1),
        )
      where
        parts : (k : ℕ) → k < lines_of n → (is_falling b k ≡ true) × ((is_fitting n b k && all k (λ l. is_apart b k l)) ≡ true)
        parts k h = both (is_falling b k) (is_fitting n b k && all k (λ l. is_apart b k l)) (all_from_lem (lines_of n) 0 (line_sound n b) e k (omega arith) (omega arith))

    back : (all (lines_of n) (is_falling b) && (all (lines_of n) (is_fitting n b) && all (lines_of n) (λ k. all k (λ l. is_apart b k l)))) ≡ true
        → all_from (lines_of n) 0 (line_sound n b) ≡ true
    back e =
        let p = both (all (lines_of n) (is_falling b)) (all (lines_of n) (is_fitting n b) && all (lines_of n) (λ k. all k (λ l. is_apart b k l))) e in
        let q = both (all (lines_of n) (is_fitting n b)) (all (lines_of n) (λ k. all k (λ l. is_apart b k l))) p.1 in
        from_all (lines_of n) 0 (line_sound n b) (λ k u h.
        rw (
          all_each (lines_of n) (is_falling b) p.0 k (omega arith),
          all_each (lines_of n) (is_fitting n b) q.0 k (omega arith),
          all_each (lines_of n) (λ k. all k (λ l. is_apart b k l)) q.1 k (omega arith),
        ))

-- the scan, begun with marks of 0, is the test, and leaves the marks of all lines; a book of 32,768 bytes has at most 6,548 cells
pub scan_is : (n : ℕ) (b : List ℕ) (cells : ℕ) (o : Bool × List ℕ) → length b ≤ front_of n + 5 * cells → o ≡ scan_of n b (lines_of n) 0 (replicate (cells + 2) 0)
    → (o.0 ≡ is_sound n b) × (o.0 ≡ true → Marked n b cells (lines_of n) o.1)
scan_is n b cells o size e = rw e (told.0 ∙ lines_sound n b, told.1)
  where
    told : ((scan_of n b (lines_of n) 0 (replicate (cells + 2) 0)).0 ≡ all_from (lines_of n) 0 (line_sound n b))
        × ((scan_of n b (lines_of n) 0 (replicate (cells + 2) 0)).0 ≡ true → Marked n b cells (lines_of n) (scan_of n b (lines_of n) 0 (replicate (cells + 2) 0)).1)
    told =
        scan_from_lem n b cells size (lines_of n) 0 (lines_of n) (replicate (cells + 2) 0) (omega arith)
        (record {
          long = omega (arith, length-replicate {A = ℕ} (cells + 2) 0);
          first = zeros (cells + 2) 0;
          marks_each = λ l h q. absurd (omega arith);
          means = λ c d. absurd (d (zeros (cells + 2) c));
        })
        (λ l h q. absurd (omega arith))

-- ---- for a loop: one turn, and the end

pub scan_turn : (n : ℕ) (b : List ℕ) (k : ℕ) (marks : List ℕ) → k < lines_of n
    → scan_of n b (lines_of n - k) k marks
    ≡ (if is_falling b k then (
    if is_fitting n b k then (
    if is_kept b k then (
    if is_clear marks (cell_of n (place_at b k)) (offset_of n (place_at b k)) then
    scan_of n b (lines_of n - (k + 1)) (k + 1) (marked_of marks (cell_of n (place_at b k)) (offset_of n (place_at b k)))
    else (false, marks))
    else scan_of n b (lines_of n - (k + 1)) (k + 1) marks)
    else (false, marks))
    else (false, marks))
unfolding scan_of
scan_turn n b k marks l = let e : lines_of n - k ≡ suc (lines_of n - (k + 1)) = omega arith in rw e

pub scan_end : (n : ℕ) (b : List ℕ) (k : ℕ) (marks : List ℕ) → lines_of n ≤ k → scan_of n b (lines_of n - k) k marks ≡ (true, marks)
unfolding scan_of
scan_end n b k marks l = let e : lines_of n - k ≡ 0 = omega arith in rw e

-- ---- what a line wants of the next one's version

-- line k, unless it is a slot's first, has this version if it falls
abbrev pub Wanted : List ℕ → ℕ → ℕ → Type 0
Wanted b k v = k % 4 ≢ 0 → v ≡ version_at b (k - k % 4) - k % 4

less_one : (v a x m : ℕ) → v ≡ a - 1 → a ≡ x - m → v ≡ x - (m + 1)
less_one v a x m e f = omega (arith, e, f)

pub wanted_more : (b : List ℕ) (k v : ℕ) → is_falling b k ≡ true → v ≡ version_at b k - 1 → Wanted b (k + 1) v
unfolding is_falling
wanted_more b k v f e d =
    let next : (k + 1) % 4 ≡ k % 4 + 1 = omega (arith, d) in
    let first : (k + 1) - (k % 4 + 1) ≡ k - k % 4 = omega arith in
    rw (next, first) (less_one v (version_at b k) (version_at b (k - k % 4)) (k % 4) e (eqb-true _ _ f))

pub falling_first : (b : List ℕ) (k : ℕ) → k % 4 ≡ 0 → is_falling b k ≡ true
unfolding is_falling
falling_first b k e =
    let same : k - k % 4 ≡ k = omega arith in
    eq-eqb (version_at b k) (version_at b (k - k % 4) - k % 4) (omega (arith, ap (version_at b) same))

-- ---- a line's place and length as one number

module _ (n p l size w d : ℕ) (few : n ≤ 64) (short : size ≤ 34788) (is : w ≡ p + 65536 * l) (low : p < 65536) (wraps : (d + (327680 + 32 * n)) % 2 ^ 64 ≡ w) where
  pub in_places : d < size - 32 * n - 4 → (l ≡ 5) × (32 * n ≤ p) × (p + 5 ≤ size) × (p ≡ 32 * n + d)
  in_places h =
      let under : d + 32 * n + 4 < size = omega (arith, h) in
      let whole : d + (327680 + 32 * n) ≡ w = omega (arith, wraps, under, short) in
      let five : l ≡ 5 = omega (arith, whole, is, low, under, short) in
      (five, omega (arith, whole, is, five), omega (arith, whole, is, five, under), omega (arith, whole, is, five))

  pub out_places : (s : Bool) → d < 2 ^ 64 → size - 32 * n - 4 ≤ d → (l == 5 && (nat_le (32 * n) p && (nat_le (p + 5) size && s))) ≡ false
  out_places s top h = go (l == 5) refl (nat_le (32 * n) p) refl (nat_le (p + 5) size) refl
    where
      go : (x : Bool) → (l == 5) ≡ x → (y : Bool) → nat_le (32 * n) p ≡ y → (z : Bool) → nat_le (p + 5) size ≡ z → (x && (y && (z && s))) ≡ false
      go false e y f z g = refl
      go true e false f z g = refl
      go true e true f false g = refl
      go true e true f true g =
          let five : l ≡ 5 = eqb-true l 5 e in
          let over : 32 * n ≤ p = leb-true (32 * n) p f in
          let under : p + 5 ≤ size = leb-true (p + 5) size g in
          let whole : d + 32 * n ≡ p = omega (arith, wraps, is, five, over, low, top) in
          absurd (omega (arith, h, whole, under))

pub zero_word : (p l w : ℕ) → w ≡ p + 65536 * l → (w == 0) ≡ (p == 0 && l == 0)
zero_word p l w e = go (p == 0) refl (l == 0) refl
  where
    go : (x : Bool) → (p == 0) ≡ x → (y : Bool) → (l == 0) ≡ y → (w == 0) ≡ (x && y)
    go false f y g = let no : p ≡ 0 → ⊥ = eqb-false p 0 f in ne_eqb w 0 (λ z. no (omega (arith, e, z)))
    go true f false g = let no : l ≡ 0 → ⊥ = eqb-false l 0 g in ne_eqb w 0 (λ z. no (omega (arith, e, z)))
    go true f true g = let p0 : p ≡ 0 = eqb-true p 0 f in let l0 : l ≡ 0 = eqb-true l 0 g in eq-eqb w 0 (omega (arith, e, p0, l0))
