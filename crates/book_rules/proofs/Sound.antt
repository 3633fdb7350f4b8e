-- A book that is not damaged: the test says just the facts of specs/Sound.antt.
use Rattle.std.specs.Prelude.{ℕ, ◌+◌, ◌*◌, ◌≤◌, ◌<◌, refl, ◌≢◌, List, Bool, not, ◌&&◌, ◌||◌, leb, get_or, if◌then◌else◌}
use Rattle.std.proofs.Math.Path.{◌≡◌}
use Rattle.std.proofs.Common.{sym, ap, ◌∙◌, inl, inr, arith}
use Rattle.std.proofs.Math.Bool.{true, false}
use Rattle.std.proofs.Math.Decide.{dec_lt}
use Rattle.std.proofs.Math.Dec.{eqb}
use Rattle.std.proofs.Math.ListN.{length}
use borrow.Author.Tests.{eqb-true, eqb-false, eq-eqb, ne_eqb, leb-true, le-leb, not-true, not-false}
use Rattle.choice.specs.Pick.{both, or_true}
use Rattle.setpoint.specs.Codec.{join_of}
use Rattle.book_rules.specs.Layout.{five_at, all, lines_of, front_of, place_at, length_at, version_at, is_kept, setting_at, is_setting, is_falling, is_fitting, is_apart, is_sound}
use Rattle.book_rules.specs.Many.{all_each, each_all}
use Rattle.book_rules.specs.Sound.{Kept, Apart, Fits, Sound, Alike}

-- ---- kept or not

pub kept_is : (b : List ℕ) (k : ℕ) → Kept b k → is_kept b k ≡ true
unfolding is_kept
kept_is b k h = let some : version_at b k ≡ 0 → ⊥ = (λ z. omega arith) in rw (ne_eqb (version_at b k) 0 some)

pub is_kept_lem : (b : List ℕ) (k : ℕ) → is_kept b k ≡ true → Kept b k
unfolding is_kept
is_kept_lem b k e = let no : version_at b k ≡ 0 → ⊥ = eqb-false (version_at b k) 0 (not-true _ e) in omega (arith, no)

pub unkept_is : (b : List ℕ) (k : ℕ) → version_at b k ≡ 0 → is_kept b k ≡ false
unfolding is_kept
unkept_is b k e = rw (eq-eqb (version_at b k) 0 e)

pub is_unkept : (b : List ℕ) (k : ℕ) → is_kept b k ≡ false → version_at b k ≡ 0
unfolding is_kept
is_unkept b k e = eqb-true (version_at b k) 0 (not-false _ e)

-- ---- a line that fits

module _ (n : ℕ) (b : List ℕ) (k : ℕ) where
  pub kept_fits : is_fitting n b k ≡ true → is_kept b k ≡ true
      → (length_at b k ≡ 5) × (front_of n ≤ place_at b k) × (place_at b k + 5 ≤ length b) × (is_setting (setting_at b (place_at b k)) ≡ true)
  unfolding is_fitting
  kept_fits e h = go (is_kept b k) h e
    where
      go : (x : Bool) → x ≡ true
          → (if x then eqb (length_at b k) 5 && (leb (front_of n) (place_at b k) && (leb (place_at b k + 5) (length b) && is_setting (setting_at b (place_at b k))))
          else eqb (place_at b k) 0 && eqb (length_at b k) 0) ≡ true
          → (length_at b k ≡ 5) × (front_of n ≤ place_at b k) × (place_at b k + 5 ≤ length b) × (is_setting (setting_at b (place_at b k)) ≡ true)
      go true h e =
          let p = both (eqb (length_at b k) 5) (leb (front_of n) (place_at b k) && (leb (place_at b k + 5) (length b) && is_setting (setting_at b (place_at b k)))) e in
          let q = both (leb (front_of n) (place_at b k)) (leb (place_at b k + 5) (length b) && is_setting (setting_at b (place_at b k))) p.1 in
          let r = both (leb (place_at b k + 5) (length b)) (is_setting (setting_at b (place_at b k))) q.1 in
          (eqb-true _ _ p.0, leb-true _ _ q.0, leb-true _ _ r.0, r.1)
      go false h e = let z : ◌≡◌ {A = ℕ} 0 1 = cc in absurd (omega arith)

  unused_fits : is_fitting n b k ≡ true → is_kept b k ≡ false → (place_at b k ≡ 0) × (length_at b k ≡ 0)
  unfolding is_fitting
  unused_fits e h = go (is_kept b k) h e
    where
      go : (x : Bool) → x ≡ false
          → (if x then eqb (length_at b k) 5 && (leb (front_of n) (place_at b k) && (leb (place_at b k + 5) (length b) && is_setting (setting_at b (place_at b k))))
          else eqb (place_at b k) 0 && eqb (length_at b k) 0) ≡ true
          → (place_at b k ≡ 0) × (length_at b k ≡ 0)
      go true h e = let z : ◌≡◌ {A = ℕ} 0 1 = cc in absurd (omega arith)
      go false h e = let p = both (eqb (place_at b k) 0) (eqb (length_at b k) 0) e in (eqb-true _ _ p.0, eqb-true _ _ p.1)

  fits_is : (f : Fits n b) → k < lines_of n → is_fitting n b k ≡ true
  unfolding is_fitting
  fits_is f l = go (is_kept b k) (is_kept_lem b k) (is_unkept b k)
    where
      go : (x : Bool) → (x ≡ true → Kept b k) → (x ≡ false → version_at b k ≡ 0)
          → (if x then eqb (length_at b k) 5 && (leb (front_of n) (place_at b k) && (leb (place_at b k + 5) (length b) && is_setting (setting_at b (place_at b k))))
          else eqb (place_at b k) 0 && eqb (length_at b k) 0) ≡ true
      go true h g =
          rw (
            eq-eqb _ _ (f.five k l (h refl)),
            le-leb _ _ (f.behind k l (h refl)),
            le-leb _ _ (f.within k l (h refl)),
            f.means k l (h refl),
          )
      go false h g = rw (eq-eqb _ _ (f.unused k l (g refl)).0, eq-eqb _ _ (f.unused k l (g refl)).1)

-- ---- two lines apart

swap_apart : (p q : ℕ) → Apart p q → Apart q p
swap_apart p q (inl x) = inr x
swap_apart p q (inr x) = inl x

pub apart_is : (b : List ℕ) (k l : ℕ) → is_apart b k l ≡ true → Kept b k → Kept b l → Apart (place_at b k) (place_at b l)
unfolding is_apart
apart_is b k l e hk hl =
    go (is_kept b k) (is_kept b l) (leb (place_at b k + 5) (place_at b l)) (leb (place_at b l + 5) (place_at b k)) (kept_is b k hk) (kept_is b l hl)
    (leb-true (place_at b k + 5) (place_at b l)) (leb-true (place_at b l + 5) (place_at b k)) e
  where
    go : (x y u v : Bool) → x ≡ true → y ≡ true → (u ≡ true → place_at b k + 5 ≤ place_at b l) → (v ≡ true → place_at b l + 5 ≤ place_at b k)
        → (not (x && y) || (u || v)) ≡ true → Apart (place_at b k) (place_at b l)
    go true true true v a c f g e = inl (f refl)
    go true true false true a c f g e = inr (g refl)
    go true true false false a c f g e = let z : ◌≡◌ {A = ℕ} 0 1 = cc in absurd (omega arith)
    go true false u v a c f g e = let z : ◌≡◌ {A = ℕ} 0 1 = cc in absurd (omega arith)
    go false y u v a c f g e = let z : ◌≡◌ {A = ℕ} 0 1 = cc in absurd (omega arith)

pub is_apart_lem : (b : List ℕ) (k l : ℕ) → (Kept b k → Kept b l → Apart (place_at b k) (place_at b l)) → is_apart b k l ≡ true
unfolding is_apart
is_apart_lem b k l h = go (is_kept b k) (is_kept b l) (is_kept_lem b k) (is_kept_lem b l)
  where
    two : Apart (place_at b k) (place_at b l) → (leb (place_at b k + 5) (place_at b l) || leb (place_at b l + 5) (place_at b k)) ≡ true
    two (inl x) = rw (le-leb _ _ x)
    two (inr x) = rw (le-leb (place_at b l + 5) (place_at b k) x) (or_true (leb (place_at b k + 5) (place_at b l)))

    go : (x y : Bool) → (x ≡ true → Kept b k) → (y ≡ true → Kept b l)
        → (not (x && y) || (leb (place_at b k + 5) (place_at b l) || leb (place_at b l + 5) (place_at b k))) ≡ true
    go true true f g = two (h (f refl) (g refl))
    go true false f g = refl
    go false y f g = refl

-- ---- the test says just this

pub sound_is : (n : ℕ) (b : List ℕ) → is_sound n b ≡ true → Sound n b
unfolding is_sound is_falling
sound_is n b e =
    let m = lines_of n in
    let p = both (all m (is_falling b)) (all m (is_fitting n b) && all m (λ k. all k (λ l. is_apart b k l))) e in
    let q = both (all m (is_fitting n b)) (all m (λ k. all k (λ l. is_apart b k l))) p.1 in
    record {
      falls = λ k l. eqb-true _ _ (all_each m (is_falling b) p.0 k l);
      fits =
          record {
            unused = λ k l z. unused_fits n b k (all_each m (is_fitting n b) q.0 k l) (unkept_is b k z);
            five = λ k l h. (kept_fits n b k (all_each m (is_fitting n b) q.0 k l) (kept_is b k h)).0;
            behind = λ k l h. (kept_fits n b k (all_each m (is_fitting n b) q.0 k l) (kept_is b k h)).1;
            within = λ k l h. (kept_fits n b k (all_each m (is_fitting n b) q.0 k l) (kept_is b k h)).2;
            means = λ k l h. (kept_fits n b k (all_each m (is_fitting n b) q.0 k l) (kept_is b k h)).3;
            apart = λ k l hk hl d. pair q.1 k l hk hl d (dec_lt l k);
          };
    }
  where
    pair : all (lines_of n) (λ k. all k (λ l. is_apart b k l)) ≡ true → (k l : ℕ) → k < lines_of n → l < lines_of n → k ≢ l → Dec (l < k)
        → Kept b k → Kept b l → Apart (place_at b k) (place_at b l)
    pair a k l hk hl d (yes o) u v =
        apart_is b k l (all_each k (λ l. is_apart b k l) (all_each (lines_of n) (λ k. all k (λ l. is_apart b k l)) a k hk) l o) u v
    pair a k l hk hl d (no o) u v =
        swap_apart (place_at b l) (place_at b k)
        (apart_is b l k (all_each l (λ k. is_apart b l k) (all_each (lines_of n) (λ k. all k (λ l. is_apart b k l)) a l hl) k (omega arith)) v u)

pub is_sound_lem : (n : ℕ) (b : List ℕ) → Sound n b → is_sound n b ≡ true
unfolding is_sound is_falling
is_sound_lem n b s =
    rw (
      each_all (lines_of n) (is_falling b) (λ k l. eq-eqb _ _ (s.falls k l)),
      each_all (lines_of n) (is_fitting n b) (λ k l. fits_is n b k s.fits l),
      each_all (lines_of n) (λ k. all k (λ l. is_apart b k l)) (λ k hk. each_all k (λ l. is_apart b k l) (λ l hl. is_apart_lem b k l
          (λ u v. s.fits.apart k l hk (omega arith) (omega arith) u v))),
    )

-- line k of one book and line l of another have the same eight bytes
pub line_alike : (b c : List ℕ) (k l : ℕ) → ((i : ℕ) → i < 8 → get_or b (8 * k + i) 0 ≡ get_or c (8 * l + i) 0) → Alike b c k l
unfolding place_at length_at version_at
line_alike b c k l h =
    let first : get_or b (8 * k) 0 ≡ get_or c (8 * l) 0 = zeroth in
    (rw (first, h 1 (omega arith)), rw (h 2 (omega arith), h 3 (omega arith)), rw (h 4 (omega arith), h 5 (omega arith), h 6 (omega arith), h 7 (omega arith)))
  where
    zeroth : get_or b (8 * k) 0 ≡ get_or c (8 * l) 0
    zeroth =
        let e : 8 * k + 0 ≡ 8 * k = omega arith in
        let f : 8 * l + 0 ≡ 8 * l = omega arith in
        ap (λ (x : ℕ). get_or b x 0) (sym e) ∙ h 0 (omega arith) ∙ ap (λ (x : ℕ). get_or c x 0) f

pub line_zero : (b : List ℕ) (k : ℕ) → ((i : ℕ) → i < 8 → ◌≡◌ {A = ℕ} (get_or b (8 * k + i) 0) 0) → (place_at b k ≡ 0) × (length_at b k ≡ 0) × (version_at b k ≡ 0)
unfolding place_at length_at version_at join_of
line_zero b k h =
    let e : 8 * k + 0 ≡ 8 * k = omega arith in
    let first : ◌≡◌ {A = ℕ} (get_or b (8 * k) 0) 0 = ap (λ (x : ℕ). get_or b x 0) (sym e) ∙ h 0 (omega arith) in
    (rw (first, h 1 (omega arith)), rw (h 2 (omega arith), h 3 (omega arith)), rw (h 4 (omega arith), h 5 (omega arith), h 6 (omega arith), h 7 (omega arith)))

-- five bytes from p on in one book are those from q on in another
pub five_alike : (b c : List ℕ) (p q : ℕ) → ((i : ℕ) → i < 5 → get_or b (p + i) 0 ≡ get_or c (q + i) 0) → five_at b p ≡ five_at c q
unfolding five_at
five_alike b c p q h =
    let e : p + 0 ≡ p = omega arith in
    let f : q + 0 ≡ q = omega arith in
    let first : get_or b p 0 ≡ get_or c q 0 = ap (λ (x : ℕ). get_or b x 0) (sym e) ∙ h 0 (omega arith) ∙ ap (λ (x : ℕ). get_or c x 0) f in
    rw (first, h 1 (omega arith), h 2 (omega arith), h 3 (omega arith), h 4 (omega arith))

pub setting_alike : (b c : List ℕ) (p q : ℕ) → five_at b p ≡ five_at c q → setting_at b p ≡ setting_at c q
unfolding setting_at
setting_alike b c p q e = rw e
