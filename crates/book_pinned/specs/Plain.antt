-- The words of crates `setpoint` and `book_rules` in the plain numbers of `Statement`: lines, what five bytes mean, damage, what stays and how many.
use Rattle.std.specs.Prelude.{ℕ, zero, suc, ◌+◌, ◌*◌, ◌-◌, ◌/◌, ◌%◌, ◌≤◌, ◌<◌, ◌≡◌, refl, ◌⊎◌, ◌≢◌, List, Bool, true, false, ◌&&◌, eqb, get_or, if◌then◌else◌, Option, Some, None}
use Rattle.std.proofs.Common.{sym, ◌∙◌, inl, inr, ltb-true, ltb-false, eqb-true, eq-eqb, ne_eqb, lt-ltb, le-ltb}
use Rattle.std.proofs.Math.Path.{ap}
use Rattle.std.proofs.Math.Bool.{not}
use native.Mathlib.Omega.{arith}
use Rattle.std.proofs.Math.Decide.{ℕ_discrete, dec_lt}
use Rattle.std.proofs.Math.Dec.{ltb}
use Rattle.std.specs.Float.{binary32, nan, inf, fin}
use Rattle.std.specs.Float.Ieee.{of_bits}
use Rattle.std.proofs.lemmas.Bool.{eqb-false}
use Rattle.setpoint.specs.Codec.{is_finite, has_body, finite_bits, setting_of, join_of, decode_of}
use Rattle.setpoint.specs.declared.Setpoint.{Setpoint}
use Rattle.setpoint.specs.declared.Setpoint.TheVariants.{Pressure, Speed, Valve}
use Rattle.book_rules.specs.Layout.{five_at, place_at, length_at, version_at, is_kept, setting_at, is_setting, is_sound}
use Rattle.book_rules.specs.Writing.{count, drop_oldest_of, kept_of, rank_of, slid_of, moved_of}
use Rattle.book_rules.specs.Sound.{Kept, Fits, Sound}
use Rattle.book_rules.proofs.Sound.{kept_is, unkept_is, sound_is, is_sound_lem}
use Rattle.book_rules.specs.Dropped.{Dropped}
use Rattle.book_rules.proofs.Dropped.{dropped}
use Rattle.history.specs.Tests.{differ as apart_from}
use Rattle.pinned.specs.Decided.{Decides}
use Rattle.pinned.proofs.Decided.{not_decides}
use Rattle.book_pinned.specs.Statement.{place_in, length_in, version_in, IsNotFinite, Means, BodyAt, Undamaged, Stays, differ, less, stays, sum, staying, staying_before, slid, moved}

-- ---- lines

pub place_is : (b : List ℕ) (k : ℕ) → place_at b k ≡ place_in b k
unfolding place_at place_in join_of
place_is b k = omega arith

length_is : (b : List ℕ) (k : ℕ) → length_at b k ≡ length_in b k
unfolding length_at length_in join_of
length_is b k = omega arith

pub version_is : (b : List ℕ) (k : ℕ) → version_at b k ≡ version_in b k
unfolding version_at version_in join_of
version_is b k = refl

pub kept : (b : List ℕ) (k : ℕ) → version_in b k ≢ 0 → Kept b k
kept b k u = omega (arith, u, version_is b k)

pub used : (b : List ℕ) (k : ℕ) → Kept b k → version_in b k ≢ 0
used b k h e = omega (arith, version_is b k)

-- ---- what five bytes mean

abbrev Read : (k w : ℕ) → Option Setpoint → Type 0
Read k w d = ((s : Setpoint) × Means k w s × (d ≡ Some s)) ⊎ (((s : Setpoint) → Means k w s → ⊥) × (d ≡ None))

read_is : (k w : ℕ) → Read k w (setting_of k w)
unfolding setting_of
read_is k w =
    go (eqb k 1) (eqb k 2) (eqb k 3) (finite_bits w) (eqb w 0) (eqb w 1) (eqb-true k 1) (eqb-false k 1) (eqb-true k 2) (eqb-false k 2) (eqb-true k 3) (eqb-false k 3)
    (ltb-true (w % 2147483648) 2139095040) (ltb-false (w % 2147483648) 2139095040) (eqb-true w 0) (eqb-false w 0) (eqb-true w 1) (eqb-false w 1)
  where
    go : (p q r f z o : Bool) → (p ≡ true → k ≡ 1) → (p ≡ false → k ≢ 1) → (q ≡ true → k ≡ 2) → (q ≡ false → k ≢ 2) → (r ≡ true → k ≡ 3) → (r ≡ false → k ≢ 3)
        → (f ≡ true → w % 2147483648 < 2139095040) → (f ≡ false → 2139095040 ≤ w % 2147483648)
        → (z ≡ true → w ≡ 0) → (z ≡ false → w ≢ 0) → (o ≡ true → w ≡ 1) → (o ≡ false → w ≢ 1)
        → Read k w (
        if p then (if f then Some (Pressure (of_bits binary32 w)) else None)
        else if q then Some (Speed w)
        else if r then (if z then Some (Valve false) else if o then Some (Valve true) else None)
        else None)
    go true q r true z o p1 p0 q1 q0 r1 r0 f1 f0 z1 z0 o1 o0 = inl (Pressure (of_bits binary32 w), inl (p1 refl, f1 refl, refl), refl)
    go true q r false z o p1 p0 q1 q0 r1 r0 f1 f0 z1 z0 o1 o0 = inr (none, refl)
      where
        none : (s : Setpoint) → Means k w s → ⊥
        none s (inl a) = omega (arith, f0 refl, a.1)
        none s (inr (inl a)) = omega (arith, p1 refl, a.0)
        none s (inr (inr (inl a))) = omega (arith, p1 refl, a.0)
        none s (inr (inr (inr a))) = omega (arith, p1 refl, a.0)
    go false true r f z o p1 p0 q1 q0 r1 r0 f1 f0 z1 z0 o1 o0 = inl (Speed w, inr (inl (q1 refl, refl)), refl)
    go false false true f true o p1 p0 q1 q0 r1 r0 f1 f0 z1 z0 o1 o0 = inl (Valve false, inr (inr (inl (r1 refl, z1 refl, refl))), refl)
    go false false true f false true p1 p0 q1 q0 r1 r0 f1 f0 z1 z0 o1 o0 = inl (Valve true, inr (inr (inr (r1 refl, o1 refl, refl))), refl)
    go false false true f false false p1 p0 q1 q0 r1 r0 f1 f0 z1 z0 o1 o0 = inr (none, refl)
      where
        none : (s : Setpoint) → Means k w s → ⊥
        none s (inl a) = p0 refl a.0
        none s (inr (inl a)) = q0 refl a.0
        none s (inr (inr (inl a))) = z0 refl a.1
        none s (inr (inr (inr a))) = o0 refl a.1
    go false false false f z o p1 p0 q1 q0 r1 r0 f1 f0 z1 z0 o1 o0 = inr (none, refl)
      where
        none : (s : Setpoint) → Means k w s → ⊥
        none s (inl a) = p0 refl a.0
        none s (inr (inl a)) = q0 refl a.0
        none s (inr (inr (inl a))) = r0 refl a.0
        none s (inr (inr (inr a))) = r0 refl a.0

-- the five bytes from p on are read as a setpoint, or there is none that they mean
pub body_is : (b : List ℕ) (p : ℕ)
    → ((s : Setpoint) × BodyAt b p s × (setting_at b p ≡ Some s)) ⊎ (((s : Setpoint) → BodyAt b p s → ⊥) × (setting_at b p ≡ None))
unfolding setting_at decode_of five_at join_of BodyAt
body_is b p = read_is (get_or b p 0) (get_or b (p + 1) 0 + get_or b (p + 2) 0 * 256 + get_or b (p + 3) 0 * 65536 + get_or b (p + 4) 0 * 16777216)

body_there : (b : List ℕ) (p : ℕ) → is_setting (setting_at b p) ≡ true → (s : Setpoint) × BodyAt b p s
body_there b p e = go (body_is b p)
  where
    go : ((s : Setpoint) × BodyAt b p s × (setting_at b p ≡ Some s)) ⊎ (((s : Setpoint) → BodyAt b p s → ⊥) × (setting_at b p ≡ None))
        → (s : Setpoint) × BodyAt b p s
    go (inl (s, m, f)) = (s, m)
    go (inr (f, g)) = absurd (apart_from (sym (ap is_setting g) ∙ e))

body_back : (b : List ℕ) (p : ℕ) (s : Setpoint) → BodyAt b p s → is_setting (setting_at b p) ≡ true
body_back b p s m = go (body_is b p)
  where
    go : ((s : Setpoint) × BodyAt b p s × (setting_at b p ≡ Some s)) ⊎ (((s : Setpoint) → BodyAt b p s → ⊥) × (setting_at b p ≡ None))
        → is_setting (setting_at b p) ≡ true
    go (inl (r, l, f)) = ap is_setting f
    go (inr (f, g)) = absurd (f s m)

pub finite_decides : (s : Setpoint) → Decides (not (has_body s)) (IsNotFinite s)
unfolding is_finite
finite_decides (Pressure nan) = (λ e. tt, λ e. absurd (apart_from (sym e)))
finite_decides (Pressure (inf s)) = (λ e. tt, λ e. absurd (apart_from (sym e)))
finite_decides (Pressure (fin s m e)) = (λ e. absurd (apart_from e), λ e z. z)
finite_decides (Speed n) = (λ e. absurd (apart_from e), λ e z. z)
finite_decides (Valve b) = (λ e. absurd (apart_from e), λ e z. z)

-- ---- damage

pub undamaged_there : (n : ℕ) (b : List ℕ) → Sound n b → Undamaged n b
undamaged_there n b s =
    record {
      falling = λ slot age l m.
          let top : (4 * slot + age) - (4 * slot + age) % 4 ≡ 4 * slot = omega arith in
          omega (arith, s.falls (4 * slot + age) (omega arith), ap (version_at b) top, version_is b (4 * slot + age), version_is b (4 * slot));
      unused = λ k l z. let u = s.fits.unused k l (version_is b k ∙ z) in (sym (place_is b k) ∙ u.0, sym (length_is b k) ∙ u.1);
      five = λ k l u. sym (length_is b k) ∙ s.fits.five k l (kept b k u);
      behind = λ k l u. omega (arith, place_is b k, s.fits.behind k l (kept b k u));
      within = λ k l u. omega (arith, place_is b k, s.fits.within k l (kept b k u));
      means = λ k l u. rw (← place_is b k) (body_there b (place_at b k) (s.fits.means k l (kept b k u)));
      apart = λ k l hk hl d u v. rw (← place_is b k, ← place_is b l) (s.fits.apart k l hk hl d (kept b k u) (kept b l v));
    }

pub undamaged_back : (n : ℕ) (b : List ℕ) → Undamaged n b → Sound n b
undamaged_back n b u =
    record {
      falls = λ k l.
          let e : 4 * (k / 4) + k % 4 ≡ k = omega arith in
          let top : k - k % 4 ≡ 4 * (k / 4) = omega arith in
          omega (arith, u.falling (k / 4) (k % 4) (omega arith) (omega arith), ap (version_in b) e, ap (version_at b) top, version_is b k, version_is b (4 * (k / 4)));
      fits =
          record {
            unused = λ k l z. let x = u.unused k l (sym (version_is b k) ∙ z) in (place_is b k ∙ x.0, length_is b k ∙ x.1);
            five = λ k l h. length_is b k ∙ u.five k l (used b k h);
            behind = λ k l h. omega (arith, place_is b k, u.behind k l (used b k h));
            within = λ k l h. omega (arith, place_is b k, u.within k l (used b k h));
            means = λ k l h. let x = u.means k l (used b k h) in rw (place_is b k) (body_back b (place_in b k) x.0 x.1);
            apart = λ k l hk hl d x y. rw (place_is b k, place_is b l) (u.apart k l hk hl d (used b k x) (used b l y));
          };
    }

pub damage_decides : (n : ℕ) (b : List ℕ) → Decides (not (is_sound n b)) (Undamaged n b → ⊥)
damage_decides n b = not_decides (is_sound n b) (Undamaged n b) (λ e. undamaged_there n b (sound_is n b e)) (λ u. is_sound_lem n b (undamaged_back n b u))

-- ---- counting

differ_yes : (a b : ℕ) → a ≢ b → differ a b ≡ 1
unfolding differ
differ_yes a b d = omega (arith, d)

differ_no : (a b : ℕ) → a ≡ b → differ a b ≡ 0
unfolding differ
differ_no a b e = omega arith

less_yes : (a b : ℕ) → a < b → less a b ≡ 1
unfolding less
less_yes a b l = omega arith

less_no : (a b : ℕ) → b ≤ a → less a b ≡ 0
unfolding less
less_no a b l = omega arith

sum_counts : (m : ℕ) (f : ℕ → ℕ) (g : ℕ → Bool) → ((k : ℕ) → k < m → (if g k then 1 else 0) ≡ f k) → count m g ≡ sum m f
unfolding count sum
sum_counts zero f g h = refl
sum_counts (suc m) f g h = omega (arith, sum_counts m f g (λ k l. h k (omega arith)), h m (omega arith))

-- after the drop
module _ (n : ℕ) (b : List ℕ) (slot : ℕ) (inside : slot < n) (f : Fits n b) where
  abbrev d : List ℕ
  d = drop_oldest_of b slot

  drops : Dropped n b d slot
  drops = dropped n b slot inside f

  -- a line that stays is kept, with its place
  pub stays_kept : (k : ℕ) → Stays n b slot k → Kept d k
  stays_kept k t = omega (arith, (drops.lines k t.inside t.not_dropped).2, kept b k t.is_used)

  pub stays_place : (k : ℕ) → Stays n b slot k → place_at d k ≡ place_in b k
  stays_place k t = (drops.lines k t.inside t.not_dropped).0 ∙ place_is b k

  pub kept_stays : (k : ℕ) → k < 4 * n → Kept d k → Stays n b slot k
  kept_stays k l h =
      let not_it : k ≢ 4 * slot + 3 = (λ e. omega (arith, drops.gone, ap (version_at d) e)) in
      record { inside = l; is_used = used b k (omega (arith, (drops.lines k l not_it).2)); not_dropped = not_it }

  data Line (k : ℕ) : Type 0 where
    it_stays : Stays n b slot k → is_kept d k ≡ true → stays b slot k ≡ 1 → Line k
    it_goes : is_kept d k ≡ false → stays b slot k ≡ 0 → Line k

  line : (k : ℕ) → k < 4 * n → Line k
  unfolding stays
  line k l = go (ℕ_discrete k (4 * slot + 3)) (ℕ_discrete (version_in b k) 0)
    where
      go : Dec (k ≡ 4 * slot + 3) → Dec (version_in b k ≡ 0) → Line k
      go (yes e) v = it_goes (unkept_is d k (ap (version_at d) e ∙ drops.gone)) (rw (differ_no k (4 * slot + 3) e) (omega arith))
      go (no e) (yes v) =
          it_goes (unkept_is d k ((drops.lines k l e).2 ∙ version_is b k ∙ v)) (rw (differ_no (version_in b k) 0 v) (omega arith))
      go (no e) (no v) =
          let t : Stays n b slot k = record { inside = l; is_used = v; not_dropped = e } in
          it_stays t (kept_is d k (stays_kept k t)) (rw (differ_yes (version_in b k) 0 v, differ_yes k (4 * slot + 3) e))

  -- a count of kept lines is a sum over those that stay
  counted : (g : ℕ → Bool) (h : ℕ → ℕ) → ((k : ℕ) → Stays n b slot k → (if g k then 1 else 0) ≡ h k)
      → count (4 * n) (λ k. is_kept d k && g k) ≡ sum (4 * n) (λ k. stays b slot k * h k)
  counted g h e = sum_counts (4 * n) (λ k. stays b slot k * h k) (λ k. is_kept d k && g k) (λ k l. go k (line k l))
    where
      go : (k : ℕ) → Line k → (if is_kept d k && g k then 1 else 0) ≡ stays b slot k * h k
      go k (it_stays t u v) = rw (u, v) (e k t ∙ one_times (h k))
        where
          one_times : (x : ℕ) → x ≡ 1 * x
          one_times x = omega arith
      go k (it_goes u v) = rw (u, v) (none (h k))
        where
          none : (x : ℕ) → ◌≡◌ {A = ℕ} 0 (0 * x)
          none x = omega arith

  pub staying_is : kept_of n d ≡ staying n b slot
  unfolding kept_of
  staying_is = sum_counts (4 * n) (λ k. stays b slot k) (is_kept d) (λ k l. go k (line k l))
    where
      go : (k : ℕ) → Line k → (if is_kept d k then 1 else 0) ≡ stays b slot k
      go k (it_stays t u v) = rw (u, v)
      go k (it_goes u v) = rw (u, v)

  before_is : (p : ℕ) → rank_of n d p ≡ staying_before n b slot p
  unfolding rank_of
  before_is p = counted (λ k. ltb (place_at d k) p) (λ k. less (place_in b k) p) (λ k t. rw (stays_place k t) (go (place_in b k) (dec_lt (place_in b k) p)))
    where
      go : (x : ℕ) → Dec (x < p) → (if ltb x p then 1 else 0) ≡ less x p
      go x (yes l) = rw (lt-ltb x p l, less_yes x p l)
      go x (no l) = let m : p ≤ x = omega arith in rw (le-ltb x p m, less_no x p m)

  pub slid_is : (k : ℕ) → Stays n b slot k → slid_of n d (place_at d k) ≡ slid n b slot k
  unfolding slid_of
  slid_is k t = rw (stays_place k t) (ap (λ (x : ℕ). 32 * n + 5 * x) (before_is (place_in b k)))

  pub moved_is : moved_of n d ≡ moved n b slot
  unfolding moved_of
  moved_is =
      ap (λ (x : ℕ). 5 * x)
      (counted (λ k. not (eqb (slid_of n d (place_at d k)) (place_at d k))) (λ k. differ (slid n b slot k) (place_in b k))
      (λ k t. rw (slid_is k t, stays_place k t) (go (slid n b slot k) (place_in b k) (ℕ_discrete (slid n b slot k) (place_in b k)))))
    where
      go : (x y : ℕ) → Dec (x ≡ y) → (if not (eqb x y) then 1 else 0) ≡ differ x y
      go x y (yes e) = rw (eq-eqb x y e, differ_no x y e)
      go x y (no e) = rw (ne_eqb x y e, differ_yes x y e)
