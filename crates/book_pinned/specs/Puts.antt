-- A write that is not refused does what `Statement` says: it slides exactly if it must, and leaves these bytes.
use Prim.Native.Nat.{ℕ, zero, suc, ◌+◌, ◌*◌, ◌-◌, ◌≤◌, ◌<◌}
use Rattle.std.specs.Prelude.{◌≡◌, ◌⊎◌, ◌≢◌, Bool, length, get_or, if◌then◌else◌, Ok}
use Rattle.std.proofs.Math.Path.{refl, ap}
use Rattle.std.proofs.Common.{sym, ◌∙◌, arith}
use Rattle.std.proofs.Math.Logic.{inl, inr}
use mathlib.Core.List.{List}
use Rattle.std.proofs.Math.Bool.{true, false}
use Rattle.std.proofs.Math.Decide.{ℕ_discrete, dec_lt}
use borrow.Author.Tests.{ltb-true, ltb-false}
use Rattle.setpoint.specs.declared.Setpoint.{Setpoint}
use Rattle.book_rules.specs.Layout.{lines_of, front_of, place_at, version_at, is_kept}
use Rattle.book_rules.specs.Writing.{most, drop_oldest_of, kept_of, end_of, is_crowded, is_full, slid_of, moved_of, erased_of, place_bytes, compact_of, append_of, put_over_of, put_of}
use Rattle.book_rules.specs.Calls.{written_of}
use Rattle.book_rules.specs.Many.{Beside, most_start, most_each}
use Rattle.book_rules.specs.Sound.{Kept, Apart, Fits}
use Rattle.book_rules.proofs.Sound.{kept_is, is_kept_lem}
use Rattle.book_rules.specs.Dropped.{Dropped}
use Rattle.book_rules.proofs.Dropped.{dropped}
use Rattle.book_rules.proofs.Slid.{front_is, ends_is, laid_byte, laid_else, erased_body, erased_else}
use Rattle.book_rules.specs.declared.BookDone.TheVariants.{Written}
use Rattle.history.specs.Tests.{if_cases}
use Rattle.book_pinned.specs.Statement.{place_in, version_in, newest, Stays, staying, slid, moved, Crowded, BehindAll, InBody, Left, SamePlaces, NewPlaces, Puts}
use Rattle.book_pinned.specs.Plain.{place_is, version_is, kept, used, stays_kept, stays_place, kept_stays, slid_is, staying_is, moved_is}
use Rattle.book_pinned.specs.Bytes.{outside, drop_body, drop_line, drop_stays, drop_behind, compact_long, compact_place, compact_rest, compact_unused, compact_behind, append_line, Before, left_is}

-- the greatest is the first, or one of the others
most_is : (m : ℕ) (f : ℕ → ℕ) (a : ℕ) → (most m f a ≡ a) ⊎ ((k : ℕ) × (k < m) × (most m f a ≡ f k))
unfolding most
most_is zero f a = inl refl
most_is (suc m) f a = go (most_is m f a) (dec_lt (most m f a) (f m))
  where
    go : (most m f a ≡ a) ⊎ ((k : ℕ) × (k < m) × (most m f a ≡ f k)) → Dec (most m f a < f m)
        → (most (suc m) f a ≡ a) ⊎ ((k : ℕ) × (k < suc m) × (most (suc m) f a ≡ f k))
    go r (yes l) = inr (m, omega arith, omega arith)
    go (inl e) (no l) = inl (omega arith)
    go (inr (k, h, e)) (no l) = inr (k, omega arith, omega arith)

module _ (n : ℕ) (b : List ℕ) (slot : ℕ) (inside : slot < n) (f : Fits n b) where
  abbrev d : List ℕ
  d = drop_oldest_of b slot

  drops : Dropped n b d slot
  drops = dropped n b slot inside f

  -- a byte of a used body that does not stay is one of the dropped body
  in_dropped : (j k : ℕ) → k ≡ 4 * slot + 3 → version_in b k ≢ 0 → InBody (place_in b k) j
      → Kept b (4 * slot + 3) × (place_at b (4 * slot + 3) ≤ j) × (j < place_at b (4 * slot + 3) + 5)
  in_dropped j k e u v =
      (omega (arith, kept b k u, ap (version_at b) e), omega (arith, v.0, place_is b k, ap (place_at b) e), omega (arith, v.1, place_is b k, ap (place_at b) e))

  no_dropped : (j : ℕ) → ((k : ℕ) → k < 4 * n → version_in b k ≢ 0 → InBody (place_in b k) j → ⊥) → Kept b (4 * slot + 3) → InBody (place_at b (4 * slot + 3)) j → ⊥
  no_dropped j q h w =
      q (4 * slot + 3) (omega arith) (used b (4 * slot + 3) h) (omega (arith, w.0, place_is b (4 * slot + 3)), omega (arith, w.1, place_is b (4 * slot + 3)))

  still_before : Before n b d slot (place_in b)
  still_before =
      record {
        long = drops.long;
        rest = λ k i l e u v. drop_line n b slot inside f k i l e v;
        unused = λ k i l e z v. drop_line n b slot inside f k i l e (omega arith);
        front = λ k t. omega (arith, place_is b k, f.behind k t.inside (kept b k t.is_used));
        bodies = drop_stays n b slot inside f;
        vacated = λ j l o k h u v. gone j o k h u v (ℕ_discrete k (4 * slot + 3));
        untouched = λ j l o q. drop_behind n b slot inside f j l (no_dropped j q);
      }
    where
      gone : (j : ℕ) → ((k : ℕ) → Stays n b slot k → InBody (place_in b k) j → ⊥) → (k : ℕ) → k < 4 * n → version_in b k ≢ 0 → InBody (place_in b k) j
          → Dec (k ≡ 4 * slot + 3) → ◌≡◌ {A = ℕ} (get_or d j 0) 0
      gone j o k h u v (yes e) = let w = in_dropped j k e u v in drop_body n b slot inside f j w.0 w.1 w.2
      gone j o k h u v (no e) = absurd (o k (record { inside = h; is_used = u; not_dropped = e }) v)

  module _ (room : front_of n + 5 * kept_of n d ≤ length d) where
    abbrev e : List ℕ
    e = compact_of n d

    -- a byte that no slid body covers
    laid_none : (j : ℕ) → 32 * n ≤ j → ((k : ℕ) → Stays n b slot k → InBody (slid n b slot k) j → ⊥) → get_or e j 0 ≡ get_or (erased_of n d) j 0
    laid_none j l o =
        compact_behind n d drops.fits room j l
        ∙ laid_else n d drops.fits room j
        (λ y m q. let t = kept_stays n b slot inside f y m q in
        outside (slid_of n d (place_at d y)) j (λ w. o y t (omega (arith, w.0, slid_is n b slot inside f y t), omega (arith, w.1, slid_is n b slot inside f y t))))

    gone : (j k : ℕ) → k < 4 * n → version_in b k ≢ 0 → InBody (place_in b k) j → Dec (k ≡ 4 * slot + 3) → ◌≡◌ {A = ℕ} (get_or (erased_of n d) j 0) 0
    gone j k h u v (no q) =
        let t : Stays n b slot k = record { inside = h; is_used = u; not_dropped = q } in
        let g : j ≡ place_at d k + (j - place_at d k) = omega (arith, v.0, stays_place n b slot inside f k t) in
        ap (λ (y : ℕ). get_or (erased_of n d) y 0) g
        ∙ erased_body n d drops.fits room k (j - place_at d k) h (stays_kept n b slot inside f k t) (omega (arith, v.0, v.1, stays_place n b slot inside f k t))
    gone j k h u v (yes q) =
        let w = in_dropped j k q u v in
        erased_else n d drops.fits room j
        (λ y m z. let t = kept_stays n b slot inside f y m z in
        beside y (stays_place n b slot inside f y t) (place_is b y) w (f.apart y (4 * slot + 3) m (omega arith) t.not_dropped (kept b y t.is_used) w.0))
        ∙ drop_body n b slot inside f j w.0 w.1 w.2
      where
        beside : (y : ℕ) → place_at d y ≡ place_in b y → place_at b y ≡ place_in b y
            → Kept b (4 * slot + 3) × (place_at b (4 * slot + 3) ≤ j) × (j < place_at b (4 * slot + 3) + 5) → Apart (place_at b y) (place_at b (4 * slot + 3))
            → Beside j (place_at d y) 5
        beside y p q w (inl a) = inr (omega (arith, w.1))
        beside y p q w (inr a) = inl (omega (arith, w.2))

    slid_before : Before n b e slot (slid n b slot)
    slid_before =
        record {
          long = compact_long n d drops.fits room ∙ drops.long;
          rest = λ k i l g u v. compact_rest n d drops.fits room k i l u v ∙ drop_line n b slot inside f k i l g v;
          unused = λ k i l g z v.
              compact_unused n d drops.fits room k i l ((drops.lines k l g).2 ∙ version_is b k ∙ z) (omega arith)
              ∙ drop_line n b slot inside f k i l g (omega arith);
          front = λ k t. omega arith;
          bodies = λ k i t l.
              ap (λ (y : ℕ). get_or e (y + i) 0) (sym (slid_is n b slot inside f k t))
              ∙ compact_behind n d drops.fits room (slid_of n d (place_at d k) + i) (omega (arith, front_is n d drops.fits room k))
              ∙ laid_byte n d drops.fits room k i t.inside (stays_kept n b slot inside f k t) l
              ∙ ap (λ (y : ℕ). get_or d (y + i) 0) (stays_place n b slot inside f k t)
              ∙ drop_stays n b slot inside f k i t l;
          vacated = λ j l o k h u v. laid_none j l o ∙ gone j k h u v (ℕ_discrete k (4 * slot + 3));
          untouched = λ j l o q.
              laid_none j l o
              ∙ erased_else n d drops.fits room j
              (λ y m z. let t = kept_stays n b slot inside f y m z in
              outside (place_at d y) j (λ w. q y m t.is_used (omega (arith, w.0, stays_place n b slot inside f y t), omega (arith, w.1, stays_place n b slot inside f y t))))
              ∙ drop_behind n b slot inside f j l (no_dropped j q);
        }

    slid_places : (k i j : ℕ) → Stays n b slot k → i < 2 → j ≡ 8 * k + i → get_or e j 0 ≡ get_or (place_bytes (slid n b slot k)) i 0
    slid_places k i j t l g =
        compact_place n d drops.fits room k i j t.inside (stays_kept n b slot inside f k t) l g
        ∙ ap (λ (y : ℕ). get_or (place_bytes y) i 0) (slid_is n b slot inside f k t)

    slid_ends : (k : ℕ) → Stays n b slot k → slid n b slot k + 5 ≤ 32 * n + 5 * staying n b slot
    slid_ends k t =
        omega (
          arith,
          slid_is n b slot inside f k t,
          staying_is n b slot inside f,
          ends_is n d drops.fits room k t.inside (stays_kept n b slot inside f k t),
        )

  -- ---- room behind the last body

  abbrev ends : ℕ → ℕ
  ends k = if is_kept d k then place_at d k + 5 else 0

  ends_at : (k : ℕ) → Stays n b slot k → ends k ≡ place_in b k + 5
  ends_at k t = rw (kept_is d k (stays_kept n b slot inside f k t)) (ap (λ (y : ℕ). y + 5) (stays_place n b slot inside f k t))

  -- the end is the contents', or that of a body that stays
  end_is : (end_of n d ≡ 32 * n) ⊎ ((k : ℕ) × Stays n b slot k × (end_of n d ≡ place_in b k + 5))
  unfolding end_of
  end_is = go (most_is (lines_of n) ends (front_of n))
    where
      go : (most (lines_of n) ends (front_of n) ≡ front_of n) ⊎ ((k : ℕ) × (k < lines_of n) × (most (lines_of n) ends (front_of n) ≡ ends k))
          → (most (lines_of n) ends (front_of n) ≡ 32 * n) ⊎ ((k : ℕ) × Stays n b slot k × (most (lines_of n) ends (front_of n) ≡ place_in b k + 5))
      go (inl q) = inl q
      go (inr (k, l, q)) = by (is_kept d k) refl
        where
          by : (t : Bool) → is_kept d k ≡ t
              → (most (lines_of n) ends (front_of n) ≡ 32 * n) ⊎ ((k : ℕ) × Stays n b slot k × (most (lines_of n) ends (front_of n) ≡ place_in b k + 5))
          by true z = let t = kept_stays n b slot inside f k l (is_kept_lem d k z) in inr (k, t, q ∙ ends_at k t)
          by false z =
              let zero_is : ends k ≡ 0 = rw z in
              absurd (omega (arith, most_start (lines_of n) ends (front_of n)))

  end_behind : (k : ℕ) → Stays n b slot k → place_in b k + 5 ≤ end_of n d
  unfolding end_of
  end_behind k t = omega (arith, ends_at k t, most_each (lines_of n) ends (front_of n) k t.inside)

  end_front : 32 * n ≤ end_of n d
  unfolding end_of
  end_front = most_start (lines_of n) ends (front_of n)

  behind_is : BehindAll n b slot (end_of n d)
  behind_is = record { behind = end_behind; right_behind = go end_is }
    where
      go : (end_of n d ≡ 32 * n) ⊎ ((k : ℕ) × Stays n b slot k × (end_of n d ≡ place_in b k + 5))
          → ((k : ℕ) × Stays n b slot k × (end_of n d ≡ place_in b k + 5)) ⊎ (((k : ℕ) → Stays n b slot k → ⊥) × (end_of n d ≡ 32 * n))
      go (inl q) = inr ((λ k t. omega (arith, end_behind k t, place_is b k, f.behind k t.inside (kept b k t.is_used))), q)
      go (inr q) = inl q

  crowded_there : front_of n + 5 * kept_of n d + 5 ≤ length d → is_crowded n d ≡ true → Crowded n b slot
  unfolding is_crowded
  crowded_there room z = go end_is
    where
      go : (end_of n d ≡ 32 * n) ⊎ ((k : ℕ) × Stays n b slot k × (end_of n d ≡ place_in b k + 5)) → Crowded n b slot
      go (inl q) = absurd (omega (arith, ltb-true (length d) (end_of n d + 5) z))
      go (inr (k, t, q)) = (k, t, omega (arith, ltb-true (length d) (end_of n d + 5) z, drops.long))

  crowded_not : is_crowded n d ≡ false → Crowded n b slot → ⊥
  unfolding is_crowded
  crowded_not z (k, t, q) = omega (arith, ltb-false (length d) (end_of n d + 5) z, drops.long, end_behind k t)

  end_fits : is_crowded n d ≡ false → end_of n d + 5 ≤ length d
  unfolding is_crowded
  end_fits z = ltb-false (length d) (end_of n d + 5) z

  -- ---- the write

  module _ (s : Setpoint) (full : is_full n d ≡ false) where
    abbrev v : ℕ
    v = newest b slot + 1

    room_is : front_of n + 5 * kept_of n d + 5 ≤ length d
    unfolding is_full
    room_is = ltb-false (length d) (front_of n + 5 * kept_of n d + 5) full

    room : front_of n + 5 * kept_of n d ≤ length d
    room = omega (arith, room_is)

    abbrev end : ℕ
    end = 32 * n + 5 * staying n b slot

    slid_fit : end + 5 ≤ length (compact_of n d)
    slid_fit = omega (arith, room_is, staying_is n b slot inside f, compact_long n d drops.fits room)

    slid_left : Left n b (append_of (compact_of n d) slot s v end) slot s (slid n b slot) end
    slid_left = left_is n b (compact_of n d) slot s (slid n b slot) end inside (omega arith) slid_fit (slid_before room) (slid_ends room)

    new_places : NewPlaces n b (append_of (compact_of n d) slot s v end) slot (slid n b slot)
    new_places k j t g = (
      ap (λ (y : ℕ). get_or (append_of (compact_of n d) slot s v end) y 0) zeroth ∙ at 0 (8 * k + 0) (omega arith) refl,
      at 1 (8 * k + 1) (omega arith) refl,
    )
      where
        zeroth : 8 * j ≡ 8 * j + 0
        zeroth = omega arith

        at : (i y : ℕ) → i < 2 → y ≡ 8 * k + i → get_or (append_of (compact_of n d) slot s v end) (8 * j + i) 0 ≡ get_or (place_bytes (slid n b slot k)) i 0
        at i y l q =
            append_line n (compact_of n d) slot s v end inside (omega arith) slid_fit k j i t.inside g (omega arith)
            ∙ slid_places room k i (8 * k + i) t l refl

    still_left : is_crowded n d ≡ false → Left n b (append_of d slot s v (end_of n d)) slot s (place_in b) (end_of n d)
    still_left z = left_is n b d slot s (place_in b) (end_of n d) inside end_front (end_fits z) still_before end_behind

    same_places : is_crowded n d ≡ false → SamePlaces n b (append_of d slot s v (end_of n d)) slot
    same_places z k j i t g l =
        append_line n d slot s v (end_of n d) inside end_front (end_fits z) k j i t.inside g (omega arith)
        ∙ drop_line n b slot inside f k i t.inside t.not_dropped (omega arith)

    pub puts_is : Puts n b slot s (written_of v (put_of n b slot s v))
    unfolding put_of put_over_of
    puts_is =
        if_cases (λ (o : ℕ × List ℕ). Puts n b slot s (written_of v o)) (is_crowded n d)
        (λ z. inl (crowded_there room_is z, (append_of (compact_of n d) slot s v end, (slid_left, new_places), told)))
        (λ z. inr (crowded_not z, (end_of n d, behind_is, (append_of d slot s v (end_of n d), (still_left z, same_places z), refl))))
      where
        told : written_of v (moved_of n d, append_of (compact_of n d) slot s v (front_of n + 5 * kept_of n d)) ≡ (Ok (Written v (moved n b slot)), append_of (compact_of n d) slot s v end)
        told =
            ap (λ (y : ℕ). written_of v (y, append_of (compact_of n d) slot s v (front_of n + 5 * kept_of n d))) (moved_is n b slot inside f)
            ∙ ap (λ (y : ℕ). written_of v (moved n b slot, append_of (compact_of n d) slot s v (32 * n + 5 * y))) (staying_is n b slot inside f)
