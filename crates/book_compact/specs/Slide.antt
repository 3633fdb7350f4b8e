-- The slide in one pass, in place. The marks of `Scan` stand in the order of places, so a walk over the cells meets the bodies in that order, and
-- each goes to where the one before ended. That is never behind where it stood, and what lies there has gone already; so it is the slide of
-- `Writing`, which takes all bodies up first.
use Prim.Native.Nat.{ℕ, zero, suc, ◌+◌, ◌*◌, ◌-◌, ◌%◌, ◌≤◌, ◌<◌}
use Rattle.std.proofs.Math.Path.{◌≡◌, refl, sym, ap}
use Rattle.std.proofs.Common.{◌∙◌, inl, inr, ext_get_or, get_or-set_other}
use Rattle.std.specs.Prelude.{◌≢◌, ◌⊎◌, List, ◌++◌, Bool, ◌&&◌, eqb, length, set, replicate, take, drop, if◌then◌else◌}
use Rattle.std.proofs.Math.Bool.{true, false}
use native.Mathlib.Omega.{arith}
use Rattle.std.proofs.Math.Decide.{ℕ_discrete, dec_lt}
use Rattle.std.proofs.Math.Dec.{ltb}
use Rattle.std.proofs.Math.ListN.{get_or, get_or-replicate, length-set}
use Rattle.std.proofs.lemmas.List.Edits.{sets, sets-eq}
use Rattle.std.proofs.lemmas.List.{take-append-drop, length-take-le, length-drop, length-replicate}
use Rattle.std.proofs.lemmas.Slice.{take-put_mid, drop-put_mid}
use borrow.Rule.Slice.PartMut.{put_mid}
use Rattle.std.proofs.Math.Seq.{length-sets, get_or-set_same}
use borrow.Author.Tests.{eqb-true, eqb-false, lt-ltb, le-ltb}
use Rattle.choice.specs.Pick.{and_false}
use Rattle.book_rules.specs.Layout.{five_at, lines_of, front_of, place_at, version_at, is_kept}
use Rattle.book_rules.specs.Stores.{sets_below, sets_above, sets_in}
use Rattle.book_rules.specs.Writing.{count, kept_of, rank_of, slid_of, erased_of, laid_of}
use Rattle.book_rules.specs.Many.{one, count_same, count_none, count_most, Beside, one_true, one_false}
use Rattle.book_rules.specs.Sound.{Kept, Apart, Fits}
use Rattle.book_rules.proofs.Sound.{is_kept_lem, kept_is}
use Rattle.book_rules.proofs.Slid.{rank_few, five_byte, order_is, front_is, laid_long, laid_low, laid_byte, laid_else, erased_body, erased_else}
use Rattle.book_sound.specs.Scan.{cell_of, offset_of, Marked}

-- ---- the walk, as a loop makes it

-- a body from p to q, not behind p: what is vacated becomes zeros
unfoldable pub moved_to : List ℕ → ℕ → ℕ → List ℕ
moved_to d p q = sets (sets d p (replicate 5 0)) q (five_at d p)

-- from cell c on, so many cells; the next body goes to q
unfoldable pub slide_of : ℕ → List ℕ → ℕ → ℕ → ℕ → List ℕ → List ℕ
slide_of n marks zero c q d = d
slide_of n marks (suc left) c q d =
    if eqb (get_or marks (c + 1) 0) 0 then slide_of n marks left (c + 1) q d
    else slide_of n marks left (c + 1) (q + 5) (moved_to d (front_of n + 5 * c + (get_or marks (c + 1) 0 - 1)) q)

-- the rank of each marked body, by its cell: it takes the place of the mark
unfoldable pub ranks_of : List ℕ → ℕ → ℕ → ℕ → List ℕ → List ℕ
ranks_of marks zero c r ranks = ranks
ranks_of marks (suc left) c r ranks =
    if eqb (get_or marks (c + 1) 0) 0 then ranks_of marks left (c + 1) r ranks
    else ranks_of marks left (c + 1) (r + 1) (set ranks (c + 1) (r % 256))

-- both: the book, and the ranks
unfoldable pub walk_of : ℕ → ℕ → List ℕ → List ℕ → List ℕ × List ℕ
walk_of n cells d marks = (slide_of n marks cells 0 (front_of n) d, ranks_of marks cells 0 0 marks)

-- ---- counts that differ at one place

count_more : (m : ℕ) (f g : ℕ → Bool) (i : ℕ) → i < m → f i ≡ false → g i ≡ true → ((k : ℕ) → k < m → k ≢ i → f k ≡ g k) → count m g ≡ count m f + 1
unfolding count
count_more zero f g i l p q h = absurd (omega arith)
count_more (suc m) f g i l p q h = go (ℕ_discrete i m) (λ r. count_more m f g i r p q (λ k u. h k (omega arith)))
  where
    go : Dec (i ≡ m) → (i < m → count m g ≡ count m f + 1) → count m g + one (g m) ≡ count m f + one (f m) + 1
    go (yes e) r =
        omega (
          arith,
          count_same m f g (λ k u. h k (omega arith) (omega arith)),
          one_false (f m) (sym (ap f e) ∙ p),
          one_true (g m) (sym (ap g e) ∙ q),
        )
    go (no e) r = omega (arith, r (omega arith), ap one (h m (omega arith) (λ z. e (sym z))))

-- ---- a byte is beside all runs of five, or in one

find : (m : ℕ) (b : List ℕ) (g : ℕ → ℕ) (j : ℕ)
    → ((k : ℕ) → k < m → Kept b k → Beside j (g k) 5) ⊎ ((k : ℕ) × (k < m) × Kept b k × (g k ≤ j) × (j < g k + 5))
find zero b g j = inl (λ k l. absurd (omega arith))
find (suc m) b g j = go (find m b g j) (dec_lt 0 (version_at b m)) (dec_lt j (g m)) (dec_lt j (g m + 5))
  where
    more : ((k : ℕ) → k < m → Kept b k → Beside j (g k) 5) → (Kept b m → Beside j (g m) 5) → (k : ℕ) → k < suc m → Kept b k → Beside j (g k) 5
    more h o k l q = at (ℕ_discrete k m)
      where
        at : Dec (k ≡ m) → Beside j (g k) 5
        at (yes e) = rw e (o (omega (arith, ap (version_at b) e)))
        at (no e) = h k (omega arith) q

    go : ((k : ℕ) → k < m → Kept b k → Beside j (g k) 5) ⊎ ((k : ℕ) × (k < m) × Kept b k × (g k ≤ j) × (j < g k + 5))
        → Dec (0 < version_at b m) → Dec (j < g m) → Dec (j < g m + 5)
        → ((k : ℕ) → k < suc m → Kept b k → Beside j (g k) 5) ⊎ ((k : ℕ) × (k < suc m) × Kept b k × (g k ≤ j) × (j < g k + 5))
    go (inr t) x y z = inr (t.0, omega (arith, t.1), t.2, t.3, t.4)
    go (inl h) (no x) y z = inl (more h (λ q. absurd (omega arith)))
    go (inl h) (yes x) (yes y) z = inl (more h (λ q. inl y))
    go (inl h) (yes x) (no y) (no z) = inl (more h (λ q. inr (omega arith)))
    go (inl h) (yes x) (no y) (yes z) = inr (m, omega arith, omega arith, omega arith, z)

-- ---- the walk

module _ (n : ℕ) (b : List ℕ) (f : Fits n b) (room : front_of n + 5 * kept_of n b ≤ length b) (cells : ℕ) (size : length b ≤ front_of n + 5 * cells)
    (marks : List ℕ) (w : Marked n b cells (lines_of n) marks) where
  abbrev m : ℕ
  m = lines_of n

  abbrev to : ℕ → ℕ
  to k = slid_of n b (place_at b k)

  -- the bodies before x have slid, those from x on stand where they stood
  record Half (x : ℕ) (d : List ℕ) : Type 0 where
    long : length d ≡ length b
    low : (j : ℕ) → j < front_of n → get_or d j 0 ≡ get_or b j 0
    gone : (k : ℕ) → k < m → Kept b k → place_at b k < x → (i : ℕ) → i < 5 → get_or d (to k + i) 0 ≡ get_or b (place_at b k + i) 0
    still : (k : ℕ) → k < m → Kept b k → x ≤ place_at b k → (i : ℕ) → i < 5 → get_or d (place_at b k + i) 0 ≡ get_or b (place_at b k + i) 0
    rest : (j : ℕ) → front_of n ≤ j → ((k : ℕ) → k < m → Kept b k → place_at b k < x → Beside j (to k) 5)
        → ((k : ℕ) → k < m → Kept b k → x ≤ place_at b k → Beside j (place_at b k) 5) → get_or d j 0 ≡ get_or (erased_of n b) j 0

  begun : Half (front_of n) b
  begun =
      record {
        long = refl;
        low = λ j l. refl;
        gone = λ k h q o. absurd (omega (arith, f.behind k h q));
        still = λ k h q o i l. refl;
        rest = λ j l u v. sym (erased_else n b f room j (λ k h q. v k h q (f.behind k h q)));
      }

  -- no body begins from x to y
  passed : (x y : ℕ) (d : List ℕ) → x ≤ y → ((k : ℕ) → k < m → Kept b k → place_at b k < y → place_at b k < x) → Half x d → Half y d
  passed x y d l none a =
      record {
        long = a.long;
        low = a.low;
        gone = λ k h q o. a.gone k h q (none k h q o);
        still = λ k h q o. a.still k h q (omega arith);
        rest = λ j g u v. a.rest j g (λ k h q o. u k h q (omega arith)) (λ k h q o. later j u v k h q o (dec_lt (place_at b k) y));
      }
    where
      later : (j : ℕ) → ((k : ℕ) → k < m → Kept b k → place_at b k < y → Beside j (to k) 5)
          → ((k : ℕ) → k < m → Kept b k → y ≤ place_at b k → Beside j (place_at b k) 5)
          → (k : ℕ) → k < m → Kept b k → x ≤ place_at b k → Dec (place_at b k < y) → Beside j (place_at b k) 5
      later j u v k h q o (yes e) = absurd (omega (arith, none k h q e))
      later j u v k h q o (no e) = v k h q (omega arith)

  -- just one, that of line a
  module _ (x y : ℕ) (d : List ℕ) (half : Half x d) (a : ℕ) (ha : a < m) (qa : Kept b a) (from : x ≤ place_at b a) (till : place_at b a < y)
      (alone : (k : ℕ) → k < m → Kept b k → k ≢ a → place_at b k < y → place_at b k < x) (down : to a ≤ place_at b a) where
    abbrev p : ℕ
    p = place_at b a

    abbrev q : ℕ
    q = to a

    abbrev e : List ℕ
    e = moved_to d p q

    five_is : length (five_at d p) ≡ 5
    unfolding five_at
    five_is = refl

    p_in : p + 5 ≤ length d
    p_in = omega (arith, half.long, f.within a ha qa)

    long_is : length e ≡ length d
    unfolding moved_to
    long_is = length-sets (sets d p (replicate 5 0)) q (five_at d p) ∙ length-sets d p (replicate 5 0)

    at_new : (i : ℕ) → i < 5 → get_or e (q + i) 0 ≡ get_or b (p + i) 0
    unfolding moved_to
    at_new i l =
        sets_in (five_at d p) (sets d p (replicate 5 0)) q i (q + i) refl (omega (arith, five_is))
        (omega (arith, five_is, length-sets d p (replicate 5 0), p_in))
        ∙ five_byte d p i l
        ∙ half.still a ha qa from i l

    at_else : (j : ℕ) → Beside j q 5 → Beside j p 5 → get_or e j 0 ≡ get_or d j 0
    unfolding moved_to
    at_else j u v = first u ∙ second v
      where
        first : Beside j q 5 → get_or (sets (sets d p (replicate 5 0)) q (five_at d p)) j 0 ≡ get_or (sets d p (replicate 5 0)) j 0
        first (inl o) = sets_below (five_at d p) (sets d p (replicate 5 0)) q j o
        first (inr o) = sets_above (five_at d p) (sets d p (replicate 5 0)) q j (omega (arith, five_is))

        second : Beside j p 5 → get_or (sets d p (replicate 5 0)) j 0 ≡ get_or d j 0
        second (inl o) = sets_below (replicate 5 0) d p j o
        second (inr o) = sets_above (replicate 5 0) d p j o

    at_old : (j : ℕ) → Beside j q 5 → p ≤ j → j < p + 5 → ◌≡◌ {A = ℕ} (get_or e j 0) 0
    unfolding moved_to
    at_old j u v z =
        first u
        ∙ sets_in (replicate 5 0) d p (j - p) j (omega arith) (omega arith) p_in
        ∙ get_or-replicate 5 (j - p) 0 0 (omega arith)
      where
        first : Beside j q 5 → get_or (sets (sets d p (replicate 5 0)) q (five_at d p)) j 0 ≡ get_or (sets d p (replicate 5 0)) j 0
        first (inl o) = sets_below (five_at d p) (sets d p (replicate 5 0)) q j o
        first (inr o) = sets_above (five_at d p) (sets d p (replicate 5 0)) q j (omega (arith, five_is))

    stepped : Half y e
    stepped =
        record {
          long = long_is ∙ half.long;
          low = λ j l. at_else j (inl (omega (arith, front_is n b f room a))) (inl (omega (arith, front_is n b f room a))) ∙ half.low j l;
          gone = λ k h u o i l. slid_at k h u o i l (ℕ_discrete k a);
          still = λ k h u o i l. stays k h u o i l (f.apart k a h ha (other k o) u qa);
          rest = λ j g u v. free j g u v (dec_lt j p) (dec_lt j (p + 5));
        }
      where
        other : (k : ℕ) → y ≤ place_at b k → k ≢ a
        other k o z = omega (arith, ap (place_at b) z)

        slid_at : (k : ℕ) → k < m → Kept b k → place_at b k < y → (i : ℕ) → i < 5 → Dec (k ≡ a) → get_or e (to k + i) 0 ≡ get_or b (place_at b k + i) 0
        slid_at k h u o i l (yes z) = rw z (at_new i l)
        slid_at k h u o i l (no z) =
            let before = alone k h u z o in
            let under = order_is n b f room k a h u (omega arith) in
            at_else (to k + i) (inl (omega arith)) (inl (omega arith)) ∙ half.gone k h u before i l

        stays : (k : ℕ) → k < m → Kept b k → y ≤ place_at b k → (i : ℕ) → i < 5 → Apart (place_at b k) p → get_or e (place_at b k + i) 0 ≡ get_or b (place_at b k + i) 0
        stays k h u o i l (inl z) = absurd (omega arith)
        stays k h u o i l (inr z) = at_else (place_at b k + i) (inr (omega arith)) (inr (omega arith)) ∙ half.still k h u (omega arith) i l

        free : (j : ℕ) → front_of n ≤ j → ((k : ℕ) → k < m → Kept b k → place_at b k < y → Beside j (to k) 5)
            → ((k : ℕ) → k < m → Kept b k → y ≤ place_at b k → Beside j (place_at b k) 5)
            → Dec (j < p) → Dec (j < p + 5) → get_or e j 0 ≡ get_or (erased_of n b) j 0
        free j g u v x1 x2 = go x1 x2
          where
            beside : Beside j p 5 → get_or e j 0 ≡ get_or (erased_of n b) j 0
            beside o =
                at_else j (u a ha qa till) o
                ∙ half.rest j g (λ k h z s. u k h z (omega arith)) (λ k h z s. later k h z s (ℕ_discrete k a) (dec_lt (place_at b k) y))
              where
                later : (k : ℕ) → k < m → Kept b k → x ≤ place_at b k → Dec (k ≡ a) → Dec (place_at b k < y) → Beside j (place_at b k) 5
                later k h z s (yes t) r = rw t o
                later k h z s (no t) (yes r) = absurd (omega (arith, alone k h z t r))
                later k h z s (no t) (no r) = v k h z (omega arith)

            go : Dec (j < p) → Dec (j < p + 5) → get_or e j 0 ≡ get_or (erased_of n b) j 0
            go (yes o) z = beside (inl o)
            go (no o) (no z) = beside (inr (omega arith))
            go (no o) (yes z) =
                let i : p + (j - p) ≡ j = omega arith in
                at_old j (u a ha qa till) (omega arith) z
                ∙ sym (erased_body n b f room a (j - p) ha qa (omega arith))
                ∙ ap (λ (t : ℕ). get_or (erased_of n b) t 0) i

  -- all have slid
  ended : (x : ℕ) (d : List ℕ) → ((k : ℕ) → k < m → Kept b k → place_at b k < x) → Half x d → d ≡ laid_of n b
  ended x d before half = ext_get_or 0 d (laid_of n b) (half.long ∙ sym (laid_long n b f room)) (λ j l. at j (dec_lt j (front_of n)) (find m b to j))
    where
      at : (j : ℕ) → Dec (j < front_of n) → ((k : ℕ) → k < m → Kept b k → Beside j (to k) 5) ⊎ ((k : ℕ) × (k < m) × Kept b k × (to k ≤ j) × (j < to k + 5))
          → get_or d j 0 ≡ get_or (laid_of n b) j 0
      at j (yes l) t = half.low j l ∙ sym (laid_low n b f room j l)
      at j (no l) (inl o) =
          half.rest j (omega arith) (λ k h q u. o k h q) (λ k h q u. absurd (omega (arith, before k h q))) ∙ sym (laid_else n b f room j o)
      at j (no l) (inr t) =
          let i : to t.0 + (j - to t.0) ≡ j = omega (arith, t.3) in
          ap (λ (x : ℕ). get_or d x 0) (sym i)
          ∙ half.gone t.0 t.1 t.2 (before t.0 t.1 t.2) (j - to t.0) (omega (arith, t.3, t.4))
          ∙ sym (laid_byte n b f room t.0 (j - to t.0) t.1 t.2 (omega (arith, t.3, t.4)))
          ∙ ap (λ (x : ℕ). get_or (laid_of n b) x 0) i

  -- ---- ranks, cell by cell

  kept_below : (k x : ℕ) → Kept b k → place_at b k < x → (is_kept b k && ltb (place_at b k) x) ≡ true
  kept_below k x q l = rw (kept_is b k q, lt-ltb (place_at b k) x l)

  kept_above : (k x : ℕ) → x ≤ place_at b k → (is_kept b k && ltb (place_at b k) x) ≡ false
  kept_above k x l = rw (le-ltb (place_at b k) x l) (and_false (is_kept b k))

  -- a line for which x and y make no difference
  alike : (k x y : ℕ) → x ≤ y → (Kept b k → place_at b k < y → place_at b k < x) → (is_kept b k && ltb (place_at b k) x) ≡ (is_kept b k && ltb (place_at b k) y)
  alike k x y l h = go (is_kept b k) (is_kept_lem b k) (dec_lt (place_at b k) x) (dec_lt (place_at b k) y)
    where
      go : (t : Bool) → (t ≡ true → Kept b k) → Dec (place_at b k < x) → Dec (place_at b k < y) → (t && ltb (place_at b k) x) ≡ (t && ltb (place_at b k) y)
      go false g u v = refl
      go true g (yes u) v = rw (lt-ltb (place_at b k) x u, lt-ltb (place_at b k) y (omega arith))
      go true g (no u) (yes v) = absurd (u (h (g refl) v))
      go true g (no u) (no v) = rw (le-ltb (place_at b k) x (omega arith), le-ltb (place_at b k) y (omega arith))

  rank_same : (x y : ℕ) → x ≤ y → ((k : ℕ) → k < m → Kept b k → place_at b k < y → place_at b k < x) → slid_of n b x ≡ slid_of n b y
  unfolding slid_of rank_of
  rank_same x y l h =
      ap (λ (r : ℕ). front_of n + 5 * r) (count_same m (λ k. is_kept b k && ltb (place_at b k) x) (λ k. is_kept b k && ltb (place_at b k) y) (λ k u. alike k x y l (h k u)))

  rank_more : (x y a : ℕ) → x ≤ y → a < m → Kept b a → x ≤ place_at b a → place_at b a < y
      → ((k : ℕ) → k < m → Kept b k → k ≢ a → place_at b k < y → place_at b k < x) → slid_of n b y ≡ slid_of n b x + 5
  unfolding slid_of rank_of
  rank_more x y a l ha qa from till alone =
      omega (
        arith,
        count_more m (λ k. is_kept b k && ltb (place_at b k) x) (λ k. is_kept b k && ltb (place_at b k) y) a ha (kept_above a x from) (kept_below a y qa till)
            (λ k u d. alike k x y l (λ q. alone k u q d)),
      )

  -- ---- a cell, by its mark

  -- in a cell without a mark no body begins
  empty : (c : ℕ) → ◌≡◌ {A = ℕ} (get_or marks (c + 1) 0) 0 → (k : ℕ) → k < m → Kept b k → place_at b k < front_of n + 5 * (c + 1) → place_at b k < front_of n + 5 * c
  empty c z k h u o = at (ℕ_discrete (cell_of n (place_at b k)) c)
    where
      at : Dec (cell_of n (place_at b k) ≡ c) → place_at b k < front_of n + 5 * c
      at (yes t) = absurd (omega (arith, z, w.marks_each k h u, ap (λ (i : ℕ). get_or marks (i + 1) 0) t))
      at (no t) = omega (arith, f.behind k h u)

  -- in one with a mark one begins, that of line a, and no other
  record Begins (c a : ℕ) : Type 0 where
    line : a < m
    kept : Kept b a
    here : front_of n + 5 * c + (get_or marks (c + 1) 0 - 1) ≡ place_at b a
    from : front_of n + 5 * c ≤ place_at b a
    till : place_at b a < front_of n + 5 * (c + 1)
    alone : (k : ℕ) → k < m → Kept b k → k ≢ a → place_at b k < front_of n + 5 * (c + 1) → place_at b k < front_of n + 5 * c

  begins : (c : ℕ) → get_or marks (c + 1) 0 ≢ 0 → (a : ℕ) × Begins c a
  begins c d = let t = w.means (c + 1) d in go t.0 t.1 t.2 t.3 t.4
    where
      go : (a : ℕ) → a < m → Kept b a → c + 1 ≡ cell_of n (place_at b a) + 1 → get_or marks (c + 1) 0 ≡ offset_of n (place_at b a) + 1 → (a : ℕ) × Begins c a
      go a ha qa cell off = (
        a,
        record {
          line = ha;
          kept = qa;
          here = omega (arith, f.behind a ha qa);
          from = omega (arith, f.behind a ha qa);
          till = omega (arith, f.behind a ha qa);
          alone = λ k h u v o. at k h u o (f.apart k a h ha v u qa);
        },
      )
        where
          at : (k : ℕ) → k < m → Kept b k → place_at b k < front_of n + 5 * (c + 1) → Apart (place_at b k) (place_at b a) → place_at b k < front_of n + 5 * c
          at k h u o (inl y) = omega (arith, f.behind a ha qa, f.behind k h u)
          at k h u o (inr y) = omega (arith, f.behind a ha qa, f.behind k h u)

  -- where its body slides to, and the next one
  module _ (c q : ℕ) (g : q ≡ slid_of n b (front_of n + 5 * c)) where
    next_empty : ◌≡◌ {A = ℕ} (get_or marks (c + 1) 0) 0 → q ≡ slid_of n b (front_of n + 5 * (c + 1))
    next_empty z = g ∙ rank_same (front_of n + 5 * c) (front_of n + 5 * (c + 1)) (omega arith) (empty c z)

    next_full : (a : ℕ) → Begins c a → q + 5 ≡ slid_of n b (front_of n + 5 * (c + 1))
    next_full a t =
        omega (arith, g, rank_more (front_of n + 5 * c) (front_of n + 5 * (c + 1)) a (omega arith) t.line t.kept t.from t.till t.alone)

    slides_to : (a : ℕ) → Begins c a → q ≡ slid_of n b (place_at b a)
    slides_to a t =
        g ∙ rank_same (front_of n + 5 * c) (place_at b a) t.from
        (λ k h u o. t.alone k h u (λ z. omega (arith, ap (place_at b) z)) (omega (arith, t.till)))

  -- ---- the loop

  walked : (left c q : ℕ) (d : List ℕ) → c + left ≡ cells → q ≡ slid_of n b (front_of n + 5 * c) → q ≤ front_of n + 5 * c → Half (front_of n + 5 * c) d
      → slide_of n marks left c q d ≡ laid_of n b
  unfolding slide_of
  walked zero c q d e g l half = ended (front_of n + 5 * c) d (λ k h u. omega (arith, f.within k h u)) half
  walked (suc left) c q d e g l half = go (eqb (get_or marks (c + 1) 0) 0) (eqb-true (get_or marks (c + 1) 0) 0) (eqb-false (get_or marks (c + 1) 0) 0)
      (λ z i. walked left (c + 1) q d (omega arith) z (omega arith) i)
      (λ p z u i. walked left (c + 1) (q + 5) (moved_to d p q) (omega arith) z u i)
    where
      go : (t : Bool) → (t ≡ true → ◌≡◌ {A = ℕ} (get_or marks (c + 1) 0) 0) → (t ≡ false → ◌≡◌ {A = ℕ} (get_or marks (c + 1) 0) 0 → ⊥)
          → (q ≡ slid_of n b (front_of n + 5 * (c + 1)) → Half (front_of n + 5 * (c + 1)) d → slide_of n marks left (c + 1) q d ≡ laid_of n b)
          → ((p : ℕ) → q + 5 ≡ slid_of n b (front_of n + 5 * (c + 1)) → q + 5 ≤ front_of n + 5 * (c + 1) → Half (front_of n + 5 * (c + 1)) (moved_to d p q)
          → slide_of n marks left (c + 1) (q + 5) (moved_to d p q) ≡ laid_of n b)
          → (if t then slide_of n marks left (c + 1) q d
          else slide_of n marks left (c + 1) (q + 5) (moved_to d (front_of n + 5 * c + (get_or marks (c + 1) 0 - 1)) q)) ≡ laid_of n b
      go true z z0 r s =
          r (next_empty c q g (z refl)) (passed (front_of n + 5 * c) (front_of n + 5 * (c + 1)) d (omega arith) (empty c (z refl)) half)
      go false z z0 r s = let t = begins c (z0 refl) in move t.0 t.1
        where
          move : (a : ℕ) → Begins c a
              → slide_of n marks left (c + 1) (q + 5) (moved_to d (front_of n + 5 * c + (get_or marks (c + 1) 0 - 1)) q) ≡ laid_of n b
          move a t =
              let same = slides_to c q g a t in
              rw t.here (
              s (place_at b a) (next_full c q g a t) (omega arith)
              (rw same (stepped (front_of n + 5 * c) (front_of n + 5 * (c + 1)) d half a t.line t.kept t.from t.till t.alone (omega (arith, same, t.from)))))

  -- ---- the rank of each body, by its cell

  -- it fits a byte
  rank_small : (r a : ℕ) → n ≤ 64 → a < m → Kept b a → front_of n + 5 * r ≡ slid_of n b (place_at b a) → r % 256 ≡ r
  unfolding slid_of kept_of
  rank_small r a few h q e = omega (arith, e, rank_few n b a h q, count_most m (is_kept b))

  abbrev Ranked : ℕ → List ℕ → Type 0
  Ranked c ranks = (k : ℕ) → k < m → Kept b k → place_at b k < front_of n + 5 * c → front_of n + 5 * get_or ranks (cell_of n (place_at b k) + 1) 0 ≡ to k

  module _ (few : n ≤ 64) where
    ranked_from : (left c r : ℕ) (ranks : List ℕ) → c + left ≡ cells → cells + 2 ≤ length ranks → front_of n + 5 * r ≡ slid_of n b (front_of n + 5 * c) → Ranked c ranks
        → Ranked cells (ranks_of marks left c r ranks)
    unfolding ranks_of
    ranked_from zero c r ranks e l g p = let d : c ≡ cells = omega arith in rw (← d) p
    ranked_from (suc left) c r ranks e l g p = go (eqb (get_or marks (c + 1) 0) 0) (eqb-true (get_or marks (c + 1) 0) 0) (eqb-false (get_or marks (c + 1) 0) 0)
        (λ z i. ranked_from left (c + 1) r ranks (omega arith) l z i)
        (λ z i. ranked_from left (c + 1) (r + 1) (set ranks (c + 1) (r % 256)) (omega arith) (omega (arith, length-set ranks (c + 1) (r % 256))) z i)
      where
        go : (t : Bool) → (t ≡ true → ◌≡◌ {A = ℕ} (get_or marks (c + 1) 0) 0) → (t ≡ false → ◌≡◌ {A = ℕ} (get_or marks (c + 1) 0) 0 → ⊥)
            → (front_of n + 5 * r ≡ slid_of n b (front_of n + 5 * (c + 1)) → Ranked (c + 1) ranks → Ranked cells (ranks_of marks left (c + 1) r ranks))
            → (front_of n + 5 * (r + 1) ≡ slid_of n b (front_of n + 5 * (c + 1)) → Ranked (c + 1) (set ranks (c + 1) (r % 256))
            → Ranked cells (ranks_of marks left (c + 1) (r + 1) (set ranks (c + 1) (r % 256))))
            → Ranked cells (if t then ranks_of marks left (c + 1) r ranks else ranks_of marks left (c + 1) (r + 1) (set ranks (c + 1) (r % 256)))
        go true z z0 y s = y (next_empty c (front_of n + 5 * r) g (z refl)) (λ k h u o. p k h u (empty c (z refl) k h u o))
        go false z z0 y s =
            let t = begins c (z0 refl) in
            s (omega (arith, next_full c (front_of n + 5 * r) g t.0 t.1)) (λ k h u o. at t.0 t.1 k h u o (ℕ_discrete k t.0))
          where
            at : (a : ℕ) → Begins c a → (k : ℕ) → k < m → Kept b k → place_at b k < front_of n + 5 * (c + 1) → Dec (k ≡ a)
                → front_of n + 5 * get_or (set ranks (c + 1) (r % 256)) (cell_of n (place_at b k) + 1) 0 ≡ to k
            at a t k h u o (yes d) =
                let x : place_at b k ≡ place_at b a = ap (place_at b) d in
                let i : cell_of n (place_at b k) + 1 ≡ c + 1 = omega (arith, t.from, t.till) in
                let is = slides_to c (front_of n + 5 * r) g a t in
                let small = rank_small r a few t.line t.kept is in
                rw (i, get_or-set_same ranks (c + 1) (r % 256) 0 (omega arith), small) (is ∙ sym (ap (slid_of n b) x))
            at a t k h u o (no d) =
                let x : place_at b k < front_of n + 5 * c = t.alone k h u d o in
                rw (get_or-set_other ranks (c + 1) (cell_of n (place_at b k) + 1) (r % 256) 0 (omega (arith, f.behind k h u))) (p k h u x)

  first_rank : slid_of n b (front_of n + 5 * 0) ≡ front_of n
  unfolding slid_of rank_of
  first_rank =
      omega (
        arith,
        count_none m (λ k. is_kept b k && ltb (place_at b k) (front_of n + 5 * 0)) (λ k h. none k h (is_kept b k) (is_kept_lem b k)),
      )
    where
      none : (k : ℕ) → k < m → (t : Bool) → (t ≡ true → Kept b k) → (t && ltb (place_at b k) (front_of n + 5 * 0)) ≡ false
      none k h true g = le-ltb (place_at b k) (front_of n + 5 * 0) (omega (arith, f.behind k h (g refl)))
      none k h false g = refl

  -- the walk over all cells
  pub slide_is : slide_of n marks cells 0 (front_of n) b ≡ laid_of n b
  slide_is =
      let e : front_of n + 5 * 0 ≡ front_of n = omega arith in
      walked cells 0 (front_of n) b (omega arith) (sym first_rank) (omega arith) (rw e begun)

  pub ranks_are : n ≤ 64 → (ranks : List ℕ) → cells + 2 ≤ length ranks → Ranked cells (ranks_of marks cells 0 0 ranks)
  ranks_are few ranks l =
      ranked_from few cells 0 0 ranks (omega arith) l (omega (arith, first_rank)) (λ k h u o. absurd (omega (arith, f.behind k h u)))

-- ---- for a loop: what keeps it inside the book; one turn, and the end

-- each marked body lies in a book of that size
abbrev pub Within : ℕ → List ℕ → ℕ → ℕ → Type 0
Within n marks cells size = (c : ℕ) → c < cells → get_or marks (c + 1) 0 ≢ 0 → front_of n + 5 * c + get_or marks (c + 1) 0 + 4 ≤ size

pub marks_within : (n : ℕ) (b : List ℕ) (cells : ℕ) (marks : List ℕ) → Fits n b → Marked n b cells (lines_of n) marks → Within n marks cells (length b)
marks_within n b cells marks f w c l d =
    let t = w.means (c + 1) d in
    omega (arith, t.3, t.4, f.behind t.0 t.1 t.2, f.within t.0 t.1 t.2)

pub slide_turn : (n : ℕ) (marks : List ℕ) (cells c q : ℕ) (d : List ℕ) → c < cells
    → slide_of n marks (cells - c) c q d
    ≡ (if eqb (get_or marks (c + 1) 0) 0 then slide_of n marks (cells - (c + 1)) (c + 1) q d
    else slide_of n marks (cells - (c + 1)) (c + 1) (q + 5) (moved_to d (front_of n + 5 * c + (get_or marks (c + 1) 0 - 1)) q))
unfolding slide_of
slide_turn n marks cells c q d l = let e : cells - c ≡ suc (cells - (c + 1)) = omega arith in rw e

pub slide_end : (n : ℕ) (marks : List ℕ) (cells c q : ℕ) (d : List ℕ) → cells ≤ c → slide_of n marks (cells - c) c q d ≡ d
unfolding slide_of
slide_end n marks cells c q d l = let e : cells - c ≡ 0 = omega arith in rw e

pub ranks_turn : (marks : List ℕ) (cells c r : ℕ) (ranks : List ℕ) → c < cells
    → ranks_of marks (cells - c) c r ranks
    ≡ (if eqb (get_or marks (c + 1) 0) 0 then ranks_of marks (cells - (c + 1)) (c + 1) r ranks
    else ranks_of marks (cells - (c + 1)) (c + 1) (r + 1) (set ranks (c + 1) (r % 256)))
unfolding ranks_of
ranks_turn marks cells c r ranks l = let e : cells - c ≡ suc (cells - (c + 1)) = omega arith in rw e

pub ranks_end : (marks : List ℕ) (cells c r : ℕ) (ranks : List ℕ) → cells ≤ c → ranks_of marks (cells - c) c r ranks ≡ ranks
unfolding ranks_of
ranks_end marks cells c r ranks l = let e : cells - c ≡ 0 = omega arith in rw e

-- ---- a write to a part of a slice, as stores: bytes copied to it; zeros

pub part_copied : (b ys vs : List ℕ) (at n k : ℕ) → ys ≡ vs → length vs ≡ n → k ≡ n → at + n ≤ length b → put_mid at k b ys ≡ sets b at vs
part_copied b ys vs at n k same size part room =
    let till = at + length vs in
    let made = put_mid at n b vs in
    let front : take till made ≡ take at b ++ vs = take-put_mid at n b vs till refl (omega arith) in
    let rest : drop till made ≡ drop till b = drop-put_mid at n b vs till (omega arith) (omega arith) size in
    let whole : take till made ++ drop till made ≡ made = take-append-drop till made in
    rw (part, same) (sym (rw (front, rest) at whole) ∙ sym (sets-eq vs b at (omega arith)))

pub part_filled : (b ys : List ℕ) (at n k : ℕ) → ys ≡ replicate (length (take k (drop at b))) 0 → k ≡ n → at + n ≤ length b
    → put_mid at k b ys ≡ sets b at (replicate n 0)
part_filled b ys at n k zeros part room =
    let size : length (take k (drop at b)) ≡ n = length-take-le k (drop at b) (omega (arith, length-drop at b)) ∙ part in
    part_copied b ys (replicate n 0) at n k (zeros ∙ ap (λ (m : ℕ). replicate m 0) size) (length-replicate n 0) part room
