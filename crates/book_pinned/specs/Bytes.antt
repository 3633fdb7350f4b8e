-- A done write, byte by byte: what the drop leaves, what a slide leaves, what the append leaves; together they are `Left`.
use Prim.Native.Nat.{ℕ, zero, suc, ◌+◌, ◌*◌, ◌-◌, ◌≤◌, ◌<◌}
use Rattle.std.specs.Prelude.{◌≡◌, ◌≢◌, Bool, replicate, if◌then◌else◌}
use Rattle.std.proofs.Math.Path.{refl, ap}
use Rattle.std.proofs.Common.{◌∙◌}
use Rattle.std.proofs.Math.Logic.{inl, inr}
use mathlib.Core.List.{List, []}
use Rattle.std.proofs.Math.Bool.{true, false}
use native.Mathlib.Omega.{arith}
use Rattle.std.proofs.Math.Decide.{ℕ_discrete, dec_lt}
use Rattle.std.proofs.Math.ListN.{length, get_or, get_or-replicate}
use Rattle.std.proofs.Math.Seq.{sets, length-sets}
use Rattle.setpoint.specs.Codec.{bytes_of, body_of}
use Rattle.setpoint.specs.declared.Setpoint.{Setpoint}
use Rattle.book_rules.specs.Layout.{line_at, lines_of, front_of, place_at, version_at, is_kept, line_of}
use Rattle.book_rules.specs.Writing.{drop_oldest_of, kept_of, slid_of, laid_of, place_bytes, compact_of, shifted_of, append_of}
use Rattle.book_rules.specs.Stores.{sets_below, sets_above, sets_in}
use Rattle.book_pinned.specs.Same.{each_of_eight}
use Rattle.book_rules.specs.Many.{Beside, length_many, many_outside, many_inside}
use Rattle.book_rules.specs.Sound.{Kept, Apart, Fits}
use Rattle.book_rules.proofs.Sound.{kept_is, is_kept_lem}
use Rattle.book_rules.proofs.Slid.{laid_long, laid_low}
use Rattle.book_rules.proofs.Appended.{shifted_long, body_long}
use Rattle.book_pinned.specs.Statement.{place_in, version_in, newest, Stays, Goes, InBody, Left}
use Rattle.book_pinned.specs.Same.{not_oldest}
use Rattle.book_pinned.specs.Plain.{place_is, kept}

beside_run : (xs b : List ℕ) (p j : ℕ) → Beside j p (length xs) → get_or (sets b p xs) j 0 ≡ get_or b j 0
beside_run xs b p j (inl q) = sets_below xs b p j q
beside_run xs b p j (inr q) = sets_above xs b p j q

pub outside : (p j : ℕ) → (InBody p j → ⊥) → Beside j p 5
outside p j f = go (dec_lt j p) (dec_lt j (p + 5))
  where
    go : Dec (j < p) → Dec (j < p + 5) → Beside j p 5
    go (yes u) v = inl u
    go (no u) (yes v) = absurd (f (omega arith, v))
    go (no u) (no v) = inr (omega arith)

-- ---- the drop

module _ (n : ℕ) (b : List ℕ) (slot : ℕ) (inside : slot < n) (f : Fits n b) where
  abbrev x : ℕ
  x = 4 * slot + 3

  drop_else : (j : ℕ) → Beside j (8 * x) 8 → (Kept b x → Beside j (place_at b x) 5) → get_or (drop_oldest_of b slot) j 0 ≡ get_or b j 0
  unfolding drop_oldest_of
  drop_else j u v = go (is_kept b x) (is_kept_lem b x)
    where
      go : (t : Bool) → (t ≡ true → Kept b x)
          → get_or (if t then sets (sets b (place_at b x) (replicate 5 0)) (8 * x) (replicate 8 0) else b) j 0 ≡ get_or b j 0
      go true h =
          beside_run (replicate 8 0) (sets b (place_at b x) (replicate 5 0)) (8 * x) j u ∙ beside_run (replicate 5 0) b (place_at b x) j (v (h refl))
      go false h = refl

  pub drop_body : (j : ℕ) → Kept b x → place_at b x ≤ j → j < place_at b x + 5 → ◌≡◌ {A = ℕ} (get_or (drop_oldest_of b slot) j 0) 0
  unfolding drop_oldest_of
  drop_body j h u v =
      rw (kept_is b x h)
      (sets_above (replicate 8 0) (sets b (place_at b x) (replicate 5 0)) (8 * x) j (omega (arith, f.behind x (omega arith) h))
      ∙ sets_in (replicate 5 0) b (place_at b x) (j - place_at b x) j (omega arith) (omega arith) (f.within x (omega arith) h)
      ∙ get_or-replicate 5 (j - place_at b x) 0 0 (omega arith))

  -- a line that is not dropped
  pub drop_line : (k i : ℕ) → k < 4 * n → k ≢ x → i < 8 → get_or (drop_oldest_of b slot) (8 * k + i) 0 ≡ get_or b (8 * k + i) 0
  drop_line k i l e m = drop_else (8 * k + i) (there (dec_lt k x)) (λ h. inl (omega (arith, f.behind x (omega arith) h)))
    where
      there : Dec (k < x) → Beside (8 * k + i) (8 * x) 8
      there (yes q) = inl (omega arith)
      there (no q) = inr (omega arith)

  -- a body that stays
  pub drop_stays : (k i : ℕ) → Stays n b slot k → i < 5 → get_or (drop_oldest_of b slot) (place_in b k + i) 0 ≡ get_or b (place_in b k + i) 0
  drop_stays k i t m =
      let h = kept b k t.is_used in
      drop_else (place_in b k + i) (inr (omega (arith, place_is b k, f.behind k t.inside h)))
      (λ z. there (place_is b k) (f.apart k x t.inside (omega arith) t.not_dropped h z))
    where
      there : place_at b k ≡ place_in b k → Apart (place_at b k) (place_at b x) → Beside (place_in b k + i) (place_at b x) 5
      there e (inl q) = inl (omega arith)
      there e (inr q) = inr (omega arith)

  -- behind the lines
  pub drop_behind : (j : ℕ) → front_of n ≤ j → (Kept b x → InBody (place_at b x) j → ⊥) → get_or (drop_oldest_of b slot) j 0 ≡ get_or b j 0
  drop_behind j l o = drop_else j (inr (omega arith)) (λ h. outside (place_at b x) j (o h))

-- ---- the slide, of a book d

module _ (n : ℕ) (d : List ℕ) (f : Fits n d) (room : front_of n + 5 * kept_of n d ≤ length d) where
  abbrev to : ℕ → ℕ
  to k = slid_of n d (place_at d k)

  pub compact_long : length (compact_of n d) ≡ length d
  unfolding compact_of
  compact_long = length_many (lines_of n) (λ k. 8 * k) (λ k. if is_kept d k then place_bytes (to k) else []) (laid_of n d) ∙ laid_long n d f room

  run : (j k q : ℕ) (t : Bool) → (t ≡ true → Beside j (8 * k) 2) → 1 ≤ length (if t then place_bytes q else [])
      → Beside j (8 * k) (length (if t then place_bytes q else []))
  run j k q true h l = h refl
  run j k q false h l = absurd (omega arith)

  compact_else : (j : ℕ) → ((k : ℕ) → k < lines_of n → Kept d k → Beside j (8 * k) 2) → get_or (compact_of n d) j 0 ≡ get_or (laid_of n d) j 0
  unfolding compact_of
  compact_else j o =
      many_outside (lines_of n) (λ k. 8 * k) (λ k. if is_kept d k then place_bytes (to k) else []) (laid_of n d) j
      (λ k l s. run j k (to k) (is_kept d k) (λ e. o k l (is_kept_lem d k e)) s)

  pub compact_place : (k i j : ℕ) → k < lines_of n → Kept d k → i < 2 → j ≡ 8 * k + i → get_or (compact_of n d) j 0 ≡ get_or (place_bytes (to k)) i 0
  unfolding compact_of
  compact_place k i j l h u e =
      let r : (if is_kept d k then place_bytes (to k) else []) ≡ place_bytes (to k) = rw (kept_is d k h) in
      many_inside (lines_of n) (λ k. 8 * k) (λ k. if is_kept d k then place_bytes (to k) else []) (laid_of n d) k i j l e
      (omega (arith, ap length r)) (omega (arith, ap length r, laid_long n d f room))
      (λ y m o s. run j y (to y) (is_kept d y) (λ z. there y o (dec_lt k y)) s)
      ∙ ap (λ (xs : List ℕ). get_or xs i 0) r
    where
      there : (y : ℕ) → y ≢ k → Dec (k < y) → Beside j (8 * y) 2
      there y o (yes q) = inl (omega arith)
      there y o (no q) = inr (omega arith)

  -- a line's other bytes, and an unused line
  pub compact_rest : (k i : ℕ) → k < lines_of n → 2 ≤ i → i < 8 → get_or (compact_of n d) (8 * k + i) 0 ≡ get_or d (8 * k + i) 0
  compact_rest k i l u v = compact_else (8 * k + i) (λ y m h. there y (dec_lt k y)) ∙ laid_low n d f room (8 * k + i) (omega arith)
    where
      there : (y : ℕ) → Dec (k < y) → Beside (8 * k + i) (8 * y) 2
      there y (yes q) = inl (omega arith)
      there y (no q) = inr (omega arith)

  pub compact_unused : (k i : ℕ) → k < lines_of n → version_at d k ≡ 0 → i < 8 → get_or (compact_of n d) (8 * k + i) 0 ≡ get_or d (8 * k + i) 0
  compact_unused k i l z v =
      compact_else (8 * k + i) (λ y m h. there y h (ℕ_discrete y k) (dec_lt k y)) ∙ laid_low n d f room (8 * k + i) (omega arith)
    where
      there : (y : ℕ) → Kept d y → Dec (y ≡ k) → Dec (k < y) → Beside (8 * k + i) (8 * y) 2
      there y h (yes e) q = absurd (omega (arith, ap (version_at d) e))
      there y h (no e) (yes q) = inl (omega arith)
      there y h (no e) (no q) = inr (omega arith)

  pub compact_behind : (j : ℕ) → front_of n ≤ j → get_or (compact_of n d) j 0 ≡ get_or (laid_of n d) j 0
  compact_behind j l = compact_else j (λ k m h. inr (omega arith))

-- ---- the append, to a book e

-- the slot's three older lines, one further: byte by byte what stood a line before
module _ (e : List ℕ) (k p v : ℕ) where
  abbrev four : List ℕ
  four = shifted_of e k p v

  zeroth : (q : ℕ) → get_or e q 0 ≡ get_or e (q + 0) 0
  zeroth q = let z : q ≡ q + 0 = omega arith in ap (λ (y : ℕ). get_or e y 0) z

  old_line : (a : ℕ) → a < 3 → (j : ℕ) → 8 * (a + 1) ≤ j → j < 8 * (a + 1) + 8 → get_or four j 0 ≡ get_or e (8 * (k + a) + (j - 8 * (a + 1))) 0
  unfolding line_of line_at
  old_line zero u =
      let z : k + 0 ≡ k = omega arith in
      rw z (each_of_eight (λ (j : ℕ). get_or four j 0 ≡ get_or e (8 * k + (j - 8)) 0) 8 (zeroth (8 * k)) refl refl refl refl refl refl refl)
  old_line (suc zero) u =
      each_of_eight (λ (j : ℕ). get_or four j 0 ≡ get_or e (8 * (k + 1) + (j - 16)) 0) 16 (zeroth (8 * (k + 1))) refl refl refl refl refl refl refl
  old_line (suc (suc zero)) u =
      each_of_eight (λ (j : ℕ). get_or four j 0 ≡ get_or e (8 * (k + 2) + (j - 24)) 0) 24 (zeroth (8 * (k + 2))) refl refl refl refl refl refl refl
  old_line (suc (suc (suc a))) u = absurd (omega arith)

  old_byte : (a i : ℕ) → a < 3 → i < 8 → get_or four (8 * (a + 1) + i) 0 ≡ get_or e (8 * (k + a) + i) 0
  old_byte a i u l =
      let z : 8 * (a + 1) + i - 8 * (a + 1) ≡ i = omega arith in
      old_line a u (8 * (a + 1) + i) (omega arith) (omega arith) ∙ ap (λ (y : ℕ). get_or e (8 * (k + a) + y) 0) z

module _ (n : ℕ) (e : List ℕ) (slot : ℕ) (s : Setpoint) (v p : ℕ) (inside : slot < n) (front : 32 * n ≤ p) (fit : p + 5 ≤ length e) where
  abbrev mid : List ℕ
  mid = sets e (8 * (4 * slot)) (shifted_of e (4 * slot) p v)

  abbrev c : List ℕ
  c = append_of e slot s v p

  mid_long : length mid ≡ length e
  mid_long = length-sets e (8 * (4 * slot)) (shifted_of e (4 * slot) p v)

  append_long : length c ≡ length e
  unfolding append_of
  append_long = length-sets mid p (body_of s) ∙ mid_long

  append_new : (i j : ℕ) → i < 32 → j ≡ 32 * slot + i → get_or c j 0 ≡ get_or (shifted_of e (4 * slot) p v) i 0
  unfolding append_of
  append_new i j l g =
      sets_below (body_of s) mid p j (omega arith)
      ∙ sets_in (shifted_of e (4 * slot) p v) e (8 * (4 * slot)) i j (omega arith) (omega (arith, shifted_long e (4 * slot) p v)) (omega (arith, shifted_long e (4 * slot) p v))

  append_body : (i j : ℕ) → i < 5 → j ≡ p + i → get_or c j 0 ≡ get_or (body_of s) i 0
  unfolding append_of
  append_body i j l g = sets_in (body_of s) mid p i j g (omega (arith, body_long s)) (omega (arith, body_long s, mid_long))

  append_else : (j : ℕ) → Beside j (32 * slot) 32 → Beside j p 5 → get_or c j 0 ≡ get_or e j 0
  unfolding append_of
  append_else j u w = beside_run (body_of s) mid p j (five w) ∙ beside_run (shifted_of e (4 * slot) p v) e (8 * (4 * slot)) j (four u)
    where
      five : Beside j p 5 → Beside j p (length (body_of s))
      five (inl q) = inl q
      five (inr q) = inr (omega (arith, body_long s))

      four : Beside j (32 * slot) 32 → Beside j (8 * (4 * slot)) (length (shifted_of e (4 * slot) p v))
      four (inl q) = inl (omega arith)
      four (inr q) = inr (omega (arith, shifted_long e (4 * slot) p v))

  pub append_line : (k j i : ℕ) → k < 4 * n → Goes slot k j → i < 8 → get_or c (8 * j + i) 0 ≡ get_or e (8 * k + i) 0
  append_line k j i l (inl (u, w, g)) m =
      let back : 4 * slot + (k - 4 * slot) ≡ k = omega arith in
      append_new (8 * (k - 4 * slot + 1) + i) (8 * j + i) (omega arith) (omega arith)
      ∙ old_byte e (4 * slot) p v (k - 4 * slot) i (omega arith) m
      ∙ ap (λ (y : ℕ). get_or e (8 * y + i) 0) back
  append_line k j i l (inr (inl u, g)) m =
      ap (λ (y : ℕ). get_or c (8 * y + i) 0) g ∙ append_else (8 * k + i) (inl (omega arith)) (inl (omega arith))
  append_line k j i l (inr (inr u, g)) m =
      ap (λ (y : ℕ). get_or c (8 * y + i) 0) g ∙ append_else (8 * k + i) (inr (omega arith)) (inl (omega arith))

-- ---- the book e before the append: the bodies of b that stay are where they go

pub record Before (n : ℕ) (b e : List ℕ) (slot : ℕ) (to : ℕ → ℕ) : Type 0 where
  pub long : length e ≡ length b
  pub rest : (k i : ℕ) → k < 4 * n → k ≢ 4 * slot + 3 → 2 ≤ i → i < 8 → get_or e (8 * k + i) 0 ≡ get_or b (8 * k + i) 0
  pub unused : (k i : ℕ) → k < 4 * n → k ≢ 4 * slot + 3 → version_in b k ≡ 0 → i < 2 → get_or e (8 * k + i) 0 ≡ get_or b (8 * k + i) 0
  pub front : (k : ℕ) → Stays n b slot k → 32 * n ≤ to k
  pub bodies : (k i : ℕ) → Stays n b slot k → i < 5 → get_or e (to k + i) 0 ≡ get_or b (place_in b k + i) 0
  pub vacated : (j : ℕ) → 32 * n ≤ j → ((k : ℕ) → Stays n b slot k → InBody (to k) j → ⊥) → (k : ℕ) → k < 4 * n → version_in b k ≢ 0 → InBody (place_in b k) j
      → ◌≡◌ {A = ℕ} (get_or e j 0) 0
  pub untouched : (j : ℕ) → 32 * n ≤ j → ((k : ℕ) → Stays n b slot k → InBody (to k) j → ⊥)
      → ((k : ℕ) → k < 4 * n → version_in b k ≢ 0 → InBody (place_in b k) j → ⊥) → get_or e j 0 ≡ get_or b j 0

module _ (n : ℕ) (b e : List ℕ) (slot : ℕ) (s : Setpoint) (to : ℕ → ℕ) (p : ℕ) (inside : slot < n) (front : 32 * n ≤ p) (fit : p + 5 ≤ length e)
    (r : Before n b e slot to) (last : (k : ℕ) → Stays n b slot k → to k + 5 ≤ p) where
  abbrev after : List ℕ
  after = append_of e slot s (newest b slot + 1) p

  new_at_lem : (i j : ℕ) → i < 32 → j ≡ 32 * slot + i → get_or after j 0 ≡ get_or (shifted_of e (4 * slot) p (newest b slot + 1)) i 0
  new_at_lem = append_new n e slot s (newest b slot + 1) p inside front fit

  body_at : (i j : ℕ) → i < 5 → j ≡ p + i → get_or after j 0 ≡ get_or (body_of s) i 0
  body_at = append_body n e slot s (newest b slot + 1) p inside front fit

  line_at_lem : (k j i : ℕ) → k < 4 * n → Goes slot k j → i < 8 → get_or after (8 * j + i) 0 ≡ get_or e (8 * k + i) 0
  line_at_lem = append_line n e slot s (newest b slot + 1) p inside front fit

  behind_at : (j : ℕ) → 32 * n ≤ j → (InBody p j → ⊥) → get_or after j 0 ≡ get_or e j 0
  behind_at j l o = append_else n e slot s (newest b slot + 1) p inside front fit j (inr (omega arith)) (outside p j o)

  pub left_is : Left n b after slot s to p
  unfolding line_of line_at body_of bytes_of
  left_is =
      record {
        long = append_long n e slot s (newest b slot + 1) p inside front fit ∙ r.long;
        new_place = (new_at_lem 0 (32 * slot) (omega arith) (omega arith), new_at_lem 1 (32 * slot + 1) (omega arith) refl);
        new_length = (new_at_lem 2 (32 * slot + 2) (omega arith) refl, new_at_lem 3 (32 * slot + 3) (omega arith) refl);
        new_version_low = (new_at_lem 4 (32 * slot + 4) (omega arith) refl, new_at_lem 5 (32 * slot + 5) (omega arith) refl);
        new_version_high = (new_at_lem 6 (32 * slot + 6) (omega arith) refl, new_at_lem 7 (32 * slot + 7) (omega arith) refl);
        lines = λ k j i l g u v. line_at_lem k j i l g v ∙ r.rest k i l (not_oldest slot k j g) u v;
        unused = λ k j i l z g v. line_at_lem k j i l g (omega arith) ∙ r.unused k i l (not_oldest slot k j g) z v;
        bodies = λ k i t l.
            behind_at (to k + i) (omega (arith, r.front k t)) (λ w. omega (arith, w.0, last k t)) ∙ r.bodies k i t l;
        new_kind = body_at 0 p (omega arith) (omega arith);
        new_low = (body_at 1 (p + 1) (omega arith) refl, body_at 2 (p + 2) (omega arith) refl);
        new_high = (body_at 3 (p + 3) (omega arith) refl, body_at 4 (p + 4) (omega arith) refl);
        vacated = λ i z k l u v. behind_at i z.behind z.not_new ∙ r.vacated i z.behind z.not_old k l u v;
        untouched = λ i z o. behind_at i z.behind z.not_new ∙ r.untouched i z.behind z.not_old o;
      }
