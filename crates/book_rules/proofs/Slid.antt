-- "kept bodies slide to the front in the order of their places": what a compaction leaves.
use Prim.Native.Nat.{ℕ, zero, suc, ◌+◌, ◌*◌, ◌/◌, ◌%◌, ◌≤◌, ◌<◌}
use Rattle.std.proofs.Math.Path.{◌≡◌, refl, ap}
use Rattle.std.proofs.Common.{sym, ◌∙◌}
use Rattle.std.specs.Prelude.{◌≢◌, Bool, ◌&&◌, if◌then◌else◌}
use Rattle.std.proofs.Math.Logic.{inl, inr}
use mathlib.Core.List.{List, []}
use Rattle.std.proofs.Math.Bool.{true, false}
use native.Mathlib.Omega.{arith}
use Rattle.std.proofs.Math.Decide.{ℕ_discrete, dec_lt}
use Rattle.std.proofs.Math.Dec.{ltb}
use Rattle.std.proofs.Math.ListN.{length, get_or, replicate, get_or-replicate}
use borrow.Author.Tests.{lt-ltb, le-ltb, ltb-true}
use Rattle.choice.specs.Pick.{both}
use Rattle.setpoint.specs.Codec.{join_of}
use Rattle.book_rules.specs.Layout.{five_at, lines_of, front_of, place_at, length_at, version_at, is_kept, setting_at, is_setting}
use Rattle.book_rules.specs.Writing.{kept_of, rank_of, slid_of, if_kept, erased_of, laid_of, place_bytes, compact_of}
use Rattle.book_rules.specs.Many.{count_less, Beside, length_many, many_outside, many_inside, many_zeros}
use Rattle.book_rules.specs.Sound.{Kept, Apart, Fits, Clean}
use Rattle.book_rules.proofs.Sound.{kept_is, is_kept_lem, five_alike, setting_alike}

-- ---- small laws

pub join_pair : (p : ℕ) → join_of (p % 256) (p / 256) 0 0 ≡ p
unfolding join_of
join_pair p = omega arith

pub five_byte : (b : List ℕ) (p i : ℕ) → i < 5 → get_or (five_at b p) i 0 ≡ get_or b (p + i) 0
unfolding five_at
five_byte b p zero l = let e : p ≡ p + 0 = omega arith in ap (λ (x : ℕ). get_or b x 0) e
five_byte b p (suc zero) l = refl
five_byte b p (suc (suc zero)) l = refl
five_byte b p (suc (suc (suc zero))) l = refl
five_byte b p (suc (suc (suc (suc zero)))) l = refl
five_byte b p (suc (suc (suc (suc (suc i))))) l = absurd (omega arith)

five_long : (b : List ℕ) (p : ℕ) → length (five_at b p) ≡ 5
unfolding five_at
five_long b p = refl

-- what a used line puts
if_kept_lem : (b : List ℕ) (k : ℕ) (xs : List ℕ) → Kept b k → if_kept b k xs ≡ xs
if_kept_lem b k xs h = rw (kept_is b k h)

some_kept : (b : List ℕ) (k : ℕ) (xs : List ℕ) → 1 ≤ length (if_kept b k xs) → Kept b k
some_kept b k xs h = go (is_kept b k) (is_kept_lem b k) h
  where
    go : (t : Bool) → (t ≡ true → Kept b k) → 1 ≤ length (if t then xs else []) → Kept b k
    go true f h = f refl
    go false f h = absurd (omega arith)

long_kept : (b : List ℕ) (k : ℕ) (xs : List ℕ) → 1 ≤ length (if_kept b k xs) → length (if_kept b k xs) ≡ length xs
long_kept b k xs h = ap length (if_kept_lem b k xs (some_kept b k xs h))

-- ---- ranks

module _ (n : ℕ) (b : List ℕ) where
  rank_less : (k l : ℕ) → k < lines_of n → Kept b k → place_at b k < place_at b l → rank_of n b (place_at b k) < rank_of n b (place_at b l)
  unfolding rank_of
  rank_less k l hk h o =
      count_less (lines_of n) (λ x. is_kept b x && ltb (place_at b x) (place_at b k)) (λ x. is_kept b x && ltb (place_at b x) (place_at b l)) k hk
      (rw (kept_is b k h, le-ltb (place_at b k) (place_at b k) (omega arith)))
      (rw (kept_is b k h, lt-ltb (place_at b k) (place_at b l) o))
      (λ x m e. wider x (both (is_kept b x) (ltb (place_at b x) (place_at b k)) e))
    where
      wider : (x : ℕ) → (is_kept b x ≡ true) × (ltb (place_at b x) (place_at b k) ≡ true) → (is_kept b x && ltb (place_at b x) (place_at b l)) ≡ true
      wider x e = rw (e.0, lt-ltb (place_at b x) (place_at b l) (omega (arith, ltb-true (place_at b x) (place_at b k) e.1)))

  pub rank_few : (k : ℕ) → k < lines_of n → Kept b k → rank_of n b (place_at b k) < kept_of n b
  unfolding rank_of kept_of
  rank_few k hk h =
      count_less (lines_of n) (λ x. is_kept b x && ltb (place_at b x) (place_at b k)) (is_kept b) k hk
      (rw (kept_is b k h, le-ltb (place_at b k) (place_at b k) (omega arith)))
      (kept_is b k h)
      (λ x m e. (both (is_kept b x) (ltb (place_at b x) (place_at b k)) e).0)

-- b before, c after
pub record Slid (n : ℕ) (b c : List ℕ) : Type 0 where
  pub long : length c ≡ length b
  pub versions : (k : ℕ) → k < lines_of n → version_at c k ≡ version_at b k
  pub lengths : (k : ℕ) → k < lines_of n → length_at c k ≡ length_at b k
  pub places : (k : ℕ) → k < lines_of n → Kept b k → place_at c k ≡ slid_of n b (place_at b k)
  pub bodies : (k : ℕ) → k < lines_of n → Kept b k → five_at c (slid_of n b (place_at b k)) ≡ five_at b (place_at b k)
  pub order : (k l : ℕ) → k < lines_of n → Kept b k → place_at b k < place_at b l → slid_of n b (place_at b k) + 5 ≤ slid_of n b (place_at b l)
  pub ends : (k : ℕ) → k < lines_of n → Kept b k → slid_of n b (place_at b k) + 5 ≤ front_of n + 5 * kept_of n b
  pub fits : Fits n c
  pub clean : Clean n b → Clean n c

module _ (n : ℕ) (b : List ℕ) (f : Fits n b) (room : front_of n + 5 * kept_of n b ≤ length b) where
  abbrev to : ℕ → ℕ
  to k = slid_of n b (place_at b k)

  abbrev m : ℕ
  m = lines_of n

  abbrev c : List ℕ
  c = compact_of n b

  pub order_is : (k l : ℕ) → k < m → Kept b k → place_at b k < place_at b l → to k + 5 ≤ to l
  unfolding slid_of
  order_is k l hk h o = omega (arith, rank_less n b k l hk h o)

  pub ends_is : (k : ℕ) → k < m → Kept b k → to k + 5 ≤ front_of n + 5 * kept_of n b
  unfolding slid_of
  ends_is k hk h = omega (arith, rank_few n b k hk h)

  pub front_is : (k : ℕ) → front_of n ≤ to k
  unfolding slid_of
  front_is k = omega arith

  apart_is : (k l : ℕ) → k < m → l < m → k ≢ l → Kept b k → Kept b l → Apart (to k) (to l)
  apart_is k l hk hl e u v = go (f.apart k l hk hl e u v)
    where
      go : Apart (place_at b k) (place_at b l) → Apart (to k) (to l)
      go (inl q) = inl (order_is k l hk u (omega arith))
      go (inr q) = inr (order_is l k hl v (omega arith))

  -- ---- bytes

  erased_long : length (erased_of n b) ≡ length b
  unfolding erased_of
  erased_long = length_many m (place_at b) (λ k. if_kept b k (replicate 5 0)) b

  pub laid_long : length (laid_of n b) ≡ length b
  unfolding laid_of
  laid_long = length_many m to (λ k. if_kept b k (five_at b (place_at b k))) (erased_of n b) ∙ erased_long

  long_is : length c ≡ length b
  unfolding compact_of
  long_is = length_many m (λ k. 8 * k) (λ k. if_kept b k (place_bytes (to k))) (laid_of n b) ∙ laid_long

  erased_low : (j : ℕ) → j < front_of n → get_or (erased_of n b) j 0 ≡ get_or b j 0
  unfolding erased_of
  erased_low j l =
      many_outside m (place_at b) (λ k. if_kept b k (replicate 5 0)) b j
      (λ k h s. inl (omega (arith, f.behind k h (some_kept b k (replicate 5 0) s))))

  pub laid_low : (j : ℕ) → j < front_of n → get_or (laid_of n b) j 0 ≡ get_or b j 0
  unfolding laid_of
  laid_low j l =
      many_outside m to (λ k. if_kept b k (five_at b (place_at b k))) (erased_of n b) j (λ k h s. inl (omega (arith, front_is k))) ∙ erased_low j l

  -- behind the contents the lines put nothing
  lines_above : (j : ℕ) → front_of n ≤ j → get_or c j 0 ≡ get_or (laid_of n b) j 0
  unfolding compact_of
  lines_above j l =
      many_outside m (λ k. 8 * k) (λ k. if_kept b k (place_bytes (to k))) (laid_of n b) j
      (λ k h s. inr (omega (arith, long_kept b k (place_bytes (to k)) s)))

  -- in a line, only its first two bytes
  line_rest : (k i : ℕ) → k < m → 2 ≤ i → i < 8 → get_or c (8 * k + i) 0 ≡ get_or b (8 * k + i) 0
  unfolding compact_of
  line_rest k i h u v =
      many_outside m (λ k. 8 * k) (λ k. if_kept b k (place_bytes (to k))) (laid_of n b) (8 * k + i)
      (λ l o s. beside l (long_kept b l (place_bytes (to l)) s) (dec_lt k l))
      ∙ laid_low (8 * k + i) (omega arith)
    where
      beside : (l : ℕ) → length (if_kept b l (place_bytes (to l))) ≡ 2 → Dec (k < l) → Beside (8 * k + i) (8 * l) (length (if_kept b l (place_bytes (to l))))
      beside l e (yes q) = inl (omega arith)
      beside l e (no q) = inr (omega arith)

  line_first : (k i j : ℕ) → k < m → Kept b k → i < 2 → j ≡ 8 * k + i → get_or c j 0 ≡ get_or (place_bytes (to k)) i 0
  unfolding compact_of
  line_first k i j h q u e =
      many_inside m (λ k. 8 * k) (λ k. if_kept b k (place_bytes (to k))) (laid_of n b) k i j h e
      (omega (arith, ap length (if_kept_lem b k (place_bytes (to k)) q)))
      (omega (arith, ap length (if_kept_lem b k (place_bytes (to k)) q), laid_long))
      (λ l o d s. beside l d (long_kept b l (place_bytes (to l)) s) (dec_lt k l))
      ∙ ap (λ (xs : List ℕ). get_or xs i 0) (if_kept_lem b k (place_bytes (to k)) q)
    where
      beside : (l : ℕ) → l ≢ k → length (if_kept b l (place_bytes (to l))) ≡ 2 → Dec (k < l) → Beside j (8 * l) (length (if_kept b l (place_bytes (to l))))
      beside l d g (yes q) = inl (omega arith)
      beside l d g (no q) = inr (omega arith)

  line_unused : (k i j : ℕ) → k < m → version_at b k ≡ 0 → i < 2 → j ≡ 8 * k + i → get_or c j 0 ≡ get_or b j 0
  unfolding compact_of
  line_unused k i j h z u e =
      many_outside m (λ k. 8 * k) (λ k. if_kept b k (place_bytes (to k))) (laid_of n b) j
      (λ l o s. beside l (some_kept b l (place_bytes (to l)) s) (long_kept b l (place_bytes (to l)) s) (ℕ_discrete l k) (dec_lt k l))
      ∙ laid_low j (omega arith)
    where
      beside : (l : ℕ) → Kept b l → length (if_kept b l (place_bytes (to l))) ≡ 2 → Dec (l ≡ k) → Dec (k < l)
          → Beside j (8 * l) (length (if_kept b l (place_bytes (to l))))
      beside l w g (yes d) q = absurd (omega (arith, ap (version_at b) d))
      beside l w g (no d) (yes q) = inl (omega arith)
      beside l w g (no d) (no q) = inr (omega arith)

  pub laid_byte : (k i : ℕ) → k < m → Kept b k → i < 5 → get_or (laid_of n b) (to k + i) 0 ≡ get_or b (place_at b k + i) 0
  unfolding laid_of
  laid_byte k i h q u =
      many_inside m to (λ k. if_kept b k (five_at b (place_at b k))) (erased_of n b) k i (to k + i) h refl
      (omega (arith, ap length (if_kept_lem b k (five_at b (place_at b k)) q), five_long b (place_at b k)))
      (omega (arith, ap length (if_kept_lem b k (five_at b (place_at b k)) q), five_long b (place_at b k), erased_long, ends_is k h q))
      (λ l o d s. beside l (long_kept b l (five_at b (place_at b l)) s) (five_long b (place_at b l)) (apart_is l k o h d (some_kept b l (five_at b (place_at b l)) s) q))
      ∙ ap (λ (xs : List ℕ). get_or xs i 0) (if_kept_lem b k (five_at b (place_at b k)) q)
      ∙ five_byte b (place_at b k) i u
    where
      beside : (l : ℕ) → length (if_kept b l (five_at b (place_at b l))) ≡ length (five_at b (place_at b l)) → length (five_at b (place_at b l)) ≡ 5 → Apart (to l) (to k)
          → Beside (to k + i) (to l) (length (if_kept b l (five_at b (place_at b l))))
      beside l e g (inl x) = inr (omega arith)
      beside l e g (inr x) = inl (omega arith)

  body_byte : (k i : ℕ) → k < m → Kept b k → i < 5 → get_or c (to k + i) 0 ≡ get_or b (place_at b k + i) 0
  body_byte k i h q u = lines_above (to k + i) (omega (arith, front_is k)) ∙ laid_byte k i h q u

  -- what no slid body covers is as after the taking up; and a byte that was a body's is 0 then
  pub laid_else : (j : ℕ) → ((k : ℕ) → k < m → Kept b k → Beside j (to k) 5) → get_or (laid_of n b) j 0 ≡ get_or (erased_of n b) j 0
  unfolding laid_of
  laid_else j o =
      many_outside m to (λ k. if_kept b k (five_at b (place_at b k))) (erased_of n b) j
      (λ k h s. beside k (long_kept b k (five_at b (place_at b k)) s) (five_long b (place_at b k)) (o k h (some_kept b k (five_at b (place_at b k)) s)))
    where
      beside : (k : ℕ) → length (if_kept b k (five_at b (place_at b k))) ≡ length (five_at b (place_at b k)) → length (five_at b (place_at b k)) ≡ 5
          → Beside j (to k) 5 → Beside j (to k) (length (if_kept b k (five_at b (place_at b k))))
      beside k e u (inl x) = inl x
      beside k e u (inr x) = inr (omega arith)

  pub erased_body : (k i : ℕ) → k < m → Kept b k → i < 5 → ◌≡◌ {A = ℕ} (get_or (erased_of n b) (place_at b k + i) 0) 0
  unfolding erased_of
  erased_body k i h q u =
      many_inside m (place_at b) (λ k. if_kept b k (replicate 5 0)) b k i (place_at b k + i) h refl
      (omega (arith, ap length (if_kept_lem b k (replicate 5 0) q)))
      (omega (arith, ap length (if_kept_lem b k (replicate 5 0) q), f.within k h q))
      (λ l o d s. beside l (long_kept b l (replicate 5 0) s) (f.apart l k o h d (some_kept b l (replicate 5 0) s) q))
      ∙ ap (λ (xs : List ℕ). get_or xs i 0) (if_kept_lem b k (replicate 5 0) q)
      ∙ get_or-replicate 5 i 0 0 u
    where
      beside : (l : ℕ) → length (if_kept b l (replicate 5 0)) ≡ 5 → Apart (place_at b l) (place_at b k)
          → Beside (place_at b k + i) (place_at b l) (length (if_kept b l (replicate 5 0)))
      beside l e (inl x) = inr (omega arith)
      beside l e (inr x) = inl (omega arith)

  pub erased_else : (j : ℕ) → ((k : ℕ) → k < m → Kept b k → Beside j (place_at b k) 5) → get_or (erased_of n b) j 0 ≡ get_or b j 0
  unfolding erased_of
  erased_else j o =
      many_outside m (place_at b) (λ k. if_kept b k (replicate 5 0)) b j
      (λ k h s. beside k (long_kept b k (replicate 5 0) s) (o k h (some_kept b k (replicate 5 0) s)))
    where
      beside : (k : ℕ) → length (if_kept b k (replicate 5 0)) ≡ 5 → Beside j (place_at b k) 5 → Beside j (place_at b k) (length (if_kept b k (replicate 5 0)))
      beside k e (inl x) = inl x
      beside k e (inr x) = inr (omega arith)

  -- ---- lines

  versions_is : (k : ℕ) → k < m → version_at c k ≡ version_at b k
  unfolding version_at
  versions_is k h =
      rw (
        line_rest k 4 h (omega arith) (omega arith),
        line_rest k 5 h (omega arith) (omega arith),
        line_rest k 6 h (omega arith) (omega arith),
        line_rest k 7 h (omega arith) (omega arith),
      )

  lengths_is : (k : ℕ) → k < m → length_at c k ≡ length_at b k
  unfolding length_at
  lengths_is k h = rw (line_rest k 2 h (omega arith) (omega arith), line_rest k 3 h (omega arith) (omega arith))

  places_is : (k : ℕ) → k < m → Kept b k → place_at c k ≡ to k
  unfolding place_at
  places_is k h q = rw (line_first k 0 (8 * k) h q (omega arith) (omega arith), line_first k 1 (8 * k + 1) h q (omega arith) refl) (join_pair (to k))

  unused_is : (k : ℕ) → k < m → version_at b k ≡ 0 → place_at c k ≡ place_at b k
  unfolding place_at
  unused_is k h z = rw (line_unused k 0 (8 * k) h z (omega arith) (omega arith), line_unused k 1 (8 * k + 1) h z (omega arith) refl)

  bodies_is : (k : ℕ) → k < m → Kept b k → five_at c (to k) ≡ five_at b (place_at b k)
  bodies_is k h q = five_alike c b (to k) (place_at b k) (λ i u. body_byte k i h q u)

  was : (k : ℕ) → k < m → Kept c k → Kept b k
  was k h q = omega (arith, versions_is k h)

  fits_is : Fits n c
  fits_is =
      record {
        unused = λ k h z.
            let y = sym (versions_is k h) ∙ z in
            let u = f.unused k h y in
            (unused_is k h y ∙ u.0, lengths_is k h ∙ u.1);
        five = λ k h q. lengths_is k h ∙ f.five k h (was k h q);
        behind = λ k h q. omega (arith, places_is k h (was k h q), front_is k);
        within = λ k h q. omega (arith, places_is k h (was k h q), ends_is k h (was k h q), long_is);
        means = λ k h q.
            ap (λ (y : ℕ). is_setting (setting_at c y)) (places_is k h (was k h q))
            ∙ ap is_setting (setting_alike c b (to k) (place_at b k) (bodies_is k h (was k h q)))
            ∙ f.means k h (was k h q);
        apart = λ k l hk hl e u v.
            rw (places_is k hk (was k hk u), places_is l hl (was l hl v)) (apart_is k l hk hl e (was k hk u) (was l hl v));
      }

  -- ---- free bytes

  erased_free : Clean n b → (j : ℕ) → front_of n ≤ j → ◌≡◌ {A = ℕ} (get_or (erased_of n b) j 0) 0
  unfolding erased_of
  erased_free g j l =
      many_zeros m (place_at b) (λ k. if_kept b k (replicate 5 0)) b j
      (λ k h s. omega (arith, long_kept b k (replicate 5 0) s, f.within k h (some_kept b k (replicate 5 0) s)))
      (λ k i h. zeros (is_kept b k) i)
      (λ o. g j (l, λ k h q. beside k (ap length (if_kept_lem b k (replicate 5 0) q)) (o k h (omega (arith, ap length (if_kept_lem b k (replicate 5 0) q))))))
    where
      zeros : (t : Bool) (i : ℕ) → ◌≡◌ {A = ℕ} (get_or (if t then replicate 5 0 else []) i 0) 0
      zeros false i = refl
      zeros true zero = refl
      zeros true (suc zero) = refl
      zeros true (suc (suc zero)) = refl
      zeros true (suc (suc (suc zero))) = refl
      zeros true (suc (suc (suc (suc zero)))) = refl
      zeros true (suc (suc (suc (suc (suc i))))) = refl

      beside : (k : ℕ) → length (if_kept b k (replicate 5 0)) ≡ 5 → Beside j (place_at b k) (length (if_kept b k (replicate 5 0))) → Beside j (place_at b k) 5
      beside k e (inl x) = inl x
      beside k e (inr x) = inr (omega arith)

  clean_is : Clean n b → Clean n c
  unfolding laid_of
  clean_is g j free =
      lines_above j free.0
      ∙ many_outside m to (λ k. if_kept b k (five_at b (place_at b k))) (erased_of n b) j
      (λ k h s. let q = some_kept b k (five_at b (place_at b k)) s in
      beside k (long_kept b k (five_at b (place_at b k)) s) (five_long b (place_at b k)) (places_is k h q) (free.1 k h (omega (arith, versions_is k h))))
      ∙ erased_free g j free.0
    where
      beside : (k : ℕ) → length (if_kept b k (five_at b (place_at b k))) ≡ length (five_at b (place_at b k)) → length (five_at b (place_at b k)) ≡ 5
          → place_at c k ≡ to k → Beside j (place_at c k) 5 → Beside j (to k) (length (if_kept b k (five_at b (place_at b k))))
      beside k e u v (inl x) = inl (omega arith)
      beside k e u v (inr x) = inr (omega arith)

  pub slid : Slid n b c
  slid =
      record {
        long = long_is;
        versions = versions_is;
        lengths = lengths_is;
        places = places_is;
        bodies = bodies_is;
        order = order_is;
        ends = ends_is;
        fits = fits_is;
        clean = clean_is;
      }
