-- The replay does not depend on the order of members that share nothing: whole members that share no cell commute, and so any order that
-- keeps the order of members that share a cell gives the same counters. For any way to make a sum.
use Rattle.std.specs.Prelude.{ℕ, ◌+◌, ◌≤◌, ◌<◌, ◌≡◌, ◌⊎◌, length, get_or}
use Rattle.std.proofs.Math.Path.{refl, ap}
use Rattle.std.proofs.Common.{sym, ◌∙◌, inl, inr, arith, ext_get_or}
use mathlib.Core.List.{List, [], ◌∷◌, ◌++◌}
use Rattle.model.specs.Arena.{cells_of}
use Rattle.model.specs.Crew.{start_of, count_of}
use Rattle.types.specs.declared.Head.{Head}
use Rattle.crew_theory.specs.Statements.{named, In}
use Rattle.crew_theory.specs.Lists.{Fits}
use Rattle.crew_at_work_theory.specs.Statements.{whole_by, replay_by, times, Before, Strangers}
use Rattle.crew_at_work_theory.specs.Orders.{Counted, this, that, counted, in_times, before_first, before_last}
use Rattle.crew_at_work_theory.specs.Wholes.{Listed, among, whole_length, whole_at, whole_other}
use Rattle.crew_at_work_theory.specs.Reorders.{Reorders, Found}

-- ---- lists

-- m taken out of the middle
times_middle : (n m : ℕ) (a b : List ℕ) → times n (a ++ (m ∷ b)) ≡ times n (m ∷ (a ++ b))
times_middle n m [] b = refl
times_middle n m (x ∷ a) b = go (counted n x (a ++ (m ∷ b))) (counted n x (a ++ b)) (counted n m (x ∷ (a ++ b))) (counted n m (a ++ b)) (times_middle n m a b)
  where
    go : Counted n x (a ++ (m ∷ b)) → Counted n x (a ++ b) → Counted n m (x ∷ (a ++ b)) → Counted n m (a ++ b) → times n (a ++ (m ∷ b)) ≡ times n (m ∷ (a ++ b))
        → times n (x ∷ (a ++ (m ∷ b))) ≡ times n (m ∷ (x ∷ (a ++ b)))
    go (this e f) (this g h) (this i j) (this k l) r = omega arith
    go (this e f) (this g h) (that i j) (that k l) r = omega arith
    go (that e f) (that g h) (this i j) (this k l) r = omega arith
    go (that e f) (that g h) (that i j) (that k l) r = omega arith
    go (this e f) (that g h) i j r = absurd (g e)
    go (that e f) (this g h) i j r = absurd (e g)
    go (this e f) (this g h) (this i j) (that k l) r = absurd (k i)
    go (this e f) (this g h) (that i j) (this k l) r = absurd (i k)
    go (that e f) (that g h) (this i j) (that k l) r = absurd (k i)
    go (that e f) (that g h) (that i j) (this k l) r = absurd (i k)

find : (m : ℕ) (l : List ℕ) → 1 ≤ times m l → Found m l
unfolding times
find m [] p = absurd (omega arith)
find m (x ∷ l) p = go (counted m x l) (find m l)
  where
    go : Counted m x l → (1 ≤ times m l → Found m l) → Found m (x ∷ l)
    go (this e f) r = ([], l, ap {B = List ℕ} (λ y. y ∷ l) e)
    go (that e f) r = let z = r (omega arith) in (x ∷ z.0, z.1, ap {B = List ℕ} (λ y. x ∷ y) z.2)

in_middle : (m : ℕ) (a b : List ℕ) → In m (a ++ (m ∷ b))
in_middle m [] b = inl refl
in_middle m (x ∷ a) b = inr (in_middle m a b)

in_more : (q m : ℕ) (a b : List ℕ) → In q (a ++ b) → In q (a ++ (m ∷ b))
in_more q m [] b i = inr i
in_more q m (x ∷ a) b (inl e) = inl e
in_more q m (x ∷ a) b (inr e) = inr (in_more q m a b e)

before_middle : (q m : ℕ) (a b : List ℕ) → In q a → Before q m (a ++ (m ∷ b))
before_middle q m (x ∷ a) b (inl e) = inl (e, in_middle m a b)
before_middle q m (x ∷ a) b (inr e) = inr (before_middle q m a b e)
before_middle q m [] b x' = elim x' [ ]

before_more : (p q m : ℕ) (a b : List ℕ) → Before p q (a ++ b) → Before p q (a ++ (m ∷ b))
before_more p q m [] b i = inr i
before_more p q m (x ∷ a) b (inl (e, f)) = inl (e, in_more q m a b f)
before_more p q m (x ∷ a) b (inr e) = inr (before_more p q m a b e)

-- ---- whole members

module _ (plus : ℕ → ℕ → ℕ) (h : Head) (words : ℕ) (counts cells : List ℕ) (fit : Fits h words counts cells) where
  abbrev whole : List ℕ → ℕ → List ℕ
  whole l m = whole_by plus counts cells l m

  abbrev place : ℕ → ℕ → ℕ
  place m j = named cells (start_of counts m + j)

  -- a cell of a, before and after a stranger's whole run
  first_mine : (l : List ℕ) (a b j : ℕ) → length l ≡ cells_of h → Strangers counts cells a b → j < count_of counts a
      → get_or (whole (whole l a) b) (place a j) 0 ≡ plus (get_or l (place a j) 0) (get_or l (named cells (start_of counts a)) 0)
  first_mine l a b j e s p =
      whole_other plus counts cells (whole l a) b (place a j) (λ i q z. s j i p q (sym z)) ∙ whole_at plus counts cells h words fit l a j p e

  last_mine : (l : List ℕ) (a b j : ℕ) → length l ≡ cells_of h → Strangers counts cells a b → j < count_of counts a
      → get_or (whole (whole l b) a) (place a j) 0 ≡ plus (get_or l (place a j) 0) (get_or l (named cells (start_of counts a)) 0)
  last_mine l a b j e s p =
      let z : start_of counts a + 0 ≡ start_of counts a = omega arith in
      let kept : (i : ℕ) → i < count_of counts a → get_or (whole l b) (place a i) 0 ≡ get_or l (place a i) 0 =
      λ i q. whole_other plus counts cells l b (place a i) (λ k r x. s i k q r (sym x)) in
      let low = rw z at (kept 0 (omega arith)) in
      whole_at plus counts cells h words fit (whole l b) a j p (whole_length plus counts cells l b ∙ e) ∙ rw (kept j p, low)

  pub commute : (l : List ℕ) (a b : ℕ) → length l ≡ cells_of h → Strangers counts cells a b → whole (whole l a) b ≡ whole (whole l b) a
  commute l a b e s =
      let long : (x y : ℕ) → length (whole (whole l x) y) ≡ length l = λ x y. whole_length plus counts cells (whole l x) y ∙ whole_length plus counts cells l x in
      ext_get_or 0 _ _ (long a b ∙ sym (long b a)) (λ c _. at c (among cells (count_of counts a) (start_of counts a) c) (among cells (count_of counts b) (start_of counts b) c))
    where
      s' : Strangers counts cells b a
      s' j i p q z = s i j q p (sym z)

      Where : ℕ → ℕ → Type 0
      Where m c = Listed cells (count_of counts m) (start_of counts m) c

      at : (c : ℕ) → Where a c → Where b c → get_or (whole (whole l a) b) c 0 ≡ get_or (whole (whole l b) a) c 0
      at c (inl (j, p, f)) y = rw (← f) (first_mine l a b j e s p ∙ sym (last_mine l a b j e s p))
      at c (inr x) (inl (j, p, f)) = rw (← f) (last_mine l b a j e s' p ∙ sym (first_mine l b a j e s' p))
      at c (inr x) (inr y) =
          whole_other plus counts cells (whole l a) b c y ∙ whole_other plus counts cells l a c x
          ∙ sym (whole_other plus counts cells (whole l b) a c x ∙ whole_other plus counts cells l b c y)

  abbrev replay : List ℕ → List ℕ → List ℕ
  replay l ms = replay_by plus counts cells l ms

  -- a member pulled to the front, past strangers
  pull : (l : List ℕ) (m : ℕ) (a b : List ℕ) → length l ≡ cells_of h → ((q : ℕ) → In q a → Strangers counts cells q m) → replay l (a ++ (m ∷ b)) ≡ replay l (m ∷ (a ++ b))
  unfolding replay_by
  pull l m [] b e s = refl
  pull l m (q ∷ a) b e s =
      pull (whole l q) m a b (whole_length plus counts cells l q ∙ e) (λ p i. s p (inr i)) ∙ ap (λ (x : List ℕ). replay_by plus counts cells x (a ++ b)) (commute l q m e (s q (inl refl)))

  pub reorder : (l xs ys : List ℕ) → length l ≡ cells_of h → Reorders counts cells xs ys → replay l xs ≡ replay l ys
  unfolding replay_by times
  reorder l [] [] e r = refl
  reorder l [] (y ∷ ys) e r = absurd (omega (arith, r.same y, in_times y (y ∷ ys) (inl refl)))
  reorder l (m ∷ xs) ys e r =
      let z = find m ys (omega (arith, r.same m, in_times m (m ∷ xs) (inl refl))) in
      go z.0 z.1 z.2 (λ ns s. reorder (whole l m) xs ns (whole_length plus counts cells l m ∙ e) s)
    where
      alone : times m xs ≡ 0
      alone = at (counted m m xs)
        where
          at : Counted m m xs → times m xs ≡ 0
          at (this p q) = omega (arith, r.once m)
          at (that p q) = absurd (p refl)

      gone : In m xs → ⊥
      gone i = omega (arith, in_times m xs i, alone)

      go : (a b : List ℕ) → ys ≡ a ++ (m ∷ b) → ((ns : List ℕ) → Reorders counts cells xs ns → replay (whole l m) xs ≡ replay (whole l m) ns) → replay l (m ∷ xs) ≡ replay l ys
      go a b is rec = rw is (rec (a ++ b) rest ∙ sym (pull l m a b e strange))
        where
          strange : (q : ℕ) → In q a → Strangers counts cells q m
          strange q i = at (r.keeps q m (rw is (before_middle q m a b i)))
            where
              at : Strangers counts cells q m ⊎ Before q m (m ∷ xs) → Strangers counts cells q m
              at (inl s) = s
              at (inr (inl s)) = absurd (gone s.1)
              at (inr (inr s)) = absurd (gone (before_last q m xs s))

          same' : (n : ℕ) → times n xs ≡ times n (a ++ b)
          same' n = at (counted n m xs) (counted n m (a ++ b)) (rw is at (r.same n))
            where
              at : Counted n m xs → Counted n m (a ++ b) → times n (m ∷ xs) ≡ times n (a ++ (m ∷ b)) → times n xs ≡ times n (a ++ b)
              at (this p q) (this s t) u = omega (arith, times_middle n m a b)
              at (that p q) (that s t) u = omega (arith, times_middle n m a b)
              at (this p q) (that s t) u = absurd (s p)
              at (that p q) (this s t) u = absurd (p s)

          once' : (n : ℕ) → times n xs ≤ 1
          once' n = at (counted n m xs)
            where
              at : Counted n m xs → times n xs ≤ 1
              at (this p q) = omega (arith, r.once n)
              at (that p q) = omega (arith, r.once n)

          keeps' : (p q : ℕ) → Before p q (a ++ b) → Strangers counts cells p q ⊎ Before p q xs
          keeps' p q i = at (r.keeps p q (rw is (before_more p q m a b i)))
            where
              at : Strangers counts cells p q ⊎ Before p q (m ∷ xs) → Strangers counts cells p q ⊎ Before p q xs
              at (inl s) = inl s
              at (inr (inl s)) = absurd (omega (arith, in_times m (a ++ b) (rw s.0 at (before_first p q (a ++ b) i)), same' m, alone))
              at (inr (inr s)) = inr s

          rest : Reorders counts cells xs (a ++ b)
          rest = record { same = same'; once = once'; keeps = keeps' }
