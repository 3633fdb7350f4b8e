-- "Writing drops the slot's oldest of four": what the drop leaves.
use Rattle.std.specs.Prelude.{ℕ, ◌+◌, ◌*◌, ◌-◌, ◌≤◌, ◌<◌, ◌≡◌, ◌≢◌, List, Bool, length, get_or, replicate, if◌then◌else◌}
use Rattle.std.proofs.Math.Path.{refl}
use Rattle.std.proofs.Common.{sym, ap, ◌∙◌, inl, inr, arith}
use Rattle.std.proofs.Math.Bool.{true, false}
use Rattle.std.proofs.Math.Decide.{ℕ_discrete, dec_lt}
use Rattle.std.proofs.lemmas.List.{get_or-replicate}
use Rattle.std.proofs.lemmas.List.Edits.{sets}
use Rattle.std.proofs.Math.Seq.{length-sets}
use Rattle.book_rules.specs.Layout.{five_at, lines_of, front_of, place_at, length_at, version_at, is_kept, setting_at, is_setting}
use Rattle.book_rules.specs.Stores.{sets_below, sets_above, sets_in}
use Rattle.book_rules.specs.Writing.{drop_oldest_of}
use Rattle.book_rules.specs.Many.{Beside}
use Rattle.book_rules.specs.Sound.{Kept, Apart, Fits, Clean, Alike}
use Rattle.book_rules.proofs.Sound.{is_kept_lem, is_unkept, line_alike, line_zero, five_alike, setting_alike}
use Rattle.book_rules.specs.Dropped.{Dropped}

module _ (n : ℕ) (b : List ℕ) (slot : ℕ) (inside : slot < n) (f : Fits n b) where
  abbrev x : ℕ
  x = 4 * slot + 3

  abbrev p : ℕ
  p = place_at b x

  abbrev d : List ℕ
  d = sets (sets b p (replicate 5 0)) (8 * x) (replicate 8 0)

  module _ (kept : Kept b x) where
    outside : (j : ℕ) → Beside j (8 * x) 8 → Beside j p 5 → get_or d j 0 ≡ get_or b j 0
    outside j u v = one u ∙ two v
      where
        one : Beside j (8 * x) 8 → get_or d j 0 ≡ get_or (sets b p (replicate 5 0)) j 0
        one (inl q) = sets_below (replicate 8 0) (sets b p (replicate 5 0)) (8 * x) j q
        one (inr q) = sets_above (replicate 8 0) (sets b p (replicate 5 0)) (8 * x) j q

        two : Beside j p 5 → get_or (sets b p (replicate 5 0)) j 0 ≡ get_or b j 0
        two (inl q) = sets_below (replicate 5 0) b p j q
        two (inr q) = sets_above (replicate 5 0) b p j q

    behind : front_of n ≤ p
    behind = f.behind x (omega arith) kept

    within : p + 5 ≤ length b
    within = f.within x (omega arith) kept

    long_is : length d ≡ length b
    long_is = length-sets (sets b p (replicate 5 0)) (8 * x) (replicate 8 0) ∙ length-sets b p (replicate 5 0)

    in_line : (i : ℕ) → i < 8 → ◌≡◌ {A = ℕ} (get_or d (8 * x + i) 0) 0
    in_line i l =
        sets_in (replicate 8 0) (sets b p (replicate 5 0)) (8 * x) i (8 * x + i) refl l (omega (arith, length-sets b p (replicate 5 0), behind, within))
        ∙ get_or-replicate 8 i 0 0 l

    in_body : (j : ℕ) → p ≤ j → j < p + 5 → ◌≡◌ {A = ℕ} (get_or d j 0) 0
    in_body j l m =
        sets_above (replicate 8 0) (sets b p (replicate 5 0)) (8 * x) j (omega (arith, behind))
        ∙ sets_in (replicate 5 0) b p (j - p) j (omega arith) (omega arith) within
        ∙ get_or-replicate 5 (j - p) 0 0 (omega arith)

    lines_are : (k : ℕ) → k < lines_of n → k ≢ x → Alike d b k k
    lines_are k l e = line_alike d b k k (λ i m. outside (8 * k + i) (where_is i m (dec_lt k x)) (inl (omega (arith, behind))))
      where
        where_is : (i : ℕ) → i < 8 → Dec (k < x) → Beside (8 * k + i) (8 * x) 8
        where_is i m (yes q) = inl (omega arith)
        where_is i m (no q) = inr (omega arith)

    bodies_are : (k : ℕ) → k < lines_of n → k ≢ x → Kept b k → five_at d (place_at b k) ≡ five_at b (place_at b k)
    bodies_are k l e h = five_alike d b (place_at b k) (place_at b k) (λ i m. outside (place_at b k + i) (inr (omega (arith, f.behind k l h))) (beside i m (f.apart k x l (omega arith) e h kept)))
      where
        beside : (i : ℕ) → i < 5 → Apart (place_at b k) p → Beside (place_at b k + i) p 5
        beside i m (inl q) = inl (omega arith)
        beside i m (inr q) = inr (omega arith)

    gone_is : (place_at d x ≡ 0) × (length_at d x ≡ 0) × (version_at d x ≡ 0)
    gone_is = line_zero d x in_line

    -- what is kept after the drop is not the dropped line, and was kept
    not_it : (k : ℕ) → Kept d k → k ≢ x
    not_it k h e = omega (arith, gone_is.2, ap (version_at d) e)

    was : (k : ℕ) → k < lines_of n → Kept d k → Kept b k
    was k l h = omega (arith, (lines_are k l (not_it k h)).2)

    fits_is : Fits n d
    fits_is =
        record {
          unused = λ k l z. unused_at k l z (ℕ_discrete k x);
          five = λ k l h. (lines_are k l (not_it k h)).1 ∙ f.five k l (was k l h);
          behind = λ k l h. omega (arith, (lines_are k l (not_it k h)).0, f.behind k l (was k l h));
          within = λ k l h. omega (arith, (lines_are k l (not_it k h)).0, f.within k l (was k l h), long_is);
          means = λ k l h.
              ap (λ (y : ℕ). is_setting (setting_at d y)) (lines_are k l (not_it k h)).0
              ∙ ap is_setting (setting_alike d b (place_at b k) (place_at b k) (bodies_are k l (not_it k h) (was k l h)))
              ∙ f.means k l (was k l h);
          apart = λ k l hk hl e u v.
              rw ((lines_are k hk (not_it k u)).0, (lines_are l hl (not_it l v)).0) (f.apart k l hk hl e (was k hk u) (was l hl v));
        }
      where
        unused_at : (k : ℕ) → k < lines_of n → version_at d k ≡ 0 → Dec (k ≡ x) → (place_at d k ≡ 0) × (length_at d k ≡ 0)
        unused_at k l z (yes e) = (ap (place_at d) e ∙ gone_is.0, ap (length_at d) e ∙ gone_is.1)
        unused_at k l z (no e) =
            let a = lines_are k l e in
            let u = f.unused k l (sym a.2 ∙ z) in
            (a.0 ∙ u.0, a.1 ∙ u.1)

    clean_is : Clean n b → Clean n d
    clean_is c j free = go (dec_lt j p) (dec_lt j (p + 5))
      where
        still : Beside j p 5 → ◌≡◌ {A = ℕ} (get_or d j 0) 0
        still o = outside j (inr (omega (arith, free.0))) o ∙ c j (free.0, λ k l h. at k l h (ℕ_discrete k x))
          where
            at : (k : ℕ) → k < lines_of n → Kept b k → Dec (k ≡ x) → Beside j (place_at b k) 5
            at k l h (yes e) = rw e o
            at k l h (no e) = rw (← (lines_are k l e).0) (free.1 k l (omega (arith, (lines_are k l e).2)))

        go : Dec (j < p) → Dec (j < p + 5) → ◌≡◌ {A = ℕ} (get_or d j 0) 0
        go (yes q) r = still (inl q)
        go (no q) (no r) = still (inr (omega arith))
        go (no q) (yes r) = in_body j (omega arith) r

  pub dropped : Dropped n b (drop_oldest_of b slot) slot
  unfolding drop_oldest_of
  dropped = go (is_kept b x) (is_kept_lem b x) (is_unkept b x)
    where
      go : (t : Bool) → (t ≡ true → Kept b x) → (t ≡ false → version_at b x ≡ 0) → Dropped n b (if t then d else b) slot
      go true h g =
          let k = h refl in
          record { long = long_is k; gone = (gone_is k).2; lines = lines_are k; bodies = bodies_are k; fits = fits_is k; clean = clean_is k }
      go false h g =
          record { long = refl; gone = g refl; lines = λ k l e. (refl, refl, refl); bodies = λ k l e h. refl; fits = f; clean = λ c. c }
