-- Runs of numbers, for arena and text alike: what is left from a place on begins with what stands there; one run put behind another.
use Rattle.std.specs.Prelude.{ℕ, suc, ◌+◌, ◌<◌, ◌≡◌, List, [], ◌∷◌, ◌++◌, length, get_or, set, drop}
use Rattle.std.proofs.Common.{add-one, arith, drop-cons}
use Rattle.std.proofs.lemmas.List.Edits.{sets}

pub drop_one : (l : List ℕ) (i : ℕ) → i < length l → drop i l ≡ get_or l i 0 ∷ drop (i + 1) l
drop_one l i b = rw (add-one i) (drop-cons l i 0 b)

drop_two : (l : List ℕ) (i : ℕ) → i + 1 < length l → drop i l ≡ get_or l i 0 ∷ get_or l (i + 1) 0 ∷ drop (i + 2) l
drop_two l i b = let e : i + 1 + 1 ≡ i + 2 = omega arith in rw (drop_one l i (omega arith), drop_one l (i + 1) b, e)

pub drop_three : (l : List ℕ) (i : ℕ) → i + 2 < length l → drop i l ≡ get_or l i 0 ∷ get_or l (i + 1) 0 ∷ get_or l (i + 2) 0 ∷ drop (i + 3) l
drop_three l i b = let e : i + 2 + 1 ≡ i + 3 = omega arith in rw (drop_two l i (omega arith), drop_one l (i + 2) b, e)

pub sets_sets : (l a b : List ℕ) (i : ℕ) → sets (sets l i a) (i + length a) b ≡ sets l i (a ++ b)
sets_sets l [] b i = let e : i + 0 ≡ i = omega arith in rw e
sets_sets l (x ∷ a) b i = let e : i + suc (length a) ≡ suc i + length a = omega arith in rw e (sets_sets (set l i x) a b (suc i))
