-- A run of stores, byte by byte: what stands inside it, and what stands outside.
use Rattle.std.specs.Prelude.{◌≡◌, refl, ℕ, zero, suc, ◌+◌, ◌≤◌, ◌<◌, List, [], ◌∷◌, length, get_or, set}
use Rattle.std.proofs.Common.{◌∙◌, arith, length-set, get_or-set_same, get_or-set_other}
use Rattle.std.proofs.lemmas.List.Edits.{sets}
use Rattle.book_rules.specs.Layout.{five_at}

pub sets_below : (xs b : List ℕ) (p j : ℕ) → j < p → get_or (sets b p xs) j 0 ≡ get_or b j 0
sets_below [] b p j h = refl
sets_below (x ∷ xs) b p j h = sets_below xs (set b p x) (suc p) j (omega arith) ∙ get_or-set_other b p j x 0 (omega arith)

pub sets_above : (xs b : List ℕ) (p j : ℕ) → p + length xs ≤ j → get_or (sets b p xs) j 0 ≡ get_or b j 0
sets_above [] b p j h = refl
sets_above (x ∷ xs) b p j h = sets_above xs (set b p x) (suc p) j (omega arith) ∙ get_or-set_other b p j x 0 (omega arith)

pub sets_in : (xs b : List ℕ) (p i j : ℕ) → j ≡ p + i → i < length xs → p + length xs ≤ length b → get_or (sets b p xs) j 0 ≡ get_or xs i 0
sets_in [] b p i j e h l = absurd (omega arith)
sets_in (x ∷ xs) b p zero j e h l =
    let at : j ≡ p = omega arith in
    rw at (sets_below xs (set b p x) (suc p) p (omega arith) ∙ get_or-set_same b p x 0 (omega arith))
sets_in (x ∷ xs) b p (suc i) j e h l =
    sets_in xs (set b p x) (suc p) i j (omega arith) (omega arith) (omega (arith, length-set b p x))

-- ---- a body, whole

pub five_in : (b : List ℕ) (p x0 x1 x2 x3 x4 : ℕ) → p + 5 ≤ length b
    → five_at (sets b p (x0 ∷ x1 ∷ x2 ∷ x3 ∷ x4 ∷ [])) p ≡ x0 ∷ x1 ∷ x2 ∷ x3 ∷ x4 ∷ []
unfolding five_at
five_in b p x0 x1 x2 x3 x4 l =
    let xs = x0 ∷ x1 ∷ x2 ∷ x3 ∷ x4 ∷ [] in
    rw (
      sets_in xs b p 0 p (omega arith) (omega arith) (omega arith),
      sets_in xs b p 1 (p + 1) refl (omega arith) (omega arith),
      sets_in xs b p 2 (p + 2) refl (omega arith) (omega arith),
      sets_in xs b p 3 (p + 3) refl (omega arith) (omega arith),
      sets_in xs b p 4 (p + 4) refl (omega arith) (omega arith),
    )
