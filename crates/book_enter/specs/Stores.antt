-- Bytes stored one at a time: what is still to be stored from index i on.
use Rattle.std.specs.Prelude.{◌≡◌, ℕ, suc, ◌+◌, ◌≤◌, ◌<◌, List, length, get_or, set, drop}
use Rattle.std.proofs.Common.{ap, ◌∙◌, arith, drop_of_length-le, drop-cons}
use Rattle.std.proofs.lemmas.List.Edits.{sets}

pub stores_more : (b xs : List ℕ) (p i : ℕ) → i < length xs → sets b (p + i) (drop i xs) ≡ sets (set b (p + i) (get_or xs i 0)) (p + (i + 1)) (drop (i + 1) xs)
stores_more b xs p i l =
    let e : suc (p + i) ≡ p + (i + 1) = omega arith in
    let f : suc i ≡ i + 1 = omega arith in
    ap (sets b (p + i)) (drop-cons xs i 0 l)
    ∙ ap (λ (q : ℕ). sets (set b (p + i) (get_or xs i 0)) q (drop (suc i) xs)) e
    ∙ ap (λ (k : ℕ). sets (set b (p + i) (get_or xs i 0)) (p + (i + 1)) (drop k xs)) f

pub stores_end : (b xs : List ℕ) (p i : ℕ) → length xs ≤ i → sets b (p + i) (drop i xs) ≡ b
stores_end b xs p i l = ap (sets b (p + i)) (drop_of_length-le xs l)

pub stores_start : (b xs : List ℕ) (p : ℕ) → sets b (p + 0) (drop 0 xs) ≡ sets b p xs
stores_start b xs p = let e : p + 0 ≡ p = omega arith in ap (λ (q : ℕ). sets b q xs) e
