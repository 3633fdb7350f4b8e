-- A run that is filled to its end is all of one value, whatever stood there.
use Rattle.std.specs.Prelude.{ℕ, ◌≤◌, ◌≡◌, List, ◌++◌, length, replicate, drop}
use Rattle.std.proofs.Common.{ap, ◌∙◌, append-nil, arith, drop_of_length-le}

pub filled : (t d : List ℕ) (i v : ℕ) → t ≡ replicate i v ++ drop i d → i ≤ length d → length d ≤ i → t ≡ replicate (length d) v
filled t d i v e l h =
    let k : i ≡ length d = omega arith in
    e ∙ ap (λ (x : List ℕ). replicate i v ++ x) (drop_of_length-le d h) ∙ append-nil (replicate i v) ∙ ap (λ (n : ℕ). replicate n v) k
