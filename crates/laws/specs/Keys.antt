-- The cell that a key names: it is in range, and its header is the key's, which was read healthy.
use Rattle.std.specs.Prelude.{ℕ, ◌+◌, ◌*◌, ◌<◌, ◌≡◌, refl, List, Bool, true, false, leb, get_or, if◌then◌else◌, Ok, Err}
use Rattle.std.proofs.Common.{sym, ap, ◌∙◌, arith, mul-le-mul_right, suc-mul, add-zero, leb-false, eqb-true}
use Rattle.std.proofs.Math.Nat.{mul-add-div_right, div-eq_of_lt}
use Rattle.std.proofs.lemmas.Bool.{not-false}
use Rattle.types.specs.Checks.{Found}
use Rattle.model.specs.Arena.{cell_number, header_of, is_poisoned}
use Rattle.model.specs.Lock.{find_of}
use Rattle.types.specs.declared.Refusal.TheVariants as refusal

pub place_inside : (headers buckets header bucket : ℕ) → header < headers → bucket < buckets → cell_number buckets header bucket < headers * buckets
place_inside headers buckets header bucket p q = omega (arith, mul-le-mul_right buckets p, suc-mul header buckets)

pub header_of_key_lem : (buckets header bucket : ℕ) → bucket < buckets → header_of buckets (cell_number buckets header bucket) ≡ header
header_of_key_lem buckets header bucket p =
    mul-add-div_right (omega arith) header bucket ∙ ap (λ (n : ℕ). header + n) (div-eq_of_lt p) ∙ add-zero header

abbrev one : Bool → ℕ
one true = 1
one false = 0

find_both : (headers buckets : ℕ) (g registry : List ℕ) (binding bucket c : ℕ) → find_of headers buckets g registry binding bucket ≡ Ok c
    → (c < headers * buckets) × (get_or g (header_of buckets c) 0 ≡ 0)
unfolding find_of
find_both headers buckets g registry binding bucket = go (leb headers header) (is_poisoned g header) (leb buckets bucket) refl refl refl
  where
    header : ℕ
    header = get_or registry binding 0

    Inside : Found → Type 0
    Inside k = (c : ℕ) → k ≡ Ok c → (c < headers * buckets) × (get_or g (header_of buckets c) 0 ≡ 0)

    go : (x y z : Bool) → leb headers header ≡ x → is_poisoned g header ≡ y → leb buckets bucket ≡ z
        → Inside (if x then Err (refusal.BadHeader header) else if y then Err (refusal.Poisoned header) else if z then Err (refusal.InvalidBucket bucket) else Ok (cell_number buckets header bucket))
    go true y z p h q c e = let w : true ≡ false = cc in absurd (omega (arith, ap one w))
    go false true z p h q c e = let w : true ≡ false = cc in absurd (omega (arith, ap one w))
    go false false true p h q c e = let w : true ≡ false = cc in absurd (omega (arith, ap one w))
    go false false false p h q c e =
        let w : cell_number buckets header bucket ≡ c = cc in
        let k = header_of_key_lem buckets header bucket (leb-false _ _ q) in (
          omega (arith, place_inside headers buckets header bucket (leb-false _ _ p) (leb-false _ _ q)),
          ap (λ (d : ℕ). get_or g (header_of buckets d) 0) (sym w) ∙ ap (λ (i : ℕ). get_or g i 0) k ∙ eqb-true _ _ (not-false _ h),
        )

pub find_inside : (headers buckets : ℕ) (g registry : List ℕ) (binding bucket c : ℕ) → find_of headers buckets g registry binding bucket ≡ Ok c → c < headers * buckets
find_inside headers buckets g registry binding bucket c e = (find_both headers buckets g registry binding bucket c e).0

pub find_healthy : (headers buckets : ℕ) (g registry : List ℕ) (binding bucket c : ℕ) → find_of headers buckets g registry binding bucket ≡ Ok c
    → get_or g (header_of buckets c) 0 ≡ 0
find_healthy headers buckets g registry binding bucket c e = (find_both headers buckets g registry binding bucket c e).1
