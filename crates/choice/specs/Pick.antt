-- Choices and tests.
use Rattle.std.specs.Prelude.{ℕ, ◌≡◌, refl, Bool, true, false, ◌&&◌, ◌||◌, if◌then◌else◌}
use Rattle.std.proofs.Common.{sym, ◌∙◌, arith}

-- what holds of both holds of the choice
pub if_both : {A : Type 0} (P : A → Type 0) (b : Bool) {x y : A} → P x → P y → P (if b then x else y)
if_both P true p q = p
if_both P false p q = q

-- the two halves of a test that holds
pub both : (a b : Bool) → (a && b) ≡ true → (a ≡ true) × (b ≡ true)
both true b e = (refl, e)
both false b e = (let z : false ≡ true = e in cc, cc)

-- a choice of two tests that fails: neither holds
pub neither : (a b : Bool) → (a || b) ≡ false → (a ≡ false) × (b ≡ false)
neither true b e = (let z : true ≡ false = e in cc, cc)
neither false b e = (refl, e)

pub or_true : (a : Bool) → (a || true) ≡ true
or_true true = refl
or_true false = refl

pub and_false : (a : Bool) → (a && false) ≡ false
and_false true = refl
and_false false = refl

-- a test that fails does not hold
pub false_not : {A : Type 0} → false ≡ true → A
false_not z = let w : ◌≡◌ {A = ℕ} 0 1 = cc in absurd (omega arith)

-- two tests that follow from one another
pub same_truth : (a b : Bool) → (a ≡ true → b ≡ true) → (b ≡ true → a ≡ true) → a ≡ b
same_truth true b f g = sym (f refl)
same_truth false true f g = g refl
same_truth false false f g = refl

-- what equals the same thing is equal: two replies that meet a promise by equation
pub determined : {A : Type 0} {x y z : A} → x ≡ z → y ≡ z → x ≡ y
determined p q = p ∙ sym q
