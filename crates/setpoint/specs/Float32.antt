-- What binary32 gives the codec: which values are finite, by comparison and by pattern.
use Rattle.std.specs.Prelude.{◌≡◌, refl, ℕ, zero, suc, ◌+◌, ◌/◌, ◌%◌, ◌≤◌, ◌<◌, Bool, true, false, not, cond, T, ltb, leb, eqb, Float}
use Rattle.std.proofs.Common.{sym, ap, ◌∙◌, subst, arith, ltb-true, ltb-false, eq-eqb, ne_eqb}
use Rattle.std.specs.Float.{nan, inf, fin, binary32, float_is_finite}
use Rattle.std.specs.Float.Ieee.{is_nan, nan_bits, odd, of_fields, of_bits, to_bits, fits, eq, ne, neg}
use Rattle.std.specs.Float.Ieee.Bits.{of_bits-to_bits, to_bits-of_bits, nan_bits_is}
use Rattle.setpoint.specs.Codec.{is_finite, finite_bits, has_body}
use Rattle.setpoint.specs.declared.Setpoint.{Setpoint}
use Rattle.setpoint.specs.declared.Setpoint.TheVariants.{Pressure}

-- the infinity's pattern
abbrev pub top : Float
top = of_bits binary32 2139095040

-- the three tests of the code
pub finite_nan : (x : Float) → is_nan x ≡ true → is_finite x ≡ false
unfolding is_finite is_nan
finite_nan nan e = refl
finite_nan (inf s) e = refl
finite_nan (fin s m p) e = let z : false ≡ true = e in cc

pub finite_above : (x : Float) → is_nan x ≡ false → ne x top ≡ true → is_finite x ≡ ne x (neg top)
unfolding is_finite is_nan ne eq neg of_bits
finite_above nan f e = let z : true ≡ false = f in cc
finite_above (inf true) f e = refl
finite_above (inf false) f e = let z : false ≡ true = e in cc
finite_above (fin s m p) f e = refl

pub finite_below : (x : Float) → ne x top ≡ false → is_finite x ≡ false
unfolding is_finite ne eq of_bits
finite_below nan e = refl
finite_below (inf s) e = refl
finite_below (fin s m p) e = let z : true ≡ false = e in cc

-- the library's test says the same
pub is_finite_lem : (x : Float) → float_is_finite x ≡ is_finite x
unfolding is_finite float_is_finite
is_finite_lem nan = refl
is_finite_lem (inf s) = refl
is_finite_lem (fin s m e) = refl

no_nan : (x : Float) → is_finite x ≡ true → T (not (is_nan x))
unfolding is_finite is_nan
no_nan nan e = let z : false ≡ true = e in absurd (subst T (sym z) tt)
no_nan (inf s) e = tt
no_nan (fin s m p) e = tt

-- `f32::to_bits` is defined at a pressure that has a body
pub pressure_no_nan : (s : Setpoint) (x : Float) → s ≡ Pressure x → has_body s ≡ true → T (not (is_nan x))
pressure_no_nan s x e h = no_nan x (sym (ap has_body e) ∙ h)

-- ---- a pattern is finite by its exponent's field

odd_finite : (d : ℕ) (s : Bool) (q k l : ℕ) → is_finite (odd d s q k l) ≡ true
unfolding odd is_finite
odd_finite d s zero k l = refl
odd_finite d s (suc q) k l = refl

by_test : (a b : Bool) (s : Bool) (v : Float) → is_finite v ≡ true → is_finite (cond a (cond b (inf s) nan) v) ≡ not a
unfolding is_finite
by_test true true s v h = refl
by_test true false s v h = refl
by_test false b s v h = h

fields_finite : (s : Bool) (x t : ℕ) → is_finite (of_fields binary32 s x t) ≡ not (eqb x 255)
unfolding of_fields
fields_finite s zero t = odd_finite 24 s t 0 149
fields_finite s (suc x) t = by_test (eqb (suc x) 255) (eqb t 0) s (odd 24 s (8388608 + t) x 149) (odd_finite 24 s (8388608 + t) x 149)

-- no field is above 255
field_test : (r : ℕ) → r < 2147483648 → not (eqb (r / 8388608) 255) ≡ ltb r 2139095040
field_test r h = go (ltb r 2139095040) (λ e. ltb-true r 2139095040 e) (λ e. ltb-false r 2139095040 e)
  where
    go : (b : Bool) → (b ≡ true → r < 2139095040) → (b ≡ false → 2139095040 ≤ r) → not (eqb (r / 8388608) 255) ≡ b
    go true f g = let l = f refl in let n : r / 8388608 ≡ 255 → ⊥ = (λ e. omega arith) in ap not (ne_eqb (r / 8388608) 255 n)
    go false f g = let l = g refl in ap not (eq-eqb (r / 8388608) 255 (omega arith))

pub finite_bits_lem : (w : ℕ) → is_finite (of_bits binary32 w) ≡ finite_bits w
unfolding of_bits
finite_bits_lem w = fields_finite (leb 2147483648 w) (w % 2147483648 / 8388608) (w % 8388608) ∙ field_test (w % 2147483648) (omega arith)

-- `f32::from_bits` is defined at such a pattern
pattern_no_nan : (w : ℕ) → finite_bits w ≡ true → T (not (is_nan (of_bits binary32 w)))
pattern_no_nan w e = no_nan (of_bits binary32 w) (finite_bits_lem w ∙ e)

pub from_bits : (w : ℕ) → finite_bits w ≡ true → T (not (nan_bits binary32 w))
from_bits w e = subst (λ (b : Bool). T (not b)) (sym (nan_bits_is binary32 w)) (pattern_no_nan w e)

-- ---- there and back

pub value_back : (x : Float) → T (fits binary32 x) → of_bits binary32 (to_bits binary32 x) ≡ x
value_back x f = of_bits-to_bits binary32 x f

pub pattern_back : (w : ℕ) → w < 4294967296 → finite_bits w ≡ true → to_bits binary32 (of_bits binary32 w) ≡ w
pattern_back w l e = to_bits-of_bits binary32 w l (pattern_no_nan w e)

-- a finite value's pattern is finite
pub bits_finite : (x : Float) → T (fits binary32 x) → is_finite x ≡ true → finite_bits (to_bits binary32 x) ≡ true
bits_finite x f e = sym (finite_bits_lem (to_bits binary32 x)) ∙ ap is_finite (value_back x f) ∙ e
