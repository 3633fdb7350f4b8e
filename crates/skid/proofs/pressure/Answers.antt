-- `skid::pressure` meets its contract. A pattern above the infinity's is a NaN's, whatever its sign.
use mathlib.Core.Path.{◌≡◌, refl, sym, ap, ◌∙◌, subst}
use Prim.Native.Nat.{ℕ, ◌%◌}
use mathlib.Core.Bool.{Bool, true, false, not}
use lib.Dec.{T, ltb}
use lib.Ieee.{Float, nan, inf, fin, binary32, is_nan, nan_bits, of_bits, sub, add, neg}
use lib.Ieee.Bits.{nan_bits_is, nan_bits_above}
use borrow.Author.Tests.{le-ltb, lt-ltb}
use Rattle.setpoint.specs.declared.Setpoint.TheVariants.{Pressure}
use Rattle.skid.proofs.pressure.Goals as goal

-- there is one NaN
the_nan : (x : Float) → is_nan x ≡ true → nan ≡ x
unfolding is_nan
the_nan nan e = refl
the_nan (inf s) e = let z : false ≡ true = e in cc
the_nan (fin s m p) e = let z : false ≡ true = e in cc

-- what the code's test says of what is read
is_nan_lem : (w : ℕ) (b : Bool) → ltb 2139095040 (w % 2147483648) ≡ b → is_nan (of_bits binary32 w) ≡ b
is_nan_lem w b e = sym (nan_bits_is binary32 w) ∙ nan_bits_above binary32 w ∙ e

top_less_top : nan ≡ sub binary32 (of_bits binary32 2139095040) (of_bits binary32 2139095040)
unfolding sub add neg of_bits
top_less_top = refl

pub float_from_bits-top : goal.float_from_bits-top
unfolding nan_bits
float_from_bits-top c = tt

pub float_from_bits-x : goal.float_from_bits-x
float_from_bits-x c = subst (λ (b : Bool). T (not b)) (sym (nan_bits_is binary32 _ ∙ is_nan_lem _ false (le-ltb _ _ c.if-bits-gt2139095040.false))) tt

pub returns-then-bits-gt2139095040 : goal.returns-then-bits-gt2139095040
returns-then-bits-gt2139095040 c = ap Pressure (sym top_less_top ∙ the_nan _ (is_nan_lem _ true (lt-ltb _ _ c.if-bits-gt2139095040.true)))

pub returns : goal.returns
returns c = refl
