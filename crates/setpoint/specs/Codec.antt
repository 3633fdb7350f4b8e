-- Document 02, L2: "A setpoint is a pressure in bar as f32, a speed as a whole number, or a valve open or shut."
use Rattle.std.specs.Prelude.{ℕ, ◌+◌, ◌*◌, ◌/◌, ◌%◌, List, [], ◌∷◌, Bool, true, false, ltb, eqb, get_or, Float, Option, Some, None, Result, Ok, Err, if◌then◌else◌}
use Rattle.std.specs.Float.{nan, inf, fin, binary32}
use Rattle.std.specs.Float.Ieee.{to_bits, of_bits}
use Rattle.setpoint.specs.declared.Setpoint.{Setpoint}
use Rattle.setpoint.specs.declared.Setpoint.TheVariants.{Pressure, Speed, Valve}
use Rattle.setpoint.specs.declared.NotFinite.{NotFinite}

-- ---- writing

-- "A pressure that is not finite: NotFinite."
unfoldable pub is_finite : Float → Bool
is_finite nan = false
is_finite (inf s) = false
is_finite (fin s m e) = true

-- whether a setpoint has a body: every speed and every valve has one
abbrev pub has_body : Setpoint → Bool
has_body (Pressure x) = is_finite x
has_body (Speed n) = true
has_body (Valve b) = true

-- "a kind byte (1, 2, 3 in that order)"
abbrev pub kind_of : Setpoint → ℕ
kind_of (Pressure x) = 1
kind_of (Speed n) = 2
kind_of (Valve b) = 3

-- what the four bytes say: the pattern of an f32, a whole number; "a valve is 0 or 1"
abbrev pub word_of : Setpoint → ℕ
word_of (Pressure x) = to_bits binary32 x
word_of (Speed n) = n
word_of (Valve true) = 1
word_of (Valve false) = 0

-- "four bytes, low byte first"
unfoldable pub bytes_of : ℕ → ℕ → List ℕ
bytes_of kind w = kind ∷ w % 256 ∷ w / 256 % 256 ∷ w / 65536 % 256 ∷ w / 16777216 ∷ []

-- "A body is a kind byte .. and four bytes"
unfoldable pub body_of : Setpoint → List ℕ
body_of s = bytes_of (kind_of s) (word_of s)

-- what stands in five lent bytes afterwards; "refusals change nothing"
unfoldable pub encode_of : Setpoint → List ℕ → Result Unit NotFinite × List ℕ
encode_of s old = if has_body s then (Ok tt, body_of s) else (Err (record {}), old)

-- ---- reading

-- the pattern of a finite value, of either sign: the exponent's field is not all ones
abbrev pub finite_bits : ℕ → Bool
finite_bits w = ltb (w % 2147483648) 2139095040

-- what a kind and a word mean: "A .. body that fits no rule" is no setpoint
unfoldable pub setting_of : ℕ → ℕ → Option Setpoint
setting_of kind w =
    if eqb kind 1 then (if finite_bits w then Some (Pressure (of_bits binary32 w)) else None)
    else if eqb kind 2 then Some (Speed w)
    else if eqb kind 3 then (if eqb w 0 then Some (Valve false) else if eqb w 1 then Some (Valve true) else None)
    else None

-- four bytes, low byte first, as a word
unfoldable pub join_of : ℕ → ℕ → ℕ → ℕ → ℕ
join_of a b c d = a + b * 256 + c * 65536 + d * 16777216

unfoldable pub decode_of : List ℕ → Option Setpoint
decode_of l = setting_of (get_or l 0 0) (join_of (get_or l 1 0) (get_or l 2 0) (get_or l 3 0) (get_or l 4 0))
