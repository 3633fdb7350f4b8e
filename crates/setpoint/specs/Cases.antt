-- Bodies, computed: each sentence of document 02, L2, on a setpoint and its bytes has a case.
use Rattle.std.specs.Prelude.{◌≡◌, refl, [], ◌∷◌, true, false, Some, None, Err}
use Rattle.std.specs.Float.{binary32, nan, inf}
use Rattle.std.specs.Float.Ieee.{of_bits, to_bits}
use Rattle.setpoint.specs.Codec.{is_finite, bytes_of, body_of, encode_of, setting_of, join_of, decode_of}
use Rattle.setpoint.specs.declared.Setpoint.TheVariants.{Pressure, Speed, Valve}

-- 1.5 bar
pub plain : body_of (Pressure (of_bits binary32 0x3fc0_0000)) ≡ 1 ∷ 0 ∷ 0 ∷ 192 ∷ 63 ∷ []
unfolding body_of bytes_of of_bits to_bits
plain = refl

pub minus_zero : body_of (Pressure (of_bits binary32 0x8000_0000)) ≡ 1 ∷ 0 ∷ 0 ∷ 0 ∷ 128 ∷ []
unfolding body_of bytes_of of_bits to_bits
minus_zero = refl

-- the least subnormal
pub least : body_of (Pressure (of_bits binary32 1)) ≡ 1 ∷ 1 ∷ 0 ∷ 0 ∷ 0 ∷ []
unfolding body_of bytes_of of_bits to_bits
least = refl

pub speed : body_of (Speed 258) ≡ 2 ∷ 2 ∷ 1 ∷ 0 ∷ 0 ∷ []
unfolding body_of bytes_of
speed = refl

pub shut : body_of (Valve false) ≡ 3 ∷ 0 ∷ 0 ∷ 0 ∷ 0 ∷ []
unfolding body_of bytes_of
shut = refl

pub wide : body_of (Valve true) ≡ 3 ∷ 1 ∷ 0 ∷ 0 ∷ 0 ∷ []
unfolding body_of bytes_of
wide = refl

pub fastest : decode_of (2 ∷ 255 ∷ 255 ∷ 255 ∷ 255 ∷ []) ≡ Some (Speed 4_294_967_295)
unfolding decode_of join_of setting_of
fastest = refl

-- ---- no encoding: the bytes stay as they were

pub a_nan : encode_of (Pressure nan) (9 ∷ []) ≡ (Err (record {}), 9 ∷ [])
unfolding encode_of is_finite
a_nan = refl

pub an_infinity : encode_of (Pressure (inf true)) (9 ∷ []) ≡ (Err (record {}), 9 ∷ [])
unfolding encode_of is_finite
an_infinity = refl

-- ---- bytes that fit no rule

pub nan_bytes : decode_of (1 ∷ 0 ∷ 0 ∷ 192 ∷ 127 ∷ []) ≡ None
unfolding decode_of join_of setting_of
nan_bytes = refl

pub valve_two : decode_of (3 ∷ 2 ∷ 0 ∷ 0 ∷ 0 ∷ []) ≡ None
unfolding decode_of join_of setting_of
valve_two = refl

pub zeros : decode_of (0 ∷ 0 ∷ 0 ∷ 0 ∷ 0 ∷ []) ≡ None
unfolding decode_of join_of setting_of
zeros = refl

pub fourth_kind : decode_of (4 ∷ 0 ∷ 0 ∷ 0 ∷ 0 ∷ []) ≡ None
unfolding decode_of join_of setting_of
fourth_kind = refl
