-- Document 02, L11, the writing: the bits of the first n cells over a history, as text.
use Rattle.std.specs.Prelude.{ℕ, zero, suc, ◌+◌, ◌%◌, ◌≤◌, ◌≡◌, List, [], ◌∷◌, ◌++◌, Bool, false, eqb, ltb, length, get_or, set, replicate, if◌then◌else◌}
use Rattle.text.specs.Decimal.{decimal_of}
use Rattle.wave_rules.specs.Lines.{joined}

-- ---- the bits

-- "from all bits 0"; "n up to 94"
unfoldable pub no_bits : List ℕ
no_bits = replicate 94 0

-- "a take sets its cell's bit, a release clears it, any other step only counts": whether a step of this kind turns the
-- bit. A take is kind 1 and a release kind 2 (document 01, "Foreign steps"). Crate `wave_theory` proves that turning bits
-- is what the sentence says (`as_said`).
unfoldable pub turns : ℕ → ℕ → Bool
turns kind bit = if eqb bit 0 then eqb kind 1 else eqb kind 2

-- the bit after it
abbrev pub turned : ℕ → ℕ
turned bit = if eqb bit 0 then 1 else 0

-- "the bits of the first n cells": whether this step changes one of them
unfoldable pub changes_of : ℕ → List ℕ → ℕ → ℕ → Bool
changes_of n bits kind cell = if ltb cell n then turns kind (get_or bits cell 0) else false

-- the bits after a change of this cell
unfoldable pub flip_of : List ℕ → ℕ → List ℕ
flip_of bits cell = set bits cell (turned (get_or bits cell 0))

-- ---- the lines

-- `$timescale 1 ns $end`
unfoldable pub timescale : List ℕ
timescale =
    36 ∷ 116 ∷ 105 ∷ 109 ∷ 101 ∷ 115 ∷ 99 ∷ 97 ∷ 108 ∷ 101 ∷ 32 ∷ 49 ∷ 32 ∷ 110 ∷ 115 ∷ 32 ∷ 36 ∷ 101 ∷ 110 ∷ 100 ∷ []

-- `$scope module t $end`
unfoldable pub scope_line : List ℕ
scope_line =
    36 ∷ 115 ∷ 99 ∷ 111 ∷ 112 ∷ 101 ∷ 32 ∷ 109 ∷ 111 ∷ 100 ∷ 117 ∷ 108 ∷ 101 ∷ 32 ∷ 116 ∷ 32 ∷ 36 ∷ 101 ∷ 110 ∷ 100 ∷ []

-- `$var wire 1 ! c0 $end`: "Codes are the printable characters from `!` (33) up."
unfoldable pub var_line : ℕ → List ℕ
var_line c =
    36 ∷ 118 ∷ 97 ∷ 114 ∷ 32 ∷ 119 ∷ 105 ∷ 114 ∷ 101 ∷ 32 ∷ 49 ∷ 32 ∷ (33 + c) ∷ 32 ∷ 99
    ∷ decimal_of c ++ (32 ∷ 36 ∷ 101 ∷ 110 ∷ 100 ∷ [])

-- `$upscope $end`
unfoldable pub upscope : List ℕ
upscope = 36 ∷ 117 ∷ 112 ∷ 115 ∷ 99 ∷ 111 ∷ 112 ∷ 101 ∷ 32 ∷ 36 ∷ 101 ∷ 110 ∷ 100 ∷ []

-- `$enddefinitions $end`
unfoldable pub end_line : List ℕ
end_line =
    36 ∷ 101 ∷ 110 ∷ 100 ∷ 100 ∷ 101 ∷ 102 ∷ 105 ∷ 110 ∷ 105 ∷ 116 ∷ 105 ∷ 111 ∷ 110 ∷ 115 ∷ 32 ∷ 36 ∷ 101 ∷ 110 ∷ 100 ∷ []

-- `#1`: a time line
unfoldable pub time_line : ℕ → List ℕ
time_line t = 35 ∷ decimal_of t

-- `1!`: a bit, and the code of its cell
unfoldable pub bit_line : ℕ → ℕ → List ℕ
bit_line bit c = (48 + bit) ∷ (33 + c) ∷ []

-- a line for each of `left` cells from c on, and the lines that follow
unfoldable pub each_of : (ℕ → List ℕ) → ℕ → ℕ → List (List ℕ) → List (List ℕ)
each_of line_for c zero ls = ls
each_of line_for c (suc left) ls = line_for c ∷ each_of line_for (c + 1) left ls

-- the variables
abbrev pub vars_of : ℕ → ℕ → List (List ℕ) → List (List ℕ)
vars_of c left ls = each_of var_line c left ls

-- "from all bits 0": the first values
abbrev pub first_of : ℕ → ℕ → List (List ℕ) → List (List ℕ)
first_of c left ls = each_of (bit_line 0) c left ls

-- "After `#0`, a time line stands only where a bit changed": the changes from step t on. A step changes at most one
-- bit, so a time line has one change line.
unfoldable pub body_of : ℕ → ℕ → List ℕ → List ℕ → List (List ℕ)
body_of n t bits [] = []
body_of n t bits (kind ∷ []) = []
body_of n t bits (kind ∷ cell ∷ []) = []
body_of n t bits (kind ∷ cell ∷ number ∷ rest) =
    if changes_of n bits kind cell
    then time_line t ∷ bit_line (turned (get_or bits cell 0)) cell ∷ body_of n (t + 1) (flip_of bits cell) rest
    else body_of n (t + 1) bits rest

-- the lines behind the variables
unfoldable pub middle_of : ℕ → List (List ℕ) → List (List ℕ)
middle_of n ls = upscope ∷ end_line ∷ time_line 0 ∷ first_of 0 n ls

-- steps "numbered from 1, from all bits 0"
unfoldable pub lines_of : ℕ → List ℕ → List (List ℕ)
lines_of n script = timescale ∷ scope_line ∷ vars_of 0 n (middle_of n (body_of n 1 no_bits script))

-- the dump of the first n cells over this history
unfoldable pub dump_of : ℕ → List ℕ → List ℕ
dump_of n script = joined (lines_of n script)

-- which n and histories the writer writes: "n up to 94", "No cells .. refused", "a script of at most 32,768 steps"
pub record Dumpable (n : ℕ) (script : List ℕ) : Type 0 where
  pub some : 1 ≤ n
  pub few : n ≤ 94
  pub whole : length script % 3 ≡ 0
  pub short : length script ≤ 98304
