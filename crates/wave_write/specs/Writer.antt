-- What the writer's steps leave: bytes at a place (`put_of` of crate `print`), and the bits after a step.
use Rattle.std.specs.Prelude.{ℕ, ◌+◌, List, [], ◌∷◌, ◌++◌, Bool, true, false, eqb, get_or, if◌then◌else◌}
use Rattle.print.specs.Print.{put_of}
use Rattle.text.specs.Decimal.{digit_count}
use Rattle.wave_rules.specs.Lines.{joined}
use Rattle.wave_rules.specs.Dump.{turned, changes_of, flip_of, timescale, scope_line, upscope, end_line, time_line, bit_line, vars_of, first_of}

-- the bit that a take or a release leaves
unfoldable pub wanted_of : ℕ → ℕ
wanted_of kind = if eqb kind 1 then 1 else 0

-- whether a step changes a bit, and the bits after it
unfoldable pub flipped_of : ℕ → List ℕ → ℕ → ℕ → Bool × List ℕ
flipped_of n bits kind cell = if changes_of n bits kind cell then (true, flip_of bits cell) else (false, bits)

-- one step: where its lines end, the bits after it, and the run
unfoldable pub step_of : ℕ → ℕ → List ℕ → ℕ → ℕ → List ℕ → ℕ → ℕ × (List ℕ × List ℕ)
step_of n t bits kind cell out at =
    let o = put_of out at (joined (time_line t ∷ bit_line (turned (get_or bits cell 0)) cell ∷ [])) in
    if changes_of n bits kind cell then (o.0, (flip_of bits cell, o.1)) else (at, (bits, out))

-- the bytes of one step, and the bits after it
unfoldable pub weigh_of : ℕ → ℕ → List ℕ → ℕ → ℕ → ℕ × List ℕ
weigh_of n t bits kind cell = if changes_of n bits kind cell then (digit_count t + 5, flip_of bits cell) else (0, bits)

-- the lines before the first change
unfoldable pub head_of : ℕ → List ℕ
head_of n = joined (timescale ∷ scope_line ∷ []) ++ (joined (vars_of 0 n []) ++ (joined (upscope ∷ end_line ∷ time_line 0 ∷ []) ++ joined (first_of 0 n [])))
