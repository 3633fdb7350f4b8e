-- Questions about a stage and a line, which the reader's steps ask.
use Rattle.std.specs.Prelude.{ℕ, ◌-◌, List, length, drop, ◌==◌, nat_eq, nat_lt, slice_index, if◌then◌else◌, Option, Some, None}
use Rattle.text.specs.Text.{digits_in, value_from}
use Rattle.wave_rules.specs.Reader.{time_in, is_time}
use Rattle.wave_rules.specs.declared.Stage.{Stage}
use Rattle.wave_rules.specs.declared.Stage.TheVariants.{Opening, Scope, Variables, Ending, Start, Values, Waiting, Changing}

-- the stages before the changes
abbrev pub Early : Stage → Type 0
Early Opening = Unit {0}
Early Scope = Unit {0}
Early (Variables n) = Unit {0}
Early (Ending n) = Unit {0}
Early (Start n) = Unit {0}
Early (Values n c) = Unit {0}
Early (Waiting n last) = ⊥
Early (Changing n last t) = ⊥

-- what the digits behind a line's first byte come to; 0 if they are not all of it
unfoldable pub sum_of : List ℕ → ℕ
sum_of x = if digits_in (drop 1 x) == length x - 1 then value_from 0 (drop 1 x) else 0

-- the time of a time line up to `#99999`; 0 if it is none (`stamp_is`)
unfoldable pub stamp_of : List ℕ → ℕ
stamp_of x =
    if nat_lt (length x) 2 then 0 else if nat_lt 6 (length x) then 0 else
    if slice_index x 0 == 35 then (if nat_eq (slice_index x 1) 48 then 0 else sum_of x) else 0

-- what a line leads to where a time is waited for
abbrev pub after_time : ℕ → ℕ → List ℕ → Option Stage
after_time n last x = if is_time last x then Some (Changing n last (time_in x)) else None
