-- Document 02, L12: the trials that stand in the input.
use Rattle.std.specs.Prelude.{ℕ, zero, suc, ◌+◌, ◌≤◌, List, [], ◌∷◌, eqb, ltb, leb, length, get_or, drop, if◌then◌else◌, Some, None}
use Rattle.std.specs.declared.option.Option.{Option}
use Rattle.std.specs.Option.{option_and_then, option_map_or}
use Rattle.text.specs.declared.Number.{Number}
use Rattle.text.specs.Text.{read_number_of}
use Rattle.report_rules.specs.declared.Trial.{Trial}
use Rattle.report_rules.specs.declared.Line.{Line}

abbrev pub trial_of : ℕ → ℕ → Trial
trial_of attempts refusal = record { attempts = attempts; refusal = refusal }

-- a trial as it may be: "attempts up to 262,144 .. refusal 1 to 16 or 0 for granted"
pub record Small (t : Trial) : Type 0 where
  pub tries : t.attempts ≤ 262144
  pub known : t.refusal ≤ 16

-- no trial stands there
abbrev pub no_line : Option Line
no_line = None

abbrev pub line_with : ℕ → ℕ → ℕ → Option Line
line_with attempts refusal next = Some (record { trial = trial_of attempts refusal; next = next })

-- "line feed": the line ends at `at`, and the next begins behind it
unfoldable pub end_at : List ℕ → ℕ → ℕ → ℕ → Option Line
end_at input at attempts refusal =
    if eqb (get_or input at 0) 10 then line_with attempts refusal (at + 1) else no_line

-- the number that stands there, if it is at most this
unfoldable pub fits_of : Option Number → ℕ → Option Number
fits_of None most = None
fits_of (Some number) most = if leb number.value most then Some number else None

-- "a space, refusal 1 to 16 or 0 for granted, decimal without leading zeros", from `at` on
unfoldable pub refusal_at : List ℕ → ℕ → ℕ → Option Line
refusal_at input at attempts =
    if eqb (get_or input at 0) 32 then
    option_and_then (λ (number : Number). end_at input (at + 1 + number.digits) attempts number.value) (fits_of (read_number_of (drop (at + 1) input)) 16)
    else no_line

-- "a line each (attempts up to 262,144, ..": the line that begins at `at`
unfoldable pub line_at : List ℕ → ℕ → Option Line
line_at input at =
    option_and_then (λ (number : Number). refusal_at input (at + number.digits) number.value) (fits_of (read_number_of (drop at input)) 262144)

-- what was read: the first line that is bad, or all trials in their order
pub data Reading : Type 0 where
  bad_line : ℕ → Reading
  results : List Trial → Reading

-- a trial in front of what the rest reads as
abbrev pub onto : Trial → Reading → Reading
onto t (bad_line n) = bad_line n
onto t (results ts) = results (t ∷ ts)

-- "up to 1,000 acquisition trials"; "a bad line N, or line 1,001": so many lines may still come; the next is line n and begins at `at`
unfoldable pub read_from : List ℕ → ℕ → ℕ → ℕ → Reading
read_from input zero n at = if ltb at (length input) then bad_line n else results []
read_from input (suc left) n at =
    if ltb at (length input) then
    option_map_or (λ (line : Line). onto line.trial (read_from input left (n + 1) line.next)) (line_at input at) (bad_line n)
    else results []

unfoldable pub read_of : List ℕ → Reading
read_of input = read_from input 1000 1 0
