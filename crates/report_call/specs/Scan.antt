-- What one pass over the input leaves: the sums with the counts by number, or the number of the first bad line. `Laws` proves that these are the sums over
-- the trials that were read.
use Rattle.std.specs.Prelude.{ℕ, zero, suc, ◌+◌, ◌*◌, ◌≤◌, List, ◌++◌, ltb, length, get_or, set, replicate, if◌then◌else◌}
use Rattle.std.specs.declared.result.Result.{Result}
use Rattle.std.specs.declared.result.Result.TheVariants.{Ok, Err}
use Rattle.std.specs.Option.{option_map_or}
use Rattle.report_rules.specs.declared.Trial.{Trial}
use Rattle.report_rules.specs.declared.Line.{Line}
use Rattle.report_call.specs.declared.Sums.{Sums}
use Rattle.report_rules.specs.Reading.{line_at}
use Rattle.report_rules.specs.Sums.{larger_of}
use Rattle.report_rules.specs.Report.{head_of, rows_of, bad_text}

abbrev pub no_sums : Sums
no_sums = record { trials = 0; attempts = 0; greatest = 0; counts = replicate 17 0 }

-- one more with this number
abbrev pub counted_of : List ℕ → ℕ → List ℕ
counted_of counts number = set counts number (get_or counts number 0 + 1)

-- one trial more in the sums, and in the count of its number
abbrev pub added_of : Sums → Trial → Sums
added_of s t = record { trials = s.trials + 1; attempts = s.attempts + t.attempts; greatest = larger_of s.greatest t.attempts; counts = counted_of s.counts t.refusal }

-- so many lines may still come, and the next begins at `at`; a bad line is the one behind the trials so far
unfoldable pub scan_from : List ℕ → ℕ → ℕ → Sums → Result Sums ℕ
scan_from input zero at s = if ltb at (length input) then Err (s.trials + 1) else Ok s
scan_from input (suc left) at s =
    if ltb at (length input) then
    option_map_or (λ (line : Line). scan_from input left line.next (added_of s line.trial)) (line_at input at) (Err (s.trials + 1))
    else Ok s

unfoldable pub scan_of : List ℕ → Result Sums ℕ
scan_of input = scan_from input 1000 0 no_sums

-- what holds of the sums after every good line, so that no sum wraps
pub record Bounded (s : Sums) : Type 0 where
  pub lines : s.trials ≤ 1000
  pub tries : s.attempts ≤ 262144 * s.trials
  pub few : (number : ℕ) → get_or s.counts number 0 ≤ s.trials

-- how often each number stands in the counts
abbrev pub seen_in : List ℕ → ℕ → ℕ
seen_in counts number = get_or counts number 0

-- the same text, from what a pass leaves
unfoldable pub printed_of : Result Sums ℕ → List ℕ
printed_of (Ok s) = head_of s.trials (get_or s.counts 0 0) s.attempts s.greatest ++ rows_of (seen_in s.counts) 1 16
printed_of (Err n) = bad_text n
