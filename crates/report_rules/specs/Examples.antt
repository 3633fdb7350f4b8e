-- Document 02's examples of L12 to the byte, and a case for each sentence, computed: the input, and the whole output.
use Rattle.std.specs.Prelude.{◌≡◌, refl, List, [], ◌∷◌, ℕ}
use Rattle.model.specs.Names.{names, name_of}
use Rattle.text.specs.Text.{is_digit, digits_in, value_from, ended_number_of, read_number_of}
use Rattle.text.specs.Decimal.{digit_count_in, digit_count, decimal_of}
use Rattle.print.specs.Print.{piece_of, after_of, form_from, form_of}
use Rattle.report_rules.specs.Reading.{bad_line, results, trial_of, fits_of, end_at, refusal_at, line_at, read_from, read_of}
use Rattle.report_rules.specs.Sums.{count_of, attempts_of, greatest_of}
use Rattle.report_rules.specs.Report.{head_of, row_of, rows_of, text_of, bad_text, answer_of}

-- the report of one granted trial with one attempt, as document 02 prints it
abbrev one_granted : List ℕ
one_granted =
    116 ∷ 114 ∷ 105 ∷ 97 ∷ 108 ∷ 115 ∷ 32 ∷ 49 ∷ 10 ∷ 103 ∷ 114 ∷ 97 ∷ 110 ∷ 116 ∷ 115 ∷ 32 ∷ 49 ∷ 10 ∷ 97 ∷
    116 ∷ 116 ∷ 101 ∷ 109 ∷ 112 ∷ 116 ∷ 115 ∷ 32 ∷ 49 ∷ 32 ∷ 111 ∷ 102 ∷ 32 ∷ 49 ∷ 32 ∷ 116 ∷ 114 ∷ 105 ∷ 97 ∷
    108 ∷ 115 ∷ 10 ∷ 103 ∷ 114 ∷ 101 ∷ 97 ∷ 116 ∷ 101 ∷ 115 ∷ 116 ∷ 32 ∷ 49 ∷ 10 ∷ []

-- `bad line 1`
abbrev bad_first : List ℕ
bad_first =
    98 ∷ 97 ∷ 100 ∷ 32 ∷ 108 ∷ 105 ∷ 110 ∷ 101 ∷ 32 ∷ 49 ∷ 10 ∷ []

-- `bad line 2`
abbrev bad_second : List ℕ
bad_second =
    98 ∷ 97 ∷ 100 ∷ 32 ∷ 108 ∷ 105 ∷ 110 ∷ 101 ∷ 32 ∷ 50 ∷ 10 ∷ []

-- "One granted trial with one attempt prints in full"
one_granted_lem : answer_of (49 ∷ 32 ∷ 48 ∷ 10 ∷ []) ≡ one_granted
unfolding answer_of read_of read_from line_at refusal_at end_at fits_of read_number_of ended_number_of value_from digits_in is_digit text_of head_of rows_of row_of bad_text count_of attempts_of greatest_of name_of names form_of form_from piece_of after_of decimal_of digit_count digit_count_in
one_granted_lem = refl

-- "no trials prints zeros in all four lines"
no_trials :
    answer_of
    ([])
    ≡
    116 ∷ 114 ∷ 105 ∷ 97 ∷ 108 ∷ 115 ∷ 32 ∷ 48 ∷ 10 ∷ 103 ∷ 114 ∷ 97 ∷ 110 ∷ 116 ∷ 115 ∷ 32 ∷ 48 ∷ 10 ∷ 97 ∷
    116 ∷ 116 ∷ 101 ∷ 109 ∷ 112 ∷ 116 ∷ 115 ∷ 32 ∷ 48 ∷ 32 ∷ 111 ∷ 102 ∷ 32 ∷ 48 ∷ 32 ∷ 116 ∷ 114 ∷ 105 ∷ 97 ∷
    108 ∷ 115 ∷ 10 ∷ 103 ∷ 114 ∷ 101 ∷ 97 ∷ 116 ∷ 101 ∷ 115 ∷ 116 ∷ 32 ∷ 48 ∷ 10 ∷ []
unfolding answer_of read_of read_from line_at refusal_at end_at fits_of read_number_of ended_number_of value_from digits_in is_digit text_of head_of rows_of row_of bad_text count_of attempts_of greatest_of name_of names form_of form_from piece_of after_of decimal_of digit_count digit_count_in
no_trials = refl

-- "A refused trial counts in trials and attempts; one refusal 11 prints `11 SerializationFailure 1`"
one_refused :
    answer_of
    (52 ∷ 48 ∷ 57 ∷ 54 ∷ 32 ∷ 49 ∷ 49 ∷ 10 ∷ [])
    ≡
    116 ∷ 114 ∷ 105 ∷ 97 ∷ 108 ∷ 115 ∷ 32 ∷ 49 ∷ 10 ∷ 103 ∷ 114 ∷ 97 ∷ 110 ∷ 116 ∷ 115 ∷ 32 ∷ 48 ∷ 10 ∷ 97 ∷
    116 ∷ 116 ∷ 101 ∷ 109 ∷ 112 ∷ 116 ∷ 115 ∷ 32 ∷ 52 ∷ 48 ∷ 57 ∷ 54 ∷ 32 ∷ 111 ∷ 102 ∷ 32 ∷ 49 ∷ 32 ∷ 116 ∷
    114 ∷ 105 ∷ 97 ∷ 108 ∷ 115 ∷ 10 ∷ 103 ∷ 114 ∷ 101 ∷ 97 ∷ 116 ∷ 101 ∷ 115 ∷ 116 ∷ 32 ∷ 52 ∷ 48 ∷ 57 ∷ 54 ∷
    10 ∷ 49 ∷ 49 ∷ 32 ∷ 83 ∷ 101 ∷ 114 ∷ 105 ∷ 97 ∷ 108 ∷ 105 ∷ 122 ∷ 97 ∷ 116 ∷ 105 ∷ 111 ∷ 110 ∷ 70 ∷ 97 ∷
    105 ∷ 108 ∷ 117 ∷ 114 ∷ 101 ∷ 32 ∷ 49 ∷ 10 ∷ []
unfolding answer_of read_of read_from line_at refusal_at end_at fits_of read_number_of ended_number_of value_from digits_in is_digit text_of head_of rows_of row_of bad_text count_of attempts_of greatest_of name_of names form_of form_from piece_of after_of decimal_of digit_count digit_count_in
one_refused = refl

-- "one line for each refusal seen, in number order"; the greatest is a refused one
in_number_order :
    answer_of
    (50 ∷ 32 ∷ 49 ∷ 54 ∷ 10 ∷ 57 ∷ 32 ∷ 49 ∷ 10 ∷ 51 ∷ 32 ∷ 48 ∷ 10 ∷ 55 ∷ 32 ∷ 49 ∷ 54 ∷ 10 ∷ [])
    ≡
    116 ∷ 114 ∷ 105 ∷ 97 ∷ 108 ∷ 115 ∷ 32 ∷ 52 ∷ 10 ∷ 103 ∷ 114 ∷ 97 ∷ 110 ∷ 116 ∷ 115 ∷ 32 ∷ 49 ∷ 10 ∷ 97 ∷
    116 ∷ 116 ∷ 101 ∷ 109 ∷ 112 ∷ 116 ∷ 115 ∷ 32 ∷ 50 ∷ 49 ∷ 32 ∷ 111 ∷ 102 ∷ 32 ∷ 52 ∷ 32 ∷ 116 ∷ 114 ∷ 105 ∷
    97 ∷ 108 ∷ 115 ∷ 10 ∷ 103 ∷ 114 ∷ 101 ∷ 97 ∷ 116 ∷ 101 ∷ 115 ∷ 116 ∷ 32 ∷ 57 ∷ 10 ∷ 49 ∷ 32 ∷ 66 ∷ 97 ∷
    100 ∷ 83 ∷ 104 ∷ 97 ∷ 112 ∷ 101 ∷ 32 ∷ 49 ∷ 10 ∷ 49 ∷ 54 ∷ 32 ∷ 83 ∷ 116 ∷ 97 ∷ 108 ∷ 101 ∷ 66 ∷ 111 ∷
    111 ∷ 116 ∷ 32 ∷ 50 ∷ 10 ∷ []
unfolding answer_of read_of read_from line_at refusal_at end_at fits_of read_number_of ended_number_of value_from digits_in is_digit text_of head_of rows_of row_of bad_text count_of attempts_of greatest_of name_of names form_of form_from piece_of after_of decimal_of digit_count digit_count_in
in_number_order = refl

-- "attempts up to 262,144"
most_attempts :
    answer_of
    (50 ∷ 54 ∷ 50 ∷ 49 ∷ 52 ∷ 52 ∷ 32 ∷ 48 ∷ 10 ∷ [])
    ≡
    116 ∷ 114 ∷ 105 ∷ 97 ∷ 108 ∷ 115 ∷ 32 ∷ 49 ∷ 10 ∷ 103 ∷ 114 ∷ 97 ∷ 110 ∷ 116 ∷ 115 ∷ 32 ∷ 49 ∷ 10 ∷ 97 ∷
    116 ∷ 116 ∷ 101 ∷ 109 ∷ 112 ∷ 116 ∷ 115 ∷ 32 ∷ 50 ∷ 54 ∷ 50 ∷ 49 ∷ 52 ∷ 52 ∷ 32 ∷ 111 ∷ 102 ∷ 32 ∷ 49 ∷
    32 ∷ 116 ∷ 114 ∷ 105 ∷ 97 ∷ 108 ∷ 115 ∷ 10 ∷ 103 ∷ 114 ∷ 101 ∷ 97 ∷ 116 ∷ 101 ∷ 115 ∷ 116 ∷ 32 ∷ 50 ∷ 54 ∷
    50 ∷ 49 ∷ 52 ∷ 52 ∷ 10 ∷ []
unfolding answer_of read_of read_from line_at refusal_at end_at fits_of read_number_of ended_number_of value_from digits_in is_digit text_of head_of rows_of row_of bad_text count_of attempts_of greatest_of name_of names form_of form_from piece_of after_of decimal_of digit_count digit_count_in
most_attempts = refl

-- one more
too_many_attempts : answer_of (50 ∷ 54 ∷ 50 ∷ 49 ∷ 52 ∷ 53 ∷ 32 ∷ 48 ∷ 10 ∷ []) ≡ bad_first
unfolding answer_of read_of read_from line_at refusal_at end_at fits_of read_number_of ended_number_of value_from digits_in is_digit text_of head_of rows_of row_of bad_text count_of attempts_of greatest_of name_of names form_of form_from piece_of after_of decimal_of digit_count digit_count_in
too_many_attempts = refl

-- "refusal 1 to 16 or 0 for granted"
no_such_refusal : answer_of (49 ∷ 32 ∷ 48 ∷ 10 ∷ 49 ∷ 32 ∷ 49 ∷ 55 ∷ 10 ∷ []) ≡ bad_second
unfolding answer_of read_of read_from line_at refusal_at end_at fits_of read_number_of ended_number_of value_from digits_in is_digit text_of head_of rows_of row_of bad_text count_of attempts_of greatest_of name_of names form_of form_from piece_of after_of decimal_of digit_count digit_count_in
no_such_refusal = refl

-- "without leading zeros"
padded_attempts : answer_of (48 ∷ 49 ∷ 32 ∷ 48 ∷ 10 ∷ []) ≡ bad_first
unfolding answer_of read_of read_from line_at refusal_at end_at fits_of read_number_of ended_number_of value_from digits_in is_digit text_of head_of rows_of row_of bad_text count_of attempts_of greatest_of name_of names form_of form_from piece_of after_of decimal_of digit_count digit_count_in
padded_attempts = refl

-- the same of the refusal
padded_refusal : answer_of (49 ∷ 32 ∷ 48 ∷ 49 ∷ 10 ∷ []) ≡ bad_first
unfolding answer_of read_of read_from line_at refusal_at end_at fits_of read_number_of ended_number_of value_from digits_in is_digit text_of head_of rows_of row_of bad_text count_of attempts_of greatest_of name_of names form_of form_from piece_of after_of decimal_of digit_count digit_count_in
padded_refusal = refl

-- "line feed": the last line has none
no_feed : answer_of (49 ∷ 32 ∷ 48 ∷ 10 ∷ 49 ∷ 32 ∷ 48 ∷ []) ≡ bad_second
unfolding answer_of read_of read_from line_at refusal_at end_at fits_of read_number_of ended_number_of value_from digits_in is_digit text_of head_of rows_of row_of bad_text count_of attempts_of greatest_of name_of names form_of form_from piece_of after_of decimal_of digit_count digit_count_in
no_feed = refl

-- "a space"
two_spaces : answer_of (49 ∷ 32 ∷ 32 ∷ 48 ∷ 10 ∷ []) ≡ bad_first
unfolding answer_of read_of read_from line_at refusal_at end_at fits_of read_number_of ended_number_of value_from digits_in is_digit text_of head_of rows_of row_of bad_text count_of attempts_of greatest_of name_of names form_of form_from piece_of after_of decimal_of digit_count digit_count_in
two_spaces = refl

-- a line with nothing in it
empty_line : answer_of (10 ∷ 49 ∷ 32 ∷ 48 ∷ 10 ∷ []) ≡ bad_first
unfolding answer_of read_of read_from line_at refusal_at end_at fits_of read_number_of ended_number_of value_from digits_in is_digit text_of head_of rows_of row_of bad_text count_of attempts_of greatest_of name_of names form_of form_from piece_of after_of decimal_of digit_count digit_count_in
empty_line = refl

-- "A bad line N .. prints only `bad line N`": the first, whatever follows
first_bad : answer_of (49 ∷ 32 ∷ 48 ∷ 10 ∷ 120 ∷ 10 ∷ 49 ∷ 32 ∷ 48 ∷ 10 ∷ 121 ∷ 10 ∷ []) ≡ bad_second
unfolding answer_of read_of read_from line_at refusal_at end_at fits_of read_number_of ended_number_of value_from digits_in is_digit text_of head_of rows_of row_of bad_text count_of attempts_of greatest_of name_of names form_of form_from piece_of after_of decimal_of digit_count digit_count_in
first_bad = refl

-- where two lines may come, two are read
two_of_two : read_from (49 ∷ 32 ∷ 48 ∷ 10 ∷ 49 ∷ 32 ∷ 48 ∷ 10 ∷ []) 2 1 0 ≡ results (trial_of 1 0 ∷ trial_of 1 0 ∷ [])
unfolding answer_of read_of read_from line_at refusal_at end_at fits_of read_number_of ended_number_of value_from digits_in is_digit text_of head_of rows_of row_of bad_text count_of attempts_of greatest_of name_of names form_of form_from piece_of after_of decimal_of digit_count digit_count_in
two_of_two = refl

-- and the third is bad, whatever it holds: a good line, a byte. `read_of` lets 1,000 come, and line 1,001 is bad
third_of_two : read_from (49 ∷ 32 ∷ 48 ∷ 10 ∷ 49 ∷ 32 ∷ 48 ∷ 10 ∷ 49 ∷ 32 ∷ 48 ∷ 10 ∷ []) 2 1 0 ≡ bad_line 3
unfolding answer_of read_of read_from line_at refusal_at end_at fits_of read_number_of ended_number_of value_from digits_in is_digit text_of head_of rows_of row_of bad_text count_of attempts_of greatest_of name_of names form_of form_from piece_of after_of decimal_of digit_count digit_count_in
third_of_two = refl

byte_of_two : read_from (49 ∷ 32 ∷ 48 ∷ 10 ∷ 49 ∷ 32 ∷ 48 ∷ 10 ∷ 49 ∷ []) 2 1 0 ≡ bad_line 3
unfolding answer_of read_of read_from line_at refusal_at end_at fits_of read_number_of ended_number_of value_from digits_in is_digit text_of head_of rows_of row_of bad_text count_of attempts_of greatest_of name_of names form_of form_from piece_of after_of decimal_of digit_count digit_count_in
byte_of_two = refl
