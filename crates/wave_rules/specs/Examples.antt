-- Document 02's dump, to the byte; and a computed case for each of its sentences.
use Rattle.std.specs.Prelude.{ℕ, ◌≡◌, refl, List, [], ◌∷◌, ◌++◌, replicate, Ok, Err}
use Rattle.text.specs.Text.{is_digit, digits_in, value_from, ended_number_of, read_number_of}
use Rattle.wave_rules.specs.declared.WriteRefusal.TheVariants as write_refusal
use Rattle.wave_rules.specs.declared.ReadRefusal.TheVariants as read_refusal
use Rattle.wave_rules.specs.Calls.{bad_history, too_wide, fitted_of, write_of, read_into_of}
use Rattle.text.specs.Decimal.{digit_count_in, digit_count, decimal_of}
use Rattle.wave_rules.specs.Lines.{joined, split_of, same}
use Rattle.wave_rules.specs.Dump.{no_bits, turns, changes_of, flip_of, timescale, scope_line, var_line, upscope, end_line, time_line, bit_line, each_of, vars_of, body_of, middle_of, lines_of, dump_of}
use Rattle.wave_rules.specs.Reader.{time_in, cell_in, after_variable, after_value, is_time, is_change, verdict_of, idle, script_words_of, read, refused, read_of}

-- two cells: the lines before the first change
abbrev paper : List ℕ
paper =
    36 ∷ 116 ∷ 105 ∷ 109 ∷ 101 ∷ 115 ∷ 99 ∷ 97 ∷ 108 ∷ 101 ∷ 32 ∷ 49 ∷ 32 ∷ 110 ∷ 115 ∷ 32 ∷ 36 ∷ 101 ∷ 110 ∷ 100 ∷ 10 ∷
    36 ∷ 115 ∷ 99 ∷ 111 ∷ 112 ∷ 101 ∷ 32 ∷ 109 ∷ 111 ∷ 100 ∷ 117 ∷ 108 ∷ 101 ∷ 32 ∷ 116 ∷ 32 ∷ 36 ∷ 101 ∷ 110 ∷ 100 ∷ 10 ∷
    36 ∷ 118 ∷ 97 ∷ 114 ∷ 32 ∷ 119 ∷ 105 ∷ 114 ∷ 101 ∷ 32 ∷ 49 ∷ 32 ∷ 33 ∷ 32 ∷ 99 ∷ 48 ∷ 32 ∷ 36 ∷ 101 ∷ 110 ∷ 100 ∷ 10 ∷
    36 ∷ 118 ∷ 97 ∷ 114 ∷ 32 ∷ 119 ∷ 105 ∷ 114 ∷ 101 ∷ 32 ∷ 49 ∷ 32 ∷ 34 ∷ 32 ∷ 99 ∷ 49 ∷ 32 ∷ 36 ∷ 101 ∷ 110 ∷ 100 ∷ 10 ∷
    36 ∷ 117 ∷ 112 ∷ 115 ∷ 99 ∷ 111 ∷ 112 ∷ 101 ∷ 32 ∷ 36 ∷ 101 ∷ 110 ∷ 100 ∷ 10 ∷
    36 ∷ 101 ∷ 110 ∷ 100 ∷ 100 ∷ 101 ∷ 102 ∷ 105 ∷ 110 ∷ 105 ∷ 116 ∷ 105 ∷ 111 ∷ 110 ∷ 115 ∷ 32 ∷ 36 ∷ 101 ∷ 110 ∷ 100 ∷ 10 ∷
    35 ∷ 48 ∷ 10 ∷
    48 ∷ 33 ∷ 10 ∷
    48 ∷ 34 ∷ 10 ∷ []

-- ---- writing

-- "Two cells, cell 0 taken at step 1", to the byte
as_in_paper : dump_of 2 (1 ∷ 0 ∷ 7 ∷ []) ≡ paper ++ (35 ∷ 49 ∷ 10 ∷ 49 ∷ 33 ∷ 10 ∷ [])
unfolding joined decimal_of digit_count digit_count_in no_bits turns changes_of flip_of timescale scope_line var_line upscope end_line time_line bit_line each_of body_of middle_of lines_of dump_of
as_in_paper = refl

-- "a release clears it": a release of a clear bit, a take, a release
cleared : dump_of 2 (2 ∷ 0 ∷ 0 ∷ 1 ∷ 0 ∷ 0 ∷ 2 ∷ 0 ∷ 9 ∷ []) ≡ paper ++ (35 ∷ 50 ∷ 10 ∷ 49 ∷ 33 ∷ 10 ∷ 35 ∷ 51 ∷ 10 ∷ 48 ∷ 33 ∷ 10 ∷ [])
unfolding joined decimal_of digit_count digit_count_in no_bits turns changes_of flip_of timescale scope_line var_line upscope end_line time_line bit_line each_of body_of middle_of lines_of dump_of
cleared = refl

-- "any other step only counts"; a time line "only where a bit changed": a step of kind 0, a take, a take of the same
-- cell
counted : dump_of 2 (0 ∷ 0 ∷ 0 ∷ 1 ∷ 0 ∷ 7 ∷ 1 ∷ 0 ∷ 8 ∷ []) ≡ paper ++ (35 ∷ 50 ∷ 10 ∷ 49 ∷ 33 ∷ 10 ∷ [])
unfolding joined decimal_of digit_count digit_count_in no_bits turns changes_of flip_of timescale scope_line var_line upscope end_line time_line bit_line each_of body_of middle_of lines_of dump_of
counted = refl

-- "the bits of the first n cells": a take of cell 2, and one of cell 1
beyond : dump_of 2 (1 ∷ 2 ∷ 0 ∷ 1 ∷ 1 ∷ 0 ∷ []) ≡ paper ++ (35 ∷ 50 ∷ 10 ∷ 49 ∷ 34 ∷ 10 ∷ [])
unfolding joined decimal_of digit_count digit_count_in no_bits turns changes_of flip_of timescale scope_line var_line upscope end_line time_line bit_line each_of body_of middle_of lines_of dump_of
beyond = refl

-- "Codes are the printable characters from `!` (33) up": the last of 94 is `~`, `$var wire 1 ~ c93 $end`
last_code : var_line 93 ≡ (36 ∷ 118 ∷ 97 ∷ 114 ∷ 32 ∷ 119 ∷ 105 ∷ 114 ∷ 101 ∷ 32 ∷ 49 ∷ 32 ∷ 126 ∷ 32 ∷ 99 ∷ 57 ∷ 51 ∷ 32 ∷ 36 ∷ 101 ∷ 110 ∷ 100 ∷ [])
unfolding joined decimal_of digit_count digit_count_in no_bits turns changes_of flip_of timescale scope_line var_line upscope end_line time_line bit_line each_of body_of middle_of lines_of dump_of
last_code = refl

-- "(else 2, first)": a script of one word, and no cells
script_first : write_of 0 (1 ∷ []) (7 ∷ []) ≡ (Err write_refusal.BadScript, (7 ∷ []))
unfolding write_of fitted_of bad_history too_wide joined decimal_of digit_count digit_count_in no_bits turns changes_of flip_of timescale scope_line var_line upscope end_line time_line bit_line each_of body_of middle_of lines_of dump_of
script_first = refl

-- "No cells or more than 94: refused TooWide"
no_cells : write_of 0 [] (7 ∷ []) ≡ (Err write_refusal.TooWide, (7 ∷ []))
unfolding write_of fitted_of bad_history too_wide joined decimal_of digit_count digit_count_in no_bits turns changes_of flip_of timescale scope_line var_line upscope end_line time_line bit_line each_of body_of middle_of lines_of dump_of
no_cells = refl

-- more than 94
cells_95 : write_of 95 [] (7 ∷ []) ≡ (Err write_refusal.TooWide, (7 ∷ []))
unfolding write_of fitted_of bad_history too_wide joined decimal_of digit_count digit_count_in no_bits turns changes_of flip_of timescale scope_line var_line upscope end_line time_line bit_line each_of body_of middle_of lines_of dump_of
cells_95 = refl

-- one cell and no step
abbrev short : List ℕ
short =
    36 ∷ 116 ∷ 105 ∷ 109 ∷ 101 ∷ 115 ∷ 99 ∷ 97 ∷ 108 ∷ 101 ∷ 32 ∷ 49 ∷ 32 ∷ 110 ∷ 115 ∷ 32 ∷ 36 ∷ 101 ∷ 110 ∷ 100 ∷ 10 ∷
    36 ∷ 115 ∷ 99 ∷ 111 ∷ 112 ∷ 101 ∷ 32 ∷ 109 ∷ 111 ∷ 100 ∷ 117 ∷ 108 ∷ 101 ∷ 32 ∷ 116 ∷ 32 ∷ 36 ∷ 101 ∷ 110 ∷ 100 ∷ 10 ∷
    36 ∷ 118 ∷ 97 ∷ 114 ∷ 32 ∷ 119 ∷ 105 ∷ 114 ∷ 101 ∷ 32 ∷ 49 ∷ 32 ∷ 33 ∷ 32 ∷ 99 ∷ 48 ∷ 32 ∷ 36 ∷ 101 ∷ 110 ∷ 100 ∷ 10 ∷
    36 ∷ 117 ∷ 112 ∷ 115 ∷ 99 ∷ 111 ∷ 112 ∷ 101 ∷ 32 ∷ 36 ∷ 101 ∷ 110 ∷ 100 ∷ 10 ∷
    36 ∷ 101 ∷ 110 ∷ 100 ∷ 100 ∷ 101 ∷ 102 ∷ 105 ∷ 110 ∷ 105 ∷ 116 ∷ 105 ∷ 111 ∷ 110 ∷ 115 ∷ 32 ∷ 36 ∷ 101 ∷ 110 ∷ 100 ∷ 10 ∷
    35 ∷ 48 ∷ 10 ∷
    48 ∷ 33 ∷ 10 ∷ []

-- "A lent buffer too short for the whole dump ..: NoRoom, nothing written": one byte too short
one_short : write_of 1 [] (replicate 104 7) ≡ (Err write_refusal.NoRoom, replicate 104 7)
unfolding write_of fitted_of bad_history too_wide joined decimal_of digit_count digit_count_in no_bits turns changes_of flip_of timescale scope_line var_line upscope end_line time_line bit_line each_of body_of middle_of lines_of dump_of
one_short = refl

-- and two bytes longer: they are left alone
left_alone : write_of 1 [] (replicate 107 7) ≡ (Ok 105, short ++ (7 ∷ 7 ∷ []))
unfolding write_of fitted_of bad_history too_wide joined decimal_of digit_count digit_count_in no_bits turns changes_of flip_of timescale scope_line var_line upscope end_line time_line bit_line each_of body_of middle_of lines_of dump_of
left_alone = refl

-- ---- reading

-- the example
read_back : read_of (paper ++ (35 ∷ 49 ∷ 10 ∷ 49 ∷ 33 ∷ 10 ∷ [])) ≡ read 2 (1 ∷ 0 ∷ 0 ∷ [])
unfolding read_of script_words_of idle verdict_of is_change is_time after_value after_variable cell_in time_in split_of same no_bits turns changes_of flip_of timescale scope_line var_line upscope end_line time_line bit_line decimal_of digit_count digit_count_in is_digit digits_in value_from ended_number_of read_number_of
read_back = refl

-- "such a script up to the last change, other words 0": steps 1 and 2 only counted
gap : read_of (paper ++ (35 ∷ 51 ∷ 10 ∷ 49 ∷ 34 ∷ 10 ∷ 35 ∷ 52 ∷ 10 ∷ 48 ∷ 34 ∷ 10 ∷ [])) ≡ read 2 (0 ∷ 0 ∷ 0 ∷ 0 ∷ 0 ∷ 0 ∷ 1 ∷ 1 ∷ 0 ∷ 2 ∷ 1 ∷ 0 ∷ [])
unfolding read_of script_words_of idle verdict_of is_change is_time after_value after_variable cell_in time_in split_of same no_bits turns changes_of flip_of timescale scope_line var_line upscope end_line time_line bit_line decimal_of digit_count digit_count_in is_digit digits_in value_from ended_number_of read_number_of
gap = refl

-- `#01`: line 10
padded : read_of (paper ++ (35 ∷ 48 ∷ 49 ∷ 10 ∷ 49 ∷ 33 ∷ 10 ∷ [])) ≡ refused 10
unfolding read_of script_words_of idle verdict_of is_change is_time after_value after_variable cell_in time_in split_of same no_bits turns changes_of flip_of timescale scope_line var_line upscope end_line time_line bit_line decimal_of digit_count digit_count_in is_digit digits_in value_from ended_number_of read_number_of
padded = refl

-- `#1x`: line 10
followed : read_of (paper ++ (35 ∷ 49 ∷ 120 ∷ 10 ∷ 49 ∷ 33 ∷ 10 ∷ [])) ≡ refused 10
unfolding read_of script_words_of idle verdict_of is_change is_time after_value after_variable cell_in time_in split_of same no_bits turns changes_of flip_of timescale scope_line var_line upscope end_line time_line bit_line decimal_of digit_count digit_count_in is_digit digits_in value_from ended_number_of read_number_of
followed = refl

-- `#32769`: "at most 32,768 steps"
late : read_of (paper ++ (35 ∷ 51 ∷ 50 ∷ 55 ∷ 54 ∷ 57 ∷ 10 ∷ 49 ∷ 33 ∷ 10 ∷ [])) ≡ refused 10
unfolding read_of script_words_of idle verdict_of is_change is_time after_value after_variable cell_in time_in split_of same no_bits turns changes_of flip_of timescale scope_line var_line upscope end_line time_line bit_line decimal_of digit_count digit_count_in is_digit digits_in value_from ended_number_of read_number_of
late = refl

-- "a time line stands only where a bit changed": the bit was 0 before
unchanged : read_of (paper ++ (35 ∷ 49 ∷ 10 ∷ 48 ∷ 33 ∷ 10 ∷ [])) ≡ refused 11
unfolding read_of script_words_of idle verdict_of is_change is_time after_value after_variable cell_in time_in split_of same no_bits turns changes_of flip_of timescale scope_line var_line upscope end_line time_line bit_line decimal_of digit_count digit_count_in is_digit digits_in value_from ended_number_of read_number_of
unchanged = refl

-- a time line behind a time line
timeless : read_of (paper ++ (35 ∷ 49 ∷ 10 ∷ 35 ∷ 50 ∷ 10 ∷ 49 ∷ 33 ∷ 10 ∷ [])) ≡ refused 11
unfolding read_of script_words_of idle verdict_of is_change is_time after_value after_variable cell_in time_in split_of same no_bits turns changes_of flip_of timescale scope_line var_line upscope end_line time_line bit_line decimal_of digit_count digit_count_in is_digit digits_in value_from ended_number_of read_number_of
timeless = refl

-- two changes at one time
twice : read_of (paper ++ (35 ∷ 49 ∷ 10 ∷ 49 ∷ 33 ∷ 10 ∷ 35 ∷ 49 ∷ 10 ∷ 49 ∷ 34 ∷ 10 ∷ [])) ≡ refused 12
unfolding read_of script_words_of idle verdict_of is_change is_time after_value after_variable cell_in time_in split_of same no_bits turns changes_of flip_of timescale scope_line var_line upscope end_line time_line bit_line decimal_of digit_count digit_count_in is_digit digits_in value_from ended_number_of read_number_of
twice = refl

-- a change without its time line
untimed : read_of (paper ++ (49 ∷ 33 ∷ 10 ∷ [])) ≡ refused 10
unfolding read_of script_words_of idle verdict_of is_change is_time after_value after_variable cell_in time_in split_of same no_bits turns changes_of flip_of timescale scope_line var_line upscope end_line time_line bit_line decimal_of digit_count digit_count_in is_digit digits_in value_from ended_number_of read_number_of
untimed = refl

-- a cell that is not there
no_cell : read_of (paper ++ (35 ∷ 49 ∷ 10 ∷ 49 ∷ 35 ∷ 10 ∷ [])) ≡ refused 11
unfolding read_of script_words_of idle verdict_of is_change is_time after_value after_variable cell_in time_in split_of same no_bits turns changes_of flip_of timescale scope_line var_line upscope end_line time_line bit_line decimal_of digit_count digit_count_in is_digit digits_in value_from ended_number_of read_number_of
no_cell = refl

-- "each line ended by a line feed": the last line lacks it
feedless : read_of (paper ++ (35 ∷ 49 ∷ 10 ∷ 49 ∷ 33 ∷ [])) ≡ refused 11
unfolding read_of script_words_of idle verdict_of is_change is_time after_value after_variable cell_in time_in split_of same no_bits turns changes_of flip_of timescale scope_line var_line upscope end_line time_line bit_line decimal_of digit_count digit_count_in is_digit digits_in value_from ended_number_of read_number_of
feedless = refl

-- the text stops behind a time line: the wrong line is the one that is missing
stopped : read_of (paper ++ (35 ∷ 49 ∷ 10 ∷ [])) ≡ refused 11
unfolding read_of script_words_of idle verdict_of is_change is_time after_value after_variable cell_in time_in split_of same no_bits turns changes_of flip_of timescale scope_line var_line upscope end_line time_line bit_line decimal_of digit_count digit_count_in is_digit digits_in value_from ended_number_of read_number_of
stopped = refl

-- an empty text: line 1
nothing : read_of [] ≡ refused 1
unfolding read_of script_words_of idle verdict_of is_change is_time after_value after_variable cell_in time_in split_of same no_bits turns changes_of flip_of timescale scope_line var_line upscope end_line time_line bit_line decimal_of digit_count digit_count_in is_digit digits_in value_from ended_number_of read_number_of
nothing = refl

-- "n up to 94": a 95th variable, line 97
too_many_lem : read_of (joined (timescale ∷ scope_line ∷ vars_of 0 95 [])) ≡ refused 97
unfolding joined each_of read_of script_words_of idle verdict_of is_change is_time after_value after_variable cell_in time_in split_of same no_bits turns changes_of flip_of timescale scope_line var_line upscope end_line time_line bit_line decimal_of digit_count digit_count_in is_digit digits_in value_from ended_number_of read_number_of
too_many_lem = refl

-- "refused, before NoRoom, with its first wrong line"
line_first : read_into_of (paper ++ (35 ∷ 49 ∷ 10 ∷ 49 ∷ 33 ∷ [])) [] ≡ (Err (read_refusal.BadLine 11), [])
unfolding read_into_of read_of script_words_of idle verdict_of is_change is_time after_value after_variable cell_in time_in split_of same no_bits turns changes_of flip_of timescale scope_line var_line upscope end_line time_line bit_line decimal_of digit_count digit_count_in is_digit digits_in value_from ended_number_of read_number_of
line_first = refl

-- "A lent buffer too short for the whole .. reading: NoRoom, nothing written"
two_words : read_into_of (paper ++ (35 ∷ 49 ∷ 10 ∷ 49 ∷ 33 ∷ 10 ∷ [])) (8 ∷ 8 ∷ []) ≡ (Err read_refusal.NoRoom, (8 ∷ 8 ∷ []))
unfolding read_into_of read_of script_words_of idle verdict_of is_change is_time after_value after_variable cell_in time_in split_of same no_bits turns changes_of flip_of timescale scope_line var_line upscope end_line time_line bit_line decimal_of digit_count digit_count_in is_digit digits_in value_from ended_number_of read_number_of
two_words = refl

-- two words longer: they are left alone
five_words : read_into_of (paper ++ (35 ∷ 49 ∷ 10 ∷ 49 ∷ 33 ∷ 10 ∷ [])) (8 ∷ 8 ∷ 8 ∷ 8 ∷ 8 ∷ []) ≡ (Ok (2, 1), (1 ∷ 0 ∷ 0 ∷ 8 ∷ 8 ∷ []))
unfolding read_into_of read_of script_words_of idle verdict_of is_change is_time after_value after_variable cell_in time_in split_of same no_bits turns changes_of flip_of timescale scope_line var_line upscope end_line time_line bit_line decimal_of digit_count digit_count_in is_digit digits_in value_from ended_number_of read_number_of
five_words = refl
