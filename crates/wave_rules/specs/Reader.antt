-- Document 02, L11, the reading: where the reader stands is a stage with the bits so far, and a line leads to the next
-- stage. "The reader takes only what the writer could have written": a line is taken only if it is the one that the
-- writer would put there.
use Rattle.std.specs.Prelude.{ℕ, zero, suc, ◌+◌, ◌-◌, List, [], ◌∷◌, Bool, false, eqb, ltb, leb, get_or, drop, if◌then◌else◌, Option, Some, None, Result, Ok, Err}
use Rattle.text.specs.Text.{read_number_of, value_read}
use Rattle.wave_rules.specs.declared.Stage.{Stage}
use Rattle.wave_rules.specs.declared.Stage.TheVariants.{Opening, Scope, Variables, Ending, Start, Values, Waiting, Changing}
use Rattle.wave_rules.specs.Lines.{Items, finish, torn, line, split_of, same}
use Rattle.wave_rules.specs.Dump.{no_bits, turned, flip_of, timescale, scope_line, var_line, upscope, end_line, time_line, bit_line}

-- ---- one line

-- the time that a line names: the number behind its first byte
unfoldable pub time_in : List ℕ → ℕ
time_in x = value_read (read_number_of (drop 1 x))

-- "Codes are the printable characters from `!` (33) up": the cell that a line's second byte names
unfoldable pub cell_in : List ℕ → ℕ
cell_in x = get_or x 1 0 - 33

-- behind n variables: another one, if it is not the 95th; or the end of them, if there is one
unfoldable pub after_variable : ℕ → List ℕ → Option Stage
after_variable n x =
    if (if ltb n 94 then same x (var_line n) else false) then Some (Variables (n + 1)) else
    if (if ltb 0 n then same x upscope else false) then Some (Ending n) else None

-- the first value of cell c, and whether it was the last cell's: "from all bits 0"
unfoldable pub after_value : ℕ → ℕ → List ℕ → Option Stage
after_value n c x =
    if same x (bit_line 0 c) then Some (if ltb (c + 1) n then Values n (c + 1) else Waiting n 0) else None

-- a time line: later than the last, since it "stands only where a bit changed"; "at most 32,768 steps"
unfoldable pub is_time : ℕ → List ℕ → Bool
is_time last x =
    if ltb last (time_in x) then (if leb (time_in x) 32768 then same x (time_line (time_in x)) else false) else false

-- "only where a bit changed": the only line that can stand for a cell is the one that turns its bit
unfoldable pub is_change : ℕ → List ℕ → List ℕ → Bool
is_change n bits x = if ltb (cell_in x) n then same x (bit_line (turned (get_or bits (cell_in x) 0)) (cell_in x)) else false

-- what a line leads to, if it is taken
abbrev pub next_of : Stage → List ℕ → List ℕ → Option Stage
next_of Opening bits x = if same x timescale then Some Scope else None
next_of Scope bits x = if same x scope_line then Some (Variables 0) else None
next_of (Variables n) bits x = after_variable n x
next_of (Ending n) bits x = if same x end_line then Some (Start n) else None
next_of (Start n) bits x = if same x (time_line 0) then Some (Values n 0) else None
next_of (Values n c) bits x = after_value n c x
next_of (Waiting n last) bits x = if is_time last x then Some (Changing n last (time_in x)) else None
next_of (Changing n last t) bits x = if is_change n bits x then Some (Waiting n t) else None

-- the bits behind it
abbrev pub bits_of : Stage → List ℕ → List ℕ → List ℕ
bits_of Opening bits x = bits
bits_of Scope bits x = bits
bits_of (Variables n) bits x = bits
bits_of (Ending n) bits x = bits
bits_of (Start n) bits x = bits
bits_of (Values n c) bits x = bits
bits_of (Waiting n last) bits x = bits
bits_of (Changing n last t) bits x = flip_of bits (cell_in x)

-- ---- the whole: "anything else is refused .. with its first wrong line, from 1"

-- the number of cells and of the last change, or the first wrong line
abbrev pub Verdict : Type 0
Verdict = Result (ℕ × ℕ) ℕ

-- where the text ends, k being the line that is not there: a dump may end behind the first values or behind a change
abbrev pub at_end : Stage → ℕ → Verdict
at_end Opening k = Err k
at_end Scope k = Err k
at_end (Variables n) k = Err k
at_end (Ending n) k = Err k
at_end (Start n) k = Err k
at_end (Values n c) k = Err k
at_end (Waiting n last) k = Ok (n, last)
at_end (Changing n last t) k = Err k

-- what follows a line, by the stage that it leads to; a line that leads nowhere is the wrong one
abbrev pub unless : {A : Type 0} → Option Stage → A → (Stage → A) → A
unless None wrong onward = wrong
unless (Some s) wrong onward = onward s

-- from line k on; a last line without its line feed is wrong, whatever it holds: "each line ended by a line feed"
unfoldable pub verdict_of : ℕ → Stage → List ℕ → Items → Verdict
verdict_of k s bits finish = at_end s k
verdict_of k s bits (torn x) = Err k
verdict_of k s bits (line x r) = unless (next_of s bits x) (Err k) (λ t. verdict_of (k + 1) t (bits_of s bits x) r)

-- ---- the script: "such a script up to the last change, other words 0"

-- steps that only count, and what follows
unfoldable pub idle : ℕ → List ℕ → List ℕ
idle zero w = w
idle (suc g) w = 0 ∷ 0 ∷ 0 ∷ idle g w

-- "a take sets its cell's bit, a release clears it": the kind that turns this bit
abbrev pub kind_for : ℕ → ℕ
kind_for bit = if eqb bit 0 then 1 else 2

-- the words that a line adds, before those that follow
abbrev pub script_words_at : Stage → List ℕ → List ℕ → List ℕ → List ℕ
script_words_at Opening bits x w = w
script_words_at Scope bits x w = w
script_words_at (Variables n) bits x w = w
script_words_at (Ending n) bits x w = w
script_words_at (Start n) bits x w = w
script_words_at (Values n c) bits x w = w
script_words_at (Waiting n last) bits x w = w
script_words_at (Changing n last t) bits x w = idle (t - (last + 1)) (kind_for (get_or bits (cell_in x) 0) ∷ cell_in x ∷ 0 ∷ w)

-- the words of the lines from here on
unfoldable pub script_words_of : Stage → List ℕ → Items → List ℕ
script_words_of s bits finish = []
script_words_of s bits (torn x) = []
script_words_of s bits (line x r) = script_words_at s bits x (unless (next_of s bits x) [] (λ t. script_words_of t (bits_of s bits x) r))

-- "The reader gives n and such a script"; or the first wrong line
pub data Reading : Type 0 where
  read : (n : ℕ) (script : List ℕ) → Reading
  refused : ℕ → Reading

abbrev pub reading_of : Verdict → List ℕ → Reading
reading_of (Ok (n, last)) w = read n w
reading_of (Err k) w = refused k

-- what the reader makes of a text
unfoldable pub read_of : List ℕ → Reading
read_of text = reading_of (verdict_of 1 Opening no_bits (split_of text)) (script_words_of Opening no_bits (split_of text))
