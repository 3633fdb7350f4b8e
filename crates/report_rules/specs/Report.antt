-- Document 02, L12: the printed text, and the one equation of the call. A `#` in a form stands for the next number.
use Rattle.std.specs.Prelude.{ℕ, zero, suc, ◌+◌, List, [], ◌∷◌, ◌++◌, eqb, ltb, length, if◌then◌else◌}
use Rattle.std.proofs.lemmas.List.Edits.{sets}
use Rattle.model.specs.Names.{name_of}
use Rattle.print.specs.Print.{form_of}
use Rattle.report_rules.specs.declared.Trial.{Trial}
use Rattle.std.specs.declared.result.Result.{Result}
use Rattle.std.specs.declared.result.Result.TheVariants.{Ok, Err}
use Rattle.report_rules.specs.declared.NoRoom.{NoRoom}
use Rattle.report_rules.specs.Reading.{Reading, bad_line, results, read_of}
use Rattle.report_rules.specs.Sums.{count_of, attempts_of, greatest_of}

-- `trials #`, `grants #`, `attempts # of # trials`, `greatest #`, each with its line feed
abbrev pub head_form : List ℕ
head_form =
    116 ∷ 114 ∷ 105 ∷ 97 ∷ 108 ∷ 115 ∷ 32 ∷ 35 ∷ 10 ∷ 103 ∷ 114 ∷ 97 ∷ 110 ∷ 116 ∷ 115 ∷ 32 ∷ 35 ∷ 10 ∷ 97 ∷
    116 ∷ 116 ∷ 101 ∷ 109 ∷ 112 ∷ 116 ∷ 115 ∷ 32 ∷ 35 ∷ 32 ∷ 111 ∷ 102 ∷ 32 ∷ 35 ∷ 32 ∷ 116 ∷ 114 ∷ 105 ∷ 97 ∷
    108 ∷ 115 ∷ 10 ∷ 103 ∷ 114 ∷ 101 ∷ 97 ∷ 116 ∷ 101 ∷ 115 ∷ 116 ∷ 32 ∷ 35 ∷ 10 ∷ []

-- `# `
abbrev pub number_form : List ℕ
number_form =
    35 ∷ 32 ∷ []

-- ` #` and a line feed
abbrev pub count_form : List ℕ
count_form =
    32 ∷ 35 ∷ 10 ∷ []

-- `bad line #` and a line feed
abbrev pub bad_form : List ℕ
bad_form =
    98 ∷ 97 ∷ 100 ∷ 32 ∷ 108 ∷ 105 ∷ 110 ∷ 101 ∷ 32 ∷ 35 ∷ 10 ∷ []

-- "prints exact numbers: trials, grants, summed attempts, greatest attempts"
unfoldable pub head_of : ℕ → ℕ → ℕ → ℕ → List ℕ
head_of count grants attempts greatest = form_of head_form (count ∷ grants ∷ attempts ∷ count ∷ greatest ∷ [])

-- "one line for each refusal seen .. with its name from a fixed list of names"; "one refusal 11 prints `11 SerializationFailure 1`"
unfoldable pub row_of : ℕ → ℕ → List ℕ
row_of number count = if eqb count 0 then [] else form_of number_form (number ∷ []) ++ (name_of number ++ form_of count_form (count ∷ []))

-- "in number order": so many numbers from this one on
unfoldable pub rows_of : (ℕ → ℕ) → ℕ → ℕ → List ℕ
rows_of seen number zero = []
rows_of seen number (suc left) = row_of number (seen number) ++ rows_of seen (number + 1) left

-- the report of these trials
unfoldable pub text_of : List Trial → List ℕ
text_of ts = head_of (length ts) (count_of 0 ts) (attempts_of ts) (greatest_of ts) ++ rows_of (λ (number : ℕ). count_of number ts) 1 16

-- "a bad line N, or line 1,001, prints only `bad line N`"
unfoldable pub bad_text : ℕ → List ℕ
bad_text n = form_of bad_form (n ∷ [])

-- what is printed for what was read
abbrev pub text_for : Reading → List ℕ
text_for (bad_line n) = bad_text n
text_for (results ts) = text_of ts

-- the whole program, from the bytes of its input to those of its output
unfoldable pub answer_of : List ℕ → List ℕ
answer_of input = text_for (read_of input)

abbrev pub no_room : NoRoom
no_room = record {}

-- the call: the text at the front of the lent run, and every byte behind it as it was; with a room of less than 4,096 bytes nothing
unfoldable pub report_of : List ℕ → List ℕ → Result ℕ NoRoom × List ℕ
report_of input out =
    if ltb (length out) 4096 then (Err no_room, out) else (Ok (length (answer_of input)), sets out 0 (answer_of input))
