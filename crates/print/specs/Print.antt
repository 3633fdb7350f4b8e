-- Text put into a lent run: bytes, and forms in which a `#` stands for the next number.
use Rattle.std.specs.Prelude.{ℕ, ◌+◌, List, [], ◌∷◌, ◌++◌, eqb, length, get_or, if◌then◌else◌}
use Rattle.std.proofs.lemmas.List.Edits.{sets}
use Rattle.text.specs.Decimal.{decimal_of}

-- bytes put at a place: where they end, and the run, which is as it was before and behind them
unfoldable pub put_of : List ℕ → ℕ → List ℕ → ℕ × List ℕ
put_of out at bytes = (at + length bytes, sets out at bytes)

-- what a byte of a form stands for: a `#` for the k-th number, another for itself
unfoldable pub piece_of : List ℕ → ℕ → ℕ → List ℕ
piece_of numbers k b = if eqb b 35 then decimal_of (get_or numbers k 0) else (b ∷ [])

-- which number is the next one behind it
unfoldable pub after_of : ℕ → ℕ → ℕ
after_of k b = if eqb b 35 then k + 1 else k

-- the text of a form, from the k-th number on
unfoldable pub form_from : List ℕ → ℕ → List ℕ → List ℕ
form_from numbers k [] = []
form_from numbers k (b ∷ form) = piece_of numbers k b ++ form_from numbers (after_of k b) form

unfoldable pub form_of : List ℕ → List ℕ → List ℕ
form_of form numbers = form_from numbers 0 form
