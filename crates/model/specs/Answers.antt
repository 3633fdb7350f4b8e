-- The kinds of answers, and the numbers and values that each gives.
use Rattle.std.specs.Prelude.{ℕ, List, [], ◌∷◌}
use Rattle.model.specs.Refusals.{reason_number, reason_serial, number_of, carried_of, refusal_reason}
use Rattle.types.specs.declared.Answer.{Answer}
use Rattle.types.specs.declared.Answer.TheVariants.{Done, Cell, Granted, AllGranted, Busy, Refused, RefusedAt}

-- document 01's number of a refusal; "Busy is no refusal", and neither is any other: 0
abbrev pub refusal_in : Answer → ℕ
refusal_in Done = 0
refusal_in (Cell c) = 0
refusal_in (Granted l) = 0
refusal_in AllGranted = 0
refusal_in (Busy why) = 0
refusal_in (Refused r) = number_of r
refusal_in (RefusedAt r p) = number_of r

-- the answers that are no refusals, told apart
abbrev pub kind_of : Answer → ℕ
kind_of Done = 0
kind_of (Cell c) = 1
kind_of (Granted l) = 2
kind_of AllGranted = 3
kind_of (Busy why) = 4
kind_of (Refused r) = 5
kind_of (RefusedAt r p) = 6

-- what an answer gives: a cell; cell, serial and boot number; what a refusal carries, and multi-lock's position behind it
abbrev pub values_of : Answer → List ℕ
values_of Done = []
values_of (Cell c) = c ∷ []
values_of (Granted l) = l.cell ∷ l.serial ∷ l.boot ∷ []
values_of AllGranted = []
values_of (Busy why) = []
values_of (Refused r) = carried_of r ∷ []
values_of (RefusedAt r p) = carried_of r ∷ p ∷ []

-- the number of the reason that an answer gives, and its serial: Busy gives one, and 11; the others 0 and 0
abbrev pub reason_in : Answer → List ℕ
reason_in Done = 0 ∷ 0 ∷ []
reason_in (Cell c) = 0 ∷ 0 ∷ []
reason_in (Granted l) = 0 ∷ 0 ∷ []
reason_in AllGranted = 0 ∷ 0 ∷ []
reason_in (Busy why) = reason_number why ∷ reason_serial why ∷ []
reason_in (Refused r) = refusal_reason r
reason_in (RefusedAt r p) = refusal_reason r
