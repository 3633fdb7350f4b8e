-- What checks and a salvage come to: the results that code gives, by a word for each.
use Rattle.std.specs.Prelude.{ℕ, Result, ⊤}
use Rattle.types.specs.declared.Refusal.{Refusal}
use Rattle.types.specs.declared.SalvageRefusal.{SalvageRefusal}

-- "Checks in this order; the first that applies is given": nothing, or that refusal
abbrev pub Check : Type 0
Check = Result ⊤ Refusal

-- document 02, L4: the same of keys, with the position of the first that has one
abbrev pub KeyCheck : Type 0
KeyCheck = Result ⊤ (Refusal × ℕ)

-- a key resolved: its cell, or why there is none
abbrev pub Found : Type 0
Found = Result ℕ Refusal

-- document 02, L6: entries in the report and cells left held, or why nothing was changed
abbrev pub SalvageAnswer : Type 0
SalvageAnswer = Result (ℕ × ℕ) SalvageRefusal
