-- The number of each answer of the writer; no refusal of the reader has one.
use Rattle.std.specs.Prelude.{ℕ, Result, Ok, Err}
use Rattle.model.specs.Refusals.{number_of}
use Rattle.types.specs.declared.Refusal.TheVariants as refusal
use Rattle.wave_rules.specs.declared.WriteRefusal.{WriteRefusal}
use Rattle.wave_rules.specs.declared.WriteRefusal.TheVariants as write_refusal

-- "(else 2, first)": document 01's number of a refusal; TooWide, NoRoom and the wrong line go by name and have none, 0
abbrev pub dumped_number : Result ℕ WriteRefusal → ℕ
dumped_number (Ok size) = 0
dumped_number (Err write_refusal.BadScript) = number_of refusal.BadScript
dumped_number (Err write_refusal.TooWide) = 0
dumped_number (Err write_refusal.NoRoom) = 0
