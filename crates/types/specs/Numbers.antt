-- The numbers of reasons and refusals, and what each carries: by cases of the enums.
use Rattle.std.specs.Prelude.{ℕ}
use Rattle.types.specs.declared.Reason.{Reason}
use Rattle.types.specs.declared.Reason.TheVariants as reason
use Rattle.types.specs.declared.Refusal.{Refusal}
use Rattle.types.specs.declared.Refusal.TheVariants.{BadShape, BadScript, BadHeld, TooMany, BadBinding, BadHeader, Poisoned, InvalidBucket, Damaged, SerialsSpent, SerializationFailure, NotHeld, Protected, Repeated, BadCrew, StaleBoot}

-- a reason's number
abbrev pub reason_number : Reason → ℕ
reason_number (reason.Held s) = 1
reason_number reason.Before = 2
reason_number (reason.After s) = 3

-- the serial that it gives, 0 for none
abbrev pub reason_serial : Reason → ℕ
reason_serial (reason.Held s) = s
reason_serial reason.Before = 0
reason_serial (reason.After s) = s

-- document 01, "Numbers of the refusals", the columns "no." and "carries"; 16 is of document 02, L8
abbrev pub number_of : Refusal → ℕ
number_of BadShape = 1
number_of BadScript = 2
number_of (BadHeld k) = 3
number_of TooMany = 4
number_of (BadBinding k) = 5
number_of (BadHeader k) = 6
number_of (Poisoned k) = 7
number_of (InvalidBucket k) = 8
number_of (Damaged k) = 9
number_of (SerialsSpent k) = 10
number_of (SerializationFailure why) = 11
number_of (NotHeld k) = 12
number_of Protected = 13
number_of (Repeated k) = 14
number_of (BadCrew k) = 15
number_of (StaleBoot k) = 16

abbrev pub carried_of : Refusal → ℕ
carried_of BadShape = 0
carried_of BadScript = 0
carried_of (BadHeld k) = k
carried_of TooMany = 0
carried_of (BadBinding k) = k
carried_of (BadHeader k) = k
carried_of (Poisoned k) = k
carried_of (InvalidBucket k) = k
carried_of (Damaged k) = k
carried_of (SerialsSpent k) = k
carried_of (SerializationFailure why) = 4096
carried_of (NotHeld k) = k
carried_of Protected = 0
carried_of (Repeated k) = k
carried_of (BadCrew k) = k
carried_of (StaleBoot k) = k
