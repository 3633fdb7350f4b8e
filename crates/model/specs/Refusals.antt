-- Document 01, "Numbers of the refusals": the table, and how a list of checks comes to a refusal. The checks themselves are in `Checks`.
use Rattle.std.specs.Prelude.{ℕ, List, [], ◌∷◌, Bool, eqb, if◌then◌else◌, Ok, Err}
use Rattle.types.specs.Checks.{Check}
pub use Rattle.types.specs.Numbers.{reason_number, reason_serial, number_of, carried_of}
use Rattle.types.specs.declared.Reason.{Reason}
use Rattle.types.specs.declared.Reason.TheVariants as reason
use Rattle.types.specs.declared.Refusal.{Refusal}
use Rattle.types.specs.declared.Refusal.TheVariants.{BadShape, BadScript, BadHeld, TooMany, BadBinding, BadHeader, Poisoned, InvalidBucket, Damaged, SerialsSpent, SerializationFailure, NotHeld, Protected, Repeated, BadCrew, StaleBoot}

-- ---- document 02, L1: "Split the word: held, with the owner's serial; waiters seen before the compare-and-set; waiters seen after it. The last
-- one also gives the serial that was spent."

-- a reason by its number (`reason_number` of crate `types`) and its serial
abbrev pub reason_of : ℕ → ℕ → Reason
reason_of number s = if eqb number 1 then reason.Held s else if eqb number 2 then reason.Before else reason.After s

-- ---- the table

-- the columns "no." and "carries": the refusal of a number, carrying k; "refusal 11 carries that reason besides 4,096"
abbrev pub refusal_with : Reason → ℕ → ℕ → Refusal
refusal_with why number k =
    if eqb number 1 then BadShape
    else if eqb number 2 then BadScript
    else if eqb number 3 then BadHeld k
    else if eqb number 4 then TooMany
    else if eqb number 5 then BadBinding k
    else if eqb number 6 then BadHeader k
    else if eqb number 7 then Poisoned k
    else if eqb number 8 then InvalidBucket k
    else if eqb number 9 then Damaged k
    else if eqb number 10 then SerialsSpent k
    else if eqb number 11 then SerializationFailure why
    else if eqb number 12 then NotHeld k
    else if eqb number 13 then Protected
    else if eqb number 14 then Repeated k
    else if eqb number 15 then BadCrew k
    else StaleBoot k

-- the number of the reason that a refusal gives, and its serial: only 11 gives one, the others 0 and 0
abbrev pub refusal_reason : Refusal → List ℕ
refusal_reason BadShape = 0 ∷ 0 ∷ []
refusal_reason BadScript = 0 ∷ 0 ∷ []
refusal_reason (BadHeld k) = 0 ∷ 0 ∷ []
refusal_reason TooMany = 0 ∷ 0 ∷ []
refusal_reason (BadBinding k) = 0 ∷ 0 ∷ []
refusal_reason (BadHeader k) = 0 ∷ 0 ∷ []
refusal_reason (Poisoned k) = 0 ∷ 0 ∷ []
refusal_reason (InvalidBucket k) = 0 ∷ 0 ∷ []
refusal_reason (Damaged k) = 0 ∷ 0 ∷ []
refusal_reason (SerialsSpent k) = 0 ∷ 0 ∷ []
refusal_reason (SerializationFailure why) = reason_number why ∷ reason_serial why ∷ []
refusal_reason (NotHeld k) = 0 ∷ 0 ∷ []
refusal_reason Protected = 0 ∷ 0 ∷ []
refusal_reason (Repeated k) = 0 ∷ 0 ∷ []
refusal_reason (BadCrew k) = 0 ∷ 0 ∷ []
refusal_reason (StaleBoot k) = 0 ∷ 0 ∷ []

-- the column "when": a check is a number, what it carries, and the test that makes it apply
pub record Rule : Type 0 where
  pub number : ℕ
  pub carries : ℕ
  pub applies : Bool

infix 6 refuse◌carrying◌when◌
abbrev pub refuse◌carrying◌when◌ : ℕ → ℕ → Bool → Rule
refuse n carrying k when b = record { number = n; carries = k; applies = b }

-- the refusal of a check. No check refuses with 11, which alone has a reason
abbrev pub refusal_of : ℕ → ℕ → Refusal
refusal_of number k = refusal_with reason.Before number k

-- "Checks in this order; the first that applies is given, and only then."
unfoldable pub first : List Rule → Check
first [] = Ok tt
first (r ∷ rs) = if r.applies then Err (refusal_of r.number r.carries) else first rs

-- a call: refused, or its steps
abbrev pub judge : {A : Type 0} → Check → (Refusal → A) → A → A
judge (Ok tt) refused steps = steps
judge (Err r) refused steps = refused r
