-- What lines are made of, in the waveform and in the report: bytes up to a stop, decimal numbers.
use Rattle.std.specs.Prelude.{ℕ, ◌+◌, ◌*◌, ◌-◌, List, [], ◌∷◌, Bool, false, ◌&&◌, eqb, ltb, get_or, if◌then◌else◌, Some, None}
use Rattle.std.specs.declared.option.Option.{Option}
use Rattle.text.specs.declared.Number.{Number}

-- "each line ended by a line feed": how many bytes stand before the first `stop`
unfoldable pub before : ℕ → List ℕ → ℕ
before stop [] = 0
before stop (b ∷ l) = if eqb b stop then 0 else 1 + before stop l

-- "decimal": the bytes from `0` to `9`
unfoldable pub is_digit : ℕ → Bool
is_digit b = if ltb b 48 then false else ltb b 58

-- how many digits stand at the front
unfoldable pub digits_in : List ℕ → ℕ
digits_in [] = 0
digits_in (b ∷ l) = if is_digit b then 1 + digits_in l else 0

-- the value of v with the digits at the front behind it
unfoldable pub value_from : ℕ → List ℕ → ℕ
value_from v [] = v
value_from v (b ∷ l) = if is_digit b then value_from (10 * v + (b - 48)) l else v

abbrev pub no_number : Option Number
no_number = None

abbrev pub number_of : ℕ → ℕ → Number
number_of value digits = record { value = value; digits = digits }

-- "decimal without leading zeros": so many digits, of which b is the first, with this value
unfoldable pub ended_number_of : ℕ → ℕ → ℕ → Option Number
ended_number_of b digits value = if eqb digits 0 then no_number else if (eqb b 48 && ltb 1 digits) then no_number else Some (number_of value digits)

-- the number at the front, from 0 to 4,294,967,295
unfoldable pub read_number_of : List ℕ → Option Number
read_number_of l = if ltb 4294967295 (value_from 0 l) then no_number else ended_number_of (get_or l 0 0) (digits_in l) (value_from 0 l)

-- what was read, as numbers: 0 of no number
abbrev pub value_read : Option Number → ℕ
value_read None = 0
value_read (Some number) = number.value

abbrev pub digits_read : Option Number → ℕ
digits_read None = 0
digits_read (Some number) = number.digits
