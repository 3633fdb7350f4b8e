-- What the number reader reads, computed: the bytes, and the number at their front.
use Rattle.std.specs.Prelude.{◌≡◌, refl, [], ◌∷◌, ℕ, Some}
use Rattle.std.specs.declared.option.Option.{Option}
use Rattle.text.specs.declared.Number.{Number}
use Rattle.text.specs.Text.{is_digit, digits_in, value_from, ended_number_of, read_number_of, no_number, number_of}

abbrev read : ℕ → ℕ → Option Number
read value digits = Some (number_of value digits)

-- `42 7`
first_of_two : read_number_of (52 ∷ 50 ∷ 32 ∷ 55 ∷ []) ≡ read 42 2
unfolding read_number_of ended_number_of value_from digits_in is_digit
first_of_two = refl

-- `0`, and `00`
zero_alone : read_number_of (48 ∷ []) ≡ read 0 1
unfolding read_number_of ended_number_of value_from digits_in is_digit
zero_alone = refl

zero_twice : read_number_of (48 ∷ 48 ∷ []) ≡ no_number
unfolding read_number_of ended_number_of value_from digits_in is_digit
zero_twice = refl

-- `4294967295`, and `4294967296`
largest : read_number_of (52 ∷ 50 ∷ 57 ∷ 52 ∷ 57 ∷ 54 ∷ 55 ∷ 50 ∷ 57 ∷ 53 ∷ []) ≡ read 4294967295 10
unfolding read_number_of ended_number_of value_from digits_in is_digit
largest = refl

too_large : read_number_of (52 ∷ 50 ∷ 57 ∷ 52 ∷ 57 ∷ 54 ∷ 55 ∷ 50 ∷ 57 ∷ 54 ∷ []) ≡ no_number
unfolding read_number_of ended_number_of value_from digits_in is_digit
too_large = refl

-- `-1`, and nothing
signed : read_number_of (45 ∷ 49 ∷ []) ≡ no_number
unfolding read_number_of ended_number_of value_from digits_in is_digit
signed = refl

nothing : read_number_of [] ≡ no_number
unfolding read_number_of ended_number_of value_from digits_in is_digit
nothing = refl
