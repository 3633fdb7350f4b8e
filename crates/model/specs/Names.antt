-- The names of the refusals, by number: one definition for whoever prints them. Document 01's table has 1 to 15; document 02's L8 adds 16.
use Rattle.std.specs.Prelude.{ℕ, List, [], ◌∷◌, get_or}

-- 1 `BadShape`
abbrev pub bad_shape : List ℕ
bad_shape = 66 ∷ 97 ∷ 100 ∷ 83 ∷ 104 ∷ 97 ∷ 112 ∷ 101 ∷ []

-- 2 `BadScript`
abbrev pub bad_script : List ℕ
bad_script = 66 ∷ 97 ∷ 100 ∷ 83 ∷ 99 ∷ 114 ∷ 105 ∷ 112 ∷ 116 ∷ []

-- 3 `BadHeld`
abbrev pub bad_held : List ℕ
bad_held = 66 ∷ 97 ∷ 100 ∷ 72 ∷ 101 ∷ 108 ∷ 100 ∷ []

-- 4 `TooMany`
abbrev pub too_many : List ℕ
too_many = 84 ∷ 111 ∷ 111 ∷ 77 ∷ 97 ∷ 110 ∷ 121 ∷ []

-- 5 `BadBinding`
abbrev pub bad_binding : List ℕ
bad_binding = 66 ∷ 97 ∷ 100 ∷ 66 ∷ 105 ∷ 110 ∷ 100 ∷ 105 ∷ 110 ∷ 103 ∷ []

-- 6 `BadHeader`
abbrev pub bad_header : List ℕ
bad_header = 66 ∷ 97 ∷ 100 ∷ 72 ∷ 101 ∷ 97 ∷ 100 ∷ 101 ∷ 114 ∷ []

-- 7 `Poisoned`
abbrev pub poisoned : List ℕ
poisoned = 80 ∷ 111 ∷ 105 ∷ 115 ∷ 111 ∷ 110 ∷ 101 ∷ 100 ∷ []

-- 8 `InvalidBucket`
abbrev pub invalid_bucket : List ℕ
invalid_bucket = 73 ∷ 110 ∷ 118 ∷ 97 ∷ 108 ∷ 105 ∷ 100 ∷ 66 ∷ 117 ∷ 99 ∷ 107 ∷ 101 ∷ 116 ∷ []

-- 9 `Damaged`
abbrev pub damaged : List ℕ
damaged = 68 ∷ 97 ∷ 109 ∷ 97 ∷ 103 ∷ 101 ∷ 100 ∷ []

-- 10 `SerialsSpent`
abbrev pub serials_spent : List ℕ
serials_spent = 83 ∷ 101 ∷ 114 ∷ 105 ∷ 97 ∷ 108 ∷ 115 ∷ 83 ∷ 112 ∷ 101 ∷ 110 ∷ 116 ∷ []

-- 11 `SerializationFailure`
abbrev pub serialization_failure : List ℕ
serialization_failure = 83 ∷ 101 ∷ 114 ∷ 105 ∷ 97 ∷ 108 ∷ 105 ∷ 122 ∷ 97 ∷ 116 ∷ 105 ∷ 111 ∷ 110 ∷ 70 ∷ 97 ∷ 105 ∷ 108 ∷ 117 ∷ 114 ∷ 101 ∷ []

-- 12 `NotHeld`
abbrev pub not_held : List ℕ
not_held = 78 ∷ 111 ∷ 116 ∷ 72 ∷ 101 ∷ 108 ∷ 100 ∷ []

-- 13 `Protected`
abbrev pub protected : List ℕ
protected = 80 ∷ 114 ∷ 111 ∷ 116 ∷ 101 ∷ 99 ∷ 116 ∷ 101 ∷ 100 ∷ []

-- 14 `Repeated`
abbrev pub repeated : List ℕ
repeated = 82 ∷ 101 ∷ 112 ∷ 101 ∷ 97 ∷ 116 ∷ 101 ∷ 100 ∷ []

-- 15 `BadCrew`
abbrev pub bad_crew : List ℕ
bad_crew = 66 ∷ 97 ∷ 100 ∷ 67 ∷ 114 ∷ 101 ∷ 119 ∷ []

-- 16 `StaleBoot`
abbrev pub stale_boot : List ℕ
stale_boot = 83 ∷ 116 ∷ 97 ∷ 108 ∷ 101 ∷ 66 ∷ 111 ∷ 111 ∷ 116 ∷ []

-- the columns "no." and "name": a row for each number, in number order
unfoldable pub names : List (List ℕ)
names =
    bad_shape ∷ bad_script ∷ bad_held ∷ too_many ∷ bad_binding ∷ bad_header ∷
    poisoned ∷ invalid_bucket ∷ damaged ∷ serials_spent ∷ serialization_failure ∷ not_held ∷
    protected ∷ repeated ∷ bad_crew ∷ stale_boot ∷ []

-- the name of a number from 1 to 16; no other number has one
unfoldable pub name_of : ℕ → List ℕ
name_of number = get_or ([] ∷ names) number []
