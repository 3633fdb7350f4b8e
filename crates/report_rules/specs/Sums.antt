-- Document 02, L12: "trials, grants, summed attempts, greatest attempts", and each refusal's count, over the single results.
use Rattle.std.specs.Prelude.{ℕ, ◌+◌, List, [], ◌∷◌, eqb, ltb, if◌then◌else◌}
use Rattle.report_rules.specs.declared.Trial.{Trial}

-- how many trials ended with this number; 0 is granted
unfoldable pub count_of : ℕ → List Trial → ℕ
count_of number [] = 0
count_of number (t ∷ ts) = (if eqb t.refusal number then 1 else 0) + count_of number ts

-- "summed attempts"; "a refused trial counts in trials and attempts"
unfoldable pub attempts_of : List Trial → ℕ
attempts_of [] = 0
attempts_of (t ∷ ts) = t.attempts + attempts_of ts

abbrev pub larger_of : ℕ → ℕ → ℕ
larger_of a b = if ltb a b then b else a

-- "greatest attempts", over all trials; 0 of none
unfoldable pub greatest_of : List Trial → ℕ
greatest_of [] = 0
greatest_of (t ∷ ts) = larger_of t.attempts (greatest_of ts)
