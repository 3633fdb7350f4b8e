-- What stays true of a crew that nobody disturbs, in any work, over any turns: a cell has the words that it had at the start, or a member holds it,
-- and the moves and the serials still to come make up what is missing.
-- ---- what is left to do
use Rattle.std.specs.Prelude.{ℕ, ◌+◌, ◌-◌, ◌≤◌, ◌<◌, ◌≡◌, refl, ◌≢◌, length, get_or, replicate}
use Rattle.std.proofs.Common.{sym, ap, ◌∙◌, arith, length-set, get_or-set_same, get_or-set_other}
use mathlib.Core.List.{List, [], ◌∷◌}
use Rattle.std.proofs.Math.Decide.{ℕ_discrete}
use Rattle.model.specs.Log.{Event}
use Rattle.model.specs.Arena.{cells_of, bit_at, owner_at, waiters_at, set_cell}
use Rattle.model.specs.Crew.{Work, adds_of, moves_of, total, start_of, count_of, Crew, crew_start, moved, turn_of, turns_of}
use Rattle.types.specs.declared.Head.{Head}
use Rattle.laws.specs.Words.{length_set_cell, bit_set, owner_set, waiters_set_cell, Seen, here, there, see}
use Rattle.laws.specs.Lists.{zeros}
use Rattle.laws.specs.Crew.{adds_few, adds_none, adds_plus, start_fits, member}
use Rattle.history.specs.Tests.{free_words}
use Rattle.history.specs.Crew.{Holds}
use Rattle.crew_theory.specs.Statements.{Open, after, wish, last, Turn, idled, grabbed, summed, gave}
use Rattle.crew_theory.specs.Sum.{sum, sum_same, sum_front, sum_change}
use Rattle.crew_theory.specs.Lists.{Fits, fits}
use Rattle.crew_theory.specs.Turns.{turn_is}

-- a member's takes are one for each cell
abbrev pub takings_of : ℕ → ℕ
takings_of n = n

-- over all members: what each needs by its number of cells, less the moves made. With `takings_of` the takes still to come, with `moves_of`
-- all moves
unfoldable pub left : (ℕ → ℕ) → List ℕ → List ℕ → ℕ
left f counts made = sum (length counts) (λ m. f (count_of counts m) - get_or made m 0)

-- the moves before the first release
abbrev pub works_of : Work → ℕ → ℕ
works_of work n = n + adds_of work n

-- what n cells need, and k, is what n + k need
pub record Plus (f : ℕ → ℕ) : Type 0 where
  pub nil : f 0 ≡ 0
  pub plus : (n k : ℕ) → f (n + k) ≡ f n + f k

-- ---- who holds what

-- a member's moves after one move of member m
pub data Made (made : List ℕ) (m q : ℕ) : Type 0 where
  mine : q ≡ m → get_or (moved made m) q 0 ≡ get_or made m 0 + 1 → get_or made q 0 ≡ get_or made m 0 → Made made m q
  other : q ≢ m → get_or (moved made m) q 0 ≡ get_or made q 0 → Made made m q
