-- "All have held their whole lists": in demand 3's run there is, for each member with a cell, a moment at which the table shows every cell
-- of its list held by the serial noted for it, all at once.
-- ---- what is held shows in the table, after any turns in any arena: the cell at place k is held by the serial noted there
use Prim.Native.Nat.{ℕ, ◌+◌, ◌*◌, ◌-◌, ◌≤◌, ◌<◌}
use Rattle.std.specs.Prelude.{◌≡◌, ◌≢◌, length, get_or, set}
use Rattle.std.proofs.Math.Path.{refl}
use Rattle.std.proofs.Common.{sym, ap, ◌∙◌, arith, length-set, get_or-set_same, get_or-set_other}
use mathlib.Core.List.{List, [], ◌∷◌, ◌++◌}
use Rattle.std.proofs.Math.Decide.{ℕ_discrete}
use Rattle.model.specs.Log.{Event}
use Rattle.model.specs.Arena.{bit_at, owner_at, set_cell, state_at}
use Rattle.model.specs.Crew.{Work, adds_of, moves_of, start_of, count_of, Crew, crew_start, moved, turn_of, turns_of, shift_of}
use Rattle.types.specs.declared.Head.{Head}
use Rattle.types.specs.declared.State.TheVariants as state
use Rattle.laws.specs.Words.{length_set_cell, Seen, here, there, see}
use Rattle.laws.specs.Lists.{zeros}
use Rattle.laws.specs.Crew.{adds_few, start_fits, member, listed}
use Rattle.history.specs.Tests.{free_words, state_held}
use Rattle.history.specs.Crew.{Holds}
use Rattle.history.proofs.Crew.{one_place}
use Rattle.crew_theory.specs.Statements.{after, named, wish, last, to_take, Turn, idled, grabbed, summed, gave, TakenIsHeldOver}
use Rattle.crew_theory.specs.Turns.{turn_is, Step, stays, steps, turn_steps}
use Rattle.crew_theory.specs.Lists.{Fits, fits}
use Rattle.crew_theory.specs.Steady.{Made, mine, other}

-- what is held after a take of member m: the new one, or one that was held
pub data Which (work : Work) (counts made : List ℕ) (m q j : ℕ) : Type 0 where
  new : q ≡ m → j ≡ get_or made m 0 → Which work counts made m q j
  old : Holds work counts made q j → (start_of counts q + j ≢ start_of counts m + get_or made m 0) → Which work counts made m q j
