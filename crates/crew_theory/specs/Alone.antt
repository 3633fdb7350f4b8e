-- A crew, in any work, whose members all begin with the same cell: whoever has taken it moves alone until it gives it back, so there are rounds that have
-- at most one move each, as many as one likes.
-- ---- lists of turns
use Prim.Native.Nat.{ℕ, zero, suc, ◌+◌, ◌*◌, ◌≤◌, ◌<◌}
use Rattle.std.specs.Prelude.{◌≡◌, refl, Bool, true, false, ◌≢◌, ◌⊎◌, eqb, length, if◌then◌else◌}
use Rattle.std.proofs.Common.{sym, ◌∙◌, get_or-set_other, eqb-true}
use Rattle.std.proofs.Math.Path.{ap}
use mathlib.Core.List.{List, [], ◌∷◌, ◌++◌}
use Rattle.std.proofs.Math.Logic.{inl, inr}
use Rattle.std.proofs.Math.Decide.{ℕ_discrete, dec_lt}
use native.Mathlib.Omega.{arith}
use Rattle.std.proofs.Math.ListN.{get_or, length-append}
use Rattle.std.proofs.Math.Seq.{get_or-set_same}
use Rattle.std.proofs.lemmas.Bool.{eqb-false}
use Rattle.model.specs.Log.{Event}
use Rattle.model.specs.Arena.{bit_at}
use Rattle.model.specs.Crew.{Work, moves_of, start_of, count_of, Crew, turn_of, turns_of}
use Rattle.types.specs.declared.Head.{Head}
use Rattle.laws.specs.Crew.{adds_few, member, listed}
use Rattle.history.specs.Tests.{free_words, if_cases}
use Rattle.history.specs.Crew.{Holds}
use Rattle.crew_theory.specs.Statements.{In, flat, after, IsRound, Rounds, Open, named, wish, BeginWith, Turn, idled, grabbed, summed, gave}
use Rattle.crew_theory.specs.Turns.{in_left, in_right, in_either, turns_append, turn_is, Step, stays, steps, turn_steps}

-- n - 1 down to 0
abbrev pub upto : ℕ → List ℕ
upto zero = []
upto (suc n) = n ∷ upto n

-- the same without a
abbrev pub but : ℕ → ℕ → List ℕ
but a zero = []
but a (suc n) = if eqb n a then but a n else n ∷ but a n
