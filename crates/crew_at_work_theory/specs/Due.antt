-- What ties the counters to the replay so far: a cell's counter is the replayed one, but for the one add that a member at work still owes
-- it. Members at work hold their cells apart, so no cell is owed two.
use Rattle.std.specs.Prelude.{ℕ, ◌+◌, ◌-◌, ◌≤◌, ◌<◌, ◌≡◌, List, ◌≢◌, ◌⊎◌, length, get_or, set}
use Rattle.std.proofs.Common.{sym, ap, ◌∙◌, inl, inr, arith, get_or-set_same, get_or-set_other}
use Rattle.std.proofs.Math.Decide.{ℕ_discrete}
use Rattle.model.specs.Arena.{cells_of, bit_at}
use Rattle.model.specs.Crew.{adds, start_of, count_of, moved}
use Rattle.types.specs.declared.Head.{Head}
use Rattle.crew_theory.specs.Statements.{named, wish}
use Rattle.history.specs.Crew.{Holds}
use Rattle.crew_theory.specs.Lists.{Fits}
use Rattle.crew_theory.specs.Steady.{Made, mine, other}
use Rattle.crew_theory.proofs.Steady.{see_made}
use Rattle.crew_theory.proofs.Whole.{Grips}
use Rattle.crew_at_work_theory.specs.Statements.{whole_by}
use Rattle.crew_at_work_theory.specs.Wholes.{among, whole_at, whole_other}

-- member q holds all and has yet to add to the j-th cell of its list
abbrev pub Due : List ℕ → List ℕ → ℕ → ℕ → Type 0
Due counts made q j = (count_of counts q ≤ get_or made q 0) × (get_or made q 0 ≤ count_of counts q + j) × (j < count_of counts q)
