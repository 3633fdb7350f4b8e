-- The replay does not depend on the order of members that share nothing: whole members that share no cell commute, and so any order that
-- keeps the order of members that share a cell gives the same counters. For any way to make a sum.
use Rattle.std.specs.Prelude.{ℕ, ◌+◌, ◌≤◌, ◌<◌, ◌≡◌, ◌⊎◌, length, get_or}
use Rattle.std.proofs.Math.Path.{refl, ap}
use Rattle.std.proofs.Common.{sym, ◌∙◌, inl, inr, arith, ext_get_or}
use mathlib.Core.List.{List, [], ◌∷◌, ◌++◌}
use Rattle.model.specs.Arena.{cells_of}
use Rattle.model.specs.Crew.{start_of, count_of}
use Rattle.types.specs.declared.Head.{Head}
use Rattle.crew_theory.specs.Statements.{named, In}
use Rattle.crew_theory.specs.Lists.{Fits}
use Rattle.crew_at_work_theory.specs.Statements.{whole_by, replay_by, times, Before, Strangers}
use Rattle.crew_at_work_theory.specs.Orders.{Counted, this, that, counted, in_times, before_first, before_last}
use Rattle.crew_at_work_theory.specs.Wholes.{Listed, among, whole_length, whole_at, whole_other}

-- the same members, each at most once, and those that share a cell in the same order
pub record Reorders (counts cells xs ys : List ℕ) : Type 0 where
  pub same : (m : ℕ) → times m xs ≡ times m ys
  pub once : (m : ℕ) → times m xs ≤ 1
  pub keeps : (a b : ℕ) → Before a b ys → Strangers counts cells a b ⊎ Before a b xs

abbrev pub Found : ℕ → List ℕ → Type 0
Found m l = (a : List ℕ) × (b : List ℕ) × (l ≡ a ++ (m ∷ b))
