-- What a member's own turns take, add to and release: its list, from the first place on, again for its work, and then back from the last.
-- ---- the cells of a log
use Rattle.std.specs.Prelude.{ℕ, suc, ◌+◌, ◌-◌, min, ◌≤◌, ◌<◌, ◌≡◌, Bool, true, false, ◌≢◌, eqb, length, get_or, take, drop, if◌then◌else◌}
use Rattle.std.proofs.Math.Path.{refl, ap}
use Rattle.std.proofs.Common.{sym, ◌∙◌, subst, arith, length-take, drop_of_length-le, drop-cons, get_or-take, get_or-set_same, get_or-set_other, eqb-true}
use mathlib.Core.List.{List, [], ◌∷◌, ◌++◌, append_assoc, append-nil}
use Rattle.std.proofs.lemmas.Bool.{eqb-false}
use Rattle.model.specs.Log.{Event, by_caller, took, released, held_all_lem, added}
use Rattle.model.specs.Crew.{Work, adds_of, moves_of, total, start_of, count_of, list_of, Crew, crew_start, moved, is_full, turn_of, turns_of}
use Rattle.types.specs.declared.Head.{Head}
use Rattle.laws.specs.Lists.{zeros}
use Rattle.laws.specs.Crew.{adds_few, member, listed}
use Rattle.history.specs.World.{Kind, takes, releases, kind_of_lem, code}
use Rattle.history.specs.Tests.{if_cases}
use Rattle.crew_theory.specs.Statements.{Open, after, is_add, deeds_in, filling, Turn, idled, grabbed, summed, gave, cell_of, cells_in, cells_added, falling, own_log, InOrder}
use Rattle.crew_theory.specs.Turns.{same, turn_is, Step, stays, steps, turn_steps}

-- the cells of what a log did
pub record Cells (log : List Event) (takings addings givings : List ℕ) : Type 0 where
  pub takes_are : cells_in takes log ≡ takings
  pub adds_are : cells_added log ≡ addings
  pub releases_are : cells_in releases log ≡ givings
