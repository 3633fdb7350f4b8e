-- `foreign::run_guarded` meets its contract.
use mathlib.Core.List.{[], ◌∷◌, ◌++◌}
use mathlib.Core.Path.{◌≡◌}
use Rattle.model.specs.Foreign.{setting}
use Rattle.foreign.specs.Laws.{Walk}
use Rattle.foreign.specs.Model.{guards_of}
use Rattle.foreign.proofs.run_guarded.Given as goal

abbrev pub invariant-loop-place : goal.invariant-loop-place
invariant-loop-place l =
    Walk (setting l.scope.headers l.scope.cells l.script (guards_of l.holds.held.now l.holds.taken.now l.holds.n ++ (l.own ∷ []))) l.scope.steps l.initial.now l.initial.table l.initial.health l.now l.table l.health
    × (l.now.place ≡ l.place)
