-- `foreign::run` meets its contract.
use mathlib.Core.Path.{◌≡◌}
use Rattle.model.specs.Foreign.{setting}
use Rattle.foreign.specs.Laws.{Walk}
use Rattle.foreign.proofs.run.Given as goal

abbrev pub invariant-loop-place : goal.invariant-loop-place
invariant-loop-place g l =
    Walk (setting l.scope.headers l.scope.cells l.script (g.G.Guard.protected l.guard)) l.scope.steps l.initial.now l.initial.table l.initial.health l.now l.table l.health
    × (l.now.place ≡ l.place)
