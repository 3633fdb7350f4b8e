-- `foreign::boundary` meets its contract.
use Prim.Native.Nat.{ℕ, ◌-◌}
use mathlib.Core.Path.{ap, ◌∙◌}
use mathlib.Core.List.{List}
use Rattle.model.specs.Foreign.{boundary_of}
use Rattle.model.specs.Log.{Made}
use Rattle.types.specs.declared.Flow.{Flow}
use native.Mathlib.Omega.{arith}
use Rattle.foreign.specs.Laws.{steps_zero, boundary_quiet}
use Rattle.foreign.specs.Model.{guards_of, setting_of}
use Rattle.foreign.proofs.boundary.Goals as goal

pub returns : goal.returns
unfolding boundary_of
returns c = let a = c.args in let room = c.requires.0 in
    rw (← room.steps_are) (c.run_guarded.ensures ∙ ap (λ (m : Made (Flow × (List ℕ × List ℕ))). m.seen) (steps_zero a.scope.headers a.scope.cells a.script.now (guards_of a.holds.now.held.now a.holds.now.taken.now a.holds.now.n) (a.scope.steps - a.flow.place) a.flow a.table.now a.health.now))

pub returns-then-scope-flow : goal.returns-then-scope-flow
returns-then-scope-flow c = let a = c.args in let room = c.requires.0 in
    rw (boundary_quiet (setting_of a.scope a.script.now a.holds.now.held.now a.holds.now.taken.now a.holds.now.n) a.flow a.table.now a.health.now (omega (arith, room.steps_are)))
