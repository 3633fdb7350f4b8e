-- `foreign::protecting_boundary` meets its contract.
use mathlib.Core.List.{[], ◌∷◌}
use native.Mathlib.Omega.{arith}
use Rattle.model.specs.Foreign.{protecting}
use Rattle.foreign.specs.Laws.{boundary_quiet}
use Rattle.foreign.specs.Model.{setting_of}
use Rattle.foreign.proofs.protecting_boundary.Goals as goal

pub returns : goal.returns
returns c = let a = c.args in let room = c.requires.0 in
    rw (boundary_quiet (protecting (setting_of a.scope a.script.now a.holds.now.held.now a.holds.now.taken.now a.holds.now.n) (a.own ∷ [])) a.flow a.table.now a.health.now (omega (arith, room.steps_are)))
