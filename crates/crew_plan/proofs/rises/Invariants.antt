-- `crew_plan::rises` meets its contract.
use Rattle.std.specs.Prelude.{◌≡◌, ◌≤◌, length, drop}
use Rattle.model.specs.Crew.{rises_from}
use Rattle.crew_plan.proofs.rises.Given as goal

abbrev pub invariant-loop-cell : goal.invariant-loop-cell
invariant-loop-cell l = (l.cell-index ≤ length l.list) × (rises_from l.inside l.low (drop l.cell-index l.list) ≡ rises_from l.inside 0 l.list)
