-- `salvage::salvage` meets its contract.
use mathlib.Core.Path.{sym, ◌∙◌}
use Rattle.laws.specs.Checks.{arena_fine}
use Rattle.salvage.proofs.salvage.Goals as goal

pub go_over-requires : goal.go_over-requires
go_over-requires c = let a = c.args in arena_fine a.head a.table.now a.health.now (sym c.arena_fault.ensures ∙ c.in-Ok.is)
