-- `sorted::sorted_checked` meets its contract.
use mathlib.Core.Path.{sym, ◌∙◌}
use Rattle.sorted.specs.Steps.{checked_fine}
use Rattle.std.proofs.Common.{rules}
use Rattle.sorted.proofs.sorted_checked.Goals as goal

pub sorted_once-requires : goal.sorted_once-requires
sorted_once-requires c = (search rules, checked_fine _ _ _ _ c.args.place _ _ _ c.requires (sym c.first_key_fault.ensures ∙ c.in-Ok.is))
