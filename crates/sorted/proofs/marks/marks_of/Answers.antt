-- `sorted::marks::marks_of` meets its contract.
use mathlib.Core.Path.{refl}
use Rattle.sorted.specs.Marks.{none_noted}
use Rattle.sorted.proofs.marks.marks_of.Goals as goal

pub loop-i-init : goal.loop-i-init
loop-i-init g c = (refl, none_noted _ _)
