-- `wave_line::walk` meets its contract.
use Rattle.wave_line.specs.Fronts.{Walked}
use Rattle.wave_line.proofs.walk.Given as goal

abbrev pub invariant-loop-i : goal.invariant-loop-i
invariant-loop-i l = Walked l.text l.at l.t l.i
