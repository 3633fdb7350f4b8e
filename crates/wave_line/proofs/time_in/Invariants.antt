-- `wave_line::time_in` meets its contract.
use Rattle.wave_line.specs.Fronts.{Walked}
use Rattle.wave_line.proofs.time_in.Given as goal

abbrev pub invariant-loop-i : goal.invariant-loop-i
invariant-loop-i l = Walked l.text l.at l.t l.i
