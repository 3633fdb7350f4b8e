-- `crew::pass_idle` meets its contract.
use Rattle.crew.specs.Idle.{IdleTo}
use Rattle.crew.proofs.pass_idle.Given as goal

abbrev pub invariant-loop-i : goal.invariant-loop-i
invariant-loop-i g l = IdleTo l.turns l.left l.from l.i
