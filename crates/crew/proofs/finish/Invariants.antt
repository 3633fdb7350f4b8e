-- `crew::finish` meets its contract.
use Rattle.std.specs.Prelude.{not, eqb}
use Rattle.crew.specs.Reply.{Filling}
use Rattle.crew.specs.Model.{work_by}
use Rattle.crew.proofs.finish.Given as goal

abbrev pub invariant-loop-m : goal.invariant-loop-m
invariant-loop-m g l = Filling (work_by (not (eqb g.row.ADDING 0))) l.counts l.made l.taken l.released l.m
