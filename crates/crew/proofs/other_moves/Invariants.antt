-- `crew::other_moves` meets its contract.
use Rattle.std.specs.Prelude.{not, eqb}
use Rattle.crew.specs.Model.{work_by}
use Rattle.crew.specs.Moves.{Others}
use Rattle.crew.proofs.other_moves.Given as goal

abbrev pub invariant-loop-m : goal.invariant-loop-m
invariant-loop-m g l = Others (work_by (not (eqb g.row.ADDING 0))) l.counts l.moves l.others l.m
