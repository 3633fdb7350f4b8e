-- `crew::take_turns` meets its contract.
use Rattle.std.specs.Prelude.{◌-◌, not, eqb, length}
use Rattle.model.specs.Crew.{crew_start}
use Rattle.crew.specs.Model.{work_by}
use Rattle.crew.specs.Loop.{Noting}
use Rattle.crew.proofs.take_turns.Given as goal

abbrev pub invariant-loop-i : goal.invariant-loop-i
invariant-loop-i g l =
    Noting (work_by (not (eqb g.row.ADDING 0))) l.head.headers l.head.buckets l.health l.counts l.cells l.turns (crew_start l.head l.initial.table l.initial.counters) l.next l.table l.left l.moving l.i l.counters l.noted

abbrev pub decreases-loop-i : goal.decreases-loop-i
decreases-loop-i g l = length l.turns - l.i
