-- `crew_plan::starts_of` meets its contract.
use Rattle.std.proofs.Common.{rules}
use Rattle.crew_plan.specs.Starts.{begin_more}
use Rattle.crew_plan.proofs.starts_of.Goals as goal

pub loop-m-preserved : goal.loop-m-preserved
loop-m-preserved c = begin_more _ _ _ _ (search rules) (search rules) (search rules) c.loop-m.invariant
