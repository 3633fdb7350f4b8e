-- `crew::finish` meets its contract.
use Rattle.std.proofs.Common.{rules}
use Rattle.crew.specs.Reply.{filling_more}
use Rattle.crew.proofs.finish.Goals as goal

pub loop-m-preserved : goal.loop-m-preserved
loop-m-preserved g c =
    let count = c.count_of-count.ensures in
    filling_more _ _ _ _ _ _ c.loop-m.invariant _ _ (search rules) (rw (← count) c.min.ensures) (rw (← count, ← c.saturating_sub.ensures, ← c.adds_of.ensures) c.saturating_sub-in-loop-m.ensures)
