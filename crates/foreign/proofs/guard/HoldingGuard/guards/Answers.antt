-- `foreign::guard::Holding::guards` meets its contract.
use Rattle.model.specs.Arena.{same_hold}
use Rattle.foreign.specs.Laws.{guarded_is}
use Rattle.foreign.proofs.guard.HoldingGuard.guards.Goals as goal

pub returns-then-is_marked : goal.returns-then-is_marked
returns-then-is_marked c = rw (guarded_is _ _ _ _ _, ← c.is_marked.ensures, c.if-is_marked.true)

pub returns-then-is_in_pairs : goal.returns-then-is_in_pairs
returns-then-is_in_pairs c = rw (guarded_is _ _ _ _ _, ← c.is_marked.ensures, c.if-is_marked.false, ← c.is_in_pairs.ensures, c.if-is_in_pairs.true)

pub returns : goal.returns
unfolding same_hold
returns c = rw (guarded_is _ _ _ _ _, ← c.is_marked.ensures, c.if-is_marked.false, ← c.is_in_pairs.ensures, c.if-is_in_pairs.false, ← c.eq.ensures)
