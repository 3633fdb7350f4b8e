-- `lock::quiet_take` meets its contract.
use borrow.Author.Tests.{eq-eqb}
use Rattle.lock.specs.Laws.{take_claim}
use Rattle.lock.specs.Model.{quiet_take_of}
use Rattle.lock.proofs.quiet_take.Goals as goal

pub returns-then-waiters_at-eq0 : goal.returns-then-waiters_at-eq0
unfolding quiet_take_of
returns-then-waiters_at-eq0 c =
    let a = c.args in
    rw (← c.waiters_at.ensures, eq-eqb _ _ c.if-waiters_at-eq0.true, take_claim a.head.headers a.head.buckets a.head.boot _ _ _, ← c.spent_to.ensures, ← c.claim_at-claim.ensures, ← c.boundaries_for.ensures)
