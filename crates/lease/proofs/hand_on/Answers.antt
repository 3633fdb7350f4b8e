-- `lease::hand_on` meets its contract.
use Rattle.laws.specs.Words.{state_freed}
use Rattle.lease.specs.Model.{acquire_free}
use Rattle.std.proofs.Common.{rules}
use Rattle.lease.proofs.hand_on.Goals as goal

pub returns : goal.returns
returns c = let a = c.args in
    let e = acquire_free a.n a.head _ a.cell (state_freed a.head.next a.table.now a.cell (search rules)) in
    rw (e, ← c.release.ensures, ← c.claim_free-claim.ensures, ← c.claim_reply.ensures)
