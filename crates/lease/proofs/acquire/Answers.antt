-- `lease::acquire` meets its contract.
use Rattle.lease.specs.Model.{acquire_is}
use Rattle.lease.proofs.acquire.Goals as goal

pub returns : goal.returns
returns c = rw (acquire_is _ _ _ _, ← c.claim_at-claim.ensures, ← c.claim_reply.ensures)
