-- `lease::claim_at` meets its contract.
use mathlib.Core.Path.{sym, ◌∙◌}
use Rattle.lease.specs.Model.{claim_free}
use Rattle.lease.proofs.claim_at.Goals as goal

pub returns-in-Free : goal.returns-in-Free
returns-in-Free c =
    let a = c.args in
    rw (claim_free a.head a.table.now a.cell (sym c.state_at.ensures ∙ c.in-Free.is)) c.claim_free.ensures
