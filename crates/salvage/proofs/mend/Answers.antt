-- `salvage::mend` meets its contract.
use native.Mathlib.Omega.{arith}
use mathlib.Core.Path.{ap}
use Prim.Native.Nat.{ℕ}
use lib.ListN.{length}
use Rattle.salvage.specs.Laws.{used_is_held, mend_listed, mend_idle}
use Rattle.std.proofs.Common.{rules}
use Rattle.salvage.proofs.mend.Goals as goal

pub list_cells-requires : goal.list_cells-requires
list_cells-requires c =
    let a = c.args in
    let p = c.requires in
    (search rules, omega (arith, ap {B = ℕ} length (used_is_held a.head a.table.now a.health.now p.0 (omega (arith, p.4, c.if-changes-gt0.false))), p.3))

pub returns-then-left-gt0 : goal.returns-then-left-gt0
returns-then-left-gt0 c =
    let a = c.args in
    let p = c.requires in
    rw c.list_cells.ensures (mend_listed a.head a.table.now a.health.now p.0 (omega (arith, p.4, c.if-changes-gt0.false)) a.report.now a.unconfirmed.now p.3)

pub returns-else-left-gt0 : goal.returns-else-left-gt0
returns-else-left-gt0 c =
    let a = c.args in
    let p = c.requires in
    mend_idle a.head a.table.now a.health.now p.0 (omega (arith, p.4, c.if-changes-gt0.false)) a.report.now a.unconfirmed.now (omega (arith, p.5, c.if-left-gt0.false))
