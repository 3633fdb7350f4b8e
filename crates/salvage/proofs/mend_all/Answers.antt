-- `salvage::mend_all` meets its contract.
use native.Mathlib.Omega.{arith}
use Rattle.salvage.specs.Laws.{changes_long, list_fits, cells_place, mend_whole}
use Rattle.std.proofs.Common.{rules}
use Rattle.salvage.proofs.mend_all.Goals as goal

pub mend_cells-ends-requires : goal.mend_cells-ends-requires
mend_cells-ends-requires c =
    let a = c.args in
    let p = c.requires in
    (search rules, search rules, omega (arith, changes_long a.head a.table.now a.health.now, p.2), list_fits a.head a.table.now _ p.0 p.3)

pub mend_bytes-requires : goal.mend_bytes-requires
mend_bytes-requires c =
    let a = c.args in
    let p = c.requires in
    (search rules, omega (arith, changes_long a.head a.table.now a.health.now, p.2, cells_place _ _ _ _ _ _ c.mend_cells-ends.ensures, c.mend_cells-ends.auto))

pub returns : goal.returns
returns c =
    let a = c.args in
    let p = c.requires in
    mend_whole a.head a.table.now a.health.now a.report.now a.unconfirmed.now _ _ p.0 p.2 p.3 c.mend_cells-ends.ensures c.mend_bytes.ensures
