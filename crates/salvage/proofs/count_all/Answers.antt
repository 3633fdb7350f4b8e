-- `salvage::count_all` meets its contract.
use native.Mathlib.Omega.{arith}
use Rattle.salvage.specs.Laws.{tally_few, tally_all, count_bytes_small}
use Rattle.salvage.proofs.count_all.Goals as goal

pub overflow_add-result : goal.overflow_add-result
overflow_add-result c = omega (arith, tally_few _ _ _ _ c.count_cells-all.ensures, count_bytes_small _ _ c.count_bytes-bytes.ensures)

pub returns : goal.returns
returns c = let a = c.args in tally_all a.head a.table.now a.health.now _ _ c.requires.0 c.count_cells-all.ensures c.count_bytes-bytes.ensures
