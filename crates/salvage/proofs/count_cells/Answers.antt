-- `salvage::count_cells` meets its contract.
use native.Mathlib.Omega.{arith}
use Rattle.salvage.specs.Laws.{zeros_all, zeros_tally}
use Rattle.salvage.proofs.count_cells.Goals as goal

pub overflow_sub-result : goal.overflow_sub-result
overflow_sub-result c = let a = c.args in omega (arith, zeros_all a.next a.cells a.table.now c.requires.0, c.count_zeros-zeros.ensures)

pub overflow_mul-result : goal.overflow_mul-result
overflow_mul-result c = let a = c.args in omega (arith, zeros_all a.next a.cells a.table.now c.requires.0, c.count_held-left.ensures, c.requires)

pub overflow_sub-result-2 : goal.overflow_sub-result-2
overflow_sub-result-2 c = let a = c.args in omega (arith, zeros_all a.next a.cells a.table.now c.requires.0, c.count_held-left.ensures, c.count_zeros-zeros.ensures)

pub returns : goal.returns
returns c = let a = c.args in zeros_tally a.next a.cells a.table.now _ _ c.requires.0 c.count_held-left.ensures c.count_zeros-zeros.ensures
