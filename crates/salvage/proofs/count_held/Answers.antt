-- `salvage::count_held` meets its contract.
use native.Mathlib.Omega.{arith}
use Rattle.salvage.specs.Laws.{held_count_start, held_turn_length, held_count_end, held_in_small}
use Rattle.std.proofs.Common.{rules, refl}
use Rattle.salvage.proofs.count_held.Goals as goal

pub loop-cell-init : goal.loop-cell-init
loop-cell-init c = let a = c.args in (search rules, search rules, held_count_start a.next a.cells a.table.now)

pub loop-cell-preserved : goal.loop-cell-preserved
loop-cell-preserved c =
    let l = c.loop-cell in
    let a = c.args in
    (search rules, omega (arith, held_in_small _ a.next a.table.now l.cell refl, c.add_held-count.ensures, l.invariant.1), omega (arith, held_turn_length a.next a.table.now a.cells l.cell (search rules), c.add_held-count.ensures, l.invariant.2))

pub returns : goal.returns
returns c =
    let l = c.loop-cell in
    let a = c.args in
    omega (arith, held_count_end a.next a.table.now a.cells l.cell (search rules), l.invariant.2)
