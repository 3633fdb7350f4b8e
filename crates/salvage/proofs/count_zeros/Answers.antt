-- `salvage::count_zeros` meets its contract.
use native.Mathlib.Omega.{arith}
use Rattle.salvage.specs.Laws.{zeros_word, zeros_end, zeros_start, zero_few}
use Rattle.std.proofs.Common.{rules}
use Rattle.salvage.proofs.count_zeros.Goals as goal

pub loop-word-init : goal.loop-word-init
loop-word-init c = let a = c.args in (search rules, search rules, zeros_start a.table.now)

pub overflow_add-count : goal.overflow_add-count
overflow_add-count c = omega (arith, zero_few _ _ c.zero-count.ensures, c.loop-word.invariant.1, c.requires)

pub loop-word-preserved : goal.loop-word-preserved
loop-word-preserved c =
    let l = c.loop-word in
    let a = c.args in
    (search rules, omega (arith, zero_few _ _ c.zero-count.ensures, l.invariant.1), omega (arith, zeros_word a.table.now l.word-index (search rules), c.zero-count.ensures, l.invariant.2))

pub returns : goal.returns
returns c =
    let l = c.loop-word in
    let a = c.args in
    omega (arith, zeros_end a.table.now l.word-index (search rules), l.invariant.2)
