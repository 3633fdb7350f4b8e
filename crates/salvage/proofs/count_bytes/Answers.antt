-- `salvage::count_bytes` meets its contract.
use native.Mathlib.Omega.{arith}
use Rattle.salvage.specs.Laws.{bytes_turn, bytes_end, bytes_start}
use Rattle.laws.specs.Salvage.{changed_small}
use Rattle.std.proofs.Common.{rules}
use Rattle.salvage.proofs.count_bytes.Goals as goal

pub loop-byte-init : goal.loop-byte-init
loop-byte-init c = let a = c.args in (search rules, search rules, bytes_start a.health.now)

pub overflow_add-count : goal.overflow_add-count
overflow_add-count c = omega (arith, changed_small _ _ _ c.changed_byte-count.ensures, c.loop-byte.invariant.1)

pub loop-byte-preserved : goal.loop-byte-preserved
loop-byte-preserved c =
    let l = c.loop-byte in
    let a = c.args in
    (search rules, omega (arith, changed_small _ _ _ c.changed_byte-count.ensures, l.invariant.1), omega (arith, bytes_turn a.health.now l.byte-index (search rules), c.changed_byte-count.ensures, l.invariant.2))

pub returns : goal.returns
returns c =
    let l = c.loop-byte in
    let a = c.args in
    omega (arith, bytes_end a.health.now l.byte-index (search rules), l.invariant.2)
