-- `salvage::add_held` meets its contract.
use mathlib.Core.Path.{◌∙◌}
use Rattle.salvage.specs.Laws.{held_unset, held_adds}
use Rattle.salvage.proofs.add_held.Goals as goal

pub returns-then-bit-ne1 : goal.returns-then-bit-ne1
returns-then-bit-ne1 c = let a = c.args in held_unset a.next a.table.now a.cell a.count (λ e. c.if-bit-ne1.true (c.bit_at-bit.ensures ∙ e))

pub returns : goal.returns
returns c =
    let a = c.args in
    held_adds a.next a.table.now a.cell _ _ _ a.count _ c.bit_at-bit.ensures c.owner_at-owner.ensures c.is_held.ensures (λ e. (rw e at c.from.ensures)) (λ e. (rw e at c.from.ensures))
