-- `salvage::mend_cell` meets its contract.
use native.Mathlib.Omega.{arith}
use Prim.Native.Nat.{◌+◌, ◌*◌, ◌≤◌}
use mathlib.Core.Bool.{true, false}
use mathlib.Core.Path.{◌≡◌, sym, ◌∙◌}
use lib.ListN.{length}
use Rattle.model.specs.Salvage.{change_of}
use Rattle.salvage.specs.Laws.{held_here, here, held_in_one, fits_held, fits_other, mended_held, mended_other, cleared_place, cleared_other, bit_read, owner_read, waiters_read}
use Rattle.std.proofs.Common.{rules}
use Rattle.salvage.proofs.mend_cell.Goals as goal
use Rattle.salvage.proofs.mend_cell.Goals.{Else-is_held, Then-is_held}

held : (c : Then-is_held) → let a = c.args in held_here a.next a.table.now a.cell ≡ true
held c =
    let a = c.args in
    here a.next a.table.now a.cell _ _ _ c.bit_at-bit.ensures c.owner_at-owner.ensures c.is_held.ensures ∙ c.if-is_held.true

other : (c : Else-is_held) → let a = c.args in held_here a.next a.table.now a.cell ≡ false
other c =
    let a = c.args in
    here a.next a.table.now a.cell _ _ _ c.bit_at-bit.ensures c.owner_at-owner.ensures c.is_held.ensures ∙ c.if-is_held.false

room : (c : Else-is_held) → let a = c.args in
    a.ends.at + length (change_of (3 * a.cell) c.bit_at-bit.result 0) + length (change_of (3 * a.cell + 1) c.owner_at-owner.result 0) + length (change_of (3 * a.cell + 2) c.waiters_at-waiters.result 0) ≤ length a.report.now
room c =
    let a = c.args in
    fits_other a.next a.table.now a.cell a.ends.at _ _ _ _ (other c) c.bit_at-bit.ensures c.owner_at-owner.ensures c.waiters_at-waiters.ensures c.requires.2

pub bounds-list-ends : goal.bounds-list-ends
bounds-list-ends c = let a = c.args in omega (arith, held_in_one a.next a.table.now a.cell (held (goal.at.bounds-list-ends c).Then-is_held), c.requires.3)

pub clear_word-end-requires : goal.clear_word-end-requires
clear_word-end-requires c =
    let a = c.args in
    (search rules, c.waiters_at-waiters.ensures ∙ waiters_read a.table.now a.cell, fits_held a.next a.table.now a.cell a.ends.at _ _ (held (goal.at.clear_word-end-requires c).Then-is_held) c.waiters_at-waiters.ensures c.requires.2)

pub returns-then-is_held : goal.returns-then-is_held
returns-then-is_held c =
    let a = c.args in
    mended_held a.next a.table.now a.cell _ _ _ a.list.now _ _ _ a.ends.left (held (goal.at.returns-then-is_held c).Then-is_held) c.waiters_at-waiters.ensures c.clear_word-end.ensures

pub clear_word-a-requires : goal.clear_word-a-requires
clear_word-a-requires c =
    let a = c.args in
    (search rules, c.bit_at-bit.ensures ∙ bit_read a.table.now a.cell, omega (arith, room (goal.at.clear_word-a-requires c).Else-is_held))

pub clear_word-b-requires : goal.clear_word-b-requires
clear_word-b-requires c =
    let a = c.args in
    let first = c.clear_word-a.ensures in
    let owner = c.owner_at-owner.ensures ∙ owner_read a.table.now a.cell ∙ sym (cleared_other _ _ _ _ _ _ _ _ first (3 * a.cell + 1) (omega arith)) in
    (search rules, owner, omega (arith, room (goal.at.clear_word-b-requires c).Else-is_held, cleared_place _ _ _ _ _ _ _ _ first, c.clear_word-a.auto))

pub clear_word-c-requires : goal.clear_word-c-requires
clear_word-c-requires c =
    let a = c.args in
    let first = c.clear_word-a.ensures in
    let second = c.clear_word-b.ensures in
    let read = c.waiters_at-waiters.ensures ∙ waiters_read a.table.now a.cell in
    let waiters = read ∙ sym (cleared_other _ _ _ _ _ _ _ _ second (3 * a.cell + 2) (omega arith) ∙ cleared_other _ _ _ _ _ _ _ _ first (3 * a.cell + 2) (omega arith)) in
    (search rules, waiters, omega (arith, room (goal.at.clear_word-c-requires c).Else-is_held, cleared_place _ _ _ _ _ _ _ _ first, cleared_place _ _ _ _ _ _ _ _ second, c.clear_word-a.auto, c.clear_word-b.auto))

pub returns : goal.returns
returns c =
    let a = c.args in
    mended_other a.next a.table.now a.cell _ _ _ _ _ _ _ a.list.now _ _ _ _ _ _ _ a.ends.left (other (goal.at.returns c).Else-is_held) c.bit_at-bit.ensures c.owner_at-owner.ensures c.waiters_at-waiters.ensures c.clear_word-a.ensures c.clear_word-b.ensures c.clear_word-c.ensures
