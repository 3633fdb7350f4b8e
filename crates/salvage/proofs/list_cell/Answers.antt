-- `salvage::list_cell` meets its contract.
use native.Mathlib.Omega.{arith}
use mathlib.Core.Path.{ap, sym, ◌∙◌}
use Prim.Native.Nat.{ℕ}
use lib.ListN.{length}
use mathlib.Core.Logic.{◌≢◌}
use Rattle.model.specs.Arena.{bit_at}
use Rattle.salvage.specs.Laws.{used_none, used_one, used_laid}
use Rattle.salvage.proofs.list_cell.Goals as goal
use Rattle.salvage.proofs.list_cell.Goals.{Else-bit_at-eq0}

-- its bit is not 0
used : (c : Else-bit_at-eq0) → let a = c.args in bit_at a.table.now a.cell ≢ 0
used c = λ e. c.if-bit_at-eq0.false (c.bit_at.ensures ∙ e)

pub returns-then-bit_at-eq0 : goal.returns-then-bit_at-eq0
returns-then-bit_at-eq0 c = let a = c.args in used_none a.table.now a.list.now a.cell a.left (sym c.bit_at.ensures ∙ c.if-bit_at-eq0.true)

pub bounds-list-left : goal.bounds-list-left
bounds-list-left c = let a = c.args in omega (arith, ap {B = ℕ} length (used_one a.table.now a.cell (used (goal.at.bounds-list-left c).Else-bit_at-eq0)), c.requires.1)

pub returns : goal.returns
returns c = let a = c.args in used_laid a.table.now a.list.now a.cell a.left (used (goal.at.returns c).Else-bit_at-eq0)
