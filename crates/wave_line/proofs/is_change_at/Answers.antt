-- `wave_line::is_change_at` meets its contract.
use Rattle.std.proofs.Common.{◌≡◌, ◌+◌, ◌-◌, get_or, ◌∙◌, arith, rules, le-ltb}
use Rattle.wave_line.specs.Fronts.{change_short, change_long, change_beyond, change_is}
use Rattle.wave_line.proofs.is_change_at.Goals.{then-text-at-lt3-via-then-text-at-lt3, then-text-at-lt3-via-else-text-at-lt3+then-text-at-ne10}
use Rattle.wave_line.proofs.is_change_at.Goals as goal

pub returns-then-text-at-lt3 : goal.returns-then-text-at-lt3
returns-then-text-at-lt3 c =
    let a = c.args in
    elim c.then-text-at-lt3.branch [
      | then-text-at-lt3-via-then-text-at-lt3 w ↦ change_short a.text.now a.at a.n a.bits.now w.if-text-at-lt3.true
      | then-text-at-lt3-via-else-text-at-lt3+then-text-at-ne10 w ↦ change_long a.text.now a.at a.n a.bits.now w.if-text-at-ne10.true
    ]

pub returns-then-cell-n : goal.returns-then-cell-n
returns-then-cell-n c =
    let a = c.args in
    let w = c.wrapping_sub_usize-cell.ensures.value ∙ c.from.ensures in
    let n = c.if-cell-n.true in
    let cell : c.wrapping_sub_usize-cell.result ≡ get_or a.text.now (a.at + 1) 0 - 33 = omega (arith, w, n, c.requires.0) in
    rw (c.turned.ensures, cell) (change_is a.text.now a.at a.n a.bits.now c.if-text-at-lt3.false c.if-text-at-ne10.false (omega (arith, w, n, c.requires.0)) (omega (arith, n, cell)))

pub returns-else-cell-n : goal.returns-else-cell-n
returns-else-cell-n c =
    let a = c.args in
    rw (le-ltb _ _ c.if-cell-n.false) (change_beyond a.text.now a.at a.n a.bits.now _ (c.wrapping_sub_usize-cell.ensures.value ∙ c.from.ensures) (search rules) c.if-cell-n.false)
