-- `wave_line::time_end` meets its contract.
use Rattle.std.proofs.Common.{arith}
use Rattle.wave_line.specs.Fronts.{walk_other, walk_padded, walk_end}
use Rattle.wave_line.proofs.time_end.Goals.{then-text-i-ne10-via-then-text-i-ne10, then-text-i-ne10-via-else-text-i-ne10+then-text-at-eq48}
use Rattle.wave_line.proofs.time_end.Goals as goal

pub returns-then-text-i-ne10 : goal.returns-then-text-i-ne10
returns-then-text-i-ne10 c =
    let a = c.args in
    let p = c.requires in
    elim c.then-text-i-ne10.branch [
      | then-text-i-ne10-via-then-text-i-ne10 w ↦ walk_other a.text.now a.at a.t a.i p.0 p.1 p.4 w.if-text-i-ne10.true
      | then-text-i-ne10-via-else-text-i-ne10+then-text-at-eq48 w ↦ walk_padded a.text.now a.at (omega (arith, p.0.begun, p.1)) w.if-text-at-eq48.true
    ]

pub returns : goal.returns
returns c =
    let a = c.args in
    let p = c.requires in
    let w = walk_end a.text.now a.at a.t a.i p.0 p.1 p.2 p.3 c.if-text-at-eq48.false c.if-text-i-ne10.false in
    record { told = w.0; next = (omega (arith, w.1), omega (arith, p.1)) }
