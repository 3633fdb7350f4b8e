-- `wave_write::put_digits` meets its contract.
use Rattle.std.proofs.Common.{ℕ, ◌-◌, ◌∙◌, arith}
use Rattle.std.proofs.Math.ListN.{length-set}
use Rattle.std.proofs.lemmas.List.{length-replicate}
use Rattle.wave_write.specs.Laws.{marks, digits_first, digits_start, digits_done}
use Rattle.wave_write.proofs.put_digits.Goals as goal

pub loop-i-init : goal.loop-i-init
loop-i-init g c =
    let n = g.row.N in
    (omega arith, length-set (marks n) (n - 1) 10 ∙ length-replicate {A = ℕ} n 35, digits_first n (omega arith), digits_start n c.args.t c.requires.1)

pub returns : goal.returns
returns g c =
    let l = c.loop-i in
    let d = digits_done c.args.t l.i l.rest l.text (omega arith) l.invariant.2 (omega arith) l.invariant.3 in
    rw d at c.put.ensures
