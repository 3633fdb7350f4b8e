-- `wave_read::put_zeros` meets its contract.
use Rattle.std.proofs.Common.{◌+◌, ◌-◌, drop, arith, length-drop, length-take-le}
use Rattle.wave_read.specs.Laws.{zeros_put}
use Rattle.wave_read.proofs.put_zeros.Goals as goal

pub returns : goal.returns
returns c =
    let a = c.args in
    let l = length-take-le (a.at + a.count - a.at) (drop a.at a.out.now) (omega (arith, length-drop a.at a.out.now)) in
    zeros_put a.out.now c.fill.new.self a.at a.count _ c.requires (c.fill.ensures.after (λ y e. e)) (omega (arith, l))
