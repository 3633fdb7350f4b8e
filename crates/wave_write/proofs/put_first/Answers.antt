-- `wave_write::put_first` meets its contract.
use Rattle.std.proofs.Common.{[], ◌∙◌, arith, rules}
use Rattle.wave_rules.specs.Lines.{joined}
use Rattle.wave_rules.specs.Dump.{bit_line, first_of}
use Rattle.wave_write.specs.Laws.{put_nothing, each_turn, each_room, each_end, length_bit}
use Rattle.wave_write.proofs.put_first.Goals as goal

pub put_bit-used-requires : goal.put_bit-used-requires
put_bit-used-requires c =
    let l = c.loop-cell in
    let a = c.args in
    let room = each_room (bit_line 0) l.out a.out.now l.used a.at a.n l.cell (joined (first_of 0 a.n [])) (search rules) l.invariant.1 in
    (search rules, search rules, omega (arith, room, length_bit 0 l.cell, l.invariant.0))

pub loop-cell-preserved : goal.loop-cell-preserved
loop-cell-preserved c =
    let l = c.loop-cell in
    let a = c.args in
    (omega (arith, c.put_bit-used.auto, l.invariant.0), each_turn (bit_line 0) l.out _ l.used _ a.n l.cell (search rules) c.put_bit-used.ensures ∙ l.invariant.1)

pub returns : goal.returns
returns c =
    let l = c.loop-cell in
    let a = c.args in
    put_nothing l.out l.used ∙ rw (each_end (bit_line 0) a.n l.cell [] (search rules)) at l.invariant.1
