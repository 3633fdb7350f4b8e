-- `wave_write::put_vars` meets its contract.
use Rattle.std.proofs.Common.{[], ◌∙◌, arith, rules}
use Rattle.wave_rules.specs.Lines.{joined}
use Rattle.wave_rules.specs.Dump.{var_line, vars_of}
use Rattle.wave_write.specs.Laws.{put_nothing, each_turn, each_room, each_end, length_var}
use Rattle.wave_write.proofs.put_vars.Goals as goal

pub put_var-used-requires : goal.put_var-used-requires
put_var-used-requires c =
    let l = c.loop-cell in
    let a = c.args in
    let room = each_room var_line l.out a.out.now l.used a.at a.n l.cell (joined (vars_of 0 a.n [])) (search rules) l.invariant.1 in
    (search rules, omega (arith, room, length_var l.cell, l.invariant.0))

pub loop-cell-preserved : goal.loop-cell-preserved
loop-cell-preserved c =
    let l = c.loop-cell in
    let a = c.args in
    (omega (arith, c.put_var-used.auto, l.invariant.0), each_turn var_line l.out _ l.used _ a.n l.cell (search rules) c.put_var-used.ensures ∙ l.invariant.1)

pub returns : goal.returns
returns c =
    let l = c.loop-cell in
    let a = c.args in
    put_nothing l.out l.used ∙ rw (each_end var_line a.n l.cell [] (search rules)) at l.invariant.1
