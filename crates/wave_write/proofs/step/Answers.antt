-- `wave_write::step` meets its contract.
use mathlib.Core.Path.{◌∙◌}
use native.Mathlib.Omega.{arith}
use lib.ListN.{get_or}
use Rattle.wave_rules.proofs.Stages.{changes_in_lem}
use Rattle.wave_write.specs.Laws.{turn_true, turn_false, wanted_is, wanted_few, step_done, step_none}
use Rattle.std.proofs.Common.{rules}
use Rattle.wave_write.proofs.step.Goals as goal

pub overflow_cast-cell : goal.overflow_cast-cell
overflow_cast-cell c =
    let a = c.args in
    let f = turn_true a.n a.bits.now _ a.kind a.cell _ c.if-flip.true c.flip.ensures in
    let l = changes_in_lem a.n a.bits.now a.kind a.cell f.0 in
    omega (arith, l.0)

pub put_change-requires : goal.put_change-requires
put_change-requires c =
    let a = c.args in
    let f = turn_true a.n a.bits.now _ a.kind a.cell _ c.if-flip.true c.flip.ensures in
    let l = changes_in_lem a.n a.bits.now a.kind a.cell f.0 in
    (omega (arith, c.wanted.ensures, wanted_few a.kind), omega (arith, l.0), search rules, c.requires.2 f.0)

pub returns-then-flip : goal.returns-then-flip
returns-then-flip c =
    let a = c.args in
    let f = turn_true a.n a.bits.now _ a.kind a.cell _ c.if-flip.true c.flip.ensures in
    let l = changes_in_lem a.n a.bits.now a.kind a.cell f.0 in
    let e = c.wanted.ensures ∙ wanted_is a.kind (get_or a.bits.now a.cell 0) l.1 in
    step_done a.n a.t a.bits.now a.kind a.cell a.out.now a.at _ _ _ _ f.0 f.1 e c.put_change.ensures

pub returns : goal.returns
returns c =
    let a = c.args in
    let f = turn_false a.n a.bits.now _ a.kind a.cell _ c.if-flip.false c.flip.ensures in
    step_none a.n a.t a.bits.now a.kind a.cell a.out.now a.at _ f.0 f.1
