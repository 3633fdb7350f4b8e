-- `wave_line::walk` meets its contract.
use Rattle.std.proofs.Common.{◌∙◌, arith, rules}
use Rattle.wave_line.specs.Fronts.{digit_other, digit_this, walk_turn, walk_stop}
use Rattle.wave_line.proofs.walk.Goals as goal

pub time_end-requires : goal.time_end-requires
time_end-requires c =
    let p = c.requires in (
      c.loop-i.invariant,
      omega (arith, c.loop-i-test.true, p.1),
      omega (arith, c.loop-i-test.true, p.2),
      p.4,
      digit_other _ _ (c.wrapping_sub_usize-digit.ensures.value ∙ c.from.ensures) (search rules) c.if-digit-gt9.true,
    )

pub loop-i-preserved : goal.loop-i-preserved
loop-i-preserved c =
    let l = c.loop-i in
    let a = c.args in
    let d = digit_this _ _ (c.wrapping_sub_usize-digit.ensures.value ∙ c.from.ensures) c.if-digit-gt9.false in
    rw d.1 (walk_turn a.text.now a.at l.t l.i l.invariant (omega (arith, c.loop-i-test.true, c.requires.1)) d.0)

pub returns : goal.returns
returns c =
    let l = c.loop-i in
    let a = c.args in
    walk_stop a.text.now a.at l.t l.i a.stop l.invariant c.loop-i-test.false c.requires.3
