-- `wave_write::put_body` meets its contract.
use Rattle.std.proofs.Common.{◌≡◌, ◌+◌, ◌*◌, ◌∙◌, refl, arith, rules}
use Rattle.wave_rules.specs.Lines.{joined}
use Rattle.wave_rules.specs.Dump.{no_bits, body_of}
use Rattle.wave_write.specs.Laws.{put_nothing, body_turn, body_room, body_end}
use Rattle.wave_write.proofs.put_body.Goals as goal

pub loop-s-init : goal.loop-s-init
unfolding no_bits
loop-s-init c = (search rules, refl)

pub step-used-requires : goal.step-used-requires
step-used-requires c =
    let l = c.loop-s in
    let a = c.args in
    (search rules, omega arith, λ z. omega (arith, l.invariant.0, c.requires, body_room a.n (l.s + 1) l.bits a.script.now (3 * l.s) l.out a.out.now l.used a.at (joined (body_of a.n 1 no_bits a.script.now)) (omega arith) z l.invariant.1))

pub loop-s-preserved : goal.loop-s-preserved
loop-s-preserved c =
    let l = c.loop-s in
    let a = c.args in
    let next : 3 * (l.s + 1) ≡ 3 * l.s + 3 = omega arith in
    (omega (arith, c.step-used.auto, l.invariant.0), rw next (body_turn a.n (l.s + 1) l.bits a.script.now (3 * l.s) l.out l.used _ _ _ (omega arith) c.step-used.ensures) ∙ l.invariant.1)

pub returns : goal.returns
returns c =
    let l = c.loop-s in
    let a = c.args in
    put_nothing l.out l.used ∙ rw (body_end a.n (l.s + 1) l.bits a.script.now (3 * l.s) (omega arith)) at l.invariant.1
