-- `wave_write::body_size` meets its contract.
use Rattle.std.specs.Prelude.{ℕ, ◌+◌, ◌*◌, List, length}
use Rattle.std.proofs.Common.{◌≡◌, ap, arith, rules}
use Rattle.wave_rules.specs.Lines.{joined}
use Rattle.wave_rules.specs.Dump.{no_bits}
use Rattle.wave_write.specs.Laws.{body_less, body_end}
use Rattle.wave_write.proofs.body_size.Goals as goal

pub loop-s-init : goal.loop-s-init
unfolding no_bits
loop-s-init c = (search rules, omega arith)

pub overflow_add-size : goal.overflow_add-size
overflow_add-size c =
    let l = c.loop-s in
    let a = c.args in
    let f = body_less a.n (l.s + 1) l.bits a.script.now (3 * l.s) _ _ (omega arith) (omega arith) c.weigh-size.ensures in
    omega (arith, f.1, l.invariant.0)

pub loop-s-preserved : goal.loop-s-preserved
loop-s-preserved c =
    let l = c.loop-s in
    let a = c.args in
    let f = body_less a.n (l.s + 1) l.bits a.script.now (3 * l.s) _ _ (omega arith) (omega arith) c.weigh-size.ensures in
    let next : 3 * (l.s + 1) ≡ 3 * l.s + 3 = omega arith in
    (omega (arith, f.1, l.invariant.0), rw next (omega (arith, f.0, l.invariant.1)))

pub returns-clause-value : goal.returns-clause-value
unfolding joined
returns-clause-value c =
    let l = c.loop-s in
    let a = c.args in
    let e = ap (λ (ls : List (List ℕ)). length (joined ls)) (body_end a.n (l.s + 1) l.bits a.script.now (3 * l.s) (omega arith)) in
    omega (arith, e, l.invariant.1)
