-- `wave_write::fitted` meets its contract.
use Prim.Native.Nat.{◌<◌, ◌≤◌}
use native.Mathlib.Omega.{arith}
use lib.ListN.{length}
use borrow.Author.Tests.{lt-ltb, le-ltb}
use Rattle.wave_rules.specs.Dump.{dump_of}
use Rattle.wave_rules.specs.Calls.{fitted_of}
use Rattle.print.specs.Laws.{put_place}
use Rattle.wave_write.specs.Laws.{head_size, head_few, dump_size, dump_put}
use Rattle.std.proofs.Common.{rules}
use Rattle.wave_write.proofs.fitted.Goals as goal

pub overflow_add-size : goal.overflow_add-size
overflow_add-size c =
    let n = c.args.n in
    omega (arith, c.body_size.ensures.upper_bound, c.head_size.ensures, head_size n, head_few n 0)

pub returns-then-out-size : goal.returns-then-out-size
unfolding fitted_of
returns-then-out-size c =
    let a = c.args in
    let h : length a.out.now < length (dump_of a.n a.script.now) = omega (arith, c.if-out-size.true, dump_size a.n a.script.now, c.body_size.ensures.value, c.head_size.ensures) in
    rw (lt-ltb _ _ h)

pub put_body-requires : goal.put_body-requires
put_body-requires c =
    let e = put_place _ _ _ _ _ c.put_head-at.ensures in
    (search rules, search rules, omega (arith, e, c.put_head-at.auto, c.if-out-size.false, c.body_size.ensures.value, c.head_size.ensures))

pub returns : goal.returns
unfolding fitted_of
returns c =
    let a = c.args in
    let h : length (dump_of a.n a.script.now) ≤ length a.out.now = omega (arith, c.if-out-size.false, dump_size a.n a.script.now, c.body_size.ensures.value, c.head_size.ensures) in
    rw (le-ltb _ _ h) (dump_put a.n a.script.now a.out.now _ _ _ _ c.put_head-at.ensures c.put_body.ensures)
