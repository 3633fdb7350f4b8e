-- `sorted::back::share` meets its contract.
use Prim.Native.Nat.{◌<◌, ◌*◌, ◌+◌}
use native.Mathlib.Omega.{arith}
use lib.ListN.{length, length-set}
use Rattle.model.specs.Arena.{holds_of}
use Rattle.sorted.specs.Back.{shared_push}
use Rattle.std.proofs.Common.{rules}
use Rattle.sorted.proofs.back.share.Goals as goal

pub loop-i-preserved : goal.loop-i-preserved
loop-i-preserved c =
    let l = c.loop-i in
    let a = c.args in
    let b : 3 * l.i + 2 < length l.grants = omega (arith, c.loop-i-test.true, l.invariant.1.0, c.requires) in
    (search rules, (simp length-set l.invariant.1.0, rw c.hold_on-hold.ensures (shared_push a.boot (holds_of a.leases.now) a.asked.now l.grants l.i c.loop-i-test.true b l.invariant.1.1)))
