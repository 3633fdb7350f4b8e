-- `wave_read::put_change` meets its contract.
use Prim.Native.Nat.{◌*◌}
use native.Mathlib.Omega.{arith}
use Rattle.wave_read.specs.Laws.{change_put, zeros_place}
use Rattle.wave_read.proofs.put_change.Goals as goal

pub put_step-requires : goal.put_step-requires
put_step-requires c =
    let a = c.args in
    omega (arith, zeros_place a.out.now _ a.at _ (3 * a.gap) c.put_zeros-a.ensures, c.put_zeros-a.auto, c.requires)

pub returns : goal.returns
returns c = change_put _ _ _ _ _ _ _ _ _ c.put_zeros-a.ensures c.put_step.ensures
