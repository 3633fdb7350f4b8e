-- `wave_read::put_step` meets its contract.
use Prim.Native.Nat.{◌+◌}
use native.Mathlib.Omega.{arith}
use lib.ListN.{set, length-set}
use Rattle.wave_read.specs.Laws.{step_words_lem}
use Rattle.wave_read.proofs.put_step.Goals as goal

pub bounds-out-at-2 : goal.bounds-out-at-2
bounds-out-at-2 c = let a = c.args in omega (arith, length-set a.out.now a.at a.kind)

pub bounds-out-at-3 : goal.bounds-out-at-3
bounds-out-at-3 c = let a = c.args in omega (arith, length-set a.out.now a.at a.kind, length-set (set a.out.now a.at a.kind) (a.at + 1) a.cell)

pub returns : goal.returns
returns c = let a = c.args in step_words_lem a.out.now a.at a.kind a.cell
