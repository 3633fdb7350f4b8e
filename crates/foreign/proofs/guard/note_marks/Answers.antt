-- `foreign::guard::note_marks` meets its contract.
use Prim.Native.Nat.{◌-◌}
use native.Mathlib.Omega.{arith}
use Rattle.foreign.specs.Marks.{marks_start, noting_few}
use Rattle.std.proofs.Common.{rules}
use Rattle.foreign.proofs.guard.note_marks.Goals as goal

pub loop-i-init : goal.loop-i-init
loop-i-init c = let h = c.args.held.now in
    (omega (arith, c.noting-i.ensures, (marks_start h).1), (omega (arith, c.noting-i.ensures, noting_few h), (search rules, rw (c.noting-i.ensures, c.requires) (marks_start h).0)))
