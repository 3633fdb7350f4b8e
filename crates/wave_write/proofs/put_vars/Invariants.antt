-- `wave_write::put_vars` meets its contract.
use Prim.Native.Nat.{◌-◌}
use mathlib.Core.Path.{◌≡◌}
use mathlib.Core.List.{[]}
use lib.ListN.{length}
use Rattle.wave_rules.specs.Lines.{joined}
use Rattle.wave_rules.specs.Dump.{vars_of}
use Rattle.print.specs.Print.{put_of}
use Rattle.wave_write.proofs.put_vars.Given as goal

abbrev pub invariant-loop-cell : goal.invariant-loop-cell
invariant-loop-cell l = (length l.out ≡ length l.initial.out) × (put_of l.out l.used (joined (vars_of l.cell (l.n - l.cell) [])) ≡ put_of l.initial.out l.at (joined (vars_of 0 l.n [])))
