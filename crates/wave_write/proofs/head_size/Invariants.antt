-- `wave_write::head_size` meets its contract.
use Prim.Native.Nat.{◌≤◌, ◌-◌, ◌+◌, ◌*◌}
use mathlib.Core.Path.{◌≡◌}
use mathlib.Core.List.{[]}
use lib.ListN.{length}
use Rattle.wave_rules.specs.Lines.{joined}
use Rattle.wave_rules.specs.Dump.{vars_of, first_of}
use Rattle.wave_write.specs.Writer.{head_of}
use Rattle.wave_write.proofs.head_size.Given as goal

abbrev pub invariant-loop-cell : goal.invariant-loop-cell
invariant-loop-cell l = (l.size ≤ 80 + 30 * l.cell) × (l.size + (length (joined (vars_of l.cell (l.n - l.cell) [])) + length (joined (first_of l.cell (l.n - l.cell) []))) ≡ length (head_of l.n))
