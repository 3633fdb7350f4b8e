use Rattle.report_call.specs.Scan.{scan_from, scan_of, Bounded}
use lib.ListN.{length}
use mathlib.Core.Path.{◌≡◌}
use Prim.Native.Nat.{◌≤◌, ◌-◌, ◌+◌}
use Rattle.report_call.proofs.scan.Given as goal

abbrev pub invariant-loop-number : goal.invariant-loop-number
invariant-loop-number l = Bounded l.sums × (l.number ≡ l.sums.trials + 1) × (l.at ≤ length l.input) × (scan_from l.input (1001 - l.number) l.at l.sums ≡ scan_of l.input)
