use Rattle.report_rules.specs.Report.{rows_of}
use Rattle.report_call.specs.Scan.{seen_in}
use Rattle.print.specs.Print.{put_of}
use lib.ListN.{length}
use mathlib.Core.Path.{◌≡◌}
use Prim.Native.Nat.{◌≤◌, ◌-◌, ◌+◌, ◌*◌}
use Rattle.report_call.proofs.put_rows.Given as goal

abbrev pub invariant-loop-number : goal.invariant-loop-number
invariant-loop-number l = (length l.out ≡ length l.initial.out) × (l.number ≤ 17) × (l.used + 120 * (17 - l.number) ≤ l.at + 1920) × (put_of l.out l.used (rows_of (seen_in l.counts) l.number (17 - l.number)) ≡ put_of l.initial.out l.at (rows_of (seen_in l.counts) 1 16))

abbrev pub decreases-loop-number : goal.decreases-loop-number
decreases-loop-number l = 17 - l.number
