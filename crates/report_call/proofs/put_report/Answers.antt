use Rattle.report_call.specs.Laws.{head_few}
use Rattle.report_rules.specs.Report.{head_of, rows_of}
use Rattle.report_call.specs.Scan.{seen_in, printed_of}
use Rattle.print.specs.Laws.{put_join, put_place}
use lib.ListN.{get_or}
use native.Mathlib.Omega.{arith}
use Rattle.report_call.proofs.put_report.Goals as goal

pub put_rows-requires : goal.put_rows-requires
put_rows-requires c =
    let s = c.in-Ok.sums in
    omega (arith, put_place _ _ _ _ _ c.put_head-used.ensures, c.put_head-used.auto, head_few s.trials (get_or s.counts 0 0) s.attempts s.greatest, c.requires)

pub returns-in-Ok : goal.returns-in-Ok
unfolding printed_of
returns-in-Ok c =
    let s = c.in-Ok.sums in
    rw c.in-Ok.is
    (put_join _ _ _ _ _ _ (head_of s.trials (get_or s.counts 0 0) s.attempts s.greatest) (rows_of (seen_in s.counts) 1 16) c.put_head-used.ensures c.put_rows.ensures)

pub returns-in-Err : goal.returns-in-Err
unfolding printed_of
returns-in-Err c = rw c.in-Err.is c.put_bad.ensures
