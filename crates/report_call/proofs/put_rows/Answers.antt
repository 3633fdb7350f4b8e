use Rattle.report_call.specs.Laws.{row_few, rows_turn, rows_end}
use Rattle.report_call.specs.Scan.{seen_in}
use Rattle.print.specs.Laws.{put_place}
use lib.ListN.{get_or}
use native.Mathlib.Omega.{arith}
use mathlib.Core.Path.{◌∙◌}
use Rattle.std.proofs.Common.{rules}
use Rattle.report_call.proofs.put_rows.Goals as goal

pub loop-number-preserved : goal.loop-number-preserved
loop-number-preserved c =
    let l = c.loop-number in
    let a = c.args in (
      omega (arith, c.put_row-used.auto, l.invariant.0),
      search rules,
      omega (arith, put_place _ _ _ _ _ c.put_row-used.ensures, row_few l.number (get_or a.counts.now l.number 0), l.invariant.2, c.loop-number-test.true),
      rows_turn l.out _ l.used _ (seen_in a.counts.now) l.number (search rules) c.put_row-used.ensures ∙ l.invariant.3,
    )

pub returns : goal.returns
returns c =
    let l = c.loop-number in
    let a = c.args in
    rows_end l.out l.used (seen_in a.counts.now) l.number (search rules) ∙ l.invariant.3
