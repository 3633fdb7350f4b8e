use Rattle.report_call.specs.Laws.{report_is}
use Rattle.report_rules.specs.Report.{report_of}
use borrow.Author.Tests.{lt-ltb}
use Rattle.report_call.proofs.report.Goals as goal

pub returns-then-out-lt4096 : goal.returns-then-out-lt4096
unfolding report_of
returns-then-out-lt4096 c = rw (lt-ltb _ _ c.if-out-lt4096.true)

pub returns : goal.returns
returns c = report_is c.args.input.now c.args.out.now _ _ _ c.if-out-lt4096.false c.scan.ensures c.put_report.ensures
