use Rattle.report_rules.specs.Report.{head_of}
use Rattle.report_call.proofs.put_head.Goals as goal

pub returns : goal.returns
unfolding head_of
returns c = c.put_form.ensures
