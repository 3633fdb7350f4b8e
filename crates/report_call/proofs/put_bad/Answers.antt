use Rattle.report_rules.specs.Report.{bad_text}
use Rattle.report_call.proofs.put_bad.Goals as goal

pub returns : goal.returns
unfolding bad_text
returns c = c.put_form.ensures
