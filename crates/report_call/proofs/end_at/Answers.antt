use Rattle.report_rules.specs.Reading.{end_at}
use Rattle.report_call.proofs.end_at.Goals as goal

pub returns-then-not-stands : goal.returns-then-not-stands
unfolding end_at
returns-then-not-stands c = rw (← c.stands.ensures, c.if-not-stands.true)

pub returns : goal.returns
unfolding end_at
returns c = rw (← c.stands.ensures, c.if-not-stands.false)
