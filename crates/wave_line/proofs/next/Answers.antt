-- `wave_line::next` meets its contract.
use Rattle.std.proofs.Common.{rules}
use Rattle.text.specs.Decimal.{decimal_of, digit_count, digit_count_in}
use Rattle.wave_rules.specs.Dump.{timescale, scope_line, end_line, time_line}
use Rattle.wave_line.proofs.next.Goals as goal

pub returns-in-Opening : goal.returns-in-Opening
unfolding timescale
returns-in-Opening c = search rules

pub returns-in-Scope : goal.returns-in-Scope
unfolding scope_line
returns-in-Scope c = search rules

pub returns-in-Ending : goal.returns-in-Ending
unfolding end_line
returns-in-Ending c = search rules

pub returns-in-Start : goal.returns-in-Start
unfolding time_line decimal_of digit_count digit_count_in
returns-in-Start c = search rules
