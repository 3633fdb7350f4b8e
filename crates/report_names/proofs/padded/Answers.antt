use Rattle.report_names.specs.Table.{table_of, row_named, no_name}
use Rattle.model.specs.Names.{names}
use Rattle.std.proofs.Common.{rules}
use Rattle.report_names.proofs.padded.Goals as goal

pub returns-then-number-lt1-clause-value : goal.returns-then-number-lt1-clause-value
returns-then-number-lt1-clause-value c = rw (no_name c.args.number c.then-number-lt1.either)

pub returns-clause-value : goal.returns-clause-value
unfolding table_of names
returns-clause-value c = row_named c.args.number _ (search rules) (search rules)
