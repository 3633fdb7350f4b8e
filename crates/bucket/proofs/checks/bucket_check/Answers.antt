-- `bucket::checks::bucket_check` meets its contract.
use mathlib.Core.Path.{sym, ◌∙◌}
use Rattle.std.proofs.Common.{rules}
use Rattle.laws.specs.Checks.{stopped, went_on}
use Rattle.model.specs.Checks.{bucket_rules}
use Rattle.bucket.specs.Fine.{key_rules}
use Rattle.bucket.proofs.checks.bucket_check.Goals as goal

pub returns-in_err-key_fault : goal.returns-in_err-key_fault
unfolding bucket_rules key_rules
returns-in_err-key_fault c = stopped _ _ _ (search rules) (sym c.key_fault.ensures ∙ c.in_err-key_fault.was)

pub returns : goal.returns
unfolding bucket_rules key_rules
returns c = went_on _ _ c.binding_fault.ensures (sym c.key_fault.ensures ∙ c.in_ok-key_fault.was)
