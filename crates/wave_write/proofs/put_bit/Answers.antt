-- `wave_write::put_bit` meets its contract.
use Rattle.wave_rules.specs.Lines.{joined}
use Rattle.wave_rules.specs.Dump.{bit_line}
use Rattle.wave_write.proofs.put_bit.Goals as goal

pub returns : goal.returns
unfolding joined bit_line
returns c = c.put.ensures
