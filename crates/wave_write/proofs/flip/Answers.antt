-- `wave_write::flip` meets its contract.
use Rattle.std.proofs.Common.{rules}
use Rattle.wave_rules.specs.Dump.{changes_of, flip_of}
use Rattle.wave_write.specs.Writer.{flipped_of}
use Rattle.wave_write.proofs.flip.Goals as goal

pub returns-then-turns : goal.returns-then-turns
unfolding flipped_of changes_of flip_of
returns-then-turns c = search rules

pub returns : goal.returns
unfolding flipped_of changes_of
returns c = search rules
