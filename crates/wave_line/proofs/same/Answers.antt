-- `wave_line::same` meets its contract.
use Rattle.std.proofs.Common.{◌∙◌}
use Rattle.wave_line.specs.Laws.{same_bytes}
use Rattle.wave_line.proofs.same.Goals as goal

pub returns : goal.returns
returns c = c.eq.ensures ∙ same_bytes c.args.x.now c.args.y.now
