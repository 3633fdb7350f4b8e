-- `wave_line::time_at` meets its contract.
use Rattle.wave_line.specs.Fronts.{no_mark}
use Rattle.wave_line.proofs.time_at.Goals as goal

pub returns-then-text-at-ne35 : goal.returns-then-text-at-ne35
returns-then-text-at-ne35 c = no_mark c.args.text.now c.args.at c.requires c.if-text-at-ne35.true
