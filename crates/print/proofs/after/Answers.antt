use Rattle.print.specs.Print.{after_of}
use Rattle.std.proofs.lemmas.Grind.{common_steps}
use native.Mathlib.Omega.{arith}
use Rattle.print.proofs.after.Goals as goal

pub returns : goal.returns
unfolding after_of
returns c = grind (arith, common_steps)
