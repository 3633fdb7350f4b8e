-- `setpoint::join` meets its contract.
use Rattle.setpoint.specs.Codec.{join_of}
use Rattle.setpoint.proofs.join.Goals as goal

pub returns : goal.returns
unfolding join_of
returns c = rw (c.from.ensures, c.from-2.ensures, c.from-3.ensures, c.from-4.ensures)
