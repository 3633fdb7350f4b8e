-- `setpoint::decode` meets its contract.
use Rattle.setpoint.specs.Codec.{decode_of}
use Rattle.setpoint.proofs.decode.Goals as goal

pub returns : goal.returns
unfolding decode_of
returns c = rw (← c.join.ensures, ← c.setting.ensures)
