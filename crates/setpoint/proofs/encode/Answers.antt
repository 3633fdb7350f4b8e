-- `setpoint::encode` meets its contract.
use Rattle.setpoint.specs.Codec.{encode_of}
use Rattle.setpoint.proofs.encode.Goals as goal

pub returns-then-not-has_body : goal.returns-then-not-has_body
unfolding encode_of
returns-then-not-has_body c = rw (← c.has_body.ensures, c.if-not-has_body.true)

pub returns : goal.returns
unfolding encode_of
returns c = rw (← c.has_body.ensures, c.if-not-has_body.false, ← c.body.ensures)
