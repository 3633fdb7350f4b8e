-- `setpoint::Setpoint::body` meets its contract.
use Rattle.std.proofs.Common.{◌≡◌, ◌/◌, ◌%◌, arith}
use Rattle.setpoint.specs.Codec.{body_of, bytes_of}
use Rattle.setpoint.proofs.Setpoint.body.Goals as goal

pub returns : goal.returns
unfolding body_of bytes_of
returns c =
    let w = c.word.result in
    let top : w / 16777216 % 256 ≡ w / 16777216 = omega (arith, c.word.type_inv) in
    rw (← c.kind.ensures, ← c.word.ensures, c.to_le_bytes.ensures, top)
