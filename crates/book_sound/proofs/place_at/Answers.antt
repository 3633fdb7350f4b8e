-- `book_sound::place_at` meets its contract.
use Rattle.std.proofs.Common.{arith}
use Rattle.setpoint.specs.Codec.{join_of}
use Rattle.book_rules.specs.Layout.{place_at}
use Rattle.book_sound.proofs.place_at.Goals as goal

pub returns : goal.returns
unfolding place_at join_of
returns c = omega (arith, c.from.ensures, c.from_le_bytes.ensures)
