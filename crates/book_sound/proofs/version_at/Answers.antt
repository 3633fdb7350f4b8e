-- `book_sound::version_at` meets its contract.
use Rattle.setpoint.specs.Codec.{join_of}
use Rattle.book_rules.specs.Layout.{version_at}
use Rattle.book_sound.proofs.version_at.Goals as goal

pub returns : goal.returns
unfolding version_at join_of
returns c = c.from_le_bytes.ensures
