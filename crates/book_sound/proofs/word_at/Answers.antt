-- `book_sound::word_at` meets its contract.
use Rattle.std.proofs.Common.{◌+◌, ◌*◌, arith}
use Rattle.setpoint.specs.Codec.{join_of}
use Rattle.book_rules.specs.Layout.{place_at, length_at}
use Rattle.book_sound.proofs.word_at.Goals as goal

pub returns : goal.returns
unfolding place_at length_at join_of
returns c =
    let k = c.args.k in
    (omega (arith, c.from_le_bytes.ensures), omega (arith, c.type_inv.book (8 * k), c.type_inv.book (8 * k + 1)))
