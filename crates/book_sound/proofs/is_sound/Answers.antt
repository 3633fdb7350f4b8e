-- `book_sound::is_sound` meets its contract.
use Rattle.std.proofs.Common.{rules}
use Rattle.book_sound.specs.Scan.{scan_is}
use Rattle.book_sound.proofs.is_sound.Goals as goal

pub returns : goal.returns
returns c = (scan_is c.args.n c.args.book.now 6548 _ (search rules) c.scan.ensures).0
