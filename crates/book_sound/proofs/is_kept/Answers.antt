-- `book_sound::is_kept` meets its contract.
use Rattle.book_rules.specs.Layout.{is_kept}
use Rattle.book_sound.proofs.is_kept.Goals as goal

pub returns : goal.returns
unfolding is_kept
returns c = rw c.version_at.ensures
