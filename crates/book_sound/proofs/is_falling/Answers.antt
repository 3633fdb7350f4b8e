-- `book_sound::is_falling` meets its contract.
use Rattle.std.proofs.Common.{sym, ◌∙◌, eq-eqb}
use Rattle.book_rules.specs.Layout.{is_falling}
use Rattle.book_sound.specs.Scan.{falling_first}
use Rattle.book_sound.proofs.is_falling.Goals as goal

pub returns-then-k-eq0 : goal.returns-then-k-eq0
returns-then-k-eq0 c = eq-eqb _ _ c.if-k-eq0.true ∙ sym (falling_first c.args.book.now c.args.k c.if-k-eq0.true)

pub returns-else-k-eq0 : goal.returns-else-k-eq0
unfolding is_falling
returns-else-k-eq0 c = rw (← c.version_at.ensures, ← c.requires.wanted c.if-k-eq0.false)
