-- `book::is_holder` meets its contract.
use Rattle.book_rules.specs.Rules.{is_holder}
use Rattle.book.proofs.is_holder.Goals as goal

pub returns-then-is_live : goal.returns-then-is_live
unfolding is_holder
returns-then-is_live c = rw (← c.is_live.ensures, c.if-is_live.true)

pub returns-else-is_live : goal.returns-else-is_live
unfolding is_holder
returns-else-is_live c = rw (← c.is_live.ensures, c.if-is_live.false)
