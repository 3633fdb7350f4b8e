-- `book_enter::later` meets its contract.
use Rattle.std.proofs.Common.{arith}
use Rattle.book_enter.specs.Steps.{later_of}
use Rattle.book_enter.proofs.later.Goals as goal

pub returns-then-not-is_kept : goal.returns-then-not-is_kept
unfolding later_of
returns-then-not-is_kept c = rw (← c.is_kept.ensures, c.if-not-is_kept.true) (omega arith)

pub returns : goal.returns
unfolding later_of
returns c = rw (← c.is_kept.ensures, c.if-not-is_kept.false, ← c.place_at.ensures) c.max.ensures
