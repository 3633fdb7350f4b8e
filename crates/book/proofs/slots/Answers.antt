-- `book::slots` meets its contract.
use Rattle.std.proofs.Common.{arith}
use Rattle.book.specs.Model.{head_shaped}
use Rattle.book.proofs.slots.Goals as goal

pub overflow_mul-head : goal.overflow_mul-head
overflow_mul-head c = let s = head_shaped _ c.requires in omega arith
