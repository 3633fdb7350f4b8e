-- `book_enter::end` meets its contract.
use Rattle.std.proofs.Common.{◌≡◌}
use Rattle.book_enter.specs.Steps.{end_to}
use Rattle.book_enter.proofs.end.Given as goal

abbrev pub invariant-loop-k : goal.invariant-loop-k
invariant-loop-k l = l.last ≡ end_to l.n l.book l.k
