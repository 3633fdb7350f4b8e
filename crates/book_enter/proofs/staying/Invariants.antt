-- `book_enter::staying` meets its contract.
use Rattle.std.proofs.Common.{◌≡◌, ◌≤◌}
use Rattle.book_enter.specs.Steps.{staying_to}
use Rattle.book_enter.proofs.staying.Given as goal

abbrev pub invariant-loop-k : goal.invariant-loop-k
invariant-loop-k l = record { counted : l.total ≡ staying_to l.book l.slot l.k; few : l.total ≤ l.k }
