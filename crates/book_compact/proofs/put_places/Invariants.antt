-- `book_compact::put_places` meets its contract.
use Rattle.std.proofs.Common.{◌≡◌}
use Rattle.book_compact.specs.Lines.{placed_of, counted_of}
use Rattle.book_compact.proofs.put_places.Given as goal

abbrev pub invariant-loop-k : goal.invariant-loop-k
invariant-loop-k l = record {
  counted : l.moved ≡ counted_of l.n l.ranks l.initial.book l.k;
  placed : l.book ≡ placed_of l.n l.ranks l.initial.book l.k;
}
