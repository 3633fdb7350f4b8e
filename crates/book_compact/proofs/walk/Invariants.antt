-- `book_compact::walk` meets its contract.
use Rattle.std.proofs.Common.{◌≡◌, ℕ, ◌+◌, ◌*◌, ◌-◌, ◌≤◌, ◌<◌, get_or}
use Rattle.book_compact.specs.Slide.{slide_of, ranks_of}
use Rattle.book_compact.proofs.walk.Given as goal

abbrev pub invariant-loop-c : goal.invariant-loop-c
invariant-loop-c l = record {
  few : l.rank ≤ l.c;
  later : (i : ℕ) → l.c < i → get_or l.marks i 0 ≡ get_or l.initial.marks i 0;
  rest : slide_of l.n l.initial.marks (l.cells - l.c) l.c (32 * l.n + 5 * l.rank) l.book ≡ slide_of l.n l.initial.marks l.cells 0 (32 * l.n) l.initial.book;
  ranks : ranks_of l.initial.marks (l.cells - l.c) l.c l.rank l.marks ≡ ranks_of l.initial.marks l.cells 0 0 l.initial.marks;
}
