-- `book_sound::scan` meets its contract.
use Rattle.std.proofs.Common.{◌≡◌, ◌-◌, ◌*◌}
use Rattle.book_sound.specs.Scan.{Wanted, scan_of}
use Rattle.book_sound.proofs.scan.Given as goal

abbrev pub invariant-loop-k : goal.invariant-loop-k
invariant-loop-k l = record {
  wanted : Wanted l.book l.k l.wanted;
  rest : scan_of l.n l.book (4 * l.n - l.k) l.k l.marks ≡ scan_of l.n l.book (4 * l.n) 0 l.initial.marks;
}
