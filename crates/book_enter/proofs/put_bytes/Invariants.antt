-- `book_enter::put_bytes` meets its contract.
use Rattle.std.specs.Prelude.{◌≡◌, ◌+◌, length, drop}
use Rattle.std.proofs.lemmas.List.Edits.{sets}
use Rattle.book_enter.proofs.put_bytes.Given as goal

abbrev pub invariant-loop-i : goal.invariant-loop-i
invariant-loop-i l = (sets l.book (l.at + l.i) (drop l.i l.bytes) ≡ sets l.initial.book l.at l.bytes) × (length l.book ≡ length l.initial.book)
