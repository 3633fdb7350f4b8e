-- A write: what stays of the book.
use Rattle.std.specs.Prelude.{ℕ, ◌+◌, ◌*◌, List, Bool, ◌&&◌, eqb}
use Rattle.std.proofs.Math.Bool.{not}
use Rattle.book_rules.specs.Layout.{lines_of, is_kept}
use Rattle.book_rules.specs.Writing.{count}

-- a used line that a write on the slot does not drop
abbrev pub is_staying : List ℕ → ℕ → ℕ → Bool
is_staying b slot k = is_kept b k && not (eqb k (4 * slot + 3))

-- how many bodies stay: those that are kept after the drop
unfoldable pub staying_of : ℕ → List ℕ → ℕ → ℕ
staying_of n b slot = count (lines_of n) (is_staying b slot)
