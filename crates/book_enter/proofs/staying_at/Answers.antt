-- `book_enter::staying_at` meets its contract.
use Rattle.std.proofs.Common.{◌≡◌, Bool, true, false, refl}
use Rattle.std.specs.Prelude.{if◌then◌else◌}
use Rattle.std.specs.Int.{from_bool}
use Rattle.book_enter.specs.Steps.{staying_at}
use Rattle.book_enter.proofs.staying_at.Goals as goal
use Rattle.book_enter.proofs.staying_at.Goals.{then-is_kept, else-is_kept}

as_number : (t : Bool) → from_bool t ≡ (if t then 1 else 0)
as_number true = refl
as_number false = refl

pub returns : goal.returns
unfolding staying_at
returns c = elim c.if-is_kept.branch [
  | then-is_kept w ↦ rw (c.from.ensures, w.from-is, ← c.is_kept.ensures, w.if-is_kept.true) (as_number _)
  | else-is_kept w ↦ rw (c.from.ensures, w.from-is, ← c.is_kept.ensures, w.if-is_kept.false)
]
