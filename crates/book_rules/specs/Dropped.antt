-- "Writing drops the slot's oldest of four": what the drop leaves.
use Rattle.std.specs.Prelude.{ℕ, ◌+◌, ◌*◌, ◌<◌, ◌≡◌, ◌≢◌, List, length}
use Rattle.book_rules.specs.Layout.{five_at, lines_of, place_at, version_at}
use Rattle.book_rules.specs.Sound.{Kept, Fits, Clean, Alike}

-- b before, c after; the slot's last line
pub record Dropped (n : ℕ) (b c : List ℕ) (slot : ℕ) : Type 0 where
  pub long : length c ≡ length b
  pub gone : version_at c (4 * slot + 3) ≡ 0
  pub lines : (k : ℕ) → k < lines_of n → k ≢ 4 * slot + 3 → Alike c b k k
  pub bodies : (k : ℕ) → k < lines_of n → k ≢ 4 * slot + 3 → Kept b k → five_at c (place_at b k) ≡ five_at b (place_at b k)
  pub fits : Fits n c
  pub clean : Clean n b → Clean n c
