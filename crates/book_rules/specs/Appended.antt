-- "then appends a body": what a new line, over the slot's first three, and a new body behind all others leave.
use Rattle.std.specs.Prelude.{ℕ, ◌+◌, ◌*◌, ◌/◌, ◌≤◌, ◌<◌, ◌≡◌, ◌⊎◌, eqb, if◌then◌else◌}

-- where a line of the book stands after a write on the slot: its own lines are one further down
abbrev pub goes_of : ℕ → ℕ → ℕ
goes_of slot k = if eqb (k / 4) slot then k + 1 else k

-- a line after a write is the slot's newest, or it came from a line before
pub data Came (slot k : ℕ) : Type 0 where
  is_new : k ≡ 4 * slot → Came slot k
  is_own : (l : ℕ) → 4 * slot ≤ l → l < 4 * slot + 3 → k ≡ l + 1 → Came slot k
  is_other : (k < 4 * slot) ⊎ (4 * slot + 4 ≤ k) → Came slot k
