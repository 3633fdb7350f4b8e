-- A book that is not damaged, as facts about its lines and bodies.
use Rattle.std.specs.Prelude.{ℕ, ◌+◌, ◌-◌, ◌%◌, ◌≤◌, ◌<◌, ◌≢◌, ◌⊎◌, List, get_or}
use Rattle.std.proofs.Math.Path.{◌≡◌}
use Rattle.std.proofs.Math.Bool.{true}
use Rattle.std.proofs.Math.ListN.{length}
use Rattle.book_rules.specs.Layout.{lines_of, front_of, place_at, length_at, version_at, setting_at, is_setting}
use Rattle.book_rules.specs.Many.{Beside}

abbrev pub Kept : List ℕ → ℕ → Type 0
Kept b k = 1 ≤ version_at b k

-- two bodies at these places share no byte
abbrev pub Apart : ℕ → ℕ → Type 0
Apart p q = (p + 5 ≤ q) ⊎ (q + 5 ≤ p)

-- "versions falling by one"
abbrev pub Falls : ℕ → List ℕ → Type 0
Falls n b = (k : ℕ) → k < lines_of n → version_at b k ≡ version_at b (k - k % 4) - k % 4

-- the rest: lines, kept bodies, no overlap
pub record Fits (n : ℕ) (b : List ℕ) : Type 0 where
  pub unused : (k : ℕ) → k < lines_of n → version_at b k ≡ 0 → (place_at b k ≡ 0) × (length_at b k ≡ 0)
  pub five : (k : ℕ) → k < lines_of n → Kept b k → length_at b k ≡ 5
  pub behind : (k : ℕ) → k < lines_of n → Kept b k → front_of n ≤ place_at b k
  pub within : (k : ℕ) → k < lines_of n → Kept b k → place_at b k + 5 ≤ length b
  pub means : (k : ℕ) → k < lines_of n → Kept b k → is_setting (setting_at b (place_at b k)) ≡ true
  pub apart : (k l : ℕ) → k < lines_of n → l < lines_of n → k ≢ l → Kept b k → Kept b l → Apart (place_at b k) (place_at b l)

pub record Sound (n : ℕ) (b : List ℕ) : Type 0 where
  pub falls : Falls n b
  pub fits : Fits n b

-- a byte behind the contents that no kept body covers
abbrev pub Free : ℕ → List ℕ → ℕ → Type 0
Free n b j = (front_of n ≤ j) × ((k : ℕ) → k < lines_of n → Kept b k → Beside j (place_at b k) 5)

-- "Vacated bytes become zeros": all free bytes are zeros
abbrev pub Clean : ℕ → List ℕ → Type 0
Clean n b = (j : ℕ) → Free n b j → ◌≡◌ {A = ℕ} (get_or b j 0) 0

-- ---- lines and bodies where two books agree

abbrev pub Alike : List ℕ → List ℕ → ℕ → ℕ → Type 0
Alike b c k l = (place_at b k ≡ place_at c l) × (length_at b k ≡ length_at c l) × (version_at b k ≡ version_at c l)
