-- Turns in a row of members that have no move left.
use Rattle.std.specs.Prelude.{◌≡◌, ℕ, ◌+◌, ◌<◌, ◌≤◌, List, length, slice_index}
use Rattle.std.proofs.Common.{arith}
use Rattle.std.proofs.Math.Decide.{ℕ_discrete}

-- every turn names one of sixteen
abbrev pub OfSixteen : List ℕ → Type 0
OfSixteen turns = (j : ℕ) → j < length turns → slice_index turns j < 16

-- from turn i up to turn r
pub record IdleTo (turns left : List ℕ) (i r : ℕ) : Type 0 where
  pub ahead : i ≤ r
  pub inside : r ≤ length turns
  pub none_left : (j : ℕ) → i ≤ j → j < r → slice_index left (slice_index turns j) ≡ 0

pub idle_more : (turns left : List ℕ) (i r : ℕ) → IdleTo turns left i r → r < length turns → slice_index left (slice_index turns r) ≡ 0 → IdleTo turns left i (r + 1)
idle_more turns left i r p l e = record { ahead = omega (arith, p.ahead); inside = omega arith; none_left = λ j a b. go j a b (ℕ_discrete j r) }
  where
    go : (j : ℕ) → i ≤ j → j < r + 1 → Dec (j ≡ r) → slice_index left (slice_index turns j) ≡ 0
    go j a b (yes q) = rw q e
    go j a b (no q) = p.none_left j a (omega arith)

pub idle_none : (turns left : List ℕ) (i : ℕ) → i ≤ length turns → IdleTo turns left i i
idle_none turns left i l = record { ahead = omega arith; inside = l; none_left = λ j a b. absurd (omega arith) }

pub ruleset passing = (idle_none, idle_more)
