-- Foreign steps in two orders: the words of the statements. What stands in quotes is of document 01, or of document 02, L7.
use Rattle.std.specs.Prelude.{ℕ, ◌+◌, ◌*◌, ◌<◌, ◌≡◌, List, [], ◌∷◌, true, ◌≢◌, ◌⊎◌, length, set}
use Rattle.model.specs.Log.{Made}
use Rattle.model.specs.Arena.{shape_fits, spent_to, owner_at, state_at}
use Rattle.model.specs.Foreign.{step_of}
use Rattle.model.specs.Calls.{given}
use Rattle.types.specs.declared.Hold.{Hold}
use Rattle.types.specs.declared.State.TheVariants as state
use Rattle.types.specs.declared.Stepped.{Stepped}
use Rattle.history.specs.World.{World, world_of, cells}

-- "in a table with no damaged cell": the table fits the head, and no cell is damaged. Two cells may have one owner.
pub record Whole (w : World) : Type 0 where
  pub fits : shape_fits w.head (length w.table) ≡ true
  pub undamaged : (c : ℕ) → c < cells w → state_at w.head.next w.table c ≡ state.Damaged → ⊥

-- ---- one step: "three words a step (kind, place, number)"

pub record Step : Type 0 where
  pub kind : ℕ
  pub place : ℕ
  pub number : ℕ

abbrev pub step_words : ℕ → ℕ → ℕ → Step
step_words k p n = record { kind = k; place = p; number = n }

-- "1 take cell (number not read)"
abbrev pub take_step : ℕ → ℕ → Step
take_step c n = step_words 1 c n

-- "2 release (cell, serial)"
abbrev pub release_step : ℕ → ℕ → Step
release_step c s = step_words 2 c s

-- "3 set a cell's waiters to the number"
abbrev pub waiters_step : ℕ → ℕ → Step
waiters_step c n = step_words 3 c n

-- "4 set a header's health, number 0 or 1"
abbrev pub health_step : ℕ → ℕ → Step
health_step i n = step_words 4 i n

-- the definition of a step, in this world and with these leases protected
abbrev pub does : List Hold → World → Step → Made (Stepped × (List ℕ × List ℕ))
does ps w s = step_of (given w.head [] ps) w.head.next w.table w.health s.kind s.place s.number

-- the world it leaves: head, table and health
abbrev pub leaves : List Hold → World → Step → World
leaves ps w s = world_of (spent_to w.head (does ps w s).seen.0.next) (does ps w s).seen.1.0 (does ps w s).seen.1.1

-- "Place out of range, another kind, or not legal: dropped, counted": 1 if it is dropped, 0 if it is legal
abbrev pub dropped : List Hold → World → Step → ℕ
dropped ps w s = (does ps w s).seen.0.dropped

-- ---- a table in which only owners differ

-- the world with another table
abbrev pub on_table : (List ℕ → List ℕ) → World → World
on_table f w = world_of w.head (f w.table) w.health

-- "exchange the two owners": the owner words of two cells exchanged, and no other word changed
unfoldable pub exchanged : ℕ → ℕ → List ℕ → List ℕ
exchanged c d t = set (set t (3 * c + 1) (owner_at t d)) (3 * d + 1) (owner_at t c)

-- ---- two steps that may be swapped, whatever their words are

-- a step that takes or releases
abbrev pub OnBit : Step → Type 0
OnBit s = (s.kind ≡ 1) ⊎ (s.kind ≡ 2)

-- Not two takes; and two that write the same kind of word name different places. So it is with any two steps on different cells that are
-- not both takes. Setting waiters goes with a take or a release of the same cell too.
pub record Parted (s t : Step) : Type 0 where
  pub one_take : s.kind ≡ 1 → t.kind ≡ 1 → ⊥
  pub on_bits : OnBit s → OnBit t → s.place ≢ t.place
  pub on_waiters : s.kind ≡ 3 → t.kind ≡ 3 → s.place ≢ t.place
  pub on_health : s.kind ≡ 4 → t.kind ≡ 4 → s.place ≢ t.place

-- ---- lists of steps, oldest first

unfoldable pub after_all : List Hold → World → List Step → World
after_all ps w [] = w
after_all ps w (s ∷ ss) = after_all ps (leaves ps w s) ss

unfoldable pub dropped_in : List Hold → World → List Step → ℕ
dropped_in ps w [] = 0
dropped_in ps w (s ∷ ss) = dropped ps w s + dropped_in ps (leaves ps w s) ss

-- one list from the other by exchanging neighbours, never two takes
pub data Shuffled : List Step → List Step → Type 0 where
  same : {ss : List Step} → Shuffled ss ss
  neighbours : {s t : Step} {ss : List Step} → Parted s t → Shuffled (s ∷ t ∷ ss) (t ∷ s ∷ ss)
  behind : {s : Step} {ss ts : List Step} → Shuffled ss ts → Shuffled (s ∷ ss) (s ∷ ts)
  onward : {ss ts us : List Step} → Shuffled ss ts → Shuffled ts us → Shuffled ss us
