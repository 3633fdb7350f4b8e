-- The arena between two events: when an event is legal, and what it makes of the arena.
use Rattle.std.specs.Prelude.{ℕ, zero, suc, ◌+◌, ◌≤◌, ◌<◌, ◌≡◌, List, [], ◌∷◌, Bool, true, false, eqb, length, get_or, set}
use Rattle.model.specs.Log.{Event, by_caller, by_script, attempt_begun, boundary_run, yielded, spun, step_dropped, took, released, waiters_set, health_set, held_all_lem, added}
use Rattle.model.specs.Arena.{last_serial, cells_of, spent_to, hold_of, header_of, bit_at, set_cell, set_waiters, state_at, is_live, shape_fits, health_fits}
use Rattle.types.specs.declared.Head.{Head}
use Rattle.types.specs.declared.Hold.{Hold}
use Rattle.types.specs.declared.State.TheVariants as state

pub record World : Type 0 where
  pub head : Head
  pub table : List ℕ
  pub health : List ℕ

abbrev pub world_of : Head → List ℕ → List ℕ → World
world_of h t g = record { head = h; table = t; health = g }

abbrev pub cells : World → ℕ
cells w = cells_of w.head

-- document 01's words, of a world
abbrev pub Free : World → ℕ → Type 0
Free w c = (c < cells w) × (state_at w.head.next w.table c ≡ state.Free)

abbrev pub Live : World → Hold → Type 0
Live w l = is_live w.head.next (cells w) w.table l ≡ true

-- "0 is healthy": the health byte of a cell's header
abbrev pub Healthy : World → ℕ → Type 0
Healthy w c = get_or w.health (header_of w.head.buckets c) 0 ≡ 0

-- ---- events

abbrev pub Legal : World → Event → Type 0
Legal w attempt_begun = Unit {0}
Legal w boundary_run = Unit {0}
Legal w yielded = Unit {0}
Legal w spun = Unit {0}
Legal w step_dropped = Unit {0}
Legal w (took a c s) = Free w c × ((s ≡ w.head.next) × (s < last_serial))
Legal w (released a c s) = Live w (hold_of c s)
Legal w (waiters_set c n) = c < cells w
Legal w (health_set i n) = (i < w.head.headers) × (n ≤ 1)
Legal w (held_all_lem m) = Unit {0}
Legal w (added m c v) = Unit {0}

abbrev pub after_event : World → Event → World
after_event w attempt_begun = w
after_event w boundary_run = w
after_event w yielded = w
after_event w spun = w
after_event w step_dropped = w
after_event w (took a c s) = world_of (spent_to w.head (w.head.next + 1)) (set_cell w.table c 1 s) w.health
after_event w (released a c s) = world_of w.head (set_cell w.table c 0 0) w.health
after_event w (waiters_set c n) = world_of w.head (set_waiters w.table c n) w.health
after_event w (health_set i n) = world_of w.head w.table (set w.health i n)
after_event w (held_all_lem m) = w
after_event w (added m c v) = w

-- a log is oldest first: the world after it, and that each event was legal when it happened
abbrev pub now : World → List Event → World
now w [] = w
now w (e ∷ es) = now (after_event w e) es

abbrev pub Lawful : World → List Event → Type 0
Lawful w [] = Unit {0}
Lawful w (e ∷ es) = Legal w e × Lawful (after_event w e) es

-- ---- a sound arena: "no cell is damaged, owners are below next and no two cells have one owner"

-- the first two: what every history has at every point
pub record Whole (w : World) : Type 0 where
  pub fits : shape_fits w.head (length w.table) ≡ true
  pub healthy : health_fits w.head (length w.health) ≡ true
  -- free, or held: then the owner is from 1 to next - 1 (`state_of`)
  pub undamaged : (c : ℕ) → c < cells w → state_at w.head.next w.table c ≡ state.Damaged → ⊥

-- the third: a history from a preparation has it; one from a salvage, exactly if the salvaged arena has it
abbrev pub Apart : World → Type 0
Apart w = (c d s : ℕ) → Live w (hold_of c s) → Live w (hold_of d s) → c ≡ d

pub record Sound (w : World) : Type 0 where
  pub whole : Whole w
  pub apart : Apart w

-- ---- counting

abbrev pub one : Bool → ℕ
one true = 1
one false = 0

-- cells with bit 1 among the first n
unfoldable pub bits : ℕ → List ℕ → ℕ
bits zero t = 0
bits (suc n) t = one (eqb (bit_at t n) 1) + bits n t

-- what is counted of an event
pub data Kind : Type 0 where
  attempts boundaries yields drops takes releases others : Kind

abbrev pub kind_of_lem : Event → Kind
kind_of_lem attempt_begun = attempts
kind_of_lem boundary_run = boundaries
kind_of_lem yielded = yields
kind_of_lem spun = others
kind_of_lem step_dropped = drops
kind_of_lem (took a c s) = takes
kind_of_lem (released a c s) = releases
kind_of_lem (waiters_set c n) = others
kind_of_lem (health_set i n) = others
kind_of_lem (held_all_lem m) = others
kind_of_lem (added m c v) = others

abbrev pub code : Kind → ℕ
code attempts = 0
code boundaries = 1
code yields = 2
code drops = 3
code takes = 4
code releases = 5
code others = 6

-- how many events of a kind a log has
unfoldable pub number_of_lem : Kind → List Event → ℕ
number_of_lem k [] = 0
number_of_lem k (e ∷ es) = one (eqb (code (kind_of_lem e)) (code k)) + number_of_lem k es

-- ---- what a log does with a lease

abbrev pub Releases : Hold → Event → Type 0
Releases l attempt_begun = ⊥
Releases l boundary_run = ⊥
Releases l yielded = ⊥
Releases l spun = ⊥
Releases l step_dropped = ⊥
Releases l (took a c s) = ⊥
Releases l (released a c s) = l ≡ hold_of c s
Releases l (waiters_set c n) = ⊥
Releases l (health_set i n) = ⊥
Releases l (held_all_lem m) = ⊥
Releases l (added m c v) = ⊥

-- no event of it releases this cell with this serial
abbrev pub Unreleased : Hold → List Event → Type 0
Unreleased l [] = Unit {0}
Unreleased l (e ∷ es) = (Releases l e → ⊥) × Unreleased l es

-- what the caller releases, in the order of the log
unfoldable pub caller_releases : List Event → List Hold
caller_releases [] = []
caller_releases (attempt_begun ∷ es) = caller_releases es
caller_releases (boundary_run ∷ es) = caller_releases es
caller_releases (yielded ∷ es) = caller_releases es
caller_releases (spun ∷ es) = caller_releases es
caller_releases (step_dropped ∷ es) = caller_releases es
caller_releases (took a c s ∷ es) = caller_releases es
caller_releases (released by_caller c s ∷ es) = hold_of c s ∷ caller_releases es
caller_releases (released by_script c s ∷ es) = caller_releases es
caller_releases (waiters_set c n ∷ es) = caller_releases es
caller_releases (health_set i n ∷ es) = caller_releases es
caller_releases (held_all_lem m ∷ es) = caller_releases es
caller_releases (added m c v ∷ es) = caller_releases es

-- "a serial that was issued and owns nothing"
pub record Spent (w : World) (s : ℕ) : Type 0 where
  pub was_issued : s < w.head.next
  pub owns_none : (c : ℕ) → Live w (hold_of c s) → ⊥
