-- The log of a call's steps. A definition gives what is seen (answer, head, place, counts, lent words) and, beside it, the log.
-- What is seen never reads the log: `seen` of a sequence is `seen` of its last part, given what was seen of the part before.
use Rattle.std.specs.Prelude.{ℕ, List, [], ◌∷◌, ◌++◌}

-- who takes or releases: the caller of the call, or the script
pub data Actor : Type 0 where
  by_caller by_script : Actor

-- what happens in the steps of document 01, oldest first in a log
pub data Event : Type 0 where
  -- counted: "attempts begun, boundaries, yields and dropped steps"; a spin is not counted
  attempt_begun boundary_run yielded spun step_dropped : Event
  -- the cell, the serial
  took released : Actor → ℕ → ℕ → Event
  -- the cell, the number
  waiters_set : ℕ → ℕ → Event
  -- the header, the number
  health_set : ℕ → ℕ → Event
  -- the crew: the member that came to hold all its cells
  held_all_lem : ℕ → Event
  -- the crew at work: the member, the cell, the value added to its counter
  added : ℕ → ℕ → ℕ → Event

-- what is seen, and the log of the steps that led to it
pub record Made (A : Type 0) : Type 0 where
  pub seen : A
  pub log : List Event

-- no step
abbrev pub gives : {A : Type 0} → A → Made A
gives a = record { seen = a; log = [] }

-- one event
abbrev pub note : Event → Made (Unit {0})
note e = record { seen = tt; log = e ∷ [] }

-- one after the other; `do` writes these
infixl 4 ◌>>=◌ ◌>>◌
abbrev pub ◌>>=◌ : {A B : Type 0} → Made A → (A → Made B) → Made B
m >>= f = record { seen = (f m.seen).seen; log = m.log ++ (f m.seen).log }

abbrev pub ◌>>◌ : {A B : Type 0} → Made A → Made B → Made B
m >> n = record { seen = n.seen; log = m.log ++ n.log }
