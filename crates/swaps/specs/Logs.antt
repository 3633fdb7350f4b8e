-- Events in two orders: the words of the statements. An event is by the caller or by the script, so this serves the log of a call too.
use Rattle.std.specs.Prelude.{ℕ, List, ◌∷◌, ◌≢◌}
use Rattle.model.specs.Log.{Actor, Event, attempt_begun, boundary_run, yielded, spun, step_dropped, took, released, waiters_set, health_set, held_all_lem, added}
use Rattle.history.specs.World.{World, Legal, after_event}

-- an event that changes nothing of the arena and is always legal; a crew's counters are no part of it
pub data Still : Event → Type 0 where
  attempts : Still attempt_begun
  boundaries : Still boundary_run
  yields : Still yielded
  spins : Still spun
  drops : Still step_dropped
  holds : {m : ℕ} → Still (held_all_lem m)
  sums : {m c v : ℕ} → Still (added m c v)

-- two events that may be swapped: every pair but two takes, and but two that write the same word
pub data Apart : Event → Event → Type 0 where
  still_first : {e f : Event} → Still e → Apart e f
  still_second : {e f : Event} → Still f → Apart e f
  take_release : {a b : Actor} {c s d r : ℕ} → c ≢ d → Apart (took a c s) (released b d r)
  release_take : {a b : Actor} {c s d r : ℕ} → c ≢ d → Apart (released a c s) (took b d r)
  release_release : {a b : Actor} {c s d r : ℕ} → c ≢ d → Apart (released a c s) (released b d r)
  take_waiters : {a : Actor} {c s d n : ℕ} → Apart (took a c s) (waiters_set d n)
  waiters_take : {a : Actor} {c s d n : ℕ} → Apart (waiters_set d n) (took a c s)
  release_waiters : {a : Actor} {c s d n : ℕ} → Apart (released a c s) (waiters_set d n)
  waiters_release : {a : Actor} {c s d n : ℕ} → Apart (waiters_set d n) (released a c s)
  waiters_waiters : {c n d m : ℕ} → c ≢ d → Apart (waiters_set c n) (waiters_set d m)
  take_health : {a : Actor} {c s i n : ℕ} → Apart (took a c s) (health_set i n)
  health_take : {a : Actor} {c s i n : ℕ} → Apart (health_set i n) (took a c s)
  release_health : {a : Actor} {c s i n : ℕ} → Apart (released a c s) (health_set i n)
  health_release : {a : Actor} {c s i n : ℕ} → Apart (health_set i n) (released a c s)
  waiters_health : {c m i n : ℕ} → Apart (waiters_set c m) (health_set i n)
  health_waiters : {c m i n : ℕ} → Apart (health_set i n) (waiters_set c m)
  health_health : {i n j m : ℕ} → i ≢ j → Apart (health_set i n) (health_set j m)

-- both happen, one after the other
abbrev pub Both : World → Event → Event → Type 0
Both w e f = Legal w e × Legal (after_event w e) f

-- one log from the other by exchanging neighbours, never two takes
pub data Reordered : List Event → List Event → Type 0 where
  same : {es : List Event} → Reordered es es
  neighbours : {e f : Event} {es : List Event} → Apart e f → Reordered (e ∷ f ∷ es) (f ∷ e ∷ es)
  behind : {e : Event} {es fs : List Event} → Reordered es fs → Reordered (e ∷ es) (e ∷ fs)
  onward : {es fs gs : List Event} → Reordered es fs → Reordered fs gs → Reordered es gs
