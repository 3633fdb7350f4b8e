-- A foreign step is a test and an event: legal or dropped need no cases. Two steps in one order and in the other.
-- ---- a step as a test and an event
use Rattle.std.specs.Prelude.{ℕ, ◌+◌, ◌≡◌, refl, List, Bool, true, false, ◌&&◌, not, ◌≢◌, ltb, leb, eqb, if◌then◌else◌}
use Rattle.std.proofs.Common.{sym, ap, ◌∙◌, subst, inl, inr, arith, ltb-true, ltb-false, leb-true, eqb-true, lt-ltb, le-ltb, eq-eqb}
use Rattle.model.specs.Log.{Made, Event, by_script, spun, step_dropped, took, released, waiters_set, health_set}
use Rattle.model.specs.Arena.{serial_remains, last_serial, spent_to, hold_of, bit_at, owner_at, is_free, is_live, is_in}
use Rattle.model.specs.Foreign.{step_of, step_take_of, step_release_of, step_waiters_of, step_health_of}
use Rattle.types.specs.declared.Hold.{Hold}
use Rattle.types.specs.declared.Stepped.{Stepped}
use Rattle.choice.specs.Pick.{both}
use Rattle.laws.specs.Words.{bit_set_other, owner_set_other, bit_set_waiters, owner_set_waiters}
use Rattle.history.specs.World.{World, world_of, cells, Legal, after_event}
use Rattle.history.specs.Tests.{is_free_state, free_words, if_cases}
use Rattle.swaps.specs.Steps.{Step, take_step, does, leaves, dropped, on_table, exchanged, Parted}
use Rattle.swaps.specs.Logs.{Apart, still_first, still_second, take_release, release_take, release_release, take_waiters, waiters_take, release_waiters, waiters_release, waiters_waiters, take_health, health_take, release_health, health_release, waiters_health, health_waiters, health_health, spins, drops, Both}
use Rattle.swaps.specs.Statements.{BothLegal, OwnersExchanged, Swapped, AnySteps, TwoTakes, IdleTake}
use Rattle.swaps.specs.Fine.{Fine, fine, fine_on, live_kept}

-- what a step asks for: nothing, something that there is not, or one of the four
pub data Act : Type 0 where
  idle never : Act
  takes : ℕ → Act
  frees waits heals : ℕ → ℕ → Act

unfoldable pub read : Step → Act
read s =
    if eqb s.kind 0 then idle
    else if eqb s.kind 1 then takes s.place
    else if eqb s.kind 2 then frees s.place s.number
    else if eqb s.kind 3 then waits s.place s.number
    else if eqb s.kind 4 then heals s.place s.number
    else if eqb s.kind 5 then idle
    else never

-- the model's test
abbrev pub legal : List Hold → World → Act → Bool
legal ps w idle = true
legal ps w never = false
legal ps w (takes c) = ltb c (cells w) && is_free (bit_at w.table c) (owner_at w.table c) && serial_remains w.head.next
legal ps w (frees c s) = is_live w.head.next (cells w) w.table (hold_of c s) && not (is_in (hold_of c s) ps)
legal ps w (waits c n) = ltb c (cells w)
legal ps w (heals i n) = ltb i w.head.headers && leb n 1

-- the event that it is if the test holds; what asks for nothing stands as a quiet one
abbrev pub event : World → Act → Event
event w idle = spun
event w never = step_dropped
event w (takes c) = took by_script c w.head.next
event w (frees c s) = released by_script c s
event w (waits c n) = waiters_set c n
event w (heals i n) = health_set i n

-- then the world is the event's, else it stays and the step is counted as dropped
abbrev pub settle : Bool → World → Event → World
settle true w e = after_event w e
settle false w e = w

abbrev pub missed : Bool → ℕ
missed true = 0
missed false = 1

-- what is seen of a step, as world and number dropped
abbrev pub outcome : World → Made (Stepped × (List ℕ × List ℕ)) → World × ℕ
outcome w m = (world_of (spent_to w.head m.seen.0.next) m.seen.1.0 m.seen.1.1, m.seen.0.dropped)

abbrev pub effect : List Hold → World → Act → World × ℕ
effect ps w a = (settle (legal ps w a) w (event w a), missed (legal ps w a))

-- an equation as a record: a choice inside it shows its branches
pub record Comes (ps : List Hold) (w : World) (m : Made (Stepped × (List ℕ × List ℕ))) (a : Act) : Type 0 where
  pub is : outcome w m ≡ effect ps w a

-- ---- two steps

pub data Reads (s : Step) : Act → Type 0 where
  reads_idle : Reads s idle
  reads_never : Reads s never
  reads_take : s.kind ≡ 1 → Reads s (takes s.place)
  reads_free : s.kind ≡ 2 → Reads s (frees s.place s.number)
  reads_wait : s.kind ≡ 3 → Reads s (waits s.place s.number)
  reads_heal : s.kind ≡ 4 → Reads s (heals s.place s.number)

-- both orders of two legal takes, as events
pub record TakesBothWays (ps : List Hold) (w : World) (s t : Step) (c d : ℕ) : Type 0 where
  pub events : Both w (took by_script c w.head.next) (took by_script d (w.head.next + 1))
  pub one_way : leaves ps (leaves ps w s) t ≡ after_event (after_event w (took by_script c w.head.next)) (took by_script d (w.head.next + 1))
  pub other_way : leaves ps (leaves ps w t) s ≡ after_event (after_event w (took by_script d w.head.next)) (took by_script c (w.head.next + 1))
  pub exchange : OwnersExchanged ps w s t c d
