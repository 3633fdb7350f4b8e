-- With takes exchanged too, owners differ by a renaming of serials: the words of the statements.
use Rattle.std.specs.Prelude.{ℕ, ◌+◌, ◌≤◌, ◌<◌, ◌≡◌, List, [], ◌∷◌, ◌≢◌, ◌⊎◌, eqb, if◌then◌else◌}
use Rattle.model.specs.Log.{Actor, Event, attempt_begun, boundary_run, yielded, spun, step_dropped, took, released, waiters_set, health_set, held_all_lem, added}
use Rattle.types.specs.declared.Hold.{Hold}
use Rattle.history.specs.World.{World}
use Rattle.swaps.specs.Steps.{Step, step_words, take_step, leaves, dropped, Parted}
use Rattle.swaps.specs.Logs.{Apart}

-- ---- a renaming of serials

-- A bijection, with its inverse, that moves only serials issued from `old` to `next` - 1: none from before, none not yet issued. So it is
-- a bijection on those (`issued_stay`).
pub record Serials (old next : ℕ) (to back : ℕ → ℕ) : Type 0 where
  pub back_to : (s : ℕ) → back (to s) ≡ s
  pub to_back : (s : ℕ) → to (back s) ≡ s
  pub old_stay : (s : ℕ) → s < old → to s ≡ s
  pub new_stay : (s : ℕ) → next ≤ s → to s ≡ s

-- a serial and the one after it, exchanged
unfoldable pub flip : ℕ → ℕ → ℕ
flip n s = if eqb s n then n + 1 else if eqb s (n + 1) then n else s

-- the table with every owner word renamed, and no other word changed: three words a cell
unfoldable pub renamed_owners : (ℕ → ℕ) → List ℕ → List ℕ
renamed_owners to [] = []
renamed_owners to (bit ∷ []) = bit ∷ []
renamed_owners to (bit ∷ owner ∷ []) = bit ∷ to owner ∷ []
renamed_owners to (bit ∷ owner ∷ waiters ∷ t) = bit ∷ to owner ∷ waiters ∷ renamed_owners to t

-- ---- what follows two exchanged takes

-- a release names the renamed serial; the serial of a take is what the arena gives
abbrev pub renamed : (ℕ → ℕ) → Event → Event
renamed to attempt_begun = attempt_begun
renamed to boundary_run = boundary_run
renamed to yielded = yielded
renamed to spun = spun
renamed to step_dropped = step_dropped
renamed to (took a c s) = took a c s
renamed to (released a c s) = released a c (to s)
renamed to (waiters_set c n) = waiters_set c n
renamed to (health_set i n) = health_set i n
renamed to (held_all_lem m) = held_all_lem m
renamed to (added m c v) = added m c v

abbrev pub renamed_all : (ℕ → ℕ) → List Event → List Event
renamed_all to [] = []
renamed_all to (e ∷ es) = renamed to e ∷ renamed_all to es

-- the same of steps: no other step names a serial
unfoldable pub renamed_step : (ℕ → ℕ) → Step → Step
renamed_step to s = if eqb s.kind 2 then step_words 2 s.place (to s.number) else s

unfoldable pub renamed_steps : (ℕ → ℕ) → List Step → List Step
renamed_steps to [] = []
renamed_steps to (s ∷ ss) = renamed_step to s ∷ renamed_steps to ss

-- ---- traces, takes exchanged too

-- one log from the other, any number of exchanges: neighbours as before, or two takes on different cells. Then each take has the serial
-- that its new place gives it, and releases behind them name the serials as renamed.
pub data Recast : List Event → List Event → Type 0 where
  same : {es : List Event} → Recast es es
  neighbours : {e f : Event} {es : List Event} → Apart e f → Recast (e ∷ f ∷ es) (f ∷ e ∷ es)
  two_takes : {a b : Actor} {c d n : ℕ} {es : List Event} → c ≢ d
      → Recast (took a c n ∷ took b d (n + 1) ∷ es) (took b d n ∷ took a c (n + 1) ∷ renamed_all (flip n) es)
  behind : {e : Event} {es fs : List Event} → Recast es fs → Recast (e ∷ es) (e ∷ fs)
  onward : {es fs gs : List Event} → Recast es fs → Recast fs gs → Recast es gs

-- The same of lists of steps. Which serial a take gets, and whether it is legal, hangs on the world in which it happens, so the relation
-- carries the world. Two takes of which one is dropped before them both are exchanged with nothing renamed.
pub data Retaken (ps : List Hold) : World → List Step → List Step → Type 0 where
  same : {w : World} {ss : List Step} → Retaken ps w ss ss
  neighbours : {w : World} {s t : Step} {ss : List Step} → Parted s t → Retaken ps w (s ∷ t ∷ ss) (t ∷ s ∷ ss)
  two_takes : {w : World} {c d n m : ℕ} {ss : List Step} → c ≢ d
      → dropped ps w (take_step c n) ≡ 0 → dropped ps (leaves ps w (take_step c n)) (take_step d m) ≡ 0
      → Retaken ps w (take_step c n ∷ take_step d m ∷ ss) (take_step d m ∷ take_step c n ∷ renamed_steps (flip w.head.next) ss)
  idle_take : {w : World} {c d n m : ℕ} {ss : List Step} → c ≢ d
      → (dropped ps w (take_step c n) ≡ 1) ⊎ (dropped ps w (take_step d m) ≡ 1)
      → Retaken ps w (take_step c n ∷ take_step d m ∷ ss) (take_step d m ∷ take_step c n ∷ ss)
  behind : {w : World} {s : Step} {ss ts : List Step} → Retaken ps (leaves ps w s) ss ts → Retaken ps w (s ∷ ss) (s ∷ ts)
  onward : {w : World} {ss ts us : List Step} → Retaken ps w ss ts → Retaken ps w ts us → Retaken ps w ss us

-- the protected leases are from before: their serials were issued before the trace
abbrev pub Older : ℕ → List Hold → Type 0
Older old [] = Unit {0}
Older old (l ∷ ls) = (l.serial < old) × Older old ls
