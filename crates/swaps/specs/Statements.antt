-- What document 02, L7, asks, and what a test house needs on top, as statements. `Steps`, `Logs`, `Renaming` and `Scripts` have the words
-- they are made of, `Theorems` gives their proofs by name. What stands in quotes is of document 02, L7.
use Rattle.std.specs.Prelude.{ℕ, ◌+◌, ◌*◌, ◌≤◌, ◌<◌, ◌≡◌, List, [], ◌∷◌, ◌++◌, ◌≢◌, ◌⊎◌, length}
use Rattle.model.specs.Log.{Actor, Event, took}
use Rattle.model.specs.Arena.{bit_at, owner_at, waiters_at, holds_of}
use Rattle.model.specs.Foreign.{flow_of, boundary_of}
use Rattle.model.specs.Calls.{given, environment_of}
use Rattle.types.specs.declared.Hold.{Hold}
use Rattle.types.specs.declared.ScriptReply.{ScriptReply}
use Rattle.history.specs.World.{World, Live, after_event, now, Lawful, Whole as ArenaWhole, Kind, number_of_lem}
use Rattle.history.specs.Items.{Call, perform, foreign_step, Item, Course, run}
use Rattle.swaps.specs.Steps.{Whole, Step, take_step, release_step, waiters_step, health_step, leaves, dropped, on_table, exchanged, Parted, after_all, dropped_in, Shuffled}
use Rattle.swaps.specs.Logs.{Apart, Both, Reordered}
use Rattle.swaps.specs.Renaming.{Serials, renamed_owners, Recast, Retaken, Older}
use Rattle.swaps.specs.Scripts.{script_of, Unended, Ended, ends, Rescripted}

-- the premise holds at every point of every history from a preparation or a salvage (`history`: `Ledger.whole`)
abbrev pub SoundWhole : Type 0
SoundWhole = (w : World) → ArenaWhole w → Whole w

-- ---- two foreign steps. "Releases keep their protected set fixed across the swap": one list `ps` for both orders.

-- "both legal in the first order": each in the state in which it happens
pub record BothLegal (ps : List Hold) (w : World) (s t : Step) : Type 0 where
  pub first_legal : dropped ps w s ≡ 0
  pub second_legal : dropped ps (leaves ps w s) t ≡ 0

-- "the same state either way": both legal in the other order too, and the same head, table and health
pub record SameEitherWay (ps : List Hold) (w : World) (s t : Step) : Type 0 where
  pub legal : BothLegal ps w t s
  pub state : leaves ps (leaves ps w t) s ≡ leaves ps (leaves ps w s) t

abbrev pub Swap : Step → Step → Type 0
Swap s t = (ps : List Hold) (w : World) → Whole w → BothLegal ps w s t → SameEitherWay ps w s t

-- "for steps on two different cells .. two releases give the same state either way"
abbrev pub TwoReleases : Type 0
TwoReleases = (c s d r : ℕ) → c ≢ d → Swap (release_step c s) (release_step d r)

-- "a take and a release do too": in both orders
abbrev pub TakeRelease : Type 0
TakeRelease = (c n d s : ℕ) → c ≢ d → Swap (take_step c n) (release_step d s)

abbrev pub ReleaseTake : Type 0
ReleaseTake = (c s d n : ℕ) → c ≢ d → Swap (release_step c s) (take_step d n)

-- "setting waiters commutes with both": even on one cell
abbrev pub TakeWaiters : Type 0
TakeWaiters = (c n d m : ℕ) → Swap (take_step c n) (waiters_step d m)

abbrev pub WaitersTake : Type 0
WaitersTake = (c n d m : ℕ) → Swap (waiters_step c n) (take_step d m)

abbrev pub ReleaseWaiters : Type 0
ReleaseWaiters = (c s d n : ℕ) → Swap (release_step c s) (waiters_step d n)

abbrev pub WaitersRelease : Type 0
WaitersRelease = (c n d s : ℕ) → Swap (waiters_step c n) (release_step d s)

abbrev pub TwoWaiters : Type 0
TwoWaiters = (c n d m : ℕ) → c ≢ d → Swap (waiters_step c n) (waiters_step d m)

-- setting health, with every other step, and with another header's
abbrev pub TakeHealth : Type 0
TakeHealth = (c n i m : ℕ) → Swap (take_step c n) (health_step i m)

abbrev pub HealthTake : Type 0
HealthTake = (i n c m : ℕ) → Swap (health_step i n) (take_step c m)

abbrev pub ReleaseHealth : Type 0
ReleaseHealth = (c s i n : ℕ) → Swap (release_step c s) (health_step i n)

abbrev pub HealthRelease : Type 0
HealthRelease = (i n c s : ℕ) → Swap (health_step i n) (release_step c s)

abbrev pub WaitersHealth : Type 0
WaitersHealth = (c n i m : ℕ) → Swap (waiters_step c n) (health_step i m)

abbrev pub HealthWaiters : Type 0
HealthWaiters = (i n c m : ℕ) → Swap (health_step i n) (waiters_step c m)

abbrev pub TwoHealths : Type 0
TwoHealths = (i n j m : ℕ) → i ≢ j → Swap (health_step i n) (health_step j m)

-- "Two takes give the same bits and next serial but exchange the two owners, the named exception": both legal in the other order, the same
-- head and health, and one table is the other with those two owner words exchanged
pub record OwnersExchanged (ps : List Hold) (w : World) (s t : Step) (c d : ℕ) : Type 0 where
  pub legal : BothLegal ps w t s
  pub state : leaves ps (leaves ps w t) s ≡ on_table (exchanged c d) (leaves ps (leaves ps w s) t)

abbrev pub TwoTakes : Type 0
TwoTakes =
    (ps : List Hold) (w : World) (c n d m : ℕ) → Whole w → c ≢ d
    → BothLegal ps w (take_step c n) (take_step d m) → OwnersExchanged ps w (take_step c n) (take_step d m) c d

-- what `exchanged` does to a table, word by word
pub record Exchanges (c d : ℕ) (t : List ℕ) : Type 0 where
  pub bits : (e : ℕ) → bit_at (exchanged c d t) e ≡ bit_at t e
  pub waiters : (e : ℕ) → waiters_at (exchanged c d t) e ≡ waiters_at t e
  pub first_owner : owner_at (exchanged c d t) c ≡ owner_at t d
  pub second_owner : owner_at (exchanged c d t) d ≡ owner_at t c
  pub other_owners : (e : ℕ) → e ≢ c → e ≢ d → owner_at (exchanged c d t) e ≡ owner_at t e

abbrev pub ExchangedWords : Type 0
ExchangedWords = (c d : ℕ) (t : List ℕ) → c ≢ d → 3 * c + 1 < length t → 3 * d + 1 < length t → Exchanges c d t

-- ---- steps with any words, legal or not: the same world either way, and each step is dropped in both orders or in none

pub record Swapped (ps : List Hold) (w : World) (s t : Step) : Type 0 where
  pub state : leaves ps (leaves ps w t) s ≡ leaves ps (leaves ps w s) t
  pub first_drop : dropped ps (leaves ps w t) s ≡ dropped ps w s
  pub second_drop : dropped ps (leaves ps w s) t ≡ dropped ps w t

-- steps at different places, not both takes
abbrev pub DifferentPlaces : Type 0
DifferentPlaces = (s t : Step) → (s.kind ≡ 1 → t.kind ≡ 1 → ⊥) → s.place ≢ t.place → Parted s t

-- "observe", "end of boundary" met alone, and kinds that there are not, beside any step
abbrev pub OtherKinds : Type 0
OtherKinds = (s t : Step) → (s.kind ≡ 0) ⊎ (5 ≤ s.kind) → Parted s t

abbrev pub AnySteps : Type 0
AnySteps = (ps : List Hold) (w : World) (s t : Step) → Whole w → Parted s t → Swapped ps w s t

-- two takes of which one is dropped in the state before them both
abbrev pub IdleTake : Type 0
IdleTake =
    (ps : List Hold) (w : World) (c n d m : ℕ) → c ≢ d
    → (dropped ps w (take_step c n) ≡ 1) ⊎ (dropped ps w (take_step d m) ≡ 1) → Swapped ps w (take_step c n) (take_step d m)

-- ---- two events, by caller or script

abbrev pub TwoEvents : Type 0
TwoEvents =
    (w : World) (e f : Event) → Whole w → Apart e f → Both w e f → Both w f e × (after_event (after_event w f) e ≡ after_event (after_event w e) f)

-- two takes, with the serials that each order gives them
abbrev pub TwoTakeEvents : Type 0
TwoTakeEvents =
    (w : World) (a b : Actor) (c d n : ℕ) → Whole w → c ≢ d → Both w (took a c n) (took b d (n + 1))
    → Both w (took b d n) (took a c (n + 1))
    × (after_event (after_event w (took b d n)) (took a c (n + 1)) ≡ on_table (exchanged c d) (after_event (after_event w (took a c n)) (took b d (n + 1))))

-- ---- whole traces, no two takes exchanged: the same state and the same counts

pub record Alike (w : World) (es fs : List Event) : Type 0 where
  pub lawful : Lawful w fs
  pub state : now w fs ≡ now w es
  -- attempts, boundaries, yields, dropped steps, takes, releases
  pub numbers : (k : Kind) → number_of_lem k fs ≡ number_of_lem k es

abbrev pub LogsReordered : Type 0
LogsReordered = (w : World) (es fs : List Event) → Whole w → Reordered es fs → Lawful w es → Alike w es fs

abbrev pub StepsShuffled : Type 0
StepsShuffled =
    (ps : List Hold) (w : World) (ss ts : List Step) → Whole w → Shuffled ss ts
    → (after_all ps w ts ≡ after_all ps w ss) × (dropped_in ps w ts ≡ dropped_in ps w ss)

-- the lone foreign steps of a history: nobody's lease is protected
abbrev pub alone : List Step → List Item
alone [] = []
alone (s ∷ ss) = foreign_step s.kind s.place s.number ∷ alone ss

abbrev pub LoneSteps : Type 0
LoneSteps = (k : Course) (ss : List Step) → (run k (alone ss)).world ≡ after_all [] k.world ss

abbrev pub HistoryShuffled : Type 0
HistoryShuffled = (k : Course) (ss ts : List Step) → Whole k.world → Shuffled ss ts → (run k (alone ts)).world ≡ (run k (alone ss)).world

-- ---- whole traces with takes exchanged too, any number of them: the same head, health, bits, waiters and counts; the owners are renamed by
-- a bijection on the serials issued in the trace, which carries one table to the other

pub record AlikeRenamed (w : World) (es fs : List Event) : Type 0 where
  pub lawful : Lawful w fs
  pub to : ℕ → ℕ
  pub back : ℕ → ℕ
  pub serials : Serials w.head.next (now w es).head.next to back
  pub state : now w fs ≡ on_table (renamed_owners to) (now w es)
  pub numbers : (k : Kind) → number_of_lem k fs ≡ number_of_lem k es

abbrev pub LogsRecast : Type 0
LogsRecast = (w : World) (es fs : List Event) → Whole w → Recast es fs → Lawful w es → AlikeRenamed w es fs

pub record StepsRenamed (ps : List Hold) (w : World) (ss ts : List Step) : Type 0 where
  pub to : ℕ → ℕ
  pub back : ℕ → ℕ
  pub serials : Serials w.head.next (after_all ps w ss).head.next to back
  pub state : after_all ps w ts ≡ on_table (renamed_owners to) (after_all ps w ss)
  pub drops : dropped_in ps w ts ≡ dropped_in ps w ss

-- the protected leases are from before the list, as every live lease is (`live_older`)
abbrev pub StepsRetaken : Type 0
StepsRetaken =
    (ps : List Hold) (w : World) (ss ts : List Step) → Whole w → Older w.head.next ps → Retaken ps w ss ts → StepsRenamed ps w ss ts

-- every lease that is live was issued before
abbrev pub AllAreLive : World → List Hold → Type 0
AllAreLive w [] = Unit {0}
AllAreLive w (l ∷ ls) = Live w l × AllAreLive w ls

abbrev pub LiveOlder : Type 0
LiveOlder = (w : World) (ps : List Hold) → AllAreLive w ps → Older w.head.next ps

-- what `renamed_owners` does to a table of n cells, word by word
pub record Renames (to : ℕ → ℕ) (n : ℕ) (t : List ℕ) : Type 0 where
  pub words : length (renamed_owners to t) ≡ length t
  pub bits : (c : ℕ) → c < n → bit_at (renamed_owners to t) c ≡ bit_at t c
  pub owners : (c : ℕ) → c < n → owner_at (renamed_owners to t) c ≡ to (owner_at t c)
  pub waiters : (c : ℕ) → c < n → waiters_at (renamed_owners to t) c ≡ waiters_at t c

abbrev pub RenamedWords : Type 0
RenamedWords = (to : ℕ → ℕ) (n : ℕ) (t : List ℕ) → length t ≡ 3 * n → Renames to n t

-- a renaming and its inverse stay among the serials issued in the trace
abbrev pub IssuedStay : Type 0
IssuedStay =
    (old next : ℕ) (to back : ℕ → ℕ) → Serials old next to back → (s : ℕ) → old ≤ s → s < next
    → ((old ≤ to s) × (to s < next)) × ((old ≤ back s) × (back s < next))

-- ---- a boundary is a list of steps: those that stand in the script from its place on, up to the next end of boundary or to the script's end

abbrev pub BoundaryRuns : Type 0
BoundaryRuns =
    (ps : List Hold) (w : World) (pre ss post : List Step) (d : ℕ) → Unended ss → Ended post
    → let v = after_all ps w ss in
    (boundary_of (given w.head (script_of (pre ++ (ss ++ post))) ps) (flow_of w.head.next (length pre) d) w.table w.health).seen
    ≡ (flow_of v.head.next (length pre + length ss + ends post) (d + dropped_in ps w ss), (v.table, v.health))

-- ---- scripts, no two takes exchanged: a call over the shuffled script gives the same answer, head, table, health, place, counts and grant buffer

abbrev pub CallsRescripted : Type 0
CallsRescripted = (w : World) (k l : Call) → Whole w → Rescripted k l → (perform w l).seen ≡ (perform w k).seen

-- ---- scripts, takes exchanged too: one boundary, as `environment` runs it. The same reply (answer, head, place, counts) and health; the
-- table with the owners renamed.

pub record ReplyRenamed (w : World) (o p : ScriptReply × (List ℕ × List ℕ)) : Type 0 where
  pub to : ℕ → ℕ
  pub back : ℕ → ℕ
  pub serials : Serials w.head.next o.0.head.next to back
  pub reply : p.0 ≡ o.0
  pub table : p.1.0 ≡ renamed_owners to o.1.0
  pub health : p.1.1 ≡ o.1.1

-- the boundary runs the stretch and no more: behind it stands an end of boundary, or nothing
abbrev pub EnvironmentRetaken : Type 0
EnvironmentRetaken =
    (w : World) (held : List ℕ) (pre ss ts post : List Step) → Whole w → Unended ss → Ended post
    → Older w.head.next (holds_of held) → Retaken (holds_of held) w ss ts
    → ReplyRenamed w (environment_of w.head w.table w.health (script_of (pre ++ (ss ++ post))) (length pre) held).seen
    (environment_of w.head w.table w.health (script_of (pre ++ (ts ++ post))) (length pre) held).seen
