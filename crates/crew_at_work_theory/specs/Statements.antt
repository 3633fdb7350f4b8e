-- Document 02, L13: what "must look one after another" says of the crew at work, as statements. `Theorems` gives their proofs by name. What
-- is spoken of is the call's own result and its log: the order in which members came to hold all is read off the log, and so is what each
-- member still owes.
use Rattle.std.specs.Prelude.{ℕ, zero, suc, ◌+◌, ◌%◌, ◌≤◌, ◌<◌, ◌≡◌, List, [], ◌∷◌, ◌++◌, ◌≢◌, ◌⊎◌, eqb, length, get_or, set, if◌then◌else◌}
use Rattle.model.specs.Log.{Event, by_caller, attempt_begun, boundary_run, yielded, spun, step_dropped, took, released, waiters_set, health_set, held_all_lem, added}
use Rattle.model.specs.Crew.{adds, summed_of, start_of, count_of, crew_start, added_to, order_of}
use Rattle.types.specs.declared.Answer.TheVariants.{Done}
use Rattle.types.specs.declared.CrewReply.{CrewReply}
use Rattle.types.specs.declared.Head.{Head}
use Rattle.history.specs.Statements.{CrewAtWorkBuild}
use Rattle.crew_theory.specs.Statements.{In, named, own_log, adds_of_lem}

-- ---- whole members, one after another

-- with any way to make a sum: v added to each of `left` cells from place k on
unfoldable pub raised_by : (ℕ → ℕ → ℕ) → ℕ → ℕ → List ℕ → ℕ → List ℕ → List ℕ
raised_by plus zero k cells v l = l
raised_by plus (suc left) k cells v l = raised_by plus left (k + 1) cells v (set l (named cells k) (plus (get_or l (named cells k) 0) v))

-- a whole member: it adds to each of its cells what its lowest held
unfoldable pub whole_by : (ℕ → ℕ → ℕ) → List ℕ → List ℕ → List ℕ → ℕ → List ℕ
whole_by plus counts cells l m = raised_by plus (count_of counts m) (start_of counts m) cells (get_or l (named cells (start_of counts m)) 0) l

-- "running whole members one after another", in this order
unfoldable pub replay_by : (ℕ → ℕ → ℕ) → List ℕ → List ℕ → List ℕ → List ℕ → List ℕ
replay_by plus counts cells l [] = l
replay_by plus counts cells l (m ∷ ms) = replay_by plus counts cells (whole_by plus counts cells l m) ms

-- with the sums of the call
abbrev pub replay_of : List ℕ → List ℕ → List ℕ → List ℕ → List ℕ
replay_of counts cells l ms = replay_by summed_of counts cells l ms

-- ---- the theorem

-- "once all members have finished", as the reply tells it
abbrev pub AllFinished : List ℕ → CrewReply → Type 0
AllFinished counts reply = (m : ℕ) → m < length counts → get_or reply.released m 0 ≡ count_of counts m

-- "the counters equal those of running whole members one after another, in the order in which they came to hold all, whatever the turns":
-- whatever the arena, too. The call is not refused
abbrev pub OneAfterAnother : CrewAtWorkBuild → Type 0
OneAfterAnother f =
    (h : Head) (t g counts cells turns counters : List ℕ) → let o = f h t g counts cells turns counters in
    o.seen.0.answer ≡ Done → AllFinished counts o.seen.0
    → o.seen.1.1 ≡ replay_of counts cells counters (order_of o.log)

-- "sums wrap at 65,536": the same, with the replay in plain numbers and the remainder at the end; every counter is below 65,536 if all were
abbrev pub Low : List ℕ → Type 0
Low l = (c : ℕ) → get_or l c 0 < 65536

abbrev pub OverRemainders : CrewAtWorkBuild → Type 0
OverRemainders f =
    (h : Head) (t g counts cells turns counters : List ℕ) → let o = f h t g counts cells turns counters in
    o.seen.0.answer ≡ Done → AllFinished counts o.seen.0 → Low counters
    → (c : ℕ) → get_or o.seen.1.1 c 0 ≡ get_or (replay_by ◌+◌ counts cells counters (order_of o.log)) c 0 % 65536

-- ---- the adds of the log, finished or not

-- the adds of a log made to some counters
unfoldable pub counters_by : List ℕ → List Event → List ℕ
counters_by l [] = l
counters_by l (attempt_begun ∷ es) = counters_by l es
counters_by l (boundary_run ∷ es) = counters_by l es
counters_by l (yielded ∷ es) = counters_by l es
counters_by l (spun ∷ es) = counters_by l es
counters_by l (step_dropped ∷ es) = counters_by l es
counters_by l (took a c s ∷ es) = counters_by l es
counters_by l (released a c s ∷ es) = counters_by l es
counters_by l (waiters_set c n ∷ es) = counters_by l es
counters_by l (health_set i n ∷ es) = counters_by l es
counters_by l (held_all_lem m ∷ es) = counters_by l es
counters_by l (added m c v ∷ es) = counters_by (added_to l c v) es

-- of all members, finished or not: the counters are those that the caller set, with exactly the adds of the log
abbrev pub AddsAreAll : CrewAtWorkBuild → Type 0
AddsAreAll f =
    (h : Head) (t g counts cells turns counters : List ℕ) → let o = f h t g counts cells turns counters in
    o.seen.1.1 ≡ counters_by counters o.log

-- what a log adds to a cell's counter, in plain numbers
abbrev pub value_to : ℕ → Event → ℕ
value_to d attempt_begun = 0
value_to d boundary_run = 0
value_to d yielded = 0
value_to d spun = 0
value_to d step_dropped = 0
value_to d (took a c s) = 0
value_to d (released a c s) = 0
value_to d (waiters_set c n) = 0
value_to d (health_set i n) = 0
value_to d (held_all_lem m) = 0
value_to d (added m c v) = if eqb c d then v else 0

unfoldable pub values_to : ℕ → List Event → ℕ
values_to d [] = 0
values_to d (e ∷ es) = value_to d e + values_to d es

-- "sums wrap at 65,536", finished or not: a counter is the remainder of what it was and all that was added to it, so it stays below 65,536
abbrev pub SumsWrap : CrewAtWorkBuild → Type 0
SumsWrap f =
    (h : Head) (t g counts cells turns counters : List ℕ) → let o = f h t g counts cells turns counters in
    o.seen.0.answer ≡ Done → Low counters
    → (c : ℕ) → c < length counters → get_or o.seen.1.1 c 0 ≡ (get_or counters c 0 + values_to c o.log) % 65536

abbrev pub StaysLow : CrewAtWorkBuild → Type 0
StaysLow f = (h : Head) (t g counts cells turns counters : List ℕ) → Low counters → Low (f h t g counts cells turns counters).seen.1.1

-- ---- when turns run out before the end

-- a member that came to hold all still owes an add to this cell: to the j-th of its list, and it has made j adds at most
abbrev pub Owes : List ℕ → List ℕ → List Event → ℕ → Type 0
Owes counts cells log c = (m : ℕ) × (j : ℕ) × In m (order_of log) × (adds_of_lem m log ≤ j) × (j < count_of counts m) × (named cells (start_of counts m + j) ≡ c)

-- every other counter is as replayed
abbrev pub OwesOnly : CrewAtWorkBuild → Type 0
OwesOnly f =
    (h : Head) (t g counts cells turns counters : List ℕ) → let o = f h t g counts cells turns counters in
    o.seen.0.answer ≡ Done
    → (c : ℕ) → (Owes counts cells o.log c → ⊥)
    → get_or o.seen.1.1 c 0 ≡ get_or (replay_of counts cells counters (order_of o.log)) c 0

-- so the counters of members that finished are as replayed: every cell that is wanted only by members that have finished or, as the reply
-- tells it, have not come to hold all
abbrev pub AsReplayed : CrewAtWorkBuild → Type 0
AsReplayed f =
    (h : Head) (t g counts cells turns counters : List ℕ) (c : ℕ) → let o = f h t g counts cells turns counters in
    o.seen.0.answer ≡ Done
    → ((m j : ℕ) → j < count_of counts m → named cells (start_of counts m + j) ≡ c
    → (get_or o.seen.0.released m 0 ≡ count_of counts m) ⊎ (get_or o.seen.0.taken m 0 < count_of counts m))
    → get_or o.seen.1.1 c 0 ≡ get_or (replay_of counts cells counters (order_of o.log)) c 0

-- ---- the order names each member that came to hold all, once

-- how often m is in a list
unfoldable pub times : ℕ → List ℕ → ℕ
times m [] = 0
times m (x ∷ l) = (if eqb x m then 1 else 0) + times m l

-- a member with a cell is named once if the reply says that it took all its cells, and else not at all; "Members with no cells change
-- nothing": they are not named, add nothing, and a whole one of them leaves the counters
pub record NamedSo (counts cells : List ℕ) (m : ℕ) (reply : CrewReply) (log : List Event) : Type 0 where
  pub full : 1 ≤ count_of counts m → get_or reply.taken m 0 ≡ count_of counts m → times m (order_of log) ≡ 1
  pub not_full : 1 ≤ count_of counts m → get_or reply.taken m 0 < count_of counts m → times m (order_of log) ≡ 0
  pub no_cells : count_of counts m ≡ 0 → (times m (order_of log) ≡ 0) × (adds_of_lem m log ≡ 0) × ((l : List ℕ) → whole_by summed_of counts cells l m ≡ l)

abbrev pub NamedOnce : CrewAtWorkBuild → Type 0
NamedOnce f =
    (h : Head) (t g counts cells turns counters : List ℕ) (m : ℕ) → let o = f h t g counts cells turns counters in
    o.seen.0.answer ≡ Done → m < length counts → NamedSo counts cells m o.seen.0 o.log

-- ---- members that share a cell

-- a stands before b
abbrev pub Before : ℕ → ℕ → List ℕ → Type 0
Before a b [] = ⊥
Before a b (x ∷ l) = ((a ≡ x) × In b l) ⊎ Before a b l

-- this event is one of a log
abbrev pub Has : Event → List Event → Type 0
Has e log = (a : List Event) × (b : List Event) × (log ≡ a ++ (e ∷ b))

-- of two members that share the cell c, the one that came to hold all first, m, has released it before the other, q, takes it: in the log a
-- release of c, which is one of m's own turns, stands before a take of c, which is one of q's own turns
pub record GivesWay (h : Head) (t g counts cells turns counters : List ℕ) (m q c : ℕ) (log : List Event) : Type 0 where
  pub before : List Event
  pub between : List Event
  pub after : List Event
  pub given : ℕ
  pub got : ℕ
  pub parts : log ≡ before ++ (released by_caller c given ∷ (between ++ (took by_caller c got ∷ after)))
  pub by_first : Has (released by_caller c given) (own_log adds h g counts cells m (crew_start h t counters) turns)
  pub by_second : Has (took by_caller c got) (own_log adds h g counts cells q (crew_start h t counters) turns)

abbrev pub ReleasedFirst : CrewAtWorkBuild → Type 0
ReleasedFirst f =
    (h : Head) (t g counts cells turns counters : List ℕ) (m j q i : ℕ) → let o = f h t g counts cells turns counters in
    o.seen.0.answer ≡ Done
    → m ≢ q
    → j < count_of counts m → i < count_of counts q
    → named cells (start_of counts m + j) ≡ named cells (start_of counts q + i)
    → Before m q (order_of o.log)
    → GivesWay h t g counts cells turns counters m q (named cells (start_of counts m + j)) o.log

-- members a and b share no cell
abbrev pub Strangers : List ℕ → List ℕ → ℕ → ℕ → Type 0
Strangers counts cells a b = (j i : ℕ) → j < count_of counts a → i < count_of counts b → named cells (start_of counts a + j) ≢ named cells (start_of counts b + i)

-- so the result does not depend on the order of members that share nothing: any order that names the same members and keeps the order of
-- those that share a cell gives the same counters
abbrev pub AnyOrder : CrewAtWorkBuild → Type 0
AnyOrder f =
    (h : Head) (t g counts cells turns counters others : List ℕ) → let o = f h t g counts cells turns counters in
    o.seen.0.answer ≡ Done → AllFinished counts o.seen.0
    → ((m : ℕ) → times m (order_of o.log) ≡ times m others)
    → ((a b : ℕ) → Before a b others → Strangers counts cells a b ⊎ Before a b (order_of o.log))
    → o.seen.1.1 ≡ replay_of counts cells counters others
