-- What demand 3 says, as statements over the crew's run: of document 01's, and of document 02's, at work. Both are runs of turns, `shift_of`,
-- in a work; a statement whose name ends in `over` is of `shift_of` in any work, and the proofs, in the other files, are of that. `Theorems`
-- gives all by name.
use Rattle.std.specs.Prelude.{ℕ, zero, suc, ◌+◌, ◌*◌, ◌-◌, ◌/◌, ◌≤◌, ◌<◌, ◌≡◌, List, [], ◌∷◌, ◌++◌, ◌⊎◌, eqb, length, get_or, set, take, if◌then◌else◌, Ok}
use Rattle.model.specs.Log.{Made, Event, by_caller, attempt_begun, boundary_run, yielded, spun, step_dropped, took, released, waiters_set, health_set, held_all_lem, added}
use Rattle.model.specs.Arena.{last_serial, cells_of, spent_to, waiters_at, set_cell, state_at}
use Rattle.model.specs.Refusals.{first}
use Rattle.model.specs.Crew.{Work, rests, adds, adds_of, moves_of, total, start_of, count_of, list_of, crew_rules, crew_at_work_rules, Crew, crew_at, crew_start, moved, is_full, noted_at, added_to, turn_of, turns_of, shift_of, crew_of, crew_at_work_of}
use Rattle.types.specs.declared.Answer.TheVariants.{Done}
use Rattle.types.specs.declared.CrewReply.{CrewReply}
use Rattle.types.specs.declared.Head.{Head}
use Rattle.types.specs.declared.State.TheVariants as state
use Rattle.history.specs.World.{one, Kind, takes, releases, kind_of_lem, code, number_of_lem}
use Rattle.history.specs.Statements.{CrewBuild, CrewAtWorkBuild}

-- ---- rounds

abbrev pub In : ℕ → List ℕ → Type 0
In m [] = ⊥
In m (x ∷ xs) = (m ≡ x) ⊎ In m xs

abbrev pub flat : List (List ℕ) → List ℕ
flat [] = []
flat (r ∷ rs) = r ++ flat rs

module _ (work : Work) (h : Head) (g counts cells : List ℕ) where
  abbrev pub after : Crew → List ℕ → Crew
  after w ms = (turns_of work h.headers h.buckets g counts cells w ms).seen

  -- a member's moves are two for each of its cells, it takes it and it releases it, and between those the moves of its work
  abbrev pub Unfinished : Crew → ℕ → Type 0
  Unfinished w m = (m < length counts) × (get_or w.made m 0 < moves_of work (count_of counts m))

  -- "A round is a stretch of turns naming each member unfinished at its start at least once."
  abbrev pub IsRound : Crew → List ℕ → Type 0
  IsRound w r = (m : ℕ) → Unfinished w m → In m r

  abbrev pub Rounds : Crew → List (List ℕ) → Type 0
  Rounds w [] = Unit {0}
  Rounds w (r ∷ rs) = IsRound w r × Rounds (after w r) rs

-- ---- rounds as the replies tell them: `reply` gives the reply to some turns

module _ (reply : List ℕ → CrewReply) (counts : List ℕ) where
  -- after these turns a member is unfinished if the reply to them says that it has not released its whole list
  abbrev pub UnfinishedSaid : List ℕ → ℕ → Type 0
  UnfinishedSaid turns m = (m < length counts) × (get_or (reply turns).released m 0 < count_of counts m)

  -- rounds behind the turns `before`
  abbrev pub RoundsSaid : List ℕ → List (List ℕ) → Type 0
  RoundsSaid before [] = Unit {0}
  RoundsSaid before (r ∷ rs) = ((m : ℕ) → UnfinishedSaid before m → In m r) × RoundsSaid (before ++ r) rs

-- of any build of the crew, and of the crew at work
abbrev pub RoundsAfter : CrewBuild → Head → (t g counts cells before : List ℕ) → List (List ℕ) → Type 0
RoundsAfter f h t g counts cells before rounds = RoundsSaid (λ turns. (f h t g counts cells turns).seen.0) counts before rounds

abbrev pub RoundsAtWork : CrewAtWorkBuild → Head → (t g counts cells counters before : List ℕ) → List (List ℕ) → Type 0
RoundsAtWork f h t g counts cells counters before rounds = RoundsSaid (λ turns. (f h t g counts cells turns counters).seen.0) counts before rounds

-- of a run in a work
abbrev pub RoundsOver : Work → Head → (t g counts cells counters before : List ℕ) → List (List ℕ) → Type 0
RoundsOver work h t g counts cells counters before rounds = RoundsSaid (λ turns. (shift_of work h t g counts cells turns counters).seen.0) counts before rounds

-- ---- the premises: "Named cells start free and unwaited, headers healthy, K serials remain, nobody else steps."

-- the cell at place k of the run of cells
abbrev pub named : List ℕ → ℕ → ℕ
named cells k = get_or cells k 0

pub record Open (h : Head) (t g counts cells turns : List ℕ) : Type 0 where
  -- the call is not refused: the arena's shape, the crew's limits, strictly rising lists in range, turns that name members
  pub fine : first (crew_rules h t g counts cells turns) ≡ Ok tt
  pub free : (k : ℕ) → k < total counts → state_at h.next t (named cells k) ≡ state.Free
  pub unwaited : (k : ℕ) → k < total counts → waiters_at t (named cells k) ≡ 0
  pub healthy : (k : ℕ) → k < total counts → get_or g (named cells k / h.buckets) 0 ≡ 0
  pub serials : h.next + total counts ≤ last_serial

-- ---- the conclusion, of the call's own result

-- the adds of a log
abbrev pub is_add : Event → ℕ
is_add attempt_begun = 0
is_add boundary_run = 0
is_add yielded = 0
is_add spun = 0
is_add step_dropped = 0
is_add (took a c s) = 0
is_add (released a c s) = 0
is_add (waiters_set c n) = 0
is_add (health_set i n) = 0
is_add (held_all_lem m) = 0
is_add (added m c v) = 1

unfoldable pub adds_in : List Event → ℕ
adds_in [] = 0
adds_in (e ∷ es) = is_add e + adds_in es

-- `moves` is how many moves all members need
pub record Completed (moves : ℕ) (h : Head) (t counts turns : List ℕ) (o : Made (CrewReply × List ℕ)) : Type 0 where
  pub done : o.seen.0.answer ≡ Done
  -- "all have held their whole lists and released them"
  pub taken : (m : ℕ) → m < length counts → get_or o.seen.0.taken m 0 ≡ count_of counts m
  pub released : (m : ℕ) → m < length counts → get_or o.seen.0.released m 0 ≡ count_of counts m
  -- "exactly K serials are spent"
  pub spent : o.seen.0.head ≡ spent_to h (h.next + total counts)
  pub moving : o.seen.0.moving ≡ moves
  pub turns_are : o.seen.0.moving + o.seen.0.idle ≡ length turns
  -- every named cell is free again, and no other word of the table changed
  pub table_is : o.seen.1 ≡ t
  -- stated over demand 2's takes and releases; every other move is an add
  pub takes_are : number_of_lem takes o.log ≡ total counts
  pub releases_are : number_of_lem releases o.log ≡ total counts
  pub adds_are : adds_in o.log + 2 * total counts ≡ moves

-- two moves a cell
abbrev pub Complete : (h : Head) (t counts turns : List ℕ) → Made (CrewReply × List ℕ) → Type 0
Complete h t counts turns o = Completed (2 * total counts) h t counts turns o

-- "after 2K rounds"
abbrev pub Enough : List ℕ → List (List ℕ) → Type 0
Enough counts rounds = 2 * total counts ≤ length rounds

-- demand 3, "whatever the order of turns"
abbrev pub Demand3 : CrewBuild → Type 0
Demand3 f =
    (h : Head) (t g counts cells : List ℕ) (rounds : List (List ℕ))
    → Open h t g counts cells (flat rounds)
    → RoundsAfter f h t g counts cells [] rounds
    → Enough counts rounds
    → Complete h t counts (flat rounds) (f h t g counts cells (flat rounds))

-- what comes of a run with counters, without them
abbrev pub tabled : Made (CrewReply × (List ℕ × List ℕ)) → Made (CrewReply × List ℕ)
tabled o = record { seen = (o.seen.0, o.seen.1.0); log = o.log }

-- of the crew at work: "Demand 3 now reads 3K rounds, with the same premises." One counter a cell, since the call is not refused
abbrev pub EnoughAtWork : List ℕ → List (List ℕ) → Type 0
EnoughAtWork counts rounds = 3 * total counts ≤ length rounds

abbrev pub Demand3AtWork : CrewAtWorkBuild → Type 0
Demand3AtWork f =
    (h : Head) (t g counts cells counters : List ℕ) (rounds : List (List ℕ))
    → Open h t g counts cells (flat rounds)
    → length counters ≡ cells_of h
    → RoundsAtWork f h t g counts cells counters [] rounds
    → EnoughAtWork counts rounds
    → Completed (3 * total counts) h t counts (flat rounds) (tabled (f h t g counts cells (flat rounds) counters))

-- both at once: a run in any work, with as many rounds as it has moves
abbrev pub EnoughOver : Work → List ℕ → List (List ℕ) → Type 0
EnoughOver work counts rounds = moves_of work (total counts) ≤ length rounds

abbrev pub Demand3Over : Work → Type 0
Demand3Over work =
    (h : Head) (t g counts cells counters : List ℕ) (rounds : List (List ℕ))
    → Open h t g counts cells (flat rounds)
    → RoundsOver work h t g counts cells counters [] rounds
    → EnoughOver work counts rounds
    → Completed (moves_of work (total counts)) h t counts (flat rounds) (tabled (shift_of work h t g counts cells (flat rounds) counters))

-- ---- on the way, each of use by itself

-- a try_lock of the cell, after a health reading, would be granted
pub record Ready (buckets : ℕ) (g : List ℕ) (next : ℕ) (t : List ℕ) (c : ℕ) : Type 0 where
  pub healthy : get_or g (c / buckets) 0 ≡ 0
  pub unwaited : waiters_at t c ≡ 0
  pub is_free_lem : state_at next t c ≡ state.Free
  pub serial : next < last_serial

-- what a log did: without the events that are counted and do nothing
unfoldable pub deeds_in : List Event → List Event
deeds_in [] = []
deeds_in (attempt_begun ∷ es) = deeds_in es
deeds_in (boundary_run ∷ es) = deeds_in es
deeds_in (yielded ∷ es) = deeds_in es
deeds_in (spun ∷ es) = deeds_in es
deeds_in (step_dropped ∷ es) = step_dropped ∷ deeds_in es
deeds_in (took a c s ∷ es) = took a c s ∷ deeds_in es
deeds_in (released a c s ∷ es) = released a c s ∷ deeds_in es
deeds_in (waiters_set c n ∷ es) = waiters_set c n ∷ deeds_in es
deeds_in (health_set i n ∷ es) = health_set i n ∷ deeds_in es
deeds_in (held_all_lem m ∷ es) = held_all_lem m ∷ deeds_in es
deeds_in (added m c v ∷ es) = added m c v ∷ deeds_in es

-- the places of the cell that a member takes next, of the one that it adds to next, and of the last one that it still holds
abbrev pub to_take : List ℕ → List ℕ → ℕ → ℕ
to_take counts made m = start_of counts m + get_or made m 0

abbrev pub to_add : List ℕ → List ℕ → ℕ → ℕ
to_add counts made m = start_of counts m + (get_or made m 0 - count_of counts m)

abbrev pub to_give : Work → List ℕ → List ℕ → ℕ → ℕ
to_give work counts made m = start_of counts m + (moves_of work (count_of counts m) - 1 - get_or made m 0)

-- behind a take: that the member holds all, if it was the last
abbrev pub filling : List ℕ → List ℕ → ℕ → List Event
filling counts made m = if is_full counts made m then held_all_lem m ∷ [] else []

module _ (counts cells : List ℕ) where
  -- the cells at these places, and the lowest of a member's list
  abbrev pub wish : List ℕ → ℕ → ℕ
  wish made m = named cells (to_take counts made m)

  abbrev pub chore : List ℕ → ℕ → ℕ
  chore made m = named cells (to_add counts made m)

  abbrev pub last : Work → List ℕ → ℕ → ℕ
  last work made m = named cells (to_give work counts made m)

  abbrev pub lowest : ℕ → ℕ
  lowest m = named cells (start_of counts m)

  -- the crew after member m took its next cell, added to its next cell, and released the last
  abbrev pub with_take : Crew → ℕ → Crew
  with_take w m =
      crew_at (w.next + 1) (set_cell w.table (wish w.made m) 1 w.next) (moved w.made m) (set w.serials (to_take counts w.made m) w.next) (w.moving + 1) w.idle
      w.counters (noted_at (is_full counts (moved w.made m) m) w.noted w.counters m (lowest m))

  abbrev pub with_add : Crew → ℕ → Crew
  with_add w m =
      crew_at w.next w.table (moved w.made m) w.serials (w.moving + 1) w.idle
      (added_to w.counters (chore w.made m) (get_or w.noted m 0)) w.noted

  abbrev pub with_release : Work → Crew → ℕ → Crew
  with_release work w m =
      crew_at w.next (set_cell w.table (last work w.made m) 0 0) (moved w.made m) w.serials (w.moving + 1) w.idle w.counters w.noted

module _ (work : Work) (buckets : ℕ) (g counts cells : List ℕ) where
  -- why a turn is idle
  pub data Idle (next : ℕ) (t made : List ℕ) (m : ℕ) : Type 0 where
    finished : moves_of work (count_of counts m) ≤ get_or made m 0 → Idle next t made m
    blocked : get_or made m 0 < count_of counts m → (Ready buckets g next t (wish counts cells made m) → ⊥) → Idle next t made m

  -- a turn of member m in crew w, with the crew v and the log after it. An idle one changes nothing. A moving one is exactly one take, of
  -- the member's next cell with the next serial, and behind the last take that it holds all; or exactly one add, to its next cell, of the
  -- value noted for it; or exactly one release, of the last cell it still holds with the serial noted there.
  pub data Turn (w : Crew) (m : ℕ) (v : Crew) (log : List Event) : Type 0 where
    idled : Idle w.next w.table w.made m
        → v ≡ crew_at w.next w.table w.made w.serials w.moving (w.idle + 1) w.counters w.noted → deeds_in log ≡ [] → Turn w m v log
    grabbed : get_or w.made m 0 < count_of counts m → Ready buckets g w.next w.table (wish counts cells w.made m)
        → v ≡ with_take counts cells w m
        → deeds_in log ≡ took by_caller (wish counts cells w.made m) w.next ∷ filling counts (moved w.made m) m → Turn w m v log
    summed : count_of counts m ≤ get_or w.made m 0 → get_or w.made m 0 < count_of counts m + adds_of work (count_of counts m)
        → v ≡ with_add counts cells w m
        → deeds_in log ≡ added m (chore counts cells w.made m) (get_or w.noted m 0) ∷ [] → Turn w m v log
    gave : count_of counts m + adds_of work (count_of counts m) ≤ get_or w.made m 0 → get_or w.made m 0 < moves_of work (count_of counts m)
        → v ≡ with_release counts cells work w m
        → deeds_in log ≡ released by_caller (last counts cells work w.made m) (get_or w.serials (to_give work counts w.made m) 0) ∷ [] → Turn w m v log

-- every turn of every crew, whatever its state
abbrev pub TurnsAre : Type 0
TurnsAre =
    (work : Work) (headers buckets : ℕ) (g counts cells : List ℕ) (w : Crew) (m : ℕ)
    → let o = turn_of work headers buckets g counts cells w m in Turn work buckets g counts cells w m o.seen o.log

-- after a finish a member stays finished, whatever the turns
abbrev pub StaysFinished : Type 0
StaysFinished =
    (work : Work) (h : Head) (g counts cells : List ℕ) (w : Crew) (turns : List ℕ) (m : ℕ)
    → moves_of work (count_of counts m) ≤ get_or w.made m 0 → get_or (after work h g counts cells w turns).made m 0 ≡ get_or w.made m 0

-- a round with an unfinished member has a moving turn: from the premises, after any turns
abbrev pub RoundMoves : Type 0
RoundMoves =
    (work : Work) (h : Head) (t g counts cells counters before r later : List ℕ) (m : ℕ) → Open h t g counts cells (before ++ (r ++ later))
    → let w = after work h g counts cells (crew_start h t counters) before in
    IsRound work h g counts cells w r → Unfinished work h g counts cells w m
    → w.moving < (after work h g counts cells w r).moving

-- ---- what a member did, by its own turns

-- the cell of a take, a release or an add
abbrev pub cell_of : Event → ℕ
cell_of attempt_begun = 0
cell_of boundary_run = 0
cell_of yielded = 0
cell_of spun = 0
cell_of step_dropped = 0
cell_of (took a c s) = c
cell_of (released a c s) = c
cell_of (waiters_set c n) = 0
cell_of (health_set i n) = 0
cell_of (held_all_lem m) = 0
cell_of (added m c v) = c

-- the cells of a log's takes, or of its releases, in their order
unfoldable pub cells_in : Kind → List Event → List ℕ
cells_in k [] = []
cells_in k (e ∷ es) = if eqb (code (kind_of_lem e)) (code k) then cell_of e ∷ cells_in k es else cells_in k es

-- and of its adds
unfoldable pub cells_added : List Event → List ℕ
cells_added [] = []
cells_added (e ∷ es) = if eqb (is_add e) 1 then cell_of e ∷ cells_added es else cells_added es

-- the first n of a list, from the last of them to the first
abbrev pub falling : ℕ → List ℕ → List ℕ
falling zero l = []
falling (suc n) l = get_or l n 0 ∷ falling n l

-- the log of member m's own turns
unfoldable pub own_log : Work → Head → List ℕ → List ℕ → List ℕ → ℕ → Crew → List ℕ → List Event
own_log work h g counts cells m w [] = []
own_log work h g counts cells m w (n ∷ ns) =
    let o = turn_of work h.headers h.buckets g counts cells w n in (if eqb n m then o.log else []) ++ own_log work h g counts cells m o.seen ns

-- each member takes its list in its order, which rises, adds to the first of its list, as many as its work asks for, in their order, and
-- releases its list from the last to the first
pub record InOrder (work : Work) (counts cells : List ℕ) (m : ℕ) (log : List Event) : Type 0 where
  pub takes_so : cells_in takes log ≡ list_of counts cells m
  pub adds_so : cells_added log ≡ take (adds_of work (count_of counts m)) (list_of counts cells m)
  pub releases_so : cells_in releases log ≡ falling (count_of counts m) (list_of counts cells m)

-- in demand 3's run
abbrev pub CrewDeedsOver : Work → Type 0
CrewDeedsOver work =
    (h : Head) (t g counts cells counters : List ℕ) (rounds : List (List ℕ)) (m : ℕ)
    → Open h t g counts cells (flat rounds)
    → RoundsOver work h t g counts cells counters [] rounds
    → EnoughOver work counts rounds
    → InOrder work counts cells m (own_log work h g counts cells m (crew_start h t counters) (flat rounds))

abbrev pub CrewDeeds : Type 0
CrewDeeds =
    (h : Head) (t g counts cells : List ℕ) (rounds : List (List ℕ)) (m : ℕ)
    → Open h t g counts cells (flat rounds)
    → RoundsAfter crew_of h t g counts cells [] rounds
    → Enough counts rounds
    → let log = own_log rests h g counts cells m (crew_start h t []) (flat rounds) in
    (cells_in takes log ≡ list_of counts cells m) × (cells_in releases log ≡ falling (count_of counts m) (list_of counts cells m))

-- at work: "one moving turn a cell, rising"
abbrev pub CrewDeedsAtWork : Type 0
CrewDeedsAtWork =
    (h : Head) (t g counts cells counters : List ℕ) (rounds : List (List ℕ)) (m : ℕ)
    → Open h t g counts cells (flat rounds)
    → length counters ≡ cells_of h
    → RoundsAtWork crew_at_work_of h t g counts cells counters [] rounds
    → EnoughAtWork counts rounds
    → let log = own_log adds h g counts cells m (crew_start h t counters) (flat rounds) in
    (cells_in takes log ≡ list_of counts cells m) × (cells_added log ≡ list_of counts cells m)
    × (cells_in releases log ≡ falling (count_of counts m) (list_of counts cells m))

-- ---- the reply and the log agree, for every crew that is not refused, finished or not: each member's numbers are those of its own turns, every
-- turn moved or was idle, and every move is one take, one add or one release

-- the adds of a log that name a member
abbrev pub is_add_of : ℕ → Event → ℕ
is_add_of m attempt_begun = 0
is_add_of m boundary_run = 0
is_add_of m yielded = 0
is_add_of m spun = 0
is_add_of m step_dropped = 0
is_add_of m (took a c s) = 0
is_add_of m (released a c s) = 0
is_add_of m (waiters_set c n) = 0
is_add_of m (health_set i n) = 0
is_add_of m (held_all_lem k) = 0
is_add_of m (added k c v) = one (eqb k m)

unfoldable pub adds_of_lem : ℕ → List Event → ℕ
adds_of_lem m [] = 0
adds_of_lem m (e ∷ es) = is_add_of m e + adds_of_lem m es

pub record Told (work : Work) (h : Head) (t g counts cells turns counters : List ℕ) (o : Made (CrewReply × List ℕ)) : Type 0 where
  pub done : o.seen.0.answer ≡ Done
  -- for each member the takes and the releases of its own turns
  pub taken : (m : ℕ) → m < length counts → get_or o.seen.0.taken m 0 ≡ number_of_lem takes (own_log work h g counts cells m (crew_start h t counters) turns)
  pub released : (m : ℕ) → m < length counts → get_or o.seen.0.released m 0 ≡ number_of_lem releases (own_log work h g counts cells m (crew_start h t counters) turns)
  -- the adds that name a member are those of its own turns: as many as its moves that are neither takes nor releases
  pub adds_are : (m : ℕ) → m < length counts → adds_of_lem m o.log ≡ adds_in (own_log work h g counts cells m (crew_start h t counters) turns)
  pub adds_few : (m : ℕ) → m < length counts → adds_of_lem m o.log ≤ adds_of work (count_of counts m)
  pub turns_are : o.seen.0.moving + o.seen.0.idle ≡ length turns
  pub moves_are : o.seen.0.moving ≡ number_of_lem takes o.log + adds_in o.log + number_of_lem releases o.log

abbrev pub TellsOver : Work → Type 0
TellsOver work =
    (h : Head) (t g counts cells turns counters : List ℕ) → first (crew_rules h t g counts cells turns) ≡ Ok tt
    → Told work h t g counts cells turns counters (tabled (shift_of work h t g counts cells turns counters))

abbrev pub Tells : CrewBuild → Type 0
Tells f = (h : Head) (t g counts cells turns : List ℕ) → first (crew_rules h t g counts cells turns) ≡ Ok tt → Told rests h t g counts cells turns [] (f h t g counts cells turns)

abbrev pub TellsAtWork : CrewAtWorkBuild → Type 0
TellsAtWork f =
    (h : Head) (t g counts cells turns counters : List ℕ) → first (crew_at_work_rules h t g counts cells turns counters) ≡ Ok tt
    → Told adds h t g counts cells turns counters (tabled (f h t g counts cells turns counters))

-- ---- "all have held their whole lists": there is a moment at which the table shows every cell of a member's list held by the serial noted for
-- it, all at once

-- a moment in these turns at which every cell of the list of m is held, each by the serial noted for it
pub record HeldAtOnce (work : Work) (h : Head) (t g counts cells turns counters : List ℕ) (m : ℕ) : Type 0 where
  pub before : List ℕ
  pub later : List ℕ
  pub turns_are : turns ≡ before ++ later
  pub all_held : (j : ℕ) → j < count_of counts m → let w = after work h g counts cells (crew_start h t counters) before in
      state_at w.next w.table (get_or (list_of counts cells m) j 0) ≡ state.Held (get_or w.serials (start_of counts m + j) 0)

-- from the premises, whatever the turns: for each member of which the reply says that it took all its cells
abbrev pub TakenIsHeldOver : Work → Type 0
TakenIsHeldOver work =
    (h : Head) (t g counts cells turns counters : List ℕ) (m : ℕ)
    → Open h t g counts cells turns
    → m < length counts
    → get_or (shift_of work h t g counts cells turns counters).seen.0.taken m 0 ≡ count_of counts m
    → HeldAtOnce work h t g counts cells turns counters m

abbrev pub TakenIsHeld : Type 0
TakenIsHeld =
    (h : Head) (t g counts cells turns : List ℕ) (m : ℕ)
    → Open h t g counts cells turns
    → m < length counts
    → get_or (crew_of h t g counts cells turns).seen.0.taken m 0 ≡ count_of counts m
    → HeldAtOnce rests h t g counts cells turns [] m

-- in demand 3's run: for each member
abbrev pub HoldWhole : Type 0
HoldWhole =
    (h : Head) (t g counts cells : List ℕ) (rounds : List (List ℕ)) (m : ℕ)
    → Open h t g counts cells (flat rounds)
    → RoundsAfter crew_of h t g counts cells [] rounds
    → Enough counts rounds
    → m < length counts
    → HeldAtOnce rests h t g counts cells (flat rounds) [] m

abbrev pub HoldWholeAtWork : Type 0
HoldWholeAtWork =
    (h : Head) (t g counts cells counters : List ℕ) (rounds : List (List ℕ)) (m : ℕ)
    → Open h t g counts cells (flat rounds)
    → length counters ≡ cells_of h
    → RoundsAtWork crew_at_work_of h t g counts cells counters [] rounds
    → EnoughAtWork counts rounds
    → m < length counts
    → HeldAtOnce adds h t g counts cells (flat rounds) counters m

-- ---- the bound is tight: 2K - 1 rounds are not enough, nor are 3K - 1 at work

-- rounds, one fewer than the moves, after which one move is left to make; `reply` gives the reply to some turns
pub record ShortOf (moves : ℕ) (h : Head) (t g counts cells : List ℕ) (reply : List ℕ → CrewReply) : Type 0 where
  pub rounds : List (List ℕ)
  pub opens : Open h t g counts cells (flat rounds)
  pub are_rounds : RoundsSaid reply counts [] rounds
  pub one_fewer : length rounds + 1 ≡ moves
  pub one_move_left : (reply (flat rounds)).moving + 1 ≡ moves
  pub member : ℕ
  pub in_crew : member < length counts
  pub not_finished : get_or (reply (flat rounds)).released member 0 < count_of counts member

abbrev pub Short : (h : Head) (t g counts cells : List ℕ) → Type 0
Short h t g counts cells = ShortOf (2 * total counts) h t g counts cells (λ turns. (crew_of h t g counts cells turns).seen.0)

abbrev pub ShortAtWork : (h : Head) (t g counts cells counters : List ℕ) → Type 0
ShortAtWork h t g counts cells counters = ShortOf (3 * total counts) h t g counts cells (λ turns. (crew_at_work_of h t g counts cells turns counters).seen.0)

-- every member begins with this cell
abbrev pub BeginWith : ℕ → List ℕ → List ℕ → Type 0
BeginWith c counts cells = (m : ℕ) → 1 ≤ count_of counts m → get_or (list_of counts cells m) 0 0 ≡ c

abbrev pub TightOver : Work → Type 0
TightOver work =
    (h : Head) (t g counts cells counters : List ℕ) (c : ℕ)
    → Open h t g counts cells []
    → BeginWith c counts cells
    → 1 ≤ total counts
    → ShortOf (moves_of work (total counts)) h t g counts cells (λ turns. (shift_of work h t g counts cells turns counters).seen.0)

abbrev pub TightWhereShared : Type 0
TightWhereShared =
    (h : Head) (t g counts cells : List ℕ) (c : ℕ)
    → Open h t g counts cells []
    → BeginWith c counts cells
    → 1 ≤ total counts
    → Short h t g counts cells

abbrev pub TightWhereSharedAtWork : Type 0
TightWhereSharedAtWork =
    (h : Head) (t g counts cells counters : List ℕ) (c : ℕ)
    → Open h t g counts cells []
    → length counters ≡ cells_of h
    → BeginWith c counts cells
    → 1 ≤ total counts
    → ShortAtWork h t g counts cells counters

-- for every K from 1 to 256
abbrev pub ForEvery : (ℕ → Type 0) → Type 0
ForEvery P = (K : ℕ) → 1 ≤ K → K ≤ 256 → P K

abbrev pub TightForEvery : Type 0
TightForEvery = ForEvery λ K. (h : Head) × (t : List ℕ) × (g : List ℕ) × (counts : List ℕ) × (cells : List ℕ) × (total counts ≡ K) × Short h t g counts cells

-- with any counters
abbrev pub TightForEveryAtWork : Type 0
TightForEveryAtWork =
    ForEvery λ K. (h : Head) × (t : List ℕ) × (g : List ℕ) × (counts : List ℕ) × (cells : List ℕ) × (total counts ≡ K)
    × ((counters : List ℕ) → length counters ≡ cells_of h → ShortAtWork h t g counts cells counters)

-- the premises can be met by members that contend: two want the same cells
abbrev pub Met : Type 0
Met =
    (h : Head) × (t : List ℕ) × (g : List ℕ) × (rounds : List (List ℕ))
    × Open h t g (2 ∷ 2 ∷ []) (2 ∷ 5 ∷ 2 ∷ 5 ∷ []) (flat rounds)
    × RoundsAfter crew_of h t g (2 ∷ 2 ∷ []) (2 ∷ 5 ∷ 2 ∷ 5 ∷ []) [] rounds
    × (8 ≤ length rounds)

-- and at work, with counters
abbrev pub MetAtWork : Type 0
MetAtWork =
    (h : Head) × (t : List ℕ) × (g : List ℕ) × (counters : List ℕ) × (rounds : List (List ℕ))
    × Open h t g (2 ∷ 2 ∷ []) (2 ∷ 5 ∷ 2 ∷ 5 ∷ []) (flat rounds)
    × (length counters ≡ cells_of h)
    × RoundsAtWork crew_at_work_of h t g (2 ∷ 2 ∷ []) (2 ∷ 5 ∷ 2 ∷ 5 ∷ []) counters [] rounds
    × (12 ≤ length rounds)
