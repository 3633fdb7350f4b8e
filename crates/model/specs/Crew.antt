-- Document 01, "The crew", and document 02, L13, the crew at work: one definition, with the work as a parameter. The members' lists are
-- lent as two runs: `counts`, how many cells each member wants, and `cells`, their lists one behind the other.
use Rattle.std.specs.Prelude.{ℕ, zero, suc, ◌+◌, ◌*◌, ◌-◌, ◌%◌, min, List, [], ◌∷◌, ◌++◌, Bool, true, not, ◌&&◌, ◌||◌, ltb, leb, eqb, length, get_or, set, take, drop, replicate, if◌then◌else◌}
use Rattle.model.specs.Log.{Made, Event, by_caller, attempt_begun, boundary_run, yielded, spun, step_dropped, took, released, waiters_set, health_set, held_all_lem, added, gives, note, ◌>>=◌, ◌>>◌}
use Rattle.model.specs.Arena.{within, cells_of, spent_to, header_of, is_poisoned, set_cell}
use Rattle.model.specs.Refusals.{Rule, refuse◌carrying◌when◌, first, judge}
use Rattle.model.specs.Checks.{bad_shape, bad_health}
use Rattle.model.specs.Foreign.{setting, flow_of}
use Rattle.model.specs.Lock.{lock_of}
use Rattle.types.specs.declared.Answer.TheVariants.{Done, Refused}
use Rattle.types.specs.declared.CrewReply.{CrewReply}
use Rattle.types.specs.declared.Head.{Head}
use Rattle.types.specs.declared.Outcome.{Outcome}
use Rattle.types.specs.declared.Outcome.TheVariants as outcome
use Rattle.types.specs.declared.Refusal.{Refusal}

-- ---- the work

-- what a member does between holding all its cells and releasing them: nothing, as in document 01's run; or, as in document 02's, it
-- "spends one moving turn a cell, rising"
pub data Work : Type 0 where
  rests adds : Work

-- its moves for that, if it has n cells
abbrev pub adds_of : Work → ℕ → ℕ
adds_of rests n = 0
adds_of adds n = n

-- all its moves: it takes each cell, works, and releases each cell
abbrev pub moves_of : Work → ℕ → ℕ
moves_of work n = 2 * n + adds_of work n

-- "sums wrap at 65,536"
unfoldable pub summed_of : ℕ → ℕ → ℕ
summed_of a b = (a + b) % 65536

-- ---- the lists

-- "K in all"
unfoldable pub total : List ℕ → ℕ
total [] = 0
total (n ∷ ns) = n + total ns

-- where a member's list begins
unfoldable pub start_of : List ℕ → ℕ → ℕ
start_of counts m = total (take m counts)

abbrev pub count_of : List ℕ → ℕ → ℕ
count_of counts m = get_or counts m 0

abbrev pub list_of : List ℕ → List ℕ → ℕ → List ℕ
list_of counts cells m = take (count_of counts m) (drop (start_of counts m) cells)

-- ---- 15 BadCrew: "first fault, lists before turns: crew limits; a cell out of range or not above the one before; a turn naming no member"

-- "1 to 16 members, each with 0 to 64 cells, K at most 256, and up to 65,536 turns naming members"; the counts are those of the run
unfoldable pub all_within : ℕ → List ℕ → Bool
all_within most [] = true
all_within most (n ∷ ns) = leb n most && all_within most ns

abbrev pub bad_limits : List ℕ → List ℕ → List ℕ → Rule
bad_limits counts cells turns =
    refuse 15 carrying 0 when
    (not (within 1 16 (length counts)) || not (all_within 64 counts) || ltb 256 (total counts) || not (eqb (length cells) (total counts)) || ltb 65536 (length turns))

-- a strictly rising list of cells in range; `low` is what the next one must reach
unfoldable pub rises_from : ℕ → ℕ → List ℕ → Bool
rises_from inside low [] = true
rises_from inside low (c ∷ cs) = leb low c && ltb c inside && rises_from inside (c + 1) cs

-- `left` members from m on
unfoldable pub bad_lists : ℕ → ℕ → ℕ → List ℕ → List ℕ → List Rule
bad_lists zero m inside counts cells = []
bad_lists (suc left) m inside counts cells = (refuse 15 carrying m when not (rises_from inside 0 (list_of counts cells m))) ∷ bad_lists left (m + 1) inside counts cells

unfoldable pub bad_turns : ℕ → ℕ → List ℕ → List Rule
bad_turns members i [] = []
bad_turns members i (m ∷ ms) = (refuse 15 carrying i when leb members m) ∷ bad_turns members (i + 1) ms

-- "lists before turns": what both calls check of the crew
abbrev pub plan_rules : Head → List ℕ → List ℕ → List ℕ → List Rule
plan_rules h counts cells turns = bad_limits counts cells turns ∷ (bad_lists (length counts) 0 (cells_of h) counts cells ++ bad_turns (length counts) 0 turns)

unfoldable pub crew_rules : Head → List ℕ → List ℕ → List ℕ → List ℕ → List ℕ → List Rule
crew_rules h t g counts cells turns = bad_shape h t ∷ bad_health h g ∷ plan_rules h counts cells turns

-- "Give each cell a counter from 0 to 65,535 (not one a cell: BadShape)"
abbrev pub bad_counters : Head → List ℕ → Rule
bad_counters h counters = refuse 1 carrying 0 when not (eqb (length counters) (cells_of h))

unfoldable pub crew_at_work_rules : Head → List ℕ → List ℕ → List ℕ → List ℕ → List ℕ → List ℕ → List Rule
crew_at_work_rules h t g counts cells turns counters = bad_shape h t ∷ bad_health h g ∷ bad_counters h counters ∷ plan_rules h counts cells turns

-- ---- a turn

-- what turns change: the next serial, the table, how many moves each member has made, the serial noted at each place of the lists, how
-- many turns moved and were idle, the cells' counters, and the value noted for each member when it came to hold all. A member's moves are
-- its takes, one for each cell in the order of its list, then those of its work, and then its releases, last first.
pub record Crew : Type 0 where
  pub next : ℕ
  pub table : List ℕ
  pub made : List ℕ
  pub serials : List ℕ
  pub moving : ℕ
  pub idle : ℕ
  pub counters : List ℕ
  pub noted : List ℕ

abbrev pub crew_at : ℕ → List ℕ → List ℕ → List ℕ → ℕ → ℕ → List ℕ → List ℕ → Crew
crew_at next t made serials moving idle counters noted =
    record { next = next; table = t; made = made; serials = serials; moving = moving; idle = idle; counters = counters; noted = noted }

-- before the first turn
abbrev pub crew_start : Head → List ℕ → List ℕ → Crew
crew_start h t counters = crew_at h.next t (replicate 16 0) (replicate 256 0) 0 0 counters (replicate 16 0)

-- an idle turn that left this next serial and this table
abbrev pub idled : ℕ → List ℕ → Crew → Crew
idled next t w = crew_at next t w.made w.serials w.moving (w.idle + 1) w.counters w.noted

-- a member's moves after one more
abbrev pub moved : List ℕ → ℕ → List ℕ
moved made m = set made m (get_or made m 0 + 1)

-- "Anything but a grant or release is an idle turn"
abbrev pub after_try : Outcome → ℕ → List ℕ → Crew → ℕ → ℕ → Crew
after_try (outcome.Granted l) next t w m k =
    crew_at next t (moved w.made m) (set w.serials k l.serial) (w.moving + 1) w.idle w.counters w.noted
after_try (outcome.Busy why) next t w m k = idled next t w
after_try (outcome.Refused r) next t w m k = idled next t w

-- "a member that has not yet held all its cells does one try_lock with no script on its next cell, after a health reading of that cell's header"
unfoldable pub try_turn_of : ℕ → ℕ → List ℕ → Crew → ℕ → ℕ → ℕ → Made Crew
try_turn_of headers buckets g w m k c =
    if is_poisoned g (header_of buckets c) then gives (idled w.next w.table w)
    else do
      note attempt_begun
      (l, (u, x)) ← lock_of (setting headers (headers * buckets) [] []) buckets (flow_of w.next 0 0) w.table g c
      gives (after_try l.answer l.flow.next u w m k)

-- whether a member has made as many moves as it has cells
abbrev pub is_full : List ℕ → List ℕ → ℕ → Bool
is_full counts made m = eqb (get_or made m 0) (count_of counts m)

-- "the value that its lowest cell's counter had when it came to hold all"
abbrev pub noted_at : Bool → List ℕ → List ℕ → ℕ → ℕ → List ℕ
noted_at full noted counters m low = if full then set noted m (get_or counters low 0) else noted

-- behind a try: if it was the take of the member's last cell, the member holds all, and that value is noted
unfoldable pub held_all_of : List ℕ → List ℕ → Crew → ℕ → Made Crew
held_all_of counts cells w m = do
  if is_full counts w.made m then note (held_all_lem m) else gives tt
  gives (crew_at w.next w.table w.made w.serials w.moving w.idle w.counters (noted_at (is_full counts w.made m) w.noted w.counters m (get_or cells (start_of counts m) 0)))

-- "to each it adds the value that its lowest cell's counter had when it came to hold all, and sums wrap at 65,536"
abbrev pub added_to : List ℕ → ℕ → ℕ → List ℕ
added_to counters c value = set counters c (summed_of (get_or counters c 0) value)

-- "Between holding all and releasing, a member spends one moving turn a cell"
unfoldable pub add_turn_of : Crew → ℕ → ℕ → Made Crew
add_turn_of w m c = do
  note (added m c (get_or w.noted m 0))
  gives (crew_at w.next w.table (moved w.made m) w.serials (w.moving + 1) w.idle (added_to w.counters c (get_or w.noted m 0)) w.noted)

-- "one that has held all releases the last it still holds and takes no more"
unfoldable pub release_turn_of : Crew → ℕ → ℕ → ℕ → Made Crew
release_turn_of w m k c = do
  note (released by_caller c (get_or w.serials k 0))
  gives (crew_at w.next (set_cell w.table c 0 0) (moved w.made m) w.serials (w.moving + 1) w.idle w.counters w.noted)

-- "one holding none after that, or with no cells, is finished and idles"; k is a place in the run of cells
unfoldable pub turn_of : Work → ℕ → ℕ → List ℕ → List ℕ → List ℕ → Crew → ℕ → Made Crew
turn_of work headers buckets g counts cells w m =
    let n = get_or w.made m 0 in
    let count = count_of counts m in
    let k = start_of counts m in
    if leb (moves_of work count) n then gives (idled w.next w.table w)
    else if ltb n count then (do
      v ← try_turn_of headers buckets g w m (k + n) (get_or cells (k + n) 0)
      held_all_of counts cells v m)
    else if ltb n (count + adds_of work count) then add_turn_of w m (get_or cells (k + (n - count)) 0)
    else release_turn_of w m (k + (moves_of work count - 1 - n)) (get_or cells (k + (moves_of work count - 1 - n)) 0)

unfoldable pub turns_of : Work → ℕ → ℕ → List ℕ → List ℕ → List ℕ → Crew → List ℕ → Made Crew
turns_of work headers buckets g counts cells w [] = gives w
turns_of work headers buckets g counts cells w (m ∷ ms) = do
  v ← turn_of work headers buckets g counts cells w m
  turns_of work headers buckets g counts cells v ms

-- ---- the call

-- "its answer gives, for each member, cells taken and cells released": sixteen places, 0 where there is no member
unfoldable pub taken_of : ℕ → ℕ → List ℕ → List ℕ → List ℕ
taken_of zero m counts made = []
taken_of (suc left) m counts made = min (get_or made m 0) (count_of counts m) ∷ taken_of left (m + 1) counts made

-- a member's releases come behind the moves of its work
unfoldable pub released_of : Work → ℕ → ℕ → List ℕ → List ℕ → List ℕ
released_of work zero m counts made = []
released_of work (suc left) m counts made = (get_or made m 0 - (count_of counts m + adds_of work (count_of counts m))) ∷ released_of work left (m + 1) counts made

-- a refused run: nobody moved
abbrev pub crew_refused : Head → Refusal → CrewReply
crew_refused h r = record { head = h; moving = 0; idle = 0; taken = replicate 16 0; released = replicate 16 0; answer = Refused r }

-- a run of turns, in either work: the reply, the table, the counters
unfoldable pub shift_of : Work → Head → List ℕ → List ℕ → List ℕ → List ℕ → List ℕ → List ℕ → Made (CrewReply × (List ℕ × List ℕ))
shift_of work h t g counts cells turns counters = do
  w ← turns_of work h.headers h.buckets g counts cells (crew_start h t counters) turns
  gives (
    record {
      head = spent_to h w.next;
      moving = w.moving;
      idle = w.idle;
      taken = taken_of 16 0 counts w.made;
      released = released_of work 16 0 counts w.made;
      answer = Done;
    },
    (w.table, w.counters),
  )

-- document 01's run: nothing between holding all and releasing, and no counters
unfoldable pub crew_of : Head → List ℕ → List ℕ → List ℕ → List ℕ → List ℕ → Made (CrewReply × List ℕ)
crew_of h t g counts cells turns =
    judge (first (crew_rules h t g counts cells turns)) (λ r. gives (crew_refused h r, t)) do
      (r, (u, x)) ← shift_of rests h t g counts cells turns []
      gives (r, u)

-- document 02's: "Give each cell a counter from 0 to 65,535 .., starting as the caller sets it"; a refusal leaves them
unfoldable pub crew_at_work_of : Head → List ℕ → List ℕ → List ℕ → List ℕ → List ℕ → List ℕ → Made (CrewReply × (List ℕ × List ℕ))
crew_at_work_of h t g counts cells turns counters =
    judge (first (crew_at_work_rules h t g counts cells turns counters)) (λ r. gives (crew_refused h r, (t, counters)))
    (shift_of adds h t g counts cells turns counters)

-- "in the order in which they came to hold all": read off the log
unfoldable pub order_of : List Event → List ℕ
order_of [] = []
order_of (attempt_begun ∷ es) = order_of es
order_of (boundary_run ∷ es) = order_of es
order_of (yielded ∷ es) = order_of es
order_of (spun ∷ es) = order_of es
order_of (step_dropped ∷ es) = order_of es
order_of (took a c s ∷ es) = order_of es
order_of (released a c s ∷ es) = order_of es
order_of (waiters_set c n ∷ es) = order_of es
order_of (health_set i n ∷ es) = order_of es
order_of (held_all_lem m ∷ es) = m ∷ order_of es
order_of (added m c v ∷ es) = order_of es
