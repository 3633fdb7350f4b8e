-- The crew's steps as the code makes them: a turn by numbers, what the loop over turns hands back, and the reply made of that.
use Rattle.std.specs.Prelude.{ℕ, ◌+◌, ◌-◌, ◌/◌, List, Bool, true, false, ltb, eqb, get_or, set, if◌then◌else◌}
use Rattle.model.specs.Arena.{spent_to, set_cell}
use Rattle.model.specs.Foreign.{flow_of}
use Rattle.model.specs.Crew.{Work, rests, adds, adds_of, moves_of, Crew, crew_at, crew_start, moved, noted_at, added_to, turns_of, taken_of, released_of}
use Rattle.types.specs.declared.Answer.TheVariants.{Done}
use Rattle.types.specs.declared.CrewReply.{CrewReply}
use Rattle.types.specs.declared.Head.{Head}
use Rattle.types.specs.declared.Locked.{Locked}
use Rattle.types.specs.declared.Outcome.{Outcome}
use Rattle.types.specs.declared.Outcome.TheVariants as outcome
use Rattle.lock.specs.Model.{quiet_lock_of}
use Rattle.crew.specs.declared.Move.{Move}
use Rattle.crew.specs.declared.Move.TheVariants as move
use Rattle.crew.specs.declared.Worked.{Worked}

-- where in the run of cells a member's move number n is: takes in order, then adds in order, then releases, last first
unfoldable pub place_of : Work → ℕ → ℕ → ℕ → ℕ
place_of work start n count =
    if ltb n count then start + n
    else if ltb n (count + adds_of work count) then start + (n - count)
    else start + (moves_of work count - 1 - n)

-- a grant moves; anything else is idle
abbrev pub move_for : Outcome → ℕ → Move
move_for (outcome.Granted l) next = move.Took next l.serial
move_for (outcome.Busy why) next = move.Idle
move_for (outcome.Refused r) next = move.Idle

abbrev pub move_by : Locked × List ℕ → Move × List ℕ
move_by o = (move_for o.0.answer o.0.flow.next, o.1)

unfoldable pub try_move_of : ℕ → List ℕ → ℕ → Move × List ℕ
try_move_of next t c = move_by (quiet_lock_of (flow_of next 0 0) t c)

-- one turn of an unfinished member, on a cell
unfoldable pub make_move_of : ℕ → ℕ → List ℕ → List ℕ → Bool → ℕ → Move × List ℕ
make_move_of next buckets t g taking c =
    if taking then (if eqb (get_or g (c / buckets) 0) 0 then try_move_of next t c else (move.Idle, t))
    else (move.Moved, set_cell t c 0 0)

-- ---- the same in either work

abbrev pub work_by : Bool → Work
work_by true = adds
work_by false = rests

abbrev pub beside : List ℕ → Move × List ℕ → Move × (List ℕ × List ℕ)
beside counters o = (o.0, (o.1, counters))

-- one turn of an unfinished member that has made n moves, on cell c; `value` is what is noted for it
unfoldable pub work_move_of : Work → ℕ → ℕ → List ℕ → List ℕ → List ℕ → ℕ → ℕ → ℕ → ℕ → Move × (List ℕ × List ℕ)
work_move_of work next buckets t g counters n count c value =
    if ltb n count then beside counters (make_move_of next buckets t g true c)
    else if ltb n (count + adds_of work count) then (move.Moved, (t, added_to counters c value))
    else beside counters (make_move_of next buckets t g false c)

-- what stands noted for a member behind a take
unfoldable pub note_of : Bool → ℕ → List ℕ → ℕ → ℕ
note_of full before counters low = if full then get_or counters low 0 else before

-- the values noted after a move: only the take of the last cell notes one
abbrev pub noted_by : Move → Bool → List ℕ → List ℕ → ℕ → ℕ → List ℕ
noted_by move.Idle full noted counters m low = noted
noted_by (move.Took next s) full noted counters m low = noted_at full noted counters m low
noted_by move.Moved full noted counters m low = noted

-- the crew after a move of member m at place k that left this table, these counters and these noted values
abbrev pub after : Move → List ℕ → List ℕ → List ℕ → Crew → ℕ → ℕ → Crew
after move.Idle t x ns w m k = crew_at w.next t w.made w.serials w.moving (w.idle + 1) x ns
after (move.Took next s) t x ns w m k = crew_at next t (moved w.made m) (set w.serials k s) (w.moving + 1) w.idle x ns
after move.Moved t x ns w m k = crew_at w.next t (moved w.made m) w.serials (w.moving + 1) w.idle x ns

-- ---- all turns, and the reply

abbrev pub handed : Crew → Worked × (List ℕ × List ℕ)
handed w = (record { next = w.next; moving = w.moving; idle = w.idle; made = w.made }, (w.table, w.counters))

unfoldable pub take_turns_of : Work → Head → List ℕ → List ℕ → List ℕ → List ℕ → List ℕ → List ℕ → Worked × (List ℕ × List ℕ)
take_turns_of work h t g counts cells turns counters = handed (turns_of work h.headers h.buckets g counts cells (crew_start h t counters) turns).seen

unfoldable pub finish_of : Work → Head → List ℕ → Worked → CrewReply
finish_of work h counts k =
    record {
      head = spent_to h k.next;
      moving = k.moving;
      idle = k.idle;
      taken = taken_of 16 0 counts k.made;
      released = released_of work 16 0 counts k.made;
      answer = Done;
    }

unfoldable pub crew_run_of : Work → Head → List ℕ → List ℕ → List ℕ → List ℕ → List ℕ → List ℕ → CrewReply × (List ℕ × List ℕ)
crew_run_of work h t g counts cells turns counters = let o = take_turns_of work h t g counts cells turns counters in (finish_of work h counts o.0, o.1)
