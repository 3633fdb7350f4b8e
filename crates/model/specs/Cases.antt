-- Document 01, "Bench cases": the sentences marked *, as one computed list of (call, what must come out). `further` is a list of our own in
-- the same form, for slips that no marked sentence meets; `second_reading` has the sentences of document 02, L3, `reasons` those of L1 and
-- `at_work` those of L13, `booted` those of L8.
use Rattle.std.specs.Prelude.{ℕ, zero, suc, ◌≡◌, refl, List, [], ◌∷◌, ◌++◌, Bool, true, ◌&&◌, ◌||◌, eqb, get_or, replicate, if◌then◌else◌}
use Rattle.model.specs.Log.{Made, gives}
use Rattle.model.specs.Arena.{head_of, lease_of, hold_of, bit_at, owner_at, waiters_at, set_cell, set_waiters, is_free, is_held, state_of, state_at, is_live, leases_of, holds_of, words_of, same_hold, is_in, head_fits, shape_fits, health_fits, registry_fits}
use Rattle.model.specs.Refusals.{first}
use Rattle.model.specs.Answers.{refusal_in, kind_of, values_of, reason_in}
use Rattle.model.specs.Foreign.{step_take_of, step_release_of, step_waiters_of, step_health_of, step_of, run_steps_of, boundary_of}
use Rattle.model.specs.Lock.{answer_of, take_of, late_stage_of, second_stage_of, lock_of, find_of, attempt_of, spin_of, pause_of, none_yet, retry_of, settled, give_back_of, ended_of, rollback_of, after_key, locks_of}
use Rattle.model.specs.Checks.{not_live, bad_bindings, not_releasable, prepare_rules, cell_rules, lease_rules, held_cell_rules, held_lease_rules, script_rules, lock_rules, bucket_rules, release_rules, locks_rules}
use Rattle.model.specs.Calls.{script_reply, starting, given, prepare_of, acquire_of, try_acquire_of, drop_lease_of, read_permission_of, competing_acquire_of, release_then_handoff_of, foreign_release_of, acquire_preserving_of, drop_preserving_of, environment_of, try_lock_of, transactional_of, acquire_bucket_of, release_all_of, acquire_locks_of}
use Rattle.model.specs.Crew.{summed_of, total, start_of, all_within, rises_from, bad_lists, bad_turns, crew_rules, crew_at_work_rules, try_turn_of, held_all_of, add_turn_of, release_turn_of, turn_of, turns_of, taken_of, released_of, shift_of, crew_of, crew_at_work_of, order_of}
use Rattle.types.specs.declared.Answer.{Answer}
use Rattle.types.specs.declared.Answer.TheVariants as answer
use Rattle.types.specs.declared.Counts.{Counts}
use Rattle.types.specs.declared.CrewReply.{CrewReply}
use Rattle.types.specs.declared.Head.{Head}
use Rattle.types.specs.declared.Outcome.TheVariants as outcome
use Rattle.types.specs.declared.ScriptReply.{ScriptReply}
use Rattle.types.specs.declared.Reason.{Reason}
use Rattle.types.specs.declared.Reason.TheVariants as reason
use Rattle.types.specs.declared.Reply.{Reply}

-- ---- what came out of a call

pub record Out : Type 0 where
  pub answer : Answer
  pub head : Head
  pub at : ℕ
  pub counts : Counts
  pub turns : ℕ × ℕ
  pub table : List ℕ
  -- a lease: of the answer, or the first of the grant buffer
  pub lease : List ℕ
  -- of the crew at work; and the order in which members came to hold all
  pub counters : List ℕ
  pub order : List ℕ

abbrev no_counts : Counts
no_counts = record { attempts = 0; boundaries = 0; yields = 0; dropped = 0 }

abbrev from_reply : Made (Reply × List ℕ) → Out
from_reply m =
    let r = m.seen.0 in
    record { answer = r.answer; head = r.head; at = 0; counts = r.counts; turns = (0, 0); table = m.seen.1; lease = values_of r.answer; counters = []; order = [] }

-- a call that changes no word
abbrev from_read : Made Reply → Out
from_read m =
    let r = m.seen in
    record { answer = r.answer; head = r.head; at = 0; counts = r.counts; turns = (0, 0); table = []; lease = values_of r.answer; counters = []; order = [] }

abbrev from_script_reply : Made (ScriptReply × (List ℕ × List ℕ)) → Out
from_script_reply m =
    let r = m.seen.0 in
    record { answer = r.answer; head = r.head; at = r.place; counts = r.counts; turns = (0, 0); table = m.seen.1.0; lease = values_of r.answer; counters = []; order = [] }

abbrev from_locks : Made (ScriptReply × (List ℕ × (List ℕ × List ℕ))) → Out
from_locks m =
    let r = m.seen.0 in
    record { answer = r.answer; head = r.head; at = r.place; counts = r.counts; turns = (0, 0); table = m.seen.1.0; lease = m.seen.1.1.1; counters = []; order = [] }

abbrev from_crew : Made (CrewReply × List ℕ) → Out
from_crew m =
    let r = m.seen.0 in
    record { answer = r.answer; head = r.head; at = 0; counts = no_counts; turns = (r.moving, r.idle); table = m.seen.1; lease = []; counters = []; order = [] }

abbrev from_crew_at_work : Made (CrewReply × (List ℕ × List ℕ)) → Out
from_crew_at_work m =
    let r = m.seen.0 in
    record { answer = r.answer; head = r.head; at = 0; counts = no_counts; turns = (r.moving, r.idle); table = m.seen.1.0; lease = []; counters = m.seen.1.1; order = order_of m.log }

-- ---- the figures that a sentence gives

abbrev pub Figure : Type 0
Figure = (Out → ℕ) × ℕ

infix 70 ◌is◌
abbrev ◌is◌ : (Out → ℕ) → ℕ → Figure
x is n = (x, n)

abbrev granted : Out → ℕ
granted o = if eqb (kind_of o.answer) 2 || eqb (kind_of o.answer) 3 then 1 else 0

abbrev done : Out → ℕ
done o = if eqb (kind_of o.answer) 0 then 1 else 0

abbrev busy : Out → ℕ
busy o = if eqb (kind_of o.answer) 4 then 1 else 0

abbrev cell : Out → ℕ
cell o = get_or o.lease 0 0

abbrev serial : Out → ℕ
serial o = get_or o.lease 1 0

abbrev boot : Out → ℕ
boot o = get_or o.lease 2 0

abbrev refusal : Out → ℕ
refusal o = refusal_in o.answer

abbrev carries : Out → ℕ
carries o = get_or (values_of o.answer) 0 0

abbrev position : Out → ℕ
position o = get_or (values_of o.answer) 1 0

-- the reason: 1 held, 2 waiters before, 3 waiters after; and the serial that it gives
abbrev why : Out → ℕ
why o = get_or (reason_in o.answer) 0 0

abbrev by : Out → ℕ
by o = get_or (reason_in o.answer) 1 0

abbrev next : Out → ℕ
next o = o.head.next

abbrev head_headers : Out → ℕ
head_headers o = o.head.headers

abbrev head_buckets : Out → ℕ
head_buckets o = o.head.buckets

abbrev head_boot : Out → ℕ
head_boot o = o.head.boot

abbrev place : Out → ℕ
place o = o.at

abbrev attempts : Out → ℕ
attempts o = o.counts.attempts

abbrev boundaries : Out → ℕ
boundaries o = o.counts.boundaries

abbrev yields : Out → ℕ
yields o = o.counts.yields

abbrev dropped : Out → ℕ
dropped o = o.counts.dropped

abbrev moving : Out → ℕ
moving o = o.turns.0

abbrev idle : Out → ℕ
idle o = o.turns.1

abbrev bit : ℕ → Out → ℕ
bit c o = bit_at o.table c

abbrev owner : ℕ → Out → ℕ
owner c o = owner_at o.table c

abbrev counter : ℕ → Out → ℕ
counter c o = get_or o.counters c 0

-- the member that came to hold all as the so many-th
abbrev holder : ℕ → Out → ℕ
holder i o = get_or o.order i 99

-- ---- one statement for a list of cases: every figure of every call of it comes out

pub record Case : Type 0 where
  pub calls : List Out
  pub figures : List Figure

infix 60 ◌give◌
abbrev ◌give◌ : List Out → List Figure → Case
os give fs = record { calls = os; figures = fs }

abbrev agrees : List Figure → Out → Bool
agrees [] o = true
agrees (f ∷ fs) o = eqb (f.0 o) f.1 && agrees fs o

abbrev all_agree : List Figure → List Out → Bool
all_agree fs [] = true
all_agree fs (o ∷ os) = agrees fs o && all_agree fs os

abbrev pub every : List Case → Bool
every [] = true
every (k ∷ ks) = all_agree k.figures k.calls && every ks

-- ---- "Arena: H 2, B 4, registry 0, 1, 1, first serial 1, empty script unless said."; boot number 5

abbrev bench : ℕ → Head
bench next = head_of 2 4 next 5

-- prepared, from a table of rubbish
abbrev prepared : List ℕ
prepared = (prepare_of 2 4 1 5 (replicate 24 7) (replicate 2 7)).seen.1.0

abbrev healthy : List ℕ
healthy = (prepare_of 2 4 1 5 (replicate 24 7) (replicate 2 7)).seen.1.1

abbrev registry : List ℕ
registry = 0 ∷ 1 ∷ 1 ∷ []

-- a key by the calls that take one: multi-lock and `acquire_index_bucket`, with this next serial, table, health, script and held list
abbrev by_key_again : ℕ → List ℕ → List ℕ → List ℕ → List ℕ → ℕ → ℕ → List Out
by_key_again n t g script held binding bucket =
    from_script_reply (acquire_bucket_of (bench n) t g registry script 0 held binding bucket)
    ∷ from_locks (acquire_locks_of (bench n) t g registry script 0 held (binding ∷ bucket ∷ []) (9 ∷ 9 ∷ 9 ∷ []))
    ∷ []

-- and, where one attempt decides, `transactional_try_lock_bucket`
abbrev by_key_once : ℕ → List ℕ → List ℕ → List ℕ → ℕ → ℕ → List Out
by_key_once n t g script binding bucket =
    from_script_reply (transactional_of (bench n) t g registry script 0 [] binding bucket) ∷ by_key_again n t g script [] binding bucket

abbrev by_key : ℕ → List ℕ → List ℕ → ℕ → ℕ → List Out
by_key n t g binding bucket = by_key_once n t g [] binding bucket

abbrev by_keys : List ℕ → List ℕ → List ℕ → List Out
by_keys t keys grants = from_locks (acquire_locks_of (bench 1) t healthy registry [] 0 [] keys grants) ∷ []

abbrev try_lock : List ℕ → ℕ → List Out
try_lock script c = from_script_reply (try_lock_of (bench 1) prepared healthy script 0 [] c) ∷ []

abbrev crew : List ℕ → List ℕ → List ℕ → List Out
crew counts cells turns = from_crew (crew_of (bench 1) prepared healthy counts cells turns) ∷ []

-- ---- the marked sentences, in their order

abbrev pub cases : List Case
cases =
    -- "Key (0,2): cell 2, serial 1, next 2, attempts 1, boundaries 3."
    (by_key 1 prepared healthy 0 2 give (granted is 1 ∷ cell is 2 ∷ serial is 1 ∷ next is 2 ∷ attempts is 1 ∷ boundaries is 3 ∷ []))
    -- "`try_lock` of cell 2, script 5; 5; set waiters of 2 to 1; 5: Busy, boundaries 3, place 4, next 2, cell free." Document 02, L1: after, with
    -- the serial 1 that was spent
    ∷ (try_lock (5 ∷ 0 ∷ 0 ∷ 5 ∷ 0 ∷ 0 ∷ 3 ∷ 2 ∷ 1 ∷ 5 ∷ 0 ∷ 0 ∷ []) 2 give (busy is 1 ∷ why is 3 ∷ by is 1 ∷ boundaries is 3 ∷ place is 4 ∷ next is 2 ∷ bit 2 is 0 ∷ owner 2 is 0 ∷ []))
    -- "Bucket 4: refusal 8 carrying 4, boundaries 0."
    ∷ (by_key 1 prepared healthy 0 4 give (refusal is 8 ∷ carries is 4 ∷ boundaries is 0 ∷ []))
    -- "Bucket 3: cell 3."
    ∷ (by_key 1 prepared healthy 0 3 give (granted is 1 ∷ cell is 3 ∷ []))
    -- "Header 0 poisoned, bucket 4: refusal 7."
    ∷ (by_key 1 prepared (1 ∷ 0 ∷ []) 0 4 give (refusal is 7 ∷ []))
    -- "Next 4,294,967,295, cell free: refusal 10, boundaries 2."
    ∷ (by_key 4_294_967_295 prepared healthy 0 2 give (refusal is 10 ∷ boundaries is 2 ∷ []))
    -- "Next 4,294,967,294: granted."
    ∷ (by_key 4_294_967_294 prepared healthy 0 2 give (granted is 1 ∷ []))
    -- "Cell 2 held by foreign 1, script 5; 5; release (2,1); 5: serial 2, attempts 2, boundaries 6."
    ∷ (by_key_again 2 (set_cell prepared 2 1 1) healthy (5 ∷ 0 ∷ 0 ∷ 5 ∷ 0 ∷ 0 ∷ 2 ∷ 2 ∷ 1 ∷ 5 ∷ 0 ∷ 0 ∷ []) [] 0 2 give (granted is 1 ∷ serial is 2 ∷ attempts is 2 ∷ boundaries is 6 ∷ []))
    -- "No keys: granted, all counts 0."
    ∷ (by_keys prepared [] [] give (granted is 1 ∷ attempts is 0 ∷ boundaries is 0 ∷ yields is 0 ∷ dropped is 0 ∷ []))
    -- "Crew {2,5},{2,5}, turns 0,1 seven times: done, 8 moving, 6 idle, next 5."
    ∷ (crew (2 ∷ 2 ∷ []) (2 ∷ 5 ∷ 2 ∷ 5 ∷ []) (0 ∷ 1 ∷ 0 ∷ 1 ∷ 0 ∷ 1 ∷ 0 ∷ 1 ∷ 0 ∷ 1 ∷ 0 ∷ 1 ∷ 0 ∷ 1 ∷ []) give (done is 1 ∷ moving is 8 ∷ idle is 6 ∷ next is 5 ∷ []))
    -- "Crew {2,5},{5,2}: refusal 15, member 1."
    ∷ (crew (2 ∷ 2 ∷ []) (2 ∷ 5 ∷ 5 ∷ 2 ∷ []) [] give (refusal is 15 ∷ carries is 1 ∷ []))
    ∷ []

-- ---- further cases, for slips that no marked sentence meets

-- cells 0 and 2 held by serials 1 and 2, cell 5 waited for
abbrev used : List ℕ
used = set_waiters (set_cell (set_cell prepared 0 1 1) 2 1 2) 5 1

abbrev drop_lease : List ℕ → ℕ → ℕ → List Out
drop_lease t c s = from_reply (drop_lease_of (bench 3) t (lease_of c s 5)) ∷ []

abbrev try_acquire : List ℕ → ℕ → List Out
try_acquire t c = from_reply (try_acquire_of (bench 3) t c) ∷ []

abbrev boundary_by : List ℕ → List ℕ → List Out
boundary_by script held = from_script_reply (environment_of (bench 3) used healthy script 0 held) ∷ []

abbrev release_all : List ℕ → List Out
release_all leases = from_script_reply (release_all_of (bench 3) used healthy [] 0 leases) ∷ []

abbrev pub further : List Case
further =
    -- a rollback releases every lease taken, the last too, and leaves the buffer as it was
    (by_keys prepared (0 ∷ 0 ∷ 1 ∷ 1 ∷ 0 ∷ 9 ∷ []) (9 ∷ 8 ∷ 7 ∷ 9 ∷ 9 ∷ 9 ∷ 9 ∷ 9 ∷ 9 ∷ []) give (refusal is 8 ∷ carries is 9 ∷ position is 2 ∷ attempts is 3 ∷ boundaries is 8 ∷ next is 3 ∷ bit 0 is 0 ∷ bit 5 is 0 ∷ cell is 9 ∷ serial is 8 ∷ []))
    -- a foreign take with no serial left is dropped; the last serial is taken
    ∷ (from_script_reply (environment_of (bench 4_294_967_295) prepared healthy (1 ∷ 2 ∷ 0 ∷ []) 0 []) ∷ [] give (done is 1 ∷ dropped is 1 ∷ bit 2 is 0 ∷ next is 4_294_967_295 ∷ []))
    ∷ (from_script_reply (environment_of (bench 4_294_967_294) prepared healthy (1 ∷ 2 ∷ 0 ∷ []) 0 []) ∷ [] give (done is 1 ∷ dropped is 0 ∷ owner 2 is 4_294_967_294 ∷ next is 4_294_967_295 ∷ []))
    -- a release compares the serial, and clears bit and owner
    ∷ (drop_lease used 2 1 give (refusal is 12 ∷ carries is 0 ∷ bit 2 is 1 ∷ owner 2 is 2 ∷ []))
    ∷ (drop_lease used 2 2 give (done is 1 ∷ bit 2 is 0 ∷ owner 2 is 0 ∷ bit 0 is 1 ∷ next is 3 ∷ []))
    -- a lease whose cell is out of range is not live, and a serial of 0 never
    ∷ (drop_lease used 8 1 ++ drop_lease used 0 0 ++ drop_lease prepared 2 0 give (refusal is 12 ∷ []))
    -- damaged in each way: owner next, owner without a bit, a bit without an owner, a bit of 2
    ∷ (try_acquire (set_cell used 3 1 3) 3 ++ try_acquire (set_cell used 3 0 1) 3 ++ try_acquire (set_cell used 3 1 0) 3 ++ try_acquire (set_cell used 3 2 1) 3 give (refusal is 9 ∷ carries is 3 ∷ attempts is 1 ∷ next is 3 ∷ []))
    -- held, not by the newest serial only; free although waited for; out of range
    ∷ (try_acquire used 0 give (busy is 1 ∷ why is 1 ∷ by is 1 ∷ attempts is 1 ∷ next is 3 ∷ owner 0 is 1 ∷ []))
    ∷ (try_acquire used 5 give (granted is 1 ∷ cell is 5 ∷ serial is 3 ∷ next is 4 ∷ bit 5 is 1 ∷ owner 5 is 3 ∷ []))
    ∷ (try_acquire used 8 give (refusal is 8 ∷ carries is 8 ∷ attempts is 0 ∷ []))
    -- waiters are read before the cell
    ∷ (from_script_reply (try_lock_of (bench 3) used healthy [] 0 [] 5) ∷ [] give (busy is 1 ∷ why is 2 ∷ by is 0 ∷ attempts is 1 ∷ boundaries is 1 ∷ next is 3 ∷ []))
    -- steps: a take, a release by another serial, a protected release, a release, health 2, kind 6, a place out of range; nothing behind the 5
    ∷ (boundary_by (1 ∷ 3 ∷ 7 ∷ 2 ∷ 2 ∷ 1 ∷ 2 ∷ 0 ∷ 1 ∷ 2 ∷ 2 ∷ 2 ∷ 4 ∷ 0 ∷ 2 ∷ 6 ∷ 0 ∷ 0 ∷ 3 ∷ 8 ∷ 1 ∷ 0 ∷ 9 ∷ 9 ∷ 5 ∷ 9 ∷ 9 ∷ 1 ∷ 4 ∷ 0 ∷ []) (0 ∷ 1 ∷ 5 ∷ []) give (done is 1 ∷ dropped is 5 ∷ place is 9 ∷ boundaries is 1 ∷ next is 4 ∷ owner 3 is 3 ∷ bit 2 is 0 ∷ bit 0 is 1 ∷ bit 4 is 0 ∷ []))
    -- a place past the script's end
    ∷ (from_script_reply (environment_of (bench 3) used healthy (5 ∷ 0 ∷ 0 ∷ []) 2 []) ∷ [] give (refusal is 2 ∷ place is 2 ∷ boundaries is 0 ∷ []))
    -- a list to release: in order of position, 12 before 14 at one place
    ∷ (release_all (0 ∷ 1 ∷ 5 ∷ 0 ∷ 1 ∷ 5 ∷ 7 ∷ 7 ∷ 5 ∷ []) give (refusal is 14 ∷ carries is 1 ∷ bit 0 is 1 ∷ []))
    ∷ (release_all (0 ∷ 1 ∷ 5 ∷ 7 ∷ 7 ∷ 5 ∷ 0 ∷ 1 ∷ 5 ∷ []) give (refusal is 12 ∷ carries is 1 ∷ bit 0 is 1 ∷ []))
    ∷ (release_all (0 ∷ 1 ∷ 5 ∷ 2 ∷ 2 ∷ 5 ∷ []) give (done is 1 ∷ boundaries is 2 ∷ attempts is 0 ∷ bit 0 is 0 ∷ bit 2 is 0 ∷ next is 3 ∷ []))
    -- a held list: one that does not divide by three carries its count, else the first lease not live
    ∷ (boundary_by [] (0 ∷ 1 ∷ 5 ∷ 7 ∷ []) ++ boundary_by [] (0 ∷ 1 ∷ 5 ∷ 2 ∷ 2 ∷ []) give (refusal is 3 ∷ carries is 1 ∷ boundaries is 0 ∷ []))
    ∷ (boundary_by [] (0 ∷ 1 ∷ 5 ∷ 2 ∷ 1 ∷ 5 ∷ 7 ∷ 7 ∷ 5 ∷ []) give (refusal is 3 ∷ carries is 1 ∷ []))
    -- a held list and a registry that are one too long
    ∷ (boundary_by [] (replicate 195 7) give (refusal is 3 ∷ carries is 65 ∷ []))
    ∷ (from_script_reply (acquire_bucket_of (bench 3) used healthy (replicate 65 0) [] 0 [] 0 3) ∷ [] give (refusal is 1 ∷ attempts is 0 ∷ []))
    -- the small calls
    ∷ (from_read (read_permission_of (bench 3) (set_cell used 5 1 1) (lease_of 5 1 5)) ∷ [] give (carries is 5 ∷ refusal is 0 ∷ attempts is 0 ∷ next is 3 ∷ []))
    ∷ (from_reply (competing_acquire_of (bench 3) used (lease_of 2 2 5)) ∷ [] give (busy is 1 ∷ why is 1 ∷ by is 2 ∷ attempts is 1 ∷ owner 2 is 2 ∷ next is 3 ∷ []))
    ∷ (from_reply (release_then_handoff_of (bench 3) used (lease_of 2 2 5)) ∷ [] give (granted is 1 ∷ cell is 2 ∷ serial is 3 ∷ attempts is 1 ∷ next is 4 ∷ owner 2 is 3 ∷ []))
    ∷ (from_reply (foreign_release_of (bench 3) used (0 ∷ 1 ∷ 5 ∷ []) (lease_of 2 2 5)) ∷ [] give (granted is 1 ∷ serial is 3 ∷ attempts is 2 ∷ next is 4 ∷ []))
    ∷ (from_reply (foreign_release_of (bench 3) used (2 ∷ 2 ∷ 5 ∷ []) (lease_of 2 2 5)) ∷ from_reply (drop_preserving_of (bench 3) used (2 ∷ 2 ∷ 5 ∷ []) (lease_of 2 2 5)) ∷ [] give (refusal is 13 ∷ carries is 0 ∷ attempts is 0 ∷ owner 2 is 2 ∷ []))
    ∷ (from_reply (release_then_handoff_of (bench 4_294_967_295) used (lease_of 2 2 5)) ∷ [] give (refusal is 10 ∷ carries is 2 ∷ attempts is 1 ∷ bit 2 is 0 ∷ []))
    -- a crew: releases last first, so the second member gets cell 5 only when the first gave it back
    ∷ (crew (2 ∷ 1 ∷ []) (2 ∷ 5 ∷ 5 ∷ []) (0 ∷ 0 ∷ 1 ∷ 0 ∷ 1 ∷ []) give (moving is 4 ∷ idle is 1 ∷ owner 2 is 1 ∷ owner 5 is 3 ∷ next is 4 ∷ []))
    -- a list that names a cell twice does not rise
    ∷ (crew (1 ∷ 2 ∷ []) (5 ∷ 2 ∷ 2 ∷ []) [] give (refusal is 15 ∷ carries is 1 ∷ []))
    -- limits before lists, lists before turns
    ∷ (crew (2 ∷ 2 ∷ []) (2 ∷ 5 ∷ 5 ∷ []) (7 ∷ []) give (refusal is 15 ∷ carries is 0 ∷ []))
    ∷ (crew (1 ∷ 1 ∷ []) (2 ∷ 5 ∷ []) (1 ∷ 0 ∷ 2 ∷ []) give (refusal is 15 ∷ carries is 2 ∷ bit 2 is 0 ∷ []))
    ∷ []

-- ---- document 02, L3: health is read again after the third boundary. Cell 6 is of header 1, by division by B alone

-- steps of a script: the end of a boundary; header 1 poisoned, mended; cell 6 waited for; lease (6, 1) released
abbrev end : List ℕ
end = 5 ∷ 0 ∷ 0 ∷ []

abbrev poison : List ℕ
poison = 4 ∷ 1 ∷ 1 ∷ []

abbrev mend : List ℕ
mend = 4 ∷ 1 ∷ 0 ∷ []

abbrev wait : List ℕ
wait = 3 ∷ 6 ∷ 1 ∷ []

abbrev free : List ℕ
free = 2 ∷ 6 ∷ 1 ∷ []

-- one cell by a call by cell, in a health
abbrev try_lock_in : List ℕ → List ℕ → ℕ → List Out
try_lock_in g script c = from_script_reply (try_lock_of (bench 1) prepared g script 0 [] c) ∷ []

-- header 1 poisoned
abbrev sick : List ℕ
sick = 0 ∷ 1 ∷ []

abbrev pub second_reading : List Case
second_reading =
    -- poisoned in the third boundary. "If poisoned, release the lease and refuse with 7; the serial stays spent."
    -- "boundaries may now be 3"
    (by_key_once 1 prepared healthy (end ++ end ++ poison ++ end) 1 2 give (refusal is 7 ∷ carries is 1 ∷ attempts is 1 ∷ boundaries is 3 ∷ next is 2 ∷ bit 6 is 0 ∷ owner 6 is 0 ∷ []))
    -- "A call by cell reads the health of its cell's header there."
    ∷ (try_lock_in healthy (end ++ end ++ poison ++ end) 6 give (refusal is 7 ∷ carries is 1 ∷ attempts is 1 ∷ boundaries is 3 ∷ place is 4 ∷ next is 2 ∷ bit 6 is 0 ∷ owner 6 is 0 ∷ []))
    -- another header's health is not read
    ∷ (try_lock_in healthy (end ++ end ++ poison ++ end) 3 ++ by_key_once 1 prepared healthy (end ++ end ++ poison ++ end) 0 3 give (granted is 1 ∷ next is 2 ∷ owner 3 is 1 ∷ []))
    -- "before the waiters": poisoned and waited for at once is 7
    ∷ (try_lock_in healthy (end ++ end ++ poison ++ wait ++ end) 6 ++ by_key_once 1 prepared healthy (end ++ end ++ wait ++ poison ++ end) 1 2 give (refusal is 7 ∷ carries is 1 ∷ boundaries is 3 ∷ next is 2 ∷ bit 6 is 0 ∷ []))
    -- poisoned in the third boundary of a retry's second attempt, in its first boundary, and before it: 7 at once
    ∷ (by_key_again 2 (set_cell prepared 6 1 1) healthy (end ++ end ++ free ++ end ++ end ++ end ++ poison) [] 1 2 give (refusal is 7 ∷ carries is 1 ∷ attempts is 2 ∷ boundaries is 6 ∷ next is 3 ∷ bit 6 is 0 ∷ []))
    ∷ (by_key_again 2 (set_cell prepared 6 1 1) healthy (end ++ end ++ free ++ end ++ poison) [] 1 2 give (refusal is 7 ∷ carries is 1 ∷ attempts is 2 ∷ boundaries is 6 ∷ next is 3 ∷ bit 6 is 0 ∷ []))
    ∷ (by_key_again 2 (set_cell prepared 6 1 1) healthy (end ++ end ++ free ++ poison) [] 1 2 give (refusal is 7 ∷ carries is 1 ∷ attempts is 2 ∷ boundaries is 3 ∷ next is 2 ∷ bit 6 is 0 ∷ []))
    -- at the second key of multi-lock: the lease of the first is given back too, and both serials stay spent
    ∷ (from_locks (acquire_locks_of (bench 1) prepared healthy registry (end ++ end ++ end ++ end ++ end ++ poison) 0 [] (0 ∷ 2 ∷ 1 ∷ 2 ∷ []) (9 ∷ 8 ∷ 7 ∷ 9 ∷ 9 ∷ 9 ∷ [])) ∷ [] give (refusal is 7 ∷ carries is 1 ∷ position is 1 ∷ attempts is 2 ∷ boundaries is 7 ∷ next is 3 ∷ bit 2 is 0 ∷ bit 6 is 0 ∷ cell is 9 ∷ serial is 8 ∷ []))
    -- a header poisoned all along: a call by cell takes and runs all three boundaries, one by key reads it first
    ∷ (try_lock_in sick [] 6 give (refusal is 7 ∷ carries is 1 ∷ attempts is 1 ∷ boundaries is 3 ∷ next is 2 ∷ bit 6 is 0 ∷ owner 6 is 0 ∷ []))
    ∷ (by_key 1 prepared sick 1 2 give (refusal is 7 ∷ carries is 1 ∷ attempts is 1 ∷ boundaries is 0 ∷ next is 1 ∷ []))
    -- mended in the first boundary: too late for the first reading of a call by key, in time for a call by cell
    ∷ (by_key_once 1 prepared sick (mend ++ end) 1 2 give (refusal is 7 ∷ boundaries is 0 ∷ place is 0 ∷ next is 1 ∷ []))
    ∷ (try_lock_in sick (mend ++ end) 6 give (granted is 1 ∷ cell is 6 ∷ serial is 1 ∷ boundaries is 3 ∷ next is 2 ∷ owner 6 is 1 ∷ []))
    -- a Busy before the take ends the attempt before the reading: held after two boundaries, waited for after one
    ∷ (from_script_reply (try_lock_of (bench 3) used (1 ∷ 1 ∷ []) [] 0 [] 2) ∷ [] give (busy is 1 ∷ why is 1 ∷ by is 2 ∷ boundaries is 2 ∷ next is 3 ∷ []))
    ∷ (from_script_reply (try_lock_of (bench 3) used (1 ∷ 1 ∷ []) [] 0 [] 5) ∷ [] give (busy is 1 ∷ why is 2 ∷ boundaries is 1 ∷ next is 3 ∷ []))
    ∷ []

-- ---- document 02, L1: why it is Busy. Cells 0 and 2 are held by serials 1 and 2 in `used`

-- steps: cell 2 taken; its lease (2, 1) released; its waiters 1 and 0
abbrev take : List ℕ
take = 1 ∷ 2 ∷ 0 ∷ []

abbrev drop : List ℕ
drop = 2 ∷ 2 ∷ 1 ∷ []

abbrev come : List ℕ
come = 3 ∷ 2 ∷ 1 ∷ []

abbrev leave : List ℕ
leave = 3 ∷ 2 ∷ 0 ∷ []

-- the retry of `acquire_index_bucket` on cell 2, cut to so few attempts that it can be computed; the last reason is passed on as after 4,096
abbrev retried : ℕ → ℕ → List ℕ → List ℕ → List Out
retried left n t script =
    let m = retry_of left 0 none_yet (given (bench n) script []) 4 registry 0 2 (starting (bench n) 0) t healthy in
    from_script_reply (record { seen = (script_reply (bench n) m.seen.0.run (answer_of 5 (settled m.seen.0.outcome)), m.seen.1); log = m.log }) ∷ []

-- multi-lock at its key number 1, with cell 0 taken as its first: after attempts that were all Busy, the last for this reason
abbrev key_busy : Reason → List Out
key_busy why =
    let m = after_key (outcome.Busy why) (given (bench 3) [] []) (hold_of 0 1 ∷ []) 1 (starting (bench 3) 0) used healthy (9 ∷ 8 ∷ 7 ∷ 9 ∷ 9 ∷ 9 ∷ []) (λ l. gives (ended_of (starting (bench 3) 0) answer.Done, (used, (healthy, [])))) in
    from_locks (record { seen = (script_reply (bench 3) m.seen.0.run m.seen.0.answer, m.seen.1); log = m.log }) ∷ []

abbrev pub reasons : List Case
reasons =
    -- "held, with the owner's serial": the one that the compare-and-set saw, not the one that stood there before the boundaries
    (try_lock_in healthy (take ++ end) 2 ++ try_lock_in healthy (end ++ take ++ end) 2 give (busy is 1 ∷ why is 1 ∷ by is 1 ∷ boundaries is 2 ∷ next is 2 ∷ owner 2 is 1 ∷ []))
    ∷ (try_lock_in healthy (take ++ end ++ drop ++ take ++ end) 2 give (busy is 1 ∷ why is 1 ∷ by is 2 ∷ next is 3 ∷ owner 2 is 2 ∷ []))
    -- "waiters seen before the compare-and-set": they are looked at first, so a held cell with waiters says so too
    ∷ (try_lock_in healthy (come ++ end) 2 ++ try_lock_in healthy (take ++ come ++ end) 2 give (busy is 1 ∷ why is 2 ∷ by is 0 ∷ boundaries is 1 ∷ []))
    -- come in the second boundary, they are seen only after it
    ∷ (try_lock_in healthy (end ++ come ++ end) 2 give (busy is 1 ∷ why is 3 ∷ by is 1 ∷ boundaries is 3 ∷ next is 2 ∷ bit 2 is 0 ∷ []))
    -- "waiters seen after it. The last one also gives the serial that was spent": of this call, not the first of the arena
    ∷ (from_script_reply (try_lock_of (bench 3) used healthy (end ++ end ++ wait ++ end) 0 [] 6) ∷ [] give (busy is 1 ∷ why is 3 ∷ by is 3 ∷ next is 4 ∷ bit 6 is 0 ∷ []))
    -- the same by key
    ∷ (from_script_reply (transactional_of (bench 3) used healthy registry [] 0 [] 0 2) ∷ [] give (busy is 1 ∷ why is 1 ∷ by is 2 ∷ boundaries is 2 ∷ []))
    ∷ (from_script_reply (transactional_of (bench 3) used healthy registry (end ++ end ++ wait ++ end) 0 [] 1 2) ∷ [] give (busy is 1 ∷ why is 3 ∷ by is 3 ∷ boundaries is 3 ∷ []))
    -- a compare-and-set by itself
    ∷ (from_reply (acquire_preserving_of (bench 3) used (0 ∷ 1 ∷ 5 ∷ []) 2) ∷ [] give (busy is 1 ∷ why is 1 ∷ by is 2 ∷ []))
    -- "the reason of the last Busy attempt": held, then waited for; waited for, then held; waited for, then taken too late
    ∷ (retried 2 2 (set_cell prepared 2 1 1) (end ++ end ++ come ++ end) give (refusal is 11 ∷ carries is 4096 ∷ why is 2 ∷ by is 0 ∷ attempts is 2 ∷ boundaries is 5 ∷ []))
    ∷ (retried 2 2 (set_cell prepared 2 1 1) (come ++ end ++ leave ++ end) give (refusal is 11 ∷ why is 1 ∷ by is 1 ∷ attempts is 2 ∷ boundaries is 5 ∷ []))
    ∷ (retried 2 1 prepared (come ++ end ++ leave ++ end ++ end ++ end ++ come ++ end) give (refusal is 11 ∷ why is 3 ∷ by is 1 ∷ attempts is 2 ∷ next is 2 ∷ bit 2 is 0 ∷ []))
    -- a grant or another refusal after Busy attempts gives no reason
    ∷ (retried 2 2 (set_cell prepared 2 1 1) (end ++ end ++ drop ++ end) ++ by_key_again 2 (set_cell prepared 2 1 1) healthy (end ++ end ++ drop ++ end) [] 0 2 give (granted is 1 ∷ why is 0 ∷ by is 0 ∷ attempts is 2 ∷ []))
    ∷ (by_key_again 2 (set_cell prepared 6 1 1) healthy (end ++ end ++ free ++ poison) [] 1 2 give (refusal is 7 ∷ why is 0 ∷ by is 0 ∷ attempts is 2 ∷ []))
    -- multi-lock's 11 gives the reason of the key that it stops at
    ∷ (key_busy (reason.Held 2) give (refusal is 11 ∷ carries is 4096 ∷ position is 1 ∷ why is 1 ∷ by is 2 ∷ bit 0 is 0 ∷ []))
    ∷ (key_busy (reason.After 4) give (refusal is 11 ∷ position is 1 ∷ why is 3 ∷ by is 4 ∷ bit 0 is 0 ∷ []))
    ∷ []

-- ---- document 02, L13: the crew at work

-- "a counter from 0 to 65,535": two are so high that sums wrap
abbrev counters : List ℕ
counters = 0 ∷ 1 ∷ 40000 ∷ 3 ∷ 4 ∷ 60000 ∷ 6 ∷ 7 ∷ []

abbrev crew_at_work : List ℕ → List ℕ → List ℕ → List ℕ → List Out
crew_at_work counts cells turns lent = from_crew_at_work (crew_at_work_of (bench 1) prepared healthy counts cells turns lent) ∷ []

-- turns 0, 1 so many times
abbrev pairs : ℕ → List ℕ
pairs zero = []
pairs (suc n) = 0 ∷ 1 ∷ pairs n

abbrev pub at_work : List Case
at_work =
    -- "Document 01's crew case now needs eleven pairs of turns: 12 moving, 10 idle.": whole members one after another, 0 first
    (crew_at_work (2 ∷ 2 ∷ []) (2 ∷ 5 ∷ 2 ∷ 5 ∷ []) (pairs 11) counters give (done is 1 ∷ moving is 12 ∷ idle is 10 ∷ next is 5 ∷ bit 2 is 0 ∷ bit 5 is 0 ∷ counter 0 is 0 ∷ counter 2 is 28_928 ∷ counter 5 is 48_928 ∷ counter 7 is 7 ∷ []))
    -- ten are not enough: member 1 has yet to release cell 2
    ∷ (crew_at_work (2 ∷ 2 ∷ []) (2 ∷ 5 ∷ 2 ∷ 5 ∷ []) (pairs 10) counters give (done is 1 ∷ moving is 11 ∷ idle is 9 ∷ owner 2 is 3 ∷ bit 5 is 0 ∷ []))
    -- "Between holding all and releasing, a member spends one moving turn a cell, rising"
    ∷ (crew_at_work (2 ∷ []) (2 ∷ 5 ∷ []) (0 ∷ 0 ∷ []) counters give (moving is 2 ∷ bit 2 is 1 ∷ bit 5 is 1 ∷ counter 2 is 40_000 ∷ counter 5 is 60_000 ∷ []))
    ∷ (crew_at_work (2 ∷ []) (2 ∷ 5 ∷ []) (0 ∷ 0 ∷ 0 ∷ []) counters give (moving is 3 ∷ bit 2 is 1 ∷ bit 5 is 1 ∷ counter 2 is 14_464 ∷ counter 5 is 60_000 ∷ []))
    -- "to each it adds the value that its lowest cell's counter had when it came to hold all, and sums wrap at 65,536"
    ∷ (crew_at_work (2 ∷ []) (2 ∷ 5 ∷ []) (0 ∷ 0 ∷ 0 ∷ 0 ∷ []) counters give (moving is 4 ∷ bit 2 is 1 ∷ bit 5 is 1 ∷ counter 2 is 14_464 ∷ counter 5 is 34_464 ∷ []))
    -- then the releases, last first
    ∷ (crew_at_work (2 ∷ []) (2 ∷ 5 ∷ []) (0 ∷ 0 ∷ 0 ∷ 0 ∷ 0 ∷ []) counters give (moving is 5 ∷ bit 2 is 1 ∷ bit 5 is 0 ∷ []))
    -- a member with one cell doubles its counter, and is finished after three moves
    ∷ (crew_at_work (1 ∷ []) (2 ∷ []) (0 ∷ 0 ∷ 0 ∷ 0 ∷ []) counters give (done is 1 ∷ moving is 3 ∷ idle is 1 ∷ counter 2 is 14_464 ∷ counter 0 is 0 ∷ []))
    -- 65,535 and 1 make 0, 65,534 and 1 make 65,535
    ∷ (crew_at_work (3 ∷ []) (0 ∷ 1 ∷ 2 ∷ []) (0 ∷ 0 ∷ 0 ∷ 0 ∷ 0 ∷ 0 ∷ []) (1 ∷ 65_535 ∷ 65_534 ∷ 0 ∷ 0 ∷ 0 ∷ 0 ∷ 0 ∷ []) give (moving is 6 ∷ counter 0 is 2 ∷ counter 1 is 0 ∷ counter 2 is 65_535 ∷ []))
    -- "Members with no cells change nothing."
    ∷ (crew_at_work (0 ∷ 1 ∷ []) (5 ∷ []) (0 ∷ 0 ∷ 0 ∷ []) counters give (done is 1 ∷ moving is 0 ∷ idle is 3 ∷ next is 1 ∷ counter 0 is 0 ∷ counter 5 is 60_000 ∷ []))
    -- "not one a cell: BadShape": before 15, and also where there is one too many
    ∷ (crew_at_work (2 ∷ 2 ∷ []) (2 ∷ 5 ∷ 5 ∷ 2 ∷ []) [] (9 ∷ []) give (refusal is 1 ∷ carries is 0 ∷ counter 0 is 9 ∷ []))
    ∷ (crew_at_work (1 ∷ []) (2 ∷ []) [] (9 ∷ 9 ∷ 9 ∷ 9 ∷ 9 ∷ 9 ∷ 9 ∷ 9 ∷ 9 ∷ []) give (refusal is 1 ∷ carries is 0 ∷ counter 8 is 9 ∷ []))
    -- a refusal leaves the counters
    ∷ (crew_at_work (2 ∷ 2 ∷ []) (2 ∷ 5 ∷ 5 ∷ 2 ∷ []) (pairs 11) counters give (refusal is 15 ∷ carries is 1 ∷ bit 2 is 0 ∷ counter 2 is 40_000 ∷ counter 5 is 60_000 ∷ []))
    -- the value noted is of the moment of holding all: member 1 waits for cell 5, and member 0 adds to it before
    ∷ (crew_at_work (2 ∷ 1 ∷ []) (2 ∷ 5 ∷ 5 ∷ []) (0 ∷ 0 ∷ 1 ∷ 0 ∷ 0 ∷ 0 ∷ 1 ∷ 1 ∷ 1 ∷ 0 ∷ []) counters give (moving is 9 ∷ idle is 1 ∷ next is 4 ∷ counter 2 is 14_464 ∷ counter 5 is 3_392 ∷ []))
    -- "in the order in which they came to hold all": member 1 is finished first, and member 0 held all first; it is named once
    ∷ (crew_at_work (2 ∷ 1 ∷ []) (2 ∷ 5 ∷ 5 ∷ []) (0 ∷ 0 ∷ 0 ∷ 0 ∷ 0 ∷ 1 ∷ 1 ∷ 1 ∷ 0 ∷ []) counters give (moving is 9 ∷ holder 0 is 0 ∷ holder 1 is 1 ∷ holder 2 is 99 ∷ []))
    ∷ []

-- ---- document 02, L8: a boot number in every lease. Cells 0 and 2 are held by serials 1 and 2 in `used`, and the arena's boot number is 5

-- a preparation with these numbers, on a table of rubbish
abbrev preparing : ℕ → ℕ → ℕ → ℕ → List Out
preparing headers buckets serial b =
    let m = prepare_of headers buckets serial b (replicate 24 7) (replicate 2 7) in
    from_reply (record { seen = (m.seen.0, m.seen.1.0); log = m.log }) ∷ []

-- a lease with this boot number to a call that takes one
abbrev drop_stale : ℕ → ℕ → ℕ → List Out
drop_stale c s b = from_reply (drop_lease_of (bench 3) used (lease_of c s b)) ∷ []

-- the other calls that take one lease, without a held list
abbrev by_lease : ℕ → ℕ → ℕ → List Out
by_lease c s b =
    from_reply (competing_acquire_of (bench 3) used (lease_of c s b))
    ∷ from_reply (release_then_handoff_of (bench 3) used (lease_of c s b))
    ∷ []

-- with a held list
abbrev by_held : List ℕ → ℕ → ℕ → ℕ → List Out
by_held held c s b =
    from_reply (foreign_release_of (bench 3) used held (lease_of c s b))
    ∷ from_reply (drop_preserving_of (bench 3) used held (lease_of c s b))
    ∷ []

abbrev pub booted : List Case
booted =
    -- "preparing takes it", and a grant has it
    (from_reply (try_acquire_of (prepare_of 2 4 1 6 prepared healthy).seen.0.head prepared 2) ∷ [] give (granted is 1 ∷ cell is 2 ∷ serial is 1 ∷ boot is 6 ∷ next is 2 ∷ head_boot is 6 ∷ []))
    ∷ (by_key 1 prepared healthy 0 2 ++ try_lock [] 2 give (granted is 1 ∷ boot is 5 ∷ head_boot is 5 ∷ []))
    -- "(refused: four zeros)"
    ∷ (preparing 0 4 1 6 ++ preparing 2 4 0 6 give (refusal is 1 ∷ head_headers is 0 ∷ head_buckets is 0 ∷ next is 0 ∷ head_boot is 0 ∷ bit 2 is 7 ∷ []))
    -- live but for its boot number: 16, and nothing changes
    ∷ (drop_stale 2 2 6 ++ drop_stale 2 2 0 ++ by_lease 2 2 4 ++ by_held (0 ∷ 1 ∷ 5 ∷ []) 2 2 6 give (refusal is 16 ∷ carries is 0 ∷ attempts is 0 ∷ next is 3 ∷ bit 2 is 1 ∷ owner 2 is 2 ∷ head_boot is 5 ∷ []))
    ∷ (from_read (read_permission_of (bench 3) used (lease_of 2 2 6)) ∷ [] give (refusal is 16 ∷ carries is 0 ∷ next is 3 ∷ []))
    -- stale and dead: 16, not 12
    ∷ (drop_stale 2 1 6 ++ drop_stale 8 1 6 ++ by_held [] 2 1 6 give (refusal is 16 ∷ carries is 0 ∷ owner 2 is 2 ∷ []))
    -- in a held list, at position 1 behind a live one; a dead one before it is 3, and at one place 16 comes before 3
    ∷ (boundary_by [] (0 ∷ 1 ∷ 5 ∷ 2 ∷ 2 ∷ 6 ∷ []) ++ boundary_by [] (0 ∷ 1 ∷ 5 ∷ 2 ∷ 1 ∷ 6 ∷ []) ++ by_held (0 ∷ 1 ∷ 5 ∷ 2 ∷ 2 ∷ 6 ∷ []) 0 1 5 give (refusal is 16 ∷ carries is 1 ∷ boundaries is 0 ∷ next is 3 ∷ bit 0 is 1 ∷ []))
    ∷ (boundary_by [] (0 ∷ 2 ∷ 5 ∷ 2 ∷ 2 ∷ 6 ∷ []) give (refusal is 3 ∷ carries is 0 ∷ []))
    -- a lease of the held list but for its boot number: 16, not 13
    ∷ (by_held (0 ∷ 1 ∷ 5 ∷ []) 0 1 6 give (refusal is 16 ∷ carries is 0 ∷ bit 0 is 1 ∷ []))
    -- the held list before the lease
    ∷ (by_held (0 ∷ 1 ∷ 5 ∷ 2 ∷ 1 ∷ 5 ∷ []) 2 2 6 give (refusal is 3 ∷ carries is 1 ∷ []))
    -- in a list to release: before 12 and 14 at its place, behind them at an earlier one
    ∷ (release_all (0 ∷ 1 ∷ 5 ∷ 2 ∷ 1 ∷ 6 ∷ []) ++ release_all (0 ∷ 1 ∷ 5 ∷ 0 ∷ 1 ∷ 6 ∷ []) give (refusal is 16 ∷ carries is 1 ∷ bit 0 is 1 ∷ boundaries is 0 ∷ []))
    ∷ (release_all (0 ∷ 2 ∷ 5 ∷ 2 ∷ 2 ∷ 6 ∷ []) give (refusal is 12 ∷ carries is 0 ∷ []))
    ∷ (release_all (0 ∷ 1 ∷ 5 ∷ 0 ∷ 1 ∷ 5 ∷ 2 ∷ 2 ∷ 6 ∷ []) give (refusal is 14 ∷ carries is 1 ∷ []))
    -- "Lease lists must now divide by three": two words are 3, with a count of 0, and 4; a stale lease behind a wrong length is not looked at
    ∷ (boundary_by [] (0 ∷ 1 ∷ []) ++ by_held (0 ∷ 1 ∷ []) 2 2 6 give (refusal is 3 ∷ carries is 0 ∷ []))
    ∷ (boundary_by [] (0 ∷ 1 ∷ 6 ∷ 0 ∷ []) give (refusal is 3 ∷ carries is 1 ∷ []))
    ∷ (release_all (0 ∷ 1 ∷ []) ++ release_all (0 ∷ 1 ∷ 6 ∷ 0 ∷ []) give (refusal is 4 ∷ carries is 0 ∷ bit 0 is 1 ∷ []))
    -- a stale held lease before 4: the length test of its own list comes first, no other
    ∷ (from_locks (acquire_locks_of (bench 3) used healthy registry [] 0 (0 ∷ 1 ∷ 6 ∷ []) (0 ∷ []) []) ∷ [] give (refusal is 16 ∷ carries is 0 ∷ []))
    -- "the grant buffer has three words a key"; a key stays two
    ∷ (by_keys prepared (0 ∷ 2 ∷ []) (9 ∷ 9 ∷ []) ++ by_keys prepared (0 ∷ 2 ∷ 5 ∷ []) (9 ∷ 9 ∷ 9 ∷ []) give (refusal is 4 ∷ carries is 0 ∷ attempts is 0 ∷ []))
    -- boot number 0 is as good as any
    ∷ (from_reply (drop_lease_of (head_of 2 4 3 0) used (lease_of 2 2 0)) ∷ [] give (done is 1 ∷ bit 2 is 0 ∷ []))
    ∷ (from_reply (try_acquire_of (head_of 2 4 3 0) used 3) ∷ [] give (granted is 1 ∷ boot is 0 ∷ head_boot is 0 ∷ []))
    ∷ (from_reply (drop_lease_of (head_of 2 4 3 0) used (lease_of 2 2 5)) ∷ [] give (refusal is 16 ∷ bit 2 is 1 ∷ []))
    -- "Script steps mean the head's own boot number": a release of (2, 2), which has no word for another
    ∷ (boundary_by (2 ∷ 2 ∷ 2 ∷ []) [] give (done is 1 ∷ dropped is 0 ∷ bit 2 is 0 ∷ []))
    ∷ []

-- every figure of every case holds of the definitions
pub cases_hold : (every cases ≡ true) × (every further ≡ true) × (every second_reading ≡ true) × (every reasons ≡ true) × (every at_work ≡ true) × (every booted ≡ true)
unfolding bit_at owner_at waiters_at set_cell set_waiters is_free is_held state_of state_at is_live leases_of holds_of words_of same_hold is_in head_fits shape_fits health_fits registry_fits first step_take_of step_release_of step_waiters_of step_health_of step_of run_steps_of boundary_of take_of late_stage_of second_stage_of lock_of find_of attempt_of spin_of pause_of retry_of give_back_of rollback_of locks_of not_live bad_bindings not_releasable prepare_rules cell_rules lease_rules held_cell_rules held_lease_rules script_rules lock_rules bucket_rules release_rules locks_rules prepare_of acquire_of try_acquire_of drop_lease_of read_permission_of competing_acquire_of release_then_handoff_of foreign_release_of acquire_preserving_of drop_preserving_of environment_of try_lock_of transactional_of acquire_bucket_of release_all_of acquire_locks_of total start_of all_within rises_from bad_lists bad_turns crew_rules try_turn_of release_turn_of turn_of turns_of taken_of released_of crew_of summed_of crew_at_work_rules held_all_of add_turn_of shift_of crew_at_work_of order_of
cases_hold = (refl, refl, refl, refl, refl, refl)
