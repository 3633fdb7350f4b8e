-- Wrong builds: answering functions of the calls' own types, each wrong in one thing. "Slips to be ruled out" and "Idle builds the promises must
-- reject" of document 01, slips that document 02, L1, L3, L4 and L8, invite, slips of definitions that an earlier set of theorems let pass, and slips of the log
-- alone. `Falls` and `Crews` prove that each fails `Meets` of crate `pinned`, or what stands beside it. Where nothing else is said a build does as ours does.
use Rattle.std.specs.Prelude.{ℕ, zero, suc, ◌+◌, ◌-◌, ◌/◌, ◌%◌, List, [], ◌∷◌, ◌++◌, reverse, ◌||◌, ◌&&◌, ltb, leb, eqb, length, get_or, replicate, if◌then◌else◌}
use Rattle.model.specs.Log.{Made, Event, by_caller, by_script, attempt_begun, boundary_run, yielded, spun, step_dropped, took, released, waiters_set, health_set, held_all_lem, added, gives, note, ◌>>=◌, ◌>>◌}
use Rattle.model.specs.Arena.{head_of, spent_to, lease_of, leases_of, holds_of, words_of, owner_at, set_cell, set_waiters, hold_in, lease_under}
use Rattle.model.specs.Refusals.{Rule, number_of, carried_of, first, judge}
use Rattle.model.specs.Answers.{kind_of, refusal_in}
use Rattle.model.specs.Foreign.{Setting, boundary_of}
use Rattle.model.specs.Lock.{run_of, attempt_of, attempt_limit, none_yet, spin_of, is_busy, last_of, tried_of, answer_of, settled}
use Rattle.model.specs.Checks.{stale_boot, too_many_leases}
use Rattle.model.specs.Calls.{counts_of, given, starting}
use Rattle.model.specs.Sorted.{cells_asked, cells_sorted, first_asking}
use Rattle.model.specs.Crew.{total, crew_of}
use Rattle.types.specs.declared.Answer.{Answer}
use Rattle.types.specs.declared.Answer.TheVariants.{Done, Cell, Granted, AllGranted, Busy, Refused, RefusedAt}
use Rattle.types.specs.declared.Counts.{Counts}
use Rattle.types.specs.declared.CrewReply.{CrewReply}
use Rattle.types.specs.declared.Head.{Head}
use Rattle.types.specs.declared.Hold.{Hold}
use Rattle.types.specs.declared.Lease.{Lease}
use Rattle.types.specs.declared.Outcome.TheVariants as outcome
use Rattle.types.specs.declared.Reason.{Reason}
use Rattle.types.specs.declared.Reason.TheVariants as reason
use Rattle.types.specs.declared.Refusal.TheVariants as refusal
use Rattle.types.specs.declared.Run.{Run}
use Rattle.types.specs.declared.Tried.{Tried}
use Rattle.history.specs.World.{World, world_of, now, caller_releases}
use Rattle.history.specs.Items.{Call, try_acquire, drop_lease, read_permission, competing_acquire, release_then_handoff, foreign_release, drop_preserving, acquire_preserving, environment, try_lock, transactional, acquire_bucket, release_all, acquire_locks, acquire_sorted, crew, crew_at_work, asked, cell_of, script_of, place_of, held_of, given_up, Says, says, unchanged, perform, foreign, Build, Stepper}
use Rattle.history.specs.Statements.{CrewBuild, scripted}

-- ---- the same with another answer, and the like

abbrev pub answering : (Says → Answer) → Made (World × Says) → Made (World × Says)
answering f m = let s = m.seen.1 in record { seen = (m.seen.0, says (f s) s.counts s.place s.grants); log = m.log }

abbrev pub counting : Counts → Made (World × Says) → Made (World × Says)
counting c m = let s = m.seen.1 in record { seen = (m.seen.0, says s.answer c s.place s.grants); log = m.log }

abbrev pub placing : ℕ → Made (World × Says) → Made (World × Says)
placing p m = let s = m.seen.1 in record { seen = (m.seen.0, says s.answer s.counts p s.grants); log = m.log }

abbrev pub leaving : World → Made (World × Says) → Made (World × Says)
leaving w m = record { seen = (w, m.seen.1); log = m.log }

-- ---- document 01, "Idle builds the promises must reject"

-- "A build that only refuses"
abbrev pub only_refuses : Build
only_refuses w k = record { seen = (w, says (Refused refusal.BadShape) (counts_of 0 0 0 0) (place_of k) []); log = [] }

-- "or is always Busy"
abbrev pub always_busy : Build
always_busy w k = record { seen = (w, says (Busy reason.Before) (counts_of 1 0 0 0) (place_of k) []); log = attempt_begun ∷ [] }

-- "One grant for all"
abbrev pub one_for_all : Build
one_for_all w k = record { seen = (w, says (Granted (lease_of 0 1 w.head.boot)) (counts_of 0 0 0 0) (place_of k) []); log = [] }

-- "One that writes nothing"
abbrev pub writes_nothing : Build
writes_nothing w k = leaving w (perform w k)

-- "One that takes the first key and feigns the rest": made-up leases on the other keys' cells
unfoldable pub feigned : (buckets boot : ℕ) (registry : List ℕ) (serial : ℕ) (keys : List ℕ) → List ℕ
feigned buckets boot registry s [] = []
feigned buckets boot registry s (b ∷ []) = []
feigned buckets boot registry s (b ∷ k ∷ keys) = cell_of buckets registry b k ∷ s ∷ boot ∷ feigned buckets boot registry (s + 1) keys

abbrev pub first_key_only : World → (registry script : List ℕ) (place : ℕ) (held keys grants : List ℕ) → Made (World × Says)
first_key_only w registry script place held [] grants = perform w (acquire_locks registry script place held [] grants)
first_key_only w registry script place held (b ∷ []) grants = perform w (acquire_locks registry script place held (b ∷ []) grants)
first_key_only w registry script place held (b ∷ k ∷ keys) grants =
    let m = perform w (acquire_locks registry script place held (b ∷ k ∷ []) (0 ∷ 0 ∷ 0 ∷ [])) in
    let s = m.seen.1 in
    record { seen = (m.seen.0, says s.answer s.counts s.place (s.grants ++ feigned w.head.buckets w.head.boot registry m.seen.0.head.next keys)); log = m.log }

-- "Counts made up"
abbrev pub counts_made_up : Build
counts_made_up w k = counting (counts_of 7 7 7 7) (perform w k)

-- ---- document 01, "Slips to be ruled out"

-- "giving the serial back after a late Busy"
abbrev pub one_fewer : World → World
one_fewer w = world_of (spent_to w.head (w.head.next - 1)) w.table w.health

abbrev pub if_late : Answer → List Hold → World → World
if_late (Busy why) (l ∷ ls) w = one_fewer w
if_late (Busy why) [] w = w
if_late Done ls w = w
if_late (Cell c) ls w = w
if_late (Granted l) ls w = w
if_late AllGranted ls w = w
if_late (Refused r) ls w = w
if_late (RefusedAt r p) ls w = w

abbrev pub serial_given_back : Build
serial_given_back w k = let m = perform w k in leaving (if_late m.seen.1.answer (caller_releases m.log) m.seen.0) m

-- "a rollback that skips the last lease": of a multi-lock that is refused the first release by the caller never happens
unfoldable pub skipping : List Event → List Event
skipping [] = []
skipping (attempt_begun ∷ es) = attempt_begun ∷ skipping es
skipping (boundary_run ∷ es) = boundary_run ∷ skipping es
skipping (yielded ∷ es) = yielded ∷ skipping es
skipping (spun ∷ es) = spun ∷ skipping es
skipping (step_dropped ∷ es) = step_dropped ∷ skipping es
skipping (took a c s ∷ es) = took a c s ∷ skipping es
skipping (released by_caller c s ∷ es) = es
skipping (released by_script c s ∷ es) = released by_script c s ∷ skipping es
skipping (waiters_set c n ∷ es) = waiters_set c n ∷ skipping es
skipping (health_set i n ∷ es) = health_set i n ∷ skipping es
skipping (held_all_lem m ∷ es) = held_all_lem m ∷ skipping es
skipping (added m c v ∷ es) = added m c v ∷ skipping es

abbrev pub skipped : World → Made (World × Says) → Answer → Made (World × Says)
skipped w m (RefusedAt r p) = record { seen = (now w (skipping m.log), m.seen.1); log = skipping m.log }
skipped w m Done = m
skipped w m (Cell c) = m
skipped w m (Granted l) = m
skipped w m AllGranted = m
skipped w m (Busy why) = m
skipped w m (Refused r) = m

abbrev pub rollback_skips : Build
rollback_skips w k = let m = perform w k in skipped w m m.seen.1.answer

-- "yielding at remainder 0", or at another remainder than 63: `pause_of` and `retry_of` of the model, but for that number
unfoldable pub pause_at : ℕ → Setting → ℕ → Run → List ℕ → List ℕ → Made (Run × (List ℕ × List ℕ))
pause_at remainder e i r t g =
    if eqb (i % 64) remainder then (do
      (f, (u, w)) ← boundary_of e r.flow t g
      note yielded
      spin_of e (run_of f r.attempts (r.boundaries + 1) (r.yields + 1)) u w)
    else spin_of e r t g

unfoldable pub retry_at : ℕ → ℕ → ℕ → Reason → Setting → ℕ → List ℕ → ℕ → ℕ → Run → List ℕ → List ℕ → Made (Tried × (List ℕ × List ℕ))
retry_at remainder zero i last e buckets registry binding bucket r t g = gives (tried_of r (outcome.Busy last), (t, g))
retry_at remainder (suc left) i last e buckets registry binding bucket r t g = do
  (k, (u, w)) ← attempt_of e buckets registry binding bucket r t g
  if is_busy k.outcome then (do
    (p, (v, x)) ← pause_at remainder e i k.run u w
    retry_at remainder left (i + 1) (last_of last k.outcome) e buckets registry binding bucket p v x)
      else gives (k, (u, w))

abbrev pub retries_at : ℕ → World → (registry script : List ℕ) (place : ℕ) (held : List ℕ) (binding bucket : ℕ) → Made (World × Says)
retries_at remainder w registry script place held binding bucket = do
  (k, (t, g)) ← retry_at remainder attempt_limit 0 none_yet (given w.head script (holds_of held)) w.head.buckets registry binding bucket (starting w.head place) w.table w.health
  gives (
    world_of (spent_to w.head k.run.flow.next) t g,
    says (answer_of w.head.boot (settled k.outcome)) (counts_of k.run.attempts k.run.boundaries k.run.yields k.run.flow.dropped) k.run.flow.place [],
  )

-- ---- by kind of call: one of them done otherwise

abbrev pub others : (drop : World → Lease → Made (World × Says)) (key once : World → (registry script : List ℕ) (place : ℕ) (held : List ℕ) (binding bucket : ℕ) → Made (World × Says))
    (releases : World → (script : List ℕ) (place : ℕ) (leases : List ℕ) → Made (World × Says)) (locks sorted : World → (registry script : List ℕ) (place : ℕ) (held keys grants : List ℕ) → Made (World × Says)) → Build
others drop key once releases locks sorted w (try_acquire c) = perform w (try_acquire c)
others drop key once releases locks sorted w (drop_lease l) = drop w l
others drop key once releases locks sorted w (read_permission l) = perform w (read_permission l)
others drop key once releases locks sorted w (competing_acquire l) = perform w (competing_acquire l)
others drop key once releases locks sorted w (release_then_handoff l) = perform w (release_then_handoff l)
others drop key once releases locks sorted w (foreign_release held l) = perform w (foreign_release held l)
others drop key once releases locks sorted w (drop_preserving held l) = perform w (drop_preserving held l)
others drop key once releases locks sorted w (acquire_preserving held c) = perform w (acquire_preserving held c)
others drop key once releases locks sorted w (environment script place held) = perform w (environment script place held)
others drop key once releases locks sorted w (try_lock script place held c) = perform w (try_lock script place held c)
others drop key once releases locks sorted w (transactional registry script place held binding bucket) = once w registry script place held binding bucket
others drop key once releases locks sorted w (acquire_bucket registry script place held binding bucket) = key w registry script place held binding bucket
others drop key once releases locks sorted w (release_all script place leases) = releases w script place leases
others drop key once releases locks sorted w (acquire_locks registry script place held keys grants) = locks w registry script place held keys grants
others drop key once releases locks sorted w (acquire_sorted registry script place held keys grants) = sorted w registry script place held keys grants
others drop key once releases locks sorted w (crew counts cells turns) = perform w (crew counts cells turns)
others drop key once releases locks sorted w (crew_at_work counts cells turns counters) = perform w (crew_at_work counts cells turns counters)

abbrev pub our_drop : World → Lease → Made (World × Says)
our_drop w l = perform w (drop_lease l)

abbrev pub our_key : World → (registry script : List ℕ) (place : ℕ) (held : List ℕ) (binding bucket : ℕ) → Made (World × Says)
our_key w registry script place held binding bucket = perform w (acquire_bucket registry script place held binding bucket)

abbrev pub our_once : World → (registry script : List ℕ) (place : ℕ) (held : List ℕ) (binding bucket : ℕ) → Made (World × Says)
our_once w registry script place held binding bucket = perform w (transactional registry script place held binding bucket)

abbrev pub our_releases : World → (script : List ℕ) (place : ℕ) (leases : List ℕ) → Made (World × Says)
our_releases w script place leases = perform w (release_all script place leases)

abbrev pub our_locks : World → (registry script : List ℕ) (place : ℕ) (held keys grants : List ℕ) → Made (World × Says)
our_locks w registry script place held keys grants = perform w (acquire_locks registry script place held keys grants)

abbrev pub our_sorted : World → (registry script : List ℕ) (place : ℕ) (held keys grants : List ℕ) → Made (World × Says)
our_sorted w registry script place held keys grants = perform w (acquire_sorted registry script place held keys grants)

abbrev pub feigns_the_rest : Build
feigns_the_rest = others our_drop our_key our_once our_releases first_key_only our_sorted

abbrev pub yields_at : ℕ → Build
yields_at remainder = others our_drop (retries_at remainder) our_once our_releases our_locks our_sorted

-- "testing the bucket before health"
abbrev pub bucket_first : Build
bucket_first =
    others our_drop our_key
    (λ w registry script place held binding bucket. if leb w.head.buckets bucket then
    record { seen = (w, says (Refused (refusal.InvalidBucket bucket)) (counts_of 1 0 0 0) place []); log = attempt_begun ∷ [] }
    else our_once w registry script place held binding bucket)
    our_releases our_locks our_sorted

-- "freeing by cell without comparing the serial"
abbrev pub frees_by_cell : Build
frees_by_cell =
    others (λ w l. record { seen = (world_of w.head (set_cell w.table l.cell 0 0) w.health, says Done (counts_of 0 0 0 0) 0 []); log = released by_caller l.cell l.serial ∷ [] })
    our_key our_once our_releases our_locks our_sorted

-- ---- document 02, L4: "lock in rising order, then hand back one lease per key in the caller's order, doubled keys sharing one."

-- multi-lock in the caller's order, in place of the sorted one
abbrev pub as_typed : Build
as_typed = others our_drop our_key our_once our_releases our_locks our_locks

-- granted, a lease of its own for each key, doubled or not: its cell, and the serials one after the other
abbrev pub if_granted : Answer → List ℕ → List ℕ → List ℕ
if_granted AllGranted own ours = own
if_granted Done own ours = ours
if_granted (Cell c) own ours = ours
if_granted (Granted l) own ours = ours
if_granted (Busy why) own ours = ours
if_granted (Refused r) own ours = ours
if_granted (RefusedAt r p) own ours = ours

abbrev pub own_leases : Build
own_leases =
    others our_drop our_key our_once our_releases our_locks λ w registry script place held keys grants.
    let m = our_sorted w registry script place held keys grants in
    let s = m.seen.1 in
    let own = feigned w.head.buckets w.head.boot registry w.head.next keys in
    record { seen = (m.seen.0, says s.answer s.counts s.place (if_granted s.answer own s.grants)); log = m.log }

-- a later refusal, not with 6 or 8, with the cell's place in the sorted list, in place of the caller's position
abbrev pub by_sorted : (asked sorted : List ℕ) → Answer → Answer
by_sorted asked sorted (RefusedAt r p) = RefusedAt r (if eqb (number_of r) 6 || eqb (number_of r) 8 then p else first_asking sorted (get_or asked p 0))
by_sorted asked sorted Done = Done
by_sorted asked sorted (Cell c) = Cell c
by_sorted asked sorted (Granted l) = Granted l
by_sorted asked sorted AllGranted = AllGranted
by_sorted asked sorted (Busy why) = Busy why
by_sorted asked sorted (Refused r) = Refused r

abbrev pub sorted_position : Build
sorted_position =
    others our_drop our_key our_once our_releases our_locks λ w registry script place held keys grants.
    let b = w.head.buckets in
    answering (λ s. by_sorted (cells_asked b registry keys) (cells_sorted b registry keys) s.answer) (our_sorted w registry script place held keys grants)

-- ---- document 02, L3: "A header went bad before the grant, and the governor wrote into it."

-- what is done otherwise where a call answers 7 after a take: `f` of the lease that it releases first
abbrev pub at_seven : (Hold → Made (World × Says)) → List Hold → Made (World × Says) → Made (World × Says)
at_seven f [] m = m
at_seven f (l ∷ ls) m = if eqb (refusal_in m.seen.1.answer) 7 then f l else m

-- health read once: the lease is kept and granted
abbrev pub reads_once : Build
reads_once w k =
    let m = perform w k in
    let s = m.seen.1 in
    at_seven (λ l. record { seen = (now w (skipping m.log), says (Granted (lease_under w.head.boot l)) s.counts s.place s.grants); log = skipping m.log }) (caller_releases m.log) m

-- "refuse with 7", and the lease is not released
abbrev pub keeps_at_seven : Build
keeps_at_seven w k =
    let m = perform w k in
    at_seven (λ l. record { seen = (now w (skipping m.log), m.seen.1); log = skipping m.log }) (caller_releases m.log) m

-- "the serial stays spent": it is given back
abbrev pub serial_back_at_seven : Build
serial_back_at_seven w k = let m = perform w k in at_seven (λ l. leaving (one_fewer m.seen.0) m) (caller_releases m.log) m

-- ---- document 02, L1: "held, with the owner's serial; waiters seen before the compare-and-set; waiters seen after it."

-- Busy for another reason
abbrev pub reworded : (Reason → Reason) → Answer → Answer
reworded f Done = Done
reworded f (Cell c) = Cell c
reworded f (Granted l) = Granted l
reworded f AllGranted = AllGranted
reworded f (Busy why) = Busy (f why)
reworded f (Refused r) = Refused r
reworded f (RefusedAt r p) = RefusedAt r p

-- before and after exchanged: where no serial was spent it gives the next one
abbrev pub exchanged : ℕ → Reason → Reason
exchanged next (reason.Held s) = reason.Held s
exchanged next reason.Before = reason.After next
exchanged next (reason.After s) = reason.Before

abbrev pub exchanges_reasons : Build
exchanges_reasons w k = answering (λ s. reworded (exchanged w.head.next) s.answer) (perform w k)

-- the caller's next serial in place of the owner's
abbrev pub held_by : ℕ → Reason → Reason
held_by next (reason.Held s) = reason.Held next
held_by next reason.Before = reason.Before
held_by next (reason.After s) = reason.After s

abbrev pub names_next : Build
names_next w k = answering (λ s. reworded (held_by w.head.next) s.answer) (perform w k)

-- ---- document 02, L8: "A lease with another boot number is refused", and a grant has the head's

-- the leases in a list of words, all with this boot number
unfoldable pub rebooted : ℕ → List ℕ → List ℕ
rebooted boot [] = []
rebooted boot (c ∷ []) = c ∷ []
rebooted boot (c ∷ s ∷ []) = c ∷ s ∷ []
rebooted boot (c ∷ s ∷ b ∷ ws) = c ∷ s ∷ boot ∷ rebooted boot ws

abbrev pub with_boot : ℕ → Lease → Lease
with_boot boot l = lease_under boot (hold_in l)

-- a lease is tested by its cell and serial alone: whatever boot number it has, it is taken for one of this boot
abbrev pub ignoring_boot : ℕ → Call → Call
ignoring_boot b (try_acquire c) = try_acquire c
ignoring_boot b (drop_lease l) = drop_lease (with_boot b l)
ignoring_boot b (read_permission l) = read_permission (with_boot b l)
ignoring_boot b (competing_acquire l) = competing_acquire (with_boot b l)
ignoring_boot b (release_then_handoff l) = release_then_handoff (with_boot b l)
ignoring_boot b (foreign_release held l) = foreign_release (rebooted b held) (with_boot b l)
ignoring_boot b (drop_preserving held l) = drop_preserving (rebooted b held) (with_boot b l)
ignoring_boot b (acquire_preserving held c) = acquire_preserving (rebooted b held) c
ignoring_boot b (environment script place held) = environment script place (rebooted b held)
ignoring_boot b (try_lock script place held c) = try_lock script place (rebooted b held) c
ignoring_boot b (transactional registry script place held binding bucket) = transactional registry script place (rebooted b held) binding bucket
ignoring_boot b (acquire_bucket registry script place held binding bucket) = acquire_bucket registry script place (rebooted b held) binding bucket
ignoring_boot b (release_all script place leases) = release_all script place (rebooted b leases)
ignoring_boot b (acquire_locks registry script place held keys grants) = acquire_locks registry script place (rebooted b held) keys grants
ignoring_boot b (acquire_sorted registry script place held keys grants) = acquire_sorted registry script place (rebooted b held) keys grants
ignoring_boot b (crew counts cells turns) = crew counts cells turns
ignoring_boot b (crew_at_work counts cells turns counters) = crew_at_work counts cells turns counters

abbrev pub ignores_boot : Build
ignores_boot w k = perform w (ignoring_boot w.head.boot k)

-- it refuses such a lease, but as one that is not live
abbrev pub as_not_held : Answer → Answer
as_not_held Done = Done
as_not_held (Cell c) = Cell c
as_not_held (Granted l) = Granted l
as_not_held AllGranted = AllGranted
as_not_held (Busy why) = Busy why
as_not_held (Refused r) = if eqb (number_of r) 16 then Refused (refusal.NotHeld 0) else Refused r
as_not_held (RefusedAt r p) = RefusedAt r p

abbrev pub twelve_for_sixteen : Build
twelve_for_sixteen w k = answering (λ s. as_not_held s.answer) (perform w k)

-- and a dead lease of this boot as one of another
abbrev pub as_stale : Answer → Answer
as_stale Done = Done
as_stale (Cell c) = Cell c
as_stale (Granted l) = Granted l
as_stale AllGranted = AllGranted
as_stale (Busy why) = Busy why
as_stale (Refused r) = if eqb (number_of r) 12 then Refused (refusal.StaleBoot (carried_of r)) else Refused r
as_stale (RefusedAt r p) = RefusedAt r p

abbrev pub sixteen_for_twelve : Build
sixteen_for_twelve w k = answering (λ s. as_stale s.answer) (perform w k)

-- `release_all` tests all boot numbers of its list before it asks of any lease whether it is live: 16 at a later position before 12 at an earlier one
unfoldable pub other_boots : Head → ℕ → List Lease → List Rule
other_boots h i [] = []
other_boots h i (l ∷ ls) = stale_boot h i l ∷ other_boots h (i + 1) ls

abbrev pub boots_first : Build
boots_first =
    others our_drop our_key our_once
    (λ w script place leases.
    judge (first (scripted w script place ++ (too_many_leases leases ∷ other_boots w.head 0 (leases_of leases)))) (unchanged w (release_all script place leases))
    (our_releases w script place leases))
    our_locks our_sorted

-- grants with boot number 0, and so in the buffer
abbrev pub without_boot : Answer → Answer
without_boot Done = Done
without_boot (Cell c) = Cell c
without_boot (Granted l) = Granted (with_boot 0 l)
without_boot AllGranted = AllGranted
without_boot (Busy why) = Busy why
without_boot (Refused r) = Refused r
without_boot (RefusedAt r p) = RefusedAt r p

abbrev pub boot_zero : Build
boot_zero w k =
    let m = perform w k in
    let s = m.seen.1 in
    record { seen = (m.seen.0, says (without_boot s.answer) s.counts s.place (if_granted s.answer (rebooted 0 s.grants) s.grants)); log = m.log }

-- the head that a call hands back has boot number 0
abbrev pub loses_boot : Build
loses_boot w k =
    let m = perform w k in
    let v = m.seen.0 in
    leaving (world_of (head_of v.head.headers v.head.buckets v.head.next 0) v.table v.health) m

-- ---- slips of definitions that no theorem caught once

-- a `try_lock` of a held cell answers Granted with the present owner's lease
abbrev pub granting : Lease → Answer → Answer
granting l Done = Done
granting l (Cell c) = Cell c
granting l (Granted k) = Granted k
granting l AllGranted = AllGranted
granting l (Busy why) = Granted l
granting l (Refused r) = Refused r
granting l (RefusedAt r p) = RefusedAt r p

abbrev pub owners_lease : Build
owners_lease w k = answering (λ s. granting (lease_of (asked w k) (owner_at w.table (asked w k)) w.head.boot) s.answer) (perform w k)

-- `acquire_index_bucket` answers 10 in place of 11
abbrev pub ten : Answer → Answer
ten Done = Done
ten (Cell c) = Cell c
ten (Granted k) = Granted k
ten AllGranted = AllGranted
ten (Busy why) = Busy why
ten (Refused r) = if eqb (number_of r) 11 then Refused (refusal.SerialsSpent 0) else Refused r
ten (RefusedAt r p) = RefusedAt r p

abbrev pub ten_for_eleven : Build
ten_for_eleven w k = answering (λ s. ten s.answer) (perform w k)

-- multi-lock never moves its script's place
abbrev pub place_stays : Build
place_stays w k = placing (place_of k) (perform w k)

-- ---- as ours, but for the calls of one kind

-- a number for each kind of call
abbrev pub kind : Call → ℕ
kind (try_acquire c) = 0
kind (drop_lease l) = 1
kind (read_permission l) = 2
kind (competing_acquire l) = 3
kind (release_then_handoff l) = 4
kind (foreign_release held l) = 5
kind (drop_preserving held l) = 6
kind (acquire_preserving held c) = 7
kind (environment script place held) = 8
kind (try_lock script place held c) = 9
kind (transactional registry script place held binding bucket) = 10
kind (acquire_bucket registry script place held binding bucket) = 11
kind (release_all script place leases) = 12
kind (acquire_locks registry script place held keys grants) = 13
kind (acquire_sorted registry script place held keys grants) = 14
kind (crew counts cells turns) = 15
kind (crew_at_work counts cells turns counters) = 16

abbrev pub but_for : ℕ → (World → Call → Made (World × Says) → Made (World × Says)) → Build
but_for n f w k = if eqb (kind k) n then f w k (perform w k) else perform w k

-- `drop_preserving_borrows` frees the cell and sets its waiters to 1: from then on it is Busy for everybody
abbrev pub waited_for : List Hold → World → World
waited_for [] w = w
waited_for (l ∷ ls) w = world_of w.head (set_waiters w.table l.cell 1) w.health

abbrev pub leaves_a_waiter : Build
leaves_a_waiter = but_for 6 λ w k m. if eqb (kind_of m.seen.1.answer) 0 then leaving (waited_for (given_up k) m.seen.0) m else m

-- a `try_lock` whose third boundary ran ten steps or more refuses a healthy unwaited cell with 7
abbrev pub third_begins : World → Call → ℕ
third_begins w k =
    let held = words_of w.head.boot (held_of k) in
    let x = perform w (environment (script_of k) (place_of k) held) in
    (perform x.seen.0 (environment (script_of k) x.seen.1.place held)).seen.1.place

abbrev pub seven_after_ten : Build
seven_after_ten =
    but_for 9 λ w k m.
    let v = m.seen.0 in
    if eqb (kind_of m.seen.1.answer) 2 && leb 10 (m.seen.1.place - third_begins w k)
    then leaving (world_of v.head (set_cell v.table (asked w k) 0 0) v.health) (answering (λ s. Refused (refusal.Poisoned (asked w k / w.head.buckets))) m)
    else m

-- the sorted call tells a later 9 as 10
abbrev pub nine_to_ten : Answer → Answer
nine_to_ten (RefusedAt r p) = if eqb (number_of r) 9 then RefusedAt (refusal.SerialsSpent (carried_of r)) p else RefusedAt r p
nine_to_ten Done = Done
nine_to_ten (Cell c) = Cell c
nine_to_ten (Granted l) = Granted l
nine_to_ten AllGranted = AllGranted
nine_to_ten (Busy why) = Busy why
nine_to_ten (Refused r) = Refused r

abbrev pub nine_as_ten : Build
nine_as_ten = but_for 14 λ w k m. answering (λ s. nine_to_ten s.answer) m

-- more than 33 headers are refused
abbrev pub few_headers : Build
few_headers w k = if ltb 33 w.head.headers then unchanged w k refusal.BadShape else perform w k

-- `transactional_try_lock_bucket` refuses a registry of 64 entries
abbrev pub sixty_three : Build
sixty_three =
    others our_drop our_key
    (λ w registry script place held binding bucket.
    if ltb 63 (length registry) then unchanged w (transactional registry script place held binding bucket) refusal.BadShape else our_once w registry script place held binding bucket)
    our_releases our_locks our_sorted

-- ---- wrong in the log alone: what is seen is ours

abbrev pub relogged : (List Event → List Event) → Made (World × Says) → Made (World × Says)
relogged f m = record { seen = m.seen; log = f m.log }

-- `drop_lease` notes its release as the script's
abbrev pub as_script : List Hold → List Event → List Event
as_script ls [] = []
as_script [] (e ∷ es) = e ∷ es
as_script (l ∷ ls) (e ∷ es) = released by_script l.cell l.serial ∷ []

abbrev pub blames_the_script : Build
blames_the_script = but_for 1 λ w k m. relogged (as_script (given_up k)) m

-- `environment` notes its boundary behind its steps, and the steps backwards
abbrev pub notes_backwards : Build
notes_backwards = but_for 8 λ w k m. relogged reverse m

-- `try_lock` begins two attempts and counts one
abbrev pub begins_twice : Build
begins_twice = but_for 9 λ w k m. relogged (λ es. attempt_begun ∷ es) m

-- a spin after each call of `acquire_index_bucket`: spins are not counted
abbrev pub spins_once_more : Build
spins_once_more = but_for 11 λ w k m. relogged (λ es. es ++ (spun ∷ [])) m

-- the crew's log is empty
abbrev pub silent_crew : Build
silent_crew = but_for 15 λ w k m. relogged (λ es. []) m

-- ---- a lone step, and crews

-- a legal foreign take dropped at the last serial
abbrev pub spares_last : Stepper
spares_last w kind place number =
    if eqb w.head.next 4_294_967_294 then record { seen = w; log = step_dropped ∷ [] } else foreign w kind place number

-- an unfinished crew gives sevens for taken and released
abbrev pub sevens : CrewReply → CrewReply
sevens r = record { head = r.head; moving = r.moving; idle = r.idle; taken = replicate 16 7; released = replicate 16 7; answer = r.answer }

abbrev pub sevens_unfinished : CrewBuild
sevens_unfinished h t g counts cells turns =
    let m = crew_of h t g counts cells turns in
    if eqb (total m.seen.0.released) (total counts) then m else record { seen = (sevens m.seen.0, m.seen.1); log = m.log }

-- ---- "a crew that moves one member": turns of others are idle

unfoldable pub first_only : List ℕ → List ℕ
first_only [] = []
first_only (m ∷ ms) = if eqb m 0 then m ∷ first_only ms else first_only ms

abbrev pub moves_one : CrewBuild
moves_one h t g counts cells turns =
    let m = crew_of h t g counts cells (first_only turns) in
    let r = m.seen.0 in
    record {
      seen = (record { head = r.head; moving = r.moving; idle = r.idle + (length turns - length (first_only turns)); taken = r.taken; released = r.released; answer = r.answer }, m.seen.1);
      log = m.log;
    }
