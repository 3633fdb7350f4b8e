-- Document 01, "The steps of a lock", with document 02, L1 and L3. They test nothing that a call has tested; the calls are in
-- `Calls`.
use Rattle.std.specs.Prelude.{ℕ, zero, suc, ◌+◌, ◌*◌, ◌%◌, List, [], ◌∷◌, ◌++◌, Bool, true, false, leb, eqb, length, get_or, take, if◌then◌else◌, Ok, Err}
use Rattle.types.specs.Checks.{Found}
use Rattle.model.specs.Log.{Made, by_caller, attempt_begun, yielded, spun, took, released, gives, note, ◌>>=◌, ◌>>◌}
use Rattle.model.specs.Arena.{serial_remains, cell_number, header_of, is_poisoned, waiters_at, set_cell, state_at, hold_of, lease_under, words_of}
use Rattle.model.specs.Foreign.{Setting, protecting, flow_of, boundary_of}
use Rattle.types.specs.declared.Answer.{Answer}
use Rattle.types.specs.declared.Answer.TheVariants as answer
use Rattle.types.specs.declared.Ended.{Ended}
use Rattle.types.specs.declared.Flow.{Flow}
use Rattle.types.specs.declared.Hold.{Hold}
use Rattle.types.specs.declared.Locked.{Locked}
use Rattle.types.specs.declared.Outcome.{Outcome}
use Rattle.types.specs.declared.Outcome.TheVariants as outcome
use Rattle.types.specs.declared.Reason.{Reason}
use Rattle.types.specs.declared.Reason.TheVariants as reason
use Rattle.types.specs.declared.Refusal.{Refusal}
use Rattle.types.specs.declared.Refusal.TheVariants as refusal
use Rattle.types.specs.declared.Run.{Run}
use Rattle.types.specs.declared.State.{State}
use Rattle.types.specs.declared.State.TheVariants as state
use Rattle.types.specs.declared.Take.{Take}
use Rattle.types.specs.declared.Take.TheVariants as taking
use Rattle.types.specs.declared.Took.{Took}
use Rattle.types.specs.declared.Tried.{Tried}

-- ---- `try_acquire`: one compare-and-set

abbrev pub took_of : ℕ → Take → Took
took_of next a = record { next = next; answer = a }

-- "in order, damaged: Damaged; held: Busy; no serial: SerialsSpent; else the cell gets bit 1 and the next serial, and next rises by 1."
-- Document 02, L1: "held, with the owner's serial"
abbrev pub take_in : State → ℕ → List ℕ → ℕ → Made (Took × List ℕ)
take_in state.Damaged next t c = gives (took_of next taking.Damaged, t)
take_in (state.Held owner) next t c = gives (took_of next (taking.Busy owner), t)
take_in state.Free next t c =
    if serial_remains next then (do
      note (took by_caller c next)
      gives (took_of (next + 1) (taking.Granted next), set_cell t c 1 next))
    else gives (took_of next taking.Spent, t)

unfoldable pub take_of : ℕ → List ℕ → ℕ → Made (Took × List ℕ)
take_of next t c = take_in (state_at next t c) next t c

-- what a compare-and-set on a cell comes to; 9 and 10 carry the cell
abbrev pub outcome_of : ℕ → Take → Outcome
outcome_of c (taking.Granted s) = outcome.Granted (hold_of c s)
outcome_of c (taking.Busy owner) = outcome.Busy (reason.Held owner)
outcome_of c taking.Damaged = outcome.Refused (refusal.Damaged c)
outcome_of c taking.Spent = outcome.Refused (refusal.SerialsSpent c)

-- ---- `try_lock`, a definition for each stage, each ending in the next

abbrev pub locked_of : Flow → ℕ → Outcome → Locked
locked_of f boundaries o = record { flow = f; boundaries = boundaries; answer = o }

-- the new lease released after the third boundary. "The serial of a lease so released stays spent."
abbrev pub give_up_of : Outcome → Flow → List ℕ → List ℕ → ℕ → ℕ → Made (Locked × (List ℕ × List ℕ))
give_up_of o f t g c s = do
  note (released by_caller c s)
  gives (locked_of f 3 o, (set_cell t c 0 0, g))

-- "boundary (protecting the new lease); waiters not 0: release it, Busy; else granted." Document 02, L3, of health:
-- "Read it again after the third boundary, before the waiters. If poisoned, release the lease and refuse with 7; the
-- serial stays spent." "A call by cell reads the health of its cell's header there." L1: "waiters seen after it. The last one also gives the serial
-- that was spent."
unfoldable pub late_stage_of : Setting → ℕ → Flow → List ℕ → List ℕ → ℕ → ℕ → Made (Locked × (List ℕ × List ℕ))
late_stage_of e buckets f t g c s = do
  (k, (u, w)) ← boundary_of (protecting e (hold_of c s ∷ [])) f t g
  if is_poisoned w (header_of buckets c) then give_up_of (outcome.Refused (refusal.Poisoned (header_of buckets c))) k u w c s
      else if eqb (waiters_at u c) 0 then gives (locked_of k 3 (outcome.Granted (hold_of c s)), (u, w))
      else give_up_of (outcome.Busy (reason.After s)) k u w c s

-- after try_acquire: a grant goes on, anything else ends the try_lock after two boundaries
abbrev pub after_take : Take → Setting → ℕ → Flow → List ℕ → List ℕ → ℕ → Made (Locked × (List ℕ × List ℕ))
after_take (taking.Granted s) e buckets f t g c = late_stage_of e buckets f t g c s
after_take (taking.Busy owner) e buckets f t g c = gives (locked_of f 2 (outcome_of c (taking.Busy owner)), (t, g))
after_take taking.Damaged e buckets f t g c = gives (locked_of f 2 (outcome_of c taking.Damaged), (t, g))
after_take taking.Spent e buckets f t g c = gives (locked_of f 2 (outcome_of c taking.Spent), (t, g))

-- "boundary; try_acquire"
unfoldable pub second_stage_of : Setting → ℕ → Flow → List ℕ → List ℕ → ℕ → Made (Locked × (List ℕ × List ℕ))
second_stage_of e buckets f t g c = do
  (k, (u, w)) ← boundary_of e f t g
  (a, v) ← take_of k.next u c
  after_take a.answer e buckets (flow_of a.next k.place k.dropped) v w c

-- "boundary; waiters not 0: Busy". Document 02, L1: "waiters seen before the compare-and-set"
unfoldable pub lock_of : Setting → ℕ → Flow → List ℕ → List ℕ → ℕ → Made (Locked × (List ℕ × List ℕ))
lock_of e buckets f t g c = do
  (k, (u, w)) ← boundary_of e f t g
  if eqb (waiters_at u c) 0 then second_stage_of e buckets k u w c
      else gives (locked_of k 1 (outcome.Busy reason.Before), (u, w))

-- what an attempt comes to, as the answer of a call on a head of this boot number
abbrev pub answer_of : ℕ → Outcome → Answer
answer_of boot (outcome.Granted l) = answer.Granted (lease_under boot l)
answer_of boot (outcome.Busy why) = answer.Busy why
answer_of boot (outcome.Refused r) = answer.Refused r

-- ---- `transactional_try_lock_bucket`: one attempt by key

abbrev pub run_of : Flow → ℕ → ℕ → ℕ → Run
run_of f attempts boundaries yields = record { flow = f; attempts = attempts; boundaries = boundaries; yields = yields }

abbrev pub tried_of : Run → Outcome → Tried
tried_of r o = record { run = r; outcome = o }

-- "header from the registry (BadHeader if at least H), then health (Poisoned), then bucket (InvalidBucket with the caller's number)"
unfoldable pub find_of : ℕ → ℕ → List ℕ → List ℕ → ℕ → ℕ → Found
find_of headers buckets g registry binding bucket =
    let header = get_or registry binding 0 in
    if leb headers header then Err (refusal.BadHeader header)
    else if is_poisoned g header then Err (refusal.Poisoned header)
    else if leb buckets bucket then Err (refusal.InvalidBucket bucket)
    else Ok (cell_number buckets header bucket)

-- "then `try_lock`"; "An attempt begins at the header reading"
abbrev pub attempt_at : Found → Setting → ℕ → Run → List ℕ → List ℕ → Made (Tried × (List ℕ × List ℕ))
attempt_at (Err x) e buckets r t g = gives (tried_of (run_of r.flow (r.attempts + 1) r.boundaries r.yields) (outcome.Refused x), (t, g))
attempt_at (Ok c) e buckets r t g = do
  (k, a) ← lock_of e buckets r.flow t g c
  gives (tried_of (run_of k.flow (r.attempts + 1) (r.boundaries + k.boundaries) r.yields) k.answer, a)

unfoldable pub attempt_of : Setting → ℕ → List ℕ → ℕ → ℕ → Run → List ℕ → List ℕ → Made (Tried × (List ℕ × List ℕ))
attempt_of e buckets registry binding bucket r t g = do
  note attempt_begun
  attempt_at (find_of e.headers buckets g registry binding bucket) e buckets r t g

-- ---- `acquire_index_bucket`: attempts 0 to 4,095

-- "after each Busy attempt, a boundary and a spin"
unfoldable pub spin_of : Setting → Run → List ℕ → List ℕ → Made (Run × (List ℕ × List ℕ))
spin_of e r t g = do
  (f, a) ← boundary_of e r.flow t g
  note spun
  gives (run_of f r.attempts (r.boundaries + 1) r.yields, a)

-- "after a Busy attempt whose number has remainder 63 by 64, a boundary and a yield; then .."
unfoldable pub pause_of : Setting → ℕ → Run → List ℕ → List ℕ → Made (Run × (List ℕ × List ℕ))
pause_of e i r t g =
    if eqb (i % 64) 63 then (do
      (f, (u, w)) ← boundary_of e r.flow t g
      note yielded
      spin_of e (run_of f r.attempts (r.boundaries + 1) (r.yields + 1)) u w)
    else spin_of e r t g

abbrev pub is_busy : Outcome → Bool
is_busy (outcome.Granted l) = false
is_busy (outcome.Busy why) = true
is_busy (outcome.Refused r) = false

-- document 02, L1: "the reason of the last Busy attempt": this attempt's, if it was Busy, else the one before
abbrev pub last_of : Reason → Outcome → Reason
last_of last (outcome.Granted l) = last
last_of last (outcome.Busy why) = why
last_of last (outcome.Refused r) = last

-- `left` attempts from number i on, `last` being the reason of the last Busy one. "A refusal ends it at once"; when none is left, the last was Busy
unfoldable pub retry_of : ℕ → ℕ → Reason → Setting → ℕ → List ℕ → ℕ → ℕ → Run → List ℕ → List ℕ → Made (Tried × (List ℕ × List ℕ))
retry_of zero i last e buckets registry binding bucket r t g = gives (tried_of r (outcome.Busy last), (t, g))
retry_of (suc left) i last e buckets registry binding bucket r t g = do
  (k, (u, w)) ← attempt_of e buckets registry binding bucket r t g
  if is_busy k.outcome then (do
    (p, (v, x)) ← pause_of e i k.run u w
    retry_of left (i + 1) (last_of last k.outcome) e buckets registry binding bucket p v x)
      else gives (k, (u, w))

abbrev pub attempt_limit : ℕ
attempt_limit = 4096

-- before the first attempt there is no last one; with attempts to come, what stands here is never given (laws, `retry_first`)
abbrev pub none_yet : Reason
none_yet = reason.Before

-- "After 4,096: SerializationFailure." Document 02, L1: "refusal 11 carries that reason", of the last Busy attempt
abbrev pub settled : Outcome → Outcome
settled (outcome.Granted l) = outcome.Granted l
settled (outcome.Busy why) = outcome.Refused (refusal.SerializationFailure why)
settled (outcome.Refused r) = outcome.Refused r

-- ---- `release_all`, and multi-lock's rollback

abbrev pub no_hold : Hold
no_hold = hold_of 0 0

abbrev pub hold_at : List Hold → ℕ → Hold
hold_at ls i = get_or ls i no_hold

-- "last first, a boundary after each release": the first n of `ls` are still to be released, and protected until then
unfoldable pub give_back_of : ℕ → Setting → List Hold → Run → List ℕ → List ℕ → Made (Run × (List ℕ × List ℕ))
give_back_of zero e ls r t g = gives (r, (t, g))
give_back_of (suc n) e ls r t g = do
  note (released by_caller (hold_at ls n).cell (hold_at ls n).serial)
  (f, (u, w)) ← boundary_of (protecting e (take n ls)) r.flow (set_cell t (hold_at ls n).cell 0 0) g
  give_back_of n e ls (run_of f r.attempts (r.boundaries + 1) r.yields) u w

-- ---- `acquire_index_locks`

-- what multi-lock's parts come to; then table, health, grant buffer
abbrev pub Locks : Type 0
Locks = Ended × (List ℕ × (List ℕ × List ℕ))

abbrev pub ended_of : Run → Answer → Ended
ended_of r a = record { run = r; answer = a }

-- "On a refusal at position p all taken leases are released as in `release_all`." "the grant buffer is unchanged; multi-lock adds the key's position"
unfoldable pub rollback_of : Setting → List Hold → Refusal → ℕ → Run → List ℕ → List ℕ → List ℕ → Made Locks
rollback_of e taken x p r t g grants = do
  (k, (u, w)) ← give_back_of (length taken) e taken r t g
  gives (ended_of k (answer.RefusedAt x p), (u, (w, grants)))

-- after one key: a lease goes on to the next key, a refusal rolls back
abbrev pub after_key : Outcome → Setting → List Hold → ℕ → Run → List ℕ → List ℕ → List ℕ → (Hold → Made Locks) → Made Locks
after_key (outcome.Granted l) e taken p r t g grants more = more l
after_key (outcome.Busy why) e taken p r t g grants more = rollback_of e taken (refusal.SerializationFailure why) p r t g grants
after_key (outcome.Refused x) e taken p r t g grants more = rollback_of e taken x p r t g grants

-- "keys are binding and bucket"
abbrev pub binding_at : List ℕ → ℕ → ℕ
binding_at keys p = get_or keys (2 * p) 0

abbrev pub bucket_at : List ℕ → ℕ → ℕ
bucket_at keys p = get_or keys (2 * p + 1) 0

-- "keys in the order given": `left` keys from position p on, with the leases taken so far.
-- "On a grant, multi-lock's buffer holds cell and serial for each key, in key order"; document 02, L8: and the head's boot number
unfoldable pub locks_of : ℕ → ℕ → Setting → ℕ → ℕ → List ℕ → List ℕ → List Hold → Run → List ℕ → List ℕ → List ℕ → Made Locks
locks_of zero p e buckets boot registry keys taken r t g grants = gives (ended_of r answer.AllGranted, (t, (g, words_of boot taken)))
locks_of (suc left) p e buckets boot registry keys taken r t g grants = do
  (k, (u, w)) ← retry_of attempt_limit 0 none_yet (protecting e taken) buckets registry (binding_at keys p) (bucket_at keys p) r t g
  after_key k.outcome e taken p k.run u w grants λ l. locks_of left (p + 1) e buckets boot registry keys (taken ++ (l ∷ [])) k.run u w grants
