-- Document 01's calls: the checks on what a call takes, then its steps. Each gives its result and, behind it, the lent runs it may
-- change, in the order in which it takes them; beside that, the log.
use Rattle.std.specs.Prelude.{ℕ, List, [], length, replicate}
use Rattle.model.specs.Log.{Made, by_caller, attempt_begun, released, gives, note, ◌>>=◌, ◌>>◌}
use Rattle.model.specs.Arena.{cells_of, head_of, spent_to, set_cell, hold_in, holds_of}
use Rattle.model.specs.Refusals.{first, judge}
use Rattle.model.specs.Checks.{count_in, lease_count, prepare_rules, cell_rules, lease_rules, held_cell_rules, held_lease_rules, script_rules, lock_rules, bucket_rules, release_rules, locks_rules}
use Rattle.model.specs.Foreign.{Setting, setting, flow_of, boundary_of}
use Rattle.model.specs.Lock.{take_of, lock_of, outcome_of, answer_of, run_of, attempt_of, attempt_limit, none_yet, retry_of, settled, give_back_of, locks_of}
use Rattle.types.specs.declared.Answer.{Answer}
use Rattle.types.specs.declared.Answer.TheVariants.{Done, Cell, Refused}
use Rattle.types.specs.declared.Counts.{Counts}
use Rattle.types.specs.declared.Head.{Head}
use Rattle.types.specs.declared.Hold.{Hold}
use Rattle.types.specs.declared.Lease.{Lease}
use Rattle.types.specs.declared.ScriptReply.{ScriptReply}
use Rattle.types.specs.declared.Refusal.{Refusal}
use Rattle.types.specs.declared.Reply.{Reply}
use Rattle.types.specs.declared.Run.{Run}

-- ---- results

abbrev pub counts_of : ℕ → ℕ → ℕ → ℕ → Counts
counts_of a b y d = record { attempts = a; boundaries = b; yields = y; dropped = d }

-- without a script: only attempts can be other than 0
abbrev pub replied : Head → ℕ → Answer → Reply
replied h attempts a = record { head = h; counts = counts_of attempts 0 0 0; answer = a }

-- "Refusals 1 to 5, 8 (by cell), 12 to 15 change nothing, all counts 0." Document 02, L8: so does 16
abbrev pub refused : Head → Refusal → Reply
refused h r = replied h 0 (Refused r)

-- with a script: "Each result gives attempts begun, boundaries, yields and dropped steps"
abbrev pub script_reply : Head → Run → Answer → ScriptReply
script_reply h r a =
    record {
      head = spent_to h r.flow.next;
      place = r.flow.place;
      counts = counts_of r.attempts r.boundaries r.yields r.flow.dropped;
      answer = a;
    }

-- a call that has made no step yet
abbrev pub starting : Head → ℕ → Run
starting h place = run_of (flow_of h.next place 0) 0 0 0

abbrev pub refused_at_once : Head → ℕ → Refusal → ScriptReply
refused_at_once h place r = record { head = h; place = place; counts = counts_of 0 0 0 0; answer = Refused r }

-- what the steps of a call with a script are given: a held list's leases are protected
abbrev pub given : Head → List ℕ → List Hold → Setting
given h script protected = setting h.headers (cells_of h) script protected

-- ---- `prepare`

-- "Preparing takes H, B and a first serial, and sets every table word and health byte to 0."
-- "A refused preparation changes no lent word, hands back a head of three zeros". Document 02, L8: "preparing takes it (refused: four zeros)"
unfoldable pub prepare_of : ℕ → ℕ → ℕ → ℕ → List ℕ → List ℕ → Made (Reply × (List ℕ × List ℕ))
prepare_of headers buckets serial boot t g =
    let h = head_of headers buckets serial boot in
    judge (first (prepare_rules h t g)) (λ r. gives (refused (head_of 0 0 0 0) r, (t, g)))
    (gives (replied h 0 Done, (replicate (length t) 0, replicate (length g) 0)))

-- ---- calls by cell and by lease, without a script

-- "by cell, each `try_lock`, or `try_acquire` outside one, is an attempt": number n of its call
unfoldable pub acquire_of : ℕ → Head → List ℕ → ℕ → Made (Reply × List ℕ)
acquire_of n h t c = do
  note attempt_begun
  (k, u) ← take_of h.next t c
  gives (replied (spent_to h k.next) n (answer_of h.boot (outcome_of c k.answer)), u)

-- a release of one lease; "no boundary"
abbrev pub release_of : List ℕ → Hold → Made (List ℕ)
release_of t l = do
  note (released by_caller l.cell l.serial)
  gives (set_cell t l.cell 0 0)

unfoldable pub try_acquire_of : Head → List ℕ → ℕ → Made (Reply × List ℕ)
try_acquire_of h t c = judge (first (cell_rules h t c)) (λ r. gives (refused h r, t)) (acquire_of 1 h t c)

-- The next four calls are given one lease, and test 16 before 12 (`lease_rules`; document 02, L8).

-- "`drop_lease` is one release and no boundary"
unfoldable pub drop_lease_of : Head → List ℕ → Lease → Made (Reply × List ℕ)
drop_lease_of h t l =
    judge (first (lease_rules h t l)) (λ r. gives (refused h r, t)) do
      u ← release_of t (hold_in l)
      gives (replied h 0 Done, u)

-- "`read_permission` gives the lease's cell or 12."
unfoldable pub read_permission_of : Head → List ℕ → Lease → Made Reply
read_permission_of h t l = judge (first (lease_rules h t l)) (λ r. gives (refused h r)) (gives (replied h 0 (Cell l.cell)))

-- "12 if the lease is not live, else one `try_acquire` of its cell"
unfoldable pub competing_acquire_of : Head → List ℕ → Lease → Made (Reply × List ℕ)
competing_acquire_of h t l = judge (first (lease_rules h t l)) (λ r. gives (refused h r, t)) (acquire_of 1 h t l.cell)

-- "`release_then_handoff`: 12, else release and `try_acquire`."
unfoldable pub release_then_handoff_of : Head → List ℕ → Lease → Made (Reply × List ℕ)
release_then_handoff_of h t l =
    judge (first (lease_rules h t l)) (λ r. gives (refused h r, t)) do
      u ← release_of t (hold_in l)
      acquire_of 1 h u l.cell

-- "`foreign_release_between_attempts`: 3, 12, 13, then a `try_acquire` that is Busy, a release, a `try_acquire`."; 16 before 3 at its place and before 12
unfoldable pub foreign_release_of : Head → List ℕ → List ℕ → Lease → Made (Reply × List ℕ)
foreign_release_of h t held l =
    judge (first (held_lease_rules h t held l)) (λ r. gives (refused h r, t)) do
      (k, u) ← acquire_of 1 h t l.cell
      v ← release_of u (hold_in l)
      acquire_of 2 k.head v l.cell

-- "`acquire_preserving_borrows` is `try_acquire` after the held list's check"
unfoldable pub acquire_preserving_of : Head → List ℕ → List ℕ → ℕ → Made (Reply × List ℕ)
acquire_preserving_of h t held c = judge (first (held_cell_rules h t held c)) (λ r. gives (refused h r, t)) (acquire_of 1 h t c)

-- "`drop_preserving_borrows` first refuses a lease in its held list."
unfoldable pub drop_preserving_of : Head → List ℕ → List ℕ → Lease → Made (Reply × List ℕ)
drop_preserving_of h t held l =
    judge (first (held_lease_rules h t held l)) (λ r. gives (refused h r, t)) do
      u ← release_of t (hold_in l)
      gives (replied h 0 Done, u)

-- ---- calls with a script

-- "`environment` and `environment_for_borrows` are one boundary."
unfoldable pub environment_of : Head → List ℕ → List ℕ → List ℕ → ℕ → List ℕ → Made (ScriptReply × (List ℕ × List ℕ))
environment_of h t g script place held =
    judge (first (script_rules h t g script place held)) (λ r. gives (refused_at_once h place r, (t, g))) do
      (f, a) ← boundary_of (given h script (holds_of held)) (flow_of h.next place 0) t g
      gives (script_reply h (run_of f 0 1 0) Done, a)

-- `try_lock`; "`other_mutex_preserves_leases` is `try_lock`"
unfoldable pub try_lock_of : Head → List ℕ → List ℕ → List ℕ → ℕ → List ℕ → ℕ → Made (ScriptReply × (List ℕ × List ℕ))
try_lock_of h t g script place held c =
    judge (first (lock_rules h t g script place held c)) (λ r. gives (refused_at_once h place r, (t, g))) do
      note attempt_begun
      (k, a) ← lock_of (given h script (holds_of held)) h.buckets (flow_of h.next place 0) t g c
      gives (script_reply h (run_of k.flow 1 k.boundaries 0) (answer_of h.boot k.answer), a)

unfoldable pub transactional_of : Head → List ℕ → List ℕ → List ℕ → List ℕ → ℕ → List ℕ → ℕ → ℕ → Made (ScriptReply × (List ℕ × List ℕ))
transactional_of h t g registry script place held binding bucket =
    judge (first (bucket_rules h t g registry script place held binding)) (λ r. gives (refused_at_once h place r, (t, g))) do
      (k, a) ← attempt_of (given h script (holds_of held)) h.buckets registry binding bucket (starting h place) t g
      gives (script_reply h k.run (answer_of h.boot k.outcome), a)

-- "attempts 0 to 4,095 .. After 4,096: SerializationFailure."
unfoldable pub acquire_bucket_of : Head → List ℕ → List ℕ → List ℕ → List ℕ → ℕ → List ℕ → ℕ → ℕ → Made (ScriptReply × (List ℕ × List ℕ))
acquire_bucket_of h t g registry script place held binding bucket =
    judge (first (bucket_rules h t g registry script place held binding)) (λ r. gives (refused_at_once h place r, (t, g))) do
      (k, a) ← retry_of attempt_limit 0 none_yet (given h script (holds_of held)) h.buckets registry binding bucket (starting h place) t g
      gives (script_reply h k.run (answer_of h.boot (settled k.outcome)), a)

-- "in `release_all` those it was given" are protected, each until it is released
unfoldable pub release_all_of : Head → List ℕ → List ℕ → List ℕ → ℕ → List ℕ → Made (ScriptReply × (List ℕ × List ℕ))
release_all_of h t g script place leases =
    judge (first (release_rules h t g script place leases)) (λ r. gives (refused_at_once h place r, (t, g))) do
      (k, a) ← give_back_of (lease_count leases) (given h script []) (holds_of leases) (starting h place) t g
      gives (script_reply h k Done, a)

unfoldable pub acquire_locks_of : Head → List ℕ → List ℕ → List ℕ → List ℕ → ℕ → List ℕ → List ℕ → List ℕ → Made (ScriptReply × (List ℕ × (List ℕ × List ℕ)))
acquire_locks_of h t g registry script place held keys grants =
    judge (first (locks_rules h t g registry script place held keys grants)) (λ r. gives (refused_at_once h place r, (t, (g, grants)))) do
      (k, a) ← locks_of (count_in keys) 0 (given h script (holds_of held)) h.buckets h.boot registry keys [] (starting h place) t g grants
      gives (script_reply h k.run k.answer, a)
