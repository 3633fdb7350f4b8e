-- How a call uses up its script, as statements: the steps from its place on are run once each, in order, at the boundaries in order, each boundary
-- up to and with its 5 or to the script's end. Between two boundaries there are only the caller's own events. Proofs are named in `Theorems`.
use Rattle.std.specs.Prelude.{ℕ, ◌+◌, ◌≤◌, ◌<◌, ◌≡◌, List, ◌∷◌, [], ◌++◌, length, get_or}
use Rattle.model.specs.Log.{Event, Made, attempt_begun, yielded, spun, took, by_caller, boundary_run, released, by_script, step_dropped, waiters_set, health_set, held_all_lem, added}
use Rattle.model.specs.Arena.{hold_in, holds_of, words_of}
use Rattle.model.specs.Foreign.{steps_in, kind_at, place_at, number_at}
use Rattle.model.specs.Sorted.{cells_sorted, shared_of}
use Rattle.model.specs.Crew.{total}
use Rattle.types.specs.declared.Answer.{Answer}
use Rattle.types.specs.declared.Answer.TheVariants.{Done, Busy, Refused, Cell, Granted, AllGranted, RefusedAt}
use Rattle.types.specs.declared.Hold.{Hold}
use Rattle.history.specs.World.{World, after_event, now, Legal}
use Rattle.history.specs.Items.{Build, Call, Says, environment, place_of, script_of, try_lock, held_of, transactional, acquire_bucket, given_up, release_all, acquire_locks, acquire_sorted}
use Rattle.history_exact.specs.Statements.{Passes, Stepping}

-- the calls with a script
pub data Scripted : Call → Type 0 where
  environment_has : (script : List ℕ) (place : ℕ) (held : List ℕ) → Scripted (environment script place held)
  try_lock_has : (script : List ℕ) (place : ℕ) (held : List ℕ) (c : ℕ) → Scripted (try_lock script place held c)
  transactional_has : (registry script : List ℕ) (place : ℕ) (held : List ℕ) (binding bucket : ℕ) → Scripted (transactional registry script place held binding bucket)
  acquire_bucket_has : (registry script : List ℕ) (place : ℕ) (held : List ℕ) (binding bucket : ℕ) → Scripted (acquire_bucket registry script place held binding bucket)
  release_all_has : (script : List ℕ) (place : ℕ) (leases : List ℕ) → Scripted (release_all script place leases)
  acquire_locks_has : (registry script : List ℕ) (place : ℕ) (held keys grants : List ℕ) → Scripted (acquire_locks registry script place held keys grants)
  acquire_sorted_has : (registry script : List ℕ) (place : ℕ) (held keys grants : List ℕ) → Scripted (acquire_sorted registry script place held keys grants)

-- the place that a call gives back
abbrev pub place_in : Made (World × Says) → ℕ
place_in m = m.seen.1.place

-- ---- where a script stands: its place and the steps dropped so far, with the world there

-- one boundary, from (p, d, w) to (q, c, v), while `ps` are protected; `es` is what its steps leave in the log
pub data Boundary (script : List ℕ) (ps : List Hold) : (p d : ℕ) (w : World) (q c : ℕ) (v : World) → List Event → Type 0 where
  -- "past the end it is quiet"
  at_end : {p d : ℕ} {w : World} → steps_in script ≤ p → Boundary script ps p d w p d w []
  -- "up to and including the next 5"
  at_five : {p d : ℕ} {w : World} → p < steps_in script → kind_at script p ≡ 5 → Boundary script ps p d w (p + 1) d w []
  -- one step: performed exactly if it is legal now, else dropped and counted (`Stepping`)
  one_step : {p d : ℕ} {w : World} {x : ℕ} {u : World} {q c : ℕ} {v : World} {es fs : List Event} → p < steps_in script → (kind_at script p ≡ 5 → ⊥)
      → Stepping w ps (kind_at script p) (place_at script p) (number_at script p) u es x
      → Boundary script ps (p + 1) (d + x) u q c v fs → Boundary script ps p d w q c v (es ++ fs)

-- what a call counts besides
pub data CountedOnly : Event → Type 0 where
  attempts_one : CountedOnly attempt_begun
  yields_once : CountedOnly yielded
  spins : CountedOnly spun

-- a whole call, from its first event to its last. "Protected: the caller's held leases, those this call has taken, .. and never those it has
-- given up": what it takes is added behind, what it gives up is the last. `Own` is what is known of the caller's own takes and releases: that
-- each is legal in the world in which it happens, where a call is spoken of
pub data Consumed (Own : World → Event → Type 0) (script : List ℕ)
    : (ps : List Hold) (p d : ℕ) (w : World) (rs : List Hold) (q c : ℕ) (v : World) → List Event → Type 0 where
  at_rest : {ps : List Hold} {p d : ℕ} {w : World} → Consumed Own script ps p d w ps p d w []
  counts : {ps rs : List Hold} {p d q c : ℕ} {w v : World} {es : List Event} {e : Event} → CountedOnly e
      → Consumed Own script ps p d w rs q c v es → Consumed Own script ps p d w rs q c v (e ∷ es)
  takes : {ps rs : List Hold} {p d q c : ℕ} {w v : World} {es : List Event} (l : Hold) → Own w (took by_caller l.cell l.serial)
      → Consumed Own script (ps ++ (l ∷ [])) p d (after_event w (took by_caller l.cell l.serial)) rs q c v es
      → Consumed Own script ps p d w rs q c v (took by_caller l.cell l.serial ∷ es)
  gives_up : {ps rs : List Hold} {p d q c : ℕ} {w v : World} {es : List Event} (l : Hold) → Own w (released by_caller l.cell l.serial)
      → Consumed Own script ps p d (after_event w (released by_caller l.cell l.serial)) rs q c v es
      → Consumed Own script (ps ++ (l ∷ [])) p d w rs q c v (released by_caller l.cell l.serial ∷ es)
  boundary : {ps rs : List Hold} {p d x y q c : ℕ} {w u v : World} {es fs : List Event} → Boundary script ps p d w x y u es
      → Consumed Own script ps x y u rs q c v fs → Consumed Own script ps p d w rs q c v (boundary_run ∷ (es ++ fs))

-- the leases that an answer hands over, with the grant buffer
abbrev pub handed : Answer → List ℕ → List Hold
handed Done b = []
handed (Cell c) b = []
handed (Granted l) b = hold_in l ∷ []
handed AllGranted b = holds_of b
handed (Busy why) b = []
handed (Refused r) b = []
handed (RefusedAt r p) b = []

-- a buffer in the order of the takes. Document 02, L4: "lock in rising order", "doubled keys sharing one": of the sorted call's, each lease once
abbrev pub as_taken : World → {k : Call} → Scripted k → List ℕ → List ℕ
as_taken w (environment_has script place held) b = b
as_taken w (try_lock_has script place held c) b = b
as_taken w (transactional_has registry script place held binding bucket) b = b
as_taken w (acquire_bucket_has registry script place held binding bucket) b = b
as_taken w (release_all_has script place leases) b = b
as_taken w (acquire_locks_has registry script place held keys grants) b = b
as_taken w (acquire_sorted_has registry script place held keys grants) b = words_of w.head.boot (shared_of (holds_of b) (cells_sorted w.head.buckets registry keys))

-- protected at first: what the caller holds, and in `release_all` what it gives up; at last: what it holds, and what it is handed. `Own` is what is
-- known of the caller's own takes and releases
abbrev pub Consumes : (World → Event → Type 0) → World → {k : Call} → Scripted k → Made (World × Says) → Type 0
Consumes Own w {k} s m =
    Consumed Own (script_of k) (held_of k ++ given_up k) (place_of k) 0 w
    (held_of k ++ handed m.seen.1.answer (as_taken w s m.seen.1.grants)) m.seen.1.place m.seen.1.counts.dropped m.seen.0 m.log

abbrev pub ScriptConsumed : Build → Type 0
ScriptConsumed f = (w : World) (k : Call) (s : Scripted k) → Passes w k → Consumes Legal w s (f w k)

-- ---- the place

abbrev pub PlaceGoes : Build → Type 0
PlaceGoes f =
    (w : World) (k : Call) → Scripted k → Passes w k
    → (place_of k ≤ place_in (f w k)) × (place_in (f w k) ≤ steps_in (script_of k))

-- ---- each step has its turn

-- step x of the script is run at a point of the log: in the world of that point it is performed exactly if it is legal there (`Stepping`)
pub record Turn (script : List ℕ) (w : World) (log : List Event) (x : ℕ) : Type 0 where
  pub before : List Event
  pub own : List Event
  pub after : List Event
  pub protected : List Hold
  pub leaves : World
  pub lost : ℕ
  pub parts : log ≡ before ++ (own ++ after)
  pub turn : Stepping (now w before) protected (kind_at script x) (place_at script x) (number_at script x) leaves own lost

abbrev pub EachHasItsTurn : Build → Type 0
EachHasItsTurn f =
    (w : World) (k : Call) → Scripted k → Passes w k
    → (x : ℕ) → place_of k ≤ x → x < place_in (f w k) → Turn (script_of k) w (f w k).log x

-- ---- each event by script is the work of a step between the two places

abbrev pub Points : List ℕ → ℕ → ℕ → Event → Type 0
Points script p q attempt_begun = Unit {0}
Points script p q boundary_run = Unit {0}
Points script p q yielded = Unit {0}
Points script p q spun = Unit {0}
Points script p q step_dropped = (x : ℕ) × (p ≤ x) × (x < q)
Points script p q (took by_caller c s) = Unit {0}
Points script p q (took by_script c s) = (x : ℕ) × (p ≤ x) × (x < q) × (kind_at script x ≡ 1) × (place_at script x ≡ c)
Points script p q (released by_caller c s) = Unit {0}
Points script p q (released by_script c s) = (x : ℕ) × (p ≤ x) × (x < q) × (kind_at script x ≡ 2) × (place_at script x ≡ c) × (number_at script x ≡ s)
Points script p q (waiters_set c n) = (x : ℕ) × (p ≤ x) × (x < q) × (kind_at script x ≡ 3) × (place_at script x ≡ c) × (number_at script x ≡ n)
Points script p q (health_set i n) = (x : ℕ) × (p ≤ x) × (x < q) × (kind_at script x ≡ 4) × (place_at script x ≡ i) × (number_at script x ≡ n)
Points script p q (held_all_lem m) = Unit {0}
Points script p q (added m c v) = Unit {0}

abbrev pub ByScriptOnly : Build → Type 0
ByScriptOnly f =
    (w : World) (k : Call) (e : Event) (before after : List Event) → Scripted k → Passes w k
    → (f w k).log ≡ before ++ (e ∷ after) → Points (script_of k) (place_of k) (place_in (f w k)) e

-- ---- the dropped steps, counted from outside: a mark for each step between the two places, 1 where its turn dropped it

pub record Tally (script : List ℕ) (w : World) (log : List Event) (p q d c : ℕ) : Type 0 where
  pub marks : List ℕ
  pub as_many : p + length marks ≡ q
  pub sum : c ≡ d + total marks
  pub each : (n : ℕ) → n < length marks → (t : Turn script w log (p + n)) × (t.lost ≡ get_or marks n 0)

abbrev pub DroppedAre : Build → Type 0
DroppedAre f =
    (w : World) (k : Call) → Scripted k → Passes w k
    → Tally (script_of k) w (f w k).log (place_of k) (place_in (f w k)) 0 (f w k).seen.1.counts.dropped
