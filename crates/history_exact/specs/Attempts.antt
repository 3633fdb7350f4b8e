-- Attempts, counted from outside, as statements for any script and any arena: how one attempt ends; that `acquire_index_bucket` is attempts and
-- boundaries, and multi-lock such calls key by key; and what follows for the counts. `Theorems` has the proofs by name. What stands in quotes is
-- of document 01 or 02.
use Rattle.std.specs.Prelude.{ℕ, ◌+◌, ◌/◌, ◌≤◌, ◌%◌, ◌<◌, ◌≡◌, List, ◌∷◌, ◌++◌, [], ◌↔◌, length, get_or}
use Rattle.model.specs.Log.{Event, Made, took, released, waiters_set, health_set, held_all_lem, added, spun, yielded, attempt_begun, boundary_run, step_dropped, by_caller, by_script}
use Rattle.model.specs.Arena.{hold_of, hold_in, words_of, lease_under}
use Rattle.model.specs.Refusals.{number_of}
use Rattle.model.specs.Lock.{binding_at, bucket_at}
use Rattle.model.specs.Checks.{count_in}
use Rattle.model.specs.Calls.{counts_of}
use Rattle.model.specs.Crew.{total}
use Rattle.types.specs.declared.Answer.{Answer}
use Rattle.types.specs.declared.Answer.TheVariants.{Done, Refused, Busy, RefusedAt, Cell, Granted, AllGranted}
use Rattle.types.specs.declared.Counts.{Counts}
use Rattle.types.specs.declared.Hold.{Hold}
use Rattle.types.specs.declared.Lease.{Lease}
use Rattle.types.specs.declared.Reason.{Reason}
use Rattle.types.specs.declared.Reason.TheVariants as reason
use Rattle.types.specs.declared.Refusal.{Refusal}
use Rattle.types.specs.declared.Refusal.TheVariants.{Poisoned, SerializationFailure}
use Rattle.history.specs.World.{World, caller_releases}
use Rattle.history.specs.Items.{Build, Says, acquire_bucket, acquire_locks, says, environment, transactional, drop_lease, Call}
use Rattle.history.specs.Statements.{answer_in, world_in}
use Rattle.history_exact.specs.Statements.{Passes}
use Rattle.history_exact.specs.Script.{place_in}

-- ---- how one attempt ends: its boundaries, the cells that the caller takes in it, and those that it releases

unfoldable pub caller_takes : List Event → List Hold
caller_takes [] = []
caller_takes (attempt_begun ∷ es) = caller_takes es
caller_takes (boundary_run ∷ es) = caller_takes es
caller_takes (yielded ∷ es) = caller_takes es
caller_takes (spun ∷ es) = caller_takes es
caller_takes (step_dropped ∷ es) = caller_takes es
caller_takes (took by_caller c s ∷ es) = hold_of c s ∷ caller_takes es
caller_takes (took by_script c s ∷ es) = caller_takes es
caller_takes (released a c s ∷ es) = caller_takes es
caller_takes (waiters_set c n ∷ es) = caller_takes es
caller_takes (health_set i n ∷ es) = caller_takes es
caller_takes (held_all_lem m ∷ es) = caller_takes es
caller_takes (added m c v ∷ es) = caller_takes es

pub data Ends : Answer → (boundaries : ℕ) (taken released : List Hold) → Type 0 where
  -- 6, 7, 8: the key names no cell of a header that is healthy at the first reading
  no_cell : (r : Refusal) → 6 ≤ number_of r → number_of r ≤ 8 → Ends (Refused r) 0 [] []
  -- "boundary; waiters not 0: Busy". Document 02, L1: "waiters seen before the compare-and-set"
  waited : Ends (Busy reason.Before) 1 [] []
  -- "boundary; try_acquire": held, damaged, or no serial. "held, with the owner's serial"
  held : (s : ℕ) → Ends (Busy (reason.Held s)) 2 [] []
  not_takable : (r : Refusal) → 9 ≤ number_of r → number_of r ≤ 10 → Ends (Refused r) 2 [] []
  -- document 02, L3: "Read it again after the third boundary, before the waiters. If poisoned, release the lease and
  -- refuse with 7"
  poisoned : (l : Hold) (header : ℕ) → Ends (Refused (Poisoned header)) 3 (l ∷ []) (l ∷ [])
  -- "boundary (protecting the new lease); waiters not 0: release it, Busy; else granted". "waiters seen after it. The last one also gives
  -- the serial that was spent"
  late : (l : Hold) → Ends (Busy (reason.After l.serial)) 3 (l ∷ []) (l ∷ [])
  granted : (l : Lease) → Ends (Granted l) 3 (hold_in l ∷ []) []

abbrev pub Ending : Made (World × Says) → Type 0
Ending m = Ends (answer_in m) m.seen.1.counts.boundaries (caller_takes m.log) (caller_releases m.log)

abbrev pub AttemptEnds : Build → Type 0
AttemptEnds f =
    (w : World) (registry script : List ℕ) (place : ℕ) (held : List ℕ) (binding bucket : ℕ)
    → let k = transactional registry script place held binding bucket in Passes w k → Ending (f w k)

-- ---- one call and then another: the counts add up, the logs follow one another, and the second's answer stands

abbrev pub added_up : Counts → Counts → Counts
added_up a b = counts_of (a.attempts + b.attempts) (a.boundaries + b.boundaries) (a.yields + b.yields) (a.dropped + b.dropped)

infixr 4 ◌and_then◌
abbrev pub ◌and_then◌ : Made (World × Says) → Made (World × Says) → Made (World × Says)
m and_then n =
    record {
      seen = (n.seen.0, says n.seen.1.answer (added_up m.seen.1.counts n.seen.1.counts) n.seen.1.place n.seen.1.grants);
      log = m.log ++ n.log;
    }

-- ---- `acquire_index_bucket` is up to 4,096 times `transactional_try_lock_bucket`, and `environment` once or twice after each that is Busy

module _ (attempt between : World → (place : ℕ) → Made (World × Says)) where
  -- a boundary and a spin; a boundary and a yield
  abbrev pub spin : World → ℕ → Made (World × Says)
  spin w p = let m = between w p in record { seen = m.seen; log = m.log ++ (spun ∷ []) }

  abbrev pub yield : World → ℕ → Made (World × Says)
  yield w p =
      let m = between w p in
      record { seen = (m.seen.0, says Done (counts_of 0 1 1 m.seen.1.counts.dropped) (place_in m) []); log = m.log ++ (yielded ∷ []) }

  -- "after a Busy attempt whose number has remainder 63 by 64, a boundary and a yield; then, after each Busy attempt, a boundary and a spin"
  pub data Pause (i : ℕ) (w : World) (p : ℕ) : Made (World × Says) → Type 0 where
    only_spins : (i % 64 ≡ 63 → ⊥) → Pause i w p (spin w p)
    also_yields : i % 64 ≡ 63 → Pause i w p (yield w p and_then spin (world_in (yield w p)) (place_in (yield w p)))

  -- attempts from number i on, `last` being the reason of the last Busy attempt before them. Document 02, L1: "Every call above passes the reason of
  -- the last Busy attempt on"
  pub data Attempts : (i : ℕ) (last : Reason) (w : World) (p : ℕ) → Made (World × Says) → Type 0 where
    -- "After 4,096: SerializationFailure." "refusal 11 carries that reason"
    all_busy : {last : Reason} {w : World} {p : ℕ} → Attempts 4096 last w p (record { seen = (w, says (Refused (SerializationFailure last)) (counts_of 0 0 0 0) p []); log = [] })
    -- an attempt that is not Busy is the last
    the_last : {i : ℕ} {last : Reason} {w : World} {p : ℕ} → i < 4096 → ((why : Reason) → answer_in (attempt w p) ≡ Busy why → ⊥)
        → Attempts i last w p (attempt w p)
    one_busy : {i : ℕ} {last : Reason} {w : World} {p : ℕ} {m n : Made (World × Says)} (why : Reason) → i < 4096 → answer_in (attempt w p) ≡ Busy why
        → Pause i (world_in (attempt w p)) (place_in (attempt w p)) m → Attempts (i + 1) why (world_in m) (place_in m) n
        → Attempts i last w p (attempt w p and_then (m and_then n))

-- whatever stands for the reason before the first attempt: it is never given
abbrev pub BucketAttempts : Build → Type 0
BucketAttempts f =
    (w : World) (registry script : List ℕ) (place : ℕ) (held : List ℕ) (binding bucket : ℕ) (last : Reason)
    → let k = acquire_bucket registry script place held binding bucket in
    Passes w k
    → Attempts (λ v p. f v (transactional registry script p held binding bucket)) (λ v p. f v (environment script p held)) 0 last w place (f w k)

-- ---- multi-lock is `acquire_index_bucket` key by key, each holding what was taken before; and, refused, `drop_lease` and `environment` for each
-- lease taken, the last first

module _ (f : Build) (boot : ℕ) (registry script held keys grants : List ℕ) where
  -- the call for the key at position p, holding what was taken
  abbrev pub key_at : ℕ → List Hold → (place : ℕ) → Call
  key_at p taken place = acquire_bucket registry script place (held ++ words_of boot taken) (binding_at keys p) (bucket_at keys p)

  abbrev pub locking : ℕ → List Hold → World → (place : ℕ) → Made (World × Says)
  locking p taken w place = f w (key_at p taken place)

  -- one lease given back; and one boundary, holding what is not yet given back
  abbrev pub dropping : Hold → World → Made (World × Says)
  dropping l w = f w (drop_lease (lease_under boot l))

  abbrev pub between : List Hold → World → (place : ℕ) → Made (World × Says)
  between taken w place = f w (environment script place (held ++ words_of boot taken))

  pub data GivesBack : List Hold → World → (place : ℕ) → Made (World × Says) → Type 0 where
    all_back : {w : World} {place : ℕ} → GivesBack [] w place (record { seen = (w, says Done (counts_of 0 0 0 0) place []); log = [] })
    one_back : {ls : List Hold} {w v : World} {place : ℕ} {n : Made (World × Says)} (l : Hold)
        → answer_in (dropping l w) ≡ Done → v ≡ world_in (dropping l w) → answer_in (between ls v place) ≡ Done
        → GivesBack ls (world_in (between ls v place)) (place_in (between ls v place)) n
        → GivesBack (ls ++ (l ∷ [])) w place (dropping l w and_then (between ls v place and_then n))

  -- "multi-lock adds the key's position", "the grant buffer is unchanged"
  abbrev pub refused_at : Refusal → ℕ → Made (World × Says) → Made (World × Says)
  refused_at r p m = record { seen = (m.seen.0, says (RefusedAt r p) m.seen.1.counts m.seen.1.place grants); log = m.log }

  -- keys from position p on, with these leases taken; each call passes its checks
  pub data KeyByKey : (p : ℕ) → List Hold → World → (place : ℕ) → Made (World × Says) → Type 0 where
    all_locked : {p : ℕ} {taken : List Hold} {w : World} {place : ℕ} → p ≡ count_in keys
        → KeyByKey p taken w place (record { seen = (w, says AllGranted (counts_of 0 0 0 0) place (words_of boot taken)); log = [] })
    one_locked : {p : ℕ} {taken : List Hold} {w : World} {place : ℕ} {n : Made (World × Says)} (l : Hold) → p < count_in keys
        → Passes w (key_at p taken place) → answer_in (locking p taken w place) ≡ Granted (lease_under boot l)
        → KeyByKey (p + 1) (taken ++ (l ∷ [])) (world_in (locking p taken w place)) (place_in (locking p taken w place)) n
        → KeyByKey p taken w place (locking p taken w place and_then n)
    one_refused : {p : ℕ} {taken : List Hold} {w : World} {place : ℕ} {n : Made (World × Says)} (r : Refusal) → p < count_in keys
        → Passes w (key_at p taken place) → answer_in (locking p taken w place) ≡ Refused r
        → GivesBack taken (world_in (locking p taken w place)) (place_in (locking p taken w place)) n
        → KeyByKey p taken w place (refused_at r p (locking p taken w place and_then n))

abbrev pub LocksAsCalls : Build → Type 0
LocksAsCalls f =
    (w : World) (registry script : List ℕ) (place : ℕ) (held keys grants : List ℕ)
    → let k = acquire_locks registry script place held keys grants in
    Passes w k → KeyByKey f w.head.boot registry script held keys grants 0 [] w place (f w k)

-- ---- what follows for the counts. "after each Busy attempt, a boundary and a spin": the spins in the log are the Busy attempts

abbrev is_spin : Event → ℕ
is_spin attempt_begun = 0
is_spin boundary_run = 0
is_spin yielded = 0
is_spin spun = 1
is_spin step_dropped = 0
is_spin (took a c s) = 0
is_spin (released a c s) = 0
is_spin (waiters_set c n) = 0
is_spin (health_set i n) = 0
is_spin (held_all_lem m) = 0
is_spin (added m c v) = 0

unfoldable pub spins_in : List Event → ℕ
spins_in [] = 0
spins_in (e ∷ es) = is_spin e + spins_in es

-- 11, for whatever reason
abbrev pub Failed : Answer → Type 0
Failed a = (why : Reason) × (a ≡ Refused (SerializationFailure why))

pub record Retries (a : Answer) (attempts yields busy : ℕ) : Type 0 where
  pub yields_are : yields ≡ busy / 64
  -- 11: every attempt was Busy, and there were 4,096; any other answer: all but the last were, and there were at most 4,096
  pub failed : Failed a ↔ (busy ≡ 4096)
  pub all_busy : Failed a → attempts ≡ busy
  pub last_not : (Failed a → ⊥) → (attempts ≡ busy + 1) × (attempts ≤ 4096)

abbrev pub BucketRetries : Build → Type 0
BucketRetries f =
    (w : World) (registry script : List ℕ) (place : ℕ) (held : List ℕ) (binding bucket : ℕ)
    → let k = acquire_bucket registry script place held binding bucket in
    Passes w k → Retries (answer_in (f w k)) (f w k).seen.1.counts.attempts (f w k).seen.1.counts.yields (spins_in (f w k).log)

-- multi-lock: the same for each key, summed over the keys; each divided by 64, rounded down
unfoldable pub total_64 : List ℕ → ℕ
total_64 [] = 0
total_64 (n ∷ ns) = n / 64 + total_64 ns

-- a key had 4,096 Busy attempts
pub data Some4096 : List ℕ → Type 0 where
  this_key : {ns : List ℕ} → Some4096 (4096 ∷ ns)
  a_later : {n : ℕ} {ns : List ℕ} → Some4096 ns → Some4096 (n ∷ ns)

-- 11 at a key, for whatever reason
abbrev pub FailedAt : Answer → Type 0
FailedAt a = (why : Reason) × (p : ℕ) × (a ≡ RefusedAt (SerializationFailure why) p)

pub record KeysRetried (keys : ℕ) (a : Answer) (yields busy : ℕ) : Type 0 where
  -- the Busy attempts of each key that was tried, in key order
  pub of_key : List ℕ
  pub few : length of_key ≤ keys
  pub busy_are : busy ≡ total of_key
  pub yields_are : yields ≡ total_64 of_key
  pub failed : FailedAt a → Some4096 of_key
  pub fails : Some4096 of_key → FailedAt a

abbrev pub LocksRetry : Build → Type 0
LocksRetry f =
    (w : World) (registry script : List ℕ) (place : ℕ) (held keys grants : List ℕ)
    → let k = acquire_locks registry script place held keys grants in
    Passes w k → KeysRetried (count_in keys) (answer_in (f w k)) (f w k).seen.1.counts.yields (spins_in (f w k).log)

-- the boundaries: what each attempt's ending gives, 0, 1, 2 or 3; one for each Busy attempt; one for each yield; one for each release in a
-- rollback
pub record BoundariesAdd (counts : Counts) (busy releases : ℕ) : Type 0 where
  pub endings : List ℕ
  pub each : (i : ℕ) → i < length endings → get_or endings i 0 ≤ 3
  pub as_many : length endings ≡ counts.attempts
  pub sum : counts.boundaries ≡ total endings + busy + counts.yields + releases

abbrev pub BucketBoundaries : Build → Type 0
BucketBoundaries f =
    (w : World) (registry script : List ℕ) (place : ℕ) (held : List ℕ) (binding bucket : ℕ)
    → let k = acquire_bucket registry script place held binding bucket in
    Passes w k → BoundariesAdd (f w k).seen.1.counts (spins_in (f w k).log) 0

-- how many leases a multi-lock gives back, by its answer
abbrev pub rolled_back : Answer → ℕ
rolled_back Done = 0
rolled_back (Cell c) = 0
rolled_back (Granted l) = 0
rolled_back AllGranted = 0
rolled_back (Busy why) = 0
rolled_back (Refused r) = 0
rolled_back (RefusedAt r p) = p

abbrev pub LocksBoundaries : Build → Type 0
LocksBoundaries f =
    (w : World) (registry script : List ℕ) (place : ℕ) (held keys grants : List ℕ)
    → let k = acquire_locks registry script place held keys grants in
    Passes w k → BoundariesAdd (f w k).seen.1.counts (spins_in (f w k).log) (rolled_back (answer_in (f w k)))
