-- Scripts in two orders: the words of the statements.
use Rattle.std.specs.Prelude.{ℕ, ◌+◌, ◌≤◌, ◌≡◌, List, [], ◌∷◌, ◌++◌, ◌≢◌, ◌⊎◌, length}
use Rattle.history.specs.Items.{Call, environment, try_lock, transactional, acquire_bucket, release_all, acquire_locks, acquire_sorted}
use Rattle.swaps.specs.Steps.{Step, Shuffled}

-- "A script is a lent run of u32, three words a step": the words of a list of steps
unfoldable pub script_of : List Step → List ℕ
script_of [] = []
script_of (s ∷ ss) = s.kind ∷ s.place ∷ s.number ∷ script_of ss

-- no step of it is "5 end of boundary"
abbrev pub Unended : List Step → Type 0
Unended [] = Unit {0}
Unended (s ∷ ss) = (s.kind ≢ 5) × Unended ss

-- the first step of it is "5 end of boundary", or there is none
abbrev pub Ended : List Step → Type 0
Ended [] = Unit {0}
Ended (s ∷ ss) = s.kind ≡ 5

-- "up to and including the next 5": the end is run too
abbrev pub ends : List Step → ℕ
ends [] = 0
ends (s ∷ ss) = 1

-- One script from the other, seen from a place. A stretch with no end of boundary in it is shuffled; before it and behind it stands
-- anything, ends of boundaries too, so exchanges in several boundaries follow one another. The place is not inside the stretch.
pub data Respelled (place : ℕ) : List ℕ → List ℕ → Type 0 where
  stretch : (pre ss ts post : List Step) → Unended ss → Shuffled ss ts → (place ≤ length pre) ⊎ (length pre + length ss ≤ place)
      → Respelled place (script_of (pre ++ (ss ++ post))) (script_of (pre ++ (ts ++ post)))
  onward : {a b c : List ℕ} → Respelled place a b → Respelled place b c → Respelled place a c

-- one call from the other: the same but for its script
pub data Rescripted : Call → Call → Type 0 where
  environments : {a b : List ℕ} {place : ℕ} {held : List ℕ} → Respelled place a b → Rescripted (environment a place held) (environment b place held)
  try_locks : {a b : List ℕ} {place : ℕ} {held : List ℕ} {c : ℕ} → Respelled place a b → Rescripted (try_lock a place held c) (try_lock b place held c)
  transactionals : {a b : List ℕ} {place : ℕ} {registry held : List ℕ} {binding bucket : ℕ} → Respelled place a b
      → Rescripted (transactional registry a place held binding bucket) (transactional registry b place held binding bucket)
  acquire_buckets : {a b : List ℕ} {place : ℕ} {registry held : List ℕ} {binding bucket : ℕ} → Respelled place a b
      → Rescripted (acquire_bucket registry a place held binding bucket) (acquire_bucket registry b place held binding bucket)
  releases_all : {a b : List ℕ} {place : ℕ} {leases : List ℕ} → Respelled place a b → Rescripted (release_all a place leases) (release_all b place leases)
  acquires_locks : {a b : List ℕ} {place : ℕ} {registry held keys grants : List ℕ} → Respelled place a b
      → Rescripted (acquire_locks registry a place held keys grants) (acquire_locks registry b place held keys grants)
  acquires_sorted : {a b : List ℕ} {place : ℕ} {registry held keys grants : List ℕ} → Respelled place a b
      → Rescripted (acquire_sorted registry a place held keys grants) (acquire_sorted registry b place held keys grants)
