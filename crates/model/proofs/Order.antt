-- Document 01's table of refusals, read off the definitions: its numbers and what they carry, and, for each call, that the checks stand in
-- the order of the table, whatever the arguments; but for 16 (document 02, L8), which stands before 3, or before 12, at its lease's place.
use Rattle.std.specs.Prelude.{ℕ, zero, suc, ◌+◌, ◌≡◌, List, [], ◌∷◌, ◌++◌, map, length, get_or, replicate}
use Rattle.std.proofs.Math.Path.{refl}
use Rattle.std.proofs.Common.{ap}
use Rattle.model.specs.Arena.{hold_in, leases_of}
use Rattle.model.specs.Refusals.{Rule, reason_number, reason_serial, reason_of, refusal_with, number_of, carried_of, refusal_reason}
use Rattle.model.specs.Checks.{count_in, not_live, bad_bindings, not_releasable, prepare_rules, cell_rules, lease_rules, held_cell_rules, held_lease_rules, script_rules, lock_rules, bucket_rules, release_rules, locks_rules}
use Rattle.model.specs.Crew.{bad_lists, bad_turns, crew_rules, crew_at_work_rules}
use Rattle.types.specs.declared.Head.{Head}
use Rattle.types.specs.declared.Hold.{Hold}
use Rattle.types.specs.declared.Lease.{Lease}
use Rattle.types.specs.declared.Reason.{Reason}
use Rattle.types.specs.declared.Reason.TheVariants as reason
use Rattle.types.specs.declared.Refusal.{Refusal}
use Rattle.types.specs.declared.Refusal.TheVariants.{BadShape, BadScript, BadHeld, TooMany, BadBinding, BadHeader, Poisoned, InvalidBucket, Damaged, SerialsSpent, SerializationFailure, NotHeld, Protected, Repeated, BadCrew, StaleBoot}

abbrev numbers : List ℕ
numbers = 1 ∷ 2 ∷ 3 ∷ 4 ∷ 5 ∷ 6 ∷ 7 ∷ 8 ∷ 9 ∷ 10 ∷ 11 ∷ 12 ∷ 13 ∷ 14 ∷ 15 ∷ 16 ∷ []

-- the columns "no." and "carries"
pub numbers_are : (k : ℕ) (why : Reason) → map (λ n. number_of (refusal_with why n k)) numbers ≡ numbers
numbers_are k why = refl

pub carries_are : (k : ℕ) (why : Reason) → map (λ n. carried_of (refusal_with why n k)) numbers ≡ 0 ∷ 0 ∷ k ∷ 0 ∷ k ∷ k ∷ k ∷ k ∷ k ∷ k ∷ 4096 ∷ k ∷ 0 ∷ k ∷ k ∷ k ∷ []
carries_are k why = refl

-- number and serial tell a reason
pub reason_is : (why : Reason) → reason_of (reason_number why) (reason_serial why) ≡ why
reason_is (reason.Held s) = refl
reason_is reason.Before = refl
reason_is (reason.After s) = refl

-- number, carried value and the reason's two numbers tell a refusal
pub refusal_is : (r : Refusal) → refusal_with (reason_of (get_or (refusal_reason r) 0 0) (get_or (refusal_reason r) 1 0)) (number_of r) (carried_of r) ≡ r
refusal_is BadShape = refl
refusal_is BadScript = refl
refusal_is (BadHeld k) = refl
refusal_is TooMany = refl
refusal_is (BadBinding k) = refl
refusal_is (BadHeader k) = refl
refusal_is (Poisoned k) = refl
refusal_is (InvalidBucket k) = refl
refusal_is (Damaged k) = refl
refusal_is (SerialsSpent k) = refl
refusal_is (SerializationFailure why) = ap SerializationFailure (reason_is why)
refusal_is (NotHeld k) = refl
refusal_is Protected = refl
refusal_is (Repeated k) = refl
refusal_is (BadCrew k) = refl
refusal_is (StaleBoot k) = refl

-- ---- the order of each call's checks

abbrev pub numbers_of : List Rule → List ℕ
numbers_of [] = []
numbers_of (r ∷ rs) = r.number ∷ numbers_of rs

-- n times 16 and this number
abbrev pub stale_or : ℕ → ℕ → List ℕ
stale_or number zero = []
stale_or number (suc n) = 16 ∷ number ∷ stale_or number n

-- n times 16, 12 and 14
abbrev pub together : ℕ → List ℕ
together zero = []
together (suc n) = 16 ∷ 12 ∷ 14 ∷ together n

pub numbers_append : (xs ys : List Rule) → numbers_of (xs ++ ys) ≡ numbers_of xs ++ numbers_of ys
numbers_append [] ys = refl
numbers_append (x ∷ xs) ys = ap {B = List ℕ} (λ l. x.number ∷ l) (numbers_append xs ys)

not_live_lem : (h : Head) (t : List ℕ) (i : ℕ) (ls : List Lease) → numbers_of (not_live h t i ls) ≡ stale_or 3 (length ls)
unfolding not_live
not_live_lem h t i [] = refl
not_live_lem h t i (l ∷ ls) = ap {B = List ℕ} (λ n. 16 ∷ 3 ∷ n) (not_live_lem h t (i + 1) ls)

bad_bindings_lem : (left i : ℕ) (registry keys : List ℕ) → numbers_of (bad_bindings left i registry keys) ≡ replicate left 5
unfolding bad_bindings
bad_bindings_lem zero i registry keys = refl
bad_bindings_lem (suc left) i registry keys = ap {B = List ℕ} (λ n. 5 ∷ n) (bad_bindings_lem left (i + 1) registry keys)

not_releasable_lem : (h : Head) (t : List ℕ) (i : ℕ) (earlier : List Hold) (ls : List Lease) → numbers_of (not_releasable h t i earlier ls) ≡ together (length ls)
unfolding not_releasable
not_releasable_lem h t i earlier [] = refl
not_releasable_lem h t i earlier (l ∷ ls) = ap {B = List ℕ} (λ n. 16 ∷ 12 ∷ 14 ∷ n) (not_releasable_lem h t (i + 1) (earlier ++ (hold_in l ∷ [])) ls)

bad_lists_lem : (left m inside : ℕ) (counts cells : List ℕ) → numbers_of (bad_lists left m inside counts cells) ≡ replicate left 15
unfolding bad_lists
bad_lists_lem zero m inside counts cells = refl
bad_lists_lem (suc left) m inside counts cells = ap {B = List ℕ} (λ n. 15 ∷ n) (bad_lists_lem left (m + 1) inside counts cells)

bad_turns_lem : (members i : ℕ) (turns : List ℕ) → numbers_of (bad_turns members i turns) ≡ replicate (length turns) 15
unfolding bad_turns
bad_turns_lem members i [] = refl
bad_turns_lem members i (m ∷ ms) = ap {B = List ℕ} (λ n. 15 ∷ n) (bad_turns_lem members (i + 1) ms)

module _ (h : Head) (t g registry script : List ℕ) (place : ℕ) (held keys grants leases : List ℕ) (l : Lease) (c binding : ℕ) where
  -- 16 and 3 for each held lease
  abbrev held_ones : List ℕ
  held_ones = stale_or 3 (length (leases_of held))

  pub prepare_order : numbers_of (prepare_rules h t g) ≡ 1 ∷ 1 ∷ []
  unfolding prepare_rules
  prepare_order = refl

  pub cell_order : numbers_of (cell_rules h t c) ≡ 1 ∷ 8 ∷ []
  unfolding cell_rules
  cell_order = refl

  pub lease_order : numbers_of (lease_rules h t l) ≡ 1 ∷ 16 ∷ 12 ∷ []
  unfolding lease_rules
  lease_order = refl

  pub held_cell_order : numbers_of (held_cell_rules h t held c) ≡ 1 ∷ 3 ∷ (held_ones ++ (8 ∷ []))
  unfolding held_cell_rules
  held_cell_order = rw (numbers_append (not_live h t 0 (leases_of held)) _, not_live_lem)

  pub held_lease_order : numbers_of (held_lease_rules h t held l) ≡ 1 ∷ 3 ∷ (held_ones ++ (16 ∷ 12 ∷ 13 ∷ []))
  unfolding held_lease_rules
  held_lease_order = rw (numbers_append (not_live h t 0 (leases_of held)) _, not_live_lem)

  pub script_order : numbers_of (script_rules h t g script place held) ≡ 1 ∷ 1 ∷ 2 ∷ 3 ∷ held_ones
  unfolding script_rules
  script_order = rw not_live_lem

  pub lock_order : numbers_of (lock_rules h t g script place held c) ≡ 1 ∷ 1 ∷ 2 ∷ 3 ∷ (held_ones ++ (8 ∷ []))
  unfolding lock_rules script_rules
  lock_order = rw (numbers_append (not_live h t 0 (leases_of held)) _, not_live_lem)

  pub bucket_order : numbers_of (bucket_rules h t g registry script place held binding) ≡ 1 ∷ 1 ∷ 1 ∷ 2 ∷ 3 ∷ (held_ones ++ (5 ∷ []))
  unfolding bucket_rules
  bucket_order = rw (numbers_append (not_live h t 0 (leases_of held)) _, not_live_lem)

  pub release_order : numbers_of (release_rules h t g script place leases) ≡ 1 ∷ 1 ∷ 2 ∷ 4 ∷ together (length (leases_of leases))
  unfolding release_rules
  release_order = rw not_releasable_lem

  -- and one 5 for each key
  pub locks_order : numbers_of (locks_rules h t g registry script place held keys grants)
      ≡ 1 ∷ 1 ∷ 1 ∷ 2 ∷ 3 ∷ (held_ones ++ (4 ∷ replicate (count_in keys) 5))
  unfolding locks_rules
  locks_order = rw (numbers_append (not_live h t 0 (leases_of held)) _, not_live_lem, bad_bindings_lem)

pub crew_order : (h : Head) (t g counts cells turns : List ℕ) → numbers_of (crew_rules h t g counts cells turns)
    ≡ 1 ∷ 1 ∷ 15 ∷ (replicate (length counts) 15 ++ replicate (length turns) 15)
unfolding crew_rules
crew_order h t g counts cells turns = rw (numbers_append (bad_lists (length counts) 0 _ counts cells) _, bad_lists_lem, bad_turns_lem)

-- the counters' length before the crew
pub crew_at_work_order : (h : Head) (t g counts cells turns counters : List ℕ) → numbers_of (crew_at_work_rules h t g counts cells turns counters)
    ≡ 1 ∷ 1 ∷ 1 ∷ 15 ∷ (replicate (length counts) 15 ++ replicate (length turns) 15)
unfolding crew_at_work_rules
crew_at_work_order h t g counts cells turns counters = rw (numbers_append (bad_lists (length counts) 0 _ counts cells) _, bad_lists_lem, bad_turns_lem)
