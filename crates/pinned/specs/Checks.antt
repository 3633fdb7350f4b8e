-- Second of the four files: document 01, "Numbers of the refusals". The table, and each call's checks in their order: a check is a condition in plain
-- numbers and the refusal that it gives. `Words` has the arena; the four files cite types, numbers and lists alone.
use Rattle.std.specs.Prelude.{ℕ, zero, suc, ◌+◌, ◌*◌, ◌/◌, ◌%◌, ◌≤◌, ◌<◌, ◌≡◌, List, [], ◌∷◌, ◌++◌, ◌⊎◌, ◌≢◌, length, get_or, take, drop}
use Rattle.types.specs.declared.Hold.{Hold}
use Rattle.types.specs.declared.Lease.{Lease}
use Rattle.types.specs.declared.Refusal.{Refusal}
use Rattle.types.specs.declared.Refusal.TheVariants.{BadShape, BadScript, BadHeld, TooMany, BadBinding, BadHeader, Poisoned, InvalidBucket, Damaged, SerialsSpent, SerializationFailure, NotHeld, Protected, Repeated, BadCrew, StaleBoot}
use Rattle.history.specs.World.{World}
use Rattle.history.specs.Items.{Call, try_acquire, drop_lease, read_permission, competing_acquire, release_then_handoff, foreign_release, drop_preserving, acquire_preserving, environment, try_lock, transactional, acquire_bucket, release_all, acquire_locks, acquire_sorted, crew, crew_at_work}
use Rattle.pinned.specs.Words.{Shape, IsLive, StandsIn, size, holds}

-- ---- the table: a refusal's number, and what it carries. Document 02, L1: "refusal 11 carries that reason besides 4,096"; L8: "StaleBoot (16), with its
-- position"

abbrev pub number_and_carried : Refusal → ℕ × ℕ
number_and_carried BadShape = (1, 0)
number_and_carried BadScript = (2, 0)
number_and_carried (BadHeld k) = (3, k)
number_and_carried TooMany = (4, 0)
number_and_carried (BadBinding k) = (5, k)
number_and_carried (BadHeader k) = (6, k)
number_and_carried (Poisoned k) = (7, k)
number_and_carried (InvalidBucket k) = (8, k)
number_and_carried (Damaged k) = (9, k)
number_and_carried (SerialsSpent k) = (10, k)
number_and_carried (SerializationFailure why) = (11, 4096)
number_and_carried (NotHeld k) = (12, k)
number_and_carried Protected = (13, 0)
number_and_carried (Repeated k) = (14, k)
number_and_carried (BadCrew k) = (15, k)
number_and_carried (StaleBoot k) = (16, k)

-- ---- a call's checks: a condition refuses so, else those behind it; or the call passes

infixr 5 ◌refuses◌else◌
pub data Checks : Type 1 where
  pass : Checks
  ◌refuses◌else◌ : Type 0 → Refusal → Checks → Checks

-- "the first that applies is given, and only then"
abbrev pub First : Checks → Refusal → Type 0
First pass x = ⊥
First (C refuses r else cs) x = (C × (x ≡ r)) ⊎ ((C → ⊥) × First cs x)

abbrev pub Passed : Checks → Type 0
Passed pass = Unit {0}
Passed (C refuses r else cs) = (C → ⊥) × Passed cs

-- some checks, then others
infixr 4 ◌then◌
abbrev pub ◌then◌ : (Checks → Checks) → Checks → Checks
some then cs = some cs

-- ---- 1, BadShape: "head or a length breaks the arena rules"

abbrev pub shape : World → Checks → Checks
shape w cs = (Shape w.head (length w.table) → ⊥) refuses BadShape else cs

-- "Health: H lent bytes"
abbrev pub bytes : World → Checks → Checks
bytes w cs = (length w.health ≢ w.head.headers) refuses BadShape else cs

-- "Registry: 0 to 64 u32 header numbers"
abbrev pub entries : List ℕ → Checks → Checks
entries registry cs = (64 < length registry) refuses BadShape else cs

-- document 02, L13: "Give each cell a counter .. (not one a cell: BadShape)"
abbrev pub one_a_cell : World → List ℕ → Checks → Checks
one_a_cell w counters cs = (length counters ≢ size w) refuses BadShape else cs

-- ---- 2, BadScript: "length no multiple of 3, over 32,768 steps, or place past the end"

abbrev pub script_is : List ℕ → ℕ → Checks → Checks
script_is script place cs = (((length script % 3 ≢ 0) ⊎ (32768 < length script / 3)) ⊎ (length script / 3 < place)) refuses BadScript else cs

-- ---- 3, BadHeld, and 16, StaleBoot: "held list odd or over 64 leases (carries the lease count rounded down), else the first lease not live". Document 02,
-- L8: "Lease lists must now divide by three"; "after the length tests, position by position, before 3 and 12 at that place"

-- from position i on
abbrev pub each_held : World → ℕ → List ℕ → Checks → Checks
each_held w i [] cs = cs
each_held w i (c ∷ []) cs = cs
each_held w i (c ∷ s ∷ []) cs = cs
each_held w i (c ∷ s ∷ b ∷ ws) cs =
    (b ≢ w.head.boot) refuses StaleBoot i
    else (IsLive w c s → ⊥) refuses BadHeld i
    else each_held w (i + 1) ws cs

abbrev pub held_list : World → List ℕ → Checks → Checks
held_list w held cs = ((length held % 3 ≢ 0) ⊎ (64 < length held / 3)) refuses BadHeld (length held / 3) else each_held w 0 held cs

-- ---- 4, TooMany: "key or lease list odd, in multi-lock held + keys over 64, leases over 64, grant buffer not two words a key"; document 02, L8: "the grant
-- buffer has three words a key"

abbrev pub key_list : (held keys grants : List ℕ) → Checks → Checks
key_list held keys grants cs =
    (((length keys % 2 ≢ 0) ⊎ (64 < length held / 3 + length keys / 2)) ⊎ (length grants ≢ 3 * (length keys / 2))) refuses TooMany else cs

abbrev pub lease_list : List ℕ → Checks → Checks
lease_list leases cs = ((length leases % 3 ≢ 0) ⊎ (64 < length leases / 3)) refuses TooMany else cs

-- ---- 5, BadBinding: "a key's binding past the registry, seen before any attempt", with the "first position"

abbrev pub binding_at : (p : ℕ) (registry : List ℕ) (binding : ℕ) → Checks → Checks
binding_at p registry binding cs = (length registry ≤ binding) refuses BadBinding p else cs

-- `left` keys from position p on
abbrev pub bindings : (left p : ℕ) (registry keys : List ℕ) → Checks → Checks
bindings zero p registry keys cs = cs
bindings (suc left) p registry keys cs = binding_at p registry (get_or keys (2 * p) 0) (bindings left (p + 1) registry keys cs)

-- ---- 8, InvalidBucket: "a cell number at least H x B in a call by cell", with "that number"

abbrev pub in_range : World → ℕ → Checks → Checks
in_range w c cs = (size w ≤ c) refuses InvalidBucket c else cs

-- ---- 12, NotHeld, and 16: "a lease to release or read is not live", with "position, 0 for one"

abbrev pub one_lease : World → Lease → Checks → Checks
one_lease w l cs =
    (l.boot ≢ w.head.boot) refuses StaleBoot 0
    else (IsLive w l.cell l.serial → ⊥) refuses NotHeld 0
    else cs

-- ---- 13, Protected: "it is live and in the held list"; that it is live stands before it

abbrev pub not_in : List ℕ → Lease → Checks → Checks
not_in held l cs = StandsIn l.cell l.serial (holds held) refuses Protected else cs

-- ---- 14, Repeated: "a live lease stands earlier in the list". "12 and 14 are tested together by position, before any release."

-- from position i on; `earlier` stand before it
abbrev pub each_given : World → ℕ → (earlier : List Hold) → List ℕ → Checks → Checks
each_given w i earlier [] cs = cs
each_given w i earlier (c ∷ []) cs = cs
each_given w i earlier (c ∷ s ∷ []) cs = cs
each_given w i earlier (c ∷ s ∷ b ∷ ws) cs =
    (b ≢ w.head.boot) refuses StaleBoot i
    else (IsLive w c s → ⊥) refuses NotHeld i
    else StandsIn c s earlier refuses Repeated i
    else each_given w (i + 1) (earlier ++ (record { cell = c; serial = s } ∷ [])) ws cs

-- ---- 15, BadCrew: "first fault, lists before turns: crew limits; a cell out of range or not above the one before; a turn naming no member", with "0;
-- member; turn"

unfoldable pub sum : List ℕ → ℕ
sum [] = 0
sum (n ∷ ns) = n + sum ns

-- "1 to 16 members, each with 0 to 64 cells, K at most 256, and up to 65,536 turns naming members"; the run of cells has as many as the members have in all
pub record Limits (counts cells turns : List ℕ) : Type 0 where
  pub some_members : 1 ≤ length counts
  pub few_members : length counts ≤ 16
  pub few_each : (m : ℕ) → get_or counts m 0 ≤ 64
  pub few_cells : sum counts ≤ 256
  pub cells_are : length cells ≡ sum counts
  pub few_turns : length turns ≤ 65536

-- each cell in range and above the one before: the next one is at least `low`
abbrev pub Rises : (inside low : ℕ) → List ℕ → Type 0
Rises inside low [] = Unit {0}
Rises inside low (c ∷ cs) = (low ≤ c) × (c < inside) × Rises inside (c + 1) cs

-- the cells of member m stand behind those of the members before it
abbrev pub cells_of_lem : (counts cells : List ℕ) → ℕ → List ℕ
cells_of_lem counts cells m = take (get_or counts m 0) (drop (sum (take m counts)) cells)

-- `left` members from m on
abbrev pub lists : World → (left m : ℕ) (counts cells : List ℕ) → Checks → Checks
lists w zero m counts cells cs = cs
lists w (suc left) m counts cells cs = (Rises (size w) 0 (cells_of_lem counts cells m) → ⊥) refuses BadCrew m else lists w left (m + 1) counts cells cs

-- from turn i on
abbrev pub each_turn : (members i : ℕ) → List ℕ → Checks
each_turn members i [] = pass
each_turn members i (m ∷ ms) = (members ≤ m) refuses BadCrew i else each_turn members (i + 1) ms

abbrev pub crew_is : World → (counts cells turns : List ℕ) → Checks
crew_is w counts cells turns =
    (Limits counts cells turns → ⊥) refuses BadCrew 0
    else lists w (length counts) 0 counts cells (each_turn (length counts) 0 turns)

-- ---- each call's checks: "Checks in this order"; "Calls check only what they take."

abbrev pub checks : World → Call → Checks
checks w (try_acquire c) = shape w then in_range w c then pass
checks w (drop_lease l) = shape w then one_lease w l then pass
checks w (read_permission l) = shape w then one_lease w l then pass
checks w (competing_acquire l) = shape w then one_lease w l then pass
checks w (release_then_handoff l) = shape w then one_lease w l then pass
checks w (foreign_release held l) = shape w then held_list w held then one_lease w l then not_in held l then pass
checks w (drop_preserving held l) = shape w then held_list w held then one_lease w l then not_in held l then pass
checks w (acquire_preserving held c) = shape w then held_list w held then in_range w c then pass
checks w (environment script place held) = shape w then bytes w then script_is script place then held_list w held then pass
checks w (try_lock script place held c) = shape w then bytes w then script_is script place then held_list w held then in_range w c then pass
checks w (transactional registry script place held binding bucket) =
    shape w then bytes w then entries registry then script_is script place then held_list w held then binding_at 0 registry binding then pass
checks w (acquire_bucket registry script place held binding bucket) =
    shape w then bytes w then entries registry then script_is script place then held_list w held then binding_at 0 registry binding then pass
checks w (release_all script place leases) = shape w then bytes w then script_is script place then lease_list leases then each_given w 0 [] leases then pass
checks w (acquire_locks registry script place held keys grants) =
    shape w then bytes w then entries registry then script_is script place then held_list w held then key_list held keys grants
    then bindings (length keys / 2) 0 registry keys then pass
checks w (acquire_sorted registry script place held keys grants) =
    shape w then bytes w then entries registry then script_is script place then held_list w held then key_list held keys grants
    then bindings (length keys / 2) 0 registry keys then pass
checks w (crew counts cells turns) = shape w then bytes w then crew_is w counts cells turns
checks w (crew_at_work counts cells turns counters) = shape w then bytes w then one_a_cell w counters then crew_is w counts cells turns
