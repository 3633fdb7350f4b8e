-- Document 01, "Numbers of the refusals", the column "when": the checks on what a call takes, and, below, each call's checks in the
-- order of the table, but for 16, which stands before 3 and 12 at its lease's place. "Calls check only what they take."
use Rattle.std.specs.Prelude.{ℕ, zero, suc, ◌+◌, ◌*◌, ◌/◌, ◌%◌, List, [], ◌∷◌, ◌++◌, Bool, not, ◌||◌, ltb, leb, eqb, length}
use Rattle.model.specs.Arena.{cells_of, shape_fits, health_fits, registry_fits, is_stale, hold_in, is_live, is_in, leases_of, holds_of}
use Rattle.model.specs.Foreign.{steps_in}
use Rattle.model.specs.Lock.{binding_at}
use Rattle.model.specs.Refusals.{Rule, refuse◌carrying◌when◌}
use Rattle.types.specs.declared.Head.{Head}
use Rattle.types.specs.declared.Hold.{Hold}
use Rattle.types.specs.declared.Lease.{Lease}

-- ---- 1 BadShape: "head or a length breaks the arena rules"

abbrev pub bad_shape : Head → List ℕ → Rule
bad_shape h t = refuse 1 carrying 0 when not (shape_fits h (length t))

abbrev pub bad_health : Head → List ℕ → Rule
bad_health h g = refuse 1 carrying 0 when not (health_fits h (length g))

abbrev pub bad_registry : List ℕ → Rule
bad_registry registry = refuse 1 carrying 0 when not (registry_fits (length registry))

-- ---- 2 BadScript: "length no multiple of 3, over 32,768 steps, or place past the end"

abbrev pub bad_script : List ℕ → ℕ → Rule
bad_script script place =
    refuse 2 carrying 0 when
    (not (eqb (length script % 3) 0) || ltb 32768 (steps_in script) || ltb (steps_in script) place)

-- ---- 16 StaleBoot. Document 02, L8: "A lease with another boot number is refused as StaleBoot (16), with its position .. before 3 and 12 at that
-- place"; 0 for one

abbrev pub stale_boot : Head → ℕ → Lease → Rule
stale_boot h i l = refuse 16 carrying i when is_stale h l

-- ---- 3 BadHeld: "held list odd or over 64 leases (carries the lease count rounded down), else the first lease not live". Document 02, L8: "Lease lists
-- must now divide by three"

abbrev pub lease_count : List ℕ → ℕ
lease_count words = length words / 3

abbrev pub is_uneven : List ℕ → Bool
is_uneven words = not (eqb (length words % 3) 0)

abbrev pub bad_held_length : List ℕ → Rule
bad_held_length held = refuse 3 carrying (lease_count held) when (is_uneven held || ltb 64 (lease_count held))

-- position by position, from i on: "after the length tests, position by position, before 3 .. at that place"
unfoldable pub not_live : Head → List ℕ → ℕ → List Lease → List Rule
not_live h t i [] = []
not_live h t i (l ∷ ls) = stale_boot h i l ∷ (refuse 3 carrying i when not (is_live h.next (cells_of h) t (hold_in l))) ∷ not_live h t (i + 1) ls

abbrev pub bad_held : Head → List ℕ → List ℕ → List Rule
bad_held h t held = bad_held_length held ∷ not_live h t 0 (leases_of held)

-- ---- 4 TooMany: "key or lease list odd, in multi-lock held + keys over 64, leases over 64, grant buffer not two words a key". Document 02, L8: "the
-- grant buffer has three words a key"; a key stays two words

abbrev pub count_in : List ℕ → ℕ
count_in keys = length keys / 2

abbrev pub is_odd : List ℕ → Bool
is_odd keys = not (eqb (length keys % 2) 0)

abbrev pub too_many_keys : List ℕ → List ℕ → List ℕ → Rule
too_many_keys held keys grants =
    refuse 4 carrying 0 when
    (is_odd keys || ltb 64 (lease_count held + count_in keys) || not (eqb (length grants) (3 * count_in keys)))

abbrev pub too_many_leases : List ℕ → Rule
too_many_leases leases = refuse 4 carrying 0 when (is_uneven leases || ltb 64 (lease_count leases))

-- ---- 5 BadBinding: "a key's binding past the registry, seen before any attempt", first position

abbrev pub bad_binding : List ℕ → ℕ → ℕ → Rule
bad_binding registry i binding = refuse 5 carrying i when leb (length registry) binding

-- `left` keys from position i on
unfoldable pub bad_bindings : ℕ → ℕ → List ℕ → List ℕ → List Rule
bad_bindings zero i registry keys = []
bad_bindings (suc left) i registry keys = bad_binding registry i (binding_at keys i) ∷ bad_bindings left (i + 1) registry keys

-- ---- 8 InvalidBucket: "a cell number at least H x B in a call by cell"

abbrev pub bad_cell : Head → ℕ → Rule
bad_cell h c = refuse 8 carrying c when leb (cells_of h) c

-- ---- 12 NotHeld, 13 Protected, 14 Repeated

-- "a lease to release or read is not live"; "position, 0 for one"
abbrev pub not_held : Head → List ℕ → ℕ → Lease → Rule
not_held h t i l = refuse 12 carrying i when not (is_live h.next (cells_of h) t (hold_in l))

-- "it is live and in the held list". 16 is tested of both before: their boot numbers are one
abbrev pub is_protected : List ℕ → Lease → Rule
is_protected held l = refuse 13 carrying 0 when is_in (hold_in l) (holds_of held)

-- "a live lease stands earlier in the list"
abbrev pub repeated : ℕ → List Hold → Lease → Rule
repeated i earlier l = refuse 14 carrying i when is_in (hold_in l) earlier

-- "12 and 14 are tested together by position, before any release."; 16 "before .. 12 at that place"
unfoldable pub not_releasable : Head → List ℕ → ℕ → List Hold → List Lease → List Rule
not_releasable h t i earlier [] = []
not_releasable h t i earlier (l ∷ ls) =
    stale_boot h i l ∷ not_held h t i l ∷ repeated i earlier l ∷ not_releasable h t (i + 1) (earlier ++ (hold_in l ∷ [])) ls

-- ---- each call's checks, in the order of the table, 16 before 3 and 12 at its place

unfoldable pub prepare_rules : Head → List ℕ → List ℕ → List Rule
prepare_rules h t g = bad_shape h t ∷ bad_health h g ∷ []

-- `try_acquire`
unfoldable pub cell_rules : Head → List ℕ → ℕ → List Rule
cell_rules h t c = bad_shape h t ∷ bad_cell h c ∷ []

-- `drop_lease`, `read_permission`, `competing_acquire_is_excluded`, `release_then_handoff`
unfoldable pub lease_rules : Head → List ℕ → Lease → List Rule
lease_rules h t l = bad_shape h t ∷ stale_boot h 0 l ∷ not_held h t 0 l ∷ []

-- `acquire_preserving_borrows`
unfoldable pub held_cell_rules : Head → List ℕ → List ℕ → ℕ → List Rule
held_cell_rules h t held c = bad_shape h t ∷ (bad_held h t held ++ (bad_cell h c ∷ []))

-- `drop_preserving_borrows`, `foreign_release_between_attempts`
unfoldable pub held_lease_rules : Head → List ℕ → List ℕ → Lease → List Rule
held_lease_rules h t held l = bad_shape h t ∷ (bad_held h t held ++ (stale_boot h 0 l ∷ not_held h t 0 l ∷ is_protected held l ∷ []))

-- `environment`, `environment_for_borrows`
unfoldable pub script_rules : Head → List ℕ → List ℕ → List ℕ → ℕ → List ℕ → List Rule
script_rules h t g script place held = bad_shape h t ∷ bad_health h g ∷ bad_script script place ∷ bad_held h t held

-- `try_lock`, `other_mutex_preserves_leases`
unfoldable pub lock_rules : Head → List ℕ → List ℕ → List ℕ → ℕ → List ℕ → ℕ → List Rule
lock_rules h t g script place held c = script_rules h t g script place held ++ (bad_cell h c ∷ [])

-- `transactional_try_lock_bucket`, `acquire_index_bucket`
unfoldable pub bucket_rules : Head → List ℕ → List ℕ → List ℕ → List ℕ → ℕ → List ℕ → ℕ → List Rule
bucket_rules h t g registry script place held binding =
    bad_shape h t ∷ bad_health h g ∷ bad_registry registry ∷ bad_script script place ∷ (bad_held h t held ++ (bad_binding registry 0 binding ∷ []))

-- `release_all`
unfoldable pub release_rules : Head → List ℕ → List ℕ → List ℕ → ℕ → List ℕ → List Rule
release_rules h t g script place leases =
    bad_shape h t ∷ bad_health h g ∷ bad_script script place ∷ too_many_leases leases ∷ not_releasable h t 0 [] (leases_of leases)

-- `acquire_index_locks`
unfoldable pub locks_rules : Head → List ℕ → List ℕ → List ℕ → List ℕ → ℕ → List ℕ → List ℕ → List ℕ → List Rule
locks_rules h t g registry script place held keys grants =
    bad_shape h t ∷ bad_health h g ∷ bad_registry registry ∷ bad_script script place ∷ (bad_held h t held ++ (too_many_keys held keys grants ∷ bad_bindings (count_in keys) 0 registry keys))
