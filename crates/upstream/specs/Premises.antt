-- The words of the contracts' records that are not upstream's. A premise on what a call is given says that no check of
-- the call applies up to a place, in the order of docs/REFERENCE.md. docs/CONTRACTS.md has them as a table, with the
-- refusal that answers where one fails.
use Rattle.std.specs.Prelude.{ℕ, ◌≤◌, ◌<◌, ◌≡◌, List, [], ◌∷◌, true, false, length, get_or, take, Ok}
use Rattle.model.specs.Arena.{lease_of, leases_of, holds_of, waiters_at, shape_fits}
use Rattle.model.specs.Refusals.{first}
use Rattle.model.specs.Checks.{bad_shape, bad_health, bad_registry, bad_script, bad_held, bad_held_length, too_many_leases, too_many_keys, not_releasable}
use Rattle.model.specs.Foreign.{flow_of, boundary_of}
use Rattle.model.specs.Lock.{hold_at}
use Rattle.model.specs.Calls.{given}
use Rattle.types.specs.declared.Flow.{Flow}
use Rattle.types.specs.declared.Lease.{Lease}
use Rattle.history.specs.World.{Live}
use Rattle.history.specs.Items.{Call, Clear, rules}
use Rattle.history.specs.Steps.{With, of_flow}
use Rattle.upstream.specs.Vocabulary.{Key, Authority, ReadLease, lease_key, next_serial, contains_key, cells, ValidCell, authorized}

-- ---- of `valid`, what is asked of single cells

-- one cell is valid, whatever the others are
abbrev pub valid_at : Authority → Key → Type 0
valid_at a k = ValidCell (next_serial a) (cells a k)

-- every cell that was valid is valid
abbrev pub keeps_valid : Authority → Authority → Type 0
keeps_valid before after = (k : Key) → contains_key before k → valid_at before k → valid_at after k

-- the cells of these leases are valid
abbrev pub leases_valid : Authority → List ReadLease → Type 0
leases_valid a leases = (i : ℕ) → i < length leases → valid_at a (lease_key (hold_at leases i))

-- ---- leases of this boot

-- the lease has the head's boot number; upstream's leases have none. Document 02, L8: "A lease with another boot number
-- is refused as StaleBoot (16)"
abbrev pub Own : Authority → Lease → Type 0
Own a l = l.boot ≡ a.head.boot

abbrev pub lease_at : List Lease → ℕ → Lease
lease_at ls i = get_or ls i (lease_of 0 0 0)

-- each lease of a list, as words
abbrev pub AllOwn : Authority → List ℕ → Type 0
AllOwn a words = (i : ℕ) → i < length (leases_of words) → Own a (lease_at (leases_of words) i)

-- ---- no check up to a place

-- no check of the call applies
abbrev pub Passes : Authority → Call → Type 0
Passes w k = first (rules w k) ≡ Ok tt

-- head and table have the arena's shape
abbrev pub Fits : Authority → Type 0
Fits w = shape_fits w.head (length w.table) ≡ true

-- so has the health
abbrev pub WholeArena : Authority → Type 0
WholeArena w = Clear (bad_shape w.head w.table ∷ bad_health w.head w.health ∷ [])

-- and the registry has at most 64 headers
abbrev pub WholeKeyed : Authority → List ℕ → Type 0
WholeKeyed w registry =
    Clear (bad_shape w.head w.table ∷ bad_health w.head w.health ∷ bad_registry registry ∷ [])

-- an arena, a script of at most 32,768 steps and a place in it
abbrev pub Scripted : Authority → List ℕ → ℕ → Type 0
Scripted w script place =
    Clear (bad_shape w.head w.table ∷ bad_health w.head w.health ∷ bad_script script place ∷ [])

-- and a registry
abbrev pub Keyed : Authority → List ℕ → List ℕ → ℕ → Type 0
Keyed w registry script place =
    Clear (bad_shape w.head w.table ∷ bad_health w.head w.health ∷ bad_registry registry
    ∷ bad_script script place ∷ [])

-- the length of a held list divides by three, and it has at most 64 leases
abbrev pub WellLong : List ℕ → Type 0
WellLong held = (bad_held_length held).applies ≡ false

-- and each of them is of this boot
abbrev pub Short : Authority → List ℕ → Type 0
Short w held = WellLong held × AllOwn w held

-- an arena, and a held list of live leases of this boot, at most 64
abbrev pub HeldGood : Authority → List ℕ → Type 0
HeldGood w held = Clear (bad_shape w.head w.table ∷ bad_held w.head w.table held)

-- so with a script
abbrev pub ScriptedHeldGood : Authority → List ℕ → ℕ → List ℕ → Type 0
ScriptedHeldGood w script place held =
    Clear (bad_shape w.head w.table ∷ bad_health w.head w.health ∷ bad_script script place
    ∷ bad_held w.head w.table held)

-- and with a registry
abbrev pub KeyedHeldGood : Authority → List ℕ → List ℕ → ℕ → List ℕ → Type 0
KeyedHeldGood w registry script place held =
    Clear (bad_shape w.head w.table ∷ bad_health w.head w.health ∷ bad_registry registry
    ∷ bad_script script place ∷ bad_held w.head w.table held)

-- position i of a held list is the first that is not authorized; those before it are live, and up to there all are of
-- this boot
pub record FirstBad (w : Authority) (list : List ℕ) (i : ℕ) : Type 0 where
  pub inside : i < length (holds_of list)
  pub own : (j : ℕ) → j ≤ i → Own w (lease_at (leases_of list) j)
  pub before : (j : ℕ) → j < i → Live w (hold_at (holds_of list) j)
  pub at : authorized w (hold_at (holds_of list) i) → ⊥

-- the list that `release_all` is given: its length divides by three, and it has at most 64 leases
abbrev pub Few : List ℕ → Type 0
Few leases = (too_many_leases leases).applies ≡ false

-- an arena, a script and such a list
abbrev pub LeasesCounted : Authority → List ℕ → ℕ → List ℕ → Type 0
LeasesCounted w script place leases =
    Clear (bad_shape w.head w.table ∷ bad_health w.head w.health ∷ bad_script script place
    ∷ too_many_leases leases ∷ [])

-- no check on a position of it before i applies
abbrev pub GoodBefore : Authority → List ℕ → ℕ → Type 0
GoodBefore w leases i = Clear (not_releasable w.head w.table 0 [] (take i (leases_of leases)))

-- what the multi-lock is given: whole keys, held leases and keys together at most 64, and a buffer of three words a key
abbrev pub KeysCounted : List ℕ → List ℕ → List ℕ → Type 0
KeysCounted held keys grants = (too_many_keys held keys grants).applies ≡ false

-- ---- inside a lock

-- the header that the registry has for a binding
abbrev pub header_at : List ℕ → ℕ → ℕ
header_at registry binding = get_or registry binding 0

-- the key leads to a cell: its header is in the arena and healthy, and its bucket below B
abbrev pub KeyFound : Authority → List ℕ → ℕ → ℕ → Type 0
KeyFound w registry binding bucket =
    (header_at registry binding < w.head.headers) × (get_or w.health (header_at registry binding) 0 ≡ 0)
    × (bucket < w.head.buckets)

-- what the first boundary leaves, and the second: there the compare-and-set is made
abbrev pub after_first : Authority → List ℕ → ℕ → List ℕ → With Flow
after_first w script place held =
    (boundary_of (given w.head script (holds_of held)) (flow_of (next_serial w) place 0) w.table w.health).seen

abbrev pub after_second : Authority → List ℕ → ℕ → List ℕ → With Flow
after_second w script place held =
    let one = after_first w script place held in
    (boundary_of (given w.head script (holds_of held)) one.0 one.1.0 one.1.1).seen

abbrev pub at_the_swap : Authority → List ℕ → ℕ → List ℕ → Authority
at_the_swap w script place held = of_flow w.head (after_second w script place held)

-- no waiters after the first boundary, and the cell is damaged when it comes to the compare-and-set
abbrev pub SwapDamaged : Authority → List ℕ → ℕ → List ℕ → Key → Type 0
SwapDamaged w script place held c =
    (waiters_at (after_first w script place held).1.0 c ≡ 0) × (valid_at (at_the_swap w script place held) c → ⊥)
