-- Document 01, "The arena". The head is in crate `types`, with its operations.
use Rattle.std.specs.Prelude.{ℕ, ◌+◌, ◌*◌, ◌/◌, List, [], ◌∷◌, Bool, true, false, not, ◌&&◌, ltb, leb, eqb, get_or, set, if◌then◌else◌}
pub use Rattle.types.specs.Head.{last_serial, serial_remains, within, cells_of, head_of, spent_to, is_stale}
unfoldable pub use Rattle.types.specs.Head.{head_fits, shape_fits, health_fits, issue_of}
use Rattle.types.specs.declared.Head.{Head}
use Rattle.types.specs.declared.Hold.{Hold}
use Rattle.types.specs.declared.Lease.{Lease}
use Rattle.types.specs.declared.State.{State}
use Rattle.types.specs.declared.State.TheVariants.{Free, Held, Damaged}

-- ---- the registry

-- "Registry: 0 to 64 u32 header numbers"
unfoldable pub registry_fits : ℕ → Bool
registry_fits entries = leb entries 64

-- ---- the cells

-- "Cell number = header x B + bucket."
abbrev pub cell_number : ℕ → ℕ → ℕ → ℕ
cell_number buckets header bucket = header * buckets + bucket

-- the same read the other way: the header of a cell
abbrev pub header_of : ℕ → ℕ → ℕ
header_of buckets c = c / buckets

-- "0 is healthy, every other byte is poisoned."
abbrev pub is_poisoned : List ℕ → ℕ → Bool
is_poisoned g header = not (eqb (get_or g header 0) 0)

-- "bit, owner, waiters for each cell"
unfoldable pub bit_at : List ℕ → ℕ → ℕ
bit_at t c = get_or t (3 * c) 0

unfoldable pub owner_at : List ℕ → ℕ → ℕ
owner_at t c = get_or t (3 * c + 1) 0

unfoldable pub waiters_at : List ℕ → ℕ → ℕ
waiters_at t c = get_or t (3 * c + 2) 0

-- the table with another bit and owner in one cell; with other waiters in one cell
unfoldable pub set_cell : List ℕ → ℕ → ℕ → ℕ → List ℕ
set_cell t c bit owner = set (set t (3 * c) bit) (3 * c + 1) owner

unfoldable pub set_waiters : List ℕ → ℕ → ℕ → List ℕ
set_waiters t c n = set t (3 * c + 2) n

-- "A cell is free: bit 0, owner 0."
unfoldable pub is_free : ℕ → ℕ → Bool
is_free bit owner = eqb bit 0 && eqb owner 0

-- "Held: bit 1, owner from 1 to next - 1."
unfoldable pub is_held : ℕ → ℕ → ℕ → Bool
is_held next bit owner = eqb bit 1 && (leb 1 owner && ltb owner next)

-- "Anything else is damaged."
unfoldable pub state_of : ℕ → ℕ → ℕ → State
state_of next bit owner =
    if is_free bit owner then Free
    else if is_held next bit owner then Held owner
    else Damaged

unfoldable pub state_at : ℕ → List ℕ → ℕ → State
state_at next t c = state_of next (bit_at t c) (owner_at t c)

-- ---- leases. Document 02, L8: "The head and every lease gain a boot number"

abbrev pub lease_of : ℕ → ℕ → ℕ → Lease
lease_of c s b = record { cell = c; serial = s; boot = b }

-- a lease of the head's own boot number, as the steps of a call go by it: cell and serial
abbrev pub hold_of : ℕ → ℕ → Hold
hold_of c s = record { cell = c; serial = s }

abbrev pub hold_in : Lease → Hold
hold_in l = hold_of l.cell l.serial

-- what a call took, as a lease: it has the head's boot number
abbrev pub lease_under : ℕ → Hold → Lease
lease_under boot l = lease_of l.cell l.serial boot

abbrev pub held_by : State → ℕ → Bool
held_by Free s = false
held_by (Held owner) s = eqb owner s
held_by Damaged s = false

-- "A lease (cell, serial) is live if the cell is held by that serial." "A lease whose cell is out of range is not live".
-- With its boot number: `lease_live`, below
unfoldable pub is_live : ℕ → ℕ → List ℕ → Hold → Bool
is_live next cells t l = ltb l.cell cells && held_by (state_at next t l.cell) l.serial

-- "three words a lease in all lists": cell, serial, boot number; words left over are no lease
unfoldable pub leases_of : List ℕ → List Lease
leases_of [] = []
leases_of (c ∷ []) = []
leases_of (c ∷ s ∷ []) = []
leases_of (c ∷ s ∷ b ∷ ws) = lease_of c s b ∷ leases_of ws

-- the same without the boot numbers (laws, `holds_are`)
unfoldable pub holds_of : List ℕ → List Hold
holds_of [] = []
holds_of (c ∷ []) = []
holds_of (c ∷ s ∷ []) = []
holds_of (c ∷ s ∷ b ∷ ws) = hold_of c s ∷ holds_of ws

-- what a call took, as words: each lease has the head's boot number
unfoldable pub words_of : ℕ → List Hold → List ℕ
words_of boot [] = []
words_of boot (l ∷ ls) = l.cell ∷ l.serial ∷ boot ∷ words_of boot ls

unfoldable pub same_hold : Hold → Hold → Bool
same_hold a b = eqb a.cell b.cell && eqb a.serial b.serial

-- document 02, L8: a lease that calls accept has the head's boot number and is live
abbrev pub lease_live : Head → List ℕ → Lease → Bool
lease_live h t l = not (is_stale h l) && is_live h.next (cells_of h) t (hold_in l)

-- whether a hold stands in a list
unfoldable pub is_in : Hold → List Hold → Bool
is_in l [] = false
is_in l (k ∷ ks) = if same_hold k l then true else is_in l ks
