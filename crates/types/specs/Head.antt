-- Document 01, "The arena": the head, and what its own operations give.
use Rattle.std.specs.Prelude.{ℕ, ◌+◌, ◌*◌, Bool, not, ◌&&◌, ltb, leb, eqb, if◌then◌else◌, Some, None}
use Rattle.types.specs.declared.Head.{Head}
use Rattle.types.specs.declared.Issue.{Issue}
use Rattle.types.specs.declared.Lease.{Lease}

-- "The next serial is 1 to 4,294,967,295; at 4,294,967,295 none remains."
abbrev pub last_serial : ℕ
last_serial = 4_294_967_295

abbrev pub serial_remains : ℕ → Bool
serial_remains next = ltb next last_serial

abbrev pub within : ℕ → ℕ → ℕ → Bool
within low high n = leb low n && leb n high

-- "H x B": how many cells there are
abbrev pub cells_of : Head → ℕ
cells_of h = h.headers * h.buckets

-- "Header slots H from 1 to 64, buckets per header B from 1 to 1,024, H x B at most 4,096."
unfoldable pub head_fits : Head → Bool
head_fits h =
    within 1 64 h.headers
    && within 1 1024 h.buckets
    && leb (cells_of h) 4096
    && within 1 last_serial h.next

-- "Table: a lent run of u32 of exactly 3 x H x B words"
unfoldable pub shape_fits : Head → ℕ → Bool
shape_fits h words = head_fits h && eqb words (3 * cells_of h)

-- "Health: H lent bytes"
unfoldable pub health_fits : Head → ℕ → Bool
health_fits h bytes = eqb bytes h.headers

abbrev pub head_of : ℕ → ℕ → ℕ → ℕ → Head
head_of h b n k = record { headers = h; buckets = b; next = n; boot = k }

-- the same arena with another next serial; the boot number stays
abbrev pub spent_to : Head → ℕ → Head
spent_to h n = head_of h.headers h.buckets n h.boot

-- "next serial issued": the serial, and the head without it
unfoldable pub issue_of : Head → Issue
issue_of h =
    if serial_remains h.next then record { head = spent_to h (h.next + 1); serial = Some h.next }
    else record { head = h; serial = None }

-- document 02, L8: "A lease with another boot number" than the head's
abbrev pub is_stale : Head → Lease → Bool
is_stale h l = not (eqb l.boot h.boot)
