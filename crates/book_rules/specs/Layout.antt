-- Document 02, L2 and L10: where lines and bodies stand in the book, what they say, and what is damage.
use Rattle.std.specs.Prelude.{ℕ, zero, suc, ◌+◌, ◌*◌, ◌-◌, ◌/◌, ◌%◌, min, List, [], ◌∷◌, Bool, true, false, not, ◌&&◌, ◌||◌, leb, eqb, length, get_or, if◌then◌else◌, Option, Some, None}
use Rattle.model.specs.Arena.{cells_of}
use Rattle.types.specs.declared.Head.{Head}
use Rattle.setpoint.specs.declared.Setpoint.{Setpoint}
use Rattle.setpoint.specs.Codec.{join_of, decode_of}

-- L2: "one slot for each cell, at most the first 64"
abbrev pub slots_of : Head → ℕ
slots_of h = min (cells_of h) 64

-- ---- over all lines

-- a test holds of each number below m
unfoldable pub all : ℕ → (ℕ → Bool) → Bool
all zero f = true
all (suc m) f = all m f && f m

-- ---- where lines and bodies stand, of n slots

-- "the table of contents has four lines a slot, newest first": line 4 * slot is the slot's newest, line 4 * slot + 3 its oldest of four
abbrev pub lines_of : ℕ → ℕ
lines_of n = 4 * n

-- L2: "A table of contents first, one 8-byte line": line k begins at 8 * k, and the room for bodies here
abbrev pub front_of : ℕ → ℕ
front_of n = 32 * n

-- the eight bytes of a line from p on, and the five of a body
unfoldable pub line_at : List ℕ → ℕ → List ℕ
line_at b p = get_or b p 0 ∷ get_or b (p + 1) 0 ∷ get_or b (p + 2) 0 ∷ get_or b (p + 3) 0 ∷ get_or b (p + 4) 0 ∷ get_or b (p + 5) 0 ∷ get_or b (p + 6) 0 ∷ get_or b (p + 7) 0 ∷ []

unfoldable pub five_at : List ℕ → ℕ → List ℕ
five_at b p = get_or b p 0 ∷ get_or b (p + 1) 0 ∷ get_or b (p + 2) 0 ∷ get_or b (p + 3) 0 ∷ get_or b (p + 4) 0 ∷ []

-- L2: "(place 2, length 2, version 4, low byte first)"
unfoldable pub place_at : List ℕ → ℕ → ℕ
place_at b k = join_of (get_or b (8 * k) 0) (get_or b (8 * k + 1) 0) 0 0

unfoldable pub length_at : List ℕ → ℕ → ℕ
length_at b k = join_of (get_or b (8 * k + 2) 0) (get_or b (8 * k + 3) 0) 0 0

unfoldable pub version_at : List ℕ → ℕ → ℕ
version_at b k = join_of (get_or b (8 * k + 4) 0) (get_or b (8 * k + 5) 0) (get_or b (8 * k + 6) 0) (get_or b (8 * k + 7) 0)

-- the newest version of a slot; 0 where it was never written
abbrev pub newest_at : List ℕ → ℕ → ℕ
newest_at b slot = version_at b (4 * slot)

-- a used line: it keeps a body
unfoldable pub is_kept : List ℕ → ℕ → Bool
is_kept b k = not (eqb (version_at b k) 0)

-- what the five bytes from p on mean
unfoldable pub setting_at : List ℕ → ℕ → Option Setpoint
setting_at b p = decode_of (five_at b p)

abbrev pub is_setting : Option Setpoint → Bool
is_setting (Some s) = true
is_setting None = false

-- the line of a body at a place
unfoldable pub line_of : ℕ → ℕ → List ℕ
line_of place v = place % 256 ∷ place / 256 ∷ 5 ∷ 0 ∷ v % 256 ∷ v / 256 % 256 ∷ v / 65536 % 256 ∷ v / 16777216 ∷ []

-- ---- "a line or kept body that fits no rule"

-- "newest first, versions falling by one": the line of age i below a newest version v has version v - i, which is 0 where the slot has no such
-- version; so a slot has min v 4 used lines, and behind them unused ones
unfoldable pub is_falling : List ℕ → ℕ → Bool
is_falling b k = eqb (version_at b k) (version_at b (k - k % 4) - k % 4)

-- a used line has length 5 and a place behind the contents, with five bytes there that mean a setpoint; "unused lines zero"
unfoldable pub is_fitting : ℕ → List ℕ → ℕ → Bool
is_fitting n b k =
    if is_kept b k then eqb (length_at b k) 5 && (leb (front_of n) (place_at b k) && (leb (place_at b k + 5) (length b) && is_setting (setting_at b (place_at b k))))
    else eqb (place_at b k) 0 && eqb (length_at b k) 0

-- ---- "or two bodies that overlap"

-- two lines, unless both are used: one body ends where the other begins, or before
unfoldable pub is_apart : List ℕ → ℕ → ℕ → Bool
is_apart b k l = not (is_kept b k && is_kept b l) || (leb (place_at b k + 5) (place_at b l) || leb (place_at b l + 5) (place_at b k))

-- no line or kept body fits no rule, no two bodies overlap
unfoldable pub is_sound : ℕ → List ℕ → Bool
is_sound n b =
    all (lines_of n) (is_falling b)
    && (all (lines_of n) (is_fitting n b) && all (lines_of n) (λ k. all k (λ l. is_apart b k l)))
