-- The cells as records: the table that they spell, the rules on one record, and what the two calls do with a slice of them.
-- A reader of the promises needs `spelled` alone; the rest says how the code gets there, and `Laws` that it is document 01's.
use Rattle.std.specs.Prelude.{ℕ, ◌*◌, List, [], ◌∷◌, not, ◌&&◌, ltb, length, get_or, set, if◌then◌else◌, Option, Some, None, Ok, Err}
use Rattle.types.specs.Checks.{Found}
use Rattle.model.specs.Arena.{shape_fits, state_of, is_stale, held_by, issue_of}
use Rattle.model.specs.Lock.{outcome_of, answer_of}
use Rattle.model.specs.Calls.{replied, refused}
use Rattle.types.specs.declared.Answer.TheVariants.{Done}
use Rattle.types.specs.declared.Head.{Head}
use Rattle.types.specs.declared.Lease.{Lease}
use Rattle.types.specs.declared.Refusal.{Refusal}
use Rattle.types.specs.declared.Refusal.TheVariants.{BadShape, InvalidBucket, NotHeld, StaleBoot}
use Rattle.types.specs.declared.Reply.{Reply}
use Rattle.types.specs.declared.State.{State}
use Rattle.types.specs.declared.State.TheVariants as state
use Rattle.types.specs.declared.Take.{Take}
use Rattle.types.specs.declared.Take.TheVariants as taking
use Rattle.records.specs.declared.Cell.{Cell}
use Rattle.records.specs.declared.Changed.{Changed}

-- the table that records spell: "bit, owner, waiters for each cell"
unfoldable pub spelled : List Cell → List ℕ
spelled [] = []
spelled (c ∷ cs) = c.bit ∷ c.owner ∷ c.waiters ∷ spelled cs

abbrev pub cell_of : ℕ → ℕ → ℕ → Cell
cell_of bit owner waiters = record { bit = bit; owner = owner; waiters = waiters }

-- a cell of three zeros; what lies outside is read so
abbrev pub none : Cell
none = cell_of 0 0 0

-- ---- where the record stands, or why the slice has no such place

unfoldable pub spot_of : Head → ℕ → ℕ → Refusal → Found
spot_of h n c x = if not (shape_fits h (3 * n)) then Err BadShape else if ltb c n then Ok c else Err x

unfoldable pub take_spot_of : Head → ℕ → ℕ → Found
take_spot_of h n c = spot_of h n c (InvalidBucket c)

-- 16 comes behind 1 and before 12
unfoldable pub drop_spot_of : Head → ℕ → Lease → Found
drop_spot_of h n l =
    if is_stale h l && shape_fits h (3 * n) then Err (StaleBoot 0)
    else spot_of h n l.cell (NotHeld 0)

-- ---- the rules on one record

abbrev pub changed : Cell → Reply → Changed
changed c r = record { cell = c; reply = r }

-- the reply of the one attempt of a take
abbrev pub take_reply_of : Head → ℕ → Take → Reply
take_reply_of h n a = replied h 1 (answer_of h.boot (outcome_of n a))

abbrev pub serve : Option ℕ → Head → Cell → ℕ → Changed
serve (Some s) h c n = changed (cell_of 1 s c.waiters) (take_reply_of h n (taking.Granted s))
serve None h c n = changed c (take_reply_of h n taking.Spent)

unfoldable pub take_free_of : Head → Cell → ℕ → Changed
take_free_of h c n = serve (issue_of h).serial (issue_of h).head c n

abbrev pub take_by : State → Head → Cell → ℕ → Changed
take_by state.Damaged h c n = changed c (take_reply_of h n taking.Damaged)
take_by (state.Held owner) h c n = changed c (take_reply_of h n (taking.Busy owner))
take_by state.Free h c n = take_free_of h c n

-- one compare-and-set of record c, which stands for cell n
unfoldable pub take_rule_of : Head → Cell → ℕ → Changed
take_rule_of h c n = take_by (state_of h.next c.bit c.owner) h c n

-- one release of record c
unfoldable pub drop_rule_of : Head → Cell → Lease → Changed
drop_rule_of h c l =
    if held_by (state_of h.next c.bit c.owner) l.serial then changed (cell_of 0 0 c.waiters) (replied h 0 Done)
    else changed c (refused h (NotHeld 0))

-- ---- a call: the record is copied out, a rule is called, and what it makes is written back

abbrev pub call_at : Found → (Cell → Changed) → Head → List Cell → Reply × List Cell
call_at (Err r) rule h cells = (refused h r, cells)
call_at (Ok at) rule h cells = let k = rule (get_or cells at none) in (k.reply, set cells at k.cell)

unfoldable pub call_of : {X : Type 0} → (Head → ℕ → X → Found) → (Head → Cell → X → Changed) → Head → List Cell → X → Reply × List Cell
call_of place rule h cells x = call_at (place h (length cells) x) (λ c. rule h c x) h cells
