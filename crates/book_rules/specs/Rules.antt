-- Document 02, L2 and L10: the refusals of the book's calls, in order, as lists of rules; the first that applies is given.
use Rattle.std.specs.Prelude.{ℕ, ◌+◌, List, [], ◌∷◌, ◌++◌, Bool, not, ◌&&◌, ◌||◌, ltb, leb, eqb, length, if◌then◌else◌, Result, Ok, Err}
use Rattle.model.specs.Arena.{cells_of, head_fits, shape_fits, is_stale, hold_in, is_live}
use Rattle.types.specs.declared.Head.{Head}
use Rattle.types.specs.declared.Hold.{Hold}
use Rattle.types.specs.declared.Lease.{Lease}
use Rattle.setpoint.specs.Codec.{has_body}
use Rattle.setpoint.specs.declared.Setpoint.{Setpoint}
use Rattle.book_rules.specs.Layout.{slots_of, front_of, newest_at, is_sound}
use Rattle.book_rules.specs.Writing.{drop_oldest_of, is_full}
use Rattle.book_rules.specs.declared.BookDone.{BookDone}
use Rattle.book_rules.specs.declared.BookRefusal.{BookRefusal}
use Rattle.book_rules.specs.declared.BookRefusal.TheVariants.{BadShape, BadSlot, StaleBoot, NotHeld, NotFinite, DamagedBook, VersionsSpent, BookFull, NeverWritten}

-- a call's answer, and what the checks of a call come to
abbrev pub BookAnswer : Type 0
BookAnswer = Result BookDone BookRefusal

abbrev pub BookCheck : Type 0
BookCheck = Result Unit BookRefusal

-- a rule: a refusal, and the test that makes it apply
pub record BookRule : Type 0 where
  pub refusal : BookRefusal
  pub applies : Bool

infix 6 refuse◌when◌
abbrev pub refuse◌when◌ : BookRefusal → Bool → BookRule
refuse r when b = record { refusal = r; applies = b }

-- "Its refusals in order": the first rule that applies
unfoldable pub first_fault : List BookRule → BookCheck
first_fault [] = Ok tt
first_fault (r ∷ rs) = if r.applies then Err r.refusal else first_fault rs

-- a call: refused, or its steps
abbrev pub judge_book : {A : Type 0} → BookCheck → (BookRefusal → A) → A → A
judge_book (Ok tt) refused steps = steps
judge_book (Err r) refused steps = refused r

-- ---- 1: of what a call takes, head and table or the head alone

abbrev pub bad_table : Head → List ℕ → BookRule
bad_table h t = refuse BadShape when not (shape_fits h (length t))

abbrev pub bad_head : Head → BookRule
bad_head h = refuse BadShape when not (head_fits h)

-- ---- L2: "BadSlot (book too short for its slots, over the limit, or no such slot)"; L10: "A book shorter than its contents is BadSlot"

-- "at most 32,768 bytes"
unfoldable pub is_bad_book : ℕ → ℕ → Bool
is_bad_book n size = ltb size (front_of n) || ltb 32768 size

unfoldable pub is_bad_slot : ℕ → ℕ → ℕ → Bool
is_bad_slot n size slot = is_bad_book n size || leb n slot

abbrev pub bad_book : Head → ℕ → BookRule
bad_book h size = refuse BadSlot when is_bad_book (slots_of h) size

abbrev pub bad_slot : Head → ℕ → ℕ → BookRule
bad_slot h size slot = refuse BadSlot when is_bad_slot (slots_of h) size slot

-- ---- 16. L8: "A lease with another boot number is refused as StaleBoot (16) .. before 3 and 12 at that place"

abbrev pub stale_lease : Head → Lease → BookRule
stale_lease h l = refuse StaleBoot when is_stale h l

-- ---- 12: "Writing needs a live lease on the slot's cell"

unfoldable pub is_holder : Head → List ℕ → ℕ → Hold → Bool
is_holder h t slot l = is_live h.next (cells_of h) t l && eqb l.cell slot

-- its boot number is tested before
abbrev pub not_holder : Head → List ℕ → ℕ → Lease → BookRule
not_holder h t slot l = refuse NotHeld when not (is_holder h t slot (hold_in l))

-- ---- "A pressure that is not finite: NotFinite."

abbrev pub not_finite : Setpoint → BookRule
not_finite s = refuse NotFinite when not (has_body s)

-- ---- by what the book says

-- L10: "a line or kept body that fits no rule, or two bodies that overlap, make every read and write DamagedBook"
abbrev pub damaged : ℕ → List ℕ → BookRule
damaged n b = refuse DamagedBook when not (is_sound n b)

-- "VersionsSpent (at version 4,294,967,295)"
abbrev pub last_version : ℕ
last_version = 4_294_967_295

abbrev pub spent : List ℕ → ℕ → BookRule
spent b slot = refuse VersionsSpent when eqb (newest_at b slot) last_version

-- L10: "Refuse BookFull, last in order, exactly when kept bodies after that drop leave fewer than 5 bytes."
abbrev pub full : ℕ → List ℕ → ℕ → BookRule
full n b slot = refuse BookFull when is_full n (drop_oldest_of b slot)

-- L2: "Version 0 reads as NeverWritten." L10: "NeverWritten now also answers for an older version not kept": 0, one not yet written, one that
-- was dropped
unfoldable pub is_gone : List ℕ → ℕ → ℕ → Bool
is_gone b slot w = eqb w 0 || (ltb (newest_at b slot) w || leb (w + 4) (newest_at b slot))

abbrev pub gone : List ℕ → ℕ → ℕ → BookRule
gone b slot w = refuse NeverWritten when is_gone b slot w

-- ---- each call's checks, in order

-- `prepare_book`
unfoldable pub book_rules : Head → ℕ → List BookRule
book_rules h size = bad_head h ∷ bad_book h size ∷ []

-- `write_setpoint`: on what it is given, then on what the book says
unfoldable pub claim_rules : Head → List ℕ → ℕ → ℕ → Lease → Setpoint → List BookRule
claim_rules h t size slot l s = bad_table h t ∷ bad_slot h size slot ∷ stale_lease h l ∷ not_holder h t slot l ∷ not_finite s ∷ []

unfoldable pub over_rules : ℕ → List ℕ → ℕ → List BookRule
over_rules n b slot = damaged n b ∷ spent b slot ∷ full n b slot ∷ []

abbrev pub write_rules : Head → List ℕ → List ℕ → ℕ → Lease → Setpoint → List BookRule
write_rules h t b slot l s = claim_rules h t (length b) slot l s ++ over_rules (slots_of h) b slot

-- `read_version`, and `read_setpoint` with the newest
unfoldable pub open_rules : Head → List ℕ → ℕ → List BookRule
open_rules h b slot = bad_head h ∷ bad_slot h (length b) slot ∷ damaged (slots_of h) b ∷ []

unfoldable pub kept_rules : List ℕ → ℕ → ℕ → List BookRule
kept_rules b slot w = gone b slot w ∷ []

abbrev pub read_rules : Head → List ℕ → ℕ → ℕ → List BookRule
read_rules h b slot w = open_rules h b slot ++ kept_rules b slot w
