-- What a read may tell.
use Rattle.std.specs.Prelude.{ℕ, ◌+◌, ◌≤◌, ◌<◌, ◌≢◌, List, Bool, length, replicate, Ok, Err}
use Rattle.std.proofs.Math.Path.{◌≡◌}
use Rattle.std.proofs.Math.Bool.{true, false}
use Rattle.model.specs.Arena.{head_fits}
use Rattle.types.specs.declared.Head.{Head}
use Rattle.types.specs.declared.Lease.{Lease}
use Rattle.setpoint.specs.Codec.{has_body}
use Rattle.setpoint.specs.declared.Setpoint.{Setpoint}
use Rattle.book_rules.specs.Layout.{slots_of, newest_at, is_sound}
use Rattle.book_rules.specs.Rules.{BookAnswer, BookCheck, last_version}
use Rattle.book_rules.specs.declared.BookDone.TheVariants.{Done, Written, Setting}
use Rattle.book_rules.specs.declared.BookRefusal.{BookRefusal}
use Rattle.book_rules.specs.declared.BookRefusal.TheVariants.{BadShape, BadSlot, StaleBoot, NotHeld, NotFinite, DamagedBook, VersionsSpent, BookFull, NeverWritten}
use Rattle.book_rules.specs.Fine.{BookFine, ClaimFine}

-- what a read tells has a body: a face may take its word
abbrev pub body_read : BookAnswer → Bool
body_read (Ok Done) = true
body_read (Ok (Written v m)) = true
body_read (Ok (Setting s v)) = has_body s
body_read (Err r) = true

pub data Prepared (h : Head) (b : List ℕ) : BookAnswer × List ℕ → Type 0 where
  was_prepared : head_fits h ≡ true → BookFine (slots_of h) (length b) → Prepared h b (Ok Done, replicate (length b) 0)
  not_prepared : (r : BookRefusal) → Prepared h b (Err r, b)

-- ---- writing

-- all but the room: what is tested before BookFull
pub record Claim (h : Head) (t b : List ℕ) (slot : ℕ) (l : Lease) (s : Setpoint) : Type 0 where
  pub given : ClaimFine h t (length b) slot l s
  pub sound : is_sound (slots_of h) b ≡ true
  pub remains : newest_at b slot ≢ last_version

-- which refusals go by what a write is given alone
abbrev pub is_given : BookRefusal → Bool
is_given BadShape = true
is_given BadSlot = true
is_given StaleBoot = true
is_given NotHeld = true
is_given NotFinite = true
is_given DamagedBook = false
is_given VersionsSpent = false
is_given BookFull = false
is_given NeverWritten = false

abbrev pub fault_of : BookCheck → BookRefusal
fault_of (Ok tt) = BookFull
fault_of (Err r) = r

-- ---- reading

-- a version that a slot with this newest one keeps: "the newest four settings"
abbrev pub Keeps : ℕ → ℕ → Type 0
Keeps newest w = (1 ≤ w) × (w ≤ newest) × (newest < w + 4)
