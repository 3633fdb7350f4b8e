-- Lists of the book's rules: how `first_fault` goes on, and what it means that all is fine.
-- ---- one rule behind the other
use Rattle.std.specs.Prelude.{ℕ, ◌≤◌, ◌<◌, ◌≡◌, List, true, false, length, Ok, Err}
use Rattle.model.specs.Arena.{cells_of, head_fits, shape_fits, is_stale, hold_in, is_live}
use Rattle.types.specs.declared.Head.{Head}
use Rattle.types.specs.declared.Lease.{Lease}
use Rattle.setpoint.specs.Codec.{has_body}
use Rattle.setpoint.specs.declared.Setpoint.{Setpoint}
use Rattle.book_rules.specs.Layout.{slots_of, front_of, is_sound}
use Rattle.book_rules.specs.Rules.{BookCheck}

abbrev pub or_then : BookCheck → BookCheck → BookCheck
or_then (Ok tt) d = d
or_then (Err r) d = Err r

-- ---- what a call knows once its checks are fine

pub record BookFine (n size : ℕ) : Type 0 where
  pub room : front_of n ≤ size
  pub limit : size ≤ 32768

pub record SlotFine (n size slot : ℕ) : Type 0 where
  pub room : front_of n ≤ size
  pub limit : size ≤ 32768
  pub inside : slot < n

pub record ClaimFine (h : Head) (t : List ℕ) (size slot : ℕ) (l : Lease) (s : Setpoint) : Type 0 where
  pub shape : shape_fits h (length t) ≡ true
  pub slot_is : SlotFine (slots_of h) size slot
  pub fresh : is_stale h l ≡ false
  pub live : is_live h.next (cells_of h) t (hold_in l) ≡ true
  pub own : l.cell ≡ slot
  pub whole : has_body s ≡ true

-- a read, before the version is looked for
pub record OpenFine (h : Head) (b : List ℕ) (slot : ℕ) : Type 0 where
  pub head_fits_lem : head_fits h ≡ true
  pub slot_is : SlotFine (slots_of h) (length b) slot
  pub sound : is_sound (slots_of h) b ≡ true
