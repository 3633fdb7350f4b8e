-- From promise to theorem: what meets a book call's promise is what the item of a history does. Each premise is the equation of the code's promise, word for word.
use Rattle.std.specs.Prelude.{ℕ, ◌≡◌}
use Rattle.std.proofs.Math.Path.{ap}
use mathlib.Core.List.{List, ◌∷◌}
use Rattle.types.specs.declared.Lease.{Lease}
use Rattle.setpoint.specs.declared.Setpoint.{Setpoint}
use Rattle.book_rules.specs.Calls.{prepare_book_of, write_setpoint_of, read_setpoint_of, read_version_of}
use Rattle.book_theory.specs.Items.{prepare_book, write_setpoint, read_setpoint, read_version, prepared, wrote, was_read, version_read_lem, Shift, shift_of, world_of, head_of_lem, next_shift}
use Rattle.book_rules.specs.Rules.{BookAnswer}

-- ---- what meets the promise is the item of a history

module _ (s : Shift) where
  pub prepare_book_performs : (o : BookAnswer × List ℕ) → o ≡ prepare_book_of (head_of_lem s) s.book
      → shift_of s.course o.1 (prepared o.0 ∷ s.entries) ≡ next_shift s prepare_book
  unfolding next_shift
  prepare_book_performs o p = ap (λ (x : BookAnswer × List ℕ). shift_of s.course x.1 (prepared x.0 ∷ s.entries)) p

  pub write_setpoint_performs : (slot : ℕ) (l : Lease) (q : Setpoint) (o : BookAnswer × List ℕ)
      → o ≡ write_setpoint_of (head_of_lem s) (world_of s).table s.book slot l q
      → shift_of s.course o.1 (wrote slot l q o.0 ∷ s.entries) ≡ next_shift s (write_setpoint slot l q)
  unfolding next_shift
  write_setpoint_performs slot l q o p = ap (λ (x : BookAnswer × List ℕ). shift_of s.course x.1 (wrote slot l q x.0 ∷ s.entries)) p

  pub read_setpoint_performs : (slot : ℕ) (a : BookAnswer) → a ≡ read_setpoint_of (head_of_lem s) s.book slot
      → shift_of s.course s.book (was_read slot a ∷ s.entries) ≡ next_shift s (read_setpoint slot)
  unfolding next_shift
  read_setpoint_performs slot a p = ap (λ (x : BookAnswer). shift_of s.course s.book (was_read slot x ∷ s.entries)) p

  pub read_version_performs : (slot w : ℕ) (a : BookAnswer) → a ≡ read_version_of (head_of_lem s) s.book slot w
      → shift_of s.course s.book (version_read_lem slot w a ∷ s.entries) ≡ next_shift s (read_version slot w)
  unfolding next_shift
  read_version_performs slot w a p = ap (λ (x : BookAnswer). shift_of s.course s.book (version_read_lem slot w x ∷ s.entries)) p
