-- A list of leases that no check refuses: each has the head's boot number, and each hold is live. And back.
use Rattle.std.specs.Prelude.{ℕ, ◌+◌, ◌≡◌, List, [], ◌∷◌, map, true, not}
use Rattle.std.proofs.Common.{ap, subst, inl, inr, eqb-true}
use Rattle.std.proofs.lemmas.Bool.{not-false}
use Rattle.model.specs.Arena.{cells_of, is_live, leases_of, holds_of, is_in, hold_in}
use Rattle.model.specs.Checks.{not_live}
use Rattle.types.specs.declared.Head.{Head}
use Rattle.types.specs.declared.Hold.{Hold}
use Rattle.types.specs.declared.Lease.{Lease}
use Rattle.laws.specs.Checks.{not_stale}
use Rattle.laws.specs.Lists.{holds_are}
use Rattle.history.specs.Items.{Clear}
use Rattle.history.specs.Tests.{In, in_first, in_rest, in_cases, differ}

-- all leases of a list have this boot number
abbrev pub AllOf : ℕ → List Lease → Type 0
AllOf boot [] = Unit {0}
AllOf boot (l ∷ ls) = (l.boot ≡ boot) × AllOf boot ls

leases_clear : (h : Head) (t : List ℕ) (i : ℕ) (ls : List Lease) → AllOf h.boot ls → ((l : Hold) → In (map hold_in ls) l → is_live h.next (cells_of h) t l ≡ true)
    → Clear (not_live h t i ls)
unfolding not_live
leases_clear h t i [] o f = tt
leases_clear h t i (l ∷ ls) o f =
    (not_stale h l o.0, (ap not (f (hold_in l) (in_first (hold_in l) (map hold_in ls))), leases_clear h t (i + 1) ls o.1 (λ k j. f k (in_rest (hold_in l) k (map hold_in ls) j))))

clear_leases : (h : Head) (t : List ℕ) (i : ℕ) (ls : List Lease) → Clear (not_live h t i ls) → (l : Hold) → In (map hold_in ls) l → is_live h.next (cells_of h) t l ≡ true
unfolding not_live is_in
clear_leases h t i [] c l j = absurd (differ j)
clear_leases h t i (k ∷ ls) c l j =
    elim (in_cases (hold_in k) l (map hold_in ls) j) [
      | inl e ↦ subst (λ (x : Hold). is_live h.next (cells_of h) t x ≡ true) e (not-false (is_live h.next (cells_of h) t (hold_in k)) c.1.0)
      | inr r ↦ clear_leases h t (i + 1) ls c.1.1 l r
    ]

pub clear_own : (h : Head) (t : List ℕ) (i : ℕ) (ls : List Lease) → Clear (not_live h t i ls) → AllOf h.boot ls
unfolding not_live
clear_own h t i [] c = tt
clear_own h t i (l ∷ ls) c = (eqb-true l.boot h.boot (not-false _ c.0), clear_own h t (i + 1) ls c.1.1)

-- the same of a list as words: its leases are of the head's boot number, and its holds are live
pub live_clear : (h : Head) (t held : List ℕ) → AllOf h.boot (leases_of held) → ((l : Hold) → In (holds_of held) l → is_live h.next (cells_of h) t l ≡ true)
    → Clear (not_live h t 0 (leases_of held))
live_clear h t held o f = leases_clear h t 0 (leases_of held) o (rw (holds_are held) at f)

pub clear_live : (h : Head) (t held : List ℕ) → Clear (not_live h t 0 (leases_of held)) → (l : Hold) → In (holds_of held) l → is_live h.next (cells_of h) t l ≡ true
clear_live h t held c = rw (holds_are held) (clear_leases h t 0 (leases_of held) c)
