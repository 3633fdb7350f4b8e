-- Marks on the leases passed, by the remainder of the cell number: they spare the search for one that stands earlier.
use Rattle.std.specs.Prelude.{ℕ, ◌+◌, ◌*◌, ◌%◌, ◌<◌, ◌≡◌, refl, List, [], ◌∷◌, ◌++◌, true, false, ◌≢◌, length, get_or, set, take, if◌then◌else◌}
use Rattle.std.proofs.Common.{sym, ap, ◌∙◌, arith, get_or-set_same, get_or-set_other, ne_eqb}
use Rattle.std.proofs.Math.Decide.{ℕ_discrete}
use Rattle.std.proofs.Math.Nat.{mod-lt}
use Rattle.model.specs.Arena.{hold_in, holds_of, same_hold, is_in}
use Rattle.types.specs.declared.Hold.{Hold}
use Rattle.types.specs.declared.Lease.{Lease}
use Rattle.laws.specs.Checks.{lease_in}
use Rattle.foreign.specs.Laws.{is_in_append}
use Rattle.release.specs.Release.{more_leases}

-- of n marks, that of a hold's cell
abbrev pub mark_at : ℕ → List ℕ → Hold → ℕ
mark_at n marks h = get_or marks (h.cell % n) 0

-- a hold without a mark is not among the earlier ones
abbrev pub Spares : ℕ → List ℕ → List Hold → Type 0
Spares n marks earlier = (h : Hold) → mark_at n marks h ≡ 0 → is_in h earlier ≡ false

pub spares_none : (n : ℕ) (marks : List ℕ) → Spares n marks []
unfolding is_in
spares_none n marks h e = refl

not_alone : (h k : Hold) → k.cell ≢ h.cell → is_in h (k ∷ []) ≡ false
unfolding is_in same_hold
not_alone h k n = rw (ne_eqb k.cell h.cell n)

-- one more is marked
spares_more : (n : ℕ) (marks : List ℕ) (earlier : List Hold) (k : Hold) → 0 < n → length marks ≡ n → Spares n marks earlier → Spares n (set marks (k.cell % n) 1) (earlier ++ (k ∷ []))
spares_more n marks earlier k some size s h e = is_in_append h earlier (k ∷ []) ∙ go (ℕ_discrete (h.cell % n) (k.cell % n))
  where
    go : Dec (h.cell % n ≡ k.cell % n) → (if is_in h earlier then true else is_in h (k ∷ [])) ≡ false
    go (yes q) =
        let one : get_or (set marks (k.cell % n) 1) (k.cell % n) 0 ≡ 1 = get_or-set_same marks (k.cell % n) 1 0 (rw size (mod-lt k.cell some)) in
        absurd (omega (arith, one, ap (λ j. get_or (set marks (k.cell % n) 1) j 0) q, e))
    go (no q) =
        rw (s h (sym (get_or-set_other marks (k.cell % n) (h.cell % n) 1 0 q) ∙ e), not_alone h k (λ z. q (ap (λ j. j % n) (sym z))))

-- the lease at position i of a list is marked
pub spares_next : (n : ℕ) (marks leases : List ℕ) (i : ℕ) (l : Lease) → l ≡ lease_in leases i → 3 * i + 2 < length leases → 0 < n → length marks ≡ n
    → Spares n marks (holds_of (take (3 * i) leases)) → Spares n (set marks (l.cell % n) 1) (holds_of (take (3 * (i + 1)) leases))
spares_next n marks leases i l e b some size s = rw (e, more_leases leases i b) (spares_more n marks (holds_of (take (3 * i) leases)) (hold_in (lease_in leases i)) some size s)
