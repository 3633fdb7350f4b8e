-- The stages of `drop_preserving_borrows`, and its quick way; and a lease of a list by the place of its first word.
use Rattle.std.specs.Prelude.{ℕ, ◌+◌, ◌*◌, ◌≡◌, Bool, length, get_or, Ok, Err}
use Rattle.std.proofs.Math.Path.{refl, ap}
use Rattle.std.proofs.Common.{◌∙◌, arith}
use mathlib.Core.List.{List, [], ◌∷◌}
use Rattle.std.proofs.Math.Bool.{true, false}
use Rattle.types.specs.Checks.{Check}
use Rattle.model.specs.Log.{Made, gives, ◌>>=◌}
use Rattle.model.specs.Arena.{set_cell, lease_of, hold_in, holds_of, leases_of, shape_fits, is_in}
use Rattle.model.specs.Refusals.{first, judge}
use Rattle.model.specs.Checks.{stale_boot, not_held, is_protected, not_live, lease_rules, held_lease_rules}
use Rattle.model.specs.Calls.{refused, replied, release_of, drop_lease_of, drop_preserving_of}
use Rattle.laws.specs.Checks.{lease_in, LeaseFine, lease_fine, shape_ok, or_else, first_append, first_hit, first_skip}
use Rattle.types.specs.declared.Answer.TheVariants.{Done}
use Rattle.types.specs.declared.Head.{Head}
use Rattle.types.specs.declared.Lease.{Lease}
use Rattle.types.specs.declared.Refusal.{Refusal}
use Rattle.types.specs.declared.Refusal.TheVariants.{Protected}
use Rattle.types.specs.declared.Reply.{Reply}

-- the release, or a refusal that changes nothing
abbrev dropping : Head → List ℕ → Lease → Check → Made (Reply × List ℕ)
dropping h t l c =
    judge c (λ r. gives (refused h r, t)) do
      u ← release_of t (hold_in l)
      gives (replied h 0 Done, u)

-- of a live lease: 13, or the release
abbrev by_held : Bool → Head → List ℕ → Lease → Reply × List ℕ
by_held true h t l = (refused h Protected, t)
by_held false h t l = (replied h 0 Done, set_cell t l.cell 0 0)

unfoldable pub drop_unprotected_of : Head → List ℕ → List ℕ → Lease → Reply × List ℕ
drop_unprotected_of h t held l = by_held (is_in (hold_in l) (holds_of held)) h t l

-- behind a held list that is fine: 16 and 12, and then that
unfoldable pub drop_behind_of : Head → List ℕ → List ℕ → Lease → Reply × List ℕ
drop_behind_of h t held l = (dropping h t l (first (stale_boot h 0 l ∷ not_held h t 0 l ∷ is_protected held l ∷ []))).seen

module _ (h : Head) (t held : List ℕ) (l : Lease) where
  abbrev then13 : Check → Check
  then13 c = or_else c (first (is_protected held l ∷ []))

  behind_is : (c : Check) → first (stale_boot h 0 l ∷ not_held h t 0 l ∷ []) ≡ c → drop_behind_of h t held l ≡ (dropping h t l (then13 c)).seen
  unfolding drop_behind_of
  behind_is c e = ap (λ k. (dropping h t l k).seen) (first_append (stale_boot h 0 l ∷ not_held h t 0 l ∷ []) (is_protected held l ∷ []) ∙ ap then13 e)

  pub behind_ends : (r : Refusal) → first (stale_boot h 0 l ∷ not_held h t 0 l ∷ []) ≡ Err r → drop_behind_of h t held l ≡ (refused h r, t)
  behind_ends r e = behind_is (Err r) e

  pub behind_goes : first (stale_boot h 0 l ∷ not_held h t 0 l ∷ []) ≡ Ok tt → drop_behind_of h t held l ≡ drop_unprotected_of h t held l
  unfolding drop_unprotected_of first
  behind_goes e = behind_is (Ok tt) e ∙ go (is_in (hold_in l) (holds_of held)) refl
    where
      go : (b : Bool) → is_in (hold_in l) (holds_of held) ≡ b → (dropping h t l (first (is_protected held l ∷ []))).seen ≡ by_held b h t l
      go true q = ap (λ k. (dropping h t l k).seen) (first_hit (is_protected held l) [] q)
      go false q = ap (λ k. (dropping h t l k).seen) (first_skip (is_protected held l) [] q)

-- a lease that is live, behind a shape that fits, has its words in the table
pub behind_fine : (h : Head) (t : List ℕ) (l : Lease) → shape_fits h (length t) ≡ true
    → first (stale_boot h 0 l ∷ not_held h t 0 l ∷ []) ≡ Ok tt → LeaseFine h t l
unfolding lease_rules
behind_fine h t l s e = lease_fine h t l (shape_ok h t _ s ∙ e)

-- with an empty held list it is `drop_lease`
pub drop_unheld : (h : Head) (t held : List ℕ) (l : Lease) → length held ≡ 0 → (drop_preserving_of h t held l).seen ≡ (drop_lease_of h t l).seen
unfolding drop_preserving_of drop_lease_of held_lease_rules lease_rules first not_live is_in leases_of holds_of
drop_unheld h t [] l e = refl
drop_unheld h t (x ∷ xs) l e = absurd (omega arith)
