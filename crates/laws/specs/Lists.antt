-- Runs of words, and the leases in them: one step of a walk, lengths, and a run of zeros.
use Rattle.std.specs.Prelude.{ℕ, zero, suc, ◌+◌, ◌*◌, ◌≤◌, ◌≡◌, refl, List, [], ◌∷◌, map, length, get_or, replicate}
use Rattle.std.proofs.Common.{ap, ◌∙◌, arith}
pub use Rattle.choice.specs.Lists.{drop_one}
use Rattle.model.specs.Arena.{bit_at, owner_at, hold_in, leases_of, holds_of, words_of, lease_of, lease_under}
use Rattle.types.specs.declared.Hold.{Hold}
use Rattle.types.specs.declared.Lease.{Lease}

-- ---- leases, and leases as words

-- a lease is its hold and its boot number
pub leases_equal : (l k : Lease) → hold_in l ≡ hold_in k → l.boot ≡ k.boot → l ≡ k
leases_equal l k e b = ap (lease_under l.boot) e ∙ ap (lease_of k.cell k.serial) b

pub length_words : (boot : ℕ) (ls : List Hold) → length (words_of boot ls) ≡ 3 * length ls
unfolding words_of
length_words boot [] = refl
length_words boot (l ∷ ls) = omega (arith, length_words boot ls)

-- words left over are no lease
pub holds_few : (ws : List ℕ) → 3 * length (holds_of ws) ≤ length ws
unfolding holds_of
holds_few [] = omega arith
holds_few (c ∷ []) = omega arith
holds_few (c ∷ s ∷ []) = omega arith
holds_few (c ∷ s ∷ b ∷ ws) = omega (arith, holds_few ws)

-- the holds of a list are its leases without their boot numbers
pub holds_are : (ws : List ℕ) → holds_of ws ≡ map hold_in (leases_of ws)
unfolding holds_of leases_of
holds_are [] = refl
holds_are (c ∷ []) = refl
holds_are (c ∷ s ∷ []) = refl
holds_are (c ∷ s ∷ b ∷ ws) = ap {B = List Hold} (λ ls. record { cell = c; serial = s } ∷ ls) (holds_are ws)

-- there are as many
pub as_many : (ws : List ℕ) → length (leases_of ws) ≡ length (holds_of ws)
unfolding holds_of leases_of
as_many [] = refl
as_many (c ∷ []) = refl
as_many (c ∷ s ∷ []) = refl
as_many (c ∷ s ∷ b ∷ ws) = ap suc (as_many ws)

-- what a call took is read back as it was taken
pub words_back : (boot : ℕ) (ls : List Hold) → holds_of (words_of boot ls) ≡ ls
unfolding holds_of words_of
words_back boot [] = refl
words_back boot (l ∷ ls) = ap {B = List Hold} (λ ks. l ∷ ks) (words_back boot ls)

-- ---- a run of zeros: every cell is free

pub zeros : (n i : ℕ) → ◌≡◌ {A = ℕ} (get_or (replicate n 0) i 0) 0
zeros zero i = refl
zeros (suc n) zero = refl
zeros (suc n) (suc i) = zeros n i

pub zero_bit : (n c : ℕ) → bit_at (replicate n 0) c ≡ 0
unfolding bit_at
zero_bit n c = zeros n (3 * c)

pub zero_owner : (n c : ℕ) → owner_at (replicate n 0) c ≡ 0
unfolding owner_at
zero_owner n c = zeros n (3 * c + 1)
