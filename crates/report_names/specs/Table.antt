-- The table of padded names: a row of 20 bytes for each number, which is the name of `model` with spaces behind it.
use Rattle.std.specs.Prelude.{ℕ, zero, suc, ◌+◌, ◌-◌, ◌≤◌, ◌<◌, ◌≡◌, refl, List, [], ◌∷◌, ◌++◌, map, Bool, true, false, ◌&&◌, eqb, leb, length, get_or, take, replicate, if◌then◌else◌}
use mathlib.Core.Logic.{◌⊎◌, inl, inr}
use Rattle.std.proofs.Common.{◌∙◌, arith, le_of_suc-le-suc, not-suc-le-zero, leb-true}
use Rattle.std.proofs.Math.ListN.{get_or-map, get_or-eq_default}
use Rattle.std.proofs.Math.Seq.{take-append_seam}
use Rattle.model.specs.Names.{names, name_of}
use Rattle.choice.specs.Pick.{both}
use Rattle.text.specs.Text.{before}

-- "padded byte strings": a name, and spaces up to 20 bytes
abbrev pub padded_of : List ℕ → List ℕ
padded_of name = name ++ replicate (20 - length name) 32

-- "one row per refusal number"
unfoldable pub table_of : List (List ℕ)
table_of = map padded_of names

-- a name has no space in it
abbrev plain : List ℕ → Bool
plain [] = true
plain (b ∷ l) = if eqb b 32 then false else plain l

-- every one of these is a plain name of at most 20 bytes
abbrev all_plain : List (List ℕ) → Bool
all_plain [] = true
all_plain (x ∷ xs) = (plain x && leb (length x) 20) && all_plain xs

record Plain (x : List ℕ) : Type 0 where
  clear : plain x ≡ true
  short : length x ≤ 20

plain_at : (xs : List (List ℕ)) (n : ℕ) → all_plain xs ≡ true → Plain (get_or xs n [])
plain_at [] n e = record { clear = refl; short = omega arith }
plain_at (x ∷ xs) zero e =
    let p = both (plain x && leb (length x) 20) (all_plain xs) e in
    let q = both (plain x) (leb (length x) 20) p.0 in
    record { clear = q.0; short = leb-true (length x) 20 q.1 }
plain_at (x ∷ xs) (suc n) e = plain_at xs n (both (plain x && leb (length x) 20) (all_plain xs) e).1

name_plain : (n : ℕ) → Plain (name_of n)
unfolding name_of names
name_plain n = plain_at ([] ∷ names) n refl

pub name_short : (n : ℕ) → length (name_of n) ≤ 20
name_short n = (name_plain n).short

-- the name ends where its padding begins
before_spaces : (x : List ℕ) (k : ℕ) → plain x ≡ true → before 32 (x ++ replicate k 32) ≡ length x
unfolding before
before_spaces [] zero e = refl
before_spaces [] (suc k) e = refl
before_spaces (b ∷ x) k e = go (eqb b 32) e (before_spaces x k)
  where
    go : (t : Bool) → (if t then false else plain x) ≡ true → (plain x ≡ true → before 32 (x ++ replicate k 32) ≡ length x)
        → (if t then 0 else 1 + before 32 (x ++ replicate k 32)) ≡ suc (length x)
    go true f r = let z : false ≡ true = f in absurd (let w : ◌≡◌ {A = ℕ} 0 1 = cc in omega arith)
    go false f r = omega (arith, r f)

pub trimmed : (n : ℕ) → take (before 32 (padded_of (name_of n))) (padded_of (name_of n)) ≡ name_of n
trimmed n =
    rw (before_spaces (name_of n) (20 - length (name_of n)) (name_plain n).clear)
    (take-append_seam (name_of n) (replicate (20 - length (name_of n)) 32))

-- the row of a number
any_default : (l : List (List ℕ)) (n : ℕ) (d e : List ℕ) → n < length l → get_or l n d ≡ get_or l n e
any_default [] n d e h = absurd (not-suc-le-zero h)
any_default (x ∷ l) zero d e h = refl
any_default (x ∷ l) (suc n) d e h = any_default l n d e (le_of_suc-le-suc h)

pub row_named : (n : ℕ) (d : List ℕ) → 1 ≤ n → n ≤ 16 → get_or table_of (n - 1) d ≡ padded_of (name_of n)
unfolding table_of name_of names
row_named zero d h l = absurd (omega arith)
row_named (suc m) d h l =
    let e : suc m - 1 ≡ m = omega arith in
    rw e (any_default table_of m d (padded_of []) (omega arith) ∙ get_or-map padded_of names m [])

-- no other number has a name
pub no_name : (n : ℕ) → (n < 1) ⊎ ((1 ≤ n) × (16 < n)) → name_of n ≡ []
unfolding name_of names
no_name zero h = refl
no_name (suc n) (inl h) = absurd (omega arith)
no_name (suc n) (inr h) = get_or-eq_default ([] ∷ names) [] h.1
