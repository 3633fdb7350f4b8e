-- The bits of the first n cells over a history; and that they are those of document 02's own sentence: "from all bits
-- 0: a take sets its cell's bit, a release clears it, any other step only counts".
use Rattle.std.specs.Prelude.{ℕ, zero, suc, ◌≤◌, ◌<◌, ◌≡◌, refl, List, [], ◌∷◌, Bool, true, false, eqb, ltb, length, get_or, set, replicate, if◌then◌else◌}
use Rattle.std.proofs.Common.{arith, length-set, get_or-set_same, get_or-set_other, eqb-true}
use Rattle.std.proofs.Math.Decide.{ℕ_discrete, dec_lt}
use Rattle.std.proofs.Math.ListN.{get_or-eq_default}
use Rattle.std.proofs.lemmas.List.{get_or-replicate, length-replicate, set-get_or}
use Rattle.std.proofs.lemmas.Bool.{eqb-false}
use Rattle.wave_rules.specs.Dump.{no_bits, turns, changes_of, flip_of}

-- the bits after the first j steps; behind the last step they stay
unfoldable pub bits_after : ℕ → List ℕ → ℕ → List ℕ → List ℕ
bits_after n bits zero script = bits
bits_after n bits (suc j) [] = bits
bits_after n bits (suc j) (kind ∷ []) = bits
bits_after n bits (suc j) (kind ∷ cell ∷ []) = bits
bits_after n bits (suc j) (kind ∷ cell ∷ number ∷ rest) = if changes_of n bits kind cell then bits_after n (flip_of bits cell) j rest else bits_after n bits j rest

-- "a take sets its cell's bit, a release clears it, any other step only counts": the bits after one step, word by word
abbrev pub said_of : ℕ → List ℕ → ℕ → ℕ → List ℕ
said_of n bits kind cell = if ltb cell n then (if eqb kind 1 then set bits cell 1 else if eqb kind 2 then set bits cell 0 else bits) else bits

-- and after the first j steps
unfoldable pub said_after : ℕ → List ℕ → ℕ → List ℕ → List ℕ
said_after n bits zero script = bits
said_after n bits (suc j) [] = bits
said_after n bits (suc j) (kind ∷ []) = bits
said_after n bits (suc j) (kind ∷ cell ∷ []) = bits
said_after n bits (suc j) (kind ∷ cell ∷ number ∷ rest) = said_after n (said_of n bits kind cell) j rest

-- every bit is 0 or 1
abbrev Bits : List ℕ → Type 0
Bits bits = (c : ℕ) → get_or bits c 0 ≤ 1

bits_set : (bits : List ℕ) (c v : ℕ) → Bits bits → v ≤ 1 → Bits (set bits c v)
bits_set bits c v b h d = go (ℕ_discrete d c) (dec_lt d (length bits))
  where
    go : Dec (d ≡ c) → Dec (d < length bits) → get_or (set bits c v) d 0 ≤ 1
    go (yes e) (yes l) = rw e (rw (get_or-set_same bits c v 0 (rw e at l)) h)
    go (yes e) (no l) = let out : length (set bits c v) ≤ d = rw (length-set bits c v) (omega arith) in omega (arith, get_or-eq_default (set bits c v) 0 out)
    go (no e) l = rw (get_or-set_other bits c d v 0 e) (b d)

-- what a step does, and what the sentence says of it
step_said : (n : ℕ) (bits : List ℕ) (kind cell : ℕ) → get_or bits cell 0 ≤ 1
    → said_of n bits kind cell ≡ (if changes_of n bits kind cell then flip_of bits cell else bits)
unfolding changes_of turns flip_of
step_said n bits kind cell b = go (ltb cell n) (eqb (get_or bits cell 0) 0) (eqb kind 1) (eqb kind 2) refl refl refl
  where
    same : (v : ℕ) → get_or bits cell 0 ≡ v → set bits cell v ≡ bits
    same v e = rw (← e) (set-get_or bits cell 0)

    go : (w z a r : Bool) → eqb (get_or bits cell 0) 0 ≡ z → eqb kind 1 ≡ a → eqb kind 2 ≡ r
        → (if w then (if a then set bits cell 1 else if r then set bits cell 0 else bits) else bits) ≡ (if (if w then (if z then a else r) else false) then set bits cell (if z then 1 else 0) else bits)
    go false z a r p q s = refl
    go true true true r p q s = refl
    go true true false true p q s = same 0 (eqb-true (get_or bits cell 0) 0 p)
    go true true false false p q s = refl
    go true false true true p q s = absurd (omega (arith, eqb-true kind 1 q, eqb-true kind 2 s))
    go true false true false p q s = same 1 (omega (arith, eqb-false (get_or bits cell 0) 0 p))
    go true false false true p q s = refl
    go true false false false p q s = refl

bits_said : (n : ℕ) (bits : List ℕ) (kind cell : ℕ) → Bits bits → Bits (said_of n bits kind cell)
bits_said n bits kind cell b = go (ltb cell n) (eqb kind 1) (eqb kind 2)
  where
    go : (w a r : Bool)
        → Bits (if w then (if a then set bits cell 1 else if r then set bits cell 0 else bits) else bits)
    go false a r = b
    go true true r = bits_set bits cell 1 b (omega arith)
    go true false true = bits_set bits cell 0 b (omega arith)
    go true false false = b

as_said_from : (j n : ℕ) (bits script : List ℕ) → Bits bits → bits_after n bits j script ≡ said_after n bits j script
unfolding bits_after said_after
as_said_from zero n bits script b = refl
as_said_from (suc j) n bits [] b = refl
as_said_from (suc j) n bits (kind ∷ []) b = refl
as_said_from (suc j) n bits (kind ∷ cell ∷ []) b = refl
as_said_from (suc j) n bits (kind ∷ cell ∷ number ∷ rest) b = go (changes_of n bits kind cell) (step_said n bits kind cell (b cell)) (λ o k. as_said_from j n o rest k) (bits_said n bits kind cell b)
  where
    go : (t : Bool) → said_of n bits kind cell ≡ (if t then flip_of bits cell else bits)
        → ((o : List ℕ) → Bits o → bits_after n o j rest ≡ said_after n o j rest) → Bits (said_of n bits kind cell)
        → (if t then bits_after n (flip_of bits cell) j rest else bits_after n bits j rest) ≡ said_after n (said_of n bits kind cell) j rest
    go true e f k = rw (← e) (f (said_of n bits kind cell) k)
    go false e f k = rw e (f bits b)

no_bits_lem : Bits no_bits
unfolding no_bits
no_bits_lem c = go (dec_lt c 94)
  where
    go : Dec (c < 94) → get_or (replicate 94 0) c 0 ≤ 1
    go (yes l) = omega (arith, get_or-replicate {A = ℕ} 94 c 0 0 l)
    go (no l) = let out : length (replicate {A = ℕ} 94 0) ≤ c = omega (arith, length-replicate {A = ℕ} 94 0) in omega (arith, get_or-eq_default {A = ℕ} (replicate 94 0) 0 out)

-- the bits after j steps are those of the sentence
pub as_said : (n j : ℕ) (script : List ℕ) → bits_after n no_bits j script ≡ said_after n no_bits j script
as_said n j script = as_said_from j n no_bits script no_bits_lem
