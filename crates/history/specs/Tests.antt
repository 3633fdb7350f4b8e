-- What the model's tests say of a cell, of a lease and of a list of leases, as facts about numbers; and what those facts say of the tests.
use Rattle.std.specs.Prelude.{ℕ, zero, suc, ◌+◌, ◌*◌, ◌≤◌, ◌<◌, ◌≡◌, refl, List, [], ◌∷◌, ◌++◌, Bool, true, false, ◌&&◌, ◌⊎◌, ltb, leb, eqb, length, get_or, take, if◌then◌else◌}
use Rattle.std.proofs.Common.{sym, ap, ◌∙◌, inl, inr, arith, ltb-true, leb-true, eqb-true, lt-ltb, le-leb, eq-eqb}
use Rattle.model.specs.Arena.{bit_at, owner_at, is_free, is_held, state_of, state_at, held_by, is_live, hold_of, same_hold, is_in, words_of}
use Rattle.types.specs.declared.Hold.{Hold}
use Rattle.types.specs.declared.State.{State}
use Rattle.types.specs.declared.State.TheVariants.{Free, Held, Damaged}
use Rattle.choice.specs.Pick.{both}

-- two constructors of Bool
pub differ : false ≡ true → ⊥
differ e = let z : ◌≡◌ {A = ℕ} 0 1 = cc in omega arith

-- ---- the state of a cell

pub data Stands (next b o : ℕ) : State → Type 0 where
  is_free_lem : b ≡ 0 → o ≡ 0 → Stands next b o Free
  is_held_lem : b ≡ 1 → 1 ≤ o → o < next → Stands next b o (Held o)
  is_damaged : (b ≡ 0 → o ≡ 0 → ⊥) → (b ≡ 1 → 1 ≤ o → o < next → ⊥) → Stands next b o Damaged

pub stands : (next b o : ℕ) → Stands next b o (state_of next b o)
unfolding state_of is_free is_held
stands next b o = go (eqb b 0 && eqb o 0) (eqb b 1 && (leb 1 o && ltb o next)) refl refl
  where
    go : (x y : Bool) → (eqb b 0 && eqb o 0) ≡ x → (eqb b 1 && (leb 1 o && ltb o next)) ≡ y
        → Stands next b o (if x then Free else if y then Held o else Damaged)
    go true y e f = let p = both (eqb b 0) (eqb o 0) e in is_free_lem (eqb-true b 0 p.0) (eqb-true o 0 p.1)
    go false true e f =
        let p = both (eqb b 1) (leb 1 o && ltb o next) f in
        let q = both (leb 1 o) (ltb o next) p.1 in
        is_held_lem (eqb-true b 1 p.0) (leb-true 1 o q.0) (ltb-true o next q.1)
    go false false e f =
        is_damaged (λ p q. differ (sym e ∙ rw (eq-eqb b 0 p, eq-eqb o 0 q)))
        (λ p q r. differ (sym f ∙ rw (eq-eqb b 1 p, le-leb 1 o q, lt-ltb o next r)))

pub state_free : (next b o : ℕ) → b ≡ 0 → o ≡ 0 → state_of next b o ≡ Free
state_free next b o p q = go (stands next b o)
  where
    go : {s : State} → Stands next b o s → s ≡ Free
    go (is_free_lem x y) = refl
    go (is_held_lem x y z) = absurd (omega arith)
    go (is_damaged f g) = absurd (f p q)

pub state_held : (next b o : ℕ) → b ≡ 1 → 1 ≤ o → o < next → state_of next b o ≡ Held o
state_held next b o p q r = go (stands next b o)
  where
    go : {s : State} → Stands next b o s → s ≡ Held o
    go (is_free_lem x y) = absurd (omega arith)
    go (is_held_lem x y z) = refl
    go (is_damaged f g) = absurd (g p q r)

-- a cell that is not damaged
pub data Status (bit owner next : ℕ) : Type 0 where
  free : bit ≡ 0 → owner ≡ 0 → Status bit owner next
  held : bit ≡ 1 → 1 ≤ owner → owner < next → Status bit owner next

pub undamaged : (next b o : ℕ) → (state_of next b o ≡ Damaged → ⊥) → Status b o next
undamaged next b o n = go (stands next b o) n
  where
    go : {s : State} → Stands next b o s → (s ≡ Damaged → ⊥) → Status b o next
    go (is_free_lem x y) n = free x y
    go (is_held_lem x y z) n = held x y z
    go (is_damaged f g) n = absurd (n refl)

pub not_damaged : (next b o : ℕ) → Status b o next → state_of next b o ≡ Damaged → ⊥
not_damaged next b o (free p q) e = let f = state_free next b o p q in let z : ◌≡◌ {A = ℕ} 0 1 = cc in omega arith
not_damaged next b o (held p q r) e = let f = state_held next b o p q r in let z : ◌≡◌ {A = ℕ} 0 1 = cc in omega arith

-- the words of a free cell
pub free_words : (next : ℕ) (t : List ℕ) (c : ℕ) → state_at next t c ≡ Free → (bit_at t c ≡ 0) × (owner_at t c ≡ 0)
unfolding state_at
free_words next t c e = go (stands next (bit_at t c) (owner_at t c)) e
  where
    go : {s : State} → Stands next (bit_at t c) (owner_at t c) s → s ≡ Free → (bit_at t c ≡ 0) × (owner_at t c ≡ 0)
    go (is_free_lem x y) e = (x, y)
    go (is_held_lem x y z) e = let z : ◌≡◌ {A = ℕ} 0 1 = cc in absurd (omega arith)
    go (is_damaged f g) e = let z : ◌≡◌ {A = ℕ} 0 1 = cc in absurd (omega arith)

pub is_free_state : (next : ℕ) (t : List ℕ) (c : ℕ) → is_free (bit_at t c) (owner_at t c) ≡ true → state_at next t c ≡ Free
unfolding is_free state_at
is_free_state next t c e =
    let p = both (eqb (bit_at t c) 0) (eqb (owner_at t c) 0) e in
    state_free next (bit_at t c) (owner_at t c) (eqb-true (bit_at t c) 0 p.0) (eqb-true (owner_at t c) 0 p.1)

-- ---- a live lease

pub record Alive (next cells : ℕ) (t : List ℕ) (l : Hold) : Type 0 where
  pub in_range : l.cell < cells
  pub bit_is : bit_at t l.cell ≡ 1
  pub owner_is : owner_at t l.cell ≡ l.serial
  pub low : 1 ≤ l.serial
  pub high : l.serial < next

pub alive : (next cells : ℕ) (t : List ℕ) (l : Hold) → is_live next cells t l ≡ true → Alive next cells t l
unfolding is_live state_at
alive next cells t l e =
    let p = both (ltb l.cell cells) (held_by (state_at next t l.cell) l.serial) e in
    go (stands next (bit_at t l.cell) (owner_at t l.cell)) (ltb-true l.cell cells p.0) p.1
  where
    go : {s : State} → Stands next (bit_at t l.cell) (owner_at t l.cell) s → l.cell < cells → held_by s l.serial ≡ true → Alive next cells t l
    go (is_free_lem x y) i e = absurd (differ e)
    go (is_held_lem x y z) i e =
        let q = eqb-true (owner_at t l.cell) l.serial e in
        record { in_range = i; bit_is = x; owner_is = q; low = omega arith; high = omega arith }
    go (is_damaged f g) i e = absurd (differ e)

pub live : (next cells : ℕ) (t : List ℕ) (l : Hold) → Alive next cells t l → is_live next cells t l ≡ true
unfolding is_live state_at
live next cells t l a =
    rw (lt-ltb l.cell cells a.in_range, state_held next (bit_at t l.cell) (owner_at t l.cell) a.bit_is (omega arith) (omega arith), eq-eqb (owner_at t l.cell) l.serial a.owner_is)

-- ---- leases and lists of them

pub holds_equal : (l k : Hold) → l.cell ≡ k.cell → l.serial ≡ k.serial → l ≡ k
holds_equal l k p q = ap (λ (x : ℕ). hold_of x l.serial) p ∙ ap (hold_of k.cell) q

same_true : (l k : Hold) → same_hold l k ≡ true → l ≡ k
unfolding same_hold
same_true l k e =
    let p = both (eqb l.cell k.cell) (eqb l.serial k.serial) e in
    holds_equal l k (eqb-true _ _ p.0) (eqb-true _ _ p.1)

same_refl : (l : Hold) → same_hold l l ≡ true
unfolding same_hold
same_refl l = rw (eq-eqb l.cell l.cell refl, eq-eqb l.serial l.serial refl)

-- the lease stands in the list
abbrev pub In : List Hold → Hold → Type 0
In ls l = is_in l ls ≡ true

pub none_in : (l : Hold) → In [] l → ⊥
unfolding is_in
none_in l i = differ i

pub in_first : (l : Hold) (ls : List Hold) → In (l ∷ ls) l
unfolding is_in
in_first l ls = rw (same_refl l)

pub in_rest : (k l : Hold) (ls : List Hold) → In ls l → In (k ∷ ls) l
unfolding is_in
in_rest k l ls i = go (same_hold k l)
  where
    go : (b : Bool) → (if b then true else is_in l ls) ≡ true
    go true = refl
    go false = i

pub in_cases : (k l : Hold) (ls : List Hold) → In (k ∷ ls) l → (k ≡ l) ⊎ In ls l
unfolding is_in
in_cases k l ls i = go (same_hold k l) refl i
  where
    go : (b : Bool) → same_hold k l ≡ b → (if b then true else is_in l ls) ≡ true → (k ≡ l) ⊎ In ls l
    go true e j = inl (same_true k l e)
    go false e j = inr j

pub in_left : (l : Hold) (ls ks : List Hold) → In ls l → In (ls ++ ks) l
unfolding is_in
in_left l [] ks i = absurd (differ i)
in_left l (k ∷ ls) ks i = go (in_cases k l ls i) (in_left l ls ks)
  where
    go : (k ≡ l) ⊎ In ls l → (In ls l → In (ls ++ ks) l) → In (k ∷ (ls ++ ks)) l
    go (inl e) r = rw e (in_first l (ls ++ ks))
    go (inr j) r = in_rest k l (ls ++ ks) (r j)

pub in_right : (l : Hold) (ls ks : List Hold) → In ks l → In (ls ++ ks) l
in_right l [] ks i = i
in_right l (k ∷ ls) ks i = in_rest k l (ls ++ ks) (in_right l ls ks i)

pub in_either : (l : Hold) (ls ks : List Hold) → In (ls ++ ks) l → In ls l ⊎ In ks l
in_either l [] ks i = inr i
in_either l (k ∷ ls) ks i = go (in_cases k l (ls ++ ks) i) (in_either l ls ks)
  where
    go : (k ≡ l) ⊎ In (ls ++ ks) l → (In (ls ++ ks) l → In ls l ⊎ In ks l) → In (k ∷ ls) l ⊎ In ks l
    go (inl e) r = inl (rw e (in_first l ls))
    go (inr j) r = elim (r j) [ inl x ↦ inl (in_rest k l ls x) | inr x ↦ inr x ]

-- the i-th of a list is in its first n
pub in_take : (ls : List Hold) (n i : ℕ) (d : Hold) → i < n → i < length ls → In (take n ls) (get_or ls i d)
in_take [] n i d p q = absurd (omega arith)
in_take (k ∷ ls) zero i d p q = absurd (omega arith)
in_take (k ∷ ls) (suc n) zero d p q = in_first k (take n ls)
in_take (k ∷ ls) (suc n) (suc i) d p q = in_rest k (get_or ls i d) (take n ls) (in_take ls n i d (omega arith) (omega arith))

-- a lease of a list has a place in it
pub in_index : (ls : List Hold) (l d : Hold) → In ls l → (i : ℕ) × (i < length ls) × (l ≡ get_or ls i d)
unfolding is_in
in_index [] l d i = absurd (differ i)
in_index (k ∷ ls) l d i = go (in_cases k l ls i) (in_index ls l d)
  where
    go : (k ≡ l) ⊎ In ls l → (In ls l → (i : ℕ) × (i < length ls) × (l ≡ get_or ls i d)) → (i : ℕ) × (i < suc (length ls)) × (l ≡ get_or (k ∷ ls) i d)
    go (inl e) r = (0, omega arith, sym e)
    go (inr j) r = let x = r j in (suc x.0, omega (arith, x.1), x.2)

-- leases written as words have the boot number that they were written with
pub words_boot : (boot : ℕ) (ls : List Hold) (p : ℕ) → p < length ls → get_or (words_of boot ls) (3 * p + 2) 0 ≡ boot
unfolding words_of
words_boot boot [] p k = absurd (omega arith)
words_boot boot (l ∷ ls) zero k = refl
words_boot boot (l ∷ ls) (suc p) k = let e : 3 * suc p + 2 ≡ suc (suc (suc (3 * p + 2))) = omega arith in rw e (words_boot boot ls p (omega arith))

-- ---- choices

-- a choice, where what the test says is needed
pub if_cases : {A : Type 0} (P : A → Type 0) (b : Bool) {x y : A} → (b ≡ true → P x) → (b ≡ false → P y) → P (if b then x else y)
if_cases P true p q = p refl
if_cases P false p q = q refl
