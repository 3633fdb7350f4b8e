-- What a salvage makes of a cell and of a health byte, also the second time; and which cells its list picks, and how many.
use Rattle.std.specs.Prelude.{ℕ, zero, suc, ◌+◌, ◌≤◌, ◌<◌, ◌≡◌, refl, List, [], ◌∷◌, Bool, true, false, ◌&&◌, ltb, leb, eqb, length, get_or, if◌then◌else◌}
use Rattle.std.proofs.Common.{sym, ap, ◌∙◌, arith, eqb-true, leb-true, ltb-true, le-leb, eq-eqb, ne_eqb, lt-ltb}
use Rattle.std.proofs.Math.Decide.{ℕ_discrete}
use Rattle.std.proofs.lemmas.Bool.{lt-leb}
use Rattle.choice.specs.Pick.{both}
use Rattle.model.specs.Arena.{bit_at, owner_at, is_free, is_held, state_of, state_at}
use Rattle.model.specs.Salvage.{kept_of, mended_table, mended_byte, mended_health, held_from, left_held}
use Rattle.types.specs.declared.State.{State}
use Rattle.types.specs.declared.State.TheVariants.{Free, Held, Damaged}
use Rattle.laws.specs.Salvage.{mended_cons, byte_kept}
use Rattle.history.specs.Salvages.{Mending, keeps, frees, mending}
use Rattle.history.specs.World.{one, bits}
use Rattle.history.specs.Tests.{differ, Stands, is_free_lem, is_held_lem, is_damaged, stands, state_held, Status, free, held, undamaged}

-- ---- a cell

kept_free : (next x : ℕ) → kept_of next 0 0 x ≡ x
unfolding kept_of state_of is_free
kept_free next x = refl

-- the second time nothing changes
kept_again : (next b o x : ℕ) → kept_of next (kept_of next b o b) (kept_of next b o o) (kept_of next b o x) ≡ kept_of next b o x
kept_again next b o x = go (mending next b o)
  where
    go : Mending next b o → kept_of next (kept_of next b o b) (kept_of next b o o) (kept_of next b o x) ≡ kept_of next b o x
    go (keeps n k) = rw (k b, k o, k x) (k x)
    go (frees e k) = rw (k b, k o, k x) (kept_free next 0)

cons_again : (next b o w : ℕ) (t : List ℕ) → mended_table next (mended_table next t) ≡ mended_table next t
    → mended_table next (mended_table next (b ∷ o ∷ w ∷ t)) ≡ mended_table next (b ∷ o ∷ w ∷ t)
cons_again next b o w t e =
    rw (mended_cons next b o w t, mended_cons next (kept_of next b o b) (kept_of next b o o) 0 (mended_table next t), kept_again next b o b, kept_again next b o o, e)

pub table_again : (next : ℕ) (t : List ℕ) → mended_table next (mended_table next t) ≡ mended_table next t
unfolding mended_table
table_again next [] = refl
table_again next (b ∷ []) = refl
table_again next (b ∷ o ∷ []) = refl
table_again next (b ∷ o ∷ w ∷ t) = cons_again next b o w t (table_again next t)

-- ---- a health byte

pub byte_mended : (b : ℕ) → 2 ≤ b → mended_byte b ≡ 1
unfolding mended_byte
byte_mended b h = rw (lt-leb b 1 (omega arith))

pub byte_few : (b : ℕ) → mended_byte b ≤ 1
unfolding mended_byte
byte_few b = go (leb b 1) refl
  where
    go : (x : Bool) → leb b 1 ≡ x → (if x then b else 1) ≤ 1
    go true e = leb-true b 1 e
    go false e = omega arith

pub health_twice : (g : List ℕ) → mended_health (mended_health g) ≡ mended_health g
unfolding mended_health
health_twice [] = refl
health_twice (b ∷ g) = both_equal (byte_kept (mended_byte b) (byte_few b)) (health_twice g)
  where
    both_equal : {a c : ℕ} {x y : List ℕ} → a ≡ c → x ≡ y → (a ∷ x) ≡ (c ∷ y)
    both_equal {c = c} {x = x} p q = ap (λ (i : ℕ). i ∷ x) p ∙ ap (λ (z : List ℕ). c ∷ z) q

pub byte_in : (g : List ℕ) (i : ℕ) → i < length g → get_or (mended_health g) i 0 ≡ mended_byte (get_or g i 0)
unfolding mended_health
byte_in [] i h = absurd (omega arith)
byte_in (b ∷ g) zero h = refl
byte_in (b ∷ g) (suc i) h = byte_in g i (omega arith)

-- ---- cells that are held

abbrev pub holds : ℕ → List ℕ → ℕ → Bool
holds next t c = is_held next (bit_at t c) (owner_at t c)

pub holds_state : (next : ℕ) (t : List ℕ) (c : ℕ) → holds next t c ≡ true → state_at next t c ≡ Held (owner_at t c)
unfolding is_held state_at
holds_state next t c e =
    let p = both (eqb (bit_at t c) 1) (leb 1 (owner_at t c) && ltb (owner_at t c) next) e in
    let q = both (leb 1 (owner_at t c)) (ltb (owner_at t c) next) p.1 in
    state_held next (bit_at t c) (owner_at t c) (eqb-true _ _ p.0) (leb-true _ _ q.0) (ltb-true _ _ q.1)

-- what a held cell's words are
pub record Holding (next : ℕ) (t : List ℕ) (c : ℕ) : Type 0 where
  pub bit_is : bit_at t c ≡ 1
  pub low : 1 ≤ owner_at t c
  pub high : owner_at t c < next

pub holding : (next : ℕ) (t : List ℕ) (c : ℕ) → state_at next t c ≡ Held (owner_at t c) → Holding next t c
unfolding state_at
holding next t c e = go (stands next (bit_at t c) (owner_at t c)) e
  where
    go : {s : State} → Stands next (bit_at t c) (owner_at t c) s → s ≡ Held (owner_at t c) → Holding next t c
    go (is_free_lem x y) e = absurd (differ (let q : Free ≡ Held (owner_at t c) = e in cc))
    go (is_held_lem x y z) e = record { bit_is = x; low = y; high = z }
    go (is_damaged f g) e = absurd (differ (let q : Damaged ≡ Held (owner_at t c) = e in cc))

pub state_holds : (next : ℕ) (t : List ℕ) (c : ℕ) → Holding next t c → holds next t c ≡ true
unfolding is_held
state_holds next t c k = rw (eq-eqb _ _ k.bit_is, le-leb _ _ k.low, lt-ltb _ _ k.high)

-- ---- the cells that the list picks

pub data Picks (next : ℕ) (t : List ℕ) : ℕ → ℕ → List ℕ → Type 0 where
  no_more : (c : ℕ) → Picks next t zero c []
  picked : (left c : ℕ) (words : List ℕ) → holds next t c ≡ true → Picks next t left (c + 1) words → Picks next t (suc left) c (c ∷ words)
  passed : (left c : ℕ) (words : List ℕ) → holds next t c ≡ false → Picks next t left (c + 1) words → Picks next t (suc left) c words

pub picks : (next : ℕ) (t : List ℕ) (left c : ℕ) → Picks next t left c (held_from next left c t)
unfolding held_from
picks next t zero c = no_more c
picks next t (suc left) c = go (holds next t c) refl (picks next t left (c + 1))
  where
    go : (x : Bool) → holds next t c ≡ x → Picks next t left (c + 1) (held_from next left (c + 1) t)
        → Picks next t (suc left) c (if x then c ∷ held_from next left (c + 1) t else held_from next left (c + 1) t)
    go true e r = picked left c _ e r
    go false e r = passed left c _ e r

pub record Picked (next : ℕ) (t : List ℕ) (left c d : ℕ) : Type 0 where
  pub low : c ≤ d
  pub high : d < c + left
  pub held : holds next t d ≡ true

pub pick_held : {next : ℕ} {t : List ℕ} {left c : ℕ} {words : List ℕ} → Picks next t left c words → (k : ℕ) → k < length words
    → Picked next t left c (get_or words k 0)
pick_held (no_more c) k h = absurd (omega arith)
pick_held (picked left c words e r) zero h = record { low = omega arith; high = omega arith; held = e }
pick_held (picked left c words e r) (suc k) h =
    let x = pick_held r k (omega arith) in
    record { low = omega (arith, x.low); high = omega (arith, x.high); held = x.held }
pick_held (passed left c words e r) k h =
    let x = pick_held r k h in
    record { low = omega (arith, x.low); high = omega (arith, x.high); held = x.held }

pub pick_listed : {next : ℕ} {t : List ℕ} {left c : ℕ} {words : List ℕ} → Picks next t left c words → (d : ℕ) → Picked next t left c d
    → (k : ℕ) × (k < length words) × (get_or words k 0 ≡ d)
pick_listed (no_more c) d p = absurd (omega (arith, p.low, p.high))
pick_listed {next} {t} (picked left c words e r) d p = go (ℕ_discrete d c) (pick_listed r d)
  where
    go : Dec (d ≡ c) → (Picked next t left (c + 1) d → (k : ℕ) × (k < length words) × (get_or words k 0 ≡ d))
        → (k : ℕ) × (k < suc (length words)) × (get_or (c ∷ words) k 0 ≡ d)
    go (yes q) f = (0, omega arith, sym q)
    go (no q) f =
        let x = f (record { low = omega (arith, p.low); high = omega (arith, p.high); held = p.held }) in
        (suc x.0, omega (arith, x.1), x.2)
pick_listed {next} {t} (passed left c words e r) d p = go (ℕ_discrete d c) (pick_listed r d)
  where
    go : Dec (d ≡ c) → (Picked next t left (c + 1) d → (k : ℕ) × (k < length words) × (get_or words k 0 ≡ d))
        → (k : ℕ) × (k < length words) × (get_or words k 0 ≡ d)
    go (yes q) f = absurd (differ (sym e ∙ ap (holds next t) (sym q) ∙ p.held))
    go (no q) f = f (record { low = omega (arith, p.low); high = omega (arith, p.high); held = p.held })

pub pick_rising : {next : ℕ} {t : List ℕ} {left c : ℕ} {words : List ℕ} → Picks next t left c words → (j k : ℕ) → j < k → k < length words
    → get_or words j 0 < get_or words k 0
pick_rising (no_more c) j k l h = absurd (omega arith)
pick_rising (picked left c words e r) j zero l h = absurd (omega arith)
pick_rising (picked left c words e r) zero (suc k) l h = omega (arith, (pick_held r k (omega arith)).low)
pick_rising (picked left c words e r) (suc j) (suc k) l h = pick_rising r j k (omega arith) (omega arith)
pick_rising (passed left c words e r) j k l h = pick_rising r j k l h

-- ---- how many they are: where no cell is damaged, those with bit 1

not_held_lem : (next b o : ℕ) → b ≡ 0 → is_held next b o ≡ false
unfolding is_held
not_held_lem next b o p = rw (ne_eqb b 1 (omega arith))

held_one : (next : ℕ) (t : List ℕ) (c : ℕ) (words : List ℕ) → Status (bit_at t c) (owner_at t c) next
    → length (if holds next t c then c ∷ words else words) ≡ one (eqb (bit_at t c) 1) + length words
held_one next t c words (free p q) = rw (not_held_lem next (bit_at t c) (owner_at t c) p, ne_eqb (bit_at t c) 1 (omega arith)) (omega arith)
held_one next t c words (held p q r) =
    rw (state_holds next t c (record { bit_is = p; low = q; high = r }), eq-eqb (bit_at t c) 1 p) (omega arith)

held_bits : (next : ℕ) (t : List ℕ) (left c : ℕ) → ((d : ℕ) → d < c + left → state_at next t d ≡ Damaged → ⊥)
    → length (held_from next left c t) + bits c t ≡ bits (c + left) t
unfolding held_from bits state_at
held_bits next t zero c n = let e : c ≡ c + 0 = omega arith in omega (arith, ap (λ (k : ℕ). bits k t) e)
held_bits next t (suc left) c n =
    let e : c + 1 ≡ suc c = omega arith in
    let f : c + 1 + left ≡ c + suc left = omega arith in
    omega (arith, held_bits next t left (c + 1) (λ d l. n d (omega arith)), held_one next t c (held_from next left (c + 1) t) (undamaged next (bit_at t c) (owner_at t c) (n c (omega arith))), ap (λ (k : ℕ). bits k t) e, ap (λ (k : ℕ). bits k t) f)

pub left_bits : (next cells : ℕ) (t : List ℕ) → ((c : ℕ) → c < cells → state_at next (mended_table next t) c ≡ Damaged → ⊥)
    → length (left_held next cells t) ≡ bits cells (mended_table next t)
unfolding left_held bits
left_bits next cells t n =
    let u = mended_table next t in
    let z : 0 + cells ≡ cells = omega arith in
    let e : length (held_from next cells 0 u) + 0 ≡ bits (0 + cells) u = held_bits next u cells 0 (λ c l. n c (omega arith)) in
    let f : length (held_from next cells 0 u) ≡ length (held_from next cells 0 u) + 0 = omega arith in
    f ∙ e ∙ ap (λ (k : ℕ). bits k u) z
