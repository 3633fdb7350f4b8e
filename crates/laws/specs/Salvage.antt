-- Laws of a salvage (document 02, L6): a cell's words afterwards, lengths, the number of entries, and the cells left held.
use Rattle.std.specs.Prelude.{ℕ, zero, suc, ◌+◌, ◌*◌, ◌/◌, ◌≤◌, ◌<◌, ◌≡◌, refl, List, [], ◌∷◌, Bool, true, false, eqb, length, get_or, if◌then◌else◌}
use Rattle.std.proofs.Common.{sym, ap, ◌∙◌, arith, length-append, le-leb}
use Rattle.choice.specs.Pick.{if_both}
use Rattle.model.specs.Arena.{cells_of, bit_at, owner_at, waiters_at, is_free, is_held, state_of}
use Rattle.model.specs.Salvage.{kept_in, kept_of, mended_cell, mended_table, mended_byte, mended_health, change_of, changes_from, changes_of, entries_of, held_from, left_held}
use Rattle.types.specs.declared.Head.{Head}
use Rattle.types.specs.declared.State.TheVariants.{Free, Held, Damaged}

-- ---- a cell of a table: the first one, and the next ones

pub mended_cons : (next b o w : ℕ) (t : List ℕ) → mended_table next (b ∷ o ∷ w ∷ t) ≡ kept_of next b o b ∷ kept_of next b o o ∷ 0 ∷ mended_table next t
unfolding mended_table mended_cell
mended_cons next b o w t = refl

pub length_mended : (next : ℕ) (t : List ℕ) → length (mended_table next t) ≡ length t
unfolding mended_table mended_cell
length_mended next [] = refl
length_mended next (b ∷ []) = refl
length_mended next (b ∷ o ∷ []) = refl
length_mended next (b ∷ o ∷ w ∷ t) = omega (arith, length_mended next t)

pub length_mended_health : (g : List ℕ) → length (mended_health g) ≡ length g
unfolding mended_health
length_mended_health [] = refl
length_mended_health (b ∷ g) = omega (arith, length_mended_health g)

-- a word of a later cell is one of the table behind the first cell
pub later_word : (b o w : ℕ) (t : List ℕ) (c k : ℕ) → get_or (b ∷ o ∷ w ∷ t) (3 * suc c + k) 0 ≡ get_or t (3 * c + k) 0
later_word b o w t c k = let e : 3 * suc c + k ≡ suc (suc (suc (3 * c + k))) = omega arith in rw e

front_mended : (next b o w : ℕ) (t : List ℕ) (k : ℕ) → k < 3 → get_or (mended_table next (b ∷ o ∷ w ∷ t)) k 0 ≡ get_or (mended_cell next b o w) k 0
unfolding mended_table mended_cell
front_mended next b o w t zero l = refl
front_mended next b o w t (suc zero) l = refl
front_mended next b o w t (suc (suc zero)) l = refl
front_mended next b o w t (suc (suc (suc k))) l = absurd (omega arith)

-- the k-th word of a cell, k below 3, by the three words of the cell
pub word_mended : (next : ℕ) (t : List ℕ) (c k : ℕ) → 3 * c + 2 < length t → k < 3
    → get_or (mended_table next t) (3 * c + k) 0 ≡ get_or (mended_cell next (bit_at t c) (owner_at t c) (waiters_at t c)) k 0
unfolding bit_at owner_at waiters_at
word_mended next t c k h l = let e : 3 * c + 0 ≡ 3 * c = omega arith in go t c h ∙ rw e
  where
    go : (t : List ℕ) (c : ℕ) → 3 * c + 2 < length t
        → get_or (mended_table next t) (3 * c + k) 0
        ≡ get_or (mended_cell next (get_or t (3 * c + 0) 0) (get_or t (3 * c + 1) 0) (get_or t (3 * c + 2) 0)) k 0
    go [] c h = absurd (omega arith)
    go (b ∷ []) c h = absurd (omega arith)
    go (b ∷ o ∷ []) c h = absurd (omega arith)
    go (b ∷ o ∷ w ∷ t) zero h = let z : 3 * 0 + k ≡ k = omega arith in rw z (front_mended next b o w t k l)
    go (b ∷ o ∷ w ∷ t) (suc c) h =
        rw (mended_cons next b o w t, later_word (kept_of next b o b) (kept_of next b o o) 0 (mended_table next t) c k, later_word b o w t c 0, later_word b o w t c 1, later_word b o w t c 2) (go t c (omega arith))

pub bit_mended : (next : ℕ) (t : List ℕ) (c : ℕ) → 3 * c + 2 < length t
    → bit_at (mended_table next t) c ≡ kept_of next (bit_at t c) (owner_at t c) (bit_at t c)
unfolding bit_at mended_cell
bit_mended next t c h = let e : 3 * c + 0 ≡ 3 * c = omega arith in ap (λ (i : ℕ). get_or (mended_table next t) i 0) (sym e) ∙ word_mended next t c 0 h (omega arith)

pub owner_mended : (next : ℕ) (t : List ℕ) (c : ℕ) → 3 * c + 2 < length t
    → owner_at (mended_table next t) c ≡ kept_of next (bit_at t c) (owner_at t c) (owner_at t c)
unfolding owner_at mended_cell
owner_mended next t c h = word_mended next t c 1 h (omega arith)

pub waiters_mended : (next : ℕ) (t : List ℕ) (c : ℕ) → 3 * c + 2 < length t → waiters_at (mended_table next t) c ≡ 0
unfolding waiters_at mended_cell
waiters_mended next t c h = word_mended next t c 2 h (omega arith)

-- ---- a mended cell is held exactly if it was

nobody : (next : ℕ) → is_held next 0 0 ≡ false
unfolding is_held
nobody next = refl

pub held_kept : (next b o : ℕ) → is_held next (kept_of next b o b) (kept_of next b o o) ≡ is_held next b o
unfolding kept_of state_of
held_kept next b o = go (is_free b o) (is_held next b o) refl
  where
    go : (x y : Bool) → is_held next b o ≡ y
        → is_held next (kept_in (if x then Free else if y then Held o else Damaged) b) (kept_in (if x then Free else if y then Held o else Damaged) o) ≡ is_held next b o
    go true y e = refl
    go false true e = refl
    go false false e = nobody next ∙ sym e

-- so the cells left held are those that were held
pub held_same : (next left c : ℕ) (t : List ℕ) → 3 * (c + left) ≤ length t → held_from next left c (mended_table next t) ≡ held_from next left c t
unfolding held_from
held_same next zero c t h = refl
held_same next (suc left) c t h =
    rw (bit_mended next t c (omega arith), owner_mended next t c (omega arith), held_kept next (bit_at t c) (owner_at t c), held_same next left (c + 1) t (omega arith))

-- ---- how many entries

-- 1 for a word that changed
unfoldable pub changed_of : ℕ → ℕ → ℕ
changed_of old new = if eqb old new then 0 else 1

-- the places where two runs differ
unfoldable pub differing : List ℕ → List ℕ → ℕ
differing [] new = 0
differing (a ∷ old) [] = 0
differing (a ∷ old) (b ∷ new) = changed_of a b + differing old new

length_change : (place old new : ℕ) → length (change_of place old new) ≡ 3 * changed_of old new
unfolding change_of changed_of
length_change place old new = go (eqb old new)
  where
    go : (x : Bool) → length (if x then [] else (place ∷ old ∷ new ∷ [])) ≡ 3 * (if x then 0 else 1)
    go true = refl
    go false = refl

pub length_changes : (place : ℕ) (old new : List ℕ) → length (changes_from place old new) ≡ 3 * differing old new
unfolding changes_from differing
length_changes place [] new = refl
length_changes place (a ∷ old) [] = refl
length_changes place (a ∷ old) (b ∷ new) =
    omega (arith, length-append (change_of place a b) (changes_from (place + 1) old new), length_change place a b, length_changes (place + 1) old new)

-- the entries of a salvage: of the table, and of the health
pub entries_are : (h : Head) (t g : List ℕ) → length (changes_of h t g) ≡ 3 * (differing t (mended_table h.next t) + differing g (mended_health g))
unfolding changes_of
entries_are h t g =
    omega (arith, length-append (changes_from 0 t (mended_table h.next t)) (changes_from (3 * cells_of h) g (mended_health g)), length_changes 0 t (mended_table h.next t), length_changes (3 * cells_of h) g (mended_health g))

pub entries_number : (h : Head) (t g : List ℕ) → entries_of h t g ≡ differing t (mended_table h.next t) + differing g (mended_health g)
entries_number h t g = omega (arith, entries_are h t g)

pub changed_few : (old new : ℕ) → changed_of old new ≤ 1
unfolding changed_of
changed_few old new = if_both (λ n. n ≤ 1) (eqb old new) (omega arith) (omega arith)

pub changed_small : (n old new : ℕ) → n ≡ changed_of old new → n ≤ 1
changed_small n old new e = omega (arith, changed_few old new)

pub differing_few : (old new : List ℕ) → differing old new ≤ length old
unfolding differing
differing_few [] new = omega arith
differing_few (a ∷ old) [] = omega arith
differing_few (a ∷ old) (b ∷ new) = omega (arith, changed_few a b, differing_few old new)

-- a report has room for all entries exactly if a third of its length is no less than their number
pub entries_room : (h : Head) (t g : List ℕ) (n m : ℕ) → n ≡ entries_of h t g → n ≤ m / 3 → length (changes_of h t g) ≤ m
entries_room h t g n m e k = omega (arith, entries_are h t g)

-- the cells left held, from the table as it was
pub left_held_is : (next cells : ℕ) (t : List ℕ) → 3 * cells ≤ length t → left_held next cells t ≡ held_from next cells 0 t
unfolding left_held
left_held_is next cells t h = held_same next cells 0 t (omega arith)

-- a health byte that stays
pub byte_kept : (b : ℕ) → b ≤ 1 → mended_byte b ≡ b
unfolding mended_byte
byte_kept b h = rw (le-leb b 1 h)
