-- What the salvage's functions promise, by the parts of `mend_of` (crate `model`), and the laws of their loops: the start, one turn, the
-- end.
use Prim.Native.Nat.{ℕ, zero, suc, ◌+◌, ◌*◌, ◌-◌, ◌≤◌, ◌<◌}
use Rattle.std.specs.Prelude.{◌≢◌, ◌≡◌, Bool, ◌&&◌, length, get_or, drop, take, if◌then◌else◌}
use Rattle.std.proofs.Math.Path.{refl, ap}
use Rattle.std.proofs.Common.{sym, ◌∙◌, length-append, drop_of_length-le, get_or-set_other, drop-set-lt, take_at, drop_at, length-take-le}
use mathlib.Core.List.{List, [], ◌∷◌, ◌++◌, append_assoc, append-nil}
use Rattle.std.proofs.Math.Bool.{true, false}
use borrow.Author.Tests.{eq-eqb, ne_eqb, eqb-true, lt-leb}
use native.Mathlib.Omega.{arith}
use Rattle.std.proofs.Math.Dec.{eqb}
use Rattle.std.proofs.Math.ListN.{set}
use Rattle.std.proofs.lemmas.List.{set-get_or}
use Rattle.std.proofs.lemmas.List.Edits.{sets, sets-eq}
use Rattle.std.proofs.Math.Seq.{take_all}
use Rattle.choice.specs.Pick.{if_both}
use Rattle.choice.specs.Lists.{sets_sets as laid_twice}
use Rattle.model.specs.Arena.{cells_of, bit_at, owner_at, waiters_at, set_cell, set_waiters, is_free, is_held, state_of}
use Rattle.model.specs.Salvage.{kept_in, kept_of, mended_cell, mended_table, mended_byte, mended_health, change_of, changes_from, changes_of, entries_of, held_from, left_held, over_of, mend_of}
use Rattle.types.specs.declared.Head.{Head}
use Rattle.types.specs.declared.State.TheVariants.{Free, Held, Damaged}
use Rattle.salvage.specs.declared.Tally.{Tally}
use Rattle.salvage.specs.declared.Ends.{Ends}
use Rattle.laws.specs.Shape.{Shaped}
use Rattle.laws.specs.Lists.{drop_one}
use Rattle.laws.specs.Words.{bit_set_other, owner_set_other, bit_set_waiters, owner_set_waiters}
use Rattle.laws.specs.Salvage.{changed_of, differing, differing_few, entries_number, left_held_is, byte_kept, length_mended, length_mended_health}

-- ---- one cell

-- how many of its words change
unfoldable pub changed_in : ℕ → List ℕ → ℕ → ℕ
changed_in next t c =
    changed_of (bit_at t c) (kept_of next (bit_at t c) (owner_at t c) (bit_at t c))
    + changed_of (owner_at t c) (kept_of next (bit_at t c) (owner_at t c) (owner_at t c))
    + changed_of (waiters_at t c) 0

-- their entries
unfoldable pub changes_in : ℕ → List ℕ → ℕ → List ℕ
changes_in next t c =
    change_of (3 * c) (bit_at t c) (kept_of next (bit_at t c) (owner_at t c) (bit_at t c))
    ++ (change_of (3 * c + 1) (owner_at t c) (kept_of next (bit_at t c) (owner_at t c) (owner_at t c))
    ++ change_of (3 * c + 2) (waiters_at t c) 0)

-- the table with this cell mended
unfoldable pub mend_cell_of : ℕ → List ℕ → ℕ → List ℕ
mend_cell_of next t c =
    set_waiters (set_cell t c (kept_of next (bit_at t c) (owner_at t c) (bit_at t c)) (kept_of next (bit_at t c) (owner_at t c) (owner_at t c))) c 0

-- the cell's number, if it is held
unfoldable pub held_in : ℕ → List ℕ → ℕ → List ℕ
held_in next t c = if is_held next (bit_at t c) (owner_at t c) then c ∷ [] else []

-- ---- what is counted: of a cell, of all cells, of the health bytes, of all

abbrev tallied : ℕ → ℕ → Tally
tallied n m = record { changes = n; left = m }

-- 1 for a word that is 0; how many words are 0
unfoldable pub zero_in : ℕ → ℕ
zero_in w = if eqb w 0 then 1 else 0

unfoldable pub zeros_of : List ℕ → ℕ
zeros_of [] = 0
zeros_of (w ∷ t) = zero_in w + zeros_of t

unfoldable pub count_cells_of : ℕ → List ℕ → ℕ
count_cells_of next t = differing t (mended_table next t)

unfoldable pub count_held_of : ℕ → ℕ → List ℕ → ℕ
count_held_of next cells t = length (held_from next cells 0 t)

unfoldable pub tally_cells : ℕ → ℕ → List ℕ → Tally
tally_cells next cells t = tallied (count_cells_of next t) (count_held_of next cells t)

unfoldable pub count_bytes_of : List ℕ → ℕ
count_bytes_of g = differing g (mended_health g)

unfoldable pub tally_of : Head → List ℕ → List ℕ → Tally
tally_of h t g = tallied (entries_of h t g) (length (left_held h.next (cells_of h) t))

-- ---- what is written

-- words laid into a lent run from a place on: where they end, and the run
unfoldable pub laid_of : List ℕ → ℕ → List ℕ → ℕ × List ℕ
laid_of run at words = (at + length words, sets run at words)

-- a word that becomes 0, and its entry
unfoldable pub cleared_of : List ℕ → ℕ → ℕ → List ℕ → ℕ → ℕ × (List ℕ × List ℕ)
cleared_of t place old report at = (at + length (change_of place old 0), (set t place 0, sets report at (change_of place old 0)))

-- what mending cells gives: where the entries of report and list end, then table, report and list
abbrev pub Mended : Type 0
Mended = Ends × (List ℕ × (List ℕ × List ℕ))

abbrev ended : ℕ → ℕ → Ends
ended n m = record { at = n; left = m }

-- entries x and cells y laid, and the table
abbrev laying : List ℕ → List ℕ → List ℕ → List ℕ → ℕ → List ℕ → ℕ → Mended
laying t x y report at list left =
    (ended (at + length x) (left + length y), (t, (sets report at x, sets list left y)))

-- one cell
unfoldable pub mended_in : ℕ → List ℕ → ℕ → List ℕ → ℕ → List ℕ → ℕ → Mended
mended_in next t c report at list left = laying (mend_cell_of next t c) (changes_in next t c) (held_in next t c) report at list left

unfoldable pub cell_entries : ℕ → List ℕ → List ℕ
cell_entries next t = changes_from 0 t (mended_table next t)

-- all cells
unfoldable pub mended_cells : ℕ → ℕ → List ℕ → List ℕ → List ℕ → Mended
mended_cells next cells t report list = laying (mended_table next t) (cell_entries next t) (held_from next cells 0 t) report 0 list 0

-- a health byte; all of them
unfoldable pub mended_at : List ℕ → ℕ → ℕ → ℕ → List ℕ → ℕ → ℕ × (List ℕ × List ℕ)
mended_at g i b place report at =
    (at + length (change_of place b (mended_byte b)), (set g i (mended_byte b), sets report at (change_of place b (mended_byte b))))

unfoldable pub byte_entries : ℕ → List ℕ → List ℕ
byte_entries place g = changes_from place g (mended_health g)

unfoldable pub mended_bytes : List ℕ → ℕ → List ℕ → ℕ → ℕ × (List ℕ × List ℕ)
mended_bytes g place report at = (at + length (byte_entries place g), (mended_health g, sets report at (byte_entries place g)))

-- ---- a cell by whether it is held: it keeps bit and owner, or all three words become 0

module _ (next b o : ℕ) where
  kept_held : (w : ℕ) → is_held next b o ≡ true → kept_of next b o w ≡ w
  unfolding kept_of state_of
  kept_held w e = rw e (go (is_free b o))
    where
      go : (x : Bool) → kept_in (if x then Free else Held o) w ≡ w
      go true = refl
      go false = refl

  kept_free : (w : ℕ) → is_held next b o ≡ false → (is_free b o ≡ true → w ≡ 0) → kept_of next b o w ≡ 0
  unfolding kept_of state_of
  kept_free w e z = rw e (go (is_free b o) z)
    where
      go : (x : Bool) → (x ≡ true → w ≡ 0) → kept_in (if x then Free else Damaged) w ≡ 0
      go true f = f refl
      go false f = refl

  free_words : is_free b o ≡ true → (b ≡ 0) × (o ≡ 0)
  unfolding is_free
  free_words e = go (eqb b 0) (eqb o 0) refl refl e
    where
      go : (x y : Bool) → eqb b 0 ≡ x → eqb o 0 ≡ y → x && y ≡ true → (b ≡ 0) × (o ≡ 0)
      go true true p q r = (eqb-true b 0 p, eqb-true o 0 q)
      go true false p q r = (let z : false ≡ true = r in cc, let z : false ≡ true = r in cc)
      go false y p q r = (let z : false ≡ true = r in cc, let z : false ≡ true = r in cc)

  kept_bit : is_held next b o ≡ false → kept_of next b o b ≡ 0
  kept_bit e = kept_free b e (λ f. (free_words f).0)

  kept_owner : is_held next b o ≡ false → kept_of next b o o ≡ 0
  kept_owner e = kept_free o e (λ f. (free_words f).1)

-- of a held cell neither is 0
held_bit : (next b o : ℕ) → is_held next b o ≡ true → b ≢ 0
unfolding is_held
held_bit next b o e z = let w : false ≡ true = (rw z at e) in let q : ◌≡◌ {A = ℕ} 1 0 = ap (λ (x : Bool). if x then 0 else 1) w in omega arith

held_owner : (next b o : ℕ) → is_held next b o ≡ true → o ≢ 0
unfolding is_held
held_owner next b o e z = let q : ◌≡◌ {A = ℕ} 1 0 = ap (λ (x : Bool). if x then 0 else 1) (go (eqb b 1) (rw z at e)) in omega arith
  where
    go : (x : Bool) → x && false ≡ true → false ≡ true
    go true p = p
    go false p = p

-- a word is 0, or changes if it becomes 0
zero_changed : (w : ℕ) → zero_in w + changed_of w 0 ≡ 1
unfolding zero_in changed_of
zero_changed w = go (eqb w 0)
  where
    go : (x : Bool) → ◌≡◌ {A = ℕ} ((if x then 1 else 0) + (if x then 0 else 1)) 1
    go true = refl
    go false = refl

pub zero_few : (n w : ℕ) → n ≡ zero_in w → n ≤ 1
zero_few n w e = omega (arith, zero_changed w)

-- a word stored where it stands
stays : (l : List ℕ) (i a : ℕ) → a ≡ get_or l i 0 → set l i a ≡ l
stays l i a e = rw e (set-get_or l i 0)

pub bit_read : (t : List ℕ) (c : ℕ) → bit_at t c ≡ get_or t (3 * c) 0
unfolding bit_at
bit_read t c = refl

pub owner_read : (t : List ℕ) (c : ℕ) → owner_at t c ≡ get_or t (3 * c + 1) 0
unfolding owner_at
owner_read t c = refl

pub waiters_read : (t : List ℕ) (c : ℕ) → waiters_at t c ≡ get_or t (3 * c + 2) 0
unfolding waiters_at
waiters_read t c = refl

changed_self : (w : ℕ) → changed_of w w ≡ 0
unfolding changed_of
changed_self w = rw (eq-eqb w w refl)

change_self : (place w : ℕ) → change_of place w w ≡ []
unfolding change_of
change_self place w = rw (eq-eqb w w refl)

module _ (next : ℕ) (t : List ℕ) (c : ℕ) where
  abbrev pub held_here : Bool
  held_here = is_held next (bit_at t c) (owner_at t c)

  -- its words as they were read
  pub here : (b o : ℕ) (x : Bool) → b ≡ bit_at t c → o ≡ owner_at t c → x ≡ is_held next b o → held_here ≡ x
  here b o x e f d = rw (d, e, f)

  changed_held : held_here ≡ true → changed_in next t c ≡ changed_of (waiters_at t c) 0
  unfolding changed_in
  changed_held d =
      rw (kept_held next (bit_at t c) (owner_at t c) (bit_at t c) d, kept_held next (bit_at t c) (owner_at t c) (owner_at t c) d) (omega (arith, changed_self (bit_at t c), changed_self (owner_at t c)))

  changed_other : held_here ≡ false → changed_in next t c ≡ changed_of (bit_at t c) 0 + changed_of (owner_at t c) 0 + changed_of (waiters_at t c) 0
  unfolding changed_in
  changed_other d = rw (kept_bit next (bit_at t c) (owner_at t c) d, kept_owner next (bit_at t c) (owner_at t c) d)

  entries_held : held_here ≡ true → changes_in next t c ≡ change_of (3 * c + 2) (waiters_at t c) 0
  unfolding changes_in
  entries_held d =
      rw (kept_held next (bit_at t c) (owner_at t c) (bit_at t c) d, kept_held next (bit_at t c) (owner_at t c) (owner_at t c) d, change_self (3 * c) (bit_at t c), change_self (3 * c + 1) (owner_at t c))

  entries_other : held_here ≡ false
      → changes_in next t c ≡ change_of (3 * c) (bit_at t c) 0 ++ (change_of (3 * c + 1) (owner_at t c) 0 ++ change_of (3 * c + 2) (waiters_at t c) 0)
  unfolding changes_in
  entries_other d = rw (kept_bit next (bit_at t c) (owner_at t c) d, kept_owner next (bit_at t c) (owner_at t c) d)

  mend_held : held_here ≡ true → mend_cell_of next t c ≡ set t (3 * c + 2) 0
  unfolding mend_cell_of set_cell set_waiters
  mend_held d =
      rw (kept_held next (bit_at t c) (owner_at t c) (bit_at t c) d, kept_held next (bit_at t c) (owner_at t c) (owner_at t c) d, bit_stays t c, owner_stays t c)
    where
      bit_stays : (t : List ℕ) (c : ℕ) → set t (3 * c) (bit_at t c) ≡ t
      bit_stays t c = stays t (3 * c) (bit_at t c) (bit_read t c)

      owner_stays : (t : List ℕ) (c : ℕ) → set t (3 * c + 1) (owner_at t c) ≡ t
      owner_stays t c = stays t (3 * c + 1) (owner_at t c) (owner_read t c)

  mend_other : held_here ≡ false → mend_cell_of next t c ≡ set (set (set t (3 * c) 0) (3 * c + 1) 0) (3 * c + 2) 0
  unfolding mend_cell_of set_cell set_waiters
  mend_other d = rw (kept_bit next (bit_at t c) (owner_at t c) d, kept_owner next (bit_at t c) (owner_at t c) d)

  held_one : held_here ≡ true → held_in next t c ≡ c ∷ []
  unfolding held_in
  held_one d = rw d

  held_none : held_here ≡ false → held_in next t c ≡ []
  unfolding held_in
  held_none d = rw d

  -- of its words, each is 0, or changes, or is bit or owner of a held cell
  zeros_held : held_here ≡ true → zero_in (bit_at t c) + zero_in (owner_at t c) ≡ 0
  unfolding zero_in
  zeros_held d =
      rw (ne_eqb (bit_at t c) 0 (held_bit next (bit_at t c) (owner_at t c) d), ne_eqb (owner_at t c) 0 (held_owner next (bit_at t c) (owner_at t c) d))

  zeros_cell : zero_in (bit_at t c) + zero_in (owner_at t c) + zero_in (waiters_at t c) + changed_in next t c + 2 * length (held_in next t c) ≡ 3
  zeros_cell = go held_here refl
    where
      go : (x : Bool) → held_here ≡ x
          → zero_in (bit_at t c) + zero_in (owner_at t c) + zero_in (waiters_at t c) + changed_in next t c + 2 * length (held_in next t c) ≡ 3
      go true d = rw (changed_held d, held_one d) (omega (arith, zeros_held d, zero_changed (waiters_at t c)))
      go false d = rw (changed_other d, held_none d) (omega (arith, zero_changed (bit_at t c), zero_changed (owner_at t c), zero_changed (waiters_at t c)))

mended_first : (next b o w : ℕ) (t : List ℕ) → mended_table next (b ∷ o ∷ w ∷ t) ≡ mended_cell next b o w ++ mended_table next t
unfolding mended_table
mended_first next b o w t = refl

-- ---- a cell and the cells behind it

module _ (next : ℕ) (t : List ℕ) where
  -- the table from cell c on
  abbrev from : ℕ → List ℕ
  from c = drop (3 * c) t

  from_cell : (c : ℕ) → 3 * c + 2 < length t → from c ≡ bit_at t c ∷ owner_at t c ∷ waiters_at t c ∷ from (c + 1)
  unfolding bit_at owner_at waiters_at
  from_cell c h =
      let e : 3 * c + 1 + 1 ≡ 3 * c + 2 = omega arith in
      let f : 3 * c + 2 + 1 ≡ 3 * (c + 1) = omega arith in
      rw (drop_one t (3 * c) (omega arith), drop_one t (3 * c + 1) (omega arith), e, drop_one t (3 * c + 2) h, f)

  from_end : (c : ℕ) → length t ≤ 3 * c → from c ≡ []
  from_end c h = drop_of_length-le t h

  -- ---- counting

  abbrev pub changes_left : ℕ → ℕ
  changes_left c = differing (from c) (mended_table next (from c))

  pub count_turn : (c : ℕ) → 3 * c + 2 < length t → changes_left c ≡ changed_in next t c + changes_left (c + 1)
  unfolding differing mended_table mended_cell changed_in
  count_turn c h = rw (from_cell c h) (omega arith)

  pub count_end : (c : ℕ) → length t ≤ 3 * c → changes_left c ≡ 0
  unfolding differing
  count_end c h = rw (from_end c h)

  -- ---- words that are 0, by cells

  zeros_turn : (c : ℕ) → 3 * c + 2 < length t
      → zeros_of (from c) ≡ zero_in (bit_at t c) + zero_in (owner_at t c) + zero_in (waiters_at t c) + zeros_of (from (c + 1))
  unfolding zeros_of
  zeros_turn c h = rw (from_cell c h) (omega arith)

  -- ---- entries

  abbrev pub entries_left : ℕ → List ℕ
  entries_left c = changes_from (3 * c) (from c) (mended_table next (from c))

  entries_turn : (c : ℕ) → 3 * c + 2 < length t → entries_left c ≡ changes_in next t c ++ entries_left (c + 1)
  unfolding changes_from mended_table mended_cell changes_in
  entries_turn c h =
      let e : 3 * c + 1 + 1 ≡ 3 * c + 2 = omega arith in
      let f : 3 * c + 2 + 1 ≡ 3 * (c + 1) = omega arith in
      rw (from_cell c h, e, f, append_assoc, append_assoc)

  entries_end : (c : ℕ) → length t ≤ 3 * c → entries_left c ≡ []
  unfolding changes_from
  entries_end c h = rw (from_end c h)

  -- ---- cells held

  abbrev pub held_left : ℕ → ℕ → List ℕ
  held_left cells c = held_from next (cells - c) c t

  held_turn : (cells c : ℕ) → c < cells → held_left cells c ≡ held_in next t c ++ held_left cells (c + 1)
  unfolding held_from held_in
  held_turn cells c h = let e : cells - c ≡ suc (cells - (c + 1)) = omega arith in rw e (go (is_held next (bit_at t c) (owner_at t c)))
    where
      go : (b : Bool)
          → (if b then c ∷ held_left cells (c + 1) else held_left cells (c + 1)) ≡ (if b then c ∷ [] else []) ++ held_left cells (c + 1)
      go true = refl
      go false = refl

  held_end : (cells c : ℕ) → cells ≤ c → held_left cells c ≡ []
  unfolding held_from
  held_end cells c h = let e : cells - c ≡ 0 = omega arith in rw e

  -- ---- mending

  -- the cells before c as they are, the others mended
  abbrev pub mended_on : ℕ → List ℕ
  mended_on c = take (3 * c) t ++ mended_table next (from c)

  mended_end : (c : ℕ) → length t ≤ 3 * c → mended_on c ≡ t
  unfolding mended_table
  mended_end c h = rw (from_end c h, take_all (3 * c) t h) (append-nil t)

  -- one cell mended is its three words stored
  mend_stores : (c : ℕ) → mend_cell_of next t c ≡ sets t (3 * c) (mended_cell next (bit_at t c) (owner_at t c) (waiters_at t c))
  unfolding mend_cell_of mended_cell set_cell set_waiters
  mend_stores c = let e : 3 * c + 1 ≡ suc (3 * c) = omega arith in let f : 3 * c + 2 ≡ suc (suc (3 * c)) = omega arith in rw (e, f)

  length_mended_cell : (b o w : ℕ) → length (mended_cell next b o w) ≡ 3
  unfolding mended_cell
  length_mended_cell b o w = refl

-- one cell mended: the cells before it, its three words, the cells behind it
mend_parts : (next : ℕ) (t : List ℕ) (c : ℕ) → 3 * c + 2 < length t
    → mend_cell_of next t c ≡ (take (3 * c) t ++ mended_cell next (bit_at t c) (owner_at t c) (waiters_at t c)) ++ from next t (c + 1)
mend_parts next t c h =
    let w = mended_cell next (bit_at t c) (owner_at t c) (waiters_at t c) in
    let k = length_mended_cell next t (bit_at t c) (owner_at t c) (waiters_at t c) in
    let n : 3 * c + length w ≡ 3 * (c + 1) = omega arith in
    mend_stores next t c ∙ sets-eq w t (3 * c) (omega arith) ∙ ap (λ (i : ℕ). (take (3 * c) t ++ w) ++ drop i t) n

mend_front : (next : ℕ) (t : List ℕ) (c : ℕ) → 3 * c + 2 < length t
    → length (take (3 * c) t ++ mended_cell next (bit_at t c) (owner_at t c) (waiters_at t c)) ≡ 3 * (c + 1)
mend_front next t c h =
    let w = mended_cell next (bit_at t c) (owner_at t c) (waiters_at t c) in
    omega (arith, length_mended_cell next t (bit_at t c) (owner_at t c) (waiters_at t c), length-append (take (3 * c) t) w, length-take-le (3 * c) t (omega arith))

-- the cells behind it are as they were
behind : (next : ℕ) (t : List ℕ) (c : ℕ) → 3 * c + 2 < length t → from next (mend_cell_of next t c) (c + 1) ≡ from next t (c + 1)
behind next t c h =
    let p = take (3 * c) t ++ mended_cell next (bit_at t c) (owner_at t c) (waiters_at t c) in
    rw (mend_parts next t c h) (drop_at p (from next t (c + 1)) (3 * (c + 1)) (mend_front next t c h))

-- one cell more is mended
mend_turn : (next : ℕ) (t : List ℕ) (c : ℕ) → 3 * c + 2 < length t → mended_on next (mend_cell_of next t c) (c + 1) ≡ mended_on next t c
mend_turn next t c h =
    let w = mended_cell next (bit_at t c) (owner_at t c) (waiters_at t c) in
    let p = take (3 * c) t ++ w in
    rw (behind next t c h, mend_parts next t c h, take_at p (from next t (c + 1)) (3 * (c + 1)) (mend_front next t c h))
    (append_assoc (take (3 * c) t) w (mended_table next (from next t (c + 1))) ∙ ap (λ (x : List ℕ). take (3 * c) t ++ x) (sym (rest_mended next t c h)))
  where
    rest_mended : (next : ℕ) (t : List ℕ) (c : ℕ) → 3 * c + 2 < length t
        → mended_table next (drop (3 * c) t) ≡ mended_cell next (bit_at t c) (owner_at t c) (waiters_at t c) ++ mended_table next (drop (3 * (c + 1)) t)
    rest_mended next t c h = rw (from_cell next t c h) (mended_first next (bit_at t c) (owner_at t c) (waiters_at t c) (drop (3 * (c + 1)) t))

-- another cell has its bit and owner as they were, so the cells behind are held as they were
bit_behind : (next : ℕ) (t : List ℕ) (c d : ℕ) → d ≢ c → bit_at (mend_cell_of next t c) d ≡ bit_at t d
unfolding mend_cell_of
bit_behind next t c d k = let b = kept_of next (bit_at t c) (owner_at t c) (bit_at t c) in let o = kept_of next (bit_at t c) (owner_at t c) (owner_at t c) in bit_set_waiters (set_cell t c b o) c 0 d ∙ bit_set_other t c b o d k

owner_behind : (next : ℕ) (t : List ℕ) (c d : ℕ) → d ≢ c → owner_at (mend_cell_of next t c) d ≡ owner_at t d
unfolding mend_cell_of
owner_behind next t c d k = let b = kept_of next (bit_at t c) (owner_at t c) (bit_at t c) in let o = kept_of next (bit_at t c) (owner_at t c) (owner_at t c) in owner_set_waiters (set_cell t c b o) c 0 d ∙ owner_set_other t c b o d k

held_behind : (next n d : ℕ) (t : List ℕ) (c : ℕ) → c < d → held_from next n d (mend_cell_of next t c) ≡ held_from next n d t
unfolding held_from
held_behind next zero d t c h = refl
held_behind next (suc n) d t c h =
    rw (bit_behind next t c d (omega arith), owner_behind next t c d (omega arith), held_behind next n (d + 1) t c (omega arith))

-- ---- health bytes

module _ (g : List ℕ) where
  abbrev pub bytes_left : ℕ → ℕ
  bytes_left i = differing (drop i g) (mended_health (drop i g))

  pub bytes_turn : (i : ℕ) → i < length g → bytes_left i ≡ changed_of (get_or g i 0) (mended_byte (get_or g i 0)) + bytes_left (i + 1)
  unfolding differing mended_health
  bytes_turn i h = rw (drop_one g i h)

  pub bytes_end : (i : ℕ) → length g ≤ i → bytes_left i ≡ 0
  unfolding differing
  bytes_end i h = rw (drop_of_length-le g h)

  abbrev pub byte_entries_left : ℕ → ℕ → List ℕ
  byte_entries_left place i = changes_from (place + i) (drop i g) (mended_health (drop i g))

  byte_entries_turn : (place i : ℕ) → i < length g
      → byte_entries_left place i ≡ change_of (place + i) (get_or g i 0) (mended_byte (get_or g i 0)) ++ byte_entries_left place (i + 1)
  unfolding changes_from mended_health
  byte_entries_turn place i h = let e : place + i + 1 ≡ place + (i + 1) = omega arith in rw (drop_one g i h, e)

  byte_entries_end : (place i : ℕ) → length g ≤ i → byte_entries_left place i ≡ []
  unfolding changes_from
  byte_entries_end place i h = rw (drop_of_length-le g h)

  -- the bytes before i as they are, the others mended
  abbrev pub health_on : ℕ → List ℕ
  health_on i = take i g ++ mended_health (drop i g)

  health_end : (i : ℕ) → length g ≤ i → health_on i ≡ g
  unfolding mended_health
  health_end i h = rw (drop_of_length-le g h, take_all i g h) (append-nil g)

health_turn : (g : List ℕ) (i : ℕ) → i < length g → health_on (set g i (mended_byte (get_or g i 0))) (i + 1) ≡ health_on g i
unfolding mended_health
health_turn g i h =
    let w = mended_byte (get_or g i 0) in
    let p = take i g ++ (w ∷ []) in
    let stored : set g i w ≡ p ++ drop (i + 1) g = sets-eq (w ∷ []) g i (omega arith) in
    let long : length p ≡ i + 1 = omega (arith, length-append (take i g) (w ∷ []), length-take-le i g (omega arith)) in
    rw (stored, take_at p (drop (i + 1) g) (i + 1) long, drop_at p (drop (i + 1) g) (i + 1) long, drop_one g i h)
    (append_assoc (take i g) (w ∷ []) (mended_health (drop (i + 1) g)))

-- ---- words laid

laid_none : (l : List ℕ) (i : ℕ) → (i, l) ≡ laid_of l i []
unfolding laid_of
laid_none l i = let e : i + 0 ≡ i = omega arith in rw e

-- some words are laid, and others are left to lay
laid_first : (l m : List ℕ) (i j : ℕ) (x y : List ℕ) → (j, m) ≡ laid_of l i x → laid_of m j y ≡ laid_of l i (x ++ y)
unfolding laid_of
laid_first l m i j x y e =
    let p : j ≡ i + length x = ap (λ (o : ℕ × List ℕ). o.0) e in
    let q : m ≡ sets l i x = ap (λ (o : ℕ × List ℕ). o.1) e in
    let r : i + length x + length y ≡ i + length (x ++ y) = omega (arith, length-append x y) in
    rw (p, q, r, laid_twice l x y i)

-- both are laid
laid_both : (l m : List ℕ) (i j : ℕ) (x y : List ℕ) (o : ℕ × List ℕ) → (j, m) ≡ laid_of l i x → o ≡ laid_of m j y → o ≡ laid_of l i (x ++ y)
laid_both l m i j x y o e f = f ∙ laid_first l m i j x y e

-- an entry is three stores, or none
laid_change : (l : List ℕ) (i place old new : ℕ) → eqb old new ≡ false
    → (i + 3, set (set (set l i place) (i + 1) old) (i + 2) new) ≡ laid_of l i (change_of place old new)
unfolding laid_of change_of
laid_change l i place old new d = let e : i + 1 ≡ suc i = omega arith in let f : i + 2 ≡ suc (suc i) = omega arith in rw (d, e, f)

laid_same : (l : List ℕ) (i place old new : ℕ) → eqb old new ≡ true → (i, l) ≡ laid_of l i (change_of place old new)
unfolding change_of
laid_same l i place old new d = rw d (laid_none l i)

pub length_change_new : (place old new : ℕ) → eqb old new ≡ false → length (change_of place old new) ≡ 3
unfolding change_of
length_change_new place old new d = rw d

-- ---- a word cleared, a cell and a byte mended

-- words laid, with a run u beside them
beside : (l r x u : List ℕ) (n i : ℕ) → (n, r) ≡ laid_of l i x
    → ◌≡◌ {A = ℕ × (List ℕ × List ℕ)} (n, (u, r)) (i + length x, (u, sets l i x))
unfolding laid_of
beside l r x u n i e = ap (λ (o : ℕ × List ℕ). (o.0, (u, o.1))) e

pub cleared_same : (t report : List ℕ) (place old at : ℕ) → old ≡ get_or t place 0 → eqb old 0 ≡ true
    → (at, (t, report)) ≡ cleared_of t place old report at
unfolding cleared_of
cleared_same t report place old at e d =
    let z : 0 ≡ get_or t place 0 = sym (eqb-true old 0 d) ∙ e in
    ap (λ (u : List ℕ). (at, (u, report))) (sym (stays t place 0 z)) ∙ beside report report (change_of place old 0) (set t place 0) at at (laid_same report at place old 0 d)

pub cleared_new : (t report : List ℕ) (place old at : ℕ) → eqb old 0 ≡ false
    → (at + 3, (set t place 0, set (set (set report at place) (at + 1) old) (at + 2) 0)) ≡ cleared_of t place old report at
unfolding cleared_of
cleared_new t report place old at d =
    beside report (set (set (set report at place) (at + 1) old) (at + 2) 0) (change_of place old 0) (set t place 0) (at + 3) at (laid_change report at place old 0 d)

module _ (t u report r : List ℕ) (place old n at : ℕ) (e : (n, (u, r)) ≡ cleared_of t place old report at) where
  cleared_laid : (n, r) ≡ laid_of report at (change_of place old 0)
  unfolding cleared_of laid_of
  cleared_laid = ap (λ (o : ℕ × (List ℕ × List ℕ)). (o.0, o.1.1)) e

  cleared_table : u ≡ set t place 0
  unfolding cleared_of
  cleared_table = ap (λ (o : ℕ × (List ℕ × List ℕ)). o.1.0) e

  pub cleared_place : n ≡ at + length (change_of place old 0)
  unfolding cleared_of
  cleared_place = ap (λ (o : ℕ × (List ℕ × List ℕ)). o.0) e

  -- another word is as it was
  pub cleared_other : (i : ℕ) → i ≢ place → get_or u i 0 ≡ get_or t i 0
  cleared_other i d = rw cleared_table (get_or-set_other t place i 0 0 d)

module _ (next : ℕ) (t : List ℕ) (c : ℕ) where
  -- room for its entries
  pub fits_held : (at n w : ℕ) → held_here next t c ≡ true → w ≡ waiters_at t c → at + length (changes_in next t c) ≤ n
      → at + length (change_of (3 * c + 2) w 0) ≤ n
  fits_held at n w d e h = rw e (rw (entries_held next t c d) at h)

  pub fits_other : (at n b o w : ℕ) → held_here next t c ≡ false → b ≡ bit_at t c → o ≡ owner_at t c → w ≡ waiters_at t c
      → at + length (changes_in next t c) ≤ n
      → at + length (change_of (3 * c) b 0) + length (change_of (3 * c + 1) o 0) + length (change_of (3 * c + 2) w 0) ≤ n
  fits_other at n b o w d e f g h =
      let x = change_of (3 * c) (bit_at t c) 0 in
      let y = change_of (3 * c + 1) (owner_at t c) 0 in
      let z = change_of (3 * c + 2) (waiters_at t c) 0 in
      let k : length (changes_in next t c) ≡ length (x ++ (y ++ z)) = ap (λ (l : List ℕ). length l) (entries_other next t c d) in
      rw (e, f, g) (omega (arith, length-append x (y ++ z), length-append y z))

  -- a held cell: only its waiters become 0
  pub mended_held : (u report r list : List ℕ) (w n at left : ℕ) → held_here next t c ≡ true → w ≡ waiters_at t c
      → (n, (u, r)) ≡ cleared_of t (3 * c + 2) w report at
      → (ended n (left + 1), (u, (r, set list left c))) ≡ mended_in next t c report at list left
  unfolding mended_in cleared_of
  mended_held u report r list w n at left d e k =
      ap (λ (o : ℕ × (List ℕ × List ℕ)). (ended o.0 (left + 1), (o.1.0, (o.1.1, set list left c)))) k
      ∙ rw (e, entries_held next t c d, mend_held next t c d, held_one next t c d)

  laying_none : (u v report r list x : List ℕ) (n at left : ℕ) → (n, r) ≡ laid_of report at x → u ≡ v
      → (ended n left, (u, (r, list))) ≡ laying v x [] report at list left
  unfolding laid_of
  laying_none u v report r list x n at left e f =
      let z : left + 0 ≡ left = omega arith in
      rw (f, z) (ap (λ (o : ℕ × List ℕ). (ended o.0 left, (v, (o.1, list)))) e)

  -- any other cell: all three words become 0
  pub mended_other : (t1 t2 t3 report r1 r2 r3 list : List ℕ) (b o w n1 n2 n3 at left : ℕ) → held_here next t c ≡ false
      → b ≡ bit_at t c → o ≡ owner_at t c → w ≡ waiters_at t c
      → (n1, (t1, r1)) ≡ cleared_of t (3 * c) b report at
      → (n2, (t2, r2)) ≡ cleared_of t1 (3 * c + 1) o r1 n1
      → (n3, (t3, r3)) ≡ cleared_of t2 (3 * c + 2) w r2 n2
      → (ended n3 left, (t3, (r3, list))) ≡ mended_in next t c report at list left
  unfolding mended_in
  mended_other t1 t2 t3 report r1 r2 r3 list b o w n1 n2 n3 at left d e f g p q s =
      let x = change_of (3 * c) b 0 in
      let y = change_of (3 * c + 1) o 0 in
      let z = change_of (3 * c + 2) w 0 in
      let first_two = laid_both r1 r2 n1 n2 y z (n3, r3) (cleared_laid t1 t2 r1 r2 (3 * c + 1) o n2 n1 q) (cleared_laid t2 t3 r2 r3 (3 * c + 2) w n3 n2 s) in
      let all = laid_both report r1 at n1 x (y ++ z) (n3, r3) (cleared_laid t t1 report r1 (3 * c) b n1 at p) first_two in
      let table : t3 ≡ set (set (set t (3 * c) 0) (3 * c + 1) 0) (3 * c + 2) 0 =
      rw (cleared_table t2 t3 r2 r3 (3 * c + 2) w n3 n2 s, cleared_table t1 t2 r1 r2 (3 * c + 1) o n2 n1 q, cleared_table t t1 report r1 (3 * c) b n1 at p) in
      let words : changes_in next t c ≡ x ++ (y ++ z) = rw (e, f, g) (entries_other next t c d) in
      rw (mend_other next t c d, held_none next t c d, words) (laying_none t3 (set (set (set t (3 * c) 0) (3 * c + 1) 0) (3 * c + 2) 0) report r3 list (x ++ (y ++ z)) n3 at left all table)

-- a byte that stays, one that becomes 1
byte_mended : (b : ℕ) → 1 < b → mended_byte b ≡ 1
unfolding mended_byte
byte_mended b h = rw (lt-leb b 1 h)

pub byte_entry : (place b : ℕ) → 1 < b → length (change_of place b (mended_byte b)) ≡ 3
byte_entry place b h = rw (byte_mended b h) (length_change_new place b 1 (ne_eqb b 1 (omega arith)))

pub at_same : (g report : List ℕ) (i b place at : ℕ) → b ≡ get_or g i 0 → b ≤ 1 → (at, (g, report)) ≡ mended_at g i b place report at
unfolding mended_at
at_same g report i b place at e h =
    rw (byte_kept b h, stays g i b e) (beside report report (change_of place b b) g at at (laid_same report at place b b (eq-eqb b b refl)))

pub at_changed : (g report : List ℕ) (i b place at : ℕ) → 1 < b
    → (at + 3, (set g i 1, set (set (set report at place) (at + 1) b) (at + 2) 1)) ≡ mended_at g i b place report at
unfolding mended_at
at_changed g report i b place at h =
    rw (byte_mended b h) (beside report (set (set (set report at place) (at + 1) b) (at + 2) 1) (change_of place b 1) (set g i 1) (at + 3) at (laid_change report at place b 1 (ne_eqb b 1 (omega arith))))

-- ---- words that are 0, from word i on

module _ (t : List ℕ) where
  abbrev pub zeros_left : ℕ → ℕ
  zeros_left i = zeros_of (drop i t)

  pub zeros_word : (i : ℕ) → i < length t → zeros_left i ≡ zero_in (get_or t i 0) + zeros_left (i + 1)
  unfolding zeros_of
  zeros_word i h = rw (drop_one t i h)

  pub zeros_end : (i : ℕ) → length t ≤ i → zeros_left i ≡ 0
  unfolding zeros_of
  zeros_end i h = rw (drop_of_length-le t h)

  pub zeros_start : 0 + zeros_left 0 ≡ zeros_of t
  zeros_start = omega arith

-- ---- what is left at the start is all
pub count_start : (next : ℕ) (t : List ℕ) → 0 + changes_left next t 0 ≡ count_cells_of next t
unfolding count_cells_of
count_start next t = omega arith

pub bytes_start : (g : List ℕ) → 0 + bytes_left g 0 ≡ count_bytes_of g
unfolding count_bytes_of
bytes_start g = omega arith

pub held_count_start : (next cells : ℕ) (t : List ℕ) → 0 + length (held_left next t cells 0) ≡ count_held_of next cells t
unfolding count_held_of
held_count_start next cells t = let e : cells - 0 ≡ cells = omega arith in rw e (omega arith)

entries_start : (next : ℕ) (t : List ℕ) → entries_left next t 0 ≡ cell_entries next t
unfolding cell_entries
entries_start next t = refl

byte_entries_start : (place : ℕ) (g : List ℕ) → byte_entries_left g place 0 ≡ byte_entries place g
unfolding byte_entries
byte_entries_start place g = let e : place + 0 ≡ place = omega arith in rw e

held_start : (next cells : ℕ) (t : List ℕ) → held_left next t cells 0 ≡ held_from next cells 0 t
held_start next cells t = let e : cells - 0 ≡ cells = omega arith in rw e

-- a cell is at most one held cell
pub held_in_small : (n next : ℕ) (t : List ℕ) (c : ℕ) → n ≡ length (held_in next t c) → n ≤ 1
unfolding held_in
held_in_small n next t c e = rw e (if_both (λ (x : List ℕ). length x ≤ 1) (is_held next (bit_at t c) (owner_at t c)) (omega arith) (omega arith))

-- the count of held cells with one cell more, by its bit and by whether it is held
pub held_unset : (next : ℕ) (t : List ℕ) (c n : ℕ) → bit_at t c ≢ 1 → n ≡ n + length (held_in next t c)
unfolding is_held
held_unset next t c n e = let d : held_here next t c ≡ false = rw (ne_eqb (bit_at t c) 1 e) in rw (held_none next t c d) (omega arith)

pub held_adds : (next : ℕ) (t : List ℕ) (c b o : ℕ) (x : Bool) (n m : ℕ) → b ≡ bit_at t c → o ≡ owner_at t c → x ≡ is_held next b o
    → (x ≡ true → m ≡ 1) → (x ≡ false → m ≡ 0) → n + m ≡ n + length (held_in next t c)
held_adds next t c b o x n m e f d one none = go x refl
  where
    go : (y : Bool) → x ≡ y → n + m ≡ n + length (held_in next t c)
    go true p = rw (held_one next t c (here next t c b o x e f d ∙ p), one p)
    go false p = rw (held_none next t c (here next t c b o x e f d ∙ p), none p)

pub held_turn_length : (next : ℕ) (t : List ℕ) (cells c : ℕ) → c < cells
    → length (held_left next t cells c) ≡ length (held_in next t c) + length (held_left next t cells (c + 1))
held_turn_length next t cells c h = rw (held_turn next t cells c h) (length-append (held_in next t c) (held_left next t cells (c + 1)))

pub held_in_one : (next : ℕ) (t : List ℕ) (c : ℕ) → is_held next (bit_at t c) (owner_at t c) ≡ true → length (held_in next t c) ≡ 1
unfolding held_in
held_in_one next t c e = rw e

pub held_count_end : (next : ℕ) (t : List ℕ) (cells c : ℕ) → cells ≤ c → length (held_left next t cells c) ≡ 0
held_count_end next t cells c h = rw (held_end next t cells c h)

-- each word is 0, or changes, or is one of two of a held cell
zeros_from : (next : ℕ) (t : List ℕ) (n c : ℕ) → length t ≡ 3 * (c + n)
    → zeros_of (from next t c) + changes_left next t c + 2 * length (held_left next t (c + n) c) ≡ 3 * n
zeros_from next t zero c l =
    omega (arith, zeros_end t (3 * c) (omega arith), count_end next t c (omega arith), held_count_end next t (c + 0) c (omega arith))
zeros_from next t (suc n) c l =
    let m : c + 1 + n ≡ c + suc n = omega arith in
    let same : length (held_left next t (c + 1 + n) (c + 1)) ≡ length (held_left next t (c + suc n) (c + 1)) = ap (λ (i : ℕ). length (held_left next t i (c + 1))) m in
    omega (arith, zeros_turn next t c (omega arith), zeros_cell next t c, count_turn next t c (omega arith), held_turn_length next t (c + suc n) c (omega arith), zeros_from next t n (c + 1) (omega arith), same)

pub zeros_all : (next cells : ℕ) (t : List ℕ) → length t ≡ 3 * cells → zeros_of t + count_cells_of next t + 2 * count_held_of next cells t ≡ length t
zeros_all next cells t l =
    let e : 0 + cells ≡ cells = omega arith in
    let same : length (held_left next t (0 + cells) 0) ≡ length (held_left next t cells 0) = ap (λ (i : ℕ). length (held_left next t i 0)) e in
    omega (arith, zeros_from next t cells 0 (omega arith), same, count_start next t, held_count_start next cells t)

pub tally_cells_lem : (next cells : ℕ) (t : List ℕ) (n m : ℕ) → n ≡ count_cells_of next t → m ≡ count_held_of next cells t → tallied n m ≡ tally_cells next cells t
unfolding tally_cells
tally_cells_lem next cells t n m e f = rw (e, f)

pub zeros_tally : (next cells : ℕ) (t : List ℕ) (m n : ℕ) → length t ≡ 3 * cells → m ≡ count_held_of next cells t → n ≡ zeros_of t
    → tallied (length t - n - 2 * m) m ≡ tally_cells next cells t
zeros_tally next cells t m n l e f = tally_cells_lem next cells t (length t - n - 2 * m) m (omega (arith, zeros_all next cells t l)) e

-- ---- the two passes that write, from cell c or byte i on

-- what is given from here on; the loop keeps it
unfoldable pub cells_from : ℕ → ℕ → List ℕ → ℕ → List ℕ → ℕ → List ℕ → ℕ → Mended
cells_from next cells t c report at list left = laying (mended_on next t c) (entries_left next t c) (held_left next t cells c) report at list left

-- some entries and cells are laid, and others are left to lay
laying_twice : (t x x' y y' report list : List ℕ) (at left : ℕ)
    → laying t x' y' (sets report at x) (at + length x) (sets list left y) (left + length y) ≡ laying t (x ++ x') (y ++ y') report at list left
laying_twice t x x' y y' report list at left =
    let p : at + length x + length x' ≡ at + length (x ++ x') = omega (arith, length-append x x') in
    let q : left + length y + length y' ≡ left + length (y ++ y') = omega (arith, length-append y y') in
    rw (p, q, laid_twice report x x' at, laid_twice list y y' left)

pub cells_turn : (next cells : ℕ) (t : List ℕ) (c : ℕ) (report : List ℕ) (at : ℕ) (list : List ℕ) (left : ℕ) → c < cells → 3 * c + 2 < length t
    → (o : Mended) → o ≡ mended_in next t c report at list left
    → cells_from next cells o.1.0 (c + 1) o.1.1.0 o.0.at o.1.1.1 o.0.left ≡ cells_from next cells t c report at list left
unfolding mended_in cells_from
cells_turn next cells t c report at list left l h o e =
    rw (e, mend_turn next t c h, behind next t c h, held_behind next (cells - (c + 1)) (c + 1) t c (omega arith), entries_turn next t c h, held_turn next t cells c l)
    (laying_twice (mended_on next t c) (changes_in next t c) (entries_left next t (c + 1)) (held_in next t c) (held_left next t cells (c + 1)) report list at left)

pub cells_start : (next cells : ℕ) (t report list : List ℕ) → cells_from next cells t 0 report 0 list 0 ≡ mended_cells next cells t report list
unfolding cells_from mended_cells
cells_start next cells t report list = rw (entries_start next t, held_start next cells t)

pub cells_end : (next cells : ℕ) (t : List ℕ) (c : ℕ) (report : List ℕ) (at : ℕ) (list : List ℕ) (left : ℕ) → cells ≤ c → length t ≤ 3 * c
    → (ended at left, (t, (report, list))) ≡ cells_from next cells t c report at list left
unfolding cells_from
cells_end next cells t c report at list left k h =
    let p : at + 0 ≡ at = omega arith in
    let q : left + 0 ≡ left = omega arith in
    rw (mended_end next t c h, entries_end next t c h, held_end next t cells c k, p, q)

-- there is room for the entries of the next cell
pub cells_fit : (next cells : ℕ) (t : List ℕ) (c : ℕ) (report : List ℕ) (at : ℕ) (list : List ℕ) (left : ℕ) (u r s : List ℕ) (n m : ℕ)
    → c < cells → 3 * c + 2 < length t → cells_from next cells t c report at list left ≡ mended_cells next cells u r s
    → length (cell_entries next u) ≤ n → length (held_from next cells 0 u) ≤ m
    → (at + length (changes_in next t c) ≤ n) × (left + length (held_in next t c) ≤ m)
unfolding cells_from mended_cells
cells_fit next cells t c report at list left u r s n m l h e p q =
    let a : at + length (entries_left next t c) ≡ 0 + length (cell_entries next u) = ap (λ (o : Mended). o.0.at) e in
    let b : left + length (held_left next t cells c) ≡ 0 + length (held_from next cells 0 u) = ap (λ (o : Mended). o.0.left) e in
    let x : length (entries_left next t c) ≡ length (changes_in next t c ++ entries_left next t (c + 1)) = ap (λ (z : List ℕ). length z) (entries_turn next t c h) in
    let y = held_turn_length next t cells c l in
    (omega (arith, length-append (changes_in next t c) (entries_left next t (c + 1))), omega arith)

-- the same of health bytes
unfoldable pub bytes_from : List ℕ → ℕ → ℕ → List ℕ → ℕ → ℕ × (List ℕ × List ℕ)
bytes_from g i place report at = (at + length (byte_entries_left g place i), (health_on g i, sets report at (byte_entries_left g place i)))

pub bytes_go : (g : List ℕ) (i b place : ℕ) (report : List ℕ) (at : ℕ) → i < length g → b ≡ get_or g i 0
    → (o : ℕ × (List ℕ × List ℕ)) → o ≡ mended_at g i b (place + i) report at
    → bytes_from o.1.0 (i + 1) place o.1.1 o.0 ≡ bytes_from g i place report at
unfolding mended_at bytes_from
bytes_go g i b place report at h k o e =
    let m = mended_byte (get_or g i 0) in
    let x = change_of (place + i) (get_or g i 0) m in
    let y = byte_entries_left g place (i + 1) in
    let p : at + length x + length y ≡ at + length (x ++ y) = omega (arith, length-append x y) in
    rw (e, k, health_turn g i h, drop-set-lt (i + 1) g i m (omega arith), byte_entries_turn g place i h, laid_twice report x y at, p)

pub bytes_all : (g : List ℕ) (place : ℕ) (report : List ℕ) (at : ℕ) → bytes_from g 0 place report at ≡ mended_bytes g place report at
unfolding bytes_from mended_bytes
bytes_all g place report at = rw (byte_entries_start place g)

pub bytes_stop : (g : List ℕ) (i place : ℕ) (report : List ℕ) (at : ℕ) → length g ≤ i → (at, (g, report)) ≡ bytes_from g i place report at
unfolding bytes_from
bytes_stop g i place report at h = let p : at + 0 ≡ at = omega arith in rw (health_end g i h, byte_entries_end g place i h, p)

pub bytes_fit : (g : List ℕ) (i place : ℕ) (report : List ℕ) (at : ℕ) (u r : List ℕ) (k n : ℕ) → i < length g
    → bytes_from g i place report at ≡ mended_bytes u place r k → k + length (byte_entries place u) ≤ n
    → (b : ℕ) → b ≡ get_or g i 0 → at + length (change_of (place + i) b (mended_byte b)) ≤ n
unfolding bytes_from mended_bytes
bytes_fit g i place report at u r k n h e l b f =
    let x = change_of (place + i) (get_or g i 0) (mended_byte (get_or g i 0)) in
    let y = byte_entries_left g place (i + 1) in
    let a : at + length (byte_entries_left g place i) ≡ k + length (byte_entries place u) = ap (λ (o : ℕ × (List ℕ × List ℕ)). o.0) e in
    let z : length (byte_entries_left g place i) ≡ length (x ++ y) = ap (λ (w : List ℕ). length w) (byte_entries_turn g place i h) in
    rw f (omega (arith, length-append x y))

-- ---- the whole

count_cells_small : (n next : ℕ) (t : List ℕ) → n ≡ count_cells_of next t → n ≤ length t
unfolding count_cells_of
count_cells_small n next t e = omega (arith, differing_few t (mended_table next t))

pub count_bytes_small : (n : ℕ) (g : List ℕ) → n ≡ count_bytes_of g → n ≤ length g
unfolding count_bytes_of
count_bytes_small n g e = omega (arith, differing_few g (mended_health g))

entries_count : (h : Head) (t g : List ℕ) (n m : ℕ) → n ≡ count_cells_of h.next t → m ≡ count_bytes_of g → n + m ≡ entries_of h t g
unfolding count_cells_of count_bytes_of
entries_count h t g n m e f = omega (arith, entries_number h t g)

held_count : (h : Head) (t : List ℕ) (n : ℕ) → Shaped h (length t) → n ≡ count_held_of h.next (cells_of h) t → n ≡ length (left_held h.next (cells_of h) t)
unfolding count_held_of
held_count h t n s e = e ∙ ap (λ (x : List ℕ). length x) (sym (left_held_is h.next (cells_of h) t (omega (arith, s.words_are))))

pub tally_few : (n : Tally) (next cells : ℕ) (t : List ℕ) → n ≡ tally_cells next cells t → n.changes ≤ length t
unfolding tally_cells
tally_few n next cells t e = count_cells_small n.changes next t (ap (λ (o : Tally). o.changes) e)

pub tally_all : (h : Head) (t g : List ℕ) (n : Tally) (m : ℕ) → Shaped h (length t) → n ≡ tally_cells h.next (cells_of h) t → m ≡ count_bytes_of g
    → tallied (n.changes + m) n.left ≡ tally_of h t g
unfolding tally_cells tally_of
tally_all h t g n m s e f =
    rw (entries_count h t g n.changes m (ap (λ (o : Tally). o.changes) e) f, held_count h t n.left s (ap (λ (o : Tally). o.left) e))

pub tally_changes : (n : Tally) (h : Head) (t g : List ℕ) → n ≡ tally_of h t g → n.changes ≡ entries_of h t g
unfolding tally_of
tally_changes n h t g e = ap (λ (o : Tally). o.changes) e

pub tally_left : (n : Tally) (h : Head) (t g : List ℕ) → n ≡ tally_of h t g → n.left ≡ length (left_held h.next (cells_of h) t)
unfolding tally_of
tally_left n h t g e = ap (λ (o : Tally). o.left) e

changes_parts : (h : Head) (t g : List ℕ) → changes_of h t g ≡ cell_entries h.next t ++ byte_entries (3 * cells_of h) g
unfolding changes_of cell_entries byte_entries
changes_parts h t g = refl

-- the table's entries, and those of the health bytes
pub changes_long : (h : Head) (t g : List ℕ) → length (changes_of h t g) ≡ length (cell_entries h.next t) + length (byte_entries (3 * cells_of h) g)
changes_long h t g = rw (changes_parts h t g) (length-append (cell_entries h.next t) (byte_entries (3 * cells_of h) g))

pub list_fits : (h : Head) (t : List ℕ) (n : ℕ) → Shaped h (length t) → length (left_held h.next (cells_of h) t) ≤ n
    → length (held_from h.next (cells_of h) 0 t) ≤ n
list_fits h t n s k = rw (left_held_is h.next (cells_of h) t (omega (arith, s.words_are))) at k

-- where the table's entries end
pub cells_place : (o : Mended) (next cells : ℕ) (t report list : List ℕ) → o ≡ mended_cells next cells t report list → o.0.at ≡ length (cell_entries next t)
unfolding mended_cells
cells_place o next cells t report list e = let p : o.0.at ≡ 0 + length (cell_entries next t) = ap (λ (q : Mended). q.0.at) e in omega arith

-- laid from the front on: the words behind are as they were
over : (l x : List ℕ) → length x ≤ length l → sets l 0 x ≡ over_of x l
unfolding over_of
over l x h = let e : 0 + length x ≡ length x = omega arith in rw (sets-eq x l 0 (omega arith), e)

pub mend_whole : (h : Head) (t g report list : List ℕ) (o : Mended) (q : ℕ × (List ℕ × List ℕ)) → Shaped h (length t)
    → length (changes_of h t g) ≤ length report → length (left_held h.next (cells_of h) t) ≤ length list
    → o ≡ mended_cells h.next (cells_of h) t report list → q ≡ mended_bytes g (3 * cells_of h) o.1.1.0 o.0.at
    → (o.1.0, (q.1.0, (q.1.1, o.1.1.1))) ≡ mend_of h t g report list
unfolding mended_cells mended_bytes mend_of
mend_whole h t g report list o q s k l e f =
    let x = cell_entries h.next t in
    let y = byte_entries (3 * cells_of h) g in
    let held = left_held_is h.next (cells_of h) t (omega (arith, s.words_are)) in
    rw (f, e, laid_twice report x y 0, ← changes_parts h t g, over report (changes_of h t g) k, ← held, over list (left_held h.next (cells_of h) t) l)

-- ---- a table and health with nothing to mend: they stay, and a cell is held exactly if its bit is not 0

-- the cell's number, if its bit is not 0
unfoldable pub used_in : List ℕ → ℕ → List ℕ
used_in t c = if eqb (bit_at t c) 0 then [] else c ∷ []

-- the cells whose bit is not 0, `left` of them from cell c on
unfoldable pub used_from : ℕ → ℕ → List ℕ → List ℕ
used_from zero c t = []
used_from (suc left) c t = used_in t c ++ used_from left (c + 1) t

abbrev pub used_left : List ℕ → ℕ → ℕ → List ℕ
used_left t cells c = used_from (cells - c) c t

pub used_none : (t list : List ℕ) (c left : ℕ) → bit_at t c ≡ 0 → (left, list) ≡ laid_of list left (used_in t c)
unfolding used_in
used_none t list c left e = rw e (laid_none list left)

pub used_one : (t : List ℕ) (c : ℕ) → bit_at t c ≢ 0 → used_in t c ≡ c ∷ []
unfolding used_in
used_one t c e = rw (ne_eqb (bit_at t c) 0 e)

pub used_laid : (t list : List ℕ) (c left : ℕ) → bit_at t c ≢ 0 → (left + 1, set list left c) ≡ laid_of list left (used_in t c)
unfolding laid_of
used_laid t list c left e = rw (used_one t c e)

used_turn : (t : List ℕ) (cells c : ℕ) → c < cells → used_left t cells c ≡ used_in t c ++ used_left t cells (c + 1)
unfolding used_from
used_turn t cells c h = let e : cells - c ≡ suc (cells - (c + 1)) = omega arith in rw e

-- one cell more is listed
pub used_go : (t : List ℕ) (cells c : ℕ) → c < cells → (list : List ℕ) (left : ℕ) (o : ℕ × List ℕ) → o ≡ laid_of list left (used_in t c)
    → (o.0 + length (used_left t cells (c + 1)) ≡ left + length (used_left t cells c))
    × (sets o.1 o.0 (used_left t cells (c + 1)) ≡ sets list left (used_left t cells c))
unfolding laid_of
used_go t cells c h list left o e =
    let x = used_in t c in
    let y = used_left t cells (c + 1) in
    let turn = used_turn t cells c h in
    let p : o.0 ≡ left + length x = ap (λ (q : ℕ × List ℕ). q.0) e in
    (rw turn (omega (arith, p, length-append x y)), rw (e, turn) (laid_twice list x y left))

pub used_start : (t : List ℕ) (cells : ℕ) → used_left t cells 0 ≡ used_from cells 0 t
used_start t cells = let e : cells - 0 ≡ cells = omega arith in rw e

pub used_end : (t : List ℕ) (cells c : ℕ) → cells ≤ c → used_left t cells c ≡ []
unfolding used_from
used_end t cells c h = let e : cells - c ≡ 0 = omega arith in rw e

-- there is room for the number of the next cell
pub used_fits : (t : List ℕ) (cells c left n : ℕ) → c < cells → left + length (used_left t cells c) ≤ n → left + length (used_in t c) ≤ n
used_fits t cells c left n h k =
    let e : length (used_left t cells c) ≡ length (used_in t c ++ used_left t cells (c + 1)) = ap (λ (l : List ℕ). length l) (used_turn t cells c h) in
    omega (arith, length-append (used_in t c) (used_left t cells (c + 1)))

changed_none : (a b : ℕ) → changed_of a b ≡ 0 → a ≡ b
unfolding changed_of
changed_none a b e = go (eqb a b) refl e
  where
    go : (x : Bool) → eqb a b ≡ x → ◌≡◌ {A = ℕ} (if x then 0 else 1) 0 → a ≡ b
    go true p q = eqb-true a b p
    go false p q = omega arith

differing_none : (old new : List ℕ) → length old ≡ length new → differing old new ≡ 0 → old ≡ new
unfolding differing
differing_none [] [] l e = refl
differing_none [] (b ∷ new) l e = absurd (omega arith)
differing_none (a ∷ old) [] l e = absurd (omega arith)
differing_none (a ∷ old) (b ∷ new) l e = rw (changed_none a b (omega arith), differing_none old new (omega arith) (omega arith))

changes_none : (place : ℕ) (t : List ℕ) → changes_from place t t ≡ []
unfolding changes_from
changes_none place [] = refl
changes_none place (a ∷ t) = rw (change_self place a, changes_none (place + 1) t)

usedless : (t : List ℕ) (c : ℕ) → bit_at t c ≡ 0 → used_in t c ≡ []
unfolding used_in
usedless t c z = rw z

used_held_in : (next : ℕ) (t : List ℕ) (c : ℕ) → changed_in next t c ≡ 0 → used_in t c ≡ held_in next t c
used_held_in next t c e = go (held_here next t c) refl
  where
    go : (x : Bool) → held_here next t c ≡ x → used_in t c ≡ held_in next t c
    go true d = used_one t c (held_bit next (bit_at t c) (owner_at t c) d) ∙ sym (held_one next t c d)
    go false d = usedless t c (changed_none (bit_at t c) 0 (omega (arith, changed_other next t c d))) ∙ sym (held_none next t c d)

used_held : (next : ℕ) (t : List ℕ) (n c : ℕ) → length t ≡ 3 * (c + n) → changes_left next t c ≡ 0 → used_from n c t ≡ held_left next t (c + n) c
unfolding used_from
used_held next t zero c l e = sym (held_end next t (c + 0) c (omega arith))
used_held next t (suc n) c l e =
    let k = count_turn next t c (omega arith) in
    let m : c + 1 + n ≡ c + suc n = omega arith in
    let rest : used_from n (c + 1) t ≡ held_left next t (c + suc n) (c + 1) = used_held next t n (c + 1) (omega arith) (omega (arith, k)) ∙ ap (λ (i : ℕ). held_left next t i (c + 1)) m in
    rw (used_held_in next t c (omega (arith, k)), rest) (sym (held_turn next t (c + suc n) c (omega arith)))

module _ (h : Head) (t g : List ℕ) (s : Shaped h (length t)) (none : entries_of h t g ≡ 0) where
  table_stays : mended_table h.next t ≡ t
  table_stays = sym (differing_none t (mended_table h.next t) (sym (length_mended h.next t)) (omega (arith, entries_number h t g, none)))

  health_stays : mended_health g ≡ g
  health_stays = sym (differing_none g (mended_health g) (sym (length_mended_health g)) (omega (arith, entries_number h t g, none)))

  nothing_changes : changes_of h t g ≡ []
  unfolding changes_of
  nothing_changes = rw (table_stays, health_stays, changes_none 0 t, changes_none (3 * cells_of h) g)

  pub used_is_held : used_from (cells_of h) 0 t ≡ left_held h.next (cells_of h) t
  used_is_held =
      let z : 0 + cells_of h ≡ cells_of h = omega arith in
      used_held h.next t (cells_of h) 0 (omega (arith, s.words_are)) (omega (arith, entries_number h t g, none))
      ∙ ap (λ (n : ℕ). held_left h.next t n 0) z ∙ held_start h.next (cells_of h) t ∙ sym (left_held_is h.next (cells_of h) t (omega (arith, s.words_are)))

  -- the cells left held are listed, and nothing else is written; where none is, nothing is
  pub mend_listed : (report list : List ℕ) → length (left_held h.next (cells_of h) t) ≤ length list
      → (t, (g, (report, sets list 0 (used_from (cells_of h) 0 t)))) ≡ mend_of h t g report list
  unfolding mend_of over_of
  mend_listed report list k = rw (table_stays, health_stays, nothing_changes, used_is_held, over list (left_held h.next (cells_of h) t) k)

  pub mend_idle : (report list : List ℕ) → length (left_held h.next (cells_of h) t) ≡ 0 → (t, (g, (report, list))) ≡ mend_of h t g report list
  mend_idle report list k = ap (λ (l : List ℕ). (t, (g, (report, l)))) (sym (rw (used_is_held, empty (left_held h.next (cells_of h) t) k))) ∙ mend_listed report list (omega arith)
    where
      empty : (l : List ℕ) → length l ≡ 0 → l ≡ []
      empty [] e = refl
      empty (x ∷ l) e = absurd (omega arith)
