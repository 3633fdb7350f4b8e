-- What the crew's checks give: members are few, and each list lies in the run of cells, in range and strictly rising.
use Rattle.std.specs.Prelude.{ℕ, zero, suc, ◌+◌, ◌≤◌, ◌<◌, ◌≡◌, List, [], ◌∷◌, ◌++◌, true, ◌&&◌, leb, length, get_or, Ok}
use Rattle.std.proofs.Common.{arith, leb-true}
use Rattle.std.proofs.Math.Dec.{ltb}
use Rattle.std.proofs.lemmas.Bool.{not-false}
use Rattle.model.specs.Arena.{cells_of}
use Rattle.model.specs.Refusals.{first}
use Rattle.model.specs.Crew.{total, start_of, count_of, list_of, rises_from, bad_limits, bad_lists, bad_turns, crew_rules}
use Rattle.types.specs.declared.Head.{Head}
use Rattle.choice.specs.Pick.{both}
use Rattle.laws.specs.Shape.{Shaped, shaped}
use Rattle.laws.specs.Checks.{fine_rest, fine_append}
use Rattle.laws.specs.Crew.{member, listed, list_long, limits_fine, lists_rise, cell_inside}

-- ---- a rising list

module _ (inside : ℕ) where
  heads : (low c : ℕ) (cs : List ℕ) → rises_from inside low (c ∷ cs) ≡ true → (low ≤ c) × (rises_from inside (c + 1) cs ≡ true)
  unfolding rises_from
  heads low c cs e =
      let a = both (leb low c && ltb c inside) (rises_from inside (c + 1) cs) e in
      (leb-true low c (both (leb low c) (ltb c inside) a.0).0, a.1)

  rises : (low : ℕ) (l : List ℕ) → rises_from inside low l ≡ true → (j : ℕ) → j < length l → low ≤ get_or l j 0
  rises low [] e j b = absurd (omega arith)
  rises low (c ∷ cs) e zero b = (heads low c cs e).0
  rises low (c ∷ cs) e (suc j) b = let a = heads low c cs e in omega (arith, a.0, rises (c + 1) cs a.1 j (omega arith))

  rises_on : (low : ℕ) (l : List ℕ) → rises_from inside low l ≡ true → (i j : ℕ) → i < j → j < length l → get_or l i 0 < get_or l j 0
  rises_on low [] e i j b k = omega arith
  rises_on low (c ∷ cs) e i zero b k = omega arith
  rises_on low (c ∷ cs) e zero (suc j) b k = omega (arith, rises (c + 1) cs (heads low c cs e).1 j (omega arith))
  rises_on low (c ∷ cs) e (suc i) (suc j) b k = rises_on (c + 1) cs (heads low c cs e).1 i j (omega arith) (omega arith)

-- ---- the checks

pub record Fits (h : Head) (words : ℕ) (counts cells : List ℕ) : Type 0 where
  pub shape : Shaped h words
  pub few : length counts ≤ 16
  pub small : total counts ≤ 256
  pub long : (m : ℕ) → length (list_of counts cells m) ≡ count_of counts m
  pub range : (m j : ℕ) → j < count_of counts m → get_or cells (start_of counts m + j) 0 < cells_of h
  pub rising : (m i j : ℕ) → i < j → j < count_of counts m → get_or cells (start_of counts m + i) 0 < get_or cells (start_of counts m + j) 0

pub fits : (h : Head) (t g counts cells turns : List ℕ) → first (crew_rules h t g counts cells turns) ≡ Ok tt → Fits h (length t) counts cells
unfolding crew_rules
fits h t g counts cells turns e =
    let a = fine_rest _ _ e in
    let lists = bad_lists (length counts) 0 (cells_of h) counts cells in
    let names = bad_turns (length counts) 0 turns in
    let b = fine_append (bad_limits counts cells turns ∷ []) (lists ++ names) (fine_rest _ _ a.1).1 in
    let k = limits_fine counts cells turns b.0 in
    let fine = (fine_append lists names b.1).0 in
    let long = list_long counts cells k.cells_are in
    record {
      shape = shaped h (length t) (not-false _ a.0);
      few = k.few_members;
      small = k.few_cells;
      long = long;
      range = cell_inside (cells_of h) counts cells k.cells_are fine;
      rising = λ m x j r l.
          rw (listed counts cells m x (omega arith), listed counts cells m j l) at
          (rises_on (cells_of h) 0 (list_of counts cells m)
          (lists_rise (length counts) 0 (cells_of h) counts cells fine m (omega arith) (omega (arith, member counts m (omega arith)))) x j r (omega (arith, long m)));
    }
