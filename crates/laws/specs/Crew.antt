-- The moves of a crew's work, and what its checks give: few members with few cells, each member's list in the run, in range and strictly
-- rising, and one counter a cell.
use Rattle.std.specs.Prelude.{ℕ, zero, suc, ◌+◌, ◌*◌, ◌≤◌, ◌<◌, ◌≡◌, refl, List, [], ◌∷◌, ◌++◌, true, not, ◌&&◌, ◌||◌, ltb, leb, eqb, length, get_or, drop, Ok}
use Rattle.std.proofs.Common.{◌∙◌, arith, length-take, length-drop, get_or-take, get_or-drop, ltb-true, ltb-false, leb-true, eqb-true, eq-eqb}
use Rattle.std.proofs.Math.Decide.{dec_lt, ℕ_discrete}
use Rattle.std.proofs.Math.ListN.{get_or-eq_default}
use Rattle.std.proofs.lemmas.Bool.{not-false}
use Rattle.model.specs.Arena.{within, cells_of}
use Rattle.model.specs.Refusals.{first}
use Rattle.model.specs.Checks.{bad_shape, bad_health}
use Rattle.model.specs.Crew.{Work, rests, adds, adds_of, moves_of, total, start_of, count_of, list_of, all_within, bad_limits, rises_from, bad_lists, plan_rules, crew_rules, bad_counters, crew_at_work_rules}
use Rattle.types.specs.declared.Head.{Head}
use Rattle.choice.specs.Pick.{both, neither}
use Rattle.laws.specs.Checks.{fine_rest, first_skip}

-- ---- the work

-- at most a move a cell
pub adds_few : (work : Work) (n : ℕ) → adds_of work n ≤ n
adds_few rests n = omega arith
adds_few adds n = omega arith

pub adds_none : (work : Work) → adds_of work 0 ≡ 0
adds_none work = omega (arith, adds_few work 0)

pub adds_plus : (work : Work) (n k : ℕ) → adds_of work (n + k) ≡ adds_of work n + adds_of work k
adds_plus rests n k = refl
adds_plus adds n k = refl

-- all moves: two a cell, or three
pub moves_two : (n : ℕ) → moves_of rests n ≡ 2 * n
moves_two n = omega arith

pub moves_three : (n : ℕ) → moves_of adds n ≡ 3 * n
moves_three n = omega arith

-- ---- where the lists lie

pub total_append : (xs ys : List ℕ) → total (xs ++ ys) ≡ total xs + total ys
unfolding total
total_append [] ys = omega arith
total_append (x ∷ xs) ys = omega (arith, total_append xs ys)

-- a member's list ends within the run
pub start_fits : (counts : List ℕ) (m : ℕ) → start_of counts m + count_of counts m ≤ total counts
unfolding start_of total
start_fits [] zero = omega arith
start_fits [] (suc m) = omega arith
start_fits (n ∷ ns) zero = omega arith
start_fits (n ∷ ns) (suc m) = omega (arith, start_fits ns m)

-- whoever has a cell is a member
pub member : (counts : List ℕ) (m : ℕ) → 1 ≤ count_of counts m → m < length counts
member counts m h = go (dec_lt m (length counts))
  where
    go : Dec (m < length counts) → m < length counts
    go (yes l) = l
    go (no l) = absurd (omega (arith, get_or-eq_default counts 0 {n = m} (omega arith)))

-- the j-th of a member's list
pub listed : (counts cells : List ℕ) (m j : ℕ) → j < count_of counts m → get_or (list_of counts cells m) j 0 ≡ get_or cells (start_of counts m + j) 0
listed counts cells m j l = get_or-take (count_of counts m) (drop (start_of counts m) cells) j 0 l ∙ get_or-drop (start_of counts m) cells j 0

pub list_long : (counts cells : List ℕ) → length cells ≡ total counts → (m : ℕ) → length (list_of counts cells m) ≡ count_of counts m
list_long counts cells size m = simp (length-take, length-drop) (omega (arith, start_fits counts m))

-- ---- limits

pub record Limited (counts cells turns : List ℕ) : Type 0 where
  pub some_members : 1 ≤ length counts
  pub few_members : length counts ≤ 16
  pub each_few : (m : ℕ) → get_or counts m 0 ≤ 64
  pub few_cells : total counts ≤ 256
  pub cells_are : length cells ≡ total counts
  pub few_turns : length turns ≤ 65536

each : (most : ℕ) (l : List ℕ) → all_within most l ≡ true → (m : ℕ) → get_or l m 0 ≤ most
unfolding all_within
each most [] e m = omega arith
each most (n ∷ ns) e zero = leb-true n most (both (leb n most) (all_within most ns) e).0
each most (n ∷ ns) e (suc m) = each most ns (both (leb n most) (all_within most ns) e).1 m

pub limits_fine : (counts cells turns : List ℕ) → first (bad_limits counts cells turns ∷ []) ≡ Ok tt → Limited counts cells turns
limits_fine counts cells turns e =
    let n = length counts in
    let a1 = not (within 1 16 n) in
    let a2 = not (all_within 64 counts) in
    let a3 = ltb 256 (total counts) in
    let a4 = not (eqb (length cells) (total counts)) in
    let a5 = ltb 65536 (length turns) in
    let d = neither (a1 || a2 || a3 || a4) a5 (fine_rest _ _ e).0 in
    let c = neither (a1 || a2 || a3) a4 d.0 in
    let b = neither (a1 || a2) a3 c.0 in
    let a = neither a1 a2 b.0 in
    let w = both (leb 1 n) (leb n 16) (not-false _ a.0) in
    record {
      some_members = leb-true _ _ w.0;
      few_members = leb-true _ _ w.1;
      each_few = each 64 counts (not-false _ a.1);
      few_cells = ltb-false _ _ b.1;
      cells_are = eqb-true _ _ (not-false _ c.1);
      few_turns = ltb-false _ _ d.1;
    }

-- ---- lists

-- each list of `left` members from m on
pub lists_rise : (left m inside : ℕ) (counts cells : List ℕ) → first (bad_lists left m inside counts cells) ≡ Ok tt
    → (q : ℕ) → m ≤ q → q < m + left → rises_from inside 0 (list_of counts cells q) ≡ true
unfolding bad_lists
lists_rise zero m inside counts cells e q a b = absurd (omega arith)
lists_rise (suc left) m inside counts cells e q a b = go (ℕ_discrete q m) (lists_rise left (m + 1) inside counts cells (fine_rest _ _ e).1 q)
  where
    go : Dec (q ≡ m) → (m + 1 ≤ q → q < m + 1 + left → rises_from inside 0 (list_of counts cells q) ≡ true) → rises_from inside 0 (list_of counts cells q) ≡ true
    go (yes p) r = rw p (not-false _ (fine_rest _ _ e).0)
    go (no p) r = r (omega arith) (omega arith)

rises_inside : (inside low : ℕ) (cs : List ℕ) → rises_from inside low cs ≡ true → (i : ℕ) → i < length cs → get_or cs i 0 < inside
unfolding rises_from
rises_inside inside low [] e i l = absurd (omega arith)
rises_inside inside low (c ∷ cs) e zero l =
    ltb-true c inside (both (leb low c) (ltb c inside) (both (leb low c && ltb c inside) (rises_from inside (c + 1) cs) e).0).1
rises_inside inside low (c ∷ cs) e (suc i) l =
    rises_inside inside (c + 1) cs (both (leb low c && ltb c inside) (rises_from inside (c + 1) cs) e).1 i (omega arith)

-- every cell of every list is in range
pub cell_inside : (inside : ℕ) (counts cells : List ℕ) → length cells ≡ total counts → first (bad_lists (length counts) 0 inside counts cells) ≡ Ok tt
    → (m j : ℕ) → j < count_of counts m → get_or cells (start_of counts m + j) 0 < inside
cell_inside inside counts cells size e m j l =
    let r = lists_rise (length counts) 0 inside counts cells e m (omega arith) (omega (arith, member counts m (omega arith))) in
    rw (listed counts cells m j l) at (rises_inside inside 0 (list_of counts cells m) r j (omega (arith, list_long counts cells size m)))

-- ---- the checks of the crew at work are those of the crew, and one counter a cell

module _ (h : Head) (t g counts cells turns counters : List ℕ) where
  pub at_work_fine : length counters ≡ cells_of h → first (crew_rules h t g counts cells turns) ≡ Ok tt → first (crew_at_work_rules h t g counts cells turns counters) ≡ Ok tt
  unfolding crew_rules crew_at_work_rules
  at_work_fine wide e =
      let a = fine_rest _ _ e in
      let b = fine_rest _ _ a.1 in
      first_skip (bad_shape h t) _ a.0 ∙ first_skip (bad_health h g) _ b.0
      ∙ first_skip (bad_counters h counters) (plan_rules h counts cells turns) (rw (eq-eqb (length counters) (cells_of h) wide)) ∙ b.1

  pub fine_at_work : first (crew_at_work_rules h t g counts cells turns counters) ≡ Ok tt → (length counters ≡ cells_of h) × (first (crew_rules h t g counts cells turns) ≡ Ok tt)
  unfolding crew_rules crew_at_work_rules
  fine_at_work e =
      let a = fine_rest _ _ e in
      let b = fine_rest _ _ a.1 in
      let c = fine_rest _ _ b.1 in
      (eqb-true _ _ (not-false _ c.0), first_skip (bad_shape h t) _ a.0 ∙ first_skip (bad_health h g) _ b.0 ∙ c.1)
