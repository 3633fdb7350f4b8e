-- What a crew's call knows once its checks are fine.
use Rattle.std.specs.Prelude.{ℕ, zero, suc, ◌+◌, ◌<◌, ◌≡◌, List, [], ◌∷◌, ◌++◌, length, get_or, Ok}
use Rattle.std.proofs.Common.{arith, leb-false}
use Rattle.model.specs.Arena.{cells_of}
use Rattle.model.specs.Refusals.{first}
use Rattle.model.specs.Checks.{bad_shape, bad_health}
use Rattle.model.specs.Crew.{start_of, bad_limits, bad_lists, bad_turns, crew_rules}
use Rattle.types.specs.declared.Head.{Head}
use Rattle.laws.specs.Shape.{Shaped}
use Rattle.laws.specs.Checks.{refused_two, passed_two, fine_rest, fine_append, arena_fine}
use Rattle.laws.specs.Crew.{Limited, limits_fine, cell_inside}

-- ---- turns

turns_name : (members i : ℕ) (ms : List ℕ) → first (bad_turns members i ms) ≡ Ok tt → (j : ℕ) → j < length ms → get_or ms j 0 < members
unfolding bad_turns
turns_name members i [] e j l = absurd (omega arith)
turns_name members i (m ∷ ms) e zero l = leb-false members m (fine_rest _ _ e).0
turns_name members i (m ∷ ms) e (suc j) l = turns_name members (i + 1) ms (fine_rest _ _ e).1 j (omega arith)

-- ---- the whole

-- a member's cells lie in the run and in the arena; each turn names a member
pub record CrewFine (h : Head) (words bytes : ℕ) (counts cells turns : List ℕ) : Type 0 where
  pub shape : Shaped h words
  pub bytes_are : bytes ≡ h.headers
  pub limits : Limited counts cells turns
  pub inside : (m j : ℕ) → m < length counts → j < get_or counts m 0 → get_or cells (start_of counts m + j) 0 < cells_of h
  pub named : (i : ℕ) → i < length turns → get_or turns i 0 < length counts

-- one check behind the other: what is tested first is the arena
pub ruleset testing = (refused_two, passed_two, arena_fine)

pub crew_fine : (h : Head) (t g counts cells turns : List ℕ) → first (crew_rules h t g counts cells turns) ≡ Ok tt
    → CrewFine h (length t) (length g) counts cells turns
unfolding crew_rules
crew_fine h t g counts cells turns e =
    let lists = bad_lists (length counts) 0 (cells_of h) counts cells in
    let names = bad_turns (length counts) 0 turns in
    let a = fine_append (bad_shape h t ∷ bad_health h g ∷ []) (bad_limits counts cells turns ∷ (lists ++ names)) e in
    let b = fine_append (bad_limits counts cells turns ∷ []) (lists ++ names) a.1 in
    let c = fine_append lists names b.1 in
    let s = arena_fine h t g a.0 in
    let k = limits_fine counts cells turns b.0 in
    record {
      shape = s.0;
      bytes_are = s.1;
      limits = k;
      inside = λ m j _ l. cell_inside (cells_of h) counts cells k.cells_are c.0 m j l;
      named = turns_name (length counts) 0 turns c.1;
    }
