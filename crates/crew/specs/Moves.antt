-- The moves that each member has made and those that it has left: together they are all its moves.
use Rattle.std.specs.Prelude.{ℕ, ◌+◌, ◌-◌, ◌≤◌, ◌<◌, ◌≡◌, refl, List, length, get_or, set, replicate}
use Rattle.std.proofs.Common.{sym, ◌∙◌, arith, length-set, get_or-set_same, get_or-set_other, ext_get_or}
use Rattle.std.proofs.Math.Decide.{ℕ_discrete}
use Rattle.model.specs.Crew.{Work, moves_of}
use Rattle.laws.specs.Lists.{zeros}

-- what the code computes, for the members before m: all moves but these
pub record Others (work : Work) (counts moves others : List ℕ) (m : ℕ) : Type 0 where
  pub place : m ≤ 16
  pub sixteen : length others ≡ 16
  pub each : (j : ℕ) → j < m → get_or others j 0 ≡ moves_of work (get_or counts j 0) - get_or moves j 0

pub others_none : (work : Work) (counts moves : List ℕ) → Others work counts moves (replicate 16 0) 0
others_none work counts moves = record { place = omega arith; sixteen = refl; each = λ j k. absurd (omega arith) }

pub others_all : (work : Work) (counts moves others : List ℕ) (m : ℕ) → Others work counts moves others m → 16 ≤ m → Others work counts moves others 16
others_all work counts moves others m o l = record { place = omega arith; sixteen = o.sixteen; each = λ j k. o.each j (omega arith) }

pub others_more : (work : Work) (counts moves others : List ℕ) (m v : ℕ) → Others work counts moves others m → m < 16 → v ≡ moves_of work (get_or counts m 0) - get_or moves m 0
    → Others work counts moves (set others m v) (m + 1)
others_more work counts moves others m v o l e =
    record { place = omega arith; sixteen = length-set others m v ∙ o.sixteen; each = λ j k. go j (ℕ_discrete j m) k }
  where
    go : (j : ℕ) → Dec (j ≡ m) → j < m + 1 → get_or (set others m v) j 0 ≡ moves_of work (get_or counts j 0) - get_or moves j 0
    go j (yes p) k = rw p (get_or-set_same others m v 0 (omega (arith, o.sixteen)) ∙ e)
    go j (no p) k = get_or-set_other others m j v 0 p ∙ o.each j (omega arith)

pub ruleset leaving = (others_none, others_more, others_all)

-- both lists, between turns
pub record MadeAndLeft (work : Work) (counts made left : List ℕ) : Type 0 where
  pub made_length : length made ≡ 16
  pub left_length : length left ≡ 16
  pub together : (m : ℕ) → m < 16 → get_or made m 0 + get_or left m 0 ≡ moves_of work (get_or counts m 0)

-- before the first turn all moves are left
pub all_left : (work : Work) (counts left : List ℕ) → Others work counts (replicate 16 0) left 16 → MadeAndLeft work counts (replicate 16 0) left
all_left work counts left o = record { made_length = refl; left_length = o.sixteen; together = λ m l. omega (arith, o.each m l, zeros 16 m) }

-- and behind the last one, what is not left was made
pub made_is : (work : Work) (counts made left others : List ℕ) → MadeAndLeft work counts made left → Others work counts left others 16 → others ≡ made
made_is work counts made left others p o =
    ext_get_or 0 others made (o.sixteen ∙ sym p.made_length) (λ m l. omega (arith, o.each m (omega (arith, o.sixteen)), p.together m (omega (arith, o.sixteen))))

-- a move goes from one to the other
pub one_made : (work : Work) (counts made left : List ℕ) (m : ℕ) → MadeAndLeft work counts made left → m < 16 → 1 ≤ get_or left m 0
    → MadeAndLeft work counts (set made m (get_or made m 0 + 1)) (set left m (get_or left m 0 - 1))
one_made work counts made left m p l some =
    record {
      made_length = length-set made m _ ∙ p.made_length;
      left_length = length-set left m _ ∙ p.left_length;
      together = λ j k. go j (ℕ_discrete j m) k;
    }
  where
    go : (j : ℕ) → Dec (j ≡ m) → j < 16 → get_or (set made m (get_or made m 0 + 1)) j 0 + get_or (set left m (get_or left m 0 - 1)) j 0 ≡ moves_of work (get_or counts j 0)
    go j (yes e) k =
        rw (e, get_or-set_same made m (get_or made m 0 + 1) 0 (omega (arith, p.made_length)), get_or-set_same left m (get_or left m 0 - 1) 0 (omega (arith, p.left_length)))
        (omega (arith, p.together m l))
    go j (no e) k = rw (get_or-set_other made m j (get_or made m 0 + 1) 0 e, get_or-set_other left m j (get_or left m 0 - 1) 0 e) (p.together j k)
