-- Where each member's list begins in the run of cells.
use Rattle.std.specs.Prelude.{ℕ, ◌+◌, ◌*◌, ◌≤◌, ◌<◌, ◌≡◌, refl, List, [], ◌∷◌, length, get_or, set, take}
use Rattle.std.proofs.Common.{ap, ◌∙◌, arith, add-one, length-set, take-suc, get_or-set_same, get_or-set_other}
use Rattle.std.proofs.Math.Decide.{ℕ_discrete}
use Rattle.model.specs.Crew.{total, start_of}
use Rattle.laws.specs.Crew.{total_append}

pub start_first : (counts : List ℕ) → start_of counts 0 ≡ 0
unfolding start_of total
start_first counts = refl

pub start_next : (counts : List ℕ) (m : ℕ) → m < length counts → start_of counts (m + 1) ≡ start_of counts m + get_or counts m 0
unfolding start_of total
start_next counts m l = rw (add-one m, take-suc counts m 0 l, total_append (take m counts) (get_or counts m 0 ∷ [])) (omega arith)

-- where each member's list begins
pub record Begun (counts starts : List ℕ) : Type 0 where
  pub sixteen : length starts ≡ 16
  pub begins : (m : ℕ) → m < length counts → get_or starts m 0 ≡ start_of counts m

-- the same up to member m, whose own begins at `start`
pub record Beginning (counts starts : List ℕ) (start m : ℕ) : Type 0 where
  pub place : m ≤ length counts
  pub sixteen : length starts ≡ 16
  pub here : start ≡ start_of counts m
  pub small : start ≤ 4294967296 * m
  pub begins : (j : ℕ) → j < m → get_or starts j 0 ≡ start_of counts j

begins_more : (counts starts : List ℕ) (start m : ℕ) → m < length starts → start ≡ start_of counts m → ((j : ℕ) → j < m → get_or starts j 0 ≡ start_of counts j)
    → (j : ℕ) → j < m + 1 → get_or (set starts m start) j 0 ≡ start_of counts j
begins_more counts starts start m l s b j k = go (ℕ_discrete j m)
  where
    go : Dec (j ≡ m) → get_or (set starts m start) j 0 ≡ start_of counts j
    go (yes e) = rw e (get_or-set_same starts m start 0 l ∙ s)
    go (no e) = get_or-set_other starts m j start 0 e ∙ b j (omega arith)

pub begin_more : (counts starts : List ℕ) (start m : ℕ) → length counts ≤ 16 → m < length counts → get_or counts m 0 < 4294967296 → Beginning counts starts start m
    → Beginning counts (set starts m start) (start + get_or counts m 0) (m + 1)
begin_more counts starts start m few l small b =
    record {
      place = omega arith;
      sixteen = length-set starts m start ∙ b.sixteen;
      here = rw (start_next counts m l) (ap (λ (x : ℕ). x + get_or counts m 0) b.here);
      small = omega (arith, b.small);
      begins = begins_more counts starts start m (omega (arith, b.sixteen)) b.here b.begins;
    }

pub begin_done : (counts starts : List ℕ) (start m : ℕ) → length counts ≤ m → Beginning counts starts start m → Begun counts starts
begin_done counts starts start m l b = record { sixteen = b.sixteen; begins = λ j k. b.begins j (omega arith) }

pub ruleset beginning = (start_first, start_next, begin_more, begin_done)
