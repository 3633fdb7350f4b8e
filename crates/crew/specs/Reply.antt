-- Laws of the reply's two arrays, as a loop over the members fills them.
use Rattle.std.specs.Prelude.{ℕ, suc, ◌+◌, ◌-◌, ◌≤◌, ◌<◌, min, ◌≡◌, List, [], ◌∷◌, ◌++◌, refl, length, get_or, set, take, replicate}
use Rattle.std.proofs.Common.{sym, ap, ◌∙◌, append_assoc, append-nil, arith, add-one, length-set, take-suc-set, take_all}
use Rattle.model.specs.Crew.{Work, adds_of, taken_of, released_of}

taken_at : (m : ℕ) (counts made : List ℕ) → m < 16 → taken_of (16 - m) m counts made ≡ min (get_or made m 0) (get_or counts m 0) ∷ taken_of (16 - (m + 1)) (m + 1) counts made
unfolding taken_of
taken_at m counts made l = let e : 16 - m ≡ suc (16 - (m + 1)) = omega arith in rw e

taken_end : (m : ℕ) (counts made : List ℕ) → 16 ≤ m → taken_of (16 - m) m counts made ≡ []
unfolding taken_of
taken_end m counts made l = let e : 16 - m ≡ 0 = omega arith in rw e

released_at : (work : Work) (m : ℕ) (counts made : List ℕ) → m < 16
    → released_of work (16 - m) m counts made ≡ (get_or made m 0 - (get_or counts m 0 + adds_of work (get_or counts m 0))) ∷ released_of work (16 - (m + 1)) (m + 1) counts made
unfolding released_of
released_at work m counts made l = let e : 16 - m ≡ suc (16 - (m + 1)) = omega arith in rw e

released_end : (work : Work) (m : ℕ) (counts made : List ℕ) → 16 ≤ m → released_of work (16 - m) m counts made ≡ []
unfolding released_of
released_end work m counts made l = let e : 16 - m ≡ 0 = omega arith in rw e

-- an array that is filled to place m: what stands there, and then the rest, is the whole
fill_more : (l : List ℕ) (m v : ℕ) (rest whole : List ℕ) → m < length l → take m l ++ (v ∷ rest) ≡ whole → take (m + 1) (set l m v) ++ rest ≡ whole
fill_more l m v rest whole b e = rw (add-one m, take-suc-set l m v b, append_assoc (take m l) (v ∷ []) rest) e

fill_end : (l : List ℕ) (m : ℕ) (whole : List ℕ) → length l ≤ m → take m l ++ [] ≡ whole → l ≡ whole
fill_end l m whole b e = sym (take_all m l b) ∙ sym (append-nil (take m l)) ∙ e

-- both, as the loop over members fills them
pub record Filling (work : Work) (counts made taken released : List ℕ) (m : ℕ) : Type 0 where
  pub place : m ≤ 16
  pub taken_length : length taken ≡ 16
  pub released_length : length released ≡ 16
  pub taken_rest : take m taken ++ taken_of (16 - m) m counts made ≡ taken_of 16 0 counts made
  pub released_rest : take m released ++ released_of work (16 - m) m counts made ≡ released_of work 16 0 counts made

pub filling_none : (work : Work) (counts made : List ℕ) → Filling work counts made (replicate 16 0) (replicate 16 0) 0
filling_none work counts made = record { place = omega arith; taken_length = refl; released_length = refl; taken_rest = refl; released_rest = refl }

module _ (work : Work) (counts made taken released : List ℕ) (m : ℕ) (f : Filling work counts made taken released m) where
  pub filling_more : (a b : ℕ) → m < 16 → a ≡ min (get_or made m 0) (get_or counts m 0) → b ≡ get_or made m 0 - get_or counts m 0 - adds_of work (get_or counts m 0)
      → Filling work counts made (set taken m a) (set released m b) (m + 1)
  filling_more a b l p q =
      let r : b ≡ get_or made m 0 - (get_or counts m 0 + adds_of work (get_or counts m 0)) = omega (arith, q) in
      record {
        place = omega arith;
        taken_length = length-set taken m a ∙ f.taken_length;
        released_length = length-set released m b ∙ f.released_length;
        taken_rest =
            fill_more taken m a (taken_of (16 - (m + 1)) (m + 1) counts made) _ (omega (arith, f.taken_length))
            (rw p (ap (λ (x : List ℕ). take m taken ++ x) (sym (taken_at m counts made l)) ∙ f.taken_rest));
        released_rest =
            fill_more released m b (released_of work (16 - (m + 1)) (m + 1) counts made) _ (omega (arith, f.released_length))
            (rw r (ap (λ (x : List ℕ). take m released ++ x) (sym (released_at work m counts made l)) ∙ f.released_rest));
      }

  pub taken_filled : 16 ≤ m → taken ≡ taken_of 16 0 counts made
  taken_filled l = fill_end taken m _ (omega (arith, f.taken_length)) (ap (λ (x : List ℕ). take m taken ++ x) (sym (taken_end m counts made l)) ∙ f.taken_rest)

  pub released_filled : 16 ≤ m → released ≡ released_of work 16 0 counts made
  released_filled l = fill_end released m _ (omega (arith, f.released_length)) (ap (λ (x : List ℕ). take m released ++ x) (sym (released_end work m counts made l)) ∙ f.released_rest)

pub ruleset filling = (filling_none, filling_more, taken_filled, released_filled)
