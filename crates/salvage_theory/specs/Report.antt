-- What `changes_from` lists of two runs of one length: exactly the places where they differ, rising; and the old run from the new one.
use Rattle.std.specs.Prelude.{ℕ, zero, suc, ◌+◌, ◌*◌, ◌<◌, ◌≡◌, refl, List, [], ◌∷◌, ◌++◌, Bool, true, false, ◌≢◌, eqb, length, get_or, set, if◌then◌else◌}
use Rattle.std.proofs.Common.{sym, ap, ◌∙◌, append_assoc, arith, length-append, eqb-true, eq-eqb}
use Rattle.std.proofs.lemmas.List.{set_at}
use Rattle.std.proofs.lemmas.Bool.{eqb-false}
use Rattle.model.specs.Salvage.{change_of, changes_from}
use Rattle.laws.specs.Salvage.{later_word, differing}
use Rattle.salvage_theory.specs.Statements.{place_in, old_in, new_in, undone}

-- the entries of two runs, as a table of cases
pub data Lines : ℕ → List ℕ → List ℕ → List ℕ → Type 0 where
  ended : (p : ℕ) → Lines p [] [] []
  same : (p a b : ℕ) (old new words : List ℕ) → a ≡ b → Lines (p + 1) old new words → Lines p (a ∷ old) (b ∷ new) words
  differs : (p a b : ℕ) (old new words : List ℕ) → a ≢ b → Lines (p + 1) old new words → Lines p (a ∷ old) (b ∷ new) (p ∷ a ∷ b ∷ words)

pub lines : (p : ℕ) (old new : List ℕ) → length old ≡ length new → Lines p old new (changes_from p old new)
unfolding changes_from change_of
lines p [] [] e = ended p
lines p [] (b ∷ new) e = absurd (omega arith)
lines p (a ∷ old) [] e = absurd (omega arith)
lines p (a ∷ old) (b ∷ new) e = go (eqb a b) refl (lines (p + 1) old new (omega arith))
  where
    go : (x : Bool) → eqb a b ≡ x → Lines (p + 1) old new (changes_from (p + 1) old new)
        → Lines p (a ∷ old) (b ∷ new) ((if x then [] else (p ∷ a ∷ b ∷ [])) ++ changes_from (p + 1) old new)
    go true f r = same p a b old new (changes_from (p + 1) old new) (eqb-true a b f) r
    go false f r = differs p a b old new (changes_from (p + 1) old new) (eqb-false a b f) r

-- the place of an entry behind the first
later_place : (a b c : ℕ) (words : List ℕ) (k : ℕ) → place_in (a ∷ b ∷ c ∷ words) (suc k) ≡ place_in words k
later_place a b c words k = let e : 3 * suc k ≡ suc (suc (suc (3 * k))) = omega arith in rw e

-- what entry k says of two runs whose first place is p
pub record Told (p : ℕ) (old new words : List ℕ) (k : ℕ) : Type 0 where
  pub index : ℕ
  pub inside : index < length old
  pub place_is : place_in words k ≡ p + index
  pub old_is : old_in words k ≡ get_or old index 0
  pub new_is : new_in words k ≡ get_or new index 0
  pub differ : get_or old index 0 ≢ get_or new index 0

pub told : {p : ℕ} {old new words : List ℕ} → Lines p old new words → (k : ℕ) → 3 * k + 2 < length words → Told p old new words k
told (ended p) k h = absurd (omega arith)
told (same p a b os ns ws e r) k h =
    let x = told r k h in
    record { index = suc x.index; inside = omega (arith, x.inside); place_is = omega (arith, x.place_is); old_is = x.old_is; new_is = x.new_is; differ = x.differ }
told (differs p a b os ns ws e r) zero h =
    record { index = 0; inside = omega arith; place_is = omega arith; old_is = refl; new_is = refl; differ = e }
told (differs p a b os ns ws e r) (suc k) h =
    let x = told r k (omega arith) in
    record {
      index = suc x.index;
      inside = omega (arith, x.inside);
      place_is = omega (arith, x.place_is, later_place p a b ws k);
      old_is = later_word p a b ws k 1 ∙ x.old_is;
      new_is = later_word p a b ws k 2 ∙ x.new_is;
      differ = x.differ;
    }

pub listed : {p : ℕ} {old new words : List ℕ} → Lines p old new words → (i : ℕ) → i < length old → get_or old i 0 ≢ get_or new i 0
    → (k : ℕ) × (3 * k + 2 < length words) × (place_in words k ≡ p + i)
listed (ended p) i h d = absurd (omega arith)
listed (same p a b os ns ws e r) zero h d = absurd (d e)
listed (same p a b os ns ws e r) (suc i) h d =
    let x = listed r i (omega arith) d in
    (x.0, x.1, omega (arith, x.2))
listed (differs p a b os ns ws e r) zero h d = (0, omega arith, omega arith)
listed (differs p a b os ns ws e r) (suc i) h d =
    let x = listed r i (omega arith) d in
    (suc x.0, omega (arith, x.1), omega (arith, x.2, later_place p a b ws x.0))

pub rising : {p : ℕ} {old new words : List ℕ} → Lines p old new words → (j k : ℕ) → j < k → 3 * k + 2 < length words
    → place_in words j < place_in words k
rising (ended p) j k l h = absurd (omega arith)
rising (same p a b os ns ws e r) j k l h = rising r j k l h
rising (differs p a b os ns ws e r) j zero l h = absurd (omega arith)
rising (differs p a b os ns ws e r) zero (suc k) l h =
    let x = told r k (omega arith) in
    omega (arith, x.place_is, later_place p a b ws k)
rising (differs p a b os ns ws e r) (suc j) (suc k) l h =
    omega (arith, later_place p a b ws j, later_place p a b ws k, rising r j k (omega arith) (omega arith))

-- each old word at its place again: the run before, behind any words that come before it
pub undone_is : {p : ℕ} {old new words : List ℕ} (front : List ℕ) → Lines p old new words → length front ≡ p → undone words (front ++ new) ≡ front ++ old
unfolding undone
undone_is front (ended p) l = refl
undone_is front (same p a b os ns ws e r) l =
    let x = undone_is (front ++ (b ∷ [])) r (omega (arith, length-append front (b ∷ []))) in
    rw (← append_assoc front (b ∷ []) ns, e, ← append_assoc front (b ∷ []) os) x
undone_is front (differs p a b os ns ws e r) l =
    let x = undone_is (front ++ (b ∷ [])) r (omega (arith, length-append front (b ∷ []))) in
    ap (λ (z : List ℕ). set z p a) (ap (undone ws) (sym (append_assoc front (b ∷ []) ns)) ∙ x ∙ append_assoc front (b ∷ []) os)
    ∙ set_at front b os a p l

-- two runs behind one another
pub changes_join : (p : ℕ) (a b x y : List ℕ) → length a ≡ length b
    → changes_from p (a ++ x) (b ++ y) ≡ changes_from p a b ++ changes_from (p + length a) x y
unfolding changes_from
changes_join p [] [] x y e = let z : p + 0 ≡ p = omega arith in rw z
changes_join p [] (d ∷ b) x y e = absurd (omega arith)
changes_join p (c ∷ a) [] x y e = absurd (omega arith)
changes_join p (c ∷ a) (d ∷ b) x y e =
    let z : p + 1 + length a ≡ p + suc (length a) = omega arith in
    ap (λ (l : List ℕ). change_of p c d ++ l) (changes_join (p + 1) a b x y (omega arith))
    ∙ sym (append_assoc (change_of p c d) (changes_from (p + 1) a b) (changes_from (p + 1 + length a) x y))
    ∙ ap (λ (i : ℕ). (change_of p c d ++ changes_from (p + 1) a b) ++ changes_from i x y) z

pub differing_join : (a b x y : List ℕ) → length a ≡ length b → differing (a ++ x) (b ++ y) ≡ differing a b + differing x y
unfolding differing
differing_join [] [] x y e = omega arith
differing_join [] (d ∷ b) x y e = absurd (omega arith)
differing_join (c ∷ a) [] x y e = absurd (omega arith)
differing_join (c ∷ a) (d ∷ b) x y e = omega (arith, differing_join a b x y (omega arith))

-- nothing is listed of a run beside itself
pub changes_none : (p : ℕ) (a : List ℕ) → changes_from p a a ≡ []
unfolding changes_from change_of
changes_none p [] = refl
changes_none p (x ∷ a) = rw (changes_none (p + 1) a) (none (eqb x x) (eq-eqb x x refl))
  where
    none : (t : Bool) → t ≡ true → (if t then [] else (p ∷ x ∷ x ∷ [])) ++ [] ≡ []
    none true e = refl
    none false e = let z : false ≡ true = e in cc
