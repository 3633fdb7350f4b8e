-- Whole lines, and the text that they make: splitting undoes joining, and joining undoes splitting.
use Rattle.std.specs.Prelude.{ℕ, ◌≡◌, refl, List, [], ◌∷◌, ◌++◌, Bool, true, false, ◌&&◌, eqb, if◌then◌else◌}
use Rattle.std.proofs.Common.{eqb-true}
use Rattle.choice.specs.Pick.{both}
use Rattle.wave_rules.specs.Lines.{joined, Items, finish, torn, line, put, split_of}

-- whole lines
unfoldable pub items_of : List (List ℕ) → Items
items_of [] = finish
items_of (x ∷ ls) = line x (items_of ls)

-- back to text
unfoldable pub text_of : Items → List ℕ
text_of finish = []
text_of (torn x) = x
text_of (line x r) = x ++ 10 ∷ text_of r

-- no line feed stands in it
unfoldable pub plain : List ℕ → Bool
plain [] = true
plain (b ∷ x) = if eqb b 10 then false else plain x

unfoldable pub all_plain : List (List ℕ) → Bool
all_plain [] = true
all_plain (x ∷ ls) = plain x && all_plain ls

-- ---- laws

split_line : (x r : List ℕ) → plain x ≡ true → split_of (x ++ 10 ∷ r) ≡ line x (split_of r)
unfolding split_of plain
split_line [] r p = refl
split_line (b ∷ x) r p = go (eqb b 10) p (split_line x r)
  where
    go : (t : Bool) → (if t then false else plain x) ≡ true
        → (plain x ≡ true → split_of (x ++ 10 ∷ r) ≡ line x (split_of r))
        → (if t then line [] (split_of (x ++ 10 ∷ r)) else put b (split_of (x ++ 10 ∷ r))) ≡ line (b ∷ x) (split_of r)
    go true h f = let z : false ≡ true = h in cc
    go false h f = rw (f h)

-- the lines of a text that was joined are those that were joined
pub split_joined : (ls : List (List ℕ)) → all_plain ls ≡ true → split_of (joined ls) ≡ items_of ls
unfolding joined items_of all_plain split_of
split_joined [] p = refl
split_joined (x ∷ ls) p = let h = both (plain x) (all_plain ls) p in rw (split_line x (joined ls) h.0, split_joined ls h.1)

-- a text is what its lines make
pub text_split : (l : List ℕ) → text_of (split_of l) ≡ l
unfolding split_of text_of
text_split [] = refl
text_split (b ∷ l) = go (eqb b 10) refl (split_of l) (text_split l)
  where
    go : (t : Bool) → eqb b 10 ≡ t → (r : Items) → text_of r ≡ l → text_of (if t then line [] r else put b r) ≡ b ∷ l
    go true p r h = cc (eqb-true b 10 p, h)
    go false p finish h = cc
    go false p (torn x) h = cc
    go false p (line x r) h = cc

pub text_items : (ls : List (List ℕ)) → text_of (items_of ls) ≡ joined ls
unfolding items_of text_of joined
text_items [] = refl
text_items (x ∷ ls) = rw (text_items ls)
