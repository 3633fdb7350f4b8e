-- Text as lines, each ended by a line feed, and lines as text.
use Rattle.std.specs.Prelude.{ℕ, List, [], ◌∷◌, ◌++◌, Bool, true, false, eqb, if◌then◌else◌}

-- "each line ended by a line feed"
unfoldable pub joined : List (List ℕ) → List ℕ
joined [] = []
joined (x ∷ ls) = x ++ 10 ∷ joined ls

-- a text from here on: its end; a last line that lacks its line feed; a line, and what follows
pub data Items : Type 0 where
  finish : Items
  torn : List ℕ → Items
  line : List ℕ → Items → Items

-- one byte more in front
abbrev pub put : ℕ → Items → Items
put b finish = torn (b ∷ [])
put b (torn x) = torn (b ∷ x)
put b (line x r) = line (b ∷ x) r

-- the lines of a text
unfoldable pub split_of : List ℕ → Items
split_of [] = finish
split_of (b ∷ l) = if eqb b 10 then line [] (split_of l) else put b (split_of l)

-- whether two lines have the same bytes
unfoldable pub same : List ℕ → List ℕ → Bool
same [] [] = true
same [] (b ∷ y) = false
same (a ∷ x) [] = false
same (a ∷ x) (b ∷ y) = if eqb a b then same x y else false
