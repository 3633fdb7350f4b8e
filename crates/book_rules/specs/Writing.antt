-- Document 02, L10: the parts of a write. The oldest of four is dropped, room is looked for, kept bodies slide, a body is appended.
use Rattle.std.specs.Prelude.{ℕ, zero, suc, ◌+◌, ◌*◌, ◌/◌, ◌%◌, max, List, [], ◌∷◌, ◌++◌, Bool, not, ◌&&◌, ltb, eqb, length, replicate, if◌then◌else◌}
use Rattle.std.proofs.lemmas.List.Edits.{sets}
use Rattle.setpoint.specs.Codec.{body_of}
use Rattle.setpoint.specs.declared.Setpoint.{Setpoint}
use Rattle.book_rules.specs.Layout.{five_at, line_at, line_of, lines_of, front_of, place_at, is_kept}

-- ---- over all lines

-- of how many numbers below m a test holds
unfoldable pub count : ℕ → (ℕ → Bool) → ℕ
count zero f = 0
count (suc m) f = count m f + (if f m then 1 else 0)

-- the greatest of a number and of f below m
unfoldable pub most : ℕ → (ℕ → ℕ) → ℕ → ℕ
most zero f a = a
most (suc m) f a = max (most m f a) (f m)

-- for each number below m, its bytes to its place
unfoldable pub put_many : ℕ → (ℕ → ℕ) → (ℕ → List ℕ) → List ℕ → List ℕ
put_many zero to bytes b = b
put_many (suc m) to bytes b = sets (put_many m to bytes b) (to m) (bytes m)

-- ---- "Writing drops the slot's oldest of four before it looks for room"

-- its line and its body become zeros
unfoldable pub drop_oldest_of : List ℕ → ℕ → List ℕ
drop_oldest_of b slot =
    if is_kept b (4 * slot + 3) then sets (sets b (place_at b (4 * slot + 3)) (replicate 5 0)) (8 * (4 * slot + 3)) (replicate 8 0)
    else b

-- ---- room

-- how many bodies a book keeps
unfoldable pub kept_of : ℕ → List ℕ → ℕ
kept_of n b = count (lines_of n) (is_kept b)

-- where the last kept body ends; with none, where the contents end
unfoldable pub end_of : ℕ → List ℕ → ℕ
end_of n b = most (lines_of n) (λ k. if is_kept b k then place_at b k + 5 else 0) (front_of n)

-- "no room is left behind the last body"
unfoldable pub is_crowded : ℕ → List ℕ → Bool
is_crowded n b = ltb (length b) (end_of n b + 5)

-- "kept bodies after that drop leave fewer than 5 bytes"
unfoldable pub is_full : ℕ → List ℕ → Bool
is_full n b = ltb (length b) (front_of n + 5 * kept_of n b + 5)

-- ---- "kept bodies slide to the front in the order of their places"

-- how many kept bodies stand before a place
unfoldable pub rank_of : ℕ → List ℕ → ℕ → ℕ
rank_of n b p = count (lines_of n) (λ l. is_kept b l && ltb (place_at b l) p)

-- where the body at a place slides to
unfoldable pub slid_of : ℕ → List ℕ → ℕ → ℕ
slid_of n b p = front_of n + 5 * rank_of n b p

-- "bytes moved, equal to the summed lengths of the bodies whose place changed"
unfoldable pub moved_of : ℕ → List ℕ → ℕ
moved_of n b = 5 * count (lines_of n) (λ k. is_kept b k && not (eqb (slid_of n b (place_at b k)) (place_at b k)))

-- what a used line puts somewhere, an unused one nothing
abbrev pub if_kept : List ℕ → ℕ → List ℕ → List ℕ
if_kept b k xs = if is_kept b k then xs else []

-- "Vacated bytes become zeros": all bodies are taken up, then each is laid down where it belongs
unfoldable pub erased_of : ℕ → List ℕ → List ℕ
erased_of n b = put_many (lines_of n) (place_at b) (λ k. if_kept b k (replicate 5 0)) b

unfoldable pub laid_of : ℕ → List ℕ → List ℕ
laid_of n b = put_many (lines_of n) (λ k. slid_of n b (place_at b k)) (λ k. if_kept b k (five_at b (place_at b k))) (erased_of n b)

-- a place's two bytes
abbrev pub place_bytes : ℕ → List ℕ
place_bytes p = p % 256 ∷ p / 256 ∷ []

-- and each used line gets its body's new place
unfoldable pub compact_of : ℕ → List ℕ → List ℕ
compact_of n b = put_many (lines_of n) (λ k. 8 * k) (λ k. if_kept b k (place_bytes (slid_of n b (place_at b k)))) (laid_of n b)

-- ---- "then appends a body"

-- the slot's lines from 8 * k on, k its newest: a new one, then the first three of the old four
abbrev pub shifted_of : List ℕ → ℕ → ℕ → ℕ → List ℕ
shifted_of b k place v = line_of place v ++ (line_at b (8 * k) ++ (line_at b (8 * (k + 1)) ++ line_at b (8 * (k + 2))))

unfoldable pub append_of : List ℕ → ℕ → Setpoint → ℕ → ℕ → List ℕ
append_of b slot s v place = sets (sets b (8 * (4 * slot)) (shifted_of b (4 * slot) place v)) place (body_of s)

-- ---- a write, where there is room: the bytes moved, and the book

-- over a book whose slot has at most three versions
unfoldable pub put_over_of : ℕ → List ℕ → ℕ → Setpoint → ℕ → ℕ × List ℕ
put_over_of n d slot s v =
    if is_crowded n d then (moved_of n d, append_of (compact_of n d) slot s v (front_of n + 5 * kept_of n d))
    else (0, append_of d slot s v (end_of n d))

unfoldable pub put_of : ℕ → List ℕ → ℕ → Setpoint → ℕ → ℕ × List ℕ
put_of n b slot s v = put_over_of n (drop_oldest_of b slot) slot s v
