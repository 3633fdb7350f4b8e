-- The lines of a book whose bodies have slid: each used line gets its body's new place, and the bytes moved are counted. The ranks of the
-- bodies stand by cell, as the walk of `Slide` leaves them.
use Prim.Native.Nat.{ℕ, zero, suc, ◌+◌, ◌*◌, ◌≤◌, ◌<◌}
use Rattle.std.specs.Prelude.{◌≡◌, Bool, ◌&&◌, eqb, length, get_or, if◌then◌else◌}
use Rattle.std.proofs.Math.Path.{refl, ap}
use Rattle.std.proofs.Common.{◌∙◌}
use Rattle.std.proofs.Math.Logic.{inr}
use mathlib.Core.List.{List, []}
use Rattle.std.proofs.Math.Bool.{true, false, not}
use native.Mathlib.Omega.{arith}
use Rattle.std.proofs.Math.Seq.{sets}
use Rattle.book_rules.specs.Layout.{lines_of, front_of, place_at, is_kept}
use Rattle.book_rules.specs.Writing.{count, put_many, kept_of, slid_of, moved_of, if_kept, laid_of, place_bytes, compact_of}
use Rattle.book_rules.specs.Many.{count_same, count_most, length_many, many_outside}
use Rattle.book_rules.specs.Sound.{Kept, Fits, Alike}
use Rattle.book_rules.proofs.Sound.{is_kept_lem, line_alike}
use Rattle.book_rules.proofs.Slid.{laid_long, laid_low}
use Rattle.book_sound.specs.Scan.{cell_of, Marked}
use Rattle.book_compact.specs.Slide.{walk_of, Within, marks_within, slide_is, ranks_are}

-- a used line has its body behind the contents and before the limit: its cell has a place of its own among 6,550
abbrev pub LineLies : ℕ → List ℕ → ℕ → Type 0
LineLies n b k = Kept b k → (front_of n ≤ place_at b k) × (place_at b k < front_of n + 32740)

abbrev pub Lying : ℕ → List ℕ → Type 0
Lying n b = (k : ℕ) → k < lines_of n → LineLies n b k

-- the new place of line k's body
abbrev pub new_at : ℕ → List ℕ → List ℕ → ℕ → ℕ
new_at n ranks b k = front_of n + 5 * get_or ranks (cell_of n (place_at b k) + 1) 0

-- line k keeps a body that has another place now
unfoldable pub is_moved : ℕ → List ℕ → List ℕ → ℕ → Bool
is_moved n ranks b k = is_kept b k && not (eqb (new_at n ranks b k) (place_at b k))

-- what is put into line k
unfoldable pub line_put : ℕ → List ℕ → List ℕ → ℕ → List ℕ
line_put n ranks b k = if_kept b k (place_bytes (new_at n ranks b k))

-- the first m lines
unfoldable pub placed_of : ℕ → List ℕ → List ℕ → ℕ → List ℕ
placed_of n ranks b m = put_many m (λ k. 8 * k) (line_put n ranks b) b

unfoldable pub counted_of : ℕ → List ℕ → List ℕ → ℕ → ℕ
counted_of n ranks b m = 5 * count m (is_moved n ranks b)

-- one line: the bytes that it counts, and the book
unfoldable pub put_place_of : ℕ → List ℕ → List ℕ → ℕ → ℕ × List ℕ
put_place_of n ranks b k = (if is_moved n ranks b k then 5 else 0, sets b (8 * k) (line_put n ranks b k))

-- all lines: the bytes counted, and the book
unfoldable pub put_places_of : ℕ → List ℕ → List ℕ → ℕ × List ℕ
put_places_of n ranks b = (counted_of n ranks b (lines_of n), placed_of n ranks b (lines_of n))

-- a compaction: the bytes moved, and the book
unfoldable pub compacted_of : ℕ → List ℕ → ℕ × List ℕ
compacted_of n b = (moved_of n b, compact_of n b)

-- ---- a line that is not yet reached

put_short : (n : ℕ) (ranks b : List ℕ) (k : ℕ) → length (line_put n ranks b k) ≤ 2
unfolding line_put
put_short n ranks b k = go (is_kept b k)
  where
    go : (t : Bool) → length (if t then place_bytes (new_at n ranks b k) else []) ≤ 2
    go true = omega arith
    go false = omega arith

module _ (n : ℕ) (ranks b : List ℕ) where
  pub placed_long : (m : ℕ) → length (placed_of n ranks b m) ≡ length b
  unfolding placed_of
  placed_long m = length_many m (λ k. 8 * k) (line_put n ranks b) b

  pub placed_alike : (m k : ℕ) → m ≤ k → Alike (placed_of n ranks b m) b k k
  unfolding placed_of
  placed_alike m k l =
      line_alike (put_many m (λ k. 8 * k) (line_put n ranks b) b) b k k
      (λ i u. many_outside m (λ k. 8 * k) (line_put n ranks b) b (8 * k + i) (λ x h s. inr (omega (arith, put_short n ranks b x))))

  same_line : (m k : ℕ) → m ≤ k → (is_kept (placed_of n ranks b m) k ≡ is_kept b k) × (place_at (placed_of n ranks b m) k ≡ place_at b k)
  unfolding is_kept
  same_line m k l = let a = placed_alike m k l in (rw a.2, a.0)

  moved_same : (k : ℕ) → is_moved n ranks (placed_of n ranks b k) k ≡ is_moved n ranks b k
  unfolding is_moved
  moved_same k = let a = same_line k k (omega arith) in rw (a.0, a.1)

  put_same : (k : ℕ) → line_put n ranks (placed_of n ranks b k) k ≡ line_put n ranks b k
  unfolding line_put
  put_same k = let a = same_line k k (omega arith) in rw (a.0, a.1)

  put_more : (k : ℕ) → sets (placed_of n ranks b k) (8 * k) (line_put n ranks b k) ≡ placed_of n ranks b (suc k)
  unfolding placed_of put_many
  put_more k = refl

  -- so the next line is done as in the book before
  pub placed_turn : (k : ℕ)
      → put_place_of n ranks (placed_of n ranks b k) k ≡ ((if is_moved n ranks b k then 5 else 0), placed_of n ranks b (k + 1))
  unfolding put_place_of
  placed_turn k =
      let e : suc k ≡ k + 1 = omega arith in
      let more : sets (placed_of n ranks b k) (8 * k) (line_put n ranks b k) ≡ placed_of n ranks b (k + 1) = put_more k ∙ ap (placed_of n ranks b) e in
      rw (moved_same k, put_same k, more)

  count_on : (k : ℕ) (t : Bool) → is_moved n ranks b k ≡ t → 5 * count (suc k) (is_moved n ranks b) ≡ 5 * count k (is_moved n ranks b) + (if t then 5 else 0)
  unfolding count
  count_on k true q = rw q (omega arith)
  count_on k false q = rw q (omega arith)

  pub counted_turn : (k : ℕ) → counted_of n ranks b (k + 1) ≡ counted_of n ranks b k + (if is_moved n ranks b k then 5 else 0)
  unfolding counted_of
  counted_turn k =
      let e : k + 1 ≡ suc k = omega arith in
      ap (λ (m : ℕ). 5 * count m (is_moved n ranks b)) e ∙ count_on k (is_moved n ranks b k) refl

  -- the loop over the lines: d is the book, and so many bytes have moved, before line k
  pub placed_start : placed_of n ranks b 0 ≡ b
  unfolding placed_of put_many
  placed_start = refl

  pub counted_start : counted_of n ranks b 0 ≡ 0
  unfolding counted_of count
  counted_start = refl

  pub counted_small : (m : ℕ) → counted_of n ranks b m ≤ 5 * m
  unfolding counted_of
  counted_small m = omega (arith, count_most m (is_moved n ranks b))

  pub placed_lies : (d : List ℕ) (k : ℕ) → d ≡ placed_of n ranks b k → Lying n b → k < lines_of n → LineLies n d k
  placed_lies d k e lies l =
      let a = placed_alike k k (omega arith) in
      rw (e, a.0) (λ q. lies k l (omega (arith, a.2)))

  pub turned : (o : ℕ × List ℕ) (d : List ℕ) (k moved : ℕ) → o ≡ put_place_of n ranks d k → d ≡ placed_of n ranks b k → moved ≡ counted_of n ranks b k
      → (moved + o.0 ≡ counted_of n ranks b (k + 1)) × (o.1 ≡ placed_of n ranks b (k + 1))
  turned o d k moved e f g =
      let is : o ≡ ((if is_moved n ranks b k then 5 else 0), placed_of n ranks b (k + 1)) = e ∙ ap (λ (x : List ℕ). put_place_of n ranks x k) f ∙ placed_turn k in
      (omega (arith, ap (λ (x : ℕ × List ℕ). x.0) is, counted_turn k), ap (λ (x : ℕ × List ℕ). x.1) is)

pub done_small : (n : ℕ) (ranks b : List ℕ) (k : ℕ) (o : ℕ × List ℕ) → o ≡ put_place_of n ranks b k → o.0 ≤ 5
unfolding put_place_of
done_small n ranks b k o e = omega (arith, ap (λ (x : ℕ × List ℕ). x.0) e, five (is_moved n ranks b k))
  where
    five : (t : Bool) → (if t then 5 else 0) ≤ 5
    five true = omega arith
    five false = omega arith

-- ---- after the slide it is the compaction

many_same : (m : ℕ) (to : ℕ → ℕ) (xs ys : ℕ → List ℕ) (b : List ℕ) → ((k : ℕ) → k < m → xs k ≡ ys k) → put_many m to xs b ≡ put_many m to ys b
unfolding put_many
many_same zero to xs ys b h = refl
many_same (suc m) to xs ys b h = rw (h m (omega arith), many_same m to xs ys b (λ k l. h k (omega arith)))

module _ (n : ℕ) (b : List ℕ) (f : Fits n b) (room : front_of n + 5 * kept_of n b ≤ length b) (ranks : List ℕ)
    (are : (k : ℕ) → k < lines_of n → Kept b k → new_at n ranks b k ≡ slid_of n b (place_at b k)) where
  laid_same : (k : ℕ) → k < lines_of n → (is_kept (laid_of n b) k ≡ is_kept b k) × (place_at (laid_of n b) k ≡ place_at b k)
  unfolding is_kept
  laid_same k l =
      let a = line_alike (laid_of n b) b k k (λ i u. laid_low n b f room (8 * k + i) (omega arith)) in
      (rw a.2, a.0)

  pub compact_counted : counted_of n ranks (laid_of n b) (lines_of n) ≡ moved_of n b
  unfolding counted_of moved_of is_moved
  compact_counted =
      ap (λ (x : ℕ). 5 * x)
      (count_same (lines_of n) (λ k. is_kept (laid_of n b) k && not (eqb (new_at n ranks (laid_of n b) k) (place_at (laid_of n b) k)))
      (λ k. is_kept b k && not (eqb (slid_of n b (place_at b k)) (place_at b k)))
      (λ k l. let a = laid_same k l in rw (a.0, a.1) (go k l (is_kept b k) (is_kept_lem b k))))
    where
      go : (k : ℕ) → k < lines_of n → (t : Bool) → (t ≡ true → Kept b k)
          → (t && not (eqb (new_at n ranks b k) (place_at b k))) ≡ (t && not (eqb (slid_of n b (place_at b k)) (place_at b k)))
      go k l true h = ap (λ (x : ℕ). not (eqb x (place_at b k))) (are k l (h refl))
      go k l false h = refl

  pub compact_placed : placed_of n ranks (laid_of n b) (lines_of n) ≡ compact_of n b
  unfolding placed_of compact_of line_put
  compact_placed =
      many_same (lines_of n) (λ k. 8 * k) (λ k. if_kept (laid_of n b) k (place_bytes (new_at n ranks (laid_of n b) k)))
      (λ k. if_kept b k (place_bytes (slid_of n b (place_at b k)))) (laid_of n b)
      (λ k l. let a = laid_same k l in rw (a.0, a.1) (go k l (is_kept b k) (is_kept_lem b k)))
    where
      go : (k : ℕ) → k < lines_of n → (t : Bool) → (t ≡ true → Kept b k)
          → (if t then place_bytes (new_at n ranks b k) else []) ≡ (if t then place_bytes (slid_of n b (place_at b k)) else [])
      go k l true h = ap place_bytes (are k l (h refl))
      go k l false h = refl

-- ---- the two loops of a compaction: the walk, the lines

fits_lying : (n : ℕ) (b : List ℕ) → Fits n b → 1 ≤ n → length b ≤ 32768 → Lying n b
fits_lying n b f some limit k l q = (f.behind k l q, omega (arith, f.within k l q))

-- a book of so many cells, and marks that have room for more
module _ (n : ℕ) (b : List ℕ) (cells most : ℕ) (marks : List ℕ) (f : Fits n b) (size : length b ≤ front_of n + 5 * cells) (fewer : cells ≤ most)
    (are : Marked n b most (lines_of n) marks) where
  marked : Marked n b cells (lines_of n) marks
  marked = record { long = omega (arith, are.long); first = are.first; marks_each = are.marks_each; means = are.means }

  pub marks_lie : Within n marks cells (length b)
  marks_lie = marks_within n b cells marks f marked

  module _ (room : front_of n + 5 * kept_of n b ≤ length b) (few : n ≤ 64) (laid ranks : List ℕ) (walked : (laid, ranks) ≡ walk_of n cells b marks) where
    laid_is : laid ≡ laid_of n b
    unfolding walk_of
    laid_is = ap (λ (o : List ℕ × List ℕ). o.0) walked ∙ slide_is n b f room cells size marks marked

    ranked_is : (k : ℕ) → k < lines_of n → Kept b k → new_at n ranks b k ≡ slid_of n b (place_at b k)
    unfolding walk_of
    ranked_is k h q =
        ap (λ (o : List ℕ × List ℕ). new_at n o.1 b k) walked
        ∙ ranks_are n b f room cells size marks marked few marks marked.long k h q (omega (arith, f.within k h q))

    pub laid_size : length laid ≡ length b
    laid_size = ap length laid_is ∙ laid_long n b f room

    pub laid_lying : 1 ≤ n → length b ≤ 32768 → Lying n laid
    laid_lying some limit k l =
        let a = line_alike (laid_of n b) b k k (λ i u. laid_low n b f room (8 * k + i) (omega arith)) in
        rw (laid_is, a.0) (λ q. fits_lying n b f some limit k l (omega (arith, a.2)))

    pub compaction : put_places_of n ranks laid ≡ compacted_of n b
    unfolding put_places_of compacted_of
    compaction = rw (laid_is, compact_counted n b f room ranks ranked_is, compact_placed n b f room ranks ranked_is)
