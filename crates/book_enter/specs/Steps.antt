-- Laws for the parts of a write: counts and the end of the last body line by line, four lines put one behind the other.
use Prim.Native.Nat.{ℕ, suc, ◌+◌, ◌-◌, ◌*◌, ◌≤◌, ◌<◌, max}
use Rattle.std.specs.Prelude.{◌≡◌, refl, ◌≢◌, Bool, length, get_or, if◌then◌else◌}
use Rattle.std.proofs.Common.{sym, ◌∙◌, inl, inr, arith, get_or-set_same}
use Rattle.std.proofs.Math.Path.{ap}
use mathlib.Core.List.{List, [], ◌∷◌, ◌++◌}
use Rattle.std.proofs.Math.Bool.{true, false}
use Rattle.std.proofs.Math.Decide.{ℕ_discrete}
use Rattle.std.proofs.Math.ListN.{set, length-set, take, drop}
use Rattle.std.specs.List.{copy_within}
use Rattle.std.proofs.Math.Seq.{paste, take-add, drop-cons}
use Rattle.std.proofs.lemmas.List.Edits.{sets, sets-eq, take-paste, drop-paste}
use Rattle.std.proofs.lemmas.List.{set_comm, take-append-drop, drop-drop, length-drop, length-take-le}
use Rattle.std.proofs.Math.Seq.{get_or-set_other}
use borrow.Author.Tests.{lt-ltb, le-ltb}
use Rattle.book_rules.specs.Layout.{lines_of, front_of, line_at, place_at, version_at, is_kept, line_of, is_sound}
use Rattle.book_rules.specs.Writing.{count, most, drop_oldest_of, kept_of, end_of, is_crowded, is_full, append_of, put_over_of}
use Rattle.book_rules.specs.Many.{count_most, most_within}
use Rattle.book_rules.specs.Sound.{Kept, Apart, Fits, Alike}
use Rattle.book_rules.proofs.Sound.{is_kept_lem, is_unkept, sound_is}
use Rattle.book_rules.proofs.Dropped.{dropped}
use Rattle.book_rules.specs.Wrote.{staying_of, is_staying}
use Rattle.book_rules.proofs.Wrote.{staying_is}
use Rattle.book_sound.specs.Scan.{cell_of, offset_of, Marked}
use Rattle.book_compact.specs.Lines.{compacted_of}
use Rattle.setpoint.specs.Codec.{body_of}
use Rattle.setpoint.specs.declared.Setpoint.{Setpoint}

count_suc : (k : ℕ) (f : ℕ → Bool) → count (suc k) f ≡ count k f + (if f k then 1 else 0)
unfolding count
count_suc k f = refl

-- the slot's oldest of four, if it has four, lies in the book
abbrev pub OldestWithin : List ℕ → ℕ → Type 0
OldestWithin b slot = Kept b (4 * slot + 3) → place_at b (4 * slot + 3) + 5 ≤ length b

-- and behind the contents
abbrev pub OldestLies : ℕ → List ℕ → ℕ → Type 0
OldestLies n b slot = Kept b (4 * slot + 3) → (front_of n ≤ place_at b (4 * slot + 3)) × (place_at b (4 * slot + 3) + 5 ≤ length b)

-- ---- how many bodies stay

-- what line k adds
unfoldable pub staying_at : List ℕ → ℕ → ℕ → ℕ
staying_at b slot k = if is_staying b slot k then 1 else 0

-- of the first m lines
unfoldable pub staying_to : List ℕ → ℕ → ℕ → ℕ
staying_to b slot m = count m (is_staying b slot)

pub staying_start : (b : List ℕ) (slot : ℕ) → staying_to b slot 0 ≡ 0
unfolding staying_to count
staying_start b slot = refl

pub staying_turn : (b : List ℕ) (slot k : ℕ) → staying_to b slot (k + 1) ≡ staying_to b slot k + staying_at b slot k
unfolding staying_to staying_at
staying_turn b slot k =
    let e : k + 1 ≡ suc k = omega arith in
    ap (λ (m : ℕ). count m (is_staying b slot)) e ∙ count_suc k (is_staying b slot)

pub staying_end : (n : ℕ) (b : List ℕ) (slot : ℕ) → staying_to b slot (lines_of n) ≡ staying_of n b slot
unfolding staying_to staying_of
staying_end n b slot = refl

pub staying_few : (b : List ℕ) (slot k : ℕ) → staying_at b slot k ≤ 1
unfolding staying_at
staying_few b slot k = go (is_staying b slot k)
  where
    go : (t : Bool) → (if t then 1 else 0) ≤ 1
    go true = omega arith
    go false = omega arith

-- ---- where the last body ends

-- a line's body ends later than this, or not
unfoldable pub later_of : List ℕ → ℕ → ℕ → ℕ
later_of b k end = max end (if is_kept b k then place_at b k + 5 else 0)

unfoldable pub end_to : ℕ → List ℕ → ℕ → ℕ
end_to n b m = most m (λ k. if is_kept b k then place_at b k + 5 else 0) (front_of n)

pub end_start : (n : ℕ) (b : List ℕ) → end_to n b 0 ≡ front_of n
unfolding end_to most
end_start n b = refl

pub end_turn : (n : ℕ) (b : List ℕ) (k : ℕ) → end_to n b (k + 1) ≡ later_of b k (end_to n b k)
unfolding end_to later_of most
end_turn n b k =
    let e : k + 1 ≡ suc k = omega arith in
    ap (λ (m : ℕ). most m (λ k. if is_kept b k then place_at b k + 5 else 0) (front_of n)) e

pub end_whole : (n : ℕ) (b : List ℕ) → end_to n b (lines_of n) ≡ end_of n b
unfolding end_to end_of
end_whole n b = refl

-- ---- four lines

pub sets_append : (b : List ℕ) (p : ℕ) (xs ys : List ℕ) → sets b p (xs ++ ys) ≡ sets (sets b p xs) (p + length xs) ys
sets_append b p [] ys = let e : p ≡ p + 0 = omega arith in ap (λ (q : ℕ). sets b q ys) e
sets_append b p (x ∷ xs) ys =
    let e : suc p + length xs ≡ p + suc (length xs) = omega arith in
    sets_append (set b p x) (suc p) xs ys ∙ ap (λ (q : ℕ). sets (sets (set b p x) (suc p) xs) q ys) e

-- a line to `at`, and the three that stood from there on behind it
unfoldable pub shift_of : List ℕ → ℕ → List ℕ → List ℕ
shift_of b at line = sets b at (line ++ (line_at b at ++ (line_at b (at + 8) ++ line_at b (at + 16))))

-- stores that share no place may be swapped
set_swap : (b ys : List ℕ) (p q x : ℕ) → p < q → set (sets b q ys) p x ≡ sets (set b p x) q ys
set_swap b [] p q x h = refl
set_swap b (y ∷ ys) p q x h = set_swap (set b q y) ys p (suc q) x (omega arith) ∙ ap (λ (l : List ℕ). sets l (suc q) ys) (set_comm b q p y x (omega arith))

sets_swap : (xs b ys : List ℕ) (p q : ℕ) → p + length xs ≤ q → sets (sets b q ys) p xs ≡ sets (sets b p xs) q ys
sets_swap [] b ys p q h = refl
sets_swap (x ∷ xs) b ys p q h =
    ap (λ (l : List ℕ). sets l (suc p) xs) (set_swap b ys p q x (omega arith)) ∙ sets_swap xs (set b p x) ys (suc p) q (omega arith)

-- a line's bytes, as a part of the book; three lines
byte_is : (b : List ℕ) (p q n : ℕ) → q ≡ p + 1 → p < length b → take (suc n) (drop p b) ≡ get_or b p 0 ∷ take n (drop q b)
byte_is b p q n e h = let next : suc p ≡ q = omega arith in rw (drop-cons b p 0 h, next)

line_is : (b : List ℕ) (p : ℕ) → p + 8 ≤ length b → take 8 (drop p b) ≡ line_at b p
unfolding line_at
line_is b p h =
    rw (
      byte_is b p (p + 1) 7 refl (omega arith),
      byte_is b (p + 1) (p + 2) 6 (omega arith) (omega arith),
      byte_is b (p + 2) (p + 3) 5 (omega arith) (omega arith),
      byte_is b (p + 3) (p + 4) 4 (omega arith) (omega arith),
      byte_is b (p + 4) (p + 5) 3 (omega arith) (omega arith),
      byte_is b (p + 5) (p + 6) 2 (omega arith) (omega arith),
      byte_is b (p + 6) (p + 7) 1 (omega arith) (omega arith),
      byte_is b (p + 7) (p + 8) 0 (omega arith) (omega arith),
    )

lines_are : (b : List ℕ) (p : ℕ) → p + 24 ≤ length b → take 24 (drop p b) ≡ line_at b p ++ (line_at b (p + 8) ++ line_at b (p + 16))
lines_are b p h =
    let e : p + 8 + 8 ≡ p + 16 = omega arith in
    rw (
      take-add 8 16 (drop p b),
      drop-drop 8 p b,
      take-add 8 8 (drop (p + 8) b),
      drop-drop 8 (p + 8) b,
      e,
      line_is b p (omega arith),
      line_is b (p + 8) (omega arith),
      line_is b (p + 16) (omega arith),
    )

copied_is : (b : List ℕ) (p : ℕ) → p + 32 ≤ length b → copy_within b p (p + 24) (p + 8) ≡ sets b (p + 8) (take 24 (drop p b))
copied_is b p h =
    let s = drop p b in
    let n : p + 24 - p ≡ 24 = omega arith in
    let long : 24 ≤ length s = omega (arith, length-drop p b) in
    let size : length (take 24 s) ≡ 24 = length-take-le 24 s long in
    let made = paste b (p + 8) s 24 in
    let front : take (p + 8 + 24) made ≡ take (p + 8) b ++ take 24 s = take-paste b (p + 8) s 24 (omega arith) long in
    let back : drop (p + 8 + 24) made ≡ drop (p + 8 + 24) b = drop-paste b (p + 8) s 24 (omega arith) long in
    let whole : take (p + 8 + 24) made ++ drop (p + 8 + 24) made ≡ made = take-append-drop (p + 8 + 24) made in
    let stored : sets b (p + 8) (take 24 s) ≡ take (p + 8) b ++ take 24 s ++ drop (p + 8 + length (take 24 s)) b = sets-eq (take 24 s) b (p + 8) (omega arith) in
    rw n (sym (rw (front, back) at whole) ∙ sym (rw size at stored))

-- three lines moved on, and a line put before them
pub shift_copied : (b line : List ℕ) (at : ℕ) → length line ≡ 8 → at + 32 ≤ length b → sets (copy_within b at (at + 24) (at + 8)) at line ≡ shift_of b at line
unfolding shift_of
shift_copied b line at e h =
    let rest = take 24 (drop at b) in
    let next : at + length line ≡ at + 8 = omega arith in
    rw (copied_is b at h) (
    sets_swap line b rest at (at + 8) (omega arith)
    ∙ sym (ap (λ (q : ℕ). sets (sets b at line) q rest) next)
    ∙ sym (sets_append b at line rest)
    ∙ ap (λ (l : List ℕ). sets b at (line ++ l)) (lines_are b at (omega arith)))

pub append_is : (b : List ℕ) (slot : ℕ) (s : Setpoint) (v place : ℕ) → sets (shift_of b (32 * slot) (line_of place v)) place (body_of s) ≡ append_of b slot s v place
unfolding shift_of append_of
append_is b slot s v place =
    let a : 32 * slot ≡ 8 * (4 * slot) = omega arith in
    let c : 32 * slot + 8 ≡ 8 * (4 * slot + 1) = omega arith in
    let d : 32 * slot + 16 ≡ 8 * (4 * slot + 2) = omega arith in
    ap (λ (x : List ℕ). sets x place (body_of s))
    (ap (λ (x : ℕ). sets b (32 * slot) (line_of place v ++ (line_at b (32 * slot) ++ (line_at b x ++ line_at b (32 * slot + 16))))) c
    ∙ ap (λ (x : ℕ). sets b (32 * slot) (line_of place v ++ (line_at b (32 * slot) ++ (line_at b (8 * (4 * slot + 1)) ++ line_at b x)))) d
    ∙ ap (λ (x : ℕ). sets b x (line_of place v ++ (line_at b x ++ (line_at b (8 * (4 * slot + 1)) ++ line_at b (8 * (4 * slot + 2)))))) a)

-- ---- the marks of what the drop leaves

unfoldable pub unmark_oldest_of : ℕ → List ℕ → ℕ → List ℕ → List ℕ
unmark_oldest_of n b slot marks = if is_kept b (4 * slot + 3) then set marks (cell_of n (place_at b (4 * slot + 3)) + 1) 0 else marks

module _ (n : ℕ) (b : List ℕ) (slot : ℕ) (i : slot < n) (f : Fits n b) (cells : ℕ) (size : length b ≤ front_of n + 5 * cells) (marks : List ℕ)
    (w : Marked n b cells (lines_of n) marks) where
  abbrev x : ℕ
  x = 4 * slot + 3

  abbrev c : List ℕ
  c = drop_oldest_of b slot

  lines : (k : ℕ) → k < lines_of n → k ≢ x → Alike c b k k
  lines = (dropped n b slot i f).lines

  -- a line that is kept still is another, and was kept
  other : (k : ℕ) → Kept c k → k ≢ x
  other k h e = omega (arith, (dropped n b slot i f).gone, ap (version_at c) e)

  was : (k : ℕ) → k < lines_of n → Kept c k → Kept b k
  was k l h = omega (arith, (lines k l (other k h)).2)

  each : (k : ℕ) → k < lines_of n → Kept c k → get_or marks (cell_of n (place_at c k) + 1) 0 ≡ offset_of n (place_at c k) + 1
  each k l h = rw (lines k l (other k h)).0 (w.marks_each k l (was k l h))

  -- what a mark means, if it is none of the oldest
  mean : (j : ℕ) (m : ℕ) → m ≡ get_or marks j 0 → m ≢ 0 → ((k : ℕ) → Kept b k → j ≡ cell_of n (place_at b k) + 1 → k ≢ x)
      → (k : ℕ) × (k < lines_of n) × Kept c k × (j ≡ cell_of n (place_at c k) + 1) × (m ≡ offset_of n (place_at c k) + 1)
  mean j m e d away =
      let t = w.means j (λ z. d (e ∙ z)) in
      let a = lines t.0 t.1 (away t.0 t.2 t.3) in
      (t.0, t.1, omega (arith, a.2, t.2), rw a.0 t.3, rw a.0 (e ∙ t.4))

  pub unmarked : Marked n c cells (lines_of n) (unmark_oldest_of n b slot marks)
  unfolding unmark_oldest_of
  unmarked = go (is_kept b x) (is_kept_lem b x) (is_unkept b x)
    where
      go : (t : Bool) → (t ≡ true → Kept b x) → (t ≡ false → version_at b x ≡ 0) → Marked n c cells (lines_of n) (if t then set marks (cell_of n (place_at b x) + 1) 0 else marks)
      go true h g =
          record {
            long = omega (arith, w.long, length-set marks (cell_of n (place_at b x) + 1) 0);
            first = get_or-set_other marks (cell_of n (place_at b x) + 1) 0 0 0 (omega arith) ∙ w.first;
            marks_each = λ k l q.
                get_or-set_other marks (cell_of n (place_at b x) + 1) (cell_of n (place_at c k) + 1) 0 0 (apart_cell k l q (f.apart k x l (omega arith) (other k q) (was k l q) (h refl)))
                ∙ each k l q;
            means = λ j d. at j d (ℕ_discrete j (cell_of n (place_at b x) + 1));
          }
        where
          apart_cell : (k : ℕ) → k < lines_of n → Kept c k → Apart (place_at b k) (place_at b x) → cell_of n (place_at c k) + 1 ≢ cell_of n (place_at b x) + 1
          apart_cell k l q (inl a) z = omega (arith, (lines k l (other k q)).0, f.behind k l (was k l q), f.behind x (omega arith) (h refl))
          apart_cell k l q (inr a) z = omega (arith, (lines k l (other k q)).0, f.behind k l (was k l q), f.behind x (omega arith) (h refl))

          at : (j : ℕ) → get_or (set marks (cell_of n (place_at b x) + 1) 0) j 0 ≢ 0 → Dec (j ≡ cell_of n (place_at b x) + 1)
              → (k : ℕ) × (k < lines_of n) × Kept c k × (j ≡ cell_of n (place_at c k) + 1)
              × (get_or (set marks (cell_of n (place_at b x) + 1) 0) j 0 ≡ offset_of n (place_at c k) + 1)
          at j d (yes e) =
              absurd (d (rw e (get_or-set_same marks (cell_of n (place_at b x) + 1) 0 0
              (omega (arith, w.long, size, f.behind x (omega arith) (h refl), f.within x (omega arith) (h refl))))))
          at j d (no e) =
              mean j (get_or (set marks (cell_of n (place_at b x) + 1) 0) j 0) (get_or-set_other marks (cell_of n (place_at b x) + 1) j 0 0 e) d
              (λ k q z y. e (z ∙ ap (λ (k : ℕ). cell_of n (place_at b k) + 1) y))
      go false h g =
          record {
            long = w.long;
            first = w.first;
            marks_each = each;
            means = λ j d. mean j (get_or marks j 0) refl d (λ k q z y. omega (arith, g refl, ap (version_at b) y));
          }

-- ---- a write on a book that is not damaged

module _ (n : ℕ) (b : List ℕ) (slot : ℕ) (i : slot < n) (sound : is_sound n b ≡ true) where
  pub oldest_lies : OldestLies n b slot
  oldest_lies q =
      let f = (sound_is n b sound).fits in
      (f.behind (4 * slot + 3) (omega arith) q, f.within (4 * slot + 3) (omega arith) q)

  drop_size : length (drop_oldest_of b slot) ≡ length b
  drop_size = (dropped n b slot i (sound_is n b sound).fits).long

  pub staying_most : staying_of n b slot ≤ lines_of n
  unfolding staying_of
  staying_most = count_most (lines_of n) (is_staying b slot)

  module _ (kept : ℕ) (are : kept ≡ staying_of n b slot) where
    kept_is : kept ≡ kept_of n (drop_oldest_of b slot)
    kept_is = are ∙ sym (staying_is n b slot i (sound_is n b sound))

    pub full_is : length b < 32 * n + 5 * kept + 5 → is_full n (drop_oldest_of b slot) ≡ true
    unfolding is_full
    full_is l = lt-ltb (length (drop_oldest_of b slot)) (front_of n + 5 * kept_of n (drop_oldest_of b slot) + 5) (omega (arith, drop_size, kept_is))

    pub room_is : 32 * n + 5 * kept + 5 ≤ length b → is_full n (drop_oldest_of b slot) ≡ false
    unfolding is_full
    room_is l = le-ltb (length (drop_oldest_of b slot)) (front_of n + 5 * kept_of n (drop_oldest_of b slot) + 5) (omega (arith, drop_size, kept_is))

    -- what is left after the drop
    module _ (d : List ℕ) (is : d ≡ drop_oldest_of b slot) where
      pub left_size : length d ≡ length b
      left_size = ap length is ∙ drop_size

      pub left_fits : Fits n d
      left_fits = rw is (dropped n b slot i (sound_is n b sound).fits).fits

      pub left_kept : kept ≡ kept_of n d
      left_kept = rw is kept_is

      pub left_marked : (cells : ℕ) (marks less : List ℕ) → length b ≤ front_of n + 5 * cells → Marked n b cells (lines_of n) marks
          → less ≡ unmark_oldest_of n b slot marks → Marked n d cells (lines_of n) less
      left_marked cells marks less size w e = rw (is, e) (unmarked n b slot i (sound_is n b sound).fits cells size marks w)

-- ---- a write after the drop

pub end_within : (n : ℕ) (b : List ℕ) → Fits n b → front_of n ≤ length b → end_of n b ≤ length b
unfolding end_of
end_within n b f l =
    most_within (lines_of n) (λ k. if is_kept b k then place_at b k + 5 else 0) (front_of n) (length b) l (λ k u. go k u (is_kept b k) (is_kept_lem b k))
  where
    go : (k : ℕ) → k < lines_of n → (t : Bool) → (t ≡ true → Kept b k) → (if t then place_at b k + 5 else 0) ≤ length b
    go k u true h = f.within k u (h refl)
    go k u false h = omega arith

module _ (n : ℕ) (b : List ℕ) (slot : ℕ) (s : Setpoint) (v last : ℕ) (ends : last ≡ end_of n b) where
  pub put_slid : (kept moved : ℕ) (d e : List ℕ) → length b < last + 5 → (moved, d) ≡ compacted_of n b → kept ≡ kept_of n b
      → e ≡ append_of d slot s v (32 * n + 5 * kept) → (moved, e) ≡ put_over_of n b slot s v
  unfolding put_over_of is_crowded compacted_of
  put_slid kept moved d e l c k a =
      rw (
        ← ends,
        lt-ltb (length b) (last + 5) l,
        ← k,
        ← ap (λ (o : ℕ × List ℕ). o.0) c,
        ← ap (λ (o : ℕ × List ℕ). o.1) c,
        ← a,
      )

  pub put_behind : (e : List ℕ) → last + 5 ≤ length b → e ≡ append_of b slot s v last → (0, e) ≡ put_over_of n b slot s v
  unfolding put_over_of is_crowded
  put_behind e l a = rw (← ends, le-ltb (length b) (last + 5) l, ← a)
