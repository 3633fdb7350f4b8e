-- Laws for the reader's functions.
use Prim.Native.Nat.{ℕ, zero, suc, ◌+◌, ◌*◌, ◌-◌, ◌/◌, ◌≤◌, ◌<◌}
use Rattle.std.specs.Prelude.{◌≡◌, List, [], ◌∷◌, ◌++◌, Bool, eqb, leb, length, get_or, drop, take, set, replicate, if◌then◌else◌, Option, Some, None, Result, Ok, Err}
use Rattle.std.proofs.Math.Path.{refl, ap}
use Rattle.std.proofs.Common.{sym, ◌∙◌, append_assoc, length-append, length-drop, drop_of_length-le, drop-drop, length-take-le, ltb-true, ltb-false, lt-ltb, le-ltb, le-leb, leb-true, leb-false}
use Rattle.std.proofs.Math.Bool.{true, false}
use native.Mathlib.Omega.{arith}
use Rattle.std.proofs.Math.Dec.{ltb}
use Rattle.std.proofs.lemmas.List.{length-replicate}
use Rattle.std.proofs.lemmas.List.Edits.{sets, sets-eq}
use borrow.Rule.Slice.PartMut.{put_mid}
use Rattle.text.specs.Text.{before}
use Rattle.wave_rules.specs.declared.Stage.{Stage}
use Rattle.wave_rules.specs.declared.Stage.TheVariants.{Opening, Waiting, Changing}
use Rattle.wave_rules.specs.Lines.{torn, line, put, split_of}
use Rattle.wave_rules.specs.Dump.{no_bits, flip_of}
use Rattle.wave_rules.specs.Reader.{Verdict, cell_in, is_change, next_of, bits_of, at_end, unless, verdict_of, idle, kind_for, script_words_at, script_words_of, read, read_of}
use Rattle.wave_rules.specs.Stages.{Reach}
use Rattle.wave_rules.proofs.Stages.{reach_next, bad_not, idle_length, words_count}
use Rattle.wave_rules.specs.Calls.{answered, read_into_of}
use Rattle.wave_rules.specs.declared.ReadRefusal.{ReadRefusal}
use Rattle.wave_rules.specs.declared.ReadRefusal.TheVariants as read_refusal
use Rattle.std.specs.Result.{MatchResult, IsErrAnd}
use Rattle.std.proofs.lemmas.Result.{err_from_is_err_and}
use Rattle.wave_line.specs.Stages.{Early, stamp_of}
use Rattle.wave_line.specs.Laws.{long_lost, next_waiting, early_bits, early_words, time_past, time_far, time_taken}
use Rattle.wave_line.specs.Fronts.{before_within, time_front, Stamped, change_front, change_told}
use Rattle.wave_line.specs.declared.Time.{Time}
use Rattle.wave_read.specs.declared.Header.{Header}
use Rattle.print.specs.Print.{put_of}
use Rattle.print.specs.Laws.{put_join, put_first, put_place}
use Rattle.wave_write.specs.Laws.{put_size}

-- ---- lines of a text

split_torn : (l : List ℕ) → 0 < length l → before 10 l ≡ length l → split_of l ≡ torn l
unfolding before split_of
split_torn [] h e = absurd (omega arith)
split_torn (b ∷ l) h e = go (eqb b 10) l (split_torn l) e
  where
    go : (t : Bool) (m : List ℕ) → (0 < length m → before 10 m ≡ length m → split_of m ≡ torn m)
        → (if t then 0 else 1 + before 10 m) ≡ suc (length m)
        → (if t then line [] (split_of m) else put b (split_of m)) ≡ torn (b ∷ m)
    go true m f q = absurd (omega arith)
    go false [] f q = refl
    go false (a ∷ m) f q = rw (f (omega arith) (omega arith))

split_at : (l : List ℕ) → before 10 l < length l
    → split_of l ≡ line (take (before 10 l) l) (split_of (drop (before 10 l + 1) l))
unfolding before split_of
split_at [] h = absurd (omega arith)
split_at (b ∷ l) h = go (eqb b 10) (split_at l) h
  where
    go : (t : Bool)
        → (before 10 l < length l → split_of l ≡ line (take (before 10 l) l) (split_of (drop (before 10 l + 1) l)))
        → (if t then 0 else 1 + before 10 l) < suc (length l)
        → (if t then line [] (split_of l) else put b (split_of l)) ≡ line (take (if t then 0 else 1 + before 10 l) (b ∷ l)) (split_of (drop ((if t then 0 else 1 + before 10 l) + 1) (b ∷ l)))
    go true f q = refl
    go false f q =
        let e : 1 + before 10 l ≡ suc (before 10 l) = omega arith in
        let d : suc (before 10 l) + 1 ≡ suc (before 10 l + 1) = omega arith in
        rw (e, d, f (omega arith))

-- a line feed among the first m bytes is the first of all
before_front : (m : ℕ) (l : List ℕ) → before 10 (take m l) < m → before 10 l ≡ before 10 (take m l)
unfolding before
before_front zero l h = absurd (omega arith)
before_front (suc m) [] h = refl
before_front (suc m) (b ∷ l) h = go (eqb b 10) h (before_front m l)
  where
    go : (t : Bool) → (if t then 0 else 1 + before 10 (take m l)) < suc m
        → (before 10 (take m l) < m → before 10 l ≡ before 10 (take m l))
        → (if t then 0 else 1 + before 10 l) ≡ (if t then 0 else 1 + before 10 (take m l))
    go true q f = refl
    go false q f = ap (λ (n : ℕ). 1 + n) (f (omega arith))

-- and where there is none, it stands behind them
before_behind : (m : ℕ) (l : List ℕ) → before 10 (take m l) ≡ m → m ≤ before 10 l
unfolding before
before_behind zero l e = omega arith
before_behind (suc m) [] e = absurd (omega arith)
before_behind (suc m) (b ∷ l) e = go (eqb b 10) e (before_behind m l)
  where
    go : (t : Bool) → (if t then 0 else 1 + before 10 (take m l)) ≡ suc m → (before 10 (take m l) ≡ m → m ≤ before 10 l)
        → suc m ≤ (if t then 0 else 1 + before 10 l)
    go true q f = absurd (omega arith)
    go false q f = omega (arith, f (omega arith))

-- ---- where a line ends

-- the line feed, if it stands behind at most 22 bytes: else such a line is wrong (`long_lost`)
unfoldable pub line_end_of : List ℕ → ℕ → Option ℕ
line_end_of text at =
    if leb (before 10 (drop at text)) 22 then (if ltb (before 10 (drop at text)) (length (drop at text)) then Some (at + before 10 (drop at text)) else None) else None

module _ (text : List ℕ) (at m n : ℕ) (e : n ≡ before 10 (take m (drop at text))) where
  -- of the first m bytes one is a line feed
  pub line_some : m ≤ 23 → m ≤ length (drop at text) → n < m → Some (at + n) ≡ line_end_of text at
  unfolding line_end_of
  line_some h k l =
      let b : n ≡ before 10 (drop at text) = e ∙ sym (before_front m (drop at text) (omega (arith, e))) in
      let p : n ≤ 22 = omega arith in
      let q : n < length (drop at text) = omega arith in
      rw (← b, le-leb n 22 p, lt-ltb n (length (drop at text)) q)

  -- none is, and they are 23 or all that are left
  pub line_none : (m < 23 → length (drop at text) ≤ m) → m ≡ n → None ≡ line_end_of text at
  unfolding line_end_of
  line_none h f = go (leb (before 10 (drop at text)) 22) refl (ltb (before 10 (drop at text)) (length (drop at text))) refl
    where
      go : (a : Bool) → leb (before 10 (drop at text)) 22 ≡ a → (b : Bool) → ltb (before 10 (drop at text)) (length (drop at text)) ≡ b
          → None ≡ (if a then (if b then Some (at + before 10 (drop at text)) else None) else None)
      go true p true q = absurd (omega (arith, leb-true (before 10 (drop at text)) 22 p, ltb-true (before 10 (drop at text)) (length (drop at text)) q, before_behind m (drop at text) (sym e ∙ sym f), h (omega (arith, leb-true (before 10 (drop at text)) 22 p, before_behind m (drop at text) (sym e ∙ sym f)))))
      go true p false q = refl
      go false p b q = refl

-- a line that ends before the text does
pub line_found : (text : List ℕ) (at end : ℕ) → at ≤ length text → Some end ≡ line_end_of text at
    → (end ≡ at + before 10 (drop at text)) × (end < length text)
unfolding line_end_of
line_found text at end h = go (leb (before 10 (drop at text)) 22) (ltb (before 10 (drop at text)) (length (drop at text))) refl
  where
    go : (a b : Bool) → ltb (before 10 (drop at text)) (length (drop at text)) ≡ b
        → Some end ≡ (if a then (if b then Some (at + before 10 (drop at text)) else None) else None)
        → (end ≡ at + before 10 (drop at text)) × (end < length text)
    go true true q e =
        let f : end ≡ at + before 10 (drop at text) = cc in
        (f, omega (arith, f, ltb-true (before 10 (drop at text)) (length (drop at text)) q, length-drop at text))
    go true false q e = cc
    go false b q e = cc

-- where the text ends; a last line without a line feed; a line
pub scan_end : (text : List ℕ) (at k : ℕ) (s : Stage) (bits : List ℕ) → length text ≤ at
    → at_end s k ≡ verdict_of k s bits (split_of (drop at text))
unfolding verdict_of split_of
scan_end text at k s bits h = rw (drop_of_length-le text h)

pub scan_torn : (text : List ℕ) (at end k : ℕ) (s : Stage) (bits : List ℕ) → at < length text
    → end ≡ at + before 10 (drop at text) → end ≡ length text → Err k ≡ verdict_of k s bits (split_of (drop at text))
unfolding verdict_of
scan_torn text at end k s bits h e f = rw (split_torn (drop at text) (omega (arith, length-drop at text)) (omega (arith, length-drop at text)))

scan_line : (text : List ℕ) (at end k : ℕ) (s : Stage) (bits : List ℕ) → end ≡ at + before 10 (drop at text)
    → end < length text
    → verdict_of k s bits (split_of (drop at text))
    ≡ unless (next_of s bits (take (end - at) (drop at text))) (Err k) (λ t. verdict_of (k + 1) t (bits_of s bits (take (end - at) (drop at text))) (split_of (drop (end + 1) text)))
unfolding verdict_of
scan_line text at end k s bits e h =
    let o : before 10 (drop at text) ≡ end - at = omega arith in
    let i : at + (before 10 (drop at text) + 1) ≡ end + 1 = omega arith in
    let q : drop (before 10 (drop at text) + 1) (drop at text) ≡ drop (end + 1) text = drop-drop (before 10 (drop at text) + 1) at text ∙ ap (λ (j : ℕ). drop j text) i in
    rw (split_at (drop at text) (omega (arith, length-drop at text)), q, o)

pub scan_lost : (text : List ℕ) (at end k : ℕ) (s : Stage) (bits : List ℕ) → end ≡ at + before 10 (drop at text)
    → end < length text → next_of s bits (take (end - at) (drop at text)) ≡ None
    → Err k ≡ verdict_of k s bits (split_of (drop at text))
scan_lost text at end k s bits e h n = sym (scan_line text at end k s bits e h ∙ rw n)

-- a line without a line feed, or one that is too long
pub scan_stop : (text : List ℕ) (at k : ℕ) (s : Stage) (bits : List ℕ) → at < length text → None ≡ line_end_of text at
    → Err k ≡ verdict_of k s bits (split_of (drop at text))
unfolding line_end_of
scan_stop text at k s bits h e = go (leb (before 10 (drop at text)) 22) refl (ltb (before 10 (drop at text)) (length (drop at text))) refl e
  where
    end : ℕ
    end = at + before 10 (drop at text)

    go : (a : Bool) → leb (before 10 (drop at text)) 22 ≡ a → (b : Bool) → ltb (before 10 (drop at text)) (length (drop at text)) ≡ b
        → None ≡ (if a then (if b then Some (at + before 10 (drop at text)) else None) else None) → Err k ≡ verdict_of k s bits (split_of (drop at text))
    go true p true q f = cc
    go a p false q f =
        scan_torn text at end k s bits h refl (omega (arith, ltb-false (before 10 (drop at text)) (length (drop at text)) q, before_within (drop at text), length-drop at text))
    go false p true q f =
        let y = take (end - at) (drop at text) in
        let inside : end < length text = omega (arith, ltb-true (before 10 (drop at text)) (length (drop at text)) q, length-drop at text) in
        let long : 22 < length y = omega (arith, leb-false (before 10 (drop at text)) 22 p, length-take-le (end - at) (drop at text) (omega (arith, length-drop at text))) in
        scan_lost text at end k s bits refl inside (long_lost s bits y long)

pub scan_turn : (text : List ℕ) (at end k : ℕ) (s after : Stage) (bits b : List ℕ) → end ≡ at + before 10 (drop at text)
    → end < length text → next_of s bits (take (end - at) (drop at text)) ≡ Some after
    → b ≡ bits_of s bits (take (end - at) (drop at text)) → verdict_of (k + 1) after b (split_of (drop (end + 1) text)) ≡ verdict_of k s bits (split_of (drop at text))
scan_turn text at end k s after bits b e h n m = sym (scan_line text at end k s bits e h ∙ rw (n, ← m))

-- ---- the words

-- words of 0 behind one another
pub zeros_put : (l m : List ℕ) (at n r : ℕ) → at + n ≤ length l → m ≡ replicate r 0 → r ≡ n
    → (at + n, put_mid at (at + n - at) l m) ≡ put_of l at (replicate n 0)
unfolding put_of
zeros_put l m at n r h e f =
    let k : at + n - at ≡ n = omega arith in
    let z = length-replicate {A = ℕ} n 0 in
    let s = sets-eq (replicate n 0) l at (omega (arith, z)) in
    rw (e, f, k, z, s, z, drop-drop n at l, append_assoc (take at l) (replicate n 0) (drop (at + n) l))

-- where it ends
pub zeros_place : (l m : List ℕ) (at a n : ℕ) → (a, m) ≡ put_of l at (replicate n 0) → a ≡ at + n
zeros_place l m at a n e = omega (arith, put_place l m at a (replicate n 0) e, length-replicate {A = ℕ} n 0)

pub step_words_lem : (l : List ℕ) (i a b : ℕ)
    → (i + 3, set (set (set l i a) (i + 1) b) (i + 2) 0) ≡ put_of l i (a ∷ b ∷ 0 ∷ [])
unfolding put_of
step_words_lem l i a b = let e : i + 1 ≡ suc i = omega arith in let f : i + 2 ≡ suc (suc i) = omega arith in rw (e, f)

idle_zeros : (g : ℕ) (w : List ℕ) → idle g w ≡ replicate (3 * g) 0 ++ w
unfolding idle
idle_zeros zero w = refl
idle_zeros (suc g) w = let e : 3 * suc g ≡ suc (suc (suc (3 * g))) = omega arith in rw (e, idle_zeros g w)

-- those of a change: zeros, and its own three
pub change_put : (out m o : List ℕ) (at a r gap kind cell : ℕ) → (a, m) ≡ put_of out at (replicate (3 * gap) 0)
    → (r, o) ≡ put_of m a (kind ∷ cell ∷ 0 ∷ []) → (r, o) ≡ put_of out at (idle gap (kind ∷ cell ∷ 0 ∷ []))
change_put out m o at a r gap kind cell f g = rw (idle_zeros gap (kind ∷ cell ∷ 0 ∷ [])) (put_join out m o at a r (replicate (3 * gap) 0) (kind ∷ cell ∷ 0 ∷ []) f g)

-- they stand before those that follow
idle_append : (gap kind cell : ℕ) (w : List ℕ) → idle gap (kind ∷ cell ∷ 0 ∷ w) ≡ idle gap (kind ∷ cell ∷ 0 ∷ []) ++ w
idle_append gap kind cell w = rw (idle_zeros gap (kind ∷ cell ∷ 0 ∷ w), idle_zeros gap (kind ∷ cell ∷ 0 ∷ [])) (sym (append_assoc (replicate (3 * gap) 0) (kind ∷ cell ∷ 0 ∷ []) w))

-- the words of a line that was taken, and the rest
words_line : (text : List ℕ) (at end : ℕ) (s after : Stage) (bits : List ℕ) → end ≡ at + before 10 (drop at text)
    → end < length text → next_of s bits (take (end - at) (drop at text)) ≡ Some after
    → script_words_of s bits (split_of (drop at text)) ≡ script_words_at s bits (take (end - at) (drop at text)) (script_words_of after (bits_of s bits (take (end - at) (drop at text))) (split_of (drop (end + 1) text)))
unfolding script_words_of
words_line text at end s after bits e h n =
    let o : before 10 (drop at text) ≡ end - at = omega arith in
    let i : at + (before 10 (drop at text) + 1) ≡ end + 1 = omega arith in
    let q : drop (before 10 (drop at text) + 1) (drop at text) ≡ drop (end + 1) text = drop-drop (before 10 (drop at text) + 1) at text ∙ ap (λ (j : ℕ). drop j text) i in
    rw (split_at (drop at text) (omega (arith, length-drop at text)), q, o, n)

pub words_end : (text : List ℕ) (at : ℕ) (s : Stage) (bits : List ℕ) → length text ≤ at
    → script_words_of s bits (split_of (drop at text)) ≡ []
unfolding script_words_of split_of
words_end text at s bits h = rw (drop_of_length-le text h)

-- ---- the lines before the changes

-- where the changes begin, what they come to is what the text comes to
pub record Onward (text : List ℕ) (at n k : ℕ) : Type 0 where
  pub some : 1 ≤ n
  pub few : n ≤ 94
  pub within : at ≤ length text
  pub lines : k ≤ at + 1
  pub verdict : verdict_of k (Waiting n 0) no_bits (split_of (drop at text)) ≡ verdict_of 1 Opening no_bits (split_of text)
  pub words : script_words_of (Waiting n 0) no_bits (split_of (drop at text)) ≡ script_words_of Opening no_bits (split_of text)

-- what the lines before the changes come to: where these begin, or the first wrong line
abbrev pub Headed : List ℕ → Result Header ℕ → Type 0
Headed text (Ok h) = Onward text h.at h.cells h.line
Headed text (Err k) = Err k ≡ verdict_of 1 Opening no_bits (split_of text)

-- a line before the changes adds no word
pub early_turn : (text : List ℕ) (at end : ℕ) (s after : Stage) → Early s → end ≡ at + before 10 (drop at text)
    → end < length text → next_of s no_bits (take (end - at) (drop at text)) ≡ Some after
    → script_words_of after no_bits (split_of (drop (end + 1) text)) ≡ script_words_of s no_bits (split_of (drop at text))
early_turn text at end s after b e h n =
    let x : List ℕ = take (end - at) (drop at text) in
    sym (words_line text at end s after no_bits e h n ∙ early_words s no_bits x _ b ∙ rw (early_bits s no_bits x b))

pub early_scan : (text : List ℕ) (at end k : ℕ) (s after : Stage) → Early s → end ≡ at + before 10 (drop at text)
    → end < length text → next_of s no_bits (take (end - at) (drop at text)) ≡ Some after
    → verdict_of (k + 1) after no_bits (split_of (drop (end + 1) text)) ≡ verdict_of k s no_bits (split_of (drop at text))
early_scan text at end k s after b e h n = scan_turn text at end k s after no_bits no_bits e h n (sym (early_bits s no_bits (take (end - at) (drop at text)) b))

-- the last of them
pub headed_right : (text : List ℕ) (at end k : ℕ) (s after : Stage) (cells last : ℕ) → Reach s → Early s → k ≤ at + 1
    → end ≡ at + before 10 (drop at text) → end < length text → next_of s no_bits (take (end - at) (drop at text)) ≡ Some after
    → after ≡ Waiting cells last
    → verdict_of k s no_bits (split_of (drop at text)) ≡ verdict_of 1 Opening no_bits (split_of text)
    → script_words_of s no_bits (split_of (drop at text)) ≡ script_words_of Opening no_bits (split_of text)
    → Onward text (end + 1) cells (k + 1)
headed_right text at end k s after cells last r b j e h n c v w =
    let x : List ℕ = take (end - at) (drop at text) in
    let z : last ≡ 0 = next_waiting s no_bits x b after n cells last c in
    let is : after ≡ Waiting cells 0 = rw z at c in
    let reached : Reach after = reach_next s no_bits x after n r in
    let few : (1 ≤ cells) × (cells ≤ 94) = rw is at reached in
    record {
      some = few.0;
      few = few.1;
      within = omega arith;
      lines = omega arith;
      verdict = rw is at (early_scan text at end k s after b e h n) ∙ v;
      words = rw is at (early_turn text at end s after b e h n) ∙ w;
    }

-- ---- the changes

-- what they come to is of these cells
abbrev pub OfCells : ℕ → Verdict → Type 0
OfCells n (Ok (m, last)) = m ≡ n
OfCells n (Err k) = Unit {0}

-- where a time is waited for
module _ (text : List ℕ) (at n last : ℕ) (bits : List ℕ) where
  -- the line is lost, or torn
  wait_lost : (k t : ℕ) → at < length text → t ≡ time_front (drop at text)
      → ((x : List ℕ) → t ≡ stamp_of x → None ≡ next_of (Waiting n last) bits x)
      → Err k ≡ verdict_of k (Waiting n last) bits (split_of (drop at text))
  unfolding time_front
  wait_lost k t h e f = go (ltb (before 10 (drop at text)) (length (drop at text))) refl
    where
      end : ℕ
      end = at + before 10 (drop at text)

      same_end : before 10 (drop at text) ≡ end - at
      same_end = omega arith

      go : (b : Bool) → ltb (before 10 (drop at text)) (length (drop at text)) ≡ b → Err k ≡ verdict_of k (Waiting n last) bits (split_of (drop at text))
      go true p =
          let inside = ltb-true (before 10 (drop at text)) (length (drop at text)) p in
          let s : t ≡ stamp_of (take (end - at) (drop at text)) = rw (p, same_end) at e in
          scan_lost text at end k (Waiting n last) bits refl (omega (arith, length-drop at text)) (sym (f (take (end - at) (drop at text)) s))
      go false p =
          let beyond = ltb-false (before 10 (drop at text)) (length (drop at text)) p in
          scan_torn text at end k (Waiting n last) bits h refl (omega (arith, before_within (drop at text), length-drop at text))

  pub wait_past : (k t : ℕ) → at < length text → t ≡ time_front (drop at text) → t ≤ last
      → Err k ≡ verdict_of k (Waiting n last) bits (split_of (drop at text))
  wait_past k t h e l = wait_lost k t h e (λ x s. time_past n last x t s l)

  pub wait_far : (k t : ℕ) → at < length text → t ≡ time_front (drop at text) → 32768 < t
      → Err k ≡ verdict_of k (Waiting n last) bits (split_of (drop at text))
  wait_far k t h e l = wait_lost k t h e (λ x s. time_far n last x t s l)

  -- the line is taken
  module _ (t : ℕ) (e : t ≡ time_front (drop at text)) (l : last < t) (m : t ≤ 32768) where
    taken : ltb (before 10 (drop at text)) (length (drop at text)) ≡ true
    unfolding time_front
    taken = go (ltb (before 10 (drop at text)) (length (drop at text))) refl
      where
        go : (b : Bool) → ltb (before 10 (drop at text)) (length (drop at text)) ≡ b → b ≡ true
        go true p = refl
        go false p = let z : t ≡ 0 = rw p at e in absurd (omega arith)

    inside : at + before 10 (drop at text) < length text
    inside = omega (arith, ltb-true (before 10 (drop at text)) (length (drop at text)) taken, length-drop at text)

    leads : Some (Changing n last t) ≡ next_of (Waiting n last) bits (take (at + before 10 (drop at text) - at) (drop at text))
    unfolding time_front
    leads =
        let o : before 10 (drop at text) ≡ at + before 10 (drop at text) - at = omega arith in
        let s : t ≡ stamp_of (take (at + before 10 (drop at text) - at) (drop at text)) = rw taken at e ∙ ap (λ (j : ℕ). stamp_of (take j (drop at text))) o in
        time_taken n last (take (at + before 10 (drop at text) - at) (drop at text)) t s l m

    pub wait_right : (k behind : ℕ) → behind ≡ at + before 10 (drop at text) + 1
        → verdict_of (k + 1) (Changing n last t) bits (split_of (drop behind text)) ≡ verdict_of k (Waiting n last) bits (split_of (drop at text))
    wait_right k behind b = rw b (scan_turn text at (at + before 10 (drop at text)) k (Waiting n last) (Changing n last t) bits bits refl inside (sym leads) refl)

    pub wait_words : (behind : ℕ) → behind ≡ at + before 10 (drop at text) + 1
        → script_words_of (Changing n last t) bits (split_of (drop behind text)) ≡ script_words_of (Waiting n last) bits (split_of (drop at text))
    wait_words behind b = rw b (sym (words_line text at (at + before 10 (drop at text)) (Waiting n last) (Changing n last t) bits refl inside (sym leads)))

-- where a change is waited for
module _ (text : List ℕ) (at n last t : ℕ) (bits : List ℕ) where
  pub change_wrong : (k : ℕ) → change_front n bits (drop at text) ≡ false
      → Err k ≡ verdict_of k (Changing n last t) bits (split_of (drop at text))
  unfolding change_front
  change_wrong k e = go (ltb at (length text)) refl (ltb (before 10 (drop at text)) (length (drop at text))) refl
    where
      end : ℕ
      end = at + before 10 (drop at text)

      lost : is_change n bits (take (end - at) (drop at text)) ≡ false → next_of (Changing n last t) bits (take (end - at) (drop at text)) ≡ None
      lost f = rw f

      go : (a : Bool) → ltb at (length text) ≡ a → (b : Bool) → ltb (before 10 (drop at text)) (length (drop at text)) ≡ b
          → Err k ≡ verdict_of k (Changing n last t) bits (split_of (drop at text))
      go true p true q =
          let inside = ltb-true (before 10 (drop at text)) (length (drop at text)) q in
          let o : before 10 (drop at text) ≡ end - at = omega arith in
          let f : is_change n bits (take (end - at) (drop at text)) ≡ false = rw (q, o) at e in
          scan_lost text at end k (Changing n last t) bits refl (omega (arith, length-drop at text)) (lost f)
      go true p false q =
          let beyond = ltb-false (before 10 (drop at text)) (length (drop at text)) q in
          scan_torn text at end k (Changing n last t) bits (ltb-true at (length text) p) refl (omega (arith, ltb-true at (length text) p, before_within (drop at text), length-drop at text))
      go false p b q = scan_end text at k (Changing n last t) bits (ltb-false at (length text) p)

  module _ (e : change_front n bits (drop at text) ≡ true) (cell : ℕ) (c : cell ≡ get_or text (at + 1) 0 - 33) where
    abbrev told : List ℕ
    told = take (at + 2 - at) (drop at text)

    told_is : take (before 10 (drop at text)) (drop at text) ≡ told
    told_is = let o : before 10 (drop at text) ≡ at + 2 - at = omega (arith, (change_told text at n bits e).0) in rw o

    leads_on : next_of (Changing n last t) bits told ≡ Some (Waiting n t)
    leads_on = let f : is_change n bits told ≡ true = rw told_is at (change_told text at n bits e).5 in rw f

    named : cell_in told ≡ cell
    named = sym (ap cell_in told_is) ∙ (change_told text at n bits e).4 ∙ sym c

    pub change_right : (k : ℕ) → verdict_of (k + 1) (Waiting n t) (flip_of bits cell) (split_of (drop (at + 3) text)) ≡ verdict_of k (Changing n last t) bits (split_of (drop at text))
    change_right k =
        let d = change_told text at n bits e in
        let i : at + 2 + 1 ≡ at + 3 = omega arith in
        rw (← i) (scan_turn text at (at + 2) k (Changing n last t) (Waiting n t) bits (flip_of bits cell) (omega (arith, d.0)) (omega (arith, d.1)) leads_on (ap (λ (j : ℕ). flip_of bits j) (sym named)))

    pub change_words : script_words_of (Changing n last t) bits (split_of (drop at text)) ≡ idle (t - (last + 1)) (kind_for (get_or bits cell 0) ∷ cell ∷ 0 ∷ []) ++ script_words_of (Waiting n t) (flip_of bits cell) (split_of (drop (at + 3) text))
    change_words =
        let d = change_told text at n bits e in
        let i : at + 2 + 1 ≡ at + 3 = omega arith in
        words_line text at (at + 2) (Changing n last t) (Waiting n t) bits (omega (arith, d.0)) (omega (arith, d.1)) leads_on
        ∙ rw (named, i) (idle_append (t - (last + 1)) (kind_for (get_or bits cell 0)) cell (script_words_of (Waiting n t) (flip_of bits cell) (split_of (drop (at + 3) text))))

-- ---- changes that are right

pub record Right (text : List ℕ) (at n last : ℕ) (bits : List ℕ) : Type 0 where
  pub number : ℕ
  pub end : ℕ
  pub fine : verdict_of number (Waiting n last) bits (split_of (drop at text)) ≡ Ok (n, end)

-- a time and a change stand there
pub right_time : (text : List ℕ) (at n last : ℕ) (bits : List ℕ) → at < length text → Right text at n last bits
    → (last < time_front (drop at text)) × (time_front (drop at text) ≤ 32768)
right_time text at n last bits h r = go (ltb last (time_front (drop at text))) refl (leb (time_front (drop at text)) 32768) refl
  where
    go : (a : Bool) → ltb last (time_front (drop at text)) ≡ a → (b : Bool) → leb (time_front (drop at text)) 32768 ≡ b
        → (last < time_front (drop at text)) × (time_front (drop at text) ≤ 32768)
    go true p true q = (ltb-true last (time_front (drop at text)) p, leb-true (time_front (drop at text)) 32768 q)
    go true p false q = bad_not (wait_far text at n last bits r.number (time_front (drop at text)) h refl (leb-false (time_front (drop at text)) 32768 q) ∙ r.fine)
    go false p b q = bad_not (wait_past text at n last bits r.number (time_front (drop at text)) h refl (ltb-false last (time_front (drop at text)) p) ∙ r.fine)

module _ (text : List ℕ) (at n last : ℕ) (bits : List ℕ) (h : at < length text) (r : Right text at n last bits) (t behind : ℕ)
    (e : t ≡ time_front (drop at text)) (b : behind ≡ at + before 10 (drop at text) + 1) where
  later : (last < t) × (t ≤ 32768)
  later = let p = right_time text at n last bits h r in (omega (arith, p.0, e), omega (arith, p.1, e))

  pub right_change : change_front n bits (drop behind text) ≡ true
  right_change = go (change_front n bits (drop behind text)) refl
    where
      go : (a : Bool) → change_front n bits (drop behind text) ≡ a → a ≡ true
      go true p = refl
      go false p = bad_not (change_wrong text behind n last t bits (r.number + 1) p ∙ wait_right text at n last bits t e later.0 later.1 r.number behind b ∙ r.fine)

  pub right_turn : (cell : ℕ) → cell ≡ get_or text (behind + 1) 0 - 33 → Right text (behind + 3) n t (flip_of bits cell)
  right_turn cell c = record {
    number = r.number + 1 + 1;
    end = r.end;
    fine = change_right text behind n last t bits right_change cell c (r.number + 1) ∙ wait_right text at n last bits t e later.0 later.1 r.number behind b ∙ r.fine;
  }

  pub right_words : (cell : ℕ) → cell ≡ get_or text (behind + 1) 0 - 33
      → script_words_of (Waiting n last) bits (split_of (drop at text)) ≡ idle (t - (last + 1)) (kind_for (get_or bits cell 0) ∷ cell ∷ 0 ∷ []) ++ script_words_of (Waiting n t) (flip_of bits cell) (split_of (drop (behind + 3) text))
  right_words cell c = sym (wait_words text at n last bits t e later.0 later.1 behind b) ∙ change_words text behind n last t bits right_change cell c

-- what a time and a change that are right tell
pub record Pair (text : List ℕ) (at n last : ℕ) (bits : List ℕ) (s : Time) : Type 0 where
  pub later : last < s.value
  pub ahead : at < s.behind
  pub inside : s.behind + 3 ≤ length text
  pub code : 33 ≤ get_or text (s.behind + 1) 0
  pub cell : get_or text (s.behind + 1) 0 - 33 < n
  pub turn : Right text (s.behind + 3) n s.value (flip_of bits (get_or text (s.behind + 1) 0 - 33))
  pub words : script_words_of (Waiting n last) bits (split_of (drop at text))
      ≡ idle (s.value - (last + 1)) (kind_for (get_or bits (get_or text (s.behind + 1) 0 - 33) 0) ∷ (get_or text (s.behind + 1) 0 - 33) ∷ 0 ∷ []) ++ script_words_of (Waiting n s.value) (flip_of bits (get_or text (s.behind + 1) 0 - 33)) (split_of (drop (s.behind + 3) text))

pub pair_of : (text : List ℕ) (at n last : ℕ) (bits : List ℕ) (s : Time) → at < length text → Right text at n last bits
    → Stamped text at s → Pair text at n last bits s
pair_of text at n last bits s h r st =
    let q = right_time text at n last bits h r in
    let l : last < s.value = omega (arith, q.0, st.told) in
    let b = st.next in
    let d = change_told text s.behind n bits (right_change text at n last bits h r s.value s.behind st.told b.0) in
    record {
      later = l;
      ahead = omega (arith, b.0);
      inside = d.1;
      code = d.2;
      cell = d.3;
      turn = right_turn text at n last bits h r s.value s.behind st.told b.0 _ refl;
      words = right_words text at n last bits h r s.value s.behind st.told b.0 _ refl;
    }

-- a text that is fine, with its changes from here on
pub record Begun (text : List ℕ) (at n last : ℕ) : Type 0 where
  pub few : n ≤ 94
  pub within : at ≤ length text
  pub right : Right text at n 0 no_bits
  pub words : script_words_of (Waiting n 0) no_bits (split_of (drop at text)) ≡ script_words_of Opening no_bits (split_of text)
  pub fine : verdict_of 1 Opening no_bits (split_of text) ≡ Ok (n, last)

-- ---- the room

-- the answer where the words do not fit, and where they do
pub give_none : (text out : List ℕ) (n last : ℕ) → verdict_of 1 Opening no_bits (split_of text) ≡ Ok (n, last)
    → length out / 3 < last
    → (Err read_refusal.NoRoom, out) ≡ answered (read n (script_words_of Opening no_bits (split_of text))) out
give_none text out n last e h =
    let c = words_count (split_of text) n last no_bits e in
    let l : length out < length (script_words_of Opening no_bits (split_of text)) = omega arith in
    rw (lt-ltb _ _ l)

pub give_some : (text out o : List ℕ) (n last : ℕ) → verdict_of 1 Opening no_bits (split_of text) ≡ Ok (n, last)
    → last ≤ length out / 3
    → o ≡ sets out 0 (script_words_of Opening no_bits (split_of text))
    → (Ok (n, last), o) ≡ answered (read n (script_words_of Opening no_bits (split_of text))) out
give_some text out o n last e h p =
    let c = words_count (split_of text) n last no_bits e in
    let l : length (script_words_of Opening no_bits (split_of text)) ≤ length out = omega arith in
    let s : length (script_words_of Opening no_bits (split_of text)) / 3 ≡ last = omega arith in
    rw (le-ltb _ _ l, s, p)

-- ---- the loop that fills

-- the words of a change are put, and the rest is left to put
pub put_turn : (out m : List ℕ) (i j : ℕ) (all x w : List ℕ) → all ≡ x ++ w → (j, m) ≡ put_of out i x → put_of m j w ≡ put_of out i all
put_turn out m i j all x w e p = rw e (put_first out m i j x w p)

-- there is room for them
pub put_room : (out m : List ℕ) (i j : ℕ) (all y : List ℕ) (gap kind cell : ℕ) (w : List ℕ)
    → all ≡ idle gap (kind ∷ cell ∷ 0 ∷ []) ++ w → put_of out i all ≡ put_of m j y → i + 3 * gap + 3 ≤ j + length y
put_room out m i j all y gap kind cell w e p =
    omega (arith, put_size out m i j all y p, ap length e, length-append (idle gap (kind ∷ cell ∷ 0 ∷ [])) w, idle_length gap (kind ∷ cell ∷ 0 ∷ []))

pub put_all : (l m : List ℕ) (i : ℕ) (x : List ℕ) → put_of m i [] ≡ put_of l 0 x → m ≡ sets l 0 x
unfolding put_of
put_all l m i x e = ap (λ (o : ℕ × List ℕ). o.1) e

-- ---- the call

-- a wrong line is handed on as the reader's refusal, and what is right as it is
module _ {A : Type 0} (r : Result A ℕ) (s : Result A ReadRefusal)
    (cases : MatchResult r (λ x. s ≡ Ok x) (λ k. IsErrAnd s (λ e. e ≡ read_refusal.BadLine k))) where
  pub handed_err : (e : ReadRefusal) → s ≡ Err e → (k : ℕ) × (r ≡ Err k) × (e ≡ read_refusal.BadLine k)
  handed_err e f = go r refl
    where
      go : (o : Result A ℕ) → r ≡ o → (k : ℕ) × (r ≡ Err k) × (e ≡ read_refusal.BadLine k)
      go (Ok x) p = let q : s ≡ Ok x = rw p at cases in cc
      go (Err k) p =
          let q = err_from_is_err_and s (rw p at cases) in
          let same : q.0 ≡ e = cc (q.1, f) in
          (k, p, sym same ∙ q.2)

  pub handed_ok : (x : A) → s ≡ Ok x → r ≡ Ok x
  handed_ok x f = go r refl
    where
      go : (o : Result A ℕ) → r ≡ o → r ≡ Ok x
      go (Ok y) p = let q : s ≡ Ok y = rw p at cases in cc
      go (Err k) p = let q = err_from_is_err_and s (rw p at cases) in cc (q.1, f)

pub refused_at : (text out : List ℕ) (k : ℕ) (e : ReadRefusal) (r : Result (ℕ × ℕ) ReadRefusal) → r ≡ Err e → e ≡ read_refusal.BadLine k
    → Err k ≡ verdict_of 1 Opening no_bits (split_of text) → (r, out) ≡ read_into_of text out
unfolding read_into_of read_of
refused_at text out k e r f g h = rw (f, g, ← h)
