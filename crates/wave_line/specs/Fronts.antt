-- The two lines of a change, by the bytes at the front of a text: no search for a line's end, no line printed to be
-- compared.
use Rattle.std.specs.Prelude.{◌≡◌, ℕ, suc, ◌+◌, ◌-◌, ◌*◌, ◌%◌, ◌^◌, ◌<◌, ◌≤◌, Bool, true, false, ltb, ◌≢◌, List, [], ◌∷◌, length, take, drop, ◌==◌, nat_lt, slice_index, slice_index_or, refl, if◌then◌else◌, Option, Some, None}
use Rattle.std.proofs.Common.{sym, ap, ◌∙◌, arith, length-take-le, ltb-true, ltb-false, lt-ltb, le-ltb, eq-eqb, ne_eqb, eqb-true}
use Rattle.std.proofs.Math.ListN.{length-drop}
use Rattle.std.proofs.Math.Seq.{get_or-take, get_or-drop}
use Rattle.std.proofs.lemmas.Bool.{eqb-false}
use Rattle.choice.specs.Pick.{if_both}
use Rattle.text.specs.Text.{before, is_digit, digits_in, value_from}
use Rattle.text.specs.Laws.{drop_one, before_at, digit_is, digits_at, value_at}
use Rattle.wave_rules.specs.Lines.{same}
use Rattle.wave_rules.specs.Dump.{turned, bit_line}
use Rattle.wave_rules.specs.Reader.{cell_in, is_change}
use Rattle.wave_rules.proofs.Stages.{nested, same_true}
use Rattle.wave_line.specs.declared.Time.{Time}
use Rattle.wave_line.specs.Stages.{sum_of, stamp_of}
use Rattle.wave_line.specs.Laws.{low_byte, high_byte, digit_byte, stamp_made, same_bit}

-- ---- the line at the front

pub before_within : (l : List ℕ) → before 10 l ≤ length l
unfolding before
before_within [] = omega arith
before_within (b ∷ l) = if_both (λ (n : ℕ). n ≤ suc (length l)) (b == 10) (omega arith) (omega (arith, before_within l))

-- a line feed ends it
feed_at : (l : List ℕ) → before 10 l < length l → slice_index l (before 10 l) ≡ 10
unfolding before
feed_at [] h = absurd (omega arith)
feed_at (b ∷ l) h = go (b == 10) refl h (feed_at l)
  where
    go : (t : Bool) → (b == 10) ≡ t → (if t then 0 else 1 + before 10 l) < suc (length l)
        → (before 10 l < length l → slice_index l (before 10 l) ≡ 10)
        → slice_index (b ∷ l) (if t then 0 else 1 + before 10 l) ≡ 10
    go true e k f = eqb-true b 10 e
    go false e k f = let s : 1 + before 10 l ≡ suc (before 10 l) = omega arith in rw s (f (omega arith))

-- a line feed is no digit, so the digits and their value are the line's
digits_front : (l : List ℕ) → digits_in (take (before 10 l) l) ≡ digits_in l
unfolding before digits_in
digits_front [] = refl
digits_front (b ∷ l) = go (b == 10) refl (digits_front l)
  where
    go : (t : Bool) → (b == 10) ≡ t → digits_in (take (before 10 l) l) ≡ digits_in l
        → digits_in (take (if t then 0 else 1 + before 10 l) (b ∷ l)) ≡ (if is_digit b then 1 + digits_in l else 0)
    go true e f = rw (low_byte b (omega (arith, eqb-true b 10 e)))
    go false e f = let s : 1 + before 10 l ≡ suc (before 10 l) = omega arith in rw (s, f)

value_front : (l : List ℕ) (v : ℕ) → value_from v (take (before 10 l) l) ≡ value_from v l
unfolding before value_from
value_front [] v = refl
value_front (b ∷ l) v = go (b == 10) refl (value_front l (10 * v + (b - 48)))
  where
    go : (t : Bool) → (b == 10) ≡ t
        → value_from (10 * v + (b - 48)) (take (before 10 l) l) ≡ value_from (10 * v + (b - 48)) l
        → value_from v (take (if t then 0 else 1 + before 10 l) (b ∷ l)) ≡ (if is_digit b then value_from (10 * v + (b - 48)) l else v)
    go true e f = rw (low_byte b (omega (arith, eqb-true b 10 e)))
    go false e f = let s : 1 + before 10 l ≡ suc (before 10 l) = omega arith in rw (s, f)

-- ---- a time line

-- the time of the line at the front; 0 if it is no time line, or has no line feed
unfoldable pub time_front : List ℕ → ℕ
time_front l = if nat_lt (before 10 l) (length l) then stamp_of (take (before 10 l) l) else 0

front_empty : (b : ℕ) (y : List ℕ) → b ≡ 10 → time_front (b ∷ y) ≡ 0
unfolding time_front before stamp_of
front_empty b y e = rw (eq-eqb b 10 e, lt-ltb 0 (suc (length y)) (omega arith))

front_line : (b : ℕ) (y : List ℕ) → b ≢ 10
    → time_front (b ∷ y) ≡ (if ltb (before 10 y) (length y) then stamp_of (b ∷ take (before 10 y) y) else 0)
unfolding time_front before
front_line b y h = let s : 1 + before 10 y ≡ suc (before 10 y) = omega arith in rw (ne_eqb b 10 h, s) (go (nat_lt (before 10 y) (length y)) refl)
  where
    go : (t : Bool) → nat_lt (before 10 y) (length y) ≡ t
        → (if ltb (suc (before 10 y)) (suc (length y)) then stamp_of (b ∷ take (before 10 y) y) else 0) ≡ (if t then stamp_of (b ∷ take (before 10 y) y) else 0)
    go true p = rw (lt-ltb (suc (before 10 y)) (suc (length y)) (omega (arith, ltb-true (before 10 y) (length y) p)))
    go false p = rw (le-ltb (suc (before 10 y)) (suc (length y)) (omega (arith, ltb-false (before 10 y) (length y) p)))

-- what a time line has: its mark, and digits alone up to the line feed, the first not 0
pub record Timed (b : ℕ) (y : List ℕ) (t : ℕ) : Type 0 where
  pub mark : b ≡ 35
  pub proper : slice_index_or y 0 0 ≢ 48
  pub whole : digits_in y ≡ before 10 y
  pub some : 1 ≤ before 10 y
  pub few : before 10 y ≤ 5
  pub ended : before 10 y < length y
  pub value : t ≡ value_from 0 y

time_some : (b : ℕ) (y : List ℕ) → 0 < time_front (b ∷ y) → Timed b y (time_front (b ∷ y))
time_some b y h = go (b == 10) refl
  where
    made : before 10 y < length y → 0 < stamp_of (b ∷ take (before 10 y) y) → Timed b y (stamp_of (b ∷ take (before 10 y) y))
    made e k =
        let m = stamp_made b (take (before 10 y) y) k in
        let n = length-take-le (before 10 y) y (before_within y) in
        let first : slice_index_or (take (before 10 y) y) 0 0 ≡ slice_index_or y 0 0 = get_or-take (before 10 y) y 0 0 (omega (arith, m.4, n)) in
        record {
          mark = m.0;
          proper = (λ z. m.1 (first ∙ z));
          whole = sym (digits_front y) ∙ m.2 ∙ n;
          some = omega (arith, m.4, n);
          few = omega (arith, m.5, n);
          ended = e;
          value = m.3 ∙ value_front y 0;
        }

    line : (t : Bool) → nat_lt (before 10 y) (length y) ≡ t
        → 0 < (if t then stamp_of (b ∷ take (before 10 y) y) else 0) → Timed b y (if t then stamp_of (b ∷ take (before 10 y) y) else 0)
    line true p k = made (ltb-true (before 10 y) (length y) p) k
    line false p k = absurd (omega arith)

    go : (t : Bool) → (b == 10) ≡ t → Timed b y (time_front (b ∷ y))
    go true e = absurd (omega (arith, h, front_empty b y (eqb-true b 10 e)))
    go false e =
        let f = front_line b y (eqb-false b 10 e) in
        rw f (line (nat_lt (before 10 y) (length y)) refl (rw f at h))

time_made : (b : ℕ) (y : List ℕ) → b ≡ 35 → slice_index y 0 ≢ 48 → digits_in y ≡ before 10 y → 1 ≤ before 10 y → before 10 y ≤ 5
    → before 10 y < length y → time_front (b ∷ y) ≡ value_from 0 y
unfolding stamp_of sum_of
time_made b y m p w s f e =
    let n = length-take-le (before 10 y) y (before_within y) in
    let first : slice_index_or (take (before 10 y) y) 0 0 ≡ slice_index_or y 0 0 = get_or-take (before 10 y) y 0 0 (omega arith) in
    let c : 2 ≤ suc (length (take (before 10 y) y)) = omega (arith, n) in
    let d : suc (length (take (before 10 y) y)) ≤ 6 = omega (arith, n) in
    let z : slice_index_or (take (before 10 y) y) 0 0 ≢ 48 = (λ o. p (sym first ∙ o)) in
    let g : digits_in (take (before 10 y) y) ≡ suc (length (take (before 10 y) y)) - 1 = digits_front y ∙ w ∙ omega (arith, n) in
    front_line b y (λ o. absurd (omega arith))
    ∙ rw (lt-ltb _ _ e, le-ltb _ 2 c, le-ltb 6 _ d, eq-eqb b 35 m, ne_eqb _ 48 z, eq-eqb _ _ g) (value_front y 0)

-- ---- a byte less 48, or less another number, which wraps below 0

pub digit_other : (d b : ℕ) → (d + 48) % 2 ^ 64 ≡ b → d < 2 ^ 64 → 9 < d → is_digit b ≡ false
digit_other d b e f h = go (nat_lt b 48) refl
  where
    go : (t : Bool) → nat_lt b 48 ≡ t → is_digit b ≡ false
    go true p = low_byte b (ltb-true b 48 p)
    go false p = high_byte b (omega (arith, ltb-false b 48 p))

pub digit_this : (d b : ℕ) → (d + 48) % 2 ^ 64 ≡ b → d ≤ 9 → (is_digit b ≡ true) × (d ≡ b - 48)
digit_this d b e h = (digit_byte b (omega arith) (omega arith), omega arith)

-- ---- the walk over a time line from `at` on

module _ (text : List ℕ) (at : ℕ) where
  -- no time line stands there if it does not have what one has
  pub time_none : at < length text
      → (Timed (slice_index text at) (drop (at + 1) text) (time_front (slice_index text at ∷ drop (at + 1) text)) → ⊥)
      → 0 ≡ time_front (drop at text)
  time_none h f = rw (drop_one text at h) (go (time_front (slice_index text at ∷ drop (at + 1) text) == 0) refl)
    where
      go : (t : Bool) → (time_front (slice_index text at ∷ drop (at + 1) text) == 0) ≡ t → 0 ≡ time_front (slice_index text at ∷ drop (at + 1) text)
      go true e = sym (eqb-true (time_front (slice_index text at ∷ drop (at + 1) text)) 0 e)
      go false e = absurd (f (time_some (slice_index text at) (drop (at + 1) text) (omega (arith, eqb-false (time_front (slice_index text at ∷ drop (at + 1) text)) 0 e))))

  -- another byte stands first
  pub no_mark : at < length text → slice_index text at ≢ 35 → 0 ≡ time_front (drop at text)
  no_mark h e = time_none h (λ d. e d.mark)

  -- the bytes up to i are digits and come to t
  pub record Walked (t i : ℕ) : Type 0 where
    pub begun : at + 1 ≤ i
    pub within : i ≤ length text
    pub small : t < 10 ^ (i - (at + 1))
    pub value : value_from t (drop i text) ≡ value_from 0 (drop (at + 1) text)
    pub digits : digits_in (drop i text) + (i - (at + 1)) ≡ digits_in (drop (at + 1) text)
    pub line : before 10 (drop i text) + (i - (at + 1)) ≡ before 10 (drop (at + 1) text)

  pub walk_turn : (t i : ℕ) → Walked t i → i < length text → is_digit (slice_index text i) ≡ true
      → Walked (10 * t + (slice_index text i - 48)) (i + 1)
  walk_turn t i w h e =
      let b = digit_is (slice_index text i) e in
      let feed : slice_index_or text i 0 ≢ 10 = omega (arith, b) in
      let d = rw e at (digits_at text i h) in
      let v = rw e at (value_at t text i h) in
      let l = rw (ne_eqb (slice_index text i) 10 feed) at (before_at 10 text i h) in
      let k : i + 1 - (at + 1) ≡ suc (i - (at + 1)) = omega (arith, w.begun) in
      let p : 10 ^ suc (i - (at + 1)) ≡ 10 * 10 ^ (i - (at + 1)) = omega arith in
      record {
        begun = omega (arith, w.begun);
        within = omega arith;
        small = rw (k, p) (omega (arith, w.small, b));
        value = sym v ∙ w.value;
        digits = omega (arith, d, w.digits, w.begun);
        line = omega (arith, l, w.line, w.begun);
      }

  -- the text ends; the line is too long; a byte that is no digit
  walk_torn : (t i : ℕ) → Walked t i → length text ≤ i → 0 ≡ time_front (drop at text)
  walk_torn t i w h = time_none (omega (arith, w.begun, w.within)) (λ d. omega (arith, d.ended, w.line, w.begun, w.within, length-drop (at + 1) text))

  walk_long : (t i : ℕ) → Walked t i → at + 7 ≤ i → 0 ≡ time_front (drop at text)
  walk_long t i w h = time_none (omega (arith, w.begun, w.within)) (λ d. omega (arith, d.few, w.line))

  pub walk_stop : (t i stop : ℕ) → Walked t i → stop ≤ i → (stop < length text → at + 7 ≤ stop) → 0 ≡ time_front (drop at text)
  walk_stop t i stop w h f = go (nat_lt stop (length text)) refl
    where
      go : (b : Bool) → nat_lt stop (length text) ≡ b → 0 ≡ time_front (drop at text)
      go true e = walk_long t i w (omega (arith, f (ltb-true stop (length text) e)))
      go false e = walk_torn t i w (omega (arith, ltb-false stop (length text) e))

  pub walk_other : (t i : ℕ) → Walked t i → i < length text → is_digit (slice_index text i) ≡ false → slice_index text i ≢ 10
      → 0 ≡ time_front (drop at text)
  walk_other t i w h e f =
      let n = rw e at (digits_at text i h) in
      let l = rw (ne_eqb (slice_index text i) 10 f) at (before_at 10 text i h) in
      time_none (omega (arith, w.begun)) (λ d. omega (arith, d.whole, w.line, w.digits, n, l))

  -- a time line is walked up to its line feed
  timed_at : at < length text → 0 < time_front (drop at text)
      → Timed (slice_index text at) (drop (at + 1) text) (time_front (slice_index text at ∷ drop (at + 1) text))
  timed_at h p = time_some (slice_index text at) (drop (at + 1) text) (rw (drop_one text at h) at p)

  pub walk_inside : (t i : ℕ) → Walked t i → at < length text → 0 < time_front (drop at text) → (i < length text) × (i ≤ at + 6)
  walk_inside t i w h p =
      let d = timed_at h p in
      (omega (arith, d.ended, w.line, w.begun, length-drop (at + 1) text), omega (arith, d.few, w.line, w.begun))

  pub walk_digit : (t i : ℕ) → Walked t i → at < length text → 0 < time_front (drop at text) → slice_index text i ≢ 10
      → is_digit (slice_index text i) ≡ true
  walk_digit t i w h p f = go (is_digit (slice_index text i)) refl
    where
      go : (b : Bool) → is_digit (slice_index text i) ≡ b → is_digit (slice_index text i) ≡ true
      go true e = e
      go false e = absurd (omega (arith, p, walk_other t i w (walk_inside t i w h p).0 e f))

  -- the first digit
  first_at : slice_index_or (drop (at + 1) text) 0 0 ≡ slice_index text (at + 1)
  first_at = let z : at + 1 + 0 ≡ at + 1 = omega arith in get_or-drop (at + 1) text 0 0 ∙ ap (λ (j : ℕ). slice_index text j) z

  pub walk_padded : at < length text → slice_index text (at + 1) ≡ 48 → 0 ≡ time_front (drop at text)
  walk_padded h e = time_none h (λ d. d.proper (first_at ∙ e))

  -- the line feed
  pub walk_end : (t i : ℕ) → Walked t i → i < length text → i ≤ at + 6 → slice_index text at ≡ 35 → slice_index text (at + 1) ≢ 48
      → slice_index text i ≡ 10 → (t ≡ time_front (drop at text)) × (i ≡ at + before 10 (drop at text))
  walk_end t i w h k m p e = (
    rw (drop_one text at (omega (arith, w.begun))) (go (i == at + 1) refl),
    omega (arith, ahead, l, w.line, w.begun),
  )
    where
      l : before 10 (drop i text) ≡ 0
      l = rw (eq-eqb (slice_index text i) 10 e) at (before_at 10 text i h)

      n : digits_in (drop i text) ≡ 0
      n = rw (low_byte (slice_index text i) (omega (arith, e))) at (digits_at text i h)

      v : value_from t (drop i text) ≡ t
      v = rw (low_byte (slice_index text i) (omega (arith, e))) at (value_at t text i h)

      mark : slice_index_or text at 0 ≢ 10
      mark = omega (arith, m)

      ahead : before 10 (drop at text) ≡ 1 + before 10 (drop (at + 1) text)
      ahead = rw (ne_eqb (slice_index text at) 10 mark) at (before_at 10 text at (omega (arith, w.begun)))

      none : t ≡ 0 → i ≡ at + 1 → t ≡ time_front (slice_index text at ∷ drop (at + 1) text)
      none z o = z ∙ rw (← drop_one text at (omega (arith, w.begun))) (time_none (omega (arith, w.begun)) (λ d. omega (arith, d.some, w.line, l)))

      go : (b : Bool) → (i == at + 1) ≡ b → t ≡ time_front (slice_index text at ∷ drop (at + 1) text)
      go true o =
          let q = eqb-true i (at + 1) o in
          let z : i - (at + 1) ≡ 0 = omega arith in
          none (omega (arith, rw z at w.small)) q
      go false o =
          let q = eqb-false i (at + 1) o in
          sym (time_made (slice_index text at) (drop (at + 1) text) m (λ z. p (sym first_at ∙ z)) (omega (arith, w.digits, w.line, l, n)) (omega (arith, w.line, l, w.begun, q)) (omega (arith, w.line, l)) (omega (arith, w.line, l, w.begun, length-drop (at + 1) text)) ∙ sym w.value ∙ v)

pub walk_known : (text : List ℕ) (at t i : ℕ) → Walked text at t i → at < length text → 0 < time_front (drop at text)
    → slice_index text i ≡ 10 → (t ≡ time_front (drop at text)) × (i ≡ at + before 10 (drop at text))
walk_known text at t i w h p e =
    let d = timed_at text at h p in
    let n = walk_inside text at t i w h p in
    walk_end text at t i w n.0 n.1 d.mark (λ z. d.proper (first_at text at ∙ z)) e

-- a time line that was read: its time, and where the next line begins
pub record Stamped (text : List ℕ) (at : ℕ) (s : Time) : Type 0 where
  pub told : s.value ≡ time_front (drop at text)
  pub next : (s.behind ≡ at + before 10 (drop at text) + 1) × (s.behind ≤ length text)

-- what stands there: no time line, or one
abbrev pub TimeAt : List ℕ → ℕ → Option Time → Type 0
TimeAt text at None = 0 ≡ time_front (drop at text)
TimeAt text at (Some s) = Stamped text at s

-- ---- a change line

-- whether the line at the front is one
unfoldable pub change_front : ℕ → List ℕ → List ℕ → Bool
change_front n bits l = if nat_lt (before 10 l) (length l) then is_change n bits (take (before 10 l) l) else false

-- what it has: three bytes, the last a line feed; the second names a cell, the first has the turned bit
pub record Changed (n : ℕ) (bits l : List ℕ) : Type 0 where
  pub two : before 10 l ≡ 2
  pub ended : 2 < length l
  pub feed : slice_index_or l 2 0 ≡ 10
  pub code : 33 ≤ slice_index l 1
  pub within : slice_index_or l 1 0 - 33 < n
  pub bit : slice_index_or l 0 0 ≡ 48 + turned (slice_index bits (slice_index l 1 - 33))

change_some : (n : ℕ) (bits l : List ℕ) → change_front n bits l ≡ true → Changed n bits l
unfolding change_front is_change bit_line cell_in
change_some n bits l e =
    let x : List ℕ = take (before 10 l) l in
    let p = nested (nat_lt (before 10 l) (length l)) (is_change n bits x) e in
    let inside = ltb-true (before 10 l) (length l) p.0 in
    let q = nested (nat_lt (cell_in x) n) (same x (bit_line (turned (slice_index bits (cell_in x))) (cell_in x))) p.1 in
    let s = same_true x (bit_line (turned (slice_index bits (cell_in x))) (cell_in x)) q.1 in
    let two : before 10 l ≡ 2 = sym (length-take-le (before 10 l) l (before_within l)) ∙ ap length s in
    let first : slice_index_or x 0 0 ≡ slice_index_or l 0 0 = get_or-take (before 10 l) l 0 0 (omega arith) in
    let second : slice_index_or x 1 0 ≡ slice_index_or l 1 0 = get_or-take (before 10 l) l 1 0 (omega arith) in
    let b = ap (λ (o : List ℕ). slice_index o 0) s in
    let c = ap (λ (o : List ℕ). slice_index o 1) s in
    record {
      two = two;
      ended = omega arith;
      feed = rw two at (feed_at l inside);
      code = omega (arith, c, second);
      within = rw second at (ltb-true (cell_in x) n q.0);
      bit = sym first ∙ b ∙ rw second;
    }

change_made : (n : ℕ) (bits l : List ℕ) → 2 < length l → slice_index l 2 ≡ 10 → 33 ≤ slice_index l 1 → slice_index l 1 - 33 < n
    → slice_index l 0 ≡ 48 + turned (slice_index bits (slice_index l 1 - 33)) → change_front n bits l ≡ true
unfolding change_front is_change cell_in before
change_made n bits [] h f c w b = absurd (omega arith)
change_made n bits (x ∷ []) h f c w b = absurd (omega arith)
change_made n bits (x ∷ y ∷ []) h f c w b = absurd (omega arith)
change_made n bits (x ∷ y ∷ z ∷ l) h f c w b =
    let p : x ≢ 10 = omega arith in
    let q : y ≢ 10 = omega arith in
    let o : y ≡ 33 + (y - 33) = omega arith in
    rw (ne_eqb x 10 p, ne_eqb y 10 q, eq-eqb z 10 f, lt-ltb 2 (suc (suc (suc (length l)))) (omega arith), lt-ltb (y - 33) n w, same_bit (x ∷ y ∷ []) (turned (slice_index bits (y - 33))) (y - 33) refl, eq-eqb x _ b) (eq-eqb y (33 + (y - 33)) o)

-- the line from `at` on
module _ (text : List ℕ) (at n : ℕ) (bits : List ℕ) where
  at_first : slice_index_or (drop at text) 0 0 ≡ slice_index text at
  at_first = let z : at + 0 ≡ at = omega arith in get_or-drop at text 0 0 ∙ ap (λ (j : ℕ). slice_index text j) z

  change_none : (Changed n bits (drop at text) → ⊥) → false ≡ change_front n bits (drop at text)
  change_none f = go (change_front n bits (drop at text)) refl
    where
      go : (t : Bool) → change_front n bits (drop at text) ≡ t → false ≡ t
      go true e = absurd (f (change_some n bits (drop at text) e))
      go false e = refl

  pub change_short : length text - at < 3 → false ≡ change_front n bits (drop at text)
  change_short h = change_none (λ d. omega (arith, d.ended, length-drop at text))

  pub change_long : slice_index_or text (at + 2) 0 ≢ 10 → false ≡ change_front n bits (drop at text)
  change_long h = change_none (λ d. h (sym (get_or-drop at text 2 0) ∙ d.feed))

  pub change_beyond : (cell : ℕ) → (cell + 33) % 2 ^ 64 ≡ slice_index text (at + 1) → cell < 2 ^ 64 → n ≤ cell
      → false ≡ change_front n bits (drop at text)
  change_beyond cell e f h = change_none (λ d. omega (arith, d.code, d.within, get_or-drop at text 1 0))

  pub change_is : 3 ≤ length text - at → slice_index text (at + 2) ≡ 10 → 33 ≤ slice_index text (at + 1) → slice_index text (at + 1) - 33 < n
      → (slice_index text at == 48 + turned (slice_index bits (slice_index text (at + 1) - 33))) ≡ change_front n bits (drop at text)
  change_is h f c w = go (slice_index text at == 48 + turned (slice_index bits (slice_index text (at + 1) - 33))) refl
    where
      second : slice_index_or (drop at text) 1 0 ≡ slice_index text (at + 1)
      second = get_or-drop at text 1 0

      go : (t : Bool) → (slice_index text at == 48 + turned (slice_index bits (slice_index text (at + 1) - 33))) ≡ t → t ≡ change_front n bits (drop at text)
      go true e = sym (change_made n bits (drop at text) (omega (arith, length-drop at text)) (get_or-drop at text 2 0 ∙ f) (omega (arith, second)) (omega (arith, second)) (at_first ∙ eqb-true _ _ e ∙ rw second))
      go false e = change_none (λ d. eqb-false _ _ e (sym at_first ∙ d.bit ∙ rw second))

  -- what it tells
  pub change_told : change_front n bits (drop at text) ≡ true
      → (before 10 (drop at text) ≡ 2) × (at + 3 ≤ length text) × (33 ≤ slice_index text (at + 1)) × (slice_index text (at + 1) - 33 < n) × (cell_in (take (before 10 (drop at text)) (drop at text)) ≡ slice_index text (at + 1) - 33) × (is_change n bits (take (before 10 (drop at text)) (drop at text)) ≡ true)
  unfolding change_front cell_in
  change_told e =
      let d = change_some n bits (drop at text) e in
      let second = get_or-drop at text 1 0 in
      let x = get_or-take (before 10 (drop at text)) (drop at text) 1 0 (omega (arith, d.two)) in
      (d.two, omega (arith, d.ended, length-drop at text), omega (arith, d.code, second), omega (arith, d.within, second), rw (x, second), (nested (nat_lt (before 10 (drop at text)) (length (drop at text))) (is_change n bits (take (before 10 (drop at text)) (drop at text))) e).1)
