-- What the reader accepts is, byte for byte, the dump of what it gave.
use Rattle.std.specs.Prelude.{ℕ, zero, suc, ◌+◌, ◌*◌, ◌-◌, ◌≤◌, ◌<◌, ◌≡◌, refl, List, ◌∷◌, Bool, true, false, eqb, ltb, leb, length, get_or, if◌then◌else◌, Ok, Err, [], Some, None}
use Rattle.std.proofs.Common.{sym, ap, ◌∙◌, arith, lt-ltb, ltb-true, ltb-false}
use Rattle.wave_rules.specs.Lines.{Items, finish, torn, line, split_of, same}
use Rattle.wave_theory.specs.Texts.{items_of, text_of, text_split, text_items}
use Rattle.wave_rules.proofs.Stages.{both_numbers, bad_not, nested, time_later, idle_length, same_true}
use Rattle.wave_rules.specs.Dump.{no_bits, turns, turned, changes_of, flip_of, timescale, scope_line, var_line, upscope, end_line, time_line, bit_line, each_of, vars_of, first_of, body_of, middle_of, lines_of, dump_of, Dumpable}
use Rattle.wave_rules.specs.declared.Stage.{Stage}
use Rattle.wave_rules.specs.declared.Stage.TheVariants.{Opening, Scope, Variables, Ending, Start, Values, Waiting, Changing}
use Rattle.wave_rules.specs.Reader.{Verdict, time_in, cell_in, after_variable, after_value, is_time, is_change, unless, verdict_of, idle, kind_for, script_words_of, read, reading_of, read_of}
use Rattle.wave_theory.specs.Round.{still}

-- ---- what a line was

pub record TimeRead (last : ℕ) (x : List ℕ) : Type 0 where
  pub later : last < time_in x
  pub early : time_in x ≤ 32768
  pub is : x ≡ time_line (time_in x)

time_read : (last : ℕ) (x : List ℕ) → is_time last x ≡ true → TimeRead last x
unfolding is_time
time_read last x e =
    let l = time_later last x e in
    let p = nested (ltb last (time_in x)) (if leb (time_in x) 32768 then same x (time_line (time_in x)) else false) e in
    let q = nested (leb (time_in x) 32768) (same x (time_line (time_in x))) p.1 in
    record { later = l.0; early = l.1; is = same_true x (time_line (time_in x)) q.1 }

pub record ChangeRead (n : ℕ) (bits x : List ℕ) : Type 0 where
  pub within : cell_in x < n
  pub is : x ≡ bit_line (turned (get_or bits (cell_in x) 0)) (cell_in x)

change_read : (n : ℕ) (bits x : List ℕ) → is_change n bits x ≡ true → ChangeRead n bits x
unfolding is_change
change_read n bits x e =
    let p = nested (ltb (cell_in x) n) (same x (bit_line (turned (get_or bits (cell_in x) 0)) (cell_in x))) e in
    record { within = ltb-true (cell_in x) n p.0; is = same_true x (bit_line (turned (get_or bits (cell_in x) 0)) (cell_in x)) p.1 }

-- ---- a line that was accepted

-- one test, and one stage behind it
chosen : (b : Bool) (s : Stage) (k n last : ℕ) (bits : List ℕ) (r : Items)
    → unless (if b then Some s else None) (Err k) (λ t. verdict_of (k + 1) t bits r) ≡ Ok (n, last)
    → (b ≡ true) × (verdict_of (k + 1) s bits r ≡ Ok (n, last))
chosen true s k n last bits r e = (refl, e)
chosen false s k n last bits r e = bad_not e

-- ---- the changes

-- steps that only count have no lines
body_idle : (g n t : ℕ) (bits w : List ℕ) → body_of n t bits (idle g w) ≡ body_of n (t + g) bits w
unfolding body_of idle
body_idle zero n t bits w = let e : t ≡ t + 0 = omega arith in ap (λ (i : ℕ). body_of n i bits w) e
body_idle (suc g) n t bits w = let e : t + 1 + g ≡ t + suc g = omega arith in rw (still n bits, body_idle g n (t + 1) bits w, e)

changes_so : (n : ℕ) (bits : List ℕ) (c : ℕ) → c < n → changes_of n bits (kind_for (get_or bits c 0)) c ≡ true
unfolding changes_of turns
changes_so n bits c h = rw (lt-ltb c n h) (go (eqb (get_or bits c 0) 0))
  where
    go : (b : Bool) → (if b then eqb (if b then 1 else 2) 1 else eqb (if b then 1 else 2) 2) ≡ true
    go true = refl
    go false = refl

-- a change after last, at t
body_change : (n last t c : ℕ) (bits w : List ℕ) → last < t → c < n
    → items_of (body_of n (last + 1) bits (idle (t - (last + 1)) (kind_for (get_or bits c 0) ∷ c ∷ 0 ∷ w)))
    ≡ line (time_line t) (line (bit_line (turned (get_or bits c 0)) c) (items_of (body_of n (t + 1) (flip_of bits c) w)))
unfolding items_of body_of
body_change n last t c bits w h k =
    let e : last + 1 + (t - (last + 1)) ≡ t = omega arith in
    rw (body_idle (t - (last + 1)) n (last + 1) bits (kind_for (get_or bits c 0) ∷ c ∷ 0 ∷ w), e, changes_so n bits c k)

-- the words of a time line and its change
words_change : (n last : ℕ) (bits x y : List ℕ) (r : Items) → is_time last x ≡ true → is_change n bits y ≡ true
    → script_words_of (Waiting n last) bits (line x (line y r)) ≡ idle (time_in x - (last + 1)) (kind_for (get_or bits (cell_in y) 0) ∷ cell_in y ∷ 0 ∷ script_words_of (Waiting n (time_in x)) (flip_of bits (cell_in y)) r)
unfolding script_words_of
words_change n last bits x y r e f = rw (e, f)

-- what was read from here on, and what it is the text of
pub record Image (n last : ℕ) (bits : List ℕ) (r : Items) (m e : ℕ) (w : List ℕ) : Type 0 where
  pub cells : m ≡ n
  pub early : e ≤ 32768
  pub size : length w + 3 * last ≡ 3 * e
  pub is : r ≡ items_of (body_of n (last + 1) bits w)

image_body : (r : Items) (k n last m e : ℕ) (bits : List ℕ) → last ≤ 32768
    → verdict_of k (Waiting n last) bits r ≡ Ok (m, e) → Image n last bits r m e (script_words_of (Waiting n last) bits r)
unfolding verdict_of script_words_of body_of items_of
image_body finish k n last m e bits h v = let z = both_numbers n last m e v in record { cells = sym z.0; early = omega (arith, z.1); size = omega (arith, z.1); is = refl }
image_body (torn x) k n last m e bits h v = bad_not v
image_body (line x finish) k n last m e bits h v = bad_not (chosen (is_time last x) (Changing n last (time_in x)) k m e bits finish v).1
image_body (line x (torn y)) k n last m e bits h v = bad_not (chosen (is_time last x) (Changing n last (time_in x)) k m e bits (torn y) v).1
image_body (line x (line y r)) k n last m e bits h v =
    let a = chosen (is_time last x) (Changing n last (time_in x)) k m e bits (line y r) v in
    let b = chosen (is_change n bits y) (Waiting n (time_in x)) (k + 1) m e (flip_of bits (cell_in y)) r a.1 in
    let t = time_read last x a.0 in
    let c = change_read n bits y b.0 in
    let i = image_body r (k + 1 + 1) n (time_in x) m e (flip_of bits (cell_in y)) t.early b.1 in
    rw (words_change n last bits x y r a.0 b.0) (go t c i)
  where
    go : TimeRead last x → ChangeRead n bits y
        → Image n (time_in x) (flip_of bits (cell_in y)) r m e (script_words_of (Waiting n (time_in x)) (flip_of bits (cell_in y)) r)
        → Image n last bits (line x (line y r)) m e (idle (time_in x - (last + 1)) (kind_for (get_or bits (cell_in y) 0) ∷ cell_in y ∷ 0 ∷ script_words_of (Waiting n (time_in x)) (flip_of bits (cell_in y)) r))
    go t c i =
        let w : List ℕ = script_words_of (Waiting n (time_in x)) (flip_of bits (cell_in y)) r in
        let f = body_change n last (time_in x) (cell_in y) bits w t.later c.within in
        record { cells = i.cells; early = i.early; size = omega (arith, i.size, t.later, idle_length (time_in x - (last + 1)) (kind_for (get_or bits (cell_in y) 0) ∷ cell_in y ∷ 0 ∷ w)); is = cc (t.is, c.is, i.is, f) }

-- ---- the head

-- what was read from a place in the head, and what it is the text of
pub record Headed (r : Items) (m e : ℕ) (w : List ℕ) (ls : List (List ℕ)) : Type 0 where
  pub early : e ≤ 32768
  pub size : length w ≡ 3 * e
  pub is : r ≡ items_of ls

image_values : (r : Items) (k n c m e : ℕ) (bits : List ℕ) → c < n → verdict_of k (Values n c) bits r ≡ Ok (m, e)
    → (m ≡ n) × Headed r m e (script_words_of (Values n c) bits r) (first_of c (n - c) (body_of n 1 bits (script_words_of (Values n c) bits r)))
unfolding verdict_of script_words_of items_of after_value each_of
image_values finish k n c m e bits h v = bad_not v
image_values (torn x) k n c m e bits h v = bad_not v
image_values (line x r) k n c m e bits h v =
    let s : Stage = if ltb (c + 1) n then Values n (c + 1) else Waiting n 0 in
    let a = chosen (same x (bit_line 0 c)) s k m e bits r v in
    rw a.0 (go (ltb (c + 1) n) refl (same_true x (bit_line 0 c) a.0) (λ l u. image_values r (k + 1) n (c + 1) m e bits l u) a.1)
  where
    go : (b : Bool) → ltb (c + 1) n ≡ b → x ≡ bit_line 0 c
        → (c + 1 < n → verdict_of (k + 1) (Values n (c + 1)) bits r ≡ Ok (m, e)
        → (m ≡ n) × Headed r m e (script_words_of (Values n (c + 1)) bits r) (first_of (c + 1) (n - (c + 1)) (body_of n 1 bits (script_words_of (Values n (c + 1)) bits r))))
        → verdict_of (k + 1) (if b then Values n (c + 1) else Waiting n 0) bits r ≡ Ok (m, e)
        → (m ≡ n) × Headed (line x r) m e (script_words_of (if b then Values n (c + 1) else Waiting n 0) bits r) (first_of c (n - c) (body_of n 1 bits (script_words_of (if b then Values n (c + 1) else Waiting n 0) bits r)))
    go true p q f u =
        let i = f (ltb-true (c + 1) n p) u in
        let z : n - c ≡ suc (n - (c + 1)) = omega (arith, h) in
        (i.0, record { early = i.1.early; size = i.1.size; is = rw z (cc (q, i.1.is)) })
    go false p q f u =
        let i = image_body r (k + 1) n 0 m e bits (omega arith) u in
        let z : n - c ≡ suc 0 = omega (arith, ltb-false (c + 1) n p) in
        (i.cells, record { early = i.early; size = omega (arith, i.size); is = rw z (cc (q, i.is)) })

image_ending : (r : Items) (k n m e : ℕ) (bits : List ℕ) → 0 < n → verdict_of k (Ending n) bits r ≡ Ok (m, e)
    → (m ≡ n) × Headed r m e (script_words_of (Ending n) bits r) (end_line ∷ time_line 0 ∷ first_of 0 n (body_of n 1 bits (script_words_of (Ending n) bits r)))
unfolding verdict_of script_words_of items_of
image_ending finish k n m e bits h v = bad_not v
image_ending (torn x) k n m e bits h v = bad_not v
image_ending (line x finish) k n m e bits h v = bad_not (chosen (same x end_line) (Start n) k m e bits finish v).1
image_ending (line x (torn y)) k n m e bits h v = bad_not (chosen (same x end_line) (Start n) k m e bits (torn y) v).1
image_ending (line x (line y r)) k n m e bits h v =
    let a = chosen (same x end_line) (Start n) k m e bits (line y r) v in
    let b = chosen (same y (time_line 0)) (Values n 0) (k + 1) m e bits r a.1 in
    let i = image_values r (k + 1 + 1) n 0 m e bits h b.1 in
    let z : n - 0 ≡ n = omega arith in
    let j = rw z at i.1.is in
    rw (a.0, b.0) (i.0, record { early = i.1.early; size = i.1.size; is = cc (same_true x end_line a.0, same_true y (time_line 0) b.0, j) })

pub record Varied (n : ℕ) (r : Items) (m e : ℕ) (w : List ℕ) (ls : List (List ℕ)) : Type 0 where
  pub some : 1 ≤ m
  pub few : m ≤ 94
  pub least : n ≤ m
  pub headed : Headed r m e w ls

image_vars : (r : Items) (k n m e : ℕ) (bits : List ℕ) → n ≤ 94 → verdict_of k (Variables n) bits r ≡ Ok (m, e)
    → Varied n r m e (script_words_of (Variables n) bits r) (vars_of n (m - n) (middle_of m (body_of m 1 bits (script_words_of (Variables n) bits r))))
unfolding verdict_of script_words_of items_of after_variable each_of middle_of
image_vars finish k n m e bits h v = bad_not v
image_vars (torn x) k n m e bits h v = bad_not v
image_vars (line x r) k n m e bits h v =
    go (if ltb n 94 then same x (var_line n) else false) (if ltb 0 n then same x upscope else false) refl refl (λ l u. image_vars r (k + 1) (n + 1) m e bits l u) v
  where
    go : (a b : Bool) → (if ltb n 94 then same x (var_line n) else false) ≡ a
        → (if ltb 0 n then same x upscope else false) ≡ b
        → (n + 1 ≤ 94 → verdict_of (k + 1) (Variables (n + 1)) bits r ≡ Ok (m, e)
        → Varied (n + 1) r m e (script_words_of (Variables (n + 1)) bits r) (vars_of (n + 1) (m - (n + 1)) (middle_of m (body_of m 1 bits (script_words_of (Variables (n + 1)) bits r)))))
        → unless (if a then Some (Variables (n + 1)) else if b then Some (Ending n) else None) (Err k) (λ t. verdict_of (k + 1) t bits r) ≡ Ok (m, e)
        → Varied n (line x r) m e (unless (if a then Some (Variables (n + 1)) else if b then Some (Ending n) else None) [] (λ t. script_words_of t bits r)) (vars_of n (m - n) (middle_of m (body_of m 1 bits (unless (if a then Some (Variables (n + 1)) else if b then Some (Ending n) else None) [] (λ t. script_words_of t bits r)))))
    go true b p q f u =
        let t = nested (ltb n 94) (same x (var_line n)) p in
        let i = f (omega (arith, ltb-true n 94 t.0)) u in
        let z : m - n ≡ suc (m - (n + 1)) = omega (arith, i.least) in
        record { some = i.some; few = i.few; least = omega (arith, i.least); headed = record { early = i.headed.early; size = i.headed.size; is = rw z (cc (same_true x (var_line n) t.1, i.headed.is)) } }
    go false true p q f u =
        let t = nested (ltb 0 n) (same x upscope) q in
        let i = image_ending r (k + 1) n m e bits (ltb-true 0 n t.0) u in
        let y : m ≡ n = i.0 in
        let z : m - n ≡ 0 = omega arith in
        let g : line x r ≡ items_of (middle_of n (body_of n 1 bits (script_words_of (Ending n) bits r))) = cc (same_true x upscope t.1, i.1.is) in
        record { some = omega (arith, ltb-true 0 n t.0); few = omega arith; least = omega arith; headed = record { early = i.1.early; size = i.1.size; is = rw (z, y) g } }
    go false false p q f u = bad_not u

-- ---- the whole

-- the lines that are accepted are those of a dump
pub image_lines : (r : Items) (m e : ℕ) (bits : List ℕ) → bits ≡ no_bits → verdict_of 1 Opening bits r ≡ Ok (m, e)
    → (Dumpable m (script_words_of Opening bits r)) × (r ≡ items_of (lines_of m (script_words_of Opening bits r))) × (length (script_words_of Opening bits r) ≡ 3 * e)
unfolding verdict_of script_words_of items_of lines_of
image_lines finish m e bits o v = bad_not v
image_lines (torn x) m e bits o v = bad_not v
image_lines (line x finish) m e bits o v = bad_not (chosen (same x timescale) Scope 1 m e bits finish v).1
image_lines (line x (torn y)) m e bits o v = bad_not (chosen (same x timescale) Scope 1 m e bits (torn y) v).1
image_lines (line x (line y r)) m e bits o v =
    let a = chosen (same x timescale) Scope 1 m e bits (line y r) v in
    let b = chosen (same y scope_line) (Variables 0) 2 m e bits r a.1 in
    let i = image_vars r 3 0 m e bits (omega arith) b.1 in
    let z : m - 0 ≡ m = omega arith in
    let j = rw (z, o) at i.headed.is in
    rw (o, a.0, b.0) (record { some = i.some; few = i.few; whole = omega (arith, rw o at i.headed.size); short = omega (arith, rw o at i.headed.size, i.headed.early) }, cc (same_true x timescale a.0, same_true y scope_line b.0, j), rw o at i.headed.size)

-- a text that is accepted is the dump of what was read
pub image : (text : List ℕ) (n : ℕ) (script : List ℕ) → read_of text ≡ read n script
    → (Dumpable n script) × (dump_of n script ≡ text)
unfolding read_of dump_of
image text n script = go (verdict_of 1 Opening no_bits (split_of text)) refl
  where
    go : (v : Verdict) → verdict_of 1 Opening no_bits (split_of text) ≡ v
        → reading_of v (script_words_of Opening no_bits (split_of text)) ≡ read n script
        → (Dumpable n script) × (dump_of n script ≡ text)
    go (Err k) e f = let w : ◌≡◌ {A = ℕ} 0 1 = cc in absurd (omega arith)
    go (Ok (m, l)) e f =
        let i = image_lines (split_of text) m l no_bits refl e in
        let p : m ≡ n = cc in
        let q : script_words_of Opening no_bits (split_of text) ≡ script = cc in
        let d : Dumpable n script = rw (p, q) at i.0 in
        let s : split_of text ≡ items_of (lines_of n script) = cc i.1 in
        (d, sym (text_items (lines_of n script)) ∙ ap text_of (sym s) ∙ text_split text)
