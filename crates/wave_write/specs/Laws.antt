-- Laws of lines put into a run, and of their lengths.
use Rattle.std.specs.Prelude.{ℕ, zero, suc, ◌+◌, ◌*◌, ◌-◌, ◌≤◌, ◌<◌, ◌≡◌, refl, List, [], ◌∷◌, ◌++◌, Bool, true, false, eqb, length, get_or, drop, if◌then◌else◌, set, replicate, Result, Ok, ltb}
use Rattle.io.specs.Digits.{last_digits}
use Rattle.std.proofs.lemmas.List.{length-replicate, drop-set}
use Rattle.std.proofs.Common.{drop_of_length-le, sym, ap, ◌∙◌, append_assoc, arith, length-append, length-drop, eqb-true}
use Rattle.std.proofs.lemmas.List.Edits.{sets}
use Rattle.choice.specs.Lists.{drop_three}
use Rattle.choice.specs.Pick.{if_both}
use Rattle.print.specs.Print.{put_of}
use Rattle.print.specs.Laws.{put_none, put_join, put_place}
use Rattle.text.specs.Decimal.{digit_count_in, digit_count, decimal_of, length_decimal, digit_count_most, digit_count_few}
use Rattle.wave_rules.specs.Lines.{joined}
use Rattle.wave_rules.specs.Dump.{no_bits, turns, turned, changes_of, flip_of, timescale, scope_line, upscope, end_line, time_line, bit_line, var_line, each_of, vars_of, first_of, body_of, middle_of, lines_of, dump_of}
use Rattle.wave_rules.specs.declared.WriteRefusal.{WriteRefusal}
use Rattle.wave_write.specs.Writer.{wanted_of, flipped_of, step_of, weigh_of, head_of}

-- ---- lines

pub put_size : (l m : List ℕ) (i j : ℕ) (x y : List ℕ) → put_of l i x ≡ put_of m j y → i + length x ≡ j + length y
unfolding put_of
put_size l m i j x y e = ap (λ (o : ℕ × List ℕ). o.0) e

pub joined_line : (x : List ℕ) (ls : List (List ℕ)) → joined (x ∷ ls) ≡ joined (x ∷ []) ++ joined ls
unfolding joined
joined_line x ls = sym (append_assoc x (10 ∷ []) (joined ls))

pub length_line : (x : List ℕ) (ls : List (List ℕ)) → length (joined (x ∷ ls)) ≡ length x + 1 + length (joined ls)
unfolding joined
length_line x ls = omega (arith, length-append x (10 ∷ joined ls))

-- a line is put, and the rest is left to put
put_line : (l m : List ℕ) (i j : ℕ) (x : List ℕ) (ls : List (List ℕ)) → (j, m) ≡ put_of l i (joined (x ∷ []))
    → put_of m j (joined ls) ≡ put_of l i (joined (x ∷ ls))
put_line l m i j x ls e = rw (joined_line x ls) (put_join l m (put_of m j (joined ls)).1 i j (put_of m j (joined ls)).0 (joined (x ∷ [])) (joined ls) e refl)

pub length_time : (t : ℕ) → length (time_line t) ≡ 1 + digit_count t
unfolding time_line
length_time t = omega (arith, length_decimal t)

pub length_bit : (bit c : ℕ) → length (bit_line bit c) ≡ 2
unfolding bit_line
length_bit bit c = refl

pub length_var : (c : ℕ) → length (var_line c) ≡ 20 + digit_count c
unfolding var_line
length_var c = omega (arith, length-append (decimal_of c) (32 ∷ 36 ∷ 101 ∷ 110 ∷ 100 ∷ []), length_decimal c)

each_at : (line_for : ℕ → List ℕ) (n c : ℕ) (ls : List (List ℕ)) → c < n
    → each_of line_for c (n - c) ls ≡ line_for c ∷ each_of line_for (c + 1) (n - (c + 1)) ls
unfolding each_of
each_at line_for n c ls h = let e : n - c ≡ suc (n - (c + 1)) = omega arith in rw e

pub each_end : (line_for : ℕ → List ℕ) (n c : ℕ) (ls : List (List ℕ)) → n ≤ c → each_of line_for c (n - c) ls ≡ ls
unfolding each_of
each_end line_for n c ls h = let e : n - c ≡ 0 = omega arith in rw e

-- no lines
pub put_nothing : (l : List ℕ) (i : ℕ) → (i, l) ≡ put_of l i (joined [])
unfolding joined
put_nothing l i = put_none l i

-- ---- a loop over cells: one turn, and its room

pub from_none : (n : ℕ) → n - 0 ≡ n
from_none n = omega arith

pub each_turn : (line_for : ℕ → List ℕ) (l m : List ℕ) (i j n c : ℕ) → c < n → (j, m) ≡ put_of l i (joined (line_for c ∷ []))
    → put_of m j (joined (each_of line_for (c + 1) (n - (c + 1)) [])) ≡ put_of l i (joined (each_of line_for c (n - c) []))
each_turn line_for l m i j n c h e = rw (each_at line_for n c [] h) (put_line l m i j (line_for c) (each_of line_for (c + 1) (n - (c + 1)) []) e)

pub each_room : (line_for : ℕ → List ℕ) (l m : List ℕ) (i j n c : ℕ) (y : List ℕ) → c < n
    → put_of l i (joined (each_of line_for c (n - c) [])) ≡ put_of m j y → i + length (line_for c) + 1 ≤ j + length y
each_room line_for l m i j n c y h e =
    let s = put_size l m i j (joined (each_of line_for c (n - c) [])) y e in
    omega (arith, s, ap (λ (ls : List (List ℕ)). length (joined ls)) (each_at line_for n c [] h), length_line (line_for c) (each_of line_for (c + 1) (n - (c + 1)) []))

-- ---- a step

-- what the answer of a flip says
turn_is : (n : ℕ) (bits o : List ℕ) (kind cell : ℕ) (r : Bool) → (r, o) ≡ flipped_of n bits kind cell
    → (changes_of n bits kind cell ≡ r) × (o ≡ (if r then flip_of bits cell else bits))
unfolding flipped_of
turn_is n bits o kind cell r = go (changes_of n bits kind cell)
  where
    go : (b : Bool) → ◌≡◌ {A = Bool × List ℕ} (r, o) (if b then (true, flip_of bits cell) else (false, bits))
        → (b ≡ r) × (o ≡ (if r then flip_of bits cell else bits))
    go true e = let p : r ≡ true = ap (λ (x : Bool × List ℕ). x.0) e in rw p (refl, ap (λ (x : Bool × List ℕ). x.1) e)
    go false e = let p : r ≡ false = ap (λ (x : Bool × List ℕ). x.0) e in rw p (refl, ap (λ (x : Bool × List ℕ). x.1) e)

pub turn_true : (n : ℕ) (bits o : List ℕ) (kind cell : ℕ) (r : Bool) → r ≡ true → (r, o) ≡ flipped_of n bits kind cell
    → (changes_of n bits kind cell ≡ true) × (o ≡ flip_of bits cell)
turn_true n bits o kind cell r h e = rw h at (turn_is n bits o kind cell r e)

pub turn_false : (n : ℕ) (bits o : List ℕ) (kind cell : ℕ) (r : Bool) → r ≡ false → (r, o) ≡ flipped_of n bits kind cell
    → (changes_of n bits kind cell ≡ false) × (o ≡ bits)
turn_false n bits o kind cell r h e = rw h at (turn_is n bits o kind cell r e)

-- the bit that was turned is the one that the step wants
pub wanted_is : (kind bit : ℕ) → turns kind bit ≡ true → wanted_of kind ≡ turned bit
unfolding turns wanted_of
wanted_is kind bit = go (eqb bit 0)
  where
    go : (z : Bool) → (if z then eqb kind 1 else eqb kind 2) ≡ true
        → ◌≡◌ {A = ℕ} (if eqb kind 1 then 1 else 0) (if z then 1 else 0)
    go true e = rw e
    go false e = rw (eqb-true kind 2 e)

pub wanted_few : (kind : ℕ) → wanted_of kind ≤ 1
unfolding wanted_of
wanted_few kind = if_both (λ (n : ℕ). n ≤ 1) (eqb kind 1) (omega arith) (omega arith)

change_size : (t bit cell : ℕ) (ls : List (List ℕ))
    → length (joined (time_line t ∷ bit_line bit cell ∷ ls)) ≡ digit_count t + 5 + length (joined ls)
change_size t bit cell ls = omega (arith, length_line (time_line t) (bit_line bit cell ∷ ls), length_line (bit_line bit cell) ls, length_time t, length_bit bit cell)

-- two lines are put, and the rest is left to put
put_two : (l m : List ℕ) (i j : ℕ) (x y : List ℕ) (ls : List (List ℕ)) → (j, m) ≡ put_of l i (joined (x ∷ y ∷ []))
    → put_of m j (joined ls) ≡ put_of l i (joined (x ∷ y ∷ ls))
put_two l m i j x y ls e =
    let p : joined (x ∷ y ∷ ls) ≡ joined (x ∷ y ∷ []) ++ joined ls = joined_line x (y ∷ ls) ∙ ap (λ (o : List ℕ). joined (x ∷ []) ++ o) (joined_line y ls) ∙ sym (append_assoc (joined (x ∷ [])) (joined (y ∷ [])) (joined ls)) ∙ ap (λ (o : List ℕ). o ++ joined ls) (sym (joined_line x (y ∷ []))) in
    rw p (put_join l m (put_of m j (joined ls)).1 i j (put_of m j (joined ls)).0 (joined (x ∷ y ∷ [])) (joined ls) e refl)

-- the number of a cell or of a step
pub five_digits : (t : ℕ) → t < 100000 → digit_count t ≤ 5
five_digits t h = digit_count_few t 5 (omega arith) (omega arith) (omega arith)

pub some_digits : (t : ℕ) → 1 ≤ digit_count t
unfolding digit_count digit_count_in
some_digits t = if_both (λ (n : ℕ). 1 ≤ n) (ltb t 10) (omega arith) (omega arith)

-- a time line of n bytes before its digits are put, from the last on
abbrev pub marks : ℕ → List ℕ
marks n = replicate n 35

pub digits_first : (n : ℕ) → 2 ≤ n → get_or (set (marks n) (n - 1) 10) 0 0 ≡ 35
digits_first zero h = absurd (omega arith)
digits_first (suc zero) h = absurd (omega arith)
digits_first (suc (suc m)) h = let e : suc (suc m) - 1 ≡ suc m = omega arith in rw e

pub digits_start : (n t : ℕ) → n ≡ digit_count t + 2
    → last_digits 10 (n - 1 - 1) t ++ drop (n - 1) (set (marks n) (n - 1) 10) ≡ decimal_of t ++ 10 ∷ []
unfolding decimal_of
digits_start n t e =
    let r = length-replicate {A = ℕ} n 35 in
    let k : n - 1 - 1 ≡ digit_count t = omega arith in
    let d = drop-set (marks n) (n - 1) 10 (omega (arith, r)) in
    let z : drop (n - 1 + 1) (marks n) ≡ [] = drop_of_length-le (marks n) (omega (arith, r)) in
    rw (k, d, z)

-- and with the first one
pub digits_done : (t i rest : ℕ) (text : List ℕ) → 0 < length text → get_or text 0 0 ≡ 35 → i ≡ 1
    → last_digits 10 (i - 1) rest ++ drop i text ≡ decimal_of t ++ 10 ∷ [] → text ≡ joined (time_line t ∷ [])
unfolding joined time_line
digits_done t i rest [] h f e d = absurd (omega arith)
digits_done t i rest (b ∷ text) h f e d =
    let z : i - 1 ≡ 0 = omega arith in
    cc (rw (z, e) at d, f)

-- ---- a loop over steps: one turn, and the end

body_at : (n t : ℕ) (bits script : List ℕ) (i : ℕ) → i + 2 < length script
    → body_of n t bits (drop i script)
    ≡ (if changes_of n bits (get_or script i 0) (get_or script (i + 1) 0)
    then time_line t ∷ bit_line (turned (get_or bits (get_or script (i + 1) 0) 0)) (get_or script (i + 1) 0) ∷ body_of n (t + 1) (flip_of bits (get_or script (i + 1) 0)) (drop (i + 3) script)
    else body_of n (t + 1) bits (drop (i + 3) script))
unfolding body_of
body_at n t bits script i h = rw (drop_three script i h)

short_body : (n t : ℕ) (bits l : List ℕ) → length l ≤ 2 → body_of n t bits l ≡ []
unfolding body_of
short_body n t bits [] h = refl
short_body n t bits (a ∷ []) h = refl
short_body n t bits (a ∷ b ∷ []) h = refl
short_body n t bits (a ∷ b ∷ c ∷ l) h = absurd (omega arith)

pub body_end : (n t : ℕ) (bits script : List ℕ) (i : ℕ) → length script ≤ i + 2 → body_of n t bits (drop i script) ≡ []
body_end n t bits script i h = short_body n t bits (drop i script) (omega (arith, length-drop i script))

-- putting the lines of a step leaves the rest to put
pub body_turn : (n t : ℕ) (bits script : List ℕ) (i : ℕ) (out : List ℕ) (at r : ℕ) (b o : List ℕ)
    → i + 2 < length script
    → (r, (b, o)) ≡ step_of n t bits (get_or script i 0) (get_or script (i + 1) 0) out at
    → put_of o r (joined (body_of n (t + 1) b (drop (i + 3) script))) ≡ put_of out at (joined (body_of n t bits (drop i script)))
unfolding step_of
body_turn n t bits script i out at r b o h e = rw (body_at n t bits script i h) (go (changes_of n bits (get_or script i 0) (get_or script (i + 1) 0)) e)
  where
    go : (z : Bool)
        → ◌≡◌ {A = ℕ × (List ℕ × List ℕ)} (r, (b, o)) (if z then ((put_of out at (joined (time_line t ∷ bit_line (turned (get_or bits (get_or script (i + 1) 0) 0)) (get_or script (i + 1) 0) ∷ []))).0, (flip_of bits (get_or script (i + 1) 0), (put_of out at (joined (time_line t ∷ bit_line (turned (get_or bits (get_or script (i + 1) 0) 0)) (get_or script (i + 1) 0) ∷ []))).1)) else (at, (bits, out)))
        → put_of o r (joined (body_of n (t + 1) b (drop (i + 3) script)))
        ≡ put_of out at (joined (if z
        then time_line t ∷ bit_line (turned (get_or bits (get_or script (i + 1) 0) 0)) (get_or script (i + 1) 0) ∷ body_of n (t + 1) (flip_of bits (get_or script (i + 1) 0)) (drop (i + 3) script)
        else body_of n (t + 1) bits (drop (i + 3) script)))
    go true f =
        let p : (r, o) ≡ put_of out at (joined (time_line t ∷ bit_line (turned (get_or bits (get_or script (i + 1) 0) 0)) (get_or script (i + 1) 0) ∷ [])) = ap (λ (q : ℕ × (List ℕ × List ℕ)). (q.0, q.1.1)) f in
        let q : b ≡ flip_of bits (get_or script (i + 1) 0) = ap (λ (q : ℕ × (List ℕ × List ℕ)). q.1.0) f in
        rw q (put_two out o at r _ _ _ p)
    go false f =
        let p : r ≡ at = ap (λ (q : ℕ × (List ℕ × List ℕ)). q.0) f in
        let q : b ≡ bits = ap (λ (q : ℕ × (List ℕ × List ℕ)). q.1.0) f in
        let s : o ≡ out = ap (λ (q : ℕ × (List ℕ × List ℕ)). q.1.1) f in
        rw (p, q, s)

-- there is room for a step's lines
pub body_room : (n t : ℕ) (bits script : List ℕ) (i : ℕ) (out m : List ℕ) (at j : ℕ) (y : List ℕ)
    → i + 2 < length script → changes_of n bits (get_or script i 0) (get_or script (i + 1) 0) ≡ true
    → put_of out at (joined (body_of n t bits (drop i script))) ≡ put_of m j y → at + digit_count t + 5 ≤ j + length y
body_room n t bits script i out m at j y h c e =
    let s = put_size out m at j (joined (body_of n t bits (drop i script))) y e in
    let d = rw c at (body_at n t bits script i h) in
    omega (arith, s, ap (λ (ls : List (List ℕ)). length (joined ls)) d, change_size t (turned (get_or bits (get_or script (i + 1) 0) 0)) (get_or script (i + 1) 0) (body_of n (t + 1) (flip_of bits (get_or script (i + 1) 0)) (drop (i + 3) script)))

-- weighing the lines of a step leaves the rest to weigh
pub body_less : (n t : ℕ) (bits script : List ℕ) (i r : ℕ) (b : List ℕ) → i + 2 < length script → t < 100000
    → (r, b) ≡ weigh_of n t bits (get_or script i 0) (get_or script (i + 1) 0)
    → (r + length (joined (body_of n (t + 1) b (drop (i + 3) script))) ≡ length (joined (body_of n t bits (drop i script)))) × (r ≤ 10)
unfolding weigh_of
body_less n t bits script i r b h few e = rw (body_at n t bits script i h) (go (changes_of n bits (get_or script i 0) (get_or script (i + 1) 0)) e)
  where
    go : (z : Bool)
        → ◌≡◌ {A = ℕ × List ℕ} (r, b) (if z then (digit_count t + 5, flip_of bits (get_or script (i + 1) 0)) else (0, bits))
        → (r + length (joined (body_of n (t + 1) b (drop (i + 3) script)))
        ≡ length (joined (if z
        then time_line t ∷ bit_line (turned (get_or bits (get_or script (i + 1) 0) 0)) (get_or script (i + 1) 0) ∷ body_of n (t + 1) (flip_of bits (get_or script (i + 1) 0)) (drop (i + 3) script)
        else body_of n (t + 1) bits (drop (i + 3) script)))) × (r ≤ 10)
    go true f =
        let p : r ≡ digit_count t + 5 = ap (λ (q : ℕ × List ℕ). q.0) f in
        let q : b ≡ flip_of bits (get_or script (i + 1) 0) = ap (λ (q : ℕ × List ℕ). q.1) f in
        rw q (omega (arith, p, change_size t (turned (get_or bits (get_or script (i + 1) 0) 0)) (get_or script (i + 1) 0) (body_of n (t + 1) (flip_of bits (get_or script (i + 1) 0)) (drop (i + 3) script))), omega (arith, p, five_digits t few))
    go false f =
        let p : r ≡ 0 = ap (λ (q : ℕ × List ℕ). q.0) f in
        let q : b ≡ bits = ap (λ (q : ℕ × List ℕ). q.1) f in
        rw q (omega arith, omega arith)

-- ---- the head and the whole

joined_append : (a b : List (List ℕ)) → joined (a ++ b) ≡ joined a ++ joined b
unfolding joined
joined_append [] b = refl
joined_append (x ∷ a) b = rw (joined_append a b) (sym (append_assoc x (10 ∷ joined a) (joined b)))

each_append : (line_for : ℕ → List ℕ) (left c : ℕ) (ls : List (List ℕ)) → each_of line_for c left ls ≡ each_of line_for c left [] ++ ls
unfolding each_of
each_append line_for zero c ls = refl
each_append line_for (suc left) c ls = rw (each_append line_for left (c + 1) ls)

-- the dump: its head, and the changes
dump_parts : (n : ℕ) (script : List ℕ) → dump_of n script ≡ head_of n ++ joined (body_of n 1 no_bits script)
unfolding dump_of lines_of middle_of head_of
dump_parts n script =
    let b : List (List ℕ) = body_of n 1 no_bits script in
    let p : joined (first_of 0 n b) ≡ joined (first_of 0 n []) ++ joined b = ap joined (each_append (bit_line 0) n 0 b) ∙ joined_append (first_of 0 n []) b in
    let q : joined (upscope ∷ end_line ∷ time_line 0 ∷ first_of 0 n b) ≡ joined (upscope ∷ end_line ∷ time_line 0 ∷ []) ++ (joined (first_of 0 n []) ++ joined b) = joined_append (upscope ∷ end_line ∷ time_line 0 ∷ []) (first_of 0 n b) ∙ ap (λ (o : List ℕ). joined (upscope ∷ end_line ∷ time_line 0 ∷ []) ++ o) p in
    let m : List (List ℕ) = upscope ∷ end_line ∷ time_line 0 ∷ first_of 0 n b in
    let v : joined (vars_of 0 n m) ≡ joined (vars_of 0 n []) ++ (joined (upscope ∷ end_line ∷ time_line 0 ∷ []) ++ (joined (first_of 0 n []) ++ joined b)) = ap joined (each_append var_line n 0 m) ∙ joined_append (vars_of 0 n []) m ∙ ap (λ (o : List ℕ). joined (vars_of 0 n []) ++ o) q in
    joined_append (timescale ∷ scope_line ∷ []) (vars_of 0 n m) ∙ ap (λ (o : List ℕ). joined (timescale ∷ scope_line ∷ []) ++ o) v ∙ simp append_assoc

pub head_size : (n : ℕ) → length (head_of n) ≡ 80 + (length (joined (vars_of 0 n [])) + length (joined (first_of 0 n [])))
unfolding head_of joined timescale scope_line upscope end_line time_line decimal_of digit_count digit_count_in
head_size n = simp length-append (omega arith)

-- ---- what a step's function leaves

pub step_done : (n t : ℕ) (bits : List ℕ) (kind cell : ℕ) (out : List ℕ) (at r : ℕ) (b o : List ℕ) (bit : ℕ)
    → changes_of n bits kind cell ≡ true → b ≡ flip_of bits cell → bit ≡ turned (get_or bits cell 0)
    → (r, o) ≡ put_of out at (joined (time_line t ∷ bit_line bit cell ∷ [])) → (r, (b, o)) ≡ step_of n t bits kind cell out at
unfolding step_of
step_done n t bits kind cell out at r b o bit c p q e = rw (c, p, ← q, ← e)

pub step_none : (n t : ℕ) (bits : List ℕ) (kind cell : ℕ) (out : List ℕ) (at : ℕ) (b : List ℕ)
    → changes_of n bits kind cell ≡ false → b ≡ bits → (at, (b, out)) ≡ step_of n t bits kind cell out at
unfolding step_of
step_none n t bits kind cell out at b c p = rw (c, p)

pub weigh_done : (n t : ℕ) (bits : List ℕ) (kind cell r : ℕ) (b : List ℕ) → changes_of n bits kind cell ≡ true
    → b ≡ flip_of bits cell → r ≡ digit_count t → (r + 5, b) ≡ weigh_of n t bits kind cell
unfolding weigh_of
weigh_done n t bits kind cell r b c p q = rw (c, p, q)

pub weigh_none : (n t : ℕ) (bits : List ℕ) (kind cell : ℕ) (b : List ℕ) → changes_of n bits kind cell ≡ false → b ≡ bits
    → (0, b) ≡ weigh_of n t bits kind cell
unfolding weigh_of
weigh_none n t bits kind cell b c p = rw (c, p)

-- ---- the length of the head, cell by cell

pub head_turn : (n c : ℕ) → c < n
    → length (joined (vars_of c (n - c) [])) + length (joined (first_of c (n - c) []))
    ≡ 24 + digit_count c + (length (joined (vars_of (c + 1) (n - (c + 1)) [])) + length (joined (first_of (c + 1) (n - (c + 1)) [])))
head_turn n c h =
    rw (each_at var_line n c [] h, each_at (bit_line 0) n c [] h)
    (omega (arith, length_line (var_line c) (vars_of (c + 1) (n - (c + 1)) []), length_var c, length_line (bit_line 0 c) (first_of (c + 1) (n - (c + 1)) []), length_bit 0 c))

pub head_end : (n c : ℕ) → n ≤ c → length (joined (vars_of c (n - c) [])) + length (joined (first_of c (n - c) [])) ≡ 0
unfolding joined
head_end n c h = rw (each_end var_line n c [] h, each_end (bit_line 0) n c [] h)

pub head_few : (left c : ℕ) → length (joined (vars_of c left [])) + length (joined (first_of c left [])) ≤ 44 * left
unfolding each_of joined
head_few zero c = omega arith
head_few (suc left) c =
    omega (arith, length-append (var_line c) (10 ∷ joined (vars_of (c + 1) left [])), length-append (bit_line 0 c) (10 ∷ joined (first_of (c + 1) left [])), length_var c, length_bit 0 c, digit_count_most c, head_few left (c + 1))

pub dump_size : (n : ℕ) (script : List ℕ)
    → length (dump_of n script) ≡ length (head_of n) + length (joined (body_of n 1 no_bits script))
dump_size n script = rw (dump_parts n script) (length-append (head_of n) (joined (body_of n 1 no_bits script)))

-- the head and the changes are put: the dump is
pub dump_put : (n : ℕ) (script out m o : List ℕ) (at r : ℕ) → (at, m) ≡ put_of out 0 (head_of n)
    → (r, o) ≡ put_of m at (joined (body_of n 1 no_bits script))
    → ◌≡◌ {A = Result ℕ WriteRefusal × List ℕ} (Ok r, o) (Ok (length (dump_of n script)), sets out 0 (dump_of n script))
unfolding put_of
dump_put n script out m o at r e f =
    let p : (r, o) ≡ put_of out 0 (dump_of n script) = rw (dump_parts n script) (put_join out m o 0 at r (head_of n) (joined (body_of n 1 no_bits script)) e f) in
    let q : r ≡ length (dump_of n script) = put_place out o 0 r (dump_of n script) p ∙ (omega arith) in
    let s : o ≡ sets out 0 (dump_of n script) = ap (λ (x : ℕ × List ℕ). x.1) p in
    cc (q, s)
