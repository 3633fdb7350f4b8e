-- What was written reads back: n, and a script with the same bits at every step.
use Rattle.std.specs.Prelude.{ℕ, zero, suc, ◌+◌, ◌*◌, ◌-◌, ◌%◌, ◌/◌, ◌≤◌, ◌<◌, ◌≡◌, refl, ◌≢◌, List, [], ◌∷◌, ◌++◌, Bool, true, false, eqb, ltb, length, get_or, if◌then◌else◌, Ok, Some}
use Rattle.std.proofs.Common.{sym, ap, ◌∙◌, append_assoc, append-nil, arith}
use borrow.Author.Tests.{eqb-true, ne_eqb, lt-ltb, le-ltb, le-leb}
use Rattle.io.specs.Digits.{hex_digit_ascii, last_digits}
use Rattle.text.specs.Text.{digits_in, value_read}
use Rattle.text.specs.Decimal.{decimal_of, digit_count}
use Rattle.text.specs.Back.{glyph_is, number_back}
use Rattle.wave_rules.specs.Lines.{Items, line, same}
use Rattle.wave_theory.specs.Texts.{items_of, plain, all_plain, split_joined}
use Rattle.wave_theory.specs.Bits.{bits_after}
use Rattle.wave_rules.proofs.Stages.{changes_in_lem, same_refl}
use Rattle.wave_rules.specs.Dump.{no_bits, turns, turned, changes_of, flip_of, timescale, scope_line, var_line, upscope, end_line, time_line, bit_line, each_of, vars_of, first_of, body_of, middle_of, lines_of, dump_of, Dumpable}
use Rattle.wave_rules.specs.declared.Stage.{Stage}
use Rattle.wave_rules.specs.declared.Stage.TheVariants.{Opening, Scope, Variables, Ending, Start, Values, Waiting, Changing}
use Rattle.wave_rules.specs.Reader.{Verdict, time_in, cell_in, after_variable, after_value, is_time, is_change, next_of, bits_of, verdict_of, idle, kind_for, script_words_at, script_words_of, read, read_of}

-- ---- the script that is read back: each change as a take or a release, the steps between as steps that only count, and nothing behind the last change

unfoldable pub trim_of : ℕ → ℕ → List ℕ → List ℕ → List ℕ
trim_of n gap bits [] = []
trim_of n gap bits (kind ∷ []) = []
trim_of n gap bits (kind ∷ cell ∷ []) = []
trim_of n gap bits (kind ∷ cell ∷ number ∷ rest) =
    if changes_of n bits kind cell then idle gap (kind_for (get_or bits cell 0) ∷ cell ∷ 0 ∷ trim_of n 0 (flip_of bits cell) rest) else trim_of n (gap + 1) bits rest

-- the number of the last change
unfoldable pub last_of : ℕ → ℕ → ℕ → List ℕ → List ℕ → ℕ
last_of n t last bits [] = last
last_of n t last bits (kind ∷ []) = last
last_of n t last bits (kind ∷ cell ∷ []) = last
last_of n t last bits (kind ∷ cell ∷ number ∷ rest) = if changes_of n bits kind cell then last_of n (t + 1) t (flip_of bits cell) rest else last_of n (t + 1) last bits rest

-- ---- single lines

time_in_lem : (t : ℕ) → t < 100000 → time_in (time_line t) ≡ t
unfolding time_in time_line digits_in
time_in_lem t h = ap value_read (rw (append-nil (decimal_of t)) at (number_back t [] (omega arith) refl))

is_time_lem : (last t : ℕ) → last < t → t ≤ 32768 → is_time last (time_line t) ≡ true
unfolding is_time
is_time_lem last t a b = rw (time_in_lem t (omega arith), lt-ltb _ _ a, le-leb _ _ b, same_refl (time_line t))

cell_in_lem : (bit c : ℕ) → cell_in (bit_line bit c) ≡ c
unfolding cell_in bit_line
cell_in_lem bit c = let e : 33 + c - 33 ≡ c = omega arith in e

is_change_lem : (n : ℕ) (bits : List ℕ) (c : ℕ) → c < n → is_change n bits (bit_line (turned (get_or bits c 0)) c) ≡ true
unfolding is_change
is_change_lem n bits c h = rw (cell_in_lem (turned (get_or bits c 0)) c, lt-ltb _ _ h, same_refl (bit_line (turned (get_or bits c 0)) c))

-- ---- reading on, whatever the line's number

pub record Reads (s : Stage) (bits : List ℕ) (r : Items) (v : Verdict) (w : List ℕ) : Type 0 where
  pub told : (j : ℕ) → verdict_of j s bits r ≡ v
  pub wrote : script_words_of s bits r ≡ w

module _ (s next : Stage) (bits x : List ℕ) (r : Items) (v : Verdict) (w : List ℕ) where
  pub reads_on : next_of s bits x ≡ Some next → Reads next (bits_of s bits x) r v w
      → Reads s bits (line x r) v (script_words_at s bits x w)
  unfolding verdict_of script_words_of
  reads_on e q = record { told = λ j. rw (e, q.told (j + 1)); wrote = rw (e, q.wrote) }

-- ---- the changes

module _ (n last t c : ℕ) (bits : List ℕ) (r : Items) (v : Verdict) (w : List ℕ) (later : last < t) (early : t ≤ 32768) (cell : c < n) where
  pub change_line : Reads (Waiting n t) (flip_of bits c) r v w
      → Reads (Changing n last t) bits (line (bit_line (turned (get_or bits c 0)) c) r) v (idle (t - (last + 1)) (kind_for (get_or bits c 0) ∷ c ∷ 0 ∷ w))
  change_line q =
      let x : List ℕ = bit_line (turned (get_or bits c 0)) c in
      let e : cell_in x ≡ c = cell_in_lem (turned (get_or bits c 0)) c in
      let f : next_of (Changing n last t) bits x ≡ Some (Waiting n t) = rw (is_change_lem n bits c cell) in
      let q' : Reads (Waiting n t) (flip_of bits (cell_in x)) r v w = rw e q in
      rw e at (reads_on (Changing n last t) (Waiting n t) bits x r v w f q')

  reads_change : Reads (Waiting n t) (flip_of bits c) r v w
      → Reads (Waiting n last) bits (line (time_line t) (line (bit_line (turned (get_or bits c 0)) c) r)) v (idle (t - (last + 1)) (kind_for (get_or bits c 0) ∷ c ∷ 0 ∷ w))
  reads_change q =
      let f : next_of (Waiting n last) bits (time_line t) ≡ Some (Changing n last t) = rw (is_time_lem last t later early, time_in_lem t (omega arith)) in
      reads_on (Waiting n last) (Changing n last t) bits (time_line t) (line (bit_line (turned (get_or bits c 0)) c) r) v (idle (t - (last + 1)) (kind_for (get_or bits c 0) ∷ c ∷ 0 ∷ w)) f (change_line q)

-- the changes of a script from step t on
reads_body : (n t last : ℕ) (bits script : List ℕ) → last < t → 3 * t + length script ≤ 98307
    → Reads (Waiting n last) bits (items_of (body_of n t bits script)) (Ok (n, last_of n t last bits script)) (trim_of n (t - (last + 1)) bits script)
unfolding body_of last_of trim_of items_of verdict_of script_words_of
reads_body n t last bits [] h m = record { told = λ j. refl; wrote = refl }
reads_body n t last bits (kind ∷ []) h m = record { told = λ j. refl; wrote = refl }
reads_body n t last bits (kind ∷ cell ∷ []) h m = record { told = λ j. refl; wrote = refl }
reads_body n t last bits (kind ∷ cell ∷ number ∷ rest) h m =
    go (changes_of n bits kind cell) refl (reads_body n (t + 1) t (flip_of bits cell) rest (omega arith) (omega arith)) (reads_body n (t + 1) last bits rest (omega arith) (omega arith))
  where
    go : (b : Bool) → changes_of n bits kind cell ≡ b
        → Reads (Waiting n t) (flip_of bits cell) (items_of (body_of n (t + 1) (flip_of bits cell) rest)) (Ok (n, last_of n (t + 1) t (flip_of bits cell) rest)) (trim_of n (t + 1 - (t + 1)) (flip_of bits cell) rest)
        → Reads (Waiting n last) bits (items_of (body_of n (t + 1) bits rest)) (Ok (n, last_of n (t + 1) last bits rest)) (trim_of n (t + 1 - (last + 1)) bits rest)
        → Reads (Waiting n last) bits
        (items_of (if b then time_line t ∷ bit_line (turned (get_or bits cell 0)) cell ∷ body_of n (t + 1) (flip_of bits cell) rest else body_of n (t + 1) bits rest))
        (Ok (n, if b then last_of n (t + 1) t (flip_of bits cell) rest else last_of n (t + 1) last bits rest))
        (if b then idle (t - (last + 1)) (kind_for (get_or bits cell 0) ∷ cell ∷ 0 ∷ trim_of n 0 (flip_of bits cell) rest) else trim_of n (t - (last + 1) + 1) bits rest)
    go true e p q =
        let z : t + 1 - (t + 1) ≡ 0 = omega arith in
        reads_change n last t cell bits _ _ _ h (omega arith) (changes_in_lem n bits kind cell e).0 (rw z at p)
    go false e p q = let z : t + 1 - (last + 1) ≡ t - (last + 1) + 1 = omega arith in rw z at q

-- ---- the head

pub reads_values : (left n c : ℕ) (bits : List ℕ) (ls : List (List ℕ)) (v : Verdict) (w : List ℕ) → c + suc left ≡ n
    → Reads (Waiting n 0) bits (items_of ls) v w → Reads (Values n c) bits (items_of (first_of c (suc left) ls)) v w
unfolding each_of items_of
reads_values zero n c bits ls v w e q =
    let f : next_of (Values n c) bits (bit_line 0 c) ≡ Some (Waiting n 0) = unfold after_value in rw (same_refl (bit_line 0 c), le-ltb (c + 1) n (omega arith)) in
    reads_on (Values n c) (Waiting n 0) bits (bit_line 0 c) (items_of ls) v w f q
reads_values (suc left) n c bits ls v w e q =
    let f : next_of (Values n c) bits (bit_line 0 c) ≡ Some (Values n (c + 1)) = unfold after_value in rw (same_refl (bit_line 0 c), lt-ltb (c + 1) n (omega arith)) in
    reads_on (Values n c) (Values n (c + 1)) bits (bit_line 0 c) (items_of (first_of (c + 1) (suc left) ls)) v w f (reads_values left n (c + 1) bits ls v w (omega arith) q)

variable_next : (c : ℕ) → c < 94 → after_variable c (var_line c) ≡ Some (Variables (c + 1))
unfolding after_variable
variable_next c h = rw (lt-ltb c 94 h, same_refl (var_line c))

no_variable : (c : ℕ) → (if ltb c 94 then same upscope (var_line c) else false) ≡ false
unfolding same upscope var_line
no_variable c = go (ltb c 94)
  where
    go : (b : Bool) → (if b then same upscope (var_line c) else false) ≡ false
    go true = refl
    go false = refl

variable_last : (n : ℕ) → 0 < n → after_variable n upscope ≡ Some (Ending n)
unfolding after_variable
variable_last n h = rw (no_variable n, lt-ltb 0 n h, same_refl upscope)

pub reads_vars : (left n c : ℕ) (bits : List ℕ) (ls : List (List ℕ)) (v : Verdict) (w : List ℕ) → c + left ≡ n → 1 ≤ n
    → n ≤ 94 → Reads (Ending n) bits (items_of ls) v w
    → Reads (Variables c) bits (items_of (vars_of c left (upscope ∷ ls))) v w
unfolding each_of items_of
reads_vars zero n c bits ls v w e a b q =
    let z : n ≡ c = omega arith in
    let q' : Reads (Ending c) bits (items_of ls) v w = rw z at q in
    reads_on (Variables c) (Ending c) bits upscope (items_of ls) v w (variable_last c (omega arith)) q'
reads_vars (suc left) n c bits ls v w e a b q =
    reads_on (Variables c) (Variables (c + 1)) bits (var_line c) (items_of (vars_of (c + 1) left (upscope ∷ ls))) v w (variable_next c (omega arith)) (reads_vars left n (c + 1) bits ls v w (omega arith) a b q)

-- from the end of the definitions to the first time line
pub reads_ending : (n : ℕ) (bits : List ℕ) (ls : List (List ℕ)) (v : Verdict) (w : List ℕ) → 1 ≤ n
    → Reads (Waiting n 0) bits (items_of ls) v w
    → Reads (Ending n) bits (items_of (end_line ∷ time_line 0 ∷ first_of 0 n ls)) v w
unfolding items_of
reads_ending zero bits ls v w h q = absurd (omega arith)
reads_ending (suc n) bits ls v w h q =
    let e : next_of (Ending (suc n)) bits end_line ≡ Some (Start (suc n)) = rw (same_refl end_line) in
    let f : next_of (Start (suc n)) bits (time_line 0) ≡ Some (Values (suc n) 0) = rw (same_refl (time_line 0)) in
    reads_on (Ending (suc n)) (Start (suc n)) bits end_line (items_of (time_line 0 ∷ first_of 0 (suc n) ls)) v w e
    (reads_on (Start (suc n)) (Values (suc n) 0) bits (time_line 0) (items_of (first_of 0 (suc n) ls)) v w f
    (reads_values n (suc n) 0 bits ls v w (omega arith) q))

pub reads_head : (n : ℕ) (bits : List ℕ) (ls : List (List ℕ)) (v : Verdict) (w : List ℕ) → 1 ≤ n → n ≤ 94
    → Reads (Waiting n 0) bits (items_of ls) v w
    → Reads Opening bits (items_of (timescale ∷ scope_line ∷ vars_of 0 n (middle_of n ls))) v w
unfolding items_of middle_of
reads_head n bits ls v w a b q =
    let e : next_of Opening bits timescale ≡ Some Scope = rw (same_refl timescale) in
    let f : next_of Scope bits scope_line ≡ Some (Variables 0) = rw (same_refl scope_line) in
    reads_on Opening Scope bits timescale (items_of (scope_line ∷ vars_of 0 n (middle_of n ls))) v w e
    (reads_on Scope (Variables 0) bits scope_line (items_of (vars_of 0 n (middle_of n ls))) v w f
    (reads_vars n n 0 bits (end_line ∷ time_line 0 ∷ first_of 0 n ls) v w (omega arith) a b (reads_ending n bits ls v w a q)))

pub reads_dump : (n : ℕ) (script : List ℕ) → Dumpable n script
    → Reads Opening no_bits (items_of (lines_of n script)) (Ok (n, last_of n 1 0 no_bits script)) (trim_of n 0 no_bits script)
unfolding lines_of
reads_dump n script d = reads_head n no_bits (body_of n 1 no_bits script) (Ok (n, last_of n 1 0 no_bits script)) (trim_of n 0 no_bits script) d.some d.few (reads_body n 1 0 no_bits script (omega arith) (omega (arith, d.short)))

-- ---- no line has a line feed in it

plain_digits : (k n : ℕ) (r : List ℕ) → plain (last_digits 10 k n ++ r) ≡ plain r
unfolding plain
plain_digits zero n r = refl
plain_digits (suc k) n r =
    let low : n % 10 < 10 = omega arith in
    let e : plain (hex_digit_ascii (n % 10) ∷ r) ≡ plain r = (let apart : 48 + n % 10 ≢ 10 = omega arith in rw (glyph_is (n % 10) low, ne_eqb _ _ apart)) in
    rw (append_assoc (last_digits 10 k (n / 10)) (hex_digit_ascii (n % 10) ∷ []) r, plain_digits k (n / 10) (hex_digit_ascii (n % 10) ∷ r)) e

plain_time : (t : ℕ) → plain (time_line t) ≡ true
unfolding plain time_line decimal_of
plain_time t = rw (← append-nil (last_digits 10 (digit_count t) t)) (plain_digits (digit_count t) t [])

plain_bit : (bit c : ℕ) → plain (bit_line bit c) ≡ true
unfolding plain bit_line
plain_bit bit c =
    let p : 48 + bit ≢ 10 = omega arith in
    let q : 33 + c ≢ 10 = omega arith in
    rw (ne_eqb _ _ p, ne_eqb _ _ q)

plain_var : (c : ℕ) → plain (var_line c) ≡ true
unfolding plain var_line decimal_of
plain_var c = let q : 33 + c ≢ 10 = omega arith in rw (ne_eqb _ _ q) (plain_digits (digit_count c) c (32 ∷ 36 ∷ 101 ∷ 110 ∷ 100 ∷ []))

plain_each : (line_for : ℕ → List ℕ) → ((c : ℕ) → plain (line_for c) ≡ true) → (left c : ℕ) (ls : List (List ℕ)) → all_plain ls ≡ true
    → all_plain (each_of line_for c left ls) ≡ true
unfolding each_of all_plain
plain_each line_for p zero c ls h = h
plain_each line_for p (suc left) c ls h = rw (p c, plain_each line_for p left (c + 1) ls h)

plain_body : (n t : ℕ) (bits script : List ℕ) → all_plain (body_of n t bits script) ≡ true
unfolding body_of all_plain
plain_body n t bits [] = refl
plain_body n t bits (kind ∷ []) = refl
plain_body n t bits (kind ∷ cell ∷ []) = refl
plain_body n t bits (kind ∷ cell ∷ number ∷ rest) = go (changes_of n bits kind cell) (plain_body n (t + 1) (flip_of bits cell) rest) (plain_body n (t + 1) bits rest)
  where
    go : (b : Bool) → all_plain (body_of n (t + 1) (flip_of bits cell) rest) ≡ true
        → all_plain (body_of n (t + 1) bits rest) ≡ true
        → all_plain (if b then time_line t ∷ bit_line (turned (get_or bits cell 0)) cell ∷ body_of n (t + 1) (flip_of bits cell) rest else body_of n (t + 1) bits rest) ≡ true
    go true p q = rw (plain_time t, plain_bit (turned (get_or bits cell 0)) cell, p)
    go false p q = q

plain_middle : (n : ℕ) (ls : List (List ℕ)) → all_plain ls ≡ true → all_plain (middle_of n ls) ≡ true
unfolding middle_of all_plain plain upscope end_line
plain_middle n ls h = rw (plain_time 0, plain_each (bit_line 0) (plain_bit 0) n 0 ls h)

pub plain_lines : (n : ℕ) (script : List ℕ) → all_plain (lines_of n script) ≡ true
unfolding lines_of all_plain plain timescale scope_line
plain_lines n script = plain_each var_line plain_var n 0 (middle_of n (body_of n 1 no_bits script)) (plain_middle n (body_of n 1 no_bits script) (plain_body n 1 no_bits script))

-- ---- the round trip

pub round_trip : (n : ℕ) (script : List ℕ) → Dumpable n script
    → read_of (dump_of n script) ≡ read n (trim_of n 0 no_bits script)
unfolding read_of dump_of
round_trip n script d = let q = reads_dump n script d in rw (split_joined (lines_of n script) (plain_lines n script), q.told 1, q.wrote)

-- ---- the bits

-- a step of zeros only counts
pub still : (n : ℕ) (bits : List ℕ) → changes_of n bits 0 0 ≡ false
unfolding changes_of turns
still n bits = go (ltb 0 n) (eqb (get_or bits 0 0) 0)
  where
    go : (a b : Bool) → (if a then (if b then false else false) else false) ≡ false
    go true true = refl
    go true false = refl
    go false b = refl

idle_bits : (g n j : ℕ) (bits w : List ℕ) → bits_after n bits j (idle g w) ≡ bits_after n bits (j - g) w
unfolding bits_after idle
idle_bits zero n j bits w = let e : j ≡ j - 0 = omega arith in ap (λ (i : ℕ). bits_after n bits i w) e
idle_bits (suc g) n zero bits w = let e : 0 ≡ 0 - suc g = omega arith in ap (λ (i : ℕ). bits_after n bits i w) e
idle_bits (suc g) n (suc j) bits w =
    let e : j - g ≡ suc j - suc g = omega arith in
    rw (still n bits, idle_bits g n j bits w, e)

-- a kind that turns a bit is the one that is read back
turning : (kind bit : ℕ) → turns kind bit ≡ true → kind_for bit ≡ kind
unfolding turns
turning kind bit = go (eqb bit 0)
  where
    go : (b : Bool) → (if b then eqb kind 1 else eqb kind 2) ≡ true → (if b then 1 else 2) ≡ kind
    go true e = sym (eqb-true kind 1 e)
    go false e = sym (eqb-true kind 2 e)

none_left : (n j : ℕ) (bits : List ℕ) → bits_after n bits j [] ≡ bits
unfolding bits_after
none_left n zero bits = refl
none_left n (suc j) bits = refl

one_left : (n j : ℕ) (bits : List ℕ) (kind : ℕ) → bits_after n bits j (kind ∷ []) ≡ bits
unfolding bits_after
one_left n zero bits kind = refl
one_left n (suc j) bits kind = refl

two_left : (n j : ℕ) (bits : List ℕ) (kind cell : ℕ) → bits_after n bits j (kind ∷ cell ∷ []) ≡ bits
unfolding bits_after
two_left n zero bits kind cell = refl
two_left n (suc j) bits kind cell = refl

-- two scripts that begin with the same change and go on alike
turned_bits : (n i : ℕ) (bits : List ℕ) (kind cell number : ℕ) (v w : List ℕ) → changes_of n bits kind cell ≡ true
    → ((k : ℕ) → bits_after n (flip_of bits cell) k v ≡ bits_after n (flip_of bits cell) k w)
    → bits_after n bits i (kind_for (get_or bits cell 0) ∷ cell ∷ 0 ∷ v) ≡ bits_after n bits i (kind ∷ cell ∷ number ∷ w)
unfolding bits_after
turned_bits n zero bits kind cell number v w e p = refl
turned_bits n (suc i) bits kind cell number v w e p = rw (turning kind (get_or bits cell 0) (changes_in_lem n bits kind cell e).1, e) (p i)

-- a step without a change
still_bits : (n i : ℕ) (bits : List ℕ) (kind cell number : ℕ) (w : List ℕ) → changes_of n bits kind cell ≡ false
    → bits_after n bits (i - 1) w ≡ bits_after n bits i (kind ∷ cell ∷ number ∷ w)
unfolding bits_after
still_bits n zero bits kind cell number w e = refl
still_bits n (suc i) bits kind cell number w e = let z : suc i - 1 ≡ i = omega arith in rw (z, e)

trim_bits : (n gap j : ℕ) (bits script : List ℕ)
    → bits_after n bits j (trim_of n gap bits script) ≡ bits_after n bits (j - gap) script
unfolding trim_of
trim_bits n gap j bits [] = none_left n j bits ∙ sym (none_left n (j - gap) bits)
trim_bits n gap j bits (kind ∷ []) = none_left n j bits ∙ sym (one_left n (j - gap) bits kind)
trim_bits n gap j bits (kind ∷ cell ∷ []) = none_left n j bits ∙ sym (two_left n (j - gap) bits kind cell)
trim_bits n gap j bits (kind ∷ cell ∷ number ∷ rest) = go (changes_of n bits kind cell) refl (λ k. trim_bits n 0 k (flip_of bits cell) rest) (trim_bits n (gap + 1) j bits rest)
  where
    go : (b : Bool) → changes_of n bits kind cell ≡ b
        → ((k : ℕ) → bits_after n (flip_of bits cell) k (trim_of n 0 (flip_of bits cell) rest) ≡ bits_after n (flip_of bits cell) (k - 0) rest)
        → bits_after n bits j (trim_of n (gap + 1) bits rest) ≡ bits_after n bits (j - (gap + 1)) rest
        → bits_after n bits j (if b then idle gap (kind_for (get_or bits cell 0) ∷ cell ∷ 0 ∷ trim_of n 0 (flip_of bits cell) rest) else trim_of n (gap + 1) bits rest) ≡ bits_after n bits (j - gap) (kind ∷ cell ∷ number ∷ rest)
    go true e p q =
        idle_bits gap n j bits (kind_for (get_or bits cell 0) ∷ cell ∷ 0 ∷ trim_of n 0 (flip_of bits cell) rest)
        ∙ turned_bits n (j - gap) bits kind cell number (trim_of n 0 (flip_of bits cell) rest) rest e (λ k. let z : k - 0 ≡ k = omega arith in rw z at (p k))
    go false e p q = let z : j - (gap + 1) ≡ j - gap - 1 = omega arith in q ∙ (rw z (still_bits n (j - gap) bits kind cell number rest e))

-- what is read back has the bits of the history, at every step
pub same_bits : (n j : ℕ) (script : List ℕ)
    → bits_after n no_bits j (trim_of n 0 no_bits script) ≡ bits_after n no_bits j script
same_bits n j script = let z : j - 0 ≡ j = omega arith in rw z at (trim_bits n 0 j no_bits script)
