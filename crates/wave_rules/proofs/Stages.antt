-- Laws about the reader's stages, for code and theory alike: what is true of the stages that are reached, and how many
-- words are read.
-- ---- tests that hold
use Rattle.std.specs.Prelude.{ℕ, zero, suc, ◌+◌, ◌*◌, ◌-◌, ◌≤◌, ◌<◌, ◌≡◌, refl, List, [], ◌∷◌, Bool, true, false, ltb, leb, eqb, length, get_or, if◌then◌else◌, Option, Some, None, Result, Ok, Err}
use Rattle.std.proofs.Common.{ap, arith, ltb-true, leb-true, eqb-true, eq-eqb}
pub use Rattle.choice.specs.Pick.{false_not}
use Rattle.wave_rules.specs.Lines.{Items, finish, torn, line, same}
use Rattle.wave_rules.specs.Dump.{turns, changes_of, timescale, scope_line, var_line, upscope, end_line, time_line, bit_line}
use Rattle.wave_rules.specs.declared.Stage.{Stage}
use Rattle.wave_rules.specs.declared.Stage.TheVariants.{Opening, Scope, Variables, Ending, Start, Values, Waiting, Changing}
use Rattle.wave_rules.specs.Reader.{Verdict, time_in, cell_in, after_variable, after_value, is_time, is_change, next_of, bits_of, at_end, unless, verdict_of, idle, kind_for, script_words_at, script_words_of}
use Rattle.wave_rules.specs.Stages.{Reach}
use Rattle.wave_rules.specs.Stages.{last_in}

pub bad_not : {A : Type 0} {k n last : ℕ} → ◌≡◌ {A = Verdict} (Err k) (Ok (n, last)) → A
bad_not z = let w : ◌≡◌ {A = ℕ} 0 1 = cc in absurd (omega arith)

-- the two numbers of what is taken
pub both_numbers : {E : Type 0} (n last m e : ℕ) → ◌≡◌ {A = Result (ℕ × ℕ) E} (Ok (n, last)) (Ok (m, e))
    → (n ≡ m) × (last ≡ e)
both_numbers n last m e v =
    let p : ◌≡◌ {A = ℕ × ℕ} (n, last) (m, e) = cc in
    (ap (λ (q : ℕ × ℕ). q.0) p, ap (λ (q : ℕ × ℕ). q.1) p)

-- both of two nested tests
pub nested : (a b : Bool) → (if a then b else false) ≡ true → (a ≡ true) × (b ≡ true)
nested true b e = (refl, e)
nested false b e = false_not e

-- two lines that are the same
pub same_refl : (x : List ℕ) → same x x ≡ true
unfolding same
same_refl [] = refl
same_refl (a ∷ x) = rw (eq-eqb a a refl) (same_refl x)

pub same_true : (x y : List ℕ) → same x y ≡ true → x ≡ y
unfolding same
same_true [] [] e = refl
same_true [] (b ∷ y) e = false_not e
same_true (a ∷ x) [] e = false_not e
same_true (a ∷ x) (b ∷ y) e = let p = nested (eqb a b) (same x y) e in cc (eqb-true a b p.0, same_true x y p.1)

-- a step that changes a bit is on a cell that there is, and turns it
pub changes_in_lem : (n : ℕ) (bits : List ℕ) (kind c : ℕ) → changes_of n bits kind c ≡ true
    → (c < n) × (turns kind (get_or bits c 0) ≡ true)
unfolding changes_of
changes_in_lem n bits kind c e = let p = nested (ltb c n) (turns kind (get_or bits c 0)) e in (ltb-true c n p.0, p.1)

-- the first two of three
two : (a b c : Bool) → (if a then (if b then c else false) else false) ≡ true → (a ≡ true) × (b ≡ true)
two true true c e = (refl, refl)
two true false c e = false_not e
two false b c e = false_not e

-- a time line that is taken is later than the last, and not too late
pub time_later : (last : ℕ) (x : List ℕ) → is_time last x ≡ true → (last < time_in x) × (time_in x ≤ 32768)
unfolding is_time
time_later last x e = let p = two (ltb last (time_in x)) (leb (time_in x) 32768) _ e in (ltb-true last (time_in x) p.0, leb-true (time_in x) 32768 p.1)

-- one test, and one stage behind it: a line that leads on was taken, and led there
pub some_if : (b : Bool) (s t : Stage) → (if b then Some s else None) ≡ Some t → (b ≡ true) × (t ≡ s)
some_if true s t e = (refl, cc)
some_if false s t e = cc

reach_if : (b : Bool) (s t : Stage) → (if b then Some s else None) ≡ Some t → (b ≡ true → Reach s) → Reach t
reach_if b s t e f = let p = some_if b s t e in rw p.1 (f p.0)

reach_variable : (n : ℕ) (x : List ℕ) (t : Stage) → after_variable n x ≡ Some t → n ≤ 94 → Reach t
unfolding after_variable
reach_variable n x t e h = go (if ltb n 94 then same x (var_line n) else false) (if ltb 0 n then same x upscope else false) refl refl e
  where
    go : (a b : Bool) → (if ltb n 94 then same x (var_line n) else false) ≡ a
        → (if ltb 0 n then same x upscope else false) ≡ b
        → (if a then Some (Variables (n + 1)) else if b then Some (Ending n) else None) ≡ Some t → Reach t
    go true b p q e =
        let s : t ≡ Variables (n + 1) = cc in
        rw s (omega (arith, ltb-true n 94 (nested (ltb n 94) (same x (var_line n)) p).0))
    go false true p q e =
        let s : t ≡ Ending n = cc in
        rw s (omega (arith, ltb-true 0 n (nested (ltb 0 n) (same x upscope) q).0), h)
    go false false p q e = cc

reach_value : (n c : ℕ) (x : List ℕ) (t : Stage) → after_value n c x ≡ Some t → c < n → n ≤ 94 → Reach t
unfolding after_value
reach_value n c x t e l h =
    reach_if (same x (bit_line 0 c)) (if ltb (c + 1) n then Values n (c + 1) else Waiting n 0) t e (λ f. go (ltb (c + 1) n) refl)
  where
    go : (b : Bool) → ltb (c + 1) n ≡ b → Reach (if b then Values n (c + 1) else Waiting n 0)
    go true p = (ltb-true (c + 1) n p, h)
    go false p = (omega arith, h)

pub reach_next : (s : Stage) (bits x : List ℕ) (t : Stage) → next_of s bits x ≡ Some t → Reach s → Reach t
reach_next Opening bits x t e h = reach_if (same x timescale) Scope t e (λ f. tt)
reach_next Scope bits x t e h = reach_if (same x scope_line) (Variables 0) t e (λ f. omega arith)
reach_next (Variables n) bits x t e h = reach_variable n x t e h
reach_next (Ending n) bits x t e h = reach_if (same x end_line) (Start n) t e (λ f. h)
reach_next (Start n) bits x t e h = reach_if (same x (time_line 0)) (Values n 0) t e (λ f. (h.0, h.1))
reach_next (Values n c) bits x t e h = reach_value n c x t e h.0 h.1
reach_next (Waiting n last) bits x t e h = reach_if (is_time last x) (Changing n last (time_in x)) t e (λ f. let g = time_later last x f in (h.0, h.1, g.0, g.1))
reach_next (Changing n last u) bits x t e h = reach_if (is_change n bits x) (Waiting n u) t e (λ f. (h.0, h.1))

pub idle_length : (g : ℕ) (w : List ℕ) → length (idle g w) ≡ 3 * g + length w
unfolding idle
idle_length zero w = omega arith
idle_length (suc g) w = omega (arith, idle_length g w)

-- what is accepted behind a line was accepted from where it leads
pub onward : (o : Option Stage) (k m e : ℕ) (f : Stage → Verdict) → unless o (Err k) f ≡ Ok (m, e)
    → (t : Stage) × (o ≡ Some t) × (f t ≡ Ok (m, e))
onward (Some t) k m e f u = (t, refl, u)
onward None k m e f u = bad_not u

last_if : (b : Bool) (s t : Stage) → (if b then Some s else None) ≡ Some t → last_in s ≡ 0 → last_in t ≡ 0
last_if b s t e f = rw (some_if b s t e).1 f

last_variable : (n : ℕ) (x : List ℕ) (t : Stage) → after_variable n x ≡ Some t → last_in t ≡ 0
unfolding after_variable
last_variable n x t e = go (if ltb n 94 then same x (var_line n) else false) (if ltb 0 n then same x upscope else false) e
  where
    go : (a b : Bool) → (if a then Some (Variables (n + 1)) else if b then Some (Ending n) else None) ≡ Some t → last_in t ≡ 0
    go true b e = let s : t ≡ Variables (n + 1) = cc in rw s
    go false true e = let s : t ≡ Ending n = cc in rw s
    go false false e = cc

last_value : (n c : ℕ) (x : List ℕ) (t : Stage) → after_value n c x ≡ Some t → last_in t ≡ 0
unfolding after_value
last_value n c x t e = last_if (same x (bit_line 0 c)) (if ltb (c + 1) n then Values n (c + 1) else Waiting n 0) t e (go (ltb (c + 1) n))
  where
    go : (b : Bool) → last_in (if b then Values n (c + 1) else Waiting n 0) ≡ 0
    go true = refl
    go false = refl

-- the words of one line that was taken
line_count : (s : Stage) (bits x w : List ℕ) (t : Stage) → Reach s → next_of s bits x ≡ Some t
    → length (script_words_at s bits x w) + 3 * last_in s ≡ length w + 3 * last_in t
line_count Opening bits x w t h e = omega (arith, last_if (same x timescale) Scope t e refl)
line_count Scope bits x w t h e = omega (arith, last_if (same x scope_line) (Variables 0) t e refl)
line_count (Variables n) bits x w t h e = omega (arith, last_variable n x t e)
line_count (Ending n) bits x w t h e = omega (arith, last_if (same x end_line) (Start n) t e refl)
line_count (Start n) bits x w t h e = omega (arith, last_if (same x (time_line 0)) (Values n 0) t e refl)
line_count (Values n c) bits x w t h e = omega (arith, last_value n c x t e)
line_count (Waiting n last) bits x w t h e = rw (some_if (is_time last x) (Changing n last (time_in x)) t e).1
line_count (Changing n last u) bits x w t h e =
    rw (some_if (is_change n bits x) (Waiting n u) t e).1
    (omega (arith, h.2, idle_length (u - (last + 1)) (kind_for (get_or bits (cell_in x) 0) ∷ cell_in x ∷ 0 ∷ w)))

end_count : (s : Stage) (k m e : ℕ) → at_end s k ≡ Ok (m, e) → last_in s ≡ e
end_count Opening k m e v = bad_not v
end_count Scope k m e v = bad_not v
end_count (Variables n) k m e v = bad_not v
end_count (Ending n) k m e v = bad_not v
end_count (Start n) k m e v = bad_not v
end_count (Values n c) k m e v = bad_not v
end_count (Waiting n last) k m e v = (both_numbers n last m e v).1
end_count (Changing n last t) k m e v = bad_not v

words_from : (r : Items) (k m e : ℕ) (s : Stage) (bits : List ℕ) → Reach s → verdict_of k s bits r ≡ Ok (m, e)
    → length (script_words_of s bits r) + 3 * last_in s ≡ 3 * e
unfolding verdict_of script_words_of
words_from finish k m e s bits h v = omega (arith, end_count s k m e v)
words_from (torn x) k m e s bits h v = bad_not v
words_from (line x r) k m e s bits h v =
    let u = onward (next_of s bits x) k m e (λ t. verdict_of (k + 1) t (bits_of s bits x) r) v in
    let w : List ℕ = script_words_of u.0 (bits_of s bits x) r in
    rw u.1 (omega (arith, line_count s bits x w u.0 h u.1, words_from r (k + 1) m e u.0 (bits_of s bits x) (reach_next s bits x u.0 u.1 h) u.2))

-- a text that is accepted has three words for each step up to its last change
pub words_count : (r : Items) (m e : ℕ) (bits : List ℕ) → verdict_of 1 Opening bits r ≡ Ok (m, e)
    → length (script_words_of Opening bits r) ≡ 3 * e
words_count r m e bits v = omega (arith, words_from r 1 m e Opening bits tt v)
