-- The first wrong line is the least k such that no dump begins with lines 1 to k.
use Rattle.std.specs.Prelude.{ℕ, zero, suc, ◌+◌, ◌-◌, ◌≤◌, ◌<◌, ◌≡◌, refl, List, [], ◌∷◌, Bool, true, false, eqb, if◌then◌else◌, Ok, Err, Option, Some, None}
use Rattle.std.proofs.Common.{sym, ap, ◌∙◌, arith}
use Rattle.wave_rules.specs.Lines.{Items, finish, torn, line, put, split_of}
use Rattle.wave_theory.specs.Texts.{items_of, text_of, split_joined, text_split}
use Rattle.wave_rules.specs.Stages.{Reach}
use Rattle.wave_rules.proofs.Stages.{bad_not, onward, reach_next, same_refl}
use Rattle.wave_rules.specs.Dump.{no_bits, flip_of, scope_line, end_line, time_line, first_of, lines_of, dump_of, Dumpable}
use Rattle.wave_rules.specs.declared.Stage.{Stage}
use Rattle.wave_rules.specs.declared.Stage.TheVariants.{Opening, Scope, Variables, Ending, Start, Values, Waiting, Changing}
use Rattle.wave_rules.specs.Reader.{Verdict, next_of, bits_of, at_end, unless, verdict_of, script_words_of, refused, reading_of, read_of}
use Rattle.wave_theory.specs.Round.{Reads, reads_on, reads_values, reads_vars, reads_ending, reads_head, reads_dump, change_line, plain_lines, last_of}
use Rattle.wave_theory.specs.Image.{image_lines}

-- lines 1 to k of a text, or all of it if it has fewer: two texts that agree so far have the same line feeds, or the
-- same end
unfoldable pub lines_to : ℕ → List ℕ → List ℕ
lines_to zero l = []
lines_to (suc k) [] = []
lines_to (suc k) (b ∷ l) = b ∷ (if eqb b 10 then lines_to k l else lines_to (suc k) l)

unfoldable pub cut : ℕ → Items → Items
cut zero r = finish
cut (suc k) finish = finish
cut (suc k) (torn x) = torn x
cut (suc k) (line x r) = line x (cut k r)

put_cut : (b k : ℕ) (r : Items) → put b (cut (suc k) r) ≡ cut (suc k) (put b r)
unfolding cut
put_cut b k finish = refl
put_cut b k (torn x) = refl
put_cut b k (line x r) = refl

split_cut : (k : ℕ) (l : List ℕ) → split_of (lines_to k l) ≡ cut k (split_of l)
unfolding lines_to split_of cut
split_cut zero l = refl
split_cut (suc k) [] = refl
split_cut (suc k) (b ∷ l) = go (eqb b 10) (split_cut k l) (split_cut (suc k) l)
  where
    go : (t : Bool) → split_of (lines_to k l) ≡ cut k (split_of l) → split_of (lines_to (suc k) l) ≡ cut (suc k) (split_of l)
        → (if t then line [] (split_of (if t then lines_to k l else lines_to (suc k) l)) else put b (split_of (if t then lines_to k l else lines_to (suc k) l)))
        ≡ cut (suc k) (if t then line [] (split_of l) else put b (split_of l))
    go true p q = rw p
    go false p q = rw q (put_cut b k (split_of l))

-- ---- no dump goes on so

-- a verdict behind a line: here, or further on
unless_bad : (o : Option Stage) (j k : ℕ) (f : Stage → Verdict) → unless o (Err j) f ≡ Err k → j < k
    → (t : Stage) × (o ≡ Some t) × (f t ≡ Err k)
unless_bad (Some t) j k f e h = (t, refl, e)
unless_bad None j k f e h = let z : j ≡ k = cc in absurd (omega arith)

-- what stands behind a line that leads on
led : (o : Option Stage) (j : ℕ) (f : Stage → Verdict) (t : Stage) (v : Verdict) → o ≡ Some t → f t ≡ v → unless o (Err j) f ≡ v
led o j f t v e g = rw e g

end_bad : (s : Stage) (j k : ℕ) → at_end s j ≡ Err k → j ≡ k
end_bad Opening j k e = cc
end_bad Scope j k e = cc
end_bad (Variables n) j k e = cc
end_bad (Ending n) j k e = cc
end_bad (Start n) j k e = cc
end_bad (Values n c) j k e = cc
end_bad (Waiting n last) j k e = bad_not (sym e)
end_bad (Changing n last t) j k e = cc

-- a wrong line is not before the first that is looked at
bad_from : (r : Items) (j k : ℕ) (s : Stage) (bits : List ℕ) → verdict_of j s bits r ≡ Err k → j ≤ k
unfolding verdict_of
bad_from finish j k s bits e = omega (arith, end_bad s j k e)
bad_from (torn x) j k s bits e = let z : j ≡ k = cc in omega arith
bad_from (line x r) j k s bits e = go (next_of s bits x) (λ t f. bad_from r (j + 1) k t (bits_of s bits x) f) e
  where
    go : (o : Option Stage) → ((t : Stage) → verdict_of (j + 1) t (bits_of s bits x) r ≡ Err k → j + 1 ≤ k)
        → unless o (Err j) (λ t. verdict_of (j + 1) t (bits_of s bits x) r) ≡ Err k → j ≤ k
    go (Some t) f u = omega (arith, f t u)
    go None f u = let z : j ≡ k = cc in omega arith

-- what agrees with a text up to its wrong line is not accepted
no_other : (r o : Items) (j i k n last : ℕ) (s : Stage) (bits : List ℕ) → verdict_of j s bits r ≡ Err k
    → k ≡ j + i → cut (suc i) r ≡ cut (suc i) o → verdict_of j s bits o ≡ Ok (n, last) → ⊥
unfolding verdict_of cut
no_other finish finish j i k n last s bits e h c f = bad_not (sym e ∙ f)
no_other finish (torn y) j i k n last s bits e h c f = bad_not f
no_other finish (line y o) j i k n last s bits e h c f = let z : ◌≡◌ {A = ℕ} 0 1 = cc in omega arith
no_other (torn x) finish j i k n last s bits e h c f = let z : ◌≡◌ {A = ℕ} 0 1 = cc in omega arith
no_other (torn x) (torn y) j i k n last s bits e h c f = bad_not f
no_other (torn x) (line y o) j i k n last s bits e h c f = let z : ◌≡◌ {A = ℕ} 0 1 = cc in omega arith
no_other (line x r) finish j i k n last s bits e h c f = let z : ◌≡◌ {A = ℕ} 0 1 = cc in omega arith
no_other (line x r) (torn y) j i k n last s bits e h c f = bad_not f
no_other (line x r) (line y o) j i k n last s bits e h c f =
    let q : y ≡ x = cc in
    let g : cut i r ≡ cut i o = cc in
    let w = onward (next_of s bits x) j n last (λ t. verdict_of (j + 1) t (bits_of s bits x) o) (rw q at f) in
    let u : verdict_of (j + 1) w.0 (bits_of s bits x) r ≡ Err k = rw w.1 at e in
    go i h g (bad_from r (j + 1) k w.0 (bits_of s bits x) u) (λ p a b. no_other r o (j + 1) p k n last w.0 (bits_of s bits x) u a b w.2)
  where
    go : (i : ℕ) → k ≡ j + i → cut i r ≡ cut i o → j + 1 ≤ k
        → ((p : ℕ) → k ≡ j + 1 + p → cut (suc p) r ≡ cut (suc p) o → ⊥) → ⊥
    go zero a b c f = omega arith
    go (suc p) a b c f = f p (omega arith) b

-- ---- some dump goes on from before it

-- lines with which the reader accepts
pub record Ends (s : Stage) (bits : List ℕ) : Type 0 where
  pub rest : Items
  pub n : ℕ
  pub last : ℕ
  pub words : List ℕ
  pub reads : Reads s bits rest (Ok (n, last)) words

at_rest : (n last : ℕ) (bits : List ℕ) → Reads (Waiting n last) bits (items_of []) (Ok (n, last)) []
unfolding verdict_of script_words_of items_of
at_rest n last bits = record { told = λ j. refl; wrote = refl }

ends : (s : Stage) (bits : List ℕ) → Reach s → Ends s bits
ends Opening bits h = record { rest = _; n = 1; last = 0; words = []; reads = reads_head 1 bits [] (Ok (1, 0)) [] (omega arith) (omega arith) (at_rest 1 0 bits) }
ends Scope bits h =
    let f : next_of Scope bits scope_line ≡ Some (Variables 0) = rw (same_refl scope_line) in
    record { rest = _; n = 1; last = 0; words = []; reads = reads_on Scope (Variables 0) bits scope_line _ (Ok (1, 0)) [] f (reads_vars 1 1 0 bits (end_line ∷ time_line 0 ∷ first_of 0 1 []) (Ok (1, 0)) [] (omega arith) (omega arith) (omega arith) (reads_ending 1 bits [] (Ok (1, 0)) [] (omega arith) (at_rest 1 0 bits))) }
ends (Variables zero) bits h =
    record { rest = _; n = 1; last = 0; words = []; reads = reads_vars 1 1 0 bits (end_line ∷ time_line 0 ∷ first_of 0 1 []) (Ok (1, 0)) [] (omega arith) (omega arith) (omega arith) (reads_ending 1 bits [] (Ok (1, 0)) [] (omega arith) (at_rest 1 0 bits)) }
ends (Variables (suc n)) bits h =
    record { rest = _; n = suc n; last = 0; words = []; reads = reads_vars 0 (suc n) (suc n) bits (end_line ∷ time_line 0 ∷ first_of 0 (suc n) []) (Ok (suc n, 0)) [] (omega arith) (omega arith) h (reads_ending (suc n) bits [] (Ok (suc n, 0)) [] (omega arith) (at_rest (suc n) 0 bits)) }
ends (Ending n) bits h = record { rest = _; n = n; last = 0; words = []; reads = reads_ending n bits [] (Ok (n, 0)) [] h.0 (at_rest n 0 bits) }
ends (Start n) bits h =
    let f : next_of (Start n) bits (time_line 0) ≡ Some (Values n 0) = rw (same_refl (time_line 0)) in
    record { rest = _; n = n; last = 0; words = []; reads = reads_on (Start n) (Values n 0) bits (time_line 0) _ (Ok (n, 0)) [] f (reads_values (n - 1) n 0 bits [] (Ok (n, 0)) [] (omega (arith, h.0)) (at_rest n 0 bits)) }
ends (Values n c) bits h = record { rest = _; n = n; last = 0; words = []; reads = reads_values (n - (c + 1)) n c bits [] (Ok (n, 0)) [] (omega (arith, h.0)) (at_rest n 0 bits) }
ends (Waiting n last) bits h = record { rest = _; n = n; last = last; words = []; reads = at_rest n last bits }
ends (Changing n last t) bits h = record { rest = _; n = n; last = t; words = _; reads = change_line n last t 0 bits (items_of []) (Ok (n, t)) [] h.2 h.3 h.0 (at_rest n t (flip_of bits 0)) }

-- a text that agrees with this one for i lines, and is accepted
pub record Other (j i : ℕ) (s : Stage) (bits : List ℕ) (r : Items) : Type 0 where
  pub rest : Items
  pub n : ℕ
  pub last : ℕ
  pub accepted : verdict_of j s bits rest ≡ Ok (n, last)
  pub agrees : cut i rest ≡ cut i r

other : (r : Items) (j i k : ℕ) (s : Stage) (bits : List ℕ) → Reach s → verdict_of j s bits r ≡ Err k
    → k ≡ j + i → Other j i s bits r
unfolding verdict_of cut
other r j zero k s bits h e f = let d = ends s bits h in record { rest = d.rest; n = d.n; last = d.last; accepted = d.reads.told j; agrees = refl }
other finish j (suc i) k s bits h e f = let z = end_bad s j k e in absurd (omega arith)
other (torn x) j (suc i) k s bits h e f = let z : j ≡ k = cc in absurd (omega arith)
other (line x r) j (suc i) k s bits h e f =
    let u = unless_bad (next_of s bits x) j k (λ t. verdict_of (j + 1) t (bits_of s bits x) r) e (omega arith) in
    let d = other r (j + 1) i k u.0 (bits_of s bits x) (reach_next s bits x u.0 u.1 h) u.2 (omega arith) in
    record { rest = line x d.rest; n = d.n; last = d.last; accepted = led (next_of s bits x) j (λ t. verdict_of (j + 1) t (bits_of s bits x) d.rest) u.0 (Ok (d.n, d.last)) u.1 d.accepted; agrees = cc d.agrees }

-- ---- the refused line

pub record FirstWrong (text : List ℕ) (k : ℕ) : Type 0 where
  pub counted : 1 ≤ k
  pub nobody : (n : ℕ) (script : List ℕ) → Dumpable n script → lines_to k (dump_of n script) ≡ lines_to k text → ⊥
  pub before : (i : ℕ) → i < k
      → (n : ℕ) × (script : List ℕ) × Dumpable n script × (lines_to i (dump_of n script) ≡ lines_to i text)

-- fewer lines of some lines
cut_cut : (i j : ℕ) (r : Items) → i ≤ j → cut i (cut j r) ≡ cut i r
unfolding cut
cut_cut zero j r h = refl
cut_cut (suc i) zero r h = absurd (omega arith)
cut_cut (suc i) (suc j) finish h = refl
cut_cut (suc i) (suc j) (torn x) h = refl
cut_cut (suc i) (suc j) (line x r) h = ap (line x) (cut_cut i j r (omega arith))

-- texts whose lines agree so far agree so far
same_lines : (i : ℕ) (a b : List ℕ) → cut i (split_of a) ≡ cut i (split_of b) → lines_to i a ≡ lines_to i b
same_lines i a b e = sym (text_split (lines_to i a)) ∙ ap text_of (split_cut i a ∙ e ∙ sym (split_cut i b)) ∙ text_split (lines_to i b)

pub first_wrong : (text : List ℕ) (k : ℕ) → read_of text ≡ refused k → FirstWrong text k
unfolding read_of dump_of
first_wrong text k = go (verdict_of 1 Opening no_bits (split_of text)) refl
  where
    go : (v : Verdict) → verdict_of 1 Opening no_bits (split_of text) ≡ v
        → reading_of v (script_words_of Opening no_bits (split_of text)) ≡ refused k → FirstWrong text k
    go (Ok (n, last)) e f = let z : ◌≡◌ {A = ℕ} 0 1 = cc in absurd (omega arith)
    go (Err p) e f =
        let q : p ≡ k = cc in
        let b : verdict_of 1 Opening no_bits (split_of text) ≡ Err k = cc in
        let from = bad_from (split_of text) 1 k Opening no_bits b in
        let one : k ≡ 1 + (k - 1) = omega arith in
        let whole : suc (k - 1) ≡ k = omega arith in
        let d = other (split_of text) 1 (k - 1) k Opening no_bits tt b one in
        let i = image_lines d.rest d.n d.last no_bits refl d.accepted in
        let w : List ℕ = script_words_of Opening no_bits d.rest in
        let s : split_of (dump_of d.n w) ≡ d.rest = split_joined (lines_of d.n w) (plain_lines d.n w) ∙ sym i.1 in
        record {
          counted = from;
          nobody = λ n script dumpable agree.
              let c : cut k (split_of (dump_of n script)) ≡ cut k (split_of text) = sym (split_cut k (dump_of n script)) ∙ ap split_of agree ∙ split_cut k text in
              let o : split_of (dump_of n script) ≡ items_of (lines_of n script) = split_joined (lines_of n script) (plain_lines n script) in
              let c' : cut (suc (k - 1)) (split_of text) ≡ cut (suc (k - 1)) (items_of (lines_of n script)) = rw (whole, ← o) (sym c) in
              no_other (split_of text) (items_of (lines_of n script)) 1 (k - 1) k n (last_of n 1 0 no_bits script) Opening no_bits b one c' ((reads_dump n script dumpable).told 1);
          before = λ p h.
              let less : p ≤ k - 1 = omega arith in
              let g : cut (k - 1) (split_of (dump_of d.n w)) ≡ cut (k - 1) (split_of text) = ap (cut (k - 1)) s ∙ d.agrees in
              (d.n, w, i.0, same_lines p (dump_of d.n w) text (sym (cut_cut p (k - 1) (split_of (dump_of d.n w)) less) ∙ ap (cut p) g ∙ cut_cut p (k - 1) (split_of text) less));
        }
