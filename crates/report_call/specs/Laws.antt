-- Laws of the report: one turn of each loop, bounds, and that a pass over the input leaves the sums over the trials that were read.
use Rattle.std.specs.Prelude.{ℕ, zero, suc, ◌+◌, ◌-◌, ◌≤◌, ◌<◌, ◌≡◌, refl, List, [], ◌∷◌, ◌++◌, Bool, true, false, eqb, ltb, length, get_or, drop, set, replicate, if◌then◌else◌, Some, None}
use Rattle.std.specs.declared.option.Option.{Option}
use Rattle.std.specs.declared.result.Result.{Result}
use Rattle.std.specs.declared.result.Result.TheVariants.{Ok, Err}
use Rattle.std.specs.Option.{option_and_then, option_map_or}
use Rattle.std.proofs.lemmas.Option.{none-some, same_Some, option_and_then_some}
use Rattle.std.proofs.Common.{sym, ap, subst, ◌∙◌, arith, length-set, length-append, length-drop, get_or-set_same, get_or-set_other, eqb-true, eq-eqb, ne_eqb, lt-ltb, le-ltb, ltb-true, ltb-false}
use Rattle.std.proofs.Math.Decide.{ℕ_discrete, dec_lt}
use Rattle.std.proofs.lemmas.List.{get_or-replicate}
use Rattle.std.proofs.Math.ListN.{get_or-eq_default}
use Rattle.std.proofs.lemmas.List.Edits.{sets}
use Rattle.std.proofs.Math.Seq.{set_out}
use Rattle.text.specs.declared.Number.{Number}
use Rattle.text.specs.Text.{read_number_of, digits_read}
use Rattle.text.specs.Laws.{number_within}
use Rattle.model.specs.Names.{name_of}
use Rattle.print.specs.Print.{put_of, form_of}
use Rattle.print.specs.Laws.{put_none, put_first, form_size}
use Rattle.report_rules.specs.declared.Trial.{Trial}
use Rattle.report_rules.specs.declared.Line.{Line}
use Rattle.report_call.specs.declared.Sums.{Sums}
use Rattle.report_rules.specs.declared.NoRoom.{NoRoom}
use Rattle.report_rules.specs.Reading.{Small, Reading, bad_line, results, onto, no_line, line_with, fits_of, end_at, refusal_at, line_at, read_from, read_of}
use Rattle.report_rules.specs.Sums.{count_of, attempts_of, larger_of, greatest_of}
use Rattle.report_call.specs.Scan.{no_sums, counted_of, added_of, scan_from, scan_of, Bounded, seen_in, printed_of}
use Rattle.report_rules.specs.Long.{fits_is}
use Rattle.report_names.specs.Table.{name_short}
use Rattle.report_rules.specs.Report.{head_form, number_form, count_form, row_of, rows_of, head_of, text_of, text_for, answer_of, report_of}

-- ---- a line that is read

-- a number that is read and fits ends within the input
pub fitting_short : (l : List ℕ) (at most : ℕ) (number : Number) → Some number ≡ fits_of (read_number_of (drop at l)) most → number.digits ≤ length l - at
fitting_short l at most number e =
    let r = fits_is (read_number_of (drop at l)) most number (sym e) in
    omega (arith, number_within (drop at l), length-drop at l, ap digits_read r.0)

-- what a line that is read promises: a small trial, and a next line behind it, within the input
pub record Good (input : List ℕ) (at : ℕ) (line : Line) : Type 0 where
  pub small : Small line.trial
  pub on : at < line.next
  pub within : line.next ≤ length input

abbrev Fine : List ℕ → ℕ → Option Line → Type 0
Fine input at o = (line : Line) → o ≡ Some line → Good input at line

nothing : (input : List ℕ) (at : ℕ) → Fine input at no_line
nothing input at line e = absurd (none-some line e)

-- a line feed stands within the input
pub in_range : (l : List ℕ) (at b : ℕ) → get_or l at 0 ≡ b → 0 < b → at < length l
in_range l at b e p = go (dec_lt at (length l))
  where
    go : Dec (at < length l) → at < length l
    go (yes h) = h
    go (no h) = absurd (omega (arith, e, get_or-eq_default l 0 {n = at} (omega arith)))

end_good : (input : List ℕ) (from at attempts refusal : ℕ) → from ≤ at → attempts ≤ 262144 → refusal ≤ 16 → Fine input from (end_at input at attempts refusal)
unfolding end_at
end_good input from at attempts refusal h p q = go (eqb (get_or input at 0) 10) refl
  where
    go : (b : Bool) → eqb (get_or input at 0) 10 ≡ b → Fine input from (if b then line_with attempts refusal (at + 1) else no_line)
    go true e line f =
        let r = in_range input at 10 (eqb-true (get_or input at 0) 10 e) (omega arith) in
        subst (λ (l : Line). Good input from l) (same_Some _ line f) record { small = record { tries = p; known = q }; on = omega arith; within = omega (arith, r) }
    go false e line f = nothing input from line f

refusal_good : (input : List ℕ) (from at attempts : ℕ) → from ≤ at → attempts ≤ 262144 → Fine input from (refusal_at input at attempts)
unfolding refusal_at
refusal_good input from at attempts h p = go (eqb (get_or input at 0) 32)
  where
    ends : Number → Option Line
    ends n = end_at input (at + 1 + n.digits) attempts n.value

    go : (b : Bool) → Fine input from (if b then option_and_then ends (fits_of (read_number_of (drop (at + 1) input)) 16) else no_line)
    go true line e =
        option_and_then_some ends (fits_of (read_number_of (drop (at + 1) input)) 16) line e
        (λ n f g. end_good input from (at + 1 + n.digits) attempts n.value (omega arith) p (fits_is (read_number_of (drop (at + 1) input)) 16 n f).1 line g)
    go false line e = nothing input from line e

-- of a line that is read
pub line_good : (input : List ℕ) (at : ℕ) (line : Line) → Some line ≡ line_at input at → Good input at line
unfolding line_at
line_good input at line e =
    option_and_then_some (λ (n : Number). refusal_at input (at + n.digits) n.value) (fits_of (read_number_of (drop at input)) 262144) line (sym e)
    (λ n f g. refusal_good input at (at + n.digits) n.value (omega arith) (fits_is (read_number_of (drop at input)) 262144 n f).1 line g)

-- ---- one trial more

counted_few : (counts : List ℕ) (j n k : ℕ) → get_or counts j 0 ≤ n → get_or counts k 0 ≤ n → get_or (counted_of counts j) k 0 ≤ n + 1
counted_few counts j n k h p = go (ℕ_discrete k j) (dec_lt j (length counts))
  where
    go : Dec (k ≡ j) → Dec (j < length counts) → get_or (set counts j (get_or counts j 0 + 1)) k 0 ≤ n + 1
    go (yes e) (yes l) = rw (e, get_or-set_same counts j (get_or counts j 0 + 1) 0 l) (omega arith)
    go (yes e) (no l) = rw (set_out counts j (get_or counts j 0 + 1) (omega arith)) (omega arith)
    go (no e) l = rw (get_or-set_other counts j k (get_or counts j 0 + 1) 0 e) (omega arith)

pub added_bounded : (s : Sums) (t : Trial) → Bounded s → s.trials < 1000 → Small t → Bounded (added_of s t)
added_bounded s t h l m =
    record {
      lines = omega arith;
      tries = omega (arith, h.tries, m.tries);
      few = λ k. counted_few s.counts t.refusal s.trials k (h.few t.refusal) (h.few k);
    }

pub nothing_bounded : Bounded no_sums
nothing_bounded = record { lines = omega arith; tries = omega arith; few = λ number. go number (dec_lt number 17) }
  where
    go : (number : ℕ) → Dec (number < 17) → get_or (replicate 17 0) number 0 ≤ 0
    go number (yes h) = rw (get_or-replicate {A = ℕ} 17 number 0 0 h) (omega arith)
    go number (no h) = rw (get_or-eq_default {A = ℕ} (replicate 17 0) 0 {n = number} (omega arith)) (omega arith)

-- ---- the loop over lines: one turn, and its ends; the next line is of this number

module _ (input : List ℕ) (number at : ℕ) (s : Sums) where
  pub scan_turn : (line : Line) → number < 1001 → at < length input → Some line ≡ line_at input at
      → scan_from input (1001 - (number + 1)) line.next (added_of s line.trial) ≡ scan_from input (1001 - number) at s
  unfolding scan_from
  scan_turn line l h e = let n : 1001 - number ≡ suc (1001 - (number + 1)) = omega arith in rw (n, lt-ltb _ _ h, ← e)

  pub scan_bad : number < 1001 → at < length input → None ≡ line_at input at → Err (s.trials + 1) ≡ scan_from input (1001 - number) at s
  unfolding scan_from
  scan_bad l h e = let n : 1001 - number ≡ suc (1001 - (number + 1)) = omega arith in rw (n, lt-ltb _ _ h, ← e)

  -- line 1,001
  pub scan_over : 1001 ≤ number → at < length input → Err (s.trials + 1) ≡ scan_from input (1001 - number) at s
  unfolding scan_from
  scan_over l h = let n : 1001 - number ≡ 0 = omega arith in rw (n, lt-ltb _ _ h)

pub scan_end : (input : List ℕ) (left at : ℕ) (s : Sums) → length input ≤ at → Ok s ≡ scan_from input left at s
unfolding scan_from
scan_end input zero at s h = rw (le-ltb _ _ h)
scan_end input (suc left) at s h = rw (le-ltb _ _ h)

-- ---- the sums of a pass are those over the trials that were read

-- trial by trial
abbrev sums_from : Sums → List Trial → Sums
sums_from s [] = s
sums_from s (t ∷ ts) = sums_from (added_of s t) ts

abbrev counts_from : List ℕ → List Trial → List ℕ
counts_from counts [] = counts
counts_from counts (t ∷ ts) = counts_from (counted_of counts t.refusal) ts

-- what a pass leaves, where this was read
abbrev Summed : Sums → Reading → Result Sums ℕ → Type 0
Summed s (bad_line n) o = o ≡ Err n
Summed s (results ts) o = o ≡ Ok (sums_from s ts)

with_one : (s : Sums) (t : Trial) (r : Reading) (o : Result Sums ℕ) → Summed (added_of s t) r o → Summed s (onto t r) o
with_one s t (bad_line n) o h = h
with_one s t (results ts) o h = h

pass : (input : List ℕ) (left at : ℕ) (s : Sums) → Summed s (read_from input left (s.trials + 1) at) (scan_from input left at s)
unfolding read_from scan_from
pass input zero at s = go (ltb at (length input))
  where
    go : (b : Bool) → Summed s (if b then bad_line (s.trials + 1) else results []) (if b then Err (s.trials + 1) else Ok s)
    go true = refl
    go false = refl
pass input (suc left) at s = go (ltb at (length input)) (line_at input at) (λ line. pass input left line.next (added_of s line.trial))
  where
    go : (b : Bool) (o : Option Line)
        → ((line : Line) → Summed (added_of s line.trial) (read_from input left (s.trials + 1 + 1) line.next) (scan_from input left line.next (added_of s line.trial)))
        → Summed s
        (if b then option_map_or (λ (line : Line). onto line.trial (read_from input left (s.trials + 1 + 1) line.next)) o (bad_line (s.trials + 1)) else results [])
        (if b then option_map_or (λ (line : Line). scan_from input left line.next (added_of s line.trial)) o (Err (s.trials + 1)) else Ok s)
    go true (Some line) h = with_one s line.trial (read_from input left (s.trials + 1 + 1) line.next) (scan_from input left line.next (added_of s line.trial)) (h line)
    go true None h = refl
    go false o h = refl

larger_assoc : (a b c : ℕ) → larger_of (larger_of a b) c ≡ larger_of a (larger_of b c)
larger_assoc a b c = go (ltb a b) (ltb b c) refl refl
  where
    go : (p q : Bool) → ltb a b ≡ p → ltb b c ≡ q → larger_of (if p then b else a) c ≡ larger_of a (if q then c else b)
    go true true e f = let h : a < c = omega (arith, ltb-true a b e, ltb-true b c f) in rw (f, lt-ltb a c h)
    go true false e f = rw (f, e)
    go false true e f = refl
    go false false e f = let h : c ≤ a = omega (arith, ltb-false a b e, ltb-false b c f) in rw (e, le-ltb a c h)

-- "the sums are proved to equal those over the single results"
pub sums_are : (s : Sums) (ts : List Trial)
    → sums_from s ts ≡ record { trials = s.trials + length ts; attempts = s.attempts + attempts_of ts; greatest = larger_of s.greatest (greatest_of ts); counts = counts_from s.counts ts }
unfolding attempts_of greatest_of
sums_are s [] =
    let a : s.trials + 0 ≡ s.trials = omega arith in
    let b : s.attempts + 0 ≡ s.attempts = omega arith in
    let c : ltb s.greatest 0 ≡ false = le-ltb s.greatest 0 (omega arith) in
    rw (a, b, c)
sums_are s (t ∷ ts) =
    let a : s.trials + 1 + length ts ≡ s.trials + suc (length ts) = omega arith in
    let b : s.attempts + t.attempts + attempts_of ts ≡ s.attempts + (t.attempts + attempts_of ts) = omega arith in
    rw (sums_are (added_of s t) ts, a, b, larger_assoc s.greatest t.attempts (greatest_of ts))

pub counts_are : (counts : List ℕ) (ts : List Trial) (k : ℕ) → k < length counts → get_or (counts_from counts ts) k 0 ≡ get_or counts k 0 + count_of k ts
unfolding count_of
counts_are counts [] k h = omega arith
counts_are counts (t ∷ ts) k h =
    let r = counts_are (counted_of counts t.refusal) ts k (omega (arith, length-set counts t.refusal (get_or counts t.refusal 0 + 1))) in
    go (ℕ_discrete t.refusal k) r
  where
    go : Dec (t.refusal ≡ k) → get_or (counts_from (counted_of counts t.refusal) ts) k 0 ≡ get_or (counted_of counts t.refusal) k 0 + count_of k ts
        → get_or (counts_from (counted_of counts t.refusal) ts) k 0 ≡ get_or counts k 0 + ((if eqb t.refusal k then 1 else 0) + count_of k ts)
    go (yes e) r = rw (r, eq-eqb t.refusal k e, e, get_or-set_same counts k (get_or counts k 0 + 1) 0 h) (omega arith)
    go (no e) r = rw (r, ne_eqb t.refusal k e, get_or-set_other counts t.refusal k (get_or counts t.refusal 0 + 1) 0 (λ z. e (sym z))) (omega arith)

-- ---- lines of refusals

rows_same : (f g : ℕ → ℕ) (number left : ℕ) → ((k : ℕ) → k < number + left → f k ≡ g k) → rows_of f number left ≡ rows_of g number left
unfolding rows_of
rows_same f g number zero h = refl
rows_same f g number (suc left) h =
    rw (h number (omega arith), rows_same f g (number + 1) left (λ k l. h k (omega arith)))

pub row_few : (number count : ℕ) → length (row_of number count) ≤ 120
unfolding row_of
row_few number count = go (eqb count 0)
  where
    go : (b : Bool) → length (if b then [] else form_of number_form (number ∷ []) ++ (name_of number ++ form_of count_form (count ∷ []))) ≤ 120
    go true = omega arith
    go false =
        omega (
          arith,
          length-append (form_of number_form (number ∷ [])) (name_of number ++ form_of count_form (count ∷ [])),
          length-append (name_of number) (form_of count_form (count ∷ [])),
          form_size number_form (number ∷ []),
          form_size count_form (count ∷ []),
          name_short number,
        )

pub head_few : (count grants attempts greatest : ℕ) → length (head_of count grants attempts greatest) ≤ 2000
unfolding head_of
head_few count grants attempts greatest = omega (arith, form_size head_form (count ∷ grants ∷ attempts ∷ count ∷ greatest ∷ []))

pub rows_turn : (l m : List ℕ) (i j : ℕ) (seen : ℕ → ℕ) (number : ℕ) → number < 17 → (j, m) ≡ put_of l i (row_of number (seen number))
    → put_of m j (rows_of seen (number + 1) (17 - (number + 1))) ≡ put_of l i (rows_of seen number (17 - number))
unfolding rows_of
rows_turn l m i j seen number h e =
    let n : 17 - number ≡ suc (17 - (number + 1)) = omega arith in
    rw n (put_first l m i j (row_of number (seen number)) _ e)

pub rows_end : (l : List ℕ) (i : ℕ) (seen : ℕ → ℕ) (number : ℕ) → 17 ≤ number → (i, l) ≡ put_of l i (rows_of seen number (17 - number))
unfolding rows_of
rows_end l i seen number h = let n : 17 - number ≡ 0 = omega arith in rw n (put_none l i)

-- ---- the whole

printed_for : (r : Reading) (o : Result Sums ℕ) → Summed no_sums r o → printed_of o ≡ text_for r
unfolding printed_of text_of
printed_for (bad_line n) o h = rw h
printed_for (results ts) o h =
    let p = sums_are no_sums ts in
    let c : (k : ℕ) → k < 17 → get_or (counts_from (replicate 17 0) ts) k 0 ≡ count_of k ts = λ k l. counts_are (replicate 17 0) ts k l ∙ rw (get_or-replicate {A = ℕ} 17 k 0 0 l) (omega arith) in
    let a : 0 + length ts ≡ length ts = omega arith in
    let b : 0 + attempts_of ts ≡ attempts_of ts = omega arith in
    let g : larger_of 0 (greatest_of ts) ≡ greatest_of ts = none (greatest_of ts) in
    rw (h, p, a, b, g, c 0 (omega arith), rows_same (seen_in (counts_from (replicate 17 0) ts)) (λ (k : ℕ). count_of k ts) 1 16 (λ k l. c k (omega arith)))
  where
    none : (n : ℕ) → larger_of 0 n ≡ n
    none zero = refl
    none (suc n) = let h : 0 < suc n = omega arith in rw (lt-ltb 0 (suc n) h)

-- the whole from input bytes to output bytes
pub printed_is : (input : List ℕ) (o : Result Sums ℕ) → o ≡ scan_of input → printed_of o ≡ answer_of input
unfolding scan_of answer_of read_of
printed_is input o e = printed_for (read_from input 1000 1 0) o (rw e (pass input 1000 0 no_sums))

pub report_is : (input out : List ℕ) (o : Result Sums ℕ) (m : List ℕ) (r : ℕ) → 4096 ≤ length out → o ≡ scan_of input → (r, m) ≡ put_of out 0 (printed_of o)
    → ◌≡◌ {A = Result ℕ NoRoom × List ℕ} (Ok r, m) (report_of input out)
unfolding report_of put_of
report_is input out o m r h e f =
    let p : printed_of o ≡ answer_of input = printed_is input o e in
    let n : 0 + length (answer_of input) ≡ length (answer_of input) = omega arith in
    let q : ◌≡◌ {A = ℕ × List ℕ} (r, m) (0 + length (answer_of input), sets out 0 (answer_of input)) = rw p at f in
    let i : r ≡ length (answer_of input) = ap (λ (x : ℕ × List ℕ). x.0) q ∙ n in
    let j : m ≡ sets out 0 (answer_of input) = ap (λ (x : ℕ × List ℕ). x.1) q in
    rw (le-ltb _ _ h, i, j)
