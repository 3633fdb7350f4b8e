-- The two calls: what is written reads back, and what is read is written again.
use Rattle.std.specs.Prelude.{ℕ, ◌+◌, ◌*◌, ◌/◌, ◌≤◌, ◌≡◌, refl, List, [], ◌∷◌, Bool, true, false, ltb, length, get_or, take, drop, if◌then◌else◌, Result, Ok, Err}
use Rattle.std.proofs.Common.{sym, ◌∙◌, arith, take_at, le-ltb, ltb-false}
use Rattle.std.proofs.lemmas.List.Edits.{sets, sets-eq}
use Rattle.wave_rules.specs.declared.WriteRefusal.{WriteRefusal}
use Rattle.wave_rules.specs.declared.WriteRefusal.TheVariants as write_refusal
use Rattle.wave_rules.specs.declared.ReadRefusal.{ReadRefusal}
use Rattle.wave_rules.specs.declared.ReadRefusal.TheVariants as read_refusal
use Rattle.wave_rules.specs.Calls.{bad_history, too_wide, fitted_of, write_of, answered, read_into_of}
use Rattle.wave_rules.specs.Dump.{no_bits, changes_of, flip_of, dump_of, Dumpable}
use Rattle.wave_rules.proofs.Limits.{history_good, cells_good, fits_dumpable}
use Rattle.wave_rules.specs.Reader.{idle, kind_for, Reading, read, refused, read_of}
use Rattle.wave_rules.proofs.Stages.{both_numbers, idle_length}
use Rattle.wave_theory.specs.Bits.{bits_after}
use Rattle.wave_theory.specs.Image.{image}
use Rattle.wave_theory.specs.Round.{trim_of, round_trip, same_bits}

-- ---- what the writer writes

-- what was put at the front of a run, and nothing else
front : (x l : List ℕ) → length x ≤ length l → take (length x) (sets l 0 x) ≡ x
front x l h = let k : 0 + length x ≤ length l = omega arith in rw (sets-eq x l 0 k) (take_at x (drop (0 + length x) l) (length x) refl)

-- it writes what is dumpable, if there is room
pub writes : (n : ℕ) (script out : List ℕ) → Dumpable n script → length (dump_of n script) ≤ length out
    → write_of n script out ≡ (Ok (length (dump_of n script)), sets out 0 (dump_of n script))
unfolding write_of fitted_of
writes n script out d r = rw (history_good script d.whole d.short, cells_good n d.some d.few, le-ltb _ _ r)

-- and nothing else
pub record Wrote (n : ℕ) (script out : List ℕ) (size : ℕ) : Type 0 where
  pub dumpable : Dumpable n script
  pub fits : length (dump_of n script) ≤ length out
  pub whole : size ≡ length (dump_of n script)
  pub left : (write_of n script out).1 ≡ sets out 0 (dump_of n script)

abbrev writing : Bool → Bool → Bool → ℕ → List ℕ → List ℕ → Result ℕ WriteRefusal × List ℕ
writing a b c n script out =
    if a then (Err write_refusal.BadScript, out) else
    if b then (Err write_refusal.TooWide, out) else
    if c then (Err write_refusal.NoRoom, out) else
    (Ok (length (dump_of n script)), sets out 0 (dump_of n script))

pub written : (n : ℕ) (script out : List ℕ) (size : ℕ) → (write_of n script out).0 ≡ Ok size
    → Wrote n script out size
unfolding write_of fitted_of
written n script out size =
    go (bad_history script) (too_wide n) (ltb (length out) (length (dump_of n script))) refl refl refl
  where
    go : (a b c : Bool) → bad_history script ≡ a → too_wide n ≡ b → ltb (length out) (length (dump_of n script)) ≡ c
        → (writing a b c n script out).0 ≡ Ok size → Wrote n script out size
    go true b c p q r e = let z : ◌≡◌ {A = ℕ} 0 1 = cc in absurd (omega arith)
    go false true c p q r e = let z : ◌≡◌ {A = ℕ} 0 1 = cc in absurd (omega arith)
    go false false true p q r e = let z : ◌≡◌ {A = ℕ} 0 1 = cc in absurd (omega arith)
    go false false false p q r e =
        record {
          dumpable = fits_dumpable n script p q;
          fits = ltb-false (length out) (length (dump_of n script)) r;
          whole = cc;
          left = rw (p, q, r);
        }

-- ---- what the reader gives

-- what was read back is no longer than the history
trim_length : (n gap : ℕ) (bits script : List ℕ) → length (trim_of n gap bits script) ≤ 3 * gap + length script
unfolding trim_of
trim_length n gap bits [] = omega arith
trim_length n gap bits (kind ∷ []) = omega arith
trim_length n gap bits (kind ∷ cell ∷ []) = omega arith
trim_length n gap bits (kind ∷ cell ∷ number ∷ rest) = go (changes_of n bits kind cell) (trim_length n 0 (flip_of bits cell) rest) (trim_length n (gap + 1) bits rest)
  where
    go : (b : Bool) → length (trim_of n 0 (flip_of bits cell) rest) ≤ 3 * 0 + length rest
        → length (trim_of n (gap + 1) bits rest) ≤ 3 * (gap + 1) + length rest
        → length (if b then idle gap (kind_for (get_or bits cell 0) ∷ cell ∷ 0 ∷ trim_of n 0 (flip_of bits cell) rest) else trim_of n (gap + 1) bits rest)
        ≤ 3 * gap + length (kind ∷ cell ∷ number ∷ rest)
    go true p q = omega (arith, idle_length gap (kind_for (get_or bits cell 0) ∷ cell ∷ 0 ∷ trim_of n 0 (flip_of bits cell) rest))
    go false p q = omega arith

-- a text that is read, into a run that holds it
pub reads : (text room : List ℕ) (n : ℕ) (script : List ℕ) → read_of text ≡ read n script → length script ≤ length room
    → read_into_of text room ≡ (Ok (n, length script / 3), sets room 0 script)
unfolding read_into_of
reads text room n script e r = rw (e, le-ltb _ _ r)

-- what the reader has read
pub record Got (text room : List ℕ) (n steps : ℕ) : Type 0 where
  pub script : List ℕ
  pub told : read_of text ≡ read n script
  pub fits : length script ≤ length room
  pub count : steps ≡ length script / 3
  pub left : (read_into_of text room).1 ≡ sets room 0 script

abbrev reading : Bool → ℕ → List ℕ → List ℕ → Result (ℕ × ℕ) ReadRefusal × List ℕ
reading b m script room = if b then (Err read_refusal.NoRoom, room) else (Ok (m, length script / 3), sets room 0 script)

pub got : (text room : List ℕ) (n steps : ℕ) → (read_into_of text room).0 ≡ Ok (n, steps) → Got text room n steps
unfolding read_into_of
got text room n steps = go (read_of text) refl
  where
    fit : (m : ℕ) (script : List ℕ) (b : Bool) → read_of text ≡ read m script → ltb (length room) (length script) ≡ b
        → (reading b m script room).0 ≡ Ok (n, steps) → Got text room n steps
    fit m script true p q e = let z : ◌≡◌ {A = ℕ} 0 1 = cc in absurd (omega arith)
    fit m script false p q e =
        let w = both_numbers m (length script / 3) n steps e in
        record { script = script; told = rw w.0 at p; fits = ltb-false (length room) (length script) q; count = sym w.1; left = rw (p, q) }

    go : (r : Reading) → read_of text ≡ r → (answered r room).0 ≡ Ok (n, steps) → Got text room n steps
    go (refused k) p e = let z : ◌≡◌ {A = ℕ} 0 1 = cc in absurd (omega arith)
    go (read m script) p e = fit m script (ltb (length room) (length script)) p refl e

-- ---- the two together

-- "what was written reads back as the same bits at the same step numbers": whatever the writer wrote into a lent
-- buffer, the reader takes, into a run that is as long as the history, and the script that it leaves there has the bits
-- of the history at every step
pub calls_read_back : (n : ℕ) (script out room : List ℕ) (size : ℕ) → (write_of n script out).0 ≡ Ok size
    → length script ≤ length room
    → let text = take size (write_of n script out).1 in
    (steps : ℕ) × ((read_into_of text room).0 ≡ Ok (n, steps))
    × ((j : ℕ) → bits_after n no_bits j (take (3 * steps) (read_into_of text room).1) ≡ bits_after n no_bits j script)
calls_read_back n script out room size e r =
    let w = written n script out size e in
    let back : List ℕ = trim_of n 0 no_bits script in
    let t : take size (write_of n script out).1 ≡ dump_of n script = rw (w.whole, w.left) (front (dump_of n script) out w.fits) in
    let l : length back ≤ length room = omega (arith, trim_length n 0 no_bits script) in
    let o = reads (dump_of n script) room n back (round_trip n script w.dumpable) l in
    let d = (image (dump_of n script) n back (round_trip n script w.dumpable)).0 in
    let s : 3 * (length back / 3) ≡ length back = omega (arith, d.whole) in
    (length back / 3, rw (t, o), λ j. rw (t, o, s, front back room l) (same_bits n j script))

-- "The reader takes only what the writer could have written": of what the reader left, the writer makes the text again,
-- byte for byte
pub calls_write_again : (text room out : List ℕ) (n steps : ℕ) → (read_into_of text room).0 ≡ Ok (n, steps)
    → length text ≤ length out
    → write_of n (take (3 * steps) (read_into_of text room).1) out ≡ (Ok (length text), sets out 0 text)
calls_write_again text room out n steps e r =
    let g = got text room n steps e in
    let i = image text n g.script g.told in
    let s : 3 * steps ≡ length g.script = omega (arith, g.count, i.0.whole) in
    let t : take (3 * steps) (read_into_of text room).1 ≡ g.script = rw (s, g.left) (front g.script room g.fits) in
    let l : length (dump_of n g.script) ≤ length out = rw i.1 r in
    rw t (writes n g.script out i.0 l ∙ rw i.1)
