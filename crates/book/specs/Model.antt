-- Laws for the calls: what a head that fits has, and how a write and a read end, once what they are given passes.
use Rattle.std.specs.Prelude.{ℕ, ◌+◌, ◌*◌, ◌-◌, ◌≤◌, ◌<◌, ◌≡◌, refl, List, Bool, true, false, length, replicate, Ok, Err}
use Rattle.std.proofs.Common.{sym, ◌∙◌, arith, mul-le-mul}
use Rattle.laws.specs.Shape.{Shaped, shaped}
use Rattle.model.specs.Arena.{cells_of, head_fits}
use Rattle.types.specs.declared.Head.{Head}
use Rattle.types.specs.declared.Lease.{Lease}
use Rattle.setpoint.specs.declared.Setpoint.{Setpoint}
use Rattle.book_rules.specs.Layout.{slots_of, lines_of, place_at, newest_at, is_sound}
use Rattle.book_sound.specs.Scan.{scan_of, scan_is, Marked}
use Rattle.book_rules.specs.Writing.{put_of}
use Rattle.book_rules.specs.Rules.{BookAnswer, BookCheck, first_fault, judge_book, claim_rules, over_rules, open_rules, kept_rules}
use Rattle.book_rules.specs.Calls.{written_of, write_setpoint_of, line_read, read_version_of}
use Rattle.book_rules.proofs.Sound.{sound_is}
use Rattle.book_rules.specs.Outcomes.{Keeps}
use Rattle.book_rules.proofs.Readings.{kept_line}
use Rattle.book_rules.specs.Fine.{OpenFine, or_then}
use Rattle.book_rules.proofs.Fine.{faults_append, head_alone}

-- ---- the head alone

pub head_shaped : (h : Head) → head_fits h ≡ true → Shaped h (3 * cells_of h)
head_shaped h e = shaped h (3 * cells_of h) (sym (head_alone h) ∙ e)

misfit : (h : Head) → (Shaped h (3 * cells_of h) → ⊥) → false ≡ head_fits h
misfit h n = go (head_fits h) refl
  where
    go : (b : Bool) → head_fits h ≡ b → false ≡ b
    go true e = absurd (n (head_shaped h e))
    go false e = refl

pub many_headers : (h : Head) → 64 < h.headers → false ≡ head_fits h
many_headers h l = misfit h (λ s. omega (arith, s.few_headers))

pub many_buckets : (h : Head) → 1024 < h.buckets → false ≡ head_fits h
many_buckets h l = misfit h (λ s. omega (arith, s.few_buckets))

pub some_slots : (h : Head) → head_fits h ≡ true → 1 ≤ slots_of h
some_slots h e = let s = head_shaped h e in omega (arith, mul-le-mul s.some_headers s.some_buckets)

-- ---- the scan of a book within the limit, with 6,550 marks of 0: whether it is sound, and where its bodies begin

pub scanned : (n : ℕ) (b : List ℕ) (o : Bool × List ℕ) → 1 ≤ n → length b ≤ 32768 → o ≡ scan_of n b (lines_of n) 0 (replicate 6550 0)
    → (o.0 ≡ is_sound n b) × (o.0 ≡ true → Marked n b 6548 (lines_of n) o.1)
scanned n b o some limit e = scan_is n b 6548 o (omega arith) e

-- ---- writing over what the book says, once the checks on what was given are fine

unfoldable pub write_over_of : ℕ → List ℕ → ℕ → Setpoint → BookAnswer × List ℕ
write_over_of n b slot s =
    judge_book (first_fault (over_rules n b slot)) (λ r. (Err r, b)) (written_of (newest_at b slot + 1) (put_of n b slot s (newest_at b slot + 1)))

-- the call, by what the checks on what it was given come to
pub write_is : (h : Head) (t b : List ℕ) (slot : ℕ) (l : Lease) (s : Setpoint)
    → write_setpoint_of h t b slot l s ≡ judge_book (first_fault (claim_rules h t (length b) slot l s)) (λ r. (Err r, b)) (write_over_of (slots_of h) b slot s)
unfolding write_setpoint_of write_over_of
write_is h t b slot l s =
    rw (faults_append (claim_rules h t (length b) slot l s) (over_rules (slots_of h) b slot)) (go (first_fault (claim_rules h t (length b) slot l s)))
  where
    done : BookAnswer × List ℕ
    done = written_of (newest_at b slot + 1) (put_of (slots_of h) b slot s (newest_at b slot + 1))

    go : (c : BookCheck)
        → judge_book (or_then c (first_fault (over_rules (slots_of h) b slot))) (λ r. (Err r, b)) done
        ≡ judge_book c (λ r. (Err r, b)) (judge_book (first_fault (over_rules (slots_of h) b slot)) (λ r. (Err r, b)) done)
    go (Ok tt) = refl
    go (Err r) = refl

-- ---- reading a version of a book that is open to reads

unfoldable pub read_kept_of : List ℕ → ℕ → ℕ → BookAnswer
read_kept_of b slot w = judge_book (first_fault (kept_rules b slot w)) Err (line_read b (4 * slot + (newest_at b slot - w)) w)

pub read_is : (h : Head) (b : List ℕ) (slot w : ℕ) → read_version_of h b slot w ≡ judge_book (first_fault (open_rules h b slot)) Err (read_kept_of b slot w)
unfolding read_version_of read_kept_of
read_is h b slot w = rw (faults_append (open_rules h b slot) (kept_rules b slot w)) (go (first_fault (open_rules h b slot)))
  where
    told : BookAnswer
    told = line_read b (4 * slot + (newest_at b slot - w)) w

    go : (c : BookCheck)
        → judge_book (or_then c (first_fault (kept_rules b slot w))) Err told ≡ judge_book c Err (judge_book (first_fault (kept_rules b slot w)) Err told)
    go (Ok tt) = refl
    go (Err r) = refl

-- the body of each kept version lies in the book
abbrev pub Readable : List ℕ → ℕ → Type 0
Readable b slot = (w : ℕ) → Keeps (newest_at b slot) w → place_at b (4 * slot + (newest_at b slot - w)) + 5 ≤ length b

pub open_readable : (h : Head) (b : List ℕ) (slot : ℕ) → OpenFine h b slot → Readable b slot
open_readable h b slot o w k =
    let s = sound_is (slots_of h) b o.sound in
    let i = o.slot_is.inside in
    s.fits.within (4 * slot + (newest_at b slot - w)) (omega (arith, k.0, k.1, k.2)) (omega (arith, kept_line (slots_of h) b slot w s i k, k.0))
