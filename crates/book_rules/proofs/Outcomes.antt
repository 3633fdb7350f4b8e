-- What comes of each call, as cases with the facts of each.
-- ---- preparing
use Rattle.std.specs.Prelude.{ℕ, ◌+◌, ◌*◌, ◌-◌, ◌≤◌, ◌<◌, ◌≢◌, List, Bool, ◌||◌, ltb, leb, eqb, length, replicate, if◌then◌else◌, Option, Some, None, Ok, Err}
use Rattle.std.proofs.Math.Path.{◌≡◌, refl, sym}
use Rattle.std.proofs.Common.{ap, ◌∙◌, arith, ltb-false, leb-false, eqb-true, ne_eqb, le-ltb}
use Rattle.std.proofs.Math.Bool.{true, false, not}
use Rattle.std.proofs.Math.Decide.{dec_lt}
use Rattle.std.proofs.lemmas.Bool.{eqb-false, lt-leb}
use Rattle.choice.specs.Pick.{false_not}
use Rattle.model.specs.Arena.{head_fits, shape_fits, is_stale, hold_in}
use Rattle.types.specs.declared.Head.{Head}
use Rattle.types.specs.declared.Lease.{Lease}
use Rattle.setpoint.specs.Codec.{has_body, decode_of}
use Rattle.setpoint.specs.RoundTrip.{whole_in}
use Rattle.setpoint.proofs.RoundTrip.{setting_whole}
use Rattle.setpoint.specs.declared.Setpoint.{Setpoint}
use Rattle.book_rules.specs.Layout.{slots_of, place_at, newest_at, setting_at, is_sound}
use Rattle.book_rules.specs.Writing.{drop_oldest_of, is_full, put_of}
use Rattle.book_rules.specs.Rules.{BookAnswer, BookCheck, first_fault, judge_book, is_bad_book, is_bad_slot, is_holder, is_gone, last_version, book_rules, claim_rules, over_rules, open_rules, kept_rules, read_rules}
use Rattle.book_rules.specs.Calls.{prepare_book_of, written_of, write_setpoint_of, read_as, line_read, read_version_of}
use Rattle.book_rules.specs.Fine.{SlotFine, ClaimFine, OpenFine, or_then}
use Rattle.book_rules.proofs.Fine.{book_fine, fine_slot, claim_fine, fine_claim, fine_open, faults_append}
use Rattle.book_rules.specs.declared.BookDone.TheVariants.{Done}
use Rattle.book_rules.specs.declared.BookRefusal.{BookRefusal}
use Rattle.book_rules.specs.declared.BookRefusal.TheVariants.{BadShape, BadSlot, StaleBoot, NotHeld, NotFinite, DamagedBook, VersionsSpent, BookFull, NeverWritten}
use Rattle.book_rules.specs.Outcomes.{body_read}
use Rattle.book_rules.specs.Outcomes.{Prepared, Claim, is_given, fault_of, Keeps, was_prepared, not_prepared}

pub preparing_is : (h : Head) (b : List ℕ) → Prepared h b (prepare_book_of h b)
unfolding prepare_book_of book_rules first_fault
preparing_is h b = go (head_fits h) (is_bad_book (slots_of h) (length b)) refl refl
  where
    go : (x y : Bool) → head_fits h ≡ x → is_bad_book (slots_of h) (length b) ≡ y
        → Prepared h b (judge_book (if not x then Err BadShape else if y then Err BadSlot else Ok tt) (λ r. (Err r, b)) (Ok Done, replicate (length b) 0))
    go true true e f = not_prepared BadSlot
    go true false e f = was_prepared e (book_fine (slots_of h) (length b) f)
    go false y e f = not_prepared BadShape

-- whether it is done goes by the length alone
pub prepare_alike : (h : Head) (b c : List ℕ) → length b ≡ length c → (prepare_book_of h b).0 ≡ (prepare_book_of h c).0
unfolding prepare_book_of
prepare_alike h b c e = go (first_fault (book_rules h (length b))) ∙ ap (λ (m : ℕ). answered (first_fault (book_rules h m)) c) e
  where
    answered : BookCheck → List ℕ → BookAnswer
    answered x d = (judge_book {A = BookAnswer × List ℕ} x (λ r. (Err r, d)) (Ok Done, replicate (length d) 0)).0

    go : (x : BookCheck) → answered x b ≡ answered x c
    go (Ok tt) = refl
    go (Err r) = refl

module _ (h : Head) (t b : List ℕ) (slot : ℕ) (l : Lease) (s : Setpoint) where
  abbrev n : ℕ
  n = slots_of h

  pub data Outcome : BookAnswer × List ℕ → Type 0 where
    done : Claim h t b slot l s → is_full n (drop_oldest_of b slot) ≡ false → Outcome (written_of (newest_at b slot + 1) (put_of n b slot s (newest_at b slot + 1)))
    full : Claim h t b slot l s → is_full n (drop_oldest_of b slot) ≡ true → Outcome (Err BookFull, b)
    refused : (r : BookRefusal) → r ≢ BookFull → (r ≡ DamagedBook → is_sound n b ≡ false) → (Claim h t b slot l s → ⊥) → Outcome (Err r, b)

  -- a refusal by what was given
  by_given : (r : BookRefusal) → first_fault (claim_rules h t (length b) slot l s) ≡ Err r → is_given r ≡ true
  unfolding claim_rules first_fault
  by_given r = go (shape_fits h (length t)) (is_bad_slot n (length b) slot) (is_stale h l) (is_holder h t slot (hold_in l)) (has_body s)
    where
      is : (q : BookRefusal) → is_given q ≡ true → ◌≡◌ {A = BookCheck} (Err q) (Err r) → is_given r ≡ true
      is q g e = sym (ap (λ (c : BookCheck). is_given (fault_of c)) e) ∙ g

      go : (x y o z w : Bool)
          → ◌≡◌ {A = BookCheck} (if not x then Err BadShape else if y then Err BadSlot else if o then Err StaleBoot else if not z then Err NotHeld else if not w then Err NotFinite else Ok tt) (Err r)
          → is_given r ≡ true
      go true true o z w e = is BadSlot refl e
      go true false true z w e = is StaleBoot refl e
      go true false false true true e = let z : ◌≡◌ {A = ℕ} 0 1 = cc in absurd (omega arith)
      go true false false true false e = is NotFinite refl e
      go true false false false w e = is NotHeld refl e
      go false y o z w e = is BadShape refl e

  given_refused : (r : BookRefusal) → first_fault (claim_rules h t (length b) slot l s) ≡ Err r → Outcome (Err r, b)
  given_refused r e =
      let g = by_given r e in
      refused r (λ q. false_not (sym (ap is_given q) ∙ g)) (λ q. false_not (sym (ap is_given q) ∙ g))
      (λ c. let z : (Ok tt) ≡ Err r = sym (fine_claim h t (length b) slot l s c.given) ∙ e in let y : ◌≡◌ {A = ℕ} 0 1 = cc in omega arith)

  -- all that was given passes: by what the book says
  by_book : ClaimFine h t (length b) slot l s
      → Outcome (judge_book (first_fault (over_rules n b slot)) (λ r. (Err r, b)) (written_of (newest_at b slot + 1) (put_of n b slot s (newest_at b slot + 1))))
  unfolding over_rules first_fault
  by_book c =
      go (is_sound n b) (eqb (newest_at b slot) last_version) (is_full n (drop_oldest_of b slot)) refl refl (eqb-true (newest_at b slot) last_version) (eqb-false (newest_at b slot) last_version)
    where
      go : (x y z : Bool) → is_sound n b ≡ x → is_full n (drop_oldest_of b slot) ≡ z → (y ≡ true → newest_at b slot ≡ last_version) → (y ≡ false → newest_at b slot ≢ last_version)
          → Outcome (judge_book (if not x then Err DamagedBook else if y then Err VersionsSpent else if z then Err BookFull else Ok tt) (λ r. (Err r, b))
          (written_of (newest_at b slot + 1) (put_of n b slot s (newest_at b slot + 1))))
      go false y z e f p q =
          refused DamagedBook (λ w. let z : ◌≡◌ {A = ℕ} 0 1 = cc in omega arith) (λ w. e) (λ k. false_not (sym e ∙ k.sound))
      go true true z e f p q =
          refused VersionsSpent (λ w. let z : ◌≡◌ {A = ℕ} 0 1 = cc in omega arith) (λ w. let z : ◌≡◌ {A = ℕ} 0 1 = cc in absurd (omega arith))
          (λ k. k.remains (p refl))
      go true false true e f p q = full (record { given = c; sound = e; remains = q refl }) f
      go true false false e f p q = done (record { given = c; sound = e; remains = q refl }) f

  pub writing_is : Outcome (write_setpoint_of h t b slot l s)
  unfolding write_setpoint_of
  writing_is =
      rw (faults_append (claim_rules h t (length b) slot l s) (over_rules n b slot)) (go (first_fault (claim_rules h t (length b) slot l s)) refl)
    where
      go : (x : BookCheck) → first_fault (claim_rules h t (length b) slot l s) ≡ x
          → Outcome (judge_book (or_then x (first_fault (over_rules n b slot))) (λ r. (Err r, b)) (written_of (newest_at b slot + 1) (put_of n b slot s (newest_at b slot + 1))))
      go (Ok tt) e = by_book (claim_fine h t (length b) slot l s e)
      go (Err r) e = given_refused r e

pub kept_or : (newest w : ℕ) → Dec (Keeps newest w)
kept_or newest w = go (dec_lt w 1) (dec_lt newest w) (dec_lt newest (w + 4))
  where
    go : Dec (w < 1) → Dec (newest < w) → Dec (newest < w + 4) → Dec (Keeps newest w)
    go (yes p) q r = no (λ k. omega (arith, k.0))
    go (no p) (yes q) r = no (λ k. omega (arith, k.1))
    go (no p) (no q) (yes r) = yes (omega arith, omega arith, r)
    go (no p) (no q) (no r) = no (λ k. r k.2)

keeps_is : (b : List ℕ) (slot w : ℕ) → Keeps (newest_at b slot) w → is_gone b slot w ≡ false
unfolding is_gone
keeps_is b slot w k =
    let some : w ≡ 0 → ⊥ = (λ z. omega (arith, k.0)) in
    rw (ne_eqb w 0 some, le-ltb (newest_at b slot) w k.1, lt-leb (w + 4) (newest_at b slot) k.2)

gone_is : (b : List ℕ) (slot w : ℕ) → (Keeps (newest_at b slot) w → ⊥) → is_gone b slot w ≡ true
unfolding is_gone
gone_is b slot w d =
    go (eqb w 0) (ltb (newest_at b slot) w) (leb (w + 4) (newest_at b slot)) (eqb-false w 0) (ltb-false (newest_at b slot) w) (leb-false (w + 4) (newest_at b slot))
  where
    go : (x y z : Bool) → (x ≡ false → w ≡ 0 → ⊥) → (y ≡ false → w ≤ newest_at b slot) → (z ≡ false → newest_at b slot < w + 4) → (x || (y || z)) ≡ true
    go true y z f g i = refl
    go false true z f g i = refl
    go false false true f g i = refl
    go false false false f g i = absurd (d (omega (arith, f refl), g refl, i refl))

-- what is read of a sound book: the version's line, or NeverWritten

module _ (h : Head) (b : List ℕ) (slot : ℕ) (fits : head_fits h ≡ true) (fine : SlotFine (slots_of h) (length b) slot) where
  opens : is_sound (slots_of h) b ≡ true → OpenFine h b slot
  opens s = record { head_fits_lem = fits; slot_is = fine; sound = s }

  pub read_kept : (w : ℕ) → is_sound (slots_of h) b ≡ true → Keeps (newest_at b slot) w
      → read_version_of h b slot w ≡ line_read b (4 * slot + (newest_at b slot - w)) w
  unfolding read_version_of kept_rules first_fault
  read_kept w s k =
      rw (faults_append (open_rules h b slot) (kept_rules b slot w), fine_open h b slot (opens s), keeps_is b slot w k)

  pub read_lost : (w : ℕ) → is_sound (slots_of h) b ≡ true → (Keeps (newest_at b slot) w → ⊥) → read_version_of h b slot w ≡ Err NeverWritten
  unfolding read_version_of kept_rules first_fault
  read_lost w s d =
      rw (faults_append (open_rules h b slot) (kept_rules b slot w), fine_open h b slot (opens s), gone_is b slot w d)

  pub read_damaged : (w : ℕ) → is_sound (slots_of h) b ≡ false → read_version_of h b slot w ≡ Err DamagedBook
  unfolding read_version_of open_rules first_fault
  read_damaged w s = rw (fits, fine_slot (slots_of h) (length b) slot fine, s)

line_whole : (b : List ℕ) (k v : ℕ) → body_read (line_read b k v) ≡ true
unfolding line_read setting_at decode_of
line_whole b k v = go (setting_at b (place_at b k)) (setting_whole (setting_at b (place_at b k)) _ _ refl)
  where
    go : (d : Option Setpoint) → whole_in d ≡ true → body_read (read_as d v) ≡ true
    go (Some s) w = w
    go None w = refl

pub body_read_lem : (a : BookAnswer) (h : Head) (b : List ℕ) (slot w : ℕ) → a ≡ read_version_of h b slot w → body_read a ≡ true
unfolding read_version_of
body_read_lem a h b slot w e =
    ap body_read e ∙ go (first_fault (read_rules h b slot w)) (line_read b (4 * slot + (newest_at b slot - w)) w) (line_whole b (4 * slot + (newest_at b slot - w)) w)
  where
    go : (c : BookCheck) (a : BookAnswer) → body_read a ≡ true → body_read (judge_book c Err a) ≡ true
    go (Ok tt) a w = w
    go (Err x) a w = refl
