-- A read is exactly one of three, by the book's bytes.
use Rattle.std.specs.Prelude.{ℕ, ◌+◌, ◌*◌, ◌-◌, ◌<◌, refl, List, Bool, true, false, length, get_or, Option, Some, None, Ok, Err}
use Rattle.std.proofs.Math.Path.{◌≡◌, ap}
use Rattle.std.proofs.Common.{sym, ◌∙◌, subst, arith}
use Rattle.choice.specs.Pick.{false_not}
use Rattle.model.specs.Arena.{head_fits}
use Rattle.types.specs.declared.Head.{Head}
use Rattle.setpoint.specs.Codec.{has_body, body_of, join_of, decode_of}
use Rattle.setpoint.specs.RoundTrip.{Held, Means}
use Rattle.setpoint.proofs.RoundTrip.{setting_means, low_join, join_small, read_back}
use Rattle.setpoint.specs.declared.Setpoint.{Setpoint}
use Rattle.book_rules.specs.Layout.{slots_of, five_at, place_at, newest_at, setting_at, is_sound}
use Rattle.book_rules.specs.Rules.{BookAnswer, is_bad_slot}
use Rattle.book_rules.specs.Calls.{read_as, line_read, read_version_of}
use Rattle.book_rules.specs.Fine.{SlotFine}
use Rattle.book_rules.proofs.Fine.{slot_fine}
use Rattle.book_rules.specs.Sound.{Sound}
use Rattle.book_rules.proofs.Sound.{sound_is, is_sound_lem}
use Rattle.book_rules.specs.Outcomes.{Keeps}
use Rattle.book_rules.proofs.Outcomes.{kept_or, read_kept, read_lost, read_damaged}
use Rattle.book_rules.proofs.Readings.{kept_tells}
use Rattle.book_rules.specs.declared.BookDone.TheVariants.{Setting}
use Rattle.book_rules.specs.declared.BookRefusal.TheVariants.{DamagedBook, NeverWritten}
use Rattle.book_theory.specs.Statements.{ReadsExactly, AsWritten}

settings_apart : {A : Type 0} (s : Setpoint) (v : ℕ) → Ok (Setting s v) ≡ Err DamagedBook → A
settings_apart s v e = let z : ◌≡◌ {A = ℕ} 0 1 = cc in absurd (omega arith)

settings_written : {A : Type 0} (s : Setpoint) (v : ℕ) → Ok (Setting s v) ≡ Err NeverWritten → A
settings_written s v e = let z : ◌≡◌ {A = ℕ} 0 1 = cc in absurd (omega arith)

nevers_apart : {A : Type 0} → ◌≡◌ {A = BookAnswer} (Err NeverWritten) (Err DamagedBook) → A
nevers_apart e = let z : ◌≡◌ {A = ℕ} 0 1 = cc in absurd (omega arith)

-- ---- five bytes that mean a setpoint are its body

module _ (b : List ℕ) (q : ℕ) (bytes : (j : ℕ) → get_or b j 0 < 256) (p : Setpoint) where
  means : setting_at b q ≡ Some p → Means p (get_or b q 0) (join_of (get_or b (q + 1) 0) (get_or b (q + 2) 0) (get_or b (q + 3) 0) (get_or b (q + 4) 0))
  unfolding setting_at decode_of five_at
  means e = setting_means _ _ p (join_small _ _ _ _ (bytes (q + 1)) (bytes (q + 2)) (bytes (q + 3)) (bytes (q + 4))) e

  body_is : setting_at b q ≡ Some p → Held p × (has_body p ≡ true) × (five_at b q ≡ body_of p)
  unfolding five_at body_of
  body_is e =
      let m = means e in (
        m.held,
        m.whole,
        rw (m.kind, m.word)
            (sym (low_join (get_or b q 0) (get_or b (q + 1) 0) (get_or b (q + 2) 0) (get_or b (q + 3) 0) (get_or b (q + 4) 0) (bytes (q + 1)) (bytes (q + 2)) (bytes (q + 3)))),
      )

  is_body : Held p → has_body p ≡ true → five_at b q ≡ body_of p → setting_at b q ≡ Some p
  unfolding setting_at
  is_body h w e = ap decode_of e ∙ read_back p h w

-- ---- a read

module _ (h : Head) (b : List ℕ) (slot w : ℕ) (bytes : (j : ℕ) → get_or b j 0 < 256) (fits : head_fits h ≡ true)
    (fine : is_bad_slot (slots_of h) (length b) slot ≡ false) where
  abbrev n : ℕ
  n = slots_of h

  -- the line of the version
  abbrev k : ℕ
  k = 4 * slot + (newest_at b slot - w)

  here : SlotFine n (length b) slot
  here = slot_fine n (length b) slot fine

  data Read : BookAnswer → Type 0 where
    is_kept_lem : Sound n b → Keeps (newest_at b slot) w → Read (line_read b k w)
    is_lost : Sound n b → (Keeps (newest_at b slot) w → ⊥) → Read (Err NeverWritten)
    is_damaged : (Sound n b → ⊥) → Read (Err DamagedBook)

  read_one : Read (read_version_of h b slot w)
  read_one = go (is_sound n b) refl (kept_or (newest_at b slot) w)
    where
      go : (x : Bool) → is_sound n b ≡ x → Dec (Keeps (newest_at b slot) w) → Read (read_version_of h b slot w)
      go true e (yes q) = subst Read (sym (read_kept h b slot fits here w e q)) (is_kept_lem (sound_is n b e) q)
      go true e (no q) = subst Read (sym (read_lost h b slot fits here w e q)) (is_lost (sound_is n b e) q)
      go false e q = subst Read (sym (read_damaged h b slot fits here w e)) (is_damaged (λ s. false_not (sym e ∙ is_sound_lem n b s)))

  tells : (p : Setpoint) (v : ℕ) → line_read b k w ≡ Ok (Setting p v) → (v ≡ w) × (setting_at b (place_at b k) ≡ Some p)
  unfolding line_read
  tells p v e = go (setting_at b (place_at b k)) e
    where
      go : (d : Option Setpoint) → read_as d w ≡ Ok (Setting p v) → (v ≡ w) × (d ≡ Some p)
      go (Some s) x = (cc, cc)
      go None x = let z : ◌≡◌ {A = ℕ} 0 1 = cc in absurd (omega arith)

  line_by : (p : Setpoint) → setting_at b (place_at b k) ≡ Some p → line_read b k w ≡ Ok (Setting p w)
  unfolding line_read
  line_by p e = ap (λ (d : Option Setpoint). read_as d w) e

  setting_is : (p : Setpoint) (v : ℕ) → read_version_of h b slot w ≡ Ok (Setting p v) → (v ≡ w) × Sound n b × Keeps (newest_at b slot) w × AsWritten b slot w p
  setting_is p v e = go read_one e
    where
      go : {a : BookAnswer} → Read a → a ≡ Ok (Setting p v) → (v ≡ w) × Sound n b × Keeps (newest_at b slot) w × AsWritten b slot w p
      go (is_kept_lem s q) x = let t = tells p v x in (t.0, s, q, body_is b (place_at b k) bytes p t.1)
      go (is_lost s q) x = settings_written p v (sym x)
      go (is_damaged s) x = settings_apart p v (sym x)

  is_setting_lem : (p : Setpoint) → Sound n b → Keeps (newest_at b slot) w → AsWritten b slot w p → read_version_of h b slot w ≡ Ok (Setting p w)
  is_setting_lem p s q a =
      read_kept h b slot fits here w (is_sound_lem n b s) q ∙ line_by p (is_body b (place_at b k) bytes p a.0 a.1 a.2)

  -- a kept version of a sound book is a setting
  kept_setting : Sound n b → Keeps (newest_at b slot) w → (p : Setpoint) × (line_read b k w ≡ Ok (Setting p w))
  kept_setting s q = kept_tells n b slot w s here.inside q

  never_is : read_version_of h b slot w ≡ Err NeverWritten → Sound n b × (Keeps (newest_at b slot) w → ⊥)
  never_is e = go read_one e
    where
      go : {a : BookAnswer} → Read a → a ≡ Err NeverWritten → Sound n b × (Keeps (newest_at b slot) w → ⊥)
      go (is_kept_lem s q) x = let t = kept_setting s q in settings_written t.0 w (sym t.1 ∙ x)
      go (is_lost s q) x = (s, q)
      go (is_damaged s) x = nevers_apart (sym x)

  damaged_is : read_version_of h b slot w ≡ Err DamagedBook → Sound n b → ⊥
  damaged_is e = go read_one e
    where
      go : {a : BookAnswer} → Read a → a ≡ Err DamagedBook → Sound n b → ⊥
      go (is_kept_lem s q) x = let t = kept_setting s q in settings_apart t.0 w (sym t.1 ∙ x)
      go (is_lost s q) x = nevers_apart x
      go (is_damaged s) x = s

  is_damage : (Sound n b → ⊥) → read_version_of h b slot w ≡ Err DamagedBook
  is_damage d = go read_one
    where
      go : {a : BookAnswer} → Read a → a ≡ Err DamagedBook
      go (is_kept_lem s q) = absurd (d s)
      go (is_lost s q) = absurd (d s)
      go (is_damaged s) = refl

pub reads_exactly : ReadsExactly read_version_of
reads_exactly h b slot w bytes fits fine = (
  λ p v. (
    setting_is h b slot w bytes fits fine p v,
    λ x. is_setting_lem h b slot w bytes fits fine p x.1 x.2 x.3 ∙ ap (λ (u : ℕ). Ok (Setting p u)) (sym x.0),
  ),
  (never_is h b slot w bytes fits fine, λ x. read_lost h b slot fits (slot_fine (slots_of h) (length b) slot fine) w (is_sound_lem (slots_of h) b x.0) x.1),
  (damaged_is h b slot w bytes fits fine, is_damage h b slot w bytes fits fine),
)
