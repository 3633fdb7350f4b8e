-- What is read after a write, in two books: b before, c after.
use Rattle.std.specs.Prelude.{ℕ, ◌+◌, ◌*◌, ◌-◌, ◌%◌, ◌≤◌, ◌<◌, ◌≡◌, refl, ◌≢◌, List, true, length, replicate, Option, Some, None, Ok, Err}
use Rattle.std.proofs.Common.{sym, ◌∙◌, inl, inr, arith}
use Rattle.std.proofs.Math.Path.{ap}
use Rattle.std.proofs.Math.Decide.{dec_lt}
use Rattle.laws.specs.Lists.{zeros}
use Rattle.model.specs.Arena.{head_fits}
use Rattle.types.specs.declared.Head.{Head}
use Rattle.setpoint.specs.declared.Setpoint.{Setpoint}
use Rattle.book_rules.specs.Layout.{slots_of, lines_of, front_of, place_at, version_at, newest_at, setting_at, is_setting, is_sound}
use Rattle.book_rules.specs.Calls.{read_as, line_read, read_version_of}
use Rattle.book_rules.specs.Sound.{Kept, Sound, Clean}
use Rattle.book_rules.proofs.Sound.{is_sound_lem, line_zero, setting_alike}
use Rattle.book_rules.specs.Appended.{goes_of}
use Rattle.book_rules.proofs.Appended.{goes_own, goes_other}
use Rattle.book_rules.proofs.Wrote.{Wrote}
use Rattle.book_rules.specs.Outcomes.{Keeps}
use Rattle.book_rules.proofs.Outcomes.{kept_or, read_kept, read_lost}
use Rattle.book_rules.specs.Fine.{SlotFine}
use Rattle.book_rules.specs.declared.BookDone.TheVariants.{Setting}
use Rattle.book_rules.specs.declared.BookRefusal.TheVariants.{NeverWritten}

-- ---- the line of a kept version is used

pub kept_line : (n : ℕ) (b : List ℕ) (slot w : ℕ) → Sound n b → slot < n → Keeps (newest_at b slot) w
    → version_at b (4 * slot + (newest_at b slot - w)) ≡ w
kept_line n b slot w s i k =
    let x = 4 * slot + (newest_at b slot - w) in
    let top : x - x % 4 ≡ 4 * slot = omega (arith, k.0, k.1, k.2) in
    let age : x % 4 ≡ newest_at b slot - w = omega (arith, k.0, k.1, k.2) in
    omega (arith, s.falls x (omega (arith, k.0, k.1, k.2)), ap (version_at b) top, k.0, k.1, k.2)

-- so it tells a setpoint
line_tells : (d : Option Setpoint) (v : ℕ) → is_setting d ≡ true → (p : Setpoint) × (read_as d v ≡ Ok (Setting p v))
line_tells (Some p) v e = (p, refl)
line_tells None v e = let z : ◌≡◌ {A = ℕ} 0 1 = cc in absurd (omega arith)

pub kept_tells : (n : ℕ) (b : List ℕ) (slot w : ℕ) → Sound n b → slot < n → Keeps (newest_at b slot) w
    → (p : Setpoint) × (line_read b (4 * slot + (newest_at b slot - w)) w ≡ Ok (Setting p w))
unfolding line_read
kept_tells n b slot w s i k =
    let x = 4 * slot + (newest_at b slot - w) in
    line_tells (setting_at b (place_at b x)) w (s.fits.means x (omega (arith, k.0, k.1, k.2)) (omega (arith, kept_line n b slot w s i k, k.0)))

-- ---- a write on a slot

module _ (n : ℕ) (b c : List ℕ) (slot : ℕ) (s : Setpoint) (m : ℕ) (inside : slot < n) (sound : Sound n b) (r : Wrote n b c slot s m) where
  -- a line that stays tells what it told
  line_stays : (k w : ℕ) → k < lines_of n → k ≢ 4 * slot + 3 → Kept b k → line_read c (goes_of slot k) w ≡ line_read b k w
  unfolding line_read
  line_stays k w h d q = ap (λ (x : Option Setpoint). read_as x w) (setting_alike c b (place_at c (goes_of slot k)) (place_at b k) (r.bodies k h d q))

  pub newest_other : (t : ℕ) → t < n → t ≢ slot → newest_at c t ≡ newest_at b t
  newest_other t h d = go (dec_lt t slot)
    where
      go : Dec (t < slot) → newest_at c t ≡ newest_at b t
      go (yes q) = ap (version_at c) (sym (goes_other slot (4 * t) (inl (omega arith)))) ∙ r.versions (4 * t) (omega arith) (omega arith)
      go (no q) = ap (version_at c) (sym (goes_other slot (4 * t) (inr (omega arith)))) ∙ r.versions (4 * t) (omega arith) (omega arith)

  other_read : (t w : ℕ) → t < n → t ≢ slot → Keeps (newest_at b t) w
      → line_read c (4 * t + (newest_at c t - w)) w ≡ line_read b (4 * t + (newest_at b t - w)) w
  other_read t w h d k =
      let x = 4 * t + (newest_at b t - w) in
      ap (λ (u : ℕ). line_read c (4 * t + (u - w)) w) (newest_other t h d)
      ∙ ap (λ (u : ℕ). line_read c u w) (sym (away (dec_lt t slot)))
      ∙ line_stays x w (omega (arith, k.2)) (omega (arith, k.2)) (omega (arith, kept_line n b t w sound h k, k.0))
    where
      away : Dec (t < slot) → goes_of slot (4 * t + (newest_at b t - w)) ≡ 4 * t + (newest_at b t - w)
      away (yes q) = goes_other slot (4 * t + (newest_at b t - w)) (inl (omega (arith, k.0, k.1, k.2)))
      away (no q) = goes_other slot (4 * t + (newest_at b t - w)) (inr (omega arith))

  own_read : (w : ℕ) → w ≢ newest_at b slot + 1 → w + 4 ≢ newest_at b slot + 1 → Keeps (newest_at b slot) w
      → line_read c (4 * slot + (newest_at c slot - w)) w ≡ line_read b (4 * slot + (newest_at b slot - w)) w
  own_read w d e k =
      let x = 4 * slot + (newest_at b slot - w) in
      let g : 4 * slot + (newest_at c slot - w) ≡ goes_of slot x = omega (arith, r.newest, k.0, k.1, k.2, goes_own slot x (omega arith) (omega (arith, k.0, k.1, k.2))) in
      ap (λ (u : ℕ). line_read c u w) g
      ∙ line_stays x w (omega (arith, k.0, k.1, k.2)) (omega (arith, k.0, k.1, k.2)) (omega (arith, kept_line n b slot w sound inside k, k.0))

  new_read : line_read c (4 * slot + (newest_at c slot - (newest_at b slot + 1))) (newest_at b slot + 1) ≡ Ok (Setting s (newest_at b slot + 1))
  unfolding line_read
  new_read =
      let e : 4 * slot + (newest_at c slot - (newest_at b slot + 1)) ≡ 4 * slot = omega (arith, r.newest) in
      ap (λ (u : ℕ). read_as (setting_at c (place_at c u)) (newest_at b slot + 1)) e
      ∙ ap (λ (x : Option Setpoint). read_as x (newest_at b slot + 1)) r.written

  -- ---- as the calls answer

  module _ (h : Head) (fits : head_fits h ≡ true) (slots : slots_of h ≡ n) (room : front_of n ≤ length b) (limit : length b ≤ 32768) where
    fine_b : (t : ℕ) → t < n → SlotFine (slots_of h) (length b) t
    fine_b t i = rw slots (record { room = room; limit = limit; inside = i })

    fine_c : (t : ℕ) → t < n → SlotFine (slots_of h) (length c) t
    fine_c t i = rw r.long (fine_b t i)

    sound_b : is_sound (slots_of h) b ≡ true
    sound_b = rw slots (is_sound_lem n b sound)

    sound_c : is_sound (slots_of h) c ≡ true
    sound_c = rw slots (is_sound_lem n c r.sound)

    -- every version of another slot reads as before
    pub other_reads : (t w : ℕ) → t < n → t ≢ slot → read_version_of h c t w ≡ read_version_of h b t w
    other_reads t w i d = go (kept_or (newest_at b t) w)
      where
        go : Dec (Keeps (newest_at b t) w) → read_version_of h c t w ≡ read_version_of h b t w
        go (yes k) =
            read_kept h c t fits (fine_c t i) w sound_c (rw (newest_other t i d) k)
            ∙ other_read t w i d k
            ∙ sym (read_kept h b t fits (fine_b t i) w sound_b k)
        go (no k) =
            read_lost h c t fits (fine_c t i) w sound_c (rw (newest_other t i d) k)
            ∙ sym (read_lost h b t fits (fine_b t i) w sound_b k)

    -- every version of the slot but the new one and the one that is dropped
    pub own_reads : (w : ℕ) → w ≢ newest_at b slot + 1 → w + 4 ≢ newest_at b slot + 1 → read_version_of h c slot w ≡ read_version_of h b slot w
    own_reads w d e = go (kept_or (newest_at b slot) w)
      where
        go : Dec (Keeps (newest_at b slot) w) → read_version_of h c slot w ≡ read_version_of h b slot w
        go (yes k) =
            read_kept h c slot fits (fine_c slot inside) w sound_c (omega (arith, k.0), omega (arith, k.1, r.newest), omega (arith, k.2, r.newest))
            ∙ own_read w d e k
            ∙ sym (read_kept h b slot fits (fine_b slot inside) w sound_b k)
        go (no k) =
            read_lost h c slot fits (fine_c slot inside) w sound_c
            (λ q. k (omega (arith, q.0), omega (arith, q.1, r.newest), omega (arith, q.2, r.newest)))
            ∙ sym (read_lost h b slot fits (fine_b slot inside) w sound_b k)

    pub new_reads : read_version_of h c slot (newest_at b slot + 1) ≡ Ok (Setting s (newest_at b slot + 1))
    new_reads =
        read_kept h c slot fits (fine_c slot inside) (newest_at b slot + 1) sound_c (omega arith, omega (arith, r.newest), omega (arith, r.newest))
        ∙ new_read

    -- what was dropped
    pub dropped_reads : (w : ℕ) → w + 4 ≡ newest_at b slot + 1 → read_version_of h c slot w ≡ Err NeverWritten
    dropped_reads w e = read_lost h c slot fits (fine_c slot inside) w sound_c (λ q. omega (arith, q.2, r.newest))

-- ---- a prepared book

pub version_zero : (m k : ℕ) → version_at (replicate m 0) k ≡ 0
version_zero m k = (line_zero (replicate m 0) k (λ i l. zeros m (8 * k + i))).2

pub prepared_sound : (n m : ℕ) → Sound n (replicate m 0)
prepared_sound n m =
    record {
      falls = λ k h. omega (arith, version_zero m k, version_zero m (k - k % 4));
      fits =
          record {
            unused = λ k h z. let a = line_zero (replicate m 0) k (λ i l. zeros m (8 * k + i)) in (a.0, a.1);
            five = λ k h q. absurd (omega (arith, version_zero m k));
            behind = λ k h q. absurd (omega (arith, version_zero m k));
            within = λ k h q. absurd (omega (arith, version_zero m k));
            means = λ k h q. absurd (omega (arith, version_zero m k));
            apart = λ k l hk hl d u w. absurd (omega (arith, version_zero m k));
          };
    }

pub prepared_clean : (n m : ℕ) → Clean n (replicate m 0)
prepared_clean n m j free = zeros m j
