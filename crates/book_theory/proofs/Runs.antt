-- Over a run of items, from a done preparation of the book: what each version of each slot says is what its done write put there, and what holds of
-- the bytes.
-- ---- what the settings of a slot tell
use Rattle.std.specs.Prelude.{ℕ, suc, ◌+◌, ◌*◌, ◌-◌, ◌≤◌, ◌<◌, ◌%◌, ◌≡◌, refl, ◌≢◌, ◌⊎◌, ◌↔◌, List, [], ◌∷◌, Bool, true, false, eqb, length, get_or, replicate, if◌then◌else◌, Ok, Err}
use Rattle.std.proofs.Common.{sym, ◌∙◌, subst, inl, inr, arith, eq-eqb, ne_eqb}
use Rattle.std.proofs.Math.Path.{ap}
use Rattle.std.proofs.Math.Decide.{ℕ_discrete, dec_lt}
use Rattle.std.proofs.lemmas.List.{length-replicate}
use Rattle.choice.specs.Pick.{false_not}
use Rattle.model.specs.Arena.{head_fits}
use Rattle.types.specs.declared.Head.{Head}
use Rattle.types.specs.declared.Lease.{Lease}
use Rattle.setpoint.specs.RoundTrip.{Held}
use Rattle.setpoint.specs.declared.Setpoint.{Setpoint}
use Rattle.setpoint.specs.declared.Setpoint.TheVariants.{Speed}
use Rattle.book_rules.specs.Layout.{slots_of, lines_of, front_of, place_at, version_at, newest_at, is_sound}
use Rattle.book_rules.specs.Writing.{put_of}
use Rattle.book_rules.specs.Rules.{BookAnswer, first_fault, is_bad_slot, open_rules, kept_rules}
use Rattle.book_rules.specs.Calls.{write_setpoint_of, read_version_of, read_setpoint_of}
use Rattle.book_rules.specs.Sound.{Kept, Apart, Sound, Clean}
use Rattle.book_rules.proofs.Sound.{sound_is, is_sound_lem}
use Rattle.book_rules.specs.Appended.{goes_of}
use Rattle.book_rules.proofs.Appended.{goes_own, goes_other}
use Rattle.book_rules.proofs.Wrote.{Wrote, put_wrote}
use Rattle.book_rules.specs.Fine.{SlotFine, BookFine}
use Rattle.book_rules.proofs.Fine.{slot_fine}
use Rattle.book_rules.specs.Outcomes.{Prepared, was_prepared, not_prepared, Keeps}
use Rattle.book_rules.proofs.Outcomes.{preparing_is, prepare_alike, Outcome, done, full, refused, writing_is, kept_or, read_kept, read_lost}
use Rattle.book_rules.proofs.Readings.{kept_tells, other_reads, own_reads, new_reads, dropped_reads, newest_other, version_zero, prepared_sound, prepared_clean}
use Rattle.book_rules.specs.declared.BookDone.TheVariants.{Done, Written, Setting}
use Rattle.book_rules.specs.declared.BookRefusal.TheVariants.{BadShape, BadSlot, DamagedBook, NeverWritten}
use Rattle.book_theory.specs.Items.{BookItem, arena_item, prepare_book, write_setpoint, read_setpoint, read_version, BookEntry, prepared, wrote, was_read, version_read_lem, Shift, shift_of, world_of, head_of_lem, slots_in, preparing_book, writing, reading, reading_version, next_shift, run_shift, settings_after, settings, newest_read, version_read, SameSlots, Typed, AllTyped}
use Rattle.book_theory.specs.Statements.{PreparedReadsNothing, ForgetsOlderBytes, FromPrepared, ReadsLastWrite, ReadsNewestFour, NeverExactly, NeverDamaged, NeverOverlap, FreeAreZeros, NewerLieBehind, UntouchedOtherwise, Unprepared, DamageStays}
use Rattle.book_theory.specs.Heads.{item_fits}
use Rattle.book_theory.specs.After.{refusal_in}
use Rattle.book_theory.specs.Runs.{Keeping, added, Holding}

version_kept : (ss : List Setpoint) (w : ℕ) → Keeps (length ss) w → version_read ss w ≡ Ok (Setting (get_or ss (length ss - w) (Speed 0)) w)
unfolding version_read
version_kept ss w k = go (kept_or (length ss) w)
  where
    go : (d : Dec (Keeps (length ss) w)) → ◌≡◌ {A = BookAnswer} (elim d [ yes q ↦ Ok (Setting (get_or ss (length ss - w) (Speed 0)) w) | no q ↦ Err NeverWritten ]) (Ok (Setting (get_or ss (length ss - w) (Speed 0)) w))
    go (yes q) = refl
    go (no q) = absurd (q k)

version_lost : (ss : List Setpoint) (w : ℕ) → (Keeps (length ss) w → ⊥) → version_read ss w ≡ Err NeverWritten
unfolding version_read
version_lost ss w k = go (kept_or (length ss) w)
  where
    go : (d : Dec (Keeps (length ss) w)) → ◌≡◌ {A = BookAnswer} (elim d [ yes q ↦ Ok (Setting (get_or ss (length ss - w) (Speed 0)) w) | no q ↦ Err NeverWritten ]) (Err NeverWritten)
    go (yes q) = absurd (k q)
    go (no q) = refl

-- one setting more: the new one, the one that is lost, the others
version_new : (ss : List Setpoint) (s : Setpoint) → version_read (s ∷ ss) (length ss + 1) ≡ Ok (Setting s (length ss + 1))
version_new ss s =
    let e : length (s ∷ ss) - (length ss + 1) ≡ 0 = omega arith in
    version_kept (s ∷ ss) (length ss + 1) (omega arith, omega arith, omega arith)
    ∙ ap (λ (i : ℕ). Ok (Setting (get_or (s ∷ ss) i (Speed 0)) (length ss + 1))) e

version_older : (ss : List Setpoint) (s : Setpoint) (w : ℕ) → w ≢ length ss + 1 → w + 4 ≢ length ss + 1 → version_read (s ∷ ss) w ≡ version_read ss w
version_older ss s w d e = go (kept_or (length ss) w)
  where
    go : Dec (Keeps (length ss) w) → version_read (s ∷ ss) w ≡ version_read ss w
    go (yes k) =
        let g : length (s ∷ ss) - w ≡ suc (length ss - w) = omega (arith, k.1) in
        version_kept (s ∷ ss) w (k.0, omega (arith, k.1), omega (arith, k.2))
        ∙ ap (λ (i : ℕ). Ok (Setting (get_or (s ∷ ss) i (Speed 0)) w)) g
        ∙ sym (version_kept ss w k)
    go (no k) =
        version_lost (s ∷ ss) w (λ q. k (q.0, omega (arith, q.1), omega (arith, q.2))) ∙ sym (version_lost ss w k)

-- the newest
version_newest : (ss : List Setpoint) → version_read ss (length ss) ≡ newest_read ss
version_newest [] = version_lost [] 0 (λ q. omega (arith, q.0))
version_newest (p ∷ ps) =
    let e : length (p ∷ ps) - length (p ∷ ps) ≡ 0 = omega arith in
    version_kept (p ∷ ps) (length (p ∷ ps)) (omega arith, omega arith, omega arith)
    ∙ ap (λ (i : ℕ). Ok (Setting (get_or (p ∷ ps) i (Speed 0)) (length (p ∷ ps)))) e

-- a done preparation begins it
prepared_keeping : (n m : ℕ) → front_of n ≤ m → m ≤ 32768 → Keeping n (replicate m 0) (λ t. [])
prepared_keeping n m l u =
    record {
      sound = prepared_sound n m;
      clean = prepared_clean n m;
      room = omega (arith, length-replicate {A = ℕ} m 0);
      limit = omega (arith, length-replicate {A = ℕ} m 0);
      newest = λ slot i. version_zero m (4 * slot);
      says = λ h slot w fits e i.
          read_lost h (replicate m 0) slot fits
          (rw (e, length-replicate {A = ℕ} m 0) (record { room = l; limit = u; inside = i })) w (rw e (is_sound_lem n (replicate m 0) (prepared_sound n m)))
          (λ q. omega (arith, q.0, q.1, version_zero m (4 * slot)))
          ∙ sym (version_lost [] w (λ q. omega (arith, q.0, q.1)));
      newer = λ slot i j h l u q. absurd (omega (arith, version_zero m (4 * slot + j)));
    }

module _ (n : ℕ) (b : List ℕ) (f : ℕ → List Setpoint) (g : Keeping n b f) (slot : ℕ) (s : Setpoint) (c : List ℕ) (moved : ℕ) (inside : slot < n)
    (r : Wrote n b c slot s moved) where
  own_settings : added f slot s slot ≡ s ∷ f slot
  own_settings = rw (eq-eqb slot slot refl)

  other_settings : (i : ℕ) → i ≢ slot → added f slot s i ≡ f i
  other_settings i d = rw (ne_eqb slot i (λ q. d (sym q)))

  newest_now : (i : ℕ) → i < n → newest_at c i ≡ length (added f slot s i)
  newest_now i hi = go (ℕ_discrete i slot)
    where
      go : Dec (i ≡ slot) → newest_at c i ≡ length (added f slot s i)
      go (yes e) = rw e (omega (arith, r.newest, g.newest slot inside, ap length own_settings))
      go (no e) = newest_other n b c slot s moved inside g.sound r i hi e ∙ g.newest i hi ∙ sym (ap length (other_settings i e))

  says_now : (p : Head) (i w : ℕ) → head_fits p ≡ true → slots_of p ≡ n → i < n → read_version_of p c i w ≡ version_read (added f slot s i) w
  says_now p i w fits e hi = go (ℕ_discrete i slot)
    where
      u : newest_at b slot ≡ length (f slot)
      u = g.newest slot inside

      own : Dec (w ≡ newest_at b slot + 1) → Dec (w + 4 ≡ newest_at b slot + 1) → read_version_of p c slot w ≡ version_read (s ∷ f slot) w
      own (yes d) x =
          rw d (new_reads n b c slot s moved inside g.sound r p fits e g.room g.limit
          ∙ subst (λ (y : ℕ). Ok (Setting s (y + 1)) ≡ version_read (s ∷ f slot) (y + 1)) (sym u) (sym (version_new (f slot) s)))
      own (no d) (yes x) =
          dropped_reads n b c slot s moved inside g.sound r p fits e g.room g.limit w x
          ∙ sym (version_lost (s ∷ f slot) w (λ q. omega (arith, q.2, u)))
      own (no d) (no x) =
          own_reads n b c slot s moved inside g.sound r p fits e g.room g.limit w d x
          ∙ g.says p slot w fits e inside
          ∙ sym (version_older (f slot) s w (λ z. d (omega (arith, u))) (λ z. x (omega (arith, u))))

      go : Dec (i ≡ slot) → read_version_of p c i w ≡ version_read (added f slot s i) w
      go (yes d) = rw (d, own_settings) (own (ℕ_discrete w (newest_at b slot + 1)) (ℕ_discrete (w + 4) (newest_at b slot + 1)))
      go (no d) =
          other_reads n b c slot s moved inside g.sound r p fits e g.room g.limit i w hi d
          ∙ g.says p i w fits e hi
          ∙ ap (λ (ss : List Setpoint). version_read ss w) (sym (other_settings i d))

  -- of a slot's lines the earlier is used where a later one is
  used_before : (d : List ℕ) → Sound n d → (t i j : ℕ) → t < n → i < j → j < 4 → Kept d (4 * t + j) → Kept d (4 * t + i)
  used_before d w t i j h o u q =
      let x : 4 * t + j - (4 * t + j) % 4 ≡ 4 * t = omega arith in
      let y : 4 * t + i - (4 * t + i) % 4 ≡ 4 * t = omega arith in
      omega (arith, w.falls (4 * t + j) (omega arith), w.falls (4 * t + i) (omega arith), ap (version_at d) x, ap (version_at d) y)

  newer_now : (t i j : ℕ) → t < n → i < j → j < 4 → Kept c (4 * t + j) → place_at c (4 * t + j) + 5 ≤ place_at c (4 * t + i)
  newer_now t i j ht o u q = go (ℕ_discrete t slot) (ℕ_discrete i 0)
    where
      earlier : Kept c (4 * t + i)
      earlier = used_before c r.sound t i j ht o u q

      wide : Apart (place_at c (4 * t + j)) (place_at c (4 * t + i)) → place_at c (4 * t + j) < place_at c (4 * t + i)
          → place_at c (4 * t + j) + 5 ≤ place_at c (4 * t + i)
      wide (inl z) l = z
      wide (inr z) l = absurd (omega arith)

      -- both stood in b, in the same order
      both_old : (x y : ℕ) → x < lines_of n → y < lines_of n → x ≢ 4 * slot + 3 → y ≢ 4 * slot + 3 → goes_of slot x ≡ 4 * t + i → goes_of slot y ≡ 4 * t + j
          → (Kept b y → place_at b y + 5 ≤ place_at b x) → place_at c (4 * t + j) + 5 ≤ place_at c (4 * t + i)
      both_old x y hx hy dx dy gx gy before =
          let kx : Kept b x = omega (arith, r.versions x hx dx, ap (version_at c) gx, earlier) in
          let ky : Kept b y = omega (arith, r.versions y hy dy, ap (version_at c) gy, q) in
          wide (r.sound.fits.apart (4 * t + j) (4 * t + i) (omega arith) (omega arith) (omega arith) q earlier)
          (omega (arith, r.order y x hy hx dy dx ky kx (omega (arith, before ky)), ap (place_at c) gx, ap (place_at c) gy))

      go : Dec (t ≡ slot) → Dec (i ≡ 0) → place_at c (4 * t + j) + 5 ≤ place_at c (4 * t + i)
      go (no d) z =
          both_old (4 * t + i) (4 * t + j) (omega arith) (omega arith) (omega arith) (omega arith) (away i (omega arith) (dec_lt t slot)) (away j u (dec_lt t slot))
          (λ k. g.newer t i j ht o u k)
        where
          away : (a : ℕ) → a < 4 → Dec (t < slot) → goes_of slot (4 * t + a) ≡ 4 * t + a
          away a h (yes l) = goes_other slot (4 * t + a) (inl (omega arith))
          away a h (no l) = goes_other slot (4 * t + a) (inr (omega arith))
      go (yes d) (yes z) =
          let y = 4 * t + (j - 1) in
          let gy : goes_of slot y ≡ 4 * t + j = omega (arith, goes_own slot y (omega arith) (omega arith)) in
          let e : 4 * t + i ≡ 4 * slot = omega arith in
          let ky : Kept b y = omega (arith, r.versions y (omega arith) (omega arith), ap (version_at c) gy, q) in
          omega (arith, r.behind y (omega arith) (omega arith) ky, ap (place_at c) gy, ap (place_at c) e)
      go (yes d) (no z) =
          let x = 4 * t + (i - 1) in
          let y = 4 * t + (j - 1) in
          both_old x y (omega arith) (omega arith) (omega arith) (omega arith) (omega (arith, goes_own slot x (omega arith) (omega arith)))
          (omega (arith, goes_own slot y (omega arith) (omega arith)))
          (λ k. g.newer t (i - 1) (j - 1) ht (omega arith) (omega arith) k)

  wrote_keeping : Keeping n c (added f slot s)
  wrote_keeping =
      record {
        sound = r.sound;
        clean = r.clean g.clean;
        room = omega (arith, r.long, g.room);
        limit = omega (arith, r.long, g.limit);
        newest = newest_now;
        says = says_now;
        newer = newer_now;
      }

begun : (h : Head) (b : List ℕ) (es : List BookEntry) → head_fits h ≡ true → BookFine (slots_of h) (length b)
    → Holding (slots_of h) h (replicate (length b) 0) (prepared (Ok Done) ∷ es)
unfolding settings
begun h b es e f = record { head_fits_lem = e; slots_are = refl; book_is = prepared_keeping (slots_of h) (length b) f.room f.limit }

-- a refused call changes nothing of it, nor does a read
idle : {n : ℕ} {h : Head} {b : List ℕ} {es : List BookEntry} (e : BookEntry)
    → ((slot : ℕ) (ss : List Setpoint) → settings_after e slot ss ≡ ss) → Holding n h b es → Holding n h b (e ∷ es)
unfolding settings
idle {n} {h} {b} {es} e p k =
    let g = k.book_is in
    record {
      head_fits_lem = k.head_fits_lem;
      slots_are = k.slots_are;
      book_is =
          record {
            sound = g.sound;
            clean = g.clean;
            room = g.room;
            limit = g.limit;
            newest = λ slot i. g.newest slot i ∙ sym (ap length (p slot (settings slot es)));
            says = λ q slot w x y i. g.says q slot w x y i ∙ ap (λ (ss : List Setpoint). version_read ss w) (sym (p slot (settings slot es)));
            newer = g.newer;
          };
    }

-- ---- one item

module _ (n : ℕ) (s : Shift) (k : Holding n (head_of_lem s) s.book s.entries) where
  -- the same, at the head's own number of slots
  own : Holding (slots_in s) (head_of_lem s) s.book s.entries
  own = subst (λ (m : ℕ). Holding m (head_of_lem s) s.book s.entries) (sym k.slots_are) k

  prepare_holds : Holding n (head_of_lem s) (preparing_book s).1 (prepared (preparing_book s).0 ∷ s.entries)
  prepare_holds = go (preparing_is (head_of_lem s) s.book)
    where
      go : {o : BookAnswer × List ℕ} → Prepared (head_of_lem s) s.book o → Holding n (head_of_lem s) o.1 (prepared o.0 ∷ s.entries)
      go (was_prepared f g) =
          subst (λ (m : ℕ). Holding m (head_of_lem s) (replicate (length s.book) 0) (prepared (Ok Done) ∷ s.entries)) k.slots_are (begun (head_of_lem s) s.book s.entries f g)
      go (not_prepared r) = idle (prepared (Err r)) (λ slot a. refl) k

  wrote_holds : (slot : ℕ) (l : Lease) (p : Setpoint) (v moved : ℕ) (c : List ℕ) → slot < slots_in s → Wrote (slots_in s) s.book c slot p moved
      → Holding (slots_in s) (head_of_lem s) c (wrote slot l p (Ok (Written v moved)) ∷ s.entries)
  unfolding settings
  wrote_holds slot l p v moved c i r =
      record {
        head_fits_lem = k.head_fits_lem;
        slots_are = refl;
        book_is = wrote_keeping (slots_in s) s.book (λ t. settings t s.entries) own.book_is slot p c moved i r;
      }

  write_holds : (slot : ℕ) (l : Lease) (p : Setpoint) → Held p
      → Holding n (head_of_lem s) (writing s slot l p).1 (wrote slot l p (writing s slot l p).0 ∷ s.entries)
  write_holds slot l p held = go (writing_is (head_of_lem s) (world_of s).table s.book slot l p)
    where
      go : {o : BookAnswer × List ℕ} → Outcome (head_of_lem s) (world_of s).table s.book slot l p o
          → Holding n (head_of_lem s) o.1 (wrote slot l p o.0 ∷ s.entries)
      go (done c f) =
          let v = newest_at s.book slot + 1 in
          let o = put_of (slots_in s) s.book slot p v in
          subst (λ (m : ℕ). Holding m (head_of_lem s) o.1 (wrote slot l p (Ok (Written v o.0)) ∷ s.entries)) k.slots_are
          (wrote_holds slot l p v o.0 o.1 c.given.slot_is.inside
          (put_wrote (slots_in s) s.book slot p c.given.slot_is.inside (sound_is (slots_in s) s.book c.sound) held c.given.whole f))
      go (full c f) = idle (wrote slot l p (Err _)) (λ t a. refl) k
      go (refused r d g c) = idle (wrote slot l p (Err r)) (λ t a. refl) k

  item_holds : (i : BookItem) → slots_in (next_shift s i) ≡ n → Typed i
      → Holding n (head_of_lem (next_shift s i)) (next_shift s i).book (next_shift s i).entries
  unfolding next_shift
  item_holds (arena_item i) e t = record { head_fits_lem = item_fits s.course i k.head_fits_lem; slots_are = e; book_is = k.book_is }
  item_holds prepare_book e t = prepare_holds
  item_holds (write_setpoint slot l p) e t = write_holds slot l p t
  item_holds (read_setpoint slot) e t = idle (was_read slot (reading s slot)) (λ x a. refl) k
  item_holds (read_version slot w) e t = idle (version_read_lem slot w (reading_version s slot w)) (λ x a. refl) k

-- ---- a run of items

runs_hold : (n : ℕ) (s : Shift) (items : List BookItem) → Holding n (head_of_lem s) s.book s.entries → SameSlots n s items → AllTyped items
    → let v = run_shift s items in Holding n (head_of_lem v) v.book v.entries
unfolding run_shift
runs_hold n s [] k e t = k
runs_hold n s (i ∷ is) k e t = runs_hold n (next_shift s i) is (item_holds n s k i e.0 t.0) e.1 t.1

-- the state after a done preparation
prepared_shift : (s : Shift) → (preparing_book s).0 ≡ Ok Done
    → next_shift s prepare_book ≡ shift_of s.course (replicate (length s.book) 0) (prepared (Ok Done) ∷ s.entries)
unfolding next_shift
prepared_shift s d = go (preparing_is (head_of_lem s) s.book) d
  where
    go : {o : BookAnswer × List ℕ} → Prepared (head_of_lem s) s.book o → o.0 ≡ Ok Done
        → shift_of s.course o.1 (prepared o.0 ∷ s.entries) ≡ shift_of s.course (replicate (length s.book) 0) (prepared (Ok Done) ∷ s.entries)
    go (was_prepared f g) e = refl
    go (not_prepared r) e = let z : ◌≡◌ {A = ℕ} 0 1 = cc in absurd (omega arith)

prepared_holds : (s : Shift) → (preparing_book s).0 ≡ Ok Done
    → let v = next_shift s prepare_book in Holding (slots_in s) (head_of_lem v) v.book v.entries
prepared_holds s d =
    subst (λ (v : Shift). Holding (slots_in s) (head_of_lem v) v.book v.entries) (sym (prepared_shift s d)) (go (preparing_is (head_of_lem s) s.book) d)
  where
    go : {o : BookAnswer × List ℕ} → Prepared (head_of_lem s) s.book o → o.0 ≡ Ok Done
        → Holding (slots_in s) (head_of_lem s) (replicate (length s.book) 0) (prepared (Ok Done) ∷ s.entries)
    go (was_prepared f g) e = begun (head_of_lem s) s.book s.entries f g
    go (not_prepared r) e = let z : ◌≡◌ {A = ℕ} 0 1 = cc in absurd (omega arith)

from_prepared : (P : Shift → Type 0) → ((v : Shift) → Holding (slots_in v) (head_of_lem v) v.book v.entries → P v) → FromPrepared P
unfolding run_shift
from_prepared P f s items d e t =
    let v = run_shift (next_shift s prepare_book) items in
    let k = runs_hold (slots_in s) (next_shift s prepare_book) items (prepared_holds s d) e t in
    f v (own (slots_in s) v k)

-- ---- what is read

module _ (v : Shift) (k : Holding (slots_in v) (head_of_lem v) v.book v.entries) where
  version_holds : (slot w : ℕ) → slot < slots_in v → reading_version v slot w ≡ version_read (settings slot v.entries) w
  version_holds slot w i = k.book_is.says (head_of_lem v) slot w k.head_fits_lem refl i

  read_holds : (slot : ℕ) → slot < slots_in v → reading v slot ≡ newest_read (settings slot v.entries)
  unfolding read_setpoint_of
  read_holds slot i =
      version_holds slot (newest_at v.book slot) i
      ∙ ap (version_read (settings slot v.entries)) (k.book_is.newest slot i)
      ∙ version_newest (settings slot v.entries)

pub reads_last_write : ReadsLastWrite
reads_last_write = from_prepared _ read_holds

pub reads_newest_four : ReadsNewestFour
reads_newest_four = from_prepared _ version_holds

pub never_exactly : NeverExactly
never_exactly =
    from_prepared (λ v. (slot w : ℕ) → slot < slots_in v
    → (reading_version v slot w ≡ Err NeverWritten) ↔ (Keeps (length (settings slot v.entries)) w → ⊥)) exactly
  where
    setting_apart : (p : Setpoint) (w : ℕ) → Ok (Setting p w) ≡ Err NeverWritten → ⊥
    setting_apart p w e = let z : ◌≡◌ {A = ℕ} 0 1 = cc in omega arith

    exactly : (v : Shift) → Holding (slots_in v) (head_of_lem v) v.book v.entries
        → (slot w : ℕ) → slot < slots_in v → (reading_version v slot w ≡ Err NeverWritten) ↔ (Keeps (length (settings slot v.entries)) w → ⊥)
    exactly v k slot w i = (
      λ e q. setting_apart _ w (sym (version_kept (settings slot v.entries) w q) ∙ sym (version_holds v k slot w i) ∙ e),
      λ d. version_holds v k slot w i ∙ version_lost (settings slot v.entries) w d,
    )

pub prepared_reads_nothing : PreparedReadsNothing
unfolding settings
prepared_reads_nothing s slot w d i =
    let v = next_shift s prepare_book in
    let e = prepared_shift s d in
    let same : slots_in v ≡ slots_in s = ap slots_in e in
    let k = own (slots_in s) v (prepared_holds s d) in
    let none = ap (λ (u : Shift). settings slot u.entries) e in (
      read_holds v k slot (omega (arith, same)) ∙ ap newest_read none,
      version_holds v k slot w (omega (arith, same)) ∙ ap (λ (ss : List Setpoint). version_read ss w) none ∙ version_lost [] w (λ q. omega (arith, q.0, q.1)),
    )

pub forgets_older_bytes : ForgetsOlderBytes
unfolding run_shift
forgets_older_bytes k b c es items e d =
    ap (λ (v : Shift). run_shift v items)
    (prepared_shift (shift_of k b es) d ∙ ap (λ (n : ℕ). shift_of k (replicate n 0) (prepared (Ok Done) ∷ es)) e ∙ sym (prepared_shift (shift_of k c es) (sym (prepare_alike k.world.head b c e) ∙ d)))

-- ---- the bytes

pub never_overlap : NeverOverlap
never_overlap =
    from_prepared (λ v.
    (i j : ℕ) → i < lines_of (slots_in v) → j < lines_of (slots_in v) → i ≢ j → Kept v.book i → Kept v.book j → Apart (place_at v.book i) (place_at v.book j))
    (λ v k. k.book_is.sound.fits.apart)

pub free_are_zeros : FreeAreZeros
free_are_zeros = from_prepared (λ v. Clean (slots_in v) v.book) (λ v k. k.book_is.clean)

pub newer_lie_behind : NewerLieBehind
newer_lie_behind =
    from_prepared (λ v.
    (slot i j : ℕ) → slot < slots_in v → i < j → j < 4 → Kept v.book (4 * slot + j) → place_at v.book (4 * slot + j) + 5 ≤ place_at v.book (4 * slot + i))
    (λ v k. k.book_is.newer)

-- ---- never damaged

no_head : (h : Head) (b : List ℕ) (slot w : ℕ) → head_fits h ≡ false → read_version_of h b slot w ≡ Err BadShape
unfolding read_version_of open_rules kept_rules first_fault
no_head h b slot w e = rw e

no_slot : (h : Head) (b : List ℕ) (slot w : ℕ) → head_fits h ≡ true → is_bad_slot (slots_of h) (length b) slot ≡ true → read_version_of h b slot w ≡ Err BadSlot
unfolding read_version_of open_rules kept_rules first_fault
no_slot h b slot w e f = rw (e, f)

sound_reads : (h : Head) (b : List ℕ) (slot w : ℕ) → Sound (slots_of h) b → read_version_of h b slot w ≢ Err DamagedBook
sound_reads h b slot w s e = go (head_fits h) (is_bad_slot (slots_of h) (length b) slot) refl refl
  where
    tests : is_sound (slots_of h) b ≡ true
    tests = is_sound_lem (slots_of h) b s

    go : (x y : Bool) → head_fits h ≡ x → is_bad_slot (slots_of h) (length b) slot ≡ y → ⊥
    go false y p q = let z : Err BadShape ≡ Err DamagedBook = sym (no_head h b slot w p) ∙ e in let o : ◌≡◌ {A = ℕ} 0 1 = cc in omega arith
    go true true p q = let z : Err BadSlot ≡ Err DamagedBook = sym (no_slot h b slot w p q) ∙ e in let o : ◌≡◌ {A = ℕ} 0 1 = cc in omega arith
    go true false p q = newest_read (kept_or (newest_at b slot) w)
      where
        fine : SlotFine (slots_of h) (length b) slot
        fine = slot_fine (slots_of h) (length b) slot q

        newest_read : Dec (Keeps (newest_at b slot) w) → ⊥
        newest_read (yes k) =
            let t = kept_tells (slots_of h) b slot w s fine.inside k in
            let z : (Ok (Setting t.0 w)) ≡ Err DamagedBook = sym (read_kept h b slot p fine w tests k ∙ t.1) ∙ e in
            let o : ◌≡◌ {A = ℕ} 0 1 = cc in
            omega arith
        newest_read (no k) =
            let z : Err NeverWritten ≡ Err DamagedBook = sym (read_lost h b slot p fine w tests k) ∙ e in
            let o : ◌≡◌ {A = ℕ} 0 1 = cc in
            omega arith

sound_newest : (h : Head) (b : List ℕ) (slot : ℕ) → Sound (slots_of h) b → read_setpoint_of h b slot ≢ Err DamagedBook
unfolding read_setpoint_of
sound_newest h b slot s = sound_reads h b slot (newest_at b slot) s

sound_writes : (h : Head) (t b : List ℕ) (slot : ℕ) (l : Lease) (s : Setpoint) → Sound (slots_of h) b → (write_setpoint_of h t b slot l s).0 ≢ Err DamagedBook
sound_writes h t b slot l s f = go (writing_is h t b slot l s)
  where
    go : {o : BookAnswer × List ℕ} → Outcome h t b slot l s o → o.0 ≡ Err DamagedBook → ⊥
    go (done c r) e = let z : ◌≡◌ {A = ℕ} 0 1 = cc in omega arith
    go (full c r) e = let z : ◌≡◌ {A = ℕ} 0 1 = cc in omega arith
    go (refused r d g c) e = false_not (sym (g (ap refusal_in e)) ∙ is_sound_lem (slots_of h) b f)

pub never_damaged : NeverDamaged
never_damaged =
    from_prepared (λ v.
    ((slot : ℕ) → reading v slot ≢ Err DamagedBook)
    × ((slot w : ℕ) → reading_version v slot w ≢ Err DamagedBook)
    × ((slot : ℕ) (l : Lease) (p : Setpoint) → (writing v slot l p).0 ≢ Err DamagedBook))
    (λ v k. (
      λ slot. newest v k slot,
      λ slot w. sound_reads (head_of_lem v) v.book slot w k.book_is.sound,
      λ slot l p. sound_writes (head_of_lem v) (world_of v).table v.book slot l p k.book_is.sound,
    ))
  where
    newest : (v : Shift) → Holding (slots_in v) (head_of_lem v) v.book v.entries → (slot : ℕ) → reading v slot ≢ Err DamagedBook
    newest v k slot = sound_newest (head_of_lem v) v.book slot k.book_is.sound

-- ---- what touches the book

pub untouched_otherwise : UntouchedOtherwise
unfolding next_shift
untouched_otherwise s (arena_item i) = inr refl
untouched_otherwise s prepare_book = go (preparing_is (head_of_lem s) s.book)
  where
    go : {o : BookAnswer × List ℕ} → Prepared (head_of_lem s) s.book o → (o.0 ≡ Ok Done) ⊎ (o.1 ≡ s.book)
    go (was_prepared f g) = inl refl
    go (not_prepared r) = inr refl
untouched_otherwise s (write_setpoint t l p) = go (writing_is (head_of_lem s) (world_of s).table s.book t l p)
  where
    go : {o : BookAnswer × List ℕ} → Outcome (head_of_lem s) (world_of s).table s.book t l p o
        → ((v moved : ℕ) × (o.0 ≡ Ok (Written v moved))) ⊎ (o.1 ≡ s.book)
    go (done c f) = inl (_, _, refl)
    go (full c f) = inr refl
    go (refused r d g c) = inr refl
untouched_otherwise s (read_setpoint t) = inr refl
untouched_otherwise s (read_version t w) = inr refl

-- ---- damage stays

-- an item that is no done preparation leaves a damaged book as it is
damaged_item : (s : Shift) (i : BookItem) → (Sound (slots_in s) s.book → ⊥) → (i ≡ prepare_book → (preparing_book s).0 ≢ Ok Done) → (next_shift s i).book ≡ s.book
unfolding next_shift
damaged_item s (arena_item i) d u = refl
damaged_item s prepare_book d u = go (preparing_is (head_of_lem s) s.book) (u refl)
  where
    go : {o : BookAnswer × List ℕ} → Prepared (head_of_lem s) s.book o → o.0 ≢ Ok Done → o.1 ≡ s.book
    go (was_prepared f g) n = absurd (n refl)
    go (not_prepared r) n = refl
damaged_item s (write_setpoint t l p) d u = go (writing_is (head_of_lem s) (world_of s).table s.book t l p)
  where
    go : {o : BookAnswer × List ℕ} → Outcome (head_of_lem s) (world_of s).table s.book t l p o → o.1 ≡ s.book
    go (done c f) = absurd (d (sound_is (slots_in s) s.book c.sound))
    go (full c f) = refl
    go (refused r e g c) = refl
damaged_item s (read_setpoint t) d u = refl
damaged_item s (read_version t w) d u = refl

damaged_run : (n : ℕ) (s : Shift) (items : List BookItem) → slots_in s ≡ n → (Sound n s.book → ⊥) → SameSlots n s items → Unprepared s items
    → (run_shift s items).book ≡ s.book
unfolding run_shift
damaged_run n s [] e d same u = refl
damaged_run n s (i ∷ is) e d same u =
    let one = damaged_item s i (λ q. d (subst (λ (m : ℕ). Sound m s.book) e q)) u.0 in
    damaged_run n (next_shift s i) is same.0 (λ q. d (subst (Sound n) one q)) same.1 u.1 ∙ one

pub damage_stays : DamageStays
damage_stays s items d same u = damaged_run (slots_in s) s items refl d same u
