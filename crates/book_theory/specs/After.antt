-- What a done write leaves, when one is done, and when it is BookFull.
use Rattle.std.specs.Prelude.{ℕ, zero, suc, ◌+◌, ◌*◌, ◌≤◌, ◌<◌, ◌≡◌, refl, ◌≢◌, ◌⊎◌, List, Bool, true, false, not, ◌&&◌, eqb, length, if◌then◌else◌, Ok, Err}
use Rattle.std.proofs.Common.{sym, ap, ◌∙◌, subst, inl, inr, arith}
use Rattle.std.proofs.Math.Decide.{ℕ_discrete}
use borrow.Author.Tests.{ltb-true, ltb-false, eq-eqb, eqb-true, eqb-false, not-true, not-false}
use Rattle.choice.specs.Pick.{both, false_not}
use Rattle.laws.specs.Shape.{shaped}
use Rattle.model.specs.Arena.{cells_of, hold_in, head_fits}
use Rattle.types.specs.declared.Head.{Head}
use Rattle.types.specs.declared.Lease.{Lease}
use Rattle.setpoint.specs.RoundTrip.{Held}
use Rattle.setpoint.specs.declared.Setpoint.{Setpoint}
use Rattle.book_rules.specs.Layout.{slots_of, lines_of, front_of, place_at, length_at, newest_at, is_kept}
use Rattle.book_rules.specs.Writing.{count, drop_oldest_of, kept_of, end_of, is_crowded, is_full, slid_of, moved_of, put_over_of, put_of}
use Rattle.book_rules.specs.Calls.{write_setpoint_of, read_version_of}
use Rattle.book_rules.specs.Many.{count_less, most_within}
use Rattle.book_rules.specs.Sound.{Kept, Fits, Sound}
use Rattle.book_rules.proofs.Sound.{sound_is, is_sound_lem, is_kept_lem}
use Rattle.book_rules.proofs.Dropped.{dropped}
use Rattle.book_rules.proofs.Slid.{ends_is}
use Rattle.book_rules.specs.Appended.{goes_of}
use Rattle.book_rules.specs.Wrote.{staying_of, is_staying}
use Rattle.book_rules.proofs.Wrote.{staying_is, Wrote, put_wrote, still_moved}
use Rattle.book_rules.proofs.Fine.{shape_head}
use Rattle.book_rules.specs.Outcomes.{Claim}
use Rattle.book_rules.proofs.Outcomes.{Outcome, done, full, refused, writing_is}
use Rattle.book_rules.proofs.Readings.{other_reads, own_reads, new_reads, dropped_reads}
use Rattle.book_rules.specs.declared.BookDone.TheVariants.{Done, Written, Setting}
use Rattle.book_rules.specs.declared.BookRefusal.{BookRefusal}
use Rattle.book_rules.specs.declared.BookRefusal.TheVariants.{BookFull}
use Rattle.history.specs.Tests.{alive, live}
use Rattle.history.specs.Events.{fits}
use Rattle.book_theory.specs.Statements.{OthersReadAsBefore, NewReadsAsWritten, OldestIsDropped, RaisesByOne, summed, is_moved, MovedIsSummed, StillMovesNothing, SlidesMove, OrderIsKept, Writable, Needed, FullExactly, DoneExactly, RoomForAll, RefusedChangesNothing}
use Rattle.book_rules.specs.Rules.{BookAnswer}

-- ---- a done write

abbrev version_in : BookAnswer → ℕ
version_in (Ok Done) = 0
version_in (Ok (Written v m)) = v
version_in (Ok (Setting p v)) = 0
version_in (Err r) = 0

abbrev moved_in : BookAnswer → ℕ
moved_in (Ok Done) = 0
moved_in (Ok (Written v m)) = m
moved_in (Ok (Setting p v)) = 0
moved_in (Err r) = 0

abbrev pub refusal_in : BookAnswer → BookRefusal
refusal_in (Ok Done) = BookFull
refusal_in (Ok (Written v m)) = BookFull
refusal_in (Ok (Setting p v)) = BookFull
refusal_in (Err r) = r

-- the facts of one
record Facts (h : Head) (t b c : List ℕ) (slot : ℕ) (l : Lease) (s : Setpoint) (v moved : ℕ) : Type 0 where
  pub claim : Claim h t b slot l s
  pub head_fits_lem : head_fits h ≡ true
  pub sound : Sound (slots_of h) b
  pub version : v ≡ newest_at b slot + 1
  pub wrote : Wrote (slots_of h) b c slot s moved
  pub room : is_full (slots_of h) (drop_oldest_of b slot) ≡ false
  -- where bodies did not slide, and where they did
  pub still : is_crowded (slots_of h) (drop_oldest_of b slot) ≡ false → moved ≡ 0
  pub slid : is_crowded (slots_of h) (drop_oldest_of b slot) ≡ true → moved ≡ moved_of (slots_of h) (drop_oldest_of b slot)

slid_moved : (n : ℕ) (b : List ℕ) (slot : ℕ) (s : Setpoint) (v : ℕ) → is_crowded n (drop_oldest_of b slot) ≡ true → (put_of n b slot s v).0 ≡ moved_of n (drop_oldest_of b slot)
unfolding put_of put_over_of
slid_moved n b slot s v e = rw e

facts : (h : Head) (t b : List ℕ) (slot : ℕ) (l : Lease) (s : Setpoint) (v moved : ℕ) → Held s
    → (write_setpoint_of h t b slot l s).0 ≡ Ok (Written v moved) → Facts h t b (write_setpoint_of h t b slot l s).1 slot l s v moved
facts h t b slot l s v moved held e = go (writing_is h t b slot l s) e
  where
    go : {o : BookAnswer × List ℕ} → Outcome h t b slot l s o → o.0 ≡ Ok (Written v moved) → Facts h t b o.1 slot l s v moved
    go (done c f) e =
        let sound = sound_is (slots_of h) b c.sound in
        record {
          claim = c;
          head_fits_lem = shape_head h (length t) c.given.shape;
          sound = sound;
          version = sym (ap version_in e);
          wrote = subst (λ (m : ℕ). Wrote (slots_of h) b (put_of (slots_of h) b slot s (newest_at b slot + 1)).1 slot s m) (ap moved_in e)
              (put_wrote (slots_of h) b slot s c.given.slot_is.inside sound held c.given.whole f);
          room = f;
          still = λ q. sym (ap moved_in e) ∙ still_moved (slots_of h) b slot s (newest_at b slot + 1) q;
          slid = λ q. sym (ap moved_in e) ∙ slid_moved (slots_of h) b slot s (newest_at b slot + 1) q;
        }
    go (full c f) e = let z : ◌≡◌ {A = ℕ} 0 1 = cc in absurd (omega arith)
    go (refused r d g c) e = let z : ◌≡◌ {A = ℕ} 0 1 = cc in absurd (omega arith)

pub others_read_as_before : OthersReadAsBefore write_setpoint_of read_version_of
others_read_as_before h t b slot l s v moved held e i w d inside = go (ℕ_discrete i slot) d
  where
    f : Facts h t b (write_setpoint_of h t b slot l s).1 slot l s v moved
    f = facts h t b slot l s v moved held e

    other : i ≢ slot → read_version_of h (write_setpoint_of h t b slot l s).1 i w ≡ read_version_of h b i w
    other q =
        let k = f.claim.given.slot_is in
        other_reads (slots_of h) b _ slot s moved k.inside f.sound f.wrote h f.head_fits_lem refl k.room k.limit i w inside q

    go : Dec (i ≡ slot) → (i ≢ slot) ⊎ ((w ≢ v) × (w + 4 ≢ v)) → read_version_of h (write_setpoint_of h t b slot l s).1 i w ≡ read_version_of h b i w
    go (no q) d = other q
    go (yes q) (inl d) = absurd (d q)
    go (yes q) (inr d) =
        let k = f.claim.given.slot_is in
        rw q (own_reads (slots_of h) b _ slot s moved k.inside f.sound f.wrote h f.head_fits_lem refl k.room k.limit w
        (λ z. d.0 (z ∙ sym f.version)) (λ z. d.1 (z ∙ sym f.version)))

pub new_reads_as_written : NewReadsAsWritten write_setpoint_of read_version_of
new_reads_as_written h t b slot l s v moved held e =
    let f = facts h t b slot l s v moved held e in
    let k = f.claim.given.slot_is in
    subst (λ (x : ℕ). read_version_of h (write_setpoint_of h t b slot l s).1 slot x ≡ Ok (Setting s x)) (sym f.version)
    (new_reads (slots_of h) b _ slot s moved k.inside f.sound f.wrote h f.head_fits_lem refl k.room k.limit)

pub oldest_is_dropped : OldestIsDropped write_setpoint_of read_version_of
oldest_is_dropped h t b slot l s v moved held e w q =
    let f = facts h t b slot l s v moved held e in
    let k = f.claim.given.slot_is in
    dropped_reads (slots_of h) b _ slot s moved k.inside f.sound f.wrote h f.head_fits_lem refl k.room k.limit w (q ∙ f.version)

pub raises_by_one : RaisesByOne write_setpoint_of
raises_by_one h t b slot l s v moved held e =
    let f = facts h t b slot l s v moved held e in
    (f.version, f.wrote.newest ∙ sym f.version)

-- the summed lengths of lines that have length 5 are 5 times their number
summed_fives : (m : ℕ) (t : ℕ → Bool) (g : ℕ → ℕ) → ((k : ℕ) → k < m → t k ≡ true → g k ≡ 5) → summed m (λ k. if t k then g k else 0) ≡ 5 * count m t
unfolding summed count
summed_fives zero t g h = refl
summed_fives (suc m) t g h = omega (arith, summed_fives m t g (λ k l. h k (omega arith)), one (t m) (h m (omega arith)))
  where
    one : (x : Bool) → (x ≡ true → g m ≡ 5) → (if x then g m else 0) ≡ 5 * (if x then 1 else 0)
    one true f = omega (arith, f refl)
    one false f = refl

pub moved_is_summed : MovedIsSummed write_setpoint_of
unfolding is_moved
moved_is_summed h t b slot l s v moved held e =
    let f = facts h t b slot l s v moved held e in
    let n = slots_of h in
    f.wrote.moved_is
    ∙ sym (summed_fives (lines_of n) (λ k. is_staying b slot k && not (eqb (place_at (write_setpoint_of h t b slot l s).1 (goes_of slot k)) (place_at b k))) (length_at b)
    (λ k i q. f.sound.fits.five k i (is_kept_lem b k (both (is_kept b k) (not (eqb k (4 * slot + 3))) (both (is_staying b slot k) _ q).0).0)))

-- a test that holds of no number below m, since it is counted 0 times
count_zero : (m : ℕ) (f : ℕ → Bool) → count m f ≡ 0 → (k : ℕ) → k < m → f k ≡ false
count_zero m f e k l = go (f k) refl
  where
    go : (x : Bool) → f k ≡ x → x ≡ false
    go true q = absurd (omega (arith, e, count_less m (λ i. false) f k l refl q (λ i h z. false_not z)))
    go false q = refl

pub still_moves_nothing : StillMovesNothing write_setpoint_of
still_moves_nothing h t b slot l s v moved held e q =
    let f = facts h t b slot l s v moved held e in
    let none = f.still q in (
      none,
      λ k i staying.
          at k (is_staying b slot k) staying
          (count_zero (lines_of (slots_of h)) (λ k. is_staying b slot k && not (eqb (place_at (write_setpoint_of h t b slot l s).1 (goes_of slot k)) (place_at b k)))
          (omega (arith, f.wrote.moved_is)) k i),
    )
  where
    at : (k : ℕ) (x : Bool) → x ≡ true → (x && not (eqb (place_at (write_setpoint_of h t b slot l s).1 (goes_of slot k)) (place_at b k))) ≡ false
        → place_at (write_setpoint_of h t b slot l s).1 (goes_of slot k) ≡ place_at b k
    at k true y z = eqb-true _ _ (not-false _ z)
    at k false y z = false_not y

-- crowded, with room for one more body: the last body does not end where the kept ones do
crowded_full : (n : ℕ) (d : List ℕ) → is_crowded n d ≡ true → is_full n d ≡ false
    → (front_of n + 5 * kept_of n d ≤ length d → end_of n d ≤ front_of n + 5 * kept_of n d) → ⊥
unfolding is_crowded is_full
crowded_full n d c r h =
    let room = ltb-false (length d) (front_of n + 5 * kept_of n d + 5) r in
    omega (arith, ltb-true (length d) (end_of n d + 5) c, room, h (omega arith))

-- a book that fits and in which no body would slide has its last body at the end of all kept ones
unmoved_end : (n : ℕ) (d : List ℕ) → Fits n d → front_of n + 5 * kept_of n d ≤ length d → moved_of n d ≡ 0 → end_of n d ≤ front_of n + 5 * kept_of n d
unfolding moved_of end_of
unmoved_end n d f room e =
    most_within (lines_of n) (λ k. if is_kept d k then place_at d k + 5 else 0) (front_of n) (front_of n + 5 * kept_of n d) (omega arith)
    (λ k u. go k u (is_kept d k) (is_kept_lem d k) (count_zero (lines_of n) (λ k. is_kept d k && not (eqb (slid_of n d (place_at d k)) (place_at d k))) (omega arith) k u))
  where
    go : (k : ℕ) → k < lines_of n → (x : Bool) → (x ≡ true → Kept d k) → (x && not (eqb (slid_of n d (place_at d k)) (place_at d k))) ≡ false
        → (if x then place_at d k + 5 else 0) ≤ front_of n + 5 * kept_of n d
    go k u true q z = omega (arith, eqb-true (slid_of n d (place_at d k)) (place_at d k) (not-false _ z), ends_is n d f room k u (q refl))
    go k u false q z = omega arith

fives : (n : ℕ) (d : List ℕ) → (moved_of n d ≡ 0 → ⊥) → 5 ≤ moved_of n d
unfolding moved_of
fives n d z = omega (arith, z)

pub slides_move : SlidesMove write_setpoint_of
slides_move h t b slot l s v moved held e q =
    let f = facts h t b slot l s v moved held e in
    let n = slots_of h in
    let w = dropped n b slot f.claim.given.slot_is.inside f.sound.fits in
    omega (arith, f.slid q, fives n (drop_oldest_of b slot) (λ z. none n (drop_oldest_of b slot) w.fits q f.room z))
  where
    none : (n : ℕ) (d : List ℕ) → Fits n d → is_crowded n d ≡ true → is_full n d ≡ false → moved_of n d ≡ 0 → ⊥
    none n d fit c r z = crowded_full n d c r (λ k. unmoved_end n d fit k z)

pub order_is_kept : OrderIsKept write_setpoint_of
order_is_kept h t b slot l s v moved held e k j hk hj pk pj o =
    let f = facts h t b slot l s v moved held e in
    let u = both (is_kept b k) (not (eqb k (4 * slot + 3))) pk in
    let w = both (is_kept b j) (not (eqb j (4 * slot + 3))) pj in
    f.wrote.order k j hk hj (eqb-false k (4 * slot + 3) (not-true _ u.1)) (eqb-false j (4 * slot + 3) (not-true _ w.1)) (is_kept_lem b k u.0) (is_kept_lem b j w.0) o

-- ---- what is tested, in numbers

writable : (h : Head) (t b : List ℕ) (slot : ℕ) (l : Lease) (s : Setpoint) → Claim h t b slot l s → Writable h t b slot l s
writable h t b slot l s c =
    let g = c.given in
    record {
      shape = shaped h (length t) g.shape;
      contents = g.slot_is.room;
      limit = g.slot_is.limit;
      inside = g.slot_is.inside;
      boot = eqb-true _ _ (not-false _ g.fresh);
      own = g.own;
      owner = alive h.next (cells_of h) t (hold_in l) g.live;
      finite = g.whole;
      sound = sound_is (slots_of h) b c.sound;
      remains = c.remains;
    }

claimed : (h : Head) (t b : List ℕ) (slot : ℕ) (l : Lease) (s : Setpoint) → Writable h t b slot l s → Claim h t b slot l s
claimed h t b slot l s w =
    record {
      given =
          record {
            shape = fits h (length t) w.shape;
            slot_is = record { room = w.contents; limit = w.limit; inside = w.inside };
            fresh = ap not (eq-eqb l.boot h.boot w.boot);
            live = live h.next (cells_of h) t (hold_in l) w.owner;
            own = w.own;
            whole = w.finite;
          };
      sound = is_sound_lem (slots_of h) b w.sound;
      remains = w.remains;
    }

-- the room, counted in the book before
staying_count : (n : ℕ) (b : List ℕ) (slot : ℕ) → staying_of n b slot ≡ count (lines_of n) (is_staying b slot)
unfolding staying_of
staying_count n b slot = refl

module _ (h : Head) (t b : List ℕ) (slot : ℕ) (l : Lease) (s : Setpoint) (c : Claim h t b slot l s) where
  abbrev n : ℕ
  n = slots_of h

  sound : Sound n b
  sound = sound_is n b c.sound

  left_long : length (drop_oldest_of b slot) ≡ length b
  left_long = (dropped n b slot c.given.slot_is.inside sound.fits).long

  left_kept : kept_of n (drop_oldest_of b slot) ≡ count (lines_of n) (is_staying b slot)
  left_kept = staying_is n b slot c.given.slot_is.inside sound ∙ staying_count n b slot

  full_is : is_full n (drop_oldest_of b slot) ≡ true → length b < Needed h b slot
  unfolding is_full
  full_is e = omega (arith, ltb-true (length (drop_oldest_of b slot)) (front_of n + 5 * kept_of n (drop_oldest_of b slot) + 5) e, left_long, left_kept)

  not_full : is_full n (drop_oldest_of b slot) ≡ false → Needed h b slot ≤ length b
  unfolding is_full
  not_full e = omega (arith, ltb-false (length (drop_oldest_of b slot)) (front_of n + 5 * kept_of n (drop_oldest_of b slot) + 5) e, left_long, left_kept)

pub full_exactly : FullExactly write_setpoint_of
full_exactly h t b slot l s = (go (writing_is h t b slot l s), back (writing_is h t b slot l s))
  where
    go : {o : BookAnswer × List ℕ} → Outcome h t b slot l s o → o ≡ (Err BookFull, b) → Writable h t b slot l s × (length b < Needed h b slot)
    go (done c f) e = let x = ap (λ (o : BookAnswer × List ℕ). version_in o.0) e in absurd (omega arith)
    go (full c f) e = (writable h t b slot l s c, full_is h t b slot l s c f)
    go (refused r d g c) e = absurd (d (ap (λ (o : BookAnswer × List ℕ). refusal_in o.0) e))

    back : {o : BookAnswer × List ℕ} → Outcome h t b slot l s o → Writable h t b slot l s × (length b < Needed h b slot) → o ≡ (Err BookFull, b)
    back (done c f) p = absurd (omega (arith, not_full h t b slot l s c f, p.1))
    back (full c f) p = refl
    back (refused r d g c) p = absurd (c (claimed h t b slot l s p.0))

pub done_exactly : DoneExactly write_setpoint_of
done_exactly h t b slot l s = (go (writing_is h t b slot l s), back (writing_is h t b slot l s))
  where
    go : {o : BookAnswer × List ℕ} → Outcome h t b slot l s o → (v : ℕ) × (moved : ℕ) × (o.0 ≡ Ok (Written v moved))
        → Writable h t b slot l s × (Needed h b slot ≤ length b)
    go (done c f) e = (writable h t b slot l s c, not_full h t b slot l s c f)
    go (full c f) e = let x = e.2 in let z : ◌≡◌ {A = ℕ} 0 1 = cc in absurd (omega arith)
    go (refused r d g c) e = let x = e.2 in let z : ◌≡◌ {A = ℕ} 0 1 = cc in absurd (omega arith)

    back : {o : BookAnswer × List ℕ} → Outcome h t b slot l s o → Writable h t b slot l s × (Needed h b slot ≤ length b)
        → (v : ℕ) × (moved : ℕ) × (o.0 ≡ Ok (Written v moved))
    back (done c f) p = (newest_at b slot + 1, (put_of (slots_of h) b slot s (newest_at b slot + 1)).0, refl)
    back (full c f) p = absurd (omega (arith, full_is h t b slot l s c f, p.1))
    back (refused r d g c) p = absurd (c (claimed h t b slot l s p.0))

count_all : (m : ℕ) → count m (λ k. true) ≡ m
unfolding count
count_all zero = refl
count_all (suc m) = omega (arith, count_all m)

pub room_for_all : RoomForAll write_setpoint_of
room_for_all h t b slot l s room = go (writing_is h t b slot l s)
  where
    not_there : (x : Bool) → (x && not (eqb (4 * slot + 3) (4 * slot + 3))) ≡ false
    not_there true = ap not (eq-eqb (4 * slot + 3) (4 * slot + 3) refl)
    not_there false = refl

    go : {o : BookAnswer × List ℕ} → Outcome h t b slot l s o → o.0 ≡ Err BookFull → ⊥
    go (done c f) e = let z : ◌≡◌ {A = ℕ} 0 1 = cc in omega arith
    go (full c f) e =
        let i = c.given.slot_is.inside in
        omega (
          arith,
          full_is h t b slot l s c f,
          count_all (lines_of (slots_of h)),
          count_less (lines_of (slots_of h)) (is_staying b slot) (λ k. true) (4 * slot + 3) (omega arith) (not_there (is_kept b (4 * slot + 3))) refl (λ k h e. refl),
        )
    go (refused r d g c) e = d (ap refusal_in e)

pub refused_changes_nothing : RefusedChangesNothing write_setpoint_of
refused_changes_nothing h t b slot l s = go (writing_is h t b slot l s)
  where
    go : {o : BookAnswer × List ℕ} → Outcome h t b slot l s o → ((v moved : ℕ) → o.0 ≢ Ok (Written v moved)) → o.1 ≡ b
    go (done c f) d = absurd (d (newest_at b slot + 1) (put_of (slots_of h) b slot s (newest_at b slot + 1)).0 refl)
    go (full c f) d = refl
    go (refused r e g c) d = refl
