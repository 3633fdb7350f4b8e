-- Our four calls do what `Statement` asks: each refusal by its condition, in its place in the order, and what is done.
use Rattle.std.specs.Prelude.{ℕ, ◌+◌, ◌*◌, ◌-◌, ◌≤◌, ◌<◌, ◌≡◌, refl, ◌⊎◌, ◌≢◌, List, [], Bool, false, not, ◌&&◌, ◌||◌, ltb, leb, eqb, length, replicate, Option, Some, None, Ok, Err}
use Rattle.std.proofs.Common.{sym, ap, ◌∙◌, subst, inl, inr, arith, ltb-true, ltb-false, eqb-true, eq-eqb}
use Rattle.std.proofs.lemmas.Bool.{eqb-false, not-false}
use Rattle.choice.specs.Pick.{both}
use Rattle.model.specs.Arena.{cells_of, head_fits, shape_fits, is_stale, hold_in, is_live}
use Rattle.types.specs.declared.Head.{Head}
use Rattle.types.specs.declared.Lease.{Lease}
use Rattle.setpoint.specs.Codec.{has_body}
use Rattle.setpoint.specs.declared.Setpoint.{Setpoint}
use Rattle.book_rules.specs.Layout.{slots_of, front_of, place_at, newest_at, setting_at, is_sound}
use Rattle.book_rules.specs.Writing.{drop_oldest_of, kept_of, is_full, put_of}
use Rattle.book_rules.specs.Rules.{BookAnswer, BookCheck, first_fault, judge_book, is_bad_book, is_bad_slot, is_holder, is_gone, last_version, book_rules, claim_rules, over_rules, open_rules, kept_rules}
use Rattle.book_rules.specs.Calls.{prepare_book_of, written_of, write_setpoint_of, read_as, line_read, read_version_of, read_setpoint_of}
use Rattle.book_rules.specs.Sound.{Sound}
use Rattle.book_rules.proofs.Sound.{sound_is}
use Rattle.book_rules.proofs.Dropped.{dropped}
use Rattle.book_rules.proofs.Fine.{head_alone}
use Rattle.book_rules.specs.declared.BookDone.TheVariants.{Done, Setting}
use Rattle.book_rules.specs.declared.BookRefusal.TheVariants.{BadSlot, StaleBoot, NotHeld, NotFinite, DamagedBook, VersionsSpent, BookFull, NeverWritten}
use Rattle.history.specs.Tests.{if_cases}
use Rattle.pinned.specs.Words.{Is, If◌Then◌Else◌, With, arena, IsLive}
use Rattle.pinned.specs.Decided.{Decides}
use Rattle.pinned.proofs.Decided.{shape_decides, or_decides, ltb_decides, owned, owning, leb_decides, ne_decides, not_decides}
use Rattle.book_pinned.specs.Statement.{slots, place_in, newest, IsNotFinite, BodyAt, Undamaged, staying, BookBuild, BadHead, BadBook, NotHolder, PreparesBook, Puts, WritesOver, Writes, NotKept, ReadsVersion, MeetsBook}
use Rattle.book_pinned.specs.Plain.{place_is, version_is, body_is, finite_decides, undamaged_there, undamaged_back, damage_decides, staying_is}
use Rattle.book_pinned.specs.Puts.{puts_is}

abbrev pub ours : BookBuild
ours = record { prepare = prepare_book_of; write = write_setpoint_of; read = read_setpoint_of; read_version = read_version_of }

-- ---- tests

eqb_decides : (a b : ℕ) → Decides (eqb a b) (a ≡ b)
eqb_decides a b = (eqb-true a b, eqb-false a b)

head_decides : (h : Head) → Decides (not (head_fits h)) (BadHead h)
head_decides h = subst (λ (x : Bool). Decides (not x) (BadHead h)) (sym (head_alone h)) (shape_decides h (3 * (h.headers * h.buckets)))

book_decides : (n : ℕ) (b : List ℕ) → Decides (is_bad_book n (length b)) (BadBook n b)
unfolding is_bad_book
book_decides n b = or_decides (ltb (length b) (front_of n)) (ltb 32768 (length b)) (ltb_decides (length b) (32 * n)) (ltb_decides 32768 (length b))

slot_decides : (n : ℕ) (b : List ℕ) (slot : ℕ) → Decides (is_bad_slot n (length b) slot) (BadBook n b ⊎ (n ≤ slot))
unfolding is_bad_slot
slot_decides n b slot = or_decides (is_bad_book n (length b)) (leb n slot) (book_decides n b) (leb_decides n slot)

holder_decides : (h : Head) (t : List ℕ) (slot : ℕ) (l : Lease) → Decides (not (is_holder h t slot (hold_in l))) (NotHolder h t slot l)
unfolding is_holder
holder_decides h t slot l =
    not_decides (is_live h.next (cells_of h) t (hold_in l) && eqb l.cell slot) (IsLive (arena h t []) l.cell l.serial × (l.cell ≡ slot))
    (λ e. let x = both (is_live h.next (cells_of h) t (hold_in l)) (eqb l.cell slot) e in (owned (arena h t []) l.cell l.serial x.0, eqb-true l.cell slot x.1))
    (λ x. rw (owning (arena h t []) l.cell l.serial x.0, eq-eqb l.cell slot x.1))

gone_decides : (b : List ℕ) (slot w : ℕ) → Decides (is_gone b slot w) (NotKept b slot w)
unfolding is_gone
gone_decides b slot w =
    subst (λ (v : ℕ). Decides (eqb w 0 || (ltb v w || leb (w + 4) v)) (NotKept b slot w)) (sym (version_is b (4 * slot)))
    (or_decides (eqb w 0) (ltb (newest b slot) w || leb (w + 4) (newest b slot)) (eqb_decides w 0)
    (or_decides (ltb (newest b slot) w) (leb (w + 4) (newest b slot)) (ltb_decides (newest b slot) w) (leb_decides (w + 4) (newest b slot))))

spent_decides : (b : List ℕ) (slot : ℕ) → Decides (eqb (newest_at b slot) last_version) (newest b slot ≡ 4_294_967_295)
spent_decides b slot =
    subst (λ (v : ℕ). Decides (eqb v last_version) (newest b slot ≡ 4_294_967_295)) (sym (version_is b (4 * slot))) (eqb_decides (newest b slot) 4_294_967_295)

full_decides : (n : ℕ) (b : List ℕ) (slot : ℕ) → slot < n → Sound n b → Decides (is_full n (drop_oldest_of b slot)) (length b < 32 * n + 5 * staying n b slot + 5)
unfolding is_full
full_decides n b slot i s = (
  (λ e. omega (arith, ltb-true (length d) (front_of n + 5 * kept_of n d + 5) e, long, staying_is n b slot i s.fits)),
  λ e l. omega (arith, ltb-false (length d) (front_of n + 5 * kept_of n d + 5) e, long, staying_is n b slot i s.fits),
)
  where
    d : List ℕ
    d = drop_oldest_of b slot

    long : length d ≡ length b
    long = (dropped n b slot i s.fits).long

below : (n slot : ℕ) → (n ≤ slot → ⊥) → slot < n
below n slot k = omega (arith, k)

undamaged : (n : ℕ) (b : List ℕ) → not (is_sound n b) ≡ false → Undamaged n b
undamaged n b e = undamaged_there n b (sound_is n b (not-false (is_sound n b) e))

-- ---- preparing and reading

prepares_is : (h : Head) (b : List ℕ) → PreparesBook h b (prepare_book_of h b)
unfolding prepare_book_of book_rules first_fault
prepares_is h b =
    if_cases (λ (k : BookCheck). PreparesBook h b (judged k)) (not (head_fits h)) (λ e. inl ((head_decides h).0 e, refl))
    (λ e. inr (
      (head_decides h).1 e,
      if_cases (λ (k : BookCheck). Rest (judged k)) (is_bad_book (slots_of h) (length b)) (λ u. inl ((book_decides (slots h) b).0 u, refl))
          (λ u. inr ((book_decides (slots h) b).1 u, refl)),
    ))
  where
    judged : BookCheck → BookAnswer × List ℕ
    judged k = judge_book k (λ r. (Err r, b)) (Ok Done, replicate (length b) 0)

    Rest : BookAnswer × List ℕ → Type 0
    Rest = If◌Then◌Else◌ (BadBook (slots h) b) (Is (Err BadSlot, b)) (Is (Ok Done, replicate (length b) 0))

-- a kept version's line is used, so its five bytes mean a setpoint, and this is told
version_read_is : (n : ℕ) (b : List ℕ) (slot w : ℕ) → slot < n → Undamaged n b → (NotKept b slot w → ⊥)
    → With (BodyAt b (place_in b (4 * slot + (newest b slot - w)))) (λ s. Is (Ok (Setting s w))) (line_read b (4 * slot + (newest_at b slot - w)) w)
unfolding line_read
version_read_is n b slot w i u g = subst (λ (v : ℕ). With (BodyAt b (place_in b k)) (λ s. Is (Ok (Setting s w))) (read_as (setting_at b (place_at b (4 * slot + (v - w)))) w)) (sym (version_is b (4 * slot))) (go (body_is b (place_in b k)))
  where
    k : ℕ
    k = 4 * slot + (newest b slot - w)

    means : (s : Setpoint) × BodyAt b (place_in b k) s
    means =
        let some : w ≡ 0 → ⊥ = (λ z. g (inl z)) in
        let written : newest b slot < w → ⊥ = (λ z. g (inr (inl z))) in
        let young : w + 4 ≤ newest b slot → ⊥ = (λ z. g (inr (inr z))) in
        u.means k (omega arith) (omega (arith, u.falling slot (newest b slot - w) i (omega arith)))

    go : ((s : Setpoint) × BodyAt b (place_in b k) s × (setting_at b (place_in b k) ≡ Some s)) ⊎ (((s : Setpoint) → BodyAt b (place_in b k) s → ⊥) × (setting_at b (place_in b k) ≡ None))
        → With (BodyAt b (place_in b k)) (λ s. Is (Ok (Setting s w))) (read_as (setting_at b (place_at b k)) w)
    go (inl (s, m, e)) = (s, m, ap (λ (p : ℕ). read_as (setting_at b p) w) (place_is b k) ∙ ap (λ (x : Option Setpoint). read_as x w) e)
    go (inr (f, e)) = absurd (f means.0 means.1)

reads_is : (h : Head) (b : List ℕ) (slot w : ℕ) → ReadsVersion h b slot w (read_version_of h b slot w)
unfolding read_version_of open_rules kept_rules first_fault
reads_is h b slot w =
    if_cases (λ (k : BookCheck). ReadsVersion h b slot w (judged k)) (not (head_fits h)) (λ e. inl ((head_decides h).0 e, refl))
    (λ e. inr (
      (head_decides h).1 e,
      if_cases (λ (k : BookCheck). InSlot (judged k)) (is_bad_slot (slots_of h) (length b) slot) (λ x. inl ((slot_decides (slots h) b slot).0 x, refl))
          (λ x. let there = (slot_decides (slots h) b slot).1 x in
          inr (
            there,
            if_cases (λ (k : BookCheck). SoundBook (judged k)) (not (is_sound (slots_of h) b)) (λ y. inl ((damage_decides (slots h) b).0 y, refl))
                (λ y. inr (
                  (damage_decides (slots h) b).1 y,
                  if_cases (λ (k : BookCheck). KeptVersion (judged k)) (is_gone b slot w) (λ z. inl ((gone_decides b slot w).0 z, refl))
                      (λ z. inr (
                        (gone_decides b slot w).1 z,
                        version_read_is (slots h) b slot w (below (slots h) slot (λ k. there (inr k))) (undamaged (slots h) b y) ((gone_decides b slot w).1 z),
                      )),
                )),
          )),
    ))
  where
    judged : BookCheck → BookAnswer
    judged k = judge_book k Err (line_read b (4 * slot + (newest_at b slot - w)) w)

    KeptVersion : BookAnswer → Type 0
    KeptVersion =
        If◌Then◌Else◌ (NotKept b slot w) (Is (Err NeverWritten))
        (With (BodyAt b (place_in b (4 * slot + (newest b slot - w)))) λ s. Is (Ok (Setting s w)))

    SoundBook : BookAnswer → Type 0
    SoundBook = If◌Then◌Else◌ (Undamaged (slots h) b → ⊥) (Is (Err DamagedBook)) KeptVersion

    InSlot : BookAnswer → Type 0
    InSlot = If◌Then◌Else◌ (BadBook (slots h) b ⊎ (slots h ≤ slot)) (Is (Err BadSlot)) SoundBook

-- ---- writing

over_is : (n : ℕ) (b : List ℕ) (slot : ℕ) (s : Setpoint) → slot < n
    → WritesOver n b slot s (judge_book (first_fault (over_rules n b slot)) (λ r. (Err r, b)) (written_of (newest_at b slot + 1) (put_of n b slot s (newest_at b slot + 1))))
unfolding over_rules first_fault
over_is n b slot s i =
    if_cases (λ (k : BookCheck). WritesOver n b slot s (judged k)) (not (is_sound n b)) (λ e. inl ((damage_decides n b).0 e, refl))
    (λ e. let sound = undamaged_back n b (undamaged n b e) in
    inr (
      (damage_decides n b).1 e,
      if_cases (λ (k : BookCheck). Versions (judged k)) (eqb (newest_at b slot) last_version) (λ x. inl ((spent_decides b slot).0 x, refl))
          (λ x. inr (
            (spent_decides b slot).1 x,
            if_cases (λ (k : BookCheck). Room (judged k)) (is_full n (drop_oldest_of b slot)) (λ y. inl ((full_decides n b slot i sound).0 y, refl))
                (λ y. inr (
                  (full_decides n b slot i sound).1 y,
                  subst (λ (v : ℕ). Puts n b slot s (written_of (v + 1) (put_of n b slot s (v + 1)))) (sym (version_is b (4 * slot)))
                      (puts_is n b slot i sound.fits s y),
                )),
          )),
    ))
  where
    judged : BookCheck → BookAnswer × List ℕ
    judged k = judge_book k (λ r. (Err r, b)) (written_of (newest_at b slot + 1) (put_of n b slot s (newest_at b slot + 1)))

    Room : BookAnswer × List ℕ → Type 0
    Room = If◌Then◌Else◌ (length b < 32 * n + 5 * staying n b slot + 5) (Is (Err BookFull, b)) (Puts n b slot s)

    Versions : BookAnswer × List ℕ → Type 0
    Versions = If◌Then◌Else◌ (newest b slot ≡ 4_294_967_295) (Is (Err VersionsSpent, b)) Room

writes_is : (h : Head) (t b : List ℕ) (slot : ℕ) (l : Lease) (s : Setpoint) → Writes h t b slot l s (write_setpoint_of h t b slot l s)
unfolding write_setpoint_of claim_rules first_fault
writes_is h t b slot l s =
    if_cases (λ (k : BookCheck). Writes h t b slot l s (judged k)) (not (shape_fits h (length t))) (λ e. inl ((shape_decides h (length t)).0 e, refl))
    (λ e. inr (
      (shape_decides h (length t)).1 e,
      if_cases (λ (k : BookCheck). InSlot (judged k)) (is_bad_slot (slots_of h) (length b) slot) (λ x. inl ((slot_decides (slots h) b slot).0 x, refl))
          (λ x. let there = (slot_decides (slots h) b slot).1 x in
          inr (
            there,
            if_cases (λ (k : BookCheck). Fresh (judged k)) (is_stale h l) (λ y. inl ((ne_decides l.boot h.boot).0 y, refl))
                (λ y. inr (
                  (ne_decides l.boot h.boot).1 y,
                  if_cases (λ (k : BookCheck). Holder (judged k)) (not (is_holder h t slot (hold_in l))) (λ z. inl ((holder_decides h t slot l).0 z, refl))
                      (λ z. inr (
                        (holder_decides h t slot l).1 z,
                        if_cases (λ (k : BookCheck). Finite (judged k)) (not (has_body s)) (λ u. inl ((finite_decides s).0 u, refl))
                            (λ u. inr ((finite_decides s).1 u, over_is (slots h) b slot s (below (slots h) slot (λ k. there (inr k))))),
                      )),
                )),
          )),
    ))
  where
    judged : BookCheck → BookAnswer × List ℕ
    judged k = judge_book k (λ r. (Err r, b)) (written_of (newest_at b slot + 1) (put_of (slots_of h) b slot s (newest_at b slot + 1)))

    Finite : BookAnswer × List ℕ → Type 0
    Finite = If◌Then◌Else◌ (IsNotFinite s) (Is (Err NotFinite, b)) (WritesOver (slots h) b slot s)

    Holder : BookAnswer × List ℕ → Type 0
    Holder = If◌Then◌Else◌ (NotHolder h t slot l) (Is (Err NotHeld, b)) Finite

    Fresh : BookAnswer × List ℕ → Type 0
    Fresh = If◌Then◌Else◌ (l.boot ≢ h.boot) (Is (Err StaleBoot, b)) Holder

    InSlot : BookAnswer × List ℕ → Type 0
    InSlot = If◌Then◌Else◌ (BadBook (slots h) b ⊎ (slots h ≤ slot)) (Is (Err BadSlot, b)) Fresh

pub book_meets : MeetsBook ours
unfolding read_setpoint_of
book_meets =
    record {
      prepares = prepares_is;
      writes = writes_is;
      reads_version = reads_is;
      reads = λ h b slot. ap (read_version_of h b slot) (version_is b (4 * slot));
    }
