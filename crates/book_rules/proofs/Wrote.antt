-- A write, where there is room: what it leaves, whether bodies slid or not.
use Rattle.std.specs.Prelude.{ℕ, ◌+◌, ◌*◌, ◌-◌, ◌%◌, ◌≤◌, ◌<◌, ◌≡◌, ◌≢◌, ◌⊎◌, List, Bool, ◌&&◌, eqb, if◌then◌else◌, Some}
use Rattle.std.proofs.Math.Path.{refl, ap}
use Rattle.std.proofs.Common.{sym, ◌∙◌, inl, inr, arith}
use Rattle.std.proofs.Math.Bool.{true, false, not}
use Rattle.std.proofs.Math.Decide.{ℕ_discrete, dec_lt}
use Rattle.std.proofs.Math.ListN.{length}
use borrow.Author.Tests.{ltb-false, eq-eqb, ne_eqb}
use Rattle.choice.specs.Pick.{and_false}
use Rattle.setpoint.specs.Codec.{has_body}
use Rattle.setpoint.specs.RoundTrip.{Held}
use Rattle.setpoint.specs.declared.Setpoint.{Setpoint}
use Rattle.book_rules.specs.Layout.{five_at, lines_of, front_of, place_at, version_at, is_kept, setting_at}
use Rattle.book_rules.specs.Writing.{count, most, drop_oldest_of, kept_of, end_of, is_crowded, is_full, slid_of, moved_of, compact_of, append_of, put_over_of, put_of}
use Rattle.book_rules.specs.Many.{count_same, count_none, most_start, most_each}
use Rattle.book_rules.specs.Sound.{Kept, Falls, Fits, Sound, Clean, Alike}
use Rattle.book_rules.proofs.Sound.{kept_is, is_kept_lem, unkept_is, is_unkept}
use Rattle.book_rules.specs.Dropped.{Dropped}
use Rattle.book_rules.proofs.Dropped.{dropped}
use Rattle.book_rules.proofs.Slid.{Slid, slid}
use Rattle.book_rules.specs.Appended.{goes_of, Came, is_new, is_own, is_other}
use Rattle.book_rules.proofs.Appended.{goes_own, goes_other, came, Appended, appended}
use Rattle.book_rules.specs.Wrote.{is_staying, staying_of}

pub staying_is : (n : ℕ) (b : List ℕ) (slot : ℕ) → slot < n → Sound n b → kept_of n (drop_oldest_of b slot) ≡ staying_of n b slot
unfolding kept_of staying_of
staying_is n b slot i s = count_same (lines_of n) (is_kept (drop_oldest_of b slot)) (is_staying b slot) (λ k h. go k h (ℕ_discrete k (4 * slot + 3)))
  where
    go : (k : ℕ) → k < lines_of n → Dec (k ≡ 4 * slot + 3) → is_kept (drop_oldest_of b slot) k ≡ (is_kept b k && not (eqb k (4 * slot + 3)))
    go k h (yes q) =
        rw (unkept_is (drop_oldest_of b slot) k (ap (version_at (drop_oldest_of b slot)) q ∙ (dropped n b slot i s.fits).gone), eq-eqb k (4 * slot + 3) q) (nothing (is_kept b k))
      where
        nothing : (t : Bool) → false ≡ (t && false)
        nothing true = refl
        nothing false = refl
    go k h (no q) = rw (ne_eqb k (4 * slot + 3) q) (by (is_kept b k) (is_kept_lem b k) (is_unkept b k))
      where
        by : (t : Bool) → (t ≡ true → Kept b k) → (t ≡ false → version_at b k ≡ 0) → is_kept (drop_oldest_of b slot) k ≡ (t && true)
        by true f g = kept_is (drop_oldest_of b slot) k (omega (arith, ((dropped n b slot i s.fits).lines k h q).2, f refl))
        by false f g = unkept_is (drop_oldest_of b slot) k (((dropped n b slot i s.fits).lines k h q).2 ∙ g refl)

-- b before, c after, a write of s on the slot that moved so many bytes
pub record Wrote (n : ℕ) (b c : List ℕ) (slot : ℕ) (s : Setpoint) (moved : ℕ) : Type 0 where
  pub long : length c ≡ length b
  pub sound : Sound n c
  pub clean : Clean n b → Clean n c
  pub newest : version_at c (4 * slot) ≡ version_at b (4 * slot) + 1
  pub written : setting_at c (place_at c (4 * slot)) ≡ Some s
  -- each line but the slot's oldest of four: its version, its five bytes, the order of places
  pub versions : (k : ℕ) → k < lines_of n → k ≢ 4 * slot + 3 → version_at c (goes_of slot k) ≡ version_at b k
  pub bodies : (k : ℕ) → k < lines_of n → k ≢ 4 * slot + 3 → Kept b k → five_at c (place_at c (goes_of slot k)) ≡ five_at b (place_at b k)
  pub order : (k l : ℕ) → k < lines_of n → l < lines_of n → k ≢ 4 * slot + 3 → l ≢ 4 * slot + 3 → Kept b k → Kept b l
      → place_at b k < place_at b l → place_at c (goes_of slot k) < place_at c (goes_of slot l)
  -- the new body lies behind all others
  pub behind : (k : ℕ) → k < lines_of n → k ≢ 4 * slot + 3 → Kept b k → place_at c (goes_of slot k) + 5 ≤ place_at c (4 * slot)
  pub moved_is : moved ≡ 5 * count (lines_of n) (λ k. is_staying b slot k && not (eqb (place_at c (goes_of slot k)) (place_at b k)))

-- ---- the book before the append: with room behind all bodies, at p

record Ready (n : ℕ) (d e : List ℕ) (p moved : ℕ) : Type 0 where
  long : length e ≡ length d
  versions : (k : ℕ) → k < lines_of n → version_at e k ≡ version_at d k
  bodies : (k : ℕ) → k < lines_of n → Kept d k → five_at e (place_at e k) ≡ five_at d (place_at d k)
  order : (k l : ℕ) → k < lines_of n → l < lines_of n → Kept d k → Kept d l → place_at d k < place_at d l → place_at e k < place_at e l
  fits : Fits n e
  clean : Clean n d → Clean n e
  front : front_of n ≤ p
  last : (k : ℕ) → k < lines_of n → Kept e k → place_at e k + 5 ≤ p
  fit : p + 5 ≤ length e
  moved_is : moved ≡ 5 * count (lines_of n) (λ k. is_kept d k && not (eqb (place_at e k) (place_at d k)))

module _ (n : ℕ) (d : List ℕ) (f : Fits n d) where
  -- behind the last body there is room
  ready_still : is_crowded n d ≡ false → Ready n d d (end_of n d) 0
  unfolding is_crowded end_of
  ready_still e =
      record {
        long = refl;
        versions = λ k h. refl;
        bodies = λ k h q. refl;
        order = λ k l hk hl u v o. o;
        fits = f;
        clean = λ c. c;
        front = most_start (lines_of n) (λ k. if is_kept d k then place_at d k + 5 else 0) (front_of n);
        last = λ k h q. omega (arith, most_each (lines_of n) (λ k. if is_kept d k then place_at d k + 5 else 0) (front_of n) k h, kept_end k q);
        fit = ltb-false (length d) (most (lines_of n) (λ k. if is_kept d k then place_at d k + 5 else 0) (front_of n) + 5) e;
        moved_is = omega (arith, count_none (lines_of n) (λ k. is_kept d k && not (eqb (place_at d k) (place_at d k))) (λ k h. same k));
      }
    where
      kept_end : (k : ℕ) → Kept d k → (if is_kept d k then place_at d k + 5 else 0) ≡ place_at d k + 5
      kept_end k q = rw (kept_is d k q)

      same : (k : ℕ) → (is_kept d k && not (eqb (place_at d k) (place_at d k))) ≡ false
      same k = rw (eq-eqb (place_at d k) (place_at d k) refl) (and_false (is_kept d k))

  -- there is room once they slid
  ready_slid : is_full n d ≡ false → Ready n d (compact_of n d) (front_of n + 5 * kept_of n d) (moved_of n d)
  unfolding is_full moved_of
  ready_slid e =
      let room : front_of n + 5 * kept_of n d + 5 ≤ length d = ltb-false (length d) (front_of n + 5 * kept_of n d + 5) e in
      let t = slid n d f (omega arith) in
      record {
        long = t.long;
        versions = t.versions;
        bodies = λ k h q. ap (five_at (compact_of n d)) (t.places k h q) ∙ t.bodies k h q;
        order = λ k l hk hl u v o. omega (arith, t.places k hk u, t.places l hl v, t.order k l hk u o);
        fits = t.fits;
        clean = t.clean;
        front = omega arith;
        last = λ k h q. let w : Kept d k = omega (arith, t.versions k h) in omega (arith, t.places k h w, t.ends k h w);
        fit = omega (arith, t.long);
        moved_is =
            ap (λ (x : ℕ). 5 * x)
            (count_same (lines_of n) (λ k. is_kept d k && not (eqb (slid_of n d (place_at d k)) (place_at d k)))
            (λ k. is_kept d k && not (eqb (place_at (compact_of n d) k) (place_at d k)))
            (λ k h. same t k h (is_kept d k) (is_kept_lem d k)));
      }
    where
      same : Slid n d (compact_of n d) → (k : ℕ) → k < lines_of n → (x : Bool) → (x ≡ true → Kept d k)
          → (x && not (eqb (slid_of n d (place_at d k)) (place_at d k))) ≡ (x && not (eqb (place_at (compact_of n d) k) (place_at d k)))
      same t k h true g = ap (λ (y : ℕ). not (eqb y (place_at d k))) (sym (t.places k h (g refl)))
      same t k h false g = refl

-- ---- from there on

module _ (n : ℕ) (b : List ℕ) (slot : ℕ) (s : Setpoint) (inside : slot < n) (sound : Sound n b) (held : Held s) (whole : has_body s ≡ true)
    (e : List ℕ) (p moved : ℕ) (r : Ready n (drop_oldest_of b slot) e p moved) where
  abbrev x : ℕ
  x = 4 * slot

  abbrev d : List ℕ
  d = drop_oldest_of b slot

  abbrev v : ℕ
  v = version_at b x + 1

  abbrev c : List ℕ
  c = append_of e slot s v p

  first : Dropped n b d slot
  first = dropped n b slot inside sound.fits

  final : Appended n e c slot s v p
  final =
      appended n e slot s v p inside r.fits (r.versions (x + 3) (omega arith) ∙ first.gone) held whole (omega arith) r.front r.fit r.last

  -- a line that stays, where it stands now
  stands : (k : ℕ) → k < lines_of n → k ≢ x + 3 → Alike c e (goes_of slot k) k
  stands k h q = go (dec_lt k x) (dec_lt k (x + 4))
    where
      go : Dec (k < x) → Dec (k < x + 4) → Alike c e (goes_of slot k) k
      go (yes u) w = rw (goes_other slot k (inl u)) (final.other k h (inl u))
      go (no u) (yes w) = rw (goes_own slot k (omega arith) w) (final.own k (omega arith) (omega arith))
      go (no u) (no w) = let o : x + 4 ≤ k = omega arith in rw (goes_other slot k (inr o)) (final.other k h (inr o))

  versions_is : (k : ℕ) → k < lines_of n → k ≢ x + 3 → version_at c (goes_of slot k) ≡ version_at b k
  versions_is k h q = (stands k h q).2 ∙ r.versions k h ∙ (first.lines k h q).2

  kept_d : (k : ℕ) → k < lines_of n → k ≢ x + 3 → Kept b k → Kept d k
  kept_d k h q w = omega (arith, (first.lines k h q).2)

  kept_e : (k : ℕ) → k < lines_of n → k ≢ x + 3 → Kept b k → Kept e k
  kept_e k h q w = omega (arith, (first.lines k h q).2, r.versions k h)

  bodies_is : (k : ℕ) → k < lines_of n → k ≢ x + 3 → Kept b k → five_at c (place_at c (goes_of slot k)) ≡ five_at b (place_at b k)
  bodies_is k h q w =
      ap (five_at c) (stands k h q).0
      ∙ final.bodies k h (kept_e k h q w)
      ∙ r.bodies k h (kept_d k h q w)
      ∙ ap (five_at d) (first.lines k h q).0
      ∙ first.bodies k h q w

  falls_is : Falls n c
  falls_is k h = go (came slot k)
    where
      go : Came slot k → version_at c k ≡ version_at c (k - k % 4) - k % 4
      go (is_new q) = let y : k - k % 4 ≡ k = omega arith in omega (arith, ap (version_at c) y)
      go (is_own l u w q) =
          let y : k - k % 4 ≡ x = omega arith in
          let z : l - l % 4 ≡ x = omega arith in
          let g : goes_of slot l ≡ k = goes_own slot l u (omega arith) ∙ sym q in
          omega (
            arith,
            ap (version_at c) y,
            ap (version_at b) z,
            ap (version_at c) g,
            versions_is l (omega arith) (omega arith),
            sound.falls l (omega arith),
            final.newest,
          )
      go (is_other o) = there o
        where
          there : (k < x) ⊎ (x + 4 ≤ k) → version_at c k ≡ version_at c (k - k % 4) - k % 4
          there (inl o) =
              omega (
                arith,
                ap (version_at c) (goes_other slot k (inl o)),
                versions_is k h (omega arith),
                ap (version_at c) (goes_other slot (k - k % 4) (inl (omega arith))),
                versions_is (k - k % 4) (omega arith) (omega arith),
                sound.falls k h,
              )
          there (inr o) =
              omega (
                arith,
                ap (version_at c) (goes_other slot k (inr o)),
                versions_is k h (omega arith),
                ap (version_at c) (goes_other slot (k - k % 4) (inr (omega arith))),
                versions_is (k - k % 4) (omega arith) (omega arith),
                sound.falls k h,
              )

  -- what is counted as moved, over the book before
  count_is : (k : ℕ) → k < lines_of n
      → (is_kept d k && not (eqb (place_at e k) (place_at d k))) ≡ (is_staying b slot k && not (eqb (place_at c (goes_of slot k)) (place_at b k)))
  count_is k h = go (ℕ_discrete k (x + 3))
    where
      same_kept : k ≢ x + 3 → is_kept d k ≡ is_kept b k
      same_kept q = by (is_kept b k) (is_kept_lem b k) (is_unkept b k)
        where
          by : (t : Bool) → (t ≡ true → Kept b k) → (t ≡ false → version_at b k ≡ 0) → is_kept d k ≡ t
          by true f g = kept_is d k (kept_d k h q (f refl))
          by false f g = unkept_is d k ((first.lines k h q).2 ∙ g refl)

      go : Dec (k ≡ x + 3)
          → (is_kept d k && not (eqb (place_at e k) (place_at d k))) ≡ (is_staying b slot k && not (eqb (place_at c (goes_of slot k)) (place_at b k)))
      go (yes q) =
          rw (unkept_is d k (ap (version_at d) q ∙ first.gone), eq-eqb k (x + 3) q) (sym (nothing (is_kept b k)))
        where
          nothing : (t : Bool) → ((t && false) && not (eqb (place_at c (goes_of slot k)) (place_at b k))) ≡ false
          nothing true = refl
          nothing false = refl
      go (no q) =
          rw (same_kept q, ne_eqb k (x + 3) q, (stands k h q).0, (first.lines k h q).0) (there (is_kept b k))
        where
          there : (t : Bool) → (t && not (eqb (place_at e k) (place_at b k))) ≡ ((t && true) && not (eqb (place_at e k) (place_at b k)))
          there true = refl
          there false = refl

  wrote : Wrote n b c slot s moved
  wrote =
      record {
        long = final.long ∙ r.long ∙ first.long;
        sound = record { falls = falls_is; fits = final.fits };
        clean = λ g. final.clean (r.clean (first.clean g));
        newest = final.newest;
        written = ap (setting_at c) final.place ∙ final.written;
        versions = versions_is;
        bodies = bodies_is;
        order = λ k l hk hl dk dl u w o.
            omega (
              arith,
              (stands k hk dk).0,
              (stands l hl dl).0,
              r.order k l hk hl (kept_d k hk dk u) (kept_d l hl dl w) (omega (arith, (first.lines k hk dk).0, (first.lines l hl dl).0)),
            );
        behind = λ k h q w. omega (arith, (stands k h q).0, r.last k h (kept_e k h q w), final.place);
        moved_is = r.moved_is ∙ ap (λ (y : ℕ). 5 * y) (count_same (lines_of n) _ _ count_is);
      }

-- ---- the write

pub put_wrote : (n : ℕ) (b : List ℕ) (slot : ℕ) (s : Setpoint) → slot < n → Sound n b → Held s → has_body s ≡ true → is_full n (drop_oldest_of b slot) ≡ false
    → let o = put_of n b slot s (version_at b (4 * slot) + 1) in Wrote n b o.1 slot s o.0
unfolding put_of put_over_of
put_wrote n b slot s i f held whole room = go (is_crowded n (drop_oldest_of b slot)) refl
  where
    v : ℕ
    v = version_at b (4 * slot) + 1

    fits : Fits n (drop_oldest_of b slot)
    fits = (dropped n b slot i f.fits).fits

    go : (t : Bool) → is_crowded n (drop_oldest_of b slot) ≡ t
        → let o : ℕ × List ℕ =
        (if t then (moved_of n (drop_oldest_of b slot), append_of (compact_of n (drop_oldest_of b slot)) slot s v (front_of n + 5 * kept_of n (drop_oldest_of b slot)))
        else (0, append_of (drop_oldest_of b slot) slot s v (end_of n (drop_oldest_of b slot)))) in
        Wrote n b o.1 slot s o.0
    go true e = wrote n b slot s i f held whole _ _ _ (ready_slid n (drop_oldest_of b slot) fits room)
    go false e = wrote n b slot s i f held whole _ _ _ (ready_still n (drop_oldest_of b slot) fits e)

-- nothing slid: nothing moved, and each line that stays has its place
pub still_moved : (n : ℕ) (b : List ℕ) (slot : ℕ) (s : Setpoint) (v : ℕ) → is_crowded n (drop_oldest_of b slot) ≡ false → (put_of n b slot s v).0 ≡ 0
unfolding put_of put_over_of
still_moved n b slot s v e = rw e
