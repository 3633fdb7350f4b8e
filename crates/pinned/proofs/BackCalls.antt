-- Ours meets what is said of `release_all`: it is its own `drop_lease` and `environment` for each lease, the last first, the boundary holding those still to
-- come. Each such call passes its checks: the leases given are live and different.
use Prim.Native.Nat.{ℕ, zero, suc, ◌+◌, ◌-◌, ◌/◌, ◌≤◌}
use Rattle.std.specs.Prelude.{◌≡◌, true, length, get_or, take}
use Rattle.std.proofs.Math.Path.{refl, ap, subst}
use Rattle.std.proofs.Common.{sym, ◌∙◌, zero-add, take-suc, take_all, length-take-le}
use mathlib.Core.List.{List, [], ◌∷◌, ◌++◌}
use Rattle.std.proofs.Math.Bool.{not}
use native.Mathlib.Omega.{arith}
use borrow.Author.Tests.{ltb-false, not-false}
use Rattle.choice.specs.Pick.{neither}
use Rattle.model.specs.Log.{Made, by_caller, released}
use Rattle.model.specs.Arena.{registry_fits, cells_of, set_cell, is_live, is_in, leases_of, holds_of, words_of, lease_under}
use Rattle.model.specs.Lock.{hold_at, no_hold}
use Rattle.model.specs.Checks.{lease_count, is_uneven, not_live, lease_rules, bucket_rules, release_rules}
use Rattle.types.specs.declared.Answer.TheVariants.{Done}
use Rattle.types.specs.declared.Hold.{Hold}
use Rattle.laws.specs.Shape.{shaped}
use Rattle.laws.specs.Checks.{not_stale}
use Rattle.laws.specs.Lists.{holds_few}
use Rattle.history.specs.World.{World}
use Rattle.history.specs.Items.{Says, says, Clear, rules, perform, drop_lease, environment, release_all}
use Rattle.history.specs.Tests.{In, in_take, differ}
use Rattle.history.specs.Events.{Fit}
use Rattle.history.specs.Logs.{Kept}
use Rattle.history.proofs.Logs.{event, weaken, kept_live}
use Rattle.history.proofs.Calls.{call_kept, words_leases, releasable}
use Rattle.history.specs.Many.{Held}
use Rattle.history_exact.specs.Script.{environment_has}
use Rattle.history_exact.specs.Theorems.{place_goes}
use Rattle.history_exact.specs.KeyByKey.{in_first_of}
use Rattle.history_exact.specs.Passing.{bucket_on, same_boot, holding_more, leases_append}
use Rattle.pinned.specs.Words.{logged, counted, freed, holds, words}
use Rattle.pinned.specs.Steps.{At, at, Boundary}
use Rattle.pinned.specs.Stepping.{ReleasesEach}
use Rattle.pinned.specs.Statements.{plainly, left_by, place_by, joined, dropping, GivesBack, all_back, one_back}
use Rattle.pinned.proofs.Decided.{holds_same}
use Rattle.pinned.specs.Same.{Same, is_same, follow_same, noting_same, runs_same}
use Rattle.pinned.proofs.Ours.{B, drop_is, environment_is, release_all_steps, words_same}
use Rattle.pinned.proofs.AsCalls.{Fine, env_fine, fine_shape, fine_place, later, shift}

-- ---- in steps one answer comes of it

releases_same : (left : ℕ) (script : List ℕ) (ls : List Hold) (n : ℕ) (a : At) → Same (ReleasesEach left script ls n a) (ReleasesEach left script ls n a)
unfolding ReleasesEach
releases_same zero script ls n a = is_same
releases_same (suc left) script ls n a = noting_same (follow_same (noting_same (runs_same _ script (take left ls) _)) (λ b. releases_same left script ls (n + 1) b))

-- ---- releases that begin with so many boundaries run and so many steps dropped

abbrev more : ℕ → ℕ → Made (ℕ × At) → Made (ℕ × At)
more j d m = logged (j + m.seen.0, at m.seen.1.world m.seen.1.place (d + m.seen.1.dropped)) m.log

shift_back : (n : ℕ) (script : List ℕ) (ls : List Hold) (k : ℕ) (w : World) (p e j d : ℕ) (m : Made (ℕ × At)) → ReleasesEach n script ls k (at w p e) m
    → ReleasesEach n script ls (j + k) (at w p (d + e)) (more j d m)
unfolding ReleasesEach
shift_back zero script ls k w p e j d m r = ap (more j d) r
shift_back (suc n) script ls k w p e j d m (inner, (b, (run, steps, f), (rest, r, g)), h) =
    let l = get_or ls n (record { cell = 0; serial = 0 }) in
    let on = shift_back n script ls (k + 1) b.seen.world b.seen.place b.seen.dropped j d rest r in (
      more j d inner,
      (
        later d b,
        (later d run, shift (length script / 3 - p) script (take n ls) (freed w l.cell) p e d run steps, ap (later d) f),
        (more j d rest, subst (λ (x : ℕ). ReleasesEach n script ls x (at b.seen.world b.seen.place (d + b.seen.dropped)) (more j d rest)) (add_assoc j k 1) on, ap (more j d) g),
      ),
      ap (more j d) h,
    )
  where
    add_assoc : (a b c : ℕ) → a + (b + c) ≡ a + b + c
    add_assoc a b c = omega arith

-- ---- the calls

module _ (boot : ℕ) (script : List ℕ) (ls : List Hold) where
  -- where it stands: the first n are still to be released
  record Standing (v : World) (p n : ℕ) : Type 0 where
    fine : Fine v script p []
    own : v.head.boot ≡ boot
    mine : Held v n ls
    few : n ≤ 64

  abbrev Backs : List Hold → World → ℕ → Made (World × Says) → Type 0
  Backs = GivesBack perform boot script []

  abbrev told : Made (ℕ × At) → Made (World × Says)
  told m = logged (m.seen.1.world, says Done (counted 0 m.seen.0 0 m.seen.1.dropped) m.seen.1.place []) m.log

  nobody : (k : Hold) → In (holds_of []) k → ⊥
  unfolding holds_of is_in
  nobody k j = differ j

  holds_take : (n : ℕ) → holds (words boot (take n ls)) ≡ take n ls
  unfolding holds_of
  holds_take n = ap holds (words_same boot (take n ls)) ∙ (holds_same (words_of boot (take n ls)) ∙ leases_append boot [] (take n ls) refl)

  -- a boundary holding the first n
  bound_fine : {v : World} {p n : ℕ} → Standing v p n → Fine v script p (words boot (take n ls))
  bound_fine {v} {p} {n} s =
      subst (λ (ws : List ℕ). Fine v script p ws) (sym (words_same boot (take n ls)))
      (subst (λ (x : ℕ). Fine v script p (words_of x (take n ls))) s.own
      (holding_more v (0 ∷ []) script p [] 0 (take n ls) (omega (arith, s.few, length-take-le n ls s.mine.enough))
      (in_first_of (λ l. is_live v.head.next (cells_of v.head) v.table l ≡ true) n ls s.mine.enough s.mine.all_live) s.fine))

  fit : {v : World} {p n : ℕ} → Standing v p n → Fit v
  fit {v} {p} s = record { shape = shaped v.head (length v.table) (not-false _ (fine_shape v script p [] s.fine)) }

  drop_clear : {v : World} {p n : ℕ} → Standing v p (suc n) → Clear (rules v (drop_lease (lease_under boot (hold_at ls n))))
  unfolding lease_rules
  drop_clear {v} {p} {n} s = (fine_shape v script p [] s.fine, (not_stale v.head (lease_under boot (hold_at ls n)) (sym s.own), (ap not (s.mine.all_live n (omega arith)), tt)))

  -- behind a release of the last
  dropped : {v : World} {p n : ℕ} → Standing v p (suc n) → Standing (freed v (hold_at ls n).cell) p n
  unfolding set_cell
  dropped {v} {p} {n} s =
      let l = hold_at ls n in
      let gone : Kept v (λ k. k ≡ l → ⊥) (freed v l.cell) (released by_caller l.cell l.serial ∷ []) =
      event (released by_caller l.cell l.serial) (s.mine.all_live n (omega arith)) (λ k f _ x. f x) in
      let none : Kept v (In (holds_of [])) (freed v l.cell) (released by_caller l.cell l.serial ∷ []) = weaken (λ k i _. absurd (nobody k i)) gone in
      record {
        fine = bucket_on [] none (0 ∷ []) script p p 0 (fine_place v script p [] s.fine) s.fine;
        own = same_boot [] none ∙ s.own;
        mine = record {
          enough = omega (arith, s.mine.enough);
          all_live = λ i x. kept_live (fit s) gone (hold_at ls i) (λ y. omega (arith, s.mine.distinct i n (omega arith) (omega arith) y)) (s.mine.all_live i (omega arith));
          distinct = λ i j x y. s.mine.distinct i j (omega arith) (omega arith);
        };
        few = omega (arith, s.few);
      }

  -- behind a boundary
  abbrev bounds : World → ℕ → ℕ → Made (World × Says)
  bounds v p n = perform v (environment script p (words boot (take n ls)))

  bounded : {v : World} {p n : ℕ} → Standing v p n → Standing (left_by (bounds v p n)) (place_by (bounds v p n)) n
  bounded {v} {p} {n} s =
      let hs = words boot (take n ls) in
      let k = (call_kept v (environment script p hs)).kept in
      let none = weaken (λ k i _. absurd (nobody k i)) k in
      let inside = (place_goes v (environment script p hs) (environment_has script p hs) (env_fine v script p hs (bound_fine s))).1 in
      let all : holds_of hs ≡ take n ls = sym (holds_same hs) ∙ holds_take n in
      record {
        fine = bucket_on [] none (0 ∷ []) script p (place_by (bounds v p n)) 0 inside s.fine;
        own = same_boot [] none ∙ s.own;
        mine = record {
          enough = s.mine.enough;
          all_live = λ i x. kept_live (fit s) k (hold_at ls i) (subst (λ (ks : List Hold). In ks (hold_at ls i)) (sym all) (in_take ls n i no_hold x (omega (arith, s.mine.enough)))) (s.mine.all_live i x);
          distinct = s.mine.distinct;
        };
        few = s.few;
      }

  back_as : {ks : List Hold} {v : World} {p : ℕ} {n : Made (World × Says)} (l : Hold) (x : Made (World × Says)) → dropping perform boot script [] l v ≡ x
      → (y : Made (World × Says)) → perform (left_by x) (environment script p (words boot ks)) ≡ y
      → Backs ks (left_by y) (place_by y) n → Backs (ks ++ (l ∷ [])) v p (joined x (joined y n))
  back_as {ks} {v} {p} {n} l x e =
      subst (λ (x : Made (World × Says)). (y : Made (World × Says)) → perform (left_by x) (environment script p (words boot ks)) ≡ y
      → Backs ks (left_by y) (place_by y) n → Backs (ks ++ (l ∷ [])) v p (joined x (joined y n))) e
      (λ y f. subst (λ (y : Made (World × Says)). Backs ks (left_by y) (place_by y) n → Backs (ks ++ (l ∷ [])) v p (joined (dropping perform boot script [] l v) (joined y n))) f (one_back l))

  back : (n : ℕ) (v : World) (p : ℕ) → Standing v p n → (m : Made (ℕ × At)) × ReleasesEach n script ls 0 (at v p 0) m × Backs (take n ls) v p (told m)
  unfolding ReleasesEach
  back zero v p s = (logged (0, at v p 0) [], refl, all_back)
  back (suc n) v p s =
      let l = hold_at ls n in
      let u = freed v l.cell in
      let hs = words boot (take n ls) in
      let y = bounds u p n in
      let dy = y.seen.1.counts.dropped in
      let e = environment_is u script p hs (env_fine u script p hs (bound_fine (dropped s))) in
      let X : Made At = logged (at (left_by y) (place_by y) dy) y.log in
      let x_is : e.0 ≡ X = ap (λ (m : Made (World × Says)). logged (at (left_by m) (place_by m) m.seen.1.counts.dropped) m.log) (sym e.2) in
      let Y : Made (World × Says) = logged (left_by y, says Done (counted 0 1 0 dy) (place_by y) []) y.log in
      let y_is : y ≡ Y = e.2 ∙ ap (λ (a : Made At). logged (a.seen.world, says Done (counted 0 1 0 a.seen.dropped) a.seen.place []) a.log) x_is in
      let b : Boundary script (take n ls) (at u p 0) X =
      subst (λ (ps : List Hold). Boundary script ps (at u p 0) X) (holds_take n) (subst (λ (a : Made At). Boundary script (holds hs) (at u p 0) a) x_is e.1) in
      let r = back n (left_by y) (place_by y) (bounded (dropped s)) in
      let m = r.0 in
      let on : ReleasesEach n script ls 1 (at (left_by y) (place_by y) dy) (more 1 dy m) =
      subst (λ (d : ℕ). ReleasesEach n script ls 1 (at (left_by y) (place_by y) d) (more 1 dy m)) (let z : dy + 0 ≡ dy = omega arith in z) (shift_back n script ls 0 (left_by y) (place_by y) 0 1 dy m r.1) in
      let D : Made (World × Says) = logged (plainly u Done) (released by_caller l.cell l.serial ∷ []) in
      let whole : joined D (joined Y (told m)) ≡ told (logged (more 1 dy m).seen (released by_caller l.cell l.serial ∷ (y.log ++ m.log))) =
      ap (λ (k : ℕ). logged (m.seen.1.world, says Done (counted 0 k 0 (0 + (dy + m.seen.1.dropped))) m.seen.1.place []) (released by_caller l.cell l.serial ∷ (y.log ++ m.log))) (zero-add (1 + m.seen.0))
      ∙ ap (λ (k : ℕ). logged (m.seen.1.world, says Done (counted 0 (1 + m.seen.0) 0 k) m.seen.1.place []) (released by_caller l.cell l.serial ∷ (y.log ++ m.log))) (zero-add (dy + m.seen.1.dropped)) in (
        logged (more 1 dy m).seen (released by_caller l.cell l.serial ∷ (y.log ++ m.log)),
        (logged (more 1 dy m).seen (y.log ++ m.log), (X, b, (more 1 dy m, on, refl)), refl),
        subst (λ (ks : List Hold). Backs ks v p (told (logged (more 1 dy m).seen (released by_caller l.cell l.serial ∷ (y.log ++ m.log))))) (sym (take-suc ls n no_hold (omega (arith, s.mine.enough))))
            (subst (Backs (take n ls ++ (l ∷ [])) v p) whole (back_as l D (drop_is v (lease_under boot l) (drop_clear s)) Y y_is r.2)),
      )

-- what the checks of the call say
module _ (w : World) (script : List ℕ) (place : ℕ) (leases : List ℕ) (k : Clear (rules w (release_all script place leases))) where
  begins : Fine w script place []
  unfolding release_rules bucket_rules registry_fits not_live leases_of
  begins = (k.0, (k.1.0, (refl, (k.1.1.0, (refl, (refl, tt))))))

  are_held : length leases / 3 ≤ length (holds_of leases) → Held w (length leases / 3) (holds_of leases)
  unfolding release_rules
  are_held many = releasable w.head w.table w.health (length leases / 3) leases many k.1.1.1.1

  room : length leases / 3 ≤ 64
  unfolding release_rules
  room = ltb-false 64 (lease_count leases) (neither (is_uneven leases) _ k.1.1.1.0).1

pub release_all_is : (w : World) (script : List ℕ) (place : ℕ) (leases : List ℕ) → Clear (rules w (release_all script place leases)) → B w (release_all script place leases)
release_all_is w script place leases k =
    let n = length leases / 3 in
    let ls = holds leases in
    let many : n ≤ length (holds_of leases) = omega (arith, words_leases leases) in
    let s : Standing w.head.boot script ls w place n =
    record { fine = begins w script place leases k; own = refl; mine = subst (λ (x : List Hold). Held w n x) (sym (holds_same leases)) (are_held w script place leases k many); few = room w script place leases k } in
    let r = back w.head.boot script ls n w place s in
    let o = release_all_steps w script place leases k in
    let same = releases_same n script ls 0 (at w place 0) r.0 o.0 r.1 o.1 in
    let all : take n ls ≡ ls = take_all n ls (omega (arith, holds_few leases, ap length (holds_same leases))) in
    subst (λ (m : Made (World × Says)). GivesBack perform w.head.boot script [] ls w place m) (ap (told w.head.boot script ls) same ∙ sym o.2)
    (subst (λ (ks : List Hold). GivesBack perform w.head.boot script [] ks w place (told w.head.boot script ls r.0)) all r.2)
