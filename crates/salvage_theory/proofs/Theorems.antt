-- The statements of `Statements`, each proved; what they rest on is in the files behind.
use Rattle.std.specs.Prelude.{ℕ, ◌+◌, ◌*◌, ◌/◌, ◌≤◌, ◌<◌, ◌≡◌, refl, List, [], ◌∷◌, ◌++◌, Bool, true, false, ◌||◌, ◌≢◌, ltb, length, get_or, take, drop, Ok, Err}
use Rattle.std.proofs.Common.{sym, ap, ◌∙◌, subst, inl, inr, arith, length-append, length-drop, take_at, drop_at, get_or-append-add, ltb-true, lt-ltb}
use Rattle.std.proofs.Math.Decide.{dec_lt}
use Rattle.std.proofs.Math.ListN.{get_or-append}
use Rattle.types.specs.Checks.{SalvageAnswer}
use Rattle.types.specs.declared.SalvageRefusal.TheVariants.{BadShape, ReportFull}
use Rattle.choice.specs.Pick.{both}
use Rattle.model.specs.Arena.{cells_of, lease_of, hold_of, bit_at, owner_at, state_at, is_live, shape_fits, health_fits}
use Rattle.model.specs.Log.{Event, by_caller, released, Made}
use Rattle.model.specs.Salvage.{Salvage, mended_table, mended_health, changes_of, entries_of, left_held, over_of, is_report_full, unsalvaged, concluded, mend_of, salvage_of}
use Rattle.types.specs.declared.Head.{Head}
use Rattle.types.specs.declared.Hold.{Hold}
use Rattle.laws.specs.Shape.{Shaped, shaped}
use Rattle.laws.specs.Words.{state_freed}
use Rattle.history.specs.World.{World, world_of, cells, Live, Free, Apart, Sound, after_event, now}
use Rattle.history.specs.Items.{drop_lease, Says, history_of, run}
use Rattle.history.specs.Statements.{leaves, rescued}
use Rattle.history.specs.Tests.{differ, state_held, alive, live}
use Rattle.history.specs.Events.{Fit, fit, keep_after}
use Rattle.history.proofs.Logs.{boot_now}
use Rattle.history.proofs.Others.{released_alone}
use Rattle.history.specs.Salvages.{Came, bad, full, done, came, inside, now_whole, now_owned, now_freed, now_kept}
use Rattle.laws.specs.Salvage.{length_mended, length_mended_health, waiters_mended, byte_kept}
use Rattle.salvage_theory.specs.Statements.{answer_in, table_in, health_in, list_in, fits, NoRoom, BadShapeExactly, ReportFullExactly, place_in, old_in, new_in, Reports, ReportIs, PlacesAre, undone, undone_of, Rebuilds, Lists, HeldIn, UnconfirmedIs, Mends, Mended, Twice, KeepsBoot, OwnersDiffer, ApartExactly, DoubledApart, other, HeldAtStart, GoesOnFrom, BootFromSalvage, CountsFromSalvage, DeadStaysDead, DeadOverSalvages, ApartFromThere, UnconfirmedAlone, LiveOverSalvage}
use Rattle.salvage_theory.specs.Report.{Lines, lines, told, listed, rising, undone_is, changes_none}
use Rattle.salvage_theory.specs.Cells.{table_again, byte_mended, byte_few, health_twice, byte_in, holds_state, holding, state_holds, Picks, picks, pick_held, pick_listed, pick_rising}
use Rattle.salvage_theory.specs.Came.{words_are, was_done, changes_are}
use Rattle.salvage_theory.proofs.Onward as onward

-- ---- refusals

-- what is not done changes nothing
unchanged : (h : Head) (t g report list : List ℕ) (a : SalvageAnswer) → answer_in (salvage_of h t g report list) ≡ a
    → ((e n : ℕ) → a ≡ Ok (e, n) → ⊥) → salvage_of h t g report list ≡ unsalvaged h t g report list a
unchanged h t g report list a d n = go (came h t g report list)
  where
    go : Came h t g report list → salvage_of h t g report list ≡ unsalvaged h t g report list a
    go (bad f p) = p ∙ ap (unsalvaged h t g report list) (sym (ap answer_in p) ∙ d)
    go (full f k p) = p ∙ ap (unsalvaged h t g report list) (sym (ap answer_in p) ∙ d)
    go (done f k p) = absurd (n (entries_of h t g) (length (left_held h.next (cells_of h) t)) (sym d ∙ ap answer_in p))

pub bad_shape_exactly : BadShapeExactly
bad_shape_exactly h t g report list =
    ((there (came h t g report list), back (came h t g report list)), λ a. unchanged h t g report list (Err BadShape) a (λ e n q. differ (let z : (Err BadShape) ≡ Ok (e, n) = q in cc)))
  where
    there : Came h t g report list → answer_in (salvage_of h t g report list) ≡ Err BadShape → fits h t g ≡ false
    there (bad f p) a = f
    there (full f k p) a = let q : (Err ReportFull) ≡ (Err BadShape) = sym (ap answer_in p) ∙ a in cc
    there (done f k p) a =
        let q : Ok ((entries_of h t g), (length (left_held h.next (cells_of h) t))) ≡ (Err BadShape) = sym (ap answer_in p) ∙ a in cc

    back : Came h t g report list → fits h t g ≡ false → answer_in (salvage_of h t g report list) ≡ Err BadShape
    back (bad f p) a = ap answer_in p
    back (full f k p) a = let z : true ≡ false = sym f ∙ a in cc
    back (done f k p) a = let z : true ≡ false = sym f ∙ a in cc

-- the test, as the fact that it is
no_room : (h : Head) (t g report list : List ℕ) → is_report_full h t g report list ≡ true → NoRoom h t g report list
unfolding is_report_full
no_room h t g report list e = go (ltb (length report / 3) (entries_of h t g)) refl e
  where
    go : (b : Bool) → ltb (length report / 3) (entries_of h t g) ≡ b
        → (b || ltb (length list) (length (left_held h.next (cells_of h) t))) ≡ true → NoRoom h t g report list
    go true f e = inl (omega (arith, ltb-true (length report / 3) (entries_of h t g) f, words_are h t g report list))
    go false f e = inr (ltb-true _ _ e)

is_full : (h : Head) (t g report list : List ℕ) → NoRoom h t g report list → is_report_full h t g report list ≡ true
unfolding is_report_full
is_full h t g report list (inl l) =
    rw (lt-ltb (length report / 3) (entries_of h t g) (omega (arith, words_are h t g report list)))
is_full h t g report list (inr l) = go (ltb (length report / 3) (entries_of h t g))
  where
    go : (b : Bool) → (b || ltb (length list) (length (left_held h.next (cells_of h) t))) ≡ true
    go true = refl
    go false = lt-ltb _ _ l

pub report_full_exactly : ReportFullExactly
report_full_exactly h t g report list =
    ((there (came h t g report list), back (came h t g report list)), λ a. unchanged h t g report list (Err ReportFull) a (λ e n q. differ (let z : (Err ReportFull) ≡ Ok (e, n) = q in cc)))
  where
    there : Came h t g report list → answer_in (salvage_of h t g report list) ≡ Err ReportFull → (fits h t g ≡ true) × NoRoom h t g report list
    there (bad f p) a = let q : (Err BadShape) ≡ (Err ReportFull) = sym (ap answer_in p) ∙ a in let z : ◌≡◌ {A = ℕ} 0 1 = cc in absurd (omega arith)
    there (full f k p) a = (f, no_room h t g report list k)
    there (done f k p) a =
        let q : Ok ((entries_of h t g), (length (left_held h.next (cells_of h) t))) ≡ (Err ReportFull) = sym (ap answer_in p) ∙ a in
        let z : ◌≡◌ {A = ℕ} 0 1 = cc in
        absurd (omega arith)

    back : Came h t g report list → (fits h t g ≡ true) × NoRoom h t g report list → answer_in (salvage_of h t g report list) ≡ Err ReportFull
    back (bad f p) a = let z : false ≡ true = sym f ∙ a.0 in cc
    back (full f k p) a = ap answer_in p
    back (done f k p) a = let z : false ≡ true = sym k ∙ is_full h t g report list a.1 in cc

-- ---- the report

-- words over the front of a run: those in front, and those behind
over_front : (words run : List ℕ) (i : ℕ) → i < length words → get_or (over_of words run) i 0 ≡ get_or words i 0
unfolding over_of
over_front words run i h = get_or-append words (drop (length words) run) 0 i h

over_long : (words run : List ℕ) → length words ≤ length run → length (over_of words run) ≡ length run
unfolding over_of
over_long words run h = omega (arith, length-append words (drop (length words) run), length-drop (length words) run)

over_behind : (words run : List ℕ) (n : ℕ) → n ≡ length words → drop n (over_of words run) ≡ drop n run
unfolding over_of
over_behind words run n e = drop_at words (drop (length words) run) n (sym e) ∙ ap (λ (i : ℕ). drop i run) (sym e)

over_words : (words run : List ℕ) (n : ℕ) → n ≡ length words → take n (over_of words run) ≡ words
unfolding over_of
over_words words run n e = take_at words (drop (length words) run) n (sym e)

reports : (old new words before : List ℕ) (e : ℕ) → Lines 0 old new words → 3 * e ≡ length words → length words ≤ length before
    → Reports old new before (over_of words before) e
reports old new words before e l q r =
    record {
      room = omega arith;
      long = over_long words before r;
      rising = λ j k m n. rw (over_front words before (3 * j) (omega arith), over_front words before (3 * k) (omega arith)) (rising l j k m (omega arith));
      told = says;
      listed = λ p m d.
          let x = listed l p m d in
          (x.0, omega (arith, x.1), over_front words before (3 * x.0) (omega (arith, x.1)) ∙ x.2 ∙ (let z : 0 + p ≡ p = omega arith in z));
      behind = over_behind words before (3 * e) q;
    }
  where
    after : List ℕ
    after = over_of words before

    says : (k : ℕ) → k < e
        → (place_in after k < length old) × (old_in after k ≡ get_or old (place_in after k) 0)
        × (new_in after k ≡ get_or new (place_in after k) 0) × (old_in after k ≢ new_in after k)
    says k n =
        let x = told l k (omega arith) in
        let p : place_in after k ≡ x.index = over_front words before (3 * k) (omega arith) ∙ x.place_is ∙ (let z : 0 + x.index ≡ x.index = omega arith in z) in
        let a : old_in after k ≡ get_or old x.index 0 = over_front words before (3 * k + 1) (omega arith) ∙ x.old_is in
        let b : new_in after k ≡ get_or new x.index 0 = over_front words before (3 * k + 2) (omega arith) ∙ x.new_is in
        (omega (arith, x.inside), a ∙ ap (λ (i : ℕ). get_or old i 0) (sym p), b ∙ ap (λ (i : ℕ). get_or new i 0) (sym p), λ q. x.differ (sym a ∙ q ∙ b))

arena_lines : (h : Head) (t g report list : List ℕ) → length t ≡ 3 * cells_of h
    → Lines 0 (t ++ g) (mended_table h.next t ++ mended_health g) (changes_of h t g)
arena_lines h t g report list l =
    let u = mended_table h.next t in
    let v = mended_health g in
    let e : length (t ++ g) ≡ length (u ++ v) =
    omega (arith, length-append t g, length-append u v, length_mended h.next t, length_mended_health g) in
    subst (Lines 0 (t ++ g) (u ++ v)) (sym (changes_are h t g report list l)) (lines 0 (t ++ g) (u ++ v) e)

pub report_is : ReportIs
report_is h t g report list e n d =
    let w = was_done h t g report list e n d in
    let s = w.shape.words_are in
    let r = reports (t ++ g) (mended_table h.next t ++ mended_health g) (changes_of h t g) report e (arena_lines h t g report list s) w.entries (omega (arith, w.entries, w.report_room)) in
    (rw (w.table_is, w.health_is, w.report_is) r, s, rw w.table_is (length_mended h.next t ∙ s))

-- the words of two runs, one behind the other
join_front : (a b : List ℕ) (n p : ℕ) → length a ≡ n → p < n → get_or (a ++ b) p 0 ≡ get_or a p 0
join_front a b n p e h = get_or-append a b 0 p (omega arith)

join_behind : (a b : List ℕ) (n i : ℕ) → length a ≡ n → get_or (a ++ b) (n + i) 0 ≡ get_or b i 0
join_behind a b n i e = rw (← e) (get_or-append-add a b i 0)

pub places_are : PlacesAre
places_are h t g report list e n d =
    let m = salvage_of h t g report list in
    let l = report_is h t g report list e n d in
    (λ p k. (join_front t g (3 * cells_of h) p l.1 k, join_front (table_in m) (health_in m) (3 * cells_of h) p l.2 k), λ i. (join_behind t g (3 * cells_of h) i l.1, join_behind (table_in m) (health_in m) (3 * cells_of h) i l.2))

pub rebuilds : Rebuilds
unfolding undone_of
rebuilds h t g report list e n d =
    let w = was_done h t g report list e n d in
    let u = mended_table h.next t in
    let x : undone (changes_of h t g) (u ++ mended_health g) ≡ t ++ g = undone_is [] (arena_lines h t g report list w.shape.words_are) refl in
    let l = length_mended h.next t in
    rw (w.table_is, w.health_is, w.report_is, over_words (changes_of h t g) report (3 * e) w.entries, x, take_at t g (length u) (sym l), drop_at t g (length u) (sym l))

-- ---- the list

lists : (h : Head) (u words before : List ℕ) (n : ℕ) → Picks h.next u (cells_of h) 0 words → n ≡ length words → length words ≤ length before
    → Lists h u before (over_of words before) n
lists h u words before n l q r =
    record {
      room = omega arith;
      long = over_long words before r;
      rising = λ j k m o. rw (over_front words before j (omega arith), over_front words before k (omega arith)) (pick_rising l j k m (omega arith));
      held = λ k m.
          let x = pick_held l k (omega arith) in
          let f = over_front words before k (omega arith) in
          (omega (arith, x.high), rw f (holds_state h.next u (get_or words k 0) x.held));
      listed = λ c m s.
          let x = pick_listed l c (record { low = omega arith; high = omega arith; held = state_holds h.next u c (holding h.next u c s) }) in
          (x.0, omega (arith, x.1), over_front words before x.0 x.1 ∙ x.2);
      behind = over_behind words before n q;
    }

left_picks : (h : Head) (t : List ℕ) → Picks h.next (mended_table h.next t) (cells_of h) 0 (left_held h.next (cells_of h) t)
unfolding left_held
left_picks h t = picks h.next (mended_table h.next t) (cells_of h) 0

pub unconfirmed_is : UnconfirmedIs
unconfirmed_is h t g report list e n d =
    let w = was_done h t g report list e n d in
    let words = left_held h.next (cells_of h) t in
    rw (w.table_is, w.list_is) (lists h (mended_table h.next t) words list n (left_picks h t) w.cells (omega (arith, w.cells, w.list_room)))

-- ---- what is left

mends : (h : Head) (t g : List ℕ) → Shaped h (length t) → Mends h t g (mended_table h.next t) (mended_health g)
mends h t g s =
    record {
      same_words = length_mended h.next t;
      same_bytes = length_mended_health g;
      whole = now_whole h t s;
      owners = now_owned h t s;
      freed = now_freed h t s;
      unwaited = λ c l. waiters_mended h.next t c (inside h t s c l);
      sound_kept = now_kept h t s;
      bytes_kept = λ i l b. byte_in g i l ∙ byte_kept (get_or g i 0) b;
      bytes_mended = λ i l b. byte_in g i l ∙ byte_mended (get_or g i 0) b;
      bytes_few = λ i l. omega (arith, byte_in g i (omega (arith, length_mended_health g)), byte_few (get_or g i 0));
    }

pub mended : Mended
mended h t g report list e n d =
    let w = was_done h t g report list e n d in
    rw (w.table_is, w.health_is) (mends h t g w.shape)

-- ---- the second time

left_again : (next cells : ℕ) (t : List ℕ) → left_held next cells (mended_table next t) ≡ left_held next cells t
unfolding left_held
left_again next cells t = rw (table_again next t)

changes_again : (h : Head) (t g : List ℕ) → changes_of h (mended_table h.next t) (mended_health g) ≡ []
unfolding changes_of
changes_again h t g =
    rw (table_again h.next t, health_twice g, changes_none 0 (mended_table h.next t), changes_none (3 * cells_of h) (mended_health g))

-- nothing to report, and room for the cells
second : (h : Head) (u v report list : List ℕ) (n : ℕ) → fits h u v ≡ true → mended_table h.next u ≡ u → mended_health v ≡ v
    → changes_of h u v ≡ [] → n ≡ length (left_held h.next (cells_of h) u) → n ≤ length list
    → salvage_of h u v report list ≡ (concluded h (Ok (0, n)), (u, (v, (report, over_of (left_held h.next (cells_of h) u) list))))
unfolding mend_of over_of
second h u v report list n f p q r k l = go (came h u v report list)
  where
    roomy : NoRoom h u v report list → ⊥
    roomy (inl m) = omega (arith, words_are h u v report list, ap (λ (y : List ℕ). length y) r)
    roomy (inr m) = omega arith

    go : Came h u v report list → salvage_of h u v report list ≡ (concluded h (Ok (0, n)), (u, (v, (report, over_of (left_held h.next (cells_of h) u) list))))
    go (bad e x) = let z : false ≡ true = sym e ∙ f in cc
    go (full e i x) = absurd (roomy (no_room h u v report list i))
    go (done e i x) = x ∙ rw (p, q, r, k)

pub twice : Twice
twice h t g report list e n d report' list' l =
    let w = was_done h t g report list e n d in
    let u = mended_table h.next t in
    let v = mended_health g in
    let f : fits h u v ≡ true = rw (length_mended h.next t, length_mended_health g) w.good in
    let m : n ≡ length (left_held h.next (cells_of h) u) = rw (left_again h.next (cells_of h) t) w.cells in
    let x = second h u v report' list' n f (table_again h.next t) (health_twice g) (changes_again h t g) m l in
    rw (w.table_is, w.health_is, w.list_is, over_words (left_held h.next (cells_of h) t) list n w.cells, ← left_again h.next (cells_of h) t) x

-- ---- no serial owns two cells

-- the lease of a held cell is live
live_held : (h : Head) (u v : List ℕ) (c : ℕ) → c < cells_of h → HeldIn h u c → Live (world_of h u v) (hold_of c (owner_at u c))
live_held h u v c l s =
    let k = holding h.next u c s in
    live h.next (cells_of h) u (hold_of c (owner_at u c)) (record { in_range = l; bit_is = k.bit_is; owner_is = refl; low = k.low; high = k.high })

-- and a live lease is of a held cell
held_live : (h : Head) (u : List ℕ) (c s : ℕ) → is_live h.next (cells_of h) u (hold_of c s) ≡ true → (c < cells_of h) × HeldIn h u c × (owner_at u c ≡ s)
unfolding state_at
held_live h u c s e =
    let a = alive h.next (cells_of h) u (hold_of c s) e in
    let o = a.owner_is in
    (a.in_range, state_held h.next (bit_at u c) (owner_at u c) a.bit_is (omega (arith, a.low)) (omega (arith, a.high)), o)

-- a place in a rising list from its cell
one_place : (list : List ℕ) (n : ℕ) → ((j k : ℕ) → j < k → k < n → get_or list j 0 < get_or list k 0) → (j k : ℕ) → j < n → k < n
    → get_or list j 0 ≡ get_or list k 0 → j ≡ k
one_place list n r j k a b e = go (dec_lt j k) (dec_lt k j)
  where
    go : Dec (j < k) → Dec (k < j) → j ≡ k
    go (yes x) y = absurd (omega (arith, r j k x b))
    go (no x) (yes y) = absurd (omega (arith, r k j y a))
    go (no x) (no y) = omega arith

module _ (h : Head) (u v list before : List ℕ) (n : ℕ) (l : Lists h u before list n) where
  differ_of : Apart (world_of h u v) → OwnersDiffer u list n
  differ_of s j k a b e =
      let x = l.held j a in
      let y = l.held k b in
      one_place list n l.rising j k a b
      (s (get_or list j 0) (get_or list k 0) (owner_at u (get_or list j 0)) (live_held h u v (get_or list j 0) x.0 x.1) (rw e (live_held h u v (get_or list k 0) y.0 y.1)))

  apart_of : OwnersDiffer u list n → Apart (world_of h u v)
  apart_of o c d s p q =
      let x = held_live h u c s p in
      let y = held_live h u d s q in
      let i = l.listed c x.0 x.1 in
      let j = l.listed d y.0 y.1 in
      let e : owner_at u (get_or list i.0 0) ≡ owner_at u (get_or list j.0 0) = rw (i.2, j.2) (x.2 ∙ sym y.2) in
      sym i.2 ∙ ap (λ (k : ℕ). get_or list k 0) (o i.0 j.0 i.1 j.1 e) ∙ j.2

pub apart_exactly : ApartExactly
apart_exactly h t g report list e n d = (there, back)
  where
    m : Salvage
    m = salvage_of h t g report list

    l : Lists h (table_in m) list (list_in m) n
    l = unconfirmed_is h t g report list e n d

    there : Sound (world_of h (table_in m) (health_in m)) → OwnersDiffer (table_in m) (list_in m) n
    there s = differ_of h (table_in m) (health_in m) (list_in m) list n l s.apart

    back : OwnersDiffer (table_in m) (list_in m) n → Sound (world_of h (table_in m) (health_in m))
    back o =
        let w = was_done h t g report list e n d in
        let k = mended h t g report list e n d in
        let f = both (shape_fits h (length t)) (health_fits h (length g)) w.good in
        record {
          whole = record { fits = rw k.same_words f.0; healthy = rw k.same_bytes f.1; undamaged = k.whole };
          apart = apart_of h (table_in m) (health_in m) (list_in m) list n l o;
        }

pub keeps_boot : KeepsBoot
keeps_boot h t g report list = go (came h t g report list)
  where
    go : Came h t g report list → (salvage_of h t g report list).0.head.boot ≡ h.boot
    go (bad f p) = ap (λ (m : Salvage). m.0.head.boot) p
    go (full f i p) = ap (λ (m : Salvage). m.0.head.boot) p
    go (done f i p) = ap (λ (m : Salvage). m.0.head.boot) p

-- a release of one of two cells with one owner: the call is done, and is the release
pub doubled_apart : DoubledApart
doubled_apart w c d s f n p q =
    let x = ap (λ (m : Made (World × Says)). m.seen) (released_alone w c s f p) in
    let v : leaves w (drop_lease (lease_of c s w.head.boot)) ≡ after_event w (released by_caller c s) = ap (λ (a : World × Says). a.0) x in
    let fit : Fit w = record { shape = shaped w.head (length w.table) f } in
    let a = alive w.head.next (cells_of w.head) w.table (hold_of c s) p in
    let free : Free (after_event w (released by_caller c s)) c =
    (a.in_range, state_freed w.head.next w.table c (omega (arith, fit.shape.words_are, a.in_range))) in
    let other = keep_after w (released by_caller c s) (hold_of d s) fit p q (λ e. n (sym (ap (λ (k : Hold). k.cell) e))) in
    (ap (λ (z : World × Says). z.1.answer) x, rw v free, rw v other)

-- ---- histories that go on from a salvage

pub held_at_start : HeldAtStart
held_at_start = onward.held_at_start

pub goes_on_from : GoesOnFrom
goes_on_from = onward.goes_on_from

pub boot_from_salvage : BootFromSalvage
boot_from_salvage k i h t g report list e n items x d on =
    let o = onward.goes_on_from k i h t g report list e n items x d on in
    ap (λ (w : World). w.head.boot) o.2
    ∙ boot_now (rescued h t g report list) (history_of (run k (i ∷ items)))

pub counts_from_salvage : CountsFromSalvage
counts_from_salvage = onward.counts_from_salvage

pub dead_stays_dead : DeadStaysDead
dead_stays_dead = onward.dead_stays_dead

pub dead_over_salvages : DeadOverSalvages
dead_over_salvages = onward.dead_over_salvages

pub unconfirmed_alone : UnconfirmedAlone
unconfirmed_alone = onward.unconfirmed_alone

pub live_over_salvage : LiveOverSalvage
live_over_salvage = onward.live_over_salvage

pub apart_from_there : ApartFromThere
apart_from_there k i h t g report list e n items x d on = (there, back)
  where
    m : Salvage
    m = salvage_of h t g report list

    l : Lists h (table_in m) list (list_in m) n
    l = unconfirmed_is h t g report list e n d

    AlwaysApart : Type 0
    AlwaysApart = (before after : List Event) → history_of (run k (i ∷ items)) ≡ before ++ after → Apart (now (rescued h t g report list) before)

    there : AlwaysApart → OwnersDiffer (table_in m) (list_in m) n
    there f = differ_of h (table_in m) (health_in m) (list_in m) list n l (f [] (history_of (run k (i ∷ items))) refl)

    back : OwnersDiffer (table_in m) (list_in m) n → AlwaysApart
    back q before after p =
        let o = onward.begins_there k i h t g report list e n items x d on in
        let a : Apart (rescued h t g report list) = apart_of h (table_in m) (health_in m) (list_in m) list n l q in
        subst (λ (w : World). Apart (now w before)) o ((onward.kept k i h t g report list e n items x d on).apart (subst Apart (sym o) a) before after p)
