-- Every item of a history keeps the ledger: calls, lone foreign steps, further preparations and salvages.
use Rattle.std.specs.Prelude.{ℕ, zero, suc, ◌*◌, ◌≡◌, refl, eqb, length, replicate, Ok, Err}
use Rattle.std.proofs.Common.{sym, ap, ◌∙◌, subst, arith}
use mathlib.Core.List.{List, [], ◌∷◌, ◌++◌, append-nil, append_assoc}
use Rattle.std.proofs.lemmas.List.{length-replicate}
use Rattle.types.specs.Checks.{SalvageAnswer}
use Rattle.types.specs.declared.SalvageRefusal.TheVariants as salvaged
use Rattle.model.specs.Log.{Actor, Event, took}
use Rattle.model.specs.Arena.{cells_of, head_of, hold_of, bit_at, shape_fits, health_fits}
use Rattle.model.specs.Calls.{prepare_of}
use Rattle.model.specs.Salvage.{Salvage, entries_of, left_held, mend_of, salvage_of}
use Rattle.types.specs.declared.Answer.{Answer}
use Rattle.types.specs.declared.Answer.TheVariants.{Done, Cell, Granted, AllGranted, Busy, Refused, RefusedAt}
use Rattle.types.specs.declared.Head.{Head}
use Rattle.types.specs.declared.Hold.{Hold}
use Rattle.choice.specs.Pick.{both}
use Rattle.laws.specs.Shape.{Shaped, shaped, healthy}
use Rattle.laws.specs.Lists.{zero_bit, zero_owner}
use Rattle.laws.specs.Prepared.{Outcome, Came, was_done, was_refused, came, prepare_done}
use Rattle.history.specs.World.{World, world_of, cells, Apart, now, Lawful, one, bits, takes, number_of_lem}
use Rattle.history.specs.Items.{Says, saying, foreign, Item, call, foreign_step, preparation, preparation_over, salvage, salvage_over, Entry, entry_of, Course, course_of, noted, events_of, history_of, prepared_by, preparing, salvaged_by, salvaging, next_item, run, cold}
use Rattle.history.specs.Statements.{Begins, Fresh, Begun, by_preparation, by_salvage, NoStart, Ledger, Demand2, SoundIfApart, PreparedFresh, PreparedSound, PreparedCounted, Prepares, own_runs, other_runs, PreparedBegins, Forgets, RefusedStays, SalvageRefusedStays}
use Rattle.history.specs.Tests.{free, In}
use Rattle.history.specs.Events.{Good, fit, lives, whole, counts}
use Rattle.history.specs.Logs.{Kept}
use Rattle.history.proofs.Logs.{now_append, lawful_append, lawful_split, good_now, apart_now, arena_now, next_now, bits_now, keep_now, spent_now, ended, nothing}
use Rattle.history.proofs.Steps.{step_kept}
use Rattle.history.proofs.Calls.{call_kept}
use Rattle.history.specs.Salvages.{Came as SalvagesCame, bad, full, done, came as salvage_came, mended_good}

-- ---- a lone foreign step

pub foreign_kept : (w : World) (kind place number : ℕ) → Kept w (In []) (foreign w kind place number).seen (foreign w kind place number).log
unfolding foreign
foreign_kept w kind place number = ended (step_kept w.head [] [] w.head.next w.table w.health kind place number).kept

-- ---- a preparation

-- a stretch of a history since its start
pub record Stretch (k : Course) : Type 0 where
  pub begun : Begun k.origin
  pub good : Good k.origin
  pub lawful : Lawful k.origin (history_of k)
  pub leads : k.world ≡ now k.origin (history_of k)

zero_bits : (n m : ℕ) → bits n (replicate m 0) ≡ 0
unfolding bits
zero_bits zero m = refl
zero_bits (suc n) m = omega (arith, ap (λ (b : ℕ). one (eqb b 1)) (zero_bit m n), zero_bits n m)

module _ (headers buckets serial boot : ℕ) where
  abbrev prepared : World
  prepared = world_of (head_of headers buckets serial boot) (replicate (3 * (headers * buckets)) 0) (replicate headers 0)

  prepared_good : {words : ℕ} → Shaped (head_of headers buckets serial boot) words → Good prepared
  prepared_good s =
      record {
        shape = record {
          some_headers = s.some_headers;
          few_headers = s.few_headers;
          some_buckets = s.some_buckets;
          few_buckets = s.few_buckets;
          few_cells = s.few_cells;
          low = s.low;
          high = s.high;
          words_are = length-replicate {A = ℕ} (3 * (headers * buckets)) 0;
        };
        health_is = length-replicate {A = ℕ} headers 0;
        status = λ c _. free (zero_bit (3 * (headers * buckets)) c) (zero_owner (3 * (headers * buckets)) c);
      }

  begins : {words : ℕ} → Shaped (head_of headers buckets serial boot) words → Stretch (cold prepared)
  begins d = record { begun = by_preparation refl; good = prepared_good d; lawful = tt; leads = refl }

  -- done, it begins a stretch; refused, the one before goes on in the world that stays
  preparation_stretch : (t g : List ℕ) (v : World) (k : Course)
      → let p = preparing headers buckets serial boot t g in
      ((p.0 ≡ Done → ⊥) → Stretch (noted k [] (saying p.0) v)) → Stretch (prepared_by p.0 p.1 v k)
  unfolding preparing
  preparation_stretch t g v k = go (came headers buckets serial boot t g)
    where
      After : Outcome → Type 0
      After o =
          ((o.0.answer ≡ Done → ⊥) → Stretch (noted k [] (saying o.0.answer) v))
          → Stretch (prepared_by o.0.answer (world_of o.0.head o.1.0 o.1.1) v k)

      go : Came headers buckets serial boot t g → After (prepare_of headers buckets serial boot t g).seen
      go (was_done e p) =
          let h = head_of headers buckets serial boot in
          subst After (sym p) (λ _. begins (shaped h (length t) (both (shape_fits h (length t)) (health_fits h (length g)) e).0))
      go (was_refused e p) = subst After (sym p) (λ s. s (λ d. let z : ◌≡◌ {A = ℕ} 0 1 = cc in omega arith))

-- ---- a salvage

module _ (paper : Head) (t g report list : List ℕ) where
  abbrev Undone : SalvageAnswer → Type 0
  Undone a = (e n : ℕ) × (a ≡ Ok (e, n)) → ⊥

  -- done, it begins a stretch; refused, the one before goes on in the world that stays
  salvage_stretch : (v : World) (k : Course)
      → let p = salvaging paper t g report list in
      (Undone p.0 → Stretch (course_of k.origin k.entries v)) → Stretch (salvaged_by p.0 p.1 v k)
  unfolding salvaging mend_of
  salvage_stretch v k = go (salvage_came paper t g report list)
    where
      After : Salvage → Type 0
      After o =
          (Undone o.0.answer → Stretch (course_of k.origin k.entries v))
          → Stretch (salvaged_by o.0.answer (world_of o.0.head o.1.0 o.1.1.0) v k)

      go : SalvagesCame paper t g report list → After (salvage_of paper t g report list)
      go (bad f p) = subst After (sym p) (λ s. s (λ d. let q = d.2 in let z : ◌≡◌ {A = ℕ} 0 1 = cc in omega arith))
      go (full f i p) = subst After (sym p) (λ s. s (λ d. let q = d.2 in let z : ◌≡◌ {A = ℕ} 0 1 = cc in omega arith))
      go (done f i p) =
          let b = both (shape_fits paper (length t)) (health_fits paper (length g)) f in
          subst After (sym p)
          (λ _.
          record {
            begun = by_salvage paper t g report list (entries_of paper t g) (length (left_held paper.next (cells_of paper) t))
                (ap (λ (o : Salvage). o.0.answer) p) (ap (λ (o : Salvage). world_of paper o.1.0 o.1.1.0) (sym p));
            good = mended_good paper t g (shaped paper (length t) b.0) (healthy paper (length g) b.1);
            lawful = tt;
            leads = refl;
          })

-- ---- a history

pub events_append : (xs ys : List Entry) → events_of (xs ++ ys) ≡ events_of xs ++ events_of ys
events_append [] ys = refl
events_append (x ∷ xs) ys =
    ap (λ (es : List Event). x.events ++ es) (events_append xs ys) ∙ sym (append_assoc x.events (events_of xs) (events_of ys))

one_entry : (xs : List Entry) (e : Entry) → events_of (xs ++ (e ∷ [])) ≡ events_of xs ++ e.events
one_entry xs e = events_append xs (e ∷ []) ∙ ap (λ (es : List Event). events_of xs ++ es) (append-nil e.events)

-- the events of an item, behind those before
goes_on : (k : Course) {P : Hold → Type 0} {v : World} {es : List Event} (said : Says) → Stretch k → Kept k.world P v es → Stretch (noted k es said v)
goes_on k {P} {v} {es} said s m =
    let e = one_entry k.entries (entry_of es said) in
    record {
      begun = s.begun;
      good = s.good;
      lawful = subst (Lawful k.origin) (sym e) (lawful_append k.origin (history_of k) es s.lawful (subst (λ w. Lawful w es) s.leads m.lawful));
      leads =
          m.leads ∙ ap (λ w. now w es) s.leads ∙ sym (now_append k.origin (history_of k) es)
          ∙ ap (λ (l : List Event). now k.origin l) (sym e);
    }

-- an item that did nothing
stays : (k : Course) (said : Says) → Stretch k → Stretch (noted k [] said k.world)
stays k said s = goes_on k {P = In []} said s nothing

-- the runs that a refused preparation hands back, under the head before, are the arena as it was
handed_back_lem : (w : World) (headers buckets serial boot : ℕ)
    → let p = preparing headers buckets serial boot w.table w.health in
    (p.0 ≡ Done → ⊥) → world_of w.head p.1.table p.1.health ≡ w
unfolding preparing
handed_back_lem w headers buckets serial boot n = go (came headers buckets serial boot w.table w.health)
  where
    go : Came headers buckets serial boot w.table w.health
        → let o = (prepare_of headers buckets serial boot w.table w.health).seen in world_of w.head o.1.0 o.1.1 ≡ w
    go (was_done e p) = absurd (n (ap (λ (o : Outcome). o.0.answer) p))
    go (was_refused e p) = ap (λ (o : Outcome). world_of w.head o.1.0 o.1.1) p

-- and so are those that a refused salvage hands back
salvage_handed_back : (w : World) (paper : Head) (report list : List ℕ) → (Begins w (salvage paper report list) → ⊥)
    → let p = salvaging paper w.table w.health report list in world_of w.head p.1.table p.1.health ≡ w
unfolding salvaging
salvage_handed_back w paper report list n = go (salvage_came paper w.table w.health report list)
  where
    Back : Salvage → World
    Back o = world_of w.head o.1.0 o.1.1.0

    go : SalvagesCame paper w.table w.health report list → Back (salvage_of paper w.table w.health report list) ≡ w
    go (bad f p) = ap Back p
    go (full f i p) = ap Back p
    go (done f i p) = absurd (n (_, _, ap (λ (o : Salvage). o.0.answer) p))

item_stretch : (k : Course) (i : Item) → Stretch k → Stretch (next_item k i)
unfolding next_item
item_stretch k (call c) s = goes_on k _ s (call_kept k.world c).kept
item_stretch k (foreign_step kind place number) s = goes_on k _ s (foreign_kept k.world kind place number)
item_stretch k (preparation headers buckets serial boot) s =
    preparation_stretch headers buckets serial boot k.world.table k.world.health _ k
    (λ n.
    let a = (preparing headers buckets serial boot k.world.table k.world.health).0 in
    subst (λ v. Stretch (noted k [] (saying a) v)) (sym (handed_back_lem k.world headers buckets serial boot n)) (stays k (saying a) s))
item_stretch k (preparation_over headers buckets serial boot t g) s = preparation_stretch headers buckets serial boot t g k.world k (λ _. stays k _ s)
item_stretch k (salvage paper report list) s =
    salvage_stretch paper k.world.table k.world.health report list _ k
    (λ n. subst (λ v. Stretch (course_of k.origin k.entries v)) (sym (salvage_handed_back k.world paper report list n)) s)
item_stretch k (salvage_over paper t g report list) s = salvage_stretch paper t g report list k.world k (λ _. s)

pub run_stretch : (k : Course) (is : List Item) → Stretch k → Stretch (run k is)
unfolding run
run_stretch k [] s = s
run_stretch k (i ∷ is) s = run_stretch (next_item k i) is (item_stretch k i s)

-- ---- the ledger of a stretch

-- one log parted in two ways before an event of the same serial: the parts have as many takes, so they are the same
same_front : (a b : Actor) (c d s : ℕ) (x x' y y' : List Event) → x ++ (took a c s ∷ x') ≡ y ++ (took b d s ∷ y') → number_of_lem takes x ≡ number_of_lem takes y
    → (x ≡ y) × (c ≡ d)
unfolding number_of_lem
same_front a b c d s [] x' [] y' e n = (refl, cc)
same_front a b c d s [] x' (f ∷ y) y' e n =
    let p : took a c s ≡ f = cc in
    absurd (omega (arith, ap (counts takes) p))
same_front a b c d s (f ∷ x) x' [] y' e n =
    let p : f ≡ took b d s = cc in
    absurd (omega (arith, ap (counts takes) p))
same_front a b c d s (f ∷ x) x' (f' ∷ y) y' e n =
    let p : f ≡ f' = cc in
    let q : x ++ (took a c s ∷ x') ≡ y ++ (took b d s ∷ y') = cc in
    let r = same_front a b c d s x x' y y' q (omega (arith, ap (counts takes) p)) in
    (cc r.0, r.1)

pub ledger : (k : Course) → Stretch k → Ledger k
ledger k s =
    record {
      begun = s.begun;
      lawful = s.lawful;
      leads = s.leads;
      whole = λ before after e. whole (now o before) (mid before after e).0;
      apart = λ a before after e. apart_now o before s.good (lawful_split o before after (subst (Lawful o) e s.lawful)).0 a;
      keeps = λ l before middle after e v u.
          let m = mid before (middle ++ after) e in
          rw (now_append o before middle) (keep_now (now o before) middle l (fit m.0) (lawful_split (now o before) middle after m.1).0 v u);
      never = λ x before middle after e v.
          let m = mid before (middle ++ after) e in
          rw (now_append o before middle) (spent_now (now o before) middle x (fit m.0) (lawful_split (now o before) middle after m.1).0 v);
      once = λ a b c d x p p' q q' e f.
          let m = (mid p (took a c x ∷ p') e).1.0.1.0 in
          let n = (mid q (took b d x ∷ q') f).1.0.1.0 in
          same_front a b c d x p p' q q' (sym e ∙ f) (omega (arith, next_now o p, next_now o q));
      issued = omega (arith, ap (λ w. w.head.next) s.leads, next_now o (history_of k));
      counted =
          let size : cells k.world ≡ cells o = ap cells s.leads ∙ ap (λ h. h.headers * h.buckets) (arena_now o (history_of k)) in
          let table : k.world.table ≡ (now o (history_of k)).table = ap (λ w. w.table) s.leads in
          rw (size, table) (bits_now o (history_of k) (fit s.good) s.lawful);
    }
  where
    o : World
    o = k.origin

    mid : (before after : List Event) → history_of k ≡ before ++ after → Good (now o before) × Lawful (now o before) after
    mid before after e =
        let t = lawful_split o before after (subst (Lawful o) e s.lawful) in
        (good_now o before s.good t.0, t.1)

-- ---- every history from a start

-- it begins a stretch
pub begun : (k : Course) (i : Item) → Begins k.world i → Stretch (next_item k i)
unfolding next_item
begun k (call c) d = absurd d
begun k (foreign_step kind place number) d = absurd d
begun k (preparation headers buckets serial boot) d =
    preparation_stretch headers buckets serial boot k.world.table k.world.health _ k (λ n. absurd (n d))
begun k (preparation_over headers buckets serial boot t g) d = preparation_stretch headers buckets serial boot t g k.world k (λ n. absurd (n d))
begun k (salvage paper report list) d = salvage_stretch paper k.world.table k.world.health report list _ k (λ n. absurd (n d))
begun k (salvage_over paper t g report list) d = salvage_stretch paper t g report list k.world k (λ n. absurd (n d))

-- with nothing done yet
prepared_yet : (a : Answer) (w v : World) (k : Course) → a ≡ Done → (prepared_by a w v k).entries ≡ []
prepared_yet a w v k d = ap (λ (x : Answer). (prepared_by x w v k).entries) d

salvaged_yet : (a : SalvageAnswer) (w v : World) (k : Course) (e n : ℕ) → a ≡ Ok (e, n) → (salvaged_by a w v k).entries ≡ []
salvaged_yet a w v k e n d = ap (λ (x : SalvageAnswer). (salvaged_by x w v k).entries) d

pub nothing_yet : (k : Course) (i : Item) → Begins k.world i → (next_item k i).entries ≡ []
unfolding next_item
nothing_yet k (call c) d = absurd d
nothing_yet k (foreign_step kind place number) d = absurd d
nothing_yet k (preparation headers buckets serial boot) d = prepared_yet _ _ _ k d
nothing_yet k (preparation_over headers buckets serial boot t g) d = prepared_yet _ _ _ k d
nothing_yet k (salvage paper report list) d = salvaged_yet _ _ _ k d.0 d.1 d.2
nothing_yet k (salvage_over paper t g report list) d = salvaged_yet _ _ _ k d.0 d.1 d.2

pub histories_kept : Demand2
unfolding run
histories_kept rubbish start items d = ledger _ (run_stretch (next_item (cold rubbish) start) items (begun (cold rubbish) start d))

pub sound_if_apart : SoundIfApart
sound_if_apart rubbish start items d a before after e =
    let l = histories_kept rubbish start items d in
    record { whole = l.whole before after e; apart = l.apart a before after e }

-- ---- a stretch from a preparation

pub prepared_fresh : PreparedFresh
unfolding preparing
prepared_fresh headers buckets serial boot t g d =
    subst (λ (o : Outcome). Fresh (world_of o.0.head o.1.0 o.1.1)) (sym (prepare_done headers buckets serial boot t g d)) refl

fresh_apart : (w : World) → Fresh w → Apart w
fresh_apart w f c d s x y =
    absurd (omega (arith, (lives w (hold_of c s) x).bit_is, ap (λ (v : World). bit_at v.table c) f, zero_bit (3 * cells w) c))

pub prepared_sound : PreparedSound
prepared_sound rubbish start items d f = sound_if_apart rubbish start items d (fresh_apart _ f)

pub prepared_counted : PreparedCounted
prepared_counted rubbish start items d f =
    let o = (run (cold rubbish) (start ∷ items)).origin in
    omega (arith, (histories_kept rubbish start items d).counted, ap (λ (w : World). bits (cells o) w.table) f, zero_bits (cells o) (3 * cells o))

pub histories_forget : Forgets
unfolding run next_item preparing
histories_forget rubbish rubbish' headers buckets serial boot items d d' = ap (λ k. run k items) (begins rubbish d ∙ sym (begins rubbish' d'))
  where
    after : World → Outcome → Course
    after w o = prepared_by o.0.answer (world_of o.0.head o.1.0 o.1.1) (world_of w.head o.1.0 o.1.1) (cold w)

    begins : (w : World) → (preparing headers buckets serial boot w.table w.health).0 ≡ Done
        → next_item (cold w) (preparation headers buckets serial boot) ≡ cold (prepared headers buckets serial boot)
    begins w d = ap (after w) (prepare_done headers buckets serial boot w.table w.health d)

-- ---- an item that is no start

pub not_prepared : (a : Answer) (w v : World) (k : Course) → (a ≡ Done → ⊥) → prepared_by a w v k ≡ noted k [] (saying a) v
not_prepared Done w v k n = absurd (n refl)
not_prepared (Cell c) w v k n = refl
not_prepared (Granted l) w v k n = refl
not_prepared AllGranted w v k n = refl
not_prepared (Busy why) w v k n = refl
not_prepared (Refused r) w v k n = refl
not_prepared (RefusedAt r p) w v k n = refl

pub not_salvaged : (a : SalvageAnswer) (w v : World) (k : Course) → ((e n : ℕ) × (a ≡ Ok (e, n)) → ⊥)
    → salvaged_by a w v k ≡ course_of k.origin k.entries v
not_salvaged (Ok (e, m)) w v k n = absurd (n (e, m, refl))
not_salvaged (Err salvaged.BadShape) w v k n = refl
not_salvaged (Err salvaged.ReportFull) w v k n = refl

pub refused_stays : RefusedStays
unfolding next_item
refused_stays k headers buckets serial boot n =
    let p = preparing headers buckets serial boot k.world.table k.world.health in
    not_prepared p.0 p.1 _ k n ∙ ap (λ (v : World). noted k [] (saying p.0) v) (handed_back_lem k.world headers buckets serial boot n)

pub salvage_refused_stays : SalvageRefusedStays
unfolding next_item
salvage_refused_stays k paper report list n =
    let p = salvaging paper k.world.table k.world.health report list in
    not_salvaged p.0 p.1 _ k n ∙ ap (λ (v : World). course_of k.origin k.entries v) (salvage_handed_back k.world paper report list n)

-- the stretch goes on
origin_stays : (k : Course) (i : Item) → (Begins k.world i → ⊥) → (next_item k i).origin ≡ k.origin
unfolding next_item
origin_stays k (call c) n = refl
origin_stays k (foreign_step kind place number) n = refl
origin_stays k (preparation headers buckets serial boot) n = ap (λ (d : Course). d.origin) (not_prepared _ _ _ k n)
origin_stays k (preparation_over headers buckets serial boot t g) n = ap (λ (d : Course). d.origin) (not_prepared _ _ _ k n)
origin_stays k (salvage paper report list) n = ap (λ (d : Course). d.origin) (not_salvaged _ _ _ k n)
origin_stays k (salvage_over paper t g report list) n = ap (λ (d : Course). d.origin) (not_salvaged _ _ _ k n)

pub origin_kept : (k : Course) (is : List Item) → NoStart k is → (run k is).origin ≡ k.origin
unfolding run
origin_kept k [] n = refl
origin_kept k (i ∷ is) n = origin_kept (next_item k i) is n.1 ∙ origin_stays k i n.0

-- ---- the stretch that a done preparation began

begins_prepared : (k : Course) {i : Item} {headers buckets serial boot : ℕ} {t g : List ℕ} → Prepares k.world headers buckets serial boot i t g
    → (preparing headers buckets serial boot t g).0 ≡ Done → Begins k.world i × (next_item k i ≡ cold (preparing headers buckets serial boot t g).1)
unfolding next_item
begins_prepared k {headers = headers} {buckets = buckets} {serial = serial} {boot = boot} own_runs d =
    let p = preparing headers buckets serial boot k.world.table k.world.health in
    (d, ap (λ (a : Answer). prepared_by a p.1 (world_of k.world.head p.1.table p.1.health) k) d)
begins_prepared k {headers = headers} {buckets = buckets} {serial = serial} {boot = boot} (other_runs t g) d =
    (d, ap (λ (a : Answer). prepared_by a (preparing headers buckets serial boot t g).1 k.world k) d)

prepared_head : (headers buckets serial boot : ℕ) (t g : List ℕ) → (preparing headers buckets serial boot t g).0 ≡ Done
    → (preparing headers buckets serial boot t g).1.head ≡ head_of headers buckets serial boot
unfolding preparing
prepared_head headers buckets serial boot t g d = ap (λ (o : Outcome). o.0.head) (prepare_done headers buckets serial boot t g d)

pub prepared_begins : PreparedBegins
unfolding run
prepared_begins k i headers buckets serial boot t g items x d on =
    let b = begins_prepared k x d in
    let o = origin_kept (next_item k i) items on ∙ ap (λ (c : Course). c.origin) b.1 in
    let h = ap (λ (w : World). w.head) o ∙ prepared_head headers buckets serial boot t g d in
    let l = ledger (run (next_item k i) items) (run_stretch (next_item k i) items (begun k i b.0)) in
    (o, subst Fresh (sym o) (prepared_fresh headers buckets serial boot t g d), h, omega (arith, l.issued, ap (λ (x : Head). x.next) h))
