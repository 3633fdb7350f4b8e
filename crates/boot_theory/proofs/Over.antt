-- Over preparations: each item goes on in the stretch, or is a preparation that begins another with a boot number of its own.
use Rattle.std.specs.Prelude.{ℕ, ◌≤◌, ◌<◌, ◌≡◌, refl, List, [], ◌∷◌, ◌++◌, Bool, true, false, not, eqb}
use Rattle.std.proofs.Common.{sym, ap, ◌∙◌, subst, append_assoc, inl, inr, arith, eqb-true}
use Rattle.model.specs.Log.{Actor, Event, took}
use Rattle.model.specs.Arena.{cells_of, is_stale, hold_in, bit_at, is_live}
use Rattle.model.specs.Calls.{prepare_of}
use Rattle.types.specs.declared.Answer.{Answer}
use Rattle.types.specs.declared.Answer.TheVariants.{Done}
use Rattle.types.specs.declared.Head.{Head}
use Rattle.types.specs.declared.Hold.{Hold}
use Rattle.types.specs.declared.Lease.{Lease}
use Rattle.laws.specs.Checks.{not_stale}
use Rattle.choice.specs.Pick.{both}
use Rattle.laws.specs.Prepared.{Outcome, Came, was_done, was_refused, came}
use Rattle.history.specs.World.{World, world_of, Live, Legal, after_event, now, Lawful}
use Rattle.history.specs.Items.{perform, foreign, Item, call, foreign_step, preparation, preparation_over, salvage, salvage_over, Course, history_of, prepared_by, preparing, next_item, run}
use Rattle.history.specs.Statements.{Begins}
use Rattle.history.specs.Tests.{differ, free_words}
use Rattle.history.specs.Events.{lives, Fit, fit}
use Rattle.history.proofs.Logs.{now_append, lawful_append, lawful_split, fit_now, boot_now, next_now, live_back}
use Rattle.history.proofs.Calls.{call_kept}
use Rattle.history.proofs.Courses.{Stretch, foreign_kept, not_prepared, not_salvaged, refused_stays, salvage_refused_stays}
use Rattle.boot_theory.specs.Statements.{Owned, Throughout, log_in, Issues, began, boots_of, boots_over, Member, Distinct, Rescues, NoRescue}

-- ---- owning, in two parts

pub owned_parts : (w : World) (l : Lease) → Owned w l → (l.boot ≡ w.head.boot) × Live w (hold_in l)
owned_parts w l o =
    let b = both (not (not (eqb l.boot w.head.boot))) (is_live w.head.next (cells_of w.head) w.table (hold_in l)) o in
    (eqb-true _ _ (twice (eqb l.boot w.head.boot) b.0), b.1)
  where
    twice : (b : Bool) → not (not b) ≡ true → b ≡ true
    twice true e = refl
    twice false e = e

pub owns : (w : World) (l : Lease) → l.boot ≡ w.head.boot → Live w (hold_in l) → Owned w l
owns w l e v = rw (not_stale w.head l e, v)

-- another boot number than the head's
pub other_stale : (h : Head) (l : Lease) → (l.boot ≡ h.boot → ⊥) → is_stale h l ≡ true
other_stale h l n = go (eqb l.boot h.boot) refl
  where
    go : (b : Bool) → eqb l.boot h.boot ≡ b → not b ≡ true
    go true e = absurd (n (eqb-true _ _ e))
    go false e = refl

-- ---- lists of boot numbers

pub member_left : (b : ℕ) (xs ys : List ℕ) → Member b xs → Member b (xs ++ ys)
member_left b [] ys m = absurd m
member_left b (x ∷ xs) ys (inl e) = inl e
member_left b (x ∷ xs) ys (inr m) = inr (member_left b xs ys m)

pub member_right : (b : ℕ) (xs ys : List ℕ) → Member b ys → Member b (xs ++ ys)
member_right b [] ys m = m
member_right b (x ∷ xs) ys m = inr (member_right b xs ys m)

-- one that stands in the first part of a list without repetition does not stand in the second, which has none either
pub apart_lists : (xs ys : List ℕ) (b : ℕ) → Member b xs → Distinct (xs ++ ys) → Distinct (b ∷ ys)
apart_lists [] ys b m d = absurd m
apart_lists (x ∷ xs) ys b (inl e) d = (λ n. d.0 (subst (λ (z : ℕ). Member z (xs ++ ys)) (sym e) (member_right b xs ys n)), distinct_back xs ys d.1)
  where
    distinct_back : (xs ys : List ℕ) → Distinct (xs ++ ys) → Distinct ys
    distinct_back [] ys d = d
    distinct_back (x ∷ xs) ys d = distinct_back xs ys d.1
apart_lists (x ∷ xs) ys b (inr m) d = apart_lists xs ys b m d.1

-- nor has the first part a repetition
pub distinct_front : (xs ys : List ℕ) → Distinct (xs ++ ys) → Distinct xs
distinct_front [] ys d = tt
distinct_front (x ∷ xs) ys d = (λ m. d.0 (member_left x xs ys m), distinct_front xs ys d.1)

pub boots_append : (k : Course) (xs ys : List Item) → boots_over k (xs ++ ys) ≡ boots_over k xs ++ boots_over (run k xs) ys
unfolding run
boots_append k [] ys = refl
boots_append k (x ∷ xs) ys =
    ap (λ (bs : List ℕ). boots_of k.world x ++ bs) (boots_append (next_item k x) xs ys)
    ∙ sym (append_assoc (boots_of k.world x) (boots_over (next_item k x) xs) (boots_over (run (next_item k x) xs) ys))

empty_parts : (xs ys : List ℕ) → xs ++ ys ≡ [] → (xs ≡ []) × (ys ≡ [])
empty_parts [] ys e = (refl, e)
empty_parts (x ∷ xs) ys e = let z : false ≡ true = cc in absurd (differ z)

pub no_rescue_front : (k : Course) (xs ys : List Item) → NoRescue k (xs ++ ys) → NoRescue k xs
no_rescue_front k [] ys n = tt
no_rescue_front k (x ∷ xs) ys n = (n.0, no_rescue_front (next_item k x) xs ys n.1)

pub no_rescue_back : (k : Course) (xs ys : List Item) → NoRescue k (xs ++ ys) → NoRescue (run k xs) ys
unfolding run
no_rescue_back k [] ys n = n
no_rescue_back k (x ∷ xs) ys n = no_rescue_back (next_item k x) xs ys n.1

-- ---- what items that are no salvage do with the boot number

-- they go on, each event legal in the state in which it happens; or a preparation among them begins anew
pub data Went (w v : World) (boots : List ℕ) : Type 0 where
  on : (es : List Event) → boots ≡ [] → Lawful w es → v ≡ now w es → Went w v boots
  anew : Member v.head.boot boots → Went w v boots

still : (w : World) {v : World} → v ≡ w → Went w v []
still w e = on [] refl tt e

-- a preparation: refused, the world stays; done, it begins with its boot number
prepared_went : (w : World) (headers buckets serial boot : ℕ) (t g : List ℕ) (k : Course) (stays : World)
    → let p = preparing headers buckets serial boot t g in
    ((p.0 ≡ Done → ⊥) → stays ≡ w) → Went w (prepared_by p.0 p.1 stays k).world (began p.0 boot)
unfolding preparing
prepared_went w headers buckets serial boot t g k stays same = go (came headers buckets serial boot t g)
  where
    After : Outcome → Type 0
    After o =
        ((o.0.answer ≡ Done → ⊥) → stays ≡ w)
        → Went w (prepared_by o.0.answer (world_of o.0.head o.1.0 o.1.1) stays k).world (began o.0.answer boot)

    go : Came headers buckets serial boot t g
        → let o = (prepare_of headers buckets serial boot t g).seen in
        Went w (prepared_by o.0.answer (world_of o.0.head o.1.0 o.1.1) stays k).world (began o.0.answer boot)
    go (was_done e p) = subst After (sym p) (λ _. anew (inl refl)) same
    go (was_refused e p) = subst After (sym p) (λ s. still w (s (λ d. let z : false ≡ true = cc in differ z))) same

item_went : (k : Course) (i : Item) → (Rescues k.world i → ⊥) → Went k.world (next_item k i).world (boots_of k.world i)
unfolding next_item
item_went k (call c) n = let m = (call_kept k.world c).kept in on (perform k.world c).log refl m.lawful m.leads
item_went k (foreign_step kind place number) n = let m = foreign_kept k.world kind place number in on (foreign k.world kind place number).log refl m.lawful m.leads
item_went k (preparation headers buckets serial boot) n =
    let p = preparing headers buckets serial boot k.world.table k.world.health in
    prepared_went k.world headers buckets serial boot k.world.table k.world.health k (world_of k.world.head p.1.table p.1.health)
    (λ x. sym (ap (λ (d : Course). d.world) (not_prepared p.0 p.1 (world_of k.world.head p.1.table p.1.health) k x))
    ∙ ap (λ (d : Course). d.world) (refused_stays k headers buckets serial boot x))
item_went k (preparation_over headers buckets serial boot t g) n = prepared_went k.world headers buckets serial boot t g k k.world (λ _. refl)
item_went k (salvage paper report list) n = still k.world (ap (λ (d : Course). d.world) (salvage_refused_stays k paper report list n))
item_went k (salvage_over paper t g report list) n = still k.world (ap (λ (d : Course). d.world) (not_salvaged _ _ _ k n))

then : {w v u : World} {xs ys : List ℕ} → Went w v xs → Went v u ys → Went w u (xs ++ ys)
then {w} {v} {u} {xs} {ys} (on es b l e) (on fs c m f) =
    on (es ++ fs) (rw (b, c)) (lawful_append w es fs l (subst (λ (x : World). Lawful x fs) e m)) (f ∙ ap (λ (x : World). now x fs) e ∙ sym (now_append w es fs))
then {w} {v} {u} {xs} {ys} (on es b l e) (anew m) = anew (member_right u.head.boot xs ys m)
then {w} {v} {u} {xs} {ys} (anew m) (on fs c n f) =
    anew (subst (λ (b : ℕ). Member b (xs ++ ys)) (sym (ap (λ (x : World). x.head.boot) f ∙ boot_now v fs)) (member_left v.head.boot xs ys m))
then {w} {v} {u} {xs} {ys} (anew m) (anew n) = anew (member_right u.head.boot xs ys n)

pub went : (k : Course) (is : List Item) → NoRescue k is → Went k.world (run k is).world (boots_over k is)
unfolding run
went k [] n = still k.world refl
went k (i ∷ is) n = then (item_went k i n.0) (went (next_item k i) is n.1)

-- from a preparation that is done: the boot number in force is one of theirs
pub began_boots : (k : Course) (start : Item) (items : List Item) → Begins k.world start → NoRescue k (start ∷ items)
    → Member (run k (start ∷ items)).world.head.boot (boots_over k (start ∷ items))
began_boots k start items b n = go (went k (start ∷ items) n)
  where
    some : (i : Item) → Begins k.world i → (Rescues k.world i → ⊥) → boots_of k.world i ≡ [] → ⊥
    some (call c) b r e = b
    some (foreign_step kind place number) b r e = b
    some (preparation headers buckets serial boot) b r e = differ (let z : boot ∷ [] ≡ [] = sym (ap (λ (a : Answer). began a boot) b) ∙ e in cc)
    some (preparation_over headers buckets serial boot t g) b r e = differ (let z : boot ∷ [] ≡ [] = sym (ap (λ (a : Answer). began a boot) b) ∙ e in cc)
    some (salvage paper report list) b r e = r b
    some (salvage_over paper t g report list) b r e = r b

    go : Went k.world (run k (start ∷ items)).world (boots_over k (start ∷ items))
        → Member (run k (start ∷ items)).world.head.boot (boots_over k (start ∷ items))
    go (on es none lawful e) = absurd (some start b n.0 (empty_parts (boots_of k.world start) _ none).0)
    go (anew m) = m

-- ---- at the points of an item

log_lawful : (w : World) (i : Item) → Lawful w (log_in w i)
log_lawful w (call c) = (call_kept w c).kept.lawful
log_lawful w (foreign_step kind place number) = (foreign_kept w kind place number).lawful
log_lawful w (preparation headers buckets serial boot) = tt
log_lawful w (preparation_over headers buckets serial boot t g) = tt
log_lawful w (salvage paper report list) = tt
log_lawful w (salvage_over paper t g report list) = tt

-- where a boot number is not the one in force, its leases own nothing at any point
pub other_boot : (w : World) (l : Lease) → (l.boot ≡ w.head.boot → ⊥) → (i : Item) → Throughout w i (λ v. Owned v l → ⊥)
other_boot w l n i before after e o = n ((owned_parts (now w before) l o).0 ∙ boot_now w before)

-- a lease that was issued and owns nothing: never again
module _ (k : Course) (x : Stretch k) where
  pub fits_here : Fit k.world
  fits_here = subst Fit (sym x.leads) (fit_now k.origin (history_of k) (fit x.good) x.lawful)

  pub gone : (more : List Item) → NoRescue k more → Distinct (k.world.head.boot ∷ boots_over k more)
      → (l : Lease) → l.boot ≡ k.world.head.boot → l.serial < k.world.head.next → (Owned k.world l → ⊥)
      → (i : Item) → Throughout (run k more).world i (λ w. Owned w l → ⊥)
  gone more n d l own low dead i = go (went k more n)
    where
      w : World
      w = (run k more).world

      go : Went k.world w (boots_over k more) → Throughout w i (λ v. Owned v l → ⊥)
      go (on es b lawful e) = λ before after q o.
          let p = owned_parts (now w before) l o in
          let m = (lawful_split w before after (subst (Lawful w) q (log_lawful w i))).0 in
          let all = lawful_append k.world es before lawful (subst (λ (v : World). Lawful v before) e m) in
          let there : now w before ≡ now k.world (es ++ before) = ap (λ (v : World). now v before) e ∙ sym (now_append k.world es before) in
          dead (owns k.world l own (live_back k.world (es ++ before) (hold_in l) fits_here all low (subst (λ (v : World). Live v (hold_in l)) there p.1)))
      go (anew m) = other_boot w l (λ e. d.0 (subst (λ (b : ℕ). Member b (boots_over k more)) (sym e ∙ own) m)) i

-- ---- a lease that an item takes

-- a log from the world w to the world v takes it
pub record Taken (w v : World) (l : Lease) : Type 0 where
  pub actor : Actor
  pub before : List Event
  pub after : List Event
  pub lawful : Lawful w (before ++ (took actor l.cell l.serial ∷ after))
  pub leads : v ≡ now w (before ++ (took actor l.cell l.serial ∷ after))

-- an item with an event is a call or a lone step, and leads on by its log
leads_on : (k : Course) (i : Item) (e : Event) (before after : List Event) → log_in k.world i ≡ before ++ (e ∷ after)
    → (next_item k i).world ≡ now k.world (before ++ (e ∷ after))
unfolding next_item
leads_on k i e before after = go i
  where
    none : (before : List Event) → [] ≡ before ++ (e ∷ after) → ⊥
    none [] q = differ (let z : [] ≡ e ∷ after = q in cc)
    none (f ∷ before) q = differ (let z : [] ≡ f ∷ (before ++ (e ∷ after)) = q in cc)

    go : (i : Item) → log_in k.world i ≡ before ++ (e ∷ after) → (next_item k i).world ≡ now k.world (before ++ (e ∷ after))
    go (call c) q = (call_kept k.world c).kept.leads ∙ ap (now k.world) q
    go (foreign_step kind place number) q = (foreign_kept k.world kind place number).leads ∙ ap (now k.world) q
    go (preparation headers buckets serial boot) q = absurd (none before q)
    go (preparation_over headers buckets serial boot t g) q = absurd (none before q)
    go (salvage paper report list) q = absurd (none before q)
    go (salvage_over paper t g report list) q = absurd (none before q)

pub taken : (k : Course) (i : Item) (l : Lease) → Issues k.world i l → Taken k.world (next_item k i).world l
taken k i l p =
    record {
      actor = p.0;
      before = p.1;
      after = p.2;
      lawful = subst (Lawful k.world) p.3 (log_lawful k.world i);
      leads = leads_on k i (took p.0 l.cell l.serial) p.1 p.2 p.3;
    }

module _ (w v : World) (l : Lease) (t : Taken w v l) where
  abbrev its_take : Event
  its_take = took t.actor l.cell l.serial

  -- where it is taken
  abbrev there : World
  there = now w t.before

  parted : Lawful w t.before × (Legal there its_take × Lawful (after_event there its_take) t.after)
  parted = lawful_split w t.before (its_take ∷ t.after) t.lawful

  from_there : v ≡ now (after_event there its_take) t.after
  from_there = t.leads ∙ now_append w t.before (its_take ∷ t.after)

  pub boot_taken : v.head.boot ≡ w.head.boot
  boot_taken = ap (λ (u : World). u.head.boot) t.leads ∙ boot_now w (t.before ++ (its_take ∷ t.after))

  -- its serial is the one that is next there: not below next before the log, and below next behind it
  pub serial_from : w.head.next ≤ l.serial
  serial_from = omega (arith, parted.1.0.1.0, next_now w t.before)

  pub serial_below : l.serial < v.head.next
  serial_below = omega (arith, parted.1.0.1.0, ap (λ (u : World). u.head.next) from_there, next_now (after_event there its_take) t.after)

  -- the cell is free there, so that a lease on it that was issued before owns nothing behind it
  pub dead_behind : (m : Hold) → Fit w → m.cell ≡ l.cell → m.serial < w.head.next → Live v m → ⊥
  dead_behind m f same low x =
      let at = fit_now w t.before f parted.0 in
      let issued : m.serial < there.head.next = omega (arith, next_now w t.before) in
      let was = live_back there (its_take ∷ t.after) m at parted.1 issued (subst (λ (u : World). Live u m) from_there x) in
      let bit = (free_words there.head.next there.table l.cell parted.1.0.0.1).0 in
      omega (arith, (lives there m was).bit_is, ap (bit_at there.table) same, bit)
