-- The statements of `Statements`, each proved.
use Rattle.std.specs.Prelude.{ℕ, ◌<◌, ◌≡◌, List, [], ◌∷◌, ◌++◌, Bool, true, false, not, length, Ok}
use Rattle.std.proofs.Math.Path.{refl, sym, subst}
use Rattle.std.proofs.Common.{ap, ◌∙◌, append_assoc, inl, inr, arith}
use Rattle.model.specs.Log.{Made, Event, by_caller}
use Rattle.model.specs.Arena.{lease_of, lease_live, hold_of, hold_in, leases_of, holds_of}
use Rattle.model.specs.Calls.{drop_lease_of}
use Rattle.model.specs.Checks.{count_in, bad_shape, lease_rules}
use Rattle.model.specs.Refusals.{first}
use Rattle.types.specs.declared.Answer.{Answer}
use Rattle.types.specs.declared.Answer.TheVariants.{Done, Cell, Granted, AllGranted, Busy, Refused, RefusedAt}
use Rattle.types.specs.declared.Lease.{Lease}
use Rattle.laws.specs.Checks.{not_stale}
use Rattle.history.specs.World.{World, now}
use Rattle.history.specs.Items.{Call, Among, try_acquire, drop_lease, read_permission, competing_acquire, release_then_handoff, foreign_release, drop_preserving, acquire_preserving, environment, try_lock, transactional, acquire_bucket, release_all, acquire_locks, acquire_sorted, crew, crew_at_work, ByKeys, in_order, any_order, Says, perform, Item, call, foreign_step, Course, cold, next_item, run}
use Rattle.history.specs.Statements.{HandsOver, Gives, answers, leaves, buffer_in, alone}
use Rattle.history.proofs.Theorems.{grant_is, buffer_is, given_live, handed_over, boot_stays, refused_unowned, stale_is_16}
use Rattle.book_theory.proofs.Theorems.{unowned_writes_nothing, stale_writes_nothing}
use Rattle.history.specs.Tests.{differ, In, in_first, in_rest}
use Rattle.history.specs.Callers.{ShapeFits}
use Rattle.history.specs.Events.{fits}
use Rattle.history.proofs.Logs.{boot_now, next_now}
use Rattle.history.proofs.Courses.{Stretch, run_stretch, begun}
use Rattle.history.proofs.Others.{run_append}
use Rattle.boot_theory.specs.Statements.{Owned, HandsLease, Handed, OwnBoot, Throughout, Issues, HandedIssues, boots_of, boots_over, Member, Distinct, NoRescue, UnownedBarred, OwnedExactly, StaleUseless, Out, OverPreparations, Demand2Over, OverFrom}
use Rattle.boot_theory.proofs.Over.{owned_parts, owns, other_stale, member_left, member_right, apart_lists, distinct_front, boots_append, no_rescue_front, no_rescue_back, Went, on, anew, went, began_boots, other_boot, fits_here, gone, Taken, taken, boot_taken, serial_from, serial_below, dead_behind}
use Rattle.history.specs.Judged.{clear_fine}
use Rattle.history.proofs.Boots.{among_at}

-- ---- a lease that does not own its cell

pub unowned_barred : UnownedBarred
unowned_barred w l n =
    record { owns_nothing = n; refused = λ k x. refused_unowned w k l x n; writes_nothing = λ bytes slot p. unowned_writes_nothing w bytes slot l p n }

owner_fine : (w : World) (l : Lease) → ShapeFits w → Owned w l → first (lease_rules w.head w.table l) ≡ Ok tt
unfolding lease_rules first
owner_fine w l shape o =
    let p = owned_parts w l o in
    rw (shape, not_stale w.head l p.0, p.1)

-- `drop_lease` of one that owns its cell is done, and of no other
pub owned_exactly : OwnedExactly
unfolding perform drop_lease_of
owned_exactly w l shape = (λ d. accepted (lease_live w.head w.table l) refl d, λ o. rw (owner_fine w l shape o))
  where
    accepted : (b : Bool) → lease_live w.head w.table l ≡ b → answers w (drop_lease l) ≡ Done → lease_live w.head w.table l ≡ true
    accepted true e d = e
    accepted false e d =
        let r = refused_unowned w (drop_lease l) l refl (λ o. differ (sym e ∙ o)) in
        let q : Refused r.0 ≡ Done = sym (ap (λ (m : Made (World × Says)). m.seen.1.answer) r.2) ∙ d in
        let z : false ≡ true = cc in
        absurd (differ z)

pub stale_useless : StaleUseless
stale_useless w l shape s =
    record {
      stale = s;
      shape = shape;
      barred = unowned_barred w l (λ o. differ (sym (not_stale w.head l (owned_parts w l o).0) ∙ s));
      alone = λ k o. (stale_is_16 w k 0).1 (l, bad_shape w.head w.table ∷ [], alone o, fine, s);
      placed = λ k ahead i x f. (stale_is_16 w k i).1 (l, ahead, x, f, s);
      written = λ bytes slot p e. stale_writes_nothing w bytes slot l p s e;
    }
  where
    fine : first (bad_shape w.head w.table ∷ []) ≡ Ok tt
    fine = clear_fine (bad_shape w.head w.table ∷ []) (ap not shape, tt)

-- ---- a lease that a call hands over

-- its hold stands among the holds of the list
among_holds : (ws : List ℕ) (l : Lease) → Among l (leases_of ws) → In (holds_of ws) (hold_in l)
unfolding leases_of holds_of
among_holds [] l x = absurd x
among_holds (c ∷ []) l x = absurd x
among_holds (c ∷ s ∷ []) l x = absurd x
among_holds (c ∷ s ∷ b ∷ ws) l (inl e) = subst (λ (k : Lease). In (hold_of c s ∷ holds_of ws) (hold_in k)) e (in_first (hold_of c s) (holds_of ws))
among_holds (c ∷ s ∷ b ∷ ws) l (inr x) = in_rest (hold_of c s) (hold_in l) (holds_of ws) (among_holds ws l x)

-- without its boot number
bare_so : (a : Answer) (grants : List ℕ) (l : Lease) → HandsLease a grants l → HandsOver a grants (hold_in l)
bare_so Done grants l x = x
bare_so (Cell c) grants l x = x
bare_so (Granted m) grants l x = ap hold_in x
bare_so AllGranted grants l x = among_holds grants l x
bare_so (Busy why) grants l x = x
bare_so (Refused r) grants l x = x
bare_so (RefusedAt r p) grants l x = x

bare : (w : World) (c : Call) (l : Lease) → Handed w c l → Gives (perform w c) (hold_in l)
bare w c l x = bare_so (answers w c) (buffer_in (perform w c)) l x

-- the leases of a granted buffer; only the calls by many keys have one
keys_boot : (w : World) (c : Call) (registry keys : List ℕ) → ByKeys c registry keys → answers w c ≡ AllGranted → (l : Lease)
    → Among l (leases_of (buffer_in (perform w c))) → l.boot ≡ w.head.boot
keys_boot w c registry keys b e l x =
    let m = buffer_is w c registry keys b e in
    let p = among_at (count_in keys) 0 (buffer_in (perform w c)) l (omega (arith, m.0)) x in
    sym (ap (λ (k : Lease). k.boot) p.2) ∙ m.2 p.0 (omega (arith, p.1, m.0))

buffer_boot : (w : World) (c : Call) (l : Lease) → answers w c ≡ AllGranted → Among l (leases_of (buffer_in (perform w c))) → l.boot ≡ w.head.boot
unfolding perform leases_of
buffer_boot w (try_acquire c) l e x = absurd x
buffer_boot w (drop_lease k) l e x = absurd x
buffer_boot w (read_permission k) l e x = absurd x
buffer_boot w (competing_acquire k) l e x = absurd x
buffer_boot w (release_then_handoff k) l e x = absurd x
buffer_boot w (foreign_release held k) l e x = absurd x
buffer_boot w (drop_preserving held k) l e x = absurd x
buffer_boot w (acquire_preserving held c) l e x = absurd x
buffer_boot w (environment script place held) l e x = absurd x
buffer_boot w (try_lock script place held c) l e x = absurd x
buffer_boot w (transactional registry script place held binding bucket) l e x = absurd x
buffer_boot w (acquire_bucket registry script place held binding bucket) l e x = absurd x
buffer_boot w (release_all script place leases) l e x = absurd x
buffer_boot w (acquire_locks registry script place held keys grants) l e x =
    keys_boot w (acquire_locks registry script place held keys grants) registry keys (in_order registry script place held keys grants) e l x
buffer_boot w (acquire_sorted registry script place held keys grants) l e x =
    keys_boot w (acquire_sorted registry script place held keys grants) registry keys (any_order registry script place held keys grants) e l x
buffer_boot w (crew counts cells turns) l e x = absurd x
buffer_boot w (crew_at_work counts cells turns counters) l e x = absurd x

handed_boot : (w : World) (c : Call) (l : Lease) (a : Answer) → answers w c ≡ a → HandsLease a (buffer_in (perform w c)) l → l.boot ≡ w.head.boot
handed_boot w c l Done e x = absurd x
handed_boot w c l (Cell d) e x = absurd x
handed_boot w c l (Granted m) e x = sym (ap (λ (k : Lease). k.boot) x) ∙ (grant_is w c m e).1
handed_boot w c l AllGranted e x = buffer_boot w c l e x
handed_boot w c l (Busy why) e x = absurd x
handed_boot w c l (Refused r) e x = absurd x
handed_boot w c l (RefusedAt r p) e x = absurd x

pub own_boot : OwnBoot
own_boot w c l x =
    let b = handed_boot w c l (answers w c) refl x in
    (b, owns (leaves w c) l (b ∙ sym (boot_stays w c)) (given_live w c (hold_in l) (bare w c l x)))

pub handed_issues : HandedIssues
handed_issues w c l x =
    let h = handed_over w c (hold_in l) (bare w c l x) in
    (by_caller, h.0, h.1, h.2, (own_boot w c l x).0)

-- ---- over items

module _ (k : Course) (x : Stretch k) (more : List Item) (n : NoRescue k more) (d : Distinct (k.world.head.boot ∷ boots_over k more)) where
  abbrev end : World
  end = (run k more).world

  -- once a preparation among the items is done, this point's boot number is not the one in force
  prepared_since : (l : Lease) → l.boot ≡ k.world.head.boot → (boots_over k more ≡ [] → ⊥) → l.boot ≡ end.head.boot → ⊥
  prepared_since l own some = go (went k more n)
    where
      go : Went k.world end (boots_over k more) → l.boot ≡ end.head.boot → ⊥
      go (on es none lawful e) = absurd (some none)
      go (anew m) = λ same. d.0 (subst (λ (b : ℕ). Member b (boots_over k more)) (sym same ∙ own) m)

  module _ (i j : Item) (middle rest : List Item) (parts : more ≡ i ∷ (middle ++ (j ∷ rest))) where
    -- after the first item; before the second, and after it
    abbrev after : Course
    after = next_item k i

    abbrev again : Course
    again = run after middle

    abbrev last : Course
    last = next_item again j

    spared : NoRescue after (middle ++ (j ∷ rest))
    spared = (subst (NoRescue k) parts n).1

    -- what the items between them did
    between : Went after.world again.world (boots_over after middle)
    between = went after middle (no_rescue_front after middle (j ∷ rest) spared)

    -- a boot number used between them is used
    used : (b : ℕ) → Member b (boots_over after middle) → Member b (boots_over k more)
    used b m =
        let bs = boots_over after middle in
        let cs = boots_over again (j ∷ rest) in
        subst (Member b) (sym (ap (boots_over k) parts ∙ ap (λ (xs : List ℕ). boots_of k.world i ++ xs) (boots_append after middle (j ∷ rest))))
        (member_right b (boots_of k.world i) (bs ++ cs) (member_left b bs cs m))

    -- the items up to the second one, that one included, and those behind it
    abbrev front : List Item
    front = i ∷ (middle ++ (j ∷ []))

    split : more ≡ front ++ rest
    split = parts ∙ sym (append_assoc (i ∷ middle) (j ∷ []) rest)

    there : run k front ≡ last
    unfolding run
    there = run_append after middle (j ∷ [])

    ending : end ≡ (run last rest).world
    ending = ap (λ (is : List Item). (run k is).world) split ∙ ap (λ (c : Course). c.world) (run_append k front rest ∙ ap (λ (c : Course). run c rest) there)

    -- this point's boot number is not used behind it
    apart : Distinct (k.world.head.boot ∷ boots_over last rest)
    apart =
        let b = k.world.head.boot in
        let bs = ap (boots_over k) split ∙ boots_append k front rest ∙ ap (λ (c : Course). boots_over k front ++ boots_over c rest) there in
        apart_lists (b ∷ boots_over k front) (boots_over last rest) b (inl refl) (subst (λ (xs : List ℕ). Distinct (b ∷ xs)) bs d)

    module _ (l m : Lease) (p : Issues k.world i l) (q : Issues again.world j m) where
      first_take : Taken k.world after.world l
      first_take = taken k i l p

      second_take : Taken again.world last.world m
      second_take = taken again j m q

      -- without a preparation between them next does not fall, and the boot number stays
      issued_by_then : (es : List Event) → again.world ≡ now after.world es → l.serial < again.world.head.next
      issued_by_then es e =
          omega (arith, serial_below k.world after.world l first_take, ap (λ (v : World). v.head.next) e, next_now after.world es)

      still_in_force : (es : List Event) → again.world ≡ now after.world es → last.world.head.boot ≡ k.world.head.boot
      still_in_force es e =
          boot_taken again.world last.world m second_take ∙ ap (λ (v : World). v.head.boot) e
          ∙ boot_now after.world es ∙ boot_taken k.world after.world l first_take

      -- the second serial is next where it is taken, and the first below next by then; a preparation between them has another boot number
      issued_once_so : l.serial ≡ m.serial → l.boot ≡ m.boot → ⊥
      issued_once_so serials boots = go between
        where
          go : Went after.world again.world (boots_over after middle) → ⊥
          go (on es none lawful e) = omega (arith, issued_by_then es e, serial_from again.world last.world m second_take)
          go (anew y) =
              d.0 (used k.world.head.boot (subst (λ (b : ℕ). Member b (boots_over after middle)) (sym q.4 ∙ sym boots ∙ p.4) y))

      -- the cell is free where it is taken again: there the first lease owns nothing, and so never again
      takers_so : l.cell ≡ m.cell → (i : Item) → Throughout end i (λ w. Owned w l → ⊥)
      unfolding run
      takers_so same = go between
        where
          go : Went after.world again.world (boots_over after middle) → (i : Item) → Throughout end i (λ w. Owned w l → ⊥)
          go (on es none lawful e) =
              let boots = still_in_force es e in
              let low = issued_by_then es e in
              let next = serial_from again.world last.world m second_take in
              let fit = fits_here again (run_stretch k (i ∷ middle) x) in
              subst (λ (w : World). (i : Item) → Throughout w i (λ v. Owned v l → ⊥)) (sym ending)
              (gone last (subst Stretch there (run_stretch k front x)) rest (no_rescue_back after middle (j ∷ rest) spared).1
              (subst (λ (b : ℕ). Distinct (b ∷ boots_over last rest)) (sym boots) apart)
              l (p.4 ∙ sym boots) (omega (arith, low, next, serial_below again.world last.world m second_take))
              (λ o. dead_behind again.world last.world m second_take (hold_in l) fit same low (owned_parts last.world l o).1))
          go (anew y) = other_boot end l (prepared_since l p.4 (λ none. subst (Member _) none (used _ y)))

  fits_end : ShapeFits end
  fits_end = fits end.head (length end.table) (fits_here (run k more) (run_stretch k more x)).shape

  -- the world where the items end is a point of whatever comes next
  out : (l : Lease) → ((i : Item) → Throughout end i (λ w. Owned w l → ⊥)) → Out k more l
  out l t = (unowned_barred end l (t (foreign_step 0 0 0) [] _ refl), t)

  over : OverPreparations k more
  unfolding run
  over =
      record {
        never = λ s p i before after e c o.
            gone k x more n d (lease_of c s k.world.head.boot) refl p.was_issued
            (λ y. p.owns_none c (owned_parts k.world (lease_of c s k.world.head.boot) y).1) i before after e o;
        gone = λ l own low dead. out l (gone k x more n d l own low dead);
        stale = λ l own some.
            let y = prepared_since l own some in
            (stale_useless end l fits_end (other_stale end.head l y), out l (other_boot end l y));
        issued_once = λ i j middle rest l m parts p q serials boots. issued_once_so i j middle rest parts l m p q serials boots;
        takers = λ i j middle rest l m parts p q same. out l (takers_so i j middle rest parts l m p q same);
        once = λ a b middle rest l parts p q. issued_once_so (call a) (call b) middle rest parts l l (handed_issues _ a l p) (handed_issues _ b l q) refl refl;
        writers = λ a b middle rest l m parts p q same.
            out l (takers_so (call a) (call b) middle rest parts l m (handed_issues _ a l p) (handed_issues _ b m q) same);
      }

pub over_from : OverFrom
unfolding run
over_from rubbish start items b more rest n d =
    let k = run (cold rubbish) (start ∷ items) in
    over k (run_stretch (next_item (cold rubbish) start) items (begun (cold rubbish) start b)) more (no_rescue_front k more rest n)
    (distinct_front (k.world.head.boot ∷ boots_over k more) (boots_over (run k more) rest)
    (subst (λ (bs : List ℕ). Distinct (k.world.head.boot ∷ bs)) (boots_append k more rest) d))

pub demand_2_over : Demand2Over
demand_2_over rubbish start items more rest b n d =
    let k = cold rubbish in
    over_from rubbish start items b more rest (no_rescue_back k (start ∷ items) (more ++ rest) n)
    (apart_lists (boots_over k (start ∷ items)) (boots_over (run k (start ∷ items)) (more ++ rest)) (run k (start ∷ items)).world.head.boot
    (began_boots k start items b (no_rescue_front k (start ∷ items) (more ++ rest) n)) (subst Distinct (boots_append k (start ∷ items) (more ++ rest)) d))
