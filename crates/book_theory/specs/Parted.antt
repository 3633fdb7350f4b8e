-- Who writes: the holder of the slot's cell, one at a time; and of two done writes with different leases the first lease was released between.
use Rattle.std.specs.Prelude.{ℕ, ◌+◌, ◌≡◌, refl, ◌≢◌, ◌⊎◌, List, [], ◌∷◌, ◌++◌, Bool, true, false, length, if◌then◌else◌, Ok, Err}
use Rattle.std.proofs.Common.{sym, ap, ◌∙◌, subst, inl, inr, append-nil, append_assoc, arith, eqb-true}
use Rattle.std.proofs.lemmas.Bool.{not-false}
use Rattle.types.specs.Checks.{SalvageAnswer}
use Rattle.model.specs.Arena.{hold_in, owner_at}
use Rattle.model.specs.Log.{Actor, Event, released}
use Rattle.types.specs.declared.Answer.{Answer}
use Rattle.types.specs.declared.Answer.TheVariants as answer
use Rattle.types.specs.declared.Hold.{Hold}
use Rattle.laws.specs.Lists.{leases_equal}
use Rattle.book_rules.specs.Calls.{written_of, write_setpoint_of}
use Rattle.book_rules.specs.Layout.{slots_of, newest_at}
use Rattle.book_rules.specs.Writing.{put_of}
use Rattle.book_rules.specs.Rules.{BookAnswer, BookCheck, first_fault, judge_book, bad_table, bad_slot, claim_rules}
use Rattle.book_rules.specs.declared.BookRefusal.{BookRefusal}
use Rattle.book_rules.specs.declared.BookRefusal.TheVariants.{BadShape, BadSlot, StaleBoot, BookFull}
use Rattle.book_rules.proofs.Outcomes.{Outcome, done, full, refused, writing_is}
use Rattle.book_rules.specs.declared.BookDone.TheVariants.{Written}
use Rattle.history.specs.World.{World, Live, now, Releases, Unreleased}
use Rattle.history.specs.Items.{Item, call, foreign_step, preparation, preparation_over, salvage, salvage_over, Entry, Course, course_of, cold, events_of, history_of, prepared_by, salvaged_by, next_item, run}
use Rattle.history.specs.Statements.{Begins}
use Rattle.history.specs.Tests.{holds_equal}
use Rattle.history.specs.Events.{lives}
use Rattle.history.proofs.Logs.{boot_now}
use Rattle.history.proofs.Writers.{looked}
use Rattle.history.proofs.Courses.{Stretch, run_stretch, ledger, begun, events_append, not_prepared, not_salvaged}
use Rattle.book_theory.specs.Items.{BookItem, arena_item, prepare_book, write_setpoint, read_setpoint, read_version, Shift, shift_of, world_of, next_shift, run_shift}
use Rattle.book_theory.specs.Statements.{WrittenByHolder, UnownedWritesNothing, StaleWritesNothing, OneWriter, GoesOn, OneStretch, ReleasedBetween, WritersParted}

-- ---- the holder

pub written_by_holder : WrittenByHolder write_setpoint_of
written_by_holder w b slot l p v m e = go (writing_is w.head w.table b slot l p) e
  where
    go : {o : BookAnswer × List ℕ} → Outcome w.head w.table b slot l p o → o.0 ≡ Ok (Written v m) → Live w (hold_in l) × (l.cell ≡ slot) × (l.boot ≡ w.head.boot)
    go (done c f) x = (c.given.live, c.given.own, eqb-true _ _ (not-false _ c.given.fresh))
    go (full c f) x = let z : ◌≡◌ {A = ℕ} 0 1 = cc in absurd (omega arith)
    go (refused r d g c) x = let z : ◌≡◌ {A = ℕ} 0 1 = cc in absurd (omega arith)

pub unowned_writes_nothing : UnownedWritesNothing write_setpoint_of
unowned_writes_nothing w b slot l p n = go (writing_is w.head w.table b slot l p)
  where
    go : {o : BookAnswer × List ℕ} → Outcome w.head w.table b slot l p o → (r : BookRefusal) × (o ≡ (Err r, b))
    go (done c f) = absurd (n (rw (c.given.fresh, c.given.live)))
    go (full c f) = (BookFull, refl)
    go (refused r d g c) = (r, refl)

pub stale_writes_nothing : StaleWritesNothing write_setpoint_of
unfolding write_setpoint_of claim_rules first_fault
stale_writes_nothing w b slot l p s = rw s (go (bad_table w.head w.table).applies (bad_slot w.head (length b) slot).applies)
  where
    over : BookAnswer × List ℕ
    over = written_of (newest_at b slot + 1) (put_of (slots_of w.head) b slot p (newest_at b slot + 1))

    go : (x y : Bool) → ◌≡◌ {A = BookCheck} (if x then Err BadShape else if y then Err BadSlot else Ok tt) (Ok tt)
        → judge_book (if x then Err BadShape else if y then Err BadSlot else Err StaleBoot) (λ r. (Err r, b)) over ≡ (Err StaleBoot, b)
    go true y e = let z : ◌≡◌ {A = ℕ} 0 1 = cc in absurd (omega arith)
    go false true e = let z : ◌≡◌ {A = ℕ} 0 1 = cc in absurd (omega arith)
    go false false e = refl

-- two live leases on one cell are one
one_holder : (w : World) (l k : Hold) → Live w l → Live w k → l.cell ≡ k.cell → l ≡ k
one_holder w l k x y e =
    let a = lives w l x in
    let b = lives w k y in
    holds_equal l k e (sym a.owner_is ∙ ap (λ (c : ℕ). owner_at w.table c) e ∙ b.owner_is)

pub one_writer : OneWriter write_setpoint_of
one_writer w b c slot l k p q u v m o x y =
    let f = written_by_holder w b slot l p u m x in
    let g = written_by_holder w c slot k q v o y in
    leases_equal l k (one_holder w (hold_in l) (hold_in k) f.0 g.0 (f.1 ∙ sym g.1)) (f.2 ∙ sym g.2)

-- ---- a log releases a lease, or it does not

abbrev Release : Hold → List Event → Type 0
Release l es = (a : Actor) × (front back : List Event) × (es ≡ front ++ (released a l.cell l.serial ∷ back))

released_or_not : (l : Hold) (es : List Event) → Unreleased l es ⊎ Release l es
released_or_not l [] = inl tt
released_or_not l (e ∷ es) = go (looked l e) (released_or_not l es)
  where
    go : (Releases l e → ⊥) ⊎ ((a : Actor) × (e ≡ released a l.cell l.serial)) → Unreleased l es ⊎ Release l es
        → Unreleased l (e ∷ es) ⊎ Release l (e ∷ es)
    go (inr r) x = inr (r.0, [], es, ap (λ (y : Event). y ∷ es) r.1)
    go (inl n) (inl u) = inl (n, u)
    go (inl n) (inr r) = inr (r.0, e ∷ r.1, r.2, ap (λ (y : List Event). e ∷ y) r.3)

-- ---- items that go on in one stretch: the same first world, and more events behind those before

pub record Longer (k d : Course) : Type 0 where
  pub more : List Event
  pub origin_is : d.origin ≡ k.origin
  pub history_is : history_of d ≡ history_of k ++ more

same : (k : Course) → Longer k k
same k = record { more = []; origin_is = refl; history_is = sym (append-nil (history_of k)) }

further : (k d e : Course) → Longer k d → Longer d e → Longer k e
further k d e x y =
    record {
      more = x.more ++ y.more;
      origin_is = y.origin_is ∙ x.origin_is;
      history_is = y.history_is ∙ ap (λ (h : List Event). h ++ y.more) x.history_is ∙ append_assoc (history_of k) x.more y.more;
    }

one_more : (k : Course) (e : Entry) (w : World) → Longer k (course_of k.origin (k.entries ++ (e ∷ [])) w)
one_more k e w = record { more = events_of (e ∷ []); origin_is = refl; history_is = events_append k.entries (e ∷ []) }

-- a preparation that is not done
unprepared_more : (a : Answer) (w v : World) (k : Course) → a ≢ answer.Done → Longer k (prepared_by a w v k)
unprepared_more a w v k n = subst (Longer k) (sym (not_prepared a w v k n)) (one_more k _ v)

-- a salvage that is not done
unsalvaged_more : (a : SalvageAnswer) (w v : World) (k : Course) → ((e m : ℕ) × (a ≡ Ok (e, m)) → ⊥) → Longer k (salvaged_by a w v k)
unsalvaged_more a w v k n =
    subst (Longer k) (sym (not_salvaged a w v k n)) (record { more = []; origin_is = refl; history_is = sym (append-nil (history_of k)) })

item_more : (s : Shift) (i : BookItem) → GoesOn s i → Longer s.course (next_shift s i).course
unfolding next_shift next_item
item_more s (arena_item (call c)) g = one_more s.course _ _
item_more s (arena_item (foreign_step kind place number)) g = one_more s.course _ _
item_more s (arena_item (preparation headers buckets serial boot)) g = unprepared_more _ _ _ s.course g
item_more s (arena_item (preparation_over headers buckets serial boot t h)) g = unprepared_more _ _ _ s.course g
item_more s (arena_item (salvage paper report list)) g = unsalvaged_more _ _ _ s.course g
item_more s (arena_item (salvage_over paper t h report list)) g = unsalvaged_more _ _ _ s.course g
item_more s prepare_book g = same s.course
item_more s (write_setpoint slot l p) g = same s.course
item_more s (read_setpoint slot) g = same s.course
item_more s (read_version slot w) g = same s.course

runs_more : (s : Shift) (items : List BookItem) → OneStretch s items → Longer s.course (run_shift s items).course
unfolding run_shift
runs_more s [] g = same s.course
runs_more s (i ∷ is) g = further s.course (next_shift s i).course _ (item_more s i g.0) (runs_more (next_shift s i) is g.1)

-- ---- every state reached from a start has the ledger

item_stretch : (s : Shift) (i : BookItem) → Stretch s.course → Stretch (next_shift s i).course
unfolding next_shift run
item_stretch s (arena_item i) k = run_stretch s.course (i ∷ []) k
item_stretch s prepare_book k = k
item_stretch s (write_setpoint slot l p) k = k
item_stretch s (read_setpoint slot) k = k
item_stretch s (read_version slot w) k = k

runs_stretch : (s : Shift) (items : List BookItem) → Stretch s.course → Stretch (run_shift s items).course
unfolding run_shift
runs_stretch s [] k = k
runs_stretch s (i ∷ is) k = runs_stretch (next_shift s i) is (item_stretch s i k)

-- ---- two writers

-- a lease that is live at one point of a stretch and not released since is live at a later one
still_live : (k d : Course) (l : Hold) → Stretch k → Stretch d → (m : Longer k d) → Live k.world l → Unreleased l m.more → Live d.world l
still_live k d l x y m v u =
    let g = ledger d y in
    let before = history_of k in
    let start : Live (now d.origin before) l = subst (λ (w : World). Live w l) (x.leads ∙ ap (λ (w : World). now w before) (sym m.origin_is)) v in
    let end = g.keeps l before m.more [] (m.history_is ∙ ap (λ (es : List Event). before ++ es) (sym (append-nil m.more))) start u in
    subst (λ (w : World). Live w l) (ap (now d.origin) (sym m.history_is) ∙ sym y.leads) end

-- the head in force has one boot number in all of it
still_boot : (k d : Course) → Stretch k → Stretch d → Longer k d → d.world.head.boot ≡ k.world.head.boot
still_boot k d x y m = of d y ∙ ap (λ (w : World). w.head.boot) m.origin_is ∙ sym (of k x)
  where
    of : (c : Course) → Stretch c → c.world.head.boot ≡ c.origin.head.boot
    of c z = ap (λ (w : World). w.head.boot) z.leads ∙ boot_now c.origin (history_of c)

-- the first stretch
started : (w : World) (b : List ℕ) (i : Item) → Begins w i → Stretch (next_shift (shift_of (cold w) b []) (arena_item i)).course
unfolding next_shift
started w b i d = begun (cold w) i d

pub writers_parted : WritersParted
unfolding run_shift
writers_parted rubbish book begin before between slot l k p q u v i o d x y n g =
    let start = next_shift (shift_of (cold rubbish) book []) (arena_item begin) in
    let one = run_shift start before in
    let next = next_shift one (write_setpoint slot l p) in
    let two = run_shift next between in
    let early = runs_stretch start before (started rubbish book begin d) in
    let late = runs_stretch next between (item_stretch one (write_setpoint slot l p) early) in
    let m = further one.course next.course two.course (item_more one (write_setpoint slot l p) tt) (runs_more next between g) in
    go one two m early late (written_by_holder (world_of one) one.book slot l p u i x) (written_by_holder (world_of two) two.book slot k q v o y)
    (released_or_not (hold_in l) m.more)
  where
    go : (one two : Shift) (m : Longer one.course two.course) → Stretch one.course → Stretch two.course
        → Live (world_of one) (hold_in l) × (l.cell ≡ slot) × (l.boot ≡ (world_of one).head.boot)
        → Live (world_of two) (hold_in k) × (k.cell ≡ slot) × (k.boot ≡ (world_of two).head.boot)
        → Unreleased (hold_in l) m.more ⊎ Release (hold_in l) m.more → ReleasedBetween one.course two.course (hold_in l)
    go one two m early late f h (inr r) =
        (r.0, r.1, r.2, m.history_is ∙ ap (λ (es : List Event). history_of one.course ++ es) r.3)
    go one two m early late f h (inl c) =
        absurd (n (leases_equal l k (one_holder (world_of two) (hold_in l) (hold_in k) (still_live one.course two.course (hold_in l) early late m f.0 c) h.0 (f.1 ∙ sym h.1))
        (f.2 ∙ sym (still_boot one.course two.course early late m) ∙ sym h.2)))
