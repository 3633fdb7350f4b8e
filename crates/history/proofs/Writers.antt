-- Two writers: a cell that an answer handed over is taken again only behind a release of that lease.
-- ---- one log: between a live lease and the next take of its cell stands a release of it
use Rattle.std.specs.Prelude.{ℕ, zero, suc, ◌+◌, ◌<◌, ◌≡◌, refl, List, [], ◌∷◌, ◌++◌, ◌⊎◌, length, Ok, Err}
use Rattle.std.proofs.Common.{sym, ap, ◌∙◌, subst, append_assoc, inl, inr, arith}
use Rattle.std.proofs.Math.Decide.{ℕ_discrete}
use Rattle.std.proofs.Math.Seq.{take-length}
use Rattle.types.specs.Checks.{SalvageAnswer}
use Rattle.types.specs.declared.SalvageRefusal.TheVariants as salvaged
use Rattle.model.specs.Log.{Made, Actor, Event, by_caller, attempt_begun, boundary_run, yielded, spun, step_dropped, took, released, waiters_set, health_set, held_all_lem, added}
use Rattle.model.specs.Arena.{hold_of, hold_in, holds_of, set_cell}
use Rattle.model.specs.Foreign.{Setting, protecting, flow_of}
use Rattle.model.specs.Lock.{take_of, lock_of, outcome_of, answer_of, attempt_of, retry_of, attempt_limit, none_yet, settled, hold_at, no_hold, rollback_of, after_key, binding_at, bucket_at, locks_of}
use Rattle.model.specs.Checks.{count_in}
use Rattle.model.specs.Calls.{given, starting, acquire_of, prepare_of}
use Rattle.model.specs.Sorted.{cells_asked, cells_sorted, sorted_keys, first_key, asked_first}
use Rattle.types.specs.declared.Answer.{Answer}
use Rattle.types.specs.declared.Answer.TheVariants.{Done, Cell, Granted, AllGranted, Busy, Refused, RefusedAt}
use Rattle.types.specs.declared.Head.{Head}
use Rattle.types.specs.declared.Hold.{Hold}
use Rattle.types.specs.declared.Outcome.{Outcome}
use Rattle.types.specs.declared.Outcome.TheVariants as outcome
use Rattle.types.specs.declared.Reason.{Reason}
use Rattle.types.specs.declared.Refusal.{Refusal}
use Rattle.types.specs.declared.Run.{Run}
use Rattle.laws.specs.Prepared.{Outcome as Prepared, Came, was_done, was_refused, came}
use Rattle.history.specs.World.{World, Live, after_event, now, Lawful, Releases, Unreleased, world_of}
use Rattle.history.specs.Items.{Call, Says, ByKeys, in_order, any_order, try_acquire, drop_lease, read_permission, competing_acquire, release_then_handoff, foreign_release, drop_preserving, acquire_preserving, environment, try_lock, transactional, acquire_bucket, release_all, acquire_locks, acquire_sorted, crew, crew_at_work, perform, Item, call, foreign_step, preparation, prepared_by, preparing, next_item, run, cold, asked, Entry, entry_of, events_of, Course, key_cell, preparation_over, salvage, salvage_over, salvaged_by, salvaging}
use Rattle.history.specs.Statements.{HandsOver, answers, log_of, Gives, Through, buffer_in}
use Rattle.history.specs.Answers.{AsksOne, BusyOrRefused, LocksRefused, NeverTwice, NoneTakes, NotOverLive, OnceEach, TakesParted, TwoWriters, Hands, AloneUntilReleased}
use Rattle.history.specs.Tests.{free_words, holds_equal, In, in_take}
use Rattle.history.specs.Events.{Fit, fit, fit_after, keep_after, lives, taken_live, good}
use Rattle.history.proofs.Logs.{now_append, lawful_split, fit_now, next_now}
use Rattle.history.specs.Judged.{acting, judged_at, sorted_locks, past_checks, performed}
use Rattle.history.proofs.Calls.{words_leases, call_kept, call_fit}
use Rattle.history.proofs.Courses.{Stretch, run_stretch, events_append, begun, nothing_yet}
use Rattle.history.proofs.Returns.{not_empty}
use Rattle.history.proofs.ByKey.{grants_name}
use Rattle.history.proofs.Shared.{buffers_name}
use Rattle.history.specs.Handed.{TakenIn}
use Rattle.history.proofs.Handed.{taken_between}
use Rattle.history.proofs.HandedCalls.{call_came}
use Rattle.history.specs.Writers.{Honest, Fair, At, One, AllOrRefused}

-- an event releases this lease, or not
pub looked : (l : Hold) (e : Event) → (Releases l e → ⊥) ⊎ ((a : Actor) × (e ≡ released a l.cell l.serial))
looked l attempt_begun = inl (λ x. x)
looked l boundary_run = inl (λ x. x)
looked l yielded = inl (λ x. x)
looked l spun = inl (λ x. x)
looked l step_dropped = inl (λ x. x)
looked l (took a c s) = inl (λ x. x)
looked l (released a c s) = go (ℕ_discrete l.cell c) (ℕ_discrete l.serial s)
  where
    go : Dec (l.cell ≡ c) → Dec (l.serial ≡ s) → (Releases l (released a c s) → ⊥) ⊎ ((b : Actor) × (released a c s ≡ released b l.cell l.serial))
    go (yes p) (yes q) = inr (a, rw (p, q))
    go (yes p) (no q) = inl (λ x. q (ap (λ (k : Hold). k.serial) x))
    go (no p) q = inl (λ x. p (ap (λ (k : Hold). k.cell) x))
looked l (waiters_set c n) = inl (λ x. x)
looked l (health_set i n) = inl (λ x. x)
looked l (held_all_lem m) = inl (λ x. x)
looked l (added m c v) = inl (λ x. x)

pub parted : (w : World) (c s s' : ℕ) (b : Actor) (between after : List Event) → Fit w → Live w (hold_of c s) → Lawful w (between ++ (took b c s' ∷ after))
    → (a : Actor) × (before middle : List Event) × (between ≡ before ++ (released a c s ∷ middle))
parted w c s s' b [] after g v k =
    absurd (omega (arith, (lives w (hold_of c s) v).bit_is, (free_words w.head.next w.table c k.0.0.1).0))
parted w c s s' b (e ∷ es) after g v k =
    go (looked (hold_of c s) e) (λ n. parted (after_event w e) c s s' b es after (fit_after w e g k.0) (keep_after w e (hold_of c s) g k.0 v n) k.1)
  where
    Out : List Event → Type 0
    Out xs = (a : Actor) × (before middle : List Event) × (xs ≡ before ++ (released a c s ∷ middle))

    go : (Releases (hold_of c s) e → ⊥) ⊎ ((a : Actor) × (e ≡ released a c s)) → ((Releases (hold_of c s) e → ⊥) → Out es) → Out (e ∷ es)
    go (inr r) on = (r.0, [], es, ap (λ (x : Event). x ∷ es) r.1)
    go (inl n) on = let r = on n in (r.0, e ∷ r.1, r.2, ap (λ (x : List Event). e ∷ x) r.3)

fair_append : (w : World) (xs ys : List Entry) → Fair w xs → Fair (now w (events_of xs)) ys → Fair w (xs ++ ys)
fair_append w [] ys p q = q
fair_append w (x ∷ xs) ys p q = (p.0, fair_append (now w x.events) xs ys p.1 (rw (now_append w x.events (events_of xs)) at q))

fair_split : (w : World) (xs ys : List Entry) → Fair w (xs ++ ys) → Fair (now w (events_of xs)) ys
fair_split w [] ys p = p
fair_split w (x ∷ xs) ys p = rw (now_append w x.events (events_of xs)) (fair_split (now w x.events) xs ys p.1)

pub record KeptWell (d : Course) : Type 0 where
  pub stretch : Stretch d
  pub fair : Fair d.origin d.entries

call_honest : (w : World) (k : Call) → Honest w (entry_of (log_of w k) (perform w k).seen.1)
call_honest w k l x =
    let m = call_kept w k in
    (call_came w k l x, subst (λ v. Live v l) m.kept.leads (m.gain l x))

one_more : (d : Course) (e : Entry) → KeptWell d → Honest d.world e → Fair d.origin (d.entries ++ (e ∷ []))
one_more d e s h = fair_append d.origin d.entries (e ∷ []) s.fair (subst (λ w. Honest w e) s.stretch.leads h, tt)

-- a preparation hands nothing over
prepared_fair : (a : Answer) (w v : World) (d : Course) → ((l : Hold) → HandsOver a [] l → ⊥) → KeptWell d
    → Fair (prepared_by a w v d).origin (prepared_by a w v d).entries
prepared_fair Done w v d h s = tt
prepared_fair (Cell c) w v d h s = one_more d _ s (λ l x. absurd (h l x))
prepared_fair (Granted k) w v d h s = one_more d _ s (λ l x. absurd (h l x))
prepared_fair AllGranted w v d h s = one_more d _ s (λ l x. absurd (h l x))
prepared_fair (Busy why) w v d h s = one_more d _ s (λ l x. absurd (h l x))
prepared_fair (Refused r) w v d h s = one_more d _ s (λ l x. absurd (h l x))
prepared_fair (RefusedAt r p) w v d h s = one_more d _ s (λ l x. absurd (h l x))

-- a salvage that is done begins anew, and one that is not leaves the entries
salvaged_fair : (a : SalvageAnswer) (w v : World) (d : Course) → KeptWell d → Fair (salvaged_by a w v d).origin (salvaged_by a w v d).entries
salvaged_fair (Ok (e, n)) w v d s = tt
salvaged_fair (Err salvaged.BadShape) w v d s = s.fair
salvaged_fair (Err salvaged.ReportFull) w v d s = s.fair

hands_none : (headers buckets serial boot : ℕ) (t g : List ℕ) (l : Hold) → HandsOver (preparing headers buckets serial boot t g).0 [] l → ⊥
unfolding preparing
hands_none headers buckets serial boot t g l = go (came headers buckets serial boot t g)
  where
    None : Prepared → Type 0
    None o = HandsOver o.0.answer [] l → ⊥

    go : Came headers buckets serial boot t g → None (prepare_of headers buckets serial boot t g).seen
    go (was_done e p) = subst None (sym p) (λ x. x)
    go (was_refused e p) = subst None (sym p) (λ x. x)

item_fair : (d : Course) (i : Item) → KeptWell d → Fair (next_item d i).origin (next_item d i).entries
unfolding next_item
item_fair d (call k) s = one_more d _ s (call_honest d.world k)
item_fair d (foreign_step kind place number) s = one_more d _ s (λ l x. absurd x)
item_fair d (preparation headers buckets serial boot) s =
    let p = preparing headers buckets serial boot d.world.table d.world.health in
    prepared_fair p.0 p.1 (world_of d.world.head p.1.table p.1.health) d (hands_none headers buckets serial boot d.world.table d.world.health) s
item_fair d (preparation_over headers buckets serial boot t g) s =
    let p = preparing headers buckets serial boot t g in
    prepared_fair p.0 p.1 d.world d (hands_none headers buckets serial boot t g) s
item_fair d (salvage paper report list) s =
    let p = salvaging paper d.world.table d.world.health report list in
    salvaged_fair p.0 p.1 (world_of d.world.head p.1.table p.1.health) d s
item_fair d (salvage_over paper t g report list) s =
    let p = salvaging paper t g report list in
    salvaged_fair p.0 p.1 d.world d s

item_kept : (d : Course) (i : Item) → KeptWell d → KeptWell (next_item d i)
unfolding run
item_kept d i s = record { stretch = run_stretch d (i ∷ []) s.stretch; fair = item_fair d i s }

run_kept : (d : Course) (is : List Item) → KeptWell d → KeptWell (run d is)
unfolding run
run_kept d [] s = s
run_kept d (i ∷ is) s = run_kept (next_item d i) is (item_kept d i s)

pub through : Through KeptWell
unfolding run
through rubbish start items d =
    let first = next_item (cold rubbish) start in
    run_kept first items (record { stretch = begun (cold rubbish) start d; fair = subst (Fair first.origin) (sym (nothing_yet (cold rubbish) start d)) tt })

at : (d : Course) (x z : List Entry) (i : Entry) → KeptWell d → d.entries ≡ x ++ (i ∷ z) → At (now d.origin (events_of x)) i z
at d x z i s e =
    let o = d.origin in
    let u = now o (events_of x) in
    let f = fair_split o x (i ∷ z) (subst (Fair o) e s.fair) in
    let k = lawful_split o (events_of x) (i.events ++ events_of z) (subst (Lawful o) (ap events_of e ∙ events_append x (i ∷ z)) s.stretch.lawful) in
    let m = lawful_split u i.events (events_of z) k.1 in
    record { honest = f.0; fits = fit_now u i.events (fit_now o (events_of x) (fit s.stretch.good) k.0) m.0; lawful = m.1; fair = f.1 }

-- ---- lists

-- where an event of the second of three lists stands in all of them
seam : (xs js before after zs : List Event) (new : Event) → js ≡ before ++ (new ∷ after) → xs ++ (js ++ zs) ≡ (xs ++ before) ++ (new ∷ (after ++ zs))
seam xs js before after zs new e =
    ap (λ (l : List Event). xs ++ (l ++ zs)) e ∙ ap (λ (l : List Event). xs ++ l) (append_assoc before (new ∷ after) zs) ∙ sym (append_assoc xs before (new ∷ (after ++ zs)))

spliced : (xs js before after m n : List Event) (new old : Event) → js ≡ before ++ (new ∷ after) → xs ++ before ≡ m ++ (old ∷ n)
    → xs ++ js ≡ m ++ (old ∷ (n ++ (new ∷ after)))
spliced xs js before after m n new old e f =
    ap (λ (l : List Event). xs ++ l) e ∙ sym (append_assoc xs before (new ∷ after)) ∙ ap (λ (l : List Event). l ++ (new ∷ after)) f ∙ append_assoc m (old ∷ n) (new ∷ after)

-- ---- the statements

pub never_twice : NeverTwice
never_twice rubbish start items d x y z i j l k e p q =
    let w = run (cold rubbish) (start ∷ items) in
    let u = now w.origin (events_of x) in
    let v = now u i.events in
    let a = at w x (y ++ (j ∷ z)) i (through rubbish start items d) e in
    let b = taken_between (a.honest l p).0 in
    let c = taken_between ((fair_split v y (j ∷ z) a.fair).0 k q).0 in
    omega (arith, b.1, c.0, next_now u i.events, next_now v (events_of y))

pub once_each : OnceEach
once_each rubbish start items d x z i c s s' e p q =
    let w = run (cold rubbish) (start ∷ items) in
    let v = now (now w.origin (events_of x)) i.events in
    let a = at w x z i (through rubbish start items d) e in
    sym (lives v (hold_of c s) (a.honest (hold_of c s) p).1).owner_is ∙ (lives v (hold_of c s') (a.honest (hold_of c s') q).1).owner_is

pub none_takes : NoneTakes
none_takes rubbish start items d x z i c s s' b between after e p q =
    let w = run (cold rubbish) (start ∷ items) in
    let v = now (now w.origin (events_of x)) i.events in
    let a = at w x z i (through rubbish start items d) e in
    parted v c s s' b between after a.fits (a.honest (hold_of c s) p).1 (subst (Lawful v) q a.lawful)

pub two_writers : TwoWriters
two_writers rubbish start items d x y z i j c s s' e p q =
    let w = run (cold rubbish) (start ∷ items) in
    let v = now (now w.origin (events_of x)) i.events in
    let a = at w x (y ++ (j ∷ z)) i (through rubbish start items d) e in
    let k = ((fair_split v y (j ∷ z) a.fair).0 (hold_of c s') q).0 in
    let es = events_of y in
    let new = took by_caller c s' in
    let whole = events_append y (j ∷ z) ∙ seam es j.events k.before k.after (events_of z) new k.parts in
    let r = none_takes rubbish start items d x (y ++ (j ∷ z)) i c s s' by_caller (es ++ k.before) (k.after ++ events_of z) e p whole in
    (r.0, r.1, r.2, k.after, spliced es j.events k.before k.after r.1 r.2 new (released r.0 c s) k.parts r.3)

-- a log with a release of the lease is no log without one
was_released : (c s : ℕ) (a : Actor) (before after : List Event) → Unreleased (hold_of c s) (before ++ (released a c s ∷ after)) → ⊥
was_released c s a [] after u = u.0 refl
was_released c s a (e ∷ es) after u = was_released c s a es after u.1

pub alone_until_released : AloneUntilReleased
alone_until_released rubbish start items d x y z i j c s e p u = (
  λ s' q.
      let r = two_writers rubbish start items d x y z i j c s s' e p q in
      was_released c s r.0 r.1 _ (subst (Unreleased (hold_of c s)) r.4 u),
  λ b s' before after q.
      let whole : events_of (y ++ (j ∷ z)) ≡ before ++ (took b c s' ∷ (after ++ events_of z))
      = events_append y (j ∷ z) ∙ sym (append_assoc (events_of y) j.events (events_of z)) ∙ ap (λ (l : List Event). l ++ events_of z) q ∙ append_assoc before (took b c s' ∷ after) (events_of z) in
      let r = none_takes rubbish start items d x (y ++ (j ∷ z)) i c s s' b before (after ++ events_of z) e p whole in
      was_released c s r.0 r.1 (r.2 ++ (took b c s' ∷ after))
      (subst (Unreleased (hold_of c s)) (q ∙ ap (λ (l : List Event). l ++ (took b c s' ∷ after)) r.3 ∙ append_assoc r.1 (released r.0 c s ∷ r.2) (took b c s' ∷ after)) u),
)

pub takes_parted : TakesParted
takes_parted rubbish start items d c s s' a b x between z e =
    let w = run (cold rubbish) (start ∷ items) in
    let k = (through rubbish start items d).stretch in
    let p = lawful_split w.origin x (took a c s ∷ (between ++ (took b c s' ∷ z))) (subst (Lawful w.origin) e k.lawful) in
    let v = now w.origin x in
    let v_fits = fit_now w.origin x (fit k.good) p.0 in
    let same : s ≡ v.head.next = p.1.0.1.0 in
    let new : Live (after_event v (took a c s)) (hold_of c s) = rw same (taken_live v a c v_fits p.1.0.0.0) in
    parted (after_event v (took a c s)) c s s' b between z (fit_after v (took a c s) v_fits p.1.0) new p.1.1

-- ---- one call over a live lease

pub not_over_live : NotOverLive perform
not_over_live w k c s s' v x = go (call_fit w k) (call_came w k (hold_of c s') x)
  where
    Out : Type 0
    Out = (a : Actor) × (before middle after : List Event) × (log_of w k ≡ before ++ (released a c s ∷ (middle ++ (took by_caller c s' ∷ after))))

    go : (log_of w k ≡ []) ⊎ Fit w → TakenIn w.head.next (hold_of c s') (log_of w k) → Out
    go (inl z) t = absurd (not_empty (took by_caller c s') t.before t.after (sym z ∙ t.parts))
    go (inr f) t =
        let r = parted w c s s' by_caller t.before t.after f v (subst (Lawful w) t.parts (call_kept w k).kept.lawful) in
        (r.0, r.1, r.2, t.after, spliced [] (log_of w k) t.before t.after r.1 r.2 (took by_caller c s') (released r.0 c s) t.parts r.3)

none_handed : (w : World) (k : Call) (c s s' : ℕ) → Live w (hold_of c s) → Unreleased (hold_of c s) (log_of w k) → Gives (perform w k) (hold_of c s') → ⊥
none_handed w k c s s' v u x =
    let r = not_over_live w k c s s' v x in
    was_released c s r.0 r.1 _ (subst (Unreleased (hold_of c s)) r.4 u)

one_of : (boot : ℕ) (o : Outcome) → One (answer_of boot o)
one_of boot (outcome.Granted l) = tt
one_of boot (outcome.Busy why) = tt
one_of boot (outcome.Refused r) = tt

one_settled : (boot : ℕ) (o : Outcome) → One (answer_of boot (settled o))
one_settled boot (outcome.Granted l) = tt
one_settled boot (outcome.Busy why) = tt
one_settled boot (outcome.Refused r) = tt

acquire_one : (n : ℕ) (h : Head) (t : List ℕ) (c : ℕ) → One (acquire_of n h t c).seen.0.answer
unfolding acquire_of
acquire_one n h t c = one_of h.boot (outcome_of c (take_of h.next t c).seen.0.answer)

past_checks_one : (w : World) (k : Call) → AsksOne k → One (past_checks w k).seen.1.answer
past_checks_one w (try_acquire c) a = acquire_one 1 w.head w.table c
past_checks_one w (drop_lease l) a = absurd a
past_checks_one w (read_permission l) a = absurd a
past_checks_one w (competing_acquire l) a = acquire_one 1 w.head w.table l.cell
past_checks_one w (release_then_handoff l) a = acquire_one 1 w.head (set_cell w.table l.cell 0 0) l.cell
past_checks_one w (foreign_release held l) a =
    let m = (acquire_of 1 w.head w.table l.cell).seen in
    acquire_one 2 m.0.head (set_cell m.1 l.cell 0 0) l.cell
past_checks_one w (drop_preserving held l) a = absurd a
past_checks_one w (acquire_preserving held c) a = acquire_one 1 w.head w.table c
past_checks_one w (environment script place held) a = absurd a
past_checks_one w (try_lock script place held c) a =
    one_of w.head.boot (lock_of (acting w (try_lock script place held c)) w.head.buckets (flow_of w.head.next place 0) w.table w.health c).seen.0.answer
past_checks_one w (transactional registry script place held binding bucket) a =
    let e = acting w (transactional registry script place held binding bucket) in
    one_of w.head.boot (attempt_of e w.head.buckets registry binding bucket (starting w.head place) w.table w.health).seen.0.outcome
past_checks_one w (acquire_bucket registry script place held binding bucket) a =
    let e = acting w (acquire_bucket registry script place held binding bucket) in
    one_settled w.head.boot (retry_of attempt_limit 0 none_yet e w.head.buckets registry binding bucket (starting w.head place) w.table w.health).seen.0.outcome
past_checks_one w (release_all script place leases) a = absurd a
past_checks_one w (acquire_locks registry script place held keys grants) a = absurd a
past_checks_one w (acquire_sorted registry script place held keys grants) a = absurd a
past_checks_one w (crew counts cells turns) a = absurd a
past_checks_one w (crew_at_work counts cells turns counters) a = absurd a

pub busy_or_refused : BusyOrRefused perform
busy_or_refused w k s a v u = go (answers w k) refl (performed (λ m. One m.seen.1.answer) w k (λ r. tt) (λ _. past_checks_one w k a))
  where
    go : (x : Answer) → answers w k ≡ x → One x → ((why : Reason) × (answers w k ≡ Busy why)) ⊎ ((r : Refusal) × (answers w k ≡ Refused r))
    go Done e o = absurd o
    go (Cell c) e o = absurd o
    go (Granted l) e o =
        let c = (grants_name w k l e).0 in
        let m = hold_of (asked w k) l.serial in
        absurd (none_handed w k (asked w k) s l.serial v u (subst (λ x. HandsOver x (buffer_in (perform w k)) m) (sym e) (holds_equal (hold_in l) m c refl)))
    go AllGranted e o = absurd o
    go (Busy why) e o = inl (why, e)
    go (Refused r) e o = inr (r, e)
    go (RefusedAt r p) e o = absurd o

locks_answer : (left p : ℕ) (e : Setting) (buckets boot : ℕ) (registry keys : List ℕ) (taken : List Hold) (r : Run) (t g grants : List ℕ)
    → AllOrRefused (locks_of left p e buckets boot registry keys taken r t g grants).seen.0.answer
unfolding locks_of rollback_of
locks_answer zero p e buckets boot registry keys taken r t g grants = tt
locks_answer (suc left) p e buckets boot registry keys taken r t g grants =
    let m = (retry_of attempt_limit 0 none_yet (protecting e taken) buckets registry (binding_at keys p) (bucket_at keys p) r t g).seen in
    go m.0.outcome m.0.run m.1.0 m.1.1 (λ l. locks_answer left (p + 1) e buckets boot registry keys (taken ++ (l ∷ [])) m.0.run m.1.0 m.1.1 grants)
  where
    go : (o : Outcome) (s : Run) (u y : List ℕ)
        → ((l : Hold) → AllOrRefused (locks_of left (p + 1) e buckets boot registry keys (taken ++ (l ∷ [])) s u y grants).seen.0.answer)
        → AllOrRefused (after_key o e taken p s u y grants (λ l. locks_of left (p + 1) e buckets boot registry keys (taken ++ (l ∷ [])) s u y grants)).seen.0.answer
    go (outcome.Granted l) s u y on = on l
    go (outcome.Busy why) s u y on = tt
    go (outcome.Refused x) s u y on = tt

-- the sorted call is refused where its locks are
asked_answer : (asked sorted : List ℕ) (x : Answer) → AllOrRefused x → AllOrRefused (asked_first x asked sorted)
asked_answer asked sorted Done o = absurd o
asked_answer asked sorted (Cell c) o = absurd o
asked_answer asked sorted (Granted l) o = absurd o
asked_answer asked sorted AllGranted o = tt
asked_answer asked sorted (Busy why) o = absurd o
asked_answer asked sorted (Refused r) o = tt
asked_answer asked sorted (RefusedAt r p) o = tt

all_or_refused : (w : World) (k : Call) (registry keys : List ℕ) → ByKeys k registry keys → AllOrRefused (answers w k)
all_or_refused w k _ _ (in_order registry script place held keys grants) =
    performed (λ m. AllOrRefused m.seen.1.answer) w (acquire_locks registry script place held keys grants) (λ r. tt)
    (λ _. locks_answer (count_in keys) 0 (given w.head script (holds_of held)) w.head.buckets w.head.boot registry keys [] (starting w.head place) w.table w.health grants)
all_or_refused w k _ _ (any_order registry script place held keys grants) =
    performed (λ m. AllOrRefused m.seen.1.answer) w (acquire_sorted registry script place held keys grants) (λ r. tt)
    (λ _.
    judged_at (λ (m : Made (World × Says)). AllOrRefused m.seen.1.answer) (first_key (count_in keys) 0 w.head registry keys) (λ r p _. tt)
    (λ _.
    asked_answer (cells_asked w.head.buckets registry keys) (cells_sorted w.head.buckets registry keys) (sorted_locks w registry script place held keys grants).seen.0.answer
    (locks_answer (length (cells_sorted w.head.buckets registry keys)) 0 (given w.head script (holds_of held)) w.head.buckets w.head.boot registry (sorted_keys w.head.buckets registry keys) [] (starting w.head place) w.table w.health grants)))

pub locks_refused : LocksRefused perform
locks_refused w k registry keys p s many i v u = go (answers w k) refl (all_or_refused w k registry keys many)
  where
    c : ℕ
    c = key_cell w.head.buckets registry keys p

    ls : List Hold
    ls = holds_of (buffer_in (perform w k))

    go : (x : Answer) → answers w k ≡ x → AllOrRefused x → ((r : Refusal) × (answers w k ≡ Refused r)) ⊎ ((r : Refusal) × (q : ℕ) × (answers w k ≡ RefusedAt r q))
    go Done e o = absurd o
    go (Cell c) e o = absurd o
    go (Granted l) e o = absurd o
    go AllGranted e o =
        let b = buffers_name w k registry keys many e in
        let l = hold_at ls p in
        let n : p < length ls = omega (arith, words_leases (buffer_in (perform w k)), b.0) in
        let stands : In ls l = subst (λ x. In x l) (take-length ls) (in_take ls (length ls) p no_hold n n) in
        let m = hold_of c l.serial in
        let here : In ls m = subst (In ls) (holds_equal l m (b.1 p i) refl) stands in
        absurd (none_handed w k c s l.serial v u (subst (λ x. HandsOver x (buffer_in (perform w k)) m) (sym e) here))
    go (Busy why) e o = absurd o
    go (Refused r) e o = inl (r, e)
    go (RefusedAt r q) e o = inr (r, q, e)
