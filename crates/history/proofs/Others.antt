-- A foreign step is another caller's call, and a call's log is a history of single calls.
-- ---- a call that takes or releases
use Rattle.std.specs.Prelude.{ℕ, ◌<◌, ◌≡◌, refl, List, [], ◌∷◌, ◌++◌, Bool, true, false, ◌&&◌, ltb, length}
use Rattle.std.proofs.Common.{sym, ap, ◌∙◌, subst, append-nil, append_assoc, arith, ltb-true, leb-false, lt-ltb, le-leb, eq-eqb}
use Rattle.std.proofs.lemmas.Bool.{lt-leb, not-false}
use Rattle.model.specs.Log.{Made, Event, by_caller, by_script, attempt_begun, boundary_run, yielded, spun, step_dropped, took, released, waiters_set, health_set, held_all_lem, added}
use Rattle.model.specs.Arena.{lease_of, hold_in, last_serial, serial_remains, spent_to, hold_of, bit_at, owner_at, is_free, is_live, is_in, state_at}
use Rattle.model.specs.Refusals.{first}
use Rattle.model.specs.Foreign.{step_take_of, step_release_of, step_waiters_of, step_health_of, step_of}
use Rattle.model.specs.Lock.{take_in, take_of}
use Rattle.model.specs.Checks.{cell_rules, lease_rules}
use Rattle.model.specs.Calls.{counts_of, acquire_of, try_acquire_of, drop_lease_of}
use Rattle.types.specs.declared.Answer.TheVariants.{Done, Granted}
use Rattle.types.specs.declared.Lease.{Lease}
use Rattle.types.specs.declared.State.{State}
use Rattle.types.specs.declared.State.TheVariants as state
use Rattle.types.specs.declared.Stepped.{Stepped}
use Rattle.types.specs.declared.Took.{Took}
use Rattle.choice.specs.Pick.{both}
use Rattle.history.specs.World.{World, world_of, cells, Free, Live, Legal, after_event, now, Lawful}
use Rattle.history.specs.Items.{Says, says, try_acquire, drop_lease, perform, foreign, Item, Course, next_item, run, Call, cold, foreign_step, history_of, call, noted, saying, entry_of}
use Rattle.history.specs.Statements.{answers, leaves, log_of}
use Rattle.history.specs.Callers.{ShapeFits, TakesAlike, TakeIsCall, ReleasesAlike, ReleaseIsCall, single, singles, replay, replays, BySingleCalls, HistoriesSingle, DoneSingly}
use Rattle.history.specs.Tests.{differ, free_words, is_free_state, if_cases}
use Rattle.history.specs.Events.{Fit, fit, fit_after, fits, good}
use Rattle.history.proofs.Logs.{lawful_split, boot_now}
use Rattle.history.specs.Judged.{performed}
use Rattle.history.proofs.Calls.{at_point}
use Rattle.history.proofs.Courses.{events_append}
use Rattle.history.proofs.Writers.{through}
use Rattle.history.specs.Others.{ForeignTake, ForeignRelease, ComesTo, performed_release, dropped_release, performed_take, dropped_take}

taken_alone : (w : World) (c : ℕ) → ShapeFits w → Free w c → w.head.next < last_serial
    → perform w (try_acquire c)
    ≡ record { seen = (after_event w (took by_caller c w.head.next), says (Granted (lease_of c w.head.next w.head.boot)) (counts_of 1 0 0 0) 0 []); log = attempt_begun ∷ took by_caller c w.head.next ∷ [] }
unfolding perform try_acquire_of cell_rules first acquire_of take_of
taken_alone w c s f l = rw (s, lt-leb (cells w) c f.0, f.1, lt-ltb w.head.next last_serial l)

pub released_alone : (w : World) (c s : ℕ) → ShapeFits w → Live w (hold_of c s)
    → perform w (drop_lease (lease_of c s w.head.boot))
    ≡ record { seen = (after_event w (released by_caller c s), says Done (counts_of 0 0 0 0) 0 []); log = released by_caller c s ∷ [] }
unfolding perform drop_lease_of lease_rules first
released_alone w c s f l = rw (f, eq-eqb w.head.boot w.head.boot refl, l)

-- a cell that cannot be taken: all stays
not_taken : (w : World) (c : ℕ) → (Free w c → w.head.next < last_serial → ⊥) → leaves w (try_acquire c) ≡ w
unfolding cell_rules acquire_of take_of
not_taken w c n = performed (λ m. m.seen.0 ≡ w) w (try_acquire c) (λ r. refl) (λ k. go (state_at w.head.next w.table c) refl (leb-false (cells w) c k.1.0))
  where
    Of : Made (Took × List ℕ) → Type 0
    Of m = world_of (spent_to w.head m.seen.0.next) m.seen.1 w.health ≡ w

    go : (x : State) → state_at w.head.next w.table c ≡ x → c < cells w → Of (take_in x w.head.next w.table c)
    go state.Damaged e i = refl
    go (state.Held o) e i = refl
    go state.Free e i = if_cases Of (serial_remains w.head.next) (λ r. absurd (n (i, e) (ltb-true w.head.next last_serial r))) (λ r. refl)

not_released : (w : World) (l : Lease) → is_live w.head.next (cells w) w.table (hold_in l) ≡ false → leaves w (drop_lease l) ≡ w
unfolding lease_rules
not_released w l n = performed (λ m. m.seen.0 ≡ w) w (drop_lease l) (λ r. refl) (λ k. absurd (differ (sym n ∙ not-false _ k.1.1.0)))

free_test : (w : World) (c : ℕ) → Free w c → is_free (bit_at w.table c) (owner_at w.table c) ≡ true
unfolding is_free
free_test w c f =
    let p = free_words w.head.next w.table c f.1 in
    rw (eq-eqb (bit_at w.table c) 0 p.0, eq-eqb (owner_at w.table c) 0 p.1)

foreign_take : (w : World) (c number : ℕ) → ForeignTake w c (foreign w 1 c number)
unfolding foreign step_of step_take_of
foreign_take w c number =
    let free = is_free (bit_at w.table c) (owner_at w.table c) in
    let t = ltb c (cells w) && free && serial_remains w.head.next in
    if_cases P t
    (λ e.
    let p = both (ltb c (cells w) && free) (serial_remains w.head.next) e in
    let q = both (ltb c (cells w)) free p.0 in
    performed_take (ltb-true _ _ q.0, is_free_state w.head.next w.table c q.1) (ltb-true _ _ p.1))
    (λ e. dropped_take (λ f l. differ (sym e ∙ rw (lt-ltb c (cells w) f.0, free_test w c f, lt-ltb w.head.next last_serial l))))
  where
    P : Made (Stepped × List ℕ) → Type 0
    P m = ForeignTake w c (record { seen = world_of (spent_to w.head m.seen.0.next) m.seen.1 w.health; log = (m.log ++ []) ++ [] })

pub takes_alike : TakesAlike foreign
takes_alike w c number s = go (foreign_take w c number)
  where
    go : {m : Made World} → ForeignTake w c m → m.seen ≡ leaves w (try_acquire c)
    go (performed_take f l) = sym (ap (λ (m : Made (World × Says)). m.seen.0) (taken_alone w c s f l))
    go (dropped_take n) = sym (not_taken w c n)

pub take_is_call : TakeIsCall foreign
take_is_call w c number s fit = go (foreign_take w c number)
  where
    go : {m : Made World} → ForeignTake w c m → m.log ≡ took by_script c s ∷ []
        → (answers w (try_acquire c) ≡ Granted (lease_of c s w.head.boot)) × (log_of w (try_acquire c) ≡ attempt_begun ∷ took by_caller c s ∷ [])
    go (performed_take f l) e =
        let n : w.head.next ≡ s = cc in
        let p = taken_alone w c fit f l in
        subst (λ (x : ℕ). (answers w (try_acquire c) ≡ Granted (lease_of c x w.head.boot)) × (log_of w (try_acquire c) ≡ attempt_begun ∷ took by_caller c x ∷ [])) n
        (ap (λ (m : Made (World × Says)). m.seen.1.answer) p, ap (λ (m : Made (World × Says)). m.log) p)
    go (dropped_take n) e = let z : ◌≡◌ {A = ℕ} 0 1 = cc in absurd (omega arith)

foreign_release : (w : World) (c s : ℕ) → ForeignRelease w c s (foreign w 2 c s)
unfolding foreign step_of step_release_of is_in
foreign_release w c s = go (is_live w.head.next (cells w) w.table (hold_of c s)) refl
  where
    go : (b : Bool) → is_live w.head.next (cells w) w.table (hold_of c s) ≡ b → ForeignRelease w c s (foreign w 2 c s)
    go true e = rw e (performed_release e)
    go false e = rw e (dropped_release e)

pub releases_alike : ReleasesAlike foreign
releases_alike w c s fit = go (foreign_release w c s)
  where
    go : {m : Made World} → ForeignRelease w c s m → m.seen ≡ leaves w (drop_lease (lease_of c s w.head.boot))
    go (performed_release v) = sym (ap (λ (m : Made (World × Says)). m.seen.0) (released_alone w c s fit v))
    go (dropped_release n) = sym (not_released w (lease_of c s w.head.boot) n)

pub release_is_call : ReleaseIsCall foreign
release_is_call w c s fit = go (foreign_release w c s)
  where
    go : {m : Made World} → ForeignRelease w c s m → m.log ≡ released by_script c s ∷ []
        → (answers w (drop_lease (lease_of c s w.head.boot)) ≡ Done) × (log_of w (drop_lease (lease_of c s w.head.boot)) ≡ released by_caller c s ∷ [])
    go (performed_release v) e =
        let p = released_alone w c s fit v in
        (ap (λ (m : Made (World × Says)). m.seen.1.answer) p, ap (λ (m : Made (World × Says)). m.log) p)
    go (dropped_release n) e = let z : ◌≡◌ {A = ℕ} 0 1 = cc in absurd (omega arith)

-- ---- a log is a history of single calls

waiters_alone : (w : World) (c n : ℕ) → c < cells w → foreign w 3 c n ≡ record { seen = after_event w (waiters_set c n); log = waiters_set c n ∷ [] }
unfolding foreign step_of step_waiters_of
waiters_alone w c n l = rw (lt-ltb c (cells w) l)

health_alone : (w : World) (i n : ℕ) → Legal w (health_set i n) → foreign w 4 i n ≡ record { seen = after_event w (health_set i n); log = health_set i n ∷ [] }
unfolding foreign step_of step_health_of
health_alone w i n l = rw (lt-ltb i w.head.headers l.0, le-leb n 1 l.1)

one_item : (k : Course) (es : List Event) (s : Says) (v : World) → history_of (noted k es s v) ≡ history_of k ++ es
one_item k es s v = events_append k.entries (entry_of es s ∷ []) ∙ ap (λ (l : List Event). history_of k ++ l) (append-nil es)

no_item : (k : Course) → ComesTo k [] [] k.world
unfolding run
no_item k = record { did = sym (append-nil (history_of k)); left = refl }

called : (k : Course) (c : Call) {v : World} {s : Says} {es : List Event} → perform k.world c ≡ record { seen = (v, s); log = es } → ComesTo k (call c ∷ []) es v
unfolding run next_item
called k c {v} {s} {es} p =
    record {
      did = ap (λ (m : Made (World × Says)). history_of (noted k m.log m.seen.1 m.seen.0)) p ∙ one_item k es s v;
      left = ap (λ (m : Made (World × Says)). m.seen.0) p;
    }

stepped : (k : Course) (kind place number : ℕ) {v : World} {es : List Event} → foreign k.world kind place number ≡ record { seen = v; log = es }
    → ComesTo k (foreign_step kind place number ∷ []) es v
unfolding run next_item
stepped k kind place number {v} {es} p =
    record {
      did = ap (λ (m : Made World). history_of (noted k m.log (saying Done) m.seen)) p ∙ one_item k es (saying Done) v;
      left = ap (λ (m : Made World). m.seen) p;
    }

replayed : (k : Course) (e : Event) → Fit k.world → Legal k.world e → ComesTo k (single k.world.head.boot e) (replay e) (after_event k.world e)
unfolding run next_item
replayed k attempt_begun g l = no_item k
replayed k boundary_run g l = no_item k
replayed k yielded g l = no_item k
replayed k spun g l = no_item k
replayed k step_dropped g l = no_item k
replayed k (took a c s) g l =
    let w = k.world in
    rw l.1.0 (called k (try_acquire c) (taken_alone w c (fits w.head (length w.table) g.shape) l.0 (subst (λ (x : ℕ). x < last_serial) l.1.0 l.1.1)))
replayed k (released a c s) g l =
    let w = k.world in
    called k (drop_lease (lease_of c s w.head.boot)) (released_alone w c s (fits w.head (length w.table) g.shape) l)
replayed k (waiters_set c n) g l = stepped k 3 c n (waiters_alone k.world c n l)
replayed k (health_set i n) g l = stepped k 4 i n (health_alone k.world i n l)
replayed k (held_all_lem m) g l = no_item k
replayed k (added m c v) g l = no_item k

pub run_append : (k : Course) (xs ys : List Item) → run k (xs ++ ys) ≡ run (run k xs) ys
unfolding run
run_append k [] ys = refl
run_append k (x ∷ xs) ys = run_append (next_item k x) xs ys

log_replayed : (k : Course) (es : List Event) → Fit k.world → Lawful k.world es → ComesTo k (singles k.world.head.boot es) (replays es) (now k.world es)
log_replayed k [] g l = no_item k
log_replayed k (e ∷ es) g l =
    let boot = k.world.head.boot in
    let one = replayed k e g l.0 in
    let j = run k (single boot e) in
    let all = log_replayed j es (subst Fit (sym one.left) (fit_after k.world e g l.0)) (subst (λ (v : World). Lawful v es) (sym one.left) l.1) in
    -- the boot number is the one before
    let same : j.world.head.boot ≡ boot = ap (λ (v : World). v.head.boot) one.left ∙ boot_now k.world (e ∷ []) in
    let parts = run_append k (single boot e) (singles boot es) in
    let on = ap (λ (b : ℕ). run j (singles b es)) same in
    record {
      did = ap history_of (parts ∙ sym on) ∙ all.did ∙ ap (λ (l : List Event). l ++ replays es) one.did ∙ append_assoc (history_of k) (replay e) (replays es);
      left = ap (λ (c : Course). c.world) (parts ∙ sym on) ∙ all.left ∙ ap (λ (v : World). now v es) one.left;
    }

done_singly : (w : World) (es : List Event) → Fit w → Lawful w es → DoneSingly w es
done_singly w es g l = let p = log_replayed (cold w) es g l in record { did = p.did; left = p.left }

pub by_single_calls : BySingleCalls perform
by_single_calls w k before after e = at_point (DoneSingly w) w k before after e nothing_done (λ g l. done_singly w before g l)
  where
    nothing_done : DoneSingly w []
    nothing_done = let p = no_item (cold w) in record { did = p.did; left = p.left }

pub histories_single : HistoriesSingle
histories_single rubbish start items d before after e =
    let w = run (cold rubbish) (start ∷ items) in
    let s = (through rubbish start items d).stretch in
    done_singly w.origin before (fit s.good) (lawful_split w.origin before after (subst (Lawful w.origin) e s.lawful)).0
