-- A foreign step is a test and an event: legal or dropped need no cases. Two steps in one order and in the other.
-- ---- a step as a test and an event
use Rattle.std.specs.Prelude.{ℕ, ◌+◌, ◌≡◌, refl, List, Bool, true, false, ◌&&◌, not, ◌≢◌, ltb, leb, eqb, if◌then◌else◌}
use Rattle.std.proofs.Common.{sym, ap, ◌∙◌, subst, inl, inr, arith, ltb-true, ltb-false, leb-true, eqb-true, lt-ltb, le-ltb, eq-eqb}
use Rattle.model.specs.Log.{Made, Event, by_script, spun, step_dropped, took, released, waiters_set, health_set}
use Rattle.model.specs.Arena.{serial_remains, last_serial, spent_to, hold_of, bit_at, owner_at, is_free, is_live, is_in}
use Rattle.model.specs.Foreign.{step_of, step_take_of, step_release_of, step_waiters_of, step_health_of}
use Rattle.types.specs.declared.Hold.{Hold}
use Rattle.types.specs.declared.Stepped.{Stepped}
use Rattle.choice.specs.Pick.{both}
use Rattle.laws.specs.Words.{bit_set_other, owner_set_other, bit_set_waiters, owner_set_waiters}
use Rattle.history.specs.World.{World, world_of, cells, Legal, after_event}
use Rattle.history.specs.Tests.{is_free_state, free_words, if_cases}
use Rattle.swaps.specs.Steps.{Step, take_step, does, leaves, dropped, on_table, exchanged, Parted}
use Rattle.swaps.specs.Logs.{Apart, still_first, still_second, take_release, release_take, release_release, take_waiters, waiters_take, release_waiters, waiters_release, waiters_waiters, take_health, health_take, release_health, health_release, waiters_health, health_waiters, health_health, spins, drops, Both}
use Rattle.swaps.specs.Statements.{BothLegal, OwnersExchanged, Swapped, AnySteps, TwoTakes, IdleTake}
use Rattle.swaps.specs.Fine.{Fine, fine, fine_on, live_kept}
use Rattle.swaps.proofs.Pairs.{apart_sym, still_world, commute, takes_swap}
use Rattle.swaps.specs.Acts.{Act, read, legal, event, settle, missed, outcome, effect, Comes, Reads, TakesBothWays, idle, never, takes, frees, waits, heals, reads_idle, reads_take, reads_free, reads_wait, reads_heal, reads_never}

settled : {A : Type 0} (f : A → World × ℕ) (b : Bool) {x y : A} (w : World) (e : Event) → f x ≡ (after_event w e, 0) → f y ≡ (w, 1)
    → f (if b then x else y) ≡ (settle b w e, missed b)
settled f true w e p q = p
settled f false w e p q = q

by : {ps : List Hold} {w : World} (b : Bool) {x y : Made (Stepped × (List ℕ × List ℕ))} {a c : Act} → Comes ps w x a → Comes ps w y c
    → Comes ps w (if b then x else y) (if b then a else c)
by true p q = p
by false p q = q

comes : (ps : List Hold) (w : World) (s : Step) → Comes ps w (does ps w s) (read s)
unfolding step_of read step_take_of step_release_of step_waiters_of step_health_of
comes ps w s =
    by (eqb s.kind 0) (record { is = refl })
    (by (eqb s.kind 1) (record { is = settled on_table (legal ps w (takes s.place)) w (event w (takes s.place)) refl refl })
    (by (eqb s.kind 2) (record { is = settled on_table (legal ps w (frees s.place s.number)) w (event w (frees s.place s.number)) refl refl })
    (by (eqb s.kind 3) (record { is = settled on_table (legal ps w (waits s.place s.number)) w (event w (waits s.place s.number)) refl refl })
    (by (eqb s.kind 4) (record { is = settled on_health (legal ps w (heals s.place s.number)) w (event w (heals s.place s.number)) refl refl })
    (by (eqb s.kind 5) (record { is = refl }) (record { is = refl }))))))
  where
    on_table : Made (Stepped × List ℕ) → World × ℕ
    on_table m = (world_of (spent_to w.head m.seen.0.next) m.seen.1 w.health, m.seen.0.dropped)

    on_health : Made (Stepped × List ℕ) → World × ℕ
    on_health m = (world_of (spent_to w.head m.seen.0.next) w.table m.seen.1, m.seen.0.dropped)

done : (ps : List Hold) (w : World) (s : Step) → outcome w (does ps w s) ≡ effect ps w (read s)
done ps w s = (comes ps w s).is

-- ---- the test does not hang on an event elsewhere

legal_kept : (ps : List Hold) (w : World) (e : Event) (a : Act) → Fine w → Apart e (event w a) → legal ps (after_event w e) a ≡ legal ps w a
legal_kept ps w e idle g x = refl
legal_kept ps w e never g x = refl
legal_kept ps w e (takes c) g (still_first q) = rw (still_world w q)
legal_kept ps w e (takes c) g (release_take {c = d} n) = rw (bit_set_other w.table d 0 0 c (λ z. n (sym z)), owner_set_other w.table d 0 0 c (λ z. n (sym z)))
legal_kept ps w e (takes c) g (waiters_take {d = d} {n = n}) = rw (bit_set_waiters w.table d n c, owner_set_waiters w.table d n c)
legal_kept ps w e (takes c) g health_take = refl
legal_kept ps w e (frees c s) g (still_first q) = rw (still_world w q)
legal_kept ps w e (frees c s) g (take_release n) = rw (live_kept w e c s g (λ z. n (sym z)))
legal_kept ps w e (frees c s) g (release_release n) = rw (live_kept w e c s g (λ z. n (sym z)))
legal_kept ps w e (frees c s) g waiters_release = rw (live_kept w e c s g tt)
legal_kept ps w e (frees c s) g health_release = refl
legal_kept ps w e (waits c n) g (still_first q) = rw (still_world w q)
legal_kept ps w e (waits c n) g take_waiters = refl
legal_kept ps w e (waits c n) g release_waiters = refl
legal_kept ps w e (waits c n) g (waiters_waiters _) = refl
legal_kept ps w e (waits c n) g health_waiters = refl
legal_kept ps w e (heals i n) g (still_first q) = rw (still_world w q)
legal_kept ps w e (heals i n) g take_health = refl
legal_kept ps w e (heals i n) g release_health = refl
legal_kept ps w e (heals i n) g waiters_health = refl
legal_kept ps w e (heals i n) g (health_health _) = refl
legal_kept ps w e (takes c) g (still_second x5) = elim x5 [ ]
legal_kept ps w e (frees c s) g (still_second x6) = elim x6 [ ]
legal_kept ps w e (waits c n) g (still_second x7) = elim x7 [ ]
legal_kept ps w e (heals i n) g (still_second x8) = elim x8 [ ]

-- nor does the event that it is
event_kept : (w : World) (e : Event) (a : Act) → Apart e (event w a) → event (after_event w e) a ≡ event w a
event_kept w e idle x = refl
event_kept w e never x = refl
event_kept w e (takes c) (still_first q) = rw (still_world w q)
event_kept w e (takes c) (release_take n) = refl
event_kept w e (takes c) waiters_take = refl
event_kept w e (takes c) health_take = refl
event_kept w e (frees c s) x = refl
event_kept w e (waits c n) x = refl
event_kept w e (heals i n) x = refl
event_kept w e (takes c) (still_second x4) = elim x4 [ ]

-- a step whose test holds is a legal event
pub is_legal : (ps : List Hold) (w : World) (a : Act) → legal ps w a ≡ true → Legal w (event w a)
is_legal ps w idle l = tt
is_legal ps w never l = tt
is_legal ps w (takes c) l =
    let p = both (ltb c (cells w) && is_free (bit_at w.table c) (owner_at w.table c)) (serial_remains w.head.next) l in
    let q = both (ltb c (cells w)) (is_free (bit_at w.table c) (owner_at w.table c)) p.0 in
    ((ltb-true c (cells w) q.0, is_free_state w.head.next w.table c q.1), (refl, ltb-true w.head.next _ p.1))
is_legal ps w (frees c s) l = (both (is_live w.head.next (cells w) w.table (hold_of c s)) (not (is_in (hold_of c s) ps)) l).0
is_legal ps w (waits c n) l = ltb-true c (cells w) l
is_legal ps w (heals i n) l =
    let p = both (ltb i w.head.headers) (leb n 1) l in
    (ltb-true i w.head.headers p.0, leb-true n 1 p.1)

-- ---- two acts

module _ (ps : List Hold) where
  abbrev pub acted : World → Act → World
  acted w a = settle (legal ps w a) w (event w a)

  fine_acted : (w : World) (a : Act) → Fine w → Fine (acted w a)
  fine_acted w a g = go (legal ps w a) refl
    where
      go : (b : Bool) → legal ps w a ≡ b → Fine (settle b w (event w a))
      go true l = fine_on w (event w a) g (is_legal ps w a l)
      go false l = g

  legal_behind : (w : World) (a b : Act) → Fine w → Apart (event w a) (event w b) → legal ps (acted w a) b ≡ legal ps w b
  legal_behind w a b g x = go (legal ps w a)
    where
      go : (y : Bool) → legal ps (settle y w (event w a)) b ≡ legal ps w b
      go true = legal_kept ps w (event w a) b g x
      go false = refl

  event_behind : (w : World) (a b : Act) → Apart (event w a) (event w b) → event (acted w a) b ≡ event w b
  event_behind w a b x = go (legal ps w a)
    where
      go : (y : Bool) → event (settle y w (event w a)) b ≡ event w b
      go true = event_kept w (event w a) b x
      go false = refl

  settle_swap : (w : World) (x y : Bool) (e f : Event) → Apart e f → settle y (settle x w e) f ≡ settle x (settle y w f) e
  settle_swap w true true e f a = commute w a
  settle_swap w true false e f a = refl
  settle_swap w false true e f a = refl
  settle_swap w false false e f a = refl

  acted_swap : (w : World) (a b : Act) → Fine w → Apart (event w a) (event w b) → acted (acted w a) b ≡ acted (acted w b) a
  acted_swap w a b g x =
      ap (λ (z : Bool). settle z (acted w a) (event (acted w a) b)) (legal_behind w a b g x)
      ∙ ap (settle (legal ps w b) (acted w a)) (event_behind w a b x)
      ∙ settle_swap w (legal ps w a) (legal ps w b) (event w a) (event w b) x
      ∙ ap (settle (legal ps w a) (acted w b)) (sym (event_behind w b a (apart_sym x)))
      ∙ ap (λ (z : Bool). settle z (acted w b) (event (acted w b) a)) (sym (legal_behind w b a g (apart_sym x)))

reads : (s : Step) → Reads s (read s)
unfolding read
reads s =
    if_cases (Reads s) (eqb s.kind 0) (λ e. reads_idle)
    (λ _. if_cases (Reads s) (eqb s.kind 1) (λ e. reads_take (eqb-true s.kind 1 e))
    (λ _. if_cases (Reads s) (eqb s.kind 2) (λ e. reads_free (eqb-true s.kind 2 e))
    (λ _. if_cases (Reads s) (eqb s.kind 3) (λ e. reads_wait (eqb-true s.kind 3 e))
    (λ _. if_cases (Reads s) (eqb s.kind 4) (λ e. reads_heal (eqb-true s.kind 4 e))
    (λ _. if_cases (Reads s) (eqb s.kind 5) (λ e. reads_idle) (λ e. reads_never))))))

apart_of : (w : World) {s t : Step} {a b : Act} → Reads s a → Reads t b → Parted s t → Apart (event w a) (event w b)
apart_of w reads_idle q p = still_first spins
apart_of w reads_never q p = still_first drops
apart_of w (reads_take x) reads_idle p = still_second spins
apart_of w (reads_take x) reads_never p = still_second drops
apart_of w (reads_take x) (reads_take y) p = absurd (p.one_take x y)
apart_of w (reads_take x) (reads_free y) p = take_release (p.on_bits (inl x) (inr y))
apart_of w (reads_take x) (reads_wait y) p = take_waiters
apart_of w (reads_take x) (reads_heal y) p = take_health
apart_of w (reads_free x) reads_idle p = still_second spins
apart_of w (reads_free x) reads_never p = still_second drops
apart_of w (reads_free x) (reads_take y) p = release_take (p.on_bits (inr x) (inl y))
apart_of w (reads_free x) (reads_free y) p = release_release (p.on_bits (inr x) (inr y))
apart_of w (reads_free x) (reads_wait y) p = release_waiters
apart_of w (reads_free x) (reads_heal y) p = release_health
apart_of w (reads_wait x) reads_idle p = still_second spins
apart_of w (reads_wait x) reads_never p = still_second drops
apart_of w (reads_wait x) (reads_take y) p = waiters_take
apart_of w (reads_wait x) (reads_free y) p = waiters_release
apart_of w (reads_wait x) (reads_wait y) p = waiters_waiters (p.on_waiters x y)
apart_of w (reads_wait x) (reads_heal y) p = waiters_health
apart_of w (reads_heal x) reads_idle p = still_second spins
apart_of w (reads_heal x) reads_never p = still_second drops
apart_of w (reads_heal x) (reads_take y) p = health_take
apart_of w (reads_heal x) (reads_free y) p = health_release
apart_of w (reads_heal x) (reads_wait y) p = health_waiters
apart_of w (reads_heal x) (reads_heal y) p = health_health (p.on_health x y)

pub leaves_is : (ps : List Hold) (w : World) (s : Step) → leaves ps w s ≡ acted ps w (read s)
leaves_is ps w s = ap (λ (o : World × ℕ). o.0) (done ps w s)

pub dropped_is : (ps : List Hold) (w : World) (s : Step) → dropped ps w s ≡ missed (legal ps w (read s))
dropped_is ps w s = ap (λ (o : World × ℕ). o.1) (done ps w s)

pub fine_leaves : (ps : List Hold) (w : World) (s : Step) → Fine w → Fine (leaves ps w s)
fine_leaves ps w s g = subst (λ (v : World). Fine v) (sym (leaves_is ps w s)) (fine_acted ps w (read s) g)

pub swapped : (ps : List Hold) (w : World) (s t : Step) → Fine w → Parted s t → Swapped ps w s t
swapped ps w s t g p =
    record {
      state = twice t s ∙ sym (acted_swap ps w (read s) (read t) g x) ∙ sym (twice s t);
      first_drop = later t s (apart_sym x);
      second_drop = later s t x;
    }
  where
    x : Apart (event w (read s)) (event w (read t))
    x = apart_of w (reads s) (reads t) p

    twice : (s t : Step) → leaves ps (leaves ps w s) t ≡ acted ps (acted ps w (read s)) (read t)
    twice s t = leaves_is ps (leaves ps w s) t ∙ ap (λ (v : World). acted ps v (read t)) (leaves_is ps w s)

    later : (s t : Step) → Apart (event w (read s)) (event w (read t)) → dropped ps (leaves ps w s) t ≡ dropped ps w t
    later s t y =
        dropped_is ps (leaves ps w s) t
        ∙ ap (λ (v : World). missed (legal ps v (read t))) (leaves_is ps w s)
        ∙ ap missed (legal_behind ps w (read s) (read t) g y)
        ∙ sym (dropped_is ps w t)

pub any_steps_swap : AnySteps
any_steps_swap ps w s t g p = swapped ps w s t (fine w g) p

-- ---- two takes

takes_free : (ps : List Hold) (w : World) (c : ℕ) → Legal w (took by_script c w.head.next) → legal ps w (takes c) ≡ true
unfolding is_free
takes_free ps w c l =
    let f = free_words w.head.next w.table c l.0.1 in
    rw (lt-ltb c (cells w) l.0.0, eq-eqb (bit_at w.table c) 0 f.0, eq-eqb (owner_at w.table c) 0 f.1, lt-ltb w.head.next _ l.1.1)

not_missed : (b : Bool) → missed b ≡ 0 → b ≡ true
not_missed true e = refl
not_missed false e = absurd (omega arith)

pub takes_both_ways : (ps : List Hold) (w : World) (c n d m : ℕ) → Fine w → c ≢ d → BothLegal ps w (take_step c n) (take_step d m)
    → TakesBothWays ps w (take_step c n) (take_step d m) c d
unfolding read
takes_both_ways ps w c n d m g x p =
    record {
      events = legal_events;
      one_way = right;
      other_way = left;
      exchange = record {
        legal = record {
          first_legal = dropped_is ps w t ∙ ap missed first;
          second_legal = dropped_is ps (leaves ps w t) s ∙ ap (λ (v : World). missed (legal ps v (takes c))) after_t ∙ ap missed second;
        };
        state = left ∙ both_ways.1 ∙ ap (on_table (exchanged c d)) (sym right);
      };
    }
  where
    s : Step
    s = take_step c n

    t : Step
    t = take_step d m

    legal_s : legal ps w (takes c) ≡ true
    legal_s = not_missed (legal ps w (takes c)) (sym (dropped_is ps w s) ∙ p.first_legal)

    after_s : leaves ps w s ≡ after_event w (event w (takes c))
    after_s = leaves_is ps w s ∙ ap (λ (b : Bool). settle b w (event w (takes c))) legal_s

    legal_t : legal ps (after_event w (event w (takes c))) (takes d) ≡ true
    legal_t = ap (λ (v : World). legal ps v (takes d)) (sym after_s) ∙ not_missed (legal ps (leaves ps w s) (takes d)) (sym (dropped_is ps (leaves ps w s) t) ∙ p.second_legal)

    legal_events : Both w (took by_script c w.head.next) (took by_script d (w.head.next + 1))
    legal_events = (is_legal ps w (takes c) legal_s, is_legal ps (after_event w (event w (takes c))) (takes d) legal_t)

    both_ways : Both w (took by_script d w.head.next) (took by_script c (w.head.next + 1))
        × (after_event (after_event w (took by_script d w.head.next)) (took by_script c (w.head.next + 1))
        ≡ on_table (exchanged c d) (after_event (after_event w (took by_script c w.head.next)) (took by_script d (w.head.next + 1))))
    both_ways = takes_swap w by_script by_script c d w.head.next g x legal_events

    first : legal ps w (takes d) ≡ true
    first = takes_free ps w d both_ways.0.0

    after_t : leaves ps w t ≡ after_event w (event w (takes d))
    after_t = leaves_is ps w t ∙ ap (λ (b : Bool). settle b w (event w (takes d))) first

    second : legal ps (after_event w (event w (takes d))) (takes c) ≡ true
    second = takes_free ps (after_event w (event w (takes d))) c both_ways.0.1

    left : leaves ps (leaves ps w t) s ≡ after_event (after_event w (event w (takes d))) (took by_script c (w.head.next + 1))
    left = ap (λ (v : World). leaves ps v s) after_t ∙ leaves_is ps (after_event w (event w (takes d))) s ∙ ap (λ (b : Bool). settle b (after_event w (event w (takes d))) (took by_script c (w.head.next + 1))) second

    right : leaves ps (leaves ps w s) t ≡ after_event (after_event w (event w (takes c))) (took by_script d (w.head.next + 1))
    right = ap (λ (v : World). leaves ps v t) after_s ∙ leaves_is ps (after_event w (event w (takes c))) t ∙ ap (λ (b : Bool). settle b (after_event w (event w (takes c))) (took by_script d (w.head.next + 1))) legal_t

pub take_steps_swap : TwoTakes
take_steps_swap ps w c n d m g x p = (takes_both_ways ps w c n d m (fine w g) x p).exchange

-- ---- a take that is dropped, beside another take

is_missed : (b : Bool) → missed b ≡ 1 → b ≡ false
is_missed true e = absurd (omega arith)
is_missed false e = refl

-- a take that is dropped stays so where next has grown
spent_stays : (a : Bool) (n : ℕ) → (a && serial_remains n) ≡ false → (a && serial_remains (n + 1)) ≡ false
spent_stays false n e = refl
spent_stays true n e = ne_ltb n e
  where
    ne_ltb : (n : ℕ) → serial_remains n ≡ false → serial_remains (n + 1) ≡ false
    ne_ltb n e = le-ltb (n + 1) last_serial (omega (arith, ltb-false n last_serial e))

module _ (ps : List Hold) (w : World) where
  -- a take that would be dropped is dropped behind a take of another cell too
  still_missed : (c d : ℕ) → c ≢ d → legal ps w (takes c) ≡ false → legal ps (acted ps w (takes d)) (takes c) ≡ false
  still_missed c d x e = go (legal ps w (takes d))
    where
      go : (b : Bool) → legal ps (settle b w (event w (takes d))) (takes c) ≡ false
      go true =
          rw (bit_set_other w.table d 1 w.head.next c x, owner_set_other w.table d 1 w.head.next c x)
          (spent_stays (ltb c (cells w) && is_free (bit_at w.table c) (owner_at w.table c)) w.head.next e)
      go false = e

  acted_missed : (a : Act) → legal ps w a ≡ false → acted ps w a ≡ w
  acted_missed a e = ap (λ (b : Bool). settle b w (event w a)) e

-- s is dropped, t is any take of another cell: nothing of s is seen in either order
idle_beside : (ps : List Hold) (w : World) (c n d m : ℕ) → c ≢ d → legal ps w (takes c) ≡ false → Swapped ps w (take_step c n) (take_step d m)
unfolding read
idle_beside ps w c n d m x e =
    let s = take_step c n in
    let t = take_step d m in
    let nothing : leaves ps w s ≡ w = leaves_is ps w s ∙ acted_missed ps w (takes c) e in
    let later : legal ps (leaves ps w t) (takes c) ≡ false = ap (λ (v : World). legal ps v (takes c)) (leaves_is ps w t) ∙ still_missed ps w c d x e in
    record {
      state = leaves_is ps (leaves ps w t) s ∙ acted_missed ps (leaves ps w t) (takes c) later ∙ ap (λ (v : World). leaves ps v t) (sym nothing);
      first_drop = dropped_is ps (leaves ps w t) s ∙ ap missed later ∙ ap missed (sym e) ∙ sym (dropped_is ps w s);
      second_drop = ap (λ (v : World). dropped ps v t) nothing;
    }

turned : {ps : List Hold} {w : World} {s t : Step} → Swapped ps w s t → Swapped ps w t s
turned x = record { state = sym x.state; first_drop = x.second_drop; second_drop = x.first_drop }

pub idle_take_swap : IdleTake
unfolding read
idle_take_swap ps w c n d m x (inl e) = idle_beside ps w c n d m x (is_missed (legal ps w (takes c)) (sym (dropped_is ps w (take_step c n)) ∙ e))
idle_take_swap ps w c n d m x (inr e) =
    turned (idle_beside ps w d m c n (λ z. x (sym z)) (is_missed (legal ps w (takes d)) (sym (dropped_is ps w (take_step d m)) ∙ e)))
