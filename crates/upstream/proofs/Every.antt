-- 000: the rows over scripts stand for upstream's "every legal environment". Here is why: every finite legal trace of
-- other actors that a script has room for is what some script does at a boundary, state by state, with no step dropped.
-- Room: at most 32,768 steps, and a serial for each take.
-- ---- one authority in upstream's sense: the same cells, the same next serial
use Prim.Native.Nat.{ℕ, zero, suc, ◌+◌, ◌*◌, ◌-◌, ◌%◌, ◌≤◌, ◌<◌}
use Rattle.std.specs.Prelude.{◌≡◌, refl, List, [], ◌∷◌, ◌++◌, Bool, true, false, not, eqb, get_or, if◌then◌else◌, Ok}
use Rattle.std.proofs.Math.Path.{sym, subst}
use Rattle.std.proofs.Common.{ap, ◌∙◌, append-nil, append_assoc, lt-ltb, le-ltb, eq-eqb, length-append, get_or-append-add}
use native.Mathlib.Omega.{arith}
use Rattle.std.proofs.Math.Nat.{div-eq_of_eq-mul_left, mul-mod_right}
use Rattle.std.proofs.Math.ListN.{length}
use Rattle.model.specs.Arena.{last_serial, cells_of, hold_of, holds_of, bit_at, owner_at, set_cell, is_free, is_live, is_in, health_fits}
use Rattle.model.specs.Refusals.{first}
use Rattle.model.specs.Checks.{bad_script}
use Rattle.model.specs.Foreign.{Setting, steps_in, kind_at, place_at, number_at, stepped, flow_of, step_take_of, step_release_of, step_of, run_steps_of, boundary_of}
use Rattle.model.specs.Calls.{given}
use Rattle.types.specs.declared.Flow.{Flow}
use Rattle.types.specs.declared.Head.{Head}
use Rattle.types.specs.declared.Hold.{Hold}
use Rattle.laws.specs.Shape.{Shaped, shaped}
use Rattle.laws.specs.Words.{length_set_cell}
use Rattle.history.specs.Items.{environment, perform, rules}
use Rattle.history.specs.Statements.{leaves}
use Rattle.history.specs.Tests.{In}
use Rattle.history.specs.Steps.{world_at, With, of_flow}
use Rattle.upstream.specs.Vocabulary.{Key, Cell, cell, Authority, LeaseId, next_serial, dom, contains_key, cells, insert, CellsAre, valid, authorized, Step, Acquire, Release, Observe, step, releases, held_ids, leases_authorized, environment_trace}
use Rattle.upstream.specs.Premises.{Fits, Short}
use Rattle.upstream.proofs.Protocol.{in_list, first_of, rest_of, legal_trace, trace_buries, step_keys, step_valid, step_keeps, bit_of, owner_of}
use Rattle.upstream.specs.Bridge.{Sized}
use Rattle.upstream.proofs.Bridge.{authorized_live, valid_leases, fits_sized, put_cells, by_checks}
use Rattle.upstream.proofs.Passing.{not_so, script_passes}
use Rattle.upstream.proofs.TryAcquire.{fine_fault}
use Rattle.upstream.specs.Every.{kind_in, place_in, number_in, script_for, Reads}

abbrev pub Alike : Authority → Authority → Type 0
Alike a u = step a u Observe

insert_alike : (m m' : Key → Cell) (k : Key) (c c' : Cell) (j : Key) → m j ≡ m' j → c ≡ c' → insert m k c j ≡ insert m' k c' j
insert_alike m m' k c c' j p q = go (eqb j k)
  where
    go : (b : Bool) → (if b then c else m j) ≡ (if b then c' else m' j)
    go true = q
    go false = p

-- the same cell written on both sides
written_alike : (a b u v : Authority) (k : Key) (c c' : Cell) → CellsAre a u (cells a) → CellsAre a b (insert (cells a) k c) → CellsAre u v (insert (cells u) k c') → c ≡ c'
    → CellsAre b v (cells b)
written_alike a b u v k c c' l x y e =
    record {
      same_keys = y.same_keys ∙ l.same_keys ∙ sym x.same_keys;
      each = λ j i.
          let in_a : contains_key a j = omega (arith, x.same_keys) in
          let in_u : contains_key u j = omega (arith, x.same_keys, l.same_keys) in
          y.each j in_u ∙ insert_alike (cells u) (cells a) k c' c j (l.each j in_a) (sym e) ∙ sym (x.each j in_a);
    }

pub length_for : (es : List Step) → length (script_for es) ≡ 3 * length es
unfolding script_for
length_for [] = refl
length_for (e ∷ es) = omega (arith, length_for es)

-- no event is the end of a boundary
not_five : (e : Step) → eqb (kind_in e) 5 ≡ false
not_five (Acquire k s) = refl
not_five (Release k s) = refl
not_five Observe = refl

-- ---- one legal step does the event

take_made : (n : ℕ) (t : List ℕ) (total c : ℕ) → c < total → bit_at t c ≡ 0 → owner_at t c ≡ 0 → n < last_serial → (step_take_of total n t c).seen ≡ (stepped (n + 1) 0, set_cell t c 1 n)
unfolding step_take_of is_free
take_made n t total c i b o s = rw (lt-ltb c total i, eq-eqb (bit_at t c) 0 b, eq-eqb (owner_at t c) 0 o, lt-ltb n last_serial s)

release_made : (n : ℕ) (t : List ℕ) (total : ℕ) (ps : List Hold) (c s : ℕ) → is_live n total t (hold_of c s) ≡ true → is_in (hold_of c s) ps ≡ false
    → (step_release_of total ps n t c s).seen ≡ (stepped n 0, set_cell t c 0 0)
unfolding step_release_of
release_made n t total ps c s l p = rw (l, p)

module _ (h : Head) (script : List ℕ) (ps : List Hold) where
  abbrev around : Setting
  around = given h script ps

  record Does (e : Step) (n : ℕ) (t g : List ℕ) (b : Authority) : Type 0 where
    next : ℕ
    table : List ℕ
    made : (step_of around n t g (kind_in e) (place_in e) (number_in e)).seen ≡ (stepped next 0, (table, g))
    sized : Sized (world_at h next table g)
    alike : Alike b (world_at h next table g)

  does : (e : Step) (n : ℕ) (t g : List ℕ) (a b : Authority) → Sized (world_at h n t g) → Alike a (world_at h n t g) → valid a → step a b e
      → ((id : LeaseId) → In ps id → releases e id.cell id.serial → ⊥) → next_serial b ≤ last_serial → Does e n t g b
  unfolding step_of
  does (Acquire k s) n t g a b z l v x spared r =
      record {
        next = n + 1;
        table = set_cell t k 1 n;
        made = rw (take_made n t (cells_of h) k inside (bit_of here ∙ x.unlocked) (owner_of here ∙ x.nobody) (omega (arith, x.rises, l.stays)));
        sized = (length_set_cell t k 1 n ∙ z.0, omega arith);
        alike = record {
          same = written_alike a b u (world_at h (n + 1) (set_cell t k 1 n) g) k (cell 1 s) (cell 1 n) l.same x.written (put_cells u (n + 1) k 1 n z inside)
              (ap (cell 1) (x.next_one ∙ sym l.stays));
          stays = omega (arith, x.rises, l.stays);
        };
      }
    where
      u : Authority
      u = world_at h n t g

      here : cells u k ≡ cells a k
      here = l.same.each k x.inside

      inside : k < cells_of h
      inside = omega (arith, x.inside, l.same.same_keys)
  does (Release k s) n t g a b z l v x spared r =
      record {
        next = n;
        table = set_cell t k 0 0;
        made = rw (release_made n t (cells_of h) ps k s live (not_so _ (λ i. spared (hold_of k s) i (refl, refl))));
        sized = (length_set_cell t k 0 0 ∙ z.0, z.1);
        alike = record {
          same = written_alike a b u (world_at h n (set_cell t k 0 0) g) k (cell 0 0) (cell 0 0) l.same x.written (put_cells u n k 0 0 z still.inside) refl;
          stays = omega (arith, x.stays, l.stays);
        };
      }
    where
      u : Authority
      u = world_at h n t g

      still : authorized u (hold_of k s)
      still = step_keeps a u Observe (hold_of k s) l (λ y. y) (record { inside = x.inside; locked = x.locked; mine = x.owner_is })

      live : is_live n (cells_of h) t (hold_of k s) ≡ true
      live = authorized_live u (hold_of k s) (step_valid a u Observe v l) still
  does Observe n t g a b z l v x spared r =
      record {
        next = n;
        table = t;
        made = refl;
        sized = z;
        alike = record {
          same = record {
            same_keys = l.same.same_keys ∙ sym x.same.same_keys;
            each = λ j i. let in_a : contains_key a j = omega (arith, x.same.same_keys) in l.same.each j in_a ∙ sym (x.same.each j in_a);
          };
          stays = omega (arith, x.stays, l.stays);
        };
      }

  -- ---- and so do the first i events

  record Ran (i extra n p d : ℕ) (t g : List ℕ) (b : Authority) : Type 0 where
    next : ℕ
    table : List ℕ
    goes : (run_steps_of (i + extra) around (flow_of n p d) t g).seen ≡ (run_steps_of extra around (flow_of next (p + i) d) table g).seen
    sized : Sized (world_at h next table g)
    alike : Alike b (world_at h next table g)

  -- one step of them
  turn : (left : ℕ) (e : Step) (n p d : ℕ) (t g : List ℕ) → kind_at script p ≡ kind_in e → place_at script p ≡ place_in e → number_at script p ≡ number_in e → (next : ℕ) (table : List ℕ)
      → (step_of around n t g (kind_in e) (place_in e) (number_in e)).seen ≡ (stepped next 0, (table, g))
      → (run_steps_of (suc left) around (flow_of n p d) t g).seen ≡ (run_steps_of left around (flow_of next (p + 1) d) table g).seen
  unfolding run_steps_of
  turn left e n p d t g x y z next table m = let k : d + 0 ≡ d = omega arith in rw (x, y, z, not_five e, m, k)

  -- one step, and then i
  joined : (i extra n p d : ℕ) (t g : List ℕ) (b : Authority) (next : ℕ) (table : List ℕ)
      → (run_steps_of (suc (i + extra)) around (flow_of n p d) t g).seen ≡ (run_steps_of (i + extra) around (flow_of next (p + 1) d) table g).seen → Ran i extra next (p + 1) d table g b
      → Ran (suc i) extra n p d t g b
  joined i extra n p d t g b next table one more =
      let x : suc i + extra ≡ suc (i + extra) = omega arith in
      let y : p + 1 + i ≡ p + suc i = omega arith in
      record { next = more.next; table = more.table; goes = rw (x, ← y) (one ∙ more.goes); sized = more.sized; alike = more.alike }

  runs : (i extra n p d : ℕ) (t g : List ℕ) (events : List Step) (states : List Authority) (a b : Authority) → environment_trace a b (In ps) states events → i ≤ length events
      → Reads script p events → Sized (world_at h n t g) → Alike a (world_at h n t g) → valid a → next_serial b ≤ last_serial
      → Ran i extra n p d t g (get_or states i a)
  runs zero extra n p d t g events states a b r k w z l v m =
      record {
        next = n;
        table = t;
        goes = let x : 0 + extra ≡ extra = omega arith in let y : p + 0 ≡ p = omega arith in rw (x, y);
        sized = z;
        alike = rw r.begins l;
      }
  runs (suc i) extra n p d t g [] states a b r k w z l v m = absurd (omega arith)
  runs (suc i) extra n p d t g (e ∷ events) [] a b r k w z l v m = absurd (omega (arith, r.lengths))
  runs (suc i) extra n p d t g (e ∷ events) (s ∷ []) a b r k w z l v m = absurd (omega (arith, r.lengths))
  runs (suc i) extra n p d t g (e ∷ events) (s ∷ c ∷ states) a b r k w z l v m =
      let rest = rest_of a b s c states e events r in
      let event = first_of a b s c states e events r in
      let one = does e n t g a c z l v event.0 event.1 (omega (arith, m, (trace_buries (legal_trace events (c ∷ states) c b rest)).rises)) in
      let more = runs i extra one.next (p + 1) d one.table g events (c ∷ states) c b rest (omega arith) w.1.1.1 one.sized one.alike (step_valid a c e v event.0) m in
      joined i extra n p d t g (get_or (c ∷ states) i a) one.next one.table (turn (i + extra) e n p d t g w.0 w.1.0 w.1.1.0 one.next one.table one.made)
      (subst (Ran i extra one.next (p + 1) d one.table g) (in_list c a (c ∷ states) i (omega (arith, r.lengths))) more)

  -- the state after the first i steps of a boundary
  prefix_does : (i n : ℕ) (t g : List ℕ) (events : List Step) (states : List Authority) (a b : Authority) → environment_trace a b (In ps) states events → i ≤ length events
      → Reads script 0 events → Sized (world_at h n t g) → Alike a (world_at h n t g) → valid a → next_serial b ≤ last_serial
      → Alike (get_or states i a) (of_flow h (run_steps_of i around (flow_of n 0 0) t g).seen)
  unfolding run_steps_of
  prefix_does i n t g events states a b r k w z l v m =
      let x = runs i 0 n 0 0 t g events states a b r k w z l v m in
      let e : i ≡ i + 0 = omega arith in
      subst (λ (y : With Flow). Alike (get_or states i a) (of_flow h y)) (sym (ap (λ (j : ℕ). (run_steps_of j around (flow_of n 0 0) t g).seen) e ∙ x.goes)) x.alike

  -- ---- a boundary: the events stand in the script from place p on, and behind them a 5 or the script's end

  pub data Stops (q : ℕ) : ℕ → Type 0 where
    at_end : steps_in script ≡ q → Stops q q
    at_five : q < steps_in script → kind_at script q ≡ 5 → Stops q (q + 1)

  pub record Bounded (n p d : ℕ) (t g : List ℕ) (b : Authority) (place : ℕ) : Type 0 where
    pub next : ℕ
    pub table : List ℕ
    pub goes : (boundary_of around (flow_of n p d) t g).seen ≡ (flow_of next place d, (table, g))
    pub alike : Alike b (world_at h next table g)

  stopped : (q place n d : ℕ) (t g : List ℕ) → Stops q place → (run_steps_of (steps_in script - q) around (flow_of n q d) t g).seen ≡ (flow_of n place d, (t, g))
  unfolding run_steps_of
  stopped q place n d t g (at_end e) = let x : steps_in script - q ≡ 0 = omega (arith, e) in rw x
  stopped q place n d t g (at_five l e) = let x : steps_in script - q ≡ suc (steps_in script - q - 1) = omega (arith, l) in rw (x, e)

  -- whatever stands before and behind in the script, the boundary does what the trace does; no step is dropped, and
  -- health stays
  pub boundary_does : (n p d : ℕ) (t g : List ℕ) (events : List Step) (states : List Authority) (a b : Authority) (place : ℕ) → environment_trace a b (In ps) states events
      → Reads script p events → Stops (p + length events) place → Sized (world_at h n t g) → Alike a (world_at h n t g) → valid a → next_serial b ≤ last_serial
      → Bounded n p d t g b place
  unfolding boundary_of
  boundary_does n p d t g events states a b place r w stop z l v m =
      let k = length events in
      let extra = steps_in script - (p + k) in
      let x = runs k extra n p d t g events states a b r (omega arith) w z l v m in
      let e : steps_in script - p ≡ k + extra = reach stop in
      record {
        next = x.next;
        table = x.table;
        goes = rw e (x.goes ∙ stopped (p + k) place x.next d x.table g stop);
        alike = subst (λ y. Alike y (world_at h x.next x.table g)) r.ends x.alike;
      }
    where
      reach : {q : ℕ} → Stops (p + length events) q → steps_in script - p ≡ length events + (steps_in script - (p + length events))
      reach (at_end e) = omega (arith, e)
      reach (at_five l e) = omega (arith, l)

-- ---- such a script

word_at : (pre ys : List ℕ) (k n i : ℕ) → length pre ≡ 3 * k → i ≡ 3 * k + n → get_or (pre ++ ys) i 0 ≡ get_or ys n 0
word_at pre ys k n i e j = let x : i ≡ length pre + n = omega arith in ap (λ (z : ℕ). get_or (pre ++ ys) z 0) x ∙ get_or-append-add pre ys n 0

-- the events between any words, from place k on
pub reads_for : (pre : List ℕ) (k : ℕ) (events : List Step) (post : List ℕ) → length pre ≡ 3 * k → Reads (pre ++ (script_for events ++ post)) k events
unfolding script_for
reads_for pre k [] post l = tt
reads_for pre k (e ∷ es) post l = (
  word_at pre _ k 0 (3 * k) l (omega arith),
  (
    word_at pre _ k 1 (3 * k + 1) l (omega arith),
    (
      word_at pre _ k 2 (3 * k + 2) l (omega arith),
      subst (λ (x : List ℕ). Reads x (k + 1) es) (append_assoc pre (kind_in e ∷ place_in e ∷ number_in e ∷ []) (script_for es ++ post))
          (reads_for (pre ++ (kind_in e ∷ place_in e ∷ number_in e ∷ [])) (k + 1) es post (length-append pre (kind_in e ∷ place_in e ∷ number_in e ∷ []) ∙ omega (arith, l))),
    ),
  ),
)

-- a boundary anywhere in a script, at whatever call: any words before it, the events, a 5, and any words behind
pub between_does : (h : Head) (ps : List Hold) (pre : List ℕ) (k : ℕ) (post : List ℕ) (n d : ℕ) (t g : List ℕ) (events : List Step) (states : List Authority) (a b : Authority)
    → length pre ≡ 3 * k → environment_trace a b (In ps) states events → Sized (world_at h n t g) → Alike a (world_at h n t g) → valid a → next_serial b ≤ last_serial
    → Bounded h (pre ++ (script_for events ++ (5 ∷ 0 ∷ 0 ∷ post))) ps n k d t g b (k + length events + 1)
between_does h ps pre k post n d t g events states a b e r z l v m =
    boundary_does h script ps n k d t g events states a b (k + length events + 1) r (reads_for pre k events (5 ∷ 0 ∷ 0 ∷ post) e) (at_five inside five) z l v m
  where
    script : List ℕ
    script = pre ++ (script_for events ++ (5 ∷ 0 ∷ 0 ∷ post))

    words : length script ≡ 3 * (k + length events) + (3 + length post)
    words = length-append pre (script_for events ++ (5 ∷ 0 ∷ 0 ∷ post)) ∙ ap (λ (x : ℕ). length pre + x) (length-append (script_for events) (5 ∷ 0 ∷ 0 ∷ post)) ∙ omega (arith, length_for events, e)

    inside : k + length events < steps_in script
    inside = omega (arith, words)

    front : length (pre ++ script_for events) ≡ 3 * (k + length events)
    front = length-append pre (script_for events) ∙ omega (arith, length_for events, e)

    five : kind_at script (k + length events) ≡ 5
    five = subst (λ (x : List ℕ). kind_at x (k + length events) ≡ 5) (append_assoc pre (script_for events) (5 ∷ 0 ∷ 0 ∷ post))
        (word_at (pre ++ script_for events) (5 ∷ 0 ∷ 0 ∷ post) (k + length events) 0 (3 * (k + length events)) front (omega arith))

script_formed : (script : List ℕ) → length script % 3 ≡ 0 → steps_in script ≤ 32768 → (bad_script script 0).applies ≡ false
script_formed script e k = rw (eq-eqb (length script % 3) 0 e, le-ltb 32768 (steps_in script) k, le-ltb (steps_in script) 0 (omega arith))

-- its words are u32
words_fit : (events : List Step) (states : List Authority) (a b : Authority) (ps : List Hold) → environment_trace a b (In ps) states events → valid a → dom a ≤ last_serial → next_serial b ≤ last_serial
    → (i : ℕ) → get_or (script_for events) i 0 ≤ last_serial
unfolding script_for
words_fit [] states a b ps r v k m i = omega arith
words_fit (e ∷ events) [] a b ps r v k m i = absurd (omega (arith, r.lengths))
words_fit (e ∷ events) (s ∷ []) a b ps r v k m i = absurd (omega (arith, r.lengths))
words_fit (e ∷ events) (s ∷ c ∷ states) a b ps r v k m i =
    go i (λ j. words_fit events (c ∷ states) c b ps rest (step_valid a c e v x) (omega (arith, step_keys a c e x)) m j)
  where
    rest : environment_trace c b (In ps) (c ∷ states) events
    rest = rest_of a b s c states e events r

    x : step a c e
    x = (first_of a b s c states e events r).0

    kinds : (e : Step) → kind_in e ≤ last_serial
    kinds (Acquire y z) = omega arith
    kinds (Release y z) = omega arith
    kinds Observe = omega arith

    places : (e : Step) → step a c e → place_in e ≤ last_serial
    places (Acquire y z) q = omega (arith, q.inside)
    places (Release y z) q = omega (arith, q.inside)
    places Observe q = omega arith

    numbers : (e : Step) → step a c e → number_in e ≤ last_serial
    numbers (Acquire y z) q = omega arith
    numbers (Release y z) q =
        omega (arith, q.owner_is.0, q.owner_is.1, (v y q.inside).below (omega (arith, q.owner_is.0, q.owner_is.1)), q.stays, (trace_buries (legal_trace events (c ∷ states) c b rest)).rises)
    numbers Observe q = omega arith

    go : (i : ℕ) → ((j : ℕ) → get_or (script_for events) j 0 ≤ last_serial) → get_or (kind_in e ∷ place_in e ∷ number_in e ∷ script_for events) i 0 ≤ last_serial
    go zero on = kinds e
    go (suc zero) on = places e x
    go (suc (suc zero)) on = numbers e x
    go (suc (suc (suc j))) on = on j

-- ---- the call `environment`

-- a script does at one boundary of the call what the trace does
pub record DoneBy (w after : Authority) (held : List ℕ) (states : List Authority) (events : List Step) (script : List ℕ) : Type 0 where
  -- as many steps as events, in words of 32 bits; no check of the call applies
  pub as_many : steps_in script ≡ length events
  pub words : (i : ℕ) → get_or script i 0 ≤ last_serial
  pub passes : first (rules w (environment script 0 held)) ≡ Ok tt
  -- after its first i steps the state is the trace's; at the end it is what the call leaves, and no step was dropped
  pub states_are : (i : ℕ) → i ≤ length events
      → Alike (get_or states i w) (of_flow w.head (run_steps_of i (given w.head script (holds_of held)) (flow_of (next_serial w) 0 0) w.table w.health).seen)
  pub ends : Alike after (leaves w (environment script 0 held))
  pub none_dropped : (perform w (environment script 0 held)).seen.1.counts.dropped ≡ 0

-- every finite legal trace of other actors that fits is some script's
pub every_environment : (w after : Authority) (held : List ℕ) (states : List Authority) (events : List Step) → Fits w → health_fits w.head (length w.health) ≡ true → Short w held
    → valid w → leases_authorized w (holds_of held) → environment_trace w after (held_ids (holds_of held)) states events
    → length events ≤ 32768 → next_serial after ≤ last_serial → (script : List ℕ) × DoneBy w after held states events script
every_environment w after held states events s g b v p r few m = (
  script,
  record {
    as_many = many;
    words = words_fit events states w after (holds_of held) r v (omega (arith, shape.few_cells)) m;
    passes = passes;
    states_are = λ i l. prefix_does w.head script (holds_of held) i (next_serial w) w.table w.health events states w after r l reading (fits_sized w s) alike_self v m;
    ends = whole.0;
    none_dropped = whole.1;
  },
)
  where
    script : List ℕ
    script = script_for events

    shape : Shaped w.head (length w.table)
    shape = shaped w.head (length w.table) s

    many : steps_in script ≡ length events
    many = div-eq_of_eq-mul_left (omega arith) (length_for events ∙ (let z : 3 * length events ≡ length events * 3 = omega arith in z))

    passes : first (rules w (environment script 0 held)) ≡ Ok tt
    passes = script_passes w script 0 held (ap not s, (ap not g, (script_formed script (ap (λ (k : ℕ). k % 3) (length_for events) ∙ mul-mod_right 3 (length events)) (omega (arith, many, few)), tt))) b (valid_leases w (holds_of held) v p) p

    reading : Reads script 0 events
    reading = subst (λ (x : List ℕ). Reads x 0 events) (append-nil script) (reads_for [] 0 events [] refl)

    alike_self : Alike w w
    alike_self = record { same = record { same_keys = refl; each = λ k i. refl }; stays = refl }

    boundary : Bounded w.head script (holds_of held) (next_serial w) 0 0 w.table w.health after (0 + length events)
    boundary =
        boundary_does w.head script (holds_of held) (next_serial w) 0 0 w.table w.health events states w after (0 + length events) r reading
        (at_end (many ∙ (let z : length events ≡ 0 + length events = omega arith in z))) (fits_sized w s) alike_self v m

    whole : Alike after (leaves w (environment script 0 held)) × ((perform w (environment script 0 held)).seen.1.counts.dropped ≡ 0)
    whole =
        by_checks (λ x. Alike after x.seen.0 × (x.seen.1.counts.dropped ≡ 0)) w (environment script 0 held) (λ _ e. absurd (fine_fault passes e))
        (λ _ _. subst (λ (y : With Flow). Alike after (of_flow w.head y) × (y.0.dropped ≡ 0)) (sym boundary.goes) (boundary.alike, refl))
