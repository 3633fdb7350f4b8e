-- Every release is named: a script's by one of its steps, a caller's by a lease that the call was given, or that it took before in the same log.
use Prim.Native.Nat.{ℕ, zero, suc, ◌+◌, ◌-◌, ◌%◌, ◌≤◌, ◌<◌}
use Rattle.std.specs.Prelude.{◌≡◌, refl, not, ◌&&◌, ◌⊎◌, ltb, leb, eqb, length, take, Ok, Err}
use mathlib.Core.List.{List, [], ◌∷◌, ◌++◌, append-nil}
use Rattle.std.proofs.Common.{inl, inr, arith, eqb-true}
use Rattle.types.specs.Checks.{Found}
use Rattle.model.specs.Log.{Made, Event, by_caller, by_script, attempt_begun, boundary_run, yielded, spun, step_dropped, took, released, waiters_set, health_set, held_all_lem, added}
use Rattle.model.specs.Arena.{serial_remains, header_of, is_poisoned, bit_at, owner_at, waiters_at, set_cell, state_at, is_free, is_live, is_in, hold_of}
use Rattle.model.specs.Foreign.{Setting, protecting, steps_in, kind_at, place_at, number_at, flow_of, step_take_of, step_release_of, step_waiters_of, step_health_of, step_of, run_steps_of, boundary_of}
use Rattle.model.specs.Lock.{take_in, take_of, after_take, late_stage_of, second_stage_of, lock_of, outcome_of, run_of, find_of, attempt_at, attempt_of, spin_of, pause_of, is_busy, retry_of, hold_at, give_back_of, rollback_of, after_key, binding_at, bucket_at, attempt_limit, none_yet, Locks, locks_of}
use Rattle.types.specs.declared.Flow.{Flow}
use Rattle.types.specs.declared.Hold.{Hold}
use Rattle.types.specs.declared.Locked.{Locked}
use Rattle.types.specs.declared.Outcome.{Outcome}
use Rattle.types.specs.declared.Outcome.TheVariants as outcome
use Rattle.types.specs.declared.Reason.{Reason}
use Rattle.types.specs.declared.Run.{Run}
use Rattle.types.specs.declared.State.{State}
use Rattle.types.specs.declared.State.TheVariants as state
use Rattle.types.specs.declared.Stepped.{Stepped}
use Rattle.types.specs.declared.Take.{Take}
use Rattle.types.specs.declared.Take.TheVariants as taking
use Rattle.types.specs.declared.Took.{Took}
use Rattle.types.specs.declared.Tried.{Tried}
use Rattle.choice.specs.Pick.{if_both}
use Rattle.history.specs.Statements.{ByStep}
use Rattle.history.specs.Tests.{if_cases}

-- ---- a log whose releases are all named

-- leases that a caller may release, by cell and serial; and what is known of them after a log
abbrev pub Leases : Type 1
Leases = ℕ → ℕ → Type 0

abbrev pub Post : Type 1
Post = Leases → Type 0

abbrev pub any : Post
any A = Unit {0}

abbrev pub Names : List ℕ → ℕ → Leases → Event → Type 0
Names script low A attempt_begun = Unit {0}
Names script low A boundary_run = Unit {0}
Names script low A yielded = Unit {0}
Names script low A spun = Unit {0}
Names script low A step_dropped = Unit {0}
Names script low A (took a c s) = Unit {0}
Names script low A (released by_caller c s) = A c s
Names script low A (released by_script c s) = ByStep script low c s
Names script low A (waiters_set c n) = Unit {0}
Names script low A (health_set i n) = Unit {0}
Names script low A (held_all_lem m) = Unit {0}
Names script low A (added m c v) = Unit {0}

-- what a caller took it may release
abbrev pub and_took : Leases → Event → Leases
and_took A e c s = A c s ⊎ (e ≡ took by_caller c s)

abbrev Walk : List ℕ → ℕ → Leases → List Event → Post → Type 0
Walk script low A [] X = X A
Walk script low A (e ∷ es) X = Names script low A e × Walk script low (and_took A e) es X

-- from leases A on, every release of the log is named, a script's not before the place `low`; and X holds after it
pub record Accounted (script : List ℕ) (low : ℕ) (A : Leases) (es : List Event) (X : Post) : Type 0 where
  pub walk : Walk script low A es X

abbrev pub Sub : Leases → Leases → Type 0
Sub A B = (c s : ℕ) → A c s → B c s

pub none : {script : List ℕ} {low : ℕ} {A : Leases} {X : Post} → X A → Accounted script low A [] X
none x = record { walk = x }

pub more : {script : List ℕ} {low : ℕ} {A : Leases} {e : Event} {es : List Event} {X : Post} → Names script low A e → Accounted script low (and_took A e) es X → Accounted script low A (e ∷ es) X
more n k = record { walk = (n, k.walk) }

pub andthen : {script : List ℕ} {low : ℕ} {A : Leases} {xs ys : List Event} {X Y : Post}
    → Accounted script low A xs X → ((B : Leases) → Sub A B → X B → Accounted script low B ys Y) → Accounted script low A (xs ++ ys) Y
andthen {script} {low} {A} {xs} {ys} {X} {Y} k f = record { walk = go A xs k.walk f }
  where
    go : (A : Leases) (xs : List Event) → Walk script low A xs X → ((B : Leases) → Sub A B → X B → Accounted script low B ys Y) → Walk script low A (xs ++ ys) Y
    go A [] h f = (f A (λ c s a. a) h).walk
    go A (x ∷ xs) h f = (h.0, go (and_took A x) xs h.1 (λ B i. f B (λ c s a. i c s (inl a))))

-- and nothing more
pub handed : {script : List ℕ} {low : ℕ} {A : Leases} {xs : List Event} {X : Post} → Accounted script low A xs X → Accounted script low A (xs ++ []) any
handed k = andthen k (λ B i x. none tt)

-- whatever holds after it
pub accounted : {script : List ℕ} {low : ℕ} {A : Leases} {xs : List Event} {X : Post} → Accounted script low A xs X → Accounted script low A xs any
accounted {xs = xs} k = rw (append-nil xs) at (handed k)

abbrev pub WasTook : ℕ → ℕ → List Event → Type 0
WasTook c s es = (m n : List Event) × (es ≡ m ++ (took by_caller c s ∷ n))

-- what it says of a release, wherever it stands in the log
module _ {script : List ℕ} {low : ℕ} {X : Post} (c s : ℕ) where
  pub at_script : {A : Leases} {log : List Event} → Accounted script low A log X → (before after : List Event) → log ≡ before ++ (released by_script c s ∷ after) → ByStep script low c s
  at_script {A} {log} k before after e = go A before (rw e at k.walk)
    where
      go : (A : Leases) (before : List Event) → Walk script low A (before ++ (released by_script c s ∷ after)) X → ByStep script low c s
      go A [] h = h.0
      go A (x ∷ xs) h = go (and_took A x) xs h.1

  pub at_caller : {A : Leases} {log : List Event} → Accounted script low A log X → (before after : List Event) → log ≡ before ++ (released by_caller c s ∷ after) → A c s ⊎ WasTook c s before
  at_caller {A} {log} k before after e = go A before (rw e at k.walk)
    where
      longer : (A : Leases) (x : Event) (xs : List Event) → and_took A x c s ⊎ WasTook c s xs → A c s ⊎ WasTook c s (x ∷ xs)
      longer A x xs (inl (inl a)) = inl a
      longer A x xs (inl (inr e)) = inr ([], xs, rw e)
      longer A x xs (inr z) = inr (x ∷ z.0, z.1, rw z.2)

      go : (A : Leases) (before : List Event) → Walk script low A (before ++ (released by_caller c s ∷ after)) X → A c s ⊎ WasTook c s before
      go A [] h = inl h.0
      go A (x ∷ xs) h = longer A x xs (go (and_took A x) xs h.1)

-- ---- foreign steps and boundaries

-- the step at place p
step_accounted : (e : Setting) (low n : ℕ) (t g : List ℕ) (p : ℕ) (A : Leases) → low ≤ p → p < steps_in e.script
    → Accounted e.script low A (step_of e n t g (kind_at e.script p) (place_at e.script p) (number_at e.script p)).log any
unfolding step_of step_take_of step_release_of step_waiters_of step_health_of
step_accounted e low n t g p A b l =
    let kind = kind_at e.script p in
    let c = place_at e.script p in
    let s = number_at e.script p in
    let Step : Made (Stepped × (List ℕ × List ℕ)) → Type 0 = λ m. Accounted e.script low A m.log any in
    let Lone : Made (Stepped × List ℕ) → Type 0 = λ m. Accounted e.script low A (m.log ++ []) any in
    if_both Step (eqb kind 0) (none tt) (
    if_both Step (eqb kind 1) (if_both Lone (ltb c e.cells && is_free (bit_at t c) (owner_at t c) && serial_remains n) (more tt (none tt)) (more tt (none tt))) (
    if_cases Step (eqb kind 2)
    (λ two. if_both Lone (is_live n e.cells t (hold_of c s) && not (is_in (hold_of c s) e.protected)) (more (p, b, l, eqb-true kind 2 two, refl, refl) (none tt)) (more tt (none tt))) (λ _.
    if_both Step (eqb kind 3) (if_both Lone (ltb c e.cells) (more tt (none tt)) (more tt (none tt))) (
    if_both Step (eqb kind 4) (if_both Lone (ltb c e.headers && leb s 1) (more tt (none tt)) (more tt (none tt))) (
    if_both Step (eqb kind 5) (none tt) (more tt (none tt)))))))

-- from a place not before `low` to another
abbrev Flows : List ℕ → ℕ → Leases → Made (Flow × (List ℕ × List ℕ)) → Type 0
Flows script low A m = Accounted script low A m.log (λ _. low ≤ m.seen.0.place)

steps_accounted : (left : ℕ) (e : Setting) (low : ℕ) (f : Flow) (t g : List ℕ) (A : Leases) → low ≤ f.place → left ≤ steps_in e.script - f.place
    → Flows e.script low A (run_steps_of left e f t g)
unfolding run_steps_of
steps_accounted zero e low f t g A b l = none b
steps_accounted (suc left) e low f t g A b l =
    let kind = kind_at e.script f.place in
    let s = (step_of e f.next t g kind (place_at e.script f.place) (number_at e.script f.place)).seen in
    if_both (Flows e.script low A) (eqb kind 5) (none (omega arith))
    (andthen (step_accounted e low f.next t g f.place A b (omega arith))
    (λ B i _. steps_accounted left e low (flow_of s.0.next (f.place + 1) (f.dropped + s.0.dropped)) s.1.0 s.1.1 B (omega arith) (omega arith)))

pub boundary_accounted : (e : Setting) (low : ℕ) (f : Flow) (t g : List ℕ) (A : Leases) → low ≤ f.place → Flows e.script low A (boundary_of e f t g)
unfolding boundary_of
boundary_accounted e low f t g A b = more tt (steps_accounted (steps_in e.script - f.place) e low f t g (and_took A boundary_run) b (omega arith))

-- ---- a lock

-- a grant was taken
abbrev pub Given : Outcome → Post
Given (outcome.Granted l) A = A l.cell l.serial
Given (outcome.Busy why) A = Unit {0}
Given (outcome.Refused r) A = Unit {0}

pub take_accounted : (script : List ℕ) (low : ℕ) (A : Leases) (next : ℕ) (t : List ℕ) (c : ℕ)
    → Accounted script low A (take_of next t c).log (Given (outcome_of c (take_of next t c).seen.0.answer))
unfolding take_of
take_accounted script low A next t c = go (state_at next t c)
  where
    go : (x : State) → Accounted script low A (take_in x next t c).log (Given (outcome_of c (take_in x next t c).seen.0.answer))
    go state.Damaged = none tt
    go (state.Held owner) = none tt
    go state.Free = if_both (λ (m : Made (Took × List ℕ)). Accounted script low A m.log (Given (outcome_of c m.seen.0.answer))) (serial_remains next) (more tt (none (inr refl))) (none tt)

-- what is known after a lock: of its grant, and of the place
abbrev pub After : ℕ → Locked → Post
After low l A = Given l.answer A × (low ≤ l.flow.place)

abbrev pub Locking : List ℕ → ℕ → Leases → Made (Locked × (List ℕ × List ℕ)) → Type 0
Locking script low A m = Accounted script low A m.log (After low m.seen.0)

module _ (e : Setting) (buckets low : ℕ) where
  late_accounted : (f : Flow) (t g : List ℕ) (c s : ℕ) (A : Leases) → low ≤ f.place → A c s → Locking e.script low A (late_stage_of e buckets f t g c s)
  unfolding late_stage_of
  late_accounted f t g c s A b h =
      let m = (boundary_of (protecting e (hold_of c s ∷ [])) f t g).seen in
      andthen (boundary_accounted (protecting e (hold_of c s ∷ [])) low f t g A b)
      (λ B i k. if_both (Locking e.script low B) (is_poisoned m.1.1 (header_of buckets c)) (more (i c s h) (none (tt, k)))
      (if_both (Locking e.script low B) (eqb (waiters_at m.1.0 c) 0) (none (i c s h, k)) (more (i c s h) (none (tt, k)))))

  second_accounted : (f : Flow) (t g : List ℕ) (c : ℕ) (A : Leases) → low ≤ f.place → Locking e.script low A (second_stage_of e buckets f t g c)
  unfolding second_stage_of
  second_accounted f t g c A b =
      let m = (boundary_of e f t g).seen in
      let k = (take_of m.0.next m.1.0 c).seen in
      andthen (boundary_accounted e low f t g A b)
      (λ B i d. andthen (take_accounted e.script low B m.0.next m.1.0 c)
      (λ C j h. go (flow_of k.0.next m.0.place m.0.dropped) k.1 m.1.1 k.0.answer C d h))
    where
      go : (v : Flow) (t g : List ℕ) (x : Take) (C : Leases) → low ≤ v.place → Given (outcome_of c x) C → Locking e.script low C (after_take x e buckets v t g c)
      go v t g (taking.Granted s) C d h = late_accounted v t g c s C d h
      go v t g (taking.Busy owner) C d h = none (tt, d)
      go v t g taking.Damaged C d h = none (tt, d)
      go v t g taking.Spent C d h = none (tt, d)

  pub lock_accounted : (f : Flow) (t g : List ℕ) (c : ℕ) (A : Leases) → low ≤ f.place → Locking e.script low A (lock_of e buckets f t g c)
  unfolding lock_of
  lock_accounted f t g c A b =
      let m = (boundary_of e f t g).seen in
      andthen (boundary_accounted e low f t g A b)
      (λ B i k. if_both (Locking e.script low B) (eqb (waiters_at m.1.0 c) 0) (second_accounted m.0 m.1.0 m.1.1 c B k) (none (tt, k)))

-- ---- attempts by key

abbrev Trying : List ℕ → ℕ → Leases → Made (Tried × (List ℕ × List ℕ)) → Type 0
Trying script low A m = Accounted script low A m.log (λ B. Given m.seen.0.outcome B × (low ≤ m.seen.0.run.flow.place))

abbrev Running : List ℕ → ℕ → Leases → Made (Run × (List ℕ × List ℕ)) → Type 0
Running script low A m = Accounted script low A m.log (λ _. low ≤ m.seen.0.flow.place)

module _ (e : Setting) (low : ℕ) where
  pub attempt_accounted : (buckets : ℕ) (registry : List ℕ) (binding bucket : ℕ) (r : Run) (t g : List ℕ) (A : Leases) → low ≤ r.flow.place
      → Trying e.script low A (attempt_of e buckets registry binding bucket r t g)
  unfolding attempt_of
  attempt_accounted buckets registry binding bucket r t g A b = more tt (go (find_of e.headers buckets g registry binding bucket) (and_took A attempt_begun))
    where
      go : (x : Found) (B : Leases) → Trying e.script low B (attempt_at x e buckets r t g)
      go (Err x) B = none (tt, b)
      go (Ok c) B = andthen (lock_accounted e buckets low r.flow t g c B b) (λ C i h. none h)

  spin_accounted : (r : Run) (t g : List ℕ) (A : Leases) → low ≤ r.flow.place → Running e.script low A (spin_of e r t g)
  unfolding spin_of
  spin_accounted r t g A b = andthen (boundary_accounted e low r.flow t g A b) (λ B i k. more tt (none k))

  pause_accounted : (i : ℕ) (r : Run) (t g : List ℕ) (A : Leases) → low ≤ r.flow.place → Running e.script low A (pause_of e i r t g)
  unfolding pause_of
  pause_accounted i r t g A b =
      let m = (boundary_of e r.flow t g).seen in
      let k = run_of m.0 r.attempts (r.boundaries + 1) (r.yields + 1) in
      if_both (Running e.script low A) (eqb (i % 64) 63)
      (andthen (boundary_accounted e low r.flow t g A b) (λ B i d. more tt (spin_accounted k m.1.0 m.1.1 (and_took B yielded) d)))
      (spin_accounted r t g A b)

  pub retry_accounted : (buckets : ℕ) (registry : List ℕ) (binding bucket left i : ℕ) (last : Reason) (r : Run) (t g : List ℕ) (A : Leases) → low ≤ r.flow.place
      → Trying e.script low A (retry_of left i last e buckets registry binding bucket r t g)
  unfolding retry_of
  retry_accounted buckets registry binding bucket zero i last r t g A b = none (tt, b)
  retry_accounted buckets registry binding bucket (suc left) i last r t g A b =
      let m = (attempt_of e buckets registry binding bucket r t g).seen in
      let p = (pause_of e i m.0.run m.1.0 m.1.1).seen in
      andthen (attempt_accounted buckets registry binding bucket r t g A b)
      (λ B _ h. if_both (Trying e.script low B) (is_busy m.0.outcome)
      (andthen (pause_accounted i m.0.run m.1.0 m.1.1 B h.1) (λ C j d. retry_accounted buckets registry binding bucket left (i + 1) _ p.0 p.1.0 p.1.1 C d))
      (none h))

-- ---- giving back, and multi-lock

-- the first n leases of a list may be released
abbrev pub First : ℕ → List Hold → Post
First n ls A = (i : ℕ) → i < n → A (hold_at ls i).cell (hold_at ls i).serial

one_more : (A : Leases) (ls : List Hold) (l : Hold) → First (length ls) ls A → A l.cell l.serial → First (length (ls ++ (l ∷ []))) (ls ++ (l ∷ [])) A
one_more A [] l h a zero k = a
one_more A [] l h a (suc i) k = absurd (omega arith)
one_more A (x ∷ xs) l h a zero k = h zero (omega arith)
one_more A (x ∷ xs) l h a (suc i) k = one_more A xs l (λ j q. h (suc j) (omega arith)) a i (omega arith)

pub back_accounted : (n : ℕ) (e : Setting) (low : ℕ) (ls : List Hold) (r : Run) (t g : List ℕ) (A : Leases) → low ≤ r.flow.place → First n ls A
    → Accounted e.script low A (give_back_of n e ls r t g).log any
unfolding give_back_of
back_accounted zero e low ls r t g A b h = none tt
back_accounted (suc n) e low ls r t g A b h =
    let u = set_cell t (hold_at ls n).cell 0 0 in
    let m = (boundary_of (protecting e (take n ls)) r.flow u g).seen in
    let k = run_of m.0 r.attempts (r.boundaries + 1) r.yields in
    more (h n (omega arith))
    (andthen (boundary_accounted (protecting e (take n ls)) low r.flow u g _ b) (λ B i d. back_accounted n e low ls k m.1.0 m.1.1 B d (λ j q. i _ _ (inl (h j (omega arith))))))

module _ (e : Setting) (low buckets boot : ℕ) (registry keys grants : List ℕ) where
  pub locks_accounted : (left p : ℕ) (taken : List Hold) (r : Run) (t g : List ℕ) (A : Leases) → low ≤ r.flow.place → First (length taken) taken A
      → Accounted e.script low A (locks_of left p e buckets boot registry keys taken r t g grants).log any
  unfolding locks_of rollback_of
  locks_accounted zero p taken r t g A b h = none tt
  locks_accounted (suc left) p taken r t g A b h =
      let m = (retry_of attempt_limit 0 none_yet (protecting e taken) buckets registry (binding_at keys p) (bucket_at keys p) r t g).seen in
      andthen (retry_accounted (protecting e taken) low buckets registry (binding_at keys p) (bucket_at keys p) attempt_limit 0 none_yet r t g A b)
      (λ B i k. go m.0.run m.1.0 m.1.1 B (λ j q. i _ _ (h j q)) m.0.outcome
      (λ l. locks_of left (p + 1) e buckets boot registry keys (taken ++ (l ∷ [])) m.0.run m.1.0 m.1.1 grants)
      (λ l x. locks_accounted left (p + 1) (taken ++ (l ∷ [])) m.0.run m.1.0 m.1.1 B k.1 x) k.0 k.1)
    where
      go : (k : Run) (u w : List ℕ) (B : Leases) → First (length taken) taken B → (x : Outcome) (more : Hold → Made Locks)
          → ((l : Hold) → First (length (taken ++ (l ∷ []))) (taken ++ (l ∷ [])) B → Accounted e.script low B (more l).log any)
          → Given x B → low ≤ k.flow.place → Accounted e.script low B (after_key x e taken p k u w grants more).log any
      go k u w B h (outcome.Granted l) next f a d = f l (one_more B taken l h a)
      go k u w B h (outcome.Busy why) next f a d = handed (back_accounted (length taken) e low taken k u w B d h)
      go k u w B h (outcome.Refused x) next f a d = handed (back_accounted (length taken) e low taken k u w B d h)
