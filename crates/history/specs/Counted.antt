-- The counts: what each definition adds to attempts, boundaries, yields and dropped steps is the number of such events in its log.
use Prim.Native.Nat.{ℕ, zero, suc, ◌+◌, ◌-◌, ◌%◌}
use Rattle.std.specs.Prelude.{◌≡◌, refl, ◌&&◌, ltb, eqb, length, take, Ok, Err}
use mathlib.Core.List.{List, [], ◌∷◌, ◌++◌}
use Rattle.std.proofs.Math.Bool.{not}
use Rattle.std.proofs.Common.{arith}
use Rattle.std.proofs.Math.Dec.{leb}
use Rattle.types.specs.Checks.{Found}
use Rattle.model.specs.Log.{Made, Event, attempt_begun, yielded, released, by_caller, note, ◌>>◌}
use Rattle.model.specs.Arena.{serial_remains, header_of, is_poisoned, bit_at, owner_at, waiters_at, set_cell, state_at, is_free, is_live, is_in, hold_of}
use Rattle.model.specs.Foreign.{Setting, protecting, steps_in, kind_at, place_at, number_at, flow_of, step_take_of, step_release_of, step_waiters_of, step_health_of, step_of, run_steps_of, boundary_of}
use Rattle.model.specs.Lock.{take_in, take_of, after_take, late_stage_of, second_stage_of, lock_of, run_of, find_of, attempt_at, attempt_of, spin_of, pause_of, is_busy, retry_of, hold_at, give_back_of, rollback_of, after_key, binding_at, bucket_at, attempt_limit, none_yet, Locks, locks_of}
use Rattle.model.specs.Calls.{counts_of}
use Rattle.types.specs.declared.Counts.{Counts}
use Rattle.types.specs.declared.Flow.{Flow}
use Rattle.types.specs.declared.Hold.{Hold}
use Rattle.types.specs.declared.Locked.{Locked}
use Rattle.types.specs.declared.Outcome.{Outcome}
use Rattle.types.specs.declared.Outcome.TheVariants as outcome
use Rattle.types.specs.declared.Reason.{Reason}
use Rattle.types.specs.declared.Run.{Run}
use Rattle.types.specs.declared.State.{State}
use Rattle.types.specs.declared.State.TheVariants as state
use Rattle.types.specs.declared.Stepped.{Stepped}
use Rattle.types.specs.declared.Take.{Take}
use Rattle.types.specs.declared.Take.TheVariants as taking
use Rattle.types.specs.declared.Took.{Took}
use Rattle.types.specs.declared.Tried.{Tried}
use Rattle.choice.specs.Pick.{if_both}
use Rattle.history.specs.World.{Kind, attempts, boundaries, yields, drops, number_of_lem}

pub number_append : (k : Kind) (xs ys : List Event) → number_of_lem k (xs ++ ys) ≡ number_of_lem k xs + number_of_lem k ys
unfolding number_of_lem
number_append k [] ys = omega arith
number_append k (x ∷ xs) ys = omega (arith, number_append k xs ys)

-- what counts come to over a log
pub record Counted (p q : Counts) (es : List Event) : Type 0 where
  pub attempts_are : q.attempts ≡ p.attempts + number_of_lem attempts es
  pub boundaries_are : q.boundaries ≡ p.boundaries + number_of_lem boundaries es
  pub yields_are : q.yields ≡ p.yields + number_of_lem yields es
  pub dropped_are : q.dropped ≡ p.dropped + number_of_lem drops es

pub then_counted : {p q r : Counts} {xs ys : List Event} → Counted p q xs → Counted q r ys → Counted p r (xs ++ ys)
then_counted {xs = xs} {ys = ys} a b =
    omega (arith, number_append attempts xs ys, number_append boundaries xs ys, number_append yields xs ys, number_append drops xs ys)

pub none_counted : (p : Counts) → Counted p p []
unfolding number_of_lem
none_counted p = omega arith

abbrev pub counts : Run → Counts
counts r = counts_of r.attempts r.boundaries r.yields r.flow.dropped

-- ---- foreign steps and boundaries

-- a step counts as dropped or not at all
module _ (a b y d : ℕ) where
  -- a step on one run, and then nothing
  abbrev Lone : Made (Stepped × List ℕ) → Type 0
  Lone m = Counted (counts_of a b y d) (counts_of a b y (d + m.seen.0.dropped)) (m.log ++ [])

  abbrev Step : Made (Stepped × (List ℕ × List ℕ)) → Type 0
  Step m = Counted (counts_of a b y d) (counts_of a b y (d + m.seen.0.dropped)) m.log

  step_counted : (e : Setting) (n : ℕ) (t g : List ℕ) (kind c s : ℕ) → Step (step_of e n t g kind c s)
  unfolding step_of step_take_of step_release_of step_waiters_of step_health_of number_of_lem
  step_counted e n t g kind c s =
      if_both Step (eqb kind 0) (omega arith) (
      if_both Step (eqb kind 1) (if_both Lone (ltb c e.cells && is_free (bit_at t c) (owner_at t c) && serial_remains n) (omega arith) (omega arith)) (
      if_both Step (eqb kind 2) (if_both Lone (is_live n e.cells t (hold_of c s) && not (is_in (hold_of c s) e.protected)) (omega arith) (omega arith)) (
      if_both Step (eqb kind 3) (if_both Lone (ltb c e.cells) (omega arith) (omega arith)) (
      if_both Step (eqb kind 4) (if_both Lone (ltb c e.headers && leb s 1) (omega arith) (omega arith)) (
      if_both Step (eqb kind 5) (omega arith) (omega arith))))))

-- from b boundaries to c, over the flow that is seen
abbrev Flows : ℕ → ℕ → ℕ → ℕ → ℕ → Made (Flow × (List ℕ × List ℕ)) → Type 0
Flows a b c y d m = Counted (counts_of a b y d) (counts_of a c y m.seen.0.dropped) m.log

steps_counted : (left : ℕ) (e : Setting) (f : Flow) (t g : List ℕ) (a b y : ℕ) → Flows a b b y f.dropped (run_steps_of left e f t g)
unfolding run_steps_of number_of_lem
steps_counted zero e f t g a b y = omega arith
steps_counted (suc left) e f t g a b y =
    let kind = kind_at e.script f.place in
    let c = place_at e.script f.place in
    let n = number_at e.script f.place in
    let s = (step_of e f.next t g kind c n).seen in
    if_both (Flows a b b y f.dropped) (eqb kind 5) (omega arith)
    (then_counted (step_counted a b y f.dropped e f.next t g kind c n)
    (steps_counted left e (flow_of s.0.next (f.place + 1) (f.dropped + s.0.dropped)) s.1.0 s.1.1 a b y))

pub boundary_counted : (e : Setting) (f : Flow) (t g : List ℕ) (a b c y : ℕ) → c ≡ b + 1 → Flows a b c y f.dropped (boundary_of e f t g)
unfolding boundary_of number_of_lem
boundary_counted e f t g a b c y h = let k = steps_counted (steps_in e.script - f.place) e f t g a b y in omega arith

-- ---- a lock

-- one compare-and-set counts nothing
pub take_counted : (p : Counts) (next : ℕ) (t : List ℕ) (c : ℕ) → Counted p p (take_of next t c).log
unfolding take_of number_of_lem
take_counted p next t c = go (state_at next t c)
  where
    go : (x : State) → Counted p p (take_in x next t c).log
    go state.Damaged = omega arith
    go (state.Held owner) = omega arith
    go state.Free = if_both (λ (m : Made (Took × List ℕ)). Counted p p m.log) (serial_remains next) (omega arith) (omega arith)

-- a lock that has run `done` boundaries, with d steps dropped
module _ (a b y : ℕ) where
  abbrev Locking : ℕ → ℕ → Made (Locked × (List ℕ × List ℕ)) → Type 0
  Locking done d m = Counted (counts_of a (b + done) y d) (counts_of a (b + m.seen.0.boundaries) y m.seen.0.flow.dropped) m.log

  late_counted : (e : Setting) (buckets : ℕ) (f : Flow) (t g : List ℕ) (c s : ℕ) → Locking 2 f.dropped (late_stage_of e buckets f t g c s)
  unfolding late_stage_of number_of_lem
  late_counted e buckets f t g c s =
      let m = (boundary_of (protecting e (hold_of c s ∷ [])) f t g).seen in
      then_counted (boundary_counted (protecting e (hold_of c s ∷ [])) f t g a (b + 2) (b + 3) y (omega arith))
      (if_both (Locking 3 m.0.dropped) (is_poisoned m.1.1 (header_of buckets c)) (omega arith)
      (if_both (Locking 3 m.0.dropped) (eqb (waiters_at m.1.0 c) 0) (omega arith) (omega arith)))

  second_counted : (e : Setting) (buckets : ℕ) (f : Flow) (t g : List ℕ) (c : ℕ) → Locking 1 f.dropped (second_stage_of e buckets f t g c)
  unfolding second_stage_of
  second_counted e buckets f t g c =
      let m = (boundary_of e f t g).seen in
      let k = (take_of m.0.next m.1.0 c).seen in
      then_counted (boundary_counted e f t g a (b + 1) (b + 2) y (omega arith))
      (then_counted (take_counted (counts_of a (b + 2) y m.0.dropped) m.0.next m.1.0 c)
      (go (flow_of k.0.next m.0.place m.0.dropped) k.1 m.1.1 k.0.answer))
    where
      go : (v : Flow) (t g : List ℕ) (x : Take) → Locking 2 v.dropped (after_take x e buckets v t g c)
      go v t g (taking.Granted s) = late_counted e buckets v t g c s
      go v t g (taking.Busy owner) = none_counted (counts_of a (b + 2) y v.dropped)
      go v t g taking.Damaged = none_counted (counts_of a (b + 2) y v.dropped)
      go v t g taking.Spent = none_counted (counts_of a (b + 2) y v.dropped)

  pub lock_counted : (e : Setting) (buckets : ℕ) (f : Flow) (t g : List ℕ) (c : ℕ) → Locking 0 f.dropped (lock_of e buckets f t g c)
  unfolding lock_of
  lock_counted e buckets f t g c =
      let m = (boundary_of e f t g).seen in
      then_counted (boundary_counted e f t g a (b + 0) (b + 1) y (omega arith))
      (if_both (Locking 1 m.0.dropped) (eqb (waiters_at m.1.0 c) 0) (second_counted e buckets m.0 m.1.0 m.1.1 c)
      (none_counted (counts_of a (b + 1) y m.0.dropped)))

-- ---- attempts by key

-- from a run to the run that is seen
abbrev pub TriesCounted : Run → Made (Tried × (List ℕ × List ℕ)) → Type 0
TriesCounted r m = Counted (counts r) (counts m.seen.0.run) m.log

abbrev pub Runs : Run → Made (Run × (List ℕ × List ℕ)) → Type 0
Runs r m = Counted (counts r) (counts m.seen.0) m.log

module _ (e : Setting) where
  pub attempt_counted : (buckets : ℕ) (registry : List ℕ) (binding bucket : ℕ) (r : Run) (t g : List ℕ)
      → TriesCounted r (attempt_of e buckets registry binding bucket r t g)
  unfolding attempt_of number_of_lem
  attempt_counted buckets registry binding bucket r t g = go (find_of e.headers buckets g registry binding bucket)
    where
      begun : Counts
      begun = counts_of (r.attempts + 1) (r.boundaries + 0) r.yields r.flow.dropped

      go : (x : Found) → TriesCounted r (note attempt_begun >> attempt_at x e buckets r t g)
      go (Err x) = omega arith
      go (Ok c) =
          then_counted {q = counts_of (r.attempts + 1) (r.boundaries + 0) r.yields r.flow.dropped} {xs = attempt_begun ∷ []} (omega arith)
          (then_counted (lock_counted (r.attempts + 1) r.boundaries r.yields e buckets r.flow t g c) (none_counted _))

  spin_counted : (r : Run) (t g : List ℕ) → Runs r (spin_of e r t g)
  unfolding spin_of number_of_lem
  spin_counted r t g =
      then_counted (boundary_counted e r.flow t g r.attempts r.boundaries (r.boundaries + 1) r.yields refl) (omega arith)

  pause_counted : (i : ℕ) (r : Run) (t g : List ℕ) → Runs r (pause_of e i r t g)
  unfolding pause_of number_of_lem
  pause_counted i r t g =
      let m = (boundary_of e r.flow t g).seen in
      let k = run_of m.0 r.attempts (r.boundaries + 1) (r.yields + 1) in
      if_both (Runs r) (eqb (i % 64) 63)
      (then_counted (boundary_counted e r.flow t g r.attempts r.boundaries (r.boundaries + 1) r.yields refl)
      (then_counted {q = counts k} {xs = yielded ∷ []} (omega arith) (spin_counted k m.1.0 m.1.1)))
      (spin_counted r t g)

  module _ (buckets : ℕ) (registry : List ℕ) (binding bucket : ℕ) where
    pub retry_counted : (left i : ℕ) (last : Reason) (r : Run) (t g : List ℕ) → TriesCounted r (retry_of left i last e buckets registry binding bucket r t g)
    unfolding retry_of
    retry_counted zero i last r t g = none_counted (counts r)
    retry_counted (suc left) i last r t g =
        let m = (attempt_of e buckets registry binding bucket r t g).seen in
        let p = (pause_of e i m.0.run m.1.0 m.1.1).seen in
        then_counted (attempt_counted buckets registry binding bucket r t g)
        (if_both (TriesCounted m.0.run) (is_busy m.0.outcome)
        (then_counted (pause_counted i m.0.run m.1.0 m.1.1) (retry_counted left (i + 1) _ p.0 p.1.0 p.1.1))
        (none_counted (counts m.0.run)))

-- ---- giving back, and multi-lock

pub back_counted : (n : ℕ) (e : Setting) (ls : List Hold) (r : Run) (t g : List ℕ) → Runs r (give_back_of n e ls r t g)
unfolding give_back_of number_of_lem
back_counted zero e ls r t g = none_counted (counts r)
back_counted (suc n) e ls r t g =
    let u = set_cell t (hold_at ls n).cell 0 0 in
    let m = (boundary_of (protecting e (take n ls)) r.flow u g).seen in
    let k = run_of m.0 r.attempts (r.boundaries + 1) r.yields in
    then_counted {q = counts r} {xs = released by_caller (hold_at ls n).cell (hold_at ls n).serial ∷ []} (omega arith)
    (then_counted (boundary_counted (protecting e (take n ls)) r.flow u g r.attempts r.boundaries (r.boundaries + 1) r.yields refl)
    (back_counted n e ls k m.1.0 m.1.1))

abbrev pub Ends : Run → Made Locks → Type 0
Ends r m = Counted (counts r) (counts m.seen.0.run) m.log

module _ (e : Setting) (buckets boot : ℕ) (registry keys grants : List ℕ) where
  pub locks_counted : (left p : ℕ) (taken : List Hold) (r : Run) (t g : List ℕ) → Ends r (locks_of left p e buckets boot registry keys taken r t g grants)
  unfolding locks_of rollback_of
  locks_counted zero p taken r t g = none_counted (counts r)
  locks_counted (suc left) p taken r t g =
      let m = (retry_of attempt_limit 0 none_yet (protecting e taken) buckets registry (binding_at keys p) (bucket_at keys p) r t g).seen in
      then_counted (retry_counted (protecting e taken) buckets registry (binding_at keys p) (bucket_at keys p) attempt_limit 0 none_yet r t g)
      (go m.0.run m.1.0 m.1.1 m.0.outcome (λ l. locks_of left (p + 1) e buckets boot registry keys (taken ++ (l ∷ [])) m.0.run m.1.0 m.1.1 grants)
      (λ l. locks_counted left (p + 1) (taken ++ (l ∷ [])) m.0.run m.1.0 m.1.1))
    where
      go : (k : Run) (u w : List ℕ) (x : Outcome) (more : Hold → Made Locks) → ((l : Hold) → Ends k (more l)) → Ends k (after_key x e taken p k u w grants more)
      go k u w (outcome.Granted l) more h = h l
      go k u w (outcome.Busy why) more h = then_counted (back_counted (length taken) e taken k u w) (none_counted _)
      go k u w (outcome.Refused x) more h = then_counted (back_counted (length taken) e taken k u w) (none_counted _)
