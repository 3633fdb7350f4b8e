-- Foreign steps, and the steps of a lock between them, as traces of upstream's steps. From any table of the right length, which every call tests,
-- with the protected leases live, which every call tests too; `valid`, as upstream asks it of the whole table, is not asked: cells may be damaged.
use Prim.Native.Nat.{ℕ, zero, suc, ◌+◌, ◌-◌, ◌%◌, ◌<◌}
use Rattle.std.proofs.Math.Path.{◌≡◌, subst}
use Rattle.std.specs.Prelude.{refl, List, [], ◌∷◌, ◌++◌, ◌⊎◌, eqb, get_or, Err}
use Rattle.std.proofs.Common.{sym, ap, inl, inr, arith}
use Rattle.types.specs.Checks.{Found}
use Rattle.model.specs.Log.{Made, Event, by_caller, released}
use Rattle.model.specs.Arena.{last_serial, cells_of, cell_number, header_of, is_poisoned, lease_of, hold_of, hold_in, waiters_at, is_in}
use Rattle.model.specs.Answers.{kind_of}
use Rattle.model.specs.Foreign.{steps_in, kind_at, place_at, number_at, run_steps_of, boundary_of, flow_of}
use Rattle.model.specs.Lock.{take_of, late_stage_of, after_take, second_stage_of, lock_of, outcome_of, answer_of, attempt_at, attempt_of, spin_of, pause_of, is_busy, retry_of, run_of}
use Rattle.model.specs.Calls.{given, acquire_of}
use Rattle.types.specs.declared.Flow.{Flow}
use Rattle.types.specs.declared.Head.{Head}
use Rattle.types.specs.declared.Hold.{Hold}
use Rattle.types.specs.declared.Lease.{Lease}
use Rattle.types.specs.declared.Locked.{Locked}
use Rattle.types.specs.declared.Outcome.TheVariants as outcome
use Rattle.types.specs.declared.Reason.{Reason}
use Rattle.types.specs.declared.Run.{Run}
use Rattle.types.specs.declared.Take.{Take}
use Rattle.types.specs.declared.Take.TheVariants as taking
use Rattle.types.specs.declared.Tried.{Tried}
use Rattle.choice.specs.Pick.{if_both}
use Rattle.history.specs.World as world
use Rattle.history.specs.World.{Live}
use Rattle.history.specs.Events.{lives}
use Rattle.history.specs.Tests.{differ, holds_equal, In, in_first, in_cases, in_left, in_right, in_either}
use Rattle.history.specs.Logs.{Kept}
use Rattle.history.specs.Steps.{world_at, With, of_flow, of_locked, of_run, of_tried}
use Rattle.history.proofs.Steps.{step_kept}
use Rattle.laws.specs.Keys.{place_inside}
use Rattle.upstream.specs.Vocabulary.{Authority, Acquires, Leases, next_serial, cells, authorized, Step, Acquire, Release, step, releases}
use Rattle.upstream.specs.Protocol.{Trace, ended, first}
use Rattle.upstream.proofs.Protocol.{join, loosen}
use Rattle.upstream.specs.Bridge.{Sized}
use Rattle.upstream.proofs.Bridge.{live_authorized, trace_live, grants_live, sized_now, lawful_trace, event_step}
use Rattle.upstream.specs.Keys.{Finds, bad_header, poisoned, bad_bucket, at, finds}
use Rattle.upstream.specs.TryAcquire.{Tries}
use Rattle.upstream.proofs.TryAcquire.{acquired, tries_some, tries_none, tries_sized}

-- ---- a way from one state to another

pub record Goes (protected : Leases) (before after : Authority) : Type 0 where
  pub trace : Trace protected before after
  pub sized : Sized after

module _ {P : Leases} where
  pub stays : {w : Authority} → Sized w → Goes P w w
  stays {w} z = record { trace = ended w; sized = z }

  pub then : {w v u : Authority} → Goes P w v → Goes P v u → Goes P w u
  then a b = record { trace = join a.trace b.trace; sized = b.sized }

  -- one step
  pub moved : (w v : Authority) (e : Step) → step w v e → ((l : Hold) → P l → releases e l.cell l.serial → ⊥) → Sized v → Goes P w v
  moved w v e x n z = record { trace = first w v v e x n (ended v); sized = z }

  pub fewer : {Q : Leases} {w v : Authority} → ((l : Hold) → Q l → P l) → Goes P w v → Goes Q w v
  fewer f a = record { trace = loosen f a.trace; sized = a.sized }

  kept_goes : {w v : Authority} {log : List Event} → Sized w → ((l : Hold) → P l → Live w l) → Kept w P v log → Goes P w v
  kept_goes {w} {v} {log} z p k =
      record {
        trace = subst (Trace P w) (sym k.leads) (lawful_trace P w log z k.lawful (λ l i. k.spares l i (p l i)));
        sized = subst Sized (sym k.leads) (sized_now w log z);
      }

-- what steps are given: the right length, and the protected leases live
pub record Ready (P : Leases) (w : Authority) : Type 0 where
  pub sized : Sized w
  pub safe : (l : Hold) → P l → Live w l

pub ready : {P : Leases} {w v : Authority} → Ready P w → Goes P w v → Ready P v
ready r g = record { sized = g.sized; safe = trace_live g.trace r.safe }

-- ---- boundaries

module _ (h : Head) (script : List ℕ) where
  steps_go : (left : ℕ) (ps : List Hold) (f : Flow) (t g : List ℕ) → Ready (In ps) (world_at h f.next t g)
      → Goes (In ps) (world_at h f.next t g) (of_flow h (run_steps_of left (given h script ps) f t g).seen)
  unfolding run_steps_of
  steps_go zero ps f t g r = stays r.sized
  steps_go (suc left) ps f t g r =
      let kind = kind_at script f.place in
      let one = kept_goes r.sized r.safe (step_kept h script ps f.next t g kind (place_at script f.place) (number_at script f.place)).kept in
      if_both (λ (m : Made (With Flow)). Goes (In ps) (world_at h f.next t g) (of_flow h m.seen)) (eqb kind 5) (stays r.sized)
      (then one (steps_go left ps _ _ _ (ready r one)))

  pub boundary_goes : (ps : List Hold) (f : Flow) (t g : List ℕ) → Ready (In ps) (world_at h f.next t g)
      → Goes (In ps) (world_at h f.next t g) (of_flow h (boundary_of (given h script ps) f t g).seen)
  unfolding boundary_of
  boundary_goes ps f t g r = steps_go (steps_in script - f.place) ps f t g r

  -- ---- a lock: where it goes, and that what it grants is authorized

  pub record Locks (P : Leases) (w : Authority) (a : With Locked) : Type 0 where
    pub goes : Goes P w (of_locked h a)
    pub gain : (l : Hold) → a.0.answer ≡ outcome.Granted l → authorized (of_locked h a) l

  -- the same of a definition of the model
  abbrev Locking : Leases → Authority → Made (With Locked) → Type 0
  Locking P w m = Locks P w m.seen

  late_goes : (ps : List Hold) (f : Flow) (t g : List ℕ) (c s : ℕ) → Ready (In ps) (world_at h f.next t g) → Live (world_at h f.next t g) (hold_of c s)
      → ((l : Hold) → In ps l → l ≡ hold_of c s → ⊥) → Locks (In ps) (world_at h f.next t g) (late_stage_of (given h script ps) h.buckets f t g c s).seen
  unfolding late_stage_of is_in
  late_goes ps f t g c s r a apart =
      if_both (Locking (In ps) w) (is_poisoned m.1.1 (header_of h.buckets c)) (record { goes = back; gain = λ x e. let q : ◌≡◌ {A = ℕ} 0 1 = cc in absurd (omega arith) })
      (if_both (Locking (In ps) w) (eqb (waiters_at m.1.0 c) 0)
      (record { goes = fewer (λ l i. in_left l ps (new ∷ []) i) b; gain = λ x e. let q : new ≡ x = cc in subst (authorized (of_flow h m)) q (live_authorized (of_flow h m) new still) })
      (record { goes = back; gain = λ x e. let q : ◌≡◌ {A = ℕ} 0 1 = cc in absurd (omega arith) }))
    where
      w : Authority
      w = world_at h f.next t g

      new : Hold
      new = hold_of c s

      event : Event
      event = released by_caller c s

      m : With Flow
      m = (boundary_of (given h script (ps ++ (new ∷ []))) f t g).seen

      safe : (l : Hold) → In ps l ⊎ In (new ∷ []) l → Live w l
      safe l (inl i) = r.safe l i
      safe l (inr i) = elim (in_cases new l [] i) [ inl e ↦ subst (Live w) e a | inr z ↦ absurd (differ z) ]

      both : Ready (In (ps ++ (new ∷ []))) w
      both = record { sized = r.sized; safe = λ l i. safe l (in_either l ps (new ∷ []) i) }

      b : Goes (In (ps ++ (new ∷ []))) w (of_flow h m)
      b = boundary_goes (ps ++ (new ∷ [])) f t g both

      r' : Ready (In (ps ++ (new ∷ []))) (of_flow h m)
      r' = ready both b

      still : Live (of_flow h m) new
      still = r'.safe new (in_right new ps (new ∷ []) (in_first new []))

      -- the new lease given back
      back : Goes (In ps) w (world.after_event (of_flow h m) event)
      back =
          then (fewer (λ l i. in_left l ps (new ∷ []) i) b)
          (moved (of_flow h m) (world.after_event (of_flow h m) event) (Release c s) (event_step (of_flow h m) event b.sized still)
          (λ l i x. apart l i (holds_equal l new (sym x.0) (sym x.1))) (sized_now (of_flow h m) (event ∷ []) b.sized))

  -- after the compare-and-set: `u` is the state before it
  after_goes : (ps : List Hold) (u : Authority) (a : Take) (f : Flow) (t g : List ℕ) (c : ℕ) → Ready (In ps) u
      → Tries (Unit {0}) u c (answer_of u.head.boot (outcome_of c a)) (world_at h f.next t g)
      → Locks (In ps) u (after_take a (given h script ps) h.buckets f t g c).seen
  after_goes ps u (taking.Granted s) f t g c r x =
      record { goes = then one late.goes; gain = late.gain }
    where
      w : Authority
      w = world_at h f.next t g

      grant : (lease_of c s u.head.boot ≡ lease_of c (next_serial u) u.head.boot) × Acquires u w c (next_serial u) × (next_serial u < last_serial)
      grant = tries_some x (lease_of c s u.head.boot) refl

      one : Goes (In ps) u w
      one = moved u w (Acquire c (next_serial u)) grant.1 (λ l i x. x) (tries_sized x r.sized)

      late : Locks (In ps) w (late_stage_of (given h script ps) h.buckets f t g c s).seen
      late =
          late_goes ps f t g c s (ready r one) (subst (λ (k : Lease). Live w (hold_in k)) (sym grant.0) (grants_live u w c grant.1))
          (λ l i e. omega (arith, (lives u l (r.safe l i)).bit_is, ap (λ (k : Hold). (cells u k.cell).bit) e, grant.1.unlocked))
  after_goes ps u (taking.Busy owner) f t g c r x =
      record { goes = subst (Goes (In ps) u) (sym (tries_none x (λ l e. omega (arith, ap kind_of e)))) (stays r.sized); gain = λ s e. let q : ◌≡◌ {A = ℕ} 0 1 = cc in absurd (omega arith) }
  after_goes ps u taking.Damaged f t g c r x =
      record { goes = subst (Goes (In ps) u) (sym (tries_none x (λ l e. omega (arith, ap kind_of e)))) (stays r.sized); gain = λ s e. let q : ◌≡◌ {A = ℕ} 0 1 = cc in absurd (omega arith) }
  after_goes ps u taking.Spent f t g c r x =
      record { goes = subst (Goes (In ps) u) (sym (tries_none x (λ l e. omega (arith, ap kind_of e)))) (stays r.sized); gain = λ s e. let q : ◌≡◌ {A = ℕ} 0 1 = cc in absurd (omega arith) }

  second_goes : (ps : List Hold) (f : Flow) (t g : List ℕ) (c : ℕ) → Ready (In ps) (world_at h f.next t g) → c < cells_of h
      → Locks (In ps) (world_at h f.next t g) (second_stage_of (given h script ps) h.buckets f t g c).seen
  unfolding second_stage_of acquire_of
  second_goes ps f t g c r i =
      let m = (boundary_of (given h script ps) f t g).seen in
      let b = boundary_goes ps f t g r in
      let r' = ready r b in
      let k = (take_of m.0.next m.1.0 c).seen in
      let x = acquired (Unit {0}) 1 (of_flow h m) c b.sized i in
      let l = after_goes ps (of_flow h m) k.0.answer (flow_of k.0.next m.0.place m.0.dropped) k.1 m.1.1 c r' x in
      record { goes = then b l.goes; gain = l.gain }

  pub lock_goes : (ps : List Hold) (f : Flow) (t g : List ℕ) (c : ℕ) → Ready (In ps) (world_at h f.next t g) → c < cells_of h
      → Locks (In ps) (world_at h f.next t g) (lock_of (given h script ps) h.buckets f t g c).seen
  unfolding lock_of
  lock_goes ps f t g c r i =
      let m = (boundary_of (given h script ps) f t g).seen in
      let b = boundary_goes ps f t g r in
      if_both (Locking (In ps) (world_at h f.next t g)) (eqb (waiters_at m.1.0 c) 0)
      (let l = second_goes ps m.0 m.1.0 m.1.1 c (ready r b) i in record { goes = then b l.goes; gain = l.gain })
      (record { goes = b; gain = λ s e. let q : ◌≡◌ {A = ℕ} 0 1 = cc in absurd (omega arith) })

  -- ---- attempts by key: what is granted is authorized

  pub record Attempts (P : Leases) (w : Authority) (a : With Tried) : Type 0 where
    pub goes : Goes P w (of_tried h a)
    pub gain : (l : Hold) → a.0.outcome ≡ outcome.Granted l → authorized (of_tried h a) l

  pub attempt_goes : (ps : List Hold) (registry : List ℕ) (binding bucket : ℕ) (r : Run) (t g : List ℕ) → Ready (In ps) (world_at h r.flow.next t g)
      → Attempts (In ps) (world_at h r.flow.next t g) (attempt_of (given h script ps) h.buckets registry binding bucket r t g).seen
  unfolding attempt_of
  attempt_goes ps registry binding bucket r t g k = go (finds h.headers h.buckets g registry binding bucket)
    where
      none : {x : _} → Attempts (In ps) (world_at h r.flow.next t g) (attempt_at (Err x) (given h script ps) h.buckets r t g).seen
      none = record { goes = stays k.sized; gain = λ l e. let q : ◌≡◌ {A = ℕ} 0 1 = cc in absurd (omega arith) }

      go : {x : Found} → Finds h.headers h.buckets g registry binding bucket x
          → Attempts (In ps) (world_at h r.flow.next t g) (attempt_at x (given h script ps) h.buckets r t g).seen
      go (bad_header p) = none
      go (poisoned p q) = none
      go (bad_bucket p q s) = none
      go (at p q s) =
          let c = cell_number h.buckets (get_or registry binding 0) bucket in
          let m = lock_goes ps r.flow t g c k (place_inside h.headers h.buckets (get_or registry binding 0) bucket p s) in
          record { goes = m.goes; gain = m.gain }

  pub spin_goes : (ps : List Hold) (r : Run) (t g : List ℕ) → Ready (In ps) (world_at h r.flow.next t g)
      → Goes (In ps) (world_at h r.flow.next t g) (of_run h (spin_of (given h script ps) r t g).seen)
  unfolding spin_of
  spin_goes ps r t g k = boundary_goes ps r.flow t g k

  pause_goes : (ps : List Hold) (i : ℕ) (r : Run) (t g : List ℕ) → Ready (In ps) (world_at h r.flow.next t g)
      → Goes (In ps) (world_at h r.flow.next t g) (of_run h (pause_of (given h script ps) i r t g).seen)
  unfolding pause_of
  pause_goes ps i r t g k =
      let m = (boundary_of (given h script ps) r.flow t g).seen in
      let b = boundary_goes ps r.flow t g k in
      if_both (λ (x : Made (With Run)). Goes (In ps) (world_at h r.flow.next t g) (of_run h x.seen)) (eqb (i % 64) 63)
      (then b (spin_goes ps (run_of m.0 r.attempts (r.boundaries + 1) (r.yields + 1)) m.1.0 m.1.1 (ready k b)))
      (spin_goes ps r t g k)

  pub retry_goes : (left i : ℕ) (last : Reason) (ps : List Hold) (registry : List ℕ) (binding bucket : ℕ) (r : Run) (t g : List ℕ) → Ready (In ps) (world_at h r.flow.next t g)
      → Attempts (In ps) (world_at h r.flow.next t g) (retry_of left i last (given h script ps) h.buckets registry binding bucket r t g).seen
  unfolding retry_of
  retry_goes zero i last ps registry binding bucket r t g k = record { goes = stays k.sized; gain = λ l e. let q : ◌≡◌ {A = ℕ} 0 1 = cc in absurd (omega arith) }
  retry_goes (suc left) i last ps registry binding bucket r t g k =
      let m = (attempt_of (given h script ps) h.buckets registry binding bucket r t g).seen in
      let a = attempt_goes ps registry binding bucket r t g k in
      let p = (pause_of (given h script ps) i m.0.run m.1.0 m.1.1).seen in
      let b = pause_goes ps i m.0.run m.1.0 m.1.1 (ready k a.goes) in
      let again = retry_goes left (i + 1) _ ps registry binding bucket p.0 p.1.0 p.1.1 (ready (ready k a.goes) b) in
      if_both (λ (x : Made (With Tried)). Attempts (In ps) (world_at h r.flow.next t g) x.seen) (is_busy m.0.outcome)
      (record { goes = then a.goes (then b again.goes); gain = again.gain })
      (record { goes = a.goes; gain = a.gain })
