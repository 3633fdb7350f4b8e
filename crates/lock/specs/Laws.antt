-- Laws of one try_lock: past the script's end it is the quiet one, of a healthy header; what its flow and its boundaries
-- keep.
use Rattle.std.specs.Prelude.{ℕ, ◌≤◌, ◌≡◌, Bool, get_or, if◌then◌else◌, None}
use Rattle.std.proofs.Math.Path.{refl}
use Rattle.std.proofs.Common.{ap, ◌∙◌}
use mathlib.Core.List.{List, [], ◌∷◌}
use Rattle.std.proofs.Math.Bool.{true, false}
use native.Mathlib.Omega.{arith}
use Rattle.std.proofs.Math.Dec.{eqb}
use borrow.Author.Tests.{eq-eqb, eqb-true}
use Rattle.model.specs.Log.{Made}
use Rattle.model.specs.Arena.{hold_of, header_of, is_poisoned, waiters_at, set_cell, head_of, state_at, serial_remains}
use Rattle.model.specs.Foreign.{Setting, protecting, flow_of, steps_in, boundary_of}
use Rattle.model.specs.Lock.{take_in, take_of, took_of, outcome_of, late_stage_of, after_take, second_stage_of, lock_of, locked_of}
use Rattle.types.specs.declared.Flow.{Flow}
use Rattle.types.specs.declared.Locked.{Locked}
use Rattle.types.specs.declared.Outcome.{Outcome}
use Rattle.types.specs.declared.Outcome.TheVariants as outcome
use Rattle.types.specs.declared.Reason.TheVariants as reason
use Rattle.types.specs.declared.State.{State}
use Rattle.types.specs.declared.State.TheVariants as state
use Rattle.types.specs.declared.Take.{Take}
use Rattle.types.specs.declared.Take.TheVariants as taking
use Rattle.types.specs.declared.Took.{Took}
use Rattle.choice.specs.Pick.{if_both}
use Rattle.laws.specs.Words.{waiters_set_cell}
use Rattle.lease.specs.Model.{claim_at_of}
use Rattle.foreign.specs.Laws.{FlowBound, boundary_quiet, boundary_flow_bound}
use Rattle.lock.specs.Model.{boundaries_for, quiet_take, quiet_lock_of, quiet_outcome_of, quiet_by, quiet_take_of, locked_by, gave_up}

-- ---- past the script's end

-- a compare-and-set leaves all waiters alone
module _ (next : ℕ) (t : List ℕ) (c d : ℕ) where
  abbrev Alone : Made (Took × List ℕ) → Type 0
  Alone m = waiters_at m.seen.1 d ≡ waiters_at t d

  take_in_lem : (s : State) → Alone (take_in s next t c)
  take_in_lem state.Damaged = refl
  take_in_lem (state.Held o) = refl
  take_in_lem state.Free = if_both Alone (serial_remains next) (waiters_set_cell t c 1 next d) refl

  take_waiters : waiters_at (take_of next t c).seen.1 d ≡ waiters_at t d
  unfolding take_of
  take_waiters = take_in_lem (state_at next t c)

module _ (e : Setting) (buckets : ℕ) (g : List ℕ) (c : ℕ) (healthy : get_or g (header_of buckets c) 0 ≡ 0) where
  late_quiet : (f : Flow) (t : List ℕ) (s : ℕ) → steps_in e.script ≤ f.place → waiters_at t c ≡ 0
      → (late_stage_of e buckets f t g c s).seen ≡ (locked_of f 3 (outcome.Granted (hold_of c s)), (t, g))
  unfolding late_stage_of
  late_quiet f t s l w = rw (boundary_quiet (protecting e (hold_of c s ∷ [])) f t g l, eq-eqb _ _ healthy, eq-eqb _ _ w)

  after_quiet : (a : Take) (f : Flow) (t : List ℕ) → steps_in e.script ≤ f.place → waiters_at t c ≡ 0
      → (after_take a e buckets f t g c).seen ≡ (locked_of f (boundaries_for a) (outcome_of c a), (t, g))
  after_quiet (taking.Granted s) f t l w = late_quiet f t s l w
  after_quiet (taking.Busy owner) f t l w = refl
  after_quiet taking.Damaged f t l w = refl
  after_quiet taking.Spent f t l w = refl

  abbrev beside : Locked × List ℕ → Locked × (List ℕ × List ℕ)
  beside k = (k.0, (k.1, g))

  second_quiet : (f : Flow) (t : List ℕ) → steps_in e.script ≤ f.place → waiters_at t c ≡ 0
      → (second_stage_of e buckets f t g c).seen ≡ beside (quiet_take f c (take_of f.next t c).seen)
  unfolding second_stage_of
  second_quiet f t l w =
      let k = (take_of f.next t c).seen in
      rw (boundary_quiet e f t g l) (after_quiet k.0.answer (flow_of k.0.next f.place f.dropped) k.1 l (take_waiters f.next t c c ∙ w))

  -- it is the quiet one
  pub lock_quiet : (f : Flow) (t : List ℕ) → steps_in e.script ≤ f.place → (lock_of e buckets f t g c).seen ≡ beside (quiet_lock_of f t c)
  unfolding lock_of quiet_lock_of
  lock_quiet f t l = rw (boundary_quiet e f t g l) (go (eqb (waiters_at t c) 0) refl)
    where
      go : (b : Bool) → eqb (waiters_at t c) 0 ≡ b
          → (if b then second_stage_of e buckets f t g c else record { seen = (locked_of f 1 (outcome.Busy reason.Before), (t, g)); log = [] }).seen
          ≡ beside (if b then quiet_take f c (take_of f.next t c).seen else (locked_of f 1 (outcome.Busy reason.Before), t))
      go true w = second_quiet f t l (eqb-true _ _ w)
      go false w = refl

-- the quiet one, by the compare-and-set's answer
pub quiet_is : (f : Flow) (t : List ℕ) (c : ℕ) → quiet_lock_of f t c ≡ locked_by c (quiet_take_of f t c)
unfolding quiet_lock_of quiet_take_of
quiet_is f t c = go (eqb (waiters_at t c) 0)
  where
    go : (b : Bool) → (if b then quiet_take f c (take_of f.next t c).seen else (locked_of f 1 (outcome.Busy reason.Before), t))
        ≡ locked_by c (if b then quiet_by f (take_of f.next t c).seen else (record { flow = f; boundaries = 1; answer = None }, t))
    go true = refl
    go false = refl

-- ---- what a try_lock keeps: drops stay flow-bound by steps, and it has at most three boundaries

pub record LockedBound (steps : ℕ) (k : Locked) : Type 0 where
  pub flow_bound : FlowBound steps k.flow
  pub few : k.boundaries ≤ 3

module _ (e : Setting) (buckets c : ℕ) where
  abbrev Kept : Made (Locked × (List ℕ × List ℕ)) → Type 0
  Kept m = LockedBound (steps_in e.script) m.seen.0

  late_kept : (f : Flow) (t g : List ℕ) (s : ℕ) → FlowBound (steps_in e.script) f → Kept (late_stage_of e buckets f t g c s)
  unfolding late_stage_of
  late_kept f t g s b =
      let q = protecting e (hold_of c s ∷ []) in
      let p = boundary_flow_bound _ q f t g refl b in
      let o = (boundary_of q f t g).seen in
      if_both Kept (is_poisoned o.1.1 (header_of buckets c)) (record { flow_bound = p; few = omega arith })
      (if_both Kept (eqb (waiters_at o.1.0 c) 0) (record { flow_bound = p; few = omega arith }) (record { flow_bound = p; few = omega arith }))

  after_kept : (a : Take) (f : Flow) (t g : List ℕ) → FlowBound (steps_in e.script) f → Kept (after_take a e buckets f t g c)
  after_kept (taking.Granted s) f t g b = late_kept f t g s b
  after_kept (taking.Busy owner) f t g b = record { flow_bound = b; few = omega arith }
  after_kept taking.Damaged f t g b = record { flow_bound = b; few = omega arith }
  after_kept taking.Spent f t g b = record { flow_bound = b; few = omega arith }

  second_kept : (f : Flow) (t g : List ℕ) → FlowBound (steps_in e.script) f → Kept (second_stage_of e buckets f t g c)
  unfolding second_stage_of
  second_kept f t g b =
      let o = (boundary_of e f t g).seen in
      let p = boundary_flow_bound o e f t g refl b in
      let k = (take_of o.0.next o.1.0 c).seen in
      after_kept k.0.answer (flow_of k.0.next o.0.place o.0.dropped) k.1 o.1.1 (record { few = p.few; in_script = p.in_script })

  lock_kept : (f : Flow) (t g : List ℕ) → FlowBound (steps_in e.script) f → Kept (lock_of e buckets f t g c)
  unfolding lock_of
  lock_kept f t g b =
      let o = (boundary_of e f t g).seen in
      let p = boundary_flow_bound o e f t g refl b in
      if_both Kept (eqb (waiters_at o.1.0 c) 0) (second_kept o.0 o.1.0 o.1.1 p) (record { flow_bound = p; few = omega arith })

-- as a caller has it
pub lock_locked_bound : (o : Locked × (List ℕ × List ℕ)) (e : Setting) (buckets : ℕ) (f : Flow) (t g : List ℕ) (c : ℕ)
    → o ≡ (lock_of e buckets f t g c).seen → FlowBound (steps_in e.script) f → LockedBound (steps_in e.script) o.0
lock_locked_bound o e buckets f t g c q b = rw q (lock_kept e buckets c f t g b)

-- the compare-and-set as the code makes it, on a whole head
pub take_claim : (headers buckets boot next : ℕ) (t : List ℕ) (c : ℕ)
    → (take_of next t c).seen ≡ (took_of (claim_at_of (head_of headers buckets next boot) t c).0.head.next (claim_at_of (head_of headers buckets next boot) t c).0.answer, (claim_at_of (head_of headers buckets next boot) t c).1)
unfolding claim_at_of
take_claim headers buckets boot next t c = refl

-- a lease given up leaves the health alone
pub gave_up_lem : (k : Locked × List ℕ) (f : Flow) (t g : List ℕ) (c : ℕ) (o : Outcome) → k ≡ gave_up f t c o
    → ◌≡◌ {A = Locked × (List ℕ × List ℕ)} (k.0, (k.1, g)) (locked_of f 3 o, (set_cell t c 0 0, g))
unfolding gave_up
gave_up_lem k f t g c o e = ap (λ (l : Locked × List ℕ). (l.0, (l.1, g))) e
