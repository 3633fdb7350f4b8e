-- Each definition of the model, from a boundary to multi-lock, uses up its script as `Consumed` says.
use Prim.Native.Nat.{ℕ, zero, suc, ◌+◌, ◌-◌, ◌%◌, ◌≤◌, ◌<◌}
use Rattle.std.specs.Prelude.{◌≡◌, refl, true, eqb, length, Ok, Err}
use Rattle.std.proofs.Math.Path.{subst}
use mathlib.Core.List.{List, [], ◌∷◌, ◌++◌, append-nil, append_assoc}
use native.Mathlib.Omega.{arith}
use Rattle.std.proofs.Math.ListN.{take}
use Rattle.std.proofs.Common.{take-suc, eqb-true}
use Rattle.std.proofs.Math.Seq.{take-length}
use Rattle.std.proofs.lemmas.Bool.{eqb-false}
use Rattle.types.specs.Checks.{Found}
use Rattle.model.specs.Log.{Made, Event, boundary_run}
use Rattle.model.specs.Arena.{serial_remains, header_of, is_poisoned, hold_of, hold_in, holds_of, waiters_at, set_cell, state_at}
use Rattle.model.specs.Foreign.{steps_in, kind_at, place_at, number_at, flow_of, step_of, run_steps_of, boundary_of}
use Rattle.model.specs.Lock.{take_in, take_of, late_stage_of, after_take, second_stage_of, lock_of, outcome_of, run_of, find_of, attempt_at, attempt_of, spin_of, pause_of, is_busy, retry_of, attempt_limit, none_yet, no_hold, hold_at, give_back_of, Locks, rollback_of, after_key, binding_at, bucket_at, locks_of}
use Rattle.model.specs.Calls.{given}
use Rattle.types.specs.declared.Answer.{Answer}
use Rattle.types.specs.declared.Answer.TheVariants.{Done, Cell, Granted, AllGranted, Busy, Refused, RefusedAt}
use Rattle.types.specs.declared.Flow.{Flow}
use Rattle.types.specs.declared.Head.{Head}
use Rattle.types.specs.declared.Hold.{Hold}
use Rattle.types.specs.declared.Locked.{Locked}
use Rattle.types.specs.declared.Outcome.{Outcome}
use Rattle.types.specs.declared.Outcome.TheVariants as outcome
use Rattle.types.specs.declared.Reason.{Reason}
use Rattle.types.specs.declared.Refusal.{Refusal}
use Rattle.types.specs.declared.Refusal.TheVariants.{SerializationFailure}
use Rattle.types.specs.declared.Run.{Run}
use Rattle.types.specs.declared.State.{State}
use Rattle.types.specs.declared.State.TheVariants as state
use Rattle.types.specs.declared.Take.{Take}
use Rattle.types.specs.declared.Take.TheVariants as taking
use Rattle.types.specs.declared.Took.{Took}
use Rattle.types.specs.declared.Tried.{Tried}
use Rattle.choice.specs.Pick.{if_both}
use Rattle.laws.specs.Lists.{words_back}
use Rattle.history.specs.World.{World}
use Rattle.history.specs.Tests.{differ, if_cases}
use Rattle.history.specs.Steps.{With, world_at, of_flow, of_locked, of_run, of_tried, of_took}
use Rattle.history_exact.specs.Script.{Boundary, at_end, at_five, one_step, attempts_one, yields_once, spins, Consumed, at_rest, counts, takes, gives_up, boundary}
use Rattle.history_exact.specs.ForeignSteps.{step_is}
use Rattle.history_exact.specs.Consuming.{follow}

-- nothing is known of the caller's own events
abbrev pub Any : World → Event → Type 0
Any w e = Unit {0}

-- what an outcome adds to the protected leases
abbrev pub held_after : List Hold → Outcome → List Hold
held_after ps (outcome.Granted l) = ps ++ (l ∷ [])
held_after ps (outcome.Busy why) = ps
held_after ps (outcome.Refused r) = ps

-- what multi-lock holds afterwards
abbrev pub granted_after : List Hold → Answer → List ℕ → List Hold
granted_after ps Done b = ps
granted_after ps (Cell c) b = ps
granted_after ps (Granted l) b = ps ++ (hold_in l ∷ [])
granted_after ps AllGranted b = ps ++ holds_of b
granted_after ps (Busy why) b = ps
granted_after ps (Refused r) b = ps
granted_after ps (RefusedAt r p) b = ps

module _ (h : Head) (script : List ℕ) where
  -- ---- boundaries

  abbrev Bounded : List Hold → Flow → List ℕ → List ℕ → Made (With Flow) → Type 0
  Bounded ps f t g m = Boundary script ps f.place f.dropped (world_at h f.next t g) m.seen.0.place m.seen.0.dropped (of_flow h m.seen) m.log

  steps_bounded : (left : ℕ) (ps : List Hold) (f : Flow) (t g : List ℕ) → left ≡ steps_in script - f.place → Bounded ps f t g (run_steps_of left (given h script ps) f t g)
  unfolding run_steps_of
  steps_bounded zero ps f t g l = let i : steps_in script ≤ f.place = omega arith in at_end i
  steps_bounded (suc left) ps f t g l =
      let i : f.place < steps_in script = omega arith in
      let kind = kind_at script f.place in
      let o = (step_of (given h script ps) f.next t g kind (place_at script f.place) (number_at script f.place)).seen in
      if_cases (Bounded ps f t g) (eqb kind 5) (λ e. at_five i (eqb-true _ _ e))
      (λ e. one_step i (eqb-false _ _ e) (step_is h script ps f.next t g kind (place_at script f.place) (number_at script f.place))
      (steps_bounded left ps (flow_of o.0.next (f.place + 1) (f.dropped + o.0.dropped)) o.1.0 o.1.1 (omega arith)))

  -- from a flow and a table to another
  abbrev Goes : List Hold → Flow → List ℕ → List ℕ → List Hold → Flow → World → List Event → Type 0
  Goes ps f t g rs k v es = Consumed Any script ps f.place f.dropped (world_at h f.next t g) rs k.place k.dropped v es

  abbrev Flowing : List Hold → Flow → List ℕ → List ℕ → Made (With Flow) → Type 0
  Flowing ps f t g m = Goes ps f t g ps m.seen.0 (of_flow h m.seen) m.log

  pub boundary_consumed : (ps : List Hold) (f : Flow) (t g : List ℕ) → Flowing ps f t g (boundary_of (given h script ps) f t g)
  unfolding boundary_of
  boundary_consumed ps f t g =
      let m = run_steps_of (steps_in script - f.place) (given h script ps) f t g in
      subst (λ (es : List Event). Goes ps f t g ps m.seen.0 (of_flow h m.seen) (boundary_run ∷ es)) (append-nil m.log)
      (boundary (steps_bounded (steps_in script - f.place) ps f t g refl) at_rest)

  -- ---- a lock

  abbrev Locking : List Hold → List Hold → Flow → List ℕ → List ℕ → Made (With Locked) → Type 0
  Locking qs ps f t g m = Goes qs f t g (held_after ps m.seen.0.answer) m.seen.0.flow (of_locked h m.seen) m.log

  late_consumed : (ps : List Hold) (buckets : ℕ) (f : Flow) (t g : List ℕ) (c s : ℕ) → Locking (ps ++ (hold_of c s ∷ [])) ps f t g (late_stage_of (given h script ps) buckets f t g c s)
  unfolding late_stage_of
  late_consumed ps buckets f t g c s =
      let qs = ps ++ (hold_of c s ∷ []) in
      let m = (boundary_of (given h script qs) f t g).seen in
      follow (boundary_consumed qs f t g)
      (if_both (Locking qs ps m.0 m.1.0 m.1.1) (is_poisoned m.1.1 (header_of buckets c)) (gives_up (hold_of c s) tt at_rest)
      (if_both (Locking qs ps m.0 m.1.0 m.1.1) (eqb (waiters_at m.1.0 c) 0) at_rest (gives_up (hold_of c s) tt at_rest)))

  after_consumed : (ps : List Hold) (buckets : ℕ) (a : Take) (f : Flow) (t g : List ℕ) (c : ℕ)
      → Locking (held_after ps (outcome_of c a)) ps f t g (after_take a (given h script ps) buckets f t g c)
  after_consumed ps buckets (taking.Granted s) f t g c = late_consumed ps buckets f t g c s
  after_consumed ps buckets (taking.Busy owner) f t g c = at_rest
  after_consumed ps buckets taking.Damaged f t g c = at_rest
  after_consumed ps buckets taking.Spent f t g c = at_rest

  take_consumed : (ps : List Hold) (f : Flow) (t g : List ℕ) (c : ℕ)
      → let k = take_of f.next t c in
      Goes ps f t g (held_after ps (outcome_of c k.seen.0.answer)) (flow_of k.seen.0.next f.place f.dropped) (of_took h g k.seen) k.log
  unfolding take_of
  take_consumed ps f t g c = go (state_at f.next t c)
    where
      P : Made (Took × List ℕ) → Type 0
      P k = Goes ps f t g (held_after ps (outcome_of c k.seen.0.answer)) (flow_of k.seen.0.next f.place f.dropped) (of_took h g k.seen) k.log

      go : (x : State) → P (take_in x f.next t c)
      go state.Damaged = at_rest
      go (state.Held o) = at_rest
      go state.Free = if_both P (serial_remains f.next) (takes (hold_of c f.next) tt at_rest) at_rest

  second_consumed : (ps : List Hold) (buckets : ℕ) (f : Flow) (t g : List ℕ) (c : ℕ) → Locking ps ps f t g (second_stage_of (given h script ps) buckets f t g c)
  unfolding second_stage_of
  second_consumed ps buckets f t g c =
      let m = (boundary_of (given h script ps) f t g).seen in
      let k = (take_of m.0.next m.1.0 c).seen in
      follow (boundary_consumed ps f t g) (follow (take_consumed ps m.0 m.1.0 m.1.1 c)
      (after_consumed ps buckets k.0.answer (flow_of k.0.next m.0.place m.0.dropped) k.1 m.1.1 c))

  pub lock_consumed : (ps : List Hold) (buckets : ℕ) (f : Flow) (t g : List ℕ) (c : ℕ) → Locking ps ps f t g (lock_of (given h script ps) buckets f t g c)
  unfolding lock_of
  lock_consumed ps buckets f t g c =
      let m = (boundary_of (given h script ps) f t g).seen in
      follow (boundary_consumed ps f t g)
      (if_both (Locking ps ps m.0 m.1.0 m.1.1) (eqb (waiters_at m.1.0 c) 0) (second_consumed ps buckets m.0 m.1.0 m.1.1 c) at_rest)

  -- ---- attempts by key

  abbrev Trying : List Hold → Run → List ℕ → List ℕ → Made (With Tried) → Type 0
  Trying ps r t g m = Goes ps r.flow t g (held_after ps m.seen.0.outcome) m.seen.0.run.flow (of_tried h m.seen) m.log

  at_consumed : (ps : List Hold) (buckets : ℕ) (x : Found) (r : Run) (t g : List ℕ) → Trying ps r t g (attempt_at x (given h script ps) buckets r t g)
  at_consumed ps buckets (Err x) r t g = at_rest
  at_consumed ps buckets (Ok c) r t g = follow (lock_consumed ps buckets r.flow t g c) at_rest

  pub attempt_consumed : (ps : List Hold) (buckets : ℕ) (registry : List ℕ) (binding bucket : ℕ) (r : Run) (t g : List ℕ)
      → Trying ps r t g (attempt_of (given h script ps) buckets registry binding bucket r t g)
  unfolding attempt_of
  attempt_consumed ps buckets registry binding bucket r t g = counts attempts_one (at_consumed ps buckets (find_of h.headers buckets g registry binding bucket) r t g)

  abbrev Running : List Hold → List Hold → Run → List ℕ → List ℕ → Made (With Run) → Type 0
  Running ps rs r t g m = Goes ps r.flow t g rs m.seen.0.flow (of_run h m.seen) m.log

  spin_consumed : (ps : List Hold) (r : Run) (t g : List ℕ) → Running ps ps r t g (spin_of (given h script ps) r t g)
  unfolding spin_of
  spin_consumed ps r t g = follow (boundary_consumed ps r.flow t g) (counts spins at_rest)

  pause_consumed : (ps : List Hold) (i : ℕ) (r : Run) (t g : List ℕ) → Running ps ps r t g (pause_of (given h script ps) i r t g)
  unfolding pause_of
  pause_consumed ps i r t g =
      let m = (boundary_of (given h script ps) r.flow t g).seen in
      if_both (Running ps ps r t g) (eqb (i % 64) 63)
      (follow (boundary_consumed ps r.flow t g)
      (counts yields_once (spin_consumed ps (run_of m.0 r.attempts (r.boundaries + 1) (r.yields + 1)) m.1.0 m.1.1)))
      (spin_consumed ps r t g)

  -- a Busy outcome adds nothing
  none_held : (ps : List Hold) (o : Outcome) → is_busy o ≡ true → held_after ps o ≡ ps
  none_held ps (outcome.Granted l) e = absurd (differ e)
  none_held ps (outcome.Busy why) e = refl
  none_held ps (outcome.Refused r) e = absurd (differ e)

  pub retry_consumed : (left i : ℕ) (last : Reason) (ps : List Hold) (buckets : ℕ) (registry : List ℕ) (binding bucket : ℕ) (r : Run) (t g : List ℕ)
      → Trying ps r t g (retry_of left i last (given h script ps) buckets registry binding bucket r t g)
  unfolding retry_of
  retry_consumed zero i last ps buckets registry binding bucket r t g = at_rest
  retry_consumed (suc left) i last ps buckets registry binding bucket r t g =
      let m = (attempt_of (given h script ps) buckets registry binding bucket r t g).seen in
      let p = (pause_of (given h script ps) i m.0.run m.1.0 m.1.1).seen in
      let qs = held_after ps m.0.outcome in
      follow (attempt_consumed ps buckets registry binding bucket r t g)
      (if_cases (λ (x : Made (With Tried)). Goes qs m.0.run.flow m.1.0 m.1.1 (held_after ps x.seen.0.outcome) x.seen.0.run.flow (of_tried h x.seen) x.log)
      (is_busy m.0.outcome)
      (λ b. rw (none_held ps m.0.outcome b)
      (follow (pause_consumed ps i m.0.run m.1.0 m.1.1) (retry_consumed left (i + 1) _ ps buckets registry binding bucket p.0 p.1.0 p.1.1)))
      (λ _. at_rest))

  -- ---- giving back, and multi-lock

  pub back_consumed : (n : ℕ) (ps ls : List Hold) (r : Run) (t g : List ℕ) → n ≤ length ls
      → Running (ps ++ take n ls) ps r t g (give_back_of n (given h script ps) ls r t g)
  unfolding give_back_of
  back_consumed zero ps ls r t g l = rw (append-nil ps) at_rest
  back_consumed (suc n) ps ls r t g l =
      let k = hold_at ls n in
      let u = set_cell t k.cell 0 0 in
      let m = (boundary_of (given h script (ps ++ take n ls)) r.flow u g).seen in
      rw (take-suc ls n no_hold l, ← append_assoc ps (take n ls) (k ∷ []))
      (gives_up k tt (follow (boundary_consumed (ps ++ take n ls) r.flow u g)
      (back_consumed n ps ls (run_of m.0 r.attempts (r.boundaries + 1) r.yields) m.1.0 m.1.1 (omega arith))))

  abbrev Ending : List Hold → List Hold → Run → List ℕ → List ℕ → Made Locks → Type 0
  Ending qs ps r t g m =
      Goes qs r.flow t g (granted_after ps m.seen.0.answer m.seen.1.1.1) m.seen.0.run.flow
      (world_at h m.seen.0.run.flow.next m.seen.1.0 m.seen.1.1.0) m.log

  module _ (ps : List Hold) (buckets boot : ℕ) (registry keys grants : List ℕ) where
    rollback_consumed : (taken : List Hold) (x : Refusal) (p : ℕ) (r : Run) (t g : List ℕ)
        → Ending (ps ++ taken) ps r t g (rollback_of (given h script ps) taken x p r t g grants)
    unfolding rollback_of
    rollback_consumed taken x p r t g =
        follow (subst (λ (ls : List Hold). Running (ps ++ ls) ps r t g (give_back_of (length taken) (given h script ps) taken r t g)) (take-length taken)
        (back_consumed (length taken) ps taken r t g (omega arith))) at_rest

    pub locks_consumed : (left p : ℕ) (taken : List Hold) (r : Run) (t g : List ℕ)
        → Ending (ps ++ taken) ps r t g (locks_of left p (given h script ps) buckets boot registry keys taken r t g grants)
    unfolding locks_of
    locks_consumed zero p taken r t g = rw (words_back boot taken) at_rest
    locks_consumed (suc left) p taken r t g =
        let m = (retry_of attempt_limit 0 none_yet (given h script (ps ++ taken)) buckets registry (binding_at keys p) (bucket_at keys p) r t g).seen in
        follow (retry_consumed attempt_limit 0 none_yet (ps ++ taken) buckets registry (binding_at keys p) (bucket_at keys p) r t g)
        (go m.0.run m.1.0 m.1.1 m.0.outcome (λ l. locks_of left (p + 1) (given h script ps) buckets boot registry keys (taken ++ (l ∷ [])) m.0.run m.1.0 m.1.1 grants)
        (λ l. locks_consumed left (p + 1) (taken ++ (l ∷ [])) m.0.run m.1.0 m.1.1))
      where
        go : (k : Run) (u w : List ℕ) (o : Outcome) (more : Hold → Made Locks) → ((l : Hold) → Ending (ps ++ (taken ++ (l ∷ []))) ps k u w (more l))
            → Ending (held_after (ps ++ taken) o) ps k u w (after_key o (given h script ps) taken p k u w grants more)
        go k u w (outcome.Granted l) more y = rw (append_assoc ps taken (l ∷ [])) (y l)
        go k u w (outcome.Busy why) more y = rollback_consumed taken (SerializationFailure why) p k u w
        go k u w (outcome.Refused x) more y = rollback_consumed taken x p k u w
