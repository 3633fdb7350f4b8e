-- The model's foreign steps and steps of a lock: the log of each is lawful, leads to the world it leaves, and spares the protected leases.
use Prim.Native.Nat.{ℕ, zero, suc, ◌+◌, ◌-◌, ◌%◌, ◌≤◌, ◌<◌}
use Rattle.std.specs.Prelude.{◌≡◌, List, [], ◌∷◌, ◌++◌, ◌&&◌, ltb, eqb, Ok, Err}
use Rattle.std.proofs.Math.Path.{refl, subst}
use Rattle.std.proofs.Common.{sym, ap, ◌∙◌, arith}
use Rattle.std.proofs.Math.Bool.{not}
use Rattle.std.proofs.Math.Dec.{leb}
use Rattle.types.specs.Checks.{Found}
use borrow.Author.Tests.{ltb-true, leb-true, not-true}
use Rattle.model.specs.Log.{Made, Event, by_caller, by_script, attempt_begun, boundary_run, yielded, spun, step_dropped, took, released, waiters_set, health_set}
use Rattle.model.specs.Arena.{serial_remains, cells_of, spent_to, hold_of, header_of, is_poisoned, bit_at, owner_at, waiters_at, is_free, is_live, is_in, state_at}
use Rattle.model.specs.Foreign.{steps_in, kind_at, place_at, number_at, step_take_of, step_release_of, step_waiters_of, step_health_of, step_of, run_steps_of, boundary_of, flow_of}
use Rattle.model.specs.Lock.{take_in, take_of, late_stage_of, after_take, second_stage_of, lock_of, outcome_of, find_of, attempt_at, attempt_of, spin_of, pause_of, is_busy, retry_of, run_of}
use Rattle.model.specs.Calls.{given}
use Rattle.types.specs.declared.Flow.{Flow}
use Rattle.types.specs.declared.Head.{Head}
use Rattle.types.specs.declared.Hold.{Hold}
use Rattle.types.specs.declared.Locked.{Locked}
use Rattle.types.specs.declared.Outcome.{Outcome}
use Rattle.types.specs.declared.Outcome.TheVariants as outcome
use Rattle.types.specs.declared.Reason.{Reason}
use Rattle.types.specs.declared.Refusal.{Refusal}
use Rattle.types.specs.declared.Run.{Run}
use Rattle.types.specs.declared.State.{State}
use Rattle.types.specs.declared.State.TheVariants as state
use Rattle.types.specs.declared.Stepped.{Stepped}
use Rattle.types.specs.declared.Take.{Take}
use Rattle.types.specs.declared.Take.TheVariants as taking
use Rattle.types.specs.declared.Took.{Took}
use Rattle.types.specs.declared.Tried.{Tried}
use Rattle.choice.specs.Pick.{both, if_both}
use Rattle.laws.specs.Keys.{find_inside}
use Rattle.history.specs.World.{World, world_of, Live}
use Rattle.history.specs.Tests.{differ, In, in_first, in_left, in_right, is_free_state, if_cases}
use Rattle.history.specs.Events.{Fit, lives, taken_live}
use Rattle.history.specs.Logs.{Kept}
use Rattle.history.proofs.Logs.{nothing, event, kept_fit, kept_live, kept_next, weaken, chain, ended}
use Rattle.history.specs.Steps.{world_at, With, of_step, of_flow, of_locked, of_run, of_tried, of_took, Gained, Won, won, none_yet_lem, no_more, gained, was_busy, was_refused}

-- a definition of the model, run from the world w, keeps what `Kept` says; `world` reads the world that it leaves in what it gives
pub record Leads {A : Type 0} (world : A → World) (w : World) (P : Hold → Type 0) (m : Made A) : Type 0 where
  pub kept : Kept w P (world m.seen) m.log

-- and what it gives has Q
pub record Gains {A : Type 0} (world : A → World) (Q : A → Type 0) (w : World) (P : Hold → Type 0) (m : Made A) : Type 0 where
  pub kept : Kept w P (world m.seen) m.log
  pub gain : Q m.seen

-- one after the other: what the second gives is what both give
pub followed : {A : Type 0} {world : A → World} {Q : A → Type 0} {w v : World} {P : Hold → Type 0} {xs : List Event} {m : Made A}
    → Fit w → Kept w P v xs → Gains world Q v P m → Gains world Q w P (record { seen = m.seen; log = xs ++ m.log })
followed g a b = record { kept = chain g a b.kept; gain = b.gain }

pub won_of : {n : ℕ} {v : World} {c : ℕ} {o : Outcome} → Gained n v c o → Won n v o
won_of {c = c} (gained s x l) = won (hold_of c s) x l
won_of was_busy = none_yet_lem
won_of (was_refused r) = no_more r

granted_gain : {n : ℕ} {v : World} {l : Hold} → Won n v (outcome.Granted l) → Live v l × n ≤ l.serial
granted_gain (won l x i) = (x, i)

gained_from : {n m : ℕ} {v : World} {c : ℕ} {o : Outcome} → m ≤ n → Gained n v c o → Gained m v c o
gained_from k (gained s x l) = gained s x (omega arith)
gained_from k was_busy = was_busy
gained_from k (was_refused r) = was_refused r

won_from : {n m : ℕ} {v : World} {o : Outcome} → m ≤ n → Won n v o → Won m v o
won_from k (won l x i) = won l x (omega arith)
won_from k none_yet_lem = none_yet_lem
won_from k (no_more r) = no_more r

-- ---- foreign steps

module _ (h : Head) (script : List ℕ) where
  module _ (ps : List Hold) (n : ℕ) (t g : List ℕ) where
    abbrev before : World
    before = world_at h n t g

    abbrev OnTable : Made (Stepped × List ℕ) → Type 0
    OnTable = Leads (λ a. world_at h a.0.next a.1 g) before (In ps)

    abbrev OnHealth : Made (Stepped × List ℕ) → Type 0
    OnHealth = Leads (λ a. world_at h a.0.next t a.1) before (In ps)

    take_step : (c : ℕ) → OnTable (step_take_of (cells_of h) n t c)
    unfolding step_take_of
    take_step c =
        if_cases OnTable (ltb c (cells_of h) && is_free (bit_at t c) (owner_at t c) && serial_remains n)
        (λ e.
        let p = both (ltb c (cells_of h) && is_free (bit_at t c) (owner_at t c)) (serial_remains n) e in
        let q = both (ltb c (cells_of h)) (is_free (bit_at t c) (owner_at t c)) p.0 in
        record { kept = event (took by_script c n) ((ltb-true _ _ q.0, is_free_state n t c q.1), (refl, ltb-true _ _ p.1)) (λ l i v x. x) })
        (λ e. record { kept = event step_dropped tt (λ l i v x. x) })

    release_step : (c s : ℕ) → OnTable (step_release_of (cells_of h) ps n t c s)
    unfolding step_release_of
    release_step c s =
        if_cases OnTable (is_live n (cells_of h) t (hold_of c s) && not (is_in (hold_of c s) ps))
        (λ e.
        let p = both (is_live n (cells_of h) t (hold_of c s)) (not (is_in (hold_of c s) ps)) e in
        record { kept = event (released by_script c s) p.0 (λ l i v x. differ (sym (not-true _ p.1) ∙ subst (In ps) x i)) })
        (λ e. record { kept = event step_dropped tt (λ l i v x. x) })

    waiters_step : (c k : ℕ) → OnTable (step_waiters_of (cells_of h) n t c k)
    unfolding step_waiters_of
    waiters_step c k =
        if_cases OnTable (ltb c (cells_of h)) (λ e. record { kept = event (waiters_set c k) (ltb-true _ _ e) (λ l i v x. x) })
        (λ e. record { kept = event step_dropped tt (λ l i v x. x) })

    health_step : (i k : ℕ) → OnHealth (step_health_of h.headers n g i k)
    unfolding step_health_of
    health_step i k =
        if_cases OnHealth (ltb i h.headers && leb k 1)
        (λ e.
        let p = both (ltb i h.headers) (leb k 1) e in
        record { kept = event (health_set i k) (ltb-true _ _ p.0, leb-true _ _ p.1) (λ l i v x. x) })
        (λ e. record { kept = event step_dropped tt (λ l i v x. x) })

    abbrev Stepping : Made (Stepped × (List ℕ × List ℕ)) → Type 0
    Stepping = Leads (of_step h) before (In ps)

    pub step_kept : (kind place number : ℕ) → Stepping (step_of (given h script ps) n t g kind place number)
    unfolding step_of
    step_kept kind place number =
        if_both Stepping (eqb kind 0) (record { kept = nothing })
        (if_both Stepping (eqb kind 1) (record { kept = ended (take_step place).kept })
        (if_both Stepping (eqb kind 2) (record { kept = ended (release_step place number).kept })
        (if_both Stepping (eqb kind 3) (record { kept = ended (waiters_step place number).kept })
        (if_both Stepping (eqb kind 4) (record { kept = ended (health_step place number).kept })
        (if_both Stepping (eqb kind 5) (record { kept = nothing }) (record { kept = event step_dropped tt (λ l i v x. x) }))))))

  -- ---- a boundary

  abbrev Flowing : World → List Hold → Made (Flow × (List ℕ × List ℕ)) → Type 0
  Flowing w ps = Leads (of_flow h) w (In ps)

  steps_kept : (left : ℕ) (ps : List Hold) (f : Flow) (t g : List ℕ) → Fit (world_at h f.next t g)
      → Flowing (world_at h f.next t g) ps (run_steps_of left (given h script ps) f t g)
  unfolding run_steps_of
  steps_kept zero ps f t g good = record { kept = nothing }
  steps_kept (suc left) ps f t g good =
      let kind = kind_at script f.place in
      let one = (step_kept ps f.next t g kind (place_at script f.place) (number_at script f.place)).kept in
      if_both (Flowing (world_at h f.next t g) ps) (eqb kind 5) (record { kept = nothing })
      (record { kept = chain good one (steps_kept left ps _ _ _ (kept_fit good one)).kept })

  pub boundary_kept : (ps : List Hold) (f : Flow) (t g : List ℕ) → Fit (world_at h f.next t g)
      → Flowing (world_at h f.next t g) ps (boundary_of (given h script ps) f t g)
  unfolding boundary_of
  boundary_kept ps f t g good =
      record { kept = chain good (event boundary_run tt (λ l i v x. x)) (steps_kept (steps_in script - f.place) ps f t g good).kept }

  -- ---- a lock

  pub take_kept : (P : Hold → Type 0) (n : ℕ) (t g : List ℕ) (c : ℕ) → Fit (world_at h n t g) → c < cells_of h
      → Gains (of_took h g) (λ a. Gained n (of_took h g a) c (outcome_of c a.0.answer)) (world_at h n t g) P (take_of n t c)
  unfolding take_of
  take_kept P n t g c good l = go (state_at n t c) refl
    where
      go : (s : State) → state_at n t c ≡ s
          → Gains (of_took h g) (λ a. Gained n (of_took h g a) c (outcome_of c a.0.answer)) (world_at h n t g) P (take_in s n t c)
      go state.Damaged e = record { kept = nothing; gain = was_refused _ }
      go (state.Held o) e = record { kept = nothing; gain = was_busy }
      go state.Free e =
          if_cases (Gains (of_took h g) (λ a. Gained n (of_took h g a) c (outcome_of c a.0.answer)) (world_at h n t g) P) (serial_remains n)
          (λ r.
          record {
            kept = event (took by_caller c n) ((l, e), (refl, ltb-true _ _ r)) (λ l i v x. x);
            gain = gained n (taken_live (world_at h n t g) by_caller c good l) (omega arith);
          })
          (λ r. record { kept = nothing; gain = was_refused _ })

  abbrev Locking : ℕ → World → (Hold → Type 0) → ℕ → Made (With Locked) → Type 0
  Locking n w P c = Gains (of_locked h) (λ a. Gained n (of_locked h a) c a.0.answer) w P

  late_kept : (ps : List Hold) (f : Flow) (t g : List ℕ) (c s n : ℕ) → Fit (world_at h f.next t g) → Live (world_at h f.next t g) (hold_of c s) → n ≤ s
      → Locking n (world_at h f.next t g) (λ l. In ps l × (l ≡ hold_of c s → ⊥)) c (late_stage_of (given h script ps) h.buckets f t g c s)
  unfolding late_stage_of
  late_kept ps f t g c s n good v l =
      let new = hold_of c s in
      let m = boundary_of (given h script (ps ++ (new ∷ []))) f t g in
      let b = (boundary_kept (ps ++ (new ∷ [])) f t g good).kept in
      let still = kept_live good b new (in_right new ps (new ∷ []) (in_first new [])) v in
      let P : Hold → Type 0 = λ (l : Hold). In ps l × (l ≡ hold_of c s → ⊥) in
      followed good (weaken (λ k p _. in_left k ps (new ∷ []) p.0) b)
      (if_both (Locking n (of_flow h m.seen) P c) (is_poisoned m.seen.1.1 (header_of h.buckets c))
      (record { kept = event (released by_caller c s) still (λ k p _ x. p.1 x); gain = was_refused _ })
      (if_both (Locking n (of_flow h m.seen) P c) (eqb (waiters_at m.seen.1.0 c) 0) (record { kept = nothing; gain = gained s still l })
      (record { kept = event (released by_caller c s) still (λ k p _ x. p.1 x); gain = was_busy })))

  after_kept : (ps : List Hold) (a : Take) (f : Flow) (t g : List ℕ) (c n m : ℕ) → Fit (world_at h f.next t g)
      → Gained n (world_at h f.next t g) c (outcome_of c a) → m ≤ n
      → Locking m (world_at h f.next t g) (λ l. In ps l × (l.serial < m)) c (after_take a (given h script ps) h.buckets f t g c)
  after_kept ps (taking.Granted s) f t g c n m good y l =
      let gain : Live (world_at h f.next t g) (hold_of c s) × n ≤ s = granted_gain (won_of y) in
      let i : n ≤ s = gain.1 in
      let r = late_kept ps f t g c s m good gain.0 (omega arith) in
      record { kept = weaken (λ k p _. (p.0, λ e. omega (arith, ap (λ (z : Hold). z.serial) e, p.1))) r.kept; gain = r.gain }
  after_kept ps (taking.Busy owner) f t g c n m good y l = record { kept = nothing; gain = was_busy }
  after_kept ps taking.Damaged f t g c n m good y l = record { kept = nothing; gain = was_refused _ }
  after_kept ps taking.Spent f t g c n m good y l = record { kept = nothing; gain = was_refused _ }

  second_kept : (ps : List Hold) (f : Flow) (t g : List ℕ) (c : ℕ) → Fit (world_at h f.next t g) → c < cells_of h
      → Locking f.next (world_at h f.next t g) (In ps) c (second_stage_of (given h script ps) h.buckets f t g c)
  unfolding second_stage_of
  second_kept ps f t g c good l =
      let P : Hold → Type 0 = λ (l : Hold). In ps l × (l.serial < f.next) in
      let m = boundary_of (given h script ps) f t g in
      let b = (boundary_kept ps f t g good).kept in
      let good' = kept_fit good b in
      let k = take_kept P m.seen.0.next m.seen.1.0 m.seen.1.1 c good' l in
      let a = (take_of m.seen.0.next m.seen.1.0 c).seen in
      let r = after_kept ps a.0.answer (flow_of a.0.next m.seen.0.place m.seen.0.dropped) a.1 m.seen.1.1 c
      m.seen.0.next f.next (kept_fit good' k.kept) k.gain (kept_next b) in
      record {
        kept = weaken (λ x i v. (i, (lives (world_at h f.next t g) x v).high)) (chain good (weaken (λ x p _. p.0) b) (chain good' k.kept r.kept));
        gain = r.gain;
      }

  pub lock_kept : (ps : List Hold) (f : Flow) (t g : List ℕ) (c : ℕ) → Fit (world_at h f.next t g) → c < cells_of h
      → Locking f.next (world_at h f.next t g) (In ps) c (lock_of (given h script ps) h.buckets f t g c)
  unfolding lock_of
  lock_kept ps f t g c good l =
      let m = boundary_of (given h script ps) f t g in
      let b = (boundary_kept ps f t g good).kept in
      let two = second_kept ps m.seen.0 m.seen.1.0 m.seen.1.1 c (kept_fit good b) l in
      followed good b
      (if_both (Locking f.next (of_flow h m.seen) (In ps) c) (eqb (waiters_at m.seen.1.0 c) 0)
      (record { kept = two.kept; gain = gained_from (kept_next b) two.gain })
      (record { kept = nothing; gain = was_busy }))

  -- ---- attempts by key

  abbrev Trying : ℕ → World → List Hold → Made (With Tried) → Type 0
  Trying n w ps = Gains (of_tried h) (λ a. Won n (of_tried h a) a.0.outcome) w (In ps)

  abbrev starts : Run → List ℕ → List ℕ → World
  starts r t g = world_at h r.flow.next t g

  attempt_at_lem : (ps : List Hold) (x : Found) (r : Run) (t g : List ℕ) → Fit (starts r t g) → ((c : ℕ) → x ≡ Ok c → c < cells_of h)
      → Trying r.flow.next (starts r t g) ps (attempt_at x (given h script ps) h.buckets r t g)
  attempt_at_lem ps (Err x) r t g good l = record { kept = nothing; gain = no_more x }
  attempt_at_lem ps (Ok c) r t g good l =
      let k = lock_kept ps r.flow t g c good (l c refl) in
      record { kept = ended k.kept; gain = won_of k.gain }

  pub attempt_kept : (ps : List Hold) (registry : List ℕ) (binding bucket : ℕ) (r : Run) (t g : List ℕ) → Fit (starts r t g)
      → Trying r.flow.next (starts r t g) ps (attempt_of (given h script ps) h.buckets registry binding bucket r t g)
  unfolding attempt_of
  attempt_kept ps registry binding bucket r t g good =
      let k = attempt_at_lem ps (find_of h.headers h.buckets g registry binding bucket) r t g good
      (find_inside h.headers h.buckets g registry binding bucket) in
      record { kept = chain good (event attempt_begun tt (λ l i v x. x)) k.kept; gain = k.gain }

  abbrev Running : World → List Hold → Made (With Run) → Type 0
  Running w ps = Leads (of_run h) w (In ps)

  spin_kept : (ps : List Hold) (r : Run) (t g : List ℕ) → Fit (starts r t g) → Running (starts r t g) ps (spin_of (given h script ps) r t g)
  unfolding spin_of
  spin_kept ps r t g good =
      record { kept = chain good (boundary_kept ps r.flow t g good).kept (event spun tt (λ l i v x. x)) }

  pause_kept : (ps : List Hold) (i : ℕ) (r : Run) (t g : List ℕ) → Fit (starts r t g) → Running (starts r t g) ps (pause_of (given h script ps) i r t g)
  unfolding pause_of
  pause_kept ps i r t g good =
      let m = boundary_of (given h script ps) r.flow t g in
      let b = (boundary_kept ps r.flow t g good).kept in
      let s = spin_kept ps (run_of m.seen.0 r.attempts (r.boundaries + 1) (r.yields + 1)) m.seen.1.0 m.seen.1.1 (kept_fit good b) in
      if_both (Running (starts r t g) ps) (eqb (i % 64) 63)
      (record { kept = chain good b (chain (kept_fit good b) (event yielded tt (λ l i v x. x)) s.kept) }) (spin_kept ps r t g good)

  pub retry_kept : (left i : ℕ) (last : Reason) (ps : List Hold) (registry : List ℕ) (binding bucket : ℕ) (r : Run) (t g : List ℕ) → Fit (starts r t g)
      → Trying r.flow.next (starts r t g) ps (retry_of left i last (given h script ps) h.buckets registry binding bucket r t g)
  unfolding retry_of
  retry_kept zero i last ps registry binding bucket r t g good = record { kept = nothing; gain = none_yet_lem }
  retry_kept (suc left) i last ps registry binding bucket r t g good =
      let m = attempt_of (given h script ps) h.buckets registry binding bucket r t g in
      let a = attempt_kept ps registry binding bucket r t g good in
      let good' = kept_fit good a.kept in
      let p = pause_kept ps i m.seen.0.run m.seen.1.0 m.seen.1.1 good' in
      let q = (pause_of (given h script ps) i m.seen.0.run m.seen.1.0 m.seen.1.1).seen in
      let again = retry_kept left (i + 1) _ ps registry binding bucket q.0 q.1.0 q.1.1 (kept_fit good' p.kept) in
      followed good a.kept
      (if_both (Trying r.flow.next (of_tried h m.seen) ps) (is_busy m.seen.0.outcome)
      (record {
        kept = chain good' p.kept again.kept;
        gain = won_from (omega (arith, kept_next a.kept, kept_next p.kept)) again.gain;
      })
      (record { kept = nothing; gain = a.gain }))
