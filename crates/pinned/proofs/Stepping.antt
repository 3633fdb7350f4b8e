-- The definitions' own steps are those of `Steps`.
-- ---- a compare-and-set
use Prim.Native.Nat.{ℕ, zero, suc, ◌+◌, ◌*◌, ◌-◌, ◌/◌, ◌≤◌, ◌<◌}
use Rattle.std.specs.Prelude.{◌≡◌, Bool, ◌&&◌, ◌≢◌, ltb, eqb, length, get_or, take, if◌then◌else◌}
use Rattle.std.proofs.Math.Path.{refl}
use Rattle.std.proofs.Common.{sym, ◌∙◌, arith}
use mathlib.Core.List.{List, [], ◌∷◌, ◌++◌, append-nil}
use Rattle.std.proofs.Math.Bool.{true, false, not}
use Rattle.std.proofs.Math.Logic.{inl, inr}
use Rattle.std.proofs.Math.Dec.{leb}
use borrow.Author.Tests.{ltb-true, ltb-false, leb-true, eqb-true, eqb-false, lt-ltb, le-leb, eq-eqb, not-true}
use Rattle.choice.specs.Pick.{both}
use Rattle.model.specs.Log.{Made, gives, by_caller, by_script, attempt_begun, step_dropped, took, released, waiters_set, health_set}
use Rattle.model.specs.Arena.{last_serial, serial_remains, spent_to, cells_of, header_of, is_poisoned, bit_at, owner_at, waiters_at, set_cell, set_waiters, state_at, is_free, is_live, is_in, hold_of}
use Rattle.model.specs.Foreign.{flow_of, step_take_of, step_release_of, step_waiters_of, step_health_of, step_of, run_steps_of, boundary_of}
use Rattle.model.specs.Lock.{take_in, take_of, outcome_of, answer_of, locked_of, give_up_of, late_stage_of, after_take, second_stage_of, lock_of, give_back_of, hold_at, run_of}
use Rattle.model.specs.Calls.{given}
use Rattle.types.specs.declared.Flow.{Flow}
use Rattle.types.specs.declared.Head.{Head}
use Rattle.types.specs.declared.Hold.{Hold}
use Rattle.types.specs.declared.Locked.{Locked}
use Rattle.types.specs.declared.Outcome.TheVariants as outcome
use Rattle.types.specs.declared.Reason.TheVariants as reason
use Rattle.types.specs.declared.Refusal.TheVariants as refusal
use Rattle.types.specs.declared.Run.{Run}
use Rattle.types.specs.declared.State.{State}
use Rattle.types.specs.declared.Stepped.{Stepped}
use Rattle.types.specs.declared.Take.{Take}
use Rattle.types.specs.declared.Take.TheVariants as taking
use Rattle.types.specs.declared.Took.{Took}
use Rattle.history.specs.World.{World, world_of}
use Rattle.history.specs.Items.{Says, says}
use Rattle.history.specs.Tests.{Stands, stands, is_free_lem, is_held_lem, is_damaged, if_cases, differ}
use Rattle.pinned.specs.Words.{Is, If◌Then◌Else◌, After, Noting, logged, size, IsFree, IsLive, counted, taken, freed, with_waiters, with_health, StandsIn}
use Rattle.pinned.specs.Steps.{Takes, DoneIf, Step, At, at, Runs, Boundary, releasing, AfterTake, Locks}
use Rattle.pinned.proofs.Decided.{owned, owning, in_listed, listed_in}
use Rattle.pinned.specs.Stepping.{ReleasesEach}

pub takes : (h : Head) (next : ℕ) (t g : List ℕ) (c : ℕ)
    → let m = take_of next t c in
    Takes (world_of (spent_to h next) t g) c (logged (world_of (spent_to h m.seen.0.next) m.seen.1 g, answer_of h.boot (outcome_of c m.seen.0.answer)) m.log)
unfolding take_of state_at bit_at owner_at set_cell
takes h next t g c = go (stands next (bit_at t c) (owner_at t c))
  where
    Of : Made (Took × List ℕ) → Type 0
    Of m = Takes (world_of (spent_to h next) t g) c (logged (world_of (spent_to h m.seen.0.next) m.seen.1 g, answer_of h.boot (outcome_of c m.seen.0.answer)) m.log)

    go : {x : State} → Stands next (bit_at t c) (owner_at t c) x → Of (take_in x next t c)
    go (is_damaged f g) = inl (((λ p. f p.0 p.1), (λ p. g p.0 p.1 p.2)), refl)
    go (is_held_lem p q r) = inr ((λ d. d.1 (p, q, r)), inl ((p, q, r), refl))
    go (is_free_lem p q) =
        if_cases Of (serial_remains next)
        (λ r. inr ((λ d. d.0 (p, q)), inr ((λ d. omega (arith, d.0)), inr ((λ l. let k = ltb-true next last_serial r in omega arith), refl))))
        (λ r. inr ((λ d. d.0 (p, q)), inr ((λ d. omega (arith, d.0)), inl (ltb-false next last_serial r, refl))))

-- ---- a foreign step

module _ (h : Head) (script : List ℕ) (ps : List Hold) where
  abbrev W : ℕ → List ℕ → List ℕ → World
  W next t g = world_of (spent_to h next) t g

  -- by the table alone, by the health alone
  abbrev by_table : List ℕ → Made (Stepped × List ℕ) → Made (World × ℕ)
  by_table g m = logged (W m.seen.0.next m.seen.1 g, m.seen.0.dropped) m.log

  abbrev by_health : List ℕ → Made (Stepped × List ℕ) → Made (World × ℕ)
  by_health t m = logged (W m.seen.0.next t m.seen.1, m.seen.0.dropped) m.log

  take_step : (next : ℕ) (t g : List ℕ) (c : ℕ)
      → DoneIf ((c < cells_of h) × IsFree (W next t g) c × (next < last_serial)) (taken (W next t g) c) (took by_script c next) (W next t g) (by_table g (step_take_of (cells_of h) next t c))
  unfolding step_take_of is_free bit_at owner_at set_cell
  take_step next t g c =
      if_cases (λ (m : Made (Stepped × List ℕ)). DoneIf ((c < cells_of h) × IsFree (W next t g) c × (next < last_serial)) (taken (W next t g) c) (took by_script c next) (W next t g) (by_table g m))
      (ltb c (cells_of h) && is_free (bit_at t c) (owner_at t c) && serial_remains next)
      (λ e.
      let a = both (ltb c (cells_of h) && is_free (bit_at t c) (owner_at t c)) (serial_remains next) e in
      let b = both (ltb c (cells_of h)) (is_free (bit_at t c) (owner_at t c)) a.0 in
      let d = both (eqb (bit_at t c) 0) (eqb (owner_at t c) 0) b.1 in
      inl ((ltb-true c (cells_of h) b.0, (eqb-true (bit_at t c) 0 d.0, eqb-true (owner_at t c) 0 d.1), ltb-true next last_serial a.1), refl))
      (λ e. inr ((λ k. differ (sym e ∙ rw (lt-ltb c (cells_of h) k.0, eq-eqb (bit_at t c) 0 k.1.0, eq-eqb (owner_at t c) 0 k.1.1, lt-ltb next last_serial k.2))), refl))

  release_step : (next : ℕ) (t g : List ℕ) (c s : ℕ)
      → DoneIf (IsLive (W next t g) c s × (StandsIn c s ps → ⊥)) (freed (W next t g) c) (released by_script c s) (W next t g) (by_table g (step_release_of (cells_of h) ps next t c s))
  unfolding step_release_of set_cell
  release_step next t g c s =
      if_cases (λ (m : Made (Stepped × List ℕ)). DoneIf (IsLive (W next t g) c s × (StandsIn c s ps → ⊥)) (freed (W next t g) c) (released by_script c s) (W next t g) (by_table g m))
      (is_live next (cells_of h) t (hold_of c s) && not (is_in (hold_of c s) ps))
      (λ e.
      let a = both (is_live next (cells_of h) t (hold_of c s)) (not (is_in (hold_of c s) ps)) e in
      inl ((owned (W next t g) c s a.0, λ l. differ (sym (not-true (is_in (hold_of c s) ps) a.1) ∙ listed_in c s ps l)), refl))
      (λ e. inr ((λ k. go (is_in (hold_of c s) ps) refl k.1 (rw (owning (W next t g) c s k.0) at e)), refl))
    where
      go : (b : Bool) → is_in (hold_of c s) ps ≡ b → (StandsIn c s ps → ⊥) → not b ≡ false → ⊥
      go true e n f = n (in_listed c s ps e)
      go false e n f = differ (sym f)

  waiters_step : (next : ℕ) (t g : List ℕ) (c n : ℕ)
      → DoneIf (c < cells_of h) (with_waiters (W next t g) c n) (waiters_set c n) (W next t g) (by_table g (step_waiters_of (cells_of h) next t c n))
  unfolding step_waiters_of set_waiters
  waiters_step next t g c n =
      if_cases (λ (m : Made (Stepped × List ℕ)). DoneIf (c < cells_of h) (with_waiters (W next t g) c n) (waiters_set c n) (W next t g) (by_table g m))
      (ltb c (cells_of h)) (λ e. inl (ltb-true c (cells_of h) e, refl)) (λ e. inr ((λ k. let l = ltb-false c (cells_of h) e in omega arith), refl))

  health_step : (next : ℕ) (t g : List ℕ) (i n : ℕ)
      → DoneIf ((i < h.headers) × (n ≤ 1)) (with_health (W next t g) i n) (health_set i n) (W next t g) (by_health t (step_health_of h.headers next g i n))
  unfolding step_health_of
  health_step next t g i n =
      if_cases (λ (m : Made (Stepped × List ℕ)). DoneIf ((i < h.headers) × (n ≤ 1)) (with_health (W next t g) i n) (health_set i n) (W next t g) (by_health t m))
      (ltb i h.headers && leb n 1)
      (λ e. let a = both (ltb i h.headers) (leb n 1) e in inl ((ltb-true i h.headers a.0, leb-true n 1 a.1), refl))
      (λ e. inr ((λ k. differ (sym e ∙ rw (lt-ltb i h.headers k.0, le-leb n 1 k.1))), refl))

  pub step_is : (next : ℕ) (t g : List ℕ) (kind place number : ℕ)
      → let m = step_of (given h script ps) next t g kind place number in
      Step (W next t g) ps kind place number (logged (W m.seen.0.next m.seen.1.0 m.seen.1.1, m.seen.0.dropped) m.log)
  unfolding step_of
  step_is next t g kind place number =
      if_cases (λ (m : Made (Stepped × (List ℕ × List ℕ))). Step w ps kind place number (shown m)) (eqb kind 0) (λ e. inl (eqb-true kind 0 e, refl)) λ e0. inr (
        eqb-false kind 0 e0,
        if_cases (λ (m : Made (Stepped × (List ℕ × List ℕ))). K1 (shown m)) (eqb kind 1) (λ e. inl (eqb-true kind 1 e, rw (append-nil (step_take_of (cells_of h) next t place).log) (take_step next t g place))) λ e1. inr (
          eqb-false kind 1 e1,
          if_cases (λ (m : Made (Stepped × (List ℕ × List ℕ))). K2 (shown m)) (eqb kind 2) (λ e. inl (eqb-true kind 2 e, rw (append-nil (step_release_of (cells_of h) ps next t place number).log) (release_step next t g place number))) λ e2. inr (
            eqb-false kind 2 e2,
            if_cases (λ (m : Made (Stepped × (List ℕ × List ℕ))). K3 (shown m)) (eqb kind 3) (λ e. inl (eqb-true kind 3 e, rw (append-nil (step_waiters_of (cells_of h) next t place number).log) (waiters_step next t g place number))) λ e3. inr (
              eqb-false kind 3 e3,
              if_cases (λ (m : Made (Stepped × (List ℕ × List ℕ))). K4 (shown m)) (eqb kind 4) (λ e. inl (eqb-true kind 4 e, rw (append-nil (step_health_of h.headers next g place number).log) (health_step next t g place number))) λ e4. inr (
                eqb-false kind 4 e4,
                if_cases (λ (m : Made (Stepped × (List ℕ × List ℕ))). K5 (shown m)) (eqb kind 5) (λ e. inl (eqb-true kind 5 e, refl)) λ e5. inr (eqb-false kind 5 e5, refl),
              ),
            ),
          ),
        ),
      )
    where
      w : World
      w = W next t g

      shown : Made (Stepped × (List ℕ × List ℕ)) → Made (World × ℕ)
      shown m = logged (W m.seen.0.next m.seen.1.0 m.seen.1.1, m.seen.0.dropped) m.log

      K5 : Made (World × ℕ) → Type 0
      K5 = If◌Then◌Else◌ (kind ≡ 5) (Is (logged (w, 0) [])) (Is (logged (w, 1) (step_dropped ∷ [])))

      K4 : Made (World × ℕ) → Type 0
      K4 = If◌Then◌Else◌ (kind ≡ 4) (DoneIf ((place < w.head.headers) × (number ≤ 1)) (with_health w place number) (health_set place number) w) K5

      K3 : Made (World × ℕ) → Type 0
      K3 = If◌Then◌Else◌ (kind ≡ 3) (DoneIf (place < size w) (with_waiters w place number) (waiters_set place number) w) K4

      K2 : Made (World × ℕ) → Type 0
      K2 = If◌Then◌Else◌ (kind ≡ 2) (DoneIf (IsLive w place number × (StandsIn place number ps → ⊥)) (freed w place) (released by_script place number) w) K3

      K1 : Made (World × ℕ) → Type 0
      K1 = If◌Then◌Else◌ (kind ≡ 1) (DoneIf ((place < size w) × IsFree w place × (w.head.next < last_serial)) (taken w place) (took by_script place next) w) K2

  -- ---- a boundary

  abbrev pub point : Flow × (List ℕ × List ℕ) → At
  point m = at (W m.0.next m.1.0 m.1.1) m.0.place m.0.dropped

  abbrev pub pointed : Made (Flow × (List ℕ × List ℕ)) → Made At
  pointed m = logged (point m.seen) m.log

  runs_are : (left : ℕ) (f : Flow) (t g : List ℕ) → Runs left script ps (point (f, (t, g))) (pointed (run_steps_of left (given h script ps) f t g))
  unfolding Runs run_steps_of
  runs_are zero f t g = refl
  runs_are (suc left) f t g =
      let o = (step_of (given h script ps) f.next t g (get_or script (3 * f.place) 0) (get_or script (3 * f.place + 1) 0) (get_or script (3 * f.place + 2) 0)).seen in
      go (eqb (get_or script (3 * f.place) 0) 5) refl (step_is f.next t g (get_or script (3 * f.place) 0) (get_or script (3 * f.place + 1) 0) (get_or script (3 * f.place + 2) 0))
      (runs_are left (flow_of o.0.next (f.place + 1) (f.dropped + o.0.dropped)) o.1.0 o.1.1)
    where
      step : Made (Stepped × (List ℕ × List ℕ))
      step = step_of (given h script ps) f.next t g (get_or script (3 * f.place) 0) (get_or script (3 * f.place + 1) 0) (get_or script (3 * f.place + 2) 0)

      more : Made (Flow × (List ℕ × List ℕ))
      more = run_steps_of left (given h script ps) (flow_of step.seen.0.next (f.place + 1) (f.dropped + step.seen.0.dropped)) step.seen.1.0 step.seen.1.1

      go : (b : Bool) → eqb (get_or script (3 * f.place) 0) 5 ≡ b
          → Step (W f.next t g) ps (get_or script (3 * f.place) 0) (get_or script (3 * f.place + 1) 0) (get_or script (3 * f.place + 2) 0) (logged (W step.seen.0.next step.seen.1.0 step.seen.1.1, step.seen.0.dropped) step.log)
          → Runs left script ps (point (flow_of step.seen.0.next (f.place + 1) (f.dropped + step.seen.0.dropped), (step.seen.1.0, step.seen.1.1))) (pointed more)
          → Runs (suc left) script ps (point (f, (t, g))) (pointed (if b then gives (flow_of f.next (f.place + 1) f.dropped, (t, g)) else record { seen = more.seen; log = step.log ++ more.log }))
      go true e s r = inl (eqb-true _ 5 e, refl)
      go false e s r = inr (eqb-false _ 5 e, (_, s, (_, r, refl)))

  pub boundary_is : (f : Flow) (t g : List ℕ) → Boundary script ps (point (f, (t, g))) (pointed (boundary_of (given h script ps) f t g))
  unfolding boundary_of
  boundary_is f t g = (_, runs_are (length script / 3 - f.place) f t g, refl)

-- ---- `try_lock`

module _ (h : Head) (script : List ℕ) where
  abbrev pub shown : Locked × (List ℕ × List ℕ) → World × Says
  shown m = (
    world_of (spent_to h m.0.flow.next) m.1.0 m.1.1,
    says (answer_of h.boot m.0.answer) (counted 1 m.0.boundaries 0 m.0.flow.dropped) m.0.flow.place [],
  )

  abbrev pub showing : Made (Locked × (List ℕ × List ℕ)) → Made (World × Says)
  showing m = logged (shown m.seen) m.log

  late_is : (ps : List Hold) (f : Flow) (t g : List ℕ) (c s : ℕ)
      → AfterTake script ps (point h script ps (f, (t, g))) c (answer_of h.boot (outcome_of c (taking.Granted s))) (showing (late_stage_of (given h script ps) h.buckets f t g c s))
  unfolding late_stage_of waiters_at set_cell
  late_is ps f t g c s =
      let qs = ps ++ (hold_of c s ∷ []) in
      let m = boundary_of (given h script qs) f t g in
      let o = m.seen in
      (pointed h script qs m, boundary_is h script qs f t g, (_, go o.0 o.1.0 o.1.1, refl))
    where
      Late : Flow → List ℕ → List ℕ → Made (Locked × (List ℕ × List ℕ)) → Type 0
      Late k u w m =
          If◌Then◌Else◌ (get_or w (c / h.buckets) 0 ≢ 0) (Is (logged (shown (locked_of k 3 (outcome.Refused (refusal.Poisoned (c / h.buckets))), (set_cell u c 0 0, w))) (released by_caller c s ∷ [])))
          (Unwaited k u w) (showing m)
        where
          Unwaited : Flow → List ℕ → List ℕ → Made (World × Says) → Type 0
          Unwaited k u w =
              If◌Then◌Else◌ (get_or u (3 * c + 2) 0 ≢ 0) (Is (logged (shown (locked_of k 3 (outcome.Busy (reason.After s)), (set_cell u c 0 0, w))) (released by_caller c s ∷ [])))
              (Is (logged (shown (locked_of k 3 (outcome.Granted (hold_of c s)), (u, w))) []))

      go : (k : Flow) (u w : List ℕ)
          → Late k u w (if is_poisoned w (header_of h.buckets c) then give_up_of (outcome.Refused (refusal.Poisoned (header_of h.buckets c))) k u w c s else if eqb (waiters_at u c) 0 then gives (locked_of k 3 (outcome.Granted (hold_of c s)), (u, w)) else give_up_of (outcome.Busy (reason.After s)) k u w c s)
      go k u w = one (eqb (get_or w (c / h.buckets) 0) 0) (eqb (get_or u (3 * c + 2) 0) 0) refl refl
        where
          one : (x y : Bool) → eqb (get_or w (c / h.buckets) 0) 0 ≡ x → eqb (get_or u (3 * c + 2) 0) 0 ≡ y
              → Late k u w (if not x then give_up_of (outcome.Refused (refusal.Poisoned (header_of h.buckets c))) k u w c s else if y then gives (locked_of k 3 (outcome.Granted (hold_of c s)), (u, w)) else give_up_of (outcome.Busy (reason.After s)) k u w c s)
          one true true p q = inr ((λ n. n (eqb-true _ 0 p)), inr ((λ n. n (eqb-true _ 0 q)), refl))
          one true false p q = inr ((λ n. n (eqb-true _ 0 p)), inl (eqb-false _ 0 q, refl))
          one false y p q = inl (eqb-false _ 0 p, refl)

  after_is : (ps : List Hold) (a : Take) (f : Flow) (t g : List ℕ) (c : ℕ)
      → AfterTake script ps (point h script ps (f, (t, g))) c (answer_of h.boot (outcome_of c a)) (showing (after_take a (given h script ps) h.buckets f t g c))
  after_is ps (taking.Granted s) f t g c = late_is ps f t g c s
  after_is ps (taking.Busy o) f t g c = refl
  after_is ps taking.Damaged f t g c = refl
  after_is ps taking.Spent f t g c = refl

  -- an attempt begun, and the lock
  pub lock_is : (ps : List Hold) (f : Flow) (t g : List ℕ) (c : ℕ)
      → let m = lock_of (given h script ps) h.buckets f t g c in
      Locks script ps (point h script ps (f, (t, g))) c (logged (shown m.seen) (attempt_begun ∷ m.log))
  unfolding lock_of second_stage_of waiters_at
  lock_is ps f t g c =
      let m = boundary_of (given h script ps) f t g in
      let o = m.seen in (
        _,
        (
          pointed h script ps m,
          boundary_is h script ps f t g,
          (_, go o.0 o.1.0 o.1.1 (eqb (get_or o.1.0 (3 * c + 2) 0) 0) refl, refl),
        ),
        refl,
      )
    where
      Second : Flow → List ℕ → List ℕ → Made (World × Says) → Type 0
      Second k u w =
          If◌Then◌Else◌ (get_or u (3 * c + 2) 0 ≢ 0) (Is (logged (shown (locked_of k 1 (outcome.Busy reason.Before), (u, w))) []))
          (After (Boundary script ps (point h script ps (k, (u, w)))) λ d. After (Takes d.world c) λ x. AfterTake script ps (at x.0 d.place d.dropped) c x.1)

      go : (k : Flow) (u w : List ℕ) (b : Bool) → eqb (get_or u (3 * c + 2) 0) 0 ≡ b
          → Second k u w (showing (if b then second_stage_of (given h script ps) h.buckets k u w c else gives (locked_of k 1 (outcome.Busy reason.Before), (u, w))))
      go k u w false e = inl (eqb-false _ 0 e, refl)
      go k u w true e =
          let m = boundary_of (given h script ps) k u w in
          let o = m.seen in
          let n = take_of o.0.next o.1.0 c in
          let x = n.seen in
          inr (
            (λ n. n (eqb-true _ 0 e)),
            (
              pointed h script ps m,
              boundary_is h script ps k u w,
              (
                _,
                (
                  logged (world_of (spent_to h x.0.next) x.1 o.1.1, answer_of h.boot (outcome_of c x.0.answer)) n.log,
                  takes h o.0.next o.1.0 o.1.1 c,
                  (_, after_is ps x.0.answer (flow_of x.0.next o.0.place o.0.dropped) x.1 o.1.1 c, refl),
                ),
                refl,
              ),
            ),
          )

module _ (h : Head) (script : List ℕ) where
  pub back_is : (n : ℕ) (ls : List Hold) (r : Run) (t g : List ℕ)
      → let m = give_back_of n (given h script []) ls r t g in
      ReleasesEach n script ls r.boundaries (point h script [] (r.flow, (t, g))) (logged (m.seen.0.boundaries, point h script [] (m.seen.0.flow, m.seen.1)) m.log)
  unfolding ReleasesEach give_back_of set_cell
  back_is zero ls r t g = refl
  back_is (suc n) ls r t g =
      let u = set_cell t (hold_at ls n).cell 0 0 in
      let m = boundary_of (given h script (take n ls)) r.flow u g in
      let o = m.seen in
      let k = give_back_of n (given h script []) ls (run_of o.0 r.attempts (r.boundaries + 1) r.yields) o.1.0 o.1.1 in
      let rest : Made (ℕ × At) = logged (k.seen.0.boundaries, point h script [] (k.seen.0.flow, k.seen.1)) k.log in
      (logged rest.seen (m.log ++ k.log), (pointed h script [] m, boundary_is h script (take n ls) r.flow u g, (rest, back_is n ls (run_of o.0 r.attempts (r.boundaries + 1) r.yields) o.1.0 o.1.1, refl)), refl)
