-- A foreign step, alone or in a script: what it asks for, and that it is performed exactly if that is legal when its turn comes. Else it is
-- dropped, once, and nothing changes.
use Rattle.std.specs.Prelude.{ℕ, ◌≤◌, ◌≡◌, List, [], ◌∷◌, ◌++◌, true, ◌&&◌, ltb, eqb}
use Rattle.std.proofs.Math.Path.{refl}
use Rattle.std.proofs.Common.{sym, ◌∙◌, subst, arith}
use Rattle.std.proofs.Math.Bool.{not}
use Rattle.std.proofs.Math.Dec.{leb}
use borrow.Author.Tests.{ltb-true, leb-true, eqb-true, eqb-false, lt-ltb, le-leb, eq-eqb, not-true}
use Rattle.model.specs.Log.{Made, Event, by_script, step_dropped, took, released, waiters_set, health_set}
use Rattle.model.specs.Arena.{last_serial, serial_remains, cells_of, hold_of, bit_at, owner_at, is_free, is_live, is_in}
use Rattle.model.specs.Foreign.{step_take_of, step_release_of, step_waiters_of, step_health_of, step_of}
use Rattle.model.specs.Calls.{given}
use Rattle.types.specs.declared.Head.{Head}
use Rattle.types.specs.declared.Hold.{Hold}
use Rattle.types.specs.declared.Stepped.{Stepped}
use Rattle.choice.specs.Pick.{both}
use Rattle.history.specs.World.{World}
use Rattle.history.specs.Tests.{differ, is_free_state, free_words, if_cases}
use Rattle.history.specs.Steps.{With, world_at, of_step}
use Rattle.history_exact.specs.Statements.{Allowed, Asks, Stepping, dropped, looks, release_it, set_health, set_waiters_lem, take_a_cell, ends, performed}

-- only kinds 1 to 4 ask for anything
asks_kind : {w : World} {kind place number : ℕ} {e : Event} → Asks w kind place number e → (1 ≤ kind) × (kind ≤ 4)
asks_kind (take_a_cell c s) = (omega arith, omega arith)
asks_kind (release_it c s) = (omega arith, omega arith)
asks_kind (set_waiters_lem c s) = (omega arith, omega arith)
asks_kind (set_health c s) = (omega arith, omega arith)

-- `step_of` is such a step, on any arena
module _ (h : Head) (script : List ℕ) (ps : List Hold) (n : ℕ) (t g : List ℕ) where
  abbrev before : World
  before = world_at h n t g

  abbrev Is : (kind place number : ℕ) → Made (With Stepped) → Type 0
  Is kind place number m = Stepping before ps kind place number (of_step h m.seen) m.log m.seen.0.dropped

  -- a step that asks for e alone, which is not allowed
  gone : {kind place number : ℕ} (e : Event) → Asks before kind place number e → ((x : Event) → Asks before kind place number x → e ≡ x) → (Allowed before ps e → ⊥)
      → Stepping before ps kind place number before (step_dropped ∷ []) 1
  gone e a o n = dropped (λ z. omega (arith, (asks_kind a).0)) (λ z. omega (arith, (asks_kind a).1)) (λ x b l. n (subst (Allowed before ps) (sym (o x b)) l))

  -- a step on one run, and then nothing
  abbrev OnTable : (kind place number : ℕ) → Made (Stepped × List ℕ) → Type 0
  OnTable kind place number m = Stepping before ps kind place number (world_at h m.seen.0.next m.seen.1 g) (m.log ++ []) m.seen.0.dropped

  abbrev OnHealth : (kind place number : ℕ) → Made (Stepped × List ℕ) → Type 0
  OnHealth kind place number m = Stepping before ps kind place number (world_at h m.seen.0.next t m.seen.1) (m.log ++ []) m.seen.0.dropped

  take_is : (c s : ℕ) → OnTable 1 c s (step_take_of (cells_of h) n t c)
  unfolding step_take_of is_free
  take_is c s =
      if_cases (OnTable 1 c s) (ltb c (cells_of h) && is_free (bit_at t c) (owner_at t c) && serial_remains n)
      (λ e.
      let p = both (ltb c (cells_of h) && is_free (bit_at t c) (owner_at t c)) (serial_remains n) e in
      let q = both (ltb c (cells_of h)) (is_free (bit_at t c) (owner_at t c)) p.0 in
      performed (took by_script c n) (take_a_cell c s) ((ltb-true _ _ q.0, is_free_state n t c q.1), (refl, ltb-true _ _ p.1)))
      (λ e. gone (took by_script c n) (take_a_cell c s) only
      (λ l.
      let f = free_words n t c l.0.1 in
      differ (sym e ∙ rw (lt-ltb c (cells_of h) l.0.0, eq-eqb (bit_at t c) 0 f.0, eq-eqb (owner_at t c) 0 f.1, lt-ltb n last_serial l.1.1))))
    where
      only : (x : Event) → Asks before 1 c s x → took by_script c n ≡ x
      only x (take_a_cell _ _) = refl

  release_is : (c s : ℕ) → OnTable 2 c s (step_release_of (cells_of h) ps n t c s)
  unfolding step_release_of
  release_is c s =
      if_cases (OnTable 2 c s) (is_live n (cells_of h) t (hold_of c s) && not (is_in (hold_of c s) ps))
      (λ e.
      let p = both (is_live n (cells_of h) t (hold_of c s)) (not (is_in (hold_of c s) ps)) e in
      performed (released by_script c s) (release_it c s) (p.0, not-true _ p.1))
      (λ e. gone (released by_script c s) (release_it c s) only (λ l. differ (sym e ∙ rw (l.0, l.1))))
    where
      only : (x : Event) → Asks before 2 c s x → released by_script c s ≡ x
      only x (release_it _ _) = refl

  waiters_is : (c s : ℕ) → OnTable 3 c s (step_waiters_of (cells_of h) n t c s)
  unfolding step_waiters_of
  waiters_is c s =
      if_cases (OnTable 3 c s) (ltb c (cells_of h))
      (λ e. performed (waiters_set c s) (set_waiters_lem c s) (ltb-true _ _ e))
      (λ e. gone (waiters_set c s) (set_waiters_lem c s) only (λ l. differ (sym e ∙ lt-ltb _ _ l)))
    where
      only : (x : Event) → Asks before 3 c s x → waiters_set c s ≡ x
      only x (set_waiters_lem _ _) = refl

  health_is : (i s : ℕ) → OnHealth 4 i s (step_health_of h.headers n g i s)
  unfolding step_health_of
  health_is i s =
      if_cases (OnHealth 4 i s) (ltb i h.headers && leb s 1)
      (λ e.
      let p = both (ltb i h.headers) (leb s 1) e in
      performed (health_set i s) (set_health i s) (ltb-true _ _ p.0, leb-true _ _ p.1))
      (λ e. gone (health_set i s) (set_health i s) only (λ l. differ (sym e ∙ rw (lt-ltb i h.headers l.0, le-leb s 1 l.1))))
    where
      only : (x : Event) → Asks before 4 i s x → health_set i s ≡ x
      only x (set_health _ _) = refl

  pub step_is : (kind place number : ℕ) → Is kind place number (step_of (given h script ps) n t g kind place number)
  unfolding step_of
  step_is kind place number =
      if_cases P (eqb kind 0) (λ e. looks (eqb-true _ _ e)) (λ e₀.
      if_cases P (eqb kind 1) (λ e. at 1 e (take_is place number)) (λ e₁.
      if_cases P (eqb kind 2) (λ e. at 2 e (release_is place number)) (λ e₂.
      if_cases P (eqb kind 3) (λ e. at 3 e (waiters_is place number)) (λ e₃.
      if_cases P (eqb kind 4) (λ e. at 4 e (health_is place number)) (λ e₄.
      if_cases P (eqb kind 5) (λ e. ends (eqb-true _ _ e)) (λ e₅.
      dropped (eqb-false _ _ e₀) (eqb-false _ _ e₅) (λ x a l. none (eqb-false _ _ e₁) (eqb-false _ _ e₂) (eqb-false _ _ e₃) (eqb-false _ _ e₄) (asks_kind a))))))))
    where
      P : Made (With Stepped) → Type 0
      P = Is kind place number

      at : (k : ℕ) {v : World} {es : List Event} {d : ℕ} → eqb kind k ≡ true → Stepping before ps k place number v es d → Stepping before ps kind place number v es d
      at k {v} {es} {d} e s = subst (λ x. Stepping before ps x place number v es d) (sym (eqb-true _ _ e)) s

      none : (kind ≡ 1 → ⊥) → (kind ≡ 2 → ⊥) → (kind ≡ 3 → ⊥) → (kind ≡ 4 → ⊥) → (1 ≤ kind) × (kind ≤ 4) → ⊥
      none a b c d r = omega (arith, r.0, r.1)
