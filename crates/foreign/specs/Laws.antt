-- Laws for the code of foreign steps: the pairs one at a time, the protected leases, one turn of a boundary, and the counts.
use Prim.Native.Nat.{ℕ, zero, suc, ◌+◌, ◌-◌, ◌/◌, ◌≤◌, ◌<◌}
use Rattle.std.specs.Prelude.{◌≡◌, List, [], ◌∷◌, ◌++◌, Bool, true, false, not, ◌&&◌, ◌≢◌, ltb, leb, eqb, length, get_or, if◌then◌else◌}
use Rattle.std.proofs.Math.Path.{refl}
use Rattle.std.proofs.Common.{sym, ap, subst, ◌∙◌, append_assoc, leb-true, ne_eqb}
use native.Mathlib.Omega.{arith}
use Rattle.std.proofs.Math.Decide.{ℕ_discrete}
use Rattle.model.specs.Log.{Made}
use Rattle.model.specs.Arena.{serial_remains, bit_at, owner_at, hold_of, holds_of, same_hold, is_in, is_live, held_by, state_at, state_of, is_free, is_held}
use Rattle.model.specs.Foreign.{Setting, setting, flow_of, step_release_of, step_take_of, step_waiters_of, step_health_of, step_of, run_steps_of, boundary_of, kind_at, place_at, number_at, steps_in}
use Rattle.types.specs.declared.Flow.{Flow}
use Rattle.types.specs.declared.Hold.{Hold}
use Rattle.types.specs.declared.State.TheVariants as state
use Rattle.types.specs.declared.Stepped.{Stepped}
use Rattle.choice.specs.Pick.{if_both}
use Rattle.laws.specs.Seen.{seen_if}
use Rattle.foreign.specs.Model.{pairs_of, guards_of}

-- ---- lists of leases

or_false : (b : Bool) → (if b then true else false) ≡ b
or_false true = refl
or_false false = refl

pub is_in_append : (l : Hold) (xs ys : List Hold) → is_in l (xs ++ ys) ≡ (if is_in l xs then true else is_in l ys)
unfolding is_in
is_in_append l [] ys = refl
is_in_append l (x ∷ xs) ys = go (same_hold x l) (is_in_append l xs ys)
  where
    go : (b : Bool) → is_in l (xs ++ ys) ≡ (if is_in l xs then true else is_in l ys)
        → (if b then true else is_in l (xs ++ ys)) ≡ (if (if b then true else is_in l xs) then true else is_in l ys)
    go true e = refl
    go false e = e

-- the pairs from place i on
pub pairs_at : (a : List (List ℕ)) (n i : ℕ) → i < n
    → pairs_of (n - i) i a ≡ hold_of (get_or (get_or a i []) 0 0) (get_or (get_or a i []) 1 0) ∷ pairs_of (n - (i + 1)) (i + 1) a
unfolding pairs_of
pairs_at a n i l = let e : n - i ≡ suc (n - (i + 1)) = omega arith in rw e

pub pairs_end : (a : List (List ℕ)) (n i : ℕ) → n ≤ i → pairs_of (n - i) i a ≡ []
unfolding pairs_of
pairs_end a n i h = let e : n - i ≡ 0 = omega arith in rw e

-- a protected lease is held, taken, or the call's own
pub guarded_is : (l : Hold) (held : List ℕ) (taken : List (List ℕ)) (n : ℕ) (own : Hold)
    → is_in l (guards_of held taken n ++ (own ∷ []))
    ≡ (if is_in l (holds_of held) then true else if is_in l (pairs_of n 0 taken) then true else same_hold own l)
unfolding guards_of is_in
guarded_is l held taken n own =
    rw (append_assoc (holds_of held) (pairs_of n 0 taken) (own ∷ []), is_in_append l (holds_of held) (pairs_of n 0 taken ++ (own ∷ [])), is_in_append l (pairs_of n 0 taken) (own ∷ []), or_false (same_hold own l))

-- ---- a lease of no serial protects nothing

never_held : (next b o : ℕ) → held_by (state_of next b o) 0 ≡ false
unfolding state_of is_held
never_held next b o = go (is_free b o) (eqb b 1) (leb 1 o) (ltb o next) refl
  where
    go : (f x y z : Bool) → leb 1 o ≡ y → held_by (if f then state.Free else if x && (y && z) then state.Held o else state.Damaged) 0 ≡ false
    go true x y z e = refl
    go false true true true e = ne_eqb o 0 (let h = leb-true 1 o e in omega arith)
    go false true true false e = refl
    go false true false z e = refl
    go false false y z e = refl

never_live : (next cells : ℕ) (t : List ℕ) (c : ℕ) → is_live next cells t (hold_of c 0) ≡ false
unfolding is_live state_at
never_live next cells t c = go (ltb c cells)
  where
    go : (b : Bool) → (b && held_by (state_of next (bit_at t c) (owner_at t c)) 0) ≡ false
    go true = never_held next (bit_at t c) (owner_at t c)
    go false = refl

-- so protecting (0, 0) too changes no release
not_zero : (c s : ℕ) → (s ≡ 0 → ⊥) → is_in (hold_of c s) (hold_of 0 0 ∷ []) ≡ false
unfolding is_in same_hold
not_zero c s n = rw (ne_eqb 0 s (λ e. n (sym e))) (go (eqb 0 c))
  where
    go : (b : Bool) → (if b && false then true else false) ≡ false
    go true = refl
    go false = refl

in_too : (c s : ℕ) (ps : List Hold) → (s ≡ 0 → ⊥) → is_in (hold_of c s) (ps ++ (hold_of 0 0 ∷ [])) ≡ is_in (hold_of c s) ps
in_too c s ps n = is_in_append (hold_of c s) ps (hold_of 0 0 ∷ []) ∙ ap (λ b. if is_in (hold_of c s) ps then true else b) (not_zero c s n) ∙ or_false (is_in (hold_of c s) ps)

release_zero : (cells : ℕ) (ps : List Hold) (next : ℕ) (t : List ℕ) (c s : ℕ)
    → step_release_of cells (ps ++ (hold_of 0 0 ∷ [])) next t c s ≡ step_release_of cells ps next t c s
unfolding step_release_of
release_zero cells ps next t c s = go (ℕ_discrete s 0)
  where
    go : Dec (s ≡ 0) → step_release_of cells (ps ++ (hold_of 0 0 ∷ [])) next t c s ≡ step_release_of cells ps next t c s
    go (yes e) = rw (e, never_live next cells t c)
    go (no e) = rw (in_too c s ps e)

module _ (headers cells : ℕ) (script : List ℕ) (ps : List Hold) where
  abbrev with_zero : Setting
  with_zero = setting headers cells script (ps ++ (hold_of 0 0 ∷ []))

  step_zero : (next : ℕ) (t g : List ℕ) (k p q : ℕ) → step_of with_zero next t g k p q ≡ step_of (setting headers cells script ps) next t g k p q
  unfolding step_of
  step_zero next t g k p q = rw (release_zero cells ps next t p q)

  pub steps_zero : (left : ℕ) (f : Flow) (t g : List ℕ) → run_steps_of left with_zero f t g ≡ run_steps_of left (setting headers cells script ps) f t g
  unfolding run_steps_of
  steps_zero zero f t g = refl
  steps_zero (suc left) f t g =
      let o = step_of (setting headers cells script ps) f.next t g (kind_at script f.place) (place_at script f.place) (number_at script f.place) in
      rw (step_zero f.next t g (kind_at script f.place) (place_at script f.place) (number_at script f.place), steps_zero left (flow_of o.seen.0.next (f.place + 1) (f.dropped + o.seen.0.dropped)) o.seen.1.0 o.seen.1.1)

-- ---- one turn of a boundary, at a place of the script; and its end

module _ (e : Setting) (f : Flow) (t g : List ℕ) where
  abbrev turn : Stepped × (List ℕ × List ℕ)
  turn = (step_of e f.next t g (kind_at e.script f.place) (place_at e.script f.place) (number_at e.script f.place)).seen

  pub steps_at : (steps : ℕ) → f.place < steps
      → (run_steps_of (steps - f.place) e f t g).seen
      ≡ (if eqb (kind_at e.script f.place) 5 then (flow_of f.next (f.place + 1) f.dropped, (t, g))
      else (run_steps_of (steps - (f.place + 1)) e (flow_of turn.0.next (f.place + 1) (f.dropped + turn.0.dropped)) turn.1.0 turn.1.1).seen)
  unfolding run_steps_of
  steps_at steps l = let k : steps - f.place ≡ suc (steps - (f.place + 1)) = omega arith in rw k (seen_if (eqb (kind_at e.script f.place) 5) _ _)

  pub steps_end : (steps : ℕ) → steps ≤ f.place → (run_steps_of (steps - f.place) e f t g).seen ≡ (f, (t, g))
  unfolding run_steps_of
  steps_end steps l = let k : steps - f.place ≡ 0 = omega arith in rw k

  -- a boundary past the script's end is quiet
  pub boundary_quiet : steps_in e.script ≤ f.place → (boundary_of e f t g).seen ≡ (f, (t, g))
  unfolding boundary_of
  boundary_quiet l = steps_end (steps_in e.script) l

-- the same, with the step as the code calls it: a step reads nothing of the script but its own words
module _ (headers cells : ℕ) (script : List ℕ) (ps : List Hold) (f : Flow) (t g : List ℕ) where
  abbrev alone : Stepped × (List ℕ × List ℕ)
  alone = (step_of (setting headers cells [] ps) f.next t g (kind_at script f.place) (place_at script f.place) (number_at script f.place)).seen

  same_step : (step_of (setting headers cells script ps) f.next t g (kind_at script f.place) (place_at script f.place) (number_at script f.place)).seen ≡ alone
  unfolding step_of
  same_step = refl

  pub steps_turn : (steps : ℕ) → f.place < steps → (eqb (kind_at script f.place) 5 ≡ false)
      → (run_steps_of (steps - f.place) (setting headers cells script ps) f t g).seen
      ≡ (run_steps_of (steps - (f.place + 1)) (setting headers cells script ps) (flow_of alone.0.next (f.place + 1) (f.dropped + alone.0.dropped)) alone.1.0 alone.1.1).seen
  steps_turn steps l n =
      steps_at (setting headers cells script ps) f t g steps l
      ∙ rw n (ap (λ (o : Stepped × (List ℕ × List ℕ)). (run_steps_of (steps - (f.place + 1)) (setting headers cells script ps) (flow_of o.0.next (f.place + 1) (f.dropped + o.0.dropped)) o.1.0 o.1.1).seen) same_step)

-- only a release asks what is protected
pub step_unguarded : (headers cells : ℕ) (ps : List Hold) (next : ℕ) (t g : List ℕ) (kind place number : ℕ) → kind ≢ 2
    → (step_of (setting headers cells [] ps) next t g kind place number).seen ≡ (step_of (setting headers cells [] []) next t g kind place number).seen
unfolding step_of
step_unguarded headers cells ps next t g kind place number n = rw (ne_eqb kind 2 n)

-- ---- counts: a step drops at most one, and drops stay flow-bound by steps

abbrev Few : Made (Stepped × List ℕ) → Type 0
Few o = o.seen.0.dropped ≤ 1

abbrev Few2 : Made (Stepped × (List ℕ × List ℕ)) → Type 0
Few2 o = o.seen.0.dropped ≤ 1

take_few : (cells next : ℕ) (t : List ℕ) (c : ℕ) → Few (step_take_of cells next t c)
unfolding step_take_of
take_few cells next t c = if_both Few (ltb c cells && is_free (bit_at t c) (owner_at t c) && serial_remains next) (omega arith) (omega arith)

release_few : (cells : ℕ) (ps : List Hold) (next : ℕ) (t : List ℕ) (c s : ℕ) → Few (step_release_of cells ps next t c s)
unfolding step_release_of
release_few cells ps next t c s = if_both Few (is_live next cells t (hold_of c s) && not (is_in (hold_of c s) ps)) (omega arith) (omega arith)

waiters_few : (cells next : ℕ) (t : List ℕ) (c n : ℕ) → Few (step_waiters_of cells next t c n)
unfolding step_waiters_of
waiters_few cells next t c n = if_both Few (ltb c cells) (omega arith) (omega arith)

health_few : (headers next : ℕ) (g : List ℕ) (i n : ℕ) → Few (step_health_of headers next g i n)
unfolding step_health_of
health_few headers next g i n = if_both Few (ltb i headers && leb n 1) (omega arith) (omega arith)

pub step_few : (e : Setting) (next : ℕ) (t g : List ℕ) (k p q : ℕ) → (step_of e next t g k p q).seen.0.dropped ≤ 1
unfolding step_of
step_few e next t g k p q =
    if_both Few2 (eqb k 0) (omega arith)
    (if_both Few2 (eqb k 1) (take_few e.cells next t p)
    (if_both Few2 (eqb k 2) (release_few e.cells e.protected next t p q)
    (if_both Few2 (eqb k 3) (waiters_few e.cells next t p q)
    (if_both Few2 (eqb k 4) (health_few e.headers next g p q)
    (if_both Few2 (eqb k 5) (omega arith) (omega arith))))))

pub step_drops : (o : Stepped × (List ℕ × List ℕ)) (e : Setting) (next : ℕ) (t g : List ℕ) (k p q : ℕ)
    → o ≡ (step_of e next t g k p q).seen → o.0.dropped ≤ 1
step_drops o e next t g k p q h = rw h (step_few e next t g k p q)

-- what a boundary keeps: drops are flow-bound by steps, the place does not pass the script's end
pub record FlowBound (steps : ℕ) (f : Flow) : Type 0 where
  pub few : f.dropped ≤ f.place
  pub in_script : f.place ≤ steps

abbrev FlowBoundAfter : ℕ → Made (Flow × (List ℕ × List ℕ)) → Type 0
FlowBoundAfter steps o = FlowBound steps o.seen.0

steps_flow_bound : (e : Setting) (left : ℕ) (f : Flow) (t g : List ℕ) → f.dropped ≤ f.place → FlowBoundAfter (f.place + left) (run_steps_of left e f t g)
unfolding run_steps_of
steps_flow_bound e zero f t g b = record { few = b; in_script = omega arith }
steps_flow_bound e (suc left) f t g b =
    let k = kind_at e.script f.place in
    let p = place_at e.script f.place in
    let q = number_at e.script f.place in
    let o = (step_of e f.next t g k p q).seen in
    let d = step_few e f.next t g k p q in
    let n : f.place + 1 + left ≡ f.place + suc left = omega arith in
    if_both (FlowBoundAfter (f.place + suc left)) (eqb k 5) (record { few = omega arith; in_script = omega arith })
    (subst (λ m. FlowBoundAfter m (run_steps_of left e (flow_of o.0.next (f.place + 1) (f.dropped + o.0.dropped)) o.1.0 o.1.1)) n
    (steps_flow_bound e left (flow_of o.0.next (f.place + 1) (f.dropped + o.0.dropped)) o.1.0 o.1.1 (omega arith)))

-- what a caller of a boundary uses
pub boundary_flow_bound : (o : Flow × (List ℕ × List ℕ)) (e : Setting) (f : Flow) (t g : List ℕ)
    → o ≡ (boundary_of e f t g).seen → FlowBound (steps_in e.script) f → FlowBound (steps_in e.script) o.0
unfolding boundary_of
boundary_flow_bound o e f t g q b =
    let n : f.place + (steps_in e.script - f.place) ≡ steps_in e.script = omega (arith, b.in_script) in
    rw q (subst (λ m. FlowBoundAfter m (run_steps_of (steps_in e.script - f.place) e f t g)) n (steps_flow_bound e (steps_in e.script - f.place) f t g b.few))

-- where the loop over a script stands: what remains from here is what the whole comes to
pub record Walk (e : Setting) (steps : ℕ) (f₀ : Flow) (t₀ g₀ : List ℕ) (f : Flow) (t g : List ℕ) : Type 0 where
  pub flow_bound : FlowBound steps f
  pub words : length t ≡ length t₀
  pub bytes : length g ≡ length g₀
  pub rest : (run_steps_of (steps - f.place) e f t g).seen ≡ (run_steps_of (steps - f₀.place) e f₀ t₀ g₀).seen

-- the same, as the code lends a script and its number of steps
pub boundary_goes : (o : Flow × (List ℕ × List ℕ)) (headers cells steps : ℕ) (script : List ℕ) (ps : List Hold) (f : Flow) (t g : List ℕ)
    → steps ≡ length script / 3 → o ≡ (boundary_of (setting headers cells script ps) f t g).seen → FlowBound steps f → FlowBound steps o.0
boundary_goes o headers cells steps script ps f t g n q b = rw n (boundary_flow_bound o (setting headers cells script ps) f t g q (rw (← n) b))
