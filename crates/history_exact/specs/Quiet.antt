-- Where the script is at its end nothing happens between the steps of a call. Then a lock must lock: what each call answers, by a table.
use Prim.Native.Nat.{ℕ, zero, suc, ◌+◌, ◌*◌, ◌-◌, ◌/◌, ◌%◌, ◌≤◌, ◌<◌}
use Rattle.std.specs.Prelude.{◌≡◌, Bool, ◌≢◌, eqb, get_or, set, if◌then◌else◌}
use Rattle.std.proofs.Math.Path.{refl, ap}
use Rattle.std.proofs.Common.{sym, ◌∙◌, set-set}
use mathlib.Core.List.{List, [], ◌∷◌}
use Rattle.std.proofs.Math.Bool.{true, false}
use Rattle.std.proofs.Math.Nat.{suc-mul, zero-mul}
use native.Mathlib.Omega.{arith}
use Rattle.std.proofs.Math.Decide.{ℕ_discrete}
use borrow.Author.Tests.{ltb-true, ltb-false, eqb-true, eqb-false, eq-eqb, ne_eqb}
use Rattle.std.proofs.lemmas.List.{set-get_or}
use Rattle.model.specs.Log.{Made, boundary_run}
use Rattle.model.specs.Arena.{last_serial, serial_remains, header_of, hold_of, bit_at, owner_at, waiters_at, set_cell, state_at}
use Rattle.model.specs.Foreign.{Setting, protecting, steps_in, flow_of, run_steps_of, boundary_of}
use Rattle.model.specs.Lock.{take_in, take_of, locked_of, late_stage_of, after_take, second_stage_of, lock_of, run_of, tried_of, attempt_of, spin_of, pause_of, retry_of}
use Rattle.types.specs.declared.Flow.{Flow}
use Rattle.types.specs.declared.Locked.{Locked}
use Rattle.types.specs.declared.Outcome.TheVariants as outcome
use Rattle.types.specs.declared.Reason.{Reason}
use Rattle.types.specs.declared.Reason.TheVariants as reason
use Rattle.types.specs.declared.Run.{Run}
use Rattle.types.specs.declared.State.{State}
use Rattle.types.specs.declared.Refusal.TheVariants as refusal
use Rattle.types.specs.declared.Took.{Took}
use Rattle.laws.specs.Words.{waiters_set_cell}
use Rattle.history.specs.World.{one}
use Rattle.history.specs.Tests.{Stands, stands, is_free_lem, is_held_lem, is_damaged, if_cases}
use Rattle.history.specs.Steps.{With}

-- ---- one quiet boundary, and one quiet `try_lock`

module _ (e : Setting) (f : Flow) (t g : List ℕ) where
  pub boundary_quiet : steps_in e.script ≤ f.place → boundary_of e f t g ≡ record { seen = (f, (t, g)); log = boundary_run ∷ [] }
  unfolding boundary_of run_steps_of
  boundary_quiet l = let k : steps_in e.script - f.place ≡ 0 = omega arith in rw k

-- what a cell was before it was taken
set_swap : (l : List ℕ) (i j a b : ℕ) → i ≢ j → set (set l i a) j b ≡ set (set l j b) i a
set_swap [] i j a b n = refl
set_swap (x ∷ xs) zero zero a b n = absurd (n refl)
set_swap (x ∷ xs) zero (suc j) a b n = refl
set_swap (x ∷ xs) (suc i) zero a b n = refl
set_swap (x ∷ xs) (suc i) (suc j) a b n = ap (λ (r : List ℕ). x ∷ r) (set_swap xs i j a b (λ e. n (ap (λ (z : ℕ). suc z) e)))

pub taken_back : (t : List ℕ) (c s : ℕ) → bit_at t c ≡ 0 → owner_at t c ≡ 0 → set_cell (set_cell t c 1 s) c 0 0 ≡ t
unfolding set_cell bit_at owner_at
taken_back t c s b o =
    let i = 3 * c in
    let j = 3 * c + 1 in
    let was : set t i 0 ≡ t = ap (λ (z : ℕ). set t i z) (sym b) ∙ set-get_or t i 0 in
    let owned : set t j 0 ≡ t = ap (λ (z : ℕ). set t j z) (sym o) ∙ set-get_or t j 0 in
    ap (λ (r : List ℕ). set r j 0) (set_swap (set t i 1) j i s 0 (omega arith) ∙ ap (λ (r : List ℕ). set r j s) (set-set t i 1 0 ∙ was))
    ∙ set-set t j s 0 ∙ owned

-- what one quiet try_lock of cell c comes to: six rows
pub data QuietLock (buckets : ℕ) (f : Flow) (t g : List ℕ) (c : ℕ) : With Locked → Type 0 where
  was_waited : (waiters_at t c ≡ 0 → ⊥) → QuietLock buckets f t g c (locked_of f 1 (outcome.Busy reason.Before), (t, g))
  was_held : waiters_at t c ≡ 0 → bit_at t c ≡ 1 → 1 ≤ owner_at t c → owner_at t c < f.next
      → QuietLock buckets f t g c (locked_of f 2 (outcome.Busy (reason.Held (owner_at t c))), (t, g))
  was_damaged : waiters_at t c ≡ 0 → (bit_at t c ≡ 0 → owner_at t c ≡ 0 → ⊥) → (bit_at t c ≡ 1 → 1 ≤ owner_at t c → owner_at t c < f.next → ⊥)
      → QuietLock buckets f t g c (locked_of f 2 (outcome.Refused (refusal.Damaged c)), (t, g))
  was_spent : waiters_at t c ≡ 0 → bit_at t c ≡ 0 → owner_at t c ≡ 0 → last_serial ≤ f.next
      → QuietLock buckets f t g c (locked_of f 2 (outcome.Refused (refusal.SerialsSpent c)), (t, g))
  was_free : waiters_at t c ≡ 0 → bit_at t c ≡ 0 → owner_at t c ≡ 0 → f.next < last_serial → get_or g (header_of buckets c) 0 ≡ 0
      → QuietLock buckets f t g c (locked_of (flow_of (f.next + 1) f.place f.dropped) 3 (outcome.Granted (hold_of c f.next)), (set_cell t c 1 f.next, g))
  was_sick : waiters_at t c ≡ 0 → bit_at t c ≡ 0 → owner_at t c ≡ 0 → f.next < last_serial → (get_or g (header_of buckets c) 0 ≡ 0 → ⊥)
      → QuietLock buckets f t g c (locked_of (flow_of (f.next + 1) f.place f.dropped) 3 (outcome.Refused (refusal.Poisoned (header_of buckets c))), (t, g))

module _ (e : Setting) (buckets : ℕ) (f : Flow) (t g : List ℕ) (c : ℕ) (quiet : steps_in e.script ≤ f.place) where
  late_quiet : (n : ℕ) (u : List ℕ) (s : ℕ) → waiters_at u c ≡ 0 → get_or g (header_of buckets c) 0 ≡ 0
      → (late_stage_of e buckets (flow_of n f.place f.dropped) u g c s).seen ≡ (locked_of (flow_of n f.place f.dropped) 3 (outcome.Granted (hold_of c s)), (u, g))
  unfolding late_stage_of
  late_quiet n u s w h =
      rw (boundary_quiet (protecting e (hold_of c s ∷ [])) (flow_of n f.place f.dropped) u g quiet, eq-eqb (get_or g (header_of buckets c) 0) 0 h, eq-eqb (waiters_at u c) 0 w)

  late_sick : (n : ℕ) (u : List ℕ) (s : ℕ) → (get_or g (header_of buckets c) 0 ≡ 0 → ⊥)
      → (late_stage_of e buckets (flow_of n f.place f.dropped) u g c s).seen
      ≡ (locked_of (flow_of n f.place f.dropped) 3 (outcome.Refused (refusal.Poisoned (header_of buckets c))), (set_cell u c 0 0, g))
  unfolding late_stage_of
  late_sick n u s h =
      rw (boundary_quiet (protecting e (hold_of c s ∷ [])) (flow_of n f.place f.dropped) u g quiet, ne_eqb (get_or g (header_of buckets c) 0) 0 h)

  pub lock_quiet : QuietLock buckets f t g c (lock_of e buckets f t g c).seen
  unfolding lock_of second_stage_of take_of state_at
  lock_quiet = rw (boundary_quiet e f t g quiet, boundary_quiet e f t g quiet) (
      if_cases (λ (m : Made (With Locked)). QuietLock buckets f t g c m.seen) (eqb (waiters_at t c) 0)
      (λ w. on (eqb-true _ _ w) (stands f.next (bit_at t c) (owner_at t c)))
      (λ w. was_waited (eqb-false _ _ w)))
    where
      After : Made (Took × List ℕ) → Type 0
      After k = QuietLock buckets f t g c (after_take k.seen.0.answer e buckets (flow_of k.seen.0.next f.place f.dropped) k.seen.1 g c).seen

      taken : waiters_at t c ≡ 0 → bit_at t c ≡ 0 → owner_at t c ≡ 0 → f.next < last_serial → Dec (get_or g (header_of buckets c) 0 ≡ 0)
          → QuietLock buckets f t g c (late_stage_of e buckets (flow_of (f.next + 1) f.place f.dropped) (set_cell t c 1 f.next) g c f.next).seen
      taken w p q r (yes h) = rw (late_quiet (f.next + 1) (set_cell t c 1 f.next) f.next (waiters_set_cell t c 1 f.next c ∙ w) h) (was_free w p q r h)
      taken w p q r (no h) = rw (late_sick (f.next + 1) (set_cell t c 1 f.next) f.next h, taken_back t c f.next p q) (was_sick w p q r h)

      on : waiters_at t c ≡ 0 → {x : State} → Stands f.next (bit_at t c) (owner_at t c) x → After (take_in x f.next t c)
      on w (is_damaged p q) = was_damaged w p q
      on w (is_held_lem p q r) = was_held w p q r
      on w (is_free_lem p q) =
          if_cases After (serial_remains f.next)
          (λ r. taken w p q (ltb-true _ _ r) (ℕ_discrete (get_or g (header_of buckets c) 0) 0))
          (λ r. was_spent w p q (ltb-false _ _ r))

-- ---- Busy attempts in a row

-- yields among `left` Busy attempts, the first of which has number i
unfoldable pub yields_in : ℕ → ℕ → ℕ
yields_in zero i = 0
yields_in (suc left) i = one (eqb (i % 64) 63) + yields_in left (i + 1)

one_more : (i : ℕ) → one (eqb (i % 64) 63) + i / 64 ≡ (i + 1) / 64
one_more i = go (eqb (i % 64) 63) refl
  where
    go : (b : Bool) → eqb (i % 64) 63 ≡ b → one b + i / 64 ≡ (i + 1) / 64
    go true e = let q = eqb-true (i % 64) 63 e in omega arith
    go false e = let q = eqb-false (i % 64) 63 e in omega arith

-- "whose number has remainder 63 by 64": one for every 64
pub yields_are : (left i : ℕ) → yields_in left i + i / 64 ≡ (i + left) / 64
unfolding yields_in
yields_are zero i = omega arith
yields_are (suc left) i =
    let k : i + 1 + left ≡ i + suc left = omega arith in
    omega (arith, one_more i, rw k at (yields_are left (i + 1)))

module _ (e : Setting) (f : Flow) (t g : List ℕ) (quiet : steps_in e.script ≤ f.place) where
  -- a run that counts the same is the same
  same_run : {a a' x x' y y' : ℕ} → a ≡ a' → x ≡ x' → y ≡ y' → run_of f a x y ≡ run_of f a' x' y'
  same_run p q r = cc

  spin_quiet : (a x y : ℕ) → (spin_of e (run_of f a x y) t g).seen ≡ (run_of f a (x + 1) y, (t, g))
  unfolding spin_of
  spin_quiet a x y = rw (boundary_quiet e f t g quiet)

  pause_quiet : (i a x y : ℕ)
      → (pause_of e i (run_of f a x y) t g).seen ≡ (run_of f a (x + 1 + one (eqb (i % 64) 63)) (y + one (eqb (i % 64) 63)), (t, g))
  unfolding pause_of
  pause_quiet i a x y =
      rw (boundary_quiet e f t g quiet) (go (eqb (i % 64) 63) _ _ (spin_quiet a (x + 1) (y + 1))
      (spin_quiet a x y ∙ ap (λ (r : Run). (r, (t, g))) (same_run refl (omega arith) (omega arith))))
    where
      go : (b : Bool) (m o : Made (With Run)) → m.seen ≡ (run_of f a (x + 1 + 1) (y + 1), (t, g)) → o.seen ≡ (run_of f a (x + 1 + 0) (y + 0), (t, g))
          → (if b then m else o).seen ≡ (run_of f a (x + 1 + one b) (y + one b), (t, g))
      go true m o p q = p
      go false m o p q = q

  -- attempts that are all Busy for one reason, with b boundaries each, and change nothing: each has a boundary for its spin too, and each yield one more
  module _ (buckets : ℕ) (registry : List ℕ) (binding bucket b : ℕ) (why : Reason)
      (busy : (a x y : ℕ) → (attempt_of e buckets registry binding bucket (run_of f a x y) t g).seen ≡ (tried_of (run_of f (a + 1) (x + b) y) (outcome.Busy why), (t, g))) where
    pub busy_retry : (left i a x y : ℕ)
        → (retry_of left i why e buckets registry binding bucket (run_of f a x y) t g).seen
        ≡ (tried_of (run_of f (a + left) (x + left * (b + 1) + yields_in left i) (y + yields_in left i)) (outcome.Busy why), (t, g))
    unfolding retry_of yields_in
    busy_retry zero i a x y = ap (λ (r : Run). (tried_of r (outcome.Busy why), (t, g))) (same_run (omega arith) (omega (arith, zero-mul (b + 1))) (omega arith))
    busy_retry (suc left) i a x y =
        rw (busy a x y, pause_quiet i (a + 1) (x + b) y, busy_retry left (i + 1) (a + 1) (x + b + 1 + one (eqb (i % 64) 63)) (y + one (eqb (i % 64) 63)))
        (ap (λ (r : Run). (tried_of r (outcome.Busy why), (t, g))) (same_run (omega arith) (omega (arith, suc-mul left (b + 1))) (omega arith)))
