-- "lock in rising order", read off the log of a granted or a refused call: each key's attempts take its own cell alone, and the sorted cells rise.
use Prim.Native.Nat.{ℕ, zero, suc, ◌+◌, ◌%◌, ◌≤◌, ◌<◌}
use Rattle.std.specs.Prelude.{◌≡◌, refl, ◌⊎◌, eqb, length, take, Ok, Err}
use Rattle.std.proofs.Common.{sym, inl, inr, arith}
use Rattle.std.proofs.Math.Path.{subst}
use mathlib.Core.List.{List, [], ◌∷◌, ◌++◌}
use Rattle.types.specs.Checks.{Found}
use Rattle.choice.specs.Pick.{if_both}
use Rattle.model.specs.Log.{Made, Event, by_caller, by_script, attempt_begun, boundary_run, yielded, spun, step_dropped, took, released, waiters_set, health_set, held_all_lem, added}
use Rattle.model.specs.Arena.{serial_remains, header_of, is_poisoned, waiters_at, set_cell, state_at, hold_of, holds_of}
use Rattle.model.specs.Foreign.{Setting, protecting, flow_of, boundary_of}
use Rattle.model.specs.Lock.{take_in, take_of, after_take, late_stage_of, second_stage_of, lock_of, run_of, find_of, attempt_at, attempt_of, spin_of, pause_of, is_busy, retry_of, hold_at, give_back_of, rollback_of, after_key, binding_at, bucket_at, attempt_limit, none_yet, locks_of}
use Rattle.model.specs.Calls.{given, starting}
use Rattle.types.specs.declared.Flow.{Flow}
use Rattle.types.specs.declared.Hold.{Hold}
use Rattle.types.specs.declared.Locked.{Locked}
use Rattle.types.specs.declared.Outcome.{Outcome}
use Rattle.types.specs.declared.Outcome.TheVariants as outcome
use Rattle.types.specs.declared.Reason.{Reason}
use Rattle.types.specs.declared.Run.{Run}
use Rattle.types.specs.declared.State.{State}
use Rattle.types.specs.declared.State.TheVariants as state
use Rattle.types.specs.declared.Take.{Take}
use Rattle.types.specs.declared.Take.TheVariants as taking
use Rattle.types.specs.declared.Took.{Took}
use Rattle.types.specs.declared.Tried.{Tried}
use Rattle.history.specs.World.{World}
use Rattle.history.specs.Items.{Says, acquire_sorted, cell_of, key_cell, perform}
use Rattle.history.specs.ByKey.{FoundAt}
use Rattle.history.proofs.ByKey.{found_own}
use Rattle.history.specs.Rollback.{Foreigner}
use Rattle.history.proofs.Rollback.{Every, end, also, every_append, every_map, boundary_foreign}
use Rattle.history.proofs.Shared.{sorted_cells, chosen_keys, sorted_rises, rising_at, chosen_cell}
use Rattle.sorted_theory.specs.Statements.{TakesRise}
use Rattle.sorted_theory.specs.Runs.{Goes, refused_whole, refused_key, locks, goes}

-- ---- a log whose takes rise

-- the cell that the caller took last, after one more event
abbrev last_taken : ℕ → Event → ℕ
last_taken low attempt_begun = low
last_taken low boundary_run = low
last_taken low yielded = low
last_taken low spun = low
last_taken low step_dropped = low
last_taken low (took by_caller c s) = c
last_taken low (took by_script c s) = low
last_taken low (released a c s) = low
last_taken low (waiters_set c n) = low
last_taken low (health_set i n) = low
last_taken low (held_all_lem m) = low
last_taken low (added m c v) = low

-- each cell taken is not below the one before; the first is at least `low`
abbrev Climbs : ℕ → List Event → Type 0
Climbs low [] = Unit {0}
Climbs low (e ∷ es) = (low ≤ last_taken low e) × Climbs (last_taken low e) es

climbs_at : (low c s : ℕ) (before after : List Event) → Climbs low (before ++ (took by_caller c s ∷ after)) → (low ≤ c) × Climbs c after
climbs_at low c s [] after k = k
climbs_at low c s (e ∷ before) after k = let r = climbs_at (last_taken low e) c s before after k.1 in (omega (arith, k.0, r.0), r.1)

-- from wherever the caller stands, if not above d
abbrev Up : ℕ → List Event → Type 0
Up d es = (low : ℕ) → low ≤ d → Climbs low es

-- the caller takes cell d here, or nothing
abbrev Only : ℕ → Event → Type 0
Only d e = ((low : ℕ) → last_taken low e ≡ low) ⊎ ((low : ℕ) → last_taken low e ≡ d)

foreign_only : (d : ℕ) (e : Event) → Foreigner e → Only d e
foreign_only d attempt_begun f = inl (λ low. refl)
foreign_only d boundary_run f = inl (λ low. refl)
foreign_only d yielded f = inl (λ low. refl)
foreign_only d spun f = inl (λ low. refl)
foreign_only d step_dropped f = inl (λ low. refl)
foreign_only d (took by_caller c s) f = absurd f
foreign_only d (took by_script c s) f = inl (λ low. refl)
foreign_only d (released a c s) f = inl (λ low. refl)
foreign_only d (waiters_set c n) f = inl (λ low. refl)
foreign_only d (health_set i n) f = inl (λ low. refl)
foreign_only d (held_all_lem m) f = inl (λ low. refl)
foreign_only d (added m c v) f = inl (λ low. refl)

up_behind : (d : ℕ) (xs ys : List Event) → Every (Only d) xs → Up d ys → Up d (xs ++ ys)
up_behind d [] ys end u low l = u low l
up_behind d (x ∷ xs) ys (also e (inl f) a) u low l = (omega (arith, f low), subst (λ (n : ℕ). Climbs n (xs ++ ys)) (sym (f low)) (up_behind d xs ys a u low l))
up_behind d (x ∷ xs) ys (also e (inr f) a) u low l = (omega (arith, l, f low), subst (λ (n : ℕ). Climbs n (xs ++ ys)) (sym (f low)) (up_behind d xs ys a u d (omega arith)))

-- ---- the attempts at one cell take that cell alone

boundary_only : (d : ℕ) (e : Setting) (f : Flow) (t g : List ℕ) → Every (Only d) (boundary_of e f t g).log
boundary_only d e f t g = every_map (foreign_only d) (boundary_foreign e f t g)

take_only : (next : ℕ) (t : List ℕ) (c : ℕ) → Every (Only c) (take_of next t c).log
unfolding take_of
take_only next t c = go (state_at next t c)
  where
    go : (x : State) → Every (Only c) (take_in x next t c).log
    go state.Damaged = end
    go (state.Held owner) = end
    go state.Free = if_both (λ (m : Made (Took × List ℕ)). Every (Only c) m.log) (serial_remains next) (also _ (inr (λ low. refl)) end) end

module _ (e : Setting) (buckets : ℕ) (c : ℕ) where
  abbrev Locking : Made (Locked × (List ℕ × List ℕ)) → Type 0
  Locking m = Every (Only c) m.log

  late_only : (f : Flow) (t g : List ℕ) (s : ℕ) → Locking (late_stage_of e buckets f t g c s)
  unfolding late_stage_of
  late_only f t g s =
      let m = (boundary_of (protecting e (hold_of c s ∷ [])) f t g).seen in
      every_append (boundary_only c (protecting e (hold_of c s ∷ [])) f t g)
      (if_both Locking (is_poisoned m.1.1 (header_of buckets c)) (also _ (inl (λ low. refl)) end)
      (if_both Locking (eqb (waiters_at m.1.0 c) 0) end (also _ (inl (λ low. refl)) end)))

  second_only : (f : Flow) (t g : List ℕ) → Locking (second_stage_of e buckets f t g c)
  unfolding second_stage_of
  second_only f t g =
      let m = (boundary_of e f t g).seen in
      let k = (take_of m.0.next m.1.0 c).seen in
      every_append (boundary_only c e f t g)
      (every_append (take_only m.0.next m.1.0 c) (go (flow_of k.0.next m.0.place m.0.dropped) k.1 m.1.1 k.0.answer))
    where
      go : (v : Flow) (t g : List ℕ) (x : Take) → Locking (after_take x e buckets v t g c)
      go v t g (taking.Granted s) = late_only v t g s
      go v t g (taking.Busy owner) = end
      go v t g taking.Damaged = end
      go v t g taking.Spent = end

  lock_only : (f : Flow) (t g : List ℕ) → Locking (lock_of e buckets f t g c)
  unfolding lock_of
  lock_only f t g =
      let m = (boundary_of e f t g).seen in
      every_append (boundary_only c e f t g) (if_both Locking (eqb (waiters_at m.1.0 c) 0) (second_only m.0 m.1.0 m.1.1) end)

module _ (e : Setting) (buckets : ℕ) (registry : List ℕ) (binding bucket : ℕ) where
  abbrev own : ℕ
  own = cell_of buckets registry binding bucket

  attempt_only : (r : Run) (t g : List ℕ) → Every (Only own) (attempt_of e buckets registry binding bucket r t g).log
  unfolding attempt_of
  attempt_only r t g = also attempt_begun (inl (λ low. refl)) (go (find_of e.headers buckets g registry binding bucket) (found_own e buckets registry binding bucket g))
    where
      go : (x : Found) → FoundAt own x → Every (Only own) (attempt_at x e buckets r t g).log
      go (Err x) h = end
      go (Ok c) h = subst (λ (z : ℕ). Every (Only z) (attempt_at (Ok c) e buckets r t g).log) h (every_append (lock_only e buckets c r.flow t g) end)

  spin_only : (r : Run) (t g : List ℕ) → Every (Only own) (spin_of e r t g).log
  unfolding spin_of
  spin_only r t g = every_append (boundary_only own e r.flow t g) (also spun (inl (λ low. refl)) end)

  pause_only : (i : ℕ) (r : Run) (t g : List ℕ) → Every (Only own) (pause_of e i r t g).log
  unfolding pause_of
  pause_only i r t g =
      let m = (boundary_of e r.flow t g).seen in
      if_both (λ (x : Made (Run × (List ℕ × List ℕ))). Every (Only own) x.log) (eqb (i % 64) 63)
      (every_append (boundary_only own e r.flow t g)
      (also yielded (inl (λ low. refl)) (spin_only (run_of m.0 r.attempts (r.boundaries + 1) (r.yields + 1)) m.1.0 m.1.1)))
      (spin_only r t g)

  retry_only : (left i : ℕ) (last : Reason) (r : Run) (t g : List ℕ) → Every (Only own) (retry_of left i last e buckets registry binding bucket r t g).log
  unfolding retry_of
  retry_only zero i last r t g = end
  retry_only (suc left) i last r t g =
      let m = (attempt_of e buckets registry binding bucket r t g).seen in
      let p = (pause_of e i m.0.run m.1.0 m.1.1).seen in
      every_append (attempt_only r t g)
      (if_both (λ (x : Made (Tried × (List ℕ × List ℕ))). Every (Only own) x.log) (is_busy m.0.outcome)
      (every_append (pause_only i m.0.run m.1.0 m.1.1) (retry_only left (i + 1) _ p.0 p.1.0 p.1.1)) end)

back_only : (d n : ℕ) (e : Setting) (ls : List Hold) (r : Run) (t g : List ℕ) → Every (Only d) (give_back_of n e ls r t g).log
unfolding give_back_of
back_only d zero e ls r t g = end
back_only d (suc n) e ls r t g =
    let u = set_cell t (hold_at ls n).cell 0 0 in
    let m = (boundary_of (protecting e (take n ls)) r.flow u g).seen in
    also _ (inl (λ low. refl))
    (every_append (boundary_only d (protecting e (take n ls)) r.flow u g) (back_only d n e ls (run_of m.0 r.attempts (r.boundaries + 1) r.yields) m.1.0 m.1.1))

-- ---- key by key

module _ (e : Setting) (buckets boot : ℕ) (registry keys grants : List ℕ) (n : ℕ)
    (rises : (i : ℕ) → i + 1 < n → key_cell buckets registry keys i < key_cell buckets registry keys (i + 1)) where
  abbrev cell : ℕ → ℕ
  cell = key_cell buckets registry keys

  locks_up : (left p : ℕ) → p + left ≡ n → (d : ℕ) → (p < n → d ≤ cell p) → (taken : List Hold) (r : Run) (t g : List ℕ)
      → Up d (locks_of left p e buckets boot registry keys taken r t g grants).log
  unfolding locks_of rollback_of
  locks_up zero p h d under taken r t g = λ low l. tt
  locks_up (suc left) p h d under taken r t g =
      let f = protecting e taken in
      let m = retry_of attempt_limit 0 none_yet f buckets registry (binding_at keys p) (bucket_at keys p) r t g in
      let k = m.seen in
      λ low l.
      up_behind (cell p) m.log _ (retry_only f buckets registry (binding_at keys p) (bucket_at keys p) attempt_limit 0 none_yet r t g)
      (go k.0.outcome k.0.run k.1.0 k.1.1
      (λ x. locks_up left (p + 1) (omega arith) (cell p) (λ b. omega (arith, rises p b)) (taken ++ (x ∷ [])) k.0.run k.1.0 k.1.1))
      low (omega (arith, l, under (omega arith)))
    where
      go : (o : Outcome) (s : Run) (u w : List ℕ) → ((x : Hold) → Up (cell p) (locks_of left (p + 1) e buckets boot registry keys (taken ++ (x ∷ [])) s u w grants).log)
          → Up (cell p) (after_key o e taken p s u w grants (λ x. locks_of left (p + 1) e buckets boot registry keys (taken ++ (x ∷ [])) s u w grants)).log
      go (outcome.Granted x) s u w on = on x
      go (outcome.Busy why) s u w on = up_behind (cell p) _ [] (back_only (cell p) (length taken) e taken s u w) (λ low l. tt)
      go (outcome.Refused x) s u w on = up_behind (cell p) _ [] (back_only (cell p) (length taken) e taken s u w) (λ low l. tt)

climbs : (w : World) (registry script : List ℕ) (place : ℕ) (held keys grants : List ℕ) → Climbs 0 (perform w (acquire_sorted registry script place held keys grants)).log
climbs w registry script place held keys grants = go (goes w registry script place held keys grants)
  where
    b : ℕ
    b = w.head.buckets

    sorted : List ℕ
    sorted = sorted_cells b registry keys

    rises : (i : ℕ) → i + 1 < length sorted → key_cell b registry (chosen_keys b registry keys) i < key_cell b registry (chosen_keys b registry keys) (i + 1)
    rises i l =
        omega (arith, chosen_cell b registry keys i (omega arith), chosen_cell b registry keys (i + 1) l, rising_at 0 sorted (sorted_rises b registry keys) i (i + 1) (omega arith) l)

    go : {m : Made (World × Says)} → Goes w registry script place held keys grants m → Climbs 0 m.log
    go (refused_whole r) = tt
    go (refused_key r p c f) = tt
    go (locks c) =
        locks_up (given w.head script (holds_of held)) b w.head.boot registry (chosen_keys b registry keys) grants (length sorted) rises
        (length sorted) 0 (omega arith) 0 (λ l. omega arith) [] (starting w.head place) w.table w.health 0 (omega arith)

pub takes_rise : TakesRise perform
takes_rise w registry script place held keys grants c d s t x y z e =
    let first = climbs_at 0 c s x (y ++ (took by_caller d t ∷ z)) (subst (Climbs 0) e (climbs w registry script place held keys grants)) in
    (climbs_at c d t y z first.1).0
