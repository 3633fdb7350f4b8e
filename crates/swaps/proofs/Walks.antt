-- Calls over two scripts whose boundaries are alike: the same to the end. Each definition is walked through once, stage by stage.
use Prim.Native.Nat.{ℕ, zero, suc, ◌+◌, ◌%◌}
use Rattle.std.specs.Prelude.{◌≡◌, Bool, true, false, eqb, length, if◌then◌else◌, Ok, Err}
use Rattle.std.proofs.Math.Path.{refl}
use mathlib.Core.List.{List, [], ◌∷◌, ◌++◌}
use Rattle.std.proofs.Math.ListN.{take}
use Rattle.types.specs.Checks.{Found}
use Rattle.model.specs.Log.{Made}
use Rattle.model.specs.Arena.{header_of, is_poisoned, waiters_at, set_cell, hold_of}
use Rattle.model.specs.Foreign.{flow_of, boundary_of}
use Rattle.model.specs.Lock.{take_of, after_take, late_stage_of, second_stage_of, lock_of, run_of, find_of, attempt_at, attempt_of, spin_of, pause_of, is_busy, retry_of, hold_at, give_back_of, rollback_of, after_key, binding_at, bucket_at, attempt_limit, none_yet, Locks, locks_of}
use Rattle.model.specs.Calls.{given}
use Rattle.types.specs.declared.Flow.{Flow}
use Rattle.types.specs.declared.Head.{Head}
use Rattle.types.specs.declared.Hold.{Hold}
use Rattle.types.specs.declared.Locked.{Locked}
use Rattle.types.specs.declared.Outcome.{Outcome}
use Rattle.types.specs.declared.Outcome.TheVariants as outcome
use Rattle.types.specs.declared.Reason.{Reason}
use Rattle.types.specs.declared.Run.{Run}
use Rattle.types.specs.declared.Take.{Take}
use Rattle.types.specs.declared.Take.TheVariants as taking
use Rattle.types.specs.declared.Tried.{Tried}
use Rattle.swaps.specs.Boundaries.{Ran, Same}
use Rattle.swaps.specs.Walks.{Twins}

-- one test in both
if_two : {A : Type 0} (P : Made A → Made A → Type 0) (c : Bool) {x y u v : Made A} → P x u → P y v → P (if c then x else y) (if c then u else v)
if_two P true p q = p
if_two P false p q = q

module _ {h : Head} {a b : List ℕ} {Good : Ran → Type 0} (tw : Twins h a b Good) where
  -- ---- `try_lock`

  abbrev Locking : Made (Locked × (List ℕ × List ℕ)) → Made (Locked × (List ℕ × List ℕ)) → Type 0
  Locking m n = Same (λ (o : Locked × (List ℕ × List ℕ)). Good (o.0.flow, o.1)) m.seen n.seen

  late_alike : (ps : List Hold) (buckets : ℕ) (f : Flow) (t g : List ℕ) (c s : ℕ) → Good (f, (t, g))
      → Locking (late_stage_of (given h a ps) buckets f t g c s) (late_stage_of (given h b ps) buckets f t g c s)
  unfolding late_stage_of
  late_alike ps buckets f t g c s x =
      let qs = ps ++ (hold_of c s ∷ []) in
      let m = (boundary_of (given h a qs) f t g).seen in
      let r = tw.boundaries qs f t g x in
      rw r.equal
      (if_two Locking (is_poisoned m.1.1 (header_of buckets c)) (record { equal = refl; good = tw.frees m.0 m.1.0 m.1.1 c r.good })
      (if_two Locking (eqb (waiters_at m.1.0 c) 0) (record { equal = refl; good = r.good })
      (record { equal = refl; good = tw.frees m.0 m.1.0 m.1.1 c r.good })))

  second_alike : (ps : List Hold) (buckets : ℕ) (f : Flow) (t g : List ℕ) (c : ℕ) → Good (f, (t, g))
      → Locking (second_stage_of (given h a ps) buckets f t g c) (second_stage_of (given h b ps) buckets f t g c)
  unfolding second_stage_of
  second_alike ps buckets f t g c x =
      let m = (boundary_of (given h a ps) f t g).seen in
      let o = (take_of m.0.next m.1.0 c).seen in
      let r = tw.boundaries ps f t g x in
      rw r.equal
      (go o.0.answer (flow_of o.0.next m.0.place m.0.dropped) o.1 m.1.1 (tw.takes m.0 m.1.0 m.1.1 c r.good))
    where
      go : (y : Take) (f : Flow) (t g : List ℕ) → Good (f, (t, g)) → Locking (after_take y (given h a ps) buckets f t g c) (after_take y (given h b ps) buckets f t g c)
      go (taking.Granted s) f t g x = late_alike ps buckets f t g c s x
      go (taking.Busy owner) f t g x = record { equal = refl; good = x }
      go taking.Damaged f t g x = record { equal = refl; good = x }
      go taking.Spent f t g x = record { equal = refl; good = x }

  pub lock_alike : (ps : List Hold) (buckets : ℕ) (f : Flow) (t g : List ℕ) (c : ℕ) → Good (f, (t, g))
      → Locking (lock_of (given h a ps) buckets f t g c) (lock_of (given h b ps) buckets f t g c)
  unfolding lock_of
  lock_alike ps buckets f t g c x =
      let m = (boundary_of (given h a ps) f t g).seen in
      let r = tw.boundaries ps f t g x in
      rw r.equal
      (if_two Locking (eqb (waiters_at m.1.0 c) 0) (second_alike ps buckets m.0 m.1.0 m.1.1 c r.good) (record { equal = refl; good = r.good }))

  -- ---- attempts by key

  abbrev Trying : Made (Tried × (List ℕ × List ℕ)) → Made (Tried × (List ℕ × List ℕ)) → Type 0
  Trying m n = Same (λ (o : Tried × (List ℕ × List ℕ)). Good (o.0.run.flow, o.1)) m.seen n.seen

  abbrev Running : Made (Run × (List ℕ × List ℕ)) → Made (Run × (List ℕ × List ℕ)) → Type 0
  Running m n = Same (λ (o : Run × (List ℕ × List ℕ)). Good (o.0.flow, o.1)) m.seen n.seen

  module _ (ps : List Hold) (buckets : ℕ) (registry : List ℕ) (binding bucket : ℕ) where
    pub attempt_alike : (r : Run) (t g : List ℕ) → Good (r.flow, (t, g))
        → Trying (attempt_of (given h a ps) buckets registry binding bucket r t g) (attempt_of (given h b ps) buckets registry binding bucket r t g)
    unfolding attempt_of
    attempt_alike r t g x = go (find_of h.headers buckets g registry binding bucket)
      where
        go : (y : Found) → Trying (attempt_at y (given h a ps) buckets r t g) (attempt_at y (given h b ps) buckets r t g)
        go (Err y) = record { equal = refl; good = x }
        go (Ok c) = let k = lock_alike ps buckets r.flow t g c x in rw k.equal (record { equal = refl; good = k.good })

    spin_alike : (r : Run) (t g : List ℕ) → Good (r.flow, (t, g)) → Running (spin_of (given h a ps) r t g) (spin_of (given h b ps) r t g)
    unfolding spin_of
    spin_alike r t g x = let k = tw.boundaries ps r.flow t g x in rw k.equal (record { equal = refl; good = k.good })

    pause_alike : (i : ℕ) (r : Run) (t g : List ℕ) → Good (r.flow, (t, g)) → Running (pause_of (given h a ps) i r t g) (pause_of (given h b ps) i r t g)
    unfolding pause_of
    pause_alike i r t g x =
        let m = (boundary_of (given h a ps) r.flow t g).seen in
        let k = tw.boundaries ps r.flow t g x in
        rw k.equal
        (if_two Running (eqb (i % 64) 63) (spin_alike (run_of m.0 r.attempts (r.boundaries + 1) (r.yields + 1)) m.1.0 m.1.1 k.good) (spin_alike r t g x))

    pub retry_alike : (left i : ℕ) (last : Reason) (r : Run) (t g : List ℕ) → Good (r.flow, (t, g))
        → Trying (retry_of left i last (given h a ps) buckets registry binding bucket r t g) (retry_of left i last (given h b ps) buckets registry binding bucket r t g)
    unfolding retry_of
    retry_alike zero i last r t g x = record { equal = refl; good = x }
    retry_alike (suc left) i last r t g x =
        let m = (attempt_of (given h a ps) buckets registry binding bucket r t g).seen in
        let p = (pause_of (given h a ps) i m.0.run m.1.0 m.1.1).seen in
        let k = attempt_alike r t g x in
        let l = pause_alike i m.0.run m.1.0 m.1.1 k.good in
        rw (k.equal, l.equal)
        (if_two Trying (is_busy m.0.outcome) (retry_alike left (i + 1) _ p.0 p.1.0 p.1.1 l.good) (record { equal = refl; good = k.good }))

  -- ---- giving back, and multi-lock

  pub back_alike : (n : ℕ) (ps ls : List Hold) (r : Run) (t g : List ℕ) → Good (r.flow, (t, g))
      → Running (give_back_of n (given h a ps) ls r t g) (give_back_of n (given h b ps) ls r t g)
  unfolding give_back_of
  back_alike zero ps ls r t g x = record { equal = refl; good = x }
  back_alike (suc n) ps ls r t g x =
      let u = set_cell t (hold_at ls n).cell 0 0 in
      let m = (boundary_of (given h a (ps ++ take n ls)) r.flow u g).seen in
      let k = tw.boundaries (ps ++ take n ls) r.flow u g (tw.frees r.flow t g (hold_at ls n).cell x) in
      rw k.equal (back_alike n ps ls (run_of m.0 r.attempts (r.boundaries + 1) r.yields) m.1.0 m.1.1 k.good)

  module _ (ps : List Hold) (buckets boot : ℕ) (registry keys grants : List ℕ) where
    pub locks_alike : (left p : ℕ) (taken : List Hold) (r : Run) (t g : List ℕ) → Good (r.flow, (t, g))
        → (locks_of left p (given h b ps) buckets boot registry keys taken r t g grants).seen ≡ (locks_of left p (given h a ps) buckets boot registry keys taken r t g grants).seen
    unfolding locks_of rollback_of
    locks_alike zero p taken r t g x = refl
    locks_alike (suc left) p taken r t g x =
        let m = (retry_of attempt_limit 0 none_yet (given h a (ps ++ taken)) buckets registry (binding_at keys p) (bucket_at keys p) r t g).seen in
        let k = retry_alike (ps ++ taken) buckets registry (binding_at keys p) (bucket_at keys p) attempt_limit 0 none_yet r t g x in
        rw k.equal
        (go m.0.run m.1.0 m.1.1 m.0.outcome
        (λ l. locks_of left (p + 1) (given h a ps) buckets boot registry keys (taken ++ (l ∷ [])) m.0.run m.1.0 m.1.1 grants)
        (λ l. locks_of left (p + 1) (given h b ps) buckets boot registry keys (taken ++ (l ∷ [])) m.0.run m.1.0 m.1.1 grants)
        (λ l. locks_alike left (p + 1) (taken ++ (l ∷ [])) m.0.run m.1.0 m.1.1 k.good) k.good)
      where
        go : (k : Run) (u w : List ℕ) (y : Outcome) (more more' : Hold → Made Locks) → ((l : Hold) → (more' l).seen ≡ (more l).seen) → Good (k.flow, (u, w))
            → (after_key y (given h b ps) taken p k u w grants more').seen ≡ (after_key y (given h a ps) taken p k u w grants more).seen
        go k u w (outcome.Granted l) more more' f x = f l
        go k u w (outcome.Busy why) more more' f x = let r = back_alike (length taken) ps taken k u w x in rw r.equal
        go k u w (outcome.Refused y) more more' f x = let r = back_alike (length taken) ps taken k u w x in rw r.equal
