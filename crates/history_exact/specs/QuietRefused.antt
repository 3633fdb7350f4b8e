-- Multi-lock where the script is at its end, refused at position j: the keys before it were ready, the key at j is refused as
-- `acquire_index_bucket` refuses it then. All is given back, j serials stay spent, and the counts are exact.
use Prim.Native.Nat.{ℕ, zero, suc, ◌+◌, ◌*◌, ◌-◌, ◌≤◌, ◌<◌}
use Rattle.std.specs.Prelude.{◌≡◌, false, ◌≢◌, length, take, get_or, Ok, Err}
use Rattle.std.proofs.Math.Path.{refl, ap}
use Rattle.std.proofs.Common.{sym, ◌∙◌, subst, zero-add}
use mathlib.Core.List.{List, [], ◌∷◌, ◌++◌}
use Rattle.std.proofs.Math.Nat.{add-zero}
use Rattle.types.specs.Checks.{Found}
use native.Mathlib.Omega.{arith}
use Rattle.model.specs.Log.{Made}
use Rattle.model.specs.Arena.{spent_to, header_of, hold_of, holds_of, bit_at, owner_at, set_cell, cells_of, last_serial, state_at}
use Rattle.model.specs.Foreign.{Setting, protecting, steps_in, flow_of}
use Rattle.model.specs.Lock.{locked_of, lock_of, answer_of, settled, run_of, tried_of, find_of, attempt_at, is_busy, retry_of, attempt_limit, none_yet, hold_at, give_back_of, rollback_of, binding_at, bucket_at, after_key, ended_of, Locks, locks_of}
use Rattle.model.specs.Checks.{count_in, locks_rules}
use Rattle.model.specs.Calls.{counts_of, given}
use Rattle.types.specs.declared.Answer.{Answer}
use Rattle.types.specs.declared.Answer.TheVariants.{Refused, RefusedAt}
use Rattle.types.specs.declared.Ended.{Ended}
use Rattle.types.specs.declared.Flow.{Flow}
use Rattle.types.specs.declared.Head.{Head}
use Rattle.types.specs.declared.Hold.{Hold}
use Rattle.types.specs.declared.Locked.{Locked}
use Rattle.types.specs.declared.Outcome.{Outcome}
use Rattle.types.specs.declared.Outcome.TheVariants as outcome
use Rattle.types.specs.declared.Refusal.{Refusal}
use Rattle.types.specs.declared.Reason.{Reason}
use Rattle.types.specs.declared.Reason.TheVariants as reason
use Rattle.types.specs.declared.Refusal.TheVariants.{SerializationFailure}
use Rattle.types.specs.declared.Tried.{Tried}
use Rattle.laws.specs.Words.{bit_set_other, owner_set_other}
use Rattle.laws.specs.Keys.{place_inside, find_healthy}
use Rattle.laws.specs.Outcomes.{retry_first}
use Rattle.history.specs.World.{World, world_of, Unreleased, now, Lawful}
use Rattle.history.specs.Items.{Says, says, acquire_bucket, acquire_locks, perform, key_cell, Call, Clear, rules}
use Rattle.history.specs.Tests.{state_free, In}
use Rattle.history.specs.Logs.{Kept}
use Rattle.history.specs.Judged.{past_checks, made_so}
use Rattle.history.specs.Steps.{With, world_at}
use Rattle.history_exact.specs.Statements.{leases_from, LocksRefusedQuiet, takes_of, Names, Unwaited, IsFree}
use Rattle.history_exact.specs.Passing.{bucket_on, key_passes, in_script}
use Rattle.history_exact.specs.Quiet.{boundary_quiet, QuietLock, was_waited, was_held, was_damaged, was_spent, was_free, was_sick, taken_back, lock_quiet, yields_in, yields_are, busy_retry}
use Rattle.history_exact.specs.QuietCalls.{retry_stops, attempt_as}
use Rattle.history_exact.specs.QuietLocks.{set_all, ready_keys, find_named, now_takes, said}

-- ---- a row of the table is the only one

unique : {buckets : ℕ} {f : Flow} {t g : List ℕ} {c : ℕ} {m o : With Locked} → QuietLock buckets f t g c m → QuietLock buckets f t g c o → m ≡ o
unique (was_waited n) (was_waited _) = refl
unique (was_waited n) (was_held u p q r) = absurd (n u)
unique (was_waited n) (was_damaged u p q) = absurd (n u)
unique (was_waited n) (was_spent u p q r) = absurd (n u)
unique (was_waited n) (was_free u p q r h) = absurd (n u)
unique (was_waited n) (was_sick u p q r h) = absurd (n u)
unique (was_held u p q r) (was_waited n) = absurd (n u)
unique (was_held u p q r) (was_held _ _ _ _) = refl
unique (was_held u p q r) (was_damaged _ x y) = absurd (y p q r)
unique (was_held u p q r) (was_spent _ x y z) = absurd (omega arith)
unique (was_held u p q r) (was_free _ x y z h) = absurd (omega arith)
unique (was_held u p q r) (was_sick _ x y z h) = absurd (omega arith)
unique (was_damaged u p q) (was_waited n) = absurd (n u)
unique (was_damaged u p q) (was_held _ x y z) = absurd (q x y z)
unique (was_damaged u p q) (was_damaged _ _ _) = refl
unique (was_damaged u p q) (was_spent _ x y z) = absurd (p x y)
unique (was_damaged u p q) (was_free _ x y z h) = absurd (p x y)
unique (was_damaged u p q) (was_sick _ x y z h) = absurd (p x y)
unique (was_spent u p q r) (was_waited n) = absurd (n u)
unique (was_spent u p q r) (was_held _ x y z) = absurd (omega arith)
unique (was_spent u p q r) (was_damaged _ x y) = absurd (x p q)
unique (was_spent u p q r) (was_spent _ _ _ _) = refl
unique (was_spent u p q r) (was_free _ x y z h) = absurd (omega arith)
unique (was_spent u p q r) (was_sick _ x y z h) = absurd (omega arith)
unique (was_free u p q r h) (was_waited n) = absurd (n u)
unique (was_free u p q r h) (was_held _ x y z) = absurd (omega arith)
unique (was_free u p q r h) (was_damaged _ x y) = absurd (x p q)
unique (was_free u p q r h) (was_spent _ x y z) = absurd (omega arith)
unique (was_free u p q r h) (was_free _ _ _ _ _) = refl
unique (was_free u p q r h) (was_sick _ _ _ _ k) = absurd (k h)
unique (was_sick u p q r h) (was_waited n) = absurd (n u)
unique (was_sick u p q r h) (was_held _ x y z) = absurd (omega arith)
unique (was_sick u p q r h) (was_damaged _ x y) = absurd (x p q)
unique (was_sick u p q r h) (was_spent _ x y z) = absurd (omega arith)
unique (was_sick u p q r h) (was_free _ _ _ _ k) = absurd (h k)
unique (was_sick u p q r h) (was_sick _ _ _ _ _) = refl

-- ---- a quiet retry counts from where it began, and reads nothing of the protected leases

-- the same, counted on from a attempts, x boundaries, y yields
abbrev counted_on : ℕ → ℕ → ℕ → With Tried → With Tried
counted_on a x y m = (tried_of (run_of m.0.run.flow (a + m.0.run.attempts) (x + m.0.run.boundaries) (y + m.0.run.yields)) m.0.outcome, m.1)

-- what a retry comes to whose first try_lock comes to m
abbrev closed : ℕ → ℕ → ℕ → With Locked → Outcome → With Tried
closed a x y m (outcome.Busy why) = (tried_of (run_of m.0.flow (a + 4096) (x + (4096 * (m.0.boundaries + 1) + 64)) (y + 64)) (outcome.Busy why), m.1)
closed a x y m (outcome.Refused r) = (tried_of (run_of m.0.flow (a + 1) (x + m.0.boundaries) (y + 0)) (outcome.Refused r), m.1)
closed a x y m (outcome.Granted l) = (tried_of (run_of m.0.flow (a + 1) (x + m.0.boundaries) (y + 0)) (outcome.Granted l), m.1)

same_tried : {f : Flow} {o : Outcome} {k : List ℕ × List ℕ} {a a' x x' y y' : ℕ} → a ≡ a' → x ≡ x' → y ≡ y'
    → ◌≡◌ {A = With Tried} (tried_of (run_of f a x y) o, k) (tried_of (run_of f a' x' y') o, k)
same_tried p q r = cc

closed_on : (a x y : ℕ) (m : With Locked) (k : Outcome) → closed a x y m k ≡ counted_on a x y (closed 0 0 0 m k)
closed_on a x y m (outcome.Busy why) = same_tried (omega arith) (omega arith) (omega arith)
closed_on a x y m (outcome.Refused r) = same_tried (omega arith) (omega arith) (omega arith)
closed_on a x y m (outcome.Granted l) = same_tried (omega arith) (omega arith) (omega arith)

sixty_four : yields_in 4096 0 ≡ 64
sixty_four = omega (arith, yields_are 4096 0)

module _ (f : Flow) (t g : List ℕ) (buckets : ℕ) (registry : List ℕ) (binding bucket : ℕ) where
  module _ (e : Setting) (quiet : steps_in e.script ≤ f.place) (a x y : ℕ) where
    abbrev retried : With Tried
    retried = (retry_of attempt_limit 0 none_yet e buckets registry binding bucket (run_of f a x y) t g).seen

    stop : {z : Found} → find_of e.headers buckets g registry binding bucket ≡ z → is_busy (attempt_at z e buckets (run_of f a x y) t g).seen.0.outcome ≡ false
        → retried ≡ (attempt_at z e buckets (run_of f a x y) t g).seen
    stop q n =
        let k = attempt_as e buckets registry binding bucket (run_of f a x y) t g q in
        retry_stops e buckets registry binding bucket (run_of f a x y) t g 4095 0 none_yet (rw k n) ∙ k

    again : (c b : ℕ) (why : Reason) → find_of e.headers buckets g registry binding bucket ≡ Ok c → (lock_of e buckets f t g c).seen ≡ (locked_of f b (outcome.Busy why), (t, g))
        → retried ≡ (tried_of (run_of f (a + 4096) (x + (4096 * (b + 1) + 64)) (y + 64)) (outcome.Busy why), (t, g))
    again c b why q l =
        ap (λ m. m.seen) (retry_first 4095 0 none_yet why e buckets registry binding bucket (run_of f a x y) t g)
        ∙ busy_retry e f t g quiet buckets registry binding bucket b why (λ a x y. attempt_as e buckets registry binding bucket (run_of f a x y) t g q ∙ rw l) 4096 0 a x y
        ∙ same_tried refl (omega (arith, sixty_four)) (omega (arith, sixty_four))

    at_cell : (c : ℕ) {m : With Locked} → find_of e.headers buckets g registry binding bucket ≡ Ok c → QuietLock buckets f t g c m → (lock_of e buckets f t g c).seen ≡ m
        → retried ≡ closed a x y m m.0.answer
    at_cell c q (was_waited n) l = again c 1 reason.Before q l
    at_cell c q (was_held u p r z) l = again c 2 (reason.Held (owner_at t c)) q l
    at_cell c q (was_damaged u p r) l = stop q (rw l) ∙ rw l (same_tried refl refl (sym (add-zero y)))
    at_cell c q (was_spent u p r z) l = stop q (rw l) ∙ rw l (same_tried refl refl (sym (add-zero y)))
    at_cell c q (was_free u p r z h) l = stop q (rw l) ∙ rw l (same_tried refl refl (sym (add-zero y)))
    at_cell c q (was_sick u p r z h) l = stop q (rw l) ∙ rw l (same_tried refl refl (sym (add-zero y)))

  retry_on : (e e' : Setting) (q : steps_in e.script ≤ f.place) (q' : steps_in e'.script ≤ f.place) (a x y : ℕ) → e.headers ≡ e'.headers
      → retried e q a x y ≡ counted_on a x y (retried e' q' 0 0 0)
  retry_on e e' q q' a x y h = go (find_of e.headers buckets g registry binding bucket) refl (ap (λ (n : ℕ). find_of n buckets g registry binding bucket) (sym h))
    where
      go : (z : Found) → find_of e.headers buckets g registry binding bucket ≡ z → find_of e'.headers buckets g registry binding bucket ≡ z
          → retried e q a x y ≡ counted_on a x y (retried e' q' 0 0 0)
      go (Err r) u v = stop e q a x y u refl ∙ same_tried refl (omega arith) (omega arith) ∙ ap (counted_on a x y) (sym (stop e' q' 0 0 0 v refl))
      go (Ok c) u v =
          let k = lock_quiet e buckets f t g c q in
          let l = unique (lock_quiet e' buckets f t g c q') k in
          at_cell e q a x y c u k refl
          ∙ closed_on a x y (lock_of e buckets f t g c).seen (lock_of e buckets f t g c).seen.0.answer
          ∙ ap (counted_on a x y) (sym (at_cell e' q' 0 0 0 c v k l))

-- ---- giving back where nothing happens between

unfoldable undo : ℕ → List Hold → List ℕ → List ℕ
undo zero ls u = u
undo (suc n) ls u = undo n ls (set_cell u (hold_at ls n).cell 0 0)

back_quiet : (n : ℕ) (e : Setting) (ls : List Hold) (f : Flow) (a x y : ℕ) (u g : List ℕ) → steps_in e.script ≤ f.place
    → (give_back_of n e ls (run_of f a x y) u g).seen ≡ (run_of f a (x + n) y, (undo n ls u, g))
unfolding give_back_of undo
back_quiet zero e ls f a x y u g q = rw (add-zero x)
back_quiet (suc n) e ls f a x y u g q =
    let k : x + 1 + n ≡ x + suc n = omega arith in
    let v = set_cell u (hold_at ls n).cell 0 0 in
    rw (boundary_quiet (protecting e (take n ls)) f v g q, back_quiet n e ls f a (x + 1) y v g q, k)

-- ---- all leases of keys in a row are given back

set_all_end : (t : List ℕ) (ls : List Hold) (l : Hold) → set_all t (ls ++ (l ∷ [])) ≡ set_cell (set_all t ls) l.cell 1 l.serial
unfolding set_all
set_all_end t [] l = refl
set_all_end t (k ∷ ls) l = set_all_end (set_cell t k.cell 1 k.serial) ls l

module _ (cell : ℕ → ℕ) where
  from_length : (j p s : ℕ) → length (leases_from cell j p s) ≡ j
  unfolding leases_from
  from_length zero p s = refl
  from_length (suc j) p s = ap (λ (n : ℕ). suc n) (from_length j (p + 1) (s + 1))

  from_end : (n p s : ℕ) → leases_from cell (suc n) p s ≡ leases_from cell n p s ++ (hold_of (cell (p + n)) (s + n) ∷ [])
  unfolding leases_from
  from_end zero p s = rw (add-zero p, add-zero s)
  from_end (suc n) p s =
      let a : p + 1 + n ≡ p + suc n = omega arith in
      let b : s + 1 + n ≡ s + suc n = omega arith in
      ap (λ (ls : List Hold). hold_of (cell p) s ∷ ls) (from_end n (p + 1) (s + 1) ∙ rw (a, b))

  from_at : (n j p s : ℕ) → n < j → (hold_at (leases_from cell j p s) n).cell ≡ cell (p + n)
  unfolding leases_from
  from_at n zero p s l = absurd (omega arith)
  from_at zero (suc j) p s l = rw (add-zero p)
  from_at (suc n) (suc j) p s l = let k : p + 1 + n ≡ p + suc n = omega arith in from_at n j (p + 1) (s + 1) (omega arith) ∙ rw k

  -- a cell that none of them names
  untouched : (j p s : ℕ) (t : List ℕ) (c : ℕ) → ((i : ℕ) → p ≤ i → i < p + j → c ≢ cell i)
      → (bit_at (set_all t (leases_from cell j p s)) c ≡ bit_at t c) × (owner_at (set_all t (leases_from cell j p s)) c ≡ owner_at t c)
  unfolding leases_from set_all
  untouched zero p s t c n = (refl, refl)
  untouched (suc j) p s t c n =
      let r = untouched j (p + 1) (s + 1) (set_cell t (cell p) 1 s) c (λ i a b. n i (omega arith) (omega arith)) in
      let d = n p (omega arith) (omega arith) in
      (r.0 ∙ bit_set_other t (cell p) 1 s c d, r.1 ∙ owner_set_other t (cell p) 1 s c d)

  module _ (j s : ℕ) (t : List ℕ) (free : (p : ℕ) → p < j → (bit_at t (cell p) ≡ 0) × (owner_at t (cell p) ≡ 0)) (apart : (p q : ℕ) → p < j → q < j → cell p ≡ cell q → p ≡ q) where
    none : set_all t (leases_from cell 0 0 s) ≡ t
    unfolding leases_from set_all
    none = refl

    undone : (n : ℕ) → n ≤ j → undo n (leases_from cell j 0 s) (set_all t (leases_from cell n 0 s)) ≡ t
    unfolding undo
    undone zero l = none
    undone (suc n) l =
        let u = set_all t (leases_from cell n 0 s) in
        let k = untouched n 0 s t (cell n) (λ i a b e. absurd (omega (arith, apart n i (omega arith) (omega arith) e))) in
        let was = taken_back u (cell n) (s + n) (k.0 ∙ (free n (omega arith)).0) (k.1 ∙ (free n (omega arith)).1) in
        let at_n : (hold_at (leases_from cell j 0 s) n).cell ≡ cell n = rw (zero-add n) at (from_at n j 0 s (omega arith)) in
        let end : set_all t (leases_from cell (suc n) 0 s) ≡ set_cell u (cell n) 1 (s + n)
        = rw (zero-add n) at (ap (set_all t) (from_end n 0 s) ∙ set_all_end t (leases_from cell n 0 s) (hold_of (cell (0 + n)) (s + n))) in
        ap (undo n (leases_from cell j 0 s)) (rw (at_n, end) was) ∙ undone n (omega arith)

-- ---- a refusal at a key

abbrev NotGranted : Outcome → Type 0
NotGranted (outcome.Granted l) = ⊥
NotGranted (outcome.Busy why) = Unit {0}
NotGranted (outcome.Refused r) = Unit {0}

refused_not : (boot : ℕ) (o : Outcome) (r : Refusal) → answer_of boot (settled o) ≡ Refused r → NotGranted o
refused_not boot (outcome.Granted l) r e = let z : ◌≡◌ {A = ℕ} 0 1 = cc in absurd (omega arith)
refused_not boot (outcome.Busy why) r e = tt
refused_not boot (outcome.Refused x) r e = tt

-- a quiet retry that is not granted changes nothing
module _ (f : Flow) (t g : List ℕ) (buckets : ℕ) (registry : List ℕ) (binding bucket : ℕ) (e : Setting) (quiet : steps_in e.script ≤ f.place) where
  abbrev Unmoved : With Tried → Type 0
  Unmoved m = NotGranted m.0.outcome → (m.0.run.flow ≡ f) × (m.1 ≡ (t, g))

  unmoved : Unmoved (retried f t g buckets registry binding bucket e quiet 0 0 0)
  unmoved = go (find_of e.headers buckets g registry binding bucket) refl
    where
      row : (c : ℕ) {m : With Locked} → get_or g (header_of buckets c) 0 ≡ 0 → QuietLock buckets f t g c m → Unmoved (closed 0 0 0 m m.0.answer)
      row c h (was_waited n) k = (refl, refl)
      row c h (was_held u p q r) k = (refl, refl)
      row c h (was_damaged u p q) k = (refl, refl)
      row c h (was_spent u p q r) k = (refl, refl)
      row c h (was_free u p q r _) k = absurd k
      row c h (was_sick u p q r n) k = absurd (n h)

      go : (z : Found) → find_of e.headers buckets g registry binding bucket ≡ z → Unmoved (retried f t g buckets registry binding bucket e quiet 0 0 0)
      go (Err r) q = subst Unmoved (sym (stop f t g buckets registry binding bucket e quiet 0 0 0 q refl)) (λ _. (refl, refl))
      go (Ok c) q =
          let k = lock_quiet e buckets f t g c quiet in
          subst Unmoved (sym (at_cell f t g buckets registry binding bucket e quiet 0 0 0 c q k refl)) (row c (find_healthy e.headers buckets g registry binding bucket c q) k)

module _ (e : Setting) (f : Flow) (quiet : steps_in e.script ≤ f.place) (boot : ℕ) (taken : List Hold) (p : ℕ) (t g grants : List ℕ) where
  abbrev rolled_back : Refusal → ℕ → ℕ → ℕ → Ended × (List ℕ × (List ℕ × List ℕ))
  rolled_back r a x y = (ended_of (run_of f a (x + length taken) y) (RefusedAt r p), (undo (length taken) taken t, (g, grants)))

  roll : (r : Refusal) (a x y : ℕ) → (rollback_of e taken r p (run_of f a x y) t g grants).seen ≡ rolled_back r a x y
  unfolding rollback_of
  roll r a x y = rw (back_quiet (length taken) e taken f a x y t g quiet)

  after_refused : (o : Outcome) (r : Refusal) (more : Hold → Made Locks) (a x y : ℕ) → answer_of boot (settled o) ≡ Refused r
      → (after_key o e taken p (run_of f a x y) t g grants more).seen ≡ rolled_back r a x y
  after_refused (outcome.Granted l) r more a x y q = let z : ◌≡◌ {A = ℕ} 0 1 = cc in absurd (omega arith)
  after_refused (outcome.Busy why) r more a x y q = let z : SerializationFailure why ≡ r = cc in roll (SerializationFailure why) a x y ∙ ap (λ (k : Refusal). rolled_back k a x y) z
  after_refused (outcome.Refused k) r more a x y q = let z : k ≡ r = cc in roll k a x y ∙ ap (λ (k : Refusal). rolled_back k a x y) z

  -- a key whose retry is m, counted on
  refused_here : (left buckets : ℕ) (registry keys : List ℕ) (r : Refusal) (a x : ℕ) (m : With Tried)
      → (retry_of attempt_limit 0 none_yet (protecting e taken) buckets registry (binding_at keys p) (bucket_at keys p) (run_of f a x 0) t g).seen ≡ counted_on a x 0 m
      → (m.0.run.flow ≡ f) × (m.1 ≡ (t, g)) → answer_of boot (settled m.0.outcome) ≡ Refused r
      → (locks_of (suc left) p e buckets boot registry keys taken (run_of f a x 0) t g grants).seen
      ≡ rolled_back r (a + m.0.run.attempts) (x + m.0.run.boundaries) (0 + m.0.run.yields)
  unfolding locks_of
  refused_here left buckets registry keys r a x m q s k =
      rw (q, s.0, s.1) (after_refused m.0.outcome r _ (a + m.0.run.attempts) (x + m.0.run.boundaries) (0 + m.0.run.yields) k)

same_says : {h : Head} {t t' g grants : List ℕ} {a : Answer} {place n x x' y y' : ℕ} → t ≡ t' → x ≡ x' → y ≡ y'
    → ◌≡◌ {A = World × Says} (world_of h t g, says a (counts_of n x y 0) place grants) (world_of h t' g, says a (counts_of n x' y' 0) place grants)
same_says p q r = cc

-- ---- the takes before the refused key: lawful, and they release nothing

takes_release_none : (cell : ℕ → ℕ) (j p s : ℕ) (l : Hold) → Unreleased l (takes_of (leases_from cell j p s))
unfolding leases_from
takes_release_none cell zero p s l = tt
takes_release_none cell (suc j) p s l = (λ z. z, takes_release_none cell j (p + 1) (s + 1) l)

takes_lawful : (h : Head) (g : List ℕ) (cell : ℕ → ℕ) (n : ℕ) → ((p q : ℕ) → p < n → q < n → cell p ≡ cell q → p ≡ q) → ((p : ℕ) → p < n → cell p < cells_of h)
    → (j p s : ℕ) (t : List ℕ) → p + j ≤ n → ((q : ℕ) → p ≤ q → q < p + j → (bit_at t (cell q) ≡ 0) × (owner_at t (cell q) ≡ 0)) → s + j ≤ last_serial
    → Lawful (world_at h s t g) (takes_of (leases_from cell j p s))
unfolding leases_from
takes_lawful h g cell n apart inside zero p s t i f l = tt
takes_lawful h g cell n apart inside (suc j) p s t i f l =
    let c = cell p in
    let w = f p (omega arith) (omega arith) in
    let others : (q : ℕ) → p + 1 ≤ q → q < p + 1 + j → (bit_at (set_cell t c 1 s) (cell q) ≡ 0) × (owner_at (set_cell t c 1 s) (cell q) ≡ 0)
    = λ q a b.
    let d : cell q ≢ c = λ z. absurd (omega (arith, apart q p (omega arith) (omega arith) z)) in
    let k = f q (omega arith) (omega arith) in
    (bit_set_other t c 1 s (cell q) d ∙ k.0, owner_set_other t c 1 s (cell q) d ∙ k.1) in (
      ((inside p (omega arith), (unfold state_at in state_free s (bit_at t c) (owner_at t c) w.0 w.1)), (refl, omega arith)),
      takes_lawful h g cell n apart inside j (p + 1) (s + 1) (set_cell t c 1 s) (omega arith) others (omega arith),
    )

module _ (w : World) (registry script : List ℕ) (place : ℕ) (held keys grants : List ℕ) (j : ℕ) (r : Refusal) where
  abbrev many : Call
  many = acquire_locks registry script place held keys grants

  abbrev cell : ℕ → ℕ
  cell = key_cell w.head.buckets registry keys

  -- the world after the keys before j
  abbrev then_world : World
  then_world = now w (takes_of (leases_from cell j 0 w.head.next))

  abbrev key : Call
  key = acquire_bucket registry script place held (binding_at keys j) (bucket_at keys j)

  -- what is to be shown, of what the key at j comes to
  abbrev SaysSo : Says → Type 0
  SaysSo o =
      o.answer ≡ Refused r
      → (perform w many).seen
      ≡ (
        world_of (spent_to w.head (w.head.next + j)) w.table w.health,
        says (RefusedAt r j) (counts_of (j + o.counts.attempts) (4 * j + o.counts.boundaries) o.counts.yields 0) place grants,
      )

  module _ (fine : Clear (rules w many)) (end : steps_in script ≤ place) (few : j < count_in keys)
      (ready : (p : ℕ) → p < j → Names w registry (binding_at keys p) (bucket_at keys p) × Unwaited w (cell p) × IsFree w (cell p))
      (apart : (p q : ℕ) → p < j → q < j → cell p ≡ cell q → p ≡ q) (serials : w.head.next + j ≤ last_serial) where
    -- the key at j passes its checks then
    key_fine : Clear (rules then_world key)
    key_fine =
        let ls = takes_of (leases_from cell j 0 w.head.next) in
        let k : Kept w (In (holds_of held)) then_world ls = record {
          lawful = takes_lawful w.head w.health cell j apart
              (λ p i. let a = (ready p i).0 in place_inside w.head.headers w.head.buckets (get_or registry (binding_at keys p) 0) (bucket_at keys p) a.0 a.2)
              j 0 w.head.next w.table (omega arith) (λ q _ h. (ready q (omega arith)).2) serials;
          leads = refl;
          spares = λ l _ _. takes_release_none cell j 0 w.head.next l;
        } in
        bucket_on held k registry script place place (binding_at keys j) (in_script script place (unfold locks_rules in fine.1.1.1.0))
        (key_passes w registry script place held keys grants j few fine)

    by_steps : SaysSo (past_checks then_world key).seen.1
    by_steps =
        let s = w.head.next in
        let t = w.table in
        let g = w.health in
        let e = given w.head script (holds_of held) in
        let ls = leases_from cell j 0 s in
        let u = set_all t ls in
        let f = flow_of (s + j) place 0 in
        let left = count_in keys - (j + 1) in
        let n : j + suc left ≡ count_in keys = omega arith in
        let there : (p : ℕ) → p < j → find_of w.head.headers w.head.buckets g registry (binding_at keys p) (bucket_at keys p) ≡ Ok (cell p)
        = λ p i. let a = (ready p i).0 in find_named w.head.headers w.head.buckets g registry (binding_at keys p) (bucket_at keys p) a.0 a.1 a.2 in
        let all = ready_keys e place end 0 0 w.head.buckets w.head.boot registry keys g grants j apart there j (suc left) 0 [] s 0 0 t (omega arith)
        (λ q _ h. let a = ready q (omega arith) in record { unwaited = a.1; no_bit = a.2.0; no_owner = a.2.1 }) serials in
        let m = retried f u g w.head.buckets registry (binding_at keys j) (bucket_at keys j) e end 0 0 0 in
        let counted = retry_on f u g w.head.buckets registry (binding_at keys j) (bucket_at keys j) (protecting e ls) e end end j (3 * j) 0 refl in
        let back : undo (length ls) ls u ≡ t = rw (from_length cell j 0 s) (undone cell j s t (λ p i. (ready p i).2) apart j (omega arith)) in
        subst (λ (v : World). SaysSo (past_checks v key).seen.1) (sym (now_takes w.head g cell j 0 s t))
        (λ refused.
        let here = refused_here e f end w.head.boot ls j u g grants left w.head.buckets registry keys r j (3 * j) m counted
        (unmoved f u g w.head.buckets registry (binding_at keys j) (bucket_at keys j) e end (refused_not w.head.boot m.0.outcome r refused)) refused in
        ap (λ x. x.seen) (made_so w (acquire_locks registry script place held keys grants) fine)
        ∙ ap (said w) (rw (n, zero-add j, zero-add (3 * j)) at all ∙ here)
        ∙ same_says back (omega (arith, from_length cell j 0 s)) (zero-add m.0.run.yields))

pub locks_refused_quiet : LocksRefusedQuiet perform
locks_refused_quiet w registry script place held keys grants j r fine end few ready apart serials =
    let k = acquire_bucket registry script place held (binding_at keys j) (bucket_at keys j) in
    subst (λ (x : Made (World × Says)). SaysSo w registry script place held keys grants j r x.seen.1)
    (sym (made_so (then_world w registry script place held keys grants j r) k (key_fine w registry script place held keys grants j r fine end few ready apart serials)))
    (by_steps w registry script place held keys grants j r fine end few ready apart serials)
