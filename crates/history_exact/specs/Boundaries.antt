-- The boundaries of a lock by key and of multi-lock, counted from outside: what each attempt's ending gives, one for each Busy attempt, one for each
-- yield, and one for each release in a rollback. By induction over the attempts, and over the keys.
use Rattle.std.specs.Prelude.{ℕ, ◌+◌, ◌-◌, ◌≤◌, ◌<◌, ◌≡◌, List, [], ◌∷◌, ◌++◌, get_or}
use Rattle.std.proofs.Math.Path.{refl, subst}
use Rattle.std.proofs.Common.{sym, zero-add, get_or-append-add}
use Rattle.std.proofs.Math.Decide.{dec_lt}
use native.Mathlib.Omega.{arith}
use Rattle.std.proofs.Math.ListN.{length, length-append, get_or-append}
use Rattle.model.specs.Log.{Made, spun, yielded}
use Rattle.model.specs.Arena.{holds_of, words_of, lease_under}
use Rattle.model.specs.Foreign.{flow_of}
use Rattle.model.specs.Lock.{none_yet, binding_at, bucket_at}
use Rattle.model.specs.Calls.{counts_of, given, starting}
use Rattle.model.specs.Crew.{total}
use Rattle.types.specs.declared.Answer.{Answer}
use Rattle.types.specs.declared.Answer.TheVariants.{Done}
use Rattle.types.specs.declared.Hold.{Hold}
use Rattle.types.specs.declared.Lease.{Lease}
use Rattle.types.specs.declared.Reason.{Reason}
use Rattle.laws.specs.Crew.{total_append}
use Rattle.history.specs.World.{World}
use Rattle.history.specs.Items.{Says, perform, acquire_bucket, drop_lease, environment}
use Rattle.history.specs.Statements.{answer_in}
use Rattle.history.specs.Judged.{performed, made_so}
use Rattle.history_exact.specs.Attempts.{Ends, no_cell, waited, held, not_takable, poisoned, late, granted, ◌and_then◌, spin, yield, Pause, only_spins, also_yields, Attempts, all_busy, the_last, one_busy, locking, between, GivesBack, all_back, one_back, KeyByKey, all_locked, one_locked, one_refused, spins_in, BoundariesAdd, BucketBoundaries, rolled_back, LocksBoundaries}
use Rattle.history_exact.specs.Retried.{spins_append, boundary_still, attempt_one}
use Rattle.history_exact.specs.Ending.{tried_ends}
use Rattle.history_exact.specs.Attempting.{attempting, bounding, by_steps}
use Rattle.history_exact.specs.KeyByKey.{locks_as_calls}

-- ---- sums

-- of what a call says and logs
abbrev Adds : ℕ → Made (World × Says) → Type 0
Adds releases m = BoundariesAdd m.seen.1.counts (spins_in m.log) releases

adds_none : BoundariesAdd (counts_of 0 0 0 0) 0 0
unfolding total
adds_none = record { endings = []; each = λ i l. absurd (omega arith); as_many = refl; sum = omega arith }

few_then : (xs ys : List ℕ) → ((i : ℕ) → i < length xs → get_or xs i 0 ≤ 3) → ((i : ℕ) → i < length ys → get_or ys i 0 ≤ 3)
    → (i : ℕ) → i < length (xs ++ ys) → get_or (xs ++ ys) i 0 ≤ 3
few_then xs ys a b i l = go (dec_lt i (length xs))
  where
    go : Dec (i < length xs) → get_or (xs ++ ys) i 0 ≤ 3
    go (yes k) = rw (get_or-append xs ys 0 i k) (a i k)
    go (no k) =
        let j = i - length xs in
        let e : length xs + j ≡ i = omega arith in
        subst (λ x. get_or (xs ++ ys) x 0 ≤ 3) e (rw (get_or-append-add xs ys j 0) (b j (omega (arith, length-append xs ys))))

-- one behind the other
adds_then : {r s : ℕ} (m n : Made (World × Says)) → Adds r m → Adds s n → Adds (r + s) (m and_then n)
adds_then m n a b =
    record {
      endings = a.endings ++ b.endings;
      each = few_then a.endings b.endings a.each b.each;
      as_many = omega (arith, length-append a.endings b.endings, a.as_many, b.as_many);
      sum = omega (arith, total_append a.endings b.endings, spins_append m.log n.log, a.sum, b.sum);
    }

-- ---- attempts

ends_few : {a : Answer} {n : ℕ} {ts rs : List Hold} → Ends a n ts rs → n ≤ 3
ends_few (no_cell r i j) = omega arith
ends_few waited = omega arith
ends_few (held s) = omega arith
ends_few (not_takable r i j) = omega arith
ends_few (poisoned l h) = omega arith
ends_few (late l) = omega arith
ends_few (granted l) = omega arith

-- what an attempt and a boundary count
record AttemptCounts (m : Made (World × Says)) : Type 0 where
  pub one : m.seen.1.counts.attempts ≡ 1
  pub few : m.seen.1.counts.boundaries ≤ 3
  pub none : m.seen.1.counts.yields ≡ 0
  pub calm : spins_in m.log ≡ 0

record BoundaryCounts (m : Made (World × Says)) : Type 0 where
  pub no_attempt : m.seen.1.counts.attempts ≡ 0
  pub one : m.seen.1.counts.boundaries ≡ 1
  pub none : m.seen.1.counts.yields ≡ 0
  pub calm : spins_in m.log ≡ 0

attempt_adds : {m : Made (World × Says)} → AttemptCounts m → Adds 0 m
unfolding total
attempt_adds {m} k =
    let b = m.seen.1.counts.boundaries in
    record {
      endings = b ∷ [];
      each = λ i l. let z : i ≡ 0 = omega arith in rw z k.few;
      as_many = sym k.one;
      sum = omega (arith, k.none, k.calm);
    }

-- no attempt, only boundaries
boundary_adds : (m : Made (World × Says)) {releases : ℕ} → m.seen.1.counts.attempts ≡ 0
    → m.seen.1.counts.boundaries ≡ spins_in m.log + m.seen.1.counts.yields + releases → Adds releases m
unfolding total
boundary_adds m z s = record { endings = []; each = λ i l. absurd (omega arith); as_many = sym z; sum = omega (arith, s) }

module _ (attempt between : World → ℕ → Made (World × Says)) (tries : (w : World) (p : ℕ) → AttemptCounts (attempt w p))
    (bounds : (w : World) (p : ℕ) → BoundaryCounts (between w p)) where
  spin_adds : (w : World) (p : ℕ) → Adds 0 (spin attempt between w p)
  unfolding spins_in
  spin_adds w p =
      let k = bounds w p in
      boundary_adds (spin attempt between w p) k.no_attempt (omega (arith, spins_append (between w p).log (spun ∷ []), k.one, k.none, k.calm))

  yield_adds : (w : World) (p : ℕ) → Adds 0 (yield attempt between w p)
  unfolding spins_in
  yield_adds w p =
      boundary_adds (yield attempt between w p) refl (omega (arith, spins_append (between w p).log (yielded ∷ []), (bounds w p).calm))

  pause_adds : {i : ℕ} {w : World} {p : ℕ} {m : Made (World × Says)} → Pause attempt between i w p m → Adds 0 m
  pause_adds {w = w} {p = p} (only_spins n) = spin_adds w p
  pause_adds {w = w} {p = p} (also_yields n) =
      let y = yield attempt between w p in
      adds_then y (spin attempt between y.seen.0 y.seen.1.place) (yield_adds w p) (spin_adds y.seen.0 y.seen.1.place)

  attempts_add : {i : ℕ} {last : Reason} {w : World} {p : ℕ} {m : Made (World × Says)} → Attempts attempt between i last w p m → Adds 0 m
  unfolding spins_in
  attempts_add all_busy = adds_none
  attempts_add {w = w} {p = p} (the_last l n) = attempt_adds (tries w p)
  attempts_add {w = w} {p = p} (one_busy {m = m} {n = n} why l b x rest) =
      adds_then (attempt w p) (m and_then n) (attempt_adds (tries w p)) (adds_then m n (pause_adds x) (attempts_add rest))

module _ (registry script words : List ℕ) (binding bucket : ℕ) where
  attempt_counts : (w : World) (p : ℕ) → AttemptCounts (attempting registry script words binding bucket w p)
  attempt_counts w p =
      let e = given w.head script (holds_of words) in
      let k = attempt_one e w.head.buckets registry binding bucket (starting w.head p) w.table w.health in
      let n = ends_few (tried_ends e w.head.buckets w.head.boot registry binding bucket (starting w.head p) w.table w.health refl) in
      record { one = omega (arith, k.one_attempt); few = n; none = k.no_yield; calm = k.no_spin }

boundary_counts : (script words : List ℕ) (w : World) (p : ℕ) → BoundaryCounts (bounding script words w p)
boundary_counts script words w p =
    record {
      no_attempt = refl;
      one = refl;
      none = refl;
      calm = (boundary_still (given w.head script (holds_of words)) (flow_of w.head.next p 0) w.table w.health).none;
    }

pub bucket_boundaries : BucketBoundaries perform
bucket_boundaries w registry script place words binding bucket fine =
    attempts_add (attempting registry script words binding bucket) (bounding script words) (attempt_counts registry script words binding bucket) (boundary_counts script words)
    (by_steps w registry script place words binding bucket none_yet fine)

-- ---- keys

-- one key, whatever its call finds: refused by its checks, it counts nothing
key_adds : (w : World) (registry script : List ℕ) (place : ℕ) (words : List ℕ) (binding bucket : ℕ) → Adds 0 (perform w (acquire_bucket registry script place words binding bucket))
unfolding spins_in
key_adds w registry script place words binding bucket =
    performed (Adds 0) w (acquire_bucket registry script place words binding bucket) (λ r. adds_none)
    (λ fine. subst (Adds 0) (made_so w (acquire_bucket registry script place words binding bucket) fine) (bucket_boundaries w registry script place words binding bucket fine))

drop_adds : (w : World) (l : Lease) → Adds 0 (perform w (drop_lease l))
unfolding spins_in
drop_adds w l = performed (Adds 0) w (drop_lease l) (λ r. adds_none) (λ _. adds_none)

-- a boundary that was not refused
bound_adds : (w : World) (script : List ℕ) (place : ℕ) (words : List ℕ) → answer_in (perform w (environment script place words)) ≡ Done
    → Adds 1 (perform w (environment script place words))
bound_adds w script place words =
    performed (λ m. answer_in m ≡ Done → Adds 1 m) w (environment script place words) (λ r a. let z : ◌≡◌ {A = ℕ} 0 1 = cc in absurd (omega arith))
    (λ _ _. boundary_adds (bounding script words w place) refl (omega (arith, (boundary_counts script words w place).calm)))

module _ (boot : ℕ) (registry script words keys grants : List ℕ) where
  abbrev locks : ℕ → List Hold → World → ℕ → Made (World × Says)
  locks = locking perform boot registry script words keys grants

  abbrev bounds : List Hold → World → ℕ → Made (World × Says)
  bounds = between perform boot registry script words keys grants

  back_adds : {ls : List Hold} {w : World} {place : ℕ} {m : Made (World × Says)} → GivesBack perform boot registry script words keys grants ls w place m → Adds (length ls) m
  unfolding spins_in
  back_adds all_back = adds_none
  back_adds (one_back {ls = ls} {w = w} {v = v} {place = place} {n = n} l a q b rest) =
      let z : 0 + (1 + length ls) ≡ length (ls ++ (l ∷ [])) = omega (arith, length-append ls (l ∷ [])) in
      subst (λ k. Adds k (perform w (drop_lease (lease_under boot l)) and_then (bounds ls v place and_then n))) z
      (adds_then (perform w (drop_lease (lease_under boot l))) (bounds ls v place and_then n) (drop_adds w (lease_under boot l))
      (adds_then (bounds ls v place) n (bound_adds v script place (words ++ words_of boot ls) b) (back_adds rest)))

  keys_add : {p : ℕ} {taken : List Hold} {w : World} {place : ℕ} {m : Made (World × Says)} → length taken ≡ p
      → KeyByKey perform boot registry script words keys grants p taken w place m → Adds (rolled_back (answer_in m)) m
  unfolding spins_in
  keys_add z (all_locked e) = adds_none
  keys_add z (one_locked {p = p} {taken = taken} {w = w} {place = place} {n = n} l b fine a rest) =
      subst (λ k. Adds k (locks p taken w place and_then n)) (zero-add (rolled_back (answer_in n)))
      (adds_then (locks p taken w place) n (key_adds w registry script place (words ++ words_of boot taken) (binding_at keys p) (bucket_at keys p))
      (keys_add (omega (arith, length-append taken (l ∷ []))) rest))
  keys_add z (one_refused {p = p} {taken = taken} {w = w} {place = place} {n = n} r b fine a rest) =
      let e : 0 + length taken ≡ p = omega arith in
      subst (λ k. Adds k (locks p taken w place and_then n)) e
      (adds_then (locks p taken w place) n (key_adds w registry script place (words ++ words_of boot taken) (binding_at keys p) (bucket_at keys p)) (back_adds rest))

pub locks_boundaries : LocksBoundaries perform
locks_boundaries w registry script place words keys grants fine = keys_add w.head.boot registry script words keys grants refl (locks_as_calls w registry script place words keys grants fine)
