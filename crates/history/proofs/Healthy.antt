-- Document 02, L3: what is granted is on a header that was healthy at the second reading.
-- ---- a grant of a lock, an attempt, a retry
use Prim.Native.Nat.{ℕ, zero, suc, ◌+◌, ◌≤◌, ◌<◌}
use Rattle.std.proofs.Math.Path.{◌≡◌, refl, subst}
use Rattle.std.proofs.Common.{sym, ap, ◌∙◌, zero-add, arith}
use mathlib.Core.List.{List, [], ◌∷◌, ◌++◌, append_assoc, append-nil}
use Rattle.std.specs.Prelude.{◌⊎◌, length, get_or, Ok, Err}
use Rattle.std.proofs.Math.Logic.{inl, inr}
use Rattle.std.proofs.Math.Decide.{ℕ_discrete}
use Rattle.std.proofs.Math.ListN.{length-append, get_or-append}
use Rattle.std.proofs.Math.Seq.{get_or-append_seam}
use Rattle.types.specs.Checks.{Found}
use Rattle.model.specs.Log.{Made, Event, by_caller, attempt_begun, took}
use Rattle.model.specs.Arena.{hold_in, header_of, hold_of, holds_of, lease_under}
use Rattle.model.specs.Answers.{refusal_in}
use Rattle.model.specs.Foreign.{Setting, protecting, flow_of}
use Rattle.model.specs.Lock.{lock_of, answer_of, settled, find_of, attempt_at, attempt_of, pause_of, is_busy, retry_of, attempt_limit, none_yet, no_hold, hold_at, rollback_of, after_key, binding_at, bucket_at, Locks, locks_of}
use Rattle.model.specs.Checks.{count_in}
use Rattle.model.specs.Calls.{given, starting}
use Rattle.types.specs.declared.Answer.{Answer}
use Rattle.types.specs.declared.Answer.TheVariants.{Done, Cell, Granted, AllGranted, Busy, Refused, RefusedAt}
use Rattle.types.specs.declared.Flow.{Flow}
use Rattle.types.specs.declared.Head.{Head}
use Rattle.types.specs.declared.Hold.{Hold}
use Rattle.types.specs.declared.Lease.{Lease}
use Rattle.types.specs.declared.Outcome.{Outcome}
use Rattle.types.specs.declared.Outcome.TheVariants as outcome
use Rattle.types.specs.declared.Reason.{Reason}
use Rattle.types.specs.declared.Run.{Run}
use Rattle.types.specs.declared.Tried.{Tried}
use Rattle.choice.specs.Pick.{if_both}
use Rattle.laws.specs.Outcomes.{Comes, granted, busy, poisoned, damaged, spent, lock_comes}
use Rattle.laws.specs.Lists.{words_back}
use Rattle.history.specs.World.{World, Healthy, now, attempts, number_of_lem}
use Rattle.history.specs.Items.{Call, try_acquire, drop_lease, read_permission, competing_acquire, release_then_handoff, foreign_release, drop_preserving, acquire_preserving, environment, try_lock, transactional, acquire_bucket, release_all, acquire_locks, acquire_sorted, crew, crew_at_work, perform}
use Rattle.history.specs.Statements.{answers, log_of, Fails}
use Rattle.history.specs.Answers.{ReadsAgain, GrantedHealthy, GrantPoint, LocksHealthy, PoisonedHoldsNothing}
use Rattle.history.specs.Events.{Fit}
use Rattle.history.proofs.Logs.{now_append, next_now, kept_fit}
use Rattle.history.specs.Judged.{acting, past_checks, performed}
use Rattle.history.specs.Steps.{With, world_at}
use Rattle.history.proofs.Steps.{retry_kept}
use Rattle.history.proofs.Calls.{clear_fit, call_kept}
use Rattle.history.specs.Owing.{Given}
use Rattle.history.proofs.Owing.{no_grant, no_refused}
use Rattle.history.specs.Counted.{number_append, lock_counted}
use Rattle.history.specs.Handed.{TakenIn}
use Rattle.history.proofs.Handed.{lock_issues}
use Rattle.history.proofs.Returns.{calls_leave_nothing}
use Rattle.history.specs.Healthy.{GrantedSo, TriedSo, Point}

so_behind : {buckets : ℕ} {g : List ℕ} {l : Hold} (xs : List Event) {ys : List Event} → GrantedSo buckets g l ys → GrantedSo buckets g l (xs ++ ys)
so_behind xs k =
    record {
      front = xs ++ k.front;
      tail = k.tail;
      taken = ap (λ (z : List Event). xs ++ z) k.taken ∙ sym (append_assoc xs k.front _);
      same_attempt = k.same_attempt;
      healthy = k.healthy;
    }

comes_healthy : {buckets c : ℕ} {g : List ℕ} {o : Outcome} → Comes buckets c g o → (l : Hold) → Given o l → get_or g (header_of buckets l.cell) 0 ≡ 0
comes_healthy {buckets} {c} {g} (granted s h) l e =
    let y : hold_of c s ≡ l = cc in
    subst (λ (k : Hold). get_or g (header_of buckets k.cell) 0 ≡ 0) y h
comes_healthy (busy why) l e = absurd (no_grant e)
comes_healthy (poisoned h) l e = absurd (no_refused e)
comes_healthy damaged l e = absurd (no_refused e)
comes_healthy spent l e = absurd (no_refused e)

-- a lock begins no attempt
lock_so : (e : Setting) (buckets : ℕ) (f : Flow) (t g : List ℕ) (c : ℕ) (l : Hold)
    → let m = lock_of e buckets f t g c in Given m.seen.0.answer l → GrantedSo buckets m.seen.1.1 l m.log
unfolding number_of_lem
lock_so e buckets f t g c l q = go ((lock_issues e buckets f t g c).comes l q)
  where
    go : ⊥ ⊎ TakenIn f.next l (lock_of e buckets f t g c).log → GrantedSo buckets (lock_of e buckets f t g c).seen.1.1 l (lock_of e buckets f t g c).log
    go (inl z) = absurd z
    go (inr t') =
        record {
          front = t'.before;
          tail = t'.after;
          taken = t'.parts;
          same_attempt = omega (
            arith,
            ap (number_of_lem attempts) t'.parts,
            number_append attempts t'.before (took by_caller l.cell l.serial ∷ t'.after),
            (lock_counted 0 0 0 e buckets f t g c).attempts_are,
          );
          healthy = comes_healthy (lock_comes e buckets c f t g) l q;
        }

module _ (e : Setting) (buckets : ℕ) (registry : List ℕ) (binding bucket : ℕ) where
  attempt_so : (r : Run) (t g : List ℕ) → TriedSo buckets (attempt_of e buckets registry binding bucket r t g)
  unfolding attempt_of
  attempt_so r t g l q = so_behind (attempt_begun ∷ []) (go (find_of e.headers buckets g registry binding bucket) l q)
    where
      go : (x : Found) → TriedSo buckets (attempt_at x e buckets r t g)
      go (Err x) l q = absurd (no_refused q)
      go (Ok c) l q =
          let m = lock_of e buckets r.flow t g c in
          subst (GrantedSo buckets m.seen.1.1 l) (sym (append-nil m.log)) (lock_so e buckets r.flow t g c l q)

  retry_so : (left i : ℕ) (last : Reason) (r : Run) (t g : List ℕ) → TriedSo buckets (retry_of left i last e buckets registry binding bucket r t g)
  unfolding retry_of
  retry_so zero i last r t g = λ l q. absurd (no_grant q)
  retry_so (suc left) i last r t g =
      let m = attempt_of e buckets registry binding bucket r t g in
      let p = pause_of e i m.seen.0.run m.seen.1.0 m.seen.1.1 in
      let again = retry_so left (i + 1) _ p.seen.0 p.seen.1.0 p.seen.1.1 in
      if_both (λ (x : Made (With Tried)). TriedSo buckets (record { seen = x.seen; log = m.log ++ x.log })) (is_busy m.seen.0.outcome)
      (λ l q. so_behind m.log (so_behind p.log (again l q)))
      (λ l q. subst (GrantedSo buckets m.seen.1.1 l) (sym (append-nil m.log)) (attempt_so r t g l q))

  -- a retry begins with an attempt
  retry_begins : (left i : ℕ) (last : Reason) (r : Run) (t g : List ℕ) → (es : List Event) × ((retry_of (suc left) i last e buckets registry binding bucket r t g).log ≡ attempt_begun ∷ es)
  unfolding retry_of attempt_of
  retry_begins left i last r t g = (_, refl)

-- ---- the calls that grant one lease

of_answer : (boot : ℕ) (o : Outcome) (l : Lease) → answer_of boot o ≡ Granted l → Given o (hold_in l)
of_answer boot (outcome.Granted k) l e = let y : lease_under boot k ≡ l = cc in ap {B = Outcome} (λ x. outcome.Granted (hold_in x)) y
of_answer boot (outcome.Busy why) l e = let z : ◌≡◌ {A = ℕ} 0 1 = cc in absurd (omega arith)
of_answer boot (outcome.Refused r) l e = let z : ◌≡◌ {A = ℕ} 0 1 = cc in absurd (omega arith)

of_settled : (boot : ℕ) (o : Outcome) (l : Lease) → answer_of boot (settled o) ≡ Granted l → Given o (hold_in l)
of_settled boot (outcome.Granted k) l e = let y : lease_under boot k ≡ l = cc in ap {B = Outcome} (λ x. outcome.Granted (hold_in x)) y
of_settled boot (outcome.Busy why) l e = let z : ◌≡◌ {A = ℕ} 0 1 = cc in absurd (omega arith)
of_settled boot (outcome.Refused r) l e = let z : ◌≡◌ {A = ℕ} 0 1 = cc in absurd (omega arith)

past_checks_healthy : (w : World) (k : Call) (l : Lease) → ReadsAgain k → (past_checks w k).seen.1.answer ≡ Granted l → Healthy (past_checks w k).seen.0 l.cell
past_checks_healthy w (try_acquire c) l y a = absurd y
past_checks_healthy w (drop_lease m) l y a = absurd y
past_checks_healthy w (read_permission m) l y a = absurd y
past_checks_healthy w (competing_acquire m) l y a = absurd y
past_checks_healthy w (release_then_handoff m) l y a = absurd y
past_checks_healthy w (foreign_release held m) l y a = absurd y
past_checks_healthy w (drop_preserving held m) l y a = absurd y
past_checks_healthy w (acquire_preserving held c) l y a = absurd y
past_checks_healthy w (environment script place held) l y a = absurd y
past_checks_healthy w (try_lock script place held c) l y a =
    let e = acting w (try_lock script place held c) in
    (lock_so e w.head.buckets (flow_of w.head.next place 0) w.table w.health c (hold_in l) (of_answer w.head.boot _ l a)).healthy
past_checks_healthy w (transactional registry script place held binding bucket) l y a =
    let e = acting w (transactional registry script place held binding bucket) in
    (attempt_so e w.head.buckets registry binding bucket (starting w.head place) w.table w.health (hold_in l) (of_answer w.head.boot _ l a)).healthy
past_checks_healthy w (acquire_bucket registry script place held binding bucket) l y a =
    let e = acting w (acquire_bucket registry script place held binding bucket) in
    (retry_so e w.head.buckets registry binding bucket attempt_limit 0 none_yet (starting w.head place) w.table w.health (hold_in l) (of_settled w.head.boot _ l a)).healthy
past_checks_healthy w (release_all script place leases) l y a = absurd y
past_checks_healthy w (acquire_locks registry script place held keys grants) l y a = absurd y
past_checks_healthy w (acquire_sorted registry script place held keys grants) l y a = absurd y
past_checks_healthy w (crew counts cells turns) l y a = absurd y
past_checks_healthy w (crew_at_work counts cells turns counters) l y a = absurd y

pub grants_healthy : GrantedHealthy perform
grants_healthy w k l y =
    performed (λ m. m.seen.1.answer ≡ Granted l → Healthy m.seen.0 l.cell) w k (λ r a. let z : ◌≡◌ {A = ℕ} 0 1 = cc in absurd (omega arith)) (λ _. past_checks_healthy w k l y)

-- ---- multi-lock

begins_then : {xs : List Event} → ((es : List Event) × (xs ≡ attempt_begun ∷ es)) → (ys : List Event) → (es : List Event) × (xs ++ ys ≡ attempt_begun ∷ es)
begins_then k ys = (k.0 ++ ys, ap (λ (z : List Event). z ++ ys) k.1)

module _ (e : Setting) (buckets boot : ℕ) (registry keys grants : List ℕ) where
  -- what is taken stands in the granted buffer
  locks_extend : (left p : ℕ) (taken : List Hold) (r : Run) (t g : List ℕ) (i : ℕ) → i < length taken
      → let m = (locks_of left p e buckets boot registry keys taken r t g grants).seen in m.0.answer ≡ AllGranted → hold_at (holds_of m.1.1.1) i ≡ hold_at taken i
  unfolding locks_of rollback_of
  locks_extend zero p taken r t g i k a = rw (words_back boot taken)
  locks_extend (suc left) p taken r t g i k a =
      let m = (retry_of attempt_limit 0 none_yet (protecting e taken) buckets registry (binding_at keys p) (bucket_at keys p) r t g).seen in
      go m.0.outcome m.0.run m.1.0 m.1.1
      (λ l b. locks_extend left (p + 1) (taken ++ (l ∷ [])) m.0.run m.1.0 m.1.1 i (omega (arith, length-append taken (l ∷ []))) b ∙ get_or-append taken (l ∷ []) no_hold i k) a
    where
      go : (o : Outcome) (s : Run) (u y : List ℕ)
          → ((l : Hold) → let m = (locks_of left (p + 1) e buckets boot registry keys (taken ++ (l ∷ [])) s u y grants).seen in
          m.0.answer ≡ AllGranted → hold_at (holds_of m.1.1.1) i ≡ hold_at taken i)
          → let m = (after_key o e taken p s u y grants (λ l. locks_of left (p + 1) e buckets boot registry keys (taken ++ (l ∷ [])) s u y grants)).seen in
          m.0.answer ≡ AllGranted → hold_at (holds_of m.1.1.1) i ≡ hold_at taken i
      go (outcome.Granted l) s u y on = on l
      go (outcome.Busy why) s u y on = λ a. let z : ◌≡◌ {A = ℕ} 0 1 = cc in absurd (omega arith)
      go (outcome.Refused x) s u y on = λ a. let z : ◌≡◌ {A = ℕ} 0 1 = cc in absurd (omega arith)

  -- no key left: no event; else the first event is an attempt
  locks_begin : (left p : ℕ) (taken : List Hold) (r : Run) (t g : List ℕ)
      → let log = (locks_of left p e buckets boot registry keys taken r t g grants).log in (log ≡ []) ⊎ ((es : List Event) × (log ≡ attempt_begun ∷ es))
  unfolding locks_of
  locks_begin zero p taken r t g = inl refl
  locks_begin (suc left) p taken r t g =
      let k = retry_begins (protecting e taken) buckets registry (binding_at keys p) (bucket_at keys p) 4095 0 none_yet r t g in
      inr (begins_then k _)

  locks_end : (left p : ℕ) (taken : List Hold) (r : Run) (t g : List ℕ) → left ≡ 0 → (locks_of left p e buckets boot registry keys taken r t g grants).log ≡ []
  unfolding locks_of
  locks_end zero p taken r t g z = refl
  locks_end (suc left) p taken r t g z = absurd (omega arith)

module _ (h : Head) (script : List ℕ) (ps : List Hold) (registry keys grants : List ℕ) where
  abbrev starts : Run → List ℕ → List ℕ → World
  starts r t g = world_at h r.flow.next t g

  abbrev e : Setting
  e = given h script ps

  -- what was granted behind a log that leads to another world
  point_behind : (w : World) (xs : List Event) {v : World} {log : List Event} {A B : Type 0} {l : Hold} → v ≡ now w xs → (B → A) → Point v log A l → Point w (xs ++ log) B l
  point_behind w xs {l = l} q f k =
      record {
        before = xs ++ k.before;
        after = k.after;
        parts = ap (λ (z : List Event). xs ++ z) k.parts ∙ sym (append_assoc xs k.before k.after);
        point = record {
          front = xs ++ k.point.front;
          tail = k.point.tail;
          taken = ap (λ (z : List Event). xs ++ z) k.point.taken ∙ sym (append_assoc xs k.point.front _);
          same_attempt = k.point.same_attempt;
          next_key = k.point.next_key;
        };
        healthy = subst (λ (u : World). Healthy u l.cell) (ap (λ (u : World). now u k.before) q ∙ sym (now_append w xs k.before)) k.healthy;
        at_end = λ b. k.at_end (f b);
      }

  locks_points : (left p : ℕ) (taken : List Hold) (r : Run) (t g : List ℕ) → Fit (starts r t g) → length taken ≡ p
      → let m = locks_of left p e h.buckets h.boot registry keys taken r t g grants in
      m.seen.0.answer ≡ AllGranted → (i : ℕ) → p ≤ i → i < p + left → Point (starts r t g) m.log (i + 1 ≡ p + left) (hold_at (holds_of m.seen.1.1.1) i)
  unfolding locks_of rollback_of
  locks_points zero p taken r t g good n a i low high = absurd (omega arith)
  locks_points (suc left) p taken r t g good n a i low high =
      let m = retry_of attempt_limit 0 none_yet (protecting e taken) h.buckets registry (binding_at keys p) (bucket_at keys p) r t g in
      let k = (retry_kept h script attempt_limit 0 none_yet (ps ++ taken) registry (binding_at keys p) (bucket_at keys p) r t g good).kept in
      go m.seen.0.outcome m.seen.0.run m.seen.1.0 m.seen.1.1 m.log k.leads (kept_fit good k)
      (retry_so (protecting e taken) h.buckets registry (binding_at keys p) (bucket_at keys p) attempt_limit 0 none_yet r t g)
      (λ l b j x y. locks_points left (p + 1) (taken ++ (l ∷ [])) m.seen.0.run m.seen.1.0 m.seen.1.1 (kept_fit good k) (omega (arith, length-append taken (l ∷ []))) b j x y) a
    where
      go : (o : Outcome) (s : Run) (u y : List ℕ) (log : List Event) → starts s u y ≡ now (starts r t g) log → Fit (starts s u y)
          → ((l : Hold) → Given o l → GrantedSo h.buckets y l log)
          → ((l : Hold) → let m = locks_of left (p + 1) e h.buckets h.boot registry keys (taken ++ (l ∷ [])) s u y grants in
          m.seen.0.answer ≡ AllGranted → (j : ℕ) → p + 1 ≤ j → j < p + 1 + left → Point (starts s u y) m.log (j + 1 ≡ p + 1 + left) (hold_at (holds_of m.seen.1.1.1) j))
          → let m = after_key o e taken p s u y grants (λ l. locks_of left (p + 1) e h.buckets h.boot registry keys (taken ++ (l ∷ [])) s u y grants) in
          m.seen.0.answer ≡ AllGranted → Point (starts r t g) (log ++ m.log) (i + 1 ≡ p + suc left) (hold_at (holds_of m.seen.1.1.1) i)
      go (outcome.Busy why) s u y log q f so on a = let z : ◌≡◌ {A = ℕ} 0 1 = cc in absurd (omega arith)
      go (outcome.Refused x) s u y log q f so on a = let z : ◌≡◌ {A = ℕ} 0 1 = cc in absurd (omega arith)
      go (outcome.Granted l) s u y log q f so on a = here (ℕ_discrete i p)
        where
          rest : Made Locks
          rest = locks_of left (p + 1) e h.buckets h.boot registry keys (taken ++ (l ∷ [])) s u y grants

          here : Dec (i ≡ p) → Point (starts r t g) (log ++ rest.log) (i + 1 ≡ p + suc left) (hold_at (holds_of rest.seen.1.1.1) i)
          here (no d) = point_behind (starts r t g) log q (λ x. omega arith) (on l a i (omega arith) (omega arith))
          here (yes d) =
              let is : hold_at (holds_of rest.seen.1.1.1) i ≡ l =
              locks_extend e h.buckets h.boot registry keys grants left (p + 1) (taken ++ (l ∷ [])) s u y i (omega (arith, length-append taken (l ∷ []))) a
              ∙ ap (hold_at (taken ++ (l ∷ []))) (d ∙ sym n) ∙ get_or-append_seam taken l [] no_hold in
              let k = so l refl in
              rw is (record {
                before = log;
                after = rest.log;
                parts = refl;
                point = record {
                  front = k.front;
                  tail = k.tail;
                  taken = k.taken;
                  same_attempt = k.same_attempt;
                  next_key = locks_begin e h.buckets h.boot registry keys grants left (p + 1) (taken ++ (l ∷ [])) s u y;
                };
                healthy = subst (λ (v : World). Healthy v l.cell) q k.healthy;
                at_end = λ x. locks_end e h.buckets h.boot registry keys grants left (p + 1) (taken ++ (l ∷ [])) s u y (omega arith);
              })

pub locks_grant_healthy : LocksHealthy perform
locks_grant_healthy w registry script place held keys grants p a l =
    let k = points a in (
      (k.before, k.after, k.parts, k.point, k.healthy),
      λ z. subst (λ (v : World). Healthy v (hold_at (holds_of (perform w many).seen.1.grants) p).cell) (ap (now w) (sym (append-nil k.before) ∙ ap (λ (x : List Event). k.before ++ x) (sym (k.at_end z)) ∙ sym k.parts) ∙ sym (call_kept w many).kept.leads) k.healthy,
    )
  where
    many : Call
    many = acquire_locks registry script place held keys grants

    points : answers w many ≡ AllGranted → Point w (log_of w many) (p + 1 ≡ count_in keys) (hold_at (holds_of (perform w many).seen.1.grants) p)
    points =
        performed (λ m. m.seen.1.answer ≡ AllGranted → Point w m.log (p + 1 ≡ count_in keys) (hold_at (holds_of m.seen.1.grants) p)) w many
        (λ r b. let z : ◌≡◌ {A = ℕ} 0 1 = cc in absurd (omega arith))
        (λ fine b.
        rw (zero-add (count_in keys))
        at (locks_points w.head script (holds_of held) registry keys grants (count_in keys) 0 [] (starting w.head place) w.table w.health (clear_fit w many fine) refl b p (omega arith) (omega arith)))

-- ---- after a 7

poisoned_fails : (a : Answer) → refusal_in a ≡ 7 → Fails a
poisoned_fails Done x = absurd (omega arith)
poisoned_fails (Cell c) x = absurd (omega arith)
poisoned_fails (Granted l) x = absurd (omega arith)
poisoned_fails AllGranted x = absurd (omega arith)
poisoned_fails (Busy why) x = tt
poisoned_fails (Refused r) x = tt
poisoned_fails (RefusedAt r p) x = tt

pub sevens_hold_nothing : PoisonedHoldsNothing perform
sevens_hold_nothing w k n x =
    (calls_leave_nothing w k n (poisoned_fails (answers w k) x), ap (λ (v : World). v.head.next) (call_kept w k).kept.leads ∙ next_now w (log_of w k))
