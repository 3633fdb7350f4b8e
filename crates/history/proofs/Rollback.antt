-- Giving back, last first: `release_all`, and the rollback of a multi-lock that is refused. Read off the log, in any arena.
-- ---- in a boundary the caller does nothing
use Prim.Native.Nat.{ℕ, zero, suc, ◌+◌, ◌-◌, ◌<◌, ◌≤◌}
use Rattle.std.proofs.Math.Path.{◌≡◌}
use Rattle.std.specs.Prelude.{refl, ◌&&◌, ◌⊎◌, ltb, eqb, length, take}
use Rattle.std.proofs.Common.{sym, ap, ◌∙◌, subst, inr, arith, take-suc, take_all}
use mathlib.Core.List.{List, [], ◌∷◌, ◌++◌, append_assoc, reverse, append-nil, reverse-append}
use Rattle.std.proofs.Math.Bool.{not}
use Rattle.std.proofs.Math.Logic.{inl}
use Rattle.std.proofs.Math.Decide.{ℕ_discrete}
use Rattle.std.proofs.Math.Dec.{leb}
use Rattle.std.proofs.Math.ListN.{length-append, get_or-append}
use Rattle.std.proofs.Math.Seq.{get_or-append_seam, take-length}
use Rattle.model.specs.Log.{Made, Event, by_caller, by_script, attempt_begun, boundary_run, yielded, spun, step_dropped, took, released, waiters_set, health_set, held_all_lem, added}
use Rattle.model.specs.Arena.{serial_remains, hold_of, bit_at, owner_at, set_cell, is_free, is_live, is_in, holds_of}
use Rattle.model.specs.Foreign.{Setting, protecting, steps_in, kind_at, place_at, number_at, step_take_of, step_release_of, step_waiters_of, step_health_of, step_of, run_steps_of, boundary_of}
use Rattle.model.specs.Lock.{run_of, no_hold, hold_at, attempt_limit, none_yet, retry_of, give_back_of, rollback_of, after_key, binding_at, bucket_at, locks_of}
use Rattle.model.specs.Checks.{count_in, lease_count}
use Rattle.model.specs.Calls.{starting}
use Rattle.types.specs.declared.Answer.TheVariants.{Done, Granted, AllGranted, Busy, Refused, RefusedAt}
use Rattle.types.specs.declared.Flow.{Flow}
use Rattle.types.specs.declared.Hold.{Hold}
use Rattle.types.specs.declared.Outcome.{Outcome}
use Rattle.types.specs.declared.Outcome.TheVariants as outcome
use Rattle.types.specs.declared.Refusal.{Refusal}
use Rattle.types.specs.declared.Refusal.TheVariants.{SerializationFailure}
use Rattle.types.specs.declared.Run.{Run}
use Rattle.types.specs.declared.Stepped.{Stepped}
use Rattle.choice.specs.Pick.{if_both}
use Rattle.laws.specs.Lists.{holds_few}
use Rattle.history.specs.World.{caller_releases}
use Rattle.history.specs.Items.{release_all, acquire_locks, key_cell, perform}
use Rattle.history.specs.Statements.{RollbackIs, RolledBack, FallingAll}
use Rattle.history.specs.Tests.{differ, In, in_first, in_cases, in_left, in_right, in_either, none_in}
use Rattle.history.specs.Judged.{acting, performed}
use Rattle.history.specs.Steps.{With}
use Rattle.history.proofs.Calls.{words_leases}
use Rattle.history.specs.Owing.{Settles, Nobody, Given}
use Rattle.history.proofs.Owing.{join, loosen, retry_hands, freed_at, settled_at, no_grant, no_refused}
use Rattle.history.specs.ByKey.{Names}
use Rattle.history.proofs.ByKey.{retry_names}
use Rattle.history.specs.Handed.{TakenIn}
use Rattle.history.proofs.Handed.{retry_issues}
use Rattle.history.specs.Rollback.{Foreigner, TakesNone, TakenBy}

takes_none : (e : Event) → Foreigner e → TakesNone e
takes_none attempt_begun f = tt
takes_none boundary_run f = tt
takes_none yielded f = tt
takes_none spun f = tt
takes_none step_dropped f = tt
takes_none (took by_caller c s) f = f
takes_none (took by_script c s) f = tt
takes_none (released a c s) f = tt
takes_none (waiters_set c n) f = tt
takes_none (health_set i n) f = tt
takes_none (held_all_lem m) f = tt
takes_none (added m c v) f = tt

-- every event of a log is so
pub data Every (P : Event → Type 0) : List Event → Type 0 where
  end : Every P []
  also : (e : Event) {es : List Event} → P e → Every P es → Every P (e ∷ es)

pub every_append : {P : Event → Type 0} {xs ys : List Event} → Every P xs → Every P ys → Every P (xs ++ ys)
every_append end b = b
every_append (also e p a) b = also e p (every_append a b)

pub every_map : {P Q : Event → Type 0} {es : List Event} → ((e : Event) → P e → Q e) → Every P es → Every Q es
every_map f end = end
every_map f (also e p a) = also e (f e p) (every_map f a)

pub every_at : {P : Event → Type 0} (e : Event) (before after : List Event) → Every P (before ++ (e ∷ after)) → P e
every_at e [] after (also x p a) = p
every_at e (y ∷ before) after (also x p a) = every_at e before after a

module _ (e : Setting) where
  step_foreign : (n : ℕ) (t g : List ℕ) (kind place number : ℕ) → Every Foreigner (step_of e n t g kind place number).log
  unfolding step_of step_take_of step_release_of step_waiters_of step_health_of
  step_foreign n t g kind place number =
      if_both P (eqb kind 0) end
      (if_both P (eqb kind 1) (if_both P' (ltb place e.cells && is_free (bit_at t place) (owner_at t place) && serial_remains n) (also _ tt end) (also _ tt end))
      (if_both P (eqb kind 2) (if_both P' (is_live n e.cells t (hold_of place number) && not (is_in (hold_of place number) e.protected)) (also _ tt end) (also _ tt end))
      (if_both P (eqb kind 3) (if_both P' (ltb place e.cells) (also _ tt end) (also _ tt end))
      (if_both P (eqb kind 4) (if_both P' (ltb place e.headers && leb number 1) (also _ tt end) (also _ tt end))
      (if_both P (eqb kind 5) end (also _ tt end))))))
    where
      P : Made (With Stepped) → Type 0
      P m = Every Foreigner m.log

      P' : Made (Stepped × List ℕ) → Type 0
      P' m = Every Foreigner (m.log ++ [])

  steps_foreign : (left : ℕ) (f : Flow) (t g : List ℕ) → Every Foreigner (run_steps_of left e f t g).log
  unfolding run_steps_of
  steps_foreign zero f t g = end
  steps_foreign (suc left) f t g =
      let kind = kind_at e.script f.place in
      if_both (λ (m : Made (With Flow)). Every Foreigner m.log) (eqb kind 5) end
      (every_append (step_foreign f.next t g kind (place_at e.script f.place) (number_at e.script f.place)) (steps_foreign left _ _ _))

  pub boundary_foreign : (f : Flow) (t g : List ℕ) → Every Foreigner (boundary_of e f t g).log
  unfolding boundary_of
  boundary_foreign f t g = also boundary_run tt (steps_foreign (steps_in e.script - f.place) f t g)

-- ---- the order of giving back

-- what follows a boundary's log is all that the caller releases
pub still_then : {xs : List Event} (ys : List Event) → Every Foreigner xs → caller_releases (xs ++ ys) ≡ caller_releases ys
unfolding caller_releases
still_then ys end = refl
still_then ys (also attempt_begun p a) = still_then ys a
still_then ys (also boundary_run p a) = still_then ys a
still_then ys (also yielded p a) = still_then ys a
still_then ys (also spun p a) = still_then ys a
still_then ys (also step_dropped p a) = still_then ys a
still_then ys (also (took x c s) p a) = still_then ys a
still_then ys (also (released by_caller c s) p a) = absurd p
still_then ys (also (released by_script c s) p a) = still_then ys a
still_then ys (also (waiters_set c n) p a) = still_then ys a
still_then ys (also (health_set i n) p a) = still_then ys a
still_then ys (also (held_all_lem m) p a) = still_then ys a
still_then ys (also (added m c v) p a) = still_then ys a

-- "last first, a boundary after each release": `release_all` and multi-lock's rollback release the first n of their leases in falling order of position
falling : (n : ℕ) (e : Setting) (ls : List Hold) (r : Run) (t g : List ℕ) → n ≤ length ls
    → caller_releases (give_back_of n e ls r t g).log ≡ reverse (take n ls)
unfolding give_back_of caller_releases
falling zero e ls r t g k = refl
falling (suc n) e ls r t g k =
    let l = hold_at ls n in
    let u = set_cell t l.cell 0 0 in
    let b = boundary_of (protecting e (take n ls)) r.flow u g in
    let m = b.seen in
    let rest = falling n e ls (run_of m.0 r.attempts (r.boundaries + 1) r.yields) m.1.0 m.1.1 (omega arith) in
    let turned : reverse (take (suc n) ls) ≡ l ∷ reverse (take n ls) = ap (λ (x : List Hold). reverse x) (take-suc ls n no_hold (omega arith)) ∙ reverse-append (take n ls) (l ∷ []) in
    ap (λ (x : List Hold). l ∷ x) (still_then _ (boundary_foreign (protecting e (take n ls)) r.flow u g) ∙ rest) ∙ sym turned

-- multi-lock's rollback, with all the leases it took
falling_rollback : (e : Setting) (taken : List Hold) (x : Refusal) (p : ℕ) (r : Run) (t g grants : List ℕ)
    → caller_releases (rollback_of e taken x p r t g grants).log ≡ reverse taken
unfolding rollback_of
falling_rollback e taken x p r t g grants =
    ap (λ (es : List Event). caller_releases es) (append-nil (give_back_of (length taken) e taken r t g).log)
    ∙ falling (length taken) e taken r t g (omega arith) ∙ ap (λ (ls : List Hold). reverse ls) (take-length taken)

pub releases_fall : FallingAll perform
releases_fall w script place leases =
    let k = release_all script place leases in
    performed (λ m. m.seen.1.answer ≡ Done → caller_releases m.log ≡ reverse (holds_of leases)) w k
    (λ r a. let z : ◌≡◌ {A = ℕ} 0 1 = cc in absurd (omega arith))
    (λ _ _.
    falling (lease_count leases) (acting w k) (holds_of leases) (starting w.head place) w.table w.health (omega (arith, words_leases leases))
    ∙ ap (λ (ls : List Hold). reverse ls) (take_all (lease_count leases) (holds_of leases) (omega (arith, holds_few leases))))

back_takes_none : (n : ℕ) (e : Setting) (ls : List Hold) (r : Run) (t g : List ℕ) → Every TakesNone (give_back_of n e ls r t g).log
unfolding give_back_of
back_takes_none zero e ls r t g = end
back_takes_none (suc n) e ls r t g =
    let l = hold_at ls n in
    let u = set_cell t l.cell 0 0 in
    let m = (boundary_of (protecting e (take n ls)) r.flow u g).seen in
    also (released by_caller l.cell l.serial) tt
    (every_append (every_map takes_none (boundary_foreign (protecting e (take n ls)) r.flow u g))
    (back_takes_none n e ls (run_of m.0 r.attempts (r.boundaries + 1) r.yields) m.1.0 m.1.1))

by_left : (l : Hold) (xs ys : List Event) → TakenBy l xs → TakenBy l (xs ++ ys)
by_left l xs ys t = (t.0, t.1 ++ ys, ap (λ (z : List Event). z ++ ys) t.2 ∙ append_assoc t.0 _ ys)

by_right : (l : Hold) (xs ys : List Event) → TakenBy l ys → TakenBy l (xs ++ ys)
by_right l xs ys t = (xs ++ t.0, t.1, ap (λ (z : List Event). xs ++ z) t.2 ∙ sym (append_assoc xs t.0 _))

position : {x y : Refusal} {p q : ℕ} → RefusedAt x p ≡ RefusedAt y q → p ≡ q
position e = cc

only : (k l : Hold) → In (k ∷ []) l → k ≡ l
unfolding is_in
only k l j = elim (in_cases k l [] j) [ inl q ↦ q | inr z ↦ absurd (differ z) ]

-- a place of a list with one more
one_more : (P : ℕ → Hold → Type 0) (taken : List Hold) (l : Hold) → ((i : ℕ) → i < length taken → P i (hold_at taken i)) → P (length taken) l
    → (i : ℕ) → i < length taken + 1 → P i (hold_at (taken ++ (l ∷ [])) i)
one_more P taken l all new i k = go (ℕ_discrete i (length taken))
  where
    go : Dec (i ≡ length taken) → P i (hold_at (taken ++ (l ∷ [])) i)
    go (yes e) = rw (e, get_or-append_seam taken l [] no_hold) new
    go (no e) = let b : i < length taken = omega arith in rw (get_or-append taken (l ∷ []) no_hold i b) (all i b)

module _ (buckets boot : ℕ) (registry keys : List ℕ) where
  abbrev Own : ℕ → Hold → Type 0
  Own i l = l.cell ≡ key_cell buckets registry keys i

  -- from leases in hand on, of keys before the position p
  record Back (hand : List Hold) (total p : ℕ) (log : List Event) : Type 0 where
    locking : List Event
    rollback : List Event
    leases : List Hold
    parts : log ≡ locking ++ rollback
    position : p < total
    many : length leases ≡ p
    all_own : (i : ℕ) → i < p → Own i (hold_at leases i)
    kept : (l : Hold) → In hand l → In leases l
    taken : (l : Hold) → In leases l → In hand l ⊎ TakenBy l locking
    others : Settles (In leases) locking
    last_first : caller_releases rollback ≡ reverse leases
    none_taken : Every TakesNone rollback

  -- the rollback itself, behind the attempts at the key that was refused
  rolled : (e : Setting) (taken : List Hold) (x : Refusal) (total p : ℕ) (r : Run) (t g grants : List ℕ) (es : List Event) → p < total → length taken ≡ p
      → ((i : ℕ) → i < p → Own i (hold_at taken i)) → Settles (In taken) es → Back taken total p (es ++ (rollback_of e taken x p r t g grants).log)
  unfolding rollback_of
  rolled e taken x total p r t g grants es b n all s =
      record {
        locking = es;
        rollback = (rollback_of e taken x p r t g grants).log;
        leases = taken;
        parts = refl;
        position = b;
        many = n;
        all_own = all;
        kept = λ l i. i;
        taken = λ l i. inl i;
        others = s;
        last_first = falling_rollback e taken x p r t g grants;
        none_taken = every_append (back_takes_none (length taken) e taken r t g) end;
      }

  -- one key locked before
  behind : {taken : List Hold} {total q : ℕ} {log : List Event} (l : Hold) (es : List Event) → Settles (Given (outcome.Granted l)) es → TakenBy l es
      → Back (taken ++ (l ∷ [])) total q log → Back taken total q (es ++ log)
  behind {taken} {total} {q} {log} l es s by b =
      record {
        locking = es ++ b.locking;
        rollback = b.rollback;
        leases = b.leases;
        parts = ap (λ (z : List Event). es ++ z) b.parts ∙ sym (append_assoc es b.locking b.rollback);
        position = b.position;
        many = b.many;
        all_own = b.all_own;
        kept = λ k i. b.kept k (in_left k taken (l ∷ []) i);
        taken = λ k i. from k (b.taken k i);
        others = join s b.others (λ k g. inl (b.kept k (in_right k taken (l ∷ []) (let y : l ≡ k = cc in subst (In (l ∷ [])) y (in_first l [])))));
        last_first = b.last_first;
        none_taken = b.none_taken;
      }
    where
      from : (k : Hold) → In (taken ++ (l ∷ [])) k ⊎ TakenBy k b.locking → In taken k ⊎ TakenBy k (es ++ b.locking)
      from k (inl i) = elim (in_either k taken (l ∷ []) i) [ inl j ↦ inl j | inr j ↦ inr (subst (λ z. TakenBy z (es ++ b.locking)) (only l k j) (by_left l es b.locking by)) ]
      from k (inr t) = inr (by_right k es b.locking t)

  locks_back : (total left p : ℕ) → p + left ≡ total → (e : Setting) (taken : List Hold) (r : Run) (t g grants : List ℕ) (x : Refusal) (q : ℕ) → length taken ≡ p
      → ((i : ℕ) → i < p → Own i (hold_at taken i))
      → let m = locks_of left p e buckets boot registry keys taken r t g grants in m.seen.0.answer ≡ RefusedAt x q → Back taken total q m.log
  unfolding locks_of rollback_of
  locks_back total zero p h e taken r t g grants x q n all a = let z : AllGranted ≡ RefusedAt x q = a in let y : ◌≡◌ {A = ℕ} 0 1 = cc in absurd (omega arith)
  locks_back total (suc left) p h e taken r t g grants x q n all a =
      let f = protecting e taken in
      let b = binding_at keys p in
      let c = bucket_at keys p in
      let m = (retry_of attempt_limit 0 none_yet f buckets registry b c r t g).seen in
      go m.0.outcome m.0.run m.1.0 m.1.1 (retry_of attempt_limit 0 none_yet f buckets registry b c r t g).log (retry_hands f attempt_limit 0 none_yet buckets registry b c r t g).settles
      (retry_names f buckets registry b c attempt_limit 0 none_yet r t g) (λ l i. by ((retry_issues f attempt_limit 0 none_yet buckets registry b c r t g).comes l i))
      (λ l o. locks_back total left (p + 1) (omega arith) e (taken ++ (l ∷ [])) m.0.run m.1.0 m.1.1 grants x q (omega (arith, length-append taken (l ∷ [])))
      (λ i k. one_more Own taken l (λ j d. all j (omega arith)) (subst (λ (z : ℕ). Own z l) (sym n) o) i (omega arith))) a
    where
      by : {k : ℕ} {l : Hold} {es : List Event} → Nobody l ⊎ TakenIn k l es → TakenBy l es
      by (inl z) = absurd z
      by (inr t) = (t.before, t.after, t.parts)

      go : (o : Outcome) (s : Run) (u y : List ℕ) (es : List Event) → Settles (Given o) es → Names (key_cell buckets registry keys p) o
          → ((l : Hold) → Given o l → TakenBy l es)
          → ((l : Hold) → Own p l → let m = locks_of left (p + 1) e buckets boot registry keys (taken ++ (l ∷ [])) s u y grants in
          m.seen.0.answer ≡ RefusedAt x q → Back (taken ++ (l ∷ [])) total q m.log)
          → let m = after_key o e taken p s u y grants (λ l. locks_of left (p + 1) e buckets boot registry keys (taken ++ (l ∷ [])) s u y grants) in
          m.seen.0.answer ≡ RefusedAt x q → Back taken total q (es ++ m.log)
      go (outcome.Granted l) s u y es f c d on = λ a. behind l es f (d l refl) (on l (c l refl) a)
      go (outcome.Busy why) s u y es f c d on = λ a. let k : p ≡ q = position a in subst (λ (z : ℕ). Back taken total z (es ++ (rollback_of e taken (SerializationFailure why) p s u y grants).log)) k
          (rolled e taken (SerializationFailure why) total p s u y grants es (omega arith) n all (loosen (λ l i. absurd (no_grant i)) f))
      go (outcome.Refused z) s u y es f c d on = λ a. let k : p ≡ q = position a in subst (λ (v : ℕ). Back taken total v (es ++ (rollback_of e taken z p s u y grants).log)) k
          (rolled e taken z total p s u y grants es (omega arith) n all (loosen (λ l i. absurd (no_refused i)) f))

pub locks_roll_back : RollbackIs perform
locks_roll_back w registry script place held keys grants x p a =
    let k = acquire_locks registry script place held keys grants in
    performed (λ m. m.seen.1.answer ≡ RefusedAt x p → RolledBack w.head.buckets registry keys p m.log) w k
    (λ r a. let z : ◌≡◌ {A = ℕ} 0 1 = cc in absurd (omega arith))
    (λ _ a.
    done (locks_back w.head.buckets w.head.boot registry keys (count_in keys) (count_in keys) 0 (omega arith) (acting w k) [] (starting w.head place) w.table w.health grants x p refl
    (λ i h. absurd (omega arith)) a)) a
  where
    done : {log : List Event} → Back w.head.buckets w.head.boot registry keys [] (count_in keys) p log → RolledBack w.head.buckets registry keys p log
    done b =
        record {
          locking = b.locking;
          rollback = b.rollback;
          leases = b.leases;
          parts = b.parts;
          position = b.position;
          many = b.many;
          own = b.all_own;
          taken = λ l i. elim (b.taken l i) [ inl z ↦ absurd (none_in l z) | inr t ↦ t ];
          others = λ c s before after e. elim (settled_at c s before after (subst (Settles (In b.leases)) e b.others)) [ inl i ↦ inl i | inr f ↦ inr (freed_at f) ];
          last_first = b.last_first;
          none_taken = λ c s before after e. every_at (took by_caller c s) before after (subst (Every TakesNone) e b.none_taken);
        }
