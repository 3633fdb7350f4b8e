-- A refused call: at a key's header or bucket before any attempt, exactly then; or later, at the first position that asks for the cell.
use Prim.Native.Nat.{ℕ, zero, suc, ◌+◌, ◌*◌, ◌<◌}
use Rattle.std.specs.Prelude.{◌≡◌, refl, ◌⊎◌, ◌↔◌, length, get_or, replicate, Ok, Err}
use Rattle.std.proofs.Common.{sym, ap, ◌∙◌, subst, inl, inr, arith}
use mathlib.Core.List.{List, [], ◌∷◌, ◌++◌}
use Rattle.std.proofs.lemmas.List.{length-replicate}
use Rattle.types.specs.Checks.{Check, Found, KeyCheck}
use borrow.Author.Tests.{lt-leb}
use Rattle.choice.specs.Pick.{if_both}
use Rattle.model.specs.Log.{Made, Event}
use Rattle.model.specs.Arena.{is_poisoned, holds_of}
use Rattle.model.specs.Refusals.{first}
use Rattle.model.specs.Foreign.{Setting, protecting}
use Rattle.model.specs.Lock.{find_of, attempt_at, attempt_of, pause_of, is_busy, retry_of, attempt_limit, none_yet, rollback_of, after_key, binding_at, bucket_at, Locks, locks_of}
use Rattle.model.specs.Checks.{count_in}
use Rattle.model.specs.Calls.{given, starting, acquire_locks_of}
use Rattle.model.specs.Sorted.{header_of_key, first_asking, first_key, judge_at, asked_first, acquire_sorted_of}
use Rattle.types.specs.declared.Answer.{Answer}
use Rattle.types.specs.declared.Answer.TheVariants.{Done, Cell, Granted, AllGranted, Busy, Refused, RefusedAt}
use Rattle.types.specs.declared.Hold.{Hold}
use Rattle.types.specs.declared.Outcome.{Outcome}
use Rattle.types.specs.declared.Outcome.TheVariants as outcome
use Rattle.types.specs.declared.Reason.{Reason}
use Rattle.types.specs.declared.Refusal.{Refusal}
use Rattle.types.specs.declared.Run.{Run}
use Rattle.types.specs.declared.Tried.{Tried}
use Rattle.laws.specs.Outcomes.{Comes, granted, busy, poisoned, damaged, spent, lock_comes}
use Rattle.history.specs.World.{World}
use Rattle.history.specs.Items.{Call, Says, unchanged_at, acquire_locks, acquire_sorted, perform, Clear, rules}
use Rattle.history.specs.Statements.{answer_in, RolledBack}
use Rattle.history.specs.Judged.{clear, judged_at, seen_as, sorted_locks, as_asked, made_so}
use Rattle.history.proofs.Rollback.{locks_roll_back}
use Rattle.history.proofs.Shared.{asked_cells, sorted_cells, chosen_keys, asked_at, first_place, first_place_at, chosen_binding, chosen_bucket, chosen_count}
use Rattle.sorted_theory.specs.Statements.{TestsKey, KeyInside, FirstBad, KeysFirst, ChecksAsTyped, BeyondChecks, RefusedLater, LaterPosition}
use Rattle.sorted_theory.specs.Keys.{keys_inside, first_found, bad_tests, none_before}
use Rattle.sorted_theory.specs.Runs.{Goes, refused_whole, refused_key, locks, goes, as_multilock}

-- ---- the steps never refuse with 6 or 8, once every key was found inside

abbrev Otherwise : Outcome → Type 0
Otherwise (outcome.Granted l) = Unit {0}
Otherwise (outcome.Busy why) = Unit {0}
Otherwise (outcome.Refused r) = TestsKey r → ⊥

none_of : {n : ℕ} → (n ≡ 6 → ⊥) → (n ≡ 8 → ⊥) → (n ≡ 6) ⊎ (n ≡ 8) → ⊥
none_of f g (inl e) = f e
none_of f g (inr e) = g e

lock_otherwise : {buckets c : ℕ} {g : List ℕ} {o : Outcome} → Comes buckets c g o → Otherwise o
lock_otherwise (granted s h) = tt
lock_otherwise (busy why) = tt
lock_otherwise (poisoned h) = none_of (λ e. omega arith) (λ e. omega arith)
lock_otherwise damaged = none_of (λ e. omega arith) (λ e. omega arith)
lock_otherwise spent = none_of (λ e. omega arith) (λ e. omega arith)

abbrev FoundOtherwise : Found → Type 0
FoundOtherwise (Err r) = TestsKey r → ⊥
FoundOtherwise (Ok c) = Unit {0}

module _ (e : Setting) (buckets : ℕ) (registry : List ℕ) (binding bucket : ℕ) (header_in : get_or registry binding 0 < e.headers) (bucket_in : bucket < buckets) where
  find_otherwise : (g : List ℕ) → FoundOtherwise (find_of e.headers buckets g registry binding bucket)
  unfolding find_of
  find_otherwise g =
      rw (lt-leb e.headers (get_or registry binding 0) header_in, lt-leb buckets bucket bucket_in)
      (if_both FoundOtherwise (is_poisoned g (get_or registry binding 0)) (none_of (λ e. omega arith) (λ e. omega arith)) tt)

  attempt_otherwise : (r : Run) (t g : List ℕ) → Otherwise (attempt_of e buckets registry binding bucket r t g).seen.0.outcome
  unfolding attempt_of
  attempt_otherwise r t g = go (find_of e.headers buckets g registry binding bucket) (find_otherwise g)
    where
      go : (x : Found) → FoundOtherwise x → Otherwise (attempt_at x e buckets r t g).seen.0.outcome
      go (Err x) h = h
      go (Ok c) h = lock_otherwise (lock_comes e buckets c r.flow t g)

  retry_otherwise : (left i : ℕ) (last : Reason) (r : Run) (t g : List ℕ) → Otherwise (retry_of left i last e buckets registry binding bucket r t g).seen.0.outcome
  unfolding retry_of
  retry_otherwise zero i last r t g = tt
  retry_otherwise (suc left) i last r t g =
      let m = (attempt_of e buckets registry binding bucket r t g).seen in
      let p = (pause_of e i m.0.run m.1.0 m.1.1).seen in
      if_both (λ (x : Made (Tried × (List ℕ × List ℕ))). Otherwise x.seen.0.outcome) (is_busy m.0.outcome)
      (retry_otherwise left (i + 1) _ p.0 p.1.0 p.1.1) (attempt_otherwise r t g)

abbrev AnswersOtherwise : Answer → Type 0
AnswersOtherwise Done = Unit {0}
AnswersOtherwise (Cell c) = Unit {0}
AnswersOtherwise (Granted l) = Unit {0}
AnswersOtherwise AllGranted = Unit {0}
AnswersOtherwise (Busy why) = Unit {0}
AnswersOtherwise (Refused r) = Unit {0}
AnswersOtherwise (RefusedAt r p) = TestsKey r → ⊥

locks_otherwise : (left p : ℕ) (e : Setting) (buckets boot : ℕ) (registry keys : List ℕ)
    → ((i : ℕ) → i < p + left → (header_of_key registry keys i < e.headers) × (bucket_at keys i < buckets))
    → (taken : List Hold) (r : Run) (t g grants : List ℕ) → AnswersOtherwise (locks_of left p e buckets boot registry keys taken r t g grants).seen.0.answer
unfolding locks_of rollback_of
locks_otherwise zero p e buckets boot registry keys f taken r t g grants = tt
locks_otherwise (suc left) p e buckets boot registry keys f taken r t g grants =
    let k = f p (omega arith) in
    let m = (retry_of attempt_limit 0 none_yet (protecting e taken) buckets registry (binding_at keys p) (bucket_at keys p) r t g).seen in
    go m.0.outcome m.0.run m.1.0 m.1.1 (retry_otherwise (protecting e taken) buckets registry (binding_at keys p) (bucket_at keys p) k.0 k.1 attempt_limit 0 none_yet r t g)
    (λ l. locks_of left (p + 1) e buckets boot registry keys (taken ++ (l ∷ [])) m.0.run m.1.0 m.1.1 grants)
    (λ l. locks_otherwise left (p + 1) e buckets boot registry keys (λ i j. f i (omega arith)) (taken ++ (l ∷ [])) m.0.run m.1.0 m.1.1 grants)
  where
    go : (x : Outcome) (s : Run) (u w : List ℕ) → Otherwise x → (more : Hold → Made Locks) → ((l : Hold) → AnswersOtherwise (more l).seen.0.answer)
        → AnswersOtherwise (after_key x e taken p s u w grants more).seen.0.answer
    go (outcome.Granted l) s u w o more h = h l
    go (outcome.Busy why) s u w o more h = none_of (λ e. omega arith) (λ e. omega arith)
    go (outcome.Refused y) s u w o more h = o

asked_otherwise : (asked sorted : List ℕ) (x : Answer) → AnswersOtherwise x → AnswersOtherwise (asked_first x asked sorted)
asked_otherwise asked sorted Done h = tt
asked_otherwise asked sorted (Cell c) h = tt
asked_otherwise asked sorted (Granted l) h = tt
asked_otherwise asked sorted AllGranted h = tt
asked_otherwise asked sorted (Busy why) h = tt
asked_otherwise asked sorted (Refused r) h = tt
asked_otherwise asked sorted (RefusedAt r p) h = h

module _ (w : World) (registry script : List ℕ) (place : ℕ) (held keys grants : List ℕ) where
  abbrev b : ℕ
  b = w.head.buckets

  chosen_inside : BeyondChecks w registry script place held keys grants → (i : ℕ) → i < length (sorted_cells b registry keys)
      → KeyInside w.head registry (chosen_keys b registry keys) i
  chosen_inside c i l =
      let f = first_place_at b registry keys i l in
      rw (chosen_binding b registry keys i l, chosen_bucket b registry keys i l) (keys_inside w.head registry keys c.1 (first_place b registry keys i) f.0)

  steps_otherwise : BeyondChecks w registry script place held keys grants
      → AnswersOtherwise (asked_first (sorted_locks w registry script place held keys grants).seen.0.answer (asked_cells b registry keys) (sorted_cells b registry keys))
  steps_otherwise c =
      asked_otherwise (asked_cells b registry keys) (sorted_cells b registry keys) (sorted_locks w registry script place held keys grants).seen.0.answer
      (locks_otherwise (length (sorted_cells b registry keys)) 0 (given w.head script (holds_of held)) b w.head.boot registry (chosen_keys b registry keys) (λ i l. chosen_inside c i (omega arith)) [] (starting w.head place) w.table w.health grants)

  -- ---- exactly then

  abbrev FirstSo : Refusal → ℕ → Made (World × Says) → Type 0
  FirstSo r p m =
      Clear (rules w (acquire_sorted registry script place held keys grants)) × FirstBad w.head registry keys r p
      × (m ≡ unchanged_at w (acquire_sorted registry script place held keys grants) r p)

  first_so : (r : Refusal) (p : ℕ) {m : Made (World × Says)} → Goes w registry script place held keys grants m → answer_in m ≡ RefusedAt r p → TestsKey r → FirstSo r p m
  first_so r p (refused_whole x) a t = let z : ◌≡◌ {A = ℕ} 0 1 = cc in absurd (omega arith)
  first_so r p (refused_key x q c f) a t =
      let u : x ≡ r = cc in
      let v : q ≡ p = cc in
      let k = acquire_sorted registry script place held keys grants in
      subst (λ (y : Refusal). FirstSo y p (unchanged_at w k x q)) u (subst (λ (y : ℕ). FirstSo x y (unchanged_at w k x q)) v (c, f, refl))
  first_so r p (locks c) a t = absurd (subst AnswersOtherwise a (steps_otherwise c) t)

pub keys_first : KeysFirst perform
keys_first w registry script place held keys grants r p =
    let run = goes w registry script place held keys grants in
    let so = first_so w registry script place held keys grants r p run in (
      (λ x. let y = so x.0 x.1 in (y.0, y.1), λ x. (found x.0 x.1, bad_tests w.head registry keys p x.1.here)),
      λ a t. (so a t).2,
    )
  where
    found : Clear (rules w (acquire_sorted registry script place held keys grants)) → FirstBad w.head registry keys r p
        → answer_in (perform w (acquire_sorted registry script place held keys grants)) ≡ RefusedAt r p
    found c f =
        let k = acquire_sorted registry script place held keys grants in
        ap (λ (m : Made (World × Says)). answer_in m) (made_so w k c)
        ∙ ap (λ (x : KeyCheck). answer_in (judge_at x (unchanged_at w k) (seen_as (as_asked w registry keys) (sorted_locks w registry script place held keys grants)))) (first_found w.head registry keys r p f)

-- ---- later

-- a refusal of the call is one of its locks, at the place of the cell in the sorted list
refused_inner : (asked sorted : List ℕ) (x : Answer) (r : Refusal) (p : ℕ) → asked_first x asked sorted ≡ RefusedAt r p → (i : ℕ) × (x ≡ RefusedAt r i) × (first_asking asked (get_or sorted i 0) ≡ p)
refused_inner asked sorted Done r p e = let z : ◌≡◌ {A = ℕ} 0 1 = cc in absurd (omega arith)
refused_inner asked sorted (Cell c) r p e = let z : ◌≡◌ {A = ℕ} 0 1 = cc in absurd (omega arith)
refused_inner asked sorted (Granted l) r p e = let z : ◌≡◌ {A = ℕ} 0 1 = cc in absurd (omega arith)
refused_inner asked sorted AllGranted r p e = let z : ◌≡◌ {A = ℕ} 0 1 = cc in absurd (omega arith)
refused_inner asked sorted (Busy why) r p e = let z : ◌≡◌ {A = ℕ} 0 1 = cc in absurd (omega arith)
refused_inner asked sorted (Refused s) r p e = let z : ◌≡◌ {A = ℕ} 0 1 = cc in absurd (omega arith)
refused_inner asked sorted (RefusedAt s i) r p e = let a : s ≡ r = cc in let b : first_asking asked (get_or sorted i 0) ≡ p = cc in (i, ap {B = Answer} (λ y. RefusedAt y i) a, b)

not_granted : {x : Answer} {r : Refusal} {i : ℕ} → x ≡ RefusedAt r i → x ≡ AllGranted → ⊥
not_granted e f = let z : ◌≡◌ {A = ℕ} 0 1 = cc in omega arith

module _ (w : World) (registry script : List ℕ) (place : ℕ) (held keys grants : List ℕ) (r : Refusal) where
  abbrev sorted : List ℕ
  sorted = sorted_cells w.head.buckets registry keys

  beyond : {m : Made (World × Says)} (p : ℕ) → Goes w registry script place held keys grants m → answer_in m ≡ RefusedAt r p → (TestsKey r → ⊥)
      → BeyondChecks w registry script place held keys grants
  beyond p (refused_whole x) a n = let z : ◌≡◌ {A = ℕ} 0 1 = cc in absurd (omega arith)
  beyond p (refused_key x q c f) a n = let u : x ≡ r = cc in absurd (n (subst TestsKey u (bad_tests w.head registry keys q f.here)))
  beyond p (locks c) a n = c

  -- the first position that asks for the cell at place i of the sorted list
  at_first : (i : ℕ) (log : List Event) → RolledBack w.head.buckets registry (chosen_keys w.head.buckets registry keys) i log
      → RefusedLater w.head.buckets registry keys (first_place w.head.buckets registry keys i) log
  at_first i log back =
      let b = w.head.buckets in
      let l : i < length sorted = omega (arith, back.position, chosen_count b registry keys) in
      let f = first_place_at b registry keys i l in
      record {
        position = f.0;
        first_asking_lem = λ q k e. none_before (asked_cells b registry keys) (get_or sorted i 0) q k (asked_at b registry keys q (omega (arith, f.0, k)) ∙ e ∙ f.1);
        place = i;
        cell = sym f.1;
        back = back;
      }

pub later_position : LaterPosition perform
later_position w registry script place held keys grants r p a n =
    let b = w.head.buckets in
    let m = perform w (acquire_sorted registry script place held keys grants) in
    let chosen = chosen_keys b registry keys in
    let other : List ℕ = replicate (3 * length (sorted_cells b registry keys)) 0 in
    let c = beyond w registry script place held keys grants r p (goes w registry script place held keys grants) a n in
    let y = (as_multilock w registry script place held keys grants other c (length-replicate {A = ℕ} (3 * length (sorted_cells b registry keys)) 0)).1 in
    let x = refused_inner (asked_cells b registry keys) (sorted_cells b registry keys) (answer_in (perform w (acquire_locks registry script place held chosen other))) r p (sym y.answer ∙ a) in
    let back = locks_roll_back w registry script place held chosen other r x.0 x.1 in (
      subst (λ (q : ℕ). RefusedLater b registry keys q m.log) x.2
          (at_first w registry script place held keys grants r x.0 m.log (subst (λ (es : List Event). RolledBack b registry chosen x.0 es) (sym y.log) back)),
      y.kept (not_granted x.1),
    )

-- ---- without a position: by multi-lock's checks alone

abbrev Positioned : Answer → Type 0
Positioned Done = Unit {0}
Positioned (Cell c) = Unit {0}
Positioned (Granted l) = Unit {0}
Positioned AllGranted = Unit {0}
Positioned (Busy why) = Unit {0}
Positioned (Refused r) = ⊥
Positioned (RefusedAt r p) = Unit {0}

locks_positioned : (left p : ℕ) (e : Setting) (buckets boot : ℕ) (registry keys : List ℕ) (taken : List Hold) (r : Run) (t g grants : List ℕ)
    → Positioned (locks_of left p e buckets boot registry keys taken r t g grants).seen.0.answer
unfolding locks_of rollback_of
locks_positioned zero p e buckets boot registry keys taken r t g grants = tt
locks_positioned (suc left) p e buckets boot registry keys taken r t g grants =
    let m = (retry_of attempt_limit 0 none_yet (protecting e taken) buckets registry (binding_at keys p) (bucket_at keys p) r t g).seen in
    go m.0.outcome m.0.run m.1.0 m.1.1 (λ l. locks_of left (p + 1) e buckets boot registry keys (taken ++ (l ∷ [])) m.0.run m.1.0 m.1.1 grants)
    (λ l. locks_positioned left (p + 1) e buckets boot registry keys (taken ++ (l ∷ [])) m.0.run m.1.0 m.1.1 grants)
  where
    go : (x : Outcome) (s : Run) (u w : List ℕ) (more : Hold → Made Locks) → ((l : Hold) → Positioned (more l).seen.0.answer)
        → Positioned (after_key x e taken p s u w grants more).seen.0.answer
    go (outcome.Granted l) s u w more h = h l
    go (outcome.Busy why) s u w more h = tt
    go (outcome.Refused y) s u w more h = tt

asked_positioned : (asked sorted : List ℕ) (x : Answer) → Positioned x → Positioned (asked_first x asked sorted)
asked_positioned asked sorted Done h = tt
asked_positioned asked sorted (Cell c) h = tt
asked_positioned asked sorted (Granted l) h = tt
asked_positioned asked sorted AllGranted h = tt
asked_positioned asked sorted (Busy why) h = tt
asked_positioned asked sorted (Refused r) h = h
asked_positioned asked sorted (RefusedAt r p) h = tt

module _ (w : World) (registry script : List ℕ) (place : ℕ) (held keys grants : List ℕ) where
  abbrev sorted_call : Call
  sorted_call = acquire_sorted registry script place held keys grants

  abbrev typed_call : Call
  typed_call = acquire_locks registry script place held keys grants

  -- a check of multi-lock applies: both calls answer it
  both_refuse : (r : Refusal) → first (rules w typed_call) ≡ Err r → (answer_in (perform w sorted_call) ≡ Refused r) × (answer_in (perform w typed_call) ≡ Refused r)
  unfolding perform acquire_sorted_of acquire_locks_of
  both_refuse r e = (rw e, rw e)

  -- none applies: neither is refused without a position
  sorted_positioned : first (rules w typed_call) ≡ Ok tt → Positioned (answer_in (perform w sorted_call))
  sorted_positioned e =
      subst (λ (m : Made (World × Says)). Positioned (answer_in m)) (sym (made_so w sorted_call (clear (rules w sorted_call) e)))
      (judged_at (λ (m : Made (World × Says)). Positioned (answer_in m)) (first_key (count_in keys) 0 w.head registry keys) (λ r p _. tt)
      (λ _.
      asked_positioned (asked_cells w.head.buckets registry keys) (sorted_cells w.head.buckets registry keys) (sorted_locks w registry script place held keys grants).seen.0.answer
      (locks_positioned (length (sorted_cells w.head.buckets registry keys)) 0 (given w.head script (holds_of held)) w.head.buckets w.head.boot registry (chosen_keys w.head.buckets registry keys) [] (starting w.head place) w.table w.health grants)))

  typed_positioned : first (rules w typed_call) ≡ Ok tt → Positioned (answer_in (perform w typed_call))
  typed_positioned e =
      subst (λ (m : Made (World × Says)). Positioned (answer_in m)) (sym (made_so w (acquire_locks registry script place held keys grants) (clear (rules w typed_call) e)))
      (locks_positioned (count_in keys) 0 (given w.head script (holds_of held)) w.head.buckets w.head.boot registry keys [] (starting w.head place) w.table w.health grants)

pub checks_as_typed : ChecksAsTyped perform
checks_as_typed w registry script place held keys grants r = go (first (rules w (acquire_locks registry script place held keys grants))) refl
  where
    A : Answer
    A = answer_in (perform w (acquire_sorted registry script place held keys grants))

    B : Answer
    B = answer_in (perform w (acquire_locks registry script place held keys grants))

    go : (x : Check) → first (rules w (acquire_locks registry script place held keys grants)) ≡ x → (A ≡ Refused r) ↔ (B ≡ Refused r)
    go (Ok tt) e = (
      λ q. absurd (subst Positioned q (sorted_positioned w registry script place held keys grants e)),
      λ q. absurd (subst Positioned q (typed_positioned w registry script place held keys grants e)),
    )
    go (Err y) e = let both = both_refuse w registry script place held keys grants y e in (λ q. both.1 ∙ sym both.0 ∙ q, λ q. both.0 ∙ sym both.1 ∙ q)
