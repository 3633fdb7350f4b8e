-- How the call goes: refused whole, refused at a position before any attempt, or multi-lock's parts over the sorted keys. And that these are the
-- steps of multi-lock's own call, given the sorted keys.
use Prim.Native.Nat.{ℕ, zero, suc, ◌+◌, ◌*◌, ◌/◌, ◌%◌, ◌<◌}
use Rattle.std.specs.Prelude.{◌≡◌, not, ◌||◌, leb, eqb, length}
use Rattle.std.proofs.Math.Path.{refl, ap}
use Rattle.std.proofs.Common.{sym, ◌∙◌, subst, arith}
use mathlib.Core.List.{List, [], ◌∷◌, ◌++◌}
use Rattle.std.proofs.Math.Bool.{false}
use Rattle.std.proofs.Math.Dec.{ltb}
use Rattle.types.specs.Checks.{KeyCheck}
use borrow.Author.Tests.{ltb-false, le-ltb, eq-eqb}
use Rattle.choice.specs.Pick.{neither}
use Rattle.model.specs.Log.{Made}
use Rattle.model.specs.Arena.{leases_of, holds_of, words_of}
use Rattle.model.specs.Foreign.{Setting, protecting}
use Rattle.model.specs.Lock.{Locks, after_key, rollback_of, retry_of, attempt_limit, none_yet, binding_at, bucket_at, locks_of}
use Rattle.model.specs.Checks.{count_in, lease_count, is_odd, too_many_keys, not_live, bad_bindings, locks_rules}
use Rattle.model.specs.Calls.{given, starting, script_reply}
use Rattle.model.specs.Sorted.{first_key, judge_at, shared_of, handed_back}
use Rattle.types.specs.declared.Answer.{Answer}
use Rattle.types.specs.declared.Answer.TheVariants.{Done, Cell, Granted, AllGranted, Busy, Refused, RefusedAt}
use Rattle.types.specs.declared.Hold.{Hold}
use Rattle.types.specs.declared.Outcome.{Outcome}
use Rattle.types.specs.declared.Outcome.TheVariants as outcome
use Rattle.types.specs.declared.Refusal.{Refusal}
use Rattle.types.specs.declared.Run.{Run}
use Rattle.history.specs.World.{World}
use Rattle.history.specs.Items.{Call, Says, unchanged, unchanged_at, acquire_locks, acquire_sorted, perform, Clear, rules}
use Rattle.history.specs.Judged.{clear_front, clear_back, clear_append, judged_at, grant, seen_as, sorted_locks, as_asked, performed, made_so}
use Rattle.history.proofs.Shared.{asked_cells, sorted_cells, chosen_keys, first_place, first_place_at, chosen_length, chosen_count, chosen_cell, chosen_binding, sorted_few}
use Rattle.history_exact.specs.Passing.{bindings_clear}
use Rattle.sorted_theory.specs.Statements.{FirstBad, BeyondChecks, AsLocks, AsMultilock}
use Rattle.sorted_theory.specs.Keys.{fault_first}

-- ---- the three ways

module _ (w : World) (registry script : List ℕ) (place : ℕ) (held keys grants : List ℕ) where
  abbrev pub sorted_call : Call
  sorted_call = acquire_sorted registry script place held keys grants

  pub data Goes : Made (World × Says) → Type 0 where
    refused_whole : (r : Refusal) → Goes (unchanged w (acquire_sorted registry script place held keys grants) r)
    refused_key : (r : Refusal) (p : ℕ) → Clear (rules w (acquire_sorted registry script place held keys grants)) → FirstBad w.head registry keys r p
        → Goes (unchanged_at w (acquire_sorted registry script place held keys grants) r p)
    locks : BeyondChecks w registry script place held keys grants → Goes (seen_as (as_asked w registry keys) (sorted_locks w registry script place held keys grants))

  pub goes : Goes (perform w sorted_call)
  goes =
      performed Goes w sorted_call (λ r. refused_whole r)
      (λ c. judged_at Goes (first_key (count_in keys) 0 w.head registry keys) (λ r p e. refused_key r p c (fault_first w.head registry keys r p e)) (λ e. locks (c, e)))

  -- a granted call went beyond its checks
  pub granted_beyond : {m : Made (World × Says)} → Goes m → m.seen.1.answer ≡ AllGranted → BeyondChecks w registry script place held keys grants
  granted_beyond (refused_whole r) a = let z : ◌≡◌ {A = ℕ} 0 1 = cc in absurd (omega arith)
  granted_beyond (refused_key r p c f) a = let z : ◌≡◌ {A = ℕ} 0 1 = cc in absurd (omega arith)
  granted_beyond (locks c) a = c

  beyond_made : BeyondChecks w registry script place held keys grants
      → perform w sorted_call ≡ seen_as (as_asked w registry keys) (sorted_locks w registry script place held keys grants)
  beyond_made b = made_so w sorted_call b.0 ∙ ap (λ (k : KeyCheck). judge_at k (unchanged_at w sorted_call) (seen_as (as_asked w registry keys) (sorted_locks w registry script place held keys grants))) b.1

-- ---- multi-lock's parts with another buffer: a refusal hands it back, a grant writes all of it

abbrev kept : Answer → List ℕ → List ℕ → List ℕ
kept Done own other = other
kept (Cell c) own other = other
kept (Granted l) own other = other
kept AllGranted own other = own
kept (Busy why) own other = other
kept (Refused r) own other = other
kept (RefusedAt r q) own other = other

abbrev swapped : Made Locks → List ℕ → Made Locks
swapped m b = let o = m.seen in record { seen = (o.0, (o.1.0, (o.1.1.0, kept o.0.answer o.1.1.1 b))); log = m.log }

module _ (e : Setting) (buckets boot : ℕ) (registry keys : List ℕ) (a b : List ℕ) where
  abbrev on : ℕ → ℕ → List Hold → Run → List ℕ → List ℕ → List ℕ → Made Locks
  on left p taken r t g buffer = locks_of left p e buckets boot registry keys taken r t g buffer

  locks_swapped : (left p : ℕ) (taken : List Hold) (r : Run) (t g : List ℕ) → on left p taken r t g b ≡ swapped (on left p taken r t g a) b
  unfolding locks_of rollback_of
  locks_swapped zero p taken r t g = refl
  locks_swapped (suc left) p taken r t g =
      let m = retry_of attempt_limit 0 none_yet (protecting e taken) buckets registry (binding_at keys p) (bucket_at keys p) r t g in
      let k = m.seen in
      ap (λ (z : Made Locks). record { seen = z.seen; log = m.log ++ z.log })
      (go k.0.outcome k.0.run k.1.0 k.1.1 (λ l. locks_swapped left (p + 1) (taken ++ (l ∷ [])) k.0.run k.1.0 k.1.1))
    where
      go : (o : Outcome) (q : Run) (u w : List ℕ) → ((l : Hold) → on left (p + 1) (taken ++ (l ∷ [])) q u w b ≡ swapped (on left (p + 1) (taken ++ (l ∷ [])) q u w a) b)
          → after_key o e taken p q u w b (λ l. locks_of left (p + 1) e buckets boot registry keys (taken ++ (l ∷ [])) q u w b)
          ≡ swapped (after_key o e taken p q u w a (λ l. locks_of left (p + 1) e buckets boot registry keys (taken ++ (l ∷ [])) q u w a)) b
      go (outcome.Granted l) q u w more = more l
      go (outcome.Busy why) q u w more = refl
      go (outcome.Refused x) q u w more = refl

handed_all : (boot : ℕ) (x : Answer) (asked own other : List ℕ) → x ≡ AllGranted → handed_back boot x asked (kept x own other) ≡ words_of boot (shared_of (holds_of own) asked)
handed_all boot x asked own other e = rw e

handed_none : (boot : ℕ) (x : Answer) (asked own other : List ℕ) → (x ≡ AllGranted → ⊥) → handed_back boot x asked (kept x own other) ≡ other
handed_none boot Done asked own other n = refl
handed_none boot (Cell c) asked own other n = refl
handed_none boot (Granted l) asked own other n = refl
handed_none boot AllGranted asked own other n = absurd (n refl)
handed_none boot (Busy why) asked own other n = refl
handed_none boot (Refused r) asked own other n = refl
handed_none boot (RefusedAt r q) asked own other n = refl

-- ---- the checks of multi-lock over the sorted keys

bindings_pass : (left n : ℕ) (registry keys : List ℕ) → ((i : ℕ) → i < n + left → leb (length registry) (binding_at keys i) ≡ false) → Clear (bad_bindings left n registry keys)
unfolding bad_bindings
bindings_pass zero n registry keys f = tt
bindings_pass (suc left) n registry keys f = (f n (omega arith), bindings_pass left (n + 1) registry keys (λ i l. f i (omega arith)))

module _ (w : World) (registry script : List ℕ) (place : ℕ) (held keys grants other : List ℕ) where
  abbrev b : ℕ
  b = w.head.buckets

  abbrev n : ℕ
  n = length (sorted_cells b registry keys)

  abbrev chosen_call : Call
  chosen_call = acquire_locks registry script place held (chosen_keys b registry keys) other

  chosen_passes : length other ≡ 3 * n → Clear (rules w (acquire_sorted registry script place held keys grants)) → Clear (rules w chosen_call)
  unfolding locks_rules
  chosen_passes fit c =
      let live = not_live w.head w.table 0 (leases_of held) in
      let rest = clear_back live _ c.1.1.1.1.1 in
      let test = (neither (is_odd keys || ltb 64 (lease_count held + count_in keys)) (not (eqb (length grants) (3 * count_in keys))) rest.0).0 in
      let few = ltb-false 64 (lease_count held + count_in keys) (neither (is_odd keys) (ltb 64 (lease_count held + count_in keys)) test).1 in
      let long = chosen_length b registry keys in
      let short = sorted_few b registry keys in
      let fits : (too_many_keys held (chosen_keys b registry keys) other).applies ≡ false
      = rw (long, eq-eqb ((2 * n) % 2) 0 (omega arith), le-ltb 64 (lease_count held + (2 * n) / 2) (omega (arith, few, short)), eq-eqb (length other) (3 * ((2 * n) / 2)) (omega (arith, fit))) in
      let bound = bindings_pass (count_in (chosen_keys b registry keys)) 0 registry (chosen_keys b registry keys)
      (λ i l.
      let k : i < n = omega (arith, l, chosen_count b registry keys) in
      let f = first_place_at b registry keys i k in
      rw (chosen_binding b registry keys i k) (bindings_clear (count_in keys) 0 registry keys rest.1 (first_place b registry keys i) (omega arith) (omega (arith, f.0)))) in
      (c.0, (c.1.0, (c.1.1.0, (c.1.1.1.0, (c.1.1.1.1.0, clear_append live _ (clear_front live _ c.1.1.1.1.1) (fits, bound))))))

  -- seen as multi-lock's own call over them
  abbrev plainly : Locks → World × Says
  plainly m = grant (script_reply w.head m.0.run m.0.answer, m.1)

  abbrev inner : List ℕ → Made Locks
  inner buffer = sorted_locks w registry script place held keys buffer

  chosen_made : length other ≡ 3 * n → Clear (rules w (acquire_sorted registry script place held keys grants)) → perform w chosen_call ≡ seen_as plainly (inner other)
  chosen_made fit c =
      made_so w (acquire_locks registry script place held (chosen_keys b registry keys) other) (chosen_passes fit c)
      ∙ ap (λ (k : ℕ). seen_as plainly (locks_of k 0 (given w.head script (holds_of held)) b w.head.boot registry (chosen_keys b registry keys) [] (starting w.head place) w.table w.health other))
      (chosen_count b registry keys)

  as_locks : AsLocks b w.head.boot registry keys grants (seen_as (as_asked w registry keys) (inner grants)) (seen_as plainly (inner other))
  as_locks =
      let o = (inner other).seen in
      subst (λ (z : Made Locks). AsLocks b w.head.boot registry keys grants (seen_as (as_asked w registry keys) z) (seen_as plainly (inner other)))
      (sym (locks_swapped (given w.head script (holds_of held)) b w.head.boot registry (chosen_keys b registry keys) other grants n 0 [] (starting w.head place) w.table w.health))
      (record {
        log = refl;
        world = refl;
        counts = refl;
        place = refl;
        answer = refl;
        handed = handed_all w.head.boot o.0.answer (asked_cells b registry keys) o.1.1.1 grants;
        kept = handed_none w.head.boot o.0.answer (asked_cells b registry keys) o.1.1.1 grants;
      })

pub as_multilock : AsMultilock perform
as_multilock w registry script place held keys grants other beyond fit =
    let b = w.head.buckets in (
      chosen_passes w registry script place held keys grants other fit beyond.0,
      rw (beyond_made w registry script place held keys grants beyond, chosen_made w registry script place held keys grants other fit beyond.0)
          (as_locks w registry script place held keys grants other),
      chosen_count b registry keys,
      sorted_few b registry keys,
      chosen_cell b registry keys,
    )
