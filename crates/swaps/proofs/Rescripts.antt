-- Calls over a script of which stretches were shuffled.
-- ---- a shuffled stretch gives twins
use Prim.Native.Nat.{ℕ, ◌+◌}
use Rattle.std.specs.Prelude.{◌≡◌, length, Ok, Err}
use Rattle.std.proofs.Math.Path.{refl}
use Rattle.std.proofs.Common.{◌∙◌, arith}
use mathlib.Core.List.{List, [], ◌++◌}
use Rattle.types.specs.Checks.{Check, KeyCheck}
use Rattle.model.specs.Log.{Made, gives}
use Rattle.model.specs.Arena.{spent_to, serial_remains, state_at, holds_of}
use Rattle.model.specs.Refusals.{first, judge}
use Rattle.model.specs.Foreign.{flow_of}
use Rattle.model.specs.Lock.{take_in, take_of, attempt_limit, none_yet}
use Rattle.model.specs.Checks.{count_in, lease_count, script_rules, lock_rules, bucket_rules, release_rules, locks_rules}
use Rattle.model.specs.Calls.{starting, environment_of, try_lock_of, transactional_of, acquire_bucket_of, release_all_of, acquire_locks_of}
use Rattle.model.specs.Sorted.{cells_sorted, sorted_keys, first_key, judge_at, refused_key_at_once, sorted_locks_of, acquire_sorted_of}
use Rattle.types.specs.declared.Head.{Head}
use Rattle.types.specs.declared.ScriptReply.{ScriptReply}
use Rattle.types.specs.declared.Refusal.{Refusal}
use Rattle.types.specs.declared.State.{State}
use Rattle.types.specs.declared.State.TheVariants as state
use Rattle.types.specs.declared.Took.{Took}
use Rattle.choice.specs.Pick.{if_both}
use Rattle.laws.specs.Words.{length_set_cell}
use Rattle.history.specs.World.{World, world_of, cells}
use Rattle.history.specs.Items.{perform}
use Rattle.history.specs.Tests as tests
use Rattle.history.specs.Events.{older, status_put}
use Rattle.swaps.specs.Steps.{Step, Shuffled}
use Rattle.swaps.specs.Scripts.{script_of, Unended, Respelled, stretch, onward, environments, try_locks, transactionals, acquire_buckets, releases_all, acquires_locks, acquires_sorted}
use Rattle.swaps.specs.Statements.{CallsRescripted}
use Rattle.swaps.specs.Fine.{Fine, fine, freed}
use Rattle.swaps.specs.Boundaries.{Ran}
use Rattle.swaps.proofs.Boundaries.{same_length, shuffled_length, OutsideFine, boundary_alike}
use Rattle.swaps.specs.Walks.{Twins}
use Rattle.swaps.proofs.Walks.{lock_alike, attempt_alike, retry_alike, back_alike, locks_alike}
use Rattle.swaps.specs.Rescripts.{SeenAlike, Reply}

-- one compare-and-set damages nothing
taken_fine : (h : Head) (n : ℕ) (t g : List ℕ) (c : ℕ) → Fine (world_of (spent_to h n) t g)
    → Fine (world_of (spent_to h (take_of n t c).seen.0.next) (take_of n t c).seen.1 g)
unfolding take_of
taken_fine h n t g c f = go (state_at n t c)
  where
    w : World
    w = world_of (spent_to h n) t g

    go : (s : State) → Fine (world_of (spent_to h (take_in s n t c).seen.0.next) (take_in s n t c).seen.1 g)
    go state.Damaged = f
    go (state.Held o) = f
    go state.Free =
        if_both (λ (m : Made (Took × List ℕ)). Fine (world_of (spent_to h m.seen.0.next) m.seen.1 g)) (serial_remains n)
        (record {
          words = length_set_cell t c 1 n ∙ f.words;
          low = omega arith;
          status = status_put (cells w) (n + 1) t c 1 n f.words (tests.held refl f.low (omega arith)) (λ d k. older (f.status d k));
        }) f

module _ (h : Head) (pre ss ts post : List Step) (u : Unended ss) (r : Shuffled ss ts) where
  stretch_twins : Twins h (script_of (pre ++ (ss ++ post))) (script_of (pre ++ (ts ++ post))) (OutsideFine h pre ss ts post u r)
  stretch_twins =
      record {
        boundaries = boundary_alike h pre ss ts post u r;
        takes = λ f t g c x. (x.0, taken_fine h f.next t g c x.1);
        frees = λ f t g c x. (x.0, freed (world_of (spent_to h f.next) t g) c x.1);
      }

-- ---- calls over twins: the checks read only the script's length

-- refused alike, or made alike
judged_two : {A : Type 0} (P : A → A → Type 0) (k : Check) {f : Refusal → A} {m n : A} → ((r : Refusal) → P (f r) (f r)) → P m n → P (judge k f m) (judge k f n)
judged_two P (Ok tt) x y = y
judged_two P (Err r) x y = x r

module _ {h : Head} {a b : List ℕ} {Good : Ran → Type 0} (tw : Twins h a b Good) (e : length b ≡ length a) (t g : List ℕ) (place : ℕ)
    (x : Good (flow_of h.next place 0, (t, g))) where
  environment_alike : (held : List ℕ) → (environment_of h t g b place held).seen ≡ (environment_of h t g a place held).seen
  unfolding environment_of script_rules
  environment_alike held =
      let r = tw.boundaries (holds_of held) (flow_of h.next place 0) t g x in
      rw e (judged_two (SeenAlike Reply) (first (script_rules h t g a place held)) (λ _. refl) (rw r.equal))

  try_lock_alike : (held : List ℕ) (c : ℕ) → (try_lock_of h t g b place held c).seen ≡ (try_lock_of h t g a place held c).seen
  unfolding try_lock_of lock_rules script_rules
  try_lock_alike held c =
      let r = lock_alike tw (holds_of held) h.buckets (flow_of h.next place 0) t g c x in
      rw e (judged_two (SeenAlike Reply) (first (lock_rules h t g a place held c)) (λ _. refl) (rw r.equal))

  transactional_alike : (registry held : List ℕ) (binding bucket : ℕ)
      → (transactional_of h t g registry b place held binding bucket).seen ≡ (transactional_of h t g registry a place held binding bucket).seen
  unfolding transactional_of bucket_rules
  transactional_alike registry held binding bucket =
      let r = attempt_alike tw (holds_of held) h.buckets registry binding bucket (starting h place) t g x in
      rw e (judged_two (SeenAlike Reply) (first (bucket_rules h t g registry a place held binding)) (λ _. refl) (rw r.equal))

  acquire_bucket_alike : (registry held : List ℕ) (binding bucket : ℕ)
      → (acquire_bucket_of h t g registry b place held binding bucket).seen ≡ (acquire_bucket_of h t g registry a place held binding bucket).seen
  unfolding acquire_bucket_of bucket_rules
  acquire_bucket_alike registry held binding bucket =
      let r = retry_alike tw (holds_of held) h.buckets registry binding bucket attempt_limit 0 none_yet (starting h place) t g x in
      rw e (judged_two (SeenAlike Reply) (first (bucket_rules h t g registry a place held binding)) (λ _. refl) (rw r.equal))

  release_all_alike : (leases : List ℕ) → (release_all_of h t g b place leases).seen ≡ (release_all_of h t g a place leases).seen
  unfolding release_all_of release_rules
  release_all_alike leases =
      let r = back_alike tw (lease_count leases) [] (holds_of leases) (starting h place) t g x in
      rw e (judged_two (SeenAlike Reply) (first (release_rules h t g a place leases)) (λ _. refl) (rw r.equal))

  acquire_locks_alike : (registry held keys grants : List ℕ)
      → (acquire_locks_of h t g registry b place held keys grants).seen ≡ (acquire_locks_of h t g registry a place held keys grants).seen
  unfolding acquire_locks_of locks_rules
  acquire_locks_alike registry held keys grants =
      let r = locks_alike tw (holds_of held) h.buckets h.boot registry keys grants (count_in keys) 0 [] (starting h place) t g x in
      rw e (judged_two (SeenAlike (ScriptReply × (List ℕ × (List ℕ × List ℕ)))) (first (locks_rules h t g registry a place held keys grants)) (λ _. refl) (rw r))

  acquire_sorted_alike : (registry held keys grants : List ℕ)
      → (acquire_sorted_of h t g registry b place held keys grants).seen ≡ (acquire_sorted_of h t g registry a place held keys grants).seen
  unfolding acquire_sorted_of sorted_locks_of locks_rules
  acquire_sorted_alike registry held keys grants =
      let sorted = cells_sorted h.buckets registry keys in
      let r = locks_alike tw (holds_of held) h.buckets h.boot registry (sorted_keys h.buckets registry keys) grants (length sorted) 0 [] (starting h place) t g x in
      rw e (judged_two (SeenAlike (ScriptReply × (List ℕ × (List ℕ × List ℕ)))) (first (locks_rules h t g registry a place held keys grants)) (λ _. refl)
      (go (first_key (count_in keys) 0 h registry keys) (rw r)))
    where
      go : (k : KeyCheck) → (sorted_locks_of h t g registry b place held keys grants).seen ≡ (sorted_locks_of h t g registry a place held keys grants).seen
          → (judge_at k (λ y p. gives (refused_key_at_once h place y p, (t, (g, grants)))) (sorted_locks_of h t g registry b place held keys grants)).seen
          ≡ (judge_at k (λ y p. gives (refused_key_at_once h place y p, (t, (g, grants)))) (sorted_locks_of h t g registry a place held keys grants)).seen
      go (Ok tt) q = q
      go (Err (y, p)) q = refl

-- ---- every call with a script

-- what holds of one stretch holds of any number of them, one after the other
chained : {A : Type 0} (w : World) (place : ℕ) (f : List ℕ → A) → Fine w
    → ((a b : List ℕ) (Good : Ran → Type 0) → Twins w.head a b Good → length b ≡ length a → Good (flow_of w.head.next place 0, (w.table, w.health)) → f b ≡ f a)
    → {a b : List ℕ} → Respelled place a b → f b ≡ f a
chained w place f g one (stretch pre ss ts post u r o) =
    one (script_of (pre ++ (ss ++ post))) (script_of (pre ++ (ts ++ post))) (OutsideFine w.head pre ss ts post u r) (stretch_twins w.head pre ss ts post u r)
    (same_length pre ss ts post (shuffled_length r)) (o, g)
chained w place f g one (onward x y) = chained w place f g one y ∙ chained w place f g one x

pub calls_rescript : CallsRescripted
unfolding perform
calls_rescript w k l g (environments {place = place} {held = held} r) =
    let e = chained w place (λ (s : List ℕ). (environment_of w.head w.table w.health s place held).seen) (fine w g)
    (λ a b G tw n x. environment_alike tw n w.table w.health place x held) r in
    rw e
calls_rescript w k l g (try_locks {place = place} {held = held} {c = c} r) =
    let e = chained w place (λ (s : List ℕ). (try_lock_of w.head w.table w.health s place held c).seen) (fine w g)
    (λ a b G tw n x. try_lock_alike tw n w.table w.health place x held c) r in
    rw e
calls_rescript w k l g (transactionals {place = place} {registry = registry} {held = held} {binding = binding} {bucket = bucket} r) =
    let e = chained w place (λ (s : List ℕ). (transactional_of w.head w.table w.health registry s place held binding bucket).seen) (fine w g)
    (λ a b G tw n x. transactional_alike tw n w.table w.health place x registry held binding bucket) r in
    rw e
calls_rescript w k l g (acquire_buckets {place = place} {registry = registry} {held = held} {binding = binding} {bucket = bucket} r) =
    let e = chained w place (λ (s : List ℕ). (acquire_bucket_of w.head w.table w.health registry s place held binding bucket).seen) (fine w g)
    (λ a b G tw n x. acquire_bucket_alike tw n w.table w.health place x registry held binding bucket) r in
    rw e
calls_rescript w k l g (releases_all {place = place} {leases = leases} r) =
    let e = chained w place (λ (s : List ℕ). (release_all_of w.head w.table w.health s place leases).seen) (fine w g)
    (λ a b G tw n x. release_all_alike tw n w.table w.health place x leases) r in
    rw e
calls_rescript w k l g (acquires_locks {place = place} {registry = registry} {held = held} {keys = keys} {grants = grants} r) =
    let e = chained w place (λ (s : List ℕ). (acquire_locks_of w.head w.table w.health registry s place held keys grants).seen) (fine w g)
    (λ a b G tw n x. acquire_locks_alike tw n w.table w.health place x registry held keys grants) r in
    rw e
calls_rescript w k l g (acquires_sorted {place = place} {registry = registry} {held = held} {keys = keys} {grants = grants} r) =
    let e = chained w place (λ (s : List ℕ). (acquire_sorted_of w.head w.table w.health registry s place held keys grants).seen) (fine w g)
    (λ a b G tw n x. acquire_sorted_alike tw n w.table w.health place x registry held keys grants) r in
    rw e
