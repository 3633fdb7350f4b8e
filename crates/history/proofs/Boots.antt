-- Boot numbers (document 02, L8): no call and no foreign step changes the head's, and a call that is given a lease with another is refused; by 16
-- exactly where such a lease stands and no check before it applies.
-- ---- the head's own
use Prim.Native.Nat.{ℕ, zero, suc, ◌+◌, ◌*◌, ◌≤◌, ◌<◌}
use Rattle.std.proofs.Math.Path.{◌≡◌, refl, ap, subst}
use Rattle.std.proofs.Common.{sym, ◌∙◌, ltb-true, ltb-false}
use mathlib.Core.List.{List, [], ◌∷◌, ◌++◌, append-nil}
use Rattle.std.specs.Prelude.{Bool, ◌⊎◌, ltb, length, take, drop, if◌then◌else◌, Ok, Err}
use Rattle.std.proofs.Math.Bool.{true, false, not}
use Rattle.std.proofs.Math.Logic.{inl, inr}
use native.Mathlib.Omega.{arith}
use Rattle.std.proofs.lemmas.Bool.{not-false}
use Rattle.types.specs.Checks.{Check}
use Rattle.model.specs.Log.{Made}
use Rattle.model.specs.Arena.{cells_of, lease_of, is_stale, hold_in, is_live, lease_live, leases_of}
use Rattle.model.specs.Refusals.{Rule, refuse◌carrying◌when◌, number_of, refusal_of, first}
use Rattle.model.specs.Checks.{count_in, stale_boot, bad_shape, bad_held_length, bad_held, not_live, too_many_keys, too_many_leases, bad_cell, not_held, repeated, not_releasable, bad_bindings, cell_rules, lease_rules, held_cell_rules, held_lease_rules, script_rules, lock_rules, bucket_rules, release_rules, locks_rules}
use Rattle.model.specs.Crew.{bad_lists, bad_turns, plan_rules, crew_rules, crew_at_work_rules}
use Rattle.types.specs.declared.Answer.TheVariants.{Refused}
use Rattle.types.specs.declared.Head.{Head}
use Rattle.types.specs.declared.Hold.{Hold}
use Rattle.types.specs.declared.Lease.{Lease}
use Rattle.types.specs.declared.Refusal.{Refusal}
use Rattle.types.specs.declared.Refusal.TheVariants.{BadBinding, StaleBoot}
use Rattle.laws.specs.Checks.{or_else, first_append, first_hit, first_skip, fine_rest, fine_append, lease_in, lease_later, leases_at, leases_end}
use Rattle.history.specs.World.{World}
use Rattle.history.specs.Items.{Call, Says, unchanged, try_acquire, drop_lease, read_permission, competing_acquire, release_then_handoff, foreign_release, drop_preserving, acquire_preserving, environment, try_lock, transactional, acquire_bucket, release_all, acquire_locks, acquire_sorted, crew, crew_at_work, Among, NamesLease, Clear, rules, perform, foreign}
use Rattle.history.specs.Statements.{answers, log_of, Early, BootStays, BootStaysAlone, RefusedUnowned, RefusedStale, OneLease, Beside, releases_between, drops_beside, Listed, beside_release, beside_drop, beside_acquire, in_environment, in_lock, in_attempt, in_attempts, in_locks, in_sorted, to_release, scripted, keyed, held_before, Placed, alone, beside, listed, NamesPlaced, StaleIs16}
use Rattle.history.specs.Tests.{differ}
use Rattle.history.proofs.Logs.{boot_now}
use Rattle.history.specs.Judged.{clear_fine, clear_front, clear_back, performed_by}
use Rattle.history.proofs.Calls.{call_kept}
use Rattle.history.specs.Refused.{past_checks_never}
use Rattle.history.specs.Boots.{All, EarlyAll, Below16, Found, Somewhere}

pub boots_stay : BootStays perform
boots_stay w k = ap (λ (v : World). v.head.boot) (call_kept w k).kept.leads ∙ boot_now w (log_of w k)

pub steps_boot_stays : BootStaysAlone foreign
unfolding foreign
steps_boot_stays w kind place number = refl

-- ---- where no check applies, every lease that the call names has the head's boot number and is live

owned : (h : Head) (t : List ℕ) (k l : Lease) → k ≡ l → is_stale h k ≡ false → not (is_live h.next (cells_of h) t (hold_in k)) ≡ false → lease_live h t l ≡ true
owned h t k l e a b = subst (λ (x : Lease). lease_live h t x ≡ true) e (rw (a, not-false (is_live h.next (cells_of h) t (hold_in k)) b))

module _ (h : Head) (t : List ℕ) where
  held_owned : (i : ℕ) (ls : List Lease) (l : Lease) → Among l ls → Clear (not_live h t i ls) → lease_live h t l ≡ true
  unfolding not_live
  held_owned i [] l a c = absurd a
  held_owned i (k ∷ ks) l (inl e) c = owned h t k l e c.0 c.1.0
  held_owned i (k ∷ ks) l (inr a) c = held_owned (i + 1) ks l a c.1.1

  leases_owned : (i : ℕ) (earlier : List Hold) (ls : List Lease) (l : Lease) → Among l ls → Clear (not_releasable h t i earlier ls) → lease_live h t l ≡ true
  unfolding not_releasable
  leases_owned i earlier [] l a c = absurd a
  leases_owned i earlier (k ∷ ks) l (inl e) c = owned h t k l e c.0 c.1.0
  leases_owned i earlier (k ∷ ks) l (inr a) c = leases_owned (i + 1) (earlier ++ (hold_in k ∷ [])) ks l a c.1.1.1

names_owned : (w : World) (k : Call) (l : Lease) → NamesLease k l → Clear (rules w k) → lease_live w.head w.table l ≡ true
unfolding lease_rules held_cell_rules held_lease_rules script_rules lock_rules bucket_rules release_rules locks_rules
names_owned w (try_acquire c) l n k = absurd n
names_owned w (drop_lease m) l n k = owned w.head w.table m l n k.1.0 k.1.1.0
names_owned w (read_permission m) l n k = owned w.head w.table m l n k.1.0 k.1.1.0
names_owned w (competing_acquire m) l n k = owned w.head w.table m l n k.1.0 k.1.1.0
names_owned w (release_then_handoff m) l n k = owned w.head w.table m l n k.1.0 k.1.1.0
names_owned w (foreign_release held m) l (inl e) k =
    let c = clear_back (bad_shape w.head w.table ∷ bad_held w.head w.table held) _ k in owned w.head w.table m l e c.0 c.1.0
names_owned w (foreign_release held m) l (inr a) k =
    held_owned w.head w.table 0 (leases_of held) l a (clear_front (bad_shape w.head w.table ∷ bad_held w.head w.table held) _ k).1.1
names_owned w (drop_preserving held m) l (inl e) k =
    let c = clear_back (bad_shape w.head w.table ∷ bad_held w.head w.table held) _ k in owned w.head w.table m l e c.0 c.1.0
names_owned w (drop_preserving held m) l (inr a) k =
    held_owned w.head w.table 0 (leases_of held) l a (clear_front (bad_shape w.head w.table ∷ bad_held w.head w.table held) _ k).1.1
names_owned w (acquire_preserving held c) l n k =
    held_owned w.head w.table 0 (leases_of held) l n (clear_front (bad_shape w.head w.table ∷ bad_held w.head w.table held) _ k).1.1
names_owned w (environment script place held) l n k = held_owned w.head w.table 0 (leases_of held) l n k.1.1.1.1
names_owned w (try_lock script place held c) l n k =
    held_owned w.head w.table 0 (leases_of held) l n (clear_front (script_rules w.head w.table w.health script place held) _ k).1.1.1.1
names_owned w (transactional registry script place held binding bucket) l n k =
    held_owned w.head w.table 0 (leases_of held) l n (clear_front (bad_held w.head w.table held) _ k.1.1.1.1).1
names_owned w (acquire_bucket registry script place held binding bucket) l n k =
    held_owned w.head w.table 0 (leases_of held) l n (clear_front (bad_held w.head w.table held) _ k.1.1.1.1).1
names_owned w (release_all script place leases) l n k = leases_owned w.head w.table 0 [] (leases_of leases) l n k.1.1.1.1
names_owned w (acquire_locks registry script place held keys grants) l n k =
    held_owned w.head w.table 0 (leases_of held) l n (clear_front (bad_held w.head w.table held) _ k.1.1.1.1).1
names_owned w (acquire_sorted registry script place held keys grants) l n k =
    held_owned w.head w.table 0 (leases_of held) l n (clear_front (bad_held w.head w.table held) _ k.1.1.1.1).1
names_owned w (crew counts cells turns) l n k = absurd n
names_owned w (crew_at_work counts cells turns counters) l n k = absurd n

module _ (P : Refusal → Type 0) where
  all_first : (rs : List Rule) → All P rs → (x : Refusal) → first rs ≡ Err x → P x
  unfolding first
  all_first [] a x e = let z : ◌≡◌ {A = ℕ} 0 1 = cc in absurd (omega arith)
  all_first (r ∷ rs) a x e = go r.applies e (all_first rs a.1 x)
    where
      go : (b : Bool) → (if b then Err (refusal_of r.number r.carries) else first rs) ≡ Err x → (first rs ≡ Err x → P x) → P x
      go true q on = let y : refusal_of r.number r.carries ≡ x = cc in subst P y a.0
      go false q on = on q

  all_append : (xs ys : List Rule) → All P xs → All P ys → All P (xs ++ ys)
  all_append [] ys a b = b
  all_append (x ∷ xs) ys a b = (a.0, all_append xs ys a.1 b)

  bindings_all : ((i : ℕ) → P (BadBinding i)) → (left i : ℕ) (registry keys : List ℕ) → All P (bad_bindings left i registry keys)
  unfolding bad_bindings
  bindings_all a zero i registry keys = tt
  bindings_all a (suc left) i registry keys = (a i, bindings_all a left (i + 1) registry keys)

module _ (k : Call) where
  live_early : (h : Head) (t : List ℕ) (i : ℕ) (ls : List Lease) → EarlyAll k (not_live h t i ls)
  unfolding not_live
  live_early h t i [] = tt
  live_early h t i (l ∷ ls) = (inr (inr (omega arith)), (inl (omega arith), live_early h t (i + 1) ls))

  release_early : (h : Head) (t : List ℕ) (i : ℕ) (earlier : List Hold) (ls : List Lease) → EarlyAll k (not_releasable h t i earlier ls)
  unfolding not_releasable
  release_early h t i earlier [] = tt
  release_early h t i earlier (l ∷ ls) =
      (inr (inr (omega arith)), (inr (inr (omega arith)), (inr (inr (omega arith)), release_early h t (i + 1) (earlier ++ (hold_in l ∷ [])) ls)))

  held_early : (h : Head) (t held : List ℕ) → EarlyAll k (bad_held h t held)
  held_early h t held = (inl (omega arith), live_early h t 0 (leases_of held))

rules_early : (w : World) (k : Call) (l : Lease) → NamesLease k l → EarlyAll k (rules w k)
unfolding lease_rules held_cell_rules held_lease_rules script_rules lock_rules bucket_rules release_rules locks_rules
rules_early w (try_acquire c) l n = absurd n
rules_early w (drop_lease m) l n = (inl (omega arith), (inr (inr (omega arith)), (inr (inr (omega arith)), tt)))
rules_early w (read_permission m) l n = (inl (omega arith), (inr (inr (omega arith)), (inr (inr (omega arith)), tt)))
rules_early w (competing_acquire m) l n = (inl (omega arith), (inr (inr (omega arith)), (inr (inr (omega arith)), tt)))
rules_early w (release_then_handoff m) l n = (inl (omega arith), (inr (inr (omega arith)), (inr (inr (omega arith)), tt)))
rules_early w (foreign_release held m) l n =
    let k = foreign_release held m in (
      inl (omega arith),
      all_append (Early k) (bad_held w.head w.table held) _ (held_early k w.head w.table held)
          (inr (inr (omega arith)), (inr (inr (omega arith)), (inr (inr (omega arith)), tt))),
    )
rules_early w (drop_preserving held m) l n =
    let k = drop_preserving held m in (
      inl (omega arith),
      all_append (Early k) (bad_held w.head w.table held) _ (held_early k w.head w.table held)
          (inr (inr (omega arith)), (inr (inr (omega arith)), (inr (inr (omega arith)), tt))),
    )
rules_early w (acquire_preserving held c) l n =
    let k = acquire_preserving held c in
    (inl (omega arith), all_append (Early k) (bad_held w.head w.table held) _ (held_early k w.head w.table held) (inr (inl (omega arith, tt)), tt))
rules_early w (environment script place held) l n =
    let k = environment script place held in
    (inl (omega arith), (inl (omega arith), (inl (omega arith), held_early k w.head w.table held)))
rules_early w (try_lock script place held c) l n =
    let k = try_lock script place held c in
    all_append (Early k) (script_rules w.head w.table w.health script place held) _
    (inl (omega arith), (inl (omega arith), (inl (omega arith), held_early k w.head w.table held))) (inr (inl (omega arith, tt)), tt)
rules_early w (transactional registry script place held binding bucket) l n =
    let k = transactional registry script place held binding bucket in (
      inl (omega arith),
      (
        inl (omega arith),
        (
          inl (omega arith),
          (
            inl (omega arith),
            all_append (Early k) (bad_held w.head w.table held) _ (held_early k w.head w.table held) (inl (omega arith), tt),
          ),
        ),
      ),
    )
rules_early w (acquire_bucket registry script place held binding bucket) l n =
    let k = acquire_bucket registry script place held binding bucket in (
      inl (omega arith),
      (
        inl (omega arith),
        (
          inl (omega arith),
          (
            inl (omega arith),
            all_append (Early k) (bad_held w.head w.table held) _ (held_early k w.head w.table held) (inl (omega arith), tt),
          ),
        ),
      ),
    )
rules_early w (release_all script place leases) l n =
    let k = release_all script place leases in
    (inl (omega arith), (inl (omega arith), (inl (omega arith), (inl (omega arith), release_early k w.head w.table 0 [] (leases_of leases)))))
rules_early w (acquire_locks registry script place held keys grants) l n =
    let k = acquire_locks registry script place held keys grants in (
      inl (omega arith),
      (
        inl (omega arith),
        (
          inl (omega arith),
          (
            inl (omega arith),
            all_append (Early k) (bad_held w.head w.table held) _ (held_early k w.head w.table held) (inl (omega arith), bindings_all (Early k) (λ _. inl (omega arith)) (count_in keys) 0 registry keys),
          ),
        ),
      ),
    )
rules_early w (acquire_sorted registry script place held keys grants) l n =
    let k = acquire_sorted registry script place held keys grants in (
      inl (omega arith),
      (
        inl (omega arith),
        (
          inl (omega arith),
          (
            inl (omega arith),
            all_append (Early k) (bad_held w.head w.table held) _ (held_early k w.head w.table held) (inl (omega arith), bindings_all (Early k) (λ _. inl (omega arith)) (count_in keys) 0 registry keys),
          ),
        ),
      ),
    )
rules_early w (crew counts cells turns) l n = absurd n
rules_early w (crew_at_work counts cells turns counters) l n = absurd n

pub unowned_refused : RefusedUnowned perform
unowned_refused w k l n x =
    performed_by (λ (m : Made (World × Says)). (r : Refusal) × Early k r × (m ≡ unchanged w k r)) w k
    (λ r e. (r, all_first (Early k) (rules w k) (rules_early w k l n) r e, refl)) (λ c. absurd (x (names_owned w k l n c)))

pub stale_refused : RefusedStale perform
stale_refused w k l n s = unowned_refused w k l n (λ o. differ (rw s at o))

-- ---- as 16, where nothing before it refuses

refused_as : (w : World) (k : Call) (r : Refusal) → first (rules w k) ≡ Err r → answers w k ≡ Refused r
refused_as w k r e =
    performed_by (λ (m : Made (World × Says)). m.seen.1.answer ≡ Refused r) w k (λ x q. let z : x ≡ r = same x q in rw z) (λ c. absurd (none c))
  where
    same : (x : Refusal) → first (rules w k) ≡ Err x → x ≡ r
    same x q = let y : Err x ≡ Err r = sym q ∙ e in cc

    none : Clear (rules w k) → ⊥
    none c = let y : (Ok tt) ≡ Err r = sym (clear_fine (rules w k) c) ∙ e in let z : ◌≡◌ {A = ℕ} 0 1 = cc in omega arith

-- checks behind others that are fine, and before others
behind : (xs ys : List Rule) → first xs ≡ Ok tt → first (xs ++ ys) ≡ first ys
behind xs ys e = first_append xs ys ∙ ap (λ (c : Check). or_else c (first ys)) e

before : (xs ys : List Rule) (r : Refusal) → first xs ≡ Err r → first (xs ++ ys) ≡ Err r
before xs ys r e = first_append xs ys ∙ ap (λ (c : Check). or_else c (first ys)) e

module _ (h : Head) (t : List ℕ) where
  live_hit : (n : ℕ) (ws : List ℕ) (i : ℕ) → 3 * i + 2 < length ws → first (not_live h t n (take i (leases_of ws))) ≡ Ok tt → is_stale h (lease_in ws i) ≡ true
      → first (not_live h t n (leases_of ws)) ≡ Err (StaleBoot (n + i))
  unfolding not_live leases_of
  live_hit n [] i b f s = absurd (omega arith)
  live_hit n (c ∷ []) i b f s = absurd (omega arith)
  live_hit n (c ∷ d ∷ []) i b f s = absurd (omega arith)
  live_hit n (c ∷ d ∷ e ∷ ws) zero b f s = let z : n + 0 ≡ n = omega arith in rw z (first_hit (stale_boot h n (lease_of c d e)) _ s)
  live_hit n (c ∷ d ∷ e ∷ ws) (suc i) b f s =
      let x = fine_rest _ _ f in
      let y = fine_rest _ _ x.1 in
      let z : n + 1 + i ≡ n + suc i = omega arith in
      first_skip _ _ x.0 ∙ first_skip _ _ y.0
      ∙ live_hit (n + 1) ws i (omega arith) y.1 (subst (λ (l : Lease). is_stale h l ≡ true) (lease_later c d e ws i) s) ∙ ap (λ (p : ℕ). Err (StaleBoot p)) z

  release_hit : (n : ℕ) (earlier : List Hold) (ws : List ℕ) (i : ℕ) → 3 * i + 2 < length ws → first (not_releasable h t n earlier (take i (leases_of ws))) ≡ Ok tt
      → is_stale h (lease_in ws i) ≡ true → first (not_releasable h t n earlier (leases_of ws)) ≡ Err (StaleBoot (n + i))
  unfolding not_releasable leases_of
  release_hit n earlier [] i b f s = absurd (omega arith)
  release_hit n earlier (c ∷ []) i b f s = absurd (omega arith)
  release_hit n earlier (c ∷ d ∷ []) i b f s = absurd (omega arith)
  release_hit n earlier (c ∷ d ∷ e ∷ ws) zero b f s = let z : n + 0 ≡ n = omega arith in rw z (first_hit (stale_boot h n (lease_of c d e)) _ s)
  release_hit n earlier (c ∷ d ∷ e ∷ ws) (suc i) b f s =
      let x = fine_rest _ _ f in
      let y = fine_rest _ _ x.1 in
      let v = fine_rest _ _ y.1 in
      let z : n + 1 + i ≡ n + suc i = omega arith in
      first_skip _ _ x.0 ∙ first_skip _ _ y.0 ∙ first_skip _ _ v.0
      ∙ release_hit (n + 1) _ ws i (omega arith) v.1 (subst (λ (l : Lease). is_stale h l ≡ true) (lease_later c d e ws i) s) ∙ ap (λ (p : ℕ). Err (StaleBoot p)) z

one_hit : (w : World) (l : Lease) → first (bad_shape w.head w.table ∷ []) ≡ Ok tt → is_stale w.head l ≡ true → first (lease_rules w.head w.table l) ≡ Err (StaleBoot 0)
unfolding lease_rules
one_hit w l f s = behind (bad_shape w.head w.table ∷ []) _ f ∙ first_hit (stale_boot w.head 0 l) _ s

-- a held list, behind other checks and before others
held_hit : (w : World) (front rest : List Rule) (held : List ℕ) (i : ℕ) → 3 * i + 2 < length held
    → first (front ++ (bad_held_length held ∷ not_live w.head w.table 0 (take i (leases_of held)))) ≡ Ok tt → is_stale w.head (lease_in held i) ≡ true
    → first (front ++ (bad_held w.head w.table held ++ rest)) ≡ Err (StaleBoot i)
held_hit w front rest held i b f s =
    let x = fine_append front _ f in
    let y = fine_rest _ _ x.1 in
    let z : 0 + i ≡ i = omega arith in
    behind front _ x.0
    ∙ before (bad_held w.head w.table held) rest (StaleBoot i)
    (first_skip (bad_held_length held) _ y.0 ∙ live_hit w.head w.table 0 held i b y.1 s ∙ ap (λ (p : ℕ). Err (StaleBoot p)) z)

hit_alone : (w : World) (k : Call) (l : Lease) → OneLease k l → first (bad_shape w.head w.table ∷ []) ≡ Ok tt → is_stale w.head l ≡ true → first (rules w k) ≡ Err (StaleBoot 0)
hit_alone w (try_acquire c) l o f s = absurd o
hit_alone w (drop_lease m) l o f s = one_hit w m f (ap (λ (x : Lease). is_stale w.head x) o ∙ s)
hit_alone w (read_permission m) l o f s = one_hit w m f (ap (λ (x : Lease). is_stale w.head x) o ∙ s)
hit_alone w (competing_acquire m) l o f s = one_hit w m f (ap (λ (x : Lease). is_stale w.head x) o ∙ s)
hit_alone w (release_then_handoff m) l o f s = one_hit w m f (ap (λ (x : Lease). is_stale w.head x) o ∙ s)
hit_alone w (foreign_release held m) l o f s = absurd o
hit_alone w (drop_preserving held m) l o f s = absurd o
hit_alone w (acquire_preserving held c) l o f s = absurd o
hit_alone w (environment script place held) l o f s = absurd o
hit_alone w (try_lock script place held c) l o f s = absurd o
hit_alone w (transactional registry script place held binding bucket) l o f s = absurd o
hit_alone w (acquire_bucket registry script place held binding bucket) l o f s = absurd o
hit_alone w (release_all script place leases) l o f s = absurd o
hit_alone w (acquire_locks registry script place held keys grants) l o f s = absurd o
hit_alone w (acquire_sorted registry script place held keys grants) l o f s = absurd o
hit_alone w (crew counts cells turns) l o f s = absurd o
hit_alone w (crew_at_work counts cells turns counters) l o f s = absurd o

hit_beside : (w : World) (k : Call) (held : List ℕ) (l : Lease) → Beside k held l
    → first (bad_shape w.head w.table ∷ bad_held w.head w.table held) ≡ Ok tt → is_stale w.head l ≡ true → first (rules w k) ≡ Err (StaleBoot 0)
unfolding held_lease_rules
hit_beside w _ held l (releases_between _ _) f s = behind (bad_shape w.head w.table ∷ bad_held w.head w.table held) _ f ∙ first_hit (stale_boot w.head 0 l) _ s
hit_beside w _ held l (drops_beside _ _) f s = behind (bad_shape w.head w.table ∷ bad_held w.head w.table held) _ f ∙ first_hit (stale_boot w.head 0 l) _ s

hit_listed : (w : World) (k : Call) (leases : List ℕ) (ahead : ℕ → List Rule) (i : ℕ) → Listed w k leases ahead → 3 * i + 2 < length leases
    → first (ahead i) ≡ Ok tt → is_stale w.head (lease_in leases i) ≡ true → first (rules w k) ≡ Err (StaleBoot i)
unfolding held_cell_rules held_lease_rules script_rules lock_rules bucket_rules release_rules locks_rules
hit_listed w _ _ _ i (beside_release held l) b f s = held_hit w (bad_shape w.head w.table ∷ []) _ held i b f s
hit_listed w _ _ _ i (beside_drop held l) b f s = held_hit w (bad_shape w.head w.table ∷ []) _ held i b f s
hit_listed w _ _ _ i (beside_acquire held c) b f s = held_hit w (bad_shape w.head w.table ∷ []) _ held i b f s
hit_listed w _ _ _ i (in_environment script place held) b f s =
    subst (λ (xs : List Rule). first (scripted w script place ++ xs) ≡ Err (StaleBoot i)) (append-nil (bad_held w.head w.table held)) (held_hit w (scripted w script place) [] held i b f s)
hit_listed w _ _ _ i (in_lock script place held c) b f s = held_hit w (scripted w script place) _ held i b f s
hit_listed w _ _ _ i (in_attempt registry script place held binding bucket) b f s = held_hit w (keyed w registry script place) _ held i b f s
hit_listed w _ _ _ i (in_attempts registry script place held binding bucket) b f s = held_hit w (keyed w registry script place) _ held i b f s
hit_listed w _ _ _ i (in_locks registry script place held keys grants) b f s = held_hit w (keyed w registry script place) _ held i b f s
hit_listed w _ _ _ i (in_sorted registry script place held keys grants) b f s = held_hit w (keyed w registry script place) _ held i b f s
hit_listed w _ _ _ i (to_release script place leases) b f s =
    let x = fine_append (scripted w script place) _ f in
    let y = fine_rest _ _ x.1 in
    let z : 0 + i ≡ i = omega arith in
    behind (scripted w script place) _ x.0 ∙ first_skip (too_many_leases leases) _ y.0 ∙ release_hit w.head w.table 0 [] leases i b y.1 s
    ∙ ap (λ (p : ℕ). Err (StaleBoot p)) z

hit_placed : (w : World) (k : Call) (l : Lease) (ahead : List Rule) (i : ℕ) → Placed w k l ahead i → first ahead ≡ Ok tt → is_stale w.head l ≡ true
    → first (rules w k) ≡ Err (StaleBoot i)
hit_placed w k l _ _ (alone o) f s = hit_alone w k l o f s
hit_placed w k l _ _ (beside held o) f s = hit_beside w k held l o f s
hit_placed w k l _ _ (listed leases ahead i o b e) f s = hit_listed w k leases ahead i o b f (ap (is_stale w.head) e ∙ s)

-- ---- and only there

-- an early refusal is one of the checks: no steps answer it
refused_by : (w : World) (k : Call) (r : Refusal) → Early k r → answers w k ≡ Refused r → first (rules w k) ≡ Err r
refused_by w k r early =
    performed_by (λ (m : Made (World × Says)). m.seen.1.answer ≡ Refused r → first (rules w k) ≡ Err r) w k
    (λ x e q. let z : x ≡ r = cc in e ∙ ap Err z) (λ _ q. absurd (past_checks_never w k r q early))

none_16 : (rs : List Rule) (p : ℕ) → Below16 rs → first rs ≡ Err (StaleBoot p) → ⊥
none_16 rs p a e = let z : 16 < 16 = all_first (λ (r : Refusal). number_of r < 16) rs a (StaleBoot p) e in omega arith

-- of two lists the first refuses, or it is fine and the second does
fault_append : (xs ys : List Rule) (r : Refusal) → first (xs ++ ys) ≡ Err r → (first xs ≡ Err r) ⊎ ((first xs ≡ Ok tt) × (first ys ≡ Err r))
fault_append xs ys r e = go (first xs) refl (sym (first_append xs ys) ∙ e)
  where
    go : (c : Check) → first xs ≡ c → or_else c (first ys) ≡ Err r → (first xs ≡ Err r) ⊎ ((first xs ≡ Ok tt) × (first ys ≡ Err r))
    go (Ok tt) x q = inr (x, q)
    go (Err z) x q = inl (x ∙ q)

-- so where checks of other numbers stand before or behind, 16 is of the rest
past : (xs ys : List Rule) (p : ℕ) → Below16 xs → first (xs ++ ys) ≡ Err (StaleBoot p) → (first xs ≡ Ok tt) × (first ys ≡ Err (StaleBoot p))
past xs ys p a e = elim (fault_append xs ys (StaleBoot p) e) [ inl q ↦ absurd (none_16 xs p a q) | inr q ↦ q ]

ahead_of : (xs ys : List Rule) (p : ℕ) → Below16 ys → first (xs ++ ys) ≡ Err (StaleBoot p) → first xs ≡ Err (StaleBoot p)
ahead_of xs ys p a e = elim (fault_append xs ys (StaleBoot p) e) [ inl q ↦ q | inr q ↦ absurd (none_16 ys p a q.1) ]

module _ (h : Head) where
  one_stale : (i : ℕ) (l : Lease) (p : ℕ) → first (stale_boot h i l ∷ []) ≡ Err (StaleBoot p) → (i ≡ p) × (is_stale h l ≡ true)
  unfolding first
  one_stale i l p e = go (is_stale h l) refl e
    where
      go : (b : Bool) → is_stale h l ≡ b → ◌≡◌ {A = Check} (if b then Err (StaleBoot i) else Ok tt) (Err (StaleBoot p)) → (i ≡ p) × (is_stale h l ≡ true)
      go true s q = (cc, s)
      go false s q = let z : ◌≡◌ {A = ℕ} 0 1 = cc in absurd (omega arith)

  -- a lease of a list, tested for its boot number and for more: it is stale, or all is fine and 16 is of a later one
  turn : (i : ℕ) (l : Lease) (others rest : List Rule) (p : ℕ) → Below16 others → first (stale_boot h i l ∷ (others ++ rest)) ≡ Err (StaleBoot p)
      → ((i ≡ p) × (is_stale h l ≡ true)) ⊎ ((first (stale_boot h i l ∷ others) ≡ Ok tt) × (first rest ≡ Err (StaleBoot p)))
  turn i l others rest p a e = go (fault_append (stale_boot h i l ∷ []) (others ++ rest) (StaleBoot p) e)
    where
      go : (first (stale_boot h i l ∷ []) ≡ Err (StaleBoot p)) ⊎ ((first (stale_boot h i l ∷ []) ≡ Ok tt) × (first (others ++ rest) ≡ Err (StaleBoot p)))
          → ((i ≡ p) × (is_stale h l ≡ true)) ⊎ ((first (stale_boot h i l ∷ others) ≡ Ok tt) × (first rest ≡ Err (StaleBoot p)))
      go (inl q) = inl (one_stale i l p q)
      go (inr q) = let x = past others rest p a q.1 in inr (behind (stale_boot h i l ∷ []) others q.0 ∙ x.0, x.1)

  -- a stale lease of a list, at position p counted from n, and what is tested before it is fine
  abbrev StaleAt : (ℕ → List Rule) → ℕ → List ℕ → ℕ → Type 0
  StaleAt ahead n ws p = (i : ℕ) × (n + i ≡ p) × (3 * i + 2 < length ws) × (first (ahead i) ≡ Ok tt) × (is_stale h (lease_in ws i) ≡ true)

module _ (h : Head) (t : List ℕ) where
  live_found : (n : ℕ) (ws : List ℕ) (p : ℕ) → first (not_live h t n (leases_of ws)) ≡ Err (StaleBoot p)
      → StaleAt h (λ i. not_live h t n (take i (leases_of ws))) n ws p
  unfolding first not_live leases_of
  live_found n [] p q = let z : ◌≡◌ {A = ℕ} 0 1 = cc in absurd (omega arith)
  live_found n (c ∷ []) p q = let z : ◌≡◌ {A = ℕ} 0 1 = cc in absurd (omega arith)
  live_found n (c ∷ d ∷ []) p q = let z : ◌≡◌ {A = ℕ} 0 1 = cc in absurd (omega arith)
  live_found n (c ∷ d ∷ e ∷ ws) p q =
      let l = lease_of c d e in
      let others = (refuse 3 carrying n when not (is_live h.next (cells_of h) t (hold_in l))) ∷ [] in
      elim (turn h n l others (not_live h t (n + 1) (leases_of ws)) p (omega arith, tt) q) [
        | inl x ↦ (0, omega (arith, x.0), omega arith, refl, x.1)
        | inr y ↦
            let m = live_found (n + 1) ws p y.1 in (
              suc m.0,
              omega (arith, m.1),
              omega (arith, m.2),
              behind (stale_boot h n l ∷ others) (not_live h t (n + 1) (take m.0 (leases_of ws))) y.0 ∙ m.3,
              subst (λ (k : Lease). is_stale h k ≡ true) (sym (lease_later c d e ws m.0)) m.4,
            )
      ]

  release_found : (n : ℕ) (earlier : List Hold) (ws : List ℕ) (p : ℕ) → first (not_releasable h t n earlier (leases_of ws)) ≡ Err (StaleBoot p)
      → StaleAt h (λ i. not_releasable h t n earlier (take i (leases_of ws))) n ws p
  unfolding first not_releasable leases_of
  release_found n earlier [] p q = let z : ◌≡◌ {A = ℕ} 0 1 = cc in absurd (omega arith)
  release_found n earlier (c ∷ []) p q = let z : ◌≡◌ {A = ℕ} 0 1 = cc in absurd (omega arith)
  release_found n earlier (c ∷ d ∷ []) p q = let z : ◌≡◌ {A = ℕ} 0 1 = cc in absurd (omega arith)
  release_found n earlier (c ∷ d ∷ e ∷ ws) p q =
      let l = lease_of c d e in
      let others = not_held h t n l ∷ repeated n earlier l ∷ [] in
      let so_far = earlier ++ (hold_in l ∷ []) in
      elim (turn h n l others (not_releasable h t (n + 1) so_far (leases_of ws)) p (omega arith, (omega arith, tt)) q) [
        | inl x ↦ (0, omega (arith, x.0), omega arith, refl, x.1)
        | inr y ↦
            let m = release_found (n + 1) so_far ws p y.1 in (
              suc m.0,
              omega (arith, m.1),
              omega (arith, m.2),
              behind (stale_boot h n l ∷ others) (not_releasable h t (n + 1) so_far (take m.0 (leases_of ws))) y.0 ∙ m.3,
              subst (λ (k : Lease). is_stale h k ≡ true) (sym (lease_later c d e ws m.0)) m.4,
            )
      ]

listed_found : (w : World) (k : Call) (leases : List ℕ) (ahead : ℕ → List Rule) (p : ℕ) → Listed w k leases ahead → StaleAt w.head ahead 0 leases p → Found w k p
listed_found w k leases ahead p o m =
    let e : m.0 ≡ p = omega (arith, m.1) in
    subst (Found w k) e (lease_in leases m.0, ahead m.0, listed leases ahead m.0 o m.2 refl, m.3, m.4)

-- in a held list behind other checks
held_found : (w : World) (front : List Rule) (held : List ℕ) (p : ℕ) → Below16 front → first (front ++ bad_held w.head w.table held) ≡ Err (StaleBoot p)
    → StaleAt w.head (λ i. front ++ held_before w held i) 0 held p
held_found w front held p a e =
    let x = past front _ p a e in
    let y = past (bad_held_length held ∷ []) _ p (omega arith, tt) x.1 in
    let m = live_found w.head w.table 0 held p y.1 in
    (m.0, m.1, m.2, behind front _ x.0 ∙ behind (bad_held_length held ∷ []) _ y.0 ∙ m.3, m.4)

alone_found : (w : World) (k : Call) (l : Lease) (p : ℕ) → OneLease k l → first (lease_rules w.head w.table l) ≡ Err (StaleBoot p) → Found w k p
unfolding lease_rules
alone_found w k l p o e =
    let x = past (bad_shape w.head w.table ∷ []) _ p (omega arith, tt) e in
    let y = one_stale w.head 0 l p (ahead_of (stale_boot w.head 0 l ∷ []) _ p (omega arith, tt) x.1) in
    subst (Found w k) y.0 (l, _, alone o, x.0, y.1)

beside_found : (w : World) (k : Call) (held : List ℕ) (l : Lease) (p : ℕ) → Beside k held l → Listed w k held (λ i. bad_shape w.head w.table ∷ held_before w held i)
    → first (held_lease_rules w.head w.table held l) ≡ Err (StaleBoot p) → Found w k p
unfolding held_lease_rules
beside_found w k held l p o c e =
    elim (fault_append (bad_shape w.head w.table ∷ bad_held w.head w.table held) _ (StaleBoot p) e) [
      | inl q ↦ listed_found w k held _ p c (held_found w (bad_shape w.head w.table ∷ []) held p (omega arith, tt) q)
      | inr q ↦
          let y = one_stale w.head 0 l p (ahead_of (stale_boot w.head 0 l ∷ []) _ p (omega arith, (omega arith, tt)) q.1) in
          subst (Found w k) y.0 (l, _, beside held o, q.0, y.1)
    ]

-- of a call by key: behind the held list stand checks of other numbers
keyed_found : (w : World) (k : Call) (registry script : List ℕ) (place : ℕ) (held : List ℕ) (rest : List Rule) (p : ℕ)
    → Listed w k held (λ i. keyed w registry script place ++ held_before w held i) → Below16 rest
    → first ((keyed w registry script place ++ bad_held w.head w.table held) ++ rest) ≡ Err (StaleBoot p) → Found w k p
keyed_found w k registry script place held rest p o a e =
    listed_found w k held _ p o (held_found w (keyed w registry script place) held p (omega arith, (omega arith, (omega arith, (omega arith, tt))))
    (ahead_of (keyed w registry script place ++ bad_held w.head w.table held) rest p a e))

-- what stands behind the held list of multi-lock, and the checks of a crew: other numbers
keys_below : (registry held keys grants : List ℕ) → Below16 (too_many_keys held keys grants ∷ bad_bindings (count_in keys) 0 registry keys)
keys_below registry held keys grants = (omega arith, bindings_all (λ (r : Refusal). number_of r < 16) (λ _. omega arith) (count_in keys) 0 registry keys)

lists_below : (left m inside : ℕ) (counts cells : List ℕ) → Below16 (bad_lists left m inside counts cells)
unfolding bad_lists
lists_below zero m inside counts cells = tt
lists_below (suc left) m inside counts cells = (omega arith, lists_below left (m + 1) inside counts cells)

turns_below : (members i : ℕ) (turns : List ℕ) → Below16 (bad_turns members i turns)
unfolding bad_turns
turns_below members i [] = tt
turns_below members i (m ∷ ms) = (omega arith, turns_below members (i + 1) ms)

plan_below : (h : Head) (counts cells turns : List ℕ) → Below16 (plan_rules h counts cells turns)
plan_below h counts cells turns =
    (omega arith, all_append (λ (r : Refusal). number_of r < 16) (bad_lists (length counts) 0 (cells_of h) counts cells) _ (lists_below (length counts) 0 (cells_of h) counts cells) (turns_below (length counts) 0 turns))

stale_found : (w : World) (k : Call) (p : ℕ) → first (rules w k) ≡ Err (StaleBoot p) → Found w k p
unfolding cell_rules held_cell_rules script_rules lock_rules bucket_rules release_rules locks_rules crew_rules crew_at_work_rules
stale_found w (try_acquire c) p e = absurd (none_16 (rules w (try_acquire c)) p (omega arith, (omega arith, tt)) e)
stale_found w (drop_lease l) p e = alone_found w (drop_lease l) l p refl e
stale_found w (read_permission l) p e = alone_found w (read_permission l) l p refl e
stale_found w (competing_acquire l) p e = alone_found w (competing_acquire l) l p refl e
stale_found w (release_then_handoff l) p e = alone_found w (release_then_handoff l) l p refl e
stale_found w (foreign_release held l) p e = beside_found w (foreign_release held l) held l p (releases_between held l) (beside_release held l) e
stale_found w (drop_preserving held l) p e = beside_found w (drop_preserving held l) held l p (drops_beside held l) (beside_drop held l) e
stale_found w (acquire_preserving held c) p e =
    listed_found w (acquire_preserving held c) held _ p (beside_acquire held c) (held_found w (bad_shape w.head w.table ∷ []) held p (omega arith, tt)
    (ahead_of (bad_shape w.head w.table ∷ bad_held w.head w.table held) (bad_cell w.head c ∷ []) p (omega arith, tt) e))
stale_found w (environment script place held) p e =
    listed_found w (environment script place held) held _ p (in_environment script place held)
    (held_found w (scripted w script place) held p (omega arith, (omega arith, (omega arith, tt))) e)
stale_found w (try_lock script place held c) p e =
    listed_found w (try_lock script place held c) held _ p (in_lock script place held c)
    (held_found w (scripted w script place) held p (omega arith, (omega arith, (omega arith, tt)))
    (ahead_of (script_rules w.head w.table w.health script place held) (bad_cell w.head c ∷ []) p (omega arith, tt) e))
stale_found w (transactional registry script place held binding bucket) p e =
    keyed_found w (transactional registry script place held binding bucket) registry script place held _ p (in_attempt registry script place held binding bucket) (omega arith, tt) e
stale_found w (acquire_bucket registry script place held binding bucket) p e =
    keyed_found w (acquire_bucket registry script place held binding bucket) registry script place held _ p (in_attempts registry script place held binding bucket) (omega arith, tt) e
stale_found w (release_all script place leases) p e =
    let x = past (scripted w script place) _ p (omega arith, (omega arith, (omega arith, tt))) e in
    let y = past (too_many_leases leases ∷ []) _ p (omega arith, tt) x.1 in
    let m = release_found w.head w.table 0 [] leases p y.1 in
    listed_found w (release_all script place leases) leases _ p (to_release script place leases)
    (m.0, m.1, m.2, behind (scripted w script place) _ x.0 ∙ behind (too_many_leases leases ∷ []) _ y.0 ∙ m.3, m.4)
stale_found w (acquire_locks registry script place held keys grants) p e =
    keyed_found w (acquire_locks registry script place held keys grants) registry script place held _ p (in_locks registry script place held keys grants) (keys_below registry held keys grants) e
stale_found w (acquire_sorted registry script place held keys grants) p e =
    keyed_found w (acquire_sorted registry script place held keys grants) registry script place held _ p (in_sorted registry script place held keys grants) (keys_below registry held keys grants) e
stale_found w (crew counts cells turns) p e =
    absurd (none_16 (rules w (crew counts cells turns)) p (omega arith, (omega arith, plan_below w.head counts cells turns)) e)
stale_found w (crew_at_work counts cells turns counters) p e =
    absurd (none_16 (rules w (crew_at_work counts cells turns counters)) p (omega arith, (omega arith, (omega arith, plan_below w.head counts cells turns))) e)

pub stale_is_16 : StaleIs16 perform
stale_is_16 w k i = (
  λ e. stale_found w k i (refused_by w k (StaleBoot i) (inr (inr (omega arith))) e),
  λ x. refused_as w k (StaleBoot i) (hit_placed w k x.0 x.1 i x.2 x.3 x.4),
)

-- ---- all places

-- the place of a lease among the words of a list
pub among_at : (left i : ℕ) (ws : List ℕ) (l : Lease) → length ws ≤ 3 * (i + left) → Among l (leases_of (drop (3 * i) ws))
    → (p : ℕ) × (3 * p + 2 < length ws) × (lease_in ws p ≡ l)
among_at zero i ws l few x = absurd (subst (Among l) (leases_end ws i (omega arith)) x)
among_at (suc left) i ws l few x = go (λ y. among_at left (i + 1) ws l (omega arith) y) (ltb (3 * i + 2) (length ws)) refl
  where
    Behind : Type 0
    Behind = Among l (leases_of (drop (3 * (i + 1)) ws)) → (p : ℕ) × (3 * p + 2 < length ws) × (lease_in ws p ≡ l)

    one : Behind → 3 * i + 2 < length ws → (lease_in ws i ≡ l) ⊎ Among l (leases_of (drop (3 * (i + 1)) ws)) → (p : ℕ) × (3 * p + 2 < length ws) × (lease_in ws p ≡ l)
    one more b (inl e) = (i, b, e)
    one more b (inr y) = more y

    go : Behind → (b : Bool) → ltb (3 * i + 2) (length ws) ≡ b → (p : ℕ) × (3 * p + 2 < length ws) × (lease_in ws p ≡ l)
    go more true e = let b = ltb-true _ _ e in one more b (subst (Among l) (leases_at ws i b) x)
    go more false e = absurd (subst (Among l) (leases_end ws i (ltb-false _ _ e)) x)

-- and back
at_among : (ws : List ℕ) (i : ℕ) → 3 * i + 2 < length ws → Among (lease_in ws i) (leases_of ws)
unfolding leases_of
at_among [] i b = absurd (omega arith)
at_among (c ∷ []) i b = absurd (omega arith)
at_among (c ∷ d ∷ []) i b = absurd (omega arith)
at_among (c ∷ d ∷ e ∷ ws) zero b = inl refl
at_among (c ∷ d ∷ e ∷ ws) (suc i) b = inr (subst (λ (l : Lease). Among l (leases_of ws)) (sym (lease_later c d e ws i)) (at_among ws i (omega arith)))

listed_somewhere : (w : World) (k : Call) (leases : List ℕ) (ahead : ℕ → List Rule) (l : Lease) → Listed w k leases ahead → Among l (leases_of leases) → Somewhere w k l
listed_somewhere w k leases ahead l o x =
    let p = among_at (length leases) 0 leases l (omega arith) x in
    (ahead p.0, p.0, listed leases ahead p.0 o p.1 p.2)

beside_somewhere : (w : World) (k : Call) (held : List ℕ) (m l : Lease) → Beside k held m → m ≡ l → Somewhere w k l
beside_somewhere w k held m l o e = subst (Somewhere w k) e (_, 0, beside held o)

placed_names : (w : World) (k : Call) (l : Lease) → NamesLease k l → Somewhere w k l
placed_names w (try_acquire c) l n = absurd n
placed_names w (drop_lease m) l n = (_, 0, alone n)
placed_names w (read_permission m) l n = (_, 0, alone n)
placed_names w (competing_acquire m) l n = (_, 0, alone n)
placed_names w (release_then_handoff m) l n = (_, 0, alone n)
placed_names w (foreign_release held m) l (inl e) = beside_somewhere w (foreign_release held m) held m l (releases_between held m) e
placed_names w (foreign_release held m) l (inr x) = listed_somewhere w (foreign_release held m) held _ l (beside_release held m) x
placed_names w (drop_preserving held m) l (inl e) = beside_somewhere w (drop_preserving held m) held m l (drops_beside held m) e
placed_names w (drop_preserving held m) l (inr x) = listed_somewhere w (drop_preserving held m) held _ l (beside_drop held m) x
placed_names w (acquire_preserving held c) l x = listed_somewhere w (acquire_preserving held c) held _ l (beside_acquire held c) x
placed_names w (environment script place held) l x = listed_somewhere w (environment script place held) held _ l (in_environment script place held) x
placed_names w (try_lock script place held c) l x = listed_somewhere w (try_lock script place held c) held _ l (in_lock script place held c) x
placed_names w (transactional registry script place held binding bucket) l x =
    listed_somewhere w (transactional registry script place held binding bucket) held _ l (in_attempt registry script place held binding bucket) x
placed_names w (acquire_bucket registry script place held binding bucket) l x =
    listed_somewhere w (acquire_bucket registry script place held binding bucket) held _ l (in_attempts registry script place held binding bucket) x
placed_names w (release_all script place leases) l x = listed_somewhere w (release_all script place leases) leases _ l (to_release script place leases) x
placed_names w (acquire_locks registry script place held keys grants) l x =
    listed_somewhere w (acquire_locks registry script place held keys grants) held _ l (in_locks registry script place held keys grants) x
placed_names w (acquire_sorted registry script place held keys grants) l x =
    listed_somewhere w (acquire_sorted registry script place held keys grants) held _ l (in_sorted registry script place held keys grants) x
placed_names w (crew counts cells turns) l n = absurd n
placed_names w (crew_at_work counts cells turns counters) l n = absurd n

alone_named : (k : Call) (l : Lease) → OneLease k l → NamesLease k l
alone_named (try_acquire c) l o = o
alone_named (drop_lease m) l o = o
alone_named (read_permission m) l o = o
alone_named (competing_acquire m) l o = o
alone_named (release_then_handoff m) l o = o
alone_named (foreign_release held m) l o = absurd o
alone_named (drop_preserving held m) l o = absurd o
alone_named (acquire_preserving held c) l o = absurd o
alone_named (environment script place held) l o = absurd o
alone_named (try_lock script place held c) l o = absurd o
alone_named (transactional registry script place held binding bucket) l o = absurd o
alone_named (acquire_bucket registry script place held binding bucket) l o = absurd o
alone_named (release_all script place leases) l o = absurd o
alone_named (acquire_locks registry script place held keys grants) l o = absurd o
alone_named (acquire_sorted registry script place held keys grants) l o = absurd o
alone_named (crew counts cells turns) l o = o
alone_named (crew_at_work counts cells turns counters) l o = o

beside_named : (k : Call) (held : List ℕ) (l : Lease) → Beside k held l → NamesLease k l
beside_named _ held l (releases_between _ _) = inl refl
beside_named _ held l (drops_beside _ _) = inl refl

listed_named : (w : World) (k : Call) (leases : List ℕ) (ahead : ℕ → List Rule) (l : Lease) → Listed w k leases ahead → Among l (leases_of leases) → NamesLease k l
listed_named w _ _ _ l (beside_release held m) x = inr x
listed_named w _ _ _ l (beside_drop held m) x = inr x
listed_named w _ _ _ l (beside_acquire held c) x = x
listed_named w _ _ _ l (in_environment script place held) x = x
listed_named w _ _ _ l (in_lock script place held c) x = x
listed_named w _ _ _ l (in_attempt registry script place held binding bucket) x = x
listed_named w _ _ _ l (in_attempts registry script place held binding bucket) x = x
listed_named w _ _ _ l (in_locks registry script place held keys grants) x = x
listed_named w _ _ _ l (in_sorted registry script place held keys grants) x = x
listed_named w _ _ _ l (to_release script place leases) x = x

names_so : (w : World) (k : Call) (l : Lease) (ahead : List Rule) (i : ℕ) → Placed w k l ahead i → NamesLease k l
names_so w k l _ _ (alone o) = alone_named k l o
names_so w k l _ _ (beside held o) = beside_named k held l o
names_so w k l _ _ (listed leases ahead i o b e) =
    listed_named w k leases ahead l o (subst (λ (m : Lease). Among m (leases_of leases)) e (at_among leases i b))

pub names_placed : NamesPlaced
names_placed w k l = (placed_names w k l, λ x. names_so w k l x.0 x.1 x.2)
