-- Upstream's premises, in the words here, are enough: for each list of checks, that none of it applies. Beside
-- upstream's premises stands what upstream's types see to: the arena is one, and the lists, the script and the registry
-- are well formed and within document 01's limits.
use Rattle.std.specs.Prelude.{ℕ, zero, suc, ◌+◌, ◌<◌, ◌≡◌, refl, List, [], ◌∷◌, ◌++◌, Bool, true, false, not, ◌⊎◌, ◌≢◌, length, Ok}
use Rattle.std.proofs.Common.{sym, ap, ◌∙◌, subst, inl, inr, arith}
use Rattle.std.proofs.lemmas.Bool.{lt-leb}
use Rattle.model.specs.Arena.{cells_of, hold_in, is_in, leases_of, holds_of}
use Rattle.model.specs.Refusals.{first}
use Rattle.model.specs.Checks.{count_in, bad_shape, bad_health, bad_registry, bad_script, bad_held, too_many_leases, too_many_keys, bad_binding, bad_bindings, bad_cell, stale_boot, not_held, is_protected, not_releasable, cell_rules, lease_rules, held_cell_rules, held_lease_rules, script_rules, lock_rules, bucket_rules, release_rules, locks_rules}
use Rattle.model.specs.Lock.{hold_at, no_hold, binding_at}
use Rattle.types.specs.declared.Hold.{Hold}
use Rattle.types.specs.declared.Lease.{Lease}
use Rattle.laws.specs.Lists.{as_many}
use Rattle.laws.specs.Checks.{not_stale}
use Rattle.history.specs.World.{Live}
use Rattle.history.specs.Items.{Clear}
use Rattle.history.specs.Judged.{clear_fine, clear_append}
use Rattle.history.specs.HeldLists.{AllOf, live_clear}
use Rattle.history.specs.Tests.{In, in_cases, in_either, in_index, differ}
use Rattle.upstream.specs.Vocabulary.{Authority, contains_key, lease_key, authorized, held_ids, leases_authorized, keys_valid}
use Rattle.upstream.specs.Premises.{Own, lease_at, AllOwn, valid_at, leases_valid, Fits, Short, Scripted, Keyed}
use Rattle.upstream.proofs.Bridge.{hold_at_lem, cell_live}

pub not_so : (b : Bool) → (b ≡ true → ⊥) → b ≡ false
not_so true n = absurd (n refl)
not_so false n = refl

-- ---- parts of the lists

own_all : (w : Authority) (ls : List Lease) → ((i : ℕ) → i < length ls → Own w (lease_at ls i)) → AllOf w.head.boot ls
own_all w [] o = tt
own_all w (l ∷ ls) o = (o 0 (omega arith), own_all w ls (λ i k. o (suc i) (omega arith)))

-- the leases of a list as words are live
live_at : (w : Authority) (words : List ℕ) → leases_valid w (holds_of words) → leases_authorized w (holds_of words) → (i : ℕ) → i < length (leases_of words) → Live w (hold_in (lease_at (leases_of words) i))
live_at w words v p i k = subst (Live w) (hold_at_lem words i) (cell_live w (hold_at (holds_of words) i) (p i (omega (arith, as_many words, k))) (v i (omega (arith, as_many words, k))))

-- leases_authorized(old(authority), held@)
held_clear : (w : Authority) (held : List ℕ) → Short w held → leases_valid w (holds_of held) → leases_authorized w (holds_of held) → Clear (bad_held w.head w.table held)
held_clear w held s v p = (s.0, live_clear w.head w.table held (own_all w (leases_of held) s.1) live)
  where
    live : (l : Hold) → In (holds_of held) l → Live w l
    live l i =
        let x = in_index (holds_of held) l no_hold i in
        subst (Live w) (sym x.2) (cell_live w (hold_at (holds_of held) x.0) (p x.0 x.1) (v x.0 x.1))

cell_clear : (w : Authority) (c : ℕ) → contains_key w c → Clear (bad_cell w.head c ∷ [])
cell_clear w c i = (lt-leb (cells_of w.head) c i, tt)

bindings_clear : (registry keys : List ℕ) (left n : ℕ) → ((i : ℕ) → i < n + left → binding_at keys i < length registry) → Clear (bad_bindings left n registry keys)
unfolding bad_bindings
bindings_clear registry keys zero n p = tt
bindings_clear registry keys (suc left) n p =
    (lt-leb (length registry) (binding_at keys n) (p n (omega arith)), bindings_clear registry keys left (n + 1) (λ i l. p i (omega arith)))

-- leases of this boot that are live, none of which stands earlier or on the cell of another
releasable : (w : Authority) (n : ℕ) (earlier : List Hold) (ls : List Lease) → ((i : ℕ) → i < length ls → Own w (lease_at ls i))
    → ((i : ℕ) → i < length ls → Live w (hold_in (lease_at ls i))) → ((i : ℕ) → i < length ls → In earlier (hold_in (lease_at ls i)) → ⊥)
    → ((i j : ℕ) → i < j → j < length ls → (lease_at ls i).cell ≢ (lease_at ls j).cell)
    → Clear (not_releasable w.head w.table n earlier ls)
unfolding not_releasable is_in
releasable w n earlier [] o p q d = tt
releasable w n earlier (l ∷ ls) o p q d = (
  not_stale w.head l (o 0 (omega arith)),
  (
    ap not (p 0 (omega arith)),
    (
      not_so _ (q 0 (omega arith)),
      releasable w (n + 1) (earlier ++ (hold_in l ∷ [])) ls (λ i k. o (suc i) (omega arith)) (λ i k. p (suc i) (omega arith))
          (λ i k x. go i k (in_either (hold_in (lease_at ls i)) earlier (hold_in l ∷ []) x)) (λ i j k m. d (suc i) (suc j) (omega arith) (omega arith)),
    ),
  ),
)
  where
    go : (i : ℕ) → i < length ls → In earlier (hold_in (lease_at ls i)) ⊎ In (hold_in l ∷ []) (hold_in (lease_at ls i)) → ⊥
    go i k (inl x) = q (suc i) (omega arith) x
    go i k (inr x) = elim (in_cases (hold_in l) (hold_in (lease_at ls i)) [] x) [ inl e ↦ d 0 (suc i) (omega arith) (omega arith) (ap lease_key e) | inr z ↦ differ z ]

-- ---- the lists

-- `try_acquire`
pub cell_passes : (w : Authority) (c : ℕ) → Fits w → contains_key w c → first (cell_rules w.head w.table c) ≡ Ok tt
unfolding cell_rules
cell_passes w c s i = clear_fine (bad_shape w.head w.table ∷ bad_cell w.head c ∷ []) (ap not s, cell_clear w c i)

-- `drop_lease`, `read_permission`, `competing_acquire_is_excluded`, `release_then_handoff`
pub lease_passes : (w : Authority) (l : Lease) → Fits w → valid_at w (lease_key (hold_in l)) → Own w l → authorized w (hold_in l) → first (lease_rules w.head w.table l) ≡ Ok tt
unfolding lease_rules
lease_passes w l s v o a =
    clear_fine (bad_shape w.head w.table ∷ stale_boot w.head 0 l ∷ not_held w.head w.table 0 l ∷ [])
    (ap not s, (not_stale w.head l o, (ap not (cell_live w (hold_in l) a v), tt)))

-- `acquire_preserving_borrows`
pub held_cell_passes : (w : Authority) (held : List ℕ) (c : ℕ) → Fits w → Short w held → leases_valid w (holds_of held) → contains_key w c → leases_authorized w (holds_of held)
    → first (held_cell_rules w.head w.table held c) ≡ Ok tt
unfolding held_cell_rules
held_cell_passes w held c s b v i p =
    clear_fine (bad_shape w.head w.table ∷ (bad_held w.head w.table held ++ (bad_cell w.head c ∷ [])))
    (ap not s, clear_append (bad_held w.head w.table held) _ (held_clear w held b v p) (cell_clear w c i))

-- `drop_preserving_borrows`, `foreign_release_between_attempts`
pub held_lease_passes : (w : Authority) (held : List ℕ) (l : Lease) → Fits w → Short w held → leases_valid w (holds_of held) → valid_at w (lease_key (hold_in l)) → Own w l → authorized w (hold_in l) → leases_authorized w (holds_of held)
    → (held_ids (holds_of held) (hold_in l) → ⊥) → first (held_lease_rules w.head w.table held l) ≡ Ok tt
unfolding held_lease_rules
held_lease_passes w held l s b v u o a p n =
    clear_fine (bad_shape w.head w.table ∷ (bad_held w.head w.table held ++ (stale_boot w.head 0 l ∷ not_held w.head w.table 0 l ∷ is_protected held l ∷ [])))
    (ap not s, clear_append (bad_held w.head w.table held) _ (held_clear w held b v p) (not_stale w.head l o, (ap not (cell_live w (hold_in l) a u), (not_so _ n, tt))))

-- `environment`, `environment_for_borrows`
pub script_passes : (w : Authority) (script : List ℕ) (place : ℕ) (held : List ℕ) → Scripted w script place → Short w held → leases_valid w (holds_of held) → leases_authorized w (holds_of held)
    → first (script_rules w.head w.table w.health script place held) ≡ Ok tt
unfolding script_rules
script_passes w script place held k b v p =
    clear_fine (bad_shape w.head w.table ∷ bad_health w.head w.health ∷ bad_script script place ∷ bad_held w.head w.table held)
    (k.0, (k.1.0, (k.1.1.0, held_clear w held b v p)))

-- `try_lock`, `other_mutex_preserves_leases`
pub lock_passes : (w : Authority) (script : List ℕ) (place : ℕ) (held : List ℕ) (c : ℕ) → Scripted w script place → Short w held → leases_valid w (holds_of held) → contains_key w c
    → leases_authorized w (holds_of held) → first (lock_rules w.head w.table w.health script place held c) ≡ Ok tt
unfolding lock_rules script_rules
lock_passes w script place held c k b v i p =
    clear_fine (bad_shape w.head w.table ∷ bad_health w.head w.health ∷ bad_script script place ∷ (bad_held w.head w.table held ++ (bad_cell w.head c ∷ [])))
    (k.0, (k.1.0, (k.1.1.0, clear_append (bad_held w.head w.table held) _ (held_clear w held b v p) (cell_clear w c i))))

-- `transactional_try_lock_bucket`, `acquire_index_bucket`
pub bucket_passes : (w : Authority) (registry script : List ℕ) (place : ℕ) (held : List ℕ) (binding : ℕ) → Keyed w registry script place → Short w held → leases_valid w (holds_of held)
    → binding < length registry → leases_authorized w (holds_of held) → first (bucket_rules w.head w.table w.health registry script place held binding) ≡ Ok tt
unfolding bucket_rules
bucket_passes w registry script place held binding k b v i p =
    clear_fine (bad_shape w.head w.table ∷ bad_health w.head w.health ∷ bad_registry registry ∷ bad_script script place
    ∷ (bad_held w.head w.table held ++ (bad_binding registry 0 binding ∷ [])))
    (k.0, (k.1.0, (k.1.1.0, (k.1.1.1.0, clear_append (bad_held w.head w.table held) _ (held_clear w held b v p) (lt-leb (length registry) binding i, tt)))))

-- `release_all`
pub release_passes : (w : Authority) (script : List ℕ) (place : ℕ) (leases : List ℕ) → Scripted w script place → (too_many_leases leases).applies ≡ false → AllOwn w leases → leases_valid w (holds_of leases)
    → leases_authorized w (holds_of leases)
    → ((i j : ℕ) → i < j → j < length (holds_of leases) → lease_key (hold_at (holds_of leases) i) ≢ lease_key (hold_at (holds_of leases) j))
    → first (release_rules w.head w.table w.health script place leases) ≡ Ok tt
unfolding release_rules is_in
release_passes w script place leases k b o v p d =
    clear_fine (bad_shape w.head w.table ∷ bad_health w.head w.health ∷ bad_script script place ∷ too_many_leases leases
    ∷ not_releasable w.head w.table 0 [] (leases_of leases))
    (k.0, (k.1.0, (k.1.1.0, (b, releasable w 0 [] (leases_of leases) o (live_at w leases v p) (λ i l x. differ x) apart))))
  where
    apart : (i j : ℕ) → i < j → j < length (leases_of leases) → (lease_at (leases_of leases) i).cell ≢ (lease_at (leases_of leases) j).cell
    apart i j l m e = d i j l (omega (arith, as_many leases, m)) (ap lease_key (hold_at_lem leases i) ∙ e ∙ ap lease_key (sym (hold_at_lem leases j)))

-- `acquire_index_locks`, of which document 001 asks `keys_valid` alone; the held list is ours
pub locks_pass : (w : Authority) (registry script : List ℕ) (place : ℕ) (held keys grants : List ℕ) → Keyed w registry script place → Short w held
    → (too_many_keys held keys grants).applies ≡ false → leases_valid w (holds_of held) → keys_valid registry keys → leases_authorized w (holds_of held)
    → first (locks_rules w.head w.table w.health registry script place held keys grants) ≡ Ok tt
unfolding locks_rules
locks_pass w registry script place held keys grants k b m v i p =
    clear_fine (bad_shape w.head w.table ∷ bad_health w.head w.health ∷ bad_registry registry ∷ bad_script script place
    ∷ (bad_held w.head w.table held ++ (too_many_keys held keys grants ∷ bad_bindings (count_in keys) 0 registry keys))) (
      k.0,
      (
        k.1.0,
        (
          k.1.1.0,
          (
            k.1.1.1.0,
            clear_append (bad_held w.head w.table held) _ (held_clear w held b v p) (m, bindings_clear registry keys (count_in keys) 0 (λ j l. i j (omega arith))),
          ),
        ),
      ),
    )
