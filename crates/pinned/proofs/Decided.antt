-- The checks of crate `model` are those of `Checks`: each applies exactly if its condition in plain numbers holds, and gives the same refusal.
use Rattle.std.specs.Prelude.{ℕ, zero, suc, ◌+◌, ◌*◌, ◌/◌, ◌%◌, ◌≤◌, ◌<◌, ◌≡◌, refl, List, [], ◌∷◌, ◌++◌, Bool, true, false, not, ◌&&◌, ◌||◌, ◌⊎◌, ◌≢◌, ltb, leb, eqb, length, get_or, take, if◌then◌else◌, Err}
use Rattle.std.proofs.Common.{sym, ap, ◌∙◌, subst, append-nil, inl, inr, arith, ltb-true, ltb-false, leb-true, leb-false, eqb-true, eq-eqb, lt-ltb, le-ltb, le-leb}
use Rattle.std.proofs.lemmas.Bool.{eqb-false, not-true, not-false}
use Rattle.choice.specs.Pick.{both, neither}
use Rattle.model.specs.Arena.{bit_at, owner_at, is_live, is_in, hold_in, hold_of, leases_of, holds_of, shape_fits, health_fits, registry_fits, cells_of, within}
use Rattle.model.specs.Refusals.{Rule, refusal_of, first}
use Rattle.model.specs.Checks.{bad_held, bad_cell, stale_boot, not_held, is_protected, bad_binding, too_many_leases, too_many_keys, not_live, not_releasable, bad_bindings, cell_rules, lease_rules, held_cell_rules, held_lease_rules, script_rules, lock_rules, bucket_rules, release_rules, locks_rules}
use Rattle.model.specs.Crew.{total, start_of, all_within, rises_from, bad_lists, bad_turns, crew_rules, crew_at_work_rules, plan_rules, list_of}
use Rattle.types.specs.declared.Head.{Head}
use Rattle.types.specs.declared.Hold.{Hold}
use Rattle.types.specs.declared.Lease.{Lease}
use Rattle.types.specs.declared.Refusal.{Refusal}
use Rattle.types.specs.declared.Refusal.TheVariants.{BadBinding}
use Rattle.laws.specs.Shape.{shaped}
use Rattle.history.specs.World.{World}
use Rattle.history.specs.Items.{Call, Clear, rules, try_acquire, drop_lease, read_permission, competing_acquire, release_then_handoff, foreign_release, drop_preserving, acquire_preserving, environment, try_lock, transactional, acquire_bucket, release_all, acquire_locks, acquire_sorted, crew, crew_at_work}
use Rattle.history.specs.Tests.{alive, live, in_first, in_rest, in_cases, differ}
use Rattle.history.specs.Events.{fits}
use Rattle.pinned.specs.Words.{Shape, IsLive, StandsIn, size, holds}
use Rattle.pinned.specs.Checks.{Checks, pass, ◌refuses◌else◌, First, Passed, checks, each_held, held_list, bindings, in_range, one_lease, not_in, each_given, lease_list, key_list, lists, each_turn, crew_is, cells_of_lem, sum, Limits, Rises}
use Rattle.pinned.specs.Decided.{Decides, Matches}

pub first_is : (xs : List Rule) (cs : Checks) (r : Refusal) → Matches xs cs → First cs r → first xs ≡ Err r
unfolding first
first_is [] pass r m f = absurd f
first_is [] (C refuses x else cs) r m f = absurd m
first_is (x ∷ xs) pass r m f = absurd m
first_is (x ∷ xs) (C refuses y else cs) r m f = go x.applies refl f (first_is xs cs r m.2)
  where
    go : (b : Bool) → x.applies ≡ b → First (C refuses y else cs) r → (First cs r → first xs ≡ Err r)
        → (if b then Err (refusal_of x.number x.carries) else first xs) ≡ Err r
    go true e (inl f) k = ap (λ (z : Refusal). Err z) (m.1 ∙ sym f.1)
    go true e (inr f) k = absurd (f.0 (m.0.0 e))
    go false e (inl f) k = absurd (m.0.1 e f.0)
    go false e (inr f) k = k f.1

pub passed_clear : (xs : List Rule) (cs : Checks) → Matches xs cs → Passed cs → Clear xs
passed_clear [] pass m p = tt
passed_clear [] (C refuses x else cs) m p = absurd m
passed_clear (x ∷ xs) pass m p = absurd m
passed_clear (x ∷ xs) (C refuses y else cs) m p = (go x.applies refl, passed_clear xs cs m.2 p.1)
  where
    go : (b : Bool) → x.applies ≡ b → x.applies ≡ false
    go true e = absurd (p.0 (m.0.0 e))
    go false e = e

pub clear_passed : (xs : List Rule) (cs : Checks) → Matches xs cs → Clear xs → Passed cs
clear_passed [] pass m p = tt
clear_passed [] (C refuses x else cs) m p = absurd m
clear_passed (x ∷ xs) pass m p = absurd m
clear_passed (x ∷ xs) (C refuses y else cs) m p = (m.0.1 p.0, clear_passed xs cs m.2 p.1)

-- one of them applies first, or none does
pub decided : (xs : List Rule) (cs : Checks) → Matches xs cs → ((r : Refusal) × First cs r) ⊎ Passed cs
decided [] pass m = inr tt
decided [] (C refuses x else cs) m = absurd m
decided (x ∷ xs) pass m = absurd m
decided (x ∷ xs) (C refuses y else cs) m = go x.applies refl (decided xs cs m.2)
  where
    go : (b : Bool) → x.applies ≡ b → ((r : Refusal) × First cs r) ⊎ Passed cs → ((r : Refusal) × First (C refuses y else cs) r) ⊎ Passed (C refuses y else cs)
    go true e k = inl (y, inl (m.0.0 e, refl))
    go false e (inl k) = inl (k.0, inr (m.0.1 e, k.1))
    go false e (inr k) = inr (m.0.1 e, k)

-- ---- tests

pub not_decides : (b : Bool) (C : Type 0) → (b ≡ true → C) → (C → b ≡ true) → Decides (not b) (C → ⊥)
not_decides true C f g = (λ e. absurd (differ e), λ e k. k (f refl))
not_decides false C f g = (λ e c. differ (g c), λ e k. let z : true ≡ false = e in let y : false ≡ true = sym z in differ y)

pub or_decides : (a b : Bool) {C D : Type 0} → Decides a C → Decides b D → Decides (a || b) (C ⊎ D)
or_decides true b f g = (λ e. inl (f.0 refl), λ e. let z : true ≡ false = e in absurd (differ (sym z)))
or_decides false b f g = (λ e. inr (g.0 e), λ e k. elim k [ inl c ↦ f.1 refl c | inr d ↦ g.1 e d ])

pub ltb_decides : (a b : ℕ) → Decides (ltb a b) (a < b)
ltb_decides a b = (ltb-true a b, λ e l. let k = ltb-false a b e in omega arith)

pub leb_decides : (a b : ℕ) → Decides (leb a b) (a ≤ b)
leb_decides a b = (leb-true a b, λ e l. let k = leb-false a b e in omega arith)

pub ne_decides : (a b : ℕ) → Decides (not (eqb a b)) (a ≢ b)
ne_decides a b = (λ e. eqb-false a b (not-true (eqb a b) e), λ e k. k (eqb-true a b (not-false (eqb a b) e)))

-- ---- the arena

pub shape_there : (h : Head) (n : ℕ) → shape_fits h n ≡ true → Shape h n
shape_there h n e =
    let s = shaped h n e in
    record {
      some_headers = s.some_headers;
      few_headers = s.few_headers;
      some_buckets = s.some_buckets;
      few_buckets = s.few_buckets;
      few_cells = s.few_cells;
      low = s.low;
      high = s.high;
      words_are = s.words_are;
    }

pub shape_back : (h : Head) (n : ℕ) → Shape h n → shape_fits h n ≡ true
shape_back h n s =
    fits h n
    (record {
      some_headers = s.some_headers;
      few_headers = s.few_headers;
      some_buckets = s.some_buckets;
      few_buckets = s.few_buckets;
      few_cells = s.few_cells;
      low = s.low;
      high = s.high;
      words_are = s.words_are;
    })

pub shape_decides : (h : Head) (n : ℕ) → Decides (not (shape_fits h n)) (Shape h n → ⊥)
shape_decides h n = not_decides (shape_fits h n) (Shape h n) (shape_there h n) (shape_back h n)

pub health_decides : (h : Head) (n : ℕ) → Decides (not (health_fits h n)) (n ≢ h.headers)
unfolding health_fits
health_decides h n = ne_decides n h.headers

registry_decides : (n : ℕ) → Decides (not (registry_fits n)) (64 < n)
unfolding registry_fits
registry_decides n = (λ e. leb-false n 64 (not-true (leb n 64) e), λ e l. let k = leb-true n 64 (not-false (leb n 64) e) in omega arith)

pub owned : (w : World) (c s : ℕ) → is_live w.head.next (cells_of w.head) w.table (hold_of c s) ≡ true → IsLive w c s
unfolding bit_at owner_at
owned w c s e =
    let a = alive w.head.next (cells_of w.head) w.table (hold_of c s) e in
    record { inside = a.in_range; bit_is = a.bit_is; owner_is = a.owner_is; low = a.low; high = a.high }

pub owning : (w : World) (c s : ℕ) → IsLive w c s → is_live w.head.next (cells_of w.head) w.table (hold_of c s) ≡ true
unfolding bit_at owner_at
owning w c s a =
    live w.head.next (cells_of w.head) w.table (hold_of c s)
    (record { in_range = a.inside; bit_is = a.bit_is; owner_is = a.owner_is; low = a.low; high = a.high })

live_decides : (w : World) (c s : ℕ) → Decides (not (is_live w.head.next (cells_of w.head) w.table (hold_of c s))) (IsLive w c s → ⊥)
live_decides w c s = not_decides (is_live w.head.next (cells_of w.head) w.table (hold_of c s)) (IsLive w c s) (owned w c s) (owning w c s)

pub in_listed : (c s : ℕ) (ks : List Hold) → is_in (hold_of c s) ks ≡ true → StandsIn c s ks
unfolding is_in
in_listed c s [] e = absurd (differ e)
in_listed c s (k ∷ ks) e = elim (in_cases k (hold_of c s) ks e) [ inl p ↦ inl (ap (λ (x : Hold). x.cell) p, ap (λ (x : Hold). x.serial) p) | inr j ↦ inr (in_listed c s ks j) ]

pub listed_in : (c s : ℕ) (ks : List Hold) → StandsIn c s ks → is_in (hold_of c s) ks ≡ true
listed_in c s [] e = absurd e
listed_in c s (k ∷ ks) (inl p) =
    let e : k ≡ hold_of c s = ap (λ (x : ℕ). hold_of x k.serial) p.0 ∙ ap (hold_of c) p.1 in
    subst (λ (x : Hold). is_in (hold_of c s) (x ∷ ks) ≡ true) (sym e) (in_first (hold_of c s) ks)
listed_in c s (k ∷ ks) (inr j) = in_rest k (hold_of c s) ks (listed_in c s ks j)

in_decides : (c s : ℕ) (ks : List Hold) → Decides (is_in (hold_of c s) ks) (StandsIn c s ks)
in_decides c s ks = (in_listed c s ks, λ e l. differ (sym e ∙ listed_in c s ks l))

pub holds_same : (ws : List ℕ) → holds ws ≡ holds_of ws
unfolding holds holds_of
holds_same [] = refl
holds_same (c ∷ []) = refl
holds_same (c ∷ s ∷ []) = refl
holds_same (c ∷ s ∷ b ∷ ws) = ap {B = List Hold} (λ ls. record { cell = c; serial = s } ∷ ls) (holds_same ws)

-- ---- lists of leases, and what comes behind

held_match : (w : World) (i : ℕ) (ws : List ℕ) (ys : List Rule) (cs : Checks) → Matches ys cs
    → Matches (not_live w.head w.table i (leases_of ws) ++ ys) (each_held w i ws cs)
unfolding not_live leases_of
held_match w i [] ys cs m = m
held_match w i (c ∷ []) ys cs m = m
held_match w i (c ∷ s ∷ []) ys cs m = m
held_match w i (c ∷ s ∷ b ∷ ws) ys cs m =
    (ne_decides b w.head.boot, refl, (live_decides w c s, refl, held_match w (i + 1) ws ys cs m))

given_match : (w : World) (i : ℕ) (earlier : List Hold) (ws : List ℕ)
    → Matches (not_releasable w.head w.table i earlier (leases_of ws)) (each_given w i earlier ws pass)
unfolding not_releasable leases_of
given_match w i earlier [] = tt
given_match w i earlier (c ∷ []) = tt
given_match w i earlier (c ∷ s ∷ []) = tt
given_match w i earlier (c ∷ s ∷ b ∷ ws) =
    (ne_decides b w.head.boot, refl, (live_decides w c s, refl, (in_decides c s earlier, refl, given_match w (i + 1) (earlier ++ (hold_of c s ∷ [])) ws)))

uneven_decides : (ws : List ℕ) → Decides (not (eqb (length ws % 3) 0) || ltb 64 (length ws / 3)) ((length ws % 3 ≢ 0) ⊎ (64 < length ws / 3))
uneven_decides ws = or_decides (not (eqb (length ws % 3) 0)) (ltb 64 (length ws / 3)) (ne_decides (length ws % 3) 0) (ltb_decides 64 (length ws / 3))

held_list_match : (w : World) (held : List ℕ) (ys : List Rule) (cs : Checks) → Matches ys cs → Matches (bad_held w.head w.table held ++ ys) (held_list w held cs)
held_list_match w held ys cs m = (uneven_decides held, refl, held_match w 0 held ys cs m)

-- a list of rules that nothing comes behind
held_only : (w : World) (held : List ℕ) → Matches (bad_held w.head w.table held) (held_list w held pass)
held_only w held = subst (λ (xs : List Rule). Matches xs (held_list w held pass)) (append-nil (bad_held w.head w.table held)) (held_list_match w held [] pass tt)

script_decides : (script : List ℕ) (place : ℕ)
    → Decides (not (eqb (length script % 3) 0) || ltb 32768 (length script / 3) || ltb (length script / 3) place)
    (((length script % 3 ≢ 0) ⊎ (32768 < length script / 3)) ⊎ (length script / 3 < place))
script_decides script place =
    or_decides (not (eqb (length script % 3) 0) || ltb 32768 (length script / 3)) (ltb (length script / 3) place)
    (or_decides (not (eqb (length script % 3) 0)) (ltb 32768 (length script / 3)) (ne_decides (length script % 3) 0) (ltb_decides 32768 (length script / 3)))
    (ltb_decides (length script / 3) place)

keys_decides : (held keys grants : List ℕ)
    → Decides (not (eqb (length keys % 2) 0) || ltb 64 (length held / 3 + length keys / 2) || not (eqb (length grants) (3 * (length keys / 2))))
    (((length keys % 2 ≢ 0) ⊎ (64 < length held / 3 + length keys / 2)) ⊎ (length grants ≢ 3 * (length keys / 2)))
keys_decides held keys grants =
    or_decides (not (eqb (length keys % 2) 0) || ltb 64 (length held / 3 + length keys / 2)) (not (eqb (length grants) (3 * (length keys / 2))))
    (or_decides (not (eqb (length keys % 2) 0)) (ltb 64 (length held / 3 + length keys / 2)) (ne_decides (length keys % 2) 0) (ltb_decides 64 (length held / 3 + length keys / 2)))
    (ne_decides (length grants) (3 * (length keys / 2)))

bindings_match : (left p : ℕ) (registry keys : List ℕ) → Matches (bad_bindings left p registry keys) (bindings left p registry keys pass)
unfolding bad_bindings
bindings_match zero p registry keys = tt
bindings_match (suc left) p registry keys = (leb_decides (length registry) (get_or keys (2 * p) 0), refl, bindings_match left (p + 1) registry keys)

-- ---- the crew

pub sum_same : (ns : List ℕ) → sum ns ≡ total ns
unfolding sum total
sum_same [] = refl
sum_same (n ∷ ns) = ap (λ (x : ℕ). n + x) (sum_same ns)

within_all : (ns : List ℕ) → all_within 64 ns ≡ true → (m : ℕ) → get_or ns m 0 ≤ 64
unfolding all_within
within_all [] e m = omega arith
within_all (n ∷ ns) e zero = leb-true n 64 (both (leb n 64) (all_within 64 ns) e).0
within_all (n ∷ ns) e (suc m) = within_all ns (both (leb n 64) (all_within 64 ns) e).1 m

all_within_lem : (ns : List ℕ) → ((m : ℕ) → get_or ns m 0 ≤ 64) → all_within 64 ns ≡ true
unfolding all_within
all_within_lem [] f = refl
all_within_lem (n ∷ ns) f = rw (le-leb n 64 (f 0)) (all_within_lem ns (λ m. f (suc m)))

limits_decides : (counts cells turns : List ℕ)
    → Decides (not (within 1 16 (length counts)) || not (all_within 64 counts) || ltb 256 (total counts) || not (eqb (length cells) (total counts)) || ltb 65536 (length turns))
    (Limits counts cells turns → ⊥)
limits_decides counts cells turns = (yes_bad _ refl, no_good _ refl)
  where
    Test : Bool → Type 0
    Test b = (not (within 1 16 (length counts)) || not (all_within 64 counts) || ltb 256 (total counts) || not (eqb (length cells) (total counts)) || ltb 65536 (length turns)) ≡ b

    good : Limits counts cells turns → Test false
    good l =
        rw (le-leb 1 (length counts) l.some_members, le-leb (length counts) 16 l.few_members, all_within_lem counts l.few_each, le-ltb 256 (total counts) (omega (arith, sum_same counts, l.few_cells)), eq-eqb (length cells) (total counts) (l.cells_are ∙ sum_same counts), le-ltb 65536 (length turns) l.few_turns)

    yes_bad : (b : Bool) → Test b → b ≡ true → Limits counts cells turns → ⊥
    yes_bad b t e l = differ (sym (good l) ∙ t ∙ e)

    no_good : (b : Bool) → Test b → b ≡ false → (Limits counts cells turns → ⊥) → ⊥
    no_good b t e k =
        let a = neither (not (within 1 16 (length counts)) || not (all_within 64 counts) || ltb 256 (total counts) || not (eqb (length cells) (total counts))) (ltb 65536 (length turns)) (t ∙ e) in
        let c = neither (not (within 1 16 (length counts)) || not (all_within 64 counts) || ltb 256 (total counts)) (not (eqb (length cells) (total counts))) a.0 in
        let d = neither (not (within 1 16 (length counts)) || not (all_within 64 counts)) (ltb 256 (total counts)) c.0 in
        let f = neither (not (within 1 16 (length counts))) (not (all_within 64 counts)) d.0 in
        let g = both (leb 1 (length counts)) (leb (length counts) 16) (not-false (within 1 16 (length counts)) f.0) in
        k (record {
          some_members = leb-true 1 (length counts) g.0;
          few_members = leb-true (length counts) 16 g.1;
          few_each = within_all counts (not-false (all_within 64 counts) f.1);
          few_cells = let x = ltb-false 256 (total counts) d.1 in omega (arith, sum_same counts);
          cells_are = eqb-true (length cells) (total counts) (not-false (eqb (length cells) (total counts)) c.1) ∙ sym (sum_same counts);
          few_turns = ltb-false 65536 (length turns) a.1;
        })

rises_there : (inside low : ℕ) (cs : List ℕ) → rises_from inside low cs ≡ true → Rises inside low cs
unfolding rises_from
rises_there inside low [] e = tt
rises_there inside low (c ∷ cs) e =
    let a = both (leb low c && ltb c inside) (rises_from inside (c + 1) cs) e in
    let b = both (leb low c) (ltb c inside) a.0 in
    (leb-true low c b.0, ltb-true c inside b.1, rises_there inside (c + 1) cs a.1)

rises_back : (inside low : ℕ) (cs : List ℕ) → Rises inside low cs → rises_from inside low cs ≡ true
unfolding rises_from
rises_back inside low [] r = refl
rises_back inside low (c ∷ cs) r = rw (le-leb low c r.0, lt-ltb c inside r.1) (rises_back inside (c + 1) cs r.2)

cells_same : (counts cells : List ℕ) (m : ℕ) → cells_of_lem counts cells m ≡ list_of counts cells m
unfolding start_of
cells_same counts cells m = rw (sum_same (take m counts))

lists_match : (w : World) (left m : ℕ) (counts cells : List ℕ) (ys : List Rule) (cs : Checks) → Matches ys cs
    → Matches (bad_lists left m (cells_of w.head) counts cells ++ ys) (lists w left m counts cells cs)
unfolding bad_lists
lists_match w zero m counts cells ys cs k = k
lists_match w (suc left) m counts cells ys cs k = (
  not_decides (rises_from (size w) 0 (list_of counts cells m)) (Rises (size w) 0 (cells_of_lem counts cells m))
      (λ e. subst (Rises (size w) 0) (sym (cells_same counts cells m)) (rises_there (size w) 0 (list_of counts cells m) e))
      (λ r. rises_back (size w) 0 (list_of counts cells m) (subst (Rises (size w) 0) (cells_same counts cells m) r)),
  refl,
  lists_match w left (m + 1) counts cells ys cs k,
)

turns_match : (members i : ℕ) (turns : List ℕ) → Matches (bad_turns members i turns) (each_turn members i turns)
unfolding bad_turns
turns_match members i [] = tt
turns_match members i (m ∷ ms) = (leb_decides members m, refl, turns_match members (i + 1) ms)

crew_match : (w : World) (counts cells turns : List ℕ) → Matches (plan_rules w.head counts cells turns) (crew_is w counts cells turns)
crew_match w counts cells turns =
    (limits_decides counts cells turns, refl, lists_match w (length counts) 0 counts cells (bad_turns (length counts) 0 turns) (each_turn (length counts) 0 turns) (turns_match (length counts) 0 turns))

-- ---- each call

abbrev shape_d : (w : World) → Decides (not (shape_fits w.head (length w.table))) (Shape w.head (length w.table) → ⊥)
shape_d w = shape_decides w.head (length w.table)

abbrev bytes_d : (w : World) → Decides (not (health_fits w.head (length w.health))) (length w.health ≢ w.head.headers)
bytes_d w = health_decides w.head (length w.health)

range_match : (w : World) (c : ℕ) → Matches (bad_cell w.head c ∷ []) (in_range w c pass)
range_match w c = (leb_decides (size w) c, refl, tt)

lease_match : (w : World) (l : Lease) (ys : List Rule) (cs : Checks) → Matches ys cs → Matches (stale_boot w.head 0 l ∷ not_held w.head w.table 0 l ∷ ys) (one_lease w l cs)
lease_match w l ys cs m = (ne_decides l.boot w.head.boot, refl, (live_decides w l.cell l.serial, refl, m))

not_in_match : (held : List ℕ) (l : Lease) → Matches (is_protected held l ∷ []) (not_in held l pass)
not_in_match held l =
    (subst (λ (ks : List Hold). Decides (is_in (hold_in l) (holds_of held)) (StandsIn l.cell l.serial ks)) (sym (holds_same held)) (in_decides l.cell l.serial (holds_of held)), refl, tt)

binding_match : (registry : List ℕ) (binding : ℕ) → Matches (bad_binding registry 0 binding ∷ []) ((length registry ≤ binding) refuses BadBinding 0 else pass)
binding_match registry binding = (leb_decides (length registry) binding, refl, tt)

leases_match : (w : World) (leases : List ℕ) → Matches (too_many_leases leases ∷ not_releasable w.head w.table 0 [] (leases_of leases)) (lease_list leases (each_given w 0 [] leases pass))
leases_match w leases = (uneven_decides leases, refl, given_match w 0 [] leases)

keys_match : (registry held keys grants : List ℕ)
    → Matches (too_many_keys held keys grants ∷ bad_bindings (length keys / 2) 0 registry keys) (key_list held keys grants (bindings (length keys / 2) 0 registry keys pass))
keys_match registry held keys grants = (keys_decides held keys grants, refl, bindings_match (length keys / 2) 0 registry keys)

held_lease_match : (w : World) (held : List ℕ) (l : Lease)
    → Matches (bad_held w.head w.table held ++ (stale_boot w.head 0 l ∷ not_held w.head w.table 0 l ∷ is_protected held l ∷ [])) (held_list w held (one_lease w l (not_in held l pass)))
held_lease_match w held l =
    held_list_match w held (stale_boot w.head 0 l ∷ not_held w.head w.table 0 l ∷ is_protected held l ∷ []) (one_lease w l (not_in held l pass))
    (lease_match w l (is_protected held l ∷ []) (not_in held l pass) (not_in_match held l))

bucket_match : (w : World) (registry script : List ℕ) (place : ℕ) (held : List ℕ) (binding : ℕ)
    → Matches (bucket_rules w.head w.table w.health registry script place held binding) (checks w (transactional registry script place held binding 0))
unfolding bucket_rules
bucket_match w registry script place held binding = (
  shape_d w,
  refl,
  (
    bytes_d w,
    refl,
    (
      registry_decides (length registry),
      refl,
      (script_decides script place, refl, held_list_match w held (bad_binding registry 0 binding ∷ []) ((length registry ≤ binding) refuses BadBinding 0 else pass) (binding_match registry binding)),
    ),
  ),
)

locks_match : (w : World) (registry script : List ℕ) (place : ℕ) (held keys grants : List ℕ)
    → Matches (locks_rules w.head w.table w.health registry script place held keys grants) (checks w (acquire_locks registry script place held keys grants))
unfolding locks_rules
locks_match w registry script place held keys grants = (
  shape_d w,
  refl,
  (
    bytes_d w,
    refl,
    (
      registry_decides (length registry),
      refl,
      (
        script_decides script place,
        refl,
        held_list_match w held (too_many_keys held keys grants ∷ bad_bindings (length keys / 2) 0 registry keys) (key_list held keys grants (bindings (length keys / 2) 0 registry keys pass))
            (keys_match registry held keys grants),
      ),
    ),
  ),
)

pub matched : (w : World) (k : Call) → Matches (rules w k) (checks w k)
unfolding cell_rules lease_rules held_cell_rules held_lease_rules script_rules lock_rules bucket_rules release_rules locks_rules crew_rules crew_at_work_rules
matched w (try_acquire c) = (shape_d w, refl, range_match w c)
matched w (drop_lease l) = (shape_d w, refl, lease_match w l [] pass tt)
matched w (read_permission l) = (shape_d w, refl, lease_match w l [] pass tt)
matched w (competing_acquire l) = (shape_d w, refl, lease_match w l [] pass tt)
matched w (release_then_handoff l) = (shape_d w, refl, lease_match w l [] pass tt)
matched w (foreign_release held l) = (shape_d w, refl, held_lease_match w held l)
matched w (drop_preserving held l) = (shape_d w, refl, held_lease_match w held l)
matched w (acquire_preserving held c) = (shape_d w, refl, held_list_match w held (bad_cell w.head c ∷ []) (in_range w c pass) (range_match w c))
matched w (environment script place held) = (shape_d w, refl, (bytes_d w, refl, (script_decides script place, refl, held_only w held)))
matched w (try_lock script place held c) =
    (shape_d w, refl, (bytes_d w, refl, (script_decides script place, refl, held_list_match w held (bad_cell w.head c ∷ []) (in_range w c pass) (range_match w c))))
matched w (transactional registry script place held binding bucket) = bucket_match w registry script place held binding
matched w (acquire_bucket registry script place held binding bucket) = bucket_match w registry script place held binding
matched w (release_all script place leases) = (shape_d w, refl, (bytes_d w, refl, (script_decides script place, refl, leases_match w leases)))
matched w (acquire_locks registry script place held keys grants) = locks_match w registry script place held keys grants
matched w (acquire_sorted registry script place held keys grants) = locks_match w registry script place held keys grants
matched w (crew counts cells turns) = (shape_d w, refl, (bytes_d w, refl, crew_match w counts cells turns))
matched w (crew_at_work counts cells turns counters) =
    (shape_d w, refl, (bytes_d w, refl, (ne_decides (length counters) (size w), refl, crew_match w counts cells turns)))
