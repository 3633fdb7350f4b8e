-- Where upstream requires, a call here tests: which check answers when a premise fails and no earlier check applies.
use Rattle.std.specs.Prelude.{ℕ, zero, suc, ◌+◌, ◌≤◌, ◌<◌, ◌≡◌, refl, List, [], ◌∷◌, ◌++◌, Bool, true, false, not, ◌||◌, ltb, length, Err}
use Rattle.std.proofs.Common.{ap, ◌∙◌, subst, arith, le-leb, lt-ltb}
use Rattle.choice.specs.Pick.{or_true}
use Rattle.model.specs.Arena.{cells_of, hold_in, is_live, is_in, leases_of, holds_of}
use Rattle.model.specs.Refusals.{Rule, first}
use Rattle.model.specs.Checks.{lease_count, is_uneven, bad_shape, bad_held, bad_held_length, not_live, bad_cell, stale_boot, not_held, is_protected, lease_rules}
use Rattle.model.specs.Lock.{hold_at}
use Rattle.types.specs.declared.Hold.{Hold}
use Rattle.types.specs.declared.Lease.{Lease}
use Rattle.types.specs.declared.Refusal.TheVariants.{BadHeld, InvalidBucket, NotHeld, Protected}
use Rattle.laws.specs.Checks.{first_hit, first_skip, not_stale}
use Rattle.laws.specs.Lists.{as_many}
use Rattle.history.specs.Items.{Clear}
use Rattle.history.specs.World.{Live}
use Rattle.upstream.specs.Vocabulary.{Authority, next_serial, dom, cells, contains_key, ValidCell, authorized}
use Rattle.upstream.specs.Premises.{Own, lease_at, Fits, FirstBad}
use Rattle.upstream.proofs.Bridge.{hold_at_lem, live_authorized, live_cell, first_after}

-- ---- a lease that is not live

pub is_dead : (w : Authority) (l : Hold) → (Live w l → ⊥) → is_live (next_serial w) (dom w) w.table l ≡ false
is_dead w l n = go (is_live (next_serial w) (dom w) w.table l) refl
  where
    go : (b : Bool) → is_live (next_serial w) (dom w) w.table l ≡ b → is_live (next_serial w) (dom w) w.table l ≡ false
    go true e = absurd (n e)
    go false e = e

pub unauthorized : (w : Authority) (l : Hold) → (authorized w l → ⊥) → Live w l → ⊥
unauthorized w l n v = n (live_authorized w l v)

-- a lease on a cell that is not valid
pub on_damaged : (w : Authority) (l : Hold) → (ValidCell (next_serial w) (cells w l.cell) → ⊥) → Live w l → ⊥
on_damaged w l n v = n (live_cell w l v)

-- 12, behind any checks, of a lease of this boot
pub not_held_lem : (xs : List Rule) (w : Authority) (i : ℕ) (l : Lease) (ys : List Rule) → Clear xs → Own w l → (Live w (hold_in l) → ⊥)
    → first (xs ++ (stale_boot w.head i l ∷ not_held w.head w.table i l ∷ ys)) ≡ Err (NotHeld i)
not_held_lem [] w i l ys c o n = first_skip (stale_boot w.head i l) _ (not_stale w.head l o) ∙ first_hit (not_held w.head w.table i l) ys (ap not (is_dead w (hold_in l) n))
not_held_lem (x ∷ xs) w i l ys c o n = first_skip x _ c.0 ∙ not_held_lem xs w i l ys c.1 o n

pub lease_refused : (w : Authority) (l : Lease) → Fits w → Own w l → (Live w (hold_in l) → ⊥) → first (lease_rules w.head w.table l) ≡ Err (NotHeld 0)
unfolding lease_rules
lease_refused w l s o n = not_held_lem (bad_shape w.head w.table ∷ []) w 0 l [] (ap not s, tt) o n

-- ---- 3: the first lease of the held list that is not authorized

not_live_first : (w : Authority) (n : ℕ) (ls : List Lease) (i : ℕ) (ys : List Rule) → i < length ls
    → ((j : ℕ) → j ≤ i → Own w (lease_at ls j)) → ((j : ℕ) → j < i → Live w (hold_in (lease_at ls j))) → (Live w (hold_in (lease_at ls i)) → ⊥)
    → first (not_live w.head w.table n ls ++ ys) ≡ Err (BadHeld (n + i))
unfolding not_live first
not_live_first w n [] i ys l own before at = absurd (omega arith)
not_live_first w n (k ∷ ls) zero ys l own before at =
    let e : n + 0 ≡ n = omega arith in
    rw (not_stale w.head k (own 0 (omega arith)), is_dead w (hold_in k) at, e)
not_live_first w n (k ∷ ls) (suc i) ys l own before at =
    let e : n + 1 + i ≡ n + suc i = omega arith in
    let v : Live w (hold_in k) = before 0 (omega arith) in
    rw (not_stale w.head k (own 0 (omega arith)), v, ← e)
    (not_live_first w (n + 1) ls i ys (omega arith) (λ j p. own (suc j) (omega arith)) (λ j p. before (suc j) (omega arith)) at)

pub held_refused : (xs : List Rule) (w : Authority) (list : List ℕ) (i : ℕ) (ys : List Rule) → Clear xs → (bad_held_length list).applies ≡ false → FirstBad w list i
    → first (xs ++ (bad_held w.head w.table list ++ ys)) ≡ Err (BadHeld i)
held_refused [] w list i ys c s b =
    let e : 0 + i ≡ i = omega arith in
    first_skip (bad_held_length list) _ s
    ∙ not_live_first w 0 (leases_of list) i ys (omega (arith, as_many list, b.inside)) b.own (λ j p. subst (Live w) (hold_at_lem list j) (b.before j p))
    (subst (λ (l : Hold). Live w l → ⊥) (hold_at_lem list i) (unauthorized w (hold_at (holds_of list) i) b.at)) ∙ rw e
held_refused (x ∷ xs) w list i ys c s b = first_skip x _ c.0 ∙ held_refused xs w list i ys c.1 s b

-- ---- 8: a cell that is not in the map

pub cell_refused : (xs : List Rule) (w : Authority) (c : ℕ) → Clear xs → (contains_key w c → ⊥) → first (xs ++ (bad_cell w.head c ∷ [])) ≡ Err (InvalidBucket c)
cell_refused xs w c k n = first_after xs (bad_cell w.head c) [] k (le-leb (cells_of w.head) c (omega arith))

-- ---- 13: a lease of the held list

pub protected_refused : (xs : List Rule) (w : Authority) (list : List ℕ) (l : Lease) → Clear xs → Own w l → Live w (hold_in l) → is_in (hold_in l) (holds_of list) ≡ true
    → first (xs ++ (stale_boot w.head 0 l ∷ not_held w.head w.table 0 l ∷ is_protected list l ∷ [])) ≡ Err Protected
protected_refused [] w list l c o v i =
    first_skip (stale_boot w.head 0 l) _ (not_stale w.head l o) ∙ first_skip (not_held w.head w.table 0 l) _ (ap not v) ∙ first_hit (is_protected list l) [] i
protected_refused (x ∷ xs) w list l c o v i = first_skip x _ c.0 ∙ protected_refused xs w list l c.1 o v i

-- ---- 3 and 4: more than 64 leases

pub over : (words : List ℕ) → 64 < lease_count words → (is_uneven words || ltb 64 (lease_count words)) ≡ true
over words l = rw (lt-ltb 64 (lease_count words) l) (or_true (is_uneven words))
