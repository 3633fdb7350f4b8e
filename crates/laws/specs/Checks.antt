-- Lists of rules: how `first` goes on, what it means that all is fine, and one position of a list of leases at a time.
use Rattle.std.specs.Prelude.{ℕ, zero, suc, ◌+◌, ◌*◌, ◌≤◌, ◌<◌, ◌≡◌, List, [], ◌∷◌, ◌++◌, Bool, true, false, not, ltb, length, get_or, drop, if◌then◌else◌, Ok, Err}
use Rattle.std.proofs.Math.Path.{refl}
use Rattle.std.proofs.Common.{sym, ap, ◌∙◌, arith, length-drop, eq-eqb, leb-false, ltb-true}
use Rattle.std.proofs.lemmas.Bool.{not-false}
use Rattle.types.specs.Checks.{Check}
pub use Rattle.choice.specs.Lists.{drop_three}
use Rattle.model.specs.Arena.{cells_of, lease_of, is_stale, hold_in, shape_fits, is_live, leases_of, holds_of, same_hold, is_in, held_by, state_at}
use Rattle.model.specs.Refusals.{Rule, refusal_of, first}
use Rattle.model.specs.Lock.{hold_at}
use Rattle.model.specs.Checks.{bad_shape, bad_health, not_live, cell_rules, lease_rules, held_cell_rules, held_lease_rules, bad_held}
use Rattle.types.specs.declared.Head.{Head}
use Rattle.types.specs.declared.Hold.{Hold}
use Rattle.types.specs.declared.Lease.{Lease}
use Rattle.types.specs.declared.Refusal.{Refusal}
use Rattle.types.specs.declared.Refusal.TheVariants as refusal
use Rattle.choice.specs.Pick.{both}
use Rattle.laws.specs.Shape.{Shaped, shaped, healthy}
use Rattle.laws.specs.Lists.{holds_are}

-- ---- one rule behind the other

abbrev pub or_else : Check → Check → Check
or_else (Ok tt) d = d
or_else (Err r) d = Err r

pub first_append : (xs ys : List Rule) → first (xs ++ ys) ≡ or_else (first xs) (first ys)
unfolding first
first_append [] ys = refl
first_append (x ∷ xs) ys = go x.applies (first_append xs ys)
  where
    go : (b : Bool) → first (xs ++ ys) ≡ or_else (first xs) (first ys)
        → (if b then Err (refusal_of x.number x.carries) else first (xs ++ ys))
        ≡ or_else (if b then Err (refusal_of x.number x.carries) else first xs) (first ys)
    go true e = refl
    go false e = e

pub first_two : (x : Rule) (xs : List Rule) → first (x ∷ xs) ≡ or_else (first (x ∷ [])) (first xs)
first_two x xs = first_append (x ∷ []) xs

-- the same by what the front comes to: code that tests the front with `?` goes by these
pub refused_append : (xs ys : List Rule) (r : Refusal) → first xs ≡ Err r → first (xs ++ ys) ≡ Err r
refused_append xs ys r e = first_append xs ys ∙ ap (λ (c : Check). or_else c (first ys)) e

pub passed_append : (xs ys : List Rule) → first xs ≡ Ok tt → first (xs ++ ys) ≡ first ys
passed_append xs ys e = first_append xs ys ∙ ap (λ (c : Check). or_else c (first ys)) e

pub refused_one : (x : Rule) (xs : List Rule) (r : Refusal) → first (x ∷ []) ≡ Err r → first (x ∷ xs) ≡ Err r
refused_one x xs r e = refused_append (x ∷ []) xs r e

pub passed_one : (x : Rule) (xs : List Rule) → first (x ∷ []) ≡ Ok tt → first (x ∷ xs) ≡ first xs
passed_one x xs e = passed_append (x ∷ []) xs e

pub refused_two : (x y : Rule) (xs : List Rule) (r : Refusal) → first (x ∷ y ∷ []) ≡ Err r → first (x ∷ y ∷ xs) ≡ Err r
refused_two x y xs r e = refused_append (x ∷ y ∷ []) xs r e

pub passed_two : (x y : Rule) (xs : List Rule) → first (x ∷ y ∷ []) ≡ Ok tt → first (x ∷ y ∷ xs) ≡ first xs
passed_two x y xs e = passed_append (x ∷ y ∷ []) xs e

-- what code returns there
pub stopped : {r : Check} (xs ys : List Rule) (e : Refusal) → r ≡ Err e → first xs ≡ Err e → r ≡ first (xs ++ ys)
stopped xs ys e p q = p ∙ sym (refused_append xs ys e q)

pub went_on : {r : Check} (xs ys : List Rule) → r ≡ first ys → first xs ≡ Ok tt → r ≡ first (xs ++ ys)
went_on xs ys p q = p ∙ sym (passed_append xs ys q)

pub ruleset fronts = (refused_append, passed_append, refused_one, passed_one, refused_two, passed_two)

pub first_skip : (x : Rule) (xs : List Rule) → x.applies ≡ false → first (x ∷ xs) ≡ first xs
unfolding first
first_skip x xs e = rw e

pub first_hit : (x : Rule) (xs : List Rule) → x.applies ≡ true → first (x ∷ xs) ≡ Err (refusal_of x.number x.carries)
unfolding first
first_hit x xs e = rw e

-- where all is fine, this rule does not apply, and the rest is fine
pub fine_rest : (x : Rule) (xs : List Rule) → first (x ∷ xs) ≡ Ok tt → (x.applies ≡ false) × (first xs ≡ Ok tt)
unfolding first
fine_rest x xs e = go x.applies refl e
  where
    go : (b : Bool) → x.applies ≡ b → (if b then Err (refusal_of x.number x.carries) else first xs) ≡ Ok tt → (x.applies ≡ false) × (first xs ≡ Ok tt)
    go true p q = let z : false ≡ true = cc in (cc, cc)
    go false p q = (p, q)

-- what `arena_check` tells: the arena has its shape, and a health byte for each header
pub arena_fine : (h : Head) (t g : List ℕ) → first (bad_shape h t ∷ bad_health h g ∷ []) ≡ Ok tt → Shaped h (length t) × (length g ≡ h.headers)
arena_fine h t g e =
    let a = fine_rest _ _ e in
    let b = fine_rest _ _ a.1 in
    (shaped h (length t) (not-false _ a.0), healthy h (length g) (not-false _ b.0))

pub shape_passed : (h : Head) (t : List ℕ) → first (bad_shape h t ∷ []) ≡ Ok tt → shape_fits h (length t) ≡ true
shape_passed h t e = not-false _ (fine_rest _ _ e).0

pub arena_shape : (h : Head) (t g : List ℕ) → first (bad_shape h t ∷ bad_health h g ∷ []) ≡ Ok tt → shape_fits h (length t) ≡ true
arena_shape h t g e = not-false _ (fine_rest _ _ e).0

pub fine_append : (xs ys : List Rule) → first (xs ++ ys) ≡ Ok tt → (first xs ≡ Ok tt) × (first ys ≡ Ok tt)
fine_append xs ys e = go (first xs) refl (sym (first_append xs ys) ∙ e)
  where
    go : (c : Check) → first xs ≡ c → or_else c (first ys) ≡ Ok tt → (first xs ≡ Ok tt) × (first ys ≡ Ok tt)
    go (Ok tt) p q = (p, q)
    go (Err r) p q = let z : false ≡ true = cc in (cc, cc)

-- ---- the rules on the shape, and what comes behind them

pub shape_ok : (h : Head) (t : List ℕ) (xs : List Rule) → shape_fits h (length t) ≡ true → first (bad_shape h t ∷ xs) ≡ first xs
shape_ok h t xs e = first_skip (bad_shape h t) xs (ap not e)

pub shape_bad : (h : Head) (t : List ℕ) (xs : List Rule) → shape_fits h (length t) ≡ false → first (bad_shape h t ∷ xs) ≡ Err refusal.BadShape
shape_bad h t xs e = first_hit (bad_shape h t) xs (ap not e)

-- a held list's rules and those behind them
pub held_then : (h : Head) (t held : List ℕ) (ys : List Rule) → first (bad_held h t held ++ ys) ≡ or_else (first (bad_held h t held)) (first ys)
held_then h t held ys = first_append (bad_held h t held) ys

-- ---- lists of leases, a position at a time

-- the lease at position i of a list, and its hold
abbrev pub lease_in : List ℕ → ℕ → Lease
lease_in l i = lease_of (get_or l (3 * i) 0) (get_or l (3 * i + 1) 0) (get_or l (3 * i + 2) 0)

-- a lease of the head's boot number is not stale
pub not_stale : (h : Head) (l : Lease) → l.boot ≡ h.boot → is_stale h l ≡ false
not_stale h l e = ap not (eq-eqb l.boot h.boot e)

pub leases_at : (l : List ℕ) (i : ℕ) → 3 * i + 2 < length l → leases_of (drop (3 * i) l) ≡ lease_in l i ∷ leases_of (drop (3 * (i + 1)) l)
unfolding leases_of
leases_at l i b = let e : 3 * i + 3 ≡ 3 * (i + 1) = omega arith in rw (drop_three l (3 * i) b, e)

pub holds_at : (l : List ℕ) (i : ℕ) → 3 * i + 2 < length l → holds_of (drop (3 * i) l) ≡ hold_in (lease_in l i) ∷ holds_of (drop (3 * (i + 1)) l)
holds_at l i b = rw (holds_are (drop (3 * i) l), leases_at l i b, holds_are (drop (3 * (i + 1)) l))

pub leases_end : (l : List ℕ) (i : ℕ) → length l ≤ 3 * i + 2 → leases_of (drop (3 * i) l) ≡ []
leases_end l i b = short (drop (3 * i) l) (simp length-drop (omega arith))
  where
    short : (r : List ℕ) → length r < 3 → leases_of r ≡ []
    short [] h = unfold leases_of in refl
    short (a ∷ []) h = unfold leases_of in refl
    short (a ∷ b ∷ []) h = unfold leases_of in refl
    short (a ∷ b ∷ c ∷ r) h = absurd (omega arith)

pub holds_end : (l : List ℕ) (i : ℕ) → length l ≤ 3 * i + 2 → holds_of (drop (3 * i) l) ≡ []
holds_end l i b = rw (holds_are (drop (3 * i) l), leases_end l i b)

-- the same lease, seen from the second one on
pub lease_later : (c s b : ℕ) (ws : List ℕ) (i : ℕ) → lease_in (c ∷ s ∷ b ∷ ws) (suc i) ≡ lease_in ws i
lease_later c s b ws i =
    let x : 3 * suc i ≡ suc (suc (suc (3 * i))) = omega arith in
    let y : 3 * suc i + 1 ≡ suc (suc (suc (3 * i + 1))) = omega arith in
    let z : 3 * suc i + 2 ≡ suc (suc (suc (3 * i + 2))) = omega arith in
    rw (z, y, x)

-- the hold at a position is that of the lease there
pub hold_in_lem : (ws : List ℕ) (i : ℕ) → 3 * i + 2 < length ws → hold_at (holds_of ws) i ≡ hold_in (lease_in ws i)
unfolding holds_of
hold_in_lem [] i b = absurd (omega arith)
hold_in_lem (c ∷ []) i b = absurd (omega arith)
hold_in_lem (c ∷ s ∷ []) i b = absurd (omega arith)
hold_in_lem (c ∷ s ∷ n ∷ ws) zero b = refl
hold_in_lem (c ∷ s ∷ n ∷ ws) (suc i) b = hold_in_lem ws i (omega arith) ∙ ap hold_in (sym (lease_later c s n ws i))

-- 16 and 3 at position i, where this lease stands, and from there on
pub not_live_at : (h : Head) (t held : List ℕ) (i : ℕ) (l : Lease) → l ≡ lease_in held i → 3 * i + 2 < length held
    → first (not_live h t i (leases_of (drop (3 * i) held)))
    ≡ (if is_stale h l then Err (refusal.StaleBoot i)
    else if not (is_live h.next (cells_of h) t (hold_in l)) then Err (refusal.BadHeld i)
    else first (not_live h t (i + 1) (leases_of (drop (3 * (i + 1)) held))))
unfolding first not_live
not_live_at h t held i l e b = rw (e, leases_at held i b)

pub not_live_end : (h : Head) (t held : List ℕ) (i : ℕ) → length held ≤ 3 * i + 2 → first (not_live h t i (leases_of (drop (3 * i) held))) ≡ Ok tt
unfolding first not_live
not_live_end h t held i b = rw (leases_end held i b)

-- whether a hold stands at position i or later
pub is_in_at : (l : Hold) (list : List ℕ) (i : ℕ) → 3 * i + 2 < length list
    → is_in l (holds_of (drop (3 * i) list))
    ≡ (if same_hold (hold_in (lease_in list i)) l then true else is_in l (holds_of (drop (3 * (i + 1)) list)))
unfolding is_in
is_in_at l list i b = rw (holds_at list i b)

pub is_in_end : (l : Hold) (list : List ℕ) (i : ℕ) → length list ≤ 3 * i + 2 → is_in l (holds_of (drop (3 * i) list)) ≡ false
unfolding is_in
is_in_end l list i b = rw (holds_end list i b)

-- ---- what a call knows once its checks are fine

pub live_inside : (next cells : ℕ) (t : List ℕ) (l : Hold) → is_live next cells t l ≡ true → l.cell < cells
unfolding is_live
live_inside next cells t l e = ltb-true _ _ (both (ltb l.cell cells) (held_by (state_at next t l.cell) l.serial) e).0

pub record CellFine (h : Head) (t : List ℕ) (c : ℕ) : Type 0 where
  pub shape : Shaped h (length t)
  pub inside : c < cells_of h

pub cell_fine : (h : Head) (t : List ℕ) (c : ℕ) → first (cell_rules h t c) ≡ Ok tt → CellFine h t c
unfolding cell_rules
cell_fine h t c e =
    let a = fine_rest _ _ e in
    let b = fine_rest _ _ a.1 in
    record { shape = shaped h (length t) (not-false _ a.0); inside = leb-false _ _ b.0 }

pub record LeaseFine (h : Head) (t : List ℕ) (l : Lease) : Type 0 where
  pub shape : Shaped h (length t)
  pub own : is_stale h l ≡ false
  pub live : is_live h.next (cells_of h) t (hold_in l) ≡ true
  pub inside : l.cell < cells_of h

pub lease_fine : (h : Head) (t : List ℕ) (l : Lease) → first (lease_rules h t l) ≡ Ok tt → LeaseFine h t l
unfolding lease_rules
lease_fine h t l e =
    let a = fine_rest _ _ e in
    let b = fine_rest _ _ a.1 in
    let d = fine_rest _ _ b.1 in
    let v = not-false _ d.0 in
    record { shape = shaped h (length t) (not-false _ a.0); own = b.0; live = v; inside = live_inside _ _ _ _ v }

pub held_cell_fine : (h : Head) (t held : List ℕ) (c : ℕ) → first (held_cell_rules h t held c) ≡ Ok tt → CellFine h t c
unfolding held_cell_rules
held_cell_fine h t held c e =
    let a = fine_rest _ _ e in
    let b = fine_append (bad_held h t held) _ a.1 in
    let d = fine_rest _ _ b.1 in
    record { shape = shaped h (length t) (not-false _ a.0); inside = leb-false _ _ d.0 }

pub held_lease_fine : (h : Head) (t held : List ℕ) (l : Lease) → first (held_lease_rules h t held l) ≡ Ok tt → LeaseFine h t l
unfolding held_lease_rules
held_lease_fine h t held l e =
    let a = fine_rest _ _ e in
    let b = fine_append (bad_held h t held) _ a.1 in
    let d = fine_rest _ _ b.1 in
    let k = fine_rest _ _ d.1 in
    let v = not-false _ k.0 in
    record { shape = shaped h (length t) (not-false _ a.0); own = d.0; live = v; inside = live_inside _ _ _ _ v }
