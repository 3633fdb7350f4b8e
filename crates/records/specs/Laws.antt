-- Laws of the spelled table, and that a call on records is document 01's call on the table that they spell.
use Rattle.std.specs.Prelude.{ℕ, zero, suc, ◌+◌, ◌*◌, ◌≤◌, ◌<◌, ◌≡◌, refl, Bool, true, false, not, List, [], ◌∷◌, leb, length, get_or, set, Ok, if◌then◌else◌, ltb, ◌&&◌, Err}
use Rattle.std.proofs.Common.{sym, ap, ◌∙◌, arith, le-leb, le-ltb, lt-ltb, leb-true, leb-false, ltb-true}
use Rattle.std.proofs.lemmas.Bool.{lt-leb}
use Rattle.std.proofs.lemmas.List.{set-get_or}
use Rattle.model.specs.Arena.{serial_remains, cells_of, head_of, spent_to, head_fits, shape_fits, bit_at, owner_at, set_cell, is_free, is_held, state_of, state_at, lease_of, is_stale, hold_in, held_by, is_live, issue_of}
use Rattle.model.specs.Refusals.{Rule, first}
use Rattle.model.specs.Lock.{take_in, take_of, outcome_of, answer_of}
use Rattle.model.specs.Checks.{bad_cell, stale_boot, not_held, cell_rules, lease_rules}
use Rattle.model.specs.Calls.{replied, refused, acquire_of, try_acquire_of, drop_lease_of}
use Rattle.types.specs.declared.Answer.TheVariants.{Done, Granted}
use Rattle.types.specs.declared.Head.{Head}
use Rattle.types.specs.declared.Hold.{Hold}
use Rattle.types.specs.declared.Lease.{Lease}
use Rattle.types.specs.declared.Refusal.{Refusal}
use Rattle.types.specs.declared.Refusal.TheVariants.{BadShape, InvalidBucket, NotHeld, StaleBoot}
use Rattle.types.specs.declared.Reply.{Reply}
use Rattle.types.specs.declared.State.{State}
use Rattle.types.specs.declared.State.TheVariants.{Free, Held, Damaged}
use Rattle.types.specs.declared.Took.{Took}
use Rattle.types.specs.Checks.{Found}
use Rattle.laws.specs.Checks.{first_skip, first_hit, shape_ok, shape_bad}
use Rattle.laws.specs.Shape.{shaped}
use Rattle.records.specs.Model.{spelled, cell_of, none, spot_of, take_spot_of, drop_spot_of, take_by, take_free_of, take_rule_of, drop_rule_of, call_of}
use Rattle.records.specs.declared.Cell.{Cell}
use Rattle.records.specs.declared.Changed.{Changed}

-- ---- the spelled table

-- three words a record
pub length_spelled : (l : List Cell) → length (spelled l) ≡ 3 * length l
unfolding spelled
length_spelled [] = refl
length_spelled (c ∷ l) = omega (arith, length_spelled l)

-- the words fix the records
pub spelled_tells : (l m : List Cell) → spelled l ≡ spelled m → l ≡ m
unfolding spelled
spelled_tells [] [] e = refl
spelled_tells [] (d ∷ m) e = cc
spelled_tells (c ∷ l) [] e = cc
spelled_tells (c ∷ l) (d ∷ m) e =
    let b : c.bit ≡ d.bit = cc in
    let o : c.owner ≡ d.owner = cc in
    let w : c.waiters ≡ d.waiters = cc in
    let r : spelled l ≡ spelled m = cc in
    λ i. cell_of (b i) (o i) (w i) ∷ spelled_tells l m r i

-- a cell's three words are its record's three fields; past the end both are 0
pub bit_spelled : (l : List Cell) (c : ℕ) → bit_at (spelled l) c ≡ (get_or l c none).bit
unfolding spelled bit_at
bit_spelled [] c = refl
bit_spelled (x ∷ l) zero = refl
bit_spelled (x ∷ l) (suc c) = let e : 3 * suc c ≡ suc (suc (suc (3 * c))) = omega arith in rw e (bit_spelled l c)

pub owner_spelled : (l : List Cell) (c : ℕ) → owner_at (spelled l) c ≡ (get_or l c none).owner
unfolding spelled owner_at
owner_spelled [] c = refl
owner_spelled (x ∷ l) zero = refl
owner_spelled (x ∷ l) (suc c) = let e : 3 * suc c + 1 ≡ suc (suc (suc (3 * c + 1))) = omega arith in rw e (owner_spelled l c)

-- another bit and owner in one cell is another record in one place; past the end both change nothing
pub set_spelled : (l : List Cell) (c b o : ℕ) → set_cell (spelled l) c b o ≡ spelled (set l c (cell_of b o (get_or l c none).waiters))
unfolding spelled set_cell
set_spelled [] c b o = refl
set_spelled (x ∷ l) zero b o = refl
set_spelled (x ∷ l) (suc c) b o =
    let e : 3 * suc c ≡ suc (suc (suc (3 * c))) = omega arith in
    let f : suc (suc (suc (3 * c))) + 1 ≡ suc (suc (suc (3 * c + 1))) = omega arith in
    rw (e, f) (ap (λ (r : List ℕ). x.bit ∷ x.owner ∷ x.waiters ∷ r) (set_spelled l c b o))

pub state_spelled : (next : ℕ) (l : List Cell) (c : ℕ) → state_at next (spelled l) c ≡ state_of next (get_or l c none).bit (get_or l c none).owner
unfolding state_at
state_spelled next l c = rw (bit_spelled l c, owner_spelled l c)

-- ---- a call, by its test

pub call_outside : {X : Type 0} (place : Head → ℕ → X → Found) (rule : Head → Cell → X → Changed) (h : Head) (l : List Cell) (x : X) (r : Refusal)
    → Err r ≡ place h (length l) x → (refused h r, l) ≡ call_of place rule h l x
unfolding call_of
call_outside place rule h l x r e = rw (← e)

pub call_inside : {X : Type 0} (place : Head → ℕ → X → Found) (rule : Head → Cell → X → Changed) (h : Head) (l : List Cell) (x : X) (at : ℕ) (k : Changed)
    → Ok at ≡ place h (length l) x → k ≡ rule h (get_or l at none) x → (k.reply, set l at k.cell) ≡ call_of place rule h l x
unfolding call_of
call_inside place rule h l x at k e f = rw (← e, ← f)

-- a place that is told lies in the slice
spot_in : (h : Head) (n c at : ℕ) (x : Refusal) → Ok at ≡ spot_of h n c x → at < n
unfolding spot_of
spot_in h n c at x e = go (shape_fits h (3 * n)) (ltb c n) refl e
  where
    go : (a b : Bool) → ltb c n ≡ b → Ok at ≡ (if not a then Err BadShape else if b then Ok c else Err x) → at < n
    go false b q p = let z : ◌≡◌ {A = ℕ} 0 1 = cc in omega arith
    go true true q p = let z : at ≡ c = cc in omega (arith, ltb-true c n q, z)
    go true false q p = let z : ◌≡◌ {A = ℕ} 0 1 = cc in omega arith

pub take_spot_in : (h : Head) (n c at : ℕ) → Ok at ≡ take_spot_of h n c → at < n
unfolding take_spot_of
take_spot_in h n c at e = spot_in h n c at (InvalidBucket c) e

pub drop_spot_in : (h : Head) (n : ℕ) (x : Lease) (at : ℕ) → Ok at ≡ drop_spot_of h n x → at < n
unfolding drop_spot_of
drop_spot_in h n x at e = go (is_stale h x && shape_fits h (3 * n)) e
  where
    go : (b : Bool) → Ok at ≡ (if b then Err (StaleBoot 0) else spot_of h n x.cell (NotHeld 0)) → at < n
    go true p = let z : ◌≡◌ {A = ℕ} 0 1 = cc in omega arith
    go false p = spot_in h n x.cell at (NotHeld 0) p

-- what a call gives: its reply, and the table that the records then spell
abbrev pub given : Reply × List Cell → Reply × List ℕ
given k = (k.0, spelled k.1)

-- ---- the shape

-- more records than an arena can have
pub too_many_lem : (h : Head) (n : ℕ) → 4096 < n → false ≡ shape_fits h (3 * n)
too_many_lem h n b = go (shape_fits h (3 * n)) refl
  where
    go : (t : Bool) → shape_fits h (3 * n) ≡ t → false ≡ shape_fits h (3 * n)
    go true p = let s = shaped h (3 * n) p in absurd (omega (arith, s.words_are, s.few_cells, b))
    go false p = sym p

-- as many records as cells
pub records_are : (h : Head) (n : ℕ) → shape_fits h (3 * n) ≡ true → cells_of h ≡ n
records_are h n p = let s = shaped h (3 * n) p in omega (arith, s.words_are)

-- the shape of the spelled table
fits_spelled : (h : Head) (l : List Cell) (b : Bool) → shape_fits h (3 * length l) ≡ b → shape_fits h (length (spelled l)) ≡ b
fits_spelled h l b p = ap (shape_fits h) (length_spelled l) ∙ p

-- where no rule applies
no_rule : first [] ≡ Ok tt
unfolding first
no_rule = refl

-- the records with what a rule makes of one of them, as a call gives them
abbrev written : List Cell → ℕ → Changed → Reply × List ℕ
written l c k = (k.reply, spelled (set l c k.cell))

-- ---- a single take

-- what document 01's call makes of a compare-and-set
abbrev answered : Head → ℕ → Took × List ℕ → Reply × List ℕ
answered h c k = (replied (spent_to h k.0.next) 1 (answer_of h.boot (outcome_of c k.0.answer)), k.1)

take_free : (h : Head) (l : List Cell) (c : ℕ) (b : Bool) → serial_remains h.next ≡ b
    → written l c (take_free_of h (get_or l c none) c) ≡ answered h c (take_in Free h.next (spelled l) c).seen
unfolding take_free_of issue_of
take_free h l c true p = rw (p, set_spelled l c 1 h.next)
take_free h l c false p = rw (p, set-get_or l c none)

take_by_lem : (h : Head) (l : List Cell) (c : ℕ) (s : State) → written l c (take_by s h (get_or l c none) c) ≡ answered h c (take_in s h.next (spelled l) c).seen
take_by_lem h l c Damaged = rw (set-get_or l c none)
take_by_lem h l c (Held o) = rw (set-get_or l c none)
take_by_lem h l c Free = take_free h l c (serial_remains h.next) refl

take_record : (h : Head) (l : List Cell) (c : ℕ) → written l c (take_rule_of h (get_or l c none) c) ≡ (acquire_of 1 h (spelled l) c).seen
unfolding take_rule_of acquire_of take_of
take_record h l c = rw (state_spelled h.next l c) (take_by_lem h l c (state_of h.next (get_or l c none).bit (get_or l c none).owner))

abbrev Takes : Head → List Cell → ℕ → Type 0
Takes h l c = given (call_of take_spot_of take_rule_of h l c) ≡ (try_acquire_of h (spelled l) c).seen

-- the three ways: refused for the shape, refused for the cell, and what the rule makes
take_misfit : (h : Head) (l : List Cell) (c : ℕ) → shape_fits h (3 * length l) ≡ false → Takes h l c
unfolding call_of take_spot_of spot_of try_acquire_of cell_rules
take_misfit h l c p = rw (p, shape_bad h (spelled l) (bad_cell h c ∷ []) (fits_spelled h l false p))

take_outside : (h : Head) (l : List Cell) (c : ℕ) → shape_fits h (3 * length l) ≡ true → length l ≤ c → Takes h l c
unfolding call_of take_spot_of spot_of try_acquire_of cell_rules
take_outside h l c p b =
    let over : leb (cells_of h) c ≡ true = rw (records_are h (length l) p) (le-leb (length l) c b) in
    rw (p, le-ltb c (length l) b, shape_ok h (spelled l) (bad_cell h c ∷ []) (fits_spelled h l true p), first_hit (bad_cell h c) [] over)

take_inside : (h : Head) (l : List Cell) (c : ℕ) → shape_fits h (3 * length l) ≡ true → c < length l → Takes h l c
unfolding call_of take_spot_of spot_of try_acquire_of cell_rules
take_inside h l c p b =
    let under : leb (cells_of h) c ≡ false = rw (records_are h (length l) p) (lt-leb (length l) c b) in
    rw (p, lt-ltb c (length l) b, shape_ok h (spelled l) (bad_cell h c ∷ []) (fits_spelled h l true p), first_skip (bad_cell h c) [] under, no_rule) (take_record h l c)

pub take_agrees : (h : Head) (l : List Cell) (c : ℕ) → given (call_of take_spot_of take_rule_of h l c) ≡ (try_acquire_of h (spelled l) c).seen
take_agrees h l c = go (shape_fits h (3 * length l)) refl (leb (length l) c) refl
  where
    go : (a : Bool) → shape_fits h (3 * length l) ≡ a → (b : Bool) → leb (length l) c ≡ b → Takes h l c
    go false p b q = take_misfit h l c p
    go true p true q = take_outside h l c p (leb-true _ _ q)
    go true p false q = take_inside h l c p (leb-false _ _ q)

-- the same as the code goes: refused, or a record is written
pub take_refused : (h : Head) (l : List Cell) (c : ℕ) (r : Refusal) → Err r ≡ take_spot_of h (length l) c → (refused h r, spelled l) ≡ (try_acquire_of h (spelled l) c).seen
take_refused h l c r e = ap given (call_outside take_spot_of take_rule_of h l c r e) ∙ take_agrees h l c

pub take_done : (h : Head) (l : List Cell) (c at : ℕ) (k : Changed) → Ok at ≡ take_spot_of h (length l) c → k ≡ take_rule_of h (get_or l at none) c
    → written l at k ≡ (try_acquire_of h (spelled l) c).seen
take_done h l c at k e f = ap given (call_inside take_spot_of take_rule_of h l c at k e f) ∙ take_agrees h l c

pub ruleset taking = (take_spot_in, take_refused, take_done)

-- ---- a single release

-- whether the record of a lease is held by its serial
abbrev held_in : Head → List Cell → Hold → Bool
held_in h l x = held_by (state_of h.next (get_or l x.cell none).bit (get_or l x.cell none).owner) x.serial

live_outside : (h : Head) (l : List Cell) (x : Hold) → shape_fits h (3 * length l) ≡ true → length l ≤ x.cell → is_live h.next (cells_of h) (spelled l) x ≡ false
unfolding is_live
live_outside h l x p b = rw (records_are h (length l) p, le-ltb x.cell (length l) b)

live_inside : (h : Head) (l : List Cell) (x : Hold) → shape_fits h (3 * length l) ≡ true → x.cell < length l → is_live h.next (cells_of h) (spelled l) x ≡ held_in h l x
unfolding is_live
live_inside h l x p b = rw (records_are h (length l) p, lt-ltb x.cell (length l) b, state_spelled h.next l x.cell)

abbrev Drops : Head → List Cell → Lease → Type 0
Drops h l x = given (call_of drop_spot_of drop_rule_of h l x) ≡ (drop_lease_of h (spelled l) x).seen

-- what is tested behind the shape, and behind the boot number
abbrev behind : Head → List Cell → Lease → List Rule
behind h l x = stale_boot h 0 x ∷ not_held h (spelled l) 0 x ∷ []

-- the five ways: refused for the shape, for the boot number, for the cell, because another or nobody holds it, and released
drop_misfit : (h : Head) (l : List Cell) (x : Lease) (b : Bool) → is_stale h x ≡ b → shape_fits h (3 * length l) ≡ false → Drops h l x
unfolding call_of drop_spot_of spot_of drop_lease_of lease_rules
drop_misfit h l x true f p = rw (shape_bad h (spelled l) (behind h l x) (fits_spelled h l false p), f, p)
drop_misfit h l x false f p = rw (shape_bad h (spelled l) (behind h l x) (fits_spelled h l false p), f, p)

drop_earlier : (h : Head) (l : List Cell) (x : Lease) → is_stale h x ≡ true → shape_fits h (3 * length l) ≡ true → Drops h l x
unfolding call_of drop_spot_of spot_of drop_lease_of lease_rules
drop_earlier h l x f p =
    rw (shape_ok h (spelled l) (behind h l x) (fits_spelled h l true p), first_hit (stale_boot h 0 x) (not_held h (spelled l) 0 x ∷ []) f, f, p)

drop_outside : (h : Head) (l : List Cell) (x : Lease) → is_stale h x ≡ false → shape_fits h (3 * length l) ≡ true → length l ≤ x.cell → Drops h l x
unfolding call_of drop_spot_of spot_of drop_lease_of lease_rules
drop_outside h l x f p b =
    rw (shape_ok h (spelled l) (behind h l x) (fits_spelled h l true p), first_skip (stale_boot h 0 x) (not_held h (spelled l) 0 x ∷ []) f, first_hit (not_held h (spelled l) 0 x) [] (ap not (live_outside h l (hold_in x) p b)), f, p, le-ltb x.cell (length l) b)

drop_loose : (h : Head) (l : List Cell) (x : Lease) → is_stale h x ≡ false → shape_fits h (3 * length l) ≡ true → x.cell < length l → held_in h l (hold_in x) ≡ false → Drops h l x
unfolding call_of drop_spot_of spot_of drop_lease_of lease_rules drop_rule_of
drop_loose h l x f p b q =
    rw (shape_ok h (spelled l) (behind h l x) (fits_spelled h l true p), first_skip (stale_boot h 0 x) (not_held h (spelled l) 0 x ∷ []) f, first_hit (not_held h (spelled l) 0 x) [] (ap not (live_inside h l (hold_in x) p b ∙ q)), f, p, lt-ltb x.cell (length l) b, q, set-get_or l x.cell none)

drop_held : (h : Head) (l : List Cell) (x : Lease) → is_stale h x ≡ false → shape_fits h (3 * length l) ≡ true → x.cell < length l → held_in h l (hold_in x) ≡ true → Drops h l x
unfolding call_of drop_spot_of spot_of drop_lease_of lease_rules drop_rule_of
drop_held h l x f p b q =
    rw (shape_ok h (spelled l) (behind h l x) (fits_spelled h l true p), first_skip (stale_boot h 0 x) (not_held h (spelled l) 0 x ∷ []) f, first_skip (not_held h (spelled l) 0 x) [] (ap not (live_inside h l (hold_in x) p b ∙ q)), no_rule, f, p, lt-ltb x.cell (length l) b, q, set_spelled l x.cell 0 0)

pub drop_agrees : (h : Head) (l : List Cell) (x : Lease) → given (call_of drop_spot_of drop_rule_of h l x) ≡ (drop_lease_of h (spelled l) x).seen
drop_agrees h l x = go (shape_fits h (3 * length l)) refl (is_stale h x) refl (leb (length l) x.cell) refl
  where
    inside : is_stale h x ≡ false → shape_fits h (3 * length l) ≡ true → x.cell < length l → (t : Bool) → held_in h l (hold_in x) ≡ t → Drops h l x
    inside f p b true q = drop_held h l x f p b q
    inside f p b false q = drop_loose h l x f p b q

    go : (a : Bool) → shape_fits h (3 * length l) ≡ a → (o : Bool) → is_stale h x ≡ o → (b : Bool) → leb (length l) x.cell ≡ b → Drops h l x
    go false p o f b q = drop_misfit h l x o f p
    go true p true f b q = drop_earlier h l x f p
    go true p false f true q = drop_outside h l x f p (leb-true _ _ q)
    go true p false f false q = inside f p (leb-false _ _ q) (held_in h l (hold_in x)) refl

pub drop_refused : (h : Head) (l : List Cell) (x : Lease) (r : Refusal) → Err r ≡ drop_spot_of h (length l) x → (refused h r, spelled l) ≡ (drop_lease_of h (spelled l) x).seen
drop_refused h l x r e = ap given (call_outside drop_spot_of drop_rule_of h l x r e) ∙ drop_agrees h l x

pub drop_done : (h : Head) (l : List Cell) (x : Lease) (at : ℕ) (k : Changed) → Ok at ≡ drop_spot_of h (length l) x → k ≡ drop_rule_of h (get_or l at none) x
    → written l at k ≡ (drop_lease_of h (spelled l) x).seen
drop_done h l x at k e f = ap given (call_inside drop_spot_of drop_rule_of h l x at k e f) ∙ drop_agrees h l x

pub ruleset dropping = (drop_spot_in, drop_refused, drop_done)

-- ---- what the promises fix

-- two results with their records that meet a promise are equal, whatever the call is to give
pub determined : {z : Reply × List ℕ} (k j : Reply × List Cell) → given k ≡ z → given j ≡ z → k ≡ j
determined k j p q = let e = p ∙ sym q in λ i. ((e i).0, spelled_tells k.1 j.1 (λ i. (e i).1) i)

-- ---- two records, computed

abbrev two : List Cell
two = cell_of 0 0 7 ∷ none ∷ []

abbrev taken : List Cell
taken = cell_of 1 5 7 ∷ none ∷ []

-- a take of cell 0
take_first : (try_acquire_of (head_of 1 2 5 9) (spelled two) 0).seen ≡ given (replied (head_of 1 2 6 9) 1 (Granted (lease_of 0 5 9)), taken)
unfolding try_acquire_of cell_rules first shape_fits head_fits acquire_of take_of state_at state_of is_free bit_at owner_at set_cell spelled
take_first = refl

-- its release; with another serial it is refused and changes nothing
drop_first : (drop_lease_of (head_of 1 2 6 9) (spelled taken) (lease_of 0 5 9)).seen ≡ given (replied (head_of 1 2 6 9) 0 Done, two)
unfolding drop_lease_of lease_rules first shape_fits head_fits is_live state_at state_of is_free is_held bit_at owner_at set_cell spelled
drop_first = refl

drop_other : (drop_lease_of (head_of 1 2 6 9) (spelled taken) (lease_of 0 4 9)).seen ≡ given (refused (head_of 1 2 6 9) (NotHeld 0), taken)
unfolding drop_lease_of lease_rules first shape_fits head_fits is_live state_at state_of is_free is_held bit_at owner_at spelled
drop_other = refl

-- with another boot number it is 16, of a cell past the end too
drop_stale_lem : ((drop_lease_of (head_of 1 2 6 9) (spelled taken) (lease_of 0 5 8)).seen ≡ given (refused (head_of 1 2 6 9) (StaleBoot 0), taken))
    × ((drop_lease_of (head_of 1 2 6 9) (spelled taken) (lease_of 2 4 8)).seen ≡ given (refused (head_of 1 2 6 9) (StaleBoot 0), taken))
unfolding drop_lease_of lease_rules first shape_fits head_fits is_live state_at state_of is_free is_held bit_at owner_at spelled
drop_stale_lem = (refl, refl)

-- cell 2 of two, and a third record
take_past : (try_acquire_of (head_of 1 2 5 9) (spelled two) 2).seen ≡ given (refused (head_of 1 2 5 9) (InvalidBucket 2), two)
unfolding try_acquire_of cell_rules first shape_fits head_fits spelled
take_past = refl

take_three : (try_acquire_of (head_of 1 2 5 9) (spelled (none ∷ two)) 0).seen ≡ given (refused (head_of 1 2 5 9) BadShape, none ∷ two)
unfolding try_acquire_of cell_rules first shape_fits head_fits spelled
take_three = refl
