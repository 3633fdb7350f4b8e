-- Lists of the book's rules: how `first_fault` goes on, and what it means that all is fine.
-- ---- one rule behind the other
use Rattle.std.specs.Prelude.{ℕ, ◌*◌, ◌≡◌, refl, List, [], ◌∷◌, ◌++◌, Bool, true, false, ◌&&◌, ltb, leb, eqb, length, if◌then◌else◌, Ok, Err}
use Rattle.std.proofs.Common.{sym, leb-false, ltb-false, eqb-true, eq-eqb, le-ltb}
use Rattle.std.proofs.lemmas.Bool.{not-false, lt-leb}
use Rattle.choice.specs.Pick.{both, neither}
use Rattle.model.specs.Arena.{cells_of, head_fits, shape_fits, hold_in, is_live}
use Rattle.types.specs.declared.Head.{Head}
use Rattle.types.specs.declared.Lease.{Lease}
use Rattle.setpoint.specs.declared.Setpoint.{Setpoint}
use Rattle.book_rules.specs.Layout.{slots_of, front_of}
use Rattle.book_rules.specs.Rules.{BookRule, first_fault, is_bad_book, is_bad_slot, is_holder, claim_rules, open_rules}
use Rattle.book_rules.specs.Fine.{or_then, BookFine, SlotFine, ClaimFine, OpenFine}

pub faults_append : (xs ys : List BookRule) → first_fault (xs ++ ys) ≡ or_then (first_fault xs) (first_fault ys)
unfolding first_fault
faults_append [] ys = refl
faults_append (x ∷ xs) ys = go x.applies (faults_append xs ys)
  where
    go : (b : Bool) → first_fault (xs ++ ys) ≡ or_then (first_fault xs) (first_fault ys)
        → (if b then Err x.refusal else first_fault (xs ++ ys)) ≡ or_then (if b then Err x.refusal else first_fault xs) (first_fault ys)
    go true e = refl
    go false e = e

no_fault : (x : BookRule) (xs : List BookRule) → first_fault (x ∷ xs) ≡ Ok tt → (x.applies ≡ false) × (first_fault xs ≡ Ok tt)
unfolding first_fault
no_fault x xs e = go x.applies refl e
  where
    go : (b : Bool) → x.applies ≡ b → (if b then Err x.refusal else first_fault xs) ≡ Ok tt → (x.applies ≡ false) × (first_fault xs ≡ Ok tt)
    go true p q = let z : false ≡ true = cc in (cc, cc)
    go false p q = (p, q)

-- ---- the head alone

-- what a read and a preparation test of the head is what a table of its own length would be given
pub head_alone : (h : Head) → head_fits h ≡ shape_fits h (3 * cells_of h)
unfolding shape_fits
head_alone h = rw (eq-eqb (3 * cells_of h) (3 * cells_of h) refl) (sym (and_true (head_fits h)))
  where
    and_true : (b : Bool) → (b && true) ≡ b
    and_true true = refl
    and_true false = refl

pub shape_head : (h : Head) (words : ℕ) → shape_fits h words ≡ true → head_fits h ≡ true
unfolding shape_fits
shape_head h words e = (both (head_fits h) (eqb words (3 * cells_of h)) e).0

pub book_fine : (n size : ℕ) → is_bad_book n size ≡ false → BookFine n size
unfolding is_bad_book
book_fine n size e =
    let a = neither (ltb size (front_of n)) (ltb 32768 size) e in
    record { room = ltb-false _ _ a.0; limit = ltb-false _ _ a.1 }

pub slot_fine : (n size slot : ℕ) → is_bad_slot n size slot ≡ false → SlotFine n size slot
unfolding is_bad_slot
slot_fine n size slot e =
    let a = neither (is_bad_book n size) (leb n slot) e in
    let b = book_fine n size a.0 in
    record { room = b.room; limit = b.limit; inside = leb-false _ _ a.1 }

-- and the other way
pub fine_slot : (n size slot : ℕ) → SlotFine n size slot → is_bad_slot n size slot ≡ false
unfolding is_bad_slot is_bad_book
fine_slot n size slot f = rw (le-ltb size (front_of n) f.room, le-ltb 32768 size f.limit, lt-leb n slot f.inside)

pub claim_fine : (h : Head) (t : List ℕ) (size slot : ℕ) (l : Lease) (s : Setpoint) → first_fault (claim_rules h t size slot l s) ≡ Ok tt → ClaimFine h t size slot l s
unfolding claim_rules is_holder
claim_fine h t size slot l s e =
    let a = no_fault _ _ e in
    let b = no_fault _ _ a.1 in
    let c = no_fault _ _ b.1 in
    let d = no_fault _ _ c.1 in
    let f = no_fault _ _ d.1 in
    let v = both (is_live h.next (cells_of h) t (hold_in l)) (eqb l.cell slot) (not-false _ d.0) in
    record { shape = not-false _ a.0; slot_is = slot_fine (slots_of h) size slot b.0; fresh = c.0; live = v.0; own = eqb-true _ _ v.1; whole = not-false _ f.0 }

pub fine_claim : (h : Head) (t : List ℕ) (size slot : ℕ) (l : Lease) (s : Setpoint) → ClaimFine h t size slot l s → first_fault (claim_rules h t size slot l s) ≡ Ok tt
unfolding claim_rules is_holder first_fault
fine_claim h t size slot l s c =
    rw (c.shape, fine_slot (slots_of h) size slot c.slot_is, c.fresh, c.live, eq-eqb l.cell slot c.own, c.whole)

pub open_fine : (h : Head) (b : List ℕ) (slot : ℕ) → first_fault (open_rules h b slot) ≡ Ok tt → OpenFine h b slot
unfolding open_rules
open_fine h b slot e =
    let a = no_fault _ _ e in
    let c = no_fault _ _ a.1 in
    let d = no_fault _ _ c.1 in
    record { head_fits_lem = not-false _ a.0; slot_is = slot_fine (slots_of h) (length b) slot c.0; sound = not-false _ d.0 }

pub fine_open : (h : Head) (b : List ℕ) (slot : ℕ) → OpenFine h b slot → first_fault (open_rules h b slot) ≡ Ok tt
unfolding open_rules first_fault
fine_open h b slot f = rw (f.head_fits_lem, fine_slot (slots_of h) (length b) slot f.slot_is, f.sound)
