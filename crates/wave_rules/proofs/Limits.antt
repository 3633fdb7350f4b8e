-- Laws about the writer's limits: what it means that no refusal applies, for code and theory alike.
use Rattle.std.specs.Prelude.{ℕ, ◌/◌, ◌%◌, ◌≤◌, ◌≡◌, refl, ◌≢◌, List, Bool, true, false, not, ◌||◌, eqb, ltb, length}
use Rattle.std.proofs.Common.{sym, arith, eqb-true, eq-eqb, ne_eqb, le-ltb, ltb-false}
use Rattle.std.proofs.lemmas.Bool.{eqb-false}
use Rattle.choice.specs.Pick.{neither}
use Rattle.wave_rules.specs.Calls.{bad_history, too_wide}
use Rattle.wave_rules.specs.Dump.{Dumpable}
use Rattle.wave_rules.proofs.Stages.{false_not}

-- a history of whole steps, not too many
pub history_fits : (script : List ℕ) → bad_history script ≡ false → (length script % 3 ≡ 0) × (length script ≤ 98304)
unfolding bad_history
history_fits script e =
    let p = neither (not (eqb (length script % 3) 0) || ltb 32768 (length script / 3)) (ltb (length script / 3) 0) e in
    let q = neither (not (eqb (length script % 3) 0)) (ltb 32768 (length script / 3)) p.0 in
    let w = whole (eqb (length script % 3) 0) refl q.0 in
    (w, omega (arith, w, ltb-false 32768 (length script / 3) q.1))
  where
    whole : (b : Bool) → eqb (length script % 3) 0 ≡ b → not b ≡ false → length script % 3 ≡ 0
    whole true p q = eqb-true (length script % 3) 0 p
    whole false p q = false_not (sym q)

-- at least one cell, and at most 94
pub cells_fit : (n : ℕ) → too_wide n ≡ false → (1 ≤ n) × (n ≤ 94)
unfolding too_wide
cells_fit n e =
    let p = neither (eqb n 0) (ltb 94 n) e in
    (omega (arith, eqb-false n 0 p.0), omega (arith, ltb-false 94 n p.1))

-- and the other way
pub history_good : (script : List ℕ) → length script % 3 ≡ 0 → length script ≤ 98304 → bad_history script ≡ false
unfolding bad_history
history_good script w s =
    let few : length script / 3 ≤ 32768 = omega arith in
    let none : 0 ≤ length script / 3 = omega arith in
    rw (eq-eqb _ _ w, le-ltb _ _ few, le-ltb _ _ none)

pub cells_good : (n : ℕ) → 1 ≤ n → n ≤ 94 → too_wide n ≡ false
unfolding too_wide
cells_good n a b = let some : n ≢ 0 = omega arith in rw (ne_eqb _ _ some, le-ltb _ _ b)

-- what the writer writes is what has a dump
pub fits_dumpable : (n : ℕ) (script : List ℕ) → bad_history script ≡ false → too_wide n ≡ false → Dumpable n script
fits_dumpable n script e f =
    let h = history_fits script e in
    let c = cells_fit n f in
    record { some = c.0; few = c.1; whole = h.0; short = h.1 }
