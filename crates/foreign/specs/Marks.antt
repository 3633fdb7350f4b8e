-- Marks on a list of leases: for each remainder of the cell number by 256, from where on the list can name such a cell.
-- They spare the scan of a list for a lease whose cell no listed lease names; a scan starts at the first that can match.
use Rattle.std.specs.Prelude.{ℕ, zero, suc, ◌+◌, ◌*◌, ◌-◌, ◌/◌, ◌%◌, ◌≤◌, ◌<◌, ◌≡◌, refl, List, Bool, true, false, ◌≢◌, ltb, length, get_or, set, drop, replicate, if◌then◌else◌}
use Rattle.std.proofs.Common.{sym, ap, ◌∙◌, arith, get_or-set_same, get_or-set_other, ne_eqb, ltb-false}
use Rattle.std.proofs.Math.Decide.{ℕ_discrete, dec_lt}
use Rattle.std.proofs.lemmas.List.{get_or-replicate}
use Rattle.model.specs.Arena.{hold_of, holds_of, same_hold, is_in}
use Rattle.types.specs.declared.Hold.{Hold}
use Rattle.laws.specs.Checks.{is_in_at, is_in_end}

-- the cell at a position of a list, and its remainder
abbrev pub cell_at : List ℕ → ℕ → ℕ
cell_at list i = get_or list (3 * i) 0

abbrev pub mark_of : List ℕ → ℕ → ℕ
mark_of marks c = get_or marks (c % 256) 0

-- marks from position k on, as they are noted from the end of the list: each fits a byte; that of a listed cell is not 0,
-- and at most one more than the position
pub record Noted (marks list : List ℕ) (k : ℕ) : Type 0 where
  pub low : (c : ℕ) → mark_of marks c < 256
  pub from : (i : ℕ) → k ≤ i → 3 * i + 2 < length list → (0 < mark_of marks (cell_at list i)) × (mark_of marks (cell_at list i) ≤ i + 1)

-- marks of a whole list: 0 only where no listed lease has that remainder, else one more than a position before which none has it
abbrev pub Marked : List ℕ → List ℕ → Type 0
Marked marks list = Noted marks list 0

-- one more is noted, before those that stand
module _ (marks list : List ℕ) (k : ℕ) (size : length marks ≡ 256) (fits : k + 1 < 256) (n : Noted marks list (k + 1)) where
  abbrev more : List ℕ
  more = set marks (cell_at list k % 256) (k + 1)

  here : mark_of more (cell_at list k) ≡ k + 1
  here = get_or-set_same marks (cell_at list k % 256) (k + 1) 0 (omega (arith, size))

  other : (c : ℕ) → c % 256 ≢ cell_at list k % 256 → mark_of more c ≡ mark_of marks c
  other c e = get_or-set_other marks (cell_at list k % 256) (c % 256) (k + 1) 0 e

  more_low : (c : ℕ) → mark_of more c < 256
  more_low c = go (ℕ_discrete (c % 256) (cell_at list k % 256))
    where
      go : Dec (c % 256 ≡ cell_at list k % 256) → mark_of more c < 256
      go (yes e) = rw e (omega (arith, here))
      go (no e) = omega (arith, other c e, n.low c)

  more_from : (i : ℕ) → k ≤ i → 3 * i + 2 < length list → (0 < mark_of more (cell_at list i)) × (mark_of more (cell_at list i) ≤ i + 1)
  more_from i l b = go (ℕ_discrete (cell_at list i % 256) (cell_at list k % 256))
    where
      go : Dec (cell_at list i % 256 ≡ cell_at list k % 256) → (0 < mark_of more (cell_at list i)) × (mark_of more (cell_at list i) ≤ i + 1)
      go (yes e) = rw e (omega (arith, here), omega (arith, here))
      go (no e) = rw (other (cell_at list i) e) (n.from i (later (ℕ_discrete i k)) b)
        where
          later : Dec (i ≡ k) → k + 1 ≤ i
          later (yes z) = absurd (e (ap (λ j. cell_at list j % 256) z))
          later (no z) = omega arith

  pub note_one : Noted more list k
  note_one = record { low = more_low; from = more_from }

-- no marks yet, and none asked for
pub none_noted : (list : List ℕ) (k : ℕ) → length list ≤ 3 * k + 2 → Noted (replicate 256 0) list k
none_noted list k l =
    record { low = λ c. let e : mark_of (replicate 256 0) c ≡ 0 = get_or-replicate 256 (c % 256) 0 0 (omega arith) in omega (arith, e); from = λ i h b. absurd (omega arith) }

-- ---- how a list of n leases is marked: past a byte's numbers as a whole

unfoldable pub filling_of : ℕ → ℕ
filling_of n = if ltb 255 n then 1 else 0

unfoldable pub noting_of : ℕ → ℕ
noting_of n = if ltb 255 n then 0 else n

-- ---- a scan may start where the first of its cell can stand

not_same : (c s : ℕ) (l : Hold) → c ≢ l.cell → same_hold (hold_of c s) l ≡ false
unfolding same_hold
not_same c s l n = rw (ne_eqb c l.cell n)

one_less : (l : Hold) (list : List ℕ) (k : ℕ) → (3 * k + 2 < length list → cell_at list k ≢ l.cell)
    → is_in l (holds_of (drop (3 * k) list)) ≡ is_in l (holds_of (drop (3 * (k + 1)) list))
one_less l list k h = go (dec_lt (3 * k + 2) (length list))
  where
    go : Dec (3 * k + 2 < length list) → is_in l (holds_of (drop (3 * k) list)) ≡ is_in l (holds_of (drop (3 * (k + 1)) list))
    go (yes b) = is_in_at l list k b ∙ rw (not_same (cell_at list k) (get_or list (3 * k + 1) 0) l (h b))
    go (no b) = is_in_end l list k (omega arith) ∙ sym (is_in_end l list (k + 1) (omega arith))

skip : (l : Hold) (list : List ℕ) (k : ℕ) → ((i : ℕ) → i < k → 3 * i + 2 < length list → cell_at list i ≢ l.cell)
    → is_in l (holds_of list) ≡ is_in l (holds_of (drop (3 * k) list))
skip l list zero h = refl
skip l list (suc k) h =
    let e : suc k ≡ k + 1 = omega arith in
    skip l list k (λ i b. h i (omega arith)) ∙ rw e (one_less l list k (h k (omega arith)))

-- no mark: no listed lease has that cell
pub unmarked : (marks list : List ℕ) (l : Hold) → Marked marks list → mark_of marks l.cell ≡ 0 → is_in l (holds_of list) ≡ false
unmarked marks list l m e =
    skip l list (length list / 3 + 1) (λ i b c q. absurd (omega (arith, (m.from i (omega arith) c).0, ap (mark_of marks) q, e))) ∙ is_in_end l list (length list / 3 + 1) (omega arith)

-- a mark: the list may be read from there on
pub marked : (marks list : List ℕ) (l : Hold) → Marked marks list → is_in l (holds_of list) ≡ is_in l (holds_of (drop (3 * (mark_of marks l.cell - 1)) list))
marked marks list l m = skip l list (mark_of marks l.cell - 1) (λ i b c q. absurd (omega (arith, (m.from i (omega arith) c).1, ap (mark_of marks) q)))

-- all marks at the front say nothing, and are right of every list
pub front : (list : List ℕ) → Marked (replicate 256 1) list
front list = record { low = λ c. omega (arith, one c); from = λ i l b. (omega (arith, one (cell_at list i)), omega (arith, one (cell_at list i))) }
  where
    one : (c : ℕ) → mark_of (replicate 256 1) c ≡ 1
    one c = get_or-replicate 256 (c % 256) 1 0 (omega arith)

-- the marks of a list before any is noted, and how many are to be: a byte holds each
pub marks_start : (list : List ℕ) → Noted (replicate 256 (filling_of (length list / 3))) list (noting_of (length list / 3)) × (noting_of (length list / 3) ≤ 255)
unfolding filling_of noting_of
marks_start list = go (ltb 255 (length list / 3)) refl
  where
    go : (b : Bool) → ltb 255 (length list / 3) ≡ b
        → Noted (replicate 256 (if b then 1 else 0)) list (if b then 0 else length list / 3) × ((if b then 0 else length list / 3) ≤ 255)
    go true e = (front list, omega arith)
    go false e = (none_noted list (length list / 3) (omega arith), ltb-false _ _ e)

pub noting_few : (list : List ℕ) → 3 * noting_of (length list / 3) ≤ length list
unfolding noting_of
noting_few list = go (ltb 255 (length list / 3))
  where
    go : (b : Bool) → 3 * (if b then 0 else length list / 3) ≤ length list
    go true = omega arith
    go false = omega arith
