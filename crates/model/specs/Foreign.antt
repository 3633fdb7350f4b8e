-- Document 01, "Foreign steps".
use Rattle.std.specs.Prelude.{ℕ, zero, suc, ◌+◌, ◌*◌, ◌-◌, ◌/◌, List, ◌++◌, not, ◌&&◌, ltb, leb, eqb, length, get_or, set, if◌then◌else◌}
use Rattle.model.specs.Log.{Made, by_script, boundary_run, step_dropped, took, released, waiters_set, health_set, gives, note, ◌>>=◌, ◌>>◌}
use Rattle.model.specs.Arena.{serial_remains, bit_at, owner_at, set_cell, set_waiters, is_free, is_live, is_in, hold_of}
use Rattle.types.specs.declared.Flow.{Flow}
use Rattle.types.specs.declared.Hold.{Hold}
use Rattle.types.specs.declared.Stepped.{Stepped}

-- what the steps of a call are given and never change
pub record Setting : Type 0 where
  pub headers : ℕ
  pub cells : ℕ
  pub script : List ℕ
  -- "Protected: the caller's held leases, those this call has taken, in `release_all` those it was given, and never those it has given up."
  pub protected : List Hold

abbrev pub setting : ℕ → ℕ → List ℕ → List Hold → Setting
setting h c s ps = record { headers = h; cells = c; script = s; protected = ps }

-- the same, and these leases protected too
abbrev pub protecting : Setting → List Hold → Setting
protecting e ls = setting e.headers e.cells e.script (e.protected ++ ls)

-- ---- the script: "three words a step (kind, place, number)", "with a place counted in steps"

abbrev pub steps_in : List ℕ → ℕ
steps_in script = length script / 3

abbrev pub kind_at : List ℕ → ℕ → ℕ
kind_at script p = get_or script (3 * p) 0

abbrev pub place_at : List ℕ → ℕ → ℕ
place_at script p = get_or script (3 * p + 1) 0

abbrev pub number_at : List ℕ → ℕ → ℕ
number_at script p = get_or script (3 * p + 2) 0

-- ---- one step

abbrev pub stepped : ℕ → ℕ → Stepped
stepped next dropped = record { next = next; dropped = dropped }

-- "Place out of range, another kind, or not legal: dropped, counted, nothing else changes."
abbrev pub drops : {A : Type 0} → ℕ → A → Made (Stepped × A)
drops next a = do
  note step_dropped
  gives (stepped next 1, a)

-- "1 take cell (number not read): legal if the cell is in range and free and a serial remains; it spends one."
unfoldable pub step_take_of : ℕ → ℕ → List ℕ → ℕ → Made (Stepped × List ℕ)
step_take_of cells next t c =
    if ltb c cells && is_free (bit_at t c) (owner_at t c) && serial_remains next then (do
      note (took by_script c next)
      gives (stepped (next + 1) 0, set_cell t c 1 next))
    else drops next t

-- "2 release (cell, serial): legal if that lease is live and not protected." Document 02, L8: "Script steps mean the head's own boot number.": a step
-- has no word for another
unfoldable pub step_release_of : ℕ → List Hold → ℕ → List ℕ → ℕ → ℕ → Made (Stepped × List ℕ)
step_release_of cells protected next t c s =
    if is_live next cells t (hold_of c s) && not (is_in (hold_of c s) protected) then (do
      note (released by_script c s)
      gives (stepped next 0, set_cell t c 0 0))
    else drops next t

-- "3 set a cell's waiters to the number."
unfoldable pub step_waiters_of : ℕ → ℕ → List ℕ → ℕ → ℕ → Made (Stepped × List ℕ)
step_waiters_of cells next t c n =
    if ltb c cells then (do
      note (waiters_set c n)
      gives (stepped next 0, set_waiters t c n))
    else drops next t

-- "4 set a header's health, number 0 or 1."
unfoldable pub step_health_of : ℕ → ℕ → List ℕ → ℕ → ℕ → Made (Stepped × List ℕ)
step_health_of headers next g i n =
    if ltb i headers && leb n 1 then (do
      note (health_set i n)
      gives (stepped next 0, set g i n))
    else drops next g

-- by kind; "0 observe", "5 end of boundary (0 and 5 read neither place nor number)"
unfoldable pub step_of : Setting → ℕ → List ℕ → List ℕ → ℕ → ℕ → ℕ → Made (Stepped × (List ℕ × List ℕ))
step_of e next t g kind place number =
    if eqb kind 0 then gives (stepped next 0, (t, g))
    else if eqb kind 1 then (do
      (s, u) ← step_take_of e.cells next t place
      gives (s, (u, g)))
    else if eqb kind 2 then (do
      (s, u) ← step_release_of e.cells e.protected next t place number
      gives (s, (u, g)))
    else if eqb kind 3 then (do
      (s, u) ← step_waiters_of e.cells next t place number
      gives (s, (u, g)))
    else if eqb kind 4 then (do
      (s, w) ← step_health_of e.headers next g place number
      gives (s, (t, w)))
    else if eqb kind 5 then gives (stepped next 0, (t, g))
    else drops next (t, g)

-- ---- a boundary

abbrev pub flow_of : ℕ → ℕ → ℕ → Flow
flow_of next place dropped = record { next = next; place = place; dropped = dropped }

-- "A boundary runs steps up to and including the next 5, or to the script's end": `left` steps are left of the script
unfoldable pub run_steps_of : ℕ → Setting → Flow → List ℕ → List ℕ → Made (Flow × (List ℕ × List ℕ))
run_steps_of zero e f t g = gives (f, (t, g))
run_steps_of (suc left) e f t g =
    if eqb (kind_at e.script f.place) 5 then gives (flow_of f.next (f.place + 1) f.dropped, (t, g))
    else do
      (s, (u, w)) ← step_of e f.next t g (kind_at e.script f.place) (place_at e.script f.place) (number_at e.script f.place)
      run_steps_of left e (flow_of s.next (f.place + 1) (f.dropped + s.dropped)) u w

-- one boundary; "past the end it is quiet"
unfoldable pub boundary_of : Setting → Flow → List ℕ → List ℕ → Made (Flow × (List ℕ × List ℕ))
boundary_of e f t g = do
  note boundary_run
  run_steps_of (steps_in e.script - f.place) e f t g
