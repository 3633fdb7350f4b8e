-- Renamings of serials, and two worlds that differ by one: one event in both.
-- ---- renamings
use Rattle.std.specs.Prelude.{ℕ, zero, suc, ◌+◌, ◌*◌, ◌≤◌, ◌<◌, ◌≡◌, refl, List, [], ◌∷◌, ◌≢◌, length, set, get_or}
use Rattle.std.proofs.Common.{sym, ap, ◌∙◌, subst, arith, eq-eqb, ne_eqb}
use Rattle.std.proofs.Math.Decide.{ℕ_discrete, dec_lt}
use Rattle.model.specs.Log.{Actor, Event, attempt_begun, boundary_run, yielded, spun, step_dropped, took, released, waiters_set, health_set, held_all_lem, added}
use Rattle.model.specs.Arena.{spent_to, cells_of, hold_of, bit_at, owner_at, waiters_at, set_cell, set_waiters, state_at}
use Rattle.types.specs.declared.Head.{Head}
use Rattle.laws.specs.Words.{length_set_cell, length_set_waiters, waiters_set_cell, bit_set_waiters, owner_set_waiters, waiters_set_same, waiters_set_other, Seen, here, there, see}
use Rattle.history.specs.World.{World, world_of, cells, Legal, after_event, now, Lawful}
use Rattle.history.specs.Tests.{Status, free, held, free_words, state_free, alive, live}
use Rattle.history.specs.Events.{next_after}
use Rattle.swaps.specs.Steps.{on_table}
use Rattle.swaps.specs.Logs.{Both}
use Rattle.swaps.specs.Renaming.{Serials, flip, renamed_owners, renamed, renamed_all}
use Rattle.swaps.specs.Statements.{Renames, RenamedWords, IssuedStay}
use Rattle.swaps.specs.Fine.{Fine, fine_on, at}

-- ---- two worlds that differ by a renaming of the owners, cell by cell

pub record Renamed (to : ℕ → ℕ) (w v : World) : Type 0 where
  pub head : v.head ≡ w.head
  pub health : v.health ≡ w.health
  pub words : length v.table ≡ length w.table
  pub bits : (c : ℕ) → c < cells w → bit_at v.table c ≡ bit_at w.table c
  pub owners : (c : ℕ) → c < cells w → owner_at v.table c ≡ to (owner_at w.table c)
  pub waiters : (c : ℕ) → c < cells w → waiters_at v.table c ≡ waiters_at w.table c

abbrev pub Follows : (ℕ → ℕ) → World → World → Event → Type 0
Follows to w v e = Legal v (renamed to e) × Renamed to (after_event w e) (after_event v (renamed to e))

-- ---- two takes exchanged, and what follows them renamed

pub data SeenTwo (t : List ℕ) (c o d o' x : ℕ) : Type 0 where
  at_first : x ≡ c → bit_at (set_cell (set_cell t c 1 o) d 1 o') x ≡ 1 → owner_at (set_cell (set_cell t c 1 o) d 1 o') x ≡ o → SeenTwo t c o d o' x
  at_second : x ≡ d → bit_at (set_cell (set_cell t c 1 o) d 1 o') x ≡ 1 → owner_at (set_cell (set_cell t c 1 o) d 1 o') x ≡ o' → SeenTwo t c o d o' x
  elsewhere : x ≢ c → x ≢ d → bit_at (set_cell (set_cell t c 1 o) d 1 o') x ≡ bit_at t x → owner_at (set_cell (set_cell t c 1 o) d 1 o') x ≡ owner_at t x
      → SeenTwo t c o d o' x
