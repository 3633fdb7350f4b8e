-- Demand 2's own words (crate `history`, `World`) in the plain numbers of `Words`: a live lease, a whole arena, when an event is legal and what it makes of the
-- world. So the ledger of a history can be read without the definitions of crate `model`.
use Rattle.std.specs.Prelude.{ℕ, ◌≤◌, ◌<◌, ◌≡◌, refl, ◌↔◌, length}
use Rattle.std.proofs.Common.{ap, arith, eqb-true, eq-eqb}
use Rattle.model.specs.Log.{Event, attempt_begun, boundary_run, yielded, spun, step_dropped, took, released, waiters_set, health_set, held_all_lem, added}
use Rattle.model.specs.Arena.{hold_of, bit_at, owner_at, set_cell, set_waiters, state_at, health_fits}
use Rattle.types.specs.declared.State.{State}
use Rattle.types.specs.declared.State.TheVariants as state
use Rattle.history.specs.World.{World, Free, Live, Legal, after_event, Whole}
use Rattle.history.specs.Items.{Call, Clear, rules}
use Rattle.history.specs.Tests.{Stands, stands, is_free_lem, is_held_lem, is_damaged, state_free, free_words}
use Rattle.pinned.specs.Words.{Shape, IsFree, IsDamaged, IsLive, size, taken, freed, with_waiters, with_health}
use Rattle.pinned.specs.Checks.{checks}
use Rattle.pinned.specs.Statements.{Passes}

-- what every history has at every point: the arena's shape, and no damaged cell
pub record WholePlainly (w : World) : Type 0 where
  pub shape : Shape w.head (length w.table)
  pub bytes : length w.health ≡ w.head.headers
  pub undamaged : (c : ℕ) → c < size w → IsDamaged w c → ⊥

-- ---- events

abbrev pub MayHappen : World → Event → Type 0
MayHappen w attempt_begun = Unit {0}
MayHappen w boundary_run = Unit {0}
MayHappen w yielded = Unit {0}
MayHappen w spun = Unit {0}
MayHappen w step_dropped = Unit {0}
MayHappen w (took a c s) = ((c < size w) × IsFree w c) × ((s ≡ w.head.next) × (s < 4_294_967_295))
MayHappen w (released a c s) = IsLive w c s
MayHappen w (waiters_set c n) = c < size w
MayHappen w (health_set i n) = (i < w.head.headers) × (n ≤ 1)
MayHappen w (held_all_lem m) = Unit {0}
MayHappen w (added m c v) = Unit {0}

abbrev pub made_by : World → Event → World
made_by w attempt_begun = w
made_by w boundary_run = w
made_by w yielded = w
made_by w spun = w
made_by w step_dropped = w
made_by w (took a c s) = taken w c
made_by w (released a c s) = freed w c
made_by w (waiters_set c n) = with_waiters w c n
made_by w (health_set i n) = with_health w i n
made_by w (held_all_lem m) = w
made_by w (added m c v) = w
