-- The laws of one event over a whole log, and over a part of it; and `Kept`, what every step of a call keeps.
-- ---- logs one behind the other
use Rattle.std.specs.Prelude.{ℕ, ◌+◌, ◌*◌, ◌≤◌, ◌<◌, ◌≡◌, refl, List, [], ◌∷◌, ◌++◌}
use Rattle.std.proofs.Common.{sym, ap, ◌∙◌, subst, append-nil, arith}
use Rattle.model.specs.Log.{Event}
use Rattle.model.specs.Arena.{spent_to}
use Rattle.types.specs.declared.Head.{Head}
use Rattle.types.specs.declared.Hold.{Hold}
use Rattle.history.specs.World.{World, cells, Live, Apart, Legal, after_event, now, Lawful, bits, takes, releases, number_of_lem, Releases, Unreleased, Spent}
use Rattle.history.specs.Events.{Good, good_after, apart_after, Fit, fit_after, same_arena, keep_after, live_before, next_after, spent_after, bits_after_lem}

-- ---- what every step of a call keeps: its log is lawful and leads from the world w to the world v; a lease that is live in w and that P
-- protects is not released

pub record Kept (w : World) (P : Hold → Type 0) (v : World) (log : List Event) : Type 0 where
  pub lawful : Lawful w log
  pub leads : v ≡ now w log
  pub spares : (l : Hold) → P l → Live w l → Unreleased l log
