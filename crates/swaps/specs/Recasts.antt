-- Logs with takes exchanged too: equal up to a renaming of the serials that the log issued.
use Rattle.std.specs.Prelude.{ℕ, ◌+◌, ◌≡◌, refl, List, [], ◌∷◌}
use Rattle.std.proofs.Common.{sym, ap, ◌∙◌, subst, arith}
use Rattle.model.specs.Log.{Event, attempt_begun, boundary_run, yielded, spun, step_dropped, took, released, waiters_set, health_set, held_all_lem, added}
use Rattle.types.specs.declared.Head.{Head}
use Rattle.history.specs.World.{World, after_event, now, Lawful, Kind, number_of_lem}
use Rattle.swaps.specs.Logs.{Both}
use Rattle.swaps.specs.Renaming.{Serials, flip, renamed, renamed_all, Recast, same, neighbours, two_takes, behind, onward}
use Rattle.swaps.specs.Statements.{LogsRecast}
use Rattle.swaps.specs.Fine.{Fine, fine, fine_on}
use Rattle.swaps.specs.Owners.{Renamed}

-- the statement with the worlds compared cell by cell
pub record RenamedLogs (w : World) (es fs : List Event) : Type 0 where
  pub lawful : Lawful w fs
  pub to : ℕ → ℕ
  pub back : ℕ → ℕ
  pub serials : Serials w.head.next (now w es).head.next to back
  pub world : Renamed to (now w es) (now w fs)
  pub numbers : (k : Kind) → number_of_lem k fs ≡ number_of_lem k es
