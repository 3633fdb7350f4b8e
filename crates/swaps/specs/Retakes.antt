-- Lists of steps with takes exchanged too, any number of them: equal up to a renaming of the serials that the list issued.
use Rattle.std.specs.Prelude.{ℕ, ◌+◌, ◌≤◌, ◌<◌, ◌≡◌, Bool, true, false, ◌&&◌, ◌≢◌, ltb, leb, if◌then◌else◌}
use Rattle.std.proofs.Math.Path.{refl, sym, ap}
use Rattle.std.proofs.Common.{◌∙◌, subst, arith}
use mathlib.Core.List.{List, [], ◌∷◌}
use Rattle.std.proofs.Math.Decide.{ℕ_discrete, dec_lt}
use Rattle.std.proofs.Math.Dec.{eqb}
use borrow.Author.Tests.{eqb-true, eq-eqb, ltb-true}
use Rattle.choice.specs.Pick.{same_truth}
use Rattle.model.specs.Log.{Event, by_script, took, released}
use Rattle.model.specs.Arena.{hold_of, cells_of, bit_at, owner_at, is_free, is_live, is_in, same_hold, serial_remains}
use Rattle.types.specs.declared.Head.{Head}
use Rattle.types.specs.declared.Hold.{Hold}
use Rattle.history.specs.World.{World, cells, after_event}
use Rattle.history.specs.Tests.{alive, live}
use Rattle.swaps.specs.Steps.{Step, step_words, take_step, leaves, dropped, after_all, dropped_in}
use Rattle.swaps.specs.Renaming.{Serials, flip, renamed, renamed_step, renamed_steps, Retaken, same, neighbours, two_takes, idle_take, behind, onward, Older}
use Rattle.swaps.specs.Statements.{BothLegal, Swapped, StepsRetaken, LiveOlder}
use Rattle.swaps.specs.Fine.{Fine, fine}
use Rattle.swaps.specs.Acts.{Act, idle, never, takes, frees, waits, heals, legal, event, settle, missed, read}
use Rattle.swaps.specs.Owners.{Renamed}

abbrev pub renamed_act : (ℕ → ℕ) → Act → Act
renamed_act to idle = idle
renamed_act to never = never
renamed_act to (takes c) = takes c
renamed_act to (frees c s) = frees c (to s)
renamed_act to (waits c n) = waits c n
renamed_act to (heals i n) = heals i n

-- ---- one exchange, and what follows it

-- the statement with the worlds compared cell by cell
pub record RenamedSteps (ps : List Hold) (w : World) (ss ts : List Step) : Type 0 where
  pub to : ℕ → ℕ
  pub back : ℕ → ℕ
  pub serials : Serials w.head.next (after_all ps w ss).head.next to back
  pub world : Renamed to (after_all ps w ss) (after_all ps w ts)
  pub drops : dropped_in ps w ts ≡ dropped_in ps w ss
