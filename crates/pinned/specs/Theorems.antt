-- Ours does what `Statements` asks, and nothing else does: whatever meets it is ours, in what is seen and in its log, for every world and call. So what is
-- proved of ours holds of it.
-- ---- the calls
use Rattle.std.specs.Prelude.{ℕ, ◌≡◌, refl, List, ◌∷◌, ◌↔◌}
use Rattle.std.proofs.Common.{sym, ap, subst}
use Rattle.model.specs.Log.{Made, Event}
use Rattle.model.specs.Arena.{hold_of}
use Rattle.model.specs.Refusals.{number_of, carried_of}
use Rattle.model.specs.Calls.{prepare_of}
use Rattle.model.specs.Crew.{crew_of, crew_at_work_of}
use Rattle.model.specs.Salvage.{salvage_of}
use Rattle.types.specs.declared.Head.{Head}
use Rattle.types.specs.declared.Refusal.{Refusal}
use Rattle.types.specs.declared.Refusal.TheVariants.{BadShape, BadScript, BadHeld, TooMany, BadBinding, BadHeader, Poisoned, InvalidBucket, Damaged, SerialsSpent, SerializationFailure, NotHeld, Protected, Repeated, BadCrew, StaleBoot}
use Rattle.history.specs.World.{World, Live, Legal, after_event, Whole}
use Rattle.history.specs.Items.{Build, Stepper, Says, Call, perform, foreign, Clear, rules, Item, Course, cold, run}
use Rattle.history.specs.Statements.{CrewBuild, CrewAtWorkBuild, Begins, Ledger}
use Rattle.history.proofs.Theorems.{demand_2}
use Rattle.pinned.specs.Words.{logged, IsLive}
use Rattle.pinned.specs.Checks.{number_and_carried}
use Rattle.pinned.specs.Statements.{Passes, Meets, Crews, Works, StepsAlone, Preparer, PreparesArena, Salvager, SalvagesArena}
use Rattle.pinned.specs.Exactly as exactly

-- ---- of a function that has no log, as code has none: some log makes it meet. What is seen is then what ours sees

abbrev pub SeesSo : (World → Call → World × Says) → Type 0
SeesSo f = (log : World → Call → List Event) × Meets (λ w k. logged (f w k) (log w k))
