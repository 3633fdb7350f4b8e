-- Ours does what `Statements` asks, and nothing else does: whatever meets it is ours, in what is seen and in its log, for every world and call. So what is
-- proved of ours holds of it.
-- ---- the calls
use Rattle.std.specs.Prelude.{ℕ, ◌≡◌, refl, List, ◌∷◌, ◌↔◌}
use Rattle.std.proofs.Common.{sym, ap, subst}
use Rattle.model.specs.Log.{Made, Event}
use Rattle.model.specs.Arena.{hold_of}
use Rattle.model.specs.Refusals.{number_of, carried_of}
use Rattle.model.specs.Calls.{prepare_of}
use Rattle.model.specs.Crew.{crew_of, crew_at_work_of}
use Rattle.model.specs.Salvage.{salvage_of}
use Rattle.types.specs.declared.Head.{Head}
use Rattle.types.specs.declared.Refusal.{Refusal}
use Rattle.types.specs.declared.Refusal.TheVariants.{BadShape, BadScript, BadHeld, TooMany, BadBinding, BadHeader, Poisoned, InvalidBucket, Damaged, SerialsSpent, SerializationFailure, NotHeld, Protected, Repeated, BadCrew, StaleBoot}
use Rattle.history.specs.World.{World, Live, Legal, after_event, Whole}
use Rattle.history.specs.Items.{Build, Stepper, Says, Call, perform, foreign, Clear, rules, Item, Course, cold, run}
use Rattle.history.specs.Statements.{CrewBuild, CrewAtWorkBuild, Begins, Ledger}
use Rattle.history.proofs.Theorems.{demand_2}
use Rattle.pinned.specs.Words.{logged, IsLive}
use Rattle.pinned.specs.Checks.{number_and_carried}
use Rattle.pinned.specs.Statements.{Passes, Meets, Crews, Works, StepsAlone, Preparer, PreparesArena, Salvager, SalvagesArena}
use Rattle.pinned.proofs.AllMet as met
use Rattle.pinned.proofs.Beside as beside
use Rattle.pinned.proofs.Salvaged as salvaged
use Rattle.pinned.proofs.AsCalls as as_calls
use Rattle.pinned.specs.Exactly as exactly
use Rattle.pinned.proofs.Histories as histories
use Rattle.pinned.proofs.Read as reading
use Rattle.pinned.specs.Read as reading_said
use Rattle.pinned.specs.Theorems.{SeesSo}

pub meets : Meets perform
meets = met.meets

-- two builds that meet it answer the same, leave the same world and have the same log
pub one_build : (a b : Build) → Meets a → Meets b → (w : World) (k : Call) → a w k ≡ b w k
one_build = met.one_build

pub no_other_build : (b : Build) → Meets b → (w : World) (k : Call) → b w k ≡ perform w k
no_other_build = met.no_other_build

-- so it is the same function
pub exactly_ours : (b : Build) → Meets b ↔ (b ≡ perform)
exactly_ours b = (met.is_ours b, λ e. subst Meets (sym e) meets)

-- and what is proved of ours is so of it
pub so_of_any : (P : Build → Type 0) → P perform → (b : Build) → Meets b → P b
so_of_any P p b m = subst P (sym (met.is_ours b m)) p

-- "one compare-and-set takes a cell exactly if it is free and a serial remains"
pub takes_exactly : (b : Build) → Meets b → exactly.TakesExactly b
takes_exactly = exactly.takes_exactly

pub sees_so : SeesSo (λ w k. (perform w k).seen)
sees_so = ((λ w k. (perform w k).log), meets)

pub no_other_seen : (f : World → Call → World × Says) → SeesSo f → (w : World) (k : Call) → f w k ≡ (perform w k).seen
no_other_seen f s w k = ap (λ (x : Made (World × Says)). x.seen) (no_other_build (λ v c. logged (f v c) (s.0 v c)) s.1 w k)

-- ---- the table of refusals

pub numbers_carried : (r : Refusal) → (number_of r, carried_of r) ≡ number_and_carried r
numbers_carried BadShape = refl
numbers_carried BadScript = refl
numbers_carried (BadHeld k) = refl
numbers_carried TooMany = refl
numbers_carried (BadBinding k) = refl
numbers_carried (BadHeader k) = refl
numbers_carried (Poisoned k) = refl
numbers_carried (InvalidBucket k) = refl
numbers_carried (Damaged k) = refl
numbers_carried (SerialsSpent k) = refl
numbers_carried (SerializationFailure why) = refl
numbers_carried (NotHeld k) = refl
numbers_carried Protected = refl
numbers_carried (Repeated k) = refl
numbers_carried (BadCrew k) = refl
numbers_carried (StaleBoot k) = refl

-- ---- beside the calls: a crew's whole replies, a lone foreign step, preparing, salvage

pub crews : Crews crew_of
crews = beside.crews

pub no_other_crew : (f : CrewBuild) → Crews f → (h : Head) (t g counts cells turns : List ℕ) → f h t g counts cells turns ≡ crew_of h t g counts cells turns
no_other_crew = beside.no_other_crew

-- what is proved of ours, demand 3 among it, is so of any crew that is so
pub so_of_any_crew : (P : CrewBuild → Type 0) → P crew_of → (f : CrewBuild) → Crews f → P f
so_of_any_crew P p f c = subst P (sym (beside.crew_is_ours f c)) p

pub works : Works crew_at_work_of
works = beside.works

pub no_other_work : (f : CrewAtWorkBuild) → Works f → (h : Head) (t g counts cells turns counters : List ℕ)
    → f h t g counts cells turns counters ≡ crew_at_work_of h t g counts cells turns counters
no_other_work = beside.no_other_work

pub so_of_any_work : (P : CrewAtWorkBuild → Type 0) → P crew_at_work_of → (f : CrewAtWorkBuild) → Works f → P f
so_of_any_work P p f c = subst P (sym (beside.work_is_ours f c)) p

pub steps_alone : StepsAlone foreign
steps_alone = beside.steps_alone

pub no_other_step : (f : Stepper) → StepsAlone f → (w : World) (kind place number : ℕ) → f w kind place number ≡ foreign w kind place number
no_other_step = beside.no_other_step

pub prepares : PreparesArena prepare_of
prepares = beside.prepares

pub no_other_preparer : (f : Preparer) → PreparesArena f → (headers buckets serial boot : ℕ) (t g : List ℕ) → f headers buckets serial boot t g ≡ prepare_of headers buckets serial boot t g
no_other_preparer = beside.no_other_preparer

pub salvages : SalvagesArena salvage_of
salvages = salvaged.salvages

pub no_other_salvage : (f : Salvager) → SalvagesArena f → (h : Head) (t g report list : List ℕ) → f h t g report list ≡ salvage_of h t g report list
no_other_salvage = salvaged.no_other_salvage

-- ---- `try_lock` once more, as calls of the same build; and histories, item by item

pub try_lock_as_calls : (b : Build) → Meets b → as_calls.TryLockAsCalls b
try_lock_as_calls = so_of_any as_calls.TryLockAsCalls as_calls.try_lock_as_calls

pub same_history : (b : Build) (f : Stepper) (p : Preparer) (s : Salvager) → Meets b → StepsAlone f → PreparesArena p → SalvagesArena s
    → (k : Course) (is : List Item) → histories.run_by b f p s k is ≡ run k is
same_history = histories.same_history

-- so demand 2 holds of it
pub demand_2_of_any : (b : Build) (f : Stepper) (p : Preparer) (s : Salvager) → Meets b → StepsAlone f → PreparesArena p → SalvagesArena s
    → (rubbish : World) (start : Item) (items : List Item) → Begins rubbish start → Ledger (histories.run_by b f p s (cold rubbish) (start ∷ items))
demand_2_of_any b f p s m t q r rubbish start items i = subst Ledger (sym (same_history b f p s m t q r (cold rubbish) (start ∷ items))) (demand_2 rubbish start items i)

-- ---- the words of older theorems in plain numbers: a call that passes its checks, and demand 2's own

pub passes_is : (w : World) (k : Call) → Clear (rules w k) ↔ Passes w k
passes_is = reading.passes_is

pub live_is : (w : World) (c s : ℕ) → Live w (hold_of c s) ↔ IsLive w c s
live_is = reading.live_is

pub whole_is : (w : World) → Whole w ↔ reading_said.WholePlainly w
whole_is = reading.whole_is

pub legal_is : (w : World) (e : Event) → Legal w e ↔ reading_said.MayHappen w e
legal_is = reading.legal_is

pub leads_to : (w : World) (e : Event) → reading_said.MayHappen w e → after_event w e ≡ reading_said.made_by w e
leads_to = reading.leads_to
