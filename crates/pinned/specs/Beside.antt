-- Beside a build's calls: the crew's whole reply with its log, a lone foreign step with its event, and preparing. Ours is as `Statements` says, and nothing else is.
-- ---- the crew
use Rattle.std.specs.Prelude.{ℕ, ◌≡◌, refl, List, [], Bool, true, false, not, ◌≢◌, length, replicate}
use Rattle.std.proofs.Common.{sym, ap, ◌∙◌, append-nil, inl, inr}
use Rattle.std.proofs.Math.Path.{fun_ext}
use Rattle.model.specs.Arena.{head_of, spent_to, shape_fits, health_fits}
use Rattle.model.specs.Refusals.{first}
use Rattle.model.specs.Foreign.{step_of}
use Rattle.model.specs.Checks.{prepare_rules}
use Rattle.model.specs.Calls.{given, prepare_of}
use Rattle.model.specs.Crew.{Work, rests, adds, adds_of, crew_start, taken_of, released_of, turns_of, shift_of, crew_of, crew_at_work_of}
use Rattle.model.specs.Crew as model
use Rattle.types.specs.declared.Answer.TheVariants.{Done, Refused}
use Rattle.types.specs.declared.CrewReply.{CrewReply}
use Rattle.types.specs.declared.Head.{Head}
use Rattle.types.specs.declared.Refusal.TheVariants.{BadShape}
use Rattle.history.specs.World.{World, world_of}
use Rattle.history.specs.Items.{Stepper, rules, foreign, crew, crew_at_work}
use Rattle.history.specs.Judged.{clear_fine}
use Rattle.history.specs.Statements.{CrewBuild, CrewAtWorkBuild}
use Rattle.pinned.specs.Words.{Is, If◌Then◌Else◌, logged, head_of_lem, Shape}
use Rattle.pinned.specs.Checks.{checks}
use Rattle.pinned.specs.Steps.{Crew, gathered}
use Rattle.pinned.specs.Statements.{Crews, Works, replying, StepsAlone, Preparer, PreparesArena, prepared}
use Rattle.pinned.specs.Decided.{Decides}
use Rattle.pinned.specs.Same.{is_same, if_same, seen_same, step_same, turns_same}

-- ---- preparing

abbrev pub ours : Preparer
ours headers buckets serial boot t g = prepare_of headers buckets serial boot t g
