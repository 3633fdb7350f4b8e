-- The statements of `Statements`, each proved; the proofs are in the files behind.
use Rattle.swaps.specs.Statements.{SoundWhole, TwoReleases, TakeRelease, ReleaseTake, TakeWaiters, WaitersTake, ReleaseWaiters, WaitersRelease, TwoWaiters, TakeHealth, HealthTake, ReleaseHealth, HealthRelease, WaitersHealth, HealthWaiters, TwoHealths, TwoTakes, ExchangedWords, DifferentPlaces, OtherKinds, AnySteps, IdleTake, TwoEvents, TwoTakeEvents, LogsReordered, StepsShuffled, LoneSteps, HistoryShuffled, BoundaryRuns, CallsRescripted, LogsRecast, StepsRetaken, EnvironmentRetaken, LiveOlder, RenamedWords, IssuedStay}
use Rattle.swaps.specs.Fine.{sound_arena}
use Rattle.swaps.proofs.Pairs.{exchanged_cells, events_swap, take_events_swap}
use Rattle.swaps.proofs.Acts.{take_steps_swap, any_steps_swap, idle_take_swap}
use Rattle.swaps.proofs.Rows.{places_part, kinds_part, releases_swap, take_release_swap, release_take_swap, take_waiters_swap, waiters_take_swap, release_waiters_swap, waiters_release_swap, waiters_swap, take_health_swap, health_take_swap, release_health_swap, health_release_swap, waiters_health_swap, health_waiters_swap, healths_swap}
use Rattle.swaps.proofs.Lists.{logs_reorder, steps_shuffle, run_alone, history_shuffle}
use Rattle.swaps.proofs.Owners.{renamed_cells, issued_moves}
use Rattle.swaps.proofs.Recasts.{recast_logs}
use Rattle.swaps.proofs.Retakes.{steps_retake, live_before}
use Rattle.swaps.proofs.Rescripts.{calls_rescript}
use Rattle.swaps.proofs.Environments.{boundary_goes, environment_retake}

pub sound_whole : SoundWhole
sound_whole = sound_arena

-- ---- two foreign steps

pub two_releases : TwoReleases
two_releases = releases_swap

pub take_release : TakeRelease
take_release = take_release_swap

pub release_take : ReleaseTake
release_take = release_take_swap

pub take_waiters : TakeWaiters
take_waiters = take_waiters_swap

pub waiters_take : WaitersTake
waiters_take = waiters_take_swap

pub release_waiters : ReleaseWaiters
release_waiters = release_waiters_swap

pub waiters_release : WaitersRelease
waiters_release = waiters_release_swap

pub two_waiters : TwoWaiters
two_waiters = waiters_swap

pub take_health : TakeHealth
take_health = take_health_swap

pub health_take : HealthTake
health_take = health_take_swap

pub release_health : ReleaseHealth
release_health = release_health_swap

pub health_release : HealthRelease
health_release = health_release_swap

pub waiters_health : WaitersHealth
waiters_health = waiters_health_swap

pub health_waiters : HealthWaiters
health_waiters = health_waiters_swap

pub two_healths : TwoHealths
two_healths = healths_swap

pub two_takes : TwoTakes
two_takes = take_steps_swap

pub exchanged_words : ExchangedWords
exchanged_words = exchanged_cells

pub different_places : DifferentPlaces
different_places = places_part

pub other_kinds : OtherKinds
other_kinds = kinds_part

pub any_steps : AnySteps
any_steps = any_steps_swap

pub idle_take : IdleTake
idle_take = idle_take_swap

-- ---- two events

pub two_events : TwoEvents
two_events = events_swap

pub two_take_events : TwoTakeEvents
two_take_events = take_events_swap

-- ---- whole traces, no two takes exchanged

pub logs_reordered : LogsReordered
logs_reordered = logs_reorder

pub steps_shuffled : StepsShuffled
steps_shuffled = steps_shuffle

pub lone_steps : LoneSteps
lone_steps = run_alone

pub history_shuffled : HistoryShuffled
history_shuffled = history_shuffle

pub boundary_runs : BoundaryRuns
boundary_runs = boundary_goes

pub calls_rescripted : CallsRescripted
calls_rescripted = calls_rescript

-- ---- whole traces, takes exchanged too

pub logs_recast : LogsRecast
logs_recast = recast_logs

pub steps_retaken : StepsRetaken
steps_retaken = steps_retake

pub environment_retaken : EnvironmentRetaken
environment_retaken = environment_retake

pub live_older : LiveOlder
live_older = live_before

pub renamed_words : RenamedWords
renamed_words = renamed_cells

pub issued_stay : IssuedStay
issued_stay = issued_moves
