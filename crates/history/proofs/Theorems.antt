-- The statements of `Statements`, `Answers` and `Callers`, each proved; the proofs are in the files behind.
use Rattle.model.specs.Crew.{crew_of, crew_at_work_of}
use Rattle.history.specs.Items.{perform, foreign}
use Rattle.history.specs.Statements.{Demand2, SoundIfApart, PreparedFresh, PreparedSound, PreparedCounted, PreparedBegins, Forgets, RefusedStays, SalvageRefusedStays, LawfulAlways, CountsAre, ChangesNothing, CrewRefused, GrantIs, BufferIs, GivenLive, NothingKept, NothingNew, FallingAll, RollbackIs, Named, NamedAlone, HeldLive, CrewAtWorkRefused, BootStays, BootStaysAlone, RefusedUnowned, RefusedStale, NamesPlaced, StaleIs16}
use Rattle.history.specs.Answers.{HandedOver, GrantedHealthy, LocksHealthy, PoisonedHoldsNothing, SerialsRise, NotOverLive, BusyOrRefused, LocksRefused, NeverTwice, OnceEach, TwoWriters, NoneTakes, AloneUntilReleased, TakesParted}
use Rattle.history.specs.Reasons.{ReasonsAre, EarlyTakesNothing, HolderLives, LateIsSpent, OwnSerial}
use Rattle.history.specs.Callers.{TakesAlike, TakeIsCall, ReleasesAlike, ReleaseIsCall, BySingleCalls, HistoriesSingle}
use Rattle.history.proofs.Calls.{call_kept, calls_spare_held}
use Rattle.history.proofs.Courses as courses
use Rattle.history.proofs.Returns.{calls_keep_nothing, calls_leave_nothing}
use Rattle.history.proofs.Rollback.{releases_fall, locks_roll_back}
use Rattle.history.proofs.ByKey.{grants_name}
use Rattle.history.proofs.Shared.{buffers_name}
use Rattle.history.proofs.HandedCalls as handed
use Rattle.history.proofs.Healthy as healthy
use Rattle.history.proofs.Whys as whys
use Rattle.history.proofs.Writers as writers
use Rattle.history.proofs.Others as others
use Rattle.history.specs.CountedCalls.{calls_counted}
use Rattle.history.specs.Refused.{refusals_early, crew_unmoved, crew_at_work_unmoved}
use Rattle.history.proofs.NamedCalls.{calls_named, steps_named}
use Rattle.history.proofs.Boots as boots

-- ---- a history from a preparation or a salvage

pub demand_2 : Demand2
demand_2 = courses.histories_kept

pub sound_if_apart : SoundIfApart
sound_if_apart = courses.sound_if_apart

pub prepared_fresh : PreparedFresh
prepared_fresh = courses.prepared_fresh

pub prepared_sound : PreparedSound
prepared_sound = courses.prepared_sound

pub prepared_counted : PreparedCounted
prepared_counted = courses.prepared_counted

pub prepared_begins : PreparedBegins
prepared_begins = courses.prepared_begins

pub forgets : Forgets
forgets = courses.histories_forget

pub refused_stays : RefusedStays
refused_stays = courses.refused_stays

pub salvage_refused_stays : SalvageRefusedStays
salvage_refused_stays = courses.salvage_refused_stays

-- ---- one call

pub lawful_always : LawfulAlways perform
lawful_always w k = let m = (call_kept w k).kept in (m.lawful, m.leads)

pub counts_are : CountsAre perform
counts_are = calls_counted

pub changes_nothing : ChangesNothing perform
changes_nothing = refusals_early

pub crew_refused_lem : CrewRefused crew_of
crew_refused_lem = crew_unmoved

pub crew_at_work_refused : CrewAtWorkRefused crew_at_work_of
crew_at_work_refused = crew_at_work_unmoved

pub grant_is : GrantIs perform
grant_is = grants_name

pub buffer_is : BufferIs perform
buffer_is = buffers_name

pub given_live : GivenLive perform
given_live w k l x = (call_kept w k).gain l x

pub nothing_kept : NothingKept perform
nothing_kept = calls_keep_nothing

pub nothing_new : NothingNew perform
nothing_new = calls_leave_nothing

pub falling_all : FallingAll perform
falling_all = releases_fall

pub rollback_is : RollbackIs perform
rollback_is = locks_roll_back

pub named : Named perform
named = calls_named

pub named_alone : NamedAlone foreign
named_alone = steps_named

pub held_live : HeldLive perform
held_live = calls_spare_held

-- ---- boot numbers

pub boot_stays : BootStays perform
boot_stays = boots.boots_stay

pub boot_stays_alone : BootStaysAlone foreign
boot_stays_alone = boots.steps_boot_stays

pub refused_unowned : RefusedUnowned perform
refused_unowned = boots.unowned_refused

pub refused_stale : RefusedStale perform
refused_stale = boots.stale_refused

pub names_placed : NamesPlaced
names_placed = boots.names_placed

pub stale_is_16 : StaleIs16 perform
stale_is_16 = boots.stale_is_16

-- ---- answers

pub handed_over : HandedOver perform
handed_over = handed.calls_hand_over

pub granted_healthy : GrantedHealthy perform
granted_healthy = healthy.grants_healthy

pub locks_healthy : LocksHealthy perform
locks_healthy = healthy.locks_grant_healthy

pub poisoned_holds_nothing : PoisonedHoldsNothing perform
poisoned_holds_nothing = healthy.sevens_hold_nothing

pub reasons_are : ReasonsAre perform
reasons_are = whys.reasons_are

pub early_takes_nothing : EarlyTakesNothing perform
early_takes_nothing = whys.early_takes_nothing

pub holder_lives : HolderLives perform
holder_lives = whys.holder_lives

pub late_is_spent : LateIsSpent perform
late_is_spent = whys.late_is_spent

pub own_serial : OwnSerial perform
own_serial = whys.own_serial

pub serials_rise : SerialsRise perform
serials_rise = handed.serials_rise

pub not_over_live : NotOverLive perform
not_over_live = writers.not_over_live

pub busy_or_refused : BusyOrRefused perform
busy_or_refused = writers.busy_or_refused

pub locks_refused : LocksRefused perform
locks_refused = writers.locks_refused

pub never_twice : NeverTwice
never_twice = writers.never_twice

pub once_each : OnceEach
once_each = writers.once_each

pub two_writers : TwoWriters
two_writers = writers.two_writers

pub none_takes : NoneTakes
none_takes = writers.none_takes

pub alone_until_released : AloneUntilReleased
alone_until_released = writers.alone_until_released

pub takes_parted : TakesParted
takes_parted = writers.takes_parted

-- ---- other callers

pub takes_alike : TakesAlike foreign
takes_alike = others.takes_alike

pub take_is_call : TakeIsCall foreign
take_is_call = others.take_is_call

pub releases_alike : ReleasesAlike foreign
releases_alike = others.releases_alike

pub release_is_call : ReleaseIsCall foreign
release_is_call = others.release_is_call

pub by_single_calls : BySingleCalls perform
by_single_calls = others.by_single_calls

pub histories_single : HistoriesSingle
histories_single = others.histories_single
