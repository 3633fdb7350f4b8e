-- The statements of `Statements` and `Callers`, each proved of ours; the proofs are in the files behind. That the call is multi-lock over the sorted keys
-- (`AsMultilock`) is what crate `pinned` asks of every build; the lemma is in `Runs`.
use Rattle.model.specs.Crew.{crew_of, crew_at_work_of}
use Rattle.history.specs.Items.{perform}
use Rattle.sorted_theory.specs.Statements.{Shares, SerialsByCell, ApartByCell, TakenRising, TakesRise, EachKeyLive, SortedHealthy, KeysFirst, ChecksAsTyped, SortedQuiet, LaterPosition, Fourteen, OnceDone}
use Rattle.sorted_theory.specs.Callers as said
use Rattle.sorted_theory.proofs.Callers as callers
use Rattle.sorted_theory.specs.Granted as granting
use Rattle.sorted_theory.specs.Refused as refusing
use Rattle.sorted_theory.specs.Healthy as healthy
use Rattle.sorted_theory.specs.Quiet as quiet
use Rattle.sorted_theory.specs.Repeats as repeating
use Rattle.sorted_theory.specs.Takes as taking

-- ---- granted

pub shares : Shares perform
shares = granting.shares

pub serials_by_cell : SerialsByCell perform
serials_by_cell = granting.serials_by_cell

pub apart_by_cell : ApartByCell perform
apart_by_cell = granting.apart_by_cell

pub taken_rising : TakenRising perform
taken_rising = granting.taken_rising

pub each_key_live : EachKeyLive perform
each_key_live = granting.each_key_live

pub sorted_healthy : SortedHealthy perform
sorted_healthy = healthy.sorted_healthy

pub sorted_quiet : SortedQuiet perform
sorted_quiet = quiet.sorted_quiet

-- ---- granted or refused

pub takes_rise : TakesRise perform
takes_rise = taking.takes_rise

-- ---- refused

pub checks_as_typed : ChecksAsTyped perform
checks_as_typed = refusing.checks_as_typed

pub keys_first : KeysFirst perform
keys_first = refusing.keys_first

pub later_position : LaterPosition perform
later_position = refusing.later_position

-- ---- `release_all`

pub fourteen : Fourteen perform
fourteen = repeating.fourteen

pub once_done : OnceDone perform
once_done = repeating.once_done

-- ---- demand 3

pub callers_are_crew : said.CallersAreCrew
callers_are_crew = callers.callers_are_crew

pub lists_are : said.ListsAre
lists_are = callers.lists_are

pub callers_finish : said.CallersFinish crew_of
callers_finish = callers.callers_finish

pub callers_finish_at_work : said.CallersFinishAtWork crew_at_work_of
callers_finish_at_work = callers.callers_finish_at_work
