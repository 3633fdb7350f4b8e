-- The theorems of this crate by the names of their statements. Each is proved of a run in any work; the two calls are its instances.
use Rattle.std.specs.Prelude.{ℕ, ◌≤◌, List, [], ◌++◌}
use Rattle.std.proofs.Common.{◌∙◌, subst, arith, take_all}
use Rattle.model.specs.Crew.{Work, rests, adds, moves_of, total, count_of, list_of, crew_start, turns_of, shift_of, crew_of, crew_at_work_of}
use Rattle.types.specs.declared.Head.{Head}
use Rattle.laws.specs.Crew.{moves_two, moves_three, at_work_fine, fine_at_work}
use Rattle.crew_theory.specs.Statements.{flat, after, RoundsOver, Open, EnoughOver, Completed, tabled, TurnsAre, StaysFinished, RoundMoves, Demand3, Demand3AtWork, Demand3Over, CrewDeeds, CrewDeedsAtWork, CrewDeedsOver, Tells, TellsAtWork, TellsOver, TakenIsHeld, TakenIsHeldOver, HoldWhole, HoldWholeAtWork, TightOver, TightWhereShared, TightWhereSharedAtWork, TightForEvery, TightForEveryAtWork, Met, MetAtWork}
use Rattle.crew_theory.specs.Examples.{contending, contending_at_work}
use Rattle.crew_theory.specs.Turns.{turn_is, turns_stay}
use Rattle.crew_theory.proofs.Steady.{fit, start_steady, turns_steady}
use Rattle.crew_theory.proofs.Rounds.{round_moves_on, rounds_move}
use Rattle.crew_theory.proofs.Seen.{crew_is, crew_at_work_is, crew_rounds, crew_at_work_rounds, by_state}
use Rattle.crew_theory.proofs.Ended.{completes}
use Rattle.crew_theory.proofs.Deeds.{deeds}
use Rattle.crew_theory.proofs.Told as told
use Rattle.crew_theory.proofs.Whole as whole
use Rattle.crew_theory.proofs.Tightness as tightness

pub turns_are : TurnsAre
turns_are work headers buckets g counts cells w m = turn_is work buckets g counts cells headers w m

pub stays_finished : StaysFinished
stays_finished work h g counts cells w turns m f = turns_stay work h.buckets g counts cells h.headers w turns m f

pub round_moves : RoundMoves
round_moves work h t g counts cells counters before r later m o =
    let turns = before ++ (r ++ later) in
    let first_crew = crew_start h t counters in
    round_moves_on work h t g counts cells turns o (after work h g counts cells first_crew before) r m
    (turns_steady work h t g counts cells turns o first_crew before (start_steady work h t g counts cells turns o counters))

-- so many rounds make all moves
all_moved : (work : Work) (h : Head) (t g counts cells counters : List ℕ) (rounds : List (List ℕ)) → Open h t g counts cells (flat rounds)
    → RoundsOver work h t g counts cells counters [] rounds → EnoughOver work counts rounds
    → moves_of work (total counts) ≤ (after work h g counts cells (crew_start h t counters) (flat rounds)).moving
unfolding turns_of
all_moved work h t g counts cells counters rounds o rs n =
    let few = (fit work h t g counts cells (flat rounds) o).few in
    omega (arith, rounds_move work h t g counts cells (flat rounds) o (crew_start h t counters) rounds (start_steady work h t g counts cells (flat rounds) o counters) (by_state work h t g counts cells counters few [] rounds rs))

pub demand_3_over : (work : Work) → Demand3Over work
demand_3_over work h t g counts cells counters rounds o rs n = completes work h t g counts cells (flat rounds) counters o (all_moved work h t g counts cells counters rounds o rs n)

pub demand_3 : Demand3 crew_of
demand_3 h t g counts cells rounds o rs n =
    let e = moves_two (total counts) in
    rw (crew_is h t g counts cells (flat rounds) o.fine)
    (subst (λ k. Completed k h t counts (flat rounds) (tabled (shift_of rests h t g counts cells (flat rounds) []))) e
    (demand_3_over rests h t g counts cells [] rounds o (crew_rounds h t g counts cells rounds o.fine rs) (omega arith)))

pub demand_3_at_work : Demand3AtWork crew_at_work_of
demand_3_at_work h t g counts cells counters rounds o wide rs n =
    let e = moves_three (total counts) in
    rw (crew_at_work_is h t g counts cells (flat rounds) counters (at_work_fine h t g counts cells (flat rounds) counters wide o.fine))
    (subst (λ k. Completed k h t counts (flat rounds) (tabled (shift_of adds h t g counts cells (flat rounds) counters))) e
    (demand_3_over adds h t g counts cells counters rounds o (crew_at_work_rounds h t g counts cells rounds o.fine counters wide rs) (omega arith)))

pub crew_deeds_over : (work : Work) → CrewDeedsOver work
crew_deeds_over work h t g counts cells counters rounds m o rs n =
    deeds work h t g counts cells (flat rounds) o m counters (all_moved work h t g counts cells counters rounds o rs n)

pub crew_deeds : CrewDeeds
crew_deeds h t g counts cells rounds m o rs n =
    let e = moves_two (total counts) in
    let d = crew_deeds_over rests h t g counts cells [] rounds m o (crew_rounds h t g counts cells rounds o.fine rs) (omega arith) in
    (d.takes_so, d.releases_so)

pub crew_deeds_at_work : CrewDeedsAtWork
crew_deeds_at_work h t g counts cells counters rounds m o wide rs n =
    let e = moves_three (total counts) in
    let d = crew_deeds_over adds h t g counts cells counters rounds m o (crew_at_work_rounds h t g counts cells rounds o.fine counters wide rs) (omega arith) in
    let long = (fit adds h t g counts cells (flat rounds) o).long m in
    (d.takes_so, d.adds_so ∙ take_all (count_of counts m) (list_of counts cells m) (omega arith), d.releases_so)

pub tells_over : (work : Work) → TellsOver work
tells_over = told.tells_over

pub tells : Tells crew_of
tells h t g counts cells turns fine = rw (crew_is h t g counts cells turns fine) (tells_over rests h t g counts cells turns [] fine)

pub tells_at_work : TellsAtWork crew_at_work_of
tells_at_work h t g counts cells turns counters fine =
    rw (crew_at_work_is h t g counts cells turns counters fine) (tells_over adds h t g counts cells turns counters (fine_at_work h t g counts cells turns counters fine).1)

pub taken_is_held_over : (work : Work) → TakenIsHeldOver work
taken_is_held_over = whole.taken_is_held_over

pub taken_is_held : TakenIsHeld
taken_is_held h t g counts cells turns m o l e = taken_is_held_over rests h t g counts cells turns [] m o l (rw (crew_is h t g counts cells turns o.fine) at e)

pub hold_whole : HoldWhole
hold_whole h t g counts cells rounds m o rs n l =
    taken_is_held h t g counts cells (flat rounds) m o l ((demand_3 h t g counts cells rounds o rs n).taken m l)

pub hold_whole_at_work : HoldWholeAtWork
hold_whole_at_work h t g counts cells counters rounds m o wide rs n l =
    let e = moves_three (total counts) in
    taken_is_held_over adds h t g counts cells (flat rounds) counters m o l
    ((demand_3_over adds h t g counts cells counters rounds o (crew_at_work_rounds h t g counts cells rounds o.fine counters wide rs) (omega arith)).taken m l)

pub tight_over : (work : Work) → TightOver work
tight_over = tightness.tight_over

pub tight_where_shared : TightWhereShared
tight_where_shared = tightness.tight_where_shared

pub tight_where_shared_at_work : TightWhereSharedAtWork
tight_where_shared_at_work = tightness.tight_where_shared_at_work

pub tight_for_every : TightForEvery
tight_for_every = tightness.tight_for_every

pub tight_for_every_at_work : TightForEveryAtWork
tight_for_every_at_work = tightness.tight_for_every_at_work

pub met : Met
met = contending

pub met_at_work : MetAtWork
met_at_work = contending_at_work
