-- The premises can be met: document 02's case, a member that is finished before one that held all first, turns that run out, and members that
-- share nothing.
use Rattle.std.specs.Prelude.{ℕ, zero, suc, ◌+◌, ◌%◌, ◌≤◌, ◌<◌, ◌≡◌, refl, List, [], ◌∷◌, ◌⊎◌, length, get_or, replicate}
use Rattle.std.proofs.Common.{sym, ◌∙◌, subst, inl, inr, arith}
use Rattle.model.specs.Log.{Made}
use Rattle.model.specs.Arena.{head_of, bit_at, owner_at, waiters_at, set_cell, is_free, is_held, state_of, state_at, head_fits, shape_fits, health_fits}
use Rattle.model.specs.Refusals.{first}
use Rattle.model.specs.Foreign.{run_steps_of, boundary_of}
use Rattle.model.specs.Lock.{take_of, late_stage_of, second_stage_of, lock_of}
use Rattle.model.specs.Crew.{summed_of, total, start_of, count_of, all_within, rises_from, bad_lists, bad_turns, crew_at_work_rules, try_turn_of, held_all_of, add_turn_of, release_turn_of, turn_of, turns_of, taken_of, released_of, shift_of, crew_at_work_of, order_of}
use Rattle.types.specs.declared.Answer.TheVariants.{Done}
use Rattle.types.specs.declared.CrewReply.{CrewReply}
use Rattle.types.specs.declared.Head.{Head}
use Rattle.crew_theory.specs.Statements.{In, named, adds_of_lem}
use Rattle.crew_at_work_theory.specs.Statements.{raised_by, whole_by, replay_by, replay_of, AllFinished, Low, Owes, times, Before, Strangers, GivesWay}

abbrev pub bench : Head
bench = head_of 2 4 1 6

abbrev pub pairs : ℕ → List ℕ
pairs zero = []
pairs (suc n) = 0 ∷ 1 ∷ pairs n

abbrev pub counters : List ℕ
counters = 0 ∷ 1 ∷ 40000 ∷ 3 ∷ 4 ∷ 60000 ∷ 6 ∷ 7 ∷ []

abbrev at_work : List ℕ → List ℕ → List ℕ → Made (CrewReply × (List ℕ × List ℕ))
at_work counts cells turns = crew_at_work_of bench (replicate 24 0) (replicate 2 0) counts cells turns counters

-- ---- "eleven pairs of turns"

abbrev pub eleven : Made (CrewReply × (List ℕ × List ℕ))
eleven = at_work (2 ∷ 2 ∷ []) (2 ∷ 5 ∷ 2 ∷ 5 ∷ []) (pairs 11)

-- ---- crew {2,5},{5}: member 0 gives cell 5 back and keeps cell 2, and member 1 is finished before it. The order is that of holding all

abbrev laps : List ℕ
laps = 0 ∷ 0 ∷ 0 ∷ 0 ∷ 0 ∷ 1 ∷ 1 ∷ 1 ∷ []

abbrev pub lapped : Made (CrewReply × (List ℕ × List ℕ))
lapped = at_work (2 ∷ 1 ∷ []) (2 ∷ 5 ∷ 5 ∷ []) laps

-- ---- turns run out: member 0 has added to cell 2, and owes cell 5

abbrev pub short : Made (CrewReply × (List ℕ × List ℕ))
short = at_work (2 ∷ 2 ∷ []) (2 ∷ 5 ∷ 2 ∷ 5 ∷ []) (0 ∷ 0 ∷ 0 ∷ [])

-- ---- crew {2},{5}: they share nothing, and the other order gives the same

abbrev pub strangers : Made (CrewReply × (List ℕ × List ℕ))
strangers = at_work (1 ∷ 1 ∷ []) (2 ∷ 5 ∷ []) (pairs 3)
