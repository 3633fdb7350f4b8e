-- Wrong crews: the like of `Falls`. "Crew {2,5},{2,5}".
use Rattle.std.specs.Prelude.{ℕ, zero, suc, ◌≡◌, refl, List, [], ◌∷◌, ◌++◌, get_or, replicate}
use Rattle.std.proofs.Common.{ap, inl, inr, arith}
use Rattle.model.specs.Log.{Made}
use Rattle.model.specs.Arena.{head_of, bit_at, owner_at, waiters_at, set_cell, is_free, is_held, state_of, state_at, head_fits, shape_fits, health_fits}
use Rattle.model.specs.Refusals.{first}
use Rattle.model.specs.Foreign.{run_steps_of, boundary_of}
use Rattle.model.specs.Lock.{take_of, late_stage_of, second_stage_of, lock_of}
use Rattle.model.specs.Crew.{total, start_of, all_within, rises_from, bad_lists, bad_turns, crew_rules, try_turn_of, held_all_of, release_turn_of, turn_of, turns_of, taken_of, released_of, shift_of, crew_of}
use Rattle.types.specs.declared.CrewReply.{CrewReply}
use Rattle.crew_theory.specs.Statements.{In, flat, UnfinishedSaid, RoundsAfter, Demand3}
use Rattle.crew_theory.specs.Examples.{opened}
use Rattle.pinned.specs.Statements.{Crews}
use Rattle.pinned.proofs.Theorems.{no_other_crew}
use Rattle.wrong_builds.specs.Wrong.{sevens_unfinished, first_only, moves_one}

-- before its first turn the crew has taken nothing, and the wrong reply says 7
pub sevens_falls : Crews sevens_unfinished → ⊥
unfolding head_fits shape_fits health_fits first total start_of all_within rises_from bad_lists bad_turns crew_rules turns_of taken_of released_of shift_of crew_of
sevens_falls c =
    let e : ◌≡◌ {A = ℕ} 7 0 = ap (λ (m : Made (CrewReply × List ℕ)). get_or m.seen.0.taken 0 0) (no_other_crew sevens_unfinished c (head_of 2 4 1 6) (replicate 24 0) (replicate 2 0) (2 ∷ 2 ∷ []) (2 ∷ 5 ∷ 2 ∷ 5 ∷ []) []) in
    omega arith

-- "a crew that moves one member falls to demand 3": eight rounds that name both members, and the second has taken nothing
named : (n : ℕ) (before : List ℕ) → RoundsAfter moves_one (head_of 2 4 1 6) (replicate 24 0) (replicate 2 0) (2 ∷ 2 ∷ []) (2 ∷ 5 ∷ 2 ∷ 5 ∷ []) before (replicate n (0 ∷ 1 ∷ []))
named zero before = tt
named (suc n) before = (everyone, named n (before ++ (0 ∷ 1 ∷ [])))
  where
    everyone : (m : ℕ) → UnfinishedSaid (λ turns. (moves_one (head_of 2 4 1 6) (replicate 24 0) (replicate 2 0) (2 ∷ 2 ∷ []) (2 ∷ 5 ∷ 2 ∷ 5 ∷ []) turns).seen.0) (2 ∷ 2 ∷ []) before m → In m (0 ∷ 1 ∷ [])
    everyone zero u = inl refl
    everyone (suc zero) u = inr (inl refl)
    everyone (suc (suc m)) u = absurd (omega (arith, u.0))

pub moves_one_falls : Demand3 moves_one → ⊥
unfolding bit_at owner_at waiters_at set_cell is_free is_held state_of state_at head_fits shape_fits health_fits first run_steps_of boundary_of take_of late_stage_of second_stage_of lock_of total start_of all_within rises_from bad_lists bad_turns crew_rules try_turn_of held_all_of release_turn_of turn_of turns_of taken_of released_of shift_of crew_of first_only
moves_one_falls h =
    let rounds : List (List ℕ) = replicate 8 (0 ∷ 1 ∷ []) in
    let e : ◌≡◌ {A = ℕ} 0 2 = (h (head_of 2 4 1 6) (replicate 24 0) (replicate 2 0) (2 ∷ 2 ∷ []) (2 ∷ 5 ∷ 2 ∷ 5 ∷ []) rounds (opened (flat rounds) refl) (named 8 []) (omega arith)).taken 1 (omega arith) in
    omega arith
