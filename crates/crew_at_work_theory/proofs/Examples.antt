-- The premises can be met: document 02's case, a member that is finished before one that held all first, turns that run out, and members that
-- share nothing.
use Rattle.std.specs.Prelude.{ℕ, zero, suc, ◌+◌, ◌%◌, ◌≤◌, ◌<◌, ◌≡◌, refl, List, [], ◌∷◌, ◌⊎◌, length, get_or, replicate}
use Rattle.std.proofs.Common.{sym, ◌∙◌, subst, inl, inr, arith}
use Rattle.model.specs.Log.{Made}
use Rattle.model.specs.Arena.{head_of, bit_at, owner_at, waiters_at, set_cell, is_free, is_held, state_of, state_at, head_fits, shape_fits, health_fits}
use Rattle.model.specs.Refusals.{first}
use Rattle.model.specs.Foreign.{run_steps_of, boundary_of}
use Rattle.model.specs.Lock.{take_of, late_stage_of, second_stage_of, lock_of}
use Rattle.model.specs.Crew.{summed_of, total, start_of, count_of, all_within, rises_from, bad_lists, bad_turns, crew_at_work_rules, try_turn_of, held_all_of, add_turn_of, release_turn_of, turn_of, turns_of, taken_of, released_of, shift_of, crew_at_work_of, order_of}
use Rattle.types.specs.declared.Answer.TheVariants.{Done}
use Rattle.types.specs.declared.CrewReply.{CrewReply}
use Rattle.types.specs.declared.Head.{Head}
use Rattle.crew_theory.specs.Statements.{In, named, adds_of_lem}
use Rattle.crew_at_work_theory.specs.Statements.{raised_by, whole_by, replay_by, replay_of, AllFinished, Low, Owes, times, Before, Strangers, GivesWay}
use Rattle.crew_at_work_theory.proofs.Theorems.{one_after_another, over_remainders, owes_only, released_first, any_order}
use Rattle.crew_at_work_theory.specs.Examples.{bench, pairs, counters, eleven, lapped, short, strangers}

-- two members
both_done : (counts : List ℕ) (r : CrewReply) → length counts ≡ 2 → get_or r.released 0 0 ≡ get_or counts 0 0 → get_or r.released 1 0 ≡ get_or counts 1 0 → AllFinished counts r
both_done counts r two a b zero l = a
both_done counts r two a b (suc zero) l = b
both_done counts r two a b (suc (suc m)) l = absurd (omega arith)

low : Low counters
low zero = omega arith
low (suc zero) = omega arith
low (suc (suc zero)) = omega arith
low (suc (suc (suc zero))) = omega arith
low (suc (suc (suc (suc zero)))) = omega arith
low (suc (suc (suc (suc (suc zero))))) = omega arith
low (suc (suc (suc (suc (suc (suc zero)))))) = omega arith
low (suc (suc (suc (suc (suc (suc (suc zero))))))) = omega arith
low (suc (suc (suc (suc (suc (suc (suc (suc c)))))))) = omega arith

pub eleven_finished : (eleven.seen.0.answer ≡ Done) × AllFinished (2 ∷ 2 ∷ []) eleven.seen.0 × (order_of eleven.log ≡ 0 ∷ 1 ∷ [])
unfolding bit_at owner_at waiters_at set_cell is_free is_held state_of state_at head_fits shape_fits health_fits first run_steps_of boundary_of take_of late_stage_of second_stage_of lock_of summed_of total start_of all_within rises_from bad_lists bad_turns crew_at_work_rules try_turn_of held_all_of add_turn_of release_turn_of turn_of turns_of taken_of released_of shift_of crew_at_work_of order_of
eleven_finished = (refl, both_done (2 ∷ 2 ∷ []) eleven.seen.0 refl refl refl, refl)

-- so the theorem gives its counters, here as the replay makes them
pub eleven_counters : eleven.seen.1.1 ≡ 0 ∷ 1 ∷ 28928 ∷ 3 ∷ 4 ∷ 48928 ∷ 6 ∷ 7 ∷ []
unfolding replay_by whole_by raised_by summed_of total start_of
eleven_counters =
    one_after_another bench (replicate 24 0) (replicate 2 0) (2 ∷ 2 ∷ []) (2 ∷ 5 ∷ 2 ∷ 5 ∷ []) (pairs 11) counters eleven_finished.0 eleven_finished.1
    ∙ rw eleven_finished.2

-- and the counter of cell 2 as the remainder of 160,000
pub eleven_plain : get_or eleven.seen.1.1 2 0 ≡ 160000 % 65536
unfolding replay_by whole_by raised_by total start_of
eleven_plain =
    over_remainders bench (replicate 24 0) (replicate 2 0) (2 ∷ 2 ∷ []) (2 ∷ 5 ∷ 2 ∷ 5 ∷ []) (pairs 11) counters eleven_finished.0 eleven_finished.1 low 2
    ∙ rw eleven_finished.2

-- member 0 has released cell 5 before member 1 takes it
pub eleven_gives_way : GivesWay bench (replicate 24 0) (replicate 2 0) (2 ∷ 2 ∷ []) (2 ∷ 5 ∷ 2 ∷ 5 ∷ []) (pairs 11) counters 0 1 5 eleven.log
unfolding total start_of
eleven_gives_way =
    released_first bench (replicate 24 0) (replicate 2 0) (2 ∷ 2 ∷ []) (2 ∷ 5 ∷ 2 ∷ 5 ∷ []) (pairs 11) counters 0 1 1 1 eleven_finished.0 (λ e. omega arith) (omega arith) (omega arith) refl
    (rw eleven_finished.2 (inl (refl, inl refl)))

pub finished_first : (get_or lapped.seen.0.released 0 0 ≡ 1) × (get_or lapped.seen.0.released 1 0 ≡ 1) × (order_of lapped.log ≡ 0 ∷ 1 ∷ [])
unfolding bit_at owner_at waiters_at set_cell is_free is_held state_of state_at head_fits shape_fits health_fits first run_steps_of boundary_of take_of late_stage_of second_stage_of lock_of summed_of total start_of all_within rises_from bad_lists bad_turns crew_at_work_rules try_turn_of held_all_of add_turn_of release_turn_of turn_of turns_of taken_of released_of shift_of crew_at_work_of order_of
finished_first = (refl, refl, refl)

pub short_so : (short.seen.0.answer ≡ Done) × (order_of short.log ≡ 0 ∷ []) × (adds_of_lem 0 short.log ≡ 1) × (short.seen.1.1 ≡ 0 ∷ 1 ∷ 14464 ∷ 3 ∷ 4 ∷ 60000 ∷ 6 ∷ 7 ∷ [])
unfolding bit_at owner_at waiters_at set_cell is_free is_held state_of state_at head_fits shape_fits health_fits first run_steps_of boundary_of take_of late_stage_of second_stage_of lock_of summed_of total start_of all_within rises_from bad_lists bad_turns crew_at_work_rules try_turn_of held_all_of add_turn_of release_turn_of turn_of turns_of taken_of released_of shift_of crew_at_work_of order_of adds_of_lem
short_so = (refl, refl, refl, refl)

-- cell 5 is owed
pub owed_five : Owes (2 ∷ 2 ∷ []) (2 ∷ 5 ∷ 2 ∷ 5 ∷ []) short.log 5
unfolding total start_of
owed_five = (0, 1, rw short_so.1 (inl refl), omega (arith, short_so.2), omega arith, refl)

-- and cell 2 is not, though member 1 wants it too
not_owed : Owes (2 ∷ 2 ∷ []) (2 ∷ 5 ∷ 2 ∷ 5 ∷ []) short.log 2 → ⊥
unfolding total start_of
not_owed (m, j, i, a, b, e) = go (rw short_so.1 at i)
  where
    mine : (j : ℕ) → adds_of_lem 0 short.log ≤ j → j < 2 → named (2 ∷ 5 ∷ 2 ∷ 5 ∷ []) (start_of (2 ∷ 2 ∷ []) 0 + j) ≡ 2 → ⊥
    mine zero a b e = omega (arith, short_so.2)
    mine (suc zero) a b e = omega arith
    mine (suc (suc j)) a b e = omega arith

    go : In m (0 ∷ []) → ⊥
    go (inl z) =
        subst (λ k. adds_of_lem k short.log ≤ j → j < count_of (2 ∷ 2 ∷ []) k → named (2 ∷ 5 ∷ 2 ∷ 5 ∷ []) (start_of (2 ∷ 2 ∷ []) k + j) ≡ 2 → ⊥) (sym z) (mine j) a b e
    go (inr z) = z

pub short_replayed : get_or short.seen.1.1 2 0 ≡ get_or (replay_of (2 ∷ 2 ∷ []) (2 ∷ 5 ∷ 2 ∷ 5 ∷ []) counters (order_of short.log)) 2 0
short_replayed = owes_only bench (replicate 24 0) (replicate 2 0) (2 ∷ 2 ∷ []) (2 ∷ 5 ∷ 2 ∷ 5 ∷ []) (0 ∷ 0 ∷ 0 ∷ []) counters short_so.0 2 not_owed

pub strangers_finished : (strangers.seen.0.answer ≡ Done) × AllFinished (1 ∷ 1 ∷ []) strangers.seen.0 × (order_of strangers.log ≡ 0 ∷ 1 ∷ [])
unfolding bit_at owner_at waiters_at set_cell is_free is_held state_of state_at head_fits shape_fits health_fits first run_steps_of boundary_of take_of late_stage_of second_stage_of lock_of summed_of total start_of all_within rises_from bad_lists bad_turns crew_at_work_rules try_turn_of held_all_of add_turn_of release_turn_of turn_of turns_of taken_of released_of shift_of crew_at_work_of order_of
strangers_finished = (refl, both_done (1 ∷ 1 ∷ []) strangers.seen.0 refl refl refl, refl)

apart : Strangers (1 ∷ 1 ∷ []) (2 ∷ 5 ∷ []) 1 0
unfolding total start_of
apart zero zero a b e = omega arith
apart zero (suc i) a b e = omega arith
apart (suc j) i a b e = omega arith

pub other_order : strangers.seen.1.1 ≡ replay_of (1 ∷ 1 ∷ []) (2 ∷ 5 ∷ []) counters (1 ∷ 0 ∷ [])
unfolding times
other_order =
    any_order bench (replicate 24 0) (replicate 2 0) (1 ∷ 1 ∷ []) (2 ∷ 5 ∷ []) (pairs 3) counters (1 ∷ 0 ∷ []) strangers_finished.0 strangers_finished.1
    (λ m. rw strangers_finished.2 (omega arith)) keeps
  where
    keeps : (a b : ℕ) → Before a b (1 ∷ 0 ∷ []) → Strangers (1 ∷ 1 ∷ []) (2 ∷ 5 ∷ []) a b ⊎ Before a b (order_of strangers.log)
    keeps a b (inl (p, inl q)) = inl (rw (p, q) apart)
    keeps a b (inl (p, inr q)) = absurd q
    keeps a b (inr (inl (p, q))) = absurd q
    keeps a b (inr (inr q)) = absurd q
