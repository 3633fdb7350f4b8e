-- The bench's crew: two members that want the same two cells. Its premises are met, and 2K - 1 rounds are not enough for it.
use Rattle.std.specs.Prelude.{ℕ, zero, suc, ◌+◌, ◌*◌, ◌/◌, ◌≡◌, refl, List, [], ◌∷◌, ◌++◌, get_or, replicate, Ok}
use Rattle.std.proofs.Common.{inl, inr, arith}
use Rattle.model.specs.Arena.{head_of, bit_at, owner_at, waiters_at, is_free, state_of, state_at, head_fits, shape_fits, health_fits}
use Rattle.model.specs.Refusals.{first}
use Rattle.model.specs.Crew.{total, start_of, all_within, rises_from, bad_lists, bad_turns, crew_rules, crew_of, crew_at_work_of}
use Rattle.types.specs.declared.CrewReply.{CrewReply}
use Rattle.types.specs.declared.Head.{Head}
use Rattle.laws.specs.Lists.{zeros}
use Rattle.crew_theory.specs.Statements.{In, flat, UnfinishedSaid, RoundsSaid, Open, Met, MetAtWork}

abbrev bench : Head
bench = head_of 2 4 1 6

abbrev table : List ℕ
table = replicate 24 0

abbrev health : List ℕ
health = replicate 2 0

abbrev counts : List ℕ
counts = 2 ∷ 2 ∷ []

abbrev cells : List ℕ
cells = 2 ∷ 5 ∷ 2 ∷ 5 ∷ []

-- a prepared arena is open to them
pub opened : (turns : List ℕ) → first (crew_rules bench table health counts cells turns) ≡ Ok tt → Open bench table health counts cells turns
unfolding state_at state_of is_free bit_at owner_at waiters_at total
opened turns fine =
    record {
      fine = fine;
      free = λ k l. let c = get_or cells k 0 in rw (zeros 24 (3 * c), zeros 24 (3 * c + 1));
      unwaited = λ k l. zeros 24 (3 * get_or cells k 0 + 2);
      healthy = λ k l. zeros 2 (get_or cells k 0 / 4);
      serials = omega arith;
    }

-- turns that name everyone are rounds, whatever the replies
again : (reply : List ℕ → CrewReply) (n : ℕ) (before : List ℕ) → RoundsSaid reply counts before (replicate n (0 ∷ 1 ∷ []))
again reply zero before = tt
again reply (suc n) before = (everyone, again reply n (before ++ (0 ∷ 1 ∷ [])))
  where
    everyone : (m : ℕ) → UnfinishedSaid reply counts before m → In m (0 ∷ 1 ∷ [])
    everyone zero u = inl refl
    everyone (suc zero) u = inr (inl refl)
    everyone (suc (suc m)) u = absurd (omega (arith, u.0))

pub contending : Met
unfolding first crew_rules shape_fits head_fits health_fits total start_of all_within rises_from bad_lists bad_turns
contending = (bench, table, health, replicate 8 (0 ∷ 1 ∷ []), opened (flat (replicate 8 (0 ∷ 1 ∷ []))) refl, again (λ turns. (crew_of bench table health counts cells turns).seen.0) 8 [], omega arith)

pub contending_at_work : MetAtWork
unfolding first crew_rules shape_fits head_fits health_fits total start_of all_within rises_from bad_lists bad_turns
contending_at_work = (
  bench,
  table,
  health,
  replicate 8 40_000,
  replicate 12 (0 ∷ 1 ∷ []),
  opened (flat (replicate 12 (0 ∷ 1 ∷ []))) refl,
  refl,
  again (λ turns. (crew_at_work_of bench table health counts cells turns (replicate 8 40_000)).seen.0) 12 [],
  omega arith,
)
