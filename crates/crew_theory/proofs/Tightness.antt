-- Demand 3's bound is tight for every K from 1 to 256, and more: every crew that meets the premises and whose members all begin with the
-- same cell has 2K - 1 rounds, or 3K - 1 at work, after which it has not finished.
-- ---- a crew whose members all begin with the same cell
use Rattle.std.specs.Prelude.{ℕ, zero, suc, ◌+◌, ◌*◌, ◌-◌, ◌/◌, min, ◌≤◌, ◌<◌, ◌≡◌, refl, true, false, length, take, drop, replicate, Ok}
use Rattle.std.proofs.Common.{sym, ap, ◌∙◌, subst, inl, length-append, take_at}
use mathlib.Core.List.{List, [], ◌∷◌, ◌++◌}
use native.Mathlib.Omega.{arith}
use Rattle.std.proofs.Math.ListN.{get_or, get_or-eq_default}
use Rattle.std.proofs.Math.Seq.{drop-append-add}
use borrow.Author.Tests.{lt-ltb, le-ltb, le-leb, eq-eqb}
use Rattle.model.specs.Log.{Made}
use Rattle.model.specs.Arena.{head_of, bit_at, owner_at, waiters_at, is_free, state_of, state_at, head_fits, shape_fits, health_fits}
use Rattle.model.specs.Refusals.{first}
use Rattle.model.specs.Crew.{Work, rests, adds, moves_of, total, start_of, count_of, list_of, all_within, rises_from, bad_limits, bad_lists, bad_turns, crew_rules, crew_start, turns_of, shift_of, crew_of, crew_at_work_of}
use Rattle.types.specs.declared.CrewReply.{CrewReply}
use Rattle.types.specs.declared.Head.{Head}
use Rattle.laws.specs.Lists.{zeros}
use Rattle.laws.specs.Checks.{first_skip, first_append}
use Rattle.laws.specs.Crew.{adds_few, moves_two, moves_three, at_work_fine}
use Rattle.crew_theory.specs.Statements.{flat, after, RoundsSaid, Open, ShortOf, Short, ShortAtWork, BeginWith, TightOver, TightWhereShared, TightWhereSharedAtWork, TightForEvery, TightForEveryAtWork}
use Rattle.crew_theory.specs.Lists.{fits}
use Rattle.crew_theory.proofs.Steady.{fit, start_steady, turns_steady}
use Rattle.crew_theory.proofs.Rounds.{rounds_move, some_left}
use Rattle.crew_theory.proofs.Seen.{open_turns, crew_is, crew_at_work_is, rounds_crew, rounds_crew_at_work, by_replies}
use Rattle.crew_theory.proofs.Ended.{released_at}
use Rattle.crew_theory.proofs.Whole.{start_shown}
use Rattle.crew_theory.proofs.Alone.{Run, slow_rounds}
use Rattle.crew_theory.specs.Tightness.{rising, runs, bench, table, health, Part, Parts}

pub tight_over : (work : Work) → TightOver work
unfolding turns_of shift_of
tight_over work h t g counts cells counters c o begins some =
    let x = slow_rounds work h t g counts cells [] o c begins (moves_of work (total counts) - 1) (crew_start h t counters) (start_steady work h t g counts cells [] o counters) (start_shown work h (length t) counts cells (fit work h t g counts cells [] o) t counters refl) 0 (λ q _. inl (zeros 16 q)) in
    go x (fit work h t g counts cells [] o).small
  where
    go : Run work h t g counts cells [] o c begins (crew_start h t counters) (moves_of work (total counts) - 1) → total counts ≤ 256
        → ShortOf (moves_of work (total counts)) h t g counts cells (λ turns. (shift_of work h t g counts cells turns counters).seen.0)
    go x small =
        let ts = flat x.rounds in
        let few_adds = adds_few work (total counts) in
        let p = open_turns h t g counts cells ts o x.names_all (omega (arith, x.short_all)) in
        let w = after work h g counts cells (crew_start h t counters) ts in
        let first_steady = start_steady work h t g counts cells ts p counters in
        let s = turns_steady work h t g counts cells ts p (crew_start h t counters) ts first_steady in
        let least = rounds_move work h t g counts cells ts p (crew_start h t counters) x.rounds first_steady x.are_rounds in
        let missing : w.moving + 1 ≡ moves_of work (total counts) = omega (arith, x.slow_all, x.many) in
        let q = some_left (moves_of work) counts w.made (omega (arith, s.moves)) in
        let few = (fits h t g counts cells ts p.fine).few in
        record {
          rounds = x.rounds;
          opens = p;
          are_rounds = by_replies work h t g counts cells counters few [] x.rounds x.are_rounds;
          one_fewer = omega (arith, x.many);
          one_move_left = missing;
          member = q.0;
          in_crew = q.1.0;
          not_finished = omega (arith, released_at work counts w.made q.0 (omega (arith, q.1.0)), q.1.1, adds_few work (count_of counts q.0));
        }

-- the same by other replies that say the same
short_same : (moves : ℕ) (h : Head) (t g counts cells : List ℕ) (reply other : List ℕ → CrewReply)
    → ((turns : List ℕ) → first (crew_rules h t g counts cells turns) ≡ Ok tt → reply turns ≡ other turns)
    → ((rounds : List (List ℕ)) → first (crew_rules h t g counts cells (flat rounds)) ≡ Ok tt → RoundsSaid reply counts [] rounds → RoundsSaid other counts [] rounds)
    → ShortOf moves h t g counts cells reply → ShortOf moves h t g counts cells other
short_same moves h t g counts cells reply other same rounds_too x =
    let e = same (flat x.rounds) x.opens.fine in
    record {
      rounds = x.rounds;
      opens = x.opens;
      are_rounds = rounds_too x.rounds x.opens.fine x.are_rounds;
      one_fewer = x.one_fewer;
      one_move_left = subst (λ (r : CrewReply). r.moving + 1 ≡ moves) e x.one_move_left;
      member = x.member;
      in_crew = x.in_crew;
      not_finished = subst (λ (r : CrewReply). get_or r.released x.member 0 < count_of counts x.member) e x.not_finished;
    }

pub tight_where_shared : TightWhereShared
tight_where_shared h t g counts cells c o begins some =
    short_same (2 * total counts) h t g counts cells (λ turns. (shift_of rests h t g counts cells turns []).seen.0) (λ turns. (crew_of h t g counts cells turns).seen.0)
    (λ turns fine. sym (ap (λ (r : Made (CrewReply × List ℕ)). r.seen.0) (crew_is h t g counts cells turns fine)))
    (λ rounds fine. rounds_crew h t g counts cells rounds fine)
    (subst (λ n. ShortOf n h t g counts cells (λ turns. (shift_of rests h t g counts cells turns []).seen.0)) (moves_two (total counts)) (tight_over rests h t g counts cells [] c o begins some))

pub tight_where_shared_at_work : TightWhereSharedAtWork
tight_where_shared_at_work h t g counts cells counters c o wide begins some =
    short_same (3 * total counts) h t g counts cells (λ turns. (shift_of adds h t g counts cells turns counters).seen.0) (λ turns. (crew_at_work_of h t g counts cells turns counters).seen.0)
    (λ turns fine. sym (ap (λ (r : Made (CrewReply × (List ℕ × List ℕ))). r.seen.0)
    (crew_at_work_is h t g counts cells turns counters (at_work_fine h t g counts cells turns counters wide fine))))
    (λ rounds fine. rounds_crew_at_work h t g counts cells rounds fine counters wide)
    (subst (λ n. ShortOf n h t g counts cells (λ turns. (shift_of adds h t g counts cells turns counters).seen.0)) (moves_three (total counts)) (tight_over adds h t g counts cells counters c o begins some))

rising_long : (low n : ℕ) → length (rising low n) ≡ n
rising_long low zero = refl
rising_long low (suc n) = ap suc (rising_long (low + 1) n)

rising_rises : (inside low n : ℕ) → low + n ≤ inside → rises_from inside low (rising low n) ≡ true
unfolding rises_from
rising_rises inside low zero l = refl
rising_rises inside low (suc n) l = rw (le-leb low low (omega arith), lt-ltb low inside (omega arith)) (rising_rises inside (low + 1) n (omega arith))

rising_first : (n : ℕ) → get_or (rising 0 n) 0 0 ≡ 0
rising_first zero = refl
rising_first (suc n) = refl

runs_long : (counts : List ℕ) → length (runs counts) ≡ total counts
unfolding total
runs_long [] = refl
runs_long (n ∷ ns) = omega (arith, length-append (rising 0 n) (runs ns), rising_long 0 n, runs_long ns)

runs_are : (counts : List ℕ) (m : ℕ) → list_of counts (runs counts) m ≡ rising 0 (count_of counts m)
unfolding start_of total
runs_are [] zero = refl
runs_are [] (suc m) = refl
runs_are (n ∷ ns) zero = take_at (rising 0 n) (runs ns) n (rising_long 0 n)
runs_are (n ∷ ns) (suc m) =
    let e : drop (n + start_of ns m) (rising 0 n ++ runs ns) ≡ drop (start_of ns m) (runs ns)
    = ap (λ (i : ℕ). drop (i + start_of ns m) (rising 0 n ++ runs ns)) (sym (rising_long 0 n)) ∙ drop-append-add (rising 0 n) (runs ns) (start_of ns m) in
    ap (take (count_of ns m)) e ∙ runs_are ns m

lists_fine : (inside : ℕ) (counts : List ℕ) → ((m : ℕ) → count_of counts m ≤ inside) → (left m : ℕ) → first (bad_lists left m inside counts (runs counts)) ≡ Ok tt
unfolding first bad_lists
lists_fine inside counts f zero m = refl
lists_fine inside counts f (suc left) m = rw (runs_are counts m, rising_rises inside 0 (count_of counts m) (omega (arith, f m))) (lists_fine inside counts f left (m + 1))

module _ (a b c d : ℕ) (a64 : a ≤ 64) (b64 : b ≤ 64) (c64 : c ≤ 64) (d64 : d ≤ 64) where
  abbrev crew : List ℕ
  crew = a ∷ b ∷ c ∷ d ∷ []

  count_low : (m : ℕ) → count_of crew m ≤ 64
  count_low zero = a64
  count_low (suc zero) = b64
  count_low (suc (suc zero)) = c64
  count_low (suc (suc (suc zero))) = d64
  count_low (suc (suc (suc (suc m)))) = omega (arith, get_or-eq_default crew 0 {n = suc (suc (suc (suc m)))} (omega arith))

  limits_fine : (bad_limits crew (runs crew) []).applies ≡ false
  unfolding all_within
  limits_fine =
      let e : total crew ≡ a + b + c + d = unfold total in omega arith in
      rw (le-leb a 64 a64, le-leb b 64 b64, le-leb c 64 c64, le-leb d 64 d64, le-ltb 256 (total crew) (omega arith), eq-eqb (length (runs crew)) (total crew) (runs_long crew))

  fine : first (crew_rules bench table health crew (runs crew) []) ≡ Ok tt
  unfolding crew_rules shape_fits head_fits health_fits first bad_turns
  fine =
      first_skip (bad_limits crew (runs crew) []) (bad_lists 4 0 64 crew (runs crew) ++ []) limits_fine
      ∙ first_append (bad_lists 4 0 64 crew (runs crew)) [] ∙ rw (lists_fine 64 crew count_low 4 0)

  opened : Open bench table health crew (runs crew) []
  unfolding state_at state_of is_free bit_at owner_at waiters_at
  opened =
      record {
        fine = fine;
        free = λ k l. let n = get_or (runs crew) k 0 in rw (zeros 192 (3 * n), zeros 192 (3 * n + 1));
        unwaited = λ k l. zeros 192 (3 * get_or (runs crew) k 0 + 2);
        healthy = λ k l. zeros 1 (get_or (runs crew) k 0 / 64);
        serials = let e : total crew ≡ a + b + c + d = unfold total in omega arith in omega arith;
      }

  begin_low : BeginWith 0 crew (runs crew)
  begin_low m k = rw (runs_are crew m) (rising_first (count_of crew m))

  some_cell : 1 ≤ a → 1 ≤ total crew
  some_cell l = let e : total crew ≡ a + b + c + d = unfold total in omega arith in omega arith

  short : 1 ≤ a → Short bench table health crew (runs crew)
  short l = tight_where_shared bench table health crew (runs crew) 0 opened begin_low (some_cell l)

  short_at_work : 1 ≤ a → (counters : List ℕ) → length counters ≡ 64 → ShortAtWork bench table health crew (runs crew) counters
  short_at_work l counters wide = tight_where_shared_at_work bench table health crew (runs crew) counters 0 opened wide begin_low (some_cell l)

part : (k most : ℕ) → k ≤ most + 64 → Part k most
part k most l = record { here = min 64 k; rest = k - 64; small = omega arith; sum_is = omega arith; rest_small = omega arith; some = λ s. omega arith }

parts : (K : ℕ) → K ≤ 256 → Parts K
parts K few =
    let x = part K 192 (omega arith) in
    let y = part x.rest 128 x.rest_small in
    record { x = x; y = y; z = part y.rest 64 y.rest_small }

module _ (K : ℕ) (p : Parts K) where
  abbrev of_parts : List ℕ
  of_parts = p.x.here ∷ p.y.here ∷ p.z.here ∷ p.z.rest ∷ []

  parts_sum : total of_parts ≡ K
  unfolding total
  parts_sum = omega (arith, p.x.sum_is, p.y.sum_is, p.z.sum_is)

pub tight_for_every : TightForEvery
tight_for_every K some few =
    let p = parts K few in (
      bench,
      table,
      health,
      of_parts K p,
      runs (of_parts K p),
      parts_sum K p,
      short p.x.here p.y.here p.z.here p.z.rest p.x.small p.y.small p.z.small p.z.rest_small (p.x.some some),
    )

pub tight_for_every_at_work : TightForEveryAtWork
tight_for_every_at_work K some few =
    let p = parts K few in (
      bench,
      table,
      health,
      of_parts K p,
      runs (of_parts K p),
      parts_sum K p,
      short_at_work p.x.here p.y.here p.z.here p.z.rest p.x.small p.y.small p.z.small p.z.rest_small (p.x.some some),
    )
