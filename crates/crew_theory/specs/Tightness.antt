-- Demand 3's bound is tight for every K from 1 to 256, and more: every crew that meets the premises and whose members all begin with the
-- same cell has 2K - 1 rounds, or 3K - 1 at work, after which it has not finished.
-- ---- a crew whose members all begin with the same cell
use Rattle.std.specs.Prelude.{ℕ, zero, suc, ◌+◌, ◌*◌, ◌-◌, ◌/◌, min, ◌≤◌, ◌<◌, ◌≡◌, refl, true, false, length, take, drop, replicate}
use Rattle.std.proofs.Common.{sym, ap, ◌∙◌, subst, inl, length-append, take_at}
use mathlib.Core.List.{List, [], ◌∷◌, ◌++◌}
use native.Mathlib.Omega.{arith}
use Rattle.std.proofs.Math.ListN.{get_or, get_or-eq_default}
use Rattle.std.proofs.Math.Seq.{drop-append-add}
use borrow.Author.Tests.{lt-ltb, le-ltb, le-leb, eq-eqb}
use Rattle.model.specs.Log.{Made}
use Rattle.model.specs.Arena.{head_of, bit_at, owner_at, waiters_at, is_free, state_of, state_at, head_fits, shape_fits, health_fits}
use Rattle.model.specs.Refusals.{first}
use Rattle.model.specs.Crew.{Work, rests, adds, moves_of, total, start_of, count_of, list_of, all_within, rises_from, bad_limits, bad_lists, bad_turns, crew_rules, crew_start, turns_of, shift_of, crew_of, crew_at_work_of}
use Rattle.types.specs.declared.CrewReply.{CrewReply}
use Rattle.types.specs.declared.Head.{Head}
use Rattle.laws.specs.Lists.{zeros}
use Rattle.laws.specs.Checks.{first_skip, first_append}
use Rattle.laws.specs.Crew.{adds_few, moves_two, moves_three, at_work_fine}
use Rattle.crew_theory.specs.Statements.{flat, after, RoundsSaid, Open, ShortOf, Short, ShortAtWork, BeginWith, TightOver, TightWhereShared, TightWhereSharedAtWork, TightForEvery, TightForEveryAtWork}
use Rattle.crew_theory.specs.Lists.{fits}

-- ---- for each K: up to four members, that want the cells from 0 on

abbrev pub rising : ℕ → ℕ → List ℕ
rising low zero = []
rising low (suc n) = low ∷ rising (low + 1) n

abbrev pub runs : List ℕ → List ℕ
runs [] = []
runs (n ∷ ns) = rising 0 n ++ runs ns

-- 64 cells of one header, all free
abbrev pub bench : Head
bench = head_of 1 64 1 6

abbrev pub table : List ℕ
table = replicate 192 0

abbrev pub health : List ℕ
health = replicate 1 0

-- 64 of so many, and the rest
pub record Part (k most : ℕ) : Type 0 where
  pub here : ℕ
  pub rest : ℕ
  pub small : here ≤ 64
  pub sum_is : here + rest ≡ k
  pub rest_small : rest ≤ most
  pub some : 1 ≤ k → 1 ≤ here

-- K in four parts of 64 at most
pub record Parts (K : ℕ) : Type 0 where
  pub x : Part K 192
  pub y : Part x.rest 128
  pub z : Part y.rest 64
