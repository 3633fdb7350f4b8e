-- Demand 3 for callers that ask by keys, in any order and with doubles: their sorted lists make a crew, so none of them can block another for good.
-- A list that a caller sorts is "a strictly rising list with exactly the cells asked for", and BadCrew asks for rising lists in range.
-- ---- callers
use Rattle.std.specs.Prelude.{ℕ, zero, suc, ◌+◌, ◌*◌, ◌-◌, ◌/◌, ◌≤◌, ◌<◌, ◌≡◌, refl, List, [], ◌∷◌, ◌++◌, true, false, not, length, get_or, take, drop, replicate, Ok}
use Rattle.std.proofs.Common.{sym, ap, ◌∙◌, subst, inl, inr, arith, length-append, take_at, le-leb, le-ltb, eq-eqb}
use Rattle.std.proofs.Math.Decide.{dec_lt}
use Rattle.std.proofs.Math.ListN.{get_or-append}
use Rattle.std.proofs.lemmas.Bool.{lt-leb}
use Rattle.model.specs.Arena.{last_serial, cells_of, head_of, bit_at, owner_at, waiters_at, is_free, state_of, state_at, head_fits, shape_fits, health_fits}
use Rattle.model.specs.Refusals.{first}
use Rattle.model.specs.Checks.{count_in}
use Rattle.model.specs.Crew.{total, start_of, list_of, all_within, rises_from, bad_limits, bad_lists, bad_turns, crew_rules, crew_of, crew_at_work_of}
use Rattle.model.specs.Sorted.{merge_of, merged_of, sort_of, sorted_of, cells_from, cells_asked, cells_sorted, first_asking, first_key}
use Rattle.types.specs.declared.CrewReply.{CrewReply}
use Rattle.types.specs.declared.Head.{Head}
use Rattle.types.specs.declared.State.TheVariants as state
use Rattle.laws.specs.Keys.{place_inside}
use Rattle.laws.specs.Lists.{zeros}
use Rattle.laws.specs.Sorting.{is_among, first_asking_lem, sorted_listed}
use Rattle.history.specs.Items.{Clear, key_cell}
use Rattle.history.specs.Statements.{CrewBuild, CrewAtWorkBuild}
use Rattle.history.specs.Judged.{clear_fine, clear_append}
use Rattle.history.proofs.Shared.{asked_length, asked_at, first_place, first_place_at}
use Rattle.crew_theory.specs.Statements.{In, flat, UnfinishedSaid, RoundsSaid, RoundsAfter, RoundsAtWork, Open, Enough, EnoughAtWork, Completed, Complete, tabled}
use Rattle.crew_theory.proofs.Theorems.{demand_3, demand_3_at_work}
use Rattle.sorted_theory.specs.Keys.{keys_inside}

-- what a caller gives `acquire_sorted_locks` to lock
pub record Caller : Type 0 where
  pub registry : List ℕ
  pub keys : List ℕ

-- the cells of its keys as typed, and in the order in which it locks them
abbrev pub asks : ℕ → Caller → ℕ → ℕ
asks buckets c p = key_cell buckets c.registry c.keys p

abbrev pub wants : ℕ → Caller → List ℕ
wants buckets c = cells_sorted buckets c.registry c.keys

-- the same of all callers, as a crew is given them: how many cells each, and the lists one behind the other
unfoldable pub counts_of : ℕ → List Caller → List ℕ
counts_of buckets [] = []
counts_of buckets (c ∷ cs) = length (wants buckets c) ∷ counts_of buckets cs

unfoldable pub cells_of_lem : ℕ → List Caller → List ℕ
cells_of_lem buckets [] = []
cells_of_lem buckets (c ∷ cs) = wants buckets c ++ cells_of_lem buckets cs

-- all callers are so
abbrev pub All : (Caller → Type 0) → List Caller → Type 0
All P [] = Unit {0}
All P (c ∷ cs) = P c × All P cs

-- ---- what is asked of them

-- every header and bucket that it names is there, and "0 to 64 cells". Its bindings are not spoken of: one past the registry is refused by the call
pub record AsksWell (h : Head) (c : Caller) : Type 0 where
  pub inside : first_key (count_in c.keys) 0 h c.registry c.keys ≡ Ok tt
  pub few : length (wants h.buckets c) ≤ 64

-- the arena fits, "1 to 16 members", "K at most 256", "up to 65,536 turns naming members"
pub record Crowd (h : Head) (t g : List ℕ) (callers : List Caller) (turns : List ℕ) : Type 0 where
  pub shape : shape_fits h (length t) ≡ true
  pub health : health_fits h (length g) ≡ true
  pub some : 1 ≤ length callers
  pub few : length callers ≤ 16
  pub each : All (AsksWell h) callers
  pub cells_few : total (counts_of h.buckets callers) ≤ 256
  pub turns_few : length turns ≤ 65536
  pub members : (i : ℕ) → i < length turns → get_or turns i 0 < length callers

-- "Named cells start free and unwaited, headers healthy"
abbrev pub Calm : Head → (t g : List ℕ) → ℕ → Type 0
Calm h t g c = (state_at h.next t c ≡ state.Free) × (waiters_at t c ≡ 0) × (get_or g (c / h.buckets) 0 ≡ 0)

-- the cells of every key of every caller, and "K serials remain"
pub record ReadyFor (h : Head) (t g : List ℕ) (callers : List Caller) : Type 0 where
  pub calm : All (λ c. (p : ℕ) → p < count_in c.keys → Calm h t g (asks h.buckets c p)) callers
  pub serials : h.next + total (counts_of h.buckets callers) ≤ last_serial

-- ---- what is proved of them

-- they are a crew: BadCrew does not apply, nor does another check
abbrev pub CallersAreCrew : Type 0
CallersAreCrew =
    (h : Head) (t g : List ℕ) (callers : List Caller) (turns : List ℕ) → Crowd h t g callers turns
    → first (crew_rules h t g (counts_of h.buckets callers) (cells_of_lem h.buckets callers) turns) ≡ Ok tt

-- and its members are the callers, in their order: each wants the sorted cells of its caller's keys
abbrev pub ListsAre : Type 0
ListsAre =
    (b : ℕ) (before after : List Caller) (c : Caller)
    → list_of (counts_of b (before ++ (c ∷ after))) (cells_of_lem b (before ++ (c ∷ after))) (length before) ≡ wants b c

-- demand 3, "whatever the order of turns": after 2K rounds, K being the distinct cells of each caller in all, all have held their whole lists
-- and released them
abbrev pub CallersFinish : CrewBuild → Type 0
CallersFinish f =
    (h : Head) (t g : List ℕ) (callers : List Caller) (rounds : List (List ℕ))
    → let counts = counts_of h.buckets callers in
    let cells = cells_of_lem h.buckets callers in
    Crowd h t g callers (flat rounds) → ReadyFor h t g callers → RoundsAfter f h t g counts cells [] rounds → Enough counts rounds
    → Complete h t counts (flat rounds) (f h t g counts cells (flat rounds))

-- and at work after 3K
abbrev pub CallersFinishAtWork : CrewAtWorkBuild → Type 0
CallersFinishAtWork f =
    (h : Head) (t g : List ℕ) (callers : List Caller) (counters : List ℕ) (rounds : List (List ℕ))
    → let counts = counts_of h.buckets callers in
    let cells = cells_of_lem h.buckets callers in
    Crowd h t g callers (flat rounds) → ReadyFor h t g callers → length counters ≡ cells_of h → RoundsAtWork f h t g counts cells counters [] rounds → EnoughAtWork counts rounds
    → Completed (3 * total counts) h t counts (flat rounds) (tabled (f h t g counts cells (flat rounds) counters))

-- ---- two callers, falling keys and a double: cells 5, 3, 5 and cells 3, 0

abbrev pub bench : Head
bench = head_of 2 4 1 5

abbrev pub two_callers : List Caller
two_callers = record { registry = 0 ∷ 1 ∷ 1 ∷ []; keys = 1 ∷ 1 ∷ 0 ∷ 3 ∷ 2 ∷ 1 ∷ [] } ∷ record { registry = 0 ∷ []; keys = 0 ∷ 3 ∷ 0 ∷ 0 ∷ [] } ∷ []

abbrev pub table : List ℕ
table = replicate 24 0

abbrev pub health : List ℕ
health = replicate 2 0

abbrev pub eight : List (List ℕ)
eight = replicate 8 (0 ∷ 1 ∷ [])
