-- Demand 3 for callers that ask by keys: their sorted lists make a crew (the statements are in specs/Callers.antt), and an example.
-- ---- the lists of a crew
use Rattle.std.specs.Prelude.{ℕ, zero, suc, ◌+◌, ◌*◌, ◌-◌, ◌/◌, ◌≤◌, ◌<◌, ◌≡◌, refl, List, [], ◌∷◌, ◌++◌, true, false, not, length, get_or, take, drop, replicate}
use Rattle.std.proofs.Common.{sym, ap, ◌∙◌, subst, inl, inr, arith, length-append, take_at, le-leb, le-ltb, eq-eqb}
use Rattle.std.proofs.Math.Decide.{dec_lt}
use Rattle.std.proofs.Math.ListN.{get_or-append}
use Rattle.std.proofs.lemmas.Bool.{lt-leb}
use Rattle.model.specs.Arena.{last_serial, cells_of, head_of, bit_at, owner_at, waiters_at, is_free, state_of, state_at, head_fits, shape_fits, health_fits}
use Rattle.model.specs.Refusals.{first}
use Rattle.model.specs.Checks.{count_in}
use Rattle.model.specs.Crew.{total, start_of, list_of, all_within, rises_from, bad_limits, bad_lists, bad_turns, crew_rules, crew_of, crew_at_work_of}
use Rattle.model.specs.Sorted.{merge_of, merged_of, sort_of, sorted_of, cells_from, cells_asked, cells_sorted, first_asking, first_key}
use Rattle.types.specs.declared.CrewReply.{CrewReply}
use Rattle.types.specs.declared.Head.{Head}
use Rattle.types.specs.declared.State.TheVariants as state
use Rattle.laws.specs.Keys.{place_inside}
use Rattle.laws.specs.Lists.{zeros}
use Rattle.laws.specs.Sorting.{is_among, first_asking_lem, sorted_listed}
use Rattle.history.specs.Items.{Clear, key_cell}
use Rattle.history.specs.Statements.{CrewBuild, CrewAtWorkBuild}
use Rattle.history.specs.Judged.{clear_fine, clear_append}
use Rattle.history.proofs.Shared.{asked_length, asked_at, first_place, first_place_at}
use Rattle.crew_theory.specs.Statements.{In, flat, UnfinishedSaid, RoundsSaid, RoundsAfter, RoundsAtWork, Open, Enough, EnoughAtWork, Completed, Complete, tabled}
use Rattle.crew_theory.proofs.Theorems.{demand_3, demand_3_at_work}
use Rattle.sorted_theory.specs.Keys.{keys_inside}
use Rattle.sorted_theory.specs.Callers.{Caller, asks, wants, counts_of, cells_of_lem, All, AsksWell, Crowd, Calm, ReadyFor, CallersAreCrew, ListsAre, CallersFinish, CallersFinishAtWork}
use Rattle.sorted_theory.specs.Callers.{bench, two_callers, table, health, eight}

members_are : (b : ℕ) (cs : List Caller) → length (counts_of b cs) ≡ length cs
unfolding counts_of
members_are b [] = refl
members_are b (c ∷ cs) = ap suc (members_are b cs)

cells_are : (b : ℕ) (cs : List Caller) → length (cells_of_lem b cs) ≡ total (counts_of b cs)
unfolding counts_of cells_of_lem total
cells_are b [] = refl
cells_are b (c ∷ cs) = omega (arith, length-append (wants b c) (cells_of_lem b cs), cells_are b cs)

lists_short : (h : Head) (cs : List Caller) → All (AsksWell h) cs → all_within 64 (counts_of h.buckets cs) ≡ true
unfolding counts_of all_within
lists_short h [] a = refl
lists_short h (c ∷ cs) a = rw (le-leb (length (wants h.buckets c)) 64 a.0.few) (lists_short h cs a.1)

drop_past : (xs ys : List ℕ) (n : ℕ) → drop (length xs + n) (xs ++ ys) ≡ drop n ys
drop_past [] ys n = let e : 0 + n ≡ n = omega arith in ap (λ (k : ℕ). drop k ys) e
drop_past (x ∷ xs) ys n = let e : length (x ∷ xs) + n ≡ suc (length xs + n) = omega arith in rw e (drop_past xs ys n)

pub lists_are : ListsAre
unfolding counts_of cells_of_lem start_of total
lists_are b [] after c = take_at (wants b c) (cells_of_lem b after) (length (wants b c)) refl
lists_are b (d ∷ before) after c =
    let all = before ++ (c ∷ after) in
    rw (drop_past (wants b d) (cells_of_lem b all) (total (take (length before) (counts_of b all)))) (lists_are b before after c)

-- each member's list is its caller's, so it rises and stays in range
asked_inside : (h : Head) (c : Caller) → AsksWell h c → (d : ℕ) → is_among d (cells_asked h.buckets c.registry c.keys) ≡ true → d < cells_of h
asked_inside h c a d e =
    let asked = cells_asked h.buckets c.registry c.keys in
    let f = first_asking_lem d asked e in
    let l : first_asking asked d < count_in c.keys = omega (arith, f.0, asked_length h.buckets c.registry c.keys) in
    let k = keys_inside h c.registry c.keys a.inside (first_asking asked d) l in
    subst (λ (n : ℕ). n < cells_of h) (sym (asked_at h.buckets c.registry c.keys (first_asking asked d) l) ∙ f.1)
    (place_inside h.headers h.buckets _ _ k.0 k.1)

wants_rise : (h : Head) (c : Caller) → AsksWell h c → rises_from (cells_of h) 0 (wants h.buckets c) ≡ true
wants_rise h c a = sorted_listed (cells_of h) (cells_asked h.buckets c.registry c.keys) (asked_inside h c a)

lists_rise : (h : Head) (cs : List Caller) → All (AsksWell h) cs → (m : ℕ) → m < length cs
    → rises_from (cells_of h) 0 (list_of (counts_of h.buckets cs) (cells_of_lem h.buckets cs) m) ≡ true
unfolding counts_of cells_of_lem start_of total
lists_rise h [] a m l = absurd (omega arith)
lists_rise h (c ∷ cs) a zero l = rw (take_at (wants h.buckets c) (cells_of_lem h.buckets cs) (length (wants h.buckets c)) refl) (wants_rise h c a.0)
lists_rise h (c ∷ cs) a (suc m) l =
    rw (drop_past (wants h.buckets c) (cells_of_lem h.buckets cs) (total (take m (counts_of h.buckets cs)))) (lists_rise h cs a.1 m (omega arith))

lists_pass : (left m inside : ℕ) (counts cells : List ℕ) → ((i : ℕ) → i < m + left → rises_from inside 0 (list_of counts cells i) ≡ true) → Clear (bad_lists left m inside counts cells)
unfolding bad_lists
lists_pass zero m inside counts cells f = tt
lists_pass (suc left) m inside counts cells f = (ap not (f m (omega arith)), lists_pass left (m + 1) inside counts cells (λ i l. f i (omega arith)))

turns_pass : (members i : ℕ) (turns : List ℕ) → ((j : ℕ) → j < length turns → get_or turns j 0 < members) → Clear (bad_turns members i turns)
unfolding bad_turns
turns_pass members i [] f = tt
turns_pass members i (m ∷ ms) f = (lt-leb members m (f 0 (omega arith)), turns_pass members (i + 1) ms (λ j l. f (suc j) (omega arith)))

pub callers_are_crew : CallersAreCrew
unfolding crew_rules
callers_are_crew h t g callers turns k =
    let counts = counts_of h.buckets callers in
    let cells = cells_of_lem h.buckets callers in
    let n = members_are h.buckets callers in
    let limits : (bad_limits counts cells turns).applies ≡ false
    = rw (n, le-leb 1 (length callers) k.some, le-leb (length callers) 16 k.few, lists_short h callers k.each, le-ltb 256 (total counts) k.cells_few, eq-eqb (length cells) (total counts) (cells_are h.buckets callers))
    (le-ltb 65536 (length turns) k.turns_few) in
    clear_fine _ (
      ap not k.shape,
      (
        ap not k.health,
        (
          limits,
          clear_append (bad_lists (length counts) 0 (cells_of h) counts cells) (bad_turns (length counts) 0 turns)
              (lists_pass (length counts) 0 (cells_of h) counts cells (λ i l. lists_rise h callers k.each i (omega (arith, l, n))))
              (turns_pass (length counts) 0 turns (λ j l. omega (arith, k.members j l, n))),
        ),
      ),
    )

-- what holds of every key's cell holds of every cell of the crew
every_cell : (P : ℕ → Type 0) (b : ℕ) (cs : List Caller) → All (λ c. (p : ℕ) → p < count_in c.keys → P (asks b c p)) cs → (k : ℕ) → k < length (cells_of_lem b cs) → P (get_or (cells_of_lem b cs) k 0)
unfolding cells_of_lem
every_cell P b [] a k l = absurd (omega arith)
every_cell P b (c ∷ cs) a k l = go (dec_lt k (length (wants b c))) (every_cell P b cs a.1 (k - length (wants b c)))
  where
    past : (xs ys : List ℕ) (n : ℕ) → length xs ≤ n → get_or (xs ++ ys) n 0 ≡ get_or ys (n - length xs) 0
    past [] ys n l = let e : n - 0 ≡ n = omega arith in ap (λ (i : ℕ). get_or ys i 0) (sym e)
    past (x ∷ xs) ys zero l = absurd (omega arith)
    past (x ∷ xs) ys (suc n) l = let e : suc n - length (x ∷ xs) ≡ n - length xs = omega arith in past xs ys n (omega arith) ∙ ap (λ (i : ℕ). get_or ys i 0) (sym e)

    go : Dec (k < length (wants b c)) → (k - length (wants b c) < length (cells_of_lem b cs) → P (get_or (cells_of_lem b cs) (k - length (wants b c)) 0)) → P (get_or (wants b c ++ cells_of_lem b cs) k 0)
    go (yes d) r =
        let f = first_place_at b c.registry c.keys k d in
        subst P (f.1 ∙ sym (get_or-append (wants b c) (cells_of_lem b cs) 0 k d)) (a.0 (first_place b c.registry c.keys k) f.0)
    go (no d) r = subst P (sym (past (wants b c) (cells_of_lem b cs) k (omega arith))) (r (omega (arith, l, length-append (wants b c) (cells_of_lem b cs), d)))

-- so demand 3's premises are met
pub callers_open : (h : Head) (t g : List ℕ) (callers : List Caller) (turns : List ℕ) → Crowd h t g callers turns → ReadyFor h t g callers
    → Open h t g (counts_of h.buckets callers) (cells_of_lem h.buckets callers) turns
callers_open h t g callers turns k r =
    let all : (i : ℕ) → i < total (counts_of h.buckets callers) → Calm h t g (get_or (cells_of_lem h.buckets callers) i 0)
    = λ i l. every_cell (Calm h t g) h.buckets callers r.calm i (omega (arith, l, cells_are h.buckets callers)) in
    record {
      fine = callers_are_crew h t g callers turns k;
      free = λ i l. (all i l).0;
      unwaited = λ i l. (all i l).1;
      healthy = λ i l. (all i l).2;
      serials = r.serials;
    }

pub callers_finish : CallersFinish crew_of
callers_finish h t g callers rounds k r = demand_3 h t g (counts_of h.buckets callers) (cells_of_lem h.buckets callers) rounds (callers_open h t g callers (flat rounds) k r)

pub callers_finish_at_work : CallersFinishAtWork crew_at_work_of
callers_finish_at_work h t g callers counters rounds k r =
    demand_3_at_work h t g (counts_of h.buckets callers) (cells_of_lem h.buckets callers) counters rounds (callers_open h t g callers (flat rounds) k r)

-- the crew that they are
pub two_lists : (counts_of 4 two_callers ≡ 2 ∷ 2 ∷ []) × (cells_of_lem 4 two_callers ≡ 3 ∷ 5 ∷ 0 ∷ 3 ∷ [])
unfolding counts_of cells_of_lem merge_of merged_of sort_of sorted_of cells_from
two_lists = (refl, refl)

named_both : (n i : ℕ) → i < length (flat (replicate n (0 ∷ 1 ∷ []))) → get_or (flat (replicate n (0 ∷ 1 ∷ []))) i 0 < 2
named_both zero i l = absurd (omega arith)
named_both (suc n) zero l = omega arith
named_both (suc n) (suc zero) l = omega arith
named_both (suc n) (suc (suc i)) l = named_both n i (omega arith)

two_crowd : Crowd bench table health two_callers (flat eight)
unfolding counts_of total merge_of merged_of sort_of sorted_of cells_from first_key first head_fits shape_fits health_fits
two_crowd =
    record {
      shape = refl;
      health = refl;
      some = omega arith;
      few = omega arith;
      each = (record { inside = refl; few = omega arith }, (record { inside = refl; few = omega arith }, tt));
      cells_few = omega arith;
      turns_few = omega arith;
      members = named_both 8;
    }

-- in a prepared arena every cell is calm
calm : (c : ℕ) → Calm bench table health c
unfolding state_at state_of is_free bit_at owner_at waiters_at
calm c = (rw (zeros 24 (3 * c), zeros 24 (3 * c + 1)), zeros 24 (3 * c + 2), zeros 2 (c / 4))

two_ready : ReadyFor bench table health two_callers
unfolding counts_of total merge_of merged_of sort_of sorted_of cells_from
two_ready = record { calm = (λ p l. calm _, (λ p l. calm _, tt)); serials = omega arith }

-- turns that name both are rounds, whatever the replies
again : (reply : List ℕ → CrewReply) (n : ℕ) (before : List ℕ) → RoundsSaid reply (counts_of 4 two_callers) before (replicate n (0 ∷ 1 ∷ []))
again reply zero before = tt
again reply (suc n) before = (everyone, again reply n (before ++ (0 ∷ 1 ∷ [])))
  where
    everyone : (m : ℕ) → UnfinishedSaid reply (counts_of 4 two_callers) before m → In m (0 ∷ 1 ∷ [])
    everyone zero u = inl refl
    everyone (suc zero) u = inr (inl refl)
    everyone (suc (suc m)) u = absurd (omega (arith, u.0, members_are 4 two_callers))

-- so in eight rounds both have held their cells and released them
pub two_finish : Complete bench table (counts_of 4 two_callers) (flat eight) (crew_of bench table health (counts_of 4 two_callers) (cells_of_lem 4 two_callers) (flat eight))
unfolding total
two_finish =
    callers_finish bench table health two_callers eight two_crowd two_ready
    (again (λ turns. (crew_of bench table health (counts_of 4 two_callers) (cells_of_lem 4 two_callers) turns).seen.0) 8 [])
    (subst (λ (ns : List ℕ). Enough ns eight) (sym two_lists.0) (omega arith))
