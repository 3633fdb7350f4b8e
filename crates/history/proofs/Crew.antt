-- The crew, in either work: whatever the turns, each lease that a member noted and has not released is live, and no two of them are the same.
-- ---- the places of the lists
use Rattle.std.specs.Prelude.{ℕ, zero, suc, ◌+◌, ◌-◌, ◌≤◌, ◌<◌, ◌≡◌, Bool, ltb, leb, eqb, length, set, replicate, if◌then◌else◌}
use Rattle.std.proofs.Math.Path.{refl, ap}
use Rattle.std.proofs.Common.{sym, ◌∙◌, subst, length-set, get_or-set_same, get_or-set_other}
use mathlib.Core.List.{List, [], ◌∷◌, ◌++◌}
use Rattle.std.proofs.Math.Bool.{true, false}
use Rattle.std.proofs.Math.Decide.{ℕ_discrete, dec_lt}
use native.Mathlib.Omega.{arith}
use Rattle.std.proofs.Math.ListN.{get_or, get_or-eq_default}
use Rattle.std.proofs.lemmas.List.{length-replicate}
use borrow.Author.Tests.{ltb-true, ltb-false, leb-false}
use Rattle.model.specs.Log.{Made, Event, by_caller, attempt_begun, boundary_run, released, held_all_lem, added, note, gives, ◌>>◌}
use Rattle.model.specs.Arena.{cells_of, header_of, is_poisoned, hold_of, set_cell, waiters_at, is_in}
use Rattle.model.specs.Foreign.{flow_of, run_steps_of, boundary_of}
use Rattle.model.specs.Lock.{take_of, late_stage_of, after_take, second_stage_of, lock_of}
use Rattle.model.specs.Calls.{given}
use Rattle.model.specs.Crew.{Work, adds_of, moves_of, total, start_of, count_of, bad_limits, bad_lists, bad_turns, plan_rules, crew_rules, crew_at_work_rules, Crew, crew_start, moved, is_full, after_try, try_turn_of, held_all_of, add_turn_of, release_turn_of, turn_of, turns_of}
use Rattle.types.specs.declared.Head.{Head}
use Rattle.types.specs.declared.Hold.{Hold}
use Rattle.types.specs.declared.Locked.{Locked}
use Rattle.types.specs.declared.Outcome.{Outcome}
use Rattle.types.specs.declared.Take.{Take}
use Rattle.types.specs.declared.Take.TheVariants as taking
use Rattle.choice.specs.Pick.{if_both}
use Rattle.laws.specs.Lists.{zeros}
use Rattle.laws.specs.Crew.{adds_few, start_fits, limits_fine, cell_inside}
use Rattle.history.specs.World.{World, world_of, Live, Unreleased}
use Rattle.history.specs.Items.{Clear}
use Rattle.history.specs.Tests.{differ, In, in_first, if_cases}
use Rattle.history.specs.Events.{Fit, lives}
use Rattle.history.specs.Logs.{Kept}
use Rattle.history.proofs.Logs.{nothing, event, kept_fit, kept_live, weaken, ended}
use Rattle.history.specs.Judged.{clear_front, clear_fine}
use Rattle.history.specs.Steps.{world_at, With, Gained, gained, was_busy, was_refused}
use Rattle.history.proofs.Steps.{Gains, followed, lock_kept}
use Rattle.history.specs.Crew.{Limits, Holds, noted, Safe, Moves, Noted, mine, other, new_one, old_one}

start_rises : (counts : List ℕ) (m k : ℕ) → m < k → start_of counts m + count_of counts m ≤ start_of counts k
unfolding start_of total
start_rises [] zero k l = omega arith
start_rises [] (suc m) k l = omega arith
start_rises (n ∷ ns) m zero l = absurd (omega arith)
start_rises (n ∷ ns) zero (suc k) l = omega arith
start_rises (n ∷ ns) (suc m) (suc k) l = omega (arith, start_rises ns m k (omega arith))

-- no place belongs to two
pub one_place : (counts : List ℕ) (m j k i : ℕ) → j < count_of counts m → i < count_of counts k → start_of counts m + j ≡ start_of counts k + i → (m ≡ k) × (j ≡ i)
one_place counts m j k i a b e = go (dec_lt m k) (dec_lt k m)
  where
    go : Dec (m < k) → Dec (k < m) → (m ≡ k) × (j ≡ i)
    go (yes p) q = absurd (omega (arith, start_rises counts m k p))
    go (no p) (yes q) = absurd (omega (arith, start_rises counts k m q))
    go (no p) (no q) = let s : m ≡ k = omega arith in (s, omega (arith, ap (start_of counts) s))

pub limits : (h : Head) (counts cells turns : List ℕ) → Clear (plan_rules h counts cells turns) → Limits h counts cells
limits h counts cells turns c =
    let lists = bad_lists (length counts) 0 (cells_of h) counts cells in
    let k = limits_fine counts cells turns (clear_fine (bad_limits counts cells turns ∷ []) (c.0, tt)) in
    record {
      members = k.few_members;
      small = k.few_cells;
      inside = cell_inside (cells_of h) counts cells k.cells_are (clear_fine lists (clear_front lists (bad_turns (length counts) 0 turns) c.1));
    }

-- both calls check the plan
pub crew_plan : (h : Head) (t g counts cells turns : List ℕ) → Clear (crew_rules h t g counts cells turns) → Clear (plan_rules h counts cells turns)
unfolding crew_rules
crew_plan h t g counts cells turns c = c.1.1

pub crew_at_work_plan : (h : Head) (t g counts cells turns counters : List ℕ) → Clear (crew_at_work_rules h t g counts cells turns counters) → Clear (plan_rules h counts cells turns)
unfolding crew_at_work_rules
crew_at_work_plan h t g counts cells turns counters c = c.1.1.1

moves : (made : List ℕ) (m k : ℕ) → m < length made → Moves made m k
moves made m k l = go (ℕ_discrete k m)
  where
    go : Dec (k ≡ m) → Moves made m k
    go (yes e) = mine e (rw e (get_or-set_same made m (get_or made m 0 + 1) 0 l))
    go (no e) = other e (get_or-set_other made m k (get_or made m 0 + 1) 0 e)

-- ---- a lock with no script spares every lease, and leaves the health alone

module _ (h : Head) (n : ℕ) (t g : List ℕ) (c : ℕ) where
  -- what is protected makes no difference
  late_same : (ps : List Hold) (k d : ℕ) (u : List ℕ) (s : ℕ) → late_stage_of (given h [] ps) h.buckets (flow_of k 0 d) u g c s ≡ late_stage_of (given h [] []) h.buckets (flow_of k 0 d) u g c s
  unfolding late_stage_of boundary_of run_steps_of
  late_same ps k d u s = refl

  after_same : (ps : List Hold) (a : Take) (k d : ℕ) (u : List ℕ) → after_take a (given h [] ps) h.buckets (flow_of k 0 d) u g c ≡ after_take a (given h [] []) h.buckets (flow_of k 0 d) u g c
  after_same ps (taking.Granted s) k d u = late_same ps k d u s
  after_same ps (taking.Busy owner) k d u = refl
  after_same ps taking.Damaged k d u = refl
  after_same ps taking.Spent k d u = refl

  second_same : (ps : List Hold) → second_stage_of (given h [] ps) h.buckets (flow_of n 0 0) t g c ≡ second_stage_of (given h [] []) h.buckets (flow_of n 0 0) t g c
  unfolding second_stage_of boundary_of run_steps_of
  second_same ps =
      let k = take_of n t c in
      ap (λ (m : Made (With Locked)). record { seen = m.seen; log = (boundary_run ∷ []) ++ (k.log ++ m.log) })
      (after_same ps k.seen.0.answer k.seen.0.next 0 k.seen.1)

  lock_same : (ps : List Hold) → lock_of (given h [] ps) h.buckets (flow_of n 0 0) t g c ≡ lock_of (given h [] []) h.buckets (flow_of n 0 0) t g c
  unfolding lock_of boundary_of run_steps_of
  lock_same ps = rw (second_same ps)

  pub same_health : (lock_of (given h [] []) h.buckets (flow_of n 0 0) t g c).seen.1.1 ≡ g
  unfolding lock_of second_stage_of late_stage_of boundary_of run_steps_of
  same_health = if_both (λ (m : Made (With Locked)). m.seen.1.1 ≡ g) (eqb (waiters_at t c) 0) (go (take_of n t c).seen.0.answer) refl
    where
      go : (a : Take) → (after_take a (given h [] []) h.buckets (flow_of (take_of n t c).seen.0.next 0 0) (take_of n t c).seen.1 g c).seen.1.1 ≡ g
      go (taking.Granted s) =
          if_both (λ (m : Made (With Locked)). m.seen.1.1 ≡ g) (is_poisoned g (header_of h.buckets c)) refl
          (if_both (λ (m : Made (With Locked)). m.seen.1.1 ≡ g) (eqb (waiters_at (take_of n t c).seen.1 c) 0) refl refl)
      go (taking.Busy owner) = refl
      go taking.Damaged = refl
      go taking.Spent = refl

  quiet_lock : Fit (world_at h n t g) → c < cells_of h
      → Gains (λ a. world_at h a.0.flow.next a.1.0 g) (λ a. Gained n (world_at h a.0.flow.next a.1.0 g) c a.0.answer) (world_at h n t g)
      (λ _. Unit {0}) (lock_of (given h [] []) h.buckets (flow_of n 0 0) t g c)
  quiet_lock good l =
      let m = (lock_of (given h [] []) h.buckets (flow_of n 0 0) t g c).seen in
      let k = lock_kept h [] [] (flow_of n 0 0) t g c good l in
      record {
        kept = record {
          lawful = k.kept.lawful;
          leads = sym (ap (world_at h m.0.flow.next m.1.0) same_health) ∙ k.kept.leads;
          spares = λ x _ v.
              subst (λ (m : Made (With Locked)). Unreleased x m.log) (lock_same (x ∷ [])) ((lock_kept h [] (x ∷ []) (flow_of n 0 0) t g c good l).kept.spares x (in_first x []) v);
        };
        gain = subst (λ y. Gained n (world_at h m.0.flow.next m.1.0 y) c m.0.answer) same_health k.gain;
      }

-- ---- a turn

module _ (work : Work) (h : Head) (counts cells : List ℕ) (lim : Limits h counts cells) where
  member : (made : List ℕ) (m : ℕ) → length made ≡ 16 → 0 < count_of counts m → m < length made
  member made m e l = go (dec_lt m (length counts))
    where
      go : Dec (m < length counts) → m < length made
      go (yes k) = omega (arith, lim.members)
      go (no k) = absurd (omega (arith, get_or-eq_default counts 0 {n = m} (omega arith)))

  still_safe : {w v : World} {es : List Event} {made serials : List ℕ} → Kept w (λ _. Unit {0}) v es → Safe work counts cells w made serials → Safe work counts cells v made serials
  still_safe k s =
      record {
        good = kept_fit s.good k;
        many_members = s.many_members;
        many_places = s.many_places;
        holds = λ m j x. kept_live s.good k _ tt (s.holds m j x);
        distinct = s.distinct;
      }

  module _ (w v : World) (es : List Event) (made serials : List ℕ) (m : ℕ) (s : Safe work counts cells w made serials) where
    abbrev done : ℕ
    done = get_or made m 0

    -- a take: the next cell's lease is noted
    taken_safe : (x : ℕ) → Kept w (λ _. Unit {0}) v es → done < count_of counts m → Live v (hold_of (get_or cells (start_of counts m + done) 0) x) → w.head.next ≤ x
        → Safe work counts cells v (moved made m) (set serials (start_of counts m + done) x)
    taken_safe x k l new young =
        record {
          good = kept_fit s.good k;
          many_members = length-set made m (done + 1) ∙ s.many_members;
          many_places = length-set serials p x ∙ s.many_places;
          holds = λ i j a. alive i j (which i j a);
          distinct = λ i j i' j' a b. apart i j i' j' (which i j a) (which i' j' b);
        }
      where
        p : ℕ
        p = start_of counts m + done

        after : ℕ → Hold
        after q = noted cells (set serials p x) q

        Which : ℕ → ℕ → Type 0
        Which i j = Noted work counts cells made serials m x i j

        unmoved : (q : ℕ) → (q ≡ p → ⊥) → after q ≡ noted cells serials q
        unmoved q n = ap (hold_of (get_or cells q 0)) (get_or-set_other serials p q x 0 n)

        which : (i j : ℕ) → Holds work counts (moved made m) i j → Which i j
        which i j a = go (moves made m i (member made m s.many_members (omega arith))) (ℕ_discrete j done)
          where
            go : Moves made m i → Dec (j ≡ done) → Which i j
            go (mine e f) (yes d) =
                let q : start_of counts i + j ≡ p = cc in
                new_one e d (rw q (ap (hold_of (get_or cells p 0)) (get_or-set_same serials p x 0 (omega (arith, start_fits counts m, lim.small, s.many_places)))))
            go (mine e f) (no d) =
                let e₁ : get_or made i 0 ≡ done = ap (λ (z : ℕ). get_or made z 0) e in
                let e₂ : count_of counts i ≡ count_of counts m = ap (count_of counts) e in
                old_one (omega arith, omega arith, omega arith) (unmoved (start_of counts i + j) (λ q. d (one_place counts i j m done (omega arith) l q).1))
            go (other e f) d = old_one (omega arith, omega arith, omega arith) (unmoved (start_of counts i + j) (λ q. e (one_place counts i j m done (omega arith) l q).0))

        alive : (i j : ℕ) → Which i j → Live v (after (start_of counts i + j))
        alive i j (new_one a b e) = subst (Live v) (sym e) new
        alive i j (old_one a e) = subst (Live v) (sym e) (kept_live s.good k _ tt (s.holds i j a))

        old : (i j : ℕ) → Holds work counts made i j → get_or serials (start_of counts i + j) 0 < w.head.next
        old i j a = (lives w (noted cells serials (start_of counts i + j)) (s.holds i j a)).high

        apart : (i j i' j' : ℕ) → Which i j → Which i' j' → after (start_of counts i + j) ≡ after (start_of counts i' + j') → (i ≡ i') × (j ≡ j')
        apart i j i' j' (new_one a b e) (new_one c d f) q = (omega arith, omega arith)
        apart i j i' j' (new_one a b e) (old_one c f) q = absurd (omega (arith, old i' j' c, ap (λ (z : Hold). z.serial) (sym e ∙ q ∙ f)))
        apart i j i' j' (old_one a e) (new_one c d f) q = absurd (omega (arith, old i j a, ap (λ (z : Hold). z.serial) (sym e ∙ q ∙ f)))
        apart i j i' j' (old_one a e) (old_one c f) q = s.distinct i j i' j' a c (sym e ∙ q ∙ f)

    -- an add, or a release: what is held after it was held before
    later_safe : {P : Hold → Type 0} → Kept w P v es → count_of counts m ≤ done → done < moves_of work (count_of counts m)
        → ((i j : ℕ) → Holds work counts (moved made m) i j → Holds work counts made i j → P (noted cells serials (start_of counts i + j)))
        → Safe work counts cells v (moved made m) serials
    later_safe k a b spared =
        record {
          good = kept_fit s.good k;
          many_members = length-set made m (done + 1) ∙ s.many_members;
          many_places = s.many_places;
          holds = λ i j x. let o = was i j x in kept_live s.good k _ (spared i j x o) (s.holds i j o);
          distinct = λ i j i' j' x y. s.distinct i j i' j' (was i j x) (was i' j' y);
        }
      where
        was : (i j : ℕ) → Holds work counts (moved made m) i j → Holds work counts made i j
        was i j x = go (moves made m i (member made m s.many_members (omega (arith, adds_few work (count_of counts m)))))
          where
            go : Moves made m i → Holds work counts made i j
            go (mine e f) =
                let e₁ : get_or made i 0 ≡ done = ap (λ (q : ℕ). get_or made q 0) e in
                let e₂ : count_of counts i ≡ count_of counts m = ap (count_of counts) e in
                (omega arith, omega arith, omega arith)
            go (other e f) = (omega arith, omega arith, omega arith)

    -- a release, of the last cell that it holds: no other lease that is held is the same
    gave_safe : (z : ℕ) → Kept w (λ l. l ≡ noted cells serials (start_of counts m + z) → ⊥) v es
        → count_of counts m + adds_of work (count_of counts m) ≤ done → z + done + 1 ≡ moves_of work (count_of counts m)
        → Safe work counts cells v (moved made m) serials
    gave_safe z k a b = later_safe k (omega arith) (omega arith) (λ i j x o q. go i j x (moves made m i (member made m s.many_members (omega arith))) (s.distinct i j m z o (omega arith, omega arith, omega arith) q))
      where
        go : (i j : ℕ) → Holds work counts (moved made m) i j → Moves made m i → (i ≡ m) × (j ≡ z) → ⊥
        go i j x (mine e f) d = omega (arith, d.1, ap (λ y. moves_of work (count_of counts y)) e)
        go i j x (other e f) d = e d.0

  module _ (g : List ℕ) where
    abbrev of_crew : Crew → World
    of_crew w = world_at h w.next w.table g

    abbrev Steady : Crew → Type 0
    Steady w = Safe work counts cells (of_crew w) w.made w.serials

    abbrev Turning : Crew → Made Crew → Type 0
    Turning w = Gains of_crew Steady (of_crew w) (In [])

    after_try_lem : (w : Crew) (m : ℕ) (next : ℕ) (u : List ℕ) (es : List Event) (a : Outcome) → Steady w → get_or w.made m 0 < count_of counts m
        → Gained w.next (world_at h next u g) (get_or cells (start_of counts m + get_or w.made m 0) 0) a → Kept (of_crew w) (λ _. Unit {0}) (world_at h next u g) es
        → Turning w (record { seen = after_try a next u w m (start_of counts m + get_or w.made m 0); log = es })
    after_try_lem w m next u es a s l (gained x v y) k =
        record { kept = weaken (λ _ _ _. tt) k; gain = taken_safe (of_crew w) (world_at h next u g) es w.made w.serials m s x k l v y }
    after_try_lem w m next u es a s l was_busy k = record { kept = weaken (λ _ _ _. tt) k; gain = still_safe k s }
    after_try_lem w m next u es a s l (was_refused r) k = record { kept = weaken (λ _ _ _. tt) k; gain = still_safe k s }

    try_turn : (w : Crew) (m : ℕ) → Steady w → get_or w.made m 0 < count_of counts m
        → let p = start_of counts m + get_or w.made m 0 in Turning w (try_turn_of h.headers h.buckets g w m p (get_or cells p 0))
    unfolding try_turn_of
    try_turn w m s l =
        let p = start_of counts m + get_or w.made m 0 in
        let c = get_or cells p 0 in
        let k = quiet_lock h w.next w.table g c s.good (lim.inside m (get_or w.made m 0) l) in
        let o = (lock_of (given h [] []) h.buckets (flow_of w.next 0 0) w.table g c).seen in
        if_both (Turning w) (is_poisoned g (header_of h.buckets c)) (record { kept = nothing; gain = s })
        (followed s.good (event attempt_begun tt (λ l i v x. x)) (after_try_lem w m o.0.flow.next o.1.0 _ o.0.answer s l k.gain (ended k.kept)))

    -- that a member came to hold all changes no word
    filled_turn : (w : Crew) (m : ℕ) → Steady w → Turning w (held_all_of counts cells w m)
    unfolding held_all_of
    filled_turn w m s = record { kept = go (is_full counts w.made m); gain = s }
      where
        go : (b : Bool) → Kept (of_crew w) (In []) (of_crew w) ((if b then note (held_all_lem m) else gives tt) >> gives w).log
        go true = event (held_all_lem m) tt (λ l i v x. x)
        go false = nothing

    -- and neither does an add
    add_turn : (w : Crew) (m c : ℕ) → Steady w → count_of counts m ≤ get_or w.made m 0 → get_or w.made m 0 < moves_of work (count_of counts m) → Turning w (add_turn_of w m c)
    unfolding add_turn_of
    add_turn w m c s a b =
        let k : Kept (of_crew w) (λ _. Unit {0}) (of_crew w) (added m c (get_or w.noted m 0) ∷ []) = event (added m c (get_or w.noted m 0)) tt (λ l i v x. x) in
        record {
          kept = weaken (λ _ _ _. tt) k;
          gain = later_safe (of_crew w) (of_crew w) (added m c (get_or w.noted m 0) ∷ []) w.made w.serials m s k a b (λ i j x o. tt);
        }

    release_turn : (w : Crew) (m : ℕ) (z : ℕ) → Steady w → count_of counts m + adds_of work (count_of counts m) ≤ get_or w.made m 0 → z + get_or w.made m 0 + 1 ≡ moves_of work (count_of counts m)
        → let p = start_of counts m + z in Turning w (release_turn_of w m p (get_or cells p 0))
    unfolding release_turn_of is_in
    release_turn w m z s a b =
        let p = start_of counts m + z in
        let l = noted cells w.serials p in
        let k : Kept (of_crew w) (λ x. x ≡ l → ⊥) (world_at h w.next (set_cell w.table l.cell 0 0) g) (released by_caller l.cell l.serial ∷ []) =
        event (released by_caller l.cell l.serial) (s.holds m z (omega arith, omega arith, omega arith)) (λ x n v e. n e) in
        record {
          kept = weaken (λ x i v. absurd (differ i)) k;
          gain = gave_safe (of_crew w) (world_at h w.next (set_cell w.table l.cell 0 0) g) (released by_caller l.cell l.serial ∷ []) w.made w.serials m s z k a b;
        }

    turn_kept : (w : Crew) (m : ℕ) → Steady w → Turning w (turn_of work h.headers h.buckets g counts cells w m)
    unfolding turn_of
    turn_kept w m s =
        let n = get_or w.made m 0 in
        let count = count_of counts m in
        let all = moves_of work count in
        if_cases (Turning w) (leb all n) (λ e. record { kept = nothing; gain = s })
        (λ e. if_cases (Turning w) (ltb n count)
        (λ f. let k = try_turn w m s (ltb-true n count f) in
        followed s.good k.kept (filled_turn (try_turn_of h.headers h.buckets g w m (start_of counts m + n) (get_or cells (start_of counts m + n) 0)).seen m k.gain))
        (λ f. if_cases (Turning w) (ltb n (count + adds_of work count))
        (λ i. add_turn w m (get_or cells (start_of counts m + (n - count)) 0) s (ltb-false n count f) (leb-false all n e))
        (λ i. release_turn w m (all - 1 - n) s (ltb-false n (count + adds_of work count) i) (omega (arith, leb-false all n e)))))

    turns_kept : (w : Crew) (ms : List ℕ) → Steady w → Turning w (turns_of work h.headers h.buckets g counts cells w ms)
    unfolding turns_of
    turns_kept w [] s = record { kept = nothing; gain = s }
    turns_kept w (m ∷ ms) s =
        let k = turn_kept w m s in
        let v = (turn_of work h.headers h.buckets g counts cells w m).seen in
        followed s.good k.kept (turns_kept v ms k.gain)

pub crew_kept : (work : Work) (h : Head) (t g counts cells turns counters : List ℕ) → Fit (world_of h t g) → Clear (plan_rules h counts cells turns)
    → let m = turns_of work h.headers h.buckets g counts cells (crew_start h t counters) turns in
    Kept (world_of h t g) (In []) (world_at h m.seen.next m.seen.table g) m.log
crew_kept work h t g counts cells turns counters good k =
    (turns_kept work h counts cells (limits h counts cells turns k) g (crew_start h t counters) turns start).kept
  where
    none : (m j : ℕ) → Holds work counts (replicate 16 0) m j → ⊥
    none m j a = omega (arith, zeros 16 m)

    start : Safe work counts cells (world_of h t g) (replicate 16 0) (replicate 256 0)
    start =
        record {
          good = good;
          many_members = length-replicate {A = ℕ} 16 0;
          many_places = length-replicate {A = ℕ} 256 0;
          holds = λ m j a. absurd (none m j a);
          distinct = λ m j k i a b e. absurd (none m j a);
        }
