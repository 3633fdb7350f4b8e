-- Progress, in any work: as long as a member is unfinished, some unfinished member is not idle, so each round has a moving turn.
use Prim.Native.Nat.{ℕ, zero, suc, ◌+◌, ◌-◌, min, ◌≤◌, ◌<◌}
use Rattle.std.specs.Prelude.{◌≡◌, ◌⊎◌}
use Rattle.std.proofs.Math.Path.{refl}
use Rattle.std.proofs.Common.{ap, ◌∙◌, inl, inr}
use mathlib.Core.List.{List, [], ◌∷◌}
use Rattle.std.proofs.Math.Decide.{dec_lt}
use native.Mathlib.Omega.{arith}
use Rattle.std.proofs.Math.ListN.{length, get_or}
use Rattle.model.specs.Log.{Event}
use Rattle.model.specs.Arena.{cells_of, is_free, state_of, state_at}
use Rattle.model.specs.Crew.{Work, moves_of, total, start_of, count_of, Crew, crew_at, turn_of, turns_of}
use Rattle.types.specs.declared.Head.{Head}
use Rattle.laws.specs.Crew.{adds_few, start_fits, member}
use Rattle.history.specs.Crew.{Holds}
use Rattle.crew_theory.specs.Statements.{In, flat, after, Unfinished, IsRound, Rounds, Open, Ready, Idle, finished, blocked, wish, Turn, idled, grabbed, summed, gave}
use Rattle.crew_theory.specs.Sum.{sum_at, sum_some}
use Rattle.crew_theory.specs.Turns.{turn_is, turns_append}
use Rattle.crew_theory.specs.Steady.{takings_of, left}
use Rattle.crew_theory.proofs.Steady.{Status, same, held, Steady, Goes, fit, was_free, turns_steady}

-- what a member has left to do is at most what all have
pub left_at : (f : ℕ → ℕ) (counts made : List ℕ) (m : ℕ) → 1 ≤ count_of counts m → f (count_of counts m) - get_or made m 0 ≤ left f counts made
unfolding left
left_at f counts made m l = sum_at (length counts) (λ q. f (count_of counts q) - get_or made q 0) m (member counts m l)

pub some_left : (f : ℕ → ℕ) (counts made : List ℕ) → 1 ≤ left f counts made → (q : ℕ) × ((q < length counts) × (get_or made q 0 < f (count_of counts q)))
unfolding left
some_left f counts made l = let x = sum_some (length counts) (λ q. f (count_of counts q) - get_or made q 0) l in (x.0, (x.1, omega (arith, x.2)))

module _ (work : Work) (h : Head) (t g counts cells turns : List ℕ) (o : Open h t g counts cells turns) where
  -- ---- not all unfinished members are idle

  module _ (next : ℕ) (u made : List ℕ) (moving : ℕ) (s : Steady work h t counts cells next u made moving) where
    abbrev Shut : ℕ → Type 0
    Shut m = Ready h.buckets g next u (wish counts cells made m) → ⊥

    abbrev Holder : ℕ → Type 0
    Holder m = (q : ℕ) × (j : ℕ) × Holds work counts made q j × (get_or cells (start_of counts q + j) 0 ≡ wish counts cells made m)

    -- the cell that a blocked member wants is held
    holder : (m : ℕ) → get_or made m 0 < count_of counts m → Shut m → Holder m
    unfolding state_at state_of is_free
    holder m l n = go (s.status (wish counts cells made m))
      where
        k : start_of counts m + get_or made m 0 < total counts
        k = omega (arith, start_fits counts m)

        go : Status work h t counts cells u made (wish counts cells made m) → Holder m
        go (same b w) =
            let f = was_free work h t g counts cells turns o m (get_or made m 0) l in
            absurd (n (record {
              healthy = o.healthy (start_of counts m + get_or made m 0) k;
              unwaited = s.waiters_are (wish counts cells made m) ∙ o.unwaited (start_of counts m + get_or made m 0) k;
              is_free_lem = rw (b, w, f.0, f.1);
              serial = omega (arith, s.serials, o.serials, left_at takings_of counts made m (omega arith));
            }))
        go (held q j x is) = (q, j, x, is)

    module _ (all : (m : ℕ) → get_or made m 0 < moves_of work (count_of counts m) → Idle work h.buckets g counts cells next u made m) where
      -- so many cells from here on
      abbrev Above : ℕ → ℕ → Type 0
      Above fuel m = get_or made m 0 < count_of counts m → Shut m → cells_of h ≤ wish counts cells made m + fuel → ⊥

      -- whoever waits for a cell waits for a holder that waits for a higher one
      climb : (fuel m : ℕ) → Above fuel m
      climb zero m l n f = omega (arith, (fit work h t g counts cells turns o).range m (get_or made m 0) l)
      climb (suc fuel) m l n f =
          let x = holder m l n in
          go x.0 x.1 x.2 x.3 (all x.0 (omega (arith, x.2.2))) (climb fuel)
        where
          go : (q j : ℕ) → Holds work counts made q j → get_or cells (start_of counts q + j) 0 ≡ wish counts cells made m
              → Idle work h.buckets g counts cells next u made q → ((p : ℕ) → Above fuel p) → ⊥
          go q j x is (finished d) up = omega (arith, x.2)
          go q j x is (blocked a b) up = up q a b (omega (arith, (fit work h t g counts cells turns o).rising q j (get_or made q 0) x.1 a))

      -- so nobody is unfinished
      none_left : (m : ℕ) → get_or made m 0 < moves_of work (count_of counts m) → ⊥
      none_left m l = go (all m l)
        where
          go : Idle work h.buckets g counts cells next u made m → ⊥
          go (finished d) = omega arith
          go (blocked a n) = climb (cells_of h) m a n (omega arith)

  -- ---- turns

  abbrev Idles : Crew → ℕ → Type 0
  Idles w m = Idle work h.buckets g counts cells w.next w.table w.made m

  -- some turns: one of them moved, or all were idle, for what they found at the first
  data Ran (w : Crew) (ms : List ℕ) (v : Crew) : Type 0 where
    moves : w.moving < v.moving → Ran w ms v
    rests : w.moving ≡ v.moving → ((m : ℕ) → In m ms → Idles w m) → Ran w ms v

  grown : {w v : Crew} {ms : List ℕ} → Ran w ms v → w.moving ≤ v.moving
  grown (moves l) = omega arith
  grown (rests e i) = omega arith

  then_ran : {w x v : Crew} {m : ℕ} {ms : List ℕ} {log : List Event} → Turn work h.buckets g counts cells w m x log → Ran x ms v → Ran w (m ∷ ms) v
  then_ran {w} {x} {v} {m} {ms} (idled i e q) r = go (rw e at r)
    where
      all_idle : (n : ℕ) → (n ≡ m) ⊎ In n ms → ((n : ℕ) → In n ms → Idles w n) → Idles w n
      all_idle n (inl p) j = rw p i
      all_idle n (inr p) j = j n p

      go : Ran (crew_at w.next w.table w.made w.serials w.moving (w.idle + 1) w.counters w.noted) ms v → Ran w (m ∷ ms) v
      go (moves l) = moves l
      go (rests l j) = rests l (λ n p. all_idle n p j)
  then_ran (grabbed l y e one) r = moves (omega (arith, grown r, ap (λ (c : Crew). c.moving) e))
  then_ran (summed l y e one) r = moves (omega (arith, grown r, ap (λ (c : Crew). c.moving) e))
  then_ran (gave l y e one) r = moves (omega (arith, grown r, ap (λ (c : Crew). c.moving) e))

  ran : (w : Crew) (ms : List ℕ) → Ran w ms (after work h g counts cells w ms)
  unfolding turns_of
  ran w [] = rests refl (λ m i. absurd i)
  ran w (m ∷ ms) = then_ran (turn_is work h.buckets g counts cells h.headers w m) (ran (turn_of work h.headers h.buckets g counts cells w m).seen ms)

  -- ---- rounds

  pub round_moves_on : (w : Crew) (r : List ℕ) (m : ℕ) → Goes work h t g counts cells turns o w → IsRound work h g counts cells w r → Unfinished work h g counts cells w m
      → w.moving < (after work h g counts cells w r).moving
  round_moves_on w r m s round un = go (ran w r)
    where
      go : {v : Crew} → Ran w r v → w.moving < v.moving
      go (moves l) = l
      go (rests e i) = absurd (none_left w.next w.table w.made w.moving s (λ q l. i q (round q (member counts q (omega (arith, adds_few work (count_of counts q))), l))) m un.1)

  -- each round moves, until nothing is left to move
  pub rounds_move : (w : Crew) (rs : List (List ℕ)) → Goes work h t g counts cells turns o w → Rounds work h g counts cells w rs
      → min (moves_of work (total counts)) (w.moving + length rs) ≤ (after work h g counts cells w (flat rs)).moving
  unfolding turns_of
  rounds_move w [] s x = omega arith
  rounds_move w (r ∷ rs) s x =
      let v = after work h g counts cells w r in
      let later = rounds_move v rs (turns_steady work h t g counts cells turns o w r s) x.1 in
      rw (turns_append work h g counts cells w r (flat rs)) (go (dec_lt 0 (left (moves_of work) counts w.made)) later)
    where
      go : {n : ℕ} → Dec (0 < left (moves_of work) counts w.made) → min (moves_of work (total counts)) ((after work h g counts cells w r).moving + length rs) ≤ n
          → min (moves_of work (total counts)) (w.moving + suc (length rs)) ≤ n
      go (yes p) later = let q = some_left (moves_of work) counts w.made p in omega (arith, round_moves_on w r q.0 s x.0 q.1)
      go (no p) later = omega (arith, s.moves, grown (ran w r))
