-- The end: where nothing is left to move, every member has held and released its whole list, the serials are spent, and the table is as it was.
use Rattle.std.specs.Prelude.{ℕ, zero, suc, ◌+◌, ◌*◌, ◌-◌, ◌/◌, min, ◌≤◌, ◌<◌, ◌≡◌, refl, length, get_or, replicate}
use Rattle.std.proofs.Math.Path.{ap}
use mathlib.Core.List.{List, [], ◌∷◌, append-nil}
use Rattle.std.proofs.Math.Decide.{ℕ_discrete, dec_lt}
use native.Mathlib.Omega.{arith}
use Rattle.std.proofs.Common.{ext_get_or}
use Rattle.model.specs.Log.{Made, Event}
use Rattle.model.specs.Arena.{bit_at, owner_at, waiters_at, spent_to}
use Rattle.model.specs.Crew.{Work, adds_of, moves_of, total, count_of, taken_of, released_of, Crew, crew_start, moved, turn_of, turns_of, shift_of}
use Rattle.types.specs.declared.Head.{Head}
use Rattle.laws.specs.Lists.{zeros}
use Rattle.laws.specs.Crew.{adds_few, member}
use Rattle.history.specs.World.{takes, number_of_lem}
use Rattle.history.specs.Counted.{number_append}
use Rattle.crew_theory.specs.Statements.{Open, adds_in, Completed, tabled, Turn, idled, grabbed, summed, gave}
use Rattle.crew_theory.specs.Turns.{adds_append, none_done, one_took, one_added, one_gave, turn_is, turns_count}
use Rattle.crew_theory.specs.Steady.{takings_of, works_of, left}
use Rattle.crew_theory.proofs.Steady.{works_plus, left_start, left_move, Status, same, held, Steady, Goes, fit, start_steady, turn_steady, turns_steady}
use Rattle.crew_theory.proofs.Rounds.{left_at, some_left}

-- two tables with the same words
same_words : (u t : List ℕ) → length u ≡ length t → ((c : ℕ) → bit_at u c ≡ bit_at t c) → ((c : ℕ) → owner_at u c ≡ owner_at t c)
    → ((c : ℕ) → waiters_at u c ≡ waiters_at t c) → u ≡ t
unfolding bit_at owner_at waiters_at
same_words u t size b o w = ext_get_or 0 u t size (λ i _. go i (i / 3) (ℕ_discrete i (3 * (i / 3))) (ℕ_discrete i (3 * (i / 3) + 1)) (omega arith))
  where
    go : (i c : ℕ) → Dec (i ≡ 3 * c) → Dec (i ≡ 3 * c + 1) → (3 * c ≤ i) × (i < 3 * c + 3) → get_or u i 0 ≡ get_or t i 0
    go i c (yes e) f r = rw e (b c)
    go i c (no e) (yes f) r = rw f (o c)
    go i c (no e) (no f) r = let z : i ≡ 3 * c + 2 = omega arith in rw z (w c)

-- a list made number by number from m on, at any place
numbers_at : (F : ℕ → ℕ → List ℕ) (f : ℕ → ℕ) → ((n m : ℕ) → F (suc n) m ≡ f m ∷ F n (m + 1)) → (n m i q : ℕ) → i < n → q ≡ m + i → get_or (F n m) i 0 ≡ f q
numbers_at F f step zero m i q l e = absurd (omega arith)
numbers_at F f step (suc n) m zero q l e = let z : q ≡ m = omega arith in rw (step n m, z)
numbers_at F f step (suc n) m (suc i) q l e = rw (step n m) (numbers_at F f step n (m + 1) i q (omega arith) (omega arith))

pub taken_at : (counts made : List ℕ) (m : ℕ) → m < 16 → get_or (taken_of 16 0 counts made) m 0 ≡ min (get_or made m 0) (count_of counts m)
unfolding taken_of
taken_at counts made m l = numbers_at (λ n i. taken_of n i counts made) (λ q. min (get_or made q 0) (count_of counts q)) (λ n i. refl) 16 0 m m l (omega arith)

pub released_at : (work : Work) (counts made : List ℕ) (m : ℕ) → m < 16
    → get_or (released_of work 16 0 counts made) m 0 ≡ get_or made m 0 - (count_of counts m + adds_of work (count_of counts m))
unfolding released_of
released_at work counts made m l =
    numbers_at (λ n i. released_of work n i counts made) (λ q. get_or made q 0 - (count_of counts q + adds_of work (count_of counts q))) (λ n i. refl) 16 0 m m l (omega arith)

module _ (work : Work) (h : Head) (t counts cells : List ℕ) (next : ℕ) (u made : List ℕ) (moving : ℕ) (s : Steady work h t counts cells next u made moving) (z : left (moves_of work) counts made ≡ 0) where
  pub ended : (m : ℕ) → get_or made m 0 ≡ moves_of work (count_of counts m)
  ended m = go (dec_lt (get_or made m 0) (moves_of work (count_of counts m)))
    where
      go : Dec (get_or made m 0 < moves_of work (count_of counts m)) → get_or made m 0 ≡ moves_of work (count_of counts m)
      go (yes l) = absurd (omega (arith, left_at (moves_of work) counts made m (omega (arith, adds_few work (count_of counts m)))))
      go (no l) = omega (arith, s.bound m)

  spent_all : next ≡ h.next + total counts
  spent_all = go (dec_lt 0 (left takings_of counts made))
    where
      go : Dec (0 < left takings_of counts made) → next ≡ h.next + total counts
      go (yes l) = let x = some_left takings_of counts made l in absurd (omega (arith, x.1.1, ended x.0))
      go (no l) = omega (arith, s.serials)

  table_same : u ≡ t
  table_same = same_words u t s.words (λ c. (go c (s.status c)).0) (λ c. (go c (s.status c)).1) s.waiters_are
    where
      go : (c : ℕ) → Status work h t counts cells u made c → (bit_at u c ≡ bit_at t c) × (owner_at u c ≡ owner_at t c)
      go c (same b o) = (b, o)
      go c (held q j x is) = absurd (omega (arith, ended q, x.2))

-- nothing is left of what each member has done
none_left : (f : ℕ → ℕ) (counts made : List ℕ) → ((m : ℕ) → f (count_of counts m) ≤ get_or made m 0) → left f counts made ≡ 0
none_left f counts made all = go (dec_lt 0 (left f counts made))
  where
    go : Dec (0 < left f counts made) → left f counts made ≡ 0
    go (yes l) = let x = some_left f counts made l in absurd (omega (arith, x.1.1, all x.0))
    go (no l) = omega arith

-- ---- takes and adds, until there are none left

module _ (work : Work) (h : Head) (t g counts cells turns : List ℕ) (o : Open h t g counts cells turns) where
  turn_works : {w v : Crew} {m : ℕ} {log : List Event} → Goes work h t g counts cells turns o w → Turn work h.buckets g counts cells w m v log
      → number_of_lem takes log + adds_in log + left (works_of work) counts v.made ≡ left (works_of work) counts w.made
  turn_works s (idled i e q) = let x = none_done q in rw e (omega (arith, x.takes_are, x.adds_are))
  turn_works {w} {m = m} s (grabbed l r e q) =
      let x = one_took counts (moved w.made m) m q in
      let k = member counts m (omega arith) in
      rw e (omega (arith, x.takes_are, x.adds_are, left_move (works_of work) counts w.made m k (omega (arith, (fit work h t g counts cells turns o).few, s.size))))
  turn_works {w} {m = m} s (summed l r e q) =
      let x = one_added q in
      let k = member counts m (omega (arith, adds_few work (count_of counts m))) in
      rw e (omega (arith, x.takes_are, x.adds_are, left_move (works_of work) counts w.made m k (omega (arith, (fit work h t g counts cells turns o).few, s.size))))
  turn_works {w} {m = m} s (gave l r e q) =
      let x = one_gave q in
      let k = member counts m (omega (arith, adds_few work (count_of counts m))) in
      rw e (omega (arith, x.takes_are, x.adds_are, left_move (works_of work) counts w.made m k (omega (arith, (fit work h t g counts cells turns o).few, s.size))))

  turns_work : (w : Crew) (ms : List ℕ) → Goes work h t g counts cells turns o w
      → let r = turns_of work h.headers h.buckets g counts cells w ms in
      number_of_lem takes r.log + adds_in r.log + left (works_of work) counts r.seen.made ≡ left (works_of work) counts w.made
  unfolding turns_of number_of_lem adds_in
  turns_work w [] s = omega arith
  turns_work w (m ∷ ms) s =
      let p = turn_is work h.buckets g counts cells h.headers w m in
      let v = turn_of work h.headers h.buckets g counts cells w m in
      let r = turns_of work h.headers h.buckets g counts cells v.seen ms in
      omega (
        arith,
        turn_works s p,
        turns_work v.seen ms (turn_steady work h t g counts cells turns o s p),
        number_append takes v.log r.log,
        adds_append v.log r.log,
      )

-- the run's own result, if its turns left nothing to move
module _ (work : Work) (h : Head) (t g counts cells turns counters : List ℕ) (o : Open h t g counts cells turns) where
  abbrev ran : Made Crew
  ran = turns_of work h.headers h.buckets g counts cells (crew_start h t counters) turns

  abbrev w : Crew
  w = ran.seen

  pub completes : moves_of work (total counts) ≤ w.moving → Completed (moves_of work (total counts)) h t counts turns (tabled (shift_of work h t g counts cells turns counters))
  unfolding shift_of
  completes all =
      let s = turns_steady work h t g counts cells turns o (crew_start h t counters) turns (start_steady work h t g counts cells turns o counters) in
      let few = (fit work h t g counts cells turns o).few in
      let z : left (moves_of work) counts w.made ≡ 0 = omega (arith, s.moves) in
      let end = ended work h t counts cells w.next w.table w.made w.moving s z in
      let spent = spent_all work h t counts cells w.next w.table w.made w.moving s z in
      let counted = turns_count work h.buckets g counts cells h.headers (crew_start h t counters) turns in
      let first_steady = start_steady work h t g counts cells turns o counters in
      let worked = turns_work work h t g counts cells turns o (crew_start h t counters) turns first_steady in
      let works = left_start (works_of work) (works_plus work) counts (replicate 16 0) (zeros 16) in
      let over = none_left (works_of work) counts w.made (λ m. omega (arith, end m)) in
      rw (append-nil ran.log) (record {
        done = refl;
        taken = λ m l. omega (arith, taken_at counts w.made m (omega arith), end m);
        released = λ m l. omega (arith, released_at work counts w.made m (omega arith), end m);
        spent = ap (spent_to h) spent;
        moving = omega (arith, s.moves);
        turns_are = omega (arith, counted.turns_are);
        table_is = table_same work h t counts cells w.next w.table w.made w.moving s z;
        takes_are = omega (arith, counted.serials_are);
        releases_are = omega (arith, counted.serials_are, counted.moves_are, s.moves, worked, works, over);
        adds_are = omega (arith, counted.serials_are, counted.moves_are, s.moves, worked, works, over);
      })
