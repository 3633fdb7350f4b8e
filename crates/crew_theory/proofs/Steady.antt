-- What stays true of a crew that nobody disturbs, in any work, over any turns: a cell has the words that it had at the start, or a member holds it,
-- and the moves and the serials still to come make up what is missing.
-- ---- what is left to do
use Rattle.std.specs.Prelude.{ℕ, ◌+◌, ◌-◌, ◌≤◌, ◌<◌, ◌≡◌, refl, ◌≢◌, length, get_or, replicate}
use Rattle.std.proofs.Common.{sym, ap, ◌∙◌, arith, length-set, get_or-set_same, get_or-set_other}
use mathlib.Core.List.{List, [], ◌∷◌}
use Rattle.std.proofs.Math.Decide.{ℕ_discrete}
use Rattle.model.specs.Log.{Event}
use Rattle.model.specs.Arena.{cells_of, bit_at, owner_at, waiters_at, set_cell}
use Rattle.model.specs.Crew.{Work, adds_of, moves_of, total, start_of, count_of, Crew, crew_start, moved, turn_of, turns_of}
use Rattle.types.specs.declared.Head.{Head}
use Rattle.laws.specs.Words.{length_set_cell, bit_set, owner_set, waiters_set_cell, Seen, here, there, see}
use Rattle.laws.specs.Lists.{zeros}
use Rattle.laws.specs.Crew.{adds_few, adds_none, adds_plus, start_fits, member}
use Rattle.history.specs.Tests.{free_words}
use Rattle.history.specs.Crew.{Holds}
use Rattle.crew_theory.specs.Statements.{Open, after, wish, last, Turn, idled, grabbed, summed, gave}
use Rattle.crew_theory.specs.Sum.{sum, sum_same, sum_front, sum_change}
use Rattle.crew_theory.specs.Lists.{Fits, fits}
use Rattle.crew_theory.specs.Turns.{turn_is}
use Rattle.crew_theory.specs.Steady.{takings_of, left, works_of, Plus, Made, mine, other}

takings_plus : Plus takings_of
takings_plus = record { nil = refl; plus = λ n k. refl }

moves_plus : (work : Work) → Plus (moves_of work)
moves_plus work = record { nil = omega (arith, adds_none work); plus = λ n k. omega (arith, adds_plus work n k) }

pub works_plus : (work : Work) → Plus (works_of work)
works_plus work = record { nil = omega (arith, adds_none work); plus = λ n k. omega (arith, adds_plus work n k) }

all_counts : (f : ℕ → ℕ) → Plus f → (counts : List ℕ) → sum (length counts) (λ m. f (count_of counts m)) ≡ f (total counts)
unfolding sum total
all_counts f p [] = sym p.nil
all_counts f p (n ∷ ns) = omega (arith, sum_front (length ns) (λ m. f (count_of (n ∷ ns) m)), all_counts f p ns, p.plus n (total ns))

pub left_start : (f : ℕ → ℕ) → Plus f → (counts made : List ℕ) → ((m : ℕ) → get_or made m 0 ≡ 0) → left f counts made ≡ f (total counts)
unfolding left
left_start f p counts made z =
    sum_same (length counts) (λ m. f (count_of counts m) - get_or made m 0) (λ m. f (count_of counts m)) (λ m _. omega (arith, z m)) ∙ all_counts f p counts

pub left_move : (f : ℕ → ℕ) (counts made : List ℕ) (m : ℕ) → m < length counts → m < length made
    → left f counts (moved made m) + (f (count_of counts m) - get_or made m 0) ≡ left f counts made + (f (count_of counts m) - (get_or made m 0 + 1))
unfolding left
left_move f counts made m l i =
    omega (
      arith,
      get_or-set_same made m (get_or made m 0 + 1) 0 i,
      sum_change (length counts) (λ q. f (count_of counts q) - get_or (moved made m) q 0) (λ q. f (count_of counts q) - get_or made q 0) m l
          (λ q _ e. ap (λ x. f (count_of counts q) - x) (get_or-set_other made m q (get_or made m 0 + 1) 0 e)),
    )

pub see_made : (made : List ℕ) (m q : ℕ) → m < length made → Made made m q
see_made made m q l = go (ℕ_discrete q m)
  where
    go : Dec (q ≡ m) → Made made m q
    go (yes p) = mine p (rw p (get_or-set_same made m (get_or made m 0 + 1) 0 l)) (ap (λ x. get_or made x 0) p)
    go (no p) = other p (get_or-set_other made m q (get_or made m 0 + 1) 0 p)

module _ (work : Work) (h : Head) (t counts cells : List ℕ) where
  pub data Status (u made : List ℕ) (c : ℕ) : Type 0 where
    same : bit_at u c ≡ bit_at t c → owner_at u c ≡ owner_at t c → Status u made c
    held : (q j : ℕ) → Holds work counts made q j → get_or cells (start_of counts q + j) 0 ≡ c → Status u made c

  pub record Steady (next : ℕ) (u made : List ℕ) (moving : ℕ) : Type 0 where
    pub size : length made ≡ 16
    pub words : length u ≡ length t
    pub bound : (m : ℕ) → get_or made m 0 ≤ moves_of work (count_of counts m)
    pub waiters_are : (c : ℕ) → waiters_at u c ≡ waiters_at t c
    pub status : (c : ℕ) → Status u made c
    pub serials : next + left takings_of counts made ≡ h.next + total counts
    pub moves : moving + left (moves_of work) counts made ≡ moves_of work (total counts)

  -- ---- a move of member m

  module _ (f : Fits h (length t) counts cells) (next : ℕ) (u made : List ℕ) (moving : ℕ) (s : Steady next u made moving) (m : ℕ) (yet : get_or made m 0 < moves_of work (count_of counts m)) where
    in_crew : m < length counts
    in_crew = member counts m (omega (arith, adds_few work (count_of counts m)))

    in_made : m < length made
    in_made = omega (arith, in_crew, f.few, s.size)

    move : (v : List ℕ) (spent : ℕ) → length v ≡ length u → ((c : ℕ) → waiters_at v c ≡ waiters_at u c)
        → spent + (count_of counts m - (get_or made m 0 + 1)) ≡ next + (count_of counts m - get_or made m 0)
        → ((c : ℕ) → Status v (moved made m) c)
        → Steady spent v (moved made m) (moving + 1)
    move v spent long waits pays new =
        record {
          size = length-set made m _ ∙ s.size;
          words = long ∙ s.words;
          bound = λ q. bound' q (see_made made m q in_made);
          waiters_are = λ d. waits d ∙ s.waiters_are d;
          status = new;
          serials = omega (arith, left_move takings_of counts made m in_crew in_made, s.serials);
          moves = omega (arith, left_move (moves_of work) counts made m in_crew in_made, s.moves);
        }
      where
        bound' : (q : ℕ) → Made made m q → get_or (moved made m) q 0 ≤ moves_of work (count_of counts q)
        bound' q (mine p e f) = omega (arith, ap (λ x. moves_of work (count_of counts x)) p)
        bound' q (other p e) = omega (arith, s.bound q)

    -- what is held before it, and is still held by m after it
    holds_on : (q j : ℕ) → Holds work counts made q j → (q ≡ m → j + (get_or made m 0 + 1) < moves_of work (count_of counts m)) → Made made m q → Holds work counts (moved made m) q j
    holds_on q j k still (mine p e f) = let z = ap (λ x. moves_of work (count_of counts x)) p in (k.0, omega (arith, k.1), omega (arith, still p))
    holds_on q j k still (other p e) = (k.0, omega (arith, k.1), omega (arith, k.2))

    -- one that writes cell c
    writes : (c b o spent : ℕ) → c < cells_of h
        → spent + (count_of counts m - (get_or made m 0 + 1)) ≡ next + (count_of counts m - get_or made m 0)
        → Status (set_cell u c b o) (moved made m) c
        → ((j : ℕ) → Holds work counts made m j → get_or cells (start_of counts m + j) 0 ≢ c → j + (get_or made m 0 + 1) < moves_of work (count_of counts m))
        → Steady spent (set_cell u c b o) (moved made m) (moving + 1)
    writes c b o spent l pays new still =
        move (set_cell u c b o) spent (length_set_cell u c b o) (waiters_set_cell u c b o) pays
        (λ d. status' d (see u c b o d (omega (arith, f.shape, s.words))) (s.status d))
      where
        status' : (d : ℕ) → Seen u c b o d → Status u made d → Status (set_cell u c b o) (moved made m) d
        status' d (here x p q) y = rw x new
        status' d (there x p q) (same y z) = same (p ∙ y) (q ∙ z)
        status' d (there x p q) (held k j z is) =
            held k j (holds_on k j z (λ e. still j (rw e at z) (λ y. x (sym is ∙ ap (λ i. get_or cells (start_of counts i + j) 0) e ∙ y))) (see_made made m k in_made)) is

    -- one that writes none
    works : count_of counts m ≤ get_or made m 0 → get_or made m 0 < count_of counts m + adds_of work (count_of counts m) → Steady next u (moved made m) (moving + 1)
    works a b = move u next refl (λ c. refl) (omega arith) (λ c. status' c (s.status c))
      where
        status' : (c : ℕ) → Status u made c → Status u (moved made m) c
        status' c (same y z) = same y z
        status' c (held q j z is) = held q j (holds_on q j z (λ e. omega (arith, z.0, ap (count_of counts) e)) (see_made made m q in_made)) is

-- ---- from the premises, over any turns

module _ (work : Work) (h : Head) (t g counts cells turns : List ℕ) (o : Open h t g counts cells turns) where
  abbrev pub Goes : Crew → Type 0
  Goes w = Steady work h t counts cells w.next w.table w.made w.moving

  pub fit : Fits h (length t) counts cells
  fit = fits h t g counts cells turns o.fine

  -- at the start the cells of the lists are free
  pub was_free : (m j : ℕ) → j < count_of counts m → (bit_at t (get_or cells (start_of counts m + j) 0) ≡ 0) × (owner_at t (get_or cells (start_of counts m + j) 0) ≡ 0)
  was_free m j l = free_words h.next t _ (o.free (start_of counts m + j) (omega (arith, start_fits counts m)))

  pub turn_steady : {w v : Crew} {m : ℕ} {log : List Event} → Goes w → Turn work h.buckets g counts cells w m v log → Goes v
  turn_steady s (idled i e q) = rw e s
  turn_steady {w} {m = m} s (grabbed l r e q) =
      let made = w.made in
      let n = get_or made m 0 in
      let one_more = get_or-set_same made m (n + 1) 0 (omega (arith, member counts m (omega arith), fit.few, s.size)) in
      rw e (writes work h t counts cells fit w.next w.table made w.moving s m (omega arith) (wish counts cells made m) 1 w.next (w.next + 1)
      (fit.range m n l) (omega arith) (held m n (l, omega arith, omega arith) refl) (λ j k x. omega (arith, k.1)))
  turn_steady {w} {m = m} s (summed l r e q) = rw e (works work h t counts cells fit w.next w.table w.made w.moving s m (omega arith) l r)
  turn_steady {w} {m = m} s (gave l r e q) =
      let made = w.made in
      let n = get_or made m 0 in
      let c = last counts cells work made m in
      let i = moves_of work (count_of counts m) - 1 - n in
      let before = was_free m i (omega arith) in
      let in_range = fit.range m i (omega arith) in
      rw e (writes work h t counts cells fit w.next w.table made w.moving s m r c 0 0 w.next in_range (omega arith)
      (same (bit_set w.table c 0 0 (omega (arith, fit.shape, s.words)) ∙ sym before.0) (owner_set w.table c 0 0 (omega (arith, fit.shape, s.words)) ∙ sym before.1))
      (λ j k x. go j k x (ℕ_discrete j i)))
    where
      go : (j : ℕ) → Holds work counts w.made m j → get_or cells (start_of counts m + j) 0 ≢ last counts cells work w.made m
          → Dec (j ≡ moves_of work (count_of counts m) - 1 - get_or w.made m 0) → j + (get_or w.made m 0 + 1) < moves_of work (count_of counts m)
      go j k x (yes p) = absurd (x (ap (λ y. get_or cells (start_of counts m + y) 0) p))
      go j k x (no p) = omega (arith, k.2)

  pub turns_steady : (w : Crew) (ms : List ℕ) → Goes w → Goes (after work h g counts cells w ms)
  unfolding turns_of
  turns_steady w [] s = s
  turns_steady w (m ∷ ms) s =
      turns_steady (turn_of work h.headers h.buckets g counts cells w m).seen ms (turn_steady s (turn_is work h.buckets g counts cells h.headers w m))

  pub start_steady : (counters : List ℕ) → Goes (crew_start h t counters)
  start_steady counters =
      record {
        size = refl;
        words = refl;
        bound = λ m. omega (arith, zeros 16 m);
        waiters_are = λ c. refl;
        status = λ c. same refl refl;
        serials = omega (arith, left_start takings_of takings_plus counts (replicate 16 0) (zeros 16));
        moves = omega (arith, left_start (moves_of work) (moves_plus work) counts (replicate 16 0) (zeros 16));
      }
