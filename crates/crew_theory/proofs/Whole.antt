-- "All have held their whole lists": in demand 3's run there is, for each member with a cell, a moment at which the table shows every cell
-- of its list held by the serial noted for it, all at once.
-- ---- what is held shows in the table, after any turns in any arena: the cell at place k is held by the serial noted there
use Prim.Native.Nat.{ℕ, ◌+◌, ◌*◌, ◌-◌, ◌≤◌, ◌<◌}
use Rattle.std.specs.Prelude.{◌≡◌, ◌≢◌, length, get_or, set}
use Rattle.std.proofs.Math.Path.{refl}
use Rattle.std.proofs.Common.{sym, ap, ◌∙◌, arith, length-set, get_or-set_same, get_or-set_other}
use mathlib.Core.List.{List, [], ◌∷◌, ◌++◌}
use Rattle.std.proofs.Math.Decide.{ℕ_discrete}
use Rattle.model.specs.Log.{Event}
use Rattle.model.specs.Arena.{bit_at, owner_at, set_cell, state_at}
use Rattle.model.specs.Crew.{Work, adds_of, moves_of, start_of, count_of, Crew, crew_start, moved, turn_of, turns_of, shift_of}
use Rattle.types.specs.declared.Head.{Head}
use Rattle.types.specs.declared.State.TheVariants as state
use Rattle.laws.specs.Words.{length_set_cell, Seen, here, there, see}
use Rattle.laws.specs.Lists.{zeros}
use Rattle.laws.specs.Crew.{adds_few, start_fits, member, listed}
use Rattle.history.specs.Tests.{free_words, state_held}
use Rattle.history.specs.Crew.{Holds}
use Rattle.history.proofs.Crew.{one_place}
use Rattle.crew_theory.specs.Statements.{after, named, wish, last, to_take, Turn, idled, grabbed, summed, gave, TakenIsHeldOver}
use Rattle.crew_theory.specs.Turns.{turn_is, Step, stays, steps, turn_steps}
use Rattle.crew_theory.specs.Lists.{Fits, fits}
use Rattle.crew_theory.specs.Steady.{Made, mine, other}
use Rattle.crew_theory.proofs.Steady.{see_made}
use Rattle.crew_theory.proofs.Ended.{taken_at}
use Rattle.crew_theory.specs.Whole.{Which, new, old}

pub record Grip (next : ℕ) (u cells serials : List ℕ) (k : ℕ) : Type 0 where
  pub bit_is : bit_at u (named cells k) ≡ 1
  pub owner_is : owner_at u (named cells k) ≡ get_or serials k 0
  pub low : 1 ≤ get_or serials k 0
  pub high : get_or serials k 0 < next

pub record Grips (work : Work) (words : ℕ) (counts cells : List ℕ) (next : ℕ) (u made serials : List ℕ) : Type 0 where
  pub size : length made ≡ 16
  pub words_are : length u ≡ words
  pub places : length serials ≡ 256
  pub some_serial : 1 ≤ next
  pub grip : (q j : ℕ) → Holds work counts made q j → Grip next u cells serials (start_of counts q + j)
  -- no cell is held twice
  pub apart : (q j p i : ℕ) → Holds work counts made q j → Holds work counts made p i → named cells (start_of counts q + j) ≡ named cells (start_of counts p + i) → (q ≡ p) × (j ≡ i)

-- whatever the arena and the turns
module _ (work : Work) (h : Head) (words : ℕ) (counts cells : List ℕ) (fit : Fits h words counts cells) where
  abbrev pub Shown : Crew → Type 0
  Shown w = Grips work words counts cells w.next w.table w.made w.serials

  pub in_made : (w : Crew) (m : ℕ) → Shown w → 1 ≤ count_of counts m → m < length w.made
  in_made w m x l = omega (arith, member counts m l, fit.few, x.size)

  in_table : (w : Crew) (m j : ℕ) → Shown w → j < count_of counts m → 3 * named cells (start_of counts m + j) + 1 < length w.table
  in_table w m j x l = omega (arith, fit.shape.words_are, x.words_are, fit.range m j l)

  -- a take
  took_shown : (w : Crew) (m : ℕ) → Shown w → get_or w.made m 0 < count_of counts m
      → state_at w.next w.table (wish counts cells w.made m) ≡ state.Free
      → Grips work words counts cells (w.next + 1) (set_cell w.table (wish counts cells w.made m) 1 w.next) (moved w.made m) (set w.serials (to_take counts w.made m) w.next)
  took_shown w m x l free =
      record {
        size = length-set w.made m (get_or w.made m 0 + 1) ∙ x.size;
        words_are = length_set_cell w.table c 1 w.next ∙ x.words_are;
        places = length-set w.serials k w.next ∙ x.places;
        some_serial = omega arith;
        grip = λ q j y. grip' q j (which q j y);
        apart = λ q j p i y z. apart' q j p i (which q j y) (which p i z);
      }
    where
      n : ℕ
      n = get_or w.made m 0

      k : ℕ
      k = to_take counts w.made m

      c : ℕ
      c = wish counts cells w.made m

      which : (q j : ℕ) → Holds work counts (moved w.made m) q j → Which work counts w.made m q j
      which q j y = go (see_made w.made m q (in_made w m x (omega arith))) (ℕ_discrete j (get_or w.made m 0))
        where
          go : Made w.made m q → Dec (j ≡ get_or w.made m 0) → Which work counts w.made m q j
          go (mine p e f) (yes d) = new p d
          go (mine p e f) (no d) = let z = ap (count_of counts) p in old (omega arith) (λ r. d (one_place counts q j m (get_or w.made m 0) (omega arith) l r).1)
          go (other p e) d = old (omega arith) (λ r. p (one_place counts q j m (get_or w.made m 0) (omega arith) l r).0)

      -- what was held is not the cell taken, which was free
      differs : (q j : ℕ) → Holds work counts w.made q j → named cells (start_of counts q + j) ≢ c
      differs q j y e = omega (arith, (x.grip q j y).bit_is, ap (bit_at w.table) e, (free_words w.next w.table c free).0)

      grip' : (q j : ℕ) → Which work counts w.made m q j → Grip (w.next + 1) (set_cell w.table c 1 w.next) cells (set w.serials k w.next) (start_of counts q + j)
      grip' q j (new p d) = rw (p, d) (go (see w.table c 1 w.next c (in_table w m n x l)))
        where
          go : Seen w.table c 1 w.next c → Grip (w.next + 1) (set_cell w.table c 1 w.next) cells (set w.serials k w.next) k
          go (here e b r) =
              let z = get_or-set_same w.serials k w.next 0 (omega (arith, start_fits counts m, fit.small, x.places)) in
              record { bit_is = b; owner_is = r ∙ sym z; low = omega (arith, x.some_serial); high = omega arith }
          go (there e b r) = absurd (e refl)
      grip' q j (old y e) = go (see w.table c 1 w.next (named cells (start_of counts q + j)) (in_table w m n x l)) (x.grip q j y) (get_or-set_other w.serials k (start_of counts q + j) w.next 0 e)
        where
          go : Seen w.table c 1 w.next (named cells (start_of counts q + j)) → Grip w.next w.table cells w.serials (start_of counts q + j)
              → get_or (set w.serials k w.next) (start_of counts q + j) 0 ≡ get_or w.serials (start_of counts q + j) 0
              → Grip (w.next + 1) (set_cell w.table c 1 w.next) cells (set w.serials k w.next) (start_of counts q + j)
          go (here e b r) f z = absurd (differs q j y e)
          go (there e b r) f z = record { bit_is = b ∙ f.bit_is; owner_is = r ∙ f.owner_is ∙ sym z; low = omega (arith, f.low); high = omega (arith, f.high) }

      apart' : (q j p i : ℕ) → Which work counts w.made m q j → Which work counts w.made m p i → named cells (start_of counts q + j) ≡ named cells (start_of counts p + i) → (q ≡ p) × (j ≡ i)
      apart' q j p i (new a b) (new d e) r = (a ∙ sym d, b ∙ sym e)
      apart' q j p i (new a b) (old d e) r = absurd (differs p i d (sym r ∙ rw (a, b)))
      apart' q j p i (old a b) (new d e) r = absurd (differs q j a (r ∙ rw (d, e)))
      apart' q j p i (old a b) (old d e) r = x.apart q j p i a d r

  -- an add: what is held after it was held before
  summed_shown : (w : Crew) (m : ℕ) → Shown w → count_of counts m ≤ get_or w.made m 0 → get_or w.made m 0 < moves_of work (count_of counts m)
      → Grips work words counts cells w.next w.table (moved w.made m) w.serials
  summed_shown w m x l r =
      record {
        size = length-set w.made m (get_or w.made m 0 + 1) ∙ x.size;
        words_are = x.words_are;
        places = x.places;
        some_serial = x.some_serial;
        grip = λ q j y. x.grip q j (was q j y);
        apart = λ q j p i y z. x.apart q j p i (was q j y) (was p i z);
      }
    where
      was : (q j : ℕ) → Holds work counts (moved w.made m) q j → Holds work counts w.made q j
      was q j y = go (see_made w.made m q (in_made w m x (omega (arith, adds_few work (count_of counts m)))))
        where
          go : Made w.made m q → Holds work counts w.made q j
          go (mine p e f) = let z = ap (count_of counts) p in (omega arith, omega arith, omega arith)
          go (other p e) = (omega arith, omega arith, omega arith)

  -- a release
  gave_shown : (w : Crew) (m : ℕ) → Shown w → count_of counts m + adds_of work (count_of counts m) ≤ get_or w.made m 0 → get_or w.made m 0 < moves_of work (count_of counts m)
      → Grips work words counts cells w.next (set_cell w.table (last counts cells work w.made m) 0 0) (moved w.made m) w.serials
  gave_shown w m x l r =
      record {
        size = length-set w.made m (get_or w.made m 0 + 1) ∙ x.size;
        words_are = length_set_cell w.table c 0 0 ∙ x.words_are;
        places = x.places;
        some_serial = x.some_serial;
        grip = λ q j y. grip' q j (was q j y);
        apart = λ q j p i y z. x.apart q j p i (was q j y).0 (was p i z).0;
      }
    where
      c : ℕ
      c = last counts cells work w.made m

      -- what is held now was held, and is not the one released
      was : (q j : ℕ) → Holds work counts (moved w.made m) q j → Holds work counts w.made q j × ((q ≡ m) × (j ≡ moves_of work (count_of counts m) - 1 - get_or w.made m 0) → ⊥)
      was q j y = go (see_made w.made m q (in_made w m x (omega (arith, adds_few work (count_of counts m)))))
        where
          go : Made w.made m q → Holds work counts w.made q j × ((q ≡ m) × (j ≡ moves_of work (count_of counts m) - 1 - get_or w.made m 0) → ⊥)
          go (mine p e f) =
              let z = ap (count_of counts) p in
              let a = ap (λ x. moves_of work (count_of counts x)) p in
              ((omega arith, omega arith, omega arith), λ d. omega (arith, d.1))
          go (other p e) = ((omega arith, omega arith, omega arith), λ d. p d.0)

      grip' : (q j : ℕ) → Holds work counts w.made q j × ((q ≡ m) × (j ≡ moves_of work (count_of counts m) - 1 - get_or w.made m 0) → ⊥) → Grip w.next (set_cell w.table c 0 0) cells w.serials (start_of counts q + j)
      grip' q j (y, n) = go (see w.table c 0 0 (named cells (start_of counts q + j)) (in_table w m (moves_of work (count_of counts m) - 1 - get_or w.made m 0) x (omega arith))) (x.grip q j y)
        where
          go : Seen w.table c 0 0 (named cells (start_of counts q + j)) → Grip w.next w.table cells w.serials (start_of counts q + j)
              → Grip w.next (set_cell w.table c 0 0) cells w.serials (start_of counts q + j)
          go (here e b d) f = absurd (n (x.apart q j m (moves_of work (count_of counts m) - 1 - get_or w.made m 0) y (omega arith) e))
          go (there e b d) f = record { bit_is = b ∙ f.bit_is; owner_is = d ∙ f.owner_is; low = f.low; high = f.high }

  pub turn_shown : {w v : Crew} {m : ℕ} {log : List Event} (g : List ℕ) → Shown w → Turn work h.buckets g counts cells w m v log → Shown v
  turn_shown g x (idled i e q) = rw e x
  turn_shown {w} {m = m} g x (grabbed l r e q) = rw e (took_shown w m x l r.is_free_lem)
  turn_shown {w} {m = m} g x (summed l r e q) = rw e (summed_shown w m x l (omega arith))
  turn_shown {w} {m = m} g x (gave l r e q) = rw e (gave_shown w m x l r)

  pub start_shown : (t counters : List ℕ) → length t ≡ words → Shown (crew_start h t counters)
  start_shown t counters wide =
      record {
        size = refl;
        words_are = wide;
        places = refl;
        some_serial = omega (arith, fit.shape.low);
        grip = λ q j y. absurd (omega (arith, y.1, zeros 16 q));
        apart = λ q j p i y z e. absurd (omega (arith, y.1, zeros 16 q));
      }

  pub turns_shown : (g : List ℕ) (w : Crew) (ms : List ℕ) → Shown w → Shown (after work h g counts cells w ms)
  unfolding turns_of
  turns_shown g w [] x = x
  turns_shown g w (m ∷ ms) x = turns_shown g (turn_of work h.headers h.buckets g counts cells w m).seen ms (turn_shown g x (turn_is work h.buckets g counts cells h.headers w m))

  -- ---- moves come one by one, so a member that made more than it has cells had once made just so many

  -- a member's moves in a turn of n: as they were, or one more
  pub data Moves (made now : List ℕ) (n m : ℕ) : Type 0 where
    none_made : get_or now m 0 ≡ get_or made m 0 → Moves made now n m
    one_made : m ≡ n → get_or now m 0 ≡ get_or made m 0 + 1 → Moves made now n m

  pub turn_moves : {w v : Crew} {n : ℕ} {log : List Event} (g : List ℕ) (m : ℕ) → Shown w → Turn work h.buckets g counts cells w n v log → Moves w.made v.made n m
  turn_moves {w} {v} {n} g m x p = go (turn_steps work h.buckets g counts cells p)
    where
      at : Made w.made n m → Moves w.made (moved w.made n) n m
      at (mine p e f) = one_made p (omega arith)
      at (other p e) = none_made e

      go : Step work h.buckets g counts cells w.made v.made n → Moves w.made v.made n m
      go (stays e) = none_made (ap (λ (l : List ℕ). get_or l m 0) e)
      go (steps l e) = rw e (at (see_made w.made n m (in_made w n x (omega (arith, adds_few work (count_of counts n))))))

  one_more : {made now : List ℕ} {n m : ℕ} → Moves made now n m → get_or now m 0 ≤ get_or made m 0 + 1
  one_more (none_made e) = omega arith
  one_more (one_made p e) = omega arith

  pub passes : (g : List ℕ) (m k : ℕ) (w : Crew) (ns : List ℕ) → Shown w → get_or w.made m 0 ≤ k → k ≤ get_or (after work h g counts cells w ns).made m 0
      → (before : List ℕ) × (later : List ℕ) × (ns ≡ before ++ later) × (get_or (after work h g counts cells w before).made m 0 ≡ k)
  unfolding turns_of
  passes g m k w [] x a b = ([], [], refl, omega arith)
  passes g m k w (n ∷ ns) x a b =
      let p = turn_is work h.buckets g counts cells h.headers w n in
      let v = (turn_of work h.headers h.buckets g counts cells w n).seen in
      go (ℕ_discrete (get_or w.made m 0) k) (λ l. passes g m k v ns (turn_shown g x p) l b) (one_more (turn_moves g m x p))
    where
      Parted : Crew → List ℕ → Type 0
      Parted v ms = (before : List ℕ) × (later : List ℕ) × (ms ≡ before ++ later) × (get_or (after work h g counts cells v before).made m 0 ≡ k)

      go : Dec (get_or w.made m 0 ≡ k) → let v = (turn_of work h.headers h.buckets g counts cells w n).seen in
          (get_or v.made m 0 ≤ k → Parted v ns) → get_or v.made m 0 ≤ get_or w.made m 0 + 1 → Parted w (n ∷ ns)
      go (yes e) f l = ([], n ∷ ns, refl, e)
      go (no e) f l = let x = f (omega arith) in (n ∷ x.0, x.1, ap {B = List ℕ} (λ l. n ∷ l) x.2, x.3)

-- ---- the theorem

pub taken_is_held_over : (work : Work) → TakenIsHeldOver work
unfolding shift_of state_at
taken_is_held_over work h t g counts cells turns counters m o l told =
    let first_crew = crew_start h t counters in
    let w = after work h g counts cells first_crew turns in
    let f = fits h t g counts cells turns o.fine in
    let few = f.few in
    let all : count_of counts m ≤ get_or w.made m 0 = omega (arith, taken_at counts w.made m (omega arith), told) in
    let first_shown = start_shown work h (length t) counts cells f t counters refl in
    let x = passes work h (length t) counts cells f g m (count_of counts m) first_crew turns first_shown (omega (arith, zeros 16 m)) all in
    let y = turns_shown work h (length t) counts cells f g first_crew x.0 first_shown in
    record { before = x.0; later = x.1; turns_are = x.2; all_held = λ j k. rw (listed counts cells m j k) (held x.0 y j (k, omega (arith, x.3), omega (arith, x.3))) }
  where
    held : (before : List ℕ) → let w = after work h g counts cells (crew_start h t counters) before in Grips work (length t) counts cells w.next w.table w.made w.serials
        → (j : ℕ) → Holds work counts w.made m j → state_at w.next w.table (named cells (start_of counts m + j)) ≡ state.Held (get_or w.serials (start_of counts m + j) 0)
    held before y j k =
        let f = y.grip m j k in
        state_held _ _ _ f.bit_is (omega (arith, f.owner_is, f.low)) (omega (arith, f.owner_is, f.high)) ∙ ap state.Held f.owner_is
