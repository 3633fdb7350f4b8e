-- A crew, in any work, whose members all begin with the same cell: whoever has taken it moves alone until it gives it back, so there are rounds that have
-- at most one move each, as many as one likes.
-- ---- lists of turns
use Prim.Native.Nat.{ℕ, zero, suc, ◌+◌, ◌*◌, ◌≤◌, ◌<◌}
use Rattle.std.specs.Prelude.{◌≡◌, refl, Bool, true, false, ◌≢◌, ◌⊎◌, eqb, length, if◌then◌else◌}
use Rattle.std.proofs.Common.{sym, ◌∙◌, get_or-set_other, eqb-true}
use Rattle.std.proofs.Math.Path.{ap}
use mathlib.Core.List.{List, [], ◌∷◌, ◌++◌}
use Rattle.std.proofs.Math.Logic.{inl, inr}
use Rattle.std.proofs.Math.Decide.{ℕ_discrete, dec_lt}
use native.Mathlib.Omega.{arith}
use Rattle.std.proofs.Math.ListN.{get_or, length-append}
use Rattle.std.proofs.Math.Seq.{get_or-set_same}
use Rattle.std.proofs.lemmas.Bool.{eqb-false}
use Rattle.model.specs.Log.{Event}
use Rattle.model.specs.Arena.{bit_at}
use Rattle.model.specs.Crew.{Work, moves_of, start_of, count_of, Crew, turn_of, turns_of}
use Rattle.types.specs.declared.Head.{Head}
use Rattle.laws.specs.Crew.{adds_few, member, listed}
use Rattle.history.specs.Tests.{free_words, if_cases}
use Rattle.history.specs.Crew.{Holds}
use Rattle.crew_theory.specs.Statements.{In, flat, after, IsRound, Rounds, Open, named, wish, BeginWith, Turn, idled, grabbed, summed, gave}
use Rattle.crew_theory.specs.Turns.{in_left, in_right, in_either, turns_append, turn_is, Step, stays, steps, turn_steps}
use Rattle.crew_theory.proofs.Steady.{Goes, fit, turn_steady, turns_steady}
use Rattle.crew_theory.proofs.Whole.{Shown, turn_shown, turns_shown}
use Rattle.crew_theory.specs.Alone.{upto, but}

in_upto : (n m : ℕ) → m < n → In m (upto n)
in_upto zero m l = absurd (omega arith)
in_upto (suc n) m l = go (ℕ_discrete m n) (in_upto n m)
  where
    go : Dec (m ≡ n) → (m < n → In m (upto n)) → In m (n ∷ upto n)
    go (yes e) r = inl e
    go (no e) r = inr (r (omega arith))

upto_low : (n m : ℕ) → In m (upto n) → m < n
upto_low zero m i = absurd i
upto_low (suc n) m (inl e) = omega arith
upto_low (suc n) m (inr i) = omega (arith, upto_low n m i)

upto_long : (n : ℕ) → length (upto n) ≡ n
upto_long zero = refl
upto_long (suc n) = ap suc (upto_long n)

in_but : (a n m : ℕ) → m ≢ a → m < n → In m (but a n)
in_but a zero m d l = absurd (omega arith)
in_but a (suc n) m d l = if_cases (In m) (eqb n a) (λ e. in_but a n m d (omega (arith, eqb-true n a e))) (λ e. go (ℕ_discrete m n) (in_but a n m d))
  where
    go : Dec (m ≡ n) → (m < n → In m (but a n)) → In m (n ∷ but a n)
    go (yes e) r = inl e
    go (no e) r = inr (r (omega arith))

but_low : (a n m : ℕ) → In m (but a n) → (m ≢ a) × (m < n)
but_low a zero m i = absurd i
but_low a (suc n) m i = go (eqb n a) refl i (but_low a n m)
  where
    go : (b : Bool) → eqb n a ≡ b → In m (if b then but a n else n ∷ but a n) → (In m (but a n) → (m ≢ a) × (m < n)) → (m ≢ a) × (m < suc n)
    go true e j r = let x = r j in (x.0, omega (arith, x.1))
    go false e (inl p) r = ((λ q. eqb-false n a e (sym p ∙ q)), omega arith)
    go false e (inr j) r = let x = r j in (x.0, omega (arith, x.1))

but_long : (a n : ℕ) → length (but a n) ≤ n
but_long a zero = omega arith
but_long a (suc n) = let r = but_long a n in if_cases (λ (l : List ℕ). length l ≤ suc n) (eqb n a) (λ e. omega arith) (λ e. omega arith)

-- ---- the crew

module _ (work : Work) (h : Head) (t g counts cells turns : List ℕ) (o : Open h t g counts cells turns) (d : ℕ) (begins : BeginWith d counts cells) where
  abbrev S : Crew → Type 0
  S w = Goes work h t g counts cells turns o w

  abbrev X : Crew → Type 0
  X w = Shown work h (length t) counts cells (fit work h t g counts cells turns o) w

  abbrev run : Crew → List ℕ → Crew
  run w ms = after work h g counts cells w ms

  -- a member that holds nothing
  abbrev Rests : List ℕ → ℕ → Type 0
  Rests made q = (get_or made q 0 ≡ 0) ⊎ (moves_of work (count_of counts q) ≤ get_or made q 0)

  -- nobody but a holds anything
  abbrev pub Alone : List ℕ → ℕ → Type 0
  Alone made a = (q : ℕ) → q ≢ a → Rests made q

  begins_at : (m : ℕ) → 1 ≤ count_of counts m → named cells (start_of counts m + 0) ≡ d
  begins_at m l = sym (listed counts cells m 0 (omega arith)) ∙ begins m l

  no_gift : (made : List ℕ) (n : ℕ) → Rests made n → count_of counts n ≤ get_or made n 0 → get_or made n 0 < moves_of work (count_of counts n) → ⊥
  no_gift made n (inl e) l r = omega (arith, adds_few work (count_of counts n))
  no_gift made n (inr e) l r = omega arith

  fresh : (made : List ℕ) (n : ℕ) → Rests made n → get_or made n 0 < count_of counts n → get_or made n 0 ≡ 0
  fresh made n (inl e) l = e
  fresh made n (inr e) l = absurd (omega arith)

  -- whose turn it is not, keeps its moves
  others : {w v : Crew} {n : ℕ} {log : List Event} → Turn work h.buckets g counts cells w n v log → (q : ℕ) → q ≢ n → get_or v.made q 0 ≡ get_or w.made q 0
  others {w} {v} {n} k q p = go (turn_steps work h.buckets g counts cells k)
    where
      go : Step work h.buckets g counts cells w.made v.made n → get_or v.made q 0 ≡ get_or w.made q 0
      go (stays e) = rw e
      go (steps l e) = rw e (get_or-set_other w.made n q _ 0 p)

  at_most : {w v : Crew} {n : ℕ} {log : List Event} → Turn work h.buckets g counts cells w n v log → v.moving ≤ w.moving + 1
  at_most (idled i e x) = rw e (omega arith)
  at_most (grabbed l r e q) = rw e (omega arith)
  at_most (summed l r e q) = rw e (omega arith)
  at_most (gave l r e q) = rw e (omega arith)

  alone_on : (made made' : List ℕ) (a : ℕ) → ((q : ℕ) → q ≢ a → get_or made' q 0 ≡ get_or made q 0) → Alone made a → Alone made' a
  alone_on made made' a e x q p = elim (x q p) [ inl y ↦ inl (e q p ∙ y) | inr y ↦ inr (omega (arith, e q p)) ]

  -- ---- while a holds the first cell, nobody else moves

  abbrev Stays : Crew → Crew → Type 0
  Stays w v = (v.made ≡ w.made) × (v.moving ≡ w.moving)

  shut_turn : (a : ℕ) {w v : Crew} {n : ℕ} {log : List Event} → X w → Holds work counts w.made a 0 → Alone w.made a → n ≢ a → Turn work h.buckets g counts cells w n v log → Stays w v
  shut_turn a x k al p (idled i e q) = rw e (refl, refl)
  shut_turn a {w} {n = n} x k al p (grabbed l r e one) =
      let z = fresh w.made n (al n p) l in
      let wants : wish counts cells w.made n ≡ d = ap (λ (i : ℕ). named cells (start_of counts n + i)) z ∙ begins_at n (omega arith) in
      let holds = (x.grip a 0 k).bit_is in
      let first_one = begins_at a k.0 in
      absurd (omega (arith, ap (bit_at w.table) wants, ap (bit_at w.table) first_one, (free_words w.next w.table (wish counts cells w.made n) r.is_free_lem).0))
  shut_turn a {w} {n = n} x k al p (summed l r e q) = absurd (no_gift w.made n (al n p) l (omega arith))
  shut_turn a {w} {n = n} x k al p (gave l r e q) = absurd (no_gift w.made n (al n p) (omega arith) r)

  shut_turns : (a : ℕ) (w : Crew) (ms : List ℕ) → S w → X w → Holds work counts w.made a 0 → Alone w.made a → ((n : ℕ) → In n ms → n ≢ a) → Stays w (run w ms)
  unfolding turns_of
  shut_turns a w [] s x k al f = (refl, refl)
  shut_turns a w (n ∷ ms) s x k al f =
      let p = turn_is work h.buckets g counts cells h.headers w n in
      let v = (turn_of work h.headers h.buckets g counts cells w n).seen in
      let y = shut_turn a x k al (f n (inl refl)) p in
      let z = shut_turns a v ms (turn_steady work h t g counts cells turns o s p) (turn_shown work h (length t) counts cells (fit work h t g counts cells turns o) g x p) (rw y.0 k) (rw y.0 al) (λ q i. f q (inr i)) in
      (z.0 ∙ y.0, z.1 ∙ y.1)

  -- ---- a round with at most one move

  pub record Slow (w v : Crew) : Type 0 where
    pub few : v.moving ≤ w.moving + 1
    pub who : ℕ
    pub alone : Alone v.made who

  -- if nobody holds anything: each in turn, until one takes the first cell
  still_turns : (n : ℕ) (w : Crew) → S w → X w → ((q : ℕ) → Rests w.made q) → Slow w (run w (upto n))
  unfolding turns_of
  still_turns zero w s x r = record { few = omega arith; who = 0; alone = λ q _. r q }
  still_turns (suc n) w s x r =
      let p = turn_is work h.buckets g counts cells h.headers w n in
      let v = (turn_of work h.headers h.buckets g counts cells w n).seen in
      go v p (turn_steady work h t g counts cells turns o s p) (turn_shown work h (length t) counts cells (fit work h t g counts cells turns o) g x p) (still_turns n v)
    where
      go : {log : List Event} (v : Crew) → Turn work h.buckets g counts cells w n v log → S v → X v
          → (S v → X v → ((q : ℕ) → Rests v.made q) → Slow v (run v (upto n))) → Slow w (run v (upto n))
      go v (idled i e q) s' x' more =
          let z = more s' x' (λ q. rw e (r q)) in
          record { few = omega (arith, z.few, ap (λ (c : Crew). c.moving) e); who = z.who; alone = z.alone }
      go {log} v (grabbed l y e one) s' x' more =
          let k = get_or-set_same w.made n (get_or w.made n 0 + 1) 0 (omega (arith, member counts n (omega arith), (fit work h t g counts cells turns o).few, s.size)) in
          let made_is = ap (λ (c : Crew). get_or c.made n 0) e ∙ k in
          let al = alone_on w.made v.made n (others {w = w} {v = v} {n = n} {log = log} (grabbed l y e one)) (λ q _. r q) in
          let z = shut_turns n v (upto n) s' x' (omega (arith, fresh w.made n (r n) l)) al (λ q i j. omega (arith, upto_low n q i)) in
          record { few = omega (arith, z.1, ap (λ (c : Crew). c.moving) e); who = n; alone = rw z.0 al }
      go v (summed l y e q) s' x' more = absurd (no_gift w.made n (r n) l (omega arith))
      go v (gave l y e q) s' x' more = absurd (no_gift w.made n (r n) (omega arith) y)

  -- if a holds the first cell: the others, and then a
  last_turns : (a n : ℕ) (w : Crew) → S w → X w → Holds work counts w.made a 0 → Alone w.made a → Slow w (run w (but a n ++ (a ∷ [])))
  unfolding turns_of
  last_turns a n w s x k al =
      let y = shut_turns a w (but a n) s x k al (λ q i. (but_low a n q i).0) in
      let v = run w (but a n) in
      let p = turn_is work h.buckets g counts cells h.headers v a in
      let u = (turn_of work h.headers h.buckets g counts cells v a).seen in
      rw (turns_append work h g counts cells w (but a n) (a ∷ []))
      (record { few = omega (arith, at_most p, y.1); who = a; alone = alone_on v.made u.made a (others p) (rw y.0 al) })

  pub record Round (w : Crew) : Type 0 where
    pub turns_in : List ℕ
    pub is_round : IsRound work h g counts cells w turns_in
    pub slow : Slow w (run w turns_in)
    pub names : (n : ℕ) → In n turns_in → n < length counts
    pub short : length turns_in ≤ 17

  next_round : (w : Crew) → S w → X w → (a : ℕ) → Alone w.made a → Round w
  next_round w s x a al = go (dec_lt 0 (get_or w.made a 0)) (dec_lt (get_or w.made a 0) (moves_of work (count_of counts a)))
    where
      rest : Rests w.made a → Round w
      rest r =
          record {
            turns_in = upto (length counts);
            is_round = λ m u. in_upto (length counts) m u.0;
            slow = still_turns (length counts) w s x (λ q. all q (ℕ_discrete q a));
            names = upto_low (length counts);
            short = omega (arith, upto_long (length counts), (fit work h t g counts cells turns o).few);
          }
        where
          all : (q : ℕ) → Dec (q ≡ a) → Rests w.made q
          all q (yes e) = rw e r
          all q (no e) = al q e

      go : Dec (0 < get_or w.made a 0) → Dec (get_or w.made a 0 < moves_of work (count_of counts a)) → Round w
      go (no l) k = rest (inl (omega arith))
      go (yes l) (no k) = rest (inr (omega arith))
      go (yes l) (yes k) =
          record {
            turns_in = but a (length counts) ++ (a ∷ []);
            is_round = λ m u. everyone m u.0 (ℕ_discrete m a);
            slow = last_turns a (length counts) w s x (omega (arith, adds_few work (count_of counts a))) al;
            names = λ n i. low n (in_either n (but a (length counts)) (a ∷ []) i);
            short = omega (arith, length-append (but a (length counts)) (a ∷ []), but_long a (length counts), (fit work h t g counts cells turns o).few);
          }
        where
          everyone : (m : ℕ) → m < length counts → Dec (m ≡ a) → In m (but a (length counts) ++ (a ∷ []))
          everyone m b (yes e) = in_right m (but a (length counts)) (a ∷ []) (inl e)
          everyone m b (no e) = in_left m (but a (length counts)) (a ∷ []) (in_but a (length counts) m e b)

          low : (n : ℕ) → In n (but a (length counts)) ⊎ In n (a ∷ []) → n < length counts
          low n (inl i) = (but_low a (length counts) n i).1
          low n (inr (inl e)) = omega (arith, member counts a (omega (arith, adds_few work (count_of counts a))))
          low n (inr (inr e)) = absurd e

  -- ---- so many rounds

  pub record Run (w : Crew) (k : ℕ) : Type 0 where
    pub rounds : List (List ℕ)
    pub many : length rounds ≡ k
    pub are_rounds : Rounds work h g counts cells w rounds
    pub slow_all : (run w (flat rounds)).moving ≤ w.moving + k
    pub names_all : (n : ℕ) → In n (flat rounds) → n < length counts
    pub short_all : length (flat rounds) ≤ 17 * k

  pub slow_rounds : (k : ℕ) (w : Crew) → S w → X w → (a : ℕ) → Alone w.made a → Run w k
  unfolding turns_of
  slow_rounds zero w s x a al = record { rounds = []; many = refl; are_rounds = tt; slow_all = omega arith; names_all = λ n i. absurd i; short_all = omega arith }
  slow_rounds (suc k) w s x a al =
      let r = next_round w s x a al in
      let v = run w r.turns_in in
      go r (slow_rounds k v (turns_steady work h t g counts cells turns o w r.turns_in s) (turns_shown work h (length t) counts cells (fit work h t g counts cells turns o) g w r.turns_in x) r.slow.who r.slow.alone)
    where
      go : (r : Round w) → Run (run w r.turns_in) k → Run w (suc k)
      go r q =
          record {
            rounds = r.turns_in ∷ q.rounds;
            many = ap suc q.many;
            are_rounds = (r.is_round, q.are_rounds);
            slow_all = rw (turns_append work h g counts cells w r.turns_in (flat q.rounds)) (omega (arith, q.slow_all, r.slow.few));
            names_all = λ n i. elim (in_either n r.turns_in (flat q.rounds) i) [ inl j ↦ r.names n j | inr j ↦ q.names_all n j ];
            short_all = omega (arith, length-append r.turns_in (flat q.rounds), r.short, q.short_all);
          }
