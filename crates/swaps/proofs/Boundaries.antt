-- A boundary over a script of which a stretch was shuffled: from every place outside the stretch it runs to the same end.
-- ---- the words of a script
use Prim.Native.Nat.{ℕ, zero, suc, ◌+◌, ◌*◌, ◌-◌, ◌≤◌, ◌<◌}
use Rattle.std.specs.Prelude.{◌≡◌, List, [], ◌∷◌, ◌++◌, ◌≢◌, ◌⊎◌, get_or}
use Rattle.std.proofs.Math.Path.{refl}
use Rattle.std.proofs.Common.{sym, ap, ◌∙◌, subst, inl, inr, arith, length-append, eq-eqb, ne_eqb}
use Rattle.std.proofs.Math.Decide.{ℕ_discrete}
use Rattle.std.proofs.Math.Nat.{div-eq_of_eq-mul_left}
use Rattle.std.proofs.Math.ListN.{length}
use Rattle.model.specs.Log.{Made}
use Rattle.model.specs.Arena.{spent_to}
use Rattle.model.specs.Foreign.{Setting, steps_in, kind_at, place_at, number_at, flow_of, step_of, run_steps_of, boundary_of}
use Rattle.model.specs.Calls.{given}
use Rattle.types.specs.declared.Flow.{Flow}
use Rattle.types.specs.declared.Head.{Head}
use Rattle.types.specs.declared.Hold.{Hold}
use Rattle.types.specs.declared.Stepped.{Stepped}
use Rattle.history.specs.World.{World, world_of}
use Rattle.swaps.specs.Steps.{Step, step_words, leaves, dropped, after_all, dropped_in, Shuffled, same, neighbours, behind, onward}
use Rattle.swaps.specs.Scripts.{script_of, Unended}
use Rattle.swaps.specs.Fine.{Fine}
use Rattle.swaps.proofs.Acts.{fine_leaves}
use Rattle.swaps.proofs.Lists.{shuffle, fine_all}
use Rattle.swaps.proofs.Owners.{three_on}
use Rattle.swaps.specs.Boundaries.{SameWords, Ran, rest_of, goes_on, Same}

script_length : (ss : List Step) → length (script_of ss) ≡ length ss * 3
unfolding script_of
script_length [] = refl
script_length (s ∷ ss) = omega (arith, script_length ss)

pub same_length : (pre xs ys post : List Step) → length ys ≡ length xs → length (script_of (pre ++ (ys ++ post))) ≡ length (script_of (pre ++ (xs ++ post)))
same_length pre xs ys post e =
    omega (
      arith,
      script_length (pre ++ (ys ++ post)),
      script_length (pre ++ (xs ++ post)),
      length-append pre (ys ++ post),
      length-append pre (xs ++ post),
      length-append ys post,
      length-append xs post,
    )

pub steps_in_lem : (pre xs post : List Step) → steps_in (script_of (pre ++ (xs ++ post))) ≡ length pre + (length xs + length post)
steps_in_lem pre xs post =
    div-eq_of_eq-mul_left (omega arith)
    (script_length (pre ++ (xs ++ post)) ∙ ap (λ (n : ℕ). n * 3) (length-append pre (xs ++ post) ∙ ap (λ (n : ℕ). length pre + n) (length-append xs post)))

-- before a stretch nothing hangs on what follows
word_before : (pre x y : List Step) (i : ℕ) → i < 3 * length pre → get_or (script_of (pre ++ x)) i 0 ≡ get_or (script_of (pre ++ y)) i 0
unfolding script_of
word_before [] x y i l = absurd (omega arith)
word_before (s ∷ pre) x y zero l = refl
word_before (s ∷ pre) x y (suc zero) l = refl
word_before (s ∷ pre) x y (suc (suc zero)) l = refl
word_before (s ∷ pre) x y (suc (suc (suc i))) l = word_before pre x y i (omega arith)

-- behind it stands what follows
word_behind : (xs post : List Step) (i : ℕ) → get_or (script_of (xs ++ post)) (3 * length xs + i) 0 ≡ get_or (script_of post) i 0
unfolding script_of
word_behind [] post i = ap (λ (k : ℕ). get_or (script_of post) k 0) (omega arith)
word_behind (s ∷ xs) post i =
    three_on s.kind s.place s.number (script_of (xs ++ post)) (3 * length (s ∷ xs) + i) (3 * length xs + i) (omega arith) ∙ word_behind xs post i

pub word_on : (pre ss post : List Step) (i : ℕ) → get_or (script_of (pre ++ (ss ++ post))) (3 * (length pre + length ss) + i) 0 ≡ get_or (script_of post) i 0
word_on pre ss post i =
    ap (λ (k : ℕ). get_or (script_of (pre ++ (ss ++ post))) k 0) (omega arith) ∙ word_behind pre (ss ++ post) (3 * length ss + i) ∙ word_behind ss post i

-- ---- steps that stand in a script are played one after the other

-- the steps stand in the script from this place on
abbrev pub Stand : List ℕ → ℕ → List Step → Type 0
Stand script p [] = Unit {0}
Stand script p (s ∷ ss) = ((kind_at script p ≡ s.kind) × ((place_at script p ≡ s.place) × (number_at script p ≡ s.number))) × Stand script (p + 1) ss

stand_at : (script : List ℕ) (p q : ℕ) (ss : List Step) → p ≡ q → Stand script p ss → Stand script q ss
stand_at script p q ss e x = subst (λ (k : ℕ). Stand script k ss) e x

shift : (a b c : ℕ) (script : List ℕ) (p : ℕ) (ss : List Step) → Stand script p ss → Stand (a ∷ b ∷ c ∷ script) (p + 1) ss
shift a b c script p [] x = tt
shift a b c script p (s ∷ ss) x = (
  (
    three_on a b c script (3 * (p + 1)) (3 * p) (omega arith) ∙ x.0.0,
    (three_on a b c script (3 * (p + 1) + 1) (3 * p + 1) (omega arith) ∙ x.0.1.0, three_on a b c script (3 * (p + 1) + 2) (3 * p + 2) (omega arith) ∙ x.0.1.1),
  ),
  shift a b c script (p + 1) ss x.1,
)

pub stand : (pre ss post : List Step) → Stand (script_of (pre ++ (ss ++ post))) (length pre) ss
unfolding script_of
stand [] [] post = tt
stand [] (s ∷ ss) post = ((refl, (refl, refl)), shift s.kind s.place s.number (script_of (ss ++ post)) 0 ss (stand [] ss post))
stand (s ∷ pre) ss post =
    stand_at (script_of (s ∷ pre ++ (ss ++ post))) (length pre + 1) (length (s ∷ pre)) ss (omega arith)
    (shift s.kind s.place s.number (script_of (pre ++ (ss ++ post))) (length pre) ss (stand pre ss post))

turn : (left : ℕ) (e : Setting) (f : Flow) (t g : List ℕ) (k q m : ℕ) → kind_at e.script f.place ≡ k → place_at e.script f.place ≡ q
    → number_at e.script f.place ≡ m → k ≢ 5 → (run_steps_of (suc left) e f t g).seen ≡ rest_of left e f (step_of e f.next t g k q m)
unfolding run_steps_of
turn left e f t g k q m x y z u = rw (x, y, z, ne_eqb k 5 u)

pub turn_last : (left : ℕ) (e : Setting) (f : Flow) (t g : List ℕ) → kind_at e.script f.place ≡ 5
    → (run_steps_of (suc left) e f t g).seen ≡ (flow_of f.next (f.place + 1) f.dropped, (t, g))
unfolding run_steps_of
turn_last left e f t g x = rw (eq-eqb (kind_at e.script f.place) 5 x)

-- a step reads nothing of the script itself
unscripted : (h : Head) (script : List ℕ) (ps : List Hold) (n : ℕ) (t g : List ℕ) (k q m : ℕ)
    → step_of (given h script ps) n t g k q m ≡ step_of (given h [] ps) n t g k q m
unfolding step_of
unscripted h script ps n t g k q m = refl

pub goes_through : (left more : ℕ) (ps : List Hold) (script : List ℕ) (w : World) (p d : ℕ) (ss : List Step) → left ≡ length ss + more → Stand script p ss
    → Unended ss
    → goes_on left (given w.head script ps) w p d
    ≡ goes_on more (given w.head script ps) (after_all ps w ss) (p + length ss) (d + dropped_in ps w ss)
unfolding after_all dropped_in
goes_through left more ps script w p d [] l x u =
    let e = given w.head script ps in
    let a : p ≡ p + 0 = omega arith in
    let b : d ≡ d + 0 = omega arith in
    let c : left ≡ more = omega arith in
    ap (λ (n : ℕ). goes_on n e w p d) c ∙ ap (λ (q : ℕ). goes_on more e w q d) a ∙ ap (goes_on more e w (p + 0)) b
goes_through zero more ps script w p d (s ∷ ss) l x u = absurd (omega arith)
goes_through (suc left) more ps script w p d (s ∷ ss) l x u =
    let e = given w.head script ps in
    let f = flow_of w.head.next p d in
    let v = after_all ps (leaves ps w s) ss in
    let a : p + 1 + length ss ≡ p + suc (length ss) = omega arith in
    let b : d + dropped ps w s + dropped_in ps (leaves ps w s) ss ≡ d + (dropped ps w s + dropped_in ps (leaves ps w s) ss) = omega arith in
    turn left e f w.table w.health s.kind s.place s.number x.0.0 x.0.1.0 x.0.1.1 u.0
    ∙ ap (rest_of left e f) (unscripted w.head script ps w.head.next w.table w.health s.kind s.place s.number)
    ∙ goes_through left more ps script (leaves ps w s) (p + 1) (d + dropped ps w s) ss (omega arith) x.1 u.1
    ∙ ap (λ (q : ℕ). goes_on more e v q (d + dropped ps w s + dropped_in ps (leaves ps w s) ss)) a
    ∙ ap (goes_on more e v (p + suc (length ss))) b

-- ---- a shuffled stretch

shuffled_unended : {ss ts : List Step} → Shuffled ss ts → Unended ss → Unended ts
shuffled_unended same u = u
shuffled_unended (neighbours p) u = (u.1.0, (u.0, u.1.1))
shuffled_unended (behind r) u = (u.0, shuffled_unended r u.1)
shuffled_unended (onward r q) u = shuffled_unended q (shuffled_unended r u)

pub shuffled_length : {ss ts : List Step} → Shuffled ss ts → length ts ≡ length ss
shuffled_length same = refl
shuffled_length (neighbours p) = refl
shuffled_length (behind r) = ap suc (shuffled_length r)
shuffled_length (onward r q) = shuffled_length q ∙ shuffled_length r

-- the world behind them, with the head as the call holds it
head_after : (ps : List Hold) (w : World) (ss : List Step) → (after_all ps w ss).head ≡ spent_to w.head (after_all ps w ss).head.next
unfolding after_all
head_after ps w [] = refl
head_after ps w (s ∷ ss) = head_after ps (leaves ps w s) ss

fine_after : (ps : List Hold) (w : World) (ss : List Step) → Fine w
    → Fine (world_of (spent_to w.head (after_all ps w ss).head.next) (after_all ps w ss).table (after_all ps w ss).health)
fine_after ps w ss f = subst (λ (h : Head). Fine (world_of h (after_all ps w ss).table (after_all ps w ss).health)) (head_after ps w ss) (fine_all ps w ss f)

module _ (h : Head) (pre ss ts post : List Step) (unended : Unended ss) (shuffle_is : Shuffled ss ts) where
  abbrev pub one : List ℕ
  one = script_of (pre ++ (ss ++ post))

  abbrev pub other : List ℕ
  other = script_of (pre ++ (ts ++ post))

  -- not inside the stretch
  abbrev pub Outside : ℕ → Type 0
  Outside p = (p ≤ length pre) ⊎ (length pre + length ss ≤ p)

  abbrev pub arena : Flow → List ℕ → List ℕ → World
  arena f t g = world_of (spent_to h f.next) t g

  -- the place is outside, and no cell is damaged
  abbrev pub OutsideFine : Ran → Type 0
  OutsideFine o = Outside o.0.place × Fine (arena o.0 o.1.0 o.1.1)

  word_outside : (i : ℕ) → (i < 3 * length pre) ⊎ (3 * (length pre + length ss) ≤ i) → get_or other i 0 ≡ get_or one i 0
  word_outside i (inl l) = word_before pre (ts ++ post) (ss ++ post) i l
  word_outside i (inr l) =
      let j = i - 3 * (length pre + length ss) in
      let x : i ≡ 3 * (length pre + length ss) + j = omega arith in
      let y : i ≡ 3 * (length pre + length ts) + j = omega (arith, shuffled_length shuffle_is) in
      ap (λ (k : ℕ). get_or other k 0) y ∙ word_on pre ts post j ∙ sym (ap (λ (k : ℕ). get_or one k 0) x ∙ word_on pre ss post j)

  words_before : (p : ℕ) → p < length pre → SameWords one other p
  words_before p l =
      record { kinds = word_outside (3 * p) (inl (omega arith)); places = word_outside (3 * p + 1) (inl (omega arith)); numbers = word_outside (3 * p + 2) (inl (omega arith)) }

  words_behind : (p : ℕ) → length pre + length ss ≤ p → SameWords one other p
  words_behind p l =
      record { kinds = word_outside (3 * p) (inr (omega arith)); places = word_outside (3 * p + 1) (inr (omega arith)); numbers = word_outside (3 * p + 2) (inr (omega arith)) }

  steps_one : steps_in one ≡ length pre + (length ss + length post)
  steps_one = steps_in_lem pre ss post

  steps_other : steps_in other ≡ length pre + (length ss + length post)
  steps_other = steps_in_lem pre ts post ∙ ap (λ (n : ℕ). length pre + (n + length post)) (shuffled_length shuffle_is)

  module _ (ps : List Hold) where
    abbrev RunsAlike : ℕ → Flow → List ℕ → List ℕ → Type 0
    RunsAlike left f t g = Same OutsideFine (run_steps_of left (given h one ps) f t g).seen (run_steps_of left (given h other ps) f t g).seen

    -- one step outside the stretch, and then what follows
    one_turn : (left : ℕ) (f : Flow) (t g : List ℕ) → SameWords one other f.place → Outside (f.place + 1) → Fine (arena f t g)
        → ((k : Flow) (u v : List ℕ) → k.place ≡ f.place + 1 → Fine (arena k u v) → RunsAlike left k u v) → RunsAlike (suc left) f t g
    one_turn left f t g x o c more = go (ℕ_discrete (kind_at one f.place) 5)
      where
        s : Step
        s = step_words (kind_at one f.place) (place_at one f.place) (number_at one f.place)

        go : Dec (kind_at one f.place ≡ 5) → RunsAlike (suc left) f t g
        go (yes e) =
            record {
              equal = turn_last left (given h other ps) f t g (x.kinds ∙ e) ∙ sym (turn_last left (given h one ps) f t g e);
              good = subst OutsideFine (sym (turn_last left (given h one ps) f t g e)) (o, c);
            }
        go (no e) =
            let m = step_of (given h [] ps) f.next t g s.kind s.place s.number in
            let k = flow_of m.seen.0.next (f.place + 1) (f.dropped + m.seen.0.dropped) in
            let r = more k m.seen.1.0 m.seen.1.1 refl (fine_leaves ps (arena f t g) s c) in
            let a : (run_steps_of (suc left) (given h one ps) f t g).seen ≡ rest_of left (given h one ps) f m =
            turn left (given h one ps) f t g s.kind s.place s.number refl refl refl e
            ∙ ap (rest_of left (given h one ps) f) (unscripted h one ps f.next t g s.kind s.place s.number) in
            let b : (run_steps_of (suc left) (given h other ps) f t g).seen ≡ rest_of left (given h other ps) f m =
            turn left (given h other ps) f t g s.kind s.place s.number x.kinds x.places x.numbers e
            ∙ ap (rest_of left (given h other ps) f) (unscripted h other ps f.next t g s.kind s.place s.number) in
            record { equal = b ∙ r.equal ∙ sym a; good = subst OutsideFine (sym a) r.good }

    -- from a place behind the stretch
    runs_behind : (left : ℕ) (f : Flow) (t g : List ℕ) → length pre + length ss ≤ f.place → Fine (arena f t g) → RunsAlike left f t g
    unfolding run_steps_of
    runs_behind zero f t g l c = record { equal = refl; good = (inr l, c) }
    runs_behind (suc left) f t g l c =
        one_turn left f t g (words_behind f.place l) (inr (omega arith)) c (λ k u v e d. runs_behind left k u v (omega arith) d)

    -- from the first place of the stretch: through it, and on
    runs_through : (left : ℕ) (f : Flow) (t g : List ℕ) → left ≡ length ss + length post → f.place ≡ length pre → Fine (arena f t g) → RunsAlike left f t g
    runs_through left f t g n l c =
        let w = arena f t g in
        let eq = shuffle ps w c shuffle_is in
        let v = after_all ps w ss in
        let a : (run_steps_of left (given h one ps) f t g).seen
        ≡ goes_on (length post) (given h one ps) v (f.place + length ss) (f.dropped + dropped_in ps w ss) =
        goes_through left (length post) ps one w f.place f.dropped ss n (stand_at one (length pre) f.place ss (sym l) (stand pre ss post)) unended in
        let b : (run_steps_of left (given h other ps) f t g).seen
        ≡ goes_on (length post) (given h other ps) (after_all ps w ts) (f.place + length ts) (f.dropped + dropped_in ps w ts) =
        goes_through left (length post) ps other w f.place f.dropped ts (omega (arith, shuffled_length shuffle_is))
        (stand_at other (length pre) f.place ts (sym l) (stand pre ts post)) (shuffled_unended shuffle_is unended) in
        let c₁ : goes_on (length post) (given h other ps) (after_all ps w ts) (f.place + length ts) (f.dropped + dropped_in ps w ts)
        ≡ goes_on (length post) (given h other ps) v (f.place + length ss) (f.dropped + dropped_in ps w ss) =
        rw (eq.0, eq.1, shuffled_length shuffle_is) in
        let r = runs_behind (length post) (flow_of v.head.next (f.place + length ss) (f.dropped + dropped_in ps w ss)) v.table v.health
        (omega arith) (fine_after ps w ss c) in
        record { equal = b ∙ c₁ ∙ r.equal ∙ sym a; good = subst OutsideFine (sym a) r.good }

    -- from a place before the stretch
    runs_before : (left gap : ℕ) (f : Flow) (t g : List ℕ) → left ≡ gap + (length ss + length post) → f.place + gap ≡ length pre → Fine (arena f t g)
        → RunsAlike left f t g
    runs_before left zero f t g n l c = runs_through left f t g (omega arith) (omega arith) c
    runs_before zero (suc gap) f t g n l c = absurd (omega arith)
    runs_before (suc left) (suc gap) f t g n l c =
        one_turn left f t g (words_before f.place (omega arith)) (inl (omega arith)) c (λ k u v e d. runs_before left gap k u v (omega arith) (omega arith) d)

    from : (left : ℕ) (f : Flow) (t g : List ℕ) → left ≡ steps_in one - f.place → left ≡ steps_in other - f.place → RunsAlike left f t g
        → Same OutsideFine (run_steps_of (steps_in one - f.place) (given h one ps) f t g).seen (run_steps_of (steps_in other - f.place) (given h other ps) f t g).seen
    from left f t g x y r =
        subst (λ (n : ℕ). Same OutsideFine (run_steps_of n (given h one ps) f t g).seen (run_steps_of (steps_in other - f.place) (given h other ps) f t g).seen) x
        (subst (λ (n : ℕ). Same OutsideFine (run_steps_of left (given h one ps) f t g).seen (run_steps_of n (given h other ps) f t g).seen) y r)

    pub boundary_alike : (f : Flow) (t g : List ℕ) → OutsideFine (f, (t, g)) → Same OutsideFine (boundary_of (given h one ps) f t g).seen (boundary_of (given h other ps) f t g).seen
    unfolding boundary_of
    boundary_alike f t g (inl l, c) =
        let gap = length pre - f.place in
        from (gap + (length ss + length post)) f t g (omega (arith, steps_one)) (omega (arith, steps_other)) (runs_before (gap + (length ss + length post)) gap f t g refl (omega arith) c)
    boundary_alike f t g (inr l, c) =
        let left = length pre + (length ss + length post) - f.place in
        from left f t g (omega (arith, steps_one)) (omega (arith, steps_other)) (runs_behind left f t g l c)
