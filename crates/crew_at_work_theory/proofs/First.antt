-- Of two members that share a cell, the one that came to hold all first has released that cell before the other takes it.
use Rattle.std.specs.Prelude.{ℕ, ◌+◌, ◌-◌, ◌≤◌, ◌<◌, ◌≡◌, ◌≢◌, ◌⊎◌, length, if◌then◌else◌}
use Rattle.std.proofs.Math.Path.{refl, sym, ap, subst}
use Rattle.std.proofs.Common.{◌∙◌, inl, inr, eq-eqb}
use mathlib.Core.List.{List, [], ◌∷◌, ◌++◌, append_assoc}
use native.Mathlib.Omega.{arith}
use Rattle.std.proofs.Math.Decide.{dec_lt}
use Rattle.std.proofs.Math.Dec.{eqb}
use Rattle.std.proofs.Math.ListN.{get_or}
use Rattle.std.proofs.lemmas.Bool.{lt-leb}
use Rattle.model.specs.Log.{Event, by_caller, attempt_begun, boundary_run, yielded, spun, step_dropped, took, released, waiters_set, health_set, held_all_lem, added}
use Rattle.model.specs.Arena.{bit_at, state_at}
use Rattle.model.specs.Crew.{adds, moves_of, start_of, count_of, Crew, crew_start, turn_of, turns_of, order_of}
use Rattle.types.specs.declared.Head.{Head}
use Rattle.types.specs.declared.State.TheVariants as state
use Rattle.laws.specs.Lists.{zeros}
use Rattle.history.specs.Tests.{free_words}
use Rattle.history.specs.Crew.{Holds}
use Rattle.crew_theory.specs.Statements.{In, named, wish, deeds_in, idled, grabbed, summed, gave, own_log}
use Rattle.crew_theory.specs.Lists.{Fits}
use Rattle.crew_theory.specs.Turns.{turn_is}
use Rattle.crew_theory.proofs.Whole.{Shown, turn_shown, turns_shown, start_shown, Moves, none_made, one_made, turn_moves}
use Rattle.crew_at_work_theory.specs.Statements.{Before, Has, GivesWay}
use Rattle.crew_at_work_theory.specs.Orders.{in_times, before_last, order_append, held_all, Turned, Fills, names_none, names_one, turn_fills, run, log_of, turns_grow, not_again}

-- ---- events of a log

has_left : {e : Event} {xs : List Event} (ys : List Event) → Has e xs → Has e (xs ++ ys)
has_left {e} ys (a, b, p) = (a, b ++ ys, ap (λ (l : List Event). l ++ ys) p ∙ append_assoc a (e ∷ b) ys)

has_right : {e : Event} (xs : List Event) {ys : List Event} → Has e ys → Has e (xs ++ ys)
has_right {e} xs (a, b, p) = (xs ++ a, b, ap (λ (l : List Event). xs ++ l) p ∙ sym (append_assoc xs a (e ∷ b)))

has_more : {e : Event} (x : Event) {ys : List Event} → Has e ys → Has e (x ∷ ys)
has_more x (a, b, p) = (x ∷ a, b, ap {B = List Event} (λ l. x ∷ l) p)

has_first : (e x : Event) (es ds rest : List Event) → x ∷ rest ≡ e ∷ ds → Has e (x ∷ es)
has_first e x es ds rest p = let q : x ≡ e = cc in ([], es, ap {B = List Event} (λ y. y ∷ es) q)

-- the first deed of a log is one of its events
deed_is : (e : Event) (log ds : List Event) → deeds_in log ≡ e ∷ ds → Has e log
unfolding deeds_in
deed_is e [] ds p = let z : ◌≡◌ {A = ℕ} 0 1 = cc in absurd (omega arith)
deed_is e (attempt_begun ∷ es) ds p = has_more attempt_begun (deed_is e es ds p)
deed_is e (boundary_run ∷ es) ds p = has_more boundary_run (deed_is e es ds p)
deed_is e (yielded ∷ es) ds p = has_more yielded (deed_is e es ds p)
deed_is e (spun ∷ es) ds p = has_more spun (deed_is e es ds p)
deed_is e (step_dropped ∷ es) ds p = has_first e step_dropped es ds (deeds_in es) p
deed_is e (took a c s ∷ es) ds p = has_first e (took a c s) es ds (deeds_in es) p
deed_is e (released a c s ∷ es) ds p = has_first e (released a c s) es ds (deeds_in es) p
deed_is e (waiters_set c n ∷ es) ds p = has_first e (waiters_set c n) es ds (deeds_in es) p
deed_is e (health_set i n ∷ es) ds p = has_first e (health_set i n) es ds (deeds_in es) p
deed_is e (held_all_lem m ∷ es) ds p = has_first e (held_all_lem m) es ds (deeds_in es) p
deed_is e (added m c v ∷ es) ds p = has_first e (added m c v) es ds (deeds_in es) p

-- two parts, each with one event of its own
laid : (a b a' b' rest xs ys : List Event) (e f : Event) → xs ≡ a ++ (e ∷ b) → ys ≡ a' ++ (f ∷ b') → xs ++ (ys ++ rest) ≡ a ++ (e ∷ ((b ++ a') ++ (f ∷ (b' ++ rest))))
laid a b a' b' rest xs ys e f p q =
    rw (p, q, append_assoc a' (f ∷ b') rest, append_assoc a (e ∷ b) (a' ++ (f ∷ (b' ++ rest))), append_assoc b a' (f ∷ (b' ++ rest)))

before_either : (a b : ℕ) (xs ys : List ℕ) → Before a b (xs ++ ys) → In a xs ⊎ Before a b ys
before_either a b [] ys i = inr i
before_either a b (x ∷ xs) ys (inl e) = inl (inl e.0)
before_either a b (x ∷ xs) ys (inr e) = elim (before_either a b xs ys e) [ inl j ↦ inl (inr j) | inr j ↦ inr j ]

module _ (h : Head) (words : ℕ) (counts cells : List ℕ) (fit : Fits h words counts cells) (g : List ℕ) where
  abbrev X : Crew → Type 0
  X w = Shown adds h words counts cells fit w

  abbrev go_on : Crew → List ℕ → Crew
  go_on w ms = run h words counts cells fit g w ms

  abbrev log : Crew → List ℕ → List Event
  log w ms = log_of h words counts cells fit g w ms

  abbrev turn : Crew → ℕ → Crew
  turn w n = (turn_of adds h.headers h.buckets g counts cells w n).seen

  abbrev turn_log : Crew → ℕ → List Event
  turn_log w n = (turn_of adds h.headers h.buckets g counts cells w n).log

  abbrev own : ℕ → Crew → List ℕ → List Event
  own m w ms = own_log adds h g counts cells m w ms

  turned : (w : Crew) (n : ℕ) → Turned h words counts cells fit g w n (turn w n) (turn_log w n)
  turned w n = turn_is adds h.buckets g counts cells h.headers w n

  steps_to : (m : ℕ) (w : Crew) (n : ℕ) → X w → Moves adds h words counts cells fit w.made (turn w n).made n m
  steps_to m w n x = turn_moves adds h words counts cells fit g m x (turned w n)

  shown_on : (w : Crew) (n : ℕ) → X w → X (turn w n)
  shown_on w n x = turn_shown adds h words counts cells fit g x (turned w n)

  logs_append : (w : Crew) (xs ys : List ℕ) → log w (xs ++ ys) ≡ log w xs ++ log (go_on w xs) ys
  unfolding turns_of
  logs_append w [] ys = refl
  logs_append w (n ∷ xs) ys = ap (λ (l : List Event). turn_log w n ++ l) (logs_append (turn w n) xs ys) ∙ sym (append_assoc (turn_log w n) (log (turn w n) xs) (log (go_on (turn w n) xs) ys))

  logs_middle : (w : Crew) (xs : List ℕ) (q : ℕ) (ys : List ℕ) → log w (xs ++ (q ∷ ys)) ≡ log w xs ++ (turn_log (go_on w xs) q ++ log (turn (go_on w xs) q) ys)
  unfolding turns_of
  logs_middle w xs q ys = logs_append w xs (q ∷ ys)

  own_append : (m : ℕ) (w : Crew) (xs ys : List ℕ) → own m w (xs ++ ys) ≡ own m w xs ++ own m (go_on w xs) ys
  unfolding turns_of own_log
  own_append m w [] ys = refl
  own_append m w (n ∷ xs) ys =
      ap (λ (l : List Event). (if eqb n m then turn_log w n else []) ++ l) (own_append m (turn w n) xs ys)
      ∙ sym (append_assoc (if eqb n m then turn_log w n else []) (own m (turn w n) xs) (own m (go_on (turn w n) xs) ys))

  -- an event of a member's own turn is one of its own log
  own_has : {e : Event} (m : ℕ) (w : Crew) (ms : List ℕ) → Has e (turn_log w m) → Has e (own m w (m ∷ ms))
  unfolding own_log
  own_has m w ms k = rw (eq-eqb m m refl) (has_left (own m (turn w m) ms) k)

  -- ---- a member that has released its j-th cell did so in one of its own turns

  pub record GaveIn (w : Crew) (ms : List ℕ) (m c : ℕ) : Type 0 where
    pub serial : ℕ
    pub in_log : Has (released by_caller c serial) (log w ms)
    pub in_own : Has (released by_caller c serial) (own m w ms)

  gave_now : (w : Crew) (ms : List ℕ) (m j : ℕ) → X w → j < count_of counts m → j + get_or w.made m 0 < moves_of adds (count_of counts m)
      → moves_of adds (count_of counts m) ≤ j + get_or (turn w m).made m 0 → GaveIn w (m ∷ ms) m (named cells (start_of counts m + j))
  unfolding turns_of
  gave_now w ms m j x b l k = go (turned w m) (steps_to m w m x)
    where
      go : Turned h words counts cells fit g w m (turn w m) (turn_log w m) → Moves adds h words counts cells fit w.made (turn w m).made m m
          → GaveIn w (m ∷ ms) m (named cells (start_of counts m + j))
      go p (none_made e) = absurd (omega arith)
      go (idled i e q) (one_made r s) = absurd (omega (arith, ap (λ (c : Crew). get_or c.made m 0) e))
      go (grabbed y r e q) (one_made z s) = absurd (omega arith)
      go (summed y r e q) (one_made z s) = absurd (omega arith)
      go (gave y r e q) (one_made z s) =
          let n : moves_of adds (count_of counts m) - 1 - get_or w.made m 0 ≡ j = omega arith in
          let f = deed_is _ (turn_log w m) [] q in
          let k = subst (λ i. Has (released by_caller (named cells (start_of counts m + i)) (get_or w.serials (start_of counts m + (moves_of adds (count_of counts m) - 1 - get_or w.made m 0)) 0)) (turn_log w m)) n f in
          record { serial = _; in_log = has_left (log (turn w m) ms) k; in_own = own_has m w ms k }

  gave_in : (w : Crew) (ms : List ℕ) (m j : ℕ) → X w → j < count_of counts m → j + get_or w.made m 0 < moves_of adds (count_of counts m)
      → moves_of adds (count_of counts m) ≤ j + get_or (go_on w ms).made m 0 → GaveIn w ms m (named cells (start_of counts m + j))
  unfolding turns_of own_log
  gave_in w [] m j x b l k = absurd (omega arith)
  gave_in w (n ∷ ms) m j x b l k =
      go (dec_lt (j + get_or (turn w n).made m 0) (moves_of adds (count_of counts m))) (steps_to m w n x) (λ a. gave_in (turn w n) ms m j (shown_on w n x) b a k)
    where
      go : Dec (j + get_or (turn w n).made m 0 < moves_of adds (count_of counts m)) → Moves adds h words counts cells fit w.made (turn w n).made n m
          → (j + get_or (turn w n).made m 0 < moves_of adds (count_of counts m) → GaveIn (turn w n) ms m (named cells (start_of counts m + j)))
          → GaveIn w (n ∷ ms) m (named cells (start_of counts m + j))
      go (yes a) mv more =
          let r = more a in
          record { serial = r.serial; in_log = has_right (turn_log w n) r.in_log; in_own = has_right (if eqb n m then turn_log w n else []) r.in_own }
      go (no a) (none_made e) more = absurd (omega arith)
      go (no a) (one_made p e) more =
          subst (λ i. GaveIn w (i ∷ ms) m (named cells (start_of counts m + j))) p
          (gave_now w ms m j x b l (subst (λ i. moves_of adds (count_of counts m) ≤ j + get_or (turn w i).made m 0) (sym p) (omega arith)))

  -- ---- a member that has taken its i-th cell did so in one of its own turns, and the cell was free then

  pub record TookAt (w : Crew) (ms : List ℕ) (q i : ℕ) : Type 0 where
    pub before : List ℕ
    pub later : List ℕ
    pub parts : ms ≡ before ++ (q ∷ later)
    pub so_far : get_or (go_on w before).made q 0 ≡ i
    pub then_more : get_or (turn (go_on w before) q).made q 0 ≡ i + 1
    pub free : state_at (go_on w before).next (go_on w before).table (named cells (start_of counts q + i)) ≡ state.Free
    pub serial : ℕ
    pub has : Has (took by_caller (named cells (start_of counts q + i)) serial) (turn_log (go_on w before) q)

  took_now : (w : Crew) (ms : List ℕ) (q i : ℕ) → X w → i < count_of counts q → get_or w.made q 0 ≤ i → i < get_or (turn w q).made q 0 → TookAt w (q ∷ ms) q i
  unfolding turns_of
  took_now w ms q i x b l k = go (turned w q) (steps_to q w q x)
    where
      go : Turned h words counts cells fit g w q (turn w q) (turn_log w q) → Moves adds h words counts cells fit w.made (turn w q).made q q → TookAt w (q ∷ ms) q i
      go p (none_made e) = absurd (omega arith)
      go (idled a e d) (one_made r s) = absurd (omega (arith, ap (λ (c : Crew). get_or c.made q 0) e))
      go (grabbed y r e d) (one_made z s) =
          let n : get_or w.made q 0 ≡ i = omega arith in
          record {
            before = [];
            later = ms;
            parts = refl;
            so_far = n;
            then_more = omega arith;
            free = subst (λ k. state_at w.next w.table (named cells (start_of counts q + k)) ≡ state.Free) n r.is_free_lem;
            serial = w.next;
            has = subst (λ k. Has (took by_caller (named cells (start_of counts q + k)) w.next) (turn_log w q)) n (deed_is _ (turn_log w q) _ d);
          }
      go (summed y r e d) (one_made z s) = absurd (omega arith)
      go (gave y r e d) (one_made z s) = absurd (omega arith)

  took_at : (w : Crew) (ms : List ℕ) (q i : ℕ) → X w → i < count_of counts q → get_or w.made q 0 ≤ i → i < get_or (go_on w ms).made q 0 → TookAt w ms q i
  unfolding turns_of
  took_at w [] q i x b l k = absurd (omega arith)
  took_at w (n ∷ ms) q i x b l k = go (dec_lt i (get_or (turn w n).made q 0)) (steps_to q w n x) (λ a. took_at (turn w n) ms q i (shown_on w n x) b a k)
    where
      go : Dec (i < get_or (turn w n).made q 0) → Moves adds h words counts cells fit w.made (turn w n).made n q → (get_or (turn w n).made q 0 ≤ i → TookAt (turn w n) ms q i) → TookAt w (n ∷ ms) q i
      go (no a) mv more =
          let r = more (omega arith) in
          record {
            before = n ∷ r.before;
            later = r.later;
            parts = ap {B = List ℕ} (λ l. n ∷ l) r.parts;
            so_far = r.so_far;
            then_more = r.then_more;
            free = r.free;
            serial = r.serial;
            has = r.has;
          }
      go (yes a) (none_made e) more = absurd (omega arith)
      go (yes a) (one_made p e) more = subst (λ k. TookAt w (k ∷ ms) q i) p (took_now w ms q i x b l (subst (λ k. i < get_or (turn w k).made q 0) (sym p) a))

  -- ---- two members that share a cell

  module _ (m j q i : ℕ) (two : m ≢ q) (mj : j < count_of counts m) (qi : i < count_of counts q) (shared : named cells (start_of counts m + j) ≡ named cells (start_of counts q + i)) where
    -- while q holds the cell, m does not take it
    kept_out : (w : Crew) (n : ℕ) → X w → get_or w.made m 0 ≤ j → Holds adds counts w.made q i → get_or (turn w n).made m 0 ≤ j
    kept_out w n x a k = at (steps_to m w n x)
      where
        mine : Turned h words counts cells fit g w m (turn w m) (turn_log w m) → Moves adds h words counts cells fit w.made (turn w m).made m m → get_or (turn w m).made m 0 ≤ j
        mine p (none_made e) = omega arith
        mine (idled b e d) (one_made p s) = absurd (omega (arith, ap (λ (c : Crew). get_or c.made m 0) e))
        mine (grabbed y r e d) (one_made p s) = go (dec_lt (get_or w.made m 0) j)
          where
            go : Dec (get_or w.made m 0 < j) → get_or (turn w m).made m 0 ≤ j
            go (yes z) = omega arith
            go (no z) =
                let n : get_or w.made m 0 ≡ j = omega arith in
                let held = (x.grip q i k).bit_is in
                let free = (free_words w.next w.table (wish counts cells w.made m) r.is_free_lem).0 in
                let c = ap (bit_at w.table) (ap (λ z. named cells (start_of counts m + z)) n ∙ shared) in
                absurd (omega arith)
        mine (summed y r e d) (one_made p s) = absurd (omega arith)
        mine (gave y r e d) (one_made p s) = absurd (omega arith)

        at : Moves adds h words counts cells fit w.made (turn w n).made n m → get_or (turn w n).made m 0 ≤ j
        at (none_made e) = omega arith
        at (one_made p e) = subst (λ z. get_or (turn w z).made m 0 ≤ j) p (mine (turned w m) (steps_to m w m x))

    -- so m does not come to hold all before q does
    not_before : (w : Crew) (ms : List ℕ) → X w → get_or w.made m 0 ≤ j → Holds adds counts w.made q i → Before m q (order_of (log w ms)) → ⊥
    unfolding turns_of order_of
    not_before w [] x a k bf = bf
    not_before w (n ∷ ms) x a k bf =
        go (dec_lt (get_or w.made q 0) (count_of counts q)) (kept_out w n x a k) (steps_to q w n x) (turn_fills h words counts cells fit g x (turned w n))
        (subst (Before m q) (order_append (turn_log w n) (log (turn w n) ms)) bf) (not_before (turn w n) ms (shown_on w n x))
      where
        go : Dec (get_or w.made q 0 < count_of counts q) → get_or (turn w n).made m 0 ≤ j → Moves adds h words counts cells fit w.made (turn w n).made n q
            → Fills h words counts cells fit g w n (turn w n) (turn_log w n)
            → Before m q (order_of (turn_log w n) ++ order_of (log (turn w n) ms))
            → (get_or (turn w n).made m 0 ≤ j → Holds adds counts (turn w n).made q i → Before m q (order_of (log (turn w n) ms)) → ⊥) → ⊥
        go (no l) out mv fl b more = not_again h words counts cells fit g q w (n ∷ ms) x (omega arith) (before_last m q (order_of (log w (n ∷ ms))) bf)
        go (yes l) out mv fl b more = more out (still mv) (rest fl)
          where
            still : Moves adds h words counts cells fit w.made (turn w n).made n q → Holds adds counts (turn w n).made q i
            still (none_made e) = (k.0, omega (arith, k.1), omega (arith, k.2))
            still (one_made p e) = (k.0, omega (arith, k.1), omega (arith, k.0))

            rest : Fills h words counts cells fit g w n (turn w n) (turn_log w n) → Before m q (order_of (log (turn w n) ms))
            rest (names_none z f) = subst (λ (l : List ℕ). Before m q (l ++ order_of (log (turn w n) ms))) z b
            rest (names_one z c d) = at (subst (λ (l : List ℕ). Before m q (l ++ order_of (log (turn w n) ms))) z b)
              where
                at : Before m q (n ∷ order_of (log (turn w n) ms)) → Before m q (order_of (log (turn w n) ms))
                at (inl e) = absurd (omega (arith, ap (λ z. get_or (turn w n).made z 0) e.0, ap (count_of counts) e.0))
                at (inr e) = e

    module _ (t counters turns : List ℕ) (wide : length t ≡ words) (bf : Before m q (order_of (log (crew_start h t counters) turns))) where
      abbrev w₀ : Crew
      w₀ = crew_start h t counters

      x₀ : X w₀
      x₀ = start_shown adds h words counts cells fit t counters wide

      -- q came to hold all
      enough : i < get_or (go_on w₀ turns).made q 0
      enough = go (dec_lt (get_or (go_on w₀ turns).made q 0) (count_of counts q))
        where
          go : Dec (get_or (go_on w₀ turns).made q 0 < count_of counts q) → i < get_or (go_on w₀ turns).made q 0
          go (no l) = omega arith
          go (yes l) =
              let a = turns_grow h words counts cells fit g q w₀ turns x₀ in
              let b : held_all (count_of counts q) (get_or (go_on w₀ turns).made q 0) ≡ 0 = rw (lt-leb (count_of counts q) (get_or (go_on w₀ turns).made q 0) l) in
              absurd (omega (arith, in_times q (order_of (log w₀ turns)) (before_last m q (order_of (log w₀ turns)) bf)))

      module _ (k : TookAt w₀ turns q i) where
        abbrev u : Crew
        u = go_on w₀ k.before

        y : X u
        y = turns_shown adds h words counts cells fit g w₀ k.before x₀

        log_is : log w₀ turns ≡ log w₀ k.before ++ (turn_log u q ++ log (turn u q) k.later)
        log_is = ap (λ (l : List ℕ). log w₀ l) k.parts ∙ logs_middle w₀ k.before q k.later

        -- m has not taken the cell: then it does not come to hold all before q
        too_late : get_or u.made m 0 ≤ j → ⊥
        too_late a =
            let order_is = ap order_of log_is ∙ order_append (log w₀ k.before) (turn_log u q ++ log (turn u q) k.later)
            ∙ ap (λ (l : List ℕ). order_of (log w₀ k.before) ++ l) (order_append (turn_log u q) (log (turn u q) k.later)) in
            go (before_either m q (order_of (log w₀ k.before)) _ (subst (Before m q) order_is bf))
          where
            kept : get_or (turn u q).made m 0 ≤ j
            kept = at (steps_to m u q y)
              where
                at : Moves adds h words counts cells fit u.made (turn u q).made q m → get_or (turn u q).made m 0 ≤ j
                at (none_made e) = omega arith
                at (one_made p e) = absurd (two p)

            last : Before m q (order_of (log (turn u q) k.later)) → ⊥
            last = not_before (turn u q) k.later (shown_on u q y) kept (qi, omega (arith, k.then_more), omega (arith, k.then_more))

            turn_names : Fills h words counts cells fit g u q (turn u q) (turn_log u q) → In m (order_of (turn_log u q)) → ⊥
            turn_names (names_none z f) i = subst (In m) z i
            turn_names (names_one z a b) i = elim (subst (In m) z i) [ inl e ↦ two e | inr e ↦ e ]

            go : In m (order_of (log w₀ k.before)) ⊎ Before m q (order_of (turn_log u q) ++ order_of (log (turn u q) k.later)) → ⊥
            go (inl e) =
                let grew = turns_grow h words counts cells fit g m w₀ k.before x₀ in
                let none : held_all (count_of counts m) (get_or u.made m 0) ≡ 0 = rw (lt-leb (count_of counts m) (get_or u.made m 0) (omega arith)) in
                omega (arith, in_times m (order_of (log w₀ k.before)) e)
            go (inr e) =
                elim (before_either m q (order_of (turn_log u q)) (order_of (log (turn u q) k.later)) e)
                [ inl z ↦ turn_names (turn_fills h words counts cells fit g y (turned u q)) z | inr z ↦ last z ]

        -- m holds the cell: then it is not free
        not_free : Holds adds counts u.made m j → ⊥
        not_free z =
            let held = (y.grip m j z).bit_is in
            let free = (free_words u.next u.table (named cells (start_of counts q + i)) k.free).0 in
            omega (arith, ap (bit_at u.table) shared)

        -- so it has released it
        was_given : GaveIn w₀ k.before m (named cells (start_of counts m + j))
        was_given = go (dec_lt j (get_or u.made m 0)) (dec_lt (j + get_or u.made m 0) (moves_of adds (count_of counts m)))
          where
            go : Dec (j < get_or u.made m 0) → Dec (j + get_or u.made m 0 < moves_of adds (count_of counts m)) → GaveIn w₀ k.before m (named cells (start_of counts m + j))
            go (no a) b = absurd (too_late (omega arith))
            go (yes a) (yes b) = absurd (not_free (mj, a, b))
            go (yes a) (no b) = gave_in w₀ k.before m j x₀ mj (omega (arith, zeros 16 m)) (omega arith)

        both : GaveIn w₀ k.before m (named cells (start_of counts m + j)) → Has (took by_caller (named cells (start_of counts q + i)) k.serial) (turn_log u q)
            → GivesWay h t g counts cells turns counters m q (named cells (start_of counts m + j)) (log w₀ turns)
        both r (a', b', e') = go r.in_log
          where
            c : ℕ
            c = named cells (start_of counts m + j)

            rest : List Event
            rest = log (turn u q) k.later

            here : turn_log u q ≡ a' ++ (took by_caller (named cells (start_of counts m + j)) k.serial ∷ b')
            here = e' ∙ ap (λ d. a' ++ (took by_caller d k.serial ∷ b')) (sym shared)

            own_is : (n : ℕ) → own n w₀ turns ≡ own n w₀ k.before ++ own n u (q ∷ k.later)
            own_is n = ap (λ (l : List ℕ). own n w₀ l) k.parts ∙ own_append n w₀ k.before (q ∷ k.later)

            go : Has (released by_caller (named cells (start_of counts m + j)) r.serial) (log w₀ k.before)
                → GivesWay h t g counts cells turns counters m q (named cells (start_of counts m + j)) (log w₀ turns)
            go (a, b, e) =
                record {
                  before = a;
                  between = b ++ a';
                  after = b' ++ rest;
                  given = r.serial;
                  got = k.serial;
                  parts = log_is ∙ laid a b a' b' rest (log w₀ k.before) (turn_log u q) (released by_caller c r.serial) (took by_caller c k.serial) e here;
                  by_first = subst (Has (released by_caller c r.serial)) (sym (own_is m)) (has_left (own m u (q ∷ k.later)) r.in_own);
                  by_second = subst (Has (took by_caller c k.serial)) (sym (own_is q)) (has_right (own q w₀ k.before) (own_has q u k.later (a', b', here)));
                }

      pub gives_way : GivesWay h t g counts cells turns counters m q (named cells (start_of counts m + j)) (log w₀ turns)
      gives_way = let k = took_at w₀ turns q i x₀ qi (omega (arith, zeros 16 q)) enough in both k (was_given k) k.has
