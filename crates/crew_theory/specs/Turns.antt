-- One turn, in any work: the cases of what comes of it, each with its reason, and what turns add to the counts. Nothing is assumed of the
-- crew.
use Rattle.std.specs.Prelude.{ℕ, ◌+◌, ◌/◌, ◌≤◌, ◌<◌, Bool, ◌⊎◌, leb, length, get_or, if◌then◌else◌}
use Rattle.std.proofs.Math.Path.{◌≡◌, refl}
use Rattle.std.proofs.Common.{sym, ap, ◌∙◌, inl, inr, get_or-set_other}
use mathlib.Core.List.{List, [], ◌∷◌, ◌++◌}
use Rattle.std.proofs.Math.Bool.{true, false}
use native.Mathlib.Omega.{arith}
use Rattle.std.proofs.Math.Dec.{ltb, eqb}
use borrow.Author.Tests.{ltb-true, ltb-false, leb-true, leb-false, eqb-true, eq-eqb, ne_eqb, lt-ltb}
use Rattle.model.specs.Log.{Made, Event, by_caller, attempt_begun, boundary_run, yielded, spun, step_dropped, took, released, waiters_set, health_set, held_all_lem, added, note, gives, ◌>>◌, ◌>>=◌}
use Rattle.model.specs.Arena.{last_serial, waiters_at, state_at}
use Rattle.model.specs.Foreign.{run_steps_of, boundary_of}
use Rattle.model.specs.Lock.{take_of, late_stage_of, second_stage_of, lock_of}
use Rattle.model.specs.Crew.{Work, adds_of, moves_of, start_of, count_of, Crew, moved, is_full, try_turn_of, held_all_of, add_turn_of, release_turn_of, turn_of, turns_of}
use Rattle.types.specs.declared.Head.{Head}
use Rattle.types.specs.declared.State.{State}
use Rattle.types.specs.declared.State.TheVariants as state
use Rattle.laws.specs.Words.{waiters_set_cell}
use Rattle.history.specs.World.{one, number_of_lem, takes, releases, kind_of_lem, code}
use Rattle.history.specs.Tests.{differ, if_cases}
use Rattle.history.specs.Counted.{number_append}
use Rattle.crew_theory.specs.Statements.{is_add, adds_in, deeds_in, wish, filling, finished, blocked, Turn, idled, grabbed, summed, gave, In, after}

-- a test does not come out both ways
no : {A : Type 0} {b : Bool} → b ≡ false → b ≡ true → A
no p q = absurd (differ (sym p ∙ q))

-- ---- lists of turns

pub in_left : (m : ℕ) (xs ys : List ℕ) → In m xs → In m (xs ++ ys)
in_left m [] ys i = absurd i
in_left m (x ∷ xs) ys (inl e) = inl e
in_left m (x ∷ xs) ys (inr i) = inr (in_left m xs ys i)

pub in_right : (m : ℕ) (xs ys : List ℕ) → In m ys → In m (xs ++ ys)
in_right m [] ys i = i
in_right m (x ∷ xs) ys i = inr (in_right m xs ys i)

pub in_either : (m : ℕ) (xs ys : List ℕ) → In m (xs ++ ys) → In m xs ⊎ In m ys
in_either m [] ys i = inr i
in_either m (x ∷ xs) ys (inl e) = inl (inl e)
in_either m (x ∷ xs) ys (inr i) = elim (in_either m xs ys i) [ inl j ↦ inl (inr j) | inr j ↦ inr j ]

pub turns_append : (work : Work) (h : Head) (g counts cells : List ℕ) (w : Crew) (xs ys : List ℕ)
    → after work h g counts cells w (xs ++ ys) ≡ after work h g counts cells (after work h g counts cells w xs) ys
unfolding turns_of
turns_append work h g counts cells w [] ys = refl
turns_append work h g counts cells w (m ∷ xs) ys = turns_append work h g counts cells (turn_of work h.headers h.buckets g counts cells w m).seen xs ys

-- ---- what a log did is all that counts

-- what is made of a log event by event, where those that are only counted make no difference
module _ {A : Type 0} (F : List Event → A) (pick : Event → A → A) (more : (e : Event) (es : List Event) → F (e ∷ es) ≡ pick e (F es))
    (begins : (x : A) → pick attempt_begun x ≡ x) (bounds : (x : A) → pick boundary_run x ≡ x) (yields : (x : A) → pick yielded x ≡ x) (spins : (x : A) → pick spun x ≡ x) where
  also : (e : Event) (es : List Event) → F es ≡ F (deeds_in es) → F (e ∷ es) ≡ F (e ∷ deeds_in es)
  also e es r = more e es ∙ ap (pick e) r ∙ sym (more e (deeds_in es))

  pub same : (log : List Event) → F log ≡ F (deeds_in log)
  unfolding deeds_in
  same [] = refl
  same (attempt_begun ∷ es) = more attempt_begun es ∙ begins (F es) ∙ same es
  same (boundary_run ∷ es) = more boundary_run es ∙ bounds (F es) ∙ same es
  same (yielded ∷ es) = more yielded es ∙ yields (F es) ∙ same es
  same (spun ∷ es) = more spun es ∙ spins (F es) ∙ same es
  same (step_dropped ∷ es) = also step_dropped es (same es)
  same (took a c s ∷ es) = also (took a c s) es (same es)
  same (released a c s ∷ es) = also (released a c s) es (same es)
  same (waiters_set c n ∷ es) = also (waiters_set c n) es (same es)
  same (health_set i n ∷ es) = also (health_set i n) es (same es)
  same (held_all_lem m ∷ es) = also (held_all_lem m) es (same es)
  same (added m c v ∷ es) = also (added m c v) es (same es)

same_takes : (log : List Event) → number_of_lem takes log ≡ number_of_lem takes (deeds_in log)
unfolding number_of_lem
same_takes = same (number_of_lem takes) (λ e n. one (eqb (code (kind_of_lem e)) 4) + n) (λ e es. refl) (λ n. omega arith) (λ n. omega arith) (λ n. omega arith) (λ n. omega arith)

same_releases : (log : List Event) → number_of_lem releases log ≡ number_of_lem releases (deeds_in log)
unfolding number_of_lem
same_releases = same (number_of_lem releases) (λ e n. one (eqb (code (kind_of_lem e)) 5) + n) (λ e es. refl) (λ n. omega arith) (λ n. omega arith) (λ n. omega arith) (λ n. omega arith)

same_adds : (log : List Event) → adds_in log ≡ adds_in (deeds_in log)
unfolding adds_in
same_adds = same adds_in (λ e n. is_add e + n) (λ e es. refl) (λ n. omega arith) (λ n. omega arith) (λ n. omega arith) (λ n. omega arith)

pub adds_append : (xs ys : List Event) → adds_in (xs ++ ys) ≡ adds_in xs + adds_in ys
unfolding adds_in
adds_append [] ys = omega arith
adds_append (x ∷ xs) ys = omega (arith, adds_append xs ys)

-- the numbers of a log whose deeds are known
pub record Numbers (log : List Event) (takings addings givings : ℕ) : Type 0 where
  pub takes_are : number_of_lem takes log ≡ takings
  pub adds_are : adds_in log ≡ addings
  pub releases_are : number_of_lem releases log ≡ givings

numbers : {log ds : List Event} {x y z : ℕ} → deeds_in log ≡ ds → number_of_lem takes ds ≡ x → adds_in ds ≡ y → number_of_lem releases ds ≡ z → Numbers log x y z
numbers {log} e a b c =
    record {
      takes_are = same_takes log ∙ ap (number_of_lem takes) e ∙ a;
      adds_are = same_adds log ∙ ap adds_in e ∙ b;
      releases_are = same_releases log ∙ ap (number_of_lem releases) e ∙ c;
    }

pub none_done : {log : List Event} → deeds_in log ≡ [] → Numbers log 0 0 0
unfolding number_of_lem adds_in
none_done e = numbers e refl refl refl

pub one_took : {log : List Event} {c s : ℕ} (counts made : List ℕ) (m : ℕ) → deeds_in log ≡ took by_caller c s ∷ filling counts made m → Numbers log 1 0 0
one_took {log} {c} {s} counts made m e = go (is_full counts made m) e
  where
    go : (b : Bool) → deeds_in log ≡ took by_caller c s ∷ (if b then held_all_lem m ∷ [] else []) → Numbers log 1 0 0
    go true e = both e
      where
        both : deeds_in log ≡ took by_caller c s ∷ held_all_lem m ∷ [] → Numbers log 1 0 0
        both e = numbers e (unfold number_of_lem in refl) (unfold adds_in in refl) (unfold number_of_lem in refl)
    go false e = numbers e (unfold number_of_lem in refl) (unfold adds_in in refl) (unfold number_of_lem in refl)

pub one_added : {log : List Event} {m c v : ℕ} → deeds_in log ≡ added m c v ∷ [] → Numbers log 0 1 0
unfolding number_of_lem adds_in
one_added e = numbers e refl refl refl

pub one_gave : {log : List Event} {c s : ℕ} → deeds_in log ≡ released by_caller c s ∷ [] → Numbers log 0 0 1
unfolding number_of_lem adds_in
one_gave e = numbers e refl refl refl

module _ (work : Work) (buckets : ℕ) (g counts cells : List ℕ) where
  module _ (headers : ℕ) (w : Crew) (m : ℕ) where
    abbrev Comes : Made Crew → Type 0
    Comes o = Turn work buckets g counts cells w m o.seen o.log

    -- the cell that the member wants, and its attempt on it
    abbrev c : ℕ
    c = wish counts cells w.made m

    abbrev attempt : Made Crew
    attempt = try_turn_of headers buckets g w m (start_of counts m + get_or w.made m 0) c

    abbrev attempted : Made Crew
    attempted = attempt >>= λ v. held_all_of counts cells v m

    -- an attempt that is not granted does not fill the member
    unfilled : get_or w.made m 0 < count_of counts m → is_full counts w.made m ≡ false
    unfilled less = ne_eqb (get_or w.made m 0) (count_of counts m) (λ e. omega arith)

    -- with no script every boundary is quiet, and the second looks at health and waiters see what the first saw
    tried : get_or w.made m 0 < count_of counts m → Comes attempted
    unfolding try_turn_of held_all_of lock_of second_stage_of take_of late_stage_of boundary_of run_steps_of deeds_in
    tried less = go (eqb (get_or g (c / buckets) 0) 0) (eqb (waiters_at w.table c) 0) (state_at w.next w.table c) (ltb w.next last_serial) refl refl refl refl
      where
        go : (a b : Bool) (s : State) (r : Bool) → eqb (get_or g (c / buckets) 0) 0 ≡ a → eqb (waiters_at w.table c) 0 ≡ b → state_at w.next w.table c ≡ s
            → ltb w.next last_serial ≡ r → Comes attempted
        go false b s r p q x y = rw (p, unfilled less) (idled (blocked less (λ ok. no p (eq-eqb _ _ ok.healthy))) refl refl)
        go true false s r p q x y = rw (p, q, unfilled less) (idled (blocked less (λ ok. no q (eq-eqb _ _ ok.unwaited))) refl refl)
        go true true state.Damaged r p q x y = rw (p, q, x, unfilled less) (idled (blocked less (λ ok. let z : ◌≡◌ {A = ℕ} 0 1 = cc ok.is_free_lem in omega arith)) refl refl)
        go true true (state.Held o) r p q x y = rw (p, q, x, unfilled less) (idled (blocked less (λ ok. let z : ◌≡◌ {A = ℕ} 0 1 = cc ok.is_free_lem in omega arith)) refl refl)
        go true true state.Free false p q x y = rw (p, q, x, y, unfilled less) (idled (blocked less (λ ok. no y (lt-ltb _ _ ok.serial))) refl refl)
        go true true state.Free true p q x y =
            rw (p, q, x, y, p, waiters_set_cell w.table c 1 w.next c, q)
            (grabbed less (record { healthy = eqb-true _ _ p; unwaited = eqb-true _ _ q; is_free_lem = x; serial = ltb-true _ _ y }) refl
            (filled (is_full counts (moved w.made m) m)))
          where
            filled : (b : Bool)
                → deeds_in (((attempt_begun ∷ boundary_run ∷ boundary_run ∷ took by_caller c w.next ∷ boundary_run ∷ []) ++ ((if b then note (held_all_lem m) else gives tt) >> gives w).log))
                ≡ took by_caller c w.next ∷ (if b then held_all_lem m ∷ [] else [])
            filled true = refl
            filled false = refl

    -- every turn is one of these
    pub turn_is : Comes (turn_of work headers buckets g counts cells w m)
    unfolding turn_of add_turn_of release_turn_of deeds_in
    turn_is =
        if_cases Comes (leb (moves_of work (count_of counts m)) (get_or w.made m 0)) (λ all. idled (finished (leb-true _ _ all)) refl refl)
        (λ some. if_cases Comes (ltb (get_or w.made m 0) (count_of counts m)) (λ less. tried (ltb-true _ _ less))
        (λ held. if_cases Comes (ltb (get_or w.made m 0) (count_of counts m + adds_of work (count_of counts m))) (λ less. summed (ltb-false _ _ held) (ltb-true _ _ less) refl refl)
        (λ worked. gave (ltb-false _ _ worked) (leb-false _ _ some) refl refl)))

  -- ---- what turns add to the counts

  pub record Counted (w : Crew) (turns : ℕ) (v : Crew) (log : List Event) : Type 0 where
    pub serials_are : v.next ≡ w.next + number_of_lem takes log
    pub moves_are : v.moving ≡ w.moving + number_of_lem takes log + adds_in log + number_of_lem releases log
    pub turns_are : v.moving + v.idle ≡ w.moving + w.idle + turns

  turn_counts : {w v : Crew} {m : ℕ} {log : List Event} → Turn work buckets g counts cells w m v log → Counted w 1 v log
  turn_counts (idled i e q) = let x = none_done q in rw e (omega (arith, x.takes_are, x.adds_are, x.releases_are))
  turn_counts {w} {m = m} (grabbed l r e q) = let x = one_took counts (moved w.made m) m q in rw e (omega (arith, x.takes_are, x.adds_are, x.releases_are))
  turn_counts (summed l r e q) = let x = one_added q in rw e (omega (arith, x.takes_are, x.adds_are, x.releases_are))
  turn_counts (gave l r e q) = let x = one_gave q in rw e (omega (arith, x.takes_are, x.adds_are, x.releases_are))

  pub turns_count : (headers : ℕ) (w : Crew) (turns : List ℕ) → let o = turns_of work headers buckets g counts cells w turns in Counted w (length turns) o.seen o.log
  unfolding turns_of number_of_lem adds_in
  turns_count headers w [] = omega arith
  turns_count headers w (m ∷ ms) =
      let o = turn_of work headers buckets g counts cells w m in
      let p = turns_of work headers buckets g counts cells o.seen ms in
      omega (
        arith,
        turn_counts (turn_is headers w m),
        turns_count headers o.seen ms,
        number_append takes o.log p.log,
        adds_append o.log p.log,
        number_append releases o.log p.log,
      )

  -- ---- whose turn it was made a move more, or none; nobody else did

  pub data Step (made after : List ℕ) (m : ℕ) : Type 0 where
    stays : after ≡ made → Step made after m
    steps : get_or made m 0 < moves_of work (count_of counts m) → after ≡ moved made m → Step made after m

  pub turn_steps : {w v : Crew} {m : ℕ} {log : List Event} → Turn work buckets g counts cells w m v log → Step w.made v.made m
  turn_steps (idled i e q) = stays (ap (λ (x : Crew). x.made) e)
  turn_steps {m = m} (grabbed l r e q) = steps (omega arith) (ap (λ (x : Crew). x.made) e)
  turn_steps {m = m} (summed l r e q) = steps (omega arith) (ap (λ (x : Crew). x.made) e)
  turn_steps (gave l r e q) = steps r (ap (λ (x : Crew). x.made) e)

  -- ---- a member that is finished stays so

  step_stays : {made after : List ℕ} {n : ℕ} (m : ℕ) → Step made after n → moves_of work (count_of counts m) ≤ get_or made m 0 → get_or after m 0 ≡ get_or made m 0
  step_stays m (stays e) f = rw e
  step_stays {made} {n = n} m (steps l e) f = rw e (get_or-set_other made n m _ 0 (λ x. omega (arith, ap (λ y. moves_of work (count_of counts y)) x, ap (λ y. get_or made y 0) x)))

  pub turns_stay : (headers : ℕ) (w : Crew) (turns : List ℕ) (m : ℕ) → moves_of work (count_of counts m) ≤ get_or w.made m 0
      → get_or (turns_of work headers buckets g counts cells w turns).seen.made m 0 ≡ get_or w.made m 0
  unfolding turns_of
  turns_stay headers w [] m f = refl
  turns_stay headers w (n ∷ ns) m f =
      let e = step_stays m (turn_steps (turn_is headers w n)) f in
      turns_stay headers (turn_of work headers buckets g counts cells w n).seen ns m (omega arith) ∙ e
