-- What a member's own turns take, add to and release: its list, from the first place on, again for its work, and then back from the last.
-- ---- the cells of a log
use Rattle.std.specs.Prelude.{ℕ, suc, ◌+◌, ◌-◌, min, ◌≤◌, ◌<◌, ◌≡◌, Bool, true, false, ◌≢◌, eqb, length, get_or, take, drop, if◌then◌else◌}
use Rattle.std.proofs.Math.Path.{refl, ap}
use Rattle.std.proofs.Common.{sym, ◌∙◌, subst, arith, length-take, drop_of_length-le, drop-cons, get_or-take, get_or-set_same, get_or-set_other, eqb-true}
use mathlib.Core.List.{List, [], ◌∷◌, ◌++◌, append_assoc, append-nil}
use Rattle.std.proofs.lemmas.Bool.{eqb-false}
use Rattle.model.specs.Log.{Event, by_caller, took, released, held_all_lem, added}
use Rattle.model.specs.Crew.{Work, adds_of, moves_of, total, start_of, count_of, list_of, Crew, crew_start, moved, is_full, turn_of, turns_of}
use Rattle.types.specs.declared.Head.{Head}
use Rattle.laws.specs.Lists.{zeros}
use Rattle.laws.specs.Crew.{adds_few, member, listed}
use Rattle.history.specs.World.{Kind, takes, releases, kind_of_lem, code}
use Rattle.history.specs.Tests.{if_cases}
use Rattle.crew_theory.specs.Statements.{Open, after, is_add, deeds_in, filling, Turn, idled, grabbed, summed, gave, cell_of, cells_in, cells_added, falling, own_log, InOrder}
use Rattle.crew_theory.specs.Turns.{same, turn_is, Step, stays, steps, turn_steps}
use Rattle.crew_theory.proofs.Steady.{Goes, fit, start_steady, turn_steady, turns_steady}
use Rattle.crew_theory.proofs.Ended.{ended}
use Rattle.crew_theory.specs.Deeds.{Cells}

cells_append : (k : Kind) (xs ys : List Event) → cells_in k (xs ++ ys) ≡ cells_in k xs ++ cells_in k ys
unfolding cells_in
cells_append k [] ys = refl
cells_append k (e ∷ es) ys = go (eqb (code (kind_of_lem e)) (code k)) (cells_append k es ys)
  where
    go : (b : Bool) → cells_in k (es ++ ys) ≡ cells_in k es ++ cells_in k ys
        → (if b then cell_of e ∷ cells_in k (es ++ ys) else cells_in k (es ++ ys)) ≡ (if b then cell_of e ∷ cells_in k es else cells_in k es) ++ cells_in k ys
    go true r = ap {B = List ℕ} (λ l. cell_of e ∷ l) r
    go false r = r

added_append : (xs ys : List Event) → cells_added (xs ++ ys) ≡ cells_added xs ++ cells_added ys
unfolding cells_added
added_append [] ys = refl
added_append (e ∷ es) ys = go (eqb (is_add e) 1) (added_append es ys)
  where
    go : (b : Bool) → cells_added (es ++ ys) ≡ cells_added es ++ cells_added ys
        → (if b then cell_of e ∷ cells_added (es ++ ys) else cells_added (es ++ ys)) ≡ (if b then cell_of e ∷ cells_added es else cells_added es) ++ cells_added ys
    go true r = ap {B = List ℕ} (λ l. cell_of e ∷ l) r
    go false r = r

same_cells : (log : List Event) → Cells log (cells_in takes (deeds_in log)) (cells_added (deeds_in log)) (cells_in releases (deeds_in log))
unfolding cells_in cells_added
same_cells log =
    record {
      takes_are = same (cells_in takes) (λ e l. if eqb (code (kind_of_lem e)) 4 then cell_of e ∷ l else l) (λ e es. refl) (λ l. refl) (λ l. refl) (λ l. refl) (λ l. refl) log;
      adds_are = same cells_added (λ e l. if eqb (is_add e) 1 then cell_of e ∷ l else l) (λ e es. refl) (λ l. refl) (λ l. refl) (λ l. refl) (λ l. refl) log;
      releases_are = same (cells_in releases) (λ e l. if eqb (code (kind_of_lem e)) 5 then cell_of e ∷ l else l) (λ e es. refl) (λ l. refl) (λ l. refl) (λ l. refl) (λ l. refl) log;
    }

cells_of_lem : {log ds : List Event} {x y z : List ℕ} → deeds_in log ≡ ds → Cells ds x y z → Cells log x y z
cells_of_lem {log} e c =
    let k = same_cells log in
    record {
      takes_are = k.takes_are ∙ ap (cells_in takes) e ∙ c.takes_are;
      adds_are = k.adds_are ∙ ap cells_added e ∙ c.adds_are;
      releases_are = k.releases_are ∙ ap (cells_in releases) e ∙ c.releases_are;
    }

none_cells : {log : List Event} → deeds_in log ≡ [] → Cells log [] [] []
unfolding cells_in cells_added
none_cells e = cells_of_lem e (record { takes_are = refl; adds_are = refl; releases_are = refl })

took_cells : {log : List Event} {c s : ℕ} (counts made : List ℕ) (m : ℕ) → deeds_in log ≡ took by_caller c s ∷ filling counts made m → Cells log (c ∷ []) [] []
unfolding cells_in cells_added
took_cells {log} {c} {s} counts made m e = cells_of_lem e (go (is_full counts made m))
  where
    go : (b : Bool) → Cells (took by_caller c s ∷ (if b then held_all_lem m ∷ [] else [])) (c ∷ []) [] []
    go true = record { takes_are = refl; adds_are = refl; releases_are = refl }
    go false = record { takes_are = refl; adds_are = refl; releases_are = refl }

added_cells : {log : List Event} {m c v : ℕ} → deeds_in log ≡ added m c v ∷ [] → Cells log [] (c ∷ []) []
unfolding cells_in cells_added
added_cells e = cells_of_lem e (record { takes_are = refl; adds_are = refl; releases_are = refl })

gave_cells : {log : List Event} {c s : ℕ} → deeds_in log ≡ released by_caller c s ∷ [] → Cells log [] [] (c ∷ [])
unfolding cells_in cells_added
gave_cells e = cells_of_lem e (record { takes_are = refl; adds_are = refl; releases_are = refl })

-- ---- a member's own turns

module _ (work : Work) (h : Head) (t g counts cells turns : List ℕ) (o : Open h t g counts cells turns) (m : ℕ) where
  abbrev L : List ℕ
  L = list_of counts cells m

  abbrev count : ℕ
  count = count_of counts m

  -- the cells that it adds to
  abbrev A : List ℕ
  A = take (adds_of work count) L

  -- what is still to be taken after so many moves, what is still to be added to, and what is still to be released
  abbrev ahead : ℕ → List ℕ
  ahead n = drop n L

  abbrev between : ℕ → List ℕ
  between n = drop (n - count) A

  abbrev back : ℕ → List ℕ
  back n = falling (min count (moves_of work count - n)) L

  pub record Did (w v : Crew) (log : List Event) : Type 0 where
    pub took_so : cells_in takes log ++ ahead (get_or v.made m 0) ≡ ahead (get_or w.made m 0)
    pub added_so : cells_added log ++ between (get_or v.made m 0) ≡ between (get_or w.made m 0)
    pub gave_so : cells_in releases log ++ back (get_or v.made m 0) ≡ back (get_or w.made m 0)

  then_did : {w x v : Crew} {xs ys : List Event} → Did w x xs → Did x v ys → Did w v (xs ++ ys)
  then_did {xs = xs} {ys = ys} a b =
      record {
        took_so = rw (cells_append takes xs ys, append_assoc (cells_in takes xs) (cells_in takes ys) _, b.took_so) a.took_so;
        added_so = rw (added_append xs ys, append_assoc (cells_added xs) (cells_added ys) _, b.added_so) a.added_so;
        gave_so = rw (cells_append releases xs ys, append_assoc (cells_in releases xs) (cells_in releases ys) _, b.gave_so) a.gave_so;
      }

  -- another's turn
  other : {w v : Crew} {n : ℕ} {log : List Event} → n ≢ m → Turn work h.buckets g counts cells w n v log → get_or v.made m 0 ≡ get_or w.made m 0
  other {w} {v} {n} d p = go (turn_steps work h.buckets g counts cells p)
    where
      go : Step work h.buckets g counts cells w.made v.made n → get_or v.made m 0 ≡ get_or w.made m 0
      go (stays e) = rw e
      go (steps l e) = rw e (get_or-set_other w.made n m _ 0 (λ x. d (sym x)))

  waits : {w v : Crew} → get_or v.made m 0 ≡ get_or w.made m 0 → Did w v []
  unfolding cells_in cells_added
  waits e = record { took_so = ap ahead e; added_so = ap between e; gave_so = ap back e }

  long : length L ≡ count
  long = (fit work h t g counts cells turns o).long m

  ALong : length A ≡ adds_of work count
  ALong = omega (arith, length-take (adds_of work count) L, long, adds_few work count)

  -- a take is of the first still to be taken, an add to the first still to be added to, and a release of the first still to be released
  ahead_take : (n : ℕ) → n < count → get_or cells (start_of counts m + n) 0 ∷ ahead (n + 1) ≡ ahead n
  ahead_take n l = let z : n + 1 ≡ suc n = omega arith in rw (z, drop-cons L n 0 (omega (arith, long)), listed counts cells m n l)

  ahead_later : (n : ℕ) → count ≤ n → ahead (n + 1) ≡ ahead n
  ahead_later n l = drop_of_length-le L {i = n + 1} (omega (arith, long)) ∙ sym (drop_of_length-le L {i = n} (omega (arith, long)))

  between_take : (n : ℕ) → n < count → between (n + 1) ≡ between n
  between_take n l = let z : n + 1 - count ≡ n - count = omega arith in ap (λ j. drop j A) z

  between_add : (n : ℕ) → count ≤ n → n < count + adds_of work count → get_or cells (start_of counts m + (n - count)) 0 ∷ between (n + 1) ≡ between n
  between_add n l k =
      let j = n - count in
      let z : n + 1 - count ≡ suc j = omega arith in
      let e : get_or A j 0 ≡ get_or cells (start_of counts m + j) 0 = get_or-take (adds_of work count) L j 0 (omega arith) ∙ listed counts cells m j (omega (arith, adds_few work count)) in
      rw (z, drop-cons A j 0 (omega (arith, ALong)), e)

  between_give : (n : ℕ) → count + adds_of work count ≤ n → between (n + 1) ≡ between n
  between_give n l = drop_of_length-le A {i = n + 1 - count} (omega (arith, ALong)) ∙ sym (drop_of_length-le A {i = n - count} (omega (arith, ALong)))

  back_early : (n : ℕ) → n < count + adds_of work count → back (n + 1) ≡ back n
  back_early n l = let z : min count (moves_of work count - (n + 1)) ≡ min count (moves_of work count - n) = omega arith in ap (λ j. falling j L) z

  back_give : (n : ℕ) → count + adds_of work count ≤ n → n < moves_of work count → get_or cells (start_of counts m + (moves_of work count - 1 - n)) 0 ∷ back (n + 1) ≡ back n
  back_give n l k =
      let j = moves_of work count - 1 - n in
      let a : min count (moves_of work count - (n + 1)) ≡ j = omega arith in
      let b : min count (moves_of work count - n) ≡ suc j = omega arith in
      let c : get_or L j 0 ∷ falling j L ≡ get_or cells (start_of counts m + j) 0 ∷ falling j L = ap {B = List ℕ} (λ x. x ∷ falling j L) (listed counts cells m j (omega arith)) in
      ap {B = List ℕ} (λ i. get_or cells (start_of counts m + j) 0 ∷ falling i L) a ∙ sym c ∙ sym (ap (λ i. falling i L) b)

  did : {w v : Crew} {log : List Event} {ts xs gs : List ℕ} (n n' : ℕ) → get_or w.made m 0 ≡ n → get_or v.made m 0 ≡ n' → Cells log ts xs gs
      → ts ++ ahead n' ≡ ahead n → xs ++ between n' ≡ between n → gs ++ back n' ≡ back n → Did w v log
  did n n' a b c x y z = record { took_so = rw (a, b, c.takes_are) x; added_so = rw (a, b, c.adds_are) y; gave_so = rw (a, b, c.releases_are) z }

  more : (w : Crew) → length w.made ≡ 16 → 1 ≤ count → get_or (moved w.made m) m 0 ≡ get_or w.made m 0 + 1
  more w size l = get_or-set_same w.made m (get_or w.made m 0 + 1) 0 (omega (arith, member counts m l, (fit work h t g counts cells turns o).few))

  mine : {w v : Crew} {log : List Event} → length w.made ≡ 16 → Turn work h.buckets g counts cells w m v log → Did w v log
  mine {w} size (idled i e q) = let n = get_or w.made m 0 in did n n refl (ap (λ (x : Crew). get_or x.made m 0) e) (none_cells q) refl refl refl
  mine {w} size (grabbed l r e q) =
      let n = get_or w.made m 0 in
      did n (n + 1) refl (ap (λ (x : Crew). get_or x.made m 0) e ∙ more w size (omega arith)) (took_cells counts (moved w.made m) m q) (ahead_take n l) (between_take n l) (back_early n (omega arith))
  mine {w} size (summed l r e q) =
      let n = get_or w.made m 0 in
      did n (n + 1) refl (ap (λ (x : Crew). get_or x.made m 0) e ∙ more w size (omega (arith, adds_few work count))) (added_cells q) (ahead_later n l) (between_add n l r) (back_early n r)
  mine {w} size (gave l r e q) =
      let n = get_or w.made m 0 in
      did n (n + 1) refl (ap (λ (x : Crew). get_or x.made m 0) e ∙ more w size (omega (arith, adds_few work count))) (gave_cells q) (ahead_later n (omega arith)) (between_give n l) (back_give n l r)

  own : {w v : Crew} {n : ℕ} {log : List Event} → n ≡ m → length w.made ≡ 16 → Turn work h.buckets g counts cells w n v log → Did w v log
  own {w} {v} {log = log} e size p = mine size (subst (λ q. Turn work h.buckets g counts cells w q v log) e p)

  turns_did : (w : Crew) (ns : List ℕ) → Goes work h t g counts cells turns o w → Did w (after work h g counts cells w ns) (own_log work h g counts cells m w ns)
  unfolding turns_of own_log
  turns_did w [] s = waits refl
  turns_did w (n ∷ ns) s =
      let p = turn_is work h.buckets g counts cells h.headers w n in
      let x = turn_of work h.headers h.buckets g counts cells w n in
      then_did (if_cases (Did w x.seen) (eqb n m) (λ e. own (eqb-true n m e) s.size p) (λ e. waits (other (eqb-false n m e) p))) (turns_did x.seen ns (turn_steady work h t g counts cells turns o s p))

  -- where nothing is left to move, the member has taken its list, added, and released its list from the last to the first
  pub deeds : (counters : List ℕ) → let w = after work h g counts cells (crew_start h t counters) turns in moves_of work (total counts) ≤ w.moving
      → InOrder work counts cells m (own_log work h g counts cells m (crew_start h t counters) turns)
  deeds counters all =
      let first_crew = crew_start h t counters in
      let w = after work h g counts cells first_crew turns in
      let first_steady = start_steady work h t g counts cells turns o counters in
      let s = turns_steady work h t g counts cells turns o first_crew turns first_steady in
      let end = ended work h t counts cells w.next w.table w.made w.moving s (omega (arith, s.moves)) m in
      let d = turns_did first_crew turns first_steady in
      let log = own_log work h g counts cells m first_crew turns in
      go (cells_in takes log) (cells_added log) (cells_in releases log) (zeros 16 m) end d.took_so d.added_so d.gave_so log refl refl refl
    where
      go : {n k : ℕ} (xs ys zs : List ℕ) → n ≡ 0 → k ≡ moves_of work count → xs ++ ahead k ≡ ahead n → ys ++ between k ≡ between n → zs ++ back k ≡ back n
          → (log : List Event) → cells_in takes log ≡ xs → cells_added log ≡ ys → cells_in releases log ≡ zs → InOrder work counts cells m log
      go {n} {k} xs ys zs a b x y z log e f i =
          let p : min count (moves_of work count - k) ≡ 0 = omega arith in
          let q : min count (moves_of work count - n) ≡ count = omega arith in
          let r : n - count ≡ 0 = omega arith in
          let none = drop_of_length-le L {i = k} (omega (arith, long)) in
          let none_added = drop_of_length-le A {i = k - count} (omega (arith, ALong)) in
          record {
            takes_so = e ∙ sym (append-nil xs) ∙ (rw (none, a) at x);
            adds_so = f ∙ sym (append-nil ys) ∙ (rw (none_added, r) at y);
            releases_so = i ∙ sym (append-nil zs) ∙ (rw (p, q) at z);
          }
