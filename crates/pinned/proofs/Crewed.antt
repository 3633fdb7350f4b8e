-- The crew's turns, in either work, are those of `Steps`.
use Prim.Native.Nat.{ℕ, zero, suc, ◌+◌, ◌*◌, ◌-◌, ◌%◌, ◌≤◌, ◌<◌, min}
use Rattle.std.specs.Prelude.{◌≡◌, Bool, ltb, leb, take, if◌then◌else◌}
use Rattle.std.proofs.Math.Path.{refl, ap, subst}
use Rattle.std.proofs.Common.{sym, arith, ltb-true, ltb-false, leb-true, leb-false, eqb-true, ne_eqb}
use mathlib.Core.List.{List, [], ◌∷◌, ◌++◌, append-nil}
use Rattle.std.proofs.Math.Bool.{true, false}
use Rattle.std.proofs.Math.Logic.{inl, inr}
use Rattle.std.proofs.Math.Dec.{eqb}
use Rattle.std.proofs.Math.ListN.{get_or, set}
use Rattle.std.proofs.lemmas.Bool.{eqb-false, not-true, not-false}
use Rattle.model.specs.Log.{Made, Event, by_caller, attempt_begun, released, held_all_lem, added, gives, note}
use Rattle.model.specs.Arena.{spent_to, header_of, is_poisoned, set_cell}
use Rattle.model.specs.Foreign.{flow_of}
use Rattle.model.specs.Lock.{answer_of, lock_of}
use Rattle.model.specs.Calls.{given}
use Rattle.model.specs.Crew.{Work, adds_of, count_of, start_of, after_try, try_turn_of, held_all_of, add_turn_of, release_turn_of, turn_of, turns_of, summed_of, taken_of, released_of}
use Rattle.model.specs.Crew as model
use Rattle.types.specs.declared.Head.{Head}
use Rattle.types.specs.declared.Outcome.{Outcome}
use Rattle.types.specs.declared.Outcome.TheVariants as outcome
use Rattle.types.specs.declared.Take.TheVariants as taking
use Rattle.history.specs.World.{world_of}
use Rattle.history.specs.Tests.{if_cases}
use Rattle.history.proofs.Crew.{same_health}
use Rattle.pinned.specs.Words.{Is, If◌Then◌Else◌, logged, freed}
use Rattle.pinned.specs.Steps.{Crew, moved, AfterTry, TryTurn, TurnFrom, Turn, Turns, taken_by, released_by}
use Rattle.pinned.proofs.Decided.{sum_same}
use Rattle.pinned.proofs.Stepping.{shown, lock_is}

module _ (h : Head) (g counts cells : List ℕ) where
  abbrev pub look : model.Crew → Crew
  look v =
      record {
        world = world_of (spent_to h v.next) v.table g;
        moves = v.made;
        serials = v.serials;
        moving = v.moving;
        idle = v.idle;
        counters = v.counters;
        noted = v.noted;
      }

  abbrev pub looking : Made model.Crew → Made Crew
  looking m = logged (look m.seen) m.log

  -- the value noted behind a try
  abbrev behind : model.Crew → ℕ → Made Crew
  behind v m = looking (held_all_of counts cells v m)

  not_yet : (v : model.Crew) (m : ℕ) → get_or v.made m 0 < count_of counts m → behind v m ≡ logged (look v) []
  unfolding held_all_of
  not_yet v m l = rw (ne_eqb (get_or v.made m 0) (count_of counts m) (λ e. omega arith))

  after_try_lem : (a : Outcome) (v : model.Crew) (n : ℕ) (u x : List ℕ) (m k : ℕ) → x ≡ g → get_or v.made m 0 < count_of counts m
      → AfterTry (look v) m (count_of counts m) (get_or cells (start_of counts m) 0) k (world_of (spent_to h n) u x) (answer_of h.boot a) (behind (after_try a n u v m k) m)
  unfolding held_all_of
  after_try_lem (outcome.Granted l) v n u x m k e i =
      let now = set v.made m (get_or v.made m 0 + 1) in
      go (eqb (get_or now m 0) (count_of counts m)) refl
    where
      go : (b : Bool) → eqb (get_or (set v.made m (get_or v.made m 0 + 1)) m 0) (count_of counts m) ≡ b
          → AfterTry (look v) m (count_of counts m) (get_or cells (start_of counts m) 0) k (world_of (spent_to h n) u x) (answer_of h.boot (outcome.Granted l))
          (logged (record {
            world = world_of (spent_to h n) u g;
            moves = set v.made m (get_or v.made m 0 + 1);
            serials = set v.serials k l.serial;
            moving = v.moving + 1;
            idle = v.idle;
            counters = v.counters;
            noted = if b then set v.noted m (get_or v.counters (get_or cells (start_of counts m) 0) 0) else v.noted;
          }) ((if b then note (held_all_lem m) else gives tt).log ++ []))
      go true f = inl (eqb-true _ _ f, rw e)
      go false f = inr (eqb-false _ _ f, rw e)
  after_try_lem (outcome.Busy why) v n u x m k e i = rw e (not_yet (after_try (outcome.Busy why) n u v m k) m i)
  after_try_lem (outcome.Refused r) v n u x m k e i = rw e (not_yet (after_try (outcome.Refused r) n u v m k) m i)

  -- a try, and what comes behind it
  abbrev tried : Made model.Crew → ℕ → Made Crew
  tried x m = logged (behind x.seen m).seen (x.log ++ (behind x.seen m).log)

  try_is : (v : model.Crew) (m k c : ℕ) → get_or v.made m 0 < count_of counts m
      → TryTurn (look v) m (count_of counts m) (get_or cells (start_of counts m) 0) k c (tried (try_turn_of h.headers h.buckets g v m k c) m)
  unfolding try_turn_of
  try_is v m k c i =
      let o = lock_of (given h [] []) h.buckets (flow_of v.next 0 0) v.table g c in
      if_cases (λ (x : Made model.Crew). TryTurn (look v) m (count_of counts m) (get_or cells (start_of counts m) 0) k c (tried x m)) (is_poisoned g (header_of h.buckets c))
      (λ e. inl (eqb-false _ 0 (not-true _ e), not_yet (model.idled v.next v.table v) m i))
      (λ e.
      inr (
        (λ n. n (eqb-true _ 0 (not-false _ e))),
        (
          logged (shown h [] o.seen) (attempt_begun ∷ o.log),
          lock_is h [] [] (flow_of v.next 0 0) v.table g c,
          (
            _,
            after_try_lem o.seen.0.answer v o.seen.0.flow.next o.seen.1.0 o.seen.1.1 m k (same_health h v.next v.table g c) i,
            ap (λ (es : List Event). logged (behind (after_try o.seen.0.answer o.seen.0.flow.next o.seen.1.0 v m k) m).seen (attempt_begun ∷ (es ++ (behind (after_try o.seen.0.answer o.seen.0.flow.next o.seen.1.0 v m k) m).log))) (append-nil o.log),
          ),
        ),
      ))

  module _ (work : Work) where
    from_is : (v : model.Crew) (m : ℕ) → TurnFrom (adds_of work) cells (start_of counts m) (count_of counts m) (look v) m (looking (turn_of work h.headers h.buckets g counts cells v m))
    unfolding turn_of add_turn_of release_turn_of set_cell summed_of
    from_is v m =
        if_cases (λ (x : Made model.Crew). TurnFrom (adds_of work) cells k count (look v) m (looking x)) (leb all made) (λ e. inl (leb-true all made e, refl))
        (λ e. inr (
          less all made e,
          if_cases (λ (x : Made model.Crew). K1 (looking x)) (ltb made count) (λ f. inl (ltb-true made count f, try_is v m (k + made) (get_or cells (k + made) 0) (ltb-true made count f)))
              (λ f. inr (
                more made count f,
                if_cases (λ (x : Made model.Crew). K2 (looking x)) (ltb made (count + adds_of work count)) (λ i. inl (ltb-true made (count + adds_of work count) i, refl))
                    (λ i. inr (more made (count + adds_of work count) i, refl)),
              )),
        ))
      where
        made : ℕ
        made = get_or v.made m 0

        count : ℕ
        count = count_of counts m

        k : ℕ
        k = start_of counts m

        all : ℕ
        all = 2 * count + adds_of work count

        less : (a b : ℕ) → leb a b ≡ false → a ≤ b → ⊥
        less a b e l = let z = leb-false a b e in omega arith

        more : (a b : ℕ) → ltb a b ≡ false → a < b → ⊥
        more a b e l = let z = ltb-false a b e in omega arith

        worked : ℕ
        worked = get_or cells (k + (made - count)) 0

        value : ℕ
        value = get_or v.noted m 0

        last : ℕ
        last = k + (all - 1 - made)

        K2 : Made Crew → Type 0
        K2 =
            If◌Then◌Else◌ (made < count + adds_of work count)
            (Is (logged (moved (look v) (look v).world m v.serials (set v.counters worked ((get_or v.counters worked 0 + value) % 65536))) (added m worked value ∷ [])))
            (Is (logged (moved (look v) (freed (look v).world (get_or cells last 0)) m v.serials v.counters) (released by_caller (get_or cells last 0) (get_or v.serials last 0) ∷ [])))

        K1 : Made Crew → Type 0
        K1 = If◌Then◌Else◌ (made < count) (TryTurn (look v) m count (get_or cells k 0) (k + made) (get_or cells (k + made) 0)) K2

    turn_is : (v : model.Crew) (m : ℕ) → Turn (adds_of work) counts cells (look v) m (looking (turn_of work h.headers h.buckets g counts cells v m))
    unfolding start_of
    turn_is v m =
        subst (λ (x : ℕ). TurnFrom (adds_of work) cells x (count_of counts m) (look v) m (looking (turn_of work h.headers h.buckets g counts cells v m)))
        (sym (sum_same (take m counts))) (from_is v m)

    pub turns_are : (v : model.Crew) (ms : List ℕ) → Turns (adds_of work) counts cells (look v) ms (looking (turns_of work h.headers h.buckets g counts cells v ms))
    unfolding Turns turns_of
    turns_are v [] = refl
    turns_are v (m ∷ ms) =
        let u = turn_of work h.headers h.buckets g counts cells v m in
        (looking u, turn_is v m, (_, turns_are u.seen ms, refl))

    pub taken_so : (left m : ℕ) (made : List ℕ) → taken_by left m counts made ≡ taken_of left m counts made
    unfolding taken_by taken_of
    taken_so zero m made = refl
    taken_so (suc left) m made = ap {B = List ℕ} (λ ns. min (get_or made m 0) (get_or counts m 0) ∷ ns) (taken_so left (m + 1) made)

    pub released_so : (left m : ℕ) (made : List ℕ) → released_by (adds_of work) left m counts made ≡ released_of work left m counts made
    unfolding released_by released_of
    released_so zero m made = refl
    released_so (suc left) m made = ap {B = List ℕ} (λ ns. (get_or made m 0 - (get_or counts m 0 + adds_of work (get_or counts m 0))) ∷ ns) (released_so left (m + 1) made)
