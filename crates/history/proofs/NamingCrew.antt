-- The crew's releases, in either work: each names the serial that was noted at that place of the lists when it was taken.
use Rattle.std.specs.Prelude.{ℕ, zero, suc, ◌+◌, ◌*◌, ◌-◌, ◌≤◌, ◌<◌, ◌≡◌, Bool, ◌≢◌, ◌⊎◌, ltb, leb, length, set, if◌then◌else◌}
use Rattle.std.proofs.Math.Path.{refl}
use Rattle.std.proofs.Common.{ap, ◌∙◌, inr, length-set, get_or-set_same, get_or-set_other, ltb-true, ltb-false, leb-false}
use mathlib.Core.List.{List, [], ◌∷◌}
use Rattle.std.proofs.Math.Bool.{true, false}
use Rattle.std.proofs.Math.Logic.{inl}
use Rattle.std.proofs.Math.Decide.{ℕ_discrete}
use native.Mathlib.Omega.{arith}
use Rattle.std.proofs.Math.ListN.{get_or}
use Rattle.model.specs.Log.{Made, held_all_lem, note, gives, ◌>>◌}
use Rattle.model.specs.Arena.{header_of, is_poisoned}
use Rattle.model.specs.Foreign.{setting, flow_of}
use Rattle.model.specs.Lock.{lock_of}
use Rattle.model.specs.Crew.{Work, adds_of, moves_of, total, plan_rules, start_of, count_of, Crew, crew_start, is_full, after_try, try_turn_of, held_all_of, add_turn_of, release_turn_of, turn_of, turns_of}
use Rattle.choice.specs.Pick.{if_both}
use Rattle.types.specs.declared.Outcome.{Outcome}
use Rattle.laws.specs.Outcomes.{Comes, granted, busy, poisoned, damaged, spent, lock_comes}
use Rattle.laws.specs.Lists.{zeros}
use Rattle.laws.specs.Crew.{start_fits}
use Rattle.history.specs.World.{World}
use Rattle.history.specs.Items.{Clear}
use Rattle.history.specs.Tests.{if_cases}
use Rattle.history.specs.Judged.{shifted}
use Rattle.history.specs.Crew.{Holds}
use Rattle.history.proofs.Crew.{limits}
use Rattle.history.specs.Naming.{Leases, Sub, Accounted, any, none, more, andthen, accounted, Given, lock_accounted}

-- a list after one place was written, perhaps past its end
set_at : (l : List ℕ) (i j v : ℕ) → (get_or (set l i v) j 0 ≡ get_or l j 0) ⊎ ((j ≡ i) × (get_or (set l i v) j 0 ≡ v))
set_at [] i j v = inl refl
set_at (x ∷ xs) zero zero v = inr (refl, refl)
set_at (x ∷ xs) zero (suc j) v = inl refl
set_at (x ∷ xs) (suc i) zero v = inl refl
set_at (x ∷ xs) (suc i) (suc j) v = go (set_at xs i j v)
  where
    go : (get_or (set xs i v) j 0 ≡ get_or xs j 0) ⊎ ((j ≡ i) × (get_or (set xs i v) j 0 ≡ v)) → (get_or (set xs i v) j 0 ≡ get_or xs j 0) ⊎ ((suc j ≡ suc i) × (get_or (set xs i v) j 0 ≡ v))
    go (inl e) = inl e
    go (inr e) = inr (ap suc e.0, e.1)

module _ (work : Work) (counts cells : List ℕ) where
  -- what is held after move n of member m was held before it, unless that move took it
  held_before : (made : List ℕ) (m n q j : ℕ) → n ≡ get_or made m 0 → Holds work counts (set made m (n + 1)) q j
      → (start_of counts q + j ≢ start_of counts m + n) ⊎ (count_of counts m ≤ n) → Holds work counts made q j
  held_before made m n q j is h other = go (set_at made m q (n + 1)) other
    where
      go : (get_or (set made m (n + 1)) q 0 ≡ get_or made q 0) ⊎ ((q ≡ m) × (get_or (set made m (n + 1)) q 0 ≡ n + 1))
          → (start_of counts q + j ≢ start_of counts m + n) ⊎ (count_of counts m ≤ n) → Holds work counts made q j
      go (inl x) y = (omega arith, omega arith, omega arith)
      go (inr x) (inl y) =
          let a = ap (λ z. get_or made z 0) x.0 in
          let b = ap (start_of counts) x.0 in
          (omega arith, omega arith, omega arith)
      go (inr x) (inr y) =
          let a = ap (λ z. get_or made z 0) x.0 in
          let b = ap (count_of counts) x.0 in
          (omega arith, omega arith, omega arith)

  -- what members hold was taken with the serials noted at these places
  pub record Noted (made serials : List ℕ) (A : Leases) : Type 0 where
    pub room : length serials ≡ 256
    pub names : (q j : ℕ) → Holds work counts made q j → A (get_or cells (start_of counts q + j) 0) (get_or serials (start_of counts q + j) 0)

  abbrev Keeps : Crew → Leases → Type 0
  Keeps w A = Noted w.made w.serials A

  wider : {made serials : List ℕ} {A B : Leases} → Sub A B → Noted made serials A → Noted made serials B
  wider i k = record { room = k.room; names = λ q j h. i _ _ (k.names q j h) }

  -- a take, move n of member m: its serial is noted at its place
  took_noted : (made serials : List ℕ) (m n s : ℕ) (A : Leases) → total counts ≤ 256 → n ≡ get_or made m 0 → n < count_of counts m → Noted made serials A
      → A (get_or cells (start_of counts m + n) 0) s → Noted (set made m (n + 1)) (set serials (start_of counts m + n) s) A
  took_noted made serials m n s A few is l k a =
      record { room = length-set serials _ s ∙ k.room; names = λ q j h. go q j h (ℕ_discrete (start_of counts q + j) (start_of counts m + n)) }
    where
      go : (q j : ℕ) → Holds work counts (set made m (n + 1)) q j → Dec (start_of counts q + j ≡ start_of counts m + n)
          → A (get_or cells (start_of counts q + j) 0) (get_or (set serials (start_of counts m + n) s) (start_of counts q + j) 0)
      go q j h (yes e) = rw (e, get_or-set_same serials (start_of counts m + n) s 0 (omega (arith, start_fits counts m, k.room))) a
      go q j h (no e) = rw (get_or-set_other serials (start_of counts m + n) (start_of counts q + j) s 0 e) (k.names q j (held_before made m n q j is h (inl e)))

  -- a release: one place less
  gave_noted : (made serials : List ℕ) (m n : ℕ) (A : Leases) → n ≡ get_or made m 0 → count_of counts m ≤ n → Noted made serials A → Noted (set made m (n + 1)) serials A
  gave_noted made serials m n A is l k = record { room = k.room; names = λ q j h. k.names q j (held_before made m n q j is h (inr l)) }

  -- ---- turns

  abbrev Turned : Leases → Made Crew → Type 0
  Turned A m = Accounted [] 0 A m.log (Keeps m.seen)

  module _ (headers buckets : ℕ) (g : List ℕ) (few : total counts ≤ 256) where
    try_accounted : (w : Crew) (m n : ℕ) (A : Leases) → n ≡ get_or w.made m 0 → n < count_of counts m → Keeps w A
        → Turned A (try_turn_of headers buckets g w m (start_of counts m + n) (get_or cells (start_of counts m + n) 0))
    unfolding try_turn_of
    try_accounted w m n A is less k =
        let c = get_or cells (start_of counts m + n) 0 in
        let e = setting headers (headers * buckets) [] [] in
        let l = (lock_of e buckets (flow_of w.next 0 0) w.table g c).seen in
        if_both (Turned A) (is_poisoned g (header_of buckets c)) (none k)
        (more tt (andthen (lock_accounted e buckets 0 (flow_of w.next 0 0) w.table g c _ (omega arith))
        (λ B i h. none (go l.0.flow.next l.1.0 B (wider (λ c s a. i c s (inl a)) k) (lock_comes e buckets c (flow_of w.next 0 0) w.table g) h.0))))
      where
        go : {x : List ℕ} {o : Outcome} (next : ℕ) (t : List ℕ) (B : Leases) → Keeps w B
            → Comes buckets (get_or cells (start_of counts m + n) 0) x o → Given o B → Keeps (after_try o next t w m (start_of counts m + n)) B
        go next t B h (granted s z) a = rw (← is) (took_noted w.made w.serials m n s B few is less h a)
        go next t B h (busy why) a = h
        go next t B h (poisoned z) a = h
        go next t B h damaged a = h
        go next t B h spent a = h

    -- that it holds all tells of no lease
    filled_accounted : (w : Crew) (m : ℕ) (A : Leases) → Keeps w A → Turned A (held_all_of counts cells w m)
    unfolding held_all_of
    filled_accounted w m A k = go (is_full counts w.made m)
      where
        go : (b : Bool) → Accounted [] 0 A ((if b then note (held_all_lem m) else gives tt) >> gives w).log (Keeps w)
        go true = more tt (none (wider (λ c s a. inl a) k))
        go false = none k

    add_accounted : (w : Crew) (m n c : ℕ) (A : Leases) → n ≡ get_or w.made m 0 → count_of counts m ≤ n → Keeps w A → Turned A (add_turn_of w m c)
    unfolding add_turn_of
    add_accounted w m n c A is all k = more tt (none (wider (λ c s a. inl a) (rw (← is) (gave_noted w.made w.serials m n A is all k))))

    release_accounted : (w : Crew) (m n : ℕ) (A : Leases) → n ≡ get_or w.made m 0 → count_of counts m + adds_of work (count_of counts m) ≤ n → n < moves_of work (count_of counts m) → Keeps w A
        → let j = start_of counts m + (moves_of work (count_of counts m) - 1 - n) in Turned A (release_turn_of w m j (get_or cells j 0))
    unfolding release_turn_of
    release_accounted w m n A is all some k =
        more (k.names m (moves_of work (count_of counts m) - 1 - n) (omega arith, omega arith, omega arith))
        (none (wider (λ c s a. inl a) (rw (← is) (gave_noted w.made w.serials m n A is (omega arith) k))))

    turn_accounted : (w : Crew) (m : ℕ) (A : Leases) → Keeps w A → Turned A (turn_of work headers buckets g counts cells w m)
    unfolding turn_of
    turn_accounted w m A k =
        let n = get_or w.made m 0 in
        let count = count_of counts m in
        let all = moves_of work count in
        if_cases (Turned A) (leb all n) (λ _. none k)
        (λ some. if_cases (Turned A) (ltb n count)
        (λ less. andthen (try_accounted w m n A refl (ltb-true n count less) k)
        (λ B i h. filled_accounted (try_turn_of headers buckets g w m (start_of counts m + n) (get_or cells (start_of counts m + n) 0)).seen m B h))
        (λ held. if_cases (Turned A) (ltb n (count + adds_of work count)) (λ less. add_accounted w m n (get_or cells (start_of counts m + (n - count)) 0) A refl (ltb-false n count held) k)
        (λ worked. release_accounted w m n A refl (ltb-false n (count + adds_of work count) worked) (leb-false all n some) k)))

    turns_accounted : (turns : List ℕ) (w : Crew) (A : Leases) → Keeps w A → Turned A (turns_of work headers buckets g counts cells w turns)
    unfolding turns_of
    turns_accounted [] w A k = none k
    turns_accounted (m ∷ ms) w A k = andthen (turn_accounted w m A k) (λ B i h. turns_accounted ms (turn_of work headers buckets g counts cells w m).seen B h)

-- from nothing noted
pub crew_accounted : (work : Work) (w : World) (counts cells turns counters : List ℕ) (A : Leases) → Clear (plan_rules w.head counts cells turns) → Accounted [] 0 A (shifted work w counts cells turns counters).log any
crew_accounted work w counts cells turns counters A fine =
    accounted (turns_accounted work counts cells w.head.headers w.head.buckets w.health (limits w.head counts cells turns fine).small
    turns (crew_start w.head w.table counters) A
    (record { room = refl; names = λ q j h. absurd (omega (arith, zeros 16 q)) }))
