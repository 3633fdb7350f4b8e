-- What ties the counters to the replay so far: a cell's counter is the replayed one, but for the one add that a member at work still owes
-- it. Members at work hold their cells apart, so no cell is owed two.
use Rattle.std.specs.Prelude.{ℕ, ◌+◌, ◌-◌, ◌≤◌, ◌<◌, ◌≡◌, List, ◌≢◌, ◌⊎◌, length, get_or, set}
use Rattle.std.proofs.Common.{sym, ap, ◌∙◌, inl, inr, arith, get_or-set_same, get_or-set_other}
use Rattle.std.proofs.Math.Decide.{ℕ_discrete}
use Rattle.model.specs.Arena.{cells_of, bit_at}
use Rattle.model.specs.Crew.{adds, start_of, count_of, moved}
use Rattle.types.specs.declared.Head.{Head}
use Rattle.crew_theory.specs.Statements.{named, wish}
use Rattle.history.specs.Crew.{Holds}
use Rattle.crew_theory.specs.Lists.{Fits}
use Rattle.crew_theory.specs.Steady.{Made, mine, other}
use Rattle.crew_theory.proofs.Steady.{see_made}
use Rattle.crew_theory.proofs.Whole.{Grips}
use Rattle.crew_at_work_theory.specs.Statements.{whole_by}
use Rattle.crew_at_work_theory.specs.Wholes.{among, whole_at, whole_other}
use Rattle.crew_at_work_theory.specs.Due.{Due}

module _ (plus : ℕ → ℕ → ℕ) (counts cells : List ℕ) where
  -- the counter of c is the replayed one, or c is owed an add
  pub data Settled (made counters r : List ℕ) (c : ℕ) : Type 0 where
    level : get_or r c 0 ≡ get_or counters c 0 → Settled made counters r c
    waits : (q j : ℕ) → Due counts made q j → named cells (start_of counts q + j) ≡ c → Settled made counters r c

  pub record Owed (made counters noted r : List ℕ) : Type 0 where
    pub due : (q j : ℕ) → Due counts made q j → let c = named cells (start_of counts q + j) in get_or r c 0 ≡ plus (get_or counters c 0) (get_or noted q 0)
    pub settled : (c : ℕ) → Settled made counters r c

  module _ (made counters noted r : List ℕ) (m : ℕ) (in_made : m < length made) (x : Owed made counters noted r) where
    abbrev n : ℕ
    n = get_or made m 0

    -- a move of a member that owes nothing, before and after
    pub still : ((j : ℕ) → Due counts made m j → ⊥) → ((j : ℕ) → Due counts (moved made m) m j → ⊥) → Owed (moved made m) counters noted r
    still a b = record { due = λ q j d. due' q j d (see_made made m q in_made); settled = λ c. settled' c (x.settled c) }
      where
        due' : (q j : ℕ) → Due counts (moved made m) q j → Made made m q → let c = named cells (start_of counts q + j) in get_or r c 0 ≡ plus (get_or counters c 0) (get_or noted q 0)
        due' q j d (mine p e f) = absurd (b j (rw p at d))
        due' q j d (other p e) = x.due q j (omega arith, omega arith, omega arith)

        settled' : (c : ℕ) → Settled made counters r c → Settled (moved made m) counters r c
        settled' c (level e) = level e
        settled' c (waits q j d e) = waits q j (go (see_made made m q in_made)) e
          where
            go : Made made m q → Due counts (moved made m) q j
            go (mine p f s) = absurd (a j (rw p at d))
            go (other p f) = (omega arith, omega arith, omega arith)

    module _ (h : Head) (words : ℕ) (fit : Fits h words counts cells) (next : ℕ) (u serials : List ℕ) (y : Grips adds words counts cells next u made serials) where
      -- the take by which m comes to hold all: the replay runs the whole member, and it owes an add to each of its cells
      pub filled : n < count_of counts m → n + 1 ≡ count_of counts m → bit_at u (wish counts cells made m) ≡ 0 → length r ≡ cells_of h → m < length noted
          → Owed (moved made m) counters (set noted m (get_or counters (named cells (start_of counts m)) 0)) (whole_by plus counts cells r m)
      filled l full free wide in_noted = record { due = λ q j d. due' q j d (see_made made m q in_made); settled = λ c. settled' c (x.settled c) }
        where
          noted' : List ℕ
          noted' = set noted m (get_or counters (named cells (start_of counts m)) 0)

          -- nobody owes anything to a cell of m's
          foreign : (q j i : ℕ) → Due counts made q j → i < count_of counts m → named cells (start_of counts q + j) ≢ named cells (start_of counts m + i)
          foreign q j i d b e = go (ℕ_discrete i (get_or made m 0))
            where
              hold : Holds adds counts made q j
              hold = (omega arith, omega arith, omega arith)

              go : Dec (i ≡ get_or made m 0) → ⊥
              go (yes p) = omega (arith, (y.grip q j hold).bit_is, ap (bit_at u) (e ∙ ap (λ z. named cells (start_of counts m + z)) p))
              go (no p) =
                  let s = (y.apart q j m i hold (omega arith, omega arith, omega arith) e).0 in
                  omega (arith, ap (λ z. get_or made z 0) s, ap (count_of counts) s)

          -- so the counters of m's cells are the replayed ones
          even : (i : ℕ) → i < count_of counts m → get_or r (named cells (start_of counts m + i)) 0 ≡ get_or counters (named cells (start_of counts m + i)) 0
          even i b = go (x.settled (named cells (start_of counts m + i)))
            where
              go : Settled made counters r (named cells (start_of counts m + i)) → get_or r (named cells (start_of counts m + i)) 0 ≡ get_or counters (named cells (start_of counts m + i)) 0
              go (level e) = e
              go (waits q j d e) = absurd (foreign q j i d b e)

          low : get_or r (named cells (start_of counts m)) 0 ≡ get_or counters (named cells (start_of counts m)) 0
          low = let z : start_of counts m + 0 ≡ start_of counts m = omega arith in rw z at (even 0 (omega arith))

          due' : (q j : ℕ) → Due counts (moved made m) q j → Made made m q
              → let c = named cells (start_of counts q + j) in get_or (whole_by plus counts cells r m) c 0 ≡ plus (get_or counters c 0) (get_or noted' q 0)
          due' q j d (mine p e f) =
              let b : j < count_of counts m = rw p at d.2 in
              rw (p, whole_at plus counts cells h words fit r m j b wide, even j b, low, get_or-set_same noted m (get_or counters (named cells (start_of counts m)) 0) 0 in_noted)
          due' q j d (other p e) =
              let d' : Due counts made q j = (omega arith, omega arith, omega arith) in
              rw (whole_other plus counts cells r m (named cells (start_of counts q + j)) (λ i b z. foreign q j i d' b (sym z)), get_or-set_other noted m q (get_or counters (named cells (start_of counts m)) 0) 0 p)
              (x.due q j d')

          settled' : (c : ℕ) → Settled made counters r c → Settled (moved made m) counters (whole_by plus counts cells r m) c
          settled' c (waits q j d e) = waits q j (go (see_made made m q in_made)) e
            where
              go : Made made m q → Due counts (moved made m) q j
              go (mine p f s) = let z = ap (count_of counts) p in absurd (omega arith)
              go (other p f) = (omega arith, omega arith, omega arith)
          settled' c (level e) = go (among cells (count_of counts m) (start_of counts m) c)
            where
              made_now : get_or (moved made m) m 0 ≡ get_or made m 0 + 1
              made_now = get_or-set_same made m (get_or made m 0 + 1) 0 in_made

              go : ((j : ℕ) × (j < count_of counts m) × (named cells (start_of counts m + j) ≡ c)) ⊎ ((j : ℕ) → j < count_of counts m → named cells (start_of counts m + j) ≢ c)
                  → Settled (moved made m) counters (whole_by plus counts cells r m) c
              go (inl (j, b, f)) = let z = made_now in waits m j (omega arith, omega arith, omega arith) f
              go (inr f) = level (whole_other plus counts cells r m c f ∙ e)

      -- an add
      pub raised : count_of counts m ≤ n → n < count_of counts m + count_of counts m → length counters ≡ cells_of h
          → let c = named cells (start_of counts m + (n - count_of counts m)) in Owed (moved made m) (set counters c (plus (get_or counters c 0) (get_or noted m 0))) noted r
      raised l b wide = record { due = λ q j d. due' q j d (see_made made m q in_made); settled = λ d. settled' d (ℕ_discrete d c) (x.settled d) }
        where
          i : ℕ
          i = get_or made m 0 - count_of counts m

          c : ℕ
          c = named cells (start_of counts m + i)

          now : List ℕ
          now = set counters c (plus (get_or counters c 0) (get_or noted m 0))

          elsewhere : (d : ℕ) → d ≢ c → get_or now d 0 ≡ get_or counters d 0
          elsewhere d e = get_or-set_other counters c d (plus (get_or counters c 0) (get_or noted m 0)) 0 e

          due' : (q j : ℕ) → Due counts (moved made m) q j → Made made m q → let d = named cells (start_of counts q + j) in get_or r d 0 ≡ plus (get_or now d 0) (get_or noted q 0)
          due' q j d (mine p e f) =
              let z = ap (count_of counts) p in
              let a : i < j = omega arith in
              let k : named cells (start_of counts q + j) ≢ c = λ s. omega (arith, fit.rising m i j a (omega arith), ap (λ w. named cells (start_of counts w + j)) p) in
              rw (elsewhere (named cells (start_of counts q + j)) k) (x.due q j (omega arith, omega arith, omega arith))
          due' q j d (other p e) =
              let d' : Due counts made q j = (omega arith, omega arith, omega arith) in
              let k : named cells (start_of counts q + j) ≢ c = λ s. p (y.apart q j m i (omega arith, omega arith, omega arith) (omega arith, omega arith, omega arith) s).0 in
              rw (elsewhere (named cells (start_of counts q + j)) k) (x.due q j d')

          settled' : (d : ℕ) → Dec (d ≡ c) → Settled made counters r d → Settled (moved made m) now r d
          settled' d (yes e) s =
              level (rw (e, get_or-set_same counters c (plus (get_or counters c 0) (get_or noted m 0)) 0 (omega (arith, fit.range m i (omega arith)))) (x.due m i (omega arith, omega arith, omega arith)))
          settled' d (no e) (level f) = level (f ∙ sym (elsewhere d e))
          settled' d (no e) (waits q j a f) = waits q j (go (see_made made m q in_made)) f
            where
              go : Made made m q → Due counts (moved made m) q j
              go (mine p s z) =
                  let w = ap (count_of counts) p in
                  let k : j ≢ i = λ z. e (sym f ∙ rw (p, z)) in
                  (omega arith, omega arith, omega arith)
              go (other p s) = (omega arith, omega arith, omega arith)
