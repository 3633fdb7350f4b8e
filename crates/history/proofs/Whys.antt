-- The reasons, read off the table of `Why`; a holder lives, a late serial is spent.
-- ---- the last event of a log
use Rattle.std.specs.Prelude.{ℕ, ◌*◌, ◌≤◌, ◌<◌, ◌≡◌, refl, List, [], ◌∷◌, ◌++◌, Bool, true, false, ltb, get_or}
use Rattle.std.proofs.Common.{sym, ap, ◌∙◌, subst, append_assoc, inl, inr, arith, ltb-true, ltb-false}
use Rattle.std.proofs.Math.ListN.{get_or-eq_default}
use Rattle.std.proofs.lemmas.Bool.{not-false}
use Rattle.model.specs.Log.{Event, by_caller, by_script, attempt_begun, boundary_run, yielded, spun, step_dropped, took, released, waiters_set, health_set, held_all_lem, added}
use Rattle.model.specs.Arena.{hold_in, header_of, hold_of, bit_at, owner_at, waiters_at, state_at, is_live}
use Rattle.model.specs.Lock.{take_of}
use Rattle.model.specs.Checks.{lease_rules}
use Rattle.model.specs.Calls.{acquire_of}
use Rattle.types.specs.declared.Answer.{Answer}
use Rattle.types.specs.declared.Answer.TheVariants.{Busy}
use Rattle.types.specs.declared.Counts.{Counts}
use Rattle.types.specs.declared.Reason.TheVariants.{Held, Before, After}
use Rattle.types.specs.declared.State.{State}
use Rattle.types.specs.declared.State.TheVariants as state
use Rattle.laws.specs.Words.{waiters_set_cell}
use Rattle.history.specs.World.{World, cells, Live, after_event, now, Lawful, Spent, number_of_lem, boundaries, caller_releases}
use Rattle.history.specs.Items.{Call, try_acquire, drop_lease, read_permission, competing_acquire, release_then_handoff, foreign_release, drop_preserving, acquire_preserving, environment, try_lock, transactional, acquire_bucket, release_all, acquire_locks, acquire_sorted, crew, crew_at_work, IsCrew, asked, perform}
use Rattle.history.specs.Statements.{answer_in, leaves, log_of}
use Rattle.history.specs.Events.{Good, Fit, good, fit, good_after, lives, live_before, new_owner}
use Rattle.history.proofs.Logs.{now_append, lawful_split, good_now, arena_now, live_back, kept_fit}
use Rattle.history.proofs.Calls.{call_kept, call_fit}
use Rattle.history.specs.CountedCalls.{calls_counted}
use Rattle.history.specs.Judged.{performed}
use Rattle.history.proofs.Returns.{not_empty, released_dead}
use Rattle.history.specs.Rollback.{Foreigner}
use Rattle.history.proofs.Rollback.{Every, every_at}
use Rattle.history.specs.Tests.{Stands, is_free_lem, is_held_lem, is_damaged, stands, alive, live, state_held}
use Rattle.history.specs.Reasons.{boundaries_in, LocksOnce, TakesNothing, ReasonsAre, EarlyTakesNothing, HolderLives, LateIsSpent, OwnSerial}
use Rattle.history.proofs.Why.{Looks, unlooked, waited, holder, stopped, granted, late, poisoned, call_looks}
use Rattle.history.specs.Whys.{GaveUp}

-- two logs with a last event each
same_end : (xs ys : List Event) (a b : Event) → xs ++ (a ∷ []) ≡ ys ++ (b ∷ []) → (xs ≡ ys) × (a ≡ b)
same_end [] [] a b e = (refl, cc)
same_end [] (y ∷ ys) a b e = let q : [] ≡ ys ++ (b ∷ []) = cc in absurd (not_empty b ys [] q)
same_end (x ∷ xs) [] a b e = let q : [] ≡ xs ++ (a ∷ []) = cc in absurd (not_empty a xs [] q)
same_end (x ∷ xs) (y ∷ ys) a b e =
    let q : xs ++ (a ∷ []) ≡ ys ++ (b ∷ []) = cc in
    let h : x ≡ y = cc in
    let k = same_end xs ys a b q in
    let l : xs ≡ ys = k.0 in
    (cc, k.1)

-- a log that ends with a release by the caller has one
ends_released : (xs : List Event) (c s : ℕ) → caller_releases (xs ++ (released by_caller c s ∷ [])) ≡ [] → ⊥
unfolding caller_releases
ends_released [] c s e = let z : ◌≡◌ {A = ℕ} 0 1 = cc in omega arith
ends_released (attempt_begun ∷ xs) c s e = ends_released xs c s e
ends_released (boundary_run ∷ xs) c s e = ends_released xs c s e
ends_released (yielded ∷ xs) c s e = ends_released xs c s e
ends_released (spun ∷ xs) c s e = ends_released xs c s e
ends_released (step_dropped ∷ xs) c s e = ends_released xs c s e
ends_released (took a d n ∷ xs) c s e = ends_released xs c s e
ends_released (released by_caller d n ∷ xs) c s e = let z : ◌≡◌ {A = ℕ} 0 1 = cc in omega arith
ends_released (released by_script d n ∷ xs) c s e = ends_released xs c s e
ends_released (waiters_set d n ∷ xs) c s e = ends_released xs c s e
ends_released (health_set i n ∷ xs) c s e = ends_released xs c s e
ends_released (held_all_lem m ∷ xs) c s e = ends_released xs c s e
ends_released (added m d v ∷ xs) c s e = ends_released xs c s e

-- where the caller does nothing, it releases nothing last
not_foreign : {log : List Event} (xs : List Event) (c s : ℕ) → Every Foreigner log → log ≡ xs ++ (released by_caller c s ∷ []) → ⊥
not_foreign xs c s f e = every_at (released by_caller c s) xs [] (subst (Every Foreigner) e f)

module _ {buckets c : ℕ} {a : Answer} {b : ℕ} {log : List Event} {next : ℕ} {t g : List ℕ} where
  before_says : Looks buckets c a b log next t g → a ≡ Busy Before → (b ≡ 1) × (waiters_at t c ≡ 0 → ⊥)
  before_says (waited e n f w) q = (n, w)
  before_says (unlooked r e n f) q = let z : ◌≡◌ {A = ℕ} 0 1 = cc in absurd (omega arith)
  before_says (holder s e n f h) q = let z : ◌≡◌ {A = ℕ} 0 1 = cc in absurd (omega arith)
  before_says (stopped r e n f h) q = let z : ◌≡◌ {A = ℕ} 0 1 = cc in absurd (omega arith)
  before_says (granted s b' e n h) q = let z : ◌≡◌ {A = ℕ} 0 1 = cc in absurd (omega arith)
  before_says (late s x y e n p h w) q = let z : ◌≡◌ {A = ℕ} 0 1 = cc in absurd (omega arith)
  before_says (poisoned s x y r e n p h) q = let z : ◌≡◌ {A = ℕ} 0 1 = cc in absurd (omega arith)

  before_since : Looks buckets c a b log next t g → b ≡ 1 → a ≡ Busy Before
  before_since (waited e n f w) q = e
  before_since (unlooked r e n f) q = absurd (omega arith)
  before_since (holder s e n f h) q = absurd (omega arith)
  before_since (stopped r e n f h) q = absurd (omega arith)
  before_since (granted s b' e n h) q = absurd (omega arith)
  before_since (late s x y e n p h w) q = absurd (omega arith)
  before_since (poisoned s x y r e n p h) q = absurd (omega arith)

  held_says : (s : ℕ) → Looks buckets c a b log next t g → a ≡ Busy (Held s) → (b ≡ 2) × (state_at next t c ≡ state.Held s)
  held_says s (holder o e n f h) q = let i : o ≡ s = cc in (n, subst (λ x. state_at next t c ≡ state.Held x) i h)
  held_says s (unlooked r e n f) q = let z : ◌≡◌ {A = ℕ} 0 1 = cc in absurd (omega arith)
  held_says s (waited e n f w) q = let z : ◌≡◌ {A = ℕ} 0 1 = cc in absurd (omega arith)
  held_says s (stopped r e n f h) q = let z : ◌≡◌ {A = ℕ} 0 1 = cc in absurd (omega arith)
  held_says s (granted o b' e n h) q = let z : ◌≡◌ {A = ℕ} 0 1 = cc in absurd (omega arith)
  held_says s (late o x y e n p h w) q = let z : ◌≡◌ {A = ℕ} 0 1 = cc in absurd (omega arith)
  held_says s (poisoned o x y r e n p h) q = let z : ◌≡◌ {A = ℕ} 0 1 = cc in absurd (omega arith)

  held_since : (s : ℕ) → Looks buckets c a b log next t g → b ≡ 2 → state_at next t c ≡ state.Held s → a ≡ Busy (Held s)
  held_since s (holder o e n f h) q k = let i : o ≡ s = cc in e ∙ ap (λ (x : ℕ). Busy (Held x)) i
  held_since s (unlooked r e n f) q k = absurd (omega arith)
  held_since s (waited e n f w) q k = absurd (omega arith)
  held_since s (stopped r e n f h) q k = absurd (h s k)
  held_since s (granted o b' e n h) q k = absurd (omega arith)
  held_since s (late o x y e n p h w) q k = absurd (omega arith)
  held_since s (poisoned o x y r e n p h) q k = absurd (omega arith)

  -- neither takes anything
  before_still : Looks buckets c a b log next t g → a ≡ Busy Before → Every Foreigner log
  before_still (waited e n f w) q = f
  before_still (unlooked r e n f) q = f
  before_still (holder s e n f h) q = f
  before_still (stopped r e n f h) q = f
  before_still (granted s b' e n h) q = let z : ◌≡◌ {A = ℕ} 0 1 = cc in absurd (omega arith)
  before_still (late s x y e n p h w) q = let z : ◌≡◌ {A = ℕ} 0 1 = cc in absurd (omega arith)
  before_still (poisoned s x y r e n p h) q = let z : ◌≡◌ {A = ℕ} 0 1 = cc in absurd (omega arith)

  held_still : (s : ℕ) → Looks buckets c a b log next t g → a ≡ Busy (Held s) → Every Foreigner log
  held_still s (waited e n f w) q = f
  held_still s (unlooked r e n f) q = f
  held_still s (holder o e n f h) q = f
  held_still s (stopped r e n f h) q = f
  held_still s (granted o b' e n h) q = let z : ◌≡◌ {A = ℕ} 0 1 = cc in absurd (omega arith)
  held_still s (late o x y e n p h w) q = let z : ◌≡◌ {A = ℕ} 0 1 = cc in absurd (omega arith)
  held_still s (poisoned o x y r e n p h) q = let z : ◌≡◌ {A = ℕ} 0 1 = cc in absurd (omega arith)

  after_says : (s : ℕ) → Looks buckets c a b log next t g → a ≡ Busy (After s) → GaveUp buckets c log t g s
  after_says s (late o x y e n p h w) q =
      let i : o ≡ s = cc in
      (x, y, subst (λ (z : ℕ). log ≡ (x ++ (took by_caller c z ∷ y)) ++ (released by_caller c z ∷ [])) i (p ∙ sym (append_assoc x (took by_caller c o ∷ y) _)), h, w)
  after_says s (unlooked r e n f) q = let z : ◌≡◌ {A = ℕ} 0 1 = cc in absurd (omega arith)
  after_says s (waited e n f w) q = let z : ◌≡◌ {A = ℕ} 0 1 = cc in absurd (omega arith)
  after_says s (holder o e n f h) q = let z : ◌≡◌ {A = ℕ} 0 1 = cc in absurd (omega arith)
  after_says s (stopped r e n f h) q = let z : ◌≡◌ {A = ℕ} 0 1 = cc in absurd (omega arith)
  after_says s (granted o b' e n h) q = let z : ◌≡◌ {A = ℕ} 0 1 = cc in absurd (omega arith)
  after_says s (poisoned o x y r e n p h) q = let z : ◌≡◌ {A = ℕ} 0 1 = cc in absurd (omega arith)

  after_since : (s : ℕ) (xs : List Event) → Looks buckets c a b log next t g → log ≡ xs ++ (released by_caller c s ∷ []) → get_or g (header_of buckets c) 0 ≡ 0 → a ≡ Busy (After s)
  after_since s xs (late o x y e n p h w) q k =
      let j = (same_end (x ++ (took by_caller c o ∷ y)) xs _ _ (append_assoc x (took by_caller c o ∷ y) _ ∙ sym p ∙ q)).1 in
      let i : o ≡ s = cc in
      e ∙ ap (λ (z : ℕ). Busy (After z)) i
  after_since s xs (poisoned o x y r e n p h) q k = absurd (h k)
  after_since s xs (unlooked r e n f) q k = absurd (not_foreign xs c s f q)
  after_since s xs (waited e n f w) q k = absurd (not_foreign xs c s f q)
  after_since s xs (holder o e n f h) q k = absurd (not_foreign xs c s f q)
  after_since s xs (stopped r e n f h) q k = absurd (not_foreign xs c s f q)
  after_since s xs (granted o b' e n h) q k = absurd (ends_released xs c s (subst (λ (l : List Event). caller_releases l ≡ []) q h))

-- ---- of a call: just before its last release, header and waiters are as the call leaves them

module _ (w : World) (k : Call) (c s : ℕ) (up_to : List Event) (e : log_of w k ≡ up_to ++ (released by_caller c s ∷ [])) where
  left : leaves w k ≡ after_event (now w up_to) (released by_caller c s)
  left = (call_kept w k).kept.leads ∙ ap (now w) e ∙ now_append w up_to (released by_caller c s ∷ [])

  same_buckets : (now w up_to).head.buckets ≡ w.head.buckets
  same_buckets = ap (λ h. h.buckets) (arena_now w up_to)

  same_health : get_or (leaves w k).health (header_of w.head.buckets c) 0 ≡ get_or (now w up_to).health (header_of (now w up_to).head.buckets c) 0
  same_health =
      ap (λ (v : World). get_or v.health (header_of w.head.buckets c) 0) left
      ∙ ap (λ (n : ℕ). get_or (now w up_to).health (header_of n c) 0) (sym same_buckets)

  same_waiters : waiters_at (leaves w k).table c ≡ waiters_at (now w up_to).table c
  same_waiters = ap (λ (v : World). waiters_at v.table c) left ∙ waiters_set_cell (now w up_to).table c 0 0 c

pub reasons_are : ReasonsAre perform
reasons_are w k o =
    let c = asked w k in
    let l = call_looks w k o in
    record {
      before = (λ q. let x = before_says l q in record { one_boundary = x.0; waiters = x.1 }, λ x. before_since l x.one_boundary);
      held = λ s. (λ q. let x = held_says s l q in record { two_boundaries = x.0; holds = x.1 }, λ x. held_since s l x.two_boundaries x.holds);
      after = λ s. (
        λ q.
            let x = after_says s l q in
            let up = x.0 ++ (took by_caller c s ∷ x.1) in
            record {
              up_to = up;
              front = x.0;
              behind = x.1;
              taken = refl;
              gives_up = x.2;
              healthy = sym (same_health w k c s up x.2) ∙ x.3;
              waiters = λ z. x.4 (same_waiters w k c s up x.2 ∙ z);
            },
        λ x. after_since s x.up_to l x.gives_up (same_health w k c s x.up_to x.gives_up ∙ x.healthy),
      );
    }

takes_nothing : {log : List Event} → Every Foreigner log → TakesNothing log
takes_nothing f c s before after e = every_at (took by_caller c s) before after (subst (Every Foreigner) e f)

pub early_takes_nothing : EarlyTakesNothing perform
early_takes_nothing w k o = let l = call_looks w k o in (λ q. takes_nothing (before_still l q), λ s q. takes_nothing (held_still s l q))

-- ---- the holder lives

-- a call that locks once is no crew
not_crew : (k : Call) → LocksOnce k → IsCrew k → ⊥
not_crew (try_acquire c) o = absurd o
not_crew (drop_lease l) o = absurd o
not_crew (read_permission l) o = absurd o
not_crew (competing_acquire l) o = absurd o
not_crew (release_then_handoff l) o = absurd o
not_crew (foreign_release ls l) o = absurd o
not_crew (drop_preserving ls l) o = absurd o
not_crew (acquire_preserving ls c) o = absurd o
not_crew (environment script place ls) o = absurd o
not_crew (try_lock script place ls c) o = λ x. x
not_crew (transactional registry script place ls binding bucket) o = λ x. x
not_crew (acquire_bucket registry script place ls binding bucket) o = absurd o
not_crew (release_all script place ls) o = absurd o
not_crew (acquire_locks registry script place ls keys grants) o = absurd o
not_crew (acquire_sorted registry script place ls keys grants) o = absurd o
not_crew (crew counts lists turns) o = absurd o
not_crew (crew_at_work counts lists turns counters) o = absurd o

-- a lock that looked is no refused call: its log is not empty, so the shape fits
looked_fit : (w : World) (k : Call) → LocksOnce k → (boundaries_in (perform w k) ≡ 0 → ⊥) → Fit w
unfolding number_of_lem
looked_fit w k o n = elim (call_fit w k) [ inl e ↦ absurd (n (none e)) | inr f ↦ f ]
  where
    none : log_of w k ≡ [] → boundaries_in (perform w k) ≡ 0
    none e = ap (λ (x : Counts). x.boundaries) (calls_counted w k (not_crew k o)) ∙ ap (number_of_lem boundaries) e

-- a held cell is in range: behind the table there is no bit
held_lives : (v : World) (c s : ℕ) → Fit v → state_at v.head.next v.table c ≡ state.Held s → Live v (hold_of c s)
unfolding state_at bit_at
held_lives v c s f e = go (stands v.head.next (bit_at v.table c) (owner_at v.table c)) e
  where
    go : {x : State} → Stands v.head.next (bit_at v.table c) (owner_at v.table c) x → x ≡ state.Held s → Live v (hold_of c s)
    go (is_free_lem x y) q = let z : ◌≡◌ {A = ℕ} 0 1 = cc in absurd (omega arith)
    go (is_damaged x y) q = let z : ◌≡◌ {A = ℕ} 0 1 = cc in absurd (omega arith)
    go (is_held_lem b l h) q =
        let i : owner_at v.table c ≡ s = cc in
        live v.head.next (cells v) v.table (hold_of c s)
        (record { in_range = inside (ltb c (cells v)) refl; bit_is = b; owner_is = i; low = omega arith; high = omega arith })
      where
        inside : (x : Bool) → ltb c (cells v) ≡ x → c < cells v
        inside true k = ltb-true _ _ k
        inside false k =
            let out : cells v ≤ c = ltb-false _ _ k in
            absurd (omega (arith, get_or-eq_default v.table 0 {n = 3 * c} (omega (arith, f.shape.words_are)), b))

pub holder_lives : HolderLives perform
holder_lives w k s o q =
    let x = ((reasons_are w k o).held s).0 q in
    let f = looked_fit w k o (λ z. omega (arith, x.two_boundaries)) in
    held_lives (leaves w k) (asked w k) s (kept_fit f (call_kept w k).kept) x.holds

-- ---- a late serial is spent

-- the serial that a take issued is live nowhere else behind it: where no cell is damaged, no owner was the next serial before
sole : (w : World) (c s : ℕ) (log front behind : List Event) → log ≡ front ++ (took by_caller c s ∷ behind) → Good w → Lawful w log
    → (d : ℕ) → Live (now w log) (hold_of d s) → d ≡ c
sole w c s log front behind e g t d v =
    let e' = took by_caller c s in
    let u = now w front in
    let parts = lawful_split w front (e' ∷ behind) (subst (Lawful w) e t) in
    let legal = parts.1.0 in
    let then = good_now w front g parts.0 in
    let last : Live (now (after_event u e') behind) (hold_of d s) = subst (λ (x : World). Live x (hold_of d s)) (ap (now w) e ∙ now_append w front (e' ∷ behind)) v in
    new_owner u by_caller c s then legal d s (λ o. omega (arith, legal.1.0))
    (live_back (after_event u e') behind (hold_of d s) (fit (good_after u e' then legal)) parts.1.1 (omega (arith, legal.1.0)) last)

pub late_is_spent : LateIsSpent perform
late_is_spent w k s o whole q =
    let c = asked w k in
    let x = ((reasons_are w k o).after s).0 q in
    let u = now w x.up_to in
    let e = released by_caller c s in
    let lawful = lawful_split w x.up_to (e ∷ []) (subst (Lawful w) x.gives_up (call_kept w k).kept.lawful) in
    let g = good_now w x.up_to (good w whole) lawful.0 in
    let alive_then = lives u (hold_of c s) lawful.1.0 in
    subst (λ (v : World). Spent v s) (sym (left w k c s x.up_to x.gives_up))
    (record {
      was_issued = alive_then.high;
      owns_none = λ d l.
          let before = live_before u e (hold_of d s) (fit g) lawful.1.0 l alive_then.high in
          let same : d ≡ c = sole w c s x.up_to x.front x.behind x.taken (good w whole) lawful.0 d before in
          released_dead u (hold_of c s) (fit g) lawful.1.0 (subst (λ (n : ℕ). Live (after_event u e) (hold_of n s)) same l);
    })

-- ---- one compare-and-set by itself

pub own_serial : OwnSerial perform
unfolding lease_rules acquire_of take_of state_at
own_serial w l why =
    performed (λ m. answer_in m ≡ Busy why → why ≡ Held l.serial) w (competing_acquire l)
    (λ r q. let z : ◌≡◌ {A = ℕ} 0 1 = cc in absurd (omega arith))
    (λ fine. met (not-false (is_live w.head.next (cells w) w.table (hold_in l)) fine.1.1.0))
  where
    met : is_live w.head.next (cells w) w.table (hold_in l) ≡ true → (acquire_of 1 w.head w.table l.cell).seen.0.answer ≡ Busy why → why ≡ Held l.serial
    met v =
        let a = alive w.head.next (cells w) w.table (hold_in l) v in
        let h = state_held w.head.next (bit_at w.table l.cell) (owner_at w.table l.cell) a.bit_is (omega arith) (omega arith) in
        rw (h, a.owner_is) (λ q. cc)
