-- Each call hands over what it took and did not release: its log settles, and a lease that was released never is live again.
use Rattle.std.specs.Prelude.{ℕ, zero, suc, ◌+◌, ◌<◌, ◌≡◌, refl, List, [], ◌∷◌, ◌++◌, true, ◌⊎◌, length}
use Rattle.std.proofs.Common.{sym, subst, ◌∙◌, inr, arith}
use Rattle.std.proofs.Math.Logic.{inl}
use Rattle.std.proofs.lemmas.Bool.{not-false}
use Rattle.model.specs.Log.{Made, Event, by_caller, attempt_begun, took, released}
use Rattle.model.specs.Arena.{cells_of, hold_in, bit_at, owner_at, is_live, state_at, set_cell, holds_of, hold_of}
use Rattle.model.specs.Foreign.{Setting, protecting, flow_of}
use Rattle.model.specs.Lock.{take_of, outcome_of, answer_of, settled, attempt_limit, none_yet, retry_of, binding_at, bucket_at, rollback_of, after_key, locks_of}
use Rattle.model.specs.Checks.{count_in, lease_count, bad_shape, bad_held, held_lease_rules}
use Rattle.model.specs.Calls.{starting, acquire_of}
use Rattle.model.specs.Sorted.{cells_sorted, sorted_keys, first_key, asked_first, handed_back}
use Rattle.types.specs.declared.Answer.{Answer}
use Rattle.types.specs.declared.Answer.TheVariants.{Done, Cell, Granted, AllGranted, Busy, Refused, RefusedAt}
use Rattle.types.specs.declared.Head.{Head}
use Rattle.types.specs.declared.Hold.{Hold}
use Rattle.types.specs.declared.Outcome.{Outcome}
use Rattle.types.specs.declared.Outcome.TheVariants as outcome
use Rattle.types.specs.declared.Reply.{Reply}
use Rattle.types.specs.declared.Run.{Run}
use Rattle.laws.specs.Words.{Seen, here, there, see}
use Rattle.history.specs.World.{World, cells, Live, after_event, now, Lawful}
use Rattle.history.specs.Items.{Call, Says, try_acquire, drop_lease, read_permission, competing_acquire, release_then_handoff, foreign_release, drop_preserving, acquire_preserving, environment, try_lock, transactional, acquire_bucket, release_all, acquire_locks, acquire_sorted, crew, crew_at_work, perform, IsCrew, buffer, Clear, rules}
use Rattle.history.specs.Statements.{HandsOver, answers, log_of, NothingKept, leaves, GivenBack, Gives, NothingNew, buffer_in, Fails}
use Rattle.history.specs.Tests.{alive, state_held, Alive}
use Rattle.history.specs.Events.{Fit, fit_after, lives, next_after, live_before, at}
use Rattle.history.specs.Judged.{clear_back, judged_at, acting, sorted_locks, past_checks, performed}
use Rattle.history.proofs.Shared.{inner_handed}
use Rattle.history.proofs.Calls.{words_leases, call_kept, call_fit}
use Rattle.history.specs.Owing.{Frees, freed_here, freed_later, Settles, none, more, Nobody, Given}
use Rattle.history.proofs.Owing.{join, loosen, nobody_owes, boundary_silent, take_hands, lock_hands, attempt_hands, retry_hands, give_back_hands, locks_hands, frees_right, freed_at, settled_at}

-- ---- what is released is gone

-- a lease whose serial was issued and that is not live never is again
dead : (w : World) (es : List Event) (l : Hold) → Fit w → Lawful w es → l.serial < w.head.next → (Live w l → ⊥) → Live (now w es) l → ⊥
dead w [] l f k i n v = n v
dead w (e ∷ es) l f k i n v =
    dead (after_event w e) es l (fit_after w e f k.0) k.1 (omega (arith, next_after w e)) (λ x. n (live_before w e l f k.0 x i)) v

-- a cell that was released is free
pub released_dead : (w : World) (l : Hold) → Fit w → Live w l → Live (after_event w (released by_caller l.cell l.serial)) l → ⊥
released_dead w l f v u =
    go (see w.table l.cell 0 0 l.cell (omega (arith, at w f l.cell (lives w l v).in_range))) (lives (after_event w (released by_caller l.cell l.serial)) l u)
  where
    go : Seen w.table l.cell 0 0 l.cell → Alive w.head.next (cells w) (set_cell w.table l.cell 0 0) l → ⊥
    go (here e p q) a = omega (arith, a.bit_is)
    go (there e p q) a = e refl

gone : {l : Hold} (w : World) (es : List Event) → Fit w → Lawful w es → Frees l es → Live (now w es) l → ⊥
gone {l} w es f k (freed_here xs) v =
    let e = released by_caller l.cell l.serial in
    dead (after_event w e) xs l (fit_after w e f k.0) k.1 (lives w l k.0).high (released_dead w l f k.0) v
gone w es f k (freed_later e {es = xs} g) v = gone (after_event w e) xs (fit_after w e f k.0) k.1 g v

-- ---- what each call hands over

given_over : (boot : ℕ) (o : Outcome) (l : Hold) → Given o l → HandsOver (answer_of boot o) [] l
given_over boot (outcome.Granted k) l e = cc
given_over boot (outcome.Busy why) l e = let z : ◌≡◌ {A = ℕ} 0 1 = cc in absurd (omega arith)
given_over boot (outcome.Refused r) l e = let z : ◌≡◌ {A = ℕ} 0 1 = cc in absurd (omega arith)

given_settled : (boot : ℕ) (o : Outcome) (l : Hold) → Given o l → HandsOver (answer_of boot (settled o)) [] l
given_settled boot (outcome.Granted k) l e = cc
given_settled boot (outcome.Busy why) l e = let z : ◌≡◌ {A = ℕ} 0 1 = cc in absurd (omega arith)
given_settled boot (outcome.Refused r) l e = let z : ◌≡◌ {A = ℕ} 0 1 = cc in absurd (omega arith)

module _ (h : Head) (t : List ℕ) where
  abbrev Replying : Made (Reply × List ℕ) → Type 0
  Replying m = Settles (HandsOver m.seen.0.answer []) m.log

  acquire_settles : (n c : ℕ) → Replying (acquire_of n h t c)
  unfolding acquire_of
  acquire_settles n c =
      more attempt_begun tt (join (take_hands h.next t c) none (λ l x. inl (given_over h.boot (outcome_of c (take_of h.next t c).seen.0.answer) l x)))

  -- a cell that a live lease holds is not taken
  acquire_held : (n : ℕ) (l : Hold) → is_live h.next (cells_of h) t l ≡ true → Settles Nobody (acquire_of n h t l.cell).log
  unfolding acquire_of take_of state_at
  acquire_held n l v =
      let a = alive h.next (cells_of h) t l v in
      let e = state_held h.next (bit_at t l.cell) (owner_at t l.cell) a.bit_is (omega arith) (omega arith) in
      rw e (more attempt_begun tt none)

past_checks_settles : (w : World) (k : Call) → (IsCrew k → ⊥) → Clear (rules w k) → let m = past_checks w k in Settles (HandsOver m.seen.1.answer m.seen.1.grants) m.log
unfolding held_lease_rules
past_checks_settles w (try_acquire c) n k = acquire_settles w.head w.table 1 c
past_checks_settles w (drop_lease l) n k = more _ tt none
past_checks_settles w (read_permission l) n k = none
past_checks_settles w (competing_acquire l) n k = acquire_settles w.head w.table 1 l.cell
past_checks_settles w (release_then_handoff l) n k = more _ tt (acquire_settles w.head (set_cell w.table l.cell 0 0) 1 l.cell)
past_checks_settles w (foreign_release held l) n k =
    let c = clear_back (bad_shape w.head w.table ∷ bad_held w.head w.table held) _ k in
    let m = (acquire_of 1 w.head w.table l.cell).seen in
    join (acquire_held w.head w.table 1 (hold_in l) (not-false (is_live w.head.next (cells w) w.table (hold_in l)) c.1.0))
    (more (released by_caller l.cell l.serial) tt (acquire_settles m.0.head (set_cell m.1 l.cell 0 0) 2 l.cell)) (λ l x. absurd x)
past_checks_settles w (drop_preserving held l) n k = more _ tt none
past_checks_settles w (acquire_preserving held c) n k = acquire_settles w.head w.table 1 c
past_checks_settles w (environment script place held) n k =
    nobody_owes (boundary_silent (acting w (environment script place held)) (flow_of w.head.next place 0) w.table w.health)
past_checks_settles w (try_lock script place held c) n k =
    more attempt_begun tt (loosen (given_over w.head.boot _) (lock_hands (acting w (try_lock script place held c)) w.head.buckets (flow_of w.head.next place 0) w.table w.health c).settles)
past_checks_settles w (transactional registry script place held binding bucket) n k =
    let e = acting w (transactional registry script place held binding bucket) in
    loosen (given_over w.head.boot _) (attempt_hands e w.head.buckets registry binding bucket (starting w.head place) w.table w.health).settles
past_checks_settles w (acquire_bucket registry script place held binding bucket) n k =
    let e = acting w (acquire_bucket registry script place held binding bucket) in
    loosen (given_settled w.head.boot _) (retry_hands e attempt_limit 0 none_yet w.head.buckets registry binding bucket (starting w.head place) w.table w.health).settles
past_checks_settles w (release_all script place leases) n k =
    (give_back_hands (acting w (release_all script place leases)) (lease_count leases) (holds_of leases) (starting w.head place) w.table w.health
    (omega (arith, words_leases leases))).settles
past_checks_settles w (acquire_locks registry script place held keys grants) n k =
    let e = acting w (acquire_locks registry script place held keys grants) in
    (locks_hands e (count_in keys) 0 w.head.buckets w.head.boot registry keys [] (starting w.head place) w.table w.health grants).settles
past_checks_settles w (acquire_sorted registry script place held keys grants) n k =
    let e = acting w (acquire_sorted registry script place held keys grants) in
    judged_at (λ (m : Made (World × Says)). Settles (HandsOver m.seen.1.answer m.seen.1.grants) m.log) (first_key (count_in keys) 0 w.head registry keys) (λ r p _. none)
    (λ _.
    loosen (inner_handed w registry script place held keys grants)
    (locks_hands e (length (cells_sorted w.head.buckets registry keys)) 0 w.head.buckets w.head.boot registry (sorted_keys w.head.buckets registry keys) [] (starting w.head place) w.table w.health grants).settles)
past_checks_settles w (crew counts cells turns) n k = absurd (n tt)
past_checks_settles w (crew_at_work counts cells turns counters) n k = absurd (n tt)

call_settles : (w : World) (k : Call) → (IsCrew k → ⊥) → Settles (Gives (perform w k)) (log_of w k)
call_settles w k n = performed (λ m. Settles (Gives m) m.log) w k (λ r. none) (past_checks_settles w k n)

-- a log with an event is not empty
pub not_empty : (e : Event) (xs ys : List Event) → [] ≡ xs ++ (e ∷ ys) → ⊥
not_empty e [] ys q = let z : ◌≡◌ {A = ℕ} 0 1 = cc in omega arith
not_empty e (x ∷ xs) ys q = let z : ◌≡◌ {A = ℕ} 0 1 = cc in omega arith

-- ---- what a call takes and does not hand over, it gives back

pub calls_keep_nothing : NothingKept perform
calls_keep_nothing w k c s before after n e = go (settled_at c s before after (subst (Settles (Gives (perform w k))) e (call_settles w k n)))
  where
    Out : Type 0
    Out = GivenBack c s after × (Live (leaves w k) (hold_of c s) → ⊥)

    -- the call did something, so its shape fits
    back : (log_of w k ≡ []) ⊎ Fit w → Frees (hold_of c s) after → Out
    back (inl z) f = absurd (not_empty (took by_caller c s) before after (sym z ∙ e))
    back (inr g) f =
        let p = (call_kept w k).kept in
        let all = subst (Frees (hold_of c s)) (sym e) (frees_right before (freed_later (took by_caller c s) f)) in
        (freed_at f, λ v. gone w (log_of w k) g p.lawful all (subst (λ u. Live u (hold_of c s)) p.leads v))

    go : Gives (perform w k) (hold_of c s) ⊎ Frees (hold_of c s) after → (Gives (perform w k) (hold_of c s) × Live (leaves w k) (hold_of c s)) ⊎ Out
    go (inl x) = inl (x, (call_kept w k).gain (hold_of c s) x)
    go (inr f) = inr (back (call_fit w k) f)

-- ---- the buffer

locks_buffer : (left p : ℕ) (e : Setting) (buckets boot : ℕ) (registry keys : List ℕ) (taken : List Hold) (r : Run) (t g grants : List ℕ)
    → let m = locks_of left p e buckets boot registry keys taken r t g grants in (m.seen.0.answer ≡ AllGranted → ⊥) → m.seen.1.1.1 ≡ grants
unfolding locks_of rollback_of
locks_buffer zero p e buckets boot registry keys taken r t g grants n = absurd (n refl)
locks_buffer (suc left) p e buckets boot registry keys taken r t g grants n =
    let m = (retry_of attempt_limit 0 none_yet (protecting e taken) buckets registry (binding_at keys p) (bucket_at keys p) r t g).seen in
    go m.0.outcome m.0.run m.1.0 m.1.1
    (λ l. locks_buffer left (p + 1) e buckets boot registry keys (taken ++ (l ∷ [])) m.0.run m.1.0 m.1.1 grants) n
  where
    go : (o : Outcome) (s : Run) (u y : List ℕ)
        → ((l : Hold) → let m = locks_of left (p + 1) e buckets boot registry keys (taken ++ (l ∷ [])) s u y grants in (m.seen.0.answer ≡ AllGranted → ⊥) → m.seen.1.1.1 ≡ grants)
        → let m = after_key o e taken p s u y grants (λ l. locks_of left (p + 1) e buckets boot registry keys (taken ++ (l ∷ [])) s u y grants) in
        (m.seen.0.answer ≡ AllGranted → ⊥) → m.seen.1.1.1 ≡ grants
    go (outcome.Granted l) s u y on = on l
    go (outcome.Busy why) s u y on = λ _. refl
    go (outcome.Refused z) s u y on = λ _. refl

past_checks_buffer : (w : World) (k : Call) → ((past_checks w k).seen.1.answer ≡ AllGranted → ⊥) → (past_checks w k).seen.1.grants ≡ buffer k
past_checks_buffer w (try_acquire c) n = refl
past_checks_buffer w (drop_lease l) n = refl
past_checks_buffer w (read_permission l) n = refl
past_checks_buffer w (competing_acquire l) n = refl
past_checks_buffer w (release_then_handoff l) n = refl
past_checks_buffer w (foreign_release held l) n = refl
past_checks_buffer w (drop_preserving held l) n = refl
past_checks_buffer w (acquire_preserving held c) n = refl
past_checks_buffer w (environment script place held) n = refl
past_checks_buffer w (try_lock script place held c) n = refl
past_checks_buffer w (transactional registry script place held binding bucket) n = refl
past_checks_buffer w (acquire_bucket registry script place held binding bucket) n = refl
past_checks_buffer w (release_all script place leases) n = refl
past_checks_buffer w (acquire_locks registry script place held keys grants) n =
    locks_buffer (count_in keys) 0 (acting w (acquire_locks registry script place held keys grants)) w.head.buckets w.head.boot registry keys [] (starting w.head place) w.table w.health grants n
past_checks_buffer w (acquire_sorted registry script place held keys grants) n =
    judged_at (λ (m : Made (World × Says)). (m.seen.1.answer ≡ AllGranted → ⊥) → m.seen.1.grants ≡ grants) (first_key (count_in keys) 0 w.head registry keys) (λ r p _ _. refl)
    (λ _.
    kept _ _ _ (sorted_locks w registry script place held keys grants).seen.0.answer
    (locks_buffer (length (cells_sorted w.head.buckets registry keys)) 0 (acting w (acquire_sorted registry script place held keys grants)) w.head.buckets w.head.boot registry (sorted_keys w.head.buckets registry keys) [] (starting w.head place) w.table w.health grants)) n
  where
    -- so a refusal hands the buffer back as it was
    kept : (asked sorted b : List ℕ) (x : Answer) → ((x ≡ AllGranted → ⊥) → b ≡ grants) → (asked_first x asked sorted ≡ AllGranted → ⊥) → handed_back w.head.boot x asked b ≡ grants
    kept asked sorted b Done f n = f n
    kept asked sorted b (Cell c) f n = f n
    kept asked sorted b (Granted l) f n = f n
    kept asked sorted b AllGranted f n = absurd (n refl)
    kept asked sorted b (Busy why) f n = f n
    kept asked sorted b (Refused r) f n = f n
    kept asked sorted b (RefusedAt r p) f n = f (λ e. let z : ◌≡◌ {A = ℕ} 0 1 = cc in omega arith)
past_checks_buffer w (crew counts cells turns) n = refl
past_checks_buffer w (crew_at_work counts cells turns counters) n = refl

buffer_kept : (w : World) (k : Call) → (answers w k ≡ AllGranted → ⊥) → buffer_in (perform w k) ≡ buffer k
buffer_kept w k = performed (λ m. (m.seen.1.answer ≡ AllGranted → ⊥) → m.seen.1.grants ≡ buffer k) w k (λ r n. refl) (λ _. past_checks_buffer w k)

-- ---- a call that fails

fails_not_all : (a : Answer) → Fails a → a ≡ AllGranted → ⊥
fails_not_all a f e = subst Fails e f

fails_hands_none : (a : Answer) (b : List ℕ) (l : Hold) → Fails a → HandsOver a b l → ⊥
fails_hands_none Done b l f h = f
fails_hands_none (Cell c) b l f h = f
fails_hands_none (Granted k) b l f h = f
fails_hands_none AllGranted b l f h = f
fails_hands_none (Busy why) b l f h = h
fails_hands_none (Refused r) b l f h = h
fails_hands_none (RefusedAt r p) b l f h = h

pub calls_leave_nothing : NothingNew perform
calls_leave_nothing w k n f = (
  buffer_kept w k (fails_not_all (answers w k) f),
  λ c s before after e. elim (calls_keep_nothing w k c s before after n e) [
    | inl x ↦ absurd (fails_hands_none (answers w k) (buffer_in (perform w k)) (hold_of c s) f x.0)
    | inr y ↦ y
  ],
)
