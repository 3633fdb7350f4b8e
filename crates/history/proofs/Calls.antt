-- Each call of document 01: refused, it changes nothing; else its log is lawful, leads to the world it leaves, and spares its held list.
use Prim.Native.Nat.{ℕ, zero, suc, ◌+◌, ◌*◌, ◌≤◌, ◌<◌}
use Rattle.std.specs.Prelude.{◌≡◌, refl, false, not, ◌⊎◌, length, take}
use Rattle.std.proofs.Common.{sym, ◌∙◌, subst, inl, inr, arith}
use mathlib.Core.List.{List, [], ◌∷◌, ◌++◌, append-nil, map}
use Rattle.std.proofs.Math.Decide.{dec_lt}
use Rattle.std.proofs.Math.Seq.{append_snoc}
use borrow.Author.Tests.{leb-false, not-false}
use Rattle.model.specs.Log.{Made, by_caller, attempt_begun, released, Event}
use Rattle.model.specs.Arena.{cells_of, shape_fits, set_cell, hold_in, is_live, is_in, leases_of, holds_of}
use Rattle.model.specs.Foreign.{flow_of}
use Rattle.model.specs.Lock.{hold_at, no_hold, answer_of, settled, attempt_limit, none_yet}
use Rattle.model.specs.Checks.{count_in, lease_count, bad_shape, bad_held, bad_cell, not_releasable, cell_rules, lease_rules, held_cell_rules, held_lease_rules, script_rules, lock_rules, bucket_rules, release_rules, locks_rules}
use Rattle.model.specs.Calls.{starting, acquire_of}
use Rattle.model.specs.Sorted.{cells_sorted, sorted_keys, first_key}
use Rattle.model.specs.Crew.{crew_rules, rests, adds, crew_at_work_rules}
use Rattle.types.specs.declared.Head.{Head}
use Rattle.types.specs.declared.Hold.{Hold}
use Rattle.types.specs.declared.Lease.{Lease}
use Rattle.types.specs.declared.Outcome.{Outcome}
use Rattle.laws.specs.Shape.{shaped}
use Rattle.laws.specs.Lists.{holds_are, as_many}
use Rattle.history.specs.World.{World, world_of, cells, Live, Lawful, Unreleased, now}
use Rattle.history.specs.Items.{Call, Says, try_acquire, drop_lease, read_permission, competing_acquire, release_then_handoff, foreign_release, drop_preserving, acquire_preserving, environment, try_lock, transactional, acquire_bucket, release_all, acquire_locks, acquire_sorted, crew, crew_at_work, perform, held_of, Clear, rules}
use Rattle.history.specs.Statements.{HandsOver, HeldLive, log_of}
use Rattle.history.specs.Tests.{differ, In, in_take}
use Rattle.history.specs.Events.{Fit, lives, good}
use Rattle.history.specs.Logs.{Kept}
use Rattle.history.proofs.Logs.{nothing, event, kept_fit, kept_live, weaken, chain, ended, lawful_split, unreleased_front, keep_now}
use Rattle.history.specs.Judged.{clear_back, judged_at, reply, seen_as, past_checks, performed}
use Rattle.history.specs.Steps.{Won, won, none_yet_lem, no_more}
use Rattle.history.proofs.Steps.{Gains, followed, won_of, boundary_kept, take_kept, lock_kept, attempt_kept, retry_kept}
use Rattle.history.specs.Many.{Held, Taken}
use Rattle.history.proofs.Many.{give_back_kept, locks_kept}
use Rattle.history.proofs.Crew.{crew_kept, crew_plan, crew_at_work_plan}
use Rattle.history.proofs.Shared.{handed_inner}

-- ---- the leases that `release_all` is given

module _ (h : Head) (t g : List ℕ) where
  releasable_live : (i : ℕ) (earlier : List Hold) (ls : List Lease) → Clear (not_releasable h t i earlier ls)
      → (j : ℕ) → j < length ls → Live (world_of h t g) (hold_at (map hold_in ls) j)
  unfolding not_releasable
  releasable_live i earlier [] c j k = absurd (omega arith)
  releasable_live i earlier (l ∷ ls) c zero k = not-false (is_live h.next (cells_of h) t (hold_in l)) c.1.0
  releasable_live i earlier (l ∷ ls) c (suc j) k = releasable_live (i + 1) (earlier ++ (hold_in l ∷ [])) ls c.1.1.1 j (omega arith)

  releasable_new : (i : ℕ) (earlier : List Hold) (ls : List Lease) → Clear (not_releasable h t i earlier ls)
      → (j : ℕ) → j < length ls → is_in (hold_at (map hold_in ls) j) (earlier ++ take j (map hold_in ls)) ≡ false
  unfolding not_releasable
  releasable_new i earlier [] c j k = absurd (omega arith)
  releasable_new i earlier (l ∷ ls) c zero k = rw (append-nil earlier) c.1.1.0
  releasable_new i earlier (l ∷ ls) c (suc j) k =
      rw append_snoc at (releasable_new (i + 1) (earlier ++ (hold_in l ∷ [])) ls c.1.1.1 j (omega arith))

  pub releasable : (n : ℕ) (ws : List ℕ) → n ≤ length (holds_of ws) → Clear (not_releasable h t 0 [] (leases_of ws)) → Held (world_of h t g) n (holds_of ws)
  releasable n ws f c =
      record {
        enough = f;
        all_live = λ i k. subst (λ (ls : List Hold). Live (world_of h t g) (hold_at ls i)) (sym (holds_are ws)) (releasable_live 0 [] (leases_of ws) c i (omega (arith, as_many ws)));
        distinct = λ i j a b e. go i j a b e (dec_lt i j) (dec_lt j i);
      }
    where
      new : (j : ℕ) → j < length (holds_of ws) → is_in (hold_at (holds_of ws) j) (take j (holds_of ws)) ≡ false
      new j k =
          subst (λ (ls : List Hold). is_in (hold_at ls j) (take j ls) ≡ false) (sym (holds_are ws)) (releasable_new 0 [] (leases_of ws) c j (omega (arith, as_many ws)))

      clash : (i j : ℕ) → i < j → j < n → hold_at (holds_of ws) i ≡ hold_at (holds_of ws) j → ⊥
      clash i j a b e = differ (sym (new j (omega arith)) ∙ subst (In (take j (holds_of ws))) e (in_take (holds_of ws) j i no_hold a (omega arith)))

      go : (i j : ℕ) → i < n → j < n → hold_at (holds_of ws) i ≡ hold_at (holds_of ws) j → Dec (i < j) → Dec (j < i) → i ≡ j
      go i j a b e (yes p) q = absurd (clash i j p b e)
      go i j a b e (no p) (yes q) = absurd (clash j i q a (sym e))
      go i j a b e (no p) (no q) = omega arith

pub words_leases : (ws : List ℕ) → length ws ≤ 3 * length (holds_of ws) + 2
unfolding holds_of
words_leases [] = omega arith
words_leases (c ∷ []) = omega arith
words_leases (c ∷ s ∷ []) = omega arith
words_leases (c ∷ s ∷ b ∷ ws) = omega (arith, words_leases ws)

-- ---- what is handed over is live

live_won : (boot : ℕ) {n : ℕ} {v : World} {o : Outcome} → Won n v o → (l : Hold) → HandsOver (answer_of boot o) [] l → Live v l
live_won boot {v = v} (won k x i) l e = subst (Live v) e x
live_won boot none_yet_lem l e = absurd e
live_won boot (no_more r) l e = absurd e

live_settled : (boot : ℕ) {n : ℕ} {v : World} {o : Outcome} → Won n v o → (l : Hold) → HandsOver (answer_of boot (settled o)) [] l → Live v l
live_settled boot {v = v} (won k x i) l e = subst (Live v) e x
live_settled boot none_yet_lem l e = absurd e
live_settled boot (no_more r) l e = absurd e

-- ---- each call

-- its log is lawful, leads to the world it leaves and spares what is P, and every lease that it hands over is live then
abbrev pub Said : World → (Hold → Type 0) → Made (World × Says) → Type 0
Said = Gains (λ a. a.0) (λ a. (l : Hold) → HandsOver a.1.answer a.1.grants l → Live a.0 l)

module _ (w : World) (good : Fit w) where
  acquire_kept : (P : Hold → Type 0) (n c : ℕ) → c < cells w → Said w P (seen_as (reply w) (acquire_of n w.head w.table c))
  unfolding acquire_of
  acquire_kept P n c l =
      let k = take_kept w.head [] P w.head.next w.table w.health c good l in
      record { kept = chain good (event attempt_begun tt (λ l i v x. x)) (ended k.kept); gain = live_won w.head.boot (won_of k.gain) }

  -- a release that spares what is not the lease
  release_kept : (P : Hold → Type 0) (l : Hold) → Live w l → ((k : Hold) → P k → k ≡ l → ⊥)
      → Kept w P (world_of w.head (set_cell w.table l.cell 0 0) w.health) (released by_caller l.cell l.serial ∷ [])
  release_kept P l v n = event (released by_caller l.cell l.serial) v (λ k p _ x. n k p x)

  is_live_lem : (l : Hold) → not (is_live w.head.next (cells w) w.table l) ≡ false → Live w l
  is_live_lem l e = not-false (is_live w.head.next (cells w) w.table l) e

  inside : (l : Hold) → not (is_live w.head.next (cells w) w.table l) ≡ false → l.cell < cells w
  inside l e = (lives w l (is_live_lem l e)).in_range

-- a lease that may be released beside a held list
apart_from : (held : List ℕ) (l : Hold) → is_in l (holds_of held) ≡ false → (k : Hold) → In (holds_of held) k → k ≡ l → ⊥
apart_from held l n k i e = differ (sym n ∙ subst (In (holds_of held)) e i)

-- a multi-lock begins with nothing taken
none_taken : (w : World) → Taken w w.head.next []
none_taken w =
    record {
      are_held = record { enough = omega arith; all_live = λ i x. absurd (omega arith); distinct = λ i j x. absurd (omega arith) };
      young = λ i x. absurd (omega arith);
    }

past_checks_kept : (w : World) (k : Call) → Fit w → Clear (rules w k) → Said w (In (held_of k)) (past_checks w k)
unfolding cell_rules lease_rules held_cell_rules held_lease_rules lock_rules release_rules is_in acquire_of
past_checks_kept w (try_acquire c) g k = acquire_kept w g (In []) 1 c (leb-false (cells w) c k.1.0)
past_checks_kept w (drop_lease l) g k = record { kept = release_kept w g (In []) (hold_in l) (is_live_lem w g (hold_in l) k.1.1.0) (λ _ i _. differ i); gain = λ l x. absurd x }
past_checks_kept w (read_permission l) g k = record { kept = nothing; gain = λ l x. absurd x }
past_checks_kept w (competing_acquire l) g k = acquire_kept w g (In []) 1 l.cell (inside w g (hold_in l) k.1.1.0)
past_checks_kept w (release_then_handoff l) g k =
    let a = release_kept w g (In []) (hold_in l) (is_live_lem w g (hold_in l) k.1.1.0) (λ _ i _. differ i) in
    followed g a (acquire_kept (world_of w.head (set_cell w.table l.cell 0 0) w.health) (kept_fit g a) (In []) 1 l.cell (inside w g (hold_in l) k.1.1.0))
past_checks_kept w (foreign_release held l) g k =
    let c = clear_back (bad_shape w.head w.table ∷ bad_held w.head w.table held) _ k in
    let m = (acquire_of 1 w.head w.table l.cell).seen in
    let v = world_of m.0.head m.1 w.health in
    let a = (acquire_kept w g (λ _. Unit {0}) 1 l.cell (inside w g (hold_in l) c.1.0)).kept in
    let g₁ = kept_fit g a in
    let b = release_kept v g₁ (In (holds_of held)) (hold_in l) (kept_live g a (hold_in l) tt (is_live_lem w g (hold_in l) c.1.0)) (apart_from held (hold_in l) c.1.1.0) in
    followed g (weaken (λ _ _ _. tt) a)
    (followed g₁ b (acquire_kept (world_of m.0.head (set_cell m.1 l.cell 0 0) w.health) (kept_fit g₁ b) (In (holds_of held)) 2 l.cell (inside w g (hold_in l) c.1.0)))
past_checks_kept w (drop_preserving held l) g k =
    let c = clear_back (bad_shape w.head w.table ∷ bad_held w.head w.table held) _ k in
    record { kept = release_kept w g (In (holds_of held)) (hold_in l) (is_live_lem w g (hold_in l) c.1.0) (apart_from held (hold_in l) c.1.1.0); gain = λ l x. absurd x }
past_checks_kept w (acquire_preserving held c) g k =
    acquire_kept w g (In (holds_of held)) 1 c (leb-false (cells w) c (clear_back (bad_shape w.head w.table ∷ bad_held w.head w.table held) _ k).0)
past_checks_kept w (environment script place held) g k =
    record { kept = (boundary_kept w.head script (holds_of held) (flow_of w.head.next place 0) w.table w.health g).kept; gain = λ l x. absurd x }
past_checks_kept w (try_lock script place held c) g k =
    let inside = (clear_back (script_rules w.head w.table w.health script place held) (bad_cell w.head c ∷ []) k).0 in
    let m = lock_kept w.head script (holds_of held) (flow_of w.head.next place 0) w.table w.health c g (leb-false (cells w) c inside) in
    record { kept = chain g (event attempt_begun tt (λ l i v x. x)) m.kept; gain = live_won w.head.boot (won_of m.gain) }
past_checks_kept w (transactional registry script place held binding bucket) g k =
    let m = attempt_kept w.head script (holds_of held) registry binding bucket (starting w.head place) w.table w.health g in
    record { kept = m.kept; gain = live_won w.head.boot m.gain }
past_checks_kept w (acquire_bucket registry script place held binding bucket) g k =
    let m = retry_kept w.head script attempt_limit 0 none_yet (holds_of held) registry binding bucket (starting w.head place) w.table w.health g in
    record { kept = m.kept; gain = live_settled w.head.boot m.gain }
past_checks_kept w (release_all script place leases) g k =
    let held = releasable w.head w.table w.health (lease_count leases) leases (omega (arith, words_leases leases)) k.1.1.1.1 in
    let m = give_back_kept w.head script (lease_count leases) [] (holds_of leases) (starting w.head place) w.table w.health g held in
    record { kept = weaken (λ l i v. absurd (differ i)) m.kept; gain = λ l x. absurd x }
past_checks_kept w (acquire_locks registry script place held keys grants) g k =
    let m = locks_kept w.head script (count_in keys) 0 (holds_of held) [] registry keys (starting w.head place) w.table w.health grants w.head.next g (omega arith) (none_taken w) in
    record { kept = weaken (λ l i v. (i, (lives w l v).high)) m.kept; gain = m.gain }
past_checks_kept w (acquire_sorted registry script place held keys grants) g k =
    let n = length (cells_sorted w.head.buckets registry keys) in
    let chosen = sorted_keys w.head.buckets registry keys in
    let m = locks_kept w.head script n 0 (holds_of held) [] registry chosen (starting w.head place) w.table w.health grants w.head.next g (omega arith) (none_taken w) in
    judged_at (Said w (In (holds_of held))) (first_key (count_in keys) 0 w.head registry keys) (λ r p _. record { kept = nothing; gain = λ l x. absurd x })
    (λ _. record { kept = weaken (λ l i v. (i, (lives w l v).high)) m.kept; gain = λ l x. m.gain l (handed_inner w registry script place held keys grants l x) })
past_checks_kept w (crew counts lists turns) g k =
    record { kept = crew_kept rests w.head w.table w.health counts lists turns [] g (crew_plan _ _ _ counts lists turns k); gain = λ l x. absurd x }
past_checks_kept w (crew_at_work counts lists turns counters) g k =
    record { kept = crew_kept adds w.head w.table w.health counts lists turns counters g (crew_at_work_plan _ _ _ counts lists turns counters k); gain = λ l x. absurd x }

-- the first check of every call is the shape
pub clear_fit : (w : World) (k : Call) → Clear (rules w k) → Fit w
unfolding cell_rules lease_rules held_cell_rules held_lease_rules script_rules lock_rules bucket_rules release_rules locks_rules crew_rules crew_at_work_rules
clear_fit w k c = record { shape = shaped w.head (length w.table) (not-false (shape_fits w.head (length w.table)) (first_clear k c)) }
  where
    first_clear : (k : Call) → Clear (rules w k) → not (shape_fits w.head (length w.table)) ≡ false
    first_clear (try_acquire c) k = k.0
    first_clear (drop_lease l) k = k.0
    first_clear (read_permission l) k = k.0
    first_clear (competing_acquire l) k = k.0
    first_clear (release_then_handoff l) k = k.0
    first_clear (foreign_release held l) k = k.0
    first_clear (drop_preserving held l) k = k.0
    first_clear (acquire_preserving held c) k = k.0
    first_clear (environment script place held) k = k.0
    first_clear (try_lock script place held c) k = k.0
    first_clear (transactional registry script place held binding bucket) k = k.0
    first_clear (acquire_bucket registry script place held binding bucket) k = k.0
    first_clear (release_all script place leases) k = k.0
    first_clear (acquire_locks registry script place held keys grants) k = k.0
    first_clear (acquire_sorted registry script place held keys grants) k = k.0
    first_clear (crew counts lists turns) k = k.0
    first_clear (crew_at_work counts lists turns counters) k = k.0

-- a call whose shape does not fit does nothing
pub call_fit : (w : World) (k : Call) → (log_of w k ≡ []) ⊎ Fit w
call_fit w k = performed (λ m. (m.log ≡ []) ⊎ Fit w) w k (λ r. inl refl) (λ c. inr (clear_fit w k c))

-- whatever the arena holds: a call whose shape does not fit is refused
pub call_kept : (w : World) (k : Call) → Said w (In (held_of k)) (perform w k)
call_kept w k = performed (Said w (In (held_of k))) w k (λ r. record { kept = nothing; gain = λ l x. absurd x }) (λ c. past_checks_kept w k (clear_fit w k c) c)

-- what is held is spared at every point

-- an empty log has no parts
no_front : (xs ys : List Event) → [] ≡ xs ++ ys → xs ≡ []
no_front [] ys e = refl
no_front (x ∷ xs) ys e = let z : ◌≡◌ {A = ℕ} 0 1 = cc in absurd (omega arith)

-- what holds at the beginning of a call's log, and at every point of it if the shape fits, holds at every point
pub at_point : (P : List Event → Type 0) (w : World) (k : Call) (before after : List Event) → log_of w k ≡ before ++ after
    → P [] → (Fit w → Lawful w before → P before) → P before
at_point P w k before after e z f = go (call_fit w k)
  where
    go : (log_of w k ≡ []) ⊎ Fit w → P before
    go (inl n) = subst P (sym (no_front before after (sym n ∙ e))) z
    go (inr g) = f g (lawful_split w before after (subst (Lawful w) e (call_kept w k).kept.lawful)).0

pub calls_spare_held : HeldLive perform
calls_spare_held w k l before after i v e =
    at_point (λ (es : List Event). Live (now w es) l) w k before after e v
    (λ g m. keep_now w before l g m v (unreleased_front l before after (subst (Unreleased l) e ((call_kept w k).kept.spares l i v))))
