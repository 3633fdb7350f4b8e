-- `try_lock` as the build's own calls, where at most 63 leases are held: with 64 the third boundary would be a call that holds 65, and is refused.
use Rattle.std.specs.Prelude.{ℕ, zero, suc, ◌+◌, ◌-◌, ◌/◌, ◌%◌, ◌≤◌, ◌<◌, ◌≡◌, refl, false, true, ◌≢◌, length}
use Rattle.std.proofs.Math.Path.{sym, ap, subst}
use Rattle.std.proofs.Common.{◌∙◌, zero-add, arith, leb-false}
use mathlib.Core.List.{List, [], ◌∷◌, ◌++◌, append-nil}
use Rattle.std.proofs.Math.Bool.{not}
use Rattle.std.proofs.Math.Logic.{inl, inr}
use Rattle.std.proofs.lemmas.Bool.{lt-leb, not-false}
use Rattle.model.specs.Log.{Made, Event, by_caller, attempt_begun, released}
use Rattle.model.specs.Arena.{registry_fits, shape_fits, is_in, cells_of, hold_in, holds_of, is_live, words_of}
use Rattle.model.specs.Foreign.{steps_in}
use Rattle.model.specs.Checks.{cell_rules, lease_rules, script_rules, lock_rules, bucket_rules, bad_held, bad_binding, bad_cell}
use Rattle.types.specs.declared.Answer.{Answer}
use Rattle.types.specs.declared.Answer.TheVariants.{Done, Cell, Granted, AllGranted, Busy, Refused, RefusedAt}
use Rattle.types.specs.declared.Hold.{Hold}
use Rattle.types.specs.declared.Lease.{Lease}
use Rattle.types.specs.declared.Reason.TheVariants as reason
use Rattle.types.specs.declared.Refusal.TheVariants.{Poisoned}
use Rattle.laws.specs.Shape.{shaped}
use Rattle.laws.specs.Checks.{not_stale}
use Rattle.history.specs.World.{World, Unreleased}
use Rattle.history.specs.Items.{Build, Says, says, Clear, rules, perform, try_acquire, drop_lease, environment, try_lock}
use Rattle.history.specs.Statements.{HandsOver}
use Rattle.history.proofs.Theorems.{given_live, grant_is}
use Rattle.history.specs.Tests.{In, in_first, in_right, in_cases, none_in}
use Rattle.history.specs.Events.{Fit}
use Rattle.history.specs.Logs.{Kept}
use Rattle.history.proofs.Logs.{kept_live, arena_now}
use Rattle.history.proofs.Calls.{call_kept}
use Rattle.history_exact.specs.Script.{environment_has}
use Rattle.history_exact.specs.Theorems.{place_goes}
use Rattle.history_exact.specs.Passing.{bucket_on, same_boot, holding_more, in_script, divides, leases_append}
use Rattle.history.specs.Judged.{clear_front, clear_back, clear_append, refused_so}
use Rattle.pinned.specs.Words.{Gives, IfGranted, Is, If◌Then◌Else◌, With, logged, After, Noting, health_byte, waiters, counted, freed, holds}
use Rattle.pinned.specs.Checks.{Passed, checks}
use Rattle.pinned.specs.Steps.{Takes, At, at, Runs, Boundary, releasing, ended, AfterTake, header_of}
use Rattle.pinned.specs.Statements.{left_by, place_by}
use Rattle.pinned.proofs.Decided.{holds_same, matched, decided, first_is, passed_clear}
use Rattle.pinned.specs.Same.{runs_same, takes_same, noting_same}
use Rattle.pinned.proofs.Ours.{acquire_is, drop_is, environment_is, try_lock_is}

-- ---- a boundary that begins with so many steps dropped

abbrev pub later : ℕ → Made At → Made At
later d b = logged (at b.seen.world b.seen.place (d + b.seen.dropped)) b.log

pub shift : (left : ℕ) (script : List ℕ) (ps : List Hold) (w : World) (p k d : ℕ) (b : Made At) → Runs left script ps (at w p k) b → Runs left script ps (at w p (d + k)) (later d b)
unfolding Runs
shift zero script ps w p k d b e = ap (later d) e
shift (suc left) script ps w p k d b (inl e) = inl (e.0, ap (later d) e.1)
shift (suc left) script ps w p k d b (inr (e, (s, i, (n, more, f)))) =
    inr (
      e,
      (
        s,
        i,
        (
          later d n,
          subst (λ (x : ℕ). Runs left script ps (at s.seen.0 (p + 1) x) (later d n)) (add_assoc d k s.seen.1)
              (shift left script ps s.seen.0 (p + 1) (k + s.seen.1) d n more),
          ap (later d) f,
        ),
      ),
    )
  where
    add_assoc : (a b c : ℕ) → a + (b + c) ≡ a + b + c
    add_assoc a b c = omega arith

-- where a call stands behind such a boundary
abbrev behind : World → (script : List ℕ) (place : ℕ) (held : List ℕ) → ℕ → Made At
behind w script place held d = let x = perform w (environment script place held) in logged (at (left_by x) (place_by x) (d + x.seen.1.counts.dropped)) x.log

bound_call : (w : World) (script : List ℕ) (p : ℕ) (held : List ℕ) (d : ℕ) (a : Made At) → Clear (rules w (environment script p held)) → Boundary script (holds held) (at w p d) a
    → a ≡ behind w script p held d
bound_call w script p held d a k r =
    let e = environment_is w script p held k in
    let x = e.0 in
    let m = e.1.0 in
    let s : Runs (length script / 3 - p) script (holds held) (at w p (d + 0)) (later d m) = shift (length script / 3 - p) script (holds held) w p 0 d m e.1.1 in
    let t : Runs (length script / 3 - p) script (holds held) (at w p d) (later d m) = subst (λ (n : ℕ). Runs (length script / 3 - p) script (holds held) (at w p n) (later d m)) (let z : d + 0 ≡ d = omega arith in z) s in
    noting_same (runs_same (length script / 3 - p) script (holds held) (at w p d)) a (later d x) r (later d m, t, ap (later d) e.1.2)
    ∙ ap (λ (m : Made (World × Says)). logged (at (left_by m) (place_by m) (d + m.seen.1.counts.dropped)) m.log) (sym e.2)

-- a log behind its first event
abbrev pub rest : List Event → List Event
rest [] = []
rest (e ∷ es) = es

take_call : (w : World) (c : ℕ) (t : Made (World × Answer)) → Clear (rules w (try_acquire c)) → Takes w c t
    → let z = perform w (try_acquire c) in t ≡ logged (left_by z, z.seen.1.answer) (rest z.log)
take_call w c t k r =
    let e = acquire_is w c k in
    let n = e.1.0 in
    takes_same w c t n r e.1.1
    ∙ (ap (λ (m : Made (World × Says)). logged (left_by m, m.seen.1.answer) m.log) (sym e.1.2)
    ∙ ap (λ (m : Made (World × Says)). logged (left_by m, m.seen.1.answer) (rest m.log)) (sym e.2))

free_call : (w : World) (l : Lease) → Clear (rules w (drop_lease l)) → freed w l.cell ≡ left_by (perform w (drop_lease l))
free_call w l k = ap left_by (sym (drop_is w l k))

free_log : (w : World) (l : Lease) → Clear (rules w (drop_lease l)) → (released by_caller l.cell l.serial ∷ []) ≡ (perform w (drop_lease l)).log
free_log w l k = ap (λ (m : Made (World × Says)). m.log) (sym (drop_is w l k))

-- ---- the statement

-- the calls, one after another: where each begins is what the one before left
module _ (b : Build) (w : World) (script : List ℕ) (place : ℕ) (held : List ℕ) (c : ℕ) where
  abbrev pub bounding : World → (place : ℕ) (held : List ℕ) → Made (World × Says)
  bounding v p hs = b v (environment script p hs)

  abbrev pub said : World → (boundaries dropped place : ℕ) → Answer → World × Says
  said v n d p a = (v, says a (counted 1 n 0 d) p [])

  -- behind the take, which left the world v and answered x; d steps were dropped before. "boundary (protecting the new lease)", health, waiters
  abbrev pub Granting : World → (place d : ℕ) → Answer → Made (World × Says) → Type 0
  Granting v p d x =
      IfGranted x
      (λ l.
      let u = bounding v p (held ++ (l.cell ∷ l.serial ∷ l.boot ∷ [])) in
      let back = b (left_by u) (drop_lease l) in
      let e = d + u.seen.1.counts.dropped in
      If health_byte (left_by u) (header_of (left_by u) c) ≢ 0
      Then Is (logged (said (left_by back) 3 e (place_by u) (Refused (Poisoned (header_of (left_by u) c)))) (u.log ++ back.log))
      Else If waiters (left_by u) c ≢ 0 Then Is (logged (said (left_by back) 3 e (place_by u) (Busy (reason.After l.serial))) (u.log ++ back.log))
      Else Is (logged (said (left_by u) 3 e (place_by u) (Granted l)) u.log))
      (Gives (said v 2 d p x))

  -- one attempt is begun in all: the one in the log of `try_acquire` is taken off
  abbrev pub LockCalls : Made (World × Says) → Type 0
  LockCalls =
      let x = bounding w place held in
      let y = bounding (left_by x) (place_by x) held in
      let z = b (left_by y) (try_acquire c) in
      Noting attempt_begun
      (If waiters (left_by x) c ≢ 0 Then Is (logged (said (left_by x) 1 x.seen.1.counts.dropped (place_by x) (Busy reason.Before)) x.log)
      Else With (Granting (left_by z) (place_by y) (x.seen.1.counts.dropped + y.seen.1.counts.dropped) z.seen.1.answer) λ n.
      Is (logged n.seen (x.log ++ (y.log ++ (rest z.log ++ n.log)))))

abbrev pub TryLockAsCalls : Build → Type 0
TryLockAsCalls b =
    (w : World) (script : List ℕ) (place : ℕ) (held : List ℕ) (c : ℕ) → Passed (checks w (try_lock script place held c)) → length held / 3 ≤ 63
    → LockCalls b w script place held c (b w (try_lock script place held c))

-- ---- the checks go on passing. A registry of one entry, to speak of a call by key

abbrev pub Fine : World → (script : List ℕ) (place : ℕ) (held : List ℕ) → Type 0
Fine w script p held = Clear (bucket_rules w.head w.table w.health (0 ∷ []) script p held 0)

from_lock : (w : World) (script : List ℕ) (place : ℕ) (held : List ℕ) (c : ℕ) → Clear (rules w (try_lock script place held c)) → Fine w script place held × (c < cells_of w.head)
unfolding lock_rules script_rules bucket_rules registry_fits
from_lock w script place held c k =
    let front = clear_front (bad_held w.head w.table held) (bad_cell w.head c ∷ []) k.1.1.1 in
    let back = clear_back (bad_held w.head w.table held) (bad_cell w.head c ∷ []) k.1.1.1 in (
      (k.0, (k.1.0, (refl, (k.1.1.0, clear_append (bad_held w.head w.table held) (bad_binding (0 ∷ []) 0 0 ∷ []) front (refl, tt))))),
      leb-false (cells_of w.head) c back.0,
    )

pub env_fine : (w : World) (script : List ℕ) (p : ℕ) (held : List ℕ) → Fine w script p held → Clear (rules w (environment script p held))
unfolding script_rules bucket_rules
env_fine w script p held k = (k.0, (k.1.0, (k.1.1.1.0, clear_front (bad_held w.head w.table held) _ k.1.1.1.1)))

pub fine_shape : (w : World) (script : List ℕ) (p : ℕ) (held : List ℕ) → Fine w script p held → not (shape_fits w.head (length w.table)) ≡ false
unfolding bucket_rules
fine_shape w script p held k = k.0

pub fine_place : (w : World) (script : List ℕ) (p : ℕ) (held : List ℕ) → Fine w script p held → p ≤ steps_in script
unfolding bucket_rules
fine_place w script p held k = in_script script p k.1.1.1.0

fine_held : (w : World) (script : List ℕ) (p : ℕ) (held : List ℕ) → Fine w script p held → length held % 3 ≡ 0
unfolding bucket_rules
fine_held w script p held k = divides held k.1.1.1.1.0

cell_fine : (w : World) (c : ℕ) → not (shape_fits w.head (length w.table)) ≡ false → c < cells_of w.head → Clear (rules w (try_acquire c))
unfolding cell_rules
cell_fine w c k l = (k, (lt-leb (cells_of w.head) c l, tt))

env_next : (w : World) (script : List ℕ) (p : ℕ) (held : List ℕ) → Fine w script p held
    → let x = (perform w (environment script p held)).seen in Fine x.0 script x.1.place held
env_next w script p held k =
    let m = environment script p held in
    bucket_on held (call_kept w m).kept (0 ∷ []) script p (perform w m).seen.1.place 0 (place_goes w m (environment_has script p held) (env_fine w script p held k)).1 k

kept_cells : {w v : World} {P : Hold → Type 0} {es : List Event} → Kept w P v es → cells_of v.head ≡ cells_of w.head
kept_cells {w} {es} k = ap (λ (x : World). cells_of x.head) k.leads ∙ ap cells_of (arena_now w es)

-- a compare-and-set releases nothing
take_unreleased : {w : World} {c : ℕ} {t : Made (World × Answer)} → Takes w c t → (l : Hold) → Unreleased l t.log
take_unreleased (inl (x, e)) l = subst (λ (t : Made (World × Answer)). Unreleased l t.log) (sym e) tt
take_unreleased (inr (_, inl (x, e))) l = subst (λ (t : Made (World × Answer)). Unreleased l t.log) (sym e) tt
take_unreleased (inr (_, inr (_, inl (x, e)))) l = subst (λ (t : Made (World × Answer)). Unreleased l t.log) (sym e) tt
take_unreleased (inr (_, inr (_, inr (x, e)))) l = subst (λ (t : Made (World × Answer)). Unreleased l t.log) (sym e) ((λ z. z), tt)

unreleased : (w : World) (c : ℕ) (l : Hold) → Unreleased l (perform w (try_acquire c)).log
unreleased w c l =
    let k = try_acquire c in
    elim (decided (rules w k) (checks w k) (matched w k)) [
      | inl r ↦ subst (λ (m : Made (World × Says)). Unreleased l m.log) (sym (refused_so w k r.0 (first_is (rules w k) (checks w k) r.0 (matched w k) r.1))) tt
      | inr p ↦
          let x = acquire_is w c (passed_clear (rules w k) (checks w k) (matched w k) p) in
          subst (λ (m : Made (World × Says)). Unreleased l m.log) (sym x.2)
          ((λ z. z), subst (λ (m : Made (World × Says)). Unreleased l m.log) (sym x.1.2) (take_unreleased x.1.1 l))
    ]

take_kept : (w : World) (c : ℕ) (P : Hold → Type 0) → Kept w P (perform w (try_acquire c)).seen.0 (perform w (try_acquire c)).log
take_kept w c P =
    let o = (call_kept w (try_acquire c)).kept in
    record { lawful = o.lawful; leads = o.leads; spares = λ l i v. unreleased w c l }

-- ---- behind a grant

module _ (v : World) (script : List ℕ) (p : ℕ) (hs : List ℕ) (c : ℕ) (l : Lease) (few : length hs / 3 ≤ 63) (fine : Fine v script p hs)
    (granted : (perform v (try_acquire c)).seen.1.answer ≡ Granted l) where
  abbrev now : World
  now = (perform v (try_acquire c)).seen.0

  abbrev more : List ℕ
  more = hs ++ (l.cell ∷ l.serial ∷ l.boot ∷ [])

  kept : Kept v (In (holds_of hs)) now (perform v (try_acquire c)).log
  kept = take_kept v c (In (holds_of hs))

  boot : l.boot ≡ now.head.boot
  boot = (grant_is v (try_acquire c) l granted).1 ∙ sym (same_boot hs kept)

  live : is_live now.head.next (cells_of now.head) now.table (hold_in l) ≡ true
  live = given_live v (try_acquire c) (hold_in l) (subst (λ (a : Answer). HandsOver a (perform v (try_acquire c)).seen.1.grants (hold_in l)) (sym granted) refl)

  more_fine : Fine now script p more
  unfolding words_of is_in
  more_fine =
      subst (λ (x : ℕ). Fine now script p (hs ++ (l.cell ∷ l.serial ∷ x ∷ []))) (sym boot)
      (holding_more now (0 ∷ []) script p hs 0 (hold_in l ∷ []) (omega arith)
      (λ k i. elim (in_cases (hold_in l) k [] i) [ inl e ↦ subst (λ (x : Hold). is_live now.head.next (cells_of now.head) now.table x ≡ true) e live | inr j ↦ absurd (none_in k j) ])
      (bucket_on hs kept (0 ∷ []) script p p 0 (fine_place v script p hs fine) fine))

  more_holds : holds more ≡ holds hs ++ (hold_in l ∷ [])
  unfolding words_of
  more_holds = holds_same more ∙ (leases_append l.boot hs (hold_in l ∷ []) (fine_held v script p hs fine) ∙ ap (λ (x : List Hold). x ++ (hold_in l ∷ [])) (sym (holds_same hs)))

  abbrev then : World
  then = (perform now (environment script p more)).seen.0

  drop_fine : Clear (rules then (drop_lease l))
  unfolding lease_rules
  drop_fine =
      let k = (call_kept now (environment script p more)).kept in
      let f : Fit now = record { shape = shaped now.head (length now.table) (not-false _ (fine_shape now script p more more_fine)) } in
      let i : In (holds_of more) (hold_in l) = subst (λ (x : List Hold). In x (hold_in l)) (sym more_holds ∙ holds_same more) (in_right (hold_in l) (holds hs) (hold_in l ∷ []) (in_first (hold_in l) [])) in (
        fine_shape then script (perform now (environment script p more)).seen.1.place more (env_next now script p more more_fine),
        (not_stale then.head l (boot ∙ sym (same_boot more k)), (ap not (kept_live f k (hold_in l) i live), tt)),
      )

-- ---- the calls

module _ (w : World) (script : List ℕ) (place : ℕ) (hs : List ℕ) (c : ℕ) (few : length hs / 3 ≤ 63) where
  -- what is looked at behind the third boundary, which led to y
  abbrev Looks : Lease → Made At → Made (World × Says) → Type 0
  Looks l y =
      If◌Then◌Else◌ (health_byte y.seen.world (c / y.seen.world.head.buckets) ≢ 0)
      (Is (logged (ended (releasing y.seen c) 3 (Refused (Poisoned (c / y.seen.world.head.buckets)))) (released by_caller c l.serial ∷ [])))
      (If◌Then◌Else◌ (waiters y.seen.world c ≢ 0) (Is (logged (ended (releasing y.seen c) 3 (Busy (reason.After l.serial))) (released by_caller c l.serial ∷ [])))
      (Is (logged (ended y.seen 3 (Granted l)) [])))

  -- from where the take left off
  granting : (v : World) (p d : ℕ) (R : Made (World × Says)) → Fine v script p hs
      → let z = perform v (try_acquire c) in
      (a : Answer) → z.seen.1.answer ≡ a → AfterTake script (holds hs) (at (left_by z) p d) c a R → Granting perform w script place hs c (left_by z) p d a R
  granting v p d R fine (Granted l) e (x, r, (n, t, f)) =
      let z = perform v (try_acquire c) in
      let more = hs ++ (l.cell ∷ l.serial ∷ l.boot ∷ []) in
      let s = subst (λ (ps : List Hold). Boundary script ps (at (left_by z) p d) x) (sym (more_holds v script p hs c l few fine e)) r in
      let q = bound_call (left_by z) script p more d x (env_fine (left_by z) script p more (more_fine v script p hs c l few fine e)) s in
      let u = perform (left_by z) (environment script p more) in
      let same : l.cell ≡ c = (grant_is v (try_acquire c) l e).0 in
      let ok = drop_fine v script p hs c l few fine e in
      let i : freed (left_by u) c ≡ left_by (perform (left_by u) (drop_lease l)) = ap (freed (left_by u)) (sym same) ∙ free_call (left_by u) l ok in
      let j : (released by_caller c l.serial ∷ []) ≡ (perform (left_by u) (drop_lease l)).log = ap (λ (x : ℕ). released by_caller x l.serial ∷ []) (sym same) ∙ free_log (left_by u) l ok in
      last l u (perform (left_by u) (drop_lease l)) i j n (subst (λ (y : Made At). Looks l y n) q t) (f ∙ ap (λ (y : Made At). logged n.seen (y.log ++ n.log)) q)
    where
      both : (s : ℕ) (u back : Made (World × Says)) → freed (left_by u) c ≡ left_by back → (released by_caller c s ∷ []) ≡ back.log → (a : Answer)
          → logged (said perform w script place hs c (freed (left_by u) c) 3 (d + u.seen.1.counts.dropped) (place_by u) a) (u.log ++ (released by_caller c s ∷ []))
          ≡ logged (said perform w script place hs c (left_by back) 3 (d + u.seen.1.counts.dropped) (place_by u) a) (u.log ++ back.log)
      both s u back i j a =
          ap (λ (x : World). logged (said perform w script place hs c x 3 (d + u.seen.1.counts.dropped) (place_by u) a) (u.log ++ (released by_caller c s ∷ []))) i
          ∙ ap (λ (es : List Event). logged (said perform w script place hs c (left_by back) 3 (d + u.seen.1.counts.dropped) (place_by u) a) (u.log ++ es)) j

      last : (l : Lease) (u back : Made (World × Says)) → freed (left_by u) c ≡ left_by back → (released by_caller c l.serial ∷ []) ≡ back.log
          → (n : Made (World × Says)) → Looks l (logged (at (left_by u) (place_by u) (d + u.seen.1.counts.dropped)) u.log) n → R ≡ logged n.seen (u.log ++ n.log)
          → If◌Then◌Else◌ (health_byte (left_by u) (c / (left_by u).head.buckets) ≢ 0) (Is (logged (said perform w script place hs c (left_by back) 3 (d + u.seen.1.counts.dropped) (place_by u) (Refused (Poisoned (c / (left_by u).head.buckets)))) (u.log ++ back.log)))
          (If◌Then◌Else◌ (waiters (left_by u) c ≢ 0) (Is (logged (said perform w script place hs c (left_by back) 3 (d + u.seen.1.counts.dropped) (place_by u) (Busy (reason.After l.serial))) (u.log ++ back.log)))
          (Is (logged (said perform w script place hs c (left_by u) 3 (d + u.seen.1.counts.dropped) (place_by u) (Granted l)) u.log))) R
      last l u back i j n (inl k) f =
          inl (k.0, f ∙ (ap (λ (x : Made (World × Says)). logged x.seen (u.log ++ x.log)) k.1 ∙ both l.serial u back i j (Refused (Poisoned (c / (left_by u).head.buckets)))))
      last l u back i j n (inr (o, inl k)) f =
          inr (o, inl (k.0, f ∙ (ap (λ (x : Made (World × Says)). logged x.seen (u.log ++ x.log)) k.1 ∙ both l.serial u back i j (Busy (reason.After l.serial)))))
      last l u back i j n (inr (o, inr k)) f =
          inr (
            o,
            inr (
              k.0,
              f ∙ (ap (λ (x : Made (World × Says)). logged x.seen (u.log ++ x.log)) k.1
                  ∙ ap (logged (said perform w script place hs c (left_by u) 3 (d + u.seen.1.counts.dropped) (place_by u) (Granted l))) (append-nil u.log)),
            ),
          )
  granting v p d R fine (Busy why) e t = t
  granting v p d R fine (Refused r) e t = t
  granting v p d R fine Done e t = t
  granting v p d R fine (Cell x) e t = t
  granting v p d R fine AllGranted e t = t
  granting v p d R fine (RefusedAt r q) e t = t

  -- behind the first boundary, which led to y
  abbrev FromFirst : Made At → Made (World × Says) → Type 0
  FromFirst y =
      If◌Then◌Else◌ (waiters y.seen.world c ≢ 0) (Is (logged (ended y.seen 1 (Busy reason.Before)) []))
      (After (Boundary script (holds hs) y.seen) λ d. After (Takes d.world c) λ t. AfterTake script (holds hs) (at t.0 d.place d.dropped) c t.1)

  lock_calls : Clear (rules w (try_lock script place hs c)) → LockCalls perform w script place hs c (perform w (try_lock script place hs c))
  lock_calls k =
      let o = from_lock w script place hs c k in
      let (begun, (a, r, (n, t, f)), whole) = try_lock_is w script place hs c k in
      let x = perform w (environment script place hs) in
      let first = bound_call w script place hs 0 a (env_fine w script place hs o.0) r ∙ ap (λ (d : ℕ). logged (at (left_by x) (place_by x) d) x.log) (zero-add x.seen.1.counts.dropped) in (
        begun,
        go x (env_next w script place hs o.0) (rw (kept_cells (call_kept w (environment script place hs)).kept) o.1) begun n
            (subst (λ (y : Made At). FromFirst y n) first t) (f ∙ ap (λ (y : Made At). logged n.seen (y.log ++ n.log)) first),
        whole,
      )
    where
      go : (x : Made (World × Says)) → Fine (left_by x) script (place_by x) hs → c < cells_of (left_by x).head → (R n : Made (World × Says))
          → FromFirst (logged (at (left_by x) (place_by x) x.seen.1.counts.dropped) x.log) n → R ≡ logged n.seen (x.log ++ n.log)
          → let y = perform (left_by x) (environment script (place_by x) hs) in
          let z = perform (left_by y) (try_acquire c) in
          If◌Then◌Else◌ (waiters (left_by x) c ≢ 0) (Is (logged (said perform w script place hs c (left_by x) 1 x.seen.1.counts.dropped (place_by x) (Busy reason.Before)) x.log))
          (With (Granting perform w script place hs c (left_by z) (place_by y) (x.seen.1.counts.dropped + y.seen.1.counts.dropped) z.seen.1.answer) λ n.
          Is (logged n.seen (x.log ++ (y.log ++ (rest z.log ++ n.log))))) R
      go x fine inside R n (inl i) q =
          inl (
            i.0,
            q ∙ (ap (λ (m : Made (World × Says)). logged m.seen (x.log ++ m.log)) i.1
                ∙ ap (logged (said perform w script place hs c (left_by x) 1 x.seen.1.counts.dropped (place_by x) (Busy reason.Before))) (append-nil x.log)),
          )
      go x fine inside R n (inr (none, (b, r, (m, (t, s, (g, f, u)), v)))) q =
          let y = perform (left_by x) (environment script (place_by x) hs) in
          let z = perform (left_by y) (try_acquire c) in
          let d = x.seen.1.counts.dropped + y.seen.1.counts.dropped in
          let e = bound_call (left_by x) script (place_by x) hs x.seen.1.counts.dropped b (env_fine (left_by x) script (place_by x) hs fine) r in
          let still = env_next (left_by x) script (place_by x) hs fine in
          let i : c < cells_of (left_by y).head = rw (kept_cells (call_kept (left_by x) (environment script (place_by x) hs)).kept) inside in
          let took = take_call (left_by y) c t (cell_fine (left_by y) c (fine_shape (left_by y) script (place_by y) hs still) i) (subst (λ (a : Made At). Takes a.seen.world c t) e s) in
          let f1 = subst (λ (a : Made At). AfterTake script (holds hs) (at t.seen.0 a.seen.place a.seen.dropped) c t.seen.1 g) e f in
          let f2 = subst (λ (a : Made (World × Answer)). AfterTake script (holds hs) (at a.seen.0 (place_by y) d) c a.seen.1 g) took f1 in
          inr (
            none,
            (
              g,
              granting (left_by y) (place_by y) d g still z.seen.1.answer refl f2,
              q
                  ∙ (ap (λ (a : Made (World × Says)). logged a.seen (x.log ++ a.log)) v
                  ∙ (ap (λ (a : Made (World × Says)). logged a.seen (x.log ++ (b.log ++ a.log))) u
                  ∙ (ap (λ (a : Made (World × Answer)). logged g.seen (x.log ++ (b.log ++ (a.log ++ g.log)))) took
                  ∙ ap (λ (a : Made At). logged g.seen (x.log ++ (a.log ++ (rest z.log ++ g.log)))) e))),
            ),
          )

pub try_lock_as_calls : TryLockAsCalls perform
try_lock_as_calls w script place held c p few =
    let k = try_lock script place held c in
    lock_calls w script place held c few (passed_clear (rules w k) (checks w k) (matched w k) p)
