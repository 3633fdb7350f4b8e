-- What follows from `Consumed` of a call with a script: where its place stands afterwards, that each step between has its turn, and that each
-- event by script in the log is the work of such a step.
use Rattle.std.specs.Prelude.{ℕ, ◌+◌, ◌-◌, ◌≤◌, ◌<◌, ◌≡◌, refl, List, [], ◌∷◌, ◌++◌}
use Rattle.std.proofs.Math.Path.{sym, subst}
use Rattle.std.proofs.Common.{ap, ◌∙◌, append-nil, append_assoc, get_or-append-add}
use Rattle.std.proofs.Math.Decide.{ℕ_discrete, dec_lt}
use Rattle.std.proofs.Math.Nat.{add-zero}
use native.Mathlib.Omega.{arith}
use Rattle.std.proofs.Math.ListN.{length, get_or, length-append, get_or-append}
use Rattle.model.specs.Log.{Event, by_caller, by_script, attempt_begun, boundary_run, yielded, spun, step_dropped, took, released, waiters_set, health_set, held_all_lem, added}
use Rattle.model.specs.Foreign.{steps_in, kind_at, place_at, number_at}
use Rattle.model.specs.Checks.{script_rules, lock_rules, bucket_rules, release_rules, locks_rules}
use Rattle.model.specs.Crew.{total}
use Rattle.types.specs.declared.Hold.{Hold}
use Rattle.laws.specs.Crew.{total_append}
use Rattle.history.specs.World.{World, now, Legal}
use Rattle.history.specs.Items.{Call, script_of, place_of, perform, Clear, rules}
use Rattle.history.proofs.Logs.{now_append}
use Rattle.history.proofs.Rollback.{Every, end, also, every_append, every_map, every_at}
use Rattle.history_exact.specs.Statements.{Asks, dropped, ends, looks, performed, release_it, set_health, set_waiters_lem, take_a_cell, Stepping}
use Rattle.history_exact.specs.Script.{Scripted, environment_has, try_lock_has, transactional_has, acquire_bucket_has, release_all_has, acquire_locks_has, acquire_sorted_has, place_in, Boundary, at_end, at_five, one_step, attempts_one, yields_once, spins, Consumed, at_rest, counts, takes, gives_up, boundary, PlaceGoes, Turn, EachHasItsTurn, Points, ByScriptOnly, Tally, DroppedAre}
use Rattle.history_exact.specs.Passing.{in_script}
use Rattle.history_exact.specs.Consuming.{boundary_rises, place_rises, place_inside, boundary_now, step_now}
use Rattle.history_exact.specs.ConsumingCalls.{script_consumed}

fits : (w : World) {k : Call} → Scripted k → Clear (rules w k) → place_of k ≤ steps_in (script_of k)
unfolding script_rules lock_rules bucket_rules release_rules locks_rules
fits w (environment_has script place held) c = in_script script place c.1.1.0
fits w (try_lock_has script place held d) c = in_script script place c.1.1.0
fits w (transactional_has registry script place held binding bucket) c = in_script script place c.1.1.1.0
fits w (acquire_bucket_has registry script place held binding bucket) c = in_script script place c.1.1.1.0
fits w (release_all_has script place leases) c = in_script script place c.1.1.0
fits w (acquire_locks_has registry script place held keys grants) c = in_script script place c.1.1.1.0
fits w (acquire_sorted_has registry script place held keys grants) c = in_script script place c.1.1.1.0

pub place_goes : PlaceGoes perform
place_goes w k s fine = let c = script_consumed w k s fine in (place_rises c, place_inside c (fits w s fine))

module _ {script : List ℕ} {x : ℕ} where
  -- a turn in the later part, and in the earlier part of a log
  later : {w u : World} (es : List Event) {fs : List Event} → u ≡ now w es → Turn script u fs x → Turn script w (es ++ fs) x
  later {w} {u} es {fs} q t =
      record {
        before = es ++ t.before;
        own = t.own;
        after = t.after;
        protected = t.protected;
        leaves = t.leaves;
        lost = t.lost;
        parts = ap (λ (l : List Event). es ++ l) t.parts ∙ sym (append_assoc es t.before (t.own ++ t.after));
        turn = subst (λ (v : World). Stepping v t.protected (kind_at script x) (place_at script x) (number_at script x) t.leaves t.own t.lost)
            (ap (λ (v : World). now v t.before) q ∙ sym (now_append w es t.before)) t.turn;
      }

  earlier : {w : World} {es : List Event} (fs : List Event) → Turn script w es x → Turn script w (es ++ fs) x
  earlier fs t =
      record {
        before = t.before;
        own = t.own;
        after = t.after ++ fs;
        protected = t.protected;
        leaves = t.leaves;
        lost = t.lost;
        parts = ap (λ (l : List Event). l ++ fs) t.parts ∙ append_assoc t.before (t.own ++ t.after) fs ∙ ap (λ (l : List Event). t.before ++ l) (append_assoc t.own t.after fs);
        turn = t.turn;
      }

  boundary_turn : {ps : List Hold} {p d q c : ℕ} {w v : World} {es : List Event} → Boundary script ps p d w q c v es → p ≤ x → x < q → Turn script w es x
  boundary_turn (at_end i) l m = absurd (omega arith)
  boundary_turn {ps} {p} {w = w} (at_five i k) l m =
      let z : p ≡ x = omega arith in
      record { before = []; own = []; after = []; protected = ps; leaves = w; lost = 0; parts = refl; turn = ends (subst (λ y. kind_at script y ≡ 5) z k) }
  boundary_turn {ps} {p} {w = w} (one_step {x = n} {u = u} {es = es} {fs = fs} i k s b) l m = go (ℕ_discrete p x) (λ z. boundary_turn b z m)
    where
      go : Dec (p ≡ x) → (p + 1 ≤ x → Turn script u fs x) → Turn script w (es ++ fs) x
      go (yes z) r =
          record {
            before = [];
            own = es;
            after = fs;
            protected = ps;
            leaves = u;
            lost = n;
            parts = refl;
            turn = subst (λ y. Stepping w ps (kind_at script y) (place_at script y) (number_at script y) u es n) z s;
          }
      go (no z) r = later es (step_now s) (r (omega arith))

  pub turns : {ps rs : List Hold} {p d q c : ℕ} {w v : World} {es : List Event} → Consumed Legal script ps p d w rs q c v es → p ≤ x → x < q → Turn script w es x
  turns at_rest l m = absurd (omega arith)
  turns (counts attempts_one k) l m = later (attempt_begun ∷ []) refl (turns k l m)
  turns (counts yields_once k) l m = later (yielded ∷ []) refl (turns k l m)
  turns (counts spins k) l m = later (spun ∷ []) refl (turns k l m)
  turns (takes h o k) l m = later (took by_caller h.cell h.serial ∷ []) refl (turns k l m)
  turns (gives_up h o k) l m = later (released by_caller h.cell h.serial ∷ []) refl (turns k l m)
  turns {w = w} (boundary {x = y} {u = u} {es = es} {fs = fs} b k) l m = go (dec_lt x y) (λ z. turns k z m)
    where
      go : Dec (x < y) → (y ≤ x → Turn script u fs x) → Turn script w (boundary_run ∷ (es ++ fs)) x
      go (yes z) r = later (boundary_run ∷ []) refl (earlier fs (boundary_turn b l z))
      go (no z) r = later (boundary_run ∷ []) refl (later es (boundary_now b) (r (omega arith)))

pub each_has_its_turn : EachHasItsTurn perform
each_has_its_turn w k s fine x l m = turns (script_consumed w k s fine) l m

module _ (script : List ℕ) where
  -- between two places that lie further apart
  wider : {p q o r : ℕ} (e : Event) → o ≤ p → q ≤ r → Points script p q e → Points script o r e
  wider attempt_begun l m a = a
  wider boundary_run l m a = a
  wider yielded l m a = a
  wider spun l m a = a
  wider step_dropped l m a = (a.0, omega (arith, a.1), omega (arith, a.2))
  wider (took by_caller c s) l m a = a
  wider (took by_script c s) l m a = (a.0, omega (arith, a.1), omega (arith, a.2), a.3, a.4)
  wider (released by_caller c s) l m a = a
  wider (released by_script c s) l m a = (a.0, omega (arith, a.1), omega (arith, a.2), a.3, a.4, a.5)
  wider (waiters_set c n) l m a = (a.0, omega (arith, a.1), omega (arith, a.2), a.3, a.4, a.5)
  wider (health_set i n) l m a = (a.0, omega (arith, a.1), omega (arith, a.2), a.3, a.4, a.5)
  wider (held_all_lem i) l m a = a
  wider (added i d x) l m a = a

  all_wider : {p q o r : ℕ} {es : List Event} → o ≤ p → q ≤ r → Every (Points script p q) es → Every (Points script o r) es
  all_wider l m = every_map (λ e. wider e l m)

  asked : {w : World} {kind place number : ℕ} {e : Event} (p : ℕ) → Asks w kind place number e → kind_at script p ≡ kind → place_at script p ≡ place → number_at script p ≡ number
      → Points script p (p + 1) e
  asked p (take_a_cell c n) k a b = (p, omega arith, omega arith, k, a)
  asked p (release_it c s) k a b = (p, omega arith, omega arith, k, a, b)
  asked p (set_waiters_lem c n) k a b = (p, omega arith, omega arith, k, a, b)
  asked p (set_health i n) k a b = (p, omega arith, omega arith, k, a, b)

  step_points : {ps : List Hold} {w v : World} {x : ℕ} {es : List Event} (p : ℕ)
      → Stepping w ps (kind_at script p) (place_at script p) (number_at script p) v es x → Every (Points script p (p + 1)) es
  step_points p (looks z) = end
  step_points p (ends z) = end
  step_points p (performed e a l) = also e (asked p a refl refl refl) end
  step_points p (dropped i j n) = also step_dropped (p, omega arith, omega arith) end

  boundary_points : {ps : List Hold} {p d q c : ℕ} {w v : World} {es : List Event} → Boundary script ps p d w q c v es → Every (Points script p q) es
  boundary_points (at_end i) = end
  boundary_points (at_five i k) = end
  boundary_points {p = p} (one_step {q = q} {es = es} {fs = fs} i k s b) =
      every_append (all_wider (omega arith) (boundary_rises b) (step_points p s)) (all_wider (omega arith) (omega arith) (boundary_points b))

  points : {ps rs : List Hold} {p d q c : ℕ} {w v : World} {es : List Event} → Consumed Legal script ps p d w rs q c v es → Every (Points script p q) es
  points at_rest = end
  points (counts attempts_one k) = also _ tt (points k)
  points (counts yields_once k) = also _ tt (points k)
  points (counts spins k) = also _ tt (points k)
  points (takes l o k) = also _ tt (points k)
  points (gives_up l o k) = also _ tt (points k)
  points {p = p} {q = q} (boundary {es = es} {fs = fs} b k) =
      also boundary_run tt (every_append (all_wider (omega arith) (place_rises k) (boundary_points b)) (all_wider (boundary_rises b) (omega arith) (points k)))

pub by_script_only : ByScriptOnly perform
by_script_only w k e before after s fine q =
    every_at e before after (subst (Every (Points (script_of k) (place_of k) (place_in (perform w k)))) q (points (script_of k) (script_consumed w k s fine)))

module _ {script : List ℕ} where
  no_marks : {w : World} {p d : ℕ} → Tally script w [] p p d d
  unfolding total
  no_marks = record { marks = []; as_many = omega arith; sum = omega arith; each = λ n l. absurd (omega arith) }

  -- a tally in the later part of a log
  tally_later : {w u : World} {p q d c : ℕ} (es : List Event) {fs : List Event} → u ≡ now w es → Tally script u fs p q d c → Tally script w (es ++ fs) p q d c
  unfolding later
  tally_later es q t = record { marks = t.marks; as_many = t.as_many; sum = t.sum; each = λ n l. let x = t.each n l in (later es q x.0, x.1) }

  -- one behind the other
  tally_then : {w u : World} {p x q d y c : ℕ} (es fs : List Event) → u ≡ now w es → Tally script w es p x d y → Tally script u fs x q y c → Tally script w (es ++ fs) p q d c
  unfolding later earlier
  tally_then {w} {u} {p} {x} {q} es fs z a b =
      record {
        marks = a.marks ++ b.marks;
        as_many = omega (arith, a.as_many, b.as_many, length-append a.marks b.marks);
        sum = omega (arith, a.sum, b.sum, total_append a.marks b.marks);
        each = λ n l. go n l (dec_lt n (length a.marks));
      }
    where
      go : (n : ℕ) → n < length (a.marks ++ b.marks) → Dec (n < length a.marks) → (t : Turn script w (es ++ fs) (p + n)) × (t.lost ≡ get_or (a.marks ++ b.marks) n 0)
      go n l (yes i) = let k = a.each n i in (earlier fs k.0, k.1 ∙ sym (get_or-append a.marks b.marks 0 n i))
      go n l (no i) =
          let m = n - length a.marks in
          let k = b.each m (omega (arith, length-append a.marks b.marks)) in
          let e : x + m ≡ p + n = omega (arith, a.as_many) in
          let e' : length a.marks + m ≡ n = omega arith in
          subst (λ (v : ℕ). (t : Turn script w (es ++ fs) v) × (t.lost ≡ get_or (a.marks ++ b.marks) n 0)) e
          (later es z k.0, k.1 ∙ sym (get_or-append-add a.marks b.marks m 0) ∙ rw e')

  -- one step
  one_mark : {w v : World} {ps : List Hold} {p d x : ℕ} {es : List Event} → Stepping w ps (kind_at script p) (place_at script p) (number_at script p) v es x
      → Tally script w es p (p + 1) d (d + x)
  unfolding total
  one_mark {w} {v} {ps} {p} {d} {x} {es} s =
      record { marks = x ∷ []; as_many = omega arith; sum = omega arith; each = λ n l. go n l }
    where
      go : (n : ℕ) → n < length (x ∷ []) → (t : Turn script w es (p + n)) × (t.lost ≡ get_or (x ∷ []) n 0)
      go n l =
          let z : n ≡ 0 = omega arith in
          rw (z, add-zero p)
          (record { before = []; own = es; after = []; protected = ps; leaves = v; lost = x; parts = sym (append-nil es); turn = s }, refl)

  boundary_tally : {ps : List Hold} {p d q c : ℕ} {w v : World} {es : List Event} → Boundary script ps p d w q c v es → Tally script w es p q d c
  boundary_tally (at_end i) = no_marks
  boundary_tally {ps = ps} {p = p} {d = d} {w = w} (at_five i k) = rw (add-zero d) at (one_mark {w = w} {v = w} {ps = ps} {p = p} {d = d} (ends k))
  boundary_tally (one_step {es = es} {fs = fs} i k s b) = tally_then es fs (step_now s) (one_mark s) (boundary_tally b)

  tally : {ps rs : List Hold} {p d q c : ℕ} {w v : World} {es : List Event} → Consumed Legal script ps p d w rs q c v es → Tally script w es p q d c
  tally at_rest = no_marks
  tally (counts attempts_one k) = tally_later (attempt_begun ∷ []) refl (tally k)
  tally (counts yields_once k) = tally_later (yielded ∷ []) refl (tally k)
  tally (counts spins k) = tally_later (spun ∷ []) refl (tally k)
  tally (takes l o k) = tally_later (took by_caller l.cell l.serial ∷ []) refl (tally k)
  tally (gives_up l o k) = tally_later (released by_caller l.cell l.serial ∷ []) refl (tally k)
  tally (boundary {es = es} {fs = fs} b k) = tally_later (boundary_run ∷ []) refl (tally_then es fs (boundary_now b) (boundary_tally b) (tally k))

pub dropped_are : DroppedAre perform
dropped_are w k s fine = tally (script_consumed w k s fine)
