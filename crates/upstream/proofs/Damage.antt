-- 000: `interfere`, `environment` and `environment_for_borrows` where the table is not `valid`. Nothing is refused:
-- others take no damaged cell and release none, such a step is dropped and counted; they may set its waiters.
-- ---- a cell that is not valid, through a lawful log
use Rattle.std.specs.Prelude.{ℕ, zero, suc, ◌+◌, ◌≤◌, ◌<◌, ◌*◌, ◌%◌, ◌-◌, ◌≡◌, List, [], ◌∷◌, ◌++◌, false, not, ◌&&◌, ◌||◌, ◌⊎◌, ◌≢◌, ltb, eqb, get_or, length}
use Rattle.std.proofs.Math.Path.{refl}
use Rattle.std.proofs.Common.{sym, ap, ◌∙◌, subst, inl, inr, arith, lt-ltb, ne_eqb, eqb-true, ltb-false, eq-eqb, le-ltb, length-append, get_or-append-add}
use Rattle.std.proofs.Math.Decide.{ℕ_discrete}
use Rattle.std.proofs.lemmas.Bool.{not-false}
use Rattle.std.proofs.Math.ListN.{get_or-append}
use Rattle.choice.specs.Pick.{both, neither}
use Rattle.model.specs.Log.{Made, Event, Actor, attempt_begun, boundary_run, yielded, spun, step_dropped, took, released, waiters_set, health_set, held_all_lem, added}
use Rattle.model.specs.Arena.{serial_remains, hold_of, bit_at, owner_at, set_waiters, is_free, is_live, is_in, holds_of}
use Rattle.model.specs.Calls.{counts_of, given}
use Rattle.model.specs.Foreign.{Setting, flow_of, steps_in, kind_at, place_at, number_at, drops, step_take_of, step_release_of, step_waiters_of, step_of, run_steps_of, boundary_of}
use Rattle.model.specs.Answers.{kind_of}
use Rattle.model.specs.Checks.{bad_shape, bad_health, bad_script, bad_held, script_rules}
use Rattle.types.specs.declared.Answer.TheVariants.{Done}
use Rattle.types.specs.declared.Flow.{Flow}
use Rattle.types.specs.declared.Hold.{Hold}
use Rattle.types.specs.declared.Stepped.{Stepped}
use Rattle.types.specs.declared.Head.{Head}
use Rattle.laws.specs.Words.{bit_set_other, owner_set_other, bit_set_waiters, owner_set_waiters}
use Rattle.history.specs.World as world
use Rattle.history.specs.World.{World, world_of, Legal, Lawful, now}
use Rattle.history.specs.Items.{Call, Says, environment, perform, says, Build}
use Rattle.history.specs.Statements.{leaves, log_of, answer_in, world_in}
use Rattle.history.proofs.Theorems.{lawful_always}
use Rattle.history.proofs.Logs.{next_now, lawful_split}
use Rattle.history.specs.Tests.{if_cases, free as is_free_lem, free_words, is_free_state}
use Rattle.history.specs.Steps.{of_flow, With}
use Rattle.history.specs.Judged.{past_checks, clear_fine}
use Rattle.upstream.specs.Vocabulary.{Key, Cell, Authority, next_serial, dom, contains_key, cells, ValidCell, valid}
use Rattle.upstream.specs.Premises.{valid_at, Passes}
use Rattle.upstream.proofs.Bridge.{status_valid, live_cell, by_checks}
use Rattle.upstream.proofs.Refusing.{on_damaged}
use Rattle.upstream.proofs.TryAcquire.{fine_fault}
use Rattle.upstream.specs.Damage.{Damage, DropsDamaged, waited, SetsWaiters}

-- a cell's words that are valid stay so under a later next serial
later : (n m : ℕ) (c : Cell) → n ≤ m → ValidCell n c → ValidCell m c
later n m c l v = record { bits = v.bits; owned = v.owned; below = λ s. omega (arith, v.below s) }

-- a legal event leaves its bit and owner alone
untouched : (w : Authority) (e : Event) (c : Key) → Legal w e → (ValidCell (next_serial w) (cells w c) → ⊥) → cells (world.after_event w e) c ≡ cells w c
untouched w attempt_begun c k n = refl
untouched w boundary_run c k n = refl
untouched w yielded c k n = refl
untouched w spun c k n = refl
untouched w step_dropped c k n = refl
untouched w (took a d s) c k n = go (ℕ_discrete c d)
  where
    go : Dec (c ≡ d) → cells (world.after_event w (took a d s)) c ≡ cells w c
    go (yes e) =
        let x = free_words (next_serial w) w.table d k.0.1 in
        absurd (n (status_valid (next_serial w) (cells w c) (is_free_lem (ap (bit_at w.table) e ∙ x.0) (ap (owner_at w.table) e ∙ x.1))))
    go (no e) = rw (bit_set_other w.table d 1 s c e, owner_set_other w.table d 1 s c e)
untouched w (released a d s) c k n = go (ℕ_discrete c d)
  where
    go : Dec (c ≡ d) → cells (world.after_event w (released a d s)) c ≡ cells w c
    go (yes e) = absurd (n (subst (λ z. ValidCell (next_serial w) (cells w z)) (sym e) (live_cell w (hold_of d s) k)))
    go (no e) = rw (bit_set_other w.table d 0 0 c e, owner_set_other w.table d 0 0 c e)
untouched w (waiters_set d m) c k n = rw (bit_set_waiters w.table d m c, owner_set_waiters w.table d m c)
untouched w (health_set i m) c k n = refl
untouched w (held_all_lem i) c k n = refl
untouched w (added i d x) c k n = refl

-- words that are not valid even under the last next serial were never valid on the way, and stay as they are
pub stays_damaged : (w : Authority) (es : List Event) (c : Key) → Lawful w es → (ValidCell (next_serial (now w es)) (cells w c) → ⊥) → cells (now w es) c ≡ cells w c
stays_damaged w [] c k n = refl
stays_damaged w (e ∷ es) c k n =
    let one = untouched w e c k.0 (λ v. n (later _ _ (cells w c) (omega (arith, next_now w (e ∷ es))) v)) in
    stays_damaged (world.after_event w e) es c k.1 (λ v. n (subst (ValidCell (next_serial (now w (e ∷ es)))) one v)) ∙ one

-- ---- a foreign step that meets a damaged cell

take_dropped : (w : Authority) (c : Key) → (ValidCell (next_serial w) (cells w c) → ⊥) → step_take_of (dom w) (next_serial w) w.table c ≡ drops (next_serial w) w.table
unfolding step_take_of
take_dropped w c n =
    if_cases (λ (m : Made (Stepped × List ℕ)). m ≡ drops (next_serial w) w.table) (ltb c (dom w) && is_free (bit_at w.table c) (owner_at w.table c) && serial_remains (next_serial w))
    (λ e.
    let p = both (ltb c (dom w) && is_free (bit_at w.table c) (owner_at w.table c)) (serial_remains (next_serial w)) e in
    let q = both (ltb c (dom w)) (is_free (bit_at w.table c) (owner_at w.table c)) p.0 in
    let x = free_words (next_serial w) w.table c (is_free_state (next_serial w) w.table c q.1) in
    absurd (n (status_valid (next_serial w) (cells w c) (is_free_lem x.0 x.1)))) (λ e. refl)

release_dropped : (w : Authority) (ps : List Hold) (c : Key) (s : ℕ) → (ValidCell (next_serial w) (cells w c) → ⊥)
    → step_release_of (dom w) ps (next_serial w) w.table c s ≡ drops (next_serial w) w.table
unfolding step_release_of
release_dropped w ps c s n =
    if_cases (λ (m : Made (Stepped × List ℕ)). m ≡ drops (next_serial w) w.table) (is_live (next_serial w) (dom w) w.table (hold_of c s) && not (is_in (hold_of c s) ps))
    (λ e. absurd (on_damaged w (hold_of c s) n (both (is_live (next_serial w) (dom w) w.table (hold_of c s)) (not (is_in (hold_of c s) ps)) e).0)) (λ e. refl)

-- so it is of every call, not of `environment` alone
pub damage : (w : Authority) (k : Call) → Damage w (perform w k)
damage w k =
    record {
      stays = λ c n.
          rw x.1 (stays_damaged w (log_of w k) c x.0 (subst (λ v. ValidCell (next_serial v) (cells w c) → ⊥) x.1 n));
      not_taken = λ a c s before after e.
          let q = (lawful_split w before (took a c s ∷ after) (subst (Lawful w) e x.0)).1.0 in
          let f = free_words (next_serial (now w before)) (now w before).table c q.0.1 in
          status_valid (next_serial (now w before)) (cells (now w before) c) (is_free_lem f.0 f.1);
      not_released = λ a c s before after e.
          live_cell (now w before) (hold_of c s) (lawful_split w before (released a c s ∷ after) (subst (Lawful w) e x.0)).1.0;
    }
  where
    x : Lawful w (log_of w k) × (leaves w k ≡ now w (log_of w k))
    x = lawful_always w k

-- of every call: `valid` does not come back, where the words of some cell are valid under no next serial (a bit above 1,
-- bit 1 with no owner, bit 0 with one)
pub still_damaged : (w : Authority) (k : Call) (c : Key) → ((n : ℕ) → ValidCell n (cells w c) → ⊥) → contains_key (leaves w k) c → valid (leaves w k) → ⊥
still_damaged w k c n i v =
    let same = (damage w k).stays c (n (next_serial (leaves w k))) in
    n (next_serial (leaves w k)) (subst (ValidCell (next_serial (leaves w k))) same (v c i))

pub environment_r1 : (w : Authority) (script : List ℕ) (place : ℕ) (held : List ℕ) → Damage w (perform w (environment script place held))
environment_r1 w script place held = damage w (environment script place held)

-- one turn that is no end mark
on_turn : (left : ℕ) (e : Setting) (n p d : ℕ) (t g : List ℕ) → eqb (kind_at e.script p) 5 ≡ false
    → let o = (step_of e n t g (kind_at e.script p) (place_at e.script p) (number_at e.script p)).seen in
    (run_steps_of (suc left) e (flow_of n p d) t g).seen ≡ (run_steps_of left e (flow_of o.0.next (p + 1) (d + o.0.dropped)) o.1.0 o.1.1).seen
unfolding run_steps_of
on_turn left e n p d t g k = rw k

ended : (e : Setting) (f : Flow) (t g : List ℕ) → (run_steps_of zero e f t g).seen ≡ (f, (t, g))
unfolding run_steps_of
ended e f t g = refl

module _ (h : Head) (ps : List Hold) (s x : List ℕ) where
  abbrev short : Setting
  short = given h s ps

  abbrev long : Setting
  long = given h (s ++ x) ps

  -- a step reads nothing of the script
  same_step : (n : ℕ) (t g : List ℕ) (kind place number : ℕ) → step_of long n t g kind place number ≡ step_of short n t g kind place number
  unfolding step_of
  same_step n t g kind place number = refl

  -- the longer script does what the shorter does, and then what is left
  longer : (left n p d : ℕ) (t g : List ℕ) → p + left ≡ steps_in s → ((i : ℕ) → p ≤ i → i < steps_in s → kind_at s i ≢ 5)
      → let r = (run_steps_of left short (flow_of n p d) t g).seen in
      ((run_steps_of (suc left) long (flow_of n p d) t g).seen ≡ (run_steps_of 1 long r.0 r.1.0 r.1.1).seen) × (r.0.place ≡ p + left)
  longer zero n p d t g e u = rw (ended short (flow_of n p d) t g) (refl, omega arith)
  longer (suc left) n p d t g e u =
      let a : get_or (s ++ x) (3 * p) 0 ≡ get_or s (3 * p) 0 = get_or-append s x 0 (3 * p) (omega arith) in
      let b : get_or (s ++ x) (3 * p + 1) 0 ≡ get_or s (3 * p + 1) 0 = get_or-append s x 0 (3 * p + 1) (omega arith) in
      let c : get_or (s ++ x) (3 * p + 2) 0 ≡ get_or s (3 * p + 2) 0 = get_or-append s x 0 (3 * p + 2) (omega arith) in
      let k : eqb (kind_at s p) 5 ≡ false = ne_eqb (kind_at s p) 5 (u p (omega arith) (omega arith)) in
      let o = (step_of short n t g (kind_at s p) (place_at s p) (number_at s p)).seen in
      let z : p + 1 + left ≡ p + suc left = omega arith in
      let more = longer left o.0.next (p + 1) (d + o.0.dropped) o.1.0 o.1.1 (omega arith) (λ i l. u i (omega arith)) in
      rw (on_turn left short n p d t g k) (
        on_turn (suc left) long n p d t g (rw a k)
            ∙ rw (a, b, c, same_step n t g (kind_at s p) (place_at s p) (number_at s p)) more.0,
        more.1 ∙ z,
      )

-- a script's length divides by three, and the place is in it
formed : (script : List ℕ) (place : ℕ) → (bad_script script place).applies ≡ false → (length script % 3 ≡ 0) × (place ≤ steps_in script)
formed script place e =
    let x = neither (not (eqb (length script % 3) 0) || ltb 32768 (steps_in script)) (ltb (steps_in script) place) e in
    let y = neither (not (eqb (length script % 3) 0)) (ltb 32768 (steps_in script)) x.0 in
    (eqb-true _ _ (not-false _ y.0), ltb-false _ _ x.1)

-- so it is of a script with one step more
form : (script : List ℕ) (place : ℕ) → length script % 3 ≡ 0 → steps_in script ≤ 32768 → place ≤ steps_in script → (bad_script script place).applies ≡ false
form script place e l p = rw (eq-eqb (length script % 3) 0 e, le-ltb 32768 (steps_in script) l, le-ltb (steps_in script) place p)

module _ (w : Authority) (script : List ℕ) (held : List ℕ) (c number : ℕ) where
  abbrev and_then : ℕ → Setting
  and_then kind = given w.head (script ++ (kind ∷ c ∷ number ∷ [])) (holds_of held)

  abbrev one_more : Flow → List ℕ → List ℕ → With Flow
  one_more f t g = (flow_of f.next (f.place + 1) (f.dropped + 1), (t, g))

  -- the words of the last step
  last_word : (kind p i : ℕ) → p ≡ steps_in script → length script % 3 ≡ 0 → get_or (script ++ (kind ∷ c ∷ number ∷ [])) (3 * p + i) 0 ≡ get_or (kind ∷ c ∷ number ∷ []) i 0
  last_word kind p i e q =
      let z : 3 * p + i ≡ length script + i = omega arith in
      ap (λ (j : ℕ). get_or (script ++ (kind ∷ c ∷ number ∷ [])) j 0) z ∙ get_or-append-add script (kind ∷ c ∷ number ∷ []) i 0

  last_kind : (kind p : ℕ) → p ≡ steps_in script → length script % 3 ≡ 0 → get_or (script ++ (kind ∷ c ∷ number ∷ [])) (3 * p) 0 ≡ kind
  last_kind kind p e q =
      let z : 3 * p ≡ 3 * p + 0 = omega arith in
      ap (λ (j : ℕ). get_or (script ++ (kind ∷ c ∷ number ∷ [])) j 0) z ∙ last_word kind p 0 e q

  module _ (f : Flow) (t g : List ℕ) (e : f.place ≡ steps_in script) (q : length script % 3 ≡ 0) (n : valid_at (of_flow w.head (f, (t, g))) c → ⊥) where
    take_last : (run_steps_of 1 (and_then 1) f t g).seen ≡ one_more f t g
    unfolding run_steps_of step_of
    take_last = rw (last_kind 1 f.place e q, last_word 1 f.place 1 e q, take_dropped (of_flow w.head (f, (t, g))) c n)

    release_last : (run_steps_of 1 (and_then 2) f t g).seen ≡ one_more f t g
    unfolding run_steps_of step_of
    release_last =
        rw (last_kind 2 f.place e q, last_word 2 f.place 1 e q, last_word 2 f.place 2 e q, release_dropped (of_flow w.head (f, (t, g))) (holds_of held) c number n)

    last_dropped : (kind : ℕ) → (kind ≡ 1) ⊎ (kind ≡ 2) → (run_steps_of 1 (and_then kind) f t g).seen ≡ one_more f t g
    last_dropped kind (inl k) = subst (λ (j : ℕ). (run_steps_of 1 (and_then j) f t g).seen ≡ one_more f t g) (sym k) take_last
    last_dropped kind (inr k) = subst (λ (j : ℕ). (run_steps_of 1 (and_then j) f t g).seen ≡ one_more f t g) (sym k) release_last

pub drops_damaged : DropsDamaged perform
unfolding script_rules boundary_of
drops_damaged w script place held kind c number k l u =
    by_checks (λ m. answer_in m ≡ Done → (valid_at (world_in m) c → ⊥)
    → (world_in next ≡ world_in m) × (next.seen.1.place ≡ m.seen.1.place + 1) × (next.seen.1.counts.dropped ≡ m.seen.1.counts.dropped + 1))
    w (environment script place held) (λ r e q n. absurd (omega (arith, ap kind_of q)))
    (λ e x q n.
    let s = formed script place x.1.1.0 in
    by_checks (λ y. (world_in y ≡ world_in here) × (y.seen.1.place ≡ here.seen.1.place + 1) × (y.seen.1.counts.dropped ≡ here.seen.1.counts.dropped + 1))
    w (environment (script ++ (kind ∷ c ∷ number ∷ [])) place held)
    (λ r f. absurd (fine_fault (clear_fine (bad_shape w.head w.table ∷ bad_health w.head w.health ∷ bad_script (script ++ (kind ∷ c ∷ number ∷ [])) place ∷ bad_held w.head w.table held)
    (x.0, (x.1.0, (form (script ++ (kind ∷ c ∷ number ∷ [])) place (omega (arith, many, s)) (omega (arith, many, s)) (omega (arith, many, s)), x.1.1.1)))) f))
    (λ f d. same s.0 s.1 n))
  where
    many : length (script ++ (kind ∷ c ∷ number ∷ [])) ≡ length script + 3
    many = length-append script (kind ∷ c ∷ number ∷ [])

    here : Made (World × Says)
    here = past_checks w (environment script place held)

    next : Made (World × Says)
    next = perform w (environment (script ++ (kind ∷ c ∷ number ∷ [])) place held)

    ran : With Flow
    ran = (run_steps_of (steps_in script - place) (given w.head script (holds_of held)) (flow_of (next_serial w) place 0) w.table w.health).seen

    both_ran : With Flow
    both_ran =
        (run_steps_of (steps_in (script ++ (kind ∷ c ∷ number ∷ [])) - place) (and_then w script held c number kind) (flow_of (next_serial w) place 0) w.table w.health).seen

    one : length script % 3 ≡ 0 → place ≤ steps_in script → (valid_at (of_flow w.head ran) c → ⊥)
        → both_ran ≡ (flow_of ran.0.next (ran.0.place + 1) (ran.0.dropped + 1), ran.1)
    one e p n =
        let z : steps_in (script ++ (kind ∷ c ∷ number ∷ [])) - place ≡ suc (steps_in script - place) = omega (arith, many) in
        let x = longer w.head (holds_of held) script (kind ∷ c ∷ number ∷ []) (steps_in script - place) (next_serial w) place 0 w.table w.health (omega arith) u in
        ap (λ (j : ℕ). (run_steps_of j (and_then w script held c number kind) (flow_of (next_serial w) place 0) w.table w.health).seen) z
        ∙ x.0 ∙ last_dropped w script held c number ran.0 ran.1.0 ran.1.1 (x.1 ∙ omega arith) e n kind k

    same : length script % 3 ≡ 0 → place ≤ steps_in script → (valid_at (of_flow w.head ran) c → ⊥)
        → (of_flow w.head both_ran ≡ of_flow w.head ran) × (both_ran.0.place ≡ ran.0.place + 1) × (both_ran.0.dropped ≡ ran.0.dropped + 1)
    same e p n = rw (one e p n) (refl, refl, refl)

pub sets_waiters : SetsWaiters perform
unfolding boundary_of run_steps_of step_of step_waiters_of
sets_waiters w held c number f i =
    by_checks (λ m. m.seen ≡ waited w c number) w (environment (3 ∷ c ∷ number ∷ []) 0 held) (λ r e. absurd (fine_fault f e))
    (λ e k. rw (lt-ltb c (dom w) i))
