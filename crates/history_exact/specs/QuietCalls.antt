-- The script is at its end and the checks found nothing: what `try_lock`, `transactional_try_lock_bucket` and `acquire_index_bucket` must
-- answer, by a table each. Every row gives the answer, all counts, the place and the world afterwards.
use Rattle.std.specs.Prelude.{ℕ, suc, ◌+◌, ◌*◌, ◌≤◌, ◌<◌, ◌≡◌, refl, List, [], false, ◌↔◌, leb, get_or, Ok, Err}
use Rattle.std.proofs.Common.{sym, ap, ◌∙◌, subst, zero-add, arith, leb-true, leb-false, eqb-true}
use Rattle.std.proofs.lemmas.Bool.{eqb-false, not-true, not-false}
use Rattle.types.specs.Checks.{Found}
use Rattle.model.specs.Arena.{spent_to, header_of, is_poisoned, holds_of, owner_at}
use Rattle.model.specs.Foreign.{Setting, steps_in, flow_of}
use Rattle.model.specs.Lock.{locked_of, lock_of, answer_of, settled, run_of, tried_of, find_of, attempt_at, attempt_of, is_busy, none_yet, retry_of}
use Rattle.model.specs.Calls.{counts_of, given, starting}
use Rattle.types.specs.declared.Answer.{Answer}
use Rattle.types.specs.declared.Answer.TheVariants.{Granted, Busy, Refused}
use Rattle.types.specs.declared.Flow.{Flow}
use Rattle.types.specs.declared.Lease.{Lease}
use Rattle.types.specs.declared.Locked.{Locked}
use Rattle.types.specs.declared.Outcome.TheVariants as outcome
use Rattle.types.specs.declared.Reason.{Reason}
use Rattle.types.specs.declared.Reason.TheVariants as reason
use Rattle.types.specs.declared.Refusal.TheVariants.{BadHeader, Poisoned, InvalidBucket, Damaged, SerialsSpent, SerializationFailure}
use Rattle.types.specs.declared.Run.{Run}
use Rattle.types.specs.declared.Tried.{Tried}
use Rattle.laws.specs.Keys.{header_of_key_lem}
use Rattle.laws.specs.Outcomes.{retry_first}
use Rattle.history.specs.Judged.{made_so}
use Rattle.history.specs.World.{World, world_of, Healthy}
use Rattle.history.specs.Items.{Says, says, perform, cell_of, try_lock, transactional, acquire_bucket}
use Rattle.history.specs.Tests.{if_cases}
use Rattle.history.specs.Steps.{With}
use Rattle.history_exact.specs.Statements.{PerCell, sick_cell, sound_cell, Ready, AcquireBucketExactly, AcquireBucketQuiet, ByKey, Names, Quietly, TransactionalQuiet, TryLockExactly, TryLockQuiet, bad_header, LocksExactly, at_waited, busy_after, failed_after, is_poisoned_lem, at_held, bad_bucket, at_damaged, names, at_spent, at_free}
use Rattle.history_exact.specs.Quiet.{QuietLock, was_waited, was_held, was_damaged, was_spent, was_free, was_sick, lock_quiet, yields_in, yields_are, busy_retry}

-- ---- proofs

-- one attempt, as a call says it
abbrev said : World → With Tried → World × Says
said w m = (world_of (spent_to w.head m.0.run.flow.next) m.1.0 m.1.1, says (answer_of w.head.boot m.0.outcome) (counts_of m.0.run.attempts m.0.run.boundaries m.0.run.yields m.0.run.flow.dropped) m.0.run.flow.place [])

-- one quiet try_lock in a run with a attempts and x boundaries before
abbrev after : ℕ → ℕ → ℕ → With Locked → With Tried
after a x y k = (tried_of (run_of k.0.flow (a + 1) (x + k.0.boundaries) y) k.0.answer, k.1)

-- what one quiet try_lock says
abbrev RowOf : World → ℕ → ℕ → World × Says → Type 0
RowOf w place c = Quietly w place (busy_after reason.Before place 1) (λ s. busy_after (reason.Held s) place 2) c

lock_row : (w : World) (place c : ℕ) {m : With Locked} → QuietLock w.head.buckets (flow_of w.head.next place 0) w.table w.health c m
    → PerCell w c place (RowOf w place c) (said w (after 0 0 0 m))
lock_row w place c (was_waited n) = sound_cell (λ r. absurd (n r.0)) (at_waited n)
lock_row w place c (was_held u p q r) = sound_cell (λ k. absurd (omega (arith, k.1.0))) (at_held u (p, q, r))
lock_row w place c (was_damaged u p q) =
    sound_cell (λ k. absurd (p k.1.0 k.1.1)) (at_damaged u ((λ x. p x.0 x.1), (λ x. q x.0 x.1 x.2)))
lock_row w place c (was_spent u p q r) = sound_cell (λ k. absurd (omega (arith, k.2))) (at_spent u (p, q) r)
lock_row w place c (was_free u p q r h) = sound_cell (λ _. h) (at_free u (p, q) r)
lock_row w place c (was_sick u p q r n) = sick_cell (u, (p, q), r) n

-- on a healthy header
sound_row : {w : World} {place c : ℕ} {x : World × Says} → Healthy w c → PerCell w c place (RowOf w place c) x → RowOf w place c x
sound_row h (sick_cell r n) = absurd (n h)
sound_row h (sound_cell n y) = y

pub try_lock_quiet : TryLockQuiet perform
try_lock_quiet w script place held c fine end =
    subst (PerCell w c place (RowOf w place c)) (sym (ap (λ m. m.seen) (made_so w (try_lock script place held c) fine)))
    (rw (zero-add (lock_of (given w.head script (holds_of held)) w.head.buckets (flow_of w.head.next place 0) w.table w.health c).seen.0.boundaries)
    at (lock_row w place c (lock_quiet (given w.head script (holds_of held)) w.head.buckets (flow_of w.head.next place 0) w.table w.health c end)))

-- what a key names, in words
pub data Keyed (headers buckets : ℕ) (g registry : List ℕ) (binding bucket : ℕ) : Found → Type 0 where
  no_header : headers ≤ get_or registry binding 0 → Keyed headers buckets g registry binding bucket (Err (BadHeader (get_or registry binding 0)))
  sick : get_or registry binding 0 < headers → (get_or g (get_or registry binding 0) 0 ≡ 0 → ⊥)
      → Keyed headers buckets g registry binding bucket (Err (Poisoned (get_or registry binding 0)))
  no_bucket : get_or registry binding 0 < headers → get_or g (get_or registry binding 0) 0 ≡ 0 → buckets ≤ bucket
      → Keyed headers buckets g registry binding bucket (Err (InvalidBucket bucket))
  at_cell : get_or registry binding 0 < headers → get_or g (get_or registry binding 0) 0 ≡ 0 → bucket < buckets
      → Keyed headers buckets g registry binding bucket (Ok (get_or registry binding 0 * buckets + bucket))

pub keyed : (headers buckets : ℕ) (g registry : List ℕ) (binding bucket : ℕ) → Keyed headers buckets g registry binding bucket (find_of headers buckets g registry binding bucket)
unfolding find_of
keyed headers buckets g registry binding bucket =
    if_cases P (leb headers header) (λ e. no_header (leb-true _ _ e)) (λ e.
    if_cases P (is_poisoned g header) (λ p. sick (leb-false _ _ e) (eqb-false _ _ (not-true _ p))) (λ p.
    if_cases P (leb buckets bucket) (λ b. no_bucket (leb-false _ _ e) (eqb-true _ _ (not-false _ p)) (leb-true _ _ b))
    (λ b. at_cell (leb-false _ _ e) (eqb-true _ _ (not-false _ p)) (leb-false _ _ b))))
  where
    header : ℕ
    header = get_or registry binding 0

    P : Found → Type 0
    P = Keyed headers buckets g registry binding bucket

-- the cell of a key whose header is healthy
key_healthy : (w : World) (registry : List ℕ) (binding bucket : ℕ) → get_or w.health (get_or registry binding 0) 0 ≡ 0 → bucket < w.head.buckets
    → Healthy w (cell_of w.head.buckets registry binding bucket)
key_healthy w registry binding bucket q r =
    ap (λ (i : ℕ). get_or w.health i 0) (header_of_key_lem w.head.buckets (get_or registry binding 0) bucket r) ∙ q

pub transactional_quiet : TransactionalQuiet perform
unfolding attempt_of
transactional_quiet w registry script place held binding bucket fine end =
    subst (ByKey w registry binding bucket place Row) (sym (ap (λ m. m.seen) (made_so w (transactional registry script place held binding bucket) fine)))
    (go (keyed w.head.headers w.head.buckets w.health registry binding bucket))
  where
    Row : ℕ → World × Says → Type 0
    Row = Quietly w place (busy_after reason.Before place 1) (λ s. busy_after (reason.Held s) place 2)

    go : {x : Found} → Keyed w.head.headers w.head.buckets w.health registry binding bucket x
        → ByKey w registry binding bucket place Row (said w (attempt_at x (given w.head script (holds_of held)) w.head.buckets (starting w.head place) w.table w.health).seen)
    go (no_header p) = bad_header p
    go (sick p q) = is_poisoned_lem p q
    go (no_bucket p q r) = bad_bucket p q r
    go (at_cell p q r) =
        names p q r (sound_row (key_healthy w registry binding bucket q r)
        (lock_row w place _ (lock_quiet (given w.head script (holds_of held)) w.head.buckets (flow_of w.head.next place 0) w.table w.health _ end)))

-- ---- retrying

-- an attempt that is not Busy ends the retry
module _ (e : Setting) (buckets : ℕ) (registry : List ℕ) (binding bucket : ℕ) (r : Run) (t g : List ℕ) where
  pub retry_stops : (left i : ℕ) (last : Reason) → is_busy (attempt_of e buckets registry binding bucket r t g).seen.0.outcome ≡ false
      → (retry_of (suc left) i last e buckets registry binding bucket r t g).seen ≡ (attempt_of e buckets registry binding bucket r t g).seen
  unfolding retry_of
  retry_stops left i last n = rw n

  pub attempt_as : {x : Found} → find_of e.headers buckets g registry binding bucket ≡ x
      → (attempt_of e buckets registry binding bucket r t g).seen ≡ (attempt_at x e buckets r t g).seen
  unfolding attempt_of
  attempt_as q = rw q

sixty_four : yields_in 4096 0 ≡ 64
sixty_four = omega (arith, yields_are 4096 0)

-- as `acquire_index_bucket` says it
abbrev said_at_last : World → With Tried → World × Says
said_at_last w m = said w (tried_of m.0.run (settled m.0.outcome), m.1)

module _ (w : World) (registry script : List ℕ) (place : ℕ) (held : List ℕ) (binding bucket : ℕ) (end : steps_in script ≤ place) where
  abbrev around : Setting
  around = given w.head script (holds_of held)

  abbrev from : Flow
  from = flow_of w.head.next place 0

  abbrev found_is : Found
  found_is = find_of w.head.headers w.head.buckets w.health registry binding bucket

  abbrev retried : With Tried
  retried = (retry_of 4096 0 none_yet around w.head.buckets registry binding bucket (run_of from 0 0 0) w.table w.health).seen

  abbrev Row : ℕ → World × Says → Type 0
  Row = Quietly w place (failed_after reason.Before place 8256) (λ s. failed_after (reason.Held s) place 12352)

  abbrev Fits : With Tried → Type 0
  Fits m = ByKey w registry binding bucket place Row (said_at_last w m)

  stop : {x : Found} → found_is ≡ x → is_busy (attempt_at x around w.head.buckets (run_of from 0 0 0) w.table w.health).seen.0.outcome ≡ false
      → Fits (attempt_at x around w.head.buckets (run_of from 0 0 0) w.table w.health).seen → Fits retried
  stop {x} q n y =
      let k = attempt_as around w.head.buckets registry binding bucket (run_of from 0 0 0) w.table w.health q in
      subst Fits (sym (retry_stops around w.head.buckets registry binding bucket (run_of from 0 0 0) w.table w.health 4095 0 none_yet (rw k n) ∙ k)) y

  module _ (c : ℕ) (q : found_is ≡ Ok c) where
    -- Busy again and again for one reason, with b boundaries each
    again : (b : ℕ) (why : Reason) → (lock_of around w.head.buckets from w.table w.health c).seen ≡ (locked_of from b (outcome.Busy why), (w.table, w.health))
        → Fits (tried_of (run_of from 4096 (4096 * (b + 1) + 64) 64) (outcome.Busy why), (w.table, w.health)) → Fits retried
    again b why l y =
        subst Fits (sym (ap (λ m. m.seen) (retry_first 4095 0 none_yet why around w.head.buckets registry binding bucket (run_of from 0 0 0) w.table w.health)
        ∙ busy_retry around from w.table w.health end w.head.buckets registry binding bucket b why
        (λ a x y. attempt_as around w.head.buckets registry binding bucket (run_of from a x y) w.table w.health q ∙ rw l) 4096 0 0 0 0)) (rw (sixty_four, zero-add (4096 * (b + 1))) y)

    row : {m : With Locked} → Healthy w c → QuietLock w.head.buckets from w.table w.health c m → (lock_of around w.head.buckets from w.table w.health c).seen ≡ m
        → ((x : World × Says) → Row c x → ByKey w registry binding bucket place Row x) → Fits retried
    row h (was_waited n) l name = again 1 reason.Before l (name _ (at_waited n))
    row h (was_held u x y z) l name = again 2 _ l (name _ (at_held u (x, y, z)))
    row h (was_damaged u x y) l name =
        stop q (rw l) (rw l (name _ (at_damaged u ((λ z. x z.0 z.1), (λ z. y z.0 z.1 z.2)))))
    row h (was_spent u x y z) l name = stop q (rw l) (rw l (name _ (at_spent u (x, y) z)))
    row h (was_free u x y z _) l name = stop q (rw l) (rw l (name _ (at_free u (x, y) z)))
    row h (was_sick u x y z n) l name = absurd (n h)

  all_rows : {x : Found} → Keyed w.head.headers w.head.buckets w.health registry binding bucket x → found_is ≡ x → Fits retried
  all_rows (no_header p) q = stop q refl (bad_header p)
  all_rows (sick p r) q = stop q refl (is_poisoned_lem p r)
  all_rows (no_bucket p r b) q = stop q refl (bad_bucket p r b)
  all_rows (at_cell p r b) q =
      row _ q (key_healthy w registry binding bucket r b) (lock_quiet around w.head.buckets from w.table w.health _ end) refl (λ x y. names p r b y)

pub acquire_bucket_quiet : AcquireBucketQuiet perform
acquire_bucket_quiet w registry script place held binding bucket fine end =
    subst (ByKey w registry binding bucket place (Row w registry script place held binding bucket end)) (sym (ap (λ m. m.seen) (made_so w (acquire_bucket registry script place held binding bucket) fine)))
    (all_rows w registry script place held binding bucket end (keyed w.head.headers w.head.buckets w.health registry binding bucket) refl)

-- the answers of a Busy row are Busy, or 11
data Late : Answer → Type 0 where
  at_once : (why : Reason) → Late (Busy why)
  at_last : (why : Reason) → Late (Refused (SerializationFailure why))

late_granted : {a : Answer} {l : Lease} → Late a → a ≡ Granted l → ⊥
late_granted (at_once why) e = let z : ◌≡◌ {A = ℕ} 0 1 = cc in omega arith
late_granted (at_last why) e = let z : ◌≡◌ {A = ℕ} 0 1 = cc in omega arith

late_damaged : {a : Answer} {d : ℕ} → Late a → a ≡ Refused (Damaged d) → ⊥
late_damaged (at_once why) e = let z : ◌≡◌ {A = ℕ} 0 1 = cc in omega arith
late_damaged (at_last why) e = let z : ◌≡◌ {A = ℕ} 0 1 = cc in omega arith

late_spent : {a : Answer} {d : ℕ} → Late a → a ≡ Refused (SerialsSpent d) → ⊥
late_spent (at_once why) e = let z : ◌≡◌ {A = ℕ} 0 1 = cc in omega arith
late_spent (at_last why) e = let z : ◌≡◌ {A = ℕ} 0 1 = cc in omega arith

-- the three reasons differ
apart_held : {s : ℕ} → reason.Before ≡ reason.Held s → ⊥
apart_held e = let z : ◌≡◌ {A = ℕ} 0 1 = cc in omega arith

apart_before : {s : ℕ} → reason.Before ≡ reason.After s → ⊥
apart_before e = let z : ◌≡◌ {A = ℕ} 0 1 = cc in omega arith

apart_after : {s o : ℕ} → reason.Held s ≡ reason.After o → ⊥
apart_after e = let z : ◌≡◌ {A = ℕ} 0 1 = cc in omega arith

-- what is said for a reason is late, and tells which reason
record Tells (busy : Reason → Answer) : Type 0 where
  pub late : (why : Reason) → Late (busy why)
  pub tells : (a b : Reason) → busy a ≡ busy b → a ≡ b

module _ {w : World} {place : ℕ} {waiting : Says} {holding : ℕ → Says} {c : ℕ} where
  -- the table says it exactly
  exactly : {x : World × Says} (busy : Reason → Answer) → Tells busy → waiting.answer ≡ busy reason.Before → ((s : ℕ) → (holding s).answer ≡ busy (reason.Held s))
      → Quietly w place waiting holding c x → LocksExactly w c (Ready w c) busy x.1.answer
  exactly busy l p q (at_waited n) =
      record {
        granted = λ k. (λ e. absurd (late_granted (l.late reason.Before) (sym p ∙ e)), λ r. absurd (n r.0.0));
        waited = (λ _. n, λ _. p);
        held = λ s. (λ e. let z = l.tells reason.Before (reason.Held s) (sym p ∙ e) in absurd (apart_held z), λ r. absurd (n r.0));
        not_after = λ s e. apart_before (l.tells reason.Before (reason.After s) (sym p ∙ e));
        damaged = (λ e. absurd (late_damaged (l.late reason.Before) (sym p ∙ e)), λ r. absurd (n r.0));
        spent = (λ e. absurd (late_spent (l.late reason.Before) (sym p ∙ e)), λ r. absurd (n r.0));
      }
  exactly busy l p q (at_held u h) =
      let o = owner_at w.table c in
      let late = l.late (reason.Held o) in
      record {
        granted = λ k. (λ e. absurd (late_granted late (sym (q o) ∙ e)), λ r. absurd (omega (arith, h.0, r.0.1.0)));
        waited = (λ e. let z = l.tells (reason.Held o) reason.Before (sym (q o) ∙ e) in absurd (apart_held (sym z)), λ n. absurd (n u));
        held = λ s. (λ e. let z = l.tells (reason.Held o) (reason.Held s) (sym (q o) ∙ e) in (u, h, cc), λ r. q o ∙ ap (λ (y : ℕ). busy (reason.Held y)) (sym r.2));
        not_after = λ s e. apart_after (l.tells (reason.Held o) (reason.After s) (sym (q o) ∙ e));
        damaged = (λ e. absurd (late_damaged late (sym (q o) ∙ e)), λ r. absurd (r.1.1 h));
        spent = (λ e. absurd (late_spent late (sym (q o) ∙ e)), λ r. absurd (omega (arith, h.0, r.1.0)));
      }
  exactly busy l p q (at_damaged u d) =
      record {
        granted = λ k. (λ e. let z : ◌≡◌ {A = ℕ} 0 1 = cc in absurd (omega arith), λ r. absurd (d.0 r.0.1));
        waited = (λ e. absurd (late_damaged (l.late reason.Before) (sym e)), λ n. absurd (n u));
        held = λ s. (λ e. absurd (late_damaged (l.late (reason.Held s)) (sym e)), λ r. absurd (d.1 r.1));
        not_after = λ s e. late_damaged (l.late (reason.After s)) (sym e);
        damaged = (λ e. (u, d), λ _. refl);
        spent = (λ e. let z : ◌≡◌ {A = ℕ} 0 1 = cc in absurd (omega arith), λ r. absurd (d.0 r.1));
      }
  exactly busy l p q (at_spent u f r) =
      record {
        granted = λ k. (λ e. let z : ◌≡◌ {A = ℕ} 0 1 = cc in absurd (omega arith), λ s. absurd (omega (arith, s.0.2)));
        waited = (λ e. absurd (late_spent (l.late reason.Before) (sym e)), λ n. absurd (n u));
        held = λ s. (λ e. absurd (late_spent (l.late (reason.Held s)) (sym e)), λ k. absurd (omega (arith, f.0, k.1.0)));
        not_after = λ s e. late_spent (l.late (reason.After s)) (sym e);
        damaged = (λ e. let z : ◌≡◌ {A = ℕ} 0 1 = cc in absurd (omega arith), λ s. absurd (s.1.0 f));
        spent = (λ e. (u, f, r), λ _. refl);
      }
  exactly busy l p q (at_free u f r) =
      record {
        granted = λ k. (λ e. ((u, f, r), cc), λ s. ap (λ (y : Lease). Granted y) (sym s.1));
        waited = (λ e. absurd (late_granted (l.late reason.Before) (sym e)), λ n. absurd (n u));
        held = λ s. (λ e. absurd (late_granted (l.late (reason.Held s)) (sym e)), λ k. absurd (omega (arith, f.0, k.1.0)));
        not_after = λ s e. late_granted (l.late (reason.After s)) (sym e);
        damaged = (λ e. let z : ◌≡◌ {A = ℕ} 0 1 = cc in absurd (omega arith), λ s. absurd (s.1.0 f));
        spent = (λ e. let z : ◌≡◌ {A = ℕ} 0 1 = cc in absurd (omega arith), λ s. absurd (omega (arith, s.2)));
      }

tells_busy : Tells (λ why. Busy why)
tells_busy = record { late = λ why. at_once why; tells = λ a b e. cc }

tells_failed : Tells (λ why. Refused (SerializationFailure why))
tells_failed = record { late = λ why. at_last why; tells = λ a b e. cc }

-- a key that names a cell has that cell's row
pub named_row : {w : World} {registry : List ℕ} {binding bucket place : ℕ} {Row : ℕ → World × Says → Type 0} {x : World × Says}
    → Names w registry binding bucket → ByKey w registry binding bucket place Row x → Row (cell_of w.head.buckets registry binding bucket) x
named_row n (bad_header p) = absurd (omega (arith, n.0))
named_row n (is_poisoned_lem p q) = absurd (q n.1)
named_row n (bad_bucket p q r) = absurd (omega (arith, n.2))
named_row n (names p q r y) = y

-- 7 is in no row of the cell's table
late_poisoned : {a : Answer} {d : ℕ} → Late a → a ≡ Refused (Poisoned d) → ⊥
late_poisoned (at_once why) e = let z : ◌≡◌ {A = ℕ} 0 1 = cc in omega arith
late_poisoned (at_last why) e = let z : ◌≡◌ {A = ℕ} 0 1 = cc in omega arith

never_7 : {w : World} {place : ℕ} {waiting : Says} {holding : ℕ → Says} {c header : ℕ} {x : World × Says} → Late waiting.answer → ((s : ℕ) → Late (holding s).answer)
    → Quietly w place waiting holding c x → x.1.answer ≡ Refused (Poisoned header) → ⊥
never_7 l k (at_waited n) e = late_poisoned l e
never_7 {w = w} {c = c} l k (at_held u h) e = late_poisoned (k (owner_at w.table c)) e
never_7 l k (at_damaged u d) e = let z : ◌≡◌ {A = ℕ} 0 1 = cc in omega arith
never_7 l k (at_spent u f r) e = let z : ◌≡◌ {A = ℕ} 0 1 = cc in omega arith
never_7 l k (at_free u f r) e = let z : ◌≡◌ {A = ℕ} 0 1 = cc in omega arith

module _ {w : World} {place c : ℕ} where
  cell_exactly : {x : World × Says} → PerCell w c place (RowOf w place c) x
      → LocksExactly w c (Ready w c × Healthy w c) (λ why. Busy why) x.1.answer
      × ((header : ℕ) → (x.1.answer ≡ Refused (Poisoned header)) ↔ (Ready w c × (Healthy w c → ⊥) × (header ≡ header_of w.head.buckets c)))
  cell_exactly (sick_cell r n) = (
    record {
      granted = λ k. (λ e. let z : ◌≡◌ {A = ℕ} 0 1 = cc in absurd (omega arith), λ s. absurd (n s.0.1));
      waited = (λ e. let z : ◌≡◌ {A = ℕ} 0 1 = cc in absurd (omega arith), λ s. absurd (s r.0));
      held = λ o. (λ e. let z : ◌≡◌ {A = ℕ} 0 1 = cc in absurd (omega arith), λ s. absurd (omega (arith, r.1.0, s.1.0)));
      not_after = λ o e. let z : ◌≡◌ {A = ℕ} 0 1 = cc in omega arith;
      damaged = (λ e. let z : ◌≡◌ {A = ℕ} 0 1 = cc in absurd (omega arith), λ s. absurd (s.1.0 r.1));
      spent = (λ e. let z : ◌≡◌ {A = ℕ} 0 1 = cc in absurd (omega arith), λ s. absurd (omega (arith, r.2, s.2)));
    },
    λ header. (λ e. (r, n, cc), λ s. ap (λ (i : ℕ). Refused (Poisoned i)) (sym s.2)),
  )
  cell_exactly (sound_cell n y) =
      let k = exactly (λ why. Busy why) tells_busy refl (λ s. refl) y in (
        record {
          granted = λ l. (λ e. let z = (k.granted l).0 e in ((z.0, n z.0), z.1), λ s. (k.granted l).1 (s.0.0, s.1));
          waited = k.waited;
          held = k.held;
          not_after = k.not_after;
          damaged = k.damaged;
          spent = k.spent;
        },
        λ header. (λ e. absurd (never_7 (at_once reason.Before) (λ s. at_once (reason.Held s)) y e), λ s. absurd (s.1 (n s.0))),
      )

pub try_lock_exactly : TryLockExactly perform
try_lock_exactly w script place held c fine end = cell_exactly (try_lock_quiet w script place held c fine end)

pub acquire_bucket_exactly : AcquireBucketExactly perform
acquire_bucket_exactly w registry script place held binding bucket fine end n =
    exactly (λ why. Refused (SerializationFailure why)) tells_failed refl (λ s. refl) (named_row n (acquire_bucket_quiet w registry script place held binding bucket fine end))
