-- 000 and 001: `transactional_try_lock_bucket`, `acquire_index_bucket`, and `poisoned` and `yield_now` in them.
use Rattle.std.specs.Prelude.{ℕ, suc, ◌≤◌, ◌<◌, ◌≡◌, false, length, get_or, Ok, Err}
use Rattle.std.proofs.Math.Path.{ap}
use Rattle.std.proofs.Common.{◌∙◌, arith, le-leb}
use mathlib.Core.List.{List, [], ◌∷◌}
use Rattle.std.proofs.lemmas.Bool.{not-false}
use Rattle.types.specs.Checks.{Found}
use Rattle.model.specs.Arena.{hold_in, holds_of}
use Rattle.model.specs.Answers.{kind_of}
use Rattle.model.specs.Refusals.{Rule, first}
use Rattle.model.specs.Checks.{bad_shape, bad_health, bad_registry, bad_script, bad_held, bad_held_length, bad_binding, bucket_rules}
use Rattle.model.specs.Foreign.{Setting}
use Rattle.model.specs.Lock.{find_of, answer_of, settled, attempt_at, attempt_of, attempt_limit, none_yet, retry_of}
use Rattle.model.specs.Calls.{given, starting}
use Rattle.types.specs.declared.Answer.TheVariants.{Granted, Refused}
use Rattle.types.specs.declared.Counts.{Counts}
use Rattle.types.specs.declared.Hold.{Hold}
use Rattle.types.specs.declared.Lease.{Lease}
use Rattle.types.specs.declared.Outcome.{Outcome}
use Rattle.types.specs.declared.Outcome.TheVariants as outcome
use Rattle.types.specs.declared.Refusal.{Refusal}
use Rattle.types.specs.declared.Refusal.TheVariants.{BadHeld, BadBinding, BadHeader, Damaged}
use Rattle.types.specs.declared.Run.{Run}
use Rattle.laws.specs.Keys.{place_inside}
use Rattle.history.specs.Judged.{refused_so}
use Rattle.history.specs.World.{yields, number_of_lem}
use Rattle.history.specs.Items.{Call, transactional, acquire_bucket, unchanged, perform, Clear, rules}
use Rattle.history.specs.Statements.{answers, leaves, log_of}
use Rattle.history.proofs.Theorems.{counts_are}
use Rattle.upstream.specs.Vocabulary.{Key, Authority, lease_key, dom, contains_key, valid, authorized, held_ids, leases_authorized, key_of, physical, guards_place}
use Rattle.upstream.specs.Premises.{KeyFound, SwapDamaged, keeps_valid, FirstBad}
use Rattle.upstream.proofs.Protocol.{trace_valid, trace_valid_at, trace_keeps, trace_buries}
use Rattle.upstream.proofs.Bridge.{by_name, by_place, fits_sized, first_after, by_checks}
use Rattle.upstream.proofs.Refusing.{held_refused}
use Rattle.upstream.proofs.TryAcquire.{fine_fault}
use Rattle.upstream.specs.Keys.{answer_granted, settled_granted, GrantedAt, attempt_key, retry_key}
use Rattle.upstream.specs.Resolve.{find_6, find_at}
use Rattle.upstream.proofs.Scripts.{Ready, attempt_goes, retry_goes}
use Rattle.upstream.specs.Environment.{Went}
use Rattle.upstream.proofs.Environment.{unmoved, held_live}
use Rattle.upstream.proofs.TryLock.{lock_damaged}

-- ---- the calls

module _ (w : Authority) (registry script : List ℕ) (place : ℕ) (held : List ℕ) (binding bucket : ℕ) where
  abbrev one : Call
  one = transactional registry script place held binding bucket

  abbrev many : Call
  many = acquire_bucket registry script place held binding bucket

  -- the checks before the one on the binding
  abbrev Before : List Rule
  Before = bad_shape w.head w.table ∷ bad_health w.head w.health ∷ bad_registry registry ∷ bad_script script place ∷ bad_held w.head w.table held

  abbrev Checked : Type 0
  Checked = first (rules w one) ≡ Ok tt

  abbrev setting : Setting
  setting = given w.head script (holds_of held)

  abbrev begun : Run
  begun = starting w.head place

  -- the header in the registry, and what the key comes to
  abbrev header₁ : ℕ
  header₁ = get_or registry binding 0

  abbrev find₁ : Found
  find₁ = find_of w.head.headers w.head.buckets w.health registry binding bucket

  begins : Clear (rules w one) → Ready (held_ids (holds_of held)) w
  unfolding bucket_rules
  begins k = record { sized = fits_sized w (not-false _ k.0); safe = held_live w held _ k.1.1.1.1 }

  -- what is granted is authorized
  one_went : Went w (holds_of held) (answers w one) (leaves w one)
  one_went =
      by_checks (λ m. Went w (holds_of held) m.seen.1.answer m.seen.0) w one (λ r e. unmoved r)
      (λ e k.
      let m = attempt_goes w.head script (holds_of held) registry binding bucket begun w.table w.health (begins k) in
      record { trace = m.goes.trace; gain = λ l e. m.gain (hold_in l) (answer_granted _ _ l e) })

  many_went : Went w (holds_of held) (answers w many) (leaves w many)
  many_went =
      by_checks (λ m. Went w (holds_of held) m.seen.1.answer m.seen.0) w many (λ r e. unmoved r)
      (λ e k.
      let m = retry_goes w.head script attempt_limit 0 none_yet (holds_of held) registry binding bucket begun w.table w.health (begins k) in
      record { trace = m.goes.trace; gain = λ l e. m.gain (hold_in l) (settled_granted _ _ l e) })

  -- and is on the key's cell, whatever the table holds
  abbrev OfKey : Hold → Type 0
  OfKey = GrantedAt w.head.headers w.head.buckets registry binding bucket

  one_key : (l : Lease) → answers w one ≡ Granted l → OfKey (hold_in l)
  one_key l =
      by_checks (λ m. m.seen.1.answer ≡ Granted l → OfKey (hold_in l)) w one (λ r e q. absurd (omega (arith, ap kind_of q)))
      (λ e k q. attempt_key setting w.head.buckets registry binding bucket begun w.table w.health (hold_in l) (answer_granted _ _ l q))

  many_key : (l : Lease) → answers w many ≡ Granted l → OfKey (hold_in l)
  many_key l =
      by_checks (λ m. m.seen.1.answer ≡ Granted l → OfKey (hold_in l)) w many (λ r e q. absurd (omega (arith, ap kind_of q)))
      (λ e k q. retry_key setting w.head.buckets registry binding bucket attempt_limit 0 none_yet begun w.table w.health (hold_in l) (settled_granted _ _ l q))

  inside_arena : (l : Hold) → OfKey l → contains_key w (lease_key l)
  inside_arena l k = rw k.cell_is (place_inside w.head.headers w.head.buckets header₁ bucket k.header_inside k.bucket_inside)

  -- ---- an attempt that comes to a refusal; "A refusal ends it at once"

  abbrev attempted : Outcome
  attempted = (attempt_of setting w.head.buckets registry binding bucket begun w.table w.health).seen.0.outcome

  at_once : (left : ℕ) (x : Refusal) → attempted ≡ outcome.Refused x
      → (retry_of (suc left) 0 none_yet setting w.head.buckets registry binding bucket begun w.table w.health).seen.0.outcome ≡ outcome.Refused x
  unfolding retry_of
  at_once left x e = rw e e

  one_refused : Checked → (x : Refusal) → attempted ≡ outcome.Refused x → answers w one ≡ Refused x
  one_refused f x a =
      by_checks (λ m. m.seen.1.answer ≡ Refused x) w one (λ r e. absurd (fine_fault f e)) (λ e k. ap (answer_of w.head.boot) a)

  many_refused : Checked → (x : Refusal) → attempted ≡ outcome.Refused x → answers w many ≡ Refused x
  many_refused f x a =
      by_checks (λ m. m.seen.1.answer ≡ Refused x) w many (λ r e. absurd (fine_fault f e)) (λ e k. ap (λ (o : Outcome). answer_of w.head.boot (settled o)) (at_once 4095 x a))

  bad_key : (x : Refusal) → find₁ ≡ Err x → attempted ≡ outcome.Refused x
  unfolding attempt_of
  bad_key x e = ap (λ (f : Found). (attempt_at f setting w.head.buckets begun w.table w.health).seen.0.outcome) e

  damaged_key : (c : Key) → find₁ ≡ Ok c → SwapDamaged w script place held c → attempted ≡ outcome.Refused (Damaged c)
  unfolding attempt_of
  damaged_key c e d =
      ap (λ (f : Found). (attempt_at f setting w.head.buckets begun w.table w.health).seen.0.outcome) e
      ∙ (lock_damaged setting w.head.buckets begun.flow w.table w.health c d.0 d.1).0

  -- ---- `transactional_try_lock_bucket`

  -- valid(old(authority)): 9
  pub transactional_try_lock_bucket_r1 : Checked → KeyFound w registry binding bucket → SwapDamaged w script place held (key_of w header₁ bucket)
      → answers w one ≡ Refused (Damaged (key_of w header₁ bucket))
  transactional_try_lock_bucket_r1 f e d = one_refused f (Damaged (key_of w header₁ bucket)) (damaged_key (key_of w header₁ bucket) (find_at w registry binding bucket e) d)

  past : length registry ≤ binding → Clear Before → first (rules w one) ≡ Err (BadBinding 0)
  unfolding bucket_rules
  past l k = first_after Before (bad_binding registry 0 binding) [] k (le-leb (length registry) binding l)

  -- binding < driver.registry().len(): 5, position 0
  pub transactional_try_lock_bucket_r2 : Clear Before → length registry ≤ binding → perform w one ≡ unchanged w one (BadBinding 0)
  transactional_try_lock_bucket_r2 k l = refused_so w one (BadBinding 0) (past l k)

  -- the checks before those on the held list
  abbrev BeforeHeld : List Rule
  BeforeHeld = bad_shape w.head w.table ∷ bad_health w.head w.health ∷ bad_registry registry ∷ bad_script script place ∷ []

  unheld : (i : ℕ) → Clear BeforeHeld → (bad_held_length held).applies ≡ false → FirstBad w held i → first (rules w one) ≡ Err (BadHeld i)
  unfolding bucket_rules
  unheld i k b f = held_refused BeforeHeld w held i _ k b f

  -- leases_authorized(old(authority), held@): 3, with the first position
  pub transactional_try_lock_bucket_r3 : (i : ℕ) → Clear BeforeHeld → (bad_held_length held).applies ≡ false → FirstBad w held i → perform w one ≡ unchanged w one (BadHeld i)
  transactional_try_lock_bucket_r3 i k b f = refused_so w one (BadHeld i) (unheld i k b f)

  -- physical_domain(driver, old(authority)): 6 with the header, where the key's header is not in the arena
  pub transactional_try_lock_bucket_r4 : Checked → w.head.headers ≤ header₁ → answers w one ≡ Refused (BadHeader header₁)
  transactional_try_lock_bucket_r4 f l = one_refused f (BadHeader header₁) (bad_key (BadHeader header₁) ((find_6 w registry binding bucket).1 l))

  pub transactional_try_lock_bucket_e1 : keeps_valid w (leaves w one)
  transactional_try_lock_bucket_e1 = trace_valid_at one_went.trace

  pub transactional_try_lock_bucket_e2 : leases_authorized w (holds_of held) → leases_authorized (leaves w one) (holds_of held)
  transactional_try_lock_bucket_e2 p = by_place (leaves w one) (holds_of held) (trace_keeps one_went.trace (by_name w (holds_of held) p))

  pub transactional_try_lock_bucket_e3 : dom (leaves w one) ≡ dom w
  transactional_try_lock_bucket_e3 = (trace_buries one_went.trace).same_keys

  pub transactional_try_lock_bucket_e4 : (l : Lease) → answers w one ≡ Granted l → authorized (leaves w one) (hold_in l)
  transactional_try_lock_bucket_e4 l e = one_went.gain l e

  pub transactional_try_lock_bucket_e5 : (l : Lease) → answers w one ≡ Granted l → (lease_key (hold_in l) ≡ key_of w header₁ bucket) × (bucket < w.head.buckets)
  transactional_try_lock_bucket_e5 l e = ((one_key l e).cell_is, (one_key l e).bucket_inside)

  -- ---- `acquire_index_bucket`

  pub acquire_index_bucket_r1 : Checked → KeyFound w registry binding bucket → SwapDamaged w script place held (key_of w header₁ bucket)
      → answers w many ≡ Refused (Damaged (key_of w header₁ bucket))
  acquire_index_bucket_r1 f e d = many_refused f (Damaged (key_of w header₁ bucket)) (damaged_key (key_of w header₁ bucket) (find_at w registry binding bucket e) d)

  pub acquire_index_bucket_r2 : Clear Before → length registry ≤ binding → perform w many ≡ unchanged w many (BadBinding 0)
  acquire_index_bucket_r2 k l = refused_so w many (BadBinding 0) (past l k)

  pub acquire_index_bucket_r3 : (i : ℕ) → Clear BeforeHeld → (bad_held_length held).applies ≡ false → FirstBad w held i → perform w many ≡ unchanged w many (BadHeld i)
  acquire_index_bucket_r3 i k b f = refused_so w many (BadHeld i) (unheld i k b f)

  pub acquire_index_bucket_r4 : Checked → w.head.headers ≤ header₁ → answers w many ≡ Refused (BadHeader header₁)
  acquire_index_bucket_r4 f l = many_refused f (BadHeader header₁) (bad_key (BadHeader header₁) ((find_6 w registry binding bucket).1 l))

  pub acquire_index_bucket_valid : valid w → valid (leaves w many)
  acquire_index_bucket_valid v = trace_valid many_went.trace v

  pub acquire_index_bucket_e1 : keeps_valid w (leaves w many)
  acquire_index_bucket_e1 = trace_valid_at many_went.trace

  pub acquire_index_bucket_e2 : leases_authorized w (holds_of held) → leases_authorized (leaves w many) (holds_of held)
  acquire_index_bucket_e2 p = by_place (leaves w many) (holds_of held) (trace_keeps many_went.trace (by_name w (holds_of held) p))

  pub acquire_index_bucket_e3 : dom (leaves w many) ≡ dom w
  acquire_index_bucket_e3 = (trace_buries many_went.trace).same_keys

  pub acquire_index_bucket_e4 : (l : Lease) → answers w many ≡ Granted l → authorized (leaves w many) (hold_in l)
  acquire_index_bucket_e4 l e = many_went.gain l e

  pub acquire_index_bucket_e5 : (l : Lease) → answers w many ≡ Granted l → (lease_key (hold_in l) ≡ key_of w header₁ bucket) × (bucket < w.head.buckets)
  acquire_index_bucket_e5 l e = ((many_key l e).cell_is, (many_key l e).bucket_inside)

  -- driver.yield_now(): a yield is an event of the log, and the reply counts them
  pub yield_now_n1 : (perform w many).seen.1.counts.yields ≡ number_of_lem yields (log_of w many)
  yield_now_n1 = ap (λ (k : Counts). k.yields) (counts_are w many (λ z. z))

  -- ---- the same calls in 001, which asks nothing of the table

  -- physical == physical(driver.registry(), (binding, bucket))
  pub guards_transactional_e1 : (l : Lease) → answers w one ≡ Granted l → guards_place w.head.buckets (hold_in l) (physical registry (binding, bucket))
  guards_transactional_e1 l e = let k = one_key l e in (k.cell_is, k.bucket_inside)

  -- arena == driver.arena(): the cell is in the arena
  pub guards_transactional_e2 : (l : Lease) → answers w one ≡ Granted l → contains_key w (lease_key (hold_in l))
  guards_transactional_e2 l e = inside_arena (hold_in l) (one_key l e)

  -- bucket < driver.bucket_count()
  pub guards_transactional_e3 : (l : Lease) → answers w one ≡ Granted l → bucket < w.head.buckets
  guards_transactional_e3 l e = (one_key l e).bucket_inside

  pub guards_acquire_bucket_e1 : (l : Lease) → answers w many ≡ Granted l → guards_place w.head.buckets (hold_in l) (physical registry (binding, bucket))
  guards_acquire_bucket_e1 l e = let k = many_key l e in (k.cell_is, k.bucket_inside)

  pub guards_acquire_bucket_e2 : (l : Lease) → answers w many ≡ Granted l → contains_key w (lease_key (hold_in l))
  guards_acquire_bucket_e2 l e = inside_arena (hold_in l) (many_key l e)

  pub guards_acquire_bucket_e3 : (l : Lease) → answers w many ≡ Granted l → bucket < w.head.buckets
  guards_acquire_bucket_e3 l e = (many_key l e).bucket_inside
